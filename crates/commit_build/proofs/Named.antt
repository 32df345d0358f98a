-- Each object of a tree has its name.
use Rattle.std.proofs.Common.{◌≡◌, ℕ, refl, subst, List, [], ◌∷◌, Option, Some, None}
use Rattle.std.specs.Prelude.{All}
use Rattle.std.proofs.lemmas.List.Elements.{All-nil, All-cons, All-append, All-get_or}
use Rattle.ost_types.specs.declared.meta.Meta.{Meta}
use Rattle.ost_types.specs.Path.{Path}
use Rattle.ost_types.specs.declared.object.Kind.TheVariants as kinds
use Rattle.ost_forms.specs.declared.tree_item.BodySpec.{BodySpec}
use Rattle.ost_forms.specs.declared.tree_item.TreeItem.{TreeItem}
use Rattle.ost_objects.specs.Object.{IsNamed}
use Rattle.repo_layout.specs.RefFile.{IsSum}
use Rattle.repo_model.proofs.Named.{IsSum-named}
use Rattle.tree_build.specs.Objects.{Object, Made, made, objects_by, work, tree_object, meta_object, file_object, tree_bytes, meta_bytes, file_bytes}
use Rattle.tree_build.specs.Building.{IsNumber}

abbrev HasName : Object → Type 0
HasName o = IsNamed o.name o.bytes

of_item : (ms : List Made) (p : Path) (meta : Meta) (body : Option BodySpec) → All HasName (objects_by ms p meta body)
of_item ms p meta None = All-cons HasName (tree_object (tree_bytes ms p)) (meta_object (meta_bytes meta) ∷ []) refl (All-cons HasName (meta_object (meta_bytes meta)) [] refl (All-nil HasName))
of_item ms p meta (Some b) = All-cons HasName (file_object (file_bytes meta b)) [] refl (All-nil HasName)

of_items : (items : List TreeItem) → All HasName (work items)
unfolding work
of_items [] = All-nil HasName
of_items (i ∷ items) = All-append HasName (work items) (objects_by (made items) i.path i.meta i.body) (of_items items) (of_item (made items) i.path i.meta i.body)

pub work_named : (items : List TreeItem) (n : ℕ) (o : Object) → IsNumber (work items) n o → IsNamed o.name o.bytes
work_named items n o number = subst HasName number.1 (All-get_or HasName (work items) n o number.0 (of_items items))

pub work_sum : (items : List TreeItem) (n : ℕ) (o : Object) → IsNumber (work items) n o → IsSum o.name.csum
work_sum items n o number = IsSum-named o.name o.bytes (work_named items n o number)

-- and none is a commit
abbrev IsPlain : Object → Type 0
IsPlain o = o.name.kind ≡ kinds.Commit → ⊥

not_tree : kinds.DirTree ≡ kinds.Commit → ⊥
not_tree e = cc

not_meta : kinds.DirMeta ≡ kinds.Commit → ⊥
not_meta e = cc

not_file : kinds.File ≡ kinds.Commit → ⊥
not_file e = cc

plain_item : (ms : List Made) (p : Path) (meta : Meta) (body : Option BodySpec) → All IsPlain (objects_by ms p meta body)
plain_item ms p meta None = All-cons IsPlain (tree_object (tree_bytes ms p)) (meta_object (meta_bytes meta) ∷ []) not_tree (All-cons IsPlain (meta_object (meta_bytes meta)) [] not_meta (All-nil IsPlain))
plain_item ms p meta (Some b) = All-cons IsPlain (file_object (file_bytes meta b)) [] not_file (All-nil IsPlain)

plain_items : (items : List TreeItem) → All IsPlain (work items)
unfolding work
plain_items [] = All-nil IsPlain
plain_items (i ∷ items) = All-append IsPlain (work items) (objects_by (made items) i.path i.meta i.body) (plain_items items) (plain_item (made items) i.path i.meta i.body)

pub work_plain : (items : List TreeItem) (n : ℕ) (o : Object) → IsNumber (work items) n o → IsPlain o
work_plain items n o number = subst IsPlain number.1 (All-get_or IsPlain (work items) n o number.0 (plain_items items))
