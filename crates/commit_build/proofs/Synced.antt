-- What syncs make of what is known.
use Rattle.std.proofs.Common.{◌≡◌, ◌≢◌, ℕ, Bool, true, false, refl, sym, ◌∙◌, ap, subst, List, [], ◌∷◌, ◌++◌, Option, None}
use Rattle.std.specs.Prelude.{◌&&◌, codes, drop}
use Rattle.ost_types.specs.Csum.{hex_of}
use Rattle.ost_types.specs.declared.object.ObjName.{ObjName}
use Rattle.ost_types.specs.Path.{Path, under, is_below, same_name}
use Rattle.ost_types.proofs.Paths.{same_name-Decides}
use Rattle.fs_trait.specs.declared.types.Value.{Value}
use Rattle.fs_trait.specs.declared.types.Value.TheVariants.{Absent, Folder, Link, File}
use Rattle.fs_trait.specs.declared.types.Node.{Node}
use Rattle.fs_trait.specs.View.{Disk, View, all_synced, folder_synced, named}
use Rattle.fs_trait.specs.Image.{IsTree, is_folder}
use Rattle.fs_trait.specs.Effect.{IsNode}
use Rattle.fs_trait.specs.Seen.{Seen, seen, MayShow, MayBe, IsDirectory}
use Rattle.fs_trait.proofs.Effects.{all_synced-firm, folder_synced-firm, shows_named}
use Rattle.fs_trait.proofs.Facts.{vacant_absent}
use Rattle.fs_trait.proofs.Ways.{folder_of, above}
use Rattle.repo_layout.specs.Paths.{folder_path, objects_folder_path, object_path, mark_path, ending}
use Rattle.repo_layout.specs.declared.folder.Folder.TheVariants.{State}
use Rattle.repo_model.specs.Objects.{path_of}
use Rattle.commit_build.specs.Steps.{IsThere, IsSure, NotLeaf, IsUnmarked, NeverMarked, is_leaf_node}

and_both : (a b : Bool) → (a && b) ≡ true → (a ≡ true) × (b ≡ true)
and_both true b e = (refl, e)
and_both false b e = let n : false ≡ true = e in cc

below_rest : (p q : Path) → is_below p q ≡ true → (rest : Path) × (p ++ rest ≡ q)
unfolding is_below
below_rest [] q e = (q, refl)
below_rest (a ∷ p) [] e = let n : false ≡ true = e in cc
below_rest (a ∷ p) (b ∷ q) e =
    let both = and_both (same_name a b) (is_below p q) e in
    let same : a ≡ b = (same_name-Decides a b).0 both.0 in
    let more = below_rest p q both.1 in
    (more.0, ap (λ x. x ∷ (p ++ more.0)) same ∙ ap (λ r. b ∷ r) more.1)

folder_directory : (d : Disk) (z : Value) → is_folder z ≡ true → IsDirectory (seen d z)
folder_directory d (Folder m) e = tt
folder_directory d Absent e = let n : false ≡ true = e in cc
folder_directory d (Link m t) e = let n : false ≡ true = e in cc
folder_directory d (File k) e = let n : false ≡ true = e in cc

pub object_under : (o : ObjName) → path_of o ≡ under (objects_folder_path o.csum) (drop 2 (hex_of o.csum) ++ ending o.kind)
unfolding object_path objects_folder_path
object_under o = refl

-- A sync of all makes sure what is there.
pub synced_sure : (v : View) (name : ObjName) → IsTree v.now → IsThere v.now name → IsSure (all_synced v) name
synced_sure v name tree there = record {
  there = λ s may vacant. there (vacant_absent v.now (path_of name) (sym ((all_synced-firm v (path_of name)).each s may) ∙ vacant));
  above = λ p s may below.
      let rest = below_rest p (objects_folder_path name.csum) below in
      let home : is_folder (v.now.at (objects_folder_path name.csum)) ≡ true =
      folder_of v.now tree (objects_folder_path name.csum) (drop 2 (hex_of name.csum) ++ ending name.kind) (subst (λ q. v.now.at q ≢ Absent) (object_under name) there)
      in
      let here : is_folder (v.now.at p) ≡ true = above v.now tree p rest.0 (subst (λ q. is_folder (v.now.at q) ≡ true) (sym rest.1) home) in
      subst IsDirectory (sym ((all_synced-firm v p).each s may)) (folder_directory v.now (v.now.at p) here);
}

-- the mark is taken away, or was none
pub unmarked : (commit : List ℕ) (v : View) → IsUnmarked commit (named (mark_path commit) Absent v).now
unmarked commit v = subst NotLeaf (sym (shows_named v (mark_path commit) Absent)) tt

not_leaf_node : (d : Disk) (z : Value) (n : Option Node) → IsNode d z n → is_leaf_node n ≡ false → NotLeaf (seen d z)
not_leaf_node d Absent n is none = tt
not_leaf_node d (Folder m) n is none = tt
not_leaf_node d (Link m t) n is none = let e : true ≡ false = sym (ap is_leaf_node is) ∙ none in cc
not_leaf_node d (File k) n is none = let e : true ≡ false = sym (ap is_leaf_node is) ∙ none in cc

pub no_mark : (commit : List ℕ) (v : View) (n : Option Node) → IsNode v.now (v.now.at (mark_path commit)) n → is_leaf_node n ≡ false → IsUnmarked commit v.now
no_mark commit v n is none = not_leaf_node v.now (v.now.at (mark_path commit)) n is none

-- a mark that is there is a leaf
pub leaf_there : (d : Disk) (z : Value) (n : Option Node) → IsNode d z n → is_leaf_node n ≡ true → z ≢ Absent
leaf_there d z n is leaf e =
    let none : n ≡ None = subst (λ z. IsNode d z n) e is in
    let c : false ≡ true = sym (ap is_leaf_node none) ∙ leaf in
    cc

mark_under : (commit : List ℕ) → mark_path commit ≡ under (folder_path State) (hex_of commit ++ codes ".commitpartial")
unfolding mark_path
mark_under commit = refl

settled_leaf : (v : View) (z : Value) (s : Seen) → NotLeaf (seen v.now z) → MayShow v z s → NotLeaf s
settled_leaf v Absent s none is = subst NotLeaf (sym is) tt
settled_leaf v (Folder m) s none is = subst NotLeaf (sym is) tt
settled_leaf v (Link m t) s none is = absurd none
settled_leaf v (File k) s none is = absurd none

-- A sync of its folder makes sure that there is none.
pub never_marked : (commit : List ℕ) (v : View) → IsUnmarked commit v.now → NeverMarked commit (folder_synced (folder_path State) v)
never_marked commit v none = record {
  each = λ s may.
      settled_leaf v (v.now.at (mark_path commit)) s none
      (subst (λ q. MayShow v (v.now.at q) s) (sym (mark_under commit))
      (folder_synced-firm v (folder_path State) (hex_of commit ++ codes ".commitpartial") s (subst (λ q. MayBe (folder_synced (folder_path State) v) q s) (mark_under commit) may)));
}
