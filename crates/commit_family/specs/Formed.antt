-- Each object of a tree within the bounds reads as its kind.
use Rattle.std.proofs.Common.{◌≡◌, inl, inr, ℕ, List, Option, Some, None, refl, subst}
use Rattle.ost_types.specs.declared.limits.Limits.{Limits}
use Rattle.ost_forms.specs.declared.tree_item.BodySpec.{BodySpec}
use Rattle.ost_forms.specs.declared.tree_item.TreeItem.{TreeItem}
use Rattle.ost_objects.specs.Object.{HasForm}
use Rattle.tree_build.specs.Items.{AreItems, AreTyped, body_of}
use Rattle.tree_build.specs.Building.{IsNumber}
use Rattle.tree_build.specs.Objects.{Object, made, work}
use Rattle.tree_build.specs.Objects as objects
use Rattle.tree_build.specs.Makeable.{AreMakeable}
use Rattle.tree_build.proofs.FolderEntries.{work_from}
use Rattle.tree_build.proofs.Lists.{Among, contained_among}
use Rattle.tree_build.proofs.Places.{Stands}
use Rattle.tree_build.proofs.Readings.{entries_in, file_reads, meta_reads, tree_reads}

-- the objects of an item
item_formed : (limits : Limits) (items : List TreeItem) → AreItems items → AreTyped items → AreMakeable limits items → (i : TreeItem) (behind : List TreeItem) → Stands items i behind → (b : Option BodySpec) → i.body ≡ b → (o : Object) → Among o (objects.objects_by (made behind) i.path i.meta b) → HasForm o.name.kind limits.content o.bytes
item_formed limits items ordered typed makeable i behind s None is o (inl e) = subst (λ (x : Object). HasForm x.name.kind limits.content x.bytes) e ∣ (entries_in i behind, tree_reads limits items ordered typed makeable i behind s is) ∣₁
item_formed limits items ordered typed makeable i behind s None is o (inr (inl e)) = subst (λ (x : Object). HasForm x.name.kind limits.content x.bytes) e ∣ (i.meta, meta_reads limits items ordered typed makeable i behind s is) ∣₁
item_formed limits items ordered typed makeable i behind s None is o (inr (inr no_)) = absurd no_
item_formed limits items ordered typed makeable i behind s (Some body) is o (inl e) = subst (λ (x : Object). HasForm x.name.kind limits.content x.bytes) e ∣ (record { meta = i.meta; body = body_of body }, file_reads limits items ordered typed makeable i behind body s is) ∣₁
item_formed limits items ordered typed makeable i behind s (Some body) is o (inr no_) = absurd no_

pub work_formed : (limits : Limits) (items : List TreeItem) (n : ℕ) (o : Object) → AreItems items → AreTyped items → AreMakeable limits items → IsNumber (work items) n o → HasForm o.name.kind limits.content o.bytes
work_formed limits items n o ordered typed makeable number =
    let w = work_from items o (contained_among o (work items) (n, number.0, number.1)) in
    item_formed limits items ordered typed makeable w.0 w.1 w.2 w.0.body refl o w.3
