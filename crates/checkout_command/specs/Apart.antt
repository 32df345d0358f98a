-- A step of a checkout writes in the folder of the checkout alone, so objects and marks stay as they are.
use Rattle.std.proofs.Common.{◌≡◌, inl, inr, ⊎_elim, ℕ, List, refl, sym, ◌∙◌, ap, subst}
use Rattle.ost_types.specs.declared.object.Kind.{Kind}
use Rattle.ost_types.specs.declared.object.Kind.TheVariants.{Commit}
use Rattle.ost_types.specs.declared.object.Kind.TheVariants as kind
use Rattle.ost_types.specs.declared.object.ObjName.{ObjName}
use Rattle.ost_types.specs.Path.{Name, Path}
use Rattle.fs_trait.specs.Change.{LeadsTo, Writes}
use Rattle.fs_trait.specs.Seen.{Seen, shows}
use Rattle.fs_trait.specs.View.{Disk, View}
use Rattle.repo_layout.specs.declared.folder.Folder.TheVariants.{Objects}
use Rattle.repo_layout.specs.Paths.{mark_path, object_path, objects_folder_path}
use Rattle.repo_layout.specs.Place.{Place, Checkout, Mark, Object, ObjectsFolder, Other, place}
use Rattle.repo_layout.proofs.Places.{place-mark, place-object, place-objects_folder}
use Rattle.layout_rules.proofs.Layouts.{fixed_other}
use Rattle.repo_model.specs.Objects.{Stores, path_of}
use Rattle.repo_model.proofs.Named.{IsSum-named}
use Rattle.repo_model.proofs.Stored.{stores_same}
use Rattle.reach.specs.Reach.{Refers}
use Rattle.tree_walk.specs.Standing as standing
use Rattle.tree_walk.specs.Standing.{Standing, StandsAs}
use Rattle.rely_guarantee.specs.Disks.{IsLeaf}
use Rattle.rely_guarantee.specs.Lasting.{IsFinishedNow}
use Rattle.rely_guarantee.proofs.Finished.{IsElsewhere}
use Rattle.rely_guarantee.proofs.Lasting.{above_objects}

-- what names another object is no file, so it is one of the disk's
pub refers_rightly : (d : Disk) (o next : ObjName) → Refers (Standing d) o next → Refers (Stores d) o next
refers_rightly d o next (inl (c, is, has, names)) = inl (c, is, record { bytes = has.bytes; stored = has.stored; reads = has.reads }, names)
refers_rightly d o next (inr (e, is, has, names)) = inr (e, is, record { bytes = has.bytes; stored = has.stored; reads = has.reads }, names)

module _ (W : Path → Seen → Type 0) (v w : View) (writes : Writes W v w) (inside : (p : Path) (s : Seen) → W p s → (name : Name) × (rest : Path) × (place p ≡ Checkout name rest)) where
  now_same : (p : Path) (x : Place) → place p ≡ x → (IsElsewhere x → ⊥) → shows w.now p ≡ shows v.now p
  now_same p x at none = ⊎_elim
      (λ same. same)
      (λ wrote. let k = inside p (shows w.now p) wrote in absurd (none (subst IsElsewhere (sym k.2 ∙ at) tt)))
      (writes.now p)

  stored_apart : (o : ObjName) (c : List ℕ) → Stores v.now o c → Stores w.now o c
  stored_apart o c has = stores_same v.now w.now o c (now_same (path_of o) (Object o.kind o.csum) (place-object o.kind o.csum (IsSum-named o c has.named)) (λ is. is)) has

  stands_as : (k : Kind) (o : ObjName) (c : List ℕ) → o.kind ≡ k → StandsAs k v.now o c → StandsAs k w.now o c
  stands_as kind.Commit o c is has = stored_apart o c has
  stands_as kind.DirTree o c is has = stored_apart o c has
  stands_as kind.DirMeta o c is has = stored_apart o c has
  stands_as kind.File o c is has = (has.0, subst standing.IsLeaf (sym (now_same (path_of o) (Object o.kind o.csum) (place-object o.kind o.csum has.0) (λ no. no))) has.1, has.2)

  pub stands_apart : (o : ObjName) (c : List ℕ) → Standing v.now o c → Standing w.now o c
  stands_apart o c has = stands_as o.kind o c refl has

  pub finished_apart : (commit : List ℕ) → IsFinishedNow v commit → IsFinishedNow w commit
  finished_apart commit f = record {
    sum = f.sum;
    there = λ e. f.there (sym (now_same (object_path Commit commit) (Object Commit commit) (place-object Commit commit f.sum) (λ is. is)) ∙ e);
    above = λ p below. ⊎_elim
        (λ up. subst (LeadsTo (objects_folder_path commit) p) (sym (now_same p (Other p) (fixed_other Objects p up) (λ is. is))) (f.above p) below)
        (λ is. subst (LeadsTo (objects_folder_path commit) p) (sym (now_same p (ObjectsFolder _) (ap place is ∙ place-objects_folder commit) (λ n. n))) (f.above p) below)
        (above_objects commit p below);
    unmarked = λ leaf. f.unmarked (subst IsLeaf (now_same (mark_path commit) (Mark commit) (place-mark commit f.sum) (λ is. is)) leaf);
  }
