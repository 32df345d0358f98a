-- What is so of the disk beside its state goes on over an act.
use Rattle.std.proofs.Common.{◌≡◌, ⊎_elim, ◌∙◌, ℕ, ap, sym, subst, List, Some}
use Rattle.ost_types.specs.declared.limits.Limits.{Limits}
use Rattle.fs_trait.specs.Change.{Writes}
use Rattle.fs_trait.specs.Image.{Told}
use Rattle.fs_trait.specs.Seen.{NotDirectory, shows}
use Rattle.fs_trait.specs.View.{View}
use Rattle.repo_layout.proofs.Places.{place-object}
use Rattle.repo_model.specs.Objects.{path_of}
use Rattle.boot_read.specs.declared.row.BootRow.{BootRow}
use Rattle.durable_deployments.specs.Bounds.{AreBounded}
use Rattle.rely_guarantee.specs.declared.books.Base.{Base}
use Rattle.rely_guarantee.specs.Books.{Books, books_of}
use Rattle.rely_guarantee.specs.Rely.{Guarantee, Interference}
use Rattle.rely_guarantee.proofs.Acting.{told_same}
use Rattle.rely_guarantee.proofs.Mays.{objects_harmless}
use Rattle.rely_guarantee.proofs.Sounds.{IsFs}
use Rattle.lane_system.specs.Booting.{MayBootNow}
use Rattle.lane_system.specs.Family.{FsSpec}
use Rattle.lane_system.specs.Kept.{AreFree, DiskKept}

-- no act leaves a folder where an object would stand
pub free_after : {F : Type 0} (f : FsSpec F) → IsFs f.view f.clock f.was → (actor lane : ℕ) (base new : Base F) → ((v : View) → f.view base.fs ≡ Some v → (w : View) × (f.view new.fs ≡ Some w) × Interference actor lane v (books_of base.books) w (books_of new.books)) → AreFree (f.view base.fs) → AreFree (f.view new.fs)
free_after f is actor lane base new does free w told_w o sum =
    let v = is.told new.fs base.fs w told_w in
    let d = does v.0 v.1 in
    let one : Some d.0 ≡ Some w = sym d.1 ∙ told_w in
    let same : d.0 ≡ w = cc in
    ⊎_elim
    (λ still. subst NotDirectory (ap (λ (u : View). shows u.now (path_of o)) same) (subst NotDirectory (sym still) (free v.0 v.1 o sum)))
    (λ wrote. subst NotDirectory (ap (λ (u : View). shows u.now (path_of o)) same) (objects_harmless (books_of base.books) v.0 actor lane o.kind o.csum (path_of o) _ wrote (place-object o.kind o.csum sum)))
    (d.2.writes.now (path_of o))

-- nobody writes outside the bounds
pub bounded_on : (v w : View) (b : Books) (actor lane : ℕ) → Writes (Guarantee b v actor lane) v w → AreBounded v → AreBounded w
bounded_on v w b actor lane writes was p s lies may some = ⊎_elim (λ there. was p s lies there some) (λ wrote. wrote.fits.bounds some) (writes.only p s may)

-- so with what boots
pub disk_on : {F : Type 0} (f : FsSpec F) → IsFs f.view f.clock f.was → (limits : Limits) (actor lane : ℕ) (base new : Base F) → ((v : View) → f.view base.fs ≡ Some v → (w : View) × (f.view new.fs ≡ Some w) × Interference actor lane v (books_of base.books) w (books_of new.books))
    → ((opening : List BootRow) (v : View) → f.view base.fs ≡ Some v → MayBootNow limits opening base.books v → Told (f.view new.fs) (λ w. MayBootNow limits opening new.books w)) → DiskKept limits (f.view base.fs) base.books → DiskKept limits (f.view new.fs) new.books
disk_on f is limits actor lane base new does boots was = record {
  free = free_after f is actor lane base new does was.free;
  bounded = λ w told_w.
      let v = is.told new.fs base.fs w told_w in
      let d = does v.0 v.1 in
      let one : Some d.0 ≡ Some w = sym d.1 ∙ told_w in
      let same : d.0 ≡ w = cc in
      subst AreBounded same (bounded_on v.0 d.0 (books_of base.books) actor lane d.2.writes (was.bounded v.0 v.1));
  boots = λ w told_w.
      let v = is.told new.fs base.fs w told_w in
      let may = was.boots v.0 v.1 in
      (may.0, told_same (f.view new.fs) w told_w (boots may.0 v.0 v.1 may.1));
}
