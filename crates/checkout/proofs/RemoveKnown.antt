-- What is known of the open folders, before and after something goes.
use Rattle.std.proofs.Common.{◌≡◌, ◌≢◌, ◌⊎◌, inl, inr, ⊎_elim, ◌<◌, arith, refl, sym, ◌∙◌, ap, subst, List, [], ◌∷◌, length, reverse, drop, Option, Some, None}
use Rattle.std.specs.Prelude.{Contains}
use Rattle.ost_types.specs.Path.{Name, Path, IsPath, under}
use Rattle.ost_types.proofs.Paths.{same_or_apart}
use Rattle.fs_trait.specs.declared.types.Value.{Value}
use Rattle.fs_trait.specs.declared.types.Value.TheVariants.{Absent, Folder, Link, File}
use Rattle.fs_trait.specs.View.{Disk, View, named}
use Rattle.fs_trait.specs.Effect.{IsListing}
use Rattle.fs_trait.specs.Seen.{Vacant, seen, shows, IsDirectory}
use Rattle.fs_trait.proofs.Effects.{shows_named, shows_named_apart}
use Rattle.fs_trait.proofs.Facts.{vacant_absent}
use Rattle.checkout.specs.RemoveFolder.{Opened}
use Rattle.checkout.specs.Remove.{Looks, Closes, act_of}
use Rattle.checkout.specs.RemoveSteps.{IsOpen, AreOpen}
use Rattle.checkout.proofs.RemoveLists.{cons_cases, tail_in, Contains-reverse, reverse-contains}
use Rattle.checkout.proofs.RemoveChains.{Shorter}

-- Nothing stands at the path any more, which is one within the bounds, and all else is as it was.
pub record Gone (q : Path) (d e : Disk) : Type 0 where
  pub path : IsPath q
  pub gone : shows e q ≡ Vacant
  pub same : (p : Path) → p ≢ q → shows e p ≡ shows d p

pub gone_named : (v : View) (q : Path) → IsPath q → Gone q v.now (named q Absent v).now
gone_named v q path = record {
  path = path;
  gone = shows_named v q Absent;
  same = λ p apart. shows_named_apart v q Absent p (λ e. apart (sym e));
}

pub gone_vacant : (d : Disk) (q : Path) → IsPath q → shows d q ≡ Vacant → Gone q d d
gone_vacant d q path vacant = record { path = path; gone = vacant; same = λ p apart. refl }

module _ (q : Path) (d e : Disk) (gone : Gone q d e) where
  still_vacant : (p : Path) → (p ≡ q) ⊎ (p ≢ q) → shows d p ≡ Vacant → shows e p ≡ Vacant
  still_vacant p (inl is) was = ap (shows e) is ∙ gone.gone
  still_vacant p (inr apart) was = gone.same p apart ∙ was

  still_far : (p : Path) → (p ≡ q) ⊎ (p ≢ q) → shows d p ≢ Vacant → IsPath p ⊎ (shows e p ≢ Vacant)
  still_far p (inl is) there = inl (subst IsPath (sym is) gone.path)
  still_far p (inr apart) there = inr (λ v. there (sym (gone.same p apart) ∙ v))

  open_kept : (inner : Option Path) (p : Path) (names : List Name) → p ≢ q → IsOpen d inner p names → IsOpen e inner p names
  open_kept inner p names apart o = record {
    folder = subst IsDirectory (sym (gone.same p apart)) o.folder;
    known = λ x. ⊎_elim (λ v. inl (still_vacant (under p x) (same_or_apart (under p x) q) v)) (λ r. inr r) (o.known x);
    far = λ x has. ⊎_elim (λ a. inl a) (λ there. still_far (under p x) (same_or_apart (under p x) q) there) (o.far x has);
  }

  not_same : (p : Path) → length p < length q → p ≢ q
  not_same p less is = let l : length p ≡ length q = ap length is in omega (arith, less, l)

  -- what is around what went is still known
  pub all_kept : (inner : Option Path) (outer : List Opened) → Shorter (length q) outer → AreOpen d inner outer → AreOpen e inner outer
  all_kept inner [] s o = tt
  all_kept inner (g ∷ outer) s o = (open_kept inner g.path g.names (not_same g.path s.0) o.0, all_kept (Some g.path) outer s.1 o.1)

-- the next name was seen to
pub open_passed : (d : Disk) (inner : Option Path) (p : Path) (names : List Name) (q : Path) → act_of p names ≡ Looks q → shows d q ≡ Vacant → IsOpen d inner p names → IsOpen d inner p (drop 1 names)
open_passed d inner p [] q e vacant o = let n : Closes p ≡ Looks q = e in cc
open_passed d inner p (x ∷ names) q e vacant o =
    let here : under p x ≡ q = let n : Looks (under p x) ≡ Looks q = e in cc in
    record {
      folder = o.folder;
      known = λ y. ⊎_elim
          (λ v. inl v)
          (λ r. ⊎_elim
          (λ has. ⊎_elim (λ is. inl (ap (λ z. shows d (under p z)) is ∙ ap (shows d) here ∙ vacant)) (λ a. inr (inl a)) (cons_cases y x names has))
          (λ i. inr (inr i)) r)
          (o.known y);
      far = λ y has. o.far y (tail_in y x names has);
    }

-- it is the folder that is open now
pub open_around : (d : Disk) (p : Path) (names : List Name) (q : Path) → act_of p names ≡ Looks q → IsOpen d None p names → IsOpen d (Some q) p (drop 1 names)
open_around d p [] q e o = let n : Closes p ≡ Looks q = e in cc
open_around d p (x ∷ names) q e o =
    let here : under p x ≡ q = let n : Looks (under p x) ≡ Looks q = e in cc in
    record {
      folder = o.folder;
      known = λ y. ⊎_elim
          (λ v. inl v)
          (λ r. ⊎_elim
          (λ has. ⊎_elim (λ is. inr (inr (ap Some (sym here ∙ ap (under p) (sym is))))) (λ a. inr (inl a)) (cons_cases y x names has))
          (λ i. let n : None ≡ Some (under p y) = i in cc) r)
          (o.known y);
      far = λ y has. o.far y (tail_in y x names has);
    }

-- a folder whose names were listed
pub open_new : (d : Disk) (p : Path) (names : List Name) → IsDirectory (shows d p) → IsListing d p names → IsOpen d None p (reverse names)
open_new d p names there listing = record {
  folder = there;
  known = λ y. by y (d.at (under p y)) refl;
  far = λ y has. inr (λ v. listing.there y (reverse-contains names y has) (vacant_absent d (under p y) v));
}
  where
    listed : (y : Name) → d.at (under p y) ≢ Absent → (shows d (under p y) ≡ Vacant) ⊎ Contains (reverse names) y ⊎ (None ≡ Some (under p y))
    listed y there = inr (inl (Contains-reverse names y (listing.all y there)))

    by : (y : Name) (z : Value) → d.at (under p y) ≡ z → (shows d (under p y) ≡ Vacant) ⊎ Contains (reverse names) y ⊎ (None ≡ Some (under p y))
    by y Absent e = inl (ap (seen d) e)
    by y (Folder m) e = listed y (λ a. let n : Folder m ≡ Absent = sym e ∙ a in cc)
    by y (Link m l) e = listed y (λ a. let n : Link m l ≡ Absent = sym e ∙ a in cc)
    by y (File i) e = listed y (λ a. let n : File i ≡ Absent = sym e ∙ a in cc)

-- the open folder in it is gone
pub open_closed : (d : Disk) (q p : Path) (names : List Name) → shows d q ≡ Vacant → IsOpen d (Some q) p names → IsOpen d None p names
open_closed d q p names vacant o = record {
  folder = o.folder;
  known = λ y. ⊎_elim
      (λ v. inl v)
      (λ r. ⊎_elim (λ has. inr (inl has)) (λ i. inl (let n : q ≡ under p y = let m : Some q ≡ Some (under p y) = i in cc in ap (shows d) (sym n) ∙ vacant)) r)
      (o.known y);
  far = o.far;
}

-- a folder in which nothing is left is empty
pub open_empty : (d : Disk) (p : Path) (names : List Name) (q : Path) → act_of p names ≡ Closes q → IsOpen d None p names → (p ≡ q) × ((x : Name) → shows d (under p x) ≡ Vacant)
open_empty d p (x ∷ names) q e o = let n : Looks (under p x) ≡ Closes q = e in cc
open_empty d p [] q e o = (
  let n : Closes p ≡ Closes q = e in cc,
  λ x. ⊎_elim (λ v. v) (λ r. ⊎_elim (λ has. absurd (none x has)) (λ i. let n : None ≡ Some (under p x) = i in cc) r) (o.known x),
)
  where
    none : (x : Name) → Contains [] x → ⊥
    none x (k, less, is) = omega (arith, less)
