-- What an actor may write is harmless to what others claim: each form of claim once.
use Rattle.std.proofs.Common.{◌≡◌, ◌≢◌, inl, ⊎_elim, ℕ, true, refl, sym, ◌∙◌, ap, subst, List, [], ◌∷◌, ◌++◌, append-nil, append_assoc, Contains, Some}
use Rattle.ost_types.specs.declared.object.Kind as object
use Rattle.ost_types.specs.Path.{Name, Path, under, is_below}
use Rattle.ost_types.proofs.Paths.{is_below-under}
use Rattle.fs_trait.specs.declared.types.Value.{Value}
use Rattle.fs_trait.specs.declared.types.Value.TheVariants.{Absent, File}
use Rattle.fs_trait.specs.View.{Disk, View}
use Rattle.fs_trait.specs.Seen.{Seen, Vacant, Directory, Symlink, Leaf, seen, shows, MayBe, IsDirectory, NotDirectory}
use Rattle.fs_trait.specs.Change.{Harmless, LeadsTo, Own}
use Rattle.fs_trait.proofs.Effects.{may_now}
use Rattle.fs_trait.proofs.Facts.{may_held}
use Rattle.repo_layout.specs.declared.folder.Folder.{Folder}
use Rattle.repo_layout.specs.Paths.{folder_path, ref_path}
use Rattle.repo_layout.specs.Place.{Place, Config, Stage, Ref, ObjectsFolder, Object, Mark, Summary, Deployment, Etc, Origin, Staged, BootLink, BootLinkStage, BootFolder, Loader, LoaderStage, LoaderFolder, KernelCopy, Checkout, Other, place}
use Rattle.repo_layout.proofs.Places.{place-ref}
use Rattle.rely_guarantee.specs.declared.books.Pin.{Pin}
use Rattle.rely_guarantee.specs.Books.{Books, Free}
use Rattle.rely_guarantee.specs.Disks.{IsLeaf, IsOther}
use Rattle.rely_guarantee.specs.Rely.{Guarantee, may_at, OwnTree, IsEmpty}
use Rattle.rely_guarantee.specs.SystemInvariant.{Leads, NoStray}
use Rattle.layout_rules.specs.InLayout.{IsBounded, IsSuited}
use Rattle.layout_rules.proofs.Layouts.{fixed_other, above_ref, below_split, split_below}

-- nobody writes where nothing of the layout is
other_none : (b : Books) (actor lane : ℕ) (x : Place) (s : Seen) → IsOther x → may_at b actor lane x s → ⊥
other_none b actor lane Config s other at = other
other_none b actor lane (Stage a) s other at = other
other_none b actor lane (Ref n) s other at = other
other_none b actor lane (ObjectsFolder d) s other at = other
other_none b actor lane (Object k c) s other at = other
other_none b actor lane (Mark c) s other at = other
other_none b actor lane Summary s other at = other
other_none b actor lane (Deployment o c n r) s other at = other
other_none b actor lane (Etc o c n r) s other at = other
other_none b actor lane (Origin o c n) s other at = other
other_none b actor lane Staged s other at = other
other_none b actor lane (BootLink n) s other at = other
other_none b actor lane BootLinkStage s other at = other
other_none b actor lane (BootFolder n m r) s other at = other
other_none b actor lane Loader s other at = other
other_none b actor lane LoaderStage s other at = other
other_none b actor lane (LoaderFolder n r) s other at = other
other_none b actor lane (KernelCopy o c r) s other at = other
other_none b actor lane (Checkout n r) s other at = other
other_none b actor lane (Other p) s other at = at

-- a staging place is its actor's
pub tree_owner : (actor : ℕ) (x : Place) → OwnTree actor x → x ≡ Stage actor
tree_owner actor Config own = absurd own
tree_owner actor (Stage a) own = ap Stage own
tree_owner actor (Ref n) own = absurd own
tree_owner actor (ObjectsFolder d) own = absurd own
tree_owner actor (Object k c) own = absurd own
tree_owner actor (Mark c) own = absurd own
tree_owner actor Summary own = absurd own
tree_owner actor (Deployment o c n r) own = absurd own
tree_owner actor (Etc o c n r) own = absurd own
tree_owner actor (Origin o c n) own = absurd own
tree_owner actor Staged own = absurd own
tree_owner actor (BootLink n) own = absurd own
tree_owner actor BootLinkStage own = absurd own
tree_owner actor (BootFolder n m r) own = absurd own
tree_owner actor Loader own = absurd own
tree_owner actor LoaderStage own = absurd own
tree_owner actor (LoaderFolder n r) own = absurd own
tree_owner actor (KernelCopy o c r) own = absurd own
tree_owner actor (Checkout n r) own = absurd own
tree_owner actor (Other p) own = absurd own

both : (s : Seen) → NotDirectory s → IsDirectory s → ⊥
both (Directory m) no_ is = no_
both Vacant no_ is = is
both (Symlink m t) no_ is = is
both (Leaf n m b) no_ is = is

absent_no : (d : Disk) (z : Value) → z ≡ Absent → IsDirectory (seen d z) → ⊥
absent_no d z e is = let k : IsDirectory (seen d Absent) = subst (λ y. IsDirectory (seen d y)) e is in k

absent_leaf : (d : Disk) (z : Value) → z ≡ Absent → IsLeaf (seen d z) → ⊥
absent_leaf d z e leaf = let k : IsLeaf (seen d Absent) = subst (λ y. IsLeaf (seen d y)) e leaf in k

module _ (b : Books) (v : View) (actor lane : ℕ) where
  abbrev M : Path → Seen → Type 0
  M = Guarantee b v actor lane

  pub at_place : (p : Path) (s : Seen) (x : Place) → place p ≡ x → M p s → may_at b actor lane x s
  at_place p s x e m = subst (λ y. may_at b actor lane y s) e m.at

  pub not_other : (p : Path) (s : Seen) → place p ≡ Other p → M p s → ⊥
  not_other p s e m = at_place p s (Other p) e m

  -- a ref is written under the ref lock
  pub ref_turn : (name : List ℕ) (s : Seen) → M (ref_path name) s → Free b.turn lane
  ref_turn name s m = (at_place (ref_path name) s (Ref name) (place-ref name) m).0

  -- what leads to the folders of the layout
  pub folders_harmless : (f : Folder) → Harmless M (LeadsTo (folder_path f))
  folders_harmless f p s m below = absurd (not_other p s (fixed_other f p below) m)

  pub strays_harmless : Harmless M NoStray
  strays_harmless p s m below other leaf = other_none b actor lane (place p) s other m.at

  -- all that is written suits the layout, and is within the bounds of paths
  pub kinds_harmless : Harmless M IsSuited
  kinds_harmless p s m = m.fits.suits

  pub reached_harmless : Harmless M IsBounded
  reached_harmless p s m searched there = m.fits.bounds there

  -- Claims of a lane or an actor that isn't the one that writes.
  -- folders to a ref, under the ref lock
  pub ref_leads_harmless : (mine : ℕ) (name : List ℕ) (f : Path) → b.turn ≡ Some mine → mine ≢ lane → is_below f (ref_path name) ≡ true → Harmless M (LeadsTo f)
  ref_leads_harmless mine name f turn other above p s m below =
      let front = below_split p f below in
      let whole = below_split f (ref_path name) above in
      let on : is_below p (ref_path name) ≡ true = subst (λ q. is_below p q ≡ true) (sym whole.1) (below_through p f whole.0 below) in
      ⊎_elim
      (λ o. absurd (not_other p s o m))
      (λ r. absurd (other ((at_place p s (Ref r.0) r.1 m).0 mine turn)))
      (above_ref name p on)
    where
      below_through : (p f rest : Path) → is_below p f ≡ true → is_below p (f ++ rest) ≡ true
      below_through p f rest below = let s = below_split p f below in subst (λ q. is_below p (q ++ rest) ≡ true) (sym s.1) (subst (λ q. is_below p q ≡ true) (sym (append_assoc p s.0 rest)) (split_below p (s.0 ++ rest)))

  -- a ref and all that leads to it isn't written while another has the ref lock
  pub ref_apart : (mine : ℕ) (name : List ℕ) (p : Path) (s : Seen) → b.turn ≡ Some mine → mine ≢ lane → M p s → p ≡ ref_path name → ⊥
  ref_apart mine name p s turn other m e = other ((at_place p s (Ref name) (ap place e ∙ place-ref name) m).0 mine turn)

  -- another's staging path isn't written
  pub stage_apart : (mine : ℕ) (q p : Path) (s : Seen) → mine ≢ actor → place q ≡ Stage mine → M p s → p ≡ q → ⊥
  stage_apart mine q p s other at m e = other (at_place p s (Stage mine) (ap place e ∙ at) m)

  -- nor is another name given to its file
  pub own_harmless : (mine : ℕ) (q : Path) (n : ℕ) → mine ≢ actor → place q ≡ Stage mine → v.now.at q ≡ File n → ((p : Path) (s : Seen) → MayBe v p s → Own n q p s) → Harmless M (Own n q)
  own_harmless mine q n other at is own p s m k c e = absurd (⊎_elim
      (λ fresh. fresh q (inl (sym is)))
      (λ from. other (from.2 mine (ap place (own from.0 _ (may_held v from.0 n from.1) (v.now.meta n) (v.now.bytes n) refl) ∙ at)))
      (m.comes n k c e))

  -- a pinned object stays, and no folder comes to an object's path
  pub object_stays : (mine : ℕ) (kind : object.Kind) (sum : List ℕ) (p : Path) (pin : Pin) → mine ≢ lane → place p ≡ Object kind sum → Contains b.pins pin → pin.lane ≡ mine → pin.object.kind ≡ kind → pin.object.csum ≡ sum → M p Vacant → ⊥
  object_stays mine kind sum p pin other at has is k c m = other (sym is ∙ (at_place p Vacant (Object kind sum) at m).2 refl pin has k c)

  pub objects_harmless : (kind : object.Kind) (sum : List ℕ) → Harmless M (λ p s. place p ≡ Object kind sum → NotDirectory s)
  objects_harmless kind sum p s m at = (at_place p s (Object kind sum) at m).1

  -- nothing is removed while another has Exclusive, and no ref is written
  pub exclusive_apart : (mine : ℕ) (kind : object.Kind) (sum : List ℕ) (p : Path) (s : Seen) → b.exclusive ≡ Some mine → mine ≢ lane → place p ≡ Object kind sum → M p s → ⊥
  exclusive_apart mine kind sum p s alone other at m = other ((at_place p s (Object kind sum) at m).0 mine alone)

  -- what is on the way to a ref that is there now, whoever writes
  pub leads_stay : (name : List ℕ) (f : Path) (x : Name) → ref_path name ≡ under f x → IsLeaf (shows v.now (ref_path name)) → Leads v f → Harmless M (LeadsTo f)
  leads_stay name f x e there leads p s m below =
      let front = below_split p f below in
      let is_now : IsDirectory (shows v.now p) = leads p _ (may_now v p) below in
      let on : is_below p (ref_path name) ≡ true = subst (λ q. is_below p q ≡ true) (sym e) (is_below-under p f x below) in
      ⊎_elim
      (λ o. absurd (not_other p s o m))
      (λ r. ⊎_elim
      (λ folder. folder)
      (λ more. absurd (⊎_elim
      (λ leaf. both (shows v.now p) leaf is_now)
      (λ last. ⊎_elim (λ own. no_tree r.0 (subst (OwnTree actor) r.1 own)) (λ none. ⊎_elim (λ empty. not_empty front.0 front.1 empty) (λ refs. refs name on there) none) last)
      more))
      m.folders)
      (above_ref name p on)
    where
      no_tree : (n : List ℕ) → OwnTree actor (Ref n) → ⊥
      no_tree n own = own

      not_empty : (rest : Path) → f ≡ p ++ rest → IsEmpty v p → ⊥
      not_empty [] is empty = absent_leaf v.now (v.now.at (ref_path name)) (ap v.now.at (e ∙ ap (λ q. under q x) (is ∙ append-nil p)) ∙ empty x) there
      not_empty (y ∷ rest) is empty =
          let step : f ≡ under p y ++ rest = is ∙ sym (append_assoc p (y ∷ []) rest) in
          absent_no v.now (v.now.at (under p y)) (empty y) (leads (under p y) _ (may_now v (under p y)) (subst (λ q. is_below (under p y) q ≡ true) (sym step) (split_below (under p y) rest)))
