-- From claims on what each path may show to each image.
use Rattle.std.proofs.Common.{◌≡◌, ◌⊎◌, inl, inr, ⊎_elim, ℕ, true, false, refl, sym, ap, subst, [], ◌∷◌, ◌++◌, append-nil, append_assoc, Option, Some, ◌≤◌, ◌<◌, ◌+◌, arith}
use Rattle.std.proofs.lemmas.Bool.Decides.{leb_tells}
use Rattle.ost_types.specs.Path.{Name, Path, under, is_below}
use Rattle.ost_types.proofs.Paths.{root_or_under, same_name-Decides, under-is_below}
use Rattle.fs_trait.specs.declared.types.Value.{Value}
use Rattle.fs_trait.specs.declared.types.Value.TheVariants.{Absent, Folder, Link, File}
use Rattle.fs_trait.specs.View.{Disk, View}
use Rattle.fs_trait.specs.Image.{Image, EachImage, is_folder, reads, bytes_of}
use Rattle.fs_trait.specs.Effect.{Elapses}
use Rattle.fs_trait.proofs.Images.{folder_or_not}
use Rattle.fs_trait.specs.Seen.{Seen, Vacant, Leaf, seen, shows, MayShow, MayBe, IsDirectory, bytes_in}
use Rattle.fs_trait.specs.Change.{LeadsTo, Passes, Left}

pub is_below-before : (g rest : Path) → is_below g (g ++ rest) ≡ true
unfolding is_below
is_below-before [] rest = refl
is_below-before (a ∷ g) rest = rw ((same_name-Decides a a).1 refl, is_below-before g rest) refl

directory_folder : (d : Disk) (z : Value) → IsDirectory (seen d z) → is_folder z ≡ true
directory_folder d (Folder m) is = refl
directory_folder d Absent is = absurd is
directory_folder d (Link m t) is = absurd is
directory_folder d (File n) is = absurd is

pub folder_shows : (d : Disk) (p : Path) → IsDirectory (shows d p) → is_folder (d.at p) ≡ true
folder_shows d p is = directory_folder d (d.at p) is

-- what is read is what the path shows
bytes_seen : (d : Disk) (z : Value) → bytes_of d z ≡ bytes_in (seen d z)
bytes_seen d Absent = refl
bytes_seen d (Folder m) = refl
bytes_seen d (Link m t) = refl
bytes_seen d (File n) = refl

pub reads_shows : (d : Disk) (p : Path) → reads d p ≡ bytes_in (shows d p)
unfolding reads
reads_shows d p = bytes_seen d (d.at p)

module _ (v : View) (d : Disk) (i : Image v d) where
  seen_may : (z : Value) → MayShow v z (seen d z)
  seen_may Absent = refl
  seen_may (Folder m) = refl
  seen_may (Link m t) = refl
  seen_may (File n) = (d.bytes n, ap (λ m. Leaf n m (d.bytes n)) (i.meta n), i.bytes n)

  pub Image-root : MayBe v [] (shows d [])
  Image-root = record { value = d.at []; held = inl i.root; shown = seen_may (d.at []) }

  pub Image-under : (f : Path) (x : Name) → is_folder (d.at f) ≡ true → MayBe v (under f x) (shows d (under f x))
  Image-under f x folder = record { value = d.at (under f x); held = i.held f x folder; shown = seen_may (d.at (under f x)) }

  -- the masking: what a path shows it might show, or it is vacant
  pub Image-may : (p : Path) → MayBe v p (shows d p) ⊎ (shows d p ≡ Vacant)
  Image-may p = by (root_or_under p)
    where
      in_folder : (f : Path) (x : Name) → (is_folder (d.at f) ≡ true) ⊎ (is_folder (d.at f) ≡ false) → MayBe v (under f x) (shows d (under f x)) ⊎ (shows d (under f x) ≡ Vacant)
      in_folder f x (inl folder) = inl (Image-under f x folder)
      in_folder f x (inr none) = inr (ap (seen d) (i.gone f x none))

      by : (p ≡ []) ⊎ ((f : Path) × (x : Name) × (p ≡ under f x)) → MayBe v p (shows d p) ⊎ (shows d p ≡ Vacant)
      by (inl e) = inl (subst (λ q. MayBe v q (shows d q)) (sym e) Image-root)
      by (inr w) = subst (λ q. MayBe v q (shows d q) ⊎ (shows d q ≡ Vacant)) (sym w.2) (in_folder w.0 w.1 (folder_or_not (d.at w.0)))

  -- where all that leads there is folders in each crash, it is a folder
  leads_on : (g rest : Path) → ((q : Path) (s : Seen) → MayBe v q s → LeadsTo (g ++ rest) q s) → is_folder (d.at g) ≡ true → is_folder (d.at (g ++ rest)) ≡ true
  leads_on g [] leads folder = subst (λ q. is_folder (d.at q) ≡ true) (sym (append-nil g)) folder
  leads_on g (x ∷ rest) leads folder =
      let again : under g x ++ rest ≡ g ++ x ∷ rest = append_assoc g (x ∷ []) rest in
      let on : is_below (under g x) (g ++ x ∷ rest) ≡ true = subst (λ q. is_below (under g x) q ≡ true) again (is_below-before (under g x) rest) in
      subst (λ q. is_folder (d.at q) ≡ true) again
      (leads_on (under g x) rest (subst (λ f. (q : Path) (s : Seen) → MayBe v q s → LeadsTo f q s) (sym again) leads)
      (folder_shows d (under g x) (leads (under g x) _ (Image-under g x folder) on)))

  pub Image-folder : (f : Path) → ((q : Path) (s : Seen) → MayBe v q s → LeadsTo f q s) → is_folder (d.at f) ≡ true
  Image-folder f leads = leads_on [] f leads (folder_shows d [] (leads [] _ Image-root (is_below-before [] f)))

-- A claim that a vacant path meets holds of what each image shows.
pub firm_each : (Firm : Path → Seen → Type 0) (v : View) → ((p : Path) (s : Seen) → MayBe v p s → Firm p s) → (p : Path) → Firm p Vacant → EachImage v (λ d. Firm p (shows d p))
firm_each Firm v firm p vacant d i = ⊎_elim (firm p (shows d p)) (λ none. subst (Firm p) (sym none) vacant) (Image-may v d i p)

-- Under folders that each crash leaves, each claim does.
pub firm_under : (Firm : Path → Seen → Type 0) (v : View) → ((p : Path) (s : Seen) → MayBe v p s → Firm p s) → (f : Path) (x : Name)
    → ((p : Path) (s : Seen) → MayBe v p s → LeadsTo f p s) → EachImage v (λ d. Firm (under f x) (shows d (under f x)))
firm_under Firm v firm f x leads d i = firm (under f x) (shows d (under f x)) (Image-under v d i f x (Image-folder v d i f leads))

pub folder_each : (v : View) (f : Path) → ((p : Path) (s : Seen) → MayBe v p s → LeadsTo f p s) → EachImage v (λ d. is_folder (d.at f) ≡ true)
folder_each v f leads d i = Image-folder v d i f leads

-- Time in disks, from time in views.
pub passes : (before now : ℕ) (past since : ℕ → View → Type 0) (view : Option View) → ((t : ℕ) (w : View) → now ≤ t → since t w → view ≡ Some w)
    → Elapses before now past since view → Passes before now (Left past) (Left since) view
passes before now past since view only_now time = record { later = time.later; nothing_else = λ t d left. by t d left (⊎_elim (λ a. inl a.1) (λ a. inr a.1) (leb_tells t before)) }
  where
    by : (t : ℕ) (d : Disk) → Left since t d → (t ≤ before) ⊎ (before < t) → Left past t d ⊎ ((w : View) × (view ≡ Some w) × Image w d)
    by t d left (inl early) = ⊎_elim (λ was. inl (left.0, was, left.2)) (λ is. inr (left.0, is, left.2)) (time.nothing_else t left.0 early left.1)
    by t d left (inr late) = let soon : now ≤ before + 1 = time.soon in inr (left.0, only_now t left.0 (omega (arith, soon, late)) left.1, left.2)

-- Either a vacant path meets the claim, or folders lead there in each crash.
pub claim_each : (S : Seen → Type 0) (v : View) (f : Path) (x : Name) → ((s : Seen) → MayBe v (under f x) s → S s)
    → S Vacant ⊎ ((p : Path) (s : Seen) → MayBe v p s → LeadsTo f p s) → EachImage v (λ d. S (shows d (under f x)))
claim_each S v f x claim (inl vacant) d i = ⊎_elim (claim (shows d (under f x))) (λ none. subst S (sym none) vacant) (Image-may v d i (under f x))
claim_each S v f x claim (inr leads) d i = claim (shows d (under f x)) (Image-under v d i f x (Image-folder v d i f leads))

-- one folder further: a new folder whose parent is synced
pub leads_under : (v : View) (f : Path) (x : Name) → ((p : Path) (s : Seen) → MayBe v p s → LeadsTo f p s) → ((s : Seen) → MayBe v (under f x) s → IsDirectory s)
    → (p : Path) (s : Seen) → MayBe v p s → LeadsTo (under f x) p s
leads_under v f x leads here p s may below = ⊎_elim (leads p s may) (λ is. here s (subst (λ q. MayBe v q s) is may)) (under-is_below p f x below)
