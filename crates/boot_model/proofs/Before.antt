-- What a crash leaves of a view, told by what it might have left of an earlier one, outside of what was written since.
use Rattle.std.proofs.Common.{◌≡◌, ◌⊎◌, inl, inr, ℕ, Bool, true, false, IsTrue, refl, sym, ◌∙◌, ap, subst, List, [], ◌∷◌, ◌++◌, append-nil, append_assoc, if◌then◌else◌}
use Rattle.ost_types.specs.Path.{Name, Path, under}
use Rattle.ost_types.proofs.Paths.{root_or_under, under-folder, under-not_root}
use Rattle.fs_trait.specs.declared.types.Value.{Value}
use Rattle.fs_trait.specs.declared.types.Value.TheVariants.{Absent, Folder, Link, File}
use Rattle.fs_trait.specs.View.{Disk, View}
use Rattle.fs_trait.specs.Image.{Holds, Image, crashed, is_folder}
use Rattle.fs_trait.specs.Seen.{Vacant, Directory, Symlink, Leaf, seen, shows, MayShow, MayBe, IsDirectory}
use Rattle.fs_trait.proofs.Crashes.{crashed-under, Image-crashed}
use Rattle.fs_trait.proofs.Claims.{Image-under, folder_shows}
use Rattle.fs_trait.proofs.Images.{folder_or_not, not_both}

folder_directory : (d : Disk) (z : Value) → is_folder z ≡ true → IsDirectory (seen d z)
folder_directory d (Folder m) e = tt
folder_directory d Absent e = let n : false ≡ true = e in cc
folder_directory d (Link m t) e = let n : false ≡ true = e in cc
folder_directory d (File k) e = let n : false ≡ true = e in cc

-- `inside` has each path at which something else may be than before, and all below it.
module _ (inside : Path → Bool) (closed : (f : Path) (x : Name) → inside f ≡ true → inside (under f x) ≡ true)
    (v w : View) (top : is_folder (v.now.at []) ≡ true) (root : w.now.at [] ≡ v.now.at []) (d : Disk) (image : Image w d)
    (held : (p : Path) → inside p ≡ false → MayBe w p (shows d p) → MayBe v p (shows d p)) where
  -- a value that the path may have had before, and which shows what it shows now
  record IsPicked (p : Path) (z : Value) : Type 0 where
    pub was : Holds v p z
    pub first : p ≡ [] → z ≡ v.now.at []
    pub shown : (f : Path) (x : Name) → p ≡ under f x → inside p ≡ false → is_folder (d.at f) ≡ true → MayShow v z (shows d p)

  now_picked : (p : Path) → ((f : Path) (x : Name) → p ≡ under f x → inside p ≡ false → is_folder (d.at f) ≡ true → ⊥) → IsPicked p (v.now.at p)
  now_picked p none = record { was = inl refl; first = λ e. ap v.now.at e; shown = λ f x is out folder. absurd (none f x is out folder) }

  may_picked : (f : Path) (x : Name) → (may : MayBe v (under f x) (shows d (under f x))) → IsPicked (under f x) may.value
  may_picked f x may = record { was = may.held; first = λ e. absurd (under-not_root f x e); shown = λ g y is out folder. may.shown }

  pick_in : (f : Path) (x : Name) (b c : Bool) → inside (under f x) ≡ b → is_folder (d.at f) ≡ c → (z : Value) × IsPicked (under f x) z
  pick_in f x true c is folder = (v.now.at (under f x), now_picked (under f x) (λ g y e out there. not_both is out))
  pick_in f x false false is none = (v.now.at (under f x), now_picked (under f x) (λ g y e out there. not_both (subst (λ q. is_folder (d.at q) ≡ true) (sym (under-folder f g x y e)) there) none))
  pick_in f x false true is folder = let may = held (under f x) is (Image-under w d image f x folder) in (may.value, may_picked f x may)

  picked : (p : Path) → (z : Value) × IsPicked p z
  picked p = by (root_or_under p)
    where
      by : (p ≡ []) ⊎ ((f : Path) × (x : Name) × (p ≡ under f x)) → (z : Value) × IsPicked p z
      by (inl e) = (v.now.at p, now_picked p (λ f x is out folder. under-not_root f x (sym is ∙ e)))
      by (inr n) = subst (λ q. (z : Value) × IsPicked q z) (sym n.2) (pick_in n.0 n.1 (inside (under n.0 n.1)) (is_folder (d.at n.0)) refl refl)

  abbrev pick : Path → Value
  pick p = (picked p).0

  pub before : Disk
  before = crashed pick d.bytes v

  pub before_image : Image v before
  unfolding before
  before_image = Image-crashed pick d.bytes v ((picked []).1.first refl) (λ p. (picked p).1.was)

  before_under : (f : Path) (x : Name) → before.at (under f x) ≡ (if is_folder (before.at f) then pick (under f x) else Absent)
  unfolding before
  before_under f x = crashed-under pick d.bytes v f x

  before_bytes : (n : ℕ) → before.bytes n ≡ (if v.synced n then v.now.bytes n else d.bytes n)
  unfolding before crashed
  before_bytes n = refl

  chosen : (b : Bool) (one two c : List ℕ) → (IsTrue b → c ≡ one) → c ≡ two → (if b then one else two) ≡ c
  chosen true one two c is same = sym (is refl)
  chosen false one two c is same = sym same

  if_folder : (b : Bool) (y z : Value) → b ≡ true → (if b then y else z) ≡ y
  if_folder true y z e = refl
  if_folder false y z e = let n : false ≡ true = e in cc

  if_none : (b : Bool) (y z : Value) → b ≡ false → (if b then y else z) ≡ z
  if_none true y z e = let n : true ≡ false = e in cc
  if_none false y z e = refl

  leaf_bytes : (z : Value) (n : ℕ) (m : _) (b : List ℕ) → seen d z ≡ Leaf n m b → b ≡ d.bytes n
  leaf_bytes Absent n m b e = let no : Vacant ≡ Leaf n m b = e in cc
  leaf_bytes (Folder k) n m b e = let no : Directory k ≡ Leaf n m b = e in cc
  leaf_bytes (Link k t) n m b e = let no : Symlink k t ≡ Leaf n m b = e in cc
  leaf_bytes (File k) n m b e =
      let l : Leaf k (d.meta k) (d.bytes k) ≡ Leaf n m b = e in
      let i : k ≡ n = cc in
      let j : d.bytes k ≡ b = cc in
      sym j ∙ ap d.bytes i

  seen_picked : (p : Path) (z : Value) → MayShow v z (shows d p) → seen before z ≡ shows d p
  seen_picked p Absent e = sym e
  seen_picked p (Folder m) e = sym e
  seen_picked p (Link m t) e = sym e
  seen_picked p (File n) (b, e, is) =
      let same : b ≡ d.bytes n = leaf_bytes (d.at p) n (v.now.meta n) b e in
      ap (λ m. Leaf n m (before.bytes n)) (before_image.meta n) ∙ ap (Leaf n (v.now.meta n)) (before_bytes n ∙ chosen (v.synced n) (v.now.bytes n) (d.bytes n) b is same) ∙ sym e

  folder_same : (p : Path) → shows before p ≡ shows d p → is_folder (d.at p) ≡ true → is_folder (before.at p) ≡ true
  folder_same p same folder = folder_shows before p (subst IsDirectory (sym same) (folder_directory d (d.at p) folder))

  none_same : (p : Path) → shows before p ≡ shows d p → is_folder (d.at p) ≡ false → is_folder (before.at p) ≡ false
  none_same p same none = by (folder_or_not (before.at p))
    where
      by : (is_folder (before.at p) ≡ true) ⊎ (is_folder (before.at p) ≡ false) → is_folder (before.at p) ≡ false
      by (inl folder) = absurd (not_both (folder_shows d p (subst IsDirectory same (folder_directory before (before.at p) folder))) none)
      by (inr is) = is

  same_under : (f : Path) (x : Name) → inside (under f x) ≡ false → shows before f ≡ shows d f → shows before (under f x) ≡ shows d (under f x)
  same_under f x out same = by (folder_or_not (d.at f))
    where
      by : (is_folder (d.at f) ≡ true) ⊎ (is_folder (d.at f) ≡ false) → shows before (under f x) ≡ shows d (under f x)
      by (inl folder) =
          ap (seen before) (before_under f x ∙ if_folder (is_folder (before.at f)) (pick (under f x)) Absent (folder_same f same folder))
          ∙ seen_picked (under f x) (pick (under f x)) ((picked (under f x)).1.shown f x refl out folder)
      by (inr none) =
          ap (seen before) (before_under f x ∙ if_none (is_folder (before.at f)) (pick (under f x)) Absent (none_same f same none)) ∙ ap (seen d) (sym (image.gone f x none))

  out_above : (f : Path) (x : Name) → inside (under f x) ≡ false → (b : Bool) → inside f ≡ b → inside f ≡ false
  out_above f x out true is = absurd (not_both (closed f x is) out)
  out_above f x out false is = is

  out_front : (g rest : Path) → inside (g ++ rest) ≡ false → inside g ≡ false
  out_front g [] out = subst (λ q. inside q ≡ false) (append-nil g) out
  out_front g (x ∷ rest) out = out_above g x (out_front (under g x) rest (subst (λ q. inside q ≡ false) (sym (append_assoc g (x ∷ []) rest)) out)) (inside g) refl

  same_from : (g rest : Path) → inside (g ++ rest) ≡ false → shows before g ≡ shows d g → shows before (g ++ rest) ≡ shows d (g ++ rest)
  same_from g [] out same = subst (λ q. shows before q ≡ shows d q) (sym (append-nil g)) same
  same_from g (x ∷ rest) out same =
      let on : inside (under g x ++ rest) ≡ false = subst (λ q. inside q ≡ false) (sym (append_assoc g (x ∷ []) rest)) out in
      subst (λ q. shows before q ≡ shows d q) (append_assoc g (x ∷ []) rest) (same_from (under g x) rest on (same_under g x (out_front (under g x) rest on) same))

  root_seen : (z : Value) → is_folder z ≡ true → seen before z ≡ seen d z
  root_seen (Folder m) e = refl
  root_seen Absent e = refl
  root_seen (Link m t) e = refl
  root_seen (File n) e = let no : false ≡ true = e in cc

  same_root : shows before [] ≡ shows d []
  same_root =
      let at : before.at [] ≡ d.at [] = before_image.root ∙ sym root ∙ sym image.root in
      ap (seen before) at ∙ root_seen (d.at []) (ap is_folder (image.root ∙ root) ∙ top)

  pub same_outside : (p : Path) → inside p ≡ false → shows before p ≡ shows d p
  same_outside p out = same_from [] p out same_root
