-- What a path may show, some image shows: the claims on paths say no more than those on images.
use Rattle.std.proofs.Common.{◌≡◌, ◌≢◌, ◌⊎◌, inl, inr, ⊎_elim, ℕ, Bool, true, false, IsTrue, refl, sym, ◌∙◌, ap, subst, List, [], ◌∷◌, ◌++◌, append-nil, append_assoc, if◌then◌else◌}
use Rattle.ost_types.specs.Path.{Name, Path, under, is_below}
use Rattle.ost_types.proofs.Paths.{same_or_apart, under-not_root, under-is_below}
use Rattle.fs_trait.specs.declared.types.Value.{Value}
use Rattle.fs_trait.specs.declared.types.Value.TheVariants.{Absent, Folder, Link, File}
use Rattle.fs_trait.specs.View.{Disk, View, put}
use Rattle.fs_trait.specs.Image.{Holds, Image, EachImage, IsTree, is_folder, crashed}
use Rattle.fs_trait.proofs.Puts.{put-here, put-apart}
use Rattle.fs_trait.proofs.Ways.{above}
use Rattle.fs_trait.proofs.Crashes.{Image-crashed, crashed-under}
use Rattle.fs_trait.specs.Seen.{Seen, Leaf, seen, shows, MayShow, MayBe, IsDirectory}
use Rattle.fs_trait.specs.Change.{LeadsTo}
use Rattle.fs_trait.proofs.Claims.{Image-folder}

abbrev any_bytes : Seen → List ℕ
any_bytes (Leaf n m b) = b
any_bytes s = []

module _ (v : View) (f : Path) (x : Name) (s : Seen) (may : MayBe v (under f x) s) where
  left : Disk
  left = crashed (put (under f x) may.value v.now.at) (λ n. any_bytes s) v

  picks : (p : Path) → (under f x ≡ p) ⊎ (under f x ≢ p) → Holds v p (put (under f x) may.value v.now.at p)
  picks p (inl e) = subst (λ q. Holds v q (put (under f x) may.value v.now.at q)) e (subst (Holds v (under f x)) (sym (put-here (under f x) may.value v.now.at)) may.held)
  picks p (inr apart) = inl (put-apart (under f x) may.value v.now.at p apart)

  is_image : Image v left
  unfolding left
  is_image = Image-crashed (put (under f x) may.value v.now.at) (λ n. any_bytes s) v (put-apart (under f x) may.value v.now.at [] (under-not_root f x)) (λ p. picks p (same_or_apart (under f x) p))

  taken : (b : Bool) (y z : Value) → b ≡ true → (if b then y else z) ≡ y
  taken true y z e = refl
  taken false y z e = let n : false ≡ true = e in cc

  at_path : is_folder (left.at f) ≡ true → left.at (under f x) ≡ may.value
  unfolding left
  at_path folder = crashed-under (put (under f x) may.value v.now.at) (λ n. any_bytes s) v f x ∙ taken _ _ _ folder ∙ put-here (under f x) may.value v.now.at

  left_bytes : (n : ℕ) → left.bytes n ≡ (if v.synced n then v.now.bytes n else any_bytes s)
  unfolding crashed left
  left_bytes n = refl

  left_meta : (n : ℕ) → left.meta n ≡ v.now.meta n
  unfolding crashed left
  left_meta n = refl

  chosen : (t : Bool) (now b c : List ℕ) → (IsTrue t → b ≡ now) → b ≡ c → (if t then now else c) ≡ b
  chosen true now b c is e = sym (is refl)
  chosen false now b c is e = sym e

  shown : (z : Value) → MayShow v z s → seen left z ≡ s
  shown Absent e = sym e
  shown (Folder m) e = sym e
  shown (Link m t) e = sym e
  shown (File n) (b, e, is) =
      let c : b ≡ any_bytes s = sym (ap any_bytes e) in
      ap (λ k. Leaf n k (left.bytes n)) (left_meta n) ∙ ap (Leaf n (v.now.meta n)) (left_bytes n ∙ chosen (v.synced n) (v.now.bytes n) b (any_bytes s) is c) ∙ sym e

  -- under folders that each crash leaves
  pub image_shows : ((p : Path) (s : Seen) → MayBe v p s → LeadsTo f p s) → (d : Disk) × Image v d × (shows d (under f x) ≡ s)
  image_shows leads = (left, is_image, ap (seen left) (at_path (Image-folder v left is_image f leads)) ∙ shown may.value may.shown)

-- a claim on all images is one on all that the path may show
pub each_firm : (S : Seen → Type 0) (v : View) (f : Path) (x : Name) → ((p : Path) (s : Seen) → MayBe v p s → LeadsTo f p s)
    → EachImage v (λ d. S (shows d (under f x))) → (s : Seen) → MayBe v (under f x) s → S s
each_firm S v f x leads each s may = let d = image_shows v f x s may leads in subst S d.2 (each d.0 d.1)

folder_directory : (d : Disk) (z : Value) → is_folder z ≡ true → IsDirectory (seen d z)
folder_directory d (Folder m) e = tt
folder_directory d Absent e = let n : false ≡ true = e in cc
folder_directory d (Link m t) e = let n : false ≡ true = e in cc
folder_directory d (File k) e = let n : false ≡ true = e in cc

-- a folder in each image is one that each crash leaves, with all folders above it
module _ (v : View) (tree : IsTree v.now) (f : Path) (each : EachImage v (λ d. is_folder (d.at f) ≡ true)) (root : (s : Seen) → MayBe v [] s → IsDirectory s) where
  image_tree : (d : Disk) → Image v d → IsTree d
  image_tree d i = record { root = ap is_folder i.root ∙ tree.root; folders = i.gone }

  from : (g rest : Path) → g ++ rest ≡ f → ((p : Path) (s : Seen) → MayBe v p s → LeadsTo g p s) → (p : Path) (s : Seen) → MayBe v p s → LeadsTo f p s
  from g [] e leads = subst (λ q. (p : Path) (s : Seen) → MayBe v p s → LeadsTo q p s) (sym (append-nil g) ∙ e) leads
  from g (x ∷ rest) e leads = from (under g x) rest (append_assoc g (x ∷ []) rest ∙ e) (λ p s may below. ⊎_elim (leads p s may) (λ is. here p s may is) (under-is_below p g x below))
    where
      here : (p : Path) (s : Seen) → MayBe v p s → p ≡ under g x → IsDirectory s
      here p s may is =
          let d = image_shows v g x s (subst (λ q. MayBe v q s) is may) leads in
          let folder : is_folder (d.0.at (under g x)) ≡ true = above d.0 (image_tree d.0 d.1) (under g x) rest (subst (λ q. is_folder (d.0.at q) ≡ true) (sym (append_assoc g (x ∷ []) rest ∙ e)) (each d.0 d.1)) in
          subst IsDirectory d.2 (folder_directory d.0 (d.0.at (under g x)) folder)

  root_only : (p : Path) → is_below p [] ≡ true → p ≡ []
  unfolding is_below
  root_only [] e = refl
  root_only (a ∷ p) e = let n : false ≡ true = e in cc

  pub each_leads : (p : Path) (s : Seen) → MayBe v p s → LeadsTo f p s
  each_leads = from [] f refl (λ p s may below. root s (subst (λ q. MayBe v q s) (root_only p below) may))
