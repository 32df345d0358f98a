-- The places where a swap writes, and that they don't lie on each other's way.
use Rattle.std.proofs.Common.{◌≡◌, ◌≢◌, ◌⊎◌, inl, inr, ⊎_elim, ℕ, suc, ◌<◌, arith, Bool, true, false, ◌&&◌, List, [], ◌∷◌, length, append-nil, refl, sym, ◌∙◌, ap}
use Rattle.ost_types.specs.Path.{Name, Path, is_below}
use Rattle.ost_types.proofs.Paths.{is_below-self, same_name-Decides}
use Rattle.fs_trait.proofs.Images.{not_both}
use Rattle.repo_layout.specs.declared.fixed.Version.{Version}
use Rattle.repo_layout.specs.declared.fixed.Version.TheVariants.{Zero, One}
use Rattle.repo_layout.specs.declared.folder.Folder.TheVariants.{Boot, Ostree}
use Rattle.repo_layout.specs.Fixed.{number}
use Rattle.repo_layout.specs.Paths.{deploy_path, folder_path}
use Rattle.repo_layout.specs.BootPaths.{boot_folder_path, boot_link_path, boot_link_stage_path, loader_folder_path, loader_path, loader_stage_path}
use Rattle.repo_layout.specs.Place as place
use Rattle.repo_layout.specs.Place.{Place}
use Rattle.repo_layout.proofs.Places.{place-boot_folder, place-boot_link, place-boot_link_stage, place-loader, place-loader_folder, place-loader_stage}
use Rattle.boot_swap.specs.Steps.{IsAround}

both_true : (a b : Bool) → a && b ≡ true → (a ≡ true) × (b ≡ true)
both_true true true e = (refl, refl)
both_true true false e = let n : false ≡ true = e in cc
both_true false b e = let n : false ≡ true = e in cc

pub true_or_not : (b : Bool) → (b ≡ true) ⊎ (b ≡ false)
true_or_not true = inl refl
true_or_not false = inr refl

-- ---- paths

pub below_trans : (a b c : Path) → is_below a b ≡ true → is_below b c ≡ true → is_below a c ≡ true
unfolding is_below
below_trans [] b c one two = refl
below_trans (x ∷ a) [] c one two = let n : false ≡ true = one in cc
below_trans (x ∷ a) (y ∷ b) [] one two = let n : false ≡ true = two in cc
below_trans (x ∷ a) (y ∷ b) (z ∷ c) one two =
    let s = both_true _ _ one in
    let t = both_true _ _ two in
    rw ((same_name-Decides x z).1 ((same_name-Decides x y).0 s.0 ∙ (same_name-Decides y z).0 t.0), below_trans a b c s.1 t.1) refl

pub below_both : (a b p : Path) → is_below a p ≡ true → is_below b p ≡ true → (is_below a b ≡ true) ⊎ (is_below b a ≡ true)
unfolding is_below
below_both [] b p one two = inl refl
below_both (x ∷ a) [] p one two = inr refl
below_both (x ∷ a) (y ∷ b) [] one two = let n : false ≡ true = one in cc
below_both (x ∷ a) (y ∷ b) (z ∷ p) one two =
    let s = both_true _ _ one in
    let t = both_true _ _ two in
    let e : x ≡ y = (same_name-Decides x z).0 s.0 ∙ sym ((same_name-Decides y z).0 t.0) in
    ⊎_elim
    (λ l. inl (rw ((same_name-Decides x y).1 e) l))
    (λ r. inr (rw ((same_name-Decides y x).1 (sym e)) r))
    (below_both a b p s.1 t.1)

-- of paths of one length each is below itself alone
pub below_same : (a b : Path) → length a ≡ length b → is_below a b ≡ true → a ≡ b
unfolding is_below
below_same [] [] whole below = refl
below_same [] (y ∷ b) whole below = let n : 0 ≡ suc (length b) = whole in absurd (omega (arith, n))
below_same (x ∷ a) [] whole below = let n : false ≡ true = below in cc
below_same (x ∷ a) (y ∷ b) whole below =
    let s = both_true _ _ below in
    let n : suc (length a) ≡ suc (length b) = whole in
    let head : x ≡ y = (same_name-Decides x y).0 s.0 in
    let rest : a ≡ b = below_same a b (omega (arith, n)) s.1 in
    cc (head, rest)

-- neither lies on the other's way
pub record IsApart (a b : Path) : Type 0 where
  pub down : is_below a b ≡ false
  pub up : is_below b a ≡ false

pub apart_back : (a b : Path) → IsApart a b → IsApart b a
apart_back a b apart = record { down = apart.up; up = apart.down }

pub apart_of : (a b : Path) → length a ≡ length b → a ≢ b → IsApart a b
apart_of a b whole other = record {
  down = ⊎_elim (λ t. absurd (other (below_same a b whole t))) (λ f. f) (true_or_not (is_below a b));
  up = ⊎_elim (λ t. absurd (other (sym (below_same b a (sym whole) t)))) (λ f. f) (true_or_not (is_below b a));
}

-- what lies at or below a path that is apart from another isn't around that one
pub apart_around : (a b p : Path) → IsApart a b → is_below a p ≡ true → IsAround b p → ⊥
apart_around a b p apart below (inl on_way) = not_both (below_trans a p b below on_way) apart.down
apart_around a b p apart below (inr under) = ⊎_elim (λ l. not_both l apart.down) (λ r. not_both r apart.up) (below_both a b p below under)

pub around_self : (a : Path) → IsAround a a
around_self a = inl (is_below-self a)

-- ---- where a swap writes

pub data Spot : Type 0 where
  Loader : Spot
  LoaderStage : Spot
  LoaderFolder : Version → Spot
  Link : Version → Spot
  LinkStage : Spot
  LinkFolder : Version → Version → Spot

abbrev pub path_of : Spot → Path
path_of Loader = loader_path
path_of LoaderStage = loader_stage_path
path_of (LoaderFolder n) = loader_folder_path (number n)
path_of (Link n) = boot_link_path (number n)
path_of LinkStage = boot_link_stage_path
path_of (LinkFolder n sub) = boot_folder_path (number n) (number sub)

abbrev pub place_of : Spot → Place
place_of Loader = place.Loader
place_of LoaderStage = place.LoaderStage
place_of (LoaderFolder n) = place.LoaderFolder (number n) []
place_of (Link n) = place.BootLink (number n)
place_of LinkStage = place.BootLinkStage
place_of (LinkFolder n sub) = place.BootFolder (number n) (number sub) []

small : (n : Version) → number n < 10
small Zero = omega arith
small One = omega arith

placed : (a : Spot) → place.place (path_of a) ≡ place_of a
placed Loader = place-loader
placed LoaderStage = place-loader_stage
placed (LoaderFolder n) = ap place.place (sym (append-nil (loader_folder_path (number n)))) ∙ place-loader_folder (number n) [] (small n)
placed (Link n) = place-boot_link (number n) (small n)
placed LinkStage = place-boot_link_stage
placed (LinkFolder n sub) = ap place.place (sym (append-nil (boot_folder_path (number n) (number sub)))) ∙ place-boot_folder (number n) (number sub) [] (small n) (small sub)

two : (a : Spot) → length (path_of a) ≡ 2
unfolding loader_folder_path boot_link_path boot_folder_path
two Loader = refl
two LoaderStage = refl
two (LoaderFolder n) = refl
two (Link n) = refl
two LinkStage = refl
two (LinkFolder n sub) = refl

pub spots_apart : (a b : Spot) → (place_of a ≢ place_of b) → IsApart (path_of a) (path_of b)
spots_apart a b other = apart_of (path_of a) (path_of b) (two a ∙ sym (two b)) (λ e. other (sym (placed a) ∙ ap place.place e ∙ placed b))

pub spots_differ : (a b : Spot) → (place_of a ≢ place_of b) → path_of a ≢ path_of b
spots_differ a b other e = other (sym (placed a) ∙ ap place.place e ∙ placed b)

-- two versions have two numbers
pub same_number : (n m : Version) → number n ≡ number m → n ≡ m
same_number Zero Zero e = refl
same_number One One e = refl
same_number Zero One e = let k : 0 ≡ 1 = e in absurd (omega (arith, k))
same_number One Zero e = let k : 1 ≡ 0 = e in absurd (omega (arith, k))

-- ---- the folders and the deployments

pub off_boot : (a : Spot) → is_below (path_of a) (folder_path Boot) ≡ false
unfolding is_below loader_folder_path boot_link_path boot_folder_path
off_boot Loader = refl
off_boot LoaderStage = refl
off_boot (LoaderFolder n) = refl
off_boot (Link n) = refl
off_boot LinkStage = refl
off_boot (LinkFolder n sub) = refl

pub off_ostree : (a : Spot) → is_below (path_of a) (folder_path Ostree) ≡ false
unfolding is_below loader_folder_path boot_link_path boot_folder_path
off_ostree Loader = refl
off_ostree LoaderStage = refl
off_ostree (LoaderFolder n) = refl
off_ostree (Link n) = refl
off_ostree LinkStage = refl
off_ostree (LinkFolder n sub) = refl

pub off_deployment : (a : Spot) (os : Name) (commit : List ℕ) (serial : ℕ) → is_below (path_of a) (deploy_path os commit serial) ≡ false
unfolding is_below loader_folder_path boot_link_path boot_folder_path deploy_path
off_deployment Loader os commit serial = refl
off_deployment LoaderStage os commit serial = refl
off_deployment (LoaderFolder n) os commit serial = refl
off_deployment (Link n) os commit serial = refl
off_deployment LinkStage os commit serial = refl
off_deployment (LinkFolder n sub) os commit serial = refl
