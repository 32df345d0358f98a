-- Where links are staged, no list is read.
use Rattle.std.proofs.Common.{◌≡◌, ◌≢◌, inl, inr, ℕ, zero, suc, ◌<◌, true, false, List, [], ◌++◌, arith, refl, sym, ◌∙◌, ap, subst}
use Rattle.ost_types.specs.Path.{Path, is_below}
use Rattle.fs_trait.specs.View.{Disk}
use Rattle.fs_trait.proofs.Claims.{is_below-before}
use Rattle.fs_trait.proofs.Images.{not_both}
use Rattle.repo_layout.specs.declared.fixed.Version.{Version}
use Rattle.repo_layout.specs.declared.fixed.Version.TheVariants.{Zero, One}
use Rattle.repo_layout.specs.Fixed.{number}
use Rattle.repo_layout.specs.Place as place
use Rattle.repo_layout.specs.BootPaths.{boot_folder_path, entry_path, loader_folder_path}
use Rattle.boot_read.specs.declared.row.BootRow.{BootRow}
use Rattle.boot_swap.proofs.Spots.{Link, LinkFolder, LinkStage, Loader, LoaderFolder, LoaderStage, Spot, below_trans, off_deployment, path_of, place_of, spots_apart}
use Rattle.boot_swap.proofs.Safe.{off_below}
use Rattle.boot_swap.proofs.Keeping.{entry_below}
use Rattle.durable_list.specs.Standing.{IsInVersion, IsListPath, IsOnTheWay}

pub version_of : (k : ℕ) → k < 2 → (n : Version) × (number n ≡ k)
version_of zero less = (Zero, refl)
version_of (suc zero) less = (One, refl)
version_of (suc (suc k)) less = absurd (omega (arith, less))

-- a place of a swap that is none of those where a list is read
pub record IsAsideOf (a : Spot) : Type 0 where
  pub loader : place_of a ≢ place.Loader
  pub entries : (n : Version) → place_of a ≢ place.LoaderFolder (number n) []
  pub link : (n : Version) → place_of a ≢ place.BootLink (number n)
  pub links : (n sub : Version) → place_of a ≢ place.BootFolder (number n) (number sub) []

pub link_stage_aside : IsAsideOf LinkStage
link_stage_aside = record {
  loader = λ e. let k : place.BootLinkStage ≡ place.Loader = e in cc;
  entries = λ n e. let k : place.BootLinkStage ≡ place.LoaderFolder (number n) [] = e in cc;
  link = λ n e. let k : place.BootLinkStage ≡ place.BootLink (number n) = e in cc;
  links = λ n sub e. let k : place.BootLinkStage ≡ place.BootFolder (number n) (number sub) [] = e in cc;
}

pub loader_stage_aside : IsAsideOf LoaderStage
loader_stage_aside = record {
  loader = λ e. let k : place.LoaderStage ≡ place.Loader = e in cc;
  entries = λ n e. let k : place.LoaderStage ≡ place.LoaderFolder (number n) [] = e in cc;
  link = λ n e. let k : place.LoaderStage ≡ place.BootLink (number n) = e in cc;
  links = λ n sub e. let k : place.LoaderStage ≡ place.BootFolder (number n) (number sub) [] = e in cc;
}

module _ (a : Spot) (aside : IsAsideOf a) (d : Disk) (rows : List BootRow) where
  off_version : (n : Version) (at : Path) → IsInVersion d (number n) at → is_below (path_of a) at ≡ false
  off_version n at (inl is) = ap (is_below (path_of a)) is ∙ (spots_apart a (Link n) (aside.link n)).down
  off_version n at (inr (inl (file, is))) = ap (is_below (path_of a)) is ∙ off_below (path_of a) (loader_folder_path (number n)) (entry_path (number n) file) (spots_apart a (LoaderFolder n) (aside.entries n)) (entry_below (number n) file)
  off_version n at (inr (inr (sub, has, rest, is))) = by (version_of sub has.small)
    where
      by : (s : Version) × (number s ≡ sub) → is_below (path_of a) at ≡ false
      by (s, same) =
          let here : at ≡ boot_folder_path (number n) (number s) ++ rest = subst (λ k. at ≡ boot_folder_path (number n) k ++ rest) (sym same) is in
          ap (is_below (path_of a)) here
          ∙ off_below (path_of a) (boot_folder_path (number n) (number s)) (boot_folder_path (number n) (number s) ++ rest) (spots_apart a (LinkFolder n s) (aside.links n s)) (is_below-before (boot_folder_path (number n) (number s)) rest)

  off_list : (at : Path) → IsListPath d rows at → is_below (path_of a) at ≡ false
  off_list at (inl is) = ap (is_below (path_of a)) is ∙ (spots_apart a Loader aside.loader).down
  off_list at (inr (inl (k, selects, inside))) = by (version_of k selects.small)
    where
      by : (n : Version) × (number n ≡ k) → is_below (path_of a) at ≡ false
      by (n, same) = off_version n at (subst (λ j. IsInVersion d j at) (sym same) inside)
  off_list at (inr (inr (row, among, is))) = ap (is_below (path_of a)) is ∙ off_deployment a row.id.os row.id.commit row.id.serial

  -- nor on the way there
  pub off_way : (p : Path) → is_below (path_of a) p ≡ true → IsOnTheWay d rows p → ⊥
  off_way p below (at, is, on) = not_both (below_trans (path_of a) p at below on) (off_list at is)
