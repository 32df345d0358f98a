-- Whose places those are where the list is read, and on the way there.
use Rattle.std.proofs.Common.{◌≡◌, inl, inr, ⊎_elim, ℕ, Bool, true, false, refl, sym, ◌∙◌, subst, List, [], ◌∷◌, ◌++◌, codes, if◌then◌else◌, ◌==◌, length, take, drop}
use Rattle.std.specs.Fmt.{decimal}
use Rattle.ost_types.specs.Csum.{hex_of}
use Rattle.ost_types.specs.Path.{Name, Path, same_name, same_path}
use Rattle.fs_trait.specs.View.{Disk, View}
use Rattle.fs_trait.specs.Seen.{Seen, shows}
use Rattle.fs_trait.specs.Change.{Writes}
use Rattle.repo_layout.specs.BootPaths.{boot_folder_path, boot_link_path, boot_link_stage_path, entry_path, loader_folder_path, loader_path, loader_stage_path, origin_path, staged_path}
use Rattle.repo_layout.specs.Paths.{deploy_path}
use Rattle.repo_layout.specs.Place.{Place, Deployment, Etc, Origin, Staged, BootLink, BootLinkStage, BootFolder, Loader, LoaderStage, LoaderFolder, KernelCopy, Other, place, only_at, sum_of, boot_place, kernel_place, ostree_place, deploy_place, deployed_place, boot_links_place, in_deployment}
use Rattle.layout_rules.proofs.Layouts.{below_split}
use Rattle.rely_guarantee.specs.Rely.{IsBoot}
use Rattle.boot_read.specs.declared.row.BootRow.{BootRow}
use Rattle.durable_list.specs.Standing.{IsInVersion, IsListPath, IsOnTheWay, SparesList}

either : (b : Bool) (x y : Place) → IsBoot x → IsBoot y → IsBoot (if b then x else y)
either true x y one other = one
either false x y one other = other

only : (path p : Path) (x : Place) → IsBoot x → IsBoot (only_at path p x)
only path p x is = either (same_path path p) x (Other p) is tt

in_kernels : (p rest : Path) → IsBoot (kernel_place p rest)
unfolding kernel_place
in_kernels p [] = tt
in_kernels p (folder ∷ rest) = only _ p (KernelCopy _ _ rest) tt

in_boot : (p rest : Path) → IsBoot (boot_place p rest)
unfolding boot_place
in_boot p [] = tt
in_boot p (part ∷ rest) = either (length part == 8) _ _ (only _ p (LoaderFolder _ rest) tt)
    (either (same_name part (codes "loader")) _ _ (only loader_path p Loader tt)
    (either (same_name part (codes "ostree")) _ _ (in_kernels p rest) (only loader_stage_path p LoaderStage tt)))

deployed : (os : Name) (commit : List ℕ) (serial : ℕ) (rest : Path) → IsBoot (in_deployment os commit serial rest)
deployed os commit serial [] = tt
deployed os commit serial (x ∷ rest) = either (same_name x (codes "etc")) (Etc os commit serial rest) (Deployment os commit serial (x ∷ rest)) tt tt

in_deploy : (p rest : Path) → IsBoot (deploy_place p rest)
unfolding deploy_place deployed_place
in_deploy p [] = tt
in_deploy p (os ∷ []) = tt
in_deploy p (os ∷ deploy ∷ []) = tt
in_deploy p (os ∷ deploy ∷ id ∷ rest) = either (same_name deploy (codes "deploy")) _ (Other p)
    (either (same_path (origin_path os (sum_of (take 64 id)) _ ++ rest) p) (Origin os _ _) _ tt (only _ p (in_deployment os _ _ rest) (deployed os _ _ rest))) tt

in_links : (p : Path) (part : Name) (rest : Path) → IsBoot (boot_links_place p part rest)
unfolding boot_links_place
in_links p part rest = either (length part == 6) _ _ (only _ p (BootLink _) tt)
    (either (same_name (take 1 (drop 6 part)) (codes ".")) _ _ (only _ p (BootFolder _ _ rest) tt) (only boot_link_stage_path p BootLinkStage tt))

beside : (b : Bool) (x y : Place) → b ≡ false → IsBoot y → IsBoot (if b then x else y)
beside true x y e is = let n : true ≡ false = e in cc
beside false x y e is = is

in_ostree : (p : Path) (part : Name) (rest : Path) → same_name part (codes "repo") ≡ false → IsBoot (ostree_place p (part ∷ rest))
unfolding ostree_place
in_ostree p part rest other = beside (same_name part (codes "repo")) _ _ other
    (either (same_name part (codes "deploy")) _ _ (in_deploy p rest)
    (either (same_name part (codes "staged")) _ _ (only staged_path p Staged tt) (in_links p part rest)))

below_boot : (rest : Path) → IsBoot (place (codes "boot" ∷ rest))
unfolding place
below_boot rest = in_boot (codes "boot" ∷ rest) rest

at_ostree : IsBoot (place (codes "ostree" ∷ []))
unfolding place ostree_place
at_ostree = tt

below_ostree : (part : Name) (rest : Path) → same_name part (codes "repo") ≡ false → IsBoot (place (codes "ostree" ∷ part ∷ rest))
unfolding place
below_ostree part rest other = in_ostree (codes "ostree" ∷ part ∷ rest) part rest other

at_root : IsBoot (place [])
unfolding place
at_root = tt

-- ---- what lies on the way

pub way_boot : (p rest more : Path) → codes "boot" ∷ more ≡ p ++ rest → IsBoot (place p)
way_boot [] rest more e = at_root
way_boot (x ∷ p) rest more e = let first : codes "boot" ≡ x = cc in subst (λ y. IsBoot (place (y ∷ p))) first (below_boot p)

pub way_ostree : (p rest more : Path) (part : Name) → same_name part (codes "repo") ≡ false → codes "ostree" ∷ part ∷ more ≡ p ++ rest → IsBoot (place p)
way_ostree [] rest more part other e = at_root
way_ostree (x ∷ []) rest more part other e = let first : codes "ostree" ≡ x = cc in subst (λ y. IsBoot (place (y ∷ []))) first at_ostree
way_ostree (x ∷ y ∷ p) rest more part other e =
    let first : codes "ostree" ≡ x = cc in
    let second : part ≡ y = cc in
    subst (λ z. IsBoot (place (z ∷ y ∷ p))) first (below_ostree y p (subst (λ z. same_name z (codes "repo") ≡ false) second other))

from_entries : (p rest : Path) (loader : ℕ) (file : Name) → entry_path loader file ≡ p ++ rest → IsBoot (place p)
unfolding loader_folder_path
from_entries p rest loader file e = way_boot p rest ((codes "loader." ++ decimal loader) ∷ codes "entries" ∷ file ∷ []) e

from_link : (p rest : Path) (loader : ℕ) → boot_link_path loader ≡ p ++ rest → IsBoot (place p)
unfolding boot_link_path
from_link p rest loader e = way_ostree p rest [] (codes "boot." ++ decimal loader) refl e

from_links : (p rest more : Path) (loader sub : ℕ) → boot_folder_path loader sub ++ more ≡ p ++ rest → IsBoot (place p)
unfolding boot_folder_path
from_links p rest more loader sub e = way_ostree p rest more (codes "boot." ++ (decimal loader ++ (46 ∷ decimal sub))) refl e

from_deployment : (p rest : Path) (os : Name) (commit : List ℕ) (serial : ℕ) → deploy_path os commit serial ≡ p ++ rest → IsBoot (place p)
unfolding deploy_path
from_deployment p rest os commit serial e = way_ostree p rest (os ∷ codes "deploy" ∷ (hex_of commit ++ (46 ∷ decimal serial)) ∷ []) (codes "deploy") refl e

pub on_the_way : (d : Disk) (rows : List BootRow) (p : Path) → IsOnTheWay d rows p → IsBoot (place p)
on_the_way d rows p (at, is, below) = by is
  where
    split : (rest : Path) × (at ≡ p ++ rest)
    split = below_split p at below

    in_version : (loader : ℕ) → IsInVersion d loader at → IsBoot (place p)
    in_version loader (inl e) = from_link p split.0 loader (sym e ∙ split.1)
    in_version loader (inr (inl (file, e))) = from_entries p split.0 loader file (sym e ∙ split.1)
    in_version loader (inr (inr (sub, has, more, e))) = from_links p split.0 more loader sub (sym e ∙ split.1)

    by : IsListPath d rows at → IsBoot (place p)
    by (inl e) = way_boot p split.0 (codes "loader" ∷ []) (sym e ∙ split.1)
    by (inr (inl (loader, selects, inside))) = in_version loader inside
    by (inr (inr (row, among, e))) = from_deployment p split.0 row.id.os row.id.commit row.id.serial (sym e ∙ split.1)

-- So whoever writes nothing there spares the list.
pub aside_spares : (base : Disk) (rows : List BootRow) (v w : View) (W : Path → Seen → Type 0) → ((p : Path) (s : Seen) → W p s → IsOnTheWay base rows p → ⊥) → Writes W v w → SparesList base rows v w
aside_spares base rows v w W aside writes = record {
  now = λ p way. ⊎_elim (λ same. same) (λ wrote. absurd (aside p (shows w.now p) wrote way)) (writes.now p);
  each = λ p s way may. ⊎_elim (λ was. inl was) (λ wrote. absurd (aside p s wrote way)) (writes.only p s may);
}
