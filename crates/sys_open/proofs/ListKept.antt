-- What an opening leaves of the list that boots.
use Rattle.std.proofs.Common.{◌≡◌, inl, inr, ⊎_elim, ℕ, ◌≤◌, ◌<◌, arith, refl, sym, ◌∙◌, ap, subst, List, [], ◌∷◌, length, codes}
use Rattle.ost_types.specs.Path.{Name, Path}
use Rattle.fs_trait.specs.View.{Disk}
use Rattle.fs_trait.specs.Seen.{Seen, shows}
use Rattle.repo_layout.specs.declared.folder.Folder.{Folder}
use Rattle.repo_layout.specs.declared.folder.Folder.TheVariants.{Ostree, Repo, Objects, Refs, Heads, State, Tmp, Deploy, Boot, Kernels, Checkouts}
use Rattle.repo_layout.specs.BootPaths.{loader_path}
use Rattle.repo_layout.specs.Paths.{deploy_path, folder_path}
use Rattle.repo_layout.specs.Place.{Place, BootFolder, BootLink, Config, Loader, LoaderFolder, Other, Stage, place}
use Rattle.repo_layout.proofs.Places.{place-boot_folder, place-boot_link, place-config, place-loader, place-loader_folder}
use Rattle.boot_read.specs.declared.row.BootRow.{BootRow}
use Rattle.boot_read.specs.Rows.{AreRowsOf}
use Rattle.durable_list.specs.Standing.{IsInVersion, IsListPath}
use Rattle.durable_list.proofs.Same.{same_rows}
use Rattle.durable_list.proofs.Standing.{itself}
use Rattle.durable_list.proofs.Unwritten.{on_the_way}
use Rattle.rely_guarantee.specs.Rely.{IsBoot}
use Rattle.sys_open.specs.Changes.{Changes, Keeps}
use Rattle.sys_open.proofs.ChangedPlaces.{stage_place_is, staged_place}
use Rattle.sys_open.proofs.LeftOvers.{list_stays}
use Rattle.sys_open.proofs.Reopening.{other}

pub few_names : (f : Folder) → length (folder_path f) ≤ 4
few_names Ostree = omega arith
few_names Repo = omega arith
few_names Objects = omega arith
few_names Refs = omega arith
few_names Heads = omega arith
few_names State = omega arith
few_names Tmp = omega arith
few_names Deploy = omega arith
few_names Boot = omega arith
few_names Kernels = omega arith
few_names Checkouts = omega arith

pub five_names : (os : Name) (commit : List ℕ) (serial : ℕ) → length (deploy_path os commit serial) ≡ 5
unfolding deploy_path
five_names os commit serial = refl

-- no folder that is laid out is one at which the list is read
at_other : (f : Folder) (p : Path) (x : Place) → p ≡ folder_path f → place p ≡ x → x ≡ Other (folder_path f)
at_other f p x e is = sym is ∙ ap place e ∙ other f

not_laid : (d : Disk) (rows : List BootRow) (f : Folder) (p : Path) → p ≡ folder_path f → IsListPath d rows p → ⊥
not_laid d rows f p e (inl is) = let n : Loader ≡ Other (folder_path f) = at_other f p Loader e (ap place is ∙ place-loader) in cc
not_laid d rows f p e (inr (inl (loader, selects, inside))) = by inside
  where
    small : loader < 10
    small = omega (arith, selects.small)

    by : IsInVersion d loader p → ⊥
    by (inl is) = let n : BootLink loader ≡ Other (folder_path f) = at_other f p (BootLink loader) e (ap place is ∙ place-boot_link loader small) in cc
    by (inr (inl (file, is))) =
        let rest : Path = codes "entries" ∷ file ∷ [] in
        let n : LoaderFolder loader rest ≡ Other (folder_path f) = at_other f p (LoaderFolder loader rest) e (ap place is ∙ place-loader_folder loader rest small) in cc
    by (inr (inr (sub, has, rest, is))) =
        let n : BootFolder loader sub rest ≡ Other (folder_path f) = at_other f p (BootFolder loader sub rest) e (ap place is ∙ place-boot_folder loader sub rest small (omega (arith, has.small))) in cc
not_laid d rows f p e (inr (inr (row, among, is))) =
    omega (arith, few_names f, ap length (sym e ∙ is), five_names row.id.os row.id.commit row.id.serial)

pub boot_at : (p : Path) (x : Place) → place p ≡ x → IsBoot (place p) → IsBoot x
boot_at p x is boot = subst IsBoot is boot

list_unchanged : (d : Disk) (rows : List BootRow) → AreRowsOf d rows → (p : Path) (s : Seen) → IsListPath d rows p → Changes d p s → ⊥
list_unchanged d rows are p s is (inl lays) = not_laid d rows lays.0.0 p lays.0.1 is
list_unchanged d rows are p s is (inr (inl clears)) = boot_at p (Stage clears.0) (staged_place clears.0 p clears.1 clears.2.0) (on_the_way d rows p (p, is, itself p))
list_unchanged d rows are p s is (inr (inr (inr cleared))) = list_stays d rows are p is cleared.0
list_unchanged d rows are p s is (inr (inr (inl puts))) = ⊎_elim
    (λ staged. boot_at p (Stage 0) (stage_place_is 0 p (omega arith) staged.0) (on_the_way d rows p (p, is, itself p)))
    (λ put. boot_at p Config (ap place put.0 ∙ place-config) (on_the_way d rows p (p, is, itself p)))
    puts.puts

module _ (d e : Disk) (keeps : Keeps d e) where
  list_kept : (rows : List BootRow) → AreRowsOf d rows → (p : Path) → IsListPath d rows p → shows e p ≡ shows d p
  list_kept rows are p is = ⊎_elim (λ same. same) (λ changes. absurd (list_unchanged d rows are p (shows e p) is changes)) (keeps p)

  pub rows_kept : (rows : List BootRow) → AreRowsOf d rows → AreRowsOf e rows
  rows_kept rows are = same_rows d e rows (list_kept rows are) are

  -- so the boot loader's link is the same
  pub loader_kept : (rows : List BootRow) → AreRowsOf d rows → shows e loader_path ≡ shows d loader_path
  loader_kept rows are = list_kept rows are loader_path (inl refl)
