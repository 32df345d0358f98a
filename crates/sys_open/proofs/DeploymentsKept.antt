-- What an opening leaves of the deployments of the list that boots.
use Rattle.std.proofs.Common.{Contains, ◌≡◌, inl, inr, ⊎_elim, ℕ, arith, refl, sym, ◌∙◌, ap, subst, List, [], ◌∷◌, ◌++◌, length, length-append, codes}
use Rattle.ost_types.specs.declared.limits.Limits.{Limits}
use Rattle.ost_types.specs.Path.{Name, Path, under}
use Rattle.fs_trait.specs.View.{Disk}
use Rattle.fs_trait.specs.Seen.{Seen, shows}
use Rattle.repo_layout.specs.declared.folder.Folder.{Folder}
use Rattle.repo_layout.specs.declared.folder.Folder.TheVariants.{Ostree, Repo, Objects, Refs, Heads, State, Tmp, Deploy, Boot, Kernels, Checkouts}
use Rattle.repo_layout.specs.BootPaths.{kernel_path}
use Rattle.repo_layout.specs.Paths.{folder_path}
use Rattle.repo_layout.specs.Place.{Config, Stage, place}
use Rattle.repo_layout.proofs.Places.{place-config}
use Rattle.boot_model.specs.declared.item.DepId.{DepId}
use Rattle.boot_read.specs.declared.row.BootRow.{BootRow}
use Rattle.boot_read.specs.Rows.{AreRowsOf}
use Rattle.deployment_check.specs.Deployments.{IsId, IsWholeDeployment, home_of}
use Rattle.durable_list.proofs.Standing.{itself}
use Rattle.durable_deployments.specs.Standing.{IsDeploymentPath, IsInDeployment}
use Rattle.durable_deployments.proofs.Same.{same_deployment}
use Rattle.durable_deployments.proofs.Stores.{reached_sum}
use Rattle.durable_deployments.proofs.Unwritten.{on_the_way}
use Rattle.sys_open.specs.Changes.{Changes, Keeps}
use Rattle.durable_list.specs.Standing.{ids_of}
use Rattle.sys_open.proofs.ChangedPlaces.{object_unchanged, stage_place_is, staged_place}
use Rattle.sys_open.proofs.LeftOvers.{deployment_stays, named_row, row_id}
use Rattle.sys_open.proofs.ListKept.{boot_at, few_names, five_names}

-- no folder that is laid out is one of a deployment, or stands in one
four_names : (os : Name) (bootcsum : List ℕ) (file : Name) → length (under (kernel_path os bootcsum) file) ≡ 4
unfolding kernel_path
four_names os bootcsum file = refl

copies_not_laid : (f : Folder) (os : Name) (bootcsum : List ℕ) (file : Name) → folder_path f ≡ under (kernel_path os bootcsum) file → ⊥
unfolding kernel_path
copies_not_laid Ostree os bootcsum file e = omega (arith, ap length e)
copies_not_laid Repo os bootcsum file e = omega (arith, ap length e)
copies_not_laid Objects os bootcsum file e = omega (arith, ap length e)
copies_not_laid Refs os bootcsum file e = omega (arith, ap length e)
copies_not_laid Heads os bootcsum file e = let first : codes "ostree" ≡ codes "boot" = cc in cc
copies_not_laid State os bootcsum file e = omega (arith, ap length e)
copies_not_laid Tmp os bootcsum file e = omega (arith, ap length e)
copies_not_laid Deploy os bootcsum file e = omega (arith, ap length e)
copies_not_laid Boot os bootcsum file e = omega (arith, ap length e)
copies_not_laid Kernels os bootcsum file e = omega (arith, ap length e)
copies_not_laid Checkouts os bootcsum file e = omega (arith, ap length e)

-- the list that the disk boots names it
pub record IsRow (d : Disk) (id : DepId) : Type 0 where
  pub rows : List BootRow
  pub are : AreRowsOf d rows
  pub named : IsId id
  pub among : Contains (ids_of rows) id

pub row_of : (d : Disk) (rows : List BootRow) (row : BootRow) → AreRowsOf d rows → Contains rows row → IsRow d row.id
row_of d rows row are among = record { rows = rows; are = are; named = row_id d rows row among are; among = named_row rows row among }

module _ (id : DepId) (bootcsum : List ℕ) where
  home_not_laid : (f : Folder) (rest : Path) → folder_path f ≡ home_of id ++ rest → ⊥
  home_not_laid f rest e =
      omega (arith, few_names f, ap length e, five_names id.os id.commit id.serial, length-append (home_of id) rest)

  not_laid : (f : Folder) (p : Path) → p ≡ folder_path f → IsInDeployment id bootcsum p → ⊥
  not_laid f p e (inl (rest, outside, at)) = home_not_laid f rest (sym e ∙ at)
  not_laid f p e (inr (inl at)) = home_not_laid f (codes "etc" ∷ []) (sym e ∙ at)
  not_laid f p e (inr (inr (file, at))) = copies_not_laid f id.os bootcsum file (sym e ∙ at)

  own_unchanged : (d : Disk) → IsRow d id → (p : Path) (s : Seen) → IsInDeployment id bootcsum p → Changes d p s → ⊥
  own_unchanged d row p s at (inl lays) = not_laid lays.0.0 p lays.0.1 at
  own_unchanged d row p s at (inr (inl clears)) = boot_at p (Stage clears.0) (staged_place clears.0 p clears.1 clears.2.0) (on_the_way id bootcsum p (p, at, itself p))
  own_unchanged d row p s at (inr (inr (inr cleared))) = deployment_stays d row.rows row.are id bootcsum row.named row.among p at cleared.0
  own_unchanged d row p s at (inr (inr (inl puts))) = ⊎_elim
      (λ staged. boot_at p (Stage 0) (stage_place_is 0 p (omega arith) staged.0) (on_the_way id bootcsum p (p, at, itself p)))
      (λ put. boot_at p Config (ap place put.0 ∙ place-config) (on_the_way id bootcsum p (p, at, itself p)))
      puts.puts

  module _ (limits : Limits) (d e : Disk) (keeps : Keeps d e) (row : IsRow d id) (is : IsWholeDeployment limits d id bootcsum) where
    unchanged : (p : Path) (s : Seen) → IsDeploymentPath d id bootcsum p → Changes d p s → ⊥
    unchanged p s (inl (o, reached, at)) changes = object_unchanged d o s (reached_sum limits d id.commit is.tree is.has o reached) (subst (λ q. Changes d q s) at changes)
    unchanged p s (inr at) changes = own_unchanged d row p s at changes

    pub deployment_kept : IsWholeDeployment limits e id bootcsum
    deployment_kept = same_deployment limits d e id bootcsum (λ p at. ⊎_elim (λ same. same) (λ changes. absurd (unchanged p (shows e p) at changes)) (keeps p)) is
