-- Where all at the paths of deployments and of what boots them can be removed, it is within the bounds of paths; and the other way round.
use Rattle.std.proofs.Common.{◌≡◌, ◌≢◌, ◌⊎◌, inl, inr, ◌++◌, ◌∷◌, [], arith, sym, ◌∙◌, ap, subst, codes, append-nil, append_assoc}
use Rattle.ost_types.specs.Path.{Name, Path, IsPath, under}
use Rattle.ost_types.proofs.HexSums.{IsHexSum-hex_of}
use Rattle.ost_types.proofs.Paths.{is_below-under, root_or_under}
use Rattle.fs_trait.specs.View.{Disk}
use Rattle.fs_trait.specs.Seen.{seen, shows}
use Rattle.fs_trait.proofs.Facts.{vacant_absent}
use Rattle.repo_layout.specs.declared.folder.Folder.TheVariants.{Boot, Ostree}
use Rattle.repo_layout.specs.BootPaths.{boot_link_stage_path, loader_path, loader_stage_path, origin_path}
use Rattle.repo_layout.specs.Fixed.{fixed_path}
use Rattle.repo_layout.proofs.KnownPaths.{IsKnown, fixed-known}
use Rattle.layout_rules.proofs.Layouts.{below_split, split_below}
use Rattle.boot_model.specs.declared.item.DepId.{DepId}
use Rattle.boot_plan.proofs.Plain.{boot_stage-name, folder_child, loader-name, loader_stage-name}
use Rattle.deployment_build.specs.Deployment.{origin_name}
use Rattle.deployment_build.proofs.Apart.{origin_under}
use Rattle.deployment_build.proofs.PathBounds.{deployed-path, deployments-path, origin-name, os-name}
use Rattle.deployment_check.specs.Deployments.{IsId}
use Rattle.deployment_check.proofs.Rooms.{room_below}
use Rattle.sys_open.specs.LeftOver.{CanGo, HasBoundedDeployments}
use Rattle.durable_deployments.specs.Bounds.{IsOfBoot, MayBeLeftOver}

-- ---- these are paths

origin_is : (id : DepId) → IsId id → IsPath (origin_path id.os id.commit id.serial)
origin_is id is =
    subst IsPath (sym (origin_under id))
    (deployed-path id.os (origin_name id) (deployments-path id.os (os-name id.os is.stateroot)) (origin-name id (IsHexSum-hex_of id.commit is.sum.whole is.sum.bytes) is.small))

loader_stage_is : IsPath loader_stage_path
loader_stage_is = folder_child Boot (codes "loader.tmp") (λ e. cc) loader_stage-name

link_stage_is : IsPath boot_link_stage_path
link_stage_is = folder_child Ostree (codes "boot.tmp") (λ e. cc) boot_stage-name

loader_is : IsPath loader_path
loader_is = folder_child Boot (codes "loader") (λ e. cc) loader-name

known_is : (p : Path) → IsKnown p → IsPath p
known_is p known = record { names = known.names; few = omega (arith, known.few); short = omega (arith, known.short) }

boot_is : (q : Path) → IsOfBoot q → IsPath q
boot_is q (inl is) = subst IsPath (sym is) loader_is
boot_is q (inr (fixed, so, is)) = subst IsPath (sym is) (known_is (fixed_path fixed) (fixed-known fixed))

may_path : (q : Path) → MayBeLeftOver q → IsPath q
may_path q (inl is) = subst IsPath (sym is) loader_stage_is
may_path q (inr (inl is)) = subst IsPath (sym is) link_stage_is
may_path q (inr (inr (inl of))) = boot_is q of
may_path q (inr (inr (inr (id, is, inl home)))) = subst IsPath (sym home) (room_below id is).path
may_path q (inr (inr (inr (id, is, inr origin)))) = subst IsPath (sym origin) (origin_is id is)

-- ---- and so is what is below them

pub bounded_of : (d : Disk) → ((p : Path) → CanGo d p) → HasBoundedDeployments d
bounded_of d can_go p (q, may, below) there = by (root_or_under s.0)
  where
    s : (rest : Path) × (p ≡ q ++ rest)
    s = below_split q p below

    by : (s.0 ≡ []) ⊎ ((f : Path) × (x : Name) × (s.0 ≡ under f x)) → IsPath p
    by (inl none) = subst IsPath (sym (s.1 ∙ ap (λ r. q ++ r) none ∙ append-nil q)) (may_path q may)
    by (inr (f, x, is)) =
        let same : p ≡ under (q ++ f) x = s.1 ∙ ap (λ r. q ++ r) is ∙ sym (append_assoc q f (x ∷ [])) in
        subst IsPath (sym same) (can_go (q ++ f) (q, may, split_below q f) x (λ none. there (ap (shows d) same ∙ ap (seen d) none)))

pub goes_of : (d : Disk) → HasBoundedDeployments d → (p : Path) → CanGo d p
goes_of d bounded p (q, may, below) x there = bounded (under p x) (q, may, is_below-under q p x below) (λ vacant. there (vacant_absent d (under p x) vacant))
