-- What the list doesn't name lies apart from what a new deployment is made of.
use Rattle.std.proofs.Common.{◌≡◌, ◌+◌, ℕ, true, List, [], ◌∷◌, ◌++◌, length, codes, sym, ◌∙◌, ap, subst, arith, length-append}
use Rattle.ost_types.specs.Path.{Name, Path, is_below, is_in, under}
use Rattle.ost_types.proofs.Paths.{under-is_in}
use Rattle.etc_merge.proofs.Orders.{rest_below}
use Rattle.repo_layout.specs.Paths.{object_path, stage_path}
use Rattle.repo_layout.specs.BootPaths.{kernel_path}
use Rattle.boot_model.specs.declared.item.DepId.{DepId}
use Rattle.checkout.specs.CheckoutFolder.{leaf_path}
use Rattle.deploy_clean.specs.Steps.{Goes}
use Rattle.deploy_clean.proofs.Places.{unlisted_under}
use Rattle.deployment_build.specs.Deployment.{deployments}

-- a name in the folder of a stateroot's deployments, or a path below one
pub record IsDeep (p : Path) : Type 0 where
  pub os : Name
  pub name : Name
  pub rest : Path
  pub is : p ≡ codes "ostree" ∷ codes "deploy" ∷ os ∷ codes "deploy" ∷ name ∷ rest

pub goes_deep : (listed : List DepId) (p : Path) → Goes listed p → IsDeep p
goes_deep listed p goes =
    let u = unlisted_under listed goes.0 goes.1 in
    let r = rest_below goes.0 p goes.2 in
    record { os = u.os; name = u.name; rest = r.0; is = r.1 ∙ ap (λ q. q ++ r.0) u.at }

-- ---- paths that aren't so deep

deep_repo : (rest : Path) → ¬ (IsDeep (codes "ostree" ∷ codes "repo" ∷ rest))
deep_repo rest deep =
    let e : codes "ostree" ∷ codes "repo" ∷ rest ≡ codes "ostree" ∷ codes "deploy" ∷ deep.os ∷ codes "deploy" ∷ deep.name ∷ deep.rest = deep.is in
    let second : codes "repo" ≡ codes "deploy" = cc in
    let n : 4 ≡ 6 = ap length second in
    omega (arith, n)

pub deep_object : (sum : List ℕ) → ¬ (IsDeep (leaf_path sum))
unfolding object_path
deep_object sum deep = deep_repo _ deep

pub deep_stage : (actor : ℕ) → ¬ (IsDeep (stage_path actor))
unfolding stage_path
deep_stage actor deep = deep_repo _ deep

pub deep_kernel : (os bootcsum : List ℕ) → ¬ (IsDeep (kernel_path os bootcsum))
unfolding kernel_path
deep_kernel os bootcsum deep =
    let e : codes "boot" ∷ codes "ostree" ∷ (os ++ _) ∷ [] ≡ codes "ostree" ∷ codes "deploy" ∷ deep.os ∷ codes "deploy" ∷ deep.name ∷ deep.rest = deep.is in
    let head : codes "boot" ≡ codes "ostree" = cc in
    let n : 4 ≡ 6 = ap length head in
    omega (arith, n)

-- ---- folders on the way

-- a name below a deep path is deep
deeper : (p : Path) (x : Name) → IsDeep p → IsDeep (under p x)
deeper p x deep = record { os = deep.os; name = deep.name; rest = deep.rest ++ x ∷ []; is = ap (λ q. under q x) deep.is }

pub deep_above : (p q : Path) → is_in p q ≡ true → IsDeep p → IsDeep q
deep_above p q in_ deep = let u = under-is_in p q in_ in subst IsDeep (sym u.1) (deeper p u.0 deep)

-- none of them leads to the deployments of a stateroot
pub deep_way : (os : Name) (p : Path) → is_below p (deployments os) ≡ true → ¬ (IsDeep p)
deep_way os p below deep =
    let r = rest_below p (deployments os) below in
    let n : 4 ≡ length p + length r.0 = ap length r.1 ∙ length-append p r.0 in
    let m = ap length deep.is in
    omega (arith, n, m)
