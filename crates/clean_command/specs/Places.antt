-- Whose places those are where something is to go.
use Rattle.std.proofs.Common.{◌≡◌, ◌≢◌, inl, inr, ◌<◌, ◌^◌, ℕ, Bool, true, false, List, [], ◌∷◌, ◌++◌, append-nil, Some, refl, sym, ◌∙◌, ap, subst, arith, codes}
use Rattle.ost_types.specs.Path.{Name, Path, same_name, under}
use Rattle.ost_types.proofs.Paths.{same_name-Decides}
use Rattle.fs_trait.specs.Seen.{Seen, Vacant}
use Rattle.fs_trait.specs.View.{View}
use Rattle.repo_layout.specs.BootPaths.{loader_path, origin_path}
use Rattle.repo_layout.specs.Paths.{deploy_path}
use Rattle.repo_layout.specs.Place.{Place, Config, Stage, Ref, ObjectsFolder, Object, Mark, Summary, Deployment, Etc, Origin, Staged, BootLink, BootLinkStage, BootFolder, Loader, LoaderStage, LoaderFolder, KernelCopy, Checkout, Other, place}
use Rattle.repo_layout.proofs.Places.{place-deployment, place-etc, place-loader, place-origin_in}
use Rattle.layout_rules.proofs.Layouts.{below_split}
use Rattle.boot_model.specs.declared.item.DepId.{DepId}
use Rattle.deploy_clean.specs.Cleaning.{Cleaning}
use Rattle.deploy_clean.specs.Steps.{Goes, Needs, WritesOf}
use Rattle.deploy_clean.specs.Unlisted.{IsFree, deployments}
use Rattle.deploy_clean.proofs.Keeping.{clean_lies}
use Rattle.deploy_clean.proofs.Places.{unlisted_under}
use Rattle.durable_list.proofs.Unwritten.{way_ostree}
use Rattle.rely_guarantee.specs.Books.{Books}
use Rattle.rely_guarantee.specs.Rely.{Guarantee, IsBoot, may_at}

-- ---- what boots is for the lane alone that works on the list

boot_refused : (b : Books) (actor lane mine : ℕ) (x : Place) (s : Seen) → b.sysroot ≡ Some mine → mine ≢ lane → IsBoot x → may_at b actor lane x s → ⊥
boot_refused b actor lane mine (Deployment os commit serial rest) s mine_is other is may = other (may mine mine_is)
boot_refused b actor lane mine (Etc os commit serial rest) s mine_is other is may = other (may mine mine_is)
boot_refused b actor lane mine (Origin os commit serial) s mine_is other is may = other (may mine mine_is)
boot_refused b actor lane mine Staged s mine_is other is may = may
boot_refused b actor lane mine (BootLink version) s mine_is other is may = other (may.0 mine mine_is)
boot_refused b actor lane mine BootLinkStage s mine_is other is may = other (may mine mine_is)
boot_refused b actor lane mine (BootFolder version sub rest) s mine_is other is may = other (may mine mine_is)
boot_refused b actor lane mine Loader s mine_is other is may = other (may.0 mine mine_is)
boot_refused b actor lane mine LoaderStage s mine_is other is may = other (may mine mine_is)
boot_refused b actor lane mine (LoaderFolder version rest) s mine_is other is may = other (may mine mine_is)
boot_refused b actor lane mine (KernelCopy os bootcsum rest) s mine_is other is may = other (may mine mine_is)
boot_refused b actor lane mine (Other p) s mine_is other is may = may
boot_refused b actor lane mine Config s mine_is other is may = is
boot_refused b actor lane mine (Stage a) s mine_is other is may = is
boot_refused b actor lane mine (Ref name) s mine_is other is may = is
boot_refused b actor lane mine (ObjectsFolder digits) s mine_is other is may = is
boot_refused b actor lane mine (Object kind sum) s mine_is other is may = is
boot_refused b actor lane mine (Mark commit) s mine_is other is may = is
boot_refused b actor lane mine Summary s mine_is other is may = is
boot_refused b actor lane mine (Checkout name rest) s mine_is other is may = is

under_boot : (os name : Name) (rest : Path) → IsBoot (place (under (deployments os) name ++ rest))
under_boot os name rest =
    let p = under (deployments os) name ++ rest in
    way_ostree p [] (os ∷ codes "deploy" ∷ name ∷ rest) (codes "deploy") refl (sym (append-nil p))

-- what is to go, and what lies below it, is what boots or what is deployed
pub goes_boot : (listed : List DepId) (p : Path) → Goes listed p → IsBoot (place p)
goes_boot listed p (q, unlisted, below) =
    let u = unlisted_under listed q unlisted in
    let s = below_split q p below in
    subst (λ r. IsBoot (place r)) (sym (s.1 ∙ ap (λ r. r ++ s.0) u.at)) (under_boot u.os u.name s.0)

-- so no other lane writes there
pub others_aside : (b : Books) (v : View) (actor lane mine : ℕ) (listed : List DepId) (p : Path) (s : Seen) → b.sysroot ≡ Some mine → mine ≢ lane → Goes listed p → Guarantee b v actor lane p s → ⊥
others_aside b v actor lane mine listed p s mine_is other goes may = boot_refused b actor lane mine (place p) s mine_is other (goes_boot listed p goes) may.at

-- nor at the boot loader's link
pub loader_aside : (b : Books) (v : View) (actor lane mine : ℕ) (s : Seen) → b.sysroot ≡ Some mine → mine ≢ lane → Guarantee b v actor lane loader_path s → ⊥
loader_aside b v actor lane mine s mine_is other may = boot_refused b actor lane mine (place loader_path) s mine_is other (subst IsBoot (sym place-loader) tt) may.at

-- ---- what a removal writes is in a deployment, or its origin file

-- in a deployment, in its own `etc`, or its origin file, or what lies below that path
abbrev pub IsDeployed : Place → Type 0
IsDeployed (Deployment os commit serial rest) = Unit {0}
IsDeployed (Etc os commit serial rest) = Unit {0}
IsDeployed (Origin os commit serial) = Unit {0}
IsDeployed x = ⊥

small : (n : ℕ) → n < 2 ^ 32 → n < 2 ^ 64
small n less = omega (arith, less)

module _ (listed : List DepId) (id : DepId) (free : IsFree listed id) where
  files_deployed : (rest : Path) → IsDeployed (place (deploy_path id.os id.commit id.serial ++ rest))
  files_deployed [] = subst IsDeployed (sym (place-deployment id.os id.commit id.serial free.sum (small id.serial free.small) [] tt)) tt
  files_deployed (x ∷ rest) = by (same_name x (codes "etc")) refl
    where
      by : (b : Bool) → same_name x (codes "etc") ≡ b → IsDeployed (place (deploy_path id.os id.commit id.serial ++ x ∷ rest))
      by true e =
          subst (λ y. IsDeployed (place (deploy_path id.os id.commit id.serial ++ y ∷ rest))) (sym ((same_name-Decides x (codes "etc")).0 e))
          (subst IsDeployed (sym (place-etc id.os id.commit id.serial free.sum (small id.serial free.small) rest)) tt)
      by false e =
          let other : x ≢ codes "etc" = λ is. let n : false ≡ true = sym e ∙ (same_name-Decides x (codes "etc")).1 is in cc in
          subst IsDeployed (sym (place-deployment id.os id.commit id.serial free.sum (small id.serial free.small) (x ∷ rest) other)) tt

  origin_deployed : (rest : Path) → IsDeployed (place (origin_path id.os id.commit id.serial ++ rest))
  origin_deployed rest = subst IsDeployed (sym (place-origin_in id.os id.commit id.serial free.sum (small id.serial free.small) rest)) tt

goes_deployed : (listed : List DepId) (p : Path) → Goes listed p → IsDeployed (place p)
goes_deployed listed p (q, (id, free, inl home), below) =
    let s = below_split q p below in
    subst (λ r. IsDeployed (place r)) (sym (s.1 ∙ ap (λ r. r ++ s.0) home)) (files_deployed listed id free s.0)
goes_deployed listed p (q, (id, free, inr origin), below) =
    let s = below_split q p below in
    subst (λ r. IsDeployed (place r)) (sym (s.1 ∙ ap (λ r. r ++ s.0) origin)) (origin_deployed listed id free s.0)

pub writes_deployed : (c : Cleaning) (v : View) (p : Path) (s : Seen) → Needs c v → WritesOf c v p s → IsDeployed (place p) × (s ≡ Vacant)
writes_deployed c v p s needs write =
    let lies = clean_lies c v needs.made p s write in
    (goes_deployed c.listed p lies.0, lies.1)

-- so it isn't at the boot loader's link
pub writes_off_loader : (c : Cleaning) (v : View) (s : Seen) → Needs c v → WritesOf c v loader_path s → ⊥
writes_off_loader c v s needs write = subst IsDeployed place-loader (writes_deployed c v loader_path s needs write).0
