-- Where what no list names stands: under a name in the folder of a stateroot's deployments.
use Rattle.std.proofs.Common.{◌≡◌, inl, inr, List, [], ◌∷◌, ◌++◌, refl, sym, ◌∙◌, ap, subst, append_assoc, codes}
use Rattle.std.specs.Fmt.{decimal}
use Rattle.ost_types.specs.Csum.{hex_of}
use Rattle.ost_types.specs.Path.{Name, Path, under}
use Rattle.repo_layout.specs.OsName.{IsOsName}
use Rattle.repo_layout.specs.Paths.{deploy_path}
use Rattle.repo_layout.specs.BootPaths.{origin_path}
use Rattle.boot_model.specs.declared.item.DepId.{DepId}
use Rattle.deploy_clean.specs.Unlisted.{IsFree, IsUnlisted, IsUnlistedId, IsUnlistedName, deployments, id_name}

pub id_under : (id : DepId) → deploy_path id.os id.commit id.serial ≡ under (deployments id.os) (id_name id)
unfolding deploy_path
id_under id = refl

pub origin_under : (id : DepId) → origin_path id.os id.commit id.serial ≡ under (deployments id.os) (id_name id ++ codes ".origin")
unfolding origin_path
origin_under id = ap (under (deployments id.os)) (sym (append_assoc (hex_of id.commit) (46 ∷ decimal id.serial) (codes ".origin")))

pub under_same : (os pt x y : Name) → under (deployments os) x ≡ under (deployments pt) y → (os ≡ pt) × (x ≡ y)
under_same os pt x y e =
    let t : codes "ostree" ∷ codes "deploy" ∷ os ∷ codes "deploy" ∷ x ∷ [] ≡ codes "ostree" ∷ codes "deploy" ∷ pt ∷ codes "deploy" ∷ y ∷ [] = e in
    (cc, cc)

free_of : (listed : List DepId) (os name : Name) (free : IsUnlistedId listed os name) → IsFree listed free.0
free_of listed os name free = record { stateroot = free.1.stateroot; sum = free.1.sum; small = free.1.small; unlisted = free.2 }

pub unlisted_path : (listed : List DepId) (os name : Name) → IsUnlistedName listed os name → IsUnlisted listed (under (deployments os) name)
unlisted_path listed os name (inl free) =
    (free.0, free_of listed os name free, inl (ap (λ o. under (deployments o) name) (sym free.1.os_is) ∙ ap (under (deployments free.0.os)) free.1.whole ∙ sym (id_under free.0)))
unlisted_path listed os name (inr (stem, whole, free)) =
    (free.0, free_of listed os stem free, inr (ap (λ o. under (deployments o) name) (sym free.1.os_is) ∙ ap (under (deployments free.0.os)) (whole ∙ ap (λ s. s ++ codes ".origin") free.1.whole) ∙ sym (origin_under free.0)))

-- the stateroot and the name
pub record IsUnder (listed : List DepId) (p : Path) : Type 0 where
  pub os : Name
  pub name : Name
  pub stateroot : IsOsName os
  pub at : p ≡ under (deployments os) name
  pub unlisted : IsUnlistedName listed os name

pub unlisted_under : (listed : List DepId) (p : Path) → IsUnlisted listed p → IsUnder listed p
unlisted_under listed p (id, free, inl is) = record {
  os = id.os;
  name = id_name id;
  stateroot = free.stateroot;
  at = is ∙ id_under id;
  unlisted = inl (id, record { os_is = refl; whole = refl; stateroot = free.stateroot; sum = free.sum; small = free.small }, free.unlisted);
}
unlisted_under listed p (id, free, inr is) = record {
  os = id.os;
  name = id_name id ++ codes ".origin";
  stateroot = free.stateroot;
  at = is ∙ origin_under id;
  unlisted = inr (id_name id, refl, (id, record { os_is = refl; whole = refl; stateroot = free.stateroot; sum = free.sum; small = free.small }, free.unlisted));
}

-- what stands so is unlisted by its name alone
pub unlisted_at : (listed : List DepId) (os name : Name) → IsUnlisted listed (under (deployments os) name) → IsOsName os × IsUnlistedName listed os name
unlisted_at listed os name is =
    let u = unlisted_under listed (under (deployments os) name) is in
    let same = under_same os u.os name u.name u.at in
    (subst IsOsName (sym same.0) u.stateroot, subst (λ n. IsUnlistedName listed os n) (sym same.1) (subst (λ o. IsUnlistedName listed o u.name) (sym same.0) u.unlisted))
