-- The paths of a deployment's parts are different ones: its files, its origin file, the objects, where files are staged, and the copies
-- of kernels.
use Rattle.std.proofs.Common.{◌≡◌, ◌≢◌, ⊎_elim, ℕ, Bool, true, false, ◌&&◌, List, [], ◌∷◌, ◌++◌, length, codes, refl, sym, ◌∙◌, ap, subst, arith, length-append, append_assoc}
use Rattle.std.specs.Fmt.{decimal}
use Rattle.std.proofs.lemmas.List.{append_cancel_left}
use Rattle.ost_types.specs.Csum.{hex_of}
use Rattle.ost_types.specs.Path.{Name, Path, under, is_below}
use Rattle.ost_types.proofs.Paths.{same_name-Decides, under-is_below}
use Rattle.fs_trait.proofs.Claims.{is_below-before}
use Rattle.fs_trait.proofs.Facts.{under-not_below}
use Rattle.fs_trait.proofs.Images.{not_both}
use Rattle.repo_layout.specs.Paths.{deploy_path, object_path, stage_path}
use Rattle.repo_layout.specs.BootPaths.{kernel_path, origin_path}
use Rattle.repo_layout.specs.Place.{IsOutsideEtc}
use Rattle.boot_model.specs.declared.item.DepId.{DepId}
use Rattle.checkout.specs.CheckoutFolder.{leaf_path}
use Rattle.staged_file.specs.Steps.{IsPlaced}
use Rattle.deployment_build.specs.Deployment.{deployments, folder_of, origin_name, origin_of}

-- ---- in the folder of the deployments

abbrev pub id_name : DepId → Name
id_name id = hex_of id.commit ++ (46 ∷ decimal id.serial)

pub files_under : (id : DepId) → folder_of id ≡ under (deployments id.os) (id_name id)
unfolding deploy_path
files_under id = refl

pub origin_under : (id : DepId) → origin_of id ≡ under (deployments id.os) (origin_name id)
unfolding origin_path
origin_under id = refl

-- ---- what isn't in the files

pub stage_outside : (id : DepId) (actor : ℕ) → is_below (folder_of id) (stage_path actor) ≡ true → ⊥
unfolding deploy_path stage_path is_below
stage_outside id actor is = let n : false ≡ true = is in cc

pub object_outside : (id : DepId) (sum : List ℕ) → is_below (folder_of id) (leaf_path sum) ≡ true → ⊥
unfolding deploy_path object_path is_below
object_outside id sum is = let n : false ≡ true = is in cc

pub kernel_outside : (id : DepId) (os bootcsum : List ℕ) (rest : Path) → is_below (folder_of id) (kernel_path os bootcsum ++ rest) ≡ true → ⊥
unfolding deploy_path kernel_path is_below
kernel_outside id os bootcsum rest is = let n : false ≡ true = is in cc

pub kernel_folder_outside : (id : DepId) (os bootcsum : List ℕ) → is_below (folder_of id) (kernel_path os bootcsum) ≡ true → ⊥
unfolding deploy_path kernel_path is_below
kernel_folder_outside id os bootcsum is = let n : false ≡ true = is in cc

-- a name isn't one with more behind it
longer : (x y : Name) (c : ℕ) → x ≢ x ++ (c ∷ y)
longer x y c e = omega (arith, ap length e, length-append x (c ∷ y))

pub origin_outside : (id : DepId) → is_below (folder_of id) (origin_of id) ≡ true → ⊥
origin_outside id is =
    let f = deployments id.os in
    let below : is_below (under f (id_name id)) (under f (origin_name id)) ≡ true = subst (λ p. is_below p (under f (origin_name id)) ≡ true) (files_under id) (subst (λ q. is_below (folder_of id) q ≡ true) (origin_under id) is) in
    ⊎_elim
    (λ above. not_both above (under-not_below f (id_name id)))
    (λ same.
    let one : id_name id ∷ [] ≡ origin_name id ∷ [] = append_cancel_left f (id_name id ∷ []) (origin_name id ∷ []) same in
    let name : id_name id ≡ origin_name id = cc in
    let parts : origin_name id ≡ id_name id ++ codes ".origin" = sym (append_assoc (hex_of id.commit) (46 ∷ decimal id.serial) (codes ".origin")) in
    longer (id_name id) (codes "origin") 46 (name ∙ parts))
    (under-is_below (under f (id_name id)) f (origin_name id) below)

-- ---- others

pub origin_object : (id : DepId) (sum : List ℕ) → leaf_path sum ≢ origin_of id
unfolding object_path origin_path
origin_object id sum e = let head : codes "repo" ≡ codes "deploy" = cc in let n : 4 ≡ 6 = ap length head in omega (arith, n)

pub origin_kernel : (id : DepId) (os bootcsum : List ℕ) (rest : Path) → kernel_path os bootcsum ++ rest ≢ origin_of id
unfolding kernel_path origin_path
origin_kernel id os bootcsum rest e = let head : codes "boot" ≡ codes "ostree" = cc in let n : 4 ≡ 6 = ap length head in omega (arith, n)

pub stage_origin : (id : DepId) (actor : ℕ) → stage_path actor ≢ origin_of id
unfolding stage_path origin_path
stage_origin id actor e = let head : codes "repo" ≡ codes "deploy" = cc in let n : 4 ≡ 6 = ap length head in omega (arith, n)

pub stage_object : (actor : ℕ) (sum : List ℕ) → leaf_path sum ≢ stage_path actor
unfolding stage_path object_path
stage_object actor sum e = let head : codes "objects" ≡ codes "tmp" = cc in let n : 7 ≡ 3 = ap length head in omega (arith, n)

pub stage_kernel : (actor : ℕ) (os bootcsum : List ℕ) (rest : Path) → kernel_path os bootcsum ++ rest ≢ stage_path actor
unfolding kernel_path stage_path
stage_kernel actor os bootcsum rest e = let head : codes "boot" ≡ codes "ostree" = cc in let n : 4 ≡ 6 = ap length head in omega (arith, n)

pub object_kernel : (sum os bootcsum : List ℕ) (rest : Path) → leaf_path sum ≢ kernel_path os bootcsum ++ rest
unfolding object_path kernel_path
object_kernel sum os bootcsum rest e = let head : codes "ostree" ≡ codes "boot" = cc in let n : 6 ≡ 4 = ap length head in omega (arith, n)

stage_aside : (os : Name) (actor : ℕ) → is_below (stage_path actor) (deployments os) ≡ false
unfolding stage_path is_below
stage_aside os actor = refl

pub stage_under : (actor : ℕ) → (g : Path) × (y : Name) × (stage_path actor ≡ under g y)
unfolding stage_path
stage_under actor = (codes "ostree" ∷ codes "repo" ∷ codes "tmp" ∷ [], codes "actor-" ++ decimal actor, refl)

-- so an actor stages the origin file
pub origin_placed : (id : DepId) (actor : ℕ) → IsPlaced (stage_path actor) (deployments id.os) (origin_of id)
origin_placed id actor = record {
  apart = stage_origin id actor;
  staging = stage_under actor;
  aside = stage_aside id.os actor;
  inside = (origin_name id, origin_under id);
}

-- ---- in the files

pub in_files : (id : DepId) (p : Path) → is_below (folder_of id) (folder_of id ++ p) ≡ true
in_files id p = is_below-before (folder_of id) p

both : (a b : Bool) → a && b ≡ true → (a ≡ true) × (b ≡ true)
both true true e = (refl, refl)
both true false e = let n : false ≡ true = e in cc
both false b e = let n : false ≡ true = e in cc

below_rest : (p q : Path) → is_below p q ≡ true → (rest : Path) × (q ≡ p ++ rest)
unfolding is_below
below_rest [] q e = (q, refl)
below_rest (a ∷ p) [] e = let n : false ≡ true = e in cc
below_rest (a ∷ p) (x ∷ q) e =
    let s = both _ _ e in
    let more = below_rest p q s.1 in
    let head : a ≡ x = (same_name-Decides a x).0 s.0 in
    (more.0, cc (head, more.1))

-- what is below a name in the folder is below the folder
pub etc_below : (f : Path) (x : Name) (p : Path) → is_below (under f x) p ≡ true → is_below f p ≡ true
etc_below f x p is =
    let r = below_rest (under f x) p is in
    subst (λ q. is_below f q ≡ true) (sym (r.1 ∙ append_assoc f (x ∷ []) r.0)) (is_below-before f (x ∷ r.0))

-- and what is outside `etc` isn't below that
pub outside_etc : (f p : Path) → IsOutsideEtc p → is_below (under f (codes "etc")) (f ++ p) ≡ true → ⊥
outside_etc f p out is =
    let r = below_rest (under f (codes "etc")) (f ++ p) is in
    let rest : p ≡ codes "etc" ∷ r.0 = append_cancel_left f p (codes "etc" ∷ r.0) (r.1 ∙ append_assoc f (codes "etc" ∷ []) r.0) in
    let inside : IsOutsideEtc (codes "etc" ∷ r.0) = subst IsOutsideEtc rest out in
    inside refl
