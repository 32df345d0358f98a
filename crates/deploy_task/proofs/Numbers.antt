-- The new deployment isn't in the list, so nothing stands where it is to be once what isn't listed is gone.
use Rattle.std.proofs.Common.{◌≡◌, inl, ◌==◌, ◌&&◌, ◌<◌, ◌^◌, ℕ, Bool, true, false, List, refl, sym, ◌∙◌, ap}
use Rattle.std.specs.Prelude.{Contains}
use Rattle.std.specs.List.{list_any}
use Rattle.std.proofs.lemmas.Bool.{and_from}
use Rattle.std.proofs.lemmas.Bool.Decides.{Decides-eqb}
use Rattle.std.proofs.lemmas.List.Folds.{list_any_at}
use Rattle.ost_types.specs.Path.{Name, same_name}
use Rattle.ost_types.proofs.Paths.{same_name-Decides}
use Rattle.fs_trait.specs.View.{View}
use Rattle.fs_trait.specs.Seen.{Vacant, shows}
use Rattle.repo_layout.specs.OsName.{IsOsName}
use Rattle.repo_layout.specs.RefFile.{IsSum}
use Rattle.boot_model.specs.declared.item.DepId.{DepId}
use Rattle.boot_model.specs.declared.item.BootItem.{BootItem}
use Rattle.deploy_list.specs.declared.dep.Dep.{Dep}
use Rattle.deploy_list.specs.Lists.{is_id}
use Rattle.deploy_clean.specs.Unlisted.{IsClean, IsUnlisted}
use Rattle.tree_read.proofs.Walk.{mapped, unmapped}
use Rattle.deployment_build.specs.Deployment.{folder_of}
use Rattle.deploy_task.specs.Listed.{IsNumbered, dep_of, deps_in, ids_in}

id_itself : (j : DepId) (os : Name) (commit : List ℕ) → j.os ≡ os → j.commit ≡ commit → is_id os commit j.serial j ≡ true
id_itself j os commit o c =
    and_from (same_name j.os os && same_name j.commit commit) (j.serial == j.serial)
    (and_from (same_name j.os os) (same_name j.commit commit) ((same_name-Decides j.os os).1 o) ((same_name-Decides j.commit commit).1 c)) ((Decides-eqb j.serial j.serial).1 refl)

pub not_listed : (items : List BootItem) (used : List DepId) (os : Name) (commit : List ℕ) (id : DepId) (kept : List ℕ) → IsNumbered items used os commit id kept → ¬ (Contains (ids_in items) id)
not_listed items used os commit id kept n among =
    let m = unmapped (λ (item : BootItem). item.id) items id among in
    let here = mapped dep_of items m.0 m.1 in
    let test : Dep → Bool = λ dep. is_id os commit id.serial dep.id in
    let same : test (dep_of m.0) ≡ true = ap (λ i. is_id os commit id.serial i) (sym m.2) ∙ id_itself id os commit n.stateroot n.of_commit in
    let any : list_any test (deps_in items) ≡ true = list_any_at test (deps_in items) here.0 (dep_of m.0) here.1 (ap test here.2 ∙ same) in
    let e : true ≡ false = sym any ∙ n.serial.free in
    cc

pub new_unlisted : (items : List BootItem) (used : List DepId) (os : Name) (commit : List ℕ) (id : DepId) (kept : List ℕ) → IsNumbered items used os commit id kept
    → IsOsName id.os → IsSum id.commit → id.serial < 2 ^ 32 → IsUnlisted (ids_in items) (folder_of id)
new_unlisted items used os commit id kept n name sum small = (id, record { stateroot = name; sum = sum; small = small; unlisted = not_listed items used os commit id kept n }, inl refl)

-- so its folder is free once all that isn't listed is gone
pub new_free : (items : List BootItem) (used : List DepId) (os : Name) (commit : List ℕ) (id : DepId) (kept : List ℕ) → IsNumbered items used os commit id kept
    → IsOsName id.os → IsSum id.commit → id.serial < 2 ^ 32 → (v : View) → IsClean v.now (ids_in items) → shows v.now (folder_of id) ≡ Vacant
new_free items used os commit id kept n name sum small v clean = clean (folder_of id) (new_unlisted items used os commit id kept n name sum small)
