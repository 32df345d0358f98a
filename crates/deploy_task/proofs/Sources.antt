-- The deployment from which the configuration is taken over.
use Rattle.std.proofs.Common.{◌≡◌, ◌≤◌, ◌<◌, ◌^◌, ℕ, List, [], ◌∷◌, length, codes, refl, sym, subst, arith}
use Rattle.std.proofs.lemmas.List.Elements.{All-contains}
use Rattle.ost_types.specs.Path.{Name, Path, IsPath, joined, text_of}
use Rattle.ost_types.proofs.HexSums.{IsHexSum-hex_of}
use Rattle.ost_types.proofs.Joined.{IsPath-under}
use Rattle.repo_layout.specs.OsName.{IsOsName}
use Rattle.repo_layout.specs.Paths.{deploy_path}
use Rattle.repo_layout.specs.RefFile.{IsSum}
use Rattle.repo_layout.proofs.KnownPaths.{deploy-known}
use Rattle.boot_model.specs.declared.item.DepId.{DepId}
use Rattle.boot_model.specs.declared.item.BootItem.{BootItem}
use Rattle.boot_model.specs.Items.{IsItem}
use Rattle.tree_read.proofs.Walk.{mapped}
use Rattle.deployment_build.specs.Deployment.{etc_of}
use Rattle.deployment_build.proofs.PathBounds.{etc-name}
use Rattle.deploy_task.specs.Listed.{IsFirstOf, NoneOf, ids_in}
use Rattle.deploy_task.specs.Deploying.{Deploying, IsMade, IsSourceOf, items_of}

-- one or none
pub none_first : (items : List BootItem) (os : Name) (id : DepId) → NoneOf items os → ¬ (IsFirstOf items os id)
none_first items os id none first = none first.item (first.place, first.at.0, first.at.1) first.stateroot

-- ---- the path of its `etc` keeps the bounds of paths

five_names : (os commit : List ℕ) (serial : ℕ) → length (deploy_path os commit serial) ≡ 5
unfolding deploy_path
five_names os commit serial = refl

joined_short : (p : Path) → length (text_of p) ≤ 1024 → length (joined p) ≤ 1024
unfolding joined
joined_short [] short = omega arith
joined_short (x ∷ p) short = short

etc_path : (id : DepId) → IsOsName id.os → IsSum id.commit → id.serial < 2 ^ 32 → IsPath (etc_of id)
etc_path id os sum small =
    let home = deploy_path id.os id.commit id.serial in
    let known = deploy-known id.os id.commit id.serial os (IsHexSum-hex_of id.commit sum.whole sum.bytes) small in
    let few = known.few in
    let long = known.short in
    let five = five_names id.os id.commit id.serial in
    let short = joined_short home long in
    (IsPath-under home (codes "etc") (record { names = known.names; few = omega (arith, few); short = omega (arith, long) }) etc-name).0 (omega (arith, five), omega (arith, short))

pub source_path : (t : Deploying) → IsMade t → (id : DepId) → IsSourceOf t.plan id → IsPath (etc_of id)
source_path t made id first =
    let item = All-contains IsItem (items_of t.plan) first.item made.may.items.each (first.place, first.at.0, first.at.1) in
    let among = mapped (λ (x : BootItem). x.id) (items_of t.plan) first.item (first.place, first.at.0, first.at.1) in
    let small = All-contains (λ (i : DepId). i.serial < 2 ^ 32) (ids_in (items_of t.plan)) first.item.id made.serials among in
    subst (λ (i : DepId). IsPath (etc_of i)) (sym first.is) (etc_path first.item.id item.os item.commit small)
