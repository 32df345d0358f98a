-- There is room for a commit's tree in the folder of a deployment.
use Rattle.std.proofs.Common.{◌≡◌, ◌≢◌, ℕ, IsTrue, ◌<◌, ◌≤◌, ◌^◌, List, [], ◌∷◌, length, codes, Result, Ok, Err, refl, sym, subst, arith, All}
use Rattle.std.specs.Prelude.{IfOk}
use Rattle.std.proofs.lemmas.Bool.Decides.{nat_tests}
use Rattle.std.proofs.lemmas.List.Elements.{All-from_recursion}
use Rattle.std.proofs.lemmas.Str.{IsUtf8-from_ascii}
use Rattle.std.proofs.lemmas.Str.Ascii.{IsAscii-from_all}
use Rattle.ost_types.specs.declared.memory.NoMemory.{NoMemory}
use Rattle.ost_types.specs.Csum.{IsHexSum, hex_of}
use Rattle.ost_types.specs.Path.{Path, IsPath, joined, text_of, under}
use Rattle.ost_types.specs.Text.{IsName}
use Rattle.ost_types.proofs.HexSums.{IsHexSum-hex_of}
use Rattle.ost_types.proofs.Joined.{IsPath-under}
use Rattle.repo_layout.specs.OsName.{IsOsName}
use Rattle.repo_layout.specs.Paths.{deploy_path}
use Rattle.repo_layout.specs.RefName.{is_part_byte}
use Rattle.repo_layout.proofs.KnownPaths.{IsKnown, deploy-known}
use Rattle.boot_model.specs.declared.item.DepId.{DepId}
use Rattle.commit_checkout.specs.TreeFolder.{HasRoomBelow}
use Rattle.deployment_check.specs.Deployments.{IsId, home_of}

-- ---- the folder

path_of_known : (p : Path) → IsKnown p → IsPath p
path_of_known p known = record { names = known.names; few = omega (arith, known.few); short = omega (arith, known.short) }

five_names : (os commit : List ℕ) (serial : ℕ) → length (deploy_path os commit serial) ≡ 5
unfolding deploy_path
five_names os commit serial = refl

pub room_at : (os commit : List ℕ) (serial : ℕ) → IsOsName os → IsHexSum (hex_of commit) → serial < 2 ^ 32 → HasRoomBelow (deploy_path os commit serial)
room_at os commit serial stateroot digits small =
    let known = deploy-known os commit serial stateroot digits small in
    record { path = path_of_known (deploy_path os commit serial) known; few = omega (arith, five_names os commit serial); short = known.short }

pub room_below : (id : DepId) → IsId id → HasRoomBelow (home_of id)
room_below id is = room_at id.os id.commit id.serial is.stateroot (IsHexSum-hex_of id.commit is.sum.whole is.sum.bytes) is.small

pub room_of : (r : Result Path NoMemory) (p : Path) → IfOk r (λ q. q ≡ p) → HasRoomBelow p → IfOk r HasRoomBelow
room_of (Ok q) p is room = subst HasRoomBelow (sym is) room
room_of (Err e) p is room = tt

-- ---- its `etc`

small : (b : ℕ) → IsTrue (is_part_byte b) → (b < 128) × (b ≢ 0) × (b ≢ 47)
small b is = (grind (arith, nat_tests), grind (arith, nat_tests), grind (arith, nat_tests))

etc_bytes : All (λ b. IsTrue (is_part_byte b)) (codes "etc")
etc_bytes = All-from_recursion (λ b. IsTrue (is_part_byte b)) (codes "etc") (refl, (refl, (refl, tt)))

pub etc_name : IsName (codes "etc")
etc_name = record {
  text = record { utf8 = IsUtf8-from_ascii (codes "etc") (IsAscii-from_all (codes "etc") (λ k d lt. (small _ (etc_bytes k d lt)).0)); no_zero = λ k d lt. (small _ (etc_bytes k d lt)).1 };
  no_slash = λ k d lt. (small _ (etc_bytes k d lt)).2;
  not_empty = λ e. cc;
  not_here = λ e. cc;
  not_above = λ e. cc;
  short = omega arith;
}

joined_short : (p : Path) → length (text_of p) ≤ 1024 → length (joined p) ≤ 1024
unfolding joined
joined_short [] short = omega arith
joined_short (x ∷ p) short = short

pub etc_path : (home : Path) → HasRoomBelow home → IsPath (under home (codes "etc"))
etc_path home room =
    let few = room.few in
    let short = joined_short home room.short in
    (IsPath-under home (codes "etc") room.path etc_name).0 (omega (arith, few), omega (arith, short))
