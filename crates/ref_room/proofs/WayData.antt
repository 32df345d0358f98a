-- What a way's paths say of one another.
use Rattle.std.proofs.Common.{ltb-false, ltb-true, ◌≡◌, ◌<◌, ◌+◌, ◌-◌, ℕ, Bool, true, false, List, length, take, get_or, refl, sym, ◌∙◌, ap, subst, arith, if◌then◌else◌}
use Rattle.std.specs.Prelude.{nat_lt}
use Rattle.std.proofs.Math.Seq.{take-append-add}
use Rattle.ost_types.specs.Path.{Name, Path, IsPath, under}
use Rattle.repo_layout.specs.RefName.{parts_of}
use Rattle.repo_layout.specs.Paths.{heads, ref_path}
use Rattle.ref_room.specs.declared.way.Leg.{Leg}
use Rattle.ref_room.specs.declared.way.Leg.TheVariants.{Make, Over}
use Rattle.ref_room.specs.Clash.{way_to, ref_folder}
use Rattle.ref_room.specs.Way.{leg_of, leg_at}
use Rattle.ref_room.proofs.Names.{length-ref_path, some_parts, way_to-more, way_to-path}

pub before_last : (leg l : Leg) (k : ℕ) (name : List ℕ) → leg_of leg k name → leg ≡ l → leg_of l k name
before_last leg l k name of is = subst (λ x. leg_of x k name) is of

pub length-at : (at : Path) (name : List ℕ) → at ≡ ref_path name → length at ≡ 4 + length (parts_of name)
length-at at name is = ap length is ∙ length-ref_path name

pub heads_shorter : (at : Path) (name : List ℕ) → at ≡ ref_path name → 4 < length at
heads_shorter at name is = let n = length-at at name is in let s = some_parts name in omega (arith, n, s)

-- the name behind the first k
pub name_within : (at : Path) (name : List ℕ) (k : ℕ) → at ≡ ref_path name → k < length (parts_of name) → 4 + k < length at
name_within at name k is less = let n = length-at at name is in omega (arith, n, less)

-- the path that goes on by the next name of the ref's
pub gone_on : (at p : Path) (name : List ℕ) (k i : ℕ) (x : Name) → at ≡ ref_path name → p ≡ way_to k name → i ≡ 4 + k → k < length (parts_of name) → x ≡ get_or at i x → under p x ≡ way_to (k + 1) name
gone_on at p name k i x is_at is_p is_i less is_x =
    ap (λ q. under q x) is_p ∙ ap (under (way_to k name)) (is_x ∙ ap (λ q. get_or q i x) is_at ∙ ap (λ j. get_or (ref_path name) j x) is_i) ∙ way_to-more k name x less

pub gone_path : (at p : Path) (name : List ℕ) (k i : ℕ) (x : Name) → IsPath at → at ≡ ref_path name → p ≡ way_to k name → i ≡ 4 + k → k < length (parts_of name) → x ≡ get_or at i x → IsPath (under p x)
gone_path at p name k i x is is_at is_p is_i less is_x = subst IsPath (sym (gone_on at p name k i x is_at is_p is_i less is_x)) (way_to-path (k + 1) name (subst IsPath is_at is))

leg_by : (b : Bool) (k : ℕ) (name : List ℕ) → k < length (parts_of name) → nat_lt (k + 1) (length (parts_of name)) ≡ b → leg_of (if b then Make else Over) k name
leg_by true k name less e = ltb-true (k + 1) (length (parts_of name)) e
leg_by false k name less e = let l = ltb-false (k + 1) (length (parts_of name)) e in omega (arith, less, l)

pub leg_at-of : (k : ℕ) (name : List ℕ) → k < length (parts_of name) → leg_of (leg_at k name) k name
leg_at-of k name less = leg_by (nat_lt (k + 1) (length (parts_of name))) k name less refl

-- how many names the path has tells where the next leg is
pub leg_by_length : (at : Path) (name : List ℕ) (k : ℕ) (leg : Leg) → at ≡ ref_path name → leg ≡ (if nat_lt (k + 1) (length at - 4) then Make else Over) → leg ≡ leg_at k name
leg_by_length at name k leg is e =
    let n = length-at at name is in
    let same : length at - 4 ≡ length (parts_of name) = omega (arith, n) in
    e ∙ ap (λ m. if nat_lt (k + 1) m then Make else Over) same

-- the path without its last name
pub folder_front : (at names : Path) (name : List ℕ) → at ≡ ref_path name → names ≡ at → take (length names - 1) at ≡ ref_folder name
unfolding ref_path way_to
folder_front at names name is same =
    let n = length-at names name (same ∙ is) in
    let some = some_parts name in
    let count : length names - 1 ≡ length heads + (length (parts_of name) - 1) = omega (arith, n, some) in
    ap (λ k. take k at) count ∙ ap (take (length heads + (length (parts_of name) - 1))) is ∙ take-append-add heads (parts_of name) (length (parts_of name) - 1)
