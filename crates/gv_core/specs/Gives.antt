-- What the code answers, against the definitions.
use Rattle.std.specs.Prelude.{◌≡◌, ◌⊎◌, ℕ, ◌+◌, ◌-◌, Bool, true, false, ◌&&◌, nat_le, nat_lt, ◌^◌, if◌then◌else◌, List, ◌++◌, length, replicate, take, drop, map, Option, Some, None, option_map, option_and_then, Result, Ok, Err}
use Rattle.std.specs.Str.{bytes_eq}
use Rattle.gv_core.specs.declared.fault.GvFault.{GvFault}
use Rattle.gv_core.specs.declared.fault.GvNoMemory.{GvNoMemory}
use Rattle.gv_core.specs.declared.fault.GvFault.TheVariants.{BadKind, TooDeep, NotNormal, NoMemory}
use Rattle.gv_core.specs.declared.value.Value.{Value}
use Rattle.gv_core.specs.Tree.{Tree, Trees, Leaf, leaf, trees_of, view}
use Rattle.gv_core.specs.Reading.{from_le}
use Rattle.gv_core.specs.Measure.{gap}
use Rattle.gv_core.specs.Layout.{offset_size, table, table_back}

abbrev pub Fails : {Y : Type 0} → GvFault → Option Y → Type 0
Fails NoMemory read = Unit {0}
Fails NotNormal read = read ≡ None
Fails BadKind read = ⊥
Fails TooDeep read = ⊥

-- What a function returned, seen by see, is what reading gives, unless memory ran out.
abbrev pub Gives : {X Y : Type 0} → (X → Y) → Result X GvFault → Option Y → Type 0
Gives see (Ok x) read = read ≡ Some (see x)
Gives see (Err e) read = Fails e read

abbrev pub views : List Value → Trees
views vs = trees_of (map view vs)

abbrev pub IsWidth : ℕ → Type 0
IsWidth n = (n ≡ 1) ⊎ ((n ≡ 2) ⊎ ((n ≡ 4) ⊎ (n ≡ 8)))

-- where a member ends, and how far the table of offsets is then used
abbrev pub place : Option ℕ → Bool → ℕ → ℕ → List ℕ → ℕ → ℕ → ℕ × ℕ
place (Some n) last start limit bytes table width = (start + n, table)
place None true start limit bytes table width = (limit, table)
place None false start limit bytes table width = (from_le (take width (drop (table - width) bytes)), table - width)

abbrev pub good_place : ℕ → ℕ → ℕ × ℕ → Option (ℕ × ℕ)
good_place start limit e = if nat_le start e.0 && nat_le e.0 limit then Some e else None

-- What encoding returned: the bytes or none, unless memory ran out.
abbrev pub GivesBytes : {X Y : Type 0} → (X → Y) → Result (Option X) GvNoMemory → Option Y → Type 0
GivesBytes see (Ok o) laid = laid ≡ option_map see o
GivesBytes see (Err e) laid = Unit {0}

abbrev pub same_bytes : Option (List ℕ) → List ℕ → Bool
same_bytes None bytes = false
same_bytes (Some xs) bytes = bytes_eq xs bytes

-- what was put behind the old bytes, or that there is no normal form
abbrev pub Puts : List ℕ → List ℕ → Result Bool GvNoMemory → Option (List ℕ) → Type 0
Puts old new (Ok true) laid = (r : List ℕ) × (laid ≡ Some r) × (new ≡ old ++ r)
Puts old new (Ok false) laid = laid ≡ None
Puts old new (Err e) laid = Unit {0}

-- elements with their offsets behind them, in order
abbrev pub with_table : List ℕ → List ℕ → Option (List ℕ)
with_table elements ends = option_and_then (λ s. Some (elements ++ table s ends)) (offset_size (length elements) (length ends))

-- members with their offsets behind them, in reverse order
abbrev pub with_table_back : List ℕ → List ℕ → Option (List ℕ)
with_table_back bytes ends = option_and_then (λ s. Some (bytes ++ table_back s ends)) (offset_size (length bytes) (length ends))

-- zero bytes up to a multiple
abbrev pub padded_to : ℕ → List ℕ → List ℕ
padded_to a bytes = bytes ++ replicate (gap a (length bytes)) 0

abbrev pub IsLeaf : Tree → Type 0
IsLeaf v = (x : Leaf) × (v ≡ leaf x)

-- this value was read, unless memory ran out
abbrev pub Decodes : Tree → Result Value GvFault → Type 0
Decodes v (Ok w) = view w ≡ v
Decodes v (Err e) = e ≡ NoMemory

-- a length that fits a number of 64 bits
abbrev pub short : ℕ → Option ℕ
short n = if nat_lt n (2 ^ 64) then Some n else None
