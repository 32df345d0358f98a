-- Each step that isn't the last leaves fewer steps.
use Rattle.std.proofs.Common.{◌≡◌, ℕ, ◌<◌, ◌+◌, ◌-◌, arith, List, [], ◌∷◌, length, drop, ap, Ok}
use Rattle.ost_types.specs.Path.{Name, Path}
use Rattle.checkout.specs.declared.remove.phase.Phase.{Phase}
use Rattle.checkout.specs.declared.remove.phase.Phase.TheVariants.{Look, Inside, Ended}
use Rattle.checkout.specs.RemoveFolder.{Opened}
use Rattle.checkout.specs.Remove.{Removing, IsAlone, Looks, Closes, Ends, OnMore, act, act_in, act_of, around, closed_to, left, left_in, passed, passed_in, turn_in, waiting}

-- a name less
fewer_names : (f : Path) (names : List Name) (p : Path) → act_of f names ≡ Looks p → length (drop 1 names) + 1 ≡ length names
fewer_names f [] p is = let n : Closes f ≡ Looks p = is in cc
fewer_names f (x ∷ names) p is = omega arith

passed_falls_in : (ph : Phase) (at : Path) (outer : List Opened) (room : ℕ) (p : Path) → act_in ph at ≡ Looks p → OnMore (Ok (turn_in (passed_in ph))) (left_in (passed_in ph) outer room < left_in ph outer room)
passed_falls_in Look at outer room p is = tt
passed_falls_in (Inside f) at outer room p is = let n = fewer_names f.path f.names p is in omega (arith, n)
passed_falls_in Ended at outer room p is = tt

pub passed_falls : (t : Removing) (p : Path) → act t ≡ Looks p → OnMore (Ok (turn_in (passed t).phase)) (left (passed t) < left t)
passed_falls t p is = passed_falls_in t.phase t.at t.outer t.room p is

-- a folder more, with no more names than there is memory for
nothing_waits : (outer : List Opened) → outer ≡ [] → waiting outer ≡ 0
nothing_waits outer none = ap waiting none

pub entered_falls : (ph : Phase) (at : Path) (outer : List Opened) (room : ℕ) (p : Path) (names : List Name) → act_in ph at ≡ Looks p → IsAlone ph outer → 0 < room → length names < 18446744073709551616
    → left_in (Inside (record { path = p; names = names })) (around ph outer) (room - 1) < left_in ph outer room
entered_falls Look at outer room p names is alone some few = let none = nothing_waits outer alone in omega (arith, none, some, few)
entered_falls (Inside f) at outer room p names is alone some few = let n = fewer_names f.path f.names p is in omega (arith, n, some, few)
entered_falls Ended at outer room p names is alone some few = let n : Ends ≡ Looks p = is in cc

-- a folder less
pub closed_falls : (f : Opened) (at : Path) (outer : List Opened) (room : ℕ) → OnMore (Ok (turn_in (closed_to at outer room).phase)) (left (closed_to at outer room) < left_in (Inside f) outer room)
closed_falls f at [] room = tt
closed_falls f at (g ∷ outer) room = omega arith
