-- Each look and each removal leaves fewer steps.
use Rattle.std.proofs.Common.{◌≡◌, ℕ, ◌≤◌, ◌<◌, ◌+◌, ◌-◌, ◌*◌, arith, ◌∙◌, ap, length, take}
use Rattle.std.proofs.lemmas.List.{length-take-le}
use Rattle.ref_room.specs.Clearing.{Cleared, Act, Looks, Says, Removes, Ends, act, left, left_by}
use Rattle.ref_room.proofs.ClearingSteps.{some_pending}

-- the most that may be left
most : Cleared → ℕ
most t = (9223372036854775808 - length t.folders) * 18446744073709551616 + length t.pending

at_most : (t : Cleared) (a : Act) → length t.folders < 9223372036854775808 → left_by a t ≤ most t
unfolding most
at_most t Looks small = omega arith
at_most t (Says other) small = omega (arith, small)
at_most t Removes small = omega (arith, small)
at_most t Ends small = omega (arith, small)

looks_most : (t : Cleared) → act t ≡ Looks → left t ≡ most t
unfolding most
looks_most t looks = ap (λ a. left_by a t) looks

-- a path less, and the same folders
pub falls_passed : (t new : Cleared) → act t ≡ Looks → length t.folders < 9223372036854775808 → new.folders ≡ t.folders → new.pending ≡ take (length t.pending - 1) t.pending → left new < left t
unfolding most
falls_passed t new looks small same rest =
    let n : length new.folders ≡ length t.folders = ap length same in
    let some = some_pending t looks in
    let p : length new.pending ≡ length t.pending - 1 = ap length rest ∙ length-take-le (length t.pending - 1) t.pending (omega arith) in
    let a : left new ≤ most new = at_most new (act new) (omega (arith, n, small)) in
    let b : left t ≡ most t = looks_most t looks in
    omega (arith, n, some, p, a, b, small)

-- a folder more, with no more paths than there is memory for
pub falls_opened : (t new : Cleared) → act t ≡ Looks → length new.folders < 9223372036854775808 → length new.folders ≡ length t.folders + 1 → length new.pending < 18446744073709551616 → left new < left t
unfolding most
falls_opened t new looks small more few =
    let some = some_pending t looks in
    let a : left new ≤ most new = at_most new (act new) small in
    let b : left t ≡ most t = looks_most t looks in
    omega (arith, more, few, some, a, b, small)
