use Rattle.std.proofs.Common.{refl, sym, subst}
use Rattle.std.proofs.lemmas.List.{nil_from_length}
use Rattle.gv_core.specs.Stack.{OnlyKind}
use Rattle.gv_core.proofs.Stacks.{reading_init, reading_next, reading_fails, reading_end, reads_true, reads_false}
use Rattle.gv_core.proofs.type_string.read_kind.Goals as goal

pub loop-letter-init : goal.loop-letter-init
loop-letter-init c = reading_init _ _ _ refl c.new-stack.ensures.items

pub returns-then-not-branch : goal.returns-then-not-branch
returns-then-not-branch c =
    let inv = c.loop-letter.invariant in
    reading_fails _ _ _ _ _ inv c.in-Some.ensures.cases.0 (reads_false c.in_ok-take_letter.field-0 _ _ c.if-not-branch.true (c.in_ok-take_letter.ensures inv.items inv.stacked))

pub loop-letter-preserved : goal.loop-letter-preserved
loop-letter-preserved c =
    let inv = c.loop-letter.invariant in
    let q = reads_true c.in_ok-take_letter.field-0 _ _ c.if-not-branch.false (c.in_ok-take_letter.ensures inv.items inv.stacked) in
    reading_next _ _ _ _ _ _ inv q.0 c.in-Some.ensures.cases.0 q.1.0 q.1.1

pub returns : goal.returns
returns c =
    let inv = c.loop-letter.invariant in
    subst (OnlyKind c.only_kind.result) (sym (reading_end _ _ _ inv (nil_from_length _ c.in_default.ensures.cases))) (c.only_kind.ensures inv.items inv.stacked)
