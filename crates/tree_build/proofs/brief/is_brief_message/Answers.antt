use Rattle.std.proofs.Common.{ap, subst, arith, length}
use Rattle.std.proofs.lemmas.Bool.{leb-true}
use Rattle.ost_types.specs.Text.{IsText}
use Rattle.tree_build.proofs.Briefs.{small_root}
use Rattle.tree_build.proofs.brief.is_brief_message.Goals as goal

pub returns-then-subject-le-ROOM-clause-small : goal.returns-then-subject-le-ROOM-clause-small
returns-then-subject-le-ROOM-clause-small c = λ t items time.
    let s = ap length c.as_slice-subject.ensures.value in
    let b = ap length c.as_slice.ensures.value in
    let le = leb-true _ _ t in
    let first = c.if-subject-le-ROOM.true in
    small_root items c.args.parent c.args.subject.now c.args.body.now time c.has_sum.ensures (subst IsText c.as_slice-subject.ensures.value c.as_slice-subject.ensures.text) (subst IsText c.as_slice.ensures.value c.as_slice.ensures.text) (omega (arith, s, b, le, first))
