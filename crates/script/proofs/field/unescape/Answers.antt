use Rattle.std.proofs.Common.{sym, ap, subst, arith}
use Rattle.std.specs.Option.{is_some}
use Rattle.std.proofs.lemmas.List.{nil_from_length}
use Rattle.script.proofs.Spelling.{one_more, whole, stuck, SpelledSoFar}
use Rattle.script.proofs.field.unescape.Goals as goal

pub loop-byte-preserved : goal.loop-byte-preserved
loop-byte-preserved c =
    subst (λ v. SpelledSoFar c.args.text.now v c.in-Some.behind.now) (sym c.in_ok-push_byte.ensures.ok) (one_more _ _ _ _ _ c.push_byte.ensures.small c.in-Some.ensures.some c.loop-byte.invariant)

pub returns-then-is_empty : goal.returns-then-is_empty
returns-then-is_empty c = whole _ _ _ (nil_from_length _ (grind arith)) c.loop-byte.invariant

pub returns-else-is_empty : goal.returns-else-is_empty
returns-else-is_empty c = stuck _ _ _ (λ e. grind (arith, e)) (c.split_byte.ensures.none (ap is_some c.in_default.is)) c.loop-byte.invariant
