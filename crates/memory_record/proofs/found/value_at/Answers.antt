use Rattle.std.proofs.Common.{◌∙◌, sym, subst, ap, arith}
use Rattle.std.proofs.Math.Seq.{take-length}
use Rattle.memory_record.specs.Seen.{IsSeen}
use Rattle.memory_record.specs.Changes.{view_of}
use Rattle.memory_record.proofs.Records.{at_last, start_root, start_below}
use Rattle.memory_record.proofs.found.value_at.Goals as goal

pub loop-i-init : goal.loop-i-init
loop-i-init c = (omega arith, λ p names is. (p, names, is, ap (λ l. (view_of l).now.at p) (take-length c.args.changes.now)))

pub returns-in-Value : goal.returns-in-Value
returns-in-Value c = λ p names is.
    let k = c.loop-i.invariant.1 p names is in
    let s = subst (λ x. IsSeen c.index-changes-i.result k.0 x) c.in-Value.is (c.look.ensures k.0 k.1 k.2) in
    sym (s _) ∙ sym (at_last c.loop-i.i c.args.changes.now c.index-changes-i.result _ k.0 c.loop-i-test.true c.loop-i.invariant.0 c.index-changes-i.is) ∙ k.3

pub loop-i-preserved : goal.loop-i-preserved
loop-i-preserved c = (
  omega arith,
  λ p names is.
      let k = c.loop-i.invariant.1 p names is in
      let s = subst (λ x. IsSeen c.index-changes-i.result k.0 x) c.in-At.is (c.look.ensures k.0 k.1 k.2) in
      (s.0, s.1, s.2, sym (s.3 _) ∙ sym (at_last c.loop-i.i c.args.changes.now c.index-changes-i.result _ k.0 c.loop-i-test.true c.loop-i.invariant.0 c.index-changes-i.is) ∙ k.3),
)

pub returns-then-is_empty : goal.returns-then-is_empty
returns-then-is_empty c = λ p names is.
    let k = c.loop-i.invariant.1 p names is in
    sym (start_root c.loop-i.i c.args.changes.now _ k.0 _ c.loop-i-test.false k.2 c.is_empty.ensures c.if-is_empty.true) ∙ k.3

pub returns-else-is_empty : goal.returns-else-is_empty
returns-else-is_empty c = λ p names is.
    let k = c.loop-i.invariant.1 p names is in
    sym (start_below c.loop-i.i c.args.changes.now _ k.0 _ c.loop-i-test.false k.2 c.is_empty.ensures c.if-is_empty.false) ∙ k.3
