use Rattle.std.proofs.Common.{arith}
use Rattle.fs_trait.specs.Change.{Nothing}
use Rattle.sys_open.specs.Changes.{Changes, IsArranged}
use Rattle.sys_open.proofs.Arranging.{synced_told, synced_settled}
use Rattle.sys_open.proofs.Working.{works_still, works_then}
use Rattle.sys_open.proofs.opening.settle.Goals as goal

pub returns-else-clock-before-clause-works : goal.returns-else-clock-before-clause-works
returns-else-clock-before-clause-works g c = λ v told.
    let first = c.arrange.ensures.works v told in
    works_then (Changes v.now) Nothing v first.left.0 _ _ _ _ _ _ _ _ first.left.1 first (c.barrier.ensures.works first.left.0 first.left.1) (λ p s none. absurd none)

pub returns-else-clock-before-clause-arranged : goal.returns-else-clock-before-clause-arranged
returns-else-clock-before-clause-arranged g c = λ v told.
    let first = c.in_ok-arrange.ensures.arranged v told in
    synced_told (IsArranged v.now) first.0 _ c.barrier.result first.2 (c.barrier.ensures.synced first.0 first.1)

pub returns-else-clock-before-clause-settled : goal.returns-else-clock-before-clause-settled
returns-else-clock-before-clause-settled g c = λ v told.
    let first = c.in_ok-arrange.ensures.arranged v told in
    synced_settled first.0 _ c.barrier.result (c.barrier.ensures.synced first.0 first.1)

pub returns-then-clock-before-clause-settled : goal.returns-then-clock-before-clause-settled
returns-then-clock-before-clause-settled g c = λ v told.
    let same = works_still (Changes v.now) v _ _ _ _ _ (g.met.F.Fs.counts_now c.args.fs.now _ v (omega arith) told) (g.met.F.Fs.only_now c.arrange.new.fs) (omega (arith, c.if-clock-before.true, c.clock.ensures, c.clock-before.ensures)) (c.arrange.ensures.works v told) in
    (v, same, c.requires.settled v told)
