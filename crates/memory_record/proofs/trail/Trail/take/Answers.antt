use Rattle.std.proofs.Common.{◌∙◌, sym}
use Rattle.memory_record.proofs.Trailing.{kept_none, kept_some}
use Rattle.memory_record.proofs.trail.Trail.take.Goals as goal
use Rattle.memory_record.proofs.trail.Trail.take.Goals.{in-Some, in-None}

pub returns-clause-value : goal.returns-clause-value
returns-clause-value c = λ v s.
    let was = c.in_ok-older.ensures.value _ s.older in
    elim c.match-branch-2.branch [
      | in-Some w ↦ w.result-is ∙ (kept_some _ (v.older c.args.place.now) (sym w.in-Some.is ∙ was)).0
      | in-None w ↦ w.result-is ∙ w.new.ensures ∙ sym (kept_none (v.older c.args.place.now) (sym w.in-None.is ∙ was))
    ]
