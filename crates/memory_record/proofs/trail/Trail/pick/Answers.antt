use Rattle.std.proofs.Common.{◌∙◌, sym}
use Rattle.memory_record.proofs.Choices.{chosen-one, none_more}
use Rattle.memory_record.proofs.Trailing.{kept_none, kept_some, chosen_of}
use Rattle.memory_record.proofs.trail.Trail.pick.Goals as goal

pub returns-in-None-clause-value : goal.returns-in-None-clause-value
returns-in-None-clause-value c = λ v p s names is. c.value-value.ensures v p s names is ∙ sym (chosen-one c.args.picks.now v c.args.i p (kept_none (v.older p) (c.in-None.ensures _ p s.older names is)))

pub returns-in-None-clause-more : goal.returns-in-None-clause-more
returns-in-None-clause-more c = λ v p s names is. sym (none_more (v.older p) (kept_none (v.older p) (c.in-None.ensures _ p s.older names is)))

pub returns-in-Some-clause-value : goal.returns-in-Some-clause-value
returns-in-Some-clause-value c = λ v p s names is.
    let e = kept_some c.in-Some.older.now (v.older p) (c.in-Some.ensures _ p s.older names is) in
    chosen_of c.args.picks.now v c.args.i p c.as_slice.result.now _ _ (c.as_slice.ensures ∙ e.0) (c.value-value.ensures v p s names is) c.one_of.ensures

pub returns-in-Some-clause-more : goal.returns-in-Some-clause-more
returns-in-Some-clause-more c = λ v p s names is. sym (kept_some c.in-Some.older.now (v.older p) (c.in-Some.ensures _ p s.older names is)).1
