use Rattle.memory_record.proofs.state.State.value.Goals as goal

pub returns : goal.returns
returns c = λ v p shows names is. c.or_absent.ensures.shows _ (c.value.ensures v.now p shows.ties names is)
