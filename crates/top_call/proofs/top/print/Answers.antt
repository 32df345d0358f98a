use Rattle.std.proofs.Common.{refl, ◌∙◌, ap, map}
use Rattle.std.specs.Global.{Vec}
use Rattle.script.specs.declared.answer.Reply.{Reply}
use Rattle.top_call.proofs.Printing.{prints_from, silent_prints}
use Rattle.top_call.proofs.top.print.Goals as goal

pub returns-in-Ok-clause-prints : goal.returns-in-Ok-clause-prints
returns-in-Ok-clause-prints g c = λ had told.
    prints_from c.write_all.result had _ _ _ _ _ (c.as_slice.ensures ∙ c.in-Ok.ensures) (c.write_all.ensures.whole had told) (c.write_all.ensures.front had told) c.write_all.ensures.cause

pub returns-in-Err-clause-prints : goal.returns-in-Err-clause-prints
returns-in-Err-clause-prints g c = λ had told.
    prints_from c.write_all-in-Err.result had _ _ _ _ _ refl (c.write_all-in-Err.ensures.whole had told) (c.write_all-in-Err.ensures.front had told) c.write_all-in-Err.ensures.cause

pub returns-then-is_silent-clause-prints : goal.returns-then-is_silent-clause-prints
returns-then-is_silent-clause-prints g c = λ had told.
    silent_prints had _ _ _ _ (ap (map (λ (lane : Vec Reply). lane.items)) (c.is_silent.ensures.yes c.if-is_silent.true).1) told
