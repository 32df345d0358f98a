use Rattle.top_call.proofs.asked.lanes_of_fields.Goals as goal

pub returns-in-Ok-Script-clause-exact : goal.returns-in-Ok-Script-clause-exact
returns-in-Ok-Script-clause-exact g c = λ all lanes told script is. c.read_lanes.ensures.exact all lanes told script
