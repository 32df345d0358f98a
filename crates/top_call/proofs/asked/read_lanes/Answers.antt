use Rattle.top_call.proofs.Asking.{all_misread, heard, took, whole_script}
use Rattle.top_call.proofs.asked.read_lanes.Goals as goal

pub returns-clause-fault : goal.returns-clause-fault
returns-clause-fault g c = all_misread _ c.in-Ok.bytes _ _ _ c.lanes_of.result (heard _ _ _ c.in-Ok.ensures.read) c.as_slice.ensures c.lanes_of.ensures.fault

pub returns-clause-exact : goal.returns-clause-exact
returns-clause-exact g c = λ all lanes told script. whole_script _ c.in-Ok.bytes _ all lanes c.lanes_of.result (heard _ _ _ c.in-Ok.ensures.read) c.as_slice.ensures told script c.lanes_of.ensures.exact

pub returns-clause-read : goal.returns-clause-read
returns-clause-read g c = took _ _ c.in-Ok.bytes c.in-Ok.ensures.read
