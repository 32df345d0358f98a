use Rattle.lane_system.proofs.AllSaid.{all_founded, all_kept, all_present, all_staying}
use Rattle.lane_system.proofs.unremoved.all_is_said.Goals as goal

pub returns-clause-kept : goal.returns-clause-kept
returns-clause-kept g c fs opening v limits lanes entries none = all_kept g.C.Command.means lanes entries none (g.F.Fs.was fs) opening v limits

pub returns-clause-present : goal.returns-clause-present
returns-clause-present g c opening lanes entries none = all_present g.C.Command.means lanes entries none _

pub returns-clause-founded : goal.returns-clause-founded
returns-clause-founded g c opening v lanes entries pending none = all_founded g.C.Command.means lanes entries none opening v pending

pub returns-clause-staying : goal.returns-clause-staying
returns-clause-staying g c v b limits begin lanes entries none = all_staying g.C.Command.means lanes entries none v b limits begin
