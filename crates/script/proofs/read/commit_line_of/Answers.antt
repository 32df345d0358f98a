use Rattle.script.proofs.Slices.{reads_none, reads_other}
use Rattle.script.proofs.read.commit_line_of.Goals as goal

pub returns-in_default : goal.returns-in_default
returns-in_default c = λ l is. reads_other _ _ c.in_ok-branch.ensures c.in_default.not-Some _ is.branch

pub returns-in_default-2 : goal.returns-in_default-2
returns-in_default-2 c = λ l is. reads_other _ _ c.in_ok-tree.ensures c.in_default-2.not-Some _ is.tree

pub returns-in_default-3 : goal.returns-in_default-3
returns-in_default-3 c = λ l is. reads_other _ _ c.in_ok-subject.ensures c.in_default-3.not-Some _ is.subject

pub returns-in_default-4 : goal.returns-in_default-4
returns-in_default-4 c = λ l is. reads_other _ _ c.in_ok-body.ensures c.in_default-4.not-Some _ is.body

pub returns-in-None : goal.returns-in-None
returns-in-None c = λ l is. reads_none _ _ c.in_ok-time.ensures c.in-None.is _ is.time
