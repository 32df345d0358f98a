use Rattle.std.proofs.Common.{[], arith}
use Rattle.std.specs.Prelude.{Contains}
use Rattle.ost_types.specs.declared.object.ObjName.{ObjName}
use Rattle.repo_model.specs.Objects.{Stores}
use Rattle.reach.specs.Marking.{Listed}
use Rattle.reach.proofs.Marked.{kept_closed, marked_all, marks_begin, marks_step, pruned_from, roots_stay}
use Rattle.reach.proofs.pruning.marks_find.Goals as goal

nothing : (o : ObjName) → Contains [] o → ⊥
nothing o r = omega (arith, r.1)

pub returns-clause-begins : goal.returns-clause-begins
returns-clause-begins c = λ d roots marked waiting depth found left. marks_begin (Stores d) (Contains roots) depth (Listed found) (Listed left) (Contains marked) (Contains waiting)

pub returns-clause-step : goal.returns-clause-step
returns-clause-step c = λ d roots marked waiting marked' waiting' depth. marks_step (Stores d) (Contains roots) depth (Contains marked) (Contains waiting) (Contains marked') (Contains waiting')

pub returns-clause-ends : goal.returns-clause-ends
returns-clause-ends c = λ d roots marked depth m o has. (
  λ is. m.right o is,
  λ reached. marked_all (Stores d) (Contains roots) depth (Contains marked) (Contains []) m nothing o reached has,
)

pub returns-clause-roots : goal.returns-clause-roots
returns-clause-roots c = λ d roots marked doomed depth m are. roots_stay (Stores d) (Contains roots) depth (Contains marked) (Contains []) m nothing (Contains doomed) are

pub returns-clause-kept : goal.returns-clause-kept
returns-clause-kept c = λ d roots marked doomed depth m are. kept_closed (Stores d) (Contains roots) depth (Contains marked) (Contains []) m nothing (Contains doomed) are

pub returns-clause-pruned : goal.returns-clause-pruned
returns-clause-pruned c = λ d now roots marked doomed depth m are. pruned_from (Stores d) (Contains roots) depth (Contains marked) (Contains []) m nothing (Contains doomed) are (Stores now)
