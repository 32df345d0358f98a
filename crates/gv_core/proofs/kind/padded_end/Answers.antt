use Rattle.std.proofs.Common.{sym, ap}
use Rattle.std.specs.Prelude.{option_map}
use Rattle.std.proofs.lemmas.List.{nil_from_length}
use Rattle.gv_core.specs.Measure.{up}
use Rattle.gv_core.specs.Node.{capped}
use Rattle.gv_core.proofs.Nodes.{ended_none, ended_next, ended_end}
use Rattle.gv_core.proofs.kind.padded_end.Goals as goal

pub returns-in_err-size : goal.returns-in_err-size
returns-in_err-size c = rw c.from_residual.ensures (ap (λ o. option_map capped (option_map (up c.args.align) o)) (sym (ended_none _ _ _ _ _ c.loop-member.invariant c.in-Some.ensures.cases.0 c.in_err-size.ensures)))

pub loop-member-preserved : goal.loop-member-preserved
loop-member-preserved c = ended_next _ _ _ _ _ _ _ _ c.loop-member.invariant c.in-Some.ensures.cases.0 c.in_ok-size.ensures c.align.ensures.value c.end_behind-end.ensures

pub returns : goal.returns
returns c = ended_end _ _ _ _ _ c.loop-member.invariant (nil_from_length _ c.in_default.ensures.cases) c.end_behind.ensures
