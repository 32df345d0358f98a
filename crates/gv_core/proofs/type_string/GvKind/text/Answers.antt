use Rattle.std.proofs.Common.{sym, ap, ◌∙◌}
use Rattle.gv_core.specs.Kind.{variant_kind}
use Rattle.gv_core.proofs.Stacks.{is_type_string}
use Rattle.gv_core.proofs.type_string.GvKind.text.Goals as goal

pub returns-clause-kind : goal.returns-clause-kind
returns-clause-kind c = is_type_string c.args.self.now _ (ap variant_kind (sym c.self.view_is) ∙ c.self.invariant)
