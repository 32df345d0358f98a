use Rattle.std.proofs.Common.{◌∙◌, sym, ap}
use Rattle.std.specs.Option.{is_some}
use Rattle.ost_forms.proofs.Alone.{inner_normal}
use Rattle.ost_forms.proofs.inner_value.write_inner.Goals as goal

pub encode-requires : goal.encode-requires
encode-requires c = rw c.in_ok-kind.ensures (ap is_some (sym (inner_normal _ _ c.requires)) ∙ c.requires)

pub returns-in-Ok : goal.returns-in-Ok
returns-in-Ok c = inner_normal _ _ c.requires ∙ (rw c.in_ok-kind.ensures at c.in-Ok.ensures.form)
