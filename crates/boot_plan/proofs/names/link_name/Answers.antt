use Rattle.std.proofs.Common.{sym, ◌∙◌, subst}
use Rattle.ost_types.specs.Text.{IsName}
use Rattle.boot_plan.proofs.Plain.{decimal-name}
use Rattle.boot_plan.proofs.names.link_name.Goals as goal

pub known_name-requires : goal.known_name-requires
known_name-requires c = subst IsName (sym (c.as_bytes.ensures.value ∙ c.in_ok-to_string.ensures.ok)) (decimal-name c.args.number c.requires)
