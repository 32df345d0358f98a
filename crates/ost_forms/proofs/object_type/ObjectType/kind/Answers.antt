use Rattle.std.proofs.Common.{◌≡◌, sym, ◌∙◌}
use Rattle.gv_core.specs.declared.fault.GvFault.TheVariants.{BadKind, TooDeep, NoMemory}
use Rattle.ost_forms.proofs.Types.{never_refused}
use Rattle.ost_forms.proofs.object_type.ObjectType.kind.Goals as goal

pub unreachable-requires : goal.unreachable-requires
unreachable-requires c =
    let fault = rw c.text.ensures at c.in-Err-BadKind.ensures.fault in
    let f : BadKind ≡ NoMemory = sym c.in-Err-BadKind.field-0-is ∙ never_refused c.args.self c.in-Err-BadKind.field-0 fault in
    cc

pub unreachable-requires-in-Err-TooDeep : goal.unreachable-requires-in-Err-TooDeep
unreachable-requires-in-Err-TooDeep c =
    let fault = rw c.text.ensures at c.in-Err-TooDeep.ensures.fault in
    let f : TooDeep ≡ NoMemory = sym c.in-Err-TooDeep.field-0-is ∙ never_refused c.args.self c.in-Err-TooDeep.field-0 fault in
    cc
