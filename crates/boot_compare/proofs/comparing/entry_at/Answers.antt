use Rattle.std.proofs.Common.{sym, subst}
use Rattle.ost_types.specs.Path.{IsPath, under}
use Rattle.ost_types.specs.Text.{IsName}
use Rattle.boot_plan.proofs.Plain.{entries_child}
use Rattle.boot_compare.proofs.comparing.entry_at.Goals as goal

pub child-requires : goal.child-requires
child-requires c = subst (λ f. IsPath (under f c.args.name.now)) (sym c.in_ok-fixed_path.ensures)
    (entries_child c.args.loader c.args.name.now (subst IsName c.as_slice-name.ensures.value c.as_slice-name.ensures.name))
