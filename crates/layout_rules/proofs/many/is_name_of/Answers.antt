use Rattle.std.proofs.Common.{◌↔◌, IsTrue, sym, subst}
use Rattle.std.specs.Prelude.{IfOk}
use Rattle.layout_rules.specs.Many.{IsNameOf}
use Rattle.layout_rules.proofs.many.is_name_of.Goals as goal

pub returns-in-Kernels : goal.returns-in-Kernels
returns-in-Kernels c = subst (λ m. IfOk c.is_kernel_name.result (λ b. IsTrue b ↔ IsNameOf m c.args.name.now)) (sym c.in-Kernels.is) c.is_kernel_name.ensures

pub returns-in-Stateroots : goal.returns-in-Stateroots
returns-in-Stateroots c = subst (λ m. IfOk c.is_stateroot.result (λ b. IsTrue b ↔ IsNameOf m c.args.name.now)) (sym c.in-Stateroots.is) c.is_stateroot.ensures
