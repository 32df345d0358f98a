use Rattle.std.proofs.Common.{◌≡◌, true, false, sym, ap, ◌∙◌, is_some}
use Rattle.std.proofs.Math.Logic.{∥∥₁_elim}
use Rattle.memory_table.proofs.folder.name_of.Goals as goal

pub unreachable-requires : goal.unreachable-requires
unreachable-requires c = ∥∥₁_elim c.requires (λ a b. absurd a) (λ name. let n : false ≡ true = sym (ap is_some c.in-None.is) ∙ c.in_ok-name.ensures.exact.1 name in cc)
