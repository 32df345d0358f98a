use Rattle.std.proofs.Common.{None, refl}
use Rattle.memory_table.proofs.Keyed.{updated, AtNames-updated}
use Rattle.memory_table.proofs.folder.Folder.remove.Goals as goal

pub returns-clause-updates : goal.returns-clause-updates
returns-clause-updates g c = updated c.args.name.now c.args.self.now.values c.remove.new.self None c.remove.ensures.updates

pub invariant_of-self : goal.invariant_of-self
invariant_of-self g c = record { named = AtNames-updated c.args.self.now.values c.remove.new.self c.args.name.now None (λ some. absurd (some refl)) (updated c.args.name.now c.args.self.now.values c.remove.new.self None c.remove.ensures.updates) c.args.self.now.named }
