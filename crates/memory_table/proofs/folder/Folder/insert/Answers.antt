use Rattle.std.proofs.Common.{Some}
use Rattle.memory_table.proofs.Keyed.{updated_at, AtNames-inserted}
use Rattle.memory_table.proofs.folder.Folder.insert.Goals as goal

pub returns : goal.returns
returns g c = updated_at c.in_ok-from_slice.field-0.items c.args.name.now c.args.self.now.values c.insert.new.self (Some c.args.value) c.in_ok-from_slice.ensures.items c.in_ok-insert.ensures.updates

pub invariant_of-self-2 : goal.invariant_of-self-2
invariant_of-self-2 g c = record { named = AtNames-inserted c.insert.result c.args.self.now.values c.insert.new.self c.in_ok-from_slice.field-0.items c.args.name.now c.args.value c.in_ok-from_slice.ensures.items c.requires c.insert.ensures.updates c.insert.ensures.err c.args.self.now.named }
