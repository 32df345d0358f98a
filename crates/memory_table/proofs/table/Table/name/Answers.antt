use Rattle.std.proofs.Common.{refl, ap}
use Rattle.memory_table.specs.Ties.{present}
use Rattle.memory_table.proofs.Holding.{on_ok}
use Rattle.memory_table.proofs.Tying.{Ties-name}
use Rattle.memory_table.proofs.table.Table.name.Goals as goal

pub returns-in-Absent : goal.returns-in-Absent
returns-in-Absent c = on_ok c.remove.result _ _ (λ holds d ties. Ties-name c.args.self.now _ c.args.place.now c.args.value _ d refl (ap present c.in-Absent.is) holds ties) c.remove.ensures

pub returns-in-Folder : goal.returns-in-Folder
returns-in-Folder c = on_ok c.put.result _ _ (λ holds d ties. Ties-name c.args.self.now _ c.args.place.now c.args.value _ d refl (ap present c.in-Folder.is) holds ties) c.put.ensures

pub returns-in-Link : goal.returns-in-Link
returns-in-Link c = on_ok c.put-in-Link.result _ _ (λ holds d ties. Ties-name c.args.self.now _ c.args.place.now c.args.value _ d refl (ap present c.in-Link.is) holds ties) c.put-in-Link.ensures

pub returns-in-File : goal.returns-in-File
returns-in-File c = on_ok c.put-in-File.result _ _ (λ holds d ties. Ties-name c.args.self.now _ c.args.place.now c.args.value _ d refl (ap present c.in-File.is) holds ties) c.put-in-File.ensures
