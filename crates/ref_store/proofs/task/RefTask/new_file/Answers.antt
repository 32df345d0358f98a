use Rattle.std.proofs.Common.{ap, lit<}
use Rattle.ost_types.specs.declared.meta.Meta.{Meta}
use Rattle.ref_store.proofs.task.RefTask.new_file.Goals as goal

pub new-requires : goal.new-requires
new-requires c = (420, lit< tt, ap (λ (m : Meta). m.mode) c.file_meta.ensures)
