use Rattle.std.proofs.Common.{lit<, ap}
use Rattle.ost_types.specs.declared.meta.Meta.{Meta}
use Rattle.obj_store.proofs.task.plain_source.Goals as goal

pub new-requires : goal.new-requires
new-requires c = (420, lit< tt, ap (λ (m : Meta). m.mode) c.plain_meta-meta.ensures)
