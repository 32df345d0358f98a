use Rattle.std.proofs.Common.{None}
use Rattle.fs_trait.specs.View.{all_synced}
use Rattle.fs_trait.specs.Change.{Nothing}
use Rattle.fs_trait.proofs.Effects.{all_synced-writes}
use Rattle.sys_open.proofs.Working.{changed_left, works_call}
use Rattle.sys_open.proofs.barrier.barrier.Goals as goal

pub returns-in-Ok-clause-works : goal.returns-in-Ok-clause-works
returns-in-Ok-clause-works g c = λ v told.
    works_call Nothing v _ _ _ _ _ (g.met.F.Fs.only_now c.sync_all.new.self) c.sync_all.ensures.time (changed_left Nothing None v (all_synced v) c.sync_all.result _ (all_synced-writes v) (c.sync_all.ensures.effect v told))

pub returns-in-Ok-clause-synced : goal.returns-in-Ok-clause-synced
returns-in-Ok-clause-synced g c = λ v told. (c.in-Ok.ensures.effect v told).1

pub returns-in-Err-clause-works : goal.returns-in-Err-clause-works
returns-in-Err-clause-works g c = λ v told.
    works_call Nothing v _ _ _ _ _ (g.met.F.Fs.only_now c.sync_all.new.self) c.sync_all.ensures.time (changed_left Nothing None v (all_synced v) c.sync_all.result _ (all_synced-writes v) (c.sync_all.ensures.effect v told))
