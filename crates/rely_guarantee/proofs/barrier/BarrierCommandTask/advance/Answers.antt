use Rattle.std.proofs.Common.{◌≡◌, subst, None}
use Rattle.fs_trait.specs.declared.types.FsErr.TheVariants.{NoMemory}
use Rattle.fs_trait.specs.View.{all_synced}
use Rattle.fs_trait.specs.Effect.{Fails}
use Rattle.fs_trait.specs.Change.{Nothing}
use Rattle.fs_trait.proofs.Effects.{all_synced-writes}
use Rattle.fs_trait.proofs.Facts.{Fails-writes}
use Rattle.rely_guarantee.proofs.barrier.BarrierCommandTask.advance.Goals as goal

pub returns-in-Ok-clause-writes : goal.returns-in-Ok-clause-writes
returns-in-Ok-clause-writes g c = λ v told. (all_synced v, (c.in-Ok.ensures.effect v told).1, all_synced-writes v)

pub returns-in-Err-clause-writes : goal.returns-in-Err-clause-writes
returns-in-Err-clause-writes g c = λ v told. Fails-writes Nothing None v (all_synced v) c.in-Err.e _ (c.in-Err.ensures.effect v told) (all_synced-writes v)

pub returns-in-Err-clause-unchanged : goal.returns-in-Err-clause-unchanged
returns-in-Err-clause-unchanged g c = λ v told is. let k : c.in-Err.e ≡ NoMemory = cc in subst (λ e. Fails None v (all_synced v) e (g.F.Fs.view c.sync_all.new.self)) k (c.in-Err.ensures.effect v told)
