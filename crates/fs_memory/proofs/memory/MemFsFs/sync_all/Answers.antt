use Rattle.std.proofs.Common.{refl, Some, None, Ok, true}
use Rattle.fs_trait.specs.View.{all_synced}
use Rattle.fs_trait.specs.Effect.{Changed, OfNone}
use Rattle.memory_record.specs.declared.change.Change.TheVariants.{SyncAll}
use Rattle.memory_record.specs.Changes.{view_of}
use Rattle.memory_record.proofs.Applied as applied
use Rattle.memory_record.proofs.Moments as moments
use Rattle.fs_memory.proofs.Valid as valid
use Rattle.fs_memory.proofs.Sound as sound
use Rattle.fs_memory.proofs.Named as names
use Rattle.fs_memory.proofs.memory.MemFsFs.sync_all.Goals as goal

pub record-requires : goal.record-requires
record-requires c = sound.sound-SyncAll c.args.self.now.past.changes.items (moments.sound_now c.args.self.now.base c.args.self.now.past.changes.items c.args.self.now.begun c.args.self.now.sound)

pub returns-clause-effect : goal.returns-clause-effect
returns-clause-effect c = λ v is.
    valid.told c.args.self.now.past.changes.items v (λ v. Changed None v (all_synced v) c.record.result (Some (view_of c.record.new.self.past.changes.items)))
    (valid.effect true c.args.self.now.past.changes.items _ _ None SyncAll _ (Ok SyncAll) _ (refl, refl) c.record.ensures.recorded (applied.apply_sync_all _)) is

pub returns-clause-named : goal.returns-clause-named
returns-clause-named c = names.changed_of OfNone tt tt None _ _ c.record.result _ tt (valid.effect true c.args.self.now.past.changes.items _ _ None SyncAll _ (Ok SyncAll) _ (refl, refl) c.record.ensures.recorded (applied.apply_sync_all _))

pub returns-clause-plan : goal.returns-clause-plan
returns-clause-plan c = valid.obeys true c.args.self.now.past.changes.items _ _ None SyncAll _ (Ok SyncAll) _ (refl, refl) c.record.ensures.recorded (applied.apply_sync_all _)
