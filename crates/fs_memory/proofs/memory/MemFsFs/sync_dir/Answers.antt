use Rattle.std.proofs.Common.{◌++◌, ◌∷◌, [], Some}
use Rattle.fs_trait.specs.View.{folder_synced}
use Rattle.fs_trait.specs.Effect.{no_folder, Changed, OfFinding}
use Rattle.memory_record.specs.declared.change.Change.TheVariants.{SyncFolder}
use Rattle.memory_record.specs.Changes.{view_of, IsSound}
use Rattle.memory_record.proofs.Applied as applied
use Rattle.memory_record.proofs.Moments as moments
use Rattle.fs_memory.proofs.Valid as valid
use Rattle.fs_memory.proofs.Sound as sound
use Rattle.fs_memory.proofs.Named as names
use Rattle.fs_memory.proofs.memory.MemFsFs.sync_dir.Goals as goal

pub record-requires : goal.record-requires
record-requires c =
    let answer = c.sync_folder-change.ensures.answer in
    let now = moments.sound_now c.args.self.now.base c.args.self.now.past.changes.items c.args.self.now.begun c.args.self.now.sound in
    valid.if_answer _ _ _ (SyncFolder c.args.at.now) (λ d. IsSound (c.args.self.now.past.changes.items ++ d ∷ [])) answer (λ free. sound.sound-SyncFolder c.args.self.now.past.changes.items now _)

pub returns-clause-effect : goal.returns-clause-effect
returns-clause-effect c = λ v is.
    let answer = c.sync_folder-change.ensures.answer in
    valid.told c.args.self.now.past.changes.items v (λ v. Changed (no_folder c.args.at.now v.now) v (folder_synced c.args.at.now v) c.record.result (Some (view_of c.record.new.self.past.changes.items)))
    (valid.effect _ c.args.self.now.past.changes.items _ _ _ (SyncFolder c.args.at.now) _ _ _ answer c.record.ensures.recorded (applied.apply_sync_folder _ _)) is

pub returns-clause-named : goal.returns-clause-named
returns-clause-named c =
    let answer = c.sync_folder-change.ensures.answer in
    names.changed_of OfFinding tt tt _ _ _ c.record.result _ (names.folder_finding _ _) (valid.effect _ c.args.self.now.past.changes.items _ _ _ (SyncFolder c.args.at.now) _ _ _ answer c.record.ensures.recorded (applied.apply_sync_folder _ _))

pub returns-clause-plan : goal.returns-clause-plan
returns-clause-plan c =
    let answer = c.sync_folder-change.ensures.answer in
    valid.obeys _ c.args.self.now.past.changes.items _ _ _ (SyncFolder c.args.at.now) _ _ _ answer c.record.ensures.recorded (applied.apply_sync_folder _ _)
