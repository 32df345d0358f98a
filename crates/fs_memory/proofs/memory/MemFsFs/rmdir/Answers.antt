use Rattle.std.proofs.Common.{◌++◌, ◌∷◌, [], Some}
use Rattle.fs_trait.specs.View.{named}
use Rattle.fs_trait.specs.Effect.{no_rmdir, HasNames, Changed, OfEmptying}
use Rattle.fs_trait.specs.declared.types.Value.TheVariants.{Absent}
use Rattle.memory_record.specs.declared.change.Change.TheVariants.{Name}
use Rattle.memory_record.specs.Changes.{view_of, IsSound}
use Rattle.memory_record.proofs.Listings.{decide_names}
use Rattle.memory_record.proofs.Applied as applied
use Rattle.memory_record.proofs.Moments as moments
use Rattle.fs_memory.proofs.Valid as valid
use Rattle.fs_memory.proofs.Sound as sound
use Rattle.fs_memory.proofs.Named as names
use Rattle.fs_memory.proofs.memory.MemFsFs.rmdir.Goals as goal

pub record-requires : goal.record-requires
record-requires c =
    let answer = c.remove_folder-change.ensures.answer in
    let now = moments.sound_now c.args.self.now.base c.args.self.now.past.changes.items c.args.self.now.begun c.args.self.now.sound in
    let has = decide_names c.args.self.now.past.changes.items c.args.at.now in
    valid.if_answer _ _ _ (Name c.args.at.now Absent) (λ d. IsSound (c.args.self.now.past.changes.items ++ d ∷ [])) (answer has.0 has.1) (λ free. sound.sound-emptied c.args.self.now.past.changes.items now has.0 _ has.1 free)

pub returns-clause-effect : goal.returns-clause-effect
returns-clause-effect c = λ v is.
    let answer = c.remove_folder-change.ensures.answer in
    let has = decide_names c.args.self.now.past.changes.items c.args.at.now in
    valid.told c.args.self.now.past.changes.items v (λ v. (b : _) × HasNames b c.args.at.now v.now × Changed (no_rmdir b c.args.at.now v.now) v (named c.args.at.now Absent v) c.record.result (Some (view_of c.record.new.self.past.changes.items)))
    ((has.0, has.1, valid.effect _ c.args.self.now.past.changes.items _ _ _ (Name c.args.at.now Absent) _ _ _ (answer has.0 has.1) c.record.ensures.recorded (applied.apply_name _ _ _))) is

pub returns-clause-named : goal.returns-clause-named
returns-clause-named c =
    let answer = c.remove_folder-change.ensures.answer in
    let has = decide_names c.args.self.now.past.changes.items c.args.at.now in
    names.changed_of OfEmptying tt tt _ _ _ c.record.result _ (names.rmdir_emptying has.0 _ _) (valid.effect _ c.args.self.now.past.changes.items _ _ _ (Name c.args.at.now Absent) _ _ _ (answer has.0 has.1) c.record.ensures.recorded (applied.apply_name _ _ _))

pub returns-clause-plan : goal.returns-clause-plan
returns-clause-plan c =
    let answer = c.remove_folder-change.ensures.answer in
    let has = decide_names c.args.self.now.past.changes.items c.args.at.now in
    (has.0, has.1, valid.obeys _ c.args.self.now.past.changes.items _ _ _ (Name c.args.at.now Absent) _ _ _ (answer has.0 has.1) c.record.ensures.recorded (applied.apply_name _ _ _))
