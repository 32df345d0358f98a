use Rattle.std.proofs.Common.{◌++◌, ◌∷◌, [], length, Some}
use Rattle.fs_trait.specs.View.{created}
use Rattle.fs_trait.specs.Effect.{no_new, IsFresh, Changed, OfPlacing}
use Rattle.memory_record.specs.declared.change.Change.TheVariants.{Create}
use Rattle.memory_record.specs.Changes.{view_of, IsSound}
use Rattle.memory_record.proofs.Applied as applied
use Rattle.memory_record.proofs.Moments as moments
use Rattle.fs_memory.proofs.Valid as valid
use Rattle.fs_memory.proofs.Sound as sound
use Rattle.fs_memory.proofs.Named as names
use Rattle.fs_memory.proofs.memory.MemFsFs.create.Goals as goal

pub record-requires : goal.record-requires
record-requires c =
    let answer = c.make_file-change.ensures.answer in
    let now = moments.sound_now c.args.self.now.base c.args.self.now.past.changes.items c.args.self.now.begun c.args.self.now.sound in
    valid.if_answer _ _ _ (Create c.args.at.now c.args.meta.now (length c.args.self.now.past.changes.items)) (λ d. IsSound (c.args.self.now.past.changes.items ++ d ∷ [])) answer (λ free. sound.sound-Create c.args.self.now.past.changes.items now _ _ free)

pub returns-clause-effect : goal.returns-clause-effect
returns-clause-effect c = λ v is.
    let answer = c.make_file-change.ensures.answer in
    let now = moments.sound_now c.args.self.now.base c.args.self.now.past.changes.items c.args.self.now.begun c.args.self.now.sound in
    valid.told c.args.self.now.past.changes.items v (λ v. (n : _) × IsFresh n v × Changed (no_new c.args.at.now v.now) v (created c.args.at.now c.args.meta.now n v) c.record.result (Some (view_of c.record.new.self.past.changes.items)))
    ((length c.args.self.now.past.changes.items, sound.fresh c.args.self.now.past.changes.items now, valid.effect _ c.args.self.now.past.changes.items _ _ _ (Create c.args.at.now c.args.meta.now (length c.args.self.now.past.changes.items)) _ _ _ answer c.record.ensures.recorded (applied.apply_create _ _ _ _))) is

pub returns-clause-named : goal.returns-clause-named
returns-clause-named c =
    let answer = c.make_file-change.ensures.answer in
    names.changed_of OfPlacing tt tt _ _ _ c.record.result _ (names.new_placing _ _) (valid.effect _ c.args.self.now.past.changes.items _ _ _ (Create c.args.at.now c.args.meta.now (length c.args.self.now.past.changes.items)) _ _ _ answer c.record.ensures.recorded (applied.apply_create _ _ _ _))

pub returns-clause-plan : goal.returns-clause-plan
returns-clause-plan c =
    let answer = c.make_file-change.ensures.answer in
    let now = moments.sound_now c.args.self.now.base c.args.self.now.past.changes.items c.args.self.now.begun c.args.self.now.sound in
    (length c.args.self.now.past.changes.items, sound.fresh c.args.self.now.past.changes.items now, valid.obeys _ c.args.self.now.past.changes.items _ _ _ (Create c.args.at.now c.args.meta.now (length c.args.self.now.past.changes.items)) _ _ _ answer c.record.ensures.recorded (applied.apply_create _ _ _ _))
