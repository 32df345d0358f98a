use Rattle.std.proofs.Common.{◌≤◌, ◌∷◌, [], length, arith, sym, subst, length-append}
use Rattle.memory_record.specs.Changes.{SoundSince}
use Rattle.memory_record.proofs.Moments.{sound_push, elapses_push}
use Rattle.fs_memory.proofs.Valid.{settled_sound}
use Rattle.fs_memory.proofs.mem_fs.MemFs.record.Goals as goal

pub invariant_of-self-in-Break-1 : goal.invariant_of-self-in-Break-1
invariant_of-self-in-Break-1 c = record {
  begun = subst (λ l. c.args.self.now.base ≤ length l) (sym c.in_err-push-in-Some.ensures.items) c.args.self.now.begun;
  sound = subst (SoundSince c.args.self.now.base) (sym c.in_err-push-in-Some.ensures.items) c.args.self.now.sound;
}

pub invariant_of-self-in-Some : goal.invariant_of-self-in-Some
invariant_of-self-in-Some c =
    let cs = c.args.self.now.past.changes.items in
    let l = length-append cs (c.in-Some.outcome.change ∷ []) in
    let b = c.args.self.now.begun in
    record {
      begun = subst (λ l. c.args.self.now.base ≤ length l) (sym c.in_ok-push-in-Some.ensures.items) (omega (arith, l, b));
      sound = subst (SoundSince c.args.self.now.base) (sym c.in_ok-push-in-Some.ensures.items)
          (sound_push c.args.self.now.base cs c.in-Some.outcome.change c.args.self.now.begun c.args.self.now.sound (settled_sound cs c.args.self.now.base c.args.self.now.begun c.args.self.now.sound _ c.args.change c.in-Some.outcome.change c.in-Some.outcome.answer c.in-Some.ensures.some c.requires));
    }

pub returns-in_ok-push-in-Some-clause-time : goal.returns-in_ok-push-in-Some-clause-time
returns-in_ok-push-in-Some-clause-time c = elapses_push _ _ _ c.in-Some.outcome.change c.args.self.now.begun c.in_ok-push-in-Some.ensures.items
