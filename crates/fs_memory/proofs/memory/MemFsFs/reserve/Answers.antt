use Rattle.std.proofs.Common.{◌≤◌, sym, subst, length}
use Rattle.memory_record.specs.Changes.{SoundSince}
use Rattle.fs_memory.proofs.memory.MemFsFs.reserve.Goals as goal

pub invariant_of-self-2 : goal.invariant_of-self-2
invariant_of-self-2 c = record {
  begun = subst (λ l. c.args.self.now.base ≤ length l) (sym c.reserve.ensures.items) c.args.self.now.begun;
  sound = subst (SoundSince c.args.self.now.base) (sym c.reserve.ensures.items) c.args.self.now.sound;
}
