use Rattle.memory_record.proofs.Moments.{sound_at}
use Rattle.memory_record.proofs.Leaving.{crash_image}
use Rattle.fs_memory.proofs.mem_fs.MemFs.image.Goals as goal

pub crashed-requires : goal.crashed-requires
crashed-requires c = rw c.deref.ensures.value (sound_at c.args.self.now.base c.args.self.now.past.changes.items c.args.moment c.args.self.now.begun c.args.self.now.sound c.requires)

pub returns-clause-image : goal.returns-clause-image
returns-clause-image c =
    let crash = rw c.deref.ensures.value at c.in_ok-past.ensures.crash in
    crash_image _ _ _ _ (sound_at c.args.self.now.base c.args.self.now.past.changes.items c.args.moment c.args.self.now.begun c.args.self.now.sound c.requires).root crash
