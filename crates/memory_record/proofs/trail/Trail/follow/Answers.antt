use Rattle.memory_table.proofs.Holding.{on_ok}
use Rattle.memory_record.proofs.Trailing.{by_name, by_create, by_move, by_sync_folder, by_sync_all, by_crash, by_nothing, by_extend, by_sync_file, shows_cleared}
use Rattle.memory_record.proofs.trail.Trail.follow.Goals as goal

pub returns-in_ok-copy-in-Name : goal.returns-in_ok-copy-in-Name
returns-in_ok-copy-in-Name c = on_ok c.name.result _ _ (λ step v s. by_name c.name.new.self c.args.change.now v c.in-Name.place c.in-Name.value _ c.in-Name.is c.in_ok-copy-in-Name.ensures (step v s)) c.name.ensures

pub returns-in-Create : goal.returns-in-Create
returns-in-Create c = on_ok c.name-in-Create.result _ _ (λ step v s. by_create c.name-in-Create.new.self c.args.change.now v c.in-Create.place _ c.in-Create.inode c.in-Create.is (step v s)) c.name-in-Create.ensures

pub returns-in-Move : goal.returns-in-Move
returns-in-Move c = on_ok c.rename.result _ _ (λ step v s. by_move c.rename.new.self c.args.change.now v c.in-Move.from c.in-Move.to c.in-Move.is (step v s)) c.rename.ensures

pub returns-in-SyncFolder : goal.returns-in-SyncFolder
returns-in-SyncFolder c = λ v s. by_sync_folder _ c.args.change.now v c.in-SyncFolder.folder c.in-SyncFolder.is (shows_cleared c.args.self.now v c.clear.new.self c.in-SyncFolder.folder c.clear.ensures s)

pub returns-in-SyncAll : goal.returns-in-SyncAll
returns-in-SyncAll c = λ v s. by_sync_all _ c.args.change.now v c.in-SyncAll.is (c.forget.ensures v 0 s).0

pub returns-in-Crash : goal.returns-in-Crash
returns-in-Crash c = λ v s. by_crash _ c.args.change.now v c.in-Crash.field-0 c.in-Crash.is (c.forget-in-Crash.ensures v c.in-Crash.field-0 s).1

pub returns-in-Nothing : goal.returns-in-Nothing
returns-in-Nothing c = λ v s. by_nothing c.args.self.now c.args.change.now v c.in-Nothing.is s

pub returns-in-Extend : goal.returns-in-Extend
returns-in-Extend c = λ v s. by_extend c.args.self.now c.args.change.now v c.in-Extend.field-0 c.in-Extend.field-1 c.in-Extend.is s

pub returns-in-SyncFile : goal.returns-in-SyncFile
returns-in-SyncFile c = λ v s. by_sync_file c.args.self.now c.args.change.now v c.in-SyncFile.field-0 c.in-SyncFile.is s
