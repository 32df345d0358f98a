use Rattle.std.proofs.Common.{refl}
use Rattle.memory_table.proofs.Holding.{on_ok}
use Rattle.memory_record.proofs.Following.{follow_name, follow_create, follow_move, follow_extend, follow_nothing, follow_sync_file, follow_sync_folder, follow_sync_all, follow_crash}
use Rattle.memory_record.proofs.state.State.follow.Goals as goal

pub returns-in_ok-copy-in-Name : goal.returns-in_ok-copy-in-Name
returns-in_ok-copy-in-Name c = on_ok c.name.result _ _ (λ step v. follow_name c.args.self.now _ v c.args.change.now c.in-Name.place c.in-Name.value c.in_ok-copy-in-Name.field-0 c.in-Name.is c.in_ok-copy-in-Name.ensures refl step) c.name.ensures

pub returns-in_ok-copy-in-Create : goal.returns-in_ok-copy-in-Create
returns-in_ok-copy-in-Create c = on_ok c.create.result _ _ (λ step v. follow_create c.args.self.now c.create.new.self v c.args.change.now c.in-Create.place c.in-Create.meta c.in_ok-copy-in-Create.field-0 c.in-Create.inode c.in-Create.is c.in_ok-copy-in-Create.ensures step) c.create.ensures

pub returns-in-Move : goal.returns-in-Move
returns-in-Move c = on_ok c.rename.result _ _ (λ step v. follow_move c.args.self.now _ v c.args.change.now c.in-Move.from c.in-Move.to c.in-Move.is refl step) c.rename.ensures

pub returns-in-Extend : goal.returns-in-Extend
returns-in-Extend c = on_ok c.extend.result _ _ (λ step v. follow_extend c.args.self.now c.extend.new.self v c.args.change.now c.in-Extend.inode c.in-Extend.bytes c.as_slice.result.now c.in-Extend.is c.as_slice.ensures step) c.extend.ensures

pub returns-in-SyncFile : goal.returns-in-SyncFile
returns-in-SyncFile c = λ v. follow_sync_file c.args.self.now c.sync_file.new.self v c.args.change.now c.in-SyncFile.inode c.in-SyncFile.is c.sync_file.ensures

pub returns-in-SyncAll : goal.returns-in-SyncAll
returns-in-SyncAll c = λ v. follow_sync_all c.args.self.now c.sync_all.new.self v c.args.change.now c.in-SyncAll.is c.sync_all.ensures

pub returns-in-Crash : goal.returns-in-Crash
returns-in-Crash c = on_ok c.spoil.result _ _ (λ step v. follow_crash c.args.self.now c.spoil.new.self v c.args.change.now c.in-Crash.fill c.in-Crash.is step) c.spoil.ensures

pub returns-in-Nothing : goal.returns-in-Nothing
returns-in-Nothing c = λ v shows. follow_nothing c.args.self.now v c.args.change.now shows c.in-Nothing.is

pub returns-in-SyncFolder : goal.returns-in-SyncFolder
returns-in-SyncFolder c = λ v shows. follow_sync_folder c.args.self.now v c.args.change.now shows c.in-SyncFolder.field-0 c.in-SyncFolder.is
