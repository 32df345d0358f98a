use Rattle.ost_types.proofs.Flats.{texts_same, texts_apart}
use Rattle.memory_record.proofs.Records.{nothing, crash, name_here, name_apart, create_here, create_apart, move_from, move_to, move_apart, extend, sync_file, sync_folder, sync_all}
use Rattle.memory_record.proofs.found.look.Goals as goal

pub returns-in-Nothing : goal.returns-in-Nothing
returns-in-Nothing c = λ p names is. (p, names, is, λ v. rw c.in-Nothing.is (nothing v _))

pub returns-then-eq : goal.returns-then-eq
returns-then-eq c = λ p names is. λ v. rw (c.in-Name.is, c.of.ensures) (name_here v _ _ _ (texts_same _ _ _ _ c.text.ensures.names names c.text.ensures.value is _ c.eq.ensures c.if-eq.true))

pub returns-else-eq : goal.returns-else-eq
returns-else-eq c = λ p names is. (p, names, is, λ v. rw c.in-Name.is (name_apart v _ _ _ (texts_apart _ _ _ _ c.text.ensures.names names c.text.ensures.value is _ c.eq.ensures c.if-eq.false)))

pub returns-then-eq-2 : goal.returns-then-eq-2
returns-then-eq-2 c = λ p names is. λ v. rw c.in-Create.is (create_here v _ _ _ _ (texts_same _ _ _ _ c.text-in-Create.ensures.names names c.text-in-Create.ensures.value is _ c.eq-in-Create.ensures c.if-eq-2.true))

pub returns-else-eq-2 : goal.returns-else-eq-2
returns-else-eq-2 c = λ p names is. (p, names, is, λ v. rw c.in-Create.is (create_apart v _ _ _ _ (texts_apart _ _ _ _ c.text-in-Create.ensures.names names c.text-in-Create.ensures.value is _ c.eq-in-Create.ensures c.if-eq-2.false)))

pub returns-then-eq-3 : goal.returns-then-eq-3
returns-then-eq-3 c = λ p names is. λ v. rw c.in-Move.is (move_from v _ _ _ (texts_same _ _ _ _ c.text-in-Move.ensures.names names c.text-in-Move.ensures.value is _ c.eq-in-Move.ensures c.if-eq-3.true))

pub returns-then-eq-4 : goal.returns-then-eq-4
returns-then-eq-4 c = λ p names is. (
  _,
  c.text-then-eq-4.ensures.names,
  c.text-then-eq-4.ensures.value,
  λ v.
      rw c.in-Move.is
      (move_to v _ _ _ (texts_apart _ _ _ _ c.text-in-Move.ensures.names names c.text-in-Move.ensures.value is _ c.eq-in-Move.ensures c.if-eq-3.false) (texts_same _ _ _ _ c.text-else-eq-3.ensures.names names c.text-else-eq-3.ensures.value is _ c.eq-else-eq-3.ensures c.if-eq-4.true)),
)

pub returns-else-eq-4 : goal.returns-else-eq-4
returns-else-eq-4 c = λ p names is. (
  p,
  names,
  is,
  λ v.
      rw c.in-Move.is
      (move_apart v _ _ _ (texts_apart _ _ _ _ c.text-in-Move.ensures.names names c.text-in-Move.ensures.value is _ c.eq-in-Move.ensures c.if-eq-3.false) (texts_apart _ _ _ _ c.text-else-eq-3.ensures.names names c.text-else-eq-3.ensures.value is _ c.eq-else-eq-3.ensures c.if-eq-4.false)),
)

pub returns-in-Extend : goal.returns-in-Extend
returns-in-Extend c = λ p names is. (p, names, is, λ v. rw c.in-Extend.is (extend v _ _ _))

pub returns-in-SyncFile : goal.returns-in-SyncFile
returns-in-SyncFile c = λ p names is. (p, names, is, λ v. rw c.in-SyncFile.is (sync_file v _ _))

pub returns-in-SyncFolder : goal.returns-in-SyncFolder
returns-in-SyncFolder c = λ p names is. (p, names, is, λ v. rw c.in-SyncFolder.is (sync_folder v _ _))

pub returns-in-SyncAll : goal.returns-in-SyncAll
returns-in-SyncAll c = λ p names is. (p, names, is, λ v. rw c.in-SyncAll.is (sync_all v _))

pub returns-in-Crash : goal.returns-in-Crash
returns-in-Crash c = λ p names is. (p, names, is, λ v. rw c.in-Crash.is (crash v _ _))
