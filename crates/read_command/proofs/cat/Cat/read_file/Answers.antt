use Rattle.std.proofs.Common.{inl, inr}
use Rattle.tree_read.proofs.Told.{is_here, is_absent, is_damaged}
use Rattle.read_command.proofs.Cats.{body_told, no_file_there}
use Rattle.read_command.proofs.cat.Cat.read_file.Goals as goal

pub returns-in_ok-told_of-in-Here-clause-told : goal.returns-in_ok-told_of-in-Here-clause-told
returns-in_ok-told_of-in-Here-clause-told g c = λ v is knows.
    body_told v.now c.args.self.now c.args.file c.requires knows c.in-Here.body (is_here v.now _ _ _ _ c.in-Here.body c.in-Here.is (c.in_ok-body.ensures.told v is)) c.args.self.now _ c.in_ok-told_of-in-Here.ensures

pub returns-in_ok-lacking_of-in-Absent-clause-told : goal.returns-in_ok-lacking_of-in-Absent-clause-told
returns-in_ok-lacking_of-in-Absent-clause-told g c = λ v is knows.
    no_file_there v.now c.args.self.now c.args.file c.requires knows _ _ c.in_ok-lacking_of-in-Absent.ensures (inl (is_absent v.now _ _ _ _ c.in-Absent.is (c.in_ok-body.ensures.told v is)))

pub returns-in_ok-lacking_of-in-Damaged-clause-told : goal.returns-in_ok-lacking_of-in-Damaged-clause-told
returns-in_ok-lacking_of-in-Damaged-clause-told g c = λ v is knows.
    no_file_there v.now c.args.self.now c.args.file c.requires knows _ _ c.in_ok-lacking_of-in-Damaged.ensures (inr (is_damaged v.now _ _ _ _ c.in-Damaged.is (c.in_ok-body.ensures.told v is)))
