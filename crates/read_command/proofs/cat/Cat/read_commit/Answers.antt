use Rattle.std.proofs.Common.{inl, inr}
use Rattle.ost_forms.specs.CommitRow.{parts_of}
use Rattle.tree_read.proofs.Told.{is_here, is_absent, is_damaged}
use Rattle.read_command.proofs.Cats.{come_first, no_commit}
use Rattle.read_command.proofs.cat.Cat.read_commit.Goals as goal

pub returns-in-Here-clause-told : goal.returns-in-Here-clause-told
returns-in-Here-clause-told g c = λ v is knows. come_first v.now c.args.self.now.commit c.args.self.now.path (parts_of c.in-Here.commit) (is_here v.now _ _ _ _ c.in-Here.commit c.in-Here.is (c.in_ok-commit.ensures.told v is))

pub returns-in_ok-lacking_of-in-Absent-clause-told : goal.returns-in_ok-lacking_of-in-Absent-clause-told
returns-in_ok-lacking_of-in-Absent-clause-told g c = λ v is knows.
    no_commit v.now c.args.self.now _ _ c.in_ok-lacking_of-in-Absent.ensures (inl (is_absent v.now _ _ _ _ c.in-Absent.is (c.in_ok-commit.ensures.told v is)))

pub returns-in_ok-lacking_of-in-Damaged-clause-told : goal.returns-in_ok-lacking_of-in-Damaged-clause-told
returns-in_ok-lacking_of-in-Damaged-clause-told g c = λ v is knows.
    no_commit v.now c.args.self.now _ _ c.in_ok-lacking_of-in-Damaged.ensures (inr (is_damaged v.now _ _ _ _ c.in-Damaged.is (c.in_ok-commit.ensures.told v is)))
