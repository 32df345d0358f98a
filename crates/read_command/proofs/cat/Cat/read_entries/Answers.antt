use Rattle.std.proofs.Common.{inl, inr}
use Rattle.tree_read.proofs.Told.{is_here, is_absent, is_damaged}
use Rattle.read_command.proofs.Cats.{entered, no_entries}
use Rattle.read_command.proofs.cat.Cat.read_entries.Goals as goal

pub returns-in_ok-enter-in-Here-clause-told : goal.returns-in_ok-enter-in-Here-clause-told
returns-in_ok-enter-in-Here-clause-told g c = λ v is knows.
    entered v.now c.args.self.now c.args.tree c.args._meta c.args.depth c.requires.place knows
    (record { files = c.in-Here.entries.files; folders = c.in-Here.entries.folders }) (is_here v.now _ _ _ _ c.in-Here.entries c.in-Here.is (c.in_ok-entries.ensures.told v is))
    c.enter.new.self _ c.in_ok-enter-in-Here.ensures.enters

pub returns-in_ok-lacking_of-in-Absent-clause-told : goal.returns-in_ok-lacking_of-in-Absent-clause-told
returns-in_ok-lacking_of-in-Absent-clause-told g c = λ v is knows.
    no_entries v.now c.args.self.now c.args.tree c.args._meta c.args.depth c.requires.place knows _ _ c.in_ok-lacking_of-in-Absent.ensures (inl (is_absent v.now _ _ _ _ c.in-Absent.is (c.in_ok-entries.ensures.told v is)))

pub returns-in_ok-lacking_of-in-Damaged-clause-told : goal.returns-in_ok-lacking_of-in-Damaged-clause-told
returns-in_ok-lacking_of-in-Damaged-clause-told g c = λ v is knows.
    no_entries v.now c.args.self.now c.args.tree c.args._meta c.args.depth c.requires.place knows _ _ c.in_ok-lacking_of-in-Damaged.ensures (inr (is_damaged v.now _ _ _ _ c.in-Damaged.is (c.in_ok-entries.ensures.told v is)))
