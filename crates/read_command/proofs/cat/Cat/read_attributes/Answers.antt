use Rattle.std.proofs.Common.{Some, inl, inr, sym, subst, refl}
use Rattle.read_command.specs.CatSteps.{CatTells}
use Rattle.tree_read.proofs.Told.{is_here, is_absent, is_damaged}
use Rattle.read_command.proofs.Cats.{a_folder, no_attributes}
use Rattle.read_command.proofs.cat.Cat.read_attributes.Goals as goal

pub returns-in_ok-no_file-in-Here-clause-told : goal.returns-in_ok-no_file-in-Here-clause-told
returns-in_ok-no_file-in-Here-clause-told g c = λ v is knows.
    subst (λ a. CatTells v.now c.args.self.now c.args.self.now (Some a)) (sym c.in_ok-no_file-in-Here.ensures)
    (a_folder v.now c.args.self.now c.args._tree c.args.meta c.args._depth c.requires.place knows c.requires.deep c.in-Here.meta (is_here v.now _ _ _ _ c.in-Here.meta c.in-Here.is (c.in_ok-meta.ensures.told v is)) c.args.self.now c.args.self.now.path refl)

pub returns-in_ok-lacking_of-in-Absent-clause-told : goal.returns-in_ok-lacking_of-in-Absent-clause-told
returns-in_ok-lacking_of-in-Absent-clause-told g c = λ v is knows.
    no_attributes v.now c.args.self.now c.args._tree c.args.meta c.args._depth c.requires.place knows _ _ c.in_ok-lacking_of-in-Absent.ensures (inl (is_absent v.now _ _ _ _ c.in-Absent.is (c.in_ok-meta.ensures.told v is)))

pub returns-in_ok-lacking_of-in-Damaged-clause-told : goal.returns-in_ok-lacking_of-in-Damaged-clause-told
returns-in_ok-lacking_of-in-Damaged-clause-told g c = λ v is knows.
    no_attributes v.now c.args.self.now c.args._tree c.args.meta c.args._depth c.requires.place knows _ _ c.in_ok-lacking_of-in-Damaged.ensures (inr (is_damaged v.now _ _ _ _ c.in-Damaged.is (c.in_ok-meta.ensures.told v is)))
