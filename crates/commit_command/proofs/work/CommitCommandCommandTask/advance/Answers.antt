use Rattle.std.proofs.Common.{sym, subst, IfOk, IfErr}
use Rattle.fs_trait.specs.Change.{Writes}
use Rattle.fs_trait.specs.Image.{Told}
use Rattle.commit_build.specs.Committing.{commit_in}
use Rattle.commit_command.specs.declared.command.CommitCommand.{CommitCommand}
use Rattle.commit_command.specs.Kinds.{needs_by, leaves_at, leaves_by, refuses_at, refuses_by, writes_by}
use Rattle.commit_command.proofs.Steps.{same_parts, change_leaves}
use Rattle.commit_command.proofs.work.CommitCommandCommandTask.advance.Goals as goal

pub build_on-requires : goal.build_on-requires
build_on-requires g c = record { needs = λ v told. subst (λ o. needs_by o c.args.actor c.args.self.now v) c.in-None.is (c.requires v told) }

pub advance-requires : goal.advance-requires
advance-requires g c = λ v told. subst (λ o. needs_by o c.args.actor c.args.self.now v) c.in-Some.is (c.requires v told)

pub returns-in-None-clause-after : goal.returns-in-None-clause-after
returns-in-None-clause-after g c = λ v told.
    let after = subst (λ (t : CommitCommand). IfOk c.build_on.result (λ u. Told (g.F.Fs.view c.build_on.new.fs) (λ w. leaves_at (commit_in t.build.phase) t u c.build_on.new.self v w))) (same_parts c.args.self.now _) (c.build_on.ensures.after v told) in
    subst (λ o. IfOk c.build_on.result (λ u. Told (g.F.Fs.view c.build_on.new.fs) (λ w. leaves_by o c.args.self.now u c.build_on.new.self v w))) (sym c.in-None.is) after

pub returns-in-None-clause-refused : goal.returns-in-None-clause-refused
returns-in-None-clause-refused g c = λ v told.
    let refused = subst (λ (t : CommitCommand). IfErr c.build_on.result (refuses_at (commit_in t.build.phase) t v)) (same_parts c.args.self.now _) (c.build_on.ensures.refused v told) in
    subst (λ o. IfErr c.build_on.result (refuses_by o c.args.self.now v)) (sym c.in-None.is) refused

pub returns-in-Some-clause-after : goal.returns-in-Some-clause-after
returns-in-Some-clause-after g c = λ v told. change_leaves c.args.self.now c.in-Some.naming c.advance.new.self _ v _ c.advance.result c.in-Some.is (c.advance.ensures.after v told)

pub returns-in-None-clause-writes : goal.returns-in-None-clause-writes
returns-in-None-clause-writes g c = λ v told.
    subst (λ o. Told (g.F.Fs.view c.build_on.new.fs) (λ w. Writes (λ p s. writes_by o c.args.actor c.args.self.now v p s) v w)) (sym c.in-None.is) (c.build_on.ensures.writes v told)
