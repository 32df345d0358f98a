use Rattle.std.proofs.Common.{rules, ◌≡◌, subst, is_some}
use Rattle.fs_trait.specs.Image.{Told}
use Rattle.commit_build.specs.Committing.{storing_in}
use Rattle.commit_command.specs.Kinds.{BuildSteps, BuildLeaves}
use Rattle.commit_command.proofs.Steps.{same_built}
use Rattle.commit_command.proofs.command.CommitCommand.go_on.Goals as goal

pub returns-in-None-clause-after : goal.returns-in-None-clause-after
returns-in-None-clause-after g c = λ v told.
    let t = c.args.self.now in
    let pinned : c.is_some-storing.result ≡ is_some (storing_in c.args.self.now.build.phase) = search rules in
    let stepped = subst (λ r. BuildSteps t.objects t.build r c.build_step.new.build) c.in-None.is c.in_ok-refused.ensures.stepped in
    let after = subst (λ r. Told (g.F.Fs.view c.build_step.new.fs) (λ w. BuildLeaves t.objects t.build r c.build_step.new.build v w)) c.in-None.is (c.in_ok-refused.ensures.after v told) in
    (after.0, after.1, ((same_built t c.build_step.new.build c.is_some-storing.result _ pinned, stepped), after.2))
