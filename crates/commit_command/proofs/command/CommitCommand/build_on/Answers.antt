use Rattle.std.proofs.Common.{subst, IfOk}
use Rattle.fs_trait.specs.Image.{Told}
use Rattle.commit_command.specs.Kinds.{leaves_at}
use Rattle.commit_command.proofs.command.CommitCommand.build_on.Goals as goal

pub returns-in-None-clause-after : goal.returns-in-None-clause-after
returns-in-None-clause-after g c = λ v told.
    subst (λ k. IfOk c.go_on.result (λ u. Told (g.F.Fs.view c.go_on.new.fs) (λ w. leaves_at k c.args.self.now u c.go_on.new.self v w))) c.in-None.ensures (c.go_on.ensures.after v told)
