use Rattle.std.proofs.Common.{sym, subst}
use Rattle.read_command.specs.declared.command.ReadCommand.TheVariants.{Look}
use Rattle.read_command.specs.Commands.{read_leaves, turn_of}
use Rattle.read_command.proofs.Begun.{look_leaves}
use Rattle.read_command.proofs.command.ReadCommandCommandTask.advance.Goals as goal

pub returns-in_ok-next-in-Look-clause-after : goal.returns-in_ok-next-in-Look-clause-after
returns-in_ok-next-in-Look-clause-after g c = λ v told.
    let now = c.in_ok-next-in-Look.ensures.told v told in
    let look = c.in-Look.look in
    let next = c.in_ok-next-in-Look.next in (
      v,
      now.0,
      subst (λ t. read_leaves t c.go.result c.go.new.self v v) (sym c.in-Look.is)
          (subst (λ u. read_leaves (Look look) u c.go.new.self v v) (sym c.go.ensures.turn)
          (subst (λ n. read_leaves (Look look) (turn_of next) n v v) (sym c.go.ensures.next) (look_leaves look v next (g.met.F.Fs.tree c.args.fs.now v told) now.1))),
    )
