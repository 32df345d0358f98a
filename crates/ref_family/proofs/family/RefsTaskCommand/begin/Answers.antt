use Rattle.std.proofs.Common.{rules, ◌≤◌, sym, subst}
use Rattle.ref_command.specs.Answers.{Begins}
use Rattle.ref_command.specs.Commands.{command_left}
use Rattle.command.specs.Doing.{HasRoomFor, most}
use Rattle.command.specs.Since.{begun_in}
use Rattle.ref_family.specs.declared.words.RefWords.{RefWords}
use Rattle.ref_family.specs.Family.{ref_means, ref_pursues}
use Rattle.ref_family.proofs.Beginning.{reset_begun}
use Rattle.ref_family.proofs.family.RefsTaskCommand.begin.Goals as goal

pub returns-in_ok-copy-in-Reset-clause-begun : goal.returns-in_ok-copy-in-Reset-clause-begun
returns-in_ok-copy-in-Reset-clause-begun c = λ s tracks listed.
    subst (λ (x : RefWords). Begins c.args.lane c.reset-work.result × ref_pursues s.refs x c.reset-work.result × HasRoomFor ref_means c.make_room.new.self (begun_in c.args._limits s) x × (command_left c.reset-work.result ≤ most)) (sym c.in-Reset.is)
    (reset_begun c.args._limits c.args.lane s c.in-Reset.branch c.in-Reset.commit _ _ _ c.reset-work.result c.make_room.new.self c.reset-work.ensures.reset c.reset-work.ensures.begins (search rules) (c.get-seen.ensures s.refs (c.in_ok-make_room-in-Reset.ensures.refs s.refs tracks)) (search rules) c.in_ok-make_room-in-Reset.ensures.room c.reset-work.ensures.left)
