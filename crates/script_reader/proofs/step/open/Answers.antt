use Rattle.script_reader.specs.Drafts.{lanes_of, state_of}
use Rattle.script_reader.proofs.Scripts.{lane_opened}
use Rattle.script_reader.proofs.step.open.Goals as goal

pub returns-then-is_word : goal.returns-then-is_word
returns-then-is_word c =
    lane_opened c.args.line.now c.args.sections.trees.items (lanes_of c.args.sections) c.args.number state_of c.open_lane.result (c.is_word.ensures.yes c.if-is_word.true) c.open_lane.ensures
