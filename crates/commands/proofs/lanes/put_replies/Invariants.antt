use Rattle.std.proofs.Common.{◌≡◌, ◌≤◌, length, map}
use Rattle.std.specs.Prelude.{vec_capacity}
use Rattle.commands.specs.Answers.{reply_of}
use Rattle.commands.proofs.lanes.put_replies.Given as goal

abbrev pub invariant-loop-reply : goal.invariant-loop-reply
invariant-loop-reply l = record {
  put : l.row.items ≡ map reply_of l.yielded;
  room : length l.fn.replies.items ≤ vec_capacity l.row;
}
