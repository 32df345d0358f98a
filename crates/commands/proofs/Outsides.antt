-- Which answers tell that something else changed the disk, as a script has it and as its family does.
use Rattle.std.proofs.Common.{◌⊎◌, inl, inr}
use Rattle.rely_guarantee.specs.declared.either.Either.TheVariants.{Left, Right}
use Rattle.checkout_command.specs.declared.answer.CheckoutAnswer.TheVariants as checked
use Rattle.checkout_family.specs.declared.reply.CheckoutReply.TheVariants as checkout
use Rattle.clean_command.specs.declared.answer.CleanAnswer.TheVariants as cleaned
use Rattle.command.specs.declared.ended.Ended.{Ended}
use Rattle.command.specs.declared.ended.Ended.TheVariants as ended
use Rattle.commit_command.specs.declared.answer.CommitAnswer.TheVariants as committed
use Rattle.list_family.specs.declared.answer.ListAnswer.TheVariants as listed
use Rattle.prune_command.specs.declared.answer.PruneAnswer.TheVariants as pruned
use Rattle.read_command.specs.declared.answer.ReadAnswer.TheVariants as reading
use Rattle.read_family.specs.declared.reply.ReadReply.TheVariants as reply
use Rattle.ref_command.specs.declared.answer.RefAnswer.TheVariants as ref
use Rattle.lane_system.specs.Replies as system
use Rattle.lane_system.specs.Replies.{OfAnswer}
use Rattle.commands.specs.Answers.{answer_of, spoken}
use Rattle.commands.specs.Family.{Answer, means}
use Rattle.commands.specs.Faults.{IsOutside}

-- by a fault, or by an answer that an object isn't there as its name says
outside_answer : (a : Answer) → IsOutside (spoken a) → means.outside a
outside_answer (Left (Left ref.Changed)) is = is
outside_answer (Left (Left (ref.Commit sum))) is = is
outside_answer (Left (Left (ref.NoCommit sum))) is = is
outside_answer (Left (Left (ref.Partial sum))) is = is
outside_answer (Left (Left ref.NoRef)) is = is
outside_answer (Left (Left (ref.RefMoved seen now))) is = is
outside_answer (Left (Left (ref.RefClash other))) is = is
outside_answer (Left (Right reply.NoRef)) is = is
outside_answer (Left (Right (reply.Read (reading.Content bytes)))) is = is
outside_answer (Left (Right (reply.Read (reading.Ls rows)))) is = is
outside_answer (Left (Right (reply.Read (reading.Log rows)))) is = is
outside_answer (Left (Right (reply.Read (reading.NoCommit sum)))) is = is
outside_answer (Left (Right (reply.Read (reading.Partial sum)))) is = is
outside_answer (Left (Right (reply.Read (reading.NoPath path)))) is = is
outside_answer (Left (Right (reply.Read (reading.NotFile path)))) is = is
outside_answer (Left (Right (reply.Read (reading.Lacking path)))) is = tt
outside_answer (Right (Left (committed.Commit sum))) is = is
outside_answer (Right (Left (committed.BadTree path))) is = is
outside_answer (Right (Left (committed.TooMany number))) is = is
outside_answer (Right (Left (committed.RefMoved seen now))) is = is
outside_answer (Right (Left (committed.RefClash other))) is = is
outside_answer (Right (Left committed.NoRef)) is = is
outside_answer (Right (Right (Left (Left checkout.NoRef)))) is = is
outside_answer (Right (Right (Left (Left (checkout.Tried checked.Done))))) is = is
outside_answer (Right (Right (Left (Left (checkout.Tried (checked.NoCommit sum)))))) is = is
outside_answer (Right (Right (Left (Left (checkout.Tried (checked.Partial sum)))))) is = is
outside_answer (Right (Right (Left (Left (checkout.Tried (checked.DestExists path)))))) is = is
outside_answer (Right (Right (Left (Left (checkout.Tried (checked.Lacking path)))))) is = tt
outside_answer (Right (Right (Left (Right cleaned.Cleaned)))) is = is
outside_answer (Right (Right (Right (Left (listed.Refs rows))))) is = is
outside_answer (Right (Right (Right (Left (listed.Status rows))))) is = is
outside_answer (Right (Right (Right (Right (pruned.Pruned kept removed))))) is = is
outside_answer (Right (Right (Right (Right (pruned.Outside path))))) is = tt

pub outside_of : (x : Ended Answer) → IsOutside (answer_of x) → system.IsOutside x ⊎ OfAnswer means.outside x
outside_of (ended.Answered a) is = inr (outside_answer a is)
outside_of ended.NoMemory is = inl is
outside_of ended.DiskFault is = inl is
outside_of (ended.Outside path) is = inl is
outside_of (ended.Halted count) is = inl is
