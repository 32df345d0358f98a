-- What an answer tells of, as a script has it and as its family does.
use Rattle.std.proofs.Common.{ℕ, List}
use Rattle.rely_guarantee.specs.declared.either.Either.TheVariants.{Left, Right}
use Rattle.checkout_command.specs.declared.answer.CheckoutAnswer.TheVariants as checked
use Rattle.checkout_family.specs.declared.reply.CheckoutReply.TheVariants as checkout
use Rattle.clean_command.specs.declared.answer.CleanAnswer.TheVariants as cleaned
use Rattle.command.specs.declared.ended.Ended.{Ended}
use Rattle.command.specs.declared.ended.Ended.TheVariants as ended
use Rattle.commit_command.specs.declared.answer.CommitAnswer.TheVariants as committed
use Rattle.list_family.specs.declared.answer.ListAnswer.TheVariants as listed
use Rattle.prune_command.specs.declared.answer.PruneAnswer.TheVariants as pruned
use Rattle.read_command.specs.declared.answer.ReadAnswer.TheVariants as reading
use Rattle.read_family.specs.declared.reply.ReadReply.TheVariants as reply
use Rattle.ref_command.specs.declared.answer.RefAnswer.TheVariants as ref
use Rattle.lane_system.specs.Replies as system
use Rattle.lane_system.specs.Replies.{OfAnswer}
use Rattle.commands.specs.Answers.{answer_of, spoken}
use Rattle.commands.specs.Family.{Answer, means}
use Rattle.commands.specs.Faults.{IsAbsence, IsFailure}

-- an answer of a command that is done tells of no call that failed
no_failure : (a : Answer) → IsFailure (spoken a) → ⊥
no_failure (Left (Left ref.Changed)) is = is
no_failure (Left (Left (ref.Commit sum))) is = is
no_failure (Left (Left (ref.NoCommit sum))) is = is
no_failure (Left (Left (ref.Partial sum))) is = is
no_failure (Left (Left ref.NoRef)) is = is
no_failure (Left (Left (ref.RefMoved seen now))) is = is
no_failure (Left (Left (ref.RefClash other))) is = is
no_failure (Left (Right reply.NoRef)) is = is
no_failure (Left (Right (reply.Read (reading.Content bytes)))) is = is
no_failure (Left (Right (reply.Read (reading.Ls rows)))) is = is
no_failure (Left (Right (reply.Read (reading.Log rows)))) is = is
no_failure (Left (Right (reply.Read (reading.NoCommit sum)))) is = is
no_failure (Left (Right (reply.Read (reading.Partial sum)))) is = is
no_failure (Left (Right (reply.Read (reading.NoPath path)))) is = is
no_failure (Left (Right (reply.Read (reading.NotFile path)))) is = is
no_failure (Left (Right (reply.Read (reading.Lacking path)))) is = is
no_failure (Right (Left (committed.Commit sum))) is = is
no_failure (Right (Left (committed.BadTree path))) is = is
no_failure (Right (Left (committed.TooMany number))) is = is
no_failure (Right (Left (committed.RefMoved seen now))) is = is
no_failure (Right (Left (committed.RefClash other))) is = is
no_failure (Right (Left committed.NoRef)) is = is
no_failure (Right (Right (Left (Left checkout.NoRef)))) is = is
no_failure (Right (Right (Left (Left (checkout.Tried checked.Done))))) is = is
no_failure (Right (Right (Left (Left (checkout.Tried (checked.NoCommit sum)))))) is = is
no_failure (Right (Right (Left (Left (checkout.Tried (checked.Partial sum)))))) is = is
no_failure (Right (Right (Left (Left (checkout.Tried (checked.DestExists path)))))) is = is
no_failure (Right (Right (Left (Left (checkout.Tried (checked.Lacking path)))))) is = is
no_failure (Right (Right (Left (Right cleaned.Cleaned)))) is = is
no_failure (Right (Right (Right (Left (listed.Refs rows))))) is = is
no_failure (Right (Right (Right (Left (listed.Status rows))))) is = is
no_failure (Right (Right (Right (Right (pruned.Pruned kept removed))))) is = is
no_failure (Right (Right (Right (Right (pruned.Outside path))))) is = is

pub failure_of : (x : Ended Answer) → IsFailure (answer_of x) → system.IsFailure x
failure_of (ended.Answered a) is = absurd (no_failure a is)
failure_of ended.NoMemory is = is
failure_of ended.DiskFault is = is
failure_of (ended.Outside path) is = is
failure_of (ended.Halted count) is = is

-- that a commit isn't there, or has a mark, by an answer that it isn't
absence_answer : (commit : List ℕ) (a : Answer) → IsAbsence commit (spoken a) → means.lacks a commit
absence_answer commit (Left (Left ref.Changed)) is = is
absence_answer commit (Left (Left (ref.Commit sum))) is = is
absence_answer commit (Left (Left (ref.NoCommit sum))) is = is
absence_answer commit (Left (Left (ref.Partial sum))) is = is
absence_answer commit (Left (Left ref.NoRef)) is = is
absence_answer commit (Left (Left (ref.RefMoved seen now))) is = is
absence_answer commit (Left (Left (ref.RefClash other))) is = is
absence_answer commit (Left (Right reply.NoRef)) is = is
absence_answer commit (Left (Right (reply.Read (reading.Content bytes)))) is = is
absence_answer commit (Left (Right (reply.Read (reading.Ls rows)))) is = is
absence_answer commit (Left (Right (reply.Read (reading.Log rows)))) is = absurd is
absence_answer commit (Left (Right (reply.Read (reading.NoCommit sum)))) is = is
absence_answer commit (Left (Right (reply.Read (reading.Partial sum)))) is = is
absence_answer commit (Left (Right (reply.Read (reading.NoPath path)))) is = is
absence_answer commit (Left (Right (reply.Read (reading.NotFile path)))) is = is
absence_answer commit (Left (Right (reply.Read (reading.Lacking path)))) is = is
absence_answer commit (Right (Left (committed.Commit sum))) is = is
absence_answer commit (Right (Left (committed.BadTree path))) is = is
absence_answer commit (Right (Left (committed.TooMany number))) is = is
absence_answer commit (Right (Left (committed.RefMoved seen now))) is = is
absence_answer commit (Right (Left (committed.RefClash other))) is = is
absence_answer commit (Right (Left committed.NoRef)) is = is
absence_answer commit (Right (Right (Left (Left checkout.NoRef)))) is = is
absence_answer commit (Right (Right (Left (Left (checkout.Tried checked.Done))))) is = is
absence_answer commit (Right (Right (Left (Left (checkout.Tried (checked.NoCommit sum)))))) is = is
absence_answer commit (Right (Right (Left (Left (checkout.Tried (checked.Partial sum)))))) is = is
absence_answer commit (Right (Right (Left (Left (checkout.Tried (checked.DestExists path)))))) is = is
absence_answer commit (Right (Right (Left (Left (checkout.Tried (checked.Lacking path)))))) is = is
absence_answer commit (Right (Right (Left (Right cleaned.Cleaned)))) is = is
absence_answer commit (Right (Right (Right (Left (listed.Refs rows))))) is = is
absence_answer commit (Right (Right (Right (Left (listed.Status rows))))) is = is
absence_answer commit (Right (Right (Right (Right (pruned.Pruned kept removed))))) is = is
absence_answer commit (Right (Right (Right (Right (pruned.Outside path))))) is = is

pub absence_of : (commit : List ℕ) (x : Ended Answer) → IsAbsence commit (answer_of x) → OfAnswer (λ a. means.lacks a commit) x
absence_of commit (ended.Answered a) is = absence_answer commit a is
absence_of commit ended.NoMemory is = is
absence_of commit ended.DiskFault is = is
absence_of commit (ended.Outside path) is = is
absence_of commit (ended.Halted count) is = is
