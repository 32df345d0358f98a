-- What a command answers, as a script has it.
use Rattle.rely_guarantee.specs.declared.either.Either.TheVariants.{Left, Right}
use Rattle.command.specs.declared.ended.Ended.{Ended}
use Rattle.command.specs.declared.ended.Ended.TheVariants as ended
use Rattle.checkout_command.specs.declared.answer.CheckoutAnswer.{CheckoutAnswer}
use Rattle.checkout_command.specs.declared.answer.CheckoutAnswer.TheVariants as checked
use Rattle.checkout_family.specs.declared.reply.CheckoutReply.{CheckoutReply}
use Rattle.checkout_family.specs.declared.reply.CheckoutReply.TheVariants as checkout
use Rattle.clean_command.specs.declared.answer.CleanAnswer.{CleanAnswer}
use Rattle.clean_command.specs.declared.answer.CleanAnswer.TheVariants as cleaned
use Rattle.commit_command.specs.declared.answer.CommitAnswer.{CommitAnswer}
use Rattle.commit_command.specs.declared.answer.CommitAnswer.TheVariants as committed
use Rattle.list_family.specs.declared.answer.ListAnswer.{ListAnswer}
use Rattle.list_family.specs.declared.answer.ListAnswer.TheVariants as listed
use Rattle.prune_command.specs.declared.answer.PruneAnswer.{PruneAnswer}
use Rattle.prune_command.specs.declared.answer.PruneAnswer.TheVariants as pruned
use Rattle.read_command.specs.declared.answer.ReadAnswer.{ReadAnswer}
use Rattle.read_command.specs.declared.answer.ReadAnswer.TheVariants as reading
use Rattle.read_family.specs.declared.reply.ReadReply.{ReadReply}
use Rattle.read_family.specs.declared.reply.ReadReply.TheVariants as reply
use Rattle.ref_command.specs.declared.answer.RefAnswer.{RefAnswer}
use Rattle.ref_command.specs.declared.answer.RefAnswer.TheVariants as ref
use Rattle.script.specs.declared.answer.Answer as script
use Rattle.script.specs.declared.answer.Answer.TheVariants as answer
use Rattle.script.specs.declared.answer.Reply as script_reply
use Rattle.commands.specs.Family.{Answer, Reply}

abbrev pub ref_answer : RefAnswer → script.Answer
ref_answer ref.Changed = answer.Nothing
ref_answer (ref.Commit sum) = answer.Commit sum
ref_answer (ref.NoCommit sum) = answer.NoCommit sum
ref_answer (ref.Partial sum) = answer.Partial sum
ref_answer ref.NoRef = answer.NoRef
ref_answer (ref.RefMoved seen now) = answer.RefMoved seen now
ref_answer (ref.RefClash other) = answer.RefClash other

-- an object that isn't there as its name says was changed by something else
abbrev pub read_answer : ReadAnswer → script.Answer
read_answer (reading.Content bytes) = answer.Content bytes
read_answer (reading.Ls rows) = answer.Ls rows
read_answer (reading.Log rows) = answer.Log rows
read_answer (reading.NoCommit sum) = answer.NoCommit sum
read_answer (reading.Partial sum) = answer.Partial sum
read_answer (reading.NoPath path) = answer.NoPath path
read_answer (reading.NotFile path) = answer.NotFile path
read_answer (reading.Lacking path) = answer.Outside path

abbrev pub read_reply : ReadReply → script.Answer
read_reply reply.NoRef = answer.NoRef
read_reply (reply.Read a) = read_answer a

abbrev pub commit_answer : CommitAnswer → script.Answer
commit_answer (committed.Commit sum) = answer.Commit sum
commit_answer (committed.BadTree path) = answer.BadTree path
commit_answer (committed.TooMany number) = answer.TooMany number
commit_answer (committed.RefMoved seen now) = answer.RefMoved seen now
commit_answer (committed.RefClash other) = answer.RefClash other
commit_answer committed.NoRef = answer.NoRef

abbrev pub checkout_answer : CheckoutAnswer → script.Answer
checkout_answer checked.Done = answer.Nothing
checkout_answer (checked.NoCommit sum) = answer.NoCommit sum
checkout_answer (checked.Partial sum) = answer.Partial sum
checkout_answer (checked.DestExists path) = answer.DestExists path
checkout_answer (checked.Lacking path) = answer.Outside path

abbrev pub checkout_reply : CheckoutReply → script.Answer
checkout_reply checkout.NoRef = answer.NoRef
checkout_reply (checkout.Tried a) = checkout_answer a

abbrev pub clean_answer : CleanAnswer → script.Answer
clean_answer cleaned.Cleaned = answer.Nothing

abbrev pub list_answer : ListAnswer → script.Answer
list_answer (listed.Refs rows) = answer.Refs rows
list_answer (listed.Status rows) = answer.Status rows

abbrev pub prune_answer : PruneAnswer → script.Answer
prune_answer (pruned.Pruned kept removed) = answer.Pruned kept removed
prune_answer (pruned.Outside path) = answer.Outside path

-- of one that is done,
abbrev pub spoken : Answer → script.Answer
spoken (Left (Left a)) = ref_answer a
spoken (Left (Right a)) = read_reply a
spoken (Right (Left a)) = commit_answer a
spoken (Right (Right (Left (Left a)))) = checkout_reply a
spoken (Right (Right (Left (Right a)))) = clean_answer a
spoken (Right (Right (Right (Left a)))) = list_answer a
spoken (Right (Right (Right (Right a)))) = prune_answer a

-- and of one that ended so
abbrev pub answer_of : Ended Answer → script.Answer
answer_of (ended.Answered a) = spoken a
answer_of ended.NoMemory = answer.NoMemory
answer_of ended.DiskFault = answer.DiskFault
answer_of (ended.Outside path) = answer.Outside path
answer_of (ended.Halted count) = answer.Halted count

-- with its place among the others
abbrev pub reply_of : Reply → script_reply.Reply
reply_of r = record { answer = answer_of r.answer; start = r.start; place = r.place; order = r.order; taken = r.taken }
