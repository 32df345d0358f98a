-- The families of the program's commands, as one.
use Rattle.rely_guarantee.specs.declared.either.Either.{Either}
use Rattle.command.specs.Doing.{Doing}
use Rattle.command.specs.EitherMeaning.{either_doing, either_means, either_tasks}
use Rattle.command.specs.Meaning.{Meaning}
use Rattle.command.specs.Tasks.{TaskSpec}
use Rattle.ref_command.specs.declared.answer.RefAnswer.{RefAnswer}
use Rattle.ref_family.specs.declared.task.RefsTask.{RefsTask}
use Rattle.ref_family.specs.declared.words.RefWords.{RefWords}
use Rattle.ref_family.specs.Family.{ref_doing, ref_means}
use Rattle.ref_family.specs.Laws.{ref_tasks}
use Rattle.read_family.specs.declared.reply.ReadReply.{ReadReply}
use Rattle.read_family.specs.declared.task.ReadTask.{ReadTask}
use Rattle.read_family.specs.declared.words.ReadWords.{ReadWords}
use Rattle.read_family.specs.Family.{read_doing, read_means}
use Rattle.read_family.specs.Laws.{read_tasks}
use Rattle.commit_command.specs.declared.answer.CommitAnswer.{CommitAnswer}
use Rattle.commit_family.specs.declared.task.CommitsTask.{CommitsTask}
use Rattle.commit_family.specs.declared.words.CommitWords.{CommitWords}
use Rattle.commit_family.specs.Family.{commit_doing, commit_means}
use Rattle.commit_family.specs.Laws.{commit_tasks}
use Rattle.checkout_family.specs.declared.reply.CheckoutReply.{CheckoutReply}
use Rattle.checkout_family.specs.declared.task.CheckoutsTask.{CheckoutsTask}
use Rattle.checkout_family.specs.declared.words.CheckoutWords.{CheckoutWords}
use Rattle.checkout_family.specs.Family.{checkout_doing, checkout_means}
use Rattle.checkout_family.specs.Laws.{checkout_tasks}
use Rattle.clean_command.specs.declared.answer.CleanAnswer.{CleanAnswer}
use Rattle.clean_family.specs.declared.task.CleansTask.{CleansTask}
use Rattle.clean_family.specs.declared.words.CleanWords.{CleanWords}
use Rattle.clean_family.specs.Family.{clean_doing, clean_means}
use Rattle.clean_family.specs.Laws.{clean_tasks}
use Rattle.list_family.specs.declared.answer.ListAnswer.{ListAnswer}
use Rattle.list_family.specs.declared.task.ListTask.{ListTask}
use Rattle.list_family.specs.declared.words.ListWords.{ListWords}
use Rattle.list_family.specs.Family.{list_doing, list_means}
use Rattle.list_family.specs.Laws.{list_tasks}
use Rattle.prune_command.specs.declared.answer.PruneAnswer.{PruneAnswer}
use Rattle.prune_family.specs.declared.task.PruneTask.{PruneTask}
use Rattle.prune_family.specs.declared.words.PruneWords.{PruneWords}
use Rattle.prune_family.specs.Family.{prune_doing, prune_means}
use Rattle.prune_family.specs.Laws.{prune_tasks}
use Rattle.lane_system.specs.Family.{Family, family}
use Rattle.lane_system.specs.declared.lane.Lane as system
use Rattle.lane_system.specs.declared.lane.Reply as system_reply

-- the tasks, the words and the answers
abbrev pub Task : Type 0
Task = Either (Either RefsTask ReadTask) (Either CommitsTask (Either (Either CheckoutsTask CleansTask) (Either ListTask PruneTask)))

abbrev pub Words : Type 0
Words = Either (Either RefWords ReadWords) (Either CommitWords (Either (Either CheckoutWords CleanWords) (Either ListWords PruneWords)))

abbrev pub Answer : Type 0
Answer = Either (Either RefAnswer ReadReply) (Either CommitAnswer (Either (Either CheckoutReply CleanAnswer) (Either ListAnswer PruneAnswer)))

-- what they mean
abbrev pub means : Meaning Words Answer
means = either_means (either_means ref_means read_means) (either_means commit_means (either_means (either_means checkout_means clean_means) (either_means list_means prune_means)))

-- what the tasks are to their commands
abbrev pub doing : Doing Task Words Answer
doing = either_doing (either_doing ref_doing read_doing) (either_doing commit_doing (either_doing (either_doing checkout_doing clean_doing) (either_doing list_doing prune_doing)))

-- and what their steps are to the system
abbrev pub tasks : TaskSpec Task
tasks = either_tasks (either_tasks ref_tasks read_tasks) (either_tasks commit_tasks (either_tasks (either_tasks checkout_tasks clean_tasks) (either_tasks list_tasks prune_tasks)))

-- all of it
abbrev pub program : Family Task Words Answer
program = family tasks means doing

-- a lane of a system of them, and a reply of it
abbrev pub Lane : Type 0
Lane = system.Lane Task Words Answer

abbrev pub Reply : Type 0
Reply = system_reply.Reply Answer
