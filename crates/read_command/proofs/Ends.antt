-- Where a command begins, and what its answer says.
use Rattle.std.proofs.Common.{◌≡◌, inl, inr, ℕ, Option, Some, List, sym, ◌∙◌, ap, subst}
use Rattle.fs_trait.specs.declared.task.StepResult.TheVariants as turn
use Rattle.fs_trait.specs.Seen.{shows}
use Rattle.fs_trait.specs.View.{Disk, View}
use Rattle.fs_trait.proofs.Effects.{may_now}
use Rattle.repo_layout.specs.Paths.{mark_path}
use Rattle.rely_guarantee.specs.declared.books.Entry.{Entry}
use Rattle.rely_guarantee.specs.declared.books.Pending.{Pending}
use Rattle.rely_guarantee.specs.Books.{Books}
use Rattle.rely_guarantee.specs.SystemInvariant.{Stands}
use Rattle.rely_guarantee.specs.State.{SystemState}
use Rattle.read_command.specs.declared.answer.ReadAnswer.{ReadAnswer}
use Rattle.read_command.specs.declared.answer.ReadAnswer.TheVariants as answer
use Rattle.read_command.specs.declared.command.ReadCommand.{ReadCommand}
use Rattle.read_command.specs.declared.command.ReadCommand.TheVariants.{Look, Cat, Ls, Log, Ended}
use Rattle.read_command.specs.Answers.{SaysStopped}
use Rattle.read_command.specs.Asked.{Answers, asked}
use Rattle.read_command.specs.Commands.{IsNew, Tells, answer_of, read_facts, read_leaves}
use Rattle.read_command.specs.Founded.{IsFinishedOf, IsRead}

pub begins_of : (start : SystemState) (entries : List Entry) (pending : Option Pending) (lane : ℕ) (v : View) (b : Books) (t : ReadCommand) → Stands start entries pending v → IsNew t → read_facts lane t v b
begins_of start entries pending lane v b (Look l) stands sum = (tt, (sum, stands.kinds (mark_path l.commit) (shows v.now (mark_path l.commit)) (may_now v (mark_path l.commit))), tt)
begins_of start entries pending lane v b (Cat c) stands new = absurd new
begins_of start entries pending lane v b (Ls s) stands new = absurd new
begins_of start entries pending lane v b (Log g) stands new = absurd new
begins_of start entries pending lane v b (Ended a) stands new = absurd new

pub answers_by : (t : ReadCommand) (d : Disk) (a : ReadAnswer) → Tells t d a → Answers d (asked t) a
answers_by (Look l) d a told = inl told
answers_by (Cat c) d a told = inr told
answers_by (Ls s) d a told = inr told
answers_by (Log g) d a told = inr told.0
answers_by (Ended x) d a told = told

not_read : (d : Disk) (commit : List ℕ) (a : ReadAnswer) → SaysStopped d commit a → IsRead a → ⊥
not_read d commit (answer.NoCommit c) told read = read
not_read d commit (answer.Partial c) told read = read
not_read d commit (answer.Content bytes) told read = told
not_read d commit (answer.Ls rows) told read = told
not_read d commit (answer.Log rows) told read = told
not_read d commit (answer.NoPath p) told read = told
not_read d commit (answer.NotFile p) told read = told
not_read d commit (answer.Lacking p) told read = told

finished_by : (lane : ℕ) (t : ReadCommand) (v : View) (b : Books) (a : ReadAnswer) → read_facts lane t v b → Tells t v.now a → IsRead a → IsFinishedOf (asked t) v
finished_by lane (Look l) v b a f told read = absurd (not_read v.now l.commit a told read)
finished_by lane (Cat c) v b a f told read = f.1
finished_by lane (Ls s) v b a f told read = f.1
finished_by lane (Log g) v b a f told read = f.1
finished_by lane (Ended x) v b a f told read = f.1

module _ (lane : ℕ) (t new : ReadCommand) (v w : View) (b : Books) (a : ReadAnswer) (f : read_facts lane t v b) (leaves : read_leaves t (turn.Done tt) new v w) (is : answer_of new ≡ Some a) where
  same : leaves.1 ≡ a
  same = let e : Some leaves.1 ≡ Some a = sym (ap answer_of leaves.2) ∙ is in cc

  told : Tells t v.now a
  told = subst (Tells t v.now) same leaves.3

  pub says_of : (w ≡ v) × Answers v.now (asked t) a
  says_of = (leaves.0, answers_by t v.now a told)

  pub finished_of : IsRead a → IsFinishedOf (asked t) v
  finished_of read = finished_by lane t v b a f told read
