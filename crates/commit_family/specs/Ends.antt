-- What a commit answers, by its last step.
use Rattle.std.proofs.Common.{◌≡◌, ◌≤◌, ◌+◌, refl, sym, ◌∙◌, ap, subst, List, ℕ, Option, Some, None, Ok, Err}
use Rattle.ost_types.specs.declared.limits.Limits.{Limits}
use Rattle.fs_trait.specs.declared.task.StepResult.TheVariants as turn
use Rattle.ref_store.specs.declared.refusal.RefRefusal.{RefRefusal}
use Rattle.ref_store.specs.declared.refusal.RefRefusal.TheVariants as refusal
use Rattle.rely_guarantee.specs.Laws.{IsMakeDurable, MakeDurable}
use Rattle.ref_command.specs.declared.work.RefWork.{RefWork}
use Rattle.ref_command.specs.Kinds.{Answer as Came, event, stepped_in}
use Rattle.ref_command.proofs.Ends.{makes_durable_in}
use Rattle.tree_build.specs.Items.{IsLeastBad, IsTree}
use Rattle.commit_build.specs.declared.refusal.BuildRefusal.{BuildRefusal}
use Rattle.commit_build.specs.declared.refusal.BuildRefusal.TheVariants as built
use Rattle.commit_build.specs.declared.phase.Phase.{Phase}
use Rattle.commit_build.specs.declared.phase.Phase.TheVariants as phase
use Rattle.commit_build.specs.Committing.{Committing, Links, commit_in, kept_in, storing_in}
use Rattle.commit_command.specs.declared.answer.CommitAnswer.{CommitAnswer}
use Rattle.commit_command.specs.declared.answer.CommitAnswer.TheVariants as answer
use Rattle.commit_command.specs.declared.naming.Naming.{Naming}
use Rattle.commit_command.specs.declared.command.CommitCommand.{CommitCommand}
use Rattle.commit_command.specs.Answers.{answer_by, answer_of, built_answer, change_answer}
use Rattle.commit_command.specs.Kinds as kinds
use Rattle.commit_command.specs.Kinds.{BuildSteps, commit_kind, commit_stepped, kind_by, stepped_at, stepped_by}
use Rattle.command.specs.Since.{Since}
use Rattle.ref_family.specs.Ends.{refusing}
use Rattle.commit_family.specs.declared.words.CommitWords.{CommitWords}
use Rattle.commit_family.specs.Commits.{message_in, sum_in}
use Rattle.commit_family.specs.Family.{commit_full, commit_makes, commit_says}
use Rattle.commit_family.specs.Pursues.{Commits, IsNaming, NamesIn}
use Rattle.commit_family.specs.Steps.{build_not}

-- It has an answer, which says what is so; that the change was made exactly where the step made it last; and that the store is full only
-- where it was told so many objects.
pub record Ends (since : Since) (c : CommitWords) (t new : CommitCommand) : Type 0 where
  pub given : CommitAnswer
  pub answer : answer_of new ≡ Some given
  pub says : commit_says since given c
  pub makes : IsMakeDurable (commit_kind t) → commit_makes given
  pub makes_not : (IsMakeDurable (commit_kind t) → ⊥) → commit_makes given → ⊥
  pub full : commit_full given → since.limits.objects ≤ t.objects

-- an object is put only of a tree that is one
linked_tree : (t : Committing) (ph : Phase) → Links ph → kept_in ph t → IsTree t.items
linked_tree t (phase.Put p) links kept = kept.0
linked_tree t (phase.PutCommit p) links kept = kept.0
linked_tree t phase.Check links kept = absurd links
linked_tree t phase.Make links kept = absurd links
linked_tree t (phase.Made o) links kept = absurd links
linked_tree t phase.SyncObjects links kept = absurd links
linked_tree t phase.MakeCommit links kept = absurd links
linked_tree t (phase.SyncCommit sum) links kept = absurd links
linked_tree t (phase.Unmark sum) links kept = absurd links
linked_tree t (phase.SyncState sum) links kept = absurd links
linked_tree t (phase.Ended sum) links kept = absurd links

module _ (since : Since) (c : CommitWords) (t : CommitCommand) (is : Commits since.limits c.branch c.tree.items (message_in since.start.refs c) t) where
  -- the build was refused
  built_ends : (r : BuildRefusal) (next : Committing) (new : CommitCommand) → (IsMakeDurable (commit_kind t) → ⊥) → BuildSteps t.objects t.build (Some r) next → answer_of new ≡ built_answer (Some r) → Ends since c t new
  built_ends (built.BadTree path) next new still step at = record { given = answer.BadTree path; answer = at; says = subst (λ i. IsLeastBad i path) is.items step.1.1; makes = λ k. absurd (still k); makes_not = λ none m. m; full = λ f. absurd f }
  built_ends (built.TooMany number) next new still step at = record {
    given = answer.TooMany number;
    answer = at;
    says = (step.1.2 ∙ ap (λ (l : Limits). l.objects + 1) is.bounds, subst IsTree is.items (linked_tree t.build t.build.phase step.1.0 is.made.kept));
    makes = λ k. absurd (still k);
    makes_not = λ none m. m;
    full = λ f. subst (λ (l : Limits). l.objects ≤ t.objects) is.bounds step.1.1;
  }

  ends_at : (o : Option (List ℕ)) (new : CommitCommand) → t.change ≡ None → stepped_at o t (turn.Done tt) new → Ends since c t new
  ends_at None new none step = built_ends step.0 new.build new
      (λ k. build_not t.pinned (storing_in t.build.phase) (subst (λ o. IsMakeDurable (kind_by o t)) none k))
      step.2
      (ap answer_of step.1 ∙ ap (λ o. answer_by o (kinds.built t new.build (Some step.0))) none)
  ends_at (Some commit) new none step = absurd step

  -- the ref was changed, or that was refused
  module _ (n : Naming) (at : t.change ≡ Some n) (names : IsNaming c.branch (message_in since.start.refs c).parent c.tree.items (sum_in since.start.refs c) n) where
    refused_not : (r : RefRefusal) (next : RefWork) → stepped_in (turn.Done tt) (Some (Err r)) n.work.task next.task → IsMakeDurable (commit_kind t) → ⊥
    refused_not r next step k = refusing n.work.task.phase (event n.work.task) step.1 (subst (λ o. IsMakeDurable (kind_by o t)) at k)

    naming_ends : (r : Came) (next : RefWork) (new : CommitCommand) → stepped_in (turn.Done tt) r n.work.task next.task → answer_of new ≡ change_answer n.commit r → Ends since c t new
    naming_ends None next new step given = absurd step
    naming_ends (Some (Ok x)) next new step given =
        let settles : commit_kind t ≡ MakeDurable (event n.work.task) = ap (λ o. kind_by o t) at ∙ makes_durable_in n.work.task.phase (event n.work.task) step.0.1 names.changing.3 in
        record { given = answer.Commit n.commit; answer = given; says = (names.commit, names.whole); makes = λ k. tt; makes_not = λ none m. none (subst IsMakeDurable (sym settles) tt); full = λ f. absurd f }
    naming_ends (Some (Err (refusal.RefMoved seen now))) next new step given = record { given = answer.RefMoved seen now; answer = given; says = names.whole; makes = λ k. absurd (refused_not (refusal.RefMoved seen now) next step k); makes_not = λ none m. m; full = λ f. absurd f }
    naming_ends (Some (Err (refusal.RefClash other))) next new step given = record { given = answer.RefClash other; answer = given; says = names.whole; makes = λ k. absurd (refused_not (refusal.RefClash other) next step k); makes_not = λ none m. m; full = λ f. absurd f }
    naming_ends (Some (Err refusal.NoRef)) next new step given = record { given = answer.NoRef; answer = given; says = tt; makes = λ k. absurd (refused_not refusal.NoRef next step k); makes_not = λ none m. m; full = λ f. absurd f }

  ends_by : (o : Option Naming) (new : CommitCommand) → t.change ≡ o → NamesIn c.branch (message_in since.start.refs c).parent c.tree.items (sum_in since.start.refs c) o → stepped_by o t (turn.Done tt) new → Ends since c t new
  ends_by None new at names step = ends_at (commit_in t.build.phase) new at step
  ends_by (Some n) new at names step = naming_ends n at names step.0.answer step.0 new step.2 (ap answer_of step.1)

  pub commits_end : (new : CommitCommand) → commit_stepped t (turn.Done tt) new → Ends since c t new
  commits_end new step = ends_by t.change new refl is.names step
