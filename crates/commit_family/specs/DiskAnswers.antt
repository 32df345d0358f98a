-- What the answer of a commit says of the disk.
use Rattle.std.proofs.Common.{◌≡◌, inl, inr, ⊎_elim, sym, ◌∙◌, ap, subst, Option, Some, None}
use Rattle.fs_trait.specs.View.{View}
use Rattle.rely_guarantee.specs.declared.event.Event.{Event}
use Rattle.rely_guarantee.specs.Laws.{IsMakeDurable, MakeDurable}
use Rattle.tree_build.specs.Building.{IsNumber}
use Rattle.tree_build.specs.Items.{AreTyped}
use Rattle.tree_build.specs.Objects.{work}
use Rattle.commit_build.specs.Committing.{ReadsBack, commit_of, named_commit, storing_in}
use Rattle.commit_build.specs.Steps.{AreSure, IsSure, NeverMarked}
use Rattle.commit_command.specs.declared.answer.CommitAnswer.{CommitAnswer}
use Rattle.commit_command.specs.declared.answer.CommitAnswer.TheVariants as answer
use Rattle.commit_command.specs.declared.naming.Naming.{Naming}
use Rattle.commit_command.specs.declared.command.CommitCommand.{CommitCommand}
use Rattle.commit_command.specs.Answers.{IsLacking, Says}
use Rattle.commit_command.specs.Kinds.{commit_kind, kind_by}
use Rattle.command.specs.Since.{Since}
use Rattle.commit_family.specs.declared.words.CommitWords.{CommitWords}
use Rattle.commit_family.specs.Commits.{IsFormed, message_in}
use Rattle.commit_family.specs.Family.{commit_shows}
use Rattle.commit_family.specs.Pursues.{Commits, ReadsIn}
use Rattle.commit_family.specs.Steps.{build_not}

module _ (since : Since) (c : CommitWords) (t : CommitCommand) (is : Commits since.limits c.branch c.tree.items (message_in since.start.refs c) t) where
  lacking : (v : View) → IsLacking t.build.items t.build.message v.now → IsLacking c.tree.items (message_in since.start.refs c) v.now
  lacking v l = (
    l.0,
    ⊎_elim
        (λ n. inl (n.0, subst (λ i. IsNumber (work i) n.0 l.0) is.items n.1))
        (λ e. inr (e ∙ ap (λ i. commit_of i t.build.message) is.items ∙ ap (commit_of c.tree.items) is.says))
        l.1,
    l.2,
  )

  -- the last step of a commit that was made is that of its change
  reads_at : (o : Option Naming) (e : Event) → kind_by o t ≡ MakeDurable e → ReadsIn c.tree.items (message_in since.start.refs c) o → ReadsBack c.tree.items (message_in since.start.refs c)
  reads_at None e kind reads = absurd (build_not t.pinned (storing_in t.build.phase) (subst IsMakeDurable (sym kind) tt))
  reads_at (Some n) e kind reads = reads

  formed : (e : Event) → commit_kind t ≡ MakeDurable e → IsFormed c.tree.items (message_in since.start.refs c)
  formed e kind = record { typed = subst AreTyped is.items is.made.typed; reads = reads_at t.change e kind is.reads }

  pub tells : (v w : View) (a : CommitAnswer) → Says a t v w → commit_shows since v a c
  tells v w (answer.Commit sum) says = (
    record {
      objects = subst (λ i. AreSure i v) is.items says.2.tree;
      itself = subst (λ x. IsSure v (named_commit x)) (sym says.0) says.2.commit;
      unmarked = subst (λ x. NeverMarked x v) (sym says.0) says.2.unmarked;
    },
    formed _ says.3,
  )
  tells v w (answer.TooMany number) says = lacking v says.2
  tells v w (answer.BadTree path) says = tt
  tells v w (answer.RefMoved seen now) says = tt
  tells v w (answer.RefClash other) says = tt
  tells v w answer.NoRef says = tt
