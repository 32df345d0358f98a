-- What the answer of a commit says of the refs, by the state that its last step sees.
use Rattle.std.proofs.Common.{◌≡◌, ℕ, refl, sym, ◌∙◌, ap, subst, List, Option, Some, None, Ok, Err}
use Rattle.fs_trait.specs.declared.task.StepResult.TheVariants as turn
use Rattle.fs_trait.specs.View.{View}
use Rattle.ref_store.specs.declared.refusal.RefRefusal.TheVariants as refusal
use Rattle.rely_guarantee.specs.Books.{Books}
use Rattle.rely_guarantee.specs.State.{SystemState, RefOf}
use Rattle.ref_command.specs.declared.work.RefWork.{RefWork}
use Rattle.ref_command.specs.Facts.{Facts}
use Rattle.ref_command.specs.Kinds.{Answer as Came, event, leaves_in, ref_kind}
use Rattle.ref_command.proofs.Ends.{makes_durable_in}
use Rattle.commit_build.specs.declared.refusal.BuildRefusal.{BuildRefusal}
use Rattle.commit_build.specs.declared.refusal.BuildRefusal.TheVariants as built
use Rattle.commit_build.specs.Committing.{commit_in}
use Rattle.commit_command.specs.declared.answer.CommitAnswer.{CommitAnswer}
use Rattle.commit_command.specs.declared.answer.CommitAnswer.TheVariants as answer
use Rattle.commit_command.specs.declared.naming.Naming.{Naming}
use Rattle.commit_command.specs.declared.command.CommitCommand.{CommitCommand}
use Rattle.commit_command.specs.Answers.{answer_by, answer_of, built_answer, change_answer}
use Rattle.commit_command.specs.Facts.{commit_facts, facts_by}
use Rattle.commit_command.specs.Kinds as kinds
use Rattle.commit_command.specs.Kinds.{commit_kind, commit_leaves, kind_by, leaves_at, leaves_by}
use Rattle.command.specs.Sees.{Sees}
use Rattle.command.specs.Since.{Since, placed}
use Rattle.ref_family.specs.Steps.{event_is}
use Rattle.ref_family.specs.Telling.{clashing, moved, set_free}
use Rattle.commit_family.specs.declared.words.CommitWords.{CommitWords}
use Rattle.commit_family.specs.Commits.{message_in, sum_in}
use Rattle.commit_family.specs.Family.{commit_knows}
use Rattle.commit_family.specs.Pursues.{Commits, IsNaming, NamesIn}

module _ (lane : ℕ) (since : Since) (p : SystemState) (c : CommitWords) (v w : View) (b : Books) where
  abbrev pub Knows : CommitAnswer → Type 0
  Knows a = commit_knows (placed since p) a c

  -- where the ref was changed, or that was refused
  module _ (n : Naming) (next : RefWork) (f : Facts lane n.work.task v b) (names : IsNaming c.branch (since.start.refs (RefOf c.branch)) c.tree.items (sum_in since.start.refs c) n) (sees : Sees (ref_kind n.work) lane b v w p.refs) where
    naming_knows : (r : Came) (a : CommitAnswer) → leaves_in (turn.Done tt) r n.work.task next.task v w → change_answer n.commit r ≡ Some a → Knows a
    naming_knows None a l e = absurd l
    naming_knows (Some (Ok x)) a l e =
        let k : answer.Commit n.commit ≡ a = cc in
        subst Knows k (set_free lane since.start.refs p.refs c.branch (Some (sum_in since.start.refs c)) n.work next v w b f names.changing sees (sum_in since.start.refs c)
        (event_is c.branch (since.start.refs (RefOf c.branch)) (Some (sum_in since.start.refs c)) n.work.task names.changing)
        (makes_durable_in n.work.task.phase (event n.work.task) l.stepped.1 f.runs))
    naming_knows (Some (Err (refusal.RefMoved seen now))) a l e =
        let k : answer.RefMoved seen now ≡ a = cc in
        subst Knows k (moved lane since.start.refs p.refs c.branch (Some (sum_in since.start.refs c)) n.work next v w b f names.changing sees seen now l)
    naming_knows (Some (Err (refusal.RefClash other))) a l e =
        let k : answer.RefClash other ≡ a = cc in
        let clash = clashing lane since.start.refs p.refs c.branch (Some (sum_in since.start.refs c)) n.work next v w b f names.changing sees other l in
        subst Knows k (clash.0, clash.1)
    naming_knows (Some (Err refusal.NoRef)) a l e = absurd l.tells

  -- where the build was refused, nothing
  built_knows : (r : BuildRefusal) (a : CommitAnswer) → built_answer (Some r) ≡ Some a → Knows a
  built_knows (built.BadTree path) a e = let k : answer.BadTree path ≡ a = cc in subst Knows k tt
  built_knows (built.TooMany number) a e = let k : answer.TooMany number ≡ a = cc in subst Knows k tt

  module _ (t new : CommitCommand) (a : CommitAnswer) (e : answer_of new ≡ Some a) where
    knows_at : (o : Option (List ℕ)) → t.change ≡ None → leaves_at o t (turn.Done tt) new v w → Knows a
    knows_at None none l = built_knows l.0 a (ap (λ o. answer_by o (kinds.built t new.build (Some l.0))) (sym none) ∙ sym (ap answer_of l.1) ∙ e)
    knows_at (Some commit) none l = absurd l

    knows_by : (o : Option Naming) → t.change ≡ o → NamesIn c.branch (since.start.refs (RefOf c.branch)) c.tree.items (sum_in since.start.refs c) o → facts_by o lane t v b → leaves_by o t (turn.Done tt) new v w → Sees (kind_by o t) lane b v w p.refs → Knows a
    knows_by None at names f l sees = knows_at (commit_in t.build.phase) at l
    knows_by (Some n) at names f l sees = naming_knows n l.0 f.ref names sees l.0.answer a l.2 (sym (ap answer_of l.1) ∙ e)

    pub commits_know : Commits since.limits c.branch c.tree.items (message_in since.start.refs c) t → commit_facts lane t v b → commit_leaves t (turn.Done tt) new v w → Sees (commit_kind t) lane b v w p.refs → Knows a
    commits_know is f l sees = knows_by t.change refl is.names f l sees
