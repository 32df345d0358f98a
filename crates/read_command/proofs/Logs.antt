-- The rows of a log, one more.
use Rattle.std.proofs.Common.{◌≡◌, ◌≢◌, inl, inr, ℕ, List, [], ◌∷◌, ◌++◌, Option, Some, None, refl, sym, ◌∙◌, ap, subst}
use Rattle.ost_forms.specs.Commit.{CommitParts, parent_bytes}
use Rattle.ost_forms.specs.CommitRow.{parts_of}
use Rattle.ost_forms.specs.declared.commit.Commit.{Commit}
use Rattle.fs_trait.specs.View.{Disk}
use Rattle.ost_types.specs.declared.object.Kind.TheVariants.{Commit as CommitKind}
use Rattle.repo_layout.specs.RefFile.{IsSum}
use Rattle.repo_model.specs.Objects.{Store, Stores, path_of}
use Rattle.repo_model.specs.Trees.{HasCommit, name_of}
use Rattle.tree_read.specs.Looks.{IsAbsent, IsDamaged}
use Rattle.script.specs.declared.rows.LogRow.{LogRow}
use Rattle.read_command.specs.declared.answer.ReadAnswer.{ReadAnswer}
use Rattle.read_command.specs.declared.answer.ReadAnswer.TheVariants as answer
use Rattle.read_command.specs.declared.log.Log.{Log}
use Rattle.read_command.specs.Chains.{IsChain, IsLog}
use Rattle.read_command.specs.LogSteps.{LogKnows, LogTells, Stops, Takes}

chain_more : (S : Store) (commit : List ℕ) (rows : List LogRow) (next : List ℕ) (r : LogRow) (c : CommitParts) → IsChain S commit rows next → HasCommit S next c → r.commit ≡ next → r.time ≡ c.time → r.subject ≡ c.subject
    → IsChain S commit (rows ++ r ∷ []) c.parent
unfolding IsChain
chain_more S commit [] next r c is has named time subject = (c, subst (λ n. HasCommit S n c) is has, named ∙ is, time, subject, refl)
chain_more S commit (q ∷ rows) next r c (b, there, one, two, three, chain) has named time subject = (b, there, one, two, three, chain_more S b.parent rows next r c chain has named time subject)

some_last : (rows : List LogRow) (r : LogRow) → rows ++ r ∷ [] ≢ []
some_last [] r e = let n : r ∷ [] ≡ [] = e in cc
some_last (q ∷ rows) r e = let n : q ∷ (rows ++ r ∷ []) ≡ [] = e in cc

-- the next commit is there
pub taken : (d : Disk) (old new : Log) (c : Commit) (o : Option ReadAnswer) → LogKnows (Stores d) old → HasCommit (Stores d) old.next (parts_of c) → Takes c old new o → LogTells d old new o
taken d old new c None knows has (parent, is, commit, limits, rows, next) =
    let chain = chain_more (Stores d) old.commit old.rows.items old.next (record { commit = old.next; time = c.time; subject = c.subject }) (parts_of c) knows has refl refl refl in (
      subst (λ f. IsChain (Stores d) f new.rows.items new.next) (sym commit)
          (subst (λ r. IsChain (Stores d) old.commit r new.next) (sym rows)
          (subst (λ n. IsChain (Stores d) old.commit (old.rows.items ++ record { commit = old.next; time = c.time; subject = c.subject } ∷ []) n) (ap parent_bytes is ∙ sym next) chain)),
      (record { commit = old.next; time = c.time; subject = c.subject }, rows, refl),
    )
taken d old new c (Some (answer.Log rows)) knows has (none, is) =
    let chain = chain_more (Stores d) old.commit old.rows.items old.next (record { commit = old.next; time = c.time; subject = c.subject }) (parts_of c) knows has refl refl refl in (
      subst (IsLog d old.commit) (sym is) (record {
        some = some_last old.rows.items (record { commit = old.next; time = c.time; subject = c.subject });
        next = (parts_of c).parent;
        chain = chain;
        ends = inl (ap parent_bytes none);
      }),
      λ first. subst (λ r. IsChain (Stores d) old.commit r []) (sym is) (subst (IsChain (Stores d) old.commit (old.rows.items ++ record { commit = old.next; time = c.time; subject = c.subject } ∷ [])) (ap parent_bytes none) chain),
    )
taken d old new c (Some (answer.Content b)) knows has t = absurd t
taken d old new c (Some (answer.Ls rows)) knows has t = absurd t
taken d old new c (Some (answer.NoCommit a)) knows has t = absurd t
taken d old new c (Some (answer.Partial a)) knows has t = absurd t
taken d old new c (Some (answer.NoPath p)) knows has t = absurd t
taken d old new c (Some (answer.NotFile p)) knows has t = absurd t
taken d old new c (Some (answer.Lacking a)) knows has t = absurd t

module _ (d : Disk) (old new : Log) (knows : LogKnows (Stores d) old) (sum : IsSum old.next) where
  -- the next commit is damaged
  pub damaged_next : (o : Option ReadAnswer) → o ≡ Some (answer.Lacking (path_of (name_of CommitKind old.next))) → IsDamaged d old.limits.content (name_of CommitKind old.next) → LogTells d old new o
  damaged_next o is damaged = subst (LogTells d old new) (sym is) ((name_of CommitKind old.next, refl, (old.rows.items, old.next, sum, knows, refl, inr damaged)), tt)

  -- it isn't there
  pub stopped : IsAbsent d (name_of CommitKind old.next) → (o : Option ReadAnswer) → Stops old o → LogTells d old new o
  stopped absent (Some (answer.Lacking p)) (none, is) = ((name_of CommitKind old.next, is, (old.rows.items, old.next, sum, knows, refl, inl (none, absent))), tt)
  stopped absent (Some (answer.Log rows)) (some, same) =
      (subst (IsLog d old.commit) (sym same) (record { some = some; next = old.next; chain = knows; ends = inr absent }), λ none. absurd (some none))
  stopped absent (Some (answer.Content b)) s = absurd s
  stopped absent (Some (answer.Ls rows)) s = absurd s
  stopped absent (Some (answer.NoCommit a)) s = absurd s
  stopped absent (Some (answer.Partial a)) s = absurd s
  stopped absent (Some (answer.NoPath p)) s = absurd s
  stopped absent (Some (answer.NotFile p)) s = absurd s
  stopped absent None s = absurd s
