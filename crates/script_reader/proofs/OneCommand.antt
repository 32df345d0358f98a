-- Words are those of one command, and among the same trees it is one.
use Rattle.std.proofs.Common.{◌≡◌, ℕ, List, Some, refl, sym, ◌∙◌, ap, subst}
use Rattle.std.specs.Prelude.{slice_get}
use Rattle.script.specs.Words.{IsCommitLine, IsCommitLineAt, IsWritten, Resolves}
use Rattle.script.specs.declared.command.CommitLine.{CommitLine}
use Rattle.script.specs.declared.command.Command.{Command}
use Rattle.script.specs.declared.command.Command.TheVariants.{Refs, Status, RevParse, Log, Ls, Cat, Checkout, Reset, DropRef, Prune, Cleanup, Commit as CommitTree}
use Rattle.script.specs.declared.command.Written.{Written}
use Rattle.script.specs.declared.command.Written.TheVariants as written
use Rattle.script.proofs.Alone.{commit_alone}
use Rattle.script.proofs.Numbers.{number_one as wide_one}
use Rattle.script.proofs.OneCommand.{branch_one, command_one}
use Rattle.script.proofs.Slices.{At5}
use Rattle.script.proofs.Spelling.{field_one}
use Rattle.script_reader.specs.Script.{Tree}
use Rattle.script_reader.specs.Same.{IsSame}
use Rattle.script_reader.proofs.Fields.{same_tail}
use Rattle.script_reader.proofs.OneNode.{number_one}

-- ---- commits

pub record SameLine (k l : CommitLine) : Type 0 where
  pub branch : k.branch ≡ l.branch
  pub tree : k.tree ≡ l.tree
  pub subject : k.subject ≡ l.subject
  pub body : k.body ≡ l.body
  pub time : k.time ≡ l.time

at_one : (b n s m t : List ℕ) (k l : CommitLine) → IsCommitLineAt b n s m t k → IsCommitLineAt b n s m t l → SameLine k l
at_one b n s m t k l p q = record {
  branch = branch_one b k.branch l.branch p.branch q.branch;
  tree = number_one n k.tree l.tree p.tree q.tree;
  subject = field_one s k.subject l.subject p.subject.spelled q.subject.spelled;
  body = field_one m k.body l.body p.body.spelled q.body.spelled;
  time = wide_one t k.time l.time p.time q.time;
}

line_one : (words : List (List ℕ)) (k l : CommitLine) → IsWritten words (written.Commit k) → IsWritten words (written.Commit l) → SameLine k l
line_one words k l s t =
    let a = s.2 in
    let b = subst (λ f. IsCommitLine f l) (same_tail _ _ _ _ _ t.1 s.1) t.2 in
    at_one a.0 a.1 a.2 a.3 a.4 k l a.6 (subst (At5 IsCommitLineAt l) (sym b.5 ∙ a.5) b.6)

same_one : (c d : Command) → c ≡ d → IsSame c d
same_one Refs d e = e
same_one Status d e = e
same_one (RevParse r) d e = e
same_one (Log r) d e = e
same_one (Ls r p) d e = e
same_one (Cat r p) d e = e
same_one (Checkout r n) d e = e
same_one (Reset b s) d e = e
same_one (DropRef b) d e = e
same_one (Prune n) d e = e
same_one Cleanup d e = e
same_one (CommitTree b t s m n) d e = subst (IsSame (CommitTree b t s m n)) e (refl, refl, refl, refl, refl)

commit_same : (trees : List Tree) (k l : CommitLine) (c d : Command) → SameLine k l → Resolves trees (written.Commit k) c → Resolves trees (written.Commit l) d → IsSame c d
commit_same trees k l (CommitTree b t s m n) (CommitTree b' t' s' m' n') same p q =
    let found : Some t.items ≡ Some t'.items = sym p.1 ∙ ap (slice_get trees) same.tree ∙ q.1 in
    let items : t.items ≡ t'.items = cc in
    (p.0 ∙ same.branch ∙ sym q.0, items, p.2 ∙ same.subject ∙ sym q.2, p.3 ∙ same.body ∙ sym q.3, p.4 ∙ same.time ∙ sym q.4)
commit_same trees k l (CommitTree b t s m n) Refs same p q = absurd q
commit_same trees k l (CommitTree b t s m n) Status same p q = absurd q
commit_same trees k l (CommitTree b t s m n) (RevParse r) same p q = absurd q
commit_same trees k l (CommitTree b t s m n) (Log r) same p q = absurd q
commit_same trees k l (CommitTree b t s m n) (Ls r x) same p q = absurd q
commit_same trees k l (CommitTree b t s m n) (Cat r x) same p q = absurd q
commit_same trees k l (CommitTree b t s m n) (Checkout r x) same p q = absurd q
commit_same trees k l (CommitTree b t s m n) (Reset x y) same p q = absurd q
commit_same trees k l (CommitTree b t s m n) (DropRef x) same p q = absurd q
commit_same trees k l (CommitTree b t s m n) (Prune x) same p q = absurd q
commit_same trees k l (CommitTree b t s m n) Cleanup same p q = absurd q
commit_same trees k l Refs d same p q = absurd p
commit_same trees k l Status d same p q = absurd p
commit_same trees k l (RevParse r) d same p q = absurd p
commit_same trees k l (Log r) d same p q = absurd p
commit_same trees k l (Ls r x) d same p q = absurd p
commit_same trees k l (Cat r x) d same p q = absurd p
commit_same trees k l (Checkout r x) d same p q = absurd p
commit_same trees k l (Reset x y) d same p q = absurd p
commit_same trees k l (DropRef x) d same p q = absurd p
commit_same trees k l (Prune x) d same p q = absurd p
commit_same trees k l Cleanup d same p q = absurd p

-- what is written by the same words is the same command
pub command_same : (trees : List Tree) (words : List (List ℕ)) (w x : Written) (c d : Command) → IsWritten words w → IsWritten words x → Resolves trees w c → Resolves trees x d → IsSame c d
command_same trees words (written.Command e) (written.Command f) c d p q r s = same_one c d (r ∙ command_one words e f p q ∙ sym s)
command_same trees words (written.Command e) (written.Commit l) c d p q r s = absurd (commit_alone words e l p q)
command_same trees words (written.Commit k) (written.Command f) c d p q r s = absurd (commit_alone words f k q p)
command_same trees words (written.Commit k) (written.Commit l) c d p q r s = commit_same trees k l c d (line_one words k l p q) r s
