-- Only a step that pins a commit tells that one isn't there.
use Rattle.std.proofs.Common.{◌≡◌, inr, ℕ, refl, sym, ◌∙◌, ap, subst, List, [], ◌∷◌, Option, Some}
use Rattle.ost_types.specs.declared.limits.Limits.{Limits}
use Rattle.ost_types.specs.Path.{Path}
use Rattle.fs_trait.specs.declared.task.StepResult.TheVariants as turn
use Rattle.fs_trait.specs.View.{Disk, View}
use Rattle.repo_layout.specs.RefFile.{IsSum}
use Rattle.repo_model.specs.Objects.{Stores}
use Rattle.rely_guarantee.specs.Laws.{Take}
use Rattle.ref_command.specs.Commands.{pin_wants}
use Rattle.script.specs.declared.rows.LogRow.{LogRow}
use Rattle.read_command.specs.declared.answer.ReadAnswer.{ReadAnswer}
use Rattle.read_command.specs.declared.answer.ReadAnswer.TheVariants as answer
use Rattle.read_command.specs.declared.command.ReadCommand.{ReadCommand}
use Rattle.read_command.specs.declared.command.ReadCommand.TheVariants.{Look, Cat, Ls, Log, Ended}
use Rattle.read_command.specs.Answers.{SaysCat, SaysLog, SaysLs}
use Rattle.read_command.specs.Chains.{IsChain}
use Rattle.read_command.specs.Commands.{Tells, answer_of, read_kind, read_leaves}
use Rattle.read_command.specs.LogSteps.{EndsAtOnce, log_kind}
use Rattle.command.specs.Removing.{IsAlone}
use Rattle.read_family.specs.declared.reply.ReadReply.{ReadReply}
use Rattle.read_family.specs.declared.reply.ReadReply.TheVariants.{Read}
use Rattle.read_family.specs.Endings.{last_parent, none_sum}
use Rattle.read_family.specs.Family.{read_lacks, read_reply}

pub pin_alone : (commit : List ℕ) → IsAlone (Take (pin_wants commit))
pin_alone commit = inr (inr (inr refl))

cat_lacks : (d : Disk) (content : ℕ) (of : List ℕ) (path : Path) (a : ReadAnswer) (commit : List ℕ) → SaysCat d content of path a → read_lacks (Read a) commit → ⊥
cat_lacks d content of path (answer.Content bytes) commit says lacks = lacks
cat_lacks d content of path (answer.Ls rows) commit says lacks = lacks
cat_lacks d content of path (answer.Log rows) commit says lacks = says
cat_lacks d content of path (answer.NoCommit sum) commit says lacks = says
cat_lacks d content of path (answer.Partial sum) commit says lacks = says
cat_lacks d content of path (answer.NoPath p) commit says lacks = lacks
cat_lacks d content of path (answer.NotFile p) commit says lacks = lacks
cat_lacks d content of path (answer.Lacking p) commit says lacks = lacks

ls_lacks : (d : Disk) (limits : Limits) (of : List ℕ) (path : Path) (a : ReadAnswer) (commit : List ℕ) → SaysLs d limits of path a → read_lacks (Read a) commit → ⊥
ls_lacks d limits of path (answer.Content bytes) commit says lacks = lacks
ls_lacks d limits of path (answer.Ls rows) commit says lacks = lacks
ls_lacks d limits of path (answer.Log rows) commit says lacks = says
ls_lacks d limits of path (answer.NoCommit sum) commit says lacks = says
ls_lacks d limits of path (answer.Partial sum) commit says lacks = says
ls_lacks d limits of path (answer.NoPath p) commit says lacks = lacks
ls_lacks d limits of path (answer.NotFile p) commit says lacks = lacks
ls_lacks d limits of path (answer.Lacking p) commit says lacks = lacks

-- a log that ends with its first row ends with a commit that has no parent
log_lacks : (d : Disk) (content : ℕ) (of : List ℕ) (a : ReadAnswer) (commit : List ℕ) → SaysLog d content of a × EndsAtOnce d of [] a → read_lacks (Read a) commit → IsSum commit → ⊥
log_lacks d content of (answer.Log rows) commit says lacks sum =
    let none : [] ≡ commit = last_parent d of [] commit lacks.front lacks.last (subst (λ r. IsChain (Stores d) of r []) lacks.are (says.1 refl)) lacks.of in
    none_sum commit sum (sym none)
log_lacks d content of (answer.Content bytes) commit says lacks sum = lacks
log_lacks d content of (answer.Ls rows) commit says lacks sum = lacks
log_lacks d content of (answer.NoCommit c) commit says lacks sum = says.0
log_lacks d content of (answer.Partial c) commit says lacks sum = says.0
log_lacks d content of (answer.NoPath p) commit says lacks sum = lacks
log_lacks d content of (answer.NotFile p) commit says lacks sum = lacks
log_lacks d content of (answer.Lacking p) commit says lacks sum = lacks

log_alone : (rows : List LogRow) (next : List ℕ) (d : Disk) (content : ℕ) (of : List ℕ) (a : ReadAnswer) (commit : List ℕ) → SaysLog d content of a × EndsAtOnce d of rows a → read_lacks (Read a) commit → IsSum commit → IsAlone (log_kind rows next)
log_alone [] next d content of a commit says lacks sum = absurd (log_lacks d content of a commit says lacks sum)
log_alone (r ∷ rows) next d content of a commit says lacks sum = pin_alone next

told_alone : (t : ReadCommand) (d : Disk) (a : ReadAnswer) (commit : List ℕ) → Tells t d a → read_lacks (Read a) commit → IsSum commit → IsAlone (read_kind t)
told_alone (Look l) d a commit told lacks sum = pin_alone l.commit
told_alone (Cat c) d a commit told lacks sum = absurd (cat_lacks d c.limits.content c.commit c.path a commit told lacks)
told_alone (Ls s) d a commit told lacks sum = absurd (ls_lacks d s.task.limits s.task.commit s.path a commit told lacks)
told_alone (Log g) d a commit told lacks sum = log_alone g.rows.items g.next d g.limits.content g.commit a commit told lacks sum
told_alone (Ended x) d a commit told lacks sum = absurd told

replied : (o : Option ReadAnswer) (x : ReadAnswer) (a : ReadReply) → o ≡ Some x → read_reply o ≡ Some a → Read x ≡ a
replied o x a is given = let e : Some (Read x) ≡ Some a = sym (ap read_reply is) ∙ given in cc

pub reads_alone : (t new : ReadCommand) (v w : View) (a : ReadReply) (commit : List ℕ) → read_leaves t (turn.Done tt) new v w → read_reply (answer_of new) ≡ Some a → read_lacks a commit → IsSum commit → IsAlone (read_kind t)
reads_alone t new v w a commit leaves given lacks sum =
    let same : Read leaves.1 ≡ a = replied (answer_of new) leaves.1 a (ap answer_of leaves.2) given in
    told_alone t v.now leaves.1 commit leaves.3 (subst (λ x. read_lacks x commit) (sym same) lacks) sum
