-- The log of a commit ends with a commit that has no parent, or whose parent isn't there.
use Rattle.std.proofs.Common.{◌≡◌, ⊎_elim, ℕ, List, [], ◌∷◌, ◌++◌, length, None, sym, ◌∙◌, ap, subst, arith}
use Rattle.std.specs.Global.{Vec}
use Rattle.ost_types.specs.declared.limits.Limits.{Limits}
use Rattle.ost_types.specs.declared.object.Kind.TheVariants.{Commit}
use Rattle.ost_forms.specs.Commit.{CommitParts}
use Rattle.ost_objects.specs.Object.{IsNamed}
use Rattle.fs_trait.specs.Image.{bytes_of, reads}
use Rattle.fs_trait.specs.View.{Disk}
use Rattle.repo_layout.specs.Paths.{object_path}
use Rattle.repo_layout.specs.RefFile.{IsSum}
use Rattle.repo_model.specs.Objects.{Stores}
use Rattle.repo_model.specs.Trees.{HasCommit, name_of}
use Rattle.tree_read.specs.Looks.{IsAbsent}
use Rattle.script.specs.declared.rows.LogRow.{LogRow}
use Rattle.read_command.specs.declared.answer.ReadAnswer.TheVariants as answer
use Rattle.read_command.specs.declared.look.Ask.{Ask}
use Rattle.read_command.specs.declared.look.Ask.TheVariants as ask
use Rattle.read_command.specs.Answers.{Says, SaysOf}
use Rattle.read_command.specs.Chains.{IsChain, IsLog}
use Rattle.read_family.specs.Family.{EndsBefore, IsParent}

-- what a log says
said_of : (d : Disk) (limits : Limits) (commit : List ℕ) (a : Ask) (rows : Vec LogRow) → SaysOf d limits commit a (answer.Log rows) → IsLog d commit rows.items
said_of d limits commit ask.Log rows says = says
said_of d limits commit (ask.Ls path) rows says = absurd says
said_of d limits commit (ask.Cat path) rows says = absurd says

pub log_said : (d : Disk) (limits : Limits) (commit : List ℕ) (a : Ask) (rows : Vec LogRow) → Says d limits commit a (answer.Log rows) → IsLog d commit rows.items
log_said d limits commit a rows says = ⊎_elim (λ stopped. absurd stopped) (λ other. said_of d limits commit a rows other) says

pub none_sum : (sum : List ℕ) → IsSum sum → sum ≡ [] → ⊥
none_sum sum is none = omega (arith, is.whole, ap length none)

module _ (d : Disk) where
  named : (commit : List ℕ) (c : CommitParts) → HasCommit (Stores d) commit c → HasCommit IsNamed commit c
  named commit c has = record { bytes = has.bytes; stored = has.stored.named; reads = has.reads }

  -- what comes behind the last row is its commit's parent
  pub last_parent : (commit next parent : List ℕ) (front : List LogRow) (last : LogRow) → IsChain (Stores d) commit (front ++ last ∷ []) next → IsParent last.commit parent → next ≡ parent
  unfolding IsChain
  last_parent commit next parent [] last chain of = chain.5 ∙ of chain.0 (subst (λ x. HasCommit IsNamed x chain.0) (sym chain.2) (named commit chain.0 chain.1))
  last_parent commit next parent (r ∷ front) last chain of = last_parent chain.0.parent next parent front last chain.5 of

  -- so it isn't there
  ends_absent : (commit parent : List ℕ) (rows : List LogRow) → IsLog d commit rows → EndsBefore rows parent → IsSum parent → IsAbsent d (name_of Commit parent)
  ends_absent commit parent rows log ends sum =
      let same : log.next ≡ parent = last_parent commit log.next parent ends.front ends.last (subst (λ r. IsChain (Stores d) commit r log.next) ends.are log.chain) ends.of in
      ⊎_elim (λ none. absurd (none_sum parent sum (sym same ∙ none))) (λ absent. subst (λ x. IsAbsent d (name_of Commit x)) same absent) log.ends

  pub ends_unread : (commit parent : List ℕ) (rows : List LogRow) → IsLog d commit rows → EndsBefore rows parent → IsSum parent → reads d (object_path Commit parent) ≡ None
  unfolding reads
  ends_unread commit parent rows log ends sum = ap (bytes_of d) (ends_absent commit parent rows log ends sum)
