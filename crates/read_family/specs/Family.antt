-- What the commands that read a commit say, and what their tasks are to them.
use Rattle.std.specs.Prelude.{◌≡◌, ℕ, List, [], ◌∷◌, ◌++◌, Option, Some, None}
use Rattle.ost_types.specs.declared.object.ObjName.{ObjName}
use Rattle.ost_forms.specs.Commit.{CommitParts}
use Rattle.ost_objects.specs.Object.{IsNamed}
use Rattle.fs_trait.specs.View.{View}
use Rattle.repo_model.specs.Trees.{HasCommit}
use Rattle.ref_command.specs.Found.{commit_name}
use Rattle.rely_guarantee.specs.Lasting.{IsFinishedNow}
use Rattle.script.specs.declared.rows.LogRow.{LogRow}
use Rattle.read_command.specs.declared.answer.ReadAnswer.{ReadAnswer}
use Rattle.read_command.specs.declared.answer.ReadAnswer.TheVariants as answer
use Rattle.read_command.specs.declared.command.ReadCommand.{ReadCommand}
use Rattle.read_command.specs.declared.look.Ask.{Ask}
use Rattle.read_command.specs.declared.look.Ask.TheVariants as ask
use Rattle.read_command.specs.Answers.{Says}
use Rattle.read_command.specs.Asked.{asked}
use Rattle.read_command.specs.Chains.{IsChain}
use Rattle.read_command.specs.Commands.{IsNew, answer_of, read_left}
use Rattle.read_command.specs.Fits.{Fits}
use Rattle.read_command.specs.Founded.{IsRead}
use Rattle.command.specs.Doing.{Doing}
use Rattle.command.specs.LearnLaws.{learns_nothing}
use Rattle.command.specs.Meaning.{Meaning}
use Rattle.command.specs.Revisions.{IsNoRev, IsRev}
use Rattle.command.specs.Since.{Since}
use Rattle.read_family.specs.declared.reply.ReadReply.{ReadReply}
use Rattle.read_family.specs.declared.reply.ReadReply.TheVariants.{NoRef, Read}
use Rattle.read_family.specs.declared.task.ReadTask.{ReadTask}
use Rattle.read_family.specs.declared.words.ReadWords.{ReadWords}

-- the answer is one to what was asked, of the commit that was named at the beginning
abbrev pub read_says : Since → ReadReply → ReadWords → Type 0
read_says since NoRef c = IsNoRev c.rev since.start.refs
read_says since (Read a) c = (commit : List ℕ) × IsRev c.rev since.start.refs commit × Fits c.ask commit a

-- and what it says of that commit is so; unless it says that the commit isn't there, or has a mark, it is there without one
abbrev pub read_shows : Since → View → ReadReply → ReadWords → Type 0
read_shows since v NoRef c = Unit {0}
read_shows since v (Read a) c = (commit : List ℕ) × IsRev c.rev since.start.refs commit × Says v.now since.limits commit c.ask a × (IsRead a → IsFinishedNow v commit)

-- from one commit to another by parents, where each is what bytes that have its name say; a commit comes to itself
abbrev pub Reaches : List ℕ → List ℕ → Type 0
Reaches commit next = (rows : List LogRow) × IsChain IsNamed commit rows next

-- what is pinned: the commit that is named, and for a log any other, which where the view is told is one that it comes to
abbrev pub works_of : Ask → List ℕ → ObjName → Type 0
works_of ask.Log commit name = (next : List ℕ) × (name ≡ commit_name next)
works_of a commit name = name ≡ commit_name commit

abbrev pub reaches_of : Ask → List ℕ → ObjName → Type 0
reaches_of ask.Log commit name = (next : List ℕ) × (name ≡ commit_name next) × Reaches commit next
reaches_of a commit name = name ≡ commit_name commit

-- each bytes that have the commit's name say that this is its parent
abbrev pub IsParent : List ℕ → List ℕ → Type 0
IsParent commit parent = (c : CommitParts) → HasCommit IsNamed commit c → c.parent ≡ parent

-- the last of the rows is that of a commit with this parent
pub record EndsBefore (rows : List LogRow) (parent : List ℕ) : Type 0 where
  pub front : List LogRow
  pub last : LogRow
  pub are : rows ≡ front ++ last ∷ []
  pub of : IsParent last.commit parent

-- a log ends before a commit that isn't there
abbrev pub read_lacks : ReadReply → List ℕ → Type 0
read_lacks (Read (answer.Log rows)) commit = EndsBefore rows.items commit
read_lacks (Read (answer.NoCommit sum)) commit = sum ≡ commit
read_lacks (Read (answer.Partial sum)) commit = sum ≡ commit
read_lacks a commit = ⊥

-- an object isn't there as its name says
abbrev pub read_outside : ReadReply → Type 0
read_outside (Read (answer.Lacking path)) = Unit {0}
read_outside a = ⊥

abbrev pub read_means : Meaning ReadWords ReadReply
read_means = record {
  fit = λ limits c. Unit {0};
  changes = λ since c e. ⊥;
  makes = λ a c. ⊥;
  tells = λ a e. Unit {0};
  says = read_says;
  knows = λ since a c. Unit {0};
  shows = read_shows;
  remains = λ since v a c. Unit {0};
  stays = λ since out a c v b. Unit {0};
  keeps = λ since opening out c v. Unit {0};
  keeps_on = λ since opening out c disk. Unit {0};
  works = λ since c name. (commit : List ℕ) × IsRev c.rev since.start.refs commit × works_of c.ask commit name;
  reaches = λ since c name. (commit : List ℕ) × IsRev c.rev since.start.refs commit × reaches_of c.ask commit name;
  finds = λ a c name. ⊥;
  claims = λ c name. ⊥;
  checks_out = λ a c name. ⊥;
  brings = λ since c name bytes. ⊥;
  lacks = read_lacks;
  outside = read_outside;
  full = λ a. ⊥;
}

abbrev pub read_pursues : Since → ReadWords → ReadCommand → Type 0
read_pursues since c t = (commit : List ℕ) × IsRev c.rev since.start.refs commit × (asked t ≡ Some (record { limits = since.limits; commit = commit; ask = c.ask }))

abbrev pub read_reply : Option ReadAnswer → Option ReadReply
read_reply None = None
read_reply (Some a) = Some (Read a)

abbrev pub read_doing : Doing ReadTask ReadWords ReadReply
read_doing = record {
  begins = λ lane t. IsNew t.work;
  pursues = λ since c t. read_pursues since c t.work;
  answer = λ t. read_reply (answer_of t.work);
  left = λ t. read_left t.work;
  hears = λ told t. t;
  heard = λ t. record { objects = 0 };
  learns = learns_nothing;
  asks = λ actor t. None;
  met = λ t. None;
  holds = λ lane t v b. Unit {0};
  made = λ t name. ⊥;
}
