-- What `log` knows of a store, and what its steps tell and do.
use Rattle.std.specs.Prelude.{◌≡◌, ◌≢◌, ◌<◌, ◌-◌, ℕ, List, [], ◌∷◌, ◌++◌, length, Option, Some, None}
use Rattle.ost_types.specs.declared.object.Kind.TheVariants.{Commit as CommitKind}
use Rattle.ost_forms.specs.declared.commit.Commit.{Commit}
use Rattle.fs_trait.specs.View.{Disk}
use Rattle.repo_model.specs.Objects.{Store, Stores, path_of}
use Rattle.repo_model.specs.Trees.{name_of}
use Rattle.rely_guarantee.specs.Laws.{Kind, Quiet, Take}
use Rattle.ref_command.specs.Commands.{pin_wants}
use Rattle.script.specs.declared.rows.LogRow.{LogRow}
use Rattle.read_command.specs.declared.answer.ReadAnswer.{ReadAnswer}
use Rattle.read_command.specs.declared.answer.ReadAnswer.TheVariants as answer
use Rattle.read_command.specs.declared.log.Log.{Log}
use Rattle.read_command.specs.declared.look.Ask.TheVariants as ask
use Rattle.read_command.specs.Answers.{SaysLog}
use Rattle.read_command.specs.Chains.{IsChain}
use Rattle.read_command.specs.Fits.{Fits}

-- each commit but the first is pinned when it is read
abbrev pub log_kind : List LogRow → List ℕ → Kind
log_kind [] next = Quiet
log_kind (r ∷ rows) next = Take (pin_wants next)

abbrev pub LogKnows : Store → Log → Type 0
LogKnows S g = IsChain S g.commit g.rows.items g.next

-- the commit that came next is one more row
abbrev pub IsLonger : Log → Log → Type 0
IsLonger old new = (r : LogRow) × (new.rows.items ≡ old.rows.items ++ r ∷ []) × (r.commit ≡ old.next)

-- a log that ends with its first row ends with a commit that has no parent
abbrev pub EndsAtOnce : Disk → List ℕ → List LogRow → ReadAnswer → Type 0
EndsAtOnce d commit before (answer.Log rows) = before ≡ [] → IsChain (Stores d) commit rows.items []
EndsAtOnce d commit before a = Unit {0}

abbrev pub LogTells : Disk → Log → Log → Option ReadAnswer → Type 0
LogTells d old new None = LogKnows (Stores d) new × IsLonger old new
LogTells d old new (Some a) = SaysLog d old.limits.content old.commit a × EndsAtOnce d old.commit old.rows.items a

-- at most so many steps go on: no list has so many rows
abbrev pub log_left : List LogRow → ℕ
log_left rows = 18446744073709551616 - length rows

abbrev pub IsLogStepped : Log → Log → Option ReadAnswer → Type 0
IsLogStepped old new None = (new.limits ≡ old.limits) × (new.commit ≡ old.commit) × (log_left new.rows.items < log_left old.rows.items)
IsLogStepped old new (Some a) = Fits ask.Log old.commit a

-- it has the same rows, and the same commit comes next
abbrev pub IsAsBefore : Log → Log → Type 0
IsAsBefore old new = (new.limits ≡ old.limits) × (new.commit ≡ old.commit) × (new.rows.items ≡ old.rows.items) × (new.next ≡ old.next)

abbrev pub row_of : Log → Commit → LogRow
row_of g c = record { commit = g.next; time = c.time; subject = c.subject }

-- Each answer once the next commit was read: its parent comes next, or it has none.
abbrev pub Takes : Commit → Log → Log → Option ReadAnswer → Type 0
Takes c old new None =
    (parent : List ℕ) × (c.parent ≡ Some parent) × (new.commit ≡ old.commit) × (new.limits ≡ old.limits) × (new.rows.items ≡ old.rows.items ++ row_of old c ∷ []) × (new.next ≡ parent)
Takes c old new (Some (answer.Log rows)) = (c.parent ≡ None) × (rows.items ≡ old.rows.items ++ row_of old c ∷ [])
Takes c old new (Some a) = ⊥

-- and where it isn't there
abbrev pub Stops : Log → Option ReadAnswer → Type 0
Stops old (Some (answer.Lacking p)) = (old.rows.items ≡ []) × (p ≡ path_of (name_of CommitKind old.next))
Stops old (Some (answer.Log rows)) = (old.rows.items ≢ []) × (rows.items ≡ old.rows.items)
Stops old a = ⊥
