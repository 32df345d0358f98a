-- That commits which were there at the opening, and those that refs were set to, stay until they are removed; and that no reply says otherwise.
use Rattle.std.specs.Prelude.{◌≡◌, ◌<◌, ◌+◌, ℕ, List, [], Contains, Option, Some}
use Rattle.ost_types.specs.declared.object.Kind.TheVariants.{Commit}
use Rattle.ost_types.specs.declared.object.ObjName.{ObjName}
use Rattle.fs_trait.specs.View.{View}
use Rattle.repo_model.specs.Trees.{name_of}
use Rattle.rely_guarantee.specs.declared.books.Entry.{Entry}
use Rattle.rely_guarantee.specs.declared.books.Pending.{Pending}
use Rattle.rely_guarantee.specs.declared.event.Event.{Event}
use Rattle.rely_guarantee.specs.declared.event.Event.TheVariants.{SetRef, DropRef, Pruned, SetDeployments}
use Rattle.rely_guarantee.specs.Lasting.{StaysFinished}
use Rattle.command.specs.Meaning.{Meaning}
use Rattle.lane_system.specs.declared.lane.Lane.{Lane}
use Rattle.lane_system.specs.declared.lane.Reply.{Reply}
use Rattle.lane_system.specs.Lanes.{IsAt, IsTo}
use Rattle.lane_system.specs.Removals.{gone_since, removed_in, swept_in}
use Rattle.lane_system.specs.Replies.{OfAnswer}
use Rattle.lane_system.specs.System.{System}

-- the change sets its ref to this commit
abbrev pub Sets : List ℕ → Event → Type 0
Sets commit (SetRef name seen to) = to ≡ commit
Sets commit (DropRef name seen) = ⊥
Sets commit (Pruned depth roots held removed) = ⊥
Sets commit (SetDeployments change list) = ⊥

-- the commit is one of these objects
abbrev pub IsOut : List ObjName → List ℕ → Type 0
IsOut out commit = Contains out (name_of Commit commit)

-- No reply tells that a commit isn't there, or has a mark, of one that is so finished, if no change before the reply removed it; nor of one
-- that one of these changes set its ref to, if none after that one removed it.
pub record ArePresentIn {T W A : Type 0} (m : Meaning W A) (Finished : List ℕ → Type 0) (entries : List Entry) (lanes : List (Lane T W A)) : Type 0 where
  pub finished : (lane number : ℕ) (r : Reply A) (commit : List ℕ) → IsTo lanes lane number r → OfAnswer (λ a. m.lacks a commit) r.answer → ¬ (IsOut (removed_in entries 0 r.place) commit) → ¬ (Finished commit)
  pub set : (lane number : ℕ) (r : Reply A) (commit : List ℕ) → IsTo lanes lane number r → OfAnswer (λ a. m.lacks a commit) r.answer → (k : ℕ) (e : Entry) → IsAt entries k e → k < r.place → ¬ (IsOut (removed_in entries (k + 1) r.place) commit) → ¬ (Sets commit e.event)

-- the change sets its ref to no commit but one that each crash leaves, without a mark, or that is out
abbrev pub SetsFinished : List ObjName → View → Event → Type 0
SetsFinished out v e = (commit : List ℕ) → Sets commit e → ¬ (IsOut out commit) → StaysFinished v commit

-- From a view at the opening on: a commit that each crash left then, without a mark, each crash leaves so now, and so it is with one that a
-- change sets its ref to, if it wasn't removed since. No reply tells otherwise.
pub record RefsNameDurableCommitsIn {T W A : Type 0} (m : Meaning W A) (opening : View) (entries : List Entry) (swept : List ObjName) (pending : Option Pending) (lanes : List (Lane T W A)) (v : View) : Type 0 where
  pub stays : (commit : List ℕ) → ¬ (IsOut (gone_since entries swept 0) commit) → StaysFinished opening commit → StaysFinished v commit
  pub each : (k : ℕ) (e : Entry) → IsAt entries k e → SetsFinished (gone_since entries swept (k + 1)) v e.event
  pub shown : (p : Pending) → pending ≡ Some p → SetsFinished [] v p.event
  pub present : ArePresentIn m (StaysFinished opening) entries lanes

-- so of a system
abbrev pub RefsNameDurableCommits : {F T W A : Type 0} → Meaning W A → View → System F T W A → View → Type 0
RefsNameDurableCommits m opening s v = RefsNameDurableCommitsIn m opening s.base.books.history.items (swept_in s.base.books) s.base.books.pending s.lanes v
