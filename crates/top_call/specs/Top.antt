-- What the whole call comes to.
use Rattle.std.specs.Prelude.{◌≡◌, ◌⊎◌, ◌≤◌, ◌+◌, ℕ, List, [], ◌∷◌, length, map, Option, Some, None}
use Rattle.fs_trait.specs.Count.{Rose}
use Rattle.fs_trait.specs.Change.{Left}
use Rattle.fs_trait.specs.View.{Disk, View}
use Rattle.rely_guarantee.specs.declared.books.Entry.{Entry}
use Rattle.rely_guarantee.specs.declared.books.Pending.{Pending}
use Rattle.rely_guarantee.specs.declared.event.Event.{Event}
use Rattle.rely_guarantee.specs.Books.{Books}
use Rattle.rely_guarantee.specs.Disks.{Logical}
use Rattle.rely_guarantee.specs.Opening.{IsOpening}
use Rattle.rely_guarantee.specs.State as states
use Rattle.rely_guarantee.specs.State.{SystemState}
use Rattle.ost_types.specs.declared.limits.Limits.{Limits}
use Rattle.ost_types.specs.declared.object.ObjName.{ObjName}
use Rattle.ost_types.specs.Path.{Path}
use Rattle.script.specs.declared.answer.Reply.{Reply}
use Rattle.script.specs.declared.command.Command.{Command}
use Rattle.durable_list.specs.Standing.{ids_of, KeepsList}
use Rattle.lane_system.specs.Booting.{FitsWithList}
use Rattle.lane_system.specs.Folders.{AreFoldersIn}
use Rattle.lane_system.specs.Founded.{ArePresentIn}
use Rattle.lane_system.specs.Inside.{NoExternalChangeIn}
use Rattle.lane_system.specs.Lasting.{AreKeptIn}
use Rattle.lane_system.specs.Replied.{Replied}
use Rattle.lane_system.specs.Replies.{IsTold}
use Rattle.lane_system.specs.Said.{RepliesHeldAtAPointIn}
use Rattle.lane_system.specs.Remaining.{LastRemainsIn}
use Rattle.lane_system.specs.Staying.{AreStayingIn}
use Rattle.lane_system.specs.Storing.{IsBroughtIn, IsConfigured}
use Rattle.lane_system.specs.Sweeping.{AreWhole}
use Rattle.commands.specs.Family.{Lane, means}
use Rattle.commands.specs.Lanes.{replies_of, words_in}
use Rattle.commands.specs.Words.{words_of}
use Rattle.sys_open.specs.declared.fault.OpenFault.{OpenFault}
use Rattle.sys_open.specs.declared.fault.OpenFault.TheVariants as opening
use Rattle.layout_rules.specs.Checks.{IsSane}
use Rattle.repo_layout.specs.RefFile.{IsSum}
use Rattle.store_check.specs.Commits.{IsFinished}
use Rattle.boot_read.specs.declared.row.BootRow.{BootRow}
use Rattle.boot_read.specs.Rows.{AreRowsOf}
use Rattle.durable_deployments.specs.Standing.{KeepsDeployments}
use Rattle.durable_store.specs.Keeping.{IsGoodDisk}
use Rattle.durable_store.specs.Brought.{NoHashCollisionOn}
use Rattle.durable_store.specs.Known.{KeepsKnown, KnownBytes}
use Rattle.repo_model.specs.Objects.{Store}
use Rattle.sys_open.specs.Damages.{IsGood}
use Rattle.sys_open.specs.Changes.{Keeps}
use Rattle.sys_open.specs.Opening.{IsToldOf, StaysOnDamage}
use Rattle.top_call.specs.declared.fault.TopFault.{TopFault}
use Rattle.top_call.specs.declared.fault.TopFault.TheVariants.{Usage, Script, Input, Open, NoMemory}
use Rattle.top_call.specs.Headline.{Headline}
use Rattle.top_call.specs.Output.{Wrote, WroteFront}
use Rattle.top_call.specs.Words.{IsLine}

-- why no lane was run, by what reads see at the beginning
abbrev pub IsStop : Limits → Disk → TopFault → Type 0
IsStop limits d Usage = Unit {0}
IsStop limits d (Script e) = Unit {0}
IsStop limits d Input = Unit {0}
IsStop limits d (Open opening.NoMemory) = ⊥
IsStop limits d (Open fault) = IsToldOf limits d fault
IsStop limits d NoMemory = Unit {0}

-- What a fault of the opening tells of calls: that one failed, only where the count of such calls rose; and the root, only of a call that was
-- about it.
abbrev pub IsFaultBy : ℕ → ℕ → Option Path → TopFault → Type 0
IsFaultBy before now refused Usage = Unit {0}
IsFaultBy before now refused (Script e) = Unit {0}
IsFaultBy before now refused Input = Unit {0}
IsFaultBy before now refused NoMemory = Unit {0}
IsFaultBy before now refused (Open opening.Disk) = Rose before now
IsFaultBy before now refused (Open (opening.Outside p)) = p ≡ [] → refused ≡ Some p
IsFaultBy before now refused (Open fault) = Unit {0}

-- Where a call was refused for what stands at a path: the path that the opening's step names, or in the root's place the one that the file
-- system remembers of the call that it refused, if there was memory for it.
abbrev pub IsOutsideOf : Path → Option Path → TopFault → Type 0
IsOutsideOf (x ∷ p) refused fault = fault ≡ Open (opening.Outside (x ∷ p))
IsOutsideOf [] None fault = fault ≡ NoMemory
IsOutsideOf [] (Some path) fault = (fault ≡ Open (opening.Outside path)) ⊎ (fault ≡ NoMemory)

-- what is told where the opening ends so
abbrev pub IsFaultOf : Option Path → OpenFault → TopFault → Type 0
IsFaultOf refused opening.NoMemory fault = fault ≡ NoMemory
IsFaultOf refused opening.Disk fault = fault ≡ Open opening.Disk
IsFaultOf refused (opening.Damaged p why) fault = fault ≡ Open (opening.Damaged p why)
IsFaultOf refused (opening.Outside p) fault = IsOutsideOf p refused fault

-- after damage was told all is as it was, and outlasts a crash
abbrev pub StaysOn : TopFault → Type 0 → Type 0
StaysOn (Open fault) P = StaysOnDamage fault P
StaysOn fault P = Unit {0}

-- the change that is published
abbrev pub event_of : Option Pending → Option Event
event_of None = None
event_of (Some p) = Some p.event

-- the limits of the program
pub record AreStandard (limits : Limits) : Type 0 where
  pub objects : limits.objects ≡ 1048576
  pub paths : limits.paths ≡ 524288
  pub content : limits.content ≡ 268435456

-- why no lane was run, within the limits of the program
abbrev pub IsStopped : Disk → TopFault → Type 0
IsStopped d Usage = Unit {0}
IsStopped d (Script e) = Unit {0}
IsStopped d Input = Unit {0}
IsStopped d NoMemory = Unit {0}
IsStopped d (Open opening.NoMemory) = ⊥
IsStopped d (Open fault) = (limits : Limits) × AreStandard limits × IsToldOf limits d fault

-- What a crash left of the store: the configuration is one; each object is what its name says, and each ref names a commit that is there
-- and has no mark; and there are no more objects than may be. And where no other bytes there have the name of bytes that a command brings
-- which was begun, each commit without a mark is whole; so a sane disk is good then: it opens.
pub record LeftGood (limits : Limits) (brings : Store) (d : Disk) : Type 0 where
  pub store : IsGoodDisk limits brings IsConfigured d
  pub opens : IsSane d → NoHashCollisionOn brings d → IsGood limits d

-- What a run of lanes with these commands leaves: the repository was good, and from the refs that it had then all is as the
-- headline says. The lanes have these commands, as words of their families, and these replies, as answers of theirs. Each reply is by its
-- command and by the states that the changes make of these refs; and each change is one command's, which was answered so, or which was cut
-- off where the change is pending. Each command of each lane has its reply. The opening changed nothing but what it laid out and cleared,
-- and from there on each commit that a change made is kept until it is removed, and what each crash leaves of the store is good. The history
-- tells which objects were removed; where a command was cut off, so may these be. No reply tells that something else changed the disk, as
-- far as reads never saw other bytes with the name of bytes that a command brings. What each reply tells of the disk was so, in a view that
-- reads had then, before the reply was given; the disk ever holds the objects that it had at the beginning and those that a command brings,
-- and no other bytes; and none tells that a commit isn't there, or has a mark, of one that was there without one when the repository was
-- opened, or that a ref was set to before, if it wasn't removed since. What each command left outside of the store stands at the end, as the
-- folder of a checkout that was done, which is its commit's tree; each such folder that stands then stood at the beginning, or a command
-- checks out to its name; and none is told to stand in the way but one that stood at the beginning, or that another command checks out to.
-- What the reply that came last shows behind its command is so at the end, as that of a prune, that what is reachable is all that there is.
-- And the disk boots the list of deployments that it booted at the beginning, at the end and after each crash since the first barrier; and
-- there each of these deployments is the checkout of its commit, with copies of its kernel. The refs and the list that a crash leaves are those
-- behind one and the same prefix of the changes.
pub record Ran {F : Type 0} (limits : Limits) (view : F → Option View) (clock : F → ℕ) (was : F → ℕ → View → Type 0) (v : View) (before : ℕ) (commands : List (List Command)) (fs : F) (history : List Entry) (pending : Option Event) (replies : List (List Reply)) (w : View) : Type 0 where
  pub good : IsGood limits v.now
  pub start : SystemState
  pub state : Logical v.now start.refs
  pub headline : Headline clock was (before + 1) start fs history pending w
  pub lanes : List Lane
  pub each : words_in lanes ≡ map (λ row. map words_of row) commands
  pub given : replies_of lanes ≡ replies
  pub by : Option Pending
  pub shown : pending ≡ event_of by
  pub replied : Replied (IsTold view) means limits start history by lanes
  pub ended : map (λ row. length row) replies ≡ map (λ row. length row) commands
  pub begun : View
  pub opens : Keeps v.now begun.now
  pub opened : IsOpening start.refs begun
  pub swept : List ObjName
  pub whole : AreWhole (IsTold view) lanes → swept ≡ []
  pub kept : AreKeptIn means (was fs) begun limits lanes history swept w
  pub stored : (t : ℕ) (d : Disk) → before + 1 ≤ t → Left (was fs) t d → LeftGood limits (IsBroughtIn means limits start history lanes) d
  pub inside : NoExternalChangeIn means (was fs) (before + 1) (IsBroughtIn means limits start history lanes) lanes
  pub said : RepliesHeldAtAPointIn means (was fs) (before + 1) limits start history by lanes
  pub known : KeepsKnown (was fs) (KnownBytes v.now (IsBroughtIn means limits start history lanes)) (before + 1) w
  pub present : ArePresentIn means (λ commit. IsSum commit × IsFinished begun.now commit) history lanes
  pub books : Books
  pub stays : AreStayingIn means limits start history swept lanes w books
  pub remains : LastRemainsIn means limits start history lanes w
  pub folders : AreFoldersIn means lanes v.now w.now
  pub rows : List BootRow
  pub listed : AreRowsOf v.now rows
  pub list : start.deployments ≡ ids_of rows
  pub boots : KeepsList (was fs) rows (before + 1) w
  pub deployments : KeepsDeployments (was fs) limits rows (before + 1) w
  pub crashes : (t : ℕ) (d : Disk) → before + 1 ≤ t → Left (was fs) t d → FitsWithList limits rows start history (states.stored history by) t d

-- so, of lanes that these words ask for, where an input has this left
abbrev pub RanBy : {F : Type 0} → Option (List ℕ) → List (List ℕ) → (F → Option View) → (F → ℕ) → (F → ℕ → View → Type 0) → View → ℕ → F → List Entry → Option Event → List (List Reply) → View → Type 0
RanBy left words view clock was v before fs history pending replies w = (limits : Limits) × (commands : List (List Command)) × AreStandard limits × IsLine left words commands × Ran limits view clock was v before commands fs history pending replies w

-- no lane was run
pub record IsUnused (history : List Entry) (pending : Option Event) (replies : List (List Reply)) : Type 0 where
  pub history_is : history ≡ []
  pub pending_is : pending ≡ None
  pub replies_are : replies ≡ []

-- The text stands behind what the sink had, or a front of it where the sink's count has risen.
abbrev pub Prints : List ℕ → List ℕ → ℕ → ℕ → Option (List ℕ) → Type 0
Prints had text before now taken = Wrote had text taken ⊎ (WroteFront had text taken × Rose before now)
