-- What a step of a commit pins is an object of the commit.
use Rattle.std.proofs.Common.{◌≡◌, inl, inr, Bool, true, false, refl, sym, ◌∙◌, Option, Some, None}
use Rattle.ost_types.specs.declared.object.ObjName.{ObjName}
use Rattle.tree_build.specs.Objects.{Object}
use Rattle.obj_store.specs.Putting as put
use Rattle.ref_store.specs.declared.progress.Progress.{Progress}
use Rattle.ref_store.specs.declared.progress.Progress.TheVariants as progress
use Rattle.ref_store.specs.Change.{progress_in}
use Rattle.commit_build.specs.declared.phase.Phase.{Phase}
use Rattle.commit_build.specs.declared.phase.Phase.TheVariants as phase
use Rattle.commit_build.specs.Committing.{Committing, IsMade, storing_in}
use Rattle.commit_build.specs.Whole.{its_commit, IsOfCommit}
use Rattle.commit_build.proofs.PutSteps.{kept_as}
use Rattle.rely_guarantee.specs.declared.event.Event.{Event}
use Rattle.rely_guarantee.specs.Pinning.{pin_in}
use Rattle.ref_command.specs.Kinds.{event, kind_at}
use Rattle.commit_command.specs.declared.naming.Naming.{Naming}
use Rattle.commit_command.specs.declared.command.CommitCommand.{CommitCommand}
use Rattle.commit_command.specs.Kinds.{build_kind, commit_kind, kind_by}
use Rattle.commit_command.specs.Laws.{named_same}

-- a change of a ref pins nothing
pub ref_no_pin : (p : Progress) (e : Event) → pin_in (kind_at p e) ≡ None
ref_no_pin progress.Looking e = refl
ref_no_pin progress.Preparing e = refl
ref_no_pin progress.Showing e = refl
ref_no_pin progress.Settling e = refl
ref_no_pin progress.Ended e = refl

storing_of : (t : Committing) → IsMade t → (ph : Phase) → t.phase ≡ ph → (name : ObjName) → storing_in ph ≡ Some name → (o : Object) × IsOfCommit t o × (o.name ≡ name)
storing_of t made (phase.Put p) is name stores =
    let last = (kept_as t made (phase.Put p) is).1 in
    (last.object, inl (last.last.number, last.last.object), sym last.puts.name ∙ named_same (put.need_in p.phase) p.name name stores)
storing_of t made (phase.PutCommit p) is name stores = (its_commit t, inr refl, sym (kept_as t made (phase.PutCommit p) is).2.name ∙ named_same (put.need_in p.phase) p.name name stores)
storing_of t made phase.Check is name stores = (let n : None ≡ Some name = stores in cc)
storing_of t made phase.Make is name stores = (let n : None ≡ Some name = stores in cc)
storing_of t made (phase.Made c) is name stores = (let n : None ≡ Some name = stores in cc)
storing_of t made phase.SyncObjects is name stores = (let n : None ≡ Some name = stores in cc)
storing_of t made phase.MakeCommit is name stores = (let n : None ≡ Some name = stores in cc)
storing_of t made (phase.SyncCommit sum) is name stores = (let n : None ≡ Some name = stores in cc)
storing_of t made (phase.Unmark sum) is name stores = (let n : None ≡ Some name = stores in cc)
storing_of t made (phase.SyncState sum) is name stores = (let n : None ≡ Some name = stores in cc)
storing_of t made (phase.Ended sum) is name stores = (let n : None ≡ Some name = stores in cc)

build_pin : (pinned : Bool) (o : Option ObjName) (name : ObjName) → pin_in (build_kind pinned o) ≡ Some name → o ≡ Some name
build_pin pinned None name is = (let n : None ≡ Some name = is in cc)
build_pin true (Some x) name is = (let n : None ≡ Some name = is in cc)
build_pin false (Some x) name is = is

pin_by : (o : Option Naming) (t : CommitCommand) (name : ObjName) → IsMade t.build → pin_in (kind_by o t) ≡ Some name → (x : Object) × IsOfCommit t.build x × (x.name ≡ name)
pin_by None t name made is = storing_of t.build made t.build.phase refl name (build_pin t.pinned (storing_in t.build.phase) name is)
pin_by (Some n) t name made is = (let e : None ≡ Some name = sym (ref_no_pin (progress_in n.work.task.phase) (event n.work.task)) ∙ is in cc)

pub pin_of : (t : CommitCommand) (name : ObjName) → IsMade t.build → pin_in (commit_kind t) ≡ Some name → (x : Object) × IsOfCommit t.build x × (x.name ≡ name)
pin_of t name made is = pin_by t.change t name made is
