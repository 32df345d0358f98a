-- What a step leaves of the whole command, whatever shows that its ref has few parts.
use Rattle.std.proofs.Common.{◌≡◌, ◌≤◌, ◌∙◌, ap, sym, subst, length, Bool, Option, Some, is_some, Result, Ok, Err, IfOk}
use Rattle.std.proofs.Math.Bridge.{le_prop}
use Rattle.fs_trait.specs.declared.task.StepResult.{StepResult}
use Rattle.fs_trait.specs.declared.types.FsErr.{FsErr}
use Rattle.fs_trait.specs.View.{View}
use Rattle.fs_trait.specs.Image.{Told}
use Rattle.repo_layout.specs.RefName.{parts_of}
use Rattle.commit_build.specs.Committing.{Committing, storing_in}
use Rattle.ref_command.specs.declared.work.RefWork.{RefWork}
use Rattle.ref_command.specs.Kinds.{ref_leaves}
use Rattle.commit_command.specs.declared.naming.Naming.{Naming}
use Rattle.commit_command.specs.declared.command.CommitCommand.{CommitCommand}
use Rattle.commit_command.specs.Kinds.{built, leaves_by, commit_leaves}

pub same_parts : (t : CommitCommand) (few : length (parts_of t.name) ≤ 12) → record t { parts = few } ≡ t
same_parts t few = ap (λ (p : length (parts_of t.name) ≤ 12). record t { parts = p }) (le_prop few t.parts)

pub same_built : (t : CommitCommand) (build : Committing) (pinned : Bool) (few : length (parts_of t.name) ≤ 12) → pinned ≡ is_some (storing_in t.build.phase) → record t { build = build; pinned = pinned; parts = few } ≡ built t build t.refusal
same_built t build pinned few is = same_parts (record t { build = build; pinned = pinned }) few ∙ ap (λ (b : Bool). record t { build = build; pinned = b }) is

pub change_leaves : (t : CommitCommand) (n : Naming) (next : RefWork) (few : length (parts_of t.name) ≤ 12) (v : View) (view : Option View) (r : Result (StepResult (Unit {0})) FsErr) → t.change ≡ Some n
    → IfOk r (λ u. Told view (λ w. ref_leaves n.work u next v w)) → IfOk r (λ u. Told view (λ w. commit_leaves t u (record t { change = Some (record n { work = next }); parts = few }) v w))
change_leaves t n next few v view (Ok u) is told =
    (told.0, told.1, subst (λ o. leaves_by o t u (record t { change = Some (record n { work = next }); parts = few }) v told.0) (sym is) (next, same_parts (record t { change = Some (record n { work = next }) }) few, told.2))
change_leaves t n next few v view (Err error) is told = tt
