-- What the task keeps, by the part that goes on.
use Rattle.std.proofs.Common.{◌≡◌, Result, Ok, Err, ap, sym, ◌∙◌, subst}
use Rattle.fs_trait.specs.declared.types.FsErr.{FsErr}
use Rattle.fs_trait.specs.declared.task.StepResult.{StepResult}
use Rattle.fs_trait.specs.declared.task.StepResult.TheVariants.{More, Done}
use Rattle.ost_types.specs.PathMap.{Nodes}
use Rattle.deploy_clean.specs.Cleaning as clean
use Rattle.deploy_clean.specs.Cleaning.{Cleaning}
use Rattle.tree_read.specs.declared.fault.TreeFault.{TreeFault}
use Rattle.tree_read.specs.declared.fault.TreeFault.TheVariants as fault
use Rattle.tree_read.specs.Reading as walk
use Rattle.tree_read.specs.Reading.{Reading}
use Rattle.tree_scan.specs.declared.fault.ScanFault.{ScanFault}
use Rattle.tree_scan.specs.Scanning as scan
use Rattle.tree_scan.specs.Scanning.{Scanning}
use Rattle.deploy_task.specs.declared.phase.Phase.{Phase}
use Rattle.deploy_task.specs.declared.phase.Phase.TheVariants.{Clean, Source, Etc}
use Rattle.deploy_task.specs.Deploying.{Deploying, IsMade, in_phase, made_in}
use Rattle.deploy_task.proofs.Making.{made_with}
use Rattle.deploy_task.proofs.Parts.{clean_same, scan_same}

pub in_part : (t : Deploying) (ph : Phase) → t.phase ≡ ph → IsMade t → made_in ph t
in_part t ph is made = subst (λ x. made_in x t) is made.part

pub clean_keeps : (t : Deploying) (c : Cleaning) → t.phase ≡ Clean c → IsMade t → (u : Cleaning) (r : Result (StepResult (Unit {0})) FsErr) → r ≡ Ok More → clean.IsStepped c r u → IsMade (in_phase (Clean u) t)
clean_keeps t c is made u r more stepped = made_with t (Clean u) made (clean_same c u More (subst (λ x. clean.IsStepped c x u) more stepped) ∙ in_part t (Clean c) is made)

pub walk_keeps : (t : Deploying) (w : Reading) → t.phase ≡ Source w → IsMade t → (u : Reading) (r : Result (StepResult (Result (Unit {0}) TreeFault)) FsErr) → r ≡ Ok More → walk.IsStepped w r u → IsMade (in_phase (Source u) t)
walk_keeps t w is made u r more stepped =
    let p = in_part t (Source w) is made in
    let of = p.1 in
    let step = subst (λ x. walk.IsStepped w x u) more stepped in
    made_with t (Source u) made (p.0, record { source = of.source; is_source = of.is_source; commit = step.0 ∙ of.commit; limits = step.1 ∙ of.limits })

pub scan_keeps : (t : Deploying) (defaults : Nodes) (s : Scanning) → t.phase ≡ Etc defaults s → IsMade t → (u : Scanning) (r : Result (StepResult (Result (Unit {0}) ScanFault)) FsErr) → r ≡ Ok More → scan.IsStepped s r u → IsMade (in_phase (Etc defaults u) t)
scan_keeps t defaults s is made u r more stepped =
    let p = in_part t (Etc defaults s) is made in
    let of = p.1 in
    let same = scan_same s u (subst (λ x. scan.IsStepped s x u) more stepped) in
    made_with t (Etc defaults u) made (p.0, record { source = of.source; is_source = of.is_source; at = same.at ∙ of.at; limits = same.limits ∙ of.limits }, p.2)

-- ---- a part that stays as it was

pub walk_refused : (w u : Reading) (f : TreeFault) → walk.IsStepped w (Ok (Done (Err f))) u → u ≡ w
walk_refused w u (fault.Absent o) s = s
walk_refused w u (fault.Damaged o) s = s
walk_refused w u (fault.Fs e) s = absurd s
walk_refused w u fault.NoMemory s = absurd s

pub back_to : (t : Deploying) (ph next : Phase) → t.phase ≡ ph → next ≡ ph → in_phase next t ≡ t
back_to t ph next is same = ap (λ x. in_phase x t) (same ∙ sym is)
