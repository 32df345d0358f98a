-- From what the reading of the source's `etc` answered to what a step says.
use Rattle.std.proofs.Common.{◌≡◌, ◌≢◌, inl, inr, Option, Some, Result, Ok, Err, refl, sym, ap, subst}
use Rattle.ost_types.specs.PathMap.{IsPathMap, Nodes}
use Rattle.fs_trait.specs.declared.types.FsErr.{FsErr}
use Rattle.fs_trait.specs.declared.task.StepResult.{StepResult}
use Rattle.fs_trait.specs.declared.task.StepResult.TheVariants.{More, Done}
use Rattle.fs_trait.specs.View.{View}
use Rattle.tree_scan.specs.declared.fault.ScanFault.{ScanFault}
use Rattle.tree_scan.specs.Scanning as scan
use Rattle.tree_scan.specs.Scanning.{Scanning}
use Rattle.tree_scan.specs.Faults.{IsFault}
use Rattle.tree_scan.specs.Scan.{IsScan}
use Rattle.tree_scan.specs.Steps.{StepTells}
use Rattle.deploy_task.specs.declared.refusal.DeployRefusal.TheVariants as refusal
use Rattle.deploy_task.specs.declared.phase.Phase.TheVariants.{Etc, BeginBuild}
use Rattle.deploy_task.specs.Deploying.{Deploying, IsStepped, Turn, in_phase, read_to, steps_in}
use Rattle.deploy_task.specs.Steps.{IsToldStep, Needs, refuses_in}
use Rattle.deploy_task.proofs.Keeping.{back_to}
use Rattle.deploy_task.proofs.Reading as reading
use Rattle.deploy_task.proofs.Telling.{told_as, told_error}

abbrev Answer : Type 0
Answer = StepResult (Result (Unit {0}) ScanFault)

module _ (t : Deploying) (defaults : Nodes) (s : Scanning) (is : t.phase ≡ Etc defaults s) (u : Scanning) (r : Result Answer FsErr) (stepped : scan.IsStepped s r u) where
  as_answered : (answer : Answer) → r ≡ Ok answer → scan.IsStepped {E = FsErr} s (Ok answer) u
  as_answered answer ok = subst (λ x. scan.IsStepped s x u) ok stepped

  -- which step it was
  scans : (answer : Answer) → r ≡ Ok answer → (turn : Turn) (new : Deploying) → read_to answer defaults u t turn new → IsStepped t (Ok turn) new
  scans answer ok turn new goes = subst (λ ph. steps_in ph t turn new) (sym is) (record { part = u; inner = answer; step = as_answered answer ok; goes = goes })

  -- the last one leaves the task as it was
  back : (answer : Result (Unit {0}) ScanFault) → r ≡ Ok (Done answer) → in_phase (Etc defaults u) t ≡ t
  back answer ok = back_to t (Etc defaults s) (Etc defaults u) is (ap (Etc defaults) (as_answered (Done answer) ok))

  pub scans_on : r ≡ Ok More → IsStepped t (Ok More) (in_phase (Etc defaults u) t)
  scans_on ok = scans More ok More (in_phase (Etc defaults u) t) (refl, refl)

  pub scans_off : (fault : ScanFault) → r ≡ Ok (Done (Err fault)) → IsStepped t (Ok (Done (Err (refusal.Etc fault)))) (in_phase (Etc defaults u) t)
  scans_off fault ok = scans (Done (Err fault)) ok (Done (Err (refusal.Etc fault))) (in_phase (Etc defaults u) t) (refl, back (Err fault) ok)

  pub scans_changed : (x : Unit {0}) → r ≡ Ok (Done (Ok x)) → u.found ≢ defaults → IsStepped t (Ok (Done (Err refusal.EtcChanged))) (in_phase (Etc defaults u) t)
  scans_changed x ok other = scans (Done (Ok x)) ok (Done (Err refusal.EtcChanged)) (in_phase (Etc defaults u) t) (inr (other, (refl, back (Ok x) ok)))

  pub scans_unchanged : (x : Unit {0}) → r ≡ Ok (Done (Ok x)) → u.found ≡ defaults → IsStepped t (Ok More) (in_phase BeginBuild t)
  scans_unchanged x ok same = scans (Done (Ok x)) ok More (in_phase BeginBuild t) (inl (same, (refl, refl)))

  module _ (v : View) (needs : Needs t v) (view : Option View) (told : view ≡ Some v) (tells : StepTells v.now s r u) where
    told_by : (answer : Answer) → r ≡ Ok answer → StepTells v.now s (Ok answer) u
    told_by answer ok = subst (λ x. StepTells v.now s x u) ok tells

    pub read_on : r ≡ Ok More → IsToldStep t (in_phase (Etc defaults u) t) v (Ok More) view
    read_on ok = reading.etc_more t defaults s is v needs u (as_answered More ok) (told_by More ok) view told

    pub read_off : (fault : ScanFault) → r ≡ Ok (Done (Err fault)) → IsToldStep t (in_phase (Etc defaults u) t) v (Ok (Done (Err (refusal.Etc fault)))) view
    read_off fault ok =
        told_as t t t (in_phase (Etc defaults u) t) refl (sym (back (Err fault) ok)) v _ view
        (reading.etc_refused t defaults s is v needs fault (subst (λ (x : Scanning). IsFault v.now x.at x.limits x.found fault) (as_answered (Done (Err fault)) ok) (told_by (Done (Err fault)) ok)) view told)

    pub read_err : (e : FsErr) → r ≡ Err e → (new : Deploying) → IsToldStep t new v (Err e) view
    read_err e err new = told_error t new v e view told (subst (λ ph. refuses_in ph v e) (sym is) (subst (λ x. StepTells v.now s x u) err tells))

    module _ (x : Unit {0}) (ok : r ≡ Ok (Done (Ok x))) where
      same : u ≡ s
      same = as_answered (Done (Ok x)) ok

      found : IsScan v.now s.at s.found
      found = subst (λ (y : Scanning). IsScan v.now y.at y.found) same (told_by (Done (Ok x)) ok).0

      pub read_changed : IsPathMap u.found → u.found ≢ defaults → IsToldStep t (in_phase (Etc defaults u) t) v (Ok (Done (Err refusal.EtcChanged))) view
      read_changed map other =
          told_as t t t (in_phase (Etc defaults u) t) refl (sym (back (Ok x) ok)) v _ view
          (reading.etc_changed t defaults s is v needs found (subst (λ (y : Scanning). IsPathMap y.found) same map) (subst (λ (y : Scanning). y.found ≢ defaults) same other) view told)

      pub read_unchanged : u.found ≡ defaults → IsToldStep t (in_phase BeginBuild t) v (Ok More) view
      read_unchanged is_same = reading.etc_unchanged t defaults s is v needs found (subst (λ (y : Scanning). y.found ≡ defaults) same is_same) view told
