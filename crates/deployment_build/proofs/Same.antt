-- No step changes what is built, nor where it is staged.
use Rattle.std.proofs.Common.{◌≡◌, ◌∙◌, ap, List, ℕ, Ok, Err}
use Rattle.ost_types.specs.PathMap.{Nodes}
use Rattle.fs_trait.specs.declared.task.StepResult.{StepResult}
use Rattle.fs_trait.specs.declared.task.StepResult.TheVariants.{More, Done}
use Rattle.checkout.specs.CheckoutWork.{Answer}
use Rattle.staged_file.proofs.Wholes.{same_stepped}
use Rattle.kernel_copy.specs.declared.files.KernelFiles.{KernelFiles}
use Rattle.kernel_copy.proofs.Telling.{step_same as kernel_same}
use Rattle.deployment_build.specs.declared.phase.BuildPhase.{BuildPhase}
use Rattle.deployment_build.specs.declared.phase.BuildPhase.TheVariants.{Checkout, Etc, Origin, Kernel, Ended, Refused}
use Rattle.deployment_build.specs.Work.{Building, IsStepped, plan_of, stage_of, steps_in}
use Rattle.deployment_build.proofs.Parts.{checkout_same, tree_same}

pub record IsSameBuild (old new : Building) : Type 0 where
  pub plan : plan_of new ≡ plan_of old
  pub stage : stage_of new ≡ stage_of old

unchanged : (old new : Building) → new ≡ old → IsSameBuild old new
unchanged old new is = record { plan = ap plan_of is; stage = ap stage_of is }

same_in : (ph : BuildPhase) (old new : Building) (turn : StepResult Answer) → steps_in ph old turn new → IsSameBuild old new
same_in Checkout old new turn s = record {
  plan = ap plan_of s.is ∙ ap (λ (t : Nodes). record (plan_of old) { tree = t }) (checkout_same old.checkout s.files s.inner s.step).tree;
  stage = ap stage_of s.is;
}
same_in Etc old new turn s = record {
  plan = ap plan_of s.is ∙ ap (λ (t : Nodes). record (plan_of old) { etc = t }) (tree_same old.etc s.copy s.inner s.step).tree;
  stage = ap stage_of s.is;
}
same_in Origin old new turn s =
    let same = same_stepped old.origin (Ok s.inner) s.file s.step in
    record { plan = ap plan_of s.is ∙ ap (λ (b : List ℕ). record (plan_of old) { origin = b }) same.bytes; stage = ap stage_of s.is ∙ same.stage }
same_in Kernel old new turn s = record {
  plan = ap plan_of s.is ∙ ap (λ (f : KernelFiles). record (plan_of old) { kernel = f }) (kernel_same old.kernel s.copies s.inner s.step).files;
  stage = ap stage_of s.is;
}
same_in Ended old new turn s = unchanged old new s.1
same_in Refused old new More s = absurd s
same_in Refused old new (Done (Ok x)) s = absurd s
same_in Refused old new (Done (Err e)) s = unchanged old new s

pub step_same : (old new : Building) (turn : StepResult Answer) → IsStepped old (Ok turn) new → IsSameBuild old new
step_same old new turn s = same_in old.phase old new turn s
