use Rattle.std.proofs.Common.{◌≡◌, Some, refl, sym, ◌∙◌, ap, subst}
use Rattle.fs_trait.specs.declared.task.StepResult.TheVariants as turn
use Rattle.fs_trait.specs.Image.{Told}
use Rattle.fs_trait.specs.View.{View}
use Rattle.repo_model.specs.Objects.{Stores}
use Rattle.read_command.specs.Asked.{Answers}
use Rattle.read_command.specs.Commands.{Knows, read_leaves}
use Rattle.read_command_check.proofs.Ends.{new_knows, ended}
use Rattle.read_command_check.proofs.run.run_alone.Goals as goal

pub steps-init : goal.steps-init
steps-init g c = record { same = λ v is. is; knows = λ v is. new_knows v.now c.args.command c.requires; asked_so = λ v is. refl }

pub steps-preserved : goal.steps-preserved
steps-preserved g c =
    let i = c.steps.invariant in
    let leaves : (v : View) → g.F.Fs.view c.args.fs.now ≡ Some v → Told (g.F.Fs.view c.advance.new.fs) (λ w. read_leaves c.steps.command turn.More c.advance.new.self v w) = λ v is. subst (λ u. Told (g.F.Fs.view c.advance.new.fs) (λ w. read_leaves c.steps.command u c.advance.new.self v w)) c.in-More.is (c.in_ok-advance.ensures.after v (i.same v is)) in
    record {
      same = λ v is. (let l = leaves v is in l.1 ∙ ap Some l.2.0);
      knows = λ v is. (let l = leaves v is in subst (λ (w : View). Knows (Stores w.now) c.advance.new.self) l.2.0 l.2.2);
      asked_so = λ v is. (let l = leaves v is in l.2.1 ∙ i.asked_so v is);
    }

pub advance-requires : goal.advance-requires
advance-requires g c = λ v is.
    let i = c.steps.invariant in
    let first = g.met.F.Fs.told c.steps.fs c.args.fs.now v is in
    let same : Some first.0 ≡ Some v = sym (i.same first.0 first.1) ∙ is in
    let view : first.0 ≡ v = cc in
    subst (λ (w : View). Knows (Stores w.now) c.steps.command) view (i.knows first.0 first.1)
