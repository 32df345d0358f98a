use Rattle.std.proofs.Common.{ap, subst, ◌∙◌}
use Rattle.std.specs.Prelude.{◌↔◌, Contains, IfOk}
use Rattle.ost_types.specs.declared.object.ObjName.{ObjName}
use Rattle.prune_mark.specs.Doomed.{AreUnmarked}
use Rattle.prune_mark.specs.Flags.{AreAscending, IsMarked}
use Rattle.prune_mark.specs.Marking.{State}
use Rattle.prune_mark.proofs.Removed.{if_unmarked}
use Rattle.prune_mark.proofs.marking.Marking.doomed.Goals as goal

pub returns-clause-exact : goal.returns-clause-exact
returns-clause-exact c =
    let names = c.as_slice.ensures.value ∙ ap (λ (t : State). t.names) c.self.view_is in
    let flags = c.as_slice-2.ensures.value ∙ ap (λ (t : State). t.flags) c.self.view_is in
    subst (λ n. IfOk c.doomed_of.result (λ v. AreAscending n → (o : ObjName) → Contains v.items o ↔ (Contains n o × (IsMarked n c.args.self.now.flags o → ⊥)))) names
    (subst (λ f. IfOk c.doomed_of.result (λ v. AreAscending c.as_slice.result.now → (o : ObjName) → Contains v.items o ↔ (Contains c.as_slice.result.now o × (IsMarked c.as_slice.result.now f o → ⊥)))) flags c.doomed_of.ensures.exact)

pub returns-clause-removes : goal.returns-clause-removes
returns-clause-removes c d roots all sound marks =
    let names = c.as_slice.ensures.value ∙ ap (λ (t : State). t.names) c.self.view_is in
    let flags = c.as_slice-2.ensures.value ∙ ap (λ (t : State). t.flags) c.self.view_is in
    let order = subst (λ n. IfOk c.doomed_of.result (λ v. AreUnmarked n c.args.self.now.flags v.items)) names
    (subst (λ f. IfOk c.doomed_of.result (λ v. AreUnmarked c.as_slice.result.now f v.items)) flags c.doomed_of.ensures.order) in
    if_unmarked d roots c.args.self.now all sound marks (λ v. v.items) c.doomed_of.result order
