use Rattle.std.proofs.Common.{◌≡◌, true, false, rules, refl, sym, subst}
use Rattle.tree_copy.specs.TreeWork.{is_whole}
use Rattle.tree_copy.specs.TreeSteps.{Needs}
use Rattle.tree_copy.proofs.TreeAnswering.{copy_ends, copy_goes, copy_in, copying_is, reached_as, same_step, told_as}
use Rattle.tree_copy.proofs.task.TreeCopy.copy.Goals as goal

pub step-requires : goal.step-requires
step-requires g c = λ v told.
    let needs = subst (λ t. Needs t v) (sym c.self.view_is) (c.requires.needs v told) in
    copy_in _ c.in-Copy.copying _ v c.self.invariant c.in-Copy.is needs

pub returns-then-eq-clause-told : goal.returns-then-eq-clause-told
returns-then-eq-clause-told g c =
    let whole : is_whole c.step.new.self.phase ≡ true = search rules in
    λ v told.
    let needs = subst (λ t. Needs t v) (sym c.self.view_is) (c.requires.needs v told) in
    let same = same_step _ c.step.new.self _ _ c.in_ok-step.was c.step.ensures.stepped in
    reached_as _ c.args.number _ _ _ _ (copying_is _ c.args.number c.in-Copy.copying _ _ c.self.view_is c.in-Copy.is c.requires.phase) c.self.view_is c.reached.ensures.next c.reached.ensures.turn v _
    (copy_ends _ c.in-Copy.copying _ v c.self.invariant c.in-Copy.is needs c.step.new.self same whole _ (c.step.ensures.writes v told) (c.in_ok-step.ensures.after v told))

pub returns-clause-told : goal.returns-clause-told
returns-clause-told g c =
    let more : is_whole c.step.new.self.phase ≡ false = search rules in
    λ v told.
    let needs = subst (λ t. Needs t v) (sym c.self.view_is) (c.requires.needs v told) in
    let same = same_step _ c.step.new.self _ _ c.in_ok-step.was c.step.ensures.stepped in
    told_as _ _ _ _ c.self.view_is refl v _ _
    (copy_goes _ c.in-Copy.copying _ v c.self.invariant c.in-Copy.is needs c.step.new.self same more _ (c.step.ensures.writes v told) (c.in_ok-step.ensures.after v told))
