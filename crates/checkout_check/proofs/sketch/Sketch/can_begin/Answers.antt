use Rattle.std.proofs.Common.{◌≡◌, true, false, sym, ◌∙◌, subst}
use Rattle.fs_trait.proofs.Images.{not_both}
use Rattle.std.specs.Prelude.{◌↔◌, IfOk, IsTrue}
use Rattle.checkout_check.specs.Sketches.{Sketched, CanBegin}
use Rattle.checkout_check.proofs.Making.{home_needed, can_result}
use Rattle.checkout_check.proofs.sketch.Sketch.can_begin.Goals as goal

pub returns-then-not-branch-clause-told : goal.returns-then-not-branch-clause-told
returns-then-not-branch-clause-told g c = λ v told.
    let iff = c.in_ok-is_folder.ensures.told v told in (
      λ t. let n : false ≡ true = t in cc,
      λ can. let here = subst (λ (s : Sketched). CanBegin s v.now) (sym c.self.view_is) can in
          absurd (not_both (iff.1 (home_needed v.now c.self.inside.home c.self.inside.name here.0)) c.if-not-branch.true),
    )

pub returns-clause-told : goal.returns-clause-told
returns-clause-told g c = λ v told.
    let iff = c.in_ok-is_folder.ensures.told v told in
    subst (λ (s : Sketched). IfOk c.leaves_are_there.result (λ b. IsTrue b ↔ CanBegin s v.now)) c.self.view_is
    (can_result _ v.now c.leaves_are_there.result (iff.0 c.if-not-branch.false) (c.leaves_are_there.ensures.told v (c.is_folder.ensures.same ∙ told)))
