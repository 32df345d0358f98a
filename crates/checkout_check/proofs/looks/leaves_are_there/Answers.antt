use Rattle.std.proofs.Common.{◌≡◌, true, false, refl, sym, ◌∙◌, subst, arith, take}
use Rattle.std.specs.Prelude.{All}
use Rattle.std.proofs.lemmas.List.{take_all, take_more}
use Rattle.std.proofs.lemmas.List.Elements.{All-push}
use Rattle.ost_types.specs.Path.{Path}
use Rattle.ost_types.specs.declared.node.NodeName.{NodeName}
use Rattle.fs_trait.proofs.Images.{not_both}
use Rattle.checkout.specs.CheckoutFolder.{HasLeaves}
use Rattle.checkout_check.specs.Sketches.{IsThere}
use Rattle.checkout_check.proofs.Making.{one_lacks, all_there}
use Rattle.checkout_check.proofs.looks.leaves_are_there.Goals as goal

pub returns-then-not-branch-clause-told : goal.returns-then-not-branch-clause-told
returns-then-not-branch-clause-told g c = λ v told.
    let iff = c.in_ok-is_there.ensures.told v (c.loop-entry.invariant.same ∙ told) in (
      λ t. let n : false ≡ true = t in cc,
      λ leaves. absurd (one_lacks v.now c.as_slice-entry-items.result.now c.as_slice-entry-items.ensures.map c.loop-entry.entry-index c.entry-item.result c.loop-entry-test.true c.entry-item.is
          (λ there. not_both (iff.1 there) c.if-not-branch.true) (subst (HasLeaves v.now) (sym c.as_slice-entry-items.ensures.value) leaves)),
    )

pub loop-entry-preserved : goal.loop-entry-preserved
loop-entry-preserved g c =
    let rose = c.is_there.ensures.cause.later in
    let before = c.loop-entry.invariant.faults in
    record {
      there = λ v told.
          let iff = c.in_ok-is_there.ensures.told v (c.loop-entry.invariant.same ∙ told) in
          subst (All (λ (e : Path × NodeName). IsThere v.now e.1)) (sym (take_more c.as_slice-entry-items.result.now c.loop-entry.entry-index c.entry-item.result c.loop-entry-test.true))
          (All-push (λ (e : Path × NodeName). IsThere v.now e.1) (take c.loop-entry.entry-index c.as_slice-entry-items.result.now) _ (c.loop-entry.invariant.there v told)
          (subst (λ (e : Path × NodeName). IsThere v.now e.1) c.entry-item.is (iff.0 c.if-not-branch.false)));
      same = c.is_there.ensures.same ∙ c.loop-entry.invariant.same;
      faults = omega (arith, rose, before);
    }

pub returns-clause-told : goal.returns-clause-told
returns-clause-told g c = λ v told.
    let all = subst (All (λ (e : Path × NodeName). IsThere v.now e.1)) (take_all c.loop-entry.entry-index c.as_slice-entry-items.result.now c.loop-entry-test.false) (c.loop-entry.invariant.there v told) in (
      λ t. subst (HasLeaves v.now) c.as_slice-entry-items.ensures.value (all_there v.now c.as_slice-entry-items.result.now all),
      λ leaves. refl,
    )
