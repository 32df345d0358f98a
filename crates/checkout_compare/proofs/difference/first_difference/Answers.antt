use Rattle.std.proofs.Common.{rules, ◌≡◌, ◌∙◌, Some, Ok, arith, true, false, subst, sym}
use Rattle.ost_types.specs.Path.{IsPath}
use Rattle.fs_trait.proofs.Quiet.{IsQuiet-trans}
use Rattle.checkout.specs.CheckoutFolder.{IsTreeMap}
use Rattle.checkout_compare.specs.Compare.{Tells}
use Rattle.checkout_compare.specs.Looking.{IsInside, Looks}
use Rattle.checkout_compare.specs.declared.look.Looked.{Looked}
use Rattle.checkout_compare.proofs.Ends.{ended_told, other_told, stopped_told}
use Rattle.checkout_compare.proofs.Orders.{not_so}
use Rattle.checkout_compare.proofs.Walking.{one_more, passed_over}
use Rattle.checkout_compare.proofs.difference.first_difference.Goals as goal

pub loop-path-preserved-then-not-is_outside_etc : goal.loop-path-preserved-then-not-is_outside_etc
loop-path-preserved-then-not-is_outside_etc g c =
    let i = c.loop-path.invariant in
    let off : c.is_outside_etc.result ≡ false = search rules in
    record {
      known = λ v told. passed_over v.now c.args.into.now c.as_slice-nodes.result.now c.loop-path.path-index c.loop-path.least (i.known v told) c.loop-path-item.result (c.loop-path-test.true, c.loop-path-item.is)
          (not_so c.is_outside_etc.result off c.is_outside_etc.ensures.1);
      quiet = i.quiet;
      room = i.room;
      faults = i.faults;
    }

pub returns-then-comes_before-clause-told : goal.returns-then-comes_before-clause-told
returns-then-comes_before-clause-told g c = λ v told.
    subst (λ m. Tells v.now c.args.into.now m c.loop-path.least) c.as_slice-nodes.ensures.value
    (stopped_told v.now (g.met.F.Fs.tree c.args.fs.now v told) c.args.into.now c.as_slice-nodes.result.now c.as_slice-nodes.ensures.map.ascending (subst IsTreeMap (sym c.as_slice-nodes.ensures.value) (c.requires v told)) c.loop-path.path-index
    c.loop-path-item.result (c.loop-path-test.true, c.loop-path-item.is) c.loop-path.least (c.loop-path.invariant.known v told) (c.comes_before.ensures.0 c.if-comes_before.true))

pub returns-in-Other-clause-told : goal.returns-in-Other-clause-told
returns-in-Other-clause-told g c = λ v told.
    let i = c.loop-path.invariant in
    let on : c.is_outside_etc.result ≡ true = search rules in
    let path = subst IsPath c.names-into.ensures.value c.names-into.ensures.path in
    let other = subst (λ (l : Looked). Looks v.now c.args.into.now c.args.tree.now c.loop-path-item.result.0 c.loop-path-item.result.1 (Ok l)) c.in-Other.is (c.in_ok-look.ensures.told v (i.quiet.view ∙ told)) in
    subst (λ m. Tells v.now c.args.into.now m (Some c.in_ok-copy-in-Other.field-0)) c.as_slice-nodes.ensures.value
    (subst (λ p. Tells v.now c.args.into.now c.as_slice-nodes.result.now (Some p)) (sym c.in_ok-copy-in-Other.ensures)
    (other_told v.now (g.met.F.Fs.tree c.args.fs.now v told) c.args.into.now c.as_slice-nodes.result.now c.as_slice-nodes.ensures.map.ascending (subst IsTreeMap (sym c.as_slice-nodes.ensures.value) (c.requires v told)) c.loop-path.path-index
    c.loop-path-item.result (c.loop-path-test.true, c.loop-path-item.is) c.loop-path.least (i.known v told) (c.is_outside_etc.ensures.0 on) (not_so c.comes_before.result c.if-comes_before.false c.comes_before.ensures.1) path other))

pub loop-path-preserved : goal.loop-path-preserved
loop-path-preserved g c =
    let i = c.loop-path.invariant in
    record {
      known = λ v told.
          let same = subst (λ (l : Looked). Looks v.now c.args.into.now c.args.tree.now c.loop-path-item.result.0 c.loop-path-item.result.1 (Ok l)) c.in-Same.is (c.in_ok-look.ensures.told v (i.quiet.view ∙ told)) in
          one_more v.now c.args.into.now c.as_slice-nodes.result.now c.loop-path.path-index c.loop-path.least (i.known v told) c.loop-path-item.result (c.loop-path-test.true, c.loop-path-item.is) c.in-Same.new c.lesser-least.result
          same.0 (subst (λ m. IsInside v.now c.args.into.now m c.loop-path-item.result.0 c.in-Same.new) (sym c.as_slice-nodes.ensures.value) same.1) c.lesser-least.ensures;
      quiet = IsQuiet-trans _ _ _ _ _ _ _ _ _ i.quiet c.look.ensures.quiet;
      room = omega (arith, i.room, c.look.ensures.room);
      faults = omega (arith, i.faults, c.look.ensures.cause.later);
    }

pub returns-clause-told : goal.returns-clause-told
returns-clause-told g c = λ v told.
    subst (λ m. Tells v.now c.args.into.now m c.loop-path.least) c.as_slice-nodes.ensures.value
    (ended_told v.now (g.met.F.Fs.tree c.args.fs.now v told) c.args.into.now c.as_slice-nodes.result.now c.as_slice-nodes.ensures.map.ascending (subst IsTreeMap (sym c.as_slice-nodes.ensures.value) (c.requires v told)) c.loop-path.path-index
    c.loop-path.least (c.loop-path.invariant.known v told) c.loop-path-test.false)
