use Rattle.std.proofs.Common.{◌≡◌, ◌+◌, ◌∙◌, sym, subst, Some, None}
use Rattle.obj_store.proofs.ListLemmas.{AreFound, one_more, one_less, all_found_result, found_equal}
use Rattle.obj_store.proofs.listing.objects_in.Goals as goal
use Rattle.obj_store.proofs.listing.objects_in.Goals.{in-Some+in_ok-insert, in_default}

pub loop-name-preserved : goal.loop-name-preserved
loop-name-preserved c = elim c.match-object_of.branch [
  | in-Some+in_ok-insert w ↦ rw w.found-is
      (subst (AreFound c.args.first (c.loop-name.name-index + 1) c.as_slice-name-items.result.now) (sym w.in_ok-insert.ensures.keys)
      (one_more c.args.first c.loop-name.name-index c.as_slice-name-items.result.now c.name-item.result c.loop-name-test.true c.name-item.is c.loop-name.found.keys c.loop-name.invariant _ found_equal w.in-Some.object
      (w.in-Some.ensures.some.0, w.in-Some.ensures.some.1, sym c.as_slice.ensures.value ∙ w.in-Some.ensures.some.2)
      (λ p sum begins is. let n : Some w.in-Some.object ≡ Some p = w.in-Some.ensures.all p sum begins (c.as_slice.ensures.value ∙ is) in let same : w.in-Some.object ≡ p = cc in sym same)))
  | in_default w ↦ rw w.found-is (one_less c.args.first c.loop-name.name-index c.as_slice-name-items.result.now c.name-item.result c.loop-name-test.true c.name-item.is c.loop-name.found.keys c.loop-name.invariant (λ p sum begins is. let n : None ≡ Some p = w.in_default.ensures.all p sum begins (c.as_slice.ensures.value ∙ is) in cc))
]

pub returns : goal.returns
returns c = all_found_result c.args.first c.loop-name.name-index c.as_slice-name-items.result.now c.loop-name.found.keys c.loop-name-test.false c.loop-name.invariant c.listed.ensures.ascending c.args.names.now c.as_slice-name-items.ensures (λ t. t.items) c.listed.result c.listed.ensures.all
