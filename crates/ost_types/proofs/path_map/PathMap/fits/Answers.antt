use Rattle.std.proofs.Common.{rules, ◌∙◌}
use Rattle.ost_types.proofs.Ascending.{fits_above, fits_first, tests_less}
use Rattle.ost_types.proofs.path_map.PathMap.fits.Goals as goal

pub returns-in-Some : goal.returns-in-Some
returns-in-Some c =
    let same = c.deref.ensures.value ∙ c.self.view_is in
    let item = c.in-Some.ensures.item in
    let above = fits_above c.deref.result.now c.in-Some.field-0.now c.args.path.now (rw c.deref.ensures.value c.self.invariant) item.3.0 item.1 in
    let less = tests_less c.is_lt.result c.cmp.result _ c.is_lt.ensures c.cmp.ensures in
    rw (← same) (λ test. above.0 (less.0 test), λ all. less.1 (above.1 all))

pub returns-in-None : goal.returns-in-None
returns-in-None c =
    let same = c.deref.ensures.value ∙ c.self.view_is in
    rw (← same) (λ _. fits_first c.deref.result.now c.args.path.now c.in-None.ensures.item.3, λ _. search rules)
