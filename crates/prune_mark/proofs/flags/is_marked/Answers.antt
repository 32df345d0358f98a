use Rattle.std.proofs.Common.{◌≡◌, true, false, get_or, ◌∙◌, ap}
use Rattle.prune_mark.proofs.Search.{found_nowhere, found_there, one_place}
use Rattle.prune_mark.proofs.flags.is_marked.Goals as goal

pub returns-in-Ok : goal.returns-in-Ok
returns-in-Ok c = λ sorted.
    let here = found_there c.args.names.now c.args.name.now c.in-Ok.at c.in-Ok.ensures.ok in (
      λ up. (c.in-Ok.at, c.in-Ok.ensures.bound, here, up),
      λ m. ap (λ i. get_or c.args.flags.now i false) (one_place c.args.names.now c.args.name.now c.in-Ok.at m.0 sorted c.in-Ok.ensures.bound m.1 here m.2) ∙ m.3,
    )

pub returns-in-Err : goal.returns-in-Err
returns-in-Err c = λ sorted. (
  λ up. let n : false ≡ true = up in cc,
  λ m. absurd (found_nowhere c.args.names.now c.args.name.now c.in-Err.field-0 sorted c.in-Err.ensures.position (m.0, m.1, m.2)),
)
