use Rattle.std.proofs.Common.{◌≡◌, ◌+◌, ◌++◌, ◌∷◌, [], false, true, sym, ◌∙◌, ap, subst}
use Rattle.ref_room.proofs.Lists.{IsInside, one_more_path, one_less_path, no_paths, all_paths, nothing_taken}
use Rattle.ref_room.proofs.clearing.paths_in.Goals as goal
use Rattle.ref_room.proofs.clearing.paths_in.Goals.{then-can_hold+in_ok-child+in_ok-push, else-can_hold}

pub loop-name-init : goal.loop-name-init
loop-name-init c = (no_paths c.args.folder.now c.new-paths.result.items c.new-paths.ensures.items, λ x has. absurd (nothing_taken c.as_slice-name-items.result.now x has))

pub loop-name-preserved : goal.loop-name-preserved
loop-name-preserved c = elim c.if-can_hold.branch [
  | then-can_hold+in_ok-child+in_ok-push w ↦ rw w.paths-is (subst (IsInside c.args.folder.now c.as_slice-name-items.result.now (c.loop-name.name-index + 1)) (sym (w.in_ok-push.ensures.items ∙ ap (λ p. c.loop-name.paths.items ++ p ∷ []) w.in_ok-child.ensures))
      (one_more_path c.args.folder.now c.as_slice-name-items.result.now c.loop-name.name-index c.name-item.result c.loop-name.paths.items c.loop-name-test.true c.name-item.is c.loop-name.invariant))
  | else-can_hold w ↦ rw w.paths-is (one_less_path c.args.folder.now c.as_slice-name-items.result.now c.loop-name.name-index c.name-item.result c.loop-name.paths.items c.loop-name-test.true c.name-item.is (λ path. let n : false ≡ true = w.if-can_hold.ensures.1 path in cc) c.loop-name.invariant)
]

pub returns-clause-all : goal.returns-clause-all
returns-clause-all c = all_paths c.args.folder.now c.as_slice-name-items.result.now c.args.names.now c.loop-name.name-index c.loop-name.paths.items c.as_slice-name-items.ensures c.loop-name-test.false c.loop-name.invariant.1
