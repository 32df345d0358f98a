use Rattle.std.proofs.Common.{◌≡◌, ◌+◌, ◌++◌, [], ◌∷◌, Some, None, sym, ◌∙◌, ap, subst}
use Rattle.prune_mark.specs.Flags.{IsMarked}
use Rattle.prune_sweep.proofs.Losing.{AreSoFar, lost_more, lost_same}
use Rattle.prune_sweep.proofs.lost.marks_of.Goals as goal
use Rattle.prune_sweep.proofs.lost.marks_of.Goals.{in-Some+in_ok-mark_path+in_ok-push, in_default}

pub loop-name-preserved : goal.loop-name-preserved
loop-name-preserved c = λ sorted.
    let names = c.as_slice-name-items.result.now in
    let at = c.loop-name.name-index in
    let stays = IsMarked c.args.marking.now.names c.args.marking.now.flags in
    let pins = c.args.pins.now in
    let so = c.loop-name.invariant sorted in
    elim c.match-lost_commit.branch [
      | in-Some+in_ok-mark_path+in_ok-push w ↦
          let found = w.in-Some.ensures.some sorted in
          rw w.marks-is
          (subst (AreSoFar names (at + 1) stays pins) (sym (w.in_ok-push.ensures.items ∙ ap (λ q. c.loop-name.marks.items ++ q ∷ []) w.in_ok-mark_path.ensures))
          (lost_more names at c.name-item.result c.loop-name-test.true (sym c.name-item.is) stays pins c.loop-name.marks.items so w.in-Some.commit found.1
          (λ other is lost. let e : Some w.in-Some.commit ≡ Some other = w.in-Some.ensures.all sorted other (c.as_slice.ensures.value ∙ is) lost in let same : other ≡ w.in-Some.commit = cc in same)))
      | in_default w ↦
          rw w.marks-is
          (lost_same names at c.name-item.result c.loop-name-test.true (sym c.name-item.is) stays pins c.loop-name.marks.items so
          (λ other is lost. let n : None ≡ Some other = w.in_default.ensures.all sorted other (c.as_slice.ensures.value ∙ is) lost in cc))
    ]
