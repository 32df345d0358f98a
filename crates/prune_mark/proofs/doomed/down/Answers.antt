use Rattle.std.proofs.Common.{◌≡◌, ◌+◌, true, false, sym, ◌∙◌, subst}
use Rattle.prune_mark.specs.Doomed.{AreDown}
use Rattle.prune_mark.proofs.Downs.{down_more, down_none, down_same}
use Rattle.prune_mark.proofs.doomed.down.Goals as goal
use Rattle.prune_mark.proofs.doomed.down.Goals.{then-is_wanted+in_ok-push, else-is_wanted}

pub loop-at-init : goal.loop-at-init
loop-at-init c = down_none c.args.names.now c.args.flags.now c.args.commits c.new-down.result.items c.new-down.ensures.items

pub loop-at-preserved : goal.loop-at-preserved
loop-at-preserved c =
    let names = c.args.names.now in
    let flags = c.args.flags.now in
    let at = c.loop-at.at in
    elim c.if-is_wanted.branch [
      | then-is_wanted+in_ok-push w ↦
          let x = w.index-names-at.result in
          let both = (c.is_wanted.ensures x (sym w.index-names-at.is)).0 w.if-is_wanted.true in
          rw w.down-is (subst (AreDown names flags c.args.commits (at + 1)) (sym w.in_ok-push.ensures.items) (down_more names flags c.args.commits at c.loop-at.down.items c.loop-at.invariant x both.0 both.1))
      | else-is_wanted w ↦
          rw w.down-is (down_same names flags c.args.commits at c.loop-at.down.items c.loop-at.invariant (λ o is of. let n : true ≡ false = sym ((c.is_wanted.ensures o is.is).1 (is, of)) ∙ w.if-is_wanted.false in cc))
    ]
