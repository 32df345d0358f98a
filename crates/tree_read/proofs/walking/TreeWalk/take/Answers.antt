use Rattle.std.proofs.Common.{◌∷◌, [], ◌++◌, sym, ◌∙◌, ap, subst}
use Rattle.ost_types.specs.PathMap.{IsAscending, paths_of}
use Rattle.tree_read.specs.Line.{InLine}
use Rattle.tree_read.proofs.Lines.{may_push, line_taken, without_last, some_last}
use Rattle.tree_read.proofs.walking.TreeWalk.take.Goals as goal

pub push-requires-clause-fits : goal.push-requires-clause-fits
push-requires-clause-fits c =
    let cut = sym c.deref.ensures.value ∙ c.in-Some.ensures.cases.0 in
    let ascending = subst (λ m. IsAscending (paths_of m)) c.as_slice-pairs.ensures.value c.as_slice-pairs.ensures.map.ascending in
    rw c.in_ok-copy.ensures (may_push c.self.inside.found c.in-Some.field-0-1.now c.in-Some.next.now ascending (subst (InLine c.self.inside.found) cut c.self.invariant.0))

pub invariant_of-self-2 : goal.invariant_of-self-2
invariant_of-self-2 c =
    let cut = sym c.deref.ensures.value ∙ c.in-Some.ensures.cases.0 in
    let pushed = c.in_ok-push.ensures.ok ∙ ap (λ p. c.self.inside.found ++ (p, c.args.node) ∷ []) c.in_ok-copy.ensures in
    let popped = without_last c.self.inside.pending.items c.pop-next.new.self.items c.in-Some.field-0-1.now c.in-Some.next.now c.self.inside.pending.len c.self.inside.pending.ok.0 c.pop-next.ensures.rest cut in (
      subst (λ f. InLine f c.pop-next.new.self.items) (sym pushed)
          (subst (InLine (c.self.inside.found ++ (c.in-Some.next.now.path, c.args.node) ∷ [])) (sym popped)
          (line_taken c.self.inside.found c.in-Some.field-0-1.now c.in-Some.next.now c.args.node (subst (InLine c.self.inside.found) cut c.self.invariant.0))),
      λ e. absurd (some_last c.in-Some.field-0-1.now c.in-Some.next.now (sym cut ∙ (c.self.invariant.1 e).0)),
    )
