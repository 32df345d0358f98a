use Rattle.std.proofs.Common.{◌≤◌, length, sym, ◌∙◌, ap, subst, arith}
use Rattle.tree_read.proofs.Telling.{stop_full}
use Rattle.tree_read.proofs.walking.TreeWalk.read_next.Goals as goal

pub returns-then-len-self-clause-told : goal.returns-then-len-self-clause-told
returns-then-len-self-clause-told g c = λ v is so.
    let cut = sym (ap (λ t. t.pending) c.self.view_is) ∙ sym c.deref.ensures.value ∙ c.in-Some.ensures.cases.0 in
    let full = subst (λ t. t.limits.paths ≤ length t.found) c.self.view_is (omega (arith, c.if-len-self.true, c.len.ensures)) in
    stop_full (g.L.AtFile.store v.now) (g.met.L.AtFile.trees v.now).one_each v.now c.args.self.now c.in-Some.field-0-1.now c.in-Some.next.now c.damaged.result cut (so c.requires) c.damaged.ensures full
