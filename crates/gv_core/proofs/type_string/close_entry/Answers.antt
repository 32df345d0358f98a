use Rattle.std.proofs.Common.{◌≡◌, true, sym, ap, subst, ◌∙◌, rules}
use Rattle.gv_core.specs.Kind.{under_curly}
use Rattle.gv_core.specs.Stack.{PoppedCurly}
use Rattle.gv_core.proofs.Stacks.{pair_is, pair_start, pair_key, pair_value, pair_tail, pushed}
use Rattle.gv_core.proofs.type_string.close_entry.Goals as goal

pub returns : goal.returns
returns c = λ st s.
    let q = c.in-Some.ensures st s in
    let key = c.in-Some-key_of.ensures q.0.0 q.1.1.0 in
    let r = c.in-Some-pop_kind.ensures q.0.1 q.1.1.1 in
    let closed : c.pop_curly.result ≡ true = search rules in
    let u = subst (λ b. PoppedCurly b c.pop_curly.new.stack.items (under_curly r.0.1)) closed (c.pop_curly.ensures r.0.1 r.1.1.1) in
    let paired = pair_is st ∙ ap pair_start q.1.0 ∙ ap (pair_key q.0.1) (sym key) ∙ ap (pair_value c.in-Some-key_of.key) r.1.0 ∙ ap (pair_tail c.in-Some-key_of.key r.0.0) u.1.0 in
    pushed _ _ _ _ _ u.0 _ c.push_item.ensures paired (c.in_ok-node.ensures r.0.0 r.1.1.0) u.1.1
