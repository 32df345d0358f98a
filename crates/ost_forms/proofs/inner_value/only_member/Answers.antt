use Rattle.std.proofs.Common.{◌≡◌, ◌∙◌, sym, ap, rules}
use Rattle.gv_core.specs.declared.value.Value.{Tuple, the_lemmas}
use Rattle.gv_core.specs.Tree.{view}
use Rattle.gv_core.specs.Tree as t
use Rattle.gv_core.specs.Gives.{views}
use Rattle.ost_forms.proofs.Alone.{last_member}
use Rattle.ost_forms.proofs.inner_value.only_member.Goals as goal

pub returns : goal.returns
returns c =
    let seen : view (Tuple c.in-Tuple.members) ≡ t.tuple (views c.in-Tuple.members.items) = search (rules, the_lemmas) in
    let is = ap view c.in-Tuple.is ∙ seen in
    is ∙ last_member _ _ _ _ (c.in-Some.ensures.items) (sym is ∙ c.requires.1)
