use Rattle.std.proofs.Common.{◌≡◌, List, ℕ, ◌∷◌, [], get_or, length, Some, sym, ap, ◌∙◌, arith, rules}
use Rattle.std.proofs.lemmas.Bool.{eq-eqb, cond-true}
use Rattle.std.specs.Prelude.{option_map}
use Rattle.gv_core.specs.declared.kind.Basic.TheVariants as b
use Rattle.gv_core.specs.declared.value.Value.{Double, the_lemmas}
use Rattle.gv_core.specs.Tree.{leaf, double, view}
use Rattle.gv_core.specs.Reading.{leaf_at}
use Rattle.gv_core.proofs.Numbers.{list_8}
use Rattle.gv_core.proofs.reading.decode_basic.Goals as goal

double_at : (bytes : List ℕ) → length bytes ≡ 8 → leaf_at b.Double bytes ≡ Some (double bytes)
double_at bytes e = cond-true _ _ _ (eq-eqb _ _ e)

pub returns-in-len8-bytes-2 : goal.returns-in-len8-bytes-2
returns-in-len8-bytes-2 c =
    let bytes = c.args.bytes.now in
    let len : length bytes ≡ 8 = omega arith in
    let cells : List ℕ = get_or bytes 0 0 ∷ get_or bytes 1 0 ∷ get_or bytes 2 0 ∷ get_or bytes 3 0 ∷ get_or bytes 4 0 ∷ get_or bytes 5 0 ∷ get_or bytes 6 0 ∷ get_or bytes 7 0 ∷ [] in
    let seen_as : view (Double cells) ≡ leaf (double cells) = search (rules, the_lemmas) in
    ap (λ x. option_map leaf (leaf_at x bytes)) c.in-Double.is ∙ ap (option_map leaf) (double_at bytes len) ∙ ap (λ d. Some (leaf (double d))) (sym (list_8 bytes len)) ∙ ap Some (sym seen_as)
