-- The greatest number of a list that grows at its end.
use Rattle.std.proofs.Common.{◌≡◌, ◌<◌, ◌+◌, ◌++◌, ◌∷◌, [], ℕ, List, map, take, length, get_or, sym, ◌∙◌, ap, arith, rules}
use Rattle.std.specs.Prelude.{max}
use Rattle.std.specs.Ordering.{ord_max, nat_cmp}
use Rattle.std.proofs.lemmas.List.{take_more, map_push}
use Rattle.top_call.specs.Status.{greatest}

pub greatest_push : (xs : List ℕ) (x : ℕ) → greatest (xs ++ x ∷ []) ≡ max (greatest xs) x
greatest_push [] x = omega arith
greatest_push (y ∷ ys) x = ap (max y) (greatest_push ys x) ∙ omega arith

-- one element more
pub greatest_more : {X : Type 0} (f : X → ℕ) (xs : List X) (i : ℕ) (d : X) → i < length xs → greatest (map f (take (i + 1) xs)) ≡ max (greatest (map f (take i xs))) (f (get_or xs i d))
greatest_more f xs i d within =
    ap (λ l. greatest (map f l)) (take_more xs i d within) ∙ ap greatest (map_push f (take i xs) (get_or xs i d)) ∙ greatest_push (map f (take i xs)) (f (get_or xs i d))

-- the step of a loop
pub step : {X : Type 0} (f : X → ℕ) (xs : List X) (i : ℕ) (x : X) (had here : ℕ) → i < length xs → x ≡ get_or xs i x
    → had ≡ greatest (map f (take i xs)) → here ≡ f x → ord_max nat_cmp had here ≡ greatest (map f (take (i + 1) xs))
step f xs i x had here within is before now =
    let more = greatest_more f xs i x within in
    let at : f (get_or xs i x) ≡ here = ap f (sym is) ∙ sym now in
    let greater : ord_max nat_cmp had here ≡ max had here = search rules in
    greater ∙ ap (λ n. max n here) before ∙ ap (λ n. max (greatest (map f (take i xs))) n) (sym at) ∙ sym more
