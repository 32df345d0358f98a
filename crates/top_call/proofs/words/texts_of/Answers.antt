use Rattle.std.proofs.Common.{rules, ◌≡◌, ◌<◌, ◌↔◌, ℕ, List, get_or, length, map, Option, None, IsSome, sym, ◌∙◌, ap, subst, All}
use Rattle.ost_types.specs.Text.{IsText}
use Rattle.std.specs.String.{string_bytes}
use Rattle.std.proofs.lemmas.List.{get_or-map, length-map}
use Rattle.std.proofs.lemmas.List.Elements.{All-get_or}
use Rattle.top_call.proofs.words.texts_of.Goals as goal

none_is : (X : Type 0) → IsSome {T = X} None → ⊥
none_is X is = cc

-- an item that is none shows that not all are
not_all : {X : Type 0} (Y : Type 0) (P : Y → Type 0) (f : X → Y) (xs : List X) (i : ℕ) (x : X) (y : Y) (o : Option Y) → i < length xs → x ≡ get_or xs i x → y ≡ f x
    → (IsSome o ↔ P y) → o ≡ None → All P (map f xs) → ⊥
not_all Y P f xs i x y o within is value exact none all =
    let here : P (f (get_or xs i x)) = subst P (get_or-map f xs i x (f x) within) (All-get_or P (map f xs) i (f x) (subst (λ n. i < n) (sym (length-map xs f)) within) all) in
    let some : IsSome o = exact.1 (subst P (ap f (sym is) ∙ sym value) here) in
    none_is Y (subst IsSome none some)

pub returns-in-None : goal.returns-in-None
returns-in-None c = λ all.
    not_all (List ℕ) IsText (λ word. string_bytes word) c.args.words.now c.loop-word.word-index c.word-item.result c.as_bytes.result.now c.in_ok-text.field-0 (search rules) c.word-item.is c.as_bytes.ensures.value c.in_ok-text.ensures.exact c.in-None.is all
