-- The content stream of a file is that of an empty one with the content behind it.
use Rattle.std.proofs.Common.{◌≡◌, ℕ, ◌^◌, ltb, List, [], ◌++◌, length, Some, sym, ap, ◌∙◌, append_assoc}
use Rattle.std.specs.Prelude.{option_and_then}
use Rattle.std.specs.Int.{w32, to_be_bytes}
use Rattle.std.proofs.lemmas.Bool.{cond-true}
use Rattle.gv_core.proofs.Sizes.{bind_some, test_some}
use Rattle.ost_types.specs.declared.meta.Meta.{Meta}
use Rattle.ost_forms.specs.declared.body.Body.TheVariants.{Regular}
use Rattle.ost_forms.specs.Stream.{header_form, zeros, framed, content_form, header_of}

framed_more : (header b xs : List ℕ) → framed header [] ≡ Some b → framed header xs ≡ Some (b ++ xs)
framed_more header b xs e =
    let front = to_be_bytes w32 (length header) in
    let p = test_some (ltb (length header) (2 ^ 32)) _ b e in
    let joined : (front ++ (zeros ++ (header ++ []))) ++ xs ≡ front ++ (zeros ++ (header ++ xs)) =
    append_assoc front (zeros ++ (header ++ [])) xs ∙ ap (λ t. front ++ t) (append_assoc zeros (header ++ []) xs ∙ ap (λ t. zeros ++ t) (append_assoc header [] xs)) in
    cond-true _ _ _ p.0 ∙ ap Some (sym joined ∙ ap (λ t. t ++ xs) p.1)

pub content_more : (m : Meta) (b xs : List ℕ) → content_form m (Regular []) ≡ Some b → content_form m (Regular xs) ≡ Some (b ++ xs)
content_more m b xs e =
    let h = header_of m (Regular []) in
    let p = bind_some (header_form h) (λ header. framed header []) b e in
    ap (option_and_then (λ header. framed header xs)) p.1 ∙ framed_more p.0 b xs p.2
