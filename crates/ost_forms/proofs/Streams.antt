-- A stream and its parts.
use Rattle.std.proofs.Common.{◌≡◌, ℕ, ◌<◌, ◌^◌, Bool, true, false, cond, ltb, List, ◌++◌, length, take, drop, get_or, Some, None, Result, Ok, Err, refl, sym, ap, subst, ◌∙◌, arith, inl, inr}
use Rattle.std.specs.Prelude.{option_and_then, not}
use Rattle.std.specs.Str.{bytes_eq}
use Rattle.std.proofs.lemmas.Slice.Eq.{bytes_eq-Decides}
use Rattle.std.specs.Int.{w32, to_be_bytes}
use Rattle.std.proofs.lemmas.Bool.{cond-true, ltb-true, lt-ltb, cases_lt}
use Rattle.std.proofs.lemmas.List.{take_at, drop_at, take-append-drop, length-append, length-take, length-drop, drop-drop, get_or-take, get_or_past}
use Rattle.std.proofs.lemmas.Nat.{be_bytes_4, from_be_bytes-to_be_bytes_4}
use Rattle.gv_core.proofs.Sizes.{bind_some, some_is}
use Rattle.ost_forms.specs.declared.body.Header.{Header}
use Rattle.ost_forms.specs.declared.fault.ObjFault.{ObjFault}
use Rattle.ost_forms.specs.declared.fault.ObjFault.TheVariants.{NotNormal, BadSumLength, BadName, NotSorted, BadMode, TooLarge, NoMemory}
use Rattle.ost_forms.specs.Finds.{Finds}
use Rattle.ost_forms.specs.Stream.{header_form, zeros, framed, stream_form, header_size, HeaderFits, header_part, content_part}

-- what a stream says of the parts that it was made of
pub record IsFramed (header content bytes : List ℕ) : Type 0 where
  pub fits : HeaderFits bytes
  pub head : header_part bytes ≡ header
  pub rest : content_part bytes ≡ content
  pub gap : take 4 (drop 4 bytes) ≡ zeros

framed_if : (b : Bool) (x bytes : List ℕ) → cond b (Some x) None ≡ Some bytes → (b ≡ true) × (x ≡ bytes)
framed_if true x bytes e = (refl, some_is x bytes e)
framed_if false x bytes e = absurd cc

framed_whole : (header content : List ℕ) → length header < 2 ^ 32 → IsFramed header content (to_be_bytes w32 (length header) ++ (zeros ++ (header ++ content)))
framed_whole header content lt =
    let size : header_size (to_be_bytes w32 (length header) ++ (zeros ++ (header ++ content))) ≡ length header = from_be_bytes-to_be_bytes_4 (length header) lt in
    record {
      fits = omega (arith, size, length-append header content);
      head = ap (λ n. take n (header ++ content)) size ∙ take_at header content (length header) refl;
      rest = ap (λ n. drop n (header ++ content)) size ∙ drop_at header content (length header) refl;
      gap = refl;
    }

pub framed_parts : (header content bytes : List ℕ) → framed header content ≡ Some bytes → IsFramed header content bytes
framed_parts header content bytes e =
    let p = framed_if (ltb (length header) (2 ^ 32)) _ bytes e in
    subst (λ b. IsFramed header content b) p.1 (framed_whole header content (ltb-true _ _ p.0))

IsBytes-take : (n : ℕ) (bytes : List ℕ) → ((i : ℕ) → get_or bytes i 0 < 256) → (i : ℕ) → get_or (take n bytes) i 0 < 256
IsBytes-take n bytes h i = elim (cases_lt i n) [
  | inl lt ↦ rw (get_or-take n bytes i 0 lt) (h i)
  | inr le ↦ rw (get_or_past (take n bytes) i 0 (omega (arith, length-take n bytes))) (omega arith)
]

pub framed_from : (bytes : List ℕ) → ((i : ℕ) → get_or bytes i 0 < 256) → HeaderFits bytes → take 4 (drop 4 bytes) ≡ zeros → framed (header_part bytes) (content_part bytes) ≡ Some bytes
framed_from bytes range fits zero =
    let small = IsBytes-take 4 bytes range in
    let four : length (take 4 bytes) ≡ 4 = omega (arith, length-take 4 bytes, fits) in
    let front : to_be_bytes w32 (header_size bytes) ≡ take 4 bytes = be_bytes_4 (take 4 bytes) (header_size bytes) four small refl in
    let below : header_size bytes < 2 ^ 32 = omega (arith, small 0, small 1, small 2, small 3) in
    let size : length (header_part bytes) ≡ header_size bytes = omega (arith, length-take (header_size bytes) (drop 8 bytes), length-drop 8 bytes, fits) in
    let rest : header_part bytes ++ content_part bytes ≡ drop 8 bytes = take-append-drop (header_size bytes) (drop 8 bytes) in
    let eight : drop 4 (drop 4 bytes) ≡ drop 8 bytes = drop-drop 4 4 bytes in
    let middle : zeros ++ drop 8 bytes ≡ drop 4 bytes = ap (λ x. x ++ drop 8 bytes) (sym zero) ∙ ap (λ x. take 4 (drop 4 bytes) ++ x) (sym eight) ∙ take-append-drop 4 (drop 4 bytes) in
    let lt : length (header_part bytes) < 2 ^ 32 = omega (arith, size, below) in
    cond-true _ _ _ (lt-ltb _ _ lt)
    ∙ ap Some (ap (λ n. to_be_bytes w32 n ++ (zeros ++ (header_part bytes ++ content_part bytes))) size ∙ ap (λ x. x ++ (zeros ++ (header_part bytes ++ content_part bytes))) front
    ∙ ap (λ x. take 4 bytes ++ (zeros ++ x)) rest ∙ ap (λ x. take 4 bytes ++ x) middle ∙ take-append-drop 4 bytes)

-- a header with its content has these bytes only where it has those of the header's part
pub stream_parts : (content : List ℕ) (h : Header) (bytes : List ℕ) → stream_form content h ≡ Some bytes → (header_form h ≡ Some (header_part bytes)) × IsFramed (header_part bytes) content bytes
stream_parts content h bytes e =
    let p = bind_some (header_form h) (λ header. framed header content) bytes e in
    let f = framed_parts p.0 content bytes p.2 in
    (p.1 ∙ ap Some (sym f.head), subst (λ x. IsFramed x content bytes) (sym f.head) f)

-- a header that was found, or wasn't, in its part of the stream
pub stream_finds : (r : Result Header ObjFault) (bytes : List ℕ) → ((i : ℕ) → get_or bytes i 0 < 256) → HeaderFits bytes → take 4 (drop 4 bytes) ≡ zeros
    → Finds (λ h. h) header_form (header_part bytes) r → Finds (λ h. h) (stream_form (content_part bytes)) bytes r
stream_finds (Ok h) bytes range fits zero found = ap (option_and_then (λ header. framed header (content_part bytes))) found ∙ framed_from bytes range fits zero
stream_finds (Err NotNormal) bytes range fits zero none = λ h e. none h (stream_parts (content_part bytes) h bytes e).0
stream_finds (Err BadSumLength) bytes range fits zero none = absurd none
stream_finds (Err BadName) bytes range fits zero none = absurd none
stream_finds (Err NotSorted) bytes range fits zero none = absurd none
stream_finds (Err BadMode) bytes range fits zero none = absurd none
stream_finds (Err (TooLarge n)) bytes range fits zero none = absurd none
stream_finds (Err NoMemory) bytes range fits zero none = tt

-- four zeros, where a test found nothing else
pub zeros_found : (xs : List ℕ) → false ≡ not (bytes_eq xs zeros) → xs ≡ zeros
zeros_found xs e = (bytes_eq-Decides xs zeros).0 (go (bytes_eq xs zeros) e)
  where
    go : (b : Bool) → false ≡ not b → b ≡ true
    go true e = refl
    go false e = absurd cc
