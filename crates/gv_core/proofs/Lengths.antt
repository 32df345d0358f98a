-- How long a container grows, member by member.
use Rattle.std.proofs.Common.{◌≡◌, ℕ, suc, ◌+◌, ◌*◌, ◌^◌, ◌<◌, ◌≤◌, Bool, true, false, cond, ltb, eqb, List, [], ◌∷◌, ◌++◌, length, replicate, Option, Some, None, refl, sym, ap, ap₂, ◌∙◌, arith}
use Rattle.std.specs.Prelude.{option_and_then, option_map, ◌&&◌, ◌||◌}
use Rattle.std.specs.Option.{is_some}
use Rattle.std.proofs.lemmas.Bool.{cond-true, cond-false, lt-ltb, le-ltb, eq-eqb, ltb-true, ltb-false, false≢true}
use Rattle.std.proofs.lemmas.List.{length-append, length-replicate}
use Rattle.std.specs.Str.{is_utf8}
use Rattle.std.proofs.Common.{◌⊎◌, inl, inr}
use Rattle.gv_core.specs.declared.kind.Basic.{Basic}
use Rattle.gv_core.specs.declared.kind.Basic.TheVariants as b
use Rattle.gv_core.specs.Kind.{Kind, basic, tuple}
use Rattle.gv_core.specs.Text.{no_zero}
use Rattle.gv_core.specs.Tree.{Trees, leaf, str, double}
use Rattle.gv_core.specs.Node.{kinds_of}
use Rattle.gv_core.specs.Measure.{gap, up, alignment, fixed}
use Rattle.gv_core.specs.Layout.{Part, end_of, body, ends, inner_ends, all_fixed, widest_of, fixed_tuple, tuple_of, array_of, parts, sized, text_bytes, offset_size, table, table_back, layout, members}
use Rattle.gv_core.specs.Gives.{padded_to, with_table_back, short}
use Rattle.gv_core.proofs.Offsets.{length-body, length-table, length-table_back}
use Rattle.gv_core.proofs.Sizes.{all_stand}
use Rattle.gv_core.proofs.Pushing.{padded, body_push, parts_push, length-ends, with_first, total_step, total_start, total_none, total_end}
use Rattle.gv_core.proofs.Cells.{noted, noted_push, inner_push, tuple_with}

-- ---- what is too long has no form

pub sized_long : (x : List ℕ) → 2 ^ 64 ≤ length x → sized x ≡ None
sized_long x le = cond-false _ _ _ (le-ltb (length x) (2 ^ 64) le)

pub sized_short : (x : List ℕ) → length x < 2 ^ 64 → sized x ≡ Some x
sized_short x lt = cond-true _ _ _ (lt-ltb (length x) (2 ^ 64) lt)

pub offset_long : (n m : ℕ) → 2 ^ 64 ≤ n → offset_size n m ≡ None
unfolding offset_size
offset_long n m le =
    cond-false _ _ _ (le-ltb (n + m) (2 ^ 8) (omega arith)) ∙ cond-false _ _ _ (le-ltb (n + 2 * m) (2 ^ 16) (omega arith))
    ∙ cond-false _ _ _ (le-ltb (n + 4 * m) (2 ^ 32) (omega arith)) ∙ cond-false _ _ _ (le-ltb (n + 8 * m) (2 ^ 64) (omega arith))

body_longer : (ps qs : List Part) (n : ℕ) → length (body n ps) ≤ length (body n (ps ++ qs))
body_longer [] qs n = omega arith
body_longer (p ∷ ps) qs n =
    let a = length-body n p ps in
    let b = length-body n p (ps ++ qs) in
    let ih = body_longer ps qs (end_of n p) in
    omega arith

length-push : (ps : List Part) (p : Part) → length (body 0 (ps ++ p ∷ [])) ≡ up p.align (length (body 0 ps)) + length p.bytes
length-push ps p =
    let B = body 0 ps in
    let z : 0 + length B ≡ length B = omega arith in
    let g = gap p.align (length B) in
    let len : length (padded (length B) p) ≡ g + length p.bytes = length-append (replicate g 0) p.bytes ∙ ap (λ x. x + length p.bytes) (length-replicate g 0) in
    let all : length (body 0 (ps ++ p ∷ [])) ≡ length B + length (padded (length B) p) = ap length (body_push ps 0 p ∙ ap (λ m. B ++ padded m p) z) ∙ length-append B (padded (length B) p) in
    omega arith

short_if : (b : Bool) (n : ℕ) → None ≡ cond b (Some n) None → b ≡ false
short_if true n e = absurd cc
short_if false n e = refl

pub short_none : (n : ℕ) → None ≡ short n → 2 ^ 64 ≤ n
short_none n e = ltb-false _ _ (short_if (ltb n (2 ^ 64)) n e)

-- ---- arrays

pub record Spans (k : Kind) (f : Bool) (end n m : ℕ) (left total : Option (List (List ℕ))) : Type 0 where
  pub done : List (List ℕ)
  pub end_is : end ≡ length (body 0 (parts (alignment k) f done))
  pub counted : length done + n ≡ m
  pub total_is : option_map (λ rest. done ++ rest) left ≡ total

pub spans_init : (k : Kind) (f : Bool) (n : ℕ) (left : Option (List (List ℕ))) → Spans k f 0 n n left left
spans_init k f n left = record { done = []; end_is = refl; counted = omega arith; total_is = total_start left }

pub spans_next : (k : Kind) (f : Bool) (end end2 n n2 m len : ℕ) (left rest total : Option (List (List ℕ))) (r : List ℕ) → (inv : Spans k f end n m left total) → left ≡ with_first r rest → n ≡ suc n2 → len ≡ length r → end2 ≡ up (alignment k) end + len
    → Spans k f end2 n2 m rest total
spans_next k f end end2 n n2 m len left rest total r inv e ne le ee =
    let p : Part = record { align = alignment k; fixed = f; bytes = r } in
    let ct = inv.counted in
    let one : length (inv.done ++ r ∷ []) ≡ length inv.done + 1 = length-append inv.done (r ∷ []) in
    record {
      done = inv.done ++ r ∷ [];
      end_is = ee ∙ ap₂ (λ x y. up (alignment k) x + y) inv.end_is le ∙ sym (ap (λ ps. length (body 0 ps)) (parts_push (alignment k) f inv.done r) ∙ length-push (parts (alignment k) f inv.done) p);
      counted = omega arith;
      total_is = sym (total_step inv.done r rest) ∙ ap (option_map (λ x. inv.done ++ x)) (sym e) ∙ inv.total_is;
    }

array_long : (k : Kind) (f : Bool) (rs : List (List ℕ)) → is_some (fixed k) ≡ f → 2 ^ 64 ≤ length (body 0 (parts (alignment k) f rs)) → array_of k rs ≡ None
array_long k true rs e le =
    ap (λ f. cond f (sized (body 0 (parts (alignment k) f rs))) (option_and_then (λ s. Some (body 0 (parts (alignment k) f rs) ++ table s (ends 0 (parts (alignment k) f rs)))) (offset_size (length (body 0 (parts (alignment k) f rs))) (length rs)))) e
    ∙ sized_long (body 0 (parts (alignment k) true rs)) le
array_long k false rs e le =
    ap (λ f. cond f (sized (body 0 (parts (alignment k) f rs))) (option_and_then (λ s. Some (body 0 (parts (alignment k) f rs) ++ table s (ends 0 (parts (alignment k) f rs)))) (offset_size (length (body 0 (parts (alignment k) f rs))) (length rs)))) e
    ∙ ap (option_and_then (λ s. Some (body 0 (parts (alignment k) false rs) ++ table s (ends 0 (parts (alignment k) false rs))))) (offset_long (length (body 0 (parts (alignment k) false rs))) (length rs) le)

parts_append : (a : ℕ) (f : Bool) (xs ys : List (List ℕ)) → parts a f (xs ++ ys) ≡ parts a f xs ++ parts a f ys
parts_append a f [] ys = refl
parts_append a f (x ∷ xs) ys = ap (λ (z : List Part). (record { align = a; fixed = f; bytes = x }) ∷ z) (parts_append a f xs ys)

long_rest : (k : Kind) (done : List (List ℕ)) (r : List ℕ) (rest : Option (List (List ℕ))) → 2 ^ 64 ≤ length (body 0 (parts (alignment k) (is_some (fixed k)) (done ++ r ∷ [])))
    → option_and_then (array_of k) (option_map (λ x. (done ++ r ∷ []) ++ x) rest) ≡ None
long_rest k done r None le = refl
long_rest k done r (Some rs) le =
    let f = is_some (fixed k) in
    let ps = parts (alignment k) f (done ++ r ∷ []) in
    let more = body_longer ps (parts (alignment k) f rs) 0 in
    let all : length (body 0 (parts (alignment k) f ((done ++ r ∷ []) ++ rs))) ≡ length (body 0 (ps ++ parts (alignment k) f rs)) = ap (λ z. length (body 0 z)) (parts_append (alignment k) f (done ++ r ∷ []) rs) in
    array_long k f ((done ++ r ∷ []) ++ rs) refl (omega arith)

pub spans_long : (k : Kind) (end n m len : ℕ) (left rest total : Option (List (List ℕ))) (r : List ℕ) → (inv : Spans k (is_some (fixed k)) end n m left total) → left ≡ with_first r rest → len ≡ length r → None ≡ short (up (alignment k) end + len)
    → None ≡ option_map length (option_and_then (array_of k) total)
spans_long k end n m len left rest total r inv e le s =
    let f = is_some (fixed k) in
    let p : Part = record { align = alignment k; fixed = f; bytes = r } in
    let big = short_none (up (alignment k) end + len) s in
    let grown : length (body 0 (parts (alignment k) f (inv.done ++ r ∷ []))) ≡ up (alignment k) end + len =
    ap (λ ps. length (body 0 ps)) (parts_push (alignment k) f inv.done r) ∙ length-push (parts (alignment k) f inv.done) p ∙ ap₂ (λ x y. up (alignment k) x + y) (sym inv.end_is) (sym le) in
    let t : total ≡ option_map (λ x. (inv.done ++ r ∷ []) ++ x) rest = sym inv.total_is ∙ ap (option_map (λ x. inv.done ++ x)) e ∙ total_step inv.done r rest in
    sym (ap (λ o. option_map length (option_and_then (array_of k) o)) t ∙ ap (option_map length) (long_rest k inv.done r rest (omega arith)))

pub spans_none : (k : Kind) (f : Bool) (end n m : ℕ) (left total : Option (List (List ℕ))) → (inv : Spans k f end n m left total) → left ≡ None → None ≡ option_map length (option_and_then (array_of k) total)
spans_none k f end n m left total inv e = sym (ap (λ o. option_map length (option_and_then (array_of k) o)) (total_none inv.done left total inv.total_is e))

-- the length of an array of these elements
abbrev pub array_span : Bool → ℕ → ℕ → Option ℕ
array_span f end m = cond f (Some end) (option_map (λ s. end + s * m) (offset_size end m))

offsets_span : (B es : List ℕ) (m : ℕ) (o : Option ℕ) → length es ≡ m → option_map (λ s. length B + s * m) o ≡ option_map length (option_and_then (λ s. Some (B ++ table s es)) o)
offsets_span B es m None e = refl
offsets_span B es m (Some s) e = ap Some (sym (length-append B (table s es) ∙ ap (λ x. length B + x) (length-table s es ∙ ap (λ x. s * x) e)))

array_span_is : (k : Kind) (f : Bool) (rs : List (List ℕ)) → is_some (fixed k) ≡ f → length (body 0 (parts (alignment k) f rs)) < 2 ^ 64
    → array_span f (length (body 0 (parts (alignment k) f rs))) (length rs) ≡ option_map length (array_of k rs)
array_span_is k true rs e lt =
    sym (ap (option_map length) (ap (λ f. cond f (sized (body 0 (parts (alignment k) f rs))) (option_and_then (λ s. Some (body 0 (parts (alignment k) f rs) ++ table s (ends 0 (parts (alignment k) f rs)))) (offset_size (length (body 0 (parts (alignment k) f rs))) (length rs)))) e
    ∙ sized_short (body 0 (parts (alignment k) true rs)) lt))
array_span_is k false rs e lt =
    let ps = parts (alignment k) false rs in
    offsets_span (body 0 ps) (ends 0 ps) (length rs) (offset_size (length (body 0 ps)) (length rs)) (length-ends (alignment k) false 0 rs)
    ∙ sym (ap (option_map length) (ap (λ f. cond f (sized (body 0 (parts (alignment k) f rs))) (option_and_then (λ s. Some (body 0 (parts (alignment k) f rs) ++ table s (ends 0 (parts (alignment k) f rs)))) (offset_size (length (body 0 (parts (alignment k) f rs))) (length rs)))) e))

pub spans_end : (k : Kind) (end n m : ℕ) (left total : Option (List (List ℕ))) → (inv : Spans k (is_some (fixed k)) end n m left total) → left ≡ Some [] → n ≡ 0 → end < 2 ^ 64
    → array_span (is_some (fixed k)) end m ≡ option_map length (option_and_then (array_of k) total)
spans_end k end n m left total inv e z lt =
    let f = is_some (fixed k) in
    let ct = inv.counted in
    let count : m ≡ length inv.done = omega arith in
    let ei = inv.end_is in
    let small : length (body 0 (parts (alignment k) f inv.done)) < 2 ^ 64 = omega arith in
    ap₂ (array_span f) inv.end_is count ∙ array_span_is k f inv.done refl small ∙ ap (λ o. option_map length (option_and_then (array_of k) o)) (sym (total_end inv.done left total inv.total_is e))

-- ---- tuples

pub record CellSpans (end count : ℕ) (last : Bool) (left total : Option (List Part)) : Type 0 where
  pub done : List Part
  pub end_is : end ≡ length (body 0 done)
  pub count_is : count ≡ length (cond last (inner_ends 0 done) (noted 0 done))
  pub total_is : option_map (λ rest. done ++ rest) left ≡ total

pub cell_spans_init : (left : Option (List Part)) → CellSpans 0 0 false left left
cell_spans_init left = record { done = []; end_is = refl; count_is = refl; total_is = total_start left }

one_more : (es : List ℕ) (e : ℕ) → length es + 1 ≡ length (es ++ e ∷ [])
one_more es e = sym (length-append es (e ∷ []))

count_next : (last f : Bool) (done : List Part) (p : Part) (count count2 : ℕ) → p.fixed ≡ f → count ≡ length (noted 0 done) → count2 ≡ count + cond (f || last) 0 1
    → count2 ≡ length (cond last (inner_ends 0 (done ++ p ∷ [])) (noted 0 (done ++ p ∷ [])))
count_next true true done p count count2 h g r = r ∙ (let z : count + 0 ≡ count = omega arith in z) ∙ g ∙ sym (ap length (inner_push done 0 p))
count_next true false done p count count2 h g r = r ∙ (let z : count + 0 ≡ count = omega arith in z) ∙ g ∙ sym (ap length (inner_push done 0 p))
count_next false true done p count count2 h g r =
    r ∙ (let z : count + 0 ≡ count = omega arith in z) ∙ g ∙ sym (ap length (noted_push done 0 p ∙ ap (λ b. cond b (noted 0 done) (noted 0 done ++ (end_of (0 + length (body 0 done)) p) ∷ [])) h))
count_next false false done p count count2 h g r =
    r ∙ ap (λ x. x + 1) g ∙ one_more (noted 0 done) (end_of (0 + length (body 0 done)) p)
    ∙ sym (ap length (noted_push done 0 p ∙ ap (λ b. cond b (noted 0 done) (noted 0 done ++ (end_of (0 + length (body 0 done)) p) ∷ [])) h))

pub cell_spans_next : (last f : Bool) (end end2 count count2 len : ℕ) (p : Part) (left rest total : Option (List Part)) → (inv : CellSpans end count false left total) → left ≡ with_first p rest → p.fixed ≡ f → len ≡ length p.bytes
    → end2 ≡ up p.align end + len → count2 ≡ count + cond (f || last) 0 1 → CellSpans end2 count2 last rest total
cell_spans_next last f end end2 count count2 len p left rest total inv e fe le ee ce = record {
  done = inv.done ++ p ∷ [];
  end_is = ee ∙ ap₂ (λ x y. up p.align x + y) inv.end_is le ∙ sym (length-push inv.done p);
  count_is = count_next last f inv.done p count count2 fe inv.count_is ce;
  total_is = sym (total_step inv.done p rest) ∙ ap (option_map (λ x. inv.done ++ x)) (sym e) ∙ inv.total_is;
}

fixed_longer : (ps : List Part) → length (body 0 ps) ≤ length (fixed_tuple ps)
fixed_longer [] = omega arith
fixed_longer (p ∷ ps) =
    let pad : List ℕ = replicate (gap (widest_of (p ∷ ps)) (length (body 0 (p ∷ ps)))) 0 in
    let h = length-append (body 0 (p ∷ ps)) pad in
    omega arith

tuple_long : (b : Bool) (ps : List Part) → all_fixed ps ≡ b → 2 ^ 64 ≤ length (body 0 ps) → tuple_of ps ≡ None
tuple_long true ps e le =
    let h = fixed_longer ps in
    cond-true _ _ _ e ∙ sized_long (fixed_tuple ps) (omega arith)
tuple_long false ps e le =
    cond-false _ _ _ e ∙ ap (option_and_then (λ s. Some (body 0 ps ++ table_back s (inner_ends 0 ps)))) (offset_long (length (body 0 ps)) (length (inner_ends 0 ps)) le)

long_cells : (done : List Part) (p : Part) (rest : Option (List Part)) → 2 ^ 64 ≤ length (body 0 (done ++ p ∷ [])) → option_and_then tuple_of (option_map (λ x. (done ++ p ∷ []) ++ x) rest) ≡ None
long_cells done p None le = refl
long_cells done p (Some ps) le =
    let more = body_longer (done ++ p ∷ []) ps 0 in
    tuple_long (all_fixed ((done ++ p ∷ []) ++ ps)) ((done ++ p ∷ []) ++ ps) refl (omega arith)

pub cell_spans_long : (end count len : ℕ) (last : Bool) (p : Part) (left rest total : Option (List Part)) → (inv : CellSpans end count last left total) → left ≡ with_first p rest → len ≡ length p.bytes → None ≡ short (up p.align end + len)
    → None ≡ option_map length (option_and_then tuple_of total)
cell_spans_long end count len last p left rest total inv e le s =
    let big = short_none (up p.align end + len) s in
    let grown : length (body 0 (inv.done ++ p ∷ [])) ≡ up p.align end + len = length-push inv.done p ∙ ap₂ (λ x y. up p.align x + y) (sym inv.end_is) (sym le) in
    let t : total ≡ option_map (λ x. (inv.done ++ p ∷ []) ++ x) rest = sym inv.total_is ∙ ap (option_map (λ x. inv.done ++ x)) e ∙ total_step inv.done p rest in
    sym (ap (λ o. option_map length (option_and_then tuple_of o)) t ∙ ap (option_map length) (long_cells inv.done p rest (omega arith)))

pub cell_spans_none : (end count : ℕ) (last : Bool) (left total : Option (List Part)) → (inv : CellSpans end count last left total) → left ≡ None → None ≡ option_map length (option_and_then tuple_of total)
cell_spans_none end count last left total inv e = sym (ap (λ o. option_map length (option_and_then tuple_of o)) (total_none inv.done left total inv.total_is e))

-- the length of a tuple of these members
abbrev pub tuple_span : Bool → ℕ → ℕ → ℕ → Option ℕ
tuple_span f a end m = cond f (short (up a end + 0)) (option_map (λ s. end + s * m) (offset_size end m))

back_span : (B es : List ℕ) (o : Option ℕ) → option_map (λ s. length B + s * length es) o ≡ option_map length (option_and_then (λ s. Some (B ++ table_back s es)) o)
back_span B es None = refl
back_span B es (Some s) = ap Some (sym (length-append B (table_back s es) ∙ ap (λ x. length B + x) (length-table_back s es)))

sized_if : (b : Bool) (x : List ℕ) → cond b (Some (length x)) None ≡ option_map length (cond b (Some x) None)
sized_if true x = refl
sized_if false x = refl

sized_span : (x : List ℕ) → short (length x) ≡ option_map length (sized x)
sized_span x = sized_if (ltb (length x) (2 ^ 64)) x

tuple_span_is : (f : Bool) (a : ℕ) (B es : List ℕ) → tuple_span f a (length B) (length es) ≡ option_map length (cond f (sized (padded_to a B)) (with_table_back B es))
tuple_span_is true a B es =
    let g = gap a (length B) in
    let len : length (padded_to a B) ≡ up a (length B) + 0 = length-append B (replicate g 0) ∙ ap (λ x. length B + x) (length-replicate g 0) ∙ (let z : length B + g ≡ up a (length B) + 0 = omega arith in z) in
    ap short (sym len) ∙ sized_span (padded_to a B)
tuple_span_is false a B es = back_span B es (offset_size (length B) (length es))

pub cell_spans_end : (k : Kind) (ks : List Kind) (ts : Trees) (end count : ℕ) (left : Option (List Part)) → (inv : CellSpans end count true left (members ts (kinds_of (k ∷ ks)))) → left ≡ Some []
    → tuple_span (is_some (fixed (tuple (kinds_of (k ∷ ks))))) (alignment (tuple (kinds_of (k ∷ ks)))) end count ≡ option_map length (option_and_then tuple_of (members ts (kinds_of (k ∷ ks))))
cell_spans_end k ks ts end count left inv e =
    let K = kinds_of (k ∷ ks) in
    let f = is_some (fixed (tuple K)) in
    let a = alignment (tuple K) in
    let t : members ts K ≡ Some inv.done = total_end inv.done left (members ts K) inv.total_is e in
    let stand = all_stand ts K inv.done t in
    ap₂ (tuple_span f a) inv.end_is inv.count_is ∙ tuple_span_is f a (body 0 inv.done) (inner_ends 0 inv.done)
    ∙ ap (option_map length) (tuple_with k (kinds_of ks) inv.done stand) ∙ ap (λ o. option_map length (option_and_then tuple_of o)) (sym t)

pub cell_spans_end_of : (ks : List Kind) (ts : Trees) (end count : ℕ) (left : Option (List Part)) → (inv : CellSpans end count true left (members ts (kinds_of ks))) → eqb (length ks) 0 ≡ false → left ≡ Some []
    → tuple_span (is_some (fixed (tuple (kinds_of ks)))) (alignment (tuple (kinds_of ks))) end count ≡ option_map length (option_and_then tuple_of (members ts (kinds_of ks)))
cell_spans_end_of [] ts end count left inv some e = absurd (false≢true (sym some))
cell_spans_end_of (k ∷ ks) ts end count left inv some e = cell_spans_end k ks ts end count left inv e

-- ---- what a length says

pub length_some : (o : Option (List ℕ)) (n : ℕ) → Some n ≡ option_map length o → (r : List ℕ) × (o ≡ Some r) × (n ≡ length r)
length_some None n e = absurd cc
length_some (Some r) n e = (r, refl, (let z : n ≡ length r = cc in z))

pub length_none : (o : Option (List ℕ)) → None ≡ option_map length o → o ≡ None
length_none None e = refl
length_none (Some r) e = absurd cc

short_then : (b : Bool) (n m : ℕ) → Some m ≡ cond b (Some n) None → m ≡ n
short_then true n m e = cc
short_then false n m e = absurd cc

pub short_some : (n m : ℕ) → Some m ≡ short n → m ≡ n
short_some n m e = short_then (ltb n (2 ^ 64)) n m e

pub offset_small : (b : Bool) → cond b 0 1 ≤ 1
offset_small true = omega arith
offset_small false = omega arith

small_then : (b : Bool) (n m : ℕ) → ltb n (2 ^ 64) ≡ b → Some m ≡ cond b (Some n) None → m < 2 ^ 64
small_then true n m t e = let h = ltb-true _ _ t in let z : m ≡ n = cc in omega arith
small_then false n m t e = absurd cc

pub short_small : (n m : ℕ) → Some m ≡ short n → m < 2 ^ 64
short_small n m e = small_then (ltb n (2 ^ 64)) n m refl e

-- ---- leaves

text_long : (t : List ℕ) → (is_utf8 t && no_zero t) ≡ true → Some (length t + 1) ≡ option_map length (text_bytes t)
text_long t e = ap Some (sym (length-append t (0 ∷ []))) ∙ sym (ap (option_map length) (cond-true _ _ _ e))

pub text_length : (t : List ℕ) (x : Basic) → (x ≡ b.Text) ⊎ ((x ≡ b.Path) ⊎ (x ≡ b.Signature)) → (is_utf8 t && no_zero t) ≡ true → Some (length t + 1) ≡ option_map length (layout (leaf (str t)) (basic x))
unfolding layout
text_length t x (inl h) e = text_long t e ∙ sym (ap (λ x. option_map length (layout (leaf (str t)) (basic x))) h)
text_length t x (inr (inl h)) e = text_long t e ∙ sym (ap (λ x. option_map length (layout (leaf (str t)) (basic x))) h)
text_length t x (inr (inr h)) e = text_long t e ∙ sym (ap (λ x. option_map length (layout (leaf (str t)) (basic x))) h)

pub double_length : (d : List ℕ) → length d ≡ 8 → Some (length d) ≡ option_map length (layout (leaf (double d)) (basic b.Double))
unfolding layout
double_length d e = sym (ap (option_map length) (cond-true _ _ _ (eq-eqb _ _ e)))
