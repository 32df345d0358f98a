-- A tuple or an array that was laid out is cut into its members.
use Rattle.std.proofs.Common.{◌≡◌, ℕ, zero, suc, ◌+◌, ◌-◌, ◌*◌, ◌/◌, ◌^◌, ◌<◌, ◌≤◌, Bool, true, false, cond, ltb, leb, List, [], ◌∷◌, ◌++◌, length, drop, Option, Some, None, refl, sym, ap, ap₂, subst, ◌∙◌, append_assoc, arith, replicate, inl, inr}
use Rattle.std.proofs.Math.Nat.{mul-div_cancel_left}
use Rattle.std.proofs.lemmas.Bool.{lt-ltb, le-ltb, le-leb, cases_Bool, cond-true, cond-false}
use Rattle.std.proofs.lemmas.List.{append-nil, drop_at, length-append}
use Rattle.gv_core.specs.Kind.{Kind, Kinds}
use Rattle.gv_core.specs.Tree.{Trees}
use Rattle.gv_core.specs.Measure.{◌>>=◌, alignment, gap, up}
use Rattle.gv_core.specs.Layout.{Part, end_of, body, ends, inner_ends, all_fixed, widest_of, parts, sized, fixed_tuple, tuple_of, offset_size, table, table_back, le}
use Rattle.gv_core.specs.Reading.{Reader, cut, inner, cut_each, tuple_at, elements, framed, steps_to, last_number, numbers, back_numbers, size_for}
use Rattle.gv_core.proofs.Offsets.{AllBelow, length-body, ends_below, numbers-table, back_numbers-table_back, last_written, table_last, offset_size_found, length-table, length-table_back}
use Rattle.gv_core.proofs.Sizes.{bind_some, some_is, StandAll, sized_is}
use Rattle.gv_core.proofs.Cutting.{ReadsAll, cut_again, ReadsEach, inner_none, inner_below, length-inner_ends, each_again}

fixed_tuple_front : (ps : List Part) → (post : List ℕ) × (fixed_tuple ps ≡ body 0 ps ++ post)
fixed_tuple_front [] = (0 ∷ [], refl)
fixed_tuple_front (p ∷ ps) = (replicate (gap (widest_of (p ∷ ps)) (length (body 0 (p ∷ ps)))) 0, refl)

unframed : (p : Reader) (ks : Kinds) (ts : Trees) (ps : List Part) (bytes : List ℕ) → StandAll ks ps → ReadsEach p ks ts ps → all_fixed ps ≡ true → fixed_tuple ps ≡ bytes → tuple_at p ks bytes (size_for (length bytes)) (inner ks) ≡ Some ts
unframed p ks ts ps bytes stand reads all e =
    let f = fixed_tuple_front ps in
    let is : bytes ≡ body 0 ps ++ f.0 = sym e ∙ f.1 in
    let none : inner_ends 0 ps ≡ [] = inner_none 0 ps all in
    let m : inner ks ≡ 0 = sym (length-inner_ends 0 ks ps stand) ∙ ap length none in
    let s = size_for (length bytes) in
    let le : leb (s * 0) (length bytes) ≡ true = le-leb _ _ (omega arith) in
    let lim : length bytes - s * 0 ≡ length bytes = omega arith in
    let len : length bytes ≡ length (body 0 ps) + length f.0 = ap length is ∙ length-append (body 0 ps) f.0 in
    let go : cut_each p ks bytes (length bytes) 0 (inner_ends 0 ps) ≡ Some ts = each_again p ks ts ps bytes f.0 (length bytes) 0 (omega arith) (omega arith) (omega arith) (inl all) is stand reads in
    let go2 : cut_each p ks bytes (length bytes) 0 [] ≡ Some ts = ap (cut_each p ks bytes (length bytes) 0) (sym none) ∙ go in
    ap (tuple_at p ks bytes s) m ∙ cond-true _ _ _ le ∙ ap (λ x. cut_each p ks bytes x 0 []) lim ∙ go2

with_offsets : (p : Reader) (ks : Kinds) (ts : Trees) (ps : List Part) (s : ℕ) → StandAll ks ps → ReadsEach p ks ts ps → offset_size (length (body 0 ps)) (length (inner_ends 0 ps)) ≡ Some s
    → let bytes = body 0 ps ++ table_back s (inner_ends 0 ps) in tuple_at p ks bytes (size_for (length bytes)) (inner ks) ≡ Some ts
with_offsets p ks ts ps s stand reads chosen =
    let B = body 0 ps in
    let es = inner_ends 0 ps in
    let bytes : List ℕ = B ++ table_back s es in
    let m = length-inner_ends 0 ks ps stand in
    let c = offset_size_found (length B) (length es) s chosen in
    let len : length bytes ≡ length B + s * length es = length-append B (table_back s es) ∙ ap (λ x. length B + x) (length-table_back s es) in
    let size : size_for (length bytes) ≡ s = ap size_for len ∙ c.found in
    let le : leb (s * length es) (length bytes) ≡ true = le-leb _ _ (omega arith) in
    let lim : length bytes - s * length es ≡ length B = omega arith in
    let lb : AllBelow (256 ^ s) es = inner_below 0 (256 ^ s) ps (let h = c.short in omega arith) in
    let nums : back_numbers s (length es) bytes ≡ es = back_numbers-table_back s es B lb in
    let go : cut_each p ks bytes (length B) 0 es ≡ Some ts = each_again p ks ts ps bytes (table_back s es) (length B) 0 (omega arith) (omega arith) (omega arith) (inr (omega arith)) refl stand reads in
    ap₂ (tuple_at p ks bytes) size (sym m) ∙ cond-true _ _ _ le ∙ ap₂ (λ x y. cut_each p ks bytes x 0 y) lim nums ∙ go

pub tuple_again : (p : Reader) (ks : Kinds) (ts : Trees) (ps : List Part) (bytes : List ℕ) → StandAll ks ps → ReadsEach p ks ts ps → tuple_of ps ≡ Some bytes → tuple_at p ks bytes (size_for (length bytes)) (inner ks) ≡ Some ts
tuple_again p ks ts ps bytes stand reads e =
    let framed_case : Option (List ℕ) = offset_size (length (body 0 ps)) (length (inner_ends 0 ps)) >>= λ s. Some (body 0 ps ++ table_back s (inner_ends 0 ps)) in
    elim (cases_Bool (all_fixed ps)) [
      | inl all ↦ unframed p ks ts ps bytes stand reads all (sized_is (fixed_tuple ps) bytes (sym (cond-true (all_fixed ps) (sized (fixed_tuple ps)) framed_case all) ∙ e))
      | inr some ↦
          let e2 : framed_case ≡ Some bytes = sym (cond-false (all_fixed ps) (sized (fixed_tuple ps)) framed_case some) ∙ e in
          let q = bind_some (offset_size (length (body 0 ps)) (length (inner_ends 0 ps))) (λ s. Some (body 0 ps ++ table_back s (inner_ends 0 ps))) bytes e2 in
          subst (λ (x : List ℕ). tuple_at p ks x (size_for (length x)) (inner ks) ≡ Some ts) (some_is (body 0 ps ++ table_back q.0 (inner_ends 0 ps)) bytes q.2) (with_offsets p ks ts ps q.0 stand reads q.1)
    ]

-- ---- arrays

-- each has n bytes
abbrev pub AllSize : ℕ → List (List ℕ) → Type 0
AllSize n [] = Unit {0}
AllSize n (r ∷ rs) = (length r ≡ n) × AllSize n rs

steps_to_ends : (fuel a n pos end : ℕ) (f : Bool) (rs : List (List ℕ)) → 0 < n → AllSize n rs → pos + length (body pos (parts a f rs)) ≡ end → end ≤ fuel + pos → steps_to fuel a n pos end ≡ ends pos (parts a f rs)
steps_to_ends zero a n pos end f [] pn all e le = refl
steps_to_ends (suc fuel) a n pos end f [] pn all e le = cond-false _ _ _ (le-ltb pos end (omega arith))
steps_to_ends zero a n pos end f (r ∷ rs) pn all e le =
    let lb = length-body pos (record { align = a; fixed = f; bytes = r }) (parts a f rs) in
    let h = all.0 in
    absurd (omega arith)
steps_to_ends (suc fuel) a n pos end f (r ∷ rs) pn all e le =
    let q : Part = record { align = a; fixed = f; bytes = r } in
    let lb = length-body pos q (parts a f rs) in
    let h = all.0 in
    let k : up a pos + n ≡ end_of pos q = omega arith in
    let ih : steps_to fuel a n (end_of pos q) end ≡ ends (end_of pos q) (parts a f rs) = steps_to_ends fuel a n (end_of pos q) end f rs pn all.1 (omega arith) (omega arith) in
    cond-true _ _ _ (lt-ltb pos end (omega arith)) ∙ ap (λ x. x ∷ steps_to fuel a n x end) k ∙ ap (λ x. end_of pos q ∷ x) ih

pub same_size : (p : Reader) (k : Kind) (n : ℕ) (ts : Trees) (rs : List (List ℕ)) (bytes : List ℕ) → 0 < n → AllSize n rs → ReadsAll p k ts rs → body 0 (parts (alignment k) true rs) ≡ bytes → elements p k (Some n) bytes ≡ Some ts
same_size p k n ts rs bytes pn all reads e =
    let a = alignment k in
    let L = length bytes in
    let lb : length (body 0 (parts a true rs)) ≡ L = ap length e in
    let st : steps_to L a n 0 L ≡ ends 0 (parts a true rs) = steps_to_ends L a n 0 L true rs pn all (omega arith) (omega arith) in
    rw st (cut_again p k true ts rs bytes [] L 0 (omega arith) (omega arith) (omega arith) (sym e ∙ sym (append-nil (body 0 (parts a true rs)))) reads)

elements_framed : (p : Reader) (k : Kind) (bytes : List ℕ) → 0 < length bytes → elements p k None bytes ≡ framed p k bytes (size_for (length bytes))
elements_framed p k [] lt = absurd (omega arith)
elements_framed p k (c ∷ cs) lt = refl

length-ends : (n a : ℕ) (f : Bool) (rs : List (List ℕ)) → length (ends n (parts a f rs)) ≡ length rs
length-ends n a f [] = refl
length-ends n a f (r ∷ rs) = ap suc (length-ends (end_of n (record { align = a; fixed = f; bytes = r })) a f rs)

pub own_size : (p : Reader) (k : Kind) (s : ℕ) (ts : Trees) (r : List ℕ) (rs : List (List ℕ)) → ReadsAll p k ts (r ∷ rs)
    → let ps = parts (alignment k) false (r ∷ rs) in let bytes = body 0 ps ++ table s (ends 0 ps) in offset_size (length (body 0 ps)) (length (r ∷ rs)) ≡ Some s → elements p k None bytes ≡ Some ts
own_size p k s ts r rs reads chosen =
    let a = alignment k in
    let q : Part = record { align = a; fixed = false; bytes = r } in
    let ps = parts a false (r ∷ rs) in
    let B = body 0 ps in
    let es = ends 0 ps in
    let m = length (r ∷ rs) in
    let bytes : List ℕ = B ++ table s es in
    let c = offset_size_found (length B) m s chosen in
    let cm : length es ≡ m = length-ends 0 a false (r ∷ rs) in
    let len : length bytes ≡ length B + s * m = length-append B (table s es) ∙ ap (λ x. length B + x) (length-table s es ∙ ap (λ x. s * x) cm) in
    let size : size_for (length bytes) ≡ s = ap size_for len ∙ c.found in
    let some : 0 < s * m = let h = c.positive in grind arith in
    let last = table_last s 0 q (parts a false rs) in
    let split : bytes ≡ (B ++ last.0) ++ le s (length B) = ap (λ (x : List ℕ). B ++ x) (last.1 ∙ ap (λ z. last.0 ++ le s z) (let z : 0 + length B ≡ length B = omega arith in z)) ∙ sym (append_assoc B last.0 (le s (length B))) in
    let lim : last_number s bytes ≡ length B = ap (last_number s) split ∙ last_written s (length B) (B ++ last.0) (let h = c.short in omega arith) in
    let lt : ltb (length B) (length bytes) ≡ true = lt-ltb _ _ (omega arith) in
    let count : (length bytes - length B) / s ≡ m = let z : length bytes - length B ≡ s * m = omega arith in ap (λ x. x / s) z ∙ mul-div_cancel_left m c.positive in
    let rest : drop (length B) bytes ≡ table s es = drop_at B (table s es) (length B) refl in
    let lb : AllBelow (256 ^ s) es = ends_below 0 (256 ^ s) ps (let h = c.short in omega arith) in
    let nums : numbers s ((length bytes - length B) / s) (drop (length B) bytes) ≡ es = ap₂ (numbers s) (count ∙ sym cm) rest ∙ numbers-table s es lb in
    let go : cut p k bytes (length B) 0 es ≡ Some ts = cut_again p k false ts (r ∷ rs) bytes (table s es) (length B) 0 (omega arith) (omega arith) (omega arith) refl reads in
    let unlimited = λ (x : ℕ). cond (ltb x (length bytes)) (cut p k bytes x 0 (numbers s ((length bytes - x) / s) (drop x bytes))) None in
    elements_framed p k bytes (omega arith) ∙ ap (framed p k bytes) size ∙ ap unlimited lim ∙ cond-true _ _ _ lt ∙ ap (cut p k bytes (length B) 0) nums ∙ go

abbrev pub Sized : Option ℕ → List (List ℕ) → Type 0
Sized (Some n) rs = (0 < n) × AllSize n rs
Sized None rs = Unit {0}
