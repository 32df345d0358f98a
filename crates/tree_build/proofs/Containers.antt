-- How long a container is at most.
use Rattle.std.proofs.Common.{◌≡◌, ℕ, suc, ◌+◌, ◌-◌, ◌*◌, ◌%◌, ◌^◌, ◌<◌, ◌≤◌, Bool, true, false, cond, ltb, List, [], ◌∷◌, ◌++◌, length, Option, Some, None, refl, ap, ap₂, ◌∙◌, arith}
use Rattle.std.specs.Prelude.{option_and_then}
use Rattle.std.specs.Option.{is_some}
use Rattle.std.proofs.lemmas.Bool.{cond-true, lt-ltb}
use Rattle.std.proofs.lemmas.Nat.{mod_below}
use Rattle.std.proofs.lemmas.List.{length-append}
use Rattle.gv_core.specs.Kind.{Kind, array}
use Rattle.gv_core.specs.Measure.{gap, alignment, fixed}
use Rattle.gv_core.specs.Layout.{Part, end_of, body, ends, inner_ends, table, table_back, offset_size, sized, parts, all_fixed, fixed_tuple, tuple_of}
use Rattle.gv_core.specs.Container.{all_sized, container}
use Rattle.gv_core.proofs.Offsets.{length-body, length-table, length-table_back}

-- there are bytes of this form, at most so many
pub record IsWithin (form : Option (List ℕ)) (n : ℕ) : Type 0 where
  pub bytes : List ℕ
  pub is : form ≡ Some bytes
  pub short : length bytes ≤ n

pub within_bind : (form : Option (List ℕ)) (f : List ℕ → Option (List ℕ)) (n m : ℕ) → IsWithin form n → ((x : List ℕ) → length x ≤ n → IsWithin (f x) m) → IsWithin (option_and_then f form) m
within_bind form f n m h g = let r = g h.bytes h.short in record { bytes = r.bytes; is = ap (option_and_then f) h.is ∙ r.is; short = r.short }

pub within_more : (form : Option (List ℕ)) (n m : ℕ) → IsWithin form n → n ≤ m → IsWithin form m
within_more form n m h le = record { bytes = h.bytes; is = h.is; short = let s = h.short in omega (arith, s, le) }

-- ---- members

gap_below : (a n : ℕ) → 0 < a → gap a n < a
gap_below a n some = mod_below (a - n % a) a some

-- the bytes of the members, and before each as many as may lead to where it begins
abbrev pub room : List Part → ℕ
room [] = 0
room (p ∷ ps) = p.align - 1 + length p.bytes + room ps

abbrev pub ArePlaced : List Part → Type 0
ArePlaced [] = Unit {0}
ArePlaced (p ∷ ps) = (0 < p.align) × ArePlaced ps

body_within : (ps : List Part) (n : ℕ) → ArePlaced ps → length (body n ps) ≤ room ps
body_within [] n h = omega arith
body_within (p ∷ ps) n h =
    let e = length-body n p ps in
    let g = gap_below p.align n h.0 in
    let rest = body_within ps (end_of n p) h.1 in
    omega (arith, e, g, rest)

inner_count : (ps : List Part) (n : ℕ) → length (inner_ends n ps) ≤ length ps
inner_count [] n = omega arith
inner_count (p ∷ []) n = omega arith
inner_count (p ∷ q ∷ ps) n = one p.fixed (inner_count (q ∷ ps) (end_of n p))
  where
    one : (f : Bool) → length (inner_ends (end_of n p) (q ∷ ps)) ≤ length (q ∷ ps) → length (cond f (inner_ends (end_of n p) (q ∷ ps)) (end_of n p ∷ inner_ends (end_of n p) (q ∷ ps))) ≤ length (p ∷ q ∷ ps)
    one true h = omega (arith, h)
    one false h = omega (arith, h)

-- ---- offsets

-- an offset has at most four bytes
pub record IsOffset (o : Option ℕ) (m : ℕ) : Type 0 where
  pub size : ℕ
  pub is : o ≡ Some size
  pub all : size * m ≤ 4 * m

choose : (m : ℕ) (a b c : Bool) (o : Option ℕ) → c ≡ true → IsOffset (cond a (Some 1) (cond b (Some 2) (cond c (Some 4) o))) m
choose m true b c o e = record { size = 1; is = refl; all = omega arith }
choose m false true c o e = record { size = 2; is = refl; all = omega arith }
choose m false false true o e = record { size = 4; is = refl; all = omega arith }
choose m false false false o e = absurd cc

offset_within : (n m : ℕ) → n + 4 * m < 2 ^ 32 → IsOffset (offset_size n m) m
unfolding offset_size
offset_within n m lt = choose m (ltb (n + m) (2 ^ 8)) (ltb (n + 2 * m) (2 ^ 16)) (ltb (n + 4 * m) (2 ^ 32)) _ (lt-ltb _ _ lt)

-- ---- tuples

pub tuple_within : (ps : List Part) → all_fixed ps ≡ false → ArePlaced ps → room ps + 4 * length ps < 2 ^ 32 → IsWithin (tuple_of ps) (room ps + 4 * length ps)
tuple_within ps loose placed lt =
    let B = body 0 ps in
    let es = inner_ends 0 ps in
    let b = body_within ps 0 placed in
    let c = inner_count ps 0 in
    let o = offset_within (length B) (length es) (omega (arith, b, c, lt)) in
    record {
      bytes = B ++ table_back o.size es;
      is = ap (λ f. cond f (sized (fixed_tuple ps)) (option_and_then (λ s. Some (B ++ table_back s es)) (offset_size (length B) (length es)))) loose ∙ ap (option_and_then (λ s. Some (B ++ table_back s es))) o.is;
      short = let l = length-append B (table_back o.size es) in let t = length-table_back o.size es in let a = o.all in omega (arith, l, t, a, b, c);
    }

-- ---- arrays

-- the elements, and four bytes for each
abbrev pub held : List (List ℕ) → ℕ
held [] = 0
held (r ∷ rs) = length r + 4 + held rs

abbrev pub plain : List ℕ → Part
plain r = record { align = 1; fixed = false; bytes = r }

plain_placed : (rs : List (List ℕ)) → ArePlaced (parts 1 false rs)
plain_placed [] = tt
plain_placed (r ∷ rs) = (omega arith, plain_placed rs)

plain_room : (rs : List (List ℕ)) → room (parts 1 false rs) + 4 * length rs ≡ held rs
plain_room [] = omega arith
plain_room (r ∷ rs) = let h = plain_room rs in omega (arith, h)

ends_count : (ps : List Part) (n : ℕ) → length (ends n ps) ≡ length ps
ends_count [] n = refl
ends_count (p ∷ ps) n = ap suc (ends_count ps (end_of n p))

parts_count : (a : ℕ) (f : Bool) (rs : List (List ℕ)) → length (parts a f rs) ≡ length rs
parts_count a f [] = refl
parts_count a f (r ∷ rs) = ap suc (parts_count a f rs)

any_sized : (rs : List (List ℕ)) → all_sized None rs ≡ true
any_sized [] = refl
any_sized (r ∷ rs) = any_sized rs

abbrev array_by : Option ℕ → ℕ → List (List ℕ) → Option (List ℕ)
array_by o a rs =
    let ps = parts a (is_some o) rs in
    cond (all_sized o rs) (cond (is_some o) (sized (body 0 ps)) (option_and_then (λ s. Some (body 0 ps ++ table s (ends 0 ps))) (offset_size (length (body 0 ps)) (length rs)))) None

array_is : (k : Kind) (rs : List (List ℕ)) → container (array k) rs ≡ array_by (fixed k) (alignment k) rs
unfolding container
array_is k rs = refl

pub array_within : (k : Kind) (rs : List (List ℕ)) (n : ℕ) → fixed k ≡ None → alignment k ≡ 1 → held rs ≤ n → n < 2 ^ 32 → IsWithin (container (array k) rs) n
array_within k rs n loose plain le lt =
    let ps = parts 1 false rs in
    let B = body 0 ps in
    let es = ends 0 ps in
    let b = body_within ps 0 (plain_placed rs) in
    let r = plain_room rs in
    let o = offset_within (length B) (length rs) (omega (arith, b, r, le, lt)) in
    let c : length es ≡ length rs = ends_count ps 0 ∙ parts_count 1 false rs in
    record {
      bytes = B ++ table o.size es;
      is = array_is k rs ∙ ap₂ (λ f a. array_by f a rs) loose plain ∙ cond-true _ _ _ (any_sized rs) ∙ ap (option_and_then (λ s. Some (B ++ table s es))) o.is;
      short = let l = length-append B (table o.size es) in let t = length-table o.size es ∙ ap (λ m. o.size * m) c in let a = o.all in omega (arith, l, t, a, b, r, le);
    }
