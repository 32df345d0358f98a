-- Bytes that are the normal form of a value are read as that value.
use Rattle.std.proofs.Common.{◌≡◌, ℕ, zero, suc, ◌+◌, ◌-◌, ◌<◌, ◌≤◌, max, Bool, true, false, cond, eqb, List, [], ◌∷◌, ◌++◌, length, take, Option, Some, None, refl, sym, ap, subst, ◌∙◌, arith, inl, inr}
use Rattle.std.specs.Prelude.{option_map, option_and_then}
use Rattle.std.specs.Option.{is_some}
use Rattle.std.proofs.lemmas.Bool.{eqb-true, cond-false, cases_Bool}
use Rattle.std.proofs.lemmas.List.{take_at, length-append}
use Rattle.gv_core.specs.declared.kind.Basic.{Basic}
use Rattle.gv_core.specs.declared.kind.Basic.TheVariants as b
use Rattle.gv_core.specs.Kind.{Kind, Kinds, basic, variant, array, maybe, tuple, entry, no_kinds, kind, Item, read_letter, items_at, only, kind_of, variant_kind, good_depth}
use Rattle.gv_core.specs.Tree.{Leaf, Tree, Trees, tree, no_trees, leaf}
use Rattle.gv_core.specs.Tree as t
use Rattle.gv_core.specs.Measure.{◌>>=◌, basic_alignment, basic_size, alignment, fixed, fixed_end, widest, up}
use Rattle.gv_core.specs.Layout.{Part, body, ends, table, offset_size, sized, just_of, parts, array_of, tuple_of, part, layout, rows, members, nests, nest}
use Rattle.gv_core.specs.Reading.{Reader, elements, front, maybe_at, split_more, split_last, pair, as_pair, parse}
use Rattle.gv_core.proofs.Sizes.{bind_some, map_some, some_is, none_some, StandAll, size_of, all_stand, sized_is}
use Rattle.gv_core.proofs.Cutting.{ReadsAll, ReadsEach}
use Rattle.gv_core.proofs.Containers.{tuple_again, AllSize, Sized, same_size, own_size}
use Rattle.gv_core.proofs.Leaves.{leaf_again}

-- ---- a fixed size is positive

basic_positive : (x : Basic) (n : ℕ) → basic_size x ≡ Some n → 0 < n
basic_positive b.Byte n e = let h = some_is 1 n e in omega arith
basic_positive b.Bool n e = let h = some_is 1 n e in omega arith
basic_positive b.I16 n e = let h = some_is 2 n e in omega arith
basic_positive b.U16 n e = let h = some_is 2 n e in omega arith
basic_positive b.I32 n e = let h = some_is 4 n e in omega arith
basic_positive b.U32 n e = let h = some_is 4 n e in omega arith
basic_positive b.I64 n e = let h = some_is 8 n e in omega arith
basic_positive b.U64 n e = let h = some_is 8 n e in omega arith
basic_positive b.Handle n e = let h = some_is 4 n e in omega arith
basic_positive b.Double n e = let h = some_is 8 n e in omega arith
basic_positive x n e = none_some n (0 < n) e

mutual
  unfolding fixed alignment

  pub fixed_positive : (k : Kind) (n : ℕ) → fixed k ≡ Some n → 0 < n
  fixed_positive (basic x) n e = basic_positive x n e
  fixed_positive (tuple no_kinds) n e = let h = some_is 1 n e in omega arith
  fixed_positive (tuple (kind k ks)) n e =
      let p = map_some (up (widest (kind k ks))) (fixed_end 0 (kind k ks)) n e in
      let q = bind_some (fixed k) (λ m. fixed_end (up (alignment k) 0 + m) ks) p.0 p.1 in
      let h = fixed_positive k q.0 q.1 in
      let g = ends_later ks (up (alignment k) 0 + q.0) p.0 q.2 in
      let z = p.2 in
      omega arith
  fixed_positive (entry x k) n e =
      let p = map_some (up (max (basic_alignment x) (max (alignment k) 1))) (basic_size x >>= λ m. fixed k >>= λ n. Some (up (alignment k) (up (basic_alignment x) 0 + m) + n)) n e in
      let q = bind_some (basic_size x) (λ m. fixed k >>= λ n. Some (up (alignment k) (up (basic_alignment x) 0 + m) + n)) p.0 p.1 in
      let r = bind_some (fixed k) (λ n. Some (up (alignment k) (up (basic_alignment x) 0 + q.0) + n)) p.0 q.2 in
      let h = basic_positive x q.0 q.1 in
      let y = some_is (up (alignment k) (up (basic_alignment x) 0 + q.0) + r.0) p.0 r.2 in
      let z = p.2 in
      omega arith
  fixed_positive k n e = none_some n (0 < n) e

  ends_later : (ks : Kinds) (n m : ℕ) → fixed_end n ks ≡ Some m → n ≤ m
  ends_later no_kinds n m e = let h = some_is n m e in omega arith
  ends_later (kind k ks) n m e =
      let q = bind_some (fixed k) (λ z. fixed_end (up (alignment k) n + z) ks) m e in
      let h = ends_later ks (up (alignment k) n + q.0) m q.2 in
      omega arith

-- ---- arrays

rows_sized : (ts : Trees) (k : Kind) (n : ℕ) (rs : List (List ℕ)) → rows ts k ≡ Some rs → fixed k ≡ Some n → AllSize n rs
unfolding layout
rows_sized no_trees k n rs e f = subst (AllSize n) (some_is [] rs e) tt
rows_sized (tree v ts) k n rs e f =
    let p = bind_some (layout v k) (λ r. rows ts k >>= λ rs. Some (r ∷ rs)) rs e in
    let q = bind_some (rows ts k) (λ rs. Some (p.0 ∷ rs)) rs p.2 in
    subst (AllSize n) (some_is (p.0 ∷ q.0) rs q.2) (size_of v k p.0 n p.1 f, rows_sized ts k n q.0 q.1 f)

unfoldable pub array_with : Bool → Kind → List (List ℕ) → Option (List ℕ)
array_with f k rs =
    let ps = parts (alignment k) f rs in
    cond f (sized (body 0 ps)) (offset_size (length (body 0 ps)) (length rs) >>= λ s. Some (body 0 ps ++ table s (ends 0 ps)))

elements_none : (p : Reader) (k : Kind) (ts : Trees) → ReadsAll p k ts [] → elements p k None [] ≡ Some ts
elements_none p k no_trees reads = refl
elements_none p k (tree v ts) reads = absurd reads

pub elements_at : (p : Reader) (k : Kind) (ts : Trees) (rs : List (List ℕ)) (bytes : List ℕ) (o : Option ℕ) → ReadsAll p k ts rs → Sized o rs → array_with (is_some o) k rs ≡ Some bytes → elements p k o bytes ≡ Some ts
unfolding array_with
elements_at p k ts rs bytes (Some n) reads size e = same_size p k n ts rs bytes size.0 size.1 reads (sized_is _ bytes e)
elements_at p k ts [] bytes None reads size e =
    let q = bind_some (offset_size 0 0) (λ s. Some []) bytes e in
    ap (elements p k None) (sym (some_is [] bytes q.2)) ∙ elements_none p k ts reads
elements_at p k ts (r ∷ rs) bytes None reads size e =
    let ps = parts (alignment k) false (r ∷ rs) in
    let q = bind_some (offset_size (length (body 0 ps)) (length (r ∷ rs))) (λ s. Some (body 0 ps ++ table s (ends 0 ps))) bytes e in
    ap (elements p k None) (sym (some_is (body 0 ps ++ table q.0 (ends 0 ps)) bytes q.2)) ∙ own_size p k q.0 ts r rs reads q.1

sizes_of : (o : Option ℕ) (ts : Trees) (k : Kind) (rs : List (List ℕ)) → fixed k ≡ o → rows ts k ≡ Some rs → Sized o rs
sizes_of None ts k rs f e = tt
sizes_of (Some n) ts k rs f e = (fixed_positive k n f, rows_sized ts k n rs e f)

elements_again : (p : Reader) (k : Kind) (ts : Trees) (rs : List (List ℕ)) (bytes : List ℕ) → ReadsAll p k ts rs → rows ts k ≡ Some rs → array_of k rs ≡ Some bytes → elements p k (fixed k) bytes ≡ Some ts
unfolding array_with
elements_again p k ts rs bytes reads e laid = elements_at p k ts rs bytes (fixed k) reads (sizes_of (fixed k) ts k rs refl e) laid

-- ---- maybe and variant

front_again : (r : List ℕ) → front (r ++ 0 ∷ []) ≡ r
front_again r =
    let w : List ℕ = r ++ 0 ∷ [] in
    let len : length w ≡ length r + 1 = length-append r (0 ∷ []) in
    let one : length w - 1 ≡ length r = omega arith in
    ap (λ n. take n w) one ∙ take_at r (0 ∷ []) (length r) refl

maybe_again : (p : Reader) (k : Kind) (f : Bool) (r : List ℕ) (v : Tree) → p k r ≡ Some v → (f ≡ true → 0 < length r) → maybe_at p k f (just_of f r) ≡ Some (t.just v)
maybe_again p k true [] v e some = absurd (let h = some refl in omega arith)
maybe_again p k true (c ∷ cs) v e some = ap (option_map t.just) e
maybe_again p k false [] v e some = ap (option_map t.just) (ap (p k) (front_again []) ∙ e)
maybe_again p k false (c ∷ cs) v e some = ap (option_map t.just) (ap (p k) (front_again (c ∷ cs)) ∙ e)

some_size : (o : Option ℕ) → is_some o ≡ true → (n : ℕ) × (o ≡ Some n)
some_size None e = absurd cc
some_size (Some n) e = (n, refl)

positive_size : (v : Tree) (k : Kind) (r : List ℕ) → layout v k ≡ Some r → is_some (fixed k) ≡ true → 0 < length r
positive_size v k r e f =
    let p = some_size (fixed k) f in
    let h = fixed_positive k p.0 p.1 in
    let s = size_of v k r p.0 e p.1 in
    omega arith

no_zero_letter : (st st' : List Item) (P : Type 0) → read_letter 0 st ≡ Some st' → P
no_zero_letter st st' P e = none_some st' P e

pub split_none : (s : List ℕ) (st : List Item) → items_at s ≡ Some st → split_last s ≡ None
unfolding items_at
split_none [] st e = refl
split_none (c ∷ cs) st e =
    let p = bind_some (items_at cs) (read_letter c) st e in
    let ih = split_none cs p.0 p.1 in
    ap (split_more c cs) ih ∙ elim (cases_Bool (eqb c 0)) [
      | inl z ↦ no_zero_letter p.0 st _ (ap (λ x. read_letter x p.0) (sym (eqb-true c 0 z)) ∙ p.2)
      | inr nz ↦ cond-false _ _ _ nz
    ]

pub split_again : (r s : List ℕ) → split_last s ≡ None → split_last (r ++ 0 ∷ s) ≡ Some (r, s)
split_again [] s e = ap (split_more 0 s) e
split_again (c ∷ r) s e = ap (split_more c (r ++ 0 ∷ s)) (split_again r s e)

split_kind : (s : List ℕ) (k : Kind) → variant_kind s ≡ Some k → split_last s ≡ None
unfolding variant_kind kind_of
split_kind s k e =
    let p = bind_some (option_and_then only (items_at s)) good_depth k e in
    let q = bind_some (items_at s) only p.0 p.1 in
    split_none s q.0 q.1

-- ---- all values

mutual
  unfolding layout parse

  pub parse_again : (v : Tree) (d : ℕ) (k : Kind) (r : List ℕ) → layout v k ≡ Some r → nests v ≤ d → parse d k r ≡ Some v
  parse_again (t.leaf x) zero (basic y) r e h = ap (option_map leaf) (leaf_again y x r e)
  parse_again (t.leaf x) (suc d) (basic y) r e h = ap (option_map leaf) (leaf_again y x r e)
  parse_again (t.leaf x) d k r e h = none_some r (parse d k r ≡ Some (t.leaf x)) e
  parse_again (t.array ts) zero k r e h = absurd (omega arith)
  parse_again (t.array ts) (suc d) (array k) r e h =
      let p = bind_some (rows ts k) (array_of k) r e in
      ap (option_map t.array) (elements_again (parse d) k ts p.0 r (rows_again ts d k p.0 p.1 (omega arith)) p.1 p.2)
  parse_again (t.array ts) (suc d) k r e h = none_some r (parse (suc d) k r ≡ Some (t.array ts)) e
  parse_again (t.tuple ts) zero k r e h = absurd (omega arith)
  parse_again (t.tuple ts) (suc d) (tuple ks) r e h =
      let p = bind_some (members ts ks) tuple_of r e in
      ap (option_map t.tuple) (tuple_again (parse d) ks ts p.0 r (all_stand ts ks p.0 p.1) (each_read ts d ks p.0 p.1 (omega arith)) p.2)
  parse_again (t.tuple ts) (suc d) k r e h = none_some r (parse (suc d) k r ≡ Some (t.tuple ts)) e
  parse_again (t.entry x y) zero k r e h = absurd (omega arith)
  parse_again (t.entry x y) (suc d) (entry w k) r e h =
      let p = bind_some (layout x (basic w)) (λ r. layout y k >>= λ q. tuple_of (part (basic w) r ∷ part k q ∷ [])) r e in
      let q = bind_some (layout y k) (λ q. tuple_of (part (basic w) p.0 ∷ part k q ∷ [])) r p.2 in
      let stand : StandAll (pair w k) (part (basic w) p.0 ∷ part k q.0 ∷ []) = (
        record { align = refl; fixed_or_not = refl; size = λ m g. size_of x (basic w) p.0 m p.1 g },
        (record { align = refl; fixed_or_not = refl; size = λ m g. size_of y k q.0 m q.1 g }, tt),
      ) in
      let ih1 = parse_again x d (basic w) p.0 p.1 (omega arith) in
      let ih2 = parse_again y d k q.0 q.1 (omega arith) in
      ap (λ o. option_and_then as_pair o) (tuple_again (parse d) (pair w k) (tree x (tree y no_trees)) (part (basic w) p.0 ∷ part k q.0 ∷ []) r stand (ih1, (ih2, tt)) q.2)
  parse_again (t.entry x y) (suc d) k r e h = none_some r (parse (suc d) k r ≡ Some (t.entry x y)) e
  parse_again t.nothing zero k r e h = absurd (omega arith)
  parse_again t.nothing (suc d) (maybe k) r e h = ap (maybe_at (parse d) k (is_some (fixed k))) (sym (some_is [] r e))
  parse_again t.nothing (suc d) k r e h = none_some r (parse (suc d) k r ≡ Some t.nothing) e
  parse_again (t.just x) zero k r e h = absurd (omega arith)
  parse_again (t.just x) (suc d) (maybe k) r e h =
      let f = is_some (fixed k) in
      let p = bind_some (layout x k) (λ q. sized (just_of f q)) r e in
      let is : just_of f p.0 ≡ r = sized_is (just_of f p.0) r p.2 in
      ap (maybe_at (parse d) k f) (sym is) ∙ maybe_again (parse d) k f p.0 x (parse_again x d k p.0 p.1 (omega arith)) (positive_size x k p.0 p.1)
  parse_again (t.just x) (suc d) k r e h = none_some r (parse (suc d) k r ≡ Some (t.just x)) e
  parse_again (t.variant s x) zero k r e h = absurd (omega arith)
  parse_again (t.variant s x) (suc d) variant r e h =
      let p = bind_some (variant_kind s) (λ c. layout x c >>= λ q. sized (q ++ 0 ∷ s)) r e in
      let q = bind_some (layout x p.0) (λ q. sized (q ++ 0 ∷ s)) r p.2 in
      let is : q.0 ++ 0 ∷ s ≡ r = sized_is (q.0 ++ 0 ∷ s) r q.2 in
      let split : split_last r ≡ Some (q.0, s) = ap split_last (sym is) ∙ split_again q.0 s (split_kind s p.0 p.1) in
      ap (λ o. option_and_then (λ p. variant_kind p.1 >>= λ k. option_map (t.variant p.1) (parse d k p.0)) o) split
      ∙ ap (λ o. option_and_then (λ k. option_map (t.variant s) (parse d k q.0)) o) p.1
      ∙ ap (option_map (t.variant s)) (parse_again x d p.0 q.0 q.1 (omega arith))
  parse_again (t.variant s x) (suc d) k r e h = none_some r (parse (suc d) k r ≡ Some (t.variant s x)) e

  rows_again : (ts : Trees) (d : ℕ) (k : Kind) (rs : List (List ℕ)) → rows ts k ≡ Some rs → nest ts ≤ d → ReadsAll (parse d) k ts rs
  rows_again no_trees d k rs e h = subst (ReadsAll (parse d) k no_trees) (some_is [] rs e) tt
  rows_again (tree v ts) d k rs e h =
      let p = bind_some (layout v k) (λ r. rows ts k >>= λ rs. Some (r ∷ rs)) rs e in
      let q = bind_some (rows ts k) (λ rs. Some (p.0 ∷ rs)) rs p.2 in
      subst (ReadsAll (parse d) k (tree v ts)) (some_is (p.0 ∷ q.0) rs q.2) (parse_again v d k p.0 p.1 (omega arith), rows_again ts d k q.0 q.1 (omega arith))

  each_read : (ts : Trees) (d : ℕ) (ks : Kinds) (ps : List Part) → members ts ks ≡ Some ps → nest ts ≤ d → ReadsEach (parse d) ks ts ps
  each_read no_trees d no_kinds ps e h = subst (ReadsEach (parse d) no_kinds no_trees) (some_is [] ps e) tt
  each_read no_trees d (kind k ks) ps e h = none_some ps (ReadsEach (parse d) (kind k ks) no_trees ps) e
  each_read (tree v ts) d no_kinds ps e h = none_some ps (ReadsEach (parse d) no_kinds (tree v ts) ps) e
  each_read (tree v ts) d (kind k ks) ps e h =
      let p = bind_some (layout v k) (λ r. members ts ks >>= λ ps. Some (part k r ∷ ps)) ps e in
      let q = bind_some (members ts ks) (λ ps. Some (part k p.0 ∷ ps)) ps p.2 in
      subst (ReadsEach (parse d) (kind k ks) (tree v ts)) (some_is (part k p.0 ∷ q.0) ps q.2) (parse_again v d k p.0 p.1 (omega arith), each_read ts d ks q.0 q.1 (omega arith))
