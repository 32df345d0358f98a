-- Every value of a kind with a fixed size has that size.
use Rattle.std.proofs.Common.{◌≡◌, ℕ, ◌+◌, ◌^◌, ◌<◌, max, Bool, true, false, cond, ltb, eqb, List, [], ◌∷◌, ◌++◌, length, Option, Some, None, refl, sym, ap, ap₂, subst, ◌∙◌, arith, replicate, ℤ, pos, negsuc}
use Rattle.std.specs.Prelude.{option_map, option_and_then}
use Rattle.std.specs.Option.{is_some}
use Rattle.std.specs.Int.{Width, w16, w32, w64, to_le_bytes, cast_unsigned}
use Rattle.std.proofs.lemmas.Bool.{eqb-true, ltb-true}
use Rattle.std.proofs.lemmas.List.{length-append, length-replicate}
use Rattle.gv_core.specs.declared.kind.Basic.{Basic}
use Rattle.gv_core.specs.declared.kind.Basic.TheVariants as b
use Rattle.gv_core.specs.Kind.{Kind, Kinds, basic, variant, array, maybe, tuple, entry, no_kinds, kind}
use Rattle.gv_core.specs.Tree.{Leaf, Tree, Trees, tree, no_trees, leaf}
use Rattle.gv_core.specs.Tree as t
use Rattle.gv_core.specs.Measure.{◌>>=◌, basic_size, alignment, widest, fixed, fixed_end, gap, up}
use Rattle.gv_core.specs.Layout.{Part, end_of, body, inner_ends, table_back, offset_size, sized, all_fixed, widest_of, fixed_tuple, tuple_of, below, signed, bit, leaf_bytes, part, layout, members}
use Rattle.gv_core.proofs.Offsets.{length-body}

-- the value of a step that did not fail
pub bind_some : {A B : Type 0} (o : Option A) (f : A → Option B) (y : B) → option_and_then f o ≡ Some y → (x : A) × (o ≡ Some x) × (f x ≡ Some y)
bind_some None f y e = absurd cc
bind_some (Some x) f y e = (x, refl, e)

pub map_some : {A B : Type 0} (f : A → B) (o : Option A) (y : B) → option_map f o ≡ Some y → (x : A) × (o ≡ Some x) × (f x ≡ y)
map_some f None y e = absurd cc
map_some f (Some x) y e = (x, refl, cc)

pub test_some : {A : Type 0} (b : Bool) (x y : A) → cond b (Some x) None ≡ Some y → (b ≡ true) × (x ≡ y)
test_some true x y e = (refl, cc)
test_some false x y e = absurd cc

pub some_is : {A : Type 0} (x y : A) → Some x ≡ Some y → x ≡ y
some_is x y e = cc

pub none_some : {A : Type 0} (y : A) (P : Type 0) → let n : Option A = None in n ≡ Some y → P
none_some y P e = absurd cc

pub below_is : (n limit : ℕ) (x r : List ℕ) → below n limit x ≡ Some r → (n < limit) × (x ≡ r)
below_is n limit x r e = let p = test_some (ltb n limit) x r e in (ltb-true _ _ p.0, p.1)

below_size : (n limit m : ℕ) (x r : List ℕ) → below n limit x ≡ Some r → length x ≡ m → length r ≡ m
below_size n limit m x r e h = ap length (sym (below_is n limit x r e).1) ∙ h

signed_size : (w : Width) (k m : ℕ) (z : ℤ) (r : List ℕ) → ((n : ℕ) → length (to_le_bytes w n) ≡ m) → signed w k z ≡ Some r → length r ≡ m
signed_size w k m (pos n) r len e = below_size n (2 ^ k) m (to_le_bytes w (cast_unsigned w (pos n))) r e (len (cast_unsigned w (pos n)))
signed_size w k m (negsuc n) r len e = below_size n (2 ^ k) m (to_le_bytes w (cast_unsigned w (negsuc n))) r e (len (cast_unsigned w (negsuc n)))

leaf_size : (x : Basic) (v : Leaf) (r : List ℕ) (m : ℕ) → leaf_bytes x v ≡ Some r → basic_size x ≡ Some m → length r ≡ m
leaf_size b.Byte (t.byte n) r m e f = below_size n (2 ^ 8) m (n ∷ []) r e (some_is 1 m f)
leaf_size b.Bool (t.bool x) r m e f = ap length (sym (some_is (bit x ∷ []) r e)) ∙ some_is 1 m f
leaf_size b.I16 (t.i16 z) r m e f = signed_size w16 15 m z r (λ n. some_is 2 m f) e
leaf_size b.U16 (t.u16 n) r m e f = below_size n (2 ^ 16) m (to_le_bytes w16 n) r e (some_is 2 m f)
leaf_size b.I32 (t.i32 z) r m e f = signed_size w32 31 m z r (λ n. some_is 4 m f) e
leaf_size b.U32 (t.u32 n) r m e f = below_size n (2 ^ 32) m (to_le_bytes w32 n) r e (some_is 4 m f)
leaf_size b.I64 (t.i64 z) r m e f = signed_size w64 63 m z r (λ n. some_is 8 m f) e
leaf_size b.U64 (t.u64 n) r m e f = below_size n (2 ^ 64) m (to_le_bytes w64 n) r e (some_is 8 m f)
leaf_size b.Handle (t.handle z) r m e f = signed_size w32 31 m z r (λ n. some_is 4 m f) e
leaf_size b.Double (t.double d) r m e f = let p = test_some (eqb (length d) 8) d r e in ap length (sym p.1) ∙ eqb-true _ _ p.0 ∙ some_is 8 m f
leaf_size b.Text _ r m e f = absurd cc
leaf_size b.Path _ r m e f = absurd cc
leaf_size b.Signature _ r m e f = absurd cc
leaf_size _ _ r m e f = absurd cc

-- the members of a tuple stand for its kinds
pub record Stands (k : Kind) (p : Part) : Type 0 where
  pub align : p.align ≡ alignment k
  pub fixed_or_not : p.fixed ≡ is_some (fixed k)
  pub size : (n : ℕ) → fixed k ≡ Some n → length p.bytes ≡ n

abbrev pub StandAll : Kinds → List Part → Type 0
StandAll no_kinds [] = Unit {0}
StandAll no_kinds (p ∷ ps) = ⊥
StandAll (kind k ks) [] = ⊥
StandAll (kind k ks) (p ∷ ps) = Stands k p × StandAll ks ps

pub record Ends (ks : Kinds) (ps : List Part) (n m : ℕ) : Type 0 where
  pub all : all_fixed ps ≡ true
  pub ended : n + length (body n ps) ≡ m
  pub wide : widest_of ps ≡ widest ks

pub is_some_at : {A : Type 0} (o : Option A) (x : A) → o ≡ Some x → is_some o ≡ true
is_some_at o x e = ap is_some e

ends_at : (ks : Kinds) (ps : List Part) (n m : ℕ) → StandAll ks ps → fixed_end n ks ≡ Some m → Ends ks ps n m
unfolding fixed alignment
ends_at no_kinds [] n m s e = record { all = refl; ended = let f = some_is n m e in omega arith; wide = refl }
ends_at no_kinds (p ∷ ps) n m s e = absurd s
ends_at (kind k ks) [] n m s e = absurd s
ends_at (kind k ks) (p ∷ ps) n m s e =
    let q = bind_some (fixed k) (λ z. fixed_end (up (alignment k) n + z) ks) m e in
    let size : length p.bytes ≡ q.0 = s.0.size q.0 q.1 in
    let end : end_of n p ≡ up (alignment k) n + q.0 = ap₂ (λ a z. up a n + z) s.0.align size in
    let ih = ends_at ks ps (end_of n p) m s.1 (rw end q.2) in
    let lb = length-body n p ps in
    record { all = rw (s.0.fixed_or_not, is_some_at (fixed k) q.0 q.1) ih.all; ended = omega (arith, ih.ended); wide = ap₂ (λ x y. max x y) s.0.align ih.wide }

pub sized_is : (x r : List ℕ) → sized x ≡ Some r → x ≡ r
sized_is x r e = (test_some (ltb (length x) (2 ^ 64)) x r e).1

tuple_size : (ks : Kinds) (ps : List Part) (r : List ℕ) (n : ℕ) → StandAll ks ps → tuple_of ps ≡ Some r → fixed (tuple ks) ≡ Some n → length r ≡ n
unfolding fixed alignment
tuple_size no_kinds [] r n s e f = ap length (sym (sized_is (0 ∷ []) r e)) ∙ some_is 1 n f
tuple_size no_kinds (p ∷ ps) r n s e f = absurd s
tuple_size (kind k ks) [] r n s e f = absurd s
tuple_size (kind k ks) (p ∷ ps) r n s e f =
    let q = map_some (up (widest (kind k ks))) (fixed_end 0 (kind k ks)) n f in
    let h = ends_at (kind k ks) (p ∷ ps) 0 q.0 s q.1 in
    let chosen : tuple_of (p ∷ ps) ≡ sized (fixed_tuple (p ∷ ps)) = ap (λ b. cond b (sized (fixed_tuple (p ∷ ps))) (offset_size (length (body 0 (p ∷ ps))) (length (inner_ends 0 (p ∷ ps))) >>= λ s. Some (body 0 (p ∷ ps) ++ table_back s (inner_ends 0 (p ∷ ps))))) h.all in
    let is : fixed_tuple (p ∷ ps) ≡ r = sized_is (fixed_tuple (p ∷ ps)) r (sym chosen ∙ e) in
    let len : length (body 0 (p ∷ ps)) ≡ q.0 = let g = h.ended in omega arith in
    let g = gap (widest_of (p ∷ ps)) (length (body 0 (p ∷ ps))) in
    ap length (sym is) ∙ length-append (body 0 (p ∷ ps)) (replicate g 0) ∙ ap (λ z. length (body 0 (p ∷ ps)) + z) (length-replicate g 0) ∙ ap₂ (λ w z. z + gap w z) h.wide len ∙ q.2

mutual
  unfolding layout fixed alignment

  pub size_of : (v : Tree) (k : Kind) (r : List ℕ) (n : ℕ) → layout v k ≡ Some r → fixed k ≡ Some n → length r ≡ n
  size_of v variant r n e f = none_some n (length r ≡ n) f
  size_of v (array k) r n e f = none_some n (length r ≡ n) f
  size_of v (maybe k) r n e f = none_some n (length r ≡ n) f
  size_of (t.leaf x) (basic b) r n e f = leaf_size b x r n e f
  size_of (t.tuple ts) (tuple ks) r n e f =
      let p = bind_some (members ts ks) tuple_of r e in
      tuple_size ks p.0 r n (all_stand ts ks p.0 p.1) p.2 f
  size_of (t.entry x y) (entry b k) r n e f =
      let p = bind_some (layout x (basic b)) (λ r. layout y k >>= λ q. tuple_of (part (basic b) r ∷ part k q ∷ [])) r e in
      let q = bind_some (layout y k) (λ q. tuple_of (part (basic b) p.0 ∷ part k q ∷ [])) r p.2 in
      let s : StandAll (kind (basic b) (kind k no_kinds)) (part (basic b) p.0 ∷ part k q.0 ∷ []) = (
        record { align = refl; fixed_or_not = refl; size = λ m g. size_of x (basic b) p.0 m p.1 g },
        (record { align = refl; fixed_or_not = refl; size = λ m g. size_of y k q.0 m q.1 g }, tt),
      ) in
      tuple_size (kind (basic b) (kind k no_kinds)) (part (basic b) p.0 ∷ part k q.0 ∷ []) r n s q.2 f
  size_of v (basic b) r n e f = none_some r (length r ≡ n) e
  size_of v (tuple ks) r n e f = none_some r (length r ≡ n) e
  size_of v (entry b k) r n e f = none_some r (length r ≡ n) e

  pub all_stand : (ts : Trees) (ks : Kinds) (ps : List Part) → members ts ks ≡ Some ps → StandAll ks ps
  all_stand no_trees no_kinds [] e = tt
  all_stand no_trees no_kinds (p ∷ ps) e = absurd cc
  all_stand no_trees (kind k ks) ps e = absurd cc
  all_stand (tree v ts) no_kinds ps e = absurd cc
  all_stand (tree v ts) (kind k ks) ps e =
      let p = bind_some (layout v k) (λ r. members ts ks >>= λ ps. Some (part k r ∷ ps)) ps e in
      let q = bind_some (members ts ks) (λ ps. Some (part k p.0 ∷ ps)) ps p.2 in
      subst (λ (x : List Part). StandAll (kind k ks) x) (some_is (part k p.0 ∷ q.0) ps q.2)
      (record { align = refl; fixed_or_not = refl; size = λ m g. size_of v k p.0 m p.1 g }, all_stand ts ks q.0 q.1)
