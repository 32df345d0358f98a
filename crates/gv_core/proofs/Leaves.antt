-- A value without a container is read again.
use Rattle.std.proofs.Common.{◌≡◌, ℕ, ◌+◌, ◌-◌, ◌^◌, ◌<◌, true, false, cond, ltb, eqb, List, [], ◌∷◌, ◌++◌, length, take, Some, None, refl, sym, ap, ap₂, subst, ◌∙◌, arith, rules, ℤ, pos, negsuc, SFits, to_z-of_z}
use Rattle.std.specs.Prelude.{◌&&◌}
use Rattle.std.specs.Int.{w16, w32, w64, to_le_bytes, cast_unsigned, cast_signed}
use Rattle.std.specs.Str.{is_utf8}
use Rattle.std.proofs.lemmas.Int.{ints}
use Rattle.std.proofs.lemmas.Bool.{lt-ltb, cond-true}
use Rattle.std.proofs.lemmas.Nat.{from_le_bytes-to_le_bytes_2, from_le_bytes-to_le_bytes_4, from_le_bytes-to_le_bytes_8}
use Rattle.std.proofs.lemmas.List.{take_at, length-append}
use Rattle.gv_core.specs.declared.kind.Basic.{Basic}
use Rattle.gv_core.specs.declared.kind.Basic.TheVariants as b
use Rattle.gv_core.specs.Tree.{Leaf}
use Rattle.gv_core.specs.Tree as t
use Rattle.gv_core.specs.Measure.{}
use Rattle.gv_core.specs.Text.{no_zero}
use Rattle.gv_core.specs.Layout.{signed, text_bytes, leaf_bytes}
use Rattle.gv_core.specs.Reading.{front, text_at, leaf_at}
use Rattle.gv_core.proofs.Sizes.{test_some, some_is, none_some, below_is}

sfits16 : (z : ℤ) (r : List ℕ) → signed w16 15 z ≡ Some r → SFits w16 z × (to_le_bytes w16 (cast_unsigned w16 z) ≡ r) × (cast_unsigned w16 z < 2 ^ 16)
sfits16 (pos n) r e = let p = below_is n (2 ^ 15) _ r e in (search rules, p.1, omega (arith, ints))
sfits16 (negsuc n) r e = let p = below_is n (2 ^ 15) _ r e in (search rules, p.1, omega (arith, ints))

sfits32 : (z : ℤ) (r : List ℕ) → signed w32 31 z ≡ Some r → SFits w32 z × (to_le_bytes w32 (cast_unsigned w32 z) ≡ r) × (cast_unsigned w32 z < 2 ^ 32)
sfits32 (pos n) r e = let p = below_is n (2 ^ 31) _ r e in (search rules, p.1, omega (arith, ints))
sfits32 (negsuc n) r e = let p = below_is n (2 ^ 31) _ r e in (search rules, p.1, omega (arith, ints))

sfits64 : (z : ℤ) (r : List ℕ) → signed w64 63 z ≡ Some r → SFits w64 z × (to_le_bytes w64 (cast_unsigned w64 z) ≡ r) × (cast_unsigned w64 z < 2 ^ 64)
sfits64 (pos n) r e = let p = below_is n (2 ^ 63) _ r e in (search rules, p.1, omega (arith, ints))
sfits64 (negsuc n) r e = let p = below_is n (2 ^ 63) _ r e in (search rules, p.1, omega (arith, ints))

text_again : (s r : List ℕ) → text_bytes s ≡ Some r → text_at r ≡ Some (t.str s)
text_again s r e =
    let p = test_some (is_utf8 s && no_zero s) (s ++ 0 ∷ []) r e in
    let w : List ℕ = s ++ 0 ∷ [] in
    let len : length w ≡ length s + 1 = length-append s (0 ∷ []) in
    let one : length w - 1 ≡ length s = omega arith in
    let fr : front w ≡ s = ap (λ n. take n w) one ∙ take_at s (0 ∷ []) (length s) refl in
    let some : ltb 0 (length w) ≡ true = lt-ltb _ _ (omega arith) in
    let at : text_at w ≡ Some (t.str s) = ap₂ (λ x y. cond (x && (is_utf8 y && no_zero y)) (Some (t.str y)) None) some fr ∙ cond-true _ _ _ p.0 in
    subst (λ (x : List ℕ). text_at x ≡ Some (t.str s)) p.1 at

pub leaf_again : (x : Basic) (v : Leaf) (r : List ℕ) → leaf_bytes x v ≡ Some r → leaf_at x r ≡ Some v
leaf_again b.Byte (t.byte n) r e = let p = below_is n (2 ^ 8) (n ∷ []) r e in ap (leaf_at b.Byte) (sym p.1)
leaf_again b.Bool (t.bool true) r e = ap (leaf_at b.Bool) (sym (some_is (1 ∷ []) r e))
leaf_again b.Bool (t.bool false) r e = ap (leaf_at b.Bool) (sym (some_is (0 ∷ []) r e))
leaf_again b.I16 (t.i16 z) r e = let p = sfits16 z r e in ap (leaf_at b.I16) (sym p.1) ∙ ap (λ n. Some (t.i16 n)) (ap (cast_signed w16) (from_le_bytes-to_le_bytes_2 _ p.2) ∙ to_z-of_z p.0)
leaf_again b.U16 (t.u16 n) r e = let p = below_is n (2 ^ 16) (to_le_bytes w16 n) r e in ap (leaf_at b.U16) (sym p.1) ∙ ap (λ n. Some (t.u16 n)) (from_le_bytes-to_le_bytes_2 n p.0)
leaf_again b.I32 (t.i32 z) r e = let p = sfits32 z r e in ap (leaf_at b.I32) (sym p.1) ∙ ap (λ n. Some (t.i32 n)) (ap (cast_signed w32) (from_le_bytes-to_le_bytes_4 _ p.2) ∙ to_z-of_z p.0)
leaf_again b.U32 (t.u32 n) r e = let p = below_is n (2 ^ 32) (to_le_bytes w32 n) r e in ap (leaf_at b.U32) (sym p.1) ∙ ap (λ n. Some (t.u32 n)) (from_le_bytes-to_le_bytes_4 n p.0)
leaf_again b.I64 (t.i64 z) r e = let p = sfits64 z r e in ap (leaf_at b.I64) (sym p.1) ∙ ap (λ n. Some (t.i64 n)) (ap (cast_signed w64) (from_le_bytes-to_le_bytes_8 _ p.2) ∙ to_z-of_z p.0)
leaf_again b.U64 (t.u64 n) r e = let p = below_is n (2 ^ 64) (to_le_bytes w64 n) r e in ap (leaf_at b.U64) (sym p.1) ∙ ap (λ n. Some (t.u64 n)) (from_le_bytes-to_le_bytes_8 n p.0)
leaf_again b.Handle (t.handle z) r e = let p = sfits32 z r e in ap (leaf_at b.Handle) (sym p.1) ∙ ap (λ n. Some (t.handle n)) (ap (cast_signed w32) (from_le_bytes-to_le_bytes_4 _ p.2) ∙ to_z-of_z p.0)
leaf_again b.Double (t.double d) r e = let p = test_some (eqb (length d) 8) d r e in ap (leaf_at b.Double) (sym p.1) ∙ cond-true _ _ _ p.0
leaf_again b.Text (t.str s) r e = text_again s r e
leaf_again b.Path (t.str s) r e = text_again s r e
leaf_again b.Signature (t.str s) r e = text_again s r e
leaf_again x v r e = none_some r (leaf_at x r ≡ Some v) e
