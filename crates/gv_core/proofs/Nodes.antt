-- The sizes that nodes keep.
use Rattle.std.proofs.Common.{◌≡◌, ℕ, ◌+◌, ◌<◌, ◌^◌, max, List, [], ◌∷◌, length, Option, Some, None, refl, sym, ap, ap₂, ◌∙◌, arith}
use Rattle.std.specs.Prelude.{option_map}
use Rattle.gv_core.specs.declared.kind.Basic.{Basic}
use Rattle.gv_core.specs.declared.kind.Basic.TheVariants as b
use Rattle.gv_core.specs.Kind.{Kind, Kinds, basic, tuple, entry, no_kinds, kind}
use Rattle.gv_core.specs.Measure.{◌>>=◌, basic_alignment, basic_size, alignment, fixed, fixed_end, widest, up}
use Rattle.gv_core.specs.Node.{kinds_of, capped}
use Rattle.gv_core.proofs.Alignments.{small}
use Rattle.gv_core.proofs.Sizes.{map_some}

pub record Ended (end : ℕ) (left : List Kind) (total : Option ℕ) : Type 0 where
  pub n : ℕ
  pub end_is : end ≡ capped n
  pub rest_is : fixed_end n (kinds_of left) ≡ total

pub ended_init : (ks : List Kind) → Ended 0 ks (fixed_end 0 (kinds_of ks))
ended_init ks = record { n = 0; end_is = refl; rest_is = refl }

pub ended_next : (end end2 a size : ℕ) (k : Kind) (left rest : List Kind) (total : Option ℕ) → Ended end left total → left ≡ k ∷ rest → Some size ≡ option_map capped (fixed k) → a ≡ alignment k
    → ((n m : ℕ) → end ≡ capped n → size ≡ capped m → end2 ≡ capped (up a n + m)) → Ended end2 rest total
unfolding fixed
ended_next end end2 a size k left rest total inv l s ai f =
    let q = map_some capped (fixed k) size (sym s) in
    let next : fixed_end inv.n (kind k (kinds_of rest)) ≡ fixed_end (up (alignment k) inv.n + q.0) (kinds_of rest) = ap (λ o. o >>= λ m. fixed_end (up (alignment k) inv.n + m) (kinds_of rest)) q.1 in
    record {
      n = up (alignment k) inv.n + q.0;
      end_is = f inv.n q.0 inv.end_is (sym q.2) ∙ ap (λ a. capped (up a inv.n + q.0)) ai;
      rest_is = sym next ∙ ap (λ ks. fixed_end inv.n (kinds_of ks)) (sym l) ∙ inv.rest_is;
    }

size_none : (o : Option ℕ) → None ≡ option_map capped o → o ≡ None
size_none None e = refl
size_none (Some n) e = absurd cc

pub ended_none : (end : ℕ) (k : Kind) (left rest : List Kind) (total : Option ℕ) → Ended end left total → left ≡ k ∷ rest → None ≡ option_map capped (fixed k) → total ≡ None
unfolding fixed
ended_none end k left rest total inv l s =
    sym inv.rest_is ∙ ap (λ ks. fixed_end inv.n (kinds_of ks)) l ∙ ap (λ o. o >>= λ m. fixed_end (up (alignment k) inv.n + m) (kinds_of rest)) (size_none (fixed k) s)

pub ended_end : (end end2 a : ℕ) (left : List Kind) (total : Option ℕ) → Ended end left total → left ≡ [] → ((n m : ℕ) → end ≡ capped n → 0 ≡ capped m → end2 ≡ capped (up a n + m)) → Some end2 ≡ option_map capped (option_map (up a) total)
unfolding fixed
ended_end end end2 a left total inv l f =
    let t : Some inv.n ≡ total = ap (λ ks. fixed_end inv.n (kinds_of ks)) (sym l) ∙ inv.rest_is in
    let z : end2 ≡ capped (up a inv.n + 0) = f inv.n 0 inv.end_is refl in
    let y : up a inv.n + 0 ≡ up a inv.n = omega arith in
    ap Some (z ∙ ap capped y) ∙ ap (λ o. option_map capped (option_map (up a) o)) t

-- the kinds of an entry are those of a pair
abbrev pub pair_kinds : Basic → Kind → Kinds
pair_kinds x k = kind (basic x) (kind k no_kinds)

pub entry_alignment : (x : Basic) (k : Kind) → alignment (entry x k) ≡ alignment (tuple (pair_kinds x k))
unfolding alignment
entry_alignment x k = refl

pub entry_fixed : (x : Basic) (k : Kind) → fixed (entry x k) ≡ fixed (tuple (pair_kinds x k))
unfolding fixed alignment
entry_fixed x k = refl

-- ---- entries and tuples

up_zero : (x : Basic) → up (basic_alignment x) 0 ≡ 0
up_zero b.Byte = refl
up_zero b.Bool = refl
up_zero b.I16 = refl
up_zero b.U16 = refl
up_zero b.I32 = refl
up_zero b.U32 = refl
up_zero b.I64 = refl
up_zero b.U64 = refl
up_zero b.Handle = refl
up_zero b.Double = refl
up_zero b.Text = refl
up_zero b.Path = refl
up_zero b.Signature = refl

pub entry_align_is : (x : Basic) (k : Kind) → max (basic_alignment x) (alignment k) ≡ alignment (entry x k)
unfolding alignment
entry_align_is x k = let p = (small k).positive in omega arith

entry_size_of : (x : Basic) (k : Kind) (o p : Option ℕ) → basic_size x ≡ o → fixed k ≡ p
    → fixed (entry x k) ≡ option_map (up (alignment (entry x k))) (o >>= λ m. p >>= λ n. Some (up (alignment k) (up (basic_alignment x) 0 + m) + n))
unfolding fixed alignment
entry_size_of x k o p e f = ap₂ (λ o p. option_map (up (alignment (entry x k))) (o >>= λ m. p >>= λ n. Some (up (alignment k) (up (basic_alignment x) 0 + m) + n))) e f

pub entry_no_key : (x : Basic) (k : Kind) → basic_size x ≡ None → None ≡ option_map capped (fixed (entry x k))
entry_no_key x k e = sym (ap (option_map capped) (entry_size_of x k None (fixed k) e refl))

none_twice : (o : Option ℕ) (f : ℕ → ℕ) (g : ℕ → ℕ → ℕ) → None ≡ option_map capped (option_map f (o >>= λ m. None))
none_twice None f g = refl
none_twice (Some m) f g = refl

pub entry_no_value : (x : Basic) (k : Kind) → None ≡ option_map capped (fixed k) → None ≡ option_map capped (fixed (entry x k))
entry_no_value x k e =
    none_twice (basic_size x) (up (alignment (entry x k))) (λ m n. n)
    ∙ sym (ap (option_map capped) (entry_size_of x k (basic_size x) None refl (size_none (fixed k) e)))

pub entry_both : (x : Basic) (k : Kind) (front back end end2 a : ℕ) → basic_size x ≡ Some front → front < 2 ^ 64 → Some back ≡ option_map capped (fixed k) → a ≡ alignment (entry x k)
    → ((n m : ℕ) → front ≡ capped n → back ≡ capped m → end ≡ capped (up (alignment k) n + m)) → ((n m : ℕ) → end ≡ capped n → 0 ≡ capped m → end2 ≡ capped (up a n + m))
    → Some end2 ≡ option_map capped (fixed (entry x k))
entry_both x k front back end end2 a e small s ai f g =
    let q = map_some capped (fixed k) back (sym s) in
    let sum = up (alignment k) front + q.0 in
    let c1 : end ≡ capped sum = f front q.0 (omega arith) (sym q.2) in
    let c2 : end2 ≡ capped (up a sum + 0) = g sum 0 c1 refl in
    let z : up a sum + 0 ≡ up a sum = omega arith in
    let zero_gap : up (basic_alignment x) 0 + front ≡ front = ap (λ u. u + front) (up_zero x) ∙ (let y : 0 + front ≡ front = omega arith in y) in
    ap Some (c2 ∙ ap capped z ∙ ap (λ a. capped (up a sum)) ai)
    ∙ ap (λ u. Some (capped (up (alignment (entry x k)) (up (alignment k) u + q.0)))) (sym zero_gap)
    ∙ sym (ap (option_map capped) (entry_size_of x k (Some front) (Some q.0) e q.1))

pub unit_size : (ks : List Kind) → length ks ≡ 0 → Some 1 ≡ option_map capped (fixed (tuple (kinds_of ks)))
unfolding fixed
unit_size [] e = refl
unit_size (k ∷ ks) e = absurd (omega arith)

pub members_size : (ks : List Kind) (a : ℕ) → (length ks ≡ 0 → ⊥) → a ≡ widest (kinds_of ks) → option_map capped (option_map (up a) (fixed_end 0 (kinds_of ks))) ≡ option_map capped (fixed (tuple (kinds_of ks)))
unfolding fixed
members_size [] a some e = absurd (some refl)
members_size (k ∷ ks) a some e = ap (λ a. option_map capped (option_map (up a) (fixed_end 0 (kinds_of (k ∷ ks))))) e
