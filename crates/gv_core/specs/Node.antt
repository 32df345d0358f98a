-- What a node of a type tree stands for.
use Rattle.std.specs.Prelude.{◌≡◌, ◌≤◌, ℕ, ◌+◌, ◌-◌, ◌^◌, min, List, [], ◌∷◌, option_map}
use Rattle.std.proofs.Common.{arith}
use denote.Param.Weighed.{most}
use Rattle.gv_core.specs.declared.kind.Shape.{Shape}
use Rattle.gv_core.specs.declared.kind.Shape.TheVariants.{Basic as Plain, Variant, Array, Maybe, Tuple, Entry}
use Rattle.gv_core.specs.declared.kind.Node.TheInside.{Inside}
use Rattle.gv_core.specs.Kind.{Kind, Kinds, basic, variant, array, maybe, tuple, entry, no_kinds, kind}
use Rattle.gv_core.specs.Measure.{alignment, fixed}

abbrev pub kinds_of : List Kind → Kinds
kinds_of [] = no_kinds
kinds_of (k ∷ ks) = kind k (kinds_of ks)

abbrev pub seen : Shape → Kind
seen (Plain x) = basic x
seen Variant = variant
seen (Array k) = array k.value
seen (Maybe k) = maybe k.value
seen (Tuple ks) = tuple (kinds_of ks.items)
seen (Entry x k) = entry x k.value

-- a size above the largest number is kept as the largest number
abbrev pub capped : ℕ → ℕ
capped n = min n (2 ^ 64 - 1)

pub record IsKnown (a : Inside) : Type 0 where
  pub align : a.align ≡ alignment (seen a.shape)
  pub size : a.size ≡ option_map capped (fixed (seen a.shape))

abbrev mutual
  pub weight : Kind → ℕ
  weight (basic x) = 1
  weight variant = 1
  weight (array k) = weight k + 1
  weight (maybe k) = weight k + 1
  weight (tuple ks) = weights ks + 1
  weight (entry x k) = weight k + 1

  pub weights : Kinds → ℕ
  weights no_kinds = 0
  weights (kind k ks) = weight k + weights ks

pub most_le-weights : (ks : List Kind) → most (λ k. weight k + 1) ks ≤ weights (kinds_of ks) + 1
most_le-weights [] = omega arith
most_le-weights (k ∷ ks) = omega (arith, most_le-weights ks)
