-- Alignments are from 1 to 8.
use Rattle.std.proofs.Common.{ℕ, ◌<◌, ◌≤◌, arith}
use Rattle.gv_core.specs.declared.kind.Basic.{Basic}
use Rattle.gv_core.specs.declared.kind.Basic.TheVariants as b
use Rattle.gv_core.specs.Kind.{Kind, Kinds, basic, variant, array, maybe, tuple, entry, no_kinds, kind}
use Rattle.gv_core.specs.Measure.{basic_alignment, alignment, widest}

pub record Small (n : ℕ) : Type 0 where
  pub positive : 0 < n
  pub below : n ≤ 8

basic_small : (x : Basic) → Small (basic_alignment x)
basic_small b.Byte = record { positive = omega arith; below = omega arith }
basic_small b.Bool = record { positive = omega arith; below = omega arith }
basic_small b.I16 = record { positive = omega arith; below = omega arith }
basic_small b.U16 = record { positive = omega arith; below = omega arith }
basic_small b.I32 = record { positive = omega arith; below = omega arith }
basic_small b.U32 = record { positive = omega arith; below = omega arith }
basic_small b.I64 = record { positive = omega arith; below = omega arith }
basic_small b.U64 = record { positive = omega arith; below = omega arith }
basic_small b.Handle = record { positive = omega arith; below = omega arith }
basic_small b.Double = record { positive = omega arith; below = omega arith }
basic_small b.Text = record { positive = omega arith; below = omega arith }
basic_small b.Path = record { positive = omega arith; below = omega arith }
basic_small b.Signature = record { positive = omega arith; below = omega arith }

mutual
  unfolding alignment

  pub small : (k : Kind) → Small (alignment k)
  small (basic x) = basic_small x
  small variant = record { positive = omega arith; below = omega arith }
  small (array k) = small k
  small (maybe k) = small k
  small (tuple ks) = smalls ks
  small (entry x k) = let p = basic_small x in let q = small k in record { positive = omega arith; below = omega arith }

  pub smalls : (ks : Kinds) → Small (widest ks)
  smalls no_kinds = record { positive = omega arith; below = omega arith }
  smalls (kind k ks) = let p = small k in let q = smalls ks in record { positive = omega arith; below = omega arith }
