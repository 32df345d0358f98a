-- The name of bytes is a whole sum.
use Rattle.std.proofs.Common.{◌≡◌, ◌<◌, ◌^◌, ◌/◌, ◌%◌, ℕ, zero, suc, arith, subst, List, [], ◌∷◌, ◌++◌, length, ap, sym, ◌∙◌}
use Rattle.std.specs.Int.{w32, to_be_bytes, bytes_high_first, byte_at}
use Rattle.std.specs.Prelude.{slice_index}
use Rattle.hex.specs.Hex.{IsBytes}
use Rattle.sha2.specs.Sha256.{digest_bytes, sha256}
use Rattle.sha2.proofs.Facts256.{length-sha256}
use Rattle.ost_types.specs.declared.object.ObjName.{ObjName}
use Rattle.ost_objects.specs.Object.{IsNamed}
use Rattle.repo_layout.specs.RefFile.{IsSum}

IsBytes-append : (xs ys : List ℕ) → IsBytes xs → IsBytes ys → IsBytes (xs ++ ys)
IsBytes-append [] ys a b i = b i
IsBytes-append (x ∷ xs) ys a b zero = a zero
IsBytes-append (x ∷ xs) ys a b (suc i) = IsBytes-append xs ys (λ j. a (suc j)) b i

none : IsBytes []
none i = omega arith

rest_small : (x : ℕ) → x % 256 < 256
rest_small x = omega arith

small : (k n : ℕ) → byte_at k n < 256
small zero n = rest_small n
small (suc i) n = rest_small (n / 256 ^ suc i)

high : (k n : ℕ) → IsBytes (bytes_high_first k n)
high zero n i = none i
high (suc k) n zero = small k n
high (suc k) n (suc i) = high k n i

word : (n : ℕ) → IsBytes (to_be_bytes w32 n)
word n = high 4 n

digest : (h : List ℕ) (n : ℕ) → IsBytes (digest_bytes h n)
unfolding digest_bytes
digest h zero = none
digest h (suc n) = IsBytes-append (digest_bytes h n) (to_be_bytes w32 (slice_index h n)) (digest h n) (word (slice_index h n))

sum_bytes : (m : List ℕ) → IsBytes (sha256 m)
unfolding sha256
sum_bytes m = digest _ 8

pub IsSum-named : (name : ObjName) (bytes : List ℕ) → IsNamed name bytes → IsSum name.csum
IsSum-named name bytes named = record { whole = subst (λ s. length s ≡ 32) named (length-sha256 bytes); bytes = subst IsBytes named (sum_bytes bytes) }
