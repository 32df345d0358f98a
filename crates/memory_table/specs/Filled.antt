-- What becomes of the bytes of a file in a crash that spoils them.
use Rattle.std.specs.Prelude.{ℕ, List, map, bit_xor}

-- the bytes, each XORed with one byte
unfoldable pub filled : ℕ → List ℕ → List ℕ
filled fill bytes = map (λ b. bit_xor b fill) bytes
