-- The numbers of a header stand in it at their places.
use Rattle.std.proofs.Common.{◌≡◌, ℕ, ◌<◌, ◌^◌, List, take, drop, ap, ◌∙◌}
use Rattle.std.specs.Int.{from_be_bytes, w32}
use Rattle.std.proofs.lemmas.Nat.{from_be_bytes-to_be_bytes_4}
use Rattle.host_files.specs.Header.{header}

pub owner_at : (bytes : List ℕ) (u g m : ℕ) → u < 2 ^ 32 → bytes ≡ header u g m → from_be_bytes w32 (take 4 (drop 8 bytes)) ≡ u
owner_at bytes u g m fits is = ap (λ (b : List ℕ). from_be_bytes w32 (take 4 (drop 8 b))) is ∙ from_be_bytes-to_be_bytes_4 u fits

pub group_at : (bytes : List ℕ) (u g m : ℕ) → g < 2 ^ 32 → bytes ≡ header u g m → from_be_bytes w32 (take 4 (drop 12 bytes)) ≡ g
group_at bytes u g m fits is = ap (λ (b : List ℕ). from_be_bytes w32 (take 4 (drop 12 b))) is ∙ from_be_bytes-to_be_bytes_4 g fits

pub mode_at : (bytes : List ℕ) (u g m : ℕ) → m < 2 ^ 32 → bytes ≡ header u g m → from_be_bytes w32 (take 4 (drop 16 bytes)) ≡ m
mode_at bytes u g m fits is = ap (λ (b : List ℕ). from_be_bytes w32 (take 4 (drop 16 b))) is ∙ from_be_bytes-to_be_bytes_4 m fits
