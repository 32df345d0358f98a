-- Digits of bytes, and the attributes that pairs of them are.
use Rattle.std.proofs.Common.{◌≡◌, ◌≢◌, ◌<◌, ◌≤◌, ◌+◌, ◌⊎◌, inl, inr, ℕ, zero, suc, List, [], ◌∷◌, ◌++◌, length, take, get_or, map, Option, Some, None, MatchOption, Ok, Err, refl, sym, ◌∙◌, ap, subst, arith, rules}
use Rattle.std.proofs.lemmas.List.{take_more, take_all, map_push}
use Rattle.hex.specs.Hex.{IsBytes, decode_of}
use Rattle.hex.specs.declared.error.FromHexError.{FromHexError}
use Rattle.hex.specs.declared.error.FromHexError.TheVariants.{OutOfMemory}
use Rattle.hex.proofs.HexLemmas.{decode_of-encode_lower}
use Rattle.ost_types.specs.Csum.{hex_of}
use Rattle.ost_types.proofs.HexSums.{hex_of-injective}
use Rattle.ost_types.specs.declared.meta.Xattr.{Xattr}
use Rattle.script.specs.Field.{Gives}
use Rattle.script_reader.specs.Values.{pieces, IsPair, ArePairs, HasXattrs}

-- bytes that decode from the digits, and are written so or not
pub hex_read : (digits bytes : List ℕ) (o : Option (List ℕ)) → decode_of digits ≡ Ok bytes
    → MatchOption o (hex_of bytes ≢ digits) (λ b. (b ≡ bytes) × IsBytes bytes × (hex_of bytes ≡ digits))
    → Gives (λ b. IsBytes b × (hex_of b ≡ digits)) o
hex_read digits bytes None decoded other = λ b is.
    let e : Ok b ≡ Ok bytes = sym (decode_of-encode_lower b is.0) ∙ ap decode_of is.1 ∙ decoded in
    let same : b ≡ bytes = cc in
    other (ap hex_of (sym same) ∙ is.1)
hex_read digits bytes (Some b) decoded found = (subst IsBytes (sym found.0) found.1, ap hex_of found.0 ∙ found.2)

pub push_pair : (pairs : List (List ℕ)) (xattrs : List Xattr) (pair : List ℕ) (x : Xattr) → ArePairs pairs xattrs → IsPair pair x → ArePairs (pairs ++ pair ∷ []) (xattrs ++ x ∷ [])
push_pair [] [] pair x are is = (is, tt)
push_pair [] (y ∷ ys) pair x are is = absurd are
push_pair (p ∷ pairs) [] pair x are is = absurd are
push_pair (p ∷ pairs) (y ∷ ys) pair x are is = (are.0, push_pair pairs ys pair x are.1 is)

pub pairs_step : {V : Type 0} (now : V → List ℕ) (items : List V) (i : ℕ) (d : V) (xs : List Xattr) (x : Xattr) → i < length items
    → ArePairs (map now (take i items)) xs → IsPair (now (get_or items i d)) x → ArePairs (map now (take (i + 1) items)) (xs ++ x ∷ [])
pairs_step now items i d xs x less are pair =
    let all : map now (take (i + 1) items) ≡ map now (take i items) ++ now (get_or items i d) ∷ [] = ap (map now) (take_more items i d less) ∙ map_push now (take i items) (get_or items i d) in
    subst (λ t. ArePairs t (xs ++ x ∷ [])) (sym all) (push_pair (map now (take i items)) xs (now (get_or items i d)) x are pair)

pub pairs_none : {V : Type 0} (now : V → List ℕ) (items : List V) (i : ℕ) (d : V) → i < length items
    → ((x : Xattr) → ¬ (IsPair (now (get_or items i d)) x)) → (xs : List Xattr) → ¬ (ArePairs (map now items) xs)
pairs_none now [] i d less none xs are = absurd (omega (arith, less))
pairs_none now (v ∷ items) i d less none [] are = are
pairs_none now (v ∷ items) zero d less none (y ∷ ys) are = none y are.0
pairs_none now (v ∷ items) (suc i) d less none (y ∷ ys) are = pairs_none now items i d (omega (arith, less)) none ys are.1

pub pairs_all : {V : Type 0} (now : V → List ℕ) (items : List V) (i : ℕ) (xs : List Xattr) → length items ≤ i → ArePairs (map now (take i items)) xs → ArePairs (map now items) xs
pairs_all now items i xs all are = subst (λ t. ArePairs (map now t) xs) (take_all i items all) are

pair_one : (pair : List ℕ) (x y : Xattr) → IsPair pair x → IsPair pair y → x ≡ y
pair_one pair x y a b =
    let parts : hex_of x.name ∷ hex_of x.value ∷ [] ≡ hex_of y.name ∷ hex_of y.value ∷ [] = sym a.parts ∙ b.parts in
    let names : hex_of x.name ≡ hex_of y.name = cc in
    let values : hex_of x.value ≡ hex_of y.value = cc in
    let n : x.name ≡ y.name = hex_of-injective x.name y.name a.name b.name names in
    let v : x.value ≡ y.value = hex_of-injective x.value y.value a.value b.value values in
    by x y n v
  where
    by : (x y : Xattr) → x.name ≡ y.name → x.value ≡ y.value → x ≡ y
    by x y n v = search (rules, n, v)

pairs_one : (pairs : List (List ℕ)) (xs ys : List Xattr) → ArePairs pairs xs → ArePairs pairs ys → xs ≡ ys
pairs_one [] [] [] a b = refl
pairs_one [] [] (y ∷ ys) a b = absurd b
pairs_one [] (x ∷ xs) ys a b = absurd a
pairs_one (p ∷ pairs) [] ys a b = absurd a
pairs_one (p ∷ pairs) (x ∷ xs) [] a b = absurd b
pairs_one (p ∷ pairs) (x ∷ xs) (y ∷ ys) a b = ap (λ h. h ∷ xs) (pair_one p x y a.0 b.0) ∙ ap (λ t. y ∷ t) (pairs_one pairs xs ys a.1 b.1)

pub xattrs_one : (text : List ℕ) (xs ys : List Xattr) → HasXattrs text xs → HasXattrs text ys → xs ≡ ys
xattrs_one text xs ys (inl a) (inl b) = a.1 ∙ sym b.1
xattrs_one text xs ys (inl a) (inr b) = absurd (b.0 a.0)
xattrs_one text xs ys (inr a) (inl b) = absurd (a.0 b.0)
xattrs_one text xs ys (inr a) (inr b) = pairs_one (pieces 44 text) xs ys a.1 b.1

-- what was refused, but for want of memory
pub refused_hex : (digits : List ℕ) (e : FromHexError) → (e ≡ OutOfMemory) ⊎ (decode_of digits ≡ Err e) → (o : Option (List ℕ)) → (o ≡ None) × (e ≢ OutOfMemory) → Gives (λ b. IsBytes b × (hex_of b ≡ digits)) o
refused_hex digits e (inl memory) o found = absurd (found.1 memory)
refused_hex digits e (inr err) o found = subst (Gives (λ b. IsBytes b × (hex_of b ≡ digits))) (sym found.0) (λ b is.
    let n : Ok b ≡ Err e = sym (decode_of-encode_lower b is.0) ∙ ap decode_of is.1 ∙ err in cc)
