-- A node that is written as a line is the node of that line.
use Rattle.std.proofs.Common.{◌≡◌, ◌≢◌, inl, inr, ⊎_elim, ◌<◌, ◌≤◌, ◌+◌, ◌-◌, ◌*◌, ◌/◌, ◌%◌, ◌^◌, ltb, nat_lt, ℕ, Bool, true, false, cond, List, [], ◌∷◌, ◌++◌, map, length, codes, All, Option, Some, None, refl, sym, ap, subst, arith, length-append}
use Rattle.std.specs.Fmt.{decimal}
use Rattle.std.specs.List.{join_with_byte}
use Rattle.std.specs.Str.Parse.{AllDigits}
use Rattle.std.specs.Char.{digit_value, encode_utf8}
use Rattle.std.specs.Str.{encode_utf8_all, all_scalars}
use Rattle.std.proofs.Math.Utf8.{scalar, scalar_cases}
use Rattle.std.proofs.lemmas.Bool.{and_parts, ltb-true}
use Rattle.std.proofs.lemmas.Fmt.{decimal_is_IsNumeral}
use Rattle.std.proofs.lemmas.Str.{digit_value_digit}
use Rattle.std.proofs.lemmas.Str.Parse.{digit_at, digit_from_value}
use Rattle.std.proofs.lemmas.List.Elements.{All-nil, All-cons, All-head, All-tail, All-append, All-weaker, All-from_get_or, All-from_recursion}
use Rattle.hex.specs.Hex.{IsBytes}
use Rattle.ost_types.specs.Csum.{hex_of, IsHexDigit}
use Rattle.ost_types.specs.Path.{Path, AreNames, joined, text_of}
use Rattle.ost_types.specs.Text.{IsText}
use Rattle.ost_types.specs.declared.meta.Xattr.{Xattr}
use Rattle.ost_forms.specs.declared.tree_item.TreeItem.{TreeItem}
use Rattle.ost_forms.specs.declared.tree_item.BodySpec.{BodySpec}
use Rattle.ost_forms.specs.declared.tree_item.BodySpec.TheVariants.{Given, Fill, Target}
use Rattle.script.specs.Field.{escaped, field_text, IsNumber, IsPathField, IsPathText, IsTextField}
use Rattle.script_reader.specs.Nodes.{IsMeta, IsLinkMeta, IsNode}
use Rattle.script_reader.specs.Values.{IsContent, IsOctal, IsMode, IsPair, ArePairs, HasXattrs, IsXattrs}
use Rattle.script_reader.specs.Writing.{number_text, line_text, pair_text, xattrs_text, octal_text, mode_text, fill_text, file_words, node_words, node_line, HasType, FitsNode, IsPlainXattr, IsWritableNode}
use Rattle.script_reader.proofs.FieldTexts.{IsVisible, bytes_from, one_byte, visible_bytes, visible_all, digit_visible, hex_digits, hex_visible, escaped_spells, escaped_visible, field_spelled, field_visible}
use Rattle.script_reader.proofs.Joins.{Lacks, cut_joined, joined_all}
use Rattle.script_reader.proofs.Lines.{cut_words, one_line}

-- ---- the bytes of what is written

decimal_small : (n : ℕ) → n < 2 ^ 64 → All (λ b. b < 256) (decimal n)
decimal_small n less = All-from_get_or (λ b. b < 256) (decimal n) 0 (λ i lt. omega (arith, (digit_at (decimal n) i (decimal_is_IsNumeral n less).0.1 lt).1))

pub decimal_bytes : (n : ℕ) → n < 2 ^ 64 → IsBytes (decimal n)
decimal_bytes n less = bytes_from (decimal n) (decimal_small n less)

two_small : (a b : ℕ) → a < 256 → b < 256 → All (λ b. b < 256) (a ∷ b ∷ [])
two_small a b p q = All-cons (λ b. b < 256) a (b ∷ []) p (All-cons (λ b. b < 256) b [] q (All-nil (λ b. b < 256)))

char_small : (c : ℕ) → c < 1114112 → All (λ b. b < 256) (encode_utf8 c)
unfolding encode_utf8
char_small c less = first (ltb c 128) refl
  where
    third : (t : Bool) → ltb c 65536 ≡ t → All (λ b. b < 256) (cond t ((224 + c / 4096) ∷ (128 + c / 64 % 64) ∷ (128 + c % 64) ∷ []) ((240 + c / 262144) ∷ (128 + c / 4096 % 64) ∷ (128 + c / 64 % 64) ∷ (128 + c % 64) ∷ []))
    third true e =
        let high = ltb-true c 65536 e in
        All-cons (λ b. b < 256) (224 + c / 4096) ((128 + c / 64 % 64) ∷ (128 + c % 64) ∷ []) (omega (arith, high)) (two_small (128 + c / 64 % 64) (128 + c % 64) (omega arith) (omega arith))
    third false e =
        All-cons (λ b. b < 256) (240 + c / 262144) ((128 + c / 4096 % 64) ∷ (128 + c / 64 % 64) ∷ (128 + c % 64) ∷ []) (omega (arith, less))
        (All-cons (λ b. b < 256) (128 + c / 4096 % 64) ((128 + c / 64 % 64) ∷ (128 + c % 64) ∷ []) (omega arith) (two_small (128 + c / 64 % 64) (128 + c % 64) (omega arith) (omega arith)))

    second : (t : Bool) → ltb c 2048 ≡ t
        → All (λ b. b < 256) (cond t ((192 + c / 64) ∷ (128 + c % 64) ∷ []) (cond (ltb c 65536) ((224 + c / 4096) ∷ (128 + c / 64 % 64) ∷ (128 + c % 64) ∷ []) ((240 + c / 262144) ∷ (128 + c / 4096 % 64) ∷ (128 + c / 64 % 64) ∷ (128 + c % 64) ∷ [])))
    second true e = let high = ltb-true c 2048 e in two_small (192 + c / 64) (128 + c % 64) (omega (arith, high)) (omega arith)
    second false e = third (ltb c 65536) refl

    first : (t : Bool) → ltb c 128 ≡ t
        → All (λ b. b < 256) (cond t (c ∷ []) (cond (ltb c 2048) ((192 + c / 64) ∷ (128 + c % 64) ∷ []) (cond (ltb c 65536) ((224 + c / 4096) ∷ (128 + c / 64 % 64) ∷ (128 + c % 64) ∷ []) ((240 + c / 262144) ∷ (128 + c / 4096 % 64) ∷ (128 + c / 64 % 64) ∷ (128 + c % 64) ∷ []))))
    first true e = let high = ltb-true c 128 e in All-cons (λ b. b < 256) c [] (omega (arith, high)) (All-nil (λ b. b < 256))
    first false e = second (ltb c 2048) refl

scalar_small : (c : ℕ) → scalar c ≡ true → c < 1114112
scalar_small c is = ⊎_elim (λ h. omega (arith, h)) (λ h. h.1) (scalar_cases c is)

utf8_small : (cs : List ℕ) → all_scalars cs ≡ true → All (λ b. b < 256) (encode_utf8_all cs)
utf8_small [] is = All-nil (λ b. b < 256)
utf8_small (c ∷ cs) is =
    let parts = and_parts (scalar c) (all_scalars cs) is in
    All-append (λ b. b < 256) (encode_utf8 c) (encode_utf8_all cs) (char_small c (scalar_small c parts.0)) (utf8_small cs parts.1)

text_small : (text : List ℕ) → IsText text → All (λ b. b < 256) text
text_small text is = subst (All (λ b. b < 256)) is.utf8.1.1 (utf8_small is.utf8.0 is.utf8.1.0)

pub text_bytes : (text : List ℕ) → IsText text → IsBytes text
text_bytes text is = bytes_from text (text_small text is)

joined_small : (path : Path) → AreNames path → All (λ b. b < 256) (joined path)
unfolding joined
joined_small [] are = All-nil (λ b. b < 256)
joined_small (name ∷ path) are = All-cons (λ b. b < 256) 47 (name ++ joined path) (omega arith) (All-append (λ b. b < 256) name (joined path) (text_small name are.0.text) (joined_small path are.1))

path_small : (path : Path) → AreNames path → All (λ b. b < 256) (text_of path)
path_small [] are = All-cons (λ b. b < 256) 47 [] (omega arith) (All-nil (λ b. b < 256))
path_small (name ∷ path) are = joined_small (name ∷ path) are

path_bytes : (path : Path) → IsPathText (text_of path) path → IsBytes (text_of path)
path_bytes path is = bytes_from (text_of path) (path_small path is.0)

-- ---- fields

pub number_back : (bound n : ℕ) → bound ≤ 2 ^ 64 → n < bound → IsNumber bound (number_text n) n
number_back bound n low less = record { spelled = field_spelled (decimal n) (decimal_bytes n (omega (arith, low, less))); below = less }

pub text_back : (text : List ℕ) → IsText text → IsTextField (field_text text) text
text_back text is = record { spelled = field_spelled text (text_bytes text is); text = is }

pub path_back : (path : Path) → IsPathText (text_of path) path → IsPathField (field_text (text_of path)) path
path_back path is = record { text = text_of path; spelled = field_spelled (text_of path) (path_bytes path is); written = is }

pub path_visible : (path : Path) → IsPathText (text_of path) path → All IsVisible (field_text (text_of path))
path_visible path is = field_visible (text_of path) (path_bytes path is)

pub number_visible : (n : ℕ) → n < 2 ^ 64 → All IsVisible (number_text n)
number_visible n less = field_visible (decimal n) (decimal_bytes n less)

-- ---- permissions

octal_digit : (d : ℕ) → d < 8 → digit_value (48 + d) ≡ d
octal_digit d small = let is = digit_value_digit (48 + d) (omega arith, omega (arith, small)) in omega (arith, is)

octal_one : (a : ℕ) → a < 8 → IsOctal ((48 + a) ∷ []) a
octal_one a p =
    let x = octal_digit a p in
    record { some = omega arith; few = omega arith; octal = (omega (arith, x, p), tt); front = λ e. omega arith; value = omega (arith, x) }

octal_two : (a b : ℕ) → 0 < a → a < 8 → b < 8 → IsOctal ((48 + a) ∷ (48 + b) ∷ []) (a * 8 + b)
octal_two a b some p q =
    let x = octal_digit a p in
    let y = octal_digit b q in
    record { some = omega arith; few = omega arith; octal = (omega (arith, x, p), (omega (arith, y, q), tt)); front = λ e. absurd (omega (arith, some, e)); value = omega (arith, x, y) }

octal_three : (a b c : ℕ) → 0 < a → a < 8 → b < 8 → c < 8 → IsOctal ((48 + a) ∷ (48 + b) ∷ (48 + c) ∷ []) ((a * 8 + b) * 8 + c)
octal_three a b c some p q r =
    let x = octal_digit a p in
    let y = octal_digit b q in
    let z = octal_digit c r in
    record { some = omega arith; few = omega arith; octal = (omega (arith, x, p), (omega (arith, y, q), (omega (arith, z, r), tt))); front = λ e. absurd (omega (arith, some, e)); value = omega (arith, x, y, z) }

octal_four : (a b c d : ℕ) → 0 < a → a < 8 → b < 8 → c < 8 → d < 8 → IsOctal ((48 + a) ∷ (48 + b) ∷ (48 + c) ∷ (48 + d) ∷ []) (((a * 8 + b) * 8 + c) * 8 + d)
octal_four a b c d some p q r s =
    let x = octal_digit a p in
    let y = octal_digit b q in
    let z = octal_digit c r in
    let w = octal_digit d s in
    record {
      some = omega arith;
      few = omega arith;
      octal = (omega (arith, x, p), (omega (arith, y, q), (omega (arith, z, r), (omega (arith, w, s), tt))));
      front = λ e. absurd (omega (arith, some, e));
      value = omega (arith, x, y, z, w);
    }

octal_back : (n : ℕ) → n < 4096 → IsOctal (octal_text n) n
octal_back n small = first (nat_lt n 8) refl
  where
    fourth : (t : Bool) → nat_lt n 512 ≡ t → 64 ≤ n → IsOctal (cond t ((48 + n / 64) ∷ (48 + n / 8 % 8) ∷ (48 + n % 8) ∷ []) ((48 + n / 512) ∷ (48 + n / 64 % 8) ∷ (48 + n / 8 % 8) ∷ (48 + n % 8) ∷ [])) n
    fourth true e low =
        let high : n < 512 = grind (arith, e) in
        subst (IsOctal ((48 + n / 64) ∷ (48 + n / 8 % 8) ∷ (48 + n % 8) ∷ [])) (omega arith) (octal_three (n / 64) (n / 8 % 8) (n % 8) (omega (arith, low)) (omega (arith, high)) (omega arith) (omega arith))
    fourth false e low =
        let high : 512 ≤ n = grind (arith, e) in
        subst (IsOctal ((48 + n / 512) ∷ (48 + n / 64 % 8) ∷ (48 + n / 8 % 8) ∷ (48 + n % 8) ∷ [])) (omega arith)
        (octal_four (n / 512) (n / 64 % 8) (n / 8 % 8) (n % 8) (omega (arith, high)) (omega (arith, small)) (omega arith) (omega arith) (omega arith))

    second : (t : Bool) → nat_lt n 64 ≡ t → 8 ≤ n
        → IsOctal (cond t ((48 + n / 8) ∷ (48 + n % 8) ∷ []) (cond (nat_lt n 512) ((48 + n / 64) ∷ (48 + n / 8 % 8) ∷ (48 + n % 8) ∷ []) ((48 + n / 512) ∷ (48 + n / 64 % 8) ∷ (48 + n / 8 % 8) ∷ (48 + n % 8) ∷ []))) n
    second true e low =
        let high : n < 64 = grind (arith, e) in
        subst (IsOctal ((48 + n / 8) ∷ (48 + n % 8) ∷ [])) (omega arith) (octal_two (n / 8) (n % 8) (omega (arith, low)) (omega (arith, high)) (omega arith))
    second false e low = fourth (nat_lt n 512) refl (grind (arith, e))

    first : (t : Bool) → nat_lt n 8 ≡ t
        → IsOctal (cond t ((48 + n) ∷ []) (cond (nat_lt n 64) ((48 + n / 8) ∷ (48 + n % 8) ∷ []) (cond (nat_lt n 512) ((48 + n / 64) ∷ (48 + n / 8 % 8) ∷ (48 + n % 8) ∷ []) ((48 + n / 512) ∷ (48 + n / 64 % 8) ∷ (48 + n / 8 % 8) ∷ (48 + n % 8) ∷ [])))) n
    first true e = octal_one n (grind (arith, e))
    first false e = second (nat_lt n 64) refl (grind (arith, e))

octal_small : (digits : List ℕ) → AllDigits 8 digits → All (λ b. b < 256) digits
octal_small [] are = All-nil (λ b. b < 256)
octal_small (c ∷ digits) are =
    let range = digit_from_value c (omega (arith, are.0)) in
    All-cons (λ b. b < 256) c digits (omega (arith, range.1)) (octal_small digits are.1)

mode_back : (bits mode : ℕ) → HasType bits mode → IsMode (mode_text bits mode) (mode - bits)
mode_back bits mode has =
    let is = octal_back (mode - bits) (omega (arith, has.low, has.high)) in
    record { text = octal_text (mode - bits); spelled = field_spelled (octal_text (mode - bits)) (bytes_from (octal_text (mode - bits)) (octal_small (octal_text (mode - bits)) is.octal)); written = is }

mode_visible : (bits mode : ℕ) → HasType bits mode → All IsVisible (mode_text bits mode)
mode_visible bits mode has = field_visible (octal_text (mode - bits)) (bytes_from (octal_text (mode - bits)) (octal_small (octal_text (mode - bits)) (octal_back (mode - bits) (omega (arith, has.low, has.high))).octal))

-- ---- attributes

no_colon : (b : ℕ) → IsHexDigit b → b ≢ 58
no_colon b (inl is) e = omega (arith, is.1, e)
no_colon b (inr is) e = omega (arith, is.0, e)

no_comma : (b : ℕ) → IsHexDigit b → b ≢ 44
no_comma b (inl is) e = omega (arith, is.0, e)
no_comma b (inr is) e = omega (arith, is.0, e)

both_all : {X : Type 0} (P : X → Type 0) (a b : X) → P a → P b → All P (a ∷ b ∷ [])
both_all P a b p q = All-cons P a (b ∷ []) p (All-cons P b [] q (All-nil P))

digits_all : (P : ℕ → Type 0) → ((b : ℕ) → IsHexDigit b → P b) → (xattr : Xattr) → IsPlainXattr xattr → All (All P) (hex_of xattr.name ∷ hex_of xattr.value ∷ [])
digits_all P each xattr is = both_all (All P) (hex_of xattr.name) (hex_of xattr.value) (All-weaker IsHexDigit P each (hex_of xattr.name) (hex_digits xattr.name is.0)) (All-weaker IsHexDigit P each (hex_of xattr.value) (hex_digits xattr.value is.1))

pair_back : (xattr : Xattr) → IsPlainXattr xattr → IsPair (pair_text xattr) xattr
pair_back xattr is = record { parts = cut_joined 58 (hex_of xattr.name) (hex_of xattr.value ∷ []) (digits_all (λ b. b ≢ 58) no_colon xattr is); name = is.0; value = is.1 }

pair_all : (P : ℕ → Type 0) → P 58 → ((b : ℕ) → IsHexDigit b → P b) → (xattr : Xattr) → IsPlainXattr xattr → All P (pair_text xattr)
pair_all P colon each xattr is = joined_all P 58 (hex_of xattr.name ∷ hex_of xattr.value ∷ []) colon (digits_all P each xattr is)

pairs_all : (P : ℕ → Type 0) → P 58 → ((b : ℕ) → IsHexDigit b → P b) → (xattrs : List Xattr) → All IsPlainXattr xattrs → All (All P) (map pair_text xattrs)
pairs_all P colon each [] are = All-nil (All P)
pairs_all P colon each (x ∷ xattrs) are =
    All-cons (All P) (pair_text x) (map pair_text xattrs) (pair_all P colon each x (All-head IsPlainXattr x xattrs are)) (pairs_all P colon each xattrs (All-tail IsPlainXattr x xattrs are))

pairs_back : (xattrs : List Xattr) → All IsPlainXattr xattrs → ArePairs (map pair_text xattrs) xattrs
pairs_back [] are = tt
pairs_back (x ∷ xattrs) are = (pair_back x (All-head IsPlainXattr x xattrs are), pairs_back xattrs (All-tail IsPlainXattr x xattrs are))

some_pair : (x : Xattr) → 1 ≤ length (pair_text x)
some_pair x = omega (arith, length-append (hex_of x.name) (58 ∷ hex_of x.value))

some_pairs : (x : Xattr) (xattrs : List Xattr) → 1 ≤ length (join_with_byte 44 (map pair_text (x ∷ xattrs)))
some_pairs x [] = some_pair x
some_pairs x (y ∷ xattrs) = omega (arith, some_pair x, length-append (pair_text x) (44 ∷ join_with_byte 44 (map pair_text (y ∷ xattrs))))

pairs_read : (xattrs : List Xattr) → All IsPlainXattr xattrs → HasXattrs (join_with_byte 44 (map pair_text xattrs)) xattrs
pairs_read [] are = inl (refl, refl)
pairs_read (x ∷ xattrs) are = inr (
  λ none. omega (arith, ap length none, some_pairs x xattrs),
  subst (λ t. ArePairs t (x ∷ xattrs)) (sym (cut_joined 44 (pair_text x) (map pair_text xattrs) (pairs_all (λ b. b ≢ 44) (λ e. omega (arith, e)) no_comma (x ∷ xattrs) are))) (pairs_back (x ∷ xattrs) are),
)

pairs_bytes : (xattrs : List Xattr) → All IsPlainXattr xattrs → IsBytes (join_with_byte 44 (map pair_text xattrs))
pairs_bytes xattrs are =
    visible_bytes (join_with_byte 44 (map pair_text xattrs)) (joined_all IsVisible 44 (map pair_text xattrs) (omega arith, omega arith) (pairs_all IsVisible (omega arith, omega arith) digit_visible xattrs are))

xattrs_back : (xattrs : List Xattr) → All IsPlainXattr xattrs → IsXattrs (xattrs_text xattrs) xattrs
xattrs_back xattrs are = record { text = join_with_byte 44 (map pair_text xattrs); spelled = field_spelled (join_with_byte 44 (map pair_text xattrs)) (pairs_bytes xattrs are); written = pairs_read xattrs are }

-- ---- contents

given_back : (bytes : List ℕ) → IsBytes bytes → IsContent (61 ∷ escaped bytes) (Given bytes)
given_back bytes are = (escaped bytes, refl, escaped_spells bytes are)

fill_small : (len byte : ℕ) → len ≤ 268435456 → byte < 256 → All (λ b. b < 256) (42 ∷ (decimal len ++ (58 ∷ hex_of (byte ∷ []))))
fill_small len byte few small =
    All-cons (λ b. b < 256) 42 (decimal len ++ (58 ∷ hex_of (byte ∷ []))) (omega arith)
    (All-append (λ b. b < 256) (decimal len) (58 ∷ hex_of (byte ∷ [])) (decimal_small len (omega (arith, few)))
    (All-cons (λ b. b < 256) 58 (hex_of (byte ∷ [])) (omega arith) (All-weaker IsVisible (λ b. b < 256) (λ b is. omega (arith, is.1)) (hex_of (byte ∷ [])) (hex_visible (byte ∷ []) (one_byte byte small)))))

fill_bytes : (len byte : ℕ) → len ≤ 268435456 → byte < 256 → IsBytes (42 ∷ (decimal len ++ (58 ∷ hex_of (byte ∷ []))))
fill_bytes len byte few small = bytes_from (42 ∷ (decimal len ++ (58 ∷ hex_of (byte ∷ [])))) (fill_small len byte few small)

fill_back : (len byte : ℕ) → len ≤ 268435456 → byte < 256 → IsContent (fill_text len byte) (Fill len byte)
fill_back len byte few small = record {
  text = 42 ∷ (decimal len ++ (58 ∷ hex_of (byte ∷ [])));
  spelled = field_spelled (42 ∷ (decimal len ++ (58 ∷ hex_of (byte ∷ [])))) (fill_bytes len byte few small);
  written = record { written = refl; few = few; small = small };
}

-- ---- nodes

module _ (item : TreeItem) (is : IsWritableNode item) where
  meta_back : (bits : ℕ) → HasType bits item.meta.mode → IsMeta bits (number_text item.meta.uid) (number_text item.meta.gid) (mode_text bits item.meta.mode) (xattrs_text item.meta.xattrs) item.meta
  meta_back bits has = record {
    owner = number_back (2 ^ 32) item.meta.uid (omega arith) is.owner;
    group = number_back (2 ^ 32) item.meta.gid (omega arith) is.group;
    bits = item.meta.mode - bits;
    permissions = mode_back bits item.meta.mode has;
    mode = omega (arith, has.low);
    xattrs = xattrs_back item.meta.xattrs is.xattrs;
  }

  link_meta_back : item.meta.mode ≡ 41471 → IsLinkMeta (number_text item.meta.uid) (number_text item.meta.gid) (xattrs_text item.meta.xattrs) item.meta
  link_meta_back mode = record {
    owner = number_back (2 ^ 32) item.meta.uid (omega arith) is.owner;
    group = number_back (2 ^ 32) item.meta.gid (omega arith) is.group;
    mode = mode;
    xattrs = xattrs_back item.meta.xattrs is.xattrs;
  }

  owner_visible : All IsVisible (number_text item.meta.uid)
  owner_visible = number_visible item.meta.uid (omega (arith, is.owner))

  group_visible : All IsVisible (number_text item.meta.gid)
  group_visible = number_visible item.meta.gid (omega (arith, is.group))

  xattrs_visible : All IsVisible (xattrs_text item.meta.xattrs)
  xattrs_visible = field_visible (join_with_byte 44 (map pair_text item.meta.xattrs)) (pairs_bytes item.meta.xattrs is.xattrs)

  file_visible : (content : List ℕ) → HasType 32768 item.meta.mode → All IsVisible content → All (All IsVisible) (file_words item content)
  file_visible content has seen =
      All-from_recursion (All IsVisible) (file_words item content)
      (visible_all (codes "file") refl, (path_visible item.path is.path, (owner_visible, (group_visible, (mode_visible 32768 item.meta.mode has, (xattrs_visible, (seen, tt)))))))

  given_visible : (bytes : List ℕ) → IsBytes bytes → All IsVisible (61 ∷ escaped bytes)
  given_visible bytes are = All-cons IsVisible 61 (escaped bytes) (omega arith, omega arith) (escaped_visible bytes are)

  fill_visible : (len byte : ℕ) → len ≤ 268435456 → byte < 256 → All IsVisible (fill_text len byte)
  fill_visible len byte few small = field_visible (42 ∷ (decimal len ++ (58 ∷ hex_of (byte ∷ [])))) (fill_bytes len byte few small)

  words_visible : (body : Option BodySpec) → FitsNode item.meta.mode body → All (All IsVisible) (node_words item body)
  words_visible None fits =
      All-from_recursion (All IsVisible) (node_words item None)
      (visible_all (codes "folder") refl, (path_visible item.path is.path, (owner_visible, (group_visible, (mode_visible 16384 item.meta.mode fits, (xattrs_visible, tt))))))
  words_visible (Some (Given bytes)) fits = file_visible (61 ∷ escaped bytes) fits.0 (given_visible bytes fits.1)
  words_visible (Some (Fill len byte)) fits = file_visible (fill_text len byte) fits.0 (fill_visible len byte fits.1 fits.2)
  words_visible (Some (Target target)) fits =
      All-from_recursion (All IsVisible) (node_words item (Some (Target target)))
      (visible_all (codes "link") refl, (path_visible item.path is.path, (owner_visible, (group_visible, (xattrs_visible, (field_visible target (text_bytes target fits.1), tt))))))

  file_at : (content : List ℕ) (body : BodySpec) → item.body ≡ Some body → HasType 32768 item.meta.mode → All IsVisible content → IsContent content body → IsNode (line_text (file_words item content)) item
  file_at content body holds has seen written =
      (_, inr (inl (cut_words _ _ (file_visible content has seen), (_, _, _, _, _, _, refl, record { path = path_back item.path is.path; meta = meta_back 32768 has; content = body; body = holds; written = written }))))

  node_at : (body : Option BodySpec) → item.body ≡ body → FitsNode item.meta.mode body → IsNode (line_text (node_words item body)) item
  node_at None holds fits = (_, inl (cut_words _ _ (words_visible None fits), (_, _, _, _, _, refl, record { path = path_back item.path is.path; meta = meta_back 16384 fits; body = holds })))
  node_at (Some (Given bytes)) holds fits =
      file_at (61 ∷ escaped bytes) (Given bytes) holds fits.0 (given_visible bytes fits.1) (given_back bytes fits.1)
  node_at (Some (Fill len byte)) holds fits =
      file_at (fill_text len byte) (Fill len byte) holds fits.0 (fill_visible len byte fits.1 fits.2) (fill_back len byte fits.1 fits.2)
  node_at (Some (Target target)) holds fits =
      (_, inr (inr (cut_words _ _ (words_visible (Some (Target target)) fits), (_, _, _, _, _, refl, record { path = path_back item.path is.path; meta = link_meta_back fits.0; target = target; body = holds; written = record { text = text_back target fits.1; some = fits.2 } }))))

  pub node_back : IsNode (node_line item) item
  node_back = node_at item.body refl is.holds

  pub node_one_line : Lacks 10 (node_line item)
  node_one_line = one_line (node_words item item.body) (words_visible item.body is.holds)
