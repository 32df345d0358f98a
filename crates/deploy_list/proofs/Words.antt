-- Texts in one line, and words without blanks.
use Rattle.std.proofs.Common.{◌≡◌, ◌≢◌, ◌<◌, ◌≤◌, ◌+◌, ◌^◌, ◌%◌, ◌&&◌, ◌⊎◌, inl, inr, not, nat_le, ℕ, zero, suc, Bool, true, false, IsTrue, cond, List, [], ◌∷◌, ◌++◌, All, length, take, filter, codes, refl, sym, ◌∙◌, ap, subst, append_assoc, arith}
use Rattle.std.specs.Fmt.{decimal}
use Rattle.std.specs.List.{flat_map, list_all, slice_split}
use Rattle.std.proofs.lemmas.Bool.{and_parts}
use Rattle.std.proofs.lemmas.Bool.Decides.{nat_tests}
use Rattle.std.proofs.lemmas.Fmt.{decimal_by_steps, decimal_nonempty}
use Rattle.std.proofs.lemmas.List.Elements.{All-cons, All-append, All-head, All-tail, All-weaker}
use Rattle.std.proofs.lemmas.List.Splits.{slice_split_at, slice_split_none}
use Rattle.std.proofs.lemmas.Slice.Eq.{bytes_eq-Decides}
use Rattle.std.proofs.lemmas.Str.{IsUtf8-from_ascii, IsUtf8-append}
use Rattle.std.proofs.lemmas.Str.Ascii.{IsAscii-from_all}
use Rattle.ost_types.specs.Csum.{IsHexDigit, hex_of}
use Rattle.ost_types.specs.Path.{same_name}
use Rattle.ost_types.specs.Text.{IsText}
use Rattle.ost_types.proofs.HexSums.{IsHexSum-hex_of}
use Rattle.repo_layout.specs.RefFile.{IsSum}
use Rattle.repo_layout.specs.RefName.{is_part_byte}
use Rattle.boot_model.specs.Items.{IsKarg, IsWordByte, is_kver_byte}
use Rattle.boot_model.specs.Entries.{spaced}
use Rattle.bls_entry.specs.Line.{BeginsPlain, IsOneLine, is_blank}
use Rattle.bls_entry.specs.Options.{HasOstree, is_ostree, ostree_key, words_of}

none : {X : Type 0} (P : X → Type 0) → All P []
none P = λ k d less. absurd (omega (arith, less))

-- a byte that shows: from `!` to `~`
abbrev pub IsShown : ℕ → Type 0
IsShown b = (33 ≤ b) × (b ≤ 126)

-- a text in one line
pub record IsPiece (x : List ℕ) : Type 0 where
  pub text : IsText x
  pub line : IsOneLine x

pub piece_append : (x y : List ℕ) → IsPiece x → IsPiece y → IsPiece (x ++ y)
piece_append x y a b = record {
  text = record { utf8 = IsUtf8-append x y a.text.utf8 b.text.utf8; no_zero = All-append (λ c. c ≢ 0) x y a.text.no_zero b.text.no_zero };
  line = All-append (λ c. c ≢ 10) x y a.line b.line;
}

-- bytes from the space to `~`
abbrev IsPrinted : ℕ → Type 0
IsPrinted b = (32 ≤ b) × (b ≤ 126)

printed_piece : (x : List ℕ) → All IsPrinted x → IsPiece x
printed_piece x all = record {
  text = record {
    utf8 = IsUtf8-from_ascii x (IsAscii-from_all x (All-weaker IsPrinted (λ b. b < 128) (λ b p. omega (arith, p.1)) x all));
    no_zero = All-weaker IsPrinted (λ b. b ≢ 0) (λ b p e. omega (arith, p.0, e)) x all;
  };
  line = All-weaker IsPrinted (λ b. b ≢ 10) (λ b p e. omega (arith, p.0, e)) x all;
}

pub shown_piece : (x : List ℕ) → All IsShown x → IsPiece x
shown_piece x all = printed_piece x (All-weaker IsShown IsPrinted (λ b p. (omega (arith, p.0), p.1)) x all)

-- words that are written out
abbrev is_printed : ℕ → Bool
is_printed b = nat_le 32 b && nat_le b 126

abbrev is_shown : ℕ → Bool
is_shown b = nat_le 33 b && nat_le b 126

pub by_test : (p : ℕ → Bool) (P : ℕ → Type 0) → ((b : ℕ) → p b ≡ true → P b) → (xs : List ℕ) → list_all p xs ≡ true → All P xs
by_test p P gives [] e = none P
by_test p P gives (x ∷ xs) e = let h = and_parts (p x) (list_all p xs) e in All-cons P x xs (gives x h.0) (by_test p P gives xs h.1)

pub written : (x : List ℕ) → list_all is_printed x ≡ true → IsPiece x
written x e = printed_piece x (by_test is_printed IsPrinted (λ b h. let p = and_parts (nat_le 32 b) (nat_le b 126) h in (grind (arith, nat_tests, p), grind (arith, nat_tests, p))) x e)

pub written_word : (x : List ℕ) → list_all is_shown x ≡ true → All IsShown x
written_word x e = by_test is_shown IsShown (λ b h. let p = and_parts (nat_le 33 b) (nat_le b 126) h in (grind (arith, nat_tests, p), grind (arith, nat_tests, p))) x e

-- ---- names and numbers

part_shown : (b : ℕ) → IsTrue (is_part_byte b) → IsShown b
part_shown b is = (grind (arith, nat_tests), grind (arith, nat_tests))

pub parts_shown : (x : List ℕ) → All (λ b. IsTrue (is_part_byte b)) x → All IsShown x
parts_shown x all = All-weaker (λ b. IsTrue (is_part_byte b)) IsShown part_shown x all

kver_byte_shown : (b : ℕ) → IsTrue (is_kver_byte b) → IsShown b
kver_byte_shown b is = (grind (arith, nat_tests), grind (arith, nat_tests))

pub kver_shown : (x : List ℕ) → All (λ b. IsTrue (is_kver_byte b)) x → All IsShown x
kver_shown x all = All-weaker (λ b. IsTrue (is_kver_byte b)) IsShown kver_byte_shown x all

hex_digit_shown : (b : ℕ) → IsHexDigit b → IsShown b
hex_digit_shown b (inl h) = (omega (arith, h.0), omega (arith, h.1))
hex_digit_shown b (inr h) = (omega (arith, h.0), omega (arith, h.1))

pub hex_shown : (sum : List ℕ) → IsSum sum → All IsShown (hex_of sum)
hex_shown sum is = All-weaker IsHexDigit IsShown hex_digit_shown (hex_of sum) (IsHexSum-hex_of sum is.whole is.bytes).digits

pub decimal_shown : (n : ℕ) → n < 2 ^ 64 → All IsShown (decimal n)
decimal_shown = decimal_by_steps (λ n ds. All IsShown ds)
    (λ n less. All-cons IsShown (48 + n) [] (omega arith, omega arith) (none IsShown))
    (λ n ds less all. All-append IsShown ds ((48 + n % 10) ∷ []) all (All-cons IsShown (48 + n % 10) [] (omega arith, omega arith) (none IsShown)))

pub shown_append : (x y : List ℕ) → All IsShown x → All IsShown y → All IsShown (x ++ y)
shown_append x y a b = All-append IsShown x y a b

-- ---- words

not_blank : (b : ℕ) → b ≢ 32 → b ≢ 9 → is_blank b ≡ false
not_blank b space tab = by (is_blank b) refl
  where
    by : (t : Bool) → is_blank b ≡ t → is_blank b ≡ false
    by true e = absurd (grind (arith, nat_tests, e, space, tab))
    by false e = e

pub shown_plain : (x : List ℕ) → All IsShown x → All (λ b. is_blank b ≡ false) x
shown_plain x all = All-weaker IsShown (λ b. is_blank b ≡ false) (λ b p. not_blank b (λ e. omega (arith, p.0, e)) (λ e. omega (arith, p.0, e))) x all

karg_plain : (x : List ℕ) → All IsWordByte x → All (λ b. is_blank b ≡ false) x
karg_plain x all = All-weaker IsWordByte (λ b. is_blank b ≡ false) (λ b p. not_blank b p.0 p.1) x all

abbrev some : List (List ℕ) → List (List ℕ)
some parts = filter (λ w. not (same_name w [])) parts

some_first : (word : List ℕ) (parts : List (List ℕ)) → word ≢ [] → some (word ∷ parts) ≡ word ∷ some parts
some_first [] parts other = absurd (other refl)
some_first (b ∷ word) parts other = refl

word_first : (word rest : List ℕ) → word ≢ [] → All (λ b. is_blank b ≡ false) word → words_of (word ++ 32 ∷ rest) ≡ word ∷ words_of rest
word_first word rest there plain = ap some (slice_split_at is_blank word 32 rest plain refl) ∙ some_first word (slice_split is_blank rest) there

word_last : (word : List ℕ) → word ≢ [] → All (λ b. is_blank b ≡ false) word → words_of word ≡ word ∷ []
word_last word there plain = ap some (slice_split_none is_blank word plain) ∙ some_first word [] there

pub words_spaced : (kargs : List (List ℕ)) (last : List ℕ) → All IsKarg kargs → last ≢ [] → All (λ b. is_blank b ≡ false) last → words_of (spaced kargs ++ last) ≡ kargs ++ last ∷ []
words_spaced [] last are there plain = word_last last there plain
words_spaced (k ∷ kargs) last are there plain =
    let is = All-head IsKarg k kargs are in
    let apart : spaced (k ∷ kargs) ++ last ≡ k ++ 32 ∷ (spaced kargs ++ last) = append_assoc (k ++ 32 ∷ []) (spaced kargs) last ∙ append_assoc k (32 ∷ []) (spaced kargs ++ last) in
    ap words_of apart ∙ word_first k (spaced kargs ++ last) is.not_empty (karg_plain k is.bytes) ∙ ap (λ ws. k ∷ ws) (words_spaced kargs last (All-tail IsKarg k kargs are) there plain)

not_ostree : (word : List ℕ) → take 7 word ≢ codes "ostree=" → is_ostree word ≡ false
not_ostree word other = by (is_ostree word) refl
  where
    by : (t : Bool) → is_ostree word ≡ t → is_ostree word ≡ false
    by true e = absurd (other ((bytes_eq-Decides (take 7 word) ostree_key).0 e))
    by false e = e

skipped : {X : Type 0} (p : X → Bool) (x : X) (xs : List X) → p x ≡ false → filter p (x ∷ xs) ≡ filter p xs
skipped p x xs e = ap (λ t. cond t (x ∷ filter p xs) (filter p xs)) e

ostree_last : (kargs : List (List ℕ)) (value : List ℕ) → All IsKarg kargs → filter is_ostree (kargs ++ (ostree_key ++ value) ∷ []) ≡ (ostree_key ++ value) ∷ []
ostree_last [] value are = refl
ostree_last (k ∷ kargs) value are =
    skipped is_ostree k (kargs ++ (ostree_key ++ value) ∷ []) (not_ostree k (All-head IsKarg k kargs are).no_deployment) ∙ ostree_last kargs value (All-tail IsKarg k kargs are)

pub one_ostree : (kargs : List (List ℕ)) (value : List ℕ) → All IsKarg kargs → All (λ b. is_blank b ≡ false) (ostree_key ++ value) → HasOstree (spaced kargs ++ (ostree_key ++ value)) value
one_ostree kargs value are plain =
    ap (filter is_ostree) (words_spaced kargs (ostree_key ++ value) are (λ e. let n : 111 ∷ (codes "stree=" ++ value) ≡ [] = e in cc) plain) ∙ ostree_last kargs value are

pub spaced_piece : (kargs : List (List ℕ)) → All IsKarg kargs → All IsText kargs → IsPiece (spaced kargs)
spaced_piece [] are texts = written [] refl
spaced_piece (k ∷ kargs) are texts =
    let is = All-head IsKarg k kargs are in
    let word : IsPiece k = record { text = All-head IsText k kargs texts; line = All-weaker IsWordByte (λ b. b ≢ 10) (λ b p. p.2) k is.bytes } in
    piece_append (k ++ 32 ∷ []) (spaced kargs) (piece_append k (32 ∷ []) word (written (32 ∷ []) refl)) (spaced_piece kargs (All-tail IsKarg k kargs are) (All-tail IsText k kargs texts))

-- what stands in front of all begins with no blank
pub begins_front : (x y : List ℕ) → x ≢ [] → All (λ b. is_blank b ≡ false) x → BeginsPlain (x ++ y)
begins_front [] y there plain = absurd (there refl)
begins_front (b ∷ x) y there plain = All-head (λ b. is_blank b ≡ false) b x plain

pub begins_spaced : (kargs : List (List ℕ)) (last : List ℕ) → All IsKarg kargs → BeginsPlain last → BeginsPlain (spaced kargs ++ last)
begins_spaced [] last are begins = begins
begins_spaced (k ∷ kargs) last are begins =
    let is = All-head IsKarg k kargs are in
    subst BeginsPlain (sym (append_assoc (k ++ 32 ∷ []) (spaced kargs) last ∙ append_assoc k (32 ∷ []) (spaced kargs ++ last))) (begins_front k (32 ∷ (spaced kargs ++ last)) is.not_empty (karg_plain k is.bytes))
