-- The words of options, one after the other.
use Rattle.std.proofs.Common.{◌≡◌, ◌≢◌, ℕ, ◌+◌, ◌-◌, ◌<◌, ◌≤◌, Bool, true, false, List, [], ◌∷◌, ◌++◌, All, length, get_or, take, drop, filter, not, refl, sym, ◌∙◌, ap, subst, arith, append-nil, append_assoc, length-append, length-drop}
use Rattle.std.specs.List.{slice_split}
use Rattle.std.specs.Str.{IsUtf8}
use Rattle.std.proofs.lemmas.Bool.Decides.{nat_tests}
use Rattle.std.proofs.Math.Seq.{get_or-append_seam}
use Rattle.std.proofs.lemmas.List.{drop_at, take_all, take_at}
use Rattle.std.proofs.lemmas.List.Elements.{All-cons, All-drop, All-nil, All-take, filter-append}
use Rattle.std.proofs.lemmas.List.Splits.{slice_split_at, slice_split_none}
use Rattle.std.proofs.lemmas.Str.{IsCharBoundary-after_ascii, IsCharBoundary-at_seam, IsUtf8-append, IsUtf8-drop, IsUtf8-from_ascii, IsUtf8-nil, IsUtf8-take}
use Rattle.std.proofs.lemmas.Str.Ascii.{IsAscii-from_all}
use Rattle.ost_types.specs.Path.{same_name}
use Rattle.ost_types.specs.Text.{IsText}
use Rattle.bls_entry.specs.Line.{EndsOrBegins, is_blank}
use Rattle.bls_entry.specs.Options.{is_ostree}
use Rattle.boot_read.specs.Entries.{other_words}

-- ---- words

abbrev is_other : List ℕ → Bool
is_other w = not (is_ostree w)

abbrev is_some : List ℕ → Bool
is_some w = not (same_name w [])

-- those of a word alone, which may be empty
abbrev pub kept_word : List ℕ → List (List ℕ)
kept_word word = filter is_other (filter is_some (word ∷ []))

split : (word : List ℕ) (parts : List (List ℕ)) → filter is_other (filter is_some (word ∷ parts)) ≡ kept_word word ++ filter is_other (filter is_some parts)
split word parts = ap (filter is_other) (filter-append is_some (word ∷ []) parts) ∙ filter-append is_other (filter is_some (word ∷ [])) (filter is_some parts)

pub alone : (word : List ℕ) → All (λ x. is_blank x ≡ false) word → other_words word ≡ kept_word word
alone word plain = ap (λ parts. filter is_other (filter is_some parts)) (slice_split_none is_blank word plain)

words_at : (text word : List ℕ) (b : ℕ) (rest : List ℕ) → text ≡ word ++ b ∷ rest → All (λ x. is_blank x ≡ false) word → is_blank b ≡ true → other_words text ≡ other_words word ++ other_words rest
words_at text word b rest cut plain blank =
    ap other_words cut ∙ ap (λ parts. filter is_other (filter is_some parts)) (slice_split_at is_blank word b rest plain blank) ∙ split word (slice_split is_blank rest)
    ∙ ap (λ words. words ++ other_words rest) (sym (alone word plain))

words_cut : (text word rest : List ℕ) → text ≡ word ++ rest → All (λ x. is_blank x ≡ false) word → EndsOrBegins true rest → other_words text ≡ other_words word ++ other_words (drop 1 rest)
words_cut text word [] cut plain ends = ap other_words (cut ∙ append-nil word) ∙ sym (append-nil (other_words word))
words_cut text word (b ∷ rest) cut plain ends = words_at text word b rest cut plain ends

pub words_none : (text : List ℕ) → length text ≡ 0 → other_words text ≡ []
words_none [] e = refl
words_none (b ∷ text) e = absurd (omega (arith, e))

rest_is : (rest : List ℕ) → take (length rest - 1) (drop 1 rest) ≡ drop 1 rest
rest_is rest = take_all (length rest - 1) (drop 1 rest) (omega (arith, length-drop 1 rest))

-- the words where the text ends with the word
pub words_end : (text word rest : List ℕ) → text ≡ word ++ rest → All (λ x. is_blank x ≡ false) word → length rest < 1 → other_words text ≡ other_words word ++ other_words rest
words_end text word [] cut plain less = words_cut text word [] cut plain tt
words_end text word (b ∷ rest) cut plain less = absurd (omega (arith, less))

pub words_more : (text word rest : List ℕ) → text ≡ word ++ rest → All (λ x. is_blank x ≡ false) word → EndsOrBegins true rest → other_words text ≡ other_words word ++ other_words (take (length rest - 1) (drop 1 rest))
words_more text word rest cut plain ends = words_cut text word rest cut plain ends ∙ ap (λ r. other_words word ++ other_words r) (sym (rest_is rest))

-- ---- texts

blank_small : (b : ℕ) → is_blank b ≡ true → b < 128
blank_small b is = grind (arith, nat_tests)

no_zero_in : (text word rest : List ℕ) → text ≡ word ++ rest → All (λ b. b ≢ 0) text → All (λ b. b ≢ 0) word
no_zero_in text word rest cut all = subst (All (λ b. b ≢ 0)) (ap (take (length word)) cut ∙ take_at word rest (length word) refl) (All-take (λ b. b ≢ 0) (length word) text all)

no_zero_behind : (text word rest : List ℕ) → text ≡ word ++ rest → All (λ b. b ≢ 0) text → All (λ b. b ≢ 0) rest
no_zero_behind text word rest cut all = subst (All (λ b. b ≢ 0)) (ap (drop (length word)) cut ∙ drop_at word rest (length word) refl) (All-drop (λ b. b ≢ 0) (length word) text all)

module _ (text word : List ℕ) (b : ℕ) (rest : List ℕ) (cut : text ≡ word ++ b ∷ rest) (blank : is_blank b ≡ true) (is : IsText text) where
  behind : text ≡ (word ++ b ∷ []) ++ rest
  behind = cut ∙ sym (append_assoc word (b ∷ []) rest)

  seam : length (word ++ b ∷ []) ≡ length word + 1
  seam = length-append word (b ∷ [])

  inside : length word < length text
  inside = omega (arith, ap length cut, length-append word (b ∷ rest))

  utf8_rest : IsUtf8 rest
  utf8_rest =
      let at : get_or text (length word) 0 ≡ b = ap (λ t. get_or t (length word) 0) cut ∙ get_or-append_seam word b rest 0 in
      subst IsUtf8 (ap (drop (length word + 1)) behind ∙ drop_at (word ++ b ∷ []) rest (length word + 1) seam)
      (IsUtf8-drop text (length word + 1) is.utf8 (IsCharBoundary-after_ascii text (length word) is.utf8 inside (omega (arith, at, blank_small b blank))))

  utf8_word : IsUtf8 word
  utf8_word =
      let one : IsUtf8 (b ∷ []) = IsUtf8-from_ascii (b ∷ []) (IsAscii-from_all (b ∷ []) (All-cons (λ x. x < 128) b [] (blank_small b blank) (All-nil (λ x. x < 128)))) in
      subst IsUtf8 (ap (take (length word)) cut ∙ take_at word (b ∷ rest) (length word) refl)
      (IsUtf8-take text (length word) is.utf8 (IsCharBoundary-at_seam text word (b ∷ rest) cut (IsUtf8-append (b ∷ []) rest one utf8_rest)))

  pub text_word : IsText word
  text_word = record { utf8 = utf8_word; no_zero = no_zero_in text word (b ∷ rest) cut is.no_zero }

  pub text_rest : IsText rest
  text_rest = record { utf8 = utf8_rest; no_zero = no_zero_behind text (word ++ b ∷ []) rest behind is.no_zero }

pub texts_end : (text word rest : List ℕ) → text ≡ word ++ rest → length rest < 1 → IsText text → IsText word × IsText rest
texts_end text word [] cut less is = (subst IsText (cut ∙ append-nil word) is, record { utf8 = IsUtf8-nil; no_zero = All-nil (λ b. b ≢ 0) })
texts_end text word (b ∷ rest) cut less is = absurd (omega (arith, less))

pub texts_more : (text word rest : List ℕ) → text ≡ word ++ rest → EndsOrBegins true rest → 1 ≤ length rest → IsText text → IsText word × IsText (take (length rest - 1) (drop 1 rest))
texts_more text word [] cut ends some is = absurd (omega (arith, some))
texts_more text word (b ∷ rest) cut ends some is = (text_word text word b rest cut ends is, subst IsText (sym (rest_is (b ∷ rest))) (text_rest text word b rest cut ends is))
