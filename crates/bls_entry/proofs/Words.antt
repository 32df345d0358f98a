-- The words of a text, one after the other.
use Rattle.std.proofs.Common.{◌≡◌, ◌<◌, ◌-◌, ℕ, Bool, true, false, if◌then◌else◌, List, [], ◌∷◌, ◌++◌, All, length, take, drop, refl, sym, append-nil, ◌∙◌, ap, subst, arith, length-drop, filter, not, Option, Some, None}
use Rattle.std.specs.List.{slice_split}
use Rattle.std.proofs.lemmas.List.{take-append-drop, take_all}
use Rattle.std.proofs.lemmas.Slice.Eq.{bytes_eq-Decides}
use Rattle.std.proofs.lemmas.List.Splits.{slice_split_at, slice_split_none}
use Rattle.bls_entry.specs.Line.{is_blank, EndsOrBegins}
use Rattle.bls_entry.specs.Options.{words_of, is_ostree, ostree_words, ostree_key}
use Rattle.ost_types.specs.Path.{same_name}

abbrev pub alone_if : List ℕ → List (List ℕ)
alone_if word = if is_ostree word then word ∷ [] else []

-- the words behind a part that may be empty
behind : (word : List ℕ) (parts : List (List ℕ)) → filter is_ostree (filter (λ w. not (same_name w [])) (word ∷ parts)) ≡ alone_if word ++ filter is_ostree (filter (λ w. not (same_name w [])) parts)
behind [] parts = refl
behind (b ∷ word) parts = by (is_ostree (b ∷ word)) (filter is_ostree (filter (λ w. not (same_name w [])) parts))
  where
    by : (t : Bool) (more : List (List ℕ)) → (if t then (b ∷ word) ∷ more else more) ≡ (if t then (b ∷ word) ∷ [] else []) ++ more
    by true more = refl
    by false more = refl

words_at : (text word : List ℕ) (b : ℕ) (rest : List ℕ) → text ≡ word ++ b ∷ rest → All (λ x. is_blank x ≡ false) word → is_blank b ≡ true → ostree_words text ≡ alone_if word ++ ostree_words rest
words_at text word b rest cut plain blank =
    ap ostree_words cut ∙ ap (λ parts. filter is_ostree (filter (λ w. not (same_name w [])) parts)) (slice_split_at is_blank word b rest plain blank) ∙ behind word (slice_split is_blank rest)

words_all : (text : List ℕ) → All (λ x. is_blank x ≡ false) text → ostree_words text ≡ alone_if text ++ []
words_all text plain =
    ap (λ parts. filter is_ostree (filter (λ w. not (same_name w [])) parts)) (slice_split_none is_blank text plain) ∙ behind text []

pub words_cut : (text word rest : List ℕ) → text ≡ word ++ rest → All (λ x. is_blank x ≡ false) word → EndsOrBegins true rest → ostree_words text ≡ alone_if word ++ ostree_words (drop 1 rest)
words_cut text word [] cut plain ends = ap ostree_words (cut ∙ append-nil word) ∙ words_all word plain
words_cut text word (b ∷ rest) cut plain ends = words_at text word b rest cut plain ends

pub words_none : (text : List ℕ) → length text ≡ 0 → ostree_words text ≡ []
words_none [] e = refl
words_none (b ∷ text) e = absurd (omega (arith, e))

-- ---- the word that was found

abbrev pub found_words : {T : Type 0} → (T → List ℕ) → Option T → List (List ℕ)
found_words v None = []
found_words v (Some x) = (ostree_key ++ v x) ∷ []

-- what was found, and the words of the rest
abbrev pub Found : {T : Type 0} → (T → List ℕ) → List ℕ → Option T → List ℕ → Type 0
Found v options found rest = ostree_words options ≡ found_words v found ++ ostree_words rest

-- the word has the prefix
word_is : (word value : List ℕ) → same_name (take 7 word) ostree_key ≡ true → value ≡ drop 7 word → ostree_key ++ value ≡ word
word_is word value is e = ap (λ v. ostree_key ++ v) e ∙ ap (λ f. f ++ drop 7 word) (sym ((bytes_eq-Decides (take 7 word) ostree_key).0 is)) ∙ take-append-drop 7 word

-- the words where the text ends with the word
pub words_end : (text word rest : List ℕ) → text ≡ word ++ rest → All (λ x. is_blank x ≡ false) word → length rest < 1 → ostree_words text ≡ alone_if word ++ ostree_words rest
words_end text word [] cut plain less = words_cut text word [] cut plain tt
words_end text word (b ∷ rest) cut plain less = absurd (omega (arith, less))

pub words_more : (text word rest : List ℕ) → text ≡ word ++ rest → All (λ x. is_blank x ≡ false) word → EndsOrBegins true rest → ostree_words text ≡ alone_if word ++ ostree_words (take (length rest - 1) (drop 1 rest))
words_more text word rest cut plain ends =
    words_cut text word rest cut plain ends ∙ ap (λ r. alone_if word ++ ostree_words r) (sym (take_all (length rest - 1) (drop 1 rest) (omega (arith, length-drop 1 rest))))
