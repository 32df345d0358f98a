-- Words of visible bytes make one line, and the line has these words.
use Rattle.std.proofs.Common.{◌≡◌, ◌≢◌, List, ℕ, ◌∷◌, All, arith}
use Rattle.std.proofs.lemmas.List.Elements.{All-weaker}
use Rattle.script_reader.specs.Nodes.{fields_of}
use Rattle.script_reader.specs.Writing.{line_text}
use Rattle.script_reader.proofs.FieldTexts.{IsVisible}
use Rattle.script_reader.proofs.Joins.{Lacks, cut_joined, joined_all}

no_space : (b : ℕ) → IsVisible b → b ≢ 32
no_space b is e = omega (arith, is.0, e)

no_newline : (b : ℕ) → IsVisible b → b ≢ 10
no_newline b is e = omega (arith, is.0, e)

lack : (c : ℕ) → ((b : ℕ) → IsVisible b → b ≢ c) → (words : List (List ℕ)) → All (All IsVisible) words → All (Lacks c) words
lack c other words seen = All-weaker (All IsVisible) (Lacks c) (λ word is. All-weaker IsVisible (λ b. b ≢ c) other word is) words seen

pub cut_words : (word : List ℕ) (words : List (List ℕ)) → All (All IsVisible) (word ∷ words) → fields_of (line_text (word ∷ words)) ≡ word ∷ words
cut_words word words seen = cut_joined 32 word words (lack 32 no_space (word ∷ words) seen)

pub one_line : (words : List (List ℕ)) → All (All IsVisible) words → Lacks 10 (line_text words)
one_line words seen = joined_all (λ b. b ≢ 10) 32 words (λ e. omega (arith, e)) (lack 10 no_newline words seen)
