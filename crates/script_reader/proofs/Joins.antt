-- Pieces that were joined by a byte that none of them has are cut there again.
use Rattle.std.proofs.Common.{◌≡◌, ◌≢◌, ◌≤◌, eqb, ℕ, Bool, true, false, List, [], ◌∷◌, ◌++◌, length, All, refl, ◌∙◌, ap, arith, length-append}
use Rattle.std.specs.List.{join_with_byte}
use Rattle.std.proofs.lemmas.Bool.{eqb-true}
use Rattle.std.proofs.lemmas.List.Elements.{All-head, All-tail, All-weaker, All-append, All-cons, All-nil}
use Rattle.std.proofs.lemmas.List.Splits.{slice_split_none, slice_split_at}
use Rattle.script_reader.specs.Script.{lines_of}
use Rattle.script_reader.specs.Values.{pieces}
use Rattle.script_reader.specs.Writing.{text_of_lines}

abbrev pub Lacks : ℕ → List ℕ → Type 0
Lacks c piece = All (λ b. b ≢ c) piece

no_cut : (c x : ℕ) → x ≢ c → eqb x c ≡ false
no_cut c x other = by (eqb x c) refl
  where
    by : (b : Bool) → eqb x c ≡ b → eqb x c ≡ false
    by true e = absurd (other (eqb-true x c e))
    by false e = e

uncut : (c : ℕ) (piece : List ℕ) → Lacks c piece → All (λ b. eqb b c ≡ false) piece
uncut c piece lacks = All-weaker (λ b. b ≢ c) (λ b. eqb b c ≡ false) (no_cut c) piece lacks

here : (c : ℕ) → eqb c c ≡ true
here c = grind arith

pub cut_joined : (c : ℕ) (piece : List ℕ) (more : List (List ℕ)) → All (Lacks c) (piece ∷ more) → pieces c (join_with_byte c (piece ∷ more)) ≡ piece ∷ more
cut_joined c piece [] lack = slice_split_none (λ b. eqb b c) piece (uncut c piece (All-head (Lacks c) piece [] lack))
cut_joined c piece (next ∷ more) lack =
    slice_split_at (λ b. eqb b c) piece c (join_with_byte c (next ∷ more)) (uncut c piece (All-head (Lacks c) piece (next ∷ more) lack)) (here c)
    ∙ ap (λ l. piece ∷ l) (cut_joined c next more (All-tail (Lacks c) piece (next ∷ more) lack))

-- what holds of the bytes of pieces and of the byte between them holds of the bytes of all
pub joined_all : (P : ℕ → Type 0) (c : ℕ) (parts : List (List ℕ)) → P c → All (All P) parts → All P (join_with_byte c parts)
joined_all P c [] between all = All-nil P
joined_all P c (piece ∷ []) between all = All-head (All P) piece [] all
joined_all P c (piece ∷ next ∷ more) between all =
    All-append P piece (c ∷ join_with_byte c (next ∷ more)) (All-head (All P) piece (next ∷ more) all)
    (All-cons P c (join_with_byte c (next ∷ more)) between (joined_all P c (next ∷ more) between (All-tail (All P) piece (next ∷ more) all)))

-- lines with a newline behind each are cut there again
pub cut_lines : (lines : List (List ℕ)) → All (Lacks 10) lines → lines_of (text_of_lines lines) ≡ lines ++ [] ∷ []
cut_lines [] lack = refl
cut_lines (line ∷ lines) lack =
    slice_split_at (λ b. eqb b 10) line 10 (text_of_lines lines) (uncut 10 line (All-head (Lacks 10) line lines lack)) (here 10)
    ∙ ap (λ l. line ∷ l) (cut_lines lines (All-tail (Lacks 10) line lines lack))

-- a newline for each line
pub as_long : (lines : List (List ℕ)) → length lines ≤ length (text_of_lines lines)
as_long [] = omega arith
as_long (line ∷ lines) = omega (arith, as_long lines, length-append line (10 ∷ text_of_lines lines))
