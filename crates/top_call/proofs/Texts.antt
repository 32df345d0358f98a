-- The words of a command are texts: each byte of a field is printed.
use Rattle.std.proofs.Common.{◌≡◌, ◌≢◌, inl, inr, ◌≤◌, ◌<◌, ◌/◌, ◌%◌, ◌&&◌, nat_le, ℕ, zero, suc, List, [], ◌∷◌, length, slice_index, Bool, true, IsTrue, All, refl, sym, ap, subst, arith, codes}
use Rattle.std.specs.Fmt.{decimal}
use Rattle.std.proofs.lemmas.List.Elements.{All-cons, All-head, All-nil, All-tail, All-append, All-weaker}
use Rattle.std.proofs.lemmas.Bool.{and_parts}
use Rattle.std.proofs.lemmas.Str.{IsUtf8-from_ascii}
use Rattle.std.proofs.lemmas.Str.Ascii.{IsAscii-from_all}
use Rattle.hex.specs.Hex.{IsBytes, encode_with, lower_digits}
use Rattle.ost_types.specs.Csum.{hex_of, IsHexDigit}
use Rattle.ost_types.specs.Path.{Path}
use Rattle.ost_types.specs.Text.{IsText}
use Rattle.ost_types.proofs.HexSums.{IsHexSum-hex_of}
use Rattle.script.specs.Field.{IsField, IsNameField, IsPathField, Spells, Stands, is_plain}
use Rattle.script.specs.Words.{AreRevName, AreRevPath, IsCommand, HasFields, IsBranch, IsCommit, IsRev, keyword_of, spelled}
use Rattle.script.specs.declared.command.Rev.TheVariants.{Ref, Commit}
use Rattle.script.specs.declared.command.Rev.{Rev}
use Rattle.script.specs.declared.command.Command.{Command}
use Rattle.script.specs.declared.command.Command.TheVariants.{Refs, Status, RevParse, Log, Ls, Cat, Checkout, Reset, DropRef, Prune, Cleanup, Commit as CommitTree}

-- from the space to `~`
abbrev IsPrinted : ℕ → Type 0
IsPrinted b = (32 ≤ b) × (b ≤ 126)

unfoldable zeros : ℕ → List ℕ
zeros zero = []
zeros (suc n) = 0 ∷ zeros n

length-zeros : (n : ℕ) → length (zeros n) ≡ n
unfolding zeros
length-zeros zero = refl
length-zeros (suc n) = ap suc (length-zeros n)

zeros_are_bytes : (n i : ℕ) → slice_index (zeros n) i < 256
unfolding zeros
zeros_are_bytes zero i = omega arith
zeros_are_bytes (suc n) zero = omega arith
zeros_are_bytes (suc n) (suc i) = zeros_are_bytes n i

behind : (b n : ℕ) → b < 256 → IsBytes (b ∷ zeros n)
behind b n low zero = low
behind b n low (suc i) = zeros_are_bytes n i

digit : (d : ℕ) → IsHexDigit d → IsPrinted d
digit d (inl h) = (omega (arith, h.0), omega (arith, h.1))
digit d (inr h) = (omega (arith, h.0), omega (arith, h.1))

digits : (b : ℕ) → b < 256 → All IsPrinted (hex_of (b ∷ []))
unfolding encode_with
digits b low =
    let all : All IsHexDigit (slice_index lower_digits (b / 16) ∷ slice_index lower_digits (b % 16) ∷ hex_of (zeros 31)) = (IsHexSum-hex_of (b ∷ zeros 31) (ap suc (length-zeros 31)) (behind b 31 low)).digits in
    let one = slice_index lower_digits (b / 16) in
    let two = slice_index lower_digits (b % 16) in
    let rest = hex_of (zeros 31) in
    let second = All-tail IsHexDigit one (two ∷ rest) all in
    All-cons IsPrinted one (two ∷ []) (digit one (All-head IsHexDigit one (two ∷ rest) all)) (All-cons IsPrinted two [] (digit two (All-head IsHexDigit two rest second)) (All-nil IsPrinted))

plain : (b : ℕ) → IsTrue (is_plain b) → IsPrinted b
plain b is = grind (arith, is)

stands_printed : (text rest : List ℕ) (b : ℕ) → b < 256 → Stands text b rest → All IsPrinted rest → All IsPrinted text
stands_printed text rest b low (inl is) more = subst (All IsPrinted) (sym is.0) (All-cons IsPrinted b rest (plain b is.1) more)
stands_printed text rest b low (inr is) more = subst (All IsPrinted) (sym is) (All-cons IsPrinted 37 _ (omega arith, omega arith) (All-append IsPrinted (hex_of (b ∷ [])) rest (digits b low) more))

printed : (text value : List ℕ) → Spells text value → All IsPrinted text
printed text [] is = subst (All IsPrinted) (sym is) (All-nil IsPrinted)
printed text (b ∷ value) is = stands_printed text is.1 b is.0 is.2 (printed is.1 value is.3)

text_from : (text : List ℕ) → All IsPrinted text → IsText text
text_from text all = record {
  utf8 = IsUtf8-from_ascii text (IsAscii-from_all text (All-weaker IsPrinted (λ b. b < 128) (λ b is. omega (arith, is.1)) text all));
  no_zero = All-weaker IsPrinted (λ b. b ≢ 0) (λ b is none. absurd (omega (arith, is.0, none))) text all;
}

pub field_text : (field value : List ℕ) → IsField field value → IsText field
field_text field value (inl is) = subst IsText (sym is.0) (text_from (codes "~") (All-cons IsPrinted 126 [] (omega arith, omega arith) (All-nil IsPrinted)))
field_text field value (inr is) = text_from field (printed field value is.2)

branch_text : (field name : List ℕ) → IsBranch field name → IsText field
branch_text field name is = field_text field name is.spelled

commit_text : (field sum : List ℕ) → IsCommit field sum → IsText field
commit_text field sum is = field_text field (hex_of sum) is.spelled

path_text : (field : List ℕ) (path : Path) → IsPathField field path → IsText field
path_text field path is = field_text field is.text is.spelled

name_text : (field name : List ℕ) → IsNameField field name → IsText field
name_text field name is = field_text field name is.spelled

rev_text : (field : List ℕ) (rev : Rev) → IsRev field rev → IsText field
rev_text field (Ref name) is = branch_text field name is
rev_text field (Commit sum) is = commit_text field sum is

alone : (f : List ℕ) → IsText f → All IsText (f ∷ [])
alone f is = All-cons IsText f [] is (All-nil IsText)

rev_path_text : (rev : Rev) (path : Path) (fields : List (List ℕ)) → AreRevPath fields rev path → All IsText fields
rev_path_text rev path fields has = subst (All IsText) (sym has.2) (All-cons IsText has.0 (has.1 ∷ []) (rev_text has.0 rev has.3) (alone has.1 (path_text has.1 path has.4)))

rev_name_text : (rev : Rev) (name : List ℕ) (fields : List (List ℕ)) → AreRevName fields rev name → All IsText fields
rev_name_text rev name fields has = subst (All IsText) (sym has.2) (All-cons IsText has.0 (has.1 ∷ []) (rev_text has.0 rev has.3) (alone has.1 (name_text has.1 name has.4)))

fields_text : (command : Command) (fields : List (List ℕ)) → HasFields command fields → All IsText fields
fields_text Refs fields has = subst (All IsText) (sym has) (All-nil IsText)
fields_text Status fields has = subst (All IsText) (sym has) (All-nil IsText)
fields_text (RevParse rev) fields has = subst (All IsText) (sym has.1) (alone has.0 (rev_text has.0 rev has.2))
fields_text (Log rev) fields has = subst (All IsText) (sym has.1) (alone has.0 (rev_text has.0 rev has.2))
fields_text (Ls rev path) fields has = rev_path_text rev path fields has
fields_text (Cat rev path) fields has = rev_path_text rev path fields has
fields_text (Checkout rev name) fields has = rev_name_text rev name fields has
fields_text (Reset branch commit) fields has =
    subst (All IsText) (sym has.2) (All-cons IsText has.0 (has.1 ∷ []) (branch_text has.0 branch has.3) (alone has.1 (commit_text has.1 commit has.4)))
fields_text (DropRef branch) fields has = subst (All IsText) (sym has.1) (alone has.0 (branch_text has.0 branch has.2))
fields_text (Prune depth) fields has = subst (All IsText) (sym has.1) (alone has.0 (field_text has.0 (decimal depth) has.2.spelled))
fields_text Cleanup fields has = subst (All IsText) (sym has) (All-nil IsText)
fields_text (CommitTree branch tree subject body time) fields has = absurd has

is_printed : ℕ → Bool
is_printed b = nat_le 32 b && nat_le b 126

unfoldable are_printed : List ℕ → Bool
are_printed [] = true
are_printed (b ∷ text) = is_printed b && are_printed text

bounds : (b : ℕ) → is_printed b ≡ true → IsPrinted b
unfolding is_printed
bounds b is = let both = and_parts (nat_le 32 b) (nat_le b 126) is in (grind (arith, both.0), grind (arith, both.1))

tested : (text : List ℕ) → are_printed text ≡ true → All IsPrinted text
unfolding are_printed
tested [] is = All-nil IsPrinted
tested (b ∷ text) is =
    let parts = and_parts (is_printed b) (are_printed text) is in
    let here : IsPrinted b = bounds b parts.0 in
    All-cons IsPrinted b text here (tested text parts.1)

keyword_text : (command : Command) → IsText (spelled (keyword_of command))
unfolding are_printed is_printed
keyword_text Refs = text_from (codes "refs") (tested (codes "refs") refl)
keyword_text Status = text_from (codes "status") (tested (codes "status") refl)
keyword_text (RevParse rev) = text_from (codes "rev-parse") (tested (codes "rev-parse") refl)
keyword_text (Log rev) = text_from (codes "log") (tested (codes "log") refl)
keyword_text (Ls rev path) = text_from (codes "ls") (tested (codes "ls") refl)
keyword_text (Cat rev path) = text_from (codes "cat") (tested (codes "cat") refl)
keyword_text (Checkout rev name) = text_from (codes "checkout") (tested (codes "checkout") refl)
keyword_text (Reset branch commit) = text_from (codes "reset") (tested (codes "reset") refl)
keyword_text (DropRef branch) = text_from (codes "drop") (tested (codes "drop") refl)
keyword_text (Prune depth) = text_from (codes "prune") (tested (codes "prune") refl)
keyword_text Cleanup = text_from (codes "cleanup") (tested (codes "cleanup") refl)
keyword_text (CommitTree branch tree subject body time) = text_from (codes "commit") (tested (codes "commit") refl)

pub line_texts : (words : List (List ℕ)) (command : Command) → IsCommand words command → All IsText words
line_texts words command is = subst (All IsText) (sym is.line) (All-cons IsText _ is.fields (keyword_text command) (fields_text command is.fields is.has))
