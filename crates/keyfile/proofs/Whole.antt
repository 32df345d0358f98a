-- From the lines that were taken to the whole text.
use Rattle.std.proofs.Common.{◌≡◌, ◌≢◌, ◌+◌, ◌≤◌, ℕ, List, [], ◌∷◌, ◌++◌, length, Ok, Err, refl, sym, ◌∙◌, ap, subst, append-nil, append_assoc, arith, length-append}
use Rattle.std.proofs.lemmas.List.Elements.{All-cons, All-append, All-weaker}
use Rattle.std.proofs.lemmas.List.{nil_from_length}
use Rattle.keyfile.specs.declared.entry.KeyLine.{KeyLine}
use Rattle.keyfile.specs.declared.reader.Reader.{Reader}
use Rattle.keyfile.specs.declared.fault.KeyFault.{KeyFault}
use Rattle.keyfile.specs.declared.fault.KeyFault.TheVariants.{BadLine, NoGroup, Repeated, NoMemory}
use Rattle.keyfile.specs.Line.{Line, IsLine, IsOneLine, IsKeyByte, IsGroupByte, line_text, file_text}
use Rattle.keyfile.specs.Line.Line.{Blank, Comment, Group, Key}
use Rattle.keyfile.specs.Reading.{Reads, Leaves}
use Rattle.keyfile.specs.Tracks.{Tracks, HasText, RefusesText}
use Rattle.keyfile.proofs.Splits.{one_split, All-back}

none : IsOneLine []
none = λ k d less. absurd (omega (arith, less))

-- a line holds no newline
pub line_in_line : (line : Line) → IsLine line → IsOneLine (line_text line)
line_in_line Blank is = none
line_in_line (Comment text) is = All-cons (λ b. b ≢ 10) 35 text (λ e. omega (arith, e)) is
line_in_line (Group name) is =
    All-cons (λ b. b ≢ 10) 91 (name ++ 93 ∷ []) (λ e. omega (arith, e))
    (All-append (λ b. b ≢ 10) name (93 ∷ []) (All-weaker IsGroupByte (λ b. b ≢ 10) (λ b p e. omega (arith, p.0, e)) name is.plain) (All-cons (λ b. b ≢ 10) 93 [] (λ e. omega (arith, e)) none))
line_in_line (Key key value) is =
    All-append (λ b. b ≢ 10) key (61 ∷ value) (All-weaker IsKeyByte (λ b. b ≢ 10) (λ b p e. grind (arith, p, e)) key is.0.plain)
    (All-cons (λ b. b ≢ 10) 61 value (λ e. omega (arith, e)) is.1.one_line)

pub file_text-push : (before : List Line) (line : Line) (behind : List ℕ) → file_text (before ++ line ∷ []) ++ behind ≡ file_text before ++ (line_text line ++ 10 ∷ behind)
unfolding file_text
file_text-push [] line behind = append_assoc (line_text line) (10 ∷ []) behind
file_text-push (x ∷ before) line behind =
    append_assoc (line_text x) (10 ∷ file_text (before ++ line ∷ [])) behind
    ∙ ap (λ t. line_text x ++ 10 ∷ t) (file_text-push before line behind)
    ∙ sym (append_assoc (line_text x) (10 ∷ file_text before) (line_text line ++ 10 ∷ behind))

-- the reader has taken the lines before the rest
pub record Went (text rest : List ℕ) (number : ℕ) (r : Reader) : Type 0 where
  pub before : List Line
  pub whole : text ≡ file_text before ++ rest
  pub tracks : Tracks r before
  pub counted : number ≡ length before
  pub fits : number + length rest ≤ length text

pub went_begin : (text : List ℕ) (r : Reader) → Tracks r [] → Went text text 0 r
unfolding file_text
went_begin text r t = record { before = []; whole = refl; tracks = t; counted = refl; fits = omega arith }

pub went_on : (text rest line behind : List ℕ) (number : ℕ) (r s : Reader) (w : Went text rest number r) → rest ≡ line ++ 10 ∷ behind
    → (x : Line) × HasText x line × Tracks s (w.before ++ x ∷ []) → Went text behind (number + 1) s
went_on text rest line behind number r s w cut (x, has, tracks) = record {
  before = w.before ++ x ∷ [];
  whole = w.whole ∙ ap (λ t. file_text w.before ++ t) (cut ∙ ap (λ t. t ++ 10 ∷ behind) has.1) ∙ sym (file_text-push w.before x behind);
  tracks = tracks;
  counted = omega (arith, w.counted, length-append w.before (x ∷ []));
  fits = omega (arith, w.fits, ap length cut, length-append line (10 ∷ behind));
}

pub went_through : (text rest : List ℕ) (number : ℕ) (r : Reader) (entries : List KeyLine) → Went text rest number r → length rest ≡ 0 → entries ≡ r.entries.items → Reads text (Ok entries)
went_through text rest number r entries w end is =
    (w.before, w.whole ∙ ap (λ t. file_text w.before ++ t) (nil_from_length rest end) ∙ append-nil (file_text w.before), w.tracks.sound, is ∙ w.tracks.entries)

leaves : (text rest : List ℕ) (number : ℕ) (r : Reader) (w : Went text rest number r) → Leaves text (number + 1) w.before rest
leaves text rest number r w = record { whole = w.whole; sound = w.tracks.sound; counted = omega (arith, w.counted) }

-- the rest has no newline
pub no_end : (text rest : List ℕ) (number : ℕ) (r : Reader) → Went text rest number r → length rest ≢ 0 → IsOneLine rest → Reads text (Err (BadLine (number + 1)))
no_end text rest number r w more one = record {
  before = w.before;
  rest = rest;
  leaves = leaves text rest number r w;
  bad = record {
    more = λ e. more (ap length e);
    no_line = λ line begins. ends line begins.0 begins.1;
  };
}
  where
    ends : (line : Line) (behind : List ℕ) → rest ≡ line_text line ++ 10 ∷ behind → ⊥
    ends line behind e = let h = All-back (λ b. b ≢ 10) (line_text line) (10 ∷ behind) (subst IsOneLine e one) in h 0 0 (omega arith) refl

pub refused : (text rest line behind : List ℕ) (number n : ℕ) (r : Reader) (w : Went text rest number r) → n ≡ number + 1 → rest ≡ line ++ 10 ∷ behind → IsOneLine line
    → (fault : KeyFault) → RefusesText w.before line n fault → Reads text (Err fault)
refused text rest line behind number n r w is cut one (BadLine m) (e, none_has) = record {
  before = w.before;
  rest = rest;
  leaves = subst (λ k. Leaves text k w.before rest) (sym (e ∙ is)) (leaves text rest number r w);
  bad = record {
    more = λ end. let h : [] ≡ line ++ 10 ∷ behind = sym end ∙ cut in omega (arith, ap length h, length-append line (10 ∷ behind));
    no_line = λ x begins. none_has x (begins.2, (one_split 10 line (line_text x) behind begins.0 one (line_in_line x begins.2) (sym cut ∙ begins.1)).0);
  };
}
refused text rest line behind number n r w is cut one (NoGroup m) (e, x, has, alone) = record {
  before = w.before;
  rest = rest;
  line = x;
  leaves = subst (λ k. Leaves text k w.before rest) (sym (e ∙ is)) (leaves text rest number r w);
  begins = (behind, cut ∙ ap (λ t. t ++ 10 ∷ behind) has.1, has.0);
  alone = alone;
}
refused text rest line behind number n r w is cut one (Repeated m) (e, x, has, repeats) = record {
  before = w.before;
  rest = rest;
  line = x;
  leaves = subst (λ k. Leaves text k w.before rest) (sym (e ∙ is)) (leaves text rest number r w);
  begins = (behind, cut ∙ ap (λ t. t ++ 10 ∷ behind) has.1, has.0);
  repeats = repeats;
}
refused text rest line behind number n r w is cut one NoMemory t = tt
