-- From the lines that were taken to the whole text.
use Rattle.std.proofs.Common.{◌≡◌, ◌≢◌, ◌+◌, ◌≤◌, ◌<◌, ℕ, true, false, List, [], ◌∷◌, ◌++◌, All, length, Result, Ok, Err, MatchResult, refl, sym, ◌∙◌, ap, subst, append-nil, append_assoc, arith, length-append}
use Rattle.std.proofs.lemmas.List.Elements.{All-cons, All-append, All-weaker, All-head, All-tail}
use Rattle.std.proofs.lemmas.List.{nil_from_length}
use Rattle.bls_entry.specs.declared.entry.BlsEntry.{BlsEntry}
use Rattle.bls_entry.specs.declared.fault.BlsFault.{BlsFault}
use Rattle.bls_entry.specs.declared.fault.BlsFault.TheVariants.{BadLine, NoOptions, NoOstree, NoMemory}
use Rattle.bls_entry.specs.declared.found.Found.{Found}
use Rattle.bls_entry.specs.Line.{Line, IsLine, IsOneLine, is_blank, line_text, file_text}
use Rattle.bls_entry.specs.Line.Line.{Blank, Comment, Setting}
use Rattle.bls_entry.specs.Entry.{AreLinesOf, MayFollow, GoOn, AreSound}
use Rattle.bls_entry.specs.Reading.{Reads, IsBadAt}
use Rattle.bls_entry.specs.Tracks.{Follows, IsNone, MayNot, Tracks}
use Rattle.bls_entry.proofs.Settings.{All-back}

none : IsOneLine []
none = λ k d less. absurd (omega (arith, less))

no_newline : (b : ℕ) → is_blank b ≡ true → b ≢ 10
no_newline b blank e = let h : is_blank 10 ≡ true = subst (λ x. is_blank x ≡ true) e blank in let n : false ≡ true = h in cc

-- a line holds no newline
pub line_in_line : (line : Line) → IsLine line → IsOneLine (line_text line)
line_in_line Blank is = none
line_in_line (Comment text) is = All-cons (λ b. b ≢ 10) 35 text (λ e. omega (arith, e)) is
line_in_line (Setting key blanks value) is =
    All-append (λ b. b ≢ 10) key (blanks ++ value) is.0.before.one_line
    (All-append (λ b. b ≢ 10) blanks value (All-weaker (λ b. is_blank b ≡ true) (λ b. b ≢ 10) no_newline blanks is.0.between.all) is.0.behind.one_line)

pub one_split : (c : ℕ) (xs ys a b : List ℕ) → All (λ x. x ≢ c) xs → All (λ x. x ≢ c) ys → xs ++ c ∷ a ≡ ys ++ c ∷ b → (xs ≡ ys) × (a ≡ b)
one_split c [] [] a b p q e = (refl, let t : c ∷ a ≡ c ∷ b = e in cc)
one_split c [] (y ∷ ys) a b p q e = absurd (let t : c ∷ a ≡ y ∷ (ys ++ c ∷ b) = e in let h : y ≡ c = cc in All-head (λ x. x ≢ c) y ys q h)
one_split c (x ∷ xs) [] a b p q e = absurd (let t : x ∷ (xs ++ c ∷ a) ≡ c ∷ b = e in let h : x ≡ c = cc in All-head (λ x. x ≢ c) x xs p h)
one_split c (x ∷ xs) (y ∷ ys) a b p q e =
    let t : x ∷ (xs ++ c ∷ a) ≡ y ∷ (ys ++ c ∷ b) = e in
    let h : x ≡ y = cc in
    let u : xs ++ c ∷ a ≡ ys ++ c ∷ b = cc in
    let r = one_split c xs ys a b (All-tail (λ z. z ≢ c) x xs p) (All-tail (λ z. z ≢ c) y ys q) u in
    (ap (λ z. z ∷ xs) h ∙ ap (λ zs. y ∷ zs) r.0, r.1)

go_on : (front before : List Line) (line : Line) → GoOn front before → MayFollow (front ++ before) line → GoOn front (before ++ line ∷ [])
go_on front [] line g may = (subst (λ f. MayFollow f line) (append-nil front) may, tt)
go_on front (x ∷ before) line g may = (g.0, go_on (front ++ x ∷ []) before line g.1 (subst (λ f. MayFollow f line) (sym (append_assoc front (x ∷ []) before)) may))

file_text-push : (before : List Line) (line : Line) (behind : List ℕ) → file_text (before ++ line ∷ []) ++ behind ≡ file_text before ++ (line_text line ++ 10 ∷ behind)
unfolding file_text
file_text-push [] line behind = append_assoc (line_text line) (10 ∷ []) behind
file_text-push (x ∷ before) line behind =
    append_assoc (line_text x) (10 ∷ file_text (before ++ line ∷ [])) behind
    ∙ ap (λ t. line_text x ++ 10 ∷ t) (file_text-push before line behind)
    ∙ sym (append_assoc (line_text x) (10 ∷ file_text before) (line_text line ++ 10 ∷ behind))

-- the reader has taken the lines before the rest
pub record Went (text rest : List ℕ) (number : ℕ) (f : Found) : Type 0 where
  pub before : List Line
  pub whole : text ≡ file_text before ++ rest
  pub sound : AreSound before
  pub tracks : Tracks f before
  pub counted : number ≡ length before
  pub fits : number + length rest ≤ length text

pub went_begin : (text : List ℕ) (f : Found) → Tracks f [] → Went text text 0 f
unfolding file_text
went_begin text f t = record { before = []; whole = refl; sound = tt; tracks = t; counted = refl; fits = omega arith }

pub went_on : (text rest line behind : List ℕ) (number : ℕ) (f g : Found) (w : Went text rest number f) → rest ≡ line ++ 10 ∷ behind → Follows w.before line g → Went text behind (number + 1) g
went_on text rest line behind number f g w cut next = record {
  before = w.before ++ next.line ∷ [];
  whole = w.whole ∙ ap (λ t. file_text w.before ++ t) (cut ∙ ap (λ t. t ++ 10 ∷ behind) next.text_of) ∙ sym (file_text-push w.before next.line behind);
  sound = go_on [] w.before next.line w.sound next.may;
  tracks = next.tracks;
  counted = omega (arith, w.counted, length-append w.before (next.line ∷ []));
  fits = omega (arith, w.fits, ap length cut, length-append line (10 ∷ behind));
}

-- the rest has no newline
pub no_end : (text rest : List ℕ) (number : ℕ) (f : Found) → Went text rest number f → length rest ≢ 0 → IsOneLine rest → IsBadAt text (number + 1)
no_end text rest number f w more one = record {
  before = w.before;
  rest = rest;
  whole = w.whole;
  sound = w.sound;
  counted = omega (arith, w.counted);
  more = λ e. more (ap length e);
  bad = λ line begins may. let h = All-back (λ b. b ≢ 10) (line_text line) (10 ∷ begins.0) (subst IsOneLine begins.1 one) in h 0 0 (omega arith) refl;
}

pub refused : (text rest line behind : List ℕ) (number : ℕ) (f : Found) (w : Went text rest number f) → rest ≡ line ++ 10 ∷ behind → IsOneLine line → MayNot w.before line → IsBadAt text (number + 1)
refused text rest line behind number f w cut one may_not = record {
  before = w.before;
  rest = rest;
  whole = w.whole;
  sound = w.sound;
  counted = omega (arith, w.counted);
  more = λ end. let h : [] ≡ line ++ 10 ∷ behind = sym end ∙ cut in omega (arith, ap length h, length-append line (10 ∷ behind));
  bad = λ x begins may. may_not x (one_split 10 line (line_text x) behind begins.0 one (line_in_line x may.line_of) (sym cut ∙ begins.1)).0 may;
}

pub went_through : (text rest : List ℕ) (number : ℕ) (f : Found) (r : Result BlsEntry BlsFault) → Went text rest number f → length rest ≡ 0
    → ((lines : List Line) → Tracks f lines → MatchResult r (λ e. AreLinesOf e lines) (IsNone lines)) → Reads text r
went_through text rest number f r w end says = by r (says w.before w.tracks)
  where
    whole : text ≡ file_text w.before
    whole = w.whole ∙ ap (λ t. file_text w.before ++ t) (nil_from_length rest end) ∙ append-nil (file_text w.before)

    by : (r : Result BlsEntry BlsFault) → MatchResult r (λ e. AreLinesOf e w.before) (IsNone w.before) → Reads text r
    by (Ok e) said = (w.before, record { whole = whole; sound = w.sound }, said)
    by (Err (BadLine n)) said = absurd said
    by (Err NoOptions) said = (w.before, record { whole = whole; sound = w.sound }, said)
    by (Err NoOstree) said = (w.before, record { whole = whole; sound = w.sound }, said)
    by (Err NoMemory) said = tt
