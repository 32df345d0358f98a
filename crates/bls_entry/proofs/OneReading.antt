-- A text has one reading.
use Rattle.std.proofs.Common.{◌≡◌, ◌≢◌, ◌⊎◌, inl, inr, ◌+◌, ◌<◌, ◌^◌, ℕ, List, [], ◌∷◌, ◌++◌, length, Option, Some, None, Result, Ok, Err, refl, sym, ◌∙◌, ap, subst, append-nil, append_assoc, arith, length-append}
use Rattle.std.proofs.lemmas.Fmt.{decimal_injective}
use Rattle.std.specs.Fmt.{decimal}
use Rattle.bls_entry.specs.declared.entry.BlsEntry.{BlsEntry}
use Rattle.bls_entry.specs.declared.fault.BlsFault.{BlsFault}
use Rattle.bls_entry.specs.declared.fault.BlsFault.TheVariants.{BadLine, NoOptions, NoOstree, NoMemory}
use Rattle.bls_entry.specs.declared.key.Key.TheVariants.{Title, Version, Options, Linux, Initrd}
use Rattle.bls_entry.specs.Line.{Line, BeginsSetting, IsLine, IsSetting, line_text, file_text}
use Rattle.bls_entry.specs.Line.Line.{Blank, Comment, Setting}
use Rattle.bls_entry.specs.Entry.{AreLinesOf, MayFollow, GoOn, AreSound, IsVersionOf, value_of}
use Rattle.bls_entry.specs.Reading.{Reads, Begins, IsBadAt, IsWhole, NamesNone}
use Rattle.bls_entry.proofs.Settings.{one_setting}
use Rattle.bls_entry.proofs.Whole.{line_in_line, one_split}
use Rattle.bls_entry.proofs.Numbers.{wide}

-- ---- a text is the text of one line

setting_begins : (key rest : List ℕ) → BeginsSetting key → BeginsSetting (key ++ rest)
setting_begins [] rest begins = absurd begins
setting_begins (b ∷ key) rest begins = begins

one_line : (a b : Line) → IsLine a → IsLine b → line_text a ≡ line_text b → a ≡ b
one_line Blank Blank p q e = refl
one_line Blank (Comment t) p q e = absurd (let n : [] ≡ 35 ∷ t = e in cc)
one_line Blank (Setting k b v) p q e = absurd (subst BeginsSetting (sym e) (setting_begins k (b ++ v) q.0.before.begins))
one_line (Comment s) Blank p q e = absurd (let n : 35 ∷ s ≡ [] = e in cc)
one_line (Comment s) (Comment t) p q e = let n : 35 ∷ s ≡ 35 ∷ t = e in let h : s ≡ t = cc in ap Comment h
one_line (Comment s) (Setting k b v) p q e = absurd (subst BeginsSetting (sym e) (setting_begins k (b ++ v) q.0.before.begins) refl)
one_line (Setting k b v) Blank p q e = absurd (subst BeginsSetting e (setting_begins k (b ++ v) p.0.before.begins))
one_line (Setting k b v) (Comment t) p q e = absurd (subst BeginsSetting e (setting_begins k (b ++ v) p.0.before.begins) refl)
one_line (Setting k b v) (Setting l c w) p q e =
    let same = one_setting k b v l c w p.0 q.0 e in
    ap (λ x. Setting x b v) same.0 ∙ ap (λ x. Setting l x v) same.1 ∙ ap (λ x. Setting l c x) same.2

one_begin : (a b : Line) (s t : List ℕ) → IsLine a → IsLine b → line_text a ++ 10 ∷ s ≡ line_text b ++ 10 ∷ t → (a ≡ b) × (s ≡ t)
one_begin a b s t p q e = let same = one_split 10 (line_text a) (line_text b) s t (line_in_line a p) (line_in_line b q) e in (one_line a b p q same.0, same.1)

-- ---- two ways of taking lines off one text

-- the second takes this line next, where the first has stopped
record Further (xs : List Line) (rest : List ℕ) : Type 0 where
  line : Line
  begins : Begins rest line
  may : MayFollow xs line

abbrev Compared : List Line → List Line → List ℕ → List ℕ → Type 0
Compared xs ys r s = ((xs ≡ ys) × (r ≡ s)) ⊎ (Further xs r ⊎ Further ys s)

compare : (front xs ys : List Line) (r s : List ℕ) → GoOn front xs → GoOn front ys → file_text xs ++ r ≡ file_text ys ++ s → Compared (front ++ xs) (front ++ ys) r s
unfolding file_text
compare front [] [] r s p q e = inl (refl, e)
compare front [] (y ∷ ys) r s p q e = inr (inl (record {
  line = y;
  begins = (file_text ys ++ s, e ∙ append_assoc (line_text y) (10 ∷ file_text ys) s);
  may = subst (λ f. MayFollow f y) (sym (append-nil front)) q.0;
}))
compare front (x ∷ xs) [] r s p q e = inr (inr (record {
  line = x;
  begins = (file_text xs ++ r, sym e ∙ append_assoc (line_text x) (10 ∷ file_text xs) r);
  may = subst (λ f. MayFollow f x) (sym (append-nil front)) p.0;
}))
compare front (x ∷ xs) (y ∷ ys) r s p q e =
    let same = one_begin x y (file_text xs ++ r) (file_text ys ++ s) p.0.line_of q.0.line_of (sym (append_assoc (line_text x) (10 ∷ file_text xs) r) ∙ e ∙ append_assoc (line_text y) (10 ∷ file_text ys) s) in
    let rest = compare (front ++ x ∷ []) xs ys r s p.1 (subst (λ z. GoOn (front ++ z ∷ []) ys) (sym same.0) q.1) same.1 in
    subst (λ f. Compared f (front ++ y ∷ ys) r s) (append_assoc front (x ∷ []) xs)
    (subst (λ f. Compared ((front ++ x ∷ []) ++ xs) f r s) (append_assoc front (x ∷ []) ys ∙ ap (λ z. front ++ z ∷ ys) same.0) rest)

begins_some : (line : Line) → Begins [] line → ⊥
begins_some line b = omega (arith, ap length b.1, length-append (line_text line) (10 ∷ b.0))

whole_whole : (text : List ℕ) (xs ys : List Line) → IsWhole text xs → IsWhole text ys → xs ≡ ys
whole_whole text xs ys x y = by (compare [] xs ys [] [] x.sound y.sound (append-nil (file_text xs) ∙ sym x.whole ∙ y.whole ∙ sym (append-nil (file_text ys))))
  where
    by : Compared xs ys [] [] → xs ≡ ys
    by (inl same) = same.0
    by (inr (inl f)) = absurd (begins_some f.line f.begins)
    by (inr (inr f)) = absurd (begins_some f.line f.begins)

whole_bad : (text : List ℕ) (xs : List Line) (n : ℕ) → IsWhole text xs → IsBadAt text n → ⊥
whole_bad text xs n x y = by (compare [] xs y.before [] y.rest x.sound y.sound (append-nil (file_text xs) ∙ sym x.whole ∙ y.whole))
  where
    by : Compared xs y.before [] y.rest → ⊥
    by (inl same) = y.more (sym same.1)
    by (inr (inl f)) = begins_some f.line f.begins
    by (inr (inr f)) = y.bad f.line f.begins f.may

bad_bad : (text : List ℕ) (m n : ℕ) → IsBadAt text m → IsBadAt text n → m ≡ n
bad_bad text m n x y = by (compare [] x.before y.before x.rest y.rest x.sound y.sound (sym x.whole ∙ y.whole))
  where
    by : Compared x.before y.before x.rest y.rest → m ≡ n
    by (inl same) = x.counted ∙ ap (λ b. length b + 1) same.0 ∙ sym y.counted
    by (inr (inl f)) = absurd (x.bad f.line f.begins f.may)
    by (inr (inr f)) = absurd (y.bad f.line f.begins f.may)

-- ---- what lines say

abbrev entry : List ℕ → ℕ → List ℕ → List ℕ → Option (List ℕ) → BlsEntry
entry t v o l i = record { title = t; version = v; options = o; linux = l; initrd = i }

some_one : (a b : List ℕ) (o : Option (List ℕ)) → o ≡ Some a → o ≡ Some b → a ≡ b
some_one a b o x y = cc

version_one : (m n : ℕ) (o : Option (List ℕ)) → IsVersionOf m o → IsVersionOf n o → m ≡ n
version_one m n None x y = x ∙ sym y
version_one m n (Some value) x y = decimal_injective m n (wide m x.0) (wide n y.0) (sym x.1 ∙ y.1)

entry_one : (a b : BlsEntry) (lines : List Line) → AreLinesOf a lines → AreLinesOf b lines → a ≡ b
entry_one a b lines x y =
    ap (λ t. entry t a.version a.options a.linux a.initrd) (x.title ∙ sym y.title)
    ∙ ap (λ v. entry b.title v a.options a.linux a.initrd) (version_one a.version b.version (value_of Version lines) x.version y.version)
    ∙ ap (λ o. entry b.title b.version o a.linux a.initrd) (some_one a.options b.options (value_of Options lines) x.options y.options)
    ∙ ap (λ l. entry b.title b.version b.options l a.initrd) (x.linux ∙ sym y.linux)
    ∙ ap (λ i. entry b.title b.version b.options b.linux i) (x.initrd ∙ sym y.initrd)

-- what is said of sound lines
abbrev Says : List Line → Result BlsEntry BlsFault → Type 0
Says lines (Ok e) = AreLinesOf e lines
Says lines (Err (BadLine n)) = ⊥
Says lines (Err NoOptions) = value_of Options lines ≡ None
Says lines (Err NoOstree) = NamesNone (value_of Options lines)
Says lines (Err NoMemory) = ⊥

not_none : (e : BlsEntry) (lines : List Line) → AreLinesOf e lines → value_of Options lines ≡ None → ⊥
not_none e lines x none = let h : Some e.options ≡ None = sym x.options ∙ none in cc

names : (e : BlsEntry) (lines : List Line) → AreLinesOf e lines → NamesNone (value_of Options lines) → ⊥
names e lines x none = (subst NamesNone x.options none) x.ostree

some_none : (lines : List Line) → value_of Options lines ≡ None → NamesNone (value_of Options lines) → ⊥
some_none lines none other = subst NamesNone none other

same_says : (lines : List Line) (a b : Result BlsEntry BlsFault) → Says lines a → Says lines b → a ≡ b
same_says lines (Ok a) (Ok b) x y = ap Ok (entry_one a b lines x y)
same_says lines (Ok a) (Err (BadLine n)) x y = absurd y
same_says lines (Ok a) (Err NoOptions) x y = absurd (not_none a lines x y)
same_says lines (Ok a) (Err NoOstree) x y = absurd (names a lines x y)
same_says lines (Ok a) (Err NoMemory) x y = absurd y
same_says lines (Err (BadLine n)) b x y = absurd x
same_says lines (Err NoOptions) (Ok b) x y = absurd (not_none b lines y x)
same_says lines (Err NoOptions) (Err (BadLine n)) x y = absurd y
same_says lines (Err NoOptions) (Err NoOptions) x y = refl
same_says lines (Err NoOptions) (Err NoOstree) x y = absurd (some_none lines x y)
same_says lines (Err NoOptions) (Err NoMemory) x y = absurd y
same_says lines (Err NoOstree) (Ok b) x y = absurd (names b lines y x)
same_says lines (Err NoOstree) (Err (BadLine n)) x y = absurd y
same_says lines (Err NoOstree) (Err NoOptions) x y = absurd (some_none lines y x)
same_says lines (Err NoOstree) (Err NoOstree) x y = refl
same_says lines (Err NoOstree) (Err NoMemory) x y = absurd y
same_says lines (Err NoMemory) b x y = absurd x

-- a reading is of whole lines, or of a bad one
record OfLines (text : List ℕ) (r : Result BlsEntry BlsFault) : Type 0 where
  lines : List Line
  whole : IsWhole text lines
  says : Says lines r

abbrev OfBad : List ℕ → Result BlsEntry BlsFault → Type 0
OfBad text r = (n : ℕ) × (r ≡ Err (BadLine n)) × IsBadAt text n

abbrev failed : BlsFault → Result BlsEntry BlsFault
failed f = Err f

sorted : (text : List ℕ) (r : Result BlsEntry BlsFault) → Reads text r → r ≢ Err NoMemory → OfLines text r ⊎ OfBad text r
sorted text (Ok e) (lines, whole, says) other = inl (record { lines = lines; whole = whole; says = says })
sorted text (Err (BadLine n)) bad other = inr (n, refl, bad)
sorted text (Err NoOptions) (lines, whole, says) other = inl (record { lines = lines; whole = whole; says = says })
sorted text (Err NoOstree) (lines, whole, says) other = inl (record { lines = lines; whole = whole; says = says })
sorted text (Err NoMemory) said other = absurd (other refl)

pub one_reading : (text : List ℕ) (a b : Result BlsEntry BlsFault) → Reads text a → Reads text b → a ≢ Err NoMemory → b ≢ Err NoMemory → a ≡ b
one_reading text a b x y m n = by (sorted text a x m) (sorted text b y n)
  where
    by : OfLines text a ⊎ OfBad text a → OfLines text b ⊎ OfBad text b → a ≡ b
    by (inl p) (inl q) = same_says q.lines a b (subst (λ l. Says l a) (whole_whole text p.lines q.lines p.whole q.whole) p.says) q.says
    by (inl p) (inr q) = absurd (whole_bad text p.lines q.0 p.whole q.2)
    by (inr p) (inl q) = absurd (whole_bad text q.lines p.0 q.whole p.2)
    by (inr p) (inr q) = p.1 ∙ ap (λ k. failed (BadLine k)) (bad_bad text p.0 q.0 p.2 q.2) ∙ sym q.1
