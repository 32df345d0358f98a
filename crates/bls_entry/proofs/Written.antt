-- The text of an entry is read as this entry.
use Rattle.std.proofs.Common.{◌≡◌, ◌≢◌, ◌<◌, ◌≤◌, ◌+◌, ◌^◌, ◌%◌, ◌&&◌, ◌==◌, not, ℕ, Bool, true, false, List, [], ◌∷◌, ◌++◌, All, length, Option, Some, None, IfSome, Ok, refl, sym, ◌∙◌, ap, subst, append_assoc, arith}
use Rattle.std.specs.Fmt.{decimal}
use Rattle.std.specs.List.{list_all}
use Rattle.std.proofs.lemmas.Fmt.{decimal_by_steps, decimal_nonempty}
use Rattle.std.proofs.lemmas.List.Elements.{All-cons, All-append, All-head, All-weaker}
use Rattle.ost_types.specs.Text.{IsText}
use Rattle.bls_entry.specs.declared.entry.BlsEntry.{BlsEntry}
use Rattle.bls_entry.specs.declared.key.Key.{Key}
use Rattle.bls_entry.specs.declared.key.Key.TheVariants.{Title, Version, Options, Linux, Initrd}
use Rattle.bls_entry.specs.Line.{Line, AreBlanks, BeginsPlain, BeginsSetting, Fits, IsKey, IsLine, IsOneLine, IsValue, is_blank, spelled}
use Rattle.bls_entry.specs.Entry.{AreLinesOf, AreSound, CanBeWritten, GoOn, IsNew, MayFollow, MayStand, entry_text, initrd_lines, line_of, lines_of, value_of}
use Rattle.bls_entry.specs.Reading.{Reads}
use Rattle.bls_entry.proofs.Keys.{spelled_one}
use Rattle.bls_entry.proofs.Numbers.{wide}

none : {X : Type 0} (P : X → Type 0) → All P []
none P = λ k d less. absurd (omega (arith, less))

-- ---- keys

abbrev is_key_byte : ℕ → Bool
is_key_byte b = not (is_blank b) && not (b == 10)

both : (a b : Bool) → (a && b) ≡ true → (a ≡ true) × (b ≡ true)
both true b e = (refl, e)
both false b e = absurd (let h : false ≡ true = e in cc)

key_bytes : (xs : List ℕ) → list_all is_key_byte xs ≡ true → All (λ b. is_key_byte b ≡ true) xs
key_bytes [] e = none (λ b. is_key_byte b ≡ true)
key_bytes (x ∷ xs) e = let p = both (is_key_byte x) (list_all is_key_byte xs) e in All-cons (λ b. is_key_byte b ≡ true) x xs p.0 (key_bytes xs p.1)

no_blank : (b : ℕ) → is_key_byte b ≡ true → is_blank b ≡ false
no_blank b is = by (is_blank b) refl
  where
    by : (t : Bool) → is_blank b ≡ t → is_blank b ≡ false
    by true e = absurd (let h : false ≡ true = sym (ap (λ t. not t && not (b == 10)) e) ∙ is in cc)
    by false e = e

no_newline : (b : ℕ) → is_key_byte b ≡ true → b ≢ 10
no_newline b is e = let h : false ≡ true = subst (λ x. is_key_byte x ≡ true) e is in cc

key_from : (key : List ℕ) → BeginsSetting key → list_all is_key_byte key ≡ true → IsKey key
key_from key begins e = record {
  begins = begins;
  no_blank = All-weaker (λ b. is_key_byte b ≡ true) (λ b. is_blank b ≡ false) no_blank key (key_bytes key e);
  one_line = All-weaker (λ b. is_key_byte b ≡ true) (λ b. b ≢ 10) no_newline key (key_bytes key e);
}

is_key : (key : Key) → IsKey (spelled key)
is_key Title = key_from (spelled Title) (λ e. omega (arith, e)) refl
is_key Version = key_from (spelled Version) (λ e. omega (arith, e)) refl
is_key Options = key_from (spelled Options) (λ e. omega (arith, e)) refl
is_key Linux = key_from (spelled Linux) (λ e. omega (arith, e)) refl
is_key Initrd = key_from (spelled Initrd) (λ e. omega (arith, e)) refl

one_space : AreBlanks (32 ∷ [])
one_space = record { some = λ e. let h : 32 ∷ [] ≡ [] = e in cc; all = All-cons (λ b. is_blank b ≡ true) 32 [] refl (none (λ b. is_blank b ≡ true)) }

line_fits : (key : Key) (value : List ℕ) → Fits key value → IsValue value → IsLine (line_of key value)
line_fits key value fits is = (record { before = is_key key; between = one_space; behind = is }, λ known same. subst (λ k. Fits k value) (spelled_one key known same) fits)

line_new : (before : List Line) (key : Key) (value : List ℕ) → value_of key before ≡ None → IsNew before (line_of key value)
line_new before key value absent = λ known same. subst (λ k. value_of k before ≡ None) (spelled_one key known same) absent

line_may : (before : List Line) (key : Key) (value : List ℕ) → Fits key value → IsValue value → value_of key before ≡ None → MayFollow before (line_of key value)
line_may before key value fits is absent = record { line_of = line_fits key value fits is; new = line_new before key value absent }

-- ---- versions

abbrev IsDigit : ℕ → Type 0
IsDigit b = (48 ≤ b) × (b ≤ 57)

digits_all : (n : ℕ) → n < 2 ^ 64 → All IsDigit (decimal n)
digits_all = decimal_by_steps (λ n ds. All IsDigit ds)
    (λ n less. All-cons IsDigit (48 + n) [] (omega arith, omega arith) (none IsDigit))
    (λ n ds less all. All-append IsDigit ds ((48 + n % 10) ∷ []) all (All-cons IsDigit (48 + n % 10) [] (omega arith, omega arith) (none IsDigit)))

digit_plain : (b : ℕ) → IsDigit b → is_blank b ≡ false
digit_plain b is = by (is_blank b) refl
  where
    by : (t : Bool) → is_blank b ≡ t → is_blank b ≡ false
    by true e = absurd (grind (arith, e, is))
    by false e = e

begins_digit : (ds : List ℕ) → 0 < length ds → All IsDigit ds → BeginsPlain ds
begins_digit [] more all = absurd (omega (arith, more))
begins_digit (d ∷ ds) more all = digit_plain d (All-head IsDigit d ds all)

version_value : (n : ℕ) → n < 2 ^ 32 → IsValue (decimal n)
version_value n small =
    let all = digits_all n (wide n small) in
    record { begins = begins_digit (decimal n) (decimal_nonempty n (wide n small)) all; one_line = All-weaker IsDigit (λ b. b ≢ 10) (λ b is e. omega (arith, is.0, e)) (decimal n) all }

-- ---- the lines of an entry

module _ (title : List ℕ) (version : ℕ) (options linux : List ℕ) where
  abbrev first_lines : List Line
  first_lines = line_of Title title ∷ line_of Version (decimal version) ∷ line_of Options options ∷ line_of Linux linux ∷ []

  initrd_goes : (initrd : Option (List ℕ)) → IfSome initrd MayStand → GoOn first_lines (initrd_lines initrd)
  unfolding value_of
  initrd_goes None may = tt
  initrd_goes (Some path) may = (line_may first_lines Initrd path may.text may.line refl, tt)

  lines_go : MayStand title → version < 2 ^ 32 → MayStand options → MayStand linux → (initrd : Option (List ℕ)) → IfSome initrd MayStand
      → AreSound (line_of Title title ∷ line_of Version (decimal version) ∷ line_of Options options ∷ line_of Linux linux ∷ initrd_lines initrd)
  unfolding value_of
  lines_go t v o l initrd i = (
    line_may [] Title title t.text t.line refl,
    (
      line_may (line_of Title title ∷ []) Version (decimal version) (version, v, refl) (version_value version v) refl,
      (
        line_may (line_of Title title ∷ line_of Version (decimal version) ∷ []) Options options o.text o.line refl,
        (
          line_may (line_of Title title ∷ line_of Version (decimal version) ∷ line_of Options options ∷ []) Linux linux l.text l.line refl,
          initrd_goes initrd i,
        ),
      ),
    ),
  )

initrd_said : (initrd : Option (List ℕ)) → initrd ≡ value_of Initrd (initrd_lines initrd)
unfolding value_of
initrd_said None = refl
initrd_said (Some path) = refl

lines_say : (e : BlsEntry) → CanBeWritten e → AreLinesOf e (lines_of e)
unfolding value_of
lines_say e can = record { title = refl; version = (can.version, refl); options = refl; linux = refl; initrd = initrd_said e.initrd; ostree = can.ostree }

pub read_back : (e : BlsEntry) → CanBeWritten e → Reads (entry_text e) (Ok e)
read_back e can = (lines_of e, record { whole = refl; sound = lines_go e.title e.version e.options e.linux can.title can.version can.options can.linux e.initrd can.initrd }, lines_say e can)

-- ---- the text, line by line

pub joined : (t a b c d e l m n o r : List ℕ) → t ≡ [] → a ≡ t ++ (l ++ 10 ∷ []) → b ≡ a ++ (m ++ 10 ∷ []) → c ≡ b ++ (n ++ 10 ∷ []) → d ≡ c ++ (o ++ 10 ∷ []) → e ≡ d ++ r
    → e ≡ l ++ 10 ∷ (m ++ 10 ∷ (n ++ 10 ∷ (o ++ 10 ∷ r)))
joined t a b c d e l m n o r h i j k p q =
    q ∙ ap (λ x. x ++ r) (p ∙ ap (λ x. x ++ (o ++ 10 ∷ [])) (k ∙ ap (λ x. x ++ (n ++ 10 ∷ [])) (j ∙ ap (λ x. x ++ (m ++ 10 ∷ [])) (i ∙ ap (λ x. x ++ (l ++ 10 ∷ [])) h)))) ∙ flat
  where
    flat : ((((l ++ 10 ∷ []) ++ (m ++ 10 ∷ [])) ++ (n ++ 10 ∷ [])) ++ (o ++ 10 ∷ [])) ++ r ≡ l ++ 10 ∷ (m ++ 10 ∷ (n ++ 10 ∷ (o ++ 10 ∷ r)))
    flat = simp append_assoc
