-- What a word looks like to `clap`, by the bytes that it begins with.
use Rattle.std.proofs.Common.{◌≡◌, ◌≢◌, ◌==◌, ◌++◌, Bool, true, false, ℕ, zero, suc, List, [], ◌∷◌, Option, Some, None, refl, sym, ◌∙◌, ap, subst, arith, IsUtf8}
use Rattle.std.specs.Str.{bytes_eq, chars, encode_utf8_all}
use Rattle.std.proofs.lemmas.Str.{encodes-chars, chars_past_char}
use Rattle.std.specs.Prelude.{slice_get}
use Rattle.std.specs.Char.{encode_utf8}
use Rattle.std.proofs.lemmas.Bool.Decides.{nat_tests}
use Rattle.clap.specs.Lexer.{long_of, name_and_value, short_of}
use Rattle.clap.proofs.CutLemmas.{Lacks}
use Rattle.clap.proofs.LexerLemmas.{name_and_value-at, name_and_value-without}
use Rattle.command_line.specs.Words.{IsPlain, Word}

-- `--`
abbrev pub dashes : Word
dashes = 45 ∷ 45 ∷ []

-- the word of an option of this name, with this value behind `=`
abbrev pub long_word : Word → Option Word → Word
long_word name None = 45 ∷ 45 ∷ name
long_word name (Some value) = 45 ∷ 45 ∷ (name ++ 61 ∷ value)

pub record LooksPlain (word : Word) : Type 0 where
  pub is_plain : IsPlain word
  pub no_dashes : bytes_eq word dashes ≡ false
  pub no_long : long_of word ≡ None
  pub no_short : short_of word ≡ None

pub record LooksLong (word : Word) : Type 0 where
  pub name : Word
  pub value : Option Word
  pub is : word ≡ long_word name value
  pub no_dashes : bytes_eq word dashes ≡ false
  pub long : long_of word ≡ Some (name, value)

pub record LooksShort (word : Word) : Type 0 where
  pub first : ℕ
  pub rest : List ℕ
  pub is : word ≡ 45 ∷ first ∷ rest
  pub no_dashes : bytes_eq word dashes ≡ false
  pub no_long : long_of word ≡ None
  pub short : short_of word ≡ Some (first ∷ rest)

pub data Looks (word : Word) : Type 0 where
  as_plain : LooksPlain word → Looks word
  as_dash : word ≡ dashes → Looks word
  as_long : LooksLong word → Looks word
  as_short : LooksShort word → Looks word

-- the first `=` of a text
data Cut (text : Word) : Type 0 where
  whole : Lacks 61 text → Cut text
  at : (xs ys : Word) → text ≡ xs ++ 61 ∷ ys → Lacks 61 xs → Cut text

lacks_more : (x : ℕ) (xs : Word) → x ≢ 61 → Lacks 61 xs → Lacks 61 (x ∷ xs)
lacks_more x xs other lacks zero less = other
lacks_more x xs other lacks (suc i) less = lacks i (omega arith)

cut : (text : Word) → Cut text
cut [] = whole (λ i less. absurd (omega (arith, less)))
cut (x ∷ xs) = go (x == 61) refl (cut xs)
  where
    go : (t : Bool) → (x == 61) ≡ t → Cut xs → Cut (x ∷ xs)
    go true e rest = let is : x ≡ 61 = grind (arith, nat_tests) in at [] xs (ap (λ n. n ∷ xs) is) (λ i less. absurd (omega (arith, less)))
    go false e (whole lacks) = let other : x ≢ 61 = grind (arith, nat_tests) in whole (lacks_more x xs other lacks)
    go false e (at ys zs is lacks) = let other : x ≢ 61 = grind (arith, nat_tests) in at (x ∷ ys) zs (ap (λ t. x ∷ t) is) (lacks_more x ys other lacks)

looks_long : (c : ℕ) (rest : Word) → LooksLong (45 ∷ 45 ∷ c ∷ rest)
looks_long c rest = go (cut (c ∷ rest))
  where
    go : Cut (c ∷ rest) → LooksLong (45 ∷ 45 ∷ c ∷ rest)
    go (whole lacks) = record { name = c ∷ rest; value = None; is = refl; no_dashes = refl; long = ap (λ p. Some p) (name_and_value-without (c ∷ rest) lacks) }
    go (at xs ys is lacks) = record { name = xs; value = Some ys; is = ap (λ t. 45 ∷ 45 ∷ t) is; no_dashes = refl; long = ap (λ p. Some p) (ap name_and_value is ∙ name_and_value-at xs ys lacks) }

-- each word looks like one of these
pub looks : (word : Word) → Looks word
looks [] = as_plain (record { is_plain = λ first rest e. cc; no_dashes = refl; no_long = refl; no_short = refl })
looks (x ∷ []) = go (x == 45) refl
  where
    go : (t : Bool) → (x == 45) ≡ t → Looks (x ∷ [])
    go true e = as_plain (record { is_plain = λ first rest e. cc; no_dashes = rw e refl; no_long = rw e refl; no_short = rw e refl })
    go false e = as_plain (record { is_plain = λ first rest e. cc; no_dashes = rw e refl; no_long = rw e refl; no_short = rw e refl })
looks (x ∷ y ∷ rest) = go (x == 45) refl
  where
    second : (t : Bool) → (y == 45) ≡ t → x ≡ 45 → Looks (x ∷ y ∷ rest)
    second true e is = let also : y ≡ 45 = grind (arith, nat_tests) in subst (λ t. Looks t) (sym (ap (λ n. n ∷ y ∷ rest) is ∙ ap (λ n. 45 ∷ n ∷ rest) also)) (third rest)
      where
        third : (more : Word) → Looks (45 ∷ 45 ∷ more)
        third [] = as_dash refl
        third (c ∷ more) = as_long (looks_long c more)
    second false e is = subst (λ t. Looks t) (sym (ap (λ n. n ∷ y ∷ rest) is)) (as_short (record { first = y; rest = rest; is = refl; no_dashes = rw e refl; no_long = rw e refl; short = rw e refl }))

    go : (t : Bool) → (x == 45) ≡ t → Looks (x ∷ y ∷ rest)
    go true e = second (y == 45) refl (grind (arith, nat_tests))
    go false e = let other : x ≢ 45 = grind (arith, nat_tests) in as_plain (record { is_plain = λ first more same. (let bad : x ≡ 45 = cc in other bad); no_dashes = rw e refl; no_long = rw e refl; no_short = rw e refl })

-- a word that begins with `-` and has more behind it isn't plain
pub not_plain : (first : ℕ) (rest : List ℕ) → IsPlain (45 ∷ first ∷ rest) → ⊥
not_plain first rest is = is first rest refl

dash_is : encode_utf8 45 ≡ 45 ∷ []
unfolding encode_utf8
dash_is = refl

-- the flags of a short word are some characters
pub some_flag : (first : ℕ) (rest : List ℕ) → IsUtf8 (45 ∷ first ∷ rest) → slice_get (chars (first ∷ rest)) 0 ≢ None
some_flag first rest utf8 = go (chars (first ∷ rest)) refl
  where
    go : (cs : List ℕ) → chars (first ∷ rest) ≡ cs → slice_get cs 0 ≢ None
    go [] is none =
        let front = chars_past_char (45 ∷ first ∷ rest) (first ∷ rest) 45 utf8 (sym (ap (λ d. d ++ first ∷ rest) dash_is)) in
        let all = encodes-chars (45 ∷ first ∷ rest) utf8 in
        let short : encode_utf8_all (45 ∷ []) ≡ 45 ∷ [] = ap (λ d. d ++ []) dash_is in
        let text : 45 ∷ [] ≡ 45 ∷ first ∷ rest = sym short ∙ ap encode_utf8_all (sym (front ∙ ap (λ t. 45 ∷ t) is)) ∙ all in
        cc
    go (c ∷ cs) is none = cc
