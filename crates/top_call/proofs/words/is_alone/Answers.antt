use Rattle.std.proofs.Common.{◌≡◌, ℕ, List, [], ◌∷◌, length, get_or, map, Bool, IsTrue, sym, ◌∙◌, ap, arith}
use Rattle.std.specs.Str.{bytes_eq}
use Rattle.std.proofs.lemmas.Slice.Eq.{bytes_eq-Decides}
use Rattle.std.specs.String.{string_bytes}
use Rattle.top_call.proofs.words.is_alone.Goals as goal

-- a list of one, by its item
one : {X : Type 0} (xs : List X) (a : X) → length xs ≡ 1 → a ≡ get_or xs 0 a → xs ≡ a ∷ []
one [] a n first = absurd (omega arith)
one (x ∷ []) a n first = cc
one (x ∷ y ∷ xs) a n first = absurd (omega arith)

alone : (a b : List ℕ) → a ∷ [] ≡ b ∷ [] → a ≡ b
alone a b same = cc

-- the words are this one alone exactly where the test of the first says so
tested : {X : Type 0} (bytes : X → List ℕ) (words : List X) (word : X) (text wanted : List ℕ) (b : Bool) → words ≡ word ∷ [] → text ≡ bytes word → b ≡ bytes_eq text wanted
    → (IsTrue b → map bytes words ≡ wanted ∷ []) × (map bytes words ≡ wanted ∷ [] → IsTrue b)
tested bytes words word text wanted b is value test = (
  (λ yes. ap (map bytes) is ∙ ap (λ t. t ∷ []) (sym value ∙ (bytes_eq-Decides text wanted).0 (sym test ∙ yes))),
  (λ same. test ∙ (bytes_eq-Decides text wanted).1 (value ∙ alone (bytes word) wanted (sym (ap (map bytes) is) ∙ same))),
)

pub returns-in-len1 : goal.returns-in-len1
returns-in-len1 c =
    tested (λ word. string_bytes word) c.args.words.now c.first-item.result c.as_str.result.now c.args.word.now c.eq.result
    (one c.args.words.now c.first-item.result (omega (arith, c.in-len1.len_at_least, c.in-len1.len_below)) c.first-item.is) c.as_str.ensures.value c.eq.ensures
