-- From the text of a field to the content that it has.
use Rattle.std.proofs.Common.{◌≡◌, ◌≢◌, ◌<◌, ◌≤◌, ◌^◌, ◌⊎◌, inl, inr, ℕ, suc, List, [], ◌∷◌, ◌++◌, length, take, drop, Option, Some, None, MatchOption, IfSome, IsNone, refl, sym, ◌∙◌, ap, subst, arith, rules}
use Rattle.std.specs.Fmt.{decimal}
use Rattle.std.proofs.Math.Seq.{take-append_seam, drop-append_seam}
use Rattle.std.proofs.lemmas.List.{length-append}
use Rattle.std.proofs.lemmas.Fmt.{decimal_injective}
use Rattle.ost_types.specs.Csum.{hex_of}
use Rattle.ost_types.proofs.HexSums.{hex_of-injective}
use Rattle.ost_forms.specs.declared.tree_item.BodySpec.{BodySpec}
use Rattle.ost_forms.specs.declared.tree_item.BodySpec.TheVariants.{Given, Fill, Target}
use Rattle.script.specs.Field.{Gives, IsField, IsFieldOf, Spells, Stands}
use Rattle.script.proofs.Spelling.{one, two_digits}
use Rattle.script_reader.specs.Values.{IsFillText, IsFillBody, IsContent}

pub GivenBy : List ℕ → BodySpec → Type 0
GivenBy text body = (bytes : List ℕ) × (body ≡ Given bytes) × Spells text bytes

-- a field with `=` in front is no other content
firsts : (a b : ℕ) (t u : List ℕ) → a ∷ t ≡ b ∷ u → a ≡ b
firsts a b t u e = cc

stands_first : (a b : ℕ) (t r : List ℕ) → Stands (a ∷ t) b r → (a ≡ b) ⊎ (a ≡ 37)
stands_first a b t r (inl x) = inl (firsts a b t r x.0)
stands_first a b t r (inr x) = inr (firsts a 37 t (hex_of (b ∷ []) ++ r) x)

spells_first : (a b : ℕ) (t v : List ℕ) → Spells (a ∷ t) (b ∷ v) → (a ≡ b) ⊎ (a ≡ 37)
spells_first a b t v s = stands_first a b t s.1 s.2

other_byte : (a b : ℕ) → a ≡ 61 → b ≡ 42 → (a ≡ b) ⊎ (a ≡ 37) → ⊥
other_byte a b x y (inl e) = omega (arith, x, y, e)
other_byte a b x y (inr e) = omega (arith, x, e)

other_first : (a b : ℕ) (text t : List ℕ) → a ≡ 61 → b ≡ 42 → IsField (a ∷ text) (b ∷ t) → ⊥
other_first a b text t x y (inl tilde) = let n : b ∷ t ≡ [] = tilde.1 in cc
other_first a b text t x y (inr spelled) = other_byte a b x y (spells_first a b text t spelled.2)

pub filled_first : (field text : List ℕ) (len byte : ℕ) → field ≡ 61 ∷ text → IsFieldOf IsFillBody field (Fill len byte) → ⊥
filled_first field text len byte e of =
    let t : List ℕ = decimal len ++ (58 ∷ hex_of (byte ∷ [])) in
    other_first 61 42 text t refl refl (subst (λ f. IsField f (42 ∷ t)) e (subst (IsField field) of.written.written of.spelled))

pub given_from : (field text : List ℕ) (o : Option BodySpec) → field ≡ 61 ∷ text
    → MatchOption o ((body : BodySpec) → ¬ ((bytes : List ℕ) × (body ≡ Given bytes) × Spells text bytes)) (λ body. (bytes : List ℕ) × (body ≡ Given bytes) × Spells text bytes)
    → Gives (IsContent field) o
given_from field text None e none = by
  where
    by : (body : BodySpec) → ¬ (IsContent field body)
    by (Given bytes) is = let t : is.0 ≡ text = cc in none (Given bytes) (bytes, refl, subst (λ t. Spells t bytes) t is.2)
    by (Fill len byte) is = filled_first field text len byte e is
    by (Target t) is = is
given_from field text (Some body) e found = subst (IsContent field) (sym found.1) (text, e, found.2)

pub fill_from : (field : List ℕ) (o : Option BodySpec) → ((text : List ℕ) → field ≡ 61 ∷ text → ⊥) → Gives (IsFieldOf IsFillBody field) o → Gives (IsContent field) o
fill_from field None other none = by
  where
    by : (body : BodySpec) → ¬ (IsContent field body)
    by (Given bytes) is = other is.0 is.1
    by (Fill len byte) is = none (Fill len byte) is
    by (Target t) is = is
fill_from field (Some (Given bytes)) other found = absurd found.written
fill_from field (Some (Fill len byte)) other found = found
fill_from field (Some (Target t)) other found = absurd found.written

-- a text whose end is as long as another's end
same_front : (xs ys zs ws : List ℕ) → xs ++ ys ≡ zs ++ ws → length ys ≡ length ws → (xs ≡ zs) × (ys ≡ ws)
same_front xs ys zs ws e ends =
    let l : length xs ≡ length zs = omega (arith, ap length e, ends, length-append xs ys, length-append zs ws) in (
      sym (take-append_seam xs ys) ∙ ap (λ n. take n (xs ++ ys)) l ∙ ap (take (length zs)) e ∙ take-append_seam zs ws,
      sym (drop-append_seam xs ys) ∙ ap (λ n. drop n (xs ++ ys)) l ∙ ap (drop (length zs)) e ∙ drop-append_seam zs ws,
    )

three : (byte : ℕ) → length (58 ∷ hex_of (byte ∷ [])) ≡ 3
three byte = ap suc (two_digits byte)

-- `*` in front, and three bytes at the end
pub record IsCut (text digits value : List ℕ) : Type 0 where
  pub whole : text ≡ 42 ∷ (digits ++ value)
  pub end : length value ≡ 3

cut_as : (text digits value : List ℕ) (len byte : ℕ) → IsCut text digits value → IsFillText text len byte → (digits ≡ decimal len) × (value ≡ 58 ∷ hex_of (byte ∷ []))
cut_as text digits value len byte cut fill =
    let e : 42 ∷ (digits ++ value) ≡ 42 ∷ (decimal len ++ (58 ∷ hex_of (byte ∷ []))) = sym cut.whole ∙ fill.written in
    let t : digits ++ value ≡ decimal len ++ (58 ∷ hex_of (byte ∷ [])) = cc in
    same_front digits value (decimal len) (58 ∷ hex_of (byte ∷ [])) t (cut.end ∙ sym (three byte))

pub fill_long : (text : List ℕ) (rest : List ℕ) (len byte : ℕ) → text ≡ 42 ∷ rest → IsFillText text len byte → 3 ≤ length rest
fill_long text rest len byte e fill =
    let r : rest ≡ decimal len ++ (58 ∷ hex_of (byte ∷ [])) = cc in
    omega (arith, ap length r, length-append (decimal len) (58 ∷ hex_of (byte ∷ [])), three byte)

pub fill_one : (text : List ℕ) (x y : BodySpec) → IsFillBody text x → IsFillBody text y → x ≡ y
fill_one text (Given b) y a c = absurd a
fill_one text (Target t) y a c = absurd a
fill_one text (Fill len byte) (Given b) a c = absurd c
fill_one text (Fill len byte) (Target t) a c = absurd c
fill_one text (Fill len byte) (Fill n b) a c =
    let parts = cut_as text (decimal n) (58 ∷ hex_of (b ∷ [])) len byte (record { whole = c.written; end = three b }) a in
    let l : n ≡ len = decimal_injective n len (omega (arith, c.few)) (omega (arith, a.few)) parts.0 in
    let d : hex_of (b ∷ []) ≡ hex_of (byte ∷ []) = ap (drop 1) parts.1 in
    let bytes : b ∷ [] ≡ byte ∷ [] = hex_of-injective (b ∷ []) (byte ∷ []) (one b c.small) (one byte a.small) d in
    let e : b ≡ byte = cc in
    cc

pub value_from : (text digits : List ℕ) (o : Option ℕ) → text ≡ 58 ∷ digits → IfSome o (λ b. digits ≡ hex_of (b ∷ [])) → (IsNone o → (b : ℕ) → b < 256 → digits ≢ hex_of (b ∷ []))
    → MatchOption o ((b : ℕ) → b < 256 → text ≢ 58 ∷ hex_of (b ∷ [])) (λ b. text ≡ 58 ∷ hex_of (b ∷ []))
value_from text digits None is some none = λ b small e. let d : digits ≡ hex_of (b ∷ []) = cc in none (search rules) b small d
value_from text digits (Some b) is some none = is ∙ ap (λ d. 58 ∷ d) some

pub no_fill : (text : List ℕ) → ((len byte : ℕ) → ¬ (IsFillText text len byte)) → (body : BodySpec) → ¬ (IsFillBody text body)
no_fill text none (Given b) is = is
no_fill text none (Fill len byte) is = none len byte is
no_fill text none (Target t) is = is

module _ (text digits value : List ℕ) (whole : text ≡ 42 ∷ (digits ++ value)) (end : length value ≡ 3) where
  cut_so : IsCut text digits value
  cut_so = record { whole = whole; end = end }

  pub no_number : ((n : ℕ) → n < 2 ^ 64 → digits ≢ decimal n) → (body : BodySpec) → ¬ (IsFillBody text body)
  no_number none = no_fill text (λ len byte fill. none len (omega (arith, fill.few)) (cut_as text digits value len byte cut_so fill).0)

  pub no_value : ((b : ℕ) → b < 256 → value ≢ 58 ∷ hex_of (b ∷ [])) → (body : BodySpec) → ¬ (IsFillBody text body)
  no_value none = no_fill text (λ len byte fill. none byte fill.small (cut_as text digits value len byte cut_so fill).1)

  pub too_many : (n : ℕ) → n < 2 ^ 64 → digits ≡ decimal n → 268435456 < n → (body : BodySpec) → ¬ (IsFillBody text body)
  too_many n small is many = no_fill text (λ len byte fill.
      let e : decimal n ≡ decimal len = sym is ∙ (cut_as text digits value len byte cut_so fill).0 in
      let same : n ≡ len = decimal_injective n len small (omega (arith, fill.few)) e in
      omega (arith, same, fill.few, many))

  pub filled : (len byte : ℕ) → digits ≡ decimal len → value ≡ 58 ∷ hex_of (byte ∷ []) → len ≤ 268435456 → byte < 256 → IsFillText text len byte
  filled len byte d v few small = record { written = whole ∙ ap (λ t. 42 ∷ t) (ap (λ x. x ++ value) d ∙ ap (λ x. decimal len ++ x) v); few = few; small = small }
