-- The loops over the names of a text.
use Rattle.std.proofs.Common.{◌≡◌, ◌≢◌, ℕ, ◌+◌, ◌≤◌, List, [], ◌∷◌, ◌++◌, length, refl, sym, ◌∙◌, ap, subst, arith, length-append, append-nil, append_assoc}
use Rattle.ost_types.specs.Text.{IsName}
use Rattle.ost_types.specs.Path.{Path, AreNames, joined, text_of}
use Rattle.ost_types.specs.Split.{BeginsWithSlash, StartsName, HasNames, HasNoNames}
use Rattle.ost_types.proofs.Pieces.{NoSlash, behind, behind-name, behind-joined, joined-behind, joined-injective, behind-nothing}

pub AreNames-append : (p q : Path) → AreNames p → AreNames q → AreNames (p ++ q)
AreNames-append [] q h g = g
AreNames-append (x ∷ p) q h g = (h.0, AreNames-append p q h.1 g)

pub AreNames-back : (p q : Path) → AreNames (p ++ q) → AreNames q
AreNames-back [] q h = h
AreNames-back (x ∷ p) q h = AreNames-back p q h.1

-- the text of the root, and any other
pub root-text : (p : Path) (t : List ℕ) → AreNames p → BeginsWithSlash t → length t ≡ 1 → (text_of p ≡ t → joined p ≡ []) × (joined p ≡ [] → text_of p ≡ t)
unfolding joined
root-text [] t h (r, begins) one = (λ e. refl, λ e. sym (begins ∙ ap (λ q. 47 ∷ q) (none r t begins one)))
  where
    none : (r t : List ℕ) → t ≡ 47 ∷ r → length t ≡ 1 → r ≡ []
    none [] t begins one = refl
    none (b ∷ r) t begins one = let n : length t ≡ length (47 ∷ b ∷ r) = ap length begins in absurd (omega (arith, n, one))
root-text (x ∷ p) t h begins one = (λ e. absurd (h.0.not_empty (none x (joined p) t e one)), λ e. cc)
  where
    none : (x r t : List ℕ) → 47 ∷ (x ++ r) ≡ t → length t ≡ 1 → x ≡ []
    none [] r t e one = refl
    none (b ∷ x) r t e one = let n : length (47 ∷ b ∷ (x ++ r)) ≡ length t = ap length e in absurd (omega (arith, n, one))

pub other-text : (p : Path) (t : List ℕ) → BeginsWithSlash t → length t ≢ 1 → (text_of p ≡ t → joined p ≡ t) × (joined p ≡ t → text_of p ≡ t)
unfolding joined
other-text [] t (r, begins) more = (λ e. absurd (more (sym (ap length e))), λ e. let n : [] ≡ 47 ∷ r = e ∙ begins in cc)
other-text (x ∷ p) t begins more = (λ e. e, λ e. e)

slash_first : (rest after : List ℕ) (first : ℕ) → StartsName rest → rest ≡ first ∷ after → rest ≡ 47 ∷ after
slash_first [] after first s e = absurd (let n : [] ≡ first ∷ after = e in cc)
slash_first (b ∷ t) after first s e = let h : b ≡ 47 = s in cc

-- the names behind what stands in front
next-name : (rest after name more : List ℕ) (first : ℕ) → StartsName rest → rest ≡ first ∷ after → after ≡ name ++ more → NoSlash name → StartsName more → behind rest ≡ name ∷ behind more
next-name rest after name more first s e cut plain starts = ap behind (slash_first rest after first s e ∙ ap (λ t. 47 ∷ t) cut) ∙ behind-name name more plain starts

-- so many names stand before the rest
pub record IsCounted (bytes rest : List ℕ) (count : ℕ) : Type 0 where
  pub starts : StartsName rest
  pub counted : count + length (behind rest) ≡ length (behind bytes)
  pub to_rest : AreNames (behind bytes) → AreNames (behind rest)
  pub from_rest : AreNames (behind rest) → AreNames (behind bytes)
  pub fits : count + length rest ≤ length bytes

pub IsCounted-start : (bytes : List ℕ) → StartsName bytes → IsCounted bytes bytes 0
IsCounted-start bytes s = record { starts = s; counted = omega arith; to_rest = λ h. h; from_rest = λ h. h; fits = omega arith }

module _ (bytes rest after name more : List ℕ) (count first : ℕ) (before : IsCounted bytes rest count) (e : rest ≡ first ∷ after) (cut : after ≡ name ++ more) (plain : NoSlash name) (starts : StartsName more) where
  pub IsCounted-more : IsName name → IsCounted bytes more (count + 1)
  IsCounted-more is =
      let n = next-name rest after name more first before.starts e cut plain starts in
      let l : length (behind rest) ≡ length (name ∷ behind more) = ap length n in
      let a : length rest ≡ length (first ∷ after) = ap length e in
      let b : length after ≡ length (name ++ more) = ap length cut in
      record {
        starts = starts;
        counted = omega (arith, l, before.counted);
        to_rest = λ h. (subst AreNames n (before.to_rest h)).1;
        from_rest = λ h. before.from_rest (subst AreNames (sym n) (is, h));
        fits = omega (arith, a, b, length-append name more, before.fits);
      }

  pub HasNoNames-here : (IsName name → ⊥) → HasNoNames bytes
  HasNoNames-here not p names joins =
      let n = next-name rest after name more first before.starts e cut plain starts in
      let all : AreNames (behind bytes) = subst AreNames (sym (behind-joined p names) ∙ ap behind joins) names in
      not (subst AreNames n (before.to_rest all)).0

pub HasNames-end : (bytes rest : List ℕ) (count : ℕ) → StartsName bytes → IsCounted bytes rest count → length rest ≡ 0 → HasNames bytes count
HasNames-end bytes rest count s all none =
    let n = behind-nothing rest none in
    (behind bytes, all.from_rest (subst AreNames (sym n) tt), joined-behind bytes s, sym all.counted ∙ rw n (omega arith))

-- these names stand before the rest
pub record IsRead (bytes rest : List ℕ) (names : Path) : Type 0 where
  pub starts : StartsName rest
  pub whole : names ++ behind rest ≡ behind bytes

pub IsRead-start : (bytes : List ℕ) → StartsName bytes → IsRead bytes bytes []
IsRead-start bytes s = record { starts = s; whole = refl }

AreNames-behind : (bytes : List ℕ) → (p : Path) × AreNames p × (joined p ≡ bytes) → AreNames (behind bytes)
AreNames-behind bytes (p, names, joins) = subst AreNames (sym (behind-joined p names) ∙ ap behind joins) names

module _ (bytes rest after name more : List ℕ) (names : Path) (first : ℕ) (before : IsRead bytes rest names) (e : rest ≡ first ∷ after) (cut : after ≡ name ++ more) (plain : NoSlash name) (starts : StartsName more) where
  pub IsRead-more : IsRead bytes more (names ++ name ∷ [])
  IsRead-more =
      let n = next-name rest after name more first before.starts e cut plain starts in
      record { starts = starts; whole = append_assoc names (name ∷ []) (behind more) ∙ ap (λ p. names ++ p) (sym n) ∙ before.whole }

  pub IsRead-name : (p : Path) × AreNames p × (joined p ≡ bytes) → IsName name
  IsRead-name some =
      let n = next-name rest after name more first before.starts e cut plain starts in
      let all : AreNames (names ++ behind rest) = subst AreNames (sym before.whole) (AreNames-behind bytes some) in
      (subst AreNames n (AreNames-back names (behind rest) all)).0

pub IsRead-end : (bytes rest : List ℕ) (names : Path) → StartsName bytes → (p : Path) × AreNames p × (joined p ≡ bytes) → IsRead bytes rest names → length rest ≡ 0 → AreNames names × (joined names ≡ bytes)
IsRead-end bytes rest names s some all none =
    let e : names ≡ behind bytes = sym (append-nil names) ∙ ap (λ p. names ++ p) (sym (behind-nothing rest none)) ∙ all.whole in
    (subst AreNames (sym e) (AreNames-behind bytes some), ap joined e ∙ joined-behind bytes s)

-- what `parse` reads is a path
pub IsPath-read : (p : Path) (t b : List ℕ) (n : ℕ) → HasNames b n → AreNames p × (joined p ≡ b) → ((q : Path) → AreNames q → (text_of q ≡ t → joined q ≡ b) × (joined q ≡ b → text_of q ≡ t)) → length t ≤ 1024 → n ≤ 64 → (length p ≤ 64) × (text_of p ≡ t)
IsPath-read p t b n some read same short few =
    let e : some.0 ≡ p = joined-injective some.0 p some.1 read.0 (some.2 ∙ sym read.1) in
    (omega (arith, ap length e, some.3, few), (same p read.0).1 read.1)
