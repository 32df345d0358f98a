-- The texts of paths that are put together.
use Rattle.std.proofs.Common.{◌≡◌, ◌↔◌, ℕ, ◌+◌, ◌<◌, ◌≤◌, [], ◌∷◌, ◌++◌, length, take, drop, get_or, refl, sym, ◌∙◌, ap, arith, length-append, append-nil, append_assoc}
use Rattle.std.proofs.lemmas.List.{take-append-drop}
use Rattle.std.proofs.lemmas.Grind.{common_steps}
use Rattle.ost_types.specs.Text.{IsName}
use Rattle.ost_types.specs.Path.{Name, Path, AreNames, IsPath, joined, text_of, under}
use Rattle.ost_types.proofs.Splitting.{AreNames-append}

pub joined-append : (p q : Path) → joined (p ++ q) ≡ joined p ++ joined q
unfolding joined
joined-append [] q = refl
joined-append (x ∷ p) q = ap (λ r. 47 ∷ r) (ap (λ r. x ++ r) (joined-append p q) ∙ sym (append_assoc x (joined p) (joined q)))

pub joined-push : (p : Path) (x : Name) → joined (p ++ x ∷ []) ≡ joined p ++ (47 ∷ x)
unfolding joined
joined-push p x = joined-append p (x ∷ []) ∙ ap (λ r. joined p ++ (47 ∷ r)) (append-nil x)

-- but for the root's, the text is that of the names
pub text-joined : (p : Path) → (0 < length p) → text_of p ≡ joined p
text-joined [] some = absurd (omega (arith, some))
text-joined (x ∷ p) some = refl

short_text : (p : Path) → (length (text_of p) ≤ 2048 → length (joined p) ≤ 2048) × (length (joined p) ≤ 2048 → length (text_of p) ≤ 2048)
unfolding joined
short_text [] = (λ _. omega arith, λ _. omega arith)
short_text (x ∷ p) = (λ h. h, λ h. h)

pub IsPath-joined : (p : Path) → IsPath p → length (joined p) ≤ 2048
IsPath-joined p h = (short_text p).0 h.short

pub IsPath-from_joined : (p : Path) → AreNames p → length p ≤ 80 → length (joined p) ≤ 2048 → IsPath p
IsPath-from_joined p names few short = record { names = names; few = few; short = (short_text p).1 short }

pub IsPath-append : (p q : Path) → IsPath p → IsPath q → ((length p + length q ≤ 80) × (length (joined p) + length (joined q) ≤ 2048)) ↔ IsPath (p ++ q)
IsPath-append p q h g =
    let n = length-append p q in
    let t : length (joined (p ++ q)) ≡ length (joined p) + length (joined q) = ap length (joined-append p q) ∙ length-append (joined p) (joined q) in (
      λ r. IsPath-from_joined (p ++ q) (AreNames-append p q h.names g.names) (omega (arith, n, r)) (omega (arith, t, r)),
      λ r. let s = IsPath-joined (p ++ q) r in (omega (arith, n, r.few), omega (arith, t, s)),
    )

pub IsPath-under : (p : Path) (x : Name) → IsPath p → IsName x → ((length p < 80) × (length (joined p) + 1 + length x ≤ 2048)) ↔ IsPath (under p x)
IsPath-under p x h is =
    let n = length-append p (x ∷ []) in
    let t : length (joined (under p x)) ≡ length (joined p) + length (47 ∷ x) = ap length (joined-push p x) ∙ length-append (joined p) (47 ∷ x) in (
      λ r. IsPath-from_joined (under p x) (AreNames-append p (x ∷ []) h.names (is, tt)) (omega (arith, n, r)) (omega (arith, t, r)),
      λ r. let s = IsPath-joined (under p x) r in (omega (arith, n, r.few), omega (arith, t, s)),
    )

pub joined-take : (p : Path) (i : ℕ) → length (joined (take i p)) ≤ length (joined p)
joined-take p i =
    let e : length (joined p) ≡ length (joined (take i p)) + length (joined (drop i p)) = ap (λ q. length (joined q)) (sym (take-append-drop i p)) ∙ ap length (joined-append (take i p) (drop i p)) ∙ length-append (joined (take i p)) (joined (drop i p)) in
    omega (arith, e)

-- one name more
pub joined-take_more : (p : Path) (i : ℕ) (x : Name) → i < length p → x ≡ get_or p i x → joined (take (i + 1) p) ≡ joined (take i p) ++ (47 ∷ x)
joined-take_more p i x less is = ap joined (grind (arith, common_steps)) ∙ joined-push (take i p) x
