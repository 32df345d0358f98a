-- Bounds of paths: of a path's back, of its first names, and of a path without one of its names.
use Rattle.std.proofs.Common.{◌≡◌, ◌<◌, ◌≤◌, ◌+◌, ℕ, List, [], ◌∷◌, ◌++◌, length, take, get_or, codes, sym, ◌∙◌, ap, subst, arith, length-append}
use Rattle.std.proofs.lemmas.List.{take_more}
use Rattle.std.proofs.lemmas.List.Elements.{All-from_recursion}
use Rattle.std.proofs.lemmas.Str.{IsUtf8-from_ascii}
use Rattle.std.proofs.lemmas.Str.Ascii.{IsAscii-from_all}
use Rattle.std.specs.Prelude.{All, ◌≢◌}
use Rattle.ost_types.specs.Text.{IsName}
use Rattle.ost_types.specs.Path.{Name, Path, IsPath, joined, under}
use Rattle.ost_types.proofs.Joined.{IsPath-from_joined, IsPath-joined, joined-append}
use Rattle.ost_types.proofs.Splitting.{AreNames-append, AreNames-back}
use Rattle.ref_room.proofs.Names.{IsPath-front, IsPath-take}

length-joined : (p q : Path) → length (joined (p ++ q)) ≡ length (joined p) + length (joined q)
length-joined p q = ap length (joined-append p q) ∙ length-append (joined p) (joined q)

pub IsPath-back : (p q : Path) → IsPath (p ++ q) → IsPath q
IsPath-back p q is =
    let few = length-append p q in
    let short = length-joined p q in
    let all = IsPath-joined (p ++ q) is in
    IsPath-from_joined q (AreNames-back p q is.names) (omega (arith, few, is.few)) (omega (arith, short, all))

longer : (x : Name) (q : Path) → length (joined q) ≤ length (joined (x ∷ q))
unfolding joined
longer x q = let n = length-append x (joined q) in omega (arith, n)

pub IsPath-without : (p : Path) (x : Name) (q : Path) → IsPath (p ++ x ∷ q) → IsPath (p ++ q)
IsPath-without p x q is =
    let few = length-append p (x ∷ q) in
    let fewer = length-append p q in
    let long = length-joined p (x ∷ q) in
    let short = length-joined p q in
    let more = longer x q in
    let all = IsPath-joined (p ++ x ∷ q) is in
    IsPath-from_joined (p ++ q) (AreNames-append p q (IsPath-front p (x ∷ q) is).names (AreNames-back p (x ∷ q) is.names).1) (omega (arith, few, fewer, is.few)) (omega (arith, long, short, more, all))

-- one name further
pub IsPath-further : (p : Path) (k : ℕ) (x : Name) → IsPath p → k < length p → x ≡ get_or p k x → IsPath (under (take k p) x)
IsPath-further p k x is inside at = subst IsPath (take_more p k x inside ∙ ap (λ y. take k p ++ y ∷ []) (sym at)) (IsPath-take (k + 1) p is)

-- ---- the two names

letter : (b : ℕ) → (96 < b) × (b < 128) → (b < 128) × (b ≢ 0) × (b ≢ 47)
letter b is = (is.1, λ e. omega (arith, is.0, e), λ e. omega (arith, is.0, e))

of_letters : (x : List ℕ) → All (λ b. (96 < b) × (b < 128)) x → 2 < length x → length x ≤ 255 → IsName x
of_letters x bytes long short = record {
  text = record { utf8 = IsUtf8-from_ascii x (IsAscii-from_all x (λ k d lt. (letter _ (bytes k d lt)).0)); no_zero = λ k d lt. (letter _ (bytes k d lt)).1 };
  no_slash = λ k d lt. (letter _ (bytes k d lt)).2;
  not_empty = λ e. omega (arith, long, ap length e);
  not_here = λ e. omega (arith, long, ap length e);
  not_above = λ e. omega (arith, long, ap length e);
  short = short;
}

three : (a b c : ℕ) → (96 < a) × (a < 128) → (96 < b) × (b < 128) → (96 < c) × (c < 128) → IsName (a ∷ b ∷ c ∷ [])
three a b c ha hb hc = of_letters (a ∷ b ∷ c ∷ []) (All-from_recursion (λ b. (96 < b) × (b < 128)) (a ∷ b ∷ c ∷ []) (ha, (hb, (hc, tt)))) (omega arith) (omega arith)

pub usr_name : IsName (codes "usr")
usr_name = three 117 115 114 (omega arith, omega arith) (omega arith, omega arith) (omega arith, omega arith)

pub etc_name : IsName (codes "etc")
etc_name = three 101 116 99 (omega arith, omega arith) (omega arith, omega arith) (omega arith, omega arith)

pub usr_path : (f : Path) (x : Name) → f ≡ [] → x ≡ codes "usr" → IsPath (under f x)
unfolding joined
usr_path f x at is = subst (λ g. IsPath (under g x)) (sym at) (subst (λ y. IsPath (y ∷ [])) (sym is) (IsPath-from_joined (codes "usr" ∷ []) (usr_name, tt) (omega arith) (omega arith)))

pub etc_path : (f : Path) (x : Name) → f ≡ codes "usr" ∷ [] → x ≡ codes "etc" → IsPath (under f x)
unfolding joined
etc_path f x at is = subst (λ g. IsPath (under g x)) (sym at) (subst (λ y. IsPath (codes "usr" ∷ y ∷ [])) (sym is) (IsPath-from_joined (codes "usr" ∷ codes "etc" ∷ []) (usr_name, (etc_name, tt)) (omega arith) (omega arith)))
