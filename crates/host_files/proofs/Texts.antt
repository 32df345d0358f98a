-- The text of a path, name by name.
use Rattle.std.proofs.Common.{◌≡◌, ℕ, ◌+◌, ◌-◌, ◌<◌, ◌≤◌, List, [], ◌∷◌, ◌++◌, length, get_or, take, drop, refl, sym, ap, ◌∙◌, arith, append_assoc, length-append, append-nil}
use Rattle.std.proofs.lemmas.List.{take_more, take-append-drop, take_at, take_all}
use Rattle.ost_types.specs.Path.{Name, Path, IsPath, joined, text_of, under}
use Rattle.host_files.specs.HostPath.{host_text}

pub joined-append : (p q : Path) → joined (p ++ q) ≡ joined p ++ joined q
unfolding joined
joined-append [] q = refl
joined-append (x ∷ p) q = ap (λ (t : List ℕ). 47 ∷ (x ++ t)) (joined-append p q) ∙ ap (λ (t : List ℕ). 47 ∷ t) (sym (append_assoc x (joined p) (joined q)))

pub joined_one : (x : Name) → joined (x ∷ []) ≡ 47 ∷ x
unfolding joined
joined_one x = ap (λ (t : List ℕ). 47 ∷ t) (append-nil x)

pub text_longest : (p : Path) → length (joined p) ≤ length (text_of p)
unfolding joined
text_longest [] = omega arith
text_longest (x ∷ p) = omega arith

-- one name more
pub joined_more : (p : Path) (i : ℕ) (x : Name) → i < length p → get_or p i x ≡ x → joined (take (i + 1) p) ≡ joined (take i p) ++ 47 ∷ x
joined_more p i x lt is =
    ap joined (take_more p i x lt) ∙ joined-append (take i p) (get_or p i x ∷ [])
    ∙ ap (λ (t : List ℕ). joined (take i p) ++ t) (ap (λ (y : Name). joined (y ∷ [])) is ∙ joined_one x)

-- and what is spelled so far is never longer than the whole
pub joined_shorter : (p : Path) (i : ℕ) → length (joined (take i p)) ≤ length (joined p)
joined_shorter p i = omega (arith, ap (λ (q : Path). length (joined q)) (take-append-drop i p), ap (λ (t : List ℕ). length t) (joined-append (take i p) (drop i p)), length-append (joined (take i p)) (joined (drop i p)))

-- a text that is spelled up to a name, with that name
pub text_more : (text : List ℕ) (p : Path) (i : ℕ) (x : Name) → text ≡ host_text (take i p) → i < length p → x ≡ get_or p i x → text ++ 47 ∷ x ≡ host_text (take (i + 1) p)
text_more text p i x is lt item = ap (λ (t : List ℕ). t ++ 47 ∷ x) is ∙ ap (λ (t : List ℕ). 46 ∷ t) (sym (joined_more p i x lt (sym item)))

pub text_fits : (text : List ℕ) (p : Path) (i : ℕ) (x : Name) → text ≡ host_text (take i p) → i < length p → x ≡ get_or p i x → length (joined p) ≤ 2048 → length text + 1 + length x ≤ 2080
text_fits text p i x is lt item short =
    let more : length (text ++ 47 ∷ x) ≡ length (host_text (take (i + 1) p)) = ap (λ (t : List ℕ). length t) (text_more text p i x is lt item) in
    omega (arith, more, length-append text (47 ∷ x), joined_shorter p (i + 1), short)

pub path_short : (p : Path) → IsPath p → length (joined p) ≤ 2048
path_short p path = omega (arith, text_longest p, path.short)

-- what is spelled so far leaves room behind it for the reserved names
pub part_short : (text : List ℕ) (p : Path) (i : ℕ) → text ≡ host_text (take i p) → IsPath p → length text ≤ 2049
part_short text p i is path = omega (arith, ap (λ (t : List ℕ). length t) is, joined_shorter p i, path_short p path)

pub front_short : (p : Path) (n : ℕ) → IsPath p → length (joined (take n p)) ≤ 2048
front_short p n path = omega (arith, joined_shorter p n, path_short p path)

pub part_longest : (text : List ℕ) (p : Path) (n i : ℕ) → text ≡ host_text (take i (take n p)) → IsPath p → length text ≤ 2049
part_longest text p n i is path = omega (arith, ap (λ (t : List ℕ). length t) is, joined_shorter (take n p) i, front_short p n path)

-- all of so many names were spelled
pub front_text : (text : List ℕ) (all : Path) (n i : ℕ) → text ≡ host_text (take i (take n all)) → length (take n all) ≤ i → text ≡ host_text (take n all)
front_text text all n i is end = is ∙ ap host_text (take_all i (take n all) end)

-- all names but the last are the folder's
pub parent_text : (text : List ℕ) (all : Path) (n : ℕ) (p : Path) (x : Name) → text ≡ host_text (take n all) → n ≡ length all - 1 → all ≡ under p x → text ≡ host_text p
parent_text text all n p x is count whole =
    let n_is : n ≡ length p = count ∙ ap (λ (q : Path). length q - 1) whole ∙ ap (λ (k : ℕ). k - 1) (length-append p (x ∷ [])) ∙ omega arith in
    let front : take n all ≡ p = ap (λ (q : Path). take n q) whole ∙ take_at p (x ∷ []) n (sym n_is) in
    is ∙ ap host_text front

pub whole_text : (text : List ℕ) (all : Path) (n : ℕ) → text ≡ host_text (take n all) → n ≡ length all → text ≡ host_text all
whole_text text all n is count = is ∙ ap host_text (take_all n all (omega (arith, count)))
