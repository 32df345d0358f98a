-- The paths on the way to a ref's file.
use Rattle.std.proofs.Common.{◌≡◌, ◌==◌, ◌≤◌, ◌<◌, ◌+◌, ◌-◌, ℕ, suc, Bool, true, false, ◌&&◌, refl, List, [], ◌∷◌, ◌++◌, length, take, drop, get_or, sym, ◌∙◌, ap, subst, arith, length-append, append-nil, append_assoc}
use Rattle.std.proofs.Math.Seq.{take-suc, take-length, take-append_seam}
use Rattle.std.proofs.lemmas.List.{take-append-drop, get_or-append-add, drop_more, take-take}
use Rattle.std.proofs.lemmas.List.Splits.{length-slice_split}
use Rattle.ost_types.specs.Path.{Name, Path, AreNames, IsPath, joined, under, is_below}
use Rattle.ost_types.proofs.Paths.{same_name-Decides}
use Rattle.ost_types.proofs.Joined.{joined-append, IsPath-joined, IsPath-from_joined}
use Rattle.fs_trait.proofs.Claims.{is_below-before}
use Rattle.repo_layout.specs.RefName.{parts_of}
use Rattle.repo_layout.specs.Paths.{heads, ref_path}
use Rattle.repo_layout.proofs.RefPaths.{joined-parts_of}
use Rattle.ref_room.specs.Clash.{way_to, ref_folder, IsAbove}

pub length-ref_path : (name : List ℕ) → length (ref_path name) ≡ 4 + length (parts_of name)
unfolding ref_path
length-ref_path name = length-append heads (parts_of name)

pub some_parts : (name : List ℕ) → 0 < length (parts_of name)
some_parts name = let n = length-slice_split (λ b. b == 47) name in omega (arith, n)

AreNames-front : (p q : Path) → AreNames (p ++ q) → AreNames p
AreNames-front [] q names = tt
AreNames-front (x ∷ p) q names = (names.0, AreNames-front p q names.1)

-- what is above a path is within the bounds of paths too
pub IsPath-front : (p q : Path) → IsPath (p ++ q) → IsPath p
IsPath-front p q is =
    let n = length-append p q in
    let t : length (joined (p ++ q)) ≡ length (joined p) + length (joined q) = ap length (joined-append p q) ∙ length-append (joined p) (joined q) in
    let s = IsPath-joined (p ++ q) is in
    IsPath-from_joined p (AreNames-front p q is.names) (omega (arith, n, is.few)) (omega (arith, t, s))

pub IsPath-take : (i : ℕ) (p : Path) → IsPath p → IsPath (take i p)
IsPath-take i p is = IsPath-front (take i p) (drop i p) (subst IsPath (sym (take-append-drop i p)) is)

-- one name further of the first names
pub IsPath-next : (p : Path) (count i : ℕ) (x : Name) → IsPath p → i < length (take count p) → x ≡ get_or (take count p) i x → IsPath (under (take i (take count p)) x)
IsPath-next p count i x is less e =
    let q = take count p in
    let more : under (take i q) x ≡ take (suc i) q = ap (under (take i q)) e ∙ sym (take-suc q i x less) in
    subst IsPath (sym more) (IsPath-take (suc i) q (IsPath-take count p is))

pub way_to-none : (name : List ℕ) → way_to 0 name ≡ heads
unfolding way_to
way_to-none name = append-nil heads

pub way_to-all : (name : List ℕ) → way_to (length (parts_of name)) name ≡ ref_path name
unfolding way_to ref_path
way_to-all name = ap (λ p. heads ++ p) (take-length (parts_of name))

next_number : (k : ℕ) → suc k ≡ k + 1
next_number k = omega arith

-- one part further
pub way_to-more : (k : ℕ) (name : List ℕ) (d : Name) → k < length (parts_of name) → under (way_to k name) (get_or (ref_path name) (4 + k) d) ≡ way_to (k + 1) name
unfolding way_to ref_path
way_to-more k name d less =
    let part : get_or (heads ++ parts_of name) (4 + k) d ≡ get_or (parts_of name) k d = get_or-append-add heads (parts_of name) k d in
    ap (λ x. under (heads ++ take k (parts_of name)) x) part
    ∙ append_assoc heads (take k (parts_of name)) (get_or (parts_of name) k d ∷ [])
    ∙ ap (λ p. heads ++ p) (sym (take-suc (parts_of name) k d less))
    ∙ ap (λ n. heads ++ take n (parts_of name)) (next_number k)

-- what is left of the path
pub way_to-rest : (k : ℕ) (name : List ℕ) → way_to k name ++ drop k (parts_of name) ≡ ref_path name
unfolding way_to ref_path
way_to-rest k name = append_assoc heads (take k (parts_of name)) (drop k (parts_of name)) ∙ ap (λ p. heads ++ p) (take-append-drop k (parts_of name))

pub way_to-path : (k : ℕ) (name : List ℕ) → IsPath (ref_path name) → IsPath (way_to k name)
way_to-path k name is = IsPath-front (way_to k name) (drop k (parts_of name)) (subst IsPath (sym (way_to-rest k name)) is)

pub way_to-below : (k : ℕ) (name : List ℕ) → is_below (way_to k name) (ref_path name) ≡ true
way_to-below k name = subst (λ p. is_below (way_to k name) p ≡ true) (way_to-rest k name) (is_below-before (way_to k name) (drop k (parts_of name)))

pub ways-below : (k m : ℕ) (name : List ℕ) → k ≤ m → is_below (way_to k name) (way_to m name) ≡ true
unfolding way_to
ways-below k m name le =
    let front : take k (take m (parts_of name)) ≡ take k (parts_of name) = take-take k m (parts_of name) le in
    let rest : (heads ++ take k (parts_of name)) ++ drop k (take m (parts_of name)) ≡ heads ++ take m (parts_of name) =
    append_assoc heads (take k (parts_of name)) (drop k (take m (parts_of name)))
    ∙ ap (λ p. heads ++ (p ++ drop k (take m (parts_of name)))) (sym front)
    ∙ ap (λ p. heads ++ p) (take-append-drop k (take m (parts_of name))) in
    subst (λ p. is_below (heads ++ take k (parts_of name)) p ≡ true) rest (is_below-before (heads ++ take k (parts_of name)) (drop k (take m (parts_of name))))

pub heads-above : (k : ℕ) (name : List ℕ) → is_below heads (way_to k name) ≡ true
unfolding way_to
heads-above k name = is_below-before heads (take k (parts_of name))

pub ref_folder-under : (name : List ℕ) → (x : Name) × (ref_path name ≡ under (ref_folder name) x)
ref_folder-under name =
    let some = some_parts name in
    let n = length (parts_of name) - 1 in
    let k : n + 1 ≡ length (parts_of name) = omega (arith, some) in
    (get_or (ref_path name) (4 + n) [], sym (way_to-more n name [] (omega (arith, some)) ∙ ap (λ m. way_to m name) k ∙ way_to-all name))

-- refs have paths of their own
pub parts-one : (a b : List ℕ) → parts_of a ≡ parts_of b → a ≡ b
parts-one a b e = let j : 47 ∷ a ≡ 47 ∷ b = sym (joined-parts_of a) ∙ ap joined e ∙ joined-parts_of b in cc

pub ref_path-one : (a b : List ℕ) → ref_path a ≡ ref_path b → a ≡ b
unfolding ref_path
ref_path-one a b e = parts-one a b (ap (drop 4) e)

-- a ref above another has a folder's path on the way to it
pub above-way : (a b : List ℕ) → IsAbove a b → (k : ℕ) × (0 < k) × (k < length (parts_of b)) × (ref_path a ≡ way_to k b)
unfolding ref_path way_to
above-way a b above =
    let x = above.0 in
    let rest = above.1 in
    let e = above.2 in
    let n : length (parts_of b) ≡ length (parts_of a) + length (x ∷ rest) = ap length e ∙ length-append (parts_of a) (x ∷ rest) in
    let front : take (length (parts_of a)) (parts_of b) ≡ parts_of a = ap (take (length (parts_of a))) e ∙ take-append_seam (parts_of a) (x ∷ rest) in
    (length (parts_of a), some_parts a, omega (arith, n), ap (λ p. heads ++ p) (sym front))

pub way-above : (k : ℕ) (a b : List ℕ) → k < length (parts_of b) → ref_path a ≡ way_to k b → IsAbove a b
unfolding ref_path way_to
way-above k a b less e =
    let front : parts_of a ≡ take k (parts_of b) = ap (drop 4) e in
    (get_or (parts_of b) k [], drop (k + 1) (parts_of b), sym (take-append-drop k (parts_of b)) ∙ ap (λ p. p ++ drop k (parts_of b)) (sym front) ∙ ap (λ p. parts_of a ++ p) (drop_more (parts_of b) k [] less))

both_true : (a b : Bool) → a && b ≡ true → (a ≡ true) × (b ≡ true)
both_true true true e = (refl, refl)
both_true true false e = let n : false ≡ true = e in cc
both_true false b e = let n : false ≡ true = e in cc

-- what is below a path is the path with more behind it
pub below-rest : (p q : Path) → is_below p q ≡ true → (rest : Path) × (q ≡ p ++ rest)
unfolding is_below
below-rest [] q e = (q, refl)
below-rest (a ∷ p) [] e = let n : false ≡ true = e in cc
below-rest (a ∷ p) (x ∷ q) e =
    let s = both_true _ _ e in
    let more = below-rest p q s.1 in
    let head : a ≡ x = (same_name-Decides a x).0 s.0 in
    (more.0, cc (head, more.1))
