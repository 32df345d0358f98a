-- The names directly in a folder, by the flat lists of paths.
use Rattle.std.proofs.Common.{◌≡◌, ◌≢◌, ℕ, zero, suc, ◌+◌, ◌-◌, ◌<◌, Bool, true, false, ◌||◌, eqb, nat_eq, refl, sym, ◌∙◌, ap, subst, List, [], ◌∷◌, ◌++◌, length, take, drop, get_or, All, arith, length-append, append_assoc}
use Rattle.std.specs.Bool.{Decides}
use Rattle.std.specs.List.{list_any}
use Rattle.std.specs.Cmp.Lexicographic.{pointwise}
use Rattle.std.proofs.lemmas.Bool.Decides.{Decides-eqb}
use Rattle.std.proofs.lemmas.List.{get_or-take, length-take-le}
use Rattle.std.proofs.lemmas.List.Folds.{list_any_none}
use Rattle.std.proofs.Math.Seq.{take-append_seam, drop-append_seam, get_or-append_seam}
use Rattle.std.proofs.Common.{take-append-drop}
use Rattle.ost_types.specs.Path.{Name, Path, AreNames, under, is_in}
use Rattle.ost_types.specs.Flat.{flat}
use Rattle.ost_types.proofs.Flats.{flat-push}
use Rattle.ost_types.proofs.Paths.{same_name-Decides, under-is_in}
use Rattle.memory_table.proofs.Splitting.{last_name}

abbrev NoZero : List ℕ → Type 0
NoZero x = All (λ b. b ≢ 0) x

first : (b : ℕ) (x : List ℕ) → NoZero (b ∷ x) → b ≢ 0
first b x h = h zero b (omega arith)

rest_of : (b : ℕ) (x : List ℕ) → NoZero (b ∷ x) → NoZero x
rest_of b x h = λ k d less. h (suc k) d (omega (arith, less))

-- two names that end alike
ended : (x a s t : List ℕ) → NoZero x → NoZero a → x ++ 0 ∷ s ≡ a ++ 0 ∷ t → (x ≡ a) × (s ≡ t)
ended [] [] s t h g e = (refl, cc)
ended [] (b ∷ a) s t h g e = let n : b ≡ 0 = cc in absurd (first b a g n)
ended (b ∷ x) [] s t h g e = let n : b ≡ 0 = cc in absurd (first b x h n)
ended (b ∷ x) (c ∷ a) s t h g e =
    let n : b ≡ c = cc in
    let m : x ++ 0 ∷ s ≡ a ++ 0 ∷ t = cc in
    let r = ended x a s t (rest_of b x h) (rest_of c a g) m in
    (cc (n, r.0), r.1)

-- what stands behind the front of a path
behind : (f p : Path) (rest : List ℕ) → AreNames f → AreNames p → flat p ≡ flat f ++ rest → (q : Path) × AreNames q × (p ≡ f ++ q) × (rest ≡ flat q)
unfolding flat
behind [] p rest nf np e = (p, np, refl, sym e)
behind (a ∷ f) [] rest nf np e = let n : length {A = ℕ} [] ≡ length ((a ++ 0 ∷ flat f) ++ rest) = ap length e in let l = length-append (a ++ 0 ∷ flat f) rest in let m = length-append a (0 ∷ flat f) in absurd (omega (arith, n, l, m))
behind (a ∷ f) (x ∷ p) rest nf np e =
    let r = ended x a (flat p) (flat f ++ rest) np.0.text.no_zero nf.0.text.no_zero (e ∙ append_assoc a (0 ∷ flat f) rest) in
    let b = behind f p rest nf.1 np.1 r.1 in
    (b.0, b.1, cc (r.0, b.2), b.3)

-- a single name, by its bytes
single : (q : Path) → 0 < length (flat q) → NoZero (take (length (flat q) - 1) (flat q)) → q ≡ take (length (flat q) - 1) (flat q) ∷ []
unfolding flat
single [] some clean = absurd (omega (arith, some))
single (x ∷ []) some clean =
    let l : length (x ++ 0 ∷ []) ≡ length x + 1 = length-append x (0 ∷ []) in
    let n : length (x ++ 0 ∷ []) - 1 ≡ length x = omega (arith, l) in
    rw (n, take-append_seam x (0 ∷ [])) refl
single (x ∷ y ∷ q) some clean =
    let t : List ℕ = y ++ 0 ∷ flat q in
    let l : length (x ++ 0 ∷ t) ≡ length x + length (0 ∷ t) = length-append x (0 ∷ t) in
    let m : length t ≡ length y + length (0 ∷ flat q) = length-append y (0 ∷ flat q) in
    let k : length x < length (x ++ 0 ∷ t) - 1 = omega (arith, l, m) in
    let k' : length x < length (take (length (x ++ 0 ∷ t) - 1) (x ++ 0 ∷ t)) = shorter (x ++ 0 ∷ t) (length x) k in
    let z : get_or (take (length (x ++ 0 ∷ t) - 1) (x ++ 0 ∷ t)) (length x) 1 ≡ 0 = get_or-take _ _ _ 1 k ∙ get_or-append_seam x 0 t 1 in
    absurd (clean (length x) 1 k' z)
  where
    shorter : (l : List ℕ) (i : ℕ) → i < length l - 1 → i < length (take (length l - 1) l)
    shorter l i h = let e : length (take (length l - 1) l) ≡ length l - 1 = length-take-le (length l - 1) l (omega arith) in omega (arith, e, h)

none_any : (xs : List ℕ) → list_any (λ y. eqb y 0) xs ≡ false → NoZero xs
none_any [] clean = λ k d less. absurd (omega (arith, less))
none_any (x ∷ xs) clean = go (eqb x 0) (Decides-eqb x 0) clean (λ e. none_any xs e)
  where
    each : x ≢ 0 → NoZero xs → (k : ℕ) (d : ℕ) → k < length (x ∷ xs) → get_or (x ∷ xs) k d ≢ 0
    each some clean zero d less = some
    each some clean (suc k) d less = clean k d (omega (arith, less))

    go : (b : Bool) → Decides b (x ≡ 0) → b || list_any (λ y. eqb y 0) xs ≡ false → (list_any (λ y. eqb y 0) xs ≡ false → NoZero xs) → NoZero (x ∷ xs)
    go true d e later = let n : true ≡ false = e in cc
    go false d e later = each (λ is. let n : false ≡ true = d.1 is in cc) (later e)

clean_any : (xs : List ℕ) → NoZero xs → list_any (λ y. eqb y 0) xs ≡ false
clean_any xs clean = list_any_none (λ y. eqb y 0) xs (λ k d less. no _ (Decides-eqb (get_or xs k d) 0) (clean k d less))
  where
    no : {P : Type 0} (b : Bool) → Decides b P → (P → ⊥) → b ≡ false
    no true d none = absurd (none (d.0 refl))
    no false d none = refl

no_child : (f p : Path) → (is_in f p ≡ true → ⊥) → is_in f p ≡ false
no_child f p none = go (is_in f p) none
  where
    go : (b : Bool) → (b ≡ true → ⊥) → b ≡ false
    go true none = absurd (none refl)
    go false none = refl

-- the text of a path, and that of a folder
module _ (folder text : List ℕ) (f p : Path) (nf : AreNames f) (np : AreNames p) (ff : folder ≡ flat f) (tp : text ≡ flat p) where
  -- what the text is, where the path is a name in the folder
  child_text : (x : Name) → p ≡ under f x → text ≡ folder ++ (x ++ 0 ∷ [])
  child_text x is = tp ∙ ap flat is ∙ flat-push f x ∙ ap (λ t. t ++ (x ++ 0 ∷ [])) (sym ff)

  pub no_child-front : pointwise nat_eq (take (length folder) text) folder ≡ false → is_in f p ≡ false
  no_child-front other = no_child f p (λ is_child.
      let u = under-is_in f p is_child in
      let t : take (length folder) text ≡ folder = ap (take (length folder)) (child_text u.0 u.1) ∙ take-append_seam folder _ in
      let n : false ≡ true = sym other ∙ (same_name-Decides _ _).1 t in cc)

  module _ (rest : List ℕ) (is : rest ≡ drop (length folder) text) where
    child_rest : (x : Name) → p ≡ under f x → rest ≡ x ++ 0 ∷ []
    child_rest x child = is ∙ ap (drop (length folder)) (child_text x child) ∙ drop-append_seam folder _

    pub no_child-end : length rest ≡ 0 → is_in f p ≡ false
    no_child-end none = no_child f p (λ is_child.
        let u = under-is_in f p is_child in
        let l : length rest ≡ length (u.0 ++ 0 ∷ []) = ap length (child_rest u.0 u.1) in
        let m = length-append u.0 (0 ∷ []) in
        absurd (omega (arith, none, l, m)))

    pub no_child-zero : list_any (λ y. eqb y 0) (take (length rest - 1) rest) ≡ true → is_in f p ≡ false
    no_child-zero zeros = no_child f p (λ is_child.
        let u = under-is_in f p is_child in
        let r = child_rest u.0 u.1 in
        let l : length rest ≡ length (u.0 ++ 0 ∷ []) = ap length r in
        let m : length (u.0 ++ 0 ∷ []) ≡ length u.0 + 1 = length-append u.0 (0 ∷ []) in
        let k : length rest - 1 ≡ length u.0 = omega (arith, l, m) in
        let t : take (length rest - 1) rest ≡ u.0 = ap (λ j. take j rest) k ∙ ap (take (length u.0)) r ∙ take-append_seam u.0 (0 ∷ []) in
        let n : true ≡ false = sym zeros ∙ ap (list_any (λ y. eqb y 0)) t ∙ clean_any u.0 (last_name p f u.0 np u.1).text.no_zero in cc)

    pub child : pointwise nat_eq (take (length folder) text) folder ≡ true → length rest ≢ 0 → list_any (λ y. eqb y 0) (take (length rest - 1) rest) ≡ false → p ≡ under f (take (length rest - 1) rest)
    child front some clean =
        let t : take (length folder) text ≡ folder = (same_name-Decides _ _).0 front in
        let w : flat p ≡ flat f ++ rest = sym tp ∙ sym (take-append-drop (length folder) text) ∙ ap (λ l. l ++ drop (length folder) text) (t ∙ ff) ∙ ap (λ l. flat f ++ l) (sym is) in
        let b = behind f p rest nf np w in
        let s : b.0 ≡ take (length (flat b.0) - 1) (flat b.0) ∷ [] = single b.0 (let l : length rest ≡ length (flat b.0) = ap length b.3 in omega (arith, some, l)) (subst (λ r. NoZero (take (length r - 1) r)) b.3 (none_any _ clean)) in
        b.2 ∙ ap (λ q. f ++ q) s ∙ ap (λ r. under f (take (length r - 1) r)) (sym b.3)
