-- A plan that grows at its end.
use Rattle.std.proofs.Common.{◌≡◌, ◌≢◌, ◌⊎◌, inl, inr, ⊎_elim, ℕ, zero, suc, ◌+◌, ◌<◌, arith, Bool, true, false, List, [], ◌∷◌, ◌++◌, length, take, get_or, Contains, Option, Some, None, if◌then◌else◌, refl, sym, ◌∙◌, ap, subst, length-append}
use Rattle.std.proofs.lemmas.Bool.Decides.{leb_tells}
use Rattle.std.proofs.lemmas.List.{take-append-le, get_or_append_left}
use Rattle.std.proofs.Math.Seq.{take-append_seam}
use Rattle.ost_types.specs.Path.{Path, IsPath, same_path}
use Rattle.ost_types.proofs.Paths.{same_or_apart, same_path-self, same_path-apart}
use Rattle.folder_build.specs.declared.node.Content.{Content}
use Rattle.folder_build.specs.declared.node.Content.TheVariants.{Folder}
use Rattle.folder_build.specs.declared.node.NewNode.{NewNode}
use Rattle.folder_build.specs.Node.{content_at}
use Rattle.folder_build.specs.Build.{IsNumber, IsPlan, MayFollow}
use Rattle.boot_plan.specs.Plans.{AreLaid}

-- a node after a push was there before, or is the new one
pushed_number : (m : List NewNode) (e : NewNode) (n : ℕ) (a : NewNode) → IsNumber (m ++ e ∷ []) n a → IsNumber m n a ⊎ ((n ≡ length m) × (e ≡ a))
pushed_number m e n a number = ⊎_elim (λ q. inr (last (omega (arith, q.1, number.0, whole)))) (λ q. inl (q.1, sym (get_or_append_left m (e ∷ []) a n q.1) ∙ number.1)) (leb_tells (length m) n)
  where
    whole : length (m ++ e ∷ []) ≡ length m + 1
    whole = length-append m (e ∷ [])

    seam : (m : List NewNode) → get_or (m ++ e ∷ []) (length m) a ≡ e
    seam [] = refl
    seam (x ∷ m) = seam m

    last : n ≡ length m → (n ≡ length m) × (e ≡ a)
    last is = (is, sym (ap (λ k. get_or (m ++ e ∷ []) k a) is ∙ seam m) ∙ number.1)

-- each node may follow those before it
abbrev pub Grown : Path → List NewNode → Type 0
Grown top nodes = (n : ℕ) (e : NewNode) → IsNumber nodes n e → MayFollow top (take n nodes) e

pub grown_none : (top : Path) → Grown top []
grown_none top n e number = absurd (omega (arith, number.0))

pub grown_push : (top : Path) (m : List NewNode) (e : NewNode) → Grown top m → MayFollow top m e → Grown top (m ++ e ∷ [])
grown_push top m e grown follows n a number = by (pushed_number m e n a number)
  where
    by : IsNumber m n a ⊎ ((n ≡ length m) × (e ≡ a)) → MayFollow top (take n (m ++ e ∷ [])) a
    by (inl was) =
        let inside = was.0 in
        subst (λ l. MayFollow top l a) (sym (take-append-le n m (e ∷ []) (omega (arith, inside)))) (grown n a was)
    by (inr (last, same)) = subst (MayFollow top (take n (m ++ e ∷ []))) same (subst (λ l. MayFollow top l e) (sym (ap (λ k. take k (m ++ e ∷ [])) last ∙ take-append_seam m (e ∷ []))) follows)

pub plan_of : (top : Path) (m : List NewNode) → top ≢ [] → m ≢ [] → Grown top m → IsPlan top m
plan_of top m root some grown = record { below_root = root; some = some; each = grown }

-- ---- where the nodes lie

pub laid_none : (folders : List Path) → AreLaid folders []
laid_none folders n e number = absurd (omega (arith, number.0))

pub laid_push : (folders : List Path) (m : List NewNode) (e : NewNode) → AreLaid folders m → IsPath e.at → (Contains folders e.at → e.what ≡ Folder) → AreLaid folders (m ++ e ∷ [])
laid_push folders m e laid at what n a number = by (pushed_number m e n a number)
  where
    by : IsNumber m n a ⊎ ((n ≡ length m) × (e ≡ a)) → IsPath a.at × (Contains folders a.at → a.what ≡ Folder)
    by (inl was) = laid n a was
    by (inr (last, same)) = subst (λ (x : NewNode). IsPath x.at × (Contains folders x.at → x.what ≡ Folder)) same (at, what)

-- neither of two paths
pub none_of_two : (a b p : Path) → a ≢ p → b ≢ p → ¬ (Contains (a ∷ b ∷ []) p)
none_of_two a b p one two (zero, less, same) = one same
none_of_two a b p one two (suc zero, less, same) = two same
none_of_two a b p one two (suc (suc n), less, same) = omega (arith, less)

pub none_of_one : (a p : Path) → a ≢ p → ¬ (Contains (a ∷ []) p)
none_of_one a p one (zero, less, same) = one same
none_of_one a p one (suc n, less, same) = omega (arith, less)

-- ---- what is found after a push

-- what is found there was there before, or is the new node's
pub push_cases : (m : List NewNode) (e : NewNode) (p : Path) (c : Content) → content_at (m ++ e ∷ []) p ≡ Some c → (content_at m p ≡ Some c) ⊎ ((e.at ≡ p) × (e.what ≡ c) × (content_at m p ≡ None))
push_cases [] e p c has = by (same_or_apart e.at p)
  where
    by : (e.at ≡ p) ⊎ (e.at ≢ p) → (content_at [] p ≡ Some c) ⊎ ((e.at ≡ p) × (e.what ≡ c) × (content_at [] p ≡ None))
    by (inl same) =
        let h : Some e.what ≡ Some c = sym (ap (λ b. if b then Some e.what else None) (ap (λ q. same_path q p) same ∙ same_path-self p)) ∙ has in
        inr (same, cc, refl)
    by (inr apart) =
        let h : ◌≡◌ {A = Option Content} None (Some c) = sym (ap (λ b. if b then Some e.what else None) (same_path-apart e.at p apart)) ∙ has in cc
push_cases (x ∷ m) e p c has = pick (same_path x.at p) has (push_cases m e p c)
  where
    pick : (b : Bool) → (if b then Some x.what else content_at (m ++ e ∷ []) p) ≡ Some c
        → (content_at (m ++ e ∷ []) p ≡ Some c → (content_at m p ≡ Some c) ⊎ ((e.at ≡ p) × (e.what ≡ c) × (content_at m p ≡ None)))
        → ((if b then Some x.what else content_at m p) ≡ Some c) ⊎ ((e.at ≡ p) × (e.what ≡ c) × ((if b then Some x.what else content_at m p) ≡ None))
    pick true is rest = inl is
    pick false is rest = rest is

pub none_or_some : (c : Option Content) → (c ≡ None) ⊎ ((x : Content) × (c ≡ Some x))
none_or_some None = inl refl
none_or_some (Some x) = inr (x, refl)

-- the element of a number
pub item_at : {X : Type 0} (xs : List X) (k : ℕ) → k < length xs → (x : X) × (get_or xs k x ≡ x)
item_at [] k less = absurd (omega (arith, less))
item_at (x ∷ xs) zero less = (x, refl)
item_at (x ∷ xs) (suc k) less = item_at xs k (omega (arith, less))
