-- The names of a path, and the kernels of a tree, one node after the other.
use Rattle.std.proofs.Common.{◌≡◌, ◌+◌, ◌<◌, ◌≤◌, ℕ, Bool, true, false, List, [], ◌∷◌, ◌++◌, length, take, drop, get_or, codes, nat_le, ◌&&◌, if◌then◌else◌, IsTrue, Ok, Option, Some, None, refl, sym, ◌∙◌, ap, subst, arith, rules, append-nil, length-append}
use Rattle.std.specs.List.{cons_option, filter_map, list_all}
use Rattle.std.proofs.lemmas.Bool.{and_parts}
use Rattle.std.proofs.lemmas.Bool.Decides.{nat_tests}
use Rattle.std.proofs.lemmas.List.{take_more, take-append-drop}
use Rattle.std.proofs.lemmas.List.Elements.{filter_map-append}
use Rattle.ost_types.specs.Path.{Name, Path, same_name}
use Rattle.ost_types.specs.PathMap.{Nodes}
use Rattle.ost_types.specs.declared.node.NodeName.{NodeName}
use Rattle.ost_types.specs.declared.node.NodeName.TheVariants.{Folder, Leaf}
use Rattle.boot_model.specs.Items.{IsKver, is_kver_byte}
use Rattle.deploy_list.proofs.Words.{by_test}
use Rattle.deploy_list.specs.Kernels.{Finds, as_list, is_kver, is_modules, kernel_at, kernel_named, kernels_of}

-- ---- paths of one and two names

pub one_name : (p : Path) (a : Name) → 1 ≤ length p → length p < 2 → a ≡ get_or p 0 a → p ≡ a ∷ []
one_name [] a low high x = absurd (omega (arith, low))
one_name (v ∷ []) a low high x = ap (λ n. n ∷ []) (sym x)
one_name (v ∷ w ∷ p) a low high x = absurd (omega (arith, high))

pub two_names : (p : Path) (a b : Name) → 2 ≤ length p → length p < 3 → a ≡ get_or p 0 a → b ≡ get_or p 1 b → p ≡ a ∷ b ∷ []
two_names [] a b low high x y = absurd (omega (arith, low))
two_names (v ∷ []) a b low high x y = absurd (omega (arith, low))
two_names (v ∷ w ∷ []) a b low high x y = ap (λ n. n ∷ w ∷ []) (sym x) ∙ ap (λ n. a ∷ n ∷ []) (sym y)
two_names (u ∷ v ∷ w ∷ p) a b low high x y = absurd (omega (arith, high))

abbrev nothing : Option Name
nothing = None

-- ---- kernels

abbrev pub first_kernels : Nodes → ℕ → List Name
first_kernels tree n = kernels_of (take n tree)

alone : (o : Option Name) → cons_option o [] ≡ as_list o
alone None = refl
alone (Some k) = refl

pub kernels_more : (tree : Nodes) (n : ℕ) (e : Path × NodeName) (found : List Name) → n < length tree → e ≡ get_or tree n e → first_kernels tree n ≡ found → first_kernels tree (n + 1) ≡ found ++ as_list (kernel_at e.0 e.1)
kernels_more tree n e found less here so =
    ap kernels_of (take_more tree n e less) ∙ filter_map-append (λ x. kernel_at x.0 x.1) (take n tree) (get_or tree n e ∷ []) ∙ ap (λ k. k ++ kernels_of (get_or tree n e ∷ [])) so
    ∙ ap (λ x. found ++ kernels_of (x ∷ [])) (sym here) ∙ ap (λ k. found ++ k) (alone (kernel_at e.0 e.1))

-- several kernels among the first nodes are several of the tree
pub several : (tree : Nodes) (n : ℕ) (found : List Name) → first_kernels tree n ≡ found → 2 ≤ length found → 2 ≤ length (kernels_of tree)
several tree n found is two =
    let whole : kernels_of tree ≡ first_kernels tree n ++ kernels_of (drop n tree) = ap kernels_of (sym (take-append-drop n tree)) ∙ filter_map-append (λ x. kernel_at x.0 x.1) (take n tree) (drop n tree) in
    omega (arith, ap length whole, length-append (first_kernels tree n) (kernels_of (drop n tree)), ap length is, two)

-- ---- one node more

pub kept_none : (found : List Name) (k : Option Name) → None ≡ k → found ≡ found ++ as_list k
kept_none found k is = sym (ap (λ o. found ++ as_list o) (sym is) ∙ append-nil found)

-- ---- what is found is a version

abbrev IsFound : Bool → Bool → Name → Option Name
IsFound a b v = if a && b then Some v else nothing

one_found : (a b : Bool) (v k : Name) → b ≡ is_kver v → IsFound a b v ≡ Some k → is_kver k ≡ true
one_found true true v k is e = let same : v ≡ k = cc in subst (λ x. is_kver x ≡ true) same (sym is)
one_found true false v k is e = absurd (let n : nothing ≡ Some k = e in cc)
one_found false b v k is e = absurd (let n : nothing ≡ Some k = e in cc)

named_version : (p : Path) (k : Name) → kernel_named p ≡ Some k → is_kver k ≡ true
named_version [] k e = absurd (let n : nothing ≡ Some k = e in cc)
named_version (a ∷ []) k e = absurd (let n : nothing ≡ Some k = e in cc)
named_version (a ∷ b ∷ []) k e = absurd (let n : nothing ≡ Some k = e in cc)
named_version (a ∷ b ∷ c ∷ []) k e = absurd (let n : nothing ≡ Some k = e in cc)
named_version (a ∷ b ∷ c ∷ d ∷ []) k e = absurd (let n : nothing ≡ Some k = e in cc)
named_version (a ∷ b ∷ c ∷ d ∷ f ∷ []) k e = one_found (is_modules a b c && same_name f (codes "vmlinuz")) (is_kver d) d k refl e
named_version (a ∷ b ∷ c ∷ d ∷ f ∷ g ∷ p) k e = absurd (let n : nothing ≡ Some k = e in cc)

at_version : (p : Path) (n : NodeName) (k : Name) → kernel_at p n ≡ Some k → is_kver k ≡ true
at_version p (Folder meta) k e = absurd (let n : nothing ≡ Some k = e in cc)
at_version p (Leaf csum) k e = named_version p k e

first_version : (tree : Nodes) (k : Name) (ks : List Name) → kernels_of tree ≡ k ∷ ks → is_kver k ≡ true
first_version [] k ks e = absurd (let n : [] ≡ k ∷ ks = e in cc)
first_version (x ∷ tree) k ks e = by (kernel_at x.0 x.1) refl e (first_version tree k ks)
  where
    by : (o : Option Name) → kernel_at x.0 x.1 ≡ o → cons_option (kernel_at x.0 x.1) (kernels_of tree) ≡ k ∷ ks → (kernels_of tree ≡ k ∷ ks → is_kver k ≡ true) → is_kver k ≡ true
    by None is whole rest = rest (sym (ap (λ o. cons_option o (kernels_of tree)) is) ∙ whole)
    by (Some v) is whole rest =
        let e : v ∷ kernels_of tree ≡ k ∷ ks = sym (ap (λ o. cons_option o (kernels_of tree)) is) ∙ whole in
        let same : v ≡ k = cc in
        at_version x.0 x.1 k (is ∙ ap Some same)

pub kver_found : (tree : Nodes) (kver : Name) → Finds tree (Ok kver) → IsKver kver
kver_found tree kver found =
    let is = first_version tree kver [] found.2 in
    let parts = and_parts (nat_le 1 (length kver) && nat_le (length kver) 241) (list_all is_kver_byte kver) is in
    let sizes = and_parts (nat_le 1 (length kver)) (nat_le (length kver) 241) parts.0 in
    let low : 1 ≤ length kver = grind (arith, nat_tests, sizes) in
    let high : length kver ≤ 241 = grind (arith, nat_tests, sizes) in
    record {
      not_empty = λ e. omega (arith, low, ap length e);
      bytes = by_test is_kver_byte (λ b. IsTrue (is_kver_byte b)) (λ b t. subst IsTrue (sym t) (search rules)) kver parts.1;
      short = high;
    }
