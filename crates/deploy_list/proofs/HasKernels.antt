-- The kernels that are found of a tree are those that it has.
use Rattle.std.proofs.Common.{◌≡◌, ◌⊎◌, ◌↔◌, inl, inr, ◌<◌, ◌&&◌, ℕ, zero, suc, Bool, true, false, if◌then◌else◌, List, [], ◌∷◌, ◌++◌, length, codes, Contains, Option, Some, None, refl, sym, ◌∙◌, ap, subst, arith}
use Rattle.std.specs.List.{cons_option}
use Rattle.std.proofs.lemmas.Bool.{and_parts}
use Rattle.std.proofs.lemmas.List.Elements.{Contains-append_cases, Contains-append_right}
use Rattle.std.proofs.lemmas.Slice.Eq.{bytes_eq-Decides}
use Rattle.ost_types.specs.Path.{Name, Path, same_name}
use Rattle.ost_types.specs.PathMap.{Nodes}
use Rattle.ost_types.specs.declared.node.NodeName.{NodeName}
use Rattle.ost_types.specs.declared.node.NodeName.TheVariants.{Folder, Leaf}
use Rattle.deploy_list.specs.Kernels.{HasKernel, is_kver, is_modules, kernel_at, kernel_named, kernel_path, kernels_of}

-- ---- elements

head_in : {X : Type 0} (x : X) (xs : List X) → Contains (x ∷ xs) x
head_in x xs = (0, omega arith, refl)

tail_in : {X : Type 0} (x y : X) (xs : List X) → Contains xs y → Contains (x ∷ xs) y
tail_in x y xs h = Contains-append_right (x ∷ []) xs y h

only : {X : Type 0} (x y : X) → Contains (x ∷ []) y → x ≡ y
only x y (zero, less, is) = is
only x y (suc k, less, is) = absurd (omega (arith, less))

head_or_tail : {X : Type 0} (x y : X) (xs : List X) → Contains (x ∷ xs) y → (x ≡ y) ⊎ Contains xs y
head_or_tail x y xs h = elim (Contains-append_cases (x ∷ []) xs y h) [ inl one ↦ inl (only x y one) | inr rest ↦ inr rest ]

nowhere : {X : Type 0} (x : X) → Contains [] x → ⊥
nowhere x h = omega (arith, h.1)

-- ---- one node

abbrev nothing : Option Name
nothing = None

-- a leaf at the kernel's path
record IsKernel (p : Path) (n : NodeName) (k : Name) : Type 0 where
  path : p ≡ kernel_path k
  version : is_kver k ≡ true
  leaf : (csum : List ℕ) × (n ≡ Leaf csum)

module _ (a b c d f k : Name) where
  tested : is_modules a b c ≡ true → same_name f (codes "vmlinuz") ≡ true → d ≡ k → a ∷ b ∷ c ∷ d ∷ f ∷ [] ≡ kernel_path k
  tested folder file same =
      let x = and_parts (same_name a (codes "usr") && same_name b (codes "lib")) (same_name c (codes "modules")) folder in
      let y = and_parts (same_name a (codes "usr")) (same_name b (codes "lib")) x.0 in
      let i : a ≡ codes "usr" = (bytes_eq-Decides a (codes "usr")).0 y.0 in
      let j : b ≡ codes "lib" = (bytes_eq-Decides b (codes "lib")).0 y.1 in
      let l : c ≡ codes "modules" = (bytes_eq-Decides c (codes "modules")).0 x.1 in
      let m : f ≡ codes "vmlinuz" = (bytes_eq-Decides f (codes "vmlinuz")).0 file in
      ap (λ n. n ∷ b ∷ c ∷ d ∷ f ∷ []) i ∙ ap (λ n. codes "usr" ∷ n ∷ c ∷ d ∷ f ∷ []) j ∙ ap (λ n. codes "usr" ∷ codes "lib" ∷ n ∷ d ∷ f ∷ []) l
      ∙ ap (λ n. codes "usr" ∷ codes "lib" ∷ codes "modules" ∷ n ∷ f ∷ []) same ∙ ap (λ n. codes "usr" ∷ codes "lib" ∷ codes "modules" ∷ k ∷ n ∷ []) m

  five : (t : Bool) → (is_modules a b c && same_name f (codes "vmlinuz") && is_kver d) ≡ t → (if t then Some d else nothing) ≡ Some k → (a ∷ b ∷ c ∷ d ∷ f ∷ [] ≡ kernel_path k) × (is_kver k ≡ true)
  five true is e =
      let same : d ≡ k = cc in
      let x = and_parts (is_modules a b c && same_name f (codes "vmlinuz")) (is_kver d) is in
      let y = and_parts (is_modules a b c) (same_name f (codes "vmlinuz")) x.0 in
      (tested y.0 y.1 same, subst (λ v. is_kver v ≡ true) same x.1)
  five false is e = absurd (let n : nothing ≡ Some k = e in cc)

named : (p : Path) (k : Name) → kernel_named p ≡ Some k → (p ≡ kernel_path k) × (is_kver k ≡ true)
named [] k e = absurd (let n : nothing ≡ Some k = e in cc)
named (a ∷ []) k e = absurd (let n : nothing ≡ Some k = e in cc)
named (a ∷ b ∷ []) k e = absurd (let n : nothing ≡ Some k = e in cc)
named (a ∷ b ∷ c ∷ []) k e = absurd (let n : nothing ≡ Some k = e in cc)
named (a ∷ b ∷ c ∷ d ∷ []) k e = absurd (let n : nothing ≡ Some k = e in cc)
named (a ∷ b ∷ c ∷ d ∷ f ∷ []) k e = five a b c d f k (is_modules a b c && same_name f (codes "vmlinuz") && is_kver d) refl e
named (a ∷ b ∷ c ∷ d ∷ f ∷ g ∷ p) k e = absurd (let n : nothing ≡ Some k = e in cc)

is_kernel : (p : Path) (n : NodeName) (k : Name) → kernel_at p n ≡ Some k → IsKernel p n k
is_kernel p (Folder meta) k e = absurd (let n : nothing ≡ Some k = e in cc)
is_kernel p (Leaf csum) k e = let h = named p k e in record { path = h.0; version = h.1; leaf = (csum, refl) }

kernel_there : (k : Name) (csum : List ℕ) → is_kver k ≡ true → kernel_at (kernel_path k) (Leaf csum) ≡ Some k
kernel_there k csum is = ap (λ t. if t then Some k else nothing) is

-- ---- the whole tree

more : (x : Path × NodeName) (tree : Nodes) (k : Name) → HasKernel tree k → HasKernel (x ∷ tree) k
more x tree k has = record { version = has.version; leaf = (has.leaf.0, tail_in x (kernel_path k, Leaf has.leaf.0) tree has.leaf.1) }

found_has : (tree : Nodes) (k : Name) → Contains (kernels_of tree) k → HasKernel tree k
found_has [] k h = absurd (nowhere k h)
found_has (x ∷ tree) k h = by (kernel_at x.0 x.1) refl h (λ rest. more x tree k (found_has tree k rest))
  where
    here : (v : Name) → kernel_at x.0 x.1 ≡ Some v → v ≡ k → HasKernel (x ∷ tree) k
    here v is same =
        let it = is_kernel x.0 x.1 k (is ∙ ap Some same) in record {
          version = it.version;
          leaf = (it.leaf.0, subst (Contains (x ∷ tree)) (ap (λ p. (p, x.1)) it.path ∙ ap (λ n. (kernel_path k, n)) it.leaf.1) (head_in x tree));
        }

    by : (o : Option Name) → kernel_at x.0 x.1 ≡ o → Contains (cons_option (kernel_at x.0 x.1) (kernels_of tree)) k → (Contains (kernels_of tree) k → HasKernel (x ∷ tree) k) → HasKernel (x ∷ tree) k
    by None is h rest = rest (subst (λ o. Contains (cons_option o (kernels_of tree)) k) is h)
    by (Some v) is h rest = elim (head_or_tail v k (kernels_of tree) (subst (λ o. Contains (cons_option o (kernels_of tree)) k) is h)) [ inl same ↦ here v is same | inr there ↦ rest there ]

has_found : (tree : Nodes) (k : Name) (csum : List ℕ) → is_kver k ≡ true → Contains tree (kernel_path k, Leaf csum) → Contains (kernels_of tree) k
has_found [] k csum is h = absurd (nowhere (kernel_path k, Leaf csum) h)
has_found (x ∷ tree) k csum is h = by (head_or_tail x (kernel_path k, Leaf csum) tree h) (λ rest. has_found tree k csum is rest)
  where
    kept : (o : Option Name) → Contains (kernels_of tree) k → Contains (cons_option o (kernels_of tree)) k
    kept None h = h
    kept (Some v) h = tail_in v k (kernels_of tree) h

    by : (x ≡ (kernel_path k, Leaf csum)) ⊎ Contains tree (kernel_path k, Leaf csum) → (Contains tree (kernel_path k, Leaf csum) → Contains (kernels_of tree) k) → Contains (kernels_of (x ∷ tree)) k
    by (inl same) rest =
        let it : kernel_at x.0 x.1 ≡ Some k = ap (λ e. kernel_at e.0 e.1) same ∙ kernel_there k csum is in
        subst (λ o. Contains (cons_option o (kernels_of tree)) k) (sym it) (head_in k (kernels_of tree))
    by (inr there) rest = kept (kernel_at x.0 x.1) (rest there)

pub kernels_found : (tree : Nodes) (k : Name) → Contains (kernels_of tree) k ↔ HasKernel tree k
kernels_found tree k = (found_has tree k, λ has. has_found tree k has.leaf.0 has.version has.leaf.1)
