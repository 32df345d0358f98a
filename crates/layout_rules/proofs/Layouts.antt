-- Which places lead to the things of a repository.
use Rattle.std.proofs.Common.{◌≡◌, ◌⊎◌, inl, inr, ⊎_elim, ℕ, zero, suc, Bool, true, false, ◌&&◌, if◌then◌else◌, refl, sym, ◌∙◌, ap, subst, List, [], ◌∷◌, ◌++◌, length, take}
use Rattle.ost_types.specs.Path.{Name, Path, is_below, same_path}
use Rattle.ost_types.proofs.Paths.{same_name-Decides, same_path-Decides}
use Rattle.repo_layout.specs.declared.folder.Folder.{Folder}
use Rattle.repo_layout.specs.declared.folder.Folder.TheVariants as folder
use Rattle.repo_layout.specs.RefName.{parts_of}
use Rattle.repo_layout.specs.Paths.{folder_path, heads, ref_path}
use Rattle.repo_layout.specs.Place.{Ref, Other, place, ostree_place, repo_place, object_place, ref_place, stage_place, mark_place, deploy_place, boot_place, kernel_place, checkout_place, name_of}

both_true : (a b : Bool) → a && b ≡ true → (a ≡ true) × (b ≡ true)
both_true true true e = (refl, refl)
both_true true false e = let n : false ≡ true = e in cc
both_true false b e = let n : false ≡ true = e in cc

-- a path above another one is its front
pub below_split : (g p : Path) → is_below g p ≡ true → (rest : Path) × (p ≡ g ++ rest)
unfolding is_below
below_split [] p e = (p, refl)
below_split (a ∷ g) [] e = let n : false ≡ true = e in cc
below_split (a ∷ g) (x ∷ p) e =
    let both = both_true _ _ e in
    let rest = below_split g p both.1 in
    let first : x ≡ a = sym ((same_name-Decides a x).0 both.0) in
    (rest.0, subst (λ y. x ∷ p ≡ y ∷ g ++ rest.0) first (ap (λ q. x ∷ q) rest.1))

pub split_below : (g rest : Path) → is_below g (g ++ rest) ≡ true
unfolding is_below
split_below [] rest = refl
split_below (a ∷ g) rest = rw ((same_name-Decides a a).1 refl, split_below g rest) refl

pub below_take : (p q : Path) → is_below p q ≡ true → p ≡ take (length p) q
unfolding is_below
below_take [] q e = refl
below_take (a ∷ p) [] e = let n : false ≡ true = e in cc
below_take (a ∷ p) (x ∷ q) e =
    let both = both_true _ _ e in
    let first : a ≡ x = (same_name-Decides a x).0 both.0 in
    subst (λ y. a ∷ p ≡ y ∷ take (length p) q) first (ap (λ r. a ∷ r) (below_take p q both.1))

-- of two paths above a third, one is above the other
pub below_or : (p a b : Path) → is_below p (a ++ b) ≡ true → (is_below p a ≡ true) ⊎ ((rest : Path) × (p ≡ a ++ rest))
unfolding is_below
below_or p [] b e = inr (p, refl)
below_or [] (x ∷ a) b e = inl refl
below_or (y ∷ p) (x ∷ a) b e =
    let both = both_true _ _ e in
    let first : y ≡ x = (same_name-Decides y x).0 both.0 in
    ⊎_elim
    (λ is. inl (ap (λ t. t && is_below p a) both.0 ∙ is))
    (λ rest. inr (rest.0, subst (λ z. y ∷ p ≡ z ∷ a ++ rest.0) first (ap (λ r. y ∷ r) rest.1)))
    (below_or p a b both.1)

take_nil : (k : ℕ) → take {A = Name} k [] ≡ []
take_nil zero = refl
take_nil (suc k) = refl

-- the folders of the layout and those above them are no other thing's
fixed : (f : Folder) (k : ℕ) → place (take k (folder_path f)) ≡ Other (take k (folder_path f))
unfolding place ostree_place repo_place object_place ref_place stage_place mark_place deploy_place boot_place kernel_place checkout_place
fixed folder.Ostree zero = refl
fixed folder.Ostree (suc k) = subst (λ (q : Path). place (folder_path folder.Ostree ++ q) ≡ Other (folder_path folder.Ostree ++ q)) (sym (take_nil k)) refl
fixed folder.Repo zero = refl
fixed folder.Repo (suc zero) = refl
fixed folder.Repo (suc (suc k)) = subst (λ (q : Path). place (folder_path folder.Repo ++ q) ≡ Other (folder_path folder.Repo ++ q)) (sym (take_nil k)) refl
fixed folder.Objects zero = refl
fixed folder.Objects (suc zero) = refl
fixed folder.Objects (suc (suc zero)) = refl
fixed folder.Objects (suc (suc (suc k))) = subst (λ (q : Path). place (folder_path folder.Objects ++ q) ≡ Other (folder_path folder.Objects ++ q)) (sym (take_nil k)) refl
fixed folder.Refs zero = refl
fixed folder.Refs (suc zero) = refl
fixed folder.Refs (suc (suc zero)) = refl
fixed folder.Refs (suc (suc (suc k))) = subst (λ (q : Path). place (folder_path folder.Refs ++ q) ≡ Other (folder_path folder.Refs ++ q)) (sym (take_nil k)) refl
fixed folder.Heads zero = refl
fixed folder.Heads (suc zero) = refl
fixed folder.Heads (suc (suc zero)) = refl
fixed folder.Heads (suc (suc (suc zero))) = refl
fixed folder.Heads (suc (suc (suc (suc k)))) = subst (λ (q : Path). place (folder_path folder.Heads ++ q) ≡ Other (folder_path folder.Heads ++ q)) (sym (take_nil k)) refl
fixed folder.State zero = refl
fixed folder.State (suc zero) = refl
fixed folder.State (suc (suc zero)) = refl
fixed folder.State (suc (suc (suc k))) = subst (λ (q : Path). place (folder_path folder.State ++ q) ≡ Other (folder_path folder.State ++ q)) (sym (take_nil k)) refl
fixed folder.Tmp zero = refl
fixed folder.Tmp (suc zero) = refl
fixed folder.Tmp (suc (suc zero)) = refl
fixed folder.Tmp (suc (suc (suc k))) = subst (λ (q : Path). place (folder_path folder.Tmp ++ q) ≡ Other (folder_path folder.Tmp ++ q)) (sym (take_nil k)) refl
fixed folder.Deploy zero = refl
fixed folder.Deploy (suc zero) = refl
fixed folder.Deploy (suc (suc k)) = subst (λ (q : Path). place (folder_path folder.Deploy ++ q) ≡ Other (folder_path folder.Deploy ++ q)) (sym (take_nil k)) refl
fixed folder.Boot zero = refl
fixed folder.Boot (suc k) = subst (λ (q : Path). place (folder_path folder.Boot ++ q) ≡ Other (folder_path folder.Boot ++ q)) (sym (take_nil k)) refl
fixed folder.Kernels zero = refl
fixed folder.Kernels (suc zero) = refl
fixed folder.Kernels (suc (suc k)) = subst (λ (q : Path). place (folder_path folder.Kernels ++ q) ≡ Other (folder_path folder.Kernels ++ q)) (sym (take_nil k)) refl
fixed folder.Checkouts zero = refl
fixed folder.Checkouts (suc k) = subst (λ (q : Path). place (folder_path folder.Checkouts ++ q) ≡ Other (folder_path folder.Checkouts ++ q)) (sym (take_nil k)) refl

pub fixed_other : (f : Folder) (p : Path) → is_below p (folder_path f) ≡ true → place p ≡ Other p
fixed_other f p below = let e = below_take p (folder_path f) below in subst (λ q. place q ≡ Other q) (sym e) (fixed f (length p))

-- below the folder of refs there are refs, and what is nothing's
heads_dispatch : (part : Name) (parts : Path) → place (heads ++ part ∷ parts) ≡ (if same_path (ref_path (name_of (part ∷ parts))) (heads ++ part ∷ parts) then Ref (name_of (part ∷ parts)) else Other (heads ++ part ∷ parts))
unfolding place ostree_place repo_place ref_place
heads_dispatch part parts = refl

pub in_heads : (rest : Path) → (place (heads ++ rest) ≡ Other (heads ++ rest)) ⊎ ((name : List ℕ) × (place (heads ++ rest) ≡ Ref name) × (heads ++ rest ≡ ref_path name))
in_heads [] = inl (fixed folder.Heads 4)
in_heads (part ∷ parts) = by (same_path (ref_path (name_of (part ∷ parts))) (heads ++ part ∷ parts)) refl
  where
    Here : Type 0
    Here = (place (heads ++ part ∷ parts) ≡ Other (heads ++ part ∷ parts)) ⊎ ((name : List ℕ) × (place (heads ++ part ∷ parts) ≡ Ref name) × (heads ++ part ∷ parts ≡ ref_path name))

    by : (b : Bool) → same_path (ref_path (name_of (part ∷ parts))) (heads ++ part ∷ parts) ≡ b → Here
    by true e = inr (name_of (part ∷ parts), heads_dispatch part parts ∙ ap (λ b. if b then Ref (name_of (part ∷ parts)) else Other (heads ++ part ∷ parts)) e, sym ((same_path-Decides (ref_path (name_of (part ∷ parts))) (heads ++ part ∷ parts)).0 e))
    by false e = inl (heads_dispatch part parts ∙ ap (λ b. if b then Ref (name_of (part ∷ parts)) else Other (heads ++ part ∷ parts)) e)

pub below_heads : (p : Path) → is_below heads p ≡ true → (place p ≡ Other p) ⊎ ((name : List ℕ) × (place p ≡ Ref name) × (p ≡ ref_path name))
below_heads p below = let s = below_split heads p below in subst (λ q. (place q ≡ Other q) ⊎ ((name : List ℕ) × (place q ≡ Ref name) × (q ≡ ref_path name))) (sym s.1) (in_heads s.0)

-- and so above a ref
pub above_ref : (name : List ℕ) (p : Path) → is_below p (ref_path name) ≡ true → (place p ≡ Other p) ⊎ ((m : List ℕ) × (place p ≡ Ref m) × (p ≡ ref_path m))
unfolding ref_path
above_ref name p below = ⊎_elim
    (λ is. inl (fixed_other folder.Heads p is))
    (λ rest. subst (λ q. (place q ≡ Other q) ⊎ ((m : List ℕ) × (place q ≡ Ref m) × (q ≡ ref_path m))) (sym rest.1) (in_heads rest.0))
    (below_or p heads (parts_of name) below)
