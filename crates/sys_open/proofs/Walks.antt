-- What a walk over a folder finds, from what it finds at each path in it.
use Rattle.std.proofs.Common.{◌≡◌, ◌≢◌, ◌⊎◌, inl, inr, ⊎_elim, ◌<◌, ℕ, true, false, refl, sym, ◌∙◌, ap, subst, arith, List, [], ◌∷◌, ◌++◌, length, get_or, append-nil, append_assoc}
use Rattle.std.specs.Cmp.Lexicographic.{slice_cmp}
use Rattle.std.specs.Ordering.{nat_cmp}
use Rattle.std.specs.declared.cmp.Ordering.TheVariants.{Less}
use Rattle.std.proofs.lemmas.List.{get_or-map, length-map}
use Rattle.std.proofs.lemmas.Map.Keys.{Less-from_sorted}
use Rattle.ost_types.specs.Path.{Name, Path, is_below, path_cmp, under}
use Rattle.fs_trait.specs.declared.types.Value.{Value}
use Rattle.fs_trait.specs.declared.types.Value.TheVariants.{Absent, Folder, Link, File}
use Rattle.fs_trait.specs.View.{Disk}
use Rattle.fs_trait.specs.Image.{is_folder, IsTree}
use Rattle.fs_trait.specs.Effect.{IsListing}
use Rattle.layout_rules.proofs.Layouts.{below_split, split_below}
use Rattle.sys_open.specs.Walk.{IsSoBelow, IsFirstBelow, paths_in}
use Rattle.sys_open.proofs.Orders.{not_both_less, not_less_below, less_by_name}

pub absent_or_not : (z : Value) → (z ≡ Absent) ⊎ (z ≢ Absent)
absent_or_not Absent = inl refl
absent_or_not (Folder m) = inr (λ e. let n : Folder m ≡ Absent = e in cc)
absent_or_not (Link m t) = inr (λ e. let n : Link m t ≡ Absent = e in cc)
absent_or_not (File k) = inr (λ e. let n : File k ≡ Absent = e in cc)

-- below a path in a folder is below the folder
pub below_under : (at : Path) (x : Name) (q : Path) → is_below (under at x) q ≡ true → (rest : Path) × (q ≡ under at x ++ rest) × (is_below at q ≡ true)
below_under at x q below =
    let s = below_split (under at x) q below in
    let again : under at x ++ s.0 ≡ at ++ x ∷ s.0 = append_assoc at (x ∷ []) s.0 in
    (s.0, s.1, subst (λ p. is_below at p ≡ true) (sym (s.1 ∙ again)) (split_below at (x ∷ s.0)))

module _ (d : Disk) (tree : IsTree d) where
  -- nothing stands below what is no folder
  gone : (g : Path) (x : Name) (rest : Path) → is_folder (d.at g) ≡ false → d.at (g ++ x ∷ rest) ≡ Absent
  gone g x [] none = tree.folders g x none
  gone g x (y ∷ rest) none =
      subst (λ p. d.at p ≡ Absent) (append_assoc g (x ∷ []) (y ∷ rest))
      (gone (under g x) y rest (ap is_folder (tree.folders g x none)))

  pub absent_below : (g rest : Path) → d.at g ≡ Absent → d.at (g ++ rest) ≡ Absent
  absent_below g [] none = subst (λ p. d.at p ≡ Absent) (sym (append-nil g)) none
  absent_below g (x ∷ rest) none = gone g x rest (ap is_folder none)

-- what is wrong at the path itself comes first
pub first_here : (So : Path → Type 0) (at : Path) → (So at → ⊥) → is_below at at ≡ true → IsFirstBelow So at at
first_here So at wrong below = record { below = below; wrong = wrong; least = λ q under_at less. absurd (not_before q (below_split at q under_at) less) }
  where
    not_before : (q : Path) → (rest : Path) × (q ≡ at ++ rest) → path_cmp q at ≡ Less → ⊥
    not_before q (rest, e) less = not_less_below at rest (subst (λ p. path_cmp p at ≡ Less) e less)

module _ (d : Disk) (tree : IsTree d) (So : Path → Type 0) (vacant : (q : Path) → d.at q ≡ Absent → So q) where
  -- a leaf, or nothing
  pub leaf_walk : (at : Path) → is_folder (d.at at) ≡ false → So at → IsSoBelow So at
  leaf_walk at none here q below = by (below_split at q below)
    where
      by : (rest : Path) × (q ≡ at ++ rest) → So q
      by ([], e) = subst So (sym (e ∙ append-nil at)) here
      by (x ∷ rest, e) = subst So (sym e) (vacant (at ++ x ∷ rest) (gone d tree at x rest none))

  pub nothing_walk : (at : Path) → d.at at ≡ Absent → IsSoBelow So at
  nothing_walk at none = leaf_walk at (ap is_folder none) (vacant at none)

  module _ (at : Path) (paths : List Path) (names : List Name) (are : paths ≡ paths_in at names) (listing : IsListing d at names) (here : So at) where
    path_at : (k : ℕ) (x : Name) → k < length names → get_or paths k [] ≡ under at (get_or names k x)
    path_at k x less = ap (λ l. get_or l k []) are ∙ get_or-map (under at) names k x [] less

    count : length paths ≡ length names
    count = ap length are ∙ length-map names (under at)

    -- a path below is the folder's own, or nothing's, or below one of those in it
    where_is : (q : Path) → is_below at q ≡ true → So q ⊎ ((k : ℕ) × (k < length names) × (x : Name) × (get_or names k x ≡ x) × (rest : Path) × (q ≡ under at x ++ rest))
    where_is q below = by (below_split at q below)
      where
        Here : Type 0
        Here = So q ⊎ ((k : ℕ) × (k < length names) × (x : Name) × (get_or names k x ≡ x) × (rest : Path) × (q ≡ under at x ++ rest))

        named : (x : Name) (rest : Path) → q ≡ under at x ++ rest → (d.at (under at x) ≡ Absent) ⊎ (d.at (under at x) ≢ Absent) → Here
        named x rest e (inl none) = inl (subst So (sym e) (vacant (under at x ++ rest) (absent_below d tree (under at x) rest none)))
        named x rest e (inr there) = let has = listing.all x there in inr (has.0, has.1, x, has.2, rest, e)

        by : (rest : Path) × (q ≡ at ++ rest) → Here
        by ([], e) = inl (subst So (sym (e ∙ append-nil at)) here)
        by (x ∷ rest, e) = named x rest (e ∙ sym (append_assoc at (x ∷ []) rest)) (absent_or_not (d.at (under at x)))

    pub folder_walk : ((k : ℕ) → k < length paths → IsSoBelow So (get_or paths k [])) → IsSoBelow So at
    folder_walk each q below = ⊎_elim (λ so. so) (λ w. found w.0 w.1 w.2 w.3 w.4 w.5) (where_is q below)
      where
        found : (k : ℕ) → k < length names → (x : Name) → get_or names k x ≡ x → (rest : Path) → q ≡ under at x ++ rest → So q
        found k less x is rest e =
            let path : get_or paths k [] ≡ under at x = path_at k x less ∙ ap (under at) is in
            each k (omega (arith, less, count)) q (subst (λ p. is_below p q ≡ true) (sym path) (subst (λ p. is_below (under at x) p ≡ true) (sym e) (split_below (under at x) rest)))

    -- the least of the first folder in which something is wrong
    pub folder_first : (i : ℕ) → i < length paths → ((k : ℕ) → k < i → IsSoBelow So (get_or paths k [])) → (p : Path) → IsFirstBelow So (get_or paths i []) p → IsFirstBelow So at p
    folder_first i inside before p first = record {
      below = (below_under at (name i) p (below_name first.below)).2;
      wrong = first.wrong;
      least = λ q below less. ⊎_elim (λ so. so) (λ w. found q less w.0 w.1 w.2 w.3 w.4 w.5) (where_is q below);
    }
      where
        name : ℕ → Name
        name k = get_or names k []

        here_less : i < length names
        here_less = omega (arith, inside, count)

        below_name : is_below (get_or paths i []) p ≡ true → is_below (under at (name i)) p ≡ true
        below_name below = subst (λ f. is_below f p ≡ true) (path_at i [] here_less) below

        after : (q : Path) (k : ℕ) (x : Name) (rest : Path) → i < k → k < length names → get_or names k x ≡ x → q ≡ under at x ++ rest → path_cmp q p ≡ Less → ⊥
        after q k x rest later less is e before_p =
            let b = below_under at (get_or names i x) p (subst (λ f. is_below f p ≡ true) (path_at i x here_less) first.below) in
            let names_less : slice_cmp nat_cmp (get_or names i x) x ≡ Less = subst (λ y. slice_cmp nat_cmp (get_or names i x) y ≡ Less) is (Less-from_sorted (slice_cmp nat_cmp) names i k x listing.ascending later less) in
            let p_first : path_cmp p q ≡ Less = subst (λ y. path_cmp y q ≡ Less) (sym b.1) (subst (λ y. path_cmp (under at (get_or names i x) ++ b.0) y ≡ Less) (sym e) (less_by_name at (get_or names i x) x b.0 rest names_less)) in
            not_both_less p q p_first before_p

        found : (q : Path) → path_cmp q p ≡ Less → (k : ℕ) → k < length names → (x : Name) → get_or names k x ≡ x → (rest : Path) → q ≡ under at x ++ rest → So q
        found q before_p k less x is rest e = by (order k i)
          where
            below_k : is_below (get_or paths k []) q ≡ true
            below_k = subst (λ f. is_below f q ≡ true) (sym (path_at k x less ∙ ap (under at) is)) (subst (λ y. is_below (under at x) y ≡ true) (sym e) (split_below (under at x) rest))

            order : (k i : ℕ) → (k < i) ⊎ (k ≡ i) ⊎ (i < k)
            order k i = grind arith

            by : (k < i) ⊎ (k ≡ i) ⊎ (i < k) → So q
            by (inl earlier) = before k earlier q below_k
            by (inr (inl same)) = first.least q (subst (λ j. is_below (get_or paths j []) q ≡ true) same below_k) before_p
            by (inr (inr later)) = absurd (after q k x rest later less is e before_p)
