-- Of items in ascending order the first that lies in no folder before it is the least that lies in none.
use Rattle.std.proofs.Common.{◌≡◌, ◌≢◌, ◌⊎◌, inl, inr, ℕ, zero, suc, ◌<◌, ◌≤◌, ◌+◌, ◌-◌, true, false, List, [], ◌∷◌, length, get_or, None, refl, sym, ◌∙◌, ap, subst, ⊎_elim, arith}
use Rattle.std.specs.Prelude.{Contains}
use Rattle.std.specs.List.Sorted.{IsStrictlySortedBy}
use Rattle.std.specs.declared.cmp.Ordering.TheVariants.{Less}
use Rattle.std.proofs.lemmas.Map.Keys.{Less-from_sorted}
use Rattle.std.proofs.lemmas.List.{length-map, get_or_default, length_push}
use Rattle.std.proofs.lemmas.List.Elements.{Contains-get_or}
use Rattle.ost_types.specs.Path.{Path, path_cmp, under, is_below}
use Rattle.ost_types.proofs.Paths.{under-is_below, same_or_apart, is_below-self}
use Rattle.ost_forms.specs.declared.tree_item.TreeItem.{TreeItem}
use Rattle.tree_build.specs.Items.{AreItems, HasItem, HasFolder, IsInFolder, IsBadPath, IsLeastBad, IsTree, GoesOn, StartsAtRoot, paths_of}
use Rattle.tree_build.proofs.Orders.{not_less_same, less_once, folder_first, between, none_before_root}

path_of_place : (items : List TreeItem) (k : ℕ) (d : TreeItem) → get_or (paths_of items) k d.path ≡ (get_or items k d).path
path_of_place [] k d = refl
path_of_place (i ∷ items) zero d = refl
path_of_place (i ∷ items) (suc k) d = path_of_place items k d

-- each item before this place lies well
abbrev pub AreInner : List TreeItem → ℕ → Type 0
AreInner items n = (k : ℕ) (d : TreeItem) → k < n → ((get_or items k d).path ≡ []) ⊎ IsInFolder items (get_or items k d).path

module _ (items : List TreeItem) (ordered : IsStrictlySortedBy path_cmp (paths_of items)) where
  rises : (j k : ℕ) (d : TreeItem) → j < k → k < length items → path_cmp (get_or items j d).path (get_or items k d).path ≡ Less
  rises j k d less inside =
      ap (λ p. path_cmp p (get_or items k d).path) (sym (path_of_place items j d))
      ∙ ap (λ p. path_cmp (get_or (paths_of items) j d.path) p) (sym (path_of_place items k d))
      ∙ Less-from_sorted path_cmp (paths_of items) j k d.path ordered less (omega (arith, length-map items (λ (i : TreeItem). i.path), inside))

  -- places by paths
  before : (j k : ℕ) (d : TreeItem) → j < length items → k < length items → path_cmp (get_or items j d).path (get_or items k d).path ≡ Less → j < k
  before j k d inj ink less = go (side j k)
    where
      side : (j k : ℕ) → (j < k) ⊎ ((k < j) ⊎ (j ≡ k))
      side j k = grind arith

      go : (j < k) ⊎ ((k < j) ⊎ (j ≡ k)) → j < k
      go (inl h) = h
      go (inr (inl h)) = absurd (less_once (get_or items j d).path (get_or items k d).path less (rises k j d h inj))
      go (inr (inr h)) = absurd (not_less_same (get_or items j d).path (get_or items k d).path (ap (λ n. (get_or items n d).path) h) less)

  pub inner_more : (n : ℕ) (i : TreeItem) → n < length items → i ≡ get_or items n i → AreInner items n → (i.path ≡ []) ⊎ IsInFolder items i.path → AreInner items (n + 1)
  inner_more n i inside is inner one k d less = go (side k n less)
    where
      side : (k n : ℕ) → k < n + 1 → (k < n) ⊎ (k ≡ n)
      side k n h = grind (arith, h)

      here : k ≡ n → get_or items k d ≡ i
      here e = ap (λ m. get_or items m d) e ∙ get_or_default items n d i inside ∙ sym is

      go : (k < n) ⊎ (k ≡ n) → ((get_or items k d).path ≡ []) ⊎ IsInFolder items (get_or items k d).path
      go (inl h) = inner k d h
      go (inr e) = subst (λ (j : TreeItem). (j.path ≡ []) ⊎ IsInFolder items j.path) (sym (here e)) one

  below_root : (f : Path) → is_below f [] ≡ true → f ≡ []
  unfolding is_below
  below_root [] e = refl
  below_root (a ∷ f) e = let n : false ≡ true = e in cc

  folder_of_same : (f g : Path) → f ≡ g → HasFolder items g → HasFolder items f
  folder_of_same f g e h = subst (HasFolder items) (sym e) h

  -- a folder of the items by its place
  placed : (g : Path) (h : HasFolder items g) → get_or items h.among.0 h.item ≡ h.item
  placed g h = h.among.2

  way_step : (n : ℕ) → AreInner items n → n ≤ length items → (j : ℕ) (i : TreeItem) → j < n → get_or items j i ≡ i → (f : Path) → is_below f i.path ≡ true → f ≢ i.path
      → ((k : ℕ) (g : TreeItem) → k < n → get_or items k g ≡ g → length g.path < length i.path → is_below f g.path ≡ true → f ≢ g.path → HasFolder items f)
      → HasFolder items f
  way_step n inner inside j i less is f below apart rec =
      ⊎_elim
      (λ (e : i.path ≡ []). absurd (apart (below_root f (subst (λ p. is_below f p ≡ true) e below) ∙ sym e)))
      (λ (w : IsInFolder items i.path). in_folder w (under-is_below f w.folder w.name (subst (λ p. is_below f p ≡ true) w.is below)))
      (subst (λ (k : TreeItem). (k.path ≡ []) ⊎ IsInFolder items k.path) is (inner j i less))
    where
      further : (w : IsInFolder items i.path) → is_below f w.folder ≡ true → f ≢ w.folder → HasFolder items f
      further w b other =
          let h = w.there in
          let k = h.among.0 in
          let first : path_cmp h.item.path i.path ≡ Less = subst (λ p. path_cmp p i.path ≡ Less) (sym h.at) (subst (λ p. path_cmp w.folder p ≡ Less) (sym w.is) (folder_first w.folder w.name)) in
          let at_j : get_or items j h.item ≡ i = get_or_default items j h.item i (omega (arith, less, inside)) ∙ is in
          let lower : k < j = before k j h.item h.among.1 (omega (arith, less, inside)) (subst (λ (a : TreeItem). path_cmp a.path (get_or items j h.item).path ≡ Less) (sym h.among.2) (subst (λ (a : TreeItem). path_cmp h.item.path a.path ≡ Less) (sym at_j) first)) in
          rec k h.item (omega (arith, lower, less)) h.among.2 (omega (arith, ap length h.at, ap length w.is, length_push w.folder w.name)) (subst (λ p. is_below f p ≡ true) (sym h.at) b) (λ e. other (e ∙ h.at))

      in_folder : (w : IsInFolder items i.path) → (is_below f w.folder ≡ true) ⊎ (f ≡ under w.folder w.name) → HasFolder items f
      in_folder w (inr e) = absurd (apart (e ∙ sym w.is))
      in_folder w (inl b) = ⊎_elim (λ e. folder_of_same f w.folder e w.there) (λ other. further w b other) (same_or_apart f w.folder)

  -- all folders on the way to an item that lies well are there
  on_way : (m n : ℕ) → AreInner items n → n ≤ length items → (j : ℕ) (i : TreeItem) → j < n → get_or items j i ≡ i → length i.path ≤ m → (f : Path) → is_below f i.path ≡ true → f ≢ i.path → HasFolder items f
  on_way zero n inner inside j i less is short f below apart =
      way_step n inner inside j i less is f below apart (λ k g l at shorter b o. absurd (omega (arith, short, shorter)))
  on_way (suc m) n inner inside j i less is short f below apart =
      way_step n inner inside j i less is f below apart (λ k g l at shorter b o. on_way m n inner inside k g l at (omega (arith, short, shorter)) f b o)

  -- an item that goes on from the one before it lies well
  pub good_next : (n : ℕ) (q : TreeItem) (p : Path) → 0 < n → n ≤ length items → AreInner items n → get_or items (n - 1) q ≡ q → GoesOn q p → IsInFolder items p
  good_next n q p some inside inner is goes = record { folder = goes.folder; name = goes.name; is = goes.is; there = there }
    where
      there : HasFolder items goes.folder
      there =
          ⊎_elim
          (λ e. record { item = q; among = (n - 1, omega (arith, some, inside), is); at = sym e; folder = goes.shut e })
          (λ other. on_way (length q.path) n inner inside (n - 1) q (omega (arith, some)) is (omega arith) goes.folder goes.above other)
          (same_or_apart goes.folder q.path)

  -- and one that doesn't lies in no folder
  pub bad_next : (n : ℕ) (q i : TreeItem) → 0 < n → n < length items → get_or items (n - 1) q ≡ q → get_or items n i ≡ i → (GoesOn q i.path → ⊥) → IsInFolder items i.path → ⊥
  bad_next n q i some inside is_q is_i never w = never (record { folder = w.folder; name = w.name; is = w.is; above = above; shut = shut })
    where
      h : HasFolder items w.folder
      h = w.there

      f_first : path_cmp w.folder i.path ≡ Less
      f_first = subst (λ p. path_cmp w.folder p ≡ Less) (sym w.is) (folder_first w.folder w.name)

      at_n : get_or items n h.item ≡ i
      at_n = get_or_default items n h.item i inside ∙ is_i

      lower : h.among.0 < n
      lower = before h.among.0 n h.item h.among.1 inside (subst (λ (a : TreeItem). path_cmp a.path (get_or items n h.item).path ≡ Less) (sym h.among.2) (subst (λ (a : TreeItem). path_cmp h.item.path a.path ≡ Less) (sym at_n) (subst (λ p. path_cmp p i.path ≡ Less) (sym h.at) f_first)))

      at_q : get_or items (n - 1) h.item ≡ q
      at_q = get_or_default items (n - 1) h.item q (omega (arith, inside)) ∙ is_q

      sides : (k m : ℕ) → k < m → (k ≡ m - 1) ⊎ (k < m - 1)
      sides k m l = grind (arith, l)

      same : h.among.0 ≡ n - 1 → h.item ≡ q
      same e = sym h.among.2 ∙ ap (λ k. get_or items k h.item) e ∙ at_q

      q_first : path_cmp q.path i.path ≡ Less
      q_first = subst (λ (a : TreeItem). path_cmp q.path a.path ≡ Less) at_n (subst (λ (a : TreeItem). path_cmp a.path (get_or items n h.item).path ≡ Less) at_q (rises (n - 1) n h.item (omega (arith, some)) inside))

      f_below : h.among.0 < n - 1 → path_cmp w.folder q.path ≡ Less
      f_below l = subst (λ p. path_cmp p q.path ≡ Less) h.at (subst (λ (a : TreeItem). path_cmp a.path q.path ≡ Less) h.among.2 (subst (λ (a : TreeItem). path_cmp (get_or items h.among.0 h.item).path a.path ≡ Less) at_q (rises h.among.0 (n - 1) h.item l (omega (arith, inside)))))

      above : is_below w.folder q.path ≡ true
      above =
          ⊎_elim
          (λ e. subst (λ p. is_below w.folder p ≡ true) (sym h.at ∙ ap (λ (a : TreeItem). a.path) (same e)) (is_below-self w.folder))
          (λ l. between w.folder q.path w.name (f_below l) (subst (λ p. path_cmp q.path p ≡ Less) w.is q_first))
          (sides h.among.0 n lower)

      shut : w.folder ≡ q.path → q.body ≡ None
      shut e =
          ⊎_elim
          (λ s. ap (λ (a : TreeItem). a.body) (sym (same s)) ∙ h.folder)
          (λ l. absurd (not_less_same w.folder q.path e (f_below l)))
          (sides h.among.0 n lower)

  bad_at : (p : Path) → p ≢ [] → HasItem items p → (IsInFolder items p → ⊥) → IsBadPath items p
  bad_at [] some has none = absurd (some refl)
  bad_at (x ∷ p) some has none = (has, none)

  item_of_bad : (q : Path) → q ≢ [] → IsBadPath items q → HasItem items q × (IsInFolder items q → ⊥)
  item_of_bad [] some bad = absurd (some refl)
  item_of_bad (x ∷ q) some bad = bad

  bad_root : (q : Path) → q ≡ [] → IsBadPath items q → HasFolder items [] → ⊥
  bad_root q e bad root = subst (IsBadPath items) e bad root

  pub least_next : (n : ℕ) (i : TreeItem) → HasFolder items [] → 0 < n → n < length items → get_or items n i ≡ i → AreInner items n → (IsInFolder items i.path → ⊥) → IsLeastBad items i.path
  least_next n i root some inside is inner none =
      record { bad = bad_at i.path apart (record { item = i; among = (n, inside, is); at = refl }) none; least = λ q bad less. least q bad less (same_or_apart q []) }
    where
      apart : i.path ≢ []
      apart e =
          let l = rises 0 n i some inside in
          none_before_root (get_or items 0 i).path (subst (λ p. path_cmp (get_or items 0 i).path p ≡ Less) e (subst (λ (a : TreeItem). path_cmp (get_or items 0 i).path a.path ≡ Less) is l))

      least : (q : Path) → IsBadPath items q → path_cmp q i.path ≡ Less → (q ≡ []) ⊎ (q ≢ []) → ⊥
      least q bad less (inl e) = bad_root q e bad root
      least q bad less (inr other) =
          let b = item_of_bad q other bad in
          let h = b.0 in
          let at_n : get_or items n h.item ≡ i = get_or_default items n h.item i inside ∙ is in
          let lower : h.among.0 < n = before h.among.0 n h.item h.among.1 inside (subst (λ (a : TreeItem). path_cmp a.path (get_or items n h.item).path ≡ Less) (sym h.among.2) (subst (λ (a : TreeItem). path_cmp h.item.path a.path ≡ Less) (sym at_n) (subst (λ p. path_cmp p i.path ≡ Less) (sym h.at) less))) in
          let well = subst (λ (a : TreeItem). (a.path ≡ []) ⊎ IsInFolder items a.path) h.among.2 (inner h.among.0 h.item lower) in
          ⊎_elim (λ e. other (sym h.at ∙ e)) (λ w. b.1 (subst (IsInFolder items) h.at w)) well

  pub tree_at_end : (n : ℕ) → HasFolder items [] → length items ≤ n → AreInner items n → IsTree items
  tree_at_end n root all inner =
      record { root = root; inner = λ i among. subst (λ (a : TreeItem). (a.path ≡ []) ⊎ IsInFolder items a.path) among.2 (inner among.0 i (omega (arith, among.1, all))) }

pub root_there : (items : List TreeItem) → StartsAtRoot items → HasFolder items []
root_there [] s = absurd s
root_there (i ∷ items) s = record { item = i; among = (0, omega arith, refl); at = s.0; folder = s.1 }

pub first_inner : (items : List TreeItem) (ordered : IsStrictlySortedBy path_cmp (paths_of items)) → StartsAtRoot items → AreInner items 1
first_inner [] ordered s = absurd s
first_inner (i ∷ items) ordered s = λ k d less. inl (subst (λ n. (get_or (i ∷ items) n d).path ≡ []) (zero_is k less) s.0)
  where
    zero_is : (k : ℕ) → k < 1 → 0 ≡ k
    zero_is k l = omega (arith, l)

root_at : (i : TreeItem) (items : List TreeItem) → IsStrictlySortedBy path_cmp (paths_of (i ∷ items)) → (StartsAtRoot (i ∷ items) → ⊥) → (h : HasFolder (i ∷ items) []) → (k : ℕ) → h.among.0 ≡ k → ⊥
root_at i items ordered never h zero e =
    let same : i ≡ h.item = ap (λ n. get_or (i ∷ items) n h.item) (sym e) ∙ h.among.2 in
    never (ap (λ (a : TreeItem). a.path) same ∙ h.at, ap (λ (a : TreeItem). a.body) same ∙ h.folder)
root_at i items ordered never h (suc k) e =
    let l = rises (i ∷ items) ordered 0 h.among.0 h.item (omega (arith, e)) h.among.1 in
    none_before_root i.path (subst (λ p. path_cmp i.path p ≡ Less) h.at (subst (λ (a : TreeItem). path_cmp i.path a.path ≡ Less) h.among.2 l))

-- the items have no folder at the root
pub bad_at_root : (items : List TreeItem) → IsStrictlySortedBy path_cmp (paths_of items) → (StartsAtRoot items → ⊥) → IsLeastBad items []
bad_at_root items ordered never = record { bad = none items ordered never; least = λ q bad less. none_before_root q less }
  where
    none : (items : List TreeItem) → IsStrictlySortedBy path_cmp (paths_of items) → (StartsAtRoot items → ⊥) → HasFolder items [] → ⊥
    none [] ordered never h = omega (arith, h.among.1)
    none (i ∷ items) ordered never h = root_at i items ordered never h h.among.0 refl

-- all folders on the way to an item of a tree are there
pub way_there : (items : List TreeItem) → IsStrictlySortedBy path_cmp (paths_of items) → IsTree items → (i : TreeItem) → Contains items i → (f : Path) → is_below f i.path ≡ true → f ≢ i.path → HasFolder items f
way_there items ordered tree i c f below apart =
    on_way items ordered (length i.path) (length items) (λ k d less. tree.inner (get_or items k d) (Contains-get_or items k d less)) (omega arith) c.0 i c.1 c.2 (omega arith) f below apart

-- ---- the two ways at the next item

pub least_here : (items : List TreeItem) → AreItems items → StartsAtRoot items → (n : ℕ) (q e x : TreeItem) → 0 < n → n < length items → AreInner items n → q ≡ get_or items (n - 1) q → (GoesOn q (get_or items n e).path → ⊥) → IsLeastBad items (get_or items n x).path
least_here items ordered root n q e x some inside inner at_q never =
    let i = get_or items n x in
    let at_i : get_or items n i ≡ i = get_or_default items n i x inside in
    let same : get_or items n e ≡ i = get_or_default items n e x inside in
    least_next items ordered.ascending n i (root_there items root) some inside at_i inner
    (bad_next items ordered.ascending n q i some inside (sym at_q) at_i (λ g. never (subst (λ (a : TreeItem). GoesOn q a.path) (sym same) g)))

pub inner_here : (items : List TreeItem) → AreItems items → (n : ℕ) (q e : TreeItem) → 0 < n → n < length items → AreInner items n → q ≡ get_or items (n - 1) q → GoesOn q (get_or items n e).path → AreInner items (n + 1)
inner_here items ordered n q e some inside inner at_q goes =
    let i = get_or items n e in
    let at_i : i ≡ get_or items n i = get_or_default items n e i inside in
    inner_more items ordered.ascending n i inside at_i inner (inr (good_next items ordered.ascending n q i.path some (omega (arith, inside)) inner (sym at_q) goes))

pub tree_here : (items : List TreeItem) → AreItems items → StartsAtRoot items → (n : ℕ) → length items ≤ n → AreInner items n → IsTree items
tree_here items ordered root n all inner = tree_at_end items ordered.ascending n (root_there items root) all inner
