-- Each row is that of the member at its place.
use Rattle.std.proofs.Common.{◌≡◌, ◌⊎◌, inl, inr, ℕ, ◌+◌, ◌-◌, ◌<◌, ◌≤◌, List, [], ◌∷◌, length, map, take, get_or, subst, sym, ◌∙◌, ap, arith}
use Rattle.std.specs.Prelude.{Contains, Some, None}
use Rattle.std.specs.List.{AllByRecursion, enumerate_from, slice_get}
use Rattle.std.specs.List.Sorted.{IsStrictlySortedBy}
use Rattle.std.specs.Ordering.{nat_cmp}
use Rattle.std.specs.Cmp.{nat_cmp_is}
use Rattle.std.specs.declared.cmp.Ordering.TheVariants.{Less}
use Rattle.std.proofs.lemmas.List.{get_or-map, length-map, length-take}
use Rattle.std.proofs.lemmas.List.FromFn.{get_or-enumerate_from, length-enumerate_from}
use Rattle.std.proofs.lemmas.List.Sums.{count_by-le-length}
use Rattle.std.proofs.lemmas.Option.{slice_get_cases}
use Rattle.ost_types.specs.Path.{Name}
use Rattle.boot_model.specs.declared.item.BootItem.{BootItem}
use Rattle.boot_model.specs.Items.{AreItems, IsAt, is_like, link_number}
use Rattle.boot_read.specs.declared.row.BootRow.{BootRow}
use Rattle.boot_rows.specs.Rows.{row_of, rows_of}

-- ---- members

pub member_at : (items : List BootItem) (i : ℕ) → i < length items → (item : BootItem) × IsAt items i item
member_at items i inside = by (slice_get_cases items i).1
  where
    by : ((x : BootItem) × (i < length items) × (slice_get items i ≡ Some x) × (get_or items i x ≡ x)) ⊎ ((length items ≤ i) × (slice_get items i ≡ None)) → (item : BootItem) × IsAt items i item
    by (inl (x, lt, some, is)) = (x, (lt, is))
    by (inr none) = absurd (omega (arith, inside, none.0))

numbered : (items : List BootItem) (i : ℕ) (item : BootItem) → IsAt items i item → get_or (enumerate_from 0 items) i (0, item) ≡ (i, item)
numbered items i item at =
    let from : 0 + i ≡ i = omega arith in
    get_or-enumerate_from 0 items i (0, item) at.0 ∙ ap (λ n. (n, get_or items i item)) from ∙ ap (λ x. (i, x)) at.1

pub few_links : (items : List BootItem) (i : ℕ) (item : BootItem) → AreItems items → link_number items i item ≤ 8
few_links items i item are =
    let counted = count_by-le-length (λ other. is_like item other) (take i items) in
    let front = length-take i items in
    omega (arith, counted, front, are.few)

-- ---- rows

module _ (files : ℕ → Name) (items : List BootItem) where
  abbrev row : ℕ × BootItem → BootRow
  row e = row_of files items e.0 e.1

  pub count : length (rows_of files items) ≡ length items
  count = length-map (enumerate_from 0 items) row ∙ length-enumerate_from 0 items

  pub row_at : (i : ℕ) (item : BootItem) (r : BootRow) → IsAt items i item → get_or (rows_of files items) i r ≡ row_of files items i item
  row_at i item r at =
      let n = length-enumerate_from 0 items in
      get_or-map row (enumerate_from 0 items) i (0, item) r (omega (arith, n, at.0)) ∙ ap row (numbered items i item at)

  -- what holds of the row of each member holds of all
  pub each_row : (P : BootRow → Type 0) → ((i : ℕ) (item : BootItem) → IsAt items i item → P (row_of files items i item)) → (k : ℕ) (r : BootRow) → k < length (rows_of files items) → P (get_or (rows_of files items) k r)
  each_row P holds k r inside =
      let m = member_at items k (omega (arith, inside, count)) in
      subst P (sym (row_at k m.0 r m.1)) (holds k m.0 m.1)

  pub file_in : (i : ℕ) (item : BootItem) (file : Name) → IsAt items i item → files (length items - i) ≡ file → Contains (map (λ (r : BootRow). r.file) (rows_of files items)) file
  file_in i item file at named =
      let inside : i < length (rows_of files items) = omega (arith, at.0, count) in
      let n = length-map (rows_of files items) (λ (r : BootRow). r.file) in (
        i,
        omega (arith, inside, n),
        get_or-map (λ (r : BootRow). r.file) (rows_of files items) i (row_of files items i item) file inside ∙ ap (λ (r : BootRow). r.file) (row_at i item (row_of files items i item) at) ∙ named,
      )

  pub found : (r : BootRow) → Contains (rows_of files items) r → (i : ℕ) × (item : BootItem) × IsAt items i item × (r ≡ row_of files items i item)
  found r has =
      let m = member_at items has.0 (omega (arith, has.1, count)) in
      (has.0, m.0, m.1, sym has.2 ∙ row_at has.0 m.0 r m.1)

  -- ---- versions

  abbrev versions : ℕ → List BootItem → List ℕ
  versions n rest = map (λ (r : BootRow). r.version) (map row (enumerate_from n rest))

  less : (k n : ℕ) (rest : List BootItem) → k < n → n + length rest ≤ length items → AllByRecursion (λ v. nat_cmp v (length items - k) ≡ Less) (versions n rest)
  less k n [] before within = tt
  less k n (x ∷ rest) before within =
      let lower : length items - n < length items - k = omega (arith, before, within) in
      (sym (nat_cmp_is (length items - n) (length items - k) Less lower), less k (n + 1) rest (omega (arith, before)) (omega (arith, within)))

  falls : (n : ℕ) (rest : List BootItem) → n + length rest ≤ length items → IsStrictlySortedBy (λ a b. nat_cmp b a) (versions n rest)
  unfolding IsStrictlySortedBy
  falls n [] within = tt
  falls n (x ∷ rest) within = (less n (n + 1) rest (omega arith) (omega (arith, within)), falls (n + 1) rest (omega (arith, within)))

  pub falling : IsStrictlySortedBy (λ a b. nat_cmp b a) (map (λ (r : BootRow). r.version) (rows_of files items))
  falling = falls 0 items (omega arith)
