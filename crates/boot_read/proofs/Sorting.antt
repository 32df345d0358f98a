-- The rows in the order of their versions.
use Rattle.std.proofs.Common.{◌≡◌, ◌≢◌, ℕ, ◌+◌, ◌-◌, ◌^◌, ◌<◌, ◌≤◌, true, false, List, [], ◌∷◌, map, length, get_or, sym, ◌∙◌, ap, subst, arith, All}
use Rattle.std.specs.Cmp.{nat_cmp_is}
use Rattle.std.specs.Cmp.Lexicographic.{slice_cmp}
use Rattle.std.specs.Ordering.{eq_by_cmp, nat_cmp}
use Rattle.std.specs.List.{IsDistinct}
use Rattle.std.specs.List.Sorted.{IsNonDecreasingBy, IsPermutation, IsStrictlySortedBy}
use Rattle.std.specs.declared.cmp.Ordering.TheVariants.{Less}
use Rattle.std.proofs.lemmas.Cmp.{back_total, eq_by_cmp_equiv, nat_cmp_total, nat_list_cmp_total}
use Rattle.std.proofs.lemmas.List.{get_or-map, length-map}
use Rattle.std.proofs.lemmas.List.Elements.{All-contains, All-weaker}
use Rattle.std.proofs.lemmas.List.Sorted.{All-permutation, Contains-permutation, IsPermutation-map, length_permutation}
use Rattle.std.proofs.lemmas.Map.Keys.{IsDistinct-IsPermutation, IsDistinct-from_sorted, apart_from_distinct, sorted_from_all_adjacent}
use Rattle.ost_types.specs.Path.{Name}
use Rattle.fs_trait.specs.View.{Disk}
use Rattle.boot_read.specs.declared.row.BootRow.{BootRow}
use Rattle.boot_read.specs.Links.{LeadsOn}
use Rattle.boot_read.specs.Rows.{AreBootRows, IsBootRow}
use Rattle.boot_read.specs.Steps.{AreOwned, IsOwned, rank}
use Rattle.boot_read.proofs.Owning.{own_id}
use Rattle.boot_read.proofs.Unique.{version_small}

abbrev file_of : BootRow → Name
file_of r = r.file

abbrev version_of : BootRow → ℕ
version_of r = r.version

falls : (rows : List BootRow) → ((r : BootRow) (k : ℕ) → k + 1 < length (map version_of rows) → nat_cmp (get_or (map version_of rows) (k + 1) 0) (get_or (map version_of rows) k 0) ≡ Less)
    → IsStrictlySortedBy (λ a b. nat_cmp b a) (map version_of rows)
unfolding IsStrictlySortedBy
falls [] adjacent = tt
falls (r ∷ rows) adjacent = sorted_from_all_adjacent (back_total nat_cmp_total) (map version_of (r ∷ rows)) 0 (adjacent r)

module _ (d : Disk) (loader sub : ℕ) (rows sorted : List BootRow) (are : AreOwned d loader sub rows) (same : IsPermutation rows sorted) (falling : IsNonDecreasingBy rank sorted) where
  each : All (IsOwned d loader sub) sorted
  each = All-permutation (IsOwned d loader sub) rows sorted same are.each

  apart : (i j : ℕ) (x : Name) → i < j → j < length (map file_of sorted) → get_or (map file_of sorted) i x ≢ get_or (map file_of sorted) j x
  apart i j x less inside e =
      let same_names = eq_by_cmp_equiv nat_list_cmp_total in
      let distinct : IsDistinct (eq_by_cmp (slice_cmp nat_cmp)) (map file_of sorted) =
      IsDistinct-IsPermutation (eq_by_cmp (slice_cmp nat_cmp)) same_names.symm (map file_of rows) (map file_of sorted) (IsPermutation-map file_of rows sorted same)
      (IsDistinct-from_sorted (slice_cmp nat_cmp) (map file_of rows) are.entries.ascending) in
      let f : eq_by_cmp (slice_cmp nat_cmp) (get_or (map file_of sorted) i x) (get_or (map file_of sorted) j x) ≡ false = apart_from_distinct (eq_by_cmp (slice_cmp nat_cmp)) (map file_of sorted) i j x distinct less inside in
      let t : eq_by_cmp (slice_cmp nat_cmp) (get_or (map file_of sorted) i x) (get_or (map file_of sorted) i x) ≡ true = same_names.refl (get_or (map file_of sorted) i x) in
      let n : true ≡ false = sym t ∙ ap (eq_by_cmp (slice_cmp nat_cmp) (get_or (map file_of sorted) i x)) e ∙ f in cc

  small : {r : BootRow} → IsOwned d loader sub r → r.version < 2 ^ 32
  small {r} o = subst (λ n. n < 2 ^ 32) (sym o.row_is.led.version_is) (version_small d loader r.file o.row_is.led.entry o.row_is.led.read)

  -- two rows of one version are one
  one_version : (r s : BootRow) → IsOwned d loader sub r → IsOwned d loader sub s → r.version ≡ s.version → s.file ≡ r.file
  one_version r s a b e = a.own.version s.file (record {
    entry = a.row_is.led.entry;
    second = b.row_is.led.entry;
    read = a.row_is.led.read;
    also = b.row_is.led.read;
    same = sym a.row_is.led.version_is ∙ e ∙ b.row_is.led.version_is;
  })

  less_version : (k : ℕ) (r : BootRow) → k + 1 < length sorted → (get_or sorted (k + 1) r).version < (get_or sorted k r).version
  less_version k r inside =
      let a = get_or sorted k r in
      let b = get_or sorted (k + 1) r in
      let le : b.version ≤ a.version = lesser a.version b.version (small (each k r (omega (arith, inside)))) (small (each (k + 1) r inside)) (falling k (k + 1) r (omega arith) inside) in
      let ne : a.version ≢ b.version = λ e.
      apart k (k + 1) r.file (omega arith) (omega (arith, inside, length-map sorted file_of))
      (get_or-map file_of sorted k r r.file (omega (arith, inside)) ∙ sym (one_version a b (each k r (omega (arith, inside))) (each (k + 1) r inside) e) ∙ sym (get_or-map file_of sorted (k + 1) r r.file inside)) in
      strict a.version b.version le ne
    where
      strict : (a b : ℕ) → b ≤ a → a ≢ b → b < a
      strict a b le ne = omega (arith, le, ne)

      lesser : (a b : ℕ) → a < 2 ^ 32 → b < 2 ^ 32 → 4294967295 - a ≤ 4294967295 - b → b ≤ a
      lesser a b few less le = omega (arith, few, less, le)

  adjacent : (r : BootRow) (k : ℕ) → k + 1 < length (map version_of sorted) → nat_cmp (get_or (map version_of sorted) (k + 1) 0) (get_or (map version_of sorted) k 0) ≡ Less
  adjacent r k inside =
      let here : k + 1 < length sorted = omega (arith, inside, length-map sorted version_of) in
      let less : get_or (map version_of sorted) (k + 1) 0 < get_or (map version_of sorted) k 0 =
      omega (arith, less_version k r here, get_or-map version_of sorted (k + 1) r 0 here, get_or-map version_of sorted k r 0 (omega (arith, here))) in
      sym (nat_cmp_is (get_or (map version_of sorted) (k + 1) 0) (get_or (map version_of sorted) k 0) Less less)

  pub boot_rows : AreBootRows d loader sub sorted
  boot_rows = record {
    few = omega (arith, are.few, length_permutation rows sorted same);
    each = All-weaker (IsOwned d loader sub) (IsBootRow d loader sub) (λ r o. o.row_is) sorted each;
    all = λ file entry. Contains-permutation (map file_of rows) (map file_of sorted) file (IsPermutation-map file_of rows sorted same) ((are.entries.exact file).1 entry);
    falling = falls sorted adjacent;
    differ = λ r s has also e.
        let a = All-contains (IsOwned d loader sub) sorted r each has in
        let b = All-contains (IsOwned d loader sub) sorted s each also in
        sym (a.own.alone s.file (s.bootcsum, s.number, subst (LeadsOn d loader sub s.file s.bootcsum s.number) (sym e ∙ sym (own_id d loader sub r a.row_is.led a.own)) b.row_is.led.leads));
  }
