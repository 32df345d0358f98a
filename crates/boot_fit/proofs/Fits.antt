-- Lists that may boot, looked through from the last member on.
use Rattle.std.proofs.Common.{◌≡◌, ◌≢◌, ⊎_elim, ℕ, ◌-◌, ◌<◌, ◌≤◌, List, length, take, get_or, sym, ◌∙◌, ap, subst, arith}
use Rattle.std.proofs.lemmas.Bool.Decides.{leb_tells}
use Rattle.std.proofs.lemmas.List.{get_or-take, get_or_default, length-take-le}
use Rattle.boot_model.specs.declared.item.BootItem.{BootItem}
use Rattle.boot_model.specs.Items.{AreItems, IsAt, IsItem}
use Rattle.boot_fit.specs.Fitting.{FitsAt}

-- each from this place on fits
abbrev pub AreFit : List BootItem → ℕ → Type 0
AreFit items n = (k : ℕ) → n ≤ k → k < length items → FitsAt items k

pub fit_none : (items : List BootItem) (n : ℕ) → length items ≤ n → AreFit items n
fit_none items n all = λ k le less. absurd (omega (arith, all, le, less))

pub fit_more : (items : List BootItem) (n : ℕ) → 0 < n → FitsAt items (n - 1) → AreFit items n → AreFit items (n - 1)
fit_more items n some here behind = λ k le less. ⊎_elim
    (λ a. behind k a.1 less)
    (λ a. subst (FitsAt items) (last k le a.1) here)
    (leb_tells n k)
  where
    last : (k : ℕ) → n - 1 ≤ k → k < n → n - 1 ≡ k
    last k le less = omega (arith, some, le, less)

at_itself : (items : List BootItem) (k : ℕ) (d : BootItem) → k < length items → IsAt items k (get_or items k d)
at_itself items k d less = (less, get_or_default items k (get_or items k d) d less)

-- ---- a list of which each member fits may boot

earlier_differs : (items : List BootItem) (i j : ℕ) (a b : BootItem) → IsAt items i a → IsAt items j b → i < j → FitsAt items j → a.id ≢ b.id
earlier_differs items i j a b one two less fits =
    let long = length-take-le j items (omega (arith, two.0)) in
    let there : get_or (take j items) i a ≡ a = get_or-take j items i a less ∙ one.1 in
    subst (λ (x : BootItem). x.id ≢ b.id) there (fits.new b two i a (omega (arith, less, long)))

pub fit_all : (items : List BootItem) (n : ℕ) → length items ≤ 8 → n ≤ 0 → AreFit items n → AreItems items
fit_all items n few none fit = record {
  few = few;
  each = λ k d less. (fit k (omega (arith, none)) less).may (get_or items k d) (at_itself items k d less);
  differ = λ i j a b one two same. ⊎_elim
      (λ h. ⊎_elim (λ g. let up = h.1 in let down = g.1 in omega (arith, up, down))
      (λ g. absurd (earlier_differs items i j a b one two g.1 (fit j (omega (arith, none)) two.0) same)) (leb_tells j i))
      (λ h. absurd (earlier_differs items j i b a two one h.1 (fit i (omega (arith, none)) one.0) (sym same))) (leb_tells i j);
}

-- ---- and each member of a list that may boot fits

pub fits_in : (items : List BootItem) (at : ℕ) → AreItems items → at < length items → FitsAt items at
fits_in items at are less = record {
  may = λ item is. subst IsItem is.1 (are.each at item is.0);
  new = λ item is k d in_front. no_other item is k d (before k in_front);
}
  where
    before : (k : ℕ) → k < length (take at items) → k < at
    before k in_front = let long = length-take-le at items (omega (arith, less)) in omega (arith, in_front, long)

    no_other : (item : BootItem) → IsAt items at item → (k : ℕ) (d : BootItem) → k < at → (get_or (take at items) k d).id ≢ item.id
    no_other item is k d earlier same =
        let there : get_or (take at items) k d ≡ get_or items k d = get_or-take at items k d earlier in
        let one : k ≡ at = are.differ k at (get_or items k d) item (at_itself items k d (omega (arith, earlier, less))) is (ap (λ (x : BootItem). x.id) (sym there) ∙ same) in
        omega (arith, one, earlier)
