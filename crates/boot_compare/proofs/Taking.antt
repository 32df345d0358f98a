-- The texts of a list, gathered, and one of them taken away.
use Rattle.std.proofs.Common.{◌≡◌, ◌≢◌, ◌⊎◌, ⊎_elim, ℕ, zero, suc, ◌+◌, ◌<◌, ◌≤◌, arith, true, false, refl, sym, ◌∙◌, ap, subst, List, [], ◌∷◌, ◌++◌, length, take, drop, get_or, length-append}
use Rattle.std.specs.Prelude.{slice_index_or}
use Rattle.std.proofs.lemmas.List.{get_or_append_left}
use Rattle.std.proofs.Math.Seq.{get_or-append_seam}
use Rattle.std.proofs.lemmas.Bool.Decides.{leb_tells}
use Rattle.boot_model.specs.declared.item.BootItem.{BootItem}
use Rattle.boot_model.specs.Items.{IsAt}
use Rattle.boot_model.specs.Entries.{entry_text}
use Rattle.boot_compare.specs.Comparing.{AreAllTexts, IsTaken, without}
use Rattle.boot_compare.proofs.Matching.{without_here, without_there}

-- ---- gathered

-- the texts of the first members
pub record AreFirst (loader : ℕ) (items : List BootItem) (count : ℕ) (texts : List (List ℕ)) : Type 0 where
  pub whole : length texts ≡ count
  pub each : (i : ℕ) (item : BootItem) → IsAt items i item → i < count → get_or texts i [] ≡ entry_text loader items i item

pub first_none : (loader : ℕ) (items : List BootItem) → AreFirst loader items 0 []
first_none loader items = record { whole = refl; each = λ i item at less. absurd (omega (arith, less)) }

pub first_more : (loader : ℕ) (items : List BootItem) (count : ℕ) (texts : List (List ℕ)) (text : List ℕ)
    → ((item : BootItem) → IsAt items count item → text ≡ entry_text loader items count item) → AreFirst loader items count texts → AreFirst loader items (count + 1) (texts ++ text ∷ [])
first_more loader items count texts text is are = record {
  whole = length-append texts (text ∷ []) ∙ ap (λ k. k + 1) are.whole;
  each = λ i item at less. ⊎_elim (λ a. last i item at (omega (arith, less, a.1))) (λ a. before i item at a.1) (leb_tells count i);
}
  where
    last : (i : ℕ) (item : BootItem) → IsAt items i item → i ≡ count → get_or (texts ++ text ∷ []) i [] ≡ entry_text loader items i item
    last i item at e =
        let here : get_or (texts ++ text ∷ []) i [] ≡ text = ap (λ k. get_or (texts ++ text ∷ []) k []) (e ∙ sym are.whole) ∙ get_or-append_seam texts text [] [] in
        here ∙ is item (subst (λ k. IsAt items k item) e at) ∙ ap (λ k. entry_text loader items k item) (sym e)

    before : (i : ℕ) (item : BootItem) → IsAt items i item → i < count → get_or (texts ++ text ∷ []) i [] ≡ entry_text loader items i item
    before i item at less = get_or_append_left texts (text ∷ []) [] i (omega (arith, less, are.whole)) ∙ are.each i item at less

pub first_all : (loader : ℕ) (items : List BootItem) (texts : List (List ℕ)) → AreFirst loader items (length items) texts → AreAllTexts loader items texts
first_all loader items texts are = record { whole = are.whole; each = λ i item at. are.each i item at at.0 }

-- ---- taken away

-- the first that is this one stands behind those that are not
pub without_at : (text : List ℕ) (texts : List (List ℕ)) (i : ℕ) → i < length texts → get_or texts i text ≡ text → ((k : ℕ) → k < i → get_or texts k text ≢ text) → without text texts ≡ take i texts ++ drop (suc i) texts
without_at text [] i less there none = absurd (omega (arith, less))
without_at text (t ∷ texts) zero less there none = ap (λ x. without text (x ∷ texts)) there ∙ without_here text texts
without_at text (t ∷ texts) (suc i) less there none =
    without_there t text texts (none 0 (omega arith)) ∙ ap (λ l. t ∷ l) (without_at text texts i (omega (arith, less)) there (λ k before. none (suc k) (omega (arith, before))))

pub taken_at : (text : List ℕ) (texts left : List (List ℕ)) (i : ℕ) → i < length texts → get_or texts i text ≡ text → ((k : ℕ) → k < i → get_or texts k text ≢ text) → left ≡ take i texts ++ drop (i + 1) texts
    → IsTaken texts text true left
taken_at text texts left i less there none is = ((i, less, there), is ∙ ap (λ k. take i texts ++ drop k texts) (let e : i + 1 ≡ suc i = omega arith in e) ∙ sym (without_at text texts i less there none))
