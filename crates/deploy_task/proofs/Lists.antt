-- The list by the names of its members, member by member.
use Rattle.std.proofs.Common.{◌≡◌, ◌⊎◌, inl, inr, ◌<◌, ◌+◌, ℕ, List, [], ◌∷◌, ◌++◌, length, take, get_or, Some, None, refl, sym, ◌∙◌, ap, arith, append-nil}
use Rattle.std.specs.List.{filter_map, slice_get}
use Rattle.std.proofs.lemmas.List.{get_or_default, take_more}
use Rattle.std.proofs.lemmas.List.Elements.{filter_map-append}
use Rattle.ost_types.specs.Path.{Name}
use Rattle.boot_model.specs.declared.item.DepId.{DepId}
use Rattle.boot_model.specs.declared.item.BootItem.{BootItem}
use Rattle.boot_model.specs.Items.{IsAt}
use Rattle.deploy_task.specs.Listed.{IsFirstOf, items_at}

-- ---- the first of a stateroot

at_one : (items : List BootItem) (i k : ℕ) (item other : BootItem) → i ≡ k → IsAt items k item → IsAt items i other → other ≡ item
at_one items i k item other same here at = sym at.1 ∙ ap (λ n. get_or items n other) same ∙ get_or_default items k other item here.0 ∙ here.1

pub first_once : (items : List BootItem) (os : Name) (a b : DepId) → IsFirstOf items os a → IsFirstOf items os b → a ≡ b
first_once items os a b x y = by (order x.place y.place)
  where
    order : (i j : ℕ) → (i < j) ⊎ (i ≡ j) ⊎ (j < i)
    order i j = grind arith

    by : (x.place < y.place) ⊎ (x.place ≡ y.place) ⊎ (y.place < x.place) → a ≡ b
    by (inl earlier) = absurd (y.first x.place x.item x.at earlier x.stateroot)
    by (inr (inl same)) = x.is ∙ ap (λ (i : BootItem). i.id) (at_one items x.place y.place y.item x.item same y.at x.at) ∙ sym y.is
    by (inr (inr later)) = absurd (x.first y.place y.item y.at later y.stateroot)

-- ---- those that stay

stay_more : (items : List BootItem) (places : List ℕ) (k d : ℕ) → k < length places → items_at items (take (k + 1) places) ≡ items_at items (take k places) ++ filter_map (slice_get items) (get_or places k d ∷ [])
stay_more items places k d inside = ap (items_at items) (take_more places k d inside) ∙ filter_map-append (slice_get items) (take k places) (get_or places k d ∷ [])

one_some : (items : List BootItem) (place : ℕ) (item : BootItem) → slice_get items place ≡ Some item → filter_map (slice_get items) (place ∷ []) ≡ item ∷ []
one_some items place item is = rw is refl

one_none : (items : List BootItem) (place : ℕ) → slice_get items place ≡ None → filter_map (slice_get items) (place ∷ []) ≡ []
one_none items place is = rw is refl

pub stays_some : (first : BootItem) (items : List BootItem) (places : List ℕ) (k d : ℕ) (item : BootItem) (so_far : List BootItem) → k < length places → slice_get items (get_or places k d) ≡ Some item
    → so_far ≡ first ∷ items_at items (take k places) → so_far ++ item ∷ [] ≡ first ∷ items_at items (take (k + 1) places)
stays_some first items places k d item so_far inside there so =
    ap (λ l. l ++ item ∷ []) so
    ∙ ap (λ l. first ∷ l) (ap (λ l. items_at items (take k places) ++ l) (sym (one_some items (get_or places k d) item there)) ∙ sym (stay_more items places k d inside))

pub stays_none : (first : BootItem) (items : List BootItem) (places : List ℕ) (k d : ℕ) (so_far : List BootItem) → k < length places → slice_get items (get_or places k d) ≡ None
    → so_far ≡ first ∷ items_at items (take k places) → so_far ≡ first ∷ items_at items (take (k + 1) places)
stays_none first items places k d so_far inside there so =
    so
    ∙ ap (λ l. first ∷ l) (sym (append-nil (items_at items (take k places))) ∙ ap (λ l. items_at items (take k places) ++ l) (sym (one_none items (get_or places k d) there)) ∙ sym (stay_more items places k d inside))
