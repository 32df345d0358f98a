-- In which files the entries of a list stand.
use Rattle.std.proofs.Common.{◌≡◌, ◌⊎◌, inl, inr, ℕ, ◌-◌, ◌<◌, ◌≤◌, List, [], length, get_or, sym, ◌∙◌, subst, arith}
use Rattle.std.specs.Prelude.{Some, None}
use Rattle.std.specs.List.{slice_get}
use Rattle.std.proofs.lemmas.List.{get_or_default}
use Rattle.std.proofs.lemmas.Option.{slice_get_cases}
use Rattle.ost_types.specs.Path.{Name}
use Rattle.fs_trait.specs.View.{Disk}
use Rattle.boot_model.specs.declared.item.BootItem.{BootItem}
use Rattle.boot_model.specs.Items.{IsAt}
use Rattle.boot_model.specs.Entries.{entry_text}
use Rattle.boot_model.specs.Listing.{HasEntry, ShowsEntries}
use Rattle.boot_rows.specs.Written.{AreFiled}

pub one_at : (items : List BootItem) (i : ℕ) (a b : BootItem) → IsAt items i a → IsAt items i b → a ≡ b
one_at items i a b p q = sym p.1 ∙ get_or_default items i a b p.0 ∙ q.1

module _ (d : Disk) (loader : ℕ) (items : List BootItem) (shows : ShowsEntries d loader items) where
  abbrev Cases : ℕ → Type 0
  Cases i = ((x : BootItem) × (i < length items) × (slice_get items i ≡ Some x) × (get_or items i x ≡ x)) ⊎ ((length items ≤ i) × (slice_get items i ≡ None))

  abbrev file_by : (i : ℕ) → Cases i → Name
  file_by i (inl (x, lt, some, is)) = (shows.each i x (lt, is)).0
  file_by i (inr none) = []

  holds_by : (i : ℕ) (c : Cases i) (item : BootItem) → IsAt items i item → HasEntry d loader (file_by i c) (entry_text loader items i item)
  holds_by i (inl (x, lt, some, is)) item at =
      subst (λ y. HasEntry d loader (shows.each i x (lt, is)).0 (entry_text loader items i y)) (one_at items i x item (lt, is) at) (shows.each i x (lt, is)).1
  holds_by i (inr none) item at = absurd (omega (arith, none.0, at.0))

  abbrev file_at : ℕ → Name
  file_at i = file_by i (slice_get_cases items i).1

  -- the file of a version
  abbrev pub files : ℕ → Name
  files version = file_at (length items - version)

  pub filed : AreFiled d loader items files
  filed i item at =
      let place : length items - (length items - i) ≡ i = omega (arith, at.0) in
      subst (λ n. HasEntry d loader (file_at n) (entry_text loader items i item)) (sym place) (holds_by i (slice_get_cases items i).1 item at)
