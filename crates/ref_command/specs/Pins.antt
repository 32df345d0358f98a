-- The commit that a command has looked up is pinned for its lane till the command ends.
use Rattle.std.proofs.Common.{◌≡◌, ◌≢◌, refl, sym, ◌∙◌, ℕ, List, Option, Some, None, Contains}
use Rattle.fs_trait.specs.View.{View}
use Rattle.rely_guarantee.specs.declared.books.Pin.{Pin}
use Rattle.rely_guarantee.specs.Books.{Books}
use Rattle.rely_guarantee.specs.Rely.{Interference}
use Rattle.ref_command.specs.declared.look_up.Found.{Found}
use Rattle.ref_command.specs.Found.{commit_name}

abbrev pub IsPinned : ℕ → Books → List ℕ → Type 0
IsPinned lane b commit = Contains b.pins (record { lane = lane; object = commit_name commit })

-- once it was looked up
abbrev pub IsPinnedBy : Option Found → ℕ → Books → List ℕ → Type 0
IsPinnedBy None lane b commit = Unit {0}
IsPinnedBy (Some found) lane b commit = IsPinned lane b commit

-- what a ref is set to
abbrev pub IsPinnedFor : Option (List ℕ) → ℕ → Books → Type 0
IsPinnedFor None lane b = Unit {0}
IsPinnedFor (Some commit) lane b = IsPinned lane b commit

-- the lane's pins are still there
abbrev pub PinsStay : ℕ → Books → Books → Type 0
PinsStay lane b b' = (p : Pin) → p.lane ≡ lane → Contains b.pins p → Contains b'.pins p

-- an act for another lane takes none of them away
pub others_pins : (actor lane mine : ℕ) (v w : View) (b b' : Books) → mine ≢ lane → Interference actor lane v b w b' → PinsStay mine b b'
others_pins actor lane mine v w b b' other does p is = does.books.pins p (λ e. other (sym is ∙ e))

module _ (lane : ℕ) (b b' : Books) (stay : PinsStay lane b b') where
  pub pinned_on : (commit : List ℕ) → IsPinned lane b commit → IsPinned lane b' commit
  pinned_on commit pin = stay (record { lane = lane; object = commit_name commit }) refl pin

  pub pinned_by_on : (found : Option Found) (commit : List ℕ) → IsPinnedBy found lane b commit → IsPinnedBy found lane b' commit
  pinned_by_on None commit pin = tt
  pinned_by_on (Some found) commit pin = pinned_on commit pin

  pub pinned_for_on : (o : Option (List ℕ)) → IsPinnedFor o lane b → IsPinnedFor o lane b'
  pinned_for_on None pin = tt
  pinned_for_on (Some commit) pin = pinned_on commit pin
