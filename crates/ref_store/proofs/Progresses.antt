-- What follows the look.
use Rattle.std.proofs.Common.{◌≡◌, ◌⊎◌, inl, inr, ⊎_elim, ℕ, refl, ◌∙◌, ap, List, Option, Some, None}
use Rattle.ref_store.specs.declared.phase.Phase.{Phase}
use Rattle.ref_store.specs.declared.phase.Phase.TheVariants as phase
use Rattle.ref_store.specs.declared.lookup.There.{There}
use Rattle.ref_store.specs.declared.lookup.There.TheVariants as there
use Rattle.ref_store.specs.declared.progress.Progress.TheVariants as progress
use Rattle.ref_store.specs.Change.{Change, Follows, begun, progress_in}

by_there : (value : Option (List ℕ)) (x : There) (name : List ℕ) → (progress_in (begun value x name) ≡ progress.Preparing) ⊎ (progress_in (begun value x name) ≡ progress.Showing)
by_there None x name = inr refl
by_there (Some commit) there.Nothing name = inl refl
by_there (Some commit) there.Folder name = inl refl
by_there (Some commit) (there.Commit c) name = inl refl
by_there (Some commit) there.OtherLeaf name = inl refl

-- room is made for a ref that is set, and one that is removed goes at once
pub after_look : (t : Change) (next : Phase) → Follows phase.Look next t → (progress_in next ≡ progress.Preparing) ⊎ (progress_in next ≡ progress.Showing)
after_look t next follows = ⊎_elim
    (λ is. inl (ap progress_in follows.1 ∙ is))
    (λ is. inr (ap progress_in follows.1 ∙ is))
    (by_there t.value follows.0 t.name)
