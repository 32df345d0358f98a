-- The way down from one folder to another.
use Rattle.std.specs.Prelude.{◌≡◌, List, ℕ, [], ◌∷◌}
use Rattle.ost_types.specs.Path.{Path}
use Rattle.ost_forms.specs.DirTree.{Entries}
use Rattle.repo_model.specs.Objects.{Store}
use Rattle.repo_model.specs.Trees.{HasEntries, HasFolder}

-- Below the folder of two objects the path is that of the folder of these two, and the entries of each folder above it are in
-- the store.
unfoldable pub Way : Store → List ℕ → List ℕ → Path → List ℕ → List ℕ → Type 0
Way S tree meta [] t m = (t ≡ tree) × (m ≡ meta)
Way S tree meta (x ∷ p) t m =
    (e : Entries) × HasEntries S tree e × (u : List ℕ) × (n : List ℕ) × HasFolder e x u n × Way S u n p t m
