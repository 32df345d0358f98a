-- A commit, its parent, and so on.
use Rattle.std.specs.Prelude.{◌≡◌, ◌≢◌, ◌⊎◌, ℕ, List, [], ◌∷◌}
use Rattle.ost_types.specs.declared.object.Kind.TheVariants.{Commit}
use Rattle.ost_forms.specs.Commit.{CommitParts}
use Rattle.fs_trait.specs.View.{Disk}
use Rattle.repo_model.specs.Objects.{Store, Stores}
use Rattle.repo_model.specs.Trees.{HasCommit, name_of}
use Rattle.tree_read.specs.Looks.{IsAbsent}
use Rattle.script.specs.declared.rows.LogRow.{LogRow}

-- The rows are those of this commit, its parent and so on, and the last of them has this parent: no bytes where it has none. Where
-- there is no row, it is the commit itself.
unfoldable pub IsChain : Store → List ℕ → List LogRow → List ℕ → Type 0
IsChain S commit [] next = next ≡ commit
IsChain S commit (r ∷ rows) next =
    (c : CommitParts) × HasCommit S commit c × (r.commit ≡ commit) × (r.time ≡ c.time) × (r.subject ≡ c.subject) × IsChain S c.parent rows next

-- The rows of a commit's log: they end with a commit that has no parent, or whose parent isn't there.
pub record IsLog (d : Disk) (commit : List ℕ) (rows : List LogRow) : Type 0 where
  pub some : rows ≢ []
  pub next : List ℕ
  pub chain : IsChain (Stores d) commit rows next
  pub ends : (next ≡ []) ⊎ IsAbsent d (name_of Commit next)
