-- Commits by their parents, and what is reachable from roots (OSTree manual, `ostree prune`: what no ref leads to goes, where
-- `--depth` says how many parents of each commit are followed).
use Rattle.std.specs.Prelude.{◌≡◌, ◌⊎◌, ◌<◌, ℕ, suc, List}
use Rattle.ost_types.specs.declared.object.Kind.TheVariants.{Commit}
use Rattle.ost_forms.specs.Commit.{CommitParts}
use Rattle.repo_model.specs.Objects.{Store}
use Rattle.repo_model.specs.Trees.{HasCommit, name_of}
use Rattle.reach.specs.Reach.{ObjNames, IsIn, Reach}

-- The commit is in the store, and this is its parent, which is there too.
pub record IsParent (S : Store) (commit parent : List ℕ) : Type 0 where
  pub parts : CommitParts
  pub has : HasCommit S commit parts
  pub is : parts.parent ≡ parent
  pub there : IsIn S (name_of Commit parent)

-- The commit stands so many parents, of `depth` at most, from a root.
pub data Line (S : Store) (roots : ObjNames) (depth : ℕ) : ℕ → List ℕ → Type 0 where
  root : (commit : List ℕ) → roots (name_of Commit commit) → Line S roots depth 0 commit
  parent : (k : ℕ) (commit next : List ℕ) → Line S roots depth k commit → k < depth → IsParent S commit next → Line S roots depth (suc k) next

-- it is a root, or a commit so near to one
abbrev pub Begins : Store → ObjNames → ℕ → ObjNames
Begins S roots depth o = roots o ⊎ ((k : ℕ) × (commit : List ℕ) × Line S roots depth k commit × (o ≡ name_of Commit commit))

-- It is reached from one of these: what a prune to this depth leaves.
abbrev pub Reachable : Store → ObjNames → ℕ → ObjNames
Reachable S roots depth = Reach S (Begins S roots depth)
