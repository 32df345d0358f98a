-- When a commit is whole: nothing that it names is missing or misread, and its tree keeps the bounds.
use Rattle.std.specs.Prelude.{◌≤◌, ℕ, List, length, Contains}
use Rattle.ost_types.specs.declared.limits.Limits.{Limits}
use Rattle.ost_types.specs.declared.node.NodeName.{NodeName}
use Rattle.ost_types.specs.declared.object.ObjName.{ObjName}
use Rattle.ost_types.specs.Path.{Path, text_of}
use Rattle.ost_forms.specs.Commit.{CommitParts}
use Rattle.repo_model.specs.Objects.{Store, Has}
use Rattle.repo_model.specs.Trees.{HasCommit, Shows, Names}

-- at most so many paths show something
pub record HasFew (most : ℕ) (S : Store) (tree meta : List ℕ) : Type 0 where
  pub paths : List Path
  pub few : length paths ≤ most
  pub all : (p : Path) (n : NodeName) → Shows S tree meta p n → Contains paths p

-- The commit is in the store, and so is each object that a way down from its root names; each reads as its kind. So many paths
-- at most show something, of at most 64 names and 1,024 bytes each. Its parent isn't asked for.
pub record Complete (S : Store) (limits : Limits) (commit : List ℕ) : Type 0 where
  pub parts : CommitParts
  pub here : HasCommit S commit parts
  pub objects : (p : Path) (o : ObjName) → Names S parts.tree parts.meta p o → Has S limits.content o
  pub few : HasFew limits.paths S parts.tree parts.meta
  pub short : (p : Path) (n : NodeName) → Shows S parts.tree parts.meta p n → (length p ≤ 64) × (length (text_of p) ≤ 1024)
