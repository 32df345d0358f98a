use Rattle.repo_model.specs.Objects.{Stores}
use Rattle.tree_reach.proofs.Commits.{commit_all, commit_only, disk_all, disk_only, tree_all, tree_named, tree_only}
use Rattle.tree_reach.proofs.laws.trees_reach.Goals as goal

pub returns-clause-named : goal.returns-clause-named
returns-clause-named c = tree_named

pub returns-clause-tree : goal.returns-clause-tree
returns-clause-tree c = λ limits items has o. (tree_only limits items has o, tree_all limits items has o)

pub returns-clause-commit : goal.returns-clause-commit
returns-clause-commit c = λ limits items commit bytes has is o. (commit_only limits items has commit bytes is o, commit_all limits items has commit bytes is o)

pub returns-clause-disk : goal.returns-clause-disk
returns-clause-disk c = λ d limits items commit has is o. (disk_only (Stores d) limits items commit has is o, disk_all (Stores d) limits items commit has is o)
