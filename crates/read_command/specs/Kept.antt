-- What a command knows stays so where the store gets more objects.
use Rattle.std.proofs.Common.{ℕ, List, [], ◌∷◌}
use Rattle.ost_types.specs.declared.node.NodeName.TheVariants.{Leaf}
use Rattle.ost_types.specs.declared.object.Kind.TheVariants as kind
use Rattle.ost_types.specs.declared.object.ObjName.{ObjName}
use Rattle.ost_types.specs.Path.{Path}
use Rattle.ost_forms.specs.Commit.{CommitParts}
use Rattle.repo_model.specs.Objects.{IsMap, Store}
use Rattle.repo_model.specs.Trees.{HasCommit, name_of}
use Rattle.repo_model.proofs.Grown.{tree_up}
use Rattle.tree_read.specs.Order.{IsOwner}
use Rattle.tree_read.specs.Reading.{Knows, Reading}
use Rattle.script.specs.declared.rows.LogRow.{LogRow}
use Rattle.read_command.specs.declared.cat.Cat.{Cat}
use Rattle.read_command.specs.declared.cat.Place.{Place}
use Rattle.read_command.specs.declared.cat.Place.TheVariants as place
use Rattle.read_command.specs.declared.command.ReadCommand.{ReadCommand}
use Rattle.read_command.specs.declared.command.ReadCommand.TheVariants.{Look, Cat as CatCommand, Ls, Log, Ended}
use Rattle.read_command.specs.CatSteps.{KnowsAt}
use Rattle.read_command.specs.Chains.{IsChain}
use Rattle.read_command.specs.Commands as command
use Rattle.read_command.specs.Onward.{names_up, recalls_up, walked_up, way_up}

module _ (S T : Store) (more : (name : ObjName) (b : List ℕ) → S name b → T name b) where
  commit_up : (sum : List ℕ) (c : CommitParts) → HasCommit S sum c → HasCommit T sum c
  commit_up sum c has = record { bytes = has.bytes; stored = more (name_of kind.Commit sum) has.bytes has.stored; reads = has.reads }

  pub chain_up : (commit : List ℕ) (rows : List LogRow) (next : List ℕ) → IsChain S commit rows next → IsChain T commit rows next
  unfolding IsChain
  chain_up commit [] next is = is
  chain_up commit (r ∷ rows) next (c, has, named, time, subject, chain) = (c, commit_up commit c has, named, time, subject, chain_up c.parent rows next chain)

module _ (S T : Store) (one : IsMap T) (more : (name : ObjName) (b : List ℕ) → S name b → T name b) where
  owner_up : (content : ℕ) (tree meta : List ℕ) (p : Path) (o : ObjName) → IsOwner S content tree meta p o → IsOwner T content tree meta p o
  owner_up content tree meta [] o owner = owner
  owner_up content tree meta (x ∷ rest) o owner = (owner.0, owner.1, owner.2, names_up S T more one content tree meta owner.0 o owner.3, owner.4)

  pub reading_up : (t : Reading) → Knows S t → Knows T t
  reading_up t k = record {
    parts = k.parts;
    has = commit_up S T more t.commit k.parts k.has;
    walked = walked_up S T more one t.limits.content k.parts.tree k.parts.meta t.found t.pending k.walked;
    owned = λ i among. owner_up t.limits.content k.parts.tree k.parts.meta i.path (name_of kind.DirTree i.owner) (k.owned i among);
    line = k.line;
    ascending = k.ascending;
    short = k.short;
    few = k.few;
    recalls = recalls_up S T more one t.limits.content k.parts.tree k.parts.meta t.remembered k.recalls;
  }

  cat_up : (at : Place) (c : Cat) → KnowsAt at S c → KnowsAt at T c
  cat_up place.Commit c k = k
  cat_up (place.Folder tree meta depth) c k = record {
    deep = k.deep;
    parts = k.parts;
    here = commit_up S T more c.commit k.parts k.here;
    way = way_up S T more one c.limits.content k.parts.tree k.parts.meta _ tree meta k.way;
  }
  cat_up (place.File sum) c k = tree_up S T more c.commit c.path (Leaf sum) k

  pub knows_up : (t : ReadCommand) → command.Knows S t → command.Knows T t
  knows_up (Look l) k = tt
  knows_up (CatCommand c) k = cat_up c.place c k
  knows_up (Ls s) k = λ begun. reading_up s.task (k begun)
  knows_up (Log g) k = chain_up S T more g.commit g.rows.items g.next k
  knows_up (Ended a) k = k
