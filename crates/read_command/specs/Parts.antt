-- What a command knows of a store holds in a part of it that has the commit, and all that its objects name.
use Rattle.std.proofs.Common.{ℕ, List, [], ◌∷◌, subst}
use Rattle.std.specs.List.{AllByRecursion}
use Rattle.ost_types.specs.declared.object.Kind.TheVariants as kind
use Rattle.ost_types.specs.declared.object.ObjName.{ObjName}
use Rattle.ost_types.specs.Path.{Path}
use Rattle.repo_model.specs.Objects.{Store}
use Rattle.repo_model.specs.Trees.{name_of}
use Rattle.reach.specs.Reach.{ObjNames, Refers}
use Rattle.reach.specs.Removed.{Part}
use Rattle.reach.proofs.Parts.{entries_part, folder_part}
use Rattle.script.specs.declared.rows.LogRow.{LogRow}
use Rattle.read_command.specs.Chains.{IsChain}
use Rattle.read_command.specs.Ways.{Way}

module _ (S : Store) (keep : ObjNames) (closed : (o next : ObjName) → keep o → Refers S o next → keep next) where
  pub way_part : (tree meta : List ℕ) (p : Path) (t m : List ℕ) → keep (name_of kind.DirTree tree) → Way S tree meta p t m → Way (Part S keep) tree meta p t m
  unfolding Way
  way_part tree meta [] t m k way = way
  way_part tree meta (x ∷ p) t m k (e, has, u, n, folder, way) =
      (e, entries_part S keep closed tree e k has, u, n, folder, way_part u n p t m (folder_part S keep closed tree x e u n k has folder).0 way)

  -- of a chain each commit is to be kept: none names its parent as one of its objects
  pub chain_part : (commit : List ℕ) (rows : List LogRow) (next : List ℕ) → AllByRecursion (λ r. keep (name_of kind.Commit r.commit)) rows → IsChain S commit rows next → IsChain (Part S keep) commit rows next
  unfolding IsChain
  chain_part commit [] next kept chain = chain
  chain_part commit (r ∷ rows) next kept (c, has, named, time, subject, chain) = (
    c,
    record { bytes = has.bytes; stored = (has.stored, subst (λ s. keep (name_of kind.Commit s)) named kept.0); reads = has.reads },
    named,
    time,
    subject,
    chain_part c.parent rows next kept.1 chain,
  )
