-- A commit of which a walk tells that an object is missing or damaged isn't whole.
use Rattle.std.proofs.Common.{◌≡◌, ◌⊎◌, inl, inr, ⊎_elim, ℕ, List, [], ◌∷◌, Ok, Err, sym, subst}
use Rattle.ost_types.specs.declared.limits.Limits.{Limits}
use Rattle.ost_types.specs.declared.object.Kind.TheVariants as kind
use Rattle.ost_types.specs.declared.object.ObjName.{ObjName}
use Rattle.ost_types.specs.Path.{Path}
use Rattle.ost_types.specs.PathMap.{Nodes, IsPathMap}
use Rattle.ost_forms.specs.Commit.{CommitParts}
use Rattle.fs_trait.specs.declared.task.StepResult.TheVariants as turn
use Rattle.fs_trait.specs.View.{Disk}
use Rattle.repo_model.specs.Objects.{Has, Stores}
use Rattle.repo_model.specs.Trees.{HasCommit, Names, name_of}
use Rattle.repo_model.specs.Whole.{Complete}
use Rattle.store_check.proofs.Excluded.{absent_has, complete_has, complete_names, complete_sound, damaged_has}
use Rattle.tree_read.specs.declared.fault.TreeFault.{TreeFault}
use Rattle.tree_read.specs.declared.fault.TreeFault.TheVariants as fault
use Rattle.tree_read.specs.Looks.{IsAbsent, IsDamaged}
use Rattle.tree_read.specs.Order.{AbsentIn, ArePathsBefore, DamagedIn, FirstDamaged, HasTooMany, IsKept, IsMet, IsOwner, NamesFar, StopsAt}
use Rattle.tree_read.specs.Reading.{Reading, TellsIn}
use Rattle.tree_read.specs.Whole.{AtCommitIn, IsTree}
use Rattle.tree_read.proofs.Steps.{whole_in}
use Rattle.tree_walk.specs.Standing.{Standing}
use Rattle.tree_walk.proofs.Alike.{commit_up, far_up, names_up}
use Rattle.tree_walk.proofs.Rightly.{folders_down, folders_up}
use Rattle.tree_walk.proofs.Standings.{standing_map}
use Rattle.deployment_check.specs.Deployments.{IsWholeTree}

module _ (limits : Limits) (d : Disk) (commit : List ℕ) (whole : Complete (Stores d) limits commit) (c : CommitParts) (has : HasCommit (Standing d) commit c) where
  up : (p : Path) (o : ObjName) → Names (Standing d) c.tree c.meta p o → Names (Stores d) c.tree c.meta p o
  up = names_up (Standing d) (Stores d) (folders_up d) c.tree c.meta

  down : (p : Path) (o : ObjName) → Names (Stores d) c.tree c.meta p o → Names (Standing d) c.tree c.meta p o
  down = names_up (Stores d) (Standing d) (folders_down d) c.tree c.meta

  commit_here : HasCommit (Stores d) commit c
  commit_here = commit_up (Standing d) (Stores d) (folders_up d) commit c has

  object_here : (p : Path) (o : ObjName) → Names (Stores d) c.tree c.meta p o → Has (Stores d) limits.content o
  object_here = complete_names d limits commit whole c commit_here

  -- where all objects are there, what is wrong by the one store is wrong by the other
  kept_here : (p : Path) (o : ObjName) → Names (Stores d) c.tree c.meta p o → IsKept (Standing d) limits.content p o → IsKept (Stores d) limits.content p o
  kept_here p o named kept = record {
    has = object_here p o named;
    short = λ folder far. kept.short folder (far_up (Stores d) (Standing d) (folders_down d) o.csum p far);
  }

  met_here : (p : Path) → IsMet (Standing d) limits.content c.tree c.meta p → IsMet (Stores d) limits.content c.tree c.meta p
  met_here p met = (met.0, up p met.0 met.1)

  before_here : (p : Path) (paths : List Path) → ArePathsBefore (Standing d) limits.content c.tree c.meta p paths → ArePathsBefore (Stores d) limits.content c.tree c.meta p paths
  before_here p paths before = record {
    ascending = before.ascending;
    met = λ q among. (let met = before.met q among in (met_here q met.0, met.1));
    all = λ q met less. before.all q (met.0, down q met.0 met.1) less;
  }

  owner_here : (p : Path) (o : ObjName) → IsOwner (Standing d) limits.content c.tree c.meta p o → IsOwner (Stores d) limits.content c.tree c.meta p o
  owner_here [] o owner = owner
  owner_here (x ∷ rest) o owner = (owner.0, owner.1, owner.2, up owner.0 o owner.3, owner.4)

  Wrong : ObjName → Path → Type 0
  Wrong o at = IsDamaged d limits.content o ⊎ ((o.kind ≡ kind.DirTree) × NamesFar (Stores d) o.csum at)

  far_here : (o : ObjName) (stops : StopsAt (Standing d) limits c.tree c.meta o (λ at. IsDamaged d limits.content o ⊎ ((o.kind ≡ kind.DirTree) × NamesFar (Standing d) o.csum at)))
      → (o.kind ≡ kind.DirTree) × NamesFar (Standing d) o.csum stops.at → FirstDamaged d limits c.tree c.meta o
  far_here o stops far = inl (record {
    at = stops.at;
    paths = stops.paths;
    named = up stops.at o stops.named;
    kept = λ q a named early. kept_here q a named (stops.kept q a (down q a named) early);
    before = before_here stops.at stops.paths stops.before;
    few = stops.few;
    wrong = inr (far.0, far_up (Standing d) (Stores d) (folders_up d) o.csum stops.at far.1);
  })

  many_here : (o : ObjName) → HasTooMany (Standing d) limits c.tree c.meta o → FirstDamaged d limits c.tree c.meta o
  many_here o many = inr (record {
    at = many.at;
    paths = many.paths;
    met = met_here many.at many.met;
    owner = owner_here many.at o many.owner;
    kept = λ q a named less. kept_here q a named (many.kept q a (down q a named) less);
    before = before_here many.at many.paths many.before;
    full = many.full;
  })

  sound : (o : ObjName) → FirstDamaged d limits c.tree c.meta o → ⊥
  sound o first = complete_sound d limits commit whole o (inr (c, commit_here, first))

  pub none_absent : (o : ObjName) → AbsentIn (Standing d) d limits c.tree c.meta o → ⊥
  none_absent o stops = absent_has d limits.content o stops.wrong (object_here stops.at o (up stops.at o stops.named))

  pub none_damaged : (o : ObjName) → DamagedIn (Standing d) d limits c.tree c.meta o → ⊥
  none_damaged o (inl stops) = ⊎_elim
      (λ bad. damaged_has d limits.content o bad.0 bad.1 (object_here stops.at o (up stops.at o stops.named)))
      (λ far. sound o (far_here o stops far))
      stops.wrong
  none_damaged o (inr many) = sound o (many_here o many)

module _ (limits : Limits) (d : Disk) (commit : List ℕ) (whole : Complete (Stores d) limits commit) where
  walk_has : (o : ObjName) → AtCommitIn (Standing d) commit ((o ≡ name_of kind.Commit commit) × IsAbsent d o) (λ tree meta. AbsentIn (Standing d) d limits tree meta o) → ⊥
  walk_has o (inl itself) = complete_has d limits commit whole o (inl itself)
  walk_has o (inr (c, has, first)) = none_absent limits d commit whole c has o first

  walk_sound : (o : ObjName) → AtCommitIn (Standing d) commit ((o ≡ name_of kind.Commit commit) × IsDamaged d limits.content o) (λ tree meta. DamagedIn (Standing d) d limits tree meta o) → ⊥
  walk_sound o (inl itself) = complete_sound d limits commit whole o (inl itself)
  walk_sound o (inr (c, has, first)) = none_damaged limits d commit whole c has o first

-- whatever the walk tells at its end but the tree
pub incomplete : (d : Disk) (old new : Reading) (f : TreeFault) → TellsIn (Standing d) d old (Ok (turn.Done (Err f))) new → Complete (Stores d) old.limits old.commit → ⊥
incomplete d old new (fault.Absent o) tells whole = walk_has old.limits d old.commit whole o tells
incomplete d old new (fault.Damaged o) tells whole = walk_sound old.limits d old.commit whole o tells
incomplete d old new (fault.Fs e) tells whole = tells
incomplete d old new fault.NoMemory tells whole = tells

-- ---- the end of a walk

module _ (d : Disk) (old new : Reading) (limits : Limits) (commit : List ℕ) (limits_are : old.limits ≡ limits) (commit_is : old.commit ≡ commit) where
  pub ends_incomplete : (f : TreeFault) → TellsIn (Standing d) d old (Ok (turn.Done (Err f))) new → Complete (Stores d) limits commit → ⊥
  ends_incomplete f tells whole =
      incomplete d old new f tells (subst (λ (l : Limits). Complete (Stores d) l old.commit) (sym limits_are) (subst (Complete (Stores d) limits) (sym commit_is) whole))

  pub ends_whole : TellsIn (Standing d) d old (Ok (turn.Done (Ok tt))) new → (tree : Nodes) → tree ≡ old.found → IsPathMap tree → IsWholeTree limits d commit tree
  ends_whole tells tree is map =
      let end = whole_in (Standing d) (standing_map d) old tells.0 tells.1 in
      record {
        whole = subst (λ (l : Limits). Complete (Standing d) l commit) limits_are (subst (Complete (Standing d) old.limits) commit_is end.0);
        shown = subst (λ c. IsTree (Standing d) c tree) commit_is (subst (IsTree (Standing d) old.commit) (sym is) end.1);
        map = map;
      }
