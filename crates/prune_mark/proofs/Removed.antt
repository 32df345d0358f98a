-- Once all is marked, the names without a mark are what isn't reachable.
use Rattle.std.proofs.Common.{⊎_elim, inl, inr, List, Result, Ok, Err}
use Rattle.std.specs.Prelude.{Contains, IfOk}
use Rattle.ost_types.specs.declared.object.ObjName.{ObjName}
use Rattle.fs_trait.specs.View.{Disk}
use Rattle.repo_model.specs.Objects.{Stores}
use Rattle.reach.specs.Lines.{Reachable}
use Rattle.reach.specs.Marking.{AreDoomed}
use Rattle.reach.specs.Reach.{IsIn}
use Rattle.store_check.specs.Listing.{AreAll}
use Rattle.prune_mark.specs.Doomed.{AreUnmarked}
use Rattle.prune_mark.specs.Marking.{MarksAll, State}
use Rattle.prune_mark.proofs.Downs.{doomed_exact, marked_or_listed}
use Rattle.prune_mark.proofs.Steps.{in_store}

module _ (d : Disk) (roots : List ObjName) (m : State) (all : AreAll d m.names) (sound : (o : ObjName) → Contains m.names o → IsIn (Stores d) o) (marks : MarksAll d roots m) where
  unmarked_doomed : (doomed : List ObjName) → AreUnmarked m.names m.flags doomed → AreDoomed (Stores d) (Reachable (Stores d) (Contains roots) m.depth) (Contains doomed)
  unmarked_doomed doomed are = record {
    each = λ o has.
        let out = (doomed_exact m.names m.flags doomed are all.ascending o).0 has in
        let there = sound o out.0 in
        (there, λ reached. out.1 ((marks.exact o there).1 reached));
    all = λ o there. ⊎_elim (λ marked. inl ((marks.exact o there).0 marked)) (λ has. inr has) (marked_or_listed m.names m.flags doomed are o (in_store d m.names all o there));
  }

  pub if_unmarked : {T E : Type 0} (items : T → List ObjName) (r : Result T E) → IfOk r (λ v. AreUnmarked m.names m.flags (items v)) → IfOk r (λ v. AreDoomed (Stores d) (Reachable (Stores d) (Contains roots) m.depth) (Contains (items v)))
  if_unmarked items (Ok v) are = unmarked_doomed (items v) are
  if_unmarked items (Err e) are = tt
