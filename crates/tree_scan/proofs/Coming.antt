-- From what a look found to what a step tells of the disk.
use Rattle.std.proofs.Common.{◌≡◌, sym, ◌∙◌, ap, subst, List, [], ◌∷◌, ◌++◌, reverse, Option, Some, None, Result, Ok, Err}
use Rattle.std.specs.Prelude.{option_to_list}
use Rattle.ost_types.specs.declared.limits.Limits.{Limits}
use Rattle.ost_types.specs.declared.node.NodeName.TheVariants as node
use Rattle.ost_types.specs.Path.{Path, IsPath}
use Rattle.ost_types.specs.PathMap.{Nodes, IsAscending, paths_of}
use Rattle.fs_trait.specs.declared.task.StepResult.{StepResult}
use Rattle.fs_trait.specs.declared.task.StepResult.TheVariants.{More, Done}
use Rattle.fs_trait.specs.View.{Disk}
use Rattle.fs_trait.specs.Image.{IsTree}
use Rattle.fs_trait.specs.Seen.{shows}
use Rattle.tree_scan.specs.Faults.{IsFault, IsUnreadable}
use Rattle.tree_scan.specs.Looking.{HasNode, Tells}
use Rattle.tree_scan.specs.Scanning.{Scanning}
use Rattle.tree_scan.specs.SoFar.{IsSoFar}
use Rattle.tree_scan.specs.Steps.{Came, Goes, IsNext, StepTells}
use Rattle.tree_scan.specs.declared.fault.ScanFault.{ScanFault}
use Rattle.tree_scan.specs.declared.look.Looked.{Looked}
use Rattle.tree_scan.specs.declared.look.Looked.TheVariants as looks
use Rattle.tree_scan.proofs.Ending.{no_fault, root_there, scan_done, scan_tree}
use Rattle.tree_scan.proofs.Orders.{ascending_more}
use Rattle.tree_scan.proofs.Passing.{state, leaf_known, passed_known}
use Rattle.tree_scan.proofs.Reading.{folder_known}
use Rattle.tree_scan.proofs.Stopping.{stops_told}
use Rattle.tree_scan.proofs.Trees.{leaf_no_folder}

module _ (d : Disk) (tree : IsTree d) (at : Path) (limits : Limits) (found : Nodes) (p : Path) (rest : List Path) (so : IsSoFar d (state at limits (p ∷ rest) found)) where
  goes_known : IsPath (at ++ p) → (l : Looked) → HasNode l → Tells d (at ++ p) limits.content l → (new : Scanning) → Goes (state at limits (p ∷ rest) found) p l new → IsSoFar d new
  goes_known path looks.Nothing fit tells new (inner, is) = subst (IsSoFar d) (sym is) (passed_known d tree at limits found p rest so inner tells)
  goes_known path (looks.Folder m names) mode tells new goes = subst (IsSoFar d) (sym goes.is) (folder_known d tree at limits found p rest so m names tells.0 tells.1 (record { readable = λ bad. subst (IsUnreadable limits.content) tells.0 bad mode; path = path }) goes.some)
  goes_known path looks.OddFolder fit tells new goes = absurd goes
  goes_known path (looks.Leaf sum) fit tells new (inner, goes) =
      subst (IsSoFar d) (sym goes.is) (leaf_known d tree at limits found p rest so inner (node.Leaf sum) (leaf_no_folder (shows d (at ++ p)) tells.0.leaf) tells.0 (record { readable = tells.1; path = path }) goes.some)
  goes_known path looks.OddLeaf fit tells new goes = absurd goes

  came_cons : IsPath (at ++ p) → (l : Looked) → HasNode l → Tells d (at ++ p) limits.content l → (turn : StepResult (Result (Unit {0}) ScanFault)) (new : Scanning)
      → Came (state at limits (p ∷ rest) found) p l turn new → StepTells d (state at limits (p ∷ rest) found) (Ok turn) new
  came_cons path l fit tells More new came = goes_known path l fit tells new came
  came_cons path l fit tells (Done (Ok answer)) new came = absurd came
  came_cons path l fit tells (Done (Err fault)) new (stops, is) =
      subst (λ (t : Scanning). IsFault d t.at t.limits t.found fault) (sym is) (stops_told d at limits found p rest so l tells fault stops)

-- what a look tells, once the step was done
pub came_told : (d : Disk) → IsTree d → (t new : Scanning) (p : Path) → IsNext t p → IsSoFar d t → (l : Looked) (at : Path) → at ≡ t.at ++ p → IsPath at → HasNode l → Tells d at t.limits.content l
    → (turn : StepResult (Result (Unit {0}) ScanFault)) → Came t p l turn new → StepTells d t (Ok turn) new
came_told d tree t new p (rest, waits) so l at is path fit tells turn came =
    subst
    (λ todo. IsSoFar d (state t.at t.limits todo t.found) → Came (state t.at t.limits todo t.found) p l turn new → StepTells d (state t.at t.limits todo t.found) (Ok turn) new)
    (sym waits)
    (λ known came. came_cons d tree t.at t.limits t.found p rest known (subst IsPath is path) l fit (subst (λ q. Tells d q t.limits.content l) is tells) turn new came)
    so came

-- nothing waits any more
pub ended_told : (d : Disk) → IsTree d → (t : Scanning) → t.todo ≡ [] → IsAscending (paths_of t.found) → IsSoFar d t → StepTells d t (Ok (Done (Ok tt))) t
ended_told d tree t none ascending so =
    let known : IsSoFar d (state t.at t.limits [] t.found) = subst (λ todo. IsSoFar d (state t.at t.limits todo t.found)) none so in
    let scan = scan_done d t.at t.limits t.found ascending known in
    (scan, scan_tree d t.at t.found tree (root_there d t.at t.limits t.found ascending known) scan, no_fault d t.at t.limits t.found ascending known)

-- where the disk is told, the next path may be read
pub may_push : (d : Disk) (t : Scanning) (p : Path) → IsNext t p → IsAscending (paths_of t.found) → IsSoFar d t → IsAscending (paths_of t.found ++ p ∷ [])
may_push d t p (rest, waits) ascending so =
    let known : IsSoFar d (state t.at t.limits (p ∷ rest) t.found) = subst (λ todo. IsSoFar d (state t.at t.limits todo t.found)) waits so in
    ascending_more (paths_of t.found) p ascending known.after.0

-- ---- the next path, as the code keeps it

pub nothing_next : (next : Option Path) (after : List Path) → next ≡ None → (next ≡ None → after ≡ []) → option_to_list next ++ reverse after ≡ []
nothing_next next after none ended = ap (λ o. option_to_list o ++ reverse after) none ∙ ap reverse (ended none)

pub is_next : (t : Scanning) (next : Option Path) (after : List Path) (x p : Path) → option_to_list next ++ reverse after ≡ t.todo → next ≡ Some x → p ≡ x → IsNext t p
is_next t next after x p shows is same = (reverse after, sym shows ∙ ap (λ o. option_to_list o ++ reverse after) is ∙ ap (λ q. q ∷ reverse after) (sym same))

pub some_next : (t : Scanning) (p : Path) → IsNext t p → (next : Option Path) (after : List Path) → option_to_list next ++ reverse after ≡ t.todo → (next ≡ None → after ≡ []) → next ≡ None → ⊥
some_next t p (rest, waits) next after shows ended none = let n : [] ≡ p ∷ rest = sym (nothing_next next after none ended) ∙ shows ∙ waits in cc
