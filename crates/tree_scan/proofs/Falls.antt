-- Each step that isn't the last leaves fewer steps.
use Rattle.std.proofs.Common.{◌≡◌, ℕ, ◌<◌, ◌+◌, ◌-◌, ◌*◌, arith, sym, ◌∙◌, ap, subst, List, [], ◌∷◌, ◌++◌, drop, length, length-append, map, Result, Ok}
use Rattle.ost_types.specs.declared.node.NodeName.{NodeName}
use Rattle.ost_types.specs.declared.node.NodeName.TheVariants as node
use Rattle.ost_types.specs.Path.{Path, under}
use Rattle.fs_trait.specs.declared.task.StepResult.{StepResult}
use Rattle.fs_trait.specs.declared.task.StepResult.TheVariants.{More, Done}
use Rattle.tree_scan.specs.Scanning.{Scanning, OnMore, left, passed, taken}
use Rattle.tree_scan.specs.Steps.{Came, Goes, IsNext, Takes}
use Rattle.tree_scan.specs.declared.fault.ScanFault.{ScanFault}
use Rattle.tree_scan.specs.declared.look.Looked.{Looked}
use Rattle.tree_scan.specs.declared.look.Looked.TheVariants as looks

less_left : (paths read more rest : ℕ) → read < paths → more + (rest + 1) < 18446744073709551616 → (paths - (read + 1)) * 18446744073709551616 + (more + rest) < (paths - read) * 18446744073709551616 + (rest + 1)
less_left paths read more rest some few =
    let e : paths - read ≡ paths - (read + 1) + 1 = omega (arith, some) in
    rw e (omega (arith, few))

module _ (t : Scanning) (p : Path) (rest : List Path) (waits : t.todo ≡ p ∷ rest) where
  count : length t.todo ≡ length rest + 1
  count = ap length waits ∙ (omega arith)

  rest_is : drop 1 t.todo ≡ rest
  rest_is = ap (drop 1) waits

  passed_less : left (passed t) < left t
  passed_less = let c = count in let r : length (drop 1 t.todo) ≡ length rest = ap length rest_is in omega (arith, c, r)

  taken_less : (n : NodeName) (below : List Path) (new : Scanning) → Takes t below (taken p n below t) new → left new < left t
  taken_less n below new takes =
      let c = count in
      let r : length (below ++ drop 1 t.todo) ≡ length below + length rest = length-append below (drop 1 t.todo) ∙ ap (λ k. length below + k) (ap length rest_is) in
      let f : length (t.found ++ (p, n) ∷ []) ≡ length t.found + 1 = length-append t.found ((p, n) ∷ []) in
      let few : length below + (length rest + 1) < 18446744073709551616 = subst (λ k. length below + k < 18446744073709551616) c takes.few in
      let less = less_left t.limits.paths (length t.found) (length below) (length rest) takes.some few in
      subst (λ (u : Scanning). left u < left t) (sym takes.is) (rw (r, f, c) less)

  goes_less : (l : Looked) (new : Scanning) → Goes t p l new → left new < left t
  goes_less looks.Nothing new (inner, is) = subst (λ (u : Scanning). left u < left t) (sym is) passed_less
  goes_less (looks.Folder m names) new goes = taken_less (node.Folder m) (map (under p) names) new goes
  goes_less looks.OddFolder new goes = absurd goes
  goes_less (looks.Leaf sum) new (inner, goes) = taken_less (node.Leaf sum) [] new goes
  goes_less looks.OddLeaf new goes = absurd goes

pub came_falls : (E : Type 0) (t new : Scanning) (p : Path) → IsNext t p → (l : Looked) (turn : StepResult (Result (Unit {0}) ScanFault)) → Came t p l turn new
    → OnMore {E = E} (Ok turn) (left new < left t)
came_falls E t new p (rest, waits) l More came = goes_less t p rest waits l new came
came_falls E t new p next l (Done answer) came = tt
