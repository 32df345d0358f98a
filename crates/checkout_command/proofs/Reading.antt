-- What is known once all was read.
use Rattle.std.proofs.Common.{◌≡◌, ◌≤◌, ◌+◌, ◌*◌, ◌⊎◌, inl, inr, ℕ, Bool, true, false, List, [], ◌∷◌, length, Option, Some, None, Result, Ok, Err, arith, refl, sym, ◌∙◌, ap, subst}
use Rattle.std.specs.Prelude.{◌↔◌, IsTrue}
use Rattle.ost_types.specs.declared.limits.Limits.{Limits}
use Rattle.ost_types.specs.declared.object.ObjName.{ObjName}
use Rattle.ost_types.specs.Path.{Path}
use Rattle.ost_types.specs.PathMap.{Nodes, IsPathMap}
use Rattle.fs_trait.specs.declared.task.StepResult.{StepResult}
use Rattle.fs_trait.specs.declared.task.StepResult.TheVariants as turn
use Rattle.fs_trait.specs.View.{Disk, View}
use Rattle.repo_layout.specs.BootPaths.{checkout_path}
use Rattle.repo_model.specs.Whole.{Complete}
use Rattle.tree_read.specs.declared.fault.TreeFault.{TreeFault}
use Rattle.tree_read.specs.declared.fault.TreeFault.TheVariants as fault
use Rattle.tree_read.specs.declared.item.Item.{Item}
use Rattle.tree_read.specs.declared.item.Named.{Named}
use Rattle.tree_read.specs.declared.item.Named.TheVariants.{Folder, Attributes, File}
use Rattle.tree_read.specs.Reading.{IsSoFar, Knows, Reading, TellsIn, left_in, left_of, weight, weight_of}
use Rattle.tree_read.proofs.Steps.{whole_in}
use Rattle.tree_walk.specs.Standing.{AreRight, Standing}
use Rattle.tree_walk.proofs.Rightly.{absent_found, damaged_found}
use Rattle.tree_walk.proofs.Standings.{standing_map}
use Rattle.checkout.specs.CheckoutWork.{IsPlaced, beginning}
use Rattle.commit_checkout.specs.TreeFolder.{HasRoomBelow, IsTreeOf}
use Rattle.commit_checkout.proofs.TreeMaps.{tree_placed}
use Rattle.read_command.specs.Answers.{IsFirstAbsent, IsFirstDamaged}
use Rattle.checkout_command.specs.declared.answer.CheckoutAnswer.{CheckoutAnswer}
use Rattle.checkout_command.specs.declared.answer.CheckoutAnswer.TheVariants as answer
use Rattle.checkout_command.specs.declared.command.CheckoutCommand.{CheckoutCommand}
use Rattle.checkout_command.specs.declared.command.CheckoutCommand.TheVariants as command
use Rattle.checkout_command.specs.declared.made.Made.TheVariants as made
use Rattle.checkout_command.specs.declared.make.Make.{Make}
use Rattle.checkout_command.specs.declared.request.Request.{Request}
use Rattle.checkout_command.specs.Commands.{Tells, checkout_leaves, goes, turn_of}
use Rattle.checkout_command.specs.Reads.{Reads}
use Rattle.checkout_command.specs.ReadSteps.{CanMake, IsToMake, Lacks, ReadEnds, ReadKnows, ReadTells}

abbrev Turned : Type 0
Turned = StepResult (Result (Unit {0}) TreeFault)

module _ (d : Disk) (s : Reads) (reads : ReadKnows (Standing d) s) (knows : Knows (Standing d) s.task) (none : s.task.pending ≡ []) where
  pub complete : Complete (Standing d) s.request.limits s.request.commit
  complete = subst (λ l. Complete (Standing d) l s.request.commit) reads.limits (subst (Complete (Standing d) s.task.limits) reads.commit (whole_in (Standing d) (standing_map d) s.task knows none).0)

  pub tree_is : IsTreeOf (Standing d) s.request.commit s.task.found
  tree_is = subst (λ c. IsTreeOf (Standing d) c s.task.found) reads.commit (whole_in (Standing d) (standing_map d) s.task knows none).1

  pub few : length s.task.found ≤ s.request.limits.paths
  few = subst (λ (l : Limits). length s.task.found ≤ l.paths) reads.limits knows.few

  pub placed : (into : Path) → IsPathMap s.task.found → HasRoomBelow into → IsPlaced into s.task.found
  placed into map room = tree_placed (Standing d) (standing_map d) s.request.limits s.request.commit s.task.found map complete tree_is into room

can_be_made : (d : Disk) (s : Reads) → ReadKnows (Standing d) s → Knows (Standing d) s.task → s.task.pending ≡ [] → (into : Path) → IsPathMap s.task.found → HasRoomBelow into → CanMake into s
can_be_made d s reads knows none into map room = record { few = few d s reads knows none; placed = placed d s reads knows none into map room }

-- so a tree that was read can be made
pub not_refused : (d : Disk) (s : Reads) (into : Path) (b : Bool) → (IsTrue b ↔ CanMake into s) → b ≡ false → IsPathMap s.task.found → HasRoomBelow into → ReadKnows (Standing d) s → Knows (Standing d) s.task → s.task.pending ≡ [] → ⊥
not_refused d s into b iff off map room reads knows none =
    let on : true ≡ false = sym (iff.1 (can_be_made d s reads knows none into map room)) ∙ off in
    cc

to_make_by : (d : Disk) (s : Reads) → ReadKnows (Standing d) s → Knows (Standing d) s.task → s.task.pending ≡ [] → (request : Request) (into : Path) (tree : Nodes) → request ≡ s.request → into ≡ checkout_path s.request.name → tree ≡ s.task.found → IsPathMap tree → IsPlaced into s.task.found
    → IsToMake d s.request (record { request = request; task = beginning into tree; made = made.Nothing })
to_make_by d s reads knows none request into tree asked at found map fits = record {
  request = asked;
  made = refl;
  task = ap (λ p. beginning p tree) at;
  map = map;
  placed = subst (λ p. IsPlaced p tree) at (subst (IsPlaced into) (sym found) fits);
  whole = complete d s reads knows none;
  tree = subst (IsTreeOf (Standing d) s.request.commit) (sym found) (tree_is d s reads knows none);
}

pub to_make : (d : Disk) (inside old : Reads) → inside ≡ old → ReadKnows (Standing d) old → Knows (Standing d) old.task → old.task.pending ≡ [] → (request : Request) (into : Path) (tree : Nodes) (m : Make) → m ≡ record { request = request; task = beginning into tree; made = made.Nothing }
    → request ≡ inside.request → into ≡ checkout_path inside.request.name → tree ≡ old.task.found → IsPathMap tree → CanMake into old → IsToMake d old.request m
to_make d inside old same reads knows none request into tree m is asked at found map can =
    subst (IsToMake d old.request) (sym is)
    (to_make_by d old reads knows none request into tree (asked ∙ ap (λ (s : Reads). s.request) same) (at ∙ ap (λ (s : Reads). checkout_path s.request.name) same) found map can.placed)

-- ---- how the command goes on

goes_as : (s : Reads) (v : View) (t new : CheckoutCommand) (u : StepResult (Unit {0})) → (u ≡ turn_of t) × (new ≡ t) → checkout_leaves (command.Read s) (turn_of t) t v v → checkout_leaves (command.Read s) u new v v
goes_as s v t new u goes leaves = subst (λ x. checkout_leaves (command.Read s) x new v v) (sym goes.0) (subst (λ x. checkout_leaves (command.Read s) (turn_of t) x v v) (sym goes.1) leaves)

ended_after : (s : Reads) (v : View) (a : CheckoutAnswer) → Tells (command.Read s) v.now a → checkout_leaves (command.Read s) (turn.Done tt) (command.Ended a) v v
ended_after s v a told = (refl, a, refl, told)

pub read_after : (s n : Reads) (v : View) (o : Option CheckoutCommand) (u : StepResult (Unit {0})) (new : CheckoutCommand) → ReadTells v.now s n o → goes o (command.Read n) u new → checkout_leaves (command.Read s) u new v v
read_after s n v None u new told go = goes_as s v (command.Read n) new u go (refl, told.0, told.1)
read_after s n v (Some (command.Make m)) u new told go = goes_as s v (command.Make m) new u go (refl, told)
read_after s n v (Some (command.Ended (answer.Lacking p))) u new told go = goes_as s v (command.Ended (answer.Lacking p)) new u go (ended_after s v (answer.Lacking p) told)
read_after s n v (Some (command.Ended answer.Done)) u new told go = absurd told
read_after s n v (Some (command.Ended (answer.NoCommit c))) u new told go = absurd told
read_after s n v (Some (command.Ended (answer.Partial c))) u new told go = absurd told
read_after s n v (Some (command.Ended (answer.DestExists p))) u new told go = absurd told
read_after s n v (Some (command.Look r)) u new told go = absurd told
read_after s n v (Some (command.Read r)) u new told go = absurd told

-- ---- how many steps are left

weight_of_small : (x : Named) → weight_of x ≤ 1
weight_of_small (Folder tree meta) = omega arith
weight_of_small (Attributes meta) = omega arith
weight_of_small (File sum) = omega arith

weight_small : (items : List Item) → weight items ≤ 1
weight_small [] = omega arith
weight_small (i ∷ []) = weight_of_small i.named
weight_small (i ∷ j ∷ items) = weight_small (j ∷ items)

left_in_small : (begun : Bool) (paths count : ℕ) (items : List Item) → left_in begun paths count items ≤ 2 * paths + 2
left_in_small true paths count items = let w = weight_small items in omega (arith, w)
left_in_small false paths count items = omega arith

pub left_small : (t : Reading) → left_of t ≤ 2 * t.limits.paths + 2
left_small t = left_in_small t.begun t.limits.paths (length t.found) t.pending

-- ---- where an object lacks

abbrev Lacking : Disk → Limits → List ℕ → ObjName → Type 0
Lacking d limits commit o = IsFirstAbsent d limits commit o ⊎ IsFirstDamaged d limits commit o

lacking_told : (d : Disk) (old inside : Reads) (o : ObjName) (t : CheckoutCommand) → inside ≡ old → ReadKnows (Standing d) old → Lacks o t → (AreRight inside.task.limits.content d → Lacking d inside.task.limits inside.task.commit o) → ReadEnds d old t
lacking_told d old inside o t same reads is says =
    let knows : ReadKnows (Standing d) inside = subst (ReadKnows (Standing d)) (sym same) reads in
    let by_commit : AreRight inside.task.limits.content d → Lacking d inside.task.limits inside.request.commit o = subst (λ c. AreRight inside.task.limits.content d → Lacking d inside.task.limits c o) knows.commit says in
    let by_limits : AreRight inside.request.limits.content d → Lacking d inside.request.limits inside.request.commit o = subst (λ (l : Limits). AreRight l.content d → Lacking d l inside.request.commit o) knows.limits by_commit in
    let asked : AreRight old.request.limits.content d → Lacking d old.request.limits old.request.commit o = subst (λ (s : Reads). AreRight s.request.limits.content d → Lacking d s.request.limits s.request.commit o) same by_limits in
    subst (ReadEnds d old) (sym is) (λ right. (o, refl, asked right))

pub damaged_told : (d : Disk) (old inside : Reads) (r : Turned) (o : ObjName) (t : CheckoutCommand) (after : Reading) → inside ≡ old → r ≡ turn.Done (Err (fault.Damaged o)) → (IsSoFar (Standing d) inside.task → TellsIn (Standing d) d inside.task (Ok r) after) → ReadKnows (Standing d) old → Lacks o t → ReadEnds d old t
damaged_told d old inside r o t after same is tells reads lacks =
    let knows : ReadKnows (Standing d) inside = subst (ReadKnows (Standing d)) (sym same) reads in
    lacking_told d old inside o t same reads lacks (λ right. inr (damaged_found d inside.task.limits right inside.task.commit o (subst (λ x. TellsIn (Standing d) d inside.task (Ok x) after) is (tells knows.so_far))))

pub absent_told : (d : Disk) (old inside : Reads) (r : Turned) (o : ObjName) (t : CheckoutCommand) (after : Reading) → inside ≡ old → r ≡ turn.Done (Err (fault.Absent o)) → (IsSoFar (Standing d) inside.task → TellsIn (Standing d) d inside.task (Ok r) after) → ReadKnows (Standing d) old → Lacks o t → ReadEnds d old t
absent_told d old inside r o t after same is tells reads lacks =
    let knows : ReadKnows (Standing d) inside = subst (ReadKnows (Standing d)) (sym same) reads in
    lacking_told d old inside o t same reads lacks (λ right. inl (absent_found d inside.task.limits right inside.task.commit o (subst (λ x. TellsIn (Standing d) d inside.task (Ok x) after) is (tells knows.so_far))))
