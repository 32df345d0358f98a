-- What a step that makes the tree leaves of the task, and where it writes.
use Rattle.std.proofs.Common.{◌≡◌, ◌≢◌, ℕ, zero, suc, ◌<◌, ◌+◌, Bool, true, false, [], ◌∷◌, ◌++◌, length, take, append-nil, Some, None, Ok, Err, if◌then◌else◌, refl, sym, ◌∙◌, ap, subst, arith}
use Rattle.std.specs.Prelude.{nat_lt}
use Rattle.ost_types.specs.declared.meta.Meta.{Meta}
use Rattle.ost_types.specs.declared.node.NodeName.TheVariants.{Folder}
use Rattle.ost_types.specs.Path.{Name, Path, same_path}
use Rattle.ost_types.specs.PathMap.{Nodes, IsPathMap, node_at}
use Rattle.ost_types.proofs.Paths.{same_path-self}
use Rattle.fs_trait.specs.declared.task.StepResult.{StepResult}
use Rattle.fs_trait.specs.declared.task.StepResult.TheVariants as turn
use Rattle.fs_trait.specs.Seen.{Seen, Vacant, Directory, shows}
use Rattle.fs_trait.specs.View.{Disk, View}
use Rattle.repo_layout.specs.BootPaths.{checkout_path}
use Rattle.layout_rules.proofs.Layouts.{below_split}
use Rattle.checkout.specs.declared.checkout_phase.CheckoutPhase.{CheckoutPhase}
use Rattle.checkout.specs.declared.checkout_phase.CheckoutPhase.TheVariants as phase
use Rattle.checkout.specs.declared.checkout_phase.DestExists.{DestExists}
use Rattle.checkout.specs.CheckoutFolder.{IsCheckout, IsTreeMap, Stands}
use Rattle.checkout.specs.CheckoutWork.{Answer, Checkout, IsReached, beginning, left, steps_in}
use Rattle.checkout.specs.CheckoutSteps.{Needs, Tells, WritesOf}
use Rattle.checkout.proofs.CheckoutMaps.{root_first}
use Rattle.checkout.proofs.CheckoutStable.{checkout_lies}
use Rattle.checkout_command.specs.declared.made.Made.{Made}
use Rattle.checkout_command.specs.declared.made.Made.TheVariants as made
use Rattle.checkout_command.specs.declared.make.Make.{Make}
use Rattle.checkout_command.specs.MakeSteps.{IsFar, IsGoing, IsMadeBy, IsMaking, MakeNeeds, Makes, MakesBelow, MakesFolder, make_left, writes_by}

-- ---- which phase comes next

more_not : (x : StepResult Answer) (a : Answer) → x ≡ turn.More → x ≡ turn.Done a → ⊥
more_not x a m d = let no : turn.More ≡ turn.Done a = sym m ∙ d in cc

ok_not : (e : DestExists) (x : StepResult Answer) → x ≡ turn.Done (Err e) → (a : Unit {0}) → x ≡ turn.Done (Ok a) → ⊥
ok_not e x err a ok = let same = sym err ∙ ok in cc

-- the next pair comes, or all is made
abbrev pub Came : StepResult Answer → Checkout → Checkout → Type 0
Came turn.More t u = (n : ℕ) × (0 < n) × (u ≡ record t { phase = phase.Make n })
Came (turn.Done (Ok x)) t u = u ≡ record t { phase = phase.Ended }
Came (turn.Done (Err e)) t u = ⊥

abbrev chosen : Bool → StepResult Answer
chosen b = if b then turn.More else turn.Done (Ok tt)

came_by : (n : ℕ) (t u : Checkout) (x : StepResult Answer) (b : Bool) → x ≡ chosen b → u ≡ record t { phase = if b then phase.Make (n + 1) else phase.Ended } → Came x t u
came_by n t u turn.More true at is = (n + 1, omega arith, is)
came_by n t u turn.More false at is = absurd (more_not turn.More (Ok tt) refl at)
came_by n t u (turn.Done (Ok a)) true at is = absurd (more_not (turn.Done (Ok a)) (Ok a) at refl)
came_by n t u (turn.Done (Ok a)) false at is = is
came_by n t u (turn.Done (Err e)) true at is = absurd (more_not (turn.Done (Err e)) (Err e) at refl)
came_by n t u (turn.Done (Err e)) false at is = absurd (ok_not e (turn.Done (Err e)) refl tt at)

came_reached : (n : ℕ) (t u : Checkout) (x : StepResult Answer) → IsReached n t x u → Came x t u
came_reached n t u x is = came_by n t u x (nat_lt (n + 1) (length t.tree)) is.0 is.1

-- what is to be made wasn't refused
abbrev pub IsStep : CheckoutPhase → Type 0
IsStep phase.Begin = Unit {0}
IsStep (phase.Make n) = Unit {0}
IsStep ph = ⊥

abbrev IsGood : StepResult Answer → Type 0
IsGood (turn.Done (Err e)) = ⊥
IsGood x = Unit {0}

came_in : (ph : CheckoutPhase) (t u : Checkout) (x : StepResult Answer) → IsStep ph → IsGood x → steps_in ph t x u → Came x t u
came_in phase.Begin t u turn.More step good is = came_reached 0 t u turn.More is
came_in phase.Begin t u (turn.Done (Ok a)) step good is = came_reached 0 t u (turn.Done (Ok a)) is
came_in phase.Begin t u (turn.Done (Err e)) step good is = absurd good
came_in (phase.Make n) t u x step good is = came_reached n t u x is
came_in phase.Ended t u x step good is = absurd step
came_in phase.Refused t u x step good is = absurd step

making_step : (ph : CheckoutPhase) → IsMaking ph → IsStep ph
making_step (phase.Make n) is = tt
making_step phase.Begin is = absurd is
making_step phase.Ended is = absurd is
making_step phase.Refused is = absurd is

step_by : (k : Made) (t : Checkout) (d : Disk) → IsGoing k → IsFar k t d → IsStep t.phase
step_by made.Nothing t d going far = subst (λ (u : Checkout). IsStep u.phase) (sym far) tt
step_by made.Part t d going far = making_step t.phase far.0
step_by made.All t d going far = absurd going

good_by : (x : StepResult Answer) (k : Made) → IsMadeBy x k → IsGood x
good_by turn.More k is = tt
good_by (turn.Done (Ok a)) k is = tt
good_by (turn.Done (Err e)) k is = absurd is

pub came : (m n : Make) (v w : View) → MakeNeeds m v.now → (makes : Makes m n v w) → Came makes.turn m.task n.task
came m n v w needs makes = came_in m.task.phase m.task n.task makes.turn (step_by m.made m.task v.now makes.going needs.far) (good_by makes.turn n.made makes.made) makes.steps

-- the task goes on with the same map at the same path
came_tree : (x : StepResult Answer) (t u : Checkout) → Came x t u → (u.into ≡ t.into) × (u.tree ≡ t.tree)
came_tree turn.More t u is = (ap (λ (c : Checkout). c.into) is.2, ap (λ (c : Checkout). c.tree) is.2)
came_tree (turn.Done (Ok a)) t u is = (ap (λ (c : Checkout). c.into) is, ap (λ (c : Checkout). c.tree) is)
came_tree (turn.Done (Err e)) t u is = absurd is

pub same_task : (m n : Make) (v w : View) → MakeNeeds m v.now → Makes m n v w → (n.task.into ≡ m.task.into) × (n.task.tree ≡ m.task.tree)
same_task m n v w needs makes = came_tree makes.turn m.task n.task (came m n v w needs makes)

-- ---- the folder stands behind the first step

directory_there : (d : Disk) (into : Path) (m : Meta) → Stands d into [] (Some (Folder m)) → shows d into ≢ Vacant
directory_there d into m is none = let no : Directory m ≡ Vacant = sym (ap (shows d) (sym (append-nil into)) ∙ is) ∙ none in cc

root_taken : (tree : Nodes) (n : ℕ) (m : Meta) → IsPathMap tree → 0 < n → node_at tree [] ≡ Some (Folder m) → node_at (take n tree) [] ≡ Some (Folder m)
root_taken [] n m map some has = let no : None ≡ Some (Folder m) = has in cc
root_taken (e ∷ tree) zero m map some has = absurd (omega (arith, some))
root_taken (e ∷ tree) (suc n) m map some has =
    let first = root_first (e ∷ tree) e (Folder m) map.ascending (omega arith) refl has in
    ap (λ b. if b then Some e.1 else node_at (take n tree) []) (ap (λ p. same_path p []) first.0 ∙ same_path-self []) ∙ ap Some first.1

stands_part : (t : Checkout) (n : ℕ) (d : Disk) → IsPathMap t.tree → IsTreeMap t.tree → 0 < n → IsCheckout d t.into (take n t.tree) → shows d t.into ≢ Vacant
stands_part t n d map shape some is = directory_there d t.into shape.root.0 (subst (Stands d t.into []) (root_taken t.tree n shape.root.0 map some shape.root.1) (is []))

stands_all : (t : Checkout) (d : Disk) → IsTreeMap t.tree → IsCheckout d t.into t.tree → shows d t.into ≢ Vacant
stands_all t d shape is = directory_there d t.into shape.root.0 (subst (Stands d t.into []) shape.root.1 (is []))

far_by : (x : StepResult Answer) (t u : Checkout) (k : Made) (d : Disk) → IsPathMap t.tree → IsTreeMap t.tree → Came x t u → IsMadeBy x k → Needs u d → IsFar k u d
far_by turn.More t u k d map shape is by needs =
    let now : Needs (record t { phase = phase.Make is.0 }) d = subst (λ (c : Checkout). Needs c d) is.2 needs in
    subst (λ j. IsFar j u d) (sym by) (subst (λ (c : Checkout). IsFar made.Part c d) (sym is.2) (tt, stands_part t is.0 d map shape is.1 now.made))
far_by (turn.Done (Ok a)) t u k d map shape is by needs =
    let now : IsCheckout d t.into t.tree = subst (λ (c : Checkout). Needs c d) is needs in
    subst (λ j. IsFar j u d) (sym by) (subst (λ (c : Checkout). IsFar made.All c d) (sym is) (refl, stands_all t d shape now))
far_by (turn.Done (Err e)) t u k d map shape is by needs = absurd is

-- so the next step has what it needs
pub needs_next : (m n : Make) (v w : View) → IsPathMap m.task.tree → IsTreeMap m.task.tree → MakeNeeds m v.now → Makes m n v w → MakeNeeds n w.now
needs_next m n v w map shape needs makes = record {
  at = (same_task m n v w needs makes).0 ∙ needs.at ∙ ap checkout_path (ap (λ r. r.name) (sym makes.request));
  far = far_by makes.turn m.task n.task n.made w.now map shape (came m n v w needs makes) makes.made makes.after;
  needs = makes.after;
}

-- ---- where a step writes

folder_by : (name : Name) (t : Checkout) (v : View) (p : Path) (s : Seen) → t.into ≡ checkout_path name → WritesOf (beginning t.into t.tree) v p s → MakesFolder name v p s
folder_by name t v p s at a = record { is = a.2 ∙ at; vacant = a.3; meta = a.0; shown = a.4 }

below_by : (m : Make) (v : View) (p : Path) (s : Seen) → m.task.into ≡ checkout_path m.request.name → shows v.now m.task.into ≢ Vacant → WritesOf m.task v p s → shows v.now p ≡ Vacant → (rest : Path) → p ≡ m.task.into ++ rest → MakesBelow m v p s
below_by m v p s at there a vacant [] is = absurd (there (ap (shows v.now) (sym (is ∙ append-nil m.task.into)) ∙ vacant))
below_by m v p s at there a vacant (x ∷ rest) is = record { first = x; rest = rest; is = is ∙ ap (λ q. q ++ x ∷ rest) at; vacant = vacant; writes = a }

pub writes_as : (k : Made) (m : Make) (v : View) → IsGoing k → m.task.into ≡ checkout_path m.request.name → IsFar k m.task v.now → (p : Path) (s : Seen) → WritesOf m.task v p s → writes_by k m v p s
writes_as made.Nothing m v going at far p s a = folder_by m.request.name m.task v p s at (subst (λ (t : Checkout). WritesOf t v p s) far a)
writes_as made.Part m v going at far p s a =
    let lies = checkout_lies m.task v p s a in
    let rest = below_split m.task.into p lies.below in
    below_by m v p s at far.1 a lies.vacant rest.0 rest.1
writes_as made.All m v going at far p s a = absurd going

-- ---- where it is refused

refused_making : (ph : CheckoutPhase) (t u : Checkout) (e : DestExists) → IsMaking ph → steps_in ph t (turn.Done (Err e)) u → ⊥
refused_making (phase.Make n) t u e is steps = came_reached n t u (turn.Done (Err e)) steps
refused_making phase.Begin t u e is steps = is
refused_making phase.Ended t u e is steps = is
refused_making phase.Refused t u e is steps = is

-- nothing was made yet, something stands there, and nothing is changed
pub refused : (k : Made) (t u : Checkout) (v w : View) (e : DestExists) → IsGoing k → IsFar k t v.now → steps_in t.phase t (turn.Done (Err e)) u → Tells t v w (turn.Done (Err e)) → (w ≡ v) × (k ≡ made.Nothing) × (shows v.now t.into ≢ Vacant)
refused made.Nothing t u v w e going far steps tells = let told = subst (λ (c : Checkout). Tells c v w (turn.Done (Err e))) far tells in (told.1, refl, told.0)
refused made.Part t u v w e going far steps tells = absurd (refused_making t.phase t u e far.0 steps)
refused made.All t u v w e going far steps tells = absurd going

pub left_going : (k : Made) (t : Checkout) → IsGoing k → make_left k t ≡ left t + 1
left_going made.Nothing t going = refl
left_going made.Part t going = refl
left_going made.All t going = absurd going
