-- What no step of a part changes in it, and how a part ends.
use Rattle.std.proofs.Common.{◌≡◌, inl, inr, ℕ, ◌+◌, Bool, true, false, refl, sym, ◌∙◌, ap, subst, length, Ok, Err, if◌then◌else◌}
use Rattle.std.specs.Prelude.{nat_lt}
use Rattle.fs_trait.specs.declared.task.StepResult.{StepResult}
use Rattle.fs_trait.specs.declared.task.StepResult.TheVariants.{More, Done}
use Rattle.fs_trait.specs.View.{View}
use Rattle.fs_trait.specs.Seen.{Seen, shows}
use Rattle.checkout.specs.declared.checkout_phase.DestExists.{DestExists}
use Rattle.checkout.specs.declared.checkout_phase.CheckoutPhase.{CheckoutPhase}
use Rattle.checkout.specs.declared.checkout_phase.CheckoutPhase.TheVariants as out
use Rattle.checkout.specs.CheckoutWork as checkout
use Rattle.checkout.specs.CheckoutWork.{Answer, Checkout}
use Rattle.checkout.specs.CheckoutSteps as outs
use Rattle.tree_copy.specs.declared.phase.TreePhase.{TreePhase}
use Rattle.tree_copy.specs.declared.phase.TreePhase.TheVariants as copy
use Rattle.tree_copy.specs.TreeWork as tree
use Rattle.tree_copy.specs.TreeWork.{TreeCopying, is_whole}
use Rattle.tree_copy.specs.TreeSteps as trees
use Rattle.file_copy.specs.Copying.{Copying}
use Rattle.staged_file.specs.declared.phase.Phase.{Phase}
use Rattle.staged_file.specs.declared.phase.Phase.TheVariants as staged
use Rattle.staged_file.specs.Staged.{IsStepped, Staged, is_last, next_in}
use Rattle.deployment_build.specs.Work.{goes_turn}
use Rattle.deployment_build.specs.Steps.{IsGoing, NotRefused, etc_free, first_tells}

abbrev more : StepResult Answer
more = More

abbrev done : Unit {0} → StepResult Answer
done x = Done (Ok x)

abbrev refused : DestExists → StepResult Answer
refused e = Done (Err e)

-- ---- the checkout

pub record IsSameCheckout (old new : Checkout) : Type 0 where
  pub into : new.into ≡ old.into
  pub tree : new.tree ≡ old.tree

checkout_as : (old new : Checkout) (ph : CheckoutPhase) → new ≡ record old { phase = ph } → IsSameCheckout old new
checkout_as old new ph is = record { into = ap (λ (x : Checkout). x.into) is; tree = ap (λ (x : Checkout). x.tree) is }

checkout_in : (ph : CheckoutPhase) (old new : Checkout) (turn : StepResult Answer) → checkout.steps_in ph old turn new → IsSameCheckout old new
checkout_in out.Begin old new More s = checkout_as old new _ s.1
checkout_in out.Begin old new (Done (Ok x)) s = checkout_as old new _ s.1
checkout_in out.Begin old new (Done (Err e)) s = checkout_as old new out.Refused s
checkout_in (out.Make n) old new turn s = checkout_as old new _ s.1
checkout_in out.Ended old new turn s = checkout_as old new old.phase s.1
checkout_in out.Refused old new More s = absurd s
checkout_in out.Refused old new (Done (Ok x)) s = absurd s
checkout_in out.Refused old new (Done (Err e)) s = checkout_as old new old.phase s

pub checkout_same : (old new : Checkout) (turn : StepResult Answer) → checkout.IsStepped old (Ok turn) new → IsSameCheckout old new
checkout_same old new turn s = checkout_in old.phase old new turn s

-- the last node comes last
checkout_last : (n : ℕ) (old new : Checkout) (x : Unit {0}) → checkout.IsReached n old (Done (Ok x)) new → new.phase ≡ out.Ended
checkout_last n old new x s = ap (λ (c : Checkout). c.phase) s.1 ∙ pick (nat_lt (n + 1) (length old.tree)) s.0
  where
    pick : (b : Bool) → done x ≡ (if b then More else Done (Ok tt)) → (if b then out.Make (n + 1) else out.Ended) ≡ out.Ended
    pick true is = cc
    pick false is = refl

checkout_end : (ph : CheckoutPhase) (old new : Checkout) (x : Unit {0}) → old.phase ≡ ph → checkout.steps_in ph old (Done (Ok x)) new → new.phase ≡ out.Ended
checkout_end out.Begin old new x is s = checkout_last 0 old new x s
checkout_end (out.Make n) old new x is s = checkout_last n old new x s
checkout_end out.Ended old new x is s = ap (λ (c : Checkout). c.phase) s.1 ∙ is
checkout_end out.Refused old new x is s = absurd s

-- with its last step it is ended
pub checkout_ends : (old new : Checkout) (x : Unit {0}) → checkout.IsStepped old (Ok (Done (Ok x))) new → new.phase ≡ out.Ended
checkout_ends old new x s = checkout_end old.phase old new x refl s

-- a step that isn't the last, and not refused, lets it go on
going_reached : (b : Bool) (n : ℕ) → more ≡ (if b then More else Done (Ok tt)) → IsGoing (if b then out.Make (n + 1) else out.Ended)
going_reached true n is = tt
going_reached false n is = cc

going_as : (new : Checkout) (ph : CheckoutPhase) → new.phase ≡ ph → IsGoing ph → IsGoing new.phase
going_as new ph is going = subst IsGoing (sym is) going

going_in : (ph : CheckoutPhase) (old new : Checkout) → checkout.steps_in ph old More new → IsGoing new.phase
going_in out.Begin old new s = going_as new _ (ap (λ (c : Checkout). c.phase) s.1) (going_reached (nat_lt (0 + 1) (length old.tree)) 0 s.0)
going_in (out.Make n) old new s = going_as new _ (ap (λ (c : Checkout). c.phase) s.1) (going_reached (nat_lt (n + 1) (length old.tree)) n s.0)
going_in out.Ended old new s = let no_ : more ≡ done tt = s.0 in cc
going_in out.Refused old new s = absurd s

pub checkout_going : (old new : Checkout) → checkout.IsStepped old (Ok More) new → IsGoing new.phase
checkout_going old new s = going_in old.phase old new s

-- what it tells, where others follow
no_refusal : (b : Bool) (e : DestExists) → refused e ≡ (if b then More else Done (Ok tt)) → ⊥
no_refusal true e is = cc
no_refusal false e is = cc

first_in : (ph : CheckoutPhase) (old new : Checkout) (v w : View) (turn : StepResult Answer) → IsGoing ph → checkout.steps_in ph old turn new → outs.tells_in ph old.into v w turn → first_tells ph old.into v w (goes_turn turn)
first_in out.Begin old new v w More going s told = told
first_in out.Begin old new v w (Done (Ok x)) going s told = told
first_in out.Begin old new v w (Done (Err e)) going s told = told
first_in (out.Make n) old new v w More going s told = tt
first_in (out.Make n) old new v w (Done (Ok x)) going s told = tt
first_in (out.Make n) old new v w (Done (Err e)) going s told = absurd (no_refusal (nat_lt (n + 1) (length old.tree)) e s.0)
first_in out.Ended old new v w turn going s told = absurd going
first_in out.Refused old new v w turn going s told = absurd going

pub checkout_told : (old new : Checkout) (v w : View) (turn : StepResult Answer) → IsGoing old.phase → checkout.IsStepped old (Ok turn) new → outs.Tells old v w turn → first_tells old.phase old.into v w (goes_turn turn)
checkout_told old new v w turn going s told = first_in old.phase old new v w turn going s told

-- ---- the copy of `etc`

pub record IsSameTree (old new : TreeCopying) : Type 0 where
  pub into : new.into ≡ old.into
  pub tree : new.tree ≡ old.tree

tree_as : (old new : TreeCopying) (ph : TreePhase) → new ≡ record old { phase = ph } → IsSameTree old new
tree_as old new ph is = record { into = ap (λ (x : TreeCopying). x.into) is; tree = ap (λ (x : TreeCopying). x.tree) is }

tree_copied : (b : Bool) (n : ℕ) (c : Copying) (old new : TreeCopying) → new ≡ (if b then tree.reached n old else record old { phase = copy.Copy n c }) → IsSameTree old new
tree_copied true n c old new is = tree_as old new _ is
tree_copied false n c old new is = tree_as old new (copy.Copy n c) is

tree_in : (ph : TreePhase) (old new : TreeCopying) (turn : StepResult Answer) → tree.steps_in ph old turn new → IsSameTree old new
tree_in copy.Begin old new More s = tree_as old new _ s.1
tree_in copy.Begin old new (Done (Ok x)) s = tree_as old new _ s.1
tree_in copy.Begin old new (Done (Err e)) s = tree_as old new copy.Refused s
tree_in (copy.Make n) old new turn (inl s) = tree_as old new _ s.1
tree_in (copy.Make n) old new turn (inr s) = tree_as old new _ s.1.is
tree_in (copy.Copy n c) old new turn s = tree_copied (is_whole s.copying.phase) n s.copying old new s.is
tree_in copy.Ended old new turn s = tree_as old new old.phase s.1
tree_in copy.Refused old new More s = absurd s
tree_in copy.Refused old new (Done (Ok x)) s = absurd s
tree_in copy.Refused old new (Done (Err e)) s = tree_as old new old.phase s

pub tree_same : (old new : TreeCopying) (turn : StepResult Answer) → tree.IsStepped old (Ok turn) new → IsSameTree old new
tree_same old new turn s = tree_in old.phase old new turn s

-- how it ends
tree_last : (n : ℕ) (old new : TreeCopying) (x : Unit {0}) → done x ≡ tree.reached_turn n old → new ≡ tree.reached n old → new.phase ≡ copy.Ended
tree_last n old new x turn is = ap (λ (c : TreeCopying). c.phase) is ∙ pick (nat_lt (n + 1) (length old.tree)) turn
  where
    pick : (b : Bool) → done x ≡ (if b then More else Done (Ok tt)) → (if b then copy.Make (n + 1) else copy.Ended) ≡ copy.Ended
    pick true e = cc
    pick false e = refl

tree_copy_last : (b : Bool) (n : ℕ) (c : Copying) (old new : TreeCopying) (x : Unit {0}) → done x ≡ (if b then tree.reached_turn n old else More) → new ≡ (if b then tree.reached n old else record old { phase = copy.Copy n c }) → new.phase ≡ copy.Ended
tree_copy_last true n c old new x turn is = tree_last n old new x turn is
tree_copy_last false n c old new x turn is = cc

tree_end : (ph : TreePhase) (old new : TreeCopying) (x : Unit {0}) → old.phase ≡ ph → tree.steps_in ph old (Done (Ok x)) new → new.phase ≡ copy.Ended
tree_end copy.Begin old new x at s = tree_last 0 old new x s.0 s.1
tree_end (copy.Make n) old new x at (inl s) = tree_last n old new x s.0 s.1
tree_end (copy.Make n) old new x at (inr s) = let no_ : done x ≡ More = s.0 in cc
tree_end (copy.Copy n c) old new x at s = tree_copy_last (is_whole s.copying.phase) n s.copying old new x s.turns s.is
tree_end copy.Ended old new x at s = ap (λ (c : TreeCopying). c.phase) s.1 ∙ at
tree_end copy.Refused old new x at s = absurd s

pub tree_ends : (old new : TreeCopying) (x : Unit {0}) → tree.IsStepped old (Ok (Done (Ok x))) new → new.phase ≡ copy.Ended
tree_ends old new x s = tree_end old.phase old new x refl s

-- a step that isn't the last goes past its beginning
free_reached : (b : Bool) (n : ℕ) (s : Seen) → etc_free (if b then copy.Make (n + 1) else copy.Ended) s
free_reached true n s = tt
free_reached false n s = tt

free_as : (new : TreeCopying) (ph : TreePhase) (s : Seen) → new.phase ≡ ph → etc_free ph s → etc_free new.phase s
free_as new ph s is free = subst (λ x. etc_free x s) (sym is) free

free_copied : (b : Bool) (n : ℕ) (c : Copying) (old new : TreeCopying) (s : Seen) → new ≡ (if b then tree.reached n old else record old { phase = copy.Copy n c }) → etc_free new.phase s
free_copied true n c old new s is = free_as new _ s (ap (λ (x : TreeCopying). x.phase) is) (free_reached (nat_lt (n + 1) (length old.tree)) n s)
free_copied false n c old new s is = free_as new (copy.Copy n c) s (ap (λ (x : TreeCopying). x.phase) is) tt

free_in : (ph : TreePhase) (old new : TreeCopying) (s : Seen) → tree.steps_in ph old More new → etc_free new.phase s
free_in copy.Begin old new s a = free_as new _ s (ap (λ (x : TreeCopying). x.phase) a.1) (free_reached (nat_lt (0 + 1) (length old.tree)) 0 s)
free_in (copy.Make n) old new s (inl a) = free_as new _ s (ap (λ (x : TreeCopying). x.phase) a.1) (free_reached (nat_lt (n + 1) (length old.tree)) n s)
free_in (copy.Make n) old new s (inr a) = free_as new _ s (ap (λ (x : TreeCopying). x.phase) a.1.is) tt
free_in (copy.Copy n c) old new s a = free_copied (is_whole a.copying.phase) n a.copying old new s a.is
free_in copy.Ended old new s a = let no_ : more ≡ done tt = a.0 in cc
free_in copy.Refused old new s a = absurd a

pub tree_free : (old new : TreeCopying) (s : Seen) → tree.IsStepped old (Ok More) new → etc_free new.phase s
tree_free old new s a = free_in old.phase old new s a

-- it isn't refused where nothing stands
no_copied : (b : Bool) (n : ℕ) (old : TreeCopying) (e : DestExists) → refused e ≡ (if b then tree.reached_turn n old else More) → ⊥
no_copied true n old e is = no_refusal (nat_lt (n + 1) (length old.tree)) e is
no_copied false n old e is = cc

refused_in : (ph : TreePhase) (old new : TreeCopying) (v w : View) (e : DestExists) → etc_free ph (shows v.now old.into) → tree.steps_in ph old (Done (Err e)) new → trees.tells_in ph old.into v w (Done (Err e)) → ⊥
refused_in copy.Begin old new v w e free s told = told.0 free
refused_in (copy.Make n) old new v w e free (inl s) told = no_refusal (nat_lt (n + 1) (length old.tree)) e s.0
refused_in (copy.Make n) old new v w e free (inr s) told = let no_ : refused e ≡ More = s.0 in cc
refused_in (copy.Copy n c) old new v w e free s told = no_copied (is_whole s.copying.phase) n old e s.turns
refused_in copy.Ended old new v w e free s told = let no_ : refused e ≡ done tt = s.0 in cc
refused_in copy.Refused old new v w e free s told = free

pub tree_not_refused : (old new : TreeCopying) (v w : View) (turn : StepResult Answer) → etc_free old.phase (shows v.now old.into) → tree.IsStepped old (Ok turn) new → trees.Tells old v w turn → NotRefused (goes_turn turn)
tree_not_refused old new v w More free s told = tt
tree_not_refused old new v w (Done (Ok x)) free s told = tt
tree_not_refused old new v w (Done (Err e)) free s told = refused_in old.phase old new v w e free s told

-- ---- the origin file

origin_end : (ph : Phase) (old new : Staged) → old.phase ≡ ph → new ≡ next_in ph old → is_last ph ≡ true → new.phase ≡ staged.Ended
origin_end staged.Clear old new at is last = let no_ : false ≡ true = last in cc
origin_end staged.Create old new at is last = let no_ : false ≡ true = last in cc
origin_end staged.Append old new at is last = let no_ : false ≡ true = last in cc
origin_end staged.SyncFile old new at is last = let no_ : false ≡ true = last in cc
origin_end staged.Look old new at is last = let no_ : false ≡ true = last in cc
origin_end staged.Replace old new at is last = let no_ : false ≡ true = last in cc
origin_end staged.SyncFolder old new at is last = ap (λ (x : Staged). x.phase) is
origin_end staged.Ended old new at is last = ap (λ (x : Staged). x.phase) is ∙ at

pub origin_ends : (old new : Staged) (x : Unit {0}) → IsStepped old (Ok (Done x)) new → new.phase ≡ staged.Ended
origin_ends old new x s = origin_end old.phase old new refl s.0 s.1
