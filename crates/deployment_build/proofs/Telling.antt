-- From what the step of a part told to what a step says.
use Rattle.std.proofs.Common.{◌≡◌, refl, sym, ◌∙◌, ap, subst, Option, Some, Result, Ok, Err}
use Rattle.std.specs.Prelude.{IsErrOf}
use Rattle.fs_trait.specs.declared.types.FsErr.{FsErr}
use Rattle.fs_trait.specs.declared.types.FsErr.TheVariants.{NoMemory}
use Rattle.fs_trait.specs.declared.task.StepResult.{StepResult}
use Rattle.fs_trait.specs.declared.task.StepResult.TheVariants.{More, Done}
use Rattle.fs_trait.specs.View.{View}
use Rattle.fs_trait.specs.Image.{Told}
use Rattle.fs_trait.specs.Seen.{shows}
use Rattle.fs_trait.specs.Change.{Writes}
use Rattle.fs_trait.proofs.Kept.{same_view}
use Rattle.checkout.specs.CheckoutWork as checkout
use Rattle.checkout.specs.CheckoutWork.{Answer, OnMore}
use Rattle.checkout.specs.CheckoutSteps as checkouts
use Rattle.tree_copy.specs.TreeWork as tree
use Rattle.tree_copy.specs.TreeWork.{TreeCopying}
use Rattle.tree_copy.specs.TreeSteps as trees
use Rattle.staged_file.specs.Staged as staging
use Rattle.staged_file.specs.Staged.{Staged}
use Rattle.staged_file.specs.Steps as stagings
use Rattle.kernel_copy.specs.Work as kernel
use Rattle.kernel_copy.specs.Work.{KernelCopying}
use Rattle.kernel_copy.specs.Steps as kernels
use Rattle.deployment_build.specs.declared.phase.BuildPhase.{BuildPhase}
use Rattle.deployment_build.specs.declared.phase.BuildPhase.TheVariants.{Checkout, Etc, Origin, Kernel, Ended}
use Rattle.deployment_build.specs.Deployment.{IsBuilt}
use Rattle.deployment_build.specs.Work.{Building, OnBuilt, goes, goes_turn, plan_of, puts, puts_turn}
use Rattle.deployment_build.specs.Steps.{InCheckout, InEtc, InKernel, InOrigin, IsToldStep, Needs, first_tells, WritesOf, etc_free, needs_in, tells_in, writes_in}
use Rattle.deployment_build.proofs.Parts.{checkout_told, tree_not_refused}
use Rattle.deployment_build.proofs.Working.{built, checkout_after, etc_after, kernel_ends, kernel_goes, origin_after}

-- ---- any step

not_err : (turn : StepResult Answer) → IsErrOf {T = StepResult Answer} (Ok turn) NoMemory → ⊥
not_err turn is = let no_ : Ok turn ≡ Err NoMemory = is in cc

told_both : {P Q R : View → Type 0} → (view : Option View) → ((w : View) → P w → Q w → R w) → Told view P → Told view Q → Told view R
told_both {P} {Q} {R} view both one other =
    let e : Some other.0 ≡ Some one.0 = sym other.1 ∙ one.1 in
    let same : other.0 ≡ one.0 = cc in
    (one.0, one.1, both one.0 one.2 (subst Q same other.2))

told_of : {P Q : View → Type 0} → (view : Option View) → ((w : View) → P w → Q w) → Told view P → Told view Q
told_of view weaker told = (told.0, told.1, weaker told.0 told.2)

-- as its caller saw the task
pub told_as : (t u new got : Building) → t ≡ u → new ≡ got → (v : View) (r : _) (view : Option View) → IsToldStep t new v r view → IsToldStep u got v r view
told_as t u new got same next v r view told = subst (λ a. IsToldStep u a v r view) next (subst (λ a. IsToldStep a new v r view) same told)

-- behind the last one
pub told_ended : (t : Building) → t.phase ≡ Ended → (v : View) → Needs t v → (view : Option View) → view ≡ Some v → IsToldStep t t v (Ok (Done (Ok tt))) view
told_ended t is v needs view told = record {
  writes = (v, told, same_view (WritesOf t v) v);
  after = (v, told, needs);
  tells = (v, told, subst (λ ph. tells_in ph t v v (Done (Ok tt))) (sym is) refl);
  built = (v, told, subst (λ ph. needs_in ph t v) is needs.meets);
  fails = tt;
  unchanged = λ e. absurd (not_err (Done (Ok tt)) e);
}

goes_unbuilt : (turn : StepResult Answer) (P : Type 0) → OnBuilt (Ok (goes_turn turn)) P
goes_unbuilt More P = tt
goes_unbuilt (Done (Ok x)) P = tt
goes_unbuilt (Done (Err e)) P = tt

-- ---- the checkout

pub checkout_in : (t : Building) → t.phase ≡ Checkout → (v : View) → Needs t v → InCheckout t v
checkout_in t is v needs = subst (λ ph. needs_in ph t v) is needs.meets

module _ (t : Building) (is : t.phase ≡ Checkout) (v : View) (view : Option View) (writes : Told view (λ w. Writes (checkouts.WritesOf t.checkout v) v w)) where
  wrote_checkout : Told view (λ w. Writes (WritesOf t v) v w)
  wrote_checkout = (writes.0, writes.1, subst (λ ph. Writes (writes_in ph t v) v writes.0) (sym is) writes.2)

  pub checkout_done : Needs t v → (c : checkout.Checkout) (inner : StepResult Answer) → checkout.IsStepped t.checkout (Ok inner) c → Told view (λ w. checkouts.Needs c w.now) → Told view (λ w. checkouts.Tells t.checkout v w inner)
      → IsToldStep t (record t { checkout = c; phase = goes Checkout Etc inner }) v (Ok (goes_turn inner)) view
  checkout_done needs c inner step after tells = record {
    writes = wrote_checkout;
    after = told_both view (λ w wrote next. checkout_after t needs.made is c v (checkout_in t is v needs) w wrote next inner step) writes after;
    tells = told_of view (λ w told. subst (λ ph. tells_in ph t v w (goes_turn inner)) (sym is)
        (subst (λ f. first_tells t.checkout.phase f v w (goes_turn inner)) needs.made.files.into (checkout_told t.checkout c v w inner (checkout_in t is v needs).going step told))) tells;
    built = goes_unbuilt inner (Told view (λ w. IsBuilt w.now (plan_of t)));
    fails = tt;
    unchanged = λ e. absurd (not_err (goes_turn inner) e);
  }

-- ---- the copy of `etc`

pub etc_in : (t : Building) → t.phase ≡ Etc → (v : View) → Needs t v → InEtc t v
etc_in t is v needs = subst (λ ph. needs_in ph t v) is needs.meets

module _ (t : Building) (is : t.phase ≡ Etc) (v : View) (view : Option View) where
  wrote_etc : Told view (λ w. Writes (trees.WritesOf t.etc v) v w) → Told view (λ w. Writes (WritesOf t v) v w)
  wrote_etc writes = (writes.0, writes.1, subst (λ ph. Writes (writes_in ph t v) v writes.0) (sym is) writes.2)

  pub etc_done : Needs t v → (c : TreeCopying) (inner : StepResult Answer) → tree.IsStepped t.etc (Ok inner) c → trees.IsToldStep t.etc c v (Ok inner) view
      → IsToldStep t (record t { etc = c; phase = goes Etc Origin inner }) v (Ok (goes_turn inner)) view
  etc_done needs c inner step told =
      let in_ = etc_in t is v needs in
      let free = subst (λ p. etc_free t.etc.phase (shows v.now p)) (sym needs.made.etc) in_.free in
      record {
        writes = wrote_etc told.writes;
        after = told_both view (λ w wrote next. etc_after t needs.made is c v in_ w wrote next inner step) told.writes told.after;
        tells = told_of view (λ w tells. subst (λ ph. tells_in ph t v w (goes_turn inner)) (sym is) (tree_not_refused t.etc c v w inner free step tells)) told.tells;
        built = goes_unbuilt inner (Told view (λ w. IsBuilt w.now (plan_of t)));
        fails = tt;
        unchanged = λ e. absurd (not_err (goes_turn inner) e);
      }

-- ---- the origin file

pub origin_in : (t : Building) → t.phase ≡ Origin → (v : View) → Needs t v → InOrigin t v
origin_in t is v needs = subst (λ ph. needs_in ph t v) is needs.meets

module _ (t : Building) (is : t.phase ≡ Origin) (v : View) (view : Option View) (writes : Told view (λ w. Writes (stagings.WritesOf t.origin v) v w)) where
  wrote_origin : Told view (λ w. Writes (WritesOf t v) v w)
  wrote_origin = (writes.0, writes.1, subst (λ ph. Writes (writes_in ph t v) v writes.0) (sym is) writes.2)

  pub origin_done : Needs t v → (o : Staged) (inner : StepResult (Unit {0})) → staging.IsStepped t.origin (Ok inner) o → Told view (λ w. stagings.Needs o w)
      → IsToldStep t (record t { origin = o; phase = puts Origin Kernel inner }) v (Ok More) view
  origin_done needs o inner step after = record {
    writes = wrote_origin;
    after = told_both view (λ w wrote next. origin_after t needs.made is o v (origin_in t is v needs) w wrote next inner step) writes after;
    tells = (writes.0, writes.1, subst (λ ph. tells_in ph t v writes.0 More) (sym is) tt);
    built = tt;
    fails = tt;
    unchanged = λ e. absurd (not_err More e);
  }

-- ---- the copies of the kernel

pub kernel_in : (t : Building) → t.phase ≡ Kernel → (v : View) → Needs t v → InKernel t v
kernel_in t is v needs = subst (λ ph. needs_in ph t v) is needs.meets

module _ (t : Building) (is : t.phase ≡ Kernel) (v : View) (view : Option View) where
  wrote_kernel : Told view (λ w. Writes (kernels.WritesOf t.kernel v) v w) → Told view (λ w. Writes (WritesOf t v) v w)
  wrote_kernel writes = (writes.0, writes.1, subst (λ ph. Writes (writes_in ph t v) v writes.0) (sym is) writes.2)

  pub kernel_done : Needs t v → (k : KernelCopying) (inner : StepResult (Unit {0})) → kernel.IsStepped t.kernel (Ok inner) k → kernels.IsToldStep t.kernel k v (Ok inner) view
      → IsToldStep t (record t { kernel = k; phase = puts Kernel Ended inner }) v (Ok (puts_turn inner)) view
  kernel_done needs k More step told = record {
    writes = wrote_kernel told.writes;
    after = told_both view (λ w wrote next. kernel_goes t needs.made is k v (kernel_in t is v needs) w wrote next step) told.writes told.after;
    tells = (told.writes.0, told.writes.1, subst (λ ph. tells_in ph t v told.writes.0 More) (sym is) tt);
    built = tt;
    fails = tt;
    unchanged = λ e. absurd (not_err More e);
  }
  kernel_done needs k (Done x) step told =
      let all = told_both view (λ w wrote copied. built t needs.made is k v (kernel_in t is v needs) w wrote copied) told.writes told.copied in
      record {
        writes = wrote_kernel told.writes;
        after = told_of view (λ w is_built. kernel_ends t needs.made is k w x is_built step) all;
        tells = (told.writes.0, told.writes.1, subst (λ ph. tells_in ph t v told.writes.0 (Done (Ok tt))) (sym is) tt);
        built = all;
        fails = tt;
        unchanged = λ e. absurd (not_err (Done (Ok tt)) e);
      }

-- ---- as they are called

got_as : (t u new got : Building) (turn is : StepResult Answer) → t ≡ u → got ≡ new → is ≡ turn → (v : View) (view : Option View) → IsToldStep t new v (Ok turn) view → IsToldStep u got v (Ok is) view
got_as t u new got turn is same next turns v view told = subst (λ x. IsToldStep u got v (Ok x) view) (sym turns) (told_as t u new got same (sym next) v (Ok turn) view told)

pub checkout_got : (t u : Building) → t ≡ u → t.phase ≡ Checkout → (v : View) → Needs t v → (c : checkout.Checkout) (r : Result (StepResult Answer) FsErr) (inner : StepResult Answer) → r ≡ Ok inner → checkout.IsStepped t.checkout r c
    → (ph : BuildPhase) → ph ≡ goes Checkout Etc inner → (turn : StepResult Answer) → turn ≡ goes_turn inner → (view : Option View) → Told view (λ w. Writes (checkouts.WritesOf t.checkout v) v w)
    → Told view (λ w. checkouts.Needs c w.now) → Told view (λ w. checkouts.Tells t.checkout v w inner) → IsToldStep u (record t { checkout = c; phase = ph }) v (Ok turn) view
checkout_got t u same is v needs c r inner ok step ph phases turn turns view writes after tells =
    got_as t u (record t { checkout = c; phase = goes Checkout Etc inner }) (record t { checkout = c; phase = ph }) (goes_turn inner) turn same (ap (λ (p : BuildPhase). record t { checkout = c; phase = p }) phases) turns v view
    (checkout_done t is v view writes needs c inner (subst (λ x. checkout.IsStepped t.checkout x c) ok step) after tells)

pub etc_got : (t u : Building) → t ≡ u → t.phase ≡ Etc → (v : View) → Needs t v → (c : TreeCopying) (r : Result (StepResult Answer) FsErr) (inner : StepResult Answer) → r ≡ Ok inner → tree.IsStepped t.etc r c
    → (ph : BuildPhase) → ph ≡ goes Etc Origin inner → (turn : StepResult Answer) → turn ≡ goes_turn inner → (view : Option View) → trees.IsToldStep t.etc c v r view → IsToldStep u (record t { etc = c; phase = ph }) v (Ok turn) view
etc_got t u same is v needs c r inner ok step ph phases turn turns view told =
    got_as t u (record t { etc = c; phase = goes Etc Origin inner }) (record t { etc = c; phase = ph }) (goes_turn inner) turn same (ap (λ (p : BuildPhase). record t { etc = c; phase = p }) phases) turns v view
    (etc_done t is v view needs c inner (subst (λ x. tree.IsStepped t.etc x c) ok step) (subst (λ x. trees.IsToldStep t.etc c v x view) ok told))

pub origin_got : (t u : Building) → t ≡ u → t.phase ≡ Origin → (v : View) → Needs t v → (o : Staged) (r : Result (StepResult (Unit {0})) FsErr) (inner : StepResult (Unit {0})) → r ≡ Ok inner → staging.IsStepped t.origin r o
    → (ph : BuildPhase) → ph ≡ puts Origin Kernel inner → (view : Option View) → Told view (λ w. Writes (stagings.WritesOf t.origin v) v w)
    → Told view (λ w. stagings.Needs o w) → IsToldStep u (record t { origin = o; phase = ph }) v (Ok More) view
origin_got t u same is v needs o r inner ok step ph phases view writes after =
    got_as t u (record t { origin = o; phase = puts Origin Kernel inner }) (record t { origin = o; phase = ph }) More More same (ap (λ (p : BuildPhase). record t { origin = o; phase = p }) phases) refl v view
    (origin_done t is v view writes needs o inner (subst (λ x. staging.IsStepped t.origin x o) ok step) after)

pub kernel_got : (t u : Building) → t ≡ u → t.phase ≡ Kernel → (v : View) → Needs t v → (k : KernelCopying) (r : Result (StepResult (Unit {0})) FsErr) (inner : StepResult (Unit {0})) → r ≡ Ok inner → kernel.IsStepped t.kernel r k
    → (ph : BuildPhase) → ph ≡ puts Kernel Ended inner → (turn : StepResult Answer) → turn ≡ puts_turn inner → (view : Option View) → kernels.IsToldStep t.kernel k v r view → IsToldStep u (record t { kernel = k; phase = ph }) v (Ok turn) view
kernel_got t u same is v needs k r inner ok step ph phases turn turns view told =
    got_as t u (record t { kernel = k; phase = puts Kernel Ended inner }) (record t { kernel = k; phase = ph }) (puts_turn inner) turn same (ap (λ (p : BuildPhase). record t { kernel = k; phase = p }) phases) turns v view
    (kernel_done t is v view needs k inner (subst (λ x. kernel.IsStepped t.kernel x k) ok step) (subst (λ x. kernels.IsToldStep t.kernel k v x view) ok told))
