-- From what the calls answered to what a step says.
use Rattle.std.proofs.Common.{◌≡◌, ◌≢◌, inl, inr, refl, sym, ◌∙◌, ap, subst, Option, Some, None, Result, Ok, Err, true, false}
use Rattle.std.specs.Prelude.{IsErrOf}
use Rattle.std.specs.Option.{is_some}
use Rattle.ost_types.specs.declared.meta.Meta.{Meta}
use Rattle.ost_types.specs.Path.{Path}
use Rattle.fs_trait.specs.declared.types.FsErr.{FsErr}
use Rattle.fs_trait.specs.declared.types.FsErr.TheVariants.{Failed, Exists, Missing, NotFolder, NotEmpty, NoMemory}
use Rattle.fs_trait.specs.declared.types.Value.TheVariants as value
use Rattle.fs_trait.specs.declared.task.StepResult.{StepResult}
use Rattle.fs_trait.specs.declared.task.StepResult.TheVariants.{More, Done}
use Rattle.fs_trait.specs.View.{Disk, View, named}
use Rattle.fs_trait.specs.Image.{IsTree, Told}
use Rattle.fs_trait.specs.Effect.{Fails, OfNone, no_new}
use Rattle.fs_trait.specs.Seen.{Vacant, shows}
use Rattle.fs_trait.specs.Change.{Writes}
use Rattle.fs_trait.proofs.Answering.{Step, err_fails, err_unchanged, err_writes}
use Rattle.fs_trait.proofs.Kept.{same_view}
use Rattle.file_copy.specs.declared.putting.PutPhase.TheVariants as putting
use Rattle.file_copy.specs.Putting as placing
use Rattle.file_copy.specs.Putting.{Differs, Putting}
use Rattle.file_copy.specs.PutSteps as put
use Rattle.folder_build.specs.Node.{folder_meta}
use Rattle.kernel_copy.specs.declared.phase.KernelPhase.{KernelPhase}
use Rattle.kernel_copy.specs.declared.phase.KernelPhase.TheVariants.{Folder, Kernel, Initramfs, Ended}
use Rattle.kernel_copy.specs.Copies.{AreCopied}
use Rattle.kernel_copy.specs.Work.{IsMade, IsStepped, KernelCopying, OnDone, home_of, second_turn, stage_of, steps_in, then_phase, then_turn}
use Rattle.kernel_copy.specs.Steps.{IsToldStep, Needs, Refuses, WritesOf, differs_in, differs_second, needs_in, needs_second, refuses_in, refuses_second, writes_in, writes_second}
use Rattle.kernel_copy.proofs.PutFacts.{IsSamePut, put_same}
use Rattle.kernel_copy.proofs.Working.{folder_at, folder_there, kernel_ends, kernel_goes, second_ends, second_goes}

-- ---- any step

not_err : (turn : StepResult (Unit {0})) → IsErrOf {T = StepResult (Unit {0})} (Ok turn) NoMemory → ⊥
not_err turn is = let no_ : Ok turn ≡ Err NoMemory = is in cc

failed : (ph : KernelPhase) (t : KernelCopying) (v : View) → refuses_in ph t v Failed
failed Folder t v = tt
failed Kernel t v = tt
failed Initramfs t v = tt
failed Ended t v = tt

no_memory : (ph : KernelPhase) (t : KernelCopying) (v : View) → refuses_in ph t v NoMemory
no_memory Folder t v = tt
no_memory Kernel t v = tt
no_memory Initramfs t v = tt
no_memory Ended t v = tt

of_none : (ph : KernelPhase) (t : KernelCopying) (v : View) (e : FsErr) → OfNone e → refuses_in ph t v e
of_none ph t v Failed is = failed ph t v
of_none ph t v NoMemory is = no_memory ph t v
of_none ph t v Exists is = absurd is
of_none ph t v Missing is = absurd is
of_none ph t v NotFolder is = absurd is
of_none ph t v NotEmpty is = absurd is

told_more : (old new : KernelCopying) (v w : View) (view : Option View) → view ≡ Some w → Writes (WritesOf old v) v w → Needs new w → differs_in old.phase old new v.now → IsToldStep old new v (Ok More) view
told_more old new v w view is writes after differs = record { writes = (w, is, writes); after = (w, is, after); copied = tt; spares = differs; fails = tt; unchanged = λ e. absurd (not_err More e) }

-- one that wasn't done, with no changing call
pub told_quiet : (old new : KernelCopying) (v : View) (e : FsErr) (view : Option View) → view ≡ Some v → OfNone e → IsToldStep old new v (Err e) view
told_quiet old new v e view is of = record { writes = (v, is, same_view (WritesOf old v) v); after = tt; copied = tt; spares = tt; fails = of_none old.phase old v e of; unchanged = λ m. is }

-- as its caller saw the task
pub told_as : (t u new got : KernelCopying) → t ≡ u → new ≡ got → (v : View) (r : Result (StepResult (Unit {0})) FsErr) (view : Option View) → IsToldStep t new v r view → IsToldStep u got v r view
told_as t u new got same next v r view told = subst (λ a. IsToldStep u a v r view) next (subst (λ a. IsToldStep a new v r view) same told)

told_both : {P Q R : View → Type 0} → (view : Option View) → ((w : View) → P w → Q w → R w) → Told view P → Told view Q → Told view R
told_both {P} {Q} {R} view both one other =
    let e : Some other.0 ≡ Some one.0 = sym other.1 ∙ one.1 in
    let same : other.0 ≡ one.0 = cc in
    (one.0, one.1, both one.0 one.2 (subst Q same other.2))

-- behind the last one
pub told_ended : (t : KernelCopying) → t.phase ≡ Ended → (v : View) → Needs t v → (view : Option View) → view ≡ Some v → IsToldStep t t v (Ok (Done tt)) view
told_ended t is v needs view told = record {
  writes = (v, told, same_view (WritesOf t v) v);
  after = (v, told, needs);
  copied = (v, told, subst (λ ph. needs_in ph t v) is needs.meets);
  spares = subst (λ ph. differs_in ph t t v.now) (sym is) tt;
  fails = tt;
  unchanged = λ e. absurd (not_err (Done tt) e);
}

-- ---- what no step changes

-- what the copies are of, and where they are staged
pub record IsSameTask (old new : KernelCopying) : Type 0 where
  pub os : new.os ≡ old.os
  pub files : new.files ≡ old.files
  pub stage : stage_of new ≡ stage_of old

same_with : (old new : KernelCopying) (kernel : Putting) (initramfs : Option Putting) (phase : KernelPhase) → new ≡ record old { kernel = kernel; initramfs = initramfs; phase = phase } → kernel.copying.stage ≡ stage_of old → IsSameTask old new
same_with old new kernel initramfs phase is stage = record {
  os = ap (λ (x : KernelCopying). x.os) is;
  files = ap (λ (x : KernelCopying). x.files) is;
  stage = ap stage_of is ∙ stage;
}

same_in : (ph : KernelPhase) (old new : KernelCopying) (turn : StepResult (Unit {0})) → steps_in ph old turn new → IsSameTask old new
same_in Folder old new turn w = same_with old new old.kernel old.initramfs Kernel w.1 refl
same_in Kernel old new turn (inl w) = same_with old new w.copy old.initramfs old.phase w.is (put_same old.kernel w.copy More w.step).stage
same_in Kernel old new turn (inr w) = same_with old new w.copy old.initramfs (then_phase old.initramfs) w.is (put_same old.kernel w.copy (Done tt) w.step).stage
same_in Initramfs old new turn w = same_with old new old.kernel (Some w.copy) (second_turn turn) w.is refl
same_in Ended old new turn w = same_with old new old.kernel old.initramfs old.phase w.1 refl

pub step_same : (old new : KernelCopying) (turn : StepResult (Unit {0})) → IsStepped old (Ok turn) new → IsSameTask old new
step_same old new turn stepped = same_in old.phase old new turn stepped

-- ---- the folder

pub vacant_as : (d : Disk) (at home : Path) → at ≡ home → shows d at ≡ Vacant → shows d home ≡ Vacant
vacant_as d at home here vacant = subst (λ p. shows d p ≡ Vacant) here vacant

pub begun_as : (t u got : KernelCopying) (turn : StepResult (Unit {0})) → t ≡ u → got ≡ record u { phase = Kernel } → turn ≡ More → (v : View) (view : Option View)
    → IsToldStep t (record t { phase = Kernel }) v (Ok More) view → IsToldStep u got v (Ok turn) view
begun_as t u got turn same next turns v view told =
    told_as t u (record t { phase = Kernel }) got same (ap (λ (x : KernelCopying). record x { phase = Kernel }) same ∙ sym next) v (Ok turn) view
    (subst (λ r. IsToldStep t (record t { phase = Kernel }) v (Ok r) view) (sym turns) told)

module _ (t : KernelCopying) (made : IsMade t) (is : t.phase ≡ Folder) (v : View) (needs : Needs t v) where
  none_begun : differs_in t.phase t (record t { phase = Kernel }) v.now
  none_begun = subst (λ ph. differs_in ph t (record t { phase = Kernel }) v.now) (sym is) tt

  pub folder_told : shows v.now (home_of t) ≢ Vacant → (view : Option View) → view ≡ Some v → IsToldStep t (record t { phase = Kernel }) v (Ok More) view
  folder_told some view told = told_more t (record t { phase = Kernel }) v v view told (same_view (WritesOf t v) v) (folder_there t made is v needs some) none_begun

  module _ (tree : IsTree v.now) (vacant : shows v.now (home_of t) ≡ Vacant) (at : Path) (here : at ≡ t.folder) (m : Meta) (plain : m ≡ folder_meta) where
    step : Step (WritesOf t v) (Needs (record t { phase = Kernel })) v (no_new at v.now) (named at (value.Folder m) v)
    step = folder_at t made is v needs tree vacant at here m plain

    pub made_told : (view : Option View) → (no_new at v.now ≡ None) × (view ≡ Some (named at (value.Folder m) v)) → IsToldStep t (record t { phase = Kernel }) v (Ok More) view
    made_told view done = told_more t (record t { phase = Kernel }) v (named at (value.Folder m) v) view done.1 step.writes step.after none_begun

    pub unmade_told : (e : FsErr) (view : Option View) → Fails (no_new at v.now) v (named at (value.Folder m) v) e view → IsToldStep t t v (Err e) view
    unmade_told e view why = record {
      writes = err_writes (WritesOf t v) (Needs (record t { phase = Kernel })) v (no_new at v.now) (named at (value.Folder m) v) step e view why;
      after = tt;
      copied = tt;
      spares = tt;
      fails = err_fails (WritesOf t v) (Needs (record t { phase = Kernel })) v (no_new at v.now) (named at (value.Folder m) v) step (Refuses t v) (failed t.phase t v) (no_memory t.phase t v) e view why;
      unchanged = err_unchanged {T = StepResult (Unit {0})} (no_new at v.now) v (named at (value.Folder m) v) e view why;
    }

-- ---- the kernel's copy

pub first_goes : (t u : KernelCopying) → t ≡ u → u.phase ≡ Kernel → (d : Putting) → placing.IsStepped t.kernel (Ok More) d → IsStepped u (Ok More) (record t { kernel = d })
first_goes t u same is d stepped = subst (λ ph. steps_in ph u More (record t { kernel = d })) (sym is)
    (inl (record { copy = d; step = subst (λ (x : KernelCopying). placing.IsStepped x.kernel (Ok More) d) same stepped; turns = refl; is = ap (λ (x : KernelCopying). record x { kernel = d }) same }))

pub first_ends : (t u : KernelCopying) → t ≡ u → u.phase ≡ Kernel → (d : Putting) → placing.IsStepped t.kernel (Ok (Done tt)) d → (got : KernelCopying) (turn : StepResult (Unit {0}))
    → got ≡ record t { kernel = d; phase = then_phase t.initramfs } → turn ≡ then_turn t.initramfs → IsStepped u (Ok turn) got
first_ends t u same is d stepped got turn next turns = subst (λ ph. steps_in ph u turn got) (sym is)
    (inr (record {
      copy = d;
      step = subst (λ (x : KernelCopying). placing.IsStepped x.kernel (Ok (Done tt)) d) same stepped;
      turns = turns ∙ ap (λ (x : KernelCopying). then_turn x.initramfs) same;
      is = next ∙ ap (λ (x : KernelCopying). record x { kernel = d; phase = then_phase x.initramfs }) same;
    }))

first_refuses : (t : KernelCopying) (v : View) (e : FsErr) → put.Refuses t.kernel v e → refuses_in Kernel t v e
first_refuses t v Failed why = tt
first_refuses t v NoMemory why = tt
first_refuses t v Exists why = why
first_refuses t v Missing why = why
first_refuses t v NotFolder why = why
first_refuses t v NotEmpty why = why

then_copied : (i : Option Putting) (new : KernelCopying) (view : Option View) → Told view (needs_in (then_phase i) new) → OnDone (Ok (then_turn i)) (Told view (λ w. AreCopied w.now new.os new.files))
then_copied None new view meets = meets
then_copied (Some c) new view meets = tt

module _ (t : KernelCopying) (is : t.phase ≡ Kernel) (v : View) (view : Option View) (writes : Told view (λ w. Writes (put.WritesOf t.kernel v) v w)) where
  wrote_first : Told view (λ w. Writes (WritesOf t v) v w)
  wrote_first = (writes.0, writes.1, subst (λ ph. Writes (writes_in ph t v) v writes.0) (sym is) writes.2)

  pub first_unmade : (e : FsErr) → put.Refuses t.kernel v e → (IsErrOf {T = StepResult (Unit {0})} (Err e) NoMemory → view ≡ Some v) → IsToldStep t t v (Err e) view
  first_unmade e why still = record { writes = wrote_first; after = tt; copied = tt; spares = tt; fails = subst (λ ph. refuses_in ph t v e) (sym is) (first_refuses t v e why); unchanged = still }

  module _ (made : IsMade t) (needs : Needs t v) (d : Putting) (same : IsSamePut t.kernel d) (after : Told view (λ w. put.Needs d w)) (differs : Differs t.kernel d v.now) where
    pub first_told : IsToldStep t (record t { kernel = d }) v (Ok More) view
    first_told = record {
      writes = wrote_first;
      after = told_both view (λ w wrote next. kernel_goes t made is d same v w needs wrote next) writes after;
      copied = tt;
      spares = subst (λ ph. differs_in ph t (record t { kernel = d }) v.now) (sym is) differs;
      fails = tt;
      unchanged = λ e. absurd (not_err More e);
    }

    pub first_done : d.phase ≡ putting.Ended → (turn : StepResult (Unit {0})) → turn ≡ then_turn t.initramfs → IsToldStep t (record t { kernel = d; phase = then_phase t.initramfs }) v (Ok turn) view
    first_done ended turn turns =
        let next = told_both view (λ w wrote next. kernel_ends t made is d same v w needs wrote next ended) writes after in
        record {
          writes = wrote_first;
          after = next;
          copied = subst (λ x. OnDone (Ok x) (Told view (λ w. AreCopied w.now t.os t.files))) (sym turns) (then_copied t.initramfs (record t { kernel = d; phase = then_phase t.initramfs }) view (next.0, next.1, next.2.meets));
          spares = subst (λ ph. differs_in ph t (record t { kernel = d; phase = then_phase t.initramfs }) v.now) (sym is) differs;
          fails = tt;
          unchanged = λ e. absurd (not_err turn e);
        }

-- the copy that is being put
pub kernel_in : (t : KernelCopying) → t.phase ≡ Kernel → (v : View) → Needs t v → put.Needs t.kernel v
kernel_in t is v needs = (subst (λ ph. needs_in ph t v) is needs.meets).0

-- whether there is a second one
pub then_some : (o : Option Putting) → is_some o ≡ true → (then_phase o ≡ Initramfs) × (then_turn o ≡ More)
then_some None is = let n : false ≡ true = is in cc
then_some (Some c) is = (refl, refl)

pub then_none : (o : Option Putting) → is_some o ≡ false → (then_phase o ≡ Ended) × (then_turn o ≡ Done tt)
then_none None is = (refl, refl)
then_none (Some c) is = let n : true ≡ false = is in cc

-- ---- the second copy

pub second_steps : (t u : KernelCopying) → t ≡ u → u.phase ≡ Initramfs → (c d : Putting) → t.initramfs ≡ Some c → (turn : StepResult (Unit {0})) → placing.IsStepped c (Ok turn) d → (got : KernelCopying)
    → got ≡ record t { initramfs = Some d; phase = second_turn turn } → IsStepped u (Ok turn) got
second_steps t u same is c d at turn stepped got next = subst (λ ph. steps_in ph u turn got) (sym is)
    (record {
      before = c;
      copy = d;
      was = ap (λ (x : KernelCopying). x.initramfs) (sym same) ∙ at;
      step = stepped;
      is = next ∙ ap (λ (x : KernelCopying). record x { initramfs = Some d; phase = second_turn turn }) same;
    })

second_refuses : (t : KernelCopying) (v : View) (e : FsErr) → refuses_second t.initramfs v e → refuses_in Initramfs t v e
second_refuses t v Failed why = tt
second_refuses t v NoMemory why = tt
second_refuses t v Exists why = why
second_refuses t v Missing why = why
second_refuses t v NotFolder why = why
second_refuses t v NotEmpty why = why

-- that copy
pub second_in : (t : KernelCopying) → t.phase ≡ Initramfs → (c : Putting) → t.initramfs ≡ Some c → (v : View) → Needs t v → put.Needs c v
second_in t is c at v needs =
    let meets : needs_in Initramfs t v = subst (λ ph. needs_in ph t v) is needs.meets in
    subst (λ i. needs_second i v) at meets.1

module _ (t : KernelCopying) (is : t.phase ≡ Initramfs) (c : Putting) (at : t.initramfs ≡ Some c) (v : View) (view : Option View) (writes : Told view (λ w. Writes (put.WritesOf c v) v w)) where
  wrote_second : Told view (λ w. Writes (WritesOf t v) v w)
  wrote_second = (writes.0, writes.1, subst (λ ph. Writes (writes_in ph t v) v writes.0) (sym is) (subst (λ i. Writes (writes_second i v) v writes.0) (sym at) writes.2))

  pub second_unmade : (e : FsErr) → put.Refuses c v e → (IsErrOf {T = StepResult (Unit {0})} (Err e) NoMemory → view ≡ Some v) → IsToldStep t t v (Err e) view
  second_unmade e why still = record {
    writes = wrote_second;
    after = tt;
    copied = tt;
    spares = tt;
    fails = subst (λ ph. refuses_in ph t v e) (sym is) (second_refuses t v e (subst (λ i. refuses_second i v e) (sym at) why));
    unchanged = still;
  }

  module _ (made : IsMade t) (needs : Needs t v) (d : Putting) (same : IsSamePut c d) (after : Told view (λ w. put.Needs d w)) (differs : Differs c d v.now) where
    goes_over : (new : KernelCopying) → new.initramfs ≡ Some d → differs_in t.phase t new v.now
    goes_over new next = subst (λ ph. differs_in ph t new v.now) (sym is) (subst (λ i. differs_second i new.initramfs v.now) (sym at) (subst (λ i. differs_second (Some c) i v.now) (sym next) differs))

    pub second_told : IsToldStep t (record t { initramfs = Some d }) v (Ok More) view
    second_told = record {
      writes = wrote_second;
      after = told_both view (λ w wrote next. second_goes t made is c at d same v w needs wrote next) writes after;
      copied = tt;
      spares = goes_over (record t { initramfs = Some d }) refl;
      fails = tt;
      unchanged = λ e. absurd (not_err More e);
    }

    pub second_done : d.phase ≡ putting.Ended → IsToldStep t (record t { initramfs = Some d; phase = Ended }) v (Ok (Done tt)) view
    second_done ended =
        let next = told_both view (λ w wrote next. second_ends t made is c at d same v w needs wrote next ended) writes after in
        record {
          writes = wrote_second;
          after = next;
          copied = (next.0, next.1, next.2.meets);
          spares = goes_over (record t { initramfs = Some d; phase = Ended }) refl;
          fails = tt;
          unchanged = λ e. absurd (not_err (Done tt) e);
        }
