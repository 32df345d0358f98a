-- The steps that build the new deployment.
use Rattle.std.proofs.Common.{◌≡◌, inl, inr, ℕ, ◌+◌, ◌<◌, ◌≤◌, ◌^◌, arith, Bool, true, false, ◌||◌, List, ◌++◌, length, Option, Some, Result, Ok, Err, All, Contains, refl, sym, ◌∙◌, ap, subst, if◌then◌else◌}
use Rattle.std.specs.Prelude.{IsErrOf, nat_lt}
use Rattle.ost_types.specs.Path.{Path, is_below}
use Rattle.ost_types.specs.PathMap.{IsAscending, Nodes, paths_of}
use Rattle.ost_types.proofs.Paths.{is_below-self, is_below-under}
use Rattle.fs_trait.specs.declared.types.FsErr.{FsErr}
use Rattle.fs_trait.specs.declared.types.FsErr.TheVariants.{NoMemory}
use Rattle.fs_trait.specs.declared.task.StepResult.{StepResult}
use Rattle.fs_trait.specs.declared.task.StepResult.TheVariants.{More, Done}
use Rattle.fs_trait.specs.View.{View}
use Rattle.fs_trait.specs.Image.{EachImage, IsTree, Told}
use Rattle.fs_trait.specs.Seen.{Seen, Vacant, shows}
use Rattle.fs_trait.specs.Change.{Writes}
use Rattle.repo_layout.specs.RefFile.{IsSum}
use Rattle.repo_layout.specs.Paths.{deploy_path}
use Rattle.repo_layout.specs.BootPaths.{kernel_path}
use Rattle.boot_model.specs.declared.item.DepId.{DepId}
use Rattle.boot_model.specs.declared.item.BootItem.{BootItem}
use Rattle.boot_model.specs.Items.{IsItem}
use Rattle.deploy_etc.specs.Defaults.{AreDefaults, defaults_path}
use Rattle.deploy_etc.proofs.DefaultLemmas.{defaults_placed, has_folder}
use Rattle.checkout.specs.declared.checkout_phase.DestExists.{DestExists}
use Rattle.checkout.specs.declared.checkout_phase.CheckoutPhase.{CheckoutPhase}
use Rattle.checkout.specs.declared.checkout_phase.CheckoutPhase.TheVariants as out
use Rattle.checkout.specs.CheckoutWork as checkout
use Rattle.checkout.specs.CheckoutWork.{Answer, Checkout, IsPlaced}
use Rattle.tree_copy.specs.TreeFolder.{HasSources}
use Rattle.kernel_copy.specs.declared.files.KernelFiles.{KernelFiles}
use Rattle.kernel_copy.specs.Copies.{IsFor, initramfs_name, vmlinuz_name}
use Rattle.tree_read.proofs.Walk.{unmapped}
use Rattle.deployment_build.specs.declared.phase.BuildPhase.{BuildPhase}
use Rattle.deployment_build.specs.declared.phase.BuildPhase.TheVariants as building
use Rattle.deployment_build.specs.declared.deployment.NewDeployment.{NewDeployment}
use Rattle.deployment_build.specs.Deployment.{IsBuilt, MayBuild, folder_of, origin_of}
use Rattle.deployment_build.specs.Work as build
use Rattle.deployment_build.specs.Work.{Building, goes, goes_turn, stage_of}
use Rattle.deployment_build.specs.Steps as builds
use Rattle.deployment_build.specs.Steps.{HasGround, HasWay, first_tells}
use Rattle.deployment_build.proofs.Begins.{build_begun}
use Rattle.deployment_build.proofs.Same.{step_same}
use Rattle.deployment_build.proofs.Stable.{IsOwnPath, build_lies}
use Rattle.deploy_task.specs.declared.deploy.Deploy.{Deploy}
use Rattle.deploy_task.specs.declared.refusal.DeployRefusal.TheVariants as refusal
use Rattle.deploy_task.specs.declared.phase.Phase.{Phase}
use Rattle.deploy_task.specs.declared.phase.Phase.TheVariants.{BeginBuild, Build, BeginSwap}
use Rattle.deploy_task.specs.Listed.{IsNumbered, ids_in}
use Rattle.deploy_task.specs.Deploying.{Builds, Deploying, HasPlace, IsMade, IsStepped, MayDeploy, Turn, in_phase, steps_in, items_of, made_in, new_items, new_of}
use Rattle.deploy_task.specs.Lists.{Leaves}
use Rattle.deploy_task.specs.Steps.{IsCleaned, IsKnown, IsToldStep, Needs, WritesOf, free_in, needs_in, refuses_in, tells_in, writes_in}
use Rattle.deploy_task.proofs.Aside.{IsClosed, IsUnread, both_closed, both_unread, either_true, files_unread, first_true, kernel_unread, leaves_after, origin_unread, path_closed, places_after, settled_after, stage_unread}
use Rattle.deploy_task.proofs.Making.{made_with}
use Rattle.deploy_task.proofs.Numbers.{new_free, not_listed}
use Rattle.deploy_task.proofs.Telling.{told_more}

-- ---- two facts of one told view

pub told_both : {P Q R : View → Type 0} → (view : Option View) → ((w : View) → P w → Q w → R w) → Told view P → Told view Q → Told view R
told_both {P} {Q} {R} view both one other =
    let e : Some other.0 ≡ Some one.0 = sym other.1 ∙ one.1 in
    let same : other.0 ≡ one.0 = cc in
    (one.0, one.1, both one.0 one.2 (subst Q same other.2))

pub told_of : {P Q : View → Type 0} → (view : Option View) → ((w : View) → view ≡ Some w → P w → Q w) → Told view P → Told view Q
told_of view weaker told = (told.0, told.1, weaker told.0 told.1 told.2)

not_err : (turn : Turn) → IsErrOf {T = Turn} (Ok turn) NoMemory → ⊥
not_err turn is = let n : Ok turn ≡ Err NoMemory = is in cc

-- an error of one answer as that of another
pub same_error : (T U : Type 0) (e f : FsErr) → IsErrOf {T = T} (Err e) f → IsErrOf {T = U} (Err e) f
same_error T U e f is =
    let n : ◌≡◌ {A = Result T FsErr} (Err e) (Err f) = is in
    let k : e ≡ f = cc in
    subst (λ x. IsErrOf {T = U} (Err e) x) k refl

-- ---- where a build writes

-- in the files, at the origin file, where it stages, or in the folder of the kernel's copies
abbrev pub built_at : DepId → Path → KernelFiles → Path → Bool
built_at id stage files p = is_below (folder_of id) p || (is_below (origin_of id) p || (is_below stage p || is_below (kernel_path id.os files.bootcsum) p))

abbrev copied_at : Building → Path
copied_at b = kernel_path b.id.os b.kernel.files.bootcsum

module _ (b : Building) (p : Path) where
  copied : is_below (copied_at b) p ≡ true → built_at b.id (stage_of b) b.kernel.files p ≡ true
  copied e = either_true (is_below (folder_of b.id) p) _ (either_true (is_below (origin_of b.id) p) _ (either_true (is_below (stage_of b) p) (is_below (copied_at b) p) e))

  copy : (sum : List ℕ) → IsFor b.id.os b.kernel.files p sum → is_below (copied_at b) p ≡ true
  copy sum (inl c) = subst (λ q. is_below (copied_at b) q ≡ true) (sym c.0) (is_below-under (copied_at b) (copied_at b) (vmlinuz_name b.kernel.files.kver) (is_below-self (copied_at b)))
  copy sum (inr c) = subst (λ q. is_below (copied_at b) q ≡ true) (sym c.0) (is_below-under (copied_at b) (copied_at b) (initramfs_name b.kernel.files.kver) (is_below-self (copied_at b)))

  pub own_at : IsOwnPath b p → built_at b.id (stage_of b) b.kernel.files p ≡ true
  own_at (inl e) = first_true (is_below (folder_of b.id) p) _ e
  own_at (inr (inl e)) = either_true (is_below (folder_of b.id) p) _ (first_true (is_below (origin_of b.id) p) _ (subst (λ q. is_below (origin_of b.id) q ≡ true) (sym e) (is_below-self (origin_of b.id))))
  own_at (inr (inr (inl e))) =
      either_true (is_below (folder_of b.id) p) _ (either_true (is_below (origin_of b.id) p) _ (first_true (is_below (stage_of b) p) _ (subst (λ q. is_below (stage_of b) q ≡ true) (sym e) (is_below-self (stage_of b)))))
  own_at (inr (inr (inr (inl e)))) = copied (subst (λ q. is_below (copied_at b) q ≡ true) (sym e) (is_below-self (copied_at b)))
  own_at (inr (inr (inr (inr (sum, c))))) = copied (copy sum c)

built_closed : (id : DepId) (stage : Path) (files : KernelFiles) → IsClosed (built_at id stage files)
built_closed id stage files =
    both_closed (is_below (folder_of id)) (λ p. is_below (origin_of id) p || (is_below stage p || is_below (kernel_path id.os files.bootcsum) p)) (path_closed (folder_of id))
    (both_closed (is_below (origin_of id)) (λ p. is_below stage p || is_below (kernel_path id.os files.bootcsum) p) (path_closed (origin_of id))
    (both_closed (is_below stage) (is_below (kernel_path id.os files.bootcsum)) (path_closed stage) (path_closed (kernel_path id.os files.bootcsum))))

-- the members of a list have sums
pub sums_of : (items : List BootItem) → All IsItem items → (id : DepId) → Contains (ids_in items) id → IsSum id.commit
sums_of items each id among =
    let m = unmapped (λ (x : BootItem). x.id) items id among in
    let at = m.1 in
    let item : IsItem m.0 = subst IsItem at.2 (each at.0 m.0 at.1) in
    subst (λ (i : DepId). IsSum i.commit) (sym m.2) item.commit

-- none of that is where the list is read
pub built_unread : (t : Deploying) → IsMade t → (id : DepId) → id ≡ t.id → (stage : Path) → stage ≡ t.plan.stage → (files : KernelFiles) → IsUnread (built_at id stage files) (ids_in (items_of t.plan))
built_unread t made id same stage staged files =
    let ids = ids_in (items_of t.plan) in
    let sums = sums_of (items_of t.plan) made.may.items.each in
    let small : t.id.serial < 2 ^ 32 = let s = made.numbered.small in omega (arith, s) in
    let other = not_listed (items_of t.plan) t.plan.used.items t.plan.os t.plan.commit t.id t.kept made.numbered in
    let actor = made.may.staging in
    let staging : IsUnread (is_below stage) ids = subst (λ p. IsUnread (is_below p) ids) (sym (staged ∙ actor.1)) (stage_unread ids actor.0) in
    let files_ : IsUnread (is_below (folder_of id)) ids = subst (λ i. IsUnread (is_below (folder_of i)) ids) (sym same) (files_unread ids sums made.serials t.id made.item.commit small other) in
    let origin : IsUnread (is_below (origin_of id)) ids = subst (λ i. IsUnread (is_below (origin_of i)) ids) (sym same) (origin_unread ids sums made.serials t.id made.item.commit small) in
    both_unread (is_below (folder_of id)) (λ p. is_below (origin_of id) p || (is_below stage p || is_below (kernel_path id.os files.bootcsum) p)) ids files_
    (both_unread (is_below (origin_of id)) (λ p. is_below stage p || is_below (kernel_path id.os files.bootcsum) p) ids origin
    (both_unread (is_below stage) (is_below (kernel_path id.os files.bootcsum)) ids staging (kernel_unread ids id.os files.bootcsum)))

-- ---- what its steps come to

abbrev more : StepResult Answer
more = More

abbrev done : Unit {0} → StepResult Answer
done x = Done (Ok x)

abbrev refused : DestExists → StepResult Answer
refused e = Done (Err e)

-- behind its first step nothing is looked for
free_reached : (b : Bool) (n : ℕ) (s : Seen) → free_in building.Checkout (if b then out.Make (n + 1) else out.Ended) s
free_reached true n s = tt
free_reached false n s = tt

free_checkout : (ph : CheckoutPhase) (old new : Checkout) (s : Seen) → checkout.steps_in ph old More new → free_in building.Checkout new.phase s
free_checkout out.Begin old new s a = subst (λ x. free_in building.Checkout x s) (sym (ap (λ (c : Checkout). c.phase) a.1)) (free_reached (nat_lt (0 + 1) (length old.tree)) 0 s)
free_checkout (out.Make n) old new s a = subst (λ x. free_in building.Checkout x s) (sym (ap (λ (c : Checkout). c.phase) a.1)) (free_reached (nat_lt (n + 1) (length old.tree)) n s)
free_checkout out.Ended old new s a = let n : more ≡ done tt = a.0 in cc
free_checkout out.Refused old new s a = absurd a

free_goes : (old : Building) (c : Checkout) (inner : StepResult Answer) (s : Seen) → More ≡ goes_turn inner → checkout.steps_in old.checkout.phase old.checkout inner c → free_in (goes building.Checkout building.Etc inner) c.phase s
free_goes old c More s turns step = free_checkout old.checkout.phase old.checkout c s step
free_goes old c (Done (Ok x)) s turns step = tt
free_goes old c (Done (Err e)) s turns step = let n : more ≡ refused e = turns in cc

free_puts : (this next : BuildPhase) (inner : StepResult (Unit {0})) (ph : CheckoutPhase) (s : Seen) → ((q : CheckoutPhase) → free_in this q s) → ((q : CheckoutPhase) → free_in next q s) → free_in (build.puts this next inner) ph s
free_puts this next More ph s one other = one ph
free_puts this next (Done x) ph s one other = other ph

free_etc : (inner : StepResult Answer) (ph : CheckoutPhase) (s : Seen) → More ≡ goes_turn inner → free_in (goes building.Etc building.Origin inner) ph s
free_etc More ph s turns = tt
free_etc (Done (Ok x)) ph s turns = tt
free_etc (Done (Err e)) ph s turns = let n : more ≡ refused e = turns in cc

free_after : (ph : BuildPhase) (old new : Building) (s : Seen) → build.steps_in ph old More new → free_in new.phase new.checkout.phase s
free_after building.Checkout old new s a = subst (λ (x : Building). free_in x.phase x.checkout.phase s) (sym a.is) (free_goes old a.files a.inner s a.turns a.step)
free_after building.Etc old new s a = subst (λ (x : Building). free_in x.phase x.checkout.phase s) (sym a.is) (free_etc a.inner old.checkout.phase s a.turns)
free_after building.Origin old new s a = subst (λ (x : Building). free_in x.phase x.checkout.phase s) (sym a.is) (free_puts building.Origin building.Kernel a.inner old.checkout.phase s (λ q. tt) (λ q. tt))
free_after building.Kernel old new s a = subst (λ (x : Building). free_in x.phase x.checkout.phase s) (sym a.is) (free_puts building.Kernel building.Ended a.inner old.checkout.phase s (λ q. tt) (λ q. tt))
free_after building.Ended old new s a = let n : more ≡ done tt = a.0 in cc
free_after building.Refused old new s a = absurd a

-- where nothing stands it isn't refused
first_free : (ph : CheckoutPhase) (into : Path) (v w : View) (e : DestExists) → first_tells ph into v w (Done (Err e)) → free_in building.Checkout ph (shows v.now into) → ⊥
first_free out.Begin into v w e told free = told.0 free
first_free (out.Make n) into v w e told free = told
first_free out.Ended into v w e told free = told
first_free out.Refused into v w e told free = told

not_refused : (ph : BuildPhase) (old new : Building) (v w : View) (e : DestExists) → free_in ph old.checkout.phase (shows v.now (folder_of old.id)) → build.steps_in ph old (Done (Err e)) new → builds.tells_in ph old v w (Done (Err e)) → ⊥
not_refused building.Checkout old new v w e free step told = first_free old.checkout.phase (folder_of old.id) v w e told free
not_refused building.Etc old new v w e free step told = told
not_refused building.Origin old new v w e free step told = told
not_refused building.Kernel old new v w e free step told = told
not_refused building.Ended old new v w e free step told = let n : refused e ≡ done tt = step.0 in cc
not_refused building.Refused old new v w e free step told = free

-- what it is of stays
pub builds_on : (plan : Deploy) (id : DepId) (b d : Building) (turn : StepResult Answer) → Builds plan id b → build.IsStepped b (Ok turn) d → Builds plan id d
builds_on plan id b d turn of step =
    let same = step_same b d turn step in
    record { etc = of.etc; defaults = of.defaults; new = same.plan ∙ of.new; stage = same.stage ∙ of.stage }

-- ---- a step of it

module _ (t : Deploying) (b : Building) (is : t.phase ≡ Build b) (v : View) (needs : Needs t v) where
  part : made_in (Build b) t
  part = subst (λ ph. made_in ph t) is needs.made.part

  meets : needs_in (Build b) t v
  meets = subst (λ ph. needs_in ph t v) is needs.meets

  pub build_needs : builds.Needs b v
  build_needs = meets.0

  unread : IsUnread (built_at b.id (stage_of b) b.kernel.files) (ids_in (items_of t.plan))
  unread = built_unread t needs.made b.id (ap (λ (n : NewDeployment). n.id) part.1.new) (stage_of b) part.1.stage b.kernel.files

  within : (p : Path) (s : Seen) → builds.WritesOf b v p s → built_at b.id (stage_of b) b.kernel.files p ≡ true
  within p s wrote = own_at b p (build_lies b v meets.0 p s wrote).place

  known : (w : View) → Writes (builds.WritesOf b v) v w → IsKnown t.plan w
  known w writes = record {
    settled = settled_after (items_of t.plan) (built_at b.id (stage_of b) b.kernel.files) unread (builds.WritesOf b v) within v w writes meets.2.settled;
    places = places_after (items_of t.plan) (built_at b.id (stage_of b) b.kernel.files) unread (builds.WritesOf b v) within v w writes meets.2.places;
  }

  wrote : (view : Option View) → Told view (λ w. Writes (builds.WritesOf b v) v w) → Told view (λ w. Writes (WritesOf t v) v w)
  wrote view told = subst (λ ph. Told view (λ w. Writes (writes_in ph v) v w)) (sym is) told

  module _ (tree : IsTree v.now) (view : Option View) where
    leaves : Told view (λ w. Writes (builds.WritesOf b v) v w) → Told view (λ w. EachImage w (Leaves (items_of t.plan) (new_items t.plan t.id t.kept) v))
    leaves told = told_of view (λ w shown writes d image.
        leaves_after (items_of t.plan) (built_at b.id (stage_of b) b.kernel.files) unread (builds.WritesOf b v) within v w writes (built_closed b.id (stage_of b) b.kernel.files) tree d image (new_items t.plan t.id t.kept)) told

    pub build_more : (d : Building) → build.IsStepped b (Ok More) d → builds.IsToldStep b d v (Ok More) view → IsToldStep t (in_phase (Build d) t) v (Ok More) view
    build_more d step told = record {
      writes = wrote view told.writes;
      leaves = leaves told.writes;
      after = told_both view (λ w writes next. record {
        made = made_with t (Build d) needs.made (part.0, builds_on t.plan t.id b d More part.1 step);
        meets = (next, free_after b.phase b d (shows w.now (folder_of d.id)) step, known w writes);
      }) told.writes told.after;
      tells = subst (λ ph. tells_in ph (Build d) t v More) (sym is) tt;
      done = tt;
      fails = tt;
      unchanged = λ e. absurd (not_err More e);
    }

    pub build_done : (d : Building) (x : Unit {0}) → builds.IsToldStep b d v (Ok (Done (Ok x))) view → IsToldStep t (in_phase BeginSwap t) v (Ok More) view
    build_done d x told = record {
      writes = wrote view told.writes;
      leaves = leaves told.writes;
      after = told_both view (λ w writes built. record {
        made = made_with t BeginSwap needs.made part.0;
        meets = ((part.1.etc, part.1.defaults, subst (IsBuilt w.now) part.1.new built), known w writes);
      }) told.writes told.built;
      tells = subst (λ ph. tells_in ph BeginSwap t v More) (sym is) tt;
      done = tt;
      fails = tt;
      unchanged = λ e. absurd (not_err More e);
    }

    pub build_refused : (d : Building) (e : DestExists) → build.IsStepped b (Ok (Done (Err e))) d → builds.IsToldStep b d v (Ok (Done (Err e))) view
        → IsToldStep t (in_phase (Build d) t) v (Ok (Done (Err refusal.DestExists))) view
    build_refused d e step told = absurd (not_refused b.phase b d v told.tells.0 e meets.1 step told.tells.2)

    pub build_failed : (d : Building) (e : FsErr) → builds.IsToldStep b d v (Err e) view → (new : Deploying) → IsToldStep t new v (Err e) view
    build_failed d e told new = record {
      writes = wrote view told.writes;
      leaves = leaves told.writes;
      after = tt;
      tells = tt;
      done = tt;
      fails = subst (λ ph. refuses_in ph v e) (sym is) told.fails;
      unchanged = λ same. told.unchanged (same_error Turn (StepResult Answer) e NoMemory same);
    }

    -- as it is called

    module _ (d : Building) (r : Result (StepResult Answer) FsErr) (stepped : build.IsStepped b r d) (told : builds.IsToldStep b d v r view) where
      step_as : (inner : StepResult Answer) → r ≡ Ok inner → build.IsStepped b (Ok inner) d
      step_as inner ok = subst (λ x. build.IsStepped b x d) ok stepped

      told_by : (x : Result (StepResult Answer) FsErr) → r ≡ x → builds.IsToldStep b d v x view
      told_by x is = subst (λ y. builds.IsToldStep b d v y view) is told

      pub built_more : r ≡ Ok More → IsToldStep t (in_phase (Build d) t) v (Ok More) view
      built_more ok = build_more d (step_as More ok) (told_by (Ok More) ok)

      pub built_done : (x : Unit {0}) → r ≡ Ok (Done (Ok x)) → (ph : Phase) → ph ≡ BeginSwap → IsToldStep t (in_phase ph t) v (Ok More) view
      built_done x ok ph is = subst (λ q. IsToldStep t (in_phase q t) v (Ok More) view) (sym is) (build_done d x (told_by (Ok (Done (Ok x))) ok))

      pub built_refused : (e : DestExists) → r ≡ Ok (Done (Err e)) → IsToldStep t (in_phase (Build d) t) v (Ok (Done (Err refusal.DestExists))) view
      built_refused e ok = build_refused d e (step_as (Done (Err e)) ok) (told_by (Ok (Done (Err e))) ok)

      pub built_failed : (e : FsErr) → r ≡ Err e → (new : Deploying) → IsToldStep t new v (Err e) view
      built_failed e err new = build_failed d e (told_by (Err e) err) new

-- ---- its beginning

module _ (plan : Deploy) (id : DepId) (kept : List ℕ) (may : MayDeploy plan) (numbered : IsNumbered (items_of plan) plan.used.items plan.os plan.commit id kept)
    (etc : Nodes) (ascending : IsAscending (paths_of plan.tree)) (are : AreDefaults plan.tree etc) (few : length etc ≤ length plan.tree) where
  placed : IsPlaced (folder_of id) plan.tree
  placed = subst (λ o. IsPlaced (deploy_path o id.commit id.serial) plan.tree) (sym numbered.stateroot)
      (subst (λ c. IsPlaced (deploy_path plan.os c id.serial) plan.tree) (sym numbered.of_commit) (may.placed id.serial numbered.small))

  pub may_build : MayBuild plan.stage (new_of plan id etc)
  may_build = record {
    staging = may.staging;
    tree = placed;
    no_etc = may.kernel.0;
    etc = defaults_placed (folder_of id) plan.tree etc placed (has_folder plan.tree ascending may.kernel.1) are;
    few = let f = may.few in omega (arith, few, f);
    version = may.version;
  }

  pub may_build_as : (stage : Path) → stage ≡ plan.stage → (new : NewDeployment) → new ≡ new_of plan id etc → MayBuild stage new
  may_build_as stage one new two = subst (λ p. MayBuild p new) (sym one) (subst (MayBuild plan.stage) (sym two) may_build)

pub begun_of : (plan : Deploy) (id : DepId) (etc : Nodes) → AreDefaults plan.tree etc → Builds plan id (build.begun plan.stage (new_of plan id etc))
begun_of plan id etc are = record { etc = etc; defaults = are; new = refl; stage = refl }

module _ (t : Deploying) (is : t.phase ≡ BeginBuild) where
  place : IsMade t → HasPlace t
  place made = subst (λ ph. made_in ph t) is made.part

  pub begin_made : IsMade t → (etc : Nodes) → AreDefaults t.plan.tree etc → IsMade (in_phase (Build (build.begun t.plan.stage (new_of t.plan t.id etc))) t)
  begin_made made etc are = made_with t (Build (build.begun t.plan.stage (new_of t.plan t.id etc))) made (place made, begun_of t.plan t.id etc are)

  module _ (etc : Nodes) (are : AreDefaults t.plan.tree etc) (b : Building) (same : b ≡ build.begun t.plan.stage (new_of t.plan t.id etc)) where
    pub began_stepped : IsStepped t (Ok More) (in_phase (Build b) t)
    began_stepped = subst (λ ph. steps_in ph t More (in_phase (Build b) t)) (sym is) (etc, are, (refl, ap (λ x. in_phase (Build x) t) same))

    pub began_as : (ph : Phase) → ph ≡ Build b → (u : Deploying) → t ≡ u → IsStepped u (Ok More) (in_phase ph t)
    began_as ph at u as_seen = subst (λ x. IsStepped x (Ok More) (in_phase ph t)) as_seen (subst (λ q. IsStepped t (Ok More) (in_phase q t)) (sym at) began_stepped)

  module _ (v : View) (needs : Needs t v) (etc : Nodes) (are : AreDefaults t.plan.tree etc) where
    cleaned : IsCleaned t.plan v
    cleaned = subst (λ ph. needs_in ph t v) is needs.meets

    small : t.id.serial < 2 ^ 32
    small = let s = needs.made.numbered.small in omega (arith, s)

    sources : HasSources v.now etc
    sources p sum has = cleaned.ready.sources (defaults_path ++ p) sum (sym (are p) ∙ has)

    way : HasWay t.id.os v
    way = subst (λ o. HasWay o v) (sym needs.made.numbered.stateroot) cleaned.ready.way

    ground : HasGround t.plan.stage t.id.os t.plan.kernel v.now
    ground = subst (λ o. HasGround t.plan.stage o t.plan.kernel v.now) (sym needs.made.numbered.stateroot) cleaned.ready.ground

    vacant : shows v.now (folder_of t.id) ≡ Vacant
    vacant = new_free (items_of t.plan) t.plan.used.items t.plan.os t.plan.commit t.id t.kept needs.made.numbered needs.made.item.os needs.made.item.commit small v cleaned.clean

    pub build_begins : build.IsMade (build.begun t.plan.stage (new_of t.plan t.id etc)) → (view : Option View) → view ≡ Some v
        → IsToldStep t (in_phase (Build (build.begun t.plan.stage (new_of t.plan t.id etc))) t) v (Ok More) view
    build_begins made view told =
        let b = build.begun t.plan.stage (new_of t.plan t.id etc) in
        told_more t (in_phase (Build b) t) v view told
        (record {
          made = begin_made needs.made etc are;
          meets = (build_begun t.plan.stage (new_of t.plan t.id etc) v made way cleaned.ready.leaves sources ground, vacant, cleaned.ready.known);
        })
        (subst (λ ph. tells_in ph (Build b) t v More) (sym is) tt)

    pub build_began : (b : Building) → b ≡ build.begun t.plan.stage (new_of t.plan t.id etc) → build.IsMade b → (view : Option View) → view ≡ Some v → IsToldStep t (in_phase (Build b) t) v (Ok More) view
    build_began b same made view told = subst (λ x. IsToldStep t (in_phase (Build x) t) v (Ok More) view) (sym same) (build_begins (subst build.IsMade same made) view told)

    pub build_began_in : (b : Building) → b ≡ build.begun t.plan.stage (new_of t.plan t.id etc) → build.IsMade b → (ph : Phase) → ph ≡ Build b → IsToldStep t (in_phase ph t) v (Ok More) (Some v)
    build_began_in b same made ph at = subst (λ q. IsToldStep t (in_phase q t) v (Ok More) (Some v)) (sym at) (build_began b same made (Some v) refl)

-- as it is put together
pub begun_as : (plan : Deploy) (id : DepId) (etc : Nodes) (stage : Path) (new : NewDeployment) (b : Building) → stage ≡ plan.stage → new ≡ new_of plan id etc → b ≡ build.begun stage new → b ≡ build.begun plan.stage (new_of plan id etc)
begun_as plan id etc stage new b one two is = is ∙ ap (λ p. build.begun p new) one ∙ ap (build.begun plan.stage) two
