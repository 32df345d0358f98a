-- What a task keeps and has after a step of each part.
use Rattle.std.proofs.Common.{◌≡◌, ◌<◌, ◌^◌, Bool, true, false, refl, sym, ◌∙◌, ap, subst, [], ◌∷◌, ◌++◌, length, codes, Some, None, Result, Ok, Err, append-nil, if◌then◌else◌}
use Rattle.std.specs.Prelude.{◌||◌}
use Rattle.ost_types.specs.Path.{Path, same_path}
use Rattle.ost_types.specs.PathMap.{Nodes, node_at}
use Rattle.ost_types.proofs.Paths.{same_path-Decides, under-folder, under-is_in}
use Rattle.fs_trait.specs.declared.types.FsErr.{FsErr}
use Rattle.fs_trait.specs.declared.task.StepResult.{StepResult}
use Rattle.fs_trait.specs.declared.task.StepResult.TheVariants.{More, Done}
use Rattle.fs_trait.specs.View.{View}
use Rattle.fs_trait.specs.Seen.{MayBe, Vacant, Directory, IsDirectory, shows}
use Rattle.fs_trait.specs.Change.{LeadsTo, Writes}
use Rattle.fs_trait.proofs.Effects.{may_now}
use Rattle.repo_layout.specs.Paths.{stage_path}
use Rattle.deploy_list.specs.Kernels.{has_etc, is_etc}
use Rattle.staged_file.specs.declared.phase.Phase.TheVariants as staged
use Rattle.staged_file.specs.Staged as staging
use Rattle.staged_file.specs.Staged.{Staged}
use Rattle.staged_file.specs.Steps as stagings
use Rattle.staged_file.specs.Steps.{IsFileWith}
use Rattle.staged_file.proofs.Begins.{needs_new}
use Rattle.staged_file.proofs.Stable.{ended_lasts}
use Rattle.staged_file.proofs.Wholes.{IsSame, same_stepped}
use Rattle.checkout.specs.declared.checkout_phase.CheckoutPhase.TheVariants as out
use Rattle.checkout.specs.CheckoutFolder.{IsCheckout, IsTreeMap, Stands}
use Rattle.checkout.specs.CheckoutWork as checkout
use Rattle.checkout.specs.CheckoutWork.{Answer}
use Rattle.checkout.specs.CheckoutSteps as checkouts
use Rattle.checkout.specs.CheckoutSteps.{HasHome}
use Rattle.tree_copy.specs.declared.phase.TreePhase.TheVariants as copy
use Rattle.tree_copy.specs.TreeFolder.{HasSources, IsCopy}
use Rattle.tree_copy.specs.TreeWork as tree
use Rattle.tree_copy.specs.TreeWork.{TreeCopying}
use Rattle.tree_copy.specs.TreeSteps as trees
use Rattle.kernel_copy.specs.Copies.{AreCopied}
use Rattle.kernel_copy.specs.Work as kernel
use Rattle.kernel_copy.specs.Work.{KernelCopying}
use Rattle.kernel_copy.specs.Steps as kernels
use Rattle.kernel_copy.proofs.Apart.{actor_stage}
use Rattle.kernel_copy.proofs.Stable.{copies_new}
use Rattle.kernel_copy.proofs.Telling.{IsSameTask, step_same}
use Rattle.deployment_build.specs.declared.phase.BuildPhase.{BuildPhase}
use Rattle.deployment_build.specs.declared.phase.BuildPhase.TheVariants.{Checkout, Etc, Origin, Kernel, Ended, Refused}
use Rattle.deployment_build.specs.Deployment.{HasOrigin, IsBuilt, deployments, etc_of, folder_of, origin_of}
use Rattle.deployment_build.specs.Work.{AreFiles, Building, IsMade, IsWithin, KernelWaits, goes, plan_of, puts, stage_of}
use Rattle.deployment_build.specs.Steps.{Ground, HasFiles, HasGround, HasWay, InCheckout, InEtc, InKernel, InOrigin, IsGoing, Needs, etc_free, needs_in}
use Rattle.deployment_build.proofs.Apart.{origin_placed}
use Rattle.deployment_build.proofs.Keeping.{etc_kept, files_kept, ground_kept, origin_kept, sources_kept, way_kept, way_spared}
use Rattle.deployment_build.proofs.Parts.{IsSameCheckout, IsSameTree, checkout_ends, checkout_going, checkout_same, origin_ends, tree_ends, tree_free, tree_same}
use Rattle.deployment_build.proofs.Spared.{IsElsewhere, IsInside, checkout_inside, etc_inside, etc_spared, etc_spares_files, files_spared, ground_spared, kernel_elsewhere, kernel_spares_origin, objects_spared, origin_elsewhere, origin_spares_ground}

-- ---- the tree has no `etc`

abbrev etc_path : Path
etc_path = codes "etc" ∷ []

no_etc_here : (p : Path) → is_etc p ≡ false → same_path p etc_path ≡ false
no_etc_here p no_ = by (same_path p etc_path) refl
  where
    by : (b : Bool) → same_path p etc_path ≡ b → b ≡ false
    by true is = let n : true ≡ false = sym (ap is_etc ((same_path-Decides p etc_path).0 is)) ∙ no_ in cc
    by false is = refl

neither : (a b : Bool) → (a || b) ≡ false → (a ≡ false) × (b ≡ false)
neither true b e = let n : true ≡ false = e in cc
neither false b e = (refl, e)

no_etc_node : (map : Nodes) → has_etc map ≡ false → node_at map etc_path ≡ None
no_etc_node [] none = refl
no_etc_node (e ∷ map) none =
    let n = neither (is_etc e.0) (has_etc map) none in
    ap (λ b. if b then Some e.1 else node_at map etc_path) (no_etc_here e.0 n.0) ∙ no_etc_node map n.1

-- ---- the checkout

module _ (t : Building) (made : IsMade t) (is : t.phase ≡ Checkout) (c : checkout.Checkout) where
  within_checkout : IsWithin Checkout t
  within_checkout = subst (λ ph. IsWithin ph t) is made.within

  made_files : IsSameCheckout t.checkout c → AreFiles c t.id
  made_files same = record {
    into = same.into ∙ made.files.into;
    shape = subst IsTreeMap (sym same.tree) made.files.shape;
    no_etc = ap has_etc same.tree ∙ made.files.no_etc;
  }

  made_checkout_as : IsSameCheckout t.checkout c → (ph : BuildPhase) → IsWithin ph (record t { checkout = c; phase = ph }) → IsMade (record t { checkout = c; phase = ph })
  made_checkout_as same ph within = record { stage = made.stage; files = made_files same; etc = made.etc; origin = made.origin; os = made.os; stages = made.stages; within = within }

  made_checkout_in : IsSameCheckout t.checkout c → (inner : StepResult Answer) → IsMade (record t { checkout = c; phase = goes Checkout Etc inner })
  made_checkout_in same More = made_checkout_as same Checkout within_checkout
  made_checkout_in same (Done (Ok x)) = made_checkout_as same Etc (within_checkout.1, within_checkout.2)
  made_checkout_in same (Done (Err e)) = made_checkout_as same Refused tt

  module _ (inner : StepResult Answer) (step : checkout.IsStepped t.checkout (Ok inner) c) where
    pub made_checkout : IsMade (record t { checkout = c; phase = goes Checkout Etc inner })
    made_checkout = made_checkout_in (checkout_same t.checkout c inner step) inner

  module _ (v : View) (needs : InCheckout t v) (w : View) (writes : Writes (checkouts.WritesOf t.checkout v) v w) where
    inside : IsInside (checkouts.WritesOf t.checkout v) t.id v
    inside = checkout_inside t.checkout t.id v made.files.into

    sources_after : HasSources w.now t.etc.tree
    sources_after = sources_kept (checkouts.WritesOf t.checkout v) v w writes t.etc.tree (λ p sum s has a. objects_spared (checkouts.WritesOf t.checkout v) t.id v inside sum s a) needs.sources

    way_after : HasWay t.id.os w
    way_after = way_kept (checkouts.WritesOf t.checkout v) v w writes t.id.os (way_spared (checkouts.WritesOf t.checkout v) v inside.folders t.id.os needs.way) needs.way

    ground_after : Ground t w.now
    ground_after = ground_kept (checkouts.WritesOf t.checkout v) v w writes (stage_of t) t.id.os t.kernel.files
        (ground_spared (checkouts.WritesOf t.checkout v) t.id v inside made.stage.0 (stage_of t) made.stage.1 t.id.os t.kernel.files) needs.ground

    module _ (next : checkouts.Needs c w.now) where
      goes_checkout : IsGoing c.phase → InCheckout (record t { checkout = c; phase = Checkout }) w
      goes_checkout going = record { part = next; going = going; sources = sources_after; way = way_after; ground = ground_after }

      -- once it is there
      module _ (same : IsSameCheckout t.checkout c) (ended : c.phase ≡ out.Ended) where
        all : IsCheckout w.now (folder_of t.id) c.tree
        all = subst (λ f. IsCheckout w.now f c.tree) (made_files same).into (subst (λ ph. checkouts.needs_in ph c w.now) ended next)

        vacant : shows w.now (etc_of t.id) ≡ Vacant
        vacant = subst (Stands w.now (folder_of t.id) etc_path) (no_etc_node c.tree (made_files same).no_etc) (all etc_path)

        folder_there : IsDirectory (shows w.now (folder_of t.id))
        folder_there =
            let root = (made_files same).shape.root in
            let stands : shows w.now (folder_of t.id ++ []) ≡ Directory root.0 = subst (Stands w.now (folder_of t.id) []) root.1 (all []) in
            subst IsDirectory (sym stands ∙ ap (λ p. shows w.now p) (append-nil (folder_of t.id))) tt

        home : HasHome (etc_of t.id) w.now
        home p in_ =
            let u = under-is_in p (etc_of t.id) in_ in
            subst (λ q. IsDirectory (shows w.now q)) (under-folder (folder_of t.id) p (codes "etc") u.0 u.1) folder_there

        ends_checkout : InEtc (record t { checkout = c; phase = Etc }) w
        ends_checkout = record {
          files = λ p out_. all p;
          part = subst (λ x. trees.Needs x w) (sym within_checkout.0) (home, sources_after);
          free = subst (λ (x : TreeCopying). etc_free x.phase (shows w.now (etc_of t.id))) (sym within_checkout.0) vacant;
          way = way_after;
          ground = ground_after;
        }

  after_checkout : (v : View) → InCheckout t v → (w : View) → Writes (checkouts.WritesOf t.checkout v) v w → checkouts.Needs c w.now → (inner : StepResult Answer)
      → checkout.IsStepped t.checkout (Ok inner) c → needs_in (goes Checkout Etc inner) (record t { checkout = c; phase = goes Checkout Etc inner }) w
  after_checkout v needs w writes next More step = goes_checkout v needs w writes next (checkout_going t.checkout c step)
  after_checkout v needs w writes next (Done (Ok x)) step = ends_checkout v needs w writes next (checkout_same t.checkout c (Done (Ok x)) step) (checkout_ends t.checkout c x step)
  after_checkout v needs w writes next (Done (Err e)) step = tt

  pub checkout_after : (v : View) → InCheckout t v → (w : View) → Writes (checkouts.WritesOf t.checkout v) v w → checkouts.Needs c w.now → (inner : StepResult Answer)
      → checkout.IsStepped t.checkout (Ok inner) c → Needs (record t { checkout = c; phase = goes Checkout Etc inner }) w
  checkout_after v needs w writes next inner step = record { made = made_checkout inner step; meets = after_checkout v needs w writes next inner step }

-- ---- the copy of `etc`

module _ (t : Building) (made : IsMade t) (is : t.phase ≡ Etc) (c : TreeCopying) where
  within_etc : IsWithin Etc t
  within_etc = subst (λ ph. IsWithin ph t) is made.within

  made_etc_as : IsSameTree t.etc c → (ph : BuildPhase) → IsWithin ph (record t { etc = c; phase = ph }) → IsMade (record t { etc = c; phase = ph })
  made_etc_as same ph within = record { stage = made.stage; files = made.files; etc = same.into ∙ made.etc; origin = made.origin; os = made.os; stages = made.stages; within = within }

  made_etc_in : IsSameTree t.etc c → (inner : StepResult Answer) → IsMade (record t { etc = c; phase = goes Etc Origin inner })
  made_etc_in same More = made_etc_as same Etc within_etc
  made_etc_in same (Done (Ok x)) = made_etc_as same Origin within_etc.1
  made_etc_in same (Done (Err e)) = made_etc_as same Refused tt

  module _ (inner : StepResult Answer) (step : tree.IsStepped t.etc (Ok inner) c) where
    pub made_etc : IsMade (record t { etc = c; phase = goes Etc Origin inner })
    made_etc = made_etc_in (tree_same t.etc c inner step) inner

  module _ (v : View) (needs : InEtc t v) (w : View) (writes : Writes (trees.WritesOf t.etc v) v w) where
    inside_etc : IsInside (trees.WritesOf t.etc v) t.id v
    inside_etc = etc_inside t.etc t.id v made.etc needs.part

    files_after_etc : HasFiles t w.now
    files_after_etc = files_kept (trees.WritesOf t.etc v) v w writes t.id t.checkout.tree (etc_spares_files t.etc t.id v made.etc needs.part t.checkout.tree) needs.files

    way_after_etc : HasWay t.id.os w
    way_after_etc = way_kept (trees.WritesOf t.etc v) v w writes t.id.os (way_spared (trees.WritesOf t.etc v) v inside_etc.folders t.id.os needs.way) needs.way

    ground_after_etc : Ground t w.now
    ground_after_etc = ground_kept (trees.WritesOf t.etc v) v w writes (stage_of t) t.id.os t.kernel.files
        (ground_spared (trees.WritesOf t.etc v) t.id v inside_etc made.stage.0 (stage_of t) made.stage.1 t.id.os t.kernel.files) needs.ground

    module _ (next : trees.Needs c w) where
      goes_etc : tree.IsStepped t.etc (Ok More) c → InEtc (record t { etc = c; phase = Etc }) w
      goes_etc step = record { files = files_after_etc; part = next; free = tree_free t.etc c (shows w.now (etc_of t.id)) step; way = way_after_etc; ground = ground_after_etc }

      origin_as : stagings.Needs t.origin w
      origin_as =
          let placed = subst (λ s. stagings.IsPlaced s (deployments t.id.os) (origin_of t.id)) (sym made.stage.1) (origin_placed t.id made.stage.0) in
          needs_new t.origin w within_etc.0
          (subst (λ f. stagings.IsPlaced (stage_of t) f t.origin.at) (sym made.origin.folder) (subst (λ a. stagings.IsPlaced (stage_of t) (deployments t.id.os) a) (sym made.origin.at) placed))
          (subst (λ f. (p : Path) (s : _) → MayBe w p s → LeadsTo f p s) (sym made.origin.folder) way_after_etc)
          ground_after_etc.free ground_after_etc.stages

      ends_etc : IsSameTree t.etc c → c.phase ≡ copy.Ended → InOrigin (record t { etc = c; phase = Origin }) w
      ends_etc same ended = record {
        files = files_after_etc;
        etc = subst (λ f. IsCopy w.now f c.tree) (same.into ∙ made.etc) (subst (λ ph. trees.needs_in ph c w) ended next);
        part = origin_as;
        ground = ground_after_etc;
      }

  after_etc : (v : View) → InEtc t v → (w : View) → Writes (trees.WritesOf t.etc v) v w → trees.Needs c w → (inner : StepResult Answer)
      → tree.IsStepped t.etc (Ok inner) c → needs_in (goes Etc Origin inner) (record t { etc = c; phase = goes Etc Origin inner }) w
  after_etc v needs w writes next More step = goes_etc v needs w writes next step
  after_etc v needs w writes next (Done (Ok x)) step = ends_etc v needs w writes next (tree_same t.etc c (Done (Ok x)) step) (tree_ends t.etc c x step)
  after_etc v needs w writes next (Done (Err e)) step = tt

  pub etc_after : (v : View) → InEtc t v → (w : View) → Writes (trees.WritesOf t.etc v) v w → trees.Needs c w → (inner : StepResult Answer)
      → tree.IsStepped t.etc (Ok inner) c → Needs (record t { etc = c; phase = goes Etc Origin inner }) w
  etc_after v needs w writes next inner step = record { made = made_etc inner step; meets = after_etc v needs w writes next inner step }

-- ---- the origin file

module _ (t : Building) (made : IsMade t) (is : t.phase ≡ Origin) (o : Staged) where
  within_origin : KernelWaits t
  within_origin = subst (λ ph. IsWithin ph t) is made.within

  module _ (same : IsSame t.origin o) where
    kernel_waits : t.kernel ≡ kernel.begun o.stage t.id.os t.kernel.files
    kernel_waits = within_origin ∙ ap (λ s. kernel.begun s t.id.os t.kernel.files) (sym same.stage)

    made_origin_as : (ph : BuildPhase) → IsWithin ph (record t { origin = o; phase = ph }) → IsMade (record t { origin = o; phase = ph })
    made_origin_as ph within = record {
      stage = (made.stage.0, same.stage ∙ made.stage.1);
      files = made.files;
      etc = made.etc;
      origin = record { folder = same.folder ∙ made.origin.folder; at = same.at ∙ made.origin.at; meta = same.meta ∙ made.origin.meta; short = subst (λ b. length b < 2 ^ 63) (sym same.bytes) made.origin.short };
      os = made.os;
      stages = made.stages ∙ sym same.stage;
      within = within;
    }

    made_origin_in : (inner : StepResult (Unit {0})) → IsMade (record t { origin = o; phase = puts Origin Kernel inner })
    made_origin_in More = made_origin_as Origin kernel_waits
    made_origin_in (Done x) = made_origin_as Kernel tt

  same_origin : (inner : StepResult (Unit {0})) → staging.IsStepped t.origin (Ok inner) o → IsSame t.origin o
  same_origin inner step = same_stepped t.origin (Ok inner) o step

  pub made_origin : (inner : StepResult (Unit {0})) → staging.IsStepped t.origin (Ok inner) o → IsMade (record t { origin = o; phase = puts Origin Kernel inner })
  made_origin inner step = made_origin_in (same_origin inner step) inner

  module _ (v : View) (needs : InOrigin t v) (w : View) (writes : Writes (stagings.WritesOf t.origin v) v w) where
    elsewhere : IsElsewhere (stagings.WritesOf t.origin v) t.id (stage_of t) v
    elsewhere = origin_elsewhere t.origin t.id made.stage.0 made.stage.1 made.origin.at v needs.part

    files_after_origin : HasFiles t w.now
    files_after_origin = files_kept (stagings.WritesOf t.origin v) v w writes t.id t.checkout.tree
        (files_spared (stagings.WritesOf t.origin v) t.id made.stage.0 (stage_of t) made.stage.1 v elsewhere t.checkout.tree) needs.files

    etc_after_origin : IsCopy w.now (etc_of t.id) t.etc.tree
    etc_after_origin = etc_kept (stagings.WritesOf t.origin v) v w writes t.id t.etc.tree
        (etc_spared (stagings.WritesOf t.origin v) t.id made.stage.0 (stage_of t) made.stage.1 v elsewhere t.etc.tree) needs.etc

    ground_after_origin : Ground t w.now
    ground_after_origin = ground_kept (stagings.WritesOf t.origin v) v w writes (stage_of t) t.id.os t.kernel.files
        (origin_spares_ground t.origin t.id made.stage.0 made.stage.1 made.origin.at v needs.part t.id.os t.kernel.files) needs.ground

    module _ (next : stagings.Needs o w) (same : IsSame t.origin o) where
      goes_origin : InOrigin (record t { origin = o; phase = Origin }) w
      goes_origin = record {
        files = files_after_origin;
        etc = etc_after_origin;
        part = next;
        ground = subst (λ s. HasGround s t.id.os t.kernel.files w.now) (sym same.stage) ground_after_origin;
      }

      kernel_as : kernels.Needs t.kernel w
      kernel_as =
          let g = ground_after_origin in
          let placed = subst (λ s. kernel.IsPlaced s t.id.os t.kernel.files) (sym made.stage.1) (actor_stage made.stage.0 t.id.os t.kernel.files) in
          subst (λ k. kernels.Needs k w) (sym within_origin) (copies_new (stage_of t) t.id.os t.kernel.files w placed g.above g.folder g.stages g.free g.kernel g.initramfs)

      origin_there : o.phase ≡ staged.Ended → HasOrigin w.now t.id o.bytes
      origin_there ended =
          let file : IsFileWith o.meta o.bytes (shows w.now o.at) = ended_lasts o w next ended (shows w.now o.at) (may_now w o.at) in
          subst (λ m. IsFileWith m o.bytes (shows w.now (origin_of t.id))) (same.meta ∙ made.origin.meta) (subst (λ p. IsFileWith o.meta o.bytes (shows w.now p)) (same.at ∙ made.origin.at) file)

      ends_origin : o.phase ≡ staged.Ended → InKernel (record t { origin = o; phase = Kernel }) w
      ends_origin ended = record { files = files_after_origin; etc = etc_after_origin; origin = origin_there ended; part = kernel_as }

  after_origin : (v : View) → InOrigin t v → (w : View) → Writes (stagings.WritesOf t.origin v) v w → stagings.Needs o w → (inner : StepResult (Unit {0}))
      → staging.IsStepped t.origin (Ok inner) o → needs_in (puts Origin Kernel inner) (record t { origin = o; phase = puts Origin Kernel inner }) w
  after_origin v needs w writes next More step = goes_origin v needs w writes next (same_origin More step)
  after_origin v needs w writes next (Done x) step = ends_origin v needs w writes next (same_origin (Done x) step) (origin_ends t.origin o x step)

  pub origin_after : (v : View) → InOrigin t v → (w : View) → Writes (stagings.WritesOf t.origin v) v w → stagings.Needs o w → (inner : StepResult (Unit {0}))
      → staging.IsStepped t.origin (Ok inner) o → Needs (record t { origin = o; phase = puts Origin Kernel inner }) w
  origin_after v needs w writes next inner step = record { made = made_origin inner step; meets = after_origin v needs w writes next inner step }

-- ---- the copies of the kernel

module _ (t : Building) (made : IsMade t) (is : t.phase ≡ Kernel) (k : KernelCopying) where
  made_kernel_as : IsSameTask t.kernel k → (ph : BuildPhase) → IsWithin ph (record t { kernel = k; phase = ph }) → IsMade (record t { kernel = k; phase = ph })
  made_kernel_as same ph within = record { stage = made.stage; files = made.files; etc = made.etc; origin = made.origin; os = same.os ∙ made.os; stages = same.stage ∙ made.stages; within = within }

  made_kernel_in : IsSameTask t.kernel k → (inner : StepResult (Unit {0})) → IsMade (record t { kernel = k; phase = puts Kernel Ended inner })
  made_kernel_in same More = made_kernel_as same Kernel tt
  made_kernel_in same (Done x) = made_kernel_as same Ended tt

  pub made_kernel : (inner : StepResult (Unit {0})) → kernel.IsStepped t.kernel (Ok inner) k → IsMade (record t { kernel = k; phase = puts Kernel Ended inner })
  made_kernel inner step = made_kernel_in (step_same t.kernel k inner step) inner

  module _ (v : View) (needs : InKernel t v) (w : View) (writes : Writes (kernels.WritesOf t.kernel v) v w) where
    staged_at : kernel.stage_of t.kernel ≡ stage_path made.stage.0
    staged_at = made.stages ∙ made.stage.1

    elsewhere_kernel : IsElsewhere (kernels.WritesOf t.kernel v) t.id (kernel.stage_of t.kernel) v
    elsewhere_kernel = kernel_elsewhere t.kernel t.id made.stage.0 staged_at v needs.part

    files_after_kernel : HasFiles t w.now
    files_after_kernel = files_kept (kernels.WritesOf t.kernel v) v w writes t.id t.checkout.tree
        (files_spared (kernels.WritesOf t.kernel v) t.id made.stage.0 (kernel.stage_of t.kernel) staged_at v elsewhere_kernel t.checkout.tree) needs.files

    etc_after_kernel : IsCopy w.now (etc_of t.id) t.etc.tree
    etc_after_kernel = etc_kept (kernels.WritesOf t.kernel v) v w writes t.id t.etc.tree
        (etc_spared (kernels.WritesOf t.kernel v) t.id made.stage.0 (kernel.stage_of t.kernel) staged_at v elsewhere_kernel t.etc.tree) needs.etc

    origin_after_kernel : HasOrigin w.now t.id t.origin.bytes
    origin_after_kernel = origin_kept (kernels.WritesOf t.kernel v) v w writes t.id t.origin.bytes (kernel_spares_origin t.kernel t.id made.stage.0 staged_at v needs.part) needs.origin

    goes_kernel : kernels.Needs k w → InKernel (record t { kernel = k; phase = Kernel }) w
    goes_kernel next = record { files = files_after_kernel; etc = etc_after_kernel; origin = origin_after_kernel; part = next }

    -- all is built
    pub built : AreCopied w.now t.kernel.os t.kernel.files → IsBuilt w.now (plan_of t)
    built copied = record { files = files_after_kernel; etc = etc_after_kernel; origin = origin_after_kernel; kernel = subst (λ o. AreCopied w.now o t.kernel.files) made.os copied }

  built_as : (w : View) → IsSameTask t.kernel k → IsBuilt w.now (plan_of t) → IsBuilt w.now (plan_of (record t { kernel = k; phase = Ended }))
  built_as w same b = record { files = b.files; etc = b.etc; origin = b.origin; kernel = subst (λ f. AreCopied w.now t.id.os f) (sym same.files) b.kernel }

  pub kernel_goes : (v : View) → InKernel t v → (w : View) → Writes (kernels.WritesOf t.kernel v) v w → kernels.Needs k w → kernel.IsStepped t.kernel (Ok More) k → Needs (record t { kernel = k; phase = Kernel }) w
  kernel_goes v needs w writes next step = record { made = made_kernel More step; meets = goes_kernel v needs w writes next }

  pub kernel_ends : (w : View) (x : Unit {0}) → IsBuilt w.now (plan_of t) → kernel.IsStepped t.kernel (Ok (Done x)) k → Needs (record t { kernel = k; phase = Ended }) w
  kernel_ends w x b step = record { made = made_kernel (Done x) step; meets = built_as w (step_same t.kernel k (Done x) step) b }

-- ---- as they are called

pub checkout_keeps : (t : Building) → IsMade t → t.phase ≡ Checkout → (c : checkout.Checkout) (r : Result (StepResult Answer) FsErr) (inner : StepResult Answer) → r ≡ Ok inner → checkout.IsStepped t.checkout r c
    → (ph : BuildPhase) → ph ≡ goes Checkout Etc inner → IsMade (record t { checkout = c; phase = ph })
checkout_keeps t made is c r inner ok step ph phases =
    subst (λ p. IsMade (record t { checkout = c; phase = p })) (sym phases) (made_checkout t made is c inner (subst (λ x. checkout.IsStepped t.checkout x c) ok step))

pub etc_keeps : (t : Building) → IsMade t → t.phase ≡ Etc → (c : TreeCopying) (r : Result (StepResult Answer) FsErr) (inner : StepResult Answer) → r ≡ Ok inner → tree.IsStepped t.etc r c
    → (ph : BuildPhase) → ph ≡ goes Etc Origin inner → IsMade (record t { etc = c; phase = ph })
etc_keeps t made is c r inner ok step ph phases =
    subst (λ p. IsMade (record t { etc = c; phase = p })) (sym phases) (made_etc t made is c inner (subst (λ x. tree.IsStepped t.etc x c) ok step))

pub origin_keeps : (t : Building) → IsMade t → t.phase ≡ Origin → (o : Staged) (r : Result (StepResult (Unit {0})) FsErr) (inner : StepResult (Unit {0})) → r ≡ Ok inner → staging.IsStepped t.origin r o
    → (ph : BuildPhase) → ph ≡ puts Origin Kernel inner → IsMade (record t { origin = o; phase = ph })
origin_keeps t made is o r inner ok step ph phases =
    subst (λ p. IsMade (record t { origin = o; phase = p })) (sym phases) (made_origin t made is o inner (subst (λ x. staging.IsStepped t.origin x o) ok step))

pub kernel_keeps : (t : Building) → IsMade t → t.phase ≡ Kernel → (k : KernelCopying) (r : Result (StepResult (Unit {0})) FsErr) (inner : StepResult (Unit {0})) → r ≡ Ok inner → kernel.IsStepped t.kernel r k
    → (ph : BuildPhase) → ph ≡ puts Kernel Ended inner → IsMade (record t { kernel = k; phase = ph })
kernel_keeps t made is k r inner ok step ph phases =
    subst (λ p. IsMade (record t { kernel = k; phase = p })) (sym phases) (made_kernel t made is k inner (subst (λ x. kernel.IsStepped t.kernel x k) ok step))
