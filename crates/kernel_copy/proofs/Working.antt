-- The facts of the task from step to step.
use Rattle.std.proofs.Common.{◌≡◌, ◌≢◌, inl, inr, ℕ, true, refl, sym, ◌∙◌, ap, subst, List, [], ◌∷◌, Option, Some, None}
use Rattle.std.specs.Prelude.{IfSome}
use Rattle.std.specs.Option.{option_map}
use Rattle.ost_types.specs.declared.meta.Meta.{Meta}
use Rattle.ost_types.specs.Path.{Name, Path, under, is_in}
use Rattle.ost_types.proofs.Paths.{is_in-under, is_in-self}
use Rattle.fs_trait.specs.declared.types.Value.TheVariants as value
use Rattle.fs_trait.specs.View.{View, named}
use Rattle.fs_trait.specs.Image.{IsTree}
use Rattle.fs_trait.specs.Effect.{no_new}
use Rattle.fs_trait.specs.Seen.{Vacant, bytes_in, shows, MayShow, IsDirectory, NotDirectory}
use Rattle.fs_trait.specs.Change.{At, Writes}
use Rattle.fs_trait.proofs.Answering.{Step}
use Rattle.fs_trait.proofs.Claims.{folder_shows, reads_shows}
use Rattle.fs_trait.proofs.Effects.{named-writes, shows_named, shows_named_apart}
use Rattle.fs_trait.proofs.Facts.{no_new-free, vacant_absent}
use Rattle.fs_trait.proofs.Images.{not_both}
use Rattle.fs_trait.proofs.Kept.{weaker}
use Rattle.repo_layout.specs.declared.folder.Folder.TheVariants.{Kernels}
use Rattle.repo_layout.specs.Paths.{folder_path}
use Rattle.repo_layout.specs.BootPaths.{kernel_folder, kernel_path}
use Rattle.file_copy.specs.declared.putting.PutPhase.TheVariants as putting
use Rattle.file_copy.specs.Comparing.{AreSame}
use Rattle.file_copy.specs.Putting.{Putting}
use Rattle.file_copy.specs.PutSteps as put
use Rattle.folder_build.specs.Node.{folder_meta}
use Rattle.folder_build.specs.Steps.{HasHome}
use Rattle.kernel_copy.specs.declared.files.KernelFiles.{KernelFiles}
use Rattle.kernel_copy.specs.declared.phase.KernelPhase.TheVariants.{Folder, Kernel, Initramfs, Ended}
use Rattle.kernel_copy.specs.Copies.{IsCopy, file_path, initramfs_name, initramfs_path, vmlinuz_name, vmlinuz_path}
use Rattle.kernel_copy.specs.Work.{HasSecond, IsMade, IsPlaced, IsPut, IsWithin, KernelCopying, begun, home_of, put_begun, second_begun, stage_of, then_phase}
use Rattle.kernel_copy.specs.Steps.{HasObject, Needs, WritesOf, needs_in, needs_second, writes_in}
use Rattle.kernel_copy.proofs.CopyNames.{kernel_under}
use Rattle.kernel_copy.proofs.Apart.{above_folder, copies_apart, object_apart, object_folder, stage_copy, stage_folder}
use Rattle.kernel_copy.proofs.PutFacts.{IsSamePut, above_kept, reads_off, stage_kept, stages_kept}
use Rattle.kernel_copy.proofs.PutMeans.{both_copied, can_put, not_leaf, only_first, some_kept}

-- ---- the beginning

pub made_begun : (stage : Path) (os : Name) (files : KernelFiles) → IsPlaced stage os files → IsMade (begun stage os files)
made_begun stage os files placed = record { home = refl; placed = placed; first = record { target = refl; source = refl; stage = refl; meta = refl }; within = (refl, refl) }

-- the same of its parts
pub made_new : (stage : Path) (os : Name) (files : KernelFiles) → IsPlaced stage os files → (folder : Path) (kernel : Putting) (initramfs : Option Putting)
    → folder ≡ kernel_path os files.bootcsum → kernel ≡ put_begun stage (vmlinuz_path os files) files.kernel → initramfs ≡ second_begun stage os files
    → IsMade (record { os = os; files = files; folder = folder; kernel = kernel; initramfs = initramfs; phase = Folder })
made_new stage os files placed folder kernel initramfs home first second =
    subst (λ f. IsMade (record { os = os; files = files; folder = f; kernel = kernel; initramfs = initramfs; phase = Folder })) (sym home)
    (subst (λ k. IsMade (record { os = os; files = files; folder = kernel_path os files.bootcsum; kernel = k; initramfs = initramfs; phase = Folder })) (sym first)
    (subst (λ i. IsMade (record { os = os; files = files; folder = kernel_path os files.bootcsum; kernel = put_begun stage (vmlinuz_path os files) files.kernel; initramfs = i; phase = Folder })) (sym second)
    (made_begun stage os files placed)))

-- ---- the folder

module _ (t : KernelCopying) (made : IsMade t) (is : t.phase ≡ Folder) where
  both_begun : (t.kernel ≡ put_begun (stage_of t) (vmlinuz_path t.os t.files) t.files.kernel) × (t.initramfs ≡ second_begun (stage_of t) t.os t.files)
  both_begun = subst (λ ph. IsWithin ph t) is made.within

  pub made_begins : IsMade (record t { phase = Kernel })
  made_begins = record { home = made.home; placed = made.placed; first = made.first; within = both_begun.1 }

  -- once it is there the kernel's copy can be put
  begins : (w : View) → IsDirectory (shows w.now (home_of t)) → HasHome (home_of t) w.now → NotDirectory (shows w.now (stage_of t)) → HasHome (stage_of t) w.now
      → HasObject w.now t.files.kernel → IfSome t.files.initramfs (HasObject w.now) → Needs (record t { phase = Kernel }) w
  begins w there above free stages object second = record {
    made = made_begins;
    above = above;
    stage = free;
    stages = stages;
    meets = (
      subst (λ c. put.Needs c w) (sym both_begun.0) (can_put (stage_of t) t.os t.files (vmlinuz_name t.files.kver) t.files.kernel made.placed (inl (refl, refl)) w there free stages object),
      second,
    );
  }

  module _ (v : View) (needs : Needs t v) where
    in_first : needs_in Folder t v
    in_first = subst (λ ph. needs_in ph t v) is needs.meets

    pub folder_there : shows v.now (home_of t) ≢ Vacant → Needs (record t { phase = Kernel }) v
    folder_there some = begins v (not_leaf (shows v.now (home_of t)) in_first.0 some) needs.above needs.stage needs.stages in_first.1 in_first.2

    module _ (tree : IsTree v.now) (vacant : shows v.now (home_of t) ≡ Vacant) where
      abbrev new : View
      new = named (home_of t) (value.Folder folder_meta) v

      off : (p : Path) → p ≢ home_of t → shows new.now p ≡ shows v.now p
      off p apart = shows_named_apart v (home_of t) (value.Folder folder_meta) p (λ e. apart (sym e))

      object_on : (sum : List ℕ) → HasObject v.now sum → HasObject new.now sum
      object_on sum object = (
        object.0,
        reads_shows new.now (file_path sum) ∙ ap bytes_in (off (file_path sum) (object_folder sum t.os t.files.bootcsum)) ∙ sym (reads_shows v.now (file_path sum)) ∙ object.1,
      )

      free_new : no_new (home_of t) v.now ≡ None
      free_new =
          let top = folder_path Kernels in
          let name = kernel_folder t.os t.files.bootcsum in
          let up : home_of t ≡ under top name = kernel_under t.os t.files.bootcsum in
          let there = needs.above top (subst (λ q. is_in top q ≡ true) (sym up) (is_in-under top name)) in
          ap (λ q. no_new q v.now) up ∙ no_new-free v.now top name tree (folder_shows v.now top there) (vacant_absent v.now (under top name) (ap (shows v.now) (sym up) ∙ vacant))

      folder_step : Step (WritesOf t v) (Needs (record t { phase = Kernel })) v (no_new (home_of t) v.now) new
      folder_step = record {
        free = free_new;
        writes = subst (λ ph. Writes (writes_in ph t v) v new) (sym is)
            (weaker (At (home_of t) (MayShow v (value.Folder folder_meta))) (writes_in Folder t v) v new (λ p s a. (a.0, ap (shows v.now) a.0 ∙ vacant, a.1)) (named-writes v (home_of t) (value.Folder folder_meta)));
        after = begins new (subst IsDirectory (sym (shows_named v (home_of t) (value.Folder folder_meta))) tt)
            (λ p in_. subst IsDirectory (sym (off p (λ e. not_both (subst (λ q. is_in q (home_of t) ≡ true) e in_) (is_in-self (home_of t))))) (needs.above p in_))
            (subst NotDirectory (sym (off (stage_of t) (λ e. stage_folder (stage_of t) (home_of t) made.placed.outside (sym e)))) needs.stage)
            (λ p in_. subst IsDirectory (sym (off p (above_folder (stage_of t) (home_of t) made.placed.outside p in_))) (needs.stages p in_))
            (object_on t.files.kernel in_first.1)
            (some_kept t.files.initramfs (HasObject v.now) (HasObject new.now) (λ sum e. object_on sum) in_first.2);
      }

      -- the same, by the path and the attributes that the call had
      pub folder_at : (at : Path) → at ≡ t.folder → (m : Meta) → m ≡ folder_meta → Step (WritesOf t v) (Needs (record t { phase = Kernel })) v (no_new at v.now) (named at (value.Folder m) v)
      folder_at at here m plain =
          subst (λ k. Step (WritesOf t v) (Needs (record t { phase = Kernel })) v (no_new at v.now) (named at (value.Folder k) v)) (sym plain)
          (subst (λ p. Step (WritesOf t v) (Needs (record t { phase = Kernel })) v (no_new p v.now) (named p (value.Folder folder_meta) v)) (sym (here ∙ made.home)) folder_step)

-- ---- what comes behind the kernel's copy

second_within : (t : KernelCopying) → IsMade t → t.phase ≡ Kernel → (o : Option (List ℕ)) → t.files.initramfs ≡ o → IsWithin (then_phase t.initramfs) (record t { phase = then_phase t.initramfs })
second_within t made is None e =
    let waits : t.initramfs ≡ second_begun (stage_of t) t.os t.files = subst (λ ph. IsWithin ph t) is made.within in
    let none : t.initramfs ≡ None = waits ∙ ap (option_map (put_begun (stage_of t) (initramfs_path t.os t.files))) e in
    subst (λ i. IsWithin (then_phase i) (record t { phase = then_phase t.initramfs })) (sym none) tt
second_within t made is (Some sum) e =
    let waits : t.initramfs ≡ second_begun (stage_of t) t.os t.files = subst (λ ph. IsWithin ph t) is made.within in
    let c = put_begun (stage_of t) (initramfs_path t.os t.files) sum in
    let some : t.initramfs ≡ Some c = waits ∙ ap (option_map (put_begun (stage_of t) (initramfs_path t.os t.files))) e in
    let plain : IsPut c (stage_of t) (initramfs_path t.os t.files) sum = record { target = refl; source = refl; stage = refl; meta = refl } in
    subst (λ i. IsWithin (then_phase i) (record t { phase = then_phase t.initramfs })) (sym some) (record { putting = c; sum = sum; is = some; has = e; put = plain })

pub made_second : (t : KernelCopying) → IsMade t → t.phase ≡ Kernel → IsMade (record t { phase = then_phase t.initramfs })
made_second t made is = record { home = made.home; placed = made.placed; first = made.first; within = second_within t made is t.files.initramfs refl }

-- ---- the kernel's copy

module _ (t : KernelCopying) (made : IsMade t) (is : t.phase ≡ Kernel) (d : Putting) (same : IsSamePut t.kernel d) where
  first_of : IsPut d d.copying.stage (vmlinuz_path t.os t.files) t.files.kernel
  first_of = record { target = same.target ∙ made.first.target; source = same.source ∙ made.first.source; stage = refl; meta = same.meta ∙ made.first.meta }

  placed_of : IsPlaced d.copying.stage t.os t.files
  placed_of = subst (λ s. IsPlaced s t.os t.files) (sym same.stage) made.placed

  waits : t.initramfs ≡ second_begun d.copying.stage t.os t.files
  waits =
      let w : t.initramfs ≡ second_begun (stage_of t) t.os t.files = subst (λ ph. IsWithin ph t) is made.within in
      w ∙ ap (λ s. second_begun s t.os t.files) (sym same.stage)

  pub made_goes : IsMade (record t { kernel = d })
  made_goes = record { home = made.home; placed = placed_of; first = first_of; within = subst (λ ph. IsWithin ph (record t { kernel = d })) (sym is) waits }

  pub made_ends : IsMade (record t { kernel = d; phase = then_phase t.initramfs })
  made_ends = made_second (record t { kernel = d }) made_goes is

  module _ (v w : View) (needs : Needs t v) (writes : Writes (put.WritesOf t.kernel v) v w) (after : put.Needs d w) where
    in_kernel : needs_in Kernel t v
    in_kernel = subst (λ ph. needs_in ph t v) is needs.meets

    above_on : HasHome (home_of t) w.now
    above_on = above_kept t.kernel (stage_of t) (home_of t) (vmlinuz_name t.files.kver) made.first.stage made.first.target made.placed.outside v w in_kernel.0 writes needs.above

    stage_on : NotDirectory (shows w.now d.copying.stage)
    stage_on = subst (λ s. NotDirectory (shows w.now s)) (sym same.stage)
        (stage_kept t.kernel (stage_of t) (home_of t) (vmlinuz_name t.files.kver) made.first.stage made.first.target made.placed.outside v w in_kernel.0 writes needs.stage)

    stages_on : HasHome d.copying.stage w.now
    stages_on = subst (λ s. HasHome s w.now) (sym same.stage)
        (stages_kept t.kernel (stage_of t) (home_of t) (vmlinuz_name t.files.kver) made.first.stage made.first.target made.placed.outside v w in_kernel.0 writes needs.stages)

    second_on : IfSome t.files.initramfs (HasObject w.now)
    second_on = some_kept t.files.initramfs (HasObject v.now) (HasObject w.now)
        (λ sum e object. (
          object.0,
          reads_off t.kernel (stage_of t) (home_of t) (vmlinuz_name t.files.kver) made.first.stage made.first.target made.placed.outside v w in_kernel.0 writes (file_path sum)
              (made.placed.objects (initramfs_path t.os t.files) sum (inr (refl, e))) (object_apart sum t.os t.files.bootcsum (vmlinuz_name t.files.kver ∷ [])) ∙ object.1,
        )) in_kernel.1

    pub kernel_goes : Needs (record t { kernel = d }) w
    kernel_goes = record {
      made = made_goes;
      above = above_on;
      stage = stage_on;
      stages = stages_on;
      meets = subst (λ ph. needs_in ph (record t { kernel = d }) w) (sym is) (after, second_on);
    }

    module _ (ended : d.phase ≡ putting.Ended) where
      copied : IsCopy w.now (vmlinuz_path t.os t.files) t.files.kernel
      copied =
          let a : AreSame w.now d.at d.copying.from = subst (λ ph. put.needs_in ph d w) ended after.meets in
          subst (λ p. AreSame w.now p (file_path t.files.kernel)) first_of.target (subst (AreSame w.now d.at) first_of.source a)

      there : IsDirectory (shows w.now (home_of t))
      there = after.home (home_of t) (subst (λ q. is_in (home_of t) q ≡ true) (sym first_of.target) (is_in-under (home_of t) (vmlinuz_name t.files.kver)))

      meets_then : (o : Option (List ℕ)) → t.files.initramfs ≡ o → needs_in (then_phase t.initramfs) (record t { kernel = d; phase = then_phase t.initramfs }) w
      meets_then None e =
          let none : t.initramfs ≡ None = waits ∙ ap (option_map (put_begun d.copying.stage (initramfs_path t.os t.files))) e in
          subst (λ i. needs_in (then_phase i) (record t { kernel = d; phase = then_phase t.initramfs }) w) (sym none) (only_first w.now t.os t.files e copied)
      meets_then (Some sum) e =
          let some : t.initramfs ≡ Some (put_begun d.copying.stage (initramfs_path t.os t.files) sum) = waits ∙ ap (option_map (put_begun d.copying.stage (initramfs_path t.os t.files))) e in
          let object : HasObject w.now sum = subst (λ o. IfSome o (HasObject w.now)) e second_on in
          let begun = can_put d.copying.stage t.os t.files (initramfs_name t.files.kver) sum placed_of (inr (refl, e)) w there stage_on stages_on object in
          subst (λ i. needs_in (then_phase i) (record t { kernel = d; phase = then_phase t.initramfs }) w) (sym some) (copied, subst (λ i. needs_second i w) (sym some) begun)

      pub kernel_ends : Needs (record t { kernel = d; phase = then_phase t.initramfs }) w
      kernel_ends = record { made = made_ends; above = above_on; stage = stage_on; stages = stages_on; meets = meets_then t.files.initramfs refl }

-- ---- the second copy

module _ (t : KernelCopying) (made : IsMade t) (is : t.phase ≡ Initramfs) (c : Putting) (at : t.initramfs ≡ Some c) (d : Putting) (same : IsSamePut c d) where
  has_second : HasSecond t
  has_second = subst (λ ph. IsWithin ph t) is made.within

  second_of : IsPut c (stage_of t) (initramfs_path t.os t.files) has_second.sum
  second_of =
      let e : Some has_second.putting ≡ Some c = sym has_second.is ∙ at in
      let one : has_second.putting ≡ c = cc in
      subst (λ x. IsPut x (stage_of t) (initramfs_path t.os t.files) has_second.sum) one has_second.put

  next_of : IsPut d (stage_of t) (initramfs_path t.os t.files) has_second.sum
  next_of = record { target = same.target ∙ second_of.target; source = same.source ∙ second_of.source; stage = same.stage ∙ second_of.stage; meta = same.meta ∙ second_of.meta }

  pub made_second_goes : IsMade (record t { initramfs = Some d })
  made_second_goes = record {
    home = made.home;
    placed = made.placed;
    first = made.first;
    within = subst (λ ph. IsWithin ph (record t { initramfs = Some d })) (sym is) (record { putting = d; sum = has_second.sum; is = refl; has = has_second.has; put = next_of });
  }

  pub made_ended : IsMade (record t { initramfs = Some d; phase = Ended })
  made_ended = record { home = made.home; placed = made.placed; first = made.first; within = tt }

  module _ (v w : View) (needs : Needs t v) (writes : Writes (put.WritesOf c v) v w) (after : put.Needs d w) where
    in_second : needs_in Initramfs t v
    in_second = subst (λ ph. needs_in ph t v) is needs.meets

    pub second_needs : put.Needs c v
    second_needs = subst (λ i. needs_second i v) at in_second.1

    first_on : IsCopy w.now (vmlinuz_path t.os t.files) t.files.kernel
    first_on = (
      in_second.0.0,
      reads_off c (stage_of t) (home_of t) (initramfs_name t.files.kver) second_of.stage second_of.target made.placed.outside v w second_needs writes (vmlinuz_path t.os t.files)
          (λ e. stage_copy (stage_of t) (home_of t) made.placed.outside (vmlinuz_name t.files.kver) (sym e)) (copies_apart t.os t.files) ∙ in_second.0.1,
      reads_off c (stage_of t) (home_of t) (initramfs_name t.files.kver) second_of.stage second_of.target made.placed.outside v w second_needs writes (file_path t.files.kernel)
          (made.placed.objects (vmlinuz_path t.os t.files) t.files.kernel (inl (refl, refl))) (object_apart t.files.kernel t.os t.files.bootcsum (initramfs_name t.files.kver ∷ [])) ∙ in_second.0.2,
    )

    above_second : HasHome (home_of t) w.now
    above_second = above_kept c (stage_of t) (home_of t) (initramfs_name t.files.kver) second_of.stage second_of.target made.placed.outside v w second_needs writes needs.above

    stage_second : NotDirectory (shows w.now (stage_of t))
    stage_second = stage_kept c (stage_of t) (home_of t) (initramfs_name t.files.kver) second_of.stage second_of.target made.placed.outside v w second_needs writes needs.stage

    stages_second : HasHome (stage_of t) w.now
    stages_second = stages_kept c (stage_of t) (home_of t) (initramfs_name t.files.kver) second_of.stage second_of.target made.placed.outside v w second_needs writes needs.stages

    pub second_goes : Needs (record t { initramfs = Some d }) w
    second_goes = record {
      made = made_second_goes;
      above = above_second;
      stage = stage_second;
      stages = stages_second;
      meets = subst (λ ph. needs_in ph (record t { initramfs = Some d }) w) (sym is) (first_on, after);
    }

    pub second_ends : d.phase ≡ putting.Ended → Needs (record t { initramfs = Some d; phase = Ended }) w
    second_ends ended =
        let a : AreSame w.now d.at d.copying.from = subst (λ ph. put.needs_in ph d w) ended after.meets in
        let copied : IsCopy w.now (initramfs_path t.os t.files) has_second.sum = subst (λ p. AreSame w.now p (file_path has_second.sum)) next_of.target (subst (AreSame w.now d.at) next_of.source a) in
        record {
          made = made_ended;
          above = above_second;
          stage = stage_second;
          stages = stages_second;
          meets = both_copied w.now t.os t.files has_second.sum has_second.has first_on copied;
        }
