-- Where a step of the task writes, and that no list is read there.
use Rattle.std.proofs.Common.{◌≡◌, ◌≢◌, ◌⊎◌, inl, inr, ⊎_elim, ◌<◌, arith, Bool, true, false, List, [], ◌++◌, sym, ◌∙◌, ap, subst}
use Rattle.ost_types.specs.Path.{Path, is_below}
use Rattle.ost_types.proofs.Paths.{is_below-self}
use Rattle.fs_trait.specs.View.{Disk, View}
use Rattle.fs_trait.specs.Image.{Image}
use Rattle.fs_trait.specs.Seen.{Seen, shows}
use Rattle.fs_trait.proofs.Claims.{is_below-before}
use Rattle.fs_trait.proofs.Images.{not_both}
use Rattle.repo_layout.specs.declared.fixed.Version.{Version}
use Rattle.repo_layout.specs.declared.fixed.Version.TheVariants.{Zero, One}
use Rattle.repo_layout.specs.Fixed.{number}
use Rattle.repo_layout.specs.Place as place
use Rattle.repo_layout.specs.BootPaths.{boot_folder_path, boot_link_path, boot_link_stage_path, entry_path, kernel_path, loader_folder_path, loader_path, loader_stage_path}
use Rattle.boot_model.specs.declared.item.DepId.{DepId}
use Rattle.boot_model.specs.declared.item.BootItem.{BootItem}
use Rattle.boot_compare.specs.declared.choosing.Swap as which
use Rattle.boot_compare.specs.declared.choosing.Swap.TheVariants.{Loader as OfLoader, Sub as OfSub}
use Rattle.folder_build.specs.Node.{link_meta}
use Rattle.folder_build.specs.LinkSteps.{IsTheLink as IsPut}
use Rattle.folder_build.proofs.Lying.{link_lies}
use Rattle.kernel_copy.specs.declared.files.KernelFiles.{KernelFiles}
use Rattle.kernel_copy.specs.Copies.{IsFor}
use Rattle.deployment_build.specs.declared.deployment.NewDeployment.{NewDeployment}
use Rattle.deployment_build.specs.Deployment.{folder_of, origin_of}
use Rattle.deployment_build.specs.Work.{Building, stage_of}
use Rattle.deployment_build.specs.Steps as builds
use Rattle.deployment_build.proofs.Stable.{IsOwnPath, build_lies}
use Rattle.deploy_clean.specs.Steps as cleaning
use Rattle.deploy_clean.specs.Steps.{Goes}
use Rattle.deploy_clean.specs.Unlisted.{IsUnlisted}
use Rattle.deploy_clean.proofs.Keeping.{clean_lies}
use Rattle.boot_swap.specs.declared.phase.Phase as swapping
use Rattle.boot_swap.specs.declared.phase.Phase.TheVariants as phase
use Rattle.boot_swap.specs.Swap.{version_of}
use Rattle.boot_swap.specs.Steps as swaps
use Rattle.boot_swap.specs.Steps.{IsAside, IsTheLink, IsTheLoader, NotSelecting}
use Rattle.boot_swap.proofs.Spots.{Link, LinkFolder, LinkStage, Loader, LoaderFolder, LoaderStage, off_deployment, spots_apart}
use Rattle.boot_swap.proofs.Keeping.{entry_below}
use Rattle.boot_swap.proofs.Making.{at_phase, entries_lie, links_lie}
use Rattle.boot_swap.proofs.Safe as safe
use Rattle.boot_swap.proofs.Safe.{Unread, other_sub, other_version}
use Rattle.deploy_task.specs.declared.phase.Phase.{Phase}
use Rattle.deploy_task.specs.declared.phase.Phase.TheVariants.{Clean, Choose, Source, Etc, BeginBuild, Build, BeginSwap, Swap, Ended}
use Rattle.deploy_task.specs.Listed.{ids_in}
use Rattle.deploy_task.specs.Deploying.{Deploying, IsMade, items_of, made_in}
use Rattle.deploy_task.specs.Spared.{DeployLies, DeploySparesList, IsOwn, IsRename, ReadsList, lies_in, reads_version, renames_in, swaps_in}
use Rattle.deploy_task.specs.Steps.{Needs, needs_in, writes_in}
use Rattle.deploy_task.proofs.Aside.{IsUnread, files_unread, origin_unread}
use Rattle.deploy_task.proofs.BuildPart.{built_at, built_unread, own_at, sums_of}

-- ---- where it writes

pub swap_lies : (items : List BootItem) (ph : swapping.Phase) (v : View) → swaps.Needs (at_phase items ph) v → (p : Path) (s : Seen) → swaps.writes_in ph v p s → swaps_in ph v p s
swap_lies items (phase.Entries n b) v needs p s a = (needs.meets.0, entries_lie items n b v needs p s a)
swap_lies items (phase.Links u sub b) v needs p s a = (needs.meets.0, links_lie items u sub b v needs p s a)
swap_lies items (phase.ShowLink u sub l) v needs p s a = (
  needs.meets.0,
  ⊎_elim
      (λ below. inl (subst (λ q. is_below q p ≡ true) needs.made.part.stage below))
      (λ at. inr (at.0 ∙ needs.made.part.at, (link_meta, subst (λ t. IsPut t s) needs.made.part.target at.1)))
      (link_lies l v needs.meets.2.made p s a),
)
swap_lies items (phase.ShowLoader n l) v needs p s a = (
  needs.meets.0,
  ⊎_elim
      (λ below. inl (subst (λ q. is_below q p ≡ true) needs.made.part.stage below))
      (λ at. inr (at.0 ∙ needs.made.part.at, (link_meta, subst (λ t. IsPut t s) needs.made.part.target at.1)))
      (link_lies l v needs.meets.2.made p s a),
)
swap_lies items (phase.Choose c) v needs p s a = absurd a
swap_lies items (phase.BeginEntries n) v needs p s a = absurd a
swap_lies items (phase.LookLink u) v needs p s a = absurd a
swap_lies items (phase.BeginLink u sub) v needs p s a = absurd a
swap_lies items (phase.Barrier u sub) v needs p s a = absurd a
swap_lies items (phase.BeginLoader n) v needs p s a = absurd a
swap_lies items (phase.SyncFolder u) v needs p s a = absurd a
swap_lies items phase.Ended v needs p s a = absurd a

module _ (t : Deploying) (b : Building) (part : made_in (Build b) t) where
  id_is : b.id ≡ t.id
  id_is = ap (λ (n : NewDeployment). n.id) part.1.new

  kernel_is : b.kernel.files ≡ t.plan.kernel
  kernel_is = ap (λ (n : NewDeployment). n.kernel) part.1.new

  own_path : (p : Path) → IsOwnPath b p → IsOwn t p
  own_path p (inl e) = inl (subst (λ (i : DepId). is_below (folder_of i) p ≡ true) id_is e)
  own_path p (inr (inl e)) = inr (inl (e ∙ ap origin_of id_is))
  own_path p (inr (inr (inl e))) = inr (inr (inl (e ∙ part.1.stage)))
  own_path p (inr (inr (inr (inl e)))) = inr (inr (inr (inl (e ∙ ap (λ (i : DepId). kernel_path i.os b.kernel.files.bootcsum) id_is ∙ ap (λ (k : KernelFiles). kernel_path t.id.os k.bootcsum) kernel_is))))
  own_path p (inr (inr (inr (inr (sum, f))))) = inr (inr (inr (inr (sum, subst (λ (i : DepId). IsFor i.os t.plan.kernel p sum) id_is (subst (λ (k : KernelFiles). IsFor b.id.os k p sum) kernel_is f)))))

in_phase : (t : Deploying) (ph : Phase) → made_in ph t → (v : View) → needs_in ph t v → (p : Path) (s : Seen) → writes_in ph v p s → lies_in ph t v p s
in_phase t (Clean c) part v needs p s a = let l = clean_lies c v needs.0.made p s a in (subst (λ ids. Goes ids p) part l.0, l.1)
in_phase t (Build b) part v needs p s a = own_path t b part p (build_lies b v needs.0 p s a).place
in_phase t (Swap sw) part v needs p s a = swap_lies sw.items sw.phase v needs.0 p s a
in_phase t Choose part v needs p s a = absurd a
in_phase t (Source u) part v needs p s a = absurd a
in_phase t (Etc defaults u) part v needs p s a = absurd a
in_phase t BeginBuild part v needs p s a = absurd a
in_phase t BeginSwap part v needs p s a = absurd a
in_phase t Ended part v needs p s a = absurd a

pub deploy_lies : DeployLies
deploy_lies t v p s needs a = in_phase t t.phase needs.made.part v needs.meets p s a

-- ---- where no list is read

small : (n : Version) → number n < 2
small Zero = omega arith
small One = omega arith

version_outside : (ids : List DepId) (inside : Path → Bool) → IsUnread inside ids → (d : Disk) (n : Version) (p : Path) → reads_version d n p → inside p ≡ false
version_outside ids inside unread d n p (inl is) = ap inside is ∙ unread.link (number n) (small n)
version_outside ids inside unread d n p (inr (inl (file, is))) = ap inside is ∙ unread.entries (number n) file (small n)
version_outside ids inside unread d n p (inr (inr (sub, named, rest, is))) = ap inside is ∙ unread.links (number n) (number sub) rest (small n) (small sub)

list_outside : (ids : List DepId) (inside : Path → Bool) → IsUnread inside ids → (d : Disk) (p : Path) → ReadsList ids d p → inside p ≡ false
list_outside ids inside unread d p (inl is) = ap inside is ∙ unread.loader
list_outside ids inside unread d p (inr (inl (n, selects, reads))) = version_outside ids inside unread d n p reads
list_outside ids inside unread d p (inr (inr (id, among, is))) = ap inside is ∙ unread.deployments id among

gone_outside : (t : Deploying) → IsMade t → (p : Path) → Goes (ids_in (items_of t.plan)) p → (d : Disk) → ReadsList (ids_in (items_of t.plan)) d p → ⊥
gone_outside t made p goes d reads = by goes.1
  where
    by : IsUnlisted (ids_in (items_of t.plan)) goes.0 → ⊥
    by (id, free, inl is) =
        let unread = files_unread (ids_in (items_of t.plan)) (sums_of (items_of t.plan) made.may.items.each) made.serials id free.sum free.small free.unlisted in
        not_both (subst (λ q. is_below q p ≡ true) is goes.2) (list_outside (ids_in (items_of t.plan)) (is_below (folder_of id)) unread d p reads)
    by (id, free, inr is) =
        let unread = origin_unread (ids_in (items_of t.plan)) (sums_of (items_of t.plan) made.may.items.each) made.serials id free.sum free.small in
        not_both (subst (λ q. is_below q p ≡ true) is goes.2) (list_outside (ids_in (items_of t.plan)) (is_below (origin_of id)) unread d p reads)

-- a place of a swap that isn't selected
module _ (ids : List DepId) (inside : Path → Bool) (d : Disk) (loader : inside loader_path ≡ false) (unread : (m : Version) → IsTheLoader m (shows d loader_path) → Unread inside d m) (deployments : (id : DepId) → inside (folder_of id) ≡ false) where
  made_outside : (p : Path) → ReadsList ids d p → inside p ≡ false
  made_outside p (inl is) = ap inside is ∙ loader
  made_outside p (inr (inl (n, selects, inl is))) = ap inside is ∙ (unread n selects).link
  made_outside p (inr (inl (n, selects, inr (inl (file, is))))) = ap inside is ∙ (unread n selects).entries (entry_path (number n) file) (entry_below (number n) file)
  made_outside p (inr (inl (n, selects, inr (inr (sub, named, rest, is))))) = ap inside is ∙ (unread n selects).links sub named (boot_folder_path (number n) (number sub) ++ rest) (is_below-before (boot_folder_path (number n) (number sub)) rest)
  made_outside p (inr (inr (id, among, is))) = ap inside is ∙ deployments id

module _ (ids : List DepId) (v : View) (d : Disk) (image : Image v d) (p : Path) (s : Seen) where
  no_entries : (n : Version) → NotSelecting n v → is_below (loader_folder_path (number n)) p ≡ true → ReadsList ids d p → ⊥
  no_entries n none below reads = not_both below
      (made_outside ids (is_below (loader_folder_path (number n))) d (spots_apart (LoaderFolder n) Loader (λ e. let k : place.LoaderFolder (number n) [] ≡ place.Loader = e in cc)).down
      (λ m selects. safe.entries_unread n m d (other_version v d image m selects n none))
      (λ id. off_deployment (LoaderFolder n) id.os id.commit id.serial) p reads)

  unnamed : (u : which.Swap) (sub : Version) → IsAside u sub v → (m : Version) → IsTheLoader m (shows d loader_path) → (k : Version) → IsTheLink m k (shows d (boot_link_path (number m))) → m ≡ version_of u → k ≢ sub
  unnamed (OfLoader n) sub aside m selects k named same = absurd (other_version v d image m selects n aside same)
  unnamed (OfSub n) sub aside m selects k named same = other_sub v d image n sub k aside.1 (subst (λ j. IsTheLink j k (shows d (boot_link_path (number j)))) same named)

  no_links : (u : which.Swap) (sub : Version) → IsAside u sub v → is_below (boot_folder_path (number (version_of u)) (number sub)) p ≡ true → ReadsList ids d p → ⊥
  no_links u sub aside below reads = not_both below
      (made_outside ids (is_below (boot_folder_path (number (version_of u)) (number sub))) d
      (spots_apart (LinkFolder (version_of u) sub) Loader (λ e. let k : place.BootFolder (number (version_of u)) (number sub) [] ≡ place.Loader = e in cc)).down
      (λ m selects. safe.links_unread (version_of u) sub m d (unnamed u sub aside m selects))
      (λ id. off_deployment (LinkFolder (version_of u) sub) id.os id.commit id.serial) p reads)

  no_stage : is_below boot_link_stage_path p ≡ true → ReadsList ids d p → ⊥
  no_stage below reads = not_both below
      (made_outside ids (is_below boot_link_stage_path) d (spots_apart LinkStage Loader (λ e. let k : place.BootLinkStage ≡ place.Loader = e in cc)).down
      (λ m selects. safe.stage_unread m d) (λ id. off_deployment LinkStage id.os id.commit id.serial) p reads)

  no_loader_stage : is_below loader_stage_path p ≡ true → ReadsList ids d p → ⊥
  no_loader_stage below reads = not_both below
      (made_outside ids (is_below loader_stage_path) d (spots_apart LoaderStage Loader (λ e. let k : place.LoaderStage ≡ place.Loader = e in cc)).down
      (λ m selects. safe.loader_stage_unread m d) (λ id. off_deployment LoaderStage id.os id.commit id.serial) p reads)

  no_link : (n : Version) → NotSelecting n v → p ≡ boot_link_path (number n) → ReadsList ids d p → ⊥
  no_link n none at reads = not_both (subst (λ q. is_below (boot_link_path (number n)) q ≡ true) (sym at) (is_below-self (boot_link_path (number n))))
      (made_outside ids (is_below (boot_link_path (number n))) d (spots_apart (Link n) Loader (λ e. let k : place.BootLink (number n) ≡ place.Loader = e in cc)).down
      (λ m selects. safe.link_unread n m d (other_version v d image m selects n none))
      (λ id. off_deployment (Link n) id.os id.commit id.serial) p reads)

  renamed : (ph : swapping.Phase) → swaps_in ph v p s → ReadsList ids d p → renames_in ph p s
  renamed (phase.Entries n b) lies reads = absurd (no_entries n lies.0 lies.1 reads)
  renamed (phase.Links u sub b) lies reads = absurd (no_links u sub lies.0 lies.1 reads)
  renamed (phase.ShowLink (OfLoader n) sub l) lies reads = absurd (⊎_elim (λ below. no_stage below reads) (λ at. no_link n lies.0 at.0 reads) lies.1)
  renamed (phase.ShowLink (OfSub n) sub l) lies reads = ⊎_elim (λ below. absurd (no_stage below reads)) (λ at. at) lies.1
  renamed (phase.ShowLoader n l) lies reads = ⊎_elim (λ below. absurd (no_loader_stage below reads)) (λ at. at) lies.1
  renamed (phase.Choose c) lies reads = absurd lies
  renamed (phase.BeginEntries n) lies reads = absurd lies
  renamed (phase.LookLink u) lies reads = absurd lies
  renamed (phase.BeginLink u sub) lies reads = absurd lies
  renamed (phase.Barrier u sub) lies reads = absurd lies
  renamed (phase.BeginLoader n) lies reads = absurd lies
  renamed (phase.SyncFolder u) lies reads = absurd lies
  renamed phase.Ended lies reads = absurd lies

spared_in : (t : Deploying) → IsMade t → (ph : Phase) → made_in ph t → (v : View) → needs_in ph t v → (p : Path) (s : Seen) → writes_in ph v p s → (d : Disk) → Image v d → ReadsList (ids_in (items_of t.plan)) d p → IsRename ph p s
spared_in t made (Clean c) part v needs p s a d image reads = let l = clean_lies c v needs.0.made p s a in absurd (gone_outside t made p (subst (λ ids. Goes ids p) part l.0) d reads)
spared_in t made (Build b) part v needs p s a d image reads =
    let inside = own_at b p (build_lies b v needs.0 p s a).place in
    let unread = built_unread t made b.id (id_is t b part) (stage_of b) part.1.stage b.kernel.files in
    absurd (not_both inside (list_outside (ids_in (items_of t.plan)) (built_at b.id (stage_of b) b.kernel.files) unread d p reads))
spared_in t made (Swap sw) part v needs p s a d image reads = renamed (ids_in (items_of t.plan)) v d image p s sw.phase (swap_lies sw.items sw.phase v needs.0 p s a) reads
spared_in t made Choose part v needs p s a d image reads = absurd a
spared_in t made (Source u) part v needs p s a d image reads = absurd a
spared_in t made (Etc defaults u) part v needs p s a d image reads = absurd a
spared_in t made BeginBuild part v needs p s a d image reads = absurd a
spared_in t made BeginSwap part v needs p s a d image reads = absurd a
spared_in t made Ended part v needs p s a d image reads = absurd a

pub deploy_spares_list : DeploySparesList
deploy_spares_list t v p s needs a d image reads = spared_in t needs.made t.phase needs.made.part v needs.meets p s a d image reads
