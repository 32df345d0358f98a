-- The steps that let the new list boot.
use Rattle.std.proofs.Common.{◌≡◌, ◌⊎◌, inl, inr, ⊎_elim, ℕ, arith, true, false, List, [], ◌∷◌, ◌++◌, length, Option, Some, Result, Ok, Err, refl, sym, ◌∙◌, ap, subst, append-nil}
use Rattle.std.specs.Prelude.{IsErrOf}
use Rattle.ost_types.specs.declared.meta.Meta.{Meta}
use Rattle.ost_types.specs.Path.{Name, Path, is_below}
use Rattle.fs_trait.specs.declared.types.FsErr.{FsErr}
use Rattle.fs_trait.specs.declared.types.FsErr.TheVariants.{NoMemory}
use Rattle.fs_trait.specs.declared.types.Value.TheVariants.{File}
use Rattle.fs_trait.specs.declared.task.StepResult.{StepResult}
use Rattle.fs_trait.specs.declared.task.StepResult.TheVariants.{More, Done}
use Rattle.fs_trait.specs.View.{Disk, View}
use Rattle.fs_trait.specs.Image.{EachImage, IsTree, Told}
use Rattle.fs_trait.specs.Effect.{IsFresh}
use Rattle.fs_trait.specs.Seen.{Seen, Vacant, Directory, Symlink, Leaf, shows, IsDirectory}
use Rattle.fs_trait.specs.Change.{Writes}
use Rattle.fs_trait.proofs.Images.{not_both}
use Rattle.repo_layout.specs.Paths.{deploy_path, object_path}
use Rattle.repo_layout.specs.BootPaths.{boot_folder_path, boot_link_path, kernel_path, loader_folder_path, origin_path}
use Rattle.boot_model.specs.declared.item.DepId.{DepId}
use Rattle.boot_model.specs.declared.item.BootItem.{BootItem}
use Rattle.boot_model.specs.Items.{AreItems}
use Rattle.boot_model.specs.Listing.{Boots, SameList}
use Rattle.file_copy.proofs.CopyLemmas.{reads_kept}
use Rattle.checkout.specs.CheckoutFolder.{Stands, leaf_path}
use Rattle.folder_build.specs.declared.node.Content.{Content}
use Rattle.folder_build.specs.declared.node.Content.TheVariants as content
use Rattle.folder_build.specs.declared.phase.Phase as folder_phase
use Rattle.folder_build.specs.declared.phase.Phase.TheVariants as folder
use Rattle.folder_build.specs.declared.link.LinkPhase.{LinkPhase}
use Rattle.folder_build.specs.declared.link.LinkPhase.TheVariants as put
use Rattle.folder_build.specs.Build as making
use Rattle.folder_build.specs.Steps as folders
use Rattle.folder_build.specs.Link.{Linking}
use Rattle.folder_build.specs.LinkSteps as links
use Rattle.kernel_copy.specs.declared.files.KernelFiles.{KernelFiles}
use Rattle.kernel_copy.specs.Copies.{IsFor, initramfs_name, vmlinuz_name}
use Rattle.deployment_build.specs.declared.deployment.NewDeployment.{NewDeployment}
use Rattle.deployment_build.specs.Deployment.{IsBuilt, etc_of, folder_of, origin_of}
use Rattle.deployment_build.proofs.Keeping.{etc_kept, files_kept, origin_kept}
use Rattle.deploy_list.specs.Lists.{stays_at}
use Rattle.boot_swap.specs.declared.phase.Phase as swap_phase
use Rattle.boot_swap.specs.declared.phase.Phase.TheVariants as phase
use Rattle.boot_swap.specs.Swap as swap
use Rattle.boot_swap.specs.Swap.{Swapping}
use Rattle.boot_swap.specs.Steps as swaps
use Rattle.boot_swap.specs.Whole as whole
use Rattle.boot_swap.proofs.Spots.{Link, LinkFolder, LinkStage, Loader, LoaderFolder, LoaderStage, Spot, path_of}
use Rattle.boot_swap.proofs.Making.{at_phase, entries_spotted, links_spotted}
use Rattle.boot_swap.proofs.Showing.{link_spotted, loader_spotted}
use Rattle.boot_swap.proofs.Leaving.{step_leaves}
use Rattle.boot_swap.proofs.Runs.{begins_needs, ended_boots}
use Rattle.deploy_task.specs.declared.phase.Phase.{Phase}
use Rattle.deploy_task.specs.declared.phase.Phase.TheVariants.{BeginSwap, Swap, Ended}
use Rattle.deploy_task.specs.Listed.{deps_in, ids_in}
use Rattle.deploy_task.specs.Deploying.{Deploying, HasPlace, IsMade, IsStepped, Turn, in_phase, item_of, items_of, made_in, new_items, new_of, steps_in}
use Rattle.deploy_task.specs.Lists.{Leaves, SameListOf}
use Rattle.deploy_task.specs.Steps.{HasNew, IsToldStep, Needs, WritesOf, needs_in, refuses_in, tells_in, writes_in}
use Rattle.deploy_task.proofs.BuildPart.{same_error, told_both, told_of}
use Rattle.deploy_task.proofs.Making.{made_with}
use Rattle.deploy_task.proofs.NewItems.{AreFrom, filter_from, new_are, new_places}
use Rattle.deploy_task.proofs.Numbers.{not_listed}
use Rattle.deploy_task.proofs.Parts.{swap_same}
use Rattle.deploy_task.proofs.Telling.{told_more}

-- ---- where a swap writes

-- at or below one of its places, and a file that is written is new or stood there
pub record IsSwapped (v : View) (p : Path) (s : Seen) : Type 0 where
  pub spot : (a : Spot) × (is_below (path_of a) p ≡ true)
  pub comes : (n : ℕ) (m : Meta) (b : List ℕ) → s ≡ Leaf n m b → IsFresh n v ⊎ (v.now.at p ≡ File n)

vacant_leaf : (s : Seen) (n : ℕ) (m : Meta) (b : List ℕ) → s ≡ Vacant → s ≡ Leaf n m b → ⊥
vacant_leaf s n m b one two = let e : Vacant ≡ Leaf n m b = sym one ∙ two in cc

link_leaf : (s : Seen) (k : Meta) (t : List ℕ) (n : ℕ) (m : Meta) (b : List ℕ) → s ≡ Symlink k t → s ≡ Leaf n m b → ⊥
link_leaf s k t n m b one two = let e : Symlink k t ≡ Leaf n m b = sym one ∙ two in cc

one_inode : (s : Seen) (k n : ℕ) (a m : Meta) (c b : List ℕ) → s ≡ Leaf k a c → s ≡ Leaf n m b → k ≡ n
one_inode s k n a m c b one two = let e : Leaf k a c ≡ Leaf n m b = sym one ∙ two in cc

begun_comes : (what : Content) (v : View) (s : Seen) → folders.IsBegun what v s → (n : ℕ) (m : Meta) (b : List ℕ) → s ≡ Leaf n m b → IsFresh n v
begun_comes content.Folder v s is n m b leaf = let e : Directory _ ≡ Leaf n m b = sym is ∙ leaf in cc
begun_comes (content.Link t) v s is n m b leaf = absurd (link_leaf s _ t n m b is leaf)
begun_comes (content.File c) v s is n m b leaf = subst (λ k. IsFresh k v) (one_inode s is.0 n _ m is.1.0 b is.1.1 leaf) is.2

folder_comes : (ph : folder_phase.Phase) (b : making.Building) (v : View) (p : Path) (s : Seen) → folders.writes_in ph b v p s → (n : ℕ) (m : Meta) (c : List ℕ) → s ≡ Leaf n m c → IsFresh n v ⊎ (v.now.at p ≡ File n)
folder_comes (folder.Clear r) b v p s a n m c leaf = absurd (vacant_leaf s n m c a.1 leaf)
folder_comes (folder.Make k) b v p s a n m c leaf = inl (begun_comes a.0.what v s a.4 n m c leaf)
folder_comes (folder.Write k) b v p s a n m c leaf = let i = a.3 in inr (i.2 ∙ ap File (one_inode s i.0 n _ m i.1.0 c i.1.1 leaf))
folder_comes folder.Ended b v p s a n m c leaf = absurd a

put_comes : (ph : LinkPhase) (l : Linking) (v : View) (p : Path) (s : Seen) → links.writes_in ph l v p s → (n : ℕ) (m : Meta) (c : List ℕ) → s ≡ Leaf n m c → ⊥
put_comes (put.Clear r) l v p s a n m c leaf = vacant_leaf s n m c a.1 leaf
put_comes put.Make l v p s a n m c leaf = link_leaf s _ l.target n m c a.2 leaf
put_comes put.Replace l v p s a n m c leaf = ⊎_elim (λ b. link_leaf s _ l.target n m c b.1 leaf) (λ b. vacant_leaf s n m c b.1 leaf) a
put_comes put.Ended l v p s a n m c leaf = a

swapped_in : (items : List BootItem) (ph : swap_phase.Phase) (v : View) → swaps.Needs (at_phase items ph) v → (p : Path) (s : Seen) → swaps.writes_in ph v p s → IsSwapped v p s
swapped_in items (phase.Entries n b) v needs p s a = record { spot = entries_spotted items n b v needs p s a; comes = folder_comes b.phase b v p s a }
swapped_in items (phase.Links u sub b) v needs p s a = record { spot = links_spotted items u sub b v needs p s a; comes = folder_comes b.phase b v p s a }
swapped_in items (phase.ShowLink u sub l) v needs p s a = record { spot = link_spotted items u sub l v needs p s a; comes = λ n m c leaf. absurd (put_comes l.phase l v p s a n m c leaf) }
swapped_in items (phase.ShowLoader n l) v needs p s a = record { spot = loader_spotted items n l v needs p s a; comes = λ k m c leaf. absurd (put_comes l.phase l v p s a k m c leaf) }
swapped_in items (phase.Choose c) v needs p s a = absurd a
swapped_in items (phase.BeginEntries n) v needs p s a = absurd a
swapped_in items (phase.LookLink u) v needs p s a = absurd a
swapped_in items (phase.BeginLink u sub) v needs p s a = absurd a
swapped_in items (phase.Barrier u sub) v needs p s a = absurd a
swapped_in items (phase.BeginLoader n) v needs p s a = absurd a
swapped_in items (phase.SyncFolder u) v needs p s a = absurd a
swapped_in items phase.Ended v needs p s a = absurd a

pub swap_lies : (s : Swapping) (v : View) → swaps.Needs s v → (p : Path) (x : Seen) → swaps.WritesOf s v p x → IsSwapped v p x
swap_lies s v needs p x a = swapped_in s.items s.phase v needs p x a

-- ---- what was built isn't there

pub off_files : (a : Spot) (os : Name) (commit : List ℕ) (serial : ℕ) (rest : Path) → is_below (path_of a) (deploy_path os commit serial ++ rest) ≡ false
unfolding is_below loader_folder_path boot_link_path boot_folder_path deploy_path
off_files Loader os commit serial rest = refl
off_files LoaderStage os commit serial rest = refl
off_files (LoaderFolder n) os commit serial rest = refl
off_files (Link n) os commit serial rest = refl
off_files LinkStage os commit serial rest = refl
off_files (LinkFolder n sub) os commit serial rest = refl

off_etc : (a : Spot) (id : DepId) (rest : Path) → is_below (path_of a) (etc_of id ++ rest) ≡ false
unfolding is_below loader_folder_path boot_link_path boot_folder_path deploy_path
off_etc Loader id rest = refl
off_etc LoaderStage id rest = refl
off_etc (LoaderFolder n) id rest = refl
off_etc (Link n) id rest = refl
off_etc LinkStage id rest = refl
off_etc (LinkFolder n sub) id rest = refl

pub off_object : (a : Spot) (sum : List ℕ) → is_below (path_of a) (leaf_path sum) ≡ false
unfolding is_below loader_folder_path boot_link_path boot_folder_path object_path
off_object Loader sum = refl
off_object LoaderStage sum = refl
off_object (LoaderFolder n) sum = refl
off_object (Link n) sum = refl
off_object LinkStage sum = refl
off_object (LinkFolder n sub) sum = refl

pub off_origin : (a : Spot) (os : Name) (commit : List ℕ) (serial : ℕ) → is_below (path_of a) (origin_path os commit serial) ≡ false
unfolding is_below loader_folder_path boot_link_path boot_folder_path origin_path
off_origin Loader os commit serial = refl
off_origin LoaderStage os commit serial = refl
off_origin (LoaderFolder n) os commit serial = refl
off_origin (Link n) os commit serial = refl
off_origin LinkStage os commit serial = refl
off_origin (LinkFolder n sub) os commit serial = refl

pub off_kernel : (a : Spot) (os : Name) (bootcsum : List ℕ) (rest : Path) → is_below (path_of a) (kernel_path os bootcsum ++ rest) ≡ false
unfolding is_below loader_folder_path boot_link_path boot_folder_path kernel_path
off_kernel Loader os bootcsum rest = refl
off_kernel LoaderStage os bootcsum rest = refl
off_kernel (LoaderFolder n) os bootcsum rest = refl
off_kernel (Link n) os bootcsum rest = refl
off_kernel LinkStage os bootcsum rest = refl
off_kernel (LinkFolder n sub) os bootcsum rest = refl

-- so it stays
module _ (W : Path → Seen → Type 0) (v w : View) (writes : Writes W v w) (lies : (p : Path) (s : Seen) → W p s → IsSwapped v p s) where
  off : (p : Path) → ((a : Spot) → is_below (path_of a) p ≡ false) → (s : Seen) → W p s → ⊥
  off p out s wrote = let l = (lies p s wrote).spot in not_both l.1 (out l.0)

  copies_off : (os : Name) (files : KernelFiles) (at : Path) (sum : List ℕ) → IsFor os files at sum → (s : Seen) → W at s → ⊥
  copies_off os files at sum (inl f) s wrote = off (kernel_path os files.bootcsum ++ vmlinuz_name files.kver ∷ []) (λ a. off_kernel a os files.bootcsum (vmlinuz_name files.kver ∷ [])) s (subst (λ p. W p s) f.0 wrote)
  copies_off os files at sum (inr f) s wrote = off (kernel_path os files.bootcsum ++ initramfs_name files.kver ∷ []) (λ a. off_kernel a os files.bootcsum (initramfs_name files.kver ∷ [])) s (subst (λ p. W p s) f.0 wrote)

  pub built_stays : (new : NewDeployment) → IsBuilt v.now new → IsBuilt w.now new
  built_stays new was = record {
    files = files_kept W v w writes new.id new.tree
        (record {
          outside = λ p s out wrote. off (folder_of new.id ++ p) (λ a. off_files a new.id.os new.id.commit new.id.serial p) s wrote;
          leaves = λ p sum s has wrote. off (leaf_path sum) (λ a. off_object a sum) s wrote;
        }) was.files;
    etc = etc_kept W v w writes new.id new.etc
        (record {
          below = λ p s wrote. off (etc_of new.id ++ p) (λ a. off_etc a new.id p) s wrote;
          sources = λ p sum s has wrote. off (leaf_path sum) (λ a. off_object a sum) s wrote;
          own = λ p k at alone q s wrote m b leaf. ⊎_elim
              (λ fresh. absurd (fresh (etc_of new.id ++ p) (inl (sym at))))
              (λ there. alone q there)
              ((lies q s wrote).comes k m b leaf);
        }) was.etc;
    origin = origin_kept W v w writes new.id new.origin (λ s wrote. off (origin_of new.id) (λ a. off_origin a new.id.os new.id.commit new.id.serial) s wrote) was.origin;
    kernel = λ at sum for_.
        let is = was.kernel at sum for_ in
        (is.0, reads_kept W v w at writes (copies_off new.id.os new.kernel at sum for_) ∙ is.1, reads_kept W v w (leaf_path sum) writes (λ s wrote. off (leaf_path sum) (λ a. off_object a sum) s wrote) ∙ is.2);
  }

-- ---- what a crash leaves of it

same_of : (ids : List DepId) (d e : Disk) → SameList d e → SameListOf ids d e
same_of ids d e same = record {
  loader = same.loader;
  version = λ n selects.
      let s = same.version n selects in
      record { entries = s.entries; link = s.link; links = s.links; deployments = λ id among. s.deployments id };
}

leaves_of : (old new items : List BootItem) → items ≡ new → (v : View) (d : Disk) → whole.Leaves items v d → Leaves old new v d
leaves_of old new items is v d (inl (b, image, same)) = inl (b, image, same_of (ids_in old) b d same)
leaves_of old new items is v d (inr boots) = inr (subst (Boots d) is boots)

-- ---- its beginning

pub stays : (t : Deploying) → IsMade t → AreFrom 0 t.kept
stays t made =
    let deps = deps_in (items_of t.plan) in
    subst (AreFrom 0) (sym made.numbered.stay) (filter_from (stays_at deps t.plan.os t.plan.used.items) 0 (length deps))

module _ (t : Deploying) (is : t.phase ≡ BeginSwap) where
  place : IsMade t → HasPlace t
  place made = subst (λ ph. made_in ph t) is made.part

  pub list_stands : IsMade t → AreItems (new_items t.plan t.id t.kept)
  list_stands made = new_are (items_of t.plan) (item_of t.plan t.id) 0 t.kept (stays t made) made.may.items made.item
      (not_listed (items_of t.plan) t.plan.used.items t.plan.os t.plan.commit t.id t.kept made.numbered) (place made)

  pub swap_made : IsMade t → (s : Swapping) → swap.IsBegun (new_items t.plan t.id t.kept) s → IsMade (in_phase (Swap s) t)
  swap_made made s begun = made_with t (Swap s) made (place made, begun.list)

  module _ (v : View) (needs : Needs t v) where
    meets : needs_in BeginSwap t v
    meets = subst (λ ph. needs_in ph t v) is needs.meets

    there : IsDirectory (shows v.now (folder_of t.id))
    there =
        let root = (needs.made.may.placed 0 (omega arith)).shape.root in
        let files = meets.0.2.files in
        let stands : shows v.now (folder_of t.id ++ []) ≡ Directory root.0 = subst (Stands v.now (folder_of t.id) []) root.1 (files [] tt) in
        subst IsDirectory (sym stands ∙ ap (λ p. shows v.now p) (append-nil (folder_of t.id))) tt

    pub swap_begins : (s : Swapping) → swap.IsBegun (new_items t.plan t.id t.kept) s → (view : Option View) → view ≡ Some v → IsToldStep t (in_phase (Swap s) t) v (Ok More) view
    swap_begins s begun view told =
        let may : whole.MaySwap (new_items t.plan t.id t.kept) v = record {
          settled = meets.1.settled;
          places = new_places (items_of t.plan) (item_of t.plan t.id) 0 t.kept (stays t needs.made) v.now meets.1.places there;
        } in
        told_more t (in_phase (Swap s) t) v view told
        (record { made = swap_made needs.made s begun; meets = (begins_needs (new_items t.plan t.id t.kept) s v begun (list_stands needs.made) may, meets.0) })
        (subst (λ ph. tells_in ph (Swap s) t v More) (sym is) tt)

  -- as it is called

  module _ (items : List BootItem) (list : items ≡ new_items t.plan t.id t.kept) where
    pub list_as : IsMade t → AreItems items
    list_as made = subst AreItems (sym list) (list_stands made)

    module _ (s : Swapping) (begun : swap.IsBegun items s) (ph : Phase) (at : ph ≡ Swap s) where
      begun_new : swap.IsBegun (new_items t.plan t.id t.kept) s
      begun_new = subst (λ l. swap.IsBegun l s) list begun

      pub begun_stepped : (u : Deploying) → t ≡ u → IsStepped u (Ok More) (in_phase ph t)
      begun_stepped u same = subst (λ x. IsStepped x (Ok More) (in_phase ph t)) same (subst (λ q. steps_in q t More (in_phase ph t)) (sym is) (s, begun_new, (refl, ap (λ q. in_phase q t) at)))

      pub begun_told : (v : View) → Needs t v → IsToldStep t (in_phase ph t) v (Ok More) (Some v)
      begun_told v needs = subst (λ q. IsToldStep t (in_phase q t) v (Ok More) (Some v)) (sym at) (swap_begins v needs s begun_new (Some v) refl)

-- ---- a step of it

not_err : (turn : Turn) → IsErrOf {T = Turn} (Ok turn) NoMemory → ⊥
not_err turn is = let n : Ok turn ≡ Err NoMemory = is in cc

module _ (t : Deploying) (s : Swapping) (is : t.phase ≡ Swap s) where
  swap_part : IsMade t → made_in (Swap s) t
  swap_part made = subst (λ ph. made_in ph t) is made.part

  pub swap_goes : IsMade t → (u : Swapping) → swap.IsStepped s (Ok More) u → IsMade (in_phase (Swap u) t)
  swap_goes made u step = let p = swap_part made in made_with t (Swap u) made (p.0, swap_same s u More step ∙ p.1)

  pub swap_ends : IsMade t → IsMade (in_phase Ended t)
  swap_ends made = made_with t Ended made (swap_part made).0

  module _ (v : View) (needs : Needs t v) where
    swap_meets : needs_in (Swap s) t v
    swap_meets = subst (λ ph. needs_in ph t v) is needs.meets

    pub swap_needs : swaps.Needs s v
    swap_needs = swap_meets.0

    new_after : (w : View) → Writes (swaps.WritesOf s v) v w → HasNew t w.now
    new_after w writes =
        let had = swap_meets.1 in
        (had.0, had.1, built_stays (swaps.WritesOf s v) v w writes (swap_lies s v swap_needs) (new_of t.plan t.id had.0) had.2)

    module _ (view : Option View) (tree : IsTree v.now) (late : (w : View) → view ≡ Some w → IsTree w.now) (told : Told view (λ w. Writes (swaps.WritesOf s v) v w)) where
      wrote : Told view (λ w. Writes (WritesOf t v) v w)
      wrote = subst (λ ph. Told view (λ w. Writes (writes_in ph v) v w)) (sym is) told

      leaves : Told view (λ w. EachImage w (Leaves (items_of t.plan) (new_items t.plan t.id t.kept) v))
      leaves = told_of view (λ w shown writes d image.
          leaves_of (items_of t.plan) (new_items t.plan t.id t.kept) s.items (swap_part needs.made).1 v d (step_leaves s v w tree (late w shown) swap_needs writes d image)) told

      pub swap_more : (u : Swapping) → swap.IsStepped s (Ok More) u → Told view (λ w. swaps.Needs u w) → IsToldStep t (in_phase (Swap u) t) v (Ok More) view
      swap_more u step after = record {
        writes = wrote;
        leaves = leaves;
        after = told_both view (λ w writes next. record { made = swap_goes needs.made u step; meets = (next, new_after w writes) }) told after;
        tells = subst (λ ph. tells_in ph (Swap u) t v More) (sym is) tt;
        done = tt;
        fails = tt;
        unchanged = λ e. absurd (not_err More e);
      }

      boots : (u : Swapping) (x : Unit {0}) → swap.IsStepped s (Ok (Done x)) u → (w : View) → IsTree w.now → swaps.Needs u w → EachImage w (λ d. Boots d (new_items t.plan t.id t.kept))
      boots u x step w over next = ended_boots (new_items t.plan t.id t.kept) u w over (swap_same s u (Done x) step ∙ (swap_part needs.made).1) step.1 next

      pub swap_done : (u : Swapping) (x : Unit {0}) → swap.IsStepped s (Ok (Done x)) u → Told view (λ w. swaps.Needs u w) → IsToldStep t (in_phase Ended t) v (Ok (Done (Ok tt))) view
      swap_done u x step after = record {
        writes = wrote;
        leaves = leaves;
        after = told_of view (λ w shown all. record { made = swap_ends needs.made; meets = record { built = all.0; boots = all.1 } }) both;
        tells = subst (λ ph. tells_in ph Ended t v (Done (Ok tt))) (sym is) tt;
        done = told_of view (λ w shown all. record { built = all.0; boots = all.1 }) both;
        fails = tt;
        unchanged = λ e. absurd (not_err (Done (Ok tt)) e);
      }
        where
          pair : Told view (λ w. Writes (swaps.WritesOf s v) v w × swaps.Needs u w)
          pair = told_both view (λ w writes next. (writes, next)) told after

          both : Told view (λ w. HasNew t w.now × EachImage w (λ d. Boots d (new_items t.plan t.id t.kept)))
          both = told_of view (λ w shown all. (new_after w all.0, boots u x step w (late w shown) all.1)) pair

      pub swap_failed : (e : FsErr) → swaps.Refuses s v e → (IsErrOf {T = StepResult (Unit {0})} (Err e) NoMemory → view ≡ Some v) → (new : Deploying) → IsToldStep t new v (Err e) view
      swap_failed e fails unchanged new = record {
        writes = wrote;
        leaves = leaves;
        after = tt;
        tells = tt;
        done = tt;
        fails = subst (λ ph. refuses_in ph v e) (sym is) fails;
        unchanged = λ same. unchanged (same_error Turn (StepResult (Unit {0})) e NoMemory same);
      }

      -- as it is called

      module _ (u : Swapping) (r : Result (StepResult (Unit {0})) FsErr) (step : swap.IsStepped s r u) where
        pub went_more : r ≡ Ok More → Told view (λ w. swaps.Needs u w) → IsToldStep t (in_phase (Swap u) t) v (Ok More) view
        went_more ok after = swap_more u (subst (λ x. swap.IsStepped s x u) ok step) after

        pub went_done : (x : Unit {0}) → r ≡ Ok (Done x) → Told view (λ w. swaps.Needs u w) → (ph : Phase) → ph ≡ Ended → IsToldStep t (in_phase ph t) v (Ok (Done (Ok tt))) view
        went_done x ok after ph at = subst (λ q. IsToldStep t (in_phase q t) v (Ok (Done (Ok tt))) view) (sym at) (swap_done u x (subst (λ y. swap.IsStepped s y u) ok step) after)
