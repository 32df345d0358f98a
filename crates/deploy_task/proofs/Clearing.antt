-- The steps that remove what the list doesn't name.
use Rattle.std.proofs.Common.{◌≡◌, inl, inr, ℕ, true, Option, Result, Ok, Err, List, refl, sym, ◌∙◌, ap, subst}
use Rattle.std.specs.Prelude.{Contains, IsErrOf}
use Rattle.std.proofs.lemmas.List.Elements.{All-contains}
use Rattle.ost_types.specs.Path.{Path, is_below, is_in}
use Rattle.fs_trait.specs.declared.types.FsErr.{FsErr}
use Rattle.fs_trait.specs.declared.types.FsErr.TheVariants.{NoMemory}
use Rattle.fs_trait.specs.declared.task.StepResult.{StepResult}
use Rattle.fs_trait.specs.declared.task.StepResult.TheVariants.{More, Done}
use Rattle.fs_trait.specs.View.{View}
use Rattle.fs_trait.specs.Image.{EachImage, IsTree, Told}
use Rattle.fs_trait.specs.Seen.{Seen}
use Rattle.fs_trait.specs.Change.{Writes}
use Rattle.fs_trait.proofs.Facts.{shows_kept}
use Rattle.repo_layout.specs.Paths.{stage_path}
use Rattle.repo_layout.specs.BootPaths.{kernel_path}
use Rattle.repo_layout.specs.RefFile.{IsSum}
use Rattle.boot_model.specs.declared.item.DepId.{DepId}
use Rattle.boot_model.specs.declared.item.BootItem.{BootItem}
use Rattle.boot_model.specs.Items.{IsItem}
use Rattle.folder_build.proofs.Clearing.{told_both}
use Rattle.checkout.specs.CheckoutFolder.{IsLeaf, leaf_path}
use Rattle.tree_read.proofs.Walk.{unmapped}
use Rattle.deployment_build.proofs.Keeping.{SparesGround, ground_kept, sources_kept, way_kept}
use Rattle.deploy_clean.specs.declared.phase.Phase as cleaning
use Rattle.deploy_clean.specs.declared.phase.Phase.TheVariants.{Begin, Open, See, Remove, Ended}
use Rattle.deploy_clean.specs.Cleaning as clean
use Rattle.deploy_clean.specs.Cleaning.{Cleaning}
use Rattle.deploy_clean.specs.Steps as cleans
use Rattle.deploy_clean.specs.Unlisted.{IsClean, IsUnlisted}
use Rattle.deploy_clean.proofs.Places.{unlisted_path}
use Rattle.deploy_task.specs.declared.phase.Phase.{Phase}
use Rattle.deploy_task.specs.declared.phase.Phase.TheVariants.{Clean, Choose}
use Rattle.deploy_task.specs.Listed.{ids_in}
use Rattle.deploy_task.specs.Deploying.{Deploying, IsMade, in_phase, items_of, made_in, new_items}
use Rattle.deploy_task.specs.Lists.{Leaves}
use Rattle.deploy_task.specs.Steps.{IsReady, IsToldStep, Needs, WritesOf, needs_in, refuses_in, tells_in, writes_in}
use Rattle.deploy_task.proofs.Apart.{IsDeep, deep_above, deep_kernel, deep_object, deep_stage, deep_way, goes_deep}
use Rattle.deploy_task.proofs.Aside.{IsUnread, files_unread, leaves_after, origin_unread, path_closed, places_after, settled_after}
use Rattle.deploy_task.proofs.Making.{made_with}
use Rattle.deploy_task.proofs.Parts.{clean_same}
use Rattle.deploy_task.proofs.Telling.{leaves_still, not_err}

-- ---- what isn't listed

module _ (t : Deploying) (made : IsMade t) where
  abbrev ids : List DepId
  ids = ids_in (items_of t.plan)

  listed_sum : (id : DepId) → Contains ids id → IsSum id.commit
  listed_sum id among =
      let m = unmapped (λ (item : BootItem). item.id) (items_of t.plan) id among in
      let item = All-contains IsItem (items_of t.plan) m.0 made.may.items.each m.1 in
      subst (λ (i : DepId). IsSum i.commit) (sym m.2) item.commit

  -- no list is read there
  unlisted_unread : (top : Path) → IsUnlisted ids top → IsUnread (is_below top) ids
  unlisted_unread top (id, free, inl at) = subst (λ p. IsUnread (is_below p) ids) (sym at) (files_unread ids listed_sum made.serials id free.sum free.small free.unlisted)
  unlisted_unread top (id, free, inr at) = subst (λ p. IsUnread (is_below p) ids) (sym at) (origin_unread ids listed_sum made.serials id free.sum free.small)

  -- ---- what is removed there spares what is known

  module _ (top : Path) (unlisted : IsUnlisted ids top) (W : Path → Seen → Type 0) (within : (p : Path) (s : Seen) → W p s → is_below top p ≡ true) (v w : View) (writes : Writes W v w) where
    unread : IsUnread (is_below top) ids
    unread = unlisted_unread top unlisted

    apart : (p : Path) → ¬ (IsDeep p) → (s : Seen) → ¬ (W p s)
    apart p not s wrote = not (goes_deep ids p (top, unlisted, within p s wrote))

    object_apart : (sum : List ℕ) (s : Seen) → ¬ (W (leaf_path sum) s)
    object_apart sum s wrote = apart (leaf_path sum) (deep_object sum) s wrote

    -- nothing is written in the folder above such a path
    above_apart : (q p : Path) → is_in p q ≡ true → ¬ (IsDeep q) → (s : Seen) → ¬ (W p s)
    above_apart q p in_ not s wrote = apart p (λ deep. not (deep_above p q in_ deep)) s wrote

    spares_ground : SparesGround W t.plan.stage t.plan.os t.plan.kernel v
    spares_ground =
        let stage = made.may.staging in
        let kernel = deep_kernel t.plan.os t.plan.kernel.bootcsum in
        record {
          above = λ p s in_ there wrote. absurd (above_apart (kernel_path t.plan.os t.plan.kernel.bootcsum) p in_ kernel s wrote);
          folder = λ s wrote. absurd (apart (kernel_path t.plan.os t.plan.kernel.bootcsum) kernel s wrote);
          stages = λ p s in_ there wrote. absurd (above_apart (stage_path stage.0) p (subst (λ q. is_in p q ≡ true) stage.1 in_) (deep_stage stage.0) s wrote);
          staged = λ s wrote. absurd (apart (stage_path stage.0) (deep_stage stage.0) s (subst (λ p. W p s) stage.1 wrote));
          kernel = λ s wrote. object_apart t.plan.kernel.kernel s wrote;
          initramfs = λ sum s has wrote. object_apart sum s wrote;
        }

    pub ready_still : IsReady t.plan v → IsReady t.plan w
    ready_still ready = record {
      known = record {
        settled = settled_after (items_of t.plan) (is_below top) unread W within v w writes ready.known.settled;
        places = places_after (items_of t.plan) (is_below top) unread W within v w writes ready.known.places;
      };
      way = way_kept W v w writes t.plan.os (λ p s wrote below. absurd (apart p (deep_way t.plan.os p below) s wrote)) ready.way;
      leaves = λ p sum has. subst IsLeaf (sym (shows_kept W v w (leaf_path sum) writes (object_apart sum))) (ready.leaves p sum has);
      sources = sources_kept W v w writes t.plan.tree (λ p sum s has wrote. object_apart sum s wrote) ready.sources;
      ground = ground_kept W v w writes t.plan.stage t.plan.os t.plan.kernel spares_ground ready.ground;
    }

    pub leaves_still_there : IsTree v.now → (new : List BootItem) → EachImage w (Leaves (items_of t.plan) new v)
    leaves_still_there tree new d image = leaves_after (items_of t.plan) (is_below top) unread W within v w writes (path_closed top) tree d image new

-- ---- a step of the removal

one_error : {T : Type 0} (e f : FsErr) → IsErrOf {T = T} (Err e) f → e ≡ f
one_error e f is = let n : Err e ≡ Err f = is in cc

module _ (t : Deploying) (c : Cleaning) (is : t.phase ≡ Clean c) (v : View) (tree : IsTree v.now) (needs : Needs t v) where
  part : c.listed ≡ ids_in (items_of t.plan)
  part = subst (λ ph. made_in ph t) is needs.made.part

  meets : needs_in (Clean c) t v
  meets = subst (λ ph. needs_in ph t v) is needs.meets

  pub clean_needs : cleans.Needs c v
  clean_needs = meets.0

  wrote : (w : View) → Writes (cleans.WritesOf c v) v w → Writes (WritesOf t v) v w
  wrote w writes = subst (λ ph. Writes (writes_in ph v) v w) (sym is) writes

  -- what the list is read from, and what is known, after a step
  pub record IsStill (w : View) : Type 0 where
    pub ready : IsReady t.plan w
    pub leaves : EachImage w (Leaves (items_of t.plan) (new_items t.plan t.id t.kept) v)

  same_still : (w : View) → w ≡ v → IsStill w
  same_still w same = subst IsStill (sym same) (record { ready = meets.1; leaves = leaves_still (items_of t.plan) (new_items t.plan t.id t.kept) v })

  still_in : (ph : cleaning.Phase) → c.phase ≡ ph → (w : View) → Writes (cleans.WritesOf c v) v w → cleans.leaves_in ph v w → IsStill w
  still_in Begin at w writes same = same_still w same
  still_in Open at w writes same = same_still w same
  still_in (See o) at w writes same = same_still w same
  still_in Ended at w writes same = same_still w same
  still_in (Remove o r) at w writes leaves =
      let next = subst (λ ph. clean.IsWithin ph c.listed) at meets.0.made in
      let unlisted = subst (λ l. IsUnlisted l r.at) part (subst (IsUnlisted c.listed) (sym next.at) (unlisted_path c.listed o.os next.name next.unlisted)) in
      let within : (p : Path) (s : Seen) → cleans.WritesOf c v p s → is_below r.at p ≡ true = λ p s a. (let b : cleans.writes_in (Remove o r) v p s = subst (λ ph. cleans.writes_in ph v p s) at a in b.0.below) in
      record {
        ready = ready_still t needs.made r.at unlisted (cleans.WritesOf c v) within v w writes meets.1;
        leaves = leaves_still_there t needs.made r.at unlisted (cleans.WritesOf c v) within v w writes tree (new_items t.plan t.id t.kept);
      }

  still_told : (u : Cleaning) (r : Result (StepResult (Unit {0})) FsErr) (view : Option View) → cleans.IsToldStep c u v r view → Told view IsStill
  still_told u r view told = told_both _ _ _ _ (λ w writes leaves. still_in c.phase refl w writes leaves) told.writes told.leaves

  leaves_of : (view : Option View) → Told view IsStill → Told view (λ w. EachImage w (Leaves (items_of t.plan) (new_items t.plan t.id t.kept) v))
  leaves_of view still = (still.0, still.1, still.2.leaves)

  wrote_told : (u : Cleaning) (r : Result (StepResult (Unit {0})) FsErr) (view : Option View) → cleans.IsToldStep c u v r view → Told view (λ w. Writes (WritesOf t v) v w)
  wrote_told u r view told = (told.writes.0, told.writes.1, wrote told.writes.0 told.writes.2)

  tells : (next : Phase) → tells_in t.phase next t v More
  tells next = subst (λ ph. tells_in ph next t v More) (sym is) tt

  pub clean_more : (u : Cleaning) (r : Result (StepResult (Unit {0})) FsErr) → r ≡ Ok More → clean.IsStepped c r u → (view : Option View) → cleans.IsToldStep c u v r view → IsToldStep t (in_phase (Clean u) t) v (Ok More) view
  clean_more u r ok stepped view told =
      let step = subst (λ x. clean.IsStepped c x u) ok stepped in
      let all = subst (λ x. cleans.IsToldStep c u v x view) ok told in
      record {
        writes = wrote_told u (Ok More) view all;
        leaves = leaves_of view (still_told u (Ok More) view all);
        after = told_both _ _ _ _ (λ w still next. record { made = made_with t (Clean u) needs.made (clean_same c u More step ∙ part); meets = (next, still.ready) }) (still_told u (Ok More) view all) all.after;
        tells = tells (Clean u);
        done = tt;
        fails = tt;
        unchanged = λ e. absurd (not_err More e);
      }

  pub clean_done : (u : Cleaning) (x : Unit {0}) (r : Result (StepResult (Unit {0})) FsErr) → r ≡ Ok (Done x) → clean.IsStepped c r u → (view : Option View) → cleans.IsToldStep c u v r view → IsToldStep t (in_phase Choose t) v (Ok More) view
  clean_done u x r ok stepped view told =
      let all = subst (λ y. cleans.IsToldStep c u v y view) ok told in
      record {
        writes = wrote_told u (Ok (Done x)) view all;
        leaves = leaves_of view (still_told u (Ok (Done x)) view all);
        after = told_both _ _ _ _ (λ w still gone. record { made = made_with t Choose needs.made tt; meets = record { ready = still.ready; clean = subst (IsClean w.now) part gone } }) (still_told u (Ok (Done x)) view all) all.tells;
        tells = tells Choose;
        done = tt;
        fails = tt;
        unchanged = λ e. absurd (not_err More e);
      }

  pub clean_failed : (u : Cleaning) (new : Deploying) (e : FsErr) (r : Result (StepResult (Unit {0})) FsErr) → r ≡ Err e → (view : Option View) → cleans.IsToldStep c u v r view → IsToldStep t new v (Err e) view
  clean_failed u new e r err view told =
      let all = subst (λ y. cleans.IsToldStep c u v y view) err told in
      record {
        writes = wrote_told u (Err e) view all;
        leaves = leaves_of view (still_told u (Err e) view all);
        after = tt;
        tells = tt;
        done = tt;
        fails = subst (λ ph. refuses_in ph v e) (sym is) all.fails;
        unchanged = λ same. all.unchanged (ap (λ x. Err x) (one_error e NoMemory same));
      }
