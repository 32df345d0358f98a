-- Where a deployment is read each crash leaves what there is now, and so it is left whole.
use Rattle.std.proofs.Common.{◌≡◌, inl, inr, ⊎_elim, ℕ, true, List, refl, sym, ◌∙◌, ap, subst}
use Rattle.ost_types.specs.declared.limits.Limits.{Limits}
use Rattle.ost_types.specs.declared.object.Kind.TheVariants.{Commit}
use Rattle.ost_types.specs.declared.object.ObjName.{ObjName}
use Rattle.ost_types.specs.Path.{Path}
use Rattle.fs_trait.specs.View.{Disk, View}
use Rattle.fs_trait.specs.Image.{Image, IsTree, is_folder}
use Rattle.fs_trait.specs.Seen.{Always, IsDirectory, MayBe, Seen, Vacant, seen, shows}
use Rattle.fs_trait.proofs.Effects.{may_now}
use Rattle.fs_trait.proofs.Ways.{above, folder_of}
use Rattle.repo_layout.specs.Paths.{objects_folder_path}
use Rattle.repo_model.specs.Objects.{Stores, path_of}
use Rattle.repo_model.specs.Trees.{name_of}
use Rattle.repo_model.proofs.Stored.{stores_same}
use Rattle.reach.specs.Reach.{Is}
use Rattle.reach.proofs.Reaching.{reach_back}
use Rattle.layout_rules.proofs.Layouts.{below_split}
use Rattle.boot_model.specs.declared.item.DepId.{DepId}
use Rattle.durable_list.proofs.Same.{folder_directory}
use Rattle.durable_list.proofs.Standing.{itself, left_there}
use Rattle.deployment_check.specs.Deployments.{IsWholeDeployment}
use Rattle.rely_guarantee.specs.SystemInvariant.{Leads}
use Rattle.rely_guarantee.proofs.Lasting.{none_out, object_under, stays_image, tail_of}
use Rattle.durable_deployments.specs.Standing.{DeploymentStands, IsDeploymentPath, IsFixed, IsReached, SparesDeployment}
use Rattle.durable_deployments.proofs.Same.{same_deployment}
use Rattle.durable_deployments.proofs.Stores.{reached_sum, reached_there}

-- ---- behind a sync of all

module _ (v : View) (tree : IsTree v.now) (settled : (p : Path) → Always v p (shows v.now p)) where
  only : (p : Path) (s : Seen) → MayBe v p s → s ≡ shows v.now p
  only p s may = (settled p).each s may

  leads_there : (f : Path) → is_folder (v.now.at f) ≡ true → Leads v f
  leads_there f folder p s may below =
      let w = below_split p f below in
      let here : is_folder (v.now.at p) ≡ true = above v.now tree p w.0 (subst (λ q. is_folder (v.now.at q) ≡ true) w.1 folder) in
      subst IsDirectory (sym (only p s may)) (folder_directory v.now (v.now.at p) here)

  leads_object : (o : ObjName) → (shows v.now (path_of o) ≡ Vacant → ⊥) → Leads v (objects_folder_path o.csum)
  leads_object o there = leads_there (objects_folder_path o.csum) (folder_of v.now tree (objects_folder_path o.csum) (tail_of o)
      (λ none. there (ap (λ q. shows v.now q) (object_under o) ∙ ap (seen v.now) none)))

  pub stands_begins : (limits : Limits) (id : DepId) (bootcsum : List ℕ) → IsWholeDeployment limits v.now id bootcsum → DeploymentStands limits v id bootcsum
  stands_begins limits id bootcsum is = record { are = is; objects = fixed; sure = λ p s way may. only p s may }
    where
      fixed : (o : ObjName) → IsReached v.now id.commit o → IsFixed v o
      fixed o reached =
          let there = reached_there limits v.now id.commit is.tree is.has o reached in
          record {
            safe = record {
              sum = reached_sum limits v.now id.commit is.tree is.has o reached;
              there = λ s may none. there (sym (only (path_of o) s may) ∙ none);
              above = leads_object o there;
            };
            same = λ s may. only (path_of o) s may;
          }

-- ---- what a crash leaves

module _ (limits : Limits) (v : View) (d : Disk) (id : DepId) (bootcsum : List ℕ) (tree : IsTree v.now) (stands : DeploymentStands limits v id bootcsum) (i : Image v d) where
  object_left : (o : ObjName) → IsReached v.now id.commit o → shows d (path_of o) ≡ shows v.now (path_of o)
  object_left o reached = let fixed = stands.objects o reached in fixed.same (shows d (path_of o)) ((stays_image v d i).same o (none_out o) fixed.safe)

  left : (p : Path) → IsDeploymentPath v.now id bootcsum p → shows d p ≡ shows v.now p
  left p (inl (o, reached, at)) = subst (λ q. shows d q ≡ shows v.now q) (sym at) (object_left o reached)
  left p (inr inside) = left_there v d tree i p (λ q s below may. stands.sure q s (p, inside, below) may)

  pub stands_left : IsWholeDeployment limits d id bootcsum
  stands_left = same_deployment limits v.now d id bootcsum left stands.are

-- ---- over what spares it

module _ (limits : Limits) (v w : View) (id : DepId) (bootcsum : List ℕ) (spares : SparesDeployment v w id bootcsum) (stands : DeploymentStands limits v id bootcsum) where
  object_same : (o : ObjName) → IsReached v.now id.commit o → shows w.now (path_of o) ≡ shows v.now (path_of o)
  object_same o reached = spares.now (path_of o) (inl (o, reached, refl))

  same : (p : Path) → IsDeploymentPath v.now id bootcsum p → shows w.now p ≡ shows v.now p
  same p (inl object) = spares.now p (inl object)
  same p (inr inside) = spares.now p (inr (p, inside, itself p))

  reached_before : (o : ObjName) → IsReached w.now id.commit o → IsReached v.now id.commit o
  reached_before = reach_back (Stores v.now) (Stores w.now) (Is (name_of Commit id.commit)) (λ o b reached stored. stores_same w.now v.now o b (sym (object_same o reached)) stored)

  object_may : (o : ObjName) → IsReached v.now id.commit o → (s : Seen) → MayBe w (path_of o) s → MayBe v (path_of o) s
  object_may o reached s may = ⊎_elim (λ was. was) (λ is. subst (MayBe v (path_of o)) (sym is) (may_now v (path_of o))) (spares.each (path_of o) s (inl (o, reached, refl)) may)

  fixed_on : (o : ObjName) → IsReached v.now id.commit o → IsFixed w o
  fixed_on o reached =
      let was = stands.objects o reached in
      record {
        safe = record {
          sum = was.safe.sum;
          there = λ s may. was.safe.there s (object_may o reached s may);
          above = spares.leads o reached was.safe.above;
        };
        same = λ s may. was.same s (object_may o reached s may) ∙ sym (object_same o reached);
      }

  pub stands_on : DeploymentStands limits w id bootcsum
  stands_on = record {
    are = same_deployment limits v.now w.now id bootcsum same stands.are;
    objects = λ o reached. fixed_on o (reached_before o reached);
    sure = λ p s way may. ⊎_elim (λ was. stands.sure p s way was) (λ is. is) (spares.each p s (inr way) may) ∙ sym (spares.now p (inr way));
  }
