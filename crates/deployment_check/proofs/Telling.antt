-- What is told of a deployment, by what its folder, its `etc` and the copies of its kernel were found to be.
use Rattle.std.proofs.Common.{◌≡◌, ◌≢◌, ◌⊎◌, inl, inr, ⊎_elim, ℕ, List, [], ◌∷◌, ◌++◌, append_assoc, Option, Some, None, refl, sym, ◌∙◌, ap, subst}
use Rattle.std.specs.declared.cmp.Ordering.TheVariants.{Less}
use Rattle.ost_types.specs.declared.limits.Limits.{Limits}
use Rattle.ost_types.specs.declared.node.NodeName.{NodeName}
use Rattle.ost_types.specs.declared.node.NodeName.TheVariants.{Folder}
use Rattle.ost_types.specs.Path.{Name, Path, IsPath, path_cmp, under}
use Rattle.ost_types.specs.PathMap.{Nodes, node_at}
use Rattle.ost_types.proofs.Paths.{root_or_under}
use Rattle.fs_trait.specs.Image.{IsTree}
use Rattle.fs_trait.specs.Seen.{Vacant, shows}
use Rattle.fs_trait.specs.View.{Disk}
use Rattle.repo_layout.specs.Place.{IsOutsideEtc}
use Rattle.boot_model.specs.declared.item.DepId.{DepId}
use Rattle.checkout_compare.specs.Compare.{StandsAs, Tells}
use Rattle.checkout_compare.proofs.Checkouts.{is_deployed_outside_etc}
use Rattle.checkout_compare.proofs.Orders.{later_below}
use Rattle.checkout_compare.proofs.Values.{directory_there, folder_above}
use Rattle.checkout_compare.proofs.Walking.{outside_folder}
use Rattle.commit_checkout.specs.TreeFolder.{HasRoomBelow}
use Rattle.tree_kernel.specs.declared.find.TreeKernel.{TreeKernel}
use Rattle.deployment_check.specs.Deployments.{IsWholeTree, home_of}
use Rattle.deployment_check.specs.Judging.{CanDeploy, IsDeployed, IsNotCheckout}
use Rattle.deployment_check.proofs.Trees.{fits_in, tree_shape}

-- ---- the first path that differs is within the bounds of paths

module _ (limits : Limits) (d : Disk) (is_tree : IsTree d) (commit : List ℕ) (tree : Nodes) (is : IsWholeTree limits d commit tree) (home : Path) (room : HasRoomBelow home)
    (p : Path) (told : Tells d home tree (Some p)) (far : ¬ (IsPath (home ++ p))) where
  there_none : node_at tree p ≡ None → shows d (home ++ p) ≢ Vacant
  there_none none vacant = ⊎_elim
      (λ other. other (subst (StandsAs d home p) (sym none) vacant))
      (λ past. directory_there (shows d (home ++ p)) past.is_folder vacant)
      told.0.wrong

  -- else its folder would be the first
  in_folder : (f : Path) (x : Name) → p ≡ under f x → shows d (home ++ p) ≢ Vacant → ⊥
  in_folder f x at there =
      let same : home ++ p ≡ under (home ++ f) x = ap (λ q. home ++ q) at ∙ sym (append_assoc home f (x ∷ [])) in
      let named : shows d (under (home ++ f) x) ≢ Vacant = subst (λ q. shows d q ≢ Vacant) same there in
      let before : path_cmp f p ≡ Less = subst (λ q. path_cmp f q ≡ Less) (sym at) (later_below f x []) in
      told.1 f before (record {
        outside = outside_folder f x (subst IsOutsideEtc at told.0.outside);
        wrong = inr (record { is_folder = folder_above d is_tree (home ++ f) x named; name = x; there = named; far = subst (λ q. ¬ (IsPath q)) same far });
      })

  pub not_past : ⊥
  not_past = by (node_at tree p) refl
    where
      by_none : node_at tree p ≡ None → (p ≡ []) ⊎ ((f : Path) × (x : Name) × (p ≡ under f x)) → ⊥
      by_none none (inl root) =
          let shape = tree_shape limits d commit tree is in
          let no : None ≡ Some (Folder shape.root.0) = sym none ∙ ap (node_at tree) root ∙ shape.root.1 in
          cc
      by_none none (inr (f, x, at)) = in_folder f x at (there_none none)

      by : (o : Option NodeName) → node_at tree p ≡ o → ⊥
      by None none = by_none none (root_or_under p)
      by (Some n) has = far (fits_in limits d commit tree is home room p n has)

module _ (limits : Limits) (d : Disk) (id : DepId) (tree : Nodes) (kernel : TreeKernel) (can : CanDeploy limits d id.commit tree kernel) (home : Path) (at : home ≡ home_of id) where
  pub not_checkout : IsTree d → HasRoomBelow home → (relative path : Path) → (path ≡ home ++ relative) ⊎ ¬ (IsPath (home ++ relative)) → Tells d home tree (Some relative) → IsNotCheckout limits d id path
  not_checkout is_tree room relative path (inl is) told = record {
    tree = tree;
    kernel = kernel;
    can = can;
    relative = relative;
    first = subst (λ h. Tells d h tree (Some relative)) at told;
    path_is = is ∙ ap (λ h. h ++ relative) at;
  }
  not_checkout is_tree room relative path (inr far) told = absurd (not_past limits d is_tree id.commit tree can.has home room relative told far)

  pub deployed : Tells d home tree None → IsDeployed limits d id tree kernel
  deployed told = let none = subst (λ h. Tells d h tree None) at told in record {
    can = can;
    checkout = is_deployed_outside_etc d (home_of id) tree none;
    within = λ p outside far. none p (record { outside = outside; wrong = inr far });
  }
