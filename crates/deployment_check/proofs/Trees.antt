-- The tree of a commit in the folder of a deployment.
use Rattle.std.proofs.Common.{◌≡◌, ◌≢◌, ℕ, Bool, true, false, List, [], ◌∷◌, ◌++◌, codes, refl, sym, subst, arith, append-nil, append_assoc, Option, Some, None}
use Rattle.std.specs.Bool.{Decides}
use Rattle.std.proofs.lemmas.List.Elements.{All-contains}
use Rattle.ost_types.specs.declared.limits.Limits.{Limits}
use Rattle.ost_types.specs.declared.node.NodeName.{NodeName}
use Rattle.ost_types.specs.Path.{Name, Path, IsPath, same_name, under}
use Rattle.ost_types.specs.PathMap.{Nodes, node_at}
use Rattle.ost_types.proofs.Paths.{same_name-Decides}
use Rattle.fs_trait.specs.View.{Disk}
use Rattle.fs_trait.specs.Seen.{Vacant, shows}
use Rattle.repo_layout.specs.Place.{IsOutsideEtc}
use Rattle.tree_walk.specs.Standing.{Standing}
use Rattle.tree_walk.proofs.Standings.{standing_map}
use Rattle.checkout.specs.CheckoutFolder.{IsTreeMap}
use Rattle.checkout.specs.CheckoutWork.{IsPlaced}
use Rattle.checkout.proofs.CheckoutMaps.{found_back}
use Rattle.commit_checkout.specs.TreeFolder.{HasRoomBelow}
use Rattle.commit_checkout.proofs.TreeMaps.{tree_placed}
use Rattle.checkout_compare.specs.Compare.{HasFar, IsDeployedOutsideEtc, StandsAs}
use Rattle.deployment_check.specs.Deployments.{IsWholeTree}
use Rattle.deployment_check.proofs.Rooms.{etc_path}

root_room : HasRoomBelow []
root_room = record { path = record { names = tt; few = omega arith; short = omega arith }; few = omega arith; short = omega arith }

module _ (limits : Limits) (d : Disk) (commit : List ℕ) (tree : Nodes) (is : IsWholeTree limits d commit tree) where
  placed : (home : Path) → HasRoomBelow home → IsPlaced home tree
  placed home room = tree_placed (Standing d) (standing_map d) limits commit tree is.map is.whole is.shown home room

  pub tree_shape : IsTreeMap tree
  tree_shape = (placed [] root_room).shape

  -- each of its paths may stand in the folder
  pub fits_in : (home : Path) → HasRoomBelow home → (p : Path) (n : NodeName) → node_at tree p ≡ Some n → IsPath (home ++ p)
  fits_in home room p n has = All-contains (λ (e : Path × NodeName). IsPath (home ++ e.0)) tree (p, n) (placed home room).fits (found_back tree p n has)

  -- so a folder that is its checkout has no name with a path past the bounds
  module _ (home : Path) (room : HasRoomBelow home) (checkout : IsDeployedOutsideEtc d home tree) where
    stands_within : (p : Path) → IsOutsideEtc p → shows d (home ++ p) ≢ Vacant → IsPath (home ++ p)
    stands_within p outside there = by (node_at tree p) refl (checkout p outside)
      where
        by : (o : Option NodeName) → node_at tree p ≡ o → StandsAs d home p o → IsPath (home ++ p)
        by None none stands = absurd (there stands)
        by (Some n) has stands = fits_in home room p n has

    at_top : (x : Name) (b : Bool) → Decides b (x ≡ codes "etc") → shows d (under home x) ≢ Vacant → IsPath (under home x)
    at_top x true is there = subst (λ y. IsPath (under home y)) (sym (is.0 refl)) (etc_path home room)
    at_top x false is there = stands_within (x ∷ []) (λ same. let n : false ≡ true = is.1 same in cc) there

    pub named_within : (p : Path) (x : Name) → IsOutsideEtc p → shows d (under (home ++ p) x) ≢ Vacant → IsPath (under (home ++ p) x)
    named_within [] x outside there =
        subst (λ f. IsPath (under f x)) (sym (append-nil home))
        (at_top x (same_name x (codes "etc")) (same_name-Decides x (codes "etc")) (subst (λ f. shows d (under f x) ≢ Vacant) (append-nil home) there))
    named_within (a ∷ p) x outside there =
        let same = append_assoc home (a ∷ p) (x ∷ []) in
        subst IsPath (sym same) (stands_within (under (a ∷ p) x) outside (subst (λ q. shows d q ≢ Vacant) same there))

    pub none_far : (p : Path) → IsOutsideEtc p → HasFar d (home ++ p) → ⊥
    none_far p outside far = far.far (named_within p far.name outside far.there)
