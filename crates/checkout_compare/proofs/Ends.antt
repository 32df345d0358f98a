-- Where the walk ends: what it tells.
use Rattle.std.proofs.Common.{◌≡◌, ◌≢◌, ◌⊎◌, inl, inr, ℕ, ◌≤◌, refl, sym, ◌∙◌, ap, subst, [], ◌∷◌, ◌++◌, length, append-nil, append_assoc, Option, Some, None}
use Rattle.std.specs.declared.cmp.Ordering.TheVariants.{Less}
use Rattle.ost_types.specs.declared.node.NodeName.{NodeName}
use Rattle.ost_types.specs.declared.node.NodeName.TheVariants.{Folder}
use Rattle.ost_types.specs.Path.{Name, Path, IsPath, path_cmp, under}
use Rattle.ost_types.specs.PathMap.{Nodes, IsAscending, node_at, paths_of}
use Rattle.ost_types.proofs.Paths.{root_or_under}
use Rattle.fs_trait.specs.View.{Disk}
use Rattle.fs_trait.specs.Image.{IsTree}
use Rattle.fs_trait.specs.Seen.{Vacant, shows}
use Rattle.repo_layout.specs.Place.{IsOutsideEtc}
use Rattle.checkout.specs.CheckoutFolder.{IsTreeMap}
use Rattle.checkout.proofs.CheckoutMaps.{found_at}
use Rattle.checkout_compare.specs.Compare.{IsWrong, StandsAs, Tells}
use Rattle.checkout_compare.specs.Order.{ComesBefore}
use Rattle.checkout_compare.specs.Looking.{IsExtra, IsOther}
use Rattle.checkout_compare.specs.SoFar.{IsSoFar}
use Rattle.checkout_compare.proofs.Orders.{later_below, no_earlier, path_order}
use Rattle.checkout_compare.proofs.Values.{as_there, folder_above, stands_as}
use Rattle.checkout_compare.proofs.Walking.{IsNumber, IsPassed, outside_folder, passed_all, passed_before, wrong_up_to}

-- what is none of the tree is wrong
extra_wrong : (d : Disk) (into : Path) (tree : Nodes) (p : Path) → IsExtra d into tree p → IsWrong d into tree p
extra_wrong d into tree p extra = record { outside = extra.new.0; wrong = inl (λ stands. extra.there (subst (StandsAs d into p) extra.new.1 stands)) }

module _ (d : Disk) (is_tree : IsTree d) (into : Path) (tree : Nodes) (ascending : IsAscending (paths_of tree)) (shape : IsTreeMap tree) (k : ℕ) where
  -- where all before the least path was passed, or just all where there is none
  abbrev Reaches : Option Path → Type 0
  Reaches None = (q : Path) → IsPassed tree k q
  Reaches (Some p) = (q : Path) → path_cmp q p ≡ Less → IsPassed tree k q

  least_told : (least : Option Path) → IsSoFar d into tree k least → Reaches least → Tells d into tree least
  least_told None so reaches = λ p wrong. wrong_up_to d is_tree into tree shape k None so p (reaches p) wrong
  least_told (Some p) so reaches = (extra_wrong d into tree p so.there, λ q less wrong. wrong_up_to d is_tree into tree shape k (Some p) so q (reaches q less) wrong less)

  -- after the last node
  pub ended_told : (least : Option Path) → IsSoFar d into tree k least → length tree ≤ k → Tells d into tree least
  ended_told None so end = least_told None so (λ q. passed_all tree k end q)
  ended_told (Some p) so end = least_told (Some p) so (λ q less. passed_all tree k end q)

  module _ (e : Path × NodeName) (at : IsNumber tree k e) where
    -- at a node that comes after the least path
    pub stopped_told : (least : Option Path) → IsSoFar d into tree k least → ComesBefore least e.0 → Tells d into tree least
    stopped_told None so before = absurd before
    stopped_told (Some p) so before = least_told (Some p) so (λ q less. passed_before tree k e ascending at q (path_order.trans q p e.0 less before))

    module _ (least : Option Path) (so : IsSoFar d into tree k least) (outside : IsOutsideEtc e.0) (none : ¬ (ComesBefore least e.0)) where
      node_here : node_at tree e.0 ≡ Some e.1
      node_here = found_at tree k e ascending at.0 (sym at.1)

      not_as : ¬ (StandsAs d into e.0 (Some e.1)) → IsWrong d into tree e.0
      not_as other = record { outside = outside; wrong = inl (λ stands. other (subst (StandsAs d into e.0) node_here stands)) }

      past_bounds : IsPath into → ¬ (IsPath (into ++ e.0)) → ¬ (StandsAs d into e.0 (Some e.1))
      past_bounds path far = λ stands. by stands (root_or_under e.0)
        where
          by : StandsAs d into e.0 (Some e.1) → (e.0 ≡ []) ⊎ ((f : Path) × (x : Name) × (e.0 ≡ under f x)) → ⊥
          by stands (inl root) = far (subst IsPath (sym (ap (λ p. into ++ p) root ∙ append-nil into)) path)
          by stands (inr (f, x, is)) =
              let folder = shape.inner f x e.1 (subst (λ p. node_at tree p ≡ Some e.1) is node_here) in
              let before : path_cmp f e.0 ≡ Less = subst (λ p. path_cmp f p ≡ Less) (sym is) (later_below f x []) in
              let has = passed_before tree k e ascending at f before f (Folder folder.0) (inl refl) folder.1 in
              let same : into ++ e.0 ≡ under (into ++ f) x = ap (λ p. into ++ p) is ∙ sym (append_assoc into f (x ∷ [])) in
              let there : shows d (under (into ++ f) x) ≢ Vacant = subst (λ p. shows d p ≢ Vacant) same (as_there d (into ++ e.0) e.1 (stands_as d into e.0 e.1 stands)) in
              so.near f (Folder folder.0) has (outside_folder f x (subst IsOutsideEtc is outside))
              (record { is_folder = folder_above d is_tree (into ++ f) x there; name = x; there = there; far = subst (λ p. ¬ (IsPath p)) same far })

      wrong_here : IsPath into → IsOther d into e.0 e.1 → IsWrong d into tree e.0
      wrong_here path (inl far) = not_as (past_bounds path far)
      wrong_here path (inr (inl other)) = not_as (λ stands. other (stands_as d into e.0 e.1 stands))
      wrong_here path (inr (inr far)) = record { outside = outside; wrong = inr far }

      -- at a node that isn't there
      pub other_told : IsPath into → IsOther d into e.0 e.1 → Tells d into tree (Some e.0)
      other_told path other = (
        wrong_here path other,
        λ q less wrong. no_earlier least e.0 q none less (wrong_up_to d is_tree into tree shape k least so q (passed_before tree k e ascending at q less) wrong),
      )
