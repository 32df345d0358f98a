-- What is known of a disk goes on from one node of the tree to the next.
use Rattle.std.proofs.Common.{◌≡◌, ◌≢◌, ◌⊎◌, inl, inr, ⊎_elim, ℕ, ◌<◌, ◌≤◌, ◌+◌, refl, sym, ◌∙◌, ap, subst, [], ◌∷◌, ◌++◌, take, length, get_or, append-nil, append_assoc, Option, Some, None}
use Rattle.std.specs.Prelude.{Contains, IfSome}
use Rattle.std.specs.declared.cmp.Ordering.TheVariants.{Less}
use Rattle.std.proofs.lemmas.List.{take_all}
use Rattle.ost_types.specs.declared.node.NodeName.{NodeName}
use Rattle.ost_types.specs.declared.node.NodeName.TheVariants.{Folder}
use Rattle.ost_types.specs.Path.{Name, Path, path_cmp, under}
use Rattle.ost_types.specs.PathMap.{Nodes, IsAscending, node_at, paths_of}
use Rattle.fs_trait.specs.View.{Disk}
use Rattle.fs_trait.specs.Image.{IsTree}
use Rattle.fs_trait.specs.Seen.{Vacant, shows}
use Rattle.repo_layout.specs.Place.{IsOutsideEtc}
use Rattle.checkout.specs.CheckoutFolder.{IsTreeMap}
use Rattle.checkout.proofs.CheckoutMaps.{found_back, found_before}
use Rattle.checkout_compare.specs.Compare.{HasFar, IsWrong, StandsAs}
use Rattle.checkout_compare.specs.Order.{IsLesser, IsUpTo}
use Rattle.checkout_compare.specs.Looking.{IsAs, IsExtra, IsInside}
use Rattle.checkout_compare.specs.SoFar.{IsSoFar}
use Rattle.checkout_compare.proofs.Lists.{more_cases}
use Rattle.checkout_compare.proofs.Orders.{later_below, path_order, up_to_later}
use Rattle.checkout_compare.proofs.Values.{as_stands, directory_there, there_above}

-- ---- outside etc

pub outside_front : (f : Path) (x : Name) (rest : Path) → IsOutsideEtc (f ++ x ∷ rest) → IsOutsideEtc (under f x)
outside_front [] x rest outside = outside
outside_front (a ∷ f) x rest outside = outside

pub outside_folder : (f : Path) (x : Name) → IsOutsideEtc (under f x) → IsOutsideEtc f
outside_folder [] x outside = tt
outside_folder (a ∷ f) x outside = outside

-- ---- from one node to the next

-- the node with this number
abbrev pub IsNumber : Nodes → ℕ → Path × NodeName → Type 0
IsNumber tree k e = (k < length tree) × (e ≡ get_or tree k e)

either_has : (P : Path → Type 0) (one other lesser : Option Path) → IsLesser one other lesser → IfSome one P → IfSome other P → IfSome lesser P
either_has P one other lesser is h g = ⊎_elim (λ e. subst (λ o. IfSome o P) (sym e) h) (λ e. subst (λ o. IfSome o P) (sym e) g) is.either

module _ (d : Disk) (into : Path) (tree : Nodes) where
  module _ (k : ℕ) (least : Option Path) (so : IsSoFar d into tree k least) (e : Path × NodeName) (at : IsNumber tree k e) where
    cases : (p : Path) (n : NodeName) → Contains (take (k + 1) tree) (p, n) → Contains (take k tree) (p, n) ⊎ ((p, n) ≡ e)
    cases p n has = more_cases tree k e (p, n) at.0 at.1 has

    same_at : (p : Path) (n : NodeName) → (p, n) ≡ e → p ≡ e.0
    same_at p n is = ap (λ (y : Path × NodeName). y.0) is

    -- a node in etc is passed over
    pub passed_over : ¬ (IsOutsideEtc e.0) → IsSoFar d into tree (k + 1) least
    passed_over inside = record {
      stands = λ p n has outside. ⊎_elim (λ before. so.stands p n before outside) (λ is. absurd (inside (subst IsOutsideEtc (same_at p n is) outside))) (cases p n has);
      near = λ p n has outside. ⊎_elim (λ before. so.near p n before outside) (λ is. absurd (inside (subst IsOutsideEtc (same_at p n is) outside))) (cases p n has);
      there = so.there;
      up_to = λ f n x has extra. ⊎_elim (λ before. so.up_to f n x before extra) (λ is. absurd (inside (subst IsOutsideEtc (same_at f n is) (outside_folder f x extra.new.0)))) (cases f n has);
    }

    -- a node stands there
    pub one_more : (new next : Option Path) → IsAs d (into ++ e.0) e.1 → IsInside d into tree e.0 new → IsLesser least new next → IsSoFar d into tree (k + 1) next
    one_more new next here inside lesser = record {
      stands = λ p n has outside. ⊎_elim (λ before. so.stands p n before outside) (λ is. subst (λ (y : Path × NodeName). IsAs d (into ++ y.0) y.1) (sym is) here) (cases p n has);
      near = λ p n has outside. ⊎_elim (λ before. so.near p n before outside) (λ is. subst (λ (y : Path × NodeName). ¬ (HasFar d (into ++ y.0))) (sym is) inside.near) (cases p n has);
      there = either_has (IsExtra d into tree) least new next lesser so.there inside.there;
      up_to = λ f n x has extra. ⊎_elim
          (λ before. lesser.first (under f x) (so.up_to f n x before extra))
          (λ is. lesser.second (under f x) (subst (λ g. IsUpTo new (under g x)) (sym (same_at f n is)) (inside.up_to x (subst (λ g. IsExtra d into tree (under g x)) (same_at f n is) extra))))
          (cases f n has);
    }

-- ---- what was passed

-- what the tree has at a path or before it is among its first nodes
abbrev pub IsPassed : Nodes → ℕ → Path → Type 0
IsPassed tree k q = (r : Path) (n : NodeName) → (r ≡ q) ⊎ (path_cmp r q ≡ Less) → node_at tree r ≡ Some n → Contains (take k tree) (r, n)

pub passed_before : (tree : Nodes) (k : ℕ) (e : Path × NodeName) → IsAscending (paths_of tree) → IsNumber tree k e → (q : Path) → path_cmp q e.0 ≡ Less → IsPassed tree k q
passed_before tree k e ascending at q less = λ r n upto has. found_back (take k tree) r n (found_before tree k e r n ascending at.0 (sym at.1) (⊎_elim (λ same. subst (λ s. path_cmp s e.0 ≡ Less) (sym same) less) (λ earlier. path_order.trans r q e.0 earlier less) upto) has)

pub passed_all : (tree : Nodes) (k : ℕ) → length tree ≤ k → (q : Path) → IsPassed tree k q
passed_all tree k end q = λ r n upto has. found_back (take k tree) r n (subst (λ m. node_at m r ≡ Some n) (sym (take_all k tree end)) has)

-- ---- what is wrong

module _ (d : Disk) (is_tree : IsTree d) (into : Path) (tree : Nodes) (shape : IsTreeMap tree) (k : ℕ) (least : Option Path) (so : IsSoFar d into tree k least) where
  -- from a node of the tree on down to a path at which something stands that is none of the tree
  climb : (q : Path) → IsPassed tree k q → shows d (into ++ q) ≢ Vacant → node_at tree q ≡ None → IsOutsideEtc q → (rest f : Path) → f ++ rest ≡ q → (n : NodeName) → node_at tree f ≡ Some n → IsUpTo least q
  climb q passed there none outside [] f is n has = let no : None ≡ Some n = sym none ∙ ap (node_at tree) (sym is ∙ append-nil f) ∙ has in cc
  climb q passed there none outside (x ∷ rest) f is n has =
      by (node_at tree (under f x)) refl (climb q passed there none outside rest (under f x) (append_assoc f (x ∷ []) rest ∙ is))
    where
      extra : node_at tree (under f x) ≡ None → IsExtra d into tree (under f x)
      extra new = record {
        new = (outside_front f x rest (subst IsOutsideEtc (sym is) outside), new);
        there = there_above d is_tree (into ++ under f x) rest (subst (λ p. shows d p ≢ Vacant) (ap (λ p. into ++ p) (sym is ∙ sym (append_assoc f (x ∷ []) rest)) ∙ sym (append_assoc into (under f x) rest)) there);
      }

      later : (rest : Path) → f ++ x ∷ rest ≡ q → (under f x ≡ q) ⊎ (path_cmp (under f x) q ≡ Less)
      later [] is = inl is
      later (y ∷ rest) is = inr (subst (λ p. path_cmp (under f x) p ≡ Less) (append_assoc f (x ∷ []) (y ∷ rest) ∙ is) (later_below (under f x) y rest))

      by : (o : Option NodeName) → node_at tree (under f x) ≡ o → ((m : NodeName) → node_at tree (under f x) ≡ Some m → IsUpTo least q) → IsUpTo least q
      by (Some m) e deeper = deeper m e
      by None e deeper =
          let here = so.up_to f n x (passed f n (inr (subst (λ p. path_cmp f p ≡ Less) is (later_below f x rest))) has) (extra e) in
          up_to_later least (under f x) q here (later rest is)

  -- what is wrong where all was passed isn't before the least path that is none of the tree
  pub wrong_up_to : (q : Path) → IsPassed tree k q → IsWrong d into tree q → IsUpTo least q
  wrong_up_to q passed wrong = by (node_at tree q) refl
    where
      by : (o : Option NodeName) → node_at tree q ≡ o → IsUpTo least q
      by (Some n) e =
          let has = passed q n (inl refl) e in
          absurd (⊎_elim (λ other. other (subst (StandsAs d into q) (sym e) (as_stands d into q n (so.stands q n has wrong.outside)))) (λ far. so.near q n has wrong.outside far) wrong.wrong)
      by None e =
          climb q passed (λ none. ⊎_elim (λ other. other (subst (StandsAs d into q) (sym e) none)) (λ far. directory_there (shows d (into ++ q)) far.is_folder none) wrong.wrong) e wrong.outside q [] refl (Folder shape.root.0) shape.root.1
