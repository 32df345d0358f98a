-- What the names in a folder tell.
use Rattle.std.proofs.Common.{◌≡◌, ◌≢◌, ◌⊎◌, inl, inr, Bool, true, sym, ◌∙◌, ap, subst, List, [], ◌∷◌, ◌++◌, ◌+◌, append_assoc, length, length-append, Option, Some, None, arith}
use Rattle.std.specs.Prelude.{All, Contains}
use Rattle.std.specs.List.{AllByRecursion}
use Rattle.std.proofs.lemmas.List.Elements.{All-from_recursion}
use Rattle.std.specs.List.Sorted.{IsStrictlySortedBy}
use Rattle.std.specs.Cmp.Lexicographic.{slice_cmp}
use Rattle.std.specs.Ordering.{nat_cmp}
use Rattle.std.specs.declared.cmp.Ordering.TheVariants.{Less}
use Rattle.ost_types.specs.Path.{Name, Path, IsPath, joined, path_cmp, under}
use Rattle.ost_types.specs.PathMap.{Nodes}
use Rattle.ost_types.proofs.Joined.{IsPath-from_joined, IsPath-joined, joined-append}
use Rattle.ost_types.proofs.Splitting.{AreNames-back}
use Rattle.fs_trait.specs.View.{Disk}
use Rattle.fs_trait.specs.Image.{IsTree}
use Rattle.fs_trait.specs.Effect.{IsListing}
use Rattle.fs_trait.specs.Seen.{Vacant, seen, shows}
use Rattle.fs_trait.proofs.Facts.{vacant_absent}
use Rattle.checkout.specs.CheckoutFolder.{IsLeaf}
use Rattle.checkout_compare.specs.Compare.{HasFar}
use Rattle.checkout_compare.specs.Order.{IsUpTo}
use Rattle.checkout_compare.specs.Looking.{AllFit, IsExtra, IsFirst, IsFirstNew, IsInside, IsNew}
use Rattle.checkout_compare.proofs.Lists.{all_has, by_middle, has_middle}
use Rattle.checkout_compare.proofs.Orders.{less_by_name, not_both, not_itself}
use Rattle.checkout_compare.proofs.Values.{leaf_no_folder, leaf_or_folder, nothing_in}

-- ---- bounds

-- the back of a path keeps the bounds of paths
IsPath-back : (p q : Path) → IsPath (p ++ q) → IsPath q
IsPath-back p q is =
    let few = length-append p q in
    let short : length (joined (p ++ q)) ≡ length (joined p) + length (joined q) = ap length (joined-append p q) ∙ length-append (joined p) (joined q) in
    let all = IsPath-joined (p ++ q) is in
    IsPath-from_joined q (AreNames-back p q is.names) (omega (arith, few, is.few)) (omega (arith, short, all))

inside_by_recursion : (into f : Path) (names : List Name) → AllByRecursion (λ x. IsPath (under (into ++ f) x)) names → AllByRecursion (λ x. IsPath (under f x)) names
inside_by_recursion into f [] fit = tt
inside_by_recursion into f (x ∷ names) fit = (IsPath-back into (under f x) (subst IsPath (append_assoc into f (x ∷ [])) fit.0), inside_by_recursion into f names fit.1)

-- names that fit a folder on the disk fit its path in the tree
pub fit_inside : (into f at : Path) → at ≡ into ++ f → (names : List Name) (b : Bool) → AllFit at names b → b ≡ true → All (λ x. IsPath (under f x)) names
fit_inside into f at is names b fit all =
    All-from_recursion (λ x. IsPath (under f x)) names
    (inside_by_recursion into f names (subst (λ g. AllByRecursion (λ x. IsPath (under g x)) names) is (subst (AllFit at names) all fit)))

-- ---- a folder

module _ (d : Disk) (into f : Path) (names : List Name) (listing : IsListing d (into ++ f) names) where
  same_path : (x : Name) → shows d (into ++ under f x) ≡ shows d (under (into ++ f) x)
  same_path x = ap (shows d) (sym (append_assoc into f (x ∷ [])))

  listed : (x : Name) → shows d (under (into ++ f) x) ≢ Vacant → Contains names x
  listed x there = listing.all x (λ none. there (ap (seen d) none))

  there_listed : (x : Name) → Contains names x → shows d (into ++ under f x) ≢ Vacant
  there_listed x has none = listing.there x has (vacant_absent d (under (into ++ f) x) (sym (same_path x) ∙ none))

  near_fit : AllByRecursion (λ x. IsPath (under (into ++ f) x)) names → ¬ (HasFar d (into ++ f))
  near_fit fit = λ far. far.far (all_has (λ x. IsPath (under (into ++ f) x)) names far.name fit (listed far.name far.there))

  module _ (tree : Nodes) where
    extra_listed : (x : Name) → IsExtra d into tree (under f x) → Contains names x
    extra_listed x extra = listed x (λ none. extra.there (same_path x ∙ none))

    first_extra : (p : Path) → IsFirst tree f names p → IsExtra d into tree p
    first_extra p first = record {
      new = first.new;
      there = subst (λ q. shows d (into ++ q) ≢ Vacant) (sym first.is) (there_listed first.name (subst (λ l. Contains l first.name) (sym first.all) (has_middle first.front first.name first.rest)));
    }

    first_up_to : (p : Path) → IsFirst tree f names p → (x : Name) → IsExtra d into tree (under f x) → IsUpTo (Some p) (under f x)
    first_up_to p first x extra = λ before.
        let less : path_cmp (under f x) (under f first.name) ≡ Less = subst (λ q. path_cmp (under f x) q ≡ Less) first.is before in
        by less
        (by_middle (slice_cmp nat_cmp) first.front first.name first.rest x (subst (IsStrictlySortedBy (slice_cmp nat_cmp)) first.all listing.ascending) (subst (λ l. Contains l x) first.all (extra_listed x extra)))
      where
        by : path_cmp (under f x) (under f first.name) ≡ Less → Contains first.front x ⊎ (x ≡ first.name) ⊎ (slice_cmp nat_cmp first.name x ≡ Less) → ⊥
        by less (inl earlier) = all_has (λ y. ¬ (IsNew tree (under f y))) first.front x first.earlier earlier extra.new
        by less (inr (inl same)) = not_itself (under f first.name) (subst (λ y. path_cmp (under f y) (under f first.name) ≡ Less) same less)
        by less (inr (inr later)) = not_both (under f x) (under f first.name) less (less_by_name f first.name x later)

    inside_by : AllByRecursion (λ x. IsPath (under (into ++ f) x)) names → (least : Option Path) → IsFirstNew tree f names least → IsInside d into tree f least
    inside_by fit None none = record {
      near = near_fit fit;
      there = tt;
      up_to = λ x extra. absurd (all_has (λ y. ¬ (IsNew tree (under f y))) names x none (extra_listed x extra) extra.new);
    }
    inside_by fit (Some p) first = record { near = near_fit fit; there = first_extra p first; up_to = first_up_to p first }

-- the names of a folder were looked at
pub inside_told : (d : Disk) (into f at : Path) → at ≡ into ++ f → (names : List Name) → IsListing d at names → (b : Bool) → AllFit at names b → b ≡ true
    → (tree : Nodes) (least : Option Path) → IsFirstNew tree f names least → IsInside d into tree f least
inside_told d into f at is names listing b fit all tree least new =
    inside_by d into f names (subst (λ g. IsListing d g names) is listing) tree
    (subst (λ g. AllByRecursion (λ x. IsPath (under g x)) names) is (subst (AllFit at names) all fit)) least new

-- ---- a leaf

-- a leaf has no names
pub leaf_inside : (d : Disk) → IsTree d → (into f : Path) (tree : Nodes) → IsLeaf (shows d (into ++ f)) → IsInside d into tree f None
leaf_inside d is_tree into f tree leaf = record {
  near = λ far. leaf_or_folder (shows d (into ++ f)) leaf far.is_folder;
  there = tt;
  up_to = λ x extra. absurd (extra.there (ap (shows d) (sym (append_assoc into f (x ∷ []))) ∙ nothing_in d is_tree (into ++ f) x (leaf_no_folder (shows d (into ++ f)) leaf)));
}
