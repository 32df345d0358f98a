-- The places of the layout that have one path each, in their order.
use Rattle.std.proofs.Common.{◌≡◌, ◌⊎◌, inl, inr, ◌<◌, ◌≤◌, ◌+◌, ℕ, true, refl, sym, ◌∙◌, ap, subst, arith, List, [], length, map, get_or, Err}
use Rattle.std.specs.Fmt.{digits}
use Rattle.std.specs.List.Sorted.{IsStrictlySortedBy}
use Rattle.std.specs.declared.cmp.Ordering.TheVariants.{Less}
use Rattle.std.proofs.lemmas.List.{get_or-map, get_or_default}
use Rattle.std.proofs.lemmas.Map.Keys.{Less-from_sorted}
use Rattle.ost_types.specs.Path.{Path, is_below, path_cmp}
use Rattle.fs_trait.specs.View.{Disk}
use Rattle.repo_layout.specs.BootPaths.{boot_folder_path, boot_link_path, loader_folder_path}
use Rattle.repo_layout.specs.declared.fixed.Fixed.TheVariants.{LoaderFolder, Entries, BootLink, BootFolder, Summary}
use Rattle.repo_layout.specs.declared.fixed.Version.TheVariants.{Zero, One}
use Rattle.repo_layout.specs.declared.folder.Folder.TheVariants.{Ostree, Repo, Objects, Refs, Heads, State, Tmp, Deploy, Boot, Kernels, Checkouts}
use Rattle.sys_open.specs.declared.fault.OpenFault.{OpenFault}
use Rattle.sys_open.specs.declared.fault.OpenFault.TheVariants as fault
use Rattle.sys_open.specs.declared.fault.Why.TheVariants.{WrongKind}
use Rattle.layout_rules.specs.declared.spot.Spot.{Spot}
use Rattle.layout_rules.specs.declared.spot.Spot.TheVariants.{Laid, Known}
use Rattle.layout_rules.specs.Checks.{AsksFixed, Suits}
use Rattle.layout_rules.specs.Spots.{all_spots, rule_of, spot_path}
use Rattle.sys_open.specs.Walk.{IsSoBelow, IsFirstBelow, Looked, Walked}
use Rattle.sys_open.proofs.Orders.{not_both_less, not_less_itself}

-- each is one of them
pub is_spot : (f : Spot) → (k : ℕ) × (k < 22) × (get_or all_spots k f ≡ f)
is_spot (Laid Boot) = (0, omega arith, refl)
is_spot (Known (LoaderFolder Zero)) = (1, omega arith, refl)
is_spot (Known (Entries Zero)) = (2, omega arith, refl)
is_spot (Known (LoaderFolder One)) = (3, omega arith, refl)
is_spot (Known (Entries One)) = (4, omega arith, refl)
is_spot (Laid Kernels) = (5, omega arith, refl)
is_spot (Laid Checkouts) = (6, omega arith, refl)
is_spot (Laid Ostree) = (7, omega arith, refl)
is_spot (Known (BootLink Zero)) = (8, omega arith, refl)
is_spot (Known (BootFolder Zero Zero)) = (9, omega arith, refl)
is_spot (Known (BootFolder Zero One)) = (10, omega arith, refl)
is_spot (Known (BootLink One)) = (11, omega arith, refl)
is_spot (Known (BootFolder One Zero)) = (12, omega arith, refl)
is_spot (Known (BootFolder One One)) = (13, omega arith, refl)
is_spot (Laid Deploy) = (14, omega arith, refl)
is_spot (Laid Repo) = (15, omega arith, refl)
is_spot (Laid Objects) = (16, omega arith, refl)
is_spot (Laid Refs) = (17, omega arith, refl)
is_spot (Laid Heads) = (18, omega arith, refl)
is_spot (Laid State) = (19, omega arith, refl)
is_spot (Known Summary) = (20, omega arith, refl)
is_spot (Laid Tmp) = (21, omega arith, refl)

ascending : IsStrictlySortedBy path_cmp (map spot_path all_spots)
unfolding IsStrictlySortedBy loader_folder_path boot_link_path boot_folder_path digits
ascending = ((refl, (refl, (refl, (refl, (refl, (refl, (refl, (refl, (refl, (refl, (refl, (refl, (refl, (refl, (refl, (refl, (refl, (refl, (refl, (refl, (refl, tt))))))))))))))))))))), ((refl, (refl, (refl, (refl, (refl, (refl, (refl, (refl, (refl, (refl, (refl, (refl, (refl, (refl, (refl, (refl, (refl, (refl, (refl, (refl, tt)))))))))))))))))))), ((refl, (refl, (refl, (refl, (refl, (refl, (refl, (refl, (refl, (refl, (refl, (refl, (refl, (refl, (refl, (refl, (refl, (refl, (refl, tt))))))))))))))))))), ((refl, (refl, (refl, (refl, (refl, (refl, (refl, (refl, (refl, (refl, (refl, (refl, (refl, (refl, (refl, (refl, (refl, (refl, tt)))))))))))))))))), ((refl, (refl, (refl, (refl, (refl, (refl, (refl, (refl, (refl, (refl, (refl, (refl, (refl, (refl, (refl, (refl, (refl, tt))))))))))))))))), ((refl, (refl, (refl, (refl, (refl, (refl, (refl, (refl, (refl, (refl, (refl, (refl, (refl, (refl, (refl, (refl, tt)))))))))))))))), ((refl, (refl, (refl, (refl, (refl, (refl, (refl, (refl, (refl, (refl, (refl, (refl, (refl, (refl, (refl, tt))))))))))))))), ((refl, (refl, (refl, (refl, (refl, (refl, (refl, (refl, (refl, (refl, (refl, (refl, (refl, (refl, tt)))))))))))))), ((refl, (refl, (refl, (refl, (refl, (refl, (refl, (refl, (refl, (refl, (refl, (refl, (refl, tt))))))))))))), ((refl, (refl, (refl, (refl, (refl, (refl, (refl, (refl, (refl, (refl, (refl, (refl, tt)))))))))))), ((refl, (refl, (refl, (refl, (refl, (refl, (refl, (refl, (refl, (refl, (refl, tt))))))))))), ((refl, (refl, (refl, (refl, (refl, (refl, (refl, (refl, (refl, (refl, tt)))))))))), ((refl, (refl, (refl, (refl, (refl, (refl, (refl, (refl, (refl, tt))))))))), ((refl, (refl, (refl, (refl, (refl, (refl, (refl, (refl, tt)))))))), ((refl, (refl, (refl, (refl, (refl, (refl, (refl, tt))))))), ((refl, (refl, (refl, (refl, (refl, (refl, tt)))))), ((refl, (refl, (refl, (refl, (refl, tt))))), ((refl, (refl, (refl, (refl, tt)))), ((refl, (refl, (refl, tt))), ((refl, (refl, tt)), ((refl, tt), (tt, tt))))))))))))))))))))))

pub later_spot : (i k : ℕ) (f g : Spot) → i < k → k < 22 → get_or all_spots i f ≡ f → get_or all_spots k g ≡ g → path_cmp (spot_path f) (spot_path g) ≡ Less
later_spot i k f g less inside is_f is_g =
    let a : get_or (map spot_path all_spots) i [] ≡ spot_path f = get_or-map spot_path all_spots i f [] (omega (arith, less, inside)) ∙ ap spot_path is_f in
    let b : get_or (map spot_path all_spots) k [] ≡ spot_path g = get_or-map spot_path all_spots k g [] (omega (arith, inside)) ∙ ap spot_path is_g in
    subst (λ q. path_cmp (spot_path f) q ≡ Less) b (subst (λ p. path_cmp p (get_or (map spot_path all_spots) k []) ≡ Less) a (Less-from_sorted path_cmp (map spot_path all_spots) i k [] ascending less (omega (arith, inside))))

-- what was found at the places of the first so many
abbrev pub SuitFirst : Disk → List Spot → ℕ → Type 0
SuitFirst d spots i = (k : ℕ) (f : Spot) → k < i → get_or spots k f ≡ f → Suits (rule_of f) (d.at (spot_path f))

pub more_suit : (d : Disk) (spots : List Spot) (i : ℕ) (f : Spot) → i < length spots → f ≡ get_or spots i f → Suits (rule_of f) (d.at (spot_path f)) → SuitFirst d spots i → SuitFirst d spots (i + 1)
more_suit d spots i f less is here before k h within is_h = by (order k i within)
  where
    order : (k i : ℕ) → k < i + 1 → (k < i) ⊎ (k ≡ i)
    order k i within = grind (arith, within)

    by : (k < i) ⊎ (k ≡ i) → Suits (rule_of h) (d.at (spot_path h))
    by (inl earlier) = before k h earlier is_h
    by (inr same) = subst (λ x. Suits (rule_of x) (d.at (spot_path x))) (is ∙ get_or_default spots i f h less ∙ ap (λ j. get_or spots j h) (sym same) ∙ is_h) here

pub kinds_suit : (d : Disk) (spots : List Spot) (i : ℕ) → spots ≡ all_spots → length spots ≤ i → SuitFirst d spots i → IsSoBelow (AsksFixed d) []
kinds_suit d spots i are le suit q below rule w =
    let one = is_spot w.0 in
    let here : Suits (rule_of w.0) (d.at (spot_path w.0)) = suit one.0 w.0 (let n : length spots ≡ 22 = ap length are in omega (arith, n, le, one.1)) (ap (λ l. get_or l one.0 w.0) are ∙ one.2) in
    subst (λ r. Suits r (d.at q)) w.1 (subst (λ p. Suits (rule_of w.0) (d.at p)) (sym w.2) here)

root : (q : Path) → is_below [] q ≡ true
unfolding is_below
root q = refl

pub kinds_first : (T : Type 0) (d : Disk) (spots : List Spot) (i : ℕ) (f : Spot) → spots ≡ all_spots → i < length spots → f ≡ get_or spots i f → SuitFirst d spots i → (x : OpenFault)
    → Looked {T = T} (Suits (rule_of f) (d.at (spot_path f))) WrongKind (spot_path f) (Err x) → Walked {T = T} (AsksFixed d) WrongKind [] (Err x)
kinds_first T d spots i f are less is suit fault.Disk looked = tt
kinds_first T d spots i f are less is suit fault.NoMemory looked = tt
kinds_first T d spots i f are less is suit (fault.Outside p) looked = looked
kinds_first T d spots i f are less is suit (fault.Damaged p y) looked = (looked.0, first)
  where
    here : get_or all_spots i f ≡ f
    here = sym (is ∙ ap (λ l. get_or l i f) are)

    all_of : i < 22
    all_of = let n : length spots ≡ 22 = ap length are in omega (arith, n, less)

    order : (k i : ℕ) → (k < i) ⊎ (k ≡ i) ⊎ (i < k)
    order k i = grind arith

    first : IsFirstBelow (AsksFixed d) [] p
    first = record {
      below = root p;
      wrong = λ asks. looked.2 (subst (λ q. Suits (rule_of f) (d.at q)) looked.1 (asks (rule_of f) (f, refl, looked.1)));
      least = λ q below before rule w. subst (λ r. Suits r (d.at q)) w.1 (least q before w.0 w.2);
    }
      where
        least : (q : Path) → path_cmp q p ≡ Less → (g : Spot) → q ≡ spot_path g → Suits (rule_of g) (d.at q)
        least q before g e = by (is_spot g)
          where
            by : (k : ℕ) × (k < 22) × (get_or all_spots k g ≡ g) → Suits (rule_of g) (d.at q)
            by (k, inside, is_g) = at (order k i)
              where
                at : (k < i) ⊎ (k ≡ i) ⊎ (i < k) → Suits (rule_of g) (d.at q)
                at (inl earlier) = subst (λ r. Suits (rule_of g) (d.at r)) (sym e) (suit k g earlier (ap (λ l. get_or l k g) are ∙ is_g))
                at (inr (inl same)) =
                    let one : g ≡ f = sym is_g ∙ get_or_default all_spots k g f inside ∙ ap (λ j. get_or all_spots j f) same ∙ here in
                    absurd (not_less_itself p (subst (λ r. path_cmp r p ≡ Less) (e ∙ ap spot_path one ∙ sym looked.1) before))
                at (inr (inr later)) = absurd (not_both_less q p before (subst (λ r. path_cmp r q ≡ Less) (sym looked.1) (subst (λ r. path_cmp (spot_path f) r ≡ Less) (sym e) (later_spot i k f g later inside here is_g))))
