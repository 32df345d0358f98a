-- Paths as they are gathered: of what no list boots, all at which something stands.
use Rattle.std.proofs.Common.{◌≡◌, ◌≢◌, ◌⊎◌, ◌↔◌, IsTrue, inl, inr, ⊎_elim, ◌<◌, ◌≤◌, ◌+◌, ℕ, true, false, refl, sym, ◌∙◌, ap, subst, arith, List, [], ◌∷◌, ◌++◌, length, get_or, codes}
use Rattle.std.specs.Prelude.{Contains}
use Rattle.std.proofs.lemmas.List.{get_or_default}
use Rattle.std.proofs.lemmas.List.Elements.{Contains-append_left, Contains-push, Contains-push_cases}
use Rattle.ost_types.specs.Path.{Name, Path, under}
use Rattle.fs_trait.specs.declared.types.Value.TheVariants.{Absent}
use Rattle.fs_trait.specs.View.{Disk}
use Rattle.fs_trait.specs.Image.{IsTree}
use Rattle.fs_trait.specs.Effect.{IsListing}
use Rattle.fs_trait.specs.Seen.{Vacant, seen, shows}
use Rattle.fs_trait.proofs.Facts.{vacant_absent}
use Rattle.ref_room.specs.declared.stands.Stands.{Stands}
use Rattle.ref_room.specs.declared.stands.Stands.TheVariants.{Nothing}
use Rattle.ref_room.specs.Stands.{stands}
use Rattle.ref_room.proofs.Disks.{looked_nothing}
use Rattle.repo_layout.specs.declared.folder.Folder.TheVariants.{Deploy}
use Rattle.repo_layout.specs.OsName.{IsOsName}
use Rattle.repo_layout.specs.BootPaths.{boot_link_stage_path, loader_path, loader_stage_path}
use Rattle.repo_layout.specs.Paths.{folder_path}
use Rattle.boot_model.specs.declared.item.DepId.{DepId}
use Rattle.boot_read.specs.declared.row.BootRow.{BootRow}
use Rattle.boot_read.specs.Rows.{AreRowsOf}
use Rattle.deploy_clean.specs.Unlisted.{IsUnlisted, IsUnlistedName, deployments}
use Rattle.deploy_clean.proofs.Places.{IsUnder, unlisted_at, unlisted_path, unlisted_under}
use Rattle.sys_open.specs.LeftOver.{AreLeftOvers, Gathers, IsLeftOver, IsThere, IsUnlistedAt, IsUnlistedIn}
use Rattle.durable_list.specs.Standing.{HasLoader, ids_of}
use Rattle.sys_open.proofs.LeftOvers.{unlisted_of}
use Rattle.sys_open.proofs.Walks.{absent_below}

module _ (May : Path → Type 0) where
  pub none_gathered : (Must : Path → Type 0) (old : List Path) → ((q : Path) → Must q → ⊥) → Gathers May Must old old
  none_gathered Must old none = record { may = λ q has. inl has; kept = λ q has. has; must = λ q m. absurd (none q m) }

  pub one_gathered : (Must : Path → Type 0) (old new : List Path) (x : Path) → new ≡ old ++ x ∷ [] → May x → ((q : Path) → Must q → q ≡ x) → Gathers May Must old new
  one_gathered Must old new x is may must = subst (Gathers May Must old) (sym is) (record {
    may = λ q has. ⊎_elim (λ before. inl before) (λ e. inr (subst May e may)) (Contains-push_cases old x q has);
    kept = λ q has. Contains-append_left old (x ∷ []) q has;
    must = λ q m. subst (λ r. Contains (old ++ x ∷ []) r) (sym (must q m)) (Contains-push old x);
  })

  pub gathered_then : (A B C : Path → Type 0) (old mid new : List Path) → Gathers May A old mid → Gathers May B mid new → ((q : Path) → C q → A q ⊎ B q) → Gathers May C old new
  gathered_then A B C old mid new first next leads = record {
    may = λ q has. ⊎_elim (λ before. first.may q before) (λ is. inr is) (next.may q has);
    kept = λ q has. next.kept q (first.kept q has);
    must = λ q c. ⊎_elim (λ a. next.kept q (first.must q a)) (λ b. next.must q b) (leads q c);
  }

  pub gathered_less : (A C : Path → Type 0) (old new : List Path) → Gathers May A old new → ((q : Path) → C q → A q) → Gathers May C old new
  gathered_less A C old new gathers leads = record { may = gathers.may; kept = gathers.kept; must = λ q c. gathers.must q (leads q c) }

split_last : (k i : ℕ) → k < i + 1 → (k < i) ⊎ (k ≡ i)
split_last k i within = grind (arith, within)

-- whether a list is selected
module _ (d : Disk) (at : Path) (is : at ≡ loader_path) where
  pub no_loader : Nothing ≡ stands (d.at at) → IsTrue false ↔ HasLoader d
  no_loader told = (λ f. absurd (let n : false ≡ true = f in cc), λ has. absurd (has (ap (shows d) (sym is) ∙ ap (seen d) (looked_nothing (d.at at) told))))

  pub a_loader : (s : Stands) → s ≡ stands (d.at at) → s ≢ Nothing → IsTrue true ↔ HasLoader d
  a_loader s told apart = (λ t none. apart (told ∙ ap stands (vacant_absent d at (ap (shows d) is ∙ none))), λ has. refl)

-- ---- the names of one stateroot

-- of the first so many names
abbrev pub AtFirst : List DepId → Name → List Name → ℕ → Path → Type 0
AtFirst listed os names i q = ((k : ℕ) × (k < i) × (q ≡ under (deployments os) (get_or names k []))) × IsUnlisted listed q

pub none_at_first : (listed : List DepId) (os : Name) (names : List Name) (q : Path) → AtFirst listed os names 0 q → ⊥
none_at_first listed os names q ((k, less, is), un) = omega (arith, less)

pub at_more : (listed : List DepId) (os : Name) (names : List Name) (i : ℕ) (x : Name) → i < length names → x ≡ get_or names i x → (q : Path) → AtFirst listed os names (i + 1) q → AtFirst listed os names i q ⊎ IsUnlistedAt listed os x q
at_more listed os names i x less item q ((k, within, is), un) = ⊎_elim
    (λ before. inl ((k, before, is), un))
    (λ same. inr (is ∙ ap (λ j. under (deployments os) (get_or names j [])) same ∙ ap (under (deployments os)) (sym (item ∙ get_or_default names i x [] less)), un))
    (split_last k i within)

pub at_all : (d : Disk) (listed : List DepId) (os : Name) (names : List Name) (i : ℕ) → length names ≤ i → IsListing d (deployments os) names → (q : Path) → IsThere (IsUnlistedIn listed os) d q → AtFirst listed os names i q
at_all d listed os names i le listing q (((name, is), un), there) =
    let has = listing.all name (subst (λ r. d.at r ≢ Absent) is there) in
    ((has.0, omega (arith, has.1, le), is ∙ ap (under (deployments os)) (sym has.2 ∙ get_or_default names has.0 name [] has.1)), un)

pub unlisted_one : (listed : List DepId) (os name : Name) (at : Path) → at ≡ under (deployments os) name → IsUnlistedName listed os name → IsUnlisted listed at
unlisted_one listed os name at is un = subst (IsUnlisted listed) (sym is) (unlisted_path listed os name un)

pub named_one : (listed : List DepId) (os name : Name) (q : Path) → IsUnlistedAt listed os name q → IsUnlistedName listed os name
named_one listed os name q (is, un) = (unlisted_at listed os name (subst (IsUnlisted listed) is un)).1

-- a name that is none of a stateroot
pub no_stateroot : (listed : List DepId) (name : Name) (q : Path) → IsUnlistedIn listed name q → IsOsName name
no_stateroot listed name q ((x, is), un) = (unlisted_at listed name x (subst (IsUnlisted listed) is un)).0

-- ---- the stateroots

abbrev pub InFirst : List DepId → Disk → List Name → ℕ → Path → Type 0
InFirst listed d names i q = (k : ℕ) × (k < i) × IsThere (IsUnlistedIn listed (get_or names k [])) d q

pub none_in_first : (listed : List DepId) (d : Disk) (names : List Name) (q : Path) → InFirst listed d names 0 q → ⊥
none_in_first listed d names q (k, less, is) = omega (arith, less)

pub in_more : (listed : List DepId) (d : Disk) (names : List Name) (i : ℕ) (x : Name) → i < length names → x ≡ get_or names i x → (q : Path) → InFirst listed d names (i + 1) q → InFirst listed d names i q ⊎ IsThere (IsUnlistedIn listed x) d q
in_more listed d names i x less item q (k, within, is) = ⊎_elim
    (λ before. inl (k, before, is))
    (λ same. inr (subst (λ os. IsThere (IsUnlistedIn listed os) d q) (ap (λ j. get_or names j []) same ∙ sym (item ∙ get_or_default names i x [] less)) is))
    (split_last k i within)

pub in_all : (d : Disk) → IsTree d → (listed : List DepId) (names : List Name) (i : ℕ) → length names ≤ i → IsListing d (folder_path Deploy) names → (q : Path) → IsThere (IsUnlisted listed) d q → InFirst listed d names i q
in_all d tree listed names i le listing q (un, there) = (has.0, omega (arith, has.1, le), (((u.name, u.at ∙ ap (λ os. under (deployments os) u.name) same), un), there))
  where
    u : IsUnder listed q
    u = unlisted_under listed q un

    stands : d.at (under (folder_path Deploy) u.os) ≢ Absent
    stands none = there (ap d.at u.at ∙ absent_below d tree (under (folder_path Deploy) u.os) (codes "deploy" ∷ u.name ∷ []) none)

    has : Contains names u.os
    has = listing.all u.os stands

    same : u.os ≡ get_or names has.0 []
    same = sym has.2 ∙ get_or_default names has.0 u.os [] has.1

-- ---- all

module _ (d : Disk) (start one two : List Path) (loader link : Path) (none : start ≡ []) (is_loader : loader ≡ loader_stage_path) (is_link : link ≡ boot_link_stage_path) (first : one ≡ start ++ loader ∷ []) (second : two ≡ one ++ link ∷ []) where
  of_one : (q : Path) → Contains start q ⊎ (loader ≡ q) → IsLeftOver d q
  of_one q (inl (k, less, is)) = absurd (omega (arith, less, ap length none))
  of_one q (inr e) = inl (sym e ∙ is_loader)

  of_two : (q : Path) → Contains two q → IsLeftOver d q
  of_two q has = ⊎_elim
      (λ before. of_one q (Contains-push_cases start loader q (subst (λ l. Contains l q) first before)))
      (λ e. inr (inl (sym e ∙ is_link)))
      (Contains-push_cases one link q (subst (λ l. Contains l q) second has))

  has_loader_stage : (q : Path) → q ≡ loader_stage_path → Contains two q
  has_loader_stage q is = subst (λ l. Contains l q) (sym second) (Contains-append_left one (link ∷ []) q (subst (λ l. Contains l q) (sym first) (subst (Contains (start ++ loader ∷ [])) (is_loader ∙ sym is) (Contains-push start loader))))

  has_link_stage : (q : Path) → q ≡ boot_link_stage_path → Contains two q
  has_link_stage q is = subst (λ l. Contains l q) (sym second) (subst (Contains (one ++ link ∷ [])) (is_link ∙ sym is) (Contains-push one link))

  -- with the deployments that the list doesn't name
  pub left_over_all : (rows : List BootRow) (listed : List DepId) (paths : List Path) → listed ≡ ids_of rows → AreRowsOf d rows → HasLoader d → Gathers (IsUnlisted listed) (IsThere (IsUnlisted listed) d) two paths → AreLeftOvers d paths
  left_over_all rows listed paths ids are selected gathers = record {
    each = λ q has. ⊎_elim (λ before. of_two q before) (λ un. inr (inr (record { selected = selected; rows = rows; are = are; unlisted = subst (λ l. IsUnlisted l q) ids un }))) (gathers.may q has);
    all = λ q of there. by q of there;
  }
    where
      by : (q : Path) → IsLeftOver d q → d.at q ≢ Absent → Contains paths q
      by q (inl is) there = gathers.kept q (has_loader_stage q is)
      by q (inr (inl is)) there = gathers.kept q (has_link_stage q is)
      by q (inr (inr of)) there = gathers.must q (subst (λ l. IsUnlisted l q) (sym ids) (unlisted_of d rows q are of), there)

  -- or without any, where no list is selected
  pub left_over_links : ¬ (HasLoader d) → AreLeftOvers d two
  left_over_links unselected = record { each = of_two; all = λ q of there. by q of }
    where
      by : (q : Path) → IsLeftOver d q → Contains two q
      by q (inl is) = has_loader_stage q is
      by q (inr (inl is)) = has_link_stage q is
      by q (inr (inr of)) = absurd (unselected of.selected)
