-- What is asked of all paths of deployments and of what boots them, from what was asked of those that were looked at: the files of a listed
-- deployment were compared with its commit.
use Rattle.std.proofs.Common.{◌≡◌, ◌≢◌, ◌⊎◌, inl, inr, ⊎_elim, ℕ, Bool, true, false, refl, sym, ◌∙◌, ap, subst, List, [], ◌∷◌, ◌++◌, append_assoc, codes, Option}
use Rattle.std.specs.Prelude.{Contains}
use Rattle.std.specs.Bool.{Decides}
use Rattle.std.proofs.lemmas.List.Elements.{All-contains, All-contains_itself, All-map, All-weaker}
use Rattle.ost_types.specs.declared.limits.Limits.{Limits}
use Rattle.ost_types.specs.Path.{Name, Path, is_below, same_name, under}
use Rattle.ost_types.proofs.Paths.{same_name-Decides}
use Rattle.fs_trait.specs.declared.types.Value.TheVariants.{Absent}
use Rattle.fs_trait.specs.View.{Disk}
use Rattle.fs_trait.specs.Image.{IsTree}
use Rattle.fs_trait.specs.Seen.{Vacant, seen, shows}
use Rattle.fs_trait.proofs.Facts.{vacant_absent}
use Rattle.repo_layout.specs.BootPaths.{loader_path}
use Rattle.repo_layout.specs.Place.{IsOutsideEtc}
use Rattle.layout_rules.specs.Checks.{Asks, IsReached, Staging}
use Rattle.layout_rules.proofs.Layouts.{below_split, split_below}
use Rattle.boot_model.specs.declared.item.DepId.{DepId}
use Rattle.boot_read.specs.declared.row.BootRow.{BootRow}
use Rattle.boot_read.specs.Rows.{AreRowsOf}
use Rattle.deploy_clean.specs.Unlisted.{IsFree, IsPathOf, IsUnlisted, is_listed}
use Rattle.deploy_clean.proofs.NameTexts.{listed_there, there_listed}
use Rattle.deployment_check.specs.Deployments.{IsId, IsWholeDeployment, etc_of, home_of}
use Rattle.deployment_check.proofs.Rooms.{room_below}
use Rattle.deployment_check.proofs.Trees.{named_within}
use Rattle.durable_list.specs.Standing.{ids_of}
use Rattle.durable_deployments.specs.Standing.{AreWhole}
use Rattle.sys_open.specs.Damages.{Clearable}
use Rattle.sys_open.specs.LeftOver.{AreLeftOvers, AreStaying, AsksBelow, CanGo, IsLeftOver, IsOwnOf, IsOwnPath}
use Rattle.durable_deployments.specs.Bounds.{IsOfBoot, LiesWithin}
use Rattle.sys_open.specs.Walk.{IsLeastWrong, IsLesser}
use Rattle.sys_open.proofs.Firsts.{Both, least_same, lesser_least}
use Rattle.sys_open.proofs.LeftOvers.{may_left, may_unlisted, row_id}
use Rattle.sys_open.proofs.ReachedPlaces.{reached_vacant}
use Rattle.sys_open.proofs.Walks.{absent_below, absent_or_not, below_under}

-- the row of a deployment that the list names
module _ (rows : List BootRow) where
  abbrev IsNamed : DepId → Type 0
  IsNamed id = (row : BootRow) × Contains rows row × (row.id ≡ id)

  row_named : (id : DepId) → Contains (ids_of rows) id → IsNamed id
  row_named id among =
      All-contains IsNamed (ids_of rows) id
      (All-map IsNamed (λ (r : BootRow). r.id) rows (All-weaker (Contains rows) (λ (r : BootRow). IsNamed r.id) (λ r has. (r, has, refl)) rows (All-contains_itself rows))) among

-- outside its `etc` a deployment that is whole is within the bounds of paths
outside_reached : (limits : Limits) (d : Disk) (id : DepId) (bootcsum : List ℕ) → IsId id → IsWholeDeployment limits d id bootcsum → (rest : Path) → IsOutsideEtc rest → IsReached d (home_of id ++ rest)
outside_reached limits d id bootcsum is whole rest outside x there =
    named_within limits d id.commit whole.tree whole.has (home_of id) (room_below id is) whole.checkout rest x outside (λ vacant. there (vacant_absent d (under (home_of id ++ rest) x) vacant))

below_etc : (id : DepId) (rest : Path) → is_below (etc_of id) (home_of id ++ codes "etc" ∷ rest) ≡ true
below_etc id rest = subst (λ q. is_below (etc_of id) q ≡ true) (append_assoc (home_of id) (codes "etc" ∷ []) rest) (split_below (etc_of id) rest)

module _ (d : Disk) (tree : IsTree d) (limits : Limits) (rows : List BootRow) (are : AreRowsOf d rows) (whole : AreWhole limits d rows)
    (paths staying : List Path) (left : AreLeftOvers d paths) (stays : AreStaying d (ids_of rows) staying) where
  abbrev Asked : Path → Type 0
  Asked = Both (AsksBelow paths d) (AsksBelow staying d)

  vacant_below : (q p : Path) → is_below q p ≡ true → d.at q ≡ Absent → IsReached d p
  vacant_below q p below none = let s = below_split q p below in reached_vacant d tree p (subst (λ r. d.at r ≡ Absent) (sym s.1) (absent_below d tree q s.0 none))

  -- what no list boots
  left_reached : (p : Path) → AsksBelow paths d p → (q : Path) → IsLeftOver d q → is_below q p ≡ true → IsReached d p
  left_reached p asks q is below = ⊎_elim (λ none. vacant_below q p below none) (λ there. asks (q, left.all q is there, below)) (absent_or_not (d.at q))

  unlisted_reached : (p : Path) → Asked p → (q : Path) → IsUnlisted (ids_of rows) q → is_below q p ≡ true → IsReached d p
  unlisted_reached p asked q un below = ⊎_elim
      (λ none. ⊎_elim
      (λ absent. vacant_below q p below absent)
      (λ there. asked.1 (q, stays.others (λ selected. selected (ap (seen d) none)) q un there, below))
      (absent_or_not (d.at q)))
      (λ there. left_reached p asked.0 q (inr (inr (record { selected = λ vacant. there (vacant_absent d loader_path vacant); rows = rows; are = are; unlisted = un }))) below)
      (absent_or_not (d.at loader_path))

  -- what a list boots
  module _ (id : DepId) (is : IsId id) (among : Contains (ids_of rows) id) where
    outside : (rest : Path) → IsOutsideEtc rest → IsReached d (home_of id ++ rest)
    outside rest out =
        let named = row_named rows id among in
        outside_reached limits d id named.0.bootcsum is (subst (λ x. IsWholeDeployment limits d x named.0.bootcsum) named.2 (whole named.0 named.1)) rest out

    file_reached : (rest : Path) → AsksBelow staying d (home_of id ++ rest) → IsReached d (home_of id ++ rest)
    file_reached [] asks = outside [] tt
    file_reached (x ∷ rest) asks = by (same_name x (codes "etc")) (same_name-Decides x (codes "etc"))
      where
        by : (b : Bool) → Decides b (x ≡ codes "etc") → IsReached d (home_of id ++ x ∷ rest)
        by true same = asks (etc_of id, stays.own (etc_of id) (id, among, inl refl), subst (λ y. is_below (etc_of id) (home_of id ++ y ∷ rest) ≡ true) (sym (same.0 refl)) (below_etc id rest))
        by false same = outside (x ∷ rest) (λ etc. let n : false ≡ true = same.1 etc in cc)

    listed_reached : (p : Path) → AsksBelow staying d p → (q : Path) → IsPathOf id q → is_below q p ≡ true → IsReached d p
    listed_reached p asks q (inl home) below =
        let s = below_split q p below in
        let same : p ≡ home_of id ++ s.0 = s.1 ∙ ap (λ g. g ++ s.0) home in
        subst (IsReached d) (sym same) (file_reached s.0 (subst (AsksBelow staying d) same asks))
    listed_reached p asks q (inr origin) below = asks (q, stays.own q (id, among, inr origin), below)

  asked_reached : (p : Path) → Asked p → CanGo d p
  asked_reached p asked (q, inl is, below) = left_reached p asked.0 q (inl is) below
  asked_reached p asked (q, inr (inl is), below) = left_reached p asked.0 q (inr (inl is)) below
  asked_reached p asked (q, inr (inr (inl of)), below) = asked.1 (q, stays.boot q of, below)
  asked_reached p asked (q, inr (inr (inr (id, is, of))), below) = by (is_listed (ids_of rows) id) refl
    where
      free : is_listed (ids_of rows) id ≡ false → IsFree (ids_of rows) id
      free none = record { stateroot = is.stateroot; sum = is.sum; small = is.small; unlisted = λ has. let n : false ≡ true = sym none ∙ there_listed (ids_of rows) id has in cc }

      by : (b : Bool) → is_listed (ids_of rows) id ≡ b → IsReached d p
      by true has = listed_reached id is (listed_there (ids_of rows) id has) p asked.1 q of below
      by false none = unlisted_reached p asked q (id, free none, of) below

  -- and the other way round
  own_lies : (id : DepId) → IsId id → (q p : Path) → IsOwnPath id q → is_below q p ≡ true → LiesWithin p
  own_lies id is q p (inl etc) below = (home_of id, inr (inr (inr (id, is, inl refl))), (below_under (home_of id) (codes "etc") p (subst (λ g. is_below g p ≡ true) etc below)).2)
  own_lies id is q p (inr origin) below = (q, inr (inr (inr (id, is, inr origin))), below)

  staying_lies : (q p : Path) → IsOwnOf (ids_of rows) q ⊎ IsUnlisted (ids_of rows) q ⊎ IsOfBoot q → is_below q p ≡ true → LiesWithin p
  staying_lies q p (inl (id, among, own)) below = let named = row_named rows id among in own_lies id (subst IsId named.2 (row_id d rows named.0 named.1 are)) q p own below
  staying_lies q p (inr (inl un)) below = (q, inr (inr (inr (may_unlisted (ids_of rows) q un))), below)
  staying_lies q p (inr (inr of)) below = (q, inr (inr (inl of)), below)

  reached_left : (p : Path) → CanGo d p → AsksBelow paths d p
  reached_left p can_go (q, has, below) = can_go (q, may_left d q (left.each q has), below)

  reached_staying : (p : Path) → CanGo d p → AsksBelow staying d p
  reached_staying p can_go (q, has, below) = can_go (staying_lies q p (stays.each q has) below)

  within_least : (one : Option Path) → IsLeastWrong Asked one → IsLeastWrong (CanGo d) one
  within_least one wrong = least_same Asked (CanGo d) asked_reached (λ p can_go. (reached_left p can_go, reached_staying p can_go)) one wrong

  -- with what is staged for a change of refs
  pub clearable_least : (staged gone stayed found one : Option Path) → IsLesser gone stayed found → IsLesser staged found one
      → IsLeastWrong (Asks Staging d) staged → IsLeastWrong (AsksBelow paths d) gone → IsLeastWrong (AsksBelow staying d) stayed → IsLeastWrong (Clearable d) one
  clearable_least staged gone stayed found one first second a b c =
      lesser_least (Asks Staging d) (CanGo d) staged found one second a (within_least found (lesser_least (AsksBelow paths d) (AsksBelow staying d) gone stayed found first b c))
