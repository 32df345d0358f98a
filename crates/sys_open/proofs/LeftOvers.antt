-- What no list boots lies apart from all that a list boots.
use Rattle.std.proofs.Common.{◌≡◌, ◌≢◌, ◌⊎◌, inl, inr, ⊎_elim, ◌<◌, ◌^◌, ℕ, All, get_or, slice_index, Bool, true, false, if◌then◌else◌, refl, sym, ◌∙◌, ap, subst, arith, List, [], ◌∷◌, ◌++◌, append-nil, codes, Ok}
use Rattle.std.specs.Prelude.{Contains}
use Rattle.std.proofs.lemmas.List.{get_or-map, length-map}
use Rattle.std.proofs.lemmas.List.Elements.{All-contains, Contains-get_or}
use Rattle.std.specs.Fmt.{decimal}
use Rattle.ost_types.specs.Path.{Name, Path, is_below, same_path, under}
use Rattle.fs_trait.specs.declared.types.Value.TheVariants.{Absent}
use Rattle.fs_trait.specs.View.{Disk}
use Rattle.fs_trait.specs.Seen.{Seen, Vacant, shows}
use Rattle.repo_layout.specs.declared.fixed.Fixed.TheVariants.{LoaderFolder, Entries, BootLink, BootFolder, Summary}
use Rattle.repo_layout.specs.Fixed.{number}
use Rattle.repo_layout.specs.BootPaths.{boot_folder_path, boot_link_path, boot_link_stage_path, kernel_folder, kernel_path, loader_folder_path, loader_path, loader_stage_path}
use Rattle.repo_layout.specs.Place.{Place, BootLinkStage, Deployment, LoaderStage, Origin, Other, boot_links_place, boot_place, only_at, ostree_place, place}
use Rattle.repo_layout.proofs.Places.{deploy_path-injective, place-boot_folder, place-boot_link, place-deployment, place-etc, place-loader, place-loader_folder, place-origin}
use Rattle.layout_rules.proofs.Layouts.{below_split}
use Rattle.boot_model.specs.declared.item.DepId.{DepId}
use Rattle.boot_read.specs.declared.row.BootRow.{BootRow}
use Rattle.boot_read.specs.Rows.{AreRowsOf, IsBootRow}
use Rattle.boot_read.proofs.Answered.{answered_once}
use Rattle.deploy_clean.specs.Unlisted.{IsFree, IsPathOf, IsUnlisted, deployments, id_name}
use Rattle.deploy_clean.proofs.Places.{id_under, origin_under, unlisted_under}
use Rattle.deployment_check.specs.Deployments.{IsId, home_of}
use Rattle.durable_deployments.specs.Standing.{IsInDeployment}
use Rattle.durable_list.specs.Standing.{IsInVersion, IsListPath, ids_of}
use Rattle.durable_list.proofs.Unwritten.{way_boot, way_ostree}
use Rattle.rely_guarantee.specs.Rely.{IsBoot}
use Rattle.sys_open.specs.Changes.{ClearsAll, ClearsUnlisted}
use Rattle.sys_open.specs.LeftOver.{AreLeftOvers, IsLeftOver, IsOfNoRow, LiesIn}
use Rattle.durable_deployments.specs.Bounds.{IsOfBoot, LiesWithin, MayBeLeftOver}
use Rattle.sys_open.proofs.Walks.{absent_or_not}

-- ---- there is one list

pub one_list : (d : Disk) (rows others : List BootRow) → AreRowsOf d rows → AreRowsOf d others → rows ≡ others
one_list d rows others are also = let same : Ok rows ≡ Ok others = answered_once d (Ok rows) (Ok others) tt tt are also in cc

-- what is left over where these are the rows
pub unlisted_of : (d : Disk) (rows : List BootRow) (q : Path) → AreRowsOf d rows → IsOfNoRow d q → IsUnlisted (ids_of rows) q
unlisted_of d rows q are of = subst (λ l. IsUnlisted (ids_of l) q) (one_list d of.rows rows of.are are) of.unlisted

-- a row has the name of a deployment
pub no_row : (row : BootRow) → Contains [] row → ⊥
no_row row (k, less, is) = omega (arith, less)

pub row_id : (d : Disk) (rows : List BootRow) (row : BootRow) → Contains rows row → AreRowsOf d rows → IsId row.id
row_id d rows row among (inl (none, empty)) = absurd (no_row row (subst (λ l. Contains l row) empty among))
row_id d rows row among (inr (loader, sub, selects, has, are)) =
    let leads = (All-contains (IsBootRow d loader sub) rows row are.each among).led.leads.link.leads in
    record { stateroot = leads.stateroot; sum = leads.sum; small = leads.small }

pub named_row : (rows : List BootRow) (row : BootRow) → Contains rows row → Contains (ids_of rows) row.id
named_row rows row (k, less, is) = (k, omega (arith, less, length-map rows (λ (r : BootRow). r.id)), get_or-map (λ (r : BootRow). r.id) rows k row row.id less ∙ ap (λ (r : BootRow). r.id) is)

-- ---- it is what may be left over

pub may_unlisted : (listed : List DepId) (q : Path) → IsUnlisted listed q → (id : DepId) × IsId id × IsPathOf id q
may_unlisted listed q (id, free, of) = (id, record { stateroot = free.stateroot; sum = free.sum; small = free.small }, of)

pub may_left : (d : Disk) (q : Path) → IsLeftOver d q → MayBeLeftOver q
may_left d q (inl is) = inl is
may_left d q (inr (inl is)) = inr (inl is)
may_left d q (inr (inr of)) = inr (inr (inr (may_unlisted (ids_of of.rows) q of.unlisted)))

pub lies_within : (d : Disk) (p : Path) → LiesIn d p → LiesWithin p
lies_within d p (q, is, below) = (q, may_left d q is, below)

-- ---- whose place it is

under_boot : (os name : Name) (rest : Path) → IsBoot (place (under (deployments os) name ++ rest))
under_boot os name rest = way_ostree (under (deployments os) name ++ rest) [] (os ∷ codes "deploy" ∷ name ∷ rest) (codes "deploy") refl (sym (append-nil (under (deployments os) name ++ rest)))

loader_boot : (q rest : Path) (name : Name) → q ≡ codes "boot" ∷ name ∷ [] → IsBoot (place (q ++ rest))
loader_boot q rest name is = way_boot (q ++ rest) [] (name ∷ rest) (ap (λ r. r ++ rest) (sym is) ∙ sym (append-nil (q ++ rest)))

of_boot : (q rest : Path) → IsOfBoot q → IsBoot (place (q ++ rest))
unfolding loader_folder_path boot_link_path boot_folder_path
of_boot q rest (inl is) = loader_boot q rest (codes "loader") is
of_boot q rest (inr (LoaderFolder version, so, is)) = loader_boot q rest (codes "loader." ++ decimal (number version)) is
of_boot q rest (inr (BootLink version, so, is)) = way_ostree (q ++ rest) [] rest (codes "boot." ++ decimal (number version)) refl (ap (λ r. r ++ rest) (sym is) ∙ sym (append-nil (q ++ rest)))
of_boot q rest (inr (BootFolder version sub, so, is)) =
    way_ostree (q ++ rest) [] rest (codes "boot." ++ (decimal (number version) ++ (46 ∷ decimal (number sub)))) refl (ap (λ r. r ++ rest) (sym is) ∙ sym (append-nil (q ++ rest)))
of_boot q rest (inr (Entries version, so, is)) = absurd so
of_boot q rest (inr (Summary, so, is)) = absurd so

may_boot : (q rest : Path) → MayBeLeftOver q → IsBoot (place (q ++ rest))
may_boot q rest (inl is) = way_boot (q ++ rest) [] (codes "loader.tmp" ∷ rest) (ap (λ r. r ++ rest) (sym is) ∙ sym (append-nil (q ++ rest)))
may_boot q rest (inr (inl is)) = way_ostree (q ++ rest) [] rest (codes "boot.tmp") refl (ap (λ r. r ++ rest) (sym is) ∙ sym (append-nil (q ++ rest)))
may_boot q rest (inr (inr (inl of))) = of_boot q rest of
may_boot q rest (inr (inr (inr (id, is, inl home)))) = subst (λ r. IsBoot (place (r ++ rest))) (sym (home ∙ id_under id)) (under_boot id.os (id_name id) rest)
may_boot q rest (inr (inr (inr (id, is, inr origin)))) = subst (λ r. IsBoot (place (r ++ rest))) (sym (origin ∙ origin_under id)) (under_boot id.os (id_name id ++ codes ".origin") rest)

pub within_boot : (p : Path) → LiesWithin p → IsBoot (place p)
within_boot p (q, may, below) = let s = below_split q p below in subst (λ r. IsBoot (place r)) (sym s.1) (may_boot q s.0 may)

pub left_over_boot : (d : Disk) (q rest : Path) → IsLeftOver d q → IsBoot (place (q ++ rest))
left_over_boot d q rest is = may_boot q rest (may_left d q is)

pub lies_boot : (d : Disk) (p : Path) → LiesIn d p → IsBoot (place p)
lies_boot d p lies = within_boot p (lies_within d p lies)

-- where links are staged, and below
abbrev IsStaging : Place → Type 0
IsStaging LoaderStage = Unit {0}
IsStaging BootLinkStage = Unit {0}
IsStaging (Other p) = Unit {0}
IsStaging x = ⊥

only_staged : (path p : Path) (x : Place) → IsStaging x → IsStaging (only_at path p x)
only_staged path p x is = by (same_path path p)
  where
    by : (b : Bool) → IsStaging (if b then x else Other p)
    by true = is
    by false = tt

loader_staging : (rest : Path) → IsStaging (place (codes "boot" ∷ codes "loader.tmp" ∷ rest))
unfolding place boot_place
loader_staging rest = only_staged loader_stage_path (codes "boot" ∷ codes "loader.tmp" ∷ rest) LoaderStage tt

link_staging : (rest : Path) → IsStaging (place (codes "ostree" ∷ codes "boot.tmp" ∷ rest))
unfolding place ostree_place boot_links_place
link_staging rest = only_staged boot_link_stage_path (codes "ostree" ∷ codes "boot.tmp" ∷ rest) BootLinkStage tt

-- ---- none of it is a deployment of the list

small_serial : (n : ℕ) → n < 2 ^ 32 → n < 2 ^ 64
small_serial n less = omega (arith, less)

not_its_path : (rows : List BootRow) (id other : DepId) → IsId id → Contains (ids_of rows) id → IsFree (ids_of rows) other → IsPathOf other (home_of id) → ⊥
not_its_path rows id other is among free (inl e) =
    let same = deploy_path-injective id.os other.os id.commit other.commit id.serial other.serial is.sum free.sum (small_serial id.serial is.small) (small_serial other.serial free.small) e in
    let one : id ≡ other = ap (λ os. record { os = os; commit = id.commit; serial = id.serial }) same.0 ∙ ap (λ commit. record { os = other.os; commit = commit; serial = id.serial }) same.1 ∙ ap (λ serial. record { os = other.os; commit = other.commit; serial = serial }) same.2 in
    free.unlisted (subst (Contains (ids_of rows)) one among)
not_its_path rows id other is among free (inr e) =
    let x : Deployment id.os id.commit id.serial [] ≡ Origin other.os other.commit other.serial =
    sym (place-deployment id.os id.commit id.serial is.sum (small_serial id.serial is.small) [] tt) ∙ ap place (append-nil (home_of id) ∙ e) ∙ place-origin other.os other.commit other.serial free.sum (small_serial other.serial free.small) in cc

-- what comes first of two paths that are alike
one_front : (os pt x y : Name) (r s : Path) → under (deployments os) x ++ r ≡ under (deployments pt) y ++ s → under (deployments os) x ≡ under (deployments pt) y
one_front os pt x y r s e =
    let t : codes "ostree" ∷ codes "deploy" ∷ os ∷ codes "deploy" ∷ x ∷ r ≡ codes "ostree" ∷ codes "deploy" ∷ pt ∷ codes "deploy" ∷ y ∷ s = e in
    let a : os ≡ pt = cc in
    let b : x ≡ y = cc in
    ap (λ o. under (deployments o) x) a ∙ ap (under (deployments pt)) b

not_below : (rows : List BootRow) (id : DepId) → IsId id → Contains (ids_of rows) id → (q : Path) → IsUnlisted (ids_of rows) q → (more rest : Path) → home_of id ++ more ≡ q ++ rest → ⊥
not_below rows id is among q un more rest e =
    let u = unlisted_under (ids_of rows) q un in
    let same : under (deployments id.os) (id_name id) ≡ under (deployments u.os) u.name =
    one_front id.os u.os (id_name id) u.name more rest (ap (λ h. h ++ more) (sym (id_under id)) ∙ e ∙ ap (λ r. r ++ rest) u.at) in
    not_its_path rows id un.0 is among un.1 (subst (IsPathOf un.0) (u.at ∙ sym same ∙ sym (id_under id)) un.2)

-- ---- nor where the list is read

loader_small : (n : ℕ) → n < 2 → n < 10
loader_small n less = omega (arith, less)

staged_list : (d : Disk) (rows : List BootRow) → ((row : BootRow) → Contains rows row → IsId row.id) → (p : Path) → IsListPath d rows p → IsStaging (place p) → ⊥
staged_list d rows ids p (inl e) is = subst IsStaging (ap place e ∙ place-loader) is
staged_list d rows ids p (inr (inl (loader, selects, inside))) is = by inside
  where
    by : IsInVersion d loader p → ⊥
    by (inl e) = subst IsStaging (ap place e ∙ place-boot_link loader (loader_small loader selects.small)) is
    by (inr (inl (file, e))) = subst IsStaging (ap place e ∙ place-loader_folder loader (codes "entries" ∷ file ∷ []) (loader_small loader selects.small)) is
    by (inr (inr (sub, has, rest, e))) = subst IsStaging (ap place e ∙ place-boot_folder loader sub rest (loader_small loader selects.small) (loader_small sub has.small)) is
staged_list d rows ids p (inr (inr (row, among, e))) is =
    let id = ids row among in
    subst IsStaging (ap place (e ∙ sym (append-nil (home_of row.id))) ∙ place-deployment row.id.os row.id.commit row.id.serial id.sum (small_serial row.id.serial id.small) [] tt) is

apart_link : (os name : Name) (loader : ℕ) (rest : Path) → boot_link_path loader ≡ under (deployments os) name ++ rest → ⊥
unfolding boot_link_path
apart_link os name loader rest e =
    let t : codes "ostree" ∷ (codes "boot." ++ decimal loader) ∷ [] ≡ codes "ostree" ∷ codes "deploy" ∷ os ∷ codes "deploy" ∷ name ∷ rest = e in cc

apart_entries : (os name : Name) (loader : ℕ) (more rest : Path) → loader_folder_path loader ++ more ≡ under (deployments os) name ++ rest → ⊥
unfolding loader_folder_path
apart_entries os name loader more rest e =
    let t : codes "boot" ∷ (codes "loader." ++ decimal loader) ∷ more ≡ codes "ostree" ∷ codes "deploy" ∷ os ∷ codes "deploy" ∷ name ∷ rest = e in
    let first : codes "boot" ≡ codes "ostree" = cc in cc

not_deploy : (text : List ℕ) → codes "boot." ++ text ≡ codes "deploy" → ⊥
not_deploy text e = let n : 98 ≡ 100 = ap (λ l. slice_index l 0) e in omega (arith, n)

apart_links : (os name : Name) (loader sub : ℕ) (more rest : Path) → boot_folder_path loader sub ++ more ≡ under (deployments os) name ++ rest → ⊥
unfolding boot_folder_path
apart_links os name loader sub more rest e =
    let t : codes "ostree" ∷ (codes "boot." ++ (decimal loader ++ (46 ∷ decimal sub))) ∷ more ≡ codes "ostree" ∷ codes "deploy" ∷ os ∷ codes "deploy" ∷ name ∷ rest = e in
    not_deploy (decimal loader ++ (46 ∷ decimal sub)) (let second : codes "boot." ++ (decimal loader ++ (46 ∷ decimal sub)) ≡ codes "deploy" = cc in second)

apart_loader : (os name : Name) (rest : Path) → codes "boot" ∷ codes "loader" ∷ [] ≡ under (deployments os) name ++ rest → ⊥
apart_loader os name rest e =
    let t : codes "boot" ∷ codes "loader" ∷ [] ≡ codes "ostree" ∷ codes "deploy" ∷ os ∷ codes "deploy" ∷ name ∷ rest = e in
    let first : codes "boot" ≡ codes "ostree" = cc in cc

unlisted_list : (d : Disk) (rows : List BootRow) → ((row : BootRow) → Contains rows row → IsId row.id) → ((row : BootRow) → Contains rows row → Contains (ids_of rows) row.id)
    → (p : Path) → IsListPath d rows p → (q : Path) → IsUnlisted (ids_of rows) q → (rest : Path) → p ≡ q ++ rest → ⊥
unlisted_list d rows ids named p is q un rest e = by is
  where
    at : (r : Path) → p ≡ r → r ≡ under (deployments (unlisted_under (ids_of rows) q un).os) (unlisted_under (ids_of rows) q un).name ++ rest
    at r f = sym f ∙ e ∙ ap (λ x. x ++ rest) (unlisted_under (ids_of rows) q un).at

    inside : (loader : ℕ) → IsInVersion d loader p → ⊥
    inside loader (inl f) = apart_link _ _ loader rest (at _ f)
    inside loader (inr (inl (file, f))) = apart_entries _ _ loader (codes "entries" ∷ file ∷ []) rest (at _ f)
    inside loader (inr (inr (sub, has, more, f))) = apart_links _ _ loader sub more rest (at _ f)

    by : IsListPath d rows p → ⊥
    by (inl f) = apart_loader _ _ rest (at _ f)
    by (inr (inl (loader, selects, within))) = inside loader within
    by (inr (inr (row, among, f))) = not_below rows row.id (ids row among) (named row among) q un [] rest (append-nil (home_of row.id) ∙ sym f ∙ e)

-- what is staged below
staging_below : (d : Disk) (q p : Path) → (q ≡ loader_stage_path) ⊎ (q ≡ boot_link_stage_path) → is_below q p ≡ true → IsStaging (place p)
staging_below d q p (inl is) below = let s = below_split q p below in subst (λ r. IsStaging (place r)) (sym (s.1 ∙ ap (λ r. r ++ s.0) is)) (loader_staging s.0)
staging_below d q p (inr is) below = let s = below_split q p below in subst (λ r. IsStaging (place r)) (sym (s.1 ∙ ap (λ r. r ++ s.0) is)) (link_staging s.0)

module _ (d : Disk) (rows : List BootRow) (are : AreRowsOf d rows) where
  ids : (row : BootRow) → Contains rows row → IsId row.id
  ids row among = row_id d rows row among are

  pub list_stays : (p : Path) → IsListPath d rows p → LiesIn d p → ⊥
  list_stays p is (q, inl stage, below) = staged_list d rows ids p is (staging_below d q p (inl stage) below)
  list_stays p is (q, inr (inl stage), below) = staged_list d rows ids p is (staging_below d q p (inr stage) below)
  list_stays p is (q, inr (inr of), below) = let s = below_split q p below in unlisted_list d rows ids (named_row rows) p is q (unlisted_of d rows q are of) s.0 s.1

-- ---- nor where a deployment of it is

copies_loader : (pt : Name) (bootcsum : List ℕ) (file : Name) (rest : Path) → under (kernel_path pt bootcsum) file ≡ loader_stage_path ++ rest → ⊥
unfolding kernel_path
copies_loader pt bootcsum file rest e =
    let t : codes "boot" ∷ codes "ostree" ∷ kernel_folder pt bootcsum ∷ file ∷ [] ≡ codes "boot" ∷ codes "loader.tmp" ∷ rest = e in
    let second : codes "ostree" ≡ codes "loader.tmp" = cc in cc

copies_link : (pt : Name) (bootcsum : List ℕ) (file : Name) (rest : Path) → under (kernel_path pt bootcsum) file ≡ boot_link_stage_path ++ rest → ⊥
unfolding kernel_path
copies_link pt bootcsum file rest e =
    let t : codes "boot" ∷ codes "ostree" ∷ kernel_folder pt bootcsum ∷ file ∷ [] ≡ codes "ostree" ∷ codes "boot.tmp" ∷ rest = e in
    let first : codes "boot" ≡ codes "ostree" = cc in cc

copies_staged : (pt : Name) (bootcsum : List ℕ) (file : Name) (q rest : Path) → (q ≡ loader_stage_path) ⊎ (q ≡ boot_link_stage_path) → under (kernel_path pt bootcsum) file ≡ q ++ rest → ⊥
copies_staged pt bootcsum file q rest (inl is) e = copies_loader pt bootcsum file rest (e ∙ ap (λ r. r ++ rest) is)
copies_staged pt bootcsum file q rest (inr is) e = copies_link pt bootcsum file rest (e ∙ ap (λ r. r ++ rest) is)

staged_own : (d : Disk) (id : DepId) (bootcsum : List ℕ) → IsId id → (p : Path) → IsInDeployment id bootcsum p → (q : Path) → (q ≡ loader_stage_path) ⊎ (q ≡ boot_link_stage_path) → is_below q p ≡ true → ⊥
staged_own d id bootcsum its p (inl (more, outside, e)) q stage below =
    subst IsStaging (ap place e ∙ place-deployment id.os id.commit id.serial its.sum (small_serial id.serial its.small) more outside) (staging_below d q p stage below)
staged_own d id bootcsum its p (inr (inl e)) q stage below =
    subst IsStaging (ap place e ∙ place-etc id.os id.commit id.serial its.sum (small_serial id.serial its.small) []) (staging_below d q p stage below)
staged_own d id bootcsum its p (inr (inr (file, e))) q stage below = let s = below_split q p below in copies_staged id.os bootcsum file q s.0 stage (sym e ∙ s.1)

apart_copies : (os name pt : Name) (bootcsum : List ℕ) (file : Name) (rest : Path) → under (kernel_path pt bootcsum) file ≡ under (deployments os) name ++ rest → ⊥
unfolding kernel_path
apart_copies os name pt bootcsum file rest e =
    let t : codes "boot" ∷ codes "ostree" ∷ kernel_folder pt bootcsum ∷ file ∷ [] ≡ codes "ostree" ∷ codes "deploy" ∷ os ∷ codes "deploy" ∷ name ∷ rest = e in
    let first : codes "boot" ≡ codes "ostree" = cc in cc

unlisted_own : (rows : List BootRow) (id : DepId) (bootcsum : List ℕ) → IsId id → Contains (ids_of rows) id → (p : Path) → IsInDeployment id bootcsum p → (q : Path) → IsUnlisted (ids_of rows) q → (rest : Path) → p ≡ q ++ rest → ⊥
unlisted_own rows id bootcsum its among p (inl (more, outside, f)) q un rest e = not_below rows id its among q un more rest (sym f ∙ e)
unlisted_own rows id bootcsum its among p (inr (inl f)) q un rest e = not_below rows id its among q un (codes "etc" ∷ []) rest (sym f ∙ e)
unlisted_own rows id bootcsum its among p (inr (inr (file, f))) q un rest e =
    let u = unlisted_under (ids_of rows) q un in
    apart_copies u.os u.name id.os bootcsum file rest (sym f ∙ e ∙ ap (λ x. x ++ rest) u.at)

module _ (d : Disk) (rows : List BootRow) (are : AreRowsOf d rows) (id : DepId) (bootcsum : List ℕ) (its : IsId id) (among : Contains (ids_of rows) id) where
  pub deployment_stays : (p : Path) → IsInDeployment id bootcsum p → LiesIn d p → ⊥
  deployment_stays p is (q, inl stage, below) = staged_own d id bootcsum its p is q (inl stage) below
  deployment_stays p is (q, inr (inl stage), below) = staged_own d id bootcsum its p is q (inr stage) below
  deployment_stays p is (q, inr (inr of), below) = let s = below_split q p below in unlisted_own rows id bootcsum its among p is q (unlisted_of d rows q are of) s.0 s.1

-- ---- what is left over of a disk with the same list

pub left_over_still : (d e : Disk) (rows : List BootRow) → AreRowsOf d rows → AreRowsOf e rows → shows e loader_path ≡ shows d loader_path → (q : Path) → IsLeftOver e q → IsLeftOver d q
left_over_still d e rows are also same q (inl is) = inl is
left_over_still d e rows are also same q (inr (inl is)) = inr (inl is)
left_over_still d e rows are also same q (inr (inr of)) = inr (inr (record { selected = subst (λ s. s ≢ Vacant) same of.selected; rows = rows; are = are; unlisted = unlisted_of e rows q also of }))

pub lies_still : (d e : Disk) (rows : List BootRow) → AreRowsOf d rows → AreRowsOf e rows → shows e loader_path ≡ shows d loader_path → (p : Path) → LiesIn e p → LiesIn d p
lies_still d e rows are also same p (q, is, below) = (q, left_over_still d e rows are also same q is, below)

-- ---- its paths, and where it is cleared

not_root : (d : Disk) (q : Path) → IsLeftOver d q → q ≢ []
not_root d q (inl is) e = let n : codes "boot" ∷ codes "loader.tmp" ∷ [] ≡ [] = sym is ∙ e in cc
not_root d q (inr (inl is)) e = let n : codes "ostree" ∷ codes "boot.tmp" ∷ [] ≡ [] = sym is ∙ e in cc
not_root d q (inr (inr of)) e =
    let u = unlisted_under (ids_of of.rows) q of.unlisted in
    let n : codes "ostree" ∷ codes "deploy" ∷ u.os ∷ codes "deploy" ∷ u.name ∷ [] ≡ [] = sym u.at ∙ e in cc

pub below_root : (d : Disk) (paths : List Path) → AreLeftOvers d paths → All (λ p. p ≢ []) paths
below_root d paths are k x less = not_root d (get_or paths k x) (are.each (get_or paths k x) (Contains-get_or paths k x less))

pub clears_left : (d : Disk) (paths : List Path) → AreLeftOvers d paths → (p : Path) (s : Seen) → ClearsAll paths p s → ClearsUnlisted d p s
clears_left d paths are p s ((q, has, below), vacant) = ((q, are.each q has, below), vacant)

-- what was cleared, and what wasn't there
pub none_left : (was d : Disk) (paths : List Path) → AreLeftOvers was paths → ((q : Path) → IsLeftOver was q → (was.at q ≡ Absent) → shows d q ≡ Vacant) → ((q : Path) → Contains paths q → shows d q ≡ Vacant) → (q : Path) → IsLeftOver was q → shows d q ≡ Vacant
none_left was d paths are absent cleared q is = ⊎_elim (λ none. absent q is none) (λ there. cleared q (are.all q is there)) (absent_or_not (was.at q))
