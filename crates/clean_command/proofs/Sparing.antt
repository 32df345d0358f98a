-- Nothing is written where the list that boots is read or one of its deployments, nor on the way there.
use Rattle.std.proofs.Common.{◌≡◌, inl, inr, ◌<◌, ◌^◌, ℕ, Bool, true, false, List, [], ◌∷◌, ◌++◌, take, Option, Some, None, IsSome, append-nil, append_assoc, refl, sym, ◌∙◌, ap, subst, arith, codes}
use Rattle.std.specs.Prelude.{Contains}
use Rattle.std.proofs.lemmas.List.{get_or-map, length-map}
use Rattle.std.proofs.lemmas.List.Elements.{All-contains}
use Rattle.ost_types.specs.Path.{Name, Path, is_below, under}
use Rattle.fs_trait.specs.Seen.{Seen, Vacant}
use Rattle.fs_trait.specs.View.{Disk, View}
use Rattle.repo_layout.specs.BootPaths.{boot_folder_path, boot_link_path, entry_path, kernel_path, loader_folder_path, loader_path, origin_path}
use Rattle.repo_layout.specs.Paths.{deploy_path}
use Rattle.repo_layout.specs.Place.{Deployment, Origin, place}
use Rattle.repo_layout.proofs.Places.{deploy_path-injective, place-deployment, place-origin}
use Rattle.layout_rules.proofs.Layouts.{below_split, split_below}
use Rattle.boot_model.specs.declared.item.DepId.{DepId}
use Rattle.boot_read.specs.declared.row.BootRow.{BootRow}
use Rattle.boot_read.specs.Rows.{AreRowsOf, IsBootRow}
use Rattle.deploy_clean.specs.Steps.{Goes}
use Rattle.deploy_clean.specs.Unlisted.{IsUnlisted, deployments}
use Rattle.deploy_clean.proofs.Keeping.{clean_lies}
use Rattle.deploy_clean.proofs.Places.{unlisted_under}
use Rattle.deployment_check.specs.Deployments.{IsId, home_of}
use Rattle.durable_list.specs.Standing as list
use Rattle.durable_list.specs.Standing.{HasLoader, IsInVersion, IsListPath, ids_of}
use Rattle.durable_deployments.specs.Standing as deployment
use Rattle.durable_deployments.specs.Standing.{IsInDeployment}
use Rattle.rely_guarantee.specs.declared.books.Pending.{Pending}
use Rattle.rely_guarantee.specs.Books.{Books, listed_in}
use Rattle.rely_guarantee.specs.Laws.{Holds}
use Rattle.rely_guarantee.specs.State.{list_in}
use Rattle.rely_guarantee.specs.SystemInvariant.{IsRelistedByHolder}
use Rattle.clean_command.specs.declared.command.CleanCommand.{CleanCommand}
use Rattle.clean_command.specs.declared.phase.Phase.{Phase}
use Rattle.clean_command.specs.declared.phase.Phase.TheVariants as phase
use Rattle.clean_command.specs.Commands.{clean_kind, clean_writes, kind_in, writes_in}
use Rattle.clean_command.specs.Facts.{Facts, KnownIn}
use Rattle.clean_command.specs.Places.{IsDeployed, writes_deployed}

-- ---- where it writes

places_in : (ph : Phase) (lane : ℕ) (v : View) (b : Books) (p : Path) (s : Seen) → KnownIn ph lane v b → writes_in ph v p s → IsDeployed (place p) × (s ≡ Vacant)
places_in (phase.Cleaning c) lane v b p s known write = writes_deployed c v p s known.needs write
places_in phase.Waiting lane v b p s known write = absurd write
places_in phase.Unlearned lane v b p s known write = absurd write
places_in (phase.Looking l) lane v b p s known write = absurd write
places_in phase.Over lane v b p s known write = absurd write

goes_in : (ph : Phase) (lane : ℕ) (v : View) (b : Books) (ids : List DepId) (p : Path) (s : Seen) → KnownIn ph lane v b → listed_in b ≡ ids → writes_in ph v p s → Goes ids p
goes_in (phase.Cleaning c) lane v b ids p s known same write = subst (λ l. Goes l p) (sym known.listed ∙ same) (clean_lies c v known.needs.made p s write).0
goes_in phase.Waiting lane v b ids p s known same write = absurd write
goes_in phase.Unlearned lane v b ids p s known same write = absurd write
goes_in (phase.Looking l) lane v b ids p s known same write = absurd write
goes_in phase.Over lane v b ids p s known same write = absurd write

-- ---- the deployments of the list

no_row : (row : BootRow) → Contains [] row → ⊥
no_row row (k, less, is) = omega (arith, less)

row_id : (d : Disk) (rows : List BootRow) (row : BootRow) → Contains rows row → AreRowsOf d rows → IsId row.id
row_id d rows row among (inl (none, empty)) = absurd (no_row row (subst (λ l. Contains l row) empty among))
row_id d rows row among (inr (loader, sub, selects, has, are)) =
    let leads = (All-contains (IsBootRow d loader sub) rows row are.each among).led.leads.link.leads in
    record { stateroot = leads.stateroot; sum = leads.sum; small = leads.small }

row_listed : (rows : List BootRow) (row : BootRow) → Contains rows row → Contains (ids_of rows) row.id
row_listed rows row (k, less, is) =
    let id : BootRow → DepId = λ r. r.id in
    (k, omega (arith, less, length-map rows id), get_or-map id rows k row row.id less ∙ ap id is)

small : (n : ℕ) → n < 2 ^ 32 → n < 2 ^ 64
small n less = omega (arith, less)

-- behind five names
fronts : (a b : Path) (x y : Path) → take 5 (a ++ x) ≡ a → take 5 (b ++ y) ≡ b → a ++ x ≡ b ++ y → a ≡ b
fronts a b x y first second e = sym first ∙ ap (take 5) e ∙ second

home_front : (os : Name) (commit : List ℕ) (serial : ℕ) (x : Path) → take 5 (deploy_path os commit serial ++ x) ≡ deploy_path os commit serial
unfolding deploy_path
home_front os commit serial x = refl

origin_front : (os : Name) (commit : List ℕ) (serial : ℕ) (x : Path) → take 5 (origin_path os commit serial ++ x) ≡ origin_path os commit serial
unfolding origin_path
origin_front os commit serial x = refl

one_id : (a b : DepId) → a.os ≡ b.os → a.commit ≡ b.commit → a.serial ≡ b.serial → a ≡ b
one_id a b os commit serial =
    ap (λ x. record { os = x; commit = a.commit; serial = a.serial }) os
    ∙ ap (λ x. record { os = b.os; commit = x; serial = a.serial }) commit
    ∙ ap (λ x. record { os = b.os; commit = b.commit; serial = x }) serial

-- none of these lies at or below what isn't listed
home_aside : (listed : List DepId) (row : DepId) (q more rest : Path) → IsId row → Contains listed row → IsUnlisted listed q → home_of row ++ more ≡ q ++ rest → ⊥
home_aside listed row q more rest is among (id, free, inl home) e =
    let same = fronts (home_of row) (home_of id) more rest (home_front row.os row.commit row.serial more) (home_front id.os id.commit id.serial rest) (e ∙ ap (λ r. r ++ rest) home) in
    let parts = deploy_path-injective row.os id.os row.commit id.commit row.serial id.serial is.sum free.sum (small row.serial is.small) (small id.serial free.small) same in
    free.unlisted (subst (Contains listed) (one_id row id parts.0 parts.1 parts.2) among)
home_aside listed row q more rest is among (id, free, inr origin) e =
    let file = origin_path id.os id.commit id.serial in
    let same = fronts (home_of row) file more rest (home_front row.os row.commit row.serial more) (origin_front id.os id.commit id.serial rest) (e ∙ ap (λ r. r ++ rest) origin) in
    let z : Deployment row.os row.commit row.serial [] ≡ Origin id.os id.commit id.serial =
    sym (place-deployment row.os row.commit row.serial is.sum (small row.serial is.small) [] tt) ∙ ap place (append-nil (home_of row) ∙ same) ∙ place-origin id.os id.commit id.serial free.sum (small id.serial free.small) in
    cc

-- ---- the rest of what boots

not_both : (b : Bool) → b ≡ true → b ≡ false → ⊥
not_both b is none = let z : true ≡ false = sym is ∙ none in cc

abbrev Under : Name → Name → Path
Under os name = under (deployments os) name

off_loader : (os name : Name) → is_below (Under os name) loader_path ≡ false
unfolding is_below
off_loader os name = refl

off_entries : (os name : Name) (loader : ℕ) (file : Name) → is_below (Under os name) (entry_path loader file) ≡ false
unfolding is_below loader_folder_path
off_entries os name loader file = refl

off_link : (os name : Name) (loader : ℕ) → is_below (Under os name) (boot_link_path loader) ≡ false
unfolding is_below boot_link_path
off_link os name loader = refl

off_links : (os name : Name) (loader sub : ℕ) (rest : Path) → is_below (Under os name) (boot_folder_path loader sub ++ rest) ≡ false
unfolding is_below boot_folder_path
off_links os name loader sub rest = refl

off_copies : (os name other : Name) (bootcsum : List ℕ) (file : Name) → is_below (Under os name) (under (kernel_path other bootcsum) file) ≡ false
unfolding is_below kernel_path
off_copies os name other bootcsum file = refl

-- ---- on the way there

module _ (listed : List DepId) (p at : Path) (goes : Goes listed p) (below : is_below p at ≡ true) where
  abbrev rest : Path
  rest = (below_split goes.0 p goes.2).0 ++ (below_split p at below).0

  whole : at ≡ goes.0 ++ rest
  whole =
      let first = below_split goes.0 p goes.2 in
      let second = below_split p at below in
      second.1 ∙ ap (λ q. q ++ second.0) first.1 ∙ append_assoc goes.0 first.0 second.0

  there : (os : Name) × (name : Name) × (is_below (Under os name) at ≡ true)
  there =
      let u = unlisted_under listed goes.0 goes.1 in
      (u.os, u.name, subst (λ q. is_below (Under u.os u.name) q ≡ true) (sym (whole ∙ ap (λ q. q ++ rest) u.at)) (split_below (Under u.os u.name) rest))

  aside_of : (q : Path) → at ≡ q → ((os name : Name) → is_below (Under os name) q ≡ false) → ⊥
  aside_of q is off = not_both (is_below (Under there.0 there.1) q) (subst (λ x. is_below (Under there.0 there.1) x ≡ true) is there.2) (off there.0 there.1)

  files_aside : (row : DepId) (more : Path) → IsId row → Contains listed row → at ≡ home_of row ++ more → ⊥
  files_aside row more is among e = home_aside listed row goes.0 more rest is among goes.1 (sym e ∙ whole)

  version_aside : (d : Disk) (loader : ℕ) → IsInVersion d loader at → ⊥
  version_aside d loader (inl e) = aside_of (boot_link_path loader) e (λ os name. off_link os name loader)
  version_aside d loader (inr (inl (file, e))) = aside_of (entry_path loader file) e (λ os name. off_entries os name loader file)
  version_aside d loader (inr (inr (sub, has, more, e))) = aside_of (boot_folder_path loader sub ++ more) e (λ os name. off_links os name loader sub more)

  deployment_aside : (row : DepId) (bootcsum : List ℕ) → IsId row → Contains listed row → IsInDeployment row bootcsum at → ⊥
  deployment_aside row bootcsum is among (inl (more, outside, e)) = files_aside row more is among e
  deployment_aside row bootcsum is among (inr (inl e)) = files_aside row (codes "etc" ∷ []) is among e
  deployment_aside row bootcsum is among (inr (inr (file, e))) = aside_of (under (kernel_path row.os bootcsum) file) e (λ os name. off_copies os name row.os bootcsum file)

module _ (base : Disk) (rows : List BootRow) (are : AreRowsOf base rows) (p : Path) (goes : Goes (ids_of rows) p) where
  list_aside : (at : Path) → is_below p at ≡ true → IsListPath base rows at → ⊥
  list_aside at below (inl e) = aside_of (ids_of rows) p at goes below loader_path e off_loader
  list_aside at below (inr (inl (loader, selects, inside))) = version_aside (ids_of rows) p at goes below base loader inside
  list_aside at below (inr (inr (row, among, e))) =
      files_aside (ids_of rows) p at goes below row.id [] (row_id base rows row among are) (row_listed rows row among) (e ∙ sym (append-nil (home_of row.id)))

  off_list : ¬ (list.IsOnTheWay base rows p)
  off_list (at, is, below) = list_aside at below is

  off_deployment : (row : BootRow) → Contains rows row → ¬ (deployment.IsOnTheWay row.id row.bootcsum p)
  off_deployment row among (at, inside, below) = deployment_aside (ids_of rows) p at goes below row.id row.bootcsum (row_id base rows row among are) (row_listed rows row among) inside

-- ---- a list is selected, and no other one is published

selected_in : (ph : Phase) (lane : ℕ) (v : View) (b : Books) (p : Path) (s : Seen) → KnownIn ph lane v b → writes_in ph v p s → HasLoader v.now
selected_in (phase.Cleaning c) lane v b p s known write = known.selected
selected_in phase.Waiting lane v b p s known write = absurd write
selected_in phase.Unlearned lane v b p s known write = absurd write
selected_in (phase.Looking l) lane v b p s known write = absurd write
selected_in phase.Over lane v b p s known write = absurd write

unlisted_event : (o : Option (List DepId)) → ¬ (IsSome o) → o ≡ None
unlisted_event None none = refl
unlisted_event (Some l) none = absurd (none refl)

alone_in : (ph : Phase) (lane : ℕ) (v : View) (b : Books) (p : Path) (s : Seen) (q : Pending) → KnownIn ph lane v b → Holds (kind_in ph) lane b → IsRelistedByHolder b → writes_in ph v p s → b.pending ≡ Some q → list_in q.event ≡ None
alone_in (phase.Cleaning c) lane v b p s q known holds relists write shown =
    unlisted_event (list_in q.event) (λ some. (let same : Some q.lane ≡ Some lane = sym (relists q shown some) ∙ known.sysroot in holds q shown cc))
alone_in phase.Waiting lane v b p s q known holds relists write shown = absurd write
alone_in phase.Unlearned lane v b p s q known holds relists write shown = absurd write
alone_in (phase.Looking l) lane v b p s q known holds relists write shown = absurd write
alone_in phase.Over lane v b p s q known holds relists write shown = absurd write

-- ---- the same of a removal

module _ (actor lane : ℕ) (t : CleanCommand) (v : View) (b : Books) (p : Path) (s : Seen) (f : Facts lane t v b) (write : clean_writes actor t v p s) where
  pub written_place : IsDeployed (place p) × (s ≡ Vacant)
  written_place = places_in t.phase lane v b p s f.known write

  pub written_off_list : (base : Disk) (rows : List BootRow) → listed_in b ≡ ids_of rows → AreRowsOf base rows → ¬ (list.IsOnTheWay base rows p)
  written_off_list base rows listed are = off_list base rows are p (goes_in t.phase lane v b (ids_of rows) p s f.known listed write)

  pub written_off_deployment : (base : Disk) (rows : List BootRow) (row : BootRow) → listed_in b ≡ ids_of rows → AreRowsOf base rows → Contains rows row → ¬ (deployment.IsOnTheWay row.id row.bootcsum p)
  written_off_deployment base rows row listed are among = off_deployment base rows are p (goes_in t.phase lane v b (ids_of rows) p s f.known listed write) row among

  pub written_selected : HasLoader v.now
  written_selected = selected_in t.phase lane v b p s f.known write

  pub written_alone : (q : Pending) → Holds (clean_kind t) lane b → IsRelistedByHolder b → b.pending ≡ Some q → list_in q.event ≡ None
  written_alone q holds relists shown = alone_in t.phase lane v b p s q f.known holds relists write shown
