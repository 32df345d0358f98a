-- Entries with and without a deployment of their own.
use Rattle.std.proofs.Common.{◌≡◌, ◌≢◌, ◌⊎◌, inl, inr, ◌==◌, ◌&&◌, ◌||◌, not, ℕ, Bool, true, false, List, length, get_or, ◌<◌, ◌≤◌, Option, Some, None, refl, sym, ◌∙◌, ap, subst, arith}
use Rattle.std.specs.Prelude.{Contains}
use Rattle.std.specs.List.{list_any}
use Rattle.std.proofs.lemmas.Bool.{and_from, and_parts, not-true}
use Rattle.std.proofs.lemmas.Bool.Decides.{Decides-eqb}
use Rattle.std.proofs.lemmas.List.Elements.{All-contains}
use Rattle.std.proofs.lemmas.List.Folds.{Any-from_list_any, list_any_at}
use Rattle.ost_types.specs.Path.{Name, Path, same_name}
use Rattle.ost_types.proofs.Paths.{same_name-Decides}
use Rattle.fs_trait.specs.Image.{is_folder}
use Rattle.fs_trait.specs.View.{Disk}
use Rattle.repo_layout.specs.BootPaths.{entry_path}
use Rattle.repo_layout.specs.Paths.{deploy_path}
use Rattle.boot_model.specs.declared.item.DepId.{DepId}
use Rattle.deploy_list.specs.Lists.{is_id}
use Rattle.bls_entry.specs.declared.entry.BlsEntry.{BlsEntry}
use Rattle.boot_read.specs.declared.fault.ListFault.{ListFault}
use Rattle.boot_read.specs.declared.fault.ListFault.TheVariants.{BadLink, TooMany, BadEntry, NoDeployment, Fs, NoMemory}
use Rattle.boot_read.specs.declared.links.Followed.{Followed}
use Rattle.boot_read.specs.declared.row.BootRow.{BootRow}
use Rattle.boot_read.specs.Entries.{AreEntries, IsRead}
use Rattle.boot_read.specs.Faults.{AreLinked, IsFault, IsFirstLack}
use Rattle.boot_read.specs.Links.{LeadsOn}
use Rattle.boot_read.specs.Rows.{IsLedRow}
use Rattle.boot_read.specs.Rules.{HasOwn, HaveSameVersion, Lacks, LeadsToId}
use Rattle.boot_read.specs.Steps.{AreFollowed, AreOwned, IsFollowed, IsOwned, IsRowOf, TellsLack, is_twin, leads_to}
use Rattle.boot_read.proofs.Lists.{SoFar, first_so_far, length_all, mapped, names_all}
use Rattle.boot_read.proofs.Unique.{leads_once, read_once}

-- ---- tests

either_true : (a b : Bool) → (a || b) ≡ true → (a ≡ true) ⊎ (b ≡ true)
either_true true b e = inl refl
either_true false b e = inr e

or_left : (a b : Bool) → a ≡ true → (a || b) ≡ true
or_left a b e = rw e refl

or_right : (a b : Bool) → b ≡ true → (a || b) ≡ true
or_right true b e = refl
or_right false b e = e

true_not_false : (t : Bool) → t ≡ true → t ≡ false → ⊥
true_not_false t a b = let n : true ≡ false = sym a ∙ b in cc

and_not : (s t : Bool) → (not s && t) ≡ false → t ≡ true → s ≡ true
and_not true t e holds = refl
and_not false t e holds = absurd (true_not_false t holds e)

pub id_same : (i j : DepId) → is_id j.os j.commit j.serial i ≡ true → i ≡ j
id_same i j e =
    let p = and_parts (same_name i.os j.os && same_name i.commit j.commit) (i.serial == j.serial) e in
    let q = and_parts (same_name i.os j.os) (same_name i.commit j.commit) p.0 in
    ap (λ os. record { os = os; commit = i.commit; serial = i.serial }) ((same_name-Decides i.os j.os).0 q.0)
    ∙ ap (λ commit. record { os = j.os; commit = commit; serial = i.serial }) ((same_name-Decides i.commit j.commit).0 q.1)
    ∙ ap (λ serial. record { os = j.os; commit = j.commit; serial = serial }) ((Decides-eqb i.serial j.serial).0 p.1)

id_itself : (j : DepId) → is_id j.os j.commit j.serial j ≡ true
id_itself j =
    and_from (same_name j.os j.os && same_name j.commit j.commit) (j.serial == j.serial)
    (and_from (same_name j.os j.os) (same_name j.commit j.commit) ((same_name-Decides j.os j.os).1 refl) ((same_name-Decides j.commit j.commit).1 refl)) ((Decides-eqb j.serial j.serial).1 refl)

none_any : {X : Type 0} (p : X → Bool) (xs : List X) (x : X) → list_any p xs ≡ false → Contains xs x → p x ≡ false
none_any p xs x none c = by (p x) refl
  where
    by : (t : Bool) → p x ≡ t → t ≡ false
    by true e = absurd (true_not_false (list_any p xs) (list_any_at p xs c.0 x c.1 (ap p c.2 ∙ e)) none)
    by false e = refl

-- ---- an entry without one

pub lacks_led : (d : Disk) (loader sub : ℕ) (followed : Followed) → IsFollowed d loader sub followed → followed.row ≡ None → Lacks d loader sub followed.name
lacks_led d loader sub followed is none = record {
  entry = (is.read.bytes, is.read.there);
  none = λ own. (subst (IsRowOf d loader sub followed.name) none is.row_is) own.leads.0 own.leads.1 own.id own.leads.2;
}

module _ (d : Disk) (loader sub : ℕ) (row : BootRow) (led : IsLedRow d loader sub row) where
  pub own_id : (own : HasOwn d loader sub row.file) → own.id ≡ row.id
  own_id own = (leads_once d loader sub row.file own.leads.0 row.bootcsum own.leads.1 row.number own.id row.id own.leads.2 led.leads).2

  pub lacks_folder : is_folder (d.at (deploy_path row.id.os row.id.commit row.id.serial)) ≡ false → Lacks d loader sub row.file
  lacks_folder none = record {
    entry = (led.read.bytes, led.read.there);
    none = λ own. true_not_false (is_folder (d.at (deploy_path row.id.os row.id.commit row.id.serial)))
        (subst (λ (i : DepId). is_folder (d.at (deploy_path i.os i.commit i.serial)) ≡ true) (own_id own) own.there) none;
  }

  module _ (all : List Followed) (are : AreFollowed d loader sub all) where
    followed_row : (id : DepId) (other : Followed) → IsFollowed d loader sub other → leads_to id other.row ≡ true → LeadsToId d loader sub other.name id
    followed_row id other is holds = by other.row is.row_is holds
      where
        by : (o : Option BootRow) → IsRowOf d loader sub other.name o → leads_to id o ≡ true → LeadsToId d loader sub other.name id
        by None none holds = absurd (true_not_false true refl (sym holds))
        by (Some r) there holds = (r.bootcsum, r.number, subst (LeadsOn d loader sub other.name r.bootcsum r.number) (id_same r.id id holds) (subst (λ n. LeadsOn d loader sub n r.bootcsum r.number r.id) there.0 there.1.leads))

    same_version : (other : Followed) → IsFollowed d loader sub other → (other.version == row.version) ≡ true → HaveSameVersion d loader row.file other.name
    same_version other is holds = record {
      entry = led.entry;
      second = is.entry;
      read = led.read;
      also = is.read;
      same = sym led.version_is ∙ sym ((Decides-eqb other.version row.version).0 holds) ∙ is.version_is;
    }

    twin_apart : (other : Followed) → IsFollowed d loader sub other → is_twin row other ≡ true → HasOwn d loader sub row.file → ⊥
    twin_apart other is twin own =
        let p = and_parts (not (same_name other.name row.file)) ((other.version == row.version) || leads_to row.id other.row) twin in
        apart p.0 (by (either_true (other.version == row.version) (leads_to row.id other.row) p.1))
      where
        apart : not (same_name other.name row.file) ≡ true → other.name ≢ row.file
        apart no_ e = true_not_false (same_name other.name row.file) ((same_name-Decides other.name row.file).1 e) (not-true (same_name other.name row.file) no_)

        by : ((other.version == row.version) ≡ true) ⊎ (leads_to row.id other.row ≡ true) → other.name ≡ row.file
        by (inl version) = own.version other.name (same_version other is version)
        by (inr id) = own.alone other.name (subst (LeadsToId d loader sub other.name) (sym (own_id own)) (followed_row row.id other is id))

    pub lacks_alone : not (list_any (is_twin row) all) ≡ false → Lacks d loader sub row.file
    lacks_alone some = record {
      entry = (led.read.bytes, led.read.there);
      none = λ own.
          let a = Any-from_list_any (is_twin row) all (not_false (list_any (is_twin row) all) some) in
          twin_apart a.1 (All-contains (IsFollowed d loader sub) all a.1 are.each (a.0, a.2, a.3)) a.4 own;
    }
      where
        not_false : (t : Bool) → not t ≡ false → t ≡ true
        not_false true e = refl
        not_false false e = absurd (true_not_false true refl e)

    -- ---- an entry with one

    module _ (alone : not (list_any (is_twin row) all) ≡ true) where
      twin_here : (other : Followed) → Contains all other → ((other.version == row.version) || leads_to row.id other.row) ≡ true → other.name ≡ row.file
      twin_here other has holds =
          let none = none_any (is_twin row) all other (not-true (list_any (is_twin row) all) alone) has in
          (same_name-Decides other.name row.file).0 (and_not (same_name other.name row.file) ((other.version == row.version) || leads_to row.id other.row) none holds)

      leads_true : (other : Followed) → IsFollowed d loader sub other → LeadsToId d loader sub other.name row.id → leads_to row.id other.row ≡ true
      leads_true other is on = by other.row is.row_is
        where
          by : (o : Option BootRow) → IsRowOf d loader sub other.name o → leads_to row.id o ≡ true
          by None none = absurd (none on.0 on.1 row.id on.2)
          by (Some r) there =
              let same = (leads_once d loader sub other.name r.bootcsum on.0 r.number on.1 r.id row.id (subst (λ n. LeadsOn d loader sub n r.bootcsum r.number r.id) there.0 there.1.leads) on.2).2 in
              ap (is_id row.id.os row.id.commit row.id.serial) same ∙ id_itself row.id

      only_id : (other : Name) → LeadsToId d loader sub other row.id → other ≡ row.file
      only_id other on =
          let m = mapped (λ (f : Followed). f.name) all other ((are.entries.exact other).1 (on.2.named.read.bytes, on.2.named.read.there)) in
          let is = All-contains (IsFollowed d loader sub) all m.0 are.each m.1 in
          sym m.2 ∙ twin_here m.0 m.1 (or_right (m.0.version == row.version) (leads_to row.id m.0.row) (leads_true m.0 is (subst (λ n. LeadsToId d loader sub n row.id) (sym m.2) on)))

      only_version : (other : Name) → HaveSameVersion d loader row.file other → other ≡ row.file
      only_version other have =
          let m = mapped (λ (f : Followed). f.name) all other ((are.entries.exact other).1 (have.also.bytes, have.also.there)) in
          let is = All-contains (IsFollowed d loader sub) all m.0 are.each m.1 in
          let here : have.entry ≡ led.entry = read_once d loader row.file have.entry led.entry have.read led.read in
          let there : have.second ≡ is.entry = read_once d loader other have.second is.entry have.also (subst (λ n. IsRead d loader n is.entry) m.2 is.read) in
          let same : m.0.version ≡ row.version = is.version_is ∙ ap (λ (e : BlsEntry). e.version) (sym there) ∙ sym have.same ∙ ap (λ (e : BlsEntry). e.version) here ∙ sym led.version_is in
          sym m.2 ∙ twin_here m.0 m.1 (or_left (m.0.version == row.version) (leads_to row.id m.0.row) ((Decides-eqb m.0.version row.version).1 same))

      pub owned : is_folder (d.at (deploy_path row.id.os row.id.commit row.id.serial)) ≡ true → IsOwned d loader sub row
      owned there = record {
        row_is = record { led = led; there = there };
        own = record { id = row.id; leads = (row.bootcsum, row.number, led.leads); there = there; alone = only_id; version = only_version };
      }

-- ---- what is told of an entry

module _ (d : Disk) (loader sub : ℕ) (all : List Followed) (are : AreFollowed d loader sub all) (followed : Followed) (is : IsFollowed d loader sub followed) (row : BootRow) (some : followed.row ≡ Some row) where
  there : (row.file ≡ followed.name) × IsLedRow d loader sub row
  there = subst (IsRowOf d loader sub followed.name) some is.row_is

  pub twin_lacks : (alone : Bool) → alone ≡ not (list_any (is_twin row) all) → alone ≡ false → Lacks d loader sub followed.name
  twin_lacks alone tested no_ = subst (Lacks d loader sub) there.0 (lacks_alone d loader sub row there.1 all are (sym tested ∙ no_))

  pub folder_lacks : (stands : Bool) → stands ≡ is_folder (d.at (deploy_path row.id.os row.id.commit row.id.serial)) → stands ≡ false → Lacks d loader sub followed.name
  folder_lacks stands tested no_ = subst (Lacks d loader sub) there.0 (lacks_folder d loader sub row there.1 (sym tested ∙ no_))

  pub row_owned : (alone stands : Bool) → alone ≡ not (list_any (is_twin row) all) → alone ≡ true → stands ≡ is_folder (d.at (deploy_path row.id.os row.id.commit row.id.serial)) → stands ≡ true
      → (made : BootRow) → made ≡ row → (made.file ≡ followed.name) × IsOwned d loader sub made
  row_owned alone stands tested holds looked folder made same =
      subst (λ r. (r.file ≡ followed.name) × IsOwned d loader sub r) (sym same) (there.0, owned d loader sub row there.1 all are (sym tested ∙ holds) (sym looked ∙ folder))

-- ---- all entries

abbrev pub OwnedSoFar : Disk → ℕ → ℕ → List Followed → ℕ → List BootRow → Type 0
OwnedSoFar d loader sub all = SoFar (λ (f : Followed). f.name) (λ (r : BootRow). r.file) (IsOwned d loader sub) all

module _ (d : Disk) (loader sub : ℕ) (all : List Followed) (are : AreFollowed d loader sub all) where
  pub all_owned : (k : ℕ) (rows : List BootRow) → length all ≤ k → OwnedSoFar d loader sub all k rows → AreOwned d loader sub rows
  all_owned k rows whole so_far = record {
    entries = subst (AreEntries d loader) (sym (names_all (λ (f : Followed). f.name) (λ (r : BootRow). r.file) (IsOwned d loader sub) all k rows whole so_far)) are.entries;
    few = omega (arith, are.few, length_all (λ (f : Followed). f.name) (λ (r : BootRow). r.file) (IsOwned d loader sub) all k rows whole so_far);
    each = so_far.good;
  }

  pub first_lack : AreLinked d loader sub → (k : ℕ) (followed : Followed) (rows : List BootRow) → k < length all → followed ≡ get_or all k followed → OwnedSoFar d loader sub all k rows
      → (path : Path) → path ≡ entry_path loader followed.name → Lacks d loader sub followed.name → IsFirstLack d path
  first_lack before k followed rows inside is so_far path at lacks = record {
    loader = loader;
    sub = sub;
    before = before;
    file = followed.name;
    first = first_so_far (λ (f : Followed). f.name) (λ (r : BootRow). r.file) (IsOwned d loader sub) all (Lacks d loader sub) are.entries.ascending
        (λ y l. (are.entries.exact y).1 l.entry) (λ r good l. l.none good.own) k followed rows inside is so_far lacks;
    path_is = at;
  }

pub followed_here : (d : Disk) (loader sub : ℕ) (all : List Followed) → AreFollowed d loader sub all → (k : ℕ) (followed : Followed) → k < length all → followed ≡ get_or all k followed → IsFollowed d loader sub followed
followed_here d loader sub all are k followed inside is = subst (IsFollowed d loader sub) (sym is) (are.each k followed inside)

pub tells_first_lack : (d : Disk) (loader sub : ℕ) (all : List Followed) → AreFollowed d loader sub all → AreLinked d loader sub → (k : ℕ) (followed : Followed) (rows : List BootRow) → k < length all
    → followed ≡ get_or all k followed → OwnedSoFar d loader sub all k rows → (f : ListFault) → TellsLack d loader sub followed.name f → IsFault d f
tells_first_lack d loader sub all are before k followed rows inside is so_far (NoDeployment path) told = first_lack d loader sub all are before k followed rows inside is so_far path told.0 told.1
tells_first_lack d loader sub all are before k followed rows inside is so_far (BadLink path) told = absurd told
tells_first_lack d loader sub all are before k followed rows inside is so_far (TooMany path) told = absurd told
tells_first_lack d loader sub all are before k followed rows inside is so_far (BadEntry path fault) told = absurd told
tells_first_lack d loader sub all are before k followed rows inside is so_far (Fs error) told = told
tells_first_lack d loader sub all are before k followed rows inside is so_far NoMemory told = tt
