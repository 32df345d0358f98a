-- From the entry to the link that it names, and from the link to the deployment.
use Rattle.std.proofs.Common.{◌≡◌, ◌≢◌, ◌==◌, ℕ, true, false, List, length, get_or, ◌<◌, ◌≤◌, Option, Some, None, Result, Ok, Err, refl, sym, ◌∙◌, ap, subst, arith}
use Rattle.std.specs.Prelude.{IfErr, IfOk, MatchOption, MatchResult}
use Rattle.std.proofs.lemmas.Bool.Decides.{Decides-eqb}
use Rattle.std.proofs.lemmas.List.Elements.{All-contains}
use Rattle.ost_types.specs.Path.{Name, Path, same_name}
use Rattle.ost_types.proofs.Paths.{same_name-Decides}
use Rattle.fs_trait.specs.declared.types.Node as node
use Rattle.fs_trait.specs.Effect.{IsNode}
use Rattle.fs_trait.specs.Seen.{Vacant, Symlink, shows}
use Rattle.fs_trait.specs.View.{Disk}
use Rattle.repo_layout.specs.declared.fixed.Version.{Version}
use Rattle.repo_layout.specs.Fixed.{number}
use Rattle.boot_model.specs.declared.item.DepId.{DepId}
use Rattle.bls_entry.specs.declared.entry.BlsEntry.{BlsEntry}
use Rattle.bls_entry.specs.Options.{HasOstree}
use Rattle.boot_words.specs.declared.word.NamedLink.{NamedLink}
use Rattle.boot_words.specs.Words.{IsNamedLink, LeadsTo, NamesLink, NamesNoLink}
use Rattle.boot_words.proofs.Words as words
use Rattle.boot_read.specs.declared.fault.ListFault.{ListFault}
use Rattle.boot_read.specs.declared.fault.ListFault.TheVariants.{BadLink, TooMany, BadEntry, NoDeployment, Fs, NoMemory}
use Rattle.boot_read.specs.declared.links.Followed.{Followed}
use Rattle.boot_read.specs.declared.row.BootRow.{BootRow}
use Rattle.boot_read.specs.declared.texts.EntryText.{EntryText}
use Rattle.boot_read.specs.Entries.{AreEntries, IsRead}
use Rattle.boot_read.specs.Faults.{AreLinked, AreRead, HasFolders, IsFault, IsFirstBadItem}
use Rattle.boot_read.specs.Faults.IsFirstBadLink.{OfEntry}
use Rattle.boot_read.specs.Links.{EntryNames, IsItemLink, IsNamed, LeadsOn, item_link}
use Rattle.boot_read.specs.Rows.{IsLedRow}
use Rattle.boot_read.specs.Rules.{IsBadItem}
use Rattle.boot_read.specs.Steps.{AreFollowed, AreTexts, HasNoBad, IsFollowed, IsRowOf, IsTextOf, NamesIt, NamesNothing, NodeLeads, TellsBadItem, TellsOther, row_of}
use Rattle.boot_read.proofs.Entering.{are_read}
use Rattle.boot_read.proofs.Lists.{SoFar, first_so_far, length_all, mapped, names_all}
use Rattle.boot_read.proofs.Looking.{link_at, link_from, there_at}
use Rattle.boot_read.proofs.Unique.{named_once, read_once, same_path, value_once}

-- ---- the link that a text names

pub other_version : (text : List ℕ) (link : NamedLink) (loader : Version) → (number link.version == number loader) ≡ false → IsNamedLink text link → NamesNoLink text (number loader)
other_version text link loader other names os b n is =
    let e = words.named_once text (number link.version) (number loader) link.os os link.bootcsum b link.number n names is in
    let t : (number link.version == number loader) ≡ true = (Decides-eqb (number link.version) (number loader)).1 e.0 in
    let f : false ≡ true = sym other ∙ t in cc

pub this_version : (text : List ℕ) (link : NamedLink) (loader : Version) → (number link.version == number loader) ≡ true → IsNamedLink text link → NamesLink text (number loader) link.os link.bootcsum link.number
this_version text link loader same names =
    subst (λ v. NamesLink text v link.os link.bootcsum link.number) ((Decides-eqb (number link.version) (number loader)).0 same) names

pub names_nothing : (loader : ℕ) (entry : BlsEntry) → ((value : List ℕ) → ¬ (HasOstree entry.options value)) → NamesNothing loader entry
names_nothing loader entry none os b n names = none names.value names.word

pub named_of : (loader : ℕ) (entry : BlsEntry) (value : List ℕ) (o : Option NamedLink) → HasOstree entry.options value
    → MatchOption o (NamesNoLink value loader) (λ l. NamesLink value loader l.os l.bootcsum l.number) → MatchOption o (NamesNothing loader entry) (NamesIt loader entry)
named_of loader entry value None word none = λ os b n names. none os b n (subst (λ t. NamesLink t loader os b n) (value_once entry.options names.value value names.word word) names.names)
named_of loader entry value (Some link) word names = record { value = value; word = word; names = names }

-- ---- the deployment to which a link leads

pub other_stateroot : (target : List ℕ) (led : DepId) (os : Name) → same_name led.os os ≡ false → LeadsTo target led → (id : DepId) → LeadsTo target id → id.os ≢ os
other_stateroot target led os other leads id also e =
    let same : led ≡ id = words.led_once target led id leads also in
    let t : same_name led.os os ≡ true = (same_name-Decides led.os os).1 (ap (λ (i : DepId). i.os) same ∙ e) in
    let f : false ≡ true = sym other ∙ t in cc

module _ (d : Disk) (at : Path) (n : node.Node) (is : IsNode d (d.at at) (Some n)) (os : Name) where
  pub item_there : (id : DepId) → NodeLeads n os id → IsItemLink d at os id
  item_there id leads = record { target = leads.target; leads = leads.leads; link = link_at d (d.at at) n leads.target is leads.link; same = leads.same }

  pub item_none : ((id : DepId) → ¬ (NodeLeads n os id)) → (id : DepId) → ¬ (IsItemLink d at os id)
  item_none none id link = none id (record { target = link.target; leads = link.leads; link = link_from d (d.at at) n link.target is link.link; same = link.same })

  pub led_some : (o : Option DepId) → MatchOption o ((id : DepId) → ¬ (NodeLeads n os id)) (NodeLeads n os) → (id : DepId) → o ≡ Some id → IsItemLink d at os id
  led_some o led id e = item_there id (subst (λ x. MatchOption x ((i : DepId) → ¬ (NodeLeads n os i)) (NodeLeads n os)) e led)

  pub led_none : (o : Option DepId) → MatchOption o ((id : DepId) → ¬ (NodeLeads n os id)) (NodeLeads n os) → o ≡ None → TellsOther d at os (BadLink at)
  led_none o led e = (refl, there_at d (d.at at) n is, item_none (subst (λ x. MatchOption x ((i : DepId) → ¬ (NodeLeads n os i)) (NodeLeads n os)) e led))

-- ---- from the entry to the deployment

module _ (d : Disk) (loader sub : ℕ) (file : Name) (entry : BlsEntry) (read : IsRead d loader file entry) where
  module _ (none : NamesNothing loader entry) where
    not_named : (os : Name) (b : List ℕ) (n : ℕ) → ¬ (IsNamed d loader file os b n)
    not_named os b n named = none os b n (subst (λ e. EntryNames loader e os b n) (read_once d loader file named.entry entry named.read read) named.names)

    pub nothing_led : IsRowOf d loader sub file None × HasNoBad d loader sub file
    nothing_led = ((λ b n id on. not_named id.os b n on.named), (λ path bad. not_named bad.os bad.bootcsum bad.n bad.named))

  module _ (link : NamedLink) (names : NamesIt loader entry link) (at : Path) (is : at ≡ item_link loader sub link.os link.bootcsum link.number) where
    named_here : IsNamed d loader file link.os link.bootcsum link.number
    named_here = record { entry = entry; read = read; names = names }

    path_of : (os : Name) (b : List ℕ) (n : ℕ) → IsNamed d loader file os b n → item_link loader sub os b n ≡ at
    path_of os b n named = sym (same_path loader sub link.os os link.bootcsum b link.number n (named_once d loader file link.os os link.bootcsum b link.number n named_here named)) ∙ sym is

    pub vacant_led : shows d at ≡ Vacant → IsRowOf d loader sub file None × HasNoBad d loader sub file
    vacant_led vacant = (
      (λ b n id on.
          let e : Symlink on.link.link.0 on.link.target ≡ Vacant = sym on.link.link.1 ∙ ap (shows d) (path_of id.os b n on.named) ∙ vacant in cc),
      (λ path bad. bad.there (ap (shows d) (bad.path_is ∙ path_of bad.os bad.bootcsum bad.n bad.named) ∙ vacant)),
    )

    module _ (id : DepId) (item : IsItemLink d at link.os id) where
      item_bad : HasNoBad d loader sub file
      item_bad path bad =
          let s = named_once d loader file link.os bad.os link.bootcsum bad.bootcsum link.number bad.n named_here bad.named in
          bad.other id (subst (λ o. IsItemLink d path o id) s.0 (subst (λ p. IsItemLink d p link.os id) (sym (bad.path_is ∙ path_of bad.os bad.bootcsum bad.n bad.named)) item))

      led_on : LeadsOn d loader sub file link.bootcsum link.number id
      led_on = record {
        named = subst (λ o. IsNamed d loader file o link.bootcsum link.number) (sym item.same) named_here;
        link = subst (λ o. IsItemLink d (item_link loader sub o link.bootcsum link.number) o id) (sym item.same) (subst (λ p. IsItemLink d p link.os id) is item);
      }

      pub item_led : (row : BootRow) → row ≡ row_of (record { name = file; entry = entry }) link id → IsRowOf d loader sub file (Some row) × HasNoBad d loader sub file
      item_led row made = (
        subst (λ r. (r.file ≡ file) × IsLedRow d loader sub r) (sym made) (refl, record { entry = entry; read = read; version_is = refl; kargs_are = refl; leads = led_on }),
        item_bad,
      )

    pub vacant_told : (o : Option DepId) → o ≡ None → MatchOption o (shows d at ≡ Vacant) (IsItemLink d at link.os) → IsRowOf d loader sub file None × HasNoBad d loader sub file
    vacant_told o e told = vacant_led (subst (λ x. MatchOption x (shows d at ≡ Vacant) (IsItemLink d at link.os)) e told)

    pub item_told : (o : Option DepId) (id : DepId) → o ≡ Some id → MatchOption o (shows d at ≡ Vacant) (IsItemLink d at link.os)
        → (r : Result (Option BootRow) ListFault) → IfOk r (λ x. x ≡ Some (row_of (record { name = file; entry = entry }) link id)) → IfErr r (λ e. e ≡ NoMemory)
        → MatchResult r (λ row. IsRowOf d loader sub file row × HasNoBad d loader sub file) (TellsBadItem d loader sub file)
    item_told o id e told (Ok row) made memory =
        subst (λ x. IsRowOf d loader sub file x × HasNoBad d loader sub file) (sym made) (item_led id (subst (λ x. MatchOption x (shows d at ≡ Vacant) (IsItemLink d at link.os)) e told) _ refl)
    item_told o id e told (Err f) made memory = subst (TellsBadItem d loader sub file) (sym memory) tt

    pub tells_bad : (f : ListFault) → TellsOther d at link.os f → TellsBadItem d loader sub file f
    tells_bad (BadLink path) told = record {
      os = link.os;
      bootcsum = link.bootcsum;
      n = link.number;
      named = named_here;
      path_is = told.0 ∙ is;
      there = subst (λ p. shows d p ≢ Vacant) (sym told.0) told.1;
      other = λ id item. told.2 id (subst (λ p. IsItemLink d p link.os id) told.0 item);
    }
    tells_bad (TooMany path) told = absurd told
    tells_bad (BadEntry path fault) told = absurd told
    tells_bad (NoDeployment path) told = absurd told
    tells_bad (Fs error) told = told
    tells_bad NoMemory told = tt

-- ---- all entries

abbrev pub FollowedSoFar : Disk → ℕ → ℕ → List EntryText → ℕ → List Followed → Type 0
FollowedSoFar d loader sub texts = SoFar (λ (t : EntryText). t.name) (λ (f : Followed). f.name) (IsFollowed d loader sub) texts

abbrev pub BadBy : Disk → ℕ → ℕ → Name → Type 0
BadBy d loader sub file = (at : Path) × IsBadItem d loader sub file at

module _ (d : Disk) (loader sub : ℕ) (texts : List EntryText) (are : AreTexts d loader texts) where
  pub all_followed : (k : ℕ) (all : List Followed) → length texts ≤ k → FollowedSoFar d loader sub texts k all → AreFollowed d loader sub all
  all_followed k all whole so_far = record {
    entries = subst (AreEntries d loader) (sym (names_all (λ (t : EntryText). t.name) (λ (f : Followed). f.name) (IsFollowed d loader sub) texts k all whole so_far)) are.entries;
    few = omega (arith, are.few, length_all (λ (t : EntryText). t.name) (λ (f : Followed). f.name) (IsFollowed d loader sub) texts k all whole so_far);
    each = so_far.good;
  }

  pub first_bad : HasFolders d loader sub → (k : ℕ) (text : EntryText) (all : List Followed) → k < length texts → text ≡ get_or texts k text → FollowedSoFar d loader sub texts k all
      → (path : Path) → IsBadItem d loader sub text.name path → IsFirstBadItem d path
  first_bad folders k text all inside is so_far path bad = record {
    loader = loader;
    sub = sub;
    before = are_read d loader sub texts folders are;
    file = text.name;
    first = first_so_far (λ (t : EntryText). t.name) (λ (f : Followed). f.name) (IsFollowed d loader sub) texts (BadBy d loader sub) are.entries.ascending
        (λ y b. (are.entries.exact y).1 (b.1.named.read.bytes, b.1.named.read.there)) (λ f good b. good.fine b.0 b.1) k text all inside is so_far (path, bad);
    bad = bad;
  }

pub followed_is : (d : Disk) (loader sub : ℕ) (name copy : Name) → copy ≡ name → (entry : BlsEntry) → IsRead d loader name entry → (row : Option BootRow) → IsRowOf d loader sub name row × HasNoBad d loader sub name
    → IsFollowed d loader sub (record { name = copy; version = entry.version; row = row })
followed_is d loader sub name copy same entry read row told =
    subst (λ n. IsFollowed d loader sub (record { name = n; version = entry.version; row = row })) (sym same) (record { entry = entry; read = read; version_is = refl; row_is = told.0; fine = told.1 })

pub text_here : (d : Disk) (loader : ℕ) (texts : List EntryText) → AreTexts d loader texts → (k : ℕ) (text : EntryText) → k < length texts → text ≡ get_or texts k text → IsRead d loader text.name text.entry
text_here d loader texts are k text inside is = subst (IsTextOf d loader) (sym is) (are.each k text inside)

pub tells_first_bad : (d : Disk) (loader sub : ℕ) (texts : List EntryText) → AreTexts d loader texts → HasFolders d loader sub → (k : ℕ) (text : EntryText) (all : List Followed) → k < length texts
    → text ≡ get_or texts k text → FollowedSoFar d loader sub texts k all → (f : ListFault) → TellsBadItem d loader sub text.name f → IsFault d f
tells_first_bad d loader sub texts are folders k text all inside is so_far (BadLink path) told = OfEntry (first_bad d loader sub texts are folders k text all inside is so_far path told)
tells_first_bad d loader sub texts are folders k text all inside is so_far (TooMany path) told = absurd told
tells_first_bad d loader sub texts are folders k text all inside is so_far (BadEntry path fault) told = absurd told
tells_first_bad d loader sub texts are folders k text all inside is so_far (NoDeployment path) told = absurd told
tells_first_bad d loader sub texts are folders k text all inside is so_far (Fs error) told = told
tells_first_bad d loader sub texts are folders k text all inside is so_far NoMemory told = tt

pub are_linked : (d : Disk) (loader sub : ℕ) (all : List Followed) → AreRead d loader sub → AreFollowed d loader sub all → AreLinked d loader sub
are_linked d loader sub all read are = record {
  read = read;
  all = λ file path bad.
      let m = mapped (λ (f : Followed). f.name) all file ((are.entries.exact file).1 (bad.named.read.bytes, bad.named.read.there)) in
      (All-contains (IsFollowed d loader sub) all m.0 are.each m.1).fine path (subst (λ n. IsBadItem d loader sub n path) (sym m.2) bad);
}
