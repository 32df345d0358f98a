-- The entries of a version, found in the listing of their folder, and read.
use Rattle.std.proofs.Common.{◌≡◌, ◌≢◌, ℕ, ◌+◌, ◌-◌, ◌<◌, ◌≤◌, ◌&&◌, ◌++◌, ◌∷◌, [], List, map, length, get_or, take, drop, filter, codes, Bool, true, false, if◌then◌else◌, Option, Some, None, Ok, Err, refl, sym, ◌∙◌, ap, subst, arith, All, append-nil, append_assoc, length-append}
use Rattle.std.specs.Prelude.{Contains}
use Rattle.std.specs.Cmp.Lexicographic.{slice_cmp}
use Rattle.std.specs.Option.{option_map}
use Rattle.std.specs.Ordering.{nat_cmp}
use Rattle.std.proofs.lemmas.Bool.{and_from, and_parts}
use Rattle.std.proofs.lemmas.List.{length-map, length-take, map_push, take-append-drop, take_all}
use Rattle.std.proofs.lemmas.List.Elements.{All-contains, All-nil, All-push, filter-append, filter_more, filter_passes}
use Rattle.std.proofs.lemmas.List.Kept.{IsStrictlySortedBy-filter}
use Rattle.ost_types.specs.Path.{Name, Path, same_name, under}
use Rattle.ost_types.proofs.Paths.{same_name-Decides}
use Rattle.fs_trait.specs.declared.types.Value.TheVariants.{Absent}
use Rattle.fs_trait.specs.Effect.{IsListing}
use Rattle.fs_trait.specs.Image.{reads}
use Rattle.fs_trait.specs.View.{Disk}
use Rattle.repo_layout.specs.BootPaths.{entry_path, loader_folder_path}
use Rattle.repo_layout.specs.Fixed.{entries_path}
use Rattle.boot_model.specs.Listing.{HasEntry, ends_conf}
use Rattle.bls_entry.specs.declared.entry.BlsEntry.{BlsEntry}
use Rattle.bls_entry.specs.declared.fault.BlsFault.{BlsFault}
use Rattle.bls_entry.specs.declared.fault.BlsFault as bls
use Rattle.bls_entry.specs.Reading.{Reads}
use Rattle.boot_read.specs.declared.fault.EntryFault.{EntryFault}
use Rattle.boot_read.specs.declared.fault.EntryFault.TheVariants.{TooLong, Unread}
use Rattle.boot_read.specs.declared.fault.ListFault.{ListFault}
use Rattle.boot_read.specs.declared.fault.ListFault.TheVariants.{BadLink, TooMany, BadEntry, NoDeployment, Fs, NoMemory}
use Rattle.boot_read.specs.declared.files.EntryFile.{EntryFile}
use Rattle.boot_read.specs.declared.texts.EntryText.{EntryText}
use Rattle.boot_read.specs.Entries.{AreEntries, IsEntry, IsRead, IsUnread, entries_limit, entry_limit}
use Rattle.boot_read.specs.Faults.{AreRead, HasFolders, IsFault, IsFirstTooMany, IsFirstUnread}
use Rattle.boot_read.specs.Rules.{AreFew}
use Rattle.boot_read.specs.Steps.{AreFiles, AreTexts, IsFileAt, IsFileOf, IsPushed, IsTextOf, TellsUnread}
use Rattle.boot_read.proofs.Lists.{SoFar, first_so_far, in_filter, length_all, mapped, names_all}
use Rattle.boot_read.proofs.Unique.{not_unread}

-- ---- which names are those of entries

abbrev pub has : Option (List ℕ) → Bool
has None = false
has (Some bytes) = true

abbrev pub is_entry : Disk → ℕ → Name → Bool
is_entry d loader file = same_name (drop (length file - 5) file) (codes ".conf") && has (reads d (entry_path loader file))

the_bytes : (o : Option (List ℕ)) → has o ≡ true → (bytes : List ℕ) × (o ≡ Some bytes)
the_bytes None e = let n : false ≡ true = e in cc
the_bytes (Some bytes) e = (bytes, refl)

has_some : (o : Option (List ℕ)) (bytes : List ℕ) → o ≡ Some bytes → has o ≡ true
has_some o bytes e = ap has e

pub entry_true : (d : Disk) (loader : ℕ) (file : Name) → is_entry d loader file ≡ true → IsEntry d loader file
entry_true d loader file e =
    let p = and_parts (same_name (drop (length file - 5) file) (codes ".conf")) (has (reads d (entry_path loader file))) e in
    let b = the_bytes (reads d (entry_path loader file)) p.1 in
    (b.0, record { name = (same_name-Decides (drop (length file - 5) file) (codes ".conf")).0 p.0; holds = b.1 })

pub true_entry : (d : Disk) (loader : ℕ) (file : Name) → IsEntry d loader file → is_entry d loader file ≡ true
true_entry d loader file entry =
    and_from (same_name (drop (length file - 5) file) (codes ".conf")) (has (reads d (entry_path loader file)))
    ((same_name-Decides (drop (length file - 5) file) (codes ".conf")).1 entry.1.name) (has_some (reads d (entry_path loader file)) entry.0 entry.1.holds)

pub false_entry : (d : Disk) (loader : ℕ) (file : Name) → ¬ (IsEntry d loader file) → is_entry d loader file ≡ false
false_entry d loader file none = by (is_entry d loader file) refl
  where
    by : (t : Bool) → is_entry d loader file ≡ t → t ≡ false
    by true e = absurd (none (entry_true d loader file e))
    by false e = refl

-- ---- the file of one name

pub entry_under : (loader : ℕ) (file : Name) → under (entries_path loader) file ≡ entry_path loader file
entry_under loader file = append_assoc (loader_folder_path loader) (codes "entries" ∷ []) (file ∷ [])

pub other_name : (d : Disk) (loader : ℕ) (file : Name) → ¬ (ends_conf file) → ¬ (IsEntry d loader file)
other_name d loader file other entry = other entry.1.name

pub no_file : (d : Disk) (loader : ℕ) (file : Name) (at : Path) (most : ℕ) → at ≡ entry_path loader file → None ≡ option_map (take most) (reads d at) → ¬ (IsEntry d loader file)
no_file d loader file at most is none entry =
    let e : None ≡ option_map (take most) (Some entry.0) = none ∙ ap (λ p. option_map (take most) (reads d p)) is ∙ ap (option_map (take most)) entry.1.holds in cc

some_front : (most : ℕ) (o : Option (List ℕ)) (front : List ℕ) → Some front ≡ option_map (take most) o → (bytes : List ℕ) × (o ≡ Some bytes) × (front ≡ take most bytes)
some_front most None front e = let n : Some front ≡ None = e in cc
some_front most (Some bytes) front e = (bytes, refl, let n : Some front ≡ Some (take most bytes) = e in cc)

pub file_there : (d : Disk) (loader : ℕ) (file : Name) (at : Path) (front : List ℕ) → ends_conf file → at ≡ entry_path loader file → Some front ≡ option_map (take (entry_limit + 1)) (reads d at)
    → IsFileOf d loader (record { name = file; bytes = front })
file_there d loader file at front name is some =
    let f = some_front (entry_limit + 1) (reads d at) front some in
    record { bytes = f.0; there = record { name = name; holds = ap (reads d) (sym is) ∙ f.1 }; front = f.2 }

pub file_at : (d : Disk) (loader : ℕ) (file : Name) (at : Path) (front : List ℕ) → ends_conf file → at ≡ entry_path loader file → Some front ≡ option_map (take (entry_limit + 1)) (reads d at)
    → IsFileAt d loader file (Some (record { name = file; bytes = front }))
file_at d loader file at front name is some = (refl, file_there d loader file at front name is some)

pub few_none : (files : List EntryFile) → files ≡ [] → length files ≤ entries_limit
few_none files none = omega (arith, ap length none)

pub few_pushed : (found : Option EntryFile) (old new : List EntryFile) → length old ≤ entries_limit → IsPushed old found true new → length new ≤ entries_limit
few_pushed None old new few same = omega (arith, few, ap length same)
few_pushed (Some file) old new few one = omega (arith, one.0, ap length one.1, length-append old (file ∷ []))

-- what has bytes isn't absent
read_there : (d : Disk) (p : Path) (b : List ℕ) → reads d p ≡ Some b → d.at p ≢ Absent
unfolding reads
read_there d p b held absent = let n : None ≡ Some b = sym (read_absent absent) ∙ held in cc
  where
    read_absent : d.at p ≡ Absent → reads d p ≡ None
    read_absent at = rw at refl

-- ---- the files of all names

-- The files of the entries among the first k names.
pub record FilesSoFar (d : Disk) (loader : ℕ) (names : List Name) (k : ℕ) (files : List EntryFile) : Type 0 where
  pub are : map (λ (f : EntryFile). f.name) files ≡ filter (is_entry d loader) (take k names)
  pub good : All (IsFileOf d loader) files

module _ (d : Disk) (loader : ℕ) (names : List Name) where
  abbrev test : Name → Bool
  test = is_entry d loader

  pub no_files : (files : List EntryFile) → files ≡ [] → FilesSoFar d loader names 0 files
  no_files files none = subst (FilesSoFar d loader names 0) (sym none) (record { are = refl; good = All-nil (IsFileOf d loader) })

  module _ (k : ℕ) (x : Name) (inside : k < length names) (is : x ≡ get_or names k x) where
    skipped : ¬ (IsEntry d loader x) → filter test (take (k + 1) names) ≡ filter test (take k names)
    skipped none =
        filter_more test names k x inside
        ∙ ap (λ z. filter test (take k names) ++ (if test z then z ∷ [] else [])) (sym is)
        ∙ ap (λ t. filter test (take k names) ++ (if t then x ∷ [] else [])) (false_entry d loader x none)
        ∙ append-nil (filter test (take k names))

    added : IsEntry d loader x → filter test (take (k + 1) names) ≡ filter test (take k names) ++ x ∷ []
    added entry =
        filter_more test names k x inside
        ∙ ap (λ z. filter test (take k names) ++ (if test z then z ∷ [] else [])) (sym is)
        ∙ ap (λ t. filter test (take k names) ++ (if t then x ∷ [] else [])) (true_entry d loader x entry)

    pub pushed : (found : Option EntryFile) (old new : List EntryFile) → IsFileAt d loader x found → IsPushed old found true new → FilesSoFar d loader names k old → FilesSoFar d loader names (k + 1) new
    pushed None old new none same so_far = subst (FilesSoFar d loader names (k + 1)) (sym same) (record { are = so_far.are ∙ sym (skipped none); good = so_far.good })
    pushed (Some file) old new there one so_far = subst (FilesSoFar d loader names (k + 1)) (sym one.1) (record {
      are =
          map_push (λ (f : EntryFile). f.name) old file ∙ ap (λ l. l ++ file.name ∷ []) so_far.are
          ∙ ap (λ n. filter test (take k names) ++ n ∷ []) there.0 ∙ sym (added (entry_of file there));
      good = All-push (IsFileOf d loader) old file so_far.good there.1;
    })
      where
        entry_of : (file : EntryFile) → (file.name ≡ x) × IsFileOf d loader file → IsEntry d loader x
        entry_of file there = (there.1.bytes, subst (λ n. HasEntry d loader n there.1.bytes) there.0 there.1.there)

    -- one more than there may be
    pub over : (found : Option EntryFile) (old new : List EntryFile) → IsFileAt d loader x found → IsPushed old found false new → FilesSoFar d loader names k old → entries_limit < length (filter test names)
    over None old new none full so_far = absurd full
    over (Some file) old new there full so_far =
        let entry : IsEntry d loader x = (there.1.bytes, subst (λ n. HasEntry d loader n there.1.bytes) there.0 there.1.there) in
        let whole : filter test names ≡ filter test (take (k + 1) names) ++ filter test (drop (k + 1) names) =
        ap (filter test) (sym (take-append-drop (k + 1) names)) ∙ filter-append test (take (k + 1) names) (drop (k + 1) names) in
        let front : length (filter test (take (k + 1) names)) ≡ length (filter test (take k names)) + 1 = ap length (added entry) ∙ length-append (filter test (take k names)) (x ∷ []) in
        let here : length (filter test (take k names)) ≡ length old = ap length (sym so_far.are) ∙ length-map old (λ (f : EntryFile). f.name) in
        omega (arith, ap length whole, length-append (filter test (take (k + 1) names)) (filter test (drop (k + 1) names)), front, here, full)

  module _ (folder : Path) (is : folder ≡ entries_path loader) (listing : IsListing d folder names) where
    in_listing : (file : Name) → IsEntry d loader file → Contains names file
    in_listing file entry = listing.all file (λ absent. read_there d (entry_path loader file) entry.0 entry.1.holds (sym (ap d.at (ap (λ f. under f file) is ∙ entry_under loader file)) ∙ absent))

    entries : AreEntries d loader (filter test names)
    entries = record {
      ascending = IsStrictlySortedBy-filter (slice_cmp nat_cmp) test names listing.ascending;
      exact = λ file. (
        (λ c. entry_true d loader file (All-contains (λ x. test x ≡ true) (filter test names) file (filter_passes test names) c)),
        (λ entry. in_filter test names file (in_listing file entry) (true_entry d loader file entry)),
      );
    }

    pub all_files : (k : ℕ) (files : List EntryFile) → length names ≤ k → length files ≤ entries_limit → FilesSoFar d loader names k files → AreFiles d loader files
    all_files k files whole few so_far =
        let are : map (λ (f : EntryFile). f.name) files ≡ filter test names = so_far.are ∙ ap (filter test) (take_all k names whole) in
        record { entries = subst (AreEntries d loader) (sym are) entries; few = few; each = so_far.good }

    pub too_many : (sub : ℕ) → HasFolders d loader sub → entries_limit < length (filter test names) → IsFirstTooMany d folder
    too_many sub before many = record { loader = loader; sub = sub; before = before; many = (filter test names, entries, many); path_is = is }

-- ---- texts

pub has_few : (d : Disk) (loader : ℕ) (files : List EntryFile) → AreFiles d loader files → AreFew d loader
has_few d loader files are = (map (λ (f : EntryFile). f.name) files, omega (arith, are.few, length-map files (λ (f : EntryFile). f.name)), λ file entry. (are.entries.exact file).1 entry)

module _ (d : Disk) (loader : ℕ) (file : EntryFile) (is : IsFileOf d loader file) where
  pub too_long : entry_limit < length file.bytes → IsUnread d loader file.name TooLong
  too_long long = record { bytes = is.bytes; there = is.there; wrong = omega (arith, long, ap length is.front, length-take (entry_limit + 1) is.bytes) }

  short : length file.bytes ≤ entry_limit → length is.bytes ≤ entry_limit
  short few = omega (arith, few, ap length is.front, length-take (entry_limit + 1) is.bytes)

  same : length file.bytes ≤ entry_limit → file.bytes ≡ is.bytes
  same few = is.front ∙ take_all (entry_limit + 1) is.bytes (omega (arith, short few))

  pub read_as : (entry : BlsEntry) → length file.bytes ≤ entry_limit → Reads file.bytes (Ok entry) → IsRead d loader file.name entry
  read_as entry few reads = record { bytes = is.bytes; there = is.there; short = short few; reads = subst (λ t. Reads t (Ok entry)) (same few) reads }

  pub unread_as : (fault : BlsFault) → length file.bytes ≤ entry_limit → Reads file.bytes (Err fault) → fault ≢ bls.TheVariants.NoMemory → IsUnread d loader file.name (Unread fault)
  unread_as fault few reads told = record { bytes = is.bytes; there = is.there; wrong = (short few, subst (λ t. Reads t (Err fault)) (same few) reads, told) }

-- ---- all texts

abbrev pub TextsSoFar : Disk → ℕ → List EntryFile → ℕ → List EntryText → Type 0
TextsSoFar d loader files = SoFar (λ (f : EntryFile). f.name) (λ (t : EntryText). t.name) (IsTextOf d loader) files

abbrev pub UnreadBy : Disk → ℕ → Name → Type 0
UnreadBy d loader file = (wrong : EntryFault) × IsUnread d loader file wrong

module _ (d : Disk) (loader : ℕ) (files : List EntryFile) (are : AreFiles d loader files) where
  pub all_texts : (k : ℕ) (texts : List EntryText) → length files ≤ k → TextsSoFar d loader files k texts → AreTexts d loader texts
  all_texts k texts whole so_far = record {
    entries = subst (AreEntries d loader) (sym (names_all (λ (f : EntryFile). f.name) (λ (t : EntryText). t.name) (IsTextOf d loader) files k texts whole so_far)) are.entries;
    few = omega (arith, are.few, length_all (λ (f : EntryFile). f.name) (λ (t : EntryText). t.name) (IsTextOf d loader) files k texts whole so_far);
    each = so_far.good;
  }

  pub first_unread : (sub : ℕ) → HasFolders d loader sub → (k : ℕ) (file : EntryFile) (texts : List EntryText) → k < length files → file ≡ get_or files k file → TextsSoFar d loader files k texts
      → (path : Path) (fault : EntryFault) → path ≡ entry_path loader file.name → IsUnread d loader file.name fault → IsFirstUnread d path fault
  first_unread sub folders k file texts inside is so_far path fault at wrong = record {
    loader = loader;
    sub = sub;
    before = record { folders = folders; few = has_few d loader files are };
    file = file.name;
    first = first_so_far (λ (f : EntryFile). f.name) (λ (t : EntryText). t.name) (IsTextOf d loader) files (UnreadBy d loader) are.entries.ascending
        (λ y bad. (are.entries.exact y).1 (bad.1.bytes, bad.1.there)) (λ t good bad. not_unread d loader t.name t.entry bad.0 good bad.1) k file texts inside is so_far (fault, wrong);
    wrong = wrong;
    path_is = at;
  }

-- the text of an entry is that of the name's copy
pub text_of : (d : Disk) (loader : ℕ) (name copy : Name) (entry : BlsEntry) → copy ≡ name → IsRead d loader name entry → IsTextOf d loader (record { name = copy; entry = entry })
text_of d loader name copy entry same read = subst (λ n. IsRead d loader n entry) (sym same) read

pub file_here : (d : Disk) (loader : ℕ) (files : List EntryFile) → AreFiles d loader files → (k : ℕ) (file : EntryFile) → k < length files → file ≡ get_or files k file → IsFileOf d loader file
file_here d loader files are k file inside is = subst (IsFileOf d loader) (sym is) (are.each k file inside)

pub tells_unread : (d : Disk) (loader sub : ℕ) → HasFolders d loader sub → (files : List EntryFile) → AreFiles d loader files → (k : ℕ) (file : EntryFile) (texts : List EntryText) → k < length files
    → file ≡ get_or files k file → TextsSoFar d loader files k texts → (f : ListFault) → TellsUnread d loader file.name f → IsFault d f
tells_unread d loader sub folders files are k file texts inside is so_far (BadEntry path fault) told = first_unread d loader files are sub folders k file texts inside is so_far path fault told.0 told.1
tells_unread d loader sub folders files are k file texts inside is so_far (BadLink path) told = absurd told
tells_unread d loader sub folders files are k file texts inside is so_far (TooMany path) told = absurd told
tells_unread d loader sub folders files are k file texts inside is so_far (NoDeployment path) told = absurd told
tells_unread d loader sub folders files are k file texts inside is so_far (Fs error) told = absurd told
tells_unread d loader sub folders files are k file texts inside is so_far NoMemory told = tt

pub are_read : (d : Disk) (loader sub : ℕ) (texts : List EntryText) → HasFolders d loader sub → AreTexts d loader texts → AreRead d loader sub
are_read d loader sub texts folders are = record {
  entries = record { folders = folders; few = (map (λ (t : EntryText). t.name) texts, omega (arith, are.few, length-map texts (λ (t : EntryText). t.name)), λ file entry. (are.entries.exact file).1 entry) };
  all = λ file fault wrong.
      let m = mapped (λ (t : EntryText). t.name) texts file ((are.entries.exact file).1 (wrong.bytes, wrong.there)) in
      not_unread d loader file m.0.entry fault (subst (λ n. IsRead d loader n m.0.entry) m.2 (All-contains (IsTextOf d loader) texts m.0 are.each m.1)) wrong;
}
