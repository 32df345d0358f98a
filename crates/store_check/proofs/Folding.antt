-- From the entries of a folder to what is known of it, and of a commit.
use Rattle.std.proofs.Common.{◌≡◌, ◌≢◌, ◌⊎◌, inl, inr, ⊎_elim, ℕ, Bool, true, false, ◌+◌, ◌<◌, ◌≤◌, List, length, get_or, Contains, Option, Some, None, [], refl, sym, ◌∙◌, ap, subst, arith}
use Rattle.std.specs.Bool.{Decides}
use Rattle.std.specs.Prelude.{IfSome}
use Rattle.std.specs.BTreeMap.{BTreeMap, Updates, get}
use Rattle.std.specs.Map.{lookup}
use Rattle.std.specs.Cmp.Lexicographic.{slice_cmp, texts_ties}
use Rattle.std.specs.Ordering.{nat_cmp, is_eq}
use Rattle.ost_types.specs.Path.{Path, same_name}
use Rattle.ost_types.proofs.Paths.{same_name-Decides}
use Rattle.ost_types.specs.declared.limits.Limits.{Limits}
use Rattle.ost_types.specs.declared.object.Kind.TheVariants as kind
use Rattle.ost_types.specs.declared.object.ObjName.{ObjName}
use Rattle.ost_forms.specs.declared.entry.FileItem.{FileItem}
use Rattle.ost_forms.specs.declared.entry.FolderItem.{FolderItem}
use Rattle.ost_forms.specs.Commit.{CommitParts}
use Rattle.ost_forms.specs.DirTree.{Entries}
use Rattle.fs_trait.specs.View.{Disk}
use Rattle.repo_model.specs.Objects.{Has, Stores}
use Rattle.repo_model.specs.Trees.{HasCommit, HasEntries, name_of}
use Rattle.repo_model.specs.Whole.{Complete}
use Rattle.repo_model.proofs.Named.{IsSum-named}
use Rattle.repo_model.proofs.Stored.{stores_map}
use Rattle.tree_read.proofs.Walk.{entries_one}
use Rattle.store_check.specs.declared.extent.Extent.{Extent}
use Rattle.store_check.specs.Objects.{AreSound}
use Rattle.store_check.specs.Extents.{Covers, EntryPaths, FilePaths, IsKnown}
use Rattle.store_check.specs.Folders.{AreKnown, CoversFiles, CoversFolders, WithFile, WithFolder}
use Rattle.store_check.proofs.Bounds.{covers_fewer}
use Rattle.store_check.proofs.Damages.{nothing_at}
use Rattle.store_check.proofs.Entering.{AreThere, all_files, complete, known, no_files, one_file, one_folder}
use Rattle.store_check.proofs.Firsts.{SoFar, none_so_far, one_more}

-- what is said of the value that there is
pub in_some : {X : Type 0} (P : X → Type 0) (o : Option X) (x : X) → o ≡ Some x → IfSome o P → P x
in_some P o x is said = subst (λ r. IfSome r P) is said

-- files so far
module _ (names : List ObjName) (files : List FileItem) where
  abbrev pub Listed : FileItem → Type 0
  Listed i = Contains names (name_of kind.File i.file)

  pub record FilesSoFar (i : ℕ) (e : Extent) : Type 0 where
    pub listed : SoFar Listed files i
    pub covers : Covers (FilePaths files i) e

  pub files_none : (e : Extent) → FilesSoFar 0 e
  files_none e = record { listed = none_so_far Listed files; covers = no_files files e }

  pub files_more : (i : ℕ) (x : FileItem) → i < length files → x ≡ get_or files i x → (e with : Extent) → WithFile names x e with → FilesSoFar i e → FilesSoFar (i + 1) with
  files_more i x inside is e with made so = record {
    listed = one_more Listed files i x inside is made.listed so.listed (i + 1) refl;
    covers = one_file files i x inside is e made.below with made.made so.covers;
  }

  pub files_all : (i : ℕ) (e : Extent) → length files ≤ i → FilesSoFar i e → CoversFiles names files e
  files_all i e whole so = record {
    listed = λ x has. so.listed has.0 x (let less = has.1 in omega (arith, less, whole)) has.2;
    covers = covers_fewer (FilePaths files i) (FilePaths files (length files)) e fewer so.covers;
  }
    where
      fewer : (p : Path) → FilePaths files (length files) p → FilePaths files i p
      fewer p (k, item, less, at, path) = (k, item, omega (arith, less, whole), at, path)

-- folders so far
module _ (d : Disk) (content : ℕ) (names : List ObjName) (folders : List FolderItem) where
  abbrev pub Known : FolderItem → Type 0
  Known i = Contains names (name_of kind.DirMeta i.meta) × ((below : Extent) × IsKnown (Stores d) content i.tree below)

  pub record FoldersSoFar (first : Extent) (i : ℕ) (e : Extent) : Type 0 where
    pub known : SoFar Known folders i
    pub covers : (files : List FileItem) → Covers (EntryPaths (Stores d) files folders 0) first → Covers (EntryPaths (Stores d) files folders i) e

  pub folders_none : (e : Extent) → FoldersSoFar e 0 e
  folders_none e = record { known = none_so_far Known folders; covers = λ files covers. covers }

  pub folders_more : (first : Extent) (i : ℕ) (x : FolderItem) → i < length folders → x ≡ get_or folders i x → (e with : Extent) → WithFolder d content names x e with → FoldersSoFar first i e → FoldersSoFar first (i + 1) with
  folders_more first i x inside is e with made so = record {
    known = one_more Known folders i x inside is (made.listed, (made.below, made.known)) so.known (i + 1) refl;
    covers = λ files covers. one_folder (Stores d) files folders i x inside is e made.below with made.made (so.covers files covers) made.known.covers;
  }

  pub folders_all : (first : Extent) (i : ℕ) (e : Extent) → length folders ≤ i → FoldersSoFar first i e → CoversFolders d content names folders first e
  folders_all first i e whole so = record {
    listed = λ x has. (so.known has.0 x (let less = has.1 in omega (arith, less, whole)) has.2).0;
    known = λ x has. (so.known has.0 x (let less = has.1 in omega (arith, less, whole)) has.2).1;
    covers = λ files covers. covers_fewer (EntryPaths (Stores d) files folders i) (EntryPaths (Stores d) files folders (length folders)) e (fewer files) (so.covers files covers);
  }
    where
      fewer : (files : List FileItem) (p : Path) → EntryPaths (Stores d) files folders (length folders) p → EntryPaths (Stores d) files folders i p
      fewer files p (inl file) = inl file
      fewer files p (inr (k, item, less, at, path)) = inr (k, item, omega (arith, less, whole), at, path)

module _ (d : Disk) (limits : Limits) (names : List ObjName) (sound : AreSound d limits names) where
  listed_has : (o : ObjName) → Contains names o → Has (Stores d) limits.content o
  listed_has o has = sound.sound o (sound.all.here o has)

  tree_has : (tree : List ℕ) (t : Entries) → HasEntries (Stores d) tree t → Has (Stores d) limits.content (name_of kind.DirTree tree)
  tree_has tree t has = sound.sound (name_of kind.DirTree tree) (record {
    sum = IsSum-named (name_of kind.DirTree tree) has.bytes has.stored.named;
    there = λ none. nothing_at d (name_of kind.DirTree tree) has.bytes none has.stored.there;
  })

  pub folder_known : (tree : List ℕ) (t : Entries) (first e : Extent) → HasEntries (Stores d) tree t → CoversFiles names t.files first → CoversFolders d limits.content names t.folders first e → IsKnown (Stores d) limits.content tree e
  folder_known tree t first e has files folders =
      known (Stores d) limits.content tree t has (λ f other. entries_one (Stores d) (stores_map d) tree f t other has) (tree_has tree t has) there (length t.folders) e (omega arith)
      (folders.covers t.files (all_files (Stores d) t.files t.folders (length t.files) first (omega arith) files.covers))
    where
      there : AreThere (Stores d) limits.content t
      there = record {
        files = λ i among. listed_has (name_of kind.File i.file) (files.listed i among);
        metas = λ i among. listed_has (name_of kind.DirMeta i.meta) (folders.listed i among);
        trees = folders.known;
      }

  pub folder_known_by : (tree : List ℕ) (t : Entries) (files : List FileItem) (folders : List FolderItem) (first e : Extent) → files ≡ t.files → folders ≡ t.folders → HasEntries (Stores d) tree t → CoversFiles names files first → CoversFolders d limits.content names folders first e → IsKnown (Stores d) limits.content tree e
  folder_known_by tree t files folders first e files_are folders_are has covers more =
      folder_known tree t first e has (subst (λ l. CoversFiles names l first) files_are covers) (subst (λ l. CoversFolders d limits.content names l first e) folders_are more)

  pub commit_whole : (commit : List ℕ) (c : CommitParts) (tree meta : List ℕ) (e : Extent) → HasCommit (Stores d) commit c → tree ≡ c.tree → meta ≡ c.meta → Contains names (name_of kind.DirMeta meta) → IsKnown (Stores d) limits.content tree e → e.names ≤ 64 → e.bytes ≤ 1024 → e.paths < limits.paths → Complete (Stores d) limits commit
  commit_whole commit c tree meta e has tree_is meta_is listed root deep long few =
      complete (Stores d) limits commit c e has (listed_has (name_of kind.DirMeta c.meta) (subst (λ m. Contains names (name_of kind.DirMeta m)) meta_is listed)) (subst (λ t. IsKnown (Stores d) limits.content t e) tree_is root) deep long (omega (arith, few))

-- a folder more is known
module _ (d : Disk) (content : ℕ) (m n : BTreeMap (List ℕ) Extent) (tree : List ℕ) (e : Extent) (updates : Updates (slice_cmp nat_cmp) m n tree (Some e)) where
  at_tree : get (slice_cmp nat_cmp) n tree ≡ Some e
  at_tree = updates.1

  apart : (other : List ℕ) → tree ≢ other → get (slice_cmp nat_cmp) n other ≡ get (slice_cmp nat_cmp) m other
  apart other differs = updates.2 other (no_ (is_eq (slice_cmp nat_cmp tree other)) refl)
    where
      no_ : (b : Bool) → is_eq (slice_cmp nat_cmp tree other) ≡ b → is_eq (slice_cmp nat_cmp tree other) ≡ false
      no_ false is = is
      no_ true is = absurd (differs ((same_name-Decides tree other).0 (texts_ties tree other ∙ is)))

  same_or_not : (other : List ℕ) → (tree ≡ other) ⊎ (tree ≢ other)
  same_or_not other = by (same_name tree other) (same_name-Decides tree other)
    where
      by : (b : Bool) → Decides b (tree ≡ other) → (tree ≡ other) ⊎ (tree ≢ other)
      by true is = inl (is.0 refl)
      by false is = inr (λ same. let f : false ≡ true = is.1 same in cc)

  pub known_more : AreKnown d content m → IsKnown (Stores d) content tree e → AreKnown d content n
  known_more are here = record {
    each = λ other x is. ⊎_elim
        (λ same. let s : Some e ≡ Some x = sym at_tree ∙ ap (get (slice_cmp nat_cmp) n) same ∙ is in let t : e ≡ x = cc in subst (λ y. IsKnown (Stores d) content other y) t (subst (λ z. IsKnown (Stores d) content z e) same here))
        (λ differs. are.each other x (sym (apart other differs) ∙ is))
        (same_or_not other);
  }

-- none is known at the beginning
pub known_none : (d : Disk) (content : ℕ) (m : BTreeMap (List ℕ) Extent) → m.entries ≡ [] → AreKnown d content m
known_none d content m none = record { each = λ tree e is. let n : None ≡ Some e = sym (ap (lookup (λ k. is_eq (slice_cmp nat_cmp tree k))) none) ∙ is in cc }
