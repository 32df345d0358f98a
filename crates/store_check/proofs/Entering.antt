-- What a folder shows below it and names, from what its entries do.
use Rattle.std.proofs.Common.{◌≡◌, ◌⊎◌, inl, inr, ℕ, ◌+◌, ◌<◌, ◌≤◌, List, [], ◌∷◌, length, get_or, Contains, refl, sym, ◌∙◌, ap, subst, arith}
use Rattle.std.proofs.lemmas.List.{get_or_default}
use Rattle.std.proofs.lemmas.List.Elements.{Contains-append_right}
use Rattle.ost_types.specs.declared.limits.Limits.{Limits}
use Rattle.ost_types.specs.declared.node.NodeName.{NodeName}
use Rattle.ost_types.specs.declared.object.Kind.TheVariants as kind
use Rattle.ost_types.specs.declared.object.ObjName.{ObjName}
use Rattle.ost_types.specs.Path.{Name, Path, text_of}
use Rattle.ost_forms.specs.declared.entry.FileItem.{FileItem}
use Rattle.ost_forms.specs.declared.entry.FolderItem.{FolderItem}
use Rattle.ost_forms.specs.Commit.{CommitParts}
use Rattle.ost_forms.specs.DirTree.{Entries}
use Rattle.repo_model.specs.Objects.{Store, Has}
use Rattle.repo_model.specs.Trees.{HasCommit, HasEntries, HasFolder, NamesFile, ShowsLeaf, Shows, Names, name_of}
use Rattle.repo_model.specs.Whole.{Complete}
use Rattle.store_check.specs.declared.extent.Extent.{Extent}
use Rattle.store_check.specs.Extents.{At, Covers, EntryPaths, FilePaths, IsKnown, IsWith, NamesBelow, ShowsBelow}
use Rattle.store_check.proofs.Bounds.{Nothing, covers_fewer, covers_nothing, covers_with}

up_to : (k i : ℕ) → k < i + 1 → (k < i) ⊎ (k ≡ i)
up_to k i less = grind (arith, less)

same_at : {X : Type 0} (xs : List X) (k i : ℕ) (x y : X) → i < length xs → x ≡ get_or xs i x → get_or xs k y ≡ y → k ≡ i → y ≡ x
same_at xs k i x y inside is at same = sym at ∙ ap (λ n. get_or xs n y) same ∙ sym (get_or_default xs i x y inside) ∙ sym is

pub no_files : (files : List FileItem) (e : Extent) → Covers (FilePaths files 0) e
no_files files e = covers_nothing (FilePaths files 0) e (λ p at. let less = at.2 in omega (arith, less))

module _ (files : List FileItem) (i : ℕ) (x : FileItem) (inside : i < length files) (is : x ≡ get_or files i x) where
  file_split : (p : Path) → FilePaths files (i + 1) p → FilePaths files i p ⊎ At x.name Nothing p
  file_split p (k, item, less, at, path) = by (up_to k i less)
    where
      by : (k < i) ⊎ (k ≡ i) → FilePaths files i p ⊎ At x.name Nothing p
      by (inl earlier) = inl (k, item, earlier, at, path)
      by (inr same) = inr ([], path ∙ ap (λ (y : FileItem). y.name ∷ []) (same_at files k i x item inside is at same), inl refl)

  pub one_file : (e below with : Extent) → IsWith e x.name below with → Covers (FilePaths files i) e → Covers (FilePaths files (i + 1)) with
  one_file e below with made covers = covers_with (FilePaths files i) Nothing (FilePaths files (i + 1)) e below with x.name made covers (covers_nothing Nothing below (λ p so. so)) file_split

module _ (S : Store) (files : List FileItem) (folders : List FolderItem) where
  pub all_files : (i : ℕ) (e : Extent) → length files ≤ i → Covers (FilePaths files i) e → Covers (EntryPaths S files folders 0) e
  all_files i e whole covers = covers_fewer (FilePaths files i) (EntryPaths S files folders 0) e fewer covers
    where
      fewer : (p : Path) → EntryPaths S files folders 0 p → FilePaths files i p
      fewer p (inl (k, item, less, at, path)) = (k, item, omega (arith, less, whole), at, path)
      fewer p (inr (k, item, less, at, path)) = absurd (omega (arith, less))

  module _ (i : ℕ) (x : FolderItem) (inside : i < length folders) (is : x ≡ get_or folders i x) where
    folder_split : (p : Path) → EntryPaths S files folders (i + 1) p → EntryPaths S files folders i p ⊎ At x.name (ShowsBelow S x.tree) p
    folder_split p (inl file) = inl (inl file)
    folder_split p (inr (k, item, less, at, path)) = by (up_to k i less)
      where
        by : (k < i) ⊎ (k ≡ i) → EntryPaths S files folders i p ⊎ At x.name (ShowsBelow S x.tree) p
        by (inl earlier) = inl (inr (k, item, earlier, at, path))
        by (inr same) = inr (subst (λ (y : FolderItem). At y.name (ShowsBelow S y.tree) p) (same_at folders k i x item inside is at same) path)

    pub one_folder : (e below with : Extent) → IsWith e x.name below with → Covers (EntryPaths S files folders i) e → Covers (ShowsBelow S x.tree) below → Covers (EntryPaths S files folders (i + 1)) with
    one_folder e below with made covers inner = covers_with (EntryPaths S files folders i) (ShowsBelow S x.tree) (EntryPaths S files folders (i + 1)) e below with x.name made covers inner folder_split

-- the objects that the entries name are there
pub record AreThere (S : Store) (content : ℕ) (t : Entries) : Type 0 where
  pub files : (i : FileItem) → Contains t.files i → Has S content (name_of kind.File i.file)
  pub metas : (i : FolderItem) → Contains t.folders i → Has S content (name_of kind.DirMeta i.meta)
  pub trees : (i : FolderItem) → Contains t.folders i → (e : Extent) × IsKnown S content i.tree e

module _ (S : Store) (content : ℕ) (tree : List ℕ) (t : Entries) (has : HasEntries S tree t) (one : (f : Entries) → HasEntries S tree f → f ≡ t) where
  shows_entries : (i : ℕ) → length t.folders ≤ i → (p : Path) → ShowsBelow S tree p → EntryPaths S t.files t.folders i p
  unfolding Shows
  shows_entries i whole [] shown = absurd shown
  shows_entries i whole (x ∷ rest) (meta, n, (f, here, what)) = by rest (subst (λ (g : Entries). ShowsLeaf g x rest n ⊎ ((u : List ℕ) × (m : List ℕ) × HasFolder g x u m × Shows S u m rest n)) (one f here) what)
    where
      below : (u m : List ℕ) (rest : Path) → Shows S u m rest n → (rest ≡ []) ⊎ ShowsBelow S u rest
      below u m [] shown = inl refl
      below u m (y ∷ r) shown = inr (m, n, shown)

      by : (rest : Path) → ShowsLeaf t x rest n ⊎ ((u : List ℕ) × (m : List ℕ) × HasFolder t x u m × Shows S u m rest n) → EntryPaths S t.files t.folders i (x ∷ rest)
      by [] (inl (sum, file, is)) = inl (file.among.0, file.item, file.among.1, file.among.2, ap (λ (z : Name). z ∷ []) (sym file.name))
      by (y ∷ r) (inl leaf) = absurd leaf
      by rest (inr (u, m, folder, shown)) = inr (
        folder.among.0,
        folder.item,
        (let less = folder.among.1 in omega (arith, less, whole)),
        folder.among.2,
        (rest, ap (λ (z : Name). z ∷ rest) (sym folder.name), subst (λ v. (rest ≡ []) ⊎ ShowsBelow S v rest) (sym folder.tree_is) (below u m rest shown)),
      )

  names_there : AreThere S content t → (p : Path) (o : ObjName) → NamesBelow S tree p o → Has S content o
  unfolding Names
  names_there are [] o named = absurd named
  names_there are (x ∷ rest) o (meta, (f, here, what)) = by rest (subst (λ (g : Entries). NamesFile g x rest o ⊎ ((u : List ℕ) × (m : List ℕ) × HasFolder g x u m × Names S u m rest o)) (one f here) what)
    where
      inside : (u m : List ℕ) (i : FolderItem) → Contains t.folders i → i.tree ≡ u → i.meta ≡ m → (rest : Path) → Names S u m rest o → Has S content o
      inside u m i among tree_is meta_is [] (inl is) = subst (Has S content) (sym (is ∙ ap (name_of kind.DirTree) (sym tree_is))) (are.trees i among).1.here
      inside u m i among tree_is meta_is [] (inr is) = subst (Has S content) (sym (is ∙ ap (name_of kind.DirMeta) (sym meta_is))) (are.metas i among)
      inside u m i among tree_is meta_is (y ∷ r) names = (are.trees i among).1.objects (y ∷ r) o (subst (λ v. NamesBelow S v (y ∷ r) o) (sym tree_is) (m, names))

      by : (rest : Path) → NamesFile t x rest o ⊎ ((u : List ℕ) × (m : List ℕ) × HasFolder t x u m × Names S u m rest o) → Has S content o
      by [] (inl (sum, file, is)) = subst (Has S content) (sym (is ∙ ap (name_of kind.File) (sym file.file))) (are.files file.item file.among)
      by (y ∷ r) (inl named) = absurd named
      by rest (inr (u, m, folder, names)) = inside u m folder.item folder.among folder.tree_is folder.meta_is rest names

  pub known : Has S content (name_of kind.DirTree tree) → AreThere S content t → (i : ℕ) (e : Extent) → length t.folders ≤ i → Covers (EntryPaths S t.files t.folders i) e → IsKnown S content tree e
  known here are i e whole covers = record {
    here = here;
    objects = names_there are;
    covers = covers_fewer (EntryPaths S t.files t.folders i) (ShowsBelow S tree) e (shows_entries i whole) covers;
  }

-- a commit whose root is known, within the limits
module _ (S : Store) (limits : Limits) (commit : List ℕ) (c : CommitParts) (e : Extent) (has : HasCommit S commit c) (meta : Has S limits.content (name_of kind.DirMeta c.meta)) (root : IsKnown S limits.content c.tree e) where
  objects : (p : Path) (o : ObjName) → Names S c.tree c.meta p o → Has S limits.content o
  unfolding Names
  objects [] o (inl is) = subst (Has S limits.content) (sym is) root.here
  objects [] o (inr is) = subst (Has S limits.content) (sym is) meta
  objects (x ∷ rest) o names = root.objects (x ∷ rest) o (c.meta, names)

  shown_among : (p : Path) (n : NodeName) → Shows S c.tree c.meta p n → Contains ([] ∷ root.covers.paths) p
  shown_among [] n shown = (0, omega arith, refl)
  shown_among (x ∷ rest) n shown = Contains-append_right ([] ∷ []) root.covers.paths (x ∷ rest) (root.covers.all (x ∷ rest) (c.meta, n, shown))

  module _ (deep : e.names ≤ 64) (long : e.bytes ≤ 1024) where
    short : (p : Path) (n : NodeName) → Shows S c.tree c.meta p n → (length p ≤ 64) × (length (text_of p) ≤ 1024)
    short [] n shown = (omega arith, omega arith)
    short (x ∷ rest) n shown =
        let deeper = root.covers.deep (x ∷ rest) (c.meta, n, shown) in
        let longer = root.covers.long (x ∷ rest) (c.meta, n, shown) in
        (omega (arith, deep, deeper), omega (arith, long, longer))

    pub complete : 1 + e.paths ≤ limits.paths → Complete S limits commit
    complete few = record {
      parts = c;
      here = has;
      objects = objects;
      few = record { paths = [] ∷ root.covers.paths; few = (let some = root.covers.few in omega (arith, few, some)); all = shown_among };
      short = short;
    }
