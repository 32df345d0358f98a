-- A store that has the objects of a tree shows the tree, and all that a way down names is there.
use Rattle.std.proofs.Common.{◌≡◌, ◌≢◌, ◌⊎◌, inl, inr, ℕ, ◌≤◌, true, List, [], ◌∷◌, ◌++◌, length, Some, None, Ok, refl, sym, ◌∙◌, ap, subst, ⊎_elim, arith}
use Rattle.std.specs.Prelude.{◌↔◌, Contains, map}
use Rattle.std.proofs.lemmas.List.{append_assoc, append-nil, length-map, length-append}
use Rattle.std.proofs.lemmas.List.Elements.{All-contains}
use Rattle.sha2.specs.Sha256.{sha256}
use Rattle.ost_types.specs.declared.limits.Limits.{Limits}
use Rattle.ost_types.specs.declared.meta.Meta.{Meta}
use Rattle.ost_types.specs.declared.node.NodeName.{NodeName}
use Rattle.ost_types.specs.declared.node.NodeName.TheVariants as node
use Rattle.ost_types.specs.declared.object.ObjName.{ObjName}
use Rattle.ost_types.specs.declared.object.Kind.TheVariants as kinds
use Rattle.ost_types.specs.Path.{Name, Path, same_name, under, is_below, text_of}
use Rattle.ost_types.proofs.Paths.{same_name-Decides}
use Rattle.ost_forms.specs.declared.tree_item.BodySpec.{BodySpec}
use Rattle.ost_forms.specs.declared.tree_item.TreeItem.{TreeItem}
use Rattle.ost_forms.specs.Commit.{CommitParts}
use Rattle.ost_forms.specs.DirMeta.{dirmeta_form, ReadsDirMeta}
use Rattle.ost_forms.specs.DirTree.{Entries, ReadsDirTree, tree_form}
use Rattle.ost_forms.proofs.Laws.{one_tree}
use Rattle.ost_forms.proofs.Parted.{one_dirmeta, one_commit}
use Rattle.repo_model.specs.Objects.{Store, IsMap, Has}
use Rattle.repo_model.specs.Trees.{name_of, HasCommit, HasEntries, HasMeta, HasFolder, Shows, ShowsLeaf, Names, NamesFile, TreeShows}
use Rattle.repo_model.specs.Whole.{Complete}
use Rattle.tree_build.specs.Items.{body_of, paths_of, HasFolder as ItemFolder}
use Rattle.tree_build.specs.Objects.{Object, made, tree_bytes, meta_bytes, file_bytes, work, node_by, file_object, tree_object, meta_object}
use Rattle.tree_build.specs.Objects as objects
use Rattle.tree_build.specs.Commits.{ItemShows, HasTree, CommitsTree}
use Rattle.tree_build.proofs.FolderEntries.{file_from, file_into, folder_from, folder_into}
use Rattle.tree_build.proofs.Readings.{entries_in, file_reads, meta_reads, tree_reads, wide_of}
use Rattle.tree_build.proofs.Lists.{Among, contained_among, among_contained}
use Rattle.tree_build.proofs.Bads.{way_there}
use Rattle.tree_build.proofs.Suffixes.{Rises, rises_from}
use Rattle.tree_build.proofs.Works.{body_cases, objects_file, objects_folder}
use Rattle.tree_build.proofs.Places.{Stands, root_first, stands_after, stands_first, among_stands, stands_behind, work_among, one_at}

module _ (S : Store) (limits : Limits) (items : List TreeItem) (has : HasTree S limits items) where
  rises : Rises items
  rises = rises_from items has.ordered.ascending

  object_there : (i : TreeItem) (behind : List TreeItem) (o : Object) → Stands items i behind → Among o (objects.objects_of (made behind) i) → S o.name o.bytes
  object_there i behind o s a = has.objects o (among_contained o (work items) (work_among items i behind o s a))

  contains : (i : TreeItem) (behind : List TreeItem) → Stands items i behind → Contains items i
  contains i behind s = among_contained i items (among_stands items i behind s)

  reads_tree : (i : TreeItem) (behind : List TreeItem) → Stands items i behind → i.body ≡ None → ReadsDirTree (λ (x : Entries). x) (tree_bytes (made behind) i.path) (Ok (entries_in i behind))
  reads_tree = tree_reads limits items has.ordered has.typed has.makeable

  reads_meta : (i : TreeItem) (behind : List TreeItem) → Stands items i behind → i.body ≡ None → ReadsDirMeta (λ (x : Meta). x) (meta_bytes i.meta) (Ok i.meta)
  reads_meta = meta_reads limits items has.ordered has.typed has.makeable

  tree_there : (i : TreeItem) (behind : List TreeItem) → Stands items i behind → i.body ≡ None → S (name_of kinds.DirTree (sha256 (tree_bytes (made behind) i.path))) (tree_bytes (made behind) i.path)
  tree_there i behind s folder = object_there i behind (tree_object (tree_bytes (made behind) i.path)) s (subst (Among _) (sym (objects_folder (made behind) i folder)) (inl refl))

  meta_there : (i : TreeItem) (behind : List TreeItem) → Stands items i behind → i.body ≡ None → S (name_of kinds.DirMeta (sha256 (meta_bytes i.meta))) (meta_bytes i.meta)
  meta_there i behind s folder = object_there i behind (meta_object (meta_bytes i.meta)) s (subst (Among _) (sym (objects_folder (made behind) i folder)) (inr (inl refl)))

  has_entries : (i : TreeItem) (behind : List TreeItem) → Stands items i behind → i.body ≡ None → HasEntries S (sha256 (tree_bytes (made behind) i.path)) (entries_in i behind)
  has_entries i behind s folder = record { bytes = tree_bytes (made behind) i.path; stored = tree_there i behind s folder; reads = reads_tree i behind s folder }

  has_meta : (i : TreeItem) (behind : List TreeItem) → Stands items i behind → i.body ≡ None → HasMeta S (sha256 (meta_bytes i.meta)) i.meta
  has_meta i behind s folder = record { bytes = meta_bytes i.meta; stored = meta_there i behind s folder; reads = reads_meta i behind s folder }

  has_tree_object : (i : TreeItem) (behind : List TreeItem) → Stands items i behind → i.body ≡ None → Has S limits.content (name_of kinds.DirTree (sha256 (tree_bytes (made behind) i.path)))
  has_tree_object i behind s folder = record { bytes = tree_bytes (made behind) i.path; stored = tree_there i behind s folder; formed = ∣ (entries_in i behind, reads_tree i behind s folder) ∣₁ }

  has_meta_object : (i : TreeItem) (behind : List TreeItem) → Stands items i behind → i.body ≡ None → Has S limits.content (name_of kinds.DirMeta (sha256 (meta_bytes i.meta)))
  has_meta_object i behind s folder = record { bytes = meta_bytes i.meta; stored = meta_there i behind s folder; formed = ∣ (i.meta, reads_meta i behind s folder) ∣₁ }

  has_file_object : (i : TreeItem) (behind : List TreeItem) (body : BodySpec) → Stands items i behind → i.body ≡ Some body → Has S limits.content (name_of kinds.File (sha256 (file_bytes i.meta body)))
  has_file_object i behind body s is = record {
    bytes = file_bytes i.meta body;
    stored = object_there i behind (file_object (file_bytes i.meta body)) s (subst (Among _) (sym (objects_file (made behind) i body is)) (inl refl));
    formed = ∣ (record { meta = i.meta; body = body_of body }, file_reads limits items has.ordered has.typed has.makeable i behind body s is) ∣₁;
  }

  -- ---- and as nothing else

  entries_same : (i : TreeItem) (behind : List TreeItem) (e : Entries) → Stands items i behind → i.body ≡ None → HasEntries S (sha256 (tree_bytes (made behind) i.path)) e → e ≡ entries_in i behind
  entries_same i behind e s folder h =
      let bytes : h.bytes ≡ tree_bytes (made behind) i.path = has.one.one _ h.bytes (tree_bytes (made behind) i.path) h.stored (tree_there i behind s folder) in
      let form : tree_form e ≡ Some (tree_bytes (made behind) i.path) = h.reads.0.form ∙ ap Some bytes in
      one_tree e (entries_in i behind) _ form (reads_tree i behind s folder).0.form

  meta_same : (i : TreeItem) (behind : List TreeItem) (m : Meta) → Stands items i behind → i.body ≡ None → HasMeta S (sha256 (meta_bytes i.meta)) m → m ≡ i.meta
  meta_same i behind m s folder h =
      let bytes : h.bytes ≡ meta_bytes i.meta = has.one.one _ h.bytes (meta_bytes i.meta) h.stored (meta_there i behind s folder) in
      let form : dirmeta_form m ≡ Some (meta_bytes i.meta) = h.reads.0.form ∙ ap Some bytes in
      let n = h.reads.0 in
      let w = wide_of limits items has.ordered has.typed has.makeable i behind s in
      one_dirmeta m i.meta _ (record { uid = n.uid; gid = n.gid; mode = n.mode }) (record { uid = w.uid; gid = w.gid; mode = w.mode }) form (reads_meta i behind s folder).0.form

  -- ---- the tree that is shown

  show_at : (p q : Path) (n : NodeName) → p ≡ q → ItemShows items p n → ItemShows items q n
  show_at p q n e shown = subst (λ r. ItemShows items r n) e shown

  leaf_up : (q : Path) (n : NodeName) (i : TreeItem) (behind : List TreeItem) (x : Name) (e : Entries) → Stands items i behind → e ≡ entries_in i behind → ShowsLeaf e x q n → ItemShows items (i.path ++ x ∷ q) n
  leaf_up (y ∷ q) n i behind x e s same leaf = absurd leaf
  leaf_up [] n i behind x e s same leaf =
      let h = leaf.1 in
      let w = file_from behind i.path h.item (subst (λ (e : Entries). Among h.item e.files) same (contained_among h.item e.files h.among)) in
      let stands = stands_behind items i behind w.item w.behind s w.stands in
      record {
        item = w.item;
        among = contains w.item w.behind stands;
        at = w.at ∙ ap (under i.path) h.name;
        node = leaf.2 ∙ ap node.Leaf (sym h.file ∙ w.sum_is) ∙ sym (ap (node_by w.item.meta) w.is);
      }

  deeper : (f p : Path) (x : Name) (q : Path) → p ≡ under f x → p ++ q ≡ f ++ x ∷ q
  deeper f p x q e = ap (λ r. r ++ q) e ∙ append_assoc f (x ∷ []) q

  pub tree_up : (p : Path) (n : NodeName) (i : TreeItem) (behind : List TreeItem) → Stands items i behind → i.body ≡ None
      → Shows S (sha256 (tree_bytes (made behind) i.path)) (sha256 (meta_bytes i.meta)) p n → ItemShows items (i.path ++ p) n
  unfolding Shows
  tree_up [] n i behind s folder shown =
      record { item = i; among = contains i behind s; at = sym (append-nil i.path); node = shown.2 ∙ ap node.Folder (meta_same i behind shown.0 s folder shown.1) ∙ sym (ap (node_by i.meta) folder) }
  tree_up (x ∷ q) n i behind s folder shown =
      let e = entries_same i behind shown.0 s folder shown.1 in
      ⊎_elim (λ leaf. leaf_up q n i behind x shown.0 s e leaf)
      (λ f.
      let h = f.2 in
      let w = folder_from behind i.path h.item (subst (λ (e : Entries). Among h.item e.folders) e (contained_among h.item shown.0.folders h.among)) in
      let stands = stands_behind items i behind w.item w.behind s w.stands in
      let below = subst (λ m. Shows S (sha256 (tree_bytes (made w.behind) w.item.path)) m q n) (sym h.meta_is ∙ w.meta_is) (subst (λ t. Shows S t f.1 q n) (sym h.tree_is ∙ w.tree_is) f.3) in
      show_at _ _ n (deeper i.path w.item.path x q (w.at ∙ ap (under i.path) h.name)) (tree_up q n w.item w.behind stands w.is below))
      shown.2

  node_same : (i j : TreeItem) (n : NodeName) → i ≡ j → n ≡ node_by i.meta i.body → n ≡ node_by j.meta j.body
  node_same i j n e h = h ∙ ap (λ (k : TreeItem). node_by k.meta k.body) e

  -- by a folder of this name
  by_folder : (i : TreeItem) (behind : List TreeItem) (x : Name) (q : Path) (n : NodeName) (k : TreeItem) (last : List TreeItem) → Stands behind k last → k.path ≡ under i.path x → k.body ≡ None
      → Shows S (sha256 (tree_bytes (made last) k.path)) (sha256 (meta_bytes k.meta)) q n
      → ShowsLeaf (entries_in i behind) x q n ⊎ ((t : List ℕ) × (m : List ℕ) × HasFolder (entries_in i behind) x t m × Shows S t m q n)
  by_folder i behind x q n k last stands at folder shown =
      let t = sha256 (tree_bytes (made last) k.path) in
      let m = sha256 (meta_bytes k.meta) in
      let a = folder_into behind i.path x t m (record { item = k; behind = last; stands = stands; at = at; is = folder; tree_is = refl; meta_is = refl }) in
      inr (t, m, record { item = record { name = x; tree = t; meta = m }; among = among_contained _ _ a; name = refl; tree_is = refl; meta_is = refl }, shown)

  by_file : (i : TreeItem) (behind : List TreeItem) (x : Name) (n : NodeName) (k : TreeItem) (last : List TreeItem) (body : BodySpec) → Stands behind k last → k.path ≡ under i.path x → k.body ≡ Some body
      → n ≡ node_by k.meta k.body → ShowsLeaf (entries_in i behind) x [] n
  by_file i behind x n k last body stands at is shown =
      let sum = sha256 (file_bytes k.meta body) in
      let a = file_into behind i.path x sum (record { item = k; behind = last; stands = stands; at = at; body = body; is = is; sum_is = refl }) in
      (sum, record { item = record { name = x; file = sum }; among = among_contained _ _ a; name = refl; file = refl }, shown ∙ ap (node_by k.meta) is)

  longer : (p : Path) (y : Name) (r : Path) → p ≢ p ++ y ∷ r
  longer p y r e = omega (arith, ap length e, length-append p (y ∷ r))

  below_front : (p r : Path) → is_below p (p ++ r) ≡ true
  unfolding is_below
  below_front [] r = refl
  below_front (a ∷ p) r = let t : same_name a a ≡ true = (same_name-Decides a a).1 refl in rw (t, below_front p r) refl

  -- the folder of the first name on the way
  first_folder : (f : Path) (x y : Name) (r : Path) (n : NodeName) → ItemShows items (f ++ x ∷ y ∷ r) n → ItemFolder items (under f x)
  first_folder f x y r n shown =
      let at : shown.item.path ≡ under f x ++ y ∷ r = shown.at ∙ sym (append_assoc f (x ∷ []) (y ∷ r)) in
      way_there items has.ordered.ascending has.tree shown.item shown.among (under f x)
      (subst (λ p. is_below (under f x) p ≡ true) (sym at) (below_front (under f x) (y ∷ r)))
      (λ e. longer (under f x) y r (e ∙ at))

  pub tree_down : (p : Path) (n : NodeName) (i : TreeItem) (behind : List TreeItem) → Stands items i behind → i.body ≡ None
      → ItemShows items (i.path ++ p) n → Shows S (sha256 (tree_bytes (made behind) i.path)) (sha256 (meta_bytes i.meta)) p n
  unfolding Shows
  tree_down [] n i behind s folder shown =
      let same : shown.item ≡ i = one_at items shown.item i rises (contained_among shown.item items shown.among) (among_stands items i behind s) (shown.at ∙ append-nil i.path) in
      (i.meta, has_meta i behind s folder, node_same shown.item i n same shown.node ∙ ap (node_by i.meta) folder)
  tree_down (x ∷ []) n i behind s folder shown =
      let j = shown.item in
      let w = stands_after items rises i behind j x s (contained_among j items shown.among) shown.at in
      let stands = stands_behind items i behind j w.0 s w.1 in (
        entries_in i behind,
        has_entries i behind s folder,
        ⊎_elim
            (λ (none : j.body ≡ None). by_folder i behind x [] n j w.0 w.1 shown.at none (j.meta, has_meta j w.0 stands none, shown.node ∙ ap (node_by j.meta) none))
            (λ (b : (body : BodySpec) × (j.body ≡ Some body)). inl (by_file i behind x n j w.0 b.0 w.1 shown.at b.1 shown.node))
            (body_cases j.body),
      )
  tree_down (x ∷ y ∷ r) n i behind s folder shown =
      let k = first_folder i.path x y r n shown in
      let w = stands_after items rises i behind k.item x s (contained_among k.item items k.among) k.at in
      let stands = stands_behind items i behind k.item w.0 s w.1 in (
        entries_in i behind,
        has_entries i behind s folder,
        by_folder i behind x (y ∷ r) n k.item w.0 w.1 k.at k.folder
            (tree_down (y ∷ r) n k.item w.0 stands k.folder (show_at _ _ n (sym (deeper i.path k.item.path x (y ∷ r) k.at)) shown)),
      )

  file_have : (q : Path) (o : ObjName) (i : TreeItem) (behind : List TreeItem) (x : Name) (e : Entries) → Stands items i behind → e ≡ entries_in i behind → NamesFile e x q o → Has S limits.content o
  file_have (y ∷ q) o i behind x e s same names = absurd names
  file_have [] o i behind x e s same names =
      let h = names.1 in
      let w = file_from behind i.path h.item (subst (λ (e : Entries). Among h.item e.files) same (contained_among h.item e.files h.among)) in
      let stands = stands_behind items i behind w.item w.behind s w.stands in
      subst (Has S limits.content) (sym (names.2 ∙ ap (name_of kinds.File) (sym h.file ∙ w.sum_is))) (has_file_object w.item w.behind w.body stands w.is)

  pub names_have : (p : Path) (o : ObjName) (i : TreeItem) (behind : List TreeItem) → Stands items i behind → i.body ≡ None
      → Names S (sha256 (tree_bytes (made behind) i.path)) (sha256 (meta_bytes i.meta)) p o → Has S limits.content o
  unfolding Names
  names_have [] o i behind s folder names =
      ⊎_elim
      (λ e. subst (Has S limits.content) (sym e) (has_tree_object i behind s folder))
      (λ e. subst (Has S limits.content) (sym e) (has_meta_object i behind s folder))
      names
  names_have (x ∷ q) o i behind s folder names =
      let e = entries_same i behind names.0 s folder names.1 in
      ⊎_elim (λ file. file_have q o i behind x names.0 s e file)
      (λ f.
      let h = f.2 in
      let w = folder_from behind i.path h.item (subst (λ (e : Entries). Among h.item e.folders) e (contained_among h.item names.0.folders h.among)) in
      let stands = stands_behind items i behind w.item w.behind s w.stands in
      names_have q o w.item w.behind stands w.is
      (subst (λ m. Names S (sha256 (tree_bytes (made w.behind) w.item.path)) m q o) (sym h.meta_is ∙ w.meta_is) (subst (λ t. Names S t f.1 q o) (sym h.tree_is ∙ w.tree_is) f.3)))
      names.2

-- ---- the whole commit

path_contained : (items : List TreeItem) (p : Path) (i : TreeItem) → Contains items i → i.path ≡ p → Contains (paths_of items) p
path_contained items p i c e = among_contained p (paths_of items) (at items (contained_among i items c))
  where
    at : (items : List TreeItem) → Among i items → Among p (paths_of items)
    at [] a = absurd a
    at (j ∷ items) (inl same) = inl (ap (λ (k : TreeItem). k.path) same ∙ e)
    at (j ∷ items) (inr a) = inr (at items a)

commit_same : (S : Store) (commit : List ℕ) (c d : CommitParts) → IsMap S → HasCommit S commit c → HasCommit S commit d → c ≡ d
commit_same S commit c d map g h =
    let same : g.bytes ≡ h.bytes = map.one _ g.bytes h.bytes g.stored h.stored in
    one_commit c d h.bytes g.reads.0.time h.reads.0.time (g.reads.0.form ∙ ap Some same) h.reads.0.form

module _ (S : Store) (limits : Limits) (i : TreeItem) (rest : List TreeItem) (commit : List ℕ) (has : HasTree S limits (i ∷ rest)) (made_of_it : CommitsTree S (i ∷ rest) commit) where
  root : (i.path ≡ []) × (i.body ≡ None)
  root = root_first i rest (rises_from (i ∷ rest) has.ordered.ascending) has.tree.root

  abbrev c : CommitParts
  c = made_of_it.parts

  first : Stands (i ∷ rest) i rest
  first = stands_first i rest

  from_root : (p : Path) → i.path ++ p ≡ p
  from_root p = ap (λ r. r ++ p) root.0

  shows_up : (p : Path) (n : NodeName) → Shows S c.tree c.meta p n → ItemShows (i ∷ rest) p n
  shows_up p n shown =
      subst (λ q. ItemShows (i ∷ rest) q n) (from_root p)
      (tree_up S limits (i ∷ rest) has p n i rest first root.1 (subst (λ m. Shows S (sha256 (tree_bytes (made rest) i.path)) m p n) made_of_it.meta (subst (λ t. Shows S t c.meta p n) made_of_it.tree shown)))

  shows_down : (p : Path) (n : NodeName) → ItemShows (i ∷ rest) p n → Shows S c.tree c.meta p n
  shows_down p n shown =
      subst (λ t. Shows S t c.meta p n) (sym made_of_it.tree)
      (subst (λ m. Shows S (sha256 (tree_bytes (made rest) i.path)) m p n) (sym made_of_it.meta) (tree_down S limits (i ∷ rest) has p n i rest first root.1 (subst (λ q. ItemShows (i ∷ rest) q n) (sym (from_root p)) shown)))

  names_there : (p : Path) (o : ObjName) → Names S c.tree c.meta p o → Has S limits.content o
  names_there p o names =
      names_have S limits (i ∷ rest) has p o i rest first root.1
      (subst (λ m. Names S (sha256 (tree_bytes (made rest) i.path)) m p o) made_of_it.meta (subst (λ t. Names S t c.meta p o) made_of_it.tree names))

  tree_up_commit : (p : Path) (n : NodeName) → TreeShows S commit p n → ItemShows (i ∷ rest) p n
  tree_up_commit p n shown =
      let same : shown.0 ≡ c = commit_same S commit shown.0 c has.one shown.1 made_of_it.here in
      shows_up p n (subst (λ (c : CommitParts). Shows S c.tree c.meta p n) same shown.2)

  tree_down_commit : (p : Path) (n : NodeName) → ItemShows (i ∷ rest) p n → TreeShows S commit p n
  tree_down_commit p n shown = (c, made_of_it.here, shows_down p n shown)

  complete_first : Complete S limits commit
  complete_first = record {
    parts = c;
    here = made_of_it.here;
    objects = names_there;
    few = record {
      paths = paths_of (i ∷ rest);
      few = omega (arith, has.makeable.few, length-map (i ∷ rest) (λ (j : TreeItem). j.path));
      all = λ p n shown. let w = shows_up p n shown in path_contained (i ∷ rest) p w.item w.among w.at;
    };
    short = λ p n shown.
        let w = shows_up p n shown in (
          subst (λ q. length q ≤ 64) w.at (All-contains (λ (j : TreeItem). length j.path ≤ 64) (i ∷ rest) w.item has.ordered.few w.among),
          subst (λ q. length (text_of q) ≤ 1024) w.at (All-contains (λ (j : TreeItem). length (text_of j.path) ≤ 1024) (i ∷ rest) w.item has.ordered.short w.among),
        );
  }

pub complete : (S : Store) (limits : Limits) (items : List TreeItem) (commit : List ℕ) → HasTree S limits items → CommitsTree S items commit → Complete S limits commit
complete S limits [] commit has made_of_it = absurd (none_there has.tree.root)
  where
    none_there : ItemFolder [] [] → ⊥
    none_there h = omega (arith, h.among.1)
complete S limits (i ∷ rest) commit has made_of_it = complete_first S limits i rest commit has made_of_it

pub shows_same : (S : Store) (limits : Limits) (items : List TreeItem) (commit : List ℕ) → HasTree S limits items → CommitsTree S items commit → (p : Path) (n : NodeName) → TreeShows S commit p n ↔ ItemShows items p n
shows_same S limits [] commit has made_of_it p n = absurd (none_there has.tree.root)
  where
    none_there : ItemFolder [] [] → ⊥
    none_there h = omega (arith, h.among.1)
shows_same S limits (i ∷ rest) commit has made_of_it p n = (tree_up_commit S limits i rest commit has made_of_it p n, tree_down_commit S limits i rest commit has made_of_it p n)
