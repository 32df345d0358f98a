-- What the task knows stays true from step to step, and is what a step tells.
use Rattle.std.proofs.Common.{◌≡◌, ◌⊎◌, inl, inr, ◌<◌, ◌≤◌, ℕ, true, false, List, [], ◌∷◌, ◌++◌, Contains, length, map, Ok, refl, sym, ◌∙◌, ap, subst, append-nil, append_assoc, arith, length-append}
use Rattle.std.proofs.lemmas.List.Elements.{Contains-append_cases, Contains-append_left, Contains-append_right, Contains-push}
use Rattle.std.specs.List.{AllByRecursion}
use Rattle.std.specs.List.Sorted.{IsStrictlySortedBy}
use Rattle.ost_types.specs.declared.meta.Meta.{Meta}
use Rattle.ost_types.specs.declared.node.NodeName.{NodeName}
use Rattle.ost_types.specs.declared.node.NodeName.TheVariants as node
use Rattle.ost_types.specs.declared.object.Kind.TheVariants as kind
use Rattle.ost_types.specs.declared.object.ObjName.{ObjName}
use Rattle.ost_types.specs.Path.{Path, Name, under}
use Rattle.ost_types.specs.PathMap.{Nodes, IsAscending, paths_of}
use Rattle.ost_forms.specs.Commit.{CommitParts}
use Rattle.ost_forms.specs.declared.dirtree.DirTree.{DirTree}
use Rattle.ost_forms.specs.DirTree.{Entries}
use Rattle.ost_forms.specs.declared.entry.FileItem.{FileItem}
use Rattle.ost_forms.specs.declared.entry.FolderItem.{FolderItem}
use Rattle.fs_trait.specs.View.{Disk}
use Rattle.repo_model.specs.Objects.{Store, Stores, IsMap, Has}
use Rattle.repo_model.proofs.Stored.{stores_map}
use Rattle.repo_model.specs.Trees.{HasCommit, HasEntries, HasMeta, Names, Shows, name_of}
use Rattle.repo_model.specs.Whole.{Complete}
use Rattle.tree_read.specs.declared.item.Named.{Named}
use Rattle.tree_read.specs.declared.item.Named.TheVariants.{Folder, Attributes, File}
use Rattle.tree_read.specs.declared.item.Item.{Item}
use Rattle.tree_read.specs.Children.{Child, IsChild, item_of}
use Rattle.tree_read.specs.Line.{InLine}
use Rattle.tree_read.specs.Looks.{IsAbsent, IsDamaged}
use Rattle.tree_read.specs.Order.{IsShort, HasName, NamesFar, IsKept, IsOwner, StopsAt, AbsentIn, DamagedIn}
use Rattle.tree_read.specs.Reading.{Reading, Knows, Lists, IsFar, begun_at, weight, weight_of, left_of}
use Rattle.tree_read.specs.Remembered.{GainsFile, GainsMeta, GainsTree, IsNamed, Memory, Recalls, entries_in}
use Rattle.tree_read.specs.Whole.{IsTree, ReadsTree}
use Rattle.tree_read.specs.Walked.{Walked}
use Rattle.tree_read.proofs.Lines.{may_push, line_taken, line_opened, line_begins, both, back, paths_push}
use Rattle.tree_read.proofs.Merged.{only}
use Rattle.tree_read.proofs.Recalling.{recalls_file, recalls_meta, recalls_nothing, recalls_tree}
use Rattle.tree_read.proofs.Stops.{first_of, each_of, next_named, stops, too_many}
use Rattle.tree_read.proofs.Walk.{Replaces, walked_on, walked_all, kept_all, walked_none, file_replaces, attributes_replaces, folder_replaces, mapped, unmapped, entries_one, meta_one, commit_of_map}

-- ---- the next item

abbrev pub at_item : Path → Named → List ℕ → Item
at_item path named owner = record { path = path; named = named; owner = owner }

abbrev pub after_take : Reading → List Item → Path → NodeName → Memory → Reading
after_take t items path n m = record { commit = t.commit; limits = t.limits; begun = t.begun; pending = items; found = t.found ++ (path, n) ∷ []; remembered = m }

abbrev pub after_open : Reading → List Item → List Item → Memory → Reading
after_open t items below m = record { commit = t.commit; limits = t.limits; begun = t.begun; pending = items ++ below; found = t.found; remembered = m }

paths_length : (found : Nodes) → length (paths_of found) ≡ length found
paths_length [] = refl
paths_length (x ∷ found) = omega (arith, paths_length found)

owner_child : (S : Store) (content : ℕ) (tree meta : List ℕ) (at : Path) (y : Name) (o : ObjName) → Names S tree meta at o → o.kind ≡ kind.DirTree → IsOwner S content tree meta (under at y) o
owner_child S content tree meta [] y o names is = ([], y, refl, names, is)
owner_child S content tree meta (x ∷ at) y o names is = (x ∷ at, y, refl, names, is)

module _ (S : Store) (one_each : IsMap S) (d : Disk) (t : Reading) (items : List Item) (next : Item) (cut : t.pending ≡ items ++ next ∷ []) (k : Knows S t) where
  walked : Walked S t.limits.content k.parts.tree k.parts.meta t.found (items ++ next ∷ [])
  walked = subst (Walked S t.limits.content k.parts.tree k.parts.meta t.found) cut k.walked

  line : InLine t.found (items ++ next ∷ [])
  line = subst (InLine t.found) cut k.line

  next_short : IsShort next.path
  next_short = (back (λ i. IsShort i.path) items (next ∷ []) line.short).0

  in_pending : (i : Item) → Contains (items ++ next ∷ []) i → Contains t.pending i
  in_pending i h = subst (λ p. Contains p i) (sym cut) h

  next_owned : IsOwner S t.limits.content k.parts.tree k.parts.meta next.path (name_of kind.DirTree next.owner)
  next_owned = k.owned next (in_pending next (Contains-append_right items (next ∷ []) next (Contains-push [] next)))

  next_object : (o : ObjName) → o ≡ first_of next.named → IsNamed S k.parts.tree k.parts.meta o
  next_object o is = (next.path, subst (Names S k.parts.tree k.parts.meta next.path) (sym is) (next_named S t.limits.content k.parts.tree k.parts.meta t.found items next walked line))

  -- reading stops at it
  pub stops_here : (Wrong : Path → Type 0) → length t.found < t.limits.paths → Wrong next.path → StopsAt S t.limits k.parts.tree k.parts.meta (first_of next.named) Wrong
  stops_here Wrong room wrong = stops S t.limits k.parts.tree k.parts.meta t.found items next walked line k.ascending Wrong (omega (arith, room, paths_length t.found)) wrong

  pub absent_here : (o : ObjName) → o ≡ first_of next.named → length t.found < t.limits.paths → IsAbsent d o → AbsentIn S d t.limits k.parts.tree k.parts.meta o
  absent_here o is room absent = subst (AbsentIn S d t.limits k.parts.tree k.parts.meta) (sym is) (stops_here (λ at. IsAbsent d (first_of next.named)) room (subst (IsAbsent d) is absent))

  damaged_at : length t.found < t.limits.paths → IsDamaged d t.limits.content (first_of next.named) → DamagedIn S d t.limits k.parts.tree k.parts.meta (first_of next.named)
  damaged_at room damaged =
      inl (stops_here (λ at. IsDamaged d t.limits.content (first_of next.named) ⊎ (((first_of next.named).kind ≡ kind.DirTree) × NamesFar S (first_of next.named).csum at)) room (inl damaged))

  pub damaged_here : (o : ObjName) → o ≡ first_of next.named → length t.found < t.limits.paths → IsDamaged d t.limits.content o → DamagedIn S d t.limits k.parts.tree k.parts.meta o
  damaged_here o is room damaged = subst (DamagedIn S d t.limits k.parts.tree k.parts.meta) (sym is) (damaged_at room (subst (IsDamaged d t.limits.content) is damaged))

  pub full_here : t.limits.paths ≤ length t.found → DamagedIn S d t.limits k.parts.tree k.parts.meta (name_of kind.DirTree next.owner)
  full_here full =
      inr (too_many S t.limits k.parts.tree k.parts.meta t.found items next walked line k.ascending (name_of kind.DirTree next.owner) next_owned (omega (arith, full, k.few, paths_length t.found)))

  -- its path was found
  module _ (n : NodeName) (m : Memory) (room : length t.found < t.limits.paths) (r : Replaces S t.limits.content next ((next.path, n) ∷ []) []) (recalls : Recalls S t.limits.content k.parts.tree k.parts.meta m) where
    takes_on : Knows S (after_take t items next.path n m)
    takes_on = record {
      parts = k.parts;
      has = k.has;
      walked = subst (Walked S t.limits.content k.parts.tree k.parts.meta (t.found ++ (next.path, n) ∷ [])) (append-nil items)
          (walked_on S t.limits.content k.parts.tree k.parts.meta t.found ((next.path, n) ∷ []) items [] next walked r);
      owned = λ i h. k.owned i (in_pending i (Contains-append_left items (next ∷ []) i h));
      line = line_taken t.found items next n line;
      ascending = subst IsAscending (sym (paths_push t.found next.path n)) (may_push t.found items next k.ascending line);
      short = subst (AllByRecursion IsShort) (sym (paths_push t.found next.path n)) (both IsShort (paths_of t.found) (next.path ∷ []) k.short (next_short, tt));
      few = omega (arith, room, length-append t.found ((next.path, n) ∷ []));
      recalls = recalls;
    }

  pub takes_file : (sum : List ℕ) (new : Memory) → next.named ≡ File sum → length t.found < t.limits.paths → Has S t.limits.content (name_of kind.File sum) → GainsFile t.remembered new sum → Knows S (after_take t items next.path (node.Leaf sum) new)
  takes_file sum new is room has gains =
      takes_on (node.Leaf sum) new room (file_replaces S t.limits.content next sum is has)
      (recalls_file S t.limits.content k.parts.tree k.parts.meta t.remembered new k.recalls sum gains has (next_object (name_of kind.File sum) (sym (ap first_of is))))

  pub takes_folder : (sum : List ℕ) (m : Meta) (new : Memory) → next.named ≡ Attributes sum → length t.found < t.limits.paths → HasMeta S sum m → GainsMeta t.remembered new sum m → Knows S (after_take t items next.path (node.Folder m) new)
  takes_folder sum m new is room has gains =
      takes_on (node.Folder m) new room
      (attributes_replaces S t.limits.content next sum m is has (λ x other. meta_one S one_each sum x m other has) (record { bytes = has.bytes; stored = has.stored; formed = ∣ (m, has.reads) ∣₁ }))
      (recalls_meta S t.limits.content k.parts.tree k.parts.meta t.remembered new k.recalls sum m gains has (next_object (name_of kind.DirMeta sum) (sym (ap first_of is))))

  -- its entries were read
  module _ (tree meta : List ℕ) (is : next.named ≡ Folder tree meta) (e : Entries) (has : HasEntries S tree e) where
    one : (x : Entries) → HasEntries S tree x → x ≡ e
    one x other = entries_one S one_each tree x e other has

    file_there : (i : FileItem) → Contains e.files i → HasName e i.name
    file_there i among = inl (mapped (λ (x : FileItem). x.name) e.files i among)

    folder_there : (i : FolderItem) → Contains e.folders i → HasName e i.name
    folder_there i among = inr (mapped (λ (x : FolderItem). x.name) e.folders i among)

    child_there : (c : Child) → IsChild e c → HasName e c.name
    child_there c (inl (i, among, same)) = subst (λ (x : Child). HasName e x.name) (sym same) (file_there i among)
    child_there c (inr (i, among, same)) = subst (λ (x : Child). HasName e x.name) (sym same) (folder_there i among)

    pub far_here : IsFar next.path e → length t.found < t.limits.paths → DamagedIn S d t.limits k.parts.tree k.parts.meta (name_of kind.DirTree tree)
    far_here f room =
        let first : first_of next.named ≡ name_of kind.DirTree tree = ap first_of is in
        subst (DamagedIn S d t.limits k.parts.tree k.parts.meta) first
        (inl (stops_here (λ at. IsDamaged d t.limits.content (first_of next.named) ⊎ (((first_of next.named).kind ≡ kind.DirTree) × NamesFar S (first_of next.named).csum at)) room
        (inr (
          ap (λ (o : ObjName). o.kind) first,
          subst (λ (o : ObjName). NamesFar S o.csum next.path) (sym first) (record { entries = e; has = has; name = f.child.name; there = child_there f.child f.is; far = f.far }),
        ))))

    module _ (owner : List ℕ) (owned : next.owner ≡ owner) (below : List Item) (l : Lists next.path owner tree meta e below) (m : Memory) (recalls : Recalls S t.limits.content k.parts.tree k.parts.meta m) where
      itself : Item
      itself = at_item next.path (Attributes meta) owner

      child_short : (c : Child) → IsChild e c → IsShort (under next.path c.name)
      child_short c is_child = each_of (λ i. IsShort i.path) (map (item_of next.path tree) l.children) (item_of next.path tree c) l.short (mapped (item_of next.path tree) l.children c (l.are.all c is_child))

      named_child : (x : Name) → HasName e x → (c : Child) × IsChild e c × (x ≡ c.name)
      named_child x (inl h) = let u = unmapped (λ (i : FileItem). i.name) e.files x h in (record { name = u.0.name; named = File u.0.file }, inl (u.0, u.1, refl), u.2)
      named_child x (inr h) = let u = unmapped (λ (i : FolderItem). i.name) e.folders x h in (record { name = u.0.name; named = Folder u.0.tree u.0.meta }, inr (u.0, u.1, refl), u.2)

      not_far : NamesFar S tree next.path → ⊥
      not_far f =
          let there = subst (λ x. HasName x f.name) (one f.entries f.has) f.there in
          let c = named_child f.name there in
          f.far (subst (λ x. IsShort (under next.path x)) (sym c.2) (child_short c.0 c.1))

      tree_kept : IsKept S t.limits.content next.path (name_of kind.DirTree tree)
      tree_kept = record { has = record { bytes = has.bytes; stored = has.stored; formed = ∣ (e, has.reads) ∣₁ }; short = λ same far. not_far far }

      new : List Item
      new = map (item_of next.path tree) l.children ++ itself ∷ []

      tree_named : Names S k.parts.tree k.parts.meta next.path (name_of kind.DirTree tree)
      tree_named = subst (Names S k.parts.tree k.parts.meta next.path) (ap first_of is) (next_named S t.limits.content k.parts.tree k.parts.meta t.found items next walked line)

      abbrev Owned : Item → Type 0
      Owned i = IsOwner S t.limits.content k.parts.tree k.parts.meta i.path (name_of kind.DirTree i.owner)

      new_owned : (i : Item) → Contains (map (item_of next.path tree) l.children) i ⊎ Contains (itself ∷ []) i → Owned i
      unfolding itself
      new_owned i (inl h) =
          let u = unmapped (item_of next.path tree) l.children i h in
          subst Owned (sym u.2) (owner_child S t.limits.content k.parts.tree k.parts.meta next.path u.0.name (name_of kind.DirTree tree) tree_named refl)
      new_owned i (inr h) = subst Owned (only itself i h) (subst (λ o. IsOwner S t.limits.content k.parts.tree k.parts.meta next.path (name_of kind.DirTree o)) owned next_owned)

      all_owned : (i : Item) → Contains items i ⊎ Contains new i → Owned i
      unfolding new
      all_owned i (inl h) = k.owned i (in_pending i (Contains-append_left items (next ∷ []) i h))
      all_owned i (inr h) = new_owned i (Contains-append_cases (map (item_of next.path tree) l.children) (itself ∷ []) i h)

      opened_new : Knows S (after_open t items new m)
      unfolding new itself
      opened_new = record {
        parts = k.parts;
        has = k.has;
        walked = subst (λ f. Walked S t.limits.content k.parts.tree k.parts.meta f (items ++ new)) (append-nil t.found)
            (walked_on S t.limits.content k.parts.tree k.parts.meta t.found [] items new next walked
            (folder_replaces S t.limits.content next tree meta e l.children is has one tree_kept l.are itself refl refl));
        owned = λ i h. all_owned i (Contains-append_cases items new i h);
        line = line_opened t.found items next tree meta l.children itself is refl refl l.are.descending line l.short;
        ascending = k.ascending;
        short = k.short;
        few = k.few;
        recalls = recalls;
      }

      opened_known : Knows S (after_open t items below m)
      unfolding new itself
      opened_known = subst (λ b. Knows S (after_open t items b m)) (sym l.items_are) opened_new

  pub opened_on : (tree meta : List ℕ) → next.named ≡ Folder tree meta → (x : DirTree) → HasEntries S tree (entries_in x) → (owner : List ℕ) → next.owner ≡ owner → (below : List Item) → Lists next.path owner tree meta (entries_in x) below
      → (m : Memory) → GainsTree t.remembered m tree x → Knows S (after_open t items below m)
  opened_on tree meta is x has owner owned below l m gains =
      opened_known tree meta is (entries_in x) has owner owned below l m
      (recalls_tree S t.limits.content k.parts.tree k.parts.meta t.remembered m k.recalls tree x gains has (next_object (name_of kind.DirTree tree) (sym (ap first_of is))))

-- the line alone, without a disk
pub line_open : (found : Nodes) (items : List Item) (next : Item) (tree meta owner : List ℕ) (e : Entries) (below : List Item) → next.named ≡ Folder tree meta → InLine found (items ++ next ∷ [])
    → Lists next.path owner tree meta e below → InLine found (items ++ below)
line_open found items next tree meta owner e below is line l =
    subst (λ b. InLine found (items ++ b)) (sym l.items_are)
    (line_opened found items next tree meta l.children (at_item next.path (Attributes meta) owner) is refl refl l.are.descending line l.short)

-- ---- the beginning and the end

none_ascend : IsAscending []
unfolding IsStrictlySortedBy
none_ascend = tt

pub begun_on : (S : Store) (t : Reading) (parts : CommitParts) (tree meta : List ℕ) → HasCommit S t.commit parts → tree ≡ parts.tree → meta ≡ parts.meta → Knows S (begun_at t tree meta)
begun_on S t parts tree meta has is_tree is_meta =
    let root : Item = at_item [] (Folder tree meta) tree in
    record {
      parts = parts;
      has = has;
      walked = subst (λ x. Walked S t.limits.content x parts.meta [] (root ∷ [])) is_tree
          (subst (λ x. Walked S t.limits.content tree x [] (root ∷ [])) is_meta (walked_none S t.limits.content tree meta root refl refl));
      owned = λ i h. subst (λ (i : Item). IsOwner S t.limits.content parts.tree parts.meta i.path (name_of kind.DirTree i.owner)) (only root i h) (ap (name_of kind.DirTree) is_tree);
      line = line_begins root refl;
      ascending = none_ascend;
      short = tt;
      few = omega arith;
      recalls = recalls_nothing S t.limits.content parts.tree parts.meta;
    }

pub whole_in : (S : Store) → IsMap S → (t : Reading) → Knows S t → t.pending ≡ [] → Complete S t.limits t.commit × IsTree S t.commit t.found
whole_in S one_each t k none =
    let w = subst (Walked S t.limits.content k.parts.tree k.parts.meta t.found) none k.walked in
    let all = walked_all S t.limits.content k.parts.tree k.parts.meta t.found w in
    let path_in : (p : Path) (n : NodeName) → Contains t.found (p, n) → Contains (paths_of t.found) p = λ p n h. mapped (λ (e : Path × NodeName). e.0) t.found (p, n) h in (
      record {
        parts = k.parts;
        here = k.has;
        objects = λ p o names. (kept_all S t.limits.content k.parts.tree k.parts.meta t.found w p o names).has;
        few = record { paths = paths_of t.found; few = omega (arith, k.few, paths_length t.found); all = λ p n s. path_in p n (all p n s) };
        short = λ p n s. each_of IsShort (paths_of t.found) p k.short (path_in p n (all p n s));
      },
      λ p n. (
        λ h. (k.parts, k.has, w.sound p n h),
        λ s. all p n (subst (λ (c : CommitParts). Shows S c.tree c.meta p n) (commit_of_map S one_each t.commit s.0 k.parts s.1 k.has) s.2),
      ),
    )

pub whole : (d : Disk) (t : Reading) → Knows (Stores d) t → t.pending ≡ [] → ReadsTree d t.limits t.commit (Ok t.found)
whole d t k none = whole_in (Stores d) (stores_map d) t k none

-- ---- fewer steps are left

pub weight_last : (items : List Item) (next : Item) → weight (items ++ next ∷ []) ≡ weight_of next.named
weight_last [] next = refl
weight_last (x ∷ []) next = refl
weight_last (x ∷ y ∷ items) next = weight_last (y ∷ items) next

pub weight_other : (x : Named) → ((meta : List ℕ) → x ≡ Attributes meta → ⊥) → weight_of x ≡ 1
weight_other (Folder tree meta) other = refl
weight_other (Attributes meta) other = absurd (other meta refl)
weight_other (File sum) other = refl

weighs_little : (x : Named) → weight_of x ≤ 1
weighs_little (Folder tree meta) = omega arith
weighs_little (Attributes meta) = omega arith
weighs_little (File sum) = omega arith

weight_little : (items : List Item) → weight items ≤ 1
weight_little [] = omega arith
weight_little (x ∷ []) = weighs_little x.named
weight_little (x ∷ y ∷ items) = weight_little (y ∷ items)

pub falls_taken : (t : Reading) (items : List Item) (path : Path) (n : NodeName) (m : Memory) → t.begun ≡ true → length t.found < t.limits.paths → left_of (after_take t items path n m) < left_of t
falls_taken t items path n m begun room =
    let more = length-append t.found ((path, n) ∷ []) in
    let little = weight_little items in
    rw begun (omega (arith, more, little, room))

pub falls_opened : (t : Reading) (items below : List Item) (path : Path) (tree meta owner : List ℕ) (e : Entries) (m : Memory) → t.begun ≡ true → t.pending ≡ items ++ at_item path (Folder tree meta) owner ∷ []
    → Lists path owner tree meta e below → left_of (after_open t items below m) < left_of t
falls_opened t items below path tree meta owner e m begun cut l =
    let was : weight t.pending ≡ 1 = ap weight cut ∙ weight_last items (at_item path (Folder tree meta) owner) in
    let first = map (item_of path tree) l.children in
    let is : weight (items ++ below) ≡ 0 =
    ap (λ b. weight (items ++ b)) l.items_are ∙ ap weight (sym (append_assoc items first (at_item path (Attributes meta) owner ∷ []))) ∙ weight_last (items ++ first) (at_item path (Attributes meta) owner) in
    rw begun (omega (arith, was, is))

pub falls_begun : (t : Reading) (tree meta : List ℕ) → t.begun ≡ false → left_of (begun_at t tree meta) < left_of t
falls_begun t tree meta begun = rw begun (omega arith)
