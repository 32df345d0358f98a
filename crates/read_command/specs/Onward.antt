-- What was read of a tree goes on to be so where a store gets more objects.
use Rattle.std.proofs.Common.{◌≡◌, ◌⊎◌, inl, inr, ⊎_elim, ℕ, List, [], ◌∷◌, ◌++◌, append_assoc, append-nil, refl, sym, ◌∙◌, ap, subst, Contains, Ok}
use Rattle.ost_types.specs.declared.meta.Meta.{Meta}
use Rattle.ost_types.specs.declared.node.NodeName.{NodeName}
use Rattle.ost_types.specs.declared.node.NodeName.TheVariants as node
use Rattle.ost_types.specs.declared.object.Kind.TheVariants as kind
use Rattle.ost_types.specs.declared.object.ObjName.{ObjName}
use Rattle.ost_types.specs.Path.{Name, Path}
use Rattle.ost_types.specs.PathMap.{Nodes}
use Rattle.ost_forms.specs.DirTree.{Entries, ReadsDirTree}
use Rattle.ost_forms.specs.DirMeta.{ReadsDirMeta}
use Rattle.repo_model.specs.Objects.{Store, IsMap, Has}
use Rattle.repo_model.specs.Trees.{HasEntries, HasFolder, HasMeta, Names, NamesFile, Shows, name_of}
use Rattle.repo_model.proofs.Grown.{has_up, shows_up}
use Rattle.tree_read.specs.declared.item.Named.{Named}
use Rattle.tree_read.specs.declared.item.Named.TheVariants.{Folder, Attributes as AttributesOf, File}
use Rattle.tree_read.specs.declared.item.Item.{Item}
use Rattle.tree_read.specs.Items.{NamesFrom, ShowsFrom}
use Rattle.tree_read.specs.Order.{IsKept}
use Rattle.tree_read.specs.Walked as walk
use Rattle.tree_read.specs.Walked.{Walked}
use Rattle.tree_read.specs.Remembered.{Memory, Recalls}
use Rattle.tree_read.proofs.Recalling.{recalls_over}
use Rattle.read_command.specs.Ways.{Way}
use Rattle.read_command.specs.WayLaws.{Attributes, folder_shown, leaf_shown, names_way, shown_folder, shown_leaf, tree_way, way_more, way_names}

-- ---- what an item shows and names

module _ (S : Store) where
  leaf_from : (x : Named) (rest : Path) (sum : List ℕ) → ShowsFrom S x rest (node.Leaf sum) → NamesFrom S x rest (name_of kind.File sum)
  leaf_from (Folder tree meta) rest sum shown = shown_leaf S tree meta rest sum shown
  leaf_from (AttributesOf meta) rest sum shown = let n : node.Leaf sum ≡ node.Folder shown.1 = shown.3 in cc
  leaf_from (File s) rest sum shown = (shown.0, let same : sum ≡ s = (let l : node.Leaf sum ≡ node.Leaf s = shown.1 in cc) in ap (name_of kind.File) same)

  folder_from : (x : Named) (rest : Path) (a : Meta) → ShowsFrom S x rest (node.Folder a) → Attributes S a (NamesFrom S x rest)
  folder_from (Folder tree meta) rest a shown = shown_folder S tree meta rest a shown
  folder_from (AttributesOf meta) rest a shown =
      let same : a ≡ shown.1 = (let f : node.Folder a ≡ node.Folder shown.1 = shown.3 in cc) in
      record { sum = meta; named = (shown.0, refl); has = subst (HasMeta S meta) (sym same) shown.2 }
  folder_from (File s) rest a shown = let n : node.Folder a ≡ node.Leaf s = shown.1 in cc

  from_leaf : (x : Named) (rest : Path) (sum : List ℕ) → NamesFrom S x rest (name_of kind.File sum) → ShowsFrom S x rest (node.Leaf sum)
  from_leaf (Folder tree meta) rest sum named = leaf_shown S tree meta rest sum named
  from_leaf (AttributesOf meta) rest sum named = absurd (let n : kind.File ≡ kind.DirMeta = ap (λ o. o.kind) named.1 in cc)
  from_leaf (File s) rest sum named = (named.0, ap (λ o. node.Leaf o.csum) named.1)

  from_folder : (x : Named) (rest : Path) (k : List ℕ) (a : Meta) → NamesFrom S x rest (name_of kind.DirMeta k) → HasMeta S k a → ShowsFrom S x rest (node.Folder a)
  from_folder (Folder tree meta) rest k a named has = folder_shown S tree meta rest k a named has
  from_folder (AttributesOf meta) rest k a named has = (named.0, a, subst (λ z. HasMeta S z a) (ap (λ o. o.csum) named.1) has, refl)
  from_folder (File s) rest k a named has = absurd (let n : kind.DirMeta ≡ kind.File = ap (λ o. o.kind) named.1 in cc)

-- ---- from a store to one with more objects

module _ (S T : Store) (more : (name : ObjName) (b : List ℕ) → S name b → T name b) (map_of : IsMap T) (content : ℕ) where
  map_before : IsMap S
  map_before = record { one = λ name b c x y. map_of.one name b c (more name b x) (more name c y) }

  entries_up : (tree : List ℕ) (e : Entries) → HasEntries S tree e → HasEntries T tree e
  entries_up tree e has = record { bytes = has.bytes; stored = more (name_of kind.DirTree tree) has.bytes has.stored; reads = has.reads }

  pub names_up : (tree meta : List ℕ) (p : Path) (o : ObjName) → Names S tree meta p o → Names T tree meta p o
  unfolding Names
  names_up tree meta [] o named = named
  names_up tree meta (x ∷ p) o (e, has, inl file) = (e, entries_up tree e has, inl file)
  names_up tree meta (x ∷ p) o (e, has, inr (t, m, folder, named)) = (e, entries_up tree e has, inr (t, m, folder, names_up t m p o named))

  pub way_up : (tree meta : List ℕ) (p : Path) (t m : List ℕ) → Way S tree meta p t m → Way T tree meta p t m
  unfolding Way
  way_up tree meta [] t m w = w
  way_up tree meta (x ∷ p) t m (e, has, u, k, folder, w) = (e, entries_up tree e has, u, k, folder, way_up u k p t m w)

  entries_down : (tree : List ℕ) (e : Entries) → Has S content (name_of kind.DirTree tree) → HasEntries T tree e → HasEntries S tree e
  entries_down tree e here has =
      let same : has.bytes ≡ here.bytes = map_of.one (name_of kind.DirTree tree) has.bytes here.bytes has.stored (more (name_of kind.DirTree tree) here.bytes here.stored) in
      record { bytes = here.bytes; stored = here.stored; reads = subst (λ b. ReadsDirTree (λ x. x) b (Ok e)) same has.reads }

  meta_down : (sum : List ℕ) (a : Meta) → Has S content (name_of kind.DirMeta sum) → HasMeta T sum a → HasMeta S sum a
  meta_down sum a here has =
      let same : has.bytes ≡ here.bytes = map_of.one (name_of kind.DirMeta sum) has.bytes here.bytes has.stored (more (name_of kind.DirMeta sum) here.bytes here.stored) in
      record { bytes = here.bytes; stored = here.stored; reads = subst (λ b. ReadsDirMeta (λ x. x) b (Ok a)) same has.reads }

  kept_up : (p : Path) (o : ObjName) → IsKept S content p o → IsKept T content p o
  kept_up p o k = record {
    has = has_up S T more content o k.has;
    short = λ is far. k.short is (record {
      entries = far.entries;
      has = entries_down o.csum far.entries (subst (Has S content) (ap (λ x. name_of x o.csum) is) k.has) far.has;
      name = far.name;
      there = far.there;
      far = far.far;
    });
  }

  names_from_up : (x : Named) (rest : Path) (o : ObjName) → NamesFrom S x rest o → NamesFrom T x rest o
  names_from_up (Folder tree meta) rest o named = names_up tree meta rest o named
  names_from_up (AttributesOf meta) rest o named = named
  names_from_up (File sum) rest o named = named

  meta_up : (sum : List ℕ) (a : Meta) → HasMeta S sum a → HasMeta T sum a
  meta_up sum a has = record { bytes = has.bytes; stored = more (name_of kind.DirMeta sum) has.bytes has.stored; reads = has.reads }

  shows_from_up : (x : Named) (rest : Path) (n : NodeName) → ShowsFrom S x rest n → ShowsFrom T x rest n
  shows_from_up (Folder tree meta) rest n shown = shows_up S T more tree meta rest n shown
  shows_from_up (AttributesOf meta) rest n shown = (shown.0, shown.1, meta_up meta shown.1 shown.2, shown.3)
  shows_from_up (File sum) rest n shown = shown

  pub recalls_up : (tree meta : List ℕ) (m : Memory) → Recalls S content tree meta m → Recalls T content tree meta m
  recalls_up tree meta = recalls_over S T content tree meta (λ sum e n has. entries_up sum e has) (λ sum a n has. meta_up sum a has) (λ sum n has. has_up S T more content (name_of kind.File sum) has)
      (λ o n. (n.0, names_up tree meta n.0 o n.1))

  waits_up : (items : List Item) (p : Path) (o : ObjName) → walk.Waits S content items p o → walk.Waits T content items p o
  waits_up items p o w = record { item = w.item; among = w.among; names = record { rest = w.names.rest; below = w.names.below; names = names_from_up w.item.named w.names.rest o w.names.names } }

  left_up : (items : List Item) (p : Path) (n : NodeName) → walk.Left S content items p n → walk.Left T content items p n
  left_up items p n w = record { item = w.item; among = w.among; shows = record { rest = w.shows.rest; below = w.shows.below; shows = shows_from_up w.item.named w.shows.rest n w.shows.shows } }

  module _ (tree meta : List ℕ) (found : Nodes) (items : List Item) (w : Walked S content tree meta found items) where
    -- an item that names a folder's entries names all that is below, whatever comes
    tree_from : (x : Named) (r : Path) (t m : List ℕ) (y : Name) (rest : Path) (o : ObjName) → NamesFrom S x r (name_of kind.DirTree t) → Names T t m (y ∷ rest) o → NamesFrom T x (r ++ y ∷ rest) o
    unfolding Names
    tree_from (Folder tr mt) r t m y rest o named below =
        let to = tree_way S tr mt r t named in
        way_names T tr mt r t to.attributes (y ∷ rest) o (way_up tr mt r t to.attributes to.way) below
    tree_from (AttributesOf mt) r t m y rest o named below = absurd (let n : kind.DirTree ≡ kind.DirMeta = ap (λ o. o.kind) named.1 in cc)
    tree_from (File s) r t m y rest o named below = absurd (let n : kind.DirTree ≡ kind.File = ap (λ o. o.kind) named.1 in cc)

    onward : (front : Path) (t m : List ℕ) (x : Name) (q : Path) (o : ObjName) → Way S tree meta front t m → (e : Entries) → HasEntries S t e
        → NamesFile e x q o ⊎ ((u : List ℕ) × (k : List ℕ) × HasFolder e x u k × Names T u k q o)
        → ((u k : List ℕ) → HasFolder e x u k → Names T u k q o → Names S tree meta ((front ++ x ∷ []) ++ q) o ⊎ walk.Waits T content items ((front ++ x ∷ []) ++ q) o)
        → Names S tree meta (front ++ x ∷ q) o ⊎ walk.Waits T content items (front ++ x ∷ q) o
    unfolding Names
    onward front t m x q o way e has (inl file) below = inl (way_names S tree meta front t m (x ∷ q) o way (e, has, inl file))
    onward front t m x q o way e has (inr (u, k, folder, named)) below =
        subst (λ p. Names S tree meta p o ⊎ walk.Waits T content items p o) (append_assoc front (x ∷ []) q) (below u k folder named)

    wait_on : (front : Path) (t m : List ℕ) (x : Name) (rest : Path) (o : ObjName) → walk.Waits S content items front (name_of kind.DirTree t) → Names T t m (x ∷ rest) o → walk.Waits T content items (front ++ x ∷ rest) o
    wait_on front t m x rest o u named = record {
      item = u.item;
      among = u.among;
      names = record {
        rest = u.names.rest ++ x ∷ rest;
        below = ap (λ p. p ++ x ∷ rest) u.names.below ∙ append_assoc u.item.path u.names.rest (x ∷ rest);
        names = tree_from u.item.named u.names.rest t m x rest o u.names.names named;
      };
    }

    -- What is named now was named before, or waits.
    named_or : (front : Path) (t m : List ℕ) (rest : Path) (o : ObjName) → Way S tree meta front t m → Names T t m rest o → Names S tree meta (front ++ rest) o ⊎ walk.Waits T content items (front ++ rest) o
    unfolding Names
    named_or front t m [] o way named = inl (way_names S tree meta front t m [] o way named)
    named_or front t m (x ∷ rest) o way named = ⊎_elim
        (λ k. onward front t m x rest o way named.0 (entries_down t named.0 k.has named.1) named.2
        (λ u n folder below. named_or (front ++ x ∷ []) u n rest o (way_more S tree meta front t m named.0 x u n way (entries_down t named.0 k.has named.1) folder) below))
        (λ u. inr (wait_on front t m x rest o u named))
        (w.kept front (name_of kind.DirTree t) (subst (λ p. Names S tree meta p (name_of kind.DirTree t)) (append-nil front) (way_names S tree meta front t m [] (name_of kind.DirTree t) way (inl refl))))

    named_now : (p : Path) (o : ObjName) → Names T tree meta p o → Names S tree meta p o ⊎ walk.Waits T content items p o
    unfolding Way
    named_now p o named = named_or [] tree meta p o (refl, refl) named

    -- what an item names now, the root names
    item_named : (i : Item) (x : Named) (r : Path) (o : ObjName) → Contains items i → i.named ≡ x → NamesFrom T x r o → Names T tree meta (i.path ++ r) o
    unfolding Names
    item_named i (Folder tr mt) r o among is named =
        let at : (a : ObjName) → Names S tr mt [] a → Names S tree meta i.path a = λ a here. w.named i.path a (record { item = i; among = among; names = record { rest = []; below = sym (append-nil i.path); names = subst (λ x. NamesFrom S x [] a) (sym is) here } }) in
        let to = tree_way S tree meta i.path tr (at (name_of kind.DirTree tr) (inl refl)) in
        let attributes = names_way S map_before tree meta i.path tr to.attributes [] (name_of kind.DirMeta mt) to.way (subst (λ p. Names S tree meta p (name_of kind.DirMeta mt)) (sym (append-nil i.path)) (at (name_of kind.DirMeta mt) (inr refl))) in
        let same : mt ≡ to.attributes = ⊎_elim (λ e. absurd (let n : kind.DirMeta ≡ kind.DirTree = ap (λ o. o.kind) e in cc)) (λ e. ap (λ o. o.csum) e) attributes in
        way_names T tree meta i.path tr to.attributes r o (way_up tree meta i.path tr to.attributes to.way) (subst (λ z. Names T tr z r o) same named)
    item_named i (AttributesOf mt) r o among is named =
        names_up tree meta (i.path ++ r) o (w.named (i.path ++ r) o (record { item = i; among = among; names = record { rest = r; below = refl; names = subst (λ x. NamesFrom S x r o) (sym is) named } }))
    item_named i (File s) r o among is named =
        names_up tree meta (i.path ++ r) o (w.named (i.path ++ r) o (record { item = i; among = among; names = record { rest = r; below = refl; names = subst (λ x. NamesFrom S x r o) (sym is) named } }))

    named_up : (p : Path) (o : ObjName) → walk.Waits T content items p o → Names T tree meta p o
    named_up p o u = subst (λ q. Names T tree meta q o) (sym u.names.below) (item_named u.item u.item.named u.names.rest o u.among refl u.names.names)

    lies_up : (p : Path) (n : NodeName) → walk.Left T content items p n → Shows T tree meta p n
    lies_up p (node.Leaf sum) l =
        leaf_shown T tree meta p sum (named_up p (name_of kind.File sum) (record { item = l.item; among = l.among; names = record { rest = l.shows.rest; below = l.shows.below; names = leaf_from T l.item.named l.shows.rest sum l.shows.shows } }))
    lies_up p (node.Folder a) l =
        let from = folder_from T l.item.named l.shows.rest a l.shows.shows in
        folder_shown T tree meta p from.sum a (named_up p (name_of kind.DirMeta from.sum) (record { item = l.item; among = l.among; names = record { rest = l.shows.rest; below = l.shows.below; names = from.named } })) from.has

    wait_leaf : (p : Path) (sum : List ℕ) → walk.Waits T content items p (name_of kind.File sum) → walk.Left T content items p (node.Leaf sum)
    wait_leaf p sum u = record { item = u.item; among = u.among; shows = record { rest = u.names.rest; below = u.names.below; shows = from_leaf T u.item.named u.names.rest sum u.names.names } }

    wait_folder : (p : Path) (k : List ℕ) (a : Meta) → walk.Waits T content items p (name_of kind.DirMeta k) → HasMeta T k a → walk.Left T content items p (node.Folder a)
    wait_folder p k a u has = record { item = u.item; among = u.among; shows = record { rest = u.names.rest; below = u.names.below; shows = from_folder T u.item.named u.names.rest k a u.names.names has } }

    found_or : (p : Path) (n : NodeName) → Shows S tree meta p n → Contains found (p, n) ⊎ walk.Left T content items p n
    found_or p n shown = ⊎_elim (λ h. inl h) (λ l. inr (left_up items p n l)) (w.all p n shown)

    all_up : (p : Path) (n : NodeName) → Shows T tree meta p n → Contains found (p, n) ⊎ walk.Left T content items p n
    all_up p (node.Leaf sum) shown = ⊎_elim
        (λ was. found_or p (node.Leaf sum) (leaf_shown S tree meta p sum was))
        (λ u. inr (wait_leaf p sum u))
        (named_now p (name_of kind.File sum) (shown_leaf T tree meta p sum shown))
    all_up p (node.Folder a) shown =
        let of = shown_folder T tree meta p a shown in
        ⊎_elim
        (λ was. ⊎_elim
        (λ k. found_or p (node.Folder a) (folder_shown S tree meta p of.sum a was (meta_down of.sum a k.has of.has)))
        (λ u. inr (wait_folder p of.sum a (waits_up items p (name_of kind.DirMeta of.sum) u) of.has))
        (w.kept p (name_of kind.DirMeta of.sum) was))
        (λ u. inr (wait_folder p of.sum a u of.has))
        (named_now p (name_of kind.DirMeta of.sum) of.named)

    pub walked_up : Walked T content tree meta found items
    walked_up = record {
      all = all_up;
      sound = λ p n h. shows_up S T more tree meta p n (w.sound p n h);
      lies = lies_up;
      kept = λ p o named. ⊎_elim (λ was. ⊎_elim (λ k. inl (kept_up p o k)) (λ u. inr (waits_up items p o u)) (w.kept p o was)) (λ u. inr u) (named_now p o named);
      named = named_up;
      met = λ p o named. ⊎_elim
          (λ was. ⊎_elim (λ h. inl h) (λ m. inr (record { object = m.object; waits = waits_up items p m.object m.waits })) (w.met p o was))
          (λ u. inr (record { object = o; waits = u }))
          (named_now p o named);
    }
