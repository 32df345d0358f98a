-- What is known of a tree that is read half way holds in a part of the store that has its commit and all that is named from there.
use Rattle.std.proofs.Common.{◌≡◌, ◌⊎◌, inl, inr, ⊎_elim, ℕ, List, [], ◌∷◌, ◌++◌, append-nil, refl, sym, subst, Contains}
use Rattle.ost_types.specs.declared.node.NodeName.{NodeName}
use Rattle.ost_types.specs.declared.object.Kind.TheVariants as kind
use Rattle.ost_types.specs.declared.object.ObjName.{ObjName}
use Rattle.ost_types.specs.Path.{Path}
use Rattle.ost_types.specs.PathMap.{Nodes}
use Rattle.ost_forms.specs.Commit.{CommitParts}
use Rattle.ost_forms.specs.DirTree.{Entries}
use Rattle.repo_model.specs.Objects.{Store, Has}
use Rattle.repo_model.specs.Trees.{HasCommit, HasEntries, HasFolder, HasMeta, Names, NamesFile, Shows, name_of}
use Rattle.repo_model.proofs.Grown.{shows_up}
use Rattle.tree_read.specs.declared.item.Named.{Named}
use Rattle.tree_read.specs.declared.item.Named.TheVariants.{Folder, Attributes, File}
use Rattle.tree_read.specs.declared.item.Item.{Item}
use Rattle.tree_read.specs.Items.{NamesFrom, ShowsFrom}
use Rattle.tree_read.specs.Order.{IsKept, IsOwner, NamesFar}
use Rattle.tree_read.specs.Reading.{Knows, Reading}
use Rattle.tree_read.specs.Remembered.{Memory, Recalls}
use Rattle.tree_read.specs.Walked as walk
use Rattle.tree_read.specs.Walked.{Walked}
use Rattle.tree_read.proofs.Recalling.{recalls_over}
use Rattle.reach.specs.Reach.{Is, ObjNames, Reach, Refers, onward, start}
use Rattle.reach.specs.Removed.{Part}
use Rattle.reach.proofs.Parts.{entries_part, folder_part, names_part, names_up, shows_part}

module _ (S : Store) (keep : ObjNames) (closed : (o next : ObjName) → keep o → Refers S o next → keep next) where
  abbrev P : Store
  P = Part S keep

  less : (name : ObjName) (b : List ℕ) → P name b → S name b
  less name b has = has.0

  -- ---- objects that are kept

  named_kept : (tree meta : List ℕ) → keep (name_of kind.DirTree tree) → keep (name_of kind.DirMeta meta) → (p : Path) (o : ObjName) → Names S tree meta p o → keep o
  unfolding Names
  named_kept tree meta kt km [] o names = ⊎_elim (λ e. subst keep (sym e) kt) (λ e. subst keep (sym e) km) names
  named_kept tree meta kt km (x ∷ rest) o (e, has, inl file) = file_kept rest file
    where
      file_kept : (q : Path) → NamesFile e x q o → keep o
      file_kept [] file = closed (name_of kind.DirTree tree) o kt (inr (e, refl, has, inl (x, file.0, file.1, file.2)))
      file_kept (y ∷ q) file = absurd file
  named_kept tree meta kt km (x ∷ rest) o (e, has, inr (t, m, folder, names)) =
      let k = folder_part S keep closed tree x e t m kt has folder in
      named_kept t m k.0 k.1 rest o names

  has_part : (content : ℕ) (o : ObjName) → keep o → Has S content o → Has P content o
  has_part content o k has = record { bytes = has.bytes; stored = (has.stored, k); formed = has.formed }

  kept_part : (content : ℕ) (p : Path) (o : ObjName) → keep o → IsKept S content p o → IsKept P content p o
  kept_part content p o k is = record {
    has = has_part content o k is.has;
    short = λ tree far. is.short tree (record {
      entries = far.entries;
      has = record { bytes = far.has.bytes; stored = less _ far.has.bytes far.has.stored; reads = far.has.reads };
      name = far.name;
      there = far.there;
      far = far.far;
    });
  }

  -- ---- what an item names and shows

  -- the objects that an item is named by are kept
  abbrev AreKept : Named → Type 0
  AreKept (Folder tree meta) = keep (name_of kind.DirTree tree) × keep (name_of kind.DirMeta meta)
  AreKept (Attributes meta) = keep (name_of kind.DirMeta meta)
  AreKept (File sum) = keep (name_of kind.File sum)

  names_from_up : (x : Named) (rest : Path) (o : ObjName) → NamesFrom P x rest o → NamesFrom S x rest o
  names_from_up (Folder tree meta) rest o names = names_up P S less tree meta rest o names
  names_from_up (Attributes meta) rest o names = names
  names_from_up (File sum) rest o names = names

  names_from_part : (x : Named) → AreKept x → (rest : Path) (o : ObjName) → NamesFrom S x rest o → NamesFrom P x rest o
  names_from_part (Folder tree meta) k rest o names = names_part S keep closed tree meta rest o k.0 k.1 names
  names_from_part (Attributes meta) k rest o names = names
  names_from_part (File sum) k rest o names = names

  shows_from_up : (x : Named) (rest : Path) (n : NodeName) → ShowsFrom P x rest n → ShowsFrom S x rest n
  shows_from_up (Folder tree meta) rest n shown = shows_up P S less tree meta rest n shown
  shows_from_up (Attributes meta) rest n shown = (shown.0, shown.1, record { bytes = shown.2.bytes; stored = less _ shown.2.bytes shown.2.stored; reads = shown.2.reads }, shown.3)
  shows_from_up (File sum) rest n shown = shown

  shows_from_part : (x : Named) → AreKept x → (rest : Path) (n : NodeName) → ShowsFrom S x rest n → ShowsFrom P x rest n
  shows_from_part (Folder tree meta) k rest n shown = shows_part S keep closed tree meta rest n k.0 k.1 shown
  shows_from_part (Attributes meta) k rest n shown = (shown.0, shown.1, record { bytes = shown.2.bytes; stored = (shown.2.stored, k); reads = shown.2.reads }, shown.3)
  shows_from_part (File sum) k rest n shown = shown

  -- ---- a tree in the middle of being read

  module _ (content : ℕ) (tree meta : List ℕ) (kt : keep (name_of kind.DirTree tree)) (km : keep (name_of kind.DirMeta meta)) where
    root_kept : (p : Path) (o : ObjName) → Names S tree meta p o → keep o
    root_kept = named_kept tree meta kt km

    owner_part : (p : Path) (o : ObjName) → IsOwner S content tree meta p o → IsOwner P content tree meta p o
    owner_part [] o owner = owner
    owner_part (x ∷ rest) o owner = (owner.0, owner.1, owner.2, names_part S keep closed tree meta owner.0 o kt km owner.3, owner.4)

    recalls_part : (m : Memory) → Recalls S content tree meta m → Recalls P content tree meta m
    recalls_part = recalls_over S P content tree meta
        (λ sum e n has. record { bytes = has.bytes; stored = (has.stored, root_kept n.0 (name_of kind.DirTree sum) n.1); reads = has.reads })
        (λ sum a n has. record { bytes = has.bytes; stored = (has.stored, root_kept n.0 (name_of kind.DirMeta sum) n.1); reads = has.reads })
        (λ sum n has. has_part content (name_of kind.File sum) (root_kept n.0 (name_of kind.File sum) n.1) has)
        (λ o n. (n.0, names_part S keep closed tree meta n.0 o kt km n.1))

    module _ (found : Nodes) (items : List Item) (w : Walked S content tree meta found items) where
      at_itself : (i : Item) (o : ObjName) → Contains items i → NamesFrom S i.named [] o → keep o
      at_itself i o among names = root_kept i.path o (w.named i.path o (record { item = i; among = among; names = record { rest = []; below = sym (append-nil i.path); names = names } }))

      item_kept : (i : Item) (x : Named) → Contains items i → i.named ≡ x → AreKept x
      unfolding Names
      item_kept i (Folder t m) among is = (
        at_itself i (name_of kind.DirTree t) among (subst (λ y. NamesFrom S y [] (name_of kind.DirTree t)) (sym is) (inl refl)),
        at_itself i (name_of kind.DirMeta m) among (subst (λ y. NamesFrom S y [] (name_of kind.DirMeta m)) (sym is) (inr refl)),
      )
      item_kept i (Attributes m) among is = at_itself i (name_of kind.DirMeta m) among (subst (λ y. NamesFrom S y [] (name_of kind.DirMeta m)) (sym is) (refl, refl))
      item_kept i (File s) among is = at_itself i (name_of kind.File s) among (subst (λ y. NamesFrom S y [] (name_of kind.File s)) (sym is) (refl, refl))

      waits_up : (p : Path) (o : ObjName) → walk.Waits P content items p o → walk.Waits S content items p o
      waits_up p o u = record { item = u.item; among = u.among; names = record { rest = u.names.rest; below = u.names.below; names = names_from_up u.item.named u.names.rest o u.names.names } }

      waits_part : (p : Path) (o : ObjName) → walk.Waits S content items p o → walk.Waits P content items p o
      waits_part p o u = record {
        item = u.item;
        among = u.among;
        names = record { rest = u.names.rest; below = u.names.below; names = names_from_part u.item.named (item_kept u.item u.item.named u.among refl) u.names.rest o u.names.names };
      }

      left_up : (p : Path) (n : NodeName) → walk.Left P content items p n → walk.Left S content items p n
      left_up p n l = record { item = l.item; among = l.among; shows = record { rest = l.shows.rest; below = l.shows.below; shows = shows_from_up l.item.named l.shows.rest n l.shows.shows } }

      left_part : (p : Path) (n : NodeName) → walk.Left S content items p n → walk.Left P content items p n
      left_part p n l = record {
        item = l.item;
        among = l.among;
        shows = record { rest = l.shows.rest; below = l.shows.below; shows = shows_from_part l.item.named (item_kept l.item l.item.named l.among refl) l.shows.rest n l.shows.shows };
      }

      shown_part : (p : Path) (n : NodeName) → Shows S tree meta p n → Shows P tree meta p n
      shown_part p n shown = shows_part S keep closed tree meta p n kt km shown

      was_named : (p : Path) (o : ObjName) → Names P tree meta p o → Names S tree meta p o
      was_named p o names = names_up P S less tree meta p o names

      pub walked_part : Walked P content tree meta found items
      walked_part = record {
        all = λ p n shown. ⊎_elim (λ h. inl h) (λ l. inr (left_part p n l)) (w.all p n (shows_up P S less tree meta p n shown));
        sound = λ p n h. shown_part p n (w.sound p n h);
        lies = λ p n l. shown_part p n (w.lies p n (left_up p n l));
        kept = λ p o names. let was = was_named p o names in ⊎_elim (λ k. inl (kept_part content p o (root_kept p o was) k)) (λ u. inr (waits_part p o u)) (w.kept p o was);
        named = λ p o u. names_part S keep closed tree meta p o kt km (w.named p o (waits_up p o u));
        met = λ p o names. ⊎_elim (λ h. inl h) (λ m. inr (record { object = m.object; waits = waits_part p m.object m.waits })) (w.met p o (was_named p o names));
      }

  pub reading_part : (t : Reading) → keep (name_of kind.Commit t.commit) → Knows S t → Knows P t
  reading_part t at k =
      let kt = closed (name_of kind.Commit t.commit) (name_of kind.DirTree k.parts.tree) at (inl (k.parts, refl, k.has, inl refl)) in
      let km = closed (name_of kind.Commit t.commit) (name_of kind.DirMeta k.parts.meta) at (inl (k.parts, refl, k.has, inr refl)) in
      record {
        parts = k.parts;
        has = record { bytes = k.has.bytes; stored = (k.has.stored, at); reads = k.has.reads };
        walked = walked_part t.limits.content k.parts.tree k.parts.meta kt km t.found t.pending k.walked;
        owned = λ i among. owner_part t.limits.content k.parts.tree k.parts.meta kt km i.path (name_of kind.DirTree i.owner) (k.owned i among);
        line = k.line;
        ascending = k.ascending;
        short = k.short;
        few = k.few;
        recalls = recalls_part t.limits.content k.parts.tree k.parts.meta kt km t.remembered k.recalls;
      }

-- It holds in the part that is reached from the commit.
pub reading_reached : (S : Store) (t : Reading) → Knows S t → Knows (Part S (Reach S (Is (name_of kind.Commit t.commit)))) t
reading_reached S t k = reading_part S (Reach S (Is (name_of kind.Commit t.commit))) (λ o next at refers. onward o next at refers) t (start (name_of kind.Commit t.commit) refl) k
