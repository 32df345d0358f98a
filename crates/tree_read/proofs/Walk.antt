-- What is left of a tree to be read, when the next of the items is replaced by others.
use Rattle.std.proofs.Common.{◌≡◌, ◌⊎◌, inl, inr, ℕ, List, [], ◌∷◌, ◌++◌, Contains, map, Some, refl, sym, ◌∙◌, ap, subst, append-nil, append_assoc, arith}
use Rattle.std.proofs.lemmas.List.Elements.{Contains-append_left, Contains-append_right, Contains-append_cases, Contains-push}
use Rattle.tree_read.proofs.Merged.{only, head_or_tail, head_in, tail_in}
use Rattle.ost_types.specs.declared.meta.Meta.{Meta}
use Rattle.ost_types.specs.declared.node.NodeName.{NodeName}
use Rattle.ost_types.specs.declared.node.NodeName.TheVariants as node
use Rattle.ost_types.specs.declared.object.Kind.TheVariants as kind
use Rattle.ost_types.specs.declared.object.ObjName.{ObjName}
use Rattle.ost_types.specs.Path.{Name, Path, under}
use Rattle.ost_types.specs.PathMap.{Nodes, paths_of}
use Rattle.std.proofs.lemmas.List.{map-append}
use Rattle.ost_forms.specs.DirTree.{Entries, tree_form}
use Rattle.ost_forms.specs.DirMeta.{dirmeta_form}
use Rattle.ost_forms.proofs.Laws.{one_tree}
use Rattle.ost_forms.specs.Commit.{CommitParts}
use Rattle.ost_forms.proofs.Parted.{one_commit, one_dirmeta}
use Rattle.repo_model.specs.Objects.{Store, IsMap, Has}
use Rattle.repo_model.specs.Trees.{HasCommit, HasEntries, HasFile, HasFolder, HasMeta, Shows, Names, name_of}
use Rattle.tree_read.specs.declared.item.Named.TheVariants.{Folder, Attributes, File}
use Rattle.tree_read.specs.declared.item.Item.{Item}
use Rattle.tree_read.specs.Children.{Child, IsChild, AreChildren, item_of}
use Rattle.tree_read.specs.Items.{ShowsFrom, NamesFrom, ItemShows, ItemNames}
use Rattle.tree_read.specs.Order.{IsKept}
use Rattle.tree_read.specs.Walked as walk

pub mapped : {X Y : Type 0} (f : X → Y) (xs : List X) (x : X) → Contains xs x → Contains (map f xs) (f x)
mapped f [] x h = absurd (omega (arith, h.1))
mapped f (y ∷ xs) x h = elim (head_or_tail y xs x h) [ inl same ↦ subst (λ z. Contains (f y ∷ map f xs) (f z)) same (head_in (f y) (map f xs)) | inr t ↦ tail_in (f y) (f x) (map f xs) (mapped f xs x t) ]

pub unmapped : {X Y : Type 0} (f : X → Y) (xs : List X) (y : Y) → Contains (map f xs) y → (x : X) × Contains xs x × (y ≡ f x)
unmapped f [] y h = absurd (omega (arith, h.1))
unmapped f (x ∷ xs) y h = elim (head_or_tail (f x) (map f xs) y h) [ inl same ↦ (x, head_in x xs, sym same) | inr t ↦ (let u = unmapped f xs y t in (u.0, tail_in x u.0 xs u.1, u.2)) ]

module _ (S : Store) (content : ℕ) where
  abbrev Left : List Item → Path → NodeName → Type 0
  Left = walk.Left S content

  abbrev Waits : List Item → Path → ObjName → Type 0
  Waits = walk.Waits S content

  abbrev StillMet : List Item → Path → Type 0
  StillMet = walk.StillMet S content

  abbrev Walked : List ℕ → List ℕ → Nodes → List Item → Type 0
  Walked = walk.Walked S content

  -- An item is replaced by others, and by pairs that were found.
  pub record Replaces (next : Item) (new : Nodes) (more : List Item) : Type 0 where
    pub all : (p : Path) (n : NodeName) → ItemShows S next p n → Contains new (p, n) ⊎ Left more p n
    pub sound : (p : Path) (n : NodeName) → Contains new (p, n) → ItemShows S next p n
    pub lies : (p : Path) (n : NodeName) → Left more p n → ItemShows S next p n
    pub kept : (p : Path) (o : ObjName) → ItemNames S next p o → IsKept S content p o ⊎ Waits more p o
    pub named : (p : Path) (o : ObjName) → Waits more p o → ItemNames S next p o
    pub met : (p : Path) (o : ObjName) → ItemNames S next p o → Contains (paths_of new) p ⊎ StillMet more p

  none : {X : Type 0} (x : X) → Contains [] x → ⊥
  none x h = omega (arith, h.1)

  left_cases : (items : List Item) (next : Item) (p : Path) (n : NodeName) → Left (items ++ next ∷ []) p n → Left items p n ⊎ ItemShows S next p n
  left_cases items next p n l = by (Contains-append_cases items (next ∷ []) l.item l.among)
    where
      by : Contains items l.item ⊎ Contains (next ∷ []) l.item → Left items p n ⊎ ItemShows S next p n
      by (inl h) = inl (record { item = l.item; among = h; shows = l.shows })
      by (inr h) = inr (subst (λ i. ItemShows S i p n) (sym (only next l.item h)) l.shows)

  waits_cases : (items : List Item) (next : Item) (p : Path) (o : ObjName) → Waits (items ++ next ∷ []) p o → Waits items p o ⊎ ItemNames S next p o
  waits_cases items next p o l = by (Contains-append_cases items (next ∷ []) l.item l.among)
    where
      by : Contains items l.item ⊎ Contains (next ∷ []) l.item → Waits items p o ⊎ ItemNames S next p o
      by (inl h) = inl (record { item = l.item; among = h; names = l.names })
      by (inr h) = inr (subst (λ i. ItemNames S i p o) (sym (only next l.item h)) l.names)

  left_front : (items more : List Item) (p : Path) (n : NodeName) → Left items p n → Left (items ++ more) p n
  left_front items more p n l = record { item = l.item; among = Contains-append_left items more l.item l.among; shows = l.shows }

  left_back : (items more : List Item) (p : Path) (n : NodeName) → Left more p n → Left (items ++ more) p n
  left_back items more p n l = record { item = l.item; among = Contains-append_right items more l.item l.among; shows = l.shows }

  waits_front : (items more : List Item) (p : Path) (o : ObjName) → Waits items p o → Waits (items ++ more) p o
  waits_front items more p o l = record { item = l.item; among = Contains-append_left items more l.item l.among; names = l.names }

  waits_back : (items more : List Item) (p : Path) (o : ObjName) → Waits more p o → Waits (items ++ more) p o
  waits_back items more p o l = record { item = l.item; among = Contains-append_right items more l.item l.among; names = l.names }

  module _ (tree meta : List ℕ) (found new : Nodes) (items more : List Item) (next : Item) (w : Walked tree meta found (items ++ next ∷ [])) (r : Replaces next new more) where
    next_lies : (p : Path) (n : NodeName) → ItemShows S next p n → Shows S tree meta p n
    next_lies p n shows = w.lies p n (record { item = next; among = Contains-append_right items (next ∷ []) next (Contains-push [] next); shows = shows })

    all_next : (p : Path) (n : NodeName) → Contains new (p, n) ⊎ Left more p n → Contains (found ++ new) (p, n) ⊎ Left (items ++ more) p n
    all_next p n (inl h) = inl (Contains-append_right found new (p, n) h)
    all_next p n (inr l) = inr (left_back items more p n l)

    all_left : (p : Path) (n : NodeName) → Left items p n ⊎ ItemShows S next p n → Contains (found ++ new) (p, n) ⊎ Left (items ++ more) p n
    all_left p n (inl l) = inr (left_front items more p n l)
    all_left p n (inr is) = all_next p n (r.all p n is)

    all_of : (p : Path) (n : NodeName) → Contains found (p, n) ⊎ Left (items ++ next ∷ []) p n → Contains (found ++ new) (p, n) ⊎ Left (items ++ more) p n
    all_of p n (inl h) = inl (Contains-append_left found new (p, n) h)
    all_of p n (inr l) = all_left p n (left_cases items next p n l)

    sound_of : (p : Path) (n : NodeName) → Contains found (p, n) ⊎ Contains new (p, n) → Shows S tree meta p n
    sound_of p n (inl h) = w.sound p n h
    sound_of p n (inr h) = next_lies p n (r.sound p n h)

    lies_of : (p : Path) (n : NodeName) (l : Left (items ++ more) p n) → Contains items l.item ⊎ Contains more l.item → Shows S tree meta p n
    lies_of p n l (inl h) = w.lies p n (left_front items (next ∷ []) p n (record { item = l.item; among = h; shows = l.shows }))
    lies_of p n l (inr h) = next_lies p n (r.lies p n (record { item = l.item; among = h; shows = l.shows }))

    kept_next : (p : Path) (o : ObjName) → IsKept S content p o ⊎ Waits more p o → IsKept S content p o ⊎ Waits (items ++ more) p o
    kept_next p o (inl k) = inl k
    kept_next p o (inr l) = inr (waits_back items more p o l)

    kept_left : (p : Path) (o : ObjName) → Waits items p o ⊎ ItemNames S next p o → IsKept S content p o ⊎ Waits (items ++ more) p o
    kept_left p o (inl l) = inr (waits_front items more p o l)
    kept_left p o (inr is) = kept_next p o (r.kept p o is)

    kept_of : (p : Path) (o : ObjName) → IsKept S content p o ⊎ Waits (items ++ next ∷ []) p o → IsKept S content p o ⊎ Waits (items ++ more) p o
    kept_of p o (inl k) = inl k
    kept_of p o (inr l) = kept_left p o (waits_cases items next p o l)

    named_of : (p : Path) (o : ObjName) (l : Waits (items ++ more) p o) → Contains items l.item ⊎ Contains more l.item → Names S tree meta p o
    named_of p o l (inl h) = w.named p o (waits_front items (next ∷ []) p o (record { item = l.item; among = h; names = l.names }))
    named_of p o l (inr h) =
        w.named p o (record { item = next; among = Contains-append_right items (next ∷ []) next (Contains-push [] next); names = r.named p o (record { item = l.item; among = h; names = l.names }) })

    in_front : (p : Path) → Contains (paths_of found) p → Contains (paths_of (found ++ new)) p
    in_front p h = subst (λ ps. Contains ps p) (sym (map-append (λ (e : Path × NodeName). e.0) found new)) (Contains-append_left (paths_of found) (paths_of new) p h)

    in_back : (p : Path) → Contains (paths_of new) p → Contains (paths_of (found ++ new)) p
    in_back p h = subst (λ ps. Contains ps p) (sym (map-append (λ (e : Path × NodeName). e.0) found new)) (Contains-append_right (paths_of found) (paths_of new) p h)

    met_next : (p : Path) → Contains (paths_of new) p ⊎ StillMet more p → Contains (paths_of (found ++ new)) p ⊎ StillMet (items ++ more) p
    met_next p (inl h) = inl (in_back p h)
    met_next p (inr m) = inr (record { object = m.object; waits = waits_back items more p m.object m.waits })

    met_left : (p : Path) (o : ObjName) → Waits items p o ⊎ ItemNames S next p o → Contains (paths_of (found ++ new)) p ⊎ StillMet (items ++ more) p
    met_left p o (inl l) = inr (record { object = o; waits = waits_front items more p o l })
    met_left p o (inr is) = met_next p (r.met p o is)

    met_of : (p : Path) → Contains (paths_of found) p ⊎ StillMet (items ++ next ∷ []) p → Contains (paths_of (found ++ new)) p ⊎ StillMet (items ++ more) p
    met_of p (inl h) = inl (in_front p h)
    met_of p (inr m) = met_left p m.object (waits_cases items next p m.object m.waits)

    pub walked_on : Walked tree meta (found ++ new) (items ++ more)
    walked_on = record {
      all = λ p n s. all_of p n (w.all p n s);
      sound = λ p n h. sound_of p n (Contains-append_cases found new (p, n) h);
      lies = λ p n l. lies_of p n l (Contains-append_cases items more l.item l.among);
      kept = λ p o s. kept_of p o (w.kept p o s);
      named = λ p o l. named_of p o l (Contains-append_cases items more l.item l.among);
      met = λ p o s. met_of p (w.met p o s);
    }

  -- at the end the pairs are the tree, and all is kept
  pub walked_all : (tree meta : List ℕ) (found : Nodes) → Walked tree meta found [] → (p : Path) (n : NodeName) → Shows S tree meta p n → Contains found (p, n)
  walked_all tree meta found w p n s = elim (w.all p n s) [ inl h ↦ h | inr l ↦ absurd (none l.item l.among) ]

  pub kept_all : (tree meta : List ℕ) (found : Nodes) → Walked tree meta found [] → (p : Path) (o : ObjName) → Names S tree meta p o → IsKept S content p o
  kept_all tree meta found w p o s = elim (w.kept p o s) [ inl k ↦ k | inr l ↦ absurd (none l.item l.among) ]

  -- at the beginning the root waits
  pub walked_none : (tree meta : List ℕ) (root : Item) → root.path ≡ [] → root.named ≡ Folder tree meta → Walked tree meta [] (root ∷ [])
  walked_none tree meta root top is = record {
    all = λ p n s. inr (record { item = root; among = Contains-push [] root; shows = record { rest = p; below = sym (ap (λ f. f ++ p) top); shows = subst (λ x. ShowsFrom S x p n) (sym is) s } });
    sound = λ p n h. absurd (none (p, n) h);
    lies = λ p n l. root_lies p n l.item (only root l.item l.among) l.shows;
    kept = λ p o s. inr (root_waits p o s);
    named = λ p o l. root_named p o l.item (only root l.item l.among) l.names;
    met = λ p o s. inr (record { object = o; waits = root_waits p o s });
  }
    where
      root_waits : (p : Path) (o : ObjName) → Names S tree meta p o → Waits (root ∷ []) p o
      root_waits p o s = record { item = root; among = Contains-push [] root; names = record { rest = p; below = sym (ap (λ f. f ++ p) top); names = subst (λ x. NamesFrom S x p o) (sym is) s } }

      root_named : (p : Path) (o : ObjName) (i : Item) → root ≡ i → ItemNames S i p o → Names S tree meta p o
      root_named p o i same s =
          let t = subst (λ x. ItemNames S x p o) (sym same) s in
          let at : p ≡ t.rest = t.below ∙ ap (λ f. f ++ t.rest) top in
          subst (λ q. Names S tree meta q o) (sym at) (subst (λ x. NamesFrom S x t.rest o) is t.names)

      root_lies : (p : Path) (n : NodeName) (i : Item) → root ≡ i → ItemShows S i p n → Shows S tree meta p n
      root_lies p n i same s =
          let t = subst (λ x. ItemShows S x p n) (sym same) s in
          let at : p ≡ t.rest = t.below ∙ ap (λ f. f ++ t.rest) top in
          subst (λ q. Shows S tree meta q n) (sym at) (subst (λ x. ShowsFrom S x t.rest n) is t.shows)

  -- the path itself
  at_next : (next : Item) (n : NodeName) (p rest : Path) → p ≡ next.path ++ rest → rest ≡ [] → Contains (paths_of ((next.path, n) ∷ [])) p
  at_next next n p rest below nothing = subst (Contains (next.path ∷ [])) (sym (below ∙ ap (λ r. next.path ++ r) nothing ∙ append-nil next.path)) (Contains-push [] next.path)

  -- a file that is there
  module _ (next : Item) (sum : List ℕ) (is : next.named ≡ File sum) (has : Has S content (name_of kind.File sum)) where
    the_file : Path × NodeName
    the_file = (next.path, node.Leaf sum)

    file_all : (p : Path) (n : NodeName) (rest : Path) → p ≡ next.path ++ rest → ShowsFrom S (File sum) rest n → Contains (the_file ∷ []) (p, n)
    unfolding the_file
    file_all p n rest below s =
        let at : next.path ≡ p = sym (below ∙ ap (λ r. next.path ++ r) s.0 ∙ append-nil next.path) in
        subst (Contains (the_file ∷ [])) (ap (λ q. (q, node.Leaf sum)) at ∙ ap (λ m. (p, m)) (sym s.1)) (Contains-push [] the_file)

    file_sound : (p : Path) (n : NodeName) → the_file ≡ (p, n) → ItemShows S next p n
    unfolding the_file
    file_sound p n e = record {
      rest = [];
      below = ap (λ x. x.0) (sym e) ∙ sym (append-nil next.path);
      shows = subst (λ x. ShowsFrom S x [] n) (sym is) (refl, ap (λ x. x.1) (sym e));
    }

    file_kept : (p : Path) (o : ObjName) (rest : Path) → NamesFrom S (File sum) rest o → IsKept S content p o
    file_kept p o rest s = record {
      has = subst (Has S content) (sym s.1) has;
      short = λ e far. let k : kind.File ≡ kind.DirTree = ap (λ x. x.kind) (sym s.1) ∙ e in cc;
    }

    pub file_replaces : Replaces next ((next.path, node.Leaf sum) ∷ []) []
    unfolding the_file
    file_replaces = record {
      all = λ p n s. inl (file_all p n s.rest s.below (subst (λ x. ShowsFrom S x s.rest n) is s.shows));
      sound = λ p n h. file_sound p n (only the_file (p, n) h);
      lies = λ p n l. absurd (none l.item l.among);
      kept = λ p o s. inl (file_kept p o s.rest (subst (λ x. NamesFrom S x s.rest o) is s.names));
      named = λ p o l. absurd (none l.item l.among);
      met = λ p o s. inl (at_next next (node.Leaf sum) p s.rest s.below (subst (λ x. NamesFrom S x s.rest o) is s.names).0);
    }

  -- attributes that are there
  module _ (next : Item) (sum : List ℕ) (m : Meta) (is : next.named ≡ Attributes sum) (has : HasMeta S sum m) (one : (x : Meta) → HasMeta S sum x → x ≡ m)
      (formed : Has S content (name_of kind.DirMeta sum)) where
    the_folder : Path × NodeName
    the_folder = (next.path, node.Folder m)

    folder_all : (p : Path) (n : NodeName) (rest : Path) → p ≡ next.path ++ rest → ShowsFrom S (Attributes sum) rest n → Contains (the_folder ∷ []) (p, n)
    unfolding the_folder
    folder_all p n rest below s =
        let at : next.path ≡ p = sym (below ∙ ap (λ r. next.path ++ r) s.0 ∙ append-nil next.path) in
        let same : node.Folder m ≡ n = ap node.Folder (sym (one s.1 s.2)) ∙ sym s.3 in
        subst (Contains (the_folder ∷ [])) (ap (λ q. (q, node.Folder m)) at ∙ ap (λ k. (p, k)) same) (Contains-push [] the_folder)

    folder_sound : (p : Path) (n : NodeName) → the_folder ≡ (p, n) → ItemShows S next p n
    unfolding the_folder
    folder_sound p n e = record {
      rest = [];
      below = ap (λ x. x.0) (sym e) ∙ sym (append-nil next.path);
      shows = subst (λ x. ShowsFrom S x [] n) (sym is) (refl, m, has, ap (λ x. x.1) (sym e));
    }

    folder_kept : (p : Path) (o : ObjName) (rest : Path) → NamesFrom S (Attributes sum) rest o → IsKept S content p o
    folder_kept p o rest s = record {
      has = subst (Has S content) (sym s.1) formed;
      short = λ e far. let k : kind.DirMeta ≡ kind.DirTree = ap (λ x. x.kind) (sym s.1) ∙ e in cc;
    }

    pub attributes_replaces : Replaces next ((next.path, node.Folder m) ∷ []) []
    unfolding the_folder
    attributes_replaces = record {
      all = λ p n s. inl (folder_all p n s.rest s.below (subst (λ x. ShowsFrom S x s.rest n) is s.shows));
      sound = λ p n h. folder_sound p n (only the_folder (p, n) h);
      lies = λ p n l. absurd (none l.item l.among);
      kept = λ p o s. inl (folder_kept p o s.rest (subst (λ x. NamesFrom S x s.rest o) is s.names));
      named = λ p o l. absurd (none l.item l.among);
      met = λ p o s. inl (at_next next (node.Folder m) p s.rest s.below (subst (λ x. NamesFrom S x s.rest o) is s.names).0);
    }

  -- the entries of a folder that are there: its children wait, and its attributes
  module _ (next : Item) (tree meta : List ℕ) (e : Entries) (cs : List Child) (is : next.named ≡ Folder tree meta) (has : HasEntries S tree e) (one : (x : Entries) → HasEntries S tree x → x ≡ e)
      (kept : IsKept S content next.path (name_of kind.DirTree tree)) (are : AreChildren e cs) (itself : Item) (at_it : itself.path ≡ next.path) (rest_of_it : itself.named ≡ Attributes meta) where
    below : List Item
    below = map (item_of next.path tree) cs ++ itself ∷ []

    itself_in : Contains below itself
    unfolding below
    itself_in = Contains-append_right (map (item_of next.path tree) cs) (itself ∷ []) itself (Contains-push [] itself)

    child_in : (c : Child) → IsChild e c → Contains below (item_of next.path tree c)
    unfolding below
    child_in c is_child = Contains-append_left (map (item_of next.path tree) cs) (itself ∷ []) _ (mapped (item_of next.path tree) cs c (are.all c is_child))

    file_named : (x : Name) (sum : List ℕ) → HasFile e x sum → IsChild e (record { name = x; named = File sum })
    file_named x sum f = inl (f.item, f.among, sym (ap (λ n. record { name = n; named = File f.item.file }) f.name ∙ ap (λ s. record { name = x; named = File s }) f.file))

    folder_named : (x : Name) (t m : List ℕ) → HasFolder e x t m → IsChild e (record { name = x; named = Folder t m })
    folder_named x t m f = inr (
      f.item,
      f.among,
      sym (ap (λ n. record { name = n; named = Folder f.item.tree f.item.meta }) f.name ∙ ap (λ s. record { name = x; named = Folder s f.item.meta }) f.tree_is ∙ ap (λ s. record { name = x; named = Folder t s }) f.meta_is),
    )

    -- a path below the folder by a name is one below the child
    by_name : (p : Path) (x : Name) (rest : Path) → p ≡ next.path ++ x ∷ rest → p ≡ under next.path x ++ rest
    by_name p x rest below = below ∙ sym (append_assoc next.path (x ∷ []) rest)

    shows_all : (p : Path) (n : NodeName) (rest : Path) → p ≡ next.path ++ rest → Shows S tree meta rest n → Left below p n
    unfolding Shows
    shows_all p n [] at s = record {
      item = itself;
      among = itself_in;
      shows = record { rest = []; below = at ∙ ap (λ f. f ++ []) (sym at_it); shows = subst (λ x. ShowsFrom S x [] n) (sym rest_of_it) (refl, s.0, s.1, s.2) };
    }
    shows_all p n (x ∷ []) at (f, here, inl leaf) =
        let file = subst (λ y. HasFile y x leaf.0) (one f here) leaf.1 in
        record {
          item = item_of next.path tree (record { name = x; named = File leaf.0 });
          among = child_in _ (file_named x leaf.0 file);
          shows = record { rest = []; below = by_name p x [] at; shows = (refl, leaf.2) };
        }
    shows_all p n (x ∷ y ∷ rest) at (f, here, inl leaf) = absurd leaf
    shows_all p n (x ∷ rest) at (f, here, inr g) =
        let folder = subst (λ y. HasFolder y x g.0 g.1) (one f here) g.2 in
        record {
          item = item_of next.path tree (record { name = x; named = Folder g.0 g.1 });
          among = child_in _ (folder_named x g.0 g.1 folder);
          shows = record { rest = rest; below = by_name p x rest at; shows = g.3 };
        }

    itself_waits : (p : Path) (o : ObjName) → p ≡ next.path ++ [] → o ≡ name_of kind.DirMeta meta → Waits below p o
    itself_waits p o at is_meta = record {
      item = itself;
      among = itself_in;
      names = record { rest = []; below = at ∙ ap (λ f. f ++ []) (sym at_it); names = subst (λ x. NamesFrom S x [] o) (sym rest_of_it) (refl, is_meta) };
    }

    named_waits : (p : Path) (o : ObjName) (x : Name) (rest : Path) → p ≡ next.path ++ x ∷ rest → Names S tree meta (x ∷ rest) o → Waits below p o
    unfolding Names
    named_waits p o x [] at (f, here, inl leaf) =
        let file = subst (λ y. HasFile y x leaf.0) (one f here) leaf.1 in
        record {
          item = item_of next.path tree (record { name = x; named = File leaf.0 });
          among = child_in _ (file_named x leaf.0 file);
          names = record { rest = []; below = by_name p x [] at; names = (refl, leaf.2) };
        }
    named_waits p o x (y ∷ rest) at (f, here, inl leaf) = absurd leaf
    named_waits p o x rest at (f, here, inr g) =
        let folder = subst (λ y. HasFolder y x g.0 g.1) (one f here) g.2 in
        record {
          item = item_of next.path tree (record { name = x; named = Folder g.0 g.1 });
          among = child_in _ (folder_named x g.0 g.1 folder);
          names = record { rest = rest; below = by_name p x rest at; names = g.3 };
        }

    names_all : (p : Path) (o : ObjName) (rest : Path) → p ≡ next.path ++ rest → Names S tree meta rest o → IsKept S content p o ⊎ Waits below p o
    unfolding Names
    names_all p o [] at (inl is_tree) = inl (subst (λ q. IsKept S content q o) (sym (at ∙ append-nil next.path)) (subst (IsKept S content next.path) (sym is_tree) kept))
    names_all p o [] at (inr is_meta) = inr (itself_waits p o at is_meta)
    names_all p o (x ∷ rest) at s = inr (named_waits p o x rest at s)

    met_all : (p : Path) (o : ObjName) (rest : Path) → p ≡ next.path ++ rest → Names S tree meta rest o → StillMet below p
    met_all p o [] at s = record { object = name_of kind.DirMeta meta; waits = itself_waits p (name_of kind.DirMeta meta) at refl }
    met_all p o (x ∷ rest) at s = record { object = o; waits = named_waits p o x rest at s }

    from_name : (p : Path) (x : Name) (rest : Path) → p ≡ under next.path x ++ rest → p ≡ next.path ++ x ∷ rest
    from_name p x rest at = at ∙ append_assoc next.path (x ∷ []) rest

    next_shows : (p : Path) (n : NodeName) (rest : Path) → p ≡ next.path ++ rest → Shows S tree meta rest n → ItemShows S next p n
    next_shows p n rest at shows = record { rest = rest; below = at; shows = subst (λ x. ShowsFrom S x rest n) (sym is) shows }

    child_lies : (p : Path) (n : NodeName) (c : Child) → IsChild e c → ItemShows S (item_of next.path tree c) p n → ItemShows S next p n
    unfolding Shows
    child_lies p n c (inl (i, among, same)) s =
        let t = subst (λ d. ItemShows S (item_of next.path tree d) p n) same s in
        let at : p ≡ next.path ++ i.name ∷ [] = from_name p i.name t.rest t.below ∙ ap (λ r. next.path ++ i.name ∷ r) t.shows.0 in
        next_shows p n (i.name ∷ []) at (e, has, inl (i.file, record { item = i; among = among; name = refl; file = refl }, t.shows.1))
    child_lies p n c (inr (i, among, same)) s =
        let t = subst (λ d. ItemShows S (item_of next.path tree d) p n) same s in
        next_shows p n (i.name ∷ t.rest) (from_name p i.name t.rest t.below) (e, has, inr (i.tree, i.meta, record { item = i; among = among; name = refl; tree_is = refl; meta_is = refl }, t.shows))

    itself_lies : (p : Path) (n : NodeName) → ItemShows S itself p n → ItemShows S next p n
    unfolding Shows
    itself_lies p n s =
        let shows = subst (λ x. ShowsFrom S x s.rest n) rest_of_it s.shows in
        next_shows p n [] (s.below ∙ ap (λ f. f ++ s.rest) at_it ∙ ap (λ r. next.path ++ r) shows.0) (shows.1, shows.2, shows.3)

    below_lies : (p : Path) (n : NodeName) → Left below p n → ItemShows S next p n
    unfolding below
    below_lies p n l = by (Contains-append_cases (map (item_of next.path tree) cs) (itself ∷ []) l.item l.among)
      where
        by : Contains (map (item_of next.path tree) cs) l.item ⊎ Contains (itself ∷ []) l.item → ItemShows S next p n
        by (inl h) = let u = unmapped (item_of next.path tree) cs l.item h in child_lies p n u.0 (are.among u.0 u.1) (subst (λ i. ItemShows S i p n) u.2 l.shows)
        by (inr h) = itself_lies p n (subst (λ i. ItemShows S i p n) (sym (only itself l.item h)) l.shows)

    next_names : (p : Path) (o : ObjName) (rest : Path) → p ≡ next.path ++ rest → Names S tree meta rest o → ItemNames S next p o
    next_names p o rest at names = record { rest = rest; below = at; names = subst (λ x. NamesFrom S x rest o) (sym is) names }

    child_named : (p : Path) (o : ObjName) (c : Child) → IsChild e c → ItemNames S (item_of next.path tree c) p o → ItemNames S next p o
    unfolding Names
    child_named p o c (inl (i, among, same)) s =
        let t = subst (λ d. ItemNames S (item_of next.path tree d) p o) same s in
        let at : p ≡ next.path ++ i.name ∷ [] = from_name p i.name t.rest t.below ∙ ap (λ r. next.path ++ i.name ∷ r) t.names.0 in
        next_names p o (i.name ∷ []) at (e, has, inl (i.file, record { item = i; among = among; name = refl; file = refl }, t.names.1))
    child_named p o c (inr (i, among, same)) s =
        let t = subst (λ d. ItemNames S (item_of next.path tree d) p o) same s in
        next_names p o (i.name ∷ t.rest) (from_name p i.name t.rest t.below) (e, has, inr (i.tree, i.meta, record { item = i; among = among; name = refl; tree_is = refl; meta_is = refl }, t.names))

    itself_named : (p : Path) (o : ObjName) → ItemNames S itself p o → ItemNames S next p o
    unfolding Names
    itself_named p o s =
        let names = subst (λ x. NamesFrom S x s.rest o) rest_of_it s.names in
        next_names p o [] (s.below ∙ ap (λ f. f ++ s.rest) at_it ∙ ap (λ r. next.path ++ r) names.0) (inr names.1)

    below_named : (p : Path) (o : ObjName) → Waits below p o → ItemNames S next p o
    unfolding below
    below_named p o l = by (Contains-append_cases (map (item_of next.path tree) cs) (itself ∷ []) l.item l.among)
      where
        by : Contains (map (item_of next.path tree) cs) l.item ⊎ Contains (itself ∷ []) l.item → ItemNames S next p o
        by (inl h) = let u = unmapped (item_of next.path tree) cs l.item h in child_named p o u.0 (are.among u.0 u.1) (subst (λ i. ItemNames S i p o) u.2 l.names)
        by (inr h) = itself_named p o (subst (λ i. ItemNames S i p o) (sym (only itself l.item h)) l.names)

    pub folder_replaces : Replaces next [] (map (item_of next.path tree) cs ++ itself ∷ [])
    unfolding below
    folder_replaces = record {
      all = λ p n s. inr (shows_all p n s.rest s.below (subst (λ x. ShowsFrom S x s.rest n) is s.shows));
      sound = λ p n h. absurd (none (p, n) h);
      lies = λ p n l. below_lies p n l;
      kept = λ p o s. names_all p o s.rest s.below (subst (λ x. NamesFrom S x s.rest o) is s.names);
      named = λ p o l. below_named p o l;
      met = λ p o s. inr (met_all p o s.rest s.below (subst (λ x. NamesFrom S x s.rest o) is s.names));
    }

-- what is shown at a path is named there
pub shows_met : (S : Store) (tree meta : List ℕ) (p : Path) (n : NodeName) → Shows S tree meta p n → (o : ObjName) × Names S tree meta p o
unfolding Shows Names
shows_met S tree meta [] n s = (name_of kind.DirTree tree, inl refl)
shows_met S tree meta (x ∷ []) n (f, here, inl leaf) = (name_of kind.File leaf.0, (f, here, inl (leaf.0, leaf.1, refl)))
shows_met S tree meta (x ∷ y ∷ rest) n (f, here, inl leaf) = absurd leaf
shows_met S tree meta (x ∷ rest) n (f, here, inr g) =
    let below = shows_met S g.0 g.1 rest n g.3 in
    (below.0, (f, here, inr (g.0, g.1, g.2, below.1)))

-- an object of a map reads in one way
pub entries_one : (S : Store) → IsMap S → (tree : List ℕ) (x y : Entries) → HasEntries S tree x → HasEntries S tree y → x ≡ y
entries_one S map tree x y h g =
    let same : g.bytes ≡ h.bytes = map.one (name_of kind.DirTree tree) g.bytes h.bytes g.stored h.stored in
    one_tree x y h.bytes h.reads.0.form (subst (λ b. tree_form y ≡ Some b) same g.reads.0.form)

pub meta_one : (S : Store) → IsMap S → (sum : List ℕ) (x y : Meta) → HasMeta S sum x → HasMeta S sum y → x ≡ y
meta_one S map sum x y h g =
    let same : g.bytes ≡ h.bytes = map.one (name_of kind.DirMeta sum) g.bytes h.bytes g.stored h.stored in
    let a = h.reads.0 in
    let b = g.reads.0 in
    one_dirmeta x y h.bytes (record { uid = a.uid; gid = a.gid; mode = a.mode }) (record { uid = b.uid; gid = b.gid; mode = b.mode }) a.form (subst (λ t. dirmeta_form y ≡ Some t) same b.form)

pub commit_of_map : (S : Store) → IsMap S → (sum : List ℕ) (x y : CommitParts) → HasCommit S sum x → HasCommit S sum y → x ≡ y
commit_of_map S map sum x y h g =
    let same : g.bytes ≡ h.bytes = map.one (name_of kind.Commit sum) g.bytes h.bytes g.stored h.stored in
    one_commit x y h.bytes h.reads.0.time g.reads.0.time h.reads.0.form (g.reads.0.form ∙ ap Some same)
