-- Each object of a tree is reached from its root, over the objects of the tree, and nothing else is.
use Rattle.std.proofs.Common.{◌≡◌, ◌⊎◌, inl, inr, ℕ, zero, suc, ◌≤◌, ◌+◌, List, [], ◌∷◌, length, Some, None, Ok, refl, sym, ◌∙◌, ap, subst, ⊎_elim, arith}
use Rattle.std.specs.Prelude.{Contains}
use Rattle.std.proofs.lemmas.List.{length-append}
use Rattle.sha2.specs.Sha256.{sha256}
use Rattle.ost_types.specs.declared.limits.Limits.{Limits}
use Rattle.ost_types.specs.declared.object.ObjName.{ObjName}
use Rattle.ost_types.specs.declared.object.Kind.TheVariants as kinds
use Rattle.ost_types.specs.Path.{Name, under}
use Rattle.ost_forms.specs.declared.tree_item.BodySpec.{BodySpec}
use Rattle.ost_forms.specs.declared.tree_item.TreeItem.{TreeItem}
use Rattle.ost_forms.specs.DirTree.{Entries, ReadsDirTree}
use Rattle.ost_forms.proofs.Laws.{one_tree}
use Rattle.repo_model.specs.Objects.{Store}
use Rattle.repo_model.specs.Trees.{name_of, HasEntries, HasFile, HasFolder}
use Rattle.tree_build.specs.Items.{IsInFolder}
use Rattle.tree_build.specs.Objects.{Object, made, tree_bytes, meta_bytes, file_bytes, work, file_object, tree_object, meta_object}
use Rattle.tree_build.specs.Objects as objects
use Rattle.tree_build.proofs.FolderEntries.{file_from, file_into, folder_from, folder_into, work_from}
use Rattle.tree_build.proofs.Readings.{entries_in, tree_reads}
use Rattle.tree_build.proofs.Lists.{Among, contained_among, among_contained}
use Rattle.tree_build.proofs.Suffixes.{Rises, rises_from}
use Rattle.tree_build.proofs.Works.{body_cases, objects_file, objects_folder}
use Rattle.tree_build.proofs.Places.{Stands, root_first, stands_after, stands_first, stands_among, stands_once, among_stands, stands_behind, work_among, one_at}
use Rattle.reach.specs.Reach.{ObjNames, IsEntry, IsIn, Reach, Refers, onward}
use Rattle.tree_reach.specs.Trees.{IsMadeTree, TreeStore}

module _ (limits : Limits) (items : List TreeItem) (has : IsMadeTree limits items) where
  abbrev S : Store
  S = TreeStore items

  pub rises : Rises items
  rises = rises_from items has.ordered.ascending

  object_there : (i : TreeItem) (behind : List TreeItem) (o : Object) → Stands items i behind → Among o (objects.objects_of (made behind) i) → S o.name o.bytes
  object_there i behind o s a = (o, among_contained o (work items) (work_among items i behind o s a), refl, refl)

  contains : (i : TreeItem) (behind : List TreeItem) → Stands items i behind → Contains items i
  contains i behind s = among_contained i items (among_stands items i behind s)

  reads_tree : (i : TreeItem) (behind : List TreeItem) → Stands items i behind → i.body ≡ None → ReadsDirTree (λ (x : Entries). x) (tree_bytes (made behind) i.path) (Ok (entries_in i behind))
  reads_tree = tree_reads limits items has.ordered has.typed has.makeable

  pub tree_there : (i : TreeItem) (behind : List TreeItem) → Stands items i behind → i.body ≡ None → S (name_of kinds.DirTree (sha256 (tree_bytes (made behind) i.path))) (tree_bytes (made behind) i.path)
  tree_there i behind s folder = object_there i behind (tree_object (tree_bytes (made behind) i.path)) s (subst (Among _) (sym (objects_folder (made behind) i folder)) (inl refl))

  pub meta_there : (i : TreeItem) (behind : List TreeItem) → Stands items i behind → i.body ≡ None → S (name_of kinds.DirMeta (sha256 (meta_bytes i.meta))) (meta_bytes i.meta)
  meta_there i behind s folder = object_there i behind (meta_object (meta_bytes i.meta)) s (subst (Among _) (sym (objects_folder (made behind) i folder)) (inr (inl refl)))

  has_entries : (i : TreeItem) (behind : List TreeItem) → Stands items i behind → i.body ≡ None → HasEntries S (sha256 (tree_bytes (made behind) i.path)) (entries_in i behind)
  has_entries i behind s folder = record { bytes = tree_bytes (made behind) i.path; stored = tree_there i behind s folder; reads = reads_tree i behind s folder }

  -- what an item is named by is reached
  abbrev Named : ObjNames → TreeItem → List TreeItem → Type 0
  Named from i behind = (o : Object) → Among o (objects.objects_of (made behind) i) → Reach S from o.name

  by_parts : (from : ObjNames) (i : TreeItem) (behind : List TreeItem) → i.body ≡ None → Reach S from (name_of kinds.DirTree (sha256 (tree_bytes (made behind) i.path))) → Reach S from (name_of kinds.DirMeta (sha256 (meta_bytes i.meta))) → Named from i behind
  by_parts from i behind folder tree meta o a = go (subst (Among o) (objects_folder (made behind) i folder) a)
    where
      go : Among o (tree_object (tree_bytes (made behind) i.path) ∷ meta_object (meta_bytes i.meta) ∷ []) → Reach S from o.name
      go (inl e) = subst (λ (x : Object). Reach S from x.name) e tree
      go (inr (inl e)) = subst (λ (x : Object). Reach S from x.name) e meta
      go (inr (inr bad)) = absurd bad

  by_file : (from : ObjNames) (i : TreeItem) (behind : List TreeItem) (body : BodySpec) → i.body ≡ Some body → Reach S from (name_of kinds.File (sha256 (file_bytes i.meta body))) → Named from i behind
  by_file from i behind body is file o a = go (subst (Among o) (objects_file (made behind) i body is) a)
    where
      go : Among o (file_object (file_bytes i.meta body) ∷ []) → Reach S from o.name
      go (inl e) = subst (λ (x : Object). Reach S from x.name) e file
      go (inr bad) = absurd bad

  -- from the folder that it lies in
  in_folder : (from : ObjNames) (k : TreeItem) (above : List TreeItem) (i : TreeItem) (x : Name) → Stands items k above → k.body ≡ None → i.path ≡ under k.path x → Among i items → Reach S from (name_of kinds.DirTree (sha256 (tree_bytes (made above) k.path)))
      → (behind : List TreeItem) → Stands items i behind → Named from i behind
  in_folder from k above i x s folder at among tree behind stands =
      let w = stands_after items rises k above i x s among at in
      let same : w.0 ≡ behind = stands_once items rises i w.0 behind (stands_behind items k above i w.0 s w.1) stands in
      let entries = has_entries k above s folder in
      let parent = name_of kinds.DirTree (sha256 (tree_bytes (made above) k.path)) in
      subst (Named from i) same (⊎_elim
      (λ (none : i.body ≡ None).
      let t = sha256 (tree_bytes (made w.0) i.path) in
      let m = sha256 (meta_bytes i.meta) in
      let a = folder_into above k.path x t m (record { item = i; behind = w.0; stands = w.1; at = at; is = none; tree_is = refl; meta_is = refl }) in
      let f : HasFolder (entries_in k above) x t m = record { item = record { name = x; tree = t; meta = m }; among = among_contained _ _ a; name = refl; tree_is = refl; meta_is = refl } in
      by_parts from i w.0 none
      (onward parent (name_of kinds.DirTree t) tree (inr (entries_in k above, refl, entries, inr (x, t, m, f, inl refl))))
      (onward parent (name_of kinds.DirMeta m) tree (inr (entries_in k above, refl, entries, inr (x, t, m, f, inr refl)))))
      (λ (b : (body : BodySpec) × (i.body ≡ Some body)).
      let sum = sha256 (file_bytes i.meta b.0) in
      let a = file_into above k.path x sum (record { item = i; behind = w.0; stands = w.1; at = at; body = b.0; is = b.1; sum_is = refl }) in
      let f : HasFile (entries_in k above) x sum = record { item = record { name = x; file = sum }; among = among_contained _ _ a; name = refl; file = refl } in
      by_file from i w.0 b.0 b.1 (onward parent (name_of kinds.File sum) tree (inr (entries_in k above, refl, entries, inl (x, sum, f, refl)))))
      (body_cases i.body))

  -- so each item's, from the root's
  module _ (from : ObjNames) (root : (i : TreeItem) (behind : List TreeItem) → Stands items i behind → i.path ≡ [] → Named from i behind) where
    inner : (i : TreeItem) (behind : List TreeItem) → Stands items i behind → IsInFolder items i.path → ((k : TreeItem) (above : List TreeItem) → Stands items k above → length k.path + 1 ≤ length i.path → Named from k above) → Named from i behind
    inner i behind s f before =
        let k = f.there.item in
        let w = stands_among k items (contained_among k items f.there.among) in
        let at : i.path ≡ under k.path f.name = f.is ∙ ap (λ p. under p f.name) (sym f.there.at) in
        in_folder from k w.0 i f.name w.1 f.there.folder at (among_stands items i behind s)
        (before k w.0 w.1 (omega (arith, ap length at, length-append k.path (f.name ∷ []))) (tree_object (tree_bytes (made w.0) k.path)) (subst (Among _) (sym (objects_folder (made w.0) k f.there.folder)) (inl refl)))
        behind s

    reach_at : (n : ℕ) (i : TreeItem) (behind : List TreeItem) → Stands items i behind → length i.path ≤ n → Named from i behind
    reach_at zero i behind s le = ⊎_elim (λ e. root i behind s e) (λ f. inner i behind s f (λ k above t less. absurd (omega (arith, le, less)))) (has.tree.inner i (contains i behind s))
    reach_at (suc n) i behind s le = ⊎_elim (λ e. root i behind s e) (λ f. inner i behind s f (λ k above t less. reach_at n k above t (omega (arith, le, less)))) (has.tree.inner i (contains i behind s))

    -- and so is each object of the tree
    pub reached : (o : Object) → Contains (work items) o → Reach S from o.name
    reached o among =
        let w = work_from items o (contained_among o (work items) among) in
        reach_at (length w.0.path) w.0 w.1 w.2 (omega arith) o w.3

  -- Only the tree's objects are reached over them.
  entries_of_work : (o : Object) (i : TreeItem) (behind : List TreeItem) (e : Entries) → Stands items i behind → Among o (objects.objects_of (made behind) i) → o.name.kind ≡ kinds.DirTree → ReadsDirTree (λ (x : Entries). x) o.bytes (Ok e) → (i.body ≡ None) × (e ≡ entries_in i behind)
  entries_of_work o i behind e s a kind reads = by (body_cases i.body)
    where
      same : i.body ≡ None → tree_object (tree_bytes (made behind) i.path) ≡ o → e ≡ entries_in i behind
      same folder is = one_tree e (entries_in i behind) _ (reads.0.form ∙ ap Some (sym (ap (λ (x : Object). x.bytes) is))) (reads_tree i behind s folder).0.form

      in_parts : i.body ≡ None → Among o (tree_object (tree_bytes (made behind) i.path) ∷ meta_object (meta_bytes i.meta) ∷ []) → (i.body ≡ None) × (e ≡ entries_in i behind)
      in_parts folder (inl is) = (folder, same folder is)
      in_parts folder (inr (inl is)) = (let z : kinds.DirMeta ≡ kinds.DirTree = ap (λ (x : Object). x.name.kind) is ∙ kind in cc)
      in_parts folder (inr (inr bad)) = absurd bad

      in_file : (body : BodySpec) → Among o (file_object (file_bytes i.meta body) ∷ []) → (i.body ≡ None) × (e ≡ entries_in i behind)
      in_file body (inl is) = (let z : kinds.File ≡ kinds.DirTree = ap (λ (x : Object). x.name.kind) is ∙ kind in cc)
      in_file body (inr bad) = absurd bad

      by : (i.body ≡ None) ⊎ ((body : BodySpec) × (i.body ≡ Some body)) → (i.body ≡ None) × (e ≡ entries_in i behind)
      by (inl folder) = in_parts folder (subst (Among o) (objects_folder (made behind) i folder) a)
      by (inr body) = in_file body.0 (subst (Among o) (objects_file (made behind) i body.0 body.1) a)

  -- what such entries name is an object of the tree
  entry_there : (i : TreeItem) (behind : List TreeItem) (next : ObjName) → Stands items i behind → IsEntry (entries_in i behind) next → IsIn S next
  entry_there i behind next s (inl (x, sum, h, is)) =
      let w = file_from behind i.path h.item (contained_among h.item (entries_in i behind).files h.among) in
      let stands = stands_behind items i behind w.item w.behind s w.stands in
      let name : next ≡ name_of kinds.File (sha256 (file_bytes w.item.meta w.body)) = is ∙ ap (name_of kinds.File) (sym h.file ∙ w.sum_is) in
      subst (λ n. (bytes : List ℕ) × S n bytes) (sym name) (_, object_there w.item w.behind (file_object (file_bytes w.item.meta w.body)) stands (subst (Among _) (sym (objects_file (made w.behind) w.item w.body w.is)) (inl refl)))
  entry_there i behind next s (inr (x, tree, meta, h, of)) =
      let w = folder_from behind i.path h.item (contained_among h.item (entries_in i behind).folders h.among) in
      let stands = stands_behind items i behind w.item w.behind s w.stands in
      ⊎_elim
      (λ is. subst (λ n. (bytes : List ℕ) × S n bytes) (sym (is ∙ ap (name_of kinds.DirTree) (sym h.tree_is ∙ w.tree_is))) (_, tree_there w.item w.behind stands w.is))
      (λ is. subst (λ n. (bytes : List ℕ) × S n bytes) (sym (is ∙ ap (name_of kinds.DirMeta) (sym h.meta_is ∙ w.meta_is))) (_, meta_there w.item w.behind stands w.is))
      of

  -- of what isn't a commit
  pub only_work : (o next : ObjName) → (o.kind ≡ kinds.Commit → ⊥) → Refers S o next → IsIn S next
  only_work o next other (inl (c, is, here, of)) = absurd (other is)
  only_work o next other (inr (e, is, here, entry)) =
      let x = here.stored in
      let w = work_from items x.0 (contained_among x.0 (work items) x.1) in
      let k : x.0.name.kind ≡ kinds.DirTree = ap (λ (n : ObjName). n.kind) x.2 in
      let parts = entries_of_work x.0 w.0 w.1 e w.2 w.3 k (subst (λ b. ReadsDirTree (λ (y : Entries). y) b (Ok e)) (sym x.3) here.reads) in
      entry_there w.0 w.1 next w.2 (subst (λ (y : Entries). IsEntry y next) parts.1 entry)

-- From the two names of the root all objects of the tree are reached.
pub tree_reached : (limits : Limits) (i : TreeItem) (rest : List TreeItem) → IsMadeTree limits (i ∷ rest) → (from : ObjNames) → Reach (TreeStore (i ∷ rest)) from (name_of kinds.DirTree (objects.root_of (i ∷ rest)).0) → Reach (TreeStore (i ∷ rest)) from (name_of kinds.DirMeta (objects.root_of (i ∷ rest)).1)
    → (o : Object) → Contains (work (i ∷ rest)) o → Reach (TreeStore (i ∷ rest)) from o.name
tree_reached limits i rest has from tree meta = reached limits (i ∷ rest) has from root
  where
    up : Rises (i ∷ rest)
    up = rises_from (i ∷ rest) has.ordered.ascending

    is_root : (i.path ≡ []) × (i.body ≡ None)
    is_root = root_first i rest up has.tree.root

    root : (j : TreeItem) (behind : List TreeItem) → Stands (i ∷ rest) j behind → j.path ≡ [] → (o : Object) → Among o (objects.objects_of (made behind) j) → Reach (TreeStore (i ∷ rest)) from o.name
    root j behind s at o a =
        let same : i ≡ j = one_at (i ∷ rest) i j up (inl refl) (among_stands (i ∷ rest) j behind s) (is_root.0 ∙ sym at) in
        let t : Stands (i ∷ rest) i behind = subst (λ k. Stands (i ∷ rest) k behind) (sym same) s in
        let back : rest ≡ behind = stands_once (i ∷ rest) up i rest behind (stands_first i rest) t in
        by_parts limits (i ∷ rest) has from i rest is_root.1 tree meta o
        (subst (λ b. Among o (objects.objects_of (made b) i)) (sym back) (subst (λ k. Among o (objects.objects_of (made behind) k)) (sym same) a))
