-- From a commit of a tree exactly itself and the objects of the tree are reached, over these objects and on a disk that has them.
use Rattle.std.proofs.Common.{◌≡◌, ◌≢◌, ◌⊎◌, inl, inr, ⊎_elim, ℕ, List, [], ◌∷◌, Option, Some, None, refl, sym, ◌∙◌, ap, subst, arith}
use Rattle.std.specs.Prelude.{Contains}
use Rattle.ost_types.specs.declared.limits.Limits.{Limits}
use Rattle.ost_types.specs.declared.object.Kind.TheVariants as kinds
use Rattle.ost_types.specs.declared.object.ObjName.{ObjName}
use Rattle.ost_forms.specs.declared.tree_item.BodySpec.{BodySpec}
use Rattle.ost_forms.specs.declared.tree_item.TreeItem.{TreeItem}
use Rattle.ost_forms.specs.Commit.{CommitParts}
use Rattle.ost_forms.proofs.Parted.{one_commit}
use Rattle.ost_objects.specs.Object.{IsNamed}
use Rattle.repo_model.specs.Objects.{Store, IsMap}
use Rattle.repo_model.specs.Trees.{HasCommit, name_of}
use Rattle.repo_model.specs.Whole.{Complete}
use Rattle.tree_build.specs.Commits.{CommitsTree, HasTree}
use Rattle.tree_build.specs.Items.{HasFolder as ItemFolder}
use Rattle.tree_build.specs.Objects.{Object, file_bytes, file_object, made, meta_bytes, meta_object, root_of, tree_bytes, tree_object, work}
use Rattle.tree_build.proofs.FolderEntries.{work_from}
use Rattle.tree_build.proofs.Lists.{Among, contained_among}
use Rattle.tree_build.proofs.Places.{root_first, stands_first}
use Rattle.tree_build.proofs.Shown.{complete}
use Rattle.tree_build.proofs.Suffixes.{rises_from}
use Rattle.tree_build.proofs.Works.{body_cases, objects_file, objects_folder}
use Rattle.reach.specs.Reach.{Is, IsIn, Reach, Refers, start, onward}
use Rattle.reach.proofs.Reaching.{folder_kind, reach_back, reach_kind, reach_least, reach_stays, refers_where}
use Rattle.tree_reach.specs.Trees.{CommitStore, Held, IsCommitOf, IsMadeTree, IsOfTree, IsRootOf, TreeStore}
use Rattle.tree_reach.proofs.Reached.{meta_there, only_work, tree_reached, tree_there}

-- ---- an object of a tree has its name

abbrev IsRight : Object → Type 0
IsRight o = IsNamed o.name o.bytes

right_tree : (b : List ℕ) → IsRight (tree_object b)
right_tree b = refl

right_meta : (b : List ℕ) → IsRight (meta_object b)
right_meta b = refl

right_file : (b : List ℕ) → IsRight (file_object b)
right_file b = refl

right_parts : (o : Object) (a b : List ℕ) → Among o (tree_object a ∷ meta_object b ∷ []) → IsRight o
right_parts o a b (inl e) = subst IsRight e (right_tree a)
right_parts o a b (inr (inl e)) = subst IsRight e (right_meta b)
right_parts o a b (inr (inr bad)) = absurd bad

right_one : (o : Object) (a : List ℕ) → Among o (file_object a ∷ []) → IsRight o
right_one o a (inl e) = subst IsRight e (right_file a)
right_one o a (inr bad) = absurd bad

pub tree_named : (items : List TreeItem) (o : Object) → Contains (work items) o → IsNamed o.name o.bytes
tree_named items o among =
    let w = work_from items o (contained_among o (work items) among) in
    ⊎_elim
    (λ (none : w.0.body ≡ None). right_parts o (tree_bytes (made w.1) w.0.path) (meta_bytes w.0.meta) (subst (Among o) (objects_folder (made w.1) w.0 none) w.3))
    (λ (b : (body : BodySpec) × (w.0.body ≡ Some body)). right_one o (file_bytes w.0.meta b.0) (subst (Among o) (objects_file (made w.1) w.0 b.0 b.1) w.3))
    (body_cases w.0.body)

-- ---- a tree

none_there : ItemFolder [] [] → ⊥
none_there h = omega (arith, h.among.1)

of_in : (items : List TreeItem) (o : ObjName) → IsIn (TreeStore items) o → IsOfTree items o
of_in items o w = (w.1.0, w.1.1, w.1.2)

pub tree_all : (limits : Limits) (items : List TreeItem) → IsMadeTree limits items → (o : ObjName) → IsOfTree items o → Reach (TreeStore items) (IsRootOf items) o
tree_all limits [] has o w = absurd (none_there has.tree.root)
tree_all limits (i ∷ rest) has o w =
    subst (Reach (TreeStore (i ∷ rest)) (IsRootOf (i ∷ rest))) w.2 (tree_reached limits i rest has (IsRootOf (i ∷ rest)) (start _ (inl refl)) (start _ (inr refl)) w.0 w.1)

root_there : (limits : Limits) (items : List TreeItem) → IsMadeTree limits items → (o : ObjName) → IsRootOf items o → IsOfTree items o
root_there limits [] has o root = absurd (none_there has.tree.root)
root_there limits (i ∷ rest) has o root =
    let at = root_first i rest (rises_from (i ∷ rest) has.ordered.ascending) has.tree.root in
    let stands = stands_first i rest in
    of_in (i ∷ rest) o (⊎_elim
    (λ e. subst (IsIn (TreeStore (i ∷ rest))) (sym e) (_, tree_there limits (i ∷ rest) has i rest stands at.1))
    (λ e. subst (IsIn (TreeStore (i ∷ rest))) (sym e) (_, meta_there limits (i ∷ rest) has i rest stands at.1))
    root)

reached_kind : (items : List TreeItem) (o : ObjName) → Reach (TreeStore items) (IsRootOf items) o → o.kind ≢ kinds.Commit
reached_kind items o reached = ⊎_elim (λ root. folder_kind (root_of items).0 (root_of items).1 o root) (λ k. k) (reach_kind (TreeStore items) (IsRootOf items) o reached)

pub tree_kind : (limits : Limits) (items : List TreeItem) → IsMadeTree limits items → (o : ObjName) → IsOfTree items o → o.kind ≢ kinds.Commit
tree_kind limits items has o w = reached_kind items o (tree_all limits items has o w)

pub tree_only : (limits : Limits) (items : List TreeItem) → IsMadeTree limits items → (o : ObjName) → Reach (TreeStore items) (IsRootOf items) o → IsOfTree items o
tree_only limits items has o (start _ root) = root_there limits items has o root
tree_only limits items has o (onward p _ at refers) = of_in items o (only_work limits items has p o (reached_kind items p at) refers)

-- ---- a commit of it

module _ (limits : Limits) (items : List TreeItem) (has : IsMadeTree limits items) (commit bytes : List ℕ) (c : IsCommitOf items bytes) where
  abbrev itself : ObjName
  itself = name_of kinds.Commit commit

  abbrev S : Store
  S = CommitStore items commit bytes

  has_commit : HasCommit S commit c.parts
  has_commit = record { bytes = bytes; stored = inr (refl, refl); reads = c.reads }

  root_reached : (o : ObjName) → IsRootOf items o → Reach S (Is itself) o
  root_reached o of =
      onward itself o (start itself refl) (inl (c.parts, refl, has_commit, ⊎_elim (λ e. inl (e ∙ ap (name_of kinds.DirTree) (sym c.tree))) (λ e. inr (e ∙ ap (name_of kinds.DirMeta) (sym c.meta))) of))

  pub commit_all : (o : ObjName) → (o ≡ itself) ⊎ IsOfTree items o → Reach S (Is itself) o
  commit_all o (inl is) = start o is
  commit_all o (inr w) =
      reach_least (TreeStore items) (IsRootOf items) (Reach S (Is itself)) root_reached
      (λ x next at refers. onward x next at (refers_where (TreeStore items) S x next (λ b there. inl there) refers)) o
      (tree_all limits items has o w)

  -- and nothing else
  same_parts : (p : ObjName) (d : CommitParts) → HasCommit S p.csum d → (d.tree ≡ (root_of items).0) × (d.meta ≡ (root_of items).1)
  same_parts p d here = by here.stored
    where
      by : S (name_of kinds.Commit p.csum) here.bytes → (d.tree ≡ (root_of items).0) × (d.meta ≡ (root_of items).1)
      by (inl w) = absurd (tree_kind limits items has (name_of kinds.Commit p.csum) (w.0, w.1, w.2) refl)
      by (inr (n, e)) =
          let is : d ≡ c.parts = one_commit d c.parts bytes here.reads.0.time c.reads.0.time (here.reads.0.form ∙ ap Some e) c.reads.0.form in
          (ap (λ (x : CommitParts). x.tree) is ∙ c.tree, ap (λ (x : CommitParts). x.meta) is ∙ c.meta)

  next_there : (p next : ObjName) → Refers S p next → IsOfTree items next
  next_there p next (inl (d, is, here, of)) =
      let same = same_parts p d here in
      root_there limits items has next (⊎_elim (λ e. inl (e ∙ ap (name_of kinds.DirTree) same.0)) (λ e. inr (e ∙ ap (name_of kinds.DirMeta) same.1)) of)
  next_there p next (inr (e, is, here, entry)) = by here.stored
    where
      no_commit : p.kind ≡ kinds.Commit → ⊥
      no_commit k = let z : kinds.DirTree ≡ kinds.Commit = sym is ∙ k in cc

      by : S (name_of kinds.DirTree p.csum) here.bytes → IsOfTree items next
      by (inl w) = of_in items next (only_work limits items has p next no_commit (inr (e, is, record { bytes = here.bytes; stored = w; reads = here.reads }, entry)))
      by (inr (n, same)) = (let z : kinds.DirTree ≡ kinds.Commit = ap (λ (x : ObjName). x.kind) n in cc)

  pub commit_only : (o : ObjName) → Reach S (Is itself) o → (o ≡ itself) ⊎ IsOfTree items o
  commit_only o (start _ is) = inl is
  commit_only o (onward p _ at refers) = inr (next_there p o refers)

  reached_in : (o : ObjName) → Reach S (Is itself) o → IsIn S o
  reached_in o reached = ⊎_elim (λ is. (bytes, inr (is, refl))) (λ w. (w.0.bytes, inl (w.0, w.1, w.2, refl))) (commit_only o reached)

  -- On a store that has all of them, and at most one object of each name, the same is reached.
  module _ (T : Store) (map : IsMap T) (all : (o : Object) → Contains (work items) o → T o.name o.bytes) (there : T itself bytes) where
    up : (o : ObjName) (b : List ℕ) → S o b → T o b
    up o b (inl (x, among, n, e)) = subst (T o) e (subst (λ y. T y x.bytes) n (all x among))
    up o b (inr (n, e)) = subst (T o) (sym e) (subst (λ y. T y bytes) (sym n) there)

    pub store_up : (o : ObjName) → Reach S (Is itself) o → Reach T (Is itself) o
    store_up = reach_stays S T (Is itself) (Is itself) (λ o is. is) (λ o b reached. up o b)

    pub store_down : (o : ObjName) → Reach T (Is itself) o → Reach S (Is itself) o
    store_down = reach_back S T (Is itself) (λ o b reached stored.
        let w = reached_in o reached in subst (S o) (map.one o w.0 b (up o w.0 w.1) stored) w.1)

made_of_it : (S : Store) (limits : Limits) (items : List TreeItem) → HasTree S limits items → IsMadeTree limits items
made_of_it S limits items has = record { ordered = has.ordered; typed = has.typed; tree = has.tree; makeable = has.makeable }

commit_of_it : (S : Store) (items : List TreeItem) (commit : List ℕ) (c : CommitsTree S items commit) → IsCommitOf items c.here.bytes
commit_of_it S items commit c = record { parts = c.parts; reads = c.here.reads; tree = c.tree; meta = c.meta }

pub disk_only : (S : Store) (limits : Limits) (items : List TreeItem) (commit : List ℕ) → HasTree S limits items → CommitsTree S items commit → (o : ObjName) → Reach S (Is (name_of kinds.Commit commit)) o → (o ≡ name_of kinds.Commit commit) ⊎ IsOfTree items o
disk_only S limits items commit has c o reached =
    let m = made_of_it S limits items has in
    let k = commit_of_it S items commit c in
    commit_only limits items m commit c.here.bytes k o (store_down limits items m commit c.here.bytes k S has.one has.objects c.here.stored o reached)

pub disk_all : (S : Store) (limits : Limits) (items : List TreeItem) (commit : List ℕ) → HasTree S limits items → CommitsTree S items commit → (o : ObjName) → (o ≡ name_of kinds.Commit commit) ⊎ IsOfTree items o → Reach S (Is (name_of kinds.Commit commit)) o
disk_all S limits items commit has c o is =
    let m = made_of_it S limits items has in
    let k = commit_of_it S items commit c in
    store_up limits items m commit c.here.bytes k S has.one has.objects c.here.stored o (commit_all limits items m commit c.here.bytes k o is)

-- ---- a store that holds each object that it leads to

module _ (S : Store) (limits : Limits) (items : List TreeItem) (has : IsMadeTree limits items) (commit bytes : List ℕ) (c : IsCommitOf items bytes)
    (kept : (o : ObjName) (b : List ℕ) → Reach (Held S items commit bytes) (Is (name_of kinds.Commit commit)) o → CommitStore items commit bytes o b → S o b) where
  one_of : (o : ObjName) (b : List ℕ) → CommitStore items commit bytes o b → (o ≡ name_of kinds.Commit commit) ⊎ IsOfTree items o
  one_of o b (inl (x, among, n, e)) = inr (x, among, n)
  one_of o b (inr (n, e)) = inl n

  -- It holds all of them.
  pub held_all : (o : ObjName) (b : List ℕ) → CommitStore items commit bytes o b → S o b
  held_all o b is =
      kept o b
      (reach_back (Held S items commit bytes) (CommitStore items commit bytes) (Is (name_of kinds.Commit commit)) (λ x d reached there. (there, kept x d reached there)) o
      (commit_all limits items has commit bytes c o (one_of o b is)))
      is

  pub held_whole : IsMap S → Complete S limits commit
  held_whole map = complete S limits items commit
      (record { one = map; ordered = has.ordered; typed = has.typed; tree = has.tree; makeable = has.makeable; objects = λ o among. held_all o.name o.bytes (inl (o, among, refl, refl)) })
      (record {
        parts = c.parts;
        here = record { bytes = bytes; stored = held_all (name_of kinds.Commit commit) bytes (inr (refl, refl)); reads = c.reads };
        tree = c.tree;
        meta = c.meta;
      })
