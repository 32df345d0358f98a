-- The entries of a folder of a tree, item by item, and the items of a tree's objects.
use Rattle.std.proofs.Common.{◌≡◌, ◌⊎◌, inl, inr, ℕ, List, [], ◌∷◌, ◌++◌, Option, Some, None, refl, sym, ◌∙◌, ap, ap₂, subst, ⊎_elim}
use Rattle.std.specs.Prelude.{All}
use Rattle.std.specs.List.{AllByRecursion}
use Rattle.std.specs.declared.cmp.Ordering.TheVariants.{Less}
use Rattle.std.proofs.lemmas.List.Elements.{All-from_recursion}
use Rattle.sha2.specs.Sha256.{sha256}
use Rattle.ost_types.specs.declared.meta.Meta.{Meta}
use Rattle.ost_types.specs.Path.{Name, Path, AreNames, path_cmp, under}
use Rattle.ost_types.specs.Text.{IsName}
use Rattle.ost_forms.specs.declared.entry.FileItem.{FileItem}
use Rattle.ost_forms.specs.declared.entry.FolderItem.{FolderItem}
use Rattle.ost_forms.specs.declared.tree_item.BodySpec.{BodySpec}
use Rattle.ost_forms.specs.declared.tree_item.TreeItem.{TreeItem}
use Rattle.tree_build.specs.declared.sums.Sums.{Sums}
use Rattle.tree_build.specs.declared.sums.Sums.TheVariants as sums
use Rattle.tree_build.specs.Objects.{Object, Made, Child, made, made_of, sums_by, child_in, children, name_in, file_by, folder_by, files_of, folders_of, tree_bytes, meta_bytes, file_bytes, work}
use Rattle.tree_build.specs.Objects as objects
use Rattle.tree_build.proofs.Lists.{Among, all_from}
use Rattle.tree_build.proofs.Names.{under-name_in, name_in-under}
use Rattle.tree_build.proofs.Suffixes.{Rises}
use Rattle.tree_build.proofs.Pendings.{AllMade, MadeRises}
use Rattle.tree_build.proofs.Works.{work_first}
use Rattle.tree_build.proofs.Places.{Stands, stands_more, stands_first, made_stands, made_among, among_maps, maps_among}

all_made : (Q : Path → Type 0) (items : List TreeItem) → AllByRecursion (λ i. Q i.path) items → AllMade Q (made items)
unfolding made
all_made Q [] h = tt
all_made Q (i ∷ items) h = (h.0, all_made Q items h.1)

pub made_rises : (items : List TreeItem) → Rises items → MadeRises (made items)
unfolding made
made_rises [] r = tt
made_rises (i ∷ items) r = (all_made (λ q. path_cmp i.path q ≡ Less) items r.0, made_rises items r.1)

pub last_is_name : (f : Path) (x : Name) → AreNames (under f x) → IsName x
last_is_name [] x h = h.0
last_is_name (a ∷ f) x h = last_is_name f x h.1

pub all_by : {A : Type 0} (P : A → Type 0) (xs : List A) → ((x : A) → Among x xs → P x) → All P xs
all_by P xs h = All-from_recursion P xs (all_from P xs h)

-- a file of these in the folder, and a folder
pub record IsFileAt (items : List TreeItem) (f : Path) (x : Name) (sum : List ℕ) : Type 0 where
  pub item : TreeItem
  pub behind : List TreeItem
  pub stands : Stands items item behind
  pub at : item.path ≡ under f x
  pub body : BodySpec
  pub is : item.body ≡ Some body
  pub sum_is : sum ≡ sha256 (file_bytes item.meta body)

pub record IsFolderAt (items : List TreeItem) (f : Path) (x : Name) (tree meta : List ℕ) : Type 0 where
  pub item : TreeItem
  pub behind : List TreeItem
  pub stands : Stands items item behind
  pub at : item.path ≡ under f x
  pub is : item.body ≡ None
  pub tree_is : tree ≡ sha256 (tree_bytes (made behind) item.path)
  pub meta_is : meta ≡ sha256 (meta_bytes item.meta)

file_by_is : (x : Name) (s : Sums) (i : FileItem) → file_by x s ≡ Some i → (x ≡ i.name) × (s ≡ sums.File i.file)
file_by_is x (sums.File sum) i e = let same : record { name = x; file = sum } ≡ i = some_same e in (ap (λ (i : FileItem). i.name) same, ap (λ (i : FileItem). sums.File i.file) same)
  where
    some_same : {A : Type 0} {a b : A} → Some a ≡ Some b → a ≡ b
    some_same e = cc
file_by_is x (sums.Folder tree meta) i e = cc

folder_by_is : (x : Name) (s : Sums) (i : FolderItem) → folder_by x s ≡ Some i → (x ≡ i.name) × (s ≡ sums.Folder i.tree i.meta)
folder_by_is x (sums.File sum) i e = cc
folder_by_is x (sums.Folder tree meta) i e =
    let same : record { name = x; tree = tree; meta = meta } ≡ i = some_same e in (ap (λ (i : FolderItem). i.name) same, ap (λ (i : FolderItem). sums.Folder i.tree i.meta) same)
  where
    some_same : {A : Type 0} {a b : A} → Some a ≡ Some b → a ≡ b
    some_same e = cc

child_in_is : (f : Path) (m : Made) (c : Child) → child_in f m ≡ Some c → (name_in f m.path ≡ Some c.name) × (m.sums ≡ c.sums)
child_in_is f m c e = go (name_in f m.path) refl
  where
    go : (o : Option Name) → name_in f m.path ≡ o → (name_in f m.path ≡ Some c.name) × (m.sums ≡ c.sums)
    go None n = let z : None ≡ Some c = sym (ap (λ o. objects.child_by m o) n) ∙ e in cc
    go (Some x) n =
        let z : Some (record { name = x; sums = m.sums }) ≡ Some c = sym (ap (λ o. objects.child_by m o) n) ∙ e in
        let w : record { name = x; sums = m.sums } ≡ c = cc in
        (n ∙ ap (λ (c : Child). Some c.name) w, ap (λ (c : Child). c.sums) w)

child_in_at : (f : Path) (m : Made) (x : Name) → m.path ≡ under f x → child_in f m ≡ Some (record { name = x; sums = m.sums })
child_in_at f m x at = ap (λ o. objects.child_by m o) (ap (name_in f) at ∙ name_in-under f x)

sums_file : (ms : List Made) (p : Path) (m : Meta) (b : Option BodySpec) (sum : List ℕ) → sums_by ms p m b ≡ sums.File sum → (body : BodySpec) × (b ≡ Some body) × (sum ≡ sha256 (file_bytes m body))
sums_file ms p m None sum e = cc
sums_file ms p m (Some body) sum e = (body, refl, cc)

sums_folder : (ms : List Made) (p : Path) (m : Meta) (b : Option BodySpec) (tree meta : List ℕ) → sums_by ms p m b ≡ sums.Folder tree meta → (b ≡ None) × (tree ≡ sha256 (tree_bytes ms p)) × (meta ≡ sha256 (meta_bytes m))
sums_folder ms p m None tree meta e = (refl, cc, cc)
sums_folder ms p m (Some body) tree meta e = cc

pub file_from : (items : List TreeItem) (f : Path) (i : FileItem) → Among i (files_of (children f (made items))) → IsFileAt items f i.name i.file
file_from items f i a =
    let c = among_maps (λ (c : Child). file_by c.name c.sums) i (children f (made items)) a in
    let m = among_maps (child_in f) c.0 (made items) c.1 in
    let by = file_by_is c.0.name c.0.sums i c.2 in
    let child = child_in_is f m.0 c.0 m.2 in
    let j = made_stands items m.0 m.1 in
    let body = sums_file (made j.1) j.0.path j.0.meta j.0.body i.file (ap (λ (m : Made). m.sums) (sym j.3) ∙ child.1 ∙ by.1) in
    record {
      item = j.0;
      behind = j.1;
      stands = j.2;
      at = ap (λ (m : Made). m.path) (sym j.3) ∙ under-name_in f m.0.path c.0.name child.0 ∙ ap (under f) by.0;
      body = body.0;
      is = body.1;
      sum_is = body.2;
    }

pub folder_from : (items : List TreeItem) (f : Path) (i : FolderItem) → Among i (folders_of (children f (made items))) → IsFolderAt items f i.name i.tree i.meta
folder_from items f i a =
    let c = among_maps (λ (c : Child). folder_by c.name c.sums) i (children f (made items)) a in
    let m = among_maps (child_in f) c.0 (made items) c.1 in
    let by = folder_by_is c.0.name c.0.sums i c.2 in
    let child = child_in_is f m.0 c.0 m.2 in
    let j = made_stands items m.0 m.1 in
    let body = sums_folder (made j.1) j.0.path j.0.meta j.0.body i.tree i.meta (ap (λ (m : Made). m.sums) (sym j.3) ∙ child.1 ∙ by.1) in
    record {
      item = j.0;
      behind = j.1;
      stands = j.2;
      at = ap (λ (m : Made). m.path) (sym j.3) ∙ under-name_in f m.0.path c.0.name child.0 ∙ ap (under f) by.0;
      is = body.0;
      tree_is = body.1;
      meta_is = body.2;
    }

pub file_into : (items : List TreeItem) (f : Path) (x : Name) (sum : List ℕ) → IsFileAt items f x sum → Among (record { name = x; file = sum }) (files_of (children f (made items)))
file_into items f x sum h =
    let m = made_of (made h.behind) h.item in
    let s : m.sums ≡ sums.File sum = ap (sums_by (made h.behind) h.item.path h.item.meta) h.is ∙ ap sums.File (sym h.sum_is) in
    let c : Child = record { name = x; sums = m.sums } in
    maps_among (λ (c : Child). file_by c.name c.sums) c (record { name = x; file = sum }) (children f (made items))
    (maps_among (child_in f) m c (made items) (made_among items h.item h.behind h.stands) (child_in_at f m x h.at))
    (ap (file_by x) s)

pub folder_into : (items : List TreeItem) (f : Path) (x : Name) (tree meta : List ℕ) → IsFolderAt items f x tree meta → Among (record { name = x; tree = tree; meta = meta }) (folders_of (children f (made items)))
folder_into items f x tree meta h =
    let m = made_of (made h.behind) h.item in
    let s : m.sums ≡ sums.Folder tree meta = ap (sums_by (made h.behind) h.item.path h.item.meta) h.is ∙ ap₂ sums.Folder (sym h.tree_is) (sym h.meta_is) in
    let c : Child = record { name = x; sums = m.sums } in
    maps_among (λ (c : Child). folder_by c.name c.sums) c (record { name = x; tree = tree; meta = meta }) (children f (made items))
    (maps_among (child_in f) m c (made items) (made_among items h.item h.behind h.stands) (child_in_at f m x h.at))
    (ap (folder_by x) s)

split_among : {A : Type 0} (x : A) (xs ys : List A) → Among x (xs ++ ys) → Among x xs ⊎ Among x ys
split_among x [] ys a = inr a
split_among x (y ∷ xs) ys (inl e) = inl (inl e)
split_among x (y ∷ xs) ys (inr a) = ⊎_elim (λ b. inl (inr b)) (λ b. inr b) (split_among x xs ys a)

-- an object of the tree is one of an item's
pub work_from : (items : List TreeItem) (o : Object) → Among o (work items) → (i : TreeItem) × (behind : List TreeItem) × Stands items i behind × Among o (objects.objects_of (made behind) i)
work_from [] o a = absurd (unfold work in a)
work_from (i ∷ items) o a = ⊎_elim
    (λ before. let w = work_from items o before in (w.0, w.1, stands_more i w.0 items w.1 w.2, w.3))
    (λ here. (i, items, stands_first i items, here))
    (split_among o (work items) (objects.objects_of (made items) i) (subst (Among o) (work_first i items) a))
