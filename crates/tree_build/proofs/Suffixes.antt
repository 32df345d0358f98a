-- Items in order, the last ones of them, and where an item stands.
use Rattle.std.proofs.Common.{◌≡◌, ◌⊎◌, inl, inr, List, [], ◌∷◌, ◌++◌, None, ◌∙◌, ap, subst}
use Rattle.std.specs.List.{AllByRecursion}
use Rattle.std.specs.List.Sorted.{IsStrictlySortedBy}
use Rattle.std.specs.declared.cmp.Ordering.TheVariants.{Less}
use Rattle.ost_types.specs.Path.{Name, Path, path_cmp, under}
use Rattle.ost_forms.specs.declared.tree_item.TreeItem.{TreeItem}
use Rattle.tree_build.specs.Items.{IsTree, HasFolder, IsInFolder, paths_of}
use Rattle.tree_build.proofs.Lists.{Among, contained_among, among_contained, all_from}

-- each item comes after the path
abbrev pub Beyond : Path → List TreeItem → Type 0
Beyond p items = AllByRecursion (λ i. path_cmp p i.path ≡ Less) items

abbrev pub Rises : List TreeItem → Type 0
Rises [] = Unit {0}
Rises (i ∷ items) = Beyond i.path items × Rises items

beyond_from : (p : Path) (items : List TreeItem) → AllByRecursion (λ q. path_cmp p q ≡ Less) (paths_of items) → Beyond p items
beyond_from p [] h = tt
beyond_from p (i ∷ items) h = (h.0, beyond_from p items h.1)

pub rises_from : (items : List TreeItem) → IsStrictlySortedBy path_cmp (paths_of items) → Rises items
unfolding IsStrictlySortedBy
rises_from [] h = tt
rises_from (i ∷ items) h = (beyond_from i.path items h.0, rises_from items h.1)

pub rises_right : (front items : List TreeItem) → Rises (front ++ items) → Rises items
rises_right [] items r = r
rises_right (j ∷ front) items r = rises_right front items r.1

-- a folder of these stands at the path
abbrev pub FolderAt : List TreeItem → Path → Type 0
FolderAt [] g = ⊥
FolderAt (i ∷ items) g = ((i.path ≡ g) × (i.body ≡ None)) ⊎ FolderAt items g

pub folder_at : (items : List TreeItem) (g : Path) (i : TreeItem) → Among i items → i.path ≡ g → i.body ≡ None → FolderAt items g
folder_at [] g i a at body = absurd a
folder_at (j ∷ items) g i (inl e) at body = inl (ap (λ (k : TreeItem). k.path) e ∙ at, ap (λ (k : TreeItem). k.body) e ∙ body)
folder_at (j ∷ items) g i (inr a) at body = inr (folder_at items g i a at body)

pub has_folder_at : (items : List TreeItem) (g : Path) → HasFolder items g → FolderAt items g
has_folder_at items g h = folder_at items g h.item (contained_among h.item items h.among) h.at h.folder

pub beyond_folder : (p g : Path) (items : List TreeItem) → Beyond p items → FolderAt items g → path_cmp p g ≡ Less
beyond_folder p g [] b f = absurd f
beyond_folder p g (i ∷ items) b (inl e) = subst (λ q. path_cmp p q ≡ Less) e.0 b.0
beyond_folder p g (i ∷ items) b (inr f) = beyond_folder p g items b.1 f

first_beyond : (p : Path) (front : List TreeItem) (i : TreeItem) (items : List TreeItem) → Beyond p (front ++ i ∷ items) → path_cmp p i.path ≡ Less
first_beyond p [] i items b = b.0
first_beyond p (j ∷ front) i items b = first_beyond p front i items b.1

-- where a folder stands beside an item
pub sides : (front : List TreeItem) (i : TreeItem) (items : List TreeItem) (g : Path) → Rises (front ++ i ∷ items) → FolderAt (front ++ i ∷ items) g
    → (path_cmp g i.path ≡ Less) ⊎ ((i.path ≡ g) ⊎ FolderAt items g)
sides [] i items g r (inl e) = inr (inl e.0)
sides [] i items g r (inr f) = inr (inr f)
sides (j ∷ front) i items g r (inl e) = inl (subst (λ q. path_cmp q i.path ≡ Less) e.0 (first_beyond j.path front i items r.0))
sides (j ∷ front) i items g r (inr f) = sides front i items g r.1 f

-- the root, or a name in a folder of the items
abbrev pub IsPlaced : List TreeItem → Path → Type 0
IsPlaced items p = (p ≡ []) ⊎ ((g : Path) × (y : Name) × (p ≡ under g y) × FolderAt items g)

placed_by : (items : List TreeItem) (p : Path) → (p ≡ []) ⊎ IsInFolder items p → IsPlaced items p
placed_by items p (inl e) = inl e
placed_by items p (inr w) = inr (w.folder, w.name, w.is, has_folder_at items w.folder w.there)

pub all_placed : (items : List TreeItem) → IsTree items → AllByRecursion (λ i. IsPlaced items i.path) items
all_placed items tree = all_from (λ i. IsPlaced items i.path) items (λ i a. placed_by items i.path (tree.inner i (among_contained i items a)))
