-- What folders on a way show and name, and that a name stands once in a folder.
use Rattle.std.proofs.Common.{◌≡◌, ◌⊎◌, inl, inr, ⊎_elim, ℕ, List, [], ◌∷◌, ◌++◌, map, refl, sym, ◌∙◌, ap, subst, arith, Contains}
use Rattle.std.specs.List.{AllByRecursion}
use Rattle.std.specs.List.Sorted.{IsStrictlySortedBy}
use Rattle.std.specs.Cmp.Lexicographic.{slice_cmp}
use Rattle.std.specs.Ordering.{nat_cmp}
use Rattle.std.specs.declared.cmp.Ordering.TheVariants.{Less, Greater}
use Rattle.std.proofs.lemmas.Cmp.{nat_list_cmp_total}
use Rattle.ost_types.specs.declared.meta.Meta.{Meta}
use Rattle.ost_types.specs.declared.node.NodeName.{NodeName}
use Rattle.ost_types.specs.declared.node.NodeName.TheVariants as node
use Rattle.ost_types.specs.declared.object.Kind.TheVariants as kind
use Rattle.ost_types.specs.declared.object.ObjName.{ObjName}
use Rattle.ost_types.specs.Path.{Name, Path}
use Rattle.ost_forms.specs.declared.entry.FileItem.{FileItem}
use Rattle.ost_forms.specs.declared.entry.FolderItem.{FolderItem}
use Rattle.ost_forms.specs.DirTree.{Entries, IsAscending, IsSorted, file_names, folder_names}
use Rattle.repo_model.specs.Objects.{Store, IsMap}
use Rattle.repo_model.specs.Trees.{HasEntries, HasFile, HasFolder, HasMeta, Names, NamesFile, Shows, name_of}
use Rattle.tree_read.proofs.Merged.{head_or_tail}
use Rattle.tree_read.proofs.Walk.{entries_one, mapped}
use Rattle.read_command.specs.Ways.{Way}

-- ---- a name once

not_before : (x : Name) → slice_cmp nat_cmp x x ≡ Less → ⊥
not_before x is = let n : Less ≡ Greater = sym is ∙ (nat_list_cmp_total.antisymm x x ∙ rw is refl) in cc

none_in : {X : Type 0} (x : X) → Contains [] x → ⊥
none_in x h = omega (arith, h.1)

later_in : {X : Type 0} (f : X → Name) (x : Name) (xs : List X) (y : X) → AllByRecursion (λ z. slice_cmp nat_cmp x z ≡ Less) (map f xs) → Contains xs y → slice_cmp nat_cmp x (f y) ≡ Less
later_in f x [] y all has = absurd (none_in y has)
later_in f x (z ∷ xs) y all has = ⊎_elim (λ same. subst (λ w. slice_cmp nat_cmp x (f w) ≡ Less) same all.0) (λ has. later_in f x xs y all.1 has) (head_or_tail z xs y has)

once_by : {X : Type 0} (f : X → Name) (x : X) (xs : List X) (a b : X) → AllByRecursion (λ z. slice_cmp nat_cmp (f x) z ≡ Less) (map f xs) → f a ≡ f b
    → (x ≡ a) ⊎ Contains xs a → (x ≡ b) ⊎ Contains xs b → (Contains xs a → Contains xs b → a ≡ b) → a ≡ b
once_by f x xs a b less same (inl e) (inl g) rest = sym e ∙ g
once_by f x xs a b less same (inl e) (inr g) rest = absurd (not_before (f x) (subst (λ z. slice_cmp nat_cmp (f x) z ≡ Less) (sym (ap f e ∙ same)) (later_in f (f x) xs b less g)))
once_by f x xs a b less same (inr e) (inl g) rest = absurd (not_before (f x) (subst (λ z. slice_cmp nat_cmp (f x) z ≡ Less) (same ∙ sym (ap f g)) (later_in f (f x) xs a less e)))
once_by f x xs a b less same (inr e) (inr g) rest = rest e g

once : {X : Type 0} (f : X → Name) (xs : List X) (a b : X) → IsAscending (map f xs) → Contains xs a → Contains xs b → f a ≡ f b → a ≡ b
unfolding IsStrictlySortedBy
once f [] a b sorted p q same = absurd (none_in a p)
once f (x ∷ xs) a b sorted p q same = once_by f x xs a b sorted.0 same (head_or_tail x xs a p) (head_or_tail x xs b q) (λ e g. once f xs a b sorted.1 e g same)

pub file_once : (e : Entries) (x : Name) (s r : List ℕ) → IsSorted e → HasFile e x s → HasFile e x r → s ≡ r
file_once e x s r sorted a b =
    let same = once (λ (i : FileItem). i.name) e.files a.item b.item sorted.files a.among b.among (a.name ∙ sym b.name) in
    sym a.file ∙ ap (λ i. i.file) same ∙ b.file

pub folder_once : (e : Entries) (x : Name) (t m u k : List ℕ) → IsSorted e → HasFolder e x t m → HasFolder e x u k → (u ≡ t) × (k ≡ m)
folder_once e x t m u k sorted a b =
    let same = once (λ (i : FolderItem). i.name) e.folders b.item a.item sorted.folders b.among a.among (b.name ∙ sym a.name) in
    (sym b.tree_is ∙ ap (λ i. i.tree) same ∙ a.tree_is, sym b.meta_is ∙ ap (λ i. i.meta) same ∙ a.meta_is)

pub apart_in : (e : Entries) (x : Name) (s t m : List ℕ) → IsSorted e → HasFile e x s → HasFolder e x t m → ⊥
apart_in e x s t m sorted a b =
    sorted.apart x
    (subst (Contains (file_names e.files)) a.name (mapped (λ (i : FileItem). i.name) e.files a.item a.among))
    (subst (Contains (folder_names e.folders)) b.name (mapped (λ (i : FolderItem). i.name) e.folders b.item b.among))

-- ---- what is shown is named

pub leaf_shown : (S : Store) (tree meta : List ℕ) (p : Path) (sum : List ℕ) → Names S tree meta p (name_of kind.File sum) → Shows S tree meta p (node.Leaf sum)
unfolding Shows Names
leaf_shown S tree meta [] sum (inl is) = absurd (let n : kind.File ≡ kind.DirTree = ap (λ o. o.kind) is in cc)
leaf_shown S tree meta [] sum (inr is) = absurd (let n : kind.File ≡ kind.DirMeta = ap (λ o. o.kind) is in cc)
leaf_shown S tree meta (x ∷ []) sum (e, has, inl (s, file, is)) = (e, has, inl (s, file, ap (λ o. node.Leaf o.csum) is))
leaf_shown S tree meta (x ∷ y ∷ rest) sum (e, has, inl none) = absurd none
leaf_shown S tree meta (x ∷ rest) sum (e, has, inr (t, m, folder, names)) = (e, has, inr (t, m, folder, leaf_shown S t m rest sum names))

pub folder_shown : (S : Store) (tree meta : List ℕ) (p : Path) (k : List ℕ) (a : Meta) → Names S tree meta p (name_of kind.DirMeta k) → HasMeta S k a → Shows S tree meta p (node.Folder a)
unfolding Shows Names
folder_shown S tree meta [] k a (inl is) has = absurd (let n : kind.DirMeta ≡ kind.DirTree = ap (λ o. o.kind) is in cc)
folder_shown S tree meta [] k a (inr is) has = (a, subst (λ z. HasMeta S z a) (ap (λ o. o.csum) is) has, refl)
folder_shown S tree meta (x ∷ []) k a (e, here, inl (s, file, is)) has = absurd (let n : kind.DirMeta ≡ kind.File = ap (λ o. o.kind) is in cc)
folder_shown S tree meta (x ∷ y ∷ rest) k a (e, here, inl none) has = absurd none
folder_shown S tree meta (x ∷ rest) k a (e, here, inr (t, m, folder, names)) has = (e, here, inr (t, m, folder, folder_shown S t m rest k a names has))

pub shown_leaf : (S : Store) (tree meta : List ℕ) (p : Path) (sum : List ℕ) → Shows S tree meta p (node.Leaf sum) → Names S tree meta p (name_of kind.File sum)
unfolding Shows Names
shown_leaf S tree meta [] sum shown = let n : node.Leaf sum ≡ node.Folder shown.0 = shown.2 in cc
shown_leaf S tree meta (x ∷ []) sum (e, has, inl (s, file, is)) = (e, has, inl (s, file, let same : sum ≡ s = (let l : node.Leaf sum ≡ node.Leaf s = is in cc) in ap (name_of kind.File) same))
shown_leaf S tree meta (x ∷ y ∷ rest) sum (e, has, inl none) = absurd none
shown_leaf S tree meta (x ∷ rest) sum (e, has, inr (t, m, folder, shown)) = (e, has, inr (t, m, folder, shown_leaf S t m rest sum shown))

-- the attributes that a folder is shown with
pub record Attributes (S : Store) (a : Meta) (NamedBy : ObjName → Type 0) : Type 0 where
  pub sum : List ℕ
  pub named : NamedBy (name_of kind.DirMeta sum)
  pub has : HasMeta S sum a

pub shown_folder : (S : Store) (tree meta : List ℕ) (p : Path) (a : Meta) → Shows S tree meta p (node.Folder a) → Attributes S a (Names S tree meta p)
unfolding Shows Names
shown_folder S tree meta [] a shown =
    let same : a ≡ shown.0 = (let f : node.Folder a ≡ node.Folder shown.0 = shown.2 in cc) in
    record { sum = meta; named = inr refl; has = subst (HasMeta S meta) (sym same) shown.1 }
shown_folder S tree meta (x ∷ []) a (e, has, inl (s, file, is)) = let n : node.Folder a ≡ node.Leaf s = is in cc
shown_folder S tree meta (x ∷ y ∷ rest) a (e, has, inl none) = absurd none
shown_folder S tree meta (x ∷ rest) a (e, has, inr (t, m, folder, shown)) =
    let below = shown_folder S t m rest a shown in
    record { sum = below.sum; named = (e, has, inr (t, m, folder, below.named)); has = below.has }

-- ---- ways

-- what a folder on the way shows, and names, the first one does
pub way_shows : (S : Store) (tree meta : List ℕ) (p : Path) (t m : List ℕ) (rest : Path) (n : NodeName) → Way S tree meta p t m → Shows S t m rest n → Shows S tree meta (p ++ rest) n
unfolding Way Shows
way_shows S tree meta [] t m rest n w shown = subst (λ z. Shows S z meta rest n) w.0 (subst (λ z. Shows S t z rest n) w.1 shown)
way_shows S tree meta (x ∷ p) t m rest n (e, has, u, k, folder, w) shown = (e, has, inr (u, k, folder, way_shows S u k p t m rest n w shown))

pub way_names : (S : Store) (tree meta : List ℕ) (p : Path) (t m : List ℕ) (rest : Path) (o : ObjName) → Way S tree meta p t m → Names S t m rest o → Names S tree meta (p ++ rest) o
unfolding Way Names
way_names S tree meta [] t m rest o w named = subst (λ z. Names S z meta rest o) w.0 (subst (λ z. Names S t z rest o) w.1 named)
way_names S tree meta (x ∷ p) t m rest o (e, has, u, k, folder, w) named = (e, has, inr (u, k, folder, way_names S u k p t m rest o w named))

pub way_more : (S : Store) (tree meta : List ℕ) (p : Path) (t m : List ℕ) (e : Entries) (x : Name) (u k : List ℕ) → Way S tree meta p t m → HasEntries S t e → HasFolder e x u k → Way S tree meta (p ++ x ∷ []) u k
unfolding Way
way_more S tree meta [] t m e x u k w has folder = (e, subst (λ z. HasEntries S z e) w.0 has, u, k, folder, (refl, refl))
way_more S tree meta (y ∷ p) t m e x u k (f, here, a, b, sub, w) has folder = (f, here, a, b, sub, way_more S a b p t m e x u k w has folder)

no_file : (e : Entries) (x : Name) (u k : List ℕ) (q : Path) (o : ObjName) → IsSorted e → HasFolder e x u k → NamesFile e x q o → ⊥
no_file e x u k [] o sorted folder named = apart_in e x named.0 u k sorted named.1 folder
no_file e x u k (y ∷ q) o sorted folder named = named

module _ (S : Store) (map_of : IsMap S) where
  pub sorted_of : (tree : List ℕ) (e : Entries) → HasEntries S tree e → IsSorted e
  sorted_of tree e has = has.reads.3

  -- and it names nothing else there
  pub names_way : (tree meta : List ℕ) (p : Path) (t m : List ℕ) (rest : Path) (o : ObjName) → Way S tree meta p t m → Names S tree meta (p ++ rest) o → Names S t m rest o
  unfolding Way Names
  names_way tree meta [] t m rest o w named = subst (λ z. Names S z m rest o) (sym w.0) (subst (λ z. Names S tree z rest o) (sym w.1) named)
  names_way tree meta (x ∷ p) t m rest o (e, has, u, k, folder, w) (f, here, what) = ⊎_elim
      (λ file. absurd (no_file e x u k (p ++ rest) o (sorted_of tree e has) folder file))
      (λ g. (let same = folder_once e x u k g.0 g.1 (sorted_of tree e has) folder g.2 in
      names_way u k p t m rest o w (subst (λ z. Names S z k (p ++ rest) o) same.0 (subst (λ z. Names S g.0 z (p ++ rest) o) same.1 g.3))))
      (subst (λ g. NamesFile g x (p ++ rest) o ⊎ ((a : List ℕ) × (b : List ℕ) × HasFolder g x a b × Names S a b (p ++ rest) o)) (entries_one S map_of tree f e here has) what)

-- a way to a folder that is named
pub record ToTree (S : Store) (tree meta : List ℕ) (p : Path) (t : List ℕ) : Type 0 where
  pub attributes : List ℕ
  pub way : Way S tree meta p t attributes

pub tree_way : (S : Store) (tree meta : List ℕ) (p : Path) (t : List ℕ) → Names S tree meta p (name_of kind.DirTree t) → ToTree S tree meta p t
unfolding Way Names
tree_way S tree meta [] t (inl is) = record { attributes = meta; way = (ap (λ o. o.csum) is, refl) }
tree_way S tree meta [] t (inr is) = absurd (let n : kind.DirTree ≡ kind.DirMeta = ap (λ o. o.kind) is in cc)
tree_way S tree meta (x ∷ []) t (e, has, inl (s, file, is)) = absurd (let n : kind.DirTree ≡ kind.File = ap (λ o. o.kind) is in cc)
tree_way S tree meta (x ∷ y ∷ p) t (e, has, inl none) = absurd none
tree_way S tree meta (x ∷ p) t (e, has, inr (u, k, folder, named)) =
    let below = tree_way S u k p t named in
    record { attributes = below.attributes; way = (e, has, u, k, folder, below.way) }
