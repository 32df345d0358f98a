-- The map of a commit's tree can be checked out.
use Rattle.std.proofs.Common.{◌≡◌, ◌≤◌, inl, inr, ℕ, zero, suc, arith, map, get_or, ◌^◌, Bool, true, false, List, [], ◌∷◌, ◌++◌, length, Option, Some, None, if◌then◌else◌, refl, ◌∙◌, ap, subst}
use Rattle.std.specs.Prelude.{nat_lt, All, Contains}
use Rattle.std.proofs.lemmas.List.{get_or_default}
use Rattle.std.specs.Int.{w32, to_be_bytes}
use Rattle.std.proofs.Math.Logic.{∥∥₁_elim}
use Rattle.gv_core.proofs.Sizes.{bind_some}
use Rattle.ost_types.specs.declared.limits.Limits.{Limits}
use Rattle.ost_types.specs.declared.meta.Meta.{Meta}
use Rattle.ost_types.specs.declared.node.NodeName.{NodeName}
use Rattle.ost_types.specs.declared.node.NodeName.TheVariants.{Folder, Leaf}
use Rattle.ost_types.specs.declared.object.Kind.TheVariants as kind
use Rattle.ost_types.specs.declared.object.ObjName.{ObjName}
use Rattle.ost_types.specs.Text.{IsName}
use Rattle.ost_types.specs.Path.{Name, Path, AreNames, IsPath, joined, text_of, under}
use Rattle.ost_types.proofs.Joined.{IsPath-from_joined, IsPath-append}
use Rattle.ost_types.specs.PathMap.{Nodes, IsPathMap, node_at}
use Rattle.ost_forms.specs.Commit.{CommitParts}
use Rattle.ost_forms.specs.declared.entry.FileItem.{FileItem}
use Rattle.ost_forms.specs.declared.entry.FolderItem.{FolderItem}
use Rattle.ost_forms.specs.DirTree.{Entries, HasNames}
use Rattle.ost_forms.specs.Stream.{header_form, header_of, framed, zeros, bytes_of}
use Rattle.ost_forms.proofs.Parted.{one_commit}
use Rattle.ost_objects.specs.Object.{HasForm}
use Rattle.fs_trait.specs.View.{Disk}
use Rattle.fs_trait.specs.Seen.{Seen, Vacant, Directory, Symlink, Leaf as SeenLeaf, shows}
use Rattle.repo_model.specs.Objects.{Store, Stores, IsMap, Has, object_in}
use Rattle.repo_model.specs.Trees.{HasCommit, HasEntries, HasFolder, Shows, ShowsLeaf, Names, NamesFile, TreeShows, name_of}
use Rattle.repo_model.specs.Whole.{Complete}
use Rattle.repo_model.proofs.Stored.{stores_map}
use Rattle.checkout.specs.CheckoutFolder.{IsLeaf, leaf_path, Stands, IsCheckout, IsTreeMap, HasLeaves}
use Rattle.checkout.specs.CheckoutWork.{IsPlaced}
use Rattle.checkout.proofs.CheckoutMaps.{found, found_at, found_back}
use Rattle.commit_checkout.specs.TreeFolder.{IsTreeOf, IsTreeFolder, HasRoomBelow}

-- ---- no bytes are a file's content stream

not_none : (xs : List ℕ) (y : ℕ) (ys : List ℕ) → xs ++ y ∷ ys ≡ [] → ⊥
not_none [] y ys e = cc
not_none (x ∷ xs) y ys e = cc

not_framed : (header content : List ℕ) → framed header content ≡ Some [] → ⊥
not_framed header content is = by (nat_lt (length header) (2 ^ 32)) is
  where
    by : (b : Bool) → (if b then Some (to_be_bytes w32 (length header) ++ (zeros ++ (header ++ content))) else None) ≡ Some [] → ⊥
    by true is = not_none (to_be_bytes w32 (length header)) 0 (0 ∷ 0 ∷ 0 ∷ (header ++ content)) (let e : to_be_bytes w32 (length header) ++ (zeros ++ (header ++ content)) ≡ [] = cc in e)
    by false is = let no : None ≡ Some [] = is in cc

not_file : (limit : ℕ) → HasForm kind.File limit [] → ⊥
not_file limit form = ∥∥₁_elim form (λ x y. absurd x) (λ f.
    let header = bind_some (header_form (header_of f.0.meta f.0.body)) (λ h. framed h (bytes_of f.0.body)) [] f.1.1 in
    not_framed header.0 (bytes_of f.0.body) header.2)

object_leaf : (limit : ℕ) (s : Seen) (bytes : List ℕ) → object_in kind.File s ≡ Some bytes → HasForm kind.File limit bytes → IsLeaf s
object_leaf limit Vacant bytes is form = let no : None ≡ Some bytes = is in cc
object_leaf limit (Directory m) bytes is form =
    let e : Some [] ≡ Some bytes = is in
    let none : bytes ≡ [] = cc in
    absurd (not_file limit (subst (HasForm kind.File limit) none form))
object_leaf limit (Symlink m target) bytes is form = tt
object_leaf limit (SeenLeaf n m b) bytes is form = tt

-- ---- the tree of a commit

-- each object that a way down from a folder names is there
abbrev WholeAt : Store → ℕ → List ℕ → List ℕ → Type 0
WholeAt S content tree meta = (p : Path) (o : ObjName) → Names S tree meta p o → Has S content o

below : (S : Store) (content : ℕ) (tree meta : List ℕ) (x : Name) (e : Entries) (t m : List ℕ) → HasEntries S tree e → HasFolder e x t m → WholeAt S content tree meta → WholeAt S content t m
unfolding Names
below S content tree meta x e t m has folder whole p o names = whole (x ∷ p) o (e, has, inr (t, m, folder, names))

root_shown : (S : Store) (content : ℕ) (tree meta : List ℕ) → WholeAt S content tree meta → ((k : Meta) → Shows S tree meta [] (Folder k) → ⊥) → ⊥
unfolding Names Shows
root_shown S content tree meta whole none =
    let has : Has S content (name_of kind.DirMeta meta) = whole [] (name_of kind.DirMeta meta) (inr refl) in
    ∥∥₁_elim has.formed (λ x y. absurd x) (λ k. none k.0 (k.0, record { bytes = has.bytes; stored = has.stored; reads = k.1 }, refl))

not_leaf : (e : Entries) (y : Name) (f : Path) (x : Name) (n : NodeName) → ShowsLeaf e y (under f x) n → ⊥
not_leaf e y [] x n leaf = leaf
not_leaf e y (z ∷ f) x n leaf = leaf

-- what is shown lies in a folder that is shown
folder_shown : (S : Store) (content : ℕ) (tree meta : List ℕ) (f : Path) (x : Name) (n : NodeName) → WholeAt S content tree meta → Shows S tree meta (under f x) n
    → ((k : Meta) → Shows S tree meta f (Folder k) → ⊥) → ⊥
unfolding Shows
folder_shown S content tree meta [] x n whole shown none = root_shown S content tree meta whole none
folder_shown S content tree meta (y ∷ f) x n whole (e, has, inl leaf) none = not_leaf e y f x n leaf
folder_shown S content tree meta (y ∷ f) x n whole (e, has, inr (t, m, folder, shown)) none =
    folder_shown S content t m f x n (below S content tree meta y e t m has folder whole) shown (λ k s. none k (e, has, inr (t, m, folder, s)))

leaf_named : (e : Entries) (x : Name) (rest : Path) (sum : List ℕ) → ShowsLeaf e x rest (Leaf sum) → NamesFile e x rest (name_of kind.File sum)
leaf_named e x [] sum (s, file, is) = (s, file, let same : sum ≡ s = (let l : Leaf sum ≡ Leaf s = is in cc) in ap (name_of kind.File) same)
leaf_named e x (y ∷ rest) sum none = none

-- a leaf that is shown is named
shown_named : (S : Store) (tree meta : List ℕ) (p : Path) (sum : List ℕ) → Shows S tree meta p (Leaf sum) → Names S tree meta p (name_of kind.File sum)
unfolding Shows Names
shown_named S tree meta [] sum shown = let no : Leaf sum ≡ Folder shown.0 = shown.2 in cc
shown_named S tree meta (x ∷ rest) sum (e, has, inl leaf) = (e, has, inl (leaf_named e x rest sum leaf))
shown_named S tree meta (x ∷ rest) sum (e, has, inr (t, m, folder, shown)) = (e, has, inr (t, m, folder, shown_named S t m rest sum shown))

decide : (x : Option NodeName) → (((k : Meta) → x ≡ Some (Folder k) → ⊥) → ⊥) → (k : Meta) × (x ≡ Some (Folder k))
decide None some = absurd (some (λ k e. let no : None ≡ Some (Folder k) = e in cc))
decide (Some (Leaf sum)) some = absurd (some (λ k e. let no : Some (Leaf sum) ≡ Some (Folder k) = e in let l : Leaf sum ≡ Folder k = cc in cc))
decide (Some (Folder k)) some = (k, refl)

-- ---- the names of a path that is shown

map_at : {X Y : Type 0} (f : X → Y) (xs : List X) (k : ℕ) (x : X) → get_or (map f xs) k (f x) ≡ f (get_or xs k x)
map_at f [] k x = refl
map_at f (y ∷ xs) zero x = refl
map_at f (y ∷ xs) (suc k) x = map_at f xs k x

length-map : {X Y : Type 0} (f : X → Y) (xs : List X) → length (map f xs) ≡ length xs
length-map f [] = refl
length-map f (x ∷ xs) = let e = length-map f xs in omega (arith, e)

named : {X : Type 0} (f : X → Name) (xs : List X) (x : X) → All IsName (map f xs) → Contains xs x → IsName (f x)
named f xs x all has =
    let size = length-map f xs in
    let inside = has.1 in
    subst IsName (map_at f xs has.0 x ∙ ap f has.2) (all has.0 (f x) (omega (arith, size, inside)))

leaf_name : (e : Entries) (x : Name) (rest : Path) (n : NodeName) → HasNames e → ShowsLeaf e x rest n → AreNames (x ∷ rest)
leaf_name e x [] n names (sum, file, is) = (subst IsName file.name (named (λ (i : FileItem). i.name) e.files file.item names.files file.among), tt)
leaf_name e x (y ∷ rest) n names none = absurd none

names_shown : (S : Store) (tree meta : List ℕ) (p : Path) (n : NodeName) → Shows S tree meta p n → AreNames p
unfolding Shows
names_shown S tree meta [] n shown = tt
names_shown S tree meta (x ∷ rest) n (e, has, inl leaf) = leaf_name e x rest n has.reads.2 leaf
names_shown S tree meta (x ∷ rest) n (e, has, inr (t, m, folder, shown)) =
    (subst IsName folder.name (named (λ (i : FolderItem). i.name) e.folders folder.item has.reads.2.folders folder.among), names_shown S t m rest n shown)

joined_short : (p : Path) → length (text_of p) ≤ 1024 → length (joined p) ≤ 1024
unfolding joined
joined_short [] short = omega arith
joined_short (x ∷ p) short = short

-- a short path may stand below a short one
fits_below : (into p : Path) → HasRoomBelow into → AreNames p → length p ≤ 64 → length (text_of p) ≤ 1024 → IsPath (into ++ p)
fits_below into p room names few short =
    let a = joined_short into room.short in
    let b = joined_short p short in
    let n = room.few in
    let q : IsPath p = IsPath-from_joined p names (omega (arith, few)) (omega (arith, b)) in
    (IsPath-append into p room.path q).0 (omega (arith, n, few), omega (arith, a, b))

module _ (S : Store) (one_each : IsMap S) (limits : Limits) (commit : List ℕ) (tree : Nodes) (map : IsPathMap tree) (whole : Complete S limits commit) (is : IsTreeOf S commit tree) where
  same_parts : (c : CommitParts) → HasCommit S commit c → c ≡ whole.parts
  same_parts c has =
      let here = whole.here in
      let same : has.bytes ≡ here.bytes = one_each.one (name_of kind.Commit commit) has.bytes here.bytes has.stored here.stored in
      one_commit c whole.parts here.bytes has.reads.0.time here.reads.0.time (has.reads.0.form ∙ ap Some same) here.reads.0.form

  shown_at : (p : Path) (n : NodeName) → node_at tree p ≡ Some n → Shows S whole.parts.tree whole.parts.meta p n
  shown_at p n has =
      let shown = (is p n).0 (found_back tree p n has) in
      subst (λ (c : CommitParts). Shows S c.tree c.meta p n) (same_parts shown.0 shown.1) shown.2

  found_at_path : (p : Path) (n : NodeName) → Shows S whole.parts.tree whole.parts.meta p n → node_at tree p ≡ Some n
  found_at_path p n shown = found tree p n map.ascending ((is p n).1 (whole.parts, whole.here, shown))

  tree_map : IsTreeMap tree
  tree_map = record {
    root = decide (node_at tree []) (λ none. root_shown S limits.content whole.parts.tree whole.parts.meta whole.objects (λ k shown. none k (found_at_path [] (Folder k) shown)));
    inner = λ f x n has. decide (node_at tree f) (λ none. folder_shown S limits.content whole.parts.tree whole.parts.meta f x n whole.objects (shown_at (under f x) n has) (λ k shown. none k (found_at_path f (Folder k) shown)));
  }

  fits_at : (into : Path) → HasRoomBelow into → (p : Path) (n : NodeName) → node_at tree p ≡ Some n → IsPath (into ++ p)
  fits_at into room p n has =
      let shown = shown_at p n has in
      let short = whole.short p n shown in
      fits_below into p room (names_shown S whole.parts.tree whole.parts.meta p n shown) short.0 short.1

  pub tree_placed : (into : Path) → HasRoomBelow into → IsPlaced into tree
  tree_placed into room = record {
    shape = tree_map;
    fits = λ k e inside.
        let at : get_or tree k (get_or tree k e) ≡ get_or tree k e = get_or_default tree k (get_or tree k e) e inside in
        fits_at into room (get_or tree k e).0 (get_or tree k e).1 (found_at tree k (get_or tree k e) map.ascending inside at);
  }

  -- a leaf of the map is named
  pub leaf_is_named : (p : Path) (sum : List ℕ) → node_at tree p ≡ Some (Leaf sum) → Names S whole.parts.tree whole.parts.meta p (name_of kind.File sum)
  leaf_is_named p sum has = shown_named S whole.parts.tree whole.parts.meta p sum (shown_at p (Leaf sum) has)

pub leaves_there : (d : Disk) (limits : Limits) (commit : List ℕ) (tree : Nodes) → IsPathMap tree → Complete (Stores d) limits commit → IsTreeOf (Stores d) commit tree → HasLeaves d tree
leaves_there d limits commit tree map whole is p sum has =
    let object = whole.objects p (name_of kind.File sum) (leaf_is_named (Stores d) (stores_map d) limits commit tree map whole is p sum has) in
    object_leaf limits.content (shows d (leaf_path sum)) object.bytes object.stored.there object.formed

pub tree_folder : (S : Store) (e : Disk) (commit : List ℕ) (into : Path) (tree : Nodes) → IsPathMap tree → IsTreeOf S commit tree → IsCheckout e into tree → IsTreeFolder e into (TreeShows S commit)
tree_folder S e commit into tree map is folder = record {
  each = λ p n shown. subst (Stands e into p) (found tree p n map.ascending ((is p n).1 shown)) (folder p);
  none = λ p none. vacant p none (node_at tree p) refl;
}
  where
    vacant : (p : Path) → ((n : NodeName) → TreeShows S commit p n → ⊥) → (x : Option NodeName) → node_at tree p ≡ x → Stands e into p None
    vacant p none None at = subst (Stands e into p) at (folder p)
    vacant p none (Some n) at = absurd (none n ((is p n).0 (found_back tree p n at)))
