-- A call that isn't refused leaves a tree, and which values a name may have after it.
use Rattle.std.proofs.Common.{◌≡◌, ◌≢◌, ◌⊎◌, inl, inr, ⊎_elim, ℕ, Bool, true, false, refl, sym, ◌∙◌, ap, subst, List, [], ◌∷◌, ◌++◌, append_assoc, append-nil, Option, Some, None, if◌then◌else◌}
use Rattle.ost_types.specs.declared.meta.Meta.{Meta}
use Rattle.ost_types.specs.Path.{Name, Path, under, is_in}
use Rattle.ost_types.proofs.Paths.{root_or_under, same_or_apart, under-not_root, under-not_folder, under-folder}
use Rattle.fs_trait.specs.declared.types.Value.{Value}
use Rattle.fs_trait.specs.declared.types.FsErr.{FsErr}
use Rattle.fs_trait.specs.declared.types.FsErr.TheVariants.{Missing, NotFolder}
use Rattle.fs_trait.specs.declared.types.Value.TheVariants.{Absent, Folder, Link, File}
use Rattle.fs_trait.specs.View.{Disk, View, put, set_at, set_meta, set_bytes, named, created, moved, extended, file_synced, folder_synced, put_inode}
use Rattle.fs_trait.specs.Image.{is_folder, IsTree, Holds, Among}
use Rattle.fs_trait.specs.Effect.{way, way_from, no_way, or_else}
use Rattle.fs_trait.proofs.Puts.{put-here, put-apart, Among-push}
use Rattle.fs_trait.proofs.Images.{folder_or_not, not_both, named-here, named-apart}

folder_way : (x : Value) (later : Option FsErr) → or_else (no_way x) later ≡ None → (is_folder x ≡ true) × (later ≡ None)
folder_way (Folder m) later e = (refl, e)
folder_way Absent later e = let n : Some Missing ≡ None = e in cc
folder_way (Link m t) later e = let n : Some NotFolder ≡ None = e in cc
folder_way (File n) later e = let n : Some NotFolder ≡ None = e in cc

way_from-folder_of : (d : Disk) (f rest : Path) (x : Name) → is_folder (d.at f) ≡ true → way_from d f (rest ++ x ∷ []) ≡ None → is_folder (d.at (f ++ rest)) ≡ true
unfolding way_from
way_from-folder_of d f [] x folder e = subst (λ q. is_folder (d.at q) ≡ true) (sym (append-nil f)) folder
way_from-folder_of d f (a ∷ []) x folder e = (folder_way _ _ e).0
way_from-folder_of d f (a ∷ b ∷ rest) x folder e =
    let s = folder_way _ _ e in
    subst (λ q. is_folder (d.at q) ≡ true) (append_assoc f (a ∷ []) (b ∷ rest)) (way_from-folder_of d (under f a) (b ∷ rest) x s.0 s.1)

pub way-folder_of : (d : Disk) (f : Path) (x : Name) → IsTree d → way d (under f x) ≡ None → is_folder (d.at f) ≡ true
way-folder_of d f x tree e = way_from-folder_of d [] f x tree.root e

tree_under-named : (v : View) (f : Path) (y : Name) (x : Value) → IsTree v.now → is_folder (v.now.at f) ≡ true → is_folder (v.now.at (under f y)) ≡ false → IsTree (named (under f y) x v).now
unfolding named
tree_under-named v f y x tree folder leaf = record {
  root = ap is_folder (put-apart (under f y) x v.now.at [] (under-not_root f y)) ∙ tree.root;
  folders = λ g z none. folders g z (same_or_apart (under f y) g) (same_or_apart (under f y) (under g z)) none;
}
  where
    folders : (g : Path) (z : Name) → (under f y ≡ g) ⊎ (under f y ≢ g) → (under f y ≡ under g z) ⊎ (under f y ≢ under g z) → is_folder (put (under f y) x v.now.at g) ≡ false → put (under f y) x v.now.at (under g z) ≡ Absent
    folders g z (inl e) any none =
        subst (λ h. put (under f y) x v.now.at (under h z) ≡ Absent) e (put-apart (under f y) x v.now.at (under (under f y) z) (λ s. under-not_folder (under f y) z (sym s)) ∙ tree.folders (under f y) z leaf)
    folders g z (inr apart) (inl e) none =
        absurd (not_both (subst (λ h. is_folder (v.now.at h) ≡ true) (under-folder f g y z e) folder) (ap is_folder (sym (put-apart (under f y) x v.now.at g apart)) ∙ none))
    folders g z (inr apart) (inr other) none =
        put-apart (under f y) x v.now.at (under g z) other ∙ tree.folders g z (ap is_folder (sym (put-apart (under f y) x v.now.at g apart)) ∙ none)

-- another value at a name that is no folder
pub tree-named : (v : View) (p : Path) (x : Value) → IsTree v.now → way v.now p ≡ None → is_folder (v.now.at p) ≡ false → IsTree (named p x v).now
tree-named v p x tree free leaf = at (root_or_under p)
  where
    at : (p ≡ []) ⊎ ((f : Path) × (y : Name) × (p ≡ under f y)) → IsTree (named p x v).now
    at (inl e) = absurd (not_both tree.root (subst (λ q. is_folder (v.now.at q) ≡ false) e leaf))
    at (inr w) =
        subst (λ q. IsTree (named q x v).now) (sym w.2)
        (tree_under-named v w.0 w.1 x tree (way-folder_of v.now w.0 w.1 tree (subst (λ q. way v.now q ≡ None) w.2 free)) (subst (λ q. is_folder (v.now.at q) ≡ false) w.2 leaf))

-- a name's values after it got one more
pub Holds-named_any : (v : View) (p : Path) (x : Value) (q : Path) (z : Value) → Holds (named p x v) q z → (z ≡ x) ⊎ Holds v q z
unfolding named
Holds-named_any v p x q z holds = at (same_or_apart p q) holds
  where
    at : (p ≡ q) ⊎ (p ≢ q) → Holds (named p x v) q z → (z ≡ x) ⊎ Holds v q z
    at (inl e) (inl is) = inl (is ∙ subst (λ r. put p x v.now.at r ≡ x) e (put-here p x v.now.at))
    at (inl e) (inr among) = ⊎_elim (λ a. inr (inr (subst (λ r. Among (v.older r) z) e a))) (λ is. inr (inl (is ∙ ap v.now.at e))) (Among-push _ _ z (subst (λ l. Among l z) (subst (λ r. put p (v.older p ++ v.now.at p ∷ []) v.older r ≡ v.older p ++ v.now.at p ∷ []) e (put-here p _ v.older)) among))
    at (inr apart) (inl is) = inr (inl (is ∙ put-apart p x v.now.at q apart))
    at (inr apart) (inr among) = inr (inr (subst (λ l. Among l z) (put-apart p _ v.older q apart) among))

-- which files a name may be after a call
pub Holds-created : (v : View) (p : Path) (m : Meta) (n : ℕ) (q : Path) (z : Value) → Holds (created p m n v) q z → (z ≡ File n) ⊎ Holds v q z
unfolding created
Holds-created v p m n q z holds = ⊎_elim (λ is. inl is) (λ was. inr (before was)) (Holds-named_any w p (File n) q z holds)
  where
    w : View
    w = record v { now = set_bytes n [] (set_meta n m v.now); synced = put_inode n false v.synced }

    before : Holds (record v { now = set_bytes n [] (set_meta n m v.now); synced = put_inode n false v.synced }) q z → Holds v q z
    before (inl is) = inl is
    before (inr among) = inr among

pub Holds-moved : (v : View) (from to q : Path) (n : ℕ) → Holds (moved from to v) q (File n) → (File n ≡ v.now.at from) ⊎ Holds v q (File n)
unfolding moved
Holds-moved v from to q n holds = ⊎_elim (λ is. let e : File n ≡ Absent = is in cc) (λ was. Holds-named_any v to (v.now.at from) q (File n) was) (Holds-named_any (named to (v.now.at from) v) from Absent q (File n) holds)

pub Holds-extended : (v : View) (k : ℕ) (b : List ℕ) (q : Path) (z : Value) → Holds (extended k b v) q z → Holds v q z
unfolding extended
Holds-extended v k b q z (inl is) = inl is
Holds-extended v k b q z (inr among) = inr among

pub Holds-file_synced : (v : View) (k : ℕ) (q : Path) (z : Value) → Holds (file_synced k v) q z → Holds v q z
unfolding file_synced
Holds-file_synced v k q z (inl is) = inl is
Holds-file_synced v k q z (inr among) = inr among

pub Holds-folder_synced : (v : View) (f q : Path) (z : Value) → Holds (folder_synced f v) q z → Holds v q z
unfolding folder_synced
Holds-folder_synced v f q z (inl is) = inl is
Holds-folder_synced v f q z (inr among) = inr (cut (is_in f q) _ among)
  where
    cut : (b : Bool) (xs : List Value) → Among (if b then [] else xs) z → Among xs z
    cut true xs none = absurd none
    cut false xs among = among

pub Holds-named_apart : (v : View) (p : Path) (x : Value) (q : Path) (z : Value) → p ≢ q → Holds (named p x v) q z → Holds v q z
unfolding named
Holds-named_apart v p x q z apart (inl is) = inl (is ∙ put-apart p x v.now.at q apart)
Holds-named_apart v p x q z apart (inr among) = inr (subst (λ l. Among l z) (put-apart p _ v.older q apart) among)

pub Holds-created_apart : (v : View) (p : Path) (m : Meta) (n : ℕ) (q : Path) (z : Value) → p ≢ q → Holds (created p m n v) q z → Holds v q z
unfolding created
Holds-created_apart v p m n q z apart holds = before (Holds-named_apart (record v { now = set_bytes n [] (set_meta n m v.now); synced = put_inode n false v.synced }) p (File n) q z apart holds)
  where
    before : Holds (record v { now = set_bytes n [] (set_meta n m v.now); synced = put_inode n false v.synced }) q z → Holds v q z
    before (inl is) = inl is
    before (inr among) = inr among
