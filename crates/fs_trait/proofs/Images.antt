-- What a crash may leave after a call, from what it might have left before it.
use Rattle.std.proofs.Common.{◌≡◌, ◌≢◌, ◌⊎◌, inl, inr, ⊎_elim, ℕ, Bool, true, false, IsTrue, refl, sym, ◌∙◌, ap, subst, List, [], ◌∷◌, ◌++◌, if◌then◌else◌, append-nil, append_assoc}
use mathlib.Core.Path.{fun_ext}
use Rattle.ost_types.specs.Path.{Name, Path, under, is_in}
use Rattle.ost_types.proofs.Paths.{same_or_apart, root_or_under, under-not_root, under-folder, under-not_folder, is_in-under}
use Rattle.fs_trait.specs.declared.types.Value.{Value}
use Rattle.fs_trait.specs.declared.types.Value.TheVariants.{Absent, Folder, Link, File}
use Rattle.fs_trait.specs.View.{Disk, View, put, put_inode, set_at, set_meta, set_bytes, named, created, extended, moved, file_synced, folder_synced, all_synced, settled}
use Rattle.fs_trait.specs.Image.{is_folder, Among, Holds, Image, EachImage, IsTree}
use Rattle.ost_types.specs.declared.meta.Meta.{Meta}
use Rattle.fs_trait.specs.Effect.{IsFresh}
use Rattle.fs_trait.proofs.Puts.{put-here, put-apart, put-back, put_inode-here, put_inode-apart, put_inode-back, same_inode, Among-push}

pub folder_or_not : (x : Value) → (is_folder x ≡ true) ⊎ (is_folder x ≡ false)
folder_or_not x = by (is_folder x) refl
  where
    by : (b : Bool) → is_folder x ≡ b → (is_folder x ≡ true) ⊎ (is_folder x ≡ false)
    by true e = inl e
    by false e = inr e

-- a folder isn't absent, nor another value that is none
pub not_both : {b : Bool} → b ≡ true → b ≡ false → ⊥
not_both t f = let n : true ≡ false = sym t ∙ f in cc

module _ (v : View) (f : Path) (y : Name) (x : Value) where
  Holds-named : (z : Value) → Holds (named (under f y) x v) (under f y) z → (z ≡ x) ⊎ Holds v (under f y) z
  unfolding named
  Holds-named z (inl e) = inl (e ∙ put-here (under f y) x v.now.at)
  Holds-named z (inr among) = ⊎_elim (λ a. inr (inr a)) (λ e. inr (inl e)) (Among-push _ _ z (subst (λ l. Among l z) (put-here (under f y) _ v.older) among))

  pub Holds-named-apart : (q : Path) (z : Value) → under f y ≢ q → Holds (named (under f y) x v) q z → Holds v q z
  unfolding named
  Holds-named-apart q z apart (inl e) = inl (e ∙ put-apart (under f y) x v.now.at q apart)
  Holds-named-apart q z apart (inr among) = inr (subst (λ l. Among l z) (put-apart (under f y) _ v.older q apart) among)

-- only a folder is at the root
pub not_root : (d : Disk) (p : Path) → IsTree d → is_folder (d.at p) ≡ false → p ≢ []
not_root d p tree leaf e = not_both tree.root (subst (λ q. is_folder (d.at q) ≡ false) e leaf)

-- after a sync a crash leaves nothing else than before it
pub Image-file_synced : (v : View) (n : ℕ) (d : Disk) → Image (file_synced n v) d → Image v d
unfolding file_synced
Image-file_synced v n d i = record { root = i.root; held = i.held; gone = i.gone; meta = i.meta; bytes = λ m is. i.bytes m (still m is (same_inode n m)) }
  where
    still : (m : ℕ) → IsTrue (v.synced m) → (n ≡ m) ⊎ (n ≢ m) → put_inode n true v.synced m ≡ true
    still m is (inl e) = subst (λ k. put_inode n true v.synced k ≡ true) e (put_inode-here n true v.synced)
    still m is (inr apart) = put_inode-apart n true v.synced m apart ∙ is

Among-cut : (b : Bool) (xs : List Value) (x : Value) → Among (if b then [] else xs) x → Among xs x
Among-cut true xs x among = absurd among
Among-cut false xs x among = among

pub Image-folder_synced : (v : View) (f : Path) (d : Disk) → Image (folder_synced f v) d → Image v d
unfolding folder_synced
Image-folder_synced v f d i = record { root = i.root; held = λ g x above. held g x (i.held g x above); gone = i.gone; meta = i.meta; bytes = i.bytes }
  where
    held : (g : Path) (x : Name) → Holds (folder_synced f v) (under g x) (d.at (under g x)) → Holds v (under g x) (d.at (under g x))
    held g x (inl e) = inl e
    held g x (inr among) = inr (Among-cut (is_in f (under g x)) _ _ among)

-- and the names in the folder are those of the view
pub folder_synced-at : (v : View) (f : Path) (x : Name) (d : Disk) → Image (folder_synced f v) d → is_folder (d.at f) ≡ true → d.at (under f x) ≡ v.now.at (under f x)
unfolding folder_synced
folder_synced-at v f x d i folder = by (i.held f x folder)
  where
    by : Holds (folder_synced f v) (under f x) (d.at (under f x)) → d.at (under f x) ≡ v.now.at (under f x)
    by (inl e) = e
    by (inr among) = let none : Among [] (d.at (under f x)) = subst (λ b. Among (if b then [] else v.older (under f x)) (d.at (under f x))) (is_in-under f x) among in absurd none

-- what reads see after a name got a value
pub named-here : (v : View) (p : Path) (x : Value) → (named p x v).now.at p ≡ x
unfolding named
named-here v p x = put-here p x v.now.at

pub named-apart : (v : View) (p : Path) (x : Value) (q : Path) → p ≢ q → (named p x v).now.at q ≡ v.now.at q
unfolding named
named-apart v p x q apart = put-apart p x v.now.at q apart

-- a crash may leave what reads see
pub Image-now : (v : View) → IsTree v.now → Image v v.now
Image-now v tree = record { root = refl; held = λ f x above. inl refl; gone = tree.folders; meta = λ n. refl; bytes = λ n is. refl }

-- a name has one of its values, or is absent
pub Image-holds : (v : View) (d : Disk) (p : Path) → Image v d → Holds v p (d.at p) ⊎ (d.at p ≡ Absent)
Image-holds v d p i = by (root_or_under p)
  where
    in_folder : (f : Path) (x : Name) → (is_folder (d.at f) ≡ true) ⊎ (is_folder (d.at f) ≡ false) → Holds v (under f x) (d.at (under f x)) ⊎ (d.at (under f x) ≡ Absent)
    in_folder f x (inl folder) = inl (i.held f x folder)
    in_folder f x (inr none) = inr (i.gone f x none)

    by : (p ≡ []) ⊎ ((f : Path) × (x : Name) × (p ≡ under f x)) → Holds v p (d.at p) ⊎ (d.at p ≡ Absent)
    by (inl e) = subst (λ q. Holds v q (d.at q) ⊎ (d.at q ≡ Absent)) (sym e) (inl (inl i.root))
    by (inr w) = subst (λ q. Holds v q (d.at q) ⊎ (d.at q ≡ Absent)) (sym w.2) (in_folder w.0 w.1 (folder_or_not (d.at w.0)))

-- no image has a fresh inode
pub Image-fresh : (v : View) (n : ℕ) (d : Disk) (p : Path) → IsFresh n v → Image v d → d.at p ≢ File n
Image-fresh v n d p fresh i is = ⊎_elim (λ holds. fresh p (subst (Holds v p) is holds)) (λ none. let e : Absent ≡ File n = sym none ∙ is in cc) (Image-holds v d p i)

-- after a sync of all a crash leaves what reads see
pub Image-all_synced : (v : View) (d : Disk) → Image (all_synced v) d → Image v d
unfolding all_synced
Image-all_synced v d i = record { root = i.root; held = λ f x above. held f x (i.held f x above); gone = i.gone; meta = i.meta; bytes = λ n is. i.bytes n refl }
  where
    held : (f : Path) (x : Name) → Holds (all_synced v) (under f x) (d.at (under f x)) → Holds v (under f x) (d.at (under f x))
    held f x (inl e) = inl e
    held f x (inr none) = absurd none

pub all_synced-at : (v : View) (d : Disk) → IsTree v.now → Image (all_synced v) d → (p : Path) → d.at p ≡ v.now.at p
unfolding all_synced
all_synced-at v d tree i p = from [] p i.root
  where
    below : (f : Path) (x : Name) → d.at f ≡ v.now.at f → (is_folder (d.at f) ≡ true) ⊎ (is_folder (d.at f) ≡ false) → d.at (under f x) ≡ v.now.at (under f x)
    below f x e (inl folder) = ⊎_elim (λ is. is) (λ none. absurd none) (i.held f x folder)
    below f x e (inr none) = i.gone f x none ∙ sym (tree.folders f x (ap is_folder (sym e) ∙ none))

    from : (f rest : Path) → d.at f ≡ v.now.at f → d.at (f ++ rest) ≡ v.now.at (f ++ rest)
    from f [] e = subst (λ q. d.at q ≡ v.now.at q) (sym (append-nil f)) e
    from f (x ∷ rest) e = subst (λ q. d.at q ≡ v.now.at q) (append_assoc f (x ∷ []) rest) (from (under f x) rest (below f x e (folder_or_not (d.at f))))

pub all_synced-bytes : (v : View) (d : Disk) (n : ℕ) → Image (all_synced v) d → d.bytes n ≡ v.now.bytes n
unfolding all_synced
all_synced-bytes v d n i = i.bytes n refl

-- a barrier: after a sync of all, what holds of what reads see holds of each image
pub each-all_synced : (v : View) (P : Disk → Type 0) → IsTree v.now → P v.now → EachImage (all_synced v) P
unfolding all_synced
each-all_synced v P tree here d i = subst P (sym same) here
  where
    same : d ≡ v.now
    same =
        let a : d.at ≡ v.now.at = fun_ext (λ p. all_synced-at v d tree i p) in
        let m : d.meta ≡ v.now.meta = fun_ext (λ n. i.meta n) in
        let b : d.bytes ≡ v.now.bytes = fun_ext (λ n. all_synced-bytes v d n i) in
        λ j. record { at = a j; meta = m j; bytes = b j }

-- a disk that is synced as a whole has no other image
pub settled-alone : (d e : Disk) → IsTree d → Image (settled d) e → e ≡ d
unfolding all_synced
settled-alone d e tree i = each-all_synced (settled d) (λ x. x ≡ d) tree refl e i

-- a crash leaves a tree
pub Image-tree : (v : View) (d : Disk) → IsTree v.now → Image v d → IsTree d
Image-tree v d tree i = record { root = ap is_folder i.root ∙ tree.root; folders = i.gone }
