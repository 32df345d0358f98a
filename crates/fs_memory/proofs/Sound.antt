-- A change that a call may record keeps a tree whose root never had another value, and its files are numbered below the
-- record's length.
use Rattle.std.proofs.Common.{◌≡◌, ◌≢◌, ◌⊎◌, inl, inr, ⊎_elim, ℕ, ◌+◌, ◌<◌, refl, sym, ◌∙◌, ap, subst, List, [], ◌∷◌, ◌++◌, length, arith, length-append, Bool, true, false, if◌then◌else◌, Option, Some, None}
use Rattle.ost_types.specs.declared.meta.Meta.{Meta}
use Rattle.ost_types.specs.Path.{Path, is_in}
use Rattle.ost_types.proofs.Paths.{same_or_apart}
use Rattle.fs_trait.specs.declared.types.Value.{Value}
use Rattle.fs_trait.specs.declared.types.Value.TheVariants.{Absent, Folder, Link, File}
use Rattle.fs_trait.specs.declared.types.FsErr.{FsErr}
use Rattle.fs_trait.specs.declared.types.FsErr.TheVariants.{Exists, Missing}
use Rattle.fs_trait.specs.View.{View, named, created, moved, extended, file_synced, folder_synced, all_synced}
use Rattle.fs_trait.specs.Image.{is_folder, IsTree, Holds}
use Rattle.fs_trait.specs.Effect.{or_else, if_there, unless_leaf, if_folder, no_new, no_leaf, no_move, no_link, no_rmdir, if_names, HasNames, IsFresh}
use Rattle.fs_trait.proofs.Puts.{put-apart}
use Rattle.fs_trait.proofs.Images.{named-here, named-apart, not_root}
use Rattle.fs_trait.proofs.Ways.{way-there}
use Rattle.fs_trait.proofs.Trees.{tree-named, Holds-named_any, Holds-created, Holds-extended, Holds-file_synced, Holds-folder_synced}
use Rattle.memory_record.specs.declared.change.Change.{Change}
use Rattle.memory_record.specs.declared.change.Change.TheVariants.{Name, Create, Move, Extend, SyncFile, SyncFolder, SyncAll}
use Rattle.memory_record.specs.Changes.{apply, view_of, IsSound}
use Rattle.memory_record.proofs.Records.{view_of-push, extend, sync_file, sync_folder, sync_all}
use Rattle.fs_memory.proofs.Removals.{tree-removed}

first_none : (a b : Option FsErr) → or_else a b ≡ None → (a ≡ None) × (b ≡ None)
first_none None b e = (refl, e)
first_none (Some x) b e = let n : Some x ≡ None = e in cc

there_leaf : (x : Value) → if_there x ≡ None → is_folder x ≡ false
there_leaf Absent e = refl
there_leaf (Folder m) e = let n : Some Exists ≡ None = e in cc
there_leaf (Link m t) e = refl
there_leaf (File n) e = refl

leaf_leaf : (x : Value) → unless_leaf x ≡ None → is_folder x ≡ false
leaf_leaf Absent e = refl
leaf_leaf (Folder m) e = let n : Some Missing ≡ None = e in cc
leaf_leaf (Link m t) e = refl
leaf_leaf (File n) e = refl

leaf_there : (x : Value) → unless_leaf x ≡ None → x ≢ Absent
leaf_there Absent e is = let n : Some Missing ≡ None = e in cc
leaf_there (Folder m) e is = let n : Some Missing ≡ None = e in cc
leaf_there (Link m t) e is = cc
leaf_there (File n) e is = cc

to_leaf : (x : Value) → if_folder x ≡ None → is_folder x ≡ false
to_leaf Absent e = refl
to_leaf (Folder m) e = let n : Some Exists ≡ None = e in cc
to_leaf (Link m t) e = refl
to_leaf (File n) e = refl

-- each file that a name may be is new, or a name might be it before
abbrev Numbers : List Change → View → Type 0
Numbers cs w = (q : Path) (n : ℕ) → Holds w q (File n) → (n ≡ length cs) ⊎ ((r : Path) × Holds (view_of cs) r (File n))

sound : (cs : List Change) (c : Change) → IsSound cs → IsTree (apply c (view_of cs)).now → Numbers cs (apply c (view_of cs)) → (apply c (view_of cs)).older [] ≡ [] → IsSound (cs ++ c ∷ [])
sound cs c before tree from root =
    let same : apply c (view_of cs) ≡ view_of (cs ++ c ∷ []) = sym (view_of-push cs c) in
    let l : length (cs ++ c ∷ []) ≡ length cs + 1 = length-append cs (c ∷ []) in
    record {
      tree = subst (λ (v : View). IsTree v.now) same tree;
      numbered = λ q n holds.
          ⊎_elim (λ is. omega (arith, l, is)) (λ was. let below : n < length cs = before.numbered was.0 n was.1 in omega (arith, l, below)) (from q n (subst (λ v. Holds v q (File n)) (sym same) holds));
      root = subst (λ (v : View). v.older [] ≡ []) same root;
    }

older-named : (v : View) (p : Path) (x : Value) → p ≢ [] → (named p x v).older [] ≡ v.older []
unfolding named
older-named v p x below = put-apart p _ v.older [] below

module _ (cs : List Change) (before : IsSound cs) where
  leaf_below : (p : Path) → is_folder ((view_of cs).now.at p) ≡ false → p ≢ []
  leaf_below p leaf = not_root (view_of cs).now p before.tree leaf

  -- a name that takes a value that isn't a file, or one that another name has
  sound-Name : (p : Path) (x : Value) → p ≢ [] → IsTree (named p x (view_of cs)).now → ((n : ℕ) → x ≡ File n → (r : Path) × Holds (view_of cs) r (File n)) → IsSound (cs ++ Name p x ∷ [])
  unfolding apply
  sound-Name p x below tree known = sound cs (Name p x) before tree
      (λ q n holds. ⊎_elim (λ is. inr (known n (sym is))) (λ was. inr (q, was)) (Holds-named_any (view_of cs) p x q (File n) holds))
      (older-named (view_of cs) p x below ∙ before.root)

  sound-free : (p : Path) (x : Value) → no_new p (view_of cs).now ≡ None → ((n : ℕ) → x ≡ File n → (r : Path) × Holds (view_of cs) r (File n)) → IsSound (cs ++ Name p x ∷ [])
  unfolding no_new
  sound-free p x free known =
      let s = first_none _ _ free in
      let leaf = there_leaf _ s.1 in
      sound-Name p x (leaf_below p leaf) (tree-named (view_of cs) p x before.tree s.0 leaf) known

  pub sound-folder : (p : Path) (m : Meta) → no_new p (view_of cs).now ≡ None → IsSound (cs ++ Name p (Folder m) ∷ [])
  sound-folder p m free = sound-free p (Folder m) free (λ n is. let e : Folder m ≡ File n = is in cc)

  pub sound-link : (p : Path) (m : Meta) (t : List ℕ) → no_new p (view_of cs).now ≡ None → IsSound (cs ++ Name p (Link m t) ∷ [])
  sound-link p m t free = sound-free p (Link m t) free (λ n is. let e : Link m t ≡ File n = is in cc)

  pub sound-linked : (from to : Path) → no_link from to (view_of cs).now ≡ None → IsSound (cs ++ Name to ((view_of cs).now.at from) ∷ [])
  unfolding no_link
  sound-linked from to free = let s = first_none _ _ free in sound-free to ((view_of cs).now.at from) s.1 (λ n is. (from, inl (sym is)))

  no_file : (n : ℕ) → Absent ≡ File n → (r : Path) × Holds (view_of cs) r (File n)
  no_file n is = let e : Absent ≡ File n = is in cc

  pub sound-gone : (p : Path) → no_leaf p (view_of cs).now ≡ None → IsSound (cs ++ Name p Absent ∷ [])
  unfolding no_leaf
  sound-gone p free =
      let s = first_none _ _ free in
      let leaf = leaf_leaf _ s.1 in
      sound-Name p Absent (leaf_below p leaf) (tree-named (view_of cs) p Absent before.tree s.0 leaf) no_file

  pub sound-emptied : (b : Bool) (p : Path) → HasNames b p (view_of cs).now → no_rmdir b p (view_of cs).now ≡ None → IsSound (cs ++ Name p Absent ∷ [])
  unfolding no_rmdir
  sound-emptied true p has free = let s = first_none _ _ free in let n : if_names true ≡ None = s.1 in cc
  sound-emptied false p has free = sound-Name p Absent has.0 (tree-removed (view_of cs) p before.tree has) no_file

  pub sound-Create : (p : Path) (m : Meta) → no_new p (view_of cs).now ≡ None → IsSound (cs ++ Create p m (length cs) ∷ [])
  unfolding no_new apply created named
  sound-Create p m free =
      let s = first_none _ _ free in
      let leaf = there_leaf _ s.1 in
      let t : IsTree (named p (File (length cs)) (view_of cs)).now = tree-named (view_of cs) p (File (length cs)) before.tree s.0 leaf in
      sound cs (Create p m (length cs)) before (record { root = t.root; folders = t.folders })
      (λ q n holds. ⊎_elim (λ is. inl (let e : File n ≡ File (length cs) = is in cc)) (λ was. inr (q, was)) (Holds-created (view_of cs) p m (length cs) q (File n) holds))
      (put-apart p _ (view_of cs).older [] (leaf_below p leaf) ∙ before.root)

  pub fresh : IsFresh (length cs) (view_of cs)
  fresh q holds = let below : length cs < length cs = before.numbered q (length cs) holds in absurd (omega (arith, below))

  pub sound-Move : (from to : Path) → no_move from to (view_of cs).now ≡ None → IsSound (cs ++ Move from to ∷ [])
  unfolding apply moved no_move no_leaf
  sound-Move from to free =
      let both = first_none _ _ free in
      let out = first_none _ _ both.0 in
      let in_ = first_none _ _ both.1 in
      let first : IsTree (named to ((view_of cs).now.at from) (view_of cs)).now = tree-named (view_of cs) to ((view_of cs).now.at from) before.tree in_.0 (to_leaf _ in_.1) in
      let same : (named to ((view_of cs).now.at from) (view_of cs)).now.at from ≡ (view_of cs).now.at from = here (same_or_apart to from) in
      sound cs (Move from to) before
      (tree-named (named to ((view_of cs).now.at from) (view_of cs)) from Absent first
      (way-there (named to ((view_of cs).now.at from) (view_of cs)).now first from (λ none. leaf_there _ out.1 (sym same ∙ none))) (ap is_folder same ∙ leaf_leaf _ out.1))
      (λ q n holds. ⊎_elim (λ is. let e : File n ≡ Absent = is in cc) (λ was. inr (⊎_elim (λ is. (from, inl is)) (λ before_. (q, before_)) (Holds-named_any (view_of cs) to ((view_of cs).now.at from) q (File n) was)))
      (Holds-named_any (named to ((view_of cs).now.at from) (view_of cs)) from Absent q (File n) holds))
      (older-named (named to ((view_of cs).now.at from) (view_of cs)) from Absent (leaf_below from (leaf_leaf _ out.1)) ∙ older-named (view_of cs) to ((view_of cs).now.at from) (leaf_below to (to_leaf _ in_.1)) ∙ before.root)
    where
      here : (to ≡ from) ⊎ (to ≢ from) → (named to ((view_of cs).now.at from) (view_of cs)).now.at from ≡ (view_of cs).now.at from
      here (inl e) = subst (λ r. (named to ((view_of cs).now.at from) (view_of cs)).now.at r ≡ (view_of cs).now.at from) e (named-here (view_of cs) to _)
      here (inr apart) = named-apart (view_of cs) to _ from apart

  -- a change that leaves each name's value
  tree-same : (c : Change) → ((q : Path) → (apply c (view_of cs)).now.at q ≡ (view_of cs).now.at q) → IsTree (apply c (view_of cs)).now
  tree-same c same = record {
    root = ap is_folder (same []) ∙ before.tree.root;
    folders = λ f x none. same (f ++ x ∷ []) ∙ before.tree.folders f x (ap is_folder (sym (same f)) ∙ none);
  }

  pub sound-Extend : (n : ℕ) (b : List ℕ) → IsSound (cs ++ Extend n b ∷ [])
  unfolding apply extended
  sound-Extend k b = sound cs (Extend k b) before (tree-same (Extend k b) (λ q. extend (view_of cs) q k b)) (λ q n holds. inr (q, Holds-extended (view_of cs) k b q (File n) holds)) before.root

  pub sound-SyncFile : (n : ℕ) → IsSound (cs ++ SyncFile n ∷ [])
  unfolding apply file_synced
  sound-SyncFile k = sound cs (SyncFile k) before (tree-same (SyncFile k) (λ q. sync_file (view_of cs) q k)) (λ q n holds. inr (q, Holds-file_synced (view_of cs) k q (File n) holds)) before.root

  pub sound-SyncFolder : (f : Path) → IsSound (cs ++ SyncFolder f ∷ [])
  unfolding apply folder_synced
  sound-SyncFolder f = sound cs (SyncFolder f) before (tree-same (SyncFolder f) (λ q. sync_folder (view_of cs) q f)) (λ q n holds. inr (q, Holds-folder_synced (view_of cs) f q (File n) holds)) (cut (is_in f []))
    where
      cut : (b : Bool) → (if b then [] else (view_of cs).older []) ≡ []
      cut true = refl
      cut false = before.root

  pub sound-SyncAll : IsSound (cs ++ SyncAll ∷ [])
  unfolding apply all_synced
  sound-SyncAll = sound cs SyncAll before (tree-same SyncAll (λ q. sync_all (view_of cs) q)) (λ q n holds. inr (q, kept q n holds)) refl
    where
      kept : (q : Path) (n : ℕ) → Holds (all_synced (view_of cs)) q (File n) → Holds (view_of cs) q (File n)
      kept q n (inl is) = inl is
      kept q n (inr none) = absurd none
