-- What a change does to the older values of a path.
use Rattle.std.proofs.Common.{◌≡◌, ◌≢◌, ℕ, refl, sym, ◌∙◌, ap, subst, List, [], ◌∷◌, ◌++◌, Bool, true, false, if◌then◌else◌}
use Rattle.ost_types.specs.declared.meta.Meta.{Meta}
use Rattle.ost_types.specs.Path.{Path, is_in}
use Rattle.fs_trait.specs.declared.types.Value.{Value}
use Rattle.fs_trait.specs.declared.types.Value.TheVariants.{Absent, File}
use Rattle.fs_trait.specs.View.{View, put_inode, set_bytes, set_meta, named, created, moved, extended, file_synced, folder_synced, all_synced}
use Rattle.fs_trait.proofs.Puts.{put-here, put-apart}
use Rattle.fs_trait.proofs.Images.{named-here, named-apart}
use Rattle.memory_record.specs.declared.change.Change.TheVariants.{Nothing, Name, Create, Move, Extend, SyncFile, SyncFolder, SyncAll, Crash}
use Rattle.memory_record.specs.Changes.{apply, after, view_of, empty_view, spoiled}

named_older-here : (v : View) (p : Path) (x : Value) → (named p x v).older p ≡ v.older p ++ v.now.at p ∷ []
unfolding named
named_older-here v p x = put-here p _ v.older

named_older-apart : (v : View) (p : Path) (x : Value) (q : Path) → p ≢ q → (named p x v).older q ≡ v.older q
unfolding named
named_older-apart v p x q apart = put-apart p _ v.older q apart

module _ (v : View) (q : Path) where
  pub older_name-here : (p : Path) (x : Value) → p ≡ q → (apply (Name p x) v).older q ≡ v.older q ++ v.now.at q ∷ []
  unfolding apply
  older_name-here p x e = subst (λ r. (named p x v).older r ≡ v.older r ++ v.now.at r ∷ []) e (named_older-here v p x)

  pub older_name-apart : (p : Path) (x : Value) → p ≢ q → (apply (Name p x) v).older q ≡ v.older q
  unfolding apply
  older_name-apart p x apart = named_older-apart v p x q apart

  pub older_create-here : (p : Path) (m : Meta) (n : ℕ) → p ≡ q → (apply (Create p m n) v).older q ≡ v.older q ++ v.now.at q ∷ []
  unfolding apply created
  older_create-here p m n e = subst (λ r. (created p m n v).older r ≡ v.older r ++ v.now.at r ∷ []) e (named_older-here (record v { now = set_bytes n [] (set_meta n m v.now); synced = put_inode n false v.synced }) p (File n))

  pub older_create-apart : (p : Path) (m : Meta) (n : ℕ) → p ≢ q → (apply (Create p m n) v).older q ≡ v.older q
  unfolding apply created
  older_create-apart p m n apart = named_older-apart (record v { now = set_bytes n [] (set_meta n m v.now); synced = put_inode n false v.synced }) p (File n) q apart

  pub older_move-both : (from to : Path) → from ≡ q → to ≡ q → (apply (Move from to) v).older q ≡ v.older q ++ v.now.at q ∷ [] ++ v.now.at q ∷ []
  unfolding apply moved
  older_move-both from to e f =
      subst (λ r. (named r Absent (named to (v.now.at r) v)).older q ≡ v.older q ++ v.now.at q ∷ [] ++ v.now.at q ∷ []) (sym e)
      (subst (λ r. (named q Absent (named r (v.now.at q) v)).older q ≡ v.older q ++ v.now.at q ∷ [] ++ v.now.at q ∷ []) (sym f)
      (named_older-here (named q (v.now.at q) v) q Absent ∙ ap (λ l. l ++ (named q (v.now.at q) v).now.at q ∷ []) (named_older-here v q (v.now.at q)) ∙ ap (λ x. v.older q ++ v.now.at q ∷ [] ++ x ∷ []) (named-here v q (v.now.at q))))

  pub older_move-from : (from to : Path) → from ≡ q → to ≢ q → (apply (Move from to) v).older q ≡ v.older q ++ v.now.at q ∷ []
  unfolding apply moved
  older_move-from from to e apart =
      subst (λ r. (named r Absent (named to (v.now.at r) v)).older q ≡ v.older q ++ v.now.at q ∷ []) (sym e)
      (named_older-here (named to (v.now.at q) v) q Absent ∙ ap (λ l. l ++ (named to (v.now.at q) v).now.at q ∷ []) (named_older-apart v to (v.now.at q) q apart) ∙ ap (λ x. v.older q ++ x ∷ []) (named-apart v to (v.now.at q) q apart))

  pub older_move-to : (from to : Path) → from ≢ q → to ≡ q → (apply (Move from to) v).older q ≡ v.older q ++ v.now.at q ∷ []
  unfolding apply moved
  older_move-to from to apart e = named_older-apart (named to (v.now.at from) v) from Absent q apart ∙ subst (λ r. (named to (v.now.at from) v).older r ≡ v.older r ++ v.now.at r ∷ []) e (named_older-here v to (v.now.at from))

  pub older_move-apart : (from to : Path) → from ≢ q → to ≢ q → (apply (Move from to) v).older q ≡ v.older q
  unfolding apply moved
  older_move-apart from to out away = named_older-apart (named to (v.now.at from) v) from Absent q out ∙ named_older-apart v to (v.now.at from) q away

  pub older_nothing : (apply Nothing v).older q ≡ v.older q
  unfolding apply
  older_nothing = refl

  pub older_extend : (n : ℕ) (b : List ℕ) → (apply (Extend n b) v).older q ≡ v.older q
  unfolding apply extended
  older_extend n b = refl

  pub older_sync_file : (n : ℕ) → (apply (SyncFile n) v).older q ≡ v.older q
  unfolding apply file_synced
  older_sync_file n = refl

  pub older_sync_folder-in : (f : Path) → is_in f q ≡ true → (apply (SyncFolder f) v).older q ≡ []
  unfolding apply folder_synced
  older_sync_folder-in f e = cut (is_in f q) e
    where
      cut : (b : Bool) → b ≡ true → (if b then [] else v.older q) ≡ []
      cut true e = refl
      cut false e = let n : false ≡ true = e in cc

  pub older_sync_folder-out : (f : Path) → is_in f q ≡ false → (apply (SyncFolder f) v).older q ≡ v.older q
  unfolding apply folder_synced
  older_sync_folder-out f e = keep (is_in f q) e
    where
      keep : (b : Bool) → b ≡ false → (if b then [] else v.older q) ≡ v.older q
      keep true e = let n : true ≡ false = e in cc
      keep false e = refl

  pub older_sync_all : (apply SyncAll v).older q ≡ []
  unfolding apply all_synced
  older_sync_all = refl

  pub older_crash : (k : ℕ) → (apply (Crash k) v).older q ≡ []
  unfolding apply spoiled all_synced
  older_crash k = refl

pub empty_older-at : (p : Path) → (view_of []).older p ≡ []
unfolding view_of after empty_view
empty_older-at p = refl
