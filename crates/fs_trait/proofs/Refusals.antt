-- When a call isn't refused, and what is left where it failed.
use Rattle.std.proofs.Common.{◌≡◌, ◌≢◌, ◌⊎◌, inl, inr, ℕ, Bool, true, false, refl, sym, ◌∙◌, ap, subst, List, Option, Some, None, Result, Ok, Err}
use Rattle.ost_types.specs.Path.{Name, Path, under}
use Rattle.fs_trait.specs.declared.types.Value.{Value}
use Rattle.fs_trait.specs.declared.types.Value.TheVariants.{Absent, Folder, Link, File}
use Rattle.fs_trait.specs.declared.types.FsErr.{FsErr}
use Rattle.fs_trait.specs.declared.types.FsErr.TheVariants.{Failed, Exists, Missing, NotFolder, NotEmpty, NoMemory}
use Rattle.fs_trait.specs.View.{Disk, View}
use Rattle.fs_trait.specs.Image.{is_folder, IsTree, Told}
use Rattle.fs_trait.specs.Effect.{way, or_else, if_there, unless_file, unless_leaf, if_folder, no_way, no_new, no_file, no_leaf, no_move, no_folder, Fails}
use Rattle.fs_trait.proofs.Ways.{way-there, way-folder}

later_none : (a b : Option FsErr) → or_else a b ≡ None → b ≡ None
later_none None b e = e
later_none (Some x) b e = let n : Some x ≡ None = e in cc

pub no_new-absent : (p : Path) (d : Disk) → no_new p d ≡ None → d.at p ≡ Absent
unfolding no_new
no_new-absent p d e = at (d.at p) (later_none _ _ e)
  where
    at : (x : Value) → if_there x ≡ None → x ≡ Absent
    at Absent e = refl
    at (Folder m) e = let n : Some Exists ≡ None = e in cc
    at (Link m l) e = let n : Some Exists ≡ None = e in cc
    at (File m) e = let n : Some Exists ≡ None = e in cc

module _ (d : Disk) (tree : IsTree d) where
  pub no_file-there : (p : Path) (n : ℕ) → d.at p ≡ File n → no_file p d ≡ None
  unfolding no_file
  no_file-there p n is = rw (way-there d tree p (λ none. let e : Absent ≡ File n = sym none ∙ is in cc), is) refl

  pub no_leaf-there : (p : Path) (n : ℕ) → d.at p ≡ File n → no_leaf p d ≡ None
  unfolding no_leaf
  no_leaf-there p n is = rw (way-there d tree p (λ none. let e : Absent ≡ File n = sym none ∙ is in cc), is) refl

  no_folder_there : (x : Value) → is_folder x ≡ false → if_folder x ≡ None
  no_folder_there Absent e = refl
  no_folder_there (Link m l) e = refl
  no_folder_there (File n) e = refl
  no_folder_there (Folder m) e = let n : true ≡ false = e in cc

  pub no_move-there : (from : Path) (n : ℕ) (f : Path) (x : Name) → d.at from ≡ File n → is_folder (d.at f) ≡ true → is_folder (d.at (under f x)) ≡ false → no_move from (under f x) d ≡ None
  unfolding no_move
  no_move-there from n f x is folder leaf = rw (no_leaf-there from n is, way-folder d tree f x folder) (no_folder_there _ leaf)

  a_way : (x : Value) → is_folder x ≡ true → no_way x ≡ None
  a_way (Folder m) e = refl
  a_way Absent e = let n : false ≡ true = e in cc
  a_way (Link m t) e = let n : false ≡ true = e in cc
  a_way (File n) e = let n : false ≡ true = e in cc

  pub no_folder-there : (f : Path) → is_folder (d.at f) ≡ true → no_folder f d ≡ None
  unfolding no_folder
  no_folder-there f folder = rw (way-there d tree f (λ none. let e : false ≡ true = sym (ap is_folder none) ∙ folder in cc)) (a_way _ folder)

-- what a call that wasn't refused leaves
abbrev pub Leaves : View → (View → Type 0) → FsErr → Option View → Type 0
Leaves v P Failed view = Told view P
Leaves v P NoMemory view = view ≡ Some v
Leaves v P e view = ⊥

pub Fails-leaves : (refusal : Option FsErr) (v w : View) (P : View → Type 0) (e : FsErr) (view : Option View)
    → Fails refusal v w e view → refusal ≡ None → P v → P w → Leaves v P e view
Fails-leaves refusal v w P Failed view (inl same) free before after = (v, same, before)
Fails-leaves refusal v w P Failed view (inr done) free before after = (w, done.1, after)
Fails-leaves refusal v w P NoMemory view is free before after = is
Fails-leaves refusal v w P Exists view is free before after = let n : Some Exists ≡ None = sym is.0 ∙ free in cc
Fails-leaves refusal v w P Missing view is free before after = let n : Some Missing ≡ None = sym is.0 ∙ free in cc
Fails-leaves refusal v w P NotFolder view is free before after = let n : Some NotFolder ≡ None = sym is.0 ∙ free in cc
Fails-leaves refusal v w P NotEmpty view is free before after = let n : Some NotEmpty ≡ None = sym is.0 ∙ free in cc
