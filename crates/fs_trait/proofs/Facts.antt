-- Small facts on what paths show.
use Rattle.std.proofs.Common.{◌≡◌, inl, inr, ⊎_elim, ℕ, true, false, refl, sym, ◌∙◌, ap, subst, List, [], ◌∷◌, Option, None}
use Rattle.ost_types.specs.declared.meta.Meta.{Meta}
use Rattle.ost_types.specs.Path.{Name, Path, under, is_below}
use Rattle.ost_types.proofs.Paths.{same_name-Decides}
use Rattle.fs_trait.specs.declared.types.Value.{Value}
use Rattle.fs_trait.specs.declared.types.Value.TheVariants.{Absent, Folder, Link, File}
use Rattle.fs_trait.specs.declared.types.FsErr.{FsErr}
use Rattle.fs_trait.specs.declared.types.FsErr.TheVariants.{Failed, Exists, Missing, NotFolder, NotEmpty, NoMemory}
use Rattle.fs_trait.specs.View.{Disk, View}
use Rattle.fs_trait.specs.Image.{Holds, is_folder, IsTree, Told}
use Rattle.fs_trait.specs.Effect.{no_new, Fails}
use Rattle.fs_trait.proofs.Ways.{way-folder}
use Rattle.fs_trait.specs.Seen.{Seen, Vacant, Directory, Symlink, Leaf, seen, shows, MayBe, NotDirectory}
use Rattle.fs_trait.specs.Change.{Writes}
use Rattle.fs_trait.proofs.Kept.{same_view}
use Rattle.fs_trait.proofs.Effects.{MayShow-now}

vacant_absent_value : (d : Disk) (z : Value) → seen d z ≡ Vacant → z ≡ Absent
vacant_absent_value d Absent e = refl
vacant_absent_value d (Folder m) e = let e : Directory m ≡ Vacant = e in cc
vacant_absent_value d (Link m t) e = let e : Symlink m t ≡ Vacant = e in cc
vacant_absent_value d (File n) e = let e : Leaf n (d.meta n) (d.bytes n) ≡ Vacant = e in cc

pub vacant_absent : (d : Disk) (p : Path) → shows d p ≡ Vacant → d.at p ≡ Absent
vacant_absent d p e = vacant_absent_value d (d.at p) e

leaf_file_value : (d : Disk) (z : Value) (n : ℕ) (m : Meta) (b : List ℕ) → seen d z ≡ Leaf n m b → (z ≡ File n) × (d.bytes n ≡ b)
leaf_file_value d Absent n m b e = let e : Vacant ≡ Leaf n m b = e in cc
leaf_file_value d (Folder k) n m b e = let e : Directory k ≡ Leaf n m b = e in cc
leaf_file_value d (Link k t) n m b e = let e : Symlink k t ≡ Leaf n m b = e in cc
leaf_file_value d (File k) n m b e =
    let i : k ≡ n = cc in
    let j : d.bytes k ≡ b = cc in
    (ap File i, ap d.bytes (sym i) ∙ j)

pub leaf_file : (d : Disk) (p : Path) (n : ℕ) (m : Meta) (b : List ℕ) → shows d p ≡ Leaf n m b → (d.at p ≡ File n) × (d.bytes n ≡ b)
leaf_file d p n m b e = leaf_file_value d (d.at p) n m b e

not_directory_value : (d : Disk) (z : Value) → NotDirectory (seen d z) → is_folder z ≡ false
not_directory_value d Absent no_ = refl
not_directory_value d (Folder m) no_ = absurd no_
not_directory_value d (Link m t) no_ = refl
not_directory_value d (File n) no_ = refl

pub no_folder_shown : (d : Disk) (p : Path) → NotDirectory (shows d p) → is_folder (d.at p) ≡ false
no_folder_shown d p no_ = not_directory_value d (d.at p) no_

pub leaf_not_directory : (s : Seen) (n : ℕ) (m : Meta) (b : List ℕ) → s ≡ Leaf n m b → NotDirectory s
leaf_not_directory s n m b e = subst NotDirectory (sym e) tt

-- a file that a path holds may be there with the bytes of now
pub may_held : (v : View) (p : Path) (n : ℕ) → Holds v p (File n) → MayBe v p (Leaf n (v.now.meta n) (v.now.bytes n))
may_held v p n held = record { value = File n; held = held; shown = MayShow-now v (File n) }

-- a name in a folder doesn't lead to that folder
pub under-not_below : (f : Path) (x : Name) → is_below (under f x) f ≡ false
unfolding is_below
under-not_below [] x = refl
under-not_below (a ∷ f) x = rw ((same_name-Decides a a).1 refl, under-not_below f x) refl

pub no_new-free : (d : Disk) (f : Path) (x : Name) → IsTree d → is_folder (d.at f) ≡ true → d.at (under f x) ≡ Absent → no_new (under f x) d ≡ None
unfolding no_new
no_new-free d f x tree folder absent = rw (way-folder d tree f x folder, absent) refl

-- what isn't written shows what it showed
pub shows_kept : (W : Path → Seen → Type 0) (old new : View) (p : Path) → Writes W old new → ((s : Seen) → W p s → ⊥) → shows new.now p ≡ shows old.now p
shows_kept W old new p w none = ⊎_elim (λ same. same) (λ wrote. absurd (none _ wrote)) (w.now p)

-- a call that answers an error has written no more than the call that doesn't
pub Fails-writes : (W : Path → Seen → Type 0) (refusal : Option FsErr) (v w : View) (e : FsErr) (view : Option View)
    → Fails refusal v w e view → Writes W v w → Told view (λ u. Writes W v u)
Fails-writes W refusal v w Failed view (inl same) writes = (v, same, same_view W v)
Fails-writes W refusal v w Failed view (inr done) writes = (w, done.1, writes)
Fails-writes W refusal v w NoMemory view same writes = (v, same, same_view W v)
Fails-writes W refusal v w Exists view is writes = (v, is.1, same_view W v)
Fails-writes W refusal v w Missing view is writes = (v, is.1, same_view W v)
Fails-writes W refusal v w NotFolder view is writes = (v, is.1, same_view W v)
Fails-writes W refusal v w NotEmpty view is writes = (v, is.1, same_view W v)
