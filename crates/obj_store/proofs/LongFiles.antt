-- A file that is too long for an object of its kind.
use Rattle.std.proofs.Common.{◌≡◌, ◌≢◌, inl, inr, ◌≤◌, ◌+◌, ◌-◌, arith, ℕ, List, ◌++◌, length, take, drop, Some, None, Err, refl, sym, ◌∙◌, ap, subst}
use Rattle.std.proofs.Math.Seq.{take-add}
use Rattle.std.proofs.lemmas.List.{take_all}
use Rattle.sha2.specs.Sha256.{sha256}
use Rattle.ost_types.specs.declared.meta.Meta.{Meta}
use Rattle.ost_types.specs.declared.object.Kind.{Kind}
use Rattle.ost_types.specs.declared.object.Kind.TheVariants as kind
use Rattle.ost_types.specs.declared.object.ObjName.{ObjName}
use Rattle.ost_types.specs.Path.{Path}
use Rattle.ost_forms.specs.declared.fault.ObjFault.TheVariants as read
use Rattle.ost_objects.specs.declared.fault.CheckFault.TheVariants as check
use Rattle.ost_objects.specs.Object.{Misreads}
use Rattle.fs_trait.specs.declared.types.Value.{Value}
use Rattle.fs_trait.specs.declared.types.Value.TheVariants.{Absent, Folder, Link, File}
use Rattle.fs_trait.specs.declared.types.FsErr.{FsErr}
use Rattle.fs_trait.specs.declared.types.FsErr.TheVariants as fs
use Rattle.fs_trait.specs.View.{Disk}
use Rattle.fs_trait.specs.Image.{IsTree}
use Rattle.fs_trait.specs.Seen.{Leaf, seen, shows}
use Rattle.fs_trait.specs.Effect.{Answered, OfNone, inode_of, no_file}
use Rattle.fs_trait.proofs.Refusals.{no_file-there}
use Rattle.repo_model.specs.Objects.{object_in, path_of}
use Rattle.obj_store.specs.declared.fault.LoadFault.{LoadFault}
use Rattle.obj_store.specs.declared.fault.LoadFault.TheVariants as load
use Rattle.obj_store.specs.Lengths.{HasLength, IsLong, IsTooLong, TellsLong}
use Rattle.obj_store.specs.Lookup.{Loads, Opens, OpensAt}

-- ---- its parts

pub piece_on : (xs : List ℕ) (from end : ℕ) → from ≤ end → take from xs ++ take (end - from) (drop from xs) ≡ take end xs
piece_on xs from end le = let e : from + (end - from) ≡ end = omega (arith, le) in sym (take-add from (end - from) xs) ∙ ap (λ n. take n xs) e

pub length_is : (d : Disk) (z : Value) (len : ℕ) → HasLength d z len → length (d.bytes (inode_of z)) ≡ len
length_is d (File n) len is = is
length_is d Absent len is = absurd is
length_is d (Folder m) len is = absurd is
length_is d (Link m t) len is = absurd is

pub all_taken : (d : Disk) (z : Value) (from len : ℕ) → HasLength d z len → len ≤ from → take from (d.bytes (inode_of z)) ≡ d.bytes (inode_of z)
all_taken d z from len has le = let e = length_is d z len has in take_all from (d.bytes (inode_of z)) (omega (arith, e, le))

-- a file that stands there is read, where no call fails and memory is there
read_file : (d : Disk) (p : Path) (n : ℕ) → IsTree d → d.at p ≡ File n → (P : List ℕ → Type 0) (e : FsErr) → Answered (no_file p d) P (Err e) → OfNone e
read_file d p n tree at P fs.Failed answered = tt
read_file d p n tree at P fs.NoMemory answered = tt
read_file d p n tree at P fs.Exists answered = let e : None ≡ Some fs.Exists = sym (no_file-there d tree p n at) ∙ answered in cc
read_file d p n tree at P fs.Missing answered = let e : None ≡ Some fs.Missing = sym (no_file-there d tree p n at) ∙ answered in cc
read_file d p n tree at P fs.NotFolder answered = let e : None ≡ Some fs.NotFolder = sym (no_file-there d tree p n at) ∙ answered in cc
read_file d p n tree at P fs.NotEmpty answered = let e : None ≡ Some fs.NotEmpty = sym (no_file-there d tree p n at) ∙ answered in cc

pub part_refused : (d : Disk) (p : Path) (len : ℕ) → IsTree d → HasLength d (d.at p) len → (P : List ℕ → Type 0) (e : FsErr) → Answered (no_file p d) P (Err e) → OfNone e
part_refused d p len tree has P e answered = by (d.at p) refl has
  where
    by : (z : Value) → d.at p ≡ z → HasLength d z len → OfNone e
    by (File n) is h = read_file d p n tree is P e answered
    by Absent is h = absurd h
    by (Folder m) is h = absurd h
    by (Link m t) is h = absurd h

-- ---- what is told of it

plain_object : (k : Kind) → k ≢ kind.File → (n : ℕ) (m : Meta) (bytes : List ℕ) → object_in k (Leaf n m bytes) ≡ Some bytes
plain_object kind.File plain n m bytes = absurd (plain refl)
plain_object kind.Commit plain n m bytes = refl
plain_object kind.DirTree plain n m bytes = refl
plain_object kind.DirMeta plain n m bytes = refl

long_there : (d : Disk) (k : Kind) (z : Value) (len : ℕ) → k ≢ kind.File → HasLength d z len → object_in k (seen d z) ≡ Some (d.bytes (inode_of z))
long_there d k (File n) len plain is = plain_object k plain n (d.meta n) (d.bytes n)
long_there d k Absent len plain is = absurd is
long_there d k (Folder m) len plain is = absurd is
long_there d k (Link m t) len plain is = absurd is

module _ (d : Disk) (name : ObjName) (at : Path) (here : at ≡ path_of name) (len : ℕ) (long : IsTooLong name.kind len) (has : HasLength d (d.at at) len) where
  is_long : IsLong d name (d.bytes (inode_of (d.at at)))
  is_long = record {
    there = subst (λ p. object_in name.kind (shows d p) ≡ Some (d.bytes (inode_of (d.at at)))) here (long_there d name.kind (d.at at) len long.0 has);
    long = (long.0, let e = length_is d (d.at at) len has in omega (arith, e, long.1));
  }

  pub tells_other : (found : List ℕ) → found ≡ sha256 (d.bytes (inode_of (d.at at))) → found ≢ name.csum → TellsLong d name (load.Damaged (check.WrongSum found))
  tells_other found is other = (d.bytes (inode_of (d.at at)), is_long, is, other)

  pub tells_large : (found : List ℕ) → found ≡ sha256 (d.bytes (inode_of (d.at at))) → found ≡ name.csum → TellsLong d name (load.Damaged (check.Unreadable (read.TooLarge len)))
  tells_large found is same = (d.bytes (inode_of (d.at at)), is_long, sym is ∙ same, sym (length_is d (d.at at) len has))

-- ---- and so it is told of an object

long_misreads : (k : Kind) (limit : ℕ) (bytes : List ℕ) (n : ℕ) → IsTooLong k (length bytes) → n ≡ length bytes → Misreads k limit bytes (read.TooLarge n)
long_misreads kind.File limit bytes n long is = absurd (long.0 refl)
long_misreads kind.Commit limit bytes n long is = (is, omega (arith, is, long.1))
long_misreads kind.DirTree limit bytes n long is = (is, omega (arith, is, long.1))
long_misreads kind.DirMeta limit bytes n long is = (is, omega (arith, is, long.1))

module _ (d : Disk) (name : ObjName) (limit : ℕ) where
  opened_loads : (e : LoadFault) → Opens name.kind (shows d (path_of name)) (Err e) → Loads d name limit (Err e)
  opened_loads (load.Damaged (check.WrongSum found)) o = absurd o
  opened_loads (load.Damaged check.NoMemory) o = absurd o
  opened_loads (load.Damaged (check.Unreadable read.BadMode)) o = inr (refl, o.0, o.1)
  opened_loads (load.Damaged (check.Unreadable read.NotNormal)) o = absurd o
  opened_loads (load.Damaged (check.Unreadable read.BadSumLength)) o = absurd o
  opened_loads (load.Damaged (check.Unreadable read.BadName)) o = absurd o
  opened_loads (load.Damaged (check.Unreadable read.NotSorted)) o = absurd o
  opened_loads (load.Damaged (check.Unreadable (read.TooLarge n))) o = absurd o
  opened_loads (load.Damaged (check.Unreadable read.NoMemory)) o = absurd o
  opened_loads (load.Fs fs.Failed) o = tt
  opened_loads (load.Fs fs.NoMemory) o = tt
  opened_loads (load.Fs fs.Exists) o = absurd o
  opened_loads (load.Fs fs.Missing) o = absurd o
  opened_loads (load.Fs fs.NotFolder) o = absurd o
  opened_loads (load.Fs fs.NotEmpty) o = absurd o
  opened_loads load.NoMemory o = tt

  long_loads : (e : LoadFault) → TellsLong d name e → Loads d name limit (Err e)
  long_loads (load.Damaged (check.WrongSum found)) (bytes, long, sum, other) = record { bytes = bytes; there = long.there; sum = sum; other = other }
  long_loads (load.Damaged check.NoMemory) o = absurd o
  long_loads (load.Damaged (check.Unreadable (read.TooLarge n))) (bytes, long, named, count) = inl (record {
    bytes = bytes;
    stored = record { there = long.there; named = named };
    reads = long_misreads name.kind limit bytes n long.long count;
    cause = λ e. let z : read.TooLarge n ≡ read.NoMemory = e in cc;
  })
  long_loads (load.Damaged (check.Unreadable read.BadMode)) o = absurd o
  long_loads (load.Damaged (check.Unreadable read.NotNormal)) o = absurd o
  long_loads (load.Damaged (check.Unreadable read.BadSumLength)) o = absurd o
  long_loads (load.Damaged (check.Unreadable read.BadName)) o = absurd o
  long_loads (load.Damaged (check.Unreadable read.NotSorted)) o = absurd o
  long_loads (load.Damaged (check.Unreadable read.NoMemory)) o = absurd o
  long_loads (load.Fs e) o = absurd o
  long_loads load.NoMemory o = absurd o

  -- what isn't opened isn't loaded
  pub loads_err : (e : LoadFault) → OpensAt d name (Err e) → Loads d name limit (Err e)
  loads_err e (inl o) = opened_loads e o
  loads_err e (inr o) = long_loads e o
