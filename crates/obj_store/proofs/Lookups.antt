-- What the answers of the file system say of an object.
use Rattle.std.proofs.Common.{◌≡◌, ℕ, List, Some, None, Err, refl, sym, ◌∙◌}
use Rattle.ost_types.specs.declared.meta.Meta.{Meta}
use Rattle.ost_types.specs.declared.object.Kind.{Kind}
use Rattle.ost_types.specs.Path.{Path}
use Rattle.fs_trait.specs.declared.types.Value.{Value}
use Rattle.fs_trait.specs.declared.types.Value.TheVariants.{Absent, Folder, Link, File}
use Rattle.fs_trait.specs.declared.types.FsErr.{FsErr}
use Rattle.fs_trait.specs.declared.types.FsErr.TheVariants.{Failed, NoMemory, Exists, Missing, NotFolder, NotEmpty}
use Rattle.fs_trait.specs.View.{Disk}
use Rattle.fs_trait.specs.Image.{IsTree}
use Rattle.fs_trait.specs.Seen.{Seen, seen, IsDirectory}
use Rattle.fs_trait.specs.Effect.{no_file, Answered, IsNode}
use Rattle.fs_trait.specs.declared.types.Node as node
use Rattle.fs_trait.proofs.Refusals.{no_file-there}
use Rattle.obj_store.specs.declared.fault.LoadFault.TheVariants as load
use Rattle.obj_store.specs.Lookup.{IsRegular, Opens}

-- a file that stands there is read, where no call fails and memory is there
refused_file : (d : Disk) (p : Path) (n : ℕ) (k : Kind) (s : Seen) → IsTree d → d.at p ≡ File n → (P : List ℕ → Type 0) (e : FsErr) → Answered (no_file p d) P (Err e) → Opens k s (Err (load.Fs e))
refused_file d p n k s tree at P Failed answered = tt
refused_file d p n k s tree at P NoMemory answered = tt
refused_file d p n k s tree at P Exists answered = let e : None ≡ Some Exists = sym (no_file-there d tree p n at) ∙ answered in cc
refused_file d p n k s tree at P Missing answered = let e : None ≡ Some Missing = sym (no_file-there d tree p n at) ∙ answered in cc
refused_file d p n k s tree at P NotFolder answered = let e : None ≡ Some NotFolder = sym (no_file-there d tree p n at) ∙ answered in cc
refused_file d p n k s tree at P NotEmpty answered = let e : None ≡ Some NotEmpty = sym (no_file-there d tree p n at) ∙ answered in cc

pub refused : (d : Disk) (p : Path) (m : Meta) (k : Kind) (s : Seen) → IsTree d → IsRegular d (d.at p) m → (P : List ℕ → Type 0) (e : FsErr) → Answered (no_file p d) P (Err e) → Opens k s (Err (load.Fs e))
refused d p m k s tree regular P e answered = by (d.at p) refl regular
  where
    by : (z : Value) → d.at p ≡ z → IsRegular d z m → Opens k s (Err (load.Fs e))
    by (File n) is r = refused_file d p n k s tree is P e answered
    by Absent is r = absurd r
    by (Folder x) is r = absurd r
    by (Link x t) is r = absurd r

-- what a look tells
pub is_absent : (d : Disk) (x : Value) → IsNode d x None → x ≡ Absent
is_absent d Absent is = refl
is_absent d (Folder k) is = cc
is_absent d (Link k s) is = cc
is_absent d (File k) is = cc

pub is_directory : (d : Disk) (x : Value) (m : Meta) → IsNode d x (Some (node.TheVariants.Folder m)) → IsDirectory (seen d x)
is_directory d Absent m is = cc
is_directory d (Folder k) m is = tt
is_directory d (Link k s) m is = cc
is_directory d (File k) m is = cc
