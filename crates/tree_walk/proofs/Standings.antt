-- The objects of a disk, of files only which of them stand, as a store.
use Rattle.std.proofs.Common.{ℕ, List, Result, Ok, Err, refl}
use Rattle.ost_types.specs.declared.object.Kind.TheVariants.{File}
use Rattle.fs_trait.specs.declared.types.FsErr.{FsErr}
use Rattle.fs_trait.specs.Seen.{shows}
use Rattle.fs_trait.specs.View.{Disk}
use Rattle.repo_layout.specs.RefFile.{IsSum}
use Rattle.repo_model.specs.Objects.{Has, IsMap, path_of}
use Rattle.repo_model.specs.Trees.{name_of}
use Rattle.tree_read.specs.declared.looked.Looked.{Looked}
use Rattle.tree_read.specs.declared.looked.Looked.TheVariants.{Here, Absent, Damaged}
use Rattle.tree_read.specs.Looks.{Looks}
use Rattle.tree_walk.specs.Standing.{IsLeaf, Standing, empty_file, standing_store}
use Rattle.tree_walk.proofs.Empty.{empty_formed}

pub standing_map : (d : Disk) → IsMap (Standing d)
standing_map d = (standing_store d).one_each

-- a file that stands is had
pub file_stands : (d : Disk) (content : ℕ) (sum : List ℕ) → IsSum sum → IsLeaf (shows d (path_of (name_of File sum))) → Has (Standing d) content (name_of File sum)
file_stands d content sum is leaf = record { bytes = empty_file; stored = (is, leaf, refl); formed = empty_formed content }

abbrev OfFile : Disk → ℕ → List ℕ → Type 0 → Result (Looked (Unit {0})) FsErr → Type 0
OfFile d content sum P r = Looks d content (name_of File sum) (λ _. P) r

pub looks_stand : (d : Disk) (content : ℕ) (sum : List ℕ) → IsSum sum → (r : Result (Looked (Unit {0})) FsErr) → OfFile d content sum (IsLeaf (shows d (path_of (name_of File sum)))) r → OfFile d content sum (Has (Standing d) content (name_of File sum)) r
looks_stand d content sum is (Ok (Here x)) looks = file_stands d content sum is looks
looks_stand d content sum is (Ok Absent) looks = looks
looks_stand d content sum is (Ok Damaged) looks = looks
looks_stand d content sum is (Err e) looks = looks
