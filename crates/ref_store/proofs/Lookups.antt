-- What the answers of the file system say of a ref.
use Rattle.std.proofs.Common.{◌≡◌, ◌≢◌, ◌+◌, ◌∷◌, [], ℕ, true, false, List, length, Option, Some, None, Err, refl, sym, ◌∙◌, ap, length-append}
use Rattle.ost_types.specs.declared.meta.Meta.{Meta}
use Rattle.ost_types.specs.Path.{Path}
use Rattle.ost_types.specs.Csum.{hex_of, IsHexSum}
use Rattle.ost_types.proofs.HexSums.{IsHexSum-hex_of}
use Rattle.fs_trait.specs.declared.types.Value.{Value}
use Rattle.fs_trait.specs.declared.types.Value.TheVariants.{Absent, Folder, Link, File}
use Rattle.fs_trait.specs.declared.types.Node as node
use Rattle.fs_trait.specs.declared.types.FsErr.{FsErr}
use Rattle.fs_trait.specs.declared.types.FsErr.TheVariants.{Failed, NoMemory, Exists, Missing, NotFolder, NotEmpty}
use Rattle.fs_trait.specs.View.{Disk}
use Rattle.fs_trait.specs.Image.{reads, is_folder, IsTree}
use Rattle.fs_trait.specs.Effect.{no_file, inode_of, IsNode, Answered}
use Rattle.fs_trait.proofs.Refusals.{no_file-there}
use Rattle.repo_layout.specs.Paths.{ref_path}
use Rattle.repo_layout.specs.RefFile.{IsSum, ref_text}
use Rattle.repo_layout.specs.Refs.{ShowsCommit, ShowsNoCommit, is_leaf}
use Rattle.ref_store.specs.declared.lookup.There.{There}
use Rattle.ref_store.specs.declared.lookup.There.TheVariants as there
use Rattle.ref_store.specs.Lookup.{IsThere, Looks, ref_of, IsRef, Gets}

reads-file : (d : Disk) (p : Path) (n : ℕ) → d.at p ≡ File n → reads d p ≡ Some (d.bytes n)
unfolding reads
reads-file d p n at = rw at refl

reads-link : (d : Disk) (p : Path) (m : Meta) (t : List ℕ) → d.at p ≡ Link m t → reads d p ≡ None
unfolding reads
reads-link d p m t at = rw at refl

reads-folder : (d : Disk) (p : Path) → is_folder (d.at p) ≡ true → reads d p ≡ None
unfolding reads
reads-folder d p folder = by (d.at p) refl
  where
    by : (z : Value) → d.at p ≡ z → reads d p ≡ None
    by (Folder m) is = rw is refl
    by Absent is = let n : false ≡ true = sym (ap is_folder is) ∙ folder in cc
    by (Link m t) is = let n : false ≡ true = sym (ap is_folder is) ∙ folder in cc
    by (File k) is = let n : false ≡ true = sym (ap is_folder is) ∙ folder in cc

module _ (d : Disk) (p : Path) (n : ℕ) (at : d.at p ≡ File n) where
  held : (bytes : List ℕ) → bytes ≡ d.bytes (inode_of (d.at p)) → reads d p ≡ Some bytes
  held bytes is = reads-file d p n at ∙ ap Some (sym (is ∙ ap (λ x. d.bytes (inode_of x)) at))

  pub shows : (bytes commit : List ℕ) → bytes ≡ d.bytes (inode_of (d.at p)) → IsSum commit → bytes ≡ ref_text commit → ShowsCommit d p commit
  shows bytes commit is sum text = record { sum = sum; file = held bytes is ∙ ap Some text }

  pub shows_none : (bytes : List ℕ) → bytes ≡ d.bytes (inode_of (d.at p)) → ((commit : List ℕ) → IsSum commit → ¬ (bytes ≡ ref_text commit)) → ShowsNoCommit d p
  shows_none bytes is none = record {
    leaf = ap is_leaf at;
    none = λ commit shown. none commit shown.sum (let e : Some bytes ≡ Some (ref_text commit) = sym (held bytes is) ∙ shown.file in cc);
  }

  -- another length than a ref file's
  pub shows_none-length : length (d.bytes n) ≢ 65 → ShowsNoCommit d p
  shows_none-length other = record {
    leaf = ap is_leaf at;
    none = λ commit shown.
        let e : Some (d.bytes n) ≡ Some (ref_text commit) = sym (reads-file d p n at) ∙ shown.file in
        let same : d.bytes n ≡ ref_text commit = cc in
        let digits : IsHexSum (hex_of commit) = IsHexSum-hex_of commit shown.sum.whole shown.sum.bytes in
        other (ap length same ∙ length-append (hex_of commit) (10 ∷ []) ∙ ap (λ k. k + 1) digits.whole);
  }

  -- a file that stands there is read, where no call fails and memory is there
  pub looks-refused : IsTree d → (P : List ℕ → Type 0) (e : FsErr) → Answered (no_file p d) P (Err e) → Looks d p (Err e)
  looks-refused tree P Failed answered = tt
  looks-refused tree P NoMemory answered = tt
  looks-refused tree P Exists answered = let e : None ≡ Some Exists = sym (no_file-there d tree p n at) ∙ answered in cc
  looks-refused tree P Missing answered = let e : None ≡ Some Missing = sym (no_file-there d tree p n at) ∙ answered in cc
  looks-refused tree P NotFolder answered = let e : None ≡ Some NotFolder = sym (no_file-there d tree p n at) ∙ answered in cc
  looks-refused tree P NotEmpty answered = let e : None ≡ Some NotEmpty = sym (no_file-there d tree p n at) ∙ answered in cc

pub stat-refused : (d : Disk) (p : Path) (P : Option node.Node → Type 0) (e : FsErr) → Answered None P (Err e) → Looks d p (Err e)
stat-refused d p P Failed answered = tt
stat-refused d p P NoMemory answered = tt
stat-refused d p P Exists answered = let e : None ≡ Some Exists = answered in cc
stat-refused d p P Missing answered = let e : None ≡ Some Missing = answered in cc
stat-refused d p P NotFolder answered = let e : None ≡ Some NotFolder = answered in cc
stat-refused d p P NotEmpty answered = let e : None ≡ Some NotEmpty = answered in cc

pub link_shows_none : (d : Disk) (p : Path) (m : Meta) (t : List ℕ) → d.at p ≡ Link m t → ShowsNoCommit d p
link_shows_none d p m t at = record {
  leaf = ap is_leaf at;
  none = λ commit shown. let e : None ≡ Some (ref_text commit) = sym (reads-link d p m t at) ∙ shown.file in cc;
}

pub is_absent : (d : Disk) (x : Value) → IsNode d x None → x ≡ Absent
is_absent d Absent is = refl
is_absent d (Folder k) is = cc
is_absent d (Link k s) is = cc
is_absent d (File k) is = cc

pub is_a_folder : (d : Disk) (x : Value) (m : Meta) → IsNode d x (Some (node.TheVariants.Folder m)) → is_folder x ≡ true
is_a_folder d Absent m is = cc
is_a_folder d (Folder k) m is = refl
is_a_folder d (Link k s) m is = cc
is_a_folder d (File k) m is = cc

pub is_link : (d : Disk) (x : Value) (m : Meta) (t : List ℕ) → IsNode d x (Some (node.TheVariants.Link m t)) → x ≡ Link m t
is_link d Absent m t is = cc
is_link d (Folder k) m t is = cc
is_link d (Link k s) m t is = cc
is_link d (File k) m t is = cc

pub is_file : (d : Disk) (x : Value) (m : Meta) (len : ℕ) → IsNode d x (Some (node.TheVariants.File m len)) → (n : ℕ) × (x ≡ File n) × (len ≡ length (d.bytes n))
is_file d Absent m len is = cc
is_file d (Folder k) m len is = cc
is_file d (Link k s) m len is = cc
is_file d (File k) m len is = (k, refl, cc)

-- what a ref is, by what stands at its path
pub ref_there : (d : Disk) (name : List ℕ) (x : There) → IsThere d (ref_path name) x → IsRef d name (ref_of x)
ref_there d name there.Nothing is = is
ref_there d name (there.Commit c) is = is
ref_there d name there.Folder is = record {
  there = λ absent. let n : true ≡ false = sym is ∙ ap is_folder absent in cc;
  none = λ commit shown. let e : None ≡ Some (ref_text commit) = sym (reads-folder d (ref_path name) is) ∙ shown.file in cc;
}
ref_there d name there.OtherLeaf is = record {
  there = λ absent. let n : true ≡ false = sym is.leaf ∙ ap is_leaf absent in cc;
  none = is.none;
}

pub gets-refused : (d : Disk) (name : List ℕ) (p : Path) (e : FsErr) → Looks d p (Err e) → Gets d name (Err e)
gets-refused d name p Failed l = tt
gets-refused d name p NoMemory l = tt
gets-refused d name p Exists l = l
gets-refused d name p Missing l = l
gets-refused d name p NotFolder l = l
gets-refused d name p NotEmpty l = l
