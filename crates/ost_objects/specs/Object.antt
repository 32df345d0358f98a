-- What makes bytes an object of a repository: their name, and their form.
use Rattle.std.specs.Prelude.{◌≡◌, ℕ, List, Result, Ok, Err}
use Rattle.sha2.specs.Sha256.{sha256}
use Rattle.ost_types.specs.declared.meta.Meta.{Meta}
use Rattle.ost_types.specs.declared.object.Kind.{Kind}
use Rattle.ost_types.specs.declared.object.Kind.TheVariants.{Commit, DirTree, DirMeta, File}
use Rattle.ost_types.specs.declared.object.ObjName.{ObjName}
use Rattle.ost_forms.specs.declared.fault.ObjFault.{ObjFault}
use Rattle.ost_forms.specs.Commit.{CommitParts, ReadsCommit}
use Rattle.ost_forms.specs.DirTree.{Entries, ReadsDirTree}
use Rattle.ost_forms.specs.DirMeta.{ReadsDirMeta}
use Rattle.ost_forms.specs.Stream.{FileParts, ReadsFile}

-- the bytes have this name: its sum is their SHA-256. A file's bytes are its content stream.
abbrev pub IsNamed : ObjName → List ℕ → Type 0
IsNamed name bytes = sha256 bytes ≡ name.csum

-- the bytes read as an object of the kind, in which content of a file has at most so many bytes
abbrev pub IsObject : Kind → ℕ → List ℕ → Type 0
IsObject Commit limit bytes = (c : CommitParts) × ReadsCommit (λ x. x) bytes (Ok c)
IsObject DirTree limit bytes = (t : Entries) × ReadsDirTree (λ x. x) bytes (Ok t)
IsObject DirMeta limit bytes = (m : Meta) × ReadsDirMeta (λ x. x) bytes (Ok m)
IsObject File limit bytes = (f : FileParts) × ReadsFile limit bytes (Ok f)

-- that they do, as a fact with one proof
abbrev pub HasForm : Kind → ℕ → List ℕ → Type 0
HasForm kind limit bytes = ∥ IsObject kind limit bytes ∥₁

-- the reader of the kind answers this fault
abbrev pub Misreads : Kind → ℕ → List ℕ → ObjFault → Type 0
Misreads Commit limit bytes e = ReadsCommit (λ (x : CommitParts). x) bytes (Err e)
Misreads DirTree limit bytes e = ReadsDirTree (λ (x : Entries). x) bytes (Err e)
Misreads DirMeta limit bytes e = ReadsDirMeta (λ (x : Meta). x) bytes (Err e)
Misreads File limit bytes e = ReadsFile limit bytes (Err e)

-- Each answer of the test of a kind.
abbrev pub Tests : {X : Type 0} → Kind → ℕ → List ℕ → Result X ObjFault → Type 0
Tests kind limit bytes (Ok x) = IsObject kind limit bytes
Tests kind limit bytes (Err e) = Misreads kind limit bytes e
