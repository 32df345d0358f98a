-- The objects of a disk, of files only which of them stand.
use Rattle.std.specs.Prelude.{◌≡◌, ℕ, List, [], ◌∷◌}
use Rattle.std.proofs.Common.{refl, sym, ◌∙◌}
use Rattle.ost_types.specs.declared.object.Kind.{Kind}
use Rattle.ost_types.specs.declared.object.Kind.TheVariants.{Commit, DirTree, DirMeta, File}
use Rattle.ost_types.specs.declared.object.ObjName.{ObjName}
use Rattle.fs_trait.specs.Seen.{Seen, Symlink, Leaf, shows}
use Rattle.fs_trait.specs.View.{Disk}
use Rattle.repo_layout.specs.RefFile.{IsSum}
use Rattle.repo_model.specs.Objects.{Store, Stores, Has, path_of}
use Rattle.repo_model.proofs.Stored.{stores_one}
use Rattle.repo_model.specs.Trees.{name_of}
use Rattle.tree_read.specs.TreeStore.{IsTreeStore}

-- a file or a link stands there
abbrev pub IsLeaf : Seen → Type 0
IsLeaf (Leaf n m bytes) = Unit {0}
IsLeaf (Symlink m target) = Unit {0}
IsLeaf s = ⊥

-- the content stream of an empty file of root's that all may read: a header of 18 bytes, behind its length and four zero bytes
abbrev pub empty_file : List ℕ
empty_file = 0 ∷ 0 ∷ 0 ∷ 18 ∷ 0 ∷ 0 ∷ 0 ∷ 0 ∷ 0 ∷ 0 ∷ 0 ∷ 0 ∷ 0 ∷ 0 ∷ 0 ∷ 0 ∷ 0 ∷ 0 ∷ 129 ∷ 164 ∷ 0 ∷ 0 ∷ 0 ∷ 0 ∷ 0 ∷ 17 ∷ []

abbrev pub StandsAs : Kind → Disk → ObjName → List ℕ → Type 0
StandsAs Commit d name bytes = Stores d name bytes
StandsAs DirTree d name bytes = Stores d name bytes
StandsAs DirMeta d name bytes = Stores d name bytes
StandsAs File d name bytes = IsSum name.csum × IsLeaf (shows d (path_of name)) × (bytes ≡ empty_file)

-- Each file that stands counts as an empty one, whatever it holds.
abbrev pub Standing : Disk → Store
Standing d name bytes = StandsAs name.kind d name bytes

-- each file that stands is what its name says, and its content has at most so many bytes
abbrev pub AreRight : ℕ → Disk → Type 0
AreRight content d = (sum : List ℕ) → IsSum sum → IsLeaf (shows d (path_of (name_of File sum))) → Has (Stores d) content (name_of File sum)

-- ---- trees may be walked by it

one_as : (d : Disk) (kind : Kind) (name : ObjName) (b c : List ℕ) → StandsAs kind d name b → StandsAs kind d name c → b ≡ c
one_as d Commit name b c x y = stores_one d name b c x y
one_as d DirTree name b c x y = stores_one d name b c x y
one_as d DirMeta name b c x y = stores_one d name b c x y
one_as d File name b c x y = x.2 ∙ sym y.2

folder_as : (d : Disk) (kind : Kind) (name : ObjName) (b : List ℕ) → (kind ≡ File → ⊥) → Stores d name b → StandsAs kind d name b
folder_as d Commit name b is s = s
folder_as d DirTree name b is s = s
folder_as d DirMeta name b is s = s
folder_as d File name b is s = absurd (is refl)

pub standing_store : (d : Disk) → IsTreeStore d (Standing d)
standing_store d = record {
  one_each = record { one = λ name b c x y. one_as d name.kind name b c x y };
  folders = λ o b is s. folder_as d o.kind o b is s;
}
