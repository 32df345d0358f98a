-- What each step of making a folder needs, writes and is refused for.
use Rattle.std.specs.Prelude.{◌≡◌, ◌≢◌, ℕ, true, [], take, None}
use Rattle.ost_types.specs.Path.{Path, is_below, is_in}
use Rattle.fs_trait.specs.declared.types.FsErr.{FsErr}
use Rattle.fs_trait.specs.declared.types.FsErr.TheVariants.{Failed, NoMemory}
use Rattle.fs_trait.specs.declared.types.Value.TheVariants as value
use Rattle.fs_trait.specs.View.{Disk, View}
use Rattle.fs_trait.specs.Effect.{IsFresh}
use Rattle.fs_trait.specs.Seen.{Seen, Vacant, Directory, Symlink, Leaf, shows, MayBe, IsDirectory}
use Rattle.fs_trait.specs.Change.{OfInode, Own}
use Rattle.checkout.specs.RemoveSteps as removal
use Rattle.folder_build.specs.declared.node.Content.{Content}
use Rattle.folder_build.specs.declared.node.Content.TheVariants.{Folder, File, Link}
use Rattle.folder_build.specs.declared.node.NewNode.{NewNode}
use Rattle.folder_build.specs.declared.phase.Phase.{Phase}
use Rattle.folder_build.specs.declared.phase.Phase.TheVariants.{Clear, Make, Write, Ended}
use Rattle.folder_build.specs.Node.{IsBuilt, IsContent, content_at, file_meta, folder_meta, link_meta}
use Rattle.folder_build.specs.Build.{Building, IsMade, IsNumber}

-- what is made at first of a node: a file is new and has any bytes
abbrev pub IsBegun : Content → View → Seen → Type 0
IsBegun Folder v s = s ≡ Directory folder_meta
IsBegun (Link t) v s = s ≡ Symlink link_meta t
IsBegun (File b) v s = (n : ℕ) × OfInode n file_meta s × IsFresh n v

-- the file at the node's path, with any bytes
abbrev pub IsPart : Path → View → Seen → Type 0
IsPart at v s = (n : ℕ) × OfInode n file_meta s × (v.now.at at ≡ value.File n)

-- what the next step may write
abbrev pub writes_in : Phase → Building → View → Path → Seen → Type 0
writes_in (Clear c) t v p s = removal.WritesOf c v p s
writes_in (Make n) t v p s = (e : NewNode) × IsNumber t.nodes n e × (p ≡ e.at) × (shows v.now p ≡ Vacant) × IsBegun e.what v s
writes_in (Write n) t v p s = (e : NewNode) × IsNumber t.nodes n e × (p ≡ e.at) × IsPart p v s
writes_in Ended t v p s = ⊥

abbrev pub WritesOf : Building → View → Path → Seen → Type 0
WritesOf t v = writes_in t.phase t v

-- the folder above it is there
abbrev pub HasHome : Path → Disk → Type 0
HasHome top d = (p : Path) → is_in p top ≡ true → IsDirectory (shows d p)

-- The file of this number is there, empty and with one name, and but for it the nodes before it are all that stands there.
pub record IsOpen (n : ℕ) (t : Building) (v : View) : Type 0 where
  pub node : NewNode
  pub number : IsNumber t.nodes n node
  pub inode : ℕ
  pub empty : shows v.now node.at ≡ Leaf inode file_meta []
  pub free : content_at (take n t.nodes) node.at ≡ None
  pub others : (p : Path) → is_below t.top p ≡ true → p ≢ node.at → IsContent (content_at (take n t.nodes) p) (shows v.now p)
  pub own : (p : Path) (s : Seen) → MayBe v p s → Own inode node.at p s

-- What the next step needs.
abbrev pub needs_in : Phase → Building → View → Type 0
needs_in (Clear c) t v = removal.Needs c v
needs_in (Make n) t v = IsBuilt v.now t.top (take n t.nodes)
needs_in (Write n) t v = IsOpen n t v
needs_in Ended t v = IsBuilt v.now t.top t.nodes

pub record Needs (t : Building) (v : View) : Type 0 where
  pub made : IsMade t
  pub home : HasHome t.top v.now
  pub meets : needs_in t.phase t v

-- Why a step isn't done: the call failed or wanted for memory, or what is to be removed has too long a path.
abbrev pub refuses_in : Phase → View → FsErr → Type 0
refuses_in ph v Failed = Unit {0}
refuses_in ph v NoMemory = Unit {0}
refuses_in (Clear c) v e = removal.Refuses c v e
refuses_in ph v e = ⊥

abbrev pub Refuses : Building → View → FsErr → Type 0
Refuses t = refuses_in t.phase
