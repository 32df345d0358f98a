-- What each step of putting a link at a path needs, writes and is refused for.
use Rattle.std.specs.Prelude.{◌≡◌, ℕ, List}
use Rattle.ost_types.specs.Path.{Path}
use Rattle.fs_trait.specs.declared.types.FsErr.{FsErr}
use Rattle.fs_trait.specs.declared.types.FsErr.TheVariants.{Failed, NoMemory, Exists}
use Rattle.fs_trait.specs.View.{View}
use Rattle.fs_trait.specs.Seen.{Seen, Vacant, Symlink, shows, IsDirectory}
use Rattle.fs_trait.specs.Change.{Moves}
use Rattle.checkout.specs.RemoveSteps as removal
use Rattle.folder_build.specs.declared.link.LinkPhase.{LinkPhase}
use Rattle.folder_build.specs.declared.link.LinkPhase.TheVariants.{Clear, Make, Replace, Ended}
use Rattle.folder_build.specs.Node.{link_meta}
use Rattle.folder_build.specs.Steps.{HasHome}
use Rattle.folder_build.specs.Link.{IsMade, Linking}

abbrev pub IsTheLink : List ℕ → Seen → Type 0
IsTheLink target s = s ≡ Symlink link_meta target

-- what the next step may write
abbrev pub writes_in : LinkPhase → Linking → View → Path → Seen → Type 0
writes_in (Clear c) t v p s = removal.WritesOf c v p s
writes_in Make t v p s = (p ≡ t.stage) × (shows v.now p ≡ Vacant) × IsTheLink t.target s
writes_in Replace t v p s = Moves t.stage t.at (IsTheLink t.target) p s
writes_in Ended t v p s = ⊥

abbrev pub WritesOf : Linking → View → Path → Seen → Type 0
WritesOf t v = writes_in t.phase t v

abbrev pub needs_in : LinkPhase → Linking → View → Type 0
needs_in (Clear c) t v = removal.Needs c v
needs_in Make t v = shows v.now t.stage ≡ Vacant
needs_in Replace t v = IsTheLink t.target (shows v.now t.stage)
needs_in Ended t v = IsTheLink t.target (shows v.now t.at)

-- What the next step needs: the folders of both paths are there.
pub record Needs (t : Linking) (v : View) : Type 0 where
  pub made : IsMade t
  pub home : HasHome t.stage v.now
  pub folder : HasHome t.at v.now
  pub meets : needs_in t.phase t v

-- Why a step isn't done: the call failed or wanted for memory, what is to be removed has too long a path, or a folder stands where
-- the link is to go.
abbrev pub refuses_in : LinkPhase → Linking → View → FsErr → Type 0
refuses_in ph t v Failed = Unit {0}
refuses_in ph t v NoMemory = Unit {0}
refuses_in (Clear c) t v e = removal.Refuses c v e
refuses_in Replace t v Exists = IsDirectory (shows v.now t.at)
refuses_in ph t v e = ⊥

abbrev pub Refuses : Linking → View → FsErr → Type 0
Refuses t = refuses_in t.phase t
