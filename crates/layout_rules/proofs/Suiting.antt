-- Whether a rule is kept is seen by what a path shows.
use Rattle.std.proofs.Common.{◌≡◌, sym, subst}
use Rattle.fs_trait.specs.declared.types.Value.{Value}
use Rattle.fs_trait.specs.declared.types.Value.TheVariants as value
use Rattle.fs_trait.specs.View.{Disk}
use Rattle.fs_trait.specs.Seen.{Vacant, IsDirectory, seen}
use Rattle.layout_rules.specs.declared.rule.Rule.{Rule}
use Rattle.layout_rules.specs.declared.rule.Rule.TheVariants.{FileOrNothing, FolderOrNothing, NoFolder}
use Rattle.layout_rules.specs.Checks.{Suits}
use Rattle.layout_rules.specs.InLayout.{SuitsSeen}

pub to_seen : (rule : Rule) (d : Disk) (z : Value) → Suits rule z → SuitsSeen rule (seen d z)
to_seen FolderOrNothing d value.Absent suits = tt
to_seen FolderOrNothing d (value.Folder m) suits = tt
to_seen FolderOrNothing d (value.Link m t) suits = suits
to_seen FolderOrNothing d (value.File n) suits = suits
to_seen NoFolder d value.Absent suits = tt
to_seen NoFolder d (value.Folder m) suits = suits
to_seen NoFolder d (value.Link m t) suits = tt
to_seen NoFolder d (value.File n) suits = tt
to_seen FileOrNothing d value.Absent suits = tt
to_seen FileOrNothing d (value.Folder m) suits = suits
to_seen FileOrNothing d (value.Link m t) suits = suits
to_seen FileOrNothing d (value.File n) suits = tt

pub from_seen : (rule : Rule) (d : Disk) (z : Value) → SuitsSeen rule (seen d z) → Suits rule z
from_seen FolderOrNothing d value.Absent suits = tt
from_seen FolderOrNothing d (value.Folder m) suits = tt
from_seen FolderOrNothing d (value.Link m t) suits = suits
from_seen FolderOrNothing d (value.File n) suits = suits
from_seen NoFolder d value.Absent suits = tt
from_seen NoFolder d (value.Folder m) suits = suits
from_seen NoFolder d (value.Link m t) suits = tt
from_seen NoFolder d (value.File n) suits = tt
from_seen FileOrNothing d value.Absent suits = tt
from_seen FileOrNothing d (value.Folder m) suits = suits
from_seen FileOrNothing d (value.Link m t) suits = suits
from_seen FileOrNothing d (value.File n) suits = tt

-- nothing suits each rule
pub vacant_suits : (rule : Rule) → SuitsSeen rule Vacant
vacant_suits FolderOrNothing = tt
vacant_suits NoFolder = tt
vacant_suits FileOrNothing = tt

pub absent_suits : (rule : Rule) (z : Value) → z ≡ value.Absent → Suits rule z
absent_suits FolderOrNothing z e = subst (Suits FolderOrNothing) (sym e) tt
absent_suits NoFolder z e = subst (Suits NoFolder) (sym e) tt
absent_suits FileOrNothing z e = subst (Suits FileOrNothing) (sym e) tt

pub folder_suits : (d : Disk) (z : Value) → IsDirectory (seen d z) → Suits FolderOrNothing z
folder_suits d (value.Folder m) is = tt
folder_suits d value.Absent is = absurd is
folder_suits d (value.Link m t) is = absurd is
folder_suits d (value.File n) is = absurd is

-- what shows the same suits the same rules
pub suits_same : (rule : Rule) (d e : Disk) (z y : Value) → seen e y ≡ seen d z → Suits rule z → Suits rule y
suits_same rule d e z y same suits = from_seen rule e y (subst (SuitsSeen rule) (sym same) (to_seen rule d z suits))
