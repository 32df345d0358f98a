-- Why an edit isn't done.
use Rattle.std.specs.Prelude.{◌≡◌, ◌≢◌}
use Rattle.ost_types.specs.Path.{Path}
use Rattle.fs_trait.specs.View.{Disk}
use Rattle.fs_trait.specs.Seen.{Seen, Vacant, shows, IsDirectory}
use Rattle.host_edit.specs.declared.change.Change.{Change}
use Rattle.host_edit.specs.declared.change.Change.TheVariants.{File, Link, Folder, Nothing}
use Rattle.host_edit.specs.declared.refusal.EditRefusal.{EditRefusal}
use Rattle.host_edit.specs.declared.refusal.EditRefusal.TheVariants.{NoParent, NoPath, NotEmpty, KindClash}
use Rattle.host_edit.specs.There.{HasParent, IsFullFolder, LacksParent}

abbrev pub IsRemoval : Change → Type 0
IsRemoval Nothing = Unit {0}
IsRemoval c = ⊥

-- a leaf doesn't take a folder's place, and a folder nobody's
abbrev pub Clashes : Change → Seen → Type 0
Clashes (File d) s = IsDirectory s
Clashes (Link m t) s = IsDirectory s
Clashes (Folder m) s = s ≢ Vacant
Clashes Nothing s = ⊥

-- Of a change of this path, which the edit has as that one, this is told.
abbrev pub IsRefused : Disk → Path → Path → Change → EditRefusal → Type 0
IsRefused d at path c (NoParent p) = (p ≡ path) × LacksParent d at
IsRefused d at path c (NoPath p) = (p ≡ path) × HasParent d at × IsRemoval c × (shows d at ≡ Vacant)
IsRefused d at path c (NotEmpty p) = (p ≡ path) × HasParent d at × IsRemoval c × IsFullFolder d at
IsRefused d at path c (KindClash p) = (p ≡ path) × HasParent d at × Clashes c (shows d at)

-- nothing is told of it: it may be made
abbrev pub IsAllowed : Disk → Path → Path → Change → Type 0
IsAllowed d at path c = (refusal : EditRefusal) → ¬ (IsRefused d at path c refusal)
