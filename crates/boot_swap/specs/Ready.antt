-- What stands at the link of a version.
use Rattle.std.specs.Prelude.{◌≡◌, Option, Some}
use Rattle.ost_types.specs.declared.meta.Meta.{Meta}
use Rattle.fs_trait.specs.declared.types.Node as node
use Rattle.repo_layout.specs.declared.fixed.Version.{Version}
use Rattle.repo_layout.specs.declared.fixed.Version.TheVariants.{Zero, One}
use Rattle.repo_layout.specs.Fixed.{number}
use Rattle.boot_model.specs.Entries.{boot_target}

-- the link of a version names this sub-version
abbrev pub IsLinkOf : Version → Version → Option node.Node → Type 0
IsLinkOf version sub n = (m : Meta) × (n ≡ Some (node.TheVariants.Link m (boot_target (number version) (number sub))))

-- a sub-version that it doesn't name: the first, unless it names that
abbrev pub IsOther : Version → Option node.Node → Version → Type 0
IsOther version n Zero = ¬ (IsLinkOf version Zero n)
IsOther version n One = IsLinkOf version Zero n
