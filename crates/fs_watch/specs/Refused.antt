-- Which path is remembered behind a call.
use Rattle.std.specs.Prelude.{◌≡◌, ◌⊎◌, Option, Some, None, Result, Ok, Err}
use Rattle.ost_types.specs.Path.{Path}
use Rattle.fs_trait.specs.declared.types.FsErr.{FsErr}
use Rattle.fs_trait.specs.declared.types.FsErr.TheVariants.{Failed, Exists, NoMemory}

-- Behind a call about the path that answered so. A call that is refused for what stands there is remembered by its path, or
-- by None where there is no memory for it; one that is done, fails or lacks memory leaves what was remembered before.
abbrev pub Remembers : {T : Type 0} → Path → Result T FsErr → Option Path → Option Path → Type 0
Remembers p (Ok x) old new = new ≡ old
Remembers p (Err Failed) old new = new ≡ old
Remembers p (Err NoMemory) old new = new ≡ old
Remembers p (Err e) old new = (new ≡ Some p) ⊎ (new ≡ None)

-- The path that a call from one path to another is refused for. What stands in the way stands at the second.
abbrev pub about : {T : Type 0} → Path → Path → Result T FsErr → Path
about from to (Err Exists) = to
about from to answer = from
