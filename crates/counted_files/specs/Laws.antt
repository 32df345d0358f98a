-- A file system that tells nothing.
use Rattle.std.specs.Prelude.{◌≡◌, None, Some}

pub not_told : {A P : Type 0} (v : A) → None ≡ Some v → P
not_told v is = cc
