-- A view that is told is told once.
use Rattle.std.proofs.Common.{◌≡◌, Option, Some, subst}
use Rattle.fs_trait.specs.View.{View}
use Rattle.fs_trait.specs.Image.{Told}

pub told_once : (P : View → Type 0) (view : Option View) → Told view P → (x : View) → view ≡ Some x → P x
told_once P view t x is = let e : t.0 ≡ x = cc (t.1, is) in subst P e t.2
