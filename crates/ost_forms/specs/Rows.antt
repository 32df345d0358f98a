-- Lists of rows, and extended attributes among them.
use Rattle.std.specs.Prelude.{ℕ, List, [], ◌∷◌, Option, Some, option_and_then}
use Rattle.gv_core.specs.Container.{container_form}
use Rattle.ost_types.specs.declared.meta.Xattr.{Xattr}
use Rattle.ost_forms.specs.declared.object_type.ObjectType.TheVariants as types
use Rattle.ost_forms.specs.TypeText.{type_text}

infixl 10 ◌>>=◌
abbrev pub ◌>>=◌ : {A B : Type 0} → Option A → (A → Option B) → Option B
o >>= f = option_and_then f o

-- the form of each, where each has one
abbrev pub each : {A : Type 0} → (A → Option (List ℕ)) → List A → Option (List (List ℕ))
each form [] = Some []
each form (x ∷ xs) = form x >>= λ r. each form xs >>= λ rs. Some (r ∷ rs)

-- an array
abbrev pub array_form : {A : Type 0} → List ℕ → (A → Option (List ℕ)) → List A → Option (List ℕ)
array_form kind form xs = each form xs >>= container_form kind

-- an extended attribute: its name and its value
abbrev pub xattr_form : Xattr → Option (List ℕ)
xattr_form x = container_form (type_text types.Xattr) (x.name ∷ x.value ∷ [])

abbrev pub xattrs_form : List Xattr → Option (List ℕ)
xattrs_form = array_form (type_text types.Xattrs) xattr_form
