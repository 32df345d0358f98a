-- The empty file is one.
use Rattle.std.proofs.Common.{◌≡◌, ℕ, [], Some, refl, arith}
use Rattle.std.specs.Str.{chars, is_utf8}
use Rattle.ost_types.specs.declared.meta.Meta.{Meta}
use Rattle.ost_types.specs.declared.object.Kind.TheVariants as kind
use Rattle.ost_forms.specs.declared.body.Body.TheVariants.{Regular}
use Rattle.ost_forms.specs.Stream.{IsWithin, content_form}
use Rattle.ost_objects.specs.Object.{HasForm}
use Rattle.gv_core.specs.Container.{container}
use Rattle.gv_core.specs.Kind.{items_at, kind_of, variant_kind}
use Rattle.gv_core.specs.Layout.{offset_size}
use Rattle.gv_core.specs.Measure.{alignment, fixed}
use Rattle.tree_walk.specs.Standing.{empty_file}

abbrev root_meta : Meta
root_meta = record { uid = 0; gid = 0; mode = 33188; xattrs = [] }

reads : content_form root_meta (Regular []) ≡ Some empty_file
unfolding chars is_utf8 variant_kind kind_of items_at fixed alignment container offset_size
reads = refl

within : (limit : ℕ) → IsWithin limit empty_file
within limit fits = (omega arith, omega arith)

pub empty_formed : (limit : ℕ) → HasForm kind.File limit empty_file
empty_formed limit = ∣ (record { meta = root_meta; body = Regular [] }, (within limit, reads, (420, omega arith, refl), record { uid = omega arith; gid = omega arith; mode = omega arith; rdev = omega arith })) ∣₁
