use Rattle.std.proofs.Common.{◌∷◌, ◌++◌, [], ap, append-nil}
use Rattle.hex.specs.Hex.{encode_with}
use Rattle.ost_types.specs.Csum.{hex_of}
use Rattle.obj_store.proofs.listing.digits_of.Goals as goal

pub returns : goal.returns
returns c = unfold encode_with in rw (c.in-Ok.ensures.written, c.copy_from_slice.ensures.after) (ap (λ x. hex_of (c.args.first ∷ []) ++ x) (append-nil c.args.rest.now))
