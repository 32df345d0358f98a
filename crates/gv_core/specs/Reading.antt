-- How bytes are cut: the only value that they can be the normal form of.
use Rattle.std.specs.Prelude.{ℕ, zero, suc, ◌+◌, ◌-◌, ◌*◌, ◌/◌, ◌^◌, Bool, true, false, ◌&&◌, nat_lt, nat_le, ◌==◌, if◌then◌else◌, cond, List, [], ◌∷◌, length, take, drop, slice_index, Option, Some, None, option_map}
use Rattle.std.specs.Option.{is_some}
use Rattle.std.specs.Int.{w16, w32, w64, from_le_bytes, cast_signed}
use Rattle.std.specs.Str.{is_utf8}
use Rattle.gv_core.specs.declared.kind.Basic.{Basic}
use Rattle.gv_core.specs.declared.kind.Basic.TheVariants as b
use Rattle.gv_core.specs.Kind.{Kind, Kinds, basic, variant, array, maybe, tuple, entry, no_kinds, kind, variant_kind}
use Rattle.gv_core.specs.Tree.{Leaf, Tree, Trees, tree, no_trees, leaf}
use Rattle.gv_core.specs.Tree as t
use Rattle.gv_core.specs.Measure.{◌>>=◌, alignment, fixed, up}
use Rattle.gv_core.specs.Text.{no_zero}

abbrev pub from_le : List ℕ → ℕ
from_le [] = 0
from_le (c ∷ cs) = c + 256 * from_le cs

-- the size of an offset in a container of n bytes
abbrev pub size_for : ℕ → ℕ
size_for n = if nat_lt n (2 ^ 8) then 1 else if nat_lt n (2 ^ 16) then 2 else if nat_lt n (2 ^ 32) then 4 else 8

-- m offsets from the front, or from the back
abbrev pub numbers : ℕ → ℕ → List ℕ → List ℕ
numbers s zero bytes = []
numbers s (suc m) bytes = from_le (take s bytes) ∷ numbers s m (drop s bytes)

abbrev pub back_numbers : ℕ → ℕ → List ℕ → List ℕ
back_numbers s zero bytes = []
back_numbers s (suc m) bytes = from_le (drop (length bytes - s) bytes) ∷ back_numbers s m (take (length bytes - s) bytes)

abbrev pub between : List ℕ → ℕ → ℕ → List ℕ
between bytes i j = take (j - i) (drop i bytes)

abbrev pub Reader : Type 0
Reader = Kind → List ℕ → Option Tree

-- the member between two places, and then the rest
abbrev pub then_more : Option Tree → Option Trees → Option Trees
then_more first rest = first >>= λ t. option_map (tree t) rest

abbrev pub piece : Reader → Kind → List ℕ → ℕ → ℕ → ℕ → Option Tree
piece p k bytes start end limit = if nat_le start end && nat_le end limit then p k (between bytes start end) else None

-- elements that end at these places
abbrev pub cut : Reader → Kind → List ℕ → ℕ → ℕ → List ℕ → Option Trees
cut p k bytes limit pos [] = Some no_trees
cut p k bytes limit pos (e ∷ es) = then_more (piece p k bytes (up (alignment k) pos) e limit) (cut p k bytes limit e es)

-- m places n bytes apart, each behind its padding
abbrev pub steps : ℕ → ℕ → ℕ → ℕ → List ℕ
steps a n pos zero = []
steps a n pos (suc m) = (up a pos + n) ∷ steps a n (up a pos + n) m

-- the same up to the end of the bytes
abbrev pub steps_to : ℕ → ℕ → ℕ → ℕ → ℕ → List ℕ
steps_to zero a n pos end = []
steps_to (suc fuel) a n pos end = if nat_lt pos end then (up a pos + n) ∷ steps_to fuel a n (up a pos + n) end else []

abbrev pub last_number : ℕ → List ℕ → ℕ
last_number s bytes = from_le (drop (length bytes - s) bytes)

abbrev pub framed : Reader → Kind → List ℕ → ℕ → Option Trees
framed p k bytes s =
    let limit = last_number s bytes in
    if nat_lt limit (length bytes) then cut p k bytes limit 0 (numbers s ((length bytes - limit) / s) (drop limit bytes)) else None

abbrev pub elements : Reader → Kind → Option ℕ → List ℕ → Option Trees
elements p k (Some n) bytes = cut p k bytes (length bytes) 0 (steps_to (length bytes) (alignment k) n 0 (length bytes))
elements p k None [] = Some no_trees
elements p k None (c ∷ cs) = framed p k (c ∷ cs) (size_for (length (c ∷ cs)))

-- how many members have an offset
unfoldable pub inner : Kinds → ℕ
inner no_kinds = 0
inner (kind k no_kinds) = 0
inner (kind k (kind l ks)) = cond (is_some (fixed k)) (inner (kind l ks)) (suc (inner (kind l ks)))

abbrev pub next_end : Option ℕ → Kinds → ℕ → ℕ → List ℕ → Option (ℕ × List ℕ)
next_end (Some n) ks start limit es = Some (start + n, es)
next_end None no_kinds start limit es = Some (limit, es)
next_end None (kind k ks) start limit [] = None
next_end None (kind k ks) start limit (e ∷ es) = Some (e, es)

abbrev pub cut_each : Reader → Kinds → List ℕ → ℕ → ℕ → List ℕ → Option Trees
cut_each p no_kinds bytes limit pos es = Some no_trees
cut_each p (kind k ks) bytes limit pos es =
    next_end (fixed k) ks (up (alignment k) pos) limit es >>= λ x. then_more (piece p k bytes (up (alignment k) pos) x.0 limit) (cut_each p ks bytes limit x.0 x.1)

abbrev pub tuple_at : Reader → Kinds → List ℕ → ℕ → ℕ → Option Trees
tuple_at p ks bytes s m =
    if nat_le (s * m) (length bytes) then cut_each p ks bytes (length bytes - s * m) 0 (back_numbers s m bytes) else None

abbrev pub front : List ℕ → List ℕ
front bytes = take (length bytes - 1) bytes

abbrev pub text_at : List ℕ → Option Leaf
text_at bytes = if nat_lt 0 (length bytes) && (is_utf8 (front bytes) && no_zero (front bytes)) then Some (t.str (front bytes)) else None

abbrev pub leaf_at : Basic → List ℕ → Option Leaf
leaf_at b.Byte bytes = if length bytes == 1 then Some (t.byte (slice_index bytes 0)) else None
leaf_at b.Bool bytes = if length bytes == 1 then Some (t.bool (slice_index bytes 0 == 1)) else None
leaf_at b.I16 bytes = if length bytes == 2 then Some (t.i16 (cast_signed w16 (from_le_bytes w16 bytes))) else None
leaf_at b.I32 bytes = if length bytes == 4 then Some (t.i32 (cast_signed w32 (from_le_bytes w32 bytes))) else None
leaf_at b.I64 bytes = if length bytes == 8 then Some (t.i64 (cast_signed w64 (from_le_bytes w64 bytes))) else None
leaf_at b.Handle bytes = if length bytes == 4 then Some (t.handle (cast_signed w32 (from_le_bytes w32 bytes))) else None
leaf_at b.Double bytes = if length bytes == 8 then Some (t.double bytes) else None
leaf_at b.U16 bytes = if length bytes == 2 then Some (t.u16 (from_le_bytes w16 bytes)) else None
leaf_at b.U32 bytes = if length bytes == 4 then Some (t.u32 (from_le_bytes w32 bytes)) else None
leaf_at b.U64 bytes = if length bytes == 8 then Some (t.u64 (from_le_bytes w64 bytes)) else None
leaf_at b.Text bytes = text_at bytes
leaf_at b.Path bytes = text_at bytes
leaf_at b.Signature bytes = text_at bytes

abbrev pub pair : Basic → Kind → Kinds
pair x k = kind (basic x) (kind k no_kinds)

abbrev pub as_pair : Trees → Option Tree
as_pair (tree x (tree y no_trees)) = Some (t.entry x y)
as_pair _ = None

abbrev pub maybe_at : Reader → Kind → Bool → List ℕ → Option Tree
maybe_at p k f [] = Some t.nothing
maybe_at p k true (c ∷ cs) = option_map t.just (p k (c ∷ cs))
maybe_at p k false (c ∷ cs) = option_map t.just (p k (front (c ∷ cs)))

-- what stands before the last zero byte, and behind it
abbrev pub split_more : ℕ → List ℕ → Option (List ℕ × List ℕ) → Option (List ℕ × List ℕ)
split_more c cs (Some p) = Some (c ∷ p.0, p.1)
split_more c cs None = if c == 0 then Some ([], cs) else None

abbrev pub split_last : List ℕ → Option (List ℕ × List ℕ)
split_last [] = None
split_last (c ∷ cs) = split_more c cs (split_last cs)

abbrev pub entry_at : Reader → Basic → Kind → List ℕ → Option Tree
entry_at p x k bytes = tuple_at p (pair x k) bytes (size_for (length bytes)) (inner (pair x k)) >>= as_pair

abbrev pub variant_at : Reader → List ℕ → Option Tree
variant_at p bytes = split_last bytes >>= λ q. variant_kind q.1 >>= λ k. option_map (t.variant q.1) (p k q.0)

unfoldable pub parse : ℕ → Reader
parse zero (basic x) bytes = option_map leaf (leaf_at x bytes)
parse zero _ bytes = None
parse (suc d) (basic x) bytes = option_map leaf (leaf_at x bytes)
parse (suc d) (array k) bytes = option_map t.array (elements (parse d) k (fixed k) bytes)
parse (suc d) (tuple ks) bytes = option_map t.tuple (tuple_at (parse d) ks bytes (size_for (length bytes)) (inner ks))
parse (suc d) (entry x k) bytes = entry_at (parse d) x k bytes
parse (suc d) (maybe k) bytes = maybe_at (parse d) k (is_some (fixed k)) bytes
parse (suc d) variant bytes = variant_at (parse d) bytes
