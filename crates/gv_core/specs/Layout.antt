-- The normal form of a value of a kind, as a join of lists.
use Rattle.std.specs.Prelude.{ℕ, zero, suc, ◌+◌, ◌*◌, ◌%◌, ◌/◌, ◌^◌, max, Bool, true, false, ◌&&◌, nat_lt, nat_le, ◌==◌, if◌then◌else◌, cond, ℤ, pos, negsuc, List, [], ◌∷◌, ◌++◌, length, replicate, Option, Some, None}
use Rattle.std.specs.Option.{is_some}
use Rattle.std.specs.Int.{Width, w16, w32, w64, to_le_bytes, cast_unsigned}
use Rattle.std.specs.Str.{is_utf8}
use Rattle.gv_core.specs.declared.kind.Basic.{Basic}
use Rattle.gv_core.specs.declared.kind.Basic.TheVariants as b
use Rattle.gv_core.specs.Kind.{Kind, Kinds, basic, variant, array, maybe, tuple, entry, no_kinds, kind, variant_kind}
use Rattle.gv_core.specs.Text.{no_zero}
use Rattle.gv_core.specs.Measure.{◌>>=◌, gap, up, alignment, fixed}
use Rattle.gv_core.specs.Tree.{Leaf, Tree, Trees, tree, no_trees, leaf}
use Rattle.gv_core.specs.Tree as t

-- ---- framing

-- the bytes of a member, where they may begin, and whether their length is known from the kind
pub record Part : Type 0 where
  pub align : ℕ
  pub fixed : Bool
  pub bytes : List ℕ

abbrev pub end_of : ℕ → Part → ℕ
end_of n p = up p.align n + length p.bytes

-- the members from offset n on, each behind its padding
abbrev pub body : ℕ → List Part → List ℕ
body n [] = []
body n (p ∷ ps) = replicate (gap p.align n) 0 ++ (p.bytes ++ body (end_of n p) ps)

-- where each member ends
abbrev pub ends : ℕ → List Part → List ℕ
ends n [] = []
ends n (p ∷ ps) = end_of n p ∷ ends (end_of n p) ps

-- where each member of variable size but the last ends
abbrev pub inner_ends : ℕ → List Part → List ℕ
inner_ends n [] = []
inner_ends n (p ∷ []) = []
inner_ends n (p ∷ q ∷ ps) = cond p.fixed (inner_ends (end_of n p) (q ∷ ps)) (end_of n p ∷ inner_ends (end_of n p) (q ∷ ps))

-- the n low bytes of a number, low first
abbrev pub le : ℕ → ℕ → List ℕ
le zero n = []
le (suc k) n = (n % 256) ∷ le k (n / 256)

-- offsets in order, and in reverse order
abbrev pub table : ℕ → List ℕ → List ℕ
table s [] = []
table s (e ∷ es) = le s e ++ table s es

abbrev pub table_back : ℕ → List ℕ → List ℕ
table_back s [] = []
table_back s (e ∷ es) = table_back s es ++ le s e

-- the least size of an offset with which a container of n bytes and m offsets is short enough
unfoldable pub offset_size : ℕ → ℕ → Option ℕ
offset_size n m =
    if nat_lt (n + m) (2 ^ 8) then Some 1
    else if nat_lt (n + 2 * m) (2 ^ 16) then Some 2
    else if nat_lt (n + 4 * m) (2 ^ 32) then Some 4
    else if nat_lt (n + 8 * m) (2 ^ 64) then Some 8
    else None

abbrev pub sized : List ℕ → Option (List ℕ)
sized bytes = if nat_lt (length bytes) (2 ^ 64) then Some bytes else None

-- the elements of an array have one kind
abbrev pub parts : ℕ → Bool → List (List ℕ) → List Part
parts a f [] = []
parts a f (r ∷ rs) = record { align = a; fixed = f; bytes = r } ∷ parts a f rs

abbrev pub array_of : Kind → List (List ℕ) → Option (List ℕ)
array_of k rs =
    let f = is_some (fixed k) in
    let ps = parts (alignment k) f rs in
    cond f (sized (body 0 ps)) (offset_size (length (body 0 ps)) (length rs) >>= λ s. Some (body 0 ps ++ table s (ends 0 ps)))

abbrev pub all_fixed : List Part → Bool
all_fixed [] = true
all_fixed (p ∷ ps) = p.fixed && all_fixed ps

abbrev pub widest_of : List Part → ℕ
widest_of [] = 1
widest_of (p ∷ ps) = max p.align (widest_of ps)

abbrev pub fixed_tuple : List Part → List ℕ
fixed_tuple [] = 0 ∷ []
fixed_tuple (p ∷ ps) = body 0 (p ∷ ps) ++ replicate (gap (widest_of (p ∷ ps)) (length (body 0 (p ∷ ps)))) 0

abbrev pub tuple_of : List Part → Option (List ℕ)
tuple_of ps = cond (all_fixed ps) (sized (fixed_tuple ps)) (offset_size (length (body 0 ps)) (length (inner_ends 0 ps)) >>= λ s. Some (body 0 ps ++ table_back s (inner_ends 0 ps)))

-- ---- the normal form

abbrev pub below : ℕ → ℕ → List ℕ → Option (List ℕ)
below n limit bytes = if nat_lt n limit then Some bytes else None

abbrev pub bit : Bool → ℕ
bit false = 0
bit true = 1

abbrev pub text_bytes : List ℕ → Option (List ℕ)
text_bytes s = if is_utf8 s && no_zero s then Some (s ++ 0 ∷ []) else None

-- a signed number of width w, of k bits and a sign
abbrev pub signed : Width → ℕ → ℤ → Option (List ℕ)
signed w k (pos n) = below n (2 ^ k) (to_le_bytes w (cast_unsigned w (pos n)))
signed w k (negsuc n) = below n (2 ^ k) (to_le_bytes w (cast_unsigned w (negsuc n)))

abbrev pub leaf_bytes : Basic → Leaf → Option (List ℕ)
leaf_bytes b.Byte (t.byte n) = below n (2 ^ 8) (n ∷ [])
leaf_bytes b.Bool (t.bool x) = Some (bit x ∷ [])
leaf_bytes b.I16 (t.i16 z) = signed w16 15 z
leaf_bytes b.I32 (t.i32 z) = signed w32 31 z
leaf_bytes b.I64 (t.i64 z) = signed w64 63 z
leaf_bytes b.Handle (t.handle z) = signed w32 31 z
leaf_bytes b.Double (t.double d) = if length d == 8 then Some d else None
leaf_bytes b.U16 (t.u16 n) = below n (2 ^ 16) (to_le_bytes w16 n)
leaf_bytes b.U32 (t.u32 n) = below n (2 ^ 32) (to_le_bytes w32 n)
leaf_bytes b.U64 (t.u64 n) = below n (2 ^ 64) (to_le_bytes w64 n)
leaf_bytes b.Text (t.str s) = text_bytes s
leaf_bytes b.Path (t.str s) = text_bytes s
leaf_bytes b.Signature (t.str s) = text_bytes s
leaf_bytes _ _ = None

abbrev pub part : Kind → List ℕ → Part
part k bytes = record { align = alignment k; fixed = is_some (fixed k); bytes = bytes }

abbrev pub as_basic : Kind → Option Basic
as_basic (basic x) = Some x
as_basic _ = None

abbrev pub as_array : Kind → Option Kind
as_array (array k) = Some k
as_array _ = None

abbrev pub as_tuple : Kind → Option Kinds
as_tuple (tuple ks) = Some ks
as_tuple _ = None

abbrev pub as_entry : Kind → Option (Basic × Kind)
as_entry (entry x k) = Some (x, k)
as_entry _ = None

abbrev pub as_maybe : Kind → Option Kind
as_maybe (maybe k) = Some k
as_maybe _ = None

abbrev pub is_variant : Kind → Bool
is_variant variant = true
is_variant _ = false

abbrev pub just_of : Bool → List ℕ → List ℕ
just_of true bytes = bytes
just_of false bytes = bytes ++ 0 ∷ []

unfoldable mutual
  pub layout : Tree → Kind → Option (List ℕ)
  layout (t.leaf x) k = as_basic k >>= λ b. leaf_bytes b x
  layout (t.array ts) k = as_array k >>= λ e. rows ts e >>= λ rs. array_of e rs
  layout (t.tuple ts) k = as_tuple k >>= λ ks. members ts ks >>= tuple_of
  layout (t.entry x y) k = as_entry k >>= λ e. layout x (basic e.0) >>= λ r. layout y e.1 >>= λ q. tuple_of (part (basic e.0) r ∷ part e.1 q ∷ [])
  layout t.nothing k = as_maybe k >>= λ e. Some []
  layout (t.just x) k = as_maybe k >>= λ e. layout x e >>= λ r. sized (just_of (is_some (fixed e)) r)
  layout (t.variant s x) k = if is_variant k then (variant_kind s >>= λ e. layout x e >>= λ r. sized (r ++ 0 ∷ s)) else None

  -- the elements of an array
  pub rows : Trees → Kind → Option (List (List ℕ))
  rows no_trees k = Some []
  rows (tree t ts) k = layout t k >>= λ r. rows ts k >>= λ rs. Some (r ∷ rs)

  -- the members of a tuple, one of each kind
  pub members : Trees → Kinds → Option (List Part)
  members no_trees no_kinds = Some []
  members no_trees (kind k ks) = None
  members (tree t ts) no_kinds = None
  members (tree t ts) (kind k ks) = layout t k >>= λ r. members ts ks >>= λ ps. Some (part k r ∷ ps)

-- how deep containers nest
abbrev mutual
  pub nests : Tree → ℕ
  nests (t.leaf x) = 0
  nests (t.array ts) = suc (nest ts)
  nests (t.tuple ts) = suc (nest ts)
  nests (t.entry x y) = suc (max (nests x) (nests y))
  nests t.nothing = 1
  nests (t.just x) = suc (nests x)
  nests (t.variant s x) = suc (nests x)

  pub nest : Trees → ℕ
  nest no_trees = 0
  nest (tree x xs) = max (nests x) (nest xs)

-- the normal form of the value as one of the kind that the text spells, where containers nest at most 64 deep
abbrev pub normal_form : List ℕ → Tree → Option (List ℕ)
normal_form text v = if nat_le (nests v) 64 then (variant_kind text >>= layout v) else None
