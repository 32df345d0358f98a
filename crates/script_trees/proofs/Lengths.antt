-- What stands for a value is as long as the value.
use Rattle.std.proofs.Common.{◌≡◌, inl, inr, ◌<◌, ◌≤◌, ◌+◌, ◌*◌, ℕ, Bool, true, false, List, [], ◌∷◌, length, refl, sym, ◌∙◌, ap, arith}
use Rattle.std.specs.List.{slice_split, onto_first}
use Rattle.std.proofs.lemmas.List.{length-append}
use Rattle.std.proofs.lemmas.List.Splits.{slice_split-cons_yes, slice_split-cons_no}
use Rattle.std.proofs.lemmas.List.Sums.{sum_by-cons}
use Rattle.hex.specs.Hex.{lower_digits}
use Rattle.hex.proofs.HexLemmas.{length-encode_with}
use Rattle.ost_types.specs.Csum.{hex_of}
use Rattle.ost_types.specs.Path.{Path, joined, text_of}
use Rattle.ost_types.specs.declared.meta.Xattr.{Xattr}
use Rattle.script.specs.Field.{IsField, IsPathField, Spells, Stands}
use Rattle.script_reader.specs.Values.{pieces, ArePairs, HasXattrs, IsPair, IsXattrs}
use Rattle.tree_build.specs.Brief.{xattr_size, xattrs_size}

-- the lengths of some pieces, each with the byte behind it
abbrev pub spread : List (List ℕ) → ℕ
spread [] = 0
spread (p ∷ ps) = length p + 1 + spread ps

spread_onto : (x : ℕ) (ps : List (List ℕ)) → 0 < spread ps → spread (onto_first x ps) ≡ spread ps + 1
spread_onto x [] some = absurd (omega (arith, some))
spread_onto x (p ∷ ps) some = omega arith

spread_split : (p : ℕ → Bool) (xs : List ℕ) → spread (slice_split p xs) ≡ length xs + 1
spread_split p [] = refl
spread_split p (x ∷ xs) = by (p x) refl (spread_split p xs)
  where
    by : (b : Bool) → p x ≡ b → spread (slice_split p xs) ≡ length xs + 1 → spread (slice_split p (x ∷ xs)) ≡ length (x ∷ xs) + 1
    by true e before = ap spread (slice_split-cons_yes p x xs e) ∙ omega (arith, before)
    by false e before = ap spread (slice_split-cons_no p x xs e) ∙ spread_onto x (slice_split p xs) (omega (arith, before)) ∙ omega (arith, before)

pub spread_pieces : (c : ℕ) (text : List ℕ) → spread (pieces c text) ≡ length text + 1
spread_pieces c text = spread_split _ text

-- ---- fields

stands_long : (text : List ℕ) (b : ℕ) (rest : List ℕ) → Stands text b rest → length rest + 1 ≤ length text
stands_long text b rest (inl h) = omega (arith, ap length h.0)
stands_long text b rest (inr h) = omega (arith, ap length h, length-append (hex_of (b ∷ [])) rest)

pub spells_long : (text value : List ℕ) → Spells text value → length value ≤ length text
spells_long text [] s = omega arith
spells_long text (b ∷ value) s = omega (arith, stands_long text b s.1 s.2, spells_long s.1 value s.3)

pub field_long : (field value : List ℕ) → IsField field value → length value ≤ length field
field_long field value (inl h) = omega (arith, ap length h.1)
field_long field value (inr h) = spells_long field value h.2

-- ---- the fields of a node

joined_long : (p : Path) → length (joined p) ≤ length (text_of p)
unfolding joined
joined_long [] = omega arith
joined_long (x ∷ p) = omega arith

pub path_long : (field : List ℕ) (p : Path) → IsPathField field p → length (joined p) ≤ length field
path_long field p is = omega (arith, joined_long p, ap length is.written.1, field_long field is.text is.spelled)

hex_long : (bytes : List ℕ) → length (hex_of bytes) ≡ 2 * length bytes
hex_long bytes = length-encode_with lower_digits bytes

pair_long : (pair : List ℕ) (x : Xattr) → IsPair pair x → xattr_size x ≤ length pair
pair_long pair x is = omega (arith, sym (spread_pieces 58 pair) ∙ ap spread is.parts, hex_long x.name, hex_long x.value)

pairs_long : (pairs : List (List ℕ)) (xattrs : List Xattr) → ArePairs pairs xattrs → xattrs_size xattrs + length pairs ≤ spread pairs
pairs_long [] [] are = omega arith
pairs_long [] (x ∷ xattrs) are = absurd are
pairs_long (pair ∷ pairs) [] are = absurd are
pairs_long (pair ∷ pairs) (x ∷ xattrs) are = omega (arith, sum_by-cons xattr_size x xattrs, pair_long pair x are.0, pairs_long pairs xattrs are.1)

some_pieces : (ps : List (List ℕ)) → 0 < spread ps → 0 < length ps
some_pieces [] some = absurd (omega (arith, some))
some_pieces (p ∷ ps) some = omega arith

xattrs_text : (text : List ℕ) (xattrs : List Xattr) → HasXattrs text xattrs → xattrs_size xattrs ≤ length text
xattrs_text text xattrs (inl h) = omega (arith, ap xattrs_size h.1)
xattrs_text text xattrs (inr h) =
    let whole = spread_pieces 44 text in
    omega (arith, whole, pairs_long (pieces 44 text) xattrs h.1, some_pieces (pieces 44 text) (omega (arith, whole)))

pub xattrs_long : (field : List ℕ) (xattrs : List Xattr) → IsXattrs field xattrs → xattrs_size xattrs ≤ length field
xattrs_long field xattrs is = omega (arith, xattrs_text is.text xattrs is.written, field_long field is.text is.spelled)
