-- Types as trees, and how they are spelled.
use Rattle.std.specs.Prelude.{ℕ, suc, max, Bool, true, false, ◌==◌, nat_le, if◌then◌else◌, List, [], ◌∷◌, ◌++◌, Option, Some, None, option_map, option_and_then}
use Rattle.gv_core.specs.declared.kind.Basic.{Basic}
use Rattle.gv_core.specs.declared.kind.Basic.TheVariants as b

mutual
  pub data Kind : Type 0 where
    basic : Basic → Kind
    variant : Kind
    array : Kind → Kind
    maybe : Kind → Kind
    tuple : Kinds → Kind
    entry : Basic → Kind → Kind

  pub data Kinds : Type 0 where
    no_kinds : Kinds
    kind : Kind → Kinds → Kinds

-- ---- type strings

abbrev pub letter : Basic → ℕ
letter b.Byte = 121
letter b.Bool = 98
letter b.I16 = 110
letter b.U16 = 113
letter b.I32 = 105
letter b.U32 = 117
letter b.I64 = 120
letter b.U64 = 116
letter b.Handle = 104
letter b.Double = 100
letter b.Text = 115
letter b.Path = 111
letter b.Signature = 103

unfoldable mutual
  pub spell : Kind → List ℕ
  spell (basic x) = letter x ∷ []
  spell variant = 118 ∷ []
  spell (array k) = 97 ∷ spell k
  spell (maybe k) = 109 ∷ spell k
  spell (tuple ks) = 40 ∷ (spell_all ks ++ 41 ∷ [])
  spell (entry x k) = 123 ∷ letter x ∷ (spell k ++ 125 ∷ [])

  pub spell_all : Kinds → List ℕ
  spell_all no_kinds = []
  spell_all (kind k ks) = spell k ++ spell_all ks

-- how deep the containers of a kind nest
abbrev mutual
  pub kind_depth : Kind → ℕ
  kind_depth (basic x) = 0
  kind_depth variant = 1
  kind_depth (array k) = suc (kind_depth k)
  kind_depth (maybe k) = suc (kind_depth k)
  kind_depth (tuple ks) = suc (kinds_depth ks)
  kind_depth (entry x k) = suc (kind_depth k)

  pub kinds_depth : Kinds → ℕ
  kinds_depth no_kinds = 0
  kinds_depth (kind k ks) = max (kind_depth k) (kinds_depth ks)

-- ---- reading a type string from its end: the kinds that stand behind a place, and what is still open there
pub data Item : Type 0 where
  one : Kind → Item
  round : Item
  curly : Item

abbrev pub basic_of : ℕ → Option Basic
basic_of c =
    if c == 121 then Some b.Byte
    else if c == 98 then Some b.Bool
    else if c == 110 then Some b.I16
    else if c == 113 then Some b.U16
    else if c == 105 then Some b.I32
    else if c == 117 then Some b.U32
    else if c == 120 then Some b.I64
    else if c == 116 then Some b.U64
    else if c == 104 then Some b.Handle
    else if c == 100 then Some b.Double
    else if c == 115 then Some b.Text
    else if c == 111 then Some b.Path
    else if c == 103 then Some b.Signature
    else None

-- the kind that begins here, and what stands behind it
abbrev pub top : List Item → Option (Kind × List Item)
top [] = None
top (one k ∷ st) = Some (k, st)
top (round ∷ st) = None
top (curly ∷ st) = None

abbrev pub under_curly : List Item → Option (List Item)
under_curly [] = None
under_curly (one k ∷ st) = None
under_curly (round ∷ st) = None
under_curly (curly ∷ st) = Some st

abbrev pub wrapped : Bool → Kind → Kind
wrapped true k = maybe k
wrapped false k = array k

abbrev pub wrap : (Kind → Kind) → List Item → Option (List Item)
wrap f [] = None
wrap f (one k ∷ st) = Some (one (f k) ∷ st)
wrap f (round ∷ st) = None
wrap f (curly ∷ st) = None

-- the kinds up to the closing bracket, and what stands behind it
abbrev pub gather : List Item → Option (Kinds × List Item)
gather [] = None
gather (one k ∷ st) = option_map (λ p. (kind k p.0, p.1)) (gather st)
gather (round ∷ st) = Some (no_kinds, st)
gather (curly ∷ st) = None

abbrev pub pair_up : List Item → Option (List Item)
pair_up (one (basic x) ∷ one k ∷ curly ∷ st) = Some (one (entry x k) ∷ st)
pair_up _ = None

abbrev pub read_letter : ℕ → List Item → Option (List Item)
read_letter c st =
    if c == 97 then wrap array st
    else if c == 109 then wrap maybe st
    else if c == 118 then Some (one variant ∷ st)
    else if c == 41 then Some (round ∷ st)
    else if c == 125 then Some (curly ∷ st)
    else if c == 40 then option_map (λ p. one (tuple p.0) ∷ p.1) (gather st)
    else if c == 123 then pair_up st
    else option_map (λ x. one (basic x) ∷ st) (basic_of c)

unfoldable pub items_at : List ℕ → Option (List Item)
items_at [] = Some []
items_at (c ∷ cs) = option_and_then (read_letter c) (items_at cs)

abbrev pub only : List Item → Option Kind
only (one k ∷ []) = Some k
only _ = None

-- the kind that a text spells
unfoldable pub kind_of : List ℕ → Option Kind
kind_of text = option_and_then only (items_at text)

-- the kind that a text spells, which nests at most 64 deep
abbrev pub good_depth : Kind → Option Kind
good_depth k = if nat_le (kind_depth k) 64 then Some k else None

unfoldable pub variant_kind : List ℕ → Option Kind
variant_kind s = option_and_then good_depth (kind_of s)
