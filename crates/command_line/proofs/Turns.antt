-- What `clap` makes of one more word.
use Rattle.std.proofs.Common.{◌≡◌, ◌≢◌, ◌&&◌, ◌⊎◌, inl, inr, Bool, true, false, ℕ, List, [], ◌∷◌, Option, Some, None, codes, refl, sym, subst, IsUtf8}
use Rattle.std.specs.Prelude.{slice_get}
use Rattle.std.specs.Str.{bytes_eq, chars}
use Rattle.std.proofs.lemmas.Slice.Eq.{bytes_eq-Decides}
use Rattle.clap.specs.Faults.{flags_fault, settle_fault, turn_fault, use_fault}
use Rattle.clap.specs.Kinds.{Kinds, or_else}
use Rattle.clap.specs.Lexer.{long_of}
use Rattle.clap.specs.Simple.{Shape, built}
use Rattle.clap.specs.Walk.{Held, Row, Text, Waiting, Walk, arg_by_id, arg_by_long, idle, is_pending, option, positional, settled_rows, used, walked}
use Rattle.command_line.specs.Command.{app, bare}
use Rattle.command_line.specs.Words.{Word}
use Rattle.command_line.proofs.Looks.{LooksPlain, LooksShort, dashes, some_flag}
use Rattle.command_line.proofs.Rows.{fields_built, option_built, rules_built}

-- the command as it is built
abbrev pub whole : Shape
whole = record bare.top {
  rules = rules_built;
  is_built = true;
  disable_help_subcommand = true;
}

pub built_is : built app ≡ record { top = whole; subs = [] }
built_is = refl

abbrev pub Pending : Type 0
Pending = Option (Text × List Text)

abbrev pub held : List Row → Pending → Held
held rows p = record { rows = rows; pending = p; skip = 0 }

-- between two words
abbrev pub at : List Row → Pending → Waiting → Bool → Walk
at rows p waiting behind = record {
  held = held rows p;
  waiting = waiting;
  position = 1;
  is_trailing = behind;
  stopped = None;
}

-- no option waits for its value
abbrev pub Rests : Waiting → Type 0
Rests idle = Unit {0}
Rests (option id) = ⊥
Rests positional = Unit {0}

-- what the use of the pending argument comes to
abbrev pub pending_fault : List Row → Pending → Kinds
pending_fault rows p = settle_fault rules_built false (held rows p)

abbrev pub rows_then : List Row → Pending → List Row
rows_then rows p = settled_rows rules_built p rows

and_false : (b : Bool) → (b && false) ≡ false
and_false true = refl
and_false false = refl

-- behind `--`
pub behind_turn : (rows : List Row) (p : Pending) (waiting : Waiting) (word : Word) → turn_fault whole [] (at rows p waiting true) word ≡ pending_fault rows p
behind_turn rows p waiting word = rw (and_false (is_pending fields_built p)) refl

pub behind_next : (rows : List Row) (p : Pending) (waiting : Waiting) (word : Word)
    → walked rules_built [] (at rows p waiting true) word ≡ at (rows_then rows p) (Some (codes "fields", word ∷ [])) positional true
unfolding walked
behind_next rows p waiting word = rw (and_false (is_pending fields_built p)) refl

-- a field
pub plain_turn : (rows : List Row) (p : Pending) (waiting : Waiting) (word : Word) → Rests waiting → LooksPlain word
    → turn_fault whole [] (at rows p waiting false) word ≡ pending_fault rows p
plain_turn rows p idle word rests l = rw (l.no_dashes, l.no_long, l.no_short, and_false (is_pending fields_built p)) refl
plain_turn rows p (option id) word rests l = absurd rests
plain_turn rows p positional word rests l = rw (l.no_dashes, l.no_long, l.no_short, and_false (is_pending fields_built p)) refl

pub plain_next : (rows : List Row) (p : Pending) (waiting : Waiting) (word : Word) → Rests waiting → LooksPlain word
    → walked rules_built [] (at rows p waiting false) word ≡ at (rows_then rows p) (Some (codes "fields", word ∷ [])) positional false
unfolding walked
plain_next rows p idle word rests l = rw (l.no_dashes, l.no_long, l.no_short, and_false (is_pending fields_built p)) refl
plain_next rows p (option id) word rests l = absurd rests
plain_next rows p positional word rests l = rw (l.no_dashes, l.no_long, l.no_short, and_false (is_pending fields_built p)) refl

-- `--`
pub dash_turn : (rows : List Row) (p : Pending) (waiting : Waiting) → turn_fault whole [] (at rows p waiting false) dashes ≡ []
dash_turn rows p idle = refl
dash_turn rows p (option id) = refl
dash_turn rows p positional = refl

pub dash_next : (rows : List Row) (p : Pending) (waiting : Waiting) → walked rules_built [] (at rows p waiting false) dashes ≡ at rows p waiting true
unfolding walked
dash_next rows p idle = refl
dash_next rows p (option id) = refl
dash_next rows p positional = refl

-- an option of the command
pub record IsKnown (name : Word) : Type 0 where
  pub long : arg_by_long rules_built name ≡ Some (option_built name)
  pub own : arg_by_id rules_built name ≡ Some (option_built name)

pub helpers_known : IsKnown (codes "helpers")
helpers_known = record { long = refl; own = refl }

pub schedule_known : IsKnown (codes "schedule")
schedule_known = record { long = refl; own = refl }

pub known : (name : Word) → (name ≡ codes "helpers") ⊎ ((name ≡ codes "schedule") ⊎ (arg_by_long rules_built name ≡ None))
known name = go (bytes_eq (codes "helpers") name) (bytes_eq (codes "schedule") name) refl refl
  where
    go : (a b : Bool) → bytes_eq (codes "helpers") name ≡ a → bytes_eq (codes "schedule") name ≡ b
        → (name ≡ codes "helpers") ⊎ ((name ≡ codes "schedule") ⊎ (arg_by_long rules_built name ≡ None))
    go true b first second = inl (sym ((bytes_eq-Decides (codes "helpers") name).0 first))
    go false true first second = inr (inl (sym ((bytes_eq-Decides (codes "schedule") name).0 second)))
    go false false first second = inr (inr (rw (first, second) refl))

-- an option with its value behind `=`
pub given_turn : (rows : List Row) (p : Pending) (waiting : Waiting) (word name value : Word) → IsKnown name → bytes_eq word dashes ≡ false → long_of word ≡ Some (name, Some value)
    → turn_fault whole [] (at rows p waiting false) word ≡ or_else (or_else (pending_fault rows p) (use_fault false (option_built name) (value ∷ []) (rows_then rows p))) []
given_turn rows p idle word name value k no_dashes long = rw (no_dashes, long, k.long) refl
given_turn rows p (option id) word name value k no_dashes long = rw (no_dashes, long, k.long) refl
given_turn rows p positional word name value k no_dashes long = rw (no_dashes, long, k.long) refl

pub given_next : (rows : List Row) (p : Pending) (waiting : Waiting) (word name value : Word) → IsKnown name → bytes_eq word dashes ≡ false → long_of word ≡ Some (name, Some value)
    → walked rules_built [] (at rows p waiting false) word ≡ at (used (option_built name) (value ∷ []) (rows_then rows p)) None idle false
unfolding walked
given_next rows p idle word name value k no_dashes long = rw (no_dashes, long, k.long) refl
given_next rows p (option id) word name value k no_dashes long = rw (no_dashes, long, k.long) refl
given_next rows p positional word name value k no_dashes long = rw (no_dashes, long, k.long) refl

-- an option whose value is the next word
pub named_turn : (rows : List Row) (p : Pending) (waiting : Waiting) (word name : Word) → IsKnown name → bytes_eq word dashes ≡ false → long_of word ≡ Some (name, None)
    → turn_fault whole [] (at rows p waiting false) word ≡ or_else (pending_fault rows p) []
named_turn rows p idle word name k no_dashes long = rw (no_dashes, long, k.long) refl
named_turn rows p (option id) word name k no_dashes long = rw (no_dashes, long, k.long) refl
named_turn rows p positional word name k no_dashes long = rw (no_dashes, long, k.long) refl

pub named_next : (rows : List Row) (p : Pending) (waiting : Waiting) (word name : Word) → IsKnown name → bytes_eq word dashes ≡ false → long_of word ≡ Some (name, None)
    → walked rules_built [] (at rows p waiting false) word ≡ at (rows_then rows p) (Some (name, [])) (option name) false
unfolding walked
named_next rows p idle word name k no_dashes long = rw (no_dashes, long, k.long) refl
named_next rows p (option id) word name k no_dashes long = rw (no_dashes, long, k.long) refl
named_next rows p positional word name k no_dashes long = rw (no_dashes, long, k.long) refl

-- an option that the command doesn't have
pub unknown_turn : (rows : List Row) (p : Pending) (waiting : Waiting) (word name : Word) (value : Option Word) → arg_by_long rules_built name ≡ None
    → bytes_eq word dashes ≡ false → long_of word ≡ Some (name, value) → turn_fault whole [] (at rows p waiting false) word ≢ []
unknown_turn rows p idle word name value none no_dashes long e = let bad = rw (no_dashes, long, none) at e in cc
unknown_turn rows p (option id) word name value none no_dashes long e = let bad = rw (no_dashes, long, none) at e in cc
unknown_turn rows p positional word name value none no_dashes long e = let bad = rw (no_dashes, long, none) at e in cc

-- flags of one character
short_turn : (rows : List Row) (p : Pending) (waiting : Waiting) (word : Word) (l : LooksShort word) (c : ℕ) → slice_get (chars (l.first ∷ l.rest)) 0 ≡ Some c
    → turn_fault whole [] (at rows p waiting false) word ≢ []
unfolding flags_fault
short_turn rows p idle word l c first e = let bad = rw (l.no_dashes, l.no_long, l.short, first) at e in cc
short_turn rows p (option id) word l c first e = let bad = rw (l.no_dashes, l.no_long, l.short, first) at e in cc
short_turn rows p positional word l c first e = let bad = rw (l.no_dashes, l.no_long, l.short, first) at e in cc

pub flags_turn : (rows : List Row) (p : Pending) (waiting : Waiting) (word : Word) → IsUtf8 word → LooksShort word → turn_fault whole [] (at rows p waiting false) word ≢ []
flags_turn rows p waiting word utf8 l = go (slice_get (chars (l.first ∷ l.rest)) 0) refl
  where
    go : (o : Option ℕ) → slice_get (chars (l.first ∷ l.rest)) 0 ≡ o → turn_fault whole [] (at rows p waiting false) word ≢ []
    go None e = absurd (some_flag l.first l.rest (subst IsUtf8 l.is utf8) e)
    go (Some c) e = short_turn rows p waiting word l c e

-- an option that has no value
pub no_value : (rows : List Row) (name : Word) → IsKnown name → pending_fault rows (Some (name, [])) ≢ []
no_value rows name k e = let bad = rw k.own at e in cc

-- the value of an option
pub value_turn : (rows : List Row) (name word : Word) → IsKnown name → LooksPlain word → turn_fault whole [] (at rows (Some (name, [])) (option name) false) word ≡ []
value_turn rows name word k l = rw (l.no_dashes, l.no_long, l.no_short) refl

pub value_next : (rows : List Row) (name word : Word) → IsKnown name → LooksPlain word
    → walked rules_built [] (at rows (Some (name, [])) (option name) false) word ≡ at rows (Some (name, word ∷ [])) idle false
unfolding walked
value_next rows name word k l =
    let same : bytes_eq name name ≡ true = (bytes_eq-Decides name name).1 refl in
    rw (l.no_dashes, l.no_long, l.no_short, k.own, same) refl

-- what is pending then
pub value_fault : (rows : List Row) (name value : Word) → IsKnown name → pending_fault rows (Some (name, value ∷ [])) ≡ use_fault false (option_built name) (value ∷ []) rows
value_fault rows name value k = rw k.own refl

pub value_rows : (rows : List Row) (name value : Word) → IsKnown name → rows_then rows (Some (name, value ∷ [])) ≡ used (option_built name) (value ∷ []) rows
value_rows rows name value k = rw k.own refl
