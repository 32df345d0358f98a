-- The rows that a parse has, by the values of each argument.
use Rattle.std.proofs.Common.{◌≡◌, ◌≢◌, ◌++◌, Bool, true, false, List, [], ◌∷◌, Option, Some, None, codes, is_some, refl, ◌∙◌, ap}
use Rattle.std.specs.Prelude.{unwrap_or}
use Rattle.std.specs.Str.{bytes_eq}
use Rattle.std.proofs.lemmas.Slice.Eq.{bytes_eq-Decides}
use Rattle.clap.specs.Walk.{Row, Rule, Text, all_of, has_row, used, with_values, without}
use Rattle.clap.specs.Faults.{use_fault}
use Rattle.clap.specs.declared.builder.range.ValueRange.{ValueRange}
use Rattle.clap.specs.declared.builder.value_parser.Reading.{Reading}
use Rattle.clap.specs.declared.builder.value_parser.ValueParser.TheVariants as vp
use Rattle.clap.specs.declared.parser.matches.ValueSource.{ValueSource}
use Rattle.command_line.specs.Command.{fields_rule, option_rule}
use Rattle.command_line.specs.Words.{Word}

-- the arguments as a parse reads them
abbrev pub one : ValueRange
one = record { start_inclusive = 1; end_inclusive = 1 }

abbrev pub option_built : Word → Rule
option_built name = record (option_rule name) { range = Some one; parser = Some vp.String }

abbrev pub fields_built : Rule
fields_built = record fields_rule { range = Some one; parser = Some vp.String; index = Some 1 }

abbrev pub rules_built : List Rule
rules_built = option_built (codes "helpers") ∷ option_built (codes "schedule") ∷ fields_built ∷ []

-- values of an argument that has a row only where it has some
abbrev pub opt : List Word → Option (List Word)
opt [] = None
opt (v ∷ vs) = Some (v ∷ vs)

-- the rows have these values
pub record Shows (rows : List Row) (hs ss fs : List Word) : Type 0 where
  pub helpers : all_of (codes "helpers") rows ≡ opt hs
  pub schedules : all_of (codes "schedule") rows ≡ opt ss
  pub fields : all_of (codes "fields") rows ≡ opt fs

same : (id : Text) → bytes_eq id id ≡ true
same id = (bytes_eq-Decides id id).1 refl

row_is_there : (id : Text) (rows : List Row) → has_row id rows ≡ is_some (all_of id rows)
row_is_there id [] = refl
row_is_there id (r ∷ rs) = go (bytes_eq r.id id) refl (row_is_there id rs)
  where
    go : (t : Bool) → bytes_eq r.id id ≡ t → has_row id rs ≡ is_some (all_of id rs) → has_row id (r ∷ rs) ≡ is_some (all_of id (r ∷ rs))
    go true e more = rw e refl
    go false e more = rw e more

none_to_drop : (id : Text) (rows : List Row) → all_of id rows ≡ None → without id rows ≡ rows
none_to_drop id [] none = refl
none_to_drop id (r ∷ rs) none = go (bytes_eq r.id id) refl none (none_to_drop id rs)
  where
    go : (t : Bool) → bytes_eq r.id id ≡ t → all_of id (r ∷ rs) ≡ None → (all_of id rs ≡ None → without id rs ≡ rs) → without id (r ∷ rs) ≡ r ∷ rs
    go true e none more = let bad = rw e at none in cc
    go false e none more = let less = rw e at none in rw e (ap (λ t. r ∷ t) (more less))

more_here : (id : Text) (how : Reading) (s : ValueSource) (vs : List Word) (rows : List Row) → all_of id (with_values id how s vs rows) ≡ Some (unwrap_or (all_of id rows) [] ++ vs)
more_here id how s vs [] = rw (same id) refl
more_here id how s vs (r ∷ rs) = go (bytes_eq r.id id) refl (more_here id how s vs rs)
  where
    go : (t : Bool) → bytes_eq r.id id ≡ t → all_of id (with_values id how s vs rs) ≡ Some (unwrap_or (all_of id rs) [] ++ vs)
        → all_of id (with_values id how s vs (r ∷ rs)) ≡ Some (unwrap_or (all_of id (r ∷ rs)) [] ++ vs)
    go true e more = rw (e, e) refl
    go false e more = rw (e, e) more

none_elsewhere : (id other : Text) (how : Reading) (s : ValueSource) (vs : List Word) (rows : List Row) → bytes_eq other id ≡ false → all_of id (with_values other how s vs rows) ≡ all_of id rows
none_elsewhere id other how s vs [] apart = rw apart refl
none_elsewhere id other how s vs (r ∷ rs) apart = go (bytes_eq r.id other) refl (none_elsewhere id other how s vs rs apart)
  where
    go : (t : Bool) → bytes_eq r.id other ≡ t → all_of id (with_values other how s vs rs) ≡ all_of id rs → all_of id (with_values other how s vs (r ∷ rs)) ≡ all_of id (r ∷ rs)
    go true e more =
        let is : r.id ≡ other = (bytes_eq-Decides r.id other).0 e in
        let not : bytes_eq r.id id ≡ false = ap (λ n. bytes_eq n id) is ∙ apart in
        rw (e, not) refl
    go false e more = rw e (there (bytes_eq r.id id) refl)
      where
        there : (t : Bool) → bytes_eq r.id id ≡ t → all_of id (r ∷ with_values other how s vs rs) ≡ all_of id (r ∷ rs)
        there true is = rw is refl
        there false is = rw is more

opt_back : (vs : List Word) → unwrap_or (opt vs) [] ≡ vs
opt_back [] = refl
opt_back (v ∷ vs) = refl

opt_more : (vs : List Word) (v : Word) → Some (vs ++ v ∷ []) ≡ opt (vs ++ v ∷ [])
opt_more [] v = refl
opt_more (x ∷ vs) v = refl

-- a field
pub field_used : (rows : List Row) (hs ss fs : List Word) (w : Word) → Shows rows hs ss fs → Shows (used fields_built (w ∷ []) rows) hs ss (fs ++ w ∷ [])
field_used rows hs ss fs w shows = record {
  helpers = none_elsewhere _ _ _ _ _ rows refl ∙ shows.helpers;
  schedules = none_elsewhere _ _ _ _ _ rows refl ∙ shows.schedules;
  fields = more_here _ _ _ _ rows ∙ ap (λ o. Some (unwrap_or o [] ++ w ∷ [])) shows.fields ∙ ap (λ vs. Some (vs ++ w ∷ [])) (opt_back fs) ∙ opt_more fs w;
}

pub field_passes : (rows : List Row) (w : Word) → use_fault false fields_built (w ∷ []) rows ≡ []
field_passes rows w = refl

-- an option that isn't there yet
pub helpers_used : (rows : List Row) (ss fs : List Word) (v : Word) → Shows rows [] ss fs → Shows (used (option_built (codes "helpers")) (v ∷ []) rows) (v ∷ []) ss fs
helpers_used rows ss fs v shows =
    let kept = none_to_drop (codes "helpers") rows shows.helpers in
    rw kept (record {
      helpers = more_here _ _ _ _ rows ∙ ap (λ o. Some (unwrap_or o [] ++ v ∷ [])) shows.helpers;
      schedules = none_elsewhere _ _ _ _ _ rows refl ∙ shows.schedules;
      fields = none_elsewhere _ _ _ _ _ rows refl ∙ shows.fields;
    })

pub schedule_used : (rows : List Row) (hs fs : List Word) (v : Word) → Shows rows hs [] fs → Shows (used (option_built (codes "schedule")) (v ∷ []) rows) hs (v ∷ []) fs
schedule_used rows hs fs v shows =
    let kept = none_to_drop (codes "schedule") rows shows.schedules in
    rw kept (record {
      helpers = none_elsewhere _ _ _ _ _ rows refl ∙ shows.helpers;
      schedules = more_here _ _ _ _ rows ∙ ap (λ o. Some (unwrap_or o [] ++ v ∷ [])) shows.schedules;
      fields = none_elsewhere _ _ _ _ _ rows refl ∙ shows.fields;
    })

-- an option passes exactly where it isn't there yet
option_fails : (name : Word) (rows : List Row) (v : Word) (vs : List Word) (x : Word) → all_of name rows ≡ opt (v ∷ vs) → use_fault false (option_built name) (x ∷ []) rows ≢ []
option_fails name rows v vs x there = go (row_is_there name rows ∙ ap is_some there)
  where
    go : has_row name rows ≡ true → use_fault false (option_built name) (x ∷ []) rows ≢ []
    go has none = let bad = rw has at none in cc

option_passes : (name : Word) (rows : List Row) (x : Word) → all_of name rows ≡ None → use_fault false (option_built name) (x ∷ []) rows ≡ []
option_passes name rows x none = go (row_is_there name rows ∙ ap is_some none)
  where
    go : has_row name rows ≡ false → use_fault false (option_built name) (x ∷ []) rows ≡ []
    go has = rw has refl

pub first_use : (name : Word) (rows : List Row) (vs : List Word) (x : Word) → all_of name rows ≡ opt vs → use_fault false (option_built name) (x ∷ []) rows ≡ [] → vs ≡ []
first_use name rows [] x is passes = refl
first_use name rows (v ∷ vs) x is passes = absurd (option_fails name rows v vs x is passes)

pub first_passes : (name : Word) (rows : List Row) (vs : List Word) (x : Word) → all_of name rows ≡ opt vs → vs ≡ [] → use_fault false (option_built name) (x ∷ []) rows ≡ []
first_passes name rows vs x is none = option_passes name rows x (is ∙ ap opt none)
