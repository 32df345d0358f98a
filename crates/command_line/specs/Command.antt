-- The command as `clap` is told it: two options with a value each, and fields.
use Rattle.std.specs.Prelude.{◌≡◌, ◌≢◌, ℕ, List, [], ◌∷◌, ◌++◌, codes, option_map, unwrap_or, Option, Some, true}
use Rattle.clap.specs.Matches.{found_of, matched_of, raw_values}
use Rattle.schedule.specs.declared.turns.Turns.{Turns}
use Rattle.clap.specs.Simple.{App, new_rule, new_shape, with_rule}
use Rattle.clap.specs.Walk.{Rule}
use Rattle.clap.specs.declared.builder.action.ArgAction.TheVariants.{Append, Set}
use Rattle.clap.specs.declared.parser.matches.ArgMatches.{ArgMatches}
use Rattle.command_line.specs.Words.{AreCut, AreHelpers, AreSchedule, IsPlain, Part, Word, field, fields_in, helpers, helpers_in, schedule, schedules_in}

abbrev pub option_rule : Word → Rule
option_rule name = record (new_rule name) {
  long = Some name;
  action = Some Set;
}

abbrev pub fields_rule : Rule
fields_rule = record (new_rule (codes "fields")) { action = Some Append }

abbrev pub bare : App
bare = record {
  top = record (new_shape (codes "ostree_cli")) {
    no_binary_name = true;
    disable_help_flag = true;
    disable_version_flag = true;
  };
  subs = [];
}

abbrev pub app : App
app = with_rule (with_rule (with_rule bare (option_rule (codes "helpers"))) (option_rule (codes "schedule"))) fields_rule

-- the values that were found for an argument
abbrev pub values_of : Word → ArgMatches → List Word
values_of id m = unwrap_or (option_map raw_values (matched_of (found_of m) id)) []

-- The option stands there once at most, behind these of its values, and the value is no word that only a field behind `--` may be.
abbrev pub IsMeant : List Word → List Word → List Part → Type 0
IsMeant hs ss [] = Unit {0}
IsMeant hs ss (field word ∷ parts) = IsMeant hs ss parts
IsMeant hs ss (helpers value ∷ parts) = (hs ≡ []) × IsPlain value × IsMeant (value ∷ []) ss parts
IsMeant hs ss (schedule value ∷ parts) = (ss ≡ []) × IsPlain value × IsMeant hs (value ∷ []) parts

-- the parts of this cut are what was found
pub record Finds (m : ArgMatches) (parts : List Part) (behind : List Word) : Type 0 where
  pub helpers_are : helpers_in parts ≡ values_of (codes "helpers") m
  pub schedule_is : schedules_in parts ≡ values_of (codes "schedule") m
  pub fields_are : fields_in parts ++ behind ≡ values_of (codes "fields") m

-- what was found is of a cut of the words, and of each that is meant
pub record IsSplit (words : List Word) (m : ArgMatches) : Type 0 where
  pub parts : List Part
  pub behind : List Word
  pub cut : AreCut words parts behind
  pub found : Finds m parts behind
  pub only : (ps : List Part) (more : List Word) → AreCut words ps more → IsMeant [] [] ps → Finds m ps more

-- no cut of the words is meant
abbrev pub IsNoSplit : List Word → Type 0
IsNoSplit words = (parts : List Part) (behind : List Word) → AreCut words parts behind → ¬ (IsMeant [] [] parts)

-- what the values that were found say
pub record IsLine (m : ArgMatches) (count : ℕ) (turns : Option (List Turns)) (fields : List Word) : Type 0 where
  pub helpers_are : AreHelpers (values_of (codes "helpers") m) count
  pub schedule_is : AreSchedule (values_of (codes "schedule") m) turns
  pub fields_are : fields ≡ values_of (codes "fields") m
  pub some : fields ≢ []

-- they say nothing
abbrev pub AreNoLine : ArgMatches → Type 0
AreNoLine m = (count : ℕ) (turns : Option (List Turns)) (fields : List Word) → ¬ (IsLine m count turns fields)
