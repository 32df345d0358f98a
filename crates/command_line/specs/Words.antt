-- The grammar of a command line: options and fields in any order, then maybe `--` and more fields.
use Rattle.std.specs.Prelude.{◌≡◌, ◌≢◌, ◌≤◌, ◌⊎◌, ℕ, List, [], ◌∷◌, ◌++◌, codes, Option, Some, None}
use Rattle.std.specs.Fmt.{decimal}
use Rattle.schedule.specs.Schedule.{IsSchedule}
use Rattle.schedule.specs.declared.turns.Turns.{Turns}

abbrev pub Word : Type 0
Word = List ℕ

-- what stands before `--`: a field, or an option with its value
pub data Part : Type 0 where
  field : Word → Part
  helpers : Word → Part
  schedule : Word → Part

-- A field doesn't begin with `-` (45) and more behind it: such a field stands behind `--`.
abbrev pub IsPlain : Word → Type 0
IsPlain word = (first : ℕ) (rest : List ℕ) → word ≡ 45 ∷ first ∷ rest → ⊥

-- the words of an option: its value stands behind `=` (61), or is the next word
abbrev pub IsOption : Word → Word → List Word → Type 0
IsOption name value words = (words ≡ (name ++ 61 ∷ value) ∷ []) ⊎ (words ≡ name ∷ value ∷ [])

-- the words of a part
abbrev pub IsPart : Part → List Word → Type 0
IsPart (field word) words = IsPlain word × (words ≡ word ∷ [])
IsPart (helpers value) words = IsOption (codes "--helpers") value words
IsPart (schedule value) words = IsOption (codes "--schedule") value words

-- the words of the parts, one behind the other
abbrev pub AreParts : List Part → List Word → Type 0
AreParts [] words = words ≡ []
AreParts (part ∷ parts) words = (front rest : List Word) × IsPart part front × AreParts parts rest × (words ≡ front ++ rest)

-- The words are those of the parts, and of `--` and these fields behind it, if there are any.
abbrev pub AreCut : List Word → List Part → List Word → Type 0
AreCut words parts behind =
    (AreParts parts words × (behind ≡ []))
    ⊎ ((front : List Word) × AreParts parts front × (words ≡ front ++ codes "--" ∷ behind))

-- what of the parts is a field, and the values of each option
abbrev pub fields_in : List Part → List Word
fields_in [] = []
fields_in (field word ∷ parts) = word ∷ fields_in parts
fields_in (helpers value ∷ parts) = fields_in parts
fields_in (schedule value ∷ parts) = fields_in parts

abbrev pub helpers_in : List Part → List Word
helpers_in [] = []
helpers_in (field word ∷ parts) = helpers_in parts
helpers_in (helpers value ∷ parts) = value ∷ helpers_in parts
helpers_in (schedule value ∷ parts) = helpers_in parts

abbrev pub schedules_in : List Part → List Word
schedules_in [] = []
schedules_in (field word ∷ parts) = schedules_in parts
schedules_in (helpers value ∷ parts) = schedules_in parts
schedules_in (schedule value ∷ parts) = value ∷ schedules_in parts

-- The number of helpers: 0 to 8 in decimal digits, without zeros in front of others, and 4 where the option isn't there. It is there once at
-- most.
abbrev pub AreHelpers : List Word → ℕ → Type 0
AreHelpers [] count = count ≡ 4
AreHelpers (value ∷ []) count = (value ≡ decimal count) × (count ≤ 8)
AreHelpers (value ∷ more ∷ values) count = ⊥

-- the schedule, if the option is there, once at most
abbrev pub AreSchedule : List Word → Option (List Turns) → Type 0
AreSchedule [] None = Unit {0}
AreSchedule [] (Some turns) = ⊥
AreSchedule (value ∷ []) None = ⊥
AreSchedule (value ∷ []) (Some turns) = IsSchedule value turns
AreSchedule (value ∷ more ∷ values) turns = ⊥

-- Words that are a command line, and what they say. The first of its fields is the command; there is one.
pub record Says (words : List Word) (count : ℕ) (turns : Option (List Turns)) (fields : List Word) : Type 0 where
  pub parts : List Part
  pub behind : List Word
  pub cut : AreCut words parts behind
  pub helpers : AreHelpers (helpers_in parts) count
  pub schedule : AreSchedule (schedules_in parts) turns
  pub fields_are : fields ≡ fields_in parts ++ behind
  pub some : fields ≢ []

-- words that are no command line
abbrev pub SayNothing : List Word → Type 0
SayNothing words = (count : ℕ) (turns : Option (List Turns)) (fields : List Word) → ¬ (Says words count turns fields)
