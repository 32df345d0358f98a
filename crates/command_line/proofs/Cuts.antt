-- What a parse comes to, by the grammar.
use Rattle.std.proofs.Common.{◌≡◌, ◌≢◌, ◌⊎◌, inl, inr, Bool, true, false, List, [], ◌∷◌, ◌++◌, map, None, codes, refl, sym, ◌∙◌, ap, subst, Ok, Err}
use Rattle.std.specs.Prelude.{fold, unwrap_or}
use Rattle.std.specs.Prelude.{String}
use Rattle.std.specs.String.{string_bytes}
use Rattle.std.proofs.lemmas.Str.{IsUtf8-string_bytes}
use Rattle.clap.specs.Faults.{default_fault, defaults_fault, fault_of, settle_fault, turn_fault, walk_fault}
use Rattle.clap.specs.Kinds.{FailsBy, IsAmong, Kinds, or_else}
use Rattle.clap.specs.Matches.{found_of}
use Rattle.clap.specs.Simple.{HasMatchesOf}
use Rattle.clap.specs.Values.{kind_of}
use Rattle.clap.specs.Walk.{Held, Row, Rule, Walk, all_of, finished, has_row, idle, nothing_held, rows_of, settled, walked, with_default}
use Rattle.clap.specs.declared.error.Error.{Error}
use Rattle.clap.specs.declared.error.kind.ErrorKind.TheVariants.{OutOfMemory}
use Rattle.clap.specs.declared.parser.matches.ArgMatches.{ArgMatches}
use Rattle.clap.proofs.FaultLemmas.{leaf_fault}
use Rattle.clap.proofs.WalkLemmas.{raw_values-rows}
use Rattle.command_line.specs.Command.{Finds, IsNoSplit, IsSplit, app, values_of}
use Rattle.command_line.specs.declared.fault.LineFault.{LineFault}
use Rattle.command_line.specs.declared.fault.LineFault.TheVariants as fault
use Rattle.command_line.specs.Words.{Part, Word, fields_in, helpers_in, schedules_in}
use Rattle.command_line.proofs.Rows.{Shows, fields_built, opt, option_built, rules_built}
use Rattle.command_line.proofs.Turns.{at, whole}
use Rattle.command_line.proofs.Walks.{Texts, final, or_both, or_first, or_second, sound, total}
use Rattle.command_line.proofs.Completes.{complete}

or_assoc : (a b c : Kinds) → or_else (or_else a b) c ≡ or_else a (or_else b c)
or_assoc [] b c = refl
or_assoc (k ∷ a) b c = refl

-- the state behind the words
abbrev end : Walk → List Word → Walk
end w words = fold (walked rules_built []) w words

total_is : (w : Walk) (words : List Word) → or_else (walk_fault whole [] w words) (settle_fault rules_built false (end w words).held) ≡ total w words
unfolding walk_fault
total_is w [] = refl
total_is w (word ∷ words) =
    or_assoc (turn_fault whole [] w word) (walk_fault whole [] (walked rules_built [] w word) words) (settle_fault rules_built false (end (walked rules_built [] w word) words).held)
    ∙ ap (λ k. or_else (turn_fault whole [] w word) k) (total_is (walked rules_built [] w word) words)

final_is : (w : Walk) (words : List Word) → final w words ≡ (settled rules_built (end w words).held).rows
final_is w [] = refl
final_is w (word ∷ words) = final_is (walked rules_built [] w word) words

-- no argument has a default
default_passes : (rows : List Row) (a : Rule) → a.defaults ≡ [] → default_fault rows a ≡ []
default_passes rows a none = go (has_row a.id rows) refl
  where
    go : (t : Bool) → has_row a.id rows ≡ t → default_fault rows a ≡ []
    go true e = rw e refl
    go false e = rw (e, none) refl

default_adds : (rows : List Row) (a : Rule) → a.defaults ≡ [] → with_default rows a ≡ rows
default_adds rows a none = go (has_row a.id rows) refl
  where
    go : (t : Bool) → has_row a.id rows ≡ t → with_default rows a ≡ rows
    go true e = rw e refl
    go false e = rw (e, none) refl

defaults_pass : (rows : List Row) → defaults_fault rows rules_built ≡ []
unfolding defaults_fault
defaults_pass rows =
    or_both _ _ (default_passes rows (option_built (codes "helpers")) refl)
    (or_both _ _ (default_passes (with_default rows (option_built (codes "helpers"))) (option_built (codes "schedule")) refl)
    (or_both _ _ (default_passes (with_default (with_default rows (option_built (codes "helpers"))) (option_built (codes "schedule"))) fields_built refl) refl))

finished_is : (h : Held) → finished rules_built h ≡ (settled rules_built h).rows
finished_is h =
    default_adds _ fields_built refl ∙ default_adds _ (option_built (codes "schedule")) refl ∙ default_adds _ (option_built (codes "helpers")) refl

abbrev pub start : Walk
start = at [] None idle false

fault_is : (words : List Word) → fault_of app words ≡ or_else (walk_fault whole [] start words)
    (or_else (settle_fault rules_built false (end start words).held) (or_else (defaults_fault (settled rules_built (end start words).held).rows rules_built) []))
fault_is words = leaf_fault (record { top = whole; subs = [] }) nothing_held words refl

abbrev walk_part : List Word → Kinds
walk_part words = walk_fault whole [] start words

abbrev end_part : List Word → Kinds
end_part words = settle_fault rules_built false (end start words).held

abbrev default_part : List Word → Kinds
default_part words = or_else (defaults_fault (settled rules_built (end start words).held).rows rules_built) []

faultless : (words : List Word) → fault_of app words ≡ [] → total start words ≡ []
faultless words none =
    let e : or_else (walk_part words) (or_else (end_part words) (default_part words)) ≡ [] = sym (fault_is words) ∙ none in
    let first = or_first (walk_part words) (or_else (end_part words) (default_part words)) e in
    let second = or_first (end_part words) (default_part words) (or_second (walk_part words) (or_else (end_part words) (default_part words)) e) in
    sym (total_is start words) ∙ or_both (walk_part words) (end_part words) first second

no_fault : (words : List Word) → total start words ≡ [] → fault_of app words ≡ []
no_fault words none =
    let e : or_else (walk_part words) (end_part words) ≡ [] = total_is start words ∙ none in
    let first = or_first (walk_part words) (end_part words) e in
    let second = or_second (walk_part words) (end_part words) e in
    let third = or_both (defaults_fault (settled rules_built (end start words).held).rows rules_built) [] (defaults_pass (settled rules_built (end start words).held).rows) refl in
    fault_is words ∙ or_both (walk_part words) (or_else (end_part words) (default_part words)) first (or_both (end_part words) (default_part words) second third)

rows_are : (words : List Word) (m : ArgMatches) → HasMatchesOf app words m → rows_of (found_of m) ≡ final start words
rows_are words m has = (has refl).0 ∙ finished_is (end start words).held ∙ sym (final_is start words)

-- the values that the rows show
pub opt_back : (vs : List Word) → unwrap_or (opt vs) [] ≡ vs
opt_back [] = refl
opt_back (v ∷ vs) = refl

shown : (m : ArgMatches) (id : Word) (rows : List Row) (vs : List Word) → rows_of (found_of m) ≡ rows → all_of id rows ≡ opt vs → vs ≡ values_of id m
shown m id rows vs same is = sym (opt_back vs) ∙ sym (ap (λ o. unwrap_or o []) (raw_values-rows (found_of m) id ∙ ap (all_of id) same ∙ is))

finds : (m : ArgMatches) (rows : List Row) (parts : List Part) (behind : List Word) → rows_of (found_of m) ≡ rows → Shows rows (helpers_in parts) (schedules_in parts) (fields_in parts ++ behind)
    → Finds m parts behind
finds m rows parts behind same shows = record {
  helpers_are = shown m (codes "helpers") rows _ same shows.helpers;
  schedule_is = shown m (codes "schedule") rows _ same shows.schedules;
  fields_are = shown m (codes "fields") rows _ same shows.fields;
}

split_from : (words : List Word) (m : ArgMatches) → Texts words → HasMatchesOf app words m → fault_of app words ≡ [] → IsSplit words m
split_from words m texts has none =
    let f = sound words texts [] None idle false [] [] [] tt (λ _. record { helpers = refl; schedules = refl; fields = refl }) (faultless words none) in
    record {
      parts = f.1.parts;
      behind = f.1.more;
      cut = f.1.cut;
      found = finds m (final start words) f.1.parts f.1.more (rows_are words m has) f.1.shows;
      only = λ ps more cut meant. finds m (final start words) ps more (rows_are words m has) (complete words ps more cut meant).1;
    }

no_split : (words : List Word) → fault_of app words ≢ [] → IsNoSplit words
no_split words fault parts behind cut meant = fault (no_fault words (complete words parts behind cut meant).0)

texts_of : {Z : Type 0} (words : List (String Z)) → Texts (map (λ word. string_bytes word) words)
texts_of [] = tt
texts_of (word ∷ words) = (IsUtf8-string_bytes word, texts_of words)

-- a parse that is done
pub split_ok : {Z : Type 0} (words : List (String Z)) (m : ArgMatches) → FailsBy {T = ArgMatches} (fault_of app (map (λ word. string_bytes word) words)) (Ok m) → HasMatchesOf app (map (λ word. string_bytes word) words) m
    → IsSplit (map (λ word. string_bytes word) words) m
split_ok words m passes has = split_from _ m (texts_of words) has passes

-- one that fails, but for want of memory
pub split_err : (words : List Word) (e : Error) → FailsBy {T = ArgMatches} (fault_of app words) (Err e) → kind_of e ≢ OutOfMemory → IsNoSplit words
split_err words e (inl memory) other = absurd (other memory)
split_err words e (inr among) other = no_split words (λ none. subst (IsAmong (kind_of e)) none among)

pub fault_case : (words : List Word) (e : Error) (result : LineFault) → FailsBy {T = ArgMatches} (fault_of app words) (Err e)
    → ((kind_of e ≡ OutOfMemory) × (result ≡ fault.NoMemory)) ⊎ ((kind_of e ≢ OutOfMemory) × (result ≡ fault.Usage))
    → (result ≡ fault.NoMemory) ⊎ ((result ≡ fault.Usage) × IsNoSplit words)
fault_case words e result fails (inl memory) = inl memory.1
fault_case words e result fails (inr other) = inr (other.1, split_err words e fails other.0)
