-- The walk of `clap` over the words finds what the grammar says.
use Rattle.std.proofs.Common.{◌≡◌, ◌≢◌, ◌≤◌, ◌⊎◌, inl, inr, Bool, true, false, ℕ, zero, suc, List, [], ◌∷◌, ◌++◌, length, Option, Some, None, codes, refl, sym, ◌∙◌, ap, subst, arith, append_assoc, IsUtf8}
use Rattle.std.proofs.lemmas.List.{append-nil}
use Rattle.std.specs.Str.{bytes_eq}
use Rattle.clap.specs.Faults.{turn_fault, use_fault}
use Rattle.clap.specs.Kinds.{Kinds, or_else}
use Rattle.clap.specs.Lexer.{long_of}
use Rattle.clap.specs.Walk.{Row, Waiting, Walk, arg_by_long, idle, option, positional, used, walked}
use Rattle.command_line.specs.Words.{AreCut, IsOption, IsPart, IsPlain, Part, Word, field, fields_in, helpers, helpers_in, schedule, schedules_in}
use Rattle.command_line.proofs.Looks.{Looks, LooksLong, LooksPlain, as_dash, as_long, as_plain, as_short, dashes, long_word, looks}
use Rattle.command_line.proofs.Rows.{Shows, field_used, first_use, helpers_used, option_built, rules_built, schedule_used}
use Rattle.command_line.proofs.Turns.{IsKnown, Pending, Rests, at, behind_next, behind_turn, dash_next, dash_turn, flags_turn, given_next, given_turn, helpers_known, known, named_next, named_turn, no_value, pending_fault, plain_next, plain_turn, rows_then, schedule_known, unknown_turn, value_fault, value_next, value_rows, value_turn, whole}

-- the faults of the words from here on, and of what is pending at their end
abbrev pub total : Walk → List Word → Kinds
total w [] = pending_fault w.held.rows w.held.pending
total w (word ∷ words) = or_else (turn_fault whole [] w word) (total (walked rules_built [] w word) words)

-- the rows at their end
abbrev pub final : Walk → List Word → List Row
final w [] = rows_then w.held.rows w.held.pending
final w (word ∷ words) = final (walked rules_built [] w word) words

pub or_first : (a b : Kinds) → or_else a b ≡ [] → a ≡ []
or_first [] b e = refl
or_first (k ∷ a) b e = e

pub or_second : (a b : Kinds) → or_else a b ≡ [] → b ≡ []
or_second [] b e = e
or_second (k ∷ a) b e = cc

pub or_both : (a b : Kinds) → a ≡ [] → b ≡ [] → or_else a b ≡ []
or_both a b first second = ap (λ k. or_else k b) first ∙ second

-- the words are these fields behind `--`, or parts and maybe that
abbrev pub CutFrom : Bool → List Word → List Part → List Word → Type 0
CutFrom true words parts more = (parts ≡ []) × (words ≡ more)
CutFrom false words parts more = AreCut words parts more

-- a cut, and what the rows have behind it
pub record Found (behind : Bool) (words : List Word) (rows : List Row) (hs ss fs : List Word) : Type 0 where
  pub parts : List Part
  pub more : List Word
  pub cut : CutFrom behind words parts more
  pub shows : Shows rows (hs ++ helpers_in parts) (ss ++ schedules_in parts) (fs ++ (fields_in parts ++ more))

-- from any state, words without a fault are cut so
abbrev pub Sound : List Word → Type 0
Sound words = (rows : List Row) (p : Pending) (waiting : Waiting) (behind : Bool) (hs ss fs : List Word) → Rests waiting
    → (pending_fault rows p ≡ [] → Shows (rows_then rows p) hs ss fs) → total (at rows p waiting behind) words ≡ []
    → (pending_fault rows p ≡ []) × Found behind words (final (at rows p waiting behind) words) hs ss fs

-- the state after a word, and the fault of its turn
from_next : (w next : Walk) (word : Word) (words : List Word) (fault : Kinds) → walked rules_built [] w word ≡ next → turn_fault whole [] w word ≡ fault
    → total w (word ∷ words) ≡ [] → (fault ≡ []) × (total next words ≡ [])
from_next w next word words fault after turn e = (
  sym turn ∙ or_first _ _ e,
  ap (λ v. total v words) (sym after) ∙ or_second (turn_fault whole [] w word) _ e,
)

shows_nil : (rows : List Row) (hs ss fs : List Word) → Shows rows hs ss fs → Shows rows (hs ++ []) (ss ++ []) (fs ++ [])
shows_nil rows hs ss fs shows = subst (λ t. Shows rows t (ss ++ []) (fs ++ [])) (sym (append-nil hs)) (subst (λ t. Shows rows hs t (fs ++ [])) (sym (append-nil ss)) (subst (λ t. Shows rows hs ss t) (sym (append-nil fs)) shows))

sound_nil : Sound []
sound_nil rows p waiting true hs ss fs rests shows e = (e, record { parts = []; more = []; cut = (refl, refl); shows = shows_nil _ hs ss fs (shows e) })
sound_nil rows p waiting false hs ss fs rests shows e = (e, record { parts = []; more = []; cut = inl (refl, refl); shows = shows_nil _ hs ss fs (shows e) })

assoc : (a b c : List Word) → (a ++ b) ++ c ≡ a ++ (b ++ c)
assoc a b c = simp append_assoc

-- a part in front of a cut
part_before : (part : Part) (front words more : List Word) (parts : List Part) → IsPart part front → AreCut words parts more → AreCut (front ++ words) (part ∷ parts) more
part_before part front words more parts is (inl all) = inl ((front, words, is, all.0, refl), all.1)
part_before part front words more parts is (inr (before, spelled, same)) =
    inr (front ++ before, (front, before, is, spelled, refl), ap (λ t. front ++ t) same ∙ sym (assoc front before (codes "--" ∷ more)))

-- the words are texts
abbrev pub Texts : List Word → Type 0
Texts [] = Unit {0}
Texts (word ∷ words) = IsUtf8 word × Texts words

abbrev pub Res : Bool → Word → List Word → List Row → Pending → Waiting → List Word → List Word → List Word → Type 0
Res behind word words rows p waiting hs ss fs = (pending_fault rows p ≡ []) × Found behind (word ∷ words) (final (at rows p waiting behind) (word ∷ words)) hs ss fs

-- shorter words
abbrev pub Ih : ℕ → Type 0
Ih n = (words : List Word) → length words ≤ n → Texts words → Sound words

found_as : (behind : Bool) (words : List Word) (a b : List Row) (hs ss fs : List Word) → a ≡ b → Found behind words b hs ss fs → Found behind words a hs ss fs
found_as behind words a b hs ss fs same found = subst (λ rows. Found behind words rows hs ss fs) (sym same) found

-- a word behind `--`
behind_found : (word : Word) (words : List Word) (rows : List Row) (hs ss fs : List Word) → Found true words rows hs ss (fs ++ word ∷ []) → Found true (word ∷ words) rows hs ss fs
behind_found word words rows hs ss fs f = record {
  parts = f.parts;
  more = word ∷ f.more;
  cut = (f.cut.0, ap (λ t. word ∷ t) f.cut.1);
  shows = subst (λ t. Shows rows (hs ++ helpers_in f.parts) (ss ++ schedules_in f.parts) t) (assoc fs (word ∷ []) (fields_in f.parts ++ f.more) ∙ ap (λ ps. fs ++ word ∷ (fields_in ps ++ f.more)) f.cut.0 ∙ sym (ap (λ ps. fs ++ (fields_in ps ++ word ∷ f.more)) f.cut.0)) f.shows;
}

behind_step : (word : Word) (words : List Word) → Texts words → Ih (length words) → (rows : List Row) (p : Pending) (waiting : Waiting) (hs ss fs : List Word)
    → (pending_fault rows p ≡ [] → Shows (rows_then rows p) hs ss fs) → total (at rows p waiting true) (word ∷ words) ≡ [] → Res true word words rows p waiting hs ss fs
behind_step word words texts ih rows p waiting hs ss fs shows e =
    let then = at (rows_then rows p) (Some (codes "fields", word ∷ [])) positional true in
    let n = from_next (at rows p waiting true) then word words (pending_fault rows p) (behind_next rows p waiting word) (behind_turn rows p waiting word) e in
    let more = ih words (omega arith) texts (rows_then rows p) (Some (codes "fields", word ∷ [])) positional true hs ss (fs ++ word ∷ []) tt (λ _. field_used (rows_then rows p) hs ss fs word (shows n.0)) n.1 in
    (n.0, found_as true (word ∷ words) _ (final then words) hs ss fs (ap (λ v. final v words) (behind_next rows p waiting word)) (behind_found word words (final then words) hs ss fs more.1))

-- a field
field_found : (word : Word) (words : List Word) (rows : List Row) (hs ss fs : List Word) → IsPlain word → Found false words rows hs ss (fs ++ word ∷ []) → Found false (word ∷ words) rows hs ss fs
field_found word words rows hs ss fs is f = record {
  parts = field word ∷ f.parts;
  more = f.more;
  cut = part_before (field word) (word ∷ []) words f.more f.parts (is, refl) f.cut;
  shows = subst (λ t. Shows rows (hs ++ helpers_in f.parts) (ss ++ schedules_in f.parts) t) (assoc fs (word ∷ []) (fields_in f.parts ++ f.more)) f.shows;
}

plain_step : (word : Word) (words : List Word) → Texts words → Ih (length words) → (rows : List Row) (p : Pending) (waiting : Waiting) (hs ss fs : List Word) → Rests waiting
    → (pending_fault rows p ≡ [] → Shows (rows_then rows p) hs ss fs) → total (at rows p waiting false) (word ∷ words) ≡ [] → LooksPlain word → Res false word words rows p waiting hs ss fs
plain_step word words texts ih rows p waiting hs ss fs rests shows e l =
    let then = at (rows_then rows p) (Some (codes "fields", word ∷ [])) positional false in
    let n = from_next (at rows p waiting false) then word words (pending_fault rows p) (plain_next rows p waiting word rests l) (plain_turn rows p waiting word rests l) e in
    let more = ih words (omega arith) texts (rows_then rows p) (Some (codes "fields", word ∷ [])) positional false hs ss (fs ++ word ∷ []) tt (λ _. field_used (rows_then rows p) hs ss fs word (shows n.0)) n.1 in
    (n.0, found_as false (word ∷ words) _ (final then words) hs ss fs (ap (λ v. final v words) (plain_next rows p waiting word rests l)) (field_found word words (final then words) hs ss fs l.is_plain more.1))

-- `--`
dash_found : (words : List Word) (rows : List Row) (hs ss fs : List Word) → Found true words rows hs ss fs → Found false (dashes ∷ words) rows hs ss fs
dash_found words rows hs ss fs f = record {
  parts = [];
  more = f.more;
  cut = inr ([], refl, ap (λ t. dashes ∷ t) f.cut.1);
  shows = subst (λ ps. Shows rows (hs ++ helpers_in ps) (ss ++ schedules_in ps) (fs ++ (fields_in ps ++ f.more))) f.cut.0 f.shows;
}

dash_step : (words : List Word) → Texts words → Ih (length words) → (rows : List Row) (p : Pending) (waiting : Waiting) (hs ss fs : List Word) → Rests waiting
    → (pending_fault rows p ≡ [] → Shows (rows_then rows p) hs ss fs) → total (at rows p waiting false) (dashes ∷ words) ≡ [] → Res false dashes words rows p waiting hs ss fs
dash_step words texts ih rows p waiting hs ss fs rests shows e =
    let then = at rows p waiting true in
    let n = from_next (at rows p waiting false) then dashes words [] (dash_next rows p waiting) (dash_turn rows p waiting) e in
    let more = ih words (omega arith) texts rows p waiting true hs ss fs rests shows n.1 in
    (more.0, found_as false (dashes ∷ words) _ (final then words) hs ss fs (ap (λ v. final v words) (dash_next rows p waiting)) (dash_found words (final then words) hs ss fs more.1))

-- an option without a value fails, whatever stands behind `--`
behind_fails : (rows : List Row) (name : Word) (waiting : Waiting) (words : List Word) → IsKnown name → total (at rows (Some (name, [])) waiting true) words ≢ []
behind_fails rows name waiting [] k e = no_value rows name k e
behind_fails rows name waiting (word ∷ words) k e = no_value rows name k (sym (behind_turn rows (Some (name, [])) waiting word) ∙ or_first _ _ e)

-- no option follows one that waits for its value
long_fails : (rows : List Row) (name word : Word) → IsKnown name → LooksLong word → turn_fault whole [] (at rows (Some (name, [])) (option name) false) word ≢ []
long_fails rows name word k l e = go l.value (known l.name) l.long
  where
    bad : (other : Word) (value : Option Word) → IsKnown other → long_of word ≡ Some (other, value) → ⊥
    bad other None m long = no_value rows name k (or_first _ _ (sym (named_turn rows (Some (name, [])) (option name) word other m l.no_dashes long) ∙ e))
    bad other (Some v) m long = no_value rows name k (or_first _ _ (or_first _ _ (sym (given_turn rows (Some (name, [])) (option name) word other v m l.no_dashes long) ∙ e)))

    go : (value : Option Word) → (l.name ≡ codes "helpers") ⊎ ((l.name ≡ codes "schedule") ⊎ (arg_by_long rules_built l.name ≡ None)) → long_of word ≡ Some (l.name, value) → ⊥
    go value (inl is) long = bad (codes "helpers") value helpers_known (long ∙ ap (λ n. Some (n, value)) is)
    go value (inr (inl is)) long = bad (codes "schedule") value schedule_known (long ∙ ap (λ n. Some (n, value)) is)
    go value (inr (inr none)) long = unknown_turn rows (Some (name, [])) (option name) word l.name value none l.no_dashes long e

-- a value stands behind the option
pub record Follows (rows : List Row) (name : Word) (words : List Word) : Type 0 where
  pub value : Word
  pub rest : List Word
  pub words_are : words ≡ value ∷ rest
  pub is_plain : LooksPlain value
  pub passes : total (at rows (Some (name, value ∷ [])) idle false) rest ≡ []
  pub ends : final (at rows (Some (name, [])) (option name) false) words ≡ final (at rows (Some (name, value ∷ [])) idle false) rest

value_follows : (rows : List Row) (name : Word) (words : List Word) → IsKnown name → Texts words → total (at rows (Some (name, [])) (option name) false) words ≡ [] → Follows rows name words
value_follows rows name [] k texts e = absurd (no_value rows name k e)
value_follows rows name (word ∷ words) k texts e = go (looks word)
  where
    w : Walk
    w = at rows (Some (name, [])) (option name) false

    go : Looks word → Follows rows name (word ∷ words)
    go (as_plain l) =
        let n = from_next w (at rows (Some (name, word ∷ [])) idle false) word words [] (value_next rows name word k l) (value_turn rows name word k l) e in
        record { value = word; rest = words; words_are = refl; is_plain = l; passes = n.1; ends = ap (λ v. final v words) (value_next rows name word k l) }
    go (as_dash is) =
        let e2 = subst (λ x. total w (x ∷ words) ≡ []) is e in
        let n = from_next w (at rows (Some (name, [])) (option name) true) dashes words [] (dash_next rows (Some (name, [])) (option name)) (dash_turn rows (Some (name, [])) (option name)) e2 in
        absurd (behind_fails rows name (option name) words k n.1)
    go (as_long l) = absurd (long_fails rows name word k l (or_first _ _ e))
    go (as_short l) = absurd (flags_turn rows (Some (name, [])) (option name) word texts.0 l (or_first _ _ e))

-- the option `--helpers`
helpers_found : (front words : List Word) (v : Word) (rows : List Row) (hs ss fs : List Word) → hs ≡ [] → IsOption (codes "--helpers") v front → Found false words rows (v ∷ []) ss fs
    → Found false (front ++ words) rows hs ss fs
helpers_found front words v rows hs ss fs none is f = record {
  parts = helpers v ∷ f.parts;
  more = f.more;
  cut = part_before (helpers v) front words f.more f.parts is f.cut;
  shows = subst (λ t. Shows rows (t ++ v ∷ helpers_in f.parts) (ss ++ schedules_in f.parts) (fs ++ (fields_in f.parts ++ f.more))) (sym none) f.shows;
}

helpers_given : (word : Word) (words : List Word) → Texts words → Ih (length words) → (rows : List Row) (p : Pending) (waiting : Waiting) (hs ss fs : List Word) (v : Word)
    → (pending_fault rows p ≡ [] → Shows (rows_then rows p) hs ss fs) → total (at rows p waiting false) (word ∷ words) ≡ [] → word ≡ long_word (codes "helpers") (Some v)
    → bytes_eq word dashes ≡ false → long_of word ≡ Some (codes "helpers", Some v) → Res false word words rows p waiting hs ss fs
helpers_given word words texts ih rows p waiting hs ss fs v shows e is no_dashes long =
    let then = at (used (option_built (codes "helpers")) (v ∷ []) (rows_then rows p)) None idle false in
    let after = given_next rows p waiting word (codes "helpers") v helpers_known no_dashes long in
    let n = from_next (at rows p waiting false) then word words _ after (given_turn rows p waiting word (codes "helpers") v helpers_known no_dashes long) e in
    let both = or_first _ _ n.0 in
    let pending = or_first _ _ both in
    let none = first_use (codes "helpers") (rows_then rows p) hs v (shows pending).helpers (or_second (pending_fault rows p) _ both) in
    let new = helpers_used (rows_then rows p) ss fs v (subst (λ t. Shows (rows_then rows p) t ss fs) none (shows pending)) in
    let more = ih words (omega arith) texts (used (option_built (codes "helpers")) (v ∷ []) (rows_then rows p)) None idle false (v ∷ []) ss fs tt (λ _. new) n.1 in
    (pending, found_as false (word ∷ words) _ (final then words) hs ss fs (ap (λ t. final t words) after) (helpers_found (word ∷ []) words v (final then words) hs ss fs none (inl (ap (λ t. t ∷ []) is)) more.1))

helpers_named : (word : Word) (words : List Word) → Texts words → Ih (length words) → (rows : List Row) (p : Pending) (waiting : Waiting) (hs ss fs : List Word)
    → (pending_fault rows p ≡ [] → Shows (rows_then rows p) hs ss fs) → total (at rows p waiting false) (word ∷ words) ≡ [] → word ≡ long_word (codes "helpers") None
    → bytes_eq word dashes ≡ false → long_of word ≡ Some (codes "helpers", None) → Res false word words rows p waiting hs ss fs
helpers_named word words texts ih rows p waiting hs ss fs shows e is no_dashes long =
    let x = rows_then rows p in
    let then = at x (Some (codes "helpers", [])) (option (codes "helpers")) false in
    let after = named_next rows p waiting word (codes "helpers") helpers_known no_dashes long in
    let n = from_next (at rows p waiting false) then word words _ after (named_turn rows p waiting word (codes "helpers") helpers_known no_dashes long) e in
    let pending = or_first _ _ n.0 in
    let f = value_follows x (codes "helpers") words helpers_known texts n.1 in
    let used_once : pending_fault x (Some (codes "helpers", f.value ∷ [])) ≡ [] → use_fault false (option_built (codes "helpers")) (f.value ∷ []) x ≡ [] = λ q. sym (value_fault x (codes "helpers") f.value helpers_known) ∙ q in
    let first : pending_fault x (Some (codes "helpers", f.value ∷ [])) ≡ [] → hs ≡ [] = λ q. first_use (codes "helpers") x hs f.value (shows pending).helpers (used_once q) in
    let new : pending_fault x (Some (codes "helpers", f.value ∷ [])) ≡ [] → Shows (rows_then x (Some (codes "helpers", f.value ∷ []))) (f.value ∷ []) ss fs = λ q.
    subst (λ t. Shows t (f.value ∷ []) ss fs) (sym (value_rows x (codes "helpers") f.value helpers_known)) (helpers_used x ss fs f.value (subst (λ t. Shows x t ss fs) (first q) (shows pending))) in
    let short : length f.rest ≤ length words = omega (arith, ap length f.words_are) in
    let rest : Texts f.rest = (subst Texts f.words_are texts).1 in
    let last = at x (Some (codes "helpers", f.value ∷ [])) idle false in
    let more = ih f.rest short rest x (Some (codes "helpers", f.value ∷ [])) idle false (f.value ∷ []) ss fs tt new f.passes in
    let found = helpers_found (word ∷ f.value ∷ []) f.rest f.value (final last f.rest) hs ss fs (first more.0) (inr (ap (λ t. t ∷ f.value ∷ []) is)) more.1 in
    (pending, found_as false (word ∷ words) _ (final last f.rest) hs ss fs (ap (λ t. final t words) after ∙ f.ends) (subst (λ t. Found false (word ∷ t) (final last f.rest) hs ss fs) (sym f.words_are) found))

-- the option `--schedule`
schedule_found : (front words : List Word) (v : Word) (rows : List Row) (hs ss fs : List Word) → ss ≡ [] → IsOption (codes "--schedule") v front → Found false words rows hs (v ∷ []) fs
    → Found false (front ++ words) rows hs ss fs
schedule_found front words v rows hs ss fs none is f = record {
  parts = schedule v ∷ f.parts;
  more = f.more;
  cut = part_before (schedule v) front words f.more f.parts is f.cut;
  shows = subst (λ t. Shows rows (hs ++ helpers_in f.parts) (t ++ v ∷ schedules_in f.parts) (fs ++ (fields_in f.parts ++ f.more))) (sym none) f.shows;
}

schedule_given : (word : Word) (words : List Word) → Texts words → Ih (length words) → (rows : List Row) (p : Pending) (waiting : Waiting) (hs ss fs : List Word) (v : Word)
    → (pending_fault rows p ≡ [] → Shows (rows_then rows p) hs ss fs) → total (at rows p waiting false) (word ∷ words) ≡ [] → word ≡ long_word (codes "schedule") (Some v)
    → bytes_eq word dashes ≡ false → long_of word ≡ Some (codes "schedule", Some v) → Res false word words rows p waiting hs ss fs
schedule_given word words texts ih rows p waiting hs ss fs v shows e is no_dashes long =
    let then = at (used (option_built (codes "schedule")) (v ∷ []) (rows_then rows p)) None idle false in
    let after = given_next rows p waiting word (codes "schedule") v schedule_known no_dashes long in
    let n = from_next (at rows p waiting false) then word words _ after (given_turn rows p waiting word (codes "schedule") v schedule_known no_dashes long) e in
    let both = or_first _ _ n.0 in
    let pending = or_first _ _ both in
    let none = first_use (codes "schedule") (rows_then rows p) ss v (shows pending).schedules (or_second (pending_fault rows p) _ both) in
    let new = schedule_used (rows_then rows p) hs fs v (subst (λ t. Shows (rows_then rows p) hs t fs) none (shows pending)) in
    let more = ih words (omega arith) texts (used (option_built (codes "schedule")) (v ∷ []) (rows_then rows p)) None idle false hs (v ∷ []) fs tt (λ _. new) n.1 in
    (pending, found_as false (word ∷ words) _ (final then words) hs ss fs (ap (λ t. final t words) after) (schedule_found (word ∷ []) words v (final then words) hs ss fs none (inl (ap (λ t. t ∷ []) is)) more.1))

schedule_named : (word : Word) (words : List Word) → Texts words → Ih (length words) → (rows : List Row) (p : Pending) (waiting : Waiting) (hs ss fs : List Word)
    → (pending_fault rows p ≡ [] → Shows (rows_then rows p) hs ss fs) → total (at rows p waiting false) (word ∷ words) ≡ [] → word ≡ long_word (codes "schedule") None
    → bytes_eq word dashes ≡ false → long_of word ≡ Some (codes "schedule", None) → Res false word words rows p waiting hs ss fs
schedule_named word words texts ih rows p waiting hs ss fs shows e is no_dashes long =
    let x = rows_then rows p in
    let then = at x (Some (codes "schedule", [])) (option (codes "schedule")) false in
    let after = named_next rows p waiting word (codes "schedule") schedule_known no_dashes long in
    let n = from_next (at rows p waiting false) then word words _ after (named_turn rows p waiting word (codes "schedule") schedule_known no_dashes long) e in
    let pending = or_first _ _ n.0 in
    let f = value_follows x (codes "schedule") words schedule_known texts n.1 in
    let used_once : pending_fault x (Some (codes "schedule", f.value ∷ [])) ≡ [] → use_fault false (option_built (codes "schedule")) (f.value ∷ []) x ≡ [] = λ q. sym (value_fault x (codes "schedule") f.value schedule_known) ∙ q in
    let first : pending_fault x (Some (codes "schedule", f.value ∷ [])) ≡ [] → ss ≡ [] = λ q. first_use (codes "schedule") x ss f.value (shows pending).schedules (used_once q) in
    let new : pending_fault x (Some (codes "schedule", f.value ∷ [])) ≡ [] → Shows (rows_then x (Some (codes "schedule", f.value ∷ []))) hs (f.value ∷ []) fs = λ q.
    subst (λ t. Shows t hs (f.value ∷ []) fs) (sym (value_rows x (codes "schedule") f.value schedule_known)) (schedule_used x hs fs f.value (subst (λ t. Shows x hs t fs) (first q) (shows pending))) in
    let short : length f.rest ≤ length words = omega (arith, ap length f.words_are) in
    let rest : Texts f.rest = (subst Texts f.words_are texts).1 in
    let last = at x (Some (codes "schedule", f.value ∷ [])) idle false in
    let more = ih f.rest short rest x (Some (codes "schedule", f.value ∷ [])) idle false hs (f.value ∷ []) fs tt new f.passes in
    let found = schedule_found (word ∷ f.value ∷ []) f.rest f.value (final last f.rest) hs ss fs (first more.0) (inr (ap (λ t. t ∷ f.value ∷ []) is)) more.1 in
    (pending, found_as false (word ∷ words) _ (final last f.rest) hs ss fs (ap (λ t. final t words) after ∙ f.ends) (subst (λ t. Found false (word ∷ t) (final last f.rest) hs ss fs) (sym f.words_are) found))

-- an option
long_step : (word : Word) (words : List Word) → Texts words → Ih (length words) → (rows : List Row) (p : Pending) (waiting : Waiting) (hs ss fs : List Word)
    → (pending_fault rows p ≡ [] → Shows (rows_then rows p) hs ss fs) → total (at rows p waiting false) (word ∷ words) ≡ [] → LooksLong word → Res false word words rows p waiting hs ss fs
long_step word words texts ih rows p waiting hs ss fs shows e l = go l.value (known l.name) l.is l.long
  where
    is_helpers : (value : Option Word) → word ≡ long_word (codes "helpers") value → long_of word ≡ Some (codes "helpers", value) → Res false word words rows p waiting hs ss fs
    is_helpers None is long = helpers_named word words texts ih rows p waiting hs ss fs shows e is l.no_dashes long
    is_helpers (Some v) is long = helpers_given word words texts ih rows p waiting hs ss fs v shows e is l.no_dashes long

    is_schedule : (value : Option Word) → word ≡ long_word (codes "schedule") value → long_of word ≡ Some (codes "schedule", value) → Res false word words rows p waiting hs ss fs
    is_schedule None is long = schedule_named word words texts ih rows p waiting hs ss fs shows e is l.no_dashes long
    is_schedule (Some v) is long = schedule_given word words texts ih rows p waiting hs ss fs v shows e is l.no_dashes long

    go : (value : Option Word) → (l.name ≡ codes "helpers") ⊎ ((l.name ≡ codes "schedule") ⊎ (arg_by_long rules_built l.name ≡ None)) → word ≡ long_word l.name value → long_of word ≡ Some (l.name, value)
        → Res false word words rows p waiting hs ss fs
    go value (inl name) is long = is_helpers value (is ∙ ap (λ n. long_word n value) name) (long ∙ ap (λ n. Some (n, value)) name)
    go value (inr (inl name)) is long = is_schedule value (is ∙ ap (λ n. long_word n value) name) (long ∙ ap (λ n. Some (n, value)) name)
    go value (inr (inr none)) is long = absurd (unknown_turn rows p waiting word l.name value none l.no_dashes long (or_first _ _ e))

sound_step : (word : Word) (words : List Word) → Texts (word ∷ words) → Ih (length words) → Sound (word ∷ words)
sound_step word words texts ih rows p waiting true hs ss fs rests shows e = behind_step word words texts.1 ih rows p waiting hs ss fs shows e
sound_step word words texts ih rows p waiting false hs ss fs rests shows e = go (looks word)
  where
    go : Looks word → Res false word words rows p waiting hs ss fs
    go (as_plain l) = plain_step word words texts.1 ih rows p waiting hs ss fs rests shows e l
    go (as_dash is) = subst (λ x. Res false x words rows p waiting hs ss fs) (sym is) (dash_step words texts.1 ih rows p waiting hs ss fs rests shows (subst (λ x. total (at rows p waiting false) (x ∷ words) ≡ []) is e))
    go (as_long l) = long_step word words texts.1 ih rows p waiting hs ss fs shows e l
    go (as_short l) = absurd (flags_turn rows p waiting word texts.0 l (or_first _ _ e))

sound_to : (n : ℕ) → Ih n
sound_to n [] less texts = sound_nil
sound_to zero (word ∷ words) less texts = absurd (omega (arith, less))
sound_to (suc n) (word ∷ words) less texts = sound_step word words texts (λ ws short ts. sound_to n ws (omega (arith, short, less)) ts)

pub sound : (words : List Word) → Texts words → Sound words
sound words texts = sound_to (length words) words (omega arith) texts
