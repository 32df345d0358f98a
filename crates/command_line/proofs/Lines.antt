-- From the values that were found to what the words say.
use Rattle.std.proofs.Common.{◌≡◌, ◌≢◌, ◌⊎◌, inl, inr, ℕ, List, [], ◌∷◌, ◌++◌, length, Option, Some, None, codes, refl, sym, ◌∙◌, ap, subst, arith, rules, Result, Ok, Err, IfOk, MatchResult}
use Rattle.std.specs.Prelude.{unwrap_or}
use Rattle.std.proofs.lemmas.Fmt.{decimal_digit}
use Rattle.clap.specs.Walk.{all_of}
use Rattle.clap.specs.declared.parser.matches.ArgMatches.{ArgMatches}
use Rattle.schedule.specs.Schedule.{IsSchedule}
use Rattle.schedule.specs.declared.turns.Turns.{Turns}
use Rattle.schedule.proofs.Items.{no_dash}
use Rattle.command_line.specs.Command.{AreNoLine, IsLine, IsMeant, IsNoSplit, IsSplit, values_of}
use Rattle.command_line.specs.Words.{AreHelpers, AreSchedule, IsPlain, Part, SayNothing, Says, Word, field, helpers, helpers_in, schedule, schedules_in}
use Rattle.command_line.specs.declared.fault.LineFault.{LineFault}
use Rattle.command_line.specs.declared.fault.LineFault.TheVariants as fault
use Rattle.command_line.proofs.Completes.{complete}
use Rattle.command_line.proofs.Cuts.{opt_back, start}
use Rattle.command_line.proofs.Rows.{opt}
use Rattle.command_line.proofs.Walks.{final}

-- none, or one that may stand for itself
abbrev AreOne : List Word → Type 0
AreOne vs = (vs ≡ []) ⊎ ((v : Word) × (vs ≡ v ∷ []) × IsPlain v)

one_helpers : (vs : List Word) (n : ℕ) → AreHelpers vs n → AreOne vs
one_helpers [] n is = inl refl
one_helpers (v ∷ []) n is = inr (v, refl, λ first rest same. omega (arith, ap length (sym same ∙ is.0 ∙ decimal_digit n (omega (arith, is.1)))))
one_helpers (v ∷ w ∷ vs) n is = absurd is

one_schedule : (vs : List Word) (t : Option (List Turns)) → AreSchedule vs t → AreOne vs
one_schedule [] None is = inl refl
one_schedule [] (Some t) is = absurd is
one_schedule (v ∷ []) None is = absurd is
one_schedule (v ∷ []) (Some t) is = inr (v, refl, λ first rest same. no_dash (first ∷ rest) t (subst (λ x. IsSchedule x t) same is))
one_schedule (v ∷ w ∷ vs) t is = absurd is

not_nil : (hs : List Word) (v : Word) (rest : List Word) → hs ++ v ∷ rest ≢ []
not_nil [] v rest e = cc
not_nil (h ∷ hs) v rest e = cc

head_one : (hs : List Word) (v : Word) (rest : List Word) → AreOne (hs ++ v ∷ rest) → (hs ≡ []) × IsPlain v × AreOne ((v ∷ []) ++ rest)
head_one [] v rest (inl none) = cc
head_one [] v rest (inr (x, is, plain)) = let same : x ≡ v = cc in (refl, subst IsPlain same plain, inr (x, is, plain))
head_one (h ∷ hs) v rest (inl none) = cc
head_one (h ∷ hs) v rest (inr (x, is, plain)) = let none : hs ++ v ∷ rest ≡ [] = cc in absurd (not_nil hs v rest none)

meant_from : (parts : List Part) (hs ss : List Word) → AreOne (hs ++ helpers_in parts) → AreOne (ss ++ schedules_in parts) → IsMeant hs ss parts
meant_from [] hs ss h s = tt
meant_from (field word ∷ parts) hs ss h s = meant_from parts hs ss h s
meant_from (helpers v ∷ parts) hs ss h s = let x = head_one hs v (helpers_in parts) h in (x.0, x.1, meant_from parts (v ∷ []) ss x.2 s)
meant_from (schedule v ∷ parts) hs ss h s = let x = head_one ss v (schedules_in parts) s in (x.0, x.1, meant_from parts hs (v ∷ []) h x.2)

line_of_says : (words : List Word) (m : ArgMatches) (n : ℕ) (t : Option (List Turns)) (f : List Word) → IsSplit words m → Says words n t f → IsLine m n t f
line_of_says words m n t f split says =
    let found = split.only says.parts says.behind says.cut (meant_from says.parts [] [] (one_helpers (helpers_in says.parts) n says.helpers) (one_schedule (schedules_in says.parts) t says.schedule)) in
    record {
      helpers_are = subst (λ vs. AreHelpers vs n) found.helpers_are says.helpers;
      schedule_is = subst (λ vs. AreSchedule vs t) found.schedule_is says.schedule;
      fields_are = says.fields_are ∙ found.fields_are;
      some = says.some;
    }

pub says_from : (words : List Word) (m : ArgMatches) (n : ℕ) (t : Option (List Turns)) (f : List Word) → IsSplit words m → IsLine m n t f → Says words n t f
says_from words m n t f split line = record {
  parts = split.parts;
  behind = split.behind;
  cut = split.cut;
  helpers = subst (λ vs. AreHelpers vs n) (sym split.found.helpers_are) line.helpers_are;
  schedule = subst (λ vs. AreSchedule vs t) (sym split.found.schedule_is) line.schedule_is;
  fields_are = line.fields_are ∙ sym split.found.fields_are;
  some = line.some;
}

pub same_fields : (words : List Word) (m : ArgMatches) (n k : ℕ) (t u : Option (List Turns)) (f g : List Word) → IsSplit words m → IsLine m n t f → Says words k u g → g ≡ f
same_fields words m n k t u f g split line says = (line_of_says words m k u g split says).fields_are ∙ sym line.fields_are

pub says_nothing : (words : List Word) (m : ArgMatches) (e : LineFault) → IsSplit words m → (e ≡ fault.NoMemory) ⊎ ((e ≡ fault.Usage) × AreNoLine m)
    → (e ≡ fault.NoMemory) ⊎ ((e ≡ fault.Usage) × SayNothing words)
says_nothing words m e split (inl memory) = inl memory
says_nothing words m e split (inr none) = inr (none.0, λ n t f says. none.1 n t f (line_of_says words m n t f split says))

pub no_words : (words : List Word) (e : LineFault) → (e ≡ fault.NoMemory) ⊎ ((e ≡ fault.Usage) × IsNoSplit words) → (e ≡ fault.NoMemory) ⊎ ((e ≡ fault.Usage) × SayNothing words)
no_words words e (inl memory) = inl memory
no_words words e (inr none) = inr (none.0, λ n t f says. none.1 says.parts says.behind says.cut (meant_from says.parts [] [] (one_helpers (helpers_in says.parts) n says.helpers) (one_schedule (schedules_in says.parts) t says.schedule)))

-- why the values say nothing
pub no_helpers : (m : ArgMatches) (vs : List Word) → vs ≡ values_of (codes "helpers") m → ((n : ℕ) → ¬ (AreHelpers vs n)) → AreNoLine m
no_helpers m vs is none n t f line = none n (subst (λ v. AreHelpers v n) (sym is) line.helpers_are)

pub no_schedule : (m : ArgMatches) (vs : List Word) (e : LineFault) → vs ≡ values_of (codes "schedule") m
    → (e ≡ fault.NoMemory) ⊎ ((e ≡ fault.Usage) × ((t : Option (List Turns)) → ¬ (AreSchedule vs t))) → (e ≡ fault.NoMemory) ⊎ ((e ≡ fault.Usage) × AreNoLine m)
no_schedule m vs e is (inl memory) = inl memory
no_schedule m vs e is (inr none) = inr (none.0, λ n t f line. none.1 t (subst (λ v. AreSchedule v t) (sym is) line.schedule_is))

pub no_fields : (m : ArgMatches) (vs : List Word) (e : LineFault) → vs ≡ values_of (codes "fields") m → (e ≡ fault.NoMemory) ⊎ ((e ≡ fault.Usage) × (vs ≡ []))
    → (e ≡ fault.NoMemory) ⊎ ((e ≡ fault.Usage) × AreNoLine m)
no_fields m vs e is (inl memory) = inl memory
no_fields m vs e is (inr none) = inr (none.0, λ n t f line. line.some (line.fields_are ∙ sym is ∙ none.1))

pub line_is : (m : ArgMatches) (hs ss fs : List Word) (n : ℕ) (t : Option (List Turns)) (f : List Word) → hs ≡ values_of (codes "helpers") m → ss ≡ values_of (codes "schedule") m → fs ≡ values_of (codes "fields") m
    → AreHelpers hs n → AreSchedule ss t → (fs ≢ []) × (f ≡ fs) → IsLine m n t f
line_is m hs ss fs n t f h s g count turns words = record {
  helpers_are = subst (λ v. AreHelpers v n) h count;
  schedule_is = subst (λ v. AreSchedule v t) s turns;
  fields_are = words.1 ∙ g;
  some = λ none. words.0 (sym words.1 ∙ none);
}

-- the values that an argument has
pub given_some : (vs : List Word) (o : Option (List Word)) → Some vs ≡ o → vs ≡ unwrap_or o []
given_some vs o is = ap (λ x. unwrap_or x []) is

pub given_none : (o : Option (List Word)) → None ≡ o → [] ≡ unwrap_or o []
given_none o is = ap (λ x. unwrap_or x []) is

-- the answer of a reading
pub read_is : {L : Type 0} (n : L → ℕ) (t : L → Option (List Turns)) (f : L → List Word) (words : List Word) (m : ArgMatches) (r : Result L LineFault) → IsSplit words m
    → MatchResult r (λ l. IsLine m (n l) (t l) (f l)) (λ e. (e ≡ fault.NoMemory) ⊎ ((e ≡ fault.Usage) × AreNoLine m))
    → MatchResult r (λ l. Says words (n l) (t l) (f l)) (λ e. (e ≡ fault.NoMemory) ⊎ ((e ≡ fault.Usage) × SayNothing words))
read_is n t f words m (Ok l) split line = says_from words m (n l) (t l) (f l) split line
read_is n t f words m (Err e) split none = says_nothing words m e split none

pub only_is : {L : Type 0} (n : L → ℕ) (t : L → Option (List Turns)) (f : L → List Word) (words : List Word) (m : ArgMatches) (r : Result L LineFault) → IsSplit words m
    → MatchResult r (λ l. IsLine m (n l) (t l) (f l)) (λ e. (e ≡ fault.NoMemory) ⊎ ((e ≡ fault.Usage) × AreNoLine m))
    → IfOk r (λ l. (k : ℕ) (u : Option (List Turns)) (g : List Word) → Says words k u g → g ≡ f l)
only_is n t f words m (Ok l) split line = λ k u g says. same_fields words m (n l) k (t l) u (f l) g split line says
only_is n t f words m (Err e) split none = search rules

-- the words have the fields of one command line
opt_same : (a b : List Word) → opt a ≡ opt b → a ≡ b
opt_same a b e = sym (opt_back a) ∙ ap (λ o. unwrap_or o []) e ∙ opt_back b

shown_of : (words : List Word) (n : ℕ) (t : Option (List Turns)) (f : List Word) → Says words n t f → all_of (codes "fields") (final start words) ≡ opt f
shown_of words n t f says =
    let d = complete words says.parts says.behind says.cut (meant_from says.parts [] [] (one_helpers (helpers_in says.parts) n says.helpers) (one_schedule (schedules_in says.parts) t says.schedule)) in
    d.1.fields ∙ ap opt (sym says.fields_are)

pub fields_once : (words : List Word) (n k : ℕ) (t u : Option (List Turns)) (f g : List Word) → Says words n t f → Says words k u g → f ≡ g
fields_once words n k t u f g a b = opt_same f g (sym (shown_of words n t f a) ∙ shown_of words k u g b)
