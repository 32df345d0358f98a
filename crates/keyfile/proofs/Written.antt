-- The lines of entries are read as these entries.
use Rattle.std.proofs.Common.{◌≡◌, ◌≢◌, ◌⊎◌, inl, inr, ◌<◌, ◌≤◌, ◌+◌, ℕ, Bool, true, false, if◌then◌else◌, List, [], ◌∷◌, ◌++◌, length, drop, get_or, Ok, refl, sym, ◌∙◌, ap, subst, append-nil, append_assoc}
use Rattle.std.proofs.lemmas.List.{drop_more, drop_all}
use Rattle.std.proofs.lemmas.Slice.Eq.{bytes_eq-Decides}
use Rattle.ost_types.specs.Path.{same_name}
use Rattle.keyfile.specs.declared.entry.KeyLine.{KeyLine}
use Rattle.keyfile.specs.Line.{Line, line_text, file_text}
use Rattle.keyfile.specs.Line.Line.{Group, Key}
use Rattle.keyfile.specs.Faults.{HasGroup, HasKey, MayFollow, GoOn}
use Rattle.keyfile.specs.Entries.{entries_in, heading, lines_in, keyfile_text, IsEntry, HasNone, StaysOrEnds, HasNoKey, AreEntries}
use Rattle.keyfile.specs.Reading.{Reads}
use Rattle.keyfile.proofs.Behind.{group_before, group_behind_it, group_last, key_before, no_key_yet}

pub file_text-append : (xs ys : List Line) → file_text (xs ++ ys) ≡ file_text xs ++ file_text ys
unfolding file_text
file_text-append [] ys = refl
file_text-append (x ∷ xs) ys = ap (λ t. line_text x ++ 10 ∷ t) (file_text-append xs ys) ∙ sym (append_assoc (line_text x) (10 ∷ file_text xs) (file_text ys))

same_heading : (group next : List ℕ) (b : Bool) → same_name next group ≡ b → heading group next ≡ (if b then [] else (Group next ∷ []))
same_heading group next b is = ap (λ x. if x then [] else (Group next ∷ [])) is

-- an entry is read from its lines
one_back : (group : List ℕ) (e : KeyLine) (rest : List Line) → entries_in group (heading group e.group ++ Key e.key e.value ∷ rest) ≡ e ∷ entries_in e.group rest
unfolding entries_in
one_back group e rest = by (same_name e.group group) refl
  where
    by : (b : Bool) → same_name e.group group ≡ b → entries_in group (heading group e.group ++ Key e.key e.value ∷ rest) ≡ e ∷ entries_in e.group rest
    by true is =
        let same : e.group ≡ group = (bytes_eq-Decides e.group group).0 is in
        ap (λ h. entries_in group (h ++ Key e.key e.value ∷ rest)) (same_heading group e.group true is)
        ∙ ap (λ g. record { group = g; key = e.key; value = e.value } ∷ entries_in g rest) (sym same)
    by false is = ap (λ h. entries_in group (h ++ Key e.key e.value ∷ rest)) (same_heading group e.group false is)

entries_back : (group : List ℕ) (entries : List KeyLine) → entries_in group (lines_in group entries) ≡ entries
unfolding lines_in entries_in
entries_back group [] = refl
entries_back group (e ∷ entries) = one_back group e (lines_in e.group entries) ∙ ap (λ es. e ∷ es) (entries_back e.group entries)

-- these entries may go on behind the lines, of which the last are of the group
record Fits (before : List Line) (group : List ℕ) (entries : List KeyLine) : Type 0 where
  there : group ≢ [] → HasGroup group before
  groups : (name : List ℕ) → HasGroup name before → ((name ≡ group) × StaysOrEnds group entries) ⊎ HasNone name entries
  keys : (key : List ℕ) → HasKey key before → HasNoKey group key entries

-- a key behind lines of its group
module _ (before : List Line) (e : KeyLine) (entries : List KeyLine) (is : IsEntry e) (stays : StaysOrEnds e.group entries) (new : HasNoKey e.group e.key entries) where
  key_follows : HasGroup e.group before → ¬ (HasKey e.key before) → MayFollow before (Key e.key e.value)
  key_follows there absent = record { line_of = (is.key, is.value); grouped = λ none. none e.group there; new = absent }

  key_fits : HasGroup e.group before → ((name : List ℕ) → HasGroup name before → (name ≡ e.group) ⊎ HasNone name entries) → ((key : List ℕ) → HasKey key before → HasNoKey e.group key entries)
      → Fits (before ++ Key e.key e.value ∷ []) e.group entries
  key_fits there groups keys = record {
    there = λ some. group_behind_it e.group before (Key e.key e.value) there;
    groups = λ name h. elim (group_before name before (Key e.key e.value) h) [ inl x ↦ elim (groups name x) [ inl same ↦ inl (same, stays) | inr gone ↦ inr gone ] | inr x ↦ absurd x ];
    keys = λ key h. elim (key_before key before (Key e.key e.value) h) [ inl x ↦ keys key x | inr same ↦ subst (λ k. HasNoKey e.group k entries) same new ];
  }

module _ (before : List Line) (group : List ℕ) (e : KeyLine) (entries : List KeyLine) (are : AreEntries (e ∷ entries)) (fits : Fits before group (e ∷ entries))
    (rest : List Line) (behind : (front : List Line) → Fits front e.group entries → GoOn front rest) where
  in_it : e.group ≡ group → GoOn before (Key e.key e.value ∷ rest)
  in_it same =
      let there : HasGroup e.group before = subst (λ g. HasGroup g before) (sym same) (fits.there (λ none. are.0.group.not_empty (same ∙ none))) in
      let absent : (HasKey e.key before → ⊥) = λ h. (fits.keys e.key h).0 same refl in
      let groups : ((name : List ℕ) → HasGroup name before → (name ≡ e.group) ⊎ HasNone name entries) =
      λ name h. elim (fits.groups name h) [ inl x ↦ inl (x.0 ∙ sym same) | inr x ↦ inr x.1 ] in
      let keys : ((key : List ℕ) → HasKey key before → HasNoKey e.group key entries) = λ key h. subst (λ g. HasNoKey g key entries) (sym same) (fits.keys key h).1 in (
        key_follows before e entries are.0 are.1 are.2 there absent,
        behind (before ++ Key e.key e.value ∷ []) (key_fits before e entries are.0 are.1 are.2 there groups keys),
      )

  ended : (e.group ≡ group → ⊥) → (name : List ℕ) → name ≡ group → StaysOrEnds group (e ∷ entries) → HasNone name entries
  ended other name is (inl same) = absurd (other same)
  ended other name is (inr gone) = subst (λ n. HasNone n entries) (sym is) gone.1

  none_left : (e.group ≡ group → ⊥) → (name : List ℕ) → ((name ≡ group) × StaysOrEnds group (e ∷ entries)) ⊎ HasNone name (e ∷ entries) → HasNone name entries
  none_left other name (inl x) = ended other name x.0 x.1
  none_left other name (inr gone) = gone.1

  apart : (e.group ≡ group → ⊥) → GoOn before (Group e.group ∷ Key e.key e.value ∷ rest)
  apart other =
      let headed = before ++ Group e.group ∷ [] in
      let there : HasGroup e.group headed = group_last e.group before (Group e.group) refl in
      let new : (HasGroup e.group before → ⊥) = λ h. elim (fits.groups e.group h) [ inl x ↦ other x.0 | inr x ↦ x.0 refl ] in
      let absent : ((key : List ℕ) → HasKey key headed → ⊥) = λ key h. no_key_yet key e.group before h in
      let groups : ((name : List ℕ) → HasGroup name headed → (name ≡ e.group) ⊎ HasNone name entries) =
      λ name h. elim (group_before name before (Group e.group) h) [ inl x ↦ inr (none_left other name (fits.groups name x)) | inr same ↦ inl (sym same) ] in (
        record { line_of = are.0.group; grouped = λ h. h; new = new },
        (
          key_follows headed e entries are.0 are.1 are.2 there (absent e.key),
          behind (headed ++ Key e.key e.value ∷ []) (key_fits headed e entries are.0 are.1 are.2 there groups (λ key h. absurd (absent key h))),
        ),
      )

  one_behind : (b : Bool) → same_name e.group group ≡ b → GoOn before (heading group e.group ++ Key e.key e.value ∷ rest)
  one_behind true is = subst (λ h. GoOn before (h ++ Key e.key e.value ∷ rest)) (sym (same_heading group e.group true is)) (in_it ((bytes_eq-Decides e.group group).0 is))
  one_behind false is = subst (λ h. GoOn before (h ++ Key e.key e.value ∷ rest)) (sym (same_heading group e.group false is))
      (apart (λ same. let n : false ≡ true = sym is ∙ (bytes_eq-Decides e.group group).1 same in cc))

sound_behind : (before : List Line) (group : List ℕ) (entries : List KeyLine) → AreEntries entries → Fits before group entries → GoOn before (lines_in group entries)
unfolding lines_in
sound_behind before group [] are fits = tt
sound_behind before group (e ∷ entries) are fits =
    one_behind before group e entries are fits (lines_in e.group entries) (λ front f. sound_behind front e.group entries are.3 f) (same_name e.group group) refl

pub read_back : (entries : List KeyLine) → AreEntries entries → Reads (keyfile_text entries) (Ok entries)
read_back entries are =
    (lines_in [] entries, refl, sound_behind [] [] entries are (record { there = λ some. absurd (some refl); groups = λ name h. absurd h; keys = λ key h. absurd h }), sym (entries_back [] entries))

-- the text so far and what the other entries add to it
text_on : (text new more : List ℕ) (group : List ℕ) (i : ℕ) (lines : List KeyLine) (line : KeyLine) → i < length lines → line ≡ get_or lines i line
    → new ≡ (text ++ file_text (heading group line.group)) ++ (line_text (Key line.key line.value) ++ 10 ∷ [])
    → text ++ file_text (lines_in group (drop i lines)) ≡ more → new ++ file_text (lines_in line.group (drop (i + 1) lines)) ≡ more
unfolding lines_in file_text
text_on text new more group i lines line in_range is step so =
    let rest = lines_in line.group (drop (i + 1) lines) in
    let here : drop i lines ≡ line ∷ drop (i + 1) lines = drop_more lines i line in_range ∙ ap (λ l. l ∷ drop (i + 1) lines) (sym is) in
    ap (λ t. t ++ file_text rest) step
    ∙ append_assoc (text ++ file_text (heading group line.group)) (line_text (Key line.key line.value) ++ 10 ∷ []) (file_text rest)
    ∙ append_assoc text (file_text (heading group line.group)) ((line_text (Key line.key line.value) ++ 10 ∷ []) ++ file_text rest)
    ∙ ap (λ t. text ++ (file_text (heading group line.group) ++ t)) (append_assoc (line_text (Key line.key line.value)) (10 ∷ []) (file_text rest))
    ∙ ap (λ t. text ++ t) (sym (file_text-append (heading group line.group) (Key line.key line.value ∷ rest)))
    ∙ ap (λ l. text ++ file_text (lines_in group l)) (sym here)
    ∙ so

pub text_step : (text headed new more : List ℕ) (group g h k v : List ℕ) (i : ℕ) (lines : List KeyLine) (line : KeyLine) → i < length lines → line ≡ get_or lines i line
    → g ≡ line.group → h ≡ line.group → k ≡ line.key → v ≡ line.value
    → headed ≡ text ++ file_text (heading group g) → new ≡ headed ++ (line_text (Key k v) ++ 10 ∷ [])
    → text ++ file_text (lines_in group (drop i lines)) ≡ more → new ++ file_text (lines_in h (drop (i + 1) lines)) ≡ more
text_step text headed new more group g h k v i lines line in_range is is_g is_h is_k is_v heads keys so =
    let first = subst (λ x. headed ≡ text ++ file_text (heading group x)) is_g heads in
    let second = subst (λ x. new ≡ headed ++ (line_text (Key line.key x) ++ 10 ∷ [])) is_v (subst (λ x. new ≡ headed ++ (line_text (Key x v) ++ 10 ∷ [])) is_k keys) in
    subst (λ x. new ++ file_text (lines_in x (drop (i + 1) lines)) ≡ more) (sym is_h)
    (text_on text new more group i lines line in_range is (second ∙ ap (λ t. t ++ (line_text (Key line.key line.value) ++ 10 ∷ [])) first) so)

pub text_end : (text more : List ℕ) (group : List ℕ) (i : ℕ) (lines : List KeyLine) → length lines ≤ i → text ++ file_text (lines_in group (drop i lines)) ≡ more → text ≡ more
unfolding lines_in file_text
text_end text more group i lines past so = sym (append-nil text) ∙ ap (λ l. text ++ file_text (lines_in group l)) (sym (drop_all i lines past)) ∙ so

pub no_heading : (group next : List ℕ) → next ≡ group → file_text (heading group next) ≡ []
unfolding file_text
no_heading group next same = ap file_text (same_heading group next true ((bytes_eq-Decides next group).1 same))

pub one_heading : (group next : List ℕ) → (next ≡ group → ⊥) → file_text (heading group next) ≡ line_text (Group next) ++ 10 ∷ []
unfolding file_text
one_heading group next other = ap file_text (same_heading group next false (by (same_name next group) (bytes_eq-Decides next group)))
  where
    by : (b : Bool) → (b ≡ true → next ≡ group) × (next ≡ group → b ≡ true) → b ≡ false
    by true d = absurd (other (d.0 refl))
    by false d = refl
