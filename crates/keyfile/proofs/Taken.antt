-- What the reader knows of one line more.
use Rattle.std.proofs.Common.{◌≡◌, ◌⊎◌, inl, inr, ◌↔◌, ℕ, Bool, true, false, not, IsTrue, if◌then◌else◌, List, [], ◌∷◌, ◌++◌, Option, Some, None, refl, sym, ◌∙◌, ap, subst, append-nil, rules, arith, Bor}
use Rattle.std.specs.BTreeSet.{BTreeSet, IsEmpty}
use Rattle.std.proofs.lemmas.Slice.Eq.{bytes_eq-Decides}
use Rattle.ost_types.specs.Path.{same_name}
use Rattle.keyfile.specs.declared.reader.Reader.{Reader}
use Rattle.keyfile.specs.Line.{Line, IsLine, IsGroupName, IsKeyName, IsValue}
use Rattle.keyfile.specs.Line.Line.{Blank, Comment, Group, Key}
use Rattle.keyfile.specs.Faults.{IsKeyLine, HasGroup, HasKey, MayFollow}
use Rattle.keyfile.specs.Entries.{entries_in, entries_of}
use Rattle.keyfile.specs.Names.{has}
use Rattle.keyfile.specs.Tracks.{Tracks, IsLast, HasLast, group_behind}
use Rattle.keyfile.proofs.Behind.{IsNoGroup, group_before, group_behind_it, group_last, no_group_kept, key_before, key_kept, key_last, no_key_yet, go_on, group_behind-append, entries_in-append}

nothing_true : IsTrue false → ⊥
nothing_true t = search rules

-- an empty set has no name
pub has_none : (names : BTreeSet (Bor (List ℕ))) (name : List ℕ) → IsEmpty names → ¬ (IsTrue (has names name))
has_none names name empty t = grind (arith, empty, t)

-- the set with one name more
one_more : (old new : Bool) (name other : List ℕ) (P Q : Type 0) → new ≡ (if same_name name other then true else old) → (IsTrue old ↔ P) → (P → Q) → (Q → P ⊎ (name ≡ other)) → (name ≡ other → Q) → IsTrue new ↔ Q
one_more old new name other P Q is iff kept back there = by (same_name name other) (bytes_eq-Decides name other) is
  where
    by : (b : Bool) → (b ≡ true → name ≡ other) × (name ≡ other → b ≡ true) → new ≡ (if b then true else old) → IsTrue new ↔ Q
    by true d e = (λ t. there (d.0 refl), λ q. subst IsTrue (sym e) (search rules))
    by false d e = (λ t. kept (iff.0 (subst IsTrue e t)), λ q. subst IsTrue (sym e) (elim (back q) [ inl p ↦ iff.1 p | inr same ↦ absurd (let n : false ≡ true = d.1 same in cc) ]))

-- a name that the set didn't have
absent : (old : Bool) (new : Bool) (P : Type 0) → new ≡ not old → new ≡ true → (IsTrue old ↔ P) → P → ⊥
absent true new P e is iff p = let n : false ≡ true = sym e ∙ is in cc
absent false new P e is iff p = nothing_true (iff.1 p)

pub there : (old : Bool) (new : Bool) (P : Type 0) → new ≡ not old → new ≡ false → (IsTrue old ↔ P) → P
there true new P e is iff = iff.0 (search rules)
there false new P e is iff = absurd (let n : true ≡ false = sym e ∙ is in cc)

-- a line that is neither a group's nor a key's
abbrev pub IsPlain : Line → Type 0
IsPlain Blank = Unit {0}
IsPlain (Comment text) = Unit {0}
IsPlain (Group name) = ⊥
IsPlain (Key key value) = ⊥

no_group : (line : Line) → IsPlain line → IsNoGroup line
no_group Blank p name h = h
no_group (Comment text) p name h = h
no_group (Group group) p name h = p
no_group (Key key value) p name h = p

no_key : (line : Line) → IsPlain line → (name : List ℕ) → ¬ (IsKeyLine name line)
no_key Blank p name h = h
no_key (Comment text) p name h = h
no_key (Group group) p name h = p
no_key (Key key value) p name h = p

follows : (before : List Line) (line : Line) → IsLine line → IsPlain line → MayFollow before line
follows before Blank is p = record { line_of = is; grouped = λ h. h; new = λ h. h }
follows before (Comment text) is p = record { line_of = is; grouped = λ h. h; new = λ h. h }
follows before (Group group) is p = absurd p
follows before (Key key value) is p = absurd p

same_group : (group : List ℕ) (line : Line) → IsPlain line → group_behind group (line ∷ []) ≡ group
unfolding group_behind
same_group group Blank p = refl
same_group group (Comment text) p = refl
same_group group (Group name) p = absurd p
same_group group (Key key value) p = absurd p

no_entry : (group : List ℕ) (line : Line) → IsPlain line → entries_in group (line ∷ []) ≡ []
unfolding entries_in
no_entry group Blank p = refl
no_entry group (Comment text) p = refl
no_entry group (Group name) p = absurd p
no_entry group (Key key value) p = absurd p

still_last : (group : Option (List ℕ)) (before : List Line) (line : Line) → IsNoGroup line → group_behind (group_behind [] before) (line ∷ []) ≡ group_behind [] before → HasLast group before → HasLast group (before ++ line ∷ [])
still_last None before line plain same none = no_group_kept before line plain none
still_last (Some name) before line plain same is = record {
  last = is.last ∙ sym (group_behind-append [] before (line ∷ []) ∙ same);
  there = group_behind_it _ before line is.there;
}

pub plain_taken : (r : Reader) (before : List Line) (line : Line) → IsLine line → IsPlain line → Tracks r before → Tracks r (before ++ line ∷ [])
plain_taken r before line is plain t = record {
  sound = go_on [] before line t.sound (follows before line is plain);
  entries = t.entries ∙ sym (entries_in-append [] before (line ∷ []) ∙ ap (λ e. entries_of before ++ e) (no_entry _ line plain) ∙ append-nil (entries_of before));
  group = still_last r.group before line (no_group line plain) (same_group _ line plain) t.group;
  groups = λ name. (λ h. group_behind_it name before line ((t.groups name).0 h), λ h. (t.groups name).1 (elim (group_before name before line h) [ inl x ↦ x | inr x ↦ absurd (no_group line plain name x) ]));
  keys = λ name. (λ h. key_kept name before line (no_group line plain) ((t.keys name).0 h), λ h. (t.keys name).1 (elim (key_before name before line h) [ inl x ↦ x | inr x ↦ absurd (no_key line plain name x) ]));
}

module _ (r s : Reader) (before : List Line) (name : List ℕ) (new : Bool) (of_group : IsGroupName name) (t : Tracks r before)
    (added : new ≡ not (has r.groups name)) (is_new : new ≡ true)
    (groups : (other : List ℕ) → has s.groups other ≡ (if same_name name other then true else has r.groups other))
    (no_keys : IsEmpty s.keys) (entries : s.entries.items ≡ r.entries.items) (group : s.group ≡ Some name) where
  pub group_taken : Tracks s (before ++ Group name ∷ [])
  unfolding group_behind entries_in
  group_taken = record {
    sound = go_on [] before (Group name) t.sound (record { line_of = of_group; grouped = λ h. h; new = absent _ new (HasGroup name before) added is_new (t.groups name) });
    entries = entries ∙ t.entries ∙ sym (entries_in-append [] before (Group name ∷ []) ∙ append-nil (entries_of before));
    group = subst (λ g. HasLast g (before ++ Group name ∷ [])) (sym group) (record {
      last = sym (group_behind-append [] before (Group name ∷ []));
      there = group_last name before (Group name) refl;
    });
    groups = λ other. one_more _ _ name other (HasGroup other before) _ (groups other) (t.groups other) (group_behind_it other before (Group name)) (group_before other before (Group name)) (group_last other before (Group name));
    keys = λ other. (λ h. absurd (has_none s.keys other no_keys h), λ h. absurd (no_key_yet other name before h));
  }

module _ (r s : Reader) (before : List Line) (key value : List ℕ) (new : Bool) (is_key : IsKeyName key) (is_value : IsValue value) (t : Tracks r before)
    (p : List ℕ) (in_group : r.group ≡ Some p)
    (added : new ≡ not (has r.keys key)) (is_new : new ≡ true)
    (keys : (other : List ℕ) → has s.keys other ≡ (if same_name key other then true else has r.keys other))
    (groups : s.groups ≡ r.groups) (entries : s.entries.items ≡ r.entries.items ++ record { group = p; key = key; value = value } ∷ []) (group : s.group ≡ r.group) where
  last_group : IsLast p before
  last_group = subst (λ g. HasLast g before) in_group t.group

  pub key_taken : Tracks s (before ++ Key key value ∷ [])
  unfolding group_behind entries_in
  key_taken = record {
    sound = go_on [] before (Key key value) t.sound (record { line_of = (is_key, is_value); grouped = λ none. none p last_group.there; new = absent _ new (HasKey key before) added is_new (t.keys key) });
    entries = entries ∙ ap (λ e. e ++ record { group = p; key = key; value = value } ∷ []) t.entries ∙ ap (λ g. entries_of before ++ record { group = g; key = key; value = value } ∷ []) last_group.last ∙ sym (entries_in-append [] before (Key key value ∷ []));
    group = subst (λ g. HasLast g (before ++ Key key value ∷ [])) (sym group) (still_last r.group before (Key key value) (λ name h. h) refl t.group);
    groups = λ other. subst (λ g. IsTrue (has g other) ↔ HasGroup other (before ++ Key key value ∷ [])) (sym groups)
        (λ h. group_behind_it other before (Key key value) ((t.groups other).0 h), λ h. (t.groups other).1 (elim (group_before other before (Key key value) h) [ inl x ↦ x | inr x ↦ absurd x ]));
    keys = λ other. one_more _ _ key other (HasKey other before) _ (keys other) (t.keys other) (key_kept other before (Key key value) (λ name h. h)) (key_before other before (Key key value)) (key_last other before (Key key value));
  }
