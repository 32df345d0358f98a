-- One line more behind the others.
use Rattle.std.proofs.Common.{◌≡◌, ◌⊎◌, inl, inr, ℕ, List, [], ◌∷◌, ◌++◌, refl, sym, ap, subst, append_assoc, append-nil}
use Rattle.keyfile.specs.Line.{Line}
use Rattle.keyfile.specs.Line.Line.{Blank, Comment, Group, Key}
use Rattle.keyfile.specs.Faults.{IsGroupLine, IsKeyLine, HasGroup, HasNoGroup, HasKey, MayFollow, GoOn}
use Rattle.keyfile.specs.Entries.{entries_in}
use Rattle.keyfile.specs.Tracks.{group_behind}

pub group_before : (name : List ℕ) (before : List Line) (line : Line) → HasGroup name (before ++ line ∷ []) → HasGroup name before ⊎ IsGroupLine name line
group_before name [] line (inl is) = inr is
group_before name [] line (inr h) = absurd h
group_before name (x ∷ before) line (inl is) = inl (inl is)
group_before name (x ∷ before) line (inr h) = elim (group_before name before line h) [ inl there ↦ inl (inr there) | inr is ↦ inr is ]

pub group_behind_it : (name : List ℕ) (before : List Line) (line : Line) → HasGroup name before → HasGroup name (before ++ line ∷ [])
group_behind_it name [] line h = absurd h
group_behind_it name (x ∷ before) line (inl is) = inl is
group_behind_it name (x ∷ before) line (inr h) = inr (group_behind_it name before line h)

pub group_last : (name : List ℕ) (before : List Line) (line : Line) → IsGroupLine name line → HasGroup name (before ++ line ∷ [])
group_last name [] line is = inl is
group_last name (x ∷ before) line is = inr (group_last name before line is)

-- a line of no group
abbrev pub IsNoGroup : Line → Type 0
IsNoGroup line = (name : List ℕ) → ¬ (IsGroupLine name line)

no_group_front : (x : Line) (lines : List Line) → HasNoGroup (x ∷ lines) → HasNoGroup lines
no_group_front x lines none name h = none name (inr h)

pub no_group_kept : (before : List Line) (line : Line) → IsNoGroup line → HasNoGroup before → HasNoGroup (before ++ line ∷ [])
no_group_kept before line plain none name h = elim (group_before name before line h) [ inl there ↦ none name there | inr is ↦ plain name is ]

pub no_group_back : (before : List Line) (line : Line) → HasNoGroup (before ++ line ∷ []) → HasNoGroup before
no_group_back before line none name h = none name (group_behind_it name before line h)

-- keys behind a line of no group
pub key_before : (name : List ℕ) (before : List Line) (line : Line) → HasKey name (before ++ line ∷ []) → HasKey name before ⊎ IsKeyLine name line
key_before name [] line (inl is) = inr is.0
key_before name [] line (inr h) = absurd h
key_before name (x ∷ before) line (inl is) = inl (inl (is.0, no_group_back before line is.1))
key_before name (x ∷ before) line (inr h) = elim (key_before name before line h) [ inl there ↦ inl (inr there) | inr is ↦ inr is ]

pub key_kept : (name : List ℕ) (before : List Line) (line : Line) → IsNoGroup line → HasKey name before → HasKey name (before ++ line ∷ [])
key_kept name [] line plain h = absurd h
key_kept name (x ∷ before) line plain (inl is) = inl (is.0, no_group_kept before line plain is.1)
key_kept name (x ∷ before) line plain (inr h) = inr (key_kept name before line plain h)

pub key_last : (name : List ℕ) (before : List Line) (line : Line) → IsKeyLine name line → HasKey name (before ++ line ∷ [])
key_last name [] line is = inl (is, λ group h. h)
key_last name (x ∷ before) line is = inr (key_last name before line is)

-- no key stands behind a group that has just begun
pub no_key_yet : (name group : List ℕ) (before : List Line) → HasKey name (before ++ Group group ∷ []) → ⊥
no_key_yet name group [] (inl is) = is.0
no_key_yet name group [] (inr h) = h
no_key_yet name group (x ∷ before) (inl is) = is.1 group (group_last group before (Group group) refl)
no_key_yet name group (x ∷ before) (inr h) = no_key_yet name group before h

pub go_on : (front before : List Line) (line : Line) → GoOn front before → MayFollow (front ++ before) line → GoOn front (before ++ line ∷ [])
go_on front [] line g may = (subst (λ f. MayFollow f line) (append-nil front) may, tt)
go_on front (x ∷ before) line g may = (g.0, go_on (front ++ x ∷ []) before line g.1 (subst (λ f. MayFollow f line) (sym (append_assoc front (x ∷ []) before)) may))

pub group_behind-append : (group : List ℕ) (before behind : List Line) → group_behind group (before ++ behind) ≡ group_behind (group_behind group before) behind
unfolding group_behind
group_behind-append group [] behind = refl
group_behind-append group (Blank ∷ before) behind = group_behind-append group before behind
group_behind-append group (Comment text ∷ before) behind = group_behind-append group before behind
group_behind-append group (Group name ∷ before) behind = group_behind-append name before behind
group_behind-append group (Key key value ∷ before) behind = group_behind-append group before behind

pub entries_in-append : (group : List ℕ) (before behind : List Line) → entries_in group (before ++ behind) ≡ entries_in group before ++ entries_in (group_behind group before) behind
unfolding group_behind entries_in
entries_in-append group [] behind = refl
entries_in-append group (Blank ∷ before) behind = entries_in-append group before behind
entries_in-append group (Comment text ∷ before) behind = entries_in-append group before behind
entries_in-append group (Group name ∷ before) behind = entries_in-append name before behind
entries_in-append group (Key key value ∷ before) behind = ap (λ e. record { group = group; key = key; value = value } ∷ e) (entries_in-append group before behind)
