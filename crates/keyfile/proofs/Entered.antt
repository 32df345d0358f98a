-- What is read of sound lines are entries that can be written again.
use Rattle.std.proofs.Common.{◌≢◌, ◌⊎◌, inl, inr, ℕ, List, [], ◌∷◌, ◌++◌, refl, sym, subst}
use Rattle.keyfile.specs.declared.entry.KeyLine.{KeyLine}
use Rattle.keyfile.specs.Line.{Line, IsGroupName}
use Rattle.keyfile.specs.Line.Line.{Blank, Comment, Group, Key}
use Rattle.keyfile.specs.Faults.{HasGroup, HasNoGroup, HasKey, GoOn, AreSound}
use Rattle.keyfile.specs.Entries.{entries_in, entries_of, HasNone, StaysOrEnds, HasNoKey, AreEntries}
use Rattle.keyfile.proofs.Behind.{group_behind_it, group_last, key_kept, key_last, no_group_kept}

ends : (group : List ℕ) (entries : List KeyLine) → HasNone group entries → StaysOrEnds group entries
ends group [] none = tt
ends group (e ∷ entries) none = inr none

no_key_of : (group key : List ℕ) (entries : List KeyLine) → HasNone group entries → HasNoKey group key entries
no_key_of group key [] none = tt
no_key_of group key (e ∷ entries) none = (λ same. absurd (none.0 same), no_key_of group key entries none.1)

-- a group that was ended doesn't come again
none_again : (group now : List ℕ) (before lines : List Line) → HasGroup group before → now ≢ group → GoOn before lines → HasNone group (entries_in now lines)
unfolding entries_in
none_again group now before [] had other on = tt
none_again group now before (Blank ∷ lines) had other on = none_again group now (before ++ Blank ∷ []) lines (group_behind_it group before Blank had) other on.1
none_again group now before (Comment text ∷ lines) had other on = none_again group now (before ++ Comment text ∷ []) lines (group_behind_it group before (Comment text) had) other on.1
none_again group now before (Group name ∷ lines) had other on =
    none_again group name (before ++ Group name ∷ []) lines (group_behind_it group before (Group name) had) (λ same. on.0.new (subst (λ g. HasGroup g before) (sym same) had)) on.1
none_again group now before (Key key value ∷ lines) had other on = (other, none_again group now (before ++ Key key value ∷ []) lines (group_behind_it group before (Key key value) had) other on.1)

after_group : (group name : List ℕ) (before lines : List Line) → HasGroup group before → GoOn before (Group name ∷ lines) → HasNone group (entries_in name lines)
after_group group name before lines had on =
    none_again group name (before ++ Group name ∷ []) lines (group_behind_it group before (Group name) had) (λ same. on.0.new (subst (λ g. HasGroup g before) (sym same) had)) on.1

stays : (group : List ℕ) (before lines : List Line) → HasGroup group before → GoOn before lines → StaysOrEnds group (entries_in group lines)
unfolding entries_in
stays group before [] had on = tt
stays group before (Blank ∷ lines) had on = stays group (before ++ Blank ∷ []) lines (group_behind_it group before Blank had) on.1
stays group before (Comment text ∷ lines) had on = stays group (before ++ Comment text ∷ []) lines (group_behind_it group before (Comment text) had) on.1
stays group before (Group name ∷ lines) had on = ends group _ (after_group group name before lines had on)
stays group before (Key key value ∷ lines) had on = inl refl

no_key_again : (group key : List ℕ) (before lines : List Line) → HasGroup group before → HasKey key before → GoOn before lines → HasNoKey group key (entries_in group lines)
unfolding entries_in
no_key_again group key before [] had said on = tt
no_key_again group key before (Blank ∷ lines) had said on =
    no_key_again group key (before ++ Blank ∷ []) lines (group_behind_it group before Blank had) (key_kept key before Blank (λ name h. h) said) on.1
no_key_again group key before (Comment text ∷ lines) had said on =
    no_key_again group key (before ++ Comment text ∷ []) lines (group_behind_it group before (Comment text) had) (key_kept key before (Comment text) (λ name h. h) said) on.1
no_key_again group key before (Group name ∷ lines) had said on = no_key_of group key _ (after_group group name before lines had on)
no_key_again group key before (Key other value ∷ lines) had said on = (
  λ same is. on.0.new (subst (λ k. HasKey k before) (sym is) said),
  no_key_again group key (before ++ Key other value ∷ []) lines (group_behind_it group before (Key other value) had) (key_kept key before (Key other value) (λ name h. h) said) on.1,
)

-- no group has begun, or this is the last
abbrev InGroup : List ℕ → List Line → Type 0
InGroup group before = HasNoGroup before ⊎ (IsGroupName group × HasGroup group before)

still_in : (group : List ℕ) (before : List Line) (line : Line) → ((name : List ℕ) → ¬ (HasGroup name (line ∷ []))) → InGroup group before → InGroup group (before ++ line ∷ [])
still_in group before line plain (inl none) = inl (no_group_kept before line (λ name h. plain name (inl h)) none)
still_in group before line plain (inr there) = inr (there.0, group_behind_it group before line there.1)

in_group : (group : List ℕ) (before : List Line) → ¬ (HasNoGroup before) → InGroup group before → IsGroupName group × HasGroup group before
in_group group before some (inl none) = absurd (some none)
in_group group before some (inr there) = there

plain_line : (name : List ℕ) → ¬ (⊥ ⊎ ⊥)
plain_line name (inl h) = h
plain_line name (inr h) = h

are_entries : (group : List ℕ) (before lines : List Line) → InGroup group before → GoOn before lines → AreEntries (entries_in group lines)
unfolding entries_in
are_entries group before [] has on = tt
are_entries group before (Blank ∷ lines) has on = are_entries group (before ++ Blank ∷ []) lines (still_in group before Blank plain_line has) on.1
are_entries group before (Comment text ∷ lines) has on = are_entries group (before ++ Comment text ∷ []) lines (still_in group before (Comment text) plain_line has) on.1
are_entries group before (Group name ∷ lines) has on = are_entries name (before ++ Group name ∷ []) lines (inr (on.0.line_of, group_last name before (Group name) refl)) on.1
are_entries group before (Key key value ∷ lines) has on =
    let it = in_group group before on.0.grouped has in
    let behind = before ++ Key key value ∷ [] in
    let there = group_behind_it group before (Key key value) it.1 in (
      record { group = it.0; key = on.0.line_of.0; value = on.0.line_of.1 },
      stays group behind lines there on.1,
      no_key_again group key behind lines there (key_last key before (Key key value) refl) on.1,
      are_entries group behind lines (inr (it.0, there)) on.1,
    )

pub sound_entries : (lines : List Line) → AreSound lines → AreEntries (entries_of lines)
sound_entries lines sound = are_entries [] [] lines (inl (λ name h. h)) sound
