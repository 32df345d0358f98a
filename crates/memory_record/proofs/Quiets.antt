-- A path that no change names is absent, and never had a value.
use Rattle.std.proofs.Common.{◌≡◌, ◌≢◌, ◌⊎◌, inl, inr, ℕ, zero, suc, ◌<◌, Bool, true, false, List, [], ◌∷◌, length, get_or, Contains, refl, sym, ◌∙◌, ap, subst, arith}
use Rattle.std.specs.List.{flat_map}
use Rattle.std.proofs.lemmas.List.Elements.{Contains-append_left, Contains-append_right, Contains-append_cases}
use Rattle.ost_types.specs.Path.{Path, is_in}
use Rattle.ost_types.proofs.Paths.{same_or_apart}
use Rattle.fs_trait.specs.declared.types.Value.TheVariants.{Absent}
use Rattle.fs_trait.specs.View.{View}
use Rattle.memory_record.specs.declared.change.Change.{Change}
use Rattle.memory_record.specs.declared.change.Change.TheVariants.{Nothing, Name, Create, Move, Extend, SyncFile, SyncFolder, SyncAll, Crash}
use Rattle.memory_record.specs.Changes.{apply, after, view_of, empty_view}
use Rattle.memory_record.specs.Traces.{below_root, named_by}
use Rattle.memory_record.proofs.Records.{nothing, name_apart, create_apart, move_apart, extend, sync_file, sync_folder, sync_all, crash, empty_at-below}
use Rattle.memory_record.proofs.Olders.{older_nothing, older_name-apart, older_create-apart, older_move-apart, older_extend, older_sync_file, older_sync_folder-in, older_sync_folder-out, older_sync_all, older_crash, empty_older-at}
use Rattle.memory_record.proofs.Records.{view_of-none}
use Rattle.memory_record.proofs.Choices.{Contains-first}

abbrev pub IsQuiet : View → Path → Type 0
IsQuiet v q = (v.now.at q ≡ Absent) × (v.older q ≡ [])

listed : (p : Path) → p ≢ [] → Contains (below_root p) p
listed [] below = absurd (below refl)
listed (x ∷ p) below = Contains-first (x ∷ p) []

not_listed : (p q : Path) → q ≢ [] → (Contains (below_root p) q → ⊥) → p ≢ q
not_listed p q below none e = none (subst (Contains (below_root p)) e (listed p (subst (λ r. r ≢ []) (sym e) below)))

still_quiet : (c : Change) (v : View) (q : Path) → q ≢ [] → (Contains (named_by c) q → ⊥) → IsQuiet v q → IsQuiet (apply c v) q
still_quiet Nothing v q below none quiet = (nothing v q ∙ quiet.0, older_nothing v q ∙ quiet.1)
still_quiet (Name p x) v q below none quiet = let e = not_listed p q below none in (name_apart v q p x e ∙ quiet.0, older_name-apart v q p x e ∙ quiet.1)
still_quiet (Create p m n) v q below none quiet = let e = not_listed p q below none in (create_apart v q p m n e ∙ quiet.0, older_create-apart v q p m n e ∙ quiet.1)
still_quiet (Move from to) v q below none quiet =
    let e = not_listed from q below (λ has. none (Contains-append_left (below_root from) (below_root to) q has)) in
    let f = not_listed to q below (λ has. none (Contains-append_right (below_root from) (below_root to) q has)) in
    (move_apart v q from to e f ∙ quiet.0, older_move-apart v q from to e f ∙ quiet.1)
still_quiet (Extend n b) v q below none quiet = (extend v q n b ∙ quiet.0, older_extend v q n b ∙ quiet.1)
still_quiet (SyncFile n) v q below none quiet = (sync_file v q n ∙ quiet.0, older_sync_file v q n ∙ quiet.1)
still_quiet (SyncFolder f) v q below none quiet = (sync_folder v q f ∙ quiet.0, go (is_in f q) refl)
  where
    go : (b : Bool) → is_in f q ≡ b → (apply (SyncFolder f) v).older q ≡ []
    go true e = older_sync_folder-in v q f e
    go false e = older_sync_folder-out v q f e ∙ quiet.1
still_quiet SyncAll v q below none quiet = (sync_all v q ∙ quiet.0, older_sync_all v q)
still_quiet (Crash k) v q below none quiet = (crash v q k ∙ quiet.0, older_crash v q k)

after-quiet : (v : View) (cs : List Change) (q : Path) → q ≢ [] → (Contains (flat_map named_by cs) q → ⊥) → IsQuiet v q → IsQuiet (after v cs) q
unfolding after
after-quiet v [] q below none quiet = quiet
after-quiet v (c ∷ cs) q below none quiet =
    after-quiet (apply c v) cs q below (λ has. none (Contains-append_right (named_by c) (flat_map named_by cs) q has))
    (still_quiet c v q below (λ has. none (Contains-append_left (named_by c) (flat_map named_by cs) q has)) quiet)

pub quiet : (cs : List Change) (q : Path) → q ≢ [] → (Contains (flat_map named_by cs) q → ⊥) → IsQuiet (view_of cs) q
unfolding view_of
quiet cs q below none = after-quiet empty_view cs q below none (empty_at-below q below, sym (ap (λ (v : View). v.older q) view_of-none) ∙ empty_older-at q)

-- the root isn't listed
below_root-below : (p q : Path) → Contains (below_root p) q → q ≢ []
below_root-below [] q (k, less, is) = absurd (omega (arith, less))
below_root-below (x ∷ p) q (zero, less, is) = λ e. let n : x ∷ p ≡ [] = is ∙ e in cc
below_root-below (x ∷ p) q (suc k, less, is) = absurd (omega (arith, less))

named_by-below : (c : Change) (q : Path) → Contains (named_by c) q → q ≢ []
named_by-below (Name p x) q has = below_root-below p q has
named_by-below (Create p m n) q has = below_root-below p q has
named_by-below (Move from to) q has = go (Contains-append_cases (below_root from) (below_root to) q has)
  where
    go : Contains (below_root from) q ⊎ Contains (below_root to) q → q ≢ []
    go (inl h) = below_root-below from q h
    go (inr h) = below_root-below to q h
named_by-below Nothing q has = let less = has.1 in absurd (omega (arith, less))
named_by-below (Extend n b) q has = let less = has.1 in absurd (omega (arith, less))
named_by-below (SyncFile n) q has = let less = has.1 in absurd (omega (arith, less))
named_by-below (SyncFolder f) q has = let less = has.1 in absurd (omega (arith, less))
named_by-below SyncAll q has = let less = has.1 in absurd (omega (arith, less))
named_by-below (Crash k) q has = let less = has.1 in absurd (omega (arith, less))

pub named-below : (cs : List Change) (q : Path) → Contains (flat_map named_by cs) q → q ≢ []
named-below [] q has = let less = has.1 in absurd (omega (arith, less))
named-below (c ∷ cs) q has = go (Contains-append_cases (named_by c) (flat_map named_by cs) q has) (λ h. named-below cs q h)
  where
    go : Contains (named_by c) q ⊎ Contains (flat_map named_by cs) q → (Contains (flat_map named_by cs) q → q ≢ []) → q ≢ []
    go (inl h) later = named_by-below c q h
    go (inr h) later = later h

-- a path is listed or not
pub member : (ps : List Path) (q : Path) → Contains ps q ⊎ (Contains ps q → ⊥)
member [] q = inr (λ has. let less = has.1 in absurd (omega (arith, less)))
member (p ∷ ps) q = go (same_or_apart p q) (member ps q)
  where
    shift : (k : ℕ) → k < length (p ∷ ps) → get_or (p ∷ ps) k q ≡ q → p ≢ q → Contains ps q
    shift zero less is other = absurd (other is)
    shift (suc k) less is other = (k, omega (arith, less), is)

    go : (p ≡ q) ⊎ (p ≢ q) → Contains ps q ⊎ (Contains ps q → ⊥) → Contains (p ∷ ps) q ⊎ (Contains (p ∷ ps) q → ⊥)
    go (inl e) any = inl (zero, omega arith, e)
    go (inr other) (inl has) = inl (suc has.0, (let h = has.1 in omega (arith, h)), has.2)
    go (inr other) (inr none) = inr (λ has. none (shift has.0 has.1 has.2 other))

pub below_root-some : (p : Path) → p ≢ [] → below_root p ≡ p ∷ []
below_root-some [] below = absurd (below refl)
below_root-some (x ∷ p) below = refl

pub below_root-none : (p : Path) → p ≡ [] → below_root p ≡ []
below_root-none p e = ap below_root e
