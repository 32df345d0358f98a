-- What was removed: over an act the lists only grow.
use Rattle.std.proofs.Common.{◌≡◌, ◌⊎◌, inl, inr, ⊎_elim, ◌<◌, ◌≤◌, ℕ, Bool, nat_lt, true, false, refl, sym, ◌∙◌, ap, subst, arith, List, [], ◌∷◌, ◌++◌, Contains, drop, take, length, Option, None, IsSome}
use Rattle.std.specs.List.{flat_map}
use Rattle.std.proofs.lemmas.List.{drop-append-le, drop_all, drop_at, take-append-le, take_all}
use Rattle.std.proofs.lemmas.List.Concat.{flat_map-append}
use Rattle.std.proofs.lemmas.List.Elements.{All-contains, All-contains_itself, All-take, Contains-append_cases, Contains-append_left, Contains-append_right}
use Rattle.ost_types.specs.declared.object.ObjName.{ObjName}
use Rattle.rely_guarantee.specs.declared.books.Books as rust
use Rattle.rely_guarantee.specs.declared.books.Entry.{Entry}
use Rattle.rely_guarantee.specs.Books.{books_of}
use Rattle.rely_guarantee.proofs.Lasting.{none_out}
use Rattle.rely_guarantee.proofs.Locking.{doomed_held}
use Rattle.command.specs.Removed.{AreAmong}
use Rattle.lane_system.specs.Removals.{gone_since, removed_by, removed_in, swept_in}
use Rattle.lane_system.proofs.Places.{fewer, not_fewer}

within_or : (k n : ℕ) → (k ≤ n) ⊎ (n < k)
within_or k n = go (nat_lt n k) refl
  where
    go : (t : Bool) → t ≡ nat_lt n k → (k ≤ n) ⊎ (n < k)
    go true is = inr (fewer n k is)
    go false is = inl (not_fewer n k is)

pub none_among : (more : List ObjName) → AreAmong [] more
none_among more o has = absurd (none_out o has)

-- a list that contains nothing
pub none_of : (xs : List ObjName) → ((o : ObjName) → ¬ (Contains xs o)) → xs ≡ []
none_of [] none = refl
none_of (x ∷ xs) none = absurd (none x (0, omega arith, refl))

-- ---- the history grows

pub removed_all : (entries : List Entry) (k : ℕ) → removed_in entries k (length entries) ≡ flat_map removed_by (drop k entries)
removed_all entries k = ap (λ (h : List Entry). flat_map removed_by (drop k h)) (take_all (length entries) entries (omega arith))

-- what was removed before a place stays so
pub removed_before : (entries more : List Entry) (from to : ℕ) → to ≤ length entries → removed_in (entries ++ more) from to ≡ removed_in entries from to
removed_before entries more from to le = ap (λ (h : List Entry). flat_map removed_by (drop from h)) (take-append-le to entries more le)

-- and takes nothing from what comes behind it
pub gone_behind : (before after : List Entry) (swept : List ObjName) → gone_since (before ++ after) swept (length before) ≡ gone_since after swept 0
gone_behind before after swept = ap (λ (l : List ObjName). l ++ swept)
    (removed_all (before ++ after) (length before) ∙ ap (flat_map removed_by) (drop_at before after (length before) refl) ∙ sym (removed_all after 0))

module _ (entries more : List Entry) (k : ℕ) where
  split : k ≤ length entries → flat_map removed_by (drop k (entries ++ more)) ≡ flat_map removed_by (drop k entries) ++ flat_map removed_by more
  split le = ap (flat_map removed_by) (drop-append-le k entries more le) ∙ flat_map-append removed_by (drop k entries) more

  front_removed : AreAmong (flat_map removed_by (drop k entries)) (flat_map removed_by (drop k (entries ++ more)))
  front_removed o has = ⊎_elim
      (λ le. subst (λ (l : List ObjName). Contains l o) (sym (split le)) (Contains-append_left (flat_map removed_by (drop k entries)) (flat_map removed_by more) o has))
      (λ past. absurd (none_out o (subst (λ (h : List Entry). Contains (flat_map removed_by h) o) (drop_all k entries (omega (arith, past))) has)))
      (within_or k (length entries))

  more_removed : k ≤ length entries → AreAmong (flat_map removed_by more) (flat_map removed_by (drop k (entries ++ more)))
  more_removed le o has = subst (λ (l : List ObjName). Contains l o) (sym (split le)) (Contains-append_right (flat_map removed_by (drop k entries)) (flat_map removed_by more) o has)

  -- What was gone is so behind an act, where what was removed without an entry is told by an entry now, or goes on to be so.
  pub gone_on : (swept swept' : List ObjName) → AreAmong swept (flat_map removed_by more ++ swept') → k ≤ length entries → AreAmong (gone_since entries swept k) (gone_since (entries ++ more) swept' k)
  gone_on swept swept' still le o has = ⊎_elim
      (λ was. entered (front_removed o (subst (λ (l : List ObjName). Contains l o) (removed_all entries k) was)))
      (λ going. ⊎_elim (λ now. entered (more_removed le o now)) (λ goes. Contains-append_right (removed_in (entries ++ more) k (length (entries ++ more))) swept' o goes) (Contains-append_cases (flat_map removed_by more) swept' o (still o going)))
      (Contains-append_cases (removed_in entries k (length entries)) swept o has)
    where
      entered : Contains (flat_map removed_by (drop k (entries ++ more))) o → Contains (gone_since (entries ++ more) swept' k) o
      entered is = Contains-append_left (removed_in (entries ++ more) k (length (entries ++ more))) swept' o (subst (λ (l : List ObjName). Contains l o) (sym (removed_all (entries ++ more) k)) is)

-- ---- where nothing is to be removed

pub taken : (n : ℕ) (xs : List ObjName) (o : ObjName) → Contains (take n xs) o → Contains xs o
taken n xs o = All-contains (Contains xs) (take n xs) o (All-take (Contains xs) n xs (All-contains_itself xs))

pub undoomed : (b : rust.Books) → b.exclusive ≡ None → (o : ObjName) → ¬ (Contains (books_of b).doomed o)
undoomed b free o has = (let held : false ≡ true = subst (λ (l : Option ℕ). IsSome l) free (doomed_held b.exclusive b.pending o has) in cc)

pub none_swept : (b : rust.Books) → b.exclusive ≡ None → swept_in b ≡ []
none_swept b free = none_of (swept_in b) (λ o has. undoomed b free o (taken b.gone (books_of b).doomed o has))
