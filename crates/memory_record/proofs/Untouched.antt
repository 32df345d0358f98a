-- A path to which no change gives a value is absent.
use Rattle.std.proofs.Common.{◌≡◌, ◌≢◌, ◌⊎◌, inl, inr, List, [], ◌∷◌, ◌∙◌, ap, Some}
use Rattle.ost_types.specs.Path.{Path}
use Rattle.ost_types.proofs.Paths.{same_or_apart}
use Rattle.fs_trait.specs.declared.types.Value.TheVariants.{Absent}
use Rattle.fs_trait.specs.View.{View}
use Rattle.memory_record.specs.declared.change.Change.{Change}
use Rattle.memory_record.specs.declared.change.Change.TheVariants.{Nothing, Name, Create, Move, Extend, SyncFile, SyncFolder, SyncAll, Crash}
use Rattle.memory_record.specs.Changes.{apply, after, view_of, empty_view}
use Rattle.memory_record.specs.Seen.{target_of}
use Rattle.memory_record.proofs.Records.{nothing, name_apart, create_apart, move_from, move_apart, extend, sync_file, sync_folder, sync_all, crash, empty_at-below}

pub still_absent : (c : Change) (v : View) (q : Path) → target_of c ≢ Some q → v.now.at q ≡ Absent → (apply c v).now.at q ≡ Absent
still_absent Nothing v q other is = nothing v q ∙ is
still_absent (Name p x) v q other is = name_apart v q p x (λ e. other (ap Some e)) ∙ is
still_absent (Create p m n) v q other is = create_apart v q p m n (λ e. other (ap Some e)) ∙ is
still_absent (Move from to) v q other is = go (same_or_apart from q)
  where
    go : (from ≡ q) ⊎ (from ≢ q) → (apply (Move from to) v).now.at q ≡ Absent
    go (inl e) = move_from v q from to e
    go (inr apart) = move_apart v q from to apart (λ e. other (ap Some e)) ∙ is
still_absent (Extend n b) v q other is = extend v q n b ∙ is
still_absent (SyncFile n) v q other is = sync_file v q n ∙ is
still_absent (SyncFolder f) v q other is = sync_folder v q f ∙ is
still_absent SyncAll v q other is = sync_all v q ∙ is
still_absent (Crash k) v q other is = crash v q k ∙ is

abbrev pub Untouched : Path → List Change → Type 0
Untouched q [] = Unit {0}
Untouched q (c ∷ cs) = (target_of c ≢ Some q) × Untouched q cs

after-absent : (v : View) (cs : List Change) (q : Path) → v.now.at q ≡ Absent → Untouched q cs → (after v cs).now.at q ≡ Absent
unfolding after
after-absent v [] q is untouched = is
after-absent v (c ∷ cs) q is untouched = after-absent (apply c v) cs q (still_absent c v q untouched.0 is) untouched.1

pub untouched-absent : (cs : List Change) (q : Path) → q ≢ [] → Untouched q cs → (view_of cs).now.at q ≡ Absent
unfolding view_of
untouched-absent cs q below untouched = after-absent empty_view cs q (empty_at-below q below) untouched
