-- What a step of a change is to the system, by its phase.
use Rattle.std.proofs.Common.{◌≡◌, ◌≤◌, ◌<◌, ℕ, true, refl, sym, subst, arith, List, Option, Some, None, Result, ◌+◌}
use Rattle.fs_trait.specs.declared.types.FsErr.{FsErr}
use Rattle.fs_trait.specs.Effect.{Next}
use Rattle.staged_file.specs.declared.phase.Phase as staged
use Rattle.staged_file.specs.declared.phase.Phase.TheVariants as file
use Rattle.staged_file.specs.Staged as staging
use Rattle.ref_store.specs.declared.phase.Phase.{Phase}
use Rattle.ref_store.specs.declared.phase.Phase.TheVariants as phase
use Rattle.ref_store.specs.declared.progress.Progress.{Progress}
use Rattle.ref_store.specs.declared.progress.Progress.TheVariants as progress
use Rattle.ref_store.specs.Change.{Change, Follows, Takes, is_owed, owed_after}
use Rattle.rely_guarantee.specs.declared.event.Event.{Event}
use Rattle.rely_guarantee.specs.Laws.{Kind, Quiet, Store, Take, Claim, Publish, Published, Remove, MakeDurable, IsPublish, IsMakeDurable, IsLastly, KeepsRoom, owed_by}
use Rattle.ref_command.specs.declared.look_up.Found.{Found}
use Rattle.ref_command.specs.Commands.{found_kind}
use Rattle.ref_command.specs.Kinds.{kind_at, kind_in, put_kind, turn_wants}

pub kind_shows : (p : Progress) (d e : Event) → kind_at p d ≡ Publish e → d ≡ e
kind_shows progress.Showing d e is = cc
kind_shows progress.Looking d e is = let n : Take turn_wants ≡ Publish e = is in cc
kind_shows progress.Preparing d e is = let n : Quiet ≡ Publish e = is in cc
kind_shows progress.Settling d e is = let n : MakeDurable d ≡ Publish e = is in cc
kind_shows progress.Ended d e is = let n : Quiet ≡ Publish e = is in cc

put_ticks : (ph : staged.Phase) (e : Event) (a b : ℕ) → IsMakeDurable (put_kind ph e) → staging.Takes ph a b → Next a b
put_ticks file.SyncFolder e a b settles takes = takes
put_ticks file.Clear e a b settles takes = absurd settles
put_ticks file.Create e a b settles takes = absurd settles
put_ticks file.Append e a b settles takes = absurd settles
put_ticks file.SyncFile e a b settles takes = absurd settles
put_ticks file.Look e a b settles takes = absurd settles
put_ticks file.Replace e a b settles takes = absurd settles
put_ticks file.Ended e a b settles takes = absurd settles

-- the sync that settles ticks
pub settle_ticks : (ph : Phase) (e : Event) (a b : ℕ) → IsMakeDurable (kind_in ph e) → Takes ph a b → Next a b
settle_ticks phase.Look e a b settles takes = absurd settles
settle_ticks (phase.Clear c) e a b settles takes = absurd settles
settle_ticks (phase.Walk y) e a b settles takes = absurd settles
settle_ticks (phase.Put g) e a b settles takes = put_ticks g.phase e a b settles takes
settle_ticks phase.Unlink e a b settles takes = absurd settles
settle_ticks phase.SyncFolder e a b settles takes = takes
settle_ticks phase.Ended e a b settles takes = absurd settles

no_owed : {P : Type 0} → 0 < 0 → P
no_owed less = absurd (omega (arith, less))

put_owed : (ph : staged.Phase) (e : Event) → 0 < owed_by (put_kind ph e) → staging.is_owed ph ≡ true
put_owed file.SyncFolder e some = refl
put_owed file.Clear e some = no_owed some
put_owed file.Create e some = no_owed some
put_owed file.Append e some = no_owed some
put_owed file.SyncFile e some = no_owed some
put_owed file.Look e some = no_owed some
put_owed file.Replace e some = no_owed some
put_owed file.Ended e some = no_owed some

pub owed_is : (ph : Phase) (e : Event) → 0 < owed_by (kind_in ph e) → is_owed ph ≡ true
owed_is phase.Look e some = no_owed some
owed_is (phase.Clear c) e some = no_owed some
owed_is (phase.Walk y) e some = no_owed some
owed_is (phase.Put g) e some = put_owed g.phase e some
owed_is phase.Unlink e some = no_owed some
owed_is phase.SyncFolder e some = refl
owed_is phase.Ended e some = no_owed some

put_after : (ph : staged.Phase) (s : staging.Staged) (d e : Event) → IsPublish (put_kind ph d) → owed_by (put_kind (staging.next_in ph s).phase e) ≤ staging.owed_after ph
put_after file.Replace s d e shows = omega arith
put_after file.Clear s d e shows = absurd shows
put_after file.Create s d e shows = absurd shows
put_after file.Append s d e shows = absurd shows
put_after file.SyncFile s d e shows = absurd shows
put_after file.Look s d e shows = absurd shows
put_after file.SyncFolder s d e shows = absurd shows
put_after file.Ended s d e shows = absurd shows

-- the step that publishes the change leaves room for what is owed then
pub shows_owed : (t : Change) (old new : Phase) (d e : Event) → Follows old new t → IsPublish (kind_in old d) → owed_by (kind_in new e) ≤ owed_after old
shows_owed t phase.Look new d e follows shows = absurd shows
shows_owed t (phase.Clear c) new d e follows shows = absurd shows
shows_owed t (phase.Walk y) new d e follows shows = absurd shows
shows_owed t (phase.Put g) (phase.Put h) d e follows shows = subst (λ (x : staging.Staged). owed_by (put_kind x.phase e) ≤ staging.owed_after g.phase) (sym follows.0) (put_after g.phase g d e shows)
shows_owed t (phase.Put g) phase.Look d e follows shows = absurd follows
shows_owed t (phase.Put g) (phase.Clear c) d e follows shows = absurd follows
shows_owed t (phase.Put g) (phase.Walk y) d e follows shows = absurd follows
shows_owed t (phase.Put g) phase.Unlink d e follows shows = absurd follows
shows_owed t (phase.Put g) phase.SyncFolder d e follows shows = absurd follows
shows_owed t (phase.Put g) phase.Ended d e follows shows = absurd follows
shows_owed t phase.Unlink phase.SyncFolder d e follows shows = omega arith
shows_owed t phase.Unlink phase.Look d e follows shows = absurd follows
shows_owed t phase.Unlink (phase.Clear c) d e follows shows = absurd follows
shows_owed t phase.Unlink (phase.Walk y) d e follows shows = absurd follows
shows_owed t phase.Unlink (phase.Put h) d e follows shows = absurd follows
shows_owed t phase.Unlink phase.Unlink d e follows shows = absurd follows
shows_owed t phase.Unlink phase.Ended d e follows shows = absurd follows
shows_owed t phase.SyncFolder new d e follows shows = absurd shows
shows_owed t phase.Ended new d e follows shows = absurd shows

-- and isn't the last
pub shows_lastly : {P : Type 0} (k : Kind) → IsPublish k → IsLastly k → P
shows_lastly (Publish e) shows last = absurd last
shows_lastly Quiet shows last = absurd shows
shows_lastly Store shows last = absurd shows
shows_lastly (Take wants) shows last = absurd shows
shows_lastly (Claim name) shows last = absurd shows
shows_lastly (Published e owed) shows last = absurd shows
shows_lastly (Remove e owed) shows last = absurd shows
shows_lastly (MakeDurable e) shows last = absurd shows

-- a step that shows nothing and owes nothing takes the room of at most one call
pub found_room : {T : Type 0} (found : Option Found) (commit : List ℕ) (next : Kind) (before now : ℕ) (r : Result T FsErr) → before ≤ now + 1 → KeepsRoom (found_kind found commit) next before now r
found_room None commit next before now r one = record { at_most_one = one; enough = λ some room is. no_owed some; ready = λ shows. absurd shows }
found_room (Some found) commit next before now r one = record { at_most_one = one; enough = λ some room is. no_owed some; ready = λ shows. absurd shows }
