-- Where nothing was removed, what is said but for what was is what is said with no exception, both ways.
use Rattle.std.proofs.Common.{◌≡◌, ◌↔◌, ◌+◌, ℕ, refl, sym, ◌∙◌, ap, subst, List, [], ◌∷◌, ◌++◌, drop, take, length, slice_index_or, Option}
use Rattle.std.specs.List.{AllByRecursion, flat_map}
use Rattle.std.proofs.lemmas.List.{get_or_default}
use Rattle.std.proofs.lemmas.List.Concat.{flat_map-cons}
use Rattle.std.proofs.lemmas.List.Elements.{All-drop, All-take, recursion_from_All}
use Rattle.ost_types.specs.declared.limits.Limits.{Limits}
use Rattle.ost_types.specs.declared.object.Kind.TheVariants.{Commit}
use Rattle.ost_types.specs.declared.object.ObjName.{ObjName}
use Rattle.fs_trait.specs.View.{View}
use Rattle.repo_model.specs.Trees.{name_of}
use Rattle.rely_guarantee.specs.declared.books.Entry.{Entry}
use Rattle.rely_guarantee.specs.declared.books.Pending.{Pending}
use Rattle.rely_guarantee.specs.declared.event.Event.{Event}
use Rattle.rely_guarantee.specs.declared.event.Event.TheVariants.{SetRef, DropRef, Pruned, SetDeployments}
use Rattle.rely_guarantee.specs.Books.{Books}
use Rattle.rely_guarantee.specs.Lasting.{StaysFinished}
use Rattle.rely_guarantee.specs.State.{SystemState}
use Rattle.rely_guarantee.proofs.Lasting.{none_out}
use Rattle.command.specs.ChangeLaws.{Founds}
use Rattle.command.specs.Meaning.{Meaning}
use Rattle.command.specs.Since.{begun_in}
use Rattle.lane_system.specs.declared.lane.Lane.{Lane}
use Rattle.lane_system.specs.Founded.{RefsNameDurableCommitsIn, ArePresentIn, IsOut, SetsFinished}
use Rattle.lane_system.specs.Lasting.{AreKeptIn}
use Rattle.lane_system.specs.Removals.{gone_since, removed_by, removed_in}
use Rattle.lane_system.specs.Replies.{IfAnswer}
use Rattle.lane_system.specs.States.{state_after}
use Rattle.lane_system.specs.Staying.{AreStayingIn}
use Rattle.lane_system.specs.Unremoved.{AllRefsNameDurableCommits, AllAreKept, AllArePresent, AllAreStaying, AreUnpruned}
use Rattle.lane_system.proofs.Preserving.{set_lasts}

-- what entries that removed nothing removed
flat_none : (entries : List Entry) → AllByRecursion (λ e. removed_by e ≡ []) entries → flat_map removed_by entries ≡ []
flat_none [] all = refl
flat_none (e ∷ entries) all = flat_map-cons removed_by e entries ∙ ap (λ (l : List ObjName). l ++ flat_map removed_by entries) all.0 ∙ flat_none entries all.1

abbrev RemovesNothing : Entry → Type 0
RemovesNothing e = removed_by e ≡ []

pub none_between : (entries : List Entry) (from to : ℕ) → AreUnpruned entries → removed_in entries from to ≡ []
none_between entries from to none =
    let some = drop from (take to entries) in
    flat_none some (recursion_from_All RemovesNothing some (All-drop RemovesNothing from (take to entries) (All-take RemovesNothing to entries (λ k d lt. none k (slice_index_or entries k d) (lt, get_or_default entries k (slice_index_or entries k d) d lt)))))

pub none_gone : (entries : List Entry) (from : ℕ) → AreUnpruned entries → gone_since entries [] from ≡ []
none_gone entries from none = ap (λ (l : List ObjName). l ++ []) (none_between entries from (length entries) none)

founds_of : (v : View) (e : Event) → SetsFinished [] v e → Founds v e
founds_of v (SetRef name seen commit) is = is commit refl (none_out (name_of Commit commit))
founds_of v (DropRef name seen) is = tt
founds_of v (Pruned depth roots held removed) is = tt
founds_of v (SetDeployments change list) is = tt

module _ {T W A : Type 0} (m : Meaning W A) (lanes : List (Lane T W A)) (entries : List Entry) (none : AreUnpruned entries) where
  gone : (k : ℕ) → gone_since entries [] k ≡ []
  gone k = none_gone entries k none

  pub all_kept : (was : ℕ → View → Type 0) (opening v : View) (limits : Limits) → AreKeptIn m was opening limits lanes entries [] v ↔ AllAreKept m was opening limits lanes entries v
  all_kept was opening v limits = (
    λ is. record {
      right = is.right;
      each = λ k e c at of. (let x = is.each k e c at of in
          let since = begun_in limits x.start in
          record {
            start = x.start;
            makes = x.makes;
            now = subst (λ (out : List ObjName). m.keeps since opening out c v) (gone (k + 1)) x.now;
            since = λ t d le left. subst (λ (out : List ObjName). m.keeps_on since opening out c d) (gone (k + 1)) (x.since t d le left);
          });
    },
    λ is. record {
      right = is.right;
      each = λ k e c at of. (let x = is.each k e c at of in
          let since = begun_in limits x.start in
          record {
            start = x.start;
            makes = x.makes;
            now = subst (λ (out : List ObjName). m.keeps since opening out c v) (sym (gone (k + 1))) x.now;
            since = λ t d le left. subst (λ (out : List ObjName). m.keeps_on since opening out c d) (sym (gone (k + 1))) (x.since t d le left);
          });
    },
  )

  not_removed : (from to : ℕ) (commit : List ℕ) → ¬ (IsOut (removed_in entries from to) commit)
  not_removed from to commit is = none_out (name_of Commit commit) (subst (λ (out : List ObjName). IsOut out commit) (none_between entries from to none) is)

  pub all_present : (Finished : List ℕ → Type 0) → ArePresentIn m Finished entries lanes ↔ AllArePresent m Finished entries lanes
  all_present Finished = (
    λ is. record {
      finished = λ a n r commit to lacks. is.finished a n r commit to lacks (not_removed 0 r.place commit);
      set = λ a n r commit to lacks k e at lt. is.set a n r commit to lacks k e at lt (not_removed (k + 1) r.place commit);
    },
    λ is. record {
      finished = λ a n r commit to lacks still. is.finished a n r commit to lacks;
      set = λ a n r commit to lacks k e at lt still. is.set a n r commit to lacks k e at lt;
    },
  )

  not_gone : (k : ℕ) (commit : List ℕ) → ¬ (IsOut (gone_since entries [] k) commit)
  not_gone k commit is = none_out (name_of Commit commit) (subst (λ (out : List ObjName). IsOut out commit) (gone k) is)

  pub all_founded : (opening v : View) (pending : Option Pending) → RefsNameDurableCommitsIn m opening entries [] pending lanes v ↔ AllRefsNameDurableCommits m opening entries pending lanes v
  all_founded opening v pending = (
    λ is. record {
      stays = λ commit. is.stays commit (not_gone 0 commit);
      each = λ k e at. founds_of v e.event (λ commit sets still. is.each k e at commit sets (not_gone (k + 1) commit));
      shown = λ p at. founds_of v p.event (is.shown p at);
      present = (all_present (StaysFinished opening)).0 is.present;
    },
    λ is. record {
      stays = λ commit still. is.stays commit;
      each = λ k e at commit sets still. set_lasts v commit e.event (is.each k e at) sets;
      shown = λ p at commit sets still. set_lasts v commit p.event (is.shown p at) sets;
      present = (all_present (StaysFinished opening)).1 is.present;
    },
  )

  pub all_staying : (v : View) (b : Books) (limits : Limits) (begin : SystemState) → AreStayingIn m limits begin entries [] lanes v b ↔ AllAreStaying m limits begin entries lanes v b
  all_staying v b limits begin = (
    λ is a n r c to of. subst (λ (out : List ObjName). IfAnswer (λ x. m.stays (begun_in limits (state_after begin entries r.start)) out x c v b) r.answer) (gone r.place) (is a n r c to of),
    λ is a n r c to of. subst (λ (out : List ObjName). IfAnswer (λ x. m.stays (begun_in limits (state_after begin entries r.start)) out x c v b) r.answer) (sym (gone r.place)) (is a n r c to of),
  )
