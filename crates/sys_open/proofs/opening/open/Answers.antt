use Rattle.std.proofs.Common.{◌∙◌, sym, subst, Err}
use Rattle.std.proofs.lemmas.Result.{err_from_is_err_and}
use Rattle.ost_types.specs.Path.{Path}
use Rattle.fs_trait.specs.View.{View, all_synced}
use Rattle.fs_trait.specs.Seen.{Always, shows}
use Rattle.fs_trait.specs.Change.{Left, Nothing, Writes}
use Rattle.rely_guarantee.specs.State.{first}
use Rattle.rely_guarantee.specs.Disks.{Logical}
use Rattle.boot_read.specs.Rows.{AreRowsOf}
use Rattle.store_check.specs.Listing.{AreAll}
use Rattle.layout_rules.specs.Checks.{IsSane}
use Rattle.sys_open.specs.declared.check.Contents.{Contents}
use Rattle.sys_open.specs.declared.opening.Findings.{Findings}
use Rattle.sys_open.specs.Damages.{HasConfig, IsGood}
use Rattle.sys_open.specs.LeftOver.{AreLeftOvers, CanGo}
use Rattle.sys_open.specs.Opening.{Answers, KeepsSince}
use Rattle.sys_open.specs.Changes.{Changes, IsArranged, Keeps}
use Rattle.sys_open.proofs.Arranging.{synced_now, synced_always}
use Rattle.sys_open.proofs.Beginning.{interrupted_answer, still_answers, interrupted_damage}
use Rattle.sys_open.proofs.Crashing.{since_keeps}
use Rattle.sys_open.proofs.Goods.{can_go_of, config_of, list_of, sane_of}
use Rattle.sys_open.proofs.Opens.{begins}
use Rattle.sys_open.proofs.Working.{one_view, works_quiet, works_then, works_weaker}
use Rattle.sys_open.proofs.opening.open.Goals as goal

pub returns-in_err-barrier-clause-told : goal.returns-in_err-barrier-clause-told
returns-in_err-barrier-clause-told g c = λ v told.
    let error = err_from_is_err_and c.from_residual.result c.from_residual.ensures.1 in
    rw (error.1, error.2) (interrupted_answer Findings c.args.limits.now v.now _ c.in_err-barrier.ensures.fails)

pub returns-in_err-barrier-clause-still : goal.returns-in_err-barrier-clause-still
returns-in_err-barrier-clause-still g c = λ v told.
    let error = err_from_is_err_and c.from_residual.result c.from_residual.ensures.1 in
    rw (error.1, error.2) (interrupted_damage Findings _ _ c.in_err-barrier.ensures.fails)

pub returns-in_err-barrier-clause-works : goal.returns-in_err-barrier-clause-works
returns-in_err-barrier-clause-works g c = λ v told. works_weaker Nothing v _ _ _ _ _ (Changes v.now) (λ p s none. absurd none) (c.barrier.ensures.works v told)

pub returns-in_err-contents-clause-told : goal.returns-in_err-contents-clause-told
returns-in_err-contents-clause-told g c = λ v told.
    let error = err_from_is_err_and c.from_residual-in_err-contents.result c.from_residual-in_err-contents.ensures.1 in
    let synced = c.in_ok-barrier.ensures.synced v told in
    rw (error.1, error.2) (still_answers Contents Findings c.args.limits.now v.now _ (subst (λ d. Answers {T = Contents} c.args.limits.now d (Err c.in_err-contents.field-0.0)) (synced_now v) (c.in_err-contents.ensures.told (all_synced v) synced)))

pub returns-in_err-contents-clause-works : goal.returns-in_err-contents-clause-works
returns-in_err-contents-clause-works g c = λ v told.
    let synced = c.in_ok-barrier.ensures.synced v told in
    let first = works_weaker Nothing v _ _ _ _ _ (Changes v.now) (λ p s none. absurd none) (c.barrier.ensures.works v told) in
    let so_far = works_then (Changes v.now) (Changes v.now) v (all_synced v) _ _ _ _ _ _ _ _ synced first (works_quiet (Changes v.now) (all_synced v) _ _ _ _ _ _ synced c.check.ensures.quiet) (λ p s h. h) in
    so_far

pub settle-requires-clause-sane : goal.settle-requires-clause-sane
settle-requires-clause-sane g c = λ u now.
    let b = g.met.F.Fs.told c.check.new.fs c.args.fs.now u now in
    let synced = c.in_ok-barrier.ensures.synced b.0 b.1 in
    subst (λ (x : View). IsSane x.now) (one_view _ (all_synced b.0) u (c.check.ensures.quiet.view ∙ synced) now) (sane_of c.args.limits.now (all_synced b.0).now (c.in_ok-contents.ensures.told (all_synced b.0) synced))

pub settle-requires-clause-left_overs : goal.settle-requires-clause-left_overs
settle-requires-clause-left_overs g c = λ u now.
    let b = g.met.F.Fs.told c.check.new.fs c.args.fs.now u now in
    let synced = c.in_ok-barrier.ensures.synced b.0 b.1 in
    subst (λ (x : View). AreLeftOvers x.now c.as_slice.result.now) (one_view _ (all_synced b.0) u (c.check.ensures.quiet.view ∙ synced) now)
    (subst (AreLeftOvers (all_synced b.0).now) (sym c.as_slice.ensures.value) (c.in_ok-contents.ensures.left_overs (all_synced b.0) synced))

pub settle-requires-clause-can_go : goal.settle-requires-clause-can_go
settle-requires-clause-can_go g c = λ u now.
    let b = g.met.F.Fs.told c.check.new.fs c.args.fs.now u now in
    let synced = c.in_ok-barrier.ensures.synced b.0 b.1 in
    subst (λ (x : View). (p : Path) → CanGo x.now p) (one_view _ (all_synced b.0) u (c.check.ensures.quiet.view ∙ synced) now) (can_go_of c.args.limits.now (all_synced b.0).now (c.in_ok-contents.ensures.told (all_synced b.0) synced))

pub settle-requires-clause-config : goal.settle-requires-clause-config
settle-requires-clause-config g c = λ u now.
    let b = g.met.F.Fs.told c.check.new.fs c.args.fs.now u now in
    let synced = c.in_ok-barrier.ensures.synced b.0 b.1 in
    subst (λ (x : View). HasConfig x.now) (one_view _ (all_synced b.0) u (c.check.ensures.quiet.view ∙ synced) now) (config_of c.args.limits.now (all_synced b.0).now (c.in_ok-contents.ensures.told (all_synced b.0) synced))

pub settle-requires-clause-settled : goal.settle-requires-clause-settled
settle-requires-clause-settled g c = λ u now.
    let b = g.met.F.Fs.told c.check.new.fs c.args.fs.now u now in
    let synced = c.in_ok-barrier.ensures.synced b.0 b.1 in
    subst (λ (x : View). (p : Path) → Always x p (shows x.now p)) (one_view _ (all_synced b.0) u (c.check.ensures.quiet.view ∙ synced) now) (synced_always b.0)

pub returns-in_err-settle-clause-works : goal.returns-in_err-settle-clause-works
returns-in_err-settle-clause-works g c = λ v told.
    let synced = c.in_ok-barrier.ensures.synced v told in
    let first = works_weaker Nothing v _ _ _ _ _ (Changes v.now) (λ p s none. absurd none) (c.barrier.ensures.works v told) in
    let so_far = works_then (Changes v.now) (Changes v.now) v (all_synced v) _ _ _ _ _ _ _ _ synced first (works_quiet (Changes v.now) (all_synced v) _ _ _ _ _ _ synced c.check.ensures.quiet) (λ p s h. h) in
    works_then (Changes v.now) (Changes (all_synced v).now) v (all_synced v) _ _ _ _ _ _ _ _ (c.check.ensures.quiet.view ∙ synced) so_far (c.settle.ensures.works (all_synced v) (c.check.ensures.quiet.view ∙ synced)) (λ p s h. subst (λ d. Changes d p s) (synced_now v) h)

pub returns-clause-works : goal.returns-clause-works
returns-clause-works g c = λ v told.
    let synced = c.in_ok-barrier.ensures.synced v told in
    let first = works_weaker Nothing v _ _ _ _ _ (Changes v.now) (λ p s none. absurd none) (c.barrier.ensures.works v told) in
    let so_far = works_then (Changes v.now) (Changes v.now) v (all_synced v) _ _ _ _ _ _ _ _ synced first (works_quiet (Changes v.now) (all_synced v) _ _ _ _ _ _ synced c.check.ensures.quiet) (λ p s h. h) in
    works_then (Changes v.now) (Changes (all_synced v).now) v (all_synced v) _ _ _ _ _ _ _ _ (c.check.ensures.quiet.view ∙ synced) so_far (c.settle.ensures.works (all_synced v) (c.check.ensures.quiet.view ∙ synced)) (λ p s h. subst (λ d. Changes d p s) (synced_now v) h)

pub returns-clause-told : goal.returns-clause-told
returns-clause-told g c = λ v told. subst (IsGood c.args.limits.now) (synced_now v) (c.in_ok-contents.ensures.told (all_synced v) (c.in_ok-barrier.ensures.synced v told))

pub returns-clause-begins : goal.returns-clause-begins
returns-clause-begins g c = λ v told.
    let synced = c.in_ok-barrier.ensures.synced v told in
    let now = c.check.ensures.quiet.view ∙ synced in
    let arranged = c.in_ok-settle.ensures.arranged (all_synced v) now in
    let settled = c.in_ok-settle.ensures.settled (all_synced v) now in
    let works = c.settle.ensures.works (all_synced v) now in
    let w = arranged.0 in
    let writes = subst (λ x. Writes (Changes (all_synced v).now) (all_synced v) x) (one_view _ works.left.0 w works.left.1 arranged.1) works.left.2 in
    let keeps : Keeps v.now w.now = subst (λ d. Keeps d w.now) (synced_now v) writes.now in (
      w,
      arranged.1,
      begins v w (sane_of c.args.limits.now v.now (subst (IsGood c.args.limits.now) (synced_now v) (c.in_ok-contents.ensures.told (all_synced v) synced))) (list_of c.args.limits.now v.now (subst (IsGood c.args.limits.now) (synced_now v) (c.in_ok-contents.ensures.told (all_synced v) synced))) keeps (g.met.F.Fs.tree c.settle.new.fs w arranged.1) (subst (λ d. IsArranged d w.now) (synced_now v) arranged.2)
          (subst (λ (x : View). (p : Path) → Always x p (shows x.now p)) (one_view _ settled.0 w settled.1 arranged.1) settled.2)
          c.in_ok-contents.contents.refs.items (subst (λ d. Logical d (first c.in_ok-contents.contents.refs.items)) (synced_now v) (c.in_ok-contents.ensures.refs (all_synced v) synced)),
    )

pub returns-clause-keeps : goal.returns-clause-keeps
returns-clause-keeps g c = λ v told.
    let synced = c.in_ok-barrier.ensures.synced v told in
    let now = c.check.ensures.quiet.view ∙ synced in
    subst (λ d. KeepsSince (Left (g.F.Fs.was c.settle.new.fs)) c.clock-clock.result d) (synced_now v)
    (subst (λ t. KeepsSince (Left (g.F.Fs.was c.settle.new.fs)) t (all_synced v).now) (c.check.ensures.quiet.clock ∙ sym c.clock-clock.ensures)
    (since_keeps (all_synced v) (g.met.F.Fs.tree c.check.new.fs (all_synced v) now) (synced_always v) _ _ _ _ _ _ (g.met.F.Fs.only_now c.check.new.fs) now (c.settle.ensures.works (all_synced v) now)))

pub returns-clause-found : goal.returns-clause-found
returns-clause-found g c = λ v told.
    let synced = c.in_ok-barrier.ensures.synced v told in
    subst (λ d. AreAll d c.in_ok-contents.contents.objects.items × AreRowsOf d c.in_ok-contents.contents.rows.items) (synced_now v)
    (c.in_ok-contents.ensures.objects (all_synced v) synced, c.in_ok-contents.ensures.rows (all_synced v) synced)
