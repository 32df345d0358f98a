use Rattle.std.proofs.Common.{◌<◌, ℕ, ◌≡◌, inl, inr, subst, true}
use Rattle.std.proofs.lemmas.Result.{err_from_is_err_and}
use Rattle.fs_trait.specs.View.{View}
use Rattle.fs_trait.specs.Image.{is_folder}
use Rattle.fs_trait.specs.Seen.{Vacant, shows}
use Rattle.fs_trait.specs.Change.{Writes}
use Rattle.repo_layout.specs.declared.folder.Folder.{Folder}
use Rattle.repo_layout.specs.Paths.{config_path, folder_path, stage_path}
use Rattle.sys_open.specs.Damages.{ShowsConfig}
use Rattle.sys_open.specs.Changes.{Lays, ClearsAll, ClearsStages, Configures, Changes, Keeps}
use Rattle.layout_rules.proofs.Sanes.{laid_suits}
use Rattle.sys_open.proofs.Arranging.{asks_kept, asks_stand, config_laid, config_stays, configures_from, folders_stand, folders_stay}
use Rattle.sys_open.proofs.LeftClearing.{arranged_of, still_can_go}
use Rattle.sys_open.proofs.LeftOvers.{below_root, clears_left}
use Rattle.sys_open.proofs.Working.{one_view, works_then, works_weaker}
use Rattle.sys_open.proofs.arrange.arrange.Goals as goal

pub lay_out-requires : goal.lay_out-requires
lay_out-requires g c = λ v told. laid_suits v.now (c.requires.sane v told)

pub configure-requires-clause-config : goal.configure-requires-clause-config
configure-requires-clause-config g c = λ u now.
    let b = g.met.F.Fs.told c.lay_out.new.fs c.args.fs.now u now in
    let works = c.lay_out.ensures.works b.0 b.1 in
    config_laid b.0 u (subst (λ x. Writes (Lays b.0.now) b.0 x) (one_view _ works.left.0 u works.left.1 now) works.left.2) (c.requires.config b.0 b.1)

pub configure-requires-clause-folders : goal.configure-requires-clause-folders
configure-requires-clause-folders g c = λ u now.
    let b = g.met.F.Fs.told c.lay_out.new.fs c.args.fs.now u now in
    let laid = c.in_ok-lay_out.ensures.laid b.0 b.1 in
    subst (λ (x : View). (f : Folder) → is_folder (x.now.at (folder_path f)) ≡ true) (one_view _ laid.0 u laid.1 now) laid.2

pub configure-requires-clause-staging : goal.configure-requires-clause-staging
configure-requires-clause-staging g c = λ u now.
    let b = g.met.F.Fs.told c.lay_out.new.fs c.args.fs.now u now in
    let works = c.lay_out.ensures.works b.0 b.1 in
    asks_kept b.0 u (g.met.F.Fs.tree c.lay_out.new.fs u now) (subst (λ x. Writes (Lays b.0.now) b.0 x) (one_view _ works.left.0 u works.left.1 now) works.left.2) (c.requires.sane b.0 b.1)

pub returns-in_err-lay_out-clause-works : goal.returns-in_err-lay_out-clause-works
returns-in_err-lay_out-clause-works g c = λ v told.
    works_weaker (Lays v.now) v _ _ _ _ _ (Changes v.now) (λ p s lays. inl lays) (c.lay_out.ensures.works v told)

pub returns-in_err-configure-clause-works : goal.returns-in_err-configure-clause-works
returns-in_err-configure-clause-works g c = λ v told.
    let lays = c.lay_out.ensures.works v told in
    let first = works_weaker (Lays v.now) v _ _ _ _ _ (Changes v.now) (λ p s lays. inl lays) lays in
    let u = lays.left.0 in
    works_then (Changes v.now) (Configures u.now) v u _ _ _ _ _ _ _ _ lays.left.1 first (c.configure.ensures.works u lays.left.1) (configures_from v u lays.left.2)

pub returns-in_err-configure-clause-fails : goal.returns-in_err-configure-clause-fails
returns-in_err-configure-clause-fails g c = λ v told.
    let lays = c.lay_out.ensures.works v told in
    let error = err_from_is_err_and c.from_residual-in_err-configure.result c.from_residual-in_err-configure.ensures.1 in
    rw (error.1, error.2) (c.in_err-configure.ensures.fails lays.left.0 lays.left.1)

pub returns-in_err-clear_stages-clause-works : goal.returns-in_err-clear_stages-clause-works
returns-in_err-clear_stages-clause-works g c = λ v told.
    let lays = c.lay_out.ensures.works v told in
    let first = works_weaker (Lays v.now) v _ _ _ _ _ (Changes v.now) (λ p s lays. inl lays) lays in
    let u = lays.left.0 in
    let puts = c.configure.ensures.works u lays.left.1 in
    let second = works_then (Changes v.now) (Configures u.now) v u _ _ _ _ _ _ _ _ lays.left.1 first puts (configures_from v u lays.left.2) in
    let x = puts.left.0 in
    let clears = c.clear_stages.ensures.works x puts.left.1 in
    let third = works_then (Changes v.now) ClearsStages v x _ _ _ _ _ _ _ _ puts.left.1 second clears (λ p s clears. inr (inl clears)) in
    third

pub returns-in_err-clear_stages-clause-fails : goal.returns-in_err-clear_stages-clause-fails
returns-in_err-clear_stages-clause-fails g c = λ v told.
    let lays = c.lay_out.ensures.works v told in
    let u = lays.left.0 in
    let puts = c.configure.ensures.works u lays.left.1 in
    let error = err_from_is_err_and c.from_residual-in_err-clear_stages.result c.from_residual-in_err-clear_stages.ensures.1 in
    rw (error.1, error.2) (c.in_err-clear_stages.ensures.fails puts.left.0 puts.left.1
    (asks_stand u puts.left.0 puts.left.2 (asks_kept v u (g.met.F.Fs.tree c.lay_out.new.fs u lays.left.1) lays.left.2 (c.requires.sane v told))))

pub clear_all-requires : goal.clear_all-requires
clear_all-requires g c = λ u now.
    let b = g.met.F.Fs.told c.clear_stages.new.fs c.args.fs.now u now in
    below_root b.0.now c.args.left_overs.now (c.requires.left_overs b.0 b.1)

pub returns-clause-works : goal.returns-clause-works
returns-clause-works g c = λ v told.
    let lays = c.lay_out.ensures.works v told in
    let first = works_weaker (Lays v.now) v _ _ _ _ _ (Changes v.now) (λ p s lays. inl lays) lays in
    let u = lays.left.0 in
    let puts = c.configure.ensures.works u lays.left.1 in
    let second = works_then (Changes v.now) (Configures u.now) v u _ _ _ _ _ _ _ _ lays.left.1 first puts (configures_from v u lays.left.2) in
    let x = puts.left.0 in
    let clears = c.clear_stages.ensures.works x puts.left.1 in
    let third = works_then (Changes v.now) ClearsStages v x _ _ _ _ _ _ _ _ puts.left.1 second clears (λ p s clears. inr (inl clears)) in
    works_then (Changes v.now) (ClearsAll c.args.left_overs.now) v clears.left.0 _ _ _ _ _ _ _ _ clears.left.1 third (c.clear_all.ensures.works clears.left.0 clears.left.1)
    (λ p s cleared. inr (inr (inr (clears_left v.now c.args.left_overs.now (c.requires.left_overs v told) p s cleared))))

pub returns-clause-fails : goal.returns-clause-fails
returns-clause-fails g c = λ v told.
    let lays = c.lay_out.ensures.works v told in
    let first = works_weaker (Lays v.now) v _ _ _ _ _ (Changes v.now) (λ p s lays. inl lays) lays in
    let u = lays.left.0 in
    let puts = c.configure.ensures.works u lays.left.1 in
    let second = works_then (Changes v.now) (Configures u.now) v u _ _ _ _ _ _ _ _ lays.left.1 first puts (configures_from v u lays.left.2) in
    let x = puts.left.0 in
    let clears = c.clear_stages.ensures.works x puts.left.1 in
    let third = works_then (Changes v.now) ClearsStages v x _ _ _ _ _ _ _ _ puts.left.1 second clears (λ p s clears. inr (inl clears)) in
    let y = clears.left.0 in
    let keeps : Keeps v.now y.now = (subst (λ w. Writes (Changes v.now) v w) (one_view _ third.left.0 y third.left.1 clears.left.1) third.left.2).now in
    c.clear_all.ensures.fails y clears.left.1 (still_can_go v.now y.now (c.requires.sane v told) keeps (c.requires.can_go v told) c.args.left_overs.now (c.requires.left_overs v told))

pub returns-clause-arranged : goal.returns-clause-arranged
returns-clause-arranged g c = λ v told.
    let whole = returns-clause-works g c v told in
    let laid = c.in_ok-lay_out.ensures.laid v told in
    let u = laid.0 in
    let puts = c.configure.ensures.works u laid.1 in
    let there = c.in_ok-configure.ensures.there u laid.1 in
    let x = puts.left.0 in
    let stages = c.clear_stages.ensures.works x puts.left.1 in
    let none = c.in_ok-clear_stages.ensures.cleared x puts.left.1 in
    let y = stages.left.0 in
    let works = c.clear_all.ensures.works y stages.left.1 in
    let keeps : Keeps v.now works.left.0.now = (subst (λ w. Writes (Changes v.now) v w) (one_view _ whole.left.0 works.left.0 whole.left.1 works.left.1) whole.left.2).now in
    arranged_of v.now c.args.left_overs.now (c.requires.left_overs v told) y works.left.0 works.left.2 keeps
    (λ f. folders_stay x y stages.left.2 f (folders_stand u x puts.left.2 f (laid.2 f)))
    (subst (λ (z : View). (actor : ℕ) → actor < 16 → shows z.now (stage_path actor) ≡ Vacant) (one_view _ none.0 y none.1 stages.left.1) none.2)
    (config_stays x y stages.left.2 (subst (λ (z : View). ShowsConfig (shows z.now config_path)) (one_view _ there.0 x there.1 puts.left.1) there.2))
    _ c.clear_all.result works.left.1 (c.clear_all.ensures.cleared y stages.left.1)
