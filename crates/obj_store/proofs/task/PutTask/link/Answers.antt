use Rattle.std.proofs.Common.{sym, ◌∙◌, ap, subst, refl}
use Rattle.std.proofs.lemmas.Result.{err_from_is_err_and}
use Rattle.staging.proofs.StepLemmas.{looked_none}
use Rattle.obj_store.specs.declared.phase.Put.TheVariants.{Stored, Present}
use Rattle.obj_store.specs.contracts.task.PutTask.{the_view}
use Rattle.obj_store.specs.Putting.{Putting, shown_next, shown_turn}
use Rattle.obj_store.specs.Steps.{Needs}
use Rattle.obj_store.proofs.PutLemmas.{link_at, symlink_at, shown_needs, ok_writes, err_writes, err_fails, err_unchanged, ok_after_as, told_shown, told_as, link_came_at, symlink_came_at}
use Rattle.obj_store.proofs.task.PutTask.link.Goals as goal
use Rattle.obj_store.proofs.task.PutTask.link.Goals.{in-File+in_ok-link-in-File, in-Link+in_ok-symlink-in-Link}

pub returns-then-is_some-clause-after : goal.returns-then-is_some-clause-after
returns-then-is_some-clause-after g c = λ v told.
    let needs = subst (λ t. Needs t v) (sym c.self.view_is) (c.requires.needs v told) in
    let phase = ap (λ (t : Putting). t.phase) c.self.view_is ∙ c.requires.phase in
    let tree = g.met.F.Fs.tree c.args.fs.now v told in
    let still = c.in_ok-stat.ensures.quiet.view ∙ told in
    (v, still, subst (λ t. Needs t v) (sym c.shown.ensures.next) (shown_needs c.args.self.now v (c.requires.needs v told) c.requires.phase Present v (λ d e. refl)))

pub returns-in_err-link-in-File-clause-writes : goal.returns-in_err-link-in-File-clause-writes
returns-in_err-link-in-File-clause-writes g c = λ v told.
    let needs = subst (λ t. Needs t v) (sym c.self.view_is) (c.requires.needs v told) in
    let phase = ap (λ (t : Putting). t.phase) c.self.view_is ∙ c.requires.phase in
    let tree = g.met.F.Fs.tree c.args.fs.now v told in
    let still = c.in_ok-stat.ensures.quiet.view ∙ told in
    let absent = looked_none v.now _ _ (c.in_ok-stat.ensures.answer v told).1 (sym c.if-is_some.ensures) in
    err_writes _ _ _ c.self.view_is v _ _ (link_at _ v needs phase c.in-File.staging c.in-File.is tree _ _ c.stage.ensures c.self.invariant.0 absent) _ _ (c.in_err-link-in-File.ensures.effect v still)

pub returns-in_err-link-in-File-clause-fails : goal.returns-in_err-link-in-File-clause-fails
returns-in_err-link-in-File-clause-fails g c = λ v told.
    let needs = subst (λ t. Needs t v) (sym c.self.view_is) (c.requires.needs v told) in
    let phase = ap (λ (t : Putting). t.phase) c.self.view_is ∙ c.requires.phase in
    let tree = g.met.F.Fs.tree c.args.fs.now v told in
    let still = c.in_ok-stat.ensures.quiet.view ∙ told in
    let absent = looked_none v.now _ _ (c.in_ok-stat.ensures.answer v told).1 (sym c.if-is_some.ensures) in
    let error = err_from_is_err_and c.from_residual-in_err-link-in-File.result c.from_residual-in_err-link-in-File.ensures.1 in
    rw (error.1, error.2) (err_fails _ _ _ c.self.view_is v _ _ (link_at _ v needs phase c.in-File.staging c.in-File.is tree _ _ c.stage.ensures c.self.invariant.0 absent) _ _ (c.in_err-link-in-File.ensures.effect v still))

pub returns-in_err-link-in-File-clause-unchanged : goal.returns-in_err-link-in-File-clause-unchanged
returns-in_err-link-in-File-clause-unchanged g c = λ v told.
    let needs = subst (λ t. Needs t v) (sym c.self.view_is) (c.requires.needs v told) in
    let phase = ap (λ (t : Putting). t.phase) c.self.view_is ∙ c.requires.phase in
    let tree = g.met.F.Fs.tree c.args.fs.now v told in
    let still = c.in_ok-stat.ensures.quiet.view ∙ told in
    let absent = looked_none v.now _ _ (c.in_ok-stat.ensures.answer v told).1 (sym c.if-is_some.ensures) in
    let error = err_from_is_err_and c.from_residual-in_err-link-in-File.result c.from_residual-in_err-link-in-File.ensures.1 in
    rw (error.1, error.2) (λ is. err_unchanged _ _ _ c.self.view_is v _ _ (link_at _ v needs phase c.in-File.staging c.in-File.is tree _ _ c.stage.ensures c.self.invariant.0 absent) _ _ (c.in_err-link-in-File.ensures.effect v still) is)

pub returns-in_err-symlink-in-Link-clause-writes : goal.returns-in_err-symlink-in-Link-clause-writes
returns-in_err-symlink-in-Link-clause-writes g c = λ v told.
    let needs = subst (λ t. Needs t v) (sym c.self.view_is) (c.requires.needs v told) in
    let phase = ap (λ (t : Putting). t.phase) c.self.view_is ∙ c.requires.phase in
    let tree = g.met.F.Fs.tree c.args.fs.now v told in
    let still = c.in_ok-stat.ensures.quiet.view ∙ told in
    let absent = looked_none v.now _ _ (c.in_ok-stat.ensures.answer v told).1 (sym c.if-is_some.ensures) in
    err_writes _ _ _ c.self.view_is v _ _ (symlink_at _ v needs phase c.in-Link.meta c.in-Link.target c.in-Link.is tree _ c.self.invariant.0 absent) _ _ (c.in_err-symlink-in-Link.ensures.effect v still)

pub returns-in_err-symlink-in-Link-clause-fails : goal.returns-in_err-symlink-in-Link-clause-fails
returns-in_err-symlink-in-Link-clause-fails g c = λ v told.
    let needs = subst (λ t. Needs t v) (sym c.self.view_is) (c.requires.needs v told) in
    let phase = ap (λ (t : Putting). t.phase) c.self.view_is ∙ c.requires.phase in
    let tree = g.met.F.Fs.tree c.args.fs.now v told in
    let still = c.in_ok-stat.ensures.quiet.view ∙ told in
    let absent = looked_none v.now _ _ (c.in_ok-stat.ensures.answer v told).1 (sym c.if-is_some.ensures) in
    let error = err_from_is_err_and c.from_residual-in_err-symlink-in-Link.result c.from_residual-in_err-symlink-in-Link.ensures.1 in
    rw (error.1, error.2) (err_fails _ _ _ c.self.view_is v _ _ (symlink_at _ v needs phase c.in-Link.meta c.in-Link.target c.in-Link.is tree _ c.self.invariant.0 absent) _ _ (c.in_err-symlink-in-Link.ensures.effect v still))

pub returns-in_err-symlink-in-Link-clause-unchanged : goal.returns-in_err-symlink-in-Link-clause-unchanged
returns-in_err-symlink-in-Link-clause-unchanged g c = λ v told.
    let needs = subst (λ t. Needs t v) (sym c.self.view_is) (c.requires.needs v told) in
    let phase = ap (λ (t : Putting). t.phase) c.self.view_is ∙ c.requires.phase in
    let tree = g.met.F.Fs.tree c.args.fs.now v told in
    let still = c.in_ok-stat.ensures.quiet.view ∙ told in
    let absent = looked_none v.now _ _ (c.in_ok-stat.ensures.answer v told).1 (sym c.if-is_some.ensures) in
    let error = err_from_is_err_and c.from_residual-in_err-symlink-in-Link.result c.from_residual-in_err-symlink-in-Link.ensures.1 in
    rw (error.1, error.2) (λ is. err_unchanged _ _ _ c.self.view_is v _ _ (symlink_at _ v needs phase c.in-Link.meta c.in-Link.target c.in-Link.is tree _ c.self.invariant.0 absent) _ _ (c.in_err-symlink-in-Link.ensures.effect v still) is)

pub returns-clause-writes : goal.returns-clause-writes
returns-clause-writes g c = λ v told.
    let needs = subst (λ t. Needs t v) (sym c.self.view_is) (c.requires.needs v told) in
    let phase = ap (λ (t : Putting). t.phase) c.self.view_is ∙ c.requires.phase in
    let tree = g.met.F.Fs.tree c.args.fs.now v told in
    let still = c.in_ok-stat.ensures.quiet.view ∙ told in
    let absent = looked_none v.now _ _ (c.in_ok-stat.ensures.answer v told).1 (sym c.if-is_some.ensures) in
    elim c.match-self.branch [
      | in-File+in_ok-link-in-File w ↦ rw w.fs-is (ok_writes _ _ _ c.self.view_is v _ _ (link_at _ v needs phase w.in-File.staging w.in-File.is tree _ _ w.stage.ensures c.self.invariant.0 absent) _ (w.in_ok-link-in-File.ensures.effect v still))
      | in-Link+in_ok-symlink-in-Link w ↦ rw w.fs-is (ok_writes _ _ _ c.self.view_is v _ _ (symlink_at _ v needs phase w.in-Link.meta w.in-Link.target w.in-Link.is tree _ c.self.invariant.0 absent) _ (w.in_ok-symlink-in-Link.ensures.effect v still))
    ]

pub returns-clause-after : goal.returns-clause-after
returns-clause-after g c = λ v told.
    let needs = subst (λ t. Needs t v) (sym c.self.view_is) (c.requires.needs v told) in
    let phase = ap (λ (t : Putting). t.phase) c.self.view_is ∙ c.requires.phase in
    let tree = g.met.F.Fs.tree c.args.fs.now v told in
    let still = c.in_ok-stat.ensures.quiet.view ∙ told in
    let absent = looked_none v.now _ _ (c.in_ok-stat.ensures.answer v told).1 (sym c.if-is_some.ensures) in
    elim c.match-self.branch [
      | in-File+in_ok-link-in-File w ↦ rw w.fs-is (ok_after_as _ _ _ c.self.view_is v _ _ (link_at _ v needs phase w.in-File.staging w.in-File.is tree _ _ w.stage.ensures c.self.invariant.0 absent) _ (c.shown-2.ensures.next ∙ ap (shown_next Stored) (sym c.self.view_is)) _ (w.in_ok-link-in-File.ensures.effect v still))
      | in-Link+in_ok-symlink-in-Link w ↦ rw w.fs-is (ok_after_as _ _ _ c.self.view_is v _ _ (symlink_at _ v needs phase w.in-Link.meta w.in-Link.target w.in-Link.is tree _ c.self.invariant.0 absent) _ (c.shown-2.ensures.next ∙ ap (shown_next Stored) (sym c.self.view_is)) _ (w.in_ok-symlink-in-Link.ensures.effect v still))
    ]

pub returns-clause-tells : goal.returns-clause-tells
returns-clause-tells g c = λ v told.
    let needs = subst (λ t. Needs t v) (sym c.self.view_is) (c.requires.needs v told) in
    let phase = ap (λ (t : Putting). t.phase) c.self.view_is ∙ c.requires.phase in
    let tree = g.met.F.Fs.tree c.args.fs.now v told in
    let still = c.in_ok-stat.ensures.quiet.view ∙ told in
    let absent = looked_none v.now _ _ (c.in_ok-stat.ensures.answer v told).1 (sym c.if-is_some.ensures) in
    elim c.match-self.branch [
      | in-File+in_ok-link-in-File w ↦ rw w.fs-is (_, (w.in_ok-link-in-File.ensures.effect v still).1, told_as (the_view c.self.inside) _ _ _ v _ c.self.view_is (c.shown-2.ensures.next ∙ ap (shown_next Stored) (sym c.self.view_is)) (c.shown-2.ensures.turn ∙ ap (shown_turn Stored) (sym c.self.view_is)) (told_shown _ v needs phase Stored _ (link_came_at _ v needs phase w.in-File.staging w.in-File.is _ _ w.stage.ensures c.self.invariant.0 absent)))
      | in-Link+in_ok-symlink-in-Link w ↦ rw w.fs-is (_, (w.in_ok-symlink-in-Link.ensures.effect v still).1, told_as (the_view c.self.inside) _ _ _ v _ c.self.view_is (c.shown-2.ensures.next ∙ ap (shown_next Stored) (sym c.self.view_is)) (c.shown-2.ensures.turn ∙ ap (shown_turn Stored) (sym c.self.view_is)) (told_shown _ v needs phase Stored _ (symlink_came_at _ v needs phase w.in-Link.meta w.in-Link.target w.in-Link.is _ c.self.invariant.0 absent)))
    ]
