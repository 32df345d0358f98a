use Rattle.std.proofs.Common.{sym, ◌∙◌, ap, subst}
use Rattle.std.proofs.lemmas.Result.{err_from_is_err_and}
use Rattle.fs_trait.specs.Image.{Told}
use Rattle.ref_room.specs.Way.{Needs, Refuses, Walked, folder, next_in, is_over}
use Rattle.fs_trait.proofs.Answering.{ok_writes, ok_after, err_writes, err_fails}
use Rattle.ref_room.proofs.WaySteps.{synced, synced_free}
use Rattle.ref_room.proofs.way.Way.sync.Goals as goal
use Rattle.ref_room.proofs.way.Way.sync.Goals.{then-is_over, else-is_over}

pub returns-in_err-sync_dir-clause-writes : goal.returns-in_err-sync_dir-clause-writes
returns-in_err-sync_dir-clause-writes g c = λ v told.
    let t = c.args.self.now in
    let step = synced t v (g.met.F.Fs.tree c.args.fs.now v told) (c.requires.needs v told) c.self.inside.folder (c.self.invariant.1 ∙ ap folder c.self.view_is) c.requires.leg in
    err_writes _ _ v _ _ step _ _ (c.in_err-sync_dir.ensures.effect v told)

pub returns-in_err-sync_dir-clause-fails : goal.returns-in_err-sync_dir-clause-fails
returns-in_err-sync_dir-clause-fails g c = λ v told.
    let t = c.args.self.now in
    let step = synced t v (g.met.F.Fs.tree c.args.fs.now v told) (c.requires.needs v told) c.self.inside.folder (c.self.invariant.1 ∙ ap folder c.self.view_is) c.requires.leg in
    let error = err_from_is_err_and c.from_residual-in_err-sync_dir.result c.from_residual-in_err-sync_dir.ensures.1 in
    rw (error.1, error.2) (err_fails _ _ v _ _ step (Refuses t v) tt tt _ _ (c.in_err-sync_dir.ensures.effect v told))

pub returns-clause-writes : goal.returns-clause-writes
returns-clause-writes g c = λ v told.
    let t = c.args.self.now in
    let step = synced t v (g.met.F.Fs.tree c.args.fs.now v told) (c.requires.needs v told) c.self.inside.folder (c.self.invariant.1 ∙ ap folder c.self.view_is) c.requires.leg in
    ok_writes _ _ v _ _ step _ (c.in_ok-sync_dir.ensures.effect v told)

pub returns-clause-after : goal.returns-clause-after
returns-clause-after g c = λ v told.
    let t = c.args.self.now in
    let step = synced t v (g.met.F.Fs.tree c.args.fs.now v told) (c.requires.needs v told) c.self.inside.folder (c.self.invariant.1 ∙ ap folder c.self.view_is) c.requires.leg in
    subst (λ (n : Walked). Told (g.F.Fs.view c.sync_dir.new.self) (λ x. Needs n x)) (sym (c.arrive.ensures ∙ ap (λ l. next_in l t) c.requires.leg)) (ok_after _ _ v _ _ step _ (c.in_ok-sync_dir.ensures.effect v told))

pub returns-clause-tells : goal.returns-clause-tells
returns-clause-tells g c = λ v told.
    elim c.if-is_over.branch [
      | then-is_over w ↦ rw w.result-is (synced_free c.args.self.now v (g.met.F.Fs.tree c.args.fs.now v told) (c.requires.needs v told) c.requires.leg (ap (λ (t : Walked). is_over t.leg) (sym (c.arrive.ensures ∙ ap (λ l. next_in l c.args.self.now) c.requires.leg)) ∙ sym w.if-is_over.ensures))
      | else-is_over w ↦ rw w.result-is tt
    ]
