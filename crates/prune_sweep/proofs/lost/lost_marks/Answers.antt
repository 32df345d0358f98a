use Rattle.std.proofs.Common.{subst, Err}
use Rattle.fs_trait.specs.Effect.{Answered, IsListing, no_folder}
use Rattle.prune_mark.specs.Flags.{IsMarked}
use Rattle.prune_sweep.proofs.Losing.{lost_listed, lost_unlisted}
use Rattle.prune_sweep.proofs.lost.lost_marks.Goals as goal

pub returns-in-Ok-clause-told : goal.returns-in-Ok-clause-told
returns-in-Ok-clause-told g c = λ v told sorted.
    lost_listed v.now (IsMarked c.args.marking.now.names c.args.marking.now.flags) c.args.pins.now c.in-Ok.names _ (subst (λ p. IsListing v.now p c.in-Ok.names) c.in_ok-folder.ensures (c.in-Ok.ensures.answer v told).1) (c.in_ok-marks_of-in-Ok.ensures sorted)

pub returns-clause-told : goal.returns-clause-told
returns-clause-told g c = λ v told sorted.
    lost_unlisted v.now (IsMarked c.args.marking.now.names c.args.marking.now.flags) c.args.pins.now (g.met.F.Fs.tree c.args.fs.now v told) (IsListing v.now c.in_ok-folder.folder) c.in-Err.refusal
    (subst (λ p. Answered (no_folder p v.now) (IsListing v.now c.in_ok-folder.folder) (Err c.in-Err.refusal)) c.in_ok-folder.ensures (c.in-Err.ensures.answer v told)) (λ t. t.items) _ c.unlisted.ensures.none
