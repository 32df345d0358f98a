use Rattle.std.proofs.Common.{⊎_elim}
use Rattle.fs_trait.specs.View.{all_synced}
use Rattle.fs_trait.specs.Change.{Nothing}
use Rattle.fs_trait.proofs.Kept.{weaker, then_writes}
use Rattle.fs_trait.proofs.Effects.{all_synced-writes}
use Rattle.fs_trait.proofs.Facts.{Fails-writes}
use Rattle.staged_file.specs.Whole.{Written}
use Rattle.staged_file.specs.Steps.{Needs}
use Rattle.staged_file.proofs.Wholes.{told_once}
use Rattle.staged_file.proofs.Begins.{needs_synced}
use Rattle.staged_file_check.proofs.one_file.sync_and_put.Goals as goal

pub step_on-requires : goal.step_on-requires
step_on-requires g c = λ w told.
    let before = g.met.F.Fs.told _ c.args.fs.now w told in
    let may = c.requires before.0 before.1 in
    told_once (Needs c.args.task) _
    (_, (c.in_ok-sync_all.ensures.effect before.0 before.1).1, needs_synced c.args.task before.0 (g.met.F.Fs.tree c.args.fs.now before.0 before.1) may)
    w told

pub returns-clause-done : goal.returns-clause-done
returns-clause-done g c = λ v told. c.step_on.ensures.done _ (c.in_ok-sync_all.ensures.effect v told).1

pub returns-in_err-sync_all-clause-writes : goal.returns-in_err-sync_all-clause-writes
returns-in_err-sync_all-clause-writes g c = λ v told.
    Fails-writes (Written c.args.task) _ v _ _ _ (c.in_err-sync_all.ensures.effect v told) (weaker Nothing (Written c.args.task) v (all_synced v) (λ p s none. absurd none) (all_synced-writes v))

pub returns-clause-writes : goal.returns-clause-writes
returns-clause-writes g c = λ v told.
    let after = c.step_on.ensures.writes _ (c.in_ok-sync_all.ensures.effect v told).1 in
    (after.0, after.1, weaker _ (Written c.args.task) v after.0 (λ p s a. ⊎_elim (λ none. absurd none) (λ a. a) a) (then_writes Nothing (Written c.args.task) v (all_synced v) after.0 (all_synced-writes v) after.2))
