use Rattle.tree_read.proofs.Told.{is_here, is_absent, is_damaged}
use Rattle.read_command.proofs.Logs.{damaged_next, stopped, taken}
use Rattle.read_command.proofs.log.Log.step.Goals as goal

pub returns-in_ok-take-in-Here-clause-told : goal.returns-in_ok-take-in-Here-clause-told
returns-in_ok-take-in-Here-clause-told g c = λ v is knows.
    taken v.now c.args.self.now c.take.new.self c.in-Here.commit _ knows (is_here v.now _ _ _ _ c.in-Here.commit c.in-Here.is (c.in_ok-commit.ensures.told v is)) c.in_ok-take-in-Here.ensures.took

pub returns-in_ok-stop-in-Absent-clause-told : goal.returns-in_ok-stop-in-Absent-clause-told
returns-in_ok-stop-in-Absent-clause-told g c = λ v is knows.
    stopped v.now c.args.self.now c.stop.new.self knows c.sum_of_commit.ensures (is_absent v.now _ _ _ _ c.in-Absent.is (c.in_ok-commit.ensures.told v is)) _ c.in_ok-stop-in-Absent.ensures.stops

pub returns-in_ok-lacking_of-in-Damaged-clause-told : goal.returns-in_ok-lacking_of-in-Damaged-clause-told
returns-in_ok-lacking_of-in-Damaged-clause-told g c = λ v is knows.
    damaged_next v.now c.args.self.now c.args.self.now knows c.sum_of_commit.ensures _ c.in_ok-lacking_of-in-Damaged.ensures (is_damaged v.now _ _ _ _ c.in-Damaged.is (c.in_ok-commit.ensures.told v is))
