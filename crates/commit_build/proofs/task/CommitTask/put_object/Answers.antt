use Rattle.std.proofs.Common.{◌≡◌, ◌<◌, false, Ok, sym, subst, ap, ◌∙◌}
use Rattle.fs_trait.specs.Image.{Told}
use Rattle.fs_trait.specs.Change.{Writes}
use Rattle.commit_build.specs.declared.phase.Phase.TheVariants as phases
use Rattle.commit_build.specs.Advancing as advancing
use Rattle.commit_build.specs.Committing.{Committing}
use Rattle.commit_build.specs.Steps.{Needs, writes_in}
use Rattle.commit_build.proofs.PutSteps.{needs_as}
use Rattle.commit_build.proofs.PhaseSteps.{told_three, told_two}
use Rattle.commit_build.proofs.PutTells.{full_after, put_further, put_ended, put_tells}
use Rattle.commit_build.proofs.Rooms.{told_put}
use Rattle.commit_build.proofs.task.CommitTask.put_object.Goals as goal

pub advance-requires : goal.advance-requires
advance-requires g c = λ v told.
    let needs = subst (λ t. Needs t v) (sym c.self.view_is) (c.requires.needs v told) in
    (needs_as _ v needs (phases.Put c.in-Put.put) c.in-Put.is).0

pub returns-in-Full-clause-after : goal.returns-in-Full-clause-after
returns-in-Full-clause-after g c = λ v told.
    let needs = subst (λ t. Needs t v) (sym c.self.view_is) (c.requires.needs v told) in
    let tells = subst (λ r. Told (g.F.Fs.view c.advance.new.fs) (λ w. advancing.Tells c.at_bound-full.result c.in-Put.put v w r)) c.in-Full.is (c.in_ok-advance.ensures.tells v told) in
    let advanced = subst (λ r. advancing.IsAdvanced c.at_bound-full.result c.in-Put.put (Ok r) c.advance.new.task) c.in-Full.is c.in_ok-advance.ensures.advanced in
    (tells.0, tells.1, subst (λ u. Needs u tells.0) (sym c.full.ensures.task) (full_after _ v tells.0 needs (phases.Put c.advance.new.task) (c.in-Put.is ∙ ap phases.Put (sym advanced.0)) tells.2.1))

pub returns-in-Further-clause-after : goal.returns-in-Further-clause-after
returns-in-Further-clause-after g c = λ v told.
    let needs = subst (λ t. Needs t v) (sym c.self.view_is) (c.requires.needs v told) in
    let tells = subst (λ r. Told (g.F.Fs.view c.advance.new.fs) (λ w. advancing.Tells c.at_bound-full.result c.in-Put.put v w r)) c.in-Further.is (c.in_ok-advance.ensures.tells v told) in
    let advanced = subst (λ r. advancing.IsAdvanced c.at_bound-full.result c.in-Put.put (Ok r) c.advance.new.task) c.in-Further.is c.in_ok-advance.ensures.advanced in
    told_three _ _ _ _ _ (λ w writes next came. put_further _ v w needs c.in-Put.put c.at_bound-full.result writes c.in-Put.is c.advance.new.task _ c.in-Further.end advanced came next) (c.advance.ensures.writes v told) (c.in_ok-advance.ensures.after v told) tells

pub returns-in-Further-clause-tells : goal.returns-in-Further-clause-tells
returns-in-Further-clause-tells g c = λ v told.
    let tells = subst (λ r. Told (g.F.Fs.view c.advance.new.fs) (λ w. advancing.Tells c.at_bound-full.result c.in-Put.put v w r)) c.in-Further.is (c.in_ok-advance.ensures.tells v told) in
    let phase = sym (ap (λ (t : Committing). t.phase) c.self.view_is) ∙ c.in-Put.is in
    let room = subst (λ (t : Committing). c.at_bound-full.result ≡ false → c.args.count < t.limits.objects) c.self.view_is c.at_bound-full.ensures.room in
    told_two _ _ _ (λ w came. put_tells c.args.self.now c.in-Put.put phase c.at_bound-full.result c.args.count room c.in-Further.end _ _ c.met_of-self-inside.ensures c.name-name.ensures v w came) tells

pub returns-in-Over-clause-after : goal.returns-in-Over-clause-after
returns-in-Over-clause-after g c = λ v told.
    let needs = subst (λ t. Needs t v) (sym c.self.view_is) (c.requires.needs v told) in
    let tells = subst (λ r. Told (g.F.Fs.view c.advance.new.fs) (λ w. advancing.Tells c.at_bound-full.result c.in-Put.put v w r)) c.in-Over.is (c.in_ok-advance.ensures.tells v told) in
    told_three _ _ _ _ _ (λ w writes next came. put_ended _ v w needs c.in-Put.put c.at_bound-full.result writes c.in-Put.is c.advance.new.task _ c.in-Over.end (subst (λ r. advancing.IsAdvanced c.at_bound-full.result c.in-Put.put (Ok r) c.advance.new.task) c.in-Over.is c.in_ok-advance.ensures.advanced) came) (c.advance.ensures.writes v told) (c.in_ok-advance.ensures.after v told) tells

pub returns-in-Over-clause-tells : goal.returns-in-Over-clause-tells
returns-in-Over-clause-tells g c = λ v told.
    let tells = subst (λ r. Told (g.F.Fs.view c.advance.new.fs) (λ w. advancing.Tells c.at_bound-full.result c.in-Put.put v w r)) c.in-Over.is (c.in_ok-advance.ensures.tells v told) in
    let phase = sym (ap (λ (t : Committing). t.phase) c.self.view_is) ∙ c.in-Put.is in
    let room = subst (λ (t : Committing). c.at_bound-full.result ≡ false → c.args.count < t.limits.objects) c.self.view_is c.at_bound-full.ensures.room in
    told_two _ _ _ (λ w came. put_tells c.args.self.now c.in-Put.put phase c.at_bound-full.result c.args.count room c.in-Over.end _ _ c.met_of-self-inside-in-Over.ensures c.name-name.ensures v w came) tells

pub returns-in_err-advance-clause-few : goal.returns-in_err-advance-clause-few
returns-in_err-advance-clause-few g c = λ v told.
    let phase = sym (ap (λ (t : Committing). t.phase) c.self.view_is) ∙ c.in-Put.is in
    let room = subst (λ (t : Committing). c.at_bound-full.result ≡ false → c.args.count < t.limits.objects) c.self.view_is c.at_bound-full.ensures.room in
    told_put c.args.self.now c.args.count v _ c.in-Put.put c.at_bound-full.result room phase (c.advance.ensures.few v told)

pub returns-in-Further-clause-few : goal.returns-in-Further-clause-few
returns-in-Further-clause-few g c = λ v told.
    let phase = sym (ap (λ (t : Committing). t.phase) c.self.view_is) ∙ c.in-Put.is in
    let room = subst (λ (t : Committing). c.at_bound-full.result ≡ false → c.args.count < t.limits.objects) c.self.view_is c.at_bound-full.ensures.room in
    told_put c.args.self.now c.args.count v _ c.in-Put.put c.at_bound-full.result room phase (c.advance.ensures.few v told)

pub returns-in-Over-clause-few : goal.returns-in-Over-clause-few
returns-in-Over-clause-few g c = λ v told.
    let phase = sym (ap (λ (t : Committing). t.phase) c.self.view_is) ∙ c.in-Put.is in
    let room = subst (λ (t : Committing). c.at_bound-full.result ≡ false → c.args.count < t.limits.objects) c.self.view_is c.at_bound-full.ensures.room in
    told_put c.args.self.now c.args.count v _ c.in-Put.put c.at_bound-full.result room phase (c.advance.ensures.few v told)

pub returns-in-Further-clause-writes : goal.returns-in-Further-clause-writes
returns-in-Further-clause-writes g c = λ v told.
    let phase = sym (ap (λ (t : Committing). t.phase) c.self.view_is) ∙ c.in-Put.is in
    subst (λ f. Told (g.F.Fs.view c.advance.new.fs) (λ w. Writes (writes_in f v) v w)) (sym phase) (c.advance.ensures.writes v told)
