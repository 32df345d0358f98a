use Rattle.std.proofs.Common.{◌≡◌, subst, sym, Some, ℕ}
use Rattle.fs_trait.specs.View.{View}
use Rattle.rely_guarantee.specs.Headline.{Headline}
use Rattle.command.specs.Tasks.{task_spec}
use Rattle.lane_system.specs.declared.lane.Reply.{Reply}
use Rattle.lane_system.specs.Booked.{IsReplied}
use Rattle.lane_system.specs.Family.{Family, FsSpec, family, fs_spec}
use Rattle.lane_system.specs.Held.{Held}
use Rattle.lane_system.specs.Lanes.{IsTo}
use Rattle.lane_system.specs.Ranks.{AreWithin}
use Rattle.lane_system.specs.Replies.{EndsBy}
use Rattle.lane_system.specs.Sweeping.{IsAllTold}
use Rattle.lane_system.specs.System.{System}
use Rattle.lane_system.proofs.Replying.{ends_of, held_of, replied_of, told_of, within_of}
use Rattle.lane_system.proofs.Family.{FamilyLaws, laws_of}
use Rattle.lane_system.proofs.system.System.certify.Given as given
use Rattle.lane_system.proofs.system.System.certify.Goals as goal

abbrev files_of : (g : given.Over) → FsSpec g.row.F.Denot
files_of g = fs_spec g.F.Fs.view g.F.Fs.clock g.F.Fs.spare g.F.Fs.was g.F.Fs.faults g.F.Watch.refused

abbrev family_of : (g : given.Over) → Family g.row.C.Denot g.row.C-Words.Denot g.row.C-Answer.Denot
family_of g = family (task_spec g.C.CommandTask.kind_of g.C.CommandTask.writes_of g.C.CommandTask.stepped g.C.CommandTask.leaves g.C.CommandTask.refuses g.C.CommandTask.facts) g.C.Command.means g.C.Command.doing

family_laws : (g : given.Over) → FamilyLaws (family_of g)
family_laws g = laws_of (task_spec g.C.CommandTask.kind_of g.C.CommandTask.writes_of g.C.CommandTask.stepped g.C.CommandTask.leaves g.C.CommandTask.refuses g.C.CommandTask.facts) g.C.Command.means g.C.Command.doing _ g.met.C.CommandTask.laws g.met.C.Command.command_laws

pub certify-requires : goal.certify-requires
certify-requires g c = c.self.invariant.sound

pub returns : goal.returns
returns g c =
    let i = c.self.inside in
    let is = sym c.self.view_is in
    record {
      headline = subst (λ (s : System _ _ _ _). (v : View) → g.F.Fs.view s.base.fs ≡ Some v → Headline g.F.Fs.clock g.F.Fs.was s.base v) (sym is) c.certify.ensures;
      replied = subst (λ (s : System _ _ _ _). IsReplied g.F.Fs.view g.C.Command.means s) (sym is) (replied_of (files_of g) (family_of g) i.limits i.base i.refs i.lanes.items i.given i.objects c.self.invariant);
      within = subst (λ (s : System _ _ _ _). AreWithin s) (sym is) (within_of (files_of g) (family_of g) i.limits i.base i.refs i.lanes.items i.given i.objects c.self.invariant);
      held = subst (λ (s : System _ _ _ _). Held g.F.Fs.view (family_of g) s) (sym is) (held_of (files_of g) (family_of g) i.limits i.base i.refs i.lanes.items i.given i.objects c.self.invariant (family_laws g));
      ends = subst (λ (s : System _ _ _ _). (lane number : ℕ) (r : Reply _) → IsTo s.lanes lane number r → EndsBy s.base.books.halted (g.F.Watch.refused s.base.fs) (g.F.Fs.faults s.base.fs) r.answer) (sym is)
          (ends_of (files_of g) (family_of g) i.limits i.base i.refs i.lanes.items i.given i.objects c.self.invariant);
      swept = subst (λ (s : System _ _ _ _). IsAllTold g.F.Fs.view s) (sym is) (told_of (files_of g) (family_of g) i.limits i.base i.refs i.lanes.items i.given i.objects c.self.invariant);
    }
