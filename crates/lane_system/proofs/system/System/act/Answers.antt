use Rattle.std.proofs.Common.{◌≡◌, ◌<◌, ◌≤◌, ◌∙◌, ◌++◌, ◌∷◌, [], ap, sym, subst, refl, arith, length, None}
use Rattle.std.specs.Global.{Vec}
use Rattle.std.specs.Vec.{vec_capacity, vec_len}
use Rattle.command.specs.Tasks.{task_spec}
use Rattle.lane_system.specs.declared.lane.Reply.{Reply}
use Rattle.lane_system.specs.Family.{Family, FsSpec, family, fs_spec}
use Rattle.lane_system.specs.Kept.{Kept}
use Rattle.lane_system.specs.Lanes.{IsAt}
use Rattle.lane_system.specs.System.{System}
use Rattle.lane_system.proofs.Acting.{kept_answered, kept_held, kept_on, set_same}
use Rattle.lane_system.proofs.Asking.{given_few, is_done, is_held, is_more, is_none, is_over, no_lane, number_few, place_few, start_few}
use Rattle.lane_system.proofs.Family.{FamilyLaws, FsLaws, laws_of}
use Rattle.lane_system.proofs.system.System.act.Given as given
use Rattle.lane_system.proofs.system.System.act.Goals as goal

abbrev files_of : (g : given.Over) → FsSpec g.row.F.Denot
files_of g = fs_spec g.F.Fs.view g.F.Fs.clock g.F.Fs.spare g.F.Fs.was g.F.Fs.faults g.F.Watch.refused

abbrev family_of : (g : given.Over) → Family g.row.C.Denot g.row.C-Words.Denot g.row.C-Answer.Denot
family_of g = family (task_spec g.C.CommandTask.kind_of g.C.CommandTask.writes_of g.C.CommandTask.stepped g.C.CommandTask.leaves g.C.CommandTask.refuses g.C.CommandTask.facts) g.C.Command.means g.C.Command.doing

files_laws : (g : given.Over) → FsLaws (files_of g)
files_laws g = record { is = record { only_now = g.met.F.Fs.only_now; bound = g.met.F.Fs.bound; told = g.met.F.Fs.told }; tree = g.met.F.Fs.tree; counts_now = g.met.F.Fs.counts_now }

family_laws : (g : given.Over) → FamilyLaws (family_of g)
family_laws g = laws_of (task_spec g.C.CommandTask.kind_of g.C.CommandTask.writes_of g.C.CommandTask.stepped g.C.CommandTask.leaves g.C.CommandTask.refuses g.C.CommandTask.facts) g.C.Command.means g.C.Command.doing _ g.met.C.CommandTask.laws g.met.C.Command.command_laws

pub returns-then-number-len : goal.returns-then-number-len
returns-then-number-len g c =
    let past : length c.args.self.now.lanes ≤ c.args.actor = omega (arith, c.if-number-len.true, c.len.ensures, c.self.inside.lanes.ok.0, ap (λ (s : System _ _ _ _). length s.lanes) c.self.view_is) in
    let x = is_none (files_of g) (family_of g) (files_laws g) c.args.self.now c.args.self.now c.args.actor (no_lane c.args.self.now c.args.actor past) refl in
    record { acted = x.acted; objects = x.objects; preserves = x.preserves; ranks = x.ranks; held = x.held; waits = x.waits }

pub invariant_of-self : goal.invariant_of-self
invariant_of-self g c =
    let i = c.self.inside in
    let within : c.args.actor < length i.lanes.items = omega (arith, c.if-number-len.false, c.len.ensures, i.lanes.ok.0) in
    let at : IsAt i.lanes.items c.args.actor c.index_mut-lane.result.now = (within, sym c.index_mut-lane.ensures.value) in
    subst (λ xs. Kept (files_of g) (family_of g) i.limits i.base i.refs xs i.given) (sym (set_same i.lanes.items c.args.actor c.index_mut-lane.result.now c.index_mut-lane.result.now at refl)) c.self.invariant

pub returns-then-command-len : goal.returns-then-command-len
returns-then-command-len g c =
    let i = c.self.inside in
    let within : c.args.actor < length i.lanes.items = omega (arith, c.if-number-len.false, c.len.ensures, i.lanes.ok.0) in
    let l = c.index_mut-lane.result.now in
    let at : IsAt i.lanes.items c.args.actor l = (within, sym c.index_mut-lane.ensures.value) in
    let is = sym c.self.view_is in
    let most : length l.words.items ≤ length l.replies.items = omega (arith, c.if-command-len.true, c.len-command.ensures, c.len-2.ensures, l.words.ok.0, l.replies.ok.0) in
    let x = is_over (files_of g) (family_of g) (files_laws g) c.args.self.now i.limits c.args.actor i.objects i.base i.lanes.items l is at most in
    record { acted = x.acted; objects = x.objects; preserves = x.preserves; ranks = x.ranks; held = x.held; waits = x.waits }

pub lane_act-requires : goal.lane_act-requires
lane_act-requires g c =
    let i = c.self.inside in
    let within : c.args.actor < length i.lanes.items = omega (arith, c.if-number-len.false, c.len.ensures, i.lanes.ok.0) in
    let at : IsAt i.lanes.items c.args.actor c.index_mut-lane.result.now = (within, sym c.index_mut-lane.ensures.value) in
    let kept = c.self.invariant in
    record {
      few = omega (arith, within, kept.few);
      sound = kept.sound;
      tracks = kept.tracks;
      home = λ v told. kept.homes c.args.actor v (omega (arith, within, kept.few)) told;
      disk = kept.disk;
      kept = kept.each c.args.actor c.index_mut-lane.result.now at;
      next = omega (arith, c.if-command-len.false, c.len-command.ensures, c.len-2.ensures, c.index_mut-lane.result.now.words.ok.0, c.index_mut-lane.result.now.replies.ok.0);
    }

pub invariant_of-self-in-Blocked : goal.invariant_of-self-in-Blocked
invariant_of-self-in-Blocked g c =
    let i = c.self.inside in
    let within : c.args.actor < length i.lanes.items = omega (arith, c.if-number-len.false, c.len.ensures, i.lanes.ok.0) in
    let at : IsAt i.lanes.items c.args.actor c.index_mut-lane.result.now = (within, sym c.index_mut-lane.ensures.value) in
    let n = c.lane_act.new in
    kept_held (files_of g) (family_of g) (files_laws g) (family_laws g) i.limits c.args.actor i.refs n.refs i.objects n.objects i.base n.base i.lanes.items i.given c.index_mut-lane.result.now n.run c.self.invariant at c.in-Blocked.ensures

pub returns-in-Blocked : goal.returns-in-Blocked
returns-in-Blocked g c =
    let i = c.self.inside in
    let within : c.args.actor < length i.lanes.items = omega (arith, c.if-number-len.false, c.len.ensures, i.lanes.ok.0) in
    let at : IsAt i.lanes.items c.args.actor c.index_mut-lane.result.now = (within, sym c.index_mut-lane.ensures.value) in
    let is = sym c.self.view_is in
    let n = c.lane_act.new in
    let x = is_held (files_of g) (family_of g) (files_laws g) (family_laws g) c.args.self.now i.limits c.args.actor i.refs n.refs i.objects n.objects i.base n.base i.lanes.items i.given c.index_mut-lane.result.now n.run is c.self.invariant at c.in-Blocked.ensures in
    record { acted = x.acted; objects = x.objects; preserves = x.preserves; ranks = x.ranks; held = x.held; waits = x.waits }

pub invariant_of-self-in-More : goal.invariant_of-self-in-More
invariant_of-self-in-More g c =
    let i = c.self.inside in
    let within : c.args.actor < length i.lanes.items = omega (arith, c.if-number-len.false, c.len.ensures, i.lanes.ok.0) in
    let at : IsAt i.lanes.items c.args.actor c.index_mut-lane.result.now = (within, sym c.index_mut-lane.ensures.value) in
    let n = c.lane_act.new in
    kept_on (files_of g) (family_of g) (files_laws g) (family_laws g) i.limits c.args.actor i.refs n.refs i.objects n.objects i.base n.base i.lanes.items i.given c.index_mut-lane.result.now n.run c.self.invariant at c.in-More.ensures

pub returns-in-More : goal.returns-in-More
returns-in-More g c =
    let i = c.self.inside in
    let within : c.args.actor < length i.lanes.items = omega (arith, c.if-number-len.false, c.len.ensures, i.lanes.ok.0) in
    let at : IsAt i.lanes.items c.args.actor c.index_mut-lane.result.now = (within, sym c.index_mut-lane.ensures.value) in
    let is = sym c.self.view_is in
    let n = c.lane_act.new in
    let x = is_more (files_of g) (family_of g) (files_laws g) (family_laws g) c.args.self.now i.limits c.args.actor i.refs n.refs i.objects n.objects i.base n.base i.lanes.items i.given c.index_mut-lane.result.now n.run is c.self.invariant at c.in-More.ensures in
    record { acted = x.acted; objects = x.objects; preserves = x.preserves; ranks = x.ranks; held = x.held; waits = x.waits }

pub number_of-requires : goal.number_of-requires
number_of-requires g c =
    let i = c.self.inside in
    let within : c.args.actor < length i.lanes.items = omega (arith, c.if-number-len.false, c.len.ensures, i.lanes.ok.0) in
    let at : IsAt i.lanes.items c.args.actor c.index_mut-lane.result.now = (within, sym c.index_mut-lane.ensures.value) in
    let is = sym c.self.view_is in
    let n = c.lane_act.new in
    omega (arith, start_few (files_of g) (family_of g) (files_laws g) (family_laws g) c.args.self.now i.limits c.args.actor i.refs n.refs i.objects n.objects i.base n.base i.lanes.items i.given c.index_mut-lane.result.now n.run is c.self.invariant at c.in-Answered.answer c.in-Answered.start c.in-Answered.ensures)

pub number_of-requires-in-Answered : goal.number_of-requires-in-Answered
number_of-requires-in-Answered g c =
    let i = c.self.inside in
    let within : c.args.actor < length i.lanes.items = omega (arith, c.if-number-len.false, c.len.ensures, i.lanes.ok.0) in
    let at : IsAt i.lanes.items c.args.actor c.index_mut-lane.result.now = (within, sym c.index_mut-lane.ensures.value) in
    let is = sym c.self.view_is in
    let n = c.lane_act.new in
    let long : c.len-in-Answered.result ≡ length n.base.books.history.items = omega (arith, c.len-in-Answered.ensures, n.base.books.history.ok.0) in
    omega (arith, long, place_few (files_of g) (family_of g) (files_laws g) (family_laws g) c.args.self.now i.limits c.args.actor i.refs n.refs i.objects n.objects i.base n.base i.lanes.items i.given c.index_mut-lane.result.now n.run is c.self.invariant at c.in-Answered.answer c.in-Answered.start c.in-Answered.ensures)

pub push_reserved-requires : goal.push_reserved-requires
push_reserved-requires g c =
    let i = c.self.inside in
    let within : c.args.actor < length i.lanes.items = omega (arith, c.if-number-len.false, c.len.ensures, i.lanes.ok.0) in
    let l = c.index_mut-lane.result.now in
    let at : IsAt i.lanes.items c.args.actor l = (within, sym c.index_mut-lane.ensures.value) in
    let x = c.lane_act.ensures in
    subst (λ (v : Vec (Reply _)). vec_len v < vec_capacity v) (sym x.replies) (omega (arith, l.replies.ok.0, l.words.ok.0, x.next.0, (c.self.invariant.each c.args.actor l at).is.room))

pub overflow_add-self : goal.overflow_add-self
overflow_add-self g c =
    let i = c.self.inside in
    let within : c.args.actor < length i.lanes.items = omega (arith, c.if-number-len.false, c.len.ensures, i.lanes.ok.0) in
    let at : IsAt i.lanes.items c.args.actor c.index_mut-lane.result.now = (within, sym c.index_mut-lane.ensures.value) in
    let is = sym c.self.view_is in
    let n = c.lane_act.new in
    omega (arith, given_few (files_of g) (family_of g) (files_laws g) (family_laws g) c.args.self.now i.limits c.args.actor i.refs n.refs i.objects n.objects i.base n.base i.lanes.items i.given c.index_mut-lane.result.now n.run is c.self.invariant at)

pub number_of-requires-in-Answered-2 : goal.number_of-requires-in-Answered-2
number_of-requires-in-Answered-2 g c =
    let i = c.self.inside in
    let within : c.args.actor < length i.lanes.items = omega (arith, c.if-number-len.false, c.len.ensures, i.lanes.ok.0) in
    let at : IsAt i.lanes.items c.args.actor c.index_mut-lane.result.now = (within, sym c.index_mut-lane.ensures.value) in
    let is = sym c.self.view_is in
    let n = c.lane_act.new in
    let long : c.len-command.result ≡ length c.index_mut-lane.result.now.replies.items = omega (arith, c.len-command.ensures, c.index_mut-lane.result.now.replies.ok.0) in
    omega (arith, long, number_few (files_of g) (family_of g) (files_laws g) (family_laws g) c.args.self.now i.limits c.args.actor i.refs n.refs i.objects n.objects i.base n.base i.lanes.items i.given c.index_mut-lane.result.now n.run is c.self.invariant at)

pub invariant_of-self-in-Answered : goal.invariant_of-self-in-Answered
invariant_of-self-in-Answered g c =
    let i = c.self.inside in
    let within : c.args.actor < length i.lanes.items = omega (arith, c.if-number-len.false, c.len.ensures, i.lanes.ok.0) in
    let at : IsAt i.lanes.items c.args.actor c.index_mut-lane.result.now = (within, sym c.index_mut-lane.ensures.value) in
    let n = c.lane_act.new in
    let r : Reply _ = record { answer = c.in-Answered.answer; start = c.number_of.result; place = c.number_of-in-Answered.result; order = i.given; taken = None } in
    let l = record n.run { replies = c.push_reserved.new.self } in
    let x = c.in-Answered.ensures in
    let grows : c.push_reserved.new.self.items ≡ c.index_mut-lane.result.now.replies.items ++ r ∷ [] = c.push_reserved.ensures.items ∙ ap (λ (v : Vec (Reply _)). v.items ++ r ∷ []) x.replies in
    let room : vec_capacity c.index_mut-lane.result.now.replies ≤ vec_capacity c.push_reserved.new.self = omega (arith, c.push_reserved.ensures.capacity, ap vec_capacity x.replies) in
    let long : c.len-in-Answered.result ≡ length n.base.books.history.items = omega (arith, c.len-in-Answered.ensures, n.base.books.history.ok.0) in
    let place = c.number_of-in-Answered.ensures ∙ long in
    kept_answered (files_of g) (family_of g) (files_laws g) (family_laws g) i.limits c.args.actor i.refs n.refs i.objects n.objects i.base n.base i.lanes.items i.given c.index_mut-lane.result.now n.run c.self.invariant at c.in-Answered.answer c.in-Answered.start x l r x.same x.did.0 grows room refl c.number_of.ensures place refl refl

pub returns-in-Answered : goal.returns-in-Answered
returns-in-Answered g c =
    let i = c.self.inside in
    let within : c.args.actor < length i.lanes.items = omega (arith, c.if-number-len.false, c.len.ensures, i.lanes.ok.0) in
    let at : IsAt i.lanes.items c.args.actor c.index_mut-lane.result.now = (within, sym c.index_mut-lane.ensures.value) in
    let is = sym c.self.view_is in
    let n = c.lane_act.new in
    let r : Reply _ = record { answer = c.in-Answered.answer; start = c.number_of.result; place = c.number_of-in-Answered.result; order = i.given; taken = None } in
    let l = record n.run { replies = c.push_reserved.new.self } in
    let x = c.in-Answered.ensures in
    let grows : c.push_reserved.new.self.items ≡ c.index_mut-lane.result.now.replies.items ++ r ∷ [] = c.push_reserved.ensures.items ∙ ap (λ (v : Vec (Reply _)). v.items ++ r ∷ []) x.replies in
    let room : vec_capacity c.index_mut-lane.result.now.replies ≤ vec_capacity c.push_reserved.new.self = omega (arith, c.push_reserved.ensures.capacity, ap vec_capacity x.replies) in
    let long : c.len-in-Answered.result ≡ length n.base.books.history.items = omega (arith, c.len-in-Answered.ensures, n.base.books.history.ok.0) in
    let place = c.number_of-in-Answered.ensures ∙ long in
    let number : c.number_of-in-Answered-2.result ≡ length c.index_mut-lane.result.now.replies.items = omega (arith, c.number_of-in-Answered-2.ensures, c.len-command.ensures, c.index_mut-lane.result.now.replies.ok.0) in
    let z = is_done (files_of g) (family_of g) (files_laws g) (family_laws g) c.args.self.now i.limits c.args.actor i.refs n.refs i.objects n.objects i.base n.base i.lanes.items i.given c.index_mut-lane.result.now n.run is c.self.invariant at c.in-Answered.answer c.in-Answered.start x l r x.same x.did.0 grows room refl c.number_of.ensures place refl refl c.number_of-in-Answered-2.result number in
    record { acted = z.acted; objects = z.objects; preserves = z.preserves; ranks = z.ranks; held = z.held; waits = z.waits }
