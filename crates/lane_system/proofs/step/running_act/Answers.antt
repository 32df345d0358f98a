use Rattle.std.proofs.Common.{rules, inl, refl, ◌≡◌, ◌⊎◌, ◌<◌, sym, ◌∙◌, ap, subst, arith, List, drop, length, slice_index_or}
use Rattle.rely_guarantee.specs.declared.books.Entry.{Entry}
use Rattle.rely_guarantee.specs.State.{after, events_of, SystemState}
use Rattle.ref_book.specs.Tracks.{HasEventRoom, Tracks}
use Rattle.lane_system.specs.States.{now_of}
use Rattle.lane_system.proofs.Histories.{IsLonger, added, few_more, grown, now_goes}
use Rattle.lane_system.proofs.step.running_act.Given as given
use Rattle.lane_system.proofs.step.running_act.Goals as goal

module _ (g : given.Over) (c : goal.After-note-arg-1 g) where
  before : c.len-before.result ≡ length c.args.base.now.books.history.items
  before = search rules

  history : c.deref.result.now ≡ c.task_act-outcome.new.base.books.history.items
  history = search rules

  goes : (c.task_act-outcome.new.base.books.history.items ≡ c.args.base.now.books.history.items) ⊎ IsLonger (g.C.CommandTask.kind_of c.args.work.now) c.args.base.now.books.history.items c.task_act-outcome.new.base.books.history.items
  goes = grown c.args.lane c.args.number (g.F.Fs.clock c.task_act-outcome.new.base.fs) c.args.base.now.books c.task_act-outcome.new.base.books (g.C.CommandTask.kind_of c.args.work.now) c.task_act-outcome.result c.requires.ready.task.holds c.task_act-outcome.ensures.booked

pub note-requires-clause-few : goal.note-requires-clause-few
note-requires-clause-few g c = omega (arith, before g c, ap length (history g c), few_more (g.C.CommandTask.kind_of c.args.work.now) c.args.base.now.books c.task_act-outcome.new.base.books (goes g c))

pub note-requires-clause-room : goal.note-requires-clause-room
note-requires-clause-room g c = λ d longer.
    let refs = c.args.refs.now in
    let old = c.args.base.now.books.history.items in
    let new = c.task_act-outcome.new.base.books.history.items in
    let more : length old < length new = omega (arith, before g c, ap length (history g c), longer) in
    subst (λ n. HasEventRoom refs (slice_index_or c.deref.result.now n d).event) (sym (before g c))
    (subst (λ (l : List Entry). HasEventRoom refs (slice_index_or l (length old) d).event) (sym (history g c))
    (added (g.C.CommandTask.kind_of c.args.work.now) old new (λ x. HasEventRoom refs x.event) (λ x is. c.requires.room x.event is) (goes g c) d more))

pub returns : goal.returns
returns g c =
    let old = c.args.base.now.books in
    let new = c.task_act-outcome.new.base.books in
    let e = c.task_act-outcome.ensures in
    let at : c.len-before.result ≡ length old.history.items = search rules in
    let is : c.deref.result.now ≡ new.history.items = search rules in
    let gr = grown c.args.lane c.args.number (g.F.Fs.clock c.task_act-outcome.new.base.fs) old new (g.C.CommandTask.kind_of c.args.work.now) c.task_act-outcome.result c.requires.ready.task.holds e.booked in
    let s : (after (events_of (drop c.len-before.result c.deref.result.now)) (now_of old)).refs ≡ (now_of new).refs =
    ap (λ n. (after (events_of (drop n c.deref.result.now)) (now_of old)).refs) at ∙ ap (λ (l : List Entry). (after (events_of (drop (length old.history.items) l)) (now_of old)).refs) is
    ∙ ap (λ (x : SystemState). x.refs) (now_goes (g.C.CommandTask.kind_of c.args.work.now) old new e.acts.books.start gr) in
    record {
      acts = e.acts;
      steps = e.steps;
      wrote = e.wrote;
      tells = e.tells;
      by = λ not. inl refl;
      blocked = e.blocked;
      opens = e.opens;
      locks = e.locks;
      pins = e.pins;
      claimed = e.claimed;
      booked = e.booked;
      gone = e.gone;
      lasts = e.outlasts;
      time = e.time;
      cause = e.cause;
      live = e.live;
      tracks = subst (Tracks c.note.new.refs) s (c.note.ensures.refs (now_of old) c.requires.tracks);
      rooms = c.note.ensures.rooms;
    }
