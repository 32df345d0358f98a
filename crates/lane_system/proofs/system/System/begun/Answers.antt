use Rattle.std.proofs.Common.{rules, ◌≡◌, ◌∙◌, ℕ, List, length, ap, refl, sym, subst, Some}
use Rattle.std.specs.Prelude.{min}
use Rattle.ost_types.specs.declared.limits.Limits.{Limits}
use Rattle.fs_trait.specs.Change.{Left}
use Rattle.boot_read.specs.declared.row.BootRow.{BootRow}
use Rattle.durable_list.specs.Standing.{ids_of}
use Rattle.rely_guarantee.specs.declared.books.Entry.{Entry}
use Rattle.rely_guarantee.specs.declared.books.Start.{Start}
use Rattle.rely_guarantee.specs.State.{State, SystemState, after, events_of, first, opening_state}
use Rattle.ref_book.specs.Tracks.{Tracks}
use Rattle.durable_store.proofs.Shapes.{good_free}
use Rattle.sys_open.specs.Opened as opening
use Rattle.sys_open.specs.Opening.{IsGoodSince}
use Rattle.command.specs.Tasks.{task_spec}
use Rattle.lane_system.specs.Family.{Family, FsSpec, family, fs_spec}
use Rattle.lane_system.specs.Booting.{BootsStill}
use Rattle.lane_system.specs.Kept.{AreFree, AreHomes, AreIdle, DiskKept}
use Rattle.lane_system.specs.States.{now_of}
use Rattle.lane_system.proofs.Beginning.{boots_first, bounded_first, caused_first, homes_of, kept_first, stands_first, still_first}
use Rattle.lane_system.proofs.system.System.begun.Given as given
use Rattle.lane_system.proofs.StoreAtStart.{counted_first, stored_first}
use Rattle.lane_system.proofs.system.System.begun.Goals as goal

abbrev files_of : (g : given.Over) → FsSpec g.row.F.Denot
files_of g = fs_spec g.F.Fs.view g.F.Fs.clock g.F.Fs.spare g.F.Fs.was g.F.Fs.faults g.F.Watch.refused

abbrev family_of : (g : given.Over) → Family g.row.C.Denot g.row.C-Words.Denot g.row.C-Answer.Denot
family_of g = family (task_spec g.C.CommandTask.kind_of g.C.CommandTask.writes_of g.C.CommandTask.stepped g.C.CommandTask.leaves g.C.CommandTask.refuses g.C.CommandTask.facts) g.C.Command.means g.C.Command.doing

pub new-requires-clause-opening : goal.new-requires-clause-opening
new-requires-clause-opening g c = c.into_parts-fs.ensures.opened.opening

pub new-requires-clause-since : goal.new-requires-clause-since
new-requires-clause-since g c = c.into_parts-fs.ensures.opened.since

pub new-requires-clause-past : goal.new-requires-clause-past
new-requires-clause-past g c = c.into_parts-fs.ensures.opened.past

pub invariant_of-result : goal.invariant_of-result
invariant_of-result g c =
    let e = c.new.ensures in
    let base = c.new.result in
    let parts = c.into_parts-fs.result in
    let opened = c.into_parts-fs.ensures in
    let no_events = ap (λ (l : List Entry). after (events_of l) (opening_state base.books.start)) e.history in
    let start = ap (λ (l : List (List ℕ × List ℕ)). first l) (ap (λ (s : Start). s.refs.items) e.start ∙ opened.refs) in
    let tracks : Tracks c.args.refs (now_of base.books).refs = subst (λ (s : State). Tracks c.args.refs s) (sym (ap (λ (s : SystemState). s.refs) no_events ∙ start)) c.requires.refs in
    let idle = subst (λ (l : Limits). AreIdle g.C.Command.means l c.args.lanes.items) (sym opened.limits) c.requires.idle in
    let homes = subst (λ x. AreHomes (g.F.Fs.view x)) (sym e.fs) (homes_of g.F.Fs.view g.F.Fs.clock g.F.Fs.was parts.fs parts.clock parts.refs.items opened.opened) in
    let free : AreFree (g.F.Fs.view base.fs) = λ v told. good_free parts.limits v.now (opened.good.store v (subst (λ x. g.F.Fs.view x ≡ Some v) e.fs told)) in
    let rows = subst (λ x. opening.KeepsRows g.F.Fs.view g.F.Fs.was x base.books.opened parts.limits parts.rows.items) (sym e.fs) (subst (λ (n : ℕ). opening.KeepsRows g.F.Fs.view g.F.Fs.was parts.fs n parts.limits parts.rows.items) (sym e.opened) opened.boots) in
    let listed : base.books.start.deployments.items ≡ ids_of parts.rows.items = ap (λ (s : Start). s.deployments.items) e.start ∙ c.requires.rows ∙ ap ids_of (sym opened.rows) in
    let disk : DiskKept parts.limits (g.F.Fs.view base.fs) base.books = record {
      free = free;
      bounded = λ v told. (let there = subst (λ x. g.F.Fs.view x ≡ Some v) e.fs told in bounded_first v (opened.opened.opening v there).settled (opened.opened.bounded v there));
      boots = λ v told. (let there = subst (λ x. g.F.Fs.view x ≡ Some v) e.fs told in
          (parts.rows.items, boots_first (files_of g) parts.limits parts.limits (first parts.refs.items) parts.rows.items base e.history e.pending listed v told (g.met.F.Fs.tree parts.fs v there) (opened.opened.opening v there).settled rows));
    } in
    kept_first (files_of g) (family_of g) parts.limits base c.args.refs c.args.lanes.items e.history e.pending idle e.sound tracks c.requires.few homes disk e.free e.pins e.live

pub returns : goal.returns
returns g c =
    let e = c.new.ensures in
    let base = c.new.result in
    let parts = c.into_parts-fs.result in
    let opened = c.into_parts-fs.ensures in
    let size : c.len.result ≡ length parts.objects.items = search rules in
    let now : g.F.Fs.faults base.fs ≡ g.F.Fs.faults c.args.opened.fs = ap g.F.Fs.faults (e.fs ∙ opened.fs) in
    let idle = subst (λ (l : Limits). AreIdle g.C.Command.means l c.args.lanes.items) (sym opened.limits) c.requires.idle in
    record {
      parts = (e.fs ∙ opened.fs, ap (λ (s : Start). s.refs.items) e.start ∙ opened.refs, e.opened ∙ opened.clock, refl);
      deployments = ap (λ (s : Start). s.deployments) e.start;
      boots = λ v told.
          let there = subst (λ x. g.F.Fs.view x ≡ Some v) e.fs told in
          let rows = subst (λ x. opening.KeepsRows g.F.Fs.view g.F.Fs.was x base.books.opened parts.limits parts.rows.items) (sym e.fs) (subst (λ (n : ℕ). opening.KeepsRows g.F.Fs.view g.F.Fs.was parts.fs n parts.limits parts.rows.items) (sym e.opened) opened.boots) in
          let listed : base.books.start.deployments.items ≡ ids_of parts.rows.items = ap (λ (s : Start). s.deployments.items) e.start ∙ c.requires.rows ∙ ap ids_of (sym opened.rows) in
          let good = subst (λ x. IsGoodSince (Left (g.F.Fs.was x)) base.books.opened parts.limits (first parts.refs.items)) (sym e.fs) (subst (λ (n : ℕ). IsGoodSince (Left (g.F.Fs.was parts.fs)) n parts.limits (first parts.refs.items)) (sym e.opened) (opened.good.since v there)) in
          subst (λ (r : List BootRow). BootsStill (files_of g) r (record { base = base; lanes = c.args.lanes.items; limits = parts.limits; objects = c.count_of.result }) v) opened.rows
          (still_first (files_of g) parts.limits parts.limits (first parts.refs.items) parts.rows.items base e.history e.pending listed v told (g.met.F.Fs.tree parts.fs v there) (opened.opened.opening v there).settled rows c.args.lanes.items c.count_of.result e.sound (opened.opened.bounded v there) good);
      bounds = (opened.limits, c.count_of.ensures ∙ ap (λ n. min n 4294967295) (size ∙ ap length opened.objects));
      caused = caused_first (files_of g) (family_of g) parts.limits base c.args.refs c.args.lanes.items e.history e.pending idle (g.F.Fs.faults c.args.opened.fs) now e.live;
      stands = λ v told.
          let there = subst (λ x. g.F.Fs.view x ≡ Some v) e.fs told in
          let good = subst (λ x. opening.KeepsGood g.F.Fs.view g.F.Fs.was x base.books.opened parts.limits parts.refs.items) (sym e.fs) (subst (λ (n : ℕ). opening.KeepsGood g.F.Fs.view g.F.Fs.was parts.fs n parts.limits parts.refs.items) (sym e.opened) opened.good) in
          let stored = stored_first (files_of g) g.C.Command.means parts.limits base c.args.lanes.items parts.refs.items parts.objects.items c.count_of.result v told (g.met.F.Fs.tree parts.fs v there) (opened.opened.opening v there) good (opened.listed v there) (c.count_of.ensures ∙ ap (λ (n : ℕ). min n 4294967295) size) (search rules) e.free.1 in
          stands_first (files_of g) (family_of g) parts.limits base c.args.refs c.args.lanes.items e.history e.pending idle c.count_of.result (g.F.Fs.faults c.args.opened.fs) now e.live v stored (counted_first parts.objects.items c.count_of.result v (opened.listed v there) (c.count_of.ensures ∙ ap (λ (n : ℕ). min n 4294967295) size));
    }
