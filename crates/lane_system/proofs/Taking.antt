-- What a step of a lane's task does that others may rely on.
use Rattle.std.proofs.Common.{◌≡◌, ◌≢◌, ◌⊎◌, inl, inr, ⊎_elim, ◌<◌, ℕ, false, true, refl, sym, ◌∙◌, ap, subst, arith, List, [], append-nil, Contains, Option, Some}
use Rattle.std.specs.List.{flat_map}
use Rattle.std.proofs.lemmas.List.Elements.{Contains-append_right}
use Rattle.ost_types.specs.declared.object.ObjName.{ObjName}
use Rattle.ost_types.specs.declared.limits.Limits.{Limits}
use Rattle.fs_trait.specs.declared.task.StepResult.TheVariants as turn
use Rattle.fs_trait.specs.Change.{Writes}
use Rattle.fs_trait.specs.Image.{Told}
use Rattle.fs_trait.specs.Seen.{NotDirectory}
use Rattle.fs_trait.specs.View.{View}
use Rattle.fs_trait.proofs.Facts.{shows_kept}
use Rattle.repo_layout.specs.Paths.{stage_path}
use Rattle.repo_layout.specs.Place.{Stage, place}
use Rattle.repo_layout.proofs.Places.{place-stage}
use Rattle.boot_read.specs.declared.row.BootRow.{BootRow}
use Rattle.rely_guarantee.specs.declared.books.Base.{Base}
use Rattle.rely_guarantee.specs.declared.kind.Outcome.{Outcome}
use Rattle.rely_guarantee.specs.declared.kind.Outcome.TheVariants as came
use Rattle.rely_guarantee.specs.Books.{Books, books_of}
use Rattle.rely_guarantee.specs.declared.kind.Wants.{Wants}
use Rattle.rely_guarantee.specs.Exact.{Opens, taken_in}
use Rattle.rely_guarantee.specs.Laws.{Holds, Kind, Quiet, Store, Take, Claim, Publish, Published, Remove, MakeDurable, Runs, StepObligation, Stood}
use Rattle.rely_guarantee.specs.Rely.{Guarantee, Interference}
use Rattle.rely_guarantee.specs.SystemInvariant.{SystemInvariant}
use Rattle.rely_guarantee.proofs.Lasting.{none_out}
use Rattle.rely_guarantee.proofs.Mays.{stage_apart}
use Rattle.command.specs.ChangeLaws.{Founds}
use Rattle.command.specs.Removed.{RemovesOnly}
use Rattle.ref_book.specs.declared.book.RefBook.{RefBook}
use Rattle.command.specs.Since.{Since}
use Rattle.command.specs.Staging.{StagingPathFree}
use Rattle.lane_system.specs.declared.lane.Running.{Running}
use Rattle.lane_system.specs.Acts.{Acts, IsRemovalOf}
use Rattle.lane_system.specs.Family.{Family, FsSpec}
use Rattle.lane_system.specs.Kept.{AreHomes, AreInOrder}
use Rattle.lane_system.specs.LaneActs.{Takes, task_start, told_by}
use Rattle.lane_system.specs.Removals.{removed_by, swept_in}
use Rattle.lane_system.specs.States.{since_in}
use Rattle.lane_system.proofs.Swapping.{step_boots}
use Rattle.lane_system.specs.Booting.{MayBootNow}
use Rattle.lane_system.proofs.Family.{FamilyLaws, FsLaws}
use Rattle.lane_system.proofs.Growing.{stored_grows}
use Rattle.lane_system.proofs.Locking.{in_order_on}
use Rattle.lane_system.proofs.Moments.{fails_by, later_at, moment_is}
use Rattle.lane_system.proofs.Places.{held_or, here_or_apart}
use Rattle.lane_system.proofs.Setting.{comes_step}
use Rattle.lane_system.proofs.Sweeping.{only_idle, only_nothing, only_removing, only_taking, prunes_on, still_on, takes_on, told_on}

-- what others do leaves no folder where an actor stages
home_kept : (b b' : Books) (v w : View) (actor lane mine : ℕ) → mine ≢ actor → mine ≢ lane → mine < 16 → Interference actor lane v b w b' → StagingPathFree mine v → StagingPathFree mine w
home_kept b b' v w actor lane mine not other few does home =
    let at : place (stage_path mine) ≡ Stage mine = subst (λ p. place p ≡ Stage mine) (append-nil (stage_path mine)) (place-stage mine [] (omega (arith, few))) in
    subst NotDirectory (sym (shows_kept (Guarantee b v actor lane) v w (stage_path mine) does.writes (λ s wrote. stage_apart b v actor lane mine (stage_path mine) (stage_path mine) s not at wrote refl))) home

module _ {F T W A : Type 0} (f : FsSpec F) (c : Family T W A) (fl : FsLaws f) (cl : FamilyLaws c) (limits : Limits) (actor lane number : ℕ) (refs refs' : RefBook) (objects : ℕ) (old new : Base F) (words : W) (task : Option (Running T)) (outcome : Outcome) (t' : T)
    (x : Takes f c limits actor lane number refs refs' objects old new words task outcome t') where
  -- the task as it steps
  abbrev pub told : T
  told = told_by c.doing objects x.work

  abbrev pub start : ℕ
  start = task_start old.books.history.items task

  abbrev pub since : Since
  since = since_in limits old.books start

  pub told_facts : (v : View) → f.view old.fs ≡ Some v → c.tasks.facts lane told v (books_of old.books)
  told_facts v is = cl.commands.hears.facts (record { objects = objects }) lane x.work v (books_of old.books) (x.runs.facts v is)

  pub told_holds : Holds (c.tasks.kind told) lane (books_of old.books)
  told_holds = cl.commands.hears.holds (record { objects = objects }) lane x.work (books_of old.books) x.runs.holds

  pub told_after : c.doing.pursues since words told
  told_after = cl.commands.hears.pursues (record { objects = objects }) since words x.work x.after

  home_by : (a : ℕ) (v w : View) → f.view old.fs ≡ Some v → Writes (c.tasks.writes actor told v) v w → Interference actor lane v (books_of old.books) w (books_of new.books) → (outcome ≡ came.Blocked → ⊥) → a < 16 → StagingPathFree a v → StagingPathFree a w
  home_by a v w is wrote does not few home = here_or_apart a actor
      (λ e. cl.commands.steps.stages a actor lane told v w (books_of old.books) (inl e) (x.step.by not) (told_facts v is) wrote home)
      (λ ne. here_or_apart a lane
      (λ e. cl.commands.steps.stages a actor lane told v w (books_of old.books) (inr e) (x.step.by not) (told_facts v is) wrote home)
      (λ other. home_kept (books_of old.books) (books_of new.books) v w actor lane a ne other few does home))

  homes_after : AreHomes (f.view old.fs) → AreHomes (f.view new.fs)
  homes_after homes a w few is = ⊎_elim
      (λ held. homes a w few (subst (λ (b : Base F). f.view b.fs ≡ Some w) (x.step.blocked held).0 is))
      (λ not. (let v = fl.is.told new.fs old.fs w is in
      let k = x.step.wrote v.0 v.1 in
      let y = x.step.acts.does v.0 v.1 in
      let one : Some k.0 ≡ Some w = sym k.1 ∙ is in
      let e : k.0 ≡ w = cc in
      let two : Some y.0 ≡ Some w = sym y.1 ∙ is in
      let g : y.0 ≡ w = cc in
      home_by a v.0 w v.1 (subst (Writes (c.tasks.writes actor told v.0) v.0) e k.2) (subst (λ u. Interference actor lane v.0 (books_of old.books) u (books_of new.books)) g y.2) not few (homes a v.0 few v.1)))
      (held_or outcome)

  asks_both : (wants : Wants) → c.tasks.kind told ≡ Take wants → wants.exclusive ≡ true → wants.turn ≡ true
  asks_both wants is on = ⊎_elim (λ order. order.0 on) (λ alone. absurd (let z : false ≡ true = sym alone.0 ∙ on in cc)) (cl.commands.locks.asks since words told wants told_after is)

  -- held off it leaves all as it was
  locks_after : AreInOrder old.books → AreInOrder new.books
  locks_after order = ⊎_elim
      (λ held. subst (λ (b : Base F). AreInOrder b.books) (sym (x.step.blocked held).0) order)
      (λ not. in_order_on (c.tasks.kind told) actor lane old.books new.books asks_both x.step.acts.books order outcome not x.step.locks)
      (held_or outcome)

  module _ (sound : SystemInvariant f.view f.clock f.spare f.was old) where
    taken_held : outcome ≡ came.Blocked → (k : Kind) → c.tasks.kind told ≡ k → taken_in k (books_of old.books) ≡ []
    taken_held held (Remove e n) is = absurd ((x.step.blocked held).1 (subst (λ y. Opens y lane (books_of old.books)) (sym is) tt))
    taken_held held Quiet is = refl
    taken_held held Store is = refl
    taken_held held (Take wants) is = refl
    taken_held held (Claim name) is = refl
    taken_held held (Publish e) is = refl
    taken_held held (Published e n) is = refl
    taken_held held (MakeDurable e) is = refl

    -- what such a step owes
    duty : (outcome ≡ came.Blocked → ⊥) → (k : Kind) → c.tasks.kind told ≡ k → Stood k actor lane (books_of old.books) → (v : View) → f.view old.fs ≡ Some v → StepObligation k actor lane v (books_of old.books) (c.tasks.writes actor told v) (cl.leaves told (turn.Done tt) told v)
    duty not k is stood v told_v = subst (λ y. StepObligation y actor lane v (books_of old.books) (c.tasks.writes actor told v) (cl.leaves told (turn.Done tt) told v)) is
        (cl.tasks.duty actor lane told told v (books_of old.books) sound.ordered.agrees (x.step.by not) (subst (λ y. Stood y actor lane (books_of old.books)) (sym is) stood) (told_facts v told_v))

    held_as : (k : Kind) → c.tasks.kind told ≡ k → Holds k lane (books_of old.books)
    held_as k is = subst (λ y. Holds y lane (books_of old.books)) is told_holds

    only_by : (outcome ≡ came.Blocked → ⊥) → (k : Kind) → c.tasks.kind told ≡ k → (v w : View) → f.view old.fs ≡ Some v → Writes (Guarantee (books_of old.books) v actor lane) v w → Writes (c.tasks.writes actor told v) v w → RemovesOnly (taken_in k (books_of old.books)) v w
    only_by not Quiet is v w told_v may wrote = only_idle old.books v w actor lane may (held_as Quiet is)
    only_by not Store is v w told_v may wrote = only_idle old.books v w actor lane may (held_as Store is)
    only_by not (Take wants) is v w told_v may wrote = only_idle old.books v w actor lane may (held_as (Take wants) is)
    only_by not (Claim name) is v w told_v may wrote = only_idle old.books v w actor lane may (held_as (Claim name) is)
    only_by not (Publish e) is v w told_v may wrote = only_idle old.books v w actor lane may (held_as (Publish e) is)
    only_by not (Published e n) is v w told_v may wrote = only_taking (c.tasks.writes actor told v) v w wrote (duty not (Published e n) is tt v told_v).2
    only_by not (Remove e n) is v w told_v may wrote = only_removing old.books v w actor lane may
    only_by not (MakeDurable e) is v w told_v may wrote = only_nothing (c.tasks.writes actor told v) v w wrote (λ p s wrote_p. (duty not (MakeDurable e) is tt v told_v).0 p s wrote_p)

    abbrev out : List ObjName
    out = taken_in (c.tasks.kind told) (books_of old.books)

    only_after : (v : View) → f.view old.fs ≡ Some v → Told (f.view new.fs) (λ w. RemovesOnly out v w)
    only_after v told_v = ⊎_elim
        (λ held. (v, subst (λ (b : Base F). f.view b.fs ≡ Some v) (sym (x.step.blocked held).0) told_v, λ o sum vacant. inl vacant))
        (λ not. (let d = x.step.acts.does v told_v in
        let k = x.step.wrote v told_v in
        let one : Some k.0 ≡ Some d.0 = sym k.1 ∙ d.1 in
        let e : k.0 ≡ d.0 = cc in
        (d.0, d.1, only_by not (c.tasks.kind told) refl v d.0 told_v d.2.writes (subst (Writes (c.tasks.writes actor told v) v) e k.2))))
        (held_or outcome)

    removal_after : IsRemovalOf f out actor lane old new x.step.acts.books.more
    removal_after = ⊎_elim
        (λ held. (let same = (x.step.blocked held).0 in
        let none = taken_held held (c.tasks.kind told) refl in
        record {
          only = only_after;
          one = λ v told_v. inl (none, omega (arith, ap (λ (b : Base F). b.books.gone) same));
          told = λ o has. absurd (none_out o (subst (λ (l : List ObjName). Contains l o) none has));
          still = λ o has. Contains-append_right (flat_map removed_by x.step.acts.books.more) (swept_in new.books) o (subst (λ (b : Base F). Contains (swept_in b.books) o) (sym same) has);
          prunes = λ o has p is. absurd (none_out o (subst (λ (l : List ObjName). Contains l o) none has));
        }))
        (λ not. record {
          only = only_after;
          one = λ v told_v. takes_on actor lane number (f.clock new.fs) old.books new.books x.step.acts.books (c.tasks.kind told) outcome x.step.gone (λ e n is. (duty not (Remove e n) is tt v told_v).2);
          told = told_on actor lane number (f.clock new.fs) old.books new.books x.step.acts.books (c.tasks.kind told) outcome x.step.booked x.step.locks x.step.gone;
          still = still_on actor lane number (f.clock new.fs) old.books new.books x.step.acts.books (c.tasks.kind told) outcome not told_holds x.step.booked x.step.locks x.step.gone;
          prunes = prunes_on actor lane number (f.clock new.fs) old.books new.books x.step.acts.books (c.tasks.kind told) outcome x.step.booked x.step.locks x.step.gone;
        })
        (held_or outcome)

    told_runs : Runs c.tasks.kind c.tasks.facts lane told (f.view old.fs) (books_of old.books)
    told_runs = record { facts = told_facts; holds = told_holds }

    boots_after : (opening : List BootRow) (v : View) → f.view old.fs ≡ Some v → MayBootNow limits opening old.books v → Told (f.view new.fs) (λ w. MayBootNow limits opening new.books w)
    boots_after opening v told_v may =
        step_boots f c.tasks c.doing cl.commands.boots since words actor lane number x.between refs' opening outcome told t' old new x.step sound told_after told_runs v told_v (fl.tree old.fs v told_v) may

    pub taken_acts : Acts f limits actor lane refs refs' old new
    taken_acts = record {
      locks = locks_after;
      out = out;
      removal = removal_after;
      boots = boots_after;
      past = x.step.acts.past;
      lasts = x.step.lasts;
      sound = x.step.acts.sound;
      does = x.step.acts.does;
      books = x.step.acts.books;
      homes = homes_after;
      live = λ live. x.live;
      tracks = x.step.tracks;
      rooms = λ name has. x.step.rooms name (x.grew name has);
      time = x.step.time;
      moments = later_at (f.clock new.fs) old.books.history.items new.books.history.items (moment_is lane number (f.clock new.fs) old.books new.books (c.tasks.kind told) outcome told_holds x.step.booked);
      grows = stored_grows actor lane number (f.clock new.fs) old.books new.books x.step.acts.books (c.tasks.kind told) outcome told_holds x.step.booked;
      fails = fails_by (f.faults old.fs) (f.faults new.fs) outcome old.books.halted new.books.halted x.step.cause x.step.live;
      founded = λ v is. comes_step lane number (f.clock new.fs) old.books new.books (Founds v) (c.tasks.kind told) outcome told_holds x.step.booked (λ e k. cl.commands.changes.founds lane told v (books_of old.books) e (told_facts v is) k);
    }
