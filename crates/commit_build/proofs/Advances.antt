-- What came of an object in a step.
use Rattle.std.proofs.Common.{◌≡◌, Bool, true, false, refl, sym, ◌∙◌, ap, subst, Option, Some, None, Ok}
use Rattle.std.specs.Prelude.{◌&&◌}
use Rattle.ost_types.specs.Path.{Path}
use Rattle.fs_trait.specs.declared.types.FsErr.{FsErr}
use Rattle.fs_trait.specs.declared.types.FsErr.TheVariants.{Failed, Exists, Missing, NotFolder, NotEmpty, NoMemory}
use Rattle.fs_trait.specs.declared.types.Value.{Value}
use Rattle.fs_trait.specs.declared.types.Value.TheVariants.{Absent, Folder as FolderValue, Link as LinkValue, File as FileValue}
use Rattle.fs_trait.specs.declared.task.StepResult.TheVariants.{More, Done}
use Rattle.fs_trait.specs.View.{View}
use Rattle.fs_trait.specs.Image.{Told}
use Rattle.fs_trait.specs.Effect.{OfNone}
use Rattle.fs_trait.specs.Seen.{Seen, Vacant, seen, shows}
use Rattle.fs_trait.specs.Change.{Writes}
use Rattle.fs_trait.proofs.Facts.{vacant_absent}
use Rattle.fs_trait.proofs.Kept.{weaker}
use Rattle.repo_model.specs.Objects.{object_in, path_of}
use Rattle.obj_store.specs.declared.source.Source.{Source}
use Rattle.obj_store.specs.declared.phase.Put.{Put}
use Rattle.obj_store.specs.declared.phase.Put.TheVariants.{Stored, Present}
use Rattle.obj_store.specs.declared.phase.Phase.{Phase}
use Rattle.obj_store.specs.declared.phase.Phase.TheVariants.{Look, Stage, Folder, Link, Unlink, Ended}
use Rattle.obj_store.specs.Putting.{Putting, IsMade, IsStepped, Follows, IsLast, put_in}
use Rattle.obj_store.specs.Steps.{Came, Tells, Refuses, WritesOf, goes_on, ends, would_store_in, writes_in, MayStore}
use Rattle.commit_build.specs.Advancing.{newly, CameOf, HasRoom, WritesIn}
use Rattle.commit_build.specs.Steps.{IsThere}

pub may_link : (ph : Phase) → MayStore ph true → ph ≡ Link
may_link Link may = refl
may_link Look may = let n : true ≡ false = may in cc
may_link Stage may = let n : true ≡ false = may in cc
may_link Folder may = let n : true ≡ false = may in cc
may_link (Unlink e) may = let n : true ≡ false = may in cc
may_link (Ended e) may = let n : true ≡ false = may in cc

nothing_there : (z : Value) → true ≡ would_store_in Link z → z ≡ Absent
nothing_there Absent e = refl
nothing_there (FolderValue m) e = let n : true ≡ false = e in cc
nothing_there (LinkValue m t) e = let n : true ≡ false = e in cc
nothing_there (FileValue n) e = let n : true ≡ false = e in cc

pub full_absent : (ph : Phase) (z : Value) → ph ≡ Link → true ≡ would_store_in ph z → z ≡ Absent
full_absent ph z is e = nothing_there z (subst (λ f. true ≡ would_store_in f z) is e)

pub none_refuses : (t : Putting) (v : View) (e : FsErr) → OfNone e → Refuses t v e
none_refuses t v Failed none = tt
none_refuses t v NoMemory none = tt
none_refuses t v Exists none = absurd none
none_refuses t v Missing none = absurd none
none_refuses t v NotFolder none = absurd none
none_refuses t v NotEmpty none = absurd none

module _ (full : Bool) (old : Putting) (v w : View) (full_there : full ≡ true → would_store_in old.phase (v.now.at (path_of old.name)) ≡ false) where
  no_room : (b : Bool) → full ≡ b → old.phase ≡ Link → v.now.at (path_of old.name) ≡ Absent → full ≡ false
  no_room false is link absent = is
  no_room true is link absent =
      let n : true ≡ false = sym (ap (would_store_in Link) absent) ∙ sym (ap (λ f. would_store_in f (v.now.at (path_of old.name))) link) ∙ full_there is in
      cc

  room : (e : Put) → old.phase ≡ Link → Came e old v w → HasRoom full e
  room Stored link came = no_room full refl link came.0
  room Present link came = tt

  further : (new : Source) (last next : Phase) → old.phase ≡ last → Follows last next old.source new → goes_on last next old v w → CameOf full (newly (put_in last) (put_in next)) old v w
  further new (Unlink e) next is follows told = tt
  further new (Ended e) next is follows told = tt
  further new Look Look is follows told = tt
  further new Look Stage is follows told = tt
  further new Look Folder is follows told = tt
  further new Look Link is follows told = tt
  further new Look (Unlink e) is follows told = absurd follows
  further new Look (Ended e) is follows told = absurd follows
  further new Stage Look is follows told = tt
  further new Stage Stage is follows told = tt
  further new Stage Folder is follows told = tt
  further new Stage Link is follows told = tt
  further new Stage (Unlink e) is follows told = absurd follows
  further new Stage (Ended e) is follows told = absurd follows
  further new Folder Look is follows told = tt
  further new Folder Stage is follows told = tt
  further new Folder Folder is follows told = tt
  further new Folder Link is follows told = tt
  further new Folder (Unlink e) is follows told = absurd follows
  further new Folder (Ended e) is follows told = absurd follows
  further new Link Look is follows told = tt
  further new Link Stage is follows told = tt
  further new Link Folder is follows told = tt
  further new Link Link is follows told = tt
  further new Link (Unlink e) is follows told = (told, room e is told)
  further new Link (Ended e) is follows told = absurd follows

  pub further_came : (new : Putting) → IsStepped old (Ok More) new → Tells old new v w More → CameOf full (newly (put_in old.phase) (put_in new.phase)) old v w
  further_came new stepped told = further new.source old.phase new.phase refl stepped.1 told

  present : (e : Put) → e ≡ Present → HasRoom full e
  present e is = subst (HasRoom full) (sym is) tt

  over : (e : Put) (last : Phase) → old.phase ≡ last → IsLast last old.source e → ends last e old v w → CameOf full (newly (put_in last) (Some e)) old v w
  over e Look is end told = (told, present e end)
  over e Stage is end told = absurd end
  over e Folder is end told = absurd end
  over e Link is end told = (told, room e is told)
  over e (Unlink was) is end told = tt
  over e (Ended was) is end told = tt

  pub over_came : (new : Putting) (e : Put) → IsStepped old (Ok (Done e)) new → Tells old new v w (Done e) → CameOf full (newly (put_in old.phase) (Some e)) old v w
  over_came new e stepped told = over e old.phase refl stepped.1 told

-- an object is put where nothing stands, and so with room
pub few_writes : (full : Bool) (t : Putting) (v w : View) → (full ≡ true → would_store_in t.phase (v.now.at (path_of t.name)) ≡ false) → Writes (WritesOf t v) v w → Writes (WritesIn full t v) v w
few_writes full t v w there writes = weaker (WritesOf t v) (WritesIn full t v) v w (λ p s wrote. (wrote, λ link. room_at p s link (subst (λ ph. writes_in ph t v p s) link wrote))) writes
  where
    room_at : (p : Path) (s : Seen) → t.phase ≡ Link → writes_in Link t v p s → full ≡ false
    room_at p s link wrote = no_room full t v w there full refl link (vacant_absent v.now (path_of t.name) (subst (λ q. shows v.now q ≡ Vacant) wrote.0 wrote.2))

pub few_step : (full none : Bool) (t : Putting) (v : View) (view : Option View) → none ≡ (full && would_store_in t.phase (v.now.at (path_of t.name))) → none ≡ false → Told view (λ w. Writes (WritesOf t v) v w) → Told view (λ w. Writes (WritesIn full t v) v w)
few_step full none t v view is not told =
    (told.0, told.1, few_writes full t v told.0 (λ e. subst (λ f. (f && would_store_in t.phase (v.now.at (path_of t.name))) ≡ false) e (sym is ∙ not)) told.2)

-- what came of the object is there
pub came_there : (t : Putting) (v w : View) (e : Put) → IsMade t → Came e t v w → IsThere w.now t.name
came_there t v w Stored made came = λ gone.
    let stored = came.1 made.bytes made.object in
    let n : None ≡ Some made.bytes = sym (ap (λ z. object_in t.name.kind (seen w.now z)) gone) ∙ stored.there in
    cc
came_there t v w Present made came = subst (λ (x : View). IsThere x.now t.name) (sym came.1) came.0
