-- Which objects a run of steps stored, and that the count goes with them.
use Rattle.std.proofs.Common.{◌≡◌, ◌≢◌, ◌⊎◌, inl, inr, ⊎_elim, ℕ, ◌<◌, ◌≤◌, ◌+◌, ◌^◌, suc, arith, refl, sym, ◌∙◌, ap, subst, List, [], ◌∷◌, length, Option, Some, None, Ok}
use Rattle.std.specs.Prelude.{All, Contains}
use Rattle.std.proofs.lemmas.List.Elements.{All-nil, All-cons, All-weaker}
use Rattle.std.proofs.lemmas.List.Kept.{AllPairs-cons}
use Rattle.ost_types.specs.declared.object.ObjName.{ObjName}
use Rattle.ost_types.specs.declared.limits.Limits.{Limits}
use Rattle.ost_types.specs.Path.{Path}
use Rattle.fs_trait.specs.declared.types.Value.TheVariants.{Absent}
use Rattle.fs_trait.specs.declared.task.StepResult.TheVariants.{More}
use Rattle.fs_trait.specs.View.{View}
use Rattle.fs_trait.specs.Seen.{Seen, seen}
use Rattle.fs_trait.specs.Change.{Writes}
use Rattle.fs_trait.proofs.Facts.{shows_kept, vacant_absent}
use Rattle.repo_layout.specs.RefFile.{IsSum}
use Rattle.repo_model.specs.Objects.{path_of}
use Rattle.staging.proofs.Stable.{staging_lies}
use Rattle.tree_build.specs.Objects.{Object}
use Rattle.obj_store.specs.declared.source.Source.{Source}
use Rattle.obj_store.specs.declared.source.Source.TheVariants.{File, Link}
use Rattle.obj_store.specs.declared.phase.Put.{Put}
use Rattle.obj_store.specs.declared.phase.Put.TheVariants.{Stored, Present}
use Rattle.obj_store.specs.declared.phase.Phase as putting
use Rattle.obj_store.specs.declared.phase.Phase.TheVariants as at
use Rattle.obj_store.specs.Putting.{Putting, IsReady}
use Rattle.obj_store.specs.Steps as put
use Rattle.obj_store.proofs.PlaceLemmas.{one_name}
use Rattle.obj_store.proofs.Stable.{put_lies}
use Rattle.commit_build.specs.declared.phase.Phase.{Phase}
use Rattle.commit_build.specs.declared.phase.Phase.TheVariants as phase
use Rattle.commit_build.specs.Committing.{Committing, IsStepped, Follows}
use Rattle.commit_build.specs.Steps.{Needs, WritesOf, writes_in, CameOf, came_in, IsThere}
use Rattle.commit_build.specs.Whole.{IsOfCommit, IsLacked, AreLacked, IsCounted}
use Rattle.commit_build.proofs.Advances.{came_there}
use Rattle.commit_build.proofs.Mild.{there_kept, stage_object, object_folder, mark_object}
use Rattle.commit_build.proofs.MetSteps.{Met, IsCalm, met_put, met_commit, met_calm}
use Rattle.commit_build.proofs.PutSteps.{needs_as, kept_as}
use Rattle.commit_build.proofs.Wholes.{Runs, mild, of_work, same_commit, object_vacant, of_commit_sum}

-- only a step that links writes at an object's path
module _ (q : Putting) (w : View) (needs : put.Needs q w) (name : ObjName) (s : Seen) where
  stage_off : (src : Source) → IsReady q.actor src → put.stage_needs src w → put.stage_writes src w (path_of name) s → ⊥
  stage_off (File d) ready has a = stage_object q.actor name (sym ((staging_lies d w has (path_of name) s a).place ∙ ready.0))
  stage_off (Link m l) ready has a = a

  gone_off : (src : Source) → IsReady q.actor src → put.gone_stage src (path_of name) s → ⊥
  gone_off (File d) ready a = stage_object q.actor name (sym (a.0 ∙ ready.0))
  gone_off (Link m l) ready a = a

  links : (ph : putting.Phase) → put.needs_in ph q w → put.writes_in ph q w (path_of name) s → ph ≡ at.Link
  links at.Look has a = absurd (stage_off q.source needs.made.ready has.0 a)
  links at.Stage has a = absurd (stage_off q.source needs.made.ready has.0 a)
  links at.Folder has a = absurd (object_folder name q.name.csum a.0)
  links at.Link has a = refl
  links (at.Unlink k) has a = absurd (gone_off q.source needs.made.ready a)
  links (at.Ended k) has a = absurd a

  pub puts_link : put.WritesOf q w (path_of name) s → q.phase ≡ at.Link
  puts_link = links q.phase needs.meets

pub calm_off : (ph : Phase) → IsCalm ph → (w : View) (name : ObjName) (s : Seen) → writes_in ph w (path_of name) s → ⊥
calm_off phase.Check calm w name s a = a
calm_off phase.Make calm w name s a = a
calm_off (phase.Made c) calm w name s a = a
calm_off (phase.Put q) calm w name s a = calm
calm_off phase.SyncObjects calm w name s a = a
calm_off phase.MakeCommit calm w name s a = a
calm_off (phase.PutCommit q) calm w name s a = calm
calm_off (phase.SyncCommit sum) calm w name s a = a
calm_off (phase.Unmark sum) calm w name s a = mark_object sum name (sym a.0)
calm_off (phase.SyncState sum) calm w name s a = a
calm_off (phase.Ended sum) calm w name s a = a

contains_first : (x : ObjName) (xs : List ObjName) → Contains (x ∷ xs) x
contains_first x xs = (0, omega arith, refl)

contains_later : (y x : ObjName) (xs : List ObjName) → Contains xs x → Contains (y ∷ xs) x
contains_later y x xs c = (suc c.0, omega (arith, c.1), c.2)

-- These objects were stored so far, and no others that were lacked are there.
pub record Counts (t : Committing) (v : View) (first : ℕ) (w : View) (count : ℕ) : Type 0 where
  pub names : List ObjName
  pub lacked : AreLacked t v.now names
  pub there : All (λ n. IsThere w.now n) names
  pub all : (name : ObjName) → IsLacked t v.now name → IsThere w.now name → Contains names name
  pub is : count ≡ first + length names
  pub room : (names ≡ []) ⊎ (first + length names ≤ t.limits.objects)

module _ (t : Committing) (v : View) (first : ℕ) where
  pub counts_from : Counts t v first v first
  counts_from = record {
    names = [];
    lacked = record { apart = λ i j d lt within. absurd (omega (arith, within)); each = All-nil (IsLacked t v.now) };
    there = All-nil (λ n. IsThere v.now n);
    all = λ name lacked there. absurd (there lacked.none);
    is = omega arith;
    room = inl refl;
  }

  lacked_sum : (name : ObjName) → IsLacked t v.now name → IsSum name.csum
  lacked_sum name l = subst (λ (n : ObjName). IsSum n.csum) l.is (of_commit_sum t l.object l.of)

  module _ (u : Committing) (w : View) (count : ℕ) (needs : Needs u w) (runs : Runs t v u w) (so_far : Counts t v first w count) where
    -- what is to be stored next was not
    one_more : (q : Putting) (o : Object) → IsOfCommit t o → q.name ≡ o.name → w.now.at (path_of q.name) ≡ Absent → AreLacked t v.now (q.name ∷ so_far.names)
    one_more q o of same gone =
        let sum : IsSum q.name.csum = subst (λ (n : ObjName). IsSum n.csum) (sym same) (of_commit_sum t o of) in
        let before = vacant_absent v.now (path_of q.name) (object_vacant t v w runs.writes q.name sum (ap (seen w.now) gone)) in
        record {
          apart = AllPairs-cons (λ a b. a ≢ b) q.name so_far.names
              (All-weaker (λ n. IsThere w.now n) (λ n. q.name ≢ n) (λ n there e. there (subst (λ m. w.now.at (path_of m) ≡ Absent) e gone)) so_far.names so_far.there)
              so_far.lacked.apart;
          each = All-cons (IsLacked t v.now) q.name so_far.names (record { object = o; of = of; is = sym same; none = before }) so_far.lacked.each;
        }

    pub more_of_put : (ph : Phase) → u.phase ≡ ph → (q : Putting) → ph ≡ phase.Put q → w.now.at (path_of q.name) ≡ Absent → AreLacked t v.now (q.name ∷ so_far.names)
    more_of_put ph is q e gone =
        let last = (kept_as u needs.made (phase.Put q) (is ∙ e)).1 in
        one_more q last.object (of_work t v u w needs runs last.last.number last.object last.last.object) last.puts.name gone

    pub more_of_commit : (ph : Phase) → u.phase ≡ ph → (q : Putting) → ph ≡ phase.PutCommit q → w.now.at (path_of q.name) ≡ Absent → AreLacked t v.now (q.name ∷ so_far.names)
    more_of_commit ph is q e gone =
        one_more q _ (inr (same_commit t v u w needs runs)) (kept_as u needs.made (phase.PutCommit q) (is ∙ e)).2.name gone

    module _ (x : View) (step : Writes (WritesOf u w) w x) where
      still : (name : ObjName) → IsThere w.now name → IsThere x.now name
      still = there_kept u.actor (WritesOf u w) (mild t v u w needs runs u.phase refl) w x step

      was_there : (name : ObjName) → ((s : Seen) → WritesOf u w (path_of name) s → ⊥) → IsThere x.now name → IsThere w.now name
      was_there name off there gone =
          there (vacant_absent x.now (path_of name) (shows_kept (WritesOf u w) w x (path_of name) step off ∙ ap (seen w.now) gone))

      -- no object was put
      kept : (next : ℕ) → next ≡ count → ((name : ObjName) (s : Seen) → WritesOf u w (path_of name) s → ⊥) → Counts t v first x next
      kept next same off = record {
        names = so_far.names;
        lacked = so_far.lacked;
        there = All-weaker (λ n. IsThere w.now n) (λ n. IsThere x.now n) still so_far.names so_far.there;
        all = λ name lacked there. so_far.all name lacked (was_there name (off name) there);
        is = same ∙ so_far.is;
        room = so_far.room;
      }

      -- something stood where one was to be put
      same_view : (next : ℕ) → next ≡ count → x ≡ w → Counts t v first x next
      same_view next same is = subst (λ (y : View). Counts t v first y next) (sym is) (subst (Counts t v first w) (sym same) so_far)

      -- one was
      stored : (q : Putting) → put.Needs q w → AreLacked t v.now (q.name ∷ so_far.names) → IsThere x.now q.name → IsSum q.name.csum
          → ((p : Path) (s : Seen) → WritesOf u w p s → put.WritesOf q w p s) → (next : ℕ) → next ≡ count + 1 → count < u.limits.objects → Counts t v first x next
      stored q has lacked there sum only next same room = record {
        names = q.name ∷ so_far.names;
        lacked = lacked;
        there = All-cons (λ n. IsThere x.now n) q.name so_far.names there (All-weaker (λ n. IsThere w.now n) (λ n. IsThere x.now n) still so_far.names so_far.there);
        all = λ name l now. ⊎_elim
            (λ kept. contains_later q.name name so_far.names (so_far.all name l (λ gone. now (vacant_absent x.now (path_of name) (kept ∙ ap (seen w.now) gone)))))
            (λ wrote. ⊎_elim
            (λ a. absurd (stage_object q.actor name (sym a.0)))
            (λ b. ⊎_elim
            (λ a. absurd (object_folder name q.name.csum a.0))
            (λ a. subst (Contains (q.name ∷ so_far.names)) (sym (one_name name q.name (lacked_sum name l) sum a.0)) (contains_first q.name so_far.names))
            b)
            (put_lies q w has (path_of name) _ (only (path_of name) _ wrote)).place)
            (step.now (path_of name));
        is = (let before = so_far.is in omega (arith, same, before));
        room = inr (
            let before = so_far.is in
            let bound : u.limits.objects ≡ t.limits.objects = ap (λ (l : Limits). l.objects) runs.same.limits in
            omega (arith, before, bound, room)
            );
      }

      -- a step of a put
      of_put : (q : Putting) → put.Needs q w → IsSum q.name.csum → ((p : Path) (s : Seen) → WritesOf u w p s → put.WritesOf q w p s)
          → (w.now.at (path_of q.name) ≡ Absent → AreLacked t v.now (q.name ∷ so_far.names))
          → (met : Option (ObjName × Put)) → Met q.name q.phase met → CameOf count u.limits.objects met q w x → (next : ℕ) → IsCounted count met next → Counts t v first x next
      of_put q has sum only more None met came next counted = kept next counted (λ name s a. met (puts_link q w has name s (only (path_of name) s a)))
      of_put q has sum only more (Some (name, Present)) met came next counted = same_view next counted came.1
      of_put q has sum only more (Some (name, Stored)) met came next counted =
          let bound : u.limits.objects < 2 ^ 32 = needs.made.bound in
          let room : count < u.limits.objects = came.1 in
          stored q has (more came.0.0) (came_there q w x Stored has.made came.0) sum only next (omega (arith, counted, bound, room)) room

      calm : (ph : Phase) → IsCalm ph → u.phase ≡ ph → (new : Committing) → IsStepped {E = Unit {0}} count u (Ok More) new → (next : ℕ) → IsCounted count new.met next → Counts t v first x next
      calm ph calm_ is new stepped next counted =
          let none : new.met ≡ None = met_calm u ph new.phase new.made new.met calm_ (subst (λ f. Follows u f new.phase new.made new.met) is stepped.1) in
          kept next (subst (λ m. IsCounted count m next) none counted) (λ name s a. calm_off ph calm_ w name s (subst (λ f. writes_in f w (path_of name) s) is a))

      by_phase : (ph : Phase) → u.phase ≡ ph → (new : Committing) → IsStepped {E = Unit {0}} count u (Ok More) new → came_in count u.limits.objects ph new.met w x
          → (next : ℕ) → IsCounted count new.met next → Counts t v first x next
      by_phase (phase.Put q) is new stepped came next counted =
          let last = (kept_as u needs.made (phase.Put q) is).1 in
          let of = of_work t v u w needs runs last.last.number last.object last.last.object in
          of_put q (needs_as u w needs (phase.Put q) is).0 (subst (λ (n : ObjName). IsSum n.csum) (sym last.puts.name) (of_commit_sum t last.object of))
          (λ p s a. subst (λ f. writes_in f w p s) is a) (more_of_put u.phase refl q is) new.met
          (met_put u q new.phase new.made new.met (subst (λ f. Follows u f new.phase new.made new.met) is stepped.1)) came next counted
      by_phase (phase.PutCommit q) is new stepped came next counted =
          let puts = (kept_as u needs.made (phase.PutCommit q) is).2 in
          of_put q (needs_as u w needs (phase.PutCommit q) is).0 (subst (λ (n : ObjName). IsSum n.csum) (sym puts.name) (of_commit_sum t _ (inr (same_commit t v u w needs runs))))
          (λ p s a. subst (λ f. writes_in f w p s) is a) (more_of_commit u.phase refl q is) new.met
          (met_commit u q new.phase new.made new.met (subst (λ f. Follows u f new.phase new.made new.met) is stepped.1)) came next counted
      by_phase phase.Check is new stepped came next counted = calm phase.Check tt is new stepped next counted
      by_phase phase.Make is new stepped came next counted = calm phase.Make tt is new stepped next counted
      by_phase (phase.Made c) is new stepped came next counted = calm (phase.Made c) tt is new stepped next counted
      by_phase phase.SyncObjects is new stepped came next counted = calm phase.SyncObjects tt is new stepped next counted
      by_phase phase.MakeCommit is new stepped came next counted = calm phase.MakeCommit tt is new stepped next counted
      by_phase (phase.SyncCommit sum) is new stepped came next counted = calm (phase.SyncCommit sum) tt is new stepped next counted
      by_phase (phase.Unmark sum) is new stepped came next counted = calm (phase.Unmark sum) tt is new stepped next counted
      by_phase (phase.SyncState sum) is new stepped came next counted = calm (phase.SyncState sum) tt is new stepped next counted
      by_phase (phase.Ended sum) is new stepped came next counted = calm (phase.Ended sum) tt is new stepped next counted

      pub counts_on : (new : Committing) → IsStepped {E = Unit {0}} count u (Ok More) new → came_in count u.limits.objects u.phase new.met w x
          → (next : ℕ) → IsCounted count new.met next → Counts t v first x next
      counts_on new stepped came next counted = by_phase u.phase refl new stepped came next counted
