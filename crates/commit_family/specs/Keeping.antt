-- What a step of a commit writes keeps what a store keeps: its own objects are brought.
use Rattle.std.proofs.Common.{◌≡◌, ◌≢◌, ◌⊎◌, inl, inr, ⊎_elim, ℕ, Bool, true, false, refl, sym, ◌∙◌, ap, subst, List, Option, Some, None}
use Rattle.ost_types.specs.declared.limits.Limits.{Limits}
use Rattle.ost_types.specs.declared.object.Kind.TheVariants.{Commit}
use Rattle.ost_types.specs.declared.object.ObjName.{ObjName}
use Rattle.ost_types.specs.Path.{same_name}
use Rattle.ost_types.proofs.Paths.{same_name-Decides}
use Rattle.ost_objects.specs.Object.{IsNamed, HasForm}
use Rattle.fs_trait.specs.View.{View}
use Rattle.fs_trait.specs.Seen.{Seen}
use Rattle.repo_layout.specs.Paths.{config_path, mark_path, ref_path}
use Rattle.repo_layout.specs.Place.{Mark, Stage, place}
use Rattle.repo_layout.specs.RefFile.{IsSum}
use Rattle.repo_layout.proofs.Places.{place-config, place-mark, place-ref, mark_path-injective}
use Rattle.repo_model.specs.Objects.{Store}
use Rattle.repo_model.specs.Trees.{name_of}
use Rattle.repo_model.proofs.Named.{IsSum-named}
use Rattle.tree_build.specs.Items.{IsTree}
use Rattle.tree_build.specs.Makeable.{AreMakeable}
use Rattle.tree_build.specs.Objects.{Object}
use Rattle.obj_store.specs.Putting.{Putting}
use Rattle.obj_store.specs.Steps as put
use Rattle.obj_store.proofs.Stable.{put_lies}
use Rattle.commit_build.specs.declared.phase.Phase.{Phase}
use Rattle.commit_build.specs.declared.phase.Phase.TheVariants as phase
use Rattle.commit_build.specs.Committing.{Committing, Puts, ReadsBack, parts_of}
use Rattle.commit_build.specs.Steps.{Needs, WritesOf, writes_in, AreSure}
use Rattle.commit_build.specs.Whole.{its_commit}
use Rattle.commit_build.proofs.Mild.{mark_object, mark_folder}
use Rattle.commit_build.proofs.Named.{work_named, work_plain, work_sum}
use Rattle.commit_build.proofs.PutSteps.{needs_as, kept_as}
use Rattle.commit_build.proofs.Stable.{commit_lies}
use Rattle.commit_build.proofs.Wholes.{of_commit_sum}
use Rattle.commit_durability.specs.Lasting.{IsOf}
use Rattle.rely_guarantee.specs.declared.event.Event.TheVariants.{SetRef}
use Rattle.rely_guarantee.specs.Books.{Books}
use Rattle.rely_guarantee.specs.Lasting.{IsSafe, StaysFinished}
use Rattle.rely_guarantee.specs.Laws.{Publish}
use Rattle.commit_command.specs.declared.command.CommitCommand.{CommitCommand}
use Rattle.commit_command.specs.declared.naming.Naming.{Naming}
use Rattle.commit_command.specs.Facts.{commit_facts, facts_by}
use Rattle.commit_command.specs.Kinds.{commit_writes, kind_by, writes_by}
use Rattle.commit_command.specs.Lying.{OfBuild, build_place, stage_place}
use Rattle.ref_family.specs.Keeping.{change_keeps}
use Rattle.commit_family.specs.Steps.{commits_founds}
use Rattle.durable_store.specs.Standing.{IsSealed, IsSoundSeen}
use Rattle.durable_store.specs.Writing.{KeepsStore}
use Rattle.durable_store.proofs.Silent.{keeps_within, silent_keeps}
use Rattle.commit_family.specs.Formed.{work_formed}
use Rattle.commit_family.specs.Objects.{put_there}
use Rattle.commit_family.specs.MadeUp.{brought_by, makes_up, objects_of, of_objects}

same_or : (a b : List ℕ) → (a ≡ b) ⊎ (a ≡ b → ⊥)
same_or a b = by (same_name a b) refl
  where
    by : (r : Bool) → same_name a b ≡ r → (a ≡ b) ⊎ (a ≡ b → ⊥)
    by true is = inl ((same_name-Decides a b).0 is)
    by false is = inr (λ e. (let n : true ≡ false = sym ((same_name-Decides a b).1 e) ∙ is in cc))

-- a put writes at no mark's path
module _ (o : Object) (named : IsNamed o.name o.bytes) (actor : ℕ) (q : Putting) (v : View) (has : put.Needs q v) (puts : Puts actor o q) where
  put_mark : (commit : List ℕ) → IsSum commit → (s : Seen) → put.WritesOf q v (mark_path commit) s → ⊥
  put_mark commit sum s wrote = ⊎_elim
      (λ a. (let n : Mark commit ≡ Stage q.actor = sym (place-mark commit sum) ∙ ap place a.0 ∙ stage_place q.actor has.made.actor in cc))
      (λ more. ⊎_elim (λ a. mark_folder commit q.name.csum a.0) (λ a. mark_object commit q.name a.0) more)
      (put_lies q v has (mark_path commit) s wrote).place

module _ (limits : Limits) (brings : Store) (t : Committing) (v : View) (needs : Needs t v) (same : t.limits ≡ limits) (each : (o : Object) → IsOf t.items t.message o → brings o.name o.bytes) where
  sum_is : IsSum (its_commit t).name.csum
  sum_is = of_commit_sum t (its_commit t) (inr refl)

  -- once all objects of its tree are sure to last
  sealed : IsTree t.items → ReadsBack t.items t.message → AreSure t.items v → IsSealed limits brings v (its_commit t).name.csum
  sealed whole reads sure = record {
    objects = objects_of t.items t.message;
    brought = brought_by t.items t.message brings each;
    is = makes_up t.items t.message limits (record { items = needs.made.items; typed = needs.made.typed; whole = whole; makeable = subst (λ l. AreMakeable l t.items) same needs.made.makeable; reads = reads });
    safe = λ o among plain. safe_of o plain (of_objects t.items t.message o among);
  }
    where
      safe_of : (o : Object) → o.name.kind ≢ Commit → IsOf t.items t.message o → IsSafe v o.name
      safe_of o plain (inl n) = let s = sure.each n.0 o n.1 in record { sum = work_sum t.items n.0 o n.1; there = s.there; above = s.above }
      safe_of o plain (inr e) = absurd (plain (ap (λ (x : Object). x.name.kind) e))

  no_ref : (name : List ℕ) (s : Seen) → WritesOf t v (ref_path name) s → ⊥
  no_ref name s wrote = subst (OfBuild t.actor) (place-ref name) (build_place t v needs.made.actor (ref_path name) s (commit_lies t v needs (ref_path name) s wrote))

  no_config : (s : Seen) → WritesOf t v config_path s → ⊥
  no_config s wrote = subst (OfBuild t.actor) place-config (build_place t v needs.made.actor config_path s (commit_lies t v needs config_path s wrote))

  module _ (ph : Phase) (is : t.phase ≡ ph) where
    phase_ref : (name : List ℕ) (s : Seen) → writes_in ph v (ref_path name) s → ⊥
    phase_ref name s wrote = no_ref name s (subst (λ f. writes_in f v (ref_path name) s) (sym is) wrote)

    phase_config : (s : Seen) → writes_in ph v config_path s → ⊥
    phase_config s wrote = no_config s (subst (λ f. writes_in f v config_path s) (sym is) wrote)

  -- an object of the commit is put
  module _ (o : Object) (named : IsNamed o.name o.bytes) (formed : HasForm o.name.kind limits.content o.bytes) (q : Putting) (has : put.Needs q v) (puts : Puts t.actor o q) where
    put_keeps : ((commit : List ℕ) → IsSealed limits brings v commit ⊎ (name_of Commit commit ≡ o.name → ⊥)) → ((name : List ℕ) (s : Seen) → put.WritesOf q v (ref_path name) s → ⊥) → ((s : Seen) → put.WritesOf q v config_path s → ⊥)
        → KeepsStore limits brings v (put.WritesOf q v)
    put_keeps commits no_refs no_configs = record {
      objects = λ name sum s wrote.
          let at = put_there o named t.actor q v has puts name sum s wrote in
          subst (λ n. IsSoundSeen limits.content n s) (sym at.0) (record { bytes = o.bytes; holds = at.1; named = named; formed = formed });
      one = inr (o.name, IsSum-named o.name o.bytes named, λ name sum s wrote. (put_there o named t.actor q v has puts name sum s wrote).0);
      commits = λ commit sum. ⊎_elim
          (λ seal. inl seal)
          (λ other. inr (inl (record {
            object = λ s wrote. other (put_there o named t.actor q v has puts (name_of Commit commit) sum s wrote).0;
            mark = λ s wrote. absurd (put_mark o named t.actor q v has puts commit sum s wrote);
          })))
          (commits commit);
      refs = λ name commit s wrote says. absurd (no_refs name s wrote);
      config = no_configs;
    }

  other_name : (commit : List ℕ) → (commit ≡ (its_commit t).name.csum → ⊥) → name_of Commit commit ≡ (its_commit t).name → ⊥
  other_name commit other e = other (ap (λ (n : ObjName). n.csum) e)

  -- the commit itself, or its mark
  commit_cases : IsSealed limits brings v (its_commit t).name.csum → (commit : List ℕ) → IsSealed limits brings v commit ⊎ (commit ≡ (its_commit t).name.csum → ⊥)
  commit_cases it commit = ⊎_elim (λ e. inl (subst (IsSealed limits brings v) (sym e) it)) (λ other. inr other) (same_or commit (its_commit t).name.csum)

  build_in : (ph : Phase) → t.phase ≡ ph → KeepsStore limits brings v (writes_in ph v)
  build_in phase.Check is = silent_keeps limits brings v (writes_in phase.Check v) (λ p s wrote. wrote)
  build_in phase.Make is = silent_keeps limits brings v (writes_in phase.Make v) (λ p s wrote. wrote)
  build_in (phase.Made c) is = silent_keeps limits brings v (writes_in (phase.Made c) v) (λ p s wrote. wrote)
  build_in (phase.Put q) is =
      let last = (kept_as t needs.made (phase.Put q) is).1 in
      let n = last.last.number in
      let o = last.object in
      let number = last.last.object in
      put_keeps o (work_named t.items n o number)
      (subst (λ (l : Limits). HasForm o.name.kind l.content o.bytes) same (work_formed t.limits t.items n o needs.made.items needs.made.typed needs.made.makeable number))
      q (needs_as t v needs (phase.Put q) is).0 last.puts
      (λ commit. inr (λ e. work_plain t.items n o number (ap (λ (x : ObjName). x.kind) (sym e))))
      (phase_ref (phase.Put q) is)
      (phase_config (phase.Put q) is)
  build_in phase.SyncObjects is = silent_keeps limits brings v (writes_in phase.SyncObjects v) (λ p s wrote. wrote)
  build_in phase.MakeCommit is = silent_keeps limits brings v (writes_in phase.MakeCommit v) (λ p s wrote. wrote)
  build_in (phase.PutCommit q) is =
      let k = kept_as t needs.made (phase.PutCommit q) is in
      let has = needs_as t v needs (phase.PutCommit q) is in
      put_keeps (its_commit t) refl ∣ (parts_of t.items t.message, k.3) ∣₁ q has.0 k.2
      (λ commit. ⊎_elim (λ it. inl it) (λ other. inr (other_name commit other)) (commit_cases (sealed k.0 k.3 has.1) commit))
      (phase_ref (phase.PutCommit q) is)
      (phase_config (phase.PutCommit q) is)
  build_in (phase.SyncCommit sum) is = silent_keeps limits brings v (writes_in (phase.SyncCommit sum) v) (λ p s wrote. wrote)
  build_in (phase.Unmark mark) is =
      let k = kept_as t needs.made (phase.Unmark mark) is in
      let has = needs_as t v needs (phase.Unmark mark) is in
      let own : mark ≡ (its_commit t).name.csum = ap (λ (x : ObjName). x.csum) k.1.name in
      record {
        objects = λ name sum s wrote. absurd (mark_object mark name (sym wrote.0));
        one = inl (λ name sum s wrote. mark_object mark name (sym wrote.0));
        commits = λ commit sum. ⊎_elim
            (λ it. inl it)
            (λ other. inr (inl (record {
              object = λ s wrote. mark_object mark (name_of Commit commit) (sym wrote.0);
              mark = λ s wrote. absurd (other (mark_path-injective commit (its_commit t).name.csum sum sum_is (wrote.0 ∙ ap mark_path own)));
            })))
            (commit_cases (sealed k.0 k.1.reads has.0) commit);
        refs = λ name commit s wrote says. absurd (phase_ref (phase.Unmark mark) is name s wrote);
        config = phase_config (phase.Unmark mark) is;
      }
  build_in (phase.SyncState sum) is = silent_keeps limits brings v (writes_in (phase.SyncState sum) v) (λ p s wrote. wrote)
  build_in (phase.Ended sum) is = silent_keeps limits brings v (writes_in (phase.Ended sum) v) (λ p s wrote. wrote)

  pub build_keeps : KeepsStore limits brings v (WritesOf t v)
  build_keeps = build_in t.phase refl

-- a step of the command: of the build, or of the change of the ref
module _ (limits : Limits) (brings : Store) (actor lane : ℕ) (t : CommitCommand) (v : View) (b : Books) where
  keeps_by : (o : Option Naming) → facts_by o lane t v b → t.build.limits ≡ limits → ((x : Object) → IsOf t.build.items t.build.message x → brings x.name x.bytes)
      → ((name : List ℕ) (seen : Option (List ℕ)) (commit : List ℕ) → kind_by o t ≡ Publish (SetRef name seen commit) → StaysFinished v commit) → KeepsStore limits brings v (writes_by o actor t v)
  keeps_by None f same each founded = keeps_within limits brings v (WritesOf t.build v) (writes_by None actor t v) (λ p s wrote. wrote.0) (build_keeps limits brings t.build v f.needs same each)
  keeps_by (Some n) f same each founded = change_keeps limits brings lane n.work.task v b f.ref founded

  pub commits_keep_store : commit_facts lane t v b → t.build.limits ≡ limits → ((x : Object) → IsOf t.build.items t.build.message x → brings x.name x.bytes) → KeepsStore limits brings v (commit_writes actor t v)
  commits_keep_store f same each = keeps_by t.change f same each (λ name seen commit shows. commits_founds lane t v b (SetRef name seen commit) f shows)
