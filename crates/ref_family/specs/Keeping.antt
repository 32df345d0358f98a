-- What a command on refs writes keeps what a store keeps: nothing of it, or a ref, which comes to name a commit that lasts.
use Rattle.std.proofs.Common.{◌≡◌, inl, inr, ⊎_elim, ℕ, refl, sym, ◌∙◌, ap, subst, List, Option, Some}
use Rattle.ost_types.specs.declared.limits.Limits.{Limits}
use Rattle.ost_types.specs.declared.object.Kind.TheVariants.{Commit as CommitKind}
use Rattle.ost_types.specs.declared.object.ObjName.{ObjName}
use Rattle.ost_types.specs.Path.{Path}
use Rattle.fs_trait.specs.View.{View}
use Rattle.fs_trait.specs.Seen.{Seen, Vacant, Directory, Symlink, Leaf, IsDirectory, bytes_in}
use Rattle.repo_layout.specs.Paths.{config_path, mark_path, ref_path, stage_path}
use Rattle.repo_layout.specs.Place.{Config, Mark, Object, Ref, Stage, place}
use Rattle.repo_layout.specs.RefFile.{IsSum, ref_text}
use Rattle.repo_layout.proofs.Places.{place-config, place-mark, place-object, ref_path-injective}
use Rattle.repo_model.specs.Objects.{Store, path_of}
use Rattle.repo_model.specs.Trees.{name_of}
use Rattle.ref_room.proofs.Stable.{way_lies, clearing_lies}
use Rattle.staged_file.specs.declared.phase.Phase as staged
use Rattle.staged_file.specs.declared.phase.Phase.TheVariants as file
use Rattle.staged_file.specs.Staged.{Staged}
use Rattle.staged_file.specs.Steps as staging
use Rattle.ref_store.specs.declared.phase.Phase.{Phase}
use Rattle.ref_store.specs.declared.phase.Phase.TheVariants as phase
use Rattle.ref_store.specs.Change.{Change, IsRefFile}
use Rattle.ref_store.specs.Steps.{writes_in, WritesOf}
use Rattle.ref_store.proofs.StepLemmas.{meets_in, made}
use Rattle.rely_guarantee.specs.declared.event.Event.TheVariants.{SetRef}
use Rattle.rely_guarantee.specs.Books.{Books}
use Rattle.rely_guarantee.specs.Disks.{IsLeaf, Says}
use Rattle.rely_guarantee.specs.Laws.{Publish}
use Rattle.rely_guarantee.specs.State.{RefOf}
use Rattle.rely_guarantee.proofs.Calls.{stage_no_ref}
use Rattle.rely_guarantee.proofs.States.{says_leaf, says_one}
use Rattle.ref_command.specs.Kept.{stage_is}
use Rattle.ref_command.specs.Kinds.{event_of, event, kind_at, kind_in}
use Rattle.ref_store.specs.Change as change
use Rattle.rely_guarantee.specs.Lasting.{StaysFinished}
use Rattle.ref_command.specs.declared.command.RefCommand.{RefCommand}
use Rattle.ref_command.specs.declared.command.RefCommand.TheVariants.{Parse, Reset, Change as Changes}
use Rattle.ref_command.specs.Commands.{command_facts, command_writes}
use Rattle.ref_command.specs.Facts.{Facts}
use Rattle.ref_command.specs.Placed.{ref_places}
use Rattle.ref_command.proofs.Resets.{reset_founded}
use Rattle.durable_store.specs.Writing.{KeepsStore}
use Rattle.durable_store.proofs.Silent.{silent_keeps}

no_leaf : (s : Seen) → IsDirectory s → IsLeaf s → ⊥
no_leaf (Directory m) is leaf = leaf
no_leaf Vacant is leaf = is
no_leaf (Symlink m t) is leaf = is
no_leaf (Leaf n m b) is leaf = is

module _ (limits : Limits) (brings : Store) (lane : ℕ) (t : Change) (v : View) (b : Books) (f : Facts lane t v b) where
  no_object : (name : ObjName) → IsSum name.csum → (s : Seen) → WritesOf t v (path_of name) s → ⊥
  no_object name sum s wrote = ⊎_elim
      (λ stage. (let n : Object name.kind name.csum ≡ Stage lane = sym (place-object name.kind name.csum sum) ∙ stage in cc))
      (λ ref. (let n : Object name.kind name.csum ≡ Ref ref.0 = sym (place-object name.kind name.csum sum) ∙ ref.1 in cc))
      (ref_places t v lane f.needs f.mine (path_of name) s wrote)

  no_mark : (commit : List ℕ) → IsSum commit → (s : Seen) → WritesOf t v (mark_path commit) s → ⊥
  no_mark commit sum s wrote = ⊎_elim
      (λ stage. (let n : Mark commit ≡ Stage lane = sym (place-mark commit sum) ∙ stage in cc))
      (λ ref. (let n : Mark commit ≡ Ref ref.0 = sym (place-mark commit sum) ∙ ref.1 in cc))
      (ref_places t v lane f.needs f.mine (mark_path commit) s wrote)

  no_config : (s : Seen) → WritesOf t v config_path s → ⊥
  no_config s wrote = ⊎_elim
      (λ stage. (let n : Config ≡ Stage lane = sym place-config ∙ stage in cc))
      (λ ref. (let n : Config ≡ Ref ref.0 = sym place-config ∙ ref.1 in cc))
      (ref_places t v lane f.needs f.mine config_path s wrote)

  -- A ref comes to name a commit only in the step that shows that change.
  module _ (name commit : List ℕ) (s : Seen) (says : Says (RefOf name) (Some commit) s) where
    leaf : IsLeaf s
    leaf = says_leaf name commit s says

    not_vacant : s ≡ Vacant → ⊥
    not_vacant none = let bad : IsLeaf Vacant = subst IsLeaf none leaf in bad

    not_staged : (p : Path) → p ≡ stage_path t.actor → ref_path name ≡ p → ⊥
    not_staged p e at = stage_no_ref (RefOf name) p lane (ap place e ∙ stage_is t lane f.needs.actor f.mine) at

    -- the new file of the ref
    module _ (g : Staged) (is : t.phase ≡ phase.Put g) where
      file_of : IsRefFile t g
      file_of = made t v f.needs (phase.Put g) is

      shows_new : ref_path name ≡ g.at → staging.IsWhole g v s → event t ≡ SetRef name t.seen commit
      shows_new at whole =
          let n : name ≡ t.name = ref_path-injective name t.name (at ∙ file_of.at) in
          let bytes : bytes_in s ≡ Some (ref_text file_of.commit) = ap bytes_in whole.1 ∙ ap Some file_of.bytes in
          let c : Some commit ≡ Some file_of.commit = says_one (RefOf name) (Some commit) (Some file_of.commit) s says (file_of.sum, bytes) in
          let same : commit ≡ file_of.commit = cc in
          ap (λ o. event_of o t.name t.seen) file_of.value ∙ ap (λ x. SetRef x t.seen file_of.commit) (sym n) ∙ ap (λ x. SetRef name t.seen x) (sym same)

      file_shows : (ph : staged.Phase) → g.phase ≡ ph → staging.writes_in ph g v (ref_path name) s → kind_at (change.progress_of ph) (event t) ≡ Publish (SetRef name t.seen commit)
      file_shows file.Clear e wrote = absurd (not_vacant wrote.1)
      file_shows file.Create e wrote = absurd (not_staged g.stage file_of.stage wrote.0)
      file_shows file.Append e wrote = absurd (not_staged g.stage file_of.stage wrote.0)
      file_shows file.SyncFile e wrote = absurd wrote
      file_shows file.Look e wrote = absurd wrote
      file_shows file.Replace e (inl a) = ap Publish (shows_new a.0 a.1)
      file_shows file.Replace e (inr a) = absurd (not_vacant a.1)
      file_shows file.SyncFolder e wrote = absurd wrote
      file_shows file.Ended e wrote = absurd wrote

    shows_in : (ph : Phase) → t.phase ≡ ph → writes_in ph t v (ref_path name) s → kind_in ph (event t) ≡ Publish (SetRef name t.seen commit)
    shows_in phase.Look is wrote = absurd wrote
    shows_in (phase.Clear c) is wrote = absurd (not_vacant (clearing_lies c v (meets_in t v f.needs (phase.Clear c) is).1 (ref_path name) s wrote).vacant)
    shows_in (phase.Walk y) is wrote = absurd (no_leaf s (way_lies y v (meets_in t v f.needs (phase.Walk y) is).1 (ref_path name) s wrote).folder leaf)
    shows_in (phase.Put g) is wrote = file_shows g is g.phase refl wrote
    shows_in phase.Unlink is wrote = absurd (not_vacant wrote.1)
    shows_in phase.SyncFolder is wrote = absurd wrote
    shows_in phase.Ended is wrote = absurd wrote

  pub change_keeps : ((name : List ℕ) (seen : Option (List ℕ)) (commit : List ℕ) → kind_in t.phase (event t) ≡ Publish (SetRef name seen commit) → StaysFinished v commit) → KeepsStore limits brings v (WritesOf t v)
  change_keeps founded = record {
    objects = λ name sum s wrote. absurd (no_object name sum s wrote);
    one = inl no_object;
    commits = λ commit sum. inr (inl (record { object = λ s wrote. no_object (name_of CommitKind commit) sum s wrote; mark = λ s wrote. absurd (no_mark commit sum s wrote) }));
    refs = λ name commit s wrote says. founded name t.seen commit (shows_in name commit s says t.phase refl wrote);
    config = no_config;
  }

pub refs_keep : (limits : Limits) (brings : Store) (actor lane : ℕ) (t : RefCommand) (v : View) (b : Books) → command_facts lane t v b → KeepsStore limits brings v (command_writes actor t v)
refs_keep limits brings actor lane (Parse look) v b f = silent_keeps limits brings v (command_writes actor (Parse look) v) (λ p s wrote. wrote)
refs_keep limits brings actor lane (Reset look plan) v b f = silent_keeps limits brings v (command_writes actor (Reset look plan) v) (λ p s wrote. wrote)
refs_keep limits brings actor lane (Changes work) v b f = change_keeps limits brings lane work.task v b f.ref (λ name seen commit shows. reset_founded lane (Changes work) v b name seen commit f shows)
