-- Where a step writes: in a deployment, or at its origin file, where something goes.
use Rattle.std.proofs.Common.{◌≡◌, ⊎_elim, ℕ, [], sym, subst}
use Rattle.ost_types.specs.declared.object.ObjName.{ObjName}
use Rattle.ost_types.specs.Path.{Name, Path}
use Rattle.fs_trait.specs.Change.{Writes}
use Rattle.fs_trait.specs.Seen.{NotDirectory, Seen, Vacant, shows}
use Rattle.fs_trait.specs.View.{View}
use Rattle.repo_layout.specs.BootPaths.{checkout_path}
use Rattle.repo_layout.specs.Paths.{config_path, mark_path, ref_path, stage_path}
use Rattle.repo_layout.specs.Place.{Place, Checkout, Config, Mark, Object, Ref, place}
use Rattle.repo_layout.specs.RefFile.{IsSum}
use Rattle.repo_layout.proofs.Places.{place-checkout, place-config, place-mark, place-object, place-ref}
use Rattle.repo_model.specs.Objects.{path_of}
use Rattle.rely_guarantee.specs.Books.{Books}
use Rattle.durable_store.specs.Writing.{IsApart}
use Rattle.clean_command.specs.declared.command.CleanCommand.{CleanCommand}
use Rattle.clean_command.specs.Commands.{clean_writes}
use Rattle.clean_command.specs.Facts.{clean_facts}
use Rattle.clean_command.specs.Places.{IsDeployed}
use Rattle.clean_command.proofs.Sparing.{written_place}
use Rattle.command.specs.Staging.{StagingPathFree}

module _ (actor lane : ℕ) (t : CleanCommand) (v : View) (b : Books) (f : clean_facts lane t v b) where
  pub vacates : (p : Path) (s : Seen) → clean_writes actor t v p s → s ≡ Vacant
  vacates p s wrote = (written_place actor lane t v b p s f wrote).1

  -- what has another place is never written
  elsewhere : (p : Path) (x : Place) (s : Seen) → place p ≡ x → clean_writes actor t v p s → IsDeployed x
  elsewhere p x s at wrote = subst IsDeployed at (written_place actor lane t v b p s f wrote).0

  pub no_object : (name : ObjName) → IsSum name.csum → (s : Seen) → clean_writes actor t v (path_of name) s → ⊥
  no_object name sum s wrote = elsewhere (path_of name) (Object name.kind name.csum) s (place-object name.kind name.csum sum) wrote

  pub no_checkout : (name : Name) (s : Seen) → clean_writes actor t v (checkout_path name) s → ⊥
  no_checkout name s wrote = elsewhere (checkout_path name) (Checkout name []) s (place-checkout name []) wrote

  pub writes_apart : IsApart (clean_writes actor t v)
  writes_apart = record {
    objects = no_object;
    marks = λ commit sum s wrote. elsewhere (mark_path commit) (Mark commit) s (place-mark commit sum) wrote;
    refs = λ name s wrote. elsewhere (ref_path name) (Ref name) s (place-ref name) wrote;
    config = λ s wrote. elsewhere config_path Config s place-config wrote;
  }

  -- no folder comes where anyone stages
  pub no_stage : (who : ℕ) (w : View) → Writes (clean_writes actor t v) v w → StagingPathFree who v → StagingPathFree who w
  no_stage who w writes free = ⊎_elim
      (λ same. subst NotDirectory (sym same) free)
      (λ wrote. subst NotDirectory (sym (vacates (stage_path who) (shows w.now (stage_path who)) wrote)) tt)
      (writes.now (stage_path who))
