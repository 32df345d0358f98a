-- What is finished in the view that an opening leaves is what each crash leaves.
use Rattle.std.proofs.Common.{◌≢◌, sym, ◌∙◌, subst, List, ℕ}
use Rattle.ost_types.specs.declared.object.Kind.TheVariants.{Commit}
use Rattle.fs_trait.specs.declared.types.Value.TheVariants.{Absent}
use Rattle.fs_trait.specs.Image.{IsTree}
use Rattle.fs_trait.specs.View.{View}
use Rattle.fs_trait.proofs.Facts.{vacant_absent}
use Rattle.fs_trait.proofs.Ways.{folder_of}
use Rattle.repo_layout.specs.Paths.{objects_folder_path}
use Rattle.repo_layout.specs.RefFile.{IsSum}
use Rattle.repo_model.specs.Objects.{path_of}
use Rattle.repo_model.specs.Trees.{name_of}
use Rattle.rely_guarantee.specs.Lasting.{StaysFinished}
use Rattle.rely_guarantee.specs.Opening.{IsOpening}
use Rattle.rely_guarantee.specs.State.{State}
use Rattle.rely_guarantee.proofs.Beginnings.{opened_unmarked}
use Rattle.rely_guarantee.proofs.Lasting.{object_under, tail_of}
use Rattle.rely_guarantee.proofs.Openings.{leads_there}
use Rattle.store_check.specs.Commits.{IsFinished}

pub finished_opened : (start : State) (v : View) → IsOpening start v → IsTree v.now → (commit : List ℕ) → IsSum commit → IsFinished v.now commit → StaysFinished v commit
finished_opened start v begins tree commit sum finished =
    let name = name_of Commit commit in
    let folder = objects_folder_path commit in
    record {
      there = record {
        sum = sum;
        there = λ s may none. finished.there (vacant_absent v.now (path_of name) (sym ((begins.settled (path_of name)).each s may) ∙ none));
        above = leads_there start v tree begins folder (folder_of v.now tree folder (tail_of name) (subst (λ q. v.now.at q ≢ Absent) (object_under name) finished.there));
      };
      unmarked = opened_unmarked start v begins commit finished.unmarked;
    }
