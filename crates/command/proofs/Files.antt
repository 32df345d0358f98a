-- In a store that stands commits are files.
use Rattle.std.proofs.Common.{List}
use Rattle.ost_types.specs.declared.limits.Limits.{Limits}
use Rattle.ost_types.specs.declared.object.Kind.TheVariants.{Commit}
use Rattle.ost_types.specs.declared.object.ObjName.{ObjName}
use Rattle.fs_trait.specs.View.{View}
use Rattle.fs_trait.specs.Seen.{Seen, shows}
use Rattle.fs_trait.proofs.Effects.{may_now}
use Rattle.repo_layout.specs.Paths.{object_path}
use Rattle.repo_model.specs.Objects.{Store}
use Rattle.repo_model.specs.Trees.{name_of}
use Rattle.durable_store.specs.Standing.{StoreStands}
use Rattle.durable_store.proofs.Files.{commit_file}
use Rattle.command.specs.CommitFiles.{CommitsAreFiles}

pub stands_files : (limits : Limits) (brings : Store) (config : Seen → Type 0) (names : List ObjName) (v : View) → StoreStands limits brings config names v → CommitsAreFiles v.now
stands_files limits brings config names v stands commit sum there =
    let s = shows v.now (object_path Commit commit) in
    commit_file limits.content commit s (stands.objects (name_of Commit commit) sum s (may_now v (object_path Commit commit)) there)
