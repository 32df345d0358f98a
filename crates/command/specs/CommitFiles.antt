-- Commits as files.
use Rattle.std.proofs.Common.{◌≡◌, ◌≢◌, ℕ, true, false, sym, subst, List, IsSome}
use Rattle.ost_types.specs.declared.object.Kind.TheVariants.{Commit}
use Rattle.fs_trait.specs.Image.{reads}
use Rattle.fs_trait.specs.Seen.{Seen, Vacant, Directory, Symlink, Leaf, bytes_in, shows}
use Rattle.fs_trait.specs.View.{Disk, View}
use Rattle.fs_trait.proofs.Claims.{reads_shows}
use Rattle.fs_trait.proofs.Effects.{may_now}
use Rattle.repo_layout.specs.Paths.{mark_path, object_path}
use Rattle.repo_layout.specs.RefFile.{IsSum}
use Rattle.rely_guarantee.specs.Disks.{IsLeaf}
use Rattle.rely_guarantee.specs.Lasting.{StaysFinished}

-- nothing stands at the path of a commit's object, or a file
abbrev pub CommitsAreFiles : Disk → Type 0
CommitsAreFiles d = (commit : List ℕ) → IsSum commit → shows d (object_path Commit commit) ≢ Vacant → IsSome (bytes_in (shows d (object_path Commit commit)))

-- then a commit that lasts is read,
pub commit_read : (v : View) (commit : List ℕ) → CommitsAreFiles v.now → StaysFinished v commit → IsSome (reads v.now (object_path Commit commit))
commit_read v commit files finished =
    let at = object_path Commit commit in
    subst IsSome (sym (reads_shows v.now at)) (files commit finished.there.sum (finished.there.there (shows v.now at) (may_now v at)))

leaf_file : (s : Seen) → IsSome (bytes_in s) → IsLeaf s
leaf_file (Leaf n m bytes) is = tt
leaf_file (Symlink m target) is = tt
leaf_file Vacant is = let n : false ≡ true = is in cc
leaf_file (Directory m) is = let n : false ≡ true = is in cc

-- and no mark of it
pub no_mark_read : (v : View) (commit : List ℕ) → StaysFinished v commit → IsSome (reads v.now (mark_path commit)) → ⊥
no_mark_read v commit finished marked =
    let at = mark_path commit in
    finished.unmarked.each (shows v.now at) (may_now v at) (leaf_file (shows v.now at) (subst IsSome (reads_shows v.now at) marked))
