-- What each step of a copy needs, and what it writes.
use Rattle.std.specs.Prelude.{◌≡◌, ◌≢◌, ℕ, List, [], length, Some}
use Rattle.ost_types.specs.Path.{Path}
use Rattle.fs_trait.specs.View.{View}
use Rattle.fs_trait.specs.Image.{reads}
use Rattle.fs_trait.specs.Seen.{Seen}
use Rattle.staging.specs.declared.phase.Phase.TheVariants.{Append}
use Rattle.staging.specs.Steps as staging
use Rattle.file_copy.specs.Copying.{Copying, draft}

-- what the next step may write: what staging a file does, whatever its bytes
abbrev pub WritesOf : Copying → View → Path → Seen → Type 0
WritesOf t v = staging.WritesOf (draft t []) v

-- What the next step needs: a regular file stands where the bytes come from, apart from the staging path, and the copy is staged
-- with its bytes.
pub record Needs (t : Copying) (v : View) : Type 0 where
  pub apart : t.from ≢ t.stage
  pub bytes : List ℕ
  pub source : reads v.now t.from ≡ Some bytes
  pub sized : t.phase ≡ Append → t.size ≡ length bytes
  pub staged : staging.Needs (draft t bytes) v
