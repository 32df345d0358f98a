-- The ref of a commit is set only to the commit that lasts.
use Rattle.std.proofs.Common.{◌≡◌, ℕ, inr, refl, subst, List, Option}
use Rattle.fs_trait.specs.View.{View}
use Rattle.fs_trait.specs.Seen.{Seen, Vacant, Directory, Symlink, Leaf}
use Rattle.commit_build.specs.Committing.{Committing}
use Rattle.commit_build.specs.Steps.{NotLeaf}
use Rattle.commit_build.specs.Whole.{its_commit}
use Rattle.commit_build.proofs.Wholes.{of_commit_sum}
use Rattle.rely_guarantee.specs.declared.event.Event.TheVariants.{SetRef}
use Rattle.rely_guarantee.specs.Books.{Books}
use Rattle.rely_guarantee.specs.Disks.{IsLeaf}
use Rattle.rely_guarantee.specs.Lasting.{StaysFinished}
use Rattle.rely_guarantee.specs.Laws.{Publish}
use Rattle.commit_command.specs.declared.command.CommitCommand.{CommitCommand}
use Rattle.commit_command.specs.Kinds.{commit_kind}
use Rattle.commit_command.specs.Facts.{Lasts, commit_facts}
use Rattle.commit_command.proofs.Ends.{shown_of}

no_leaf : (s : Seen) → NotLeaf s → IsLeaf s → ⊥
no_leaf Vacant none leaf = leaf
no_leaf (Directory m) none leaf = leaf
no_leaf (Symlink m t) none leaf = none
no_leaf (Leaf n m b) none leaf = none

-- a commit that lasts is one that each crash leaves without a mark
pub lasts_finished : (t : Committing) (v : View) → Lasts t v → StaysFinished v (its_commit t).name.csum
lasts_finished t v lasts = record {
  there = record { sum = of_commit_sum t (its_commit t) (inr refl); there = lasts.commit.there; above = lasts.commit.above };
  unmarked = record { each = λ s may leaf. no_leaf s (lasts.unmarked.each s may) leaf };
}

pub commit_founded : (lane : ℕ) (t : CommitCommand) (v : View) (b : Books) (name : List ℕ) (seen : Option (List ℕ)) (commit : List ℕ) → commit_facts lane t v b → commit_kind t ≡ Publish (SetRef name seen commit) → StaysFinished v commit
commit_founded lane t v b name seen commit f is =
    let shown = shown_of lane t v b (SetRef name seen commit) f is in
    let event : SetRef name seen commit ≡ SetRef t.name t.build.message.parent (its_commit t.build).name.csum = shown.0 in
    let same : (its_commit t.build).name.csum ≡ commit = cc in
    subst (StaysFinished v) same (lasts_finished t.build v shown.2)
