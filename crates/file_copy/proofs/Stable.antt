-- What a copy and a comparison begin with, and that their facts stay true under what others may write.
use Rattle.std.proofs.Common.{◌≡◌, ◌≢◌, ℕ, true, refl, sym, ◌∙◌, subst, List, [], Some}
use Rattle.ost_types.specs.declared.meta.Meta.{Meta}
use Rattle.ost_types.specs.Path.{Path, is_in}
use Rattle.fs_trait.specs.View.{Disk, View}
use Rattle.fs_trait.specs.Image.{reads}
use Rattle.fs_trait.specs.Seen.{Seen, Leaf, shows, MayBe, IsDirectory, NotDirectory}
use Rattle.fs_trait.specs.Change.{Fixed, Own, Writes}
use Rattle.staging.specs.declared.phase.Phase.TheVariants.{Clear, Append, Ended}
use Rattle.staging.specs.Steps as staging
use Rattle.staging.proofs.Begins.{needs_new}
use Rattle.staging.proofs.Stable as staged
use Rattle.staging.proofs.Stable.{staging_kept, staging_lies}
use Rattle.file_copy.specs.declared.comparing.ComparePhase.{ComparePhase}
use Rattle.file_copy.specs.declared.comparing.ComparePhase.TheVariants as phase
use Rattle.file_copy.specs.Comparing as compare
use Rattle.file_copy.specs.Comparing.{Agree, AreSame, Comparing}
use Rattle.file_copy.specs.Copying.{Copying, begun, draft}
use Rattle.file_copy.specs.CopySteps.{Needs, WritesOf}
use Rattle.file_copy.proofs.CopyLemmas.{reads_kept, unalike}

-- ---- a copy

-- what a new one needs: a regular file, and a staging path apart from it, at which no folder stands
pub copy_new : (from stage : Path) (meta : Meta) (v : View) (bytes : List ℕ) → from ≢ stage → reads v.now from ≡ Some bytes → staging.IsPlaced stage → NotDirectory (shows v.now stage)
    → ((p : Path) → is_in p stage ≡ true → IsDirectory (shows v.now p)) → Needs (begun from stage meta) v
copy_new from stage meta v bytes apart source placed leaf parents = record {
  apart = apart;
  bytes = bytes;
  source = source;
  sized = λ e. let no_ : Clear ≡ Append = e in cc;
  staged = needs_new (draft (begun from stage meta) bytes) v refl placed leaf parents;
}

-- where a write of the next step lies: as one of staging does
pub copy_lies : (t : Copying) (v : View) (needs : Needs t v) (p : Path) (s : Seen) → WritesOf t v p s → staged.Lies (draft t needs.bytes) v p s
copy_lies t v needs p s a = staging_lies (draft t needs.bytes) v needs.staged p s (unalike t needs.bytes v p s a)

-- The writes of others spare the copy: what is staged, and the file whose bytes are copied.
pub record Spares (W : Path → Seen → Type 0) (t : Copying) (v : View) : Type 0 where
  pub staged : staged.Spares W (draft t []) v
  pub source : (s : Seen) → W t.from s → ⊥

-- The facts of the copy stay true.
pub copy_kept : (W : Path → Seen → Type 0) (t : Copying) (v : View) → Spares W t v → Needs t v → (w : View) → Writes W v w → Needs t w
copy_kept W t v spares needs w writes = record {
  apart = needs.apart;
  bytes = needs.bytes;
  source = reads_kept W v w t.from writes spares.source ∙ needs.source;
  sized = needs.sized;
  staged = staging_kept W (draft t needs.bytes) v (record { stage = spares.staged.stage; parents = spares.staged.parents; own = spares.staged.own }) needs.staged w writes;
}

-- What stands at the staging path once the copy is done: a file of its own with all the bytes, which no crash takes.
pub record IsDone (t : Copying) (v : View) (bytes : List ℕ) : Type 0 where
  pub inode : ℕ
  pub here : shows v.now t.stage ≡ Leaf inode t.meta bytes
  pub own : (p : Path) (s : Seen) → MayBe v p s → Own inode t.stage p s
  pub sure : (p : Path) (s : Seen) → MayBe v p s → Fixed t.stage inode bytes p s

pub copy_done : (t : Copying) (v : View) (needs : Needs t v) → t.phase ≡ Ended → IsDone t v needs.bytes
copy_done t v needs is =
    let n = needs.staged.inode in
    record {
      inode = n;
      here = subst (λ ph. staging.here_in ph (draft t needs.bytes) n t.stage (shows v.now t.stage)) is (needs.staged.meets.here t.stage) refl;
      own = λ p s may. (subst (λ ph. staging.firm_in ph (draft t needs.bytes) n p s) is (needs.staged.meets.firm p s may)).0;
      sure = λ p s may. (subst (λ ph. staging.firm_in ph (draft t needs.bytes) n p s) is (needs.staged.meets.firm p s may)).1;
    }

-- ---- a comparison

module _ (t : Comparing) (d e : Disk) (one : reads e t.one ≡ reads d t.one) (other : reads e t.other ≡ reads d t.other) where
  same_back : AreSame e t.one t.other → AreSame d t.one t.other
  same_back same = (same.0, sym one ∙ same.1, sym other ∙ same.2)

  same_on : AreSame d t.one t.other → AreSame e t.one t.other
  same_on same = (same.0, one ∙ same.1, other ∙ same.2)

  known : (ph : ComparePhase) → compare.needs_in ph t d → compare.needs_in ph t e
  known phase.Look needs = tt
  known (phase.Compare size at) agree = record {
    first = agree.first;
    second = agree.second;
    of_one = one ∙ agree.of_one;
    of_other = other ∙ agree.of_other;
    as_long = agree.as_long;
    no_longer = agree.no_longer;
    front = agree.front;
  }
  known (phase.Ended same) answer = ((λ is. same_on (answer.0 is)), (λ same_. answer.1 (same_back same_)))

-- What a comparison knows stays true where nobody writes the files.
pub compare_kept : (W : Path → Seen → Type 0) (t : Comparing) (v : View) → ((s : Seen) → W t.one s → ⊥) → ((s : Seen) → W t.other s → ⊥) → compare.Needs t v.now → (w : View) → Writes W v w → compare.Needs t w.now
compare_kept W t v one other needs w writes = known t v.now w.now (reads_kept W v w t.one writes one) (reads_kept W v w t.other writes other) t.phase needs
