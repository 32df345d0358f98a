-- What a file that is staged writes, for all others; and its facts stay true under what others may write.
use Rattle.std.proofs.Common.{◌≡◌, ◌⊎◌, inl, inr, ℕ, true, refl, sym, ◌∙◌, ap, subst, List, take}
use Rattle.ost_types.specs.declared.meta.Meta.{Meta}
use Rattle.ost_types.specs.Path.{Path, is_in}
use Rattle.fs_trait.specs.declared.types.Value.TheVariants.{File}
use Rattle.fs_trait.specs.View.{View}
use Rattle.fs_trait.specs.Effect.{IsFresh}
use Rattle.fs_trait.specs.Seen.{Seen, Vacant, Leaf, shows, MayBe, IsDirectory, NotDirectory}
use Rattle.fs_trait.specs.Change.{Writes, Meets, Harmless, Own}
use Rattle.fs_trait.proofs.Kept.{meets_kept}
use Rattle.fs_trait.proofs.Facts.{leaf_file, leaf_not_directory}
use Rattle.staging.specs.declared.phase.Phase.{Phase}
use Rattle.staging.specs.declared.phase.Phase.TheVariants.{Clear, Create, Append, SyncFile, Ended}
use Rattle.staging.specs.Draft.{Draft}
use Rattle.staging.specs.Steps.{IsBegun, IsPart, writes_in, WritesOf, firm_in, FirmOf, here_in, HereOf, Needs}

-- Where a write of the next step lies: at the staging path. It is no folder, and takes no folder's place; a file that is written
-- is a new one or the staged one.
pub record Lies (t : Draft) (v : View) (p : Path) (s : Seen) : Type 0 where
  pub place : p ≡ t.stage
  pub file : NotDirectory s
  pub comes : (n : ℕ) (m : Meta) (b : List ℕ) → s ≡ Leaf n m b → IsFresh n v ⊎ (v.now.at t.stage ≡ File n)
  pub folders : NotDirectory (shows v.now p)

module _ (t : Draft) (v : View) (needs : Needs t v) where
  from_new : (s : Seen) → IsBegun t v s → (n : ℕ) (m : Meta) (b : List ℕ) → s ≡ Leaf n m b → IsFresh n v ⊎ (v.now.at t.stage ≡ File n)
  from_new s file n m b e =
      let l : Leaf file.0 t.meta file.1.0 ≡ Leaf n m b = sym file.1.1 ∙ e in
      let i : file.0 ≡ n = cc in
      inl (subst (λ k. IsFresh k v) i file.2)

  from_stage : (s : Seen) → IsPart t v s → (n : ℕ) (m : Meta) (b : List ℕ) → s ≡ Leaf n m b → IsFresh n v ⊎ (v.now.at t.stage ≡ File n)
  from_stage s file n m b e =
      let l : Leaf file.0 t.meta file.1.0 ≡ Leaf n m b = sym file.1.1 ∙ e in
      let i : file.0 ≡ n = cc in
      inr (file.2 ∙ ap File i)

  from_none : (s : Seen) → s ≡ Vacant → (n : ℕ) (m : Meta) (b : List ℕ) → s ≡ Leaf n m b → IsFresh n v ⊎ (v.now.at t.stage ≡ File n)
  from_none s none n m b e = let l : Vacant ≡ Leaf n m b = sym none ∙ e in cc

  no_folder : (p q : Path) → p ≡ q → NotDirectory (shows v.now q) → NotDirectory (shows v.now p)
  no_folder p q e is = subst (λ r. NotDirectory (shows v.now r)) (sym e) is

  lies : (ph : Phase) → Meets (firm_in ph t needs.inode) (here_in ph t needs.inode) v → (p : Path) (s : Seen) → writes_in ph t v p s → Lies t v p s
  lies Clear now p s a = record {
    place = a.0;
    file = subst NotDirectory (sym a.1) tt;
    comes = from_none s a.1;
    folders = no_folder p t.stage a.0 ((now.here t.stage).0 refl);
  }
  lies Create now p s a = record {
    place = a.0;
    file = leaf_not_directory s a.1.0 t.meta a.1.1.0 a.1.1.1;
    comes = from_new s a.1;
    folders = no_folder p t.stage a.0 (subst NotDirectory (sym ((now.here t.stage).0 refl)) tt);
  }
  lies Append now p s a = record {
    place = a.0;
    file = leaf_not_directory s a.1.0 t.meta a.1.1.0 a.1.1.1;
    comes = from_stage s a.1;
    folders = no_folder p t.stage a.0 (leaf_not_directory _ needs.inode t.meta (take t.written t.bytes) (now.here t.stage refl));
  }
  lies SyncFile now p s a = absurd a
  lies Ended now p s a = absurd a

  pub staging_lies : (p : Path) (s : Seen) → WritesOf t v p s → Lies t v p s
  staging_lies = lies t.phase needs.meets

-- The writes of others spare the file: they write nothing at its staging path, leave folders where folders are above it, and give
-- its inode no other name.
pub record Spares (W : Path → Seen → Type 0) (t : Draft) (v : View) : Type 0 where
  pub stage : (s : Seen) → W t.stage s → ⊥
  pub parents : (p : Path) (s : Seen) → is_in p t.stage ≡ true → IsDirectory (shows v.now p) → W p s → IsDirectory s
  pub own : (n : ℕ) → v.now.at t.stage ≡ File n → ((p : Path) (s : Seen) → MayBe v p s → Own n t.stage p s) → Harmless W (Own n t.stage)

module _ (W : Path → Seen → Type 0) (t : Draft) (v : View) (spares : Spares W t v) (needs : Needs t v) where
  not_stage : (p : Path) (s : Seen) → W p s → p ≡ t.stage → ⊥
  not_stage p s wrote e = spares.stage s (subst (λ q. W q s) e wrote)

  own_out : (b : List ℕ) → shows v.now t.stage ≡ Leaf needs.inode t.meta b → ((p : Path) (s : Seen) → MayBe v p s → Own needs.inode t.stage p s) → Harmless W (Own needs.inode t.stage)
  own_out b is own = spares.own needs.inode (leaf_file v.now t.stage needs.inode t.meta b is).0 own

  firm_out : (ph : Phase) → Meets (firm_in ph t needs.inode) (here_in ph t needs.inode) v → Harmless W (firm_in ph t needs.inode)
  firm_out Clear now p s wrote = tt
  firm_out Create now p s wrote = tt
  firm_out Append now p s wrote = own_out (take t.written t.bytes) (now.here t.stage refl) now.firm p s wrote
  firm_out SyncFile now p s wrote = own_out t.bytes (now.here t.stage refl) now.firm p s wrote
  firm_out Ended now p s wrote = (own_out t.bytes (now.here t.stage refl) (λ p s may. (now.firm p s may).0) p s wrote, λ m b e is. absurd (not_stage p s wrote e))

  here_out : (ph : Phase) → Meets (firm_in ph t needs.inode) (here_in ph t needs.inode) v → Harmless W (here_in ph t needs.inode)
  here_out Clear now p s wrote = ((λ e. absurd (not_stage p s wrote e)), (λ in_. spares.parents p s in_ ((now.here p).1 in_) wrote))
  here_out Create now p s wrote = ((λ e. absurd (not_stage p s wrote e)), (λ in_. spares.parents p s in_ ((now.here p).1 in_) wrote))
  here_out Append now p s wrote = λ e. absurd (not_stage p s wrote e)
  here_out SyncFile now p s wrote = λ e. absurd (not_stage p s wrote e)
  here_out Ended now p s wrote = λ e. absurd (not_stage p s wrote e)

  -- The facts of the file stay true.
  pub staging_kept : (w : View) → Writes W v w → Needs t w
  staging_kept w writes = record {
    placed = needs.placed;
    inode = needs.inode;
    meets = meets_kept W (FirmOf t needs.inode) (HereOf t needs.inode) v w writes (firm_out t.phase needs.meets) (here_out t.phase needs.meets) needs.meets;
  }
