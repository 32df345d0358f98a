-- What a task needs stays true under what others may write.
use Rattle.std.proofs.Common.{◌≡◌, ◌≢◌, ⊎_elim, ℕ, true, sym, ◌∙◌, subst, List, [], take}
use Rattle.ost_types.specs.declared.meta.Meta.{Meta}
use Rattle.ost_types.specs.Path.{Path, is_below, is_in}
use Rattle.ost_types.proofs.Paths.{is_below-self}
use Rattle.fs_trait.specs.declared.types.Value.TheVariants as value
use Rattle.fs_trait.specs.View.{View}
use Rattle.fs_trait.specs.Seen.{Seen, Leaf, MayBe, shows, IsDirectory}
use Rattle.fs_trait.specs.Change.{Writes, Own}
use Rattle.fs_trait.proofs.Facts.{leaf_file, shows_kept}
use Rattle.fs_trait.proofs.Kept.{firm_kept}
use Rattle.checkout.proofs.RemoveStable.{remove_kept}
use Rattle.folder_build.specs.declared.phase.Phase.{Phase}
use Rattle.folder_build.specs.declared.phase.Phase.TheVariants as phase
use Rattle.folder_build.specs.declared.link.LinkPhase.{LinkPhase}
use Rattle.folder_build.specs.declared.link.LinkPhase.TheVariants as link
use Rattle.folder_build.specs.declared.node.NewNode.{NewNode}
use Rattle.folder_build.specs.Node.{IsBuilt, IsContent, content_at, file_meta}
use Rattle.folder_build.specs.Build.{Building, IsWithin}
use Rattle.folder_build.specs.Steps.{HasHome, IsOpen, Needs, needs_in}
use Rattle.folder_build.specs.Link as linking
use Rattle.folder_build.specs.Link.{Linking}
use Rattle.folder_build.specs.LinkSteps as linked

home_kept : (top : Path) (W : Path → Seen → Type 0) (v w : View) → Writes W v w → ((p : Path) (s : Seen) → W p s → is_in p top ≡ true → IsDirectory s) → HasHome top v.now → HasHome top w.now
home_kept top W v w writes folders home p in_ = ⊎_elim (λ same. subst IsDirectory (sym same) (home p in_)) (λ wrote. folders p (shows w.now p) wrote in_) (writes.now p)

-- Others write nothing at the folder or in it, no leaf in the place of a folder above it, and give no other name to an inode that stands
-- in it, now and whatever a crash leaves, by one name alone.
pub record Spares (W : Path → Seen → Type 0) (t : Building) (v : View) : Type 0 where
  pub apart : (p : Path) (s : Seen) → W p s → is_below t.top p ≡ true → ⊥
  pub folders : (p : Path) (s : Seen) → W p s → is_in p t.top ≡ true → IsDirectory s
  pub comes : (p at : Path) (s : Seen) (n : ℕ) (m : Meta) (b : List ℕ) → W p s → s ≡ Leaf n m b → is_below t.top at ≡ true → ((q : Path) (x : Seen) → MayBe v q x → Own n at q x) → v.now.at at ≢ value.File n

module _ (W : Path → Seen → Type 0) (t : Building) (v w : View) (writes : Writes W v w) (spares : Spares W t v) (needs : Needs t v) where
  same : (p : Path) → is_below t.top p ≡ true → shows w.now p ≡ shows v.now p
  same p below = shows_kept W v w p writes (λ s write. spares.apart p s write below)

  built_kept : (nodes : List NewNode) → IsBuilt v.now t.top nodes → IsBuilt w.now t.top nodes
  built_kept nodes built p below = subst (IsContent (content_at nodes p)) (sym (same p below)) (built p below)

  open_kept : (n : ℕ) → IsOpen n t v → IsOpen n t w
  open_kept n o =
      let below = (needs.made.plan.each n o.node o.number).below in
      let file = leaf_file v.now o.node.at o.inode file_meta [] o.empty in
      record {
        node = o.node;
        number = o.number;
        inode = o.inode;
        empty = same o.node.at below ∙ o.empty;
        free = o.free;
        others = λ p under apart. subst (IsContent (content_at (take n t.nodes) p)) (sym (same p under)) (o.others p under apart);
        own = firm_kept W (Own o.inode o.node.at) v w writes (λ p s write m b is. absurd (spares.comes p o.node.at s o.inode m b write is below o.own file.0)) o.own;
      }

  meets_kept : (ph : Phase) → IsWithin ph t.top t.nodes → needs_in ph t v → needs_in ph t w
  meets_kept (phase.Clear c) within known = remove_kept W c v w writes (λ p s write below. spares.apart p s write (subst (λ q. is_below q p ≡ true) within below)) known
  meets_kept (phase.Make n) within built = built_kept (take n t.nodes) built
  meets_kept (phase.Write n) within o = open_kept n o
  meets_kept phase.Ended within built = built_kept t.nodes built

  pub build_kept : Needs t w
  build_kept = record { made = needs.made; home = home_kept t.top W v w writes spares.folders needs.home; meets = meets_kept t.phase needs.made.within needs.meets }

-- Others write nothing at the two paths or below the staging path, and no leaf in the place of a folder above one.
pub record SparesLink (W : Path → Seen → Type 0) (t : Linking) : Type 0 where
  pub stage : (p : Path) (s : Seen) → W p s → is_below t.stage p ≡ true → ⊥
  pub at : (s : Seen) → W t.at s → ⊥
  pub folders : (p : Path) (s : Seen) → W p s → is_in p t.stage ≡ true → IsDirectory s
  pub above : (p : Path) (s : Seen) → W p s → is_in p t.at ≡ true → IsDirectory s

module _ (W : Path → Seen → Type 0) (t : Linking) (v w : View) (writes : Writes W v w) (spares : SparesLink W t) (needs : linked.Needs t v) where
  same_stage : shows w.now t.stage ≡ shows v.now t.stage
  same_stage = shows_kept W v w t.stage writes (λ s write. spares.stage t.stage s write (is_below-self t.stage))

  link_meets_kept : (ph : LinkPhase) → linking.IsWithin ph t.stage → linked.needs_in ph t v → linked.needs_in ph t w
  link_meets_kept (link.Clear c) within known = remove_kept W c v w writes (λ p s write below. spares.stage p s write (subst (λ q. is_below q p ≡ true) within below)) known
  link_meets_kept link.Make within vacant = same_stage ∙ vacant
  link_meets_kept link.Replace within there = same_stage ∙ there
  link_meets_kept link.Ended within there = shows_kept W v w t.at writes spares.at ∙ there

  pub link_kept : linked.Needs t w
  link_kept = record {
    made = needs.made;
    home = home_kept t.stage W v w writes spares.folders needs.home;
    folder = home_kept t.at W v w writes spares.above needs.folder;
    meets = link_meets_kept t.phase needs.made.within needs.meets;
  }
