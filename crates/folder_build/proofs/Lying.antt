-- Where the writes of a task lie.
use Rattle.std.proofs.Common.{◌≡◌, ◌⊎◌, inl, inr, ⊎_elim, true, sym, subst}
use Rattle.ost_types.specs.Path.{Path, is_below}
use Rattle.fs_trait.specs.View.{View}
use Rattle.fs_trait.specs.Seen.{Seen}
use Rattle.ost_types.proofs.Paths.{is_below-self}
use Rattle.folder_build.specs.declared.node.NewNode.{NewNode}
use Rattle.folder_build.specs.declared.phase.Phase.{Phase}
use Rattle.folder_build.specs.declared.phase.Phase.TheVariants as phase
use Rattle.folder_build.specs.declared.link.LinkPhase.{LinkPhase}
use Rattle.folder_build.specs.declared.link.LinkPhase.TheVariants as link
use Rattle.folder_build.specs.Build.{Building, IsMade, IsNumber, IsWithin}
use Rattle.folder_build.specs.Steps.{WritesOf, writes_in}
use Rattle.folder_build.specs.Link as linking
use Rattle.folder_build.specs.Link.{Linking}
use Rattle.folder_build.specs.LinkSteps as linked
use Rattle.folder_build.specs.LinkSteps.{IsTheLink}

at_node : (t : Building) → IsMade t → (n : _) (e : NewNode) → IsNumber t.nodes n e → (p : Path) → p ≡ e.at → is_below t.top p ≡ true
at_node t made n e number p is = subst (λ q. is_below t.top q ≡ true) (sym is) (made.plan.each n e number).below

-- a folder that is made: at its path or below it
pub build_lies : (t : Building) (v : View) → IsMade t → (p : Path) (s : Seen) → WritesOf t v p s → is_below t.top p ≡ true
build_lies t v made p s write = by t.phase made.within write
  where
    by : (ph : Phase) → IsWithin ph t.top t.nodes → writes_in ph t v p s → is_below t.top p ≡ true
    by (phase.Clear c) within a = subst (λ q. is_below q p ≡ true) within a.0.below
    by (phase.Make n) within a = at_node t made n a.0 a.1 p a.2
    by (phase.Write n) within a = at_node t made n a.0 a.1 p a.2
    by phase.Ended within a = absurd a

-- a link that is put: at the staging path or below it, or the link itself at its own
pub link_lies : (t : Linking) (v : View) → linking.IsMade t → (p : Path) (s : Seen) → linked.WritesOf t v p s → (is_below t.stage p ≡ true) ⊎ ((p ≡ t.at) × IsTheLink t.target s)
link_lies t v made p s write = by t.phase made.within write
  where
    on_stage : p ≡ t.stage → is_below t.stage p ≡ true
    on_stage is = subst (λ q. is_below t.stage q ≡ true) (sym is) (is_below-self t.stage)

    by : (ph : LinkPhase) → linking.IsWithin ph t.stage → linked.writes_in ph t v p s → (is_below t.stage p ≡ true) ⊎ ((p ≡ t.at) × IsTheLink t.target s)
    by (link.Clear c) within a = inl (subst (λ q. is_below q p ≡ true) within a.0.below)
    by link.Make within a = inl (on_stage a.0)
    by link.Replace within a = ⊎_elim (λ b. inr b) (λ b. inl (on_stage b.0)) a
    by link.Ended within a = absurd a
