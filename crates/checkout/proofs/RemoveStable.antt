-- What survives the writes of others, and where a removal's own writes lie.
use Rattle.std.proofs.Common.{◌≡◌, ℕ, inl, inr, ⊎_elim, true, sym, ◌∙◌, subst, List, [], ◌∷◌, Option, Some, None}
use Rattle.ost_types.specs.Path.{Path, is_below, under}
use Rattle.ost_types.proofs.Paths.{is_below-under}
use Rattle.fs_trait.specs.View.{Disk, View}
use Rattle.fs_trait.specs.Seen.{Seen, Vacant, shows, IsDirectory}
use Rattle.fs_trait.specs.Change.{Writes}
use Rattle.fs_trait.proofs.Facts.{shows_kept}
use Rattle.checkout.specs.declared.remove.phase.Phase.{Phase}
use Rattle.checkout.specs.declared.remove.phase.Phase.TheVariants.{Look, Inside, Ended}
use Rattle.checkout.specs.RemoveFolder.{Opened}
use Rattle.checkout.specs.Remove.{Removing, IsMade, IsChain}
use Rattle.checkout.specs.RemoveSteps.{AreOpen, IsOpen, Needs, WritesOf, known_in}
use Rattle.checkout.proofs.RemoveChains.{chain_below}
use Rattle.ost_types.proofs.Paths.{is_below-self}

-- its own writes: names at its path and below go
pub remove_lies : (t : Removing) (v : View) (p : Path) (s : Seen) → WritesOf t v p s → (is_below t.at p ≡ true) × (s ≡ Vacant)
remove_lies t v p s write = (write.0.below, write.1)

module _ (at : Path) (d e : Disk) (same : (p : Path) → is_below at p ≡ true → shows e p ≡ shows d p) where
  open_kept : (inner : Option Path) (f : Opened) → is_below at f.path ≡ true → IsOpen d inner f.path f.names → IsOpen e inner f.path f.names
  open_kept inner f below o = record {
    folder = subst IsDirectory (sym (same f.path below)) o.folder;
    known = λ x. ⊎_elim (λ v. inl (same (under f.path x) (is_below-under at f.path x below) ∙ v)) (λ r. inr r) (o.known x);
    far = λ x has. ⊎_elim (λ a. inl a) (λ there. inr (λ v. there (sym (same (under f.path x) (is_below-under at f.path x below)) ∙ v))) (o.far x has);
  }

  all_kept : (inner : Option Path) (f : Opened) (outer : List Opened) → IsChain at (f ∷ outer) → AreOpen d inner (f ∷ outer) → AreOpen e inner (f ∷ outer)
  all_kept inner f [] chain o = (open_kept inner f (chain_below at f [] chain) o.0, tt)
  all_kept inner f (g ∷ outer) chain o = (open_kept inner f (chain_below at f (g ∷ outer) chain) o.0, all_kept (Some f.path) g outer chain.1 o.1)

  known_kept : (ph : Phase) (outer : List Opened) (room : ℕ) → IsMade (record { at = at; phase = ph; outer = outer; room = room })
      → known_in ph (record { at = at; phase = ph; outer = outer; room = room }) d → known_in ph (record { at = at; phase = ph; outer = outer; room = room }) e
  known_kept Look outer room made known = tt
  known_kept (Inside f) outer room made known = all_kept None f outer made.chain known
  known_kept Ended outer room made known = same at (is_below-self at) ∙ known

-- Others may write whatever isn't at the path or below it.
pub remove_kept : (W : Path → Seen → Type 0) (t : Removing) (v w : View) → Writes W v w → ((p : Path) (s : Seen) → W p s → is_below t.at p ≡ true → ⊥) → Needs t v → Needs t w
remove_kept W t v w writes apart needs = record {
  made = needs.made;
  known = known_kept t.at v.now w.now (λ p below. shows_kept W v w p writes (λ s write. apart p s write below)) t.phase t.outer t.room needs.made needs.known;
}
