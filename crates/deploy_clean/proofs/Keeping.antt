-- What survives the writes of others, where a task's own writes lie, and how it begins and ends.
use Rattle.std.proofs.Common.{◌≡◌, inl, inr, ⊎_elim, sym, subst, List}
use Rattle.ost_types.specs.Path.{Path}
use Rattle.ost_types.proofs.Paths.{is_below-self}
use Rattle.fs_trait.specs.View.{View}
use Rattle.fs_trait.specs.Seen.{Seen, Vacant, shows}
use Rattle.fs_trait.specs.Change.{Writes}
use Rattle.boot_model.specs.declared.item.DepId.{DepId}
use Rattle.checkout.proofs.RemoveStable.{remove_kept}
use Rattle.deploy_clean.specs.declared.phase.Phase.{Phase}
use Rattle.deploy_clean.specs.declared.phase.Phase.TheVariants.{Begin, Open, See, Remove, Ended}
use Rattle.deploy_clean.specs.Cleaning.{Cleaning, IsMade, IsWithin, begun}
use Rattle.deploy_clean.specs.Steps.{Goes, Needs, Spares, WritesOf, ahead_in, removal_in, removed_in, writes_in}
use Rattle.deploy_clean.specs.Unlisted.{IsClean, IsUnlisted}
use Rattle.deploy_clean.proofs.Knowing.{known_in, known_still}
use Rattle.deploy_clean.proofs.Places.{unlisted_path}

-- a new task needs nothing of the view
pub clean_begun : (listed : List DepId) (v : View) → Needs (begun listed) v
clean_begun listed v = record { made = tt; known = λ p is. inr tt; removing = tt }

-- and one that has ended knows that nothing is left
pub clean_ended : (t : Cleaning) (v : View) → t.phase ≡ Ended → Needs t v → IsClean v.now t.listed
clean_ended t v is needs = λ p u. ⊎_elim (λ gone. gone) (λ n. absurd n) (known_in t v Ended is needs p u)

-- the path that is being removed is one of those
removed_unlisted : (t : Cleaning) (ph : Phase) → IsWithin ph t.listed → (p : Path) → removed_in ph p → Goes t.listed p
removed_unlisted t (Remove o c) next p below = (c.at, subst (IsUnlisted t.listed) (sym next.at) (unlisted_path t.listed o.os next.name next.unlisted), below)
removed_unlisted t Begin next p below = absurd below
removed_unlisted t Open next p below = absurd below
removed_unlisted t (See o) next p below = absurd below
removed_unlisted t Ended next p below = absurd below

writes_removed : (ph : Phase) (v : View) (p : Path) (s : Seen) → writes_in ph v p s → removed_in ph p × (s ≡ Vacant)
writes_removed (Remove o c) v p s write = (write.0.below, write.1)
writes_removed Begin v p s write = absurd write
writes_removed Open v p s write = absurd write
writes_removed (See o) v p s write = absurd write
writes_removed Ended v p s write = absurd write

-- Its own writes: what stands at or below the path of a deployment that isn't listed, or of its origin file, goes.
pub clean_lies : (t : Cleaning) (v : View) → IsMade t → (p : Path) (s : Seen) → WritesOf t v p s → Goes t.listed p × (s ≡ Vacant)
clean_lies t v made p s write = let w = writes_removed t.phase v p s write in (removed_unlisted t t.phase made p w.0, w.1)

removal_kept : (W : Path → Seen → Type 0) (ph : Phase) (v w : View) → Writes W v w → ((p : Path) (s : Seen) → W p s → ¬ (removed_in ph p)) → removal_in ph v → removal_in ph w
removal_kept W (Remove o c) v w writes apart needs = remove_kept W c v w writes apart needs
removal_kept W Begin v w writes apart needs = tt
removal_kept W Open v w writes apart needs = tt
removal_kept W (See o) v w writes apart needs = tt
removal_kept W Ended v w writes apart needs = tt

pub clean_kept : (W : Path → Seen → Type 0) (t : Cleaning) (v w : View) → Writes W v w → Spares W t → Needs t v → Needs t w
clean_kept W t v w writes spares needs = record {
  made = needs.made;
  known = known_still t.listed v.now w.now (ahead_in t.phase t.stateroots) (λ p is. ⊎_elim (λ same. inl same) (λ wrote. inr (spares.puts p (shows w.now p) wrote is)) (writes.now p)) needs.known;
  removing = removal_kept W t.phase v w writes spares.removed needs.removing;
}

-- writes that lie neither at nor below such a path spare it
pub clean_spared : (W : Path → Seen → Type 0) (t : Cleaning) → IsMade t → ((p : Path) (s : Seen) → W p s → ¬ (Goes t.listed p)) → Spares W t
clean_spared W t made apart = record {
  puts = λ p s write is. absurd (apart p s write (p, is, is_below-self p));
  removed = λ p s write below. apart p s write (removed_unlisted t t.phase made p below);
}
