-- Each reading begins with what it needs, and what it knows survives the writes of others.
use Rattle.std.proofs.Common.{◌≡◌, inl, inr, ⊎_elim, arith, refl, sym, ◌∙◌, subst, [], ◌++◌, Some}
use Rattle.std.specs.Prelude.{true}
use Rattle.ost_types.specs.declared.limits.Limits.{Limits}
use Rattle.ost_types.specs.Path.{Path, is_below}
use Rattle.ost_types.proofs.Paths.{is_below-self}
use Rattle.fs_trait.specs.View.{Disk, View}
use Rattle.fs_trait.specs.Seen.{Seen, shows, IsDirectory}
use Rattle.fs_trait.specs.Change.{Writes}
use Rattle.fs_trait.proofs.Claims.{is_below-before}
use Rattle.fs_trait.proofs.Facts.{shows_kept}
use Rattle.tree_scan.specs.Scan.{Reads}
use Rattle.tree_scan.specs.Faults.{IsUnreadable}
use Rattle.tree_scan.specs.Scanning.{Scanning, begun}
use Rattle.tree_scan.specs.SoFar.{IsSoFar}
use Rattle.tree_scan.proofs.Lists.{none_in}

-- A new task needs nothing of the disk.
pub scan_begun : (d : Disk) (at : Path) (limits : Limits) → IsSoFar d (begun at limits)
scan_begun d at limits = record {
  root = inl refl;
  all = λ p shown. inr (record { item = []; among = (0, omega arith, refl); rest = p; is = refl });
  sound = λ p n has. absurd (none_in (p, n) has);
  kept = λ p n has. absurd (none_in (p, n) has);
  few = omega arith;
  line = (tt, tt);
  after = (tt, tt);
}

module _ (d e : Disk) (t : Scanning) (same : (p : Path) → is_below t.at p ≡ true → shows e p ≡ shows d p) where
  same_below : (p : Path) → shows e (t.at ++ p) ≡ shows d (t.at ++ p)
  same_below p = same (t.at ++ p) (is_below-before t.at p)

  known_kept : IsSoFar d t → IsSoFar e t
  known_kept so = record {
    root = ⊎_elim (λ is. inl is) (λ folder. inr (subst IsDirectory (sym (same t.at (is_below-self t.at))) folder)) so.root;
    all = λ p shown. so.all p (λ none. shown (same_below p ∙ none));
    sound = λ p n has. subst (λ s. Reads s (Some n)) (sym (same_below p)) (so.sound p n has);
    kept = λ p n has. let k = so.kept p n has in record { readable = λ u. k.readable (subst (IsUnreadable t.limits.content) (same_below p) u); path = k.path };
    few = so.few;
    line = so.line;
    after = so.after;
  }

-- Others may write whatever isn't at the folder's path or below it.
pub scan_kept : (W : Path → Seen → Type 0) (t : Scanning) (v w : View) → Writes W v w → ((p : Path) (s : Seen) → W p s → is_below t.at p ≡ true → ⊥) → IsSoFar v.now t → IsSoFar w.now t
scan_kept W t v w writes apart = known_kept v.now w.now t (λ p below. shows_kept W v w p writes (λ s write. apart p s write below))
