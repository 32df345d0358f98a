-- What survives a change.
use Rattle.std.proofs.Common.{inl, inr, ⊎_elim, sym, ◌∙◌, subst, refl}
use Rattle.ost_types.specs.Path.{Path}
use Rattle.fs_trait.specs.View.{View}
use Rattle.fs_trait.specs.Seen.{Seen, shows, MayBe}
use Rattle.fs_trait.specs.Change.{Writes, Meets, Harmless, Both}

-- What a task needs survives each change whose writes are harmless to it.
pub meets_kept : (W Firm Here : Path → Seen → Type 0) (old new : View) → Writes W old new → Harmless W Firm → Harmless W Here → Meets Firm Here old → Meets Firm Here new
meets_kept W Firm Here old new w firm here was = record {
  firm = λ p s may. ⊎_elim (was.firm p s) (firm p s) (w.only p s may);
  here = λ p. ⊎_elim (λ same. subst (Here p) (sym same) (was.here p)) (here p (shows new.now p)) (w.now p);
}

pub firm_kept : (W Firm : Path → Seen → Type 0) (old new : View) → Writes W old new → Harmless W Firm
    → ((p : Path) (s : Seen) → MayBe old p s → Firm p s) → (p : Path) (s : Seen) → MayBe new p s → Firm p s
firm_kept W Firm old new w firm was p s may = ⊎_elim (was p s) (firm p s) (w.only p s may)

pub weaker : (W More : Path → Seen → Type 0) (old new : View) → ((p : Path) (s : Seen) → W p s → More p s) → Writes W old new → Writes More old new
weaker W More old new leads w = record {
  only = λ p s may. ⊎_elim (λ was. inl was) (λ m. inr (leads p s m)) (w.only p s may);
  now = λ p. ⊎_elim (λ same. inl same) (λ m. inr (leads p (shows new.now p) m)) (w.now p);
}

pub same_view : (W : Path → Seen → Type 0) (v : View) → Writes W v v
same_view W v = record { only = λ p s may. inl may; now = λ p. inl refl }

-- one change after another
pub then_writes : (W X : Path → Seen → Type 0) (old mid new : View) → Writes W old mid → Writes X mid new → Writes (Both W X) old new
then_writes W X old mid new a b = record {
  only = λ p s may. ⊎_elim (λ m. ⊎_elim (λ o. inl o) (λ w. inr (inl w)) (a.only p s m)) (λ x. inr (inr x)) (b.only p s may);
  now = λ p. ⊎_elim
      (λ same. ⊎_elim (λ was. inl (same ∙ was)) (λ w. inr (inl (subst (W p) (sym same) w))) (a.now p))
      (λ x. inr (inr x)) (b.now p);
}
