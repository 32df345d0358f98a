-- A commit more is known to be there without a mark.
use Rattle.std.proofs.Common.{◌≡◌, Bool, true, false, cond, refl, sym, ◌∙◌, ap, subst, ℕ, List, []}
use Rattle.std.specs.BTreeSet.{BTreeSet, Updates, contains}
use Rattle.std.specs.Cmp.Lexicographic.{slice_cmp, texts_ties}
use Rattle.std.specs.Ordering.{nat_cmp, is_eq}
use Rattle.ost_types.proofs.Paths.{same_name-Decides}
use Rattle.fs_trait.specs.View.{Disk}
use Rattle.store_check.specs.Commits.{IsFinished}
use Rattle.store_check.specs.Finished.{AreFinished}

pub none_finished : (d : Disk) (known : BTreeSet (List ℕ)) → known.keys ≡ [] → AreFinished d known
none_finished d known none commit has = let no : false ≡ true = sym (rw none refl) ∙ has in cc

module _ (d : Disk) (old new : BTreeSet (List ℕ)) (commit : List ℕ) (updates : Updates (slice_cmp nat_cmp) old new commit true) where
  pub one_finished : AreFinished d old → IsFinished d commit → AreFinished d new
  one_finished are here other has = by (is_eq (slice_cmp nat_cmp commit other)) refl
    where
      by : (b : Bool) → is_eq (slice_cmp nat_cmp commit other) ≡ b → IsFinished d other
      by true is = subst (IsFinished d) ((same_name-Decides commit other).0 (texts_ties commit other ∙ is)) here
      by false is = are other (sym (ap (λ b. cond b true (contains (slice_cmp nat_cmp) old other)) is) ∙ sym (updates.0 other) ∙ has)
