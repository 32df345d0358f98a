-- Paths at or below the task's.
use Rattle.std.proofs.Common.{◌≡◌, ◌≢◌, Bool, true, false, refl, sym, ◌∙◌, ap, subst, [], ◌∷◌, ◌++◌, append-nil, append_assoc}
use Rattle.ost_types.specs.Path.{Path, is_below, under}
use Rattle.fs_trait.specs.declared.types.Value.TheVariants.{Absent}
use Rattle.fs_trait.specs.View.{Disk}
use Rattle.fs_trait.specs.Image.{IsTree, is_folder}

pub below_not_root : (at p : Path) → at ≢ [] → is_below at p ≡ true → p ≢ []
unfolding is_below
below_not_root [] p root below is = root refl
below_not_root (a ∷ at) p root below is = let n : false ≡ true = subst (λ q. is_below (a ∷ at) q ≡ true) is below in cc

pub not_true : (b : Bool) → b ≡ false → b ≡ true → ⊥
not_true b off on = let n : false ≡ true = sym off ∙ on in cc

-- nothing stands below what is absent
pub absent_below : (d : Disk) → IsTree d → (p rest : Path) → d.at p ≡ Absent → d.at (p ++ rest) ≡ Absent
absent_below d tree p [] none = subst (λ q. d.at q ≡ Absent) (sym (append-nil p)) none
absent_below d tree p (x ∷ rest) none = subst (λ q. d.at q ≡ Absent) (append_assoc p (x ∷ []) rest) (absent_below d tree (under p x) rest (tree.folders p x (ap is_folder none)))
