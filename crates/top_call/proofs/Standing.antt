-- What stands at the beginning of a run stands at its end.
use Rattle.std.proofs.Common.{◌≡◌, ℕ, sym, ◌∙◌, subst, Option, Some}
use Rattle.fs_trait.specs.Image.{Told}
use Rattle.fs_trait.specs.View.{View}
use Rattle.lane_system.specs.Family.{Family, FsSpec}
use Rattle.lane_system.specs.Preserves.{Preserves, Stands}
use Rattle.lane_system.specs.System.{System}

-- what is told of a view is told of this one
pub told_as : (o : Option View) (P : View → Type 0) (w : View) → o ≡ Some w → Told o P → P w
told_as o P w is told = let same : told.0 ≡ w = (let e : Some told.0 ≡ Some w = sym told.1 ∙ is in cc) in subst P same told.2

pub stands_after : {F T W A : Type 0} (f : FsSpec F) (c : Family T W A) (old new : System F T W A) (before : ℕ) (opening v : View) → f.view old.base.fs ≡ Some v → Preserves f c old new → Stands f c before opening old v
    → Told (f.view new.base.fs) (λ w. Stands f c before opening new w)
stands_after f c old new before opening v told keeps stands =
    let kept = keeps.lasts opening v told stands.lasts in
    let at = kept.1 in (
      kept.0,
      at,
      record {
        lasts = kept.2;
        good = told_as (f.view new.base.fs) _ kept.0 at (keeps.good v told stands.good);
        caused = keeps.caused before stands.caused;
        inside = keeps.inside v told stands.good stands.inside;
        folders = told_as (f.view new.base.fs) _ kept.0 at (keeps.folders opening.now v told stands.folders);
        counted = told_as (f.view new.base.fs) _ kept.0 at (keeps.counted v told stands.counted);
        said = keeps.said v told stands.good stands.counted stands.said;
        stays = told_as (f.view new.base.fs) _ kept.0 at (keeps.stays v told stands.good stands.stays);
        remains = told_as (f.view new.base.fs) _ kept.0 at (keeps.remains v told stands.remains);
        founded = told_as (f.view new.base.fs) _ kept.0 at (keeps.founded opening v told stands.good stands.founded);
      },
    )
