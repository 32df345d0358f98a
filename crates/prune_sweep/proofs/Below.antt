-- What is listed so far is so wherever the paths of objects show the same.
use Rattle.std.proofs.Common.{◌≡◌, ℕ, List, sym, ◌∙◌, ap}
use Rattle.ost_types.specs.declared.object.ObjName.{ObjName}
use Rattle.fs_trait.specs.Seen.{seen, shows}
use Rattle.fs_trait.specs.View.{Disk}
use Rattle.fs_trait.proofs.Facts.{vacant_absent}
use Rattle.repo_model.specs.Objects.{path_of}
use Rattle.store_check.specs.Listing.{AreBelow, IsThere}
use Rattle.prune_mark.specs.Lasting.{ShowSameObjects}

there_on : (d e : Disk) (o : ObjName) → shows e (path_of o) ≡ shows d (path_of o) → IsThere d o → IsThere e o
there_on d e o same there = record { sum = there.sum; there = λ absent. there.there (vacant_absent d (path_of o) (sym same ∙ ap (seen e) absent)) }

pub below_lasts : (d e : Disk) (first : ℕ) (names : List ObjName) → ShowSameObjects d e → AreBelow d first names → AreBelow e first names
below_lasts d e first names same below = record {
  ascending = below.ascending;
  here = λ o has. (let h = below.here o has in (there_on d e o (same o h.0.sum) h.0, h.1));
  all = λ o there less. below.all o (there_on e d o (sym (same o there.sum)) there) less;
}
