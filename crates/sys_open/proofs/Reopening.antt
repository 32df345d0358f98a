-- What keeps a sane disk is sane.
use Rattle.std.proofs.Common.{◌≡◌, ◌⊎◌, inl, inr, ◌<◌, ℕ, true, refl, sym, ◌∙◌, ap, subst, arith, List, [], ◌∷◌}
use Rattle.ost_types.specs.Path.{Path, IsPath, is_below, under}
use Rattle.ost_types.proofs.Paths.{is_below-self}
use Rattle.fs_trait.specs.View.{Disk}
use Rattle.fs_trait.specs.Seen.{IsDirectory, seen, shows, bytes_in}
use Rattle.fs_trait.proofs.Claims.{reads_shows}
use Rattle.fs_trait.proofs.Facts.{vacant_absent}
use Rattle.repo_layout.specs.declared.fixed.Fixed.TheVariants as fixed
use Rattle.repo_layout.specs.declared.fixed.Version.TheVariants.{Zero, One}
use Rattle.repo_layout.specs.declared.folder.Folder.{Folder}
use Rattle.repo_layout.specs.Paths.{folder_path, heads}
use Rattle.repo_layout.specs.Place.{BootLink, KernelCopy, Mark, Other, Summary, place}
use Rattle.repo_layout.proofs.Places.{place-boot_link, place-kernel, place-mark, place-summary}
use Rattle.repo_layout.specs.BootPaths.{kernel_path}
use Rattle.repo_layout.specs.RefFile.{IsSum}
use Rattle.layout_rules.proofs.Layouts.{fixed_other}
use Rattle.layout_rules.specs.declared.rule.Rule.{Rule}
use Rattle.layout_rules.specs.declared.rule.Rule.TheVariants.{FileOrNothing, FolderOrNothing, NoFolder}
use Rattle.layout_rules.specs.declared.spot.Spot.{Spot}
use Rattle.layout_rules.specs.declared.spot.Spot.TheVariants.{Laid, Known}
use Rattle.sys_open.specs.Changes.{Changes, Keeps}
use Rattle.layout_rules.specs.Checks.{HoldsRefs, IsFor, IsReached, IsSane, Kinds, RefFiles, Staging, Suits}
use Rattle.layout_rules.specs.Spots.{rule_of, spot_path}
use Rattle.layout_rules.specs.declared.many.Many.{Many}
use Rattle.layout_rules.specs.declared.many.Many.TheVariants.{Kernels, Stateroots, Objects, Marks}
use Rattle.layout_rules.specs.Many.{IsIn, IsOfKernel}
use Rattle.layout_rules.proofs.Sanes.{folder_is_path}
use Rattle.layout_rules.proofs.Suiting.{absent_suits, folder_suits, suits_same}
use Rattle.sys_open.proofs.Beginning.{leaf_was}
use Rattle.sys_open.proofs.ChangedPlaces.{no_rule, put_is_path}

-- no folder that is laid out lies where there is to be none
pub other : (f : Folder) → place (folder_path f) ≡ Other (folder_path f)
other f = fixed_other f (folder_path f) (is_below-self (folder_path f))

no_link : (version : ℕ) (f : Folder) (p : Path) → version < 10 → p ≡ folder_path f → place p ≡ BootLink version → ⊥
no_link version f p small e is = let n : Other (folder_path f) ≡ BootLink version = sym (other f) ∙ ap place (sym e) ∙ is in cc

no_laid : (spot : Spot) (f : Folder) → rule_of spot ≡ NoFolder → spot_path spot ≡ folder_path f → ⊥
no_laid (Laid g) f r e = let n : FolderOrNothing ≡ NoFolder = r in cc
no_laid (Known (fixed.LoaderFolder version)) f r e = let n : FolderOrNothing ≡ NoFolder = r in cc
no_laid (Known (fixed.Entries version)) f r e = let n : FolderOrNothing ≡ NoFolder = r in cc
no_laid (Known (fixed.BootFolder version sub)) f r e = let n : FolderOrNothing ≡ NoFolder = r in cc
no_laid (Known (fixed.BootLink Zero)) f r e = no_link 0 f _ (omega arith) e (place-boot_link 0 (omega arith))
no_laid (Known (fixed.BootLink One)) f r e = no_link 1 f _ (omega arith) e (place-boot_link 1 (omega arith))
no_laid (Known fixed.Summary) f r e = let n : Other (folder_path f) ≡ Summary = sym (other f) ∙ ap place (sym e) ∙ place-summary in cc

-- nor where there is to be a file, which no place with one path asks for
no_file_asked : (spot : Spot) → rule_of spot ≡ FileOrNothing → ⊥
no_file_asked (Laid g) r = let n : FolderOrNothing ≡ FileOrNothing = r in cc
no_file_asked (Known (fixed.LoaderFolder version)) r = let n : FolderOrNothing ≡ FileOrNothing = r in cc
no_file_asked (Known (fixed.Entries version)) r = let n : FolderOrNothing ≡ FileOrNothing = r in cc
no_file_asked (Known (fixed.BootFolder version sub)) r = let n : FolderOrNothing ≡ FileOrNothing = r in cc
no_file_asked (Known (fixed.BootLink version)) r = let n : NoFolder ≡ FileOrNothing = r in cc
no_file_asked (Known fixed.Summary) r = let n : NoFolder ≡ FileOrNothing = r in cc

-- and at a place of many names only where there is to be a folder
no_copy : (os : List ℕ) (bootcsum : List ℕ) (rule : Rule) (f : Folder) (p : Path) → IsSum bootcsum → p ≡ folder_path f → IsOfKernel (kernel_path os bootcsum) rule p → rule ≡ FolderOrNothing
no_copy os bootcsum rule f p sum e (inl is) = is.0
no_copy os bootcsum rule f p sum e (inr is) = let n : Other (folder_path f) ≡ KernelCopy os bootcsum (is.1.0 ∷ []) = sym (other f) ∙ ap place (sym e ∙ is.1.2) ∙ place-kernel os bootcsum (is.1.0 ∷ []) sum in cc

laid_in : (many : Many) (rule : Rule) (f : Folder) (p : Path) → IsIn many rule p → p ≡ folder_path f → rule ≡ FolderOrNothing
laid_in Kernels rule f p is e = no_copy is.0 is.2.0 rule f p is.2.1 e is.2.2
laid_in Stateroots rule f p is e = is.0
laid_in Objects rule f p is e = is.0
laid_in Marks rule f p is e = let n : Other (folder_path f) ≡ Mark is.1.0 = sym (other f) ∙ ap place (sym e ∙ is.1.2) ∙ place-mark is.1.0 is.1.1 in cc

laid_rule : (rule : Rule) (f : Folder) (p : Path) → IsFor rule p → p ≡ folder_path f → rule ≡ FolderOrNothing
laid_rule FolderOrNothing f p w e = refl
laid_rule NoFolder f p (inl w) e = absurd (no_laid w.0 f w.1 (sym w.2 ∙ e))
laid_rule FileOrNothing f p (inl w) e = absurd (no_file_asked w.0 w.1)
laid_rule NoFolder f p (inr w) e = laid_in w.0 NoFolder f p w.1 e
laid_rule FileOrNothing f p (inr w) e = laid_in w.0 FileOrNothing f p w.1 e

module _ (d e : Disk) (sane : IsSane d) (keeps : Keeps d e) where
  pub reached_kept : (p : Path) → IsReached d p → IsReached e p
  reached_kept p reached x there = by (keeps (under p x))
    where
      by : (shows e (under p x) ≡ shows d (under p x)) ⊎ Changes d (under p x) (shows e (under p x)) → IsPath (under p x)
      by (inl same) = reached x (λ none. there (vacant_absent e (under p x) (same ∙ ap (seen d) none)))
      by (inr (inl lays)) = subst IsPath (sym lays.0.1) (folder_is_path lays.0.0)
      by (inr (inr (inl clears))) = absurd (there (vacant_absent e (under p x) clears.2.1))
      by (inr (inr (inr (inl puts)))) = put_is_path d (under p x) (shows e (under p x)) puts
      by (inr (inr (inr (inr cleared)))) = absurd (there (vacant_absent e (under p x) cleared.1))

  kind_kept : (rule : Rule) (p : Path) → IsFor rule p → Suits rule (d.at p) → (shows e p ≡ shows d p) ⊎ Changes d p (shows e p) → Suits rule (e.at p)
  kind_kept rule p w suits (inl same) = suits_same rule d e (d.at p) (e.at p) same suits
  kind_kept rule p w suits (inr (inl lays)) = subst (λ r. Suits r (e.at p)) (sym (laid_rule rule lays.0.0 p w lays.0.1)) (folder_suits e (e.at p) (subst IsDirectory (sym lays.1) tt))
  kind_kept rule p w suits (inr (inr (inl clears))) = absent_suits rule (e.at p) (vacant_absent e p clears.2.1)
  kind_kept rule p w suits (inr (inr (inr (inl puts)))) = absurd (no_rule rule d p (shows e p) w puts)
  kind_kept rule p w suits (inr (inr (inr (inr cleared)))) = absent_suits rule (e.at p) (vacant_absent e p cleared.1)

  holds_kept : (p : Path) → is_below heads p ≡ true → HoldsRefs e p
  holds_kept p below = record {
    leaf = λ leaf. let was = leaf_was d e sane keeps p below leaf in let at = was.1 in
        (at.0, at.1, at.2, (at.3.0, record { sum = at.3.1.sum; file = reads_shows e p ∙ ap bytes_in was.0 ∙ sym (reads_shows d p) ∙ at.3.1.file }));
    reached = reached_kept p (sane RefFiles p below).reached;
  }

  pub still_sane : IsSane e
  still_sane Kinds p = λ rule w. kind_kept rule p w (sane Kinds p rule w) (keeps p)
  still_sane RefFiles p = λ below. holds_kept p below
  still_sane Staging p = λ actor small below. reached_kept p (sane Staging p actor small below)
