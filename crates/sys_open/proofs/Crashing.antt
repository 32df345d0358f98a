-- What each crash leaves while a repository is opened, from the first barrier on.
use Rattle.std.proofs.Common.{◌≡◌, ◌⊎◌, inl, inr, ⊎_elim, ◌≤◌, ℕ, true, false, arith, sym, ◌∙◌, ap, subst, [], ◌∷◌, ◌++◌, append-nil, append_assoc, Option, Some}
use Rattle.ost_types.specs.Path.{Name, Path, is_below, under}
use Rattle.ost_types.proofs.Paths.{is_below-self, is_below-under}
use Rattle.repo_config.specs.Config.{config_text}
use Rattle.repo_layout.specs.Paths.{config_path, stage_path}
use Rattle.fs_trait.specs.View.{Disk, View}
use Rattle.fs_trait.specs.Image.{Image, IsTree, is_folder}
use Rattle.fs_trait.specs.Seen.{Seen, Vacant, seen, shows, MayBe, Always, IsDirectory}
use Rattle.fs_trait.specs.Change.{Writes, Left}
use Rattle.fs_trait.proofs.Claims.{Image-root, Image-under, folder_shows}
use Rattle.fs_trait.proofs.Images.{folder_or_not, not_both}
use Rattle.fs_trait.proofs.Facts.{vacant_absent}
use Rattle.fs_trait.proofs.Kept.{same_view}
use Rattle.sys_open.specs.Changes.{Changes, Keeps, Puts, Works, file_meta}
use Rattle.sys_open.specs.Opening.{KeepsSince}
use Rattle.sys_open.proofs.Clearings.{folder_still}
use Rattle.sys_open.proofs.Working.{one_view}

-- A crash leaves each name as it was at the barrier, or as the opening wrote it; or what was above it has gone, which was at a
-- staging path, as it was itself.
module _ (u w : View) (tree : IsTree u.now) (settled : (p : Path) → Always u p (shows u.now p)) (writes : Writes (Changes u.now) u w) (d : Disk) (i : Image w d) where
  abbrev IsKept : Path → Type 0
  IsKept p = (shows d p ≡ shows u.now p) ⊎ Changes u.now p (shows d p)

  may : (p : Path) (s : Seen) → MayBe w p s → (s ≡ shows u.now p) ⊎ Changes u.now p s
  may p s is = ⊎_elim (λ was. inl ((settled p).each s was)) (λ wrote. inr wrote) (writes.only p s is)

  was_none : (f : Path) → is_folder (d.at f) ≡ false → shows d f ≡ shows u.now f → is_folder (u.now.at f) ≡ false
  was_none f none same = ⊎_elim (λ folder. absurd (not_both (folder_still u.now d f same folder) none)) (λ no_. no_) (folder_or_not (u.now.at f))

  gone : (f : Path) (x : Name) → is_folder (d.at f) ≡ false → IsKept f → IsKept (under f x)
  gone f x none kept = by kept
    where
      vacant : shows d (under f x) ≡ Vacant
      vacant = ap (seen d) (i.gone f x none)

      by : IsKept f → IsKept (under f x)
      by (inl same) = inl (vacant ∙ sym (ap (seen u.now) (tree.folders f x (was_none f none same))))
      by (inr (inl lays)) = absurd (not_both (folder_shows d f (subst IsDirectory (sym lays.1) tt)) none)
      by (inr (inr (inl clears))) = inr (inr (inl (clears.0, clears.1, (is_below-under (stage_path clears.0) f x clears.2.0, vacant))))
      by (inr (inr (inr (inr cleared)))) = inr (inr (inr (inr ((cleared.0.0, cleared.0.1, is_below-under cleared.0.0 f x cleared.0.2), vacant))))
      by (inr (inr (inr (inl puts)))) = below_put puts.puts
        where
          no_folder : f ≡ config_path → is_folder (u.now.at f) ≡ false
          no_folder e = ap is_folder (vacant_absent u.now f (ap (shows u.now) e ∙ puts.none))

          below_put : Puts (stage_path 0) config_path file_meta config_text f (shows d f) → IsKept (under f x)
          below_put (inl staged) = inr (inr (inl (0, omega arith, (is_below-under (stage_path 0) f x (subst (λ q. is_below (stage_path 0) q ≡ true) (sym staged.0) (is_below-self (stage_path 0))), vacant))))
          below_put (inr put) = inl (vacant ∙ sym (ap (seen u.now) (tree.folders f x (no_folder put.0))))

  step : (f : Path) (x : Name) → IsKept f → IsKept (under f x)
  step f x kept = ⊎_elim (λ folder. may (under f x) (shows d (under f x)) (Image-under w d i f x folder)) (λ none. gone f x none kept) (folder_or_not (d.at f))

  on : (f rest : Path) → IsKept f → IsKept (f ++ rest)
  on f [] kept = subst IsKept (sym (append-nil f)) kept
  on f (x ∷ rest) kept = subst IsKept (append_assoc f (x ∷ []) rest) (on (under f x) rest (step f x kept))

  pub image_keeps : Keeps u.now d
  image_keeps p = on [] p (may [] (shows d []) (Image-root w d i))

-- each crash since the run began
pub since_keeps : (u : View) (tree : IsTree u.now) (settled : (p : Path) → Always u p (shows u.now p)) (before now : ℕ) (past since : ℕ → View → Type 0) (old view : Option View)
    → ((t : ℕ) (w : View) → before ≤ t → past t w → old ≡ Some w) → old ≡ Some u → Works (Changes u.now) u before now past since view → KeepsSince (Left since) before u.now
since_keeps u tree settled before now past since old view only_now told works t d from left = image_keeps u left.0 tree settled writes d left.2
  where
    writes : Writes (Changes u.now) u left.0
    writes = ⊎_elim
        (λ was. subst (λ x. Writes (Changes u.now) u x) (one_view old u left.0 told (only_now t left.0 from was)) (same_view (Changes u.now) u))
        (λ wrote. wrote)
        (works.nothing_else t left.0 left.1)
