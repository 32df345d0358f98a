-- What stands where deployments may can be removed, whatever a crash leaves.
use Rattle.std.proofs.Common.{◌≡◌, ◌≢◌, ◌⊎◌, inl, inr, ⊎_elim, ℕ, ◌≤◌, sym, ◌∙◌, ap, subst, [], ◌∷◌, ◌++◌, append-nil, append_assoc, Option, Some}
use Rattle.ost_types.specs.Path.{Path, under}
use Rattle.ost_types.proofs.Paths.{is_below-under}
use Rattle.fs_trait.specs.View.{Disk, View}
use Rattle.fs_trait.specs.Image.{Image}
use Rattle.fs_trait.specs.Effect.{Elapses}
use Rattle.fs_trait.specs.Change.{Writes}
use Rattle.fs_trait.specs.Seen.{MayBe, Vacant, seen, shows}
use Rattle.fs_trait.proofs.Claims.{Image-root, Image-under, passes}
use Rattle.fs_trait.proofs.Facts.{vacant_absent}
use Rattle.fs_trait.proofs.Images.{folder_or_not}
use Rattle.durable_deployments.specs.Bounds.{AreBounded}
use Rattle.rely_guarantee.specs.Books.{Books}
use Rattle.rely_guarantee.specs.Rely.{Guarantee}
use Rattle.sys_open.specs.LeftOver.{CanGo}
use Rattle.lane_system.specs.Booting.{KeepsClear}
use Rattle.lane_system.proofs.Disks.{bounded_on}

-- what a crash leaves at a path is what may be there, or nothing
module _ (v : View) (d : Disk) (i : Image v d) where
  abbrev MayStand : Path → Type 0
  MayStand p = MayBe v p (shows d p) ⊎ (shows d p ≡ Vacant)

  from_folder : (g rest : Path) → MayStand g → MayStand (g ++ rest)
  from_folder g [] is = subst MayStand (sym (append-nil g)) is
  from_folder g (x ∷ rest) is = subst MayStand (append_assoc g (x ∷ []) rest)
      (from_folder (under g x) rest (⊎_elim (λ folder. inl (Image-under v d i g x folder)) (λ none. inr (ap (seen d) (i.gone g x none))) (folder_or_not (d.at g))))

  may_stand : (p : Path) → MayStand p
  may_stand p = from_folder [] p (inl (Image-root v d i))

  -- so an opening can remove what stands there
  can_go : AreBounded v → (p : Path) → CanGo d p
  can_go bounded p (q, may, below) x there =
      let some : shows d (under p x) ≢ Vacant = λ vacant. there (vacant_absent d (under p x) vacant) in
      ⊎_elim
      (λ may_be. bounded (under p x) (shows d (under p x)) (q, may, is_below-under q p x below) may_be some)
      (λ none. absurd (some none))
      (may_stand (under p x))

module _ {F : Type 0} (view : F → Option View) (clock : F → ℕ) (was : F → ℕ → View → Type 0) (only_now : (fs : F) (t : ℕ) (v : View) → clock fs ≤ t → was fs t v → view fs ≡ Some v) where
  same_told : (fs : F) (u v : View) → view fs ≡ Some u → view fs ≡ Some v → u ≡ v
  same_told fs u v is told = let e : Some u ≡ Some v = sym is ∙ told in cc

  pub clear_on : (old new : F) (v w : View) (b : Books) (actor lane moment : ℕ) → view new ≡ Some w → Elapses (clock old) (clock new) (was old) (was new) (view new) → Writes (Guarantee b v actor lane) v w
      → KeepsClear (was old) moment v → KeepsClear (was new) moment w
  clear_on old new v w b actor lane moment told time writes keeps = record {
    bounded = now;
    since = λ t d from left. ⊎_elim
        (λ before. keeps.since t d from before)
        (λ here. can_go w d (subst (λ u. Image u d) (same_told new here.0 w here.1 told) here.2) now)
        ((passes (clock old) (clock new) (was old) (was new) (view new) (only_now new) time).nothing_else t d left);
  }
    where
      now : AreBounded w
      now = bounded_on v w b actor lane writes keeps.bounded
