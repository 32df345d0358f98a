-- What a task knows of the disk, step by step.
use Rattle.std.proofs.Common.{◌≡◌, ◌≢◌, ◌⊎◌, inl, inr, ⊎_elim, List, [], ◌∷◌, drop, refl, sym, ◌∙◌, ap, subst, arith, codes}
use Rattle.std.specs.Prelude.{Contains}
use Rattle.ost_types.specs.Path.{Name, Path, under}
use Rattle.fs_trait.specs.declared.types.Value.{Value}
use Rattle.fs_trait.specs.declared.types.Value.TheVariants.{Absent, Folder, Link, File}
use Rattle.fs_trait.specs.View.{Disk, View}
use Rattle.fs_trait.specs.Image.{IsTree}
use Rattle.fs_trait.specs.Effect.{IsListing}
use Rattle.fs_trait.specs.Seen.{Vacant, seen, shows}
use Rattle.repo_layout.specs.OsName.{IsOsName}
use Rattle.repo_layout.specs.Paths.{folder_path}
use Rattle.repo_layout.specs.declared.folder.Folder.TheVariants.{Deploy}
use Rattle.boot_model.specs.declared.item.DepId.{DepId}
use Rattle.checkout.proofs.RemoveBelow.{absent_below}
use Rattle.checkout.proofs.RemoveLists.{cons_cases}
use Rattle.deploy_clean.specs.Opened.{Opened, passed}
use Rattle.deploy_clean.specs.declared.phase.Phase.{Phase}
use Rattle.deploy_clean.specs.Cleaning.{Cleaning}
use Rattle.deploy_clean.specs.Steps.{IsAhead, IsInHand, Needs, ahead_in}
use Rattle.deploy_clean.specs.Unlisted.{IsUnlisted, IsUnlistedName, deployments}
use Rattle.deploy_clean.proofs.Places.{unlisted_at, unlisted_under}

-- what is to go is gone, or lies ahead
abbrev pub Known : List DepId → Disk → (Path → Type 0) → Type 0
Known listed d Ahead = (p : Path) → IsUnlisted listed p → (shows d p ≡ Vacant) ⊎ Ahead p

pub known_in : (t : Cleaning) (v : View) (ph : Phase) → t.phase ≡ ph → Needs t v → Known t.listed v.now (ahead_in ph t.stateroots)
known_in t v ph is needs = subst (λ x. Known t.listed v.now (ahead_in x t.stateroots)) is needs.known

pub known_more : (listed : List DepId) (d : Disk) (A B : Path → Type 0) → Known listed d A → ((p : Path) → IsUnlisted listed p → A p → (shows d p ≡ Vacant) ⊎ B p) → Known listed d B
known_more listed d A B known more p is = ⊎_elim (λ gone. inl gone) (λ a. more p is a) (known p is)

-- what is gone stays so while nothing is put there
pub known_still : (listed : List DepId) (d e : Disk) (A : Path → Type 0) → ((p : Path) → IsUnlisted listed p → (shows e p ≡ shows d p) ⊎ (shows e p ≡ Vacant)) → Known listed d A → Known listed e A
known_still listed d e A still known p is = ⊎_elim (λ gone. ⊎_elim (λ same. inl (same ∙ gone)) (λ now. inl now) (still p is)) (λ a. inr a) (known p is)

absent_or : (z : Value) → (z ≡ Absent) ⊎ (z ≢ Absent)
absent_or Absent = inl refl
absent_or (Folder m) = inr (λ e. let n : Folder m ≡ Absent = e in cc)
absent_or (Link m t) = inr (λ e. let n : Link m t ≡ Absent = e in cc)
absent_or (File i) = inr (λ e. let n : File i ≡ Absent = e in cc)

no_member : {X : Type 0} (x : X) → ¬ (Contains [] x)
no_member x has = omega (arith, has.1)

-- ---- stateroots

pub stateroots_known : (listed : List DepId) (d : Disk) (names : List Name) → IsTree d → IsListing d (folder_path Deploy) names → Known listed d (IsAhead names)
stateroots_known listed d names tree listing p is =
    let u = unlisted_under listed p is in
    ⊎_elim
    (λ none. inl (ap (shows d) u.at ∙ ap (seen d) (absent_below d tree (under (folder_path Deploy) u.os) (codes "deploy" ∷ u.name ∷ []) none)))
    (λ there. inr (u.os, u.name, listing.all u.os there, u.at))
    (absent_or (d.at (under (folder_path Deploy) u.os)))

module _ (listed : List DepId) (d : Disk) (name : Name) (rest : List Name) (known : Known listed d (IsAhead (name ∷ rest))) where
  pub other_known : ¬ (IsOsName name) → Known listed d (IsAhead rest)
  other_known other = known_more listed d (IsAhead (name ∷ rest)) (IsAhead rest) known (λ p is ahead.
      ⊎_elim
      (λ same. absurd (other (subst IsOsName same (unlisted_at listed ahead.0 ahead.1 (subst (IsUnlisted listed) ahead.3 is)).0)))
      (λ has. inr (ahead.0, ahead.1, has, ahead.3))
      (cons_cases ahead.0 name rest ahead.2))

  pub opened_known : (names : List Name) → IsListing d (deployments name) names → Known listed d (λ p. IsInHand (record { os = name; names = names }) p ⊎ IsAhead rest p)
  opened_known names listing = known_more listed d (IsAhead (name ∷ rest)) (λ p. IsInHand (record { os = name; names = names }) p ⊎ IsAhead rest p) known (λ p is ahead.
      ⊎_elim
      (λ same.
      let at : p ≡ under (deployments name) ahead.1 = ahead.3 ∙ ap (λ o. under (deployments o) ahead.1) same in
      ⊎_elim
      (λ none. inl (ap (shows d) at ∙ ap (seen d) none))
      (λ there. inr (inl (ahead.1, listing.all ahead.1 there, at)))
      (absent_or (d.at (under (deployments name) ahead.1))))
      (λ has. inr (inr (ahead.0, ahead.1, has, ahead.3)))
      (cons_cases ahead.0 name rest ahead.2))

pub last_known : (listed : List DepId) (d : Disk) → Known listed d (IsAhead []) → (p : Path) → IsUnlisted listed p → shows d p ≡ Vacant
last_known listed d known p is = ⊎_elim (λ gone. gone) (λ ahead. absurd (no_member ahead.0 ahead.2)) (known p is)

-- ---- the one in hand

abbrev pub InHand : Opened → List Name → Path → Type 0
InHand o stateroots p = IsInHand o p ⊎ IsAhead stateroots p

pub closed_known : (listed : List DepId) (d : Disk) (o : Opened) (stateroots : List Name) → o.names ≡ [] → Known listed d (InHand o stateroots) → Known listed d (IsAhead stateroots)
closed_known listed d o stateroots none known = known_more listed d (InHand o stateroots) (IsAhead stateroots) known (λ p is ahead.
    ⊎_elim (λ here. absurd (no_member here.0 (subst (λ l. Contains l here.0) none here.1))) (λ later. inr later) ahead)

-- the next name is seen to: nothing is to go under it, or nothing stands there any more
module _ (listed : List DepId) (d : Disk) (o : Opened) (stateroots : List Name) (name : Name) (rest : List Name) (first : o.names ≡ name ∷ rest) (known : Known listed d (InHand o stateroots)) where
  passed_known : ((p : Path) → IsUnlisted listed p → p ≡ under (deployments o.os) name → shows d p ≡ Vacant) → Known listed d (InHand (passed o) stateroots)
  passed_known none = known_more listed d (InHand o stateroots) (InHand (passed o) stateroots) known (λ p is ahead.
      ⊎_elim
      (λ here.
      ⊎_elim
      (λ same. inl (none p is (here.2 ∙ ap (under (deployments o.os)) same)))
      (λ has. inr (inl (here.0, subst (λ l. Contains l here.0) (sym (ap (λ l. drop 1 l) first)) has, here.2)))
      (cons_cases here.0 name rest (subst (λ l. Contains l here.0) first here.1)))
      (λ later. inr (inr later)) ahead)

  pub stays_known : ¬ (IsUnlistedName listed o.os name) → Known listed d (InHand (passed o) stateroots)
  stays_known other = passed_known (λ p is at. absurd (other (unlisted_at listed o.os name (subst (IsUnlisted listed) at is)).1))

  pub gone_known : shows d (under (deployments o.os) name) ≡ Vacant → Known listed d (InHand (passed o) stateroots)
  gone_known gone = passed_known (λ p is at. ap (shows d) at ∙ gone)
