-- What is left where the folders were laid out and the staging paths cleared.
use Rattle.std.proofs.Common.{◌≡◌, inl, inr, ⊎_elim, ℕ, true, false, refl, sym, ◌∙◌, ap, subst, Option, Some, Result, Ok, Err}
use Rattle.std.specs.Prelude.{OnOk}
use Rattle.ost_types.specs.Path.{Name, Path, is_below, under}
use Rattle.ost_types.proofs.Paths.{is_below-under}
use Rattle.fs_trait.specs.declared.types.FsErr.{FsErr}
use Rattle.fs_trait.specs.declared.types.FsErr.TheVariants as err
use Rattle.fs_trait.specs.View.{Disk, View, all_synced}
use Rattle.fs_trait.specs.Image.{is_folder, IsTree, Told}
use Rattle.fs_trait.specs.Effect.{OfNone}
use Rattle.fs_trait.specs.Seen.{Seen, Vacant, seen, shows, Always}
use Rattle.fs_trait.specs.Change.{Writes}
use Rattle.fs_trait.proofs.Facts.{vacant_absent}
use Rattle.fs_trait.proofs.Effects.{all_synced-firm}
use Rattle.repo_layout.specs.declared.folder.Folder.{Folder}
use Rattle.repo_layout.specs.declared.folder.Folder.TheVariants.{Ostree, Repo, Objects, Refs, Heads, State, Tmp, Deploy, Boot, Kernels, Checkouts}
use Rattle.repo_layout.specs.Paths.{config_path, folder_path, stage_path}
use Rattle.sys_open.specs.declared.fault.OpenFault.{OpenFault}
use Rattle.sys_open.specs.Faults.{IsRefusal, IsInterruption}
use Rattle.layout_rules.specs.Checks.{Asks, Staging, IsSane}
use Rattle.sys_open.specs.Changes.{Changes, Configures, Lays, ClearsStages}
use Rattle.sys_open.specs.Damages.{HasConfig, ShowsConfig}
use Rattle.sys_open.proofs.ChangedPlaces.{config_put, laid_not_put, put_is_path}
use Rattle.sys_open.proofs.Clearings.{folder_still}

-- no folder of the layout lies at a staging path
apart : (f : Folder) (actor : ℕ) → is_below (stage_path actor) (folder_path f) ≡ false
unfolding is_below stage_path
apart Ostree actor = refl
apart Repo actor = refl
apart Objects actor = refl
apart Refs actor = refl
apart Heads actor = refl
apart State actor = refl
apart Tmp actor = refl
apart Deploy actor = refl
apart Boot actor = refl
apart Kernels actor = refl
apart Checkouts actor = refl

pub folders_stay : (v u : View) → Writes ClearsStages v u → (f : Folder) → is_folder (v.now.at (folder_path f)) ≡ true → is_folder (u.now.at (folder_path f)) ≡ true
folders_stay v u writes f folder = ⊎_elim
    (λ same. folder_still v.now u.now (folder_path f) same folder)
    (λ wrote. let n : false ≡ true = sym (apart f wrote.0) ∙ wrote.2.0 in cc)
    (writes.now (folder_path f))

-- what a path shows that isn't absent any more is a folder of the layout, which has no name
laid_reached : (v u : View) → IsTree u.now → Writes (Lays v.now) v u → ((p : Path) → Asks Staging v.now p) → (p : Path) → Asks Staging u.now p
laid_reached v u tree writes asks p actor small below x there = ⊎_elim
    (λ same. asks p actor small below x (λ none. there (vacant_absent u.now (under p x) (same ∙ ap (seen v.now) none))))
    (λ wrote. let n : false ≡ true = sym (apart wrote.0.0 actor) ∙ subst (λ q. is_below (stage_path actor) q ≡ true) wrote.0.1 (below_under_stage actor p x below) in cc)
    (writes.now (under p x))
  where
    below_under_stage : (actor : ℕ) (p : Path) (x : Name) → is_below (stage_path actor) p ≡ true → is_below (stage_path actor) (under p x) ≡ true
    below_under_stage actor p x below = is_below-under (stage_path actor) p x below

pub asks_kept : (v u : View) → IsTree u.now → Writes (Lays v.now) v u → IsSane v.now → (p : Path) → Asks Staging u.now p
asks_kept v u tree writes sane = laid_reached v u tree writes (sane Staging)

-- The configuration is still one, and still there.
pub config_laid : (v u : View) → Writes (Lays v.now) v u → HasConfig v.now → HasConfig u.now
config_laid v u writes has = ⊎_elim
    (λ same. ⊎_elim (λ none. inl (same ∙ none)) (λ is. inr (subst ShowsConfig (sym same) is)) has)
    (λ lays. inr (config_put v.now (shows u.now config_path) (inl lays)))
    (writes.now config_path)

none_before : (v u : View) → Writes (Lays v.now) v u → shows u.now config_path ≡ Vacant → shows v.now config_path ≡ Vacant
none_before v u writes none = ⊎_elim
    (λ same. sym same ∙ none)
    (λ lays. let bad : ShowsConfig Vacant = subst ShowsConfig none (config_put v.now (shows u.now config_path) (inl lays)) in absurd bad)
    (writes.now config_path)

-- what is written then was written from the beginning's view
pub configures_from : (v u : View) → Writes (Lays v.now) v u → (p : Path) (s : Seen) → Configures u.now p s → Changes v.now p s
configures_from v u writes p s (inl clears) = inr (inl clears)
configures_from v u writes p s (inr puts) = inr (inr (inl (record { none = none_before v u writes puts.none; puts = puts.puts })))

pub folders_stand : (v u : View) → Writes (Configures v.now) v u → (f : Folder) → is_folder (v.now.at (folder_path f)) ≡ true → is_folder (u.now.at (folder_path f)) ≡ true
folders_stand v u writes f folder = ⊎_elim
    (λ same. folder_still v.now u.now (folder_path f) same folder)
    (⊎_elim
    (λ wrote. let n : false ≡ true = sym (apart f wrote.0) ∙ wrote.2.0 in cc)
    (λ puts. absurd (laid_not_put v.now f (folder_path f) (shows u.now (folder_path f)) refl puts)))
    (writes.now (folder_path f))

pub asks_stand : (v u : View) → Writes (Configures v.now) v u → ((p : Path) → Asks Staging v.now p) → (p : Path) → Asks Staging u.now p
asks_stand v u writes asks p actor small below x there = ⊎_elim
    (λ same. asks p actor small below x (λ none. there (vacant_absent u.now (under p x) (same ∙ ap (seen v.now) none))))
    (⊎_elim
    (λ wrote. absurd (there (vacant_absent u.now (under p x) wrote.2.1)))
    (λ puts. put_is_path v.now (under p x) (shows u.now (under p x)) puts))
    (writes.now (under p x))

pub config_stays : (v u : View) → Writes ClearsStages v u → ShowsConfig (shows v.now config_path) → ShowsConfig (shows u.now config_path)
config_stays v u writes is = ⊎_elim
    (λ same. subst ShowsConfig (sym same) is)
    (λ wrote. config_put v.now (shows u.now config_path) (inr (inl wrote)))
    (writes.now config_path)

pub sync_interrupted : (at : Path) (e : FsErr) (f : OpenFault) → OfNone e → IsRefusal at e f → IsInterruption f
sync_interrupted at err.Failed f named is = subst IsInterruption (sym is) tt
sync_interrupted at err.NoMemory f named is = subst IsInterruption (sym is) tt
sync_interrupted at err.Exists f named is = absurd named
sync_interrupted at err.Missing f named is = absurd named
sync_interrupted at err.NotFolder f named is = absurd named
sync_interrupted at err.NotEmpty f named is = absurd named

-- a sync of all changes nothing that reads see, and makes it last
pub synced_now : (v : View) → (all_synced v).now ≡ v.now
unfolding all_synced
synced_now v = refl

pub synced_always : (v : View) (p : Path) → Always (all_synced v) p (shows (all_synced v).now p)
synced_always v p = subst (λ d. Always (all_synced v) p (shows d p)) (sym (synced_now v)) (all_synced-firm v p)

pub synced_told : {T : Type 0} (P : Disk → Type 0) (u : View) (view : Option View) (r : Result T OpenFault) → P u.now → OnOk r (view ≡ Some (all_synced u)) → OnOk r (Told view (λ w. P w.now))
synced_told P u view (Ok x) here told = (all_synced u, told, subst P (sym (synced_now u)) here)
synced_told P u view (Err e) here told = tt

pub synced_settled : {T : Type 0} (u : View) (view : Option View) (r : Result T OpenFault) → OnOk r (view ≡ Some (all_synced u)) → OnOk r (Told view (λ w. (p : Path) → Always w p (shows w.now p)))
synced_settled u view (Ok x) told = (all_synced u, told, synced_always u)
synced_settled u view (Err e) told = tt
