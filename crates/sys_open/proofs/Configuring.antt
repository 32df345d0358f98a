-- What is left where the configuration is written.
use Rattle.std.proofs.Common.{◌≡◌, ◌≢◌, inl, inr, ⊎_elim, true, false, refl, sym, ◌∙◌, ap, subst, arith, [], ◌++◌, codes}
use Rattle.std.specs.Fmt.{decimal}
use Rattle.ost_types.specs.Path.{Name, Path, is_below, under}
use Rattle.ost_types.proofs.Paths.{under-folder}
use Rattle.fs_trait.specs.declared.types.FsErr.{FsErr}
use Rattle.fs_trait.specs.declared.types.FsErr.TheVariants as err
use Rattle.fs_trait.specs.declared.types.Value.{Value}
use Rattle.fs_trait.specs.declared.types.Value.TheVariants.{Absent}
use Rattle.fs_trait.specs.View.{Disk, View}
use Rattle.fs_trait.specs.Image.{is_folder}
use Rattle.fs_trait.specs.Seen.{Seen, Vacant, seen, shows, IsDirectory, NotDirectory}
use Rattle.fs_trait.specs.Change.{Writes}
use Rattle.fs_trait.proofs.Effects.{may_now}
use Rattle.fs_trait.proofs.Facts.{leaf_not_directory, vacant_absent}
use Rattle.repo_layout.specs.declared.folder.Folder.{Folder as LayoutFolder}
use Rattle.repo_layout.specs.declared.folder.Folder.TheVariants.{Repo, Tmp}
use Rattle.repo_layout.specs.Paths.{config_path, folder_path, stage_path}
use Rattle.repo_layout.specs.Refs.{is_leaf}
use Rattle.staged_file.specs.declared.phase.Phase.{Phase}
use Rattle.staged_file.specs.declared.phase.Phase.TheVariants.{Clear, Create, Append, SyncFile, Look, Replace, SyncFolder, Ended}
use Rattle.staged_file.specs.Staged.{Staged}
use Rattle.staged_file.specs.Steps.{IsFileWith, IsPlaced, Needs, writes_in}
use Rattle.staged_file.specs.Whole.{MayBegin, Stops, Written}
use Rattle.staged_file.proofs.Stable.{ended_lasts}
use Rattle.staged_file.proofs.Wholes.{IsSame}
use Rattle.sys_open.specs.declared.fault.OpenFault.{OpenFault}
use Rattle.sys_open.specs.Faults.{IsInterruption, IsRefusal}
use Rattle.sys_open.specs.Changes.{Clears, Configures, Puts, of_config}
use Rattle.sys_open.specs.Damages.{HasConfig, ShowsConfig}
use Rattle.sys_open.proofs.ChangedPlaces.{put_shows}

-- what each step writes
pub puts_in : (ph : Phase) (t : Staged) (v : View) (p : Path) (s : Seen) → writes_in ph t v p s → Puts t.stage t.at t.meta t.bytes p s
puts_in Clear t v p s a = inl (a.0, inl a.1)
puts_in Create t v p s a = inl (a.0, inr (a.1.0, a.1.1))
puts_in Append t v p s a = inl (a.0, inr (a.1.0, a.1.1))
puts_in SyncFile t v p s a = absurd a
puts_in Look t v p s a = absurd a
puts_in Replace t v p s (inl a) = inr (a.0, (a.1.0, a.1.1))
puts_in Replace t v p s (inr a) = inl (a.0, inl a.1)
puts_in SyncFolder t v p s a = absurd a
puts_in Ended t v p s a = absurd a

pub puts_same : (t u : Staged) → IsSame t u → (p : Path) (s : Seen) → Puts u.stage u.at u.meta u.bytes p s → Puts t.stage t.at t.meta t.bytes p s
puts_same t u same p s puts =
    subst (λ x. Puts x t.at t.meta t.bytes p s) same.stage
    (subst (λ x. Puts u.stage x t.meta t.bytes p s) same.at
    (subst (λ x. Puts u.stage u.at x t.bytes p s) same.meta
    (subst (λ x. Puts u.stage u.at u.meta x p s) same.bytes puts)))

pub puts_written : (t : Staged) (p : Path) (s : Seen) → Puts t.stage t.at t.meta t.bytes p s → Written t p s
puts_written t p s (inl staged) = inl (staged.0, ⊎_elim (λ none. subst NotDirectory (sym none) tt) (λ file. leaf_not_directory s file.0 t.meta file.1.0 file.1.1) staged.1)
puts_written t p s (inr put) = inr put

-- what the target shows at the end
pub lasts_now : (t u : Staged) → IsSame t u → (w : View) → Needs u w → u.phase ≡ Ended → IsFileWith t.meta t.bytes (shows w.now t.at)
lasts_now t u same w needs ended =
    subst (λ p. IsFileWith t.meta t.bytes (shows w.now p)) same.at
    (subst (λ x. IsFileWith x t.bytes (shows w.now u.at)) same.meta
    (subst (λ x. IsFileWith u.meta x (shows w.now u.at)) same.bytes
    (ended_lasts u w needs ended (shows w.now u.at) (may_now w u.at))))

-- The paths of the configuration, and what its file needs to begin.
abbrev stage_name : Name
stage_name = codes "actor-" ++ decimal 0

stage_in_tmp : stage_path 0 ≡ under (folder_path Tmp) stage_name
unfolding stage_path
stage_in_tmp = refl

config_in_repo : config_path ≡ under (folder_path Repo) (codes "config")
config_in_repo = refl

stage_not_config : stage_path 0 ≢ config_path
unfolding stage_path
stage_not_config e = cc

stage_aside : is_below (stage_path 0) (folder_path Repo) ≡ false
unfolding is_below stage_path
stage_aside = refl

placed : IsPlaced (stage_path 0) (folder_path Repo) config_path
placed = record { apart = stage_not_config; staging = (folder_path Tmp, stage_name, stage_in_tmp); aside = stage_aside; inside = (codes "config", config_in_repo) }

pub may_begin : (t : Staged) (d : Disk) → t ≡ of_config → ((f : LayoutFolder) → is_folder (d.at (folder_path f)) ≡ true) → shows d (stage_path 0) ≡ Vacant → MayBegin t d
may_begin t d e folders none = subst (λ (x : Staged). MayBegin x d) (sym e) (record {
  new = refl;
  placed = placed;
  folder = folders Repo;
  home = λ g y is. subst (λ p. is_folder (d.at p) ≡ true) (under-folder (folder_path Tmp) g stage_name y (sym stage_in_tmp ∙ is)) (folders Tmp);
  leaf = ap is_folder (vacant_absent d (stage_path 0) none);
})

-- why it isn't written: it is no folder that stands there
stops_interrupt : (v : View) (e : FsErr) (f : OpenFault) → shows v.now config_path ≡ Vacant → Stops of_config v e → IsRefusal [] e f → IsInterruption f
stops_interrupt v err.Failed f none stops is = subst IsInterruption (sym is) tt
stops_interrupt v err.NoMemory f none stops is = subst IsInterruption (sym is) tt
stops_interrupt v err.Exists f none stops is = let bad : IsDirectory Vacant = subst IsDirectory none stops in absurd bad
stops_interrupt v err.Missing f none stops is = absurd stops
stops_interrupt v err.NotFolder f none stops is = absurd stops
stops_interrupt v err.NotEmpty f none stops is = absurd stops

pub put_interrupted : (t : Staged) (v : View) (e : FsErr) (f : OpenFault) → t ≡ of_config → shows v.now config_path ≡ Vacant → Stops t v e → IsRefusal [] e f → IsInterruption f
put_interrupted t v e f is none stops refused = stops_interrupt v e f none (subst (λ x. Stops x v e) is stops) refused

pub put_config : (d : Disk) (t : Staged) → t ≡ of_config → shows d config_path ≡ Vacant → (p : Path) (s : Seen) → Puts t.stage t.at t.meta t.bytes p s → Configures d p s
put_config d t is none p s puts = inr (record { none = none; puts = subst (λ (x : Staged). Puts x.stage x.at x.meta x.bytes p s) is puts })

pub config_shows : (t : Staged) (w : View) → t ≡ of_config → IsFileWith t.meta t.bytes (shows w.now t.at) → ShowsConfig (shows w.now config_path)
config_shows t w is last = put_shows (shows w.now config_path) (subst (λ (x : Staged). IsFileWith x.meta x.bytes (shows w.now x.at)) is last)

-- what is at the staging path goes first
pub clears_first : (d : Disk) (p : Path) (s : Seen) → Clears (stage_path 0) p s → Configures d p s
clears_first d p s clears = inl (0, omega arith, clears)

-- The configuration, where something stands there.
pub there_shows : (d : Disk) → HasConfig d → d.at config_path ≢ Absent → ShowsConfig (shows d config_path)
there_shows d has there = ⊎_elim (λ none. absurd (there (vacant_absent d config_path none))) (λ is. is) has

pub leaf_there : (z : Value) → is_leaf z ≡ true → z ≢ Absent
leaf_there z leaf e = let n : false ≡ true = sym (ap is_leaf e) ∙ leaf in cc

pub directory_there : (d : Disk) (z : Value) → IsDirectory (seen d z) → z ≢ Absent
directory_there d z is e = let bad : IsDirectory Vacant = subst IsDirectory (ap (seen d) e) is in bad

-- Clearing the staging path leaves it absent.
pub none_cleared : (v u : View) → Writes (Clears (stage_path 0)) v u → shows v.now config_path ≡ Vacant → shows u.now config_path ≡ Vacant
none_cleared v u writes none = ⊎_elim (λ same. same ∙ none) (λ wrote. wrote.1) (writes.now config_path)
