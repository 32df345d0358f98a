-- What an interrupted opening answers; and the refs of a disk that keeps a sane one.
use Rattle.std.proofs.Common.{◌≡◌, ◌⊎◌, inl, inr, ℕ, true, false, refl, sym, ◌∙◌, ap, subst, List, ◌++◌, Some, None, Err}
use Rattle.ost_types.specs.declared.limits.Limits.{Limits}
use Rattle.ost_types.specs.Path.{Path, is_below}
use Rattle.fs_trait.specs.declared.types.Value.{Value}
use Rattle.fs_trait.specs.declared.types.Value.TheVariants.{Absent, Folder, Link, File}
use Rattle.fs_trait.specs.View.{Disk}
use Rattle.fs_trait.specs.Seen.{Seen, Vacant, Directory, seen, shows, bytes_in}
use Rattle.repo_config.specs.Config.{config_text}
use Rattle.repo_layout.specs.Paths.{config_path, heads, ref_path, stage_path}
use Rattle.repo_layout.specs.RefName.{parts_of}
use Rattle.repo_layout.specs.Refs.{is_leaf}
use Rattle.repo_layout.specs.RefFile.{ref_text}
use Rattle.ref_room.specs.Way.{folder_meta}
use Rattle.rely_guarantee.specs.State.{RefOf, Said, first}
use Rattle.rely_guarantee.specs.Disks.{IsLeaf, Says, Logical}
use Rattle.sys_open.specs.declared.fault.OpenFault.{OpenFault}
use Rattle.sys_open.specs.declared.fault.OpenFault.TheVariants as fault
use Rattle.sys_open.specs.Faults.{IsInterruption}
use Rattle.layout_rules.specs.Checks.{IsSane, IsRefAt, RefFiles}
use Rattle.layout_rules.proofs.Sanes.{ref_below}
use Rattle.sys_open.specs.Changes.{Changes, Keeps, Puts, PutsConfig, file_meta}
use Rattle.sys_open.specs.LeftOver.{LiesIn}
use Rattle.sys_open.specs.Opening.{Answers, OnDamage}
use Rattle.repo_layout.specs.Place.{Ref}
use Rattle.repo_layout.proofs.Places.{place-ref}
use Rattle.rely_guarantee.specs.Rely.{IsBoot}
use Rattle.sys_open.proofs.LeftOvers.{lies_boot}

pub interrupted_answer : (T : Type 0) (limits : Limits) (d : Disk) (f : OpenFault) → IsInterruption f → Answers {T = T} limits d (Err f)
interrupted_answer T limits d fault.Disk is = tt
interrupted_answer T limits d fault.NoMemory is = tt
interrupted_answer T limits d (fault.Damaged p y) is = absurd is
interrupted_answer T limits d (fault.Outside p) is = absurd is

pub still_answers : (T U : Type 0) (limits : Limits) (d : Disk) (f : OpenFault) → Answers {T = T} limits d (Err f) → Answers {T = U} limits d (Err f)
still_answers T U limits d fault.Disk answers = tt
still_answers T U limits d fault.NoMemory answers = tt
still_answers T U limits d (fault.Damaged p y) answers = answers
still_answers T U limits d (fault.Outside p) answers = answers

pub interrupted_damage : (T : Type 0) (P : Type 0) (f : OpenFault) → IsInterruption f → OnDamage {T = T} (Err f) P
interrupted_damage T P fault.Disk is = tt
interrupted_damage T P fault.NoMemory is = tt
interrupted_damage T P (fault.Damaged p y) is = absurd is
interrupted_damage T P (fault.Outside p) is = absurd is

pub any_damage : (T : Type 0) (P : Type 0) (f : OpenFault) → P → OnDamage {T = T} (Err f) P
any_damage T P fault.Disk is = tt
any_damage T P fault.NoMemory is = tt
any_damage T P (fault.Damaged p y) is = is
any_damage T P (fault.Outside p) is = tt

pub leaf_shown : (d : Disk) (z : Value) → is_leaf z ≡ true → IsLeaf (seen d z)
leaf_shown d Absent e = let n : false ≡ true = e in cc
leaf_shown d (Folder m) e = let n : false ≡ true = e in cc
leaf_shown d (Link m t) e = tt
leaf_shown d (File n) e = tt

pub leaf_value : (d : Disk) (z : Value) → IsLeaf (seen d z) → is_leaf z ≡ true
leaf_value d (Link m t) leaf = refl
leaf_value d (File n) leaf = refl
leaf_value d Absent leaf = absurd leaf
leaf_value d (Folder m) leaf = absurd leaf

not_staged : (actor : ℕ) (rest : Path) → is_below (stage_path actor) (heads ++ rest) ≡ false
unfolding is_below stage_path
not_staged actor rest = refl

stage_apart : is_below heads (stage_path 0) ≡ false
unfolding is_below stage_path
stage_apart = refl

config_apart : is_below heads config_path ≡ false
unfolding is_below
config_apart = refl

-- nothing is put below the folder of refs
not_put : (d : Disk) (p : Path) (s : Seen) → is_below heads p ≡ true → PutsConfig d p s → ⊥
not_put d p s below puts = by puts.puts
  where
    by : Puts (stage_path 0) config_path file_meta config_text p s → ⊥
    by (inl staged) = let n : false ≡ true = sym stage_apart ∙ subst (λ q. is_below heads q ≡ true) staged.0 below in cc
    by (inr put) = let n : false ≡ true = sym config_apart ∙ subst (λ q. is_below heads q ≡ true) put.0 below in cc

module _ (d e : Disk) (sane : IsSane d) (keeps : Keeps d e) where
  -- what shows below the folder of refs is what showed there, or a folder
  ref_shown : (p : Path) → is_below heads p ≡ true → IsLeaf (shows e p) → shows e p ≡ shows d p
  ref_shown p below leaf = by (keeps p)
    where
      by : (shows e p ≡ shows d p) ⊎ Changes d p (shows e p) → shows e p ≡ shows d p
      by (inl same) = same
      by (inr (inl lays)) = let bad : IsLeaf (Directory folder_meta) = subst IsLeaf lays.1 leaf in absurd bad
      by (inr (inr (inl clears))) = let bad : IsLeaf Vacant = subst IsLeaf clears.2.1 leaf in absurd bad
      by (inr (inr (inr (inl puts)))) = absurd (not_put d p (shows e p) below puts)
      by (inr (inr (inr (inr cleared)))) = let bad : IsLeaf Vacant = subst IsLeaf cleared.1 leaf in absurd bad

  pub leaf_was : (p : Path) → is_below heads p ≡ true → is_leaf (e.at p) ≡ true → (shows e p ≡ shows d p) × IsRefAt d p
  leaf_was p below leaf =
      let same = ref_shown p below (leaf_shown e (e.at p) leaf) in
      (same, (sane RefFiles p below).leaf (leaf_value d (d.at p) (subst IsLeaf same (leaf_shown e (e.at p) leaf))))

  unstaged : (actor : ℕ) (name : List ℕ) → is_below (stage_path actor) (ref_path name) ≡ true → ⊥
  unfolding ref_path
  unstaged actor name below = let n : false ≡ true = sym (not_staged actor (parts_of name)) ∙ below in cc

  uncleared : (name : List ℕ) → LiesIn d (ref_path name) → ⊥
  uncleared name lies = let n : IsBoot (Ref name) = subst IsBoot (place-ref name) (lies_boot d (ref_path name) lies) in n

  says_still : (said : Said) (name : List ℕ) → Says (RefOf name) said (shows d (ref_path name)) → Says (RefOf name) said (shows e (ref_path name))
  says_still said name says = by said says (keeps (ref_path name))
    where
      by : (said : Said) → Says (RefOf name) said (shows d (ref_path name)) → (shows e (ref_path name) ≡ shows d (ref_path name)) ⊎ Changes d (ref_path name) (shows e (ref_path name)) → Says (RefOf name) said (shows e (ref_path name))
      by said says (inl same) = subst (Says (RefOf name) said) (sym same) says
      by None says (inr (inl lays)) = λ leaf. let bad : IsLeaf (Directory folder_meta) = subst IsLeaf lays.1 leaf in absurd bad
      by (Some commit) says (inr (inl lays)) = let n : None ≡ Some (ref_text commit) = sym (ap bytes_in lays.2) ∙ says.1 in cc
      by said says (inr (inr (inl clears))) = absurd (unstaged clears.0 name clears.2.0)
      by said says (inr (inr (inr (inl puts)))) = absurd (not_put d (ref_path name) (shows e (ref_path name)) (ref_below name) puts)
      by said says (inr (inr (inr (inr cleared)))) = absurd (uncleared name cleared.0)

  pub logical_kept : (refs : List (List ℕ × List ℕ)) → Logical d (first refs) → Logical e (first refs)
  logical_kept refs logical (RefOf name) = says_still (first refs (RefOf name)) name (logical (RefOf name))
