-- What the opening of a repository answers and leaves.
use Rattle.std.specs.Prelude.{◌≡◌, ◌≤◌, ◌<◌, ℕ, IsTrue, List, map, Result, Ok, Err}
use Rattle.std.specs.Cmp.Lexicographic.{slice_cmp}
use Rattle.std.specs.List.Sorted.{IsStrictlySortedBy}
use Rattle.std.specs.Ordering.{nat_cmp}
use Rattle.ost_types.specs.declared.limits.Limits.{Limits}
use Rattle.ost_types.specs.Path.{Path, is_below}
use Rattle.fs_trait.specs.View.{Disk, View}
use Rattle.fs_trait.specs.Seen.{Vacant, shows}
use Rattle.repo_layout.specs.Paths.{config_path, stage_path}
use Rattle.rely_guarantee.specs.State.{State, first}
use Rattle.rely_guarantee.specs.Disks.{Logical}
use Rattle.rely_guarantee.specs.Opening.{IsOpening}
use Rattle.sys_open.specs.declared.fault.OpenFault.{OpenFault}
use Rattle.sys_open.specs.declared.fault.OpenFault.TheVariants as fault
use Rattle.sys_open.specs.Changes.{Keeps}
use Rattle.sys_open.specs.LeftOver.{HasNoLeftOvers}
use Rattle.sys_open.specs.Damages.{Check, Fails, IsFault, IsGood, Passes, ShowsConfig}

-- Whether it is opened, by what reads see at the beginning.
abbrev pub IsToldOf : Limits → Disk → OpenFault → Type 0
IsToldOf limits d (fault.Damaged p why) = IsFault limits d p why
IsToldOf limits d (fault.Outside p) = ⊥
IsToldOf limits d e = Unit {0}

abbrev pub Answers : {T : Type 0} → Limits → Disk → Result T OpenFault → Type 0
Answers limits d (Ok x) = IsGood limits d
Answers limits d (Err e) = IsToldOf limits d e

-- What one check tells: the disk passes it, or fails it so.
abbrev pub ToldBy : {T : Type 0} → Check → Limits → Disk → Result T OpenFault → Type 0
ToldBy check limits d (Ok x) = Passes check limits d
ToldBy check limits d (Err (fault.Damaged p why)) = Fails check limits d p why
ToldBy check limits d (Err (fault.Outside p)) = ⊥
ToldBy check limits d (Err e) = Unit {0}

-- refs by their names, each once, ascending by the bytes of the names
abbrev pub AreAscending : List (List ℕ × List ℕ) → Type 0
AreAscending refs = IsStrictlySortedBy (slice_cmp nat_cmp) (map (λ r. r.0) refs)

-- what was read as the disk's refs: each by its name once, ascending, and each ref of the disk is among them
pub record AreRefsOf (d : Disk) (refs : List (List ℕ × List ℕ)) : Type 0 where
  pub ascending : AreAscending refs
  pub logical : Logical d (first refs)

-- nothing stands at a staging path or below it
abbrev pub HasNoStages : Disk → Type 0
HasNoStages d = (actor : ℕ) → actor < 16 → (p : Path) → IsTrue (is_below (stage_path actor) p) → shows d p ≡ Vacant

-- Each disk that a crash left since that moment shows what this one shows, but where a folder or the configuration came, a
-- staging path was cleared, or what no list boots went.
abbrev pub KeepsSince : (ℕ → Disk → Type 0) → ℕ → Disk → Type 0
KeepsSince left opened d = (t : ℕ) (e : Disk) → opened ≤ t → left t e → Keeps d e

-- Each disk that a crash left since that moment is good, and has this state, so it opens again with it.
abbrev pub IsGoodSince : (ℕ → Disk → Type 0) → ℕ → Limits → State → Type 0
IsGoodSince left opened limits start = (t : ℕ) (d : Disk) → opened ≤ t → left t d → IsGood limits d × Logical d start

-- What it leaves: a system can begin with these refs, which are those of the beginning, nothing stands at a staging path or is what no
-- list boots, and the configuration is there.
pub record Begins (refs : List (List ℕ × List ℕ)) (v w : View) : Type 0 where
  pub opening : IsOpening (first refs) w
  pub same : Logical v.now (first refs)
  pub keeps : Keeps v.now w.now
  pub staging : HasNoStages w.now
  pub left_over : HasNoLeftOvers w.now
  pub config : ShowsConfig (shows w.now config_path)

-- after damage was told all is as it was, and outlasts a crash
abbrev pub StaysOnDamage : OpenFault → Type 0 → Type 0
StaysOnDamage (fault.Damaged p why) P = P
StaysOnDamage e P = Unit {0}

abbrev pub OnDamage : {T : Type 0} → Result T OpenFault → Type 0 → Type 0
OnDamage (Err e) P = StaysOnDamage e P
OnDamage (Ok x) P = Unit {0}
