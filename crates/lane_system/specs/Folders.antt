-- The folders of checkouts: whose each one is.
use Rattle.std.specs.Prelude.{◌≡◌, ◌≢◌, ◌⊎◌, ◌<◌, ℕ, List}
use Rattle.ost_types.specs.Path.{Name}
use Rattle.fs_trait.specs.Seen.{Vacant, shows}
use Rattle.fs_trait.specs.View.{Disk, View}
use Rattle.repo_layout.specs.BootPaths.{checkout_path}
use Rattle.command.specs.Doing.{Doing}
use Rattle.command.specs.Meaning.{Meaning}
use Rattle.lane_system.specs.declared.lane.Lane.{Lane}
use Rattle.lane_system.specs.declared.lane.Reply.{Reply}
use Rattle.lane_system.specs.declared.lane.Running.{Running}
use Rattle.lane_system.specs.Lanes.{IsCommand, IsRunning, IsTo}
use Rattle.lane_system.specs.Replies.{OfAnswer}
use Rattle.lane_system.specs.System.{System}

-- a command of a lane with this number, which makes the checkout of this name
abbrev pub IsClaimedBy : {T W A : Type 0} → Meaning W A → List (Lane T W A) → ℕ → ℕ → Name → Type 0
IsClaimedBy {T} {W} {A} m lanes lane number name = (c : W) × IsCommand lanes lane number c × m.claims c name

-- one that has its reply, or one that runs and has made the folder
abbrev pub HasMadeIt : {T W A : Type 0} → Meaning W A → Doing T W A → List (Lane T W A) → Name → ℕ → ℕ → Type 0
HasMadeIt {T} {W} {A} m d lanes name lane number =
    IsClaimedBy m lanes lane number name
    × (((r : Reply A) × IsTo lanes lane number r) ⊎ ((r : Running T) × IsRunning lanes lane number r × d.made r.work name))

-- something stood there on the other disk, or such a command made it
abbrev pub IsMade : {T W A : Type 0} → Meaning W A → Doing T W A → List (Lane T W A) → Disk → Name → Type 0
IsMade m d lanes disk name = (shows disk (checkout_path name) ≢ Vacant) ⊎ ((lane : ℕ) × (number : ℕ) × HasMadeIt m d lanes name lane number)

-- something stood there on the other disk, or another lane or an earlier command of this one makes the checkout of the name
abbrev pub IsTaken : {T W A : Type 0} → Meaning W A → List (Lane T W A) → Disk → Name → ℕ → ℕ → Type 0
IsTaken m lanes disk name lane number = (shows disk (checkout_path name) ≢ Vacant) ⊎ ((other : ℕ) × (another : ℕ) × IsClaimedBy m lanes other another name × ((other ≢ lane) ⊎ (another < number)))

-- a command is told that something stands in the way of a checkout only where it is taken
abbrev pub AreTakenIn : {T W A : Type 0} → Meaning W A → List (Lane T W A) → Disk → Type 0
AreTakenIn {T} {W} {A} m lanes disk = (lane number : ℕ) (r : Reply A) (c : W) (name : Name) → IsTo lanes lane number r → IsCommand lanes lane number c → OfAnswer (λ a. m.finds a c name) r.answer → IsTaken m lanes disk name lane number

-- this command made the folder itself: it was answered so, or it runs and has made it
abbrev pub HasItself : {T W A : Type 0} → Meaning W A → Doing T W A → List (Lane T W A) → Name → ℕ → ℕ → Type 0
HasItself {T} {W} {A} m d lanes name lane number =
    ((r : Reply A) × (c : W) × IsTo lanes lane number r × IsCommand lanes lane number c × OfAnswer (λ a. m.checks_out a c name) r.answer)
    ⊎ ((r : Running T) × IsRunning lanes lane number r × d.made r.work name)

-- From the other disk on: what stood at the path of a checkout stands. Nothing stood there where a command made its folder; it stands now,
-- and no other command made it.
pub record AreClear {T W A : Type 0} (m : Meaning W A) (d : Doing T W A) (lanes : List (Lane T W A)) (opening now : Disk) : Type 0 where
  pub stood : (name : Name) → shows opening (checkout_path name) ≢ Vacant → shows now (checkout_path name) ≢ Vacant
  pub free : (name : Name) (lane number : ℕ) → HasItself m d lanes name lane number → (shows opening (checkout_path name) ≡ Vacant) × (shows now (checkout_path name) ≢ Vacant)
  pub one : (name : Name) (lane number other another : ℕ) → HasItself m d lanes name lane number → HasItself m d lanes name other another → (other ≡ lane) × (another ≡ number)

-- Since a disk at the opening: each folder of a checkout that stands is from that disk or was made by a command that claims its name; no
-- other is told to stand in the way; and who made its folder found nothing there.
pub record AreFolders {F T W A : Type 0} (m : Meaning W A) (d : Doing T W A) (opening : Disk) (s : System F T W A) (v : View) : Type 0 where
  pub made : (name : Name) → shows v.now (checkout_path name) ≢ Vacant → IsMade m d s.lanes opening name
  pub taken : AreTakenIn m s.lanes opening
  pub clear : AreClear m d s.lanes opening v.now

-- something stood there on the other disk, or a command of the lanes makes the checkout of the name
abbrev pub IsNamed : {T W A : Type 0} → Meaning W A → List (Lane T W A) → Disk → Name → Type 0
IsNamed m lanes disk name = (shows disk (checkout_path name) ≢ Vacant) ⊎ ((lane : ℕ) × (number : ℕ) × IsClaimedBy m lanes lane number name)

-- a command that was answered that it made its folder found nothing there, and no other was answered so of that folder
pub record AreClearIn {T W A : Type 0} (m : Meaning W A) (lanes : List (Lane T W A)) (disk : Disk) : Type 0 where
  pub free : (lane number : ℕ) (r : Reply A) (c : W) (name : Name) → IsTo lanes lane number r → IsCommand lanes lane number c → OfAnswer (λ a. m.checks_out a c name) r.answer → shows disk (checkout_path name) ≡ Vacant
  pub one : (lane number other another : ℕ) (r q : Reply A) (c e : W) (name : Name) → IsTo lanes lane number r → IsCommand lanes lane number c → OfAnswer (λ a. m.checks_out a c name) r.answer → IsTo lanes other another q → IsCommand lanes other another e → OfAnswer (λ a. m.checks_out a e name) q.answer → (other ≡ lane) × (another ≡ number)

-- The same of a system that was taken apart.
pub record AreFoldersIn {T W A : Type 0} (m : Meaning W A) (lanes : List (Lane T W A)) (opening now : Disk) : Type 0 where
  pub made : (name : Name) → shows now (checkout_path name) ≢ Vacant → IsNamed m lanes opening name
  pub taken : AreTakenIn m lanes opening
  pub clear : AreClearIn m lanes opening
