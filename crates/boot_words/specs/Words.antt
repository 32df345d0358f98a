-- What a boot entry's word and a link's target name (OSTree manual, "Deployments").
use Rattle.std.specs.Prelude.{◌≡◌, ◌<◌, ◌^◌, ℕ, List}
use Rattle.ost_types.specs.Path.{Name}
use Rattle.repo_layout.specs.Fixed.{number}
use Rattle.repo_layout.specs.OsName.{IsOsName}
use Rattle.repo_layout.specs.RefFile.{IsSum}
use Rattle.boot_model.specs.declared.item.DepId.{DepId}
use Rattle.boot_model.specs.Entries.{deploy_target, named_link}
use Rattle.boot_words.specs.declared.word.NamedLink.{NamedLink}

-- The text names the link of this stateroot, sum and number, through that of a version, 0 or 1.
pub record NamesLink (text : List ℕ) (version : ℕ) (os : Name) (bootcsum : List ℕ) (n : ℕ) : Type 0 where
  pub known : version < 2
  pub stateroot : IsOsName os
  pub sum : IsSum bootcsum
  pub small : n < 2 ^ 32
  pub whole : text ≡ named_link version os bootcsum n

-- no link of this version
abbrev pub NamesNoLink : List ℕ → ℕ → Type 0
NamesNoLink text version = (os : Name) (bootcsum : List ℕ) (n : ℕ) → ¬ (NamesLink text version os bootcsum n)

abbrev pub NamesNone : List ℕ → Type 0
NamesNone text = (version : ℕ) → NamesNoLink text version

abbrev pub IsNamedLink : List ℕ → NamedLink → Type 0
IsNamedLink text link = NamesLink text (number link.version) link.os link.bootcsum link.number

-- A link with this target leads to the deployment.
pub record LeadsTo (target : List ℕ) (id : DepId) : Type 0 where
  pub stateroot : IsOsName id.os
  pub sum : IsSum id.commit
  pub small : id.serial < 2 ^ 32
  pub whole : target ≡ deploy_target id

abbrev pub LeadsNowhere : List ℕ → Type 0
LeadsNowhere target = (id : DepId) → ¬ (LeadsTo target id)

-- A text names one link at most.
abbrev pub NamedOnce : Type 0
NamedOnce = (text : List ℕ) (v w : ℕ) (os pt : Name) (a b : List ℕ) (m n : ℕ) → NamesLink text v os a m → NamesLink text w pt b n → (v ≡ w) × (os ≡ pt) × (a ≡ b) × (m ≡ n)

-- A target leads to one deployment at most.
abbrev pub LedOnce : Type 0
LedOnce = (target : List ℕ) (a b : DepId) → LeadsTo target a → LeadsTo target b → a ≡ b
