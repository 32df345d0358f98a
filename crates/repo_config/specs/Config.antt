-- What the configuration of a repository has to be (OSTree manual, ostree.repo-config(5)).
use Rattle.std.specs.Prelude.{◌≤◌, ℕ, List, Contains, codes, length, Ok}
use Rattle.keyfile.specs.declared.entry.KeyLine.{KeyLine}
use Rattle.keyfile.specs.Reading.{Reads}

-- in the group `core` the key has this value
abbrev pub SaysOfCore : List KeyLine → List ℕ → List ℕ → Type 0
SaysOfCore entries key value = Contains entries (record { group = codes "core"; key = key; value = value })

-- the most bytes of a configuration
abbrev pub config_limit : ℕ
config_limit = 1048576

-- A keyfile that says the version and the mode of the repository, and isn't too long. Other groups and keys are accepted.
pub record IsConfig (bytes : List ℕ) : Type 0 where
  pub few : length bytes ≤ config_limit
  pub entries : List KeyLine
  pub reads : Reads bytes (Ok entries)
  pub version : SaysOfCore entries (codes "repo_version") (codes "1")
  pub mode : SaysOfCore entries (codes "mode") (codes "bare")

-- the text that is written where there is none
abbrev pub config_text : List ℕ
config_text = codes "[core]\nrepo_version=1\nmode=bare\n"
