-- Lists of what boots, and which may be (OSTree manual, "Deployments").
use Rattle.std.specs.Prelude.{◌≡◌, ◌≢◌, ◌≤◌, ◌<◌, ◌==◌, ◌&&◌, ◌||◌, ℕ, Bool, IsTrue, List, [], length, take, count_by, codes, slice_index_or, All}
use Rattle.ost_types.specs.Path.{Name, same_name}
use Rattle.repo_layout.specs.OsName.{IsOsName}
use Rattle.repo_layout.specs.RefName.{is_part_byte}
use Rattle.repo_layout.specs.RefFile.{IsSum}
use Rattle.boot_model.specs.declared.item.BootItem.{BootItem}

-- the member of this number, from 0
abbrev pub IsAt : List BootItem → ℕ → BootItem → Type 0
IsAt items i item = (i < length items) × (slice_index_or items i item ≡ item)

-- no space, no tab and no newline
abbrev pub IsWordByte : ℕ → Type 0
IsWordByte b = (b ≢ 32) × (b ≢ 9) × (b ≢ 10)

-- a word of a kernel's command line that doesn't name a deployment
pub record IsKarg (word : List ℕ) : Type 0 where
  pub not_empty : word ≢ []
  pub bytes : All IsWordByte word
  pub no_deployment : take 7 word ≢ codes "ostree="

-- `A-Z a-z 0-9 - _ . + ~`
abbrev pub is_kver_byte : ℕ → Bool
is_kver_byte b = is_part_byte b || (b == 43) || (b == 126)

-- 1 to 241 such bytes
pub record IsKver (kver : Name) : Type 0 where
  pub not_empty : kver ≢ []
  pub bytes : All (λ b. IsTrue (is_kver_byte b)) kver
  pub short : length kver ≤ 241

-- What may be in a list that boots.
pub record IsItem (item : BootItem) : Type 0 where
  pub os : IsOsName item.id.os
  pub commit : IsSum item.id.commit
  pub bootcsum : IsSum item.kernel.bootcsum
  pub kver : IsKver item.kernel.kver
  pub kargs : All IsKarg item.kargs

-- A list that may boot: at most 8 members, of which no two are one deployment.
pub record AreItems (items : List BootItem) : Type 0 where
  pub few : length items ≤ 8
  pub each : All IsItem items
  pub differ : (i j : ℕ) (a b : BootItem) → IsAt items i a → IsAt items j b → a.id ≡ b.id → i ≡ j

-- of the same stateroot and of a kernel with the same sum
abbrev pub is_like : BootItem → BootItem → Bool
is_like a b = same_name a.id.os b.id.os && same_name a.kernel.bootcsum b.kernel.bootcsum

-- Links of members of one stateroot and one kernel's sum stand in one folder, numbered in the order of the list.
abbrev pub link_number : List BootItem → ℕ → BootItem → ℕ
link_number items i item = count_by (λ other. is_like item other) (take i items)
