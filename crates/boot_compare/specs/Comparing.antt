-- Entries that are compared with those that are to be.
use Rattle.std.specs.Prelude.{◌≡◌, ◌≢◌, ◌↔◌, ◌<◌, ℕ, Bool, true, false, List, [], ◌∷◌, length, drop, Contains, slice_index_or, reverse, Option, Some, None, if◌then◌else◌}
use Rattle.ost_types.specs.Path.{Name, Path, same_name, under}
use Rattle.fs_trait.specs.declared.types.Value.TheVariants.{Absent}
use Rattle.fs_trait.specs.View.{Disk}
use Rattle.boot_model.specs.declared.item.BootItem.{BootItem}
use Rattle.boot_model.specs.Items.{IsAt}
use Rattle.boot_model.specs.Entries.{entry_text}
use Rattle.boot_model.specs.Listing.{HasEntry, ShowsEntries}
use Rattle.boot_compare.specs.declared.comparing.Compared.{Compared}
use Rattle.boot_compare.specs.declared.comparing.Compared.TheVariants.{More, Same, Other}

-- names that weren't looked at yet, the next one first, and texts that no entry had yet
pub record Comparison : Type 0 where
  pub names : List Name
  pub texts : List (List ℕ)

-- the next name was looked at
abbrev pub passed : Comparison → Comparison
passed c = record c { names = drop 1 c.names }

-- the texts without the first that is this one
abbrev pub without : List ℕ → List (List ℕ) → List (List ℕ)
without text [] = []
without text (t ∷ texts) = if same_name t text then texts else t ∷ without text texts

-- The entries among the names have the texts, each text one of them.
pub record AreTexts (d : Disk) (loader : ℕ) (c : Comparison) : Type 0 where
  pub each : (text : List ℕ) → Contains c.texts text → (file : Name) × Contains c.names file × HasEntry d loader file text
  pub only : (file : Name) (text : List ℕ) → Contains c.names file → HasEntry d loader file text → Contains c.texts text
  pub once : (f g : Name) (text : List ℕ) → Contains c.names f → Contains c.names g → HasEntry d loader f text → HasEntry d loader g text → f ≡ g

-- no element twice
abbrev pub AreApart : {X : Type 0} → List X → Type 0
AreApart [] = Unit {0}
AreApart (x ∷ xs) = (Contains xs x → ⊥) × AreApart xs

-- Names that have all that stands in a folder, each once.
pub record IsListed (d : Disk) (at : Path) (names : List Name) : Type 0 where
  pub apart : AreApart (reverse names)
  pub all : (x : Name) → d.at (under at x) ≢ Absent → Contains names x

-- the texts of the entries of a list, in its order
pub record AreAllTexts (loader : ℕ) (items : List BootItem) (texts : List (List ℕ)) : Type 0 where
  pub whole : length texts ≡ length items
  pub each : (i : ℕ) (item : BootItem) → IsAt items i item → slice_index_or texts i [] ≡ entry_text loader items i item

-- whether the text was among them, and what is left
abbrev pub IsTaken : List (List ℕ) → List ℕ → Bool → List (List ℕ) → Type 0
IsTaken texts text true left = Contains texts text × (left ≡ without text texts)
IsTaken texts text false left = (Contains texts text → ⊥) × (left ≡ texts)

-- No name and no text comes twice, and what is left to compare says whether the entries are those of the list.
pub record Compares (d : Disk) (loader : ℕ) (items : List BootItem) (c : Comparison) : Type 0 where
  pub names : AreApart c.names
  pub texts : AreApart c.texts
  pub says : AreTexts d loader c ↔ ShowsEntries d loader items

-- What a step tells.
abbrev pub Tells : Disk → ℕ → List BootItem → Compared → Comparison → Type 0
Tells d loader items More new = Compares d loader items new
Tells d loader items Same new = ShowsEntries d loader items
Tells d loader items Other new = ¬ (ShowsEntries d loader items)

-- with no name left the entries are those of the list where no text is
abbrev pub ended : List (List ℕ) → Compared
ended [] = Same
ended (t ∷ texts) = Other

-- The next name has this text: it is seen to, and the text is taken; or the entries aren't those of the list.
abbrev pub IsTakenFrom : Comparison → List ℕ → Compared → Comparison → Type 0
IsTakenFrom old text More new = Contains old.texts text × (new ≡ record { names = drop 1 old.names; texts = without text old.texts })
IsTakenFrom old text Other new = (Contains old.texts text → ⊥) × (new ≡ old)
IsTakenFrom old text Same new = ⊥

-- What stands at the next name: a file with this text, or none.
abbrev pub IsSeen : Comparison → Option (List ℕ) → Compared → Comparison → Type 0
IsSeen old None r new = (r ≡ More) × (new ≡ passed old)
IsSeen old (Some text) r new = IsTakenFrom old text r new
