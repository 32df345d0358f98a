-- The entries of a list that is to boot, as they are read.
use Rattle.std.specs.Prelude.{◌≡◌, ◌<◌, ◌-◌, ◌++◌, ◌∷◌, [], ℕ, List, length, Ok, All}
use Rattle.ost_types.specs.Text.{IsText}
use Rattle.boot_model.specs.declared.item.BootItem.{BootItem}
use Rattle.boot_model.specs.Entries.{entry_text}
use Rattle.boot_model.specs.Items.{AreItems, IsAt, link_number}
use Rattle.boot_model.specs.Listing.{names_link}
use Rattle.bls_entry.specs.declared.entry.BlsEntry.{BlsEntry}
use Rattle.bls_entry.specs.Options.{words_of}
use Rattle.bls_entry.specs.Reading.{Reads}

-- these bytes are a boot entry of this version, and these are the words of its options
pub record IsReadAs (bytes : List ℕ) (version : ℕ) (words : List (List ℕ)) : Type 0 where
  pub entry : BlsEntry
  pub reads : Reads bytes (Ok entry)
  pub version_is : entry.version ≡ version
  pub words_are : words_of entry.options ≡ words

-- The entry of each member of a list is read with its version and its words, the last of which names its link.
abbrev pub EntriesAreRead : Type 0
EntriesAreRead = (loader : ℕ) (items : List BootItem) (i : ℕ) (item : BootItem) → loader < 2 → AreItems items → IsAt items i item → All IsText item.kargs
    → IsReadAs (entry_text loader items i item) (length items - i) (item.kargs ++ names_link loader item.id.os item.kernel.bootcsum (link_number items i item) ∷ [])

-- Bytes are read in one way.
abbrev pub ReadOnce : Type 0
ReadOnce = (bytes : List ℕ) (v w : ℕ) (vs ws : List (List ℕ)) → IsReadAs bytes v vs → IsReadAs bytes w ws → (v ≡ w) × (vs ≡ ws)
