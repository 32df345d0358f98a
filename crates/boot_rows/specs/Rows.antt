-- The rows of a list that was written to boot (OSTree manual, "Deployments").
use Rattle.std.specs.Prelude.{◌-◌, ℕ, List, length, map}
use Rattle.std.specs.List.{enumerate_from}
use Rattle.ost_types.specs.Path.{Name}
use Rattle.boot_model.specs.declared.item.BootItem.{BootItem}
use Rattle.boot_model.specs.Items.{link_number}
use Rattle.boot_read.specs.declared.row.BootRow.{BootRow}

-- The row of the member with this number: the first member has the greatest version, and `files` tells in which file the entry of a version
-- stands.
abbrev pub row_of : (ℕ → Name) → List BootItem → ℕ → BootItem → BootRow
row_of files items i item = record {
  file = files (length items - i);
  version = length items - i;
  id = item.id;
  kargs = item.kargs;
  bootcsum = item.kernel.bootcsum;
  number = link_number items i item;
}

-- those of all members, in their order
abbrev pub rows_of : (ℕ → Name) → List BootItem → List BootRow
rows_of files items = map (λ (e : ℕ × BootItem). row_of files items e.0 e.1) (enumerate_from 0 items)
