-- The rows of a list that was written are those of the disk.
use Rattle.std.proofs.Common.{◌≡◌, inr, ℕ, ◌-◌, List, length, map, Result, Ok, Err, sym, ◌∙◌, ap, subst, arith}
use Rattle.std.specs.Prelude.{Contains}
use Rattle.ost_types.specs.Path.{Name}
use Rattle.fs_trait.specs.View.{Disk}
use Rattle.boot_model.specs.declared.item.BootItem.{BootItem}
use Rattle.boot_model.specs.Listing.{HasEntry}
use Rattle.boot_read.specs.declared.fault.ListFault.{ListFault}
use Rattle.boot_read.specs.declared.fault.ListFault.TheVariants.{BadLink, TooMany, BadEntry, NoDeployment, Fs, NoMemory}
use Rattle.boot_read.specs.declared.row.BootRow.{BootRow}
use Rattle.boot_read.specs.Entries.{IsEntry}
use Rattle.boot_read.specs.Faults.{IsFault, IsOfDisk}
use Rattle.boot_read.specs.Links.{HasSub}
use Rattle.boot_read.specs.Rows.{AreBootRows, AreRowsOf, IsBootRow}
use Rattle.boot_read.proofs.Answered.{answered_once}
use Rattle.boot_rows.specs.Laws.{FiledAreRead, NoneIsWrong, OnlyWrittenAreRead, WrittenAreRead}
use Rattle.boot_rows.specs.Rows.{rows_of}
use Rattle.boot_rows.specs.Written.{AreFiled, IsWritten}
use Rattle.boot_rows.proofs.Filed.{filed, files}
use Rattle.boot_rows.proofs.Leading.{row_is}
use Rattle.boot_rows.proofs.Placed.{count, each_row, falling, file_in, found}
use Rattle.boot_rows.proofs.Links.{has_sub, one_loader}

module _ (d : Disk) (items : List BootItem) (written : IsWritten d items) (names : ℕ → Name) (stand : AreFiled d written.boots.loader items names) where
  abbrev loader : ℕ
  loader = written.boots.loader

  -- each entry is that of a member, and stands in its file
  all : (file : Name) → IsEntry d loader file → Contains (map (λ (r : BootRow). r.file) (rows_of names items)) file
  all file (bytes, has) =
      let o = written.boots.entries.only file bytes has in
      file_in names items o.0 o.1 file o.2 (written.boots.entries.once (names (length items - o.0)) file bytes
      (subst (HasEntry d loader (names (length items - o.0))) (sym o.3) (stand o.0 o.1 o.2)) has)

  differ : (r s : BootRow) → Contains (rows_of names items) r → Contains (rows_of names items) s → r.id ≡ s.id → r.file ≡ s.file
  differ r s has also same =
      let a = found names items r has in
      let b = found names items s also in
      let ids : a.1.id ≡ b.1.id = sym (ap (λ (x : BootRow). x.id) a.3) ∙ same ∙ ap (λ (x : BootRow). x.id) b.3 in
      let places : a.0 ≡ b.0 = written.may.differ a.0 b.0 a.1 b.1 a.2 b.2 ids in
      ap (λ (x : BootRow). x.file) a.3 ∙ ap (λ n. names (length items - n)) places ∙ sym (ap (λ (x : BootRow). x.file) b.3)

  rows_are : (sub : ℕ) → HasSub d loader sub → AreBootRows d loader sub (rows_of names items)
  rows_are sub folder = record {
    few = omega (arith, count names items, written.may.few);
    each = each_row names items (IsBootRow d loader sub) (row_is d items written names stand sub folder);
    all = all;
    falling = falling names items;
    differ = differ;
  }

  pub are_read : AreRowsOf d (rows_of names items)
  are_read =
      let folder = has_sub d loader items written.boots.leads written.links in
      inr (loader, folder.0, written.boots.selects, folder.1, rows_are folder.0 folder.1)

pub filed_read : FiledAreRead
filed_read d loader items names written selects stand =
    are_read d items written names (subst (λ n. AreFiled d n items names) (one_loader d loader written.boots.loader selects written.boots.selects) stand)

pub written_read : WrittenAreRead
written_read d items written =
    let b = written.boots in
    (files d b.loader items b.entries, are_read d items written (files d b.loader items b.entries) (filed d b.loader items b.entries))

abbrev Answer : Type 0
Answer = Result (List BootRow) ListFault

abbrev ok_of : List BootRow → Answer
ok_of rows = Ok rows

pub only_written_read : OnlyWrittenAreRead
only_written_read d items rows written are =
    let own = written_read d items written in
    let one : ok_of rows ≡ ok_of (rows_of own.0 items) = answered_once d (Ok rows) (Ok (rows_of own.0 items)) tt tt are own.1 in
    let same : rows ≡ rows_of own.0 items = cc in
    (own.0, same)

none_of_disk : (d : Disk) (items : List BootItem) (fault : ListFault) → IsWritten d items → IsOfDisk (Err fault) → IsFault d fault → ⊥
none_of_disk d items fault written of is =
    let own = written_read d items written in
    let one : ok_of (rows_of own.0 items) ≡ Err fault = answered_once d (Ok (rows_of own.0 items)) (Err fault) tt of own.1 is in
    cc

pub none_wrong : NoneIsWrong
none_wrong d items (BadLink path) written is = none_of_disk d items (BadLink path) written tt is
none_wrong d items (TooMany path) written is = none_of_disk d items (TooMany path) written tt is
none_wrong d items (BadEntry path fault) written is = none_of_disk d items (BadEntry path fault) written tt is
none_wrong d items (NoDeployment path) written is = none_of_disk d items (NoDeployment path) written tt is
none_wrong d items (Fs error) written is = is
none_wrong d items NoMemory written is = tt
