-- The entry of a member is read as its row.
use Rattle.std.proofs.Common.{◌≡◌, ℕ, ◌-◌, ◌<◌, ◌^◌, ◌++◌, ◌∷◌, [], List, length, All, refl, sym, subst, arith}
use Rattle.ost_types.specs.Path.{Name}
use Rattle.ost_types.specs.Text.{IsText}
use Rattle.fs_trait.specs.Seen.{shows}
use Rattle.fs_trait.specs.View.{Disk}
use Rattle.boot_model.specs.declared.item.BootItem.{BootItem}
use Rattle.boot_model.specs.Entries.{deploy_target, entry_text, named_link}
use Rattle.boot_model.specs.Items.{IsAt, IsItem, link_number}
use Rattle.boot_model.specs.Listing.{IsLinkTo, Leads, names_link}
use Rattle.boot_words.specs.Words.{NamesLink}
use Rattle.deploy_list.specs.EntryReads.{IsReadAs}
use Rattle.deploy_list.proofs.EntryReads.{entries_read}
use Rattle.boot_read.specs.Entries.{IsRead}
use Rattle.boot_read.specs.Links.{HasSub, IsItemLink, IsNamed, item_link}
use Rattle.boot_read.specs.Rows.{IsBootRow}
use Rattle.boot_rows.specs.Rows.{row_of}
use Rattle.boot_rows.specs.Written.{AreFiled, IsWritten}
use Rattle.boot_rows.proofs.Placed.{few_links}
use Rattle.boot_rows.proofs.Links.{one_sub, sub_at}
use Rattle.boot_rows.proofs.Words.{has_ostree, kargs_are}

module _ (d : Disk) (items : List BootItem) (written : IsWritten d items) (files : ℕ → Name) (filed : AreFiled d written.boots.loader items files) (sub : ℕ) (folder : HasSub d written.boots.loader sub)
    (i : ℕ) (item : BootItem) (at : IsAt items i item) where
  abbrev loader : ℕ
  loader = written.boots.loader

  abbrev number : ℕ
  number = link_number items i item

  may : IsItem item
  may = subst IsItem at.1 (written.may.each i item at.0)

  texts : All IsText item.kargs
  texts = subst (λ (x : BootItem). All IsText x.kargs) at.1 (written.texts i item at.0)

  serial : item.id.serial < 2 ^ 32
  serial = subst (λ (x : BootItem). x.id.serial < 2 ^ 32) at.1 (written.serials i item at.0)

  read_as : IsReadAs (entry_text loader items i item) (length items - i) (item.kargs ++ names_link loader item.id.os item.kernel.bootcsum number ∷ [])
  read_as = entries_read loader items i item written.boots.selects.small written.may at texts

  read : IsRead d loader (files (length items - i)) read_as.entry
  read = record { bytes = entry_text loader items i item; there = filed i item at; short = written.short i item at; reads = read_as.reads }

  names : NamesLink (named_link loader item.id.os item.kernel.bootcsum number) loader item.id.os item.kernel.bootcsum number
  names = record { known = written.boots.selects.small; stateroot = may.os; sum = may.bootcsum; small = omega (arith, few_links items i item written.may); whole = refl }

  named : IsNamed d loader (files (length items - i)) item.id.os item.kernel.bootcsum number
  named = record {
    entry = read_as.entry;
    read = read;
    names = record {
      value = named_link loader item.id.os item.kernel.bootcsum number;
      word = has_ostree read_as.entry.options item.kargs (named_link loader item.id.os item.kernel.bootcsum number) may.kargs read_as.words_are;
      names = names;
    };
  }

  leads : Leads d loader item.id.os item.kernel.bootcsum number item.id
  leads = written.boots.leads i item at

  in_folder : leads.sub ≡ sub
  unfolding leads
  in_folder = one_sub d loader leads.sub sub (sub_at d loader items written.boots.leads i item at) folder

  link : IsItemLink d (item_link loader sub item.id.os item.kernel.bootcsum number) item.id.os item.id
  link = record {
    target = deploy_target item.id;
    leads = record { stateroot = may.os; sum = may.commit; small = serial; whole = refl };
    link = subst (λ s. IsLinkTo (deploy_target item.id) (shows d (item_link loader s item.id.os item.kernel.bootcsum number))) in_folder leads.item;
    same = refl;
  }

  pub row_is : IsBootRow d loader sub (row_of files items i item)
  row_is = record {
    led = record {
      entry = read_as.entry;
      read = read;
      version_is = sym read_as.version_is;
      kargs_are = kargs_are read_as.entry.options item.kargs (named_link loader item.id.os item.kernel.bootcsum number) may.kargs read_as.words_are;
      leads = record { named = named; link = link };
    };
    there = leads.there;
  }
