-- A disk that shows the same where the list of another one is read has the same list.
use Rattle.std.proofs.Common.{◌≡◌, inl, inr, ℕ, true, false, refl, sym, ◌∙◌, ap, subst, List, [], ◌∷◌, get_or, Contains}
use Rattle.std.specs.Fmt.{decimal}
use Rattle.std.proofs.lemmas.List.Elements.{Contains-get_or}
use Rattle.ost_types.specs.Path.{Name, Path}
use Rattle.ost_types.specs.Csum.{hex_of}
use Rattle.fs_trait.specs.declared.types.Value.{Value}
use Rattle.fs_trait.specs.declared.types.Value.TheVariants.{Absent, Folder, Link, File}
use Rattle.fs_trait.specs.View.{Disk}
use Rattle.fs_trait.specs.Image.{is_folder, reads}
use Rattle.fs_trait.specs.Seen.{shows, bytes_in, seen, IsDirectory}
use Rattle.fs_trait.proofs.Claims.{folder_shows, reads_shows}
use Rattle.repo_layout.specs.BootPaths.{boot_link_path, entry_path, loader_path}
use Rattle.repo_layout.specs.Paths.{deploy_path}
use Rattle.boot_model.specs.Entries.{boot_target, loader_target}
use Rattle.boot_model.specs.Listing.{HasEntry, IsLinkTo, Selects}
use Rattle.boot_model.specs.declared.item.DepId.{DepId}
use Rattle.bls_entry.specs.declared.entry.BlsEntry.{BlsEntry}
use Rattle.boot_read.specs.declared.row.BootRow.{BootRow}
use Rattle.boot_read.specs.Entries.{IsRead}
use Rattle.boot_read.specs.Links.{HasSub, IsItemLink, LeadsOn, item_link}
use Rattle.boot_read.specs.Rows.{AreBootRows, AreRowsOf, IsBootRow}
use Rattle.durable_list.specs.Standing.{IsInVersion, IsListPath}

pub same_reads : (d e : Disk) (p : Path) → shows e p ≡ shows d p → reads e p ≡ reads d p
same_reads d e p same = reads_shows e p ∙ ap bytes_in same ∙ sym (reads_shows d p)

pub folder_directory : (d : Disk) (z : Value) → is_folder z ≡ true → IsDirectory (seen d z)
folder_directory d (Folder m) is = tt
folder_directory d Absent is = let n : false ≡ true = is in cc
folder_directory d (Link m t) is = let n : false ≡ true = is in cc
folder_directory d (File k) is = let n : false ≡ true = is in cc

pub same_folder : (d e : Disk) (p : Path) → shows e p ≡ shows d p → is_folder (d.at p) ≡ true → is_folder (e.at p) ≡ true
same_folder d e p same is = folder_shows e p (subst IsDirectory (sym same) (folder_directory d (d.at p) is))

module _ (d e : Disk) (rows : List BootRow) (same : (p : Path) → IsListPath d rows p → shows e p ≡ shows d p) where
  same_loader : shows e loader_path ≡ shows d loader_path
  same_loader = same loader_path (inl refl)

  selects_on : (loader : ℕ) → Selects d loader → Selects e loader
  selects_on loader is = record { small = is.small; link = subst (IsLinkTo (loader_target loader)) (sym same_loader) is.link }

  pub selects_back : (loader : ℕ) → Selects e loader → Selects d loader
  selects_back loader is = record { small = is.small; link = subst (IsLinkTo (loader_target loader)) same_loader is.link }

  module _ (loader : ℕ) (selects : Selects d loader) where
    in_version : (p : Path) → IsInVersion d loader p → shows e p ≡ shows d p
    in_version p is = same p (inr (inl (loader, selects, is)))

    same_link : shows e (boot_link_path loader) ≡ shows d (boot_link_path loader)
    same_link = in_version (boot_link_path loader) (inl refl)

    same_entry : (file : Name) → shows e (entry_path loader file) ≡ shows d (entry_path loader file)
    same_entry file = in_version (entry_path loader file) (inr (inl (file, refl)))

    sub_on : (sub : ℕ) → HasSub d loader sub → HasSub e loader sub
    sub_on sub is = record { small = is.small; link = subst (IsLinkTo (boot_target loader sub)) (sym same_link) is.link }

    pub sub_back : (sub : ℕ) → HasSub e loader sub → HasSub d loader sub
    sub_back sub is = record { small = is.small; link = subst (IsLinkTo (boot_target loader sub)) same_link is.link }

    entry_on : (file : Name) (bytes : List ℕ) → HasEntry d loader file bytes → HasEntry e loader file bytes
    entry_on file bytes has = record { name = has.name; holds = same_reads d e (entry_path loader file) (same_entry file) ∙ has.holds }

    entry_back : (file : Name) (bytes : List ℕ) → HasEntry e loader file bytes → HasEntry d loader file bytes
    entry_back file bytes has = record { name = has.name; holds = sym (same_reads d e (entry_path loader file) (same_entry file)) ∙ has.holds }

    read_on : (file : Name) (entry : BlsEntry) → IsRead d loader file entry → IsRead e loader file entry
    read_on file entry is = record { bytes = is.bytes; there = entry_on file is.bytes is.there; short = is.short; reads = is.reads }

    module _ (sub : ℕ) (has : HasSub d loader sub) where
      item_on : (os : Name) (bootcsum : List ℕ) (n : ℕ) (id : DepId) → IsItemLink d (item_link loader sub os bootcsum n) os id → IsItemLink e (item_link loader sub os bootcsum n) os id
      item_on os bootcsum n id is = record {
        target = is.target;
        leads = is.leads;
        link = subst (IsLinkTo is.target) (sym (in_version (item_link loader sub os bootcsum n) (inr (inr (sub, has, os ∷ hex_of bootcsum ∷ decimal n ∷ [], refl))))) is.link;
        same = is.same;
      }

      leads_on : (file : Name) (bootcsum : List ℕ) (n : ℕ) (id : DepId) → LeadsOn d loader sub file bootcsum n id → LeadsOn e loader sub file bootcsum n id
      leads_on file bootcsum n id is = record {
        named = record { entry = is.named.entry; read = read_on file is.named.entry is.named.read; names = is.named.names };
        link = item_on id.os bootcsum n id is.link;
      }

      row_on : (row : BootRow) → Contains rows row → IsBootRow d loader sub row → IsBootRow e loader sub row
      row_on row among is = record {
        led = record {
          entry = is.led.entry;
          read = read_on row.file is.led.entry is.led.read;
          version_is = is.led.version_is;
          kargs_are = is.led.kargs_are;
          leads = leads_on row.file row.bootcsum row.number row.id is.led.leads;
        };
        there = same_folder d e (deploy_path row.id.os row.id.commit row.id.serial) (same (deploy_path row.id.os row.id.commit row.id.serial) (inr (inr (row, among, refl)))) is.there;
      }

      rows_on : AreBootRows d loader sub rows → AreBootRows e loader sub rows
      rows_on are = record {
        few = are.few;
        each = λ k x less. row_on (get_or rows k x) (Contains-get_or rows k x less) (are.each k x less);
        all = λ file is. are.all file (is.0, entry_back file is.0 is.1);
        falling = are.falling;
        differ = are.differ;
      }

  pub same_rows : AreRowsOf d rows → AreRowsOf e rows
  same_rows (inl (none, no_rows)) = inl (same_loader ∙ none, no_rows)
  same_rows (inr (loader, sub, selects, has, are)) = inr (loader, sub, selects_on loader selects, sub_on loader selects sub has, rows_on loader selects sub has are)

  -- and it is read at the same paths
  pub path_back : (p : Path) → IsListPath e rows p → IsListPath d rows p
  path_back p (inl is) = inl is
  path_back p (inr (inl (loader, selects, is))) = let back = selects_back loader selects in inr (inl (loader, back, in_back loader back p is))
    where
      in_back : (loader : ℕ) → Selects d loader → (q : Path) → IsInVersion e loader q → IsInVersion d loader q
      in_back loader back q (inl is) = inl is
      in_back loader back q (inr (inl is)) = inr (inl is)
      in_back loader back q (inr (inr (sub, has, rest, is))) = inr (inr (sub, sub_back loader back sub has, rest, is))
  path_back p (inr (inr is)) = inr (inr is)
