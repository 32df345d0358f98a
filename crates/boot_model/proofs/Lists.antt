-- Disks that show the same where a list is read have the same list.
use Rattle.std.proofs.Common.{◌≡◌, inl, inr, ℕ, true, false, sym, ◌∙◌, ap, subst, List, [], ◌∷◌}
use Rattle.std.specs.Fmt.{decimal}
use Rattle.std.proofs.lemmas.List.Elements.{All-weaker}
use Rattle.ost_types.specs.Path.{Name, Path}
use Rattle.ost_types.specs.Csum.{hex_of}
use Rattle.fs_trait.specs.declared.types.Value.{Value}
use Rattle.fs_trait.specs.declared.types.Value.TheVariants.{Absent, Folder, Link, File}
use Rattle.fs_trait.specs.View.{Disk}
use Rattle.fs_trait.specs.Image.{is_folder, reads}
use Rattle.fs_trait.specs.Seen.{shows, bytes_in, IsDirectory, seen}
use Rattle.fs_trait.proofs.Claims.{folder_shows, reads_shows}
use Rattle.repo_layout.specs.BootPaths.{entry_path}
use Rattle.repo_layout.specs.Paths.{deploy_path}
use Rattle.boot_model.specs.declared.item.DepId.{DepId}
use Rattle.boot_model.specs.Entries.{boot_target, deploy_target, loader_target}
use Rattle.boot_model.specs.Listing.{AreRows, HasEntry, IsLinkTo, IsList, IsRow, Leads, Member, Reading, Row, SameList, SameVersion}

same_reads : (d e : Disk) (p : Path) → shows e p ≡ shows d p → reads e p ≡ reads d p
same_reads d e p same = reads_shows e p ∙ ap bytes_in same ∙ sym (reads_shows d p)

folder_directory : (d : Disk) (z : Value) → is_folder z ≡ true → IsDirectory (seen d z)
folder_directory d (Folder m) is = tt
folder_directory d Absent is = let n : false ≡ true = is in cc
folder_directory d (Link m t) is = let n : false ≡ true = is in cc
folder_directory d (File k) is = let n : false ≡ true = is in cc

same_folder : (d e : Disk) (p : Path) → shows e p ≡ shows d p → is_folder (d.at p) ≡ true → is_folder (e.at p) ≡ true
same_folder d e p same is = folder_shows e p (subst IsDirectory (sym same) (folder_directory d (d.at p) is))

module _ (loader : ℕ) (d e : Disk) (same : SameVersion loader d e) where
  pub entry_same : (file : Name) (bytes : List ℕ) → HasEntry d loader file bytes → HasEntry e loader file bytes
  entry_same file bytes has = record { name = has.name; holds = same_reads d e (entry_path loader file) (same.entries file) ∙ has.holds }

  pub entry_back : (file : Name) (bytes : List ℕ) → HasEntry e loader file bytes → HasEntry d loader file bytes
  entry_back file bytes has = record { name = has.name; holds = sym (same_reads d e (entry_path loader file) (same.entries file)) ∙ has.holds }

  leads_same : (os : Name) (bootcsum : List ℕ) (number : ℕ) (id : DepId) → Leads d loader os bootcsum number id → Leads e loader os bootcsum number id
  leads_same os bootcsum number id leads = record {
    sub = leads.sub;
    small = leads.small;
    link = subst (IsLinkTo (boot_target loader leads.sub)) (sym same.link) leads.link;
    item = subst (IsLinkTo (deploy_target id)) (sym (same.links leads.sub (os ∷ hex_of bootcsum ∷ decimal number ∷ []) leads.small leads.link)) leads.item;
    same = leads.same;
    there = same_folder d e (deploy_path id.os id.commit id.serial) (same.deployments id) leads.there;
  }

  row_same : (R : Reading) (row : Row) → IsRow R d loader row → IsRow R e loader row
  row_same R row is = record {
    bytes = is.bytes;
    entry = entry_same row.file is.bytes is.entry;
    before = is.before;
    after = is.after;
    os = is.os;
    bootcsum = is.bootcsum;
    number = is.number;
    reads = is.reads;
    kargs = is.kargs;
    leads = leads_same is.os is.bootcsum is.number row.member.id is.leads;
  }

  rows_same : (R : Reading) (rows : List Row) → AreRows R d loader rows → AreRows R e loader rows
  rows_same R rows are = record {
    each = All-weaker (IsRow R d loader) (IsRow R e loader) (row_same R) rows are.each;
    all = λ file bytes has. are.all file bytes (entry_back file bytes has);
    falling = are.falling;
  }

-- So a crash that leaves all that a list is read from leaves the list.
pub list_same : (R : Reading) (d e : Disk) (members : List Member) → SameList d e → IsList R d members → IsList R e members
list_same R d e members same (inl is) = inl (same.loader ∙ is.0, is.1)
list_same R d e members same (inr (loader, selects, rows, are, is)) =
    inr (loader, record { small = selects.small; link = subst (IsLinkTo (loader_target loader)) (sym same.loader) selects.link }, rows, rows_same loader d e (same.version loader selects) R rows are, is)
