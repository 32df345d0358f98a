-- The list that a crash leaves.
use Rattle.std.proofs.Common.{◌≡◌, inl, inr, ℕ, ◌<◌, true, false, List, [], ◌∷◌, map, All, Contains, sym, ◌∙◌, ap, subst}
use Rattle.std.specs.Fmt.{decimal}
use Rattle.std.proofs.lemmas.List.Elements.{Contains-get_or}
use Rattle.ost_types.specs.Path.{Name, Path}
use Rattle.ost_types.specs.Text.{IsText}
use Rattle.ost_types.specs.Csum.{hex_of}
use Rattle.fs_trait.specs.declared.types.Value.{Value}
use Rattle.fs_trait.specs.declared.types.Value.TheVariants as value
use Rattle.fs_trait.specs.View.{Disk}
use Rattle.fs_trait.specs.Image.{is_folder, reads}
use Rattle.fs_trait.specs.Seen.{IsDirectory, bytes_in, seen, shows}
use Rattle.fs_trait.proofs.Claims.{folder_shows, reads_shows}
use Rattle.repo_layout.specs.Paths.{deploy_path}
use Rattle.repo_layout.specs.BootPaths.{entry_path}
use Rattle.boot_model.specs.declared.item.DepId.{DepId}
use Rattle.boot_model.specs.declared.item.BootItem.{BootItem}
use Rattle.boot_model.specs.Items.{AreItems}
use Rattle.boot_model.specs.Entries.{boot_target, deploy_target, loader_target}
use Rattle.boot_model.specs.Listing.{AreRows, HasEntry, IsLinkTo, IsList, IsRow, Leads, Member, Reading, Row, member_of}
use Rattle.boot_model.proofs.Booted.{ReadsEach, boots_list}
use Rattle.deploy_list.specs.EntryReads.{IsReadAs}
use Rattle.deploy_list.proofs.EntryReads.{entries_read}
use Rattle.tree_read.proofs.Walk.{mapped, unmapped}
use Rattle.deploy_task.specs.Listed.{ids_in}
use Rattle.deploy_task.specs.Lists.{LeavesList, SameListOf, SameVersionOf}

same_reads : (d e : Disk) (p : Path) → shows e p ≡ shows d p → reads e p ≡ reads d p
same_reads d e p same = reads_shows e p ∙ ap bytes_in same ∙ sym (reads_shows d p)

folder_directory : (d : Disk) (z : Value) → is_folder z ≡ true → IsDirectory (seen d z)
folder_directory d (value.Folder m) is = tt
folder_directory d value.Absent is = let n : false ≡ true = is in cc
folder_directory d (value.Link m t) is = let n : false ≡ true = is in cc
folder_directory d (value.File k) is = let n : false ≡ true = is in cc

pub same_folder : (d e : Disk) (p : Path) → shows e p ≡ shows d p → is_folder (d.at p) ≡ true → is_folder (e.at p) ≡ true
same_folder d e p same is = folder_shows e p (subst IsDirectory (sym same) (folder_directory d (d.at p) is))

-- ---- a version whose list is of these deployments

module _ (ids : List DepId) (loader : ℕ) (d e : Disk) (same : SameVersionOf ids loader d e) where
  entry_on : (file : Name) (bytes : List ℕ) → HasEntry d loader file bytes → HasEntry e loader file bytes
  entry_on file bytes has = record { name = has.name; holds = same_reads d e (entry_path loader file) (same.entries file) ∙ has.holds }

  entry_back : (file : Name) (bytes : List ℕ) → HasEntry e loader file bytes → HasEntry d loader file bytes
  entry_back file bytes has = record { name = has.name; holds = sym (same_reads d e (entry_path loader file) (same.entries file)) ∙ has.holds }

  pub leads_on : (os : Name) (bootcsum : List ℕ) (number : ℕ) (id : DepId) → Contains ids id → Leads d loader os bootcsum number id → Leads e loader os bootcsum number id
  leads_on os bootcsum number id among leads = record {
    sub = leads.sub;
    small = leads.small;
    link = subst (IsLinkTo (boot_target loader leads.sub)) (sym same.link) leads.link;
    item = subst (IsLinkTo (deploy_target id)) (sym (same.links leads.sub (os ∷ hex_of bootcsum ∷ decimal number ∷ []) leads.small leads.link)) leads.item;
    same = leads.same;
    there = same_folder d e (deploy_path id.os id.commit id.serial) (same.deployments id among) leads.there;
  }

  row_on : (R : Reading) (row : Row) → Contains ids row.member.id → IsRow R d loader row → IsRow R e loader row
  row_on R row among is = record {
    bytes = is.bytes;
    entry = entry_on row.file is.bytes is.entry;
    before = is.before;
    after = is.after;
    os = is.os;
    bootcsum = is.bootcsum;
    number = is.number;
    reads = is.reads;
    kargs = is.kargs;
    leads = leads_on is.os is.bootcsum is.number row.member.id among is.leads;
  }

  rows_on : (R : Reading) (rows : List Row) → ((row : Row) → Contains rows row → Contains ids row.member.id) → AreRows R d loader rows → AreRows R e loader rows
  rows_on R rows among are = record {
    each = λ k other less. row_on R _ (among _ (Contains-get_or rows k other less)) (are.each k other less);
    all = λ file bytes has. are.all file bytes (entry_back file bytes has);
    falling = are.falling;
  }

-- each row of a list of these items is of one of them
of_items : (items : List BootItem) (rows : List Row) → map member_of items ≡ map (λ (r : Row). r.member) rows → (row : Row) → Contains rows row → Contains (ids_in items) row.member.id
of_items items rows is row has =
    let there : Contains (map (λ (r : Row). r.member) rows) row.member = mapped (λ (r : Row). r.member) rows row has in
    let item = unmapped member_of items row.member (subst (λ (l : List Member). Contains l row.member) (sym is) there) in
    subst (λ (m : Member). Contains (ids_in items) m.id) (sym item.2) (mapped (λ (x : BootItem). x.id) items item.0 item.1)

list_on : (R : Reading) (items : List BootItem) (d e : Disk) → SameListOf (ids_in items) d e → IsList R d (map member_of items) → IsList R e (map member_of items)
list_on R items d e same (inl is) = inl (same.loader ∙ is.0, is.1)
list_on R items d e same (inr (loader, selects, rows, are, is)) = inr (
  loader,
  record { small = selects.small; link = subst (IsLinkTo (loader_target loader)) (sym same.loader) selects.link },
  rows,
  rows_on (ids_in items) loader d e (same.version loader selects) R rows (of_items items rows is) are,
  is,
)

-- ---- the new list

reads_each : (loader : ℕ) (items : List BootItem) → loader < 2 → AreItems items → All (λ (item : BootItem). All IsText item.kargs) items → ReadsEach IsReadAs loader items
reads_each loader items small are texts i item at = entries_read loader items i item small are at (subst (λ (x : BootItem). All IsText x.kargs) at.1 (texts i item at.0))

pub leaves_list : LeavesList
leaves_list old new v d are texts each (inl (b, image, same)) = inl (list_on IsReadAs old b d same (each b image))
leaves_list old new v d are texts each (inr boots) = inr (boots_list IsReadAs d new boots (reads_each boots.loader new boots.selects.small are texts))
