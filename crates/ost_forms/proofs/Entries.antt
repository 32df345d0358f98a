-- What holds of the rows of a folder holds of its entries.
use Rattle.std.proofs.Common.{◌≡◌, List, length, map, subst, arith}
use Rattle.std.specs.Prelude.{All}
use Rattle.std.proofs.lemmas.List.{get_or-map, length-map}
use Rattle.std.proofs.lemmas.List.Elements.{All-map}
use Rattle.ost_types.specs.Text.{IsName}
use Rattle.ost_forms.specs.declared.row.FileRow.{FileRow}
use Rattle.ost_forms.specs.declared.row.FolderRow.{FolderRow}
use Rattle.ost_forms.specs.declared.row.TreeRows.{TreeRows}
use Rattle.ost_forms.specs.DirTree.{HasSums, HasNames, AreFiles, AreFolders, IsAscending, file_names, folder_names}
use Rattle.ost_forms.specs.FileRow.{file_of, folder_of, entries_of}

All-unmap : {X Y : Type 0} (P : X → Type 0) (f : Y → X) (ys : List Y) → All P (map f ys) → All (λ y. P (f y)) ys
All-unmap P f ys h k d lt = subst P (get_or-map f ys k d (f d) lt) (h k (f d) (omega (arith, lt, length-map ys f)))

abbrev pub FileSums : List FileRow → Type 0
FileSums = All (λ r. length r.file.now ≡ 32)

abbrev pub FolderSums : List FolderRow → Type 0
FolderSums = All (λ r. (length r.tree.now ≡ 32) × (length r.meta.now ≡ 32))

abbrev pub FileNames : List FileRow → Type 0
FileNames = All (λ r. IsName r.name.now)

abbrev pub FolderNames : List FolderRow → Type 0
FolderNames = All (λ r. IsName r.name.now)

pub sums_from : (r : TreeRows) → FileSums r.files.items → FolderSums r.folders.items → HasSums (entries_of r)
sums_from r f d = record {
  files = All-map (λ i. length i.file ≡ 32) file_of r.files.items f;
  trees = All-map (λ i. length i.tree ≡ 32) folder_of r.folders.items (λ k e lt. (d k e lt).0);
  metas = All-map (λ i. length i.meta ≡ 32) folder_of r.folders.items (λ k e lt. (d k e lt).1);
}

pub sums_files : (r : TreeRows) → HasSums (entries_of r) → FileSums r.files.items
sums_files r h = All-unmap (λ i. length i.file ≡ 32) file_of r.files.items h.files

pub sums_folders : (r : TreeRows) → HasSums (entries_of r) → FolderSums r.folders.items
sums_folders r h k d lt = (All-unmap (λ i. length i.tree ≡ 32) folder_of r.folders.items h.trees k d lt, All-unmap (λ i. length i.meta ≡ 32) folder_of r.folders.items h.metas k d lt)

pub names_from : (r : TreeRows) → FileNames r.files.items → FolderNames r.folders.items → HasNames (entries_of r)
names_from r f d = record {
  files = All-map IsName (λ i. i.name) (map file_of r.files.items) (All-map (λ i. IsName i.name) file_of r.files.items f);
  folders = All-map IsName (λ i. i.name) (map folder_of r.folders.items) (All-map (λ i. IsName i.name) folder_of r.folders.items d);
}

pub names_files : (r : TreeRows) → HasNames (entries_of r) → FileNames r.files.items
names_files r h = All-unmap (λ i. IsName i.name) file_of r.files.items (All-unmap IsName (λ i. i.name) (map file_of r.files.items) h.files)

pub names_folders : (r : TreeRows) → HasNames (entries_of r) → FolderNames r.folders.items
names_folders r h = All-unmap (λ i. IsName i.name) folder_of r.folders.items (All-unmap IsName (λ i. i.name) (map folder_of r.folders.items) h.folders)

pub files_are : (rows : List FileRow) → FileSums rows → FileNames rows → IsAscending (file_names (map file_of rows)) → AreFiles (map file_of rows)
files_are rows sums names ascending = record {
  sums = All-map (λ i. length i.file ≡ 32) file_of rows sums;
  names = All-map IsName (λ i. i.name) (map file_of rows) (All-map (λ i. IsName i.name) file_of rows names);
  ascending = ascending;
}

pub folders_are : (rows : List FolderRow) → FolderSums rows → FolderNames rows → IsAscending (folder_names (map folder_of rows)) → AreFolders (map folder_of rows)
folders_are rows sums names ascending = record {
  trees = All-map (λ i. length i.tree ≡ 32) folder_of rows (λ k e lt. (sums k e lt).0);
  metas = All-map (λ i. length i.meta ≡ 32) folder_of rows (λ k e lt. (sums k e lt).1);
  names = All-map IsName (λ i. i.name) (map folder_of rows) (All-map (λ i. IsName i.name) folder_of rows names);
  ascending = ascending;
}
