-- Rows of a folder's object, as their bytes lie there.
use Rattle.ost_forms.specs.declared.entry.FileItem.{FileItem}
use Rattle.ost_forms.specs.declared.entry.FolderItem.{FolderItem}
use Rattle.std.specs.Prelude.{map}
use Rattle.ost_forms.specs.DirTree.{Entries}
use Rattle.ost_forms.specs.declared.row.FileRow.{FileRow}
use Rattle.ost_forms.specs.declared.row.TreeRows.{TreeRows}
use Rattle.ost_forms.specs.declared.row.FolderRow.{FolderRow}

abbrev pub file_of : FileRow → FileItem
file_of r = record { name = r.name.now; file = r.file.now }

abbrev pub folder_of : FolderRow → FolderItem
folder_of r = record { name = r.name.now; tree = r.tree.now; meta = r.meta.now }

abbrev pub entries_of : TreeRows → Entries
entries_of r = record { files = map file_of r.files.items; folders = map folder_of r.folders.items }
