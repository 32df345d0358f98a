-- The GVariant types of the objects and of their parts (OSTree manual, "Anatomy of an OSTree repository").
use Rattle.std.specs.Prelude.{ℕ, List, codes}
use Rattle.ost_forms.specs.declared.object_type.ObjectType.{ObjectType}
use Rattle.ost_forms.specs.declared.object_type.ObjectType.TheVariants.{Commit, Metadata, Related, AloneMetadata, AloneRelated, DirTree, Files, File, Folders, Folder, DirMeta, Header, Xattrs, Xattr}

abbrev pub type_text : ObjectType → List ℕ
type_text Commit = codes "(a{sv}aya(say)sstayay)"
type_text Metadata = codes "a{sv}"
type_text Related = codes "a(say)"
type_text AloneMetadata = codes "(a{sv})"
type_text AloneRelated = codes "(a(say))"
type_text DirTree = codes "(a(say)a(sayay))"
type_text Files = codes "a(say)"
type_text File = codes "(say)"
type_text Folders = codes "a(sayay)"
type_text Folder = codes "(sayay)"
type_text DirMeta = codes "(uuua(ayay))"
type_text Header = codes "(uuuusa(ayay))"
type_text Xattrs = codes "a(ayay)"
type_text Xattr = codes "(ayay)"
