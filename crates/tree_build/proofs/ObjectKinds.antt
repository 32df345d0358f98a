-- What the types of objects and of their parts spell.
use Rattle.std.proofs.Common.{◌≡◌, ◌≤◌, List, ℕ, Some, refl, sym, ap, ◌∙◌, arith}
use Rattle.std.specs.Prelude.{codes}
use Rattle.std.proofs.lemmas.Bool.{cond-true, le-leb}
use Rattle.gv_core.specs.declared.kind.Basic.TheVariants as b
use Rattle.gv_core.specs.Kind.{Kind, Kinds, basic, variant, array, tuple, entry, no_kinds, kind, spell, kind_depth, variant_kind}
use Rattle.gv_core.specs.Spelling.{kind_of-spell}

spelled : (k : Kind) (text : List ℕ) → spell k ≡ text → kind_depth k ≤ 64 → variant_kind text ≡ Some k
unfolding variant_kind
spelled k text is le = ap variant_kind (sym is) ∙ rw (kind_of-spell k) (cond-true _ _ _ (le-leb _ _ le))

abbrev bytes : Kind
bytes = array (basic b.Byte)

abbrev text : Kind
text = basic b.Text

abbrev number : Kind
number = basic b.U32

abbrev pub xattr : Kind
xattr = tuple (kind bytes (kind bytes no_kinds))

abbrev pub file : Kind
file = tuple (kind text (kind bytes no_kinds))

abbrev pub folder : Kind
folder = tuple (kind text (kind bytes (kind bytes no_kinds)))

abbrev pub dirtree : Kind
dirtree = tuple (kind (array file) (kind (array folder) no_kinds))

abbrev pub dirmeta_members : Kinds
dirmeta_members = kind number (kind number (kind number (kind (array xattr) no_kinds)))

abbrev pub dirmeta : Kind
dirmeta = tuple dirmeta_members

abbrev pub header_members : Kinds
header_members = kind number (kind number (kind number (kind number (kind text (kind (array xattr) no_kinds)))))

abbrev pub header : Kind
header = tuple header_members

abbrev pub metadata : Kind
metadata = array (entry b.Text variant)

abbrev pub commit_members : Kinds
commit_members = kind metadata (kind bytes (kind (array file) (kind text (kind text (kind (basic b.U64) (kind bytes (kind bytes no_kinds)))))))

abbrev pub commit : Kind
commit = tuple commit_members

pub xattr_type : variant_kind (codes "(ayay)") ≡ Some xattr
unfolding spell
xattr_type = spelled xattr (codes "(ayay)") refl (omega arith)

pub xattrs_type : variant_kind (codes "a(ayay)") ≡ Some (array xattr)
unfolding spell
xattrs_type = spelled (array xattr) (codes "a(ayay)") refl (omega arith)

pub file_type : variant_kind (codes "(say)") ≡ Some file
unfolding spell
file_type = spelled file (codes "(say)") refl (omega arith)

pub files_type : variant_kind (codes "a(say)") ≡ Some (array file)
unfolding spell
files_type = spelled (array file) (codes "a(say)") refl (omega arith)

pub folder_type : variant_kind (codes "(sayay)") ≡ Some folder
unfolding spell
folder_type = spelled folder (codes "(sayay)") refl (omega arith)

pub folders_type : variant_kind (codes "a(sayay)") ≡ Some (array folder)
unfolding spell
folders_type = spelled (array folder) (codes "a(sayay)") refl (omega arith)

pub dirtree_type : variant_kind (codes "(a(say)a(sayay))") ≡ Some dirtree
unfolding spell
dirtree_type = spelled dirtree (codes "(a(say)a(sayay))") refl (omega arith)

pub dirmeta_type : variant_kind (codes "(uuua(ayay))") ≡ Some dirmeta
unfolding spell
dirmeta_type = spelled dirmeta (codes "(uuua(ayay))") refl (omega arith)

pub header_type : variant_kind (codes "(uuuusa(ayay))") ≡ Some header
unfolding spell
header_type = spelled header (codes "(uuuusa(ayay))") refl (omega arith)

pub metadata_type : variant_kind (codes "a{sv}") ≡ Some metadata
unfolding spell
metadata_type = spelled metadata (codes "a{sv}") refl (omega arith)

pub commit_type : variant_kind (codes "(a{sv}aya(say)sstayay)") ≡ Some commit
unfolding spell
commit_type = spelled commit (codes "(a{sv}aya(say)sstayay)") refl (omega arith)
