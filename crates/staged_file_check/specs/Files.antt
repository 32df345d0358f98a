-- The attributes of the files that the tests put.
use Rattle.std.specs.Prelude.{[]}
use Rattle.ost_types.specs.declared.meta.Meta.{Meta}

-- owner 0, group 0, mode 0100644, and none extended
abbrev pub file_meta : Meta
file_meta = record { uid = 0; gid = 0; mode = 33188; xattrs = [] }
