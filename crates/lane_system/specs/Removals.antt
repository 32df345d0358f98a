-- Which objects were removed: what the history tells, and what the books have of a removal that it doesn't tell yet.
use Rattle.std.specs.Prelude.{ℕ, List, ◌++◌, drop, flat_map, length, take}
use Rattle.ost_types.specs.declared.object.ObjName.{ObjName}
use Rattle.rely_guarantee.specs.declared.books.Books as rust
use Rattle.rely_guarantee.specs.declared.books.Entry.{Entry}
use Rattle.rely_guarantee.specs.Books.{books_of}
use Rattle.rely_guarantee.specs.State as state

-- what an entry of the history removed
abbrev pub removed_by : Entry → List ObjName
removed_by e = state.removed_by e.event

-- what the changes from this number on, and before that one, removed
abbrev pub removed_in : List Entry → ℕ → ℕ → List ObjName
removed_in entries from to = flat_map removed_by (drop from (take to entries))

-- what those from this number on did, and a removal has that goes on, or was cut off
abbrev pub gone_since : List Entry → List ObjName → ℕ → List ObjName
gone_since entries swept from = removed_in entries from (length entries) ++ swept

-- by the books: what the removal that goes on, or was cut off, has removed so far
abbrev pub swept_in : rust.Books → List ObjName
swept_in b = take b.gone (books_of b).doomed
