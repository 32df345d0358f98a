-- A commit as its bytes lie there, and as it is held.
use Rattle.std.specs.Prelude.{Some}
use Rattle.gv_core.specs.Tree.{view}
use Rattle.ost_forms.specs.declared.commit.Commit.{Commit}
use Rattle.ost_forms.specs.declared.commit_row.CommitRow.{CommitRow}
use Rattle.ost_forms.specs.Commit.{CommitParts, parts_from}

abbrev pub parts_of : Commit → CommitParts
parts_of c = parts_from (view c.metadata) c.parent (view c.related) c.subject c.body c.time c.tree c.meta

abbrev pub row_parts : CommitRow → CommitParts
row_parts r = parts_from (view r.metadata) (Some r.parent.now) (view r.related) r.subject r.body r.time r.tree.now r.meta.now
