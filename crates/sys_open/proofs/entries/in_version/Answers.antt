use Rattle.std.proofs.Common.{sym, subst}
use Rattle.ost_types.specs.Path.{IsPath, under}
use Rattle.ost_types.specs.Text.{IsName}
use Rattle.sys_open.proofs.EntryPlaces.{entry_is_path}
use Rattle.sys_open.proofs.entries.in_version.Goals as goal

pub child-requires : goal.child-requires
child-requires c =
    subst (λ f. IsPath (under f c.args.file.now)) (sym c.in_ok-fixed_path.ensures)
    (entry_is_path c.args.loader c.args.file.now (subst IsName c.as_slice-file.ensures.value c.as_slice-file.ensures.name))
