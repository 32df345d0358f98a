use Rattle.repo_config.proofs.Configs.{SaysBoth, from_entries, none_told, to_entries}
use Rattle.std.proofs.Common.{sym, subst}
use Rattle.repo_config.proofs.config.says_config.Goals as goal

pub returns-in-Ok : goal.returns-in-Ok
returns-in-Ok c =
    let reads = c.in-Ok.ensures.exact in
    let is = c.is_of_bare.ensures in
    let same = c.as_slice.ensures.value in (
      λ e. from_entries c.args.bytes.now c.in-Ok.entries.items c.requires reads (subst SaysBoth same (is.0 e)),
      λ config. is.1 (subst SaysBoth (sym same) (to_entries c.args.bytes.now c.in-Ok.entries.items reads config)),
    )

pub returns-in-Err : goal.returns-in-Err
returns-in-Err c = none_told c.args.bytes.now c.in-Err.fault c.in-Err.ensures.exact c.no_config.result c.no_config.ensures
