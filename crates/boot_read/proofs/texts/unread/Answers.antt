use Rattle.std.proofs.Common.{sym, subst}
use Rattle.repo_layout.specs.Fixed.{number}
use Rattle.boot_read.specs.Entries.{IsUnread}
use Rattle.boot_read.proofs.texts.unread.Goals as goal

pub returns-in-Ok-clause-told : goal.returns-in-Ok-clause-told
returns-in-Ok-clause-told c = λ d known.
    c.bad_entry.ensures.told d (subst (IsUnread d (number c.args.loader) c.args.file.now) (sym c.in-Ok.ensures.0) (known c.in-Ok.ensures.1))
