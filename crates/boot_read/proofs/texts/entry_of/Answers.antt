use Rattle.std.proofs.Common.{subst}
use Rattle.repo_layout.specs.Fixed.{number}
use Rattle.bls_entry.specs.Reading.{Reads}
use Rattle.boot_read.proofs.Entering.{read_as, too_long, unread_as}
use Rattle.boot_read.proofs.texts.entry_of.Goals as goal

pub returns-then-is_too_long-clause-told : goal.returns-then-is_too_long-clause-told
returns-then-is_too_long-clause-told c = λ d is. c.bad_entry.ensures.told d (too_long d (number c.args.loader) c.args.file.now is (c.is_too_long.ensures.yes c.if-is_too_long.true))

pub returns-in-Ok-clause-told : goal.returns-in-Ok-clause-told
returns-in-Ok-clause-told c = λ d is.
    read_as d (number c.args.loader) c.args.file.now is c.in-Ok.entry (c.is_too_long.ensures.no c.if-is_too_long.false) (subst (Reads c.args.file.now.bytes) c.in-Ok.is c.read_bytes-read.ensures)

pub returns-in-Err-clause-told : goal.returns-in-Err-clause-told
returns-in-Err-clause-told c = λ d is.
    c.unread.ensures.told d
    (λ told. unread_as d (number c.args.loader) c.args.file.now is c.in-Err.fault (c.is_too_long.ensures.no c.if-is_too_long.false) (subst (Reads c.args.file.now.bytes) c.in-Err.is c.read_bytes-read.ensures) told)
