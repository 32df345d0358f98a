use Rattle.std.proofs.Common.{sym, subst}
use Rattle.repo_layout.specs.Fixed.{number}
use Rattle.bls_entry.specs.Options.{HasOstree}
use Rattle.boot_read.proofs.Following.{named_of, names_nothing}
use Rattle.boot_read.proofs.links.link_of.Goals as goal

pub returns-in_default : goal.returns-in_default
returns-in_default c =
    names_nothing (number c.args.loader) c.args.entry.now (λ value word. c.in_default.ensures value (subst (λ o. HasOstree o value) (sym c.as_slice.ensures.value) word))

pub returns : goal.returns
returns c =
    named_of (number c.args.loader) c.args.entry.now c.in-Some.value.now c.of_version.result (subst (λ o. HasOstree o c.in-Some.value.now) c.as_slice.ensures.value c.in-Some.ensures)
    (c.of_version.ensures c.in-Some.value.now c.in_ok-link.ensures)
