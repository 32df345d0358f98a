use Rattle.std.proofs.Common.{reverse, sym, subst}
use Rattle.repo_layout.specs.Fixed.{number}
use Rattle.boot_compare.specs.Comparing.{Compares, IsListed}
use Rattle.boot_compare.proofs.Answering.{listing_listed}
use Rattle.boot_compare.proofs.Telling.{begins}
use Rattle.boot_compare.proofs.comparing.Comparing.begin.Goals as goal

pub returns-clause-told : goal.returns-clause-told
returns-clause-told g c = λ v told.
    let listed = subst (λ p. IsListed v.now p c.in_ok-names.names) c.in_ok-at.ensures (listing_listed v.now c.in_ok-at.at c.in_ok-names.names (c.in_ok-names.ensures.told v told)) in
    subst (λ l. Compares v.now (number c.args.loader) c.args.items.now (record { names = reverse l; texts = c.in_ok-texts.texts.items })) (sym c.into_vec.ensures)
    (begins (number c.args.loader) c.args.items.now c.requires c.in_ok-texts.texts.items c.in_ok-texts.ensures v.now c.in_ok-names.names listed)
