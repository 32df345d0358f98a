use Rattle.std.proofs.Common.{◌≡◌, ◌++◌, OnOk, sym, ◌∙◌, ap, subst, append-nil, arith}
use Rattle.std.proofs.lemmas.Slice.Eq.{bytes_eq-Decides}
use Rattle.keyfile.proofs.Written.{no_heading, one_heading}
use Rattle.keyfile.proofs.write.append_heading.Goals as goal

pub returns-then-eq : goal.returns-then-eq
returns-then-eq c =
    sym (ap (λ t. c.args.text.now ++ t) (no_heading c.args.group.now c.args.next.now ((bytes_eq-Decides c.args.next.now c.args.group.now).0 (sym c.eq.ensures ∙ c.if-eq.true))) ∙ append-nil c.args.text.now)

pub returns-else-eq : goal.returns-else-eq
returns-else-eq c =
    let other = one_heading c.args.group.now c.args.next.now (λ same. let t = (bytes_eq-Decides c.args.next.now c.args.group.now).1 same in grind (arith, t, c.eq.ensures, c.if-eq.false)) in
    subst (λ t. OnOk c.append_group.result (c.append_group.new.text ≡ c.args.text.now ++ t)) (sym other) c.append_group.ensures
