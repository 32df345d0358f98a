use Rattle.std.proofs.Common.{◌≡◌, ◌∙◌, true, false, sym, subst}
use Rattle.repo_layout.specs.Fixed.{number}
use Rattle.boot_compare.specs.Comparing.{Compares, Tells}
use Rattle.boot_compare.proofs.Telling.{ends, held_at, passes, sees}
use Rattle.boot_compare.proofs.comparing.Comparing.step.Goals as goal

pub returns-in-None-clause-told : goal.returns-in-None-clause-told
returns-in-None-clause-told g c = λ v told items compares.
    subst (λ r. Tells v.now (number c.args.loader) items r c.args.self.now) (sym c.ended.ensures) (ends v.now (number c.args.loader) items c.args.self.now c.in-None.ensures.none compares)

pub returns-then-is_entry_name-clause-told : goal.returns-then-is_entry_name-clause-told
returns-then-is_entry_name-clause-told g c = λ v told items compares.
    let read = held_at v.now (number c.args.loader) c.in-Some.name.now c.in_ok-at.at c.in_ok-found.found c.in_ok-at.ensures (c.in_ok-found.ensures.told v told) in
    sees v.now (number c.args.loader) items c.args.self.now c.in-Some.name.now c.in_ok-found.found c.see.result c.see.new.self c.in-Some.ensures.some (c.is_entry_name.ensures.0 c.if-is_entry_name.true) read c.see.ensures compares

pub returns-clause-told : goal.returns-clause-told
returns-clause-told g c = λ v told items compares.
    subst (Compares v.now (number c.args.loader) items) (sym c.pass.ensures)
    (passes v.now (number c.args.loader) items c.args.self.now c.in-Some.name.now c.in-Some.ensures.some
    (λ t has. let yes : c.is_entry_name.result ≡ true = c.is_entry_name.ensures.1 has.name in let e : true ≡ false = sym yes ∙ c.if-is_entry_name.false in cc) compares)
