use Rattle.std.proofs.lemmas.Result.{err_from_is_err_and}
use Rattle.repo_layout.specs.Fixed.{number}
use Rattle.boot_read.proofs.Following.{item_told, tells_bad, vacant_told}
use Rattle.boot_read.proofs.Looking.{memory_cause}
use Rattle.boot_read.proofs.links.row_by.Goals as goal

pub returns-in_err-led-clause-told : goal.returns-in_err-led-clause-told
returns-in_err-led-clause-told g c = λ v told read names.
    let error = err_from_is_err_and c.from_residual-in_err-led.result c.from_residual-in_err-led.ensures.1 in
    rw (error.1, error.2) (tells_bad v.now (number c.args.loader) (number c.args.sub) c.args.text.now.name c.args.text.now.entry read c.args.link names c.in_ok-at.at c.in_ok-at.ensures _ (c.in_err-led.ensures.told v told))

pub returns-in-None-clause-told : goal.returns-in-None-clause-told
returns-in-None-clause-told g c = λ v told read names.
    vacant_told v.now (number c.args.loader) (number c.args.sub) c.args.text.now.name c.args.text.now.entry read c.args.link names c.in_ok-at.at c.in_ok-at.ensures c.in_ok-led.led c.in-None.is (c.in_ok-led.ensures.told v told)

pub returns-clause-told : goal.returns-clause-told
returns-clause-told g c = λ v told read names.
    item_told v.now (number c.args.loader) (number c.args.sub) c.args.text.now.name c.args.text.now.entry read c.args.link names c.in_ok-at.at c.in_ok-at.ensures c.in_ok-led.led c.in-Some.id c.in-Some.is (c.in_ok-led.ensures.told v told)
    c.led_row.result c.led_row.ensures.value c.led_row.ensures.memory

pub returns-clause-cause : goal.returns-clause-cause
returns-clause-cause g c = memory_cause _ _ c.led_row.result c.in_ok-led.ensures.cause.later c.led_row.ensures.memory
