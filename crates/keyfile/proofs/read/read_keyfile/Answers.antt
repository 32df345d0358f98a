use Rattle.std.proofs.Common.{◌+◌, refl, sym, ◌∙◌, subst, arith}
use Rattle.std.proofs.lemmas.Result.{err_from_is_err_and}
use Rattle.keyfile.specs.Entries.{AreEntries}
use Rattle.keyfile.proofs.Entered.{sound_entries}
use Rattle.keyfile.proofs.Whole.{went_begin, went_on, no_end, refused}
use Rattle.keyfile.proofs.read.read_keyfile.Goals as goal

pub loop-rest-init : goal.loop-rest-init
loop-rest-init c = went_begin c.args.bytes.now c.new-reader.result c.new-reader.ensures

pub returns-in_default-clause-exact : goal.returns-in_default-clause-exact
returns-in_default-clause-exact c = no_end c.args.bytes.now c.loop-rest.rest.now c.loop-rest.number c.loop-rest.reader c.loop-rest.invariant (λ e. grind (arith, e, c.loop-rest-test.true)) c.in_default.ensures

pub returns-in_err-take-clause-exact : goal.returns-in_err-take-clause-exact
returns-in_err-take-clause-exact c =
    let p = err_from_is_err_and c.from_residual.result c.from_residual.ensures.1 in
    let w = c.loop-rest.invariant in
    let told = c.in_err-take.ensures w.before w.tracks in
    let says = refused c.args.bytes.now c.loop-rest.rest.now c.in-Some.line.now c.in-Some.behind.now c.loop-rest.number (c.loop-rest.number + 1) c.loop-rest.reader w refl c.in-Some.ensures.0 c.in-Some.ensures.1 c.in_err-take.field-0.0 told in
    rw (p.1, p.2) says

pub loop-rest-preserved : goal.loop-rest-preserved
loop-rest-preserved c =
    went_on c.args.bytes.now c.loop-rest.rest.now c.in-Some.line.now c.in-Some.behind.now c.loop-rest.number c.loop-rest.reader c.take.new.self c.loop-rest.invariant c.in-Some.ensures.0
    (c.in_ok-take.ensures c.loop-rest.invariant.before c.loop-rest.invariant.tracks)

pub returns-clause-entries : goal.returns-clause-entries
returns-clause-entries c =
    let w = c.loop-rest.invariant in
    subst AreEntries (sym (c.into_entries.ensures ∙ w.tracks.entries)) (sound_entries w.before w.tracks.sound)
