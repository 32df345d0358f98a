use Rattle.std.proofs.Common.{refl, sym, ◌∙◌}
use Rattle.std.proofs.lemmas.Result.{err_from_is_err_and}
use Rattle.ref_room.specs.declared.stands.Stands.{Stands}
use Rattle.ref_store.proofs.Lookups.{shows, shows_none}
use Rattle.sys_open.specs.declared.fault.Why.TheVariants.{BadRef}
use Rattle.layout_rules.specs.Checks.{HoldsRefs}
use Rattle.sys_open.proofs.FaultLemmas.{interrupted_walk}
use Rattle.sys_open.proofs.Holding.{holds_leaf, one_below, commit_leaf, wrong_leaf, damaged_walk, entered_walk}
use Rattle.sys_open.proofs.refs.read_file.Goals as goal

pub returns-in_err-bytes-clause-told : goal.returns-in_err-bytes-clause-told
returns-in_err-bytes-clause-told g c = λ v told.
    let error = err_from_is_err_and c.from_residual.result c.from_residual.ensures.1 in
    rw (error.1, error.2) (interrupted_walk Stands (HoldsRefs v.now) BadRef c.args.at.now _ (c.in_err-bytes.ensures.told v told (c.requires v told)))

pub returns-in-Some-clause-told : goal.returns-in-Some-clause-told
returns-in-Some-clause-told g c = λ v told.
    let file = c.requires v told in
    let shown = shows v.now c.args.at.now file.0 file.1 c.in_ok-bytes.bytes c.in-Some.commit (c.in_ok-bytes.ensures.told v told file) c.in-Some.ensures.commit (sym c.as_slice.ensures ∙ c.in-Some.ensures.text) in
    holds_leaf v.now (g.met.F.Fs.tree c.args.fs.now v told) c.args.at.now (commit_leaf v.now c.args.at.now _ shown) (c.in_ok-enter-in-Some.ensures.told v.now shown)

pub returns-in-Some-clause-right : goal.returns-in-Some-clause-right
returns-in-Some-clause-right g c = λ v told.
    let file = c.requires v told in
    let shown = shows v.now c.args.at.now file.0 file.1 c.in_ok-bytes.bytes c.in-Some.commit (c.in_ok-bytes.ensures.told v told file) c.in-Some.ensures.commit (sym c.as_slice.ensures ∙ c.in-Some.ensures.text) in
    c.in_ok-enter-in-Some.ensures.right v.now shown

pub returns-in-Some-clause-whole : goal.returns-in-Some-clause-whole
returns-in-Some-clause-whole g c = λ v told other.
    let file = c.requires v told in
    let shown = shows v.now c.args.at.now file.0 file.1 c.in_ok-bytes.bytes c.in-Some.commit (c.in_ok-bytes.ensures.told v told file) c.in-Some.ensures.commit (sym c.as_slice.ensures ∙ c.in-Some.ensures.text) in
    one_below v.now (g.met.F.Fs.tree c.args.fs.now v told) c.args.at.now c.enter.new.found.refs (commit_leaf v.now c.args.at.now _ shown) c.in_ok-enter-in-Some.ensures.there

pub returns-in_err-enter-in-Some-clause-told : goal.returns-in_err-enter-in-Some-clause-told
returns-in_err-enter-in-Some-clause-told g c = λ v told.
    let file = c.requires v told in
    let shown = shows v.now c.args.at.now file.0 file.1 c.in_ok-bytes.bytes c.in-Some.commit (c.in_ok-bytes.ensures.told v told file) c.in-Some.ensures.commit (sym c.as_slice.ensures ∙ c.in-Some.ensures.text) in
    let error = err_from_is_err_and c.from_residual-in_err-enter-in-Some.result c.from_residual-in_err-enter-in-Some.ensures.1 in
    rw (error.1, error.2) (entered_walk Stands (Unit {0}) v.now c.args.at.now c.in-Some.commit _ shown (c.in_err-enter-in-Some.ensures.told v.now shown))

pub returns-clause-told : goal.returns-clause-told
returns-clause-told g c = λ v told.
    let file = c.requires v told in
    damaged_walk Stands v.now c.args.at.now c.damaged.result c.damaged.ensures (wrong_leaf v.now c.args.at.now (shows_none v.now c.args.at.now file.0 file.1 c.in_ok-bytes.bytes (c.in_ok-bytes.ensures.told v told file) (λ commit sum is. c.in-None.ensures.none refl commit sum (c.as_slice.ensures ∙ is))))
