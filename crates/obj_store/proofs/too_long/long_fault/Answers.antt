use Rattle.std.proofs.Common.{rules, ◌≡◌, ◌≢◌}
use Rattle.obj_store.proofs.LongFiles.{tells_large, tells_other}
use Rattle.obj_store.proofs.too_long.long_fault.Goals as goal

pub returns-then-eq-clause-told : goal.returns-then-eq-clause-told
returns-then-eq-clause-told g c = λ v told.
    let same : c.in_ok-found.found ≡ c.args.name.now.csum = search rules in
    tells_large v.now c.args.name.now c.args.at.now c.requires.at c.args.len c.requires.long (c.requires.file v told) c.in_ok-found.found (c.in_ok-found.ensures.told v told) same

pub returns-else-eq-clause-told : goal.returns-else-eq-clause-told
returns-else-eq-clause-told g c = λ v told.
    let other : c.in_ok-found.found ≢ c.args.name.now.csum = search rules in
    tells_other v.now c.args.name.now c.args.at.now c.requires.at c.args.len c.requires.long (c.requires.file v told) c.in_ok-found.found (c.in_ok-found.ensures.told v told) other
