use Rattle.bls_entry.proofs.Followed.{key_taken, other_follows}
use Rattle.bls_entry.proofs.found.Found.with_setting.Goals as goal

pub returns-in-Some : goal.returns-in-Some
returns-in-Some c = λ before t.
    let h = c.in_ok-name.ensures in
    key_taken c.args.self before c.args.line.now c.in_ok-name.name.now h.0 c.in_ok-name.value.now c.in-Some.key h.1 h.2 c.in-Some.ensures t c.requires.begins c.with.result c.with.ensures

pub returns-in-None : goal.returns-in-None
returns-in-None c = λ before t.
    let h = c.in_ok-name.ensures in
    other_follows c.args.self before c.args.line.now c.in_ok-name.name.now h.0 c.in_ok-name.value.now h.1 h.2 c.in-None.ensures t
