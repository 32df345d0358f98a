use Rattle.std.proofs.Common.{arith}
use Rattle.ost_types.proofs.Joined.{IsPath-under}
use Rattle.ost_types.proofs.path.FsPath.can_hold.Goals as goal

pub returns-then-names-lt80 : goal.returns-then-names-lt80
returns-then-names-lt80 c =
    let whole = IsPath-under c.names-names.result.now c.as_slice-last.result.now c.names-names.ensures.path c.as_slice-last.ensures.name in
    rw (← c.names-names.ensures.value, ← c.as_slice-last.ensures.value) (λ test. whole.0 (c.if-names-lt80.true, grind arith), λ path. let parts = whole.1 path in grind (arith, parts.1))
