use Rattle.std.proofs.Common.{arith}
use Rattle.ost_types.proofs.Joined.{IsPath-append}
use Rattle.ost_types.proofs.path.FsPath.can_join.Goals as goal

pub returns-then-names-more-le80 : goal.returns-then-names-more-le80
returns-then-names-more-le80 c =
    let whole = IsPath-append c.names-names.result.now c.names-more.result.now c.names-names.ensures.path c.names-more.ensures.path in
    rw (← c.names-names.ensures.value, ← c.names-more.ensures.value) (λ test. whole.0 (c.if-names-more-le80.true, grind arith), λ path. let parts = whole.1 path in grind (arith, parts.1))
