use Rattle.std.proofs.Common.{rules, arith, ap, length}
use Rattle.ost_types.proofs.Splitting.{IsPath-read}
use Rattle.ost_types.proofs.path.FsPath.parse.Goals as goal

pub returns-in_err-read_names : goal.returns-in_err-read_names
returns-in_err-read_names c = search rules

pub invariant_of-result : goal.invariant_of-result
invariant_of-result c =
    let r = IsPath-read _ _ _ _ c.in-Some.ensures c.in_ok-read_names.ensures c.without_root-bytes.ensures.same c.if-text-gt1024.false c.if-count-gt64.false in
    record { names = c.in_ok-read_names.ensures.0; few = omega (arith, r.0); short = omega (arith, ap length r.1, c.if-text-gt1024.false) }

pub returns : goal.returns
returns c =
    let r = IsPath-read _ _ _ _ c.in-Some.ensures c.in_ok-read_names.ensures c.without_root-bytes.ensures.same c.if-text-gt1024.false c.if-count-gt64.false in
    (c.in_ok-read_names.ensures.0, r.1, c.if-text-gt1024.false, r.0)
