use Rattle.std.proofs.Common.{arith}
use Rattle.script.proofs.Fields.{no_rev_name, some_of}
use Rattle.script.proofs.Slices.{reads_none, two_of}
use Rattle.script.proofs.read.read_rev_name.Goals as goal

pub returns-in-Some-2 : goal.returns-in-Some-2
returns-in-Some-2 c = (
  _,
  _,
  two_of (λ f. f.now) c.args.fields.now _ _ (omega (arith, c.in-len2.len_at_least, c.in-len2.len_below)),
  some_of _ _ _ _ c.in_ok-rev.ensures c.in-Some.is,
  some_of _ _ _ _ c.in_ok-name.ensures c.in-Some-2.is,
)

pub returns-in-None : goal.returns-in-None
returns-in-None c =
    no_rev_name (λ f. f.now) c.args.fields.now _ (omega (arith, c.in-len2.len_at_least, c.in-len2.len_below)) (reads_none _ _ c.in_ok-name.ensures c.in-None.is)
