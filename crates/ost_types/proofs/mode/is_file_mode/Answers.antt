use Rattle.std.proofs.Common.{◌-◌, arith, rules}
use Rattle.ost_types.proofs.mode.is_file_mode.Goals as goal

-- the bits are what is above the bits of the type
pub returns-in-32768-to-36863 : goal.returns-in-32768-to-36863
returns-in-32768-to-36863 c = (λ _. (c.args.mode - 32768, omega (arith, c.in-32768-to-36863), omega (arith, c.in-32768-to-36863)), λ _. search rules)
