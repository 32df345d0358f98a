use Rattle.std.proofs.Common.{◌-◌, arith, rules}
use Rattle.ost_types.proofs.mode.is_link_mode.Goals as goal

-- the bits are what is above the bits of the type
pub returns-in-40960-to-45055 : goal.returns-in-40960-to-45055
returns-in-40960-to-45055 c = (λ _. (c.args.mode - 40960, omega (arith, c.in-40960-to-45055), omega (arith, c.in-40960-to-45055)), λ _. search rules)
