use Rattle.std.proofs.Common.{◌-◌, arith, rules}
use Rattle.ost_types.proofs.mode.is_folder_mode.Goals as goal

-- the bits are what is above the bits of the type
pub returns-in-16384-to-20479 : goal.returns-in-16384-to-20479
returns-in-16384-to-20479 c = (λ _. (c.args.mode - 16384, omega (arith, c.in-16384-to-20479), omega (arith, c.in-16384-to-20479)), λ _. search rules)
