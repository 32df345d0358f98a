use Rattle.std.proofs.lemmas.Option.{IfSome_then}
use Rattle.store_check.proofs.folders.with_file.Goals as goal

pub returns-then-is_listed : goal.returns-then-is_listed
returns-then-is_listed c = IfSome_then c.with.result c.with.ensures.with (λ e made. record { listed = c.is_listed.ensures c.if-is_listed.true; below = c.none.result; made = made })
