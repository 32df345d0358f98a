use Rattle.std.proofs.Common.{Some}
use Rattle.ref_book.proofs.Keyed.{updated, some_there}
use Rattle.ref_book.proofs.book.RefBook.put.Goals as goal

pub returns-in-Some : goal.returns-in-Some
returns-in-Some c = record { there = updated c.args.name.now c.args.self.now.refs (c.get_mut.follows.lender c.args.value) (Some c.args.value) ((c.get_mut.follows.holds c.args.value).3 (some_there _ c.requires)) }
