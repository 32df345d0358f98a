use Rattle.std.proofs.Common.{rules, ◌≡◌, ◌∙◌, subst, None, Some}
use Rattle.ost_types.specs.Path.{same_name}
use Rattle.ost_types.proofs.Paths.{same_name-Decides}
use Rattle.ref_book.specs.Tracks.{said_at}
use Rattle.ref_book.proofs.Keyed.{updated, room_made, is_none}
use Rattle.ref_book.proofs.book.RefBook.make_room.Goals as goal

pub returns-clause-refs : goal.returns-clause-refs
returns-clause-refs c = λ s was name. room_made (said_at c.args.self.now name) _ (same_name c.args.name.now name)
    (λ same. subst (λ q. said_at c.args.self.now q ≡ None) ((same_name-Decides c.args.name.now name).0 same) (is_none _ _ c.contains_key.ensures c.if-contains_key.false))
    (updated c.args.name.now c.args.self.now.refs c.insert.new.self (Some None) (search rules) name) ∙ was name
