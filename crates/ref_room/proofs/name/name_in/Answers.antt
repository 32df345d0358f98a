use Rattle.ref_room.proofs.Named.{text_parts, found_in}
use Rattle.ref_room.proofs.name.name_in.Goals as goal

pub returns-in-Some-clause-some : goal.returns-in-Some-clause-some
returns-in-Some-clause-some c = found_in c.parse.result _ _ (text_parts _ _ c.in-Some.ensures.cases.0 c.in-Some.ensures.cases.1) c.parse.ensures.value
