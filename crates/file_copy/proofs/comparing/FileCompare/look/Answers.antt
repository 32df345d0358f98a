use Rattle.file_copy.proofs.CompareLemmas.{known_as, look_as, tells}
use Rattle.file_copy.proofs.comparing.FileCompare.look.Goals as goal

pub returns-clause-answer : goal.returns-clause-answer
returns-clause-answer g c = λ v told.
    tells c.args.self.now v.now c.looked.result c.go.result c.go.ensures.turn (look_as _ _ c.self.view_is v.now _ (c.in_ok-size.ensures.told v told) _ c.looked.ensures.value)

pub returns-clause-after : goal.returns-clause-after
returns-clause-after g c = λ v told.
    known_as c.args.self.now c.go.new.self v.now c.looked.result c.go.ensures.task (look_as _ _ c.self.view_is v.now _ (c.in_ok-size.ensures.told v told) _ c.looked.ensures.value)
