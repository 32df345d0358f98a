use Rattle.file_copy.proofs.copying.FileCopy.step.Goals as goal

pub returns-in-Ended-clause-after : goal.returns-in-Ended-clause-after
returns-in-Ended-clause-after g c = λ v told. (v, told, c.requires v told)
