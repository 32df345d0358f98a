-- Lanes that are the same: command by command, where the trees of two commits are the same nodes.
use Rattle.std.specs.Prelude.{◌≡◌, List, [], ◌∷◌}
use Rattle.script.specs.declared.command.Command.{Command}
use Rattle.script.specs.declared.command.Command.TheVariants.{Commit}
use Rattle.script_reader.specs.Script.{Commands}

abbrev pub IsSame : Command → Command → Type 0
IsSame (Commit branch tree subject body time) (Commit branch' tree' subject' body' time') = (branch ≡ branch') × (tree.items ≡ tree'.items) × (subject ≡ subject') × (body ≡ body') × (time ≡ time')
IsSame c d = c ≡ d

abbrev pub AreSame : Commands → Commands → Type 0
AreSame [] [] = Unit {0}
AreSame [] (d ∷ others) = ⊥
AreSame (c ∷ commands) [] = ⊥
AreSame (c ∷ commands) (d ∷ others) = IsSame c d × AreSame commands others

abbrev pub AreSameLanes : List Commands → List Commands → Type 0
AreSameLanes [] [] = Unit {0}
AreSameLanes [] (lane ∷ others) = ⊥
AreSameLanes (lane ∷ lanes) [] = ⊥
AreSameLanes (lane ∷ lanes) (other ∷ others) = AreSame lane other × AreSameLanes lanes others
