-- Which part a step belongs to.
use Rattle.deploy_task.specs.declared.phase.Phase.{Phase}
use Rattle.deploy_task.specs.declared.phase.Phase.TheVariants.{Clean, Source, Etc, Build, Swap}

abbrev pub IsClean : Phase → Type 0
IsClean (Clean c) = Unit {0}
IsClean ph = ⊥

abbrev pub IsSource : Phase → Type 0
IsSource (Source w) = Unit {0}
IsSource ph = ⊥

abbrev pub IsEtc : Phase → Type 0
IsEtc (Etc defaults s) = Unit {0}
IsEtc ph = ⊥

abbrev pub IsBuild : Phase → Type 0
IsBuild (Build b) = Unit {0}
IsBuild ph = ⊥

abbrev pub IsSwap : Phase → Type 0
IsSwap (Swap s) = Unit {0}
IsSwap ph = ⊥
