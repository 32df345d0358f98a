-- Which part a step belongs to.
use Rattle.boot_swap.specs.declared.phase.Phase.{Phase}
use Rattle.boot_swap.specs.declared.phase.Phase.TheVariants.{Choose, BeginEntries, Entries, LookLink, Links, BeginLink, ShowLink, Barrier, BeginLoader, ShowLoader, SyncFolder}

abbrev pub IsChoose : Phase → Type 0
IsChoose (Choose c) = Unit {0}
IsChoose ph = ⊥

abbrev pub IsBeginEntries : Phase → Type 0
IsBeginEntries (BeginEntries n) = Unit {0}
IsBeginEntries ph = ⊥

abbrev pub IsEntries : Phase → Type 0
IsEntries (Entries n b) = Unit {0}
IsEntries ph = ⊥

abbrev pub IsLookLink : Phase → Type 0
IsLookLink (LookLink u) = Unit {0}
IsLookLink ph = ⊥

abbrev pub IsLinks : Phase → Type 0
IsLinks (Links u sub b) = Unit {0}
IsLinks ph = ⊥

abbrev pub IsBeginLink : Phase → Type 0
IsBeginLink (BeginLink u sub) = Unit {0}
IsBeginLink ph = ⊥

abbrev pub IsShowLink : Phase → Type 0
IsShowLink (ShowLink u sub l) = Unit {0}
IsShowLink ph = ⊥

abbrev pub IsBarrier : Phase → Type 0
IsBarrier (Barrier u sub) = Unit {0}
IsBarrier ph = ⊥

abbrev pub IsBeginLoader : Phase → Type 0
IsBeginLoader (BeginLoader n) = Unit {0}
IsBeginLoader ph = ⊥

abbrev pub IsShowLoader : Phase → Type 0
IsShowLoader (ShowLoader n l) = Unit {0}
IsShowLoader ph = ⊥

abbrev pub IsSyncFolder : Phase → Type 0
IsSyncFolder (SyncFolder u) = Unit {0}
IsSyncFolder ph = ⊥
