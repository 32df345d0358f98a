-- What each step may answer and write, told of the task itself.
use Rattle.std.proofs.Common.{◌≡◌, sym, subst, List, Option}
use Rattle.fs_trait.specs.declared.types.FsErr.TheVariants.{Failed, NoMemory}
use Rattle.fs_trait.specs.View.{View}
use Rattle.fs_trait.specs.Image.{Told}
use Rattle.fs_trait.specs.Change.{Writes}
use Rattle.boot_model.specs.declared.item.BootItem.{BootItem}
use Rattle.boot_compare.specs.declared.choosing.Swap as which
use Rattle.boot_compare.specs.declared.choosing.Swap.TheVariants.{Loader, Sub}
use Rattle.boot_compare.specs.Choosing.{Choosing, IsChosen}
use Rattle.boot_swap.specs.declared.phase.Phase.{Phase}
use Rattle.boot_swap.specs.declared.phase.Phase.TheVariants as phase
use Rattle.boot_swap.specs.Swap.{Swapping, chosen}
use Rattle.boot_swap.specs.Steps.{WritesOf, refuses_in, tells_in, writes_in}
use Rattle.boot_swap.proofs.Making.{at_phase}

pub failed : (ph : Phase) (v : View) → refuses_in ph v Failed
failed (phase.Choose c) v = tt
failed (phase.BeginEntries n) v = tt
failed (phase.Entries n b) v = tt
failed (phase.LookLink u) v = tt
failed (phase.Links u sub b) v = tt
failed (phase.BeginLink u sub) v = tt
failed (phase.ShowLink u sub l) v = tt
failed (phase.Barrier u sub) v = tt
failed (phase.BeginLoader n) v = tt
failed (phase.ShowLoader n l) v = tt
failed (phase.SyncFolder u) v = tt
failed phase.Ended v = tt

pub no_memory : (ph : Phase) (v : View) → refuses_in ph v NoMemory
no_memory (phase.Choose c) v = tt
no_memory (phase.BeginEntries n) v = tt
no_memory (phase.Entries n b) v = tt
no_memory (phase.LookLink u) v = tt
no_memory (phase.Links u sub b) v = tt
no_memory (phase.BeginLink u sub) v = tt
no_memory (phase.ShowLink u sub l) v = tt
no_memory (phase.Barrier u sub) v = tt
no_memory (phase.BeginLoader n) v = tt
no_memory (phase.ShowLoader n l) v = tt
no_memory (phase.SyncFolder u) v = tt
no_memory phase.Ended v = tt

pub wrote_as : (t : Swapping) (items : List BootItem) (ph next : Phase) → at_phase items ph ≡ t → ph ≡ next → (v : View) (view : Option View) → Told view (λ w. Writes (writes_in next v) v w) → Told view (λ w. Writes (WritesOf t v) v w)
wrote_as t items ph next e is v view told = (told.0, told.1, subst (λ x. Writes (WritesOf x v) v told.0) e (subst (λ p. Writes (writes_in p v) v told.0) (sym is) told.2))

pub tells_as : (t : Swapping) (items : List BootItem) (ph next : Phase) → at_phase items ph ≡ t → ph ≡ next → (new : Phase) (v : View) → tells_in next new items v → tells_in t.phase new t.items v
tells_as t items ph next e is new v tells = subst (λ x. tells_in x.phase new x.items v) e (subst (λ p. tells_in p new items v) (sym is) tells)

pub tells_chosen : (c : Choosing) (items : List BootItem) (v : View) (u : which.Swap) → IsChosen v.now items u → tells_in (phase.Choose c) (chosen u) items v
tells_chosen c items v (Loader n) is = is
tells_chosen c items v (Sub n) is = is
