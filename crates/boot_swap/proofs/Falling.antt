-- Each step leaves less to do.
use Rattle.std.proofs.Common.{◌≡◌, inl, inr, ◌<◌, arith, sym, subst, List}
use Rattle.repo_layout.specs.declared.fixed.Version.{Version}
use Rattle.boot_model.specs.declared.item.BootItem.{BootItem}
use Rattle.boot_compare.specs.declared.choosing.Swap as which
use Rattle.boot_compare.specs.declared.choosing.Swap.TheVariants.{Loader, Sub}
use Rattle.boot_compare.specs.declared.choosing.ChoosePhase.{ChoosePhase}
use Rattle.boot_compare.specs.declared.choosing.ChoosePhase.TheVariants as choose
use Rattle.boot_compare.specs.Choosing as choosing
use Rattle.folder_build.specs.Build.{Building}
use Rattle.folder_build.specs.Link.{Linking}
use Rattle.boot_swap.specs.declared.phase.Phase.{Phase}
use Rattle.boot_swap.specs.declared.phase.Phase.TheVariants as phase
use Rattle.boot_swap.specs.Swap.{Falls, Swapping, barred, chosen, filled, linked}
use Rattle.boot_swap.proofs.Making.{at_phase}

pub falls_as : (t : Swapping) (items : List BootItem) (ph next new : Phase) → at_phase items ph ≡ t → ph ≡ next → Falls new next → Falls new t.phase
falls_as t items ph next new e is falls = subst (λ (x : Swapping). Falls new x.phase) e (subst (Falls new) (sym is) falls)

some_parts : (ph : ChoosePhase) → 0 < choosing.parts ph
some_parts choose.Look = omega arith
some_parts (choose.Entries n) = omega arith
some_parts (choose.Compare n c) = omega arith

pub choice_falls : (c e : choosing.Choosing) → choosing.Falls e.phase c.phase → Falls (phase.Choose e) (phase.Choose c)
choice_falls c e (inl less) = inl (omega (arith, less))
choice_falls c e (inr f) = let same = f.0 in inr (omega (arith, same), f.1)

pub chosen_falls : (c : choosing.Choosing) (u : which.Swap) → Falls (chosen u) (phase.Choose c)
chosen_falls c (Loader n) = let some = some_parts c.phase in inl (omega (arith, some))
chosen_falls c (Sub n) = let some = some_parts c.phase in inl (omega (arith, some))

pub filled_falls : (u : which.Swap) (sub : Version) (b : Building) → Falls (filled u sub) (phase.Links u sub b)
filled_falls (Loader n) sub b = inl (omega arith)
filled_falls (Sub n) sub b = inl (omega arith)

pub linked_falls : (u : which.Swap) (sub : Version) (l : Linking) → Falls (linked u sub) (phase.ShowLink u sub l)
linked_falls (Loader n) sub l = inl (omega arith)
linked_falls (Sub n) sub l = inl (omega arith)

pub barred_falls : (u : which.Swap) (sub : Version) → Falls (barred u sub) (phase.Barrier u sub)
barred_falls (Loader n) sub = inl (omega arith)
barred_falls (Sub n) sub = inl (omega arith)
