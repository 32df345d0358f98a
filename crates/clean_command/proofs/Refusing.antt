-- A step is refused for no path that is too long, where what is to go is within the bounds of paths.
use Rattle.std.proofs.Common.{◌≡◌, inr, true, List, [], ◌∷◌, sym, subst}
use Rattle.ost_types.specs.Path.{Name, Path, is_below, under}
use Rattle.ost_types.proofs.Paths.{is_below-self, is_below-under}
use Rattle.fs_trait.specs.declared.types.FsErr.{FsErr}
use Rattle.fs_trait.specs.declared.types.FsErr.TheVariants.{Failed, Exists, Missing, NotFolder, NotEmpty, NoMemory}
use Rattle.fs_trait.specs.Effect.{OfNone}
use Rattle.fs_trait.specs.Seen.{shows}
use Rattle.fs_trait.specs.View.{View}
use Rattle.fs_trait.proofs.Effects.{may_now}
use Rattle.boot_model.specs.declared.item.DepId.{DepId}
use Rattle.checkout.specs.declared.remove.phase.Phase as removal_phase
use Rattle.checkout.specs.declared.remove.phase.Phase.TheVariants as removal
use Rattle.checkout.specs.Remove.{IsChain, Looks, Removing, act_in, act_of, opened_in}
use Rattle.checkout.specs.RemoveSteps as removals
use Rattle.checkout.specs.RemoveSteps.{IsFar}
use Rattle.checkout.proofs.RemoveChains.{chain_below}
use Rattle.deploy_clean.specs.declared.phase.Phase as cleaning_phase
use Rattle.deploy_clean.specs.declared.phase.Phase.TheVariants as cleaning
use Rattle.deploy_clean.specs.Cleaning.{Cleaning, IsWithin}
use Rattle.deploy_clean.specs.Steps.{Needs, refuses_in, removal_in}
use Rattle.deploy_clean.specs.Unlisted.{IsUnlisted}
use Rattle.deploy_clean.proofs.Places.{unlisted_path}
use Rattle.durable_deployments.specs.Bounds.{AreBounded, LiesWithin}

unlisted_within : (listed : List DepId) (q p : Path) → IsUnlisted listed q → is_below q p ≡ true → LiesWithin p
unlisted_within listed q p (id, free, of) below = (q, inr (inr (inr (id, record { stateroot = free.stateroot; sum = free.sum; small = free.small }, of))), below)

-- what lies at or below what goes isn't too far away
not_far : (listed : List DepId) (at p : Path) (v : View) → IsUnlisted listed at → AreBounded v → is_below at p ≡ true → IsFar v.now (Looks p) → ⊥
not_far listed at p v unlisted bounded below far = far.1 (bounded p (shows v.now p) (unlisted_within listed at p unlisted below) (may_now v p) far.0)

not_far_of : (listed : List DepId) (at : Path) (v : View) (f : Path) (names : List Name) → IsUnlisted listed at → AreBounded v → is_below at f ≡ true → IsFar v.now (act_of f names) → ⊥
not_far_of listed at v f [] unlisted bounded below far = far
not_far_of listed at v f (x ∷ names) unlisted bounded below far = not_far listed at (under f x) v unlisted bounded (is_below-under at f x below) far

not_far_in : (listed : List DepId) (r : Removing) (v : View) (ph : removal_phase.Phase) → IsUnlisted listed r.at → AreBounded v → IsChain r.at (opened_in ph r.outer) → IsFar v.now (act_in ph r.at) → ⊥
not_far_in listed r v removal.Look unlisted bounded chain far = not_far listed r.at r.at v unlisted bounded (is_below-self r.at) far
not_far_in listed r v (removal.Inside f) unlisted bounded chain far = not_far_of listed r.at v f.path f.names unlisted bounded (chain_below r.at f r.outer chain) far
not_far_in listed r v removal.Ended unlisted bounded chain far = far

removal_of_none : (listed : List DepId) (r : Removing) (v : View) (e : FsErr) → IsUnlisted listed r.at → AreBounded v → removals.Needs r v → removals.Refuses r v e → OfNone e
removal_of_none listed r v Failed unlisted bounded needs refuses = tt
removal_of_none listed r v NoMemory unlisted bounded needs refuses = tt
removal_of_none listed r v NotEmpty unlisted bounded needs refuses = absurd (not_far_in listed r v r.phase unlisted bounded needs.made.chain refuses)
removal_of_none listed r v Exists unlisted bounded needs refuses = refuses
removal_of_none listed r v Missing unlisted bounded needs refuses = refuses
removal_of_none listed r v NotFolder unlisted bounded needs refuses = refuses

of_none_in : (c : Cleaning) (v : View) (ph : cleaning_phase.Phase) (e : FsErr) → AreBounded v → IsWithin ph c.listed → removal_in ph v → refuses_in ph v e → OfNone e
of_none_in c v (cleaning.Remove o r) e bounded next needs refuses =
    removal_of_none c.listed r v e (subst (IsUnlisted c.listed) (sym next.at) (unlisted_path c.listed o.os next.name next.unlisted)) bounded needs refuses
of_none_in c v cleaning.Begin e bounded next needs refuses = refuses
of_none_in c v cleaning.Open e bounded next needs refuses = refuses
of_none_in c v (cleaning.See o) e bounded next needs refuses = refuses
of_none_in c v cleaning.Ended e bounded next needs refuses = refuses

pub of_none : (c : Cleaning) (v : View) (e : FsErr) → Needs c v → AreBounded v → refuses_in c.phase v e → OfNone e
of_none c v e needs bounded refuses = of_none_in c v c.phase e bounded needs.made needs.removing refuses
