-- What each step writes is what the rules let the lane write.
use Rattle.std.proofs.Common.{◌≡◌, ⊎_elim, inr, ℕ, Option, Some, refl, sym, ◌∙◌, subst}
use Rattle.ost_types.specs.Path.{Name, Path}
use Rattle.fs_trait.specs.declared.task.StepResult.TheVariants as turn
use Rattle.fs_trait.specs.Seen.{Leaf, Seen, Vacant}
use Rattle.fs_trait.specs.View.{View}
use Rattle.repo_layout.specs.Paths.{ref_path}
use Rattle.repo_layout.specs.Place.{Place, Config, Stage, Ref, ObjectsFolder, Object, Mark, Summary, Deployment, Etc, Origin, Staged, BootLink, BootLinkStage, BootFolder, Loader, LoaderStage, LoaderFolder, KernelCopy, Checkout, Other, place}
use Rattle.repo_layout.proofs.Places.{place-ref}
use Rattle.layout_rules.specs.declared.rule.Rule.{Rule}
use Rattle.layout_rules.specs.declared.rule.Rule.TheVariants.{FileOrNothing, FolderOrNothing, NoFolder}
use Rattle.layout_rules.specs.InLayout.{SuitsSeen}
use Rattle.layout_rules.proofs.Layouts.{above_ref}
use Rattle.deploy_clean.specs.Cleaning.{Cleaning}
use Rattle.deploy_clean.specs.Steps.{WritesOf}
use Rattle.rely_guarantee.specs.Books.{Books, Free}
use Rattle.rely_guarantee.specs.Change.{Still}
use Rattle.rely_guarantee.specs.Laws.{Chain, Claim, IsLastly, Quiet, StepObligation, Take, Within}
use Rattle.rely_guarantee.specs.Rely.{Guarantee, may_at}
use Rattle.rely_guarantee.specs.State.{RefOf}
use Rattle.clean_command.specs.declared.command.CleanCommand.{CleanCommand}
use Rattle.clean_command.specs.declared.phase.Phase.{Phase}
use Rattle.clean_command.specs.declared.phase.Phase.TheVariants as phase
use Rattle.clean_command.specs.Commands.{Ends, Follows, clean_kind, clean_needs, clean_stepped, clean_wants, clean_writes, kind_in, needs_in, writes_in}
use Rattle.clean_command.specs.Following.{follow_cases}
use Rattle.clean_command.specs.Facts.{Facts, IsCleaning, KnownIn}
use Rattle.clean_command.specs.Places.{IsDeployed, writes_deployed}

-- ---- what goes may go

vacant_suits : (rule : Rule) → SuitsSeen rule Vacant
vacant_suits FolderOrNothing = tt
vacant_suits NoFolder = tt
vacant_suits FileOrNothing = tt

own_free : (lane : ℕ) (lock : Option ℕ) → lock ≡ Some lane → Free lock lane
own_free lane lock is x has = let e : Some x ≡ Some lane = sym has ∙ is in cc

deployed_may : (b : Books) (lane : ℕ) (x : Place) (s : Seen) → Free b.sysroot lane → IsDeployed x → may_at b lane lane x s
deployed_may b lane (Deployment os commit serial rest) s free is = free
deployed_may b lane (Etc os commit serial rest) s free is = free
deployed_may b lane (Origin os commit serial) s free is = free
deployed_may b lane Config s free is = absurd is
deployed_may b lane (Stage a) s free is = absurd is
deployed_may b lane (Ref name) s free is = absurd is
deployed_may b lane (ObjectsFolder digits) s free is = absurd is
deployed_may b lane (Object kind sum) s free is = absurd is
deployed_may b lane (Mark commit) s free is = absurd is
deployed_may b lane Summary s free is = absurd is
deployed_may b lane Staged s free is = absurd is
deployed_may b lane (BootLink version) s free is = absurd is
deployed_may b lane BootLinkStage s free is = absurd is
deployed_may b lane (BootFolder version sub rest) s free is = absurd is
deployed_may b lane Loader s free is = absurd is
deployed_may b lane LoaderStage s free is = absurd is
deployed_may b lane (LoaderFolder version rest) s free is = absurd is
deployed_may b lane (KernelCopy os bootcsum rest) s free is = absurd is
deployed_may b lane (Checkout name rest) s free is = absurd is
deployed_may b lane (Other p) s free is = absurd is

-- a deployment is at no other thing's place
elsewhere : (p : Path) (x : Place) → IsDeployed (place p) → place p ≡ x → IsDeployed x
elsewhere p x is at = subst IsDeployed at is

deployed_within : (b : Books) (v : View) (lane : ℕ) (p : Path) → b.sysroot ≡ Some lane → IsDeployed (place p) → Guarantee b v lane lane p Vacant
deployed_within b v lane p mine is = record {
  at = deployed_may b lane (place p) Vacant (own_free lane b.sysroot mine) is;
  fits = record { suits = λ rule for_it. vacant_suits rule; bounds = λ some. absurd (some refl) };
  objects = λ kind sum at. absurd (elsewhere p (Object kind sum) is at);
  marks = λ commit at some. absurd (some refl);
  checkouts = λ name at. absurd (elsewhere p (Checkout name _) is at);
  comes = λ n m bytes e. absurd (let no : Vacant ≡ Leaf n m bytes = e in cc);
  folders = inr (inr (inr (inr (λ name below leaf. ⊎_elim (λ other. elsewhere p (Other p) is other) (λ ref. elsewhere p (Ref ref.0) is ref.1) (above_ref name p below)))));
}

module _ (c : Cleaning) (lane : ℕ) (v : View) (b : Books) (known : IsCleaning c lane v b) where
  cleans_within : Within (WritesOf c v) (Guarantee b v lane lane)
  cleans_within p s wrote =
      let d = writes_deployed c v p s known.needs wrote in
      subst (Guarantee b v lane lane p) (sym d.1) (deployed_within b v lane p known.sysroot d.0)

  cleans_still : Still (WritesOf c v) v
  cleans_still (RefOf name) s wrote = absurd (elsewhere (ref_path name) (Ref name) (writes_deployed c v (ref_path name) s known.needs wrote).0 (place-ref name))

-- ---- what is owed

duty_in : (p : Phase) (actor lane : ℕ) (v : View) (b : Books) (Done : View → Type 0) → KnownIn p lane v b → StepObligation (kind_in p) actor lane v b (writes_in p v) Done
duty_in phase.Waiting actor lane v b Done known = ((λ p s wrote. absurd wrote), (λ x s wrote. absurd wrote))
duty_in phase.Unlearned actor lane v b Done known = ((λ p s wrote. absurd wrote), (λ x s wrote. absurd wrote))
duty_in (phase.Looking l) actor lane v b Done known = ((λ p s wrote. absurd wrote), (λ x s wrote. absurd wrote))
duty_in (phase.Cleaning c) actor lane v b Done known = (cleans_within c lane v b known, cleans_still c lane v b known)
duty_in phase.Over actor lane v b Done known = absurd known

pub duty_of : (t : CleanCommand) (actor lane : ℕ) (v : View) (b : Books) (Done : View → Type 0) → Facts lane t v b → StepObligation (clean_kind t) actor lane v b (clean_writes actor t v) Done
duty_of t actor lane v b Done f = duty_in t.phase actor lane v b Done f.known

-- ---- what the step asks

ready_in : (p : Phase) (lane : ℕ) (v : View) (b : Books) → KnownIn p lane v b → needs_in p v
ready_in phase.Waiting lane v b known = tt
ready_in phase.Unlearned lane v b known = tt
ready_in (phase.Looking l) lane v b known = tt
ready_in (phase.Cleaning c) lane v b known = (known.needs, known.bounded)
ready_in phase.Over lane v b known = known

pub ready_of : (actor lane : ℕ) (t : CleanCommand) (v : View) (b : Books) → Facts lane t v b → clean_needs actor t v
ready_of actor lane t v b f = ready_in t.phase lane v b f.known

-- ---- which kind of step may follow

chain_in : (p n : Phase) → Follows p n → Chain (kind_in p) (kind_in n)
chain_in = follow_cases (λ p n. Chain (kind_in p) (kind_in n)) tt (λ l n is. tt) (λ c n step. tt)

pub chain_of : (t new : CleanCommand) → clean_stepped t turn.More new → Chain (clean_kind t) (clean_kind new)
chain_of t new step = chain_in t.phase new.phase step.1

-- ---- which may be the last

last_in : (p : Phase) → Ends p → IsLastly (kind_in p)
last_in phase.Waiting is = absurd is
last_in phase.Unlearned is = absurd is
last_in (phase.Looking l) is = tt
last_in (phase.Cleaning c) is = tt
last_in phase.Over is = tt

pub last_of : (t new : CleanCommand) → clean_stepped t (turn.Done tt) new → IsLastly (clean_kind t)
last_of t new step = last_in t.phase step.1

-- no checkout is claimed
unclaimed_in : (p : Phase) (name : Name) → kind_in p ≡ Claim name → ⊥
unclaimed_in phase.Waiting name is = let no : Take clean_wants ≡ Claim name = is in cc
unclaimed_in phase.Unlearned name is = let no : Quiet ≡ Claim name = is in cc
unclaimed_in (phase.Looking l) name is = let no : Quiet ≡ Claim name = is in cc
unclaimed_in (phase.Cleaning c) name is = let no : Quiet ≡ Claim name = is in cc
unclaimed_in phase.Over name is = let no : Quiet ≡ Claim name = is in cc

pub unclaimed : (t : CleanCommand) (name : Name) → clean_kind t ≡ Claim name → ⊥
unclaimed t name is = unclaimed_in t.phase name is
