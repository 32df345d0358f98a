-- Each step leaves the facts of the next one.
use Rattle.std.proofs.Common.{◌≡◌, ⊎_elim, ℕ, List, [], ◌∷◌, Ok, refl, sym, ◌∙◌, ap, subst}
use Rattle.ost_types.specs.Path.{Name}
use Rattle.fs_trait.specs.declared.task.StepResult.TheVariants as turn
use Rattle.fs_trait.specs.Change.{Writes}
use Rattle.fs_trait.specs.View.{View}
use Rattle.fs_trait.proofs.Facts.{shows_kept}
use Rattle.repo_layout.specs.BootPaths.{loader_path}
use Rattle.boot_model.specs.declared.item.DepId.{DepId}
use Rattle.deploy_clean.specs.declared.phase.Phase as cleaning_phase
use Rattle.deploy_clean.specs.declared.phase.Phase.TheVariants as cleaning
use Rattle.deploy_clean.specs.Opened.{Opened}
use Rattle.deploy_clean.specs.Cleaning.{Cleaning, IsStepped, begun, opens_in, sees_in, steps_in}
use Rattle.deploy_clean.specs.Steps.{Needs, WritesOf}
use Rattle.deploy_clean.proofs.Keeping.{clean_begun, clean_lies}
use Rattle.durable_list.specs.Standing.{HasLoader}
use Rattle.durable_deployments.specs.Bounds.{AreBounded}
use Rattle.rely_guarantee.specs.Books.{Books, Keeps}
use Rattle.rely_guarantee.specs.Laws.{Stood}
use Rattle.clean_command.specs.declared.command.CleanCommand.{CleanCommand}
use Rattle.clean_command.specs.declared.phase.Phase.{Phase}
use Rattle.clean_command.specs.declared.phase.Phase.TheVariants as phase
use Rattle.clean_command.specs.Commands.{Follows, Goes, clean_kind, clean_leaves, kind_in}
use Rattle.clean_command.specs.Facts.{Facts, IsCleaning, IsLooking, KnownIn}
use Rattle.clean_command.specs.Following.{follow_cases}
use Rattle.clean_command.specs.Places.{writes_off_loader}

-- ---- a step of a removal leaves its list

list_of : (c n : Cleaning) → n ≡ c → n.listed ≡ c.listed
list_of c n same = ap (λ (x : Cleaning). x.listed) same

opens_list : (names : List Name) (c n : Cleaning) → opens_in names c turn.More n → n.listed ≡ c.listed
opens_list [] c n is = let z : turn.More ≡ turn.Done tt = is.0 in cc
opens_list (x ∷ rest) c n is = ⊎_elim (λ other. ap (λ (y : Cleaning). y.listed) other.1) (λ os. ap (λ (y : Cleaning). y.listed) os.1.1) is.1

sees_list : (names : List Name) (o : Opened) (c n : Cleaning) → sees_in names o c n → n.listed ≡ c.listed
sees_list [] o c n is = ap (λ (y : Cleaning). y.listed) is
sees_list (x ∷ rest) o c n is = ⊎_elim (λ other. ap (λ (y : Cleaning). y.listed) other.1) (λ next. ap (λ (y : Cleaning). y.listed) next.1) is

list_in : (ph : cleaning_phase.Phase) (c n : Cleaning) → steps_in ph c turn.More n → n.listed ≡ c.listed
list_in cleaning.Begin c n is = ap (λ (y : Cleaning). y.listed) is.1.1
list_in cleaning.Open c n is = opens_list c.stateroots c n is
list_in (cleaning.See o) c n is = sees_list o.names o c n is.1
list_in (cleaning.Remove o r) c n is = ap (λ (y : Cleaning). y.listed) is.1.2
list_in cleaning.Ended c n is = let z : turn.More ≡ turn.Done tt = is.0 in cc

pub same_list : (c n : Cleaning) → IsStepped c (Ok turn.More) n → n.listed ≡ c.listed
same_list c n is = list_in c.phase c n is

-- ---- what goes does no harm

module _ (c : Cleaning) (v w : View) (needs : Needs c v) (writes : Writes (WritesOf c v) v w) where
  bounded_on : AreBounded v → AreBounded w
  bounded_on was p s lies may some = ⊎_elim (λ before. was p s lies before some) (λ wrote. absurd (some (clean_lies c v needs.made p s wrote).1)) (writes.only p s may)

  selected_on : HasLoader v.now → HasLoader w.now
  selected_on was none = was (sym (shows_kept (WritesOf c v) v w loader_path writes (λ s wrote. writes_off_loader c v s needs wrote)) ∙ none)

cleaning_next : (c n : Cleaning) (lane : ℕ) (v w : View) (b b' : Books) → IsStepped c (Ok turn.More) n → Writes (WritesOf c v) v w → Needs n w → Keeps lane b b' → IsCleaning c lane v b → IsCleaning n lane w b'
cleaning_next c n lane v w b b' step writes after keeps was = record {
  sysroot = keeps.sysroot was.sysroot;
  listed = keeps.listed ∙ was.listed ∙ sym (same_list c n step);
  needs = after;
  bounded = bounded_on c v w was.needs writes was.bounded;
  selected = selected_on c v w was.needs writes was.selected;
}

-- ---- a removal begins

begun_known : (ids : List DepId) (lane : ℕ) (v : View) (b b' : Books) → HasLoader v.now → Keeps lane b b' → IsLooking ids lane v b → IsCleaning (begun ids) lane v b'
begun_known ids lane v b b' selected keeps was = record {
  sysroot = keeps.sysroot was.sysroot;
  listed = keeps.listed ∙ was.listed;
  needs = clean_begun ids v;
  bounded = was.bounded;
  selected = selected;
}

cleaning_begins : (ids : List DepId) (n : Cleaning) (lane : ℕ) (v w : View) (b b' : Books) → n ≡ begun ids → w ≡ v → HasLoader w.now → Keeps lane b b' → IsLooking ids lane v b → IsCleaning n lane w b'
cleaning_begins ids n lane v w b b' is same selected keeps was =
    let still = subst (λ x. IsLooking ids lane x b) (sym same) was in
    subst (λ c. IsCleaning c lane w b') (sym is) (begun_known ids lane w b b' selected keeps still)

-- ---- each step

module _ (actor lane : ℕ) (v w : View) (b b' : Books) (keeps : Keeps lane b b') where
  abbrev KeepsKnown : Phase → Phase → Type 0
  KeepsKnown p n = Stood (kind_in p) actor lane b → Goes p n v w → KnownIn p lane v b → KnownIn n lane w b'

  known_next : (p n : Phase) → Follows p n → KeepsKnown p n
  known_next = follow_cases KeepsKnown
      (λ stood goes known. keeps.sysroot (stood.sysroot refl))
      (λ l n is stood goes known. cleaning_begins l.items n lane v w b b' is goes.0 goes.1 keeps known)
      (λ c n step stood goes known. cleaning_next c n lane v w b b' step goes.0 goes.1 keeps known)

pub facts_next : (actor lane : ℕ) (t new : CleanCommand) (v w : View) (b b' : Books) → Stood (clean_kind t) actor lane b → Facts lane t v b → clean_leaves t turn.More new v w → Keeps lane b b' → Facts lane new w b'
facts_next actor lane t new v w b b' stood f leaves keeps = record {
  mine = ap (λ (x : CleanCommand). x.lane) leaves.0 ∙ f.mine;
  known = known_next actor lane v w b b' keeps t.phase new.phase leaves.1 stood leaves.2 f.known;
}
