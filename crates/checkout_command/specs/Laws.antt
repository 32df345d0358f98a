-- The laws of a checkout as a task.
use Rattle.std.proofs.Common.{ℕ}
use Rattle.ost_types.specs.Path.{Name}
use Rattle.fs_trait.specs.declared.task.StepResult.TheVariants as turn
use Rattle.fs_trait.specs.View.{View}
use Rattle.rely_guarantee.specs.Books.{Books}
use Rattle.rely_guarantee.specs.Laws.{Kind, Laws, Chain, StepObligation, IsBefore, IsLastly}
use Rattle.checkout_command.specs.declared.command.CheckoutCommand.{CheckoutCommand}
use Rattle.checkout_command.specs.declared.command.CheckoutCommand.TheVariants as command
use Rattle.checkout_command.specs.declared.made.Made.{Made}
use Rattle.checkout_command.specs.declared.made.Made.TheVariants as made
use Rattle.checkout_command.specs.declared.make.Make.{Make}
use Rattle.checkout_command.specs.Commands.{Facts, Making, checkout_facts, checkout_kind, checkout_leaves, checkout_needs, checkout_stepped, checkout_writes}
use Rattle.checkout_command.specs.Duties.{may_make, still_make}
use Rattle.checkout_command.specs.MakeSteps.{make_kind, make_writes}
use Rattle.checkout_command.specs.Nexts.{claims_of, facts_gain, facts_kept, facts_next}

make_before : (k : Made) (name : Name) → IsBefore (make_kind k name)
make_before made.Nothing name = tt
make_before made.Part name = tt
make_before made.All name = tt

before : (t : CheckoutCommand) → IsBefore (checkout_kind t)
before (command.Look r) = tt
before (command.Read s) = tt
before (command.Make m) = make_before m.made m.request.name
before (command.Ended a) = tt

make_chain : (k : Made) (name : Name) (next : Kind) → IsBefore next → Chain (make_kind k name) next
make_chain made.Nothing name next is = is
make_chain made.Part name next is = is
make_chain made.All name next is = is

chain_of : (t : CheckoutCommand) (next : Kind) → IsBefore next → Chain (checkout_kind t) next
chain_of (command.Look r) next is = is
chain_of (command.Read s) next is = is
chain_of (command.Make m) next is = make_chain m.made m.request.name next is
chain_of (command.Ended a) next is = is

make_last : (k : Made) (name : Name) → IsLastly (make_kind k name)
make_last made.Nothing name = tt
make_last made.Part name = tt
make_last made.All name = tt

last_of : (t : CheckoutCommand) → IsLastly (checkout_kind t)
last_of (command.Look r) = tt
last_of (command.Read s) = tt
last_of (command.Make m) = make_last m.made m.request.name
last_of (command.Ended a) = tt

make_duty : (k : Made) (name : Name) (actor lane : ℕ) (m : Make) (v : View) (b : Books) (Done : View → Type 0) → Making lane m v b → StepObligation (make_kind k name) actor lane v b (make_writes m v) Done
make_duty made.Nothing name actor lane m v b Done making = (may_make lane m v b making, still_make m v)
make_duty made.Part name actor lane m v b Done making = (may_make lane m v b making, still_make m v)
make_duty made.All name actor lane m v b Done making = (may_make lane m v b making, still_make m v)

duty_of : (t : CheckoutCommand) (actor lane : ℕ) (v : View) (b : Books) (Done : View → Type 0) → Facts lane t v b → StepObligation (checkout_kind t) actor lane v b (checkout_writes actor t v) Done
duty_of (command.Look r) actor lane v b Done f = ((λ p s a. absurd a), (λ q s a. absurd a))
duty_of (command.Read s) actor lane v b Done f = ((λ p s a. absurd a), (λ q s a. absurd a))
duty_of (command.Make m) actor lane v b Done f = make_duty m.made m.request.name actor lane m v b Done f.known
duty_of (command.Ended a) actor lane v b Done f = ((λ p s a. absurd a), (λ q s a. absurd a))

ready_of : (actor lane : ℕ) (t : CheckoutCommand) (v : View) (b : Books) → Facts lane t v b → checkout_needs actor t v
ready_of actor lane (command.Look r) v b f = tt
ready_of actor lane (command.Read s) v b f = f.known
ready_of actor lane (command.Make m) v b f = f.known.needs
ready_of actor lane (command.Ended a) v b f = f.known

pub checkout_laws : Laws checkout_kind checkout_needs checkout_writes checkout_stepped checkout_leaves checkout_facts
checkout_laws = record {
  ready = λ actor lane t v b by f. ready_of actor lane t v b f;
  kept = λ actor lane mine t v w b b' not other does holds f. facts_kept actor lane mine t v w b b' other does f;
  gains = λ lane t v b b' keeps same f. facts_gain lane t v b b' keeps f;
  duty = λ actor lane t new v b agrees by stood f. duty_of t actor lane v b (checkout_leaves t (turn.Done tt) new v) f;
  chain = λ t new step. chain_of t (checkout_kind new) (before new);
  last = λ t new step. last_of t;
  next = λ actor lane t new v w b b' stood f leaves keeps own. facts_next actor lane t new v w b b' stood f leaves keeps own;
  claims = λ lane t new v w b name kind step f leaves. claims_of lane t new v w b name kind f leaves;
}
