-- Where a checkout begins, which steps it takes, and what its answer says.
use Rattle.std.proofs.Common.{◌≡◌, ◌≢◌, ◌⊎◌, inl, inr, ℕ, Option, Some, None, Ok, Err, List, refl, sym, ◌∙◌, ap, subst}
use Rattle.ost_types.specs.declared.object.ObjName.{ObjName}
use Rattle.ost_types.specs.Path.{Name, Path}
use Rattle.ost_types.proofs.Paths.{is_below-self}
use Rattle.fs_trait.specs.declared.task.StepResult.{StepResult}
use Rattle.fs_trait.specs.declared.task.StepResult.TheVariants as turn
use Rattle.fs_trait.specs.Seen.{shows}
use Rattle.fs_trait.specs.View.{Disk, View}
use Rattle.fs_trait.proofs.Effects.{may_now}
use Rattle.repo_layout.specs.declared.folder.Folder.TheVariants.{Checkouts}
use Rattle.repo_layout.specs.BootPaths.{checkout_path}
use Rattle.repo_layout.specs.Paths.{folder_path, mark_path}
use Rattle.rely_guarantee.specs.declared.books.Entry.{Entry}
use Rattle.rely_guarantee.specs.declared.books.Pending.{Pending}
use Rattle.rely_guarantee.specs.Books.{Books, IsClaimed}
use Rattle.rely_guarantee.specs.Laws.{Quiet, Take, Claim, IsQuiet}
use Rattle.rely_guarantee.specs.Pinning.{pin_in}
use Rattle.rely_guarantee.specs.SystemInvariant.{Stands}
use Rattle.rely_guarantee.specs.State.{SystemState}
use Rattle.ref_command.specs.Commands.{pin_wants}
use Rattle.ref_command.specs.Found.{commit_name}
use Rattle.checkout.specs.declared.checkout_phase.CheckoutPhase.TheVariants.{Ended as EndedPhase}
use Rattle.checkout.specs.CheckoutFolder.{IsCheckout}
use Rattle.checkout.specs.CheckoutWork.{Answer}
use Rattle.checkout.specs.CheckoutSteps.{needs_in}
use Rattle.repo_model.specs.Objects.{Stores}
use Rattle.commit_checkout.proofs.TreeMaps.{tree_folder}
use Rattle.tree_walk.specs.Standing.{AreRight}
use Rattle.tree_walk.proofs.Rightly.{shown_rightly, shown_standing, whole_rightly}
use Rattle.checkout_command.specs.declared.answer.CheckoutAnswer.{CheckoutAnswer}
use Rattle.checkout_command.specs.declared.answer.CheckoutAnswer.TheVariants as answer
use Rattle.checkout_command.specs.declared.command.CheckoutCommand.{CheckoutCommand}
use Rattle.checkout_command.specs.declared.command.CheckoutCommand.TheVariants as command
use Rattle.checkout_command.specs.declared.made.Made.{Made}
use Rattle.checkout_command.specs.declared.made.Made.TheVariants as made
use Rattle.checkout_command.specs.declared.make.Make.{Make}
use Rattle.checkout_command.specs.Answers.{IsCheckedOut, Says}
use Rattle.checkout_command.specs.Asked.{Answers, Asked, IsOfFiles, IsRightFor, asked, asked_by}
use Rattle.checkout_command.specs.Commands.{Facts, HasMade, IsNew, IsOwned, Making, Tells, answer_of, checkout_facts, checkout_kind, checkout_leaves, checkout_stepped}
use Rattle.checkout_command.specs.Fits.{IsFitting}
use Rattle.checkout_command.specs.Founded.{IsFinishedOf, IsOfFinished}
use Rattle.checkout_command.specs.LookSteps.{SaysStopped}
use Rattle.checkout_command.specs.MakeSteps.{IsFar, IsMadeBy, MakeSays, Makes, make_kind}
use Rattle.checkout_command.specs.Reads.{Reads}
use Rattle.checkout_command.proofs.MakeKinds.{kind_name}

pub begins_of : (start : SystemState) (entries : List Entry) (pending : Option Pending) (lane : ℕ) (v : View) (b : Books) (t : CheckoutCommand) → Stands start entries pending v → IsNew t → checkout_facts lane t v b
begins_of start entries pending lane v b (command.Look r) stands sum = record {
  known = tt;
  founded = (sum, stands.kinds (mark_path r.commit) (shows v.now (mark_path r.commit)) (may_now v (mark_path r.commit)));
  home = stands.folders Checkouts (folder_path Checkouts) (shows v.now (folder_path Checkouts)) (may_now v (folder_path Checkouts)) (is_below-self (folder_path Checkouts));
  pinned = tt;
}
begins_of start entries pending lane v b (command.Read s) stands new = absurd new
begins_of start entries pending lane v b (command.Make m) stands new = absurd new
begins_of start entries pending lane v b (command.Ended a) stands new = absurd new

-- ---- the kinds of steps

kind_by : (k : Made) (name : Name) → (make_kind k name ≡ Quiet) ⊎ (make_kind k name ≡ Claim name)
kind_by made.Nothing name = inr refl
kind_by made.Part name = inl refl
kind_by made.All name = inl refl

kind_of : (m : Make) → (checkout_kind (command.Make m) ≡ Quiet) ⊎ (checkout_kind (command.Make m) ≡ Claim m.request.name) → (checkout_kind (command.Make m) ≡ Quiet) ⊎ (((q : Asked) × (asked (command.Make m) ≡ Some q) × (checkout_kind (command.Make m) ≡ Take (pin_wants q.commit))) ⊎ ((q : Asked) × (asked (command.Make m) ≡ Some q) × (checkout_kind (command.Make m) ≡ Claim q.name)))
kind_of m (inl is) = inl is
kind_of m (inr is) = inr (inr (asked_by m.request, refl, is))

-- it changes nothing, pins the commit, or claims its folder
pub quiet_kind : (t : CheckoutCommand) → (checkout_kind t ≡ Quiet) ⊎ (((q : Asked) × (asked t ≡ Some q) × (checkout_kind t ≡ Take (pin_wants q.commit))) ⊎ ((q : Asked) × (asked t ≡ Some q) × (checkout_kind t ≡ Claim q.name)))
quiet_kind (command.Look r) = inr (inl (asked_by r, refl, refl))
quiet_kind (command.Read s) = inl refl
quiet_kind (command.Make m) = kind_of m (kind_by m.made m.request.name)
quiet_kind (command.Ended a) = inl refl

make_quiet : (k : Made) (name : Name) → IsQuiet (make_kind k name)
make_quiet made.Nothing name = tt
make_quiet made.Part name = tt
make_quiet made.All name = tt

pub checkout_quiet : (t : CheckoutCommand) → IsQuiet (checkout_kind t)
checkout_quiet (command.Look r) = tt
checkout_quiet (command.Read s) = tt
checkout_quiet (command.Make m) = make_quiet m.made m.request.name
checkout_quiet (command.Ended a) = tt

make_pin : (k : Made) (name : Name) (o : ObjName) → pin_in (make_kind k name) ≡ Some o → ⊥
make_pin made.Nothing name o is = let no : None ≡ Some o = is in cc
make_pin made.Part name o is = let no : None ≡ Some o = is in cc
make_pin made.All name o is = let no : None ≡ Some o = is in cc

-- the commit alone is pinned
pub checkout_pin : (t : CheckoutCommand) (o : ObjName) → pin_in (checkout_kind t) ≡ Some o → (q : Asked) × (asked t ≡ Some q) × (o ≡ commit_name q.commit)
checkout_pin (command.Look r) o is = let same : Some (commit_name r.commit) ≡ Some o = is in (asked_by r, refl, let back : o ≡ commit_name r.commit = cc in back)
checkout_pin (command.Read s) o is = let no : None ≡ Some o = is in cc
checkout_pin (command.Make m) o is = absurd (make_pin m.made m.request.name o is)
checkout_pin (command.Ended a) o is = let no : None ≡ Some o = is in cc

pub answered : (t new : CheckoutCommand) → checkout_stepped t (turn.Done tt) new → (a : CheckoutAnswer) × (answer_of new ≡ Some a) × IsFitting (asked t) a
answered t new step = (step.0, ap answer_of step.1, step.2)

-- ---- what an answer says

stopped_says : (d : Disk) (q : Asked) (a : CheckoutAnswer) → SaysStopped d q.commit a → Says d q.limits q.commit q.name a
stopped_says d q (answer.NoCommit c) told = told
stopped_says d q (answer.Partial c) told = told
stopped_says d q answer.Done told = absurd told
stopped_says d q (answer.DestExists p) told = absurd told
stopped_says d q (answer.Lacking p) told = absurd told

all_ended : (m : Make) (d : Disk) → m.made ≡ made.All → IsFar m.made m.task d → m.task.phase ≡ EndedPhase
all_ended m d is far = (subst (λ k. IsFar k m.task d) is far).0

made_says : (lane : ℕ) (m : Make) (v : View) (b : Books) → AreRight m.request.limits.content v.now → Making lane m v b → m.made ≡ made.All → IsCheckedOut v.now m.request.limits m.request.commit m.request.name
made_says lane m v b right making is =
    let ended = all_ended m v.now is making.needs.far in
    let folder : IsCheckout v.now m.task.into m.task.tree = subst (λ ph. needs_in ph m.task v.now) ended making.needs.needs in
    record {
      whole = whole_rightly v.now m.request.limits right m.request.commit making.whole;
      folder = tree_folder (Stores v.now) v.now m.request.commit (checkout_path m.request.name) m.task.tree making.map
          (λ p n. (λ has. shown_rightly v.now m.request.commit p n ((making.tree p n).0 has), λ shown. (making.tree p n).1 (shown_standing v.now m.request.commit p n shown))) (subst (λ q. IsCheckout v.now q m.task.tree) making.needs.at folder);
    }

make_says : (lane : ℕ) (m : Make) (v : View) (b : Books) (a : CheckoutAnswer) → (IsOfFiles a → AreRight m.request.limits.content v.now) → Making lane m v b → MakeSays m v.now a → Says v.now m.request.limits m.request.commit m.request.name a
make_says lane m v b answer.Done right making told = made_says lane m v b (right tt) making told
make_says lane m v b (answer.DestExists p) right making told = (told.1, told.2)
make_says lane m v b (answer.NoCommit c) right making told = absurd told
make_says lane m v b (answer.Partial c) right making told = absurd told
make_says lane m v b (answer.Lacking p) right making told = absurd told

read_says : (d : Disk) (s : Reads) (a : CheckoutAnswer) → (IsOfFiles a → AreRight s.request.limits.content d) → Tells (command.Read s) d a → Says d s.request.limits s.request.commit s.request.name a
read_says d s (answer.Lacking p) right told = told (right tt)
read_says d s answer.Done right told = absurd told
read_says d s (answer.DestExists p) right told = absurd told
read_says d s (answer.NoCommit c) right told = absurd told
read_says d s (answer.Partial c) right told = absurd told

answers_by : (lane : ℕ) (t : CheckoutCommand) (v : View) (b : Books) (a : CheckoutAnswer) → (IsOfFiles a → IsRightFor (asked t) v.now) → Facts lane t v b → Tells t v.now a → Answers v.now (asked t) a
answers_by lane (command.Look r) v b a right f told = stopped_says v.now (asked_by r) a told
answers_by lane (command.Read s) v b a right f told = read_says v.now s a right told
answers_by lane (command.Make m) v b a right f told = make_says lane m v b a right f.known told
answers_by lane (command.Ended x) v b a right f told = absurd f.known

not_finished : (d : Disk) (commit : List ℕ) (a : CheckoutAnswer) → SaysStopped d commit a → IsOfFinished a → ⊥
not_finished d commit (answer.NoCommit c) told of = of
not_finished d commit (answer.Partial c) told of = of
not_finished d commit answer.Done told of = told
not_finished d commit (answer.DestExists p) told of = told
not_finished d commit (answer.Lacking p) told of = told

finished_by : (lane : ℕ) (t : CheckoutCommand) (v : View) (b : Books) (a : CheckoutAnswer) → Facts lane t v b → Tells t v.now a → IsOfFinished a → IsFinishedOf (asked t) v
finished_by lane (command.Look r) v b a f told of = absurd (not_finished v.now r.commit a told of)
finished_by lane (command.Read s) v b a f told of = f.founded
finished_by lane (command.Make m) v b a f told of = f.founded
finished_by lane (command.Ended x) v b a f told of = absurd f.known

module _ (lane : ℕ) (t new : CheckoutCommand) (v w : View) (b : Books) (a : CheckoutAnswer) (f : checkout_facts lane t v b) (leaves : checkout_leaves t (turn.Done tt) new v w) (is : answer_of new ≡ Some a) where
  same : leaves.1 ≡ a
  same = let e : Some leaves.1 ≡ Some a = sym (ap answer_of leaves.2) ∙ is in cc

  told : Tells t v.now a
  told = subst (Tells t v.now) same leaves.3

  pub says_of : (w ≡ v) × ((IsOfFiles a → IsRightFor (asked t) v.now) → Answers v.now (asked t) a)
  says_of = (leaves.0, λ right. answers_by lane t v b a right f told)

  pub finished_of : IsOfFinished a → IsFinishedOf (asked t) v
  finished_of of = finished_by lane t v b a f told of

-- ---- whose the folder is

abbrev pub IsClaimedOf : Option Asked → ℕ → Books → Type 0
IsClaimedOf None lane b = Unit {0}
IsClaimedOf (Some q) lane b = IsClaimed q.name lane b

all_claimed : (lane : ℕ) (m : Make) (v : View) (b : Books) → Making lane m v b → m.made ≡ made.All → IsClaimed m.request.name lane b
all_claimed lane m v b making is = subst (λ k. IsOwned k m.request.name lane b) is making.owned

claimed_by : (lane : ℕ) (t : CheckoutCommand) (v : View) (b : Books) → Facts lane t v b → Tells t v.now answer.Done → IsClaimedOf (asked t) lane b
claimed_by lane (command.Look r) v b f told = absurd told
claimed_by lane (command.Read s) v b f told = absurd told
claimed_by lane (command.Make m) v b f told = all_claimed lane m v b f.known told
claimed_by lane (command.Ended x) v b f told = absurd told

-- who answers that the folder is the tree has claimed it
pub claimed_of : (lane : ℕ) (t new : CheckoutCommand) (v w : View) (b : Books) → checkout_facts lane t v b → checkout_leaves t (turn.Done tt) new v w → answer_of new ≡ Some answer.Done → IsClaimedOf (asked t) lane b
claimed_of lane t new v w b f leaves is = claimed_by lane t v b f (told lane t new v w b answer.Done f leaves is)

-- ---- whether it has made its folder

by_not_nothing : (x : StepResult Answer) (k : Made) → IsMadeBy x k → k ≢ made.Nothing
by_not_nothing turn.More k is none = let no : made.Part ≡ made.Nothing = sym is ∙ none in cc
by_not_nothing (turn.Done (Ok a)) k is none = let no : made.All ≡ made.Nothing = sym is ∙ none in cc
by_not_nothing (turn.Done (Err e)) k is none = is

made_by : (m n : Make) (v w : View) (name : Name) → Makes m n v w → m.request.name ≡ name → HasMade (command.Make n) name
made_by m n v w name makes is = (by_not_nothing makes.turn n.made makes.made, ap (λ r. r.name) makes.request ∙ is)

pub made_claim : (t new : CheckoutCommand) (v w : View) (name : Name) → checkout_leaves t turn.More new v w → checkout_kind t ≡ Claim name → HasMade new name
made_claim (command.Make m) (command.Make n) v w name makes is = made_by m n v w name makes (kind_name m.made m.request.name name is)
made_claim (command.Make m) (command.Look x) v w name goes is = absurd goes
made_claim (command.Make m) (command.Read x) v w name goes is = absurd goes
made_claim (command.Make m) (command.Ended x) v w name goes is = absurd goes
made_claim (command.Look r) new v w name goes is = let no : Take (pin_wants r.commit) ≡ Claim name = is in cc
made_claim (command.Read s) new v w name goes is = let no : Quiet ≡ Claim name = is in cc
made_claim (command.Ended a) new v w name goes is = let no : Quiet ≡ Claim name = is in cc

pub made_more : (t new : CheckoutCommand) (v w : View) (name : Name) → checkout_leaves t turn.More new v w → HasMade t name → HasMade new name
made_more (command.Make m) (command.Make n) v w name makes has = made_by m n v w name makes has.1
made_more (command.Make m) (command.Look x) v w name goes has = absurd goes
made_more (command.Make m) (command.Read x) v w name goes has = absurd goes
made_more (command.Make m) (command.Ended x) v w name goes has = absurd goes
made_more (command.Look r) new v w name goes has = absurd has
made_more (command.Read s) new v w name goes has = absurd has
made_more (command.Ended a) new v w name goes has = absurd has

-- that something stands there is answered before the folder is made
pub made_not : (t new : CheckoutCommand) (v w : View) (p : Path) (name : Name) → checkout_leaves t (turn.Done tt) new v w → answer_of new ≡ Some (answer.DestExists p) → HasMade t name → ⊥
made_not (command.Make m) new v w p name leaves is has =
    let e : Some leaves.1 ≡ Some (answer.DestExists p) = sym (ap answer_of leaves.2) ∙ is in
    let same : leaves.1 ≡ answer.DestExists p = cc in
    has.0 (subst (MakeSays m v.now) same leaves.3).0
made_not (command.Look r) new v w p name leaves is has = has
made_not (command.Read s) new v w p name leaves is has = has
made_not (command.Ended a) new v w p name leaves is has = has
