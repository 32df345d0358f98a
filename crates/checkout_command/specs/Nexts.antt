-- What a step leaves gives the facts of the next one.
use Rattle.std.proofs.Common.{◌≡◌, ◌≢◌, ℕ, true, false, Ok, Err, refl, sym, ◌∙◌, ap, subst, ◌++◌}
use Rattle.ost_types.specs.Path.{Name, Path}
use Rattle.ost_types.specs.PathMap.{Nodes, IsPathMap}
use Rattle.fs_trait.specs.declared.task.StepResult.{StepResult}
use Rattle.fs_trait.specs.declared.task.StepResult.TheVariants as turn
use Rattle.fs_trait.specs.Change.{Writes}
use Rattle.fs_trait.specs.Seen.{Seen, Vacant, shows}
use Rattle.fs_trait.specs.View.{View}
use Rattle.fs_trait.proofs.Kept.{weaker}
use Rattle.repo_layout.specs.BootPaths.{checkout_path}
use Rattle.repo_layout.specs.Place.{Checkout as Checkouts, place}
use Rattle.repo_model.specs.Whole.{Complete}
use Rattle.rely_guarantee.specs.Books.{Books, IsClaimed, Keeps}
use Rattle.rely_guarantee.specs.Laws.{Claim, Owned, Quiet, Stood, Take}
use Rattle.rely_guarantee.specs.Lasting.{IsFinishedNow}
use Rattle.rely_guarantee.specs.Rely.{Interference, Guarantee}
use Rattle.rely_guarantee.proofs.Claiming.{claimed_gains, claimed_kept, others_spare}
use Rattle.ref_command.specs.Commands.{pin_wants}
use Rattle.ref_command.specs.Found.{commit_name}
use Rattle.ref_command.specs.Founding.{found_now}
use Rattle.ref_command.specs.Pins.{IsPinned, others_pins, pinned_on}
use Rattle.tree_walk.specs.Standing.{Standing}
use Rattle.checkout.specs.CheckoutWork.{Answer, Checkout, IsPlaced, beginning}
use Rattle.checkout.specs.CheckoutSteps as task
use Rattle.commit_checkout.specs.TreeFolder.{IsTreeOf}
use Rattle.checkout_command.specs.declared.command.CheckoutCommand.{CheckoutCommand}
use Rattle.checkout_command.specs.declared.command.CheckoutCommand.TheVariants as command
use Rattle.checkout_command.specs.declared.made.Made.{Made}
use Rattle.checkout_command.specs.declared.made.Made.TheVariants as made
use Rattle.checkout_command.specs.declared.make.Make.{Make}
use Rattle.checkout_command.specs.Reads.{Reads}
use Rattle.checkout_command.specs.declared.request.Request.{Request}
use Rattle.checkout_command.specs.Commands.{Facts, Goes, IsHome, IsOwned, Making, checkout_kind}
use Rattle.checkout_command.specs.Apart.{finished_apart, stands_apart}
use Rattle.checkout_command.specs.Duties.{may_make, place_in}
use Rattle.checkout_command.specs.Founded.{IsFounded}
use Rattle.checkout_command.specs.Kept.{IsBegun, KeepsAll, far_kept, founded_kept, home_above, home_kept, leaves_stand, needs_kept, pinned_keeps, reading_kept, tree_kept, whole_kept}
use Rattle.checkout_command.specs.MakeSteps.{IsFar, IsGoing, IsMadeBy, Makes, make_kind, make_writes}
use Rattle.checkout_command.specs.Phases.{needs_next, same_task}
use Rattle.checkout_command.specs.ReadSteps.{IsToMake, ReadKnows, reading}

-- ---- while others act

begun_claimed : (k : Made) (name : Name) (lane : ℕ) (b : Books) → IsBegun k → IsOwned k name lane b → IsClaimed name lane b
begun_claimed made.Nothing name lane b begun owned = absurd begun
begun_claimed made.Part name lane b begun owned = owned
begun_claimed made.All name lane b begun owned = owned

begun_stands : (k : Made) (m : Make) (v : View) → IsBegun k → IsFar k m.task v.now → shows v.now m.task.into ≢ Vacant
begun_stands made.Nothing m v begun far = absurd begun
begun_stands made.Part m v begun far = far.1
begun_stands made.All m v begun far = far.1

module _ (actor lane mine : ℕ) (m : Make) (v w : View) (b b' : Books) (other : mine ≢ lane) (does : Interference actor lane v b w b') (making : Making mine m v b) (home : IsHome v) (pin : IsPinned mine b m.request.commit) where
  there : IsBegun m.made → shows v.now (checkout_path m.request.name) ≢ Vacant
  there begun = subst (λ q. shows v.now q ≢ Vacant) making.needs.at (begun_stands m.made m v begun making.needs.far)

  none : IsBegun m.made → (rest : Path) (s : Seen) → Guarantee b v actor lane (checkout_path m.request.name ++ rest) s → ⊥
  none begun rest s may = others_spare b v actor lane m.request.name (there begun) mine (begun_claimed m.made m.request.name mine b begun making.owned) other rest s may

  owned_by : (k : Made) → k ≡ m.made → IsOwned k m.request.name mine b → IsOwned k m.request.name mine b'
  owned_by made.Nothing is owned = tt
  owned_by made.Part is owned = claimed_kept actor lane mine v w b b' m.request.name other does (there (subst IsBegun is tt)) owned
  owned_by made.All is owned = claimed_kept actor lane mine v w b b' m.request.name other does (there (subst IsBegun is tt)) owned

  pub making_kept : Making mine m w b'
  making_kept = record {
    map = making.map;
    placed = making.placed;
    whole = whole_kept v w m.request.commit (pinned_keeps b v w actor lane does.writes mine other m.request.commit pin) m.request.limits making.whole;
    tree = tree_kept v w m.request.commit (pinned_keeps b v w actor lane does.writes mine other m.request.commit pin) m.request.limits m.task.tree making.whole making.tree;
    needs = record {
      at = making.needs.at;
      far = far_kept b v w actor lane does.writes mine other m.task m.request.limits m.request.commit pin making.map making.whole making.tree m.request.name making.needs.at home m.made making.needs.far;
      needs = needs_kept b v w actor lane does.writes mine other m.task m.request.limits m.request.commit pin making.map making.whole making.tree m.request.name making.needs.at home m.made making.needs.far making.needs.needs none;
    };
    owned = owned_by m.made refl making.owned;
  }

pub facts_kept : (actor lane mine : ℕ) (t : CheckoutCommand) (v w : View) (b b' : Books) → mine ≢ lane → Interference actor lane v b w b' → Facts mine t v b → Facts mine t w b'
facts_kept actor lane mine (command.Look r) v w b b' other does f = record { known = tt; founded = founded_kept b v w actor lane does.writes mine other (command.Look r) f.pinned f.founded; home = home_kept b v w actor lane does.writes f.home; pinned = tt }
facts_kept actor lane mine (command.Read s) v w b b' other does f = record { known = reading_kept b v w actor lane does.writes mine other s f.pinned f.known; founded = founded_kept b v w actor lane does.writes mine other (command.Read s) f.pinned f.founded; home = home_kept b v w actor lane does.writes f.home; pinned = pinned_on mine b b' (others_pins actor lane mine v w b b' other does) s.request.commit f.pinned }
facts_kept actor lane mine (command.Make m) v w b b' other does f = record { known = making_kept actor lane mine m v w b b' other does f.known f.home f.pinned; founded = founded_kept b v w actor lane does.writes mine other (command.Make m) f.pinned f.founded; home = home_kept b v w actor lane does.writes f.home; pinned = pinned_on mine b b' (others_pins actor lane mine v w b b' other does) m.request.commit f.pinned }
facts_kept actor lane mine (command.Ended a) v w b b' other does f = absurd f.known

-- ---- what the lane gains

owned_gains : (k : Made) (name : Name) (lane : ℕ) (b b' : Books) → Keeps lane b b' → IsOwned k name lane b → IsOwned k name lane b'
owned_gains made.Nothing name lane b b' keeps owned = tt
owned_gains made.Part name lane b b' keeps owned = claimed_gains lane b b' name keeps owned
owned_gains made.All name lane b b' keeps owned = claimed_gains lane b b' name keeps owned

pub facts_gain : (lane : ℕ) (t : CheckoutCommand) (v : View) (b b' : Books) → Keeps lane b b' → Facts lane t v b → Facts lane t v b'
facts_gain lane (command.Look r) v b b' keeps f = record { known = tt; founded = f.founded; home = f.home; pinned = tt }
facts_gain lane (command.Read s) v b b' keeps f = record { known = f.known; founded = f.founded; home = f.home; pinned = pinned_on lane b b' keeps.pins s.request.commit f.pinned }
facts_gain lane (command.Make m) v b b' keeps f =
    let k = f.known in
    record {
      known = record { map = k.map; placed = k.placed; whole = k.whole; tree = k.tree; needs = k.needs; owned = owned_gains m.made m.request.name lane b b' keeps k.owned };
      founded = f.founded;
      home = f.home;
      pinned = pinned_on lane b b' keeps.pins m.request.commit f.pinned;
    }
facts_gain lane (command.Ended a) v b b' keeps f = absurd f.known

-- ---- the lane's own step

claimed_any : (k : Made) (name : Name) (lane : ℕ) (b : Books) → IsClaimed name lane b → IsOwned k name lane b
claimed_any made.Nothing name lane b claimed = tt
claimed_any made.Part name lane b claimed = claimed
claimed_any made.All name lane b claimed = claimed

owned_next : (k j : Made) (name : Name) (lane : ℕ) (b b' : Books) → IsGoing k → Keeps lane b b' → Owned (make_kind k name) lane b b' → IsOwned k name lane b → IsOwned j name lane b'
owned_next made.Nothing j name lane b b' going keeps own owned = claimed_any j name lane b' own
owned_next made.Part j name lane b b' going keeps own owned = claimed_any j name lane b' (claimed_gains lane b b' name keeps owned)
owned_next made.All j name lane b b' going keeps own owned = absurd going

module _ (lane : ℕ) (m n : Make) (v w : View) (b b' : Books) (making : Making lane m v b) (makes : Makes m n v w) where
  writes : Writes (Guarantee b v lane lane) v w
  writes = weaker (make_writes m v) (Guarantee b v lane lane) v w (may_make lane m v b making) makes.writes

  inside : (p : Path) (s : Seen) → make_writes m v p s → (name : Name) × (rest : Path) × (place p ≡ Checkouts name rest)
  inside p s a = let at = place_in m.made m v p s a in (m.request.name, at.0, at.1)

  own_keeps : KeepsAll v w m.request.commit
  own_keeps o c reached stands = stands_apart (make_writes m v) v w makes.writes inside o c stands

  task_is : (n.task.into ≡ m.task.into) × (n.task.tree ≡ m.task.tree)
  task_is = same_task m n v w making.needs makes

  making_next : Keeps lane b b' → Owned (make_kind m.made m.request.name) lane b b' → Making lane n w b'
  making_next keeps own = record {
    map = subst IsPathMap (sym task_is.1) making.map;
    placed = subst (λ q. IsPlaced q n.task.tree) (sym task_is.0) (subst (IsPlaced m.task.into) (sym task_is.1) making.placed);
    whole = subst (λ (r : Request). Complete (Standing w.now) r.limits r.commit) (sym makes.request) (whole_kept v w m.request.commit own_keeps m.request.limits making.whole);
    tree = subst (λ (r : Request). IsTreeOf (Standing w.now) r.commit n.task.tree) (sym makes.request)
        (subst (IsTreeOf (Standing w.now) m.request.commit) (sym task_is.1) (tree_kept v w m.request.commit own_keeps m.request.limits m.task.tree making.whole making.tree));
    needs = needs_next m n v w making.map making.placed.shape making.needs makes;
    owned = subst (λ (r : Request). IsOwned n.made r.name lane b') (sym makes.request) (owned_next m.made n.made m.request.name lane b b' makes.going keeps own making.owned);
  }

  pub make_next : IsFounded (command.Make m) v → IsHome v → IsPinned lane b m.request.commit → Keeps lane b b' → Owned (make_kind m.made m.request.name) lane b b' → Facts lane (command.Make n) w b'
  make_next founded home pin keeps own = record {
    known = making_next keeps own;
    founded = subst (λ (r : Request). IsFinishedNow w r.commit) (sym makes.request) (finished_apart (make_writes m v) v w makes.writes inside m.request.commit founded);
    home = home_kept b v w lane lane writes home;
    pinned = subst (λ (r : Request). IsPinned lane b' r.commit) (sym makes.request) (pinned_on lane b b' keeps.pins m.request.commit pin);
  }

begins_to_read : (r : Request) (v : View) → ReadKnows (Standing v.now) (reading r)
begins_to_read r v = record { commit = refl; limits = refl; so_far = λ begun. absurd (let n : false ≡ true = begun in cc) }

begins_to_make : (lane : ℕ) (r : Request) (m : Make) (v : View) (b : Books) → IsToMake v.now r m → IsHome v → Making lane m v b
begins_to_make lane r m v b is home =
    let at : m.task.into ≡ checkout_path r.name = ap (λ (t : Checkout). t.into) is.task in
    let leaves = leaves_stand v.now r.limits r.commit m.task.tree is.map is.whole is.tree in
    record {
      map = is.map;
      placed = subst (λ q. IsPlaced q m.task.tree) (sym at) is.placed;
      whole = subst (λ (q : Request). Complete (Standing v.now) q.limits q.commit) (sym is.request) is.whole;
      tree = subst (λ (q : Request). IsTreeOf (Standing v.now) q.commit m.task.tree) (sym is.request) is.tree;
      needs = record {
        at = at ∙ ap (λ (q : Request). checkout_path q.name) (sym is.request);
        far = subst (λ k. IsFar k m.task v.now) (sym is.made) (is.task ∙ ap (λ q. beginning q m.task.tree) (sym at));
        needs = subst (λ (t : Checkout). task.Needs t v.now) (sym is.task) (home_above r.name v.now home, leaves);
      };
      owned = subst (λ k. IsOwned k m.request.name lane b) (sym is.made) tt;
    }

pub facts_next : (actor lane : ℕ) (t new : CheckoutCommand) (v w : View) (b b' : Books) → Stood (checkout_kind t) actor lane b → Facts lane t v b → Goes t new v w → Keeps lane b b' → Owned (checkout_kind t) lane b b' → Facts lane new w b'
facts_next actor lane (command.Look r) (command.Read s) v w b b' stood f (same, is, found, tree) keeps own =
    let on : Facts lane (command.Read (reading r)) v b' = record { known = begins_to_read r v; founded = found_now v r.commit tree f.founded.0 f.founded.1 found; home = f.home; pinned = pinned_on lane b b' keeps.pins r.commit (stood.pin (commit_name r.commit) refl) } in
    subst (λ u. Facts lane (command.Read s) u b') (sym same) (subst (λ (q : Reads). Facts lane (command.Read q) v b') (sym is) on)
facts_next actor lane (command.Look r) (command.Look x) v w b b' stood f goes keeps own = absurd goes
facts_next actor lane (command.Look r) (command.Make x) v w b b' stood f goes keeps own = absurd goes
facts_next actor lane (command.Look r) (command.Ended x) v w b b' stood f goes keeps own = absurd goes
facts_next actor lane (command.Read s) (command.Read n) v w b b' stood f (same, is, knows) keeps own =
    let on : Facts lane (command.Read n) v b' = record { known = knows; founded = subst (λ (r : Request). IsFinishedNow v r.commit) (sym is) f.founded; home = f.home; pinned = subst (λ (r : Request). IsPinned lane b' r.commit) (sym is) (pinned_on lane b b' keeps.pins s.request.commit f.pinned) } in
    subst (λ u. Facts lane (command.Read n) u b') (sym same) on
facts_next actor lane (command.Read s) (command.Make m) v w b b' stood f (same, is) keeps own =
    let on : Facts lane (command.Make m) v b' = record { known = begins_to_make lane s.request m v b' is f.home; founded = subst (λ (r : Request). IsFinishedNow v r.commit) (sym is.request) f.founded; home = f.home; pinned = subst (λ (r : Request). IsPinned lane b' r.commit) (sym is.request) (pinned_on lane b b' keeps.pins s.request.commit f.pinned) } in
    subst (λ u. Facts lane (command.Make m) u b') (sym same) on
facts_next actor lane (command.Read s) (command.Look x) v w b b' stood f goes keeps own = absurd goes
facts_next actor lane (command.Read s) (command.Ended x) v w b b' stood f goes keeps own = absurd goes
facts_next actor lane (command.Make m) (command.Make n) v w b b' stood f makes keeps own = make_next lane m n v w b b' f.known makes f.founded f.home f.pinned keeps own
facts_next actor lane (command.Make m) (command.Look x) v w b b' stood f goes keeps own = absurd goes
facts_next actor lane (command.Make m) (command.Read x) v w b b' stood f goes keeps own = absurd goes
facts_next actor lane (command.Make m) (command.Ended x) v w b b' stood f goes keeps own = absurd goes
facts_next actor lane (command.Ended a) new v w b b' stood f goes keeps own = absurd f.known

-- ---- who makes a folder finds nothing there, and leaves it

made_there : (x : StepResult Answer) (j : Made) (n : Make) (w : View) → IsMadeBy x j → IsFar j n.task w.now → shows w.now n.task.into ≢ Vacant
made_there turn.More j n w is far = (subst (λ k. IsFar k n.task w.now) is far).1
made_there (turn.Done (Ok a)) j n w is far = (subst (λ k. IsFar k n.task w.now) is far).1
made_there (turn.Done (Err e)) j n w is far = absurd is

was_vacant : (x : StepResult Answer) (j : Made) (into : Path) (tree : Nodes) (v w : View) → IsMadeBy x j → task.Tells (beginning into tree) v w x → shows v.now into ≡ Vacant
was_vacant turn.More j into tree v w is tells = tells
was_vacant (turn.Done (Ok a)) j into tree v w is tells = tells
was_vacant (turn.Done (Err e)) j into tree v w is tells = absurd is

folder_claimed : (k : Made) (lane : ℕ) (m n : Make) (v w : View) (b : Books) (name : Name) → k ≡ m.made → make_kind k m.request.name ≡ Claim name → Making lane m v b → Makes m n v w → (shows v.now (checkout_path name) ≡ Vacant) × (shows w.now (checkout_path name) ≢ Vacant)
folder_claimed made.Nothing lane m n v w b name is kind making makes =
    let named : m.request.name ≡ name = cc in
    let at : m.task.into ≡ checkout_path name = making.needs.at ∙ ap checkout_path named in
    let far = subst (λ j. IsFar j m.task v.now) (sym is) making.needs.far in
    let next = needs_next m n v w making.map making.placed.shape making.needs makes in
    let into : n.task.into ≡ checkout_path name = (same_task m n v w making.needs makes).0 ∙ at in (
      subst (λ q. shows v.now q ≡ Vacant) at (was_vacant makes.turn n.made m.task.into m.task.tree v w makes.made (subst (λ (t : Checkout). task.Tells t v w makes.turn) far makes.tells)),
      subst (λ q. shows w.now q ≢ Vacant) into (made_there makes.turn n.made n w makes.made next.far),
    )
folder_claimed made.Part lane m n v w b name is kind making makes = let no : Quiet ≡ Claim name = kind in cc
folder_claimed made.All lane m n v w b name is kind making makes = let no : Quiet ≡ Claim name = kind in cc

pub claims_of : (lane : ℕ) (t new : CheckoutCommand) (v w : View) (b : Books) (name : Name) → checkout_kind t ≡ Claim name → Facts lane t v b → Goes t new v w → (shows v.now (checkout_path name) ≡ Vacant) × (shows w.now (checkout_path name) ≢ Vacant)
claims_of lane (command.Look r) new v w b name kind f goes = let no : Take (pin_wants r.commit) ≡ Claim name = kind in cc
claims_of lane (command.Read s) new v w b name kind f goes = let no : Quiet ≡ Claim name = kind in cc
claims_of lane (command.Make m) (command.Make n) v w b name kind f makes = folder_claimed m.made lane m n v w b name refl kind f.known makes
claims_of lane (command.Make m) (command.Look x) v w b name kind f goes = absurd goes
claims_of lane (command.Make m) (command.Read x) v w b name kind f goes = absurd goes
claims_of lane (command.Make m) (command.Ended x) v w b name kind f goes = absurd goes
claims_of lane (command.Ended a) new v w b name kind f goes = absurd f.known
