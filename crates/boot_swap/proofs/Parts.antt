-- What the tasks that make folders and links keep, and what they leave once they are done.
use Rattle.std.proofs.Common.{◌≡◌, ◌≢◌, inl, inr, ℕ, ◌+◌, Bool, true, false, List, [], length, refl, sym, ◌∙◌, ap, subst, if◌then◌else◌, Ok}
use Rattle.std.specs.Prelude.{nat_lt}
use Rattle.ost_types.specs.Path.{Name, Path, is_below, under}
use Rattle.ost_types.proofs.Paths.{is_below-self, under-folder, under-is_in}
use Rattle.fs_trait.specs.declared.task.StepResult.{StepResult}
use Rattle.fs_trait.specs.declared.task.StepResult.TheVariants.{More, Done}
use Rattle.fs_trait.specs.View.{Disk, View}
use Rattle.fs_trait.specs.Seen.{Seen, shows, IsDirectory}
use Rattle.checkout.proofs.RemoveRuns.{needs_begun}
use Rattle.folder_build.specs.declared.node.NewNode.{NewNode}
use Rattle.folder_build.specs.declared.phase.Phase.{Phase}
use Rattle.folder_build.specs.declared.phase.Phase.TheVariants as phase
use Rattle.folder_build.specs.declared.link.LinkPhase.{LinkPhase}
use Rattle.folder_build.specs.declared.link.LinkPhase.TheVariants as put
use Rattle.folder_build.specs.Node.{IsBuilt}
use Rattle.folder_build.specs.Build as build
use Rattle.folder_build.specs.Build.{Building}
use Rattle.folder_build.specs.Steps as building
use Rattle.folder_build.specs.Steps.{HasHome}
use Rattle.folder_build.specs.Link as link
use Rattle.folder_build.specs.Link.{Linking}
use Rattle.folder_build.specs.LinkSteps as linking
use Rattle.folder_build.specs.LinkSteps.{IsTheLink}

-- ---- a folder

pub build_same : (b e : Building) (turn : StepResult (Unit {0})) → build.IsStepped b (Ok turn) e → (e.top ≡ b.top) × (e.nodes ≡ b.nodes)
build_same b e turn stepped = by b.phase turn stepped
  where
    like : (c : Phase) → e ≡ record b { phase = c } → (e.top ≡ b.top) × (e.nodes ≡ b.nodes)
    like c is = (ap (λ (x : Building). x.top) is, ap (λ (x : Building). x.nodes) is)

    by : (ph : Phase) (turn : StepResult (Unit {0})) → build.steps_in ph b turn e → (e.top ≡ b.top) × (e.nodes ≡ b.nodes)
    by (phase.Clear c) More (inl a) = like (phase.Clear a.0) a.1
    by (phase.Clear c) More (inr a) = like (phase.Make 0) a
    by (phase.Clear c) (Done x) none = absurd none
    by (phase.Make n) turn (inl a) = like _ a.1
    by (phase.Make n) turn (inr a) = like (phase.Write n) a.1
    by (phase.Write n) turn a = like _ a.1
    by phase.Ended turn a = (ap (λ (x : Building). x.top) a.1, ap (λ (x : Building). x.nodes) a.1)

ends_if : (b : Bool) (ph : Phase) (x : Unit {0}) → Done x ≡ (if b then More else Done tt) → (if b then ph else phase.Ended) ≡ phase.Ended
ends_if true ph x e = let n : Done x ≡ More = e in cc
ends_if false ph x e = refl

pub build_done : (b e : Building) (x : Unit {0}) → build.IsStepped b (Ok (Done x)) e → e.phase ≡ phase.Ended
build_done b e x stepped = by b.phase refl stepped
  where
    reached : (n : ℕ) → Done x ≡ build.reached_turn n b → e ≡ build.reached n b → e.phase ≡ phase.Ended
    reached n last is = ap (λ (y : Building). y.phase) is ∙ ends_if (nat_lt (n + 1) (length b.nodes)) (phase.Make (n + 1)) x last

    by : (ph : Phase) → b.phase ≡ ph → build.steps_in ph b (Done x) e → e.phase ≡ phase.Ended
    by (phase.Clear c) is none = absurd none
    by (phase.Make n) is (inl a) = reached n a.0 a.1
    by (phase.Make n) is (inr a) = let n : Done x ≡ More = a.0 in cc
    by (phase.Write n) is a = reached n a.0 a.1
    by phase.Ended is a = ap (λ (y : Building). y.phase) a.1 ∙ is

-- the folder is as its nodes
pub built : (b e : Building) (x : Unit {0}) (w : View) → build.IsStepped b (Ok (Done x)) e → building.Needs e w → IsBuilt w.now e.top e.nodes
built b e x w stepped needs = subst (λ ph. building.needs_in ph e w) (build_done b e x stepped) needs.meets

-- the only folder above a name
home_of : (d : Disk) (f : Path) (x : Name) → IsDirectory (shows d f) → HasHome (under f x) d
home_of d f x there p in_ = let y = under-is_in p (under f x) in_ in subst (λ q. IsDirectory (shows d q)) (under-folder f p x y.0 y.1) there

pub build_begins : (b : Building) (top f : Path) (x : Name) (nodes : List NewNode) (v : View) → b ≡ build.begun top nodes → build.IsMade b → top ≡ under f x → top ≢ [] → IsDirectory (shows v.now f) → building.Needs b v
build_begins b top f x nodes v is made place root there = record {
  made = made;
  home = subst (λ q. HasHome q v.now) (sym (ap (λ (y : Building). y.top) is ∙ place)) (home_of v.now f x there);
  meets = subst (λ (y : Building). building.needs_in y.phase y v) (sym is) (needs_begun top v root);
}

-- ---- a link

pub link_same : (l k : Linking) (turn : StepResult (Unit {0})) → link.IsStepped l (Ok turn) k → (k.stage ≡ l.stage) × (k.at ≡ l.at) × (k.target ≡ l.target)
link_same l k turn stepped = by l.phase turn stepped
  where
    like : (c : LinkPhase) → k ≡ record l { phase = c } → (k.stage ≡ l.stage) × (k.at ≡ l.at) × (k.target ≡ l.target)
    like c is = (ap (λ (x : Linking). x.stage) is, ap (λ (x : Linking). x.at) is, ap (λ (x : Linking). x.target) is)

    by : (ph : LinkPhase) (turn : StepResult (Unit {0})) → link.steps_in ph l turn k → (k.stage ≡ l.stage) × (k.at ≡ l.at) × (k.target ≡ l.target)
    by (put.Clear c) More (inl a) = like (put.Clear a.0) a.1
    by (put.Clear c) More (inr a) = like put.Make a
    by (put.Clear c) (Done x) none = absurd none
    by put.Make turn a = like put.Replace a.1
    by put.Replace turn a = like put.Ended a.1
    by put.Ended turn a = (ap (λ (x : Linking). x.stage) a.1, ap (λ (x : Linking). x.at) a.1, ap (λ (x : Linking). x.target) a.1)

pub link_done : (l k : Linking) (x : Unit {0}) → link.IsStepped l (Ok (Done x)) k → k.phase ≡ put.Ended
link_done l k x stepped = by l.phase refl stepped
  where
    by : (ph : LinkPhase) → l.phase ≡ ph → link.steps_in ph l (Done x) k → k.phase ≡ put.Ended
    by (put.Clear c) is none = absurd none
    by put.Make is a = let n : Done x ≡ More = a.0 in cc
    by put.Replace is a = ap (λ (y : Linking). y.phase) a.1
    by put.Ended is a = ap (λ (y : Linking). y.phase) a.1 ∙ is

-- the link is at its path
pub is_put : (l k : Linking) (x : Unit {0}) (w : View) → link.IsStepped l (Ok (Done x)) k → linking.Needs k w → IsTheLink k.target (shows w.now k.at)
is_put l k x w stepped needs = subst (λ ph. linking.needs_in ph k w) (link_done l k x stepped) needs.meets

-- a step behind which there is more to do writes nothing there
pub more_lies : (l k : Linking) (v : View) → link.IsMade l → link.IsStepped l (Ok More) k → (p : Path) (s : Seen) → linking.WritesOf l v p s → is_below l.stage p ≡ true
more_lies l k v made stepped p s write = by l.phase made.within stepped write
  where
    by : (ph : LinkPhase) → link.IsWithin ph l.stage → link.steps_in ph l More k → linking.writes_in ph l v p s → is_below l.stage p ≡ true
    by (put.Clear c) within a wrote = subst (λ q. is_below q p ≡ true) within wrote.0.below
    by put.Make within a wrote = subst (λ q. is_below l.stage q ≡ true) (sym wrote.0) (is_below-self l.stage)
    by put.Replace within a wrote = let n : More ≡ Done tt = a.0 in cc
    by put.Ended within a wrote = absurd wrote

pub link_begins : (l : Linking) (stage at f g : Path) (x y : Name) (target : List ℕ) (v : View) → l ≡ link.begun stage at target → link.IsMade l → stage ≡ under f x → at ≡ under g y → stage ≢ []
    → IsDirectory (shows v.now f) → IsDirectory (shows v.now g) → linking.Needs l v
link_begins l stage at f g x y target v is made one two root there here = record {
  made = made;
  home = subst (λ q. HasHome q v.now) (sym (ap (λ (z : Linking). z.stage) is ∙ one)) (home_of v.now f x there);
  folder = subst (λ q. HasHome q v.now) (sym (ap (λ (z : Linking). z.at) is ∙ two)) (home_of v.now g y here);
  meets = subst (λ (z : Linking). linking.needs_in z.phase z v) (sym is) (needs_begun stage v root);
}
