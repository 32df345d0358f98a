-- The state after events.
use Rattle.std.proofs.Common.{◌≡◌, ◌+◌, ◌<◌, ◌≤◌, ℕ, suc, Bool, true, false, refl, sym, ◌∙◌, ap, subst, arith, List, [], ◌∷◌, ◌++◌, length, nat_le, Option, Some, None, if◌then◌else◌, get_or, take, codes}
use Rattle.std.proofs.lemmas.Bool.Decides.{nat_tests}
use Rattle.std.proofs.Math.Seq.{take-append_seam, take-suc}
use Rattle.ost_types.proofs.Paths.{same_name-Decides}
use Rattle.ost_types.specs.Csum.{hex_of}
use Rattle.ost_types.proofs.HexSums.{IsHexSum-hex_of}
use Rattle.ost_types.specs.Path.{Path}
use Rattle.fs_trait.specs.Seen.{Seen, Vacant, Directory, Symlink, Leaf, bytes_in}
use Rattle.repo_layout.specs.RefName.{IsRefName}
use Rattle.repo_layout.specs.RefFile.{IsSum, ref_text}
use Rattle.repo_layout.specs.Paths.{in_repo, mark_path}
use Rattle.repo_layout.proofs.Places.{mark_path-injective}
use Rattle.rely_guarantee.specs.declared.books.Entry.{Entry}
use Rattle.rely_guarantee.specs.declared.event.Event.{Event}
use Rattle.rely_guarantee.specs.declared.event.Event.TheVariants.{SetRef, DropRef, Pruned, SetDeployments}
use Rattle.rely_guarantee.specs.State.{Topic, RefOf, Said, State, same_topic, is_topic, target, gives, IsValid, next, Applies, after, IsRun, IsNamed, events_of, acked, Ascends, SystemState, list_in, next_list, next_refs}
use Rattle.rely_guarantee.specs.Disks.{IsLeaf, Says}

pub topic_same : (a b : Topic) → same_topic a b ≡ true → a ≡ b
topic_same (RefOf a) (RefOf b) e = ap RefOf ((same_name-Decides a b).0 e)

pub topic_self : (a : Topic) → same_topic a a ≡ true
topic_self (RefOf a) = (same_name-Decides a a).1 refl

pub topic_not : (a b : Topic) → same_topic a b ≡ false → a ≡ b → ⊥
topic_not a b f e = let z : true ≡ false = sym (topic_self a) ∙ ap (same_topic a) e ∙ f in cc

pub topic_is : (o : Option Topic) (t : Topic) → is_topic o t ≡ true → o ≡ Some t
topic_is None t e = let z : false ≡ true = e in cc
topic_is (Some x) t e = ap Some (sym (topic_same t x e))

pub topic_none : (o : Option Topic) (t : Topic) → is_topic o t ≡ false → o ≡ Some t → ⊥
topic_none o t f e = let k : same_topic t t ≡ false = subst (λ (x : Option Topic). is_topic x t ≡ false) e f in topic_not t t k refl

pub next_here : (e : Event) (t : Topic) (s : State) → is_topic (target e) t ≡ true → next_refs e s t ≡ gives e
next_here e t s is = rw is refl

pub next_apart : (e : Event) (t : Topic) (s : State) → is_topic (target e) t ≡ false → next_refs e s t ≡ s t
next_apart e t s is = rw is refl

pub after_push : (es : List Event) (e : Event) (s : SystemState) → after (es ++ e ∷ []) s ≡ next e (after es s)
after_push [] e s = refl
after_push (x ∷ es) e s = after_push es e (next x s)

pub run_push : (es : List Event) (e : Event) (s : SystemState) → IsRun es s → Applies e (after es s) → IsRun (es ++ e ∷ []) s
run_push [] e s run one = (one, tt)
run_push (x ∷ es) e s run one = (run.0, run_push es e (next x s) run.1 one)

pub run_front : (es more : List Event) (s : SystemState) → IsRun (es ++ more) s → IsRun es s
run_front [] more s run = tt
run_front (x ∷ es) more s run = (run.0, run_front es more (next x s) run.1)

pub events_push : (es : List Entry) (e : Entry) → events_of (es ++ e ∷ []) ≡ events_of es ++ e.event ∷ []
events_push [] e = refl
events_push (x ∷ es) e = ap (λ (l : List Event). x.event ∷ l) (events_push es e)

-- which deployments boot behind one more
pub list_push : (es : List Entry) (e : Entry) (s : SystemState) → (after (events_of (es ++ e ∷ [])) s).deployments ≡ next_list (list_in e.event) (after (events_of es) s).deployments
list_push es e s = ap (λ (l : List Event). (after l s).deployments) (events_push es e) ∙ ap (λ (x : SystemState). x.deployments) (after_push (events_of es) e.event s)

next_count : (i : ℕ) → i + 1 ≡ suc i
next_count i = omega arith

-- behind the first so many and one more
pub list_item : (i : ℕ) (es : List Entry) (e : Entry) (s : SystemState) → i < length es → e ≡ get_or es i e → (after (events_of (take (i + 1) es)) s).deployments ≡ next_list (list_in e.event) (after (events_of (take i es)) s).deployments
list_item i es e s less is =
    let more : take (i + 1) es ≡ take i es ++ e ∷ [] = ap (λ n. take n es) (next_count i) ∙ take-suc es i e less ∙ ap (λ z. take i es ++ z ∷ []) (sym is) in
    ap (λ (l : List Entry). (after (events_of l) s).deployments) more ∙ list_push (take i es) e s

pub length-events : (es : List Entry) → length (events_of es) ≡ length es
length-events [] = refl
length-events (x ∷ es) = ap suc (length-events es)

pub acked_few : (t : ℕ) (es : List Entry) → acked t es ≤ length es
acked_few t [] = omega arith
acked_few t (x ∷ es) = let h = acked_few t es in grind (arith, nat_tests, h)

pub acked_late : (t : ℕ) (es : List Entry) (e : Entry) → t < e.moment → acked t (es ++ e ∷ []) ≡ acked t es
acked_late t [] e late = grind (arith, nat_tests)
acked_late t (x ∷ es) e late = ap (λ (n : ℕ). (if nat_le x.moment t then 1 else 0) + n) (acked_late t es e late)

-- the moments
pub ascends_later : (from : ℕ) (es : List Entry) (to later : ℕ) → Ascends from es to → to ≤ later → Ascends from es later
ascends_later from [] to later a le = let a : from ≤ to = a in omega (arith, a, le)
ascends_later from (e ∷ es) to later a le = (a.0, ascends_later e.moment es to later a.1 le)

pub ascends_push : (from : ℕ) (es : List Entry) (e : Entry) → Ascends from es e.moment → Ascends from (es ++ e ∷ []) e.moment
ascends_push from [] e a = (a, omega arith)
ascends_push from (x ∷ es) e a = (a.0, ascends_push x.moment es e a.1)

-- only names of refs have values
event_named : (e : Event) (name commit : List ℕ) → IsValid e → target e ≡ Some (RefOf name) → gives e ≡ Some commit → IsRefName name
event_named (SetRef n seen c) name commit valid at is = let e : Some (RefOf n) ≡ Some (RefOf name) = at in let k : n ≡ name = cc in subst IsRefName k valid.0
event_named (DropRef n seen) name commit valid at is = let e : None ≡ Some commit = is in cc
event_named (Pruned depth roots held removed) name commit valid at is = let e : None ≡ Some commit = is in cc
event_named (SetDeployments change list) name commit valid at is = let e : None ≡ Some commit = is in cc

next_named : (e : Event) (s : SystemState) → Applies e s → IsNamed s.refs → IsNamed (next e s).refs
next_named e s one was name commit is = by (is_topic (target e) (RefOf name)) refl
  where
    by : (b : Bool) → is_topic (target e) (RefOf name) ≡ b → IsRefName name
    by true at = event_named e name commit one.valid (topic_is (target e) (RefOf name) at) (sym (next_here e (RefOf name) s.refs at) ∙ is)
    by false at = was name commit (sym (next_apart e (RefOf name) s.refs at) ∙ is)

pub after_named : (es : List Event) (s : SystemState) → IsRun es s → IsNamed s.refs → IsNamed (after es s).refs
after_named [] s run was = was
after_named (e ∷ es) s run was = after_named es (next e s) run.1 (next_named e s run.0 was)

-- a ref's file says one commit
digits : (c : List ℕ) → IsSum c → length (hex_of c) ≡ 64
digits c is = (IsHexSum-hex_of c is.whole is.bytes).whole

front : (h : List ℕ) → length h ≡ 64 → take 64 (h ++ 10 ∷ []) ≡ h
front h e = ap (λ k. take k (h ++ 10 ∷ [])) (sym e) ∙ take-append_seam h (10 ∷ [])

mark_of : List ℕ → Path
mark_of h = in_repo (codes "state" ∷ (h ++ codes ".commitpartial") ∷ [])

texts_one : (a b : List ℕ) → IsSum a → IsSum b → ref_text a ≡ ref_text b → a ≡ b
unfolding mark_of mark_path
texts_one a b is also e =
    let h : hex_of a ≡ hex_of b = sym (front (hex_of a) (digits a is)) ∙ ap (take 64) e ∙ front (hex_of b) (digits b also) in
    mark_path-injective a b is also (ap mark_of h)

leaf_bytes : (s : Seen) (b : List ℕ) → bytes_in s ≡ Some b → IsLeaf s
leaf_bytes (Leaf n m c) b e = tt
leaf_bytes Vacant b e = let z : None ≡ Some b = e in cc
leaf_bytes (Directory m) b e = let z : None ≡ Some b = e in cc
leaf_bytes (Symlink m t) b e = tt

pub says_leaf : (name c : List ℕ) (s : Seen) → Says (RefOf name) (Some c) s → IsLeaf s
says_leaf name c s is = leaf_bytes s (ref_text c) is.1

pub says_vacant : (t : Topic) → Says t None Vacant
says_vacant (RefOf name) = λ bad. bad

pub says_one : (t : Topic) (a b : Said) (s : Seen) → Says t a s → Says t b s → a ≡ b
says_one (RefOf name) None None s x y = refl
says_one (RefOf name) None (Some b) s x y = absurd (x (says_leaf name b s y))
says_one (RefOf name) (Some a) None s x y = absurd (y (says_leaf name a s x))
says_one (RefOf name) (Some a) (Some b) s x y = ap Some (texts_one a b x.0 y.0 (let e : Some (ref_text a) ≡ Some (ref_text b) = sym x.1 ∙ y.1 in cc))
