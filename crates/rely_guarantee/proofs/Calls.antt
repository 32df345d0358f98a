-- What single calls owe: each kind of call once, for the tasks of all commands.
use Rattle.std.proofs.Common.{◌≡◌, ◌≢◌, ◌⊎◌, inl, inr, ⊎_elim, ℕ, refl, sym, ◌∙◌, ap, subst, List, [], ◌∷◌, ◌++◌, Option, Some, None}
use Rattle.ost_types.specs.declared.meta.Meta.{Meta}
use Rattle.ost_types.specs.Path.{Name, Path, IsPath, under}
use Rattle.fs_trait.specs.declared.types.Value.TheVariants.{File}
use Rattle.fs_trait.specs.View.{View}
use Rattle.fs_trait.specs.Image.{Holds}
use Rattle.fs_trait.specs.Effect.{IsFresh}
use Rattle.fs_trait.specs.Seen.{Seen, Vacant, Directory, Symlink, Leaf, shows, MayBe, IsDirectory, NotDirectory, bytes_in}
use Rattle.fs_trait.specs.Change.{Nothing}
use Rattle.repo_layout.specs.RefName.{IsRefName}
use Rattle.repo_layout.specs.RefFile.{IsSum, ref_text}
use Rattle.repo_layout.specs.BootPaths.{checkout_path}
use Rattle.repo_layout.specs.Paths.{ref_path}
use Rattle.repo_layout.specs.Place.{Checkout, Mark, Object, Stage, Ref, place}
use Rattle.repo_layout.proofs.Places.{place-checkout, place-ref, ref_path-injective}
use Rattle.layout_rules.specs.InLayout.{InLayout}
use Rattle.layout_rules.proofs.RulePlaces.{no_checkout, no_ref, no_stage}
use Rattle.boot_model.specs.declared.item.DepId.{DepId}
use Rattle.rely_guarantee.specs.declared.event.Event.TheVariants.{SetRef, DropRef}
use Rattle.rely_guarantee.specs.State.{Topic, RefOf, Said}
use Rattle.rely_guarantee.specs.Disks.{path_of, IsLeaf, Says}
use Rattle.rely_guarantee.specs.Books.{Books, Free, IsClaimed}
use Rattle.rely_guarantee.specs.Rely.{Guarantee, may_at, NotOthers, OwnTree, HasNoRefs}
use Rattle.rely_guarantee.specs.SystemInvariant.{PublishedBy, Leads}
use Rattle.rely_guarantee.specs.Change.{Still, Shows, Final}
use Rattle.rely_guarantee.proofs.States.{says_vacant}

-- a staging path is no ref's
pub stage_no_ref : (t : Topic) (p : Path) (a : ℕ) → place p ≡ Stage a → path_of t ≡ p → ⊥
stage_no_ref (RefOf name) p a at e = let k : Ref name ≡ Stage a = sym (place-ref name) ∙ ap place e ∙ at in cc

-- A sync, or no call.
pub sync_still : (v : View) → Still Nothing v
sync_still v t s wrote = absurd wrote

-- no rule of the layout is for a staging path, or for a ref's
pub stage_fits : (actor : ℕ) (p : Path) (s : Seen) → place p ≡ Stage actor → (s ≢ Vacant → IsPath p) → InLayout p s
stage_fits actor p s at bounds = record { suits = λ rule is. absurd (no_stage rule p actor is at); bounds = bounds }

pub ref_fits : (name : List ℕ) (p : Path) (s : Seen) → place p ≡ Ref name → (s ≢ Vacant → IsPath p) → InLayout p s
ref_fits name p s at bounds = record { suits = λ rule is. absurd (no_ref rule p name is at); bounds = bounds }

-- A write at the actor's own staging path.
pub stage_within : (b : Books) (v : View) (actor lane : ℕ) (p : Path) (s : Seen) → place p ≡ Stage actor → (s ≢ Vacant → IsPath p)
    → ((n : ℕ) (m : Meta) (bytes : List ℕ) → s ≡ Leaf n m bytes → IsFresh n v ⊎ ((q : Path) × Holds v q (File n) × NotOthers actor (place q))) → Guarantee b v actor lane p s
stage_within b v actor lane p s at bounds comes = record {
  at = subst (λ x. may_at b actor lane x s) (sym at) refl;
  fits = stage_fits actor p s at bounds;
  objects = λ kind sum e. (let k : Stage actor ≡ Object kind sum = sym at ∙ e in cc);
  marks = λ c e there. (let k : Stage actor ≡ Mark c = sym at ∙ e in cc);
  checkouts = λ name e. (let k : Stage actor ≡ Checkout name [] = sym at ∙ e in cc);
  comes = comes;
  folders = inr (inr (inl (subst (OwnTree actor) (sym at) refl)));
}

pub own_file : (v : View) (actor : ℕ) (q : Path) (n : ℕ) → place q ≡ Stage actor → v.now.at q ≡ File n → (r : Path) × Holds v r (File n) × NotOthers actor (place r)
own_file v actor q n at is = (q, inl (sym is), λ a e. let k : Stage actor ≡ Stage a = sym at ∙ e in cc)

-- Whatever is written at staging paths alone changes nothing that the state speaks of.
pub stage_still : (W : Path → Seen → Type 0) (v : View) (actor : ℕ) → ((p : Path) (s : Seen) → W p s → place p ≡ Stage actor) → Still W v
stage_still W v actor at t s wrote = absurd (stage_no_ref t (path_of t) actor (at (path_of t) s wrote) refl)

-- A write at a ref's path, or at a folder above refs, under the ref lock.
pub ref_within : (b : Books) (v : View) (actor lane : ℕ) (name : List ℕ) (p : Path) (s : Seen) → p ≡ ref_path name → Free b.turn lane → Free b.exclusive lane → (s ≢ Vacant → IsPath (ref_path name))
    → ((n : ℕ) (m : Meta) (bytes : List ℕ) → s ≡ Leaf n m bytes → IsFresh n v ⊎ ((q : Path) × Holds v q (File n) × NotOthers actor (place q)))
    → IsDirectory s ⊎ NotDirectory (shows v.now p) ⊎ HasNoRefs v p → Guarantee b v actor lane p s
ref_within b v actor lane name p s e turn alone bounds comes folders = record {
  at = subst (λ x. may_at b actor lane x s) (sym (ap place e ∙ place-ref name)) (turn, alone);
  fits = ref_fits name p s (ap place e ∙ place-ref name) (λ there. subst IsPath (sym e) (bounds there));
  objects = λ kind sum k. (let n : Ref name ≡ Object kind sum = sym (ap place e ∙ place-ref name) ∙ k in cc);
  marks = λ c k there. (let n : Ref name ≡ Mark c = sym (ap place e ∙ place-ref name) ∙ k in cc);
  checkouts = λ x k. (let n : Ref name ≡ Checkout x [] = sym (ap place e ∙ place-ref name) ∙ k in cc);
  comes = comes;
  folders = ⊎_elim (λ k. inl k) (λ rest. ⊎_elim (λ k. inr (inl k)) (λ k. inr (inr (inr (inr k)))) rest) folders;
}

no_leaf : (s : Seen) → IsDirectory s → IsLeaf s → ⊥
no_leaf (Directory m) is leaf = leaf
no_leaf Vacant is leaf = is
no_leaf (Symlink m t) is leaf = is
no_leaf (Leaf n m b) is leaf = is

-- a folder, or nothing, in the place of a folder or of nothing
pub folder_still : (W : Path → Seen → Type 0) (v : View) → ((p : Path) (s : Seen) → W p s → ((s ≡ Vacant) ⊎ IsDirectory s) × ((shows v.now p ≡ Vacant) ⊎ IsDirectory (shows v.now p))) → Still W v
folder_still W v shape (RefOf name) s wrote =
    let k = shape (ref_path name) s wrote in
    let none : (x : Seen) → (x ≡ Vacant) ⊎ IsDirectory x → Says (RefOf name) None x = (λ x is. ⊎_elim (λ e. subst (λ y. Says (RefOf name) None y) (sym e) (says_vacant (RefOf name))) (λ d. no_leaf x d) is) in
    (none s k.0, none (shows v.now (ref_path name)) k.1)

-- what is so of the topic that an event changes
at_ref : (name : List ℕ) (t : Topic) (P : Topic → Type 0) → Some (RefOf name) ≡ Some t → P (RefOf name) → P t
at_ref name t P at is = let e : RefOf name ≡ t = cc in subst P e is

said_at : (name : List ℕ) (t : Topic) (said : Said) (v : View) → Some (RefOf name) ≡ Some t → Says (RefOf name) said (shows v.now (ref_path name)) → Says t said (shows v.now (path_of t))
said_at name t said v at is = at_ref name t (λ r. Says r said (shows v.now (path_of r))) at is

-- The rename of a ref's staged file to its path.
pub set_shows : (ids : List DepId) (W : Path → Seen → Type 0) (v : View) (actor : ℕ) (name commit : List ℕ) (seen : Option (List ℕ))
    → ((p : Path) (s : Seen) → W p s → (place p ≡ Stage actor) ⊎ ((p ≡ ref_path name) × (bytes_in s ≡ Some (ref_text commit))))
    → IsRefName name → IsSum commit → Says (RefOf name) seen (shows v.now (ref_path name)) → Shows ids W v (SetRef name seen commit)
set_shows ids W v actor name commit seen lies is sum was = record {
  writes = writes;
  valid = (is, sum);
  was = λ t at. said_at name t seen v at was;
  roots = λ s shown same. tt;
  list = tt;
}
  where
    writes : (t : Topic) (s : Seen) → W (path_of t) s → PublishedBy (SetRef name seen commit) t s
    writes (RefOf n) s wrote = ⊎_elim
        (λ at. absurd (stage_no_ref (RefOf n) (ref_path n) actor at refl))
        (λ k. (ap (λ x. Some (RefOf x)) (sym (ref_path-injective n name k.0)), (sum, k.1)))
        (lies (ref_path n) s wrote)

-- The unlink of a ref's file.
pub drop_shows : (ids : List DepId) (W : Path → Seen → Type 0) (v : View) (name seen : List ℕ) → ((p : Path) (s : Seen) → W p s → (p ≡ ref_path name) × (s ≡ Vacant))
    → IsRefName name → Says (RefOf name) (Some seen) (shows v.now (ref_path name)) → Shows ids W v (DropRef name seen)
drop_shows ids W v name seen lies is was = record { writes = writes; valid = is; was = λ t at. said_at name t (Some seen) v at was; roots = λ s shown same. tt; list = tt }
  where
    writes : (t : Topic) (s : Seen) → W (path_of t) s → PublishedBy (DropRef name seen) t s
    writes (RefOf n) s wrote =
        let k = lies (ref_path n) s wrote in
        (ap (λ x. Some (RefOf x)) (sym (ref_path-injective n name k.0)), subst (λ y. Says (RefOf n) None y) (sym k.1) (says_vacant (RefOf n)))

-- The sync that makes it durable.
pub set_final : (w : View) (name commit : List ℕ) (seen : Option (List ℕ)) → IsSum commit → ((s : Seen) → MayBe w (ref_path name) s → bytes_in s ≡ Some (ref_text commit))
    → ((f : Path) (x : List ℕ) → ref_path name ≡ under f x → Leads w f) → Final (SetRef name seen commit) w
set_final w name commit seen sum only leads = record {
  only = λ t at s may. at_ref name t (λ r. MayBe w (path_of r) s → Says r (Some commit) s) at (λ m. (sum, only s m)) may;
  leads = λ t c at is f x. at_ref name t (λ r. path_of r ≡ under f x → Leads w f) at (leads f x);
}

pub drop_final : (w : View) (name seen : List ℕ) → ((s : Seen) → MayBe w (ref_path name) s → IsLeaf s → ⊥) → Final (DropRef name seen) w
drop_final w name seen only = record {
  only = λ t at s may. at_ref name t (λ r. MayBe w (path_of r) s → Says r None s) at (only s) may;
  leads = λ t c at is. absurd (let z : None ≡ Some c = is in cc);
}

-- No rule of the layout is for a path in a checkout.
pub checkout_fits : (name : Name) (rest p : Path) (s : Seen) → place p ≡ Checkout name rest → (s ≢ Vacant → IsPath p) → InLayout p s
checkout_fits name rest p s at bounds = record { suits = λ rule is. absurd (no_checkout rule p name rest is at); bounds = bounds }

-- The folder of a checkout, where nothing stands.
pub folder_within : (b : Books) (v : View) (actor lane : ℕ) (name : Name) (p : Path) (s : Seen) → p ≡ checkout_path name → IsPath p → IsDirectory s → shows v.now p ≡ Vacant → Guarantee b v actor lane p s
folder_within b v actor lane name p s e bounds is vacant =
    let at : place p ≡ Checkout name [] = ap place e ∙ place-checkout name [] in
    record {
      at = subst (λ x. may_at b actor lane x s) (sym at) is;
      fits = checkout_fits name [] p s at (λ there. bounds);
      objects = λ kind sum k. (let n : Checkout name [] ≡ Object kind sum = sym at ∙ k in cc);
      marks = λ c k there. (let n : Checkout name [] ≡ Mark c = sym at ∙ k in cc);
      checkouts = λ x k. vacant;
      comes = λ n m bytes k. absurd (let bad : IsDirectory (Leaf n m bytes) = subst IsDirectory k is in bad);
      folders = inl is;
    }

-- A write in the folder of a checkout that is the lane's.
pub checkout_within : (b : Books) (v : View) (actor lane : ℕ) (name x : Name) (rest p : Path) (s : Seen) → p ≡ checkout_path name ++ x ∷ rest → IsClaimed name lane b → (s ≢ Vacant → IsPath p)
    → ((n : ℕ) (m : Meta) (bytes : List ℕ) → s ≡ Leaf n m bytes → IsFresh n v ⊎ ((q : Path) × Holds v q (File n) × NotOthers actor (place q)))
    → IsDirectory s ⊎ NotDirectory (shows v.now p) → Guarantee b v actor lane p s
checkout_within b v actor lane name x rest p s e claimed bounds comes folders =
    let at : place p ≡ Checkout name (x ∷ rest) = ap place e ∙ place-checkout name (x ∷ rest) in
    record {
      at = subst (λ y. may_at b actor lane y s) (sym at) claimed.mine;
      fits = checkout_fits name (x ∷ rest) p s at bounds;
      objects = λ kind sum k. (let n : Checkout name (x ∷ rest) ≡ Object kind sum = sym at ∙ k in cc);
      marks = λ c k there. (let n : Checkout name (x ∷ rest) ≡ Mark c = sym at ∙ k in cc);
      checkouts = λ y k. absurd (let n : Checkout name (x ∷ rest) ≡ Checkout y [] = sym at ∙ k in cc);
      comes = comes;
      folders = ⊎_elim (λ k. inl k) (λ k. inr (inl k)) folders;
    }

-- Whatever is written in checkouts alone changes nothing that the state speaks of.
pub checkout_still : (W : Path → Seen → Type 0) (v : View) → ((p : Path) (s : Seen) → W p s → (name : Name) × (rest : Path) × (place p ≡ Checkout name rest)) → Still W v
checkout_still W v at (RefOf name) s wrote = absurd (let k = at (ref_path name) s wrote in let n : Ref name ≡ Checkout k.0 k.1 = sym (place-ref name) ∙ k.2 in cc)
