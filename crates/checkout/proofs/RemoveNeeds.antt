-- What the next step needs, once a step was done.
use Rattle.std.proofs.Common.{◌≡◌, ◌≢◌, ◌⊎◌, ⊎_elim, ℕ, ◌≤◌, ◌<◌, ◌+◌, ◌-◌, arith, true, refl, sym, ◌∙◌, ap, subst, List, [], ◌∷◌, length, reverse, Option, Some, None}
use Rattle.std.specs.Prelude.{Contains}
use Rattle.ost_types.specs.Path.{Name, Path, IsPath, is_below, under}
use Rattle.ost_types.proofs.Paths.{is_below-self, is_below-under}
use Rattle.fs_trait.specs.View.{Disk, View}
use Rattle.fs_trait.specs.Effect.{IsListing}
use Rattle.fs_trait.specs.Seen.{Vacant, shows, IsDirectory}
use Rattle.checkout.specs.declared.remove.phase.Phase.{Phase}
use Rattle.checkout.specs.declared.remove.phase.Phase.TheVariants.{Look, Inside, Ended}
use Rattle.checkout.specs.RemoveFolder as folder
use Rattle.checkout.specs.RemoveFolder.{Opened}
use Rattle.checkout.specs.Remove.{Removing, IsMade, IsChain, Looks, Closes, Ends, act, act_in, act_of, around, closed_to, entered, most, passed, passed_in}
use Rattle.checkout.specs.RemoveSteps.{AreOpen, Goes, IsEmpty, IsLeaf, Needs, goes_in, known_in}
use Rattle.checkout.proofs.RemoveChains.{shorter_on, length-under, chain_below, chain_length, chain_shorter, chain_same}
use Rattle.checkout.proofs.RemoveKnown.{Gone, all_kept, open_passed, open_around, open_new, open_closed, open_empty}

-- 1. the path that is looked at
looks_longer : (f : Path) (names : List Name) (p : Path) → act_of f names ≡ Looks p → length f < length p
looks_longer f [] p is = let n : Closes f ≡ Looks p = is in cc
looks_longer f (x ∷ names) p is =
    let here : under f x ≡ p = let n : Looks (under f x) ≡ Looks p = is in cc in
    let l : length p ≡ length f + 1 = ap length (sym here) ∙ length-under f x in
    omega (arith, l)

looks_below : (at f : Path) (names : List Name) (p : Path) → is_below at f ≡ true → act_of f names ≡ Looks p → is_below at p ≡ true
looks_below at f [] p below is = let n : Closes f ≡ Looks p = is in cc
looks_below at f (x ∷ names) p below is =
    let here : under f x ≡ p = let n : Looks (under f x) ≡ Looks p = is in cc in
    subst (λ q. is_below at q ≡ true) here (is_below-under at f x below)

at_looks : (at p : Path) → Looks at ≡ Looks p → at ≡ p
at_looks at p is = cc

act_below_in : (ph : Phase) (at : Path) (outer : List Opened) (room : ℕ) (p : Path) → IsMade (record { at = at; phase = ph; outer = outer; room = room }) → act_in ph at ≡ Looks p → is_below at p ≡ true
act_below_in Look at outer room p made is = subst (λ q. is_below at q ≡ true) (at_looks at p is) (is_below-self at)
act_below_in (Inside f) at outer room p made is = looks_below at f.path f.names p (chain_below at f outer made.chain) is
act_below_in Ended at outer room p made is = let n : Ends ≡ Looks p = is in cc

-- 2. nothing stands there any more
passed_made : (ph : Phase) (at : Path) (outer : List Opened) (room : ℕ) → IsMade (record { at = at; phase = ph; outer = outer; room = room }) → IsMade (record { at = at; phase = passed_in ph; outer = outer; room = room })
passed_made Look at outer room made = record { below_root = made.below_root; chain = tt; alone = made.alone; room = made.room }
passed_made (Inside f) at outer room made = record { below_root = made.below_root; chain = chain_same at f (folder.passed f) outer refl made.chain; alone = tt; room = made.room }
passed_made Ended at outer room made = record { below_root = made.below_root; chain = tt; alone = made.alone; room = made.room }

passed_known : (ph : Phase) (at : Path) (outer : List Opened) (room : ℕ) (d e : Disk) (p : Path) → Gone p d e → act_in ph at ≡ Looks p
    → IsMade (record { at = at; phase = ph; outer = outer; room = room }) → known_in ph (record { at = at; phase = ph; outer = outer; room = room }) d
    → known_in (passed_in ph) (record { at = at; phase = passed_in ph; outer = outer; room = room }) e
passed_known Look at outer room d e p gone is made known = ap (shows e) (at_looks at p is) ∙ gone.gone
passed_known (Inside f) at outer room d e p gone is made known =
    let less = looks_longer f.path f.names p is in
    let kept = all_kept p d e gone None (f ∷ outer) (less, shorter_on (length f.path) (length p) outer (omega (arith, less)) (chain_shorter at f outer made.chain)) known in
    (open_passed e None f.path f.names p is gone.gone kept.0, kept.1)
passed_known Ended at outer room d e p gone is made known = let n : Ends ≡ Looks p = is in cc

-- 3. a folder stands there
around_made : (f : Opened) (at : Path) (outer : List Opened) → outer ≡ [] → f.path ≡ at → IsChain at (f ∷ outer)
around_made f at [] none is = is
around_made f at (g ∷ outer) none is = let n : g ∷ outer ≡ [] = none in cc

inside_made : (f : Path) (names : List Name) (p : Path) → act_of f names ≡ Looks p → (x : Name) × (p ≡ under f x)
inside_made f [] p is = let n : Closes f ≡ Looks p = is in cc
inside_made f (x ∷ names) p is = (x, let n : Looks (under f x) ≡ Looks p = is in cc)

pub entered_made : (ph : Phase) (at : Path) (outer : List Opened) (room : ℕ) (p : Path) (names : List Name) → act_in ph at ≡ Looks p
    → IsMade (record { at = at; phase = ph; outer = outer; room = room }) → IsMade (record { at = at; phase = Inside (record { path = p; names = names }); outer = around ph outer; room = room - 1 })
entered_made Look at outer room p names is made = record {
  below_root = made.below_root;
  chain = around_made (record { path = p; names = names }) at outer made.alone (sym (at_looks at p is));
  alone = tt;
  room = let a : room ≤ most = made.room in omega (arith, a);
}
entered_made (Inside f) at outer room p names is made = record {
  below_root = made.below_root;
  chain = (inside_made f.path f.names p is, chain_same at f (folder.passed f) outer refl made.chain);
  alone = tt;
  room = let a : room ≤ most = made.room in omega (arith, a);
}
entered_made Ended at outer room p names is made = let n : Ends ≡ Looks p = is in cc

none_around : (d : Disk) (inner : Option Path) (outer : List Opened) → outer ≡ [] → AreOpen d inner outer
none_around d inner [] none = tt
none_around d inner (g ∷ outer) none = let n : g ∷ outer ≡ [] = none in cc

entered_known : (ph : Phase) (at : Path) (outer : List Opened) (room : ℕ) (d : Disk) (p : Path) (names : List Name) → act_in ph at ≡ Looks p → IsDirectory (shows d p) → IsListing d p names
    → IsMade (record { at = at; phase = ph; outer = outer; room = room }) → known_in ph (record { at = at; phase = ph; outer = outer; room = room }) d
    → AreOpen d None (record { path = p; names = reverse names } ∷ around ph outer)
entered_known Look at outer room d p names is there listing made known = (open_new d p names there listing, none_around d (Some p) outer made.alone)
entered_known (Inside f) at outer room d p names is there listing made known = (open_new d p names there listing, (open_around d f.path f.names p is known.0, known.1))
entered_known Ended at outer room d p names is there listing made known = let n : Ends ≡ Looks p = is in cc

-- 4. the innermost folder is gone
pub closed_made : (f : Opened) (at : Path) (outer : List Opened) (room : ℕ) → IsMade (record { at = at; phase = Inside f; outer = outer; room = room }) → IsMade (closed_to at outer room)
closed_made f at [] room made = record { below_root = made.below_root; chain = tt; alone = refl; room = made.room }
closed_made f at (g ∷ outer) room made = record { below_root = made.below_root; chain = made.chain.1; alone = tt; room = made.room }

closed_known : (f : Opened) (at : Path) (outer : List Opened) (room : ℕ) (d e : Disk) (p : Path) → Gone p d e → f.path ≡ p
    → IsMade (record { at = at; phase = Inside f; outer = outer; room = room }) → AreOpen d (Some f.path) outer
    → known_in (closed_to at outer room).phase (closed_to at outer room) e
closed_known f at [] room d e p gone is made known = ap (shows e) (sym made.chain ∙ is) ∙ gone.gone
closed_known f at (g ∷ outer) room d e p gone is made known =
    let same : length f.path ≡ length p = ap length is in
    let kept = all_kept p d e gone (Some f.path) (g ∷ outer) (shorter_on (length f.path) (length p) (g ∷ outer) (omega (arith, same)) (chain_shorter at f (g ∷ outer) made.chain)) known in
    (open_closed e f.path g.path g.names (ap (shows e) is ∙ gone.gone) kept.0, kept.1)

-- 5. the same of a task
act_below : (t : Removing) (p : Path) → IsMade t → act t ≡ Looks p → is_below t.at p ≡ true
act_below t p made is = act_below_in t.phase t.at t.outer t.room p made is

pub goes_leaf : (t : Removing) (d : Disk) (p : Path) → IsMade t → act t ≡ Looks p → IsLeaf (shows d p) → Goes t d p
goes_leaf t d p made is leaf = record {
  goes = subst (λ a. goes_in a d p) (sym is) (refl, leaf);
  below = act_below t p made is;
}

pub needs_passed : (t : Removing) (v w : View) (p : Path) → act t ≡ Looks p → Gone p v.now w.now → Needs t v → Needs (passed t) w
needs_passed t v w p is gone needs = record {
  made = passed_made t.phase t.at t.outer t.room needs.made;
  known = passed_known t.phase t.at t.outer t.room v.now w.now p gone is needs.made needs.known;
}

pub needs_entered : (t : Removing) (v : View) (p : Path) (names : List Name) → act t ≡ Looks p → IsDirectory (shows v.now p) → IsListing v.now p names → Needs t v → Needs (entered p (reverse names) t) v
needs_entered t v p names is there listing needs = record {
  made = entered_made t.phase t.at t.outer t.room p (reverse names) is needs.made;
  known = entered_known t.phase t.at t.outer t.room v.now p names is there listing needs.made needs.known;
}

-- what is known of the innermost folder
module _ (f : Opened) (at : Path) (outer : List Opened) (room : ℕ) (v : View) (p : Path) (needs : Needs (record { at = at; phase = Inside f; outer = outer; room = room }) v) where
  -- a next name whose path is too long is there
  pub far_there : act_of f.path f.names ≡ Looks p → ¬ (IsPath p) → shows v.now p ≢ Vacant
  far_there is none = by f.names is needs.known.0.far
    where
      by : (names : List Name) → act_of f.path names ≡ Looks p → ((x : Name) → Contains names x → IsPath (under f.path x) ⊎ (shows v.now (under f.path x) ≢ Vacant)) → shows v.now p ≢ Vacant
      by [] is far = let n : Closes f.path ≡ Looks p = is in cc
      by (x ∷ names) is far =
          let here : under f.path x ≡ p = let n : Looks (under f.path x) ≡ Looks p = is in cc in
          ⊎_elim
          (λ path. absurd (none (subst IsPath here path)))
          (λ there. subst (λ q. shows v.now q ≢ Vacant) here there)
          (far x (0, omega arith, refl))

  pub goes_folder : act_of f.path f.names ≡ Closes p → Goes (record { at = at; phase = Inside f; outer = outer; room = room }) v.now p
  goes_folder is =
      let empty = open_empty v.now f.path f.names p is needs.known.0 in
      record {
        goes = subst (λ a. goes_in a v.now p) (sym is) (refl, subst (λ q. IsDirectory (shows v.now q)) empty.0 needs.known.0.folder, subst (IsEmpty v.now) empty.0 empty.1);
        below = subst (λ q. is_below at q ≡ true) empty.0 (chain_below at f outer needs.made.chain);
      }

  pub needs_closed : (w : View) → Gone p v.now w.now → f.path ≡ p → Needs (closed_to at outer room) w
  needs_closed w gone is = record {
    made = closed_made f at outer room needs.made;
    known = closed_known f at outer room v.now w.now p gone is needs.made needs.known.1;
  }

-- no more folders are open than a path has names
pub outer_few : (ph : Phase) (at : Path) (outer : List Opened) (room : ℕ) → IsMade (record { at = at; phase = ph; outer = outer; room = room }) → (f : Opened) → ph ≡ Inside f → IsPath f.path → length outer ≤ 80
outer_few ph at outer room made f is path =
    let inside : IsMade (record { at = at; phase = Inside f; outer = outer; room = room }) = subst (λ (p : Phase). IsMade (record { at = at; phase = p; outer = outer; room = room })) is made in
    let a = chain_length at f outer inside.chain in
    let b : length f.path ≤ 80 = path.few in
    omega (arith, a, b)

-- a folder that is opened in another one
pub entered_as : (ph : Phase) (at : Path) (outer : List Opened) (room : ℕ) (p : Path) (names : List Name) → act_in ph at ≡ Looks p → IsMade (record { at = at; phase = ph; outer = outer; room = room })
    → (f : Opened) → ph ≡ Inside f → (new : Phase) → new ≡ Inside (record { path = p; names = names }) → (more : List Opened) → more ≡ folder.passed f ∷ outer → (less : ℕ) → less ≤ most
    → IsMade (record { at = at; phase = new; outer = more; room = less })
entered_as ph at outer room p names is made f inside new new_is more more_is less le =
    let base = entered_made (Inside f) at outer room p names (sym (ap (λ q. act_in q at) inside) ∙ is) (subst (λ (q : Phase). IsMade (record { at = at; phase = q; outer = outer; room = room })) inside made) in
    subst (λ (o : List Opened). IsMade (record { at = at; phase = new; outer = o; room = less })) (sym more_is)
    (subst (λ (q : Phase). IsMade (record { at = at; phase = q; outer = folder.passed f ∷ outer; room = less })) (sym new_is)
    (record { below_root = base.below_root; chain = base.chain; alone = tt; room = le }))
