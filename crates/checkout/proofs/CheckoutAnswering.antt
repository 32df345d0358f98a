-- From what a call answered to what the step's clauses say.
use Rattle.std.proofs.Common.{◌≡◌, ◌≢◌, ℕ, ◌<◌, true, false, refl, sym, ◌∙◌, ap, subst, [], ◌∷◌, ◌++◌, length, get_or, Option, Some, None, append-nil, append_assoc}
use Rattle.std.specs.Option.{is_some}
use Rattle.ost_types.specs.declared.node.NodeName.{NodeName}
use Rattle.ost_types.specs.declared.node.NodeName.TheVariants.{Folder}
use Rattle.ost_types.specs.Path.{Path, under}
use Rattle.ost_types.specs.PathMap.{Nodes}
use Rattle.fs_trait.specs.declared.types.Value.{Value}
use Rattle.fs_trait.specs.declared.types.Value.TheVariants as value
use Rattle.fs_trait.specs.declared.types.Node.{Node}
use Rattle.fs_trait.specs.declared.types.FsErr.{FsErr}
use Rattle.fs_trait.specs.declared.types.FsErr.TheVariants.{Failed, Exists, Missing, NotFolder, NotEmpty, NoMemory}
use Rattle.fs_trait.specs.View.{Disk, View, named}
use Rattle.fs_trait.specs.Image.{is_folder, IsTree, Told}
use Rattle.fs_trait.specs.Effect.{Fails, IsNode}
use Rattle.fs_trait.specs.Seen.{Seen, Vacant, Directory, Symlink, Leaf as SeenLeaf, seen, shows, MayShow}
use Rattle.fs_trait.specs.Change.{Writes}
use Rattle.fs_trait.proofs.Facts.{Fails-writes}
use Rattle.fs_trait.proofs.Kept.{weaker}
use Rattle.checkout.specs.declared.checkout_phase.CheckoutPhase.TheVariants.{Begin, Make}
use Rattle.checkout.specs.CheckoutWork.{Checkout, IsMade, reached}
use Rattle.checkout.specs.CheckoutSteps.{Makes, WritesOf, writes_in, Needs, needs_in, Ready, Refuses, value_of, no_make}
use Rattle.checkout.proofs.CheckoutMaps.{root_first, some_first}
use Rattle.checkout.proofs.CheckoutLemmas.{Step, make_step}

-- ---- the look

pub looked_none : (d : Disk) (p : Path) (x : Option Node) → IsNode d (d.at p) x → is_some x ≡ false → shows d p ≡ Vacant
looked_none d p x is none = by (d.at p) is
  where
    by : (z : Value) → IsNode d z x → seen d z ≡ Vacant
    by value.Absent is = refl
    by (value.Folder m) is = let n : true ≡ false = ap is_some (sym is) ∙ none in cc
    by (value.Link m l) is = let n : true ≡ false = ap is_some (sym is) ∙ none in cc
    by (value.File n) is = let no : true ≡ false = ap is_some (sym is) ∙ none in cc

pub looked_some : (d : Disk) (p : Path) (x : Option Node) → IsNode d (d.at p) x → is_some x ≡ true → shows d p ≢ Vacant
looked_some d p x is some = by (d.at p) is
  where
    by : (z : Value) → IsNode d z x → seen d z ≢ Vacant
    by value.Absent is vacant = let n : false ≡ true = ap is_some (sym is) ∙ some in cc
    by (value.Folder m) is vacant = let n : Directory m ≡ Vacant = vacant in cc
    by (value.Link m l) is vacant = let n : Symlink m l ≡ Vacant = vacant in cc
    by (value.File n) is vacant = let no : SeenLeaf n (d.meta n) (d.bytes n) ≡ Vacant = vacant in cc

vacant_value : (d : Disk) (z : Value) → seen d z ≡ Vacant → z ≡ value.Absent
vacant_value d value.Absent e = refl
vacant_value d (value.Folder m) e = let e : Directory m ≡ Vacant = e in cc
vacant_value d (value.Link m t) e = let e : Symlink m t ≡ Vacant = e in cc
vacant_value d (value.File n) e = let e : SeenLeaf n (d.meta n) (d.bytes n) ≡ Vacant = e in cc

-- nothing stands below a path at which nothing stands
absent_below : (d : Disk) → IsTree d → (f rest : Path) → d.at f ≡ value.Absent → d.at (f ++ rest) ≡ value.Absent
absent_below d tree f [] gone = ap d.at (append-nil f) ∙ gone
absent_below d tree f (x ∷ rest) gone = ap d.at (sym (append_assoc f (x ∷ []) rest)) ∙ absent_below d tree (under f x) rest (tree.folders f x (ap is_folder gone))

-- where nothing stands at the path, the first pair can be made
pub ready_first : (t : Checkout) (d : Disk) → IsTree d → t.phase ≡ Begin → Needs t d → shows d t.into ≡ Vacant → Ready 0 t d
ready_first t d tree is needs vacant =
    let first = subst (λ ph. needs_in ph t d) is needs in
    record { home = first.0; made = λ p. ap (seen d) (absent_below d tree t.into p (vacant_value d (d.at t.into) vacant)); leaves = first.1 }

pub ready_in : (t : Checkout) (d : Disk) (n : ℕ) → t.phase ≡ Make n → Needs t d → Ready n t d
ready_in t d n is needs = subst (λ ph. needs_in ph t d) is needs

pub has_first : (t : Checkout) → IsMade t → 0 < length t.tree
has_first t made = some_first t.tree [] (Folder made.placed.shape.root.0) made.placed.shape.root.1

-- the first pair is the folder itself
pub first_writes : (t : Checkout) (v : View) → t.phase ≡ Begin → IsMade t → (view : Option View) → Told view (λ w. Writes (Makes 0 t v) v w) → Told view (λ w. Writes (WritesOf t v) v w)
first_writes t v is made view told = (told.0, told.1, weaker (Makes 0 t v) (WritesOf t v) v told.0 (λ p s a. subst (λ ph. writes_in ph t v p s) (sym is) (at_root p s a)) told.2)
  where
    at_root : (p : Path) (s : Seen) → Makes 0 t v p s → writes_in Begin t v p s
    at_root p s a =
        let root = made.placed.shape.root in
        let first = root_first t.tree a.0 (Folder root.0) made.map.ascending a.1.0 a.1.1 root.1 in
        (root.0, root.1, a.2 ∙ ap (λ q. t.into ++ q) first.0 ∙ append-nil t.into, a.3, subst (λ k. MayShow v (value_of k v.now) s) first.1 a.4)

-- ---- the making

not_refused : (e : FsErr) (refusal : Option FsErr) → refusal ≡ Some e → refusal ≡ None → ⊥
not_refused e refusal is free = let n : Some e ≡ None = sym is ∙ free in cc

module _ (n : ℕ) (u : Checkout) (v : View) (refusal : Option FsErr) (w : View) (step : Step n u v refusal w) where
  pub ok_writes : (view : Option View) → (refusal ≡ None) × (view ≡ Some w) → Told view (λ x. Writes (Makes n u v) v x)
  ok_writes view changed = (w, changed.1, step.writes)

  pub ok_after : (got : Checkout) → got ≡ reached n u → (view : Option View) → (refusal ≡ None) × (view ≡ Some w) → Told view (λ x. Needs got x.now)
  ok_after got is view changed = (w, changed.1, subst (λ a. Needs a w.now) (sym is) step.after)

  pub err_writes : (e : FsErr) (view : Option View) → Fails refusal v w e view → Told view (λ x. Writes (Makes n u v) v x)
  err_writes e view fails = Fails-writes (Makes n u v) refusal v w e view fails step.writes

  pub err_fails : (e : FsErr) (view : Option View) → Fails refusal v w e view → Refuses e
  err_fails Failed view fails = tt
  err_fails NoMemory view fails = tt
  err_fails Exists view fails = absurd (not_refused Exists refusal fails.0 step.free)
  err_fails Missing view fails = absurd (not_refused Missing refusal fails.0 step.free)
  err_fails NotFolder view fails = absurd (not_refused NotFolder refusal fails.0 step.free)
  err_fails NotEmpty view fails = absurd (not_refused NotEmpty refusal fails.0 step.free)

-- the step, by what the calls before it gave
pub step_at : (n : ℕ) (t u : Checkout) → t ≡ u → (v : View) → IsTree v.now → IsMade t → Ready n u v.now → n < length u.tree
    → (items : Nodes) → items ≡ t.tree → (e : Path × NodeName) → e ≡ get_or items n e → (at : Path) → at ≡ t.into ++ e.0
    → Step n u v (no_make e.1 at v.now) (named at (value_of e.1 v.now) v)
step_at n t u same v tree made ready inside items is_tree e is at is_at =
    let number : get_or u.tree n e ≡ e = ap (λ (m : Nodes). get_or m n e) (sym (is_tree ∙ ap (λ (a : Checkout). a.tree) same)) ∙ sym is in
    let here : at ≡ u.into ++ e.0 = is_at ∙ ap (λ (a : Checkout). a.into ++ e.0) same in
    subst (λ q. Step n u v (no_make e.1 q v.now) (named q (value_of e.1 v.now) v)) (sym here) (make_step n u e v tree (subst IsMade same made) ready (inside, number))
