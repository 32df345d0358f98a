-- The roots are marked, and nothing was looked into.
use Rattle.std.proofs.Common.{◌≡◌, ◌⊎◌, inl, inr, ⊎_elim, ℕ, zero, suc, ◌<◌, ◌≤◌, Bool, true, false, List, [], ◌∷◌, ◌++◌, length, get_or, length-append, refl, sym, ◌∙◌, ap, subst, arith}
use Rattle.std.specs.Prelude.{slice_set, replicate, take, ◌-◌, Contains}
use Rattle.std.proofs.lemmas.List.{take_all}
use Rattle.std.proofs.lemmas.List.Elements.{Contains-append_left, Contains-append_right, Contains-append_cases, Contains-get_or}
use Rattle.ost_types.specs.declared.object.Kind.TheVariants as kind
use Rattle.ost_types.specs.declared.object.ObjName.{ObjName}
use Rattle.fs_trait.specs.View.{Disk}
use Rattle.repo_model.specs.Objects.{Stores}
use Rattle.repo_model.specs.Trees.{name_of}
use Rattle.reach.specs.Reach.{ObjNames, Is, Refers, start}
use Rattle.reach.proofs.Marked.{nears_begin}
use Rattle.store_check.specs.Listing.{AreAll}
use Rattle.prune_mark.specs.declared.links.Near.{Near}
use Rattle.prune_mark.specs.Flags.{Begins, IsMarked, MarksRoot, count_down}
use Rattle.prune_mark.specs.Marking.{Knows, WaitsAt, Waits, WasFound, near_at}
use Rattle.prune_mark.proofs.Flagged.{set_fewer, set_long, set_new, set_stays, set_up}
use Rattle.prune_mark.proofs.Spreading.{OfFirst, all_first, first_all}
use Rattle.prune_mark.proofs.Steps.{in_store}

-- ---- all flags are down

all_down : (n i : ℕ) → get_or (replicate n false) i false ≡ false
all_down zero i = refl
all_down (suc n) zero = refl
all_down (suc n) (suc i) = all_down n i

count_all : (n : ℕ) → count_down (replicate n false) ≡ n
count_all zero = refl
count_all (suc n) = let r = count_all n in omega (arith, r)

long_all : (n : ℕ) → length (replicate n false) ≡ n
long_all zero = refl
long_all (suc n) = let r = long_all n in omega (arith, r)

-- a list of flags that was empty, filled up
pub resized : (n m k : ℕ) (old new : List Bool) → old ≡ [] → k ≡ 0 → n ≡ m → new ≡ take n old ++ replicate (n - k) false → new ≡ replicate m false
resized n m k old new empty none same is =
    let z = ap length empty in
    is ∙ ap (λ l. l ++ replicate (n - k) false) (take_all n old (omega (arith, z)) ∙ empty) ∙ ap (λ j. replicate j false) (omega (arith, none, same))

none_in : {X : Type 0} (x : X) → Contains {X = X} [] x → ⊥
none_in x h = omega (arith, h.1)

pub begins_none : (names : List ObjName) (set : ObjNames) → ((o : ObjName) → set o → ⊥) → (flags : List Bool) (found : List Near) (pending : List (List ℕ)) → flags ≡ replicate (length names) false → found ≡ [] → pending ≡ [] → Begins names set flags found pending
begins_none names set empty flags found pending down no_found no_pending =
    subst (λ f. Begins names set f found pending) (sym down) (subst (λ f. Begins names set (replicate (length names) false) f pending) (sym no_found) (subst (λ p. Begins names set (replicate (length names) false) [] p) (sym no_pending) begun))
  where
    unmarked : (o : ObjName) → IsMarked names (replicate (length names) false) o → ⊥
    unmarked o m = let n : false ≡ true = sym (all_down (length names) m.0) ∙ m.3 in cc

    begun : Begins names set (replicate (length names) false) [] []
    begun = record {
      long = long_all (length names);
      right = λ o m. absurd (unmarked o m);
      all = λ o s. absurd (empty o s);
      zero = λ n h. absurd (none_in n h);
      commits = λ c m. absurd (unmarked (name_of kind.Commit c) m);
      trees = λ t m. absurd (unmarked (name_of kind.DirTree t) m);
      marked = λ t h. absurd (none_in t h);
      few = let c = count_all (length names) in omega (arith, c);
    }

pub begins_as : (names : List ObjName) (A B : ObjNames) (flags : List Bool) (found : List Near) (pending : List (List ℕ)) → ((o : ObjName) → A o → B o) → ((o : ObjName) → B o → A o) → Begins names A flags found pending → Begins names B flags found pending
begins_as names A B flags found pending to from b = record {
  long = b.long;
  right = λ o m. to o (b.right o m);
  all = λ o s. b.all o (from o s);
  zero = b.zero;
  commits = b.commits;
  trees = b.trees;
  marked = b.marked;
  few = b.few;
}

-- ---- one root more

module _ (names : List ObjName) (A : ObjNames) (root : ObjName) (flags : List Bool) (found : List Near) (pending : List (List ℕ)) (b : Begins names A flags found pending) where
  one_in : (x y : Near) → Contains (y ∷ []) x → x ≡ y
  one_in x y (i, inside, is) = sym is ∙ ap (λ k. get_or (y ∷ []) k x) (first i inside)
    where
      first : (i : ℕ) → i < 1 → i ≡ 0
      first i inside = omega (arith, inside)

  pub begins_more : (flags' : List Bool) (found' : List Near) (pending' : List (List ℕ)) → MarksRoot names root flags found pending flags' found' pending' → Begins names (λ o. A o ⊎ Is root o) flags' found' pending'
  begins_more flags' found' pending' (inl (is, inl n, same)) =
      subst (λ f. Begins names (λ o. A o ⊎ Is root o) f found' pending') (sym n.flags_are) (subst (λ f. Begins names (λ o. A o ⊎ Is root o) (slice_set flags n.at true) f pending') (sym n.found_are) (subst (λ p. Begins names (λ o. A o ⊎ Is root o) (slice_set flags n.at true) (found ++ near_at 0 root.csum ∷ []) p) (sym same) more))
    where
      named : root ≡ name_of kind.Commit root.csum
      named = ap (λ k. name_of k root.csum) is

      new : (o : ObjName) → IsMarked names (slice_set flags n.at true) o → IsMarked names flags o ⊎ (o ≡ name_of kind.Commit root.csum)
      new = set_new names flags (name_of kind.Commit root.csum) n.at b.long n.was

      stays : (o : ObjName) → IsMarked names flags o → IsMarked names (slice_set flags n.at true) o
      stays = set_stays names flags (name_of kind.Commit root.csum) n.at b.long n.was

      up : IsMarked names (slice_set flags n.at true) (name_of kind.Commit root.csum)
      up = set_up names flags (name_of kind.Commit root.csum) n.at b.long n.was

      more : Begins names (λ o. A o ⊎ Is root o) (slice_set flags n.at true) (found ++ near_at 0 root.csum ∷ []) pending
      more = record {
        long = set_long names flags (name_of kind.Commit root.csum) n.at b.long n.was ∙ b.long;
        right = λ o m. ⊎_elim (λ old. inl (b.right o old)) (λ e. inr (e ∙ sym named)) (new o m);
        all = λ o s sorted has. ⊎_elim (λ a. stays o (b.all o a sorted has)) (λ e. subst (IsMarked names (slice_set flags n.at true)) (sym (e ∙ named)) up) s;
        zero = λ x h. ⊎_elim
            (λ old. let z = b.zero x old in (z.0, stays (name_of kind.Commit x.commit) z.1))
            (λ last. let e = one_in x (near_at 0 root.csum) last in (ap (λ (y : Near). y.distance) e, subst (λ (y : List ℕ). IsMarked names (slice_set flags n.at true) (name_of kind.Commit y)) (sym (ap (λ (y : Near). y.commit) e)) up))
            (Contains-append_cases found (near_at 0 root.csum ∷ []) x h);
        commits = λ c m. ⊎_elim
            (λ old. Contains-append_left found (near_at 0 root.csum ∷ []) (near_at 0 c) (b.commits c old))
            (λ e. subst (λ (y : List ℕ). Contains (found ++ near_at 0 root.csum ∷ []) (near_at 0 y)) (sym (ap (λ (y : ObjName). y.csum) e)) (Contains-append_right found (near_at 0 root.csum ∷ []) (near_at 0 root.csum) (0, omega arith, refl)))
            (new (name_of kind.Commit c) m);
        trees = λ t m. ⊎_elim (λ old. b.trees t old) (λ e. absurd (let k : kind.DirTree ≡ kind.Commit = ap (λ (y : ObjName). y.kind) e in cc)) (new (name_of kind.DirTree t) m);
        marked = λ t h. stays (name_of kind.DirTree t) (b.marked t h);
        few = let f = set_fewer names flags (name_of kind.Commit root.csum) n.at b.long n.was in let l = length-append found (near_at 0 root.csum ∷ []) in omega (arith, f, l, b.few);
      }
  begins_more flags' found' pending' (inl (is, inr o, same)) =
      subst (λ f. Begins names (λ o. A o ⊎ Is root o) f found' pending') (sym o.flags_are) (subst (λ f. Begins names (λ o. A o ⊎ Is root o) flags f pending') (sym o.found_are) (subst (λ p. Begins names (λ o. A o ⊎ Is root o) flags found p) (sym same) more))
    where
      named : root ≡ name_of kind.Commit root.csum
      named = ap (λ k. name_of k root.csum) is

      more : Begins names (λ o. A o ⊎ Is root o) flags found pending
      more = record {
        long = b.long;
        right = λ x m. inl (b.right x m);
        all = λ x s sorted has. ⊎_elim (λ a. b.all x a sorted has) (λ e. subst (IsMarked names flags) (sym (e ∙ named)) (o.up sorted (subst (Contains names) (e ∙ named) has))) s;
        zero = b.zero;
        commits = b.commits;
        trees = b.trees;
        marked = b.marked;
        few = b.few;
      }
  begins_more flags' found' pending' (inr (other, s, same)) =
      subst (λ f. Begins names (λ o. A o ⊎ Is root o) flags' f pending') (sym same) (record {
        long = s.long ∙ b.long;
        right = λ o m. ⊎_elim (λ old. inl (b.right o old)) (λ e. inr e) (s.new o m);
        all = λ o h sorted has. ⊎_elim (λ a. s.stays o (b.all o a sorted has)) (λ e. s.all o e sorted has) h;
        zero = λ x h. let z = b.zero x h in (z.0, s.stays (name_of kind.Commit x.commit) z.1);
        commits = λ c m. ⊎_elim (λ old. b.commits c old) (λ e. absurd (other (ap (λ (y : ObjName). y.kind) (sym e)))) (s.new (name_of kind.Commit c) m);
        trees = λ t m. ⊎_elim (λ old. s.waits t (b.trees t old)) (λ w. w) (s.later t m);
        marked = λ t h. ⊎_elim (λ old. s.stays (name_of kind.DirTree t) (b.marked t old)) (λ m. m) (s.marked t h);
        few = omega (arith, s.fewer, b.few);
      })

-- the roots so far are all of them
pub roots_all : (roots : List ObjName) (i : ℕ) (o : ObjName) → OfFirst Is roots i o → Contains roots o
roots_all roots i o f = let h = all_first Is roots i o f in subst (Contains roots) (sym h.2) h.1

pub all_roots : (roots : List ObjName) (i : ℕ) → length roots ≤ i → (o : ObjName) → Contains roots o → OfFirst Is roots i o
all_roots roots i whole o has = first_all Is roots i whole o (o, has, refl)

-- ---- what is known then

pub begins_known : (d : Disk) (names roots : List ObjName) (depth : ℕ) (flags : List Bool) (found : List Near) (pending : List (List ℕ)) → Begins names (Contains roots) flags found pending → AreAll d names
    → Knows d roots (record { names = names; flags = flags; depth = depth; found = found; next = 0; pending = pending })
begins_known d names roots depth flags found pending b are = record {
  names_are = are;
  nears = nears_begin (Stores d) (Contains roots) depth (WasFound d found) (WaitsAt d found 0)
      (λ k c w. let z = b.zero (near_at k c) w.0 in (z.0, b.right (name_of kind.Commit c) z.1))
      (λ c root there. (b.commits c (b.all (name_of kind.Commit c) root are.ascending (in_store d names are (name_of kind.Commit c) there)), there))
      (λ k c w. ((w.0.0, omega arith, w.0.1, w.0.2), w.1));
  line = record {
    rises = λ i j e le inside. let a = at_zero i e (omega (arith, le, inside)) in omega (arith, a);
    near = λ j e less inside. let a = at_zero j e inside in omega (arith, a);
  };
  right = λ o m there. start o (inl (b.right o m));
  begins = λ o root among. b.all o root are.ascending among;
  onward = λ o next m refers there. by o next m refers;
  found_marked = λ k c h. (b.zero (near_at k c) h).1;
  marked_found = λ c m. (0, b.commits c m);
  pending_marked = b.marked;
}
  where
    at_zero : (i : ℕ) (e : Near) → i < length found → (get_or found i e).distance ≡ 0
    at_zero i e inside = (b.zero (get_or found i e) (Contains-get_or found i e inside)).0

    by : (o next : ObjName) → IsMarked names flags o → Refers (Stores d) o next → Waits (record { names = names; flags = flags; depth = depth; found = found; next = 0; pending = pending }) o ⊎ IsMarked names flags next
    by o next m (inl (c, is, has, of)) =
        let named : o ≡ name_of kind.Commit o.csum = ap (λ k. name_of k o.csum) is in
        let h = b.commits o.csum (subst (IsMarked names flags) named m) in
        inl (inl (0, o.csum, (h.0, omega arith, h.1, h.2), named))
    by o next m (inr (e, is, has, of)) =
        let named : o ≡ name_of kind.DirTree o.csum = ap (λ k. name_of k o.csum) is in
        inl (inr (o.csum, b.trees o.csum (subst (IsMarked names flags) named m), named))
