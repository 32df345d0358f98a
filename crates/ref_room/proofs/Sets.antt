-- What a set of paths has after a path came to it.
use Rattle.std.proofs.Common.{◌≡◌, ◌⊎◌, inl, inr, ⊎_elim, ◌≤◌, ◌+◌, ◌-◌, arith, refl, sym, ◌∙◌, ap, subst, List, [], ◌∷◌, ◌++◌, length, take}
use Rattle.std.specs.Prelude.{Contains}
use Rattle.std.specs.Ordering.{nat_cmp, is_eq, match_ordering}
use Rattle.std.specs.Cmp.Lexicographic.{slice_cmp, lists_ties, texts_ties}
use Rattle.std.specs.declared.cmp.Ordering.{Ordering}
use Rattle.std.specs.declared.cmp.Ordering.TheVariants.{Less, Equal, Greater}
use Rattle.std.specs.BTreeSet.{insert_key}
use Rattle.std.proofs.lemmas.List.Elements.{Contains-append_left, Contains-append_right, Contains-append_cases}
use Rattle.ost_types.specs.Path.{Name, Path, IsPath, path_cmp, same_path, under}
use Rattle.ost_types.proofs.Paths.{same_path-Decides}
use Rattle.ref_room.specs.Clearing.{Cleared, Looks, act, top, IsOpened}
use Rattle.ref_room.proofs.Lists.{head_in, tail_in, cons_cases}
use Rattle.ref_room.proofs.ClearingSteps.{still, was}

equal_path : (p q : Path) → path_cmp p q ≡ Equal → p ≡ q
unfolding same_path
equal_path p q e = (same_path-Decides p q).0 (lists_ties (slice_cmp nat_cmp) texts_ties p q ∙ ap is_eq e)

pub insert_has : (ks : List Path) (k : Path) → Contains (insert_key path_cmp ks k) k
insert_has [] k = head_in k []
insert_has (x ∷ ks) k = by (insert_has ks k) (path_cmp k x) refl
  where
    by : Contains (insert_key path_cmp ks k) k → (o : Ordering) → path_cmp k x ≡ o → Contains (match_ordering o (k ∷ x ∷ ks) (x ∷ ks) (x ∷ insert_key path_cmp ks k)) k
    by rest Less e = head_in k (x ∷ ks)
    by rest Equal e = subst (Contains (x ∷ ks)) (sym (equal_path k x e)) (head_in x ks)
    by rest Greater e = tail_in k x (insert_key path_cmp ks k) rest

pub insert_kept : (ks : List Path) (k p : Path) → Contains ks p → Contains (insert_key path_cmp ks k) p
insert_kept [] k p has = tail_in p k [] has
insert_kept (x ∷ ks) k p has = by (λ a. insert_kept ks k p a) (path_cmp k x)
  where
    by : (Contains ks p → Contains (insert_key path_cmp ks k) p) → (o : Ordering) → Contains (match_ordering o (k ∷ x ∷ ks) (x ∷ ks) (x ∷ insert_key path_cmp ks k)) p
    by rest Less = tail_in p k (x ∷ ks) has
    by rest Equal = has
    by rest Greater = ⊎_elim (λ e. subst (Contains (x ∷ insert_key path_cmp ks k)) (sym e) (head_in x (insert_key path_cmp ks k))) (λ a. tail_in p x (insert_key path_cmp ks k) (rest a)) (cons_cases p x ks has)

pub insert_only : (ks : List Path) (k p : Path) → Contains (insert_key path_cmp ks k) p → Contains ks p ⊎ (p ≡ k)
insert_only [] k p has = ⊎_elim (λ e. inr e) (λ a. inl a) (cons_cases p k [] has)
insert_only (x ∷ ks) k p has = by (λ a. insert_only ks k p a) (path_cmp k x) has
  where
    by : (Contains (insert_key path_cmp ks k) p → Contains ks p ⊎ (p ≡ k)) → (o : Ordering) → Contains (match_ordering o (k ∷ x ∷ ks) (x ∷ ks) (x ∷ insert_key path_cmp ks k)) p → Contains (x ∷ ks) p ⊎ (p ≡ k)
    by rest Less has = ⊎_elim (λ e. inr e) (λ a. inl a) (cons_cases p k (x ∷ ks) has)
    by rest Equal has = inl has
    by rest Greater has = ⊎_elim (λ e. inl (subst (Contains (x ∷ ks)) (sym e) (head_in x ks))) (λ a. ⊎_elim (λ b. inl (tail_in p x ks b)) (λ e. inr e) (rest a)) (cons_cases p x (insert_key path_cmp ks k) has)

-- it has one more, or had it
pub insert_grows : (ks : List Path) (k : Path) → (length (insert_key path_cmp ks k) ≡ length ks + 1) ⊎ Contains ks k
insert_grows [] k = inl (omega arith)
insert_grows (x ∷ ks) k = by (insert_grows ks k) (path_cmp k x) refl
  where
    more : length (insert_key path_cmp ks k) ≡ length ks + 1 → length (x ∷ insert_key path_cmp ks k) ≡ length (x ∷ ks) + 1
    more e = omega (arith, e)

    by : (length (insert_key path_cmp ks k) ≡ length ks + 1) ⊎ Contains ks k → (o : Ordering) → path_cmp k x ≡ o → (length (match_ordering o (k ∷ x ∷ ks) (x ∷ ks) (x ∷ insert_key path_cmp ks k)) ≡ length (x ∷ ks) + 1) ⊎ Contains (x ∷ ks) k
    by rest Less e = inl (omega arith)
    by rest Equal e = inr (subst (Contains (x ∷ ks)) (sym (equal_path k x e)) (head_in x ks))
    by rest Greater e = ⊎_elim (λ a. inl (more a)) (λ b. inr (tail_in k x ks b)) rest

module _ (names : List Name) (t new : Cleared) (looks : act t ≡ Looks) (name : new.name ≡ t.name) (least : new.least ≡ t.least) (folders : new.folders ≡ insert_key path_cmp t.folders (top t)) where
  fold : (p : Path) → Contains new.folders p → Contains t.folders p ⊎ (p ≡ top t)
  fold p has = insert_only t.folders (top t) p (subst (λ l. Contains l p) folders has)

  kept : (p : Path) → Contains t.folders p → Contains new.folders p
  kept p has = subst (λ l. Contains l p) (sym folders) (insert_kept t.folders (top t) p has)

  found_top : Contains new.folders (top t)
  found_top = subst (λ l. Contains l (top t)) (sym folders) (insert_has t.folders (top t))

  pub opened_new : (inside : List Path) → new.pending ≡ take (length t.pending - 1) t.pending ++ inside → ((p : Path) → Contains inside p → (x : Name) × (p ≡ under (top t) x))
      → ((x : Name) → Contains names x → Contains inside (under (top t) x) ⊎ (IsPath (under (top t) x) → ⊥)) → IsOpened names t new
  opened_new inside pending each all = record {
    name = name;
    least = least;
    folders = fold;
    folders_kept = kept;
    found = found_top;
    pending = λ p has. ⊎_elim (λ a. inl (was t looks p a)) (λ b. inr (each p b)) (Contains-append_cases (take (length t.pending - 1) t.pending) inside p (subst (λ l. Contains l p) pending has));
    pending_kept = λ p has. ⊎_elim (λ a. inl (subst (λ l. Contains l p) (sym pending) (Contains-append_left (take (length t.pending - 1) t.pending) inside p a))) (λ e. inr e) (still t looks p has);
    inside = λ x has. ⊎_elim (λ a. inr (inl (subst (λ l. Contains l (under (top t) x)) (sym pending) (Contains-append_right (take (length t.pending - 1) t.pending) inside (under (top t) x) a)))) (λ none. inr (inr none)) (all x has);
  }

  had : length new.folders ≤ length t.folders → Contains t.folders (top t)
  had le = ⊎_elim (λ more. let n : length new.folders ≡ length t.folders + 1 = ap length folders ∙ more in absurd (omega (arith, n, le))) (λ a. a) (insert_grows t.folders (top t))

  pub opened_old : new.pending ≡ take (length t.pending - 1) t.pending → length new.folders ≤ length t.folders → IsOpened names t new
  opened_old pending le = record {
    name = name;
    least = least;
    folders = fold;
    folders_kept = kept;
    found = found_top;
    pending = λ p has. inl (was t looks p (subst (λ l. Contains l p) pending has));
    pending_kept = λ p has. ⊎_elim (λ a. inl (subst (λ l. Contains l p) (sym pending) a)) (λ e. inr e) (still t looks p has);
    inside = λ x has. inl (had le);
  }
