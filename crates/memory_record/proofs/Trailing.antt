-- The trail after one change more.
use Rattle.std.proofs.Common.{◌≡◌, ◌<◌, ◌≤◌, ◌+◌, ℕ, zero, suc, Bool, true, false, refl, sym, ◌∙◌, ap, subst, List, [], ◌∷◌, ◌++◌, length, get_or, Option, Some, None, if◌then◌else◌, arith, length-append}
use Rattle.std.proofs.Math.Seq.{get_or-append_seam}
use Rattle.ost_types.specs.declared.meta.Meta.{Meta}
use Rattle.ost_types.specs.Path.{Name, Path, under, same_path, is_in}
use Rattle.fs_trait.specs.declared.types.Value.{Value}
use Rattle.fs_trait.specs.declared.types.Value.TheVariants.{Absent, Folder, File}
use Rattle.fs_trait.specs.View.{Disk, View, put, set_at, named, created, moved, extended, file_synced, folder_synced, all_synced}
use Rattle.memory_table.specs.declared.tree.Tree.{Tree}
use Rattle.memory_table.specs.Tree.{Holds}
use Rattle.memory_table.specs.Ties.{Ties}
use Rattle.memory_table.proofs.Holding.{Holds-same}
use Rattle.memory_record.specs.declared.change.Change.{Change}
use Rattle.memory_record.specs.declared.change.Change.TheVariants as change
use Rattle.memory_record.specs.declared.trail.Trail.{Trail}
use Rattle.memory_record.specs.Changes.{apply, after, view_of, empty_view, root_meta, spoiled}
use Rattle.memory_record.specs.Crash.{place, chosen, has_more}
use Rattle.memory_record.specs.Trail.{Shows, kept}
use Rattle.memory_record.proofs.Following.{first_root, first_below}

put_none : (q p : Path) → put {A = Option (List Value)} q None (λ r. None) p ≡ None
unfolding put
put_none q p = go (same_path q p)
  where
    nothing : Option (List Value)
    nothing = None

    go : (b : Bool) → (if b then nothing else nothing) ≡ nothing
    go true = refl
    go false = refl

kept_more : (xs : List Value) (y : Value) → kept (xs ++ y ∷ []) ≡ Some (xs ++ y ∷ [])
kept_more [] y = refl
kept_more (x ∷ xs) y = refl

pub kept_none : (xs : List Value) → None ≡ kept xs → xs ≡ []
kept_none [] e = refl
kept_none (x ∷ xs) e = cc

pub kept_some : (ys xs : List Value) → Some ys ≡ kept xs → (ys ≡ xs) × (has_more xs ≡ true)
kept_some ys [] e = cc
kept_some ys (x ∷ xs) e = (cc, refl)

empty_older-at : (p : Path) → (view_of []).older p ≡ []
unfolding view_of after empty_view
empty_older-at p = refl

pub shows_first : (t : Trail) (m : Meta) → m ≡ root_meta → ((d : Disk) → d.at [] ≡ Folder m → ((f : Path) (x : Name) → d.at (under f x) ≡ Absent) → Ties t.table d) → Holds t.older (put [] None (λ p. None)) → Shows t (view_of [])
shows_first t m is ties holds = record {
  disk = (view_of []).now;
  ties = ties (view_of []).now (first_root m is) (first_below);
  same = λ p. refl;
  older = Holds-same t.older _ _ (λ p. put_none [] p ∙ sym (ap kept (empty_older-at p))) holds;
}

same_put : (p : Path) (x : Value) (f g : Path → Value) → ((q : Path) → f q ≡ g q) → (q : Path) → put p x f q ≡ put p x g q
unfolding put
same_put p x f g same q = go (same_path p q)
  where
    go : (b : Bool) → (if b then x else f q) ≡ (if b then x else g q)
    go true = refl
    go false = same q

pub shows_named : (t u : Trail) (m : Tree (List Value)) (v : View) (p : Path) (x : Value) (zs : List Value) → zs ≡ v.older p ++ v.now.at p ∷ []
    → ((g : Path → Option (List Value)) → Holds t.older g → Holds m (put p None g)) → ((g : Path → Option (List Value)) → Holds m g → Holds u.older (put p (Some zs) g))
    → ((d : Disk) → Ties t.table d → Ties u.table (set_at p x d)) → Shows t v → Shows u (named p x v)
unfolding named put
shows_named t u m v p x zs is took given table s = record {
  disk = set_at p x s.disk;
  ties = table s.disk s.ties;
  same = same_put p x s.disk.at v.now.at s.same;
  older = Holds-same u.older (put p (Some zs) (put p None (λ q. kept (v.older q)))) (λ q. kept (put p (v.older p ++ v.now.at p ∷ []) v.older q)) (λ q. each q (same_path p q)) (given _ (took _ s.older));
}
  where
    each : (q : Path) (b : Bool) → (if b then Some zs else (if b then None else kept (v.older q))) ≡ kept (if b then v.older p ++ v.now.at p ∷ [] else v.older q)
    each q true = ap Some is ∙ sym (kept_more (v.older p) (v.now.at p))
    each q false = refl

module _ (t : Trail) (v : View) where
  pub shows_created : (p : Path) (m : Meta) (n : ℕ) → Shows t (named p (File n) v) → Shows t (created p m n v)
  unfolding created named
  shows_created p m n s = record { disk = s.disk; ties = s.ties; same = s.same; older = s.older }

  pub shows_cleared : (m : Tree (List Value)) (f : Path) → ((g : Path → Option (List Value)) → Holds t.older g → Holds m (λ p. if is_in f p then None else g p)) → Shows t v → Shows (record t { older = m }) (folder_synced f v)
  unfolding folder_synced
  shows_cleared m f cleared s = record {
    disk = s.disk;
    ties = s.ties;
    same = s.same;
    older = Holds-same m _ (λ q. kept (if is_in f q then [] else v.older q)) (λ q. each q (is_in f q)) (cleared _ s.older);
  }
    where
      each : (q : Path) (b : Bool) → (if b then None else kept (v.older q)) ≡ kept (if b then [] else v.older q)
      each q true = refl
      each q false = refl

  pub shows_all_synced : (m : Tree (List Value)) → Holds m (put [] None (λ p. None)) → Shows t v → Shows (record t { older = m }) (all_synced v)
  unfolding all_synced
  shows_all_synced m none s = record { disk = s.disk; ties = s.ties; same = s.same; older = Holds-same m _ _ (λ p. put_none [] p) none }

  pub shows_spoiled : (m : Tree (List Value)) (fill : ℕ) → Holds m (put [] None (λ p. None)) → Shows t v → Shows (record t { older = m }) (spoiled fill v)
  unfolding spoiled all_synced
  shows_spoiled m fill none s = record { disk = s.disk; ties = s.ties; same = s.same; older = Holds-same m _ _ (λ p. put_none [] p) none }

  pub shows_extended : (n : ℕ) (b : List ℕ) → Shows t v → Shows t (extended n b v)
  unfolding extended
  shows_extended n b s = record { disk = s.disk; ties = s.ties; same = s.same; older = s.older }

  pub shows_file_synced : (n : ℕ) → Shows t v → Shows t (file_synced n v)
  unfolding file_synced
  shows_file_synced n s = record { disk = s.disk; ties = s.ties; same = s.same; older = s.older }

-- the same of a change
module _ (u : Trail) (c : Change) (v : View) where
  pub by_name : (p : Path) (x y : Value) → c ≡ change.Name p x → y ≡ x → Shows u (named p y v) → Shows u (apply c v)
  unfolding apply
  by_name p x y is same s = subst (λ k. Shows u (apply k v)) (sym is) (subst (λ z. Shows u (named p z v)) same s)

  pub by_create : (p : Path) (m : Meta) (n : ℕ) → c ≡ change.Create p m n → Shows u (named p (File n) v) → Shows u (apply c v)
  unfolding apply
  by_create p m n is s = subst (λ k. Shows u (apply k v)) (sym is) (shows_created u v p m n s)

  pub by_move : (from to : Path) → c ≡ change.Move from to → Shows u (moved from to v) → Shows u (apply c v)
  unfolding apply
  by_move from to is s = subst (λ k. Shows u (apply k v)) (sym is) s

  pub by_sync_folder : (f : Path) → c ≡ change.SyncFolder f → Shows u (folder_synced f v) → Shows u (apply c v)
  unfolding apply
  by_sync_folder f is s = subst (λ k. Shows u (apply k v)) (sym is) s

  pub by_sync_all : c ≡ change.SyncAll → Shows u (all_synced v) → Shows u (apply c v)
  unfolding apply
  by_sync_all is s = subst (λ k. Shows u (apply k v)) (sym is) s

  pub by_crash : (fill : ℕ) → c ≡ change.Crash fill → Shows u (spoiled fill v) → Shows u (apply c v)
  unfolding apply
  by_crash fill is s = subst (λ k. Shows u (apply k v)) (sym is) s

  pub by_nothing : c ≡ change.Nothing → Shows u v → Shows u (apply c v)
  unfolding apply
  by_nothing is s = subst (λ k. Shows u (apply k v)) (sym is) s

  pub by_extend : (n : ℕ) (b : List ℕ) → c ≡ change.Extend n b → Shows u v → Shows u (apply c v)
  unfolding apply
  by_extend n b is s = subst (λ k. Shows u (apply k v)) (sym is) (shows_extended u v n b s)

  pub by_sync_file : (n : ℕ) → c ≡ change.SyncFile n → Shows u v → Shows u (apply c v)
  unfolding apply
  by_sync_file n is s = subst (λ k. Shows u (apply k v)) (sym is) (shows_file_synced u v n s)

-- the value that is taken
pub taken_older : (xs : List Value) (y : Value) (k n : ℕ) → n ≡ length xs + 1 → k < length xs → (picks : List ℕ) (i : ℕ) → k ≡ place picks i n → (d : Value) → get_or xs k d ≡ get_or (xs ++ y ∷ []) (place picks i (length (xs ++ y ∷ []))) Absent
taken_older xs y k n is less picks i at d =
    let l : n ≡ length (xs ++ y ∷ []) = is ∙ sym (length-append xs (y ∷ [])) in
    first xs k less ∙ ap (λ j. get_or (xs ++ y ∷ []) j Absent) (at ∙ ap (place picks i) l)
  where
    first : (xs : List Value) (k : ℕ) → k < length xs → get_or xs k d ≡ get_or (xs ++ y ∷ []) k Absent
    first [] k less = absurd (omega (arith, less))
    first (x ∷ xs) zero less = refl
    first (x ∷ xs) (suc k) less = first xs k (omega (arith, less))

pub taken_now : (xs : List Value) (y : Value) (k n : ℕ) → n ≡ length xs + 1 → length xs ≤ k → k < n → (picks : List ℕ) (i : ℕ) → k ≡ place picks i n → y ≡ get_or (xs ++ y ∷ []) (place picks i (length (xs ++ y ∷ []))) Absent
taken_now xs y k n is low high picks i at =
    let l : n ≡ length (xs ++ y ∷ []) = is ∙ sym (length-append xs (y ∷ [])) in
    let e : k ≡ length xs = omega (arith, is, low, high) in
    sym (get_or-append_seam xs y [] Absent) ∙ ap (λ j. get_or (xs ++ y ∷ []) j Absent) (sym e ∙ at ∙ ap (place picks i) l)

pub chosen_of : (picks : List ℕ) (v : View) (i : ℕ) (p : Path) (xs : List Value) (y r : Value) → xs ≡ v.older p → y ≡ v.now.at p → r ≡ get_or (xs ++ y ∷ []) (place picks i (length (xs ++ y ∷ []))) Absent → r ≡ chosen picks v i p
chosen_of picks v i p xs y r older now is = is ∙ ap (λ l. get_or (l ++ y ∷ []) (place picks i (length (l ++ y ∷ []))) Absent) older ∙ ap (λ z. get_or (v.older p ++ z ∷ []) (place picks i (length (v.older p ++ z ∷ []))) Absent) now
