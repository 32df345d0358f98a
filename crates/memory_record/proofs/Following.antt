-- What a state shows after one change more.
use Rattle.std.proofs.Common.{◌≡◌, ℕ, Bool, true, false, not, cond, if◌then◌else◌, refl, sym, ◌∙◌, ap, subst, List, [], ◌∷◌, ◌++◌, length, get_or, ◌<◌, arith, Option, Some, None, Result, Ok, Err, IfOk, OnOk, IfSome}
use Rattle.std.specs.Bool.{Decides}
use Rattle.std.specs.BTreeSet.{BTreeSet, contains}
use Rattle.std.specs.Cmp.{unsigned_tied}
use Rattle.std.specs.Ordering.{nat_cmp, is_eq}
use Rattle.std.specs.Result.{result_ok}
use Rattle.std.proofs.lemmas.Bool.Decides.{Decides-eqb}
use Rattle.std.proofs.Math.Dec.{eqb}
use Rattle.std.proofs.Math.Seq.{get_or-append_seam}
use Rattle.ost_types.specs.declared.meta.Meta.{Meta}
use Rattle.ost_types.specs.Path.{Name, Path, under}
use Rattle.ost_types.proofs.Paths.{under-not_root}
use Rattle.fs_trait.specs.declared.types.Value.{Value}
use Rattle.fs_trait.specs.declared.types.Value.TheVariants.{Absent, Folder, File}
use Rattle.fs_trait.specs.View.{Disk, View, put_inode, set_at, set_bytes, set_meta, named, created, moved, extended, file_synced, folder_synced, all_synced}
use Rattle.fs_trait.proofs.Puts.{put_inode-here, put_inode-apart}
use Rattle.memory_table.specs.Filled.{filled}
use Rattle.memory_table.specs.Ties.{Ties}
use Rattle.memory_table.specs.declared.table.Table.{Table}
use Rattle.memory_record.specs.declared.change.Change.{Change}
use Rattle.memory_record.specs.declared.change.Change.TheVariants as change
use Rattle.memory_record.specs.declared.state.State.{State}
use Rattle.memory_record.specs.Changes.{apply, view_of, root_meta, spoiled}
use Rattle.memory_record.specs.Tied.{Depicts, IsTied, IsTiedTo}
use Rattle.memory_record.proofs.Records.{view_of-push, view_of-none, empty_at-root, empty_at-below, empty-synced}

pub of_ok : {T E : Type 0} (r : Result T E) (y : T) (P : T → Type 0) → Some y ≡ result_ok r → IfOk r P → P y
of_ok (Ok x) y P is h = let e : y ≡ x = cc in subst P (sym e) h
of_ok (Err e) y P is h = let n : Some y ≡ None = is in cc

pub some_ok : {T E : Type 0} (r : Result T E) (o : Option T) (P : Type 0) → o ≡ result_ok r → OnOk r P → IfSome o (λ x. P)
some_ok (Ok x) o P is h = subst (λ q. IfSome q (λ x. P)) (sym is) h
some_ok (Err e) o P is h = subst (λ q. IfSome q (λ x. P)) (sym is) tt

-- a set of inodes has those that aren't synced
abbrev pub AreUnsynced : BTreeSet ℕ → (ℕ → Bool) → Type 0
AreUnsynced m synced = (n : ℕ) → contains nat_cmp m n ≡ not (synced n)

pub unsynced_put : (m n : BTreeSet ℕ) (k : ℕ) (b : Bool) (synced : ℕ → Bool) → ((q : ℕ) → contains nat_cmp n q ≡ cond (is_eq (nat_cmp k q)) (not b) (contains nat_cmp m q)) → AreUnsynced m synced → AreUnsynced n (put_inode k b synced)
unsynced_put m n k b synced updates old q = go (eqb k q) (Decides-eqb k q) (unsigned_tied k q)
  where
    go : (c : Bool) → Decides c (k ≡ q) → is_eq (nat_cmp k q) ≡ c → contains nat_cmp n q ≡ not (put_inode k b synced q)
    go true s t = updates q ∙ ap (λ c. cond c (not b) (contains nat_cmp m q)) t ∙ sym (ap not (ap (put_inode k b synced) (sym (s.0 refl)) ∙ put_inode-here k b synced))
    go false s t = updates q ∙ ap (λ c. cond c (not b) (contains nat_cmp m q)) t ∙ old q ∙ sym (ap not (put_inode-apart k b synced q (λ same. let n : false ≡ true = s.1 same in cc)))

pub no_keys : (ns : List ℕ) → (0 < length ns → ⊥) → ns ≡ []
no_keys [] none = refl
no_keys (n ∷ ns) none = absurd (none (omega arith))

pub none_unsynced : (m : BTreeSet ℕ) (n : ℕ) → m.keys ≡ [] → contains nat_cmp m n ≡ false
none_unsynced m n none = rw none refl

module _ (s t : State) (v : View) (c : Change) where
  pub follow_name : (p : Path) (x y : Value) → c ≡ change.Name p x → y ≡ x → t.unsynced ≡ s.unsynced → ((d : Disk) → Ties s.table d → Ties t.table (set_at p y d)) → Depicts s v → Depicts t (apply c v)
  unfolding apply named
  follow_name p x y is same kept step shows = subst (λ k. Depicts t (apply k v)) (sym is) (record {
    ties = subst (λ z. Ties t.table (set_at p z v.now)) same (step v.now shows.ties);
    unsynced = λ n. ap (λ m. contains nat_cmp m n) kept ∙ shows.unsynced n;
  })

  pub follow_move : (from to : Path) → c ≡ change.Move from to → t.unsynced ≡ s.unsynced → ((d : Disk) → Ties s.table d → Ties t.table (set_at from Absent (set_at to (d.at from) d))) → Depicts s v → Depicts t (apply c v)
  unfolding apply moved named
  follow_move from to is kept step shows = subst (λ k. Depicts t (apply k v)) (sym is) (record { ties = step v.now shows.ties; unsynced = λ n. ap (λ m. contains nat_cmp m n) kept ∙ shows.unsynced n })

  pub follow_create : (p : Path) (m n : Meta) (k : ℕ) → c ≡ change.Create p m k → n ≡ m → ((w : View) → Depicts s w → Depicts t (created p n k w)) → Depicts s v → Depicts t (apply c v)
  unfolding apply
  follow_create p m n k is same step shows = subst (λ k. Depicts t (apply k v)) (sym is) (subst (λ z. Depicts t (created p z k v)) same (step v shows))

  pub follow_extend : (k : ℕ) (b more : List ℕ) → c ≡ change.Extend k b → more ≡ b → ((w : View) → Depicts s w → Depicts t (extended k more w)) → Depicts s v → Depicts t (apply c v)
  unfolding apply
  follow_extend k b more is same step shows = subst (λ k. Depicts t (apply k v)) (sym is) (subst (λ z. Depicts t (extended k z v)) same (step v shows))

  pub follow_sync_file : (n : ℕ) → c ≡ change.SyncFile n → ((w : View) → Depicts s w → Depicts t (file_synced n w)) → Depicts s v → Depicts t (apply c v)
  unfolding apply
  follow_sync_file n is step shows = subst (λ k. Depicts t (apply k v)) (sym is) (step v shows)

  pub follow_sync_all : c ≡ change.SyncAll → ((w : View) → Depicts s w → Depicts t (all_synced w)) → Depicts s v → Depicts t (apply c v)
  unfolding apply
  follow_sync_all is step shows = subst (λ k. Depicts t (apply k v)) (sym is) (step v shows)

  pub follow_crash : (fill : ℕ) → c ≡ change.Crash fill → ((w : View) → Depicts s w → Depicts t (spoiled fill w)) → Depicts s v → Depicts t (apply c v)
  unfolding apply
  follow_crash fill is step shows = subst (λ k. Depicts t (apply k v)) (sym is) (step v shows)

module _ (s : State) (v : View) (c : Change) (shows : Depicts s v) where
  pub follow_nothing : c ≡ change.Nothing → Depicts s (apply c v)
  unfolding apply
  follow_nothing is = subst (λ k. Depicts s (apply k v)) (sym is) shows

  pub follow_sync_folder : (f : Path) → c ≡ change.SyncFolder f → Depicts s (apply c v)
  unfolding apply folder_synced
  follow_sync_folder f is = subst (λ k. Depicts s (apply k v)) (sym is) (record { ties = shows.ties; unsynced = shows.unsynced })

pub created_shows : (s t : State) (v : View) (p : Path) (m : Meta) (k : ℕ) → ((q : ℕ) → contains nat_cmp t.unsynced q ≡ cond (is_eq (nat_cmp k q)) true (contains nat_cmp s.unsynced q))
    → ((d : Disk) → Ties s.table d → Ties t.table (set_at p (File k) (set_bytes k [] (set_meta k m d)))) → Depicts s v → Depicts t (created p m k v)
unfolding created named
created_shows s t v p m k updates step shows = record { ties = step v.now shows.ties; unsynced = unsynced_put s.unsynced t.unsynced k false v.synced updates shows.unsynced }

pub extended_shows : (s t : State) (v : View) (k : ℕ) (b : List ℕ) → ((q : ℕ) → contains nat_cmp t.unsynced q ≡ cond (is_eq (nat_cmp k q)) true (contains nat_cmp s.unsynced q))
    → ((d : Disk) → Ties s.table d → Ties t.table (set_bytes k (d.bytes k ++ b) d)) → Depicts s v → Depicts t (extended k b v)
unfolding extended
extended_shows s t v k b updates step shows = record { ties = step v.now shows.ties; unsynced = unsynced_put s.unsynced t.unsynced k false v.synced updates shows.unsynced }

pub file_synced_shows : (s t : State) (v : View) (k : ℕ) → t.table ≡ s.table → ((q : ℕ) → contains nat_cmp t.unsynced q ≡ cond (is_eq (nat_cmp k q)) false (contains nat_cmp s.unsynced q)) → Depicts s v → Depicts t (file_synced k v)
unfolding file_synced
file_synced_shows s t v k kept updates shows = record { ties = subst (λ m. Ties m v.now) (sym kept) shows.ties; unsynced = unsynced_put s.unsynced t.unsynced k true v.synced updates shows.unsynced }

pub all_synced_shows : (s t : State) (v : View) → t.table ≡ s.table → t.unsynced.keys ≡ [] → Depicts s v → Depicts t (all_synced v)
unfolding all_synced
all_synced_shows s t v kept none shows = record { ties = subst (λ m. Ties m v.now) (sym kept) shows.ties; unsynced = λ n. none_unsynced t.unsynced n none }

-- a disk whose unsynced files are spoiled, but those of a set
abbrev spoiled_bytes : ℕ → View → BTreeSet ℕ → ℕ → List ℕ
spoiled_bytes fill v m n = if contains nat_cmp m n then v.now.bytes n else if v.synced n then v.now.bytes n else filled fill (v.now.bytes n)

abbrev spoiled_but : ℕ → View → BTreeSet ℕ → Disk
spoiled_but fill v m = record v.now { bytes = spoiled_bytes fill v m }

-- the files are spoiled that left the set
pub record IsSpoiling (fill : ℕ) (s t : State) : Type 0 where
  pub ties : (v : View) → Depicts s v → Ties t.table (spoiled_but fill v t.unsynced)
  pub within : (n : ℕ) → contains nat_cmp t.unsynced n ≡ true → contains nat_cmp s.unsynced n ≡ true

same_bytes : (t : Table) (d : Disk) (f g : ℕ → List ℕ) → ((n : ℕ) → g n ≡ f n) → Ties t (record d { bytes = f }) → Ties t (record d { bytes = g })
same_bytes t d f g same ties = record { names = ties.names; files = λ n x is. let w = ties.files n x is in (w.0, w.1 ∙ sym (same n)) }

module _ (fill : ℕ) (s : State) where
  pub spoiling_first : IsSpoiling fill s s
  spoiling_first = record { ties = λ v shows. same_bytes s.table v.now v.now.bytes (spoiled_bytes fill v s.unsynced) (λ n. unspoiled (contains nat_cmp s.unsynced n) (v.synced n) _ _ (shows.unsynced n)) shows.ties; within = λ n has. has }
    where
      unspoiled : (c b : Bool) (x y : List ℕ) → c ≡ not b → (if c then x else if b then x else y) ≡ x
      unspoiled true b x y e = refl
      unspoiled false true x y e = refl
      unspoiled false false x y e = let n : false ≡ true = e in cc

  module _ (t u : State) (k : ℕ) (has : contains nat_cmp t.unsynced k ≡ true) (updates : (q : ℕ) → contains nat_cmp u.unsynced q ≡ cond (is_eq (nat_cmp k q)) false (contains nat_cmp t.unsynced q)) where
    pub spoiling_next : ((d : Disk) → Ties t.table d → Ties u.table (set_bytes k (filled fill (d.bytes k)) d)) → IsSpoiling fill s t → IsSpoiling fill s u
    spoiling_next step before = record {
      ties = λ v shows. same_bytes u.table v.now (put_inode k (filled fill (spoiled_bytes fill v t.unsynced k)) (spoiled_bytes fill v t.unsynced)) (spoiled_bytes fill v u.unsynced)
          (λ n. bytes v (not_true _ (sym (shows.unsynced k) ∙ before.within k has)) n (eqb k n) (Decides-eqb k n) (unsigned_tied k n)) (step _ (before.ties v shows));
      within = λ n there. before.within n (still n (eqb k n) (unsigned_tied k n) there);
    }
      where
        not_true : (b : Bool) → not b ≡ true → b ≡ false
        not_true true e = sym e
        not_true false e = refl

        bytes : (v : View) → v.synced k ≡ false → (n : ℕ) (c : Bool) → Decides c (k ≡ n) → is_eq (nat_cmp k n) ≡ c → spoiled_bytes fill v u.unsynced n ≡ put_inode k (filled fill (spoiled_bytes fill v t.unsynced k)) (spoiled_bytes fill v t.unsynced) n
        bytes v un n true d e =
            let gone : contains nat_cmp u.unsynced k ≡ false = updates k ∙ ap (λ c. cond c false (contains nat_cmp t.unsynced k)) (unsigned_tied k k ∙ (Decides-eqb k k).1 refl) in
            let here : spoiled_bytes fill v u.unsynced k ≡ filled fill (v.now.bytes k) = ap (λ c. if c then v.now.bytes k else if v.synced k then v.now.bytes k else filled fill (v.now.bytes k)) gone ∙ ap (λ b. if b then v.now.bytes k else filled fill (v.now.bytes k)) un in
            let was : spoiled_bytes fill v t.unsynced k ≡ v.now.bytes k = ap (λ c. if c then v.now.bytes k else if v.synced k then v.now.bytes k else filled fill (v.now.bytes k)) has in
            subst (λ q. spoiled_bytes fill v u.unsynced q ≡ put_inode k (filled fill (spoiled_bytes fill v t.unsynced k)) (spoiled_bytes fill v t.unsynced) q) (d.0 refl) (here ∙ ap (filled fill) (sym was) ∙ sym (put_inode-here k _ (spoiled_bytes fill v t.unsynced)))
        bytes v un n false d e =
            let same : contains nat_cmp u.unsynced n ≡ contains nat_cmp t.unsynced n = updates n ∙ ap (λ c. cond c false (contains nat_cmp t.unsynced n)) e in
            ap (λ c. if c then v.now.bytes n else if v.synced n then v.now.bytes n else filled fill (v.now.bytes n)) same ∙ sym (put_inode-apart k _ (spoiled_bytes fill v t.unsynced) n (λ is. let f : false ≡ true = d.1 is in cc))

        still : (n : ℕ) (c : Bool) → is_eq (nat_cmp k n) ≡ c → contains nat_cmp u.unsynced n ≡ true → contains nat_cmp t.unsynced n ≡ true
        still n true e there = let f : false ≡ true = sym (updates n ∙ ap (λ c. cond c false (contains nat_cmp t.unsynced n)) e) ∙ there in cc
        still n false e there = sym (updates n ∙ ap (λ c. cond c false (contains nat_cmp t.unsynced n)) e) ∙ there

  pub spoiling_last : (t : State) (m : BTreeSet ℕ) (v : View) → t.unsynced.keys ≡ [] → m.keys ≡ [] → IsSpoiling fill s t → Depicts s v → Depicts (record t { unsynced = m }) (spoiled fill v)
  unfolding spoiled all_synced
  spoiling_last t m v none empty all shows = record {
    ties = same_bytes t.table v.now (spoiled_bytes fill v t.unsynced) (λ n. if v.synced n then v.now.bytes n else filled fill (v.now.bytes n))
        (λ n. sym (ap (λ c. if c then v.now.bytes n else if v.synced n then v.now.bytes n else filled fill (v.now.bytes n)) (none_unsynced t.unsynced n none))) (all.ties v shows);
    unsynced = λ n. none_unsynced m n empty;
  }

pub first_root : (m : Meta) → m ≡ root_meta → (view_of []).now.at [] ≡ Folder m
first_root m is = ap (λ (v : View). v.now.at []) view_of-none ∙ empty_at-root ∙ ap Folder (sym is)

pub first_below : (f : Path) (x : Name) → (view_of []).now.at (under f x) ≡ Absent
first_below f x = ap (λ (v : View). v.now.at (under f x)) view_of-none ∙ empty_at-below (under f x) (under-not_root f x)

pub first_shows : (s : State) (m : Meta) → m ≡ root_meta → ((d : Disk) → d.at [] ≡ Folder m → ((f : Path) (x : Name) → d.at (under f x) ≡ Absent) → Ties s.table d) → s.unsynced.keys ≡ [] → Depicts s (view_of [])
first_shows s m is table none = record { ties = table _ (first_root m is) first_below; unsynced = λ n. none_unsynced s.unsynced n none ∙ sym (ap not (empty-synced n)) }

pub tied_first : (s : State) (cs : List Change) → cs ≡ [] → Depicts s (view_of []) → IsTied (Some s) cs
tied_first s cs none shows = record { shows = λ u is. let e : s ≡ u = cc in subst (λ l. Depicts u (view_of l)) (sym none) (subst (λ t. Depicts t (view_of [])) e shows) }

pub tied_none : (cs : List Change) → IsTied None cs
tied_none cs = record { shows = λ u is. let n : None ≡ Some u = is in cc }

pub tied_push : (cs new : List Change) (c d : Change) (o q r : Option State) → new ≡ cs ++ c ∷ [] → d ≡ get_or new (length cs) d → q ≡ o → ((v : View) → IsTiedTo q v → IsTiedTo r (apply d v)) → IsTied o cs → IsTied r new
tied_push cs new c d o q r pushed last same step tied =
    let e : d ≡ c = last ∙ ap (λ l. get_or l (length cs) d) pushed ∙ get_or-append_seam cs c [] d in
    subst (λ l. IsTied r l) (sym pushed) (subst (IsTiedTo r) (sym (view_of-push cs c)) (subst (λ k. IsTiedTo r (apply k (view_of cs))) e (step (view_of cs) (subst (λ k. IsTiedTo k (view_of cs)) (sym same) tied))))
