-- What each changing call writes, and what it leaves where it succeeded.
use Rattle.std.proofs.Common.{◌≡◌, ◌≢◌, ◌⊎◌, inl, inr, ⊎_elim, ℕ, true, false, IsTrue, refl, sym, ◌∙◌, ap, subst, List, [], ◌++◌, if◌then◌else◌}
use Rattle.ost_types.specs.declared.meta.Meta.{Meta}
use Rattle.ost_types.specs.Path.{Name, Path, under}
use Rattle.ost_types.proofs.Paths.{same_or_apart, is_in-under}
use Rattle.fs_trait.specs.declared.types.Value.{Value}
use Rattle.fs_trait.specs.declared.types.Value.TheVariants.{Absent, Folder, Link, File}
use Rattle.fs_trait.specs.View.{Disk, View, put_inode, set_meta, set_bytes, named, created, moved, extended, file_synced, folder_synced, all_synced}
use Rattle.fs_trait.specs.Image.{Holds, Among}
use Rattle.fs_trait.specs.Effect.{IsFresh}
use Rattle.fs_trait.proofs.Puts.{put_inode-here, put_inode-apart, same_inode}
use Rattle.fs_trait.proofs.Images.{named-here, named-apart}
use Rattle.fs_trait.proofs.Trees.{Holds-named_any, Holds-named_apart, Holds-extended, Holds-file_synced, Holds-folder_synced}
use Rattle.fs_trait.specs.Seen.{Seen, Vacant, Directory, Symlink, Leaf, seen, shows, MayShow, MayBe, Always}
use Rattle.fs_trait.specs.Change.{Writes, Nothing, At, Moves, OfInode, Extends}
use Rattle.fs_trait.proofs.Kept.{weaker, then_writes}

-- what is there now is one of what may be
pub MayShow-now : (v : View) (z : Value) → MayShow v z (seen v.now z)
MayShow-now v Absent = refl
MayShow-now v (Folder m) = refl
MayShow-now v (Link m t) = refl
MayShow-now v (File n) = (v.now.bytes n, refl, λ is. refl)

pub may_now : (v : View) (p : Path) → MayBe v p (shows v.now p)
may_now v p = record { value = v.now.at p; held = inl refl; shown = MayShow-now v (v.now.at p) }

-- what shows a file of an inode is that inode
pub leaf_from : (v : View) (z : Value) (n : ℕ) (m : Meta) (b : List ℕ) → MayShow v z (Leaf n m b) → (z ≡ File n) × (m ≡ v.now.meta n) × (IsTrue (v.synced n) → b ≡ v.now.bytes n)
leaf_from v Absent n m b e = let e : Leaf n m b ≡ Vacant = e in cc
leaf_from v (Folder k) n m b e = let e : Leaf n m b ≡ Directory k = e in cc
leaf_from v (Link k t) n m b e = let e : Leaf n m b ≡ Symlink k t = e in cc
leaf_from v (File k) n m b (c, e, is) =
    let i : n ≡ k = cc in
    let j : m ≡ v.now.meta k = cc in
    let l : b ≡ c = cc in
    (ap File (sym i), j ∙ ap v.now.meta (sym i), λ s. l ∙ is (subst (λ a. IsTrue (v.synced a)) i s) ∙ ap v.now.bytes (sym i))

pub leaf_held : (v : View) (p : Path) (n : ℕ) (m : Meta) (b : List ℕ) → MayBe v p (Leaf n m b) → Holds v p (File n)
leaf_held v p n m b may = subst (Holds v p) (leaf_from v may.value n m b may.shown).0 may.held

-- the inode is as it was, or was not synced
record SameInode (new old : View) (n : ℕ) : Type 0 where
  pub meta : new.now.meta n ≡ old.now.meta n
  pub bytes : new.now.bytes n ≡ old.now.bytes n
  pub synced : IsTrue (old.synced n) → IsTrue (new.synced n)

MayShow-as : (new old : View) (z : Value) (s : Seen) → ((n : ℕ) → z ≡ File n → SameInode new old n) → MayShow new z s → MayShow old z s
MayShow-as new old Absent s same e = e
MayShow-as new old (Folder m) s same e = e
MayShow-as new old (Link m t) s same e = e
MayShow-as new old (File n) s same (b, e, is) =
    let i = same n refl in
    (b, e ∙ ap (λ m. Leaf n m b) i.meta, λ synced. is (i.synced synced) ∙ i.bytes)

seen-as : (d e : Disk) (z : Value) → ((n : ℕ) → z ≡ File n → (d.meta n ≡ e.meta n) × (d.bytes n ≡ e.bytes n)) → seen d z ≡ seen e z
seen-as d e Absent same = refl
seen-as d e (Folder m) same = refl
seen-as d e (Link m t) same = refl
seen-as d e (File n) same = let i = same n refl in ap (λ m. Leaf n m (d.bytes n)) i.0 ∙ ap (Leaf n (e.meta n)) i.1

-- 1. a name
pub shows_named : (v : View) (p : Path) (x : Value) → shows (named p x v).now p ≡ seen v.now x
unfolding named
shows_named v p x = ap (seen (named p x v).now) (named-here v p x) ∙ seen-as (named p x v).now v.now x (λ n is. (refl, refl))

pub shows_named_apart : (v : View) (p : Path) (x : Value) (q : Path) → p ≢ q → shows (named p x v).now q ≡ shows v.now q
unfolding named
shows_named_apart v p x q apart = ap (seen (named p x v).now) (named-apart v p x q apart) ∙ seen-as (named p x v).now v.now (v.now.at q) (λ n is. (refl, refl))

Holds-named_where : (v : View) (p : Path) (x : Value) (q : Path) (z : Value) → Holds (named p x v) q z → ((q ≡ p) × (z ≡ x)) ⊎ Holds v q z
Holds-named_where v p x q z held = by (same_or_apart p q)
  where
    by : (p ≡ q) ⊎ (p ≢ q) → ((q ≡ p) × (z ≡ x)) ⊎ Holds v q z
    by (inl e) = ⊎_elim (λ is. inl (sym e, is)) (λ was. inr was) (Holds-named_any v p x q z held)
    by (inr apart) = inr (Holds-named_apart v p x q z apart held)

MayShow-named : (v : View) (p : Path) (x : Value) (z : Value) (s : Seen) → MayShow (named p x v) z s → MayShow v z s
unfolding named
MayShow-named v p x z s shown = MayShow-as (named p x v) v z s (λ n is. record { meta = refl; bytes = refl; synced = λ t. t }) shown

pub named-writes : (v : View) (p : Path) (x : Value) → Writes (At p (MayShow v x)) v (named p x v)
named-writes v p x = record {
  only = λ q s may. ⊎_elim
      (λ h. inr (h.0, subst (λ z. MayShow v z s) h.1 (MayShow-named v p x may.value s may.shown)))
      (λ h. inl (record { value = may.value; held = h; shown = MayShow-named v p x may.value s may.shown }))
      (Holds-named_where v p x q may.value may.held);
  now = λ q. now q (same_or_apart p q);
}
  where
    now : (q : Path) → (p ≡ q) ⊎ (p ≢ q) → (shows (named p x v).now q ≡ shows v.now q) ⊎ ((q ≡ p) × MayShow v x (shows (named p x v).now q))
    now q (inl e) = inr (sym e, subst (MayShow v x) (sym (ap (λ r. shows (named p x v).now r) (sym e) ∙ shows_named v p x)) (MayShow-now v x))
    now q (inr apart) = inl (shows_named_apart v p x q apart)

-- 2. a new file
pub created-writes : (v : View) (p : Path) (m : Meta) (n : ℕ) → IsFresh n v → Writes (At p (OfInode n m)) v (created p m n v)
unfolding created
created-writes v p m n fresh =
    weaker _ _ v (created p m n v) (λ q s w. ⊎_elim (λ none. absurd none) (λ a. (a.0, (a.1.0, a.1.1 ∙ ap (λ k. Leaf n k a.1.0) (put_inode-here n m v.now.meta)))) w)
    (then_writes Nothing (At p (MayShow inner (File n))) v inner (created p m n v) before (named-writes inner p (File n)))
  where
    inner : View
    inner = record v { now = set_bytes n [] (set_meta n m v.now); synced = put_inode n false v.synced }

    other : (k : ℕ) → n ≢ k → SameInode inner v k
    other k apart = record {
      meta = put_inode-apart n m v.now.meta k apart;
      bytes = put_inode-apart n [] v.now.bytes k apart;
      synced = λ is. put_inode-apart n false v.synced k apart ∙ is;
    }

    not_fresh : (q : Path) (z : Value) → Holds v q z → (k : ℕ) → z ≡ File k → n ≢ k
    not_fresh q z held k is same = fresh q (subst (Holds v q) (is ∙ ap File (sym same)) held)

    before : Writes Nothing v inner
    before = record {
      only = λ q s may. inl (record { value = may.value; held = may.held; shown = MayShow-as inner v may.value s (λ k is. other k (not_fresh q may.value may.held k is)) may.shown });
      now = λ q. inl (seen-as inner.now v.now (v.now.at q) (λ k is. let o = other k (not_fresh q (v.now.at q) (inl refl) k is) in (o.meta, o.bytes)));
    }

-- 3. a move
pub moved-writes : (v : View) (from to : Path) → Writes (Moves from to (MayShow v (v.now.at from))) v (moved from to v)
unfolding moved
moved-writes v from to =
    weaker _ _ v (moved from to v) (λ q s w. w)
    (then_writes (At to (MayShow v (v.now.at from))) (At from (λ s. s ≡ Vacant)) v (named to (v.now.at from) v) (moved from to v)
    (named-writes v to (v.now.at from)) (named-writes (named to (v.now.at from) v) from Absent))

-- 4. other bytes, at each name of the inode
pub file_or_not : (n : ℕ) (z : Value) → (z ≡ File n) ⊎ (z ≢ File n)
file_or_not n Absent = inr (λ e. let e : Absent ≡ File n = e in cc)
file_or_not n (Folder m) = inr (λ e. let e : Folder m ≡ File n = e in cc)
file_or_not n (Link m t) = inr (λ e. let e : Link m t ≡ File n = e in cc)
file_or_not n (File k) = ⊎_elim (λ e. inl (ap File (sym e))) (λ apart. inr (λ e. apart (let i : k ≡ n = cc in sym i))) (same_inode n k)

pub extended-writes : (v : View) (n : ℕ) (more : List ℕ) → Writes (Extends v n) v (extended n more v)
unfolding extended
extended-writes v n more = record { only = λ q s may. only q s may (file_or_not n may.value); now = λ q. now q (file_or_not n (v.now.at q)) }
  where
    other : (z : Value) → z ≢ File n → (k : ℕ) → z ≡ File k → SameInode (extended n more v) v k
    other z apart k is =
        let differs : n ≢ k = λ e. apart (is ∙ ap File (sym e)) in
        record {
          meta = refl;
          bytes = put_inode-apart n _ v.now.bytes k differs;
          synced = λ is. put_inode-apart n false v.synced k differs ∙ is;
        }

    only : (q : Path) (s : Seen) → (may : MayBe (extended n more v) q s) → (may.value ≡ File n) ⊎ (may.value ≢ File n) → MayBe v q s ⊎ Extends v n q s
    only q s may (inl e) =
        let shown : MayShow (extended n more v) (File n) s = subst (λ z. MayShow (extended n more v) z s) e may.shown in
        inr (Holds-extended v n more q (File n) (subst (Holds (extended n more v) q) e may.held), (shown.0, shown.1))
    only q s may (inr apart) = inl (record {
      value = may.value;
      held = Holds-extended v n more q may.value may.held;
      shown = MayShow-as (extended n more v) v may.value s (other may.value apart) may.shown;
    })

    now : (q : Path) → (v.now.at q ≡ File n) ⊎ (v.now.at q ≢ File n) → (shows (extended n more v).now q ≡ shows v.now q) ⊎ Extends v n q (shows (extended n more v).now q)
    now q (inl e) = inr (inl (sym e), ((extended n more v).now.bytes n, ap (seen (extended n more v).now) e))
    now q (inr apart) = inl (seen-as (extended n more v).now v.now (v.now.at q) (λ k is. let o = other (v.now.at q) apart k is in (o.meta, o.bytes)))

-- a file with one name
pub extended-writes_own : (v : View) (n : ℕ) (more : List ℕ) (p : Path) → ((q : Path) → Holds v q (File n) → q ≡ p) → Writes (At p (OfInode n (v.now.meta n))) v (extended n more v)
extended-writes_own v n more p own = weaker _ _ v (extended n more v) (λ q s w. (own q w.0, w.1)) (extended-writes v n more)

-- 5. to 7. a sync writes nothing: it takes values away
pub file_synced-writes : (v : View) (n : ℕ) → Writes Nothing v (file_synced n v)
unfolding file_synced
file_synced-writes v n = record {
  only = λ q s may. inl (record { value = may.value; held = Holds-file_synced v n q may.value may.held; shown = MayShow-as (file_synced n v) v may.value s (λ k is. same k) may.shown });
  now = λ q. inl (seen-as (file_synced n v).now v.now (v.now.at q) (λ k is. (refl, refl)));
}
  where
    still : (k : ℕ) → IsTrue (v.synced k) → (n ≡ k) ⊎ (n ≢ k) → put_inode n true v.synced k ≡ true
    still k is (inl e) = subst (λ j. put_inode n true v.synced j ≡ true) e (put_inode-here n true v.synced)
    still k is (inr apart) = put_inode-apart n true v.synced k apart ∙ is

    same : (k : ℕ) → SameInode (file_synced n v) v k
    same k = record { meta = refl; bytes = refl; synced = λ is. still k is (same_inode n k) }

pub folder_synced-writes : (v : View) (f : Path) → Writes Nothing v (folder_synced f v)
unfolding folder_synced
folder_synced-writes v f = record {
  only = λ q s may. inl (record { value = may.value; held = Holds-folder_synced v f q may.value may.held; shown = MayShow-as (folder_synced f v) v may.value s (λ k is. record { meta = refl; bytes = refl; synced = λ t. t }) may.shown });
  now = λ q. inl (seen-as (folder_synced f v).now v.now (v.now.at q) (λ k is. (refl, refl)));
}

pub all_synced-writes : (v : View) → Writes Nothing v (all_synced v)
unfolding all_synced
all_synced-writes v = record {
  only = λ q s may. inl (record { value = may.value; held = ⊎_elim (λ is. inl is) (λ none. absurd none) may.held; shown = MayShow-as (all_synced v) v may.value s (λ k is. record { meta = refl; bytes = refl; synced = λ t. refl }) may.shown });
  now = λ q. inl (seen-as (all_synced v).now v.now (v.now.at q) (λ k is. (refl, refl)));
}

-- What stands where the call succeeded.
pub shows_created : (v : View) (p : Path) (m : Meta) (n : ℕ) → shows (created p m n v).now p ≡ Leaf n m []
unfolding created
shows_created v p m n =
    shows_named (record v { now = set_bytes n [] (set_meta n m v.now); synced = put_inode n false v.synced }) p (File n)
    ∙ ap (λ k. Leaf n k (put_inode n [] v.now.bytes n)) (put_inode-here n m v.now.meta) ∙ ap (Leaf n m) (put_inode-here n [] v.now.bytes)

pub shows_extended : (v : View) (n : ℕ) (more : List ℕ) (p : Path) → v.now.at p ≡ File n → shows (extended n more v).now p ≡ Leaf n (v.now.meta n) (v.now.bytes n ++ more)
unfolding extended
shows_extended v n more p is = ap (seen (extended n more v).now) is ∙ ap (Leaf n (v.now.meta n)) (put_inode-here n _ v.now.bytes)

pub shows_moved : (v : View) (from to : Path) → from ≢ to → shows (moved from to v).now to ≡ shows v.now from
unfolding moved
shows_moved v from to apart = shows_named_apart (named to (v.now.at from) v) from Absent to apart ∙ shows_named v to (v.now.at from)

-- and what a crash leaves after a sync
pub file_synced-firm : (v : View) (n : ℕ) (q : Path) (m : Meta) (b : List ℕ) → MayBe (file_synced n v) q (Leaf n m b) → b ≡ v.now.bytes n
unfolding file_synced
file_synced-firm v n q m b may = (leaf_from (file_synced n v) may.value n m b may.shown).2 (put_inode-here n true v.synced)

pub folder_synced-firm : (v : View) (f : Path) (x : Name) (s : Seen) → MayBe (folder_synced f v) (under f x) s → MayShow v (v.now.at (under f x)) s
unfolding folder_synced
folder_synced-firm v f x s may = by may.held
  where
    by : Holds (folder_synced f v) (under f x) may.value → MayShow v (v.now.at (under f x)) s
    by (inl is) = subst (λ z. MayShow v z s) is (MayShow-as (folder_synced f v) v may.value s (λ k is. record { meta = refl; bytes = refl; synced = λ t. t }) may.shown)
    by (inr among) = let none : Among [] may.value = subst (λ b. Among (if b then [] else v.older (under f x)) may.value) (is_in-under f x) among in absurd none

pub all_synced-firm : (v : View) (p : Path) → Always (all_synced v) p (shows v.now p)
unfolding all_synced
all_synced-firm v p = record { each = λ s may. by s may may.held }
  where
    settled : (z : Value) (s : Seen) → MayShow (all_synced v) z s → s ≡ seen v.now z
    settled Absent s e = e
    settled (Folder m) s e = e
    settled (Link m t) s e = e
    settled (File n) s (b, e, is) = e ∙ ap (Leaf n (v.now.meta n)) (is refl)

    by : (s : Seen) (may : MayBe (all_synced v) p s) → Holds (all_synced v) p may.value → s ≡ seen v.now (v.now.at p)
    by s may (inl is) = settled may.value s may.shown ∙ ap (seen v.now) is
    by s may (inr none) = absurd none
