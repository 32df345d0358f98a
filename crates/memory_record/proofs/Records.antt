-- The view after one change more.
use Rattle.std.proofs.Common.{◌≡◌, ◌≢◌, ℕ, zero, suc, ◌+◌, ◌-◌, ◌<◌, ◌≤◌, refl, sym, ◌∙◌, ap, subst, List, [], ◌∷◌, ◌++◌, length, take, get_or, arith, add-one, length-append, Bool, true, false, eqb, if◌then◌else◌, ◌==◌}
use Rattle.std.specs.Bool.{Decides}
use Rattle.std.proofs.lemmas.Bool.Decides.{Decides-eqb}
use Rattle.ost_types.specs.declared.meta.Meta.{Meta}
use Rattle.ost_types.specs.Path.{Path}
use Rattle.ost_types.specs.Flat.{flat}
use Rattle.fs_trait.specs.declared.types.Value.{Value}
use Rattle.fs_trait.specs.declared.types.Value.TheVariants.{Absent, Folder, File}
use Rattle.fs_trait.specs.View.{View, put_inode, set_bytes, set_meta, named, created, moved, extended, file_synced, folder_synced, all_synced}
use Rattle.fs_trait.specs.Image.{Among}
use Rattle.fs_trait.proofs.Puts.{put-here, put-apart}
use Rattle.fs_trait.proofs.Images.{named-here, named-apart}
use Rattle.memory_record.specs.declared.change.Change.{Change}
use Rattle.memory_record.specs.declared.change.Change.TheVariants.{Nothing, Name, Create, Move, Extend, SyncFile, SyncFolder, SyncAll, Crash}
use Rattle.memory_record.specs.Changes.{apply, after, view_of, empty_view, root_meta, spoiled}
use Rattle.memory_record.specs.Seen.{bytes_after, synced_after, meta_after}

after-push : (v : View) (cs : List Change) (c : Change) → after v (cs ++ c ∷ []) ≡ apply c (after v cs)
unfolding after
after-push v [] c = refl
after-push v (d ∷ cs) c = after-push (apply d v) cs c

pub view_of-push : (cs : List Change) (c : Change) → view_of (cs ++ c ∷ []) ≡ apply c (view_of cs)
unfolding view_of
view_of-push cs c = after-push empty_view cs c

take-more : (i : ℕ) (cs : List Change) (d : Change) → i < length cs → take (suc i) cs ≡ take i cs ++ get_or cs i d ∷ []
take-more i [] d h = absurd (omega arith)
take-more zero (c ∷ cs) d h = refl
take-more (suc i) (c ∷ cs) d h = ap (λ l. c ∷ l) (take-more i cs d (omega arith))

pub view_of-take : (i : ℕ) (cs : List Change) (d : Change) → i < length cs → view_of (take (i + 1) cs) ≡ apply (get_or cs i d) (view_of (take i cs))
view_of-take i cs d h = rw (add-one, take-more i cs d h) (view_of-push (take i cs) (get_or cs i d))

pub view_of-none : view_of [] ≡ empty_view
unfolding view_of after
view_of-none = refl

-- the last of the first i changes
pub view_of-last : (i : ℕ) (cs : List Change) (c d : Change) → 0 < i → i ≤ length cs → c ≡ get_or cs (i - 1) d → view_of (take i cs) ≡ apply c (view_of (take (i - 1) cs))
view_of-last zero cs c d low high is = absurd (omega arith)
view_of-last (suc i) cs c d low high is =
    let e : suc i - 1 ≡ i = omega arith in
    subst (λ k. c ≡ get_or cs k d → view_of (take (suc i) cs) ≡ apply c (view_of (take k cs))) (sym e)
    (λ is. rw is (let t : i + 1 ≡ suc i = omega arith in subst (λ k. view_of (take k cs) ≡ apply (get_or cs i d) (view_of (take i cs))) t (view_of-take i cs d (omega arith)))) is

module _ (v : View) (q : Path) where
  pub name_here : (p : Path) (x : Value) → p ≡ q → (apply (Name p x) v).now.at q ≡ x
  unfolding apply
  name_here p x e = subst (λ r. (named p x v).now.at r ≡ x) e (named-here v p x)

  pub name_apart : (p : Path) (x : Value) → p ≢ q → (apply (Name p x) v).now.at q ≡ v.now.at q
  unfolding apply
  name_apart p x apart = named-apart v p x q apart

  pub create_here : (p : Path) (m : Meta) (n : ℕ) → p ≡ q → (apply (Create p m n) v).now.at q ≡ File n
  unfolding apply created
  create_here p m n e = subst (λ r. (created p m n v).now.at r ≡ File n) e (named-here _ p (File n))

  pub create_apart : (p : Path) (m : Meta) (n : ℕ) → p ≢ q → (apply (Create p m n) v).now.at q ≡ v.now.at q
  unfolding apply created
  create_apart p m n apart = named-apart (record v { now = set_bytes n [] (set_meta n m v.now); synced = put_inode n false v.synced }) p (File n) q apart

  pub move_from : (from to : Path) → from ≡ q → (apply (Move from to) v).now.at q ≡ Absent
  unfolding apply moved
  move_from from to e = subst (λ r. (moved from to v).now.at r ≡ Absent) e (named-here _ from Absent)

  pub move_to : (from to : Path) → from ≢ q → to ≡ q → (apply (Move from to) v).now.at q ≡ v.now.at from
  unfolding apply moved
  move_to from to apart e = named-apart (named to (v.now.at from) v) from Absent q apart ∙ subst (λ r. (named to (v.now.at from) v).now.at r ≡ v.now.at from) e (named-here v to _)

  pub move_apart : (from to : Path) → from ≢ q → to ≢ q → (apply (Move from to) v).now.at q ≡ v.now.at q
  unfolding apply moved
  move_apart from to out away = named-apart (named to (v.now.at from) v) from Absent q out ∙ named-apart v to _ q away

  pub nothing : (apply Nothing v).now.at q ≡ v.now.at q
  unfolding apply
  nothing = refl

  pub extend : (n : ℕ) (b : List ℕ) → (apply (Extend n b) v).now.at q ≡ v.now.at q
  unfolding apply extended
  extend n b = refl

  pub sync_file : (n : ℕ) → (apply (SyncFile n) v).now.at q ≡ v.now.at q
  unfolding apply file_synced
  sync_file n = refl

  pub sync_folder : (f : Path) → (apply (SyncFolder f) v).now.at q ≡ v.now.at q
  unfolding apply folder_synced
  sync_folder f = refl

  pub sync_all : (apply SyncAll v).now.at q ≡ v.now.at q
  unfolding apply all_synced
  sync_all = refl

  pub crash : (k : ℕ) → (apply (Crash k) v).now.at q ≡ v.now.at q
  unfolding apply spoiled all_synced
  crash k = refl

-- what stands in the beginning
pub empty_at-root : empty_view.now.at [] ≡ Folder root_meta
unfolding empty_view
empty_at-root = put-here [] (Folder root_meta) (λ p. Absent)

pub empty_at-below : (q : Path) → q ≢ [] → empty_view.now.at q ≡ Absent
unfolding empty_view
empty_at-below q below = put-apart [] (Folder root_meta) (λ p. Absent) q (λ e. below (sym e))

pub bytes-apply : (c : Change) (n : ℕ) (v : View) → (apply c v).now.bytes n ≡ bytes_after c n (v.synced n) (v.now.bytes n)
unfolding apply named created moved extended file_synced folder_synced all_synced spoiled put_inode
bytes-apply (Create p m k) n v = refl
bytes-apply (Extend k more) n v = at (eqb k n) (Decides-eqb k n)
  where
    at : (b : Bool) → Decides b (k ≡ n) → (if b then v.now.bytes k ++ more else v.now.bytes n) ≡ (if b then v.now.bytes n ++ more else v.now.bytes n)
    at true d = ap (λ j. v.now.bytes j ++ more) (d.0 refl)
    at false d = refl
bytes-apply Nothing n v = refl
bytes-apply (Name p x) n v = refl
bytes-apply (Move from to) n v = refl
bytes-apply (SyncFile k) n v = refl
bytes-apply (SyncFolder f) n v = refl
bytes-apply SyncAll n v = refl
bytes-apply (Crash k) n v = refl

pub synced-apply : (c : Change) (n : ℕ) (v : View) → (apply c v).synced n ≡ synced_after c n (v.synced n)
unfolding apply named created moved extended file_synced folder_synced all_synced spoiled put_inode
synced-apply (Create p m k) n v = refl
synced-apply (Extend k more) n v = refl
synced-apply Nothing n v = refl
synced-apply (Name p x) n v = refl
synced-apply (Move from to) n v = refl
synced-apply (SyncFile k) n v = refl
synced-apply (SyncFolder f) n v = refl
synced-apply SyncAll n v = refl
synced-apply (Crash k) n v = refl

pub view_of-item : (i : ℕ) (cs : List Change) (c d : Change) → i < length cs → c ≡ get_or cs i d → view_of (take (i + 1) cs) ≡ apply c (view_of (take i cs))
view_of-item i cs c d h is = rw is (view_of-take i cs d h)

pub empty-bytes : (n : ℕ) → (view_of []).now.bytes n ≡ []
unfolding view_of after empty_view
empty-bytes n = refl

pub empty-synced : (n : ℕ) → (view_of []).synced n ≡ true
unfolding view_of after empty_view
empty-synced n = refl

pub at_last : (i : ℕ) (cs : List Change) (c d : Change) (p : Path) → 0 < i → i ≤ length cs → c ≡ get_or cs (i - 1) d → (view_of (take i cs)).now.at p ≡ (apply c (view_of (take (i - 1) cs))).now.at p
at_last i cs c d p low high is = ap (λ (v : View). v.now.at p) (view_of-last i cs c d low high is)

no_changes : (i : ℕ) (cs : List Change) → i ≤ 0 → view_of (take i cs) ≡ empty_view
unfolding view_of after
no_changes zero cs h = refl
no_changes (suc i) cs h = absurd (omega arith)

pub start_root : (i : ℕ) (cs : List Change) (t : List ℕ) (q : Path) (b : Bool) → i ≤ 0 → t ≡ flat q → b ≡ (length t == 0) → b ≡ true → (view_of (take i cs)).now.at q ≡ Folder root_meta
unfolding flat
start_root i cs t [] b h is test holds = ap (λ (v : View). v.now.at []) (no_changes i cs h) ∙ empty_at-root
start_root i cs t (x ∷ q) b h is test holds = let e : eqb (length t) 0 ≡ true = sym test ∙ holds in let n : length t ≡ 0 = (Decides-eqb _ _).0 e in let l : length t ≡ length (x ++ 0 ∷ flat q) = ap length is in let a = length-append x (0 ∷ flat q) in absurd (omega (arith, n, l, a))

pub start_below : (i : ℕ) (cs : List Change) (t : List ℕ) (q : Path) (b : Bool) → i ≤ 0 → t ≡ flat q → b ≡ (length t == 0) → b ≡ false → (view_of (take i cs)).now.at q ≡ Absent
unfolding flat
start_below i cs t [] b h is test fails = let e : eqb (length t) 0 ≡ true = ap (λ l. eqb (length l) 0) is in let n : true ≡ false = sym e ∙ sym test ∙ fails in cc
start_below i cs t (x ∷ q) b h is test fails = ap (λ (v : View). v.now.at (x ∷ q)) (no_changes i cs h) ∙ empty_at-below (x ∷ q) (λ e. cc)

pub empty_older : (q : Path) (x : Value) → Among (empty_view.older q) x → ⊥
unfolding empty_view
empty_older q x among = among

pub meta-apply : (c : Change) (n : ℕ) (v : View) → (apply c v).now.meta n ≡ meta_after c n (v.now.meta n)
unfolding apply named created moved extended file_synced folder_synced all_synced spoiled put_inode
meta-apply (Create p m k) n v = refl
meta-apply (Extend k more) n v = refl
meta-apply Nothing n v = refl
meta-apply (Name p x) n v = refl
meta-apply (Move from to) n v = refl
meta-apply (SyncFile k) n v = refl
meta-apply (SyncFolder f) n v = refl
meta-apply SyncAll n v = refl
meta-apply (Crash k) n v = refl

pub empty-meta : (n : ℕ) → (view_of []).now.meta n ≡ root_meta
unfolding view_of after empty_view
empty-meta n = refl

-- the attributes after the last of the first i changes
pub last_meta : (i : ℕ) (cs : List Change) (c d : Change) (n : ℕ) → 0 < i → i ≤ length cs → c ≡ get_or cs (i - 1) d → (view_of (take i cs)).now.meta n ≡ meta_after c n ((view_of (take (i - 1) cs)).now.meta n)
last_meta i cs c d n low high is = ap (λ (v : View). v.now.meta n) (view_of-last i cs c d low high is) ∙ meta-apply c n _

pub first_meta : (i : ℕ) (cs : List Change) (n : ℕ) → i ≤ 0 → (view_of (take i cs)).now.meta n ≡ root_meta
first_meta i cs n h = ap (λ (v : View). v.now.meta n) (no_changes i cs h) ∙ ap (λ (v : View). v.now.meta n) (sym view_of-none) ∙ empty-meta n

pub empty_root : empty_view.older [] ≡ []
unfolding empty_view
empty_root = refl
