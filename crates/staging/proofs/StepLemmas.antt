-- What each step writes and leaves.
use Rattle.std.proofs.Common.{ltb-false, ◌≡◌, ◌≢◌, ℕ, ◌≤◌, ◌+◌, ◌-◌, arith, Bool, true, false, refl, sym, ◌∙◌, ap, subst, List, ◌++◌, length, take, drop, Option, None, if◌then◌else◌, ⊎_elim}
use Rattle.std.specs.Prelude.{nat_lt}
use Rattle.std.specs.Option.{is_some}
use Rattle.std.proofs.Math.Seq.{take-add}
use Rattle.std.proofs.lemmas.List.{take_all}
use Rattle.ost_types.specs.Path.{Path, is_in}
use Rattle.ost_types.proofs.Paths.{is_in-under, is_in-self}
use Rattle.ost_types.specs.declared.meta.Meta.{Meta}
use Rattle.fs_trait.specs.declared.types.Value.{Value}
use Rattle.fs_trait.specs.declared.types.Value.TheVariants.{Absent, Folder, Link, File}
use Rattle.fs_trait.specs.declared.types.Node.{Node}
use Rattle.fs_trait.specs.declared.types.FsErr.{FsErr}
use Rattle.fs_trait.specs.View.{Disk, View, named, created, extended, file_synced}
use Rattle.fs_trait.specs.Image.{is_folder, Holds, IsTree}
use Rattle.fs_trait.specs.Effect.{IsFresh, inode_of, no_new, no_file, no_leaf, IsNode, unless_leaf}
use Rattle.fs_trait.specs.Seen.{Seen, Vacant, Leaf, seen, shows, MayBe, IsDirectory}
use Rattle.fs_trait.specs.Change.{Writes, Meets, Nothing, At, OfInode, Own}
use Rattle.fs_trait.proofs.Images.{not_both}
use Rattle.fs_trait.proofs.Ways.{way-there}
use Rattle.fs_trait.proofs.Refusals.{no_file-there}
use Rattle.fs_trait.proofs.Kept.{meets_kept, firm_kept, weaker}
use Rattle.fs_trait.proofs.Effects.{leaf_held, named-writes, created-writes, extended-writes_own, file_synced-writes, shows_named, shows_created, shows_extended, file_synced-firm}
use Rattle.fs_trait.proofs.Claims.{folder_shows}
use Rattle.fs_trait.proofs.Facts.{vacant_absent, leaf_file, no_folder_shown, may_held, no_new-free, shows_kept}
use Rattle.staging.specs.declared.phase.Phase.{Phase}
use Rattle.staging.specs.declared.phase.Phase.TheVariants.{Clear, Create, Append, SyncFile}
use Rattle.staging.specs.Draft.{Draft, filled, next_in}
use Rattle.staging.specs.Steps.{IsPlaced, writes_in, WritesOf, firm_in, here_in, Needs}

-- a step whose call isn't refused
pub record Step (t new : Draft) (v : View) (refusal : Option FsErr) (w : View) : Type 0 where
  pub free : refusal ≡ None
  pub writes : Writes (WritesOf t v) v w
  pub after : Needs new w

leaf_free : (z : Value) → z ≢ Absent → is_folder z ≡ false → unless_leaf z ≡ None
leaf_free Absent there leaf = absurd (there refl)
leaf_free (Folder m) there leaf = let n : true ≡ false = leaf in cc
leaf_free (Link m l) there leaf = refl
leaf_free (File n) there leaf = refl

no_leaf-leaf : (d : Disk) (p : Path) → IsTree d → d.at p ≢ Absent → is_folder (d.at p) ≡ false → no_leaf p d ≡ None
unfolding no_leaf
no_leaf-leaf d p tree there leaf = rw (way-there d tree p there) (leaf_free (d.at p) there leaf)

pub looked_none : (d : Disk) (z : Value) (x : Option Node) → IsNode d z x → is_some x ≡ false → z ≡ Absent
looked_none d Absent x is none = refl
looked_none d (Folder m) x is none = let n : true ≡ false = ap is_some (sym is) ∙ none in cc
looked_none d (Link m l) x is none = let n : true ≡ false = ap is_some (sym is) ∙ none in cc
looked_none d (File n) x is none = let n : true ≡ false = ap is_some (sym is) ∙ none in cc

pub looked_some : (d : Disk) (z : Value) (x : Option Node) → IsNode d z x → is_some x ≡ true → z ≢ Absent
looked_some d z x is some absent = let e : x ≡ None = subst (λ z. IsNode d z x) absent is in let n : false ≡ true = ap is_some (sym e) ∙ some in cc

piece_on : (xs : List ℕ) (k end : ℕ) → k ≤ end → take k xs ++ take (end - k) (drop k xs) ≡ take end xs
piece_on xs k end le = let e : k + (end - k) ≡ end = omega (arith, le) in sym (take-add k (end - k) xs) ∙ ap (λ n. take n xs) e

-- the attributes of the file that is shown
pub meta_shown : (d : Disk) (p : Path) (n : ℕ) (m : Meta) (b : List ℕ) → shows d p ≡ Leaf n m b → d.meta n ≡ m
meta_shown d p n m b is =
    let e : Leaf n (d.meta n) (d.bytes n) ≡ Leaf n m b = sym (ap (seen d) (leaf_file d p n m b is).0) ∙ is in cc

module _ (t : Draft) where
  pub off_parents : (p : Path) → p ≡ t.stage → is_in p t.stage ≡ true → ⊥
  off_parents p e in_ = not_both (subst (λ q. is_in q t.stage ≡ true) e in_) (is_in-self t.stage)

-- so many bytes are staged
filled_needs : (t : Draft) (k n : ℕ) (w : View) → IsPlaced t.stage
    → ((p : Path) (s : Seen) → MayBe w p s → Own n t.stage p s) → shows w.now t.stage ≡ Leaf n t.meta (take k t.bytes) → Needs (filled k t) w
filled_needs t k n w placed firm here = by (nat_lt k (length t.bytes)) refl
  where
    at_stage : (b : List ℕ) → shows w.now t.stage ≡ Leaf n t.meta b → (p : Path) → p ≡ t.stage → shows w.now p ≡ Leaf n t.meta b
    at_stage b is p e = ap (shows w.now) e ∙ is

    by : (b : Bool) → nat_lt k (length t.bytes) ≡ b → Needs (record t { written = k; phase = if b then Append else SyncFile }) w
    by true e = record { placed = placed; inode = n; meets = record { firm = firm; here = at_stage (take k t.bytes) here } }
    by false e = record { placed = placed; inode = n; meets = record { firm = firm; here = at_stage t.bytes (subst (λ b. shows w.now t.stage ≡ Leaf n t.meta b) (take_all k t.bytes (ltb-false k (length t.bytes) e)) here) } }

module _ (t : Draft) (v : View) (tree : IsTree v.now) (needs : Needs t v) where
  meets_in : (ph : Phase) → t.phase ≡ ph → Meets (firm_in ph t needs.inode) (here_in ph t needs.inode) v
  meets_in ph is = subst (λ f. Meets (firm_in f t needs.inode) (here_in f t needs.inode) v) is needs.meets

  written : (ph : Phase) (w : View) → t.phase ≡ ph → Writes (writes_in ph t v) v w → Writes (WritesOf t v) v w
  written ph w is writes = subst (λ f. Writes (writes_in f t v) v w) (sym is) writes

  parents_kept : (W : Path → Seen → Type 0) (w : View) → Writes W v w → ((p : Path) (s : Seen) → W p s → p ≡ t.stage)
      → ((p : Path) → is_in p t.stage ≡ true → IsDirectory (shows v.now p)) → (p : Path) → is_in p t.stage ≡ true → IsDirectory (shows w.now p)
  parents_kept W w writes at_stage was p in_ =
      subst IsDirectory (sym (shows_kept W v w p writes (λ s a. off_parents t p (at_stage p s a) in_))) (was p in_)

  -- 1. what an earlier task left
  cleared : (w : View) → shows w.now t.stage ≡ Vacant → ((p : Path) → is_in p t.stage ≡ true → IsDirectory (shows w.now p)) → Needs (next_in Clear t) w
  cleared w vacant parents = record {
    placed = needs.placed;
    inode = needs.inode;
    meets = record { firm = λ p s may. tt; here = λ p. ((λ e. ap (shows w.now) e ∙ vacant), parents p) };
  }

  pub clear_vacant : t.phase ≡ Clear → v.now.at t.stage ≡ Absent → Needs (next_in Clear t) v
  clear_vacant is absent = let now = meets_in Clear is in cleared v (ap (seen v.now) absent) (λ p. (now.here p).1)

  pub clear : t.phase ≡ Clear → v.now.at t.stage ≢ Absent → Step t (next_in Clear t) v (no_leaf t.stage v.now) (named t.stage Absent v)
  clear is there =
      let w = named t.stage Absent v in
      let now = meets_in Clear is in
      let writes : Writes (writes_in Clear t v) v w = named-writes v t.stage Absent in
      record {
        free = no_leaf-leaf v.now t.stage tree there (no_folder_shown v.now t.stage ((now.here t.stage).0 refl));
        writes = written Clear w is writes;
        after = cleared w (shows_named v t.stage Absent)
            (parents_kept (writes_in Clear t v) w writes (λ p s a. a.0) (λ p. (now.here p).1));
      }

  -- 2. the empty file
  pub create : (n : ℕ) → IsFresh n v → t.phase ≡ Create → Step t (next_in Create t) v (no_new t.stage v.now) (created t.stage t.meta n v)
  create n fresh is =
      let m = t.meta in
      let w = created t.stage m n v in
      let now = meets_in Create is in
      let s = needs.placed in
      let folder : is_folder (v.now.at s.0) ≡ true = folder_shows v.now s.0 ((now.here s.0).1 (subst (λ q. is_in s.0 q ≡ true) (sym s.2) (is_in-under s.0 s.1))) in
      let absent : v.now.at t.stage ≡ Absent = vacant_absent v.now t.stage ((now.here t.stage).0 refl) in
      let writes : Writes (writes_in Create t v) v w = weaker (At t.stage (OfInode n m)) (writes_in Create t v) v w (λ p s a. (a.0, (n, a.1, fresh))) (created-writes v t.stage m n fresh) in
      record {
        free = subst (λ q. v.now.at q ≡ Absent → no_new q v.now ≡ None) (sym s.2) (no_new-free v.now s.0 s.1 tree folder) absent;
        writes = written Create w is writes;
        after = filled_needs t 0 n w needs.placed
            (λ p s may. λ k b e. ⊎_elim (λ old. absurd (fresh p (leaf_held v p n k b (subst (MayBe v p) e old)))) (λ wrote. wrote.0) (writes.only p s may))
            (shows_created v t.stage m n);
      }

  -- 3. a piece of its bytes
  append_inode : (b : List ℕ) (end : ℕ) → take t.written t.bytes ++ b ≡ take end t.bytes → t.phase ≡ Append → Step t (filled end t) v (no_file t.stage v.now) (extended needs.inode b v)
  append_inode b end same is =
      let n = needs.inode in
      let w = extended n b v in
      let now = meets_in Append is in
      let here = now.here t.stage refl in
      let file = leaf_file v.now t.stage n t.meta (take t.written t.bytes) here in
      let meta = meta_shown v.now t.stage n t.meta (take t.written t.bytes) here in
      let own : (q : Path) → Holds v q (File n) → q ≡ t.stage = λ q held. now.firm q _ (may_held v q n held) (v.now.meta n) (v.now.bytes n) refl in
      let writes : Writes (writes_in Append t v) v w = weaker (At t.stage (OfInode n (v.now.meta n))) (writes_in Append t v) v w (λ p s a. (a.0, (n, subst (λ m. OfInode n m s) meta a.1, file.0))) (extended-writes_own v n b t.stage own) in
      record {
        free = no_file-there v.now tree t.stage n file.0;
        writes = written Append w is writes;
        after = filled_needs t end n w needs.placed
            (firm_kept (writes_in Append t v) (firm_in Append t n) v w writes (λ p s a. λ m b e. a.0) now.firm)
            (shows_extended v n b t.stage file.0 ∙ ap (λ c. Leaf n (v.now.meta n) (c ++ b)) file.1 ∙ ap (Leaf n (v.now.meta n)) same ∙ ap (λ m. Leaf n m (take end t.bytes)) meta);
      }

  stage_inode : (b : List ℕ) → shows v.now t.stage ≡ Leaf needs.inode t.meta b → needs.inode ≡ inode_of (v.now.at t.stage)
  stage_inode b here = sym (ap inode_of (leaf_file v.now t.stage needs.inode t.meta b here).0)

  pub append : (bytes : List ℕ) → bytes ≡ t.bytes → (end : ℕ) → t.written ≤ end → t.phase ≡ Append
      → Step t (filled end t) v (no_file t.stage v.now) (extended (inode_of (v.now.at t.stage)) (take (end - t.written) (drop t.written bytes)) v)
  append bytes same end le is =
      let b = take (end - t.written) (drop t.written bytes) in
      let on : take t.written t.bytes ++ b ≡ take end t.bytes = subst (λ c. take t.written t.bytes ++ take (end - t.written) (drop t.written c) ≡ take end t.bytes) (sym same) (piece_on t.bytes t.written end le) in
      subst (λ k. Step t (filled end t) v (no_file t.stage v.now) (extended k b v))
      (stage_inode (take t.written t.bytes) ((meets_in Append is).here t.stage refl)) (append_inode b end on is)

  -- 4. its sync
  sync_inode : t.phase ≡ SyncFile → Step t (next_in SyncFile t) v (no_file t.stage v.now) (file_synced needs.inode v)
  sync_inode is =
      let n = needs.inode in
      let w = file_synced n v in
      let now = meets_in SyncFile is in
      let here = now.here t.stage refl in
      let file = leaf_file v.now t.stage n t.meta t.bytes here in
      let kept = meets_kept Nothing (firm_in SyncFile t n) (here_in SyncFile t n) v w (file_synced-writes v n) (λ p s none. absurd none) (λ p s none. absurd none) now in
      record {
        free = no_file-there v.now tree t.stage n file.0;
        writes = written SyncFile w is (file_synced-writes v n);
        after = record {
          placed = needs.placed;
          inode = n;
          meets = record {
            firm = λ p s may. (kept.firm p s may, λ m b here e. file_synced-firm v n p m b (subst (MayBe w p) e may) ∙ file.1);
            here = kept.here;
          };
        };
      }

  pub sync_file : t.phase ≡ SyncFile → Step t (next_in SyncFile t) v (no_file t.stage v.now) (file_synced (inode_of (v.now.at t.stage)) v)
  sync_file is = subst (λ k. Step t (next_in SyncFile t) v (no_file t.stage v.now) (file_synced k v)) (stage_inode t.bytes ((meets_in SyncFile is).here t.stage refl)) (sync_inode is)
