-- What the look, the rename and the folder's sync write and leave.
use Rattle.std.proofs.Common.{◌≡◌, ◌≢◌, ◌⊎◌, inl, inr, ⊎_elim, ℕ, Bool, true, false, refl, sym, ◌∙◌, ap, subst, List, Option, None}
use Rattle.std.specs.Prelude.{◌==◌}
use Rattle.std.specs.Bool.{Decides}
use Rattle.std.proofs.lemmas.Bool.Decides.{Decides-eqb}
use Rattle.ost_types.specs.declared.meta.Meta.{Meta}
use Rattle.ost_types.specs.Path.{Path, is_below}
use Rattle.ost_types.proofs.Paths.{is_below-self}
use Rattle.fs_trait.specs.declared.types.Value.{Value}
use Rattle.fs_trait.specs.declared.types.Value.TheVariants.{Absent, Folder, Link, File}
use Rattle.fs_trait.specs.declared.types.Node.{Node}
use Rattle.fs_trait.specs.declared.types.FsErr.{FsErr}
use Rattle.fs_trait.specs.View.{Disk, View, named, moved, folder_synced}
use Rattle.fs_trait.specs.Image.{is_folder, IsTree}
use Rattle.fs_trait.specs.Effect.{no_move, no_folder, IsNode, one_inode}
use Rattle.fs_trait.specs.Seen.{Seen, Vacant, Leaf, seen, shows, MayShow, MayBe, IsDirectory, NotDirectory}
use Rattle.fs_trait.specs.Change.{Writes, Meets, Nothing, Moves, LeadsTo, Own}
use Rattle.fs_trait.proofs.Answering.{Step}
use Rattle.fs_trait.proofs.Puts.{same_inode}
use Rattle.fs_trait.proofs.Images.{not_both}
use Rattle.fs_trait.proofs.Refusals.{no_move-there, no_folder-there}
use Rattle.fs_trait.proofs.Kept.{firm_kept, weaker}
use Rattle.fs_trait.proofs.Effects.{may_now, moved-writes, folder_synced-writes, shows_named, shows_moved, folder_synced-firm}
use Rattle.fs_trait.proofs.Claims.{folder_shows}
use Rattle.fs_trait.proofs.Facts.{leaf_file, no_folder_shown, may_held, under-not_below, shows_kept}
use Rattle.staged_file.specs.declared.phase.Phase.{Phase}
use Rattle.staged_file.specs.declared.phase.Phase.TheVariants.{Look, Replace, SyncFolder}
use Rattle.staged_file.specs.Staged.{Staged, is_directory, next_in}
use Rattle.staged_file.specs.Steps.{IsPlaced, IsFileWith, IsWhole, FixedFile, writes_in, WritesOf, firm_in, here_in, Needs}

-- what a look tells
pub looked_leaf : (d : Disk) (z : Value) (x : Option Node) → IsNode d z x → is_directory x ≡ false → NotDirectory (seen d z)
looked_leaf d Absent x is leaf = tt
looked_leaf d (Folder m) x is leaf = let n : true ≡ false = ap is_directory (sym is) ∙ leaf in cc
looked_leaf d (Link m l) x is leaf = tt
looked_leaf d (File n) x is leaf = tt

pub looked_folder : (d : Disk) (z : Value) (x : Option Node) → IsNode d z x → is_directory x ≡ true → IsDirectory (seen d z)
looked_folder d Absent x is folder = let n : false ≡ true = ap is_directory (sym is) ∙ folder in cc
looked_folder d (Folder m) x is folder = tt
looked_folder d (Link m l) x is folder = let n : false ≡ true = ap is_directory (sym is) ∙ folder in cc
looked_folder d (File n) x is folder = let n : false ≡ true = ap is_directory (sym is) ∙ folder in cc

apart_inodes : (n k : ℕ) → n ≢ k → one_inode (File n) (File k) ≡ false
apart_inodes n k apart = by (n == k) (Decides-eqb n k)
  where
    by : (b : Bool) → Decides b (n ≡ k) → b ≡ false
    by true d = absurd (apart (d.0 refl))
    by false d = refl

-- one leaf has one inode, one set of attributes and one content
same_leaf : (n : ℕ) (m : Meta) (b : List ℕ) (k : ℕ) (l : Meta) (c : List ℕ) → Leaf n m b ≡ Leaf k l c → (m ≡ l) × (b ≡ c)
same_leaf n m b k l c e =
    let i : m ≡ l = cc in
    let j : b ≡ c = cc in
    (i, j)

module _ (t : Staged) (placed : IsPlaced t.stage t.folder t.at) where
  pub off_stage : (p : Path) → p ≡ t.stage → is_below p t.folder ≡ true → ⊥
  off_stage p e below = not_both (subst (λ q. is_below q t.folder ≡ true) e below) placed.aside

  pub off_at : (p : Path) → p ≡ t.at → is_below p t.folder ≡ true → ⊥
  off_at p e below = not_both (subst (λ q. is_below q t.folder ≡ true) (e ∙ placed.inside.1) below) (under-not_below t.folder placed.inside.0)

-- a rename leaves nothing where the file stood
shows_moved_from : (v : View) (from to : Path) → shows (moved from to v).now from ≡ Vacant
unfolding moved
shows_moved_from v from to = shows_named (named to (v.now.at from) v) from Absent

module _ (t : Staged) (v : View) (tree : IsTree v.now) (needs : Needs t v) where
  meets_in : (ph : Phase) → t.phase ≡ ph → Meets (firm_in ph t needs.inode) (here_in ph t needs.inode) v
  meets_in ph is = subst (λ f. Meets (firm_in f t needs.inode) (here_in f t needs.inode) v) is needs.meets

  written : (ph : Phase) (w : View) → t.phase ≡ ph → Writes (writes_in ph t v) v w → Writes (WritesOf t v) v w
  written ph w is writes = subst (λ f. Writes (writes_in f t v) v w) (sym is) writes

  folder_now : ((p : Path) (s : Seen) → MayBe v p s → LeadsTo t.folder p s) → is_folder (v.now.at t.folder) ≡ true
  folder_now leads = folder_shows v.now t.folder (leads t.folder _ (may_now v t.folder) (is_below-self t.folder))

  leads_kept : (W : Path → Seen → Type 0) (w : View) → Writes W v w → ((p : Path) (s : Seen) → W p s → (p ≡ t.stage) ⊎ (p ≡ t.at))
      → ((p : Path) (s : Seen) → MayBe v p s → LeadsTo t.folder p s) → (p : Path) (s : Seen) → MayBe w p s → LeadsTo t.folder p s
  leads_kept W w writes where_ was = firm_kept W (LeadsTo t.folder) v w writes
      (λ p s a below. absurd (⊎_elim (λ e. off_stage t needs.placed p e below) (λ e. off_at t needs.placed p e below) (where_ p s a))) was

  -- the look at the target
  pub look : t.phase ≡ Look → NotDirectory (shows v.now t.at) → Needs (next_in Look t) v
  look is leaf =
      let now = meets_in Look is in
      record {
        placed = needs.placed;
        inode = needs.inode;
        meets = record { firm = now.firm; here = λ p. (now.here p, λ e. subst (λ q. NotDirectory (shows v.now q)) (sym e) leaf) };
      }

  -- the staged file may be shown in no other way
  whole : ((p : Path) (s : Seen) → MayBe v p s → FixedFile t.stage needs.inode t.meta t.bytes p s) → v.now.at t.stage ≡ File needs.inode → (s : Seen) → MayShow v (v.now.at t.stage) s → IsWhole t v s
  whole fixed file s shown =
      let n = needs.inode in
      let a : MayShow v (File n) s = subst (λ z. MayShow v z s) file shown in
      let b = fixed t.stage s (record { value = v.now.at t.stage; held = inl refl; shown = shown }) (v.now.meta n) a.0 refl a.1 in
      (n, a.1 ∙ ap (λ m. Leaf n m a.0) b.0 ∙ ap (Leaf n t.meta) b.1, file)

  -- the rename
  stage_apart : t.phase ≡ Replace → one_inode (v.now.at t.stage) (v.now.at t.at) ≡ false
  stage_apart is =
      let now = meets_in Replace is in
      let here = (now.here t.stage).0 refl in
      let file = leaf_file v.now t.stage needs.inode t.meta t.bytes here in
      subst (λ z. one_inode z (v.now.at t.at) ≡ false) (sym file.0) (by (v.now.at t.at) refl (λ p s may. (now.firm p s may).1))
    where
      by : (z : Value) → v.now.at t.at ≡ z → ((p : Path) (s : Seen) → MayBe v p s → Own needs.inode t.stage p s) → one_inode (File needs.inode) z ≡ false
      by Absent is own = refl
      by (Folder m) is own = refl
      by (Link m l) is own = refl
      by (File k) is own = differs (same_inode needs.inode k)
        where
          differs : (needs.inode ≡ k) ⊎ (needs.inode ≢ k) → one_inode (File needs.inode) (File k) ≡ false
          differs (inl e) = absurd (needs.placed.apart (sym (own t.at _ (may_held v t.at needs.inode (inl (sym (is ∙ ap File (sym e))))) (v.now.meta needs.inode) (v.now.bytes needs.inode) refl)))
          differs (inr apart) = apart_inodes needs.inode k apart

  pub two_inodes : (from : Path) → from ≡ t.stage → t.phase ≡ Replace → one_inode (v.now.at from) (v.now.at t.at) ≡ false
  two_inodes from e is = subst (λ p. one_inode (v.now.at p) (v.now.at t.at) ≡ false) (sym e) (stage_apart is)

  replace_stage : t.phase ≡ Replace → Step (WritesOf t v) (Needs (next_in Replace t)) v (no_move t.stage t.at v.now) (moved t.stage t.at v)
  replace_stage is =
      let n = needs.inode in
      let w = moved t.stage t.at v in
      let now = meets_in Replace is in
      let here = (now.here t.stage).0 refl in
      let file = leaf_file v.now t.stage n t.meta t.bytes here in
      let inside = needs.placed.inside in
      let writes : Writes (writes_in Replace t v) v w =
      weaker (Moves t.stage t.at (MayShow v (v.now.at t.stage))) (writes_in Replace t v) v w (λ p s a. ⊎_elim (λ a. inl (a.0, whole (λ p s may. (now.firm p s may).2) file.0 s a.1)) (λ a. inr a) a) (moved-writes v t.stage t.at) in
      let leads = leads_kept (writes_in Replace t v) w writes (λ p s a. ⊎_elim (λ a. inr a.0) (λ a. inl a.0) a) (λ p s may. (now.firm p s may).0) in
      record {
        free = subst (λ q. is_folder (v.now.at q) ≡ false → no_move t.stage q v.now ≡ None) (sym inside.1)
            (no_move-there v.now tree t.stage n t.folder inside.0 file.0 (folder_now (λ p s may. (now.firm p s may).0)))
            (no_folder_shown v.now t.at ((now.here t.at).1 refl));
        writes = written Replace w is writes;
        after = record {
          placed = needs.placed;
          inode = n;
          meets = record {
            firm = λ p s may. (
              leads p s may,
              λ m b e is. ⊎_elim
                  (λ old. absurd (needs.placed.apart (sym ((now.firm p s old).1 m b is) ∙ e)))
                  (λ wrote. ⊎_elim (λ a. same_leaf n m b a.1.0 t.meta t.bytes (sym is ∙ a.1.1)) (λ a. let c : Vacant ≡ Leaf n m b = sym a.1 ∙ is in cc) wrote)
                  (writes.only p s may),
            );
            here = λ p. (
              (λ e. ap (shows w.now) e ∙ shows_moved v t.stage t.at needs.placed.apart ∙ here),
              (λ e. ap (shows w.now) e ∙ shows_moved_from v t.stage t.at),
            );
          };
        };
      }

  pub replace : (from : Path) → from ≡ t.stage → t.phase ≡ Replace → Step (WritesOf t v) (Needs (next_in Replace t)) v (no_move from t.at v.now) (moved from t.at v)
  replace from e is = subst (λ p. Step (WritesOf t v) (Needs (next_in Replace t)) v (no_move p t.at v.now) (moved p t.at v)) (sym e) (replace_stage is)

  -- the folder's sync
  settled : ((p : Path) (s : Seen) → MayBe v p s → LeadsTo t.folder p s × FixedFile t.at needs.inode t.meta t.bytes p s) → ((p : Path) → p ≡ t.at → shows v.now p ≡ Leaf needs.inode t.meta t.bytes)
      → (s : Seen) → MayShow v (v.now.at t.at) s → IsFileWith t.meta t.bytes s
  settled firm here s shown =
      let n = needs.inode in
      let file = leaf_file v.now t.at n t.meta t.bytes (here t.at refl) in
      let a : MayShow v (File n) s = subst (λ z. MayShow v z s) file.0 shown in
      let b = (firm t.at s (record { value = v.now.at t.at; held = inl refl; shown = shown })).1 (v.now.meta n) a.0 refl a.1 in
      (n, a.1 ∙ ap (λ m. Leaf n m a.0) b.0 ∙ ap (Leaf n t.meta) b.1)

  pub sync_folder : t.phase ≡ SyncFolder → Step (WritesOf t v) (Needs (next_in SyncFolder t)) v (no_folder t.folder v.now) (folder_synced t.folder v)
  sync_folder is =
      let n = needs.inode in
      let w = folder_synced t.folder v in
      let now = meets_in SyncFolder is in
      let inside = needs.placed.inside in
      let leads = leads_kept Nothing w (folder_synced-writes v t.folder) (λ p s none. absurd none) (λ p s may. (now.firm p s may).0) in
      record {
        free = no_folder-there v.now tree t.folder (folder_now (λ p s may. (now.firm p s may).0));
        writes = written SyncFolder w is (folder_synced-writes v t.folder);
        after = record {
          placed = needs.placed;
          inode = n;
          meets = record {
            firm = λ p s may. (
              leads p s may,
              λ e. settled now.firm (λ q. (now.here q).0) s
                  (subst (λ q. MayBe w q s → MayShow v (v.now.at q) s) (sym inside.1) (folder_synced-firm v t.folder inside.0 s) (subst (λ q. MayBe w q s) e may)),
            );
            here = λ p e. shows_kept Nothing v w p (folder_synced-writes v t.folder) (λ s none. none) ∙ (now.here p).1 e;
          };
        };
      }

-- ---- a step, as its caller saw the task

pub as_is : (t u : Staged) → t ≡ u → (v : View) (After : View → Type 0) (refusal : Option FsErr) (w : View) → Step (WritesOf t v) After v refusal w → Step (WritesOf u v) After v refusal w
as_is t u same v After refusal w step = subst (λ a. Step (WritesOf a v) After v refusal w) same step
