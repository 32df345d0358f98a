-- What each step of putting an object writes and leaves.
use Rattle.std.proofs.Common.{◌≡◌, ℕ, Bool, true, false, refl, sym, ◌∙◌, ap, subst, List, [], ◌∷◌, ◌++◌, length, take, drop, inl, Option, Some, None, Ok, Err, if◌then◌else◌}
use Rattle.std.specs.Prelude.{nat_lt, IsErrOf, Result}
use Rattle.ost_types.specs.declared.meta.Meta.{Meta}
use Rattle.ost_types.specs.Path.{Path}
use Rattle.fs_trait.specs.declared.types.FsErr.{FsErr}
use Rattle.fs_trait.specs.declared.types.Value.TheVariants.{Absent, Folder, File as FileValue, Link as LinkValue}
use Rattle.fs_trait.specs.declared.types.Value.{Value}
use Rattle.ost_types.specs.declared.object.Kind.{Kind}
use Rattle.ost_types.specs.declared.object.Kind.TheVariants as kind
use Rattle.staging.proofs.StepLemmas.{meta_shown}
use Rattle.std.specs.Prelude.{codes}
use Rattle.fs_trait.specs.declared.types.FsErr.TheVariants.{Failed, Exists, Missing, NotFolder, NotEmpty, NoMemory}
use Rattle.fs_trait.specs.declared.task.StepResult.{StepResult}
use Rattle.fs_trait.specs.declared.task.StepResult.TheVariants.{More, Done}
use Rattle.fs_trait.specs.View.{Disk, View, named}
use Rattle.fs_trait.specs.Image.{IsTree, Told, is_folder}
use Rattle.fs_trait.specs.Effect.{no_leaf, no_new, no_link, Fails}
use Rattle.fs_trait.specs.Seen.{Seen, MayShow, seen, Vacant, Directory, Symlink, Leaf, shows, IsDirectory, NotDirectory}
use Rattle.fs_trait.specs.Change.{Writes, Meets, At}
use Rattle.fs_trait.proofs.Kept.{meets_kept, weaker}
use Rattle.fs_trait.proofs.Claims.{folder_shows}
use Rattle.ost_types.specs.Csum.{hex_of}
use Rattle.fs_trait.proofs.Refusals.{no_leaf-there}
use Rattle.fs_trait.proofs.Effects.{named-writes, shows_named, shows_named_apart}
use Rattle.fs_trait.proofs.Facts.{leaf_file, leaf_not_directory, shows_kept, Fails-writes, no_new-free}
use Rattle.repo_layout.specs.Paths.{folder_path, objects_folder_path, object_path, in_repo, ending}
use Rattle.repo_layout.specs.declared.folder.Folder.TheVariants.{Objects}
use Rattle.staging.specs.declared.phase.Phase as staged
use Rattle.staging.specs.declared.phase.Phase.TheVariants as stage
use Rattle.repo_model.specs.Objects.{object_in, path_of}
use Rattle.staging.specs.Draft as draft
use Rattle.staging.specs.Draft.{Draft}
use Rattle.staging.specs.Steps as staging
use Rattle.obj_store.specs.declared.source.Source.{Source}
use Rattle.obj_store.specs.declared.source.Source.TheVariants.{File, Link}
use Rattle.obj_store.specs.declared.phase.Put.{Put}
use Rattle.obj_store.specs.declared.phase.Put.TheVariants.{Stored}
use Rattle.obj_store.specs.declared.phase.Phase.{Phase}
use Rattle.obj_store.specs.declared.phase.Phase.TheVariants as phase
use Rattle.obj_store.specs.Putting.{Putting, IsMade, IsReady, IsStaged, IsStaging, shown, shown_in, shown_next, turn_in, shown_turn}
use Rattle.obj_store.specs.Steps.{Needs, WritesOf, needs_in, writes_in, stage_needs, gone_stage, still_staged, Refuses, is_clear, ends, goes_on, Came, Tells, IsPut}

folder_free : (d : Disk) (sum : List ℕ) → IsTree d → is_folder (d.at (folder_path Objects)) ≡ true → d.at (objects_folder_path sum) ≡ Absent → no_new (objects_folder_path sum) d ≡ None
unfolding objects_folder_path
folder_free d sum tree folder absent = no_new-free d (folder_path Objects) (take 2 (hex_of sum)) tree folder absent

-- a step whose call isn't refused
pub record Step (t new : Putting) (v : View) (refusal : Option FsErr) (w : View) : Type 0 where
  pub free : refusal ≡ None
  pub writes : Writes (WritesOf t v) v w
  pub after : Needs new w

not_both : (s : Seen) → IsDirectory s → NotDirectory s → ⊥
not_both (Directory m) is not = not
not_both Vacant is not = is
not_both (Leaf n m b) is not = is
not_both (Symlink m l) is not = is

-- no folder stands at the staging path
pub stage_leaf : (d : Draft) (v : View) → staging.Needs d v → NotDirectory (shows v.now d.stage)
stage_leaf d v needs = by d.phase refl needs.meets
  where
    by : (ph : staged.Phase) → d.phase ≡ ph → Meets (staging.firm_in ph d needs.inode) (staging.here_in ph d needs.inode) v → NotDirectory (shows v.now d.stage)
    by stage.Clear is now = (now.here d.stage).0 refl
    by stage.Create is now = subst NotDirectory (sym ((now.here d.stage).0 refl)) tt
    by stage.Append is now = leaf_not_directory _ needs.inode d.meta _ (now.here d.stage refl)
    by stage.SyncFile is now = leaf_not_directory _ needs.inode d.meta _ (now.here d.stage refl)
    by stage.Ended is now = leaf_not_directory _ needs.inode d.meta _ (now.here d.stage refl)

-- a step of staging writes at the staging path alone
pub at_stage : (d : Draft) (v : View) (p : Path) (s : Seen) → staging.WritesOf d v p s → p ≡ d.stage
at_stage d v p s wrote = by d.phase wrote
  where
    by : (ph : staged.Phase) → staging.writes_in ph d v p s → p ≡ d.stage
    by stage.Clear a = a.0
    by stage.Create a = a.0
    by stage.Append a = a.0
    by stage.SyncFile a = absurd a
    by stage.Ended a = absurd a

-- so a folder that is there stays
pub folder_stays : (d : Draft) (v w : View) (f : Path) → staging.Needs d v → Writes (staging.WritesOf d v) v w → IsDirectory (shows v.now f) → IsDirectory (shows w.now f)
folder_stays d v w f needs writes is =
    subst IsDirectory (sym (shows_kept (staging.WritesOf d v) v w f writes (λ s wrote. not_both _ is (subst (λ q. NotDirectory (shows v.now q)) (sym (at_stage d v f s wrote)) (stage_leaf d v needs))))) is

-- what a step of staging leaves of the file
pub record Same (d e : Draft) : Type 0 where
  pub stage : e.stage ≡ d.stage
  pub meta : e.meta ≡ d.meta
  pub bytes : e.bytes ≡ d.bytes

pub next_same : (d : Draft) (ph : staged.Phase) → Same d (draft.next_in ph d)
next_same d stage.Clear = record { stage = refl; meta = refl; bytes = refl }
next_same d stage.Create = record { stage = refl; meta = refl; bytes = refl }
next_same d stage.Append = record { stage = refl; meta = refl; bytes = refl }
next_same d stage.SyncFile = record { stage = refl; meta = refl; bytes = refl }
next_same d stage.Ended = record { stage = refl; meta = refl; bytes = refl }

filling : (k : ℕ) (d : Draft) → IsStaging (draft.filled k d).phase
filling k d = by (nat_lt k (length d.bytes))
  where
    by : (b : Bool) → IsStaging (if b then stage.Append else stage.SyncFile)
    by true = tt
    by false = tt

next_staging : (d : Draft) (ph : staged.Phase) → draft.is_last ph ≡ false → IsStaging (draft.next_in ph d).phase
next_staging d stage.Clear on = tt
next_staging d stage.Create on = filling 0 d
next_staging d stage.Append on = filling (draft.piece_end d) d
next_staging d stage.SyncFile on = let n : true ≡ false = on in cc
next_staging d stage.Ended on = let n : true ≡ false = on in cc

next_ended : (d : Draft) (ph : staged.Phase) → d.phase ≡ ph → draft.is_last ph ≡ true → (draft.next_in ph d).phase ≡ stage.Ended
next_ended d stage.Clear is on = let n : false ≡ true = on in cc
next_ended d stage.Create is on = let n : false ≡ true = on in cc
next_ended d stage.Append is on = let n : false ≡ true = on in cc
next_ended d stage.SyncFile is on = refl
next_ended d stage.Ended is on = is

-- the parts that a task at this phase, with this source, needs
module _ (t : Putting) (v : View) (needs : Needs t v) (d : Draft) (source : t.source ≡ File d) where
  needs_as : (ph : Phase) → t.phase ≡ ph → needs_in ph t v
  needs_as ph is = subst (λ f. needs_in f t v) is needs.meets

  as_stage : stage_needs t.source v → staging.Needs d v
  as_stage has = subst (λ s. stage_needs s v) source has

  pub look_stage : t.phase ≡ phase.Look → staging.Needs d v
  look_stage is = as_stage (needs_as phase.Look is).0

  pub stage_stage : t.phase ≡ phase.Stage → staging.Needs d v
  stage_stage is = as_stage (needs_as phase.Stage is).0

  pub look_home : t.phase ≡ phase.Look → IsDirectory (shows v.now (folder_path Objects))
  look_home is = (needs_as phase.Look is).1

  pub stage_home : t.phase ≡ phase.Stage → IsDirectory (shows v.now (folder_path Objects))
  stage_home is = (needs_as phase.Stage is).1

  made_as : (e : Draft) (ph : Phase) → Same d e → IsStaged ph (File e) → IsMade (record t { source = File e; phase = ph })
  made_as e ph same staged = record {
    actor = needs.made.actor;
    bytes = needs.made.bytes;
    object = record {
      is = rw (same.meta, same.bytes) (subst (λ s. object_in t.name.kind (shown 0 s) ≡ Some needs.made.bytes) source needs.made.object.is);
      named = needs.made.object.named;
    };
    ready =
        let was = subst (λ s. IsReady t.actor s) source needs.made.ready in
        (same.stage ∙ was.0, rw same.meta was.1);
    staged = staged;
  }

  -- a step of staging, and what is left to do
  pub staged_on : (e : Draft) (w : View) → (e ≡ draft.next d) × (draft.is_last d.phase ≡ false) → staging.Needs e w → staging.Needs d v → Writes (staging.WritesOf d v) v w → IsDirectory (shows v.now (folder_path Objects)) → Needs (record t { source = File e; phase = phase.Stage }) w
  staged_on e w next has had writes home = record {
    made = made_as e phase.Stage (subst (Same d) (sym next.0) (next_same d d.phase)) (subst (λ (x : Draft). IsStaging x.phase) (sym next.0) (next_staging d d.phase next.1));
    meets = (has, folder_stays d v w (folder_path Objects) had writes home);
  }

  pub staged_whole : (e : Draft) (w : View) → (e ≡ draft.next d) × (draft.is_last d.phase ≡ true) → staging.Needs e w → staging.Needs d v → Writes (staging.WritesOf d v) v w → IsDirectory (shows v.now (folder_path Objects)) → Needs (record t { source = File e; phase = phase.Folder }) w
  staged_whole e w next has had writes home = record {
    made = made_as e phase.Folder (subst (Same d) (sym next.0) (next_same d d.phase)) (ap (λ (x : Draft). x.phase) next.0 ∙ next_ended d d.phase refl next.1);
    meets = (has, folder_stays d v w (folder_path Objects) had writes home);
  }

  -- the look finds nothing, and clears the staging path
  pub cleared : (e : Draft) (r : StepResult (Unit {0})) → t.phase ≡ phase.Look → draft.IsStepped {T = Unit {0}} d (Ok r) e → (e ≡ draft.next d) × (draft.is_last d.phase ≡ false)
  cleared e More is stepped = stepped
  cleared e (Done x) is stepped =
      let clear : d.phase ≡ stage.Clear = subst (λ f. IsStaged f (File d)) is (subst (λ s. IsStaged t.phase s) source needs.made.staged) in
      let n : false ≡ true = sym (ap draft.is_last clear) ∙ stepped.1 in
      cc

  -- the staging path goes
  pub unlink : (put : Put) → IsTree v.now → t.phase ≡ phase.Unlink put → Step t (record t { phase = phase.Ended put }) v (no_leaf d.stage v.now) (named d.stage Absent v)
  unlink put tree is =
      let here = subst (λ s. still_staged s v) source (needs_as (phase.Unlink put) is) in
      record {
        free = no_leaf-there v.now tree d.stage here.0 (leaf_file v.now d.stage here.0 d.meta d.bytes here.1).0;
        writes = subst (λ f. Writes (writes_in f t v) v (named d.stage Absent v)) (sym is)
            (subst (λ s. Writes (λ p x. gone_stage s p x) v (named d.stage Absent v)) (sym source) (named-writes v d.stage Absent));
        after = record {
          made = record {
            actor = needs.made.actor;
            bytes = needs.made.bytes;
            object = needs.made.object;
            ready = needs.made.ready;
            staged = subst (λ s. IsStaged (phase.Ended put) s) (sym source) tt;
          };
          meets = tt;
        };
      }

  pub unlink_at : (put : Put) (p : Path) → p ≡ d.stage → IsTree v.now → t.phase ≡ phase.Unlink put → Step t (record t { phase = phase.Ended put }) v (no_leaf p v.now) (named p Absent v)
  unlink_at put p same tree is = subst (λ q. Step t (record t { phase = phase.Ended put }) v (no_leaf q v.now) (named q Absent v)) (sym same) (unlink put tree is)

  kept_draft : (w : View) (f : Path) (m : Meta) → staging.Needs d v → d.phase ≡ stage.Ended → shows v.now f ≡ Vacant → Writes (At f (λ s. s ≡ Directory m)) v w → staging.Needs d w
  kept_draft w f m has ended vacant writes =
      let now = subst (λ ph. Meets (staging.firm_in ph d has.inode) (staging.here_in ph d has.inode) v) ended has.meets in
      let apart : f ≡ d.stage → ⊥ = λ e. (let z : Vacant ≡ Leaf has.inode d.meta d.bytes = sym vacant ∙ ap (shows v.now) e ∙ now.here d.stage refl in cc) in
      record {
        placed = has.placed;
        inode = has.inode;
        meets = subst (λ ph. Meets (staging.firm_in ph d has.inode) (staging.here_in ph d has.inode) w) (sym ended)
            (meets_kept (At f (λ s. s ≡ Directory m)) (staging.firm_in stage.Ended d has.inode) (staging.here_in stage.Ended d has.inode) v w writes
            (λ p s a. ((λ k b e. (let z : Directory m ≡ Leaf has.inode k b = sym a.1 ∙ e in cc)), (λ k b at e. (let z : Directory m ≡ Leaf has.inode k b = sym a.1 ∙ e in cc))))
            (λ p s a e. absurd (apart (sym a.0 ∙ e))) now);
      }

-- a link isn't staged
pub unstaged : (t : Putting) (v : View) (m : Meta) (target : List ℕ) → Needs t v → t.source ≡ Link m target → t.phase ≡ phase.Look → Needs (record t { phase = phase.Folder }) v
unstaged t v m target needs source is = record {
  made = record {
    actor = needs.made.actor;
    bytes = needs.made.bytes;
    object = needs.made.object;
    ready = needs.made.ready;
    staged = subst (λ s. IsStaged phase.Folder s) (sym source) tt;
  };
  meets = subst (λ f. needs_in f t v) is needs.meets;
}

-- the folder is made
module _ (t : Putting) (v : View) (needs : Needs t v) (is : t.phase ≡ phase.Folder) where
  folder_needs : needs_in phase.Folder t v
  folder_needs = subst (λ f. needs_in f t v) is needs.meets

  made_folder : IsMade (record t { phase = phase.Link })
  made_folder = record {
    actor = needs.made.actor;
    bytes = needs.made.bytes;
    object = needs.made.object;
    ready = needs.made.ready;
    staged = by t.source refl;
  }
    where
      by : (s : Source) → t.source ≡ s → IsStaged phase.Link t.source
      by (File d) e = subst (IsStaged phase.Link) (sym e) (subst (λ f. IsStaged f (File d)) is (subst (λ s. IsStaged t.phase s) e needs.made.staged))
      by (Link m target) e = subst (IsStaged phase.Link) (sym e) tt

  draft_stays : (w : View) (f : Path) (m : Meta) → shows v.now f ≡ Vacant → Writes (At f (λ s. s ≡ Directory m)) v w → stage_needs t.source w
  draft_stays w f m vacant writes = by t.source refl
    where
      by : (s : Source) → t.source ≡ s → stage_needs t.source w
      by (File d) e =
          let ended : d.phase ≡ stage.Ended = subst (λ f. IsStaged f (File d)) is (subst (λ s. IsStaged t.phase s) e needs.made.staged) in
          subst (λ s. stage_needs s w) (sym e) (kept_draft t v needs d e w f m (subst (λ s. stage_needs s v) e folder_needs.0) ended vacant writes)
      by (Link m target) e = subst (λ s. stage_needs s w) (sym e) tt

  pub folder_there : IsDirectory (shows v.now (objects_folder_path t.name.csum)) → Needs (record t { phase = phase.Link }) v
  folder_there there = record { made = made_folder; meets = (folder_needs.0, there) }

  pub make_folder : (m : Meta) → IsTree v.now → v.now.at (objects_folder_path t.name.csum) ≡ Absent
      → Step t (record t { phase = phase.Link }) v (no_new (objects_folder_path t.name.csum) v.now) (named (objects_folder_path t.name.csum) (Folder m) v)
  make_folder m tree absent =
      let f = objects_folder_path t.name.csum in
      let w = named f (Folder m) v in
      let vacant : shows v.now f ≡ Vacant = ap (seen v.now) absent in
      let writes : Writes (At f (λ s. s ≡ Directory m)) v w = named-writes v f (Folder m) in
      record {
        free = folder_free v.now t.name.csum tree (folder_shows v.now (folder_path Objects) folder_needs.1) absent;
        writes = subst (λ f. Writes (writes_in f t v) v w) (sym is)
            (weaker (At f (λ s. s ≡ Directory m)) (writes_in phase.Folder t v) v w (λ p s a. (a.0, subst IsDirectory (sym a.1) tt, ap (shows v.now) a.0 ∙ vacant)) writes);
        after = record {
          made = made_folder;
          meets = (draft_stays w f m vacant writes, subst IsDirectory (sym (shows_named v f (Folder m))) tt);
        };
      }

  pub make_folder_at : (f : Path) → f ≡ objects_folder_path t.name.csum → (m : Meta) → IsTree v.now → v.now.at f ≡ Absent → Step t (record t { phase = phase.Link }) v (no_new f v.now) (named f (Folder m) v)
  make_folder_at f same m tree absent = subst (λ q. Step t (record t { phase = phase.Link }) v (no_new q v.now) (named q (Folder m) v)) (sym same) (make_folder m tree (subst (λ q. v.now.at q ≡ Absent) same absent))

  pub folder_there_at : (f : Path) → f ≡ objects_folder_path t.name.csum → IsDirectory (shows v.now f) → Needs (record t { phase = phase.Link }) v
  folder_there_at f same there = folder_there (subst (λ q. IsDirectory (shows v.now q)) same there)

module _ (t new u : Putting) (same : t ≡ u) (v : View) (refusal : Option FsErr) (w : View) (step : Step t new v refusal w) where
  written_as : Writes (WritesOf u v) v w
  written_as = subst (λ a. Writes (WritesOf a v) v w) same step.writes

  pub ok_writes : (view : Option View) → (refusal ≡ None) × (view ≡ Some w) → Told view (λ x. Writes (WritesOf u v) v x)
  ok_writes view changed = (w, changed.1, written_as)

  pub ok_after : (view : Option View) → (refusal ≡ None) × (view ≡ Some w) → Told view (λ x. Needs new x)
  ok_after view changed = (w, changed.1, step.after)

  pub ok_after_as : (got : Putting) → got ≡ new → (view : Option View) → (refusal ≡ None) × (view ≡ Some w) → Told view (λ x. Needs got x)
  ok_after_as got is view changed = (w, changed.1, subst (λ a. Needs a w) (sym is) step.after)

  pub err_writes : (e : FsErr) (view : Option View) → Fails refusal v w e view → Told view (λ x. Writes (WritesOf u v) v x)
  err_writes e view fails = Fails-writes (WritesOf u v) refusal v w e view fails written_as

  not_refused : (e : FsErr) → refusal ≡ Some e → ⊥
  not_refused e is = let n : Some e ≡ None = sym is ∙ step.free in cc

  pub err_fails : (e : FsErr) (view : Option View) → Fails refusal v w e view → Refuses u v e
  err_fails Failed view fails = tt
  err_fails NoMemory view fails = tt
  err_fails Exists view fails = absurd (not_refused Exists fails.0)
  err_fails Missing view fails = absurd (not_refused Missing fails.0)
  err_fails NotFolder view fails = absurd (not_refused NotFolder fails.0)
  err_fails NotEmpty view fails = absurd (not_refused NotEmpty fails.0)

  pub err_unchanged : {T : Type 0} (e : FsErr) (view : Option View) → Fails refusal v w e view → IsErrOf {T = T} (Err e) NoMemory → view ≡ Some v
  err_unchanged {T = T} e view fails is =
      let z : ◌≡◌ {A = Result T FsErr} (Err e) (Err NoMemory) = is in
      let same : e ≡ NoMemory = cc in
      subst (λ x. Fails refusal v w x view) same fails

-- nothing stands at the staging path then
pub told_end : (t : Putting) (v : View) (d : Draft) → t.source ≡ File d → (p : Path) → p ≡ d.stage → (was put : Put) → t.phase ≡ phase.Unlink was
    → (refusal : Option FsErr) (view : Option View) → (refusal ≡ None) × (view ≡ Some (named p Absent v)) → Told view (λ x. ends t.phase put t v x)
told_end t v d source p same was put is refusal view changed =
    let w = named p Absent v in
    let vacant : shows w.now d.stage ≡ Vacant = ap (shows w.now) (sym same) ∙ shows_named v p Absent in
    (w, changed.1, subst (λ ph. ends ph put t v w) (sym is) (subst (λ s. is_clear s w) (sym source) vacant))

-- a step that tells nothing
pub told_folder : (t : Putting) (v w : View) (next : Phase) → t.phase ≡ phase.Folder → (view : Option View) → view ≡ Some w → Told view (λ x. goes_on t.phase next t v x)
told_folder t v w next is view told = (w, told, subst (λ ph. goes_on ph next t v w) (sym is) tt)

-- both are told of one view
pub both_told : (view : Option View) (P Q : View → Type 0) → Told view P → Told view Q → (w : View) × (view ≡ Some w) × P w × Q w
both_told view P Q p q =
    let e : Some q.0 ≡ Some p.0 = sym q.1 ∙ p.1 in
    let same : q.0 ≡ p.0 = cc in
    (p.0, p.1, p.2, subst Q same q.2)

object_free : (d : Disk) (kind : Kind) (sum : List ℕ) → IsTree d → is_folder (d.at (objects_folder_path sum)) ≡ true → d.at (object_path kind sum) ≡ Absent → no_new (object_path kind sum) d ≡ None
unfolding objects_folder_path object_path
object_free d kind sum tree folder absent = no_new-free d (in_repo (codes "objects" ∷ take 2 (hex_of sum) ∷ [])) (drop 2 (hex_of sum) ++ ending kind) tree folder absent

link_free : (d : Disk) (from to : Path) → no_leaf from d ≡ None → no_new to d ≡ None → no_link from to d ≡ None
unfolding no_link
link_free d from to leaf new = rw leaf new

pub any_inode : (k : Kind) (n : ℕ) (m : Meta) (b : List ℕ) → object_in k (Leaf n m b) ≡ object_in k (Leaf 0 m b)
any_inode kind.Commit n m b = refl
any_inode kind.DirTree n m b = refl
any_inode kind.DirMeta n m b = refl
any_inode kind.File n m b = refl

-- the object's path is seen to
module _ (t : Putting) (v : View) (needs : Needs t v) (is : t.phase ≡ phase.Link) where
  link_needs : needs_in phase.Link t v
  link_needs = subst (λ f. needs_in f t v) is needs.meets

  ended : (d : Draft) → t.source ≡ File d → d.phase ≡ stage.Ended
  ended d e = subst (λ f. IsStaged f (File d)) is (subst (λ s. IsStaged t.phase s) e needs.made.staged)

  draft_of : (d : Draft) → t.source ≡ File d → staging.Needs d v
  draft_of d e = subst (λ s. stage_needs s v) e link_needs.0

  whole_draft : (d : Draft) (e : t.source ≡ File d) → Meets (staging.firm_in stage.Ended d (draft_of d e).inode) (staging.here_in stage.Ended d (draft_of d e).inode) v
  whole_draft d e = subst (λ ph. Meets (staging.firm_in ph d (draft_of d e).inode) (staging.here_in ph d (draft_of d e).inode) v) (ended d e) (draft_of d e).meets

  here : (d : Draft) (e : t.source ≡ File d) → shows v.now d.stage ≡ Leaf (draft_of d e).inode d.meta d.bytes
  here d e = (whole_draft d e).here d.stage refl

  file : (d : Draft) (e : t.source ≡ File d) → v.now.at d.stage ≡ FileValue (draft_of d e).inode
  file d e = (leaf_file v.now d.stage (draft_of d e).inode d.meta d.bytes (here d e)).0

  whole : (d : Draft) → t.source ≡ File d → (s : Seen) → MayShow v (v.now.at d.stage) s → staging.IsWhole d v s
  whole d e s may =
      let n = (draft_of d e).inode in
      let a : MayShow v (FileValue n) s = subst (λ z. MayShow v z s) (file d e) may in
      let b : a.0 ≡ d.bytes = ((whole_draft d e).firm d.stage s (record { value = v.now.at d.stage; held = inl refl; shown = may })).1 (v.now.meta n) a.0 refl a.1 in
      (n, a.1 ∙ ap (λ m. Leaf n m a.0) (meta_shown v.now d.stage n d.meta d.bytes (here d e)) ∙ ap (Leaf n d.meta) b, file d e)

  made_link : (ph : Phase) → IsStaged ph t.source → IsMade (record t { phase = ph })
  made_link ph staged = record { actor = needs.made.actor; bytes = needs.made.bytes; object = needs.made.object; ready = needs.made.ready; staged = staged }

  pub shown_needs : (put : Put) (w : View) → ((d : Draft) → t.source ≡ File d → shows w.now d.stage ≡ shows v.now d.stage) → Needs (shown_next put t) w
  shown_needs put w stays = by t.source refl
    where
      by : (s : Source) → t.source ≡ s → Needs (shown_next put t) w
      by (File d) e = subst (λ s. Needs (record t { phase = shown_in s put }) w) (sym e) (record {
        made = made_link (phase.Unlink put) (subst (λ s. IsStaged (phase.Unlink put) s) (sym e) (ended d e));
        meets = subst (λ s. still_staged s w) (sym e) ((draft_of d e).inode, stays d e ∙ here d e);
      })
      by (Link m target) e = subst (λ s. Needs (record t { phase = shown_in s put }) w) (sym e) (record {
        made = made_link (phase.Ended put) (subst (λ s. IsStaged (phase.Ended put) s) (sym e) tt);
        meets = tt;
      })

  pub told_shown : (put : Put) (w : View) → Came put t v w → Tells t (shown_next put t) v w (shown_turn put t)
  told_shown put w came = by t.source refl
    where
      by : (s : Source) → t.source ≡ s → Tells t (shown_next put t) v w (shown_turn put t)
      by (File d) e = subst (λ s. Tells t (record t { phase = shown_in s put }) v w (turn_in s put)) (sym e) (subst (λ f. goes_on f (phase.Unlink put) t v w) (sym is) came)
      by (Link m target) e = subst (λ s. Tells t (record t { phase = shown_in s put }) v w (turn_in s put)) (sym e) (subst (λ f. ends f put t v w) (sym is) came)

  free_path : IsTree v.now → v.now.at (path_of t.name) ≡ Absent → no_new (path_of t.name) v.now ≡ None
  free_path tree absent = object_free v.now t.name.kind t.name.csum tree (folder_shows v.now (objects_folder_path t.name.csum) link_needs.1) absent

  vacant_path : v.now.at (path_of t.name) ≡ Absent → shows v.now (path_of t.name) ≡ Vacant
  vacant_path absent = ap (seen v.now) absent

  put_writes : (w : View) (x : Value) → v.now.at (path_of t.name) ≡ Absent → ((s : Seen) → MayShow v x s → IsPut t.source v s) → Writes (At (path_of t.name) (MayShow v x)) v w → Writes (WritesOf t v) v w
  put_writes w x absent is_put writes = subst (λ f. Writes (writes_in f t v) v w) (sym is)
      (weaker (At (path_of t.name) (MayShow v x)) (writes_in phase.Link t v) v w (λ p s a. (a.0, is_put s a.1, ap (shows v.now) a.0 ∙ vacant_path absent)) writes)

  pub link : (d : Draft) → t.source ≡ File d → IsTree v.now → v.now.at (path_of t.name) ≡ Absent
      → Step t (shown_next Stored t) v (no_link d.stage (path_of t.name) v.now) (named (path_of t.name) (v.now.at d.stage) v)
  link d e tree absent =
      let w = named (path_of t.name) (v.now.at d.stage) v in
      record {
        free = link_free v.now d.stage (path_of t.name) (no_leaf-there v.now tree d.stage (draft_of d e).inode (file d e)) (free_path tree absent);
        writes = put_writes w (v.now.at d.stage) absent (λ s may. subst (λ src. IsPut src v s) (sym e) (whole d e s may)) (named-writes v (path_of t.name) (v.now.at d.stage));
        after = shown_needs Stored w (λ d' e'. shows_named_apart v (path_of t.name) (v.now.at d.stage) d'.stage
            (λ same. let z : Vacant ≡ Leaf (draft_of d' e').inode d'.meta d'.bytes = sym (vacant_path absent) ∙ ap (shows v.now) same ∙ here d' e' in cc));
      }

  pub symlink : (m : Meta) (target : List ℕ) → t.source ≡ Link m target → IsTree v.now → v.now.at (path_of t.name) ≡ Absent
      → Step t (shown_next Stored t) v (no_new (path_of t.name) v.now) (named (path_of t.name) (LinkValue m target) v)
  symlink m target e tree absent =
      let w = named (path_of t.name) (LinkValue m target) v in
      record {
        free = free_path tree absent;
        writes = put_writes w (LinkValue m target) absent (λ s may. subst (λ src. IsPut src v s) (sym e) may) (named-writes v (path_of t.name) (LinkValue m target));
        after = shown_needs Stored w (λ d' e'. let z : Link m target ≡ File d' = sym e ∙ e' in cc);
      }

  came_with : (w : View) (n : ℕ) → v.now.at (path_of t.name) ≡ Absent → object_in t.name.kind (shows w.now (path_of t.name)) ≡ object_in t.name.kind (shown 0 t.source) → Came Stored t v w
  came_with w n absent same = (absent, λ bytes object. record { there = same ∙ object.is; named = object.named })

  pub link_came : (d : Draft) → t.source ≡ File d → v.now.at (path_of t.name) ≡ Absent → Came Stored t v (named (path_of t.name) (v.now.at d.stage) v)
  link_came d e absent = came_with (named (path_of t.name) (v.now.at d.stage) v) 0 absent
      (ap (object_in t.name.kind) (shows_named v (path_of t.name) (v.now.at d.stage) ∙ here d e) ∙ any_inode t.name.kind (draft_of d e).inode d.meta d.bytes ∙ ap (λ s. object_in t.name.kind (shown 0 s)) (sym e))

  pub symlink_came : (m : Meta) (target : List ℕ) → t.source ≡ Link m target → v.now.at (path_of t.name) ≡ Absent → Came Stored t v (named (path_of t.name) (LinkValue m target) v)
  symlink_came m target e absent = came_with (named (path_of t.name) (LinkValue m target) v) 0 absent
      (ap (object_in t.name.kind) (shows_named v (path_of t.name) (LinkValue m target)) ∙ ap (λ s. object_in t.name.kind (shown 0 s)) (sym e))

  pub link_at : (d : Draft) → t.source ≡ File d → IsTree v.now → (from to : Path) → from ≡ d.stage → to ≡ path_of t.name → v.now.at to ≡ Absent
      → Step t (shown_next Stored t) v (no_link from to v.now) (named to (v.now.at from) v)
  link_at d e tree from to one other absent = rw (one, other) (link d e tree (subst (λ q. v.now.at q ≡ Absent) other absent))

  pub symlink_at : (m : Meta) (target : List ℕ) → t.source ≡ Link m target → IsTree v.now → (to : Path) → to ≡ path_of t.name → v.now.at to ≡ Absent
      → Step t (shown_next Stored t) v (no_new to v.now) (named to (LinkValue m target) v)
  symlink_at m target e tree to other absent = rw other (symlink m target e tree (subst (λ q. v.now.at q ≡ Absent) other absent))

  pub link_came_at : (d : Draft) → t.source ≡ File d → (from to : Path) → from ≡ d.stage → to ≡ path_of t.name → v.now.at to ≡ Absent → Came Stored t v (named to (v.now.at from) v)
  link_came_at d e from to one other absent = rw (one, other) (link_came d e (subst (λ q. v.now.at q ≡ Absent) other absent))

  pub symlink_came_at : (m : Meta) (target : List ℕ) → t.source ≡ Link m target → (to : Path) → to ≡ path_of t.name → v.now.at to ≡ Absent → Came Stored t v (named to (LinkValue m target) v)
  symlink_came_at m target e to other absent = rw other (symlink_came m target e (subst (λ q. v.now.at q ≡ Absent) other absent))

-- what such a step tells, as its callee names what is left
pub told_as : (t u new : Putting) (turn : StepResult Put) (v w : View) → t ≡ u → new ≡ shown_next Stored t → turn ≡ shown_turn Stored t → Tells t (shown_next Stored t) v w (shown_turn Stored t) → Tells u new v w turn
told_as t u new turn v w same next is tells = rw (next, is) (subst (λ x. Tells x (shown_next Stored t) v w (shown_turn Stored t)) same tells)
