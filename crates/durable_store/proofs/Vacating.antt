-- A step that leaves nothing new, and nothing else at the paths of some objects: what stays of the store.
use Rattle.std.proofs.Common.{◌≡◌, ◌≢◌, inl, inr, ⊎_elim, ℕ, List, Some, None, sym, ◌∙◌, ap}
use Rattle.ost_types.specs.declared.limits.Limits.{Limits}
use Rattle.ost_types.specs.declared.object.Kind.{Kind}
use Rattle.ost_types.specs.declared.object.Kind.TheVariants.{Commit}
use Rattle.ost_types.specs.declared.object.ObjName.{ObjName}
use Rattle.ost_types.specs.Path.{Path}
use Rattle.fs_trait.specs.View.{View}
use Rattle.fs_trait.specs.Seen.{Seen, Vacant, MayBe}
use Rattle.repo_layout.specs.Paths.{config_path, mark_path, objects_folder_path, ref_path}
use Rattle.repo_layout.specs.RefFile.{IsSum}
use Rattle.repo_model.specs.Objects.{Store, object_in, path_of}
use Rattle.repo_model.specs.Trees.{name_of}
use Rattle.repo_model.proofs.Named.{IsSum-named}
use Rattle.reach.specs.Reach.{Is, ObjNames, Reach, Refers}
use Rattle.reach.proofs.Parts.{whole_kept}
use Rattle.reach.proofs.Reaching.{reach_up}
use Rattle.tree_build.specs.Objects.{Object}
use Rattle.rely_guarantee.specs.Disks.{Says}
use Rattle.rely_guarantee.specs.Lasting.{AlwaysStores, IsSafe, StaysFinished}
use Rattle.rely_guarantee.specs.State.{RefOf}
use Rattle.rely_guarantee.specs.SystemInvariant.{Leads}
use Rattle.rely_guarantee.proofs.Lasting.{no_vacant_leaf}
use Rattle.rely_guarantee.proofs.States.{says_leaf}
use Rattle.durable_store.specs.Brought.{MayRight}
use Rattle.durable_store.specs.Standing.{AreListed, Below, IsHeld, IsKeptWhole, IsNeverThere, IsWholeIfThere, StoreStands}
use Rattle.durable_store.proofs.Apart.{vacant_or}
use Rattle.durable_store.proofs.Wholes.{below_map}

pub stored_there : (kind : Kind) (s : Seen) (bytes : List ℕ) → object_in kind s ≡ Some bytes → s ≢ Vacant
stored_there kind s bytes holds none = let n : None ≡ Some bytes = sym (ap (object_in kind) none) ∙ holds in cc

module _ (v w : View) (there : (p : Path) (s : Seen) → MayBe w p s → s ≢ Vacant → MayBe v p s) (leads : (sum : List ℕ) → Leads v (objects_folder_path sum) → Leads w (objects_folder_path sum))
    (spared : ObjNames) (same : (o : ObjName) → IsSum o.csum → spared o → (s : Seen) → MayBe w (path_of o) s → MayBe v (path_of o) s) where
  safe_on : (o : ObjName) → spared o → IsSafe v o → IsSafe w o
  safe_on o stays safe = record { sum = safe.sum; there = λ s may. safe.there s (same o safe.sum stays s may); above = leads o.csum safe.above }

  always_on : (o : ObjName) (b : List ℕ) → spared o → AlwaysStores v o b → AlwaysStores w o b
  always_on o b stays has = record { holds = λ s may. has.holds s (same o (IsSum-named o b has.named) stays s may); above = leads o.csum has.above; named = has.named }

  pub never_on : (commit : List ℕ) → IsNeverThere v commit → IsNeverThere w commit
  never_on commit never s may = ⊎_elim (λ none. none) (λ some. never s (there (path_of (name_of Commit commit)) s may some)) (vacant_or s)

  pub right_on : (objects : List Object) (o : ObjName) (b : List ℕ) → MayRight w objects o b → MayRight v objects o b
  right_on objects o b (of, s, may, holds) = (of, s, there (path_of o) s may (stored_there o.kind s b holds), holds)

  -- A commit that is whole where it is there, if what it leads to is spared.
  pub whole_on : (limits : Limits) (commit : List ℕ) (is : IsWholeIfThere limits v commit) (keep : ObjNames) → keep (name_of Commit commit) → ((o next : ObjName) → keep o → Refers (Below v commit is.bytes) o next → keep next)
      → ((o : ObjName) → o.kind ≢ Commit → keep o → spared o) → IsWholeIfThere limits w commit
  whole_on limits commit is keep at closed stays = record {
    bytes = is.bytes;
    only = λ s may some. is.only s (there (path_of (name_of Commit commit)) s may some) some;
    named = is.named;
    whole = whole_kept (Below v commit is.bytes) limits commit is.whole keep at closed (Below w commit is.bytes) (below_map w commit is.bytes)
        (λ o b kept. ⊎_elim (λ a. inl (a.0, always_on o b (stays o a.0 kept) a.1)) (λ itself. inr itself));
  }

  -- And one of brought bytes.
  pub held_less : (limits : Limits) (brings : Store) (commit : List ℕ) (is : IsHeld limits brings v commit)
      → ((o : ObjName) → o.kind ≢ Commit → Reach (MayRight v is.objects) (Is (name_of Commit commit)) o → spared o) → IsHeld limits brings w commit
  held_less limits brings commit is stays = record {
    objects = is.objects;
    brought = is.brought;
    is = is.is;
    held = λ o plain reached.
        let was = reach_up (MayRight w is.objects) (MayRight v is.objects) (Is (name_of Commit commit)) (Is (name_of Commit commit)) (λ x e. e) (right_on is.objects) o reached in
        safe_on o (stays o plain was) (is.held o plain was);
  }

  -- where each that isn't a commit is spared
  pub spared_whole : (limits : Limits) (commit : List ℕ) → ((o : ObjName) → o.kind ≢ Commit → spared o) → IsWholeIfThere limits v commit → IsWholeIfThere limits w commit
  spared_whole limits commit stays is = whole_on limits commit is (λ o. Unit {0}) tt (λ o next kept refers. tt) (λ o plain kept. stays o plain)

  pub spared_held : (limits : Limits) (brings : Store) (commit : List ℕ) → ((o : ObjName) → o.kind ≢ Commit → spared o) → IsHeld limits brings v commit → IsHeld limits brings w commit
  spared_held limits brings commit stays is = held_less limits brings commit is (λ o plain reached. stays o plain)

  finished_on : (commit : List ℕ) → spared (name_of Commit commit) → StaysFinished v commit → StaysFinished w commit
  finished_on commit stays f = record {
    there = safe_on (name_of Commit commit) stays f.there;
    unmarked = record { each = λ s may leaf. f.unmarked.each s (there (mark_path commit) s may (no_vacant_leaf s leaf)) leaf };
  }

  listed_on : (names : List ObjName) → AreListed names v → AreListed names w
  listed_on names listed = record { ascending = listed.ascending; sums = listed.sums; all = λ o sum s may some. listed.all o sum s (there (path_of o) s may some) some }

  ref_before : (name commit : List ℕ) (s : Seen) → MayBe w (ref_path name) s → Says (RefOf name) (Some commit) s → MayBe v (ref_path name) s
  ref_before name commit s may says = there (ref_path name) s may (no_vacant_leaf s (says_leaf name commit s says))

  -- So the store stands, if its commits do, and those are spared that refs may name.
  pub stands_on : (limits : Limits) (brings : Store) (config : Seen → Type 0) (names : List ObjName)
      → ((commit : List ℕ) → IsSum commit → IsKeptWhole limits brings v commit → IsKeptWhole limits brings w commit)
      → ((name commit : List ℕ) (s : Seen) → MayBe v (ref_path name) s → Says (RefOf name) (Some commit) s → spared (name_of Commit commit))
      → ((s : Seen) → MayBe w config_path s → MayBe v config_path s)
      → StoreStands limits brings config names v → StoreStands limits brings config names w
  stands_on limits brings config names commits refs before is = record {
    objects = λ o sum s may some. is.objects o sum s (there (path_of o) s may some) some;
    listed = listed_on names is.listed;
    commits = λ commit sum. commits commit sum (is.commits commit sum);
    founded = λ name commit s may says.
        let was = ref_before name commit s may says in
        finished_on commit (refs name commit s was says) (is.founded name commit s was says);
    settled = λ s may. is.settled s (before s may);
  }
