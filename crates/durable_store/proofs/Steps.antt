-- A step whose writes keep what a store keeps.
use Rattle.std.proofs.Common.{◌≡◌, ◌≢◌, ◌⊎◌, inl, inr, ⊎_elim, ℕ, refl, sym, ◌∙◌, subst, List, [], ◌∷◌, Some}
use Rattle.std.specs.Prelude.{Contains}
use Rattle.ost_types.specs.declared.limits.Limits.{Limits}
use Rattle.ost_types.specs.declared.object.Kind.TheVariants.{Commit}
use Rattle.ost_types.specs.declared.object.ObjName.{ObjName}
use Rattle.ost_types.specs.Path.{Path}
use Rattle.fs_trait.specs.declared.types.Value.{Value}
use Rattle.fs_trait.specs.declared.types.Value.TheVariants as value
use Rattle.fs_trait.specs.View.{View}
use Rattle.fs_trait.specs.Image.{Among}
use Rattle.fs_trait.specs.Seen.{Seen, Vacant, Directory, Symlink, Leaf, seen, MayShow, MayBe}
use Rattle.fs_trait.specs.Change.{Writes}
use Rattle.fs_trait.proofs.Effects.{MayShow-now}
use Rattle.repo_layout.specs.Paths.{config_path, mark_path, ref_path}
use Rattle.repo_layout.specs.RefFile.{IsSum}
use Rattle.repo_model.specs.Objects.{Store, path_of}
use Rattle.repo_model.specs.Trees.{name_of}
use Rattle.rely_guarantee.proofs.Finished.{finished_stays}
use Rattle.rely_guarantee.specs.Disks.{IsLeaf, Says}
use Rattle.rely_guarantee.specs.Lasting.{Stays, StaysFinished}
use Rattle.rely_guarantee.specs.State.{RefOf}
use Rattle.rely_guarantee.proofs.Lasting.{none_out}
use Rattle.tree_build.proofs.Lists as lists
use Rattle.tree_build.proofs.Lists.{contained_among, among_contained}
use Rattle.durable_store.specs.Standing.{AreListed, IsAlwaysMarked, IsKeptWhole, IsSoundSeen, StoreStands}
use Rattle.durable_store.specs.Writing.{Grows, KeepsCommit, KeepsStore, SparesCommit, StoresAtMostOne}
use Rattle.durable_store.proofs.Holding.{held_new, held_on}
use Rattle.durable_store.proofs.Names.{IsWith, with_name}
use Rattle.durable_store.proofs.Wholes.{whole_stays}

-- a crash may leave something at the path, or none does
some_value : (xs : List Value) → ((x : Value) → Among xs x → x ≡ value.Absent) ⊎ ((x : Value) × Among xs x × (x ≢ value.Absent))
some_value [] = inl (λ x among. absurd among)
some_value (y ∷ ys) = ⊎_elim
    (λ rest. ⊎_elim (λ none. inl (λ x among. ⊎_elim (λ e. e ∙ none) (rest x) among)) (λ there. inr (y, inl refl, there)) (absent_or y))
    (λ w. inr (w.0, inr w.1, w.2))
    (some_value ys)
  where
    absent_or : (y : Value) → (y ≡ value.Absent) ⊎ (y ≢ value.Absent)
    absent_or value.Absent = inl refl
    absent_or (value.Folder m) = inr (λ e. (let k : value.Folder m ≡ value.Absent = e in cc))
    absent_or (value.Link m t) = inr (λ e. (let k : value.Link m t ≡ value.Absent = e in cc))
    absent_or (value.File n) = inr (λ e. (let k : value.File n ≡ value.Absent = e in cc))

shown_absent : (v : View) (x : Value) (s : Seen) → MayShow v x s → x ≡ value.Absent → s ≡ Vacant
shown_absent v x s may e = let k : MayShow v value.Absent s = subst (λ y. MayShow v y s) e may in k

seen_there : (v : View) (x : Value) → x ≢ value.Absent → seen v.now x ≢ Vacant
seen_there v value.Absent there = absurd (there refl)
seen_there v (value.Folder m) there = λ e. (let n : Directory m ≡ Vacant = e in cc)
seen_there v (value.Link m t) there = λ e. (let n : Symlink m t ≡ Vacant = e in cc)
seen_there v (value.File n) there = λ e. (let k : Leaf n (v.now.meta n) (v.now.bytes n) ≡ Vacant = e in cc)

pub nothing_or : (v : View) (p : Path) → ((s : Seen) → MayBe v p s → s ≡ Vacant) ⊎ ((s : Seen) × MayBe v p s × (s ≢ Vacant))
nothing_or v p = ⊎_elim
    (λ none. inl (λ s may. shown_absent v may.value s may.shown (none may.value may.held)))
    (λ w. inr (seen v.now w.0, record { value = w.0; held = w.1; shown = MayShow-now v w.0 }, seen_there v w.0 w.2))
    (some_value (v.now.at p ∷ v.older p))

module _ (limits : Limits) (brings : Store) (v w : View) (stays : Stays [] v w) where
  module _ (W : Path → Seen → Type 0) (writes : Writes W v w) (does : KeepsStore limits brings v W) where
    objects_kept : ((name : ObjName) → IsSum name.csum → (s : Seen) → MayBe v (path_of name) s → s ≢ Vacant → IsSoundSeen limits.content name s)
        → (name : ObjName) → IsSum name.csum → (s : Seen) → MayBe w (path_of name) s → s ≢ Vacant → IsSoundSeen limits.content name s
    objects_kept was name sum s may there = ⊎_elim (λ old. was name sum s old there) (λ wrote. does.objects name sum s wrote) (writes.only (path_of name) s may)

    founded_kept : ((name commit : List ℕ) (s : Seen) → MayBe v (ref_path name) s → Says (RefOf name) (Some commit) s → StaysFinished v commit)
        → (name commit : List ℕ) (s : Seen) → MayBe w (ref_path name) s → Says (RefOf name) (Some commit) s → StaysFinished w commit
    founded_kept was name commit s may says = finished_stays [] v w commit stays (none_out (name_of Commit commit))
        (⊎_elim (λ old. was name commit s old says) (λ wrote. does.refs name commit s wrote says) (writes.only (ref_path name) s may))

    settled_kept : (config : Seen → Type 0) → ((s : Seen) → MayBe v config_path s → config s) → (s : Seen) → MayBe w config_path s → config s
    settled_kept config was s may = ⊎_elim (was s) (λ wrote. absurd (does.config s wrote)) (writes.only config_path s may)

    -- a commit that isn't written
    marked_kept : (commit : List ℕ) → ((s : Seen) → W (mark_path commit) s → IsLeaf s) → IsAlwaysMarked v commit → IsAlwaysMarked w commit
    marked_kept commit leaves was s may = ⊎_elim (was s) (leaves s) (writes.only (mark_path commit) s may)

    object_before : (commit : List ℕ) → ((s : Seen) → W (path_of (name_of Commit commit)) s → ⊥) → (s : Seen) → MayBe w (path_of (name_of Commit commit)) s → MayBe v (path_of (name_of Commit commit)) s
    object_before commit none s may = ⊎_elim (λ was. was) (λ wrote. absurd (none s wrote)) (writes.only (path_of (name_of Commit commit)) s may)

    spared_kept : (commit : List ℕ) → SparesCommit W commit → IsKeptWhole limits brings v commit → IsKeptWhole limits brings w commit
    spared_kept commit spares (inl marked) = inl (marked_kept commit spares.mark marked)
    spared_kept commit spares (inr (inl never)) = inr (inl (λ s may. never s (object_before commit spares.object s may)))
    spared_kept commit spares (inr (inr (inl whole))) = inr (inr (inl (whole_stays limits commit v w stays (object_before commit spares.object) whole)))
    spared_kept commit spares (inr (inr (inr held))) = inr (inr (inr (held_on limits brings commit v w stays (object_before commit spares.object) held)))

    -- and one that is written
    commit_kept : (commit : List ℕ) → KeepsCommit limits brings v W commit → IsKeptWhole limits brings v commit → IsKeptWhole limits brings w commit
    commit_kept commit (inl seal) was = inr (inr (inr (held_new limits brings commit v w stays seal)))
    commit_kept commit (inr (inl spares)) was = spared_kept commit spares was
    commit_kept commit (inr (inr (inl marked))) was = inl (marked_kept commit marked.mark marked.marked)
    commit_kept commit (inr (inr (inr whole))) was = inr (inr (inl (whole_stays limits commit v w stays (object_before commit whole.object) whole.whole)))

    commits_kept : ((commit : List ℕ) → IsSum commit → IsKeptWhole limits brings v commit) → (commit : List ℕ) → IsSum commit → IsKeptWhole limits brings w commit
    commits_kept was commit sum = commit_kept commit (does.commits commit sum) (was commit sum)

    module _ (names : List ObjName) (listed : AreListed names v) where
      -- the names are enough
      same_names : ((name : ObjName) → IsSum name.csum → (s : Seen) → W (path_of name) s → MayBe w (path_of name) s → s ≢ Vacant → Contains names name) → AreListed names w
      same_names new = record {
        ascending = listed.ascending;
        sums = listed.sums;
        all = λ name sum s may there. ⊎_elim (λ old. listed.all name sum s old there) (λ wrote. new name sum s wrote may there) (writes.only (path_of name) s may);
      }

      abbrev Names : Type 0
      Names = (next : List ObjName) × Grows W w names next × AreListed next w

      module _ (one : ObjName) (is_sum : IsSum one.csum) (only : (name : ObjName) → IsSum name.csum → (s : Seen) → W (path_of name) s → name ≡ one) where
        with_one : (next : List ObjName) → IsWith one names next → AreListed next w
        with_one next more = record {
          ascending = more.ascending;
          sums = λ name has. ⊎_elim (λ old. listed.sums name (among_contained name names old)) (λ e. subst (λ (o : ObjName). IsSum o.csum) e is_sum) (more.only name (contained_among name next has));
          all = λ name sum s may there. among_contained name next (⊎_elim
              (λ old. more.had name (contained_among name names (listed.all name sum s old there)))
              (λ wrote. subst (λ o. lists.Among o next) (sym (only name sum s wrote)) more.has)
              (writes.only (path_of name) s may));
        }

        fewer : ((s : Seen) → MayBe w (path_of one) s → s ≢ Vacant → Contains names one) → Names
        fewer has = (
          names,
          inl refl,
          same_names (λ name sum s wrote may there.
              let e = only name sum s wrote in
              subst (Contains names) (sym e) (has s (subst (λ (o : ObjName). MayBe w (path_of o) s) e may) there)),
        )

        one_more : (s : Seen) → MayBe w (path_of one) s → s ≢ Vacant → W (path_of one) s → Names
        one_more s may there wrote = ⊎_elim
            (λ among. fewer (λ x has some. among_contained one names among))
            (λ more. (
              more.0,
              inr (record { name = one; sum = is_sum; shown = s; written = wrote; may = may; there = there; new = λ has. more.1.apart (contained_among one names has); longer = more.1.longer }),
              with_one more.0 more.1,
            ))
            (with_name one names listed.ascending)

        names_with : Names
        names_with = ⊎_elim
            (λ none. fewer (λ s may there. absurd (there (none s may))))
            (λ w_. ⊎_elim
            (λ old. fewer (λ s may there. listed.all one is_sum w_.0 old w_.2))
            (λ wrote. one_more w_.0 w_.1 w_.2 wrote)
            (writes.only (path_of one) w_.0 w_.1))
            (nothing_or w (path_of one))

      names_by : StoresAtMostOne W → Names
      names_by (inl none) = (names, inl refl, same_names (λ name sum s wrote may there. absurd (none name sum s wrote)))
      names_by (inr w_) = names_with w_.0 w_.1 w_.2

      pub names_kept : Names
      names_kept = names_by does.one

    -- what is so of the store is so again
    pub stands_kept : (config : Seen → Type 0) (names : List ObjName) → StoreStands limits brings config names v → (next : List ObjName) × Grows W w names next × StoreStands limits brings config next w
    stands_kept config names was =
        let n = names_kept names was.listed in (
          n.0,
          n.1,
          record {
            objects = objects_kept was.objects;
            listed = n.2;
            commits = commits_kept was.commits;
            founded = founded_kept was.founded;
            settled = settled_kept config was.settled;
          },
        )

-- more may be brought
pub stands_wider : (limits : Limits) (brings more : Store) (config : Seen → Type 0) (names : List ObjName) (v : View) → ((name : ObjName) (b : List ℕ) → brings name b → more name b)
    → StoreStands limits brings config names v → StoreStands limits more config names v
stands_wider limits brings more config names v wider was = record {
  objects = was.objects;
  listed = was.listed;
  commits = λ commit sum. by commit (was.commits commit sum);
  founded = was.founded;
  settled = was.settled;
}
  where
    by : (commit : List ℕ) → IsKeptWhole limits brings v commit → IsKeptWhole limits more v commit
    by commit (inl marked) = inl marked
    by commit (inr (inl never)) = inr (inl never)
    by commit (inr (inr (inl whole))) = inr (inr (inl whole))
    by commit (inr (inr (inr held))) = inr (inr (inr (record {
      objects = held.objects;
      brought = λ o among. wider o.name o.bytes (held.brought o among);
      is = held.is;
      held = held.held;
    })))

pub keeps_wider : (limits : Limits) (brings more : Store) (v : View) (W : Path → Seen → Type 0) → ((name : ObjName) (b : List ℕ) → brings name b → more name b) → KeepsStore limits brings v W → KeepsStore limits more v W
keeps_wider limits brings more v W wider keeps = record {
  objects = keeps.objects;
  one = keeps.one;
  commits = λ commit sum. by commit (keeps.commits commit sum);
  refs = keeps.refs;
  config = keeps.config;
}
  where
    by : (commit : List ℕ) → KeepsCommit limits brings v W commit → KeepsCommit limits more v W commit
    by commit (inl seal) = inl (record { objects = seal.objects; brought = λ o among. wider o.name o.bytes (seal.brought o among); is = seal.is; safe = seal.safe })
    by commit (inr rest) = inr rest
