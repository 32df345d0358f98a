-- What a step of a sweep does, whatever it answers then.
use Rattle.std.proofs.Common.{◌≡◌, ◌≢◌, ◌⊎◌, ⊎_elim, inl, inr, ℕ, List, ◌++◌, codes, true, Option, Some, None, Result, Ok, Err, IfErr, IsErrOf, refl, sym, ◌∙◌, ap, subst}
use Rattle.ost_types.specs.Csum.{hex_of}
use Rattle.ost_types.specs.declared.object.ObjName.{ObjName}
use Rattle.ost_types.specs.Path.{Path, under}
use Rattle.fs_trait.specs.declared.types.FsErr.{FsErr}
use Rattle.fs_trait.specs.declared.types.FsErr.TheVariants.{Failed, Exists, Missing, NotFolder, NotEmpty, NoMemory}
use Rattle.fs_trait.specs.declared.types.Value.{Value}
use Rattle.fs_trait.specs.declared.types.Value.TheVariants.{Absent, File, Folder, Link}
use Rattle.fs_trait.specs.Change.{At, Nothing, Writes}
use Rattle.fs_trait.specs.Effect.{Changed, Fails, OfNone, no_leaf, unless_leaf, way}
use Rattle.fs_trait.specs.Image.{IsTree, Told, is_folder}
use Rattle.fs_trait.specs.Seen.{IsDirectory, MayShow, NotDirectory, Seen, seen, shows}
use Rattle.fs_trait.specs.View.{Disk, View, all_synced, named}
use Rattle.fs_trait.proofs.Effects.{all_synced-writes, named-writes}
use Rattle.fs_trait.proofs.Kept.{weaker}
use Rattle.fs_trait.proofs.Ways.{way-folder, way-there}
use Rattle.repo_layout.specs.declared.folder.Folder.TheVariants.{State}
use Rattle.repo_layout.specs.Paths.{folder_path, mark_path}
use Rattle.repo_model.specs.Objects.{path_of}
use Rattle.store_check.specs.Listing.{IsThere}
use Rattle.prune_sweep.specs.declared.part.Part.{Part}
use Rattle.prune_sweep.specs.declared.part.Part.TheVariants as part
use Rattle.prune_sweep.specs.Steps.{Does, DoesIn, IsNext, IsNextMark, TakesMark, TakesObject}
use Rattle.prune_sweep.specs.Sweeping.{Sweeping}
use Rattle.prune_command.specs.SweepSteps.{Did, Unlinks, sweep_needs, sweep_writes}

does_ok_in : {T U : Type 0} (p : Part) (r : Sweeping) (v : View) (x : T) (y : U) (new : Option View) → DoesIn {T = T} p r v (Ok x) new → DoesIn {T = U} p r v (Ok y) new
does_ok_in part.Begin r v x y new does = does
does_ok_in part.Commit r v x y new does = does
does_ok_in part.Barrier r v x y new does = does
does_ok_in part.Object r v x y new does = does
does_ok_in part.Mark r v x y new does = does
does_ok_in part.End r v x y new does = does
does_ok_in part.Over r v x y new does = does

pub does_ok : {T U : Type 0} (r : Sweeping) (v : View) (x : T) (y : U) (new : Option View) → Does {T = T} r v (Ok x) new → Does {T = U} r v (Ok y) new
does_ok r v x y new does = does_ok_in r.part r v x y new does

does_err_in : (T U : Type 0) (p : Part) (r : Sweeping) (v : View) (e : FsErr) (new : Option View) → DoesIn {T = T} p r v (Err e) new → DoesIn {T = U} p r v (Err e) new
does_err_in T U part.Begin r v e new does = does
does_err_in T U part.Commit r v e new does = does
does_err_in T U part.Barrier r v e new does = does
does_err_in T U part.Object r v e new does = does
does_err_in T U part.Mark r v e new does = does
does_err_in T U part.End r v e new does = does
does_err_in T U part.Over r v e new does = does

pub does_err : (T U : Type 0) (r : Sweeping) (v : View) (e : FsErr) (new : Option View) → Does {T = T} r v (Err e) new → Does {T = U} r v (Err e) new
does_err T U r v e new does = does_err_in T U r.part r v e new does

-- ---- what is left

module _ (refusal : Option FsErr) (v w : View) (W : Path → Seen → Type 0) (wrote : Writes W v w) where
  stays : Writes W v v
  stays = record { only = λ p s may. inl may; now = λ p. inl refl }

  fails_writes : (e : FsErr) (new : Option View) → Fails refusal v w e new → Told new (Writes W v)
  fails_writes Failed new f = ⊎_elim (λ is. (v, is, stays)) (λ k. (w, k.1, wrote)) f
  fails_writes NoMemory new f = (v, f, stays)
  fails_writes Exists new f = (v, f.1, stays)
  fails_writes Missing new f = (v, f.1, stays)
  fails_writes NotFolder new f = (v, f.1, stays)
  fails_writes NotEmpty new f = (v, f.1, stays)

  changed_writes : {T : Type 0} (r : Result T FsErr) (new : Option View) → Changed refusal v w r new → Told new (Writes W v)
  changed_writes (Ok x) new c = (w, c.1, wrote)
  changed_writes (Err e) new c = fails_writes e new c

unwritten : (v : View) (W : Path → Seen → Type 0) (new : Option View) → new ≡ Some v → Told new (Writes W v)
unwritten v W new is = (v, is, record { only = λ p s may. inl may; now = λ p. inl refl })

object_writes : {T : Type 0} (r : Sweeping) (v : View) (result : Result T FsErr) (new : Option View) → TakesObject r v result new → Told new (Writes (Unlinks r) v)
object_writes r v result new (o, next, changed) = changed_writes (no_leaf (path_of o) v.now) v (named (path_of o) Absent v) (Unlinks r)
    (weaker (At (path_of o) (MayShow v Absent)) (Unlinks r) v (named (path_of o) Absent v) (λ p s wrote. (o, next, wrote.0, wrote.1)) (named-writes v (path_of o) Absent)) result new changed

mark_writes : (r : Sweeping) (v : View) (p : Path) → IsNextMark r p → Writes (sweep_writes part.Mark r) v (named p Absent v)
mark_writes r v p next = weaker (At p (MayShow v Absent)) (sweep_writes part.Mark r) v (named p Absent v) (λ q s wrote. (subst (IsNextMark r) (sym wrote.0) next, wrote.1)) (named-writes v p Absent)

taken_writes : {T : Type 0} (r : Sweeping) (v : View) (p : Path) → IsNextMark r p → (result : Result T FsErr) (new : Option View) → TakesMark p v result new → Told new (Writes (sweep_writes part.Mark r) v)
taken_writes r v p next (Ok x) new (inl changed) = changed_writes (no_leaf p v.now) v (named p Absent v) (sweep_writes part.Mark r) (mark_writes r v p next) (Ok x) new changed
taken_writes r v p next (Ok x) new (inr away) = unwritten v (sweep_writes part.Mark r) new away.1
taken_writes r v p next (Err e) new fails = fails_writes (no_leaf p v.now) v (named p Absent v) (sweep_writes part.Mark r) (mark_writes r v p next) e new fails

does_writes_in : {T : Type 0} (p : Part) (r : Sweeping) (v : View) (result : Result T FsErr) (new : Option View) → DoesIn p r v result new → Told new (Writes (sweep_writes p r) v)
does_writes_in part.Begin r v result new does = unwritten v (sweep_writes part.Begin r) new does
does_writes_in part.Commit r v result new does = object_writes r v result new does
does_writes_in part.Barrier r v result new does = changed_writes None v (all_synced v) Nothing (all_synced-writes v) result new does
does_writes_in part.Object r v result new does = object_writes r v result new does
does_writes_in part.Mark r v result new (p, next, takes) = taken_writes r v p next result new takes
does_writes_in part.End r v result new does = changed_writes None v (all_synced v) Nothing (all_synced-writes v) result new does
does_writes_in part.Over r v result new does = unwritten v (sweep_writes part.Over r) new does

pub does_writes : {T : Type 0} (r : Sweeping) (v : View) (result : Result T FsErr) (new : Option View) → Does r v result new → Told new (Writes (sweep_writes r.part r) v)
does_writes r v result new does = does_writes_in r.part r v result new does

-- where memory is wanting nothing is changed
does_nothing_in : (T : Type 0) (p : Part) (r : Sweeping) (v : View) (new : Option View) → DoesIn {T = T} p r v (Err NoMemory) new → new ≡ Some v
does_nothing_in T part.Begin r v new does = does
does_nothing_in T part.Commit r v new does = does.2
does_nothing_in T part.Barrier r v new does = does
does_nothing_in T part.Object r v new does = does.2
does_nothing_in T part.Mark r v new does = does.2
does_nothing_in T part.End r v new does = does
does_nothing_in T part.Over r v new does = does

pub does_nothing : (T : Type 0) (r : Sweeping) (v : View) (result : Result T FsErr) (new : Option View) → Does r v result new → IsErrOf result NoMemory → new ≡ Some v
does_nothing T r v result new does is = does_nothing_in T r.part r v new (subst (λ (x : Result T FsErr). Does r v x new) is does)

-- what a step that goes on did
does_did_in : {T : Type 0} (p : Part) (r : Sweeping) (v : View) (x : T) (new : Option View) → DoesIn p r v (Ok x) new → Told new (Did p r v)
does_did_in part.Begin r v x new does = (v, does, refl)
does_did_in part.Commit r v x new does = (named (path_of does.0) Absent v, does.2.1, (does.0, does.1, refl))
does_did_in part.Barrier r v x new does = (all_synced v, does.1, refl)
does_did_in part.Object r v x new does = (named (path_of does.0) Absent v, does.2.1, (does.0, does.1, refl))
does_did_in part.Mark r v x new (p, next, inl changed) = (named p Absent v, changed.1, (p, next, inl refl))
does_did_in part.Mark r v x new (p, next, inr away) = (v, away.1, (p, next, inr refl))
does_did_in part.End r v x new does = (all_synced v, does.1, refl)
does_did_in part.Over r v x new does = (v, does, refl)

pub does_did : {T : Type 0} (r : Sweeping) (v : View) (x : T) (new : Option View) → Does r v (Ok x) new → Told new (Did r.part r v)
does_did r v x new does = does_did_in r.part r v x new does

-- ---- why it fails

leaf_here : (d : Disk) (x : Value) → x ≢ Absent → NotDirectory (seen d x) → unless_leaf x ≡ None
leaf_here d Absent some plain = absurd (some refl)
leaf_here d (Folder m) some plain = absurd plain
leaf_here d (Link m t) some plain = refl
leaf_here d (File n) some plain = refl

leaf_or : (x : Value) → (unless_leaf x ≡ None) ⊎ (unless_leaf x ≡ Some Missing)
leaf_or Absent = inr refl
leaf_or (Folder m) = inr refl
leaf_or (Link m t) = inl refl
leaf_or (File n) = inl refl

leaf_stands : (d : Disk) → IsTree d → (p : Path) → d.at p ≢ Absent → NotDirectory (shows d p) → no_leaf p d ≡ None
unfolding no_leaf
leaf_stands d tree p there plain = rw (way-there d tree p there) (leaf_here d (d.at p) there plain)

folder_shown : (d : Disk) (p : Path) → IsDirectory (shows d p) → is_folder (d.at p) ≡ true
folder_shown d p is = by (d.at p) is
  where
    by : (x : Value) → IsDirectory (seen d x) → is_folder x ≡ true
    by (Folder m) is_ = refl
    by Absent is_ = absurd is_
    by (Link m t) is_ = absurd is_
    by (File n) is_ = absurd is_

mark_under : (commit : List ℕ) → mark_path commit ≡ under (folder_path State) (hex_of commit ++ codes ".commitpartial")
unfolding mark_path
mark_under commit = refl

mark_or : (d : Disk) → IsTree d → IsDirectory (shows d (folder_path State)) → (commit : List ℕ) → (no_leaf (mark_path commit) d ≡ None) ⊎ (no_leaf (mark_path commit) d ≡ Some Missing)
unfolding no_leaf
mark_or d tree is commit = rw (ap (way d) (mark_under commit) ∙ way-folder d tree (folder_path State) (hex_of commit ++ codes ".commitpartial") (folder_shown d (folder_path State) is)) (leaf_or (d.at (mark_path commit)))

fails_none : (refusal : Option FsErr) (v w : View) (e : FsErr) (new : Option View) → refusal ≡ None → Fails refusal v w e new → OfNone e
fails_none refusal v w Failed new none f = tt
fails_none refusal v w NoMemory new none f = tt
fails_none refusal v w Exists new none f = let n : None ≡ Some Exists = sym none ∙ f.0 in cc
fails_none refusal v w Missing new none f = let n : None ≡ Some Missing = sym none ∙ f.0 in cc
fails_none refusal v w NotFolder new none f = let n : None ≡ Some NotFolder = sym none ∙ f.0 in cc
fails_none refusal v w NotEmpty new none f = let n : None ≡ Some NotEmpty = sym none ∙ f.0 in cc

fails_missing : (refusal : Option FsErr) (v w : View) (e : FsErr) (new : Option View) → refusal ≡ Some Missing → (e ≡ Missing → ⊥) → Fails refusal v w e new → OfNone e
fails_missing refusal v w Failed new is not f = tt
fails_missing refusal v w NoMemory new is not f = tt
fails_missing refusal v w Missing new is not f = absurd (not refl)
fails_missing refusal v w Exists new is not f = let n : Some Missing ≡ Some Exists = sym is ∙ f.0 in cc
fails_missing refusal v w NotFolder new is not f = let n : Some Missing ≡ Some NotFolder = sym is ∙ f.0 in cc
fails_missing refusal v w NotEmpty new is not f = let n : Some Missing ≡ Some NotEmpty = sym is ∙ f.0 in cc

object_fails : (T : Type 0) (r : Sweeping) (v : View) (e : FsErr) (new : Option View) → IsTree v.now → ((o : ObjName) → IsNext r o → IsThere v.now o × NotDirectory (shows v.now (path_of o))) → TakesObject {T = T} r v (Err e) new → OfNone e
object_fails T r v e new tree needs (o, next, fails) =
    fails_none (no_leaf (path_of o) v.now) v (named (path_of o) Absent v) e new (leaf_stands v.now tree (path_of o) (needs o next).0.there (needs o next).1) fails

does_fails_in : (T : Type 0) (p : Part) (r : Sweeping) (v : View) (e : FsErr) (new : Option View) → IsTree v.now → sweep_needs p r v → (p ≡ part.Begin → OfNone e) → (p ≡ part.Mark → e ≡ Missing → ⊥) → DoesIn {T = T} p r v (Err e) new → OfNone e
does_fails_in T part.Begin r v e new tree needs begins marks does = begins refl
does_fails_in T part.Commit r v e new tree needs begins marks does = object_fails T r v e new tree needs does
does_fails_in T part.Barrier r v e new tree needs begins marks does = fails_none None v (all_synced v) e new refl does
does_fails_in T part.Object r v e new tree needs begins marks does = object_fails T r v e new tree needs does
does_fails_in T part.Mark r v e new tree needs begins marks (p, next, fails) =
    let at = needs.1 p next in
    ⊎_elim
    (λ none. fails_none (no_leaf p v.now) v (named p Absent v) e new none fails)
    (λ missing. fails_missing (no_leaf p v.now) v (named p Absent v) e new missing (marks refl) fails)
    (subst (λ q. (no_leaf q v.now ≡ None) ⊎ (no_leaf q v.now ≡ Some Missing)) (sym at.1) (mark_or v.now tree needs.0 at.0))
does_fails_in T part.End r v e new tree needs begins marks does = fails_none None v (all_synced v) e new refl does
does_fails_in T part.Over r v e new tree needs begins marks does = absurd needs

pub does_fails : (T : Type 0) (r : Sweeping) (v : View) (result : Result T FsErr) (new : Option View) → IsTree v.now → sweep_needs r.part r v → (r.part ≡ part.Begin → IfErr result OfNone) × (r.part ≡ part.Mark → IsErrOf result Missing → ⊥) → Does r v result new → IfErr result OfNone
does_fails T r v (Ok x) new tree needs refused does = tt
does_fails T r v (Err e) new tree needs refused does = does_fails_in T r.part r v e new tree needs refused.0 (λ is same. refused.1 is (ap Err same)) does
