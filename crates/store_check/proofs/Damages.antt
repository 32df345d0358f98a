-- What is told of all objects, from what is told of one.
use Rattle.std.proofs.Common.{◌≡◌, ◌≢◌, inl, inr, ℕ, ◌<◌, ◌≤◌, ◌+◌, List, length, get_or, refl, sym, ◌∙◌, ap, subst, arith, Option, Some, None, Ok, Err}
use Rattle.std.specs.declared.cmp.Ordering.TheVariants.{Less}
use Rattle.ost_types.specs.declared.limits.Limits.{Limits}
use Rattle.ost_types.specs.declared.object.Kind.{Kind}
use Rattle.ost_types.specs.declared.object.Kind.TheVariants as kind
use Rattle.ost_types.specs.declared.object.ObjName.{ObjName}
use Rattle.ost_types.specs.Path.{path_cmp}
use Rattle.ost_objects.specs.declared.checked.Checked.{Checked}
use Rattle.ost_objects.specs.declared.fault.CheckFault.{CheckFault}
use Rattle.ost_objects.specs.declared.fault.CheckFault.TheVariants as check
use Rattle.ost_objects.specs.Object.{HasForm}
use Rattle.fs_trait.specs.declared.types.FsErr.{FsErr}
use Rattle.fs_trait.specs.declared.types.FsErr.TheVariants as fs
use Rattle.fs_trait.specs.declared.types.Value.TheVariants.{Absent}
use Rattle.fs_trait.specs.Effect.{OfNone}
use Rattle.fs_trait.specs.Seen.{seen, Vacant}
use Rattle.fs_trait.specs.View.{Disk}
use Rattle.repo_model.specs.Objects.{Has, Stores, object_at, object_in, path_of}
use Rattle.obj_store.specs.declared.fault.LoadFault.TheVariants as load
use Rattle.obj_store.specs.Lookup.{IsMisfit, Loads}
use Rattle.store_check.specs.declared.fault.ObjectsFault.{ObjectsFault}
use Rattle.store_check.specs.declared.fault.ObjectsFault.TheVariants.{TooMany, Damaged, Fs, NoMemory}
use Rattle.store_check.specs.Listing.{IsThere, AreAll}
use Rattle.store_check.specs.Objects.{AreSound, ChecksEach, ChecksObjects, Finds, IsBad, IsFirstBad, IsFirstOf, IsSound, attributes_of}
use Rattle.store_check.proofs.Firsts.{SoFar, so_before}
use Rattle.store_check.proofs.Orders.{attributes_before, less_trans, not_less_itself}

-- a loaded object is sound
pub loaded_sound : (d : Disk) (content : ℕ) (name : ObjName) (o : Checked) → Loads d name content (Ok (Some o)) → HasForm o.name.kind o.limit o.bytes → IsSound d content name
loaded_sound d content name o loads formed there = record {
  bytes = o.bytes;
  stored = loads.2;
  formed = subst (λ l. HasForm name.kind l o.bytes) loads.1 (subst (λ n. HasForm n.kind o.limit o.bytes) loads.0 formed);
}

pub absent_sound : (d : Disk) (content : ℕ) (name : ObjName) → Loads d name content (Ok None) → IsSound d content name
absent_sound d content name none there = absurd (there.there none)

-- only a failed call and want of memory end a look at an object
pub load_ends : (d : Disk) (content : ℕ) (name : ObjName) (e : FsErr) → Loads d name content (Err (load.Fs e)) → OfNone e
load_ends d content name fs.Failed told = tt
load_ends d content name fs.NoMemory told = tt
load_ends d content name fs.Exists told = absurd told
load_ends d content name fs.Missing told = absurd told
load_ends d content name fs.NotFolder told = absurd told
load_ends d content name fs.NotEmpty told = absurd told

-- something stands where something bad does
nothing_in : (k : Kind) (bytes : List ℕ) → object_in k Vacant ≡ Some bytes → ⊥
nothing_in kind.Commit bytes e = let n : None ≡ Some bytes = e in cc
nothing_in kind.DirTree bytes e = let n : None ≡ Some bytes = e in cc
nothing_in kind.DirMeta bytes e = let n : None ≡ Some bytes = e in cc
nothing_in kind.File bytes e = let n : None ≡ Some bytes = e in cc

pub nothing_at : (d : Disk) (name : ObjName) (bytes : List ℕ) → d.at (path_of name) ≡ Absent → object_at d name ≡ Some bytes → ⊥
nothing_at d name bytes none e = nothing_in name.kind bytes (subst (λ z. object_in name.kind (seen d z) ≡ Some bytes) none e)

pub bad_there : (d : Disk) (content : ℕ) (name : ObjName) (fault : CheckFault) → IsBad d content name fault → d.at (path_of name) ≢ Absent
bad_there d content name (check.WrongSum found) bad none = nothing_at d name bad.bytes none bad.there
bad_there d content name (check.Unreadable e) (inl misread) none = nothing_at d name misread.bytes none misread.stored.there
bad_there d content name (check.Unreadable e) (inr misfit) none = subst (λ z. IsMisfit (seen d z)) none misfit.2
bad_there d content name check.NoMemory bad none = bad

module _ (d : Disk) (content : ℕ) (names : List ObjName) (are : AreAll d names) (i : ℕ) (x : ObjName) (inside : i < length names) (is : x ≡ get_or names i x) (before : SoFar (IsSound d content) names i) where
  here : IsThere d x
  here = are.here x (i, inside, sym is)

  pub sum_whole : IsThere d x
  sum_whole = here

  same_name : (o : ObjName) → o.csum ≡ x.csum → o.kind ≡ kind.DirMeta → o ≡ attributes_of x
  same_name o sum kinds = ap (λ s. record { csum = s; kind = o.kind }) sum ∙ ap (λ k. record { csum = x.csum; kind = k }) kinds

  first_itself : (fault : CheckFault) → IsBad d content x fault → (x.kind ≡ kind.DirTree → IsSound d content (attributes_of x)) → IsFirstBad d content x fault
  first_itself fault bad beside = record {
    there = here;
    bad = bad;
    least = λ o less there. so_before d names are (IsSound d content) i x inside is before o there less
        (λ sum kinds entries. subst (IsSound d content) (sym (same_name o sum kinds)) (beside entries)) there;
  }

  first_beside : (fault : CheckFault) → x.kind ≡ kind.DirTree → IsBad d content (attributes_of x) fault → IsFirstBad d content (attributes_of x) fault
  first_beside fault entries bad = record {
    there = record { sum = here.sum; there = bad_there d content (attributes_of x) fault bad };
    bad = bad;
    least = λ o less there. so_before d names are (IsSound d content) i x inside is before o there (less_trans (path_of o) (path_of (attributes_of x)) (path_of x) less ahead)
        (λ sum kinds e. absurd (not_less_itself (path_of (attributes_of x)) (subst (λ n. path_cmp (path_of n) (path_of (attributes_of x)) ≡ Less) (same_name o sum kinds) less))) there;
  }
    where
      ahead : path_cmp (path_of (attributes_of x)) (path_of x) ≡ Less
      ahead = subst (λ k. path_cmp (path_of (attributes_of x)) (path_of (record { csum = x.csum; kind = k })) ≡ Less) (sym entries) (attributes_before x.csum)

  pub first_bad : (fault : CheckFault) (f : ObjectsFault) → IsBad d content x fault → IsFirstOf d content x fault f → ChecksEach d content (Err f)
  first_bad fault (Damaged o found) bad (inl itself) =
      subst (λ n. IsFirstBad d content n found) (sym itself.0) (subst (IsFirstBad d content x) (sym itself.1) (first_itself fault bad itself.2))
  first_bad fault (Damaged o found) bad (inr beside) =
      subst (λ n. IsFirstBad d content n found) (sym beside.1) (first_beside found beside.0 (subst (λ n. IsBad d content n found) beside.1 beside.2))
  first_bad fault (TooMany n) bad first = absurd first
  first_bad fault (Fs e) bad first = first
  first_bad fault NoMemory bad first = tt

-- an error of one look is told as it is
pub ends_each : (d : Disk) (content : ℕ) (name : ObjName) (f : ObjectsFault) → Finds d content name (Err f) → ChecksEach d content (Err f)
ends_each d content name (TooMany n) told = absurd told
ends_each d content name (Damaged o found) told = absurd told
ends_each d content name (Fs e) told = told
ends_each d content name NoMemory told = tt

pub ends_beside : (d : Disk) (content : ℕ) (name other : ObjName) (fault : CheckFault) (f : ObjectsFault) → Finds d content other (Err f) → IsFirstOf d content name fault f
ends_beside d content name other fault (TooMany n) told = absurd told
ends_beside d content name other fault (Damaged o found) told = absurd told
ends_beside d content name other fault (Fs e) told = told
ends_beside d content name other fault NoMemory told = tt

-- each object, and all
pub every_sound : (d : Disk) (content : ℕ) (names : List ObjName) → AreAll d names → (i : ℕ) → length names ≤ i → SoFar (IsSound d content) names i → (o : ObjName) → IsSound d content o
every_sound d content names are i whole before o there = at (are.all o there)
  where
    at : (k : ℕ) × (k < length names) × (get_or names k o ≡ o) → Has (Stores d) content o
    at (k, within, here) = before k o (omega (arith, within, whole)) here there

-- from the parts of the check to the whole
pub number_end : (d : Disk) (limits : Limits) (names : List ObjName) → AreAll d names → (f : ObjectsFault) → (f ≡ TooMany (limits.objects + 1)) × (limits.objects < length names) → ChecksObjects d limits (Err f)
number_end d limits names are f many = subst (λ e. ChecksObjects d limits (Err e)) (sym many.0) (refl, record { names = names; ascending = are.ascending; here = are.here; more = many.1 })

module _ (d : Disk) (limits : Limits) (names : List ObjName) (are : AreAll d names) (few : length names ≤ limits.objects) where
  pub each_end : (f : ObjectsFault) → ChecksEach d limits.content (Err f) → ChecksObjects d limits (Err f)
  each_end (TooMany n) told = absurd told
  each_end (Damaged o found) told = (record { names = names; are = are; few = few }, told)
  each_end (Fs e) told = told
  each_end NoMemory told = tt

  pub all_sound : ((o : ObjName) → IsSound d limits.content o) → AreSound d limits names
  all_sound sound = record { all = are; few = few; sound = sound }

-- what a look found
pub found_sound : (d : Disk) (content : ℕ) (name : ObjName) (o : Option CheckFault) → o ≡ None → Finds d content name (Ok o) → IsSound d content name
found_sound d content name o is told = subst (λ p. Finds d content name (Ok p)) is told

pub found_bad : (d : Disk) (content : ℕ) (name : ObjName) (o : Option CheckFault) (fault : CheckFault) → o ≡ Some fault → Finds d content name (Ok o) → IsBad d content name fault
found_bad d content name o fault is told = subst (λ p. Finds d content name (Ok p)) is told
