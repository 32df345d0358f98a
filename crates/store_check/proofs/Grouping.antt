-- From what was read of a group of objects to what is told of them.
use Rattle.std.proofs.Common.{◌≡◌, ◌⊎◌, inl, inr, ℕ, ◌+◌, ◌<◌, ◌≤◌, List, [], ◌∷◌, ◌++◌, length, slice_index_or, sym, ◌∙◌, ap, subst, arith, Option, Some, None, Err}
use Rattle.std.proofs.lemmas.List.{get_or_append_left, get_or_default, get_or_push, length-append}
use Rattle.ost_types.specs.declared.object.Kind.{Kind}
use Rattle.ost_types.specs.declared.object.Kind.TheVariants as kind
use Rattle.ost_types.specs.declared.object.ObjName.{ObjName}
use Rattle.ost_objects.specs.declared.fault.CheckFault.{CheckFault}
use Rattle.ost_objects.specs.declared.fault.CheckFault.TheVariants as check
use Rattle.fs_trait.specs.Effect.{OfNone}
use Rattle.fs_trait.specs.declared.types.FsErr.{FsErr}
use Rattle.fs_trait.specs.declared.types.FsErr.TheVariants as fs
use Rattle.fs_trait.specs.View.{Disk}
use Rattle.repo_model.specs.Objects.{Stores}
use Rattle.obj_store.specs.declared.fault.LoadFault.{LoadFault}
use Rattle.obj_store.specs.declared.fault.LoadFault.TheVariants as load
use Rattle.obj_store.specs.Lookup.{fault_of}
use Rattle.obj_store.proofs.LongFiles.{loads_err}
use Rattle.store_check.specs.declared.fault.ObjectsFault.{ObjectsFault}
use Rattle.store_check.specs.declared.group.Entry.{Entry}
use Rattle.store_check.specs.declared.group.Group.{Group}
use Rattle.store_check.specs.Groups.{AreRead, AreSoundBefore, AreTested, Found, FoundIn, IsGroup, IsRead, IsStopped, IsWhatStands, IsWithin, IsWrong, TellsOf, TellsStop, Tests, kept_of, left_of}
use Rattle.store_check.specs.Keeping.{AreStored}
use Rattle.store_check.specs.Listing.{AreAll}
use Rattle.store_check.specs.Objects.{ChecksEach, IsBad, IsSound}
use Rattle.store_check.proofs.Damages.{first_bad}
use Rattle.store_check.proofs.Firsts.{one_more}

-- what was found in the bytes that stand at an object's path is so of the object
module _ (d : Disk) (content : ℕ) (name : ObjName) where
  in_bytes : (bytes : List ℕ) (fault : Option CheckFault) → IsWhatStands d name (Some bytes) → Found name content bytes fault → TellsOf d content name fault
  in_bytes bytes None stands found = λ there. record { bytes = bytes; stored = record { there = stands; named = found.0 }; formed = found.1 }
  in_bytes bytes (Some (check.WrongSum sum)) stands found = record { bytes = bytes; there = stands; sum = found.0; other = found.1 }
  in_bytes bytes (Some (check.Unreadable e)) stands found = inl (record { bytes = bytes; stored = record { there = stands; named = found.0 }; reads = found.2; cause = found.1 })
  in_bytes bytes (Some check.NoMemory) stands found = tt

  nothing : (fault : Option CheckFault) → IsWhatStands d name None → fault ≡ None → TellsOf d content name fault
  nothing None stands none = λ there. absurd (there.there stands)
  nothing (Some fault) stands none = let no : Some fault ≡ None = none in cc

  tells_of : (bytes : Option (List ℕ)) (before after : Option CheckFault) → IsWhatStands d name bytes → before ≡ None → FoundIn name content bytes before after → TellsOf d content name after
  tells_of None before after stands none found = nothing after stands (found ∙ none)
  tells_of (Some bytes) before after stands none found = in_bytes bytes after stands found

-- so of all entries
module _ (d : Disk) (content : ℕ) (names : List ObjName) (from : ℕ) (old new : List Entry) where
  pub tested : AreRead d names from old → length new ≡ length old → ((i : ℕ) (e : Entry) → i < length old → Tests content (slice_index_or old i e) (slice_index_or new i e)) → AreTested d content names from new
  tested read same each k e inside is =
      let within : k < length old = omega (arith, inside, same) in
      let o = slice_index_or old k e in
      let t : Tests content o e = subst (Tests content o) (sym is) (each k e within) in
      let r = read k o within (get_or_default old k e o within) in
      let named : e.name ≡ o.name = t.0 in (
        r.0,
        named ∙ r.1 ∙ get_or_default names (from + k) o.name e.name r.0,
        subst (λ n. TellsOf d content n e.fault) (sym named) (tells_of d content o.name o.bytes o.fault e.fault r.2.0 r.2.1 t.1),
      )

-- what is left is what stands there
kept_is : (k : Kind) (bytes left : List ℕ) → kept_of k bytes ≡ Some left → bytes ≡ left
kept_is kind.Commit bytes left is = cc
kept_is kind.DirTree bytes left is = cc
kept_is kind.DirMeta bytes left is = let no : None ≡ Some left = is in cc
kept_is kind.File bytes left is = let no : None ≡ Some left = is in cc

module _ (d : Disk) (content : ℕ) (name : ObjName) (left : List ℕ) where
  stored_of : (bytes : Option (List ℕ)) (before fault : Option CheckFault) → IsWhatStands d name bytes → FoundIn name content bytes before fault → left_of name.kind bytes fault ≡ Some left → Stores d name left
  stored_of None before fault stands found is = let no : None ≡ Some left = is in cc
  stored_of (Some bytes) before (Some fault) stands found is = let no : None ≡ Some left = is in cc
  stored_of (Some bytes) before None stands found is = subst (Stores d name) (kept_is name.kind bytes left is) (record { there = stands; named = found.0 })

module _ (d : Disk) (content : ℕ) (names : List ObjName) (from : ℕ) (old new : List Entry) where
  pub stored : AreRead d names from old → length new ≡ length old → ((i : ℕ) (e : Entry) → i < length old → Tests content (slice_index_or old i e) (slice_index_or new i e)) → AreStored d new
  stored read same each e left among is =
      let within : among.0 < length old = (let less = among.1 in omega (arith, less, same)) in
      let o = slice_index_or old among.0 e in
      let t : Tests content o e = subst (Tests content o) among.2 (each among.0 e within) in
      let r = read among.0 o within (get_or_default old among.0 e o within) in
      subst (λ n. Stores d n left) (sym t.0) (stored_of d content o.name left o.bytes o.fault e.fault r.2.0 t.1 (sym t.2 ∙ is))

-- an entry more was read
module _ (d : Disk) (names : List ObjName) (from : ℕ) where
  pub none_read : (group : List Entry) → group ≡ [] → AreRead d names from group
  none_read group none k e inside is = absurd (let no : k < 0 = subst (λ g. k < length g) none inside in omega (arith, no))

-- what is wrong with an object that ended a group, or that was looked into
module _ (d : Disk) (content : ℕ) (name : ObjName) where
  stop_bad : (fault : CheckFault) → IsStopped d name (load.Damaged fault) → IsBad d content name fault
  stop_bad fault stopped = loads_err d name content (load.Damaged fault) stopped

  stop_refused : (e : FsErr) → IsStopped d name (load.Fs e) → OfNone e
  stop_refused fs.Failed stopped = tt
  stop_refused fs.NoMemory stopped = tt
  stop_refused fs.Exists stopped = loads_err d name content (load.Fs fs.Exists) stopped
  stop_refused fs.Missing stopped = loads_err d name content (load.Fs fs.Missing) stopped
  stop_refused fs.NotFolder stopped = loads_err d name content (load.Fs fs.NotFolder) stopped
  stop_refused fs.NotEmpty stopped = loads_err d name content (load.Fs fs.NotEmpty) stopped

  pub stop_wrong : (fault : LoadFault) → IsStopped d name fault → IsWrong d content name fault
  stop_wrong (load.Damaged fault) stopped = stop_bad fault stopped
  stop_wrong (load.Fs e) stopped = stop_refused e stopped
  stop_wrong load.NoMemory stopped = tt

  pub found_wrong : (fault : CheckFault) → TellsOf d content name (Some fault) → IsWrong d content name (fault_of fault)
  found_wrong (check.WrongSum sum) tells = tells
  found_wrong (check.Unreadable e) tells = tells
  found_wrong check.NoMemory tells = tt

-- what is told then is the first fault
module _ (d : Disk) (content : ℕ) (names : List ObjName) (are : AreAll d names) (i : ℕ) (x : ObjName) (inside : i < length names) (is : x ≡ slice_index_or names i x) (before : AreSoundBefore d content names i) where
  pub stop_ends : (fault : LoadFault) (f : ObjectsFault) → TellsStop d content x fault f → ChecksEach d content (Err f)
  stop_ends (load.Damaged fault) f tells = first_bad d content names are i x inside is before fault f tells.0 tells.1
  stop_ends (load.Fs e) f tells = subst (λ g. ChecksEach d content (Err g)) (sym tells.0) tells.1
  stop_ends load.NoMemory f tells = subst (λ g. ChecksEach d content (Err g)) (sym tells) tt

-- the entries of a group, one after the other
module _ (d : Disk) (content : ℕ) (names : List ObjName) (from : ℕ) (entries : List Entry) (tested_all : AreTested d content names from entries) (i : ℕ) (e : Entry) (inside : i < length entries) (is : e ≡ slice_index_or entries i e) where
  pub entry_sound : e.fault ≡ None → AreSoundBefore d content names (from + i) → (j : ℕ) → j ≡ from + (i + 1) → AreSoundBefore d content names j
  entry_sound none before j next =
      let t = tested_all i e inside is in
      one_more (IsSound d content) names (from + i) e.name t.0 t.1 (subst (TellsOf d content e.name) none t.2) before j (omega (arith, next))

  pub entry_wrong : (fault : CheckFault) → e.fault ≡ Some fault → IsWrong d content e.name (fault_of fault)
  entry_wrong fault some = found_wrong d content e.name fault (subst (TellsOf d content e.name) some (tested_all i e inside is).2)

  pub entry_ends : AreAll d names → AreSoundBefore d content names (from + i) → (fault : LoadFault) (f : ObjectsFault) → TellsStop d content e.name fault f → ChecksEach d content (Err f)
  entry_ends are before fault f tells = let t = tested_all i e inside is in stop_ends d content names are (from + i) e.name t.0 t.1 before fault f tells

pub sound_from : (d : Disk) (content : ℕ) (names : List ObjName) (n m : ℕ) → m ≡ n → AreSoundBefore d content names n → AreSoundBefore d content names m
sound_from d content names n m same before k name less at = before k name (omega (arith, less, same)) at

module _ (d : Disk) (names : List ObjName) (from : ℕ) (group : List Entry) (x : Entry) (at : ℕ) (here : at ≡ from + length group) (within : at < length names) (named : x.name ≡ slice_index_or names at x.name) (is_read : IsRead d x) where
  order : (k n : ℕ) → k < n + 1 → (k < n) ⊎ (k ≡ n)
  order k n less = grind (arith, less)

  pub one_read : (next : List Entry) → next ≡ group ++ x ∷ [] → AreRead d names from group → AreRead d names from next
  one_read next grown before k e inside is = by (order k (length group) (omega (arith, length-append group (x ∷ []), subst (λ g. k < length g) grown inside)))
    where
      by : (k < length group) ⊎ (k ≡ length group) → (from + k < length names) × (e.name ≡ slice_index_or names (from + k) e.name) × IsRead d e
      by (inl earlier) = before k e earlier (is ∙ ap (λ g. slice_index_or g k e) grown ∙ get_or_append_left group (x ∷ []) e k earlier)
      by (inr last) =
          let same : e ≡ x = is ∙ ap (λ g. slice_index_or g k e) grown ∙ get_or_push group x e k (sym last) in
          let place : at ≡ from + k = here ∙ ap (λ n. from + n) (sym last) in
          let whole : (from + k < length names) × (x.name ≡ slice_index_or names (from + k) x.name) × IsRead d x = subst (λ n. (n < length names) × (x.name ≡ slice_index_or names n x.name) × IsRead d x) place (within, named, is_read) in
          subst (λ y. (from + k < length names) × (y.name ≡ slice_index_or names (from + k) y.name) × IsRead d y) (sym same) whole

-- the whole group
module _ (d : Disk) (names : List ObjName) (from : ℕ) (group : Group) (read : AreRead d names from group.entries.items) where
  pub group_whole : group.stop ≡ None → IsGroup d names from group
  group_whole none = record { read = read; stopped = λ fault is. (let no : None ≡ Some fault = sym none ∙ is in cc) }

  pub group_stopped : (at : ℕ) → at ≡ from + length group.entries.items → (x : ObjName) (fault : LoadFault) → group.stop ≡ Some fault → at < length names → x ≡ slice_index_or names at x → IsStopped d x fault → IsGroup d names from group
  group_stopped at here x fault stop within is stopped = record {
    read = read;
    stopped = λ f some name named.
        let same : fault ≡ f = (let e : Some fault ≡ Some f = sym stop ∙ some in cc) in
        let one : x ≡ name = is ∙ get_or_default names at x name within ∙ ap (λ n. slice_index_or names n name) here ∙ sym named in
        subst (λ n. IsStopped d n f) one (subst (IsStopped d x) same stopped);
  }

pub within_whole : (names : List ObjName) (from : ℕ) (group : Group) → group.stop ≡ None → from + length group.entries.items ≤ length names → IsWithin names from group
within_whole names from group none within = record { whole = within; stopped = λ fault is. (let no : None ≡ Some fault = sym none ∙ is in cc) }

pub within_stopped : (names : List ObjName) (from : ℕ) (group : Group) → from + length group.entries.items < length names → IsWithin names from group
within_stopped names from group within = record { whole = omega (arith, within); stopped = λ fault is. within }
