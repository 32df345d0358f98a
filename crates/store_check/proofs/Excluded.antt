-- What is told of a damage is never so of what is there and whole.
use Rattle.std.proofs.Common.{◌≡◌, ◌≢◌, inl, inr, ⊎_elim, ℕ, ◌<◌, ◌≤◌, List, [], ◌∷◌, length, refl, sym, ◌∙◌, ap, subst, arith, Some, Ok, Err, Contains}
use Rattle.std.proofs.Math.Logic.{∥∥₁_elim, ∥∥₁_prop}
use Rattle.std.specs.declared.cmp.Ordering.TheVariants.{Less}
use Rattle.sha2.specs.Sha256.{sha256}
use Rattle.ost_types.specs.declared.limits.Limits.{Limits}
use Rattle.ost_types.specs.declared.meta.Meta.{Meta}
use Rattle.ost_types.specs.declared.node.NodeName.{NodeName}
use Rattle.ost_types.specs.declared.node.NodeName.TheVariants as node
use Rattle.ost_types.specs.declared.object.Kind.{Kind}
use Rattle.ost_types.specs.declared.object.Kind.TheVariants as kind
use Rattle.ost_types.specs.declared.object.ObjName.{ObjName}
use Rattle.ost_types.specs.Mode.{IsFolderMode}
use Rattle.ost_types.specs.Path.{Name, Path, path_cmp, under}
use Rattle.ost_forms.specs.declared.body.Body.{Body}
use Rattle.ost_forms.specs.declared.body.Body.TheVariants.{Regular, Symlink}
use Rattle.ost_forms.specs.declared.entry.FileItem.{FileItem}
use Rattle.ost_forms.specs.declared.entry.FolderItem.{FolderItem}
use Rattle.ost_forms.specs.declared.fault.ObjFault.{ObjFault}
use Rattle.ost_forms.specs.declared.fault.ObjFault.TheVariants as read
use Rattle.ost_forms.specs.Commit.{CommitParts, HasCommitSums, ReadsCommit}
use Rattle.ost_forms.specs.DirMeta.{ReadsDirMeta}
use Rattle.ost_forms.specs.DirTree.{Entries, HasNames, HasSums, IsSorted, ReadsDirTree}
use Rattle.ost_forms.specs.Stream.{FileParts, FitsMode, IsFile, bytes_of, content_form, header_of}
use Rattle.ost_forms.proofs.Laws.{one_tree}
use Rattle.ost_forms.proofs.OwnStreams.{one_stream}
use Rattle.ost_forms.proofs.Parted.{one_commit, one_dirmeta}
use Rattle.ost_objects.specs.declared.fault.CheckFault.{CheckFault}
use Rattle.ost_objects.specs.declared.fault.CheckFault.TheVariants as check
use Rattle.ost_objects.specs.Object.{HasForm, Misreads}
use Rattle.fs_trait.specs.Seen.{Seen, Vacant, Directory, Symlink as SeenLink, Leaf, shows}
use Rattle.fs_trait.specs.View.{Disk}
use Rattle.repo_layout.specs.RefFile.{IsSum}
use Rattle.repo_model.specs.Objects.{Has, Store, Stores, object_in, path_of}
use Rattle.repo_model.specs.Trees.{HasCommit, HasEntries, Names, Shows, name_of}
use Rattle.repo_model.specs.Whole.{Complete, HasFew as HasFewPaths}
use Rattle.repo_model.proofs.Stored.{stores_map, stores_one}
use Rattle.obj_store.specs.Lookup.{IsMisfit, IsOdd}
use Rattle.obj_store.specs.Listing.{name_cmp}
use Rattle.obj_store.proofs.Streaming.{only_memory_of}
use Rattle.tree_read.specs.Looks.{IsAbsent, IsDamaged}
use Rattle.tree_read.specs.Order.{FirstAbsent, FirstDamaged, HasName, HasTooMany, IsMet, IsShort, NamesFar}
use Rattle.tree_read.specs.Whole.{AtCommitOr}
use Rattle.tree_read.proofs.Merged.{head_or_tail}
use Rattle.tree_read.proofs.Walk.{commit_of_map, unmapped}
use Rattle.store_check.specs.Commits.{IsFinished, IsWhole, Lacks}
use Rattle.store_check.specs.Listing.{HasFew, HasMore}
use Rattle.store_check.specs.Objects.{IsBad}
use Rattle.store_check.proofs.Damages.{nothing_at}
use Rattle.store_check.proofs.Distinct.{sorted_distinct, too_many}
use Rattle.store_check.proofs.Orders.{not_both, not_less_itself}

-- ---- no reader refuses what another time it reads

long_short : (n m k : ℕ) → n ≡ m → m ≤ k → k < n → ⊥
long_short n m k is short long = omega (arith, is, short, long)

commit_read : (bytes : List ℕ) (e : ObjFault) (c : CommitParts) → e ≢ read.NoMemory → ReadsCommit (λ x. x) bytes (Ok c) → ReadsCommit (λ (x : CommitParts). x) bytes (Err e) → ⊥
commit_read bytes (read.TooLarge n) c some ok told = long_short n (length bytes) _ told.0 ok.0.short told.1
commit_read bytes read.NotNormal c some ok told = told.1 c ok.0.form
commit_read bytes read.BadSumLength c some ok told = told.2 (subst HasCommitSums (one_commit c told.0 bytes ok.0.time told.1.time ok.0.form told.1.form) ok.1)
commit_read bytes read.BadName c some ok told = told
commit_read bytes read.NotSorted c some ok told = told
commit_read bytes read.BadMode c some ok told = told
commit_read bytes read.NoMemory c some ok told = some refl

entries_read : (bytes : List ℕ) (e : ObjFault) (t : Entries) → e ≢ read.NoMemory → ReadsDirTree (λ x. x) bytes (Ok t) → ReadsDirTree (λ (x : Entries). x) bytes (Err e) → ⊥
entries_read bytes (read.TooLarge n) t some ok told = long_short n (length bytes) _ told.0 ok.0.short told.1
entries_read bytes read.NotNormal t some ok told = told.1 t ok.0.form
entries_read bytes read.BadSumLength t some ok told = told.2 (subst HasSums (one_tree t told.0 bytes ok.0.form told.1.form) ok.1)
entries_read bytes read.BadName t some ok told = told.3 (subst HasNames (one_tree t told.0 bytes ok.0.form told.1.form) ok.2)
entries_read bytes read.NotSorted t some ok told = told.4 (subst IsSorted (one_tree t told.0 bytes ok.0.form told.1.form) ok.3)
entries_read bytes read.BadMode t some ok told = told
entries_read bytes read.NoMemory t some ok told = some refl

attributes_read : (bytes : List ℕ) (e : ObjFault) (m : Meta) → e ≢ read.NoMemory → ReadsDirMeta (λ x. x) bytes (Ok m) → ReadsDirMeta (λ (x : Meta). x) bytes (Err e) → ⊥
attributes_read bytes (read.TooLarge n) m some ok told = long_short n (length bytes) _ told.0 ok.0.short told.1
attributes_read bytes read.NotNormal m some ok told = told.1 m ok.0.form
attributes_read bytes read.BadMode m some ok told =
    let a = ok.0 in
    let b = told.1 in
    let same = one_dirmeta m told.0 bytes (record { uid = a.uid; gid = a.gid; mode = a.mode }) (record { uid = b.uid; gid = b.gid; mode = b.mode }) a.form b.form in
    told.2 (subst (λ (x : Meta). IsFolderMode x.mode) same ok.1)
attributes_read bytes read.BadSumLength m some ok told = told
attributes_read bytes read.BadName m some ok told = told
attributes_read bytes read.NotSorted m some ok told = told
attributes_read bytes read.NoMemory m some ok told = some refl

read_again : (k : Kind) (content : ℕ) (bytes : List ℕ) (e : ObjFault) → e ≢ read.NoMemory → HasForm k content bytes → Misreads k content bytes e → ⊥
read_again kind.Commit content bytes e some formed told = ∥∥₁_elim formed (λ x y. absurd x) (λ c. commit_read bytes e c.0 some c.1 told)
read_again kind.DirTree content bytes e some formed told = ∥∥₁_elim formed (λ x y. absurd x) (λ t. entries_read bytes e t.0 some t.1 told)
read_again kind.DirMeta content bytes e some formed told = ∥∥₁_elim formed (λ x y. absurd x) (λ m. attributes_read bytes e m.0 some m.1 told)
read_again kind.File content bytes e some formed told = some (only_memory_of (λ (f : FileParts). f.meta) (λ f. f.body) content bytes kind.File content refl refl e formed told)

-- ---- no object stands where something else does

file_of : (m : Meta) (body : Body) → FitsMode m.mode body → IsFile (header_of m body) (bytes_of body)
file_of m (Regular b) fits = (Regular b, refl, refl, fits)
file_of m (Symlink target) fits = (Symlink target, refl, refl, fits)

odd_none : (m : Meta) (body : Body) (content : ℕ) (bytes : List ℕ) → IsOdd m body → content_form m body ≡ Some bytes → HasForm kind.File content bytes → ⊥
odd_none m body content bytes odd form formed = ∥∥₁_elim formed (λ x y. absurd x) (λ f.
    let same = one_stream (header_of f.0.meta f.0.body) (header_of m body) (bytes_of f.0.body) (bytes_of body) bytes f.1.3 odd.0 f.1.1 form in
    odd.1 (subst (λ h. IsFile h (bytes_of body)) same.0 (subst (IsFile (header_of f.0.meta f.0.body)) same.1 (file_of f.0.meta f.0.body f.1.2))))

misfit_none : (s : Seen) (content : ℕ) (bytes : List ℕ) → IsMisfit s → object_in kind.File s ≡ Some bytes → HasForm kind.File content bytes → ⊥
misfit_none (Leaf n m b) content bytes odd form formed = odd_none m (Regular b) content bytes odd form formed
misfit_none (SeenLink m target) content bytes odd form formed = odd_none m (Symlink target) content bytes odd form formed
misfit_none Vacant content bytes odd form formed = odd
misfit_none (Directory m) content bytes odd form formed = odd

-- what the store has isn't damaged
pub damaged_has : (d : Disk) (content : ℕ) (name : ObjName) (fault : CheckFault) → IsBad d content name fault → Has (Stores d) content name → ⊥
damaged_has d content name (check.WrongSum found) bad has =
    let same : bad.bytes ≡ has.bytes = (let e : Some bad.bytes ≡ Some has.bytes = sym bad.there ∙ has.stored.there in cc) in
    bad.other (bad.sum ∙ ap sha256 same ∙ has.stored.named)
damaged_has d content name (check.Unreadable e) (inl bad) has =
    let same : has.bytes ≡ bad.bytes = stores_one d name has.bytes bad.bytes has.stored bad.stored in
    read_again name.kind content bad.bytes e bad.cause (subst (HasForm name.kind content) same has.formed) bad.reads
damaged_has d content name (check.Unreadable e) (inr bad) has =
    misfit_none (shows d (path_of name)) content has.bytes bad.2
    (subst (λ k. object_in k (shows d (path_of name)) ≡ Some has.bytes) bad.1 has.stored.there)
    (subst (λ k. HasForm k content has.bytes) bad.1 has.formed)
damaged_has d content name check.NoMemory bad has = bad

-- nor is it absent
pub absent_has : (d : Disk) (content : ℕ) (name : ObjName) → IsAbsent d name → Has (Stores d) content name → ⊥
absent_has d content name absent has = nothing_at d name has.bytes absent has.stored.there

-- ---- no fewer objects

pub few_more : (d : Disk) (most : ℕ) → HasFew d most → HasMore d most → ⊥
few_more d most few more =
    too_many more.names few.names (sorted_distinct name_cmp (λ x h. not_both x x h h) more.names more.ascending)
    (λ q h. ∣ few.are.all q (more.here q h) ∣₁)
    (omega (arith, few.few, more.more))

-- ---- nothing of a whole commit is lacked

module _ (S : Store) (content : ℕ) where
  -- where all that is named is there, each path at which something is named shows something
  met_shown : (tree meta : List ℕ) (p : Path) → ((q : Path) (a : ObjName) → Names S tree meta q a → Has S content a) → (o : ObjName) → Names S tree meta p o → ∥ ((n : NodeName) × Shows S tree meta p n) ∥₁
  unfolding Shows Names
  met_shown tree meta [] all o named =
      let has = all [] (name_of kind.DirMeta meta) (inr refl) in
      ∥∥₁_elim has.formed ∥∥₁_prop (λ m. ∣ (node.Folder m.0, (m.0, record { bytes = has.bytes; stored = has.stored; reads = m.1 }, refl)) ∣₁)
  met_shown tree meta (x ∷ []) all o (e, here, inl (sum, file, is)) = ∣ (node.Leaf sum, (e, here, inl (sum, file, refl))) ∣₁
  met_shown tree meta (x ∷ y ∷ rest) all o (e, here, inl none) = absurd none
  met_shown tree meta (x ∷ rest) all o (e, here, inr (t, m, folder, named)) =
      ∥∥₁_elim (met_shown t m rest (λ q a n. all (x ∷ q) a (e, here, inr (t, m, folder, n))) o named) ∥∥₁_prop (λ s. ∣ (s.0, (e, here, inr (t, m, folder, s.1))) ∣₁)

  -- what the entries of a folder name is named below its path
  entry_named : (tree meta : List ℕ) (t : List ℕ) (e : Entries) (y : Name) → HasEntries S t e → HasName e y → t ≡ tree → (a : ObjName) × Names S tree meta (y ∷ []) a
  unfolding Names
  entry_named tree meta t e y here (inl file) same =
      let i = unmapped (λ (i : FileItem). i.name) e.files y file in
      (name_of kind.File i.0.file, (e, subst (λ z. HasEntries S z e) same here, inl (i.0.file, record { item = i.0; among = i.1; name = sym i.2; file = refl }, refl)))
  entry_named tree meta t e y here (inr folder) same =
      let i = unmapped (λ (i : FolderItem). i.name) e.folders y folder in
      (name_of kind.DirTree i.0.tree, (e, subst (λ z. HasEntries S z e) same here, inr (i.0.tree, i.0.meta, record { item = i.0; among = i.1; name = sym i.2; tree_is = refl; meta_is = refl }, inl refl)))

  below_named : (tree meta : List ℕ) (p : Path) (o : ObjName) (e : Entries) (y : Name) → Names S tree meta p o → o.kind ≡ kind.DirTree → HasEntries S o.csum e → HasName e y → (a : ObjName) × Names S tree meta (under p y) a
  unfolding Names
  below_named tree meta [] o e y (inl is) folder here has = entry_named tree meta o.csum e y here has (ap (λ a. a.csum) is)
  below_named tree meta [] o e y (inr is) folder here has = absurd (let n : kind.DirMeta ≡ kind.DirTree = sym (ap (λ a. a.kind) is) ∙ folder in cc)
  below_named tree meta (x ∷ []) o e y (g, there, inl (sum, file, is)) folder here has = absurd (let n : kind.File ≡ kind.DirTree = sym (ap (λ a. a.kind) is) ∙ folder in cc)
  below_named tree meta (x ∷ z ∷ rest) o e y (g, there, inl none) folder here has = absurd none
  below_named tree meta (x ∷ rest) o e y (g, there, inr (t, m, sub, named)) folder here has =
      let below = below_named t m rest o e y named folder here has in
      (below.0, (g, there, inr (t, m, sub, below.1)))

module _ (d : Disk) (limits : Limits) (tree meta : List ℕ) (objects : (p : Path) (o : ObjName) → Names (Stores d) tree meta p o → Has (Stores d) limits.content o)
    (few : HasFewPaths limits.paths (Stores d) tree meta) (short : (p : Path) (n : NodeName) → Shows (Stores d) tree meta p n → IsShort p) where
  shown : (p : Path) (o : ObjName) → Names (Stores d) tree meta p o → ∥ ((n : NodeName) × Shows (Stores d) tree meta p n) ∥₁
  shown p o named = met_shown (Stores d) limits.content tree meta p objects o named

  pub tree_has : (o : ObjName) → FirstAbsent d limits tree meta o → ⊥
  tree_has o stops = absent_has d limits.content o stops.wrong (objects stops.at o stops.named)

  near : (p : Path) (o : ObjName) → Names (Stores d) tree meta p o → o.kind ≡ kind.DirTree → NamesFar (Stores d) o.csum p → ⊥
  near p o named folder far =
      let below = below_named (Stores d) limits.content tree meta p o far.entries far.name named folder far.has far.there in
      ∥∥₁_elim (shown (under p far.name) below.0 below.1) (λ x y. absurd x) (λ s. far.far (short (under p far.name) s.0 s.1))

  within : (o : ObjName) → HasTooMany (Stores d) limits tree meta o → ⊥
  within o many =
      too_many (many.at ∷ many.paths) few.paths
      ((λ q h same. not_less_itself many.at (subst (λ z. path_cmp z many.at ≡ Less) (sym same) (many.before.met q h).1)), sorted_distinct path_cmp not_less_itself many.paths many.before.ascending)
      (λ q h. ⊎_elim (λ same. listed q (subst (IsMet (Stores d) limits.content tree meta) same many.met)) (λ t. listed q (many.before.met q t).0) (head_or_tail many.at many.paths q h))
      (omega (arith, few.few, many.full))
    where
      listed : (q : Path) → IsMet (Stores d) limits.content tree meta q → ∥ Contains few.paths q ∥₁
      listed q met = ∥∥₁_elim (shown q met.0 met.1) ∥∥₁_prop (λ s. ∣ few.all q s.0 s.1 ∣₁)

  pub tree_sound : (o : ObjName) → FirstDamaged d limits tree meta o → ⊥
  tree_sound o (inl stops) = ⊎_elim
      (λ bad. damaged_has d limits.content o bad.0 bad.1 (objects stops.at o stops.named))
      (λ far. near stops.at o stops.named far.0 far.1)
      stops.wrong
  tree_sound o (inr many) = within o many

module _ (d : Disk) (limits : Limits) (commit : List ℕ) (whole : Complete (Stores d) limits commit) where
  pub complete_itself : Has (Stores d) limits.content (name_of kind.Commit commit)
  complete_itself = record { bytes = whole.here.bytes; stored = whole.here.stored; formed = ∣ (whole.parts, whole.here.reads) ∣₁ }

  same_parts : (c : CommitParts) → HasCommit (Stores d) commit c → c ≡ whole.parts
  same_parts c has = commit_of_map (Stores d) (stores_map d) commit c whole.parts has whole.here

  pub complete_names : (c : CommitParts) → HasCommit (Stores d) commit c → (p : Path) (o : ObjName) → Names (Stores d) c.tree c.meta p o → Has (Stores d) limits.content o
  complete_names c has p o named = whole.objects p o (subst (λ (k : CommitParts). Names (Stores d) k.tree k.meta p o) (same_parts c has) named)

  -- no object of a whole commit is the first that is missing
  pub complete_has : (o : ObjName) → AtCommitOr d commit ((o ≡ name_of kind.Commit commit) × IsAbsent d o) (λ tree meta. FirstAbsent d limits tree meta o) → ⊥
  complete_has o (inl (is, absent)) = absent_has d limits.content (name_of kind.Commit commit) (subst (IsAbsent d) is absent) complete_itself
  complete_has o (inr (c, has, first)) =
      tree_has d limits whole.parts.tree whole.parts.meta whole.objects whole.few whole.short o
      (subst (λ (k : CommitParts). FirstAbsent d limits k.tree k.meta o) (same_parts c has) first)

  -- nor the first that is damaged
  pub complete_sound : (o : ObjName) → AtCommitOr d commit ((o ≡ name_of kind.Commit commit) × IsDamaged d limits.content o) (λ tree meta. FirstDamaged d limits tree meta o) → ⊥
  complete_sound o (inl (is, damaged)) =
      let bad = subst (IsDamaged d limits.content) is damaged in
      damaged_has d limits.content (name_of kind.Commit commit) bad.0 bad.1 complete_itself
  complete_sound o (inr (c, has, first)) =
      tree_sound d limits whole.parts.tree whole.parts.meta whole.objects whole.few whole.short o
      (subst (λ (k : CommitParts). FirstDamaged d limits k.tree k.meta o) (same_parts c has) first)

  pub complete_lacks : (object : ObjName) → Lacks d limits commit object → ⊥
  complete_lacks object (inl absent) = complete_has object absent
  complete_lacks object (inr damaged) = complete_sound object damaged

pub whole_lacks : (d : Disk) (limits : Limits) (commit : List ℕ) (object : ObjName) → IsWhole d limits commit → IsSum commit → IsFinished d commit → Lacks d limits commit object → ⊥
whole_lacks d limits commit object whole sum finished lacks = complete_lacks d limits commit (whole sum finished) object lacks
