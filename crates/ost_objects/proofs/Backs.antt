-- What was written is read back.
use Rattle.std.proofs.Common.{◌≡◌, ◌<◌, ◌^◌, ℕ, List, Some, Result, Ok, Err, sym, ap, subst}
use Rattle.std.proofs.Math.Logic.{∥∥₁_elim}
use Rattle.ost_types.specs.declared.meta.Meta.{Meta}
use Rattle.ost_types.specs.Mode.{IsFolderMode}
use Rattle.ost_forms.specs.declared.body.Body.{Body}
use Rattle.ost_forms.specs.declared.fault.ObjFault.{ObjFault}
use Rattle.ost_forms.specs.declared.fault.ObjFault.TheVariants.{NotNormal, BadSumLength, BadName, NotSorted, BadMode, TooLarge, NoMemory}
use Rattle.ost_forms.specs.DirMeta.{dirmeta_form, ReadsDirMeta}
use Rattle.ost_forms.specs.DirTree.{Entries, tree_form, HasSums, HasNames, IsSorted, ReadsDirTree}
use Rattle.ost_forms.specs.Stream.{content_form, header_of, bytes_of, FitsMode, IsHeader, ReadsContent, ReadsFile}
use Rattle.ost_forms.specs.Commit.{CommitParts, commit_form, HasCommitSums, ReadsCommit}
use Rattle.ost_forms.proofs.Laws.{one_tree}
use Rattle.ost_forms.proofs.Parted.{one_commit, one_dirmeta, IsWide}
use Rattle.ost_forms.proofs.OwnStreams.{one_content, never_bad, never_odd}
use Rattle.ost_objects.specs.Again.{ReadsBack}

pub commit_back : {X : Type 0} (see : X → CommitParts) (c : CommitParts) (bytes : List ℕ) → HasCommitSums c → c.time < 2 ^ 64 → commit_form c ≡ Some bytes → (r : Result X ObjFault) → ReadsCommit see bytes r → ReadsBack (λ x. see x ≡ c) r
commit_back see c bytes sums time form (Ok x) reads = one_commit (see x) c bytes reads.0.time time reads.0.form form
commit_back see c bytes sums time form (Err NotNormal) reads = reads.1 c form
commit_back see c bytes sums time form (Err BadSumLength) reads = reads.2 (subst HasCommitSums (sym (one_commit reads.0 c bytes reads.1.time time reads.1.form form)) sums)
commit_back see c bytes sums time form (Err BadName) reads = reads
commit_back see c bytes sums time form (Err NotSorted) reads = reads
commit_back see c bytes sums time form (Err BadMode) reads = reads
commit_back see c bytes sums time form (Err (TooLarge n)) reads = tt
commit_back see c bytes sums time form (Err NoMemory) reads = tt

pub tree_back : {X : Type 0} (see : X → Entries) (t : Entries) (bytes : List ℕ) → HasSums t → HasNames t → IsSorted t → tree_form t ≡ Some bytes → (r : Result X ObjFault) → ReadsDirTree see bytes r → ReadsBack (λ x. ((see x).files ≡ t.files) × ((see x).folders ≡ t.folders)) r
tree_back see t bytes sums names sorted form (Ok x) reads = let same = one_tree (see x) t bytes reads.0.form form in (ap (λ (t : Entries). t.files) same, ap (λ (t : Entries). t.folders) same)
tree_back see t bytes sums names sorted form (Err NotNormal) reads = reads.1 t form
tree_back see t bytes sums names sorted form (Err BadSumLength) reads = reads.2 (subst HasSums (sym (one_tree reads.0 t bytes reads.1.form form)) sums)
tree_back see t bytes sums names sorted form (Err BadName) reads = reads.3 (subst HasNames (sym (one_tree reads.0 t bytes reads.1.form form)) names)
tree_back see t bytes sums names sorted form (Err NotSorted) reads = reads.4 (subst IsSorted (sym (one_tree reads.0 t bytes reads.1.form form)) sorted)
tree_back see t bytes sums names sorted form (Err BadMode) reads = reads
tree_back see t bytes sums names sorted form (Err (TooLarge n)) reads = tt
tree_back see t bytes sums names sorted form (Err NoMemory) reads = tt

pub meta_back : {X : Type 0} (see : X → Meta) (m : Meta) (bytes : List ℕ) → IsWide m → ∥ IsFolderMode m.mode ∥₁ → dirmeta_form m ≡ Some bytes → (r : Result X ObjFault) → ReadsDirMeta see bytes r → ReadsBack (λ x. see x ≡ m) r
meta_back see m bytes wide folder form (Ok x) reads = one_dirmeta (see x) m bytes (record { uid = reads.0.uid; gid = reads.0.gid; mode = reads.0.mode }) wide reads.0.form form
meta_back see m bytes wide folder form (Err NotNormal) reads = reads.1 m form
meta_back see m bytes wide folder form (Err BadMode) reads =
    let same = one_dirmeta reads.0 m bytes (record { uid = reads.1.uid; gid = reads.1.gid; mode = reads.1.mode }) wide reads.1.form form in
    ∥∥₁_elim folder (λ x y. absurd x) (λ f. reads.2 (subst (λ (m : Meta). IsFolderMode m.mode) (sym same) f))
meta_back see m bytes wide folder form (Err BadSumLength) reads = reads
meta_back see m bytes wide folder form (Err BadName) reads = reads
meta_back see m bytes wide folder form (Err NotSorted) reads = reads
meta_back see m bytes wide folder form (Err (TooLarge n)) reads = tt
meta_back see m bytes wide folder form (Err NoMemory) reads = tt

pub content_back : {X : Type 0} (meta : X → Meta) (body : X → Body) (m : Meta) (b : Body) (limit : ℕ) (bytes : List ℕ) → IsHeader (header_of m b) → ∥ FitsMode m.mode b ∥₁ → content_form m b ≡ Some bytes
    → (r : Result X ObjFault) → ReadsContent meta body limit bytes r → ReadsBack (λ x. (meta x ≡ m) × (body x ≡ b)) r
content_back meta body m b limit bytes wide fits form (Ok x) reads = one_content (meta x) m (body x) b bytes reads.3 wide ∣ reads.2 ∣₁ fits reads.1 form
content_back meta body m b limit bytes wide fits form (Err NotNormal) reads = never_odd m b limit bytes form reads
content_back meta body m b limit bytes wide fits form (Err BadMode) reads = never_bad m b limit bytes wide fits form reads
content_back meta body m b limit bytes wide fits form (Err BadSumLength) reads = reads
content_back meta body m b limit bytes wide fits form (Err BadName) reads = reads
content_back meta body m b limit bytes wide fits form (Err NotSorted) reads = reads
content_back meta body m b limit bytes wide fits form (Err (TooLarge n)) reads = tt
content_back meta body m b limit bytes wide fits form (Err NoMemory) reads = tt
