-- What a step tells, from what was told of its object.
use Rattle.std.proofs.Common.{◌≡◌, ◌<◌, ◌≤◌, ◌+◌, inl, inr, ℕ, true, false, List, [], ◌∷◌, ◌++◌, Contains, Result, Ok, Err, length, take, refl, sym, ◌∙◌, ap, subst, get_or}
use Rattle.std.proofs.lemmas.List.{take_more}
use Rattle.std.specs.List.{AllByRecursion}
use Rattle.ost_types.specs.declared.limits.Limits.{Limits}
use Rattle.ost_types.specs.declared.meta.Meta.{Meta}
use Rattle.ost_types.specs.declared.node.NodeName.{NodeName}
use Rattle.ost_types.specs.declared.node.NodeName.TheVariants as node
use Rattle.ost_types.specs.declared.object.Kind.TheVariants as kind
use Rattle.ost_types.specs.declared.object.ObjName.{ObjName}
use Rattle.ost_types.specs.Mode.{IsFolderMode}
use Rattle.ost_forms.specs.Commit.{CommitParts}
use Rattle.ost_forms.specs.DirMeta.{ReadsDirMeta}
use Rattle.ost_forms.specs.declared.dirtree.DirTree.{DirTree}
use Rattle.fs_trait.specs.declared.types.FsErr.{FsErr}
use Rattle.fs_trait.specs.declared.task.StepResult.{StepResult}
use Rattle.fs_trait.specs.declared.task.StepResult.TheVariants as turn
use Rattle.fs_trait.specs.View.{Disk}
use Rattle.repo_model.specs.Objects.{Store, IsMap, Has}
use Rattle.repo_model.specs.Trees.{HasCommit, HasEntries, HasMeta, name_of}
use Rattle.tree_read.specs.declared.fault.TreeFault.{TreeFault}
use Rattle.tree_read.specs.declared.fault.TreeFault.TheVariants as fault
use Rattle.tree_read.specs.declared.item.Named.{Named}
use Rattle.tree_read.specs.declared.item.Named.TheVariants.{Folder, Attributes, File}
use Rattle.tree_read.specs.declared.item.Item.{Item}
use Rattle.tree_read.specs.declared.looked.Looked.{Looked}
use Rattle.tree_read.specs.declared.looked.Looked.TheVariants.{Here, Absent, Damaged}
use Rattle.tree_read.specs.Looks.{IsAbsent, IsDamaged, OfFolder, Reads}
use Rattle.tree_read.specs.Order.{IsShort, DamagedIn}
use Rattle.tree_read.specs.Remembered.{GainsFile, GainsMeta, Memory, entries_in}
use Rattle.tree_read.specs.Reading.{Reading, IsNext, IsSoFar, IsStepped, Knows, TellsIn, Takes, IsFarBelow, IsOpened, ListsBelow, Opens, OpensAt, begun_at, left_of, with_memory}
use Rattle.tree_read.proofs.Lines.{both}
use Rattle.tree_read.proofs.Recalling.{meta_stays, tree_stays}
use Rattle.tree_read.proofs.Steps.{at_item, absent_here, damaged_here, full_here, far_here, takes_file, takes_folder, opened_on, begun_on, falls_taken, falls_opened, falls_begun}
use Rattle.tree_read.proofs.Stops.{first_of}

abbrev Turned : Type 0
Turned = StepResult (Result (Unit {0}) TreeFault)

pub of_reads : (bytes : List ℕ) (r : Result (Looked Meta) FsErr) → Reads kind.DirMeta 0 bytes (λ m. ReadsDirMeta (λ x. x) bytes (Ok m)) r → OfFolder r
of_reads bytes (Ok (Here m)) reads = reads.1
of_reads bytes (Ok Absent) reads = tt
of_reads bytes (Ok Damaged) reads = tt
of_reads bytes (Err e) reads = tt

pub of_folder : (looked : Looked Meta) (m : Meta) → looked ≡ Here m → OfFolder (Ok looked) → IsFolderMode m.mode
of_folder looked m is of = subst (λ l. OfFolder (Ok l)) is of

module _ (S : Store) (one_each : IsMap S) (d : Disk) (old : Reading) (named : Named) (owner : List ℕ) (n : IsNext old named owner) (so : IsSoFar S old) where
  next : Item
  next = at_item n.path named owner

  pub stop_absent : (r : Turned) (o : ObjName) → r ≡ turn.Done (Err (fault.Absent o)) → o ≡ first_of named → IsAbsent d o → TellsIn S d old (Ok r) old
  stop_absent r o is first absent =
      let k = so n.begun in
      subst (λ r. TellsIn S d old (Ok r) old) (sym is) (inr (k.parts, k.has, absent_here S one_each d old n.items (at_item n.path named owner) n.cut k o first n.room absent))

  pub stop_damaged : (r : Turned) (o : ObjName) (limits : Limits) → r ≡ turn.Done (Err (fault.Damaged o)) → o ≡ first_of named → limits ≡ old.limits → IsDamaged d limits.content o → TellsIn S d old (Ok r) old
  stop_damaged r o limits is first same damaged =
      let k = so n.begun in
      subst (λ r. TellsIn S d old (Ok r) old) (sym is)
      (inr (k.parts, k.has, damaged_here S one_each d old n.items (at_item n.path named owner) n.cut k o first n.room (subst (λ (l : Limits). IsDamaged d l.content o) same damaged)))

-- the memory changes after the next item was taken, or opened
pub taken_kept : (old mid new : Reading) (x : NodeName) (was m : Memory) → Takes old x was mid → new ≡ with_memory mid m → Takes old x m new
taken_kept old mid new x was m takes e = λ items next cut. e ∙ ap (λ t. with_memory t m) (takes items next cut)

pub opened_kept : (old mid new : Reading) (below : List Item) (was m : Memory) → Opens old below was mid → new ≡ with_memory mid m → Opens old below m new
opened_kept old mid new below was m opens e = λ items next cut. e ∙ ap (λ t. with_memory t m) (opens items next cut)

module _ (old mid : Reading) (named : Named) (owner : List ℕ) (n : IsNext old named owner) (m : Memory) where
  pub taken_begun : (x : NodeName) → Takes old x m mid → mid.begun ≡ true
  taken_begun x takes = ap (λ t. t.begun) (takes n.items (at_item n.path named owner) n.cut) ∙ n.begun

  pub taken_memory : (x : NodeName) → Takes old x m mid → mid.remembered ≡ m
  taken_memory x takes = ap (λ t. t.remembered) (takes n.items (at_item n.path named owner) n.cut)

  pub opened_begun : (below : List Item) → Opens old below m mid → mid.begun ≡ true
  opened_begun below opens = ap (λ t. t.begun) (opens n.items (at_item n.path named owner) n.cut) ∙ n.begun

  pub opened_memory : (below : List Item) → Opens old below m mid → mid.remembered ≡ m
  opened_memory below opens = ap (λ t. t.remembered) (opens n.items (at_item n.path named owner) n.cut)

pub more_file : (S : Store) → IsMap S → (d : Disk) (old new : Reading) (limits : Limits) (file owner : List ℕ) (m : Memory) → IsNext old (File file) owner → IsSoFar S old → limits ≡ old.limits
    → Has S limits.content (name_of kind.File file) → GainsFile old.remembered m file → Takes old (node.Leaf file) m new → Knows S new
more_file S one_each d old new limits file owner m n so same has gains takes =
    let next = at_item n.path (File file) owner in
    subst (Knows S) (sym (takes n.items next n.cut))
    (takes_file S one_each d old n.items next n.cut (so n.begun) file m refl n.room (subst (λ (l : Limits). Has S l.content (name_of kind.File file)) same has) gains)

pub more_folder : (S : Store) → IsMap S → (d : Disk) (old new : Reading) (meta owner : List ℕ) (a : Meta) (m : Memory) → IsNext old (Attributes meta) owner → IsSoFar S old
    → HasMeta S meta a → GainsMeta old.remembered m meta a → Takes old (node.Folder a) m new → Knows S new
more_folder S one_each d old new meta owner a m n so has gains takes =
    let next = at_item n.path (Attributes meta) owner in
    subst (Knows S) (sym (takes n.items next n.cut)) (takes_folder S one_each d old n.items next n.cut (so n.begun) meta a m refl n.room has gains)

-- the attributes were remembered
pub again_folder : (S : Store) → IsMap S → (d : Disk) (old new : Reading) (meta owner : List ℕ) (a : Meta) → IsNext old (Attributes meta) owner → IsSoFar S old
    → Contains old.remembered.metas (meta, a) → Takes old (node.Folder a) old.remembered new → Knows S new
again_folder S one_each d old new meta owner a n so there takes =
    more_folder S one_each d old new meta owner a old.remembered n so ((so n.begun).recalls.metas meta a there).0 (meta_stays old.remembered old.remembered refl meta a) takes

abbrev Steps : Reading → Reading → Type 0
Steps old new = (new.commit ≡ old.commit) × (new.limits ≡ old.limits) × (left_of new < left_of old)

pub stepped_taken : (old new : Reading) (named : Named) (owner : List ℕ) (x : NodeName) (m : Memory) → IsNext old named owner → Takes old x m new → Steps old new
stepped_taken old new named owner x m n takes =
    let e = takes n.items (at_item n.path named owner) n.cut in
    (ap (λ t. t.commit) e, ap (λ t. t.limits) e, subst (λ t. left_of t < left_of old) (sym e) (falls_taken old n.items n.path x m n.begun n.room))

pub more_opened : (S : Store) → IsMap S → (d : Disk) (old new : Reading) (tree meta owner : List ℕ) (x : DirTree) → IsNext old (Folder tree meta) owner → IsSoFar S old → HasEntries S tree (entries_in x) → OpensAt old owner tree meta x new → Knows S new
more_opened S one_each d old new tree meta owner x n so has o =
    let next = at_item n.path (Folder tree meta) owner in
    subst (Knows S) (sym (o.opens n.items next n.cut)) (opened_on S one_each d old n.items next n.cut (so n.begun) tree meta refl x has owner refl o.below (o.lists n.items next n.cut) new.remembered o.gains)

pub stepped_opened : (old new : Reading) (tree meta owner : List ℕ) (x : DirTree) → IsNext old (Folder tree meta) owner → OpensAt old owner tree meta x new → Steps old new
stepped_opened old new tree meta owner x n o =
    let next = at_item n.path (Folder tree meta) owner in
    let s = o.opens n.items next n.cut in
    (ap (λ t. t.commit) s, ap (λ t. t.limits) s, subst (λ t. left_of t < left_of old) (sym s) (falls_opened old n.items o.below n.path tree meta owner (entries_in x) new.remembered n.begun n.cut (o.lists n.items next n.cut)))

pub stepped_begun : (old new : Reading) (tree meta : List ℕ) → old.begun ≡ false → new ≡ begun_at old tree meta → Steps old new
stepped_begun old new tree meta begun e = (ap (λ t. t.commit) e, ap (λ t. t.limits) e, subst (λ t. left_of t < left_of old) (sym e) (falls_begun old tree meta begun))

-- a list that is looked through for long paths
pub short_more : (items : List Item) (i : ℕ) (x : Item) → i < length items → x ≡ get_or items i x → AllByRecursion (λ (i : Item). IsShort i.path) (take i items) → IsShort x.path → AllByRecursion (λ (i : Item). IsShort i.path) (take (i + 1) items)
short_more items i x less is all s =
    subst (AllByRecursion (λ (i : Item). IsShort i.path)) (sym (take_more items i x less ∙ ap (λ y. take i items ++ y ∷ []) (sym is))) (both (λ (i : Item). IsShort i.path) (take i items) (x ∷ []) all (s, tt))

-- ---- the commit

pub more_commit : (S : Store) (d : Disk) (old new : Reading) (commit tree meta : List ℕ) → commit ≡ old.commit → (c : CommitParts) → HasCommit S commit c → tree ≡ c.tree → meta ≡ c.meta → new ≡ begun_at old tree meta → Knows S new
more_commit S d old new commit tree meta same c has is_tree is_meta e = subst (Knows S) (sym e) (begun_on S old c tree meta (subst (λ s. HasCommit S s c) same has) is_tree is_meta)

pub commit_absent : (S : Store) (d : Disk) (old : Reading) (r : Turned) (commit : List ℕ) → r ≡ turn.Done (Err (fault.Absent (name_of kind.Commit commit))) → commit ≡ old.commit → IsAbsent d (name_of kind.Commit commit) → TellsIn S d old (Ok r) old
commit_absent S d old r commit is same absent = subst (λ r. TellsIn S d old (Ok r) old) (sym is) (inl (ap (name_of kind.Commit) same, absent))

pub commit_damaged : (S : Store) (d : Disk) (old : Reading) (r : Turned) (commit : List ℕ) (limits : Limits) → r ≡ turn.Done (Err (fault.Damaged (name_of kind.Commit commit))) → commit ≡ old.commit → limits ≡ old.limits
    → IsDamaged d limits.content (name_of kind.Commit commit) → TellsIn S d old (Ok r) old
commit_damaged S d old r commit limits is same same_limits damaged =
    subst (λ r. TellsIn S d old (Ok r) old) (sym is) (inl (ap (name_of kind.Commit) same, subst (λ (l : Limits). IsDamaged d l.content (name_of kind.Commit commit)) same_limits damaged))

-- ---- a folder's entries

pub opened_told : (S : Store) → IsMap S → (d : Disk) (old new : Reading) (tree meta owner : List ℕ) (e : DirTree) → IsNext old (Folder tree meta) owner → IsSoFar S old → HasEntries S tree (entries_in e)
    → (r : Turned) → IsOpened old owner tree meta e (Ok r) new → TellsIn S d old (Ok r) new
opened_told S one_each d old new tree meta owner e n so has turn.More o = more_opened S one_each d old new tree meta owner e n so has o
opened_told S one_each d old new tree meta owner e n so has (turn.Done (Ok x)) o = absurd o
opened_told S one_each d old new tree meta owner e n so has (turn.Done (Err (fault.Absent x))) o = absurd o
opened_told S one_each d old new tree meta owner e n so has (turn.Done (Err (fault.Damaged x))) o =
    let k = so n.begun in
    let next = at_item n.path (Folder tree meta) owner in
    inr (k.parts, k.has, subst (DamagedIn S d old.limits k.parts.tree k.parts.meta) (sym o.1) (far_here S one_each d old n.items next n.cut k tree meta refl (entries_in e) has (o.2 n.items next n.cut) n.room))
opened_told S one_each d old new tree meta owner e n so has (turn.Done (Err (fault.Fs x))) o = absurd o
opened_told S one_each d old new tree meta owner e n so has (turn.Done (Err fault.NoMemory)) o = absurd o

-- its entries were remembered
module _ (old new : Reading) (tree meta owner : List ℕ) (x : DirTree) (n : IsNext old (Folder tree meta) owner) where
  again_opens : (below : List Item) → ListsBelow old owner tree meta (entries_in x) below → Opens old below old.remembered new → OpensAt old owner tree meta x new
  again_opens below lists opens =
      let same = opened_memory old new (Folder tree meta) owner n old.remembered below opens in
      record { below = below; lists = lists; opens = subst (λ m. Opens old below m new) (sym same) opens; gains = tree_stays old.remembered new.remembered same tree x }

  pub again_opened : (S : Store) → IsMap S → (d : Disk) → IsSoFar S old → Contains old.remembered.trees (tree, x) → (below : List Item) → ListsBelow old owner tree meta (entries_in x) below → Opens old below old.remembered new → Knows S new
  again_opened S one_each d so there below lists opens = more_opened S one_each d old new tree meta owner x n so ((so n.begun).recalls.trees tree x there).0 (again_opens below lists opens)

  pub again_stepped : (below : List Item) → ListsBelow old owner tree meta (entries_in x) below → Opens old below old.remembered new → Steps old new
  again_stepped below lists opens = stepped_opened old new tree meta owner x n (again_opens below lists opens)

  pub again_far : (S : Store) → IsMap S → (d : Disk) → IsSoFar S old → Contains old.remembered.trees (tree, x) → IsFarBelow old (entries_in x) → (r : Turned) → r ≡ turn.Done (Err (fault.Damaged (name_of kind.DirTree tree))) → TellsIn S d old (Ok r) old
  again_far S one_each d so there far r is =
      subst (λ r. TellsIn S d old (Ok r) old) (sym is)
      (opened_told S one_each d old old tree meta owner x n so ((so n.begun).recalls.trees tree x there).0 (turn.Done (Err (fault.Damaged (name_of kind.DirTree tree)))) (refl, refl, far))

pub opened_stepped : (old new : Reading) (tree meta owner : List ℕ) (e : DirTree) → IsNext old (Folder tree meta) owner → (r : Turned) → IsOpened old owner tree meta e (Ok r) new → IsStepped old (Ok r) new
opened_stepped old new tree meta owner e n turn.More o = stepped_opened old new tree meta owner e n o
opened_stepped old new tree meta owner e n (turn.Done (Ok x)) o = absurd o
opened_stepped old new tree meta owner e n (turn.Done (Err (fault.Absent x))) o = absurd o
opened_stepped old new tree meta owner e n (turn.Done (Err (fault.Damaged x))) o = o.0
opened_stepped old new tree meta owner e n (turn.Done (Err (fault.Fs x))) o = absurd o
opened_stepped old new tree meta owner e n (turn.Done (Err fault.NoMemory)) o = absurd o

-- ---- the next item

pub next_of : (t : Reading) (rest : List Item) (last : Item) (named : Named) → t.pending ≡ rest ++ last ∷ [] → last.named ≡ named → t.begun ≡ true → length t.found < t.limits.paths → IsNext t named last.owner
next_of t rest last named cut is begun room = record {
  items = rest;
  path = last.path;
  cut = cut ∙ ap (λ x. rest ++ at_item last.path x last.owner ∷ []) is;
  begun = begun;
  room = room;
}

pub stop_full : (S : Store) → IsMap S → (d : Disk) (t : Reading) (rest : List Item) (last : Item) (r : Turned) → t.pending ≡ rest ++ last ∷ [] → Knows S t → r ≡ turn.Done (Err (fault.Damaged (name_of kind.DirTree last.owner))) → t.limits.paths ≤ length t.found → TellsIn S d t (Ok r) t
stop_full S one_each d t rest last r cut k is full = subst (λ r. TellsIn S d t (Ok r) t) (sym is) (inr (k.parts, k.has, full_here S one_each d t rest last cut k full))
