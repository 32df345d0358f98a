-- What is reached from one commit: itself, and what the ways down from its root name.
use Rattle.std.proofs.Common.{◌≡◌, ◌≢◌, ◌⊎◌, inl, inr, ⊎_elim, ℕ, List, [], ◌∷◌, Some, refl, sym, ◌∙◌, ap, subst}
use Rattle.ost_types.specs.declared.limits.Limits.{Limits}
use Rattle.ost_types.specs.declared.object.Kind.TheVariants.{Commit, DirTree, DirMeta, File}
use Rattle.ost_types.specs.declared.object.ObjName.{ObjName}
use Rattle.ost_types.specs.Path.{Name, Path}
use Rattle.ost_forms.specs.Commit.{CommitParts}
use Rattle.ost_forms.specs.DirTree.{Entries}
use Rattle.ost_forms.proofs.Parted.{one_commit}
use Rattle.repo_model.specs.Objects.{Store, IsMap, Has}
use Rattle.repo_model.specs.Trees.{HasCommit, HasEntries, Names, NamesFile, name_of}
use Rattle.repo_model.specs.Whole.{Complete}
use Rattle.reach.specs.Reach.{ObjNames, Is, IsEntry, IsFolderOf, Reach, Refers, start, onward}

-- A way down from what is reached names only what is reached.
module _ (S : Store) (from : ObjNames) where
  entry_reached : (tree : List ℕ) (e : Entries) (next : ObjName) → Reach S from (name_of DirTree tree) → HasEntries S tree e → IsEntry e next → Reach S from next
  entry_reached tree e next reached has entry = onward (name_of DirTree tree) next reached (inr (e, refl, has, entry))

  file_reached : (tree : List ℕ) (e : Entries) (x : Name) (rest : Path) (o : ObjName) → Reach S from (name_of DirTree tree) → HasEntries S tree e → NamesFile e x rest o → Reach S from o
  file_reached tree e x [] o at has file = entry_reached tree e o at has (inl (x, file.0, file.1, file.2))
  file_reached tree e x (y ∷ rest) o at has file = absurd file

  pub names_reached : (tree meta : List ℕ) → Reach S from (name_of DirTree tree) → Reach S from (name_of DirMeta meta) → (p : Path) (o : ObjName) → Names S tree meta p o → Reach S from o
  unfolding Names
  names_reached tree meta at_tree at_meta [] o names = ⊎_elim (λ e. subst (Reach S from) (sym e) at_tree) (λ e. subst (Reach S from) (sym e) at_meta) names
  names_reached tree meta at_tree at_meta (x ∷ rest) o (e, has, inl file) = file_reached tree e x rest o at_tree has file
  names_reached tree meta at_tree at_meta (x ∷ rest) o (e, has, inr (t, m, folder, names)) =
      let tree_in = entry_reached tree e (name_of DirTree t) at_tree has (inr (x, t, m, folder, inl refl)) in
      let meta_in = entry_reached tree e (name_of DirMeta m) at_tree has (inr (x, t, m, folder, inr refl)) in
      names_reached t m tree_in meta_in rest o names

-- ---- the ways down go on wherever an object names another

meta_no_tree : (o : ObjName) (meta : List ℕ) → o ≡ name_of DirMeta meta → o.kind ≡ DirTree → ⊥
meta_no_tree o meta is kind = let e : DirMeta ≡ DirTree = sym (ap (λ (x : ObjName). x.kind) is) ∙ kind in cc

file_no_tree : (e : Entries) (x : Name) (rest : Path) (o : ObjName) → NamesFile e x rest o → o.kind ≡ DirTree → ⊥
file_no_tree e x [] o file kind = let z : File ≡ DirTree = sym (ap (λ (x : ObjName). x.kind) file.2) ∙ kind in cc
file_no_tree e x (y ∷ rest) o file kind = absurd file

file_no_commit : (e : Entries) (x : Name) (rest : Path) (o : ObjName) → NamesFile e x rest o → o.kind ≡ Commit → ⊥
file_no_commit e x [] o file kind = let z : File ≡ Commit = sym (ap (λ (x : ObjName). x.kind) file.2) ∙ kind in cc
file_no_commit e x (y ∷ rest) o file kind = absurd file

tree_no_commit : (o : ObjName) → o.kind ≡ Commit → o.kind ≡ DirTree → ⊥
tree_no_commit o commit tree = let e : Commit ≡ DirTree = sym commit ∙ tree in cc

entry_named : (S : Store) (tree meta : List ℕ) (e : Entries) (next : ObjName) → HasEntries S tree e → IsEntry e next → (p : Path) × Names S tree meta p next
unfolding Names
entry_named S tree meta e next has (inl (x, sum, file, is)) = (x ∷ [], (e, has, inl (sum, file, is)))
entry_named S tree meta e next has (inr (x, t, m, folder, of)) = (x ∷ [], (e, has, inr (t, m, folder, of)))

names_onward : (S : Store) (tree meta : List ℕ) (q : Path) (o next : ObjName) (e : Entries) → Names S tree meta q o → o.kind ≡ DirTree → HasEntries S o.csum e → IsEntry e next → (p : Path) × Names S tree meta p next
unfolding Names
names_onward S tree meta [] o next e (inl is) kind has entry = entry_named S tree meta e next (subst (λ (x : ObjName). HasEntries S x.csum e) is has) entry
names_onward S tree meta [] o next e (inr is) kind has entry = absurd (meta_no_tree o meta is kind)
names_onward S tree meta (x ∷ rest) o next e (d, at, inl file) kind has entry = absurd (file_no_tree d x rest o file kind)
names_onward S tree meta (x ∷ rest) o next e (d, at, inr (t, m, folder, names)) kind has entry =
    let deeper = names_onward S t m rest o next e names kind has entry in (x ∷ deeper.0, (d, at, inr (t, m, folder, deeper.1)))

root_named : (S : Store) (tree meta : List ℕ) (o : ObjName) → IsFolderOf tree meta o → Names S tree meta [] o
unfolding Names
root_named S tree meta o of = of

pub names_kind : (S : Store) (tree meta : List ℕ) (p : Path) (o : ObjName) → Names S tree meta p o → o.kind ≢ Commit
unfolding Names
names_kind S tree meta [] o (inl is) kind = let e : DirTree ≡ Commit = sym (ap (λ (x : ObjName). x.kind) is) ∙ kind in cc
names_kind S tree meta [] o (inr is) kind = let e : DirMeta ≡ Commit = sym (ap (λ (x : ObjName). x.kind) is) ∙ kind in cc
names_kind S tree meta (x ∷ rest) o (e, has, inl file) kind = file_no_commit e x rest o file kind
names_kind S tree meta (x ∷ rest) o (e, has, inr (t, m, folder, names)) kind = names_kind S t m rest o names kind

-- ---- one commit

pub one_parts : (S : Store) → IsMap S → (sum : List ℕ) (c d : CommitParts) → HasCommit S sum c → HasCommit S sum d → c ≡ d
one_parts S map sum c d has other =
    let same : has.bytes ≡ other.bytes = map.one (name_of Commit sum) has.bytes other.bytes has.stored other.stored in
    one_commit c d other.bytes has.reads.0.time other.reads.0.time (has.reads.0.form ∙ ap Some same) other.reads.0.form

module _ (S : Store) (commit : List ℕ) (c : CommitParts) (here : HasCommit S commit c) where
  abbrev itself : ObjName
  itself = name_of Commit commit

  at_itself : Reach S (Is itself) itself
  at_itself = start itself refl

  pub tree_at : Reach S (Is itself) (name_of DirTree c.tree)
  tree_at = onward itself (name_of DirTree c.tree) at_itself (inl (c, refl, here, inl refl))

  pub meta_at : Reach S (Is itself) (name_of DirMeta c.meta)
  meta_at = onward itself (name_of DirMeta c.meta) at_itself (inl (c, refl, here, inr refl))

  pub named_reached : (p : Path) (o : ObjName) → Names S c.tree c.meta p o → Reach S (Is itself) o
  named_reached = names_reached S (Is itself) c.tree c.meta tree_at meta_at

  module _ (map : IsMap S) where
    from_itself : (next : ObjName) → Refers S itself next → (p : Path) × Names S c.tree c.meta p next
    from_itself next (inl (d, is, has, of)) =
        let same : d ≡ c = one_parts S map commit d c has here in
        ([], root_named S c.tree c.meta next (subst (λ (x : CommitParts). IsFolderOf x.tree x.meta next) same of))
    from_itself next (inr (e, is, has, entry)) = absurd (tree_no_commit itself refl is)

    from_named : (q : Path) (o next : ObjName) → Names S c.tree c.meta q o → Refers S o next → (p : Path) × Names S c.tree c.meta p next
    from_named q o next names (inl (d, is, has, of)) = absurd (names_kind S c.tree c.meta q o names is)
    from_named q o next names (inr (e, is, has, entry)) = names_onward S c.tree c.meta q o next e names is has entry

    pub reached_named : (o : ObjName) → Reach S (Is itself) o → (o ≡ itself) ⊎ ((p : Path) × Names S c.tree c.meta p o)
    reached_named o (start _ is) = inl is
    reached_named o (onward p _ reached refers) = inr (⊎_elim
        (λ is. from_itself o (subst (λ (x : ObjName). Refers S x o) is refers))
        (λ way. from_named way.0 p o way.1 refers)
        (reached_named p reached))

-- Where the commit is whole, all that is reached is in the store and reads as its kind.
pub reached_has : (S : Store) → IsMap S → (limits : Limits) (commit : List ℕ) → Complete S limits commit → (o : ObjName) → Reach S (Is (name_of Commit commit)) o → Has S limits.content o
reached_has S map limits commit whole o reached = ⊎_elim
    (λ is. subst (Has S limits.content) (sym is) (record { bytes = whole.here.bytes; stored = whole.here.stored; formed = ∣ (whole.parts, whole.here.reads) ∣₁ }))
    (λ way. whole.objects way.0 o way.1)
    (reached_named S commit whole.parts whole.here map o reached)
