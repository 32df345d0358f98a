-- What is reached, where a store or what is begun with changes.
use Rattle.std.proofs.Common.{◌≡◌, ◌≢◌, ◌⊎◌, inl, inr, ⊎_elim, List, ℕ, sym, ◌∙◌, ap, subst}
use Rattle.ost_types.specs.declared.object.Kind.{Kind}
use Rattle.ost_types.specs.declared.object.Kind.TheVariants.{Commit, DirTree, DirMeta, File}
use Rattle.ost_types.specs.declared.object.ObjName.{ObjName}
use Rattle.repo_model.specs.Objects.{Store}
use Rattle.repo_model.specs.Trees.{name_of}
use Rattle.reach.specs.Reach.{ObjNames, IsIn, IsFolderOf, Reach, Refers, start, onward}

-- An object that another store has, too, names the same there.
pub refers_where : (S T : Store) (o next : ObjName) → ((b : List ℕ) → S o b → T o b) → Refers S o next → Refers T o next
refers_where S T o next has (inl (c, is, here, of)) = inl (c, is, record { bytes = here.bytes; stored = commit here.bytes here.stored; reads = here.reads }, of)
  where
    named : o ≡ name_of Commit o.csum
    named = ap (λ k. name_of k o.csum) is

    commit : (b : List ℕ) → S (name_of Commit o.csum) b → T (name_of Commit o.csum) b
    commit b s = subst (λ x. T x b) named (has b (subst (λ x. S x b) (sym named) s))
refers_where S T o next has (inr (e, is, here, of)) = inr (e, is, record { bytes = here.bytes; stored = tree here.bytes here.stored; reads = here.reads }, of)
  where
    named : o ≡ name_of DirTree o.csum
    named = ap (λ k. name_of k o.csum) is

    tree : (b : List ℕ) → S (name_of DirTree o.csum) b → T (name_of DirTree o.csum) b
    tree b s = subst (λ x. T x b) named (has b (subst (λ x. S x b) (sym named) s))

-- what names another stands in the store
pub refers_in : (S : Store) (o next : ObjName) → Refers S o next → IsIn S o
refers_in S o next (inl (c, is, has, of)) = subst (IsIn S) (sym (ap (λ k. name_of k o.csum) is)) (has.bytes, has.stored)
refers_in S o next (inr (e, is, has, of)) = subst (IsIn S) (sym (ap (λ k. name_of k o.csum) is)) (has.bytes, has.stored)

-- A set that has the beginnings and all that its members name has all that is reached.
pub reach_least : (S : Store) (from keep : ObjNames) → ((o : ObjName) → from o → keep o) → ((o next : ObjName) → keep o → Refers S o next → keep next) → (o : ObjName) → Reach S from o → keep o
reach_least S from keep begins closed o (start _ f) = begins o f
reach_least S from keep begins closed o (onward p _ reached refers) = closed p o (reach_least S from keep begins closed p reached) refers

-- What is reached stays so where its objects stay.
pub reach_stays : (S T : Store) (from to : ObjNames) → ((o : ObjName) → from o → to o) → ((o : ObjName) (b : List ℕ) → Reach S from o → S o b → T o b) → (o : ObjName) → Reach S from o → Reach T to o
reach_stays S T from to begins has o (start _ f) = start o (begins o f)
reach_stays S T from to begins has o (onward p _ reached refers) =
    onward p o (reach_stays S T from to begins has p reached) (refers_where S T p o (λ b. has p b reached) refers)

pub reach_up : (S T : Store) (from to : ObjNames) → ((o : ObjName) → from o → to o) → ((o : ObjName) (b : List ℕ) → S o b → T o b) → (o : ObjName) → Reach S from o → Reach T to o
reach_up S T from to begins has = reach_stays S T from to begins (λ o b reached. has o b)

-- Nothing more is reached in a store that has no other objects of what is reached.
pub reach_back : (S T : Store) (from : ObjNames) → ((o : ObjName) (b : List ℕ) → Reach S from o → T o b → S o b) → (o : ObjName) → Reach T from o → Reach S from o
reach_back S T from has o (start _ f) = start o f
reach_back S T from has o (onward p _ reached refers) =
    let before = reach_back S T from has p reached in onward p o before (refers_where T S p o (λ b. has p b before) refers)

-- ---- what is named is no commit

of_kind : (a b : Kind) → a ≢ b → (o : ObjName) (sum : List ℕ) → o ≡ name_of a sum → o.kind ≢ b
of_kind a b differs o sum is bad = differs (sym (ap (λ (x : ObjName). x.kind) is) ∙ bad)

tree_differs : DirTree ≢ Commit
tree_differs e = let e : DirTree ≡ Commit = e in cc

meta_differs : DirMeta ≢ Commit
meta_differs e = let e : DirMeta ≡ Commit = e in cc

file_differs : File ≢ Commit
file_differs e = let e : File ≡ Commit = e in cc

pub folder_kind : (tree meta : List ℕ) (o : ObjName) → IsFolderOf tree meta o → o.kind ≢ Commit
folder_kind tree meta o = ⊎_elim (λ e. of_kind DirTree Commit tree_differs o tree e) (λ e. of_kind DirMeta Commit meta_differs o meta e)

pub refers_kind : (S : Store) (o next : ObjName) → Refers S o next → next.kind ≢ Commit
refers_kind S o next (inl (c, is, here, of)) = folder_kind c.tree c.meta next of
refers_kind S o next (inr (e, is, here, inl (x, sum, file, names))) = of_kind File Commit file_differs next sum names
refers_kind S o next (inr (e, is, here, inr (x, tree, meta, folder, of))) = folder_kind tree meta next of

-- Of what is reached only that which was begun with may be a commit.
pub reach_kind : (S : Store) (from : ObjNames) (o : ObjName) → Reach S from o → from o ⊎ (o.kind ≢ Commit)
reach_kind S from o (start _ f) = inl f
reach_kind S from o (onward p _ reached refers) = inr (refers_kind S p o refers)
