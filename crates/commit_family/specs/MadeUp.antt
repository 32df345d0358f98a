-- The objects of a commit make it up, and what is asked of a disk where they are brought.
use Rattle.std.proofs.Common.{◌≡◌, ◌⊎◌, inl, inr, ⊎_elim, ℕ, refl, sym, ◌∙◌, ap, subst, arith, List, [], ◌∷◌, ◌++◌}
use Rattle.std.specs.Prelude.{Contains}
use Rattle.std.proofs.lemmas.List.Elements.{Contains-append_cases, Contains-append_left, Contains-append_right}
use Rattle.ost_types.specs.declared.limits.Limits.{Limits}
use Rattle.ost_types.specs.declared.object.Kind.TheVariants.{Commit}
use Rattle.ost_types.specs.declared.object.ObjName.{ObjName}
use Rattle.ost_forms.specs.declared.tree_item.TreeItem.{TreeItem}
use Rattle.fs_trait.specs.View.{Disk}
use Rattle.repo_model.specs.Objects.{Store, Stores}
use Rattle.repo_model.specs.Trees.{name_of}
use Rattle.repo_model.proofs.Stored.{stores_map}
use Rattle.reach.specs.Reach.{Is, IsIn, ObjNames}
use Rattle.reach.proofs.Reaching.{reach_up}
use Rattle.tree_build.specs.Objects.{Object, work}
use Rattle.tree_build.proofs.Lists.{Among, contained_among}
use Rattle.tree_reach.specs.Trees.{CommitStore, IsCommitOf, IsMadeTree, IsOfTree}
use Rattle.tree_reach.proofs.Commits.{commit_all, commit_only, held_whole}
use Rattle.commit_build.specs.declared.message.Message.{Message}
use Rattle.commit_build.specs.Committing.{commit_of}
use Rattle.commit_durability.specs.Lasting.{IsAloneOn, IsCommit, IsOf, sum_of}
use Rattle.commit_durability.proofs.Holding.{its_commit, made_tree}
use Rattle.durable_store.specs.Brought.{NoHashCollisionOn, AreBrought, Having, MakeUp}

-- those of its tree, and its own
abbrev pub objects_of : List TreeItem → Message → List Object
objects_of tree message = work tree ++ commit_of tree message ∷ []

among_one : (x o : Object) → Among o (x ∷ []) → o ≡ x
among_one x o (inl e) = sym e
among_one x o (inr bad) = absurd bad

module _ (tree : List TreeItem) (message : Message) where
  abbrev its_sum : List ℕ
  its_sum = sum_of tree message

  abbrev Itself : ObjNames
  Itself = Is (name_of Commit its_sum)

  abbrev Its : Store
  Its = CommitStore tree its_sum (commit_of tree message).bytes

  pub of_objects : (o : Object) → Contains (objects_of tree message) o → IsOf tree message o
  of_objects o among = ⊎_elim
      (λ n. inl (n.0, (n.1, n.2)))
      (λ last. inr (among_one (commit_of tree message) o (contained_among o (commit_of tree message ∷ []) last)))
      (Contains-append_cases (work tree) (commit_of tree message ∷ []) o among)

  pub objects_are : (o : Object) → IsOf tree message o → Contains (objects_of tree message) o
  objects_are o (inl n) = Contains-append_left (work tree) (commit_of tree message ∷ []) o (n.0, n.1.0, n.1.1)
  objects_are o (inr e) = Contains-append_right (work tree) (commit_of tree message ∷ []) o (0, omega arith, sym e)

  store_of : (name : ObjName) (b : List ℕ) → Having (objects_of tree message) name b → Its name b
  store_of name b (o, among, named, same) = by (of_objects o among)
    where
      by : IsOf tree message o → Its name b
      by (inl n) = inl (o, (n.0, n.1.0, n.1.1), named, same)
      by (inr e) = inr (sym named ∙ ap (λ (y : Object). y.name) e, sym same ∙ ap (λ (y : Object). y.bytes) e)

  having_of : (name : ObjName) (b : List ℕ) → Its name b → Having (objects_of tree message) name b
  having_of name b (inl (o, among, named, same)) = (o, objects_are o (inl (among.0, (among.1, among.2))), named, same)
  having_of name b (inr (named, same)) = (commit_of tree message, objects_are (commit_of tree message) (inr refl), sym named, sym same)

  in_store : (name : ObjName) → (name ≡ name_of Commit its_sum) ⊎ IsOfTree tree name → IsIn (Having (objects_of tree message)) name
  in_store name (inl e) = ((commit_of tree message).bytes, having_of name (commit_of tree message).bytes (inr (e, refl)))
  in_store name (inr (o, among, named)) = (o.bytes, having_of name o.bytes (inl (o, among, named, refl)))

  of_store : (name : ObjName) → IsIn (Having (objects_of tree message)) name → (name ≡ name_of Commit its_sum) ⊎ IsOfTree tree name
  of_store name (b, having) = by (store_of name b having)
    where
      by : Its name b → (name ≡ name_of Commit its_sum) ⊎ IsOfTree tree name
      by (inl (o, among, named, same)) = inr (o, among, named)
      by (inr (named, same)) = inl named

  pub makes_up : (limits : Limits) → IsCommit limits tree message → MakeUp limits (objects_of tree message) its_sum
  makes_up limits is = record {
    reached = λ name. (
      λ reached. in_store name (commit_only limits tree made its_sum (commit_of tree message).bytes own name (reach_up (Having (objects_of tree message)) Its Itself Itself (λ x e. e) store_of name reached)),
      λ within. reach_up Its (Having (objects_of tree message)) Itself Itself (λ x e. e) having_of name (commit_all limits tree made its_sum (commit_of tree message).bytes own name (of_store name within)),
    );
    whole = λ d all. held_whole (Stores d) limits tree made its_sum (commit_of tree message).bytes own (λ name b reached there. all_there d all name b (having_of name b there)) (stores_map d);
  }
    where
      made : IsMadeTree limits tree
      made = made_tree limits tree message is

      own : IsCommitOf tree (commit_of tree message).bytes
      own = its_commit limits tree message is

      all_there : (d : Disk) → ((o : Object) → Contains (objects_of tree message) o → Stores d o.name o.bytes) → (name : ObjName) (b : List ℕ) → Having (objects_of tree message) name b → Stores d name b
      all_there d all name b (o, among, named, same) = subst (Stores d name) same (subst (λ x. Stores d x o.bytes) named (all o among))

  -- they are brought where each is
  pub brought_by : (brings : Store) → ((o : Object) → IsOf tree message o → brings o.name o.bytes) → AreBrought brings (objects_of tree message)
  brought_by brings each o among = each o (of_objects o among)

  -- no other bytes on the disk have a name of its own, where none have one of what is brought
  pub alone_on : (brings : Store) (d : Disk) → ((o : Object) → IsOf tree message o → brings o.name o.bytes) → NoHashCollisionOn brings d → IsAloneOn d tree message
  alone_on brings d each alone o of bytes stored = alone o.name o.bytes bytes (each o of) stored

-- and none have one of what is brought, where that is of commits of which this is so
pub alone_brought : (brings : Store) (d : Disk) → ((name : ObjName) (bytes : List ℕ) → brings name bytes → (tree : List TreeItem) × (message : Message) × IsAloneOn d tree message × (o : Object) × IsOf tree message o × (o.name ≡ name) × (o.bytes ≡ bytes)) → NoHashCollisionOn brings d
alone_brought brings d of name bytes other is stored =
    let x = of name bytes is in
    let o : Object = x.3 in
    x.2 o x.4 other (subst (λ n. Stores d n other) (sym x.5) stored) ∙ x.6
