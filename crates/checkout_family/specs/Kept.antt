-- A folder that is a commit's tree stays so over an act, where nothing of the commit is removed.
use Rattle.std.proofs.Common.{◌≡◌, ◌≢◌, inr, ⊎_elim, ℕ, List, [], ◌++◌, Contains, Some, None, refl, sym, ◌∙◌, ap, subst}
use Rattle.std.proofs.lemmas.List.Elements.{Contains-append_left, Contains-append_right}
use Rattle.std.proofs.Math.Logic.{∥∥₁_elim}
use Rattle.ost_types.specs.declared.limits.Limits.{Limits}
use Rattle.ost_types.specs.declared.meta.Meta.{Meta}
use Rattle.ost_types.specs.declared.node.NodeName.{NodeName}
use Rattle.ost_types.specs.declared.node.NodeName.TheVariants.{Folder, Leaf}
use Rattle.ost_types.specs.declared.object.Kind.{Kind}
use Rattle.ost_types.specs.declared.object.Kind.TheVariants as kind
use Rattle.ost_types.specs.declared.object.ObjName.{ObjName}
use Rattle.ost_types.specs.Path.{Name, Path}
use Rattle.ost_forms.specs.Commit.{CommitParts}
use Rattle.fs_trait.specs.Change.{Writes}
use Rattle.fs_trait.specs.Seen.{Seen, Vacant, Directory, shows}
use Rattle.fs_trait.specs.View.{Disk, View}
use Rattle.repo_layout.specs.BootPaths.{checkout_path}
use Rattle.repo_layout.proofs.Places.{place-object}
use Rattle.repo_model.specs.Objects.{Has, Store, Stores, object_in, path_of}
use Rattle.repo_model.specs.Trees.{Names, Shows, TreeShows, name_of}
use Rattle.repo_model.specs.Whole.{Complete}
use Rattle.repo_model.proofs.Named.{IsSum-named}
use Rattle.repo_model.proofs.Stored.{stores_map, stores_same}
use Rattle.reach.specs.Reach.{Is, Reach, start, onward}
use Rattle.reach.proofs.Commits.{named_reached, one_parts}
use Rattle.reach.proofs.Parts.{commit_shown, commit_shows, commit_whole}
use Rattle.reach.proofs.Reaching.{refers_where}
use Rattle.rely_guarantee.specs.Books.{Books}
use Rattle.rely_guarantee.specs.Rely.{Guarantee}
use Rattle.checkout.specs.CheckoutFolder.{leaf_path}
use Rattle.checkout.proofs.CheckoutLemmas.{Stands-kept}
use Rattle.read_command.specs.WayLaws.{shown_leaf}
use Rattle.checkout_command.specs.Answers.{IsCheckedOut}
use Rattle.command.specs.Removed.{RemovesOnly}
use Rattle.checkout_family.specs.Folder.{AreSpared}

-- a commit that is whole has a folder at its root,
root_shown : (S : Store) (limits : Limits) (commit : List ℕ) → Complete S limits commit → ((m : Meta) → TreeShows S commit [] (Folder m) → ⊥) → ⊥
unfolding Names Shows
root_shown S limits commit whole none =
    let c = whole.parts in
    let has : Has S limits.content (name_of kind.DirMeta c.meta) = whole.objects [] (name_of kind.DirMeta c.meta) (inr refl) in
    ∥∥₁_elim has.formed (λ x y. absurd x) (λ m. none m.0 (c, whole.here, (m.0, record { bytes = has.bytes; stored = has.stored; reads = m.1 }, refl)))

not_folder : (d : Disk) (p : Path) (m : Meta) → shows d p ≡ Vacant → shows d p ≡ Directory m → ⊥
not_folder d p m none is = let no : Vacant ≡ Directory m = sym none ∙ is in cc

-- so something stands at the path of its checkout
pub tree_stands : (d : Disk) (limits : Limits) (commit : List ℕ) (name : Name) → IsCheckedOut d limits commit name → shows d (checkout_path name) ≢ Vacant
tree_stands d limits commit name is none = root_shown (Stores d) limits commit is.whole (λ m shown. not_folder d (checkout_path name) m none (is.folder.each [] (Folder m) shown))

-- what is stored isn't vacant
stored_there : (kind : Kind) (s : Seen) (bytes : List ℕ) → s ≡ Vacant → object_in kind s ≡ Some bytes → ⊥
stored_there kind s bytes none holds = let no : None ≡ Some bytes = sym (ap (object_in kind) none) ∙ holds in cc

-- An act leaves what is stored as it is, but for what it removes.
module _ (b : Books) (v w : View) (actor lane : ℕ) (writes : Writes (Guarantee b v actor lane) v w) (removed : List ObjName) (only : RemovesOnly removed v w) where
  pub unremoved_same : (o : ObjName) (bytes : List ℕ) → ¬ (Contains removed o) → Stores v.now o bytes → shows w.now (path_of o) ≡ shows v.now (path_of o)
  unremoved_same o bytes still stored =
      let sum = IsSum-named o bytes stored.named in
      ⊎_elim
      (λ same. same)
      (λ m. ⊎_elim
      (λ comes. absurd (stored_there o.kind (shows v.now (path_of o)) bytes comes.0 stored.there))
      (λ goes. absurd (⊎_elim (λ none. stored_there o.kind (shows v.now (path_of o)) bytes none stored.there) still (only o sum goes.0)))
      (m.objects o.kind o.csum (place-object o.kind o.csum sum)))
      (writes.now (path_of o))

-- an act that removes nothing of the commit, nor was anything of it removed before
module _ (b : Books) (v w : View) (actor lane : ℕ) (writes : Writes (Guarantee b v actor lane) v w) (removed : List ObjName) (only : RemovesOnly removed v w) (commit : List ℕ) (out : List ObjName) (spared : AreSpared (removed ++ out) commit w.now) where
  abbrev Its : Disk → ObjName → Type 0
  Its d = Reach (Stores d) (Is (name_of kind.Commit commit))

  object_same : (o : ObjName) (bytes : List ℕ) → Its w.now o → Stores v.now o bytes → shows w.now (path_of o) ≡ shows v.now (path_of o)
  object_same o bytes reached = unremoved_same b v w actor lane writes removed only o bytes (λ has. spared o (Contains-append_left removed out o has) reached)

  -- the commit goes on to reach all that it reached
  reached_on : (o : ObjName) → Its v.now o → Its w.now o
  reached_on o (start _ is) = start o is
  reached_on o (onward p _ reached refers) =
      let now = reached_on p reached in
      onward p o now (refers_where (Stores v.now) (Stores w.now) p o (λ bytes had. stores_same v.now w.now p bytes (object_same p bytes now had) had) refers)

  stored_on : (o : ObjName) (bytes : List ℕ) → Its v.now o → Stores v.now o bytes → Stores w.now o bytes
  stored_on o bytes reached had = stores_same v.now w.now o bytes (object_same o bytes (reached_on o reached) had) had

  pub spared_before : AreSpared out commit v.now
  spared_before o has reached = spared o (Contains-append_right removed out o has) (reached_on o reached)

  module _ (limits : Limits) (name : Name) (is : IsCheckedOut v.now limits commit name) (same : (rest : Path) → shows w.now (checkout_path name ++ rest) ≡ shows v.now (checkout_path name ++ rest)) where
    abbrev c : CommitParts
    c = is.whole.parts

    -- what the commit shows it showed before
    showed : (p : Path) (n : NodeName) → TreeShows (Stores w.now) commit p n → TreeShows (Stores v.now) commit p n
    showed = commit_shown (Stores v.now) (Stores w.now) commit stored_on (stores_map w.now) limits is.whole

    leaf_named : (p : Path) (sum : List ℕ) → TreeShows (Stores v.now) commit p (Leaf sum) → Names (Stores v.now) c.tree c.meta p (name_of kind.File sum)
    leaf_named p sum shown =
        let parts : shown.0 ≡ c = one_parts (Stores v.now) (stores_map v.now) commit shown.0 c shown.1 is.whole.here in
        shown_leaf (Stores v.now) c.tree c.meta p sum (subst (λ (x : CommitParts). Shows (Stores v.now) x.tree x.meta p (Leaf sum)) parts shown.2)

    leaf_same : (p : Path) (n : NodeName) (sum : List ℕ) → TreeShows (Stores v.now) commit p n → Some n ≡ Some (Leaf sum) → shows w.now (leaf_path sum) ≡ shows v.now (leaf_path sum)
    leaf_same p n sum shown leaf =
        let at : n ≡ Leaf sum = cc in
        let names = leaf_named p sum (subst (TreeShows (Stores v.now) commit p) at shown) in
        let object = is.whole.objects p (name_of kind.File sum) names in
        let reached = named_reached (Stores v.now) commit c is.whole.here p (name_of kind.File sum) names in
        object_same (name_of kind.File sum) object.bytes (reached_on (name_of kind.File sum) reached) object.stored

    pub tree_on : IsCheckedOut w.now limits commit name
    tree_on = record {
      whole = commit_whole (Stores v.now) (Stores w.now) commit stored_on (stores_map w.now) limits is.whole;
      folder = record {
        each = λ p n shown. (let before = showed p n shown in
            Stands-kept v.now w.now (checkout_path name) p (Some n) (same p) (λ sum there leaf. leaf_same p n sum before leaf) (is.folder.each p n before));
        none = λ p none. same p ∙ is.folder.none p (λ n shown. none n (commit_shows (Stores v.now) (Stores w.now) commit stored_on p n shown));
      };
    }
