-- What is known stays so, whoever writes what the rules let him.
use Rattle.std.proofs.Common.{◌≡◌, ◌≢◌, ⊎_elim, ℕ, List, ◌++◌, true, None, Some, sym, ◌∙◌, ap, subst}
use Rattle.ost_types.specs.declared.limits.Limits.{Limits}
use Rattle.ost_types.specs.declared.node.NodeName.TheVariants.{Leaf}
use Rattle.ost_types.specs.declared.object.Kind.{Kind}
use Rattle.ost_types.specs.declared.object.Kind.TheVariants as kind
use Rattle.ost_types.specs.declared.object.ObjName.{ObjName}
use Rattle.ost_types.specs.Path.{Name, Path, is_in, is_below}
use Rattle.ost_types.specs.PathMap.{Nodes, IsPathMap, node_at}
use Rattle.ost_types.proofs.Paths.{is_below-self, under-folder, under-is_in}
use Rattle.fs_trait.specs.Change.{Writes}
use Rattle.fs_trait.specs.Seen.{Seen, Directory, IsDirectory, Leaf as SeenLeaf, Symlink, Vacant, shows}
use Rattle.fs_trait.specs.View.{Disk, View}
use Rattle.repo_layout.specs.declared.folder.Folder.TheVariants.{Checkouts}
use Rattle.repo_layout.specs.BootPaths.{checkout_path}
use Rattle.repo_layout.specs.Paths.{folder_path}
use Rattle.repo_layout.specs.RefFile.{IsSum}
use Rattle.repo_layout.proofs.Places.{place-object}
use Rattle.layout_rules.proofs.Layouts.{below_split, fixed_other}
use Rattle.repo_model.specs.Objects.{path_of}
use Rattle.repo_model.specs.Trees.{Names, name_of}
use Rattle.repo_model.specs.Whole.{Complete}
use Rattle.reach.specs.Reach.{Is, Reach, Refers}
use Rattle.reach.specs.Removed.{Part}
use Rattle.reach.proofs.Commits.{named_reached}
use Rattle.reach.proofs.Parts.{commit_shown, commit_shows, commit_whole}
use Rattle.reach.proofs.Reaching.{reach_least}
use Rattle.tree_walk.specs.Standing as standing
use Rattle.tree_walk.specs.Standing.{Standing, StandsAs}
use Rattle.tree_walk.proofs.Standings.{standing_map}
use Rattle.part_reach.proofs.Readings.{reading_part}
use Rattle.rely_guarantee.specs.Books.{Books}
use Rattle.rely_guarantee.specs.Rely.{Guarantee}
use Rattle.rely_guarantee.specs.Removing.{IsGuarded}
use Rattle.rely_guarantee.proofs.Claiming.{folder_stands}
use Rattle.rely_guarantee.proofs.Finished.{finished_now}
use Rattle.rely_guarantee.proofs.Mays.{not_other}
use Rattle.rely_guarantee.proofs.Removing.{guarded_stays}
use Rattle.ref_command.specs.Founding.{known_kept}
use Rattle.ref_command.specs.Pins.{IsPinned}
use Rattle.read_command.specs.Kept.{reading_up}
use Rattle.read_command.specs.Guarded.{held}
use Rattle.checkout.specs.CheckoutFolder.{HasLeaves, IsLeaf, leaf_path}
use Rattle.checkout.specs.CheckoutWork.{Checkout}
use Rattle.checkout.specs.CheckoutSteps.{HasHome, Needs}
use Rattle.checkout.proofs.CheckoutStable.{Spares, checkout_kept}
use Rattle.commit_checkout.specs.TreeFolder.{IsTreeOf}
use Rattle.commit_checkout.proofs.TreeMaps.{leaf_is_named}
use Rattle.checkout_command.specs.Apart.{refers_rightly}
use Rattle.checkout_command.specs.declared.command.CheckoutCommand.{CheckoutCommand}
use Rattle.checkout_command.specs.declared.command.CheckoutCommand.TheVariants as command
use Rattle.checkout_command.specs.declared.made.Made.{Made}
use Rattle.checkout_command.specs.declared.made.Made.TheVariants as made
use Rattle.checkout_command.specs.Reads.{Reads}
use Rattle.checkout_command.specs.Commands.{ArePinned, IsHome}
use Rattle.checkout_command.specs.Founded.{IsFounded}
use Rattle.checkout_command.specs.MakeSteps.{IsFar}
use Rattle.checkout_command.specs.ReadSteps.{ReadKnows}

-- the folder of all checkouts is the one above
pub home_above : (name : Name) (d : Disk) → IsDirectory (shows d (folder_path Checkouts)) → HasHome (checkout_path name) d
home_above name d is p in_ =
    let at = under-is_in p (checkout_path name) in_ in
    subst (λ q. IsDirectory (shows d q)) (under-folder (folder_path Checkouts) p name at.0 at.1) is

home_only : (name : Name) (p : Path) → is_in p (checkout_path name) ≡ true → folder_path Checkouts ≡ p
home_only name p in_ = let at = under-is_in p (checkout_path name) in_ in under-folder (folder_path Checkouts) p name at.0 at.1

-- the leaves of a commit's tree are objects that it names
leaf_named : (d : Disk) (limits : Limits) (commit : List ℕ) (tree : Nodes) → IsPathMap tree → (whole : Complete (Standing d) limits commit) → IsTreeOf (Standing d) commit tree → (p : Path) (sum : List ℕ) → node_at tree p ≡ Some (Leaf sum) → Names (Standing d) whole.parts.tree whole.parts.meta p (name_of kind.File sum)
leaf_named d limits commit tree map whole is p sum has = leaf_is_named (Standing d) (standing_map d) limits commit tree map whole is p sum has

leaf_sum : (d : Disk) (limits : Limits) (commit : List ℕ) (tree : Nodes) → IsPathMap tree → Complete (Standing d) limits commit → IsTreeOf (Standing d) commit tree → (p : Path) (sum : List ℕ) → node_at tree p ≡ Some (Leaf sum) → IsSum sum
leaf_sum d limits commit tree map whole is p sum has = (whole.objects p (name_of kind.File sum) (leaf_named d limits commit tree map whole is p sum has)).stored.0

leaf_seen : (s : Seen) → standing.IsLeaf s → IsLeaf s
leaf_seen (SeenLeaf n m bytes) is = tt
leaf_seen (Symlink m target) is = tt
leaf_seen (Directory m) is = is
leaf_seen Vacant is = is

-- so they stand
pub leaves_stand : (d : Disk) (limits : Limits) (commit : List ℕ) (tree : Nodes) → IsPathMap tree → Complete (Standing d) limits commit → IsTreeOf (Standing d) commit tree → HasLeaves d tree
leaves_stand d limits commit tree map whole is p sum has =
    leaf_seen (shows d (leaf_path sum)) (whole.objects p (name_of kind.File sum) (leaf_named d limits commit tree map whole is p sum has)).stored.1

-- the folder and a part of what is in it is made
abbrev pub IsBegun : Made → Type 0
IsBegun made.Nothing = ⊥
IsBegun k = Unit {0}

no_leaf : (s : Seen) → s ≡ Vacant → IsLeaf s → ⊥
no_leaf s is leaf = subst IsLeaf is leaf

-- all that is reached from the commit stays
abbrev pub KeepsAll : View → View → List ℕ → Type 0
KeepsAll v w commit = (o : ObjName) (c : List ℕ) → Reach (Standing v.now) (Is (name_of kind.Commit commit)) o → Standing v.now o c → Standing w.now o c

module _ (v w : View) (commit : List ℕ) (keeps : KeepsAll v w commit) where
  pub whole_kept : (limits : Limits) → Complete (Standing v.now) limits commit → Complete (Standing w.now) limits commit
  whole_kept limits whole = commit_whole (Standing v.now) (Standing w.now) commit keeps (standing_map w.now) limits whole

  -- a whole commit shows nothing more
  pub tree_kept : (limits : Limits) (tree : Nodes) → Complete (Standing v.now) limits commit → IsTreeOf (Standing v.now) commit tree → IsTreeOf (Standing w.now) commit tree
  tree_kept limits tree whole is p n = (
    λ has. commit_shows (Standing v.now) (Standing w.now) commit keeps p n ((is p n).0 has),
    λ shown. (is p n).1 (commit_shown (Standing v.now) (Standing w.now) commit keeps (standing_map w.now) limits whole p n shown),
  )

module _ (b : Books) (v w : View) (actor lane : ℕ) (writes : Writes (Guarantee b v actor lane) v w) where
  pub home_kept : IsHome v → IsHome w
  home_kept home = ⊎_elim
      (λ same. subst IsDirectory (sym same) home)
      (λ m. absurd (not_other b v actor lane (folder_path Checkouts) (shows w.now (folder_path Checkouts)) (fixed_other Checkouts (folder_path Checkouts) (is_below-self (folder_path Checkouts))) m))
      (writes.now (folder_path Checkouts))

  -- an act for another lane
  module _ (mine : ℕ) (other : mine ≢ lane) where
    pub founded_kept : (t : CheckoutCommand) → ArePinned mine t b → IsFounded t v → IsFounded t w
    founded_kept (command.Look r) pin f = (f.0, known_kept b v w actor lane writes mine other None r.commit tt f.1)
    founded_kept (command.Read s) pin f = finished_now b v w actor lane writes mine other s.request.commit pin f
    founded_kept (command.Make m) pin f = finished_now b v w actor lane writes mine other m.request.commit pin f
    founded_kept (command.Ended a) pin f = f

    -- what is named from a guarded object is guarded, whatever files hold
    closed : (o next : ObjName) → IsGuarded b v lane o → Refers (Standing v.now) o next → IsGuarded b v lane next
    closed o next at refers = Reach.onward o next at (refers_rightly v.now o next refers)

    guards : (commit : List ℕ) → IsPinned mine b commit → (o : ObjName) → Reach (Standing v.now) (Is (name_of kind.Commit commit)) o → IsGuarded b v lane o
    guards commit pin = reach_least (Standing v.now) (Is (name_of kind.Commit commit)) (IsGuarded b v lane) (λ o is. subst (IsGuarded b v lane) (sym is) (held b v w actor lane writes mine other commit pin)) closed

    -- what stands of it stays
    pub guarded_shown : (o : ObjName) → IsGuarded b v lane o → IsSum o.csum → shows v.now (path_of o) ≢ Vacant → shows w.now (path_of o) ≡ shows v.now (path_of o)
    guarded_shown o guarded sum there = ⊎_elim
        (λ same. same)
        (λ m. ⊎_elim (λ comes. absurd (there comes.0)) (λ goes. absurd (goes.2 guarded)) (m.objects o.kind o.csum (place-object o.kind o.csum sum)))
        (writes.now (path_of o))

    guarded_as : (k : Kind) (o : ObjName) (c : List ℕ) → IsGuarded b v lane o → StandsAs k v.now o c → StandsAs k w.now o c
    guarded_as kind.Commit o c guarded has = guarded_stays b v w actor lane writes o c guarded has
    guarded_as kind.DirTree o c guarded has = guarded_stays b v w actor lane writes o c guarded has
    guarded_as kind.DirMeta o c guarded has = guarded_stays b v w actor lane writes o c guarded has
    guarded_as kind.File o c guarded has =
        (has.0, subst standing.IsLeaf (sym (guarded_shown o guarded has.0 (λ none. subst standing.IsLeaf none has.1))) has.1, has.2)

    stands_on : (o : ObjName) (c : List ℕ) → IsGuarded b v lane o → Standing v.now o c → Standing w.now o c
    stands_on o c guarded has = guarded_as o.kind o c guarded has

    pub pinned_keeps : (commit : List ℕ) → IsPinned mine b commit → KeepsAll v w commit
    pinned_keeps commit pin o c reached has = stands_on o c (guards commit pin o reached) has

    pub reading_kept : (s : Reads) → IsPinned mine b s.request.commit → ReadKnows (Standing v.now) s → ReadKnows (Standing w.now) s
    reading_kept s pin k = record {
      commit = k.commit;
      limits = k.limits;
      so_far = λ begun.
          reading_up (Part (Standing v.now) (IsGuarded b v lane)) (Standing w.now) (standing_map w.now) (λ o c has. stands_on o c has.1 has.0) s.task
          (reading_part (Standing v.now) (IsGuarded b v lane) closed s.task
          (subst (λ c. IsGuarded b v lane (name_of kind.Commit c)) (sym k.commit) (held b v w actor lane writes mine other s.request.commit pin)) (k.so_far begun));
    }

  -- what the next step needs, where nobody writes in a folder that is made
  module _ (mine : ℕ) (other : mine ≢ lane) (t : Checkout) (limits : Limits) (commit : List ℕ) (pin : IsPinned mine b commit) (map : IsPathMap t.tree) (whole : Complete (Standing v.now) limits commit) (is : IsTreeOf (Standing v.now) commit t.tree) (name : Name) (at : t.into ≡ checkout_path name) (home : IsHome v) where
    leaves : HasLeaves w.now t.tree
    leaves =
        let keeps = pinned_keeps mine other commit pin in
        leaves_stand w.now limits commit t.tree map (whole_kept v w commit keeps limits whole) (tree_kept v w commit keeps limits t.tree whole is)

    -- a leaf's object isn't removed
    leaf_vacant : (p : Path) (sum : List ℕ) (s : Seen) → node_at t.tree p ≡ Some (Leaf sum) → Guarantee b v actor lane (leaf_path sum) s → shows v.now (leaf_path sum) ≡ Vacant
    leaf_vacant p sum s has m = ⊎_elim
        (λ comes. comes.0)
        (λ goes. absurd (goes.2 (guards mine other commit pin (name_of kind.File sum)
        (named_reached (Standing v.now) commit whole.parts whole.here p (name_of kind.File sum) (leaf_named v.now limits commit t.tree map whole is p sum has)))))
        (m.objects kind.File sum (place-object kind.File sum (leaf_sum v.now limits commit t.tree map whole is p sum has)))

    home_there : HasHome t.into w.now
    home_there = subst (λ q. HasHome q w.now) (sym at) (home_above name w.now (home_kept home))

    spares : ((rest : Path) (s : Seen) → Guarantee b v actor lane (checkout_path name ++ rest) s → ⊥) → Spares (Guarantee b v actor lane) t v
    spares none = record {
      below = λ p s below m.
          let rest = below_split t.into p below in
          none rest.0 s (subst (λ q. Guarantee b v actor lane q s) (rest.1 ∙ ap (λ q. q ++ rest.0) at) m);
      leaves = λ p sum s has m. no_leaf (shows v.now (leaf_path sum)) (leaf_vacant p sum s has m) (leaves_stand v.now limits commit t.tree map whole is p sum has);
      parents = λ p s in_ dir m. absurd (not_other b v actor lane p s (fixed_other Checkouts p (subst (λ q. is_below q (folder_path Checkouts) ≡ true) (home_only name p (subst (λ q. is_in p q ≡ true) at in_)) (is_below-self (folder_path Checkouts)))) m);
    }

    pub needs_kept : (k : Made) → IsFar k t v.now → Needs t v.now → (IsBegun k → (rest : Path) (s : Seen) → Guarantee b v actor lane (checkout_path name ++ rest) s → ⊥) → Needs t w.now
    needs_kept made.Nothing far needs none = subst (λ (c : Checkout). Needs c w.now) (sym far) (home_there, leaves)
    needs_kept made.Part far needs none = checkout_kept (Guarantee b v actor lane) t v (spares (none tt)) w writes needs
    needs_kept made.All far needs none = checkout_kept (Guarantee b v actor lane) t v (spares (none tt)) w writes needs

    stands : shows v.now t.into ≢ Vacant → shows w.now t.into ≢ Vacant
    stands there = subst (λ q. shows w.now q ≢ Vacant) (sym at) (folder_stands b v w actor lane writes name (subst (λ q. shows v.now q ≢ Vacant) at there))

    pub far_kept : (k : Made) → IsFar k t v.now → IsFar k t w.now
    far_kept made.Nothing far = far
    far_kept made.Part far = (far.0, stands far.1)
    far_kept made.All far = (far.0, stands far.1)
