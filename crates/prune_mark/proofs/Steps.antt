-- What a step keeps of what is known, and what is known at the end.
use Rattle.std.proofs.Common.{◌≡◌, ◌⊎◌, inl, inr, ⊎_elim, ℕ, suc, ◌<◌, ◌≤◌, ◌+◌, Bool, List, [], ◌∷◌, ◌++◌, length, get_or, length-append, Option, Some, None, Ok, Err, refl, sym, ◌∙◌, ap, subst, arith}
use Rattle.std.specs.Prelude.{Contains}
use Rattle.std.proofs.lemmas.List.{get_or_default}
use Rattle.std.proofs.lemmas.List.Elements.{Contains-append_left, Contains-append_right, Contains-append_cases}
use Rattle.ost_types.specs.declared.object.Kind.TheVariants as kind
use Rattle.ost_types.specs.declared.object.ObjName.{ObjName}
use Rattle.ost_forms.specs.Commit.{CommitParts, parent_bytes}
use Rattle.ost_forms.specs.DirTree.{Entries}
use Rattle.fs_trait.specs.declared.task.StepResult.TheVariants as turn
use Rattle.fs_trait.specs.View.{Disk}
use Rattle.repo_model.specs.Objects.{IsMap, Store, Stores}
use Rattle.repo_model.specs.Trees.{HasCommit, HasEntries, name_of}
use Rattle.repo_model.proofs.Named.{IsSum-named}
use Rattle.repo_model.proofs.Stored.{stores_map}
use Rattle.reach.specs.Reach.{IsEntry, IsFolderOf, IsIn, Refers, start, onward}
use Rattle.reach.specs.Lines.{Begins, IsParent, Line, Reachable, parent}
use Rattle.reach.specs.Marking.{LooksUp, Marks}
use Rattle.reach.proofs.Marked.{line_found, marked_all, nears_step}
use Rattle.reach.proofs.Reaching.{folder_kind}
use Rattle.store_check.specs.Listing.{AreAll}
use Rattle.store_check.proofs.Damages.{nothing_at}
use Rattle.tree_read.specs.Looks.{IsAbsent, IsDamaged}
use Rattle.tree_read.proofs.Walk.{commit_of_map, entries_one}
use Rattle.prune_mark.specs.declared.links.Links.{Links}
use Rattle.prune_mark.specs.declared.links.Near.{Near}
use Rattle.prune_mark.specs.declared.fault.MarkFault.{MarkFault}
use Rattle.prune_mark.specs.declared.fault.MarkFault.TheVariants as fault
use Rattle.prune_mark.specs.Reads.{Finds, IsOf}
use Rattle.prune_mark.specs.Flags.{IsMarked, MarksParent, Spreads}
use Rattle.prune_mark.specs.Marking.{IsAfter, IsStepped, Knows, MarksAll, OpensCommit, OpensTree, Refuses, State, Waits, WaitsAt, WasFound, near_at}
use Rattle.prune_mark.proofs.Parents.{Follows, follows, parents_fewer}
use Rattle.prune_mark.proofs.Spreading.{one_in}

-- what stands in the store has its name among all
pub in_store : (d : Disk) (names : List ObjName) → AreAll d names → (o : ObjName) → IsIn (Stores d) o → Contains names o
in_store d names all o there = all.all o (record { sum = IsSum-named o there.0 there.1.named; there = λ none. nothing_at d o there.0 none there.1.there })

entry_other : (e : Entries) (o : ObjName) → IsEntry e o → o.kind ≡ kind.Commit → ⊥
entry_other e o (inl (x, sum, has, is)) k = let n : kind.File ≡ kind.Commit = ap (λ (x : ObjName). x.kind) (sym is) ∙ k in cc
entry_other e o (inr (x, tree, meta, has, of)) k = folder_kind tree meta o of k

-- what an object names, by what is read of it
commit_names : (S : Store) → IsMap S → (commit : List ℕ) (c : CommitParts) → HasCommit S commit c → (next : ObjName) → Refers S (name_of kind.Commit commit) next → IsFolderOf c.tree c.meta next
commit_names S map commit c has next (inl (b, is, other, of)) = subst (λ (x : CommitParts). IsFolderOf x.tree x.meta next) (commit_of_map S map commit b c other has) of
commit_names S map commit c has next (inr (e, is, other, entry)) = let n : kind.Commit ≡ kind.DirTree = is in cc

tree_names : (S : Store) → IsMap S → (tree : List ℕ) (e : Entries) → HasEntries S tree e → (next : ObjName) → Refers S (name_of kind.DirTree tree) next → IsEntry e next
tree_names S map tree e has next (inl (b, is, other, of)) = let n : kind.DirTree ≡ kind.Commit = is in cc
tree_names S map tree e has next (inr (f, is, other, entry)) = subst (λ (x : Entries). IsEntry x next) (entries_one S map tree f e other has) entry

module _ (d : Disk) (roots : List ObjName) (old : State) (known : Knows d roots old) where
  here : (o : ObjName) → IsIn (Stores d) o → Contains old.names o
  here = in_store d old.names known.names_are

  -- Where nothing waits, exactly the reachable of the store are marked.
  pub finished : length old.found ≤ old.next → old.pending ≡ [] → MarksAll d roots old
  finished all none = record {
    exact = λ o there. (
      λ marked. known.right o marked there,
      λ reached. (marked_all (Stores d) (Contains roots) old.depth (λ x. IsMarked old.names old.flags x × IsIn (Stores d) x) (λ x. ⊥) marks (λ x waits. waits) o reached there).0,
    );
    begins = known.begins;
    onward = next_marked;
  }
    where
      none_after : (n : Near) → IsAfter old.found old.next n → ⊥
      none_after n a = omega (arith, all, a.1, a.2)

      none_waits : (x : ObjName) → Waits old x → ⊥
      none_waits x (inl w) = none_after (near_at w.0 w.1) w.2
      none_waits x (inr w) = let h = subst (λ l. Contains l w.0) none w.1 in omega (arith, h.1)

      in_line : (x : ObjName) → Begins (Stores d) (Contains roots) old.depth x → IsIn (Stores d) x → IsMarked old.names old.flags x
      in_line x (inl root) is_in = known.begins x root (here x is_in)
      in_line x (inr (k, commit, line, is)) is_in =
          let at = line_found (Stores d) (Contains roots) old.depth (WasFound d old.found) (WaitsAt d old.found old.next) known.nears (λ j c w. absurd (none_after (near_at j c) w.0)) k commit line (subst (IsIn (Stores d)) is is_in) in
          subst (IsMarked old.names old.flags) (sym is) (known.found_marked at.0 commit at.2.0)

      next_marked : (x next : ObjName) → IsMarked old.names old.flags x → Refers (Stores d) x next → Contains old.names next → IsMarked old.names old.flags next
      next_marked x next m refers among = ⊎_elim (λ w. absurd (none_waits x w)) (λ k. k) (known.onward x next m refers among)

      marks : Marks (Stores d) (Contains roots) old.depth (λ x. IsMarked old.names old.flags x × IsIn (Stores d) x) (λ x. ⊥)
      marks = record {
        right = λ x m. known.right x m.0 m.1;
        begins = λ x b is_in. (in_line x b is_in, is_in);
        onward = λ x next m refers is_in. inr (next_marked x next m.0 refers (here next is_in), is_in);
      }

  -- ---- the entries of a folder were looked into

  module _ (e : Entries) (rest : List (List ℕ)) (tree : List ℕ) (cut : old.pending ≡ rest ++ tree ∷ []) (has : HasEntries (Stores d) tree e) (flags' : List Bool) (pending' : List (List ℕ)) (s : Spreads old.names (IsEntry e) old.flags rest flags' pending') where
    abbrev after_tree : State
    after_tree = record { names = old.names; flags = flags'; depth = old.depth; found = old.found; next = old.next; pending = pending' }

    tree_in : Contains old.pending tree
    tree_in = subst (λ l. Contains l tree) (sym cut) (Contains-append_right rest (tree ∷ []) tree (0, omega arith, refl))

    tree_waits : (o next : ObjName) → Refers (Stores d) o next → Contains old.names next → Waits old o → Waits after_tree o ⊎ IsMarked old.names flags' next
    tree_waits o next refers there (inl w) = inl (inl w)
    tree_waits o next refers there (inr (t, among, is)) = ⊎_elim
        (λ front. inl (inr (t, s.waits t front, is)))
        (λ last.
        let same : t ≡ tree = one_in old.names old.flags old.pending t tree last in
        let from : Refers (Stores d) (name_of kind.DirTree tree) next = subst (λ (x : ObjName). Refers (Stores d) x next) (is ∙ ap (name_of kind.DirTree) same) refers in
        inr (s.all next (tree_names (Stores d) (stores_map d) tree e has next from) known.names_are.ascending there))
        (Contains-append_cases rest (tree ∷ []) t (subst (λ l. Contains l t) cut among))

    tree_old : (o next : ObjName) → IsMarked old.names old.flags o → Refers (Stores d) o next → Contains old.names next → Waits after_tree o ⊎ IsMarked old.names flags' next
    tree_old o next was refers there = ⊎_elim (tree_waits o next refers there) (λ m. inr (s.stays next m)) (known.onward o next was refers there)

    tree_onward : (o next : ObjName) → IsMarked old.names flags' o → Refers (Stores d) o next → Contains old.names next → Waits after_tree o ⊎ IsMarked old.names flags' next
    tree_onward o next m refers there = by refers
      where
        by : Refers (Stores d) o next → Waits after_tree o ⊎ IsMarked old.names flags' next
        by (inl (c, is, other, of)) = ⊎_elim (λ was. tree_old o next was refers there) (λ entry. absurd (entry_other e o entry is)) (s.new o m)
        by (inr (f, is, other, of)) =
            let named : o ≡ name_of kind.DirTree o.csum = ap (λ k. name_of k o.csum) is in
            ⊎_elim
            (λ was. tree_old o next (subst (IsMarked old.names old.flags) (sym named) was) refers there)
            (λ w. inl (inr (o.csum, w, named)))
            (s.later o.csum (subst (IsMarked old.names flags') named m))

    tree_right : (o : ObjName) → IsMarked old.names flags' o → IsIn (Stores d) o → Reachable (Stores d) (Contains roots) old.depth o
    tree_right o m there = ⊎_elim
        (λ was. known.right o was there)
        (λ entry. onward (name_of kind.DirTree tree) o (known.right (name_of kind.DirTree tree) (known.pending_marked tree tree_in) (has.bytes, has.stored)) (inr (e, refl, has, entry)))
        (s.new o m)

    pub tree_step : Knows d roots after_tree
    tree_step = record {
      names_are = known.names_are;
      nears = known.nears;
      line = known.line;
      right = tree_right;
      begins = λ o root there. s.stays o (known.begins o root there);
      onward = tree_onward;
      found_marked = λ k c h. s.stays (name_of kind.Commit c) (known.found_marked k c h);
      marked_found = λ c m. ⊎_elim (λ was. known.marked_found c was) (λ entry. absurd (entry_other e (name_of kind.Commit c) entry refl)) (s.new (name_of kind.Commit c) m);
      pending_marked = λ t h. ⊎_elim
          (λ front. s.stays (name_of kind.DirTree t) (known.pending_marked t (subst (λ l. Contains l t) (sym cut) (Contains-append_left rest (tree ∷ []) t front))))
          (λ m. m)
          (s.marked t h);
    }

  -- ---- a commit was looked into

  module _ (near : Near) (c : CommitParts) (links : Links) (less : old.next < length old.found) (at : get_or old.found old.next near ≡ near) (long : length old.flags ≡ length old.names) (has : HasCommit (Stores d) near.commit c) (of : IsOf c links) (between flags' : List Bool) (found' : List Near) (pending' : List (List ℕ)) (s : Spreads old.names (IsFolderOf links.tree links.meta) old.flags old.pending between pending') (p : MarksParent old.names links.parent near.distance old.depth between old.found flags' found') where
    abbrev after_commit : State
    after_commit = record { names = old.names; flags = flags'; depth = old.depth; found = found'; next = old.next + 1; pending = pending' }

    f : Follows old.names links.parent near old.depth old.next between old.found flags' found'
    f = follows old.found old.next near less at known.line old.names between old.depth links.parent flags' found' (s.long ∙ long) p

    isin : IsIn (Stores d) (name_of kind.Commit near.commit)
    isin = (has.bytes, has.stored)

    was : Contains old.found near
    was = (old.next, less, at)

    in_line : Line (Stores d) (Contains roots) old.depth near.distance near.commit
    in_line = known.nears.right near.distance near.commit (was, isin)

    was_marked : IsMarked old.names old.flags (name_of kind.Commit near.commit)
    was_marked = known.found_marked near.distance near.commit was

    parent_of : (q : List ℕ) → links.parent ≡ Some q → IsIn (Stores d) (name_of kind.Commit q) → IsParent (Stores d) near.commit q
    parent_of q is there = record { parts = c; has = has; is = of.parent ∙ ap parent_bytes is; there = there }

    parent_is : (q : List ℕ) → IsParent (Stores d) near.commit q → links.parent ≡ Some q
    parent_is q par = by links.parent refl
      where
        named : c.parent ≡ q
        named = ap (λ (x : CommitParts). x.parent) (commit_of_map (Stores d) (stores_map d) near.commit c par.parts has par.has) ∙ par.is

        by : (l : Option (List ℕ)) → links.parent ≡ l → links.parent ≡ Some q
        by None is =
            let empty : [] ≡ q = sym (of.parent ∙ ap parent_bytes is) ∙ named in
            let whole = (IsSum-named (name_of kind.Commit q) par.there.0 par.there.1.named).whole in
            let none : 0 ≡ length q = ap length empty in
            absurd (omega (arith, whole, none))
        by (Some x) is = is ∙ ap Some (sym (of.parent ∙ ap parent_bytes is) ∙ named)

    found_near : (q : List ℕ) → IsMarked old.names between (name_of kind.Commit q) → (j : ℕ) × (j ≤ near.distance + 1) × Contains old.found (near_at j q)
    found_near q m = ⊎_elim (λ old_. within (known.marked_found q old_)) (λ folder. absurd (folder_kind links.tree links.meta (name_of kind.Commit q) folder refl)) (s.new (name_of kind.Commit q) m)
      where
        within : ((j : ℕ) × Contains old.found (near_at j q)) → (j : ℕ) × (j ≤ near.distance + 1) × Contains old.found (near_at j q)
        within (j, h) =
            let a = known.line.near h.0 (near_at j q) less h.1 in
            let b = ap (λ (n : Near). n.distance) h.2 in
            let e = ap (λ (n : Near). n.distance) (get_or_default old.found old.next (near_at j q) near less ∙ at) in
            (j, omega (arith, a, b, e), h)

    looked : LooksUp (Stores d) old.depth near.distance near.commit (WasFound d old.found) (WaitsAt d old.found old.next) (WasFound d found') (WaitsAt d found' (old.next + 1))
    looked = record {
      was = (was, isin);
      stays = λ j q w. (f.found_stays (near_at j q) w.0, w.1);
      new = λ j q w. ⊎_elim (λ h. inl (h, w.1)) (λ n. inr (omega (arith, n.0), n.1, parent_of q n.2 w.1)) (f.found_new (near_at j q) w.0);
      all = λ q nearer par. ⊎_elim
          (λ m. let h = found_near q m in (h.0, h.1, (f.found_stays (near_at h.0 q) h.2, par.there)))
          (λ a. (near.distance + 1, omega arith, ((a.0, a.2, a.3), par.there)))
          (f.found_marked q (f.all q (parent_is q par) nearer known.names_are.ascending (here (name_of kind.Commit q) par.there)));
      later = λ j q w nearer. ⊎_elim (λ h. inl (h, w.1)) (λ n. inr (n.4, w.1)) (f.found_new (near_at j q) w.0);
      waits = λ j q w. ⊎_elim (λ e. inl (ap (λ (n : Near). n.distance) e, ap (λ (n : Near). n.commit) e)) (λ a. inr (a, w.1)) (f.after (near_at j q) w.0);
    }

    folder_to : (o : ObjName) → IsFolderOf links.tree links.meta o → IsFolderOf c.tree c.meta o
    folder_to o h = subst (λ m. IsFolderOf c.tree m o) (sym of.meta) (subst (λ t. IsFolderOf t links.meta o) (sym of.tree) h)

    folder_from : (o : ObjName) → IsFolderOf c.tree c.meta o → IsFolderOf links.tree links.meta o
    folder_from o h = subst (λ m. IsFolderOf links.tree m o) of.meta (subst (λ t. IsFolderOf t c.meta o) of.tree h)

    commit_right : (o : ObjName) → IsMarked old.names flags' o → IsIn (Stores d) o → Reachable (Stores d) (Contains roots) old.depth o
    commit_right o m there = ⊎_elim
        (λ mid. ⊎_elim
        (λ before. known.right o before there)
        (λ folder. onward (name_of kind.Commit near.commit) o (known.right (name_of kind.Commit near.commit) was_marked isin) (inl (c, refl, has, folder_to o folder)))
        (s.new o mid))
        (λ n. start o (inr (suc near.distance, n.0, parent near.distance near.commit n.0 in_line n.2 (parent_of n.0 n.1 (subst (IsIn (Stores d)) n.3 there)), n.3)))
        (f.new o m)

    commit_waits : (o next : ObjName) → Refers (Stores d) o next → Contains old.names next → Waits old o → Waits after_commit o ⊎ IsMarked old.names flags' next
    commit_waits o next refers there (inl (j, q, a, is)) = ⊎_elim
        (λ e.
        let same : q ≡ near.commit = ap (λ (n : Near). n.commit) e in
        let from : Refers (Stores d) (name_of kind.Commit near.commit) next = subst (λ (x : ObjName). Refers (Stores d) x next) (is ∙ ap (name_of kind.Commit) same) refers in
        inr (f.stays next (s.all next (folder_from next (commit_names (Stores d) (stores_map d) near.commit c has next from)) known.names_are.ascending there)))
        (λ b. inl (inl (j, q, b, is)))
        (f.after (near_at j q) a)
    commit_waits o next refers there (inr (t, among, is)) = inl (inr (t, s.waits t among, is))

    commit_old : (o next : ObjName) → IsMarked old.names old.flags o → Refers (Stores d) o next → Contains old.names next → Waits after_commit o ⊎ IsMarked old.names flags' next
    commit_old o next before refers there = ⊎_elim (commit_waits o next refers there) (λ m. inr (f.stays next (s.stays next m))) (known.onward o next before refers there)

    commit_onward : (o next : ObjName) → IsMarked old.names flags' o → Refers (Stores d) o next → Contains old.names next → Waits after_commit o ⊎ IsMarked old.names flags' next
    commit_onward o next m refers there = by refers
      where
        by : Refers (Stores d) o next → Waits after_commit o ⊎ IsMarked old.names flags' next
        by (inl (b, is, other, of_)) =
            let named : o ≡ name_of kind.Commit o.csum = ap (λ k. name_of k o.csum) is in
            ⊎_elim
            (λ mid. ⊎_elim
            (λ before. commit_old o next (subst (IsMarked old.names old.flags) (sym named) before) refers there)
            (λ folder. absurd (folder_kind links.tree links.meta (name_of kind.Commit o.csum) folder refl))
            (s.new (name_of kind.Commit o.csum) mid))
            (λ a. inl (inl (near.distance + 1, o.csum, a, named)))
            (f.found_marked o.csum (subst (IsMarked old.names flags') named m))
        by (inr (e, is, other, of_)) =
            let named : o ≡ name_of kind.DirTree o.csum = ap (λ k. name_of k o.csum) is in
            ⊎_elim
            (λ mid. ⊎_elim
            (λ before. commit_old o next (subst (IsMarked old.names old.flags) (sym named) before) refers there)
            (λ w. inl (inr (o.csum, w, named)))
            (s.later o.csum (subst (IsMarked old.names between) named mid)))
            (λ n. absurd (let k : kind.DirTree ≡ kind.Commit = sym is ∙ ap (λ (x : ObjName). x.kind) n.3 in cc))
            (f.new o m)

    pub commit_step : Knows d roots after_commit
    commit_step = record {
      names_are = known.names_are;
      nears = nears_step (Stores d) (Contains roots) old.depth near.distance near.commit (WasFound d old.found) (WaitsAt d old.found old.next) (WasFound d found') (WaitsAt d found' (old.next + 1)) known.nears looked;
      line = f.line;
      right = commit_right;
      begins = λ o root there. f.stays o (s.stays o (known.begins o root there));
      onward = commit_onward;
      found_marked = λ j q h. ⊎_elim (λ before. f.stays (name_of kind.Commit q) (s.stays (name_of kind.Commit q) (known.found_marked j q before))) (λ n. n.3) (f.found_new (near_at j q) h);
      marked_found = λ q m. ⊎_elim (λ mid. let h = found_near q mid in (h.0, f.found_stays (near_at h.0 q) h.2)) (λ a. (near.distance + 1, (a.0, a.2, a.3))) (f.found_marked q m);
      pending_marked = λ t h. ⊎_elim (λ before. f.stays (name_of kind.DirTree t) (s.stays (name_of kind.DirTree t) (known.pending_marked t before))) (λ m. f.stays (name_of kind.DirTree t) m) (s.marked t h);
    }

-- ---- the same of the records that the calls give, and how many steps are left

pub commit_told : (d : Disk) (roots : List ObjName) (old new : State) (near : Near) (links : Links) → old.next < length old.found → get_or old.found old.next near ≡ near → length old.flags ≡ length old.names
    → ((c : CommitParts) × HasCommit (Stores d) near.commit c × IsOf c links) → OpensCommit old near links new → Knows d roots old → Knows d roots new
commit_told d roots old new near links less at long (c, has, of) o known =
    subst (Knows d roots) (sym o.new_is) (commit_step d roots old known near c links less at long has of o.between o.flags o.found o.pending o.folder o.parent)

pub tree_told : (d : Disk) (roots : List ObjName) (old new : State) (e : Entries) (rest : List (List ℕ)) (tree : List ℕ) → old.pending ≡ rest ++ tree ∷ []
    → HasEntries (Stores d) tree e → OpensTree old e new → Knows d roots old → Knows d roots new
tree_told d roots old new e rest tree cut has o known =
    subst (Knows d roots) (sym o.new_is) (tree_step d roots old known e rest tree cut has o.flags o.pending (o.spreads rest tree cut))

pub commit_stepped : (old new : State) (near : Near) (links : Links) → old.next < length old.found → length old.flags ≡ length old.names → OpensCommit old near links new → IsStepped old (Ok turn.More) new
commit_stepped old new near links less long o =
    subst (λ (n : State). IsStepped old (Ok turn.More) n) (sym o.new_is)
    (let p = parents_fewer old.names links.parent near old.depth o.between old.found o.flags o.found (o.folder.long ∙ long) o.parent in (refl, refl, omega (arith, p.0, p.1, o.folder.fewer, less)))

pub tree_stepped : (old new : State) (e : Entries) (rest : List (List ℕ)) (tree : List ℕ) → old.pending ≡ rest ++ tree ∷ [] → OpensTree old e new → IsStepped old (Ok turn.More) new
tree_stepped old new e rest tree cut o =
    subst (λ (n : State). IsStepped old (Ok turn.More) n) (sym o.new_is)
    (let l = ap length cut ∙ length-append rest (tree ∷ []) in let s = (o.spreads rest tree cut).fewer in (refl, refl, omega (arith, l, s)))

-- ---- refusals

pub refused : {T : Type 0} (d : Disk) (content : ℕ) (name : ObjName) (P : T → Type 0) (names : List ObjName) (flags : List Bool) → IsMarked names flags name → (f : MarkFault) → Finds d content name P (Err f) → Refuses d content names f
refused d content name P names flags m (fault.Absent o) told = (subst (Contains names) (sym told.0) (m.0, m.1, m.2), subst (IsAbsent d) (sym told.0) told.1)
refused d content name P names flags m (fault.Damaged o) told = (subst (Contains names) (sym told.0) (m.0, m.1, m.2), subst (IsDamaged d content) (sym told.0) told.1)
refused d content name P names flags m (fault.Fs e) told = told
refused d content name P names flags m fault.NoMemory told = tt

pub refused_of : (d : Disk) (content : ℕ) (names others : List ObjName) → names ≡ others → (f : MarkFault) → Refuses d content names f → Refuses d content others f
refused_of d content names others same f r = subst (λ n. Refuses d content n f) same r

pub nothing_left : (xs : List (List ℕ)) → length xs ≡ 0 → xs ≡ []
nothing_left [] e = refl
nothing_left (x ∷ xs) e = absurd (omega (arith, e))

pub last_marked : (d : Disk) (roots : List ObjName) (old : State) (rest : List (List ℕ)) (tree : List ℕ) → old.pending ≡ rest ++ tree ∷ [] → Knows d roots old → IsMarked old.names old.flags (name_of kind.DirTree tree)
last_marked d roots old rest tree cut known = known.pending_marked tree (subst (λ l. Contains l tree) (sym cut) (Contains-append_right rest (tree ∷ []) tree (0, omega arith, refl)))

-- ---- a whole run

pub run_done : (d : Disk) (roots names : List ObjName) (depth : ℕ) (old new : State) → old.names ≡ names → old.depth ≡ depth → new ≡ old → MarksAll d roots new → (new.names ≡ names) × (new.depth ≡ depth) × MarksAll d roots new
run_done d roots names depth old new names_are depth_is same all = (ap (λ (t : State). t.names) same ∙ names_are, ap (λ (t : State). t.depth) same ∙ depth_is, all)
