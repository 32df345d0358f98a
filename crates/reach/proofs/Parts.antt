-- What a part of a store shows that has all that is reached: all that the store does.
use Rattle.std.proofs.Common.{◌≡◌, inl, inr, ⊎_elim, ℕ, List, [], ◌∷◌, refl, sym, subst}
use Rattle.ost_types.specs.declared.limits.Limits.{Limits}
use Rattle.ost_types.specs.declared.node.NodeName.{NodeName}
use Rattle.ost_types.specs.declared.object.Kind.TheVariants.{Commit, DirTree, DirMeta}
use Rattle.ost_types.specs.declared.object.ObjName.{ObjName}
use Rattle.ost_types.specs.Path.{Path}
use Rattle.ost_forms.specs.Commit.{CommitParts}
use Rattle.ost_forms.specs.DirTree.{Entries}
use Rattle.repo_model.specs.Objects.{Store, IsMap, Has}
use Rattle.repo_model.specs.Trees.{HasCommit, HasEntries, HasFolder, Names, Shows, TreeShows, name_of}
use Rattle.repo_model.specs.Whole.{Complete}
use Rattle.repo_model.proofs.Grown.{complete_up, shows_down, shows_up, tree_up}
use Rattle.reach.specs.Reach.{ObjNames, Is, Reach, Refers, start, onward}
use Rattle.reach.specs.Removed.{Part}
use Rattle.reach.proofs.Commits.{named_reached, one_parts}
use Rattle.reach.proofs.Reaching.{reach_least}

module _ (S T : Store) (more : (name : ObjName) (b : List ℕ) → S name b → T name b) where
  pub names_up : (tree meta : List ℕ) (p : Path) (o : ObjName) → Names S tree meta p o → Names T tree meta p o
  unfolding Names
  names_up tree meta [] o names = names
  names_up tree meta (x ∷ rest) o names = (
    names.0,
    record { bytes = names.1.bytes; stored = more (name_of DirTree tree) names.1.bytes names.1.stored; reads = names.1.reads },
    ⊎_elim (λ file. inl file) (λ f. inr (f.0, f.1, f.2, names_up f.0 f.1 rest o f.3)) names.2,
  )

-- A part of a store that has all that is reached from a commit has the commit whole.
module _ (S : Store) (limits : Limits) (commit : List ℕ) (whole : Complete S limits commit) (keep : ObjNames) (at : keep (name_of Commit commit)) (closed : (o next : ObjName) → keep o → Refers S o next → keep next) where
  less : (name : ObjName) (b : List ℕ) → Part S keep name b → S name b
  less name b has = has.0

  kept_all : (o : ObjName) → Reach S (Is (name_of Commit commit)) o → keep o
  kept_all = reach_least S (Is (name_of Commit commit)) keep (λ o is. subst keep (sym is) at) closed

  pub part_objects : (p : Path) (o : ObjName) → Names (Part S keep) whole.parts.tree whole.parts.meta p o → Has (Part S keep) limits.content o
  part_objects p o names =
      let was = names_up (Part S keep) S less whole.parts.tree whole.parts.meta p o names in
      let has = whole.objects p o was in
      record { bytes = has.bytes; stored = (has.stored, kept_all o (named_reached S commit whole.parts whole.here p o was)); formed = has.formed }

  pub whole_part : Complete (Part S keep) limits commit
  whole_part = record {
    parts = whole.parts;
    here = record { bytes = whole.here.bytes; stored = (whole.here.stored, at); reads = whole.here.reads };
    objects = part_objects;
    few = record { paths = whole.few.paths; few = whole.few.few; all = λ p n shown. whole.few.all p n (shows_up (Part S keep) S less whole.parts.tree whole.parts.meta p n shown) };
    short = λ p n shown. whole.short p n (shows_up (Part S keep) S less whole.parts.tree whole.parts.meta p n shown);
  }

  -- And so has another store that has that part.
  pub whole_kept : (T : Store) → IsMap T → ((name : ObjName) (b : List ℕ) → keep name → S name b → T name b) → Complete T limits commit
  whole_kept T map has = complete_up (Part S keep) T (λ name b is. has name b is.1 is.0) map limits commit whole_part

-- What a part shows and names.
module _ (S : Store) (keep : ObjNames) (closed : (o next : ObjName) → keep o → Refers S o next → keep next) where
  pub entries_part : (tree : List ℕ) (e : Entries) → keep (name_of DirTree tree) → HasEntries S tree e → HasEntries (Part S keep) tree e
  entries_part tree e k has = record { bytes = has.bytes; stored = (has.stored, k); reads = has.reads }

  pub folder_part : (tree x : List ℕ) (e : Entries) (t m : List ℕ) → keep (name_of DirTree tree) → HasEntries S tree e → HasFolder e x t m → keep (name_of DirTree t) × keep (name_of DirMeta m)
  folder_part tree x e t m k has folder = (
    closed (name_of DirTree tree) (name_of DirTree t) k (inr (e, refl, has, inr (x, t, m, folder, inl refl))),
    closed (name_of DirTree tree) (name_of DirMeta m) k (inr (e, refl, has, inr (x, t, m, folder, inr refl))),
  )

  pub shows_part : (tree meta : List ℕ) (p : Path) (n : NodeName) → keep (name_of DirTree tree) → keep (name_of DirMeta meta) → Shows S tree meta p n → Shows (Part S keep) tree meta p n
  unfolding Shows
  shows_part tree meta [] n kt km shown = (shown.0, record { bytes = shown.1.bytes; stored = (shown.1.stored, km); reads = shown.1.reads }, shown.2)
  shows_part tree meta (x ∷ rest) n kt km shown = (
    shown.0,
    entries_part tree shown.0 kt shown.1,
    ⊎_elim
        (λ leaf. inl leaf)
        (λ f. let k = folder_part tree x shown.0 f.0 f.1 kt shown.1 f.2 in inr (f.0, f.1, f.2, shows_part f.0 f.1 rest n k.0 k.1 f.3))
        shown.2,
  )

  pub names_part : (tree meta : List ℕ) (p : Path) (o : ObjName) → keep (name_of DirTree tree) → keep (name_of DirMeta meta) → Names S tree meta p o → Names (Part S keep) tree meta p o
  unfolding Names
  names_part tree meta [] o kt km names = names
  names_part tree meta (x ∷ rest) o kt km names = (
    names.0,
    entries_part tree names.0 kt names.1,
    ⊎_elim
        (λ file. inl file)
        (λ f. let k = folder_part tree x names.0 f.0 f.1 kt names.1 f.2 in inr (f.0, f.1, f.2, names_part f.0 f.1 rest o k.0 k.1 f.3))
        names.2,
  )

  pub tree_part : (commit : List ℕ) (p : Path) (n : NodeName) → keep (name_of Commit commit) → TreeShows S commit p n → TreeShows (Part S keep) commit p n
  tree_part commit p n k shown =
      let c = shown.0 in (
        c,
        record { bytes = shown.1.bytes; stored = (shown.1.stored, k); reads = shown.1.reads },
        shows_part c.tree c.meta p n
            (closed (name_of Commit commit) (name_of DirTree c.tree) k (inl (c, refl, shown.1, inl refl)))
            (closed (name_of Commit commit) (name_of DirMeta c.meta) k (inl (c, refl, shown.1, inr refl)))
            shown.2,
      )

-- A store that keeps all that is reached from a commit.
module _ (S T : Store) (commit : List ℕ) (kept : (o : ObjName) (b : List ℕ) → Reach S (Is (name_of Commit commit)) o → S o b → T o b) where
  abbrev Its : ObjNames
  Its = Reach S (Is (name_of Commit commit))

  at_itself : Its (name_of Commit commit)
  at_itself = start (name_of Commit commit) refl

  goes_on : (o next : ObjName) → Its o → Refers S o next → Its next
  goes_on o next at refers = onward o next at refers

  pub commit_whole : IsMap T → (limits : Limits) → Complete S limits commit → Complete T limits commit
  commit_whole map limits whole = whole_kept S limits commit whole Its at_itself goes_on T map (λ o b reached stored. kept o b reached stored)

  pub commit_shows : (p : Path) (n : NodeName) → TreeShows S commit p n → TreeShows T commit p n
  commit_shows p n shown = tree_up (Part S Its) T (λ o b has. kept o b has.1 has.0) commit p n (tree_part S Its goes_on commit p n at_itself shown)

  -- and nothing more, where it is whole
  pub commit_shown : IsMap T → (limits : Limits) → Complete S limits commit → (p : Path) (n : NodeName) → TreeShows T commit p n → TreeShows S commit p n
  commit_shown map limits whole p n shown =
      let up : (o : ObjName) (b : List ℕ) → Part S Its o b → T o b = λ o b has. kept o b has.1 has.0 in
      let c = whole.parts in
      let here : HasCommit T commit c = record { bytes = whole.here.bytes; stored = up (name_of Commit commit) whole.here.bytes (whole.here.stored, at_itself); reads = whole.here.reads } in
      let same : shown.0 ≡ c = one_parts T map commit shown.0 c shown.1 here in
      let now : Shows T c.tree c.meta p n = subst (λ (x : CommitParts). Shows T x.tree x.meta p n) same shown.2 in
      (c, whole.here, shows_up (Part S Its) S (λ o b has. has.0) c.tree c.meta p n (shows_down (Part S Its) T up map limits.content c.tree c.meta p n (part_objects S limits commit whole Its at_itself goes_on) now))
