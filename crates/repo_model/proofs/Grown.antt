-- A store that has more objects shows the same of what it had.
use Rattle.std.proofs.Common.{◌≡◌, inl, inr, ℕ, List, [], ◌∷◌, Ok, refl, subst, ⊎_elim}
use Rattle.ost_types.specs.declared.limits.Limits.{Limits}
use Rattle.ost_types.specs.declared.node.NodeName.{NodeName}
use Rattle.ost_types.specs.declared.meta.Meta.{Meta}
use Rattle.ost_types.specs.declared.object.ObjName.{ObjName}
use Rattle.ost_types.specs.declared.object.Kind.TheVariants.{Commit, DirTree, DirMeta}
use Rattle.ost_types.specs.Path.{Path}
use Rattle.ost_forms.specs.Commit.{CommitParts}
use Rattle.ost_forms.specs.DirTree.{Entries, ReadsDirTree}
use Rattle.ost_forms.specs.DirMeta.{ReadsDirMeta}
use Rattle.repo_model.specs.Objects.{Store, IsMap, Has}
use Rattle.repo_model.specs.Trees.{HasCommit, HasEntries, HasMeta, HasFolder, Shows, Names, TreeShows, name_of}
use Rattle.repo_model.specs.Whole.{Complete}

module _ (S T : Store) (more : (name : ObjName) (b : List ℕ) → S name b → T name b) where
  entries_up : (sum : List ℕ) (e : Entries) → HasEntries S sum e → HasEntries T sum e
  entries_up sum e has = record { bytes = has.bytes; stored = more (name_of DirTree sum) has.bytes has.stored; reads = has.reads }

  meta_up : (sum : List ℕ) (m : Meta) → HasMeta S sum m → HasMeta T sum m
  meta_up sum m has = record { bytes = has.bytes; stored = more (name_of DirMeta sum) has.bytes has.stored; reads = has.reads }

  commit_up : (sum : List ℕ) (c : CommitParts) → HasCommit S sum c → HasCommit T sum c
  commit_up sum c has = record { bytes = has.bytes; stored = more (name_of Commit sum) has.bytes has.stored; reads = has.reads }

  pub has_up : (content : ℕ) (o : ObjName) → Has S content o → Has T content o
  has_up content o has = record { bytes = has.bytes; stored = more o has.bytes has.stored; formed = has.formed }

  pub shows_up : (tree meta : List ℕ) (p : Path) (n : NodeName) → Shows S tree meta p n → Shows T tree meta p n
  unfolding Shows
  shows_up tree meta [] n shown = (shown.0, meta_up meta shown.0 shown.1, shown.2)
  shows_up tree meta (x ∷ rest) n shown = (
    shown.0,
    entries_up tree shown.0 shown.1,
    ⊎_elim (λ leaf. inl leaf) (λ f. inr (f.0, f.1, f.2, shows_up f.0 f.1 rest n f.3)) shown.2,
  )

  pub tree_up : (commit : List ℕ) (p : Path) (n : NodeName) → TreeShows S commit p n → TreeShows T commit p n
  tree_up commit p n shown = (shown.0, commit_up commit shown.0 shown.1, shows_up shown.0.tree shown.0.meta p n shown.2)

  module _ (map : IsMap T) (content : ℕ) where
    entries_down : (sum : List ℕ) (e : Entries) → Has S content (name_of DirTree sum) → HasEntries T sum e → HasEntries S sum e
    entries_down sum e here has =
        let same : has.bytes ≡ here.bytes = map.one (name_of DirTree sum) has.bytes here.bytes has.stored (more (name_of DirTree sum) here.bytes here.stored) in
        record { bytes = here.bytes; stored = here.stored; reads = subst (λ b. ReadsDirTree (λ x. x) b (Ok e)) same has.reads }

    meta_down : (sum : List ℕ) (m : Meta) → Has S content (name_of DirMeta sum) → HasMeta T sum m → HasMeta S sum m
    meta_down sum m here has =
        let same : has.bytes ≡ here.bytes = map.one (name_of DirMeta sum) has.bytes here.bytes has.stored (more (name_of DirMeta sum) here.bytes here.stored) in
        record { bytes = here.bytes; stored = here.stored; reads = subst (λ b. ReadsDirMeta (λ x. x) b (Ok m)) same has.reads }

    tree_here : (tree meta : List ℕ) → ((p : Path) (o : ObjName) → Names S tree meta p o → Has S content o) → Has S content (name_of DirTree tree)
    unfolding Names
    tree_here tree meta all = all [] (name_of DirTree tree) (inl refl)

    meta_here : (tree meta : List ℕ) → ((p : Path) (o : ObjName) → Names S tree meta p o → Has S content o) → Has S content (name_of DirMeta meta)
    unfolding Names
    meta_here tree meta all = all [] (name_of DirMeta meta) (inr refl)

    below : (tree meta x : List ℕ) (e : Entries) (t m : List ℕ) → HasEntries S tree e → HasFolder e x t m
        → ((p : Path) (o : ObjName) → Names S tree meta p o → Has S content o) → (p : Path) (o : ObjName) → Names S t m p o → Has S content o
    unfolding Names
    below tree meta x e t m entries folder all p o names = all (x ∷ p) o (e, entries, inr (t, m, folder, names))

    pub shows_down : (tree meta : List ℕ) (p : Path) (n : NodeName) → ((q : Path) (o : ObjName) → Names S tree meta q o → Has S content o) → Shows T tree meta p n → Shows S tree meta p n
    unfolding Shows
    shows_down tree meta [] n all shown = (shown.0, meta_down meta shown.0 (meta_here tree meta all) shown.1, shown.2)
    shows_down tree meta (x ∷ rest) n all shown =
        let entries = entries_down tree shown.0 (tree_here tree meta all) shown.1 in (
          shown.0,
          entries,
          ⊎_elim (λ leaf. inl leaf) (λ f. inr (f.0, f.1, f.2, shows_down f.0 f.1 rest n (below tree meta x shown.0 f.0 f.1 entries f.2 all) f.3)) shown.2,
        )

    pub names_down : (tree meta : List ℕ) (p : Path) (o : ObjName) → ((q : Path) (a : ObjName) → Names S tree meta q a → Has S content a) → Names T tree meta p o → Names S tree meta p o
    unfolding Names
    names_down tree meta [] o all names = names
    names_down tree meta (x ∷ rest) o all names =
        let entries = entries_down tree names.0 (tree_here tree meta all) names.1 in (
          names.0,
          entries,
          ⊎_elim (λ file. inl file) (λ f. inr (f.0, f.1, f.2, names_down f.0 f.1 rest o (below tree meta x names.0 f.0 f.1 entries f.2 all) f.3)) names.2,
        )

  pub complete_up : IsMap T → (limits : Limits) (commit : List ℕ) → Complete S limits commit → Complete T limits commit
  complete_up map limits commit whole =
      let c = whole.parts in
      let down : (p : Path) (n : NodeName) → Shows T c.tree c.meta p n → Shows S c.tree c.meta p n = λ p n shown. shows_down map limits.content c.tree c.meta p n whole.objects shown in
      record {
        parts = c;
        here = commit_up commit c whole.here;
        objects = λ p o names. has_up limits.content o (whole.objects p o (names_down map limits.content c.tree c.meta p o whole.objects names));
        few = record { paths = whole.few.paths; few = whole.few.few; all = λ p n shown. whole.few.all p n (down p n shown) };
        short = λ p n shown. whole.short p n (down p n shown);
      }
