-- Two stores with the same folders and commits: what is known of a walk by the one is known by the other, where that has the files.
use Rattle.std.proofs.Common.{◌≡◌, inl, inr, ⊎_elim, ℕ, List, [], ◌∷◌, sym, subst}
use Rattle.ost_types.specs.declared.limits.Limits.{Limits}
use Rattle.ost_types.specs.declared.meta.Meta.{Meta}
use Rattle.ost_types.specs.declared.node.NodeName.{NodeName}
use Rattle.ost_types.specs.declared.object.Kind.{Kind}
use Rattle.ost_types.specs.declared.object.Kind.TheVariants as kind
use Rattle.ost_types.specs.declared.object.ObjName.{ObjName}
use Rattle.ost_types.specs.Path.{Path}
use Rattle.ost_types.specs.PathMap.{Nodes}
use Rattle.ost_forms.specs.Commit.{CommitParts}
use Rattle.ost_forms.specs.DirTree.{Entries}
use Rattle.repo_model.specs.Objects.{Has, Store}
use Rattle.repo_model.specs.Trees.{HasCommit, HasEntries, HasMeta, Names, Shows, TreeShows, name_of}
use Rattle.repo_model.specs.Whole.{Complete}
use Rattle.tree_read.specs.declared.item.Item.{Item}
use Rattle.tree_read.specs.declared.item.Named.{Named}
use Rattle.tree_read.specs.declared.item.Named.TheVariants.{Folder, Attributes, File}
use Rattle.tree_read.specs.Items.{NamesFrom, ShowsFrom}
use Rattle.tree_read.specs.Order.{ArePathsBefore, HasTooMany, IsKept, IsMet, IsOwner, NamesFar, StopsAt}
use Rattle.tree_read.specs.Reading.{Knows, Reading}
use Rattle.tree_read.specs.Remembered.{Memory, Recalls}
use Rattle.tree_read.specs.Walked as walk
use Rattle.tree_read.specs.Walked.{Walked}
use Rattle.tree_read.proofs.Recalling.{recalls_over}

-- an object that is no file's
abbrev pub IsFolderish : ObjName → Type 0
IsFolderish o = o.kind ≡ kind.File → ⊥

-- what the one has of folders and commits
abbrev pub HasFolders : Store → Store → Type 0
HasFolders S T = (o : ObjName) (b : List ℕ) → IsFolderish o → S o b → T o b

-- ---- what is shown and named

module _ (S T : Store) (more : HasFolders S T) where
  entries_up : (sum : List ℕ) (e : Entries) → HasEntries S sum e → HasEntries T sum e
  entries_up sum e has = record { bytes = has.bytes; stored = more (name_of kind.DirTree sum) has.bytes (λ is. let no : kind.DirTree ≡ kind.File = is in cc) has.stored; reads = has.reads }

  meta_up : (sum : List ℕ) (m : Meta) → HasMeta S sum m → HasMeta T sum m
  meta_up sum m has = record { bytes = has.bytes; stored = more (name_of kind.DirMeta sum) has.bytes (λ is. let no : kind.DirMeta ≡ kind.File = is in cc) has.stored; reads = has.reads }

  pub commit_up : (sum : List ℕ) (c : CommitParts) → HasCommit S sum c → HasCommit T sum c
  commit_up sum c has = record { bytes = has.bytes; stored = more (name_of kind.Commit sum) has.bytes (λ is. let no : kind.Commit ≡ kind.File = is in cc) has.stored; reads = has.reads }

  pub names_up : (tree meta : List ℕ) (p : Path) (o : ObjName) → Names S tree meta p o → Names T tree meta p o
  unfolding Names
  names_up tree meta [] o names = names
  names_up tree meta (x ∷ rest) o names = (names.0, entries_up tree names.0 names.1, ⊎_elim (λ file. inl file) (λ f. inr (f.0, f.1, f.2, names_up f.0 f.1 rest o f.3)) names.2)

  pub shows_up : (tree meta : List ℕ) (p : Path) (n : NodeName) → Shows S tree meta p n → Shows T tree meta p n
  unfolding Shows
  shows_up tree meta [] n shown = (shown.0, meta_up meta shown.0 shown.1, shown.2)
  shows_up tree meta (x ∷ rest) n shown = (shown.0, entries_up tree shown.0 shown.1, ⊎_elim (λ leaf. inl leaf) (λ f. inr (f.0, f.1, f.2, shows_up f.0 f.1 rest n f.3)) shown.2)

  pub tree_up : (commit : List ℕ) (p : Path) (n : NodeName) → TreeShows S commit p n → TreeShows T commit p n
  tree_up commit p n shown = (shown.0, commit_up commit shown.0 shown.1, shows_up shown.0.tree shown.0.meta p n shown.2)

  names_from_up : (x : Named) (rest : Path) (o : ObjName) → NamesFrom S x rest o → NamesFrom T x rest o
  names_from_up (Folder tree meta) rest o names = names_up tree meta rest o names
  names_from_up (Attributes meta) rest o names = names
  names_from_up (File sum) rest o names = names

  shows_from_up : (x : Named) (rest : Path) (n : NodeName) → ShowsFrom S x rest n → ShowsFrom T x rest n
  shows_from_up (Folder tree meta) rest n shown = shows_up tree meta rest n shown
  shows_from_up (Attributes meta) rest n shown = (shown.0, shown.1, meta_up meta shown.1 shown.2, shown.3)
  shows_from_up (File sum) rest n shown = shown

  waits_up : (content : ℕ) (items : List Item) (p : Path) (o : ObjName) → walk.Waits S content items p o → walk.Waits T content items p o
  waits_up content items p o u = record { item = u.item; among = u.among; names = record { rest = u.names.rest; below = u.names.below; names = names_from_up u.item.named u.names.rest o u.names.names } }

  left_up : (content : ℕ) (items : List Item) (p : Path) (n : NodeName) → walk.Left S content items p n → walk.Left T content items p n
  left_up content items p n l = record { item = l.item; among = l.among; shows = record { rest = l.shows.rest; below = l.shows.below; shows = shows_from_up l.item.named l.shows.rest n l.shows.shows } }

  owner_up : (content : ℕ) (tree meta : List ℕ) (p : Path) (o : ObjName) → IsOwner S content tree meta p o → IsOwner T content tree meta p o
  owner_up content tree meta [] o owner = owner
  owner_up content tree meta (x ∷ rest) o owner = (owner.0, owner.1, owner.2, names_up tree meta owner.0 o owner.3, owner.4)

  pub far_up : (tree : List ℕ) (at : Path) → NamesFar S tree at → NamesFar T tree at
  far_up tree at f = record { entries = f.entries; has = entries_up tree f.entries f.has; name = f.name; there = f.there; far = f.far }

-- ---- what is kept

-- the files that the one has, the other has too
abbrev pub HasFiles : Store → Store → ℕ → Type 0
HasFiles S T content = (sum : List ℕ) → Has S content (name_of kind.File sum) → Has T content (name_of kind.File sum)

module _ (S T : Store) (more : HasFolders S T) (less : HasFolders T S) (limits : Limits) (files : HasFiles S T limits.content) where
  abbrev content : ℕ
  content = limits.content

  has_folderish : (o : ObjName) → IsFolderish o → Has S content o → Has T content o
  has_folderish o is has = record { bytes = has.bytes; stored = more o has.bytes is has.stored; formed = has.formed }

  has_by : (k : Kind) (sum : List ℕ) → Has S content (name_of k sum) → Has T content (name_of k sum)
  has_by kind.Commit sum has = has_folderish (name_of kind.Commit sum) (λ is. let no : kind.Commit ≡ kind.File = is in cc) has
  has_by kind.DirTree sum has = has_folderish (name_of kind.DirTree sum) (λ is. let no : kind.DirTree ≡ kind.File = is in cc) has
  has_by kind.DirMeta sum has = has_folderish (name_of kind.DirMeta sum) (λ is. let no : kind.DirMeta ≡ kind.File = is in cc) has
  has_by kind.File sum has = files sum has

  pub has_up : (o : ObjName) → Has S content o → Has T content o
  has_up o has = has_by o.kind o.csum has

  kept_up : (p : Path) (o : ObjName) → IsKept S content p o → IsKept T content p o
  kept_up p o k = record { has = has_up o k.has; short = λ is far. k.short is (far_up T S less o.csum p far) }

  module _ (tree meta : List ℕ) where
    down : (p : Path) (o : ObjName) → Names T tree meta p o → Names S tree meta p o
    down = names_up T S less tree meta

    walked_up : (found : Nodes) (items : List Item) → Walked S content tree meta found items → Walked T content tree meta found items
    walked_up found items w = record {
      all = λ p n shown. ⊎_elim (λ h. inl h) (λ l. inr (left_up S T more content items p n l)) (w.all p n (shows_up T S less tree meta p n shown));
      sound = λ p n h. shows_up S T more tree meta p n (w.sound p n h);
      lies = λ p n l. shows_up S T more tree meta p n (w.lies p n (left_up T S less content items p n l));
      kept = λ p o names. ⊎_elim (λ k. inl (kept_up p o k)) (λ u. inr (waits_up S T more content items p o u)) (w.kept p o (down p o names));
      named = λ p o u. names_up S T more tree meta p o (w.named p o (waits_up T S less content items p o u));
      met = λ p o names. ⊎_elim (λ h. inl h) (λ m. inr (record { object = m.object; waits = waits_up S T more content items p m.object m.waits })) (w.met p o (down p o names));
    }

    recalls_up : (m : Memory) → Recalls S content tree meta m → Recalls T content tree meta m
    recalls_up = recalls_over S T content tree meta (λ sum e n has. entries_up S T more sum e has) (λ sum a n has. meta_up S T more sum a has) (λ sum n has. files sum has)
        (λ o n. (n.0, names_up S T more tree meta n.0 o n.1))

    met_up : (p : Path) → IsMet S content tree meta p → IsMet T content tree meta p
    met_up p m = (m.0, names_up S T more tree meta p m.0 m.1)

    before_up : (p : Path) (paths : List Path) → ArePathsBefore S content tree meta p paths → ArePathsBefore T content tree meta p paths
    before_up p paths b = record {
      ascending = b.ascending;
      met = λ q h. (let m = b.met q h in (met_up q m.0, m.1));
      all = λ q m less_. b.all q (m.0, down q m.0 m.1) less_;
    }

    pub stops_up : (o : ObjName) (W X : Path → Type 0) → ((at : Path) → W at → X at) → StopsAt S limits tree meta o W → StopsAt T limits tree meta o X
    stops_up o W X so s = record {
      at = s.at;
      paths = s.paths;
      named = names_up S T more tree meta s.at o s.named;
      kept = λ q a names early. kept_up q a (s.kept q a (down q a names) early);
      before = before_up s.at s.paths s.before;
      few = s.few;
      wrong = so s.at s.wrong;
    }

    pub many_up : (o : ObjName) → HasTooMany S limits tree meta o → HasTooMany T limits tree meta o
    many_up o s = record {
      at = s.at;
      paths = s.paths;
      met = met_up s.at s.met;
      owner = owner_up S T more content tree meta s.at o s.owner;
      kept = λ q a names early. kept_up q a (s.kept q a (down q a names) early);
      before = before_up s.at s.paths s.before;
      full = s.full;
    }

  pub knows_up : (t : Reading) → t.limits ≡ limits → Knows S t → Knows T t
  knows_up t within k = record {
    parts = k.parts;
    has = commit_up S T more t.commit k.parts k.has;
    walked = subst (λ (l : Limits). Walked T l.content k.parts.tree k.parts.meta t.found t.pending) (sym within)
        (walked_up k.parts.tree k.parts.meta t.found t.pending (subst (λ (l : Limits). Walked S l.content k.parts.tree k.parts.meta t.found t.pending) within k.walked));
    owned = λ i among. owner_up S T more t.limits.content k.parts.tree k.parts.meta i.path (name_of kind.DirTree i.owner) (k.owned i among);
    line = k.line;
    ascending = k.ascending;
    short = k.short;
    few = k.few;
    recalls = subst (λ (l : Limits). Recalls T l.content k.parts.tree k.parts.meta t.remembered) (sym within)
        (recalls_up k.parts.tree k.parts.meta t.remembered (subst (λ (l : Limits). Recalls S l.content k.parts.tree k.parts.meta t.remembered) within k.recalls));
  }

  pub complete_up : (commit : List ℕ) → Complete S limits commit → Complete T limits commit
  complete_up commit whole = record {
    parts = whole.parts;
    here = commit_up S T more commit whole.parts whole.here;
    objects = λ p o names. has_up o (whole.objects p o (down whole.parts.tree whole.parts.meta p o names));
    few = record { paths = whole.few.paths; few = whole.few.few; all = λ p n shown. whole.few.all p n (shows_up T S less whole.parts.tree whole.parts.meta p n shown) };
    short = λ p n shown. whole.short p n (shows_up T S less whole.parts.tree whole.parts.meta p n shown);
  }
