-- What each object on the way tells `cat`.
use Rattle.std.proofs.Common.{◌≡◌, ◌≢◌, ◌≤◌, ◌<◌, get_or, ◌⊎◌, inl, inr, ⊎_elim, ℕ, ◌+◌, List, [], ◌∷◌, ◌++◌, length, take, drop, Option, Some, None, Result, Ok, Err, IfOk, refl, sym, ◌∙◌, ap, subst, arith, append-nil, length-append}
use Rattle.std.proofs.lemmas.List.{length-take, length-drop, take_all, take_more, drop_more, take-append-drop}
use Rattle.ost_types.specs.declared.memory.NoMemory.{NoMemory}
use Rattle.ost_types.specs.declared.meta.Meta.{Meta}
use Rattle.ost_types.specs.declared.node.NodeName.TheVariants as node
use Rattle.ost_types.specs.declared.object.Kind.TheVariants as kind
use Rattle.ost_types.specs.declared.object.ObjName.{ObjName}
use Rattle.ost_types.specs.Path.{Name, Path}
use Rattle.ost_forms.specs.declared.body.Body.{Body}
use Rattle.ost_forms.specs.declared.body.Body.TheVariants.{Regular, Symlink}
use Rattle.ost_forms.specs.Commit.{CommitParts}
use Rattle.ost_forms.specs.DirTree.{Entries, IsSorted}
use Rattle.fs_trait.specs.View.{Disk}
use Rattle.repo_model.specs.Objects.{Store, Stores, Has, IsMap, path_of}
use Rattle.repo_model.specs.Trees.{HasCommit, HasEntries, HasFile, HasFolder, HasMeta, Names, NamesFile, Shows, TreeShows, name_of}
use Rattle.repo_model.proofs.Stored.{stores_map}
use Rattle.tree_read.proofs.Walk.{entries_one, shows_met}
use Rattle.tree_read.specs.Looks.{IsAbsent, IsDamaged}
use Rattle.read_command.specs.declared.answer.ReadAnswer.{ReadAnswer}
use Rattle.read_command.specs.declared.answer.ReadAnswer.TheVariants as answer
use Rattle.read_command.specs.declared.cat.Cat.{Cat}
use Rattle.read_command.specs.declared.cat.Place.TheVariants as place
use Rattle.read_command.specs.Answers.{IsNowhere, IsOfCommit}
use Rattle.read_command.specs.CatSteps.{CatKnows, CatTells, Enters, HasCome, KnowsAt, Splits, TellsBody}
use Rattle.read_command.specs.Entering.{HasNone}
use Rattle.read_command.specs.Files.{HasBody}
use Rattle.read_command.specs.Ways.{Way}
use Rattle.read_command.specs.WayLaws.{apart_in, folder_once, names_way, shown_leaf, sorted_of, way_more, way_names, way_shows}

-- ---- the name isn't there

-- no way goes on by the name
abbrev pub Stops : Entries → Name → Path → Type 0
Stops e x rest = HasNone e x ⊎ ((sum : List ℕ) × HasFile e x sum × (rest ≢ []))

module _ (S : Store) (map_of : IsMap S) (content : ℕ) (tree meta : List ℕ) (e : Entries) (has : HasEntries S tree e) (x : Name) (rest : Path) where
  -- by cases on what the entries name
  lacks : HasNone e x → (q : Path) (o : ObjName) → NamesFile e x q o ⊎ ((t : List ℕ) × (m : List ℕ) × HasFolder e x t m × Names S t m q o) → ⊥
  lacks none [] o (inl file) = none.file file.0 file.1
  lacks none (y ∷ q) o (inl file) = file
  lacks none q o (inr folder) = none.folder folder.0 folder.1 folder.2

  here_what : (q : Path) (o : ObjName) → Names S tree meta (x ∷ q) o → NamesFile e x q o ⊎ ((t : List ℕ) × (m : List ℕ) × HasFolder e x t m × Names S t m q o)
  unfolding Names
  here_what q o (f, here, what) = subst (λ g. NamesFile g x q o ⊎ ((t : List ℕ) × (m : List ℕ) × HasFolder g x t m × Names S t m q o)) (entries_one S map_of tree f e here has) what

  file_tree : (sum : List ℕ) → HasFile e x sum → (q : Path) (o : ObjName) → o.kind ≡ kind.DirTree → NamesFile e x q o ⊎ ((t : List ℕ) × (m : List ℕ) × HasFolder e x t m × Names S t m q o) → ⊥
  file_tree sum file [] o is (inl other) = let n : kind.File ≡ kind.DirTree = sym (ap (λ a. a.kind) other.2) ∙ is in cc
  file_tree sum file (y ∷ q) o is (inl other) = other
  file_tree sum file q o is (inr folder) = apart_in e x sum folder.0 folder.1 (sorted_of S map_of tree e has) file folder.2

  -- no folder is below
  no_tree : Stops e x rest → (q : Path) (o : ObjName) → o.kind ≡ kind.DirTree → Names S tree meta (x ∷ q) o → ⊥
  no_tree (inl none) q o is named = lacks none q o (here_what q o named)
  no_tree (inr (sum, file, some)) q o is named = file_tree sum file q o is (here_what q o named)

  file_rest : (sum : List ℕ) → HasFile e x sum → (q : Path) → q ≢ [] → (o : ObjName) → NamesFile e x q o ⊎ ((t : List ℕ) × (m : List ℕ) × HasFolder e x t m × Names S t m q o) → ⊥
  file_rest sum file [] some o what = some refl
  file_rest sum file (y ∷ q) some o (inl other) = other
  file_rest sum file (y ∷ q) some o (inr folder) = apart_in e x sum folder.0 folder.1 (sorted_of S map_of tree e has) file folder.2

  -- and nothing is at the path
  no_name : Stops e x rest → (o : ObjName) → Names S tree meta (x ∷ rest) o → ⊥
  no_name (inl none) o named = lacks none rest o (here_what rest o named)
  no_name (inr (sum, file, some)) o named = file_rest sum file rest some o (here_what rest o named)

  entries_there : (t : List ℕ) (g : Entries) (o : ObjName) → HasEntries S t g → o ≡ name_of kind.DirTree t → Has S content o
  entries_there t g o here is = subst (Has S content) (sym is) (record { bytes = here.bytes; stored = here.stored; formed = ∣ (g, here.reads) ∣₁ })

  tree_here : (t m : List ℕ) (g : Entries) (o : ObjName) → HasEntries S t g → o.kind ≡ kind.DirTree → Names S t m [] o → Has S content o
  unfolding Names
  tree_here t m g o here is (inl at) = entries_there t g o here at
  tree_here t m g o here is (inr at) = absurd (let n : kind.DirMeta ≡ kind.DirTree = sym (ap (λ a. a.kind) at) ∙ is in cc)

  not_file : (g : Entries) (z : Name) (u k : List ℕ) (q : Path) (o : ObjName) → IsSorted g → HasFolder g z u k → NamesFile g z q o → ⊥
  not_file g z u k [] o sorted folder file = apart_in g z file.0 u k sorted file.1 folder
  not_file g z u k (a ∷ q) o sorted folder file = file

  -- the entries of each folder above it are there
  above_on : Stops e x rest → (front : Path) (t m : List ℕ) → Way S t m front tree meta → (p r : Path) (o : ObjName) → front ++ x ∷ rest ≡ p ++ r → Names S t m p o → o.kind ≡ kind.DirTree → Has S content o
  unfolding Way Names
  above_on stops [] t m w [] r o cut named is = tree_here t m e o (subst (λ z. HasEntries S z e) w.0 has) is named
  above_on stops [] t m w (y ∷ q) r o cut named is =
      let same : x ≡ y = cc in
      let back : Names S tree meta (y ∷ q) o = subst (λ z. Names S z meta (y ∷ q) o) (sym w.0) (subst (λ z. Names S t z (y ∷ q) o) (sym w.1) named) in
      absurd (no_tree stops q o is (subst (λ z. Names S tree meta (z ∷ q) o) (sym same) back))
  above_on stops (z ∷ front) t m (g, here, u, k, folder, w) [] r o cut named is = tree_here t m g o here is named
  above_on stops (z ∷ front) t m (g, here, u, k, folder, w) (y ∷ q) r o cut (f, there, what) is =
      let same : y ≡ z = cc in
      let behind : front ++ x ∷ rest ≡ q ++ r = ap (drop 1) cut in
      ⊎_elim
      (λ file. absurd (not_file g z u k q o (sorted_of S map_of t g here) folder file))
      (λ h. (let one = folder_once g z u k h.0 h.1 (sorted_of S map_of t g here) folder h.2 in
      above_on stops front u k w q r o behind (subst (λ i. Names S i k q o) one.0 (subst (λ i. Names S h.0 i q o) one.1 h.3)) is))
      (subst (λ n. NamesFile g n q o ⊎ ((a : List ℕ) × (b : List ℕ) × HasFolder g n a b × Names S a b q o)) same (subst (λ h. NamesFile h y q o ⊎ ((a : List ℕ) × (b : List ℕ) × HasFolder h y a b × Names S a b q o)) (entries_one S map_of t f g there here) what))

  nowhere : (commit : List ℕ) (path front : Path) (parts : CommitParts) → path ≡ front ++ x ∷ rest → HasCommit S commit parts → Way S parts.tree parts.meta front tree meta → Stops e x rest → IsNowhere S content commit path
  nowhere commit path front parts cut here way stops = record {
    parts = parts;
    here = here;
    above = λ p r o at named is. above_on stops front parts.tree parts.meta way p r o (sym cut ∙ at) named is;
    unnamed = not;
    none = λ n shown. (let met = shows_met S parts.tree parts.meta path n shown in not met.0 met.1);
  }
    where
      not : (o : ObjName) → Names S parts.tree parts.meta path o → ⊥
      not o named = no_name stops o (names_way S map_of parts.tree parts.meta front tree meta (x ∷ rest) o way (subst (λ p. Names S parts.tree parts.meta p o) cut named))

-- ---- each step

file_at : (S : Store) (tree meta : List ℕ) (e : Entries) (x : Name) (sum : List ℕ) → HasEntries S tree e → HasFile e x sum → Shows S tree meta (x ∷ []) (node.Leaf sum)
unfolding Shows
file_at S tree meta e x sum has file = (e, has, inl (sum, file, refl))

pub come_first : (d : Disk) (commit : List ℕ) (path : Path) (parts : CommitParts) → HasCommit (Stores d) commit parts → HasCome (Stores d) commit path parts.tree parts.meta 0
unfolding Way
come_first d commit path parts has = record { deep = omega arith; parts = parts; here = has; way = (refl, refl) }

-- the commit is missing or damaged
pub no_commit : (d : Disk) (old new : Cat) (o : Option ReadAnswer) → o ≡ Some (answer.Lacking (path_of (name_of kind.Commit old.commit))) → IsAbsent d (name_of kind.Commit old.commit) ⊎ IsDamaged d old.limits.content (name_of kind.Commit old.commit) → CatTells d old new o
no_commit d old new o is why = subst (CatTells d old new) (sym is) (name_of kind.Commit old.commit, refl, inl refl, why)

module _ (d : Disk) (old : Cat) (tree meta : List ℕ) (depth : ℕ) (at : old.place ≡ place.Folder tree meta depth) (knows : CatKnows (Stores d) old) where
  come : HasCome (Stores d) old.commit old.path tree meta depth
  come = subst (λ p. KnowsAt p (Stores d) old) at knows

  -- the entries of the folder are there
  pub entered : (e : Entries) → HasEntries (Stores d) tree e → (new : Cat) (o : Option ReadAnswer) → Enters e depth old new o → CatTells d old new o
  entered e has new None (x, rest, splits, inl (t, m, folder, is)) = subst (CatKnows (Stores d)) (sym is) (record {
    deep = omega (arith, ap length splits.cut, length-append (take depth old.path) (x ∷ rest), length-take depth old.path, come.deep);
    parts = come.parts;
    here = come.here;
    way = subst (λ p. Way (Stores d) come.parts.tree come.parts.meta p t m) (sym splits.more) (way_more (Stores d) come.parts.tree come.parts.meta (take depth old.path) tree meta e x t m come.way has folder);
  })
  entered e has new None (x, rest, splits, inr (sum, file, last, is)) =
      let path : old.path ≡ take depth old.path ++ x ∷ [] = splits.cut ∙ ap (λ r. take depth old.path ++ x ∷ r) last in
      subst (CatKnows (Stores d)) (sym is)
      (come.parts, come.here, subst (λ p. Shows (Stores d) come.parts.tree come.parts.meta p (node.Leaf sum)) (sym path) (way_shows (Stores d) come.parts.tree come.parts.meta (take depth old.path) tree meta (x ∷ []) (node.Leaf sum) come.way (file_at (Stores d) tree meta e x sum has file)))
  entered e has new (Some (answer.NoPath p)) (same, x, rest, splits, stops) =
      (same, nowhere (Stores d) (stores_map d) old.limits.content tree meta e has x rest old.commit old.path (take depth old.path) come.parts splits.cut come.here come.way stops)
  entered e has new (Some (answer.Content b)) enters = absurd enters
  entered e has new (Some (answer.Ls rows)) enters = absurd enters
  entered e has new (Some (answer.Log rows)) enters = absurd enters
  entered e has new (Some (answer.NoCommit c)) enters = absurd enters
  entered e has new (Some (answer.Partial c)) enters = absurd enters
  entered e has new (Some (answer.NotFile p)) enters = absurd enters
  entered e has new (Some (answer.Lacking o)) enters = absurd enters

  tree_of_commit : IsOfCommit (Stores d) old.commit (name_of kind.DirTree tree)
  unfolding Names
  tree_of_commit = inr (come.parts, come.here, take depth old.path ++ [], way_names (Stores d) come.parts.tree come.parts.meta (take depth old.path) tree meta [] (name_of kind.DirTree tree) come.way (inl refl))

  meta_of_commit : IsOfCommit (Stores d) old.commit (name_of kind.DirMeta meta)
  unfolding Names
  meta_of_commit = inr (come.parts, come.here, take depth old.path ++ [], way_names (Stores d) come.parts.tree come.parts.meta (take depth old.path) tree meta [] (name_of kind.DirMeta meta) come.way (inr refl))

  -- the entries, or the attributes, are missing or damaged
  pub no_entries : (new : Cat) (o : Option ReadAnswer) → o ≡ Some (answer.Lacking (path_of (name_of kind.DirTree tree))) → IsAbsent d (name_of kind.DirTree tree) ⊎ IsDamaged d old.limits.content (name_of kind.DirTree tree) → CatTells d old new o
  no_entries new o is why = subst (CatTells d old new) (sym is) (name_of kind.DirTree tree, refl, tree_of_commit, why)

  pub no_attributes : (new : Cat) (o : Option ReadAnswer) → o ≡ Some (answer.Lacking (path_of (name_of kind.DirMeta meta))) → IsAbsent d (name_of kind.DirMeta meta) ⊎ IsDamaged d old.limits.content (name_of kind.DirMeta meta) → CatTells d old new o
  no_attributes new o is why = subst (CatTells d old new) (sym is) (name_of kind.DirMeta meta, refl, meta_of_commit, why)

  folder_at : (S : Store) (a : Meta) → HasMeta S meta a → Shows S tree meta [] (node.Folder a)
  unfolding Shows
  folder_at S a has = (a, has, refl)

  -- a folder is at the path
  pub a_folder : length old.path ≤ depth → (a : Meta) → HasMeta (Stores d) meta a → (new : Cat) (p : Path) → p ≡ old.path → CatTells d old new (Some (answer.NotFile p))
  a_folder deep a has new p same =
      let path : take depth old.path ++ [] ≡ old.path = append-nil (take depth old.path) ∙ take_all depth old.path (omega (arith, deep)) in
      (same, node.Folder a, (come.parts, come.here, subst (λ q. Shows (Stores d) come.parts.tree come.parts.meta q (node.Folder a)) path (way_shows (Stores d) come.parts.tree come.parts.meta (take depth old.path) tree meta [] (node.Folder a) come.way (folder_at (Stores d) a has))), tt)

-- the file at the path
module _ (d : Disk) (old : Cat) (sum : List ℕ) (at : old.place ≡ place.File sum) (knows : CatKnows (Stores d) old) where
  pub file_shown : TreeShows (Stores d) old.commit old.path (node.Leaf sum)
  file_shown = subst (λ p. KnowsAt p (Stores d) old) at knows

  pub no_file_there : (new : Cat) (o : Option ReadAnswer) → o ≡ Some (answer.Lacking (path_of (name_of kind.File sum))) → IsAbsent d (name_of kind.File sum) ⊎ IsDamaged d old.limits.content (name_of kind.File sum) → CatTells d old new o
  no_file_there new o is why = subst (CatTells d old new) (sym is) (name_of kind.File sum, refl, inr (file_shown.0, file_shown.1, old.path, shown_leaf (Stores d) file_shown.0.tree file_shown.0.meta old.path sum file_shown.2), why)

  pub body_told : (body : Body) → HasBody (Stores d) old.limits.content sum body → (new : Cat) (a : ReadAnswer) → TellsBody old.path body a → CatTells d old new (Some a)
  body_told (Regular bytes) has new a is = subst (λ x. CatTells d old new (Some x)) (sym is) (sum, file_shown, has)
  body_told (Symlink target) has new a is = subst (λ x. CatTells d old new (Some x)) (sym is) (refl, node.Leaf sum, file_shown, (target, has))

-- ---- the next name of the path

module _ (path names : Path) (same : names ≡ path) (depth : ℕ) (x : Name) (less : depth < length path) (is : x ≡ get_or names depth x) where
  at_path : x ≡ get_or path depth x
  at_path = is ∙ ap (λ p. get_or p depth x) same

  pub splits : Splits path depth x (drop (depth + 1) path)
  splits = record {
    cut = sym (take-append-drop depth path) ∙ ap (λ r. take depth path ++ r) (drop_more path depth x less ∙ ap (λ y. y ∷ drop (depth + 1) path) (sym at_path));
    more = take_more path depth x less ∙ ap (λ y. take depth path ++ y ∷ []) (sym at_path);
  }

  pub more_names : (depth + 1 ≡ length names → ⊥) → drop (depth + 1) path ≢ []
  more_names not none = not (omega (arith, ap length none, length-drop (depth + 1) path, ap length same, less))

-- there is no way on
pub no_way_on : (e : Entries) (depth : ℕ) (old new : Cat) (r : Result (Option ReadAnswer) NoMemory) → IfOk r (λ a. a ≡ Some (answer.NoPath old.path)) → (x : Name) (rest : Path) → Splits old.path depth x rest → Stops e x rest → IfOk r (Enters e depth old new)
no_way_on e depth old new (Ok a) is x rest s stops = subst (Enters e depth old new) (sym is) (refl, x, rest, s, stops)
no_way_on e depth old new (Err m) is x rest s stops = tt
