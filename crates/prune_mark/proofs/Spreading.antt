-- Marks of a set of names.
use Rattle.std.proofs.Common.{◌≡◌, ◌≢◌, ◌⊎◌, inl, inr, ⊎_elim, ℕ, ◌<◌, ◌≤◌, ◌+◌, Bool, true, List, [], ◌∷◌, ◌++◌, length, get_or, length-append, refl, sym, ◌∙◌, ap, subst, arith}
use Rattle.std.specs.Prelude.{slice_set, Contains}
use Rattle.std.proofs.lemmas.List.{get_or_default}
use Rattle.std.proofs.lemmas.List.Elements.{Contains-append_left, Contains-append_right, Contains-append_cases}
use Rattle.ost_types.specs.declared.object.Kind.TheVariants as kind
use Rattle.ost_types.specs.declared.object.ObjName.{ObjName}
use Rattle.ost_forms.specs.declared.entry.FileItem.{FileItem}
use Rattle.ost_forms.specs.declared.entry.FolderItem.{FolderItem}
use Rattle.ost_forms.specs.DirTree.{Entries}
use Rattle.repo_model.specs.Trees.{name_of}
use Rattle.reach.specs.Reach.{ObjNames, Is, IsEntry, IsFolderOf}
use Rattle.prune_mark.specs.Flags.{AreOfFiles, AreOfFolders, IsDown, IsMarked, IsUpIfThere, Spreads}
use Rattle.prune_mark.proofs.Flagged.{set_fewer, set_long, set_new, set_stays, set_up}

module _ (names : List ObjName) (flags : List Bool) (pending : List (List ℕ)) where
  -- nothing is marked
  pub spreads_none : (set : ObjNames) → ((o : ObjName) → set o → IsUpIfThere names flags o) → Spreads names set flags pending flags pending
  spreads_none set up = record {
    long = refl;
    stays = λ o m. m;
    new = λ o m. inl m;
    all = up;
    waits = λ tree w. w;
    later = λ tree m. inl m;
    marked = λ tree w. inl w;
    fewer = omega arith;
  }

  pub spreads_old : (o : ObjName) → IsUpIfThere names flags o → Spreads names (Is o) flags pending flags pending
  spreads_old o up = spreads_none (Is o) (λ x is. subst (IsUpIfThere names flags) (sym is) up)

  module _ (o : ObjName) (at : ℕ) (long : length flags ≡ length names) (was : IsDown names flags o at) where
    pub spreads_leaf : o.kind ≢ kind.DirTree → Spreads names (Is o) flags pending (slice_set flags at true) pending
    spreads_leaf other = record {
      long = set_long names flags o at long was;
      stays = set_stays names flags o at long was;
      new = set_new names flags o at long was;
      all = λ x is sorted has. subst (IsMarked names (slice_set flags at true)) (sym is) (set_up names flags o at long was);
      waits = λ tree w. w;
      later = λ tree m. ⊎_elim (λ old. inl old) (λ e. absurd (other (ap (λ (x : ObjName). x.kind) (sym e)))) (set_new names flags o at long was (name_of kind.DirTree tree) m);
      marked = λ tree w. inl w;
      fewer = let f = set_fewer names flags o at long was in omega (arith, f);
    }

  pub one_in : (x y : List ℕ) → Contains (y ∷ []) x → x ≡ y
  one_in x y (i, less, is) = sym is ∙ ap (λ k. get_or (y ∷ []) k x) (first i less)
    where
      first : (i : ℕ) → i < 1 → i ≡ 0
      first i less = omega (arith, less)

  module _ (tree : List ℕ) (at : ℕ) (long : length flags ≡ length names) (was : IsDown names flags (name_of kind.DirTree tree) at) where
    pub spreads_tree : Spreads names (Is (name_of kind.DirTree tree)) flags pending (slice_set flags at true) (pending ++ tree ∷ [])
    spreads_tree = record {
      long = set_long names flags (name_of kind.DirTree tree) at long was;
      stays = set_stays names flags (name_of kind.DirTree tree) at long was;
      new = set_new names flags (name_of kind.DirTree tree) at long was;
      all = λ x is sorted has. subst (IsMarked names (slice_set flags at true)) (sym is) (set_up names flags (name_of kind.DirTree tree) at long was);
      waits = λ t w. Contains-append_left pending (tree ∷ []) t w;
      later = λ t m. ⊎_elim
          (λ old. inl old)
          (λ e. inr (subst (Contains (pending ++ tree ∷ [])) (ap (λ (x : ObjName). x.csum) (sym e)) (Contains-append_right pending (tree ∷ []) tree (0, omega arith, refl))))
          (set_new names flags (name_of kind.DirTree tree) at long was (name_of kind.DirTree t) m);
      marked = λ t w. ⊎_elim
          (λ old. inl old)
          (λ one. inr (subst (λ x. IsMarked names (slice_set flags at true) (name_of kind.DirTree x)) (sym (one_in t tree one)) (set_up names flags (name_of kind.DirTree tree) at long was)))
          (Contains-append_cases pending (tree ∷ []) t w);
      fewer = let f = set_fewer names flags (name_of kind.DirTree tree) at long was in let l = length-append pending (tree ∷ []) in omega (arith, f, l);
    }

-- two sets one after the other
pub spreads_then : (names : List ObjName) (A B : ObjNames) (f g h : List Bool) (p q r : List (List ℕ)) → Spreads names A f p g q → Spreads names B g q h r → Spreads names (λ o. A o ⊎ B o) f p h r
spreads_then names A B f g h p q r s t = record {
  long = t.long ∙ s.long;
  stays = λ o m. t.stays o (s.stays o m);
  new = λ o m. ⊎_elim (λ mid. ⊎_elim (λ old. inl old) (λ a. inr (inl a)) (s.new o mid)) (λ b. inr (inr b)) (t.new o m);
  all = λ o set sorted has. ⊎_elim (λ a. t.stays o (s.all o a sorted has)) (λ b. t.all o b sorted has) set;
  waits = λ tree w. t.waits tree (s.waits tree w);
  later = λ tree m. ⊎_elim (λ mid. ⊎_elim (λ old. inl old) (λ w. inr (t.waits tree w)) (s.later tree mid)) (λ w. inr w) (t.later tree m);
  marked = λ tree w. ⊎_elim (λ mid. ⊎_elim (λ old. inl old) (λ m. inr (t.stays (name_of kind.DirTree tree) m)) (s.marked tree mid)) (λ m. inr m) (t.marked tree w);
  fewer = omega (arith, s.fewer, t.fewer);
}

-- the same set in other words
pub spreads_as : (names : List ObjName) (A B : ObjNames) (f g : List Bool) (p q : List (List ℕ)) → ((o : ObjName) → A o → B o) → ((o : ObjName) → B o → A o) → Spreads names A f p g q → Spreads names B f p g q
spreads_as names A B f g p q to from s = record {
  long = s.long;
  stays = s.stays;
  new = λ o m. ⊎_elim (λ old. inl old) (λ a. inr (to o a)) (s.new o m);
  all = λ o b. s.all o (from o b);
  waits = s.waits;
  later = s.later;
  marked = s.marked;
  fewer = s.fewer;
}

-- ---- the first so many of a list

abbrev pub OfFirst : {X : Type 0} → (X → ObjNames) → List X → ℕ → ObjNames
OfFirst {X} P xs i o = (k : ℕ) × (x : X) × (k < i) × (k < length xs) × (get_or xs k x ≡ x) × P x o

module _ {X : Type 0} (P : X → ObjNames) (xs : List X) where
  pub first_none : (o : ObjName) → OfFirst P xs 0 o → ⊥
  first_none o f = omega (arith, f.2)

  module _ (i : ℕ) (x : X) (inside : i < length xs) (is : x ≡ get_or xs i x) where
    pub first_more : (o : ObjName) → OfFirst P xs i o ⊎ P x o → OfFirst P xs (i + 1) o
    first_more o (inl f) = (f.0, f.1, omega (arith, f.2), f.3, f.4, f.5)
    first_more o (inr p) = (i, x, omega arith, inside, sym is, p)

    pub first_less : (o : ObjName) → OfFirst P xs (i + 1) o → OfFirst P xs i o ⊎ P x o
    first_less o f = by (order f.0 i f.2)
      where
        order : (k i : ℕ) → k < i + 1 → (k < i) ⊎ (k ≡ i)
        order k i less = grind (arith, less)

        by : (f.0 < i) ⊎ (f.0 ≡ i) → OfFirst P xs i o ⊎ P x o
        by (inl less) = inl (f.0, f.1, less, f.3, f.4, f.5)
        by (inr e) = inr (subst (λ y. P y o) (sym f.4 ∙ ap (λ k. get_or xs k f.1) e ∙ get_or_default xs i f.1 x inside ∙ sym is) f.5)

  pub first_all : (i : ℕ) → length xs ≤ i → (o : ObjName) → ((x : X) × Contains xs x × P x o) → OfFirst P xs i o
  first_all i whole o f = (f.1.0, f.0, omega (arith, f.1.1, whole), f.1.1, f.1.2, f.2)

  pub all_first : (i : ℕ) (o : ObjName) → OfFirst P xs i o → (x : X) × Contains xs x × P x o
  all_first i o f = (f.1, (f.0, f.3, f.4), f.5)

-- ---- the entries of a folder

abbrev pub FileIs : FileItem → ObjNames
FileIs i o = o ≡ name_of kind.File i.file

abbrev pub FolderIs : FolderItem → ObjNames
FolderIs i o = IsFolderOf i.tree i.meta o

module _ (e : Entries) where
  pub entry_from : (o : ObjName) → AreOfFiles e.files o ⊎ AreOfFolders e.folders o → IsEntry e o
  entry_from o (inl (i, among, is)) = inl (i.name, i.file, record { item = i; among = among; name = refl; file = refl }, is)
  entry_from o (inr (i, among, of)) = inr (i.name, i.tree, i.meta, record { item = i; among = among; name = refl; tree_is = refl; meta_is = refl }, of)

  pub entry_to : (o : ObjName) → IsEntry e o → AreOfFiles e.files o ⊎ AreOfFolders e.folders o
  entry_to o (inl (x, sum, has, is)) = inl (has.item, has.among, is ∙ ap (name_of kind.File) (sym has.file))
  entry_to o (inr (x, tree, meta, has, of)) = inr (has.item, has.among, ⊎_elim (λ t. inl (t ∙ ap (name_of kind.DirTree) (sym has.tree_is))) (λ m. inr (m ∙ ap (name_of kind.DirMeta) (sym has.meta_is))) of)
