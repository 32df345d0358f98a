-- The nodes of the folder of entries, one entry after the other.
use Rattle.std.proofs.Common.{◌≡◌, ◌≢◌, ◌⊎◌, inl, inr, ⊎_elim, ℕ, ◌+◌, ◌-◌, ◌<◌, ◌≤◌, arith, true, List, [], ◌∷◌, ◌++◌, length, codes, Some, None, if◌then◌else◌, refl, sym, ◌∙◌, ap, subst, length-append, append_assoc}
use Rattle.std.proofs.lemmas.List.{append_cancel_left, get_or_default}
use Rattle.std.proofs.lemmas.Bool.Decides.{leb_tells}
use Rattle.ost_types.specs.Path.{Name, Path, IsPath, is_below, under}
use Rattle.ost_types.proofs.Paths.{is_below-self, is_below-under, same_path-apart, same_path-self, under-not_folder}
use Rattle.repo_layout.specs.BootPaths.{entry_path, loader_folder_path}
use Rattle.repo_layout.specs.declared.fixed.Version.{Version}
use Rattle.repo_layout.specs.Fixed.{entries_path, number}
use Rattle.boot_model.specs.declared.item.BootItem.{BootItem}
use Rattle.boot_model.specs.Items.{IsAt}
use Rattle.boot_model.specs.Entries.{entry_name, entry_text}
use Rattle.folder_build.specs.declared.node.Content.{Content}
use Rattle.folder_build.specs.declared.node.Content.TheVariants.{Folder, File}
use Rattle.folder_build.specs.declared.node.NewNode.{NewNode}
use Rattle.folder_build.specs.Node.{content_at}
use Rattle.folder_build.specs.Build.{IsPlan, MayFollow}
use Rattle.folder_build.proofs.Nodes.{push_here, push_found}
use Rattle.boot_plan.specs.Plans.{AreEntries, AreLaid, entry_folders, entry_node}
use Rattle.boot_plan.proofs.Growing.{Grown, grown_none, grown_push, laid_none, laid_push, none_of_two, none_or_some, plan_of, push_cases}
use Rattle.boot_plan.proofs.Plain.{entries_bounds, entries_child, entry_name-injective, entry_name-name, loader_folder_bounds}

-- with the entries of the first members
pub record SoFar (loader : ℕ) (items : List BootItem) (k : ℕ) (nodes : List NewNode) : Type 0 where
  pub grown : Grown (loader_folder_path loader) nodes
  pub inner : content_at nodes (entries_path loader) ≡ Some Folder
  pub each : (i : ℕ) (item : BootItem) → i < k → IsAt items i item → content_at nodes (entry_path loader (entry_name (length items - i))) ≡ Some (File (entry_text loader items i item))
  pub only : (file : Name) (c : Content) → content_at nodes (entry_path loader file) ≡ Some c
      → (i : ℕ) × (item : BootItem) × (i < k) × IsAt items i item × (file ≡ entry_name (length items - i)) × (c ≡ File (entry_text loader items i item))

first_here : (e : NewNode) (m : List NewNode) → content_at (e ∷ m) e.at ≡ Some e.what
first_here e m = ap (λ b. if b then Some e.what else content_at m e.at) (same_path-self e.at)

first_apart : (e : NewNode) (m : List NewNode) (p : Path) → e.at ≢ p → content_at (e ∷ m) p ≡ content_at m p
first_apart e m p apart = ap (λ b. if b then Some e.what else content_at m p) (same_path-apart e.at p apart)

pub root_not : (loader : ℕ) → loader_folder_path loader ≢ []
unfolding loader_folder_path
root_not loader e = cc

module _ (loader : ℕ) (items : List BootItem) where
  entry_under : (file : Name) → entry_path loader file ≡ under (entries_path loader) file
  entry_under file = sym (append_assoc (loader_folder_path loader) (codes "entries" ∷ []) (file ∷ []))

  entry_below : (file : Name) → is_below (loader_folder_path loader) (entry_path loader file) ≡ true
  entry_below file =
      subst (λ q. is_below (loader_folder_path loader) q ≡ true) (sym (entry_under file))
      (is_below-under (loader_folder_path loader) (entries_path loader) file (is_below-under (loader_folder_path loader) (loader_folder_path loader) (codes "entries") (is_below-self (loader_folder_path loader))))

  off_top : (file : Name) → loader_folder_path loader ≢ entry_path loader file
  off_top file e = let n : length (entry_path loader file) ≡ length (loader_folder_path loader) + 2 = length-append (loader_folder_path loader) (codes "entries" ∷ file ∷ []) in omega (arith, n, ap length e)

  off_inner : (file : Name) → entries_path loader ≢ entry_path loader file
  off_inner file e = under-not_folder (entries_path loader) file (sym (e ∙ entry_under file))

  abbrev one : NewNode
  one = record { at = loader_folder_path loader; what = Folder }

  abbrev two : NewNode
  two = record { at = entries_path loader; what = Folder }

  top_found : content_at (one ∷ []) (loader_folder_path loader) ≡ Some Folder
  top_found = first_here one []

  top_off : loader_folder_path loader ≢ entries_path loader
  top_off e = under-not_folder (loader_folder_path loader) (codes "entries") (sym e)

  grown_folders : Grown (loader_folder_path loader) (entry_folders loader)
  grown_folders = grown_push (loader_folder_path loader) (one ∷ []) two
      (grown_push (loader_folder_path loader) [] one (grown_none (loader_folder_path loader)) (record { below = is_below-self (loader_folder_path loader); parent = inl refl; free = inl refl; target = tt }))
      (record {
        below = is_below-under (loader_folder_path loader) (loader_folder_path loader) (codes "entries") (is_below-self (loader_folder_path loader));
        parent = inr (loader_folder_path loader, codes "entries", refl, top_found);
        free = inl (first_apart one [] (entries_path loader) top_off);
        target = tt;
      })

  none_there : (file : Name) → content_at (entry_folders loader) (entry_path loader file) ≡ None
  none_there file = first_apart one (two ∷ []) (entry_path loader file) (off_top file) ∙ first_apart two [] (entry_path loader file) (off_inner file)

  pub begins : SoFar loader items 0 (entry_folders loader)
  begins = record {
    grown = grown_folders;
    inner = first_apart one (two ∷ []) (entries_path loader) top_off ∙ first_here two [];
    each = λ i item less at. absurd (omega (arith, less));
    only = λ file c has. let no : None ≡ Some c = sym (none_there file) ∙ has in cc;
  }

  module _ (few : length items ≤ 8) (k : ℕ) (item : BootItem) (at : IsAt items k item) (nodes : List NewNode) (so : SoFar loader items k nodes) where
    not_yet : content_at nodes (entry_path loader (entry_name (length items - k))) ≡ None
    not_yet = by (none_or_some (content_at nodes (entry_path loader (entry_name (length items - k)))))
      where
        by : (content_at nodes (entry_path loader (entry_name (length items - k))) ≡ None) ⊎ ((x : Content) × (content_at nodes (entry_path loader (entry_name (length items - k))) ≡ Some x)) → content_at nodes (entry_path loader (entry_name (length items - k))) ≡ None
        by (inl none) = none
        by (inr (x, has)) =
            let o = so.only (entry_name (length items - k)) x has in
            let same : length items - k ≡ length items - o.0 = entry_name-injective (length items - k) (length items - o.0) (omega (arith, few)) (omega (arith, few)) o.4 in
            absurd (omega (arith, same, o.2, at.0))

    follows : MayFollow (loader_folder_path loader) nodes (entry_node loader items k item)
    follows = record {
      below = entry_below (entry_name (length items - k));
      parent = inr (entries_path loader, entry_name (length items - k), entry_under (entry_name (length items - k)), so.inner);
      free = inl not_yet;
      target = tt;
    }

    same_item : (a : BootItem) → IsAt items k a → a ≡ item
    same_item a here = sym here.1 ∙ get_or_default items k a item at.0 ∙ at.1

    pub goes_on : SoFar loader items (k + 1) (nodes ++ entry_node loader items k item ∷ [])
    goes_on = record {
      grown = grown_push (loader_folder_path loader) nodes (entry_node loader items k item) so.grown follows;
      inner = push_found nodes (entry_node loader items k item) (entries_path loader) Folder so.inner;
      each = λ i a less here. each i a here (⊎_elim (λ q. inl q.1) (λ q. inr q.1) (leb_tells k i)) less;
      only = λ file c has. only file c (push_cases nodes (entry_node loader items k item) (entry_path loader file) c has);
    }
      where
        here_at : (i : ℕ) (a : BootItem) → i ≡ k → IsAt items i a → content_at (nodes ++ entry_node loader items k item ∷ []) (entry_path loader (entry_name (length items - i))) ≡ Some (File (entry_text loader items i a))
        here_at i a is here =
            let same = same_item a (subst (λ j. IsAt items j a) is here) in
            subst (λ j. content_at (nodes ++ entry_node loader items k item ∷ []) (entry_path loader (entry_name (length items - j))) ≡ Some (File (entry_text loader items j a))) (sym is)
            (subst (λ (b : BootItem). content_at (nodes ++ entry_node loader items k item ∷ []) (entry_path loader (entry_name (length items - k))) ≡ Some (File (entry_text loader items k b))) (sym same)
            (push_here nodes (entry_node loader items k item) not_yet))

        each : (i : ℕ) (a : BootItem) → IsAt items i a → (k ≤ i) ⊎ (i < k) → i < k + 1 → content_at (nodes ++ entry_node loader items k item ∷ []) (entry_path loader (entry_name (length items - i))) ≡ Some (File (entry_text loader items i a))
        each i a here (inl more) less = here_at i a (omega (arith, more, less)) here
        each i a here (inr before) less = push_found nodes (entry_node loader items k item) (entry_path loader (entry_name (length items - i))) (File (entry_text loader items i a)) (so.each i a before here)

        only : (file : Name) (c : Content) → (content_at nodes (entry_path loader file) ≡ Some c) ⊎ ((entry_path loader (entry_name (length items - k)) ≡ entry_path loader file) × (File (entry_text loader items k item) ≡ c) × (content_at nodes (entry_path loader file) ≡ None))
            → (i : ℕ) × (a : BootItem) × (i < k + 1) × IsAt items i a × (file ≡ entry_name (length items - i)) × (c ≡ File (entry_text loader items i a))
        only file c (inl was) = let o = so.only file c was in (o.0, o.1, omega (arith, o.2), o.3, o.4, o.5)
        only file c (inr (same, what, none)) =
            let names : codes "entries" ∷ entry_name (length items - k) ∷ [] ≡ codes "entries" ∷ file ∷ [] = append_cancel_left (loader_folder_path loader) (codes "entries" ∷ entry_name (length items - k) ∷ []) (codes "entries" ∷ file ∷ []) same in
            let name : entry_name (length items - k) ≡ file = cc in
            (k, item, omega arith, at, sym name, sym what)

  pub are_entries : (nodes : List NewNode) → SoFar loader items (length items) nodes → AreEntries loader items nodes
  are_entries nodes so = record {
    each = λ i item at. so.each i item at.0 at;
    only = λ file c has. let o = so.only file c has in (o.0, o.1, o.3, o.4, o.5);
  }

  pub is_plan : (nodes : List NewNode) (k : ℕ) → SoFar loader items k nodes → IsPlan (loader_folder_path loader) nodes
  is_plan nodes k so = plan_of (loader_folder_path loader) nodes (root_not loader) (λ e. let no : None ≡ Some Folder = sym (ap (λ m. content_at m (entries_path loader)) e) ∙ so.inner in cc) so.grown

-- where they lie
module _ (version : Version) (items : List BootItem) where
  abbrev folders : List Path
  folders = loader_folder_path (number version) ∷ entries_path (number version) ∷ []

  pub laid_begins : AreLaid folders (entry_folders (number version))
  laid_begins = laid_push folders (one (number version) items ∷ []) (two (number version) items)
      (laid_push folders [] (one (number version) items) (laid_none folders) (loader_folder_bounds version) (λ among. refl))
      (entries_bounds version) (λ among. refl)

  pub laid_goes_on : length items ≤ 8 → (k : ℕ) (item : BootItem) (nodes : List NewNode) → AreLaid folders nodes → AreLaid folders (nodes ++ entry_node (number version) items k item ∷ [])
  laid_goes_on few k item nodes laid =
      let file = entry_name (length items - k) in
      laid_push folders nodes (entry_node (number version) items k item) laid
      (subst IsPath (sym (entry_under (number version) items file)) (entries_child version file (entry_name-name (length items - k) (omega (arith, few)))))
      (λ among. absurd (none_of_two (loader_folder_path (number version)) (entries_path (number version)) (entry_path (number version) file) (off_top (number version) items file) (off_inner (number version) items file) among))
