-- How many objects were given, and what is left at the end.
use Rattle.std.proofs.Common.{◌≡◌, inl, inr, ℕ, ◌<◌, ◌≤◌, ◌+◌, ◌-◌, true, false, List, [], ◌∷◌, ◌++◌, length, take, drop, map, reverse, Option, Some, None, refl, sym, ◌∙◌, ap, ⊎_elim, arith}
use Rattle.std.specs.Prelude.{not, slice_get}
use Rattle.std.specs.Global.{Vec}
use Rattle.ost_types.specs.declared.limits.Limits.{Limits}
use Rattle.std.specs.declared.cmp.Ordering.TheVariants.{Less}
use Rattle.std.proofs.lemmas.List.{take-append-drop, length-append, reverse-reverse, length-take-le, drop_all}
use Rattle.std.proofs.lemmas.List.Elements.{All-same, All-nil}
use Rattle.ost_types.specs.Path.{Path, path_cmp, is_in, under}
use Rattle.ost_types.proofs.Paths.{is_in-under}
use Rattle.ost_forms.specs.declared.tree_item.BodySpec.{BodySpec}
use Rattle.ost_forms.specs.declared.tree_item.TreeItem.{TreeItem}
use Rattle.tree_build.specs.declared.progress.Done.{Done}
use Rattle.tree_build.specs.declared.progress.Progress.{Progress}
use Rattle.tree_build.specs.declared.sums.Sums.TheVariants.{Folder}
use Rattle.tree_build.specs.Items.{AreItems, IsTree}
use Rattle.tree_build.specs.Objects.{Made, work, root_of}
use Rattle.tree_build.specs.Building.{Building, IsAt, IsProgress, pending, left_by, seen, all_seen}
use Rattle.tree_build.proofs.Lists.{all_right, all_more, filter_none}
use Rattle.tree_build.proofs.Orders.{not_less_same, none_before_root}
use Rattle.tree_build.proofs.Suffixes.{Rises, FolderAt, IsPlaced, rises_from, has_folder_at, beyond_folder, all_placed}
use Rattle.tree_build.proofs.Pendings.{AllMade, IsFree, all_pending, pending_free}
use Rattle.tree_build.proofs.Counts.{none_left}
use Rattle.tree_build.proofs.Works.{work_front, work_file, work_folder, split_by, pending_folder}

behind_within : (front items : List TreeItem) → length (work items) ≤ length (work (front ++ items))
behind_within front items = let w = work_front front items in omega (arith, ap length w.1, length-append (work items) w.0)

within_by : (items : List TreeItem) (p : Progress) (o : Option (List ℕ)) → IsAt items p o → p.done ≤ length (work items)
within_by items p None h = omega (arith, h.done, behind_within (take p.at items) (drop p.at items), ap (λ l. length (work l)) (take-append-drop p.at items))
within_by items p (Some tree) h =
    omega (arith, h.done, work_folder h.folder h.behind h.body, behind_within (take (p.at - 1) items) (h.folder ∷ h.behind), ap (λ l. length (work l)) (split_by items (p.at - 1) h.folder h.behind h.is))

pub done_within : (items : List TreeItem) (p : Progress) → IsProgress items p → p.done ≤ length (work items)
done_within items p h = within_by items p p.half h.here

-- ---- the end

work_grows : (i : TreeItem) (items : List TreeItem) → length (work items) < length (work (i ∷ items))
work_grows i items = go i.body refl
  where
    go : (b : Option BodySpec) → i.body ≡ b → length (work items) < length (work (i ∷ items))
    go None e = omega (arith, work_folder i items e)
    go (Some body) e = omega (arith, work_file i items body e)

fronts_grow : (front items : List TreeItem) → length (work items) + length front ≤ length (work (front ++ items))
fronts_grow [] items = omega arith
fronts_grow (j ∷ front) items = omega (arith, fronts_grow front items, work_grows j (front ++ items))

all_done : (items : List TreeItem) (p : Progress) → IsProgress items p → p.done ≡ length (work items) → (o : Option (List ℕ)) → IsAt items p o → all_seen items p.made.items ≡ pending items
all_done items p h full None b =
    let e : take p.at items ++ drop p.at items ≡ items = take-append-drop p.at items in
    let zero_at : p.at ≡ 0 = omega (arith, full, b.done, fronts_grow (take p.at items) (drop p.at items), ap (λ l. length (work l)) e, length-take-le p.at items h.inside) in
    b.stack ∙ ap (λ n. pending (drop n items)) zero_at
all_done items p h full (Some tree) b =
    absurd (omega (arith, full, b.done, work_folder b.folder b.behind b.body, behind_within (take (p.at - 1) items) (b.folder ∷ b.behind), ap (λ l. length (work l)) (split_by items (p.at - 1) b.folder b.behind b.is)))

in_root : (i : TreeItem) (items : List TreeItem) (q : Path) → i.path ≡ [] → IsPlaced (i ∷ items) q → IsFree items q → path_cmp i.path q ≡ Less → is_in i.path q ≡ true
in_root i items q root (inl e) free less = absurd (not_less_same i.path q (root ∙ sym e) less)
in_root i items q root (inr w) free less =
    ⊎_elim
    (λ (h : (i.path ≡ w.0) × (i.body ≡ None)). ap (is_in i.path) w.2 ∙ ap (λ g. is_in i.path (under g w.1)) (sym h.0) ∙ is_in-under i.path w.1)
    (λ f. absurd (free w.0 w.1 w.2 f))
    w.3

all_in_root : (i : TreeItem) (items : List TreeItem) (ms : List Made) → i.path ≡ [] → AllMade (IsPlaced (i ∷ items)) ms → AllMade (IsFree items) ms → AllMade (λ q. path_cmp i.path q ≡ Less) ms → AllMade (λ q. is_in i.path q ≡ true) ms
all_in_root i items [] root p f l = tt
all_in_root i items (m ∷ ms) root p f l = (in_root i items m.path root p.0 f.0 l.0, all_in_root i items ms root p.1 f.1 l.1)

pub root_first : (i : TreeItem) (items : List TreeItem) → Rises (i ∷ items) → FolderAt (i ∷ items) [] → (i.path ≡ []) × (i.body ≡ None)
root_first i items r (inl e) = e
root_first i items r (inr f) = absurd (none_before_root i.path (beyond_folder i.path [] items r.0 f))

pending_whole : (items : List TreeItem) → AreItems items → IsTree items → (p : Path) × (pending items ≡ record { path = p; sums = Folder (root_of items).0 (root_of items).1 } ∷ [])
pending_whole [] ordered tree = absurd (has_folder_at [] [] tree.root)
pending_whole (i ∷ items) ordered tree =
    let r = rises_from (i ∷ items) ordered.ascending in
    let root = root_first i items r (has_folder_at (i ∷ items) [] tree.root) in
    let all = all_in_root i items (pending items) root.0
    (all_pending (IsPlaced (i ∷ items)) items (all_right (λ (j : TreeItem). IsPlaced (i ∷ items) j.path) (i ∷ []) items (all_placed (i ∷ items) tree)))
    (pending_free items r.1) (all_pending (λ q. path_cmp i.path q ≡ Less) items r.0)
    in (
      i.path,
      pending_folder i items root.1
          ∙ ap (λ ms. record { path = i.path; sums = Folder (root_of (i ∷ items)).0 (root_of (i ∷ items)).1 } ∷ ms)
          (ap (λ b. left_by i.path b (pending items)) root.1 ∙ filter_none (λ (m : Made). not (is_in i.path m.path)) (pending items) (all_more (λ (m : Made). is_in i.path m.path ≡ true) (λ (m : Made). not (is_in i.path m.path) ≡ false) (λ m e. ap not e) (pending items) all)),
    )

one_done : (items : List TreeItem) (ds : List Done) (m : Made) → map (seen items) ds ≡ m ∷ [] → (d : Done) × (ds ≡ d ∷ []) × (d.sums ≡ m.sums)
one_done items [] m e = absurd cc
one_done items (d ∷ []) m e = let s : seen items d ≡ m = cc in (d, refl, ap (λ (m : Made). m.sums) s)
one_done items (d ∷ c ∷ ds) m e = absurd cc

-- all that is left is the root
pub root_alone : (items : List TreeItem) (p : Progress) → AreItems items → IsTree items → IsProgress items p → p.done ≡ length (work items) → (d : Done) × (p.made.items ≡ d ∷ []) × (d.sums ≡ Folder (root_of items).0 (root_of items).1)
root_alone items p ordered tree h full =
    let w = pending_whole items ordered tree in
    let e = all_done items p h full p.half h.here ∙ w.1 in
    one_done items p.made.items (record { path = w.0; sums = Folder (root_of items).0 (root_of items).1 }) (sym (reverse-reverse (map (seen items) p.made.items)) ∙ ap reverse e)

only_last : (ds es : List Done) (d : Done) (r : Option Done) → es ≡ ds → ds ≡ d ∷ [] → r ≡ slice_get es (length es - 1) → r ≡ Some d
only_last ds es d r same is read = read ∙ ap (λ l. slice_get l (length l - 1)) (same ∙ is)

-- what stands last is the root
pub root_last : (items : List TreeItem) (p : Progress) → AreItems items → IsTree items → IsProgress items p → p.done ≡ length (work items) → (es : List Done) (r : Option Done) → es ≡ p.made.items → r ≡ slice_get es (length es - 1)
    → (d : Done) × (r ≡ Some d) × (d.sums ≡ Folder (root_of items).0 (root_of items).1)
root_last items p ordered tree h full es r same read =
    let w = root_alone items p ordered tree h full in
    (w.0, only_last p.made.items es w.0 r same w.1 read, w.2)

pub full_by : (b : Building) (items : List TreeItem) (limits : Limits) (done : ℕ) → record { items = items; limits = limits; done = done } ≡ b → b.done ≡ length (work b.items) → done ≡ length (work items)
full_by b items limits done is e = ap (λ (b : Building). b.done) is ∙ e ∙ ap (λ (b : Building). length (work b.items)) (sym is)

-- at the start nothing is made
pub start_progress : (items : List TreeItem) (n : ℕ) (v : Vec Done) → n ≡ length items → v.items ≡ [] → IsProgress items (record { at = n; made = v; half = None; done = 0 })
unfolding pending
start_progress items n v all none =
    let over : drop n items ≡ [] = drop_all n items (omega (arith, all)) in
    record {
      inside = omega (arith, all);
      places = All-same (λ (d : Done). d.at < length items) v.items [] none (All-nil (λ (d : Done). d.at < length items));
      here = record { stack = ap (all_seen items) none ∙ sym (ap pending over); done = none_left items n (omega (arith, all)) };
    }
