-- The entries of a folder are what stands behind the cut.
use Rattle.std.proofs.Common.{◌≡◌, ℕ, zero, suc, ◌<◌, ◌≤◌, ◌+◌, ◌-◌, Bool, true, false, List, [], ◌∷◌, ◌++◌, length, get_or, take, drop, Some, None, refl, sym, ◌∙◌, ap, subst, arith}
use Rattle.std.specs.Prelude.{not, map, slice_index}
use Rattle.std.specs.Global.{Vec}
use Rattle.std.specs.List.{AllByRecursion}
use Rattle.std.specs.declared.cmp.Ordering.TheVariants.{Less}
use Rattle.std.proofs.lemmas.List.{take-append-drop, append-nil, take_more, take_rest, get_or_default}
use Rattle.std.proofs.lemmas.List.Elements.{All-take, All-same, recursion_from_All, filter-append, filter_map-append}
use Rattle.ost_types.specs.Path.{Path, path_cmp, is_in}
use Rattle.ost_forms.specs.declared.tree_item.TreeItem.{TreeItem}
use Rattle.ost_forms.specs.DirTree.{IsAscending, tree_form}
use Rattle.ost_objects.specs.declared.checked.Checked.{Checked}
use Rattle.tree_build.specs.declared.progress.Done.{Done}
use Rattle.tree_build.specs.declared.progress.Progress.{Progress}
use Rattle.tree_build.specs.Items.{AreItems, IsTree}
use Rattle.tree_build.specs.Objects.{Object, Made, child_in, made, work, children, entries_of, tree_bytes, meta_bytes, tree_object, meta_object}
use Rattle.tree_build.specs.Objects as objects
use Rattle.tree_build.specs.Makeable.{AreSmall, IsSmall}
use Rattle.tree_build.specs.Building.{IsNumber, object_of, pending, outside, left_by, path_at, seen, all_seen, IsCut, last_place, IsProgress, Advances}
use Rattle.tree_build.proofs.Lists.{all_joined, all_right, all_more, filter_all, filter_none, maps_none}
use Rattle.tree_build.proofs.Names.{name_in-outside}
use Rattle.tree_build.proofs.Suffixes.{Rises, Beyond, IsPlaced, rises_from, rises_right, all_placed}
use Rattle.tree_build.proofs.Pendings.{AllMade, MadeRises, IsFree, all_pending, pending_rises, pending_free, children_same, none_behind}
use Rattle.tree_build.proofs.Children.{names_of, children_ascend, some_ascend}
use Rattle.tree_build.proofs.Works.{number_first, objects_folder, seen_more, seen_parts}
use Rattle.tree_build.proofs.Steps.{between_of, split_before, drop_before, number_from, small_folder}
use Rattle.tree_build.proofs.Cuts.{place}

rises_behind : (ms ns : List Made) → MadeRises (ms ++ ns) → MadeRises ns
rises_behind [] ns r = r
rises_behind (m ∷ ms) ns r = rises_behind ms ns r.1

inside_not : (b : Bool) → b ≡ true → not b ≡ false
inside_not b e = ap not e

outside_not : (b : Bool) → b ≡ false → not b ≡ true
outside_not b e = ap not e

all_seen_by : (items : List TreeItem) (Q : Path → Type 0) (ds : List Done) → AllByRecursion (λ d. Q (path_at items d.at)) ds → AllMade Q (all_seen items ds)
all_seen_by items Q [] h = tt
all_seen_by items Q (d ∷ ds) h = subst (AllMade Q) (sym (seen_parts items (d ∷ []) ds)) (all_joined (λ (m : Made). Q m.path) (all_seen items ds) (seen items d ∷ []) (all_seen_by items Q ds h.1) (h.0, tt))

-- some element, where there is one
seed : (ds : List Done) (k : ℕ) → k < length ds → Done
seed [] k l = absurd (omega (arith, l))
seed (d ∷ ds) k l = d

module _ (items : List TreeItem) (ordered : AreItems items) (tree : IsTree items) (p : Progress) (h : IsProgress items p) (none : p.half ≡ None) (some : 0 < p.at)
    (i : TreeItem) (is : i ≡ get_or items (p.at - 1) i) (folder : i.body ≡ None) (start : ℕ) (cut : IsCut items i.path p.made.items start) where
  abbrev pub front : List TreeItem
  front = take (p.at - 1) items

  abbrev pub rest : List TreeItem
  rest = drop p.at items

  whole : items ≡ front ++ i ∷ rest
  whole = split_before items p.at i some h.inside is

  rises : Rises (front ++ i ∷ rest)
  rises = subst Rises whole (rises_from items ordered.ascending)

  beyond : Beyond i.path rest
  beyond = (rises_right front (i ∷ rest) rises).0

  rest_rises : Rises rest
  rest_rises = (rises_right front (i ∷ rest) rises).1

  abbrev pub kids : List Made
  kids = all_seen items (drop start p.made.items)

  abbrev pub others : List Made
  others = all_seen items (take start p.made.items)

  parts : pending rest ≡ kids ++ others
  parts = sym (between_of items p none h).stack ∙ ap (all_seen items) (sym (take-append-drop start p.made.items)) ∙ seen_parts items (take start p.made.items) (drop start p.made.items)

  kids_in : AllMade (λ q. is_in i.path q ≡ true) kids
  kids_in = all_seen_by items (λ q. is_in i.path q ≡ true) (drop start p.made.items) (recursion_from_All (λ (d : Done). is_in i.path (path_at items d.at) ≡ true) (drop start p.made.items) cut.inside)

  others_have : (Q : Path → Type 0) → AllMade Q (pending rest) → AllMade Q others
  others_have Q all = all_right (λ (m : Made). Q m.path) kids others (subst (AllMade Q) parts all)

  placed : AllMade (IsPlaced (front ++ i ∷ rest)) others
  placed = others_have (IsPlaced (front ++ i ∷ rest)) (all_pending (IsPlaced (front ++ i ∷ rest)) rest (all_right (λ (j : TreeItem). IsPlaced (front ++ i ∷ rest) j.path) (i ∷ []) rest
      (all_right (λ (j : TreeItem). IsPlaced (front ++ i ∷ rest) j.path) front (i ∷ rest) (subst (λ js. AllByRecursion (λ (j : TreeItem). IsPlaced js j.path) js) whole (all_placed items tree)))))

  free : AllMade (IsFree rest) others
  free = others_have (IsFree rest) (pending_free rest rest_rises)

  after : AllMade (λ q. path_cmp i.path q ≡ Less) others
  after = others_have (λ q. path_cmp i.path q ≡ Less) (all_pending (λ q. path_cmp i.path q ≡ Less) rest beyond)

  others_rise : MadeRises others
  others_rise = rises_behind kids others (subst MadeRises parts (pending_rises rest rest_rises))

  out_by : (o : Made) (os : List Made) → is_in i.path o.path ≡ false → IsPlaced (front ++ i ∷ rest) o.path → IsFree rest o.path → path_cmp i.path o.path ≡ Less → AllMade (λ q. path_cmp o.path q ≡ Less) os → AllMade (λ q. is_in i.path q ≡ false) (o ∷ os)
  out_by o os out pl fr af less = (out, all_more (λ (m : Made). path_cmp o.path m.path ≡ Less) (λ (m : Made). is_in i.path m.path ≡ false) (λ m l. none_behind front i rest rises o.path m.path pl fr af out l) os less)

  out_all : (os : List Made) → ((o : Made) (more : List Made) → os ≡ o ∷ more → is_in i.path o.path ≡ false) → AllMade (IsPlaced (front ++ i ∷ rest)) os → AllMade (IsFree rest) os → AllMade (λ q. path_cmp i.path q ≡ Less) os → MadeRises os
      → AllMade (λ q. is_in i.path q ≡ false) os
  out_all [] first pl fr af r = tt
  out_all (o ∷ os) first pl fr af r = out_by o os (first o os refl) pl.0 fr.0 af.0 r.0

  first_of : (k : ℕ) → start ≡ k → (o : Made) (more : List Made) → others ≡ o ∷ more → is_in i.path o.path ≡ false
  first_of zero e o more found =
      let n : [] ≡ o ∷ more = sym (ap (λ k. all_seen items (take k p.made.items)) e) ∙ found in
      absurd cc
  first_of (suc k) e o more found =
      let inside : k < length p.made.items = omega (arith, cut.within, e) in
      let z : Done = seed p.made.items k inside in
      let d : Done = get_or p.made.items k z in
      let at_d : d ≡ get_or p.made.items k d = get_or_default p.made.items k z d inside in
      let grown : take start p.made.items ≡ take k p.made.items ++ d ∷ [] = ap (λ n. take n p.made.items) (omega (arith, e)) ∙ take_more p.made.items k z inside in
      let shown : seen items d ∷ all_seen items (take k p.made.items) ≡ o ∷ more = sym (ap (all_seen items) grown ∙ seen_more items (take k p.made.items) d) ∙ found in
      let first : seen items d ≡ o = cc in
      let last : last_place p.made.items start ≡ d.at = ap (λ n. last_place p.made.items n) e ∙ ap (slice_index (map (λ (d : Done). d.at) p.made.items)) (omega arith) ∙ place d p.made.items k inside at_d in
      ap (λ (m : Made). is_in i.path m.path) (sym first) ∙ ap (λ n. is_in i.path (path_at items n)) (sym last) ∙ cut.last (omega (arith, e))

  others_out : AllMade (λ q. is_in i.path q ≡ false) others
  others_out = out_all others (first_of start refl) placed free after others_rise

  pub others_left : others ≡ left_by i.path i.body (pending rest)
  others_left =
      sym (
      ap (λ b. left_by i.path b (pending rest)) folder
      ∙ ap (outside i.path) parts
      ∙ filter-append (λ (m : Made). not (is_in i.path m.path)) kids others
      ∙ ap (λ ms. ms ++ outside i.path others) (filter_none (λ (m : Made). not (is_in i.path m.path)) kids (all_more (λ (m : Made). is_in i.path m.path ≡ true) (λ (m : Made). not (is_in i.path m.path) ≡ false) (λ m e. inside_not _ e) kids kids_in))
      ∙ filter_all (λ (m : Made). not (is_in i.path m.path)) others (all_more (λ (m : Made). is_in i.path m.path ≡ false) (λ (m : Made). not (is_in i.path m.path) ≡ true) (λ m e. outside_not _ e) others others_out)
      )

  none_child : (m : Made) → is_in i.path m.path ≡ false → child_in i.path m ≡ None
  none_child m e = ap (objects.child_by m) (name_in-outside i.path m.path e)

  pub kids_all : children i.path kids ≡ children i.path (made rest)
  kids_all =
      sym (
      children_same i.path rest beyond
      ∙ ap (children i.path) parts
      ∙ filter_map-append (child_in i.path) kids others
      ∙ ap (λ cs. children i.path kids ++ cs) (maps_none (child_in i.path) others (all_more (λ (m : Made). is_in i.path m.path ≡ false) (λ (m : Made). child_in i.path m ≡ None) none_child others others_out))
      ∙ append-nil (children i.path kids)
      )

  pub kids_ascend : IsAscending (names_of (children i.path kids))
  kids_ascend = some_ascend i.path kids others (children_ascend i.path (kids ++ others) (subst MadeRises parts (pending_rises rest rest_rises)))

  pub kids_small : (content : ℕ) → AreSmall content items → IsSmall (tree_form (entries_of (children i.path kids)))
  kids_small content small = subst (λ cs. IsSmall (tree_form (entries_of cs))) (sym kids_all) (small_folder items content p.at i some h.inside is folder small).0

  kids_object : tree_object (objects.bytes_of (tree_form (entries_of (children i.path kids)))) ≡ tree_object (tree_bytes (made rest) i.path)
  kids_object = ap (λ cs. tree_object (objects.bytes_of (tree_form (entries_of cs)))) kids_all

  pub entries_number : IsNumber (work items) p.done (tree_object (tree_bytes (made rest) i.path))
  entries_number =
      number_from _ items p.done _ _ whole (between_of items p none h).done
      (number_first front i rest (tree_object (tree_bytes (made rest) i.path)) (meta_object (meta_bytes i.meta) ∷ []) (objects_folder (made rest) i folder))

  pub entries_advance : (content : ℕ) (v : Vec Done) (c : Checked) (sum : List ℕ) → v.items ≡ take start p.made.items → object_of c ≡ tree_object (objects.bytes_of (tree_form (entries_of (children i.path kids)))) → c.limit ≡ content → sum ≡ c.name.csum
      → Advances items content p (record { at = p.at; made = v; half = Some sum; done = p.done + 1 }) c
  entries_advance content v c sum cut_off object limit named = record {
    number = subst (IsNumber (work items) p.done) (sym (object ∙ kids_object)) entries_number;
    limit = limit;
    progress = record {
      inside = h.inside;
      places = All-same (λ (d : Done). d.at < length items) v.items _ cut_off (All-take (λ (d : Done). d.at < length items) start p.made.items h.places);
      here = record {
        folder = i;
        behind = rest;
        is = drop_before items p.at i some h.inside is;
        some = some;
        body = folder;
        sum = named ∙ ap (λ (o : Object). o.name.csum) (object ∙ kids_object);
        stack = ap (all_seen items) cut_off ∙ others_left;
        done = ap (λ n. n + 1) (between_of items p none h).done;
      };
    };
    done = refl;
  }

pub item_now : (items : List TreeItem) (n : ℕ) (d : TreeItem) → 0 < n → n ≤ length items → get_or items (n - 1) d ≡ get_or items (n - 1) (get_or items (n - 1) d)
item_now items n d some inside = get_or_default items (n - 1) d (get_or items (n - 1) d) (omega (arith, some, inside))

pub cut_of : (items : List TreeItem) (f : Path) (ds es : List Done) (start : ℕ) → ds ≡ es → IsCut items f ds start → IsCut items f es start
cut_of items f ds es start e cut = subst (λ l. IsCut items f l start) e cut

-- the part from the start on, as a range of the slice
pub rest_of : (ds es : List Done) (start : ℕ) → ds ≡ es → take (length ds - start) (drop start ds) ≡ drop start es
rest_of ds es start e = take_rest ds start ∙ ap (drop start) e
