-- One object more.
use Rattle.std.proofs.Common.{◌≡◌, ℕ, ◌<◌, ◌≤◌, ◌+◌, ◌-◌, List, [], ◌∷◌, ◌++◌, length, get_or, take, drop, Option, Some, None, refl, sym, ◌∙◌, ap, subst, arith}
use Rattle.std.specs.Global.{Vec}
use Rattle.std.proofs.lemmas.List.Elements.{All-push, All-same}
use Rattle.sha2.specs.Sha256.{sha256}
use Rattle.ost_types.specs.Path.{Path}
use Rattle.ost_forms.specs.declared.tree_item.BodySpec.{BodySpec}
use Rattle.ost_forms.specs.declared.tree_item.TreeItem.{TreeItem}
use Rattle.ost_forms.specs.DirMeta.{dirmeta_form}
use Rattle.ost_objects.specs.declared.checked.Checked.{Checked}
use Rattle.tree_build.specs.declared.progress.Done.{Done}
use Rattle.tree_build.specs.declared.progress.Progress.{Progress}
use Rattle.tree_build.specs.declared.sums.Sums.TheVariants.{File, Folder}
use Rattle.tree_build.specs.Objects.{Object, made, work, file_bytes, meta_bytes, tree_bytes, file_object, tree_object, meta_object}
use Rattle.tree_build.specs.Makeable.{AreSmall, IsSmall, IsSmallBy}
use Rattle.tree_build.specs.Building.{IsNumber, object_of, pending, left_by, seen, all_seen, IsBetween, IsHalf, IsAt, IsProgress, Advances}
use Rattle.tree_build.proofs.Smalls.{small_at}
use Rattle.tree_build.proofs.Works.{number_first, number_second, objects_file, objects_folder, work_file, work_folder, seen_more, path_at_is, drop_at, split_by, read_by, pending_file, pending_folder}

at_same : (items : List TreeItem) (p : Progress) (v : Vec Done) → v.items ≡ p.made.items → (o : Option (List ℕ)) → IsAt items p o → IsAt items (record { at = p.at; made = v; half = p.half; done = p.done }) o
at_same items p v e None h = record { stack = ap (all_seen items) e ∙ h.stack; done = h.done }
at_same items p v e (Some tree) h = record { folder = h.folder; behind = h.behind; is = h.is; some = h.some; body = h.body; sum = h.sum; stack = ap (all_seen items) e ∙ h.stack; done = h.done }

-- only the places count
pub progress_same : (items : List TreeItem) (p : Progress) (v : Vec Done) → v.items ≡ p.made.items → IsProgress items p → IsProgress items (record { at = p.at; made = v; half = p.half; done = p.done })
progress_same items p v e h = record { inside = h.inside; places = All-same (λ (d : Done). d.at < length items) v.items p.made.items e h.places; here = at_same items p v e p.half h.here }

pub between_of : (items : List TreeItem) (p : Progress) → p.half ≡ None → IsProgress items p → IsBetween items p
between_of items p none h = subst (IsAt items p) none h.here

pub half_of : (items : List TreeItem) (p : Progress) (tree : List ℕ) → p.half ≡ Some tree → IsProgress items p → IsHalf items p tree
half_of items p tree some h = subst (IsAt items p) some h.here

-- the item before the place, with those behind it
pub drop_before : (items : List TreeItem) (n : ℕ) (i : TreeItem) → 0 < n → n ≤ length items → i ≡ get_or items (n - 1) i → drop (n - 1) items ≡ i ∷ drop n items
drop_before items n i some inside is = drop_at items (n - 1) i (omega (arith, some, inside)) is ∙ ap (λ k. i ∷ drop k items) (omega (arith, some))

pub split_before : (items : List TreeItem) (n : ℕ) (i : TreeItem) → 0 < n → n ≤ length items → i ≡ get_or items (n - 1) i → items ≡ take (n - 1) items ++ i ∷ drop n items
split_before items n i some inside is = split_by items (n - 1) i (drop n items) (drop_before items n i some inside is)

pub small_before : (items : List TreeItem) (content n : ℕ) (i : TreeItem) → 0 < n → n ≤ length items → i ≡ get_or items (n - 1) i → AreSmall content items → IsSmallBy content (made (drop n items)) i.path i.meta i.body
small_before items content n i some inside is small = small_at content (take (n - 1) items) i (drop n items) (subst (AreSmall content) (split_before items n i some inside is) small)

pub small_file : (items : List TreeItem) (content n : ℕ) (i : TreeItem) (body : BodySpec) → 0 < n → n ≤ length items → i ≡ get_or items (n - 1) i → i.body ≡ Some body → AreSmall content items → IsSmallBy content (made (drop n items)) i.path i.meta (Some body)
small_file items content n i body some inside is b small = subst (IsSmallBy content (made (drop n items)) i.path i.meta) b (small_before items content n i some inside is small)

pub small_folder : (items : List TreeItem) (content n : ℕ) (i : TreeItem) → 0 < n → n ≤ length items → i ≡ get_or items (n - 1) i → i.body ≡ None → AreSmall content items → IsSmallBy content (made (drop n items)) i.path i.meta None
small_folder items content n i some inside is b small = subst (IsSmallBy content (made (drop n items)) i.path i.meta) b (small_before items content n i some inside is small)

pub number_from : (items whole : List TreeItem) (n m : ℕ) (o : Object) → whole ≡ items → n ≡ m → IsNumber (work items) m o → IsNumber (work whole) n o
number_from items whole n m o e f h = subst (λ k. IsNumber (work whole) k o) (sym f) (subst (λ l. IsNumber (work l) m o) (sym e) h)

-- ---- a file

pub file_number : (items : List TreeItem) (p : Progress) (i : TreeItem) (body : BodySpec) → IsProgress items p → p.half ≡ None → 0 < p.at → i ≡ get_or items (p.at - 1) i → i.body ≡ Some body
    → IsNumber (work items) p.done (file_object (file_bytes i.meta body))
file_number items p i body h none some is b =
    number_from _ items p.done _ _ (split_before items p.at i some h.inside is) (between_of items p none h).done
    (number_first (take (p.at - 1) items) i (drop p.at items) (file_object (file_bytes i.meta body)) [] (objects_file (made (drop p.at items)) i body b))

file_stack : (items : List TreeItem) (p : Progress) (i : TreeItem) (body : BodySpec) (sum : List ℕ) (ds : List Done) → IsProgress items p → p.half ≡ None → 0 < p.at → i ≡ get_or items (p.at - 1) i → i.body ≡ Some body
    → ds ≡ p.made.items ++ record { at = p.at - 1; sums = File sum } ∷ [] → sum ≡ sha256 (file_bytes i.meta body) → all_seen items ds ≡ pending (drop (p.at - 1) items)
file_stack items p i body sum ds h none some is b pushed same =
    ap (all_seen items) pushed
    ∙ seen_more items p.made.items (record { at = p.at - 1; sums = File sum })
    ∙ ap (λ ms. seen items (record { at = p.at - 1; sums = File sum }) ∷ ms) (between_of items p none h).stack
    ∙ ap (λ (q : Path). record { path = q; sums = File sum } ∷ pending (drop p.at items)) (path_at_is items (p.at - 1) i (omega (arith, some, h.inside)) is)
    ∙ ap (λ s. record { path = i.path; sums = File s } ∷ pending (drop p.at items)) same
    ∙ sym (ap pending (drop_before items p.at i some h.inside is) ∙ pending_file i (drop p.at items) body b)

pub file_advances : (items : List TreeItem) (content : ℕ) (p : Progress) (v : Vec Done) (c : Checked) (i : TreeItem) (body : BodySpec) (sum : List ℕ) → IsProgress items p → p.half ≡ None → 0 < p.at → i ≡ get_or items (p.at - 1) i → i.body ≡ Some body
    → v.items ≡ p.made.items ++ record { at = p.at - 1; sums = File sum } ∷ [] → sum ≡ c.name.csum → object_of c ≡ file_object (file_bytes i.meta body) → c.limit ≡ content
    → Advances items content p (record { at = p.at - 1; made = v; half = p.half; done = p.done + 1 }) c
file_advances items content p v c i body sum h none some is b pushed named object limit = record {
  number = subst (IsNumber (work items) p.done) (sym object) (file_number items p i body h none some is b);
  limit = limit;
  progress = record {
    inside = omega (arith, h.inside);
    places = All-same (λ (d : Done). d.at < length items) v.items _ pushed (All-push (λ (d : Done). d.at < length items) p.made.items _ h.places (omega (arith, some, h.inside)));
    here = subst (IsAt items (record { at = p.at - 1; made = v; half = p.half; done = p.done + 1 })) (sym none) (record {
      stack = file_stack items p i body sum v.items h none some is b pushed (named ∙ ap (λ (o : Object). o.name.csum) object);
      done = omega (arith, (between_of items p none h).done, ap (λ l. length (work l)) (drop_before items p.at i some h.inside is), work_file i (drop p.at items) body b);
    });
  };
  done = refl;
}

-- ---- the attributes of a folder

pub half_item : (items : List TreeItem) (p : Progress) (tree : List ℕ) (h : IsHalf items p tree) (d : TreeItem) → get_or items (p.at - 1) d ≡ h.folder
half_item items p tree h d = (read_by items (p.at - 1) h.folder h.behind d h.is).1

pub half_small : (items : List TreeItem) (content : ℕ) (p : Progress) (tree : List ℕ) (h : IsHalf items p tree) → AreSmall content items → IsSmall (dirmeta_form h.folder.meta)
half_small items content p tree h small =
    let s = small_at content (take (p.at - 1) items) h.folder h.behind (subst (AreSmall content) (split_by items (p.at - 1) h.folder h.behind h.is) small) in
    (subst (IsSmallBy content (made h.behind) h.folder.path h.folder.meta) h.body s).1

pub attributes_number : (items : List TreeItem) (p : Progress) (tree : List ℕ) (h : IsHalf items p tree) → IsNumber (work items) p.done (meta_object (meta_bytes h.folder.meta))
attributes_number items p tree h =
    number_from _ items p.done _ _ (split_by items (p.at - 1) h.folder h.behind h.is) h.done
    (number_second (take (p.at - 1) items) h.folder h.behind (tree_object (tree_bytes (made h.behind) h.folder.path)) (meta_object (meta_bytes h.folder.meta)) [] (objects_folder (made h.behind) h.folder h.body))

attributes_stack : (items : List TreeItem) (p : Progress) (tree sum : List ℕ) (ds : List Done) (h : IsHalf items p tree) → ds ≡ p.made.items ++ record { at = p.at - 1; sums = Folder tree sum } ∷ [] → sum ≡ sha256 (meta_bytes h.folder.meta)
    → all_seen items ds ≡ pending (drop (p.at - 1) items)
attributes_stack items p tree sum ds h pushed same =
    let read = read_by items (p.at - 1) h.folder h.behind h.folder h.is in
    ap (all_seen items) pushed
    ∙ seen_more items p.made.items (record { at = p.at - 1; sums = Folder tree sum })
    ∙ ap (λ ms. seen items (record { at = p.at - 1; sums = Folder tree sum }) ∷ ms) h.stack
    ∙ ap (λ (q : Path). record { path = q; sums = Folder tree sum } ∷ left_by h.folder.path h.folder.body (pending h.behind)) (path_at_is items (p.at - 1) h.folder read.0 (sym read.1))
    ∙ ap (λ t. record { path = h.folder.path; sums = Folder t sum } ∷ left_by h.folder.path h.folder.body (pending h.behind)) h.sum
    ∙ ap (λ s. record { path = h.folder.path; sums = Folder (sha256 (tree_bytes (made h.behind) h.folder.path)) s } ∷ left_by h.folder.path h.folder.body (pending h.behind)) same
    ∙ sym (ap pending h.is ∙ pending_folder h.folder h.behind h.body)

pub attributes_advances : (items : List TreeItem) (content : ℕ) (p : Progress) (v : Vec Done) (c : Checked) (tree sum : List ℕ) → IsProgress items p → (h : IsHalf items p tree)
    → v.items ≡ p.made.items ++ record { at = p.at - 1; sums = Folder tree sum } ∷ [] → sum ≡ c.name.csum → object_of c ≡ meta_object (meta_bytes h.folder.meta) → c.limit ≡ content
    → Advances items content p (record { at = p.at - 1; made = v; half = None; done = p.done + 1 }) c
attributes_advances items content p v c tree sum g h pushed named object limit =
    let read = read_by items (p.at - 1) h.folder h.behind h.folder h.is in
    record {
      number = subst (IsNumber (work items) p.done) (sym object) (attributes_number items p tree h);
      limit = limit;
      progress = record {
        inside = omega (arith, g.inside);
        places = All-same (λ (d : Done). d.at < length items) v.items _ pushed (All-push (λ (d : Done). d.at < length items) p.made.items _ g.places read.0);
        here = record {
          stack = attributes_stack items p tree sum v.items h pushed (named ∙ ap (λ (o : Object). o.name.csum) object);
          done = omega (arith, h.done, ap (λ l. length (work l)) h.is, work_folder h.folder h.behind h.body);
        };
      };
      done = refl;
    }
