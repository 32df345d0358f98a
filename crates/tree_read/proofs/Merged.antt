-- What was taken from the end of two lists, one after the other, are all entries.
use Rattle.std.proofs.Common.{◌≡◌, ◌⊎◌, inl, inr, ◌+◌, ◌<◌, ℕ, List, [], ◌∷◌, ◌++◌, Contains, length, map, sym, ◌∙◌, ap, subst, append-nil, append_assoc, arith, length-append}
use Rattle.std.proofs.lemmas.List.Elements.{Contains-append_left, Contains-append_right, Contains-append_cases, Contains-push, Contains-push_cases}
use Rattle.std.proofs.lemmas.List.{map-append}
use Rattle.std.specs.List.{AllByRecursion}
use Rattle.ost_types.specs.Path.{Name, Path}
use Rattle.ost_forms.specs.declared.entry.FileItem.{FileItem}
use Rattle.ost_forms.specs.declared.entry.FolderItem.{FolderItem}
use Rattle.ost_forms.specs.DirTree.{Entries, AreApart, IsAscending, file_names, folder_names}
use Rattle.tree_read.specs.declared.item.Item.{Item}
use Rattle.tree_read.specs.Children.{Child, IsBefore, AreDescending, AreChildren, file_child, folder_child, item_of}
use Rattle.tree_read.specs.Merging.{AreBefore, IsLast, Merges}
use Rattle.tree_read.proofs.Lasts.{all_front, all_last, ascending_front}

abbrev IsOf : List FileItem → List FolderItem → Child → Type 0
IsOf files folders c = ((i : FileItem) × Contains files i × (c ≡ file_child i)) ⊎ ((i : FolderItem) × Contains folders i × (c ≡ folder_child i))

pub only : {X : Type 0} (x y : X) → Contains (x ∷ []) y → x ≡ y
only x y h = elim (Contains-push_cases [] x y h) [ inl n ↦ absurd (omega (arith, n.1)) | inr e ↦ e ]

pub head_or_tail : {X : Type 0} (x : X) (xs : List X) (y : X) → Contains (x ∷ xs) y → (x ≡ y) ⊎ Contains xs y
head_or_tail x xs y h = elim (Contains-append_cases (x ∷ []) xs y h) [ inl a ↦ inl (only x y a) | inr b ↦ inr b ]

pub head_in : {X : Type 0} (x : X) (xs : List X) → Contains (x ∷ xs) x
head_in x xs = Contains-append_left (x ∷ []) xs x (Contains-push [] x)

pub tail_in : {X : Type 0} (x y : X) (xs : List X) → Contains xs y → Contains (x ∷ xs) y
tail_in x y xs h = Contains-append_right (x ∷ []) xs y h

-- an entry of the others is one of all
more_of : (files files' : List FileItem) (folders folders' : List FolderItem) (c d : Child) → IsLast files folders c files' folders' → IsOf files' folders' d → IsOf files folders d
more_of files files' folders folders' c d (b, inl (i, cut, same, is)) (inl (j, in_it, e)) = inl (j, subst (λ f. Contains f j) (sym cut) (Contains-append_left files' (i ∷ []) j in_it), e)
more_of files files' folders folders' c d (b, inl (i, cut, same, is)) (inr (j, in_it, e)) = inr (j, subst (λ f. Contains f j) (sym same) in_it, e)
more_of files files' folders folders' c d (b, inr (i, cut, same, is)) (inl (j, in_it, e)) = inl (j, subst (λ f. Contains f j) (sym same) in_it, e)
more_of files files' folders folders' c d (b, inr (i, cut, same, is)) (inr (j, in_it, e)) = inr (j, subst (λ f. Contains f j) (sym cut) (Contains-append_left folders' (i ∷ []) j in_it), e)

last_of_all : (files files' : List FileItem) (folders folders' : List FolderItem) (c : Child) → IsLast files folders c files' folders' → IsOf files folders c
last_of_all files files' folders folders' c (b, inl (i, cut, same, is)) = inl (i, subst (λ f. Contains f i) (sym cut) (Contains-push files' i), is)
last_of_all files files' folders folders' c (b, inr (i, cut, same, is)) = inr (i, subst (λ f. Contains f i) (sym cut) (Contains-push folders' i), is)

-- and an entry of all is the last, or one of the others
last_or : (files files' : List FileItem) (folders folders' : List FolderItem) (c d : Child) → IsLast files folders c files' folders' → IsOf files folders d → (c ≡ d) ⊎ IsOf files' folders' d
last_or files files' folders folders' c d (b, inl (i, cut, same, is)) (inl (j, in_it, e)) =
    elim (Contains-push_cases files' i j (subst (λ f. Contains f j) cut in_it)) [ inl x ↦ inr (inl (j, x, e)) | inr x ↦ inl (is ∙ ap file_child x ∙ sym e) ]
last_or files files' folders folders' c d (b, inl (i, cut, same, is)) (inr (j, in_it, e)) = inr (inr (j, subst (λ f. Contains f j) same in_it, e))
last_or files files' folders folders' c d (b, inr (i, cut, same, is)) (inl (j, in_it, e)) = inr (inl (j, subst (λ f. Contains f j) same in_it, e))
last_or files files' folders folders' c d (b, inr (i, cut, same, is)) (inr (j, in_it, e)) =
    elim (Contains-push_cases folders' i j (subst (λ f. Contains f j) cut in_it)) [ inl x ↦ inr (inr (j, x, e)) | inr x ↦ inl (is ∙ ap folder_child x ∙ sym e) ]

merged_among : (files : List FileItem) (folders : List FolderItem) (cs : List Child) (c : Child) → Merges files folders cs → Contains cs c → IsOf files folders c
merged_among files folders [] c m h = absurd (omega (arith, h.1))
merged_among files folders (d ∷ cs) c m h = by (head_or_tail d cs c h) (λ t. merged_among m.0 m.1 cs c m.3 t)
  where
    by : (d ≡ c) ⊎ Contains cs c → (Contains cs c → IsOf m.0 m.1 c) → IsOf files folders c
    by (inl same) rest = subst (IsOf files folders) same (last_of_all files m.0 folders m.1 d m.2)
    by (inr t) rest = more_of files m.0 folders m.1 d c m.2 (rest t)

merged_all : (files : List FileItem) (folders : List FolderItem) (cs : List Child) (c : Child) → Merges files folders cs → IsOf files folders c → Contains cs c
merged_all files folders [] c m (inl h) = absurd (let l = h.1.1 in omega (arith, l, ap length m.0))
merged_all files folders [] c m (inr h) = absurd (let l = h.1.1 in omega (arith, l, ap length m.1))
merged_all files folders (d ∷ cs) c m h = by (last_or files m.0 folders m.1 d c m.2 h) (λ t. merged_all m.0 m.1 cs c m.3 t)
  where
    by : (d ≡ c) ⊎ IsOf m.0 m.1 c → (IsOf m.0 m.1 c → Contains cs c) → Contains (d ∷ cs) c
    by (inl same) rest = subst (Contains (d ∷ cs)) same (head_in d cs)
    by (inr t) rest = tail_in d c cs (rest t)

last_before : (name : Name) (files files' : List FileItem) (folders folders' : List FolderItem) (c : Child) → AreBefore name files folders → IsLast files folders c files' folders' → IsBefore c.name name × AreBefore name files' folders'
last_before name files files' folders folders' c b (o, inl (i, cut, same, is)) =
    let f = subst (λ f. AllByRecursion (λ (x : FileItem). IsBefore x.name name) f) cut b.files_are in (
      subst (λ x. IsBefore x name) (ap (λ x. x.name) (sym is)) (all_last (λ (x : FileItem). IsBefore x.name name) files' i f),
      record { files_are = all_front (λ (x : FileItem). x.name) (λ (x : FileItem). IsBefore x.name name) files' i f; folders_are = subst (λ f. AllByRecursion (λ (x : FolderItem). IsBefore x.name name) f) same b.folders_are },
    )
last_before name files files' folders folders' c b (o, inr (i, cut, same, is)) =
    let f = subst (λ f. AllByRecursion (λ (x : FolderItem). IsBefore x.name name) f) cut b.folders_are in (
      subst (λ x. IsBefore x name) (ap (λ x. x.name) (sym is)) (all_last (λ (x : FolderItem). IsBefore x.name name) folders' i f),
      record { files_are = subst (λ f. AllByRecursion (λ (x : FileItem). IsBefore x.name name) f) same b.files_are; folders_are = all_front (λ (x : FolderItem). x.name) (λ (x : FolderItem). IsBefore x.name name) folders' i f },
    )

merged_before : (name : Name) (files : List FileItem) (folders : List FolderItem) (cs : List Child) → AreBefore name files folders → Merges files folders cs → AllByRecursion (λ d. IsBefore d.name name) cs
merged_before name files folders [] b m = tt
merged_before name files folders (c ∷ cs) b m =
    let r = last_before name files m.0 folders m.1 c b m.2 in
    (r.0, merged_before name m.0 m.1 cs r.1 m.3)

merged_descending : (files : List FileItem) (folders : List FolderItem) (cs : List Child) → Merges files folders cs → AreDescending cs
merged_descending files folders [] m = tt
merged_descending files folders (c ∷ cs) m = (merged_before c.name m.0 m.1 cs m.2.0 m.3, merged_descending m.0 m.1 cs m.3)

pub are_children : (e : Entries) (cs : List Child) → Merges e.files e.folders cs → AreChildren e cs
are_children e cs m = record {
  descending = merged_descending e.files e.folders cs m;
  among = λ c h. merged_among e.files e.folders cs c m h;
  all = λ c h. merged_all e.files e.folders cs c m h;
}

-- these were taken, and the rest is in order
pub record Took (at : Path) (owner : List ℕ) (e : Entries) (files : List FileItem) (folders : List FolderItem) (items : List Item) : Type 0 where
  pub cs : List Child
  pub items_are : items ≡ map (item_of at owner) cs
  pub back : (ds : List Child) → Merges files folders ds → Merges e.files e.folders (cs ++ ds)
  pub files_ascend : IsAscending (file_names files)
  pub folders_ascend : IsAscending (folder_names folders)
  pub apart : AreApart (file_names files) (folder_names folders)

pub took_begin : (at : Path) (owner : List ℕ) (e : Entries) → IsAscending (file_names e.files) → IsAscending (folder_names e.folders) → AreApart (file_names e.files) (folder_names e.folders)
    → (items : List Item) → items ≡ [] → Took at owner e e.files e.folders items
took_begin at owner e f g apart items none = record { cs = []; items_are = none; back = λ ds m. m; files_ascend = f; folders_ascend = g; apart = apart }

file_front : (files : List FileItem) (i : FileItem) (n : Name) → Contains (file_names files) n → Contains (file_names (files ++ i ∷ [])) n
file_front files i n h = subst (λ m. Contains m n) (sym (map-append (λ (x : FileItem). x.name) files (i ∷ []))) (Contains-append_left (file_names files) (i.name ∷ []) n h)

folder_front : (folders : List FolderItem) (i : FolderItem) (n : Name) → Contains (folder_names folders) n → Contains (folder_names (folders ++ i ∷ [])) n
folder_front folders i n h = subst (λ m. Contains m n) (sym (map-append (λ (x : FolderItem). x.name) folders (i ∷ []))) (Contains-append_left (folder_names folders) (i.name ∷ []) n h)

record InOrder (files : List FileItem) (folders : List FolderItem) : Type 0 where
  files_ascend : IsAscending (file_names files)
  folders_ascend : IsAscending (folder_names folders)
  apart : AreApart (file_names files) (folder_names folders)

order_kept : (files files' : List FileItem) (folders folders' : List FolderItem) (c : Child) → IsLast files folders c files' folders' → InOrder files folders → InOrder files' folders'
order_kept files files' folders folders' c (b, inl (i, cut, same, is)) o =
    record {
      files_ascend = ascending_front (λ (x : FileItem). x.name) files' i (subst (λ f. IsAscending (file_names f)) cut o.files_ascend);
      folders_ascend = subst (λ f. IsAscending (folder_names f)) same o.folders_ascend;
      apart = λ n p q. o.apart n (subst (λ f. Contains (file_names f) n) (sym cut) (file_front files' i n p)) (subst (λ f. Contains (folder_names f) n) (sym same) q);
    }
order_kept files files' folders folders' c (b, inr (i, cut, same, is)) o =
    record {
      files_ascend = subst (λ f. IsAscending (file_names f)) same o.files_ascend;
      folders_ascend = ascending_front (λ (x : FolderItem). x.name) folders' i (subst (λ f. IsAscending (folder_names f)) cut o.folders_ascend);
      apart = λ n p q. o.apart n (subst (λ f. Contains (file_names f) n) (sym same) p) (subst (λ f. Contains (folder_names f) n) (sym cut) (folder_front folders' i n q));
    }

pub took_more : (at : Path) (owner : List ℕ) (e : Entries) (files files' : List FileItem) (folders folders' : List FolderItem) (items items' : List Item) (item : Item) (c : Child)
    → Took at owner e files folders items → IsLast files folders c files' folders' → items' ≡ items ++ item ∷ [] → item ≡ item_of at owner c → Took at owner e files' folders' items'
took_more at owner e files files' folders folders' items items' item c w last more is =
    let o = order_kept files files' folders folders' c last (record { files_ascend = w.files_ascend; folders_ascend = w.folders_ascend; apart = w.apart }) in
    record {
      cs = w.cs ++ c ∷ [];
      items_are = more ∙ ap (λ i. items ++ i ∷ []) is ∙ ap (λ l. l ++ item_of at owner c ∷ []) w.items_are ∙ sym (map-append (item_of at owner) w.cs (c ∷ []));
      back = λ ds m. subst (Merges e.files e.folders) (sym (append_assoc w.cs (c ∷ []) ds)) (w.back (c ∷ ds) (files', folders', last, m));
      files_ascend = o.files_ascend;
      folders_ascend = o.folders_ascend;
      apart = o.apart;
    }

pub fewer : (files files' : List FileItem) (folders folders' : List FolderItem) (c : Child) → IsLast files folders c files' folders' → length files' + length folders' < length files + length folders
fewer files files' folders folders' c (b, inl (i, cut, same, is)) = omega (arith, ap length cut, ap length same, length-append files' (i ∷ []))
fewer files files' folders folders' c (b, inr (i, cut, same, is)) = omega (arith, ap length cut, ap length same, length-append folders' (i ∷ []))

pub took_all : (at : Path) (owner : List ℕ) (e : Entries) (files : List FileItem) (folders : List FolderItem) (items : List Item) → Took at owner e files folders items → (files ≡ []) × (folders ≡ [])
    → (cs : List Child) × AreChildren e cs × (items ≡ map (item_of at owner) cs)
took_all at owner e files folders items w none =
    (w.cs, are_children e w.cs (subst (Merges e.files e.folders) (append-nil w.cs) (w.back [] none)), w.items_are)
