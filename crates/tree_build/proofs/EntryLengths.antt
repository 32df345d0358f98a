-- How long the entries of a folder are at most, by the paths of what lies in it.
use Rattle.std.proofs.Common.{◌≡◌, ℕ, ◌+◌, ◌*◌, ◌^◌, ◌<◌, ◌≤◌, List, [], ◌∷◌, length, Option, Some, None, refl, sym, subst, arith}
use Rattle.std.specs.List.{AllByRecursion, sum_by}
use Rattle.std.proofs.lemmas.List.{length-append}
use Rattle.std.proofs.lemmas.List.Sums.{sum_by-cons}
use Rattle.sha2.proofs.Facts256.{length-sha256}
use Rattle.gv_core.specs.Measure.{alignment, fixed}
use Rattle.gv_core.specs.Layout.{tuple_of}
use Rattle.gv_core.specs.Container.{container}
use Rattle.ost_types.specs.Text.{IsName}
use Rattle.ost_types.specs.Path.{Name, Path, AreNames, joined, under}
use Rattle.ost_types.specs.declared.meta.Meta.{Meta}
use Rattle.ost_forms.specs.declared.entry.FileItem.{FileItem}
use Rattle.ost_forms.specs.declared.entry.FolderItem.{FolderItem}
use Rattle.ost_forms.specs.declared.tree_item.BodySpec.{BodySpec}
use Rattle.ost_forms.specs.declared.tree_item.TreeItem.{TreeItem}
use Rattle.ost_forms.specs.Rows.{each}
use Rattle.ost_forms.specs.DirTree.{file_form, folder_form, files_form, folders_form, tree_form}
use Rattle.tree_build.specs.declared.sums.Sums.{Sums}
use Rattle.tree_build.specs.declared.sums.Sums.TheVariants.{File, Folder}
use Rattle.tree_build.specs.Brief.{item_size, tree_size, text_limit}
use Rattle.tree_build.specs.Objects.{Made, Child, children, name_in, files_of, folders_of, entries_of, made, sums_by, file_bytes, meta_bytes, tree_bytes}
use Rattle.tree_build.proofs.ObjectKinds.{file, folder, dirtree, files_type, folders_type, dirtree_type}
use Rattle.tree_build.proofs.Containers.{IsWithin, within_bind, within_more, tuple_within, plain}
use Rattle.tree_build.proofs.Names.{under-name_in}
use Rattle.tree_build.proofs.RowLengths.{AreWithin, within_none, within_next, array_form_within, tuple_at, file_within, folder_within}

-- ---- what is made

abbrev HasSums : Sums → Type 0
HasSums (File sum) = length sum ≡ 32
HasSums (Folder tree meta) = (length tree ≡ 32) × (length meta ≡ 32)

sums_have : (ms : List Made) (p : Path) (meta : Meta) (b : Option BodySpec) → HasSums (sums_by ms p meta b)
sums_have ms p meta None = (length-sha256 (tree_bytes ms p), length-sha256 (meta_bytes meta))
sums_have ms p meta (Some body) = length-sha256 (file_bytes meta body)

abbrev AreMade : List Made → Type 0
AreMade = AllByRecursion (λ m. AreNames m.path × HasSums m.sums)

abbrev made_size : Made → ℕ
made_size m = 8 + length (joined m.path)

pub made_are : (items : List TreeItem) → AllByRecursion (λ i. AreNames i.path) items → AreMade (made items)
unfolding made
made_are [] h = tt
made_are (i ∷ items) h = ((h.0, sums_have (made items) i.path i.meta i.body), made_are items h.1)

pub made_within : (items : List TreeItem) → sum_by made_size (made items) ≤ tree_size items
unfolding made
made_within [] = omega arith
made_within (i ∷ items) =
    let a = sum_by-cons made_size (record { path = i.path; sums = sums_by (made items) i.path i.meta i.body }) (made items) in
    let b = sum_by-cons item_size i items in
    let rest = made_within items in
    omega (arith, a, b, rest)

-- ---- names

last_name : (f : Path) (x : Name) → AreNames (under f x) → IsName x
last_name [] x h = h.0
last_name (y ∷ f) x h = last_name f x h.1

last_length : (f : Path) (x : Name) → length x ≤ length (joined (under f x))
unfolding joined
last_length [] x = let l = length-append x [] in omega (arith, l)
last_length (y ∷ f) x = let l = length-append y (joined (under f x)) in let rest = last_length f x in omega (arith, l, rest)

-- ---- what lies in a folder

abbrev AreChildren : List Child → Type 0
AreChildren = AllByRecursion (λ c. IsName c.name × HasSums c.sums)

abbrev child_size : Child → ℕ
child_size c = 81 + length c.name

record HasChildren (cs : List Child) (n : ℕ) : Type 0 where
  are : AreChildren cs
  short : sum_by child_size cs ≤ n

children_are : (f : Path) (ms : List Made) → AreMade ms → HasChildren (children f ms) (11 * sum_by made_size ms)
children_are f [] h = record { are = tt; short = omega arith }
children_are f (m ∷ ms) h = one (name_in f m.path) refl (children_are f ms h.1)
  where
    c : sum_by made_size (m ∷ ms) ≡ made_size m + sum_by made_size ms
    c = sum_by-cons made_size m ms

    one : (o : Option Name) → name_in f m.path ≡ o → HasChildren (children f ms) (11 * sum_by made_size ms) → HasChildren (children f (m ∷ ms)) (11 * sum_by made_size (m ∷ ms))
    one None e rest = rw e (record { are = rest.are; short = let s = rest.short in omega (arith, s, c) })
    one (Some x) e rest =
        let is : m.path ≡ under f x = under-name_in f m.path x e in
        let named = last_name f x (subst AreNames is h.0.0) in
        let short : length x ≤ length (joined m.path) = subst (λ p. length x ≤ length (joined p)) (sym is) (last_length f x) in
        let new : Child = record { name = x; sums = m.sums } in
        let d = sum_by-cons child_size new (children f ms) in
        rw e (record { are = ((named, h.0.1), rest.are); short = let s = rest.short in omega (arith, s, c, d, short) })

-- the rows of both kinds, together so many bytes
record HasRows (cs : List Child) (n : ℕ) : Type 0 where
  files : ℕ
  folders : ℕ
  file_rows : AreWithin (each file_form (files_of cs)) files
  folder_rows : AreWithin (each folder_form (folders_of cs)) folders
  both : files + folders ≤ n

rows : (cs : List Child) → AreChildren cs → HasRows cs (sum_by child_size cs)
rows [] h = record { files = 0; folders = 0; file_rows = within_none; folder_rows = within_none; both = omega arith }
rows (c ∷ cs) h = one c.sums refl h.0.1 (rows cs h.1)
  where
    more : sum_by child_size (c ∷ cs) ≡ child_size c + sum_by child_size cs
    more = sum_by-cons child_size c cs

    one : (s : Sums) → c.sums ≡ s → HasSums s → HasRows cs (sum_by child_size cs) → HasRows (c ∷ cs) (sum_by child_size (c ∷ cs))
    one (File sum) e has rest =
        let i : FileItem = record { name = c.name; file = sum } in
        let w = file_within i h.0.0.text h.0.0.short has in
        rw e (record {
          files = length c.name + 41 + 4 + rest.files;
          folders = rest.folders;
          file_rows = within_next file_form i (files_of cs) _ _ w rest.file_rows;
          folder_rows = rest.folder_rows;
          both = let b = rest.both in omega (arith, b, more);
        })
    one (Folder tree meta) e has rest =
        let i : FolderItem = record { name = c.name; tree = tree; meta = meta } in
        let w = folder_within i h.0.0.text h.0.0.short has.0 has.1 in
        rw e (record {
          files = rest.files;
          folders = length c.name + 77 + 4 + rest.folders;
          file_rows = rest.file_rows;
          folder_rows = within_next folder_form i (folders_of cs) _ _ w rest.folder_rows;
          both = let b = rest.both in omega (arith, b, more);
        })

-- ---- entries

file_fixed : fixed file ≡ None
unfolding fixed
file_fixed = refl

file_plain : alignment file ≡ 1
unfolding alignment
file_plain = refl

folder_fixed : fixed folder ≡ None
unfolding fixed
folder_fixed = refl

folder_plain : alignment folder ≡ 1
unfolding alignment
folder_plain = refl

entries_parts : (f d : List ℕ) → container dirtree (f ∷ d ∷ []) ≡ tuple_of (plain f ∷ plain d ∷ [])
unfolding container fixed alignment
entries_parts f d = refl

entries_within : (cs : List Child) (n : ℕ) → AreChildren cs → sum_by child_size cs ≤ n → n < 2 ^ 31 → IsWithin (tree_form (entries_of cs)) (n + 8)
entries_within cs n h le lt =
    let r = rows cs h in
    let b = r.both in
    let fs = array_form_within _ file file_form (files_of cs) r.files files_type file_fixed file_plain r.file_rows (omega (arith, b, le, lt)) in
    let ds = array_form_within _ folder folder_form (folders_of cs) r.folders folders_type folder_fixed folder_plain r.folder_rows (omega (arith, b, le, lt)) in
    within_bind (files_form (files_of cs)) _ _ _ fs (λ f few. within_bind (folders_form (folders_of cs)) _ _ _ ds (λ d short.
    let w = tuple_within (plain f ∷ plain d ∷ []) refl (omega arith, (omega arith, tt)) (omega (arith, few, short, b, le, lt)) in
    tuple_at _ dirtree (f ∷ d ∷ []) (plain f ∷ plain d ∷ []) _ dirtree_type (entries_parts f d) (within_more _ _ _ w (omega (arith, few, short, b, le)))))

-- of a folder, where these are made
pub tree_within : (f : Path) (items : List TreeItem) → AllByRecursion (λ i. AreNames i.path) items → tree_size items ≤ text_limit → IsWithin (tree_form (entries_of (children f (made items)))) (11 * tree_size items + 8)
tree_within f items names le =
    let c = children_are f (made items) (made_are items names) in
    let m = made_within items in
    let s = c.short in
    entries_within (children f (made items)) (11 * tree_size items) c.are (omega (arith, s, m)) (omega (arith, le))
