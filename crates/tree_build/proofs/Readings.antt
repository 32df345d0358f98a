-- The objects of a tree within the bounds read as what they are. That different objects have different names isn't asked.
use Rattle.std.proofs.Common.{◌≡◌, ℕ, ◌≤◌, ◌^◌, true, cond, ltb, List, ◌∷◌, ◌++◌, length, Option, Some, None, Ok, refl, sym, ◌∙◌, ap, subst, arith}
use Rattle.std.specs.Prelude.{Contains, option_and_then}
use Rattle.std.specs.Int.{w32, to_be_bytes}
use Rattle.std.proofs.lemmas.Bool.{lt-ltb}
use Rattle.std.proofs.lemmas.List.Elements.{All-contains, All-map}
use Rattle.sha2.proofs.Facts256.{length-sha256}
use Rattle.ost_types.specs.declared.limits.Limits.{Limits}
use Rattle.ost_types.specs.declared.meta.Meta.{Meta}
use Rattle.ost_types.specs.Path.{Name, Path, AreNames, under}
use Rattle.ost_types.specs.Text.{IsName}
use Rattle.ost_forms.specs.declared.body.Body.{Body}
use Rattle.ost_forms.specs.declared.entry.FileItem.{FileItem}
use Rattle.ost_forms.specs.declared.entry.FolderItem.{FolderItem}
use Rattle.ost_forms.specs.declared.tree_item.BodySpec.{BodySpec}
use Rattle.ost_forms.specs.declared.tree_item.TreeItem.{TreeItem}
use Rattle.ost_forms.specs.DirMeta.{object_limit, dirmeta_form, ReadsDirMeta}
use Rattle.ost_forms.specs.DirTree.{Entries, HasSums, HasNames, IsSorted, ReadsDirTree, tree_form}
use Rattle.ost_forms.specs.Stream.{content_form, bytes_of, framed, zeros, ReadsFile}
use Rattle.ost_forms.proofs.OwnStreams.{header_wide}
use Rattle.tree_build.specs.Items.{AreItems, AreTyped, IsWide, FitsBody, body_of}
use Rattle.tree_build.specs.Objects.{made, children, entries_of, tree_bytes, meta_bytes, file_bytes}
use Rattle.tree_build.specs.Objects as objects
use Rattle.tree_build.specs.Makeable.{AreMakeable, IsSmall, IsSmallFile, IsSmallBy, AreSmall}
use Rattle.tree_build.proofs.FolderEntries.{all_by, file_from, folder_from, last_is_name, made_rises}
use Rattle.tree_build.proofs.Lists.{among_contained}
use Rattle.tree_build.proofs.Suffixes.{Rises, rises_from, rises_right}
use Rattle.tree_build.proofs.Children.{children_ascend, files_ascend, folders_ascend, entries_apart}
use Rattle.tree_build.proofs.Smalls.{small_at, small_form, small_short, file_within}
use Rattle.tree_build.proofs.Places.{Stands, among_stands, stands_behind}

framed_some : (header content : List ℕ) → length header ≤ object_limit → framed header content ≡ Some (objects.bytes_of (framed header content))
framed_some header content short =
    let b : ltb (length header) (2 ^ 32) ≡ true = lt-ltb (length header) (2 ^ 32) (omega (arith, short)) in
    ap (λ b. cond b (Some (to_be_bytes w32 (length header) ++ (zeros ++ (header ++ content)))) None) b ∙ sym (ap (λ b. Some (objects.bytes_of (cond b (Some (to_be_bytes w32 (length header) ++ (zeros ++ (header ++ content)))) None))) b)

content_some : (limit : ℕ) (m : Meta) (body : Body) → IsSmallFile limit m body → content_form m body ≡ Some (objects.bytes_of (content_form m body))
content_some limit m body h =
    let e : content_form m body ≡ framed h.header.bytes (bytes_of body) = ap (λ o. option_and_then (λ header. framed header (bytes_of body)) o) h.header.is in
    e ∙ framed_some h.header.bytes (bytes_of body) h.header.short ∙ ap (λ o. Some (objects.bytes_of o)) (sym e)

abbrev pub entries_in : TreeItem → List TreeItem → Entries
entries_in i behind = entries_of (children i.path (made behind))

module _ (limits : Limits) (items : List TreeItem) (ordered : AreItems items) (typed : AreTyped items) (makeable : AreMakeable limits items) where
  pub rises : Rises items
  rises = rises_from items ordered.ascending

  small_of : (i : TreeItem) (behind : List TreeItem) → Stands items i behind → IsSmallBy limits.content (made behind) i.path i.meta i.body
  small_of i behind s = small_at limits.content s.front i behind (subst (AreSmall limits.content) s.is makeable.small)

  pub contains : (i : TreeItem) (behind : List TreeItem) → Stands items i behind → Contains items i
  contains i behind s = among_contained i items (among_stands items i behind s)

  mode_of : (i : TreeItem) (behind : List TreeItem) → Stands items i behind → FitsBody i.meta.mode i.body
  mode_of i behind s = All-contains (λ (i : TreeItem). FitsBody i.meta.mode i.body) items i ordered.modes (contains i behind s)

  pub wide_of : (i : TreeItem) (behind : List TreeItem) → Stands items i behind → IsWide i.meta
  wide_of i behind s = All-contains (λ (i : TreeItem). IsWide i.meta) items i typed.numbers (contains i behind s)

  names_of_path : (i : TreeItem) (behind : List TreeItem) → Stands items i behind → AreNames i.path
  names_of_path i behind s = All-contains (λ (i : TreeItem). AreNames i.path) items i typed.names (contains i behind s)

  sums_in : (i : TreeItem) (behind : List TreeItem) → HasSums (entries_in i behind)
  sums_in i behind = record {
    files = all_by (λ (e : FileItem). length e.file ≡ 32) _ (λ e a. let h = file_from behind i.path e a in ap length h.sum_is ∙ length-sha256 (file_bytes h.item.meta h.body));
    trees = all_by (λ (e : FolderItem). length e.tree ≡ 32) _ (λ e a. let h = folder_from behind i.path e a in ap length h.tree_is ∙ length-sha256 (tree_bytes (made h.behind) h.item.path));
    metas = all_by (λ (e : FolderItem). length e.meta ≡ 32) _ (λ e a. let h = folder_from behind i.path e a in ap length h.meta_is ∙ length-sha256 (meta_bytes h.item.meta));
  }

  name_by : (j : TreeItem) (last : List TreeItem) (f : Path) (x : Name) → Stands items j last → j.path ≡ under f x → IsName x
  name_by j last f x s at = last_is_name f x (subst AreNames at (names_of_path j last s))

  names_in : (i : TreeItem) (behind : List TreeItem) → Stands items i behind → HasNames (entries_in i behind)
  names_in i behind s = record {
    files = All-map IsName (λ (e : FileItem). e.name) _ (all_by (λ (e : FileItem). IsName e.name) _ (λ e a. let h = file_from behind i.path e a in name_by h.item h.behind i.path e.name (stands_behind items i behind h.item h.behind s h.stands) h.at));
    folders = All-map IsName (λ (e : FolderItem). e.name) _ (all_by (λ (e : FolderItem). IsName e.name) _ (λ e a. let h = folder_from behind i.path e a in name_by h.item h.behind i.path e.name (stands_behind items i behind h.item h.behind s h.stands) h.at));
  }

  behind_rises : (i : TreeItem) (behind : List TreeItem) → Stands items i behind → Rises behind
  behind_rises i behind s = (rises_right s.front (i ∷ behind) (subst Rises s.is rises)).1

  sorted_in : (i : TreeItem) (behind : List TreeItem) → Stands items i behind → IsSorted (entries_in i behind)
  sorted_in i behind s =
      let ascending = children_ascend i.path (made behind) (made_rises behind (behind_rises i behind s)) in
      record { files = files_ascend _ ascending; folders = folders_ascend _ ascending; apart = entries_apart _ ascending }

  small_folder : (i : TreeItem) (behind : List TreeItem) → Stands items i behind → i.body ≡ None → IsSmall (tree_form (entries_in i behind)) × IsSmall (dirmeta_form i.meta)
  small_folder i behind s folder = subst (IsSmallBy limits.content (made behind) i.path i.meta) folder (small_of i behind s)

  pub tree_reads : (i : TreeItem) (behind : List TreeItem) → Stands items i behind → i.body ≡ None → ReadsDirTree (λ (x : Entries). x) (tree_bytes (made behind) i.path) (Ok (entries_in i behind))
  tree_reads i behind s folder =
      let h = small_folder i behind s folder in
      (record { short = small_short _ h.0; form = small_form _ h.0 }, sums_in i behind, names_in i behind s, sorted_in i behind s)

  pub meta_reads : (i : TreeItem) (behind : List TreeItem) → Stands items i behind → i.body ≡ None → ReadsDirMeta (λ (x : Meta). x) (meta_bytes i.meta) (Ok i.meta)
  meta_reads i behind s folder =
      let h = small_folder i behind s folder in
      let w = wide_of i behind s in
      (record { short = small_short _ h.1; uid = w.uid; gid = w.gid; mode = w.mode; form = small_form _ h.1 }, subst (FitsBody i.meta.mode) folder (mode_of i behind s))

  pub file_reads : (i : TreeItem) (behind : List TreeItem) (body : BodySpec) → Stands items i behind → i.body ≡ Some body → ReadsFile limits.content (file_bytes i.meta body) (Ok (record { meta = i.meta; body = body_of body }))
  file_reads i behind body s is =
      let h = subst (IsSmallBy limits.content (made behind) i.path i.meta) is (small_of i behind s) in
      let form = content_some limits.content i.meta (body_of body) h in
      let w = wide_of i behind s in
      (λ fits. file_within limits.content i.meta (body_of body) _ h form, form, subst (FitsBody i.meta.mode) is (mode_of i behind s), header_wide i.meta (body_of body) w.uid w.gid w.mode)
