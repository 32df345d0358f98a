-- No bytes are an object, so that no folder is sound at an object's path.
use Rattle.std.proofs.Common.{◌≡◌, ◌∙◌, ◌^◌, ◌*◌, ℕ, refl, sym, ap, subst, arith, List, [], ◌∷◌, ◌++◌, length, length-append, Some}
use Rattle.std.specs.Prelude.{codes, nat_lt, option_and_then}
use Rattle.std.specs.Int.{w32, to_be_bytes}
use Rattle.std.proofs.Math.Logic.{∥∥₁_elim}
use Rattle.ost_types.specs.declared.limits.Limits.{Limits}
use Rattle.ost_types.specs.declared.meta.Meta.{Meta}
use Rattle.ost_types.specs.declared.object.Kind.{Kind}
use Rattle.ost_types.specs.declared.object.Kind.TheVariants as kind
use Rattle.ost_types.specs.declared.object.ObjName.{ObjName}
use Rattle.gv_core.specs.Container.{container, container_form}
use Rattle.gv_core.specs.Kind as gv
use Rattle.gv_core.specs.Kind.{items_at, kind_of, variant_kind}
use Rattle.gv_core.specs.Layout.{Part, body, inner_ends, offset_size, part, table_back, tuple_of}
use Rattle.gv_core.specs.Measure.{fixed}
use Rattle.gv_core.proofs.Offsets.{length-table_back, offset_size_found}
use Rattle.gv_core.proofs.Sizes.{bind_some, some_is, test_some}
use Rattle.ost_forms.specs.Rows.{xattrs_form}
use Rattle.ost_forms.specs.DirMeta.{dirmeta_form}
use Rattle.ost_forms.specs.DirTree.{Entries, files_form, folders_form, tree_form}
use Rattle.ost_forms.specs.Stream.{bytes_of, framed, header_form, header_of, zeros}
use Rattle.ost_forms.proofs.Types.{files, folder_kinds, tree_kinds}
use Rattle.ost_objects.specs.Object.{HasForm}
use Rattle.fs_trait.specs.declared.types.Value.{Value}
use Rattle.fs_trait.specs.declared.types.Value.TheVariants.{Absent, Folder, Link, File}
use Rattle.fs_trait.specs.View.{Disk}
use Rattle.fs_trait.specs.Seen.{Seen, Vacant, Directory, Symlink, Leaf, NotDirectory, seen, shows}
use Rattle.repo_layout.specs.RefFile.{IsSum}
use Rattle.repo_model.specs.Objects.{object_in, path_of}
use Rattle.store_check.specs.Good.{IsGoodStore}
use Rattle.durable_store.specs.Free.{ObjectPathsFree}
use Rattle.durable_store.specs.Standing.{IsSoundSeen}
use Rattle.durable_store.proofs.Files.{members_long, no_bytes}

-- a folder's attributes have their owner, by 4 bytes
not_meta : (m : Meta) → dirmeta_form m ≡ Some [] → ⊥
not_meta m form =
    let p = bind_some (xattrs_form m.xattrs) (λ xs. container_form (codes "(uuua(ayay))") (to_be_bytes w32 m.uid ∷ to_be_bytes w32 m.gid ∷ to_be_bytes w32 m.mode ∷ xs ∷ [])) [] form in
    let long = members_long (codes "(uuua(ayay))") (to_be_bytes w32 m.uid ∷ to_be_bytes w32 m.gid ∷ to_be_bytes w32 m.mode ∷ p.0 ∷ []) [] p.2 in
    let four : length (to_be_bytes w32 m.uid) ≡ 4 = refl in
    omega (arith, long, four)

-- a stream has four zeros
not_framed : (header content : List ℕ) → framed header content ≡ Some [] → ⊥
not_framed header content form =
    let size = to_be_bytes w32 (length header) in
    let rest = zeros ++ (header ++ content) in
    let is = (test_some (nat_lt (length header) (2 ^ 32)) (size ++ rest) [] form).1 in
    omega (arith, ap length is, length-append size rest, length-append zeros (header ++ content))

-- a folder has the offset at which its files end
abbrev both : List ℕ → List ℕ → List Part
both f d = part files f ∷ part (gv.array (gv.tuple folder_kinds)) d ∷ []

tree_kind : variant_kind (codes "(a(say)a(sayay))") ≡ Some (gv.tuple tree_kinds)
unfolding variant_kind kind_of items_at
tree_kind = refl

not_both : (f d : List ℕ) → container_form (codes "(a(say)a(sayay))") (f ∷ d ∷ []) ≡ Some [] → ⊥
unfolding container fixed
not_both f d form =
    let ps = both f d in
    let at : container_form (codes "(a(say)a(sayay))") (f ∷ d ∷ []) ≡ tuple_of ps = ap (option_and_then (λ k. container k (f ∷ d ∷ []))) tree_kind in
    let q = bind_some (offset_size (length (body 0 ps)) 1) (λ s. Some (body 0 ps ++ table_back s (inner_ends 0 ps))) [] (sym at ∙ form) in
    let chosen = offset_size_found (length (body 0 ps)) 1 q.0 q.1 in
    let is = some_is (body 0 ps ++ table_back q.0 (inner_ends 0 ps)) [] q.2 in
    let one : length (table_back q.0 (inner_ends 0 ps)) ≡ q.0 * 1 = length-table_back q.0 (inner_ends 0 ps) in
    omega (arith, ap length is, length-append (body 0 ps) (table_back q.0 (inner_ends 0 ps)), one, chosen.positive)

not_tree : (t : Entries) → tree_form t ≡ Some [] → ⊥
not_tree t form =
    let f = bind_some (files_form t.files) (λ f. option_and_then (λ d. container_form (codes "(a(say)a(sayay))") (f ∷ d ∷ [])) (folders_form t.folders)) [] form in
    let d = bind_some (folders_form t.folders) (λ d. container_form (codes "(a(say)a(sayay))") (f.0 ∷ d ∷ [])) [] f.2 in
    not_both f.0 d.0 d.2

-- no bytes are no object
no_form : (k : Kind) (content : ℕ) → HasForm k content [] → ⊥
no_form kind.Commit content formed = no_bytes content [] refl formed
no_form kind.DirTree content formed = ∥∥₁_elim formed (λ x y. absurd x) (λ t. not_tree t.0 t.1.0.form)
no_form kind.DirMeta content formed = ∥∥₁_elim formed (λ x y. absurd x) (λ m. not_meta m.0 m.1.0.form)
no_form kind.File content formed = ∥∥₁_elim formed (λ x y. absurd x) (λ f.
    let header = bind_some (header_form (header_of f.0.meta f.0.body)) (λ h. framed h (bytes_of f.0.body)) [] f.1.1 in
    not_framed header.0 (bytes_of f.0.body) header.2)

in_folder : (k : Kind) (m : Meta) (bytes : List ℕ) → object_in k (Directory m) ≡ Some bytes → [] ≡ bytes
in_folder kind.Commit m bytes is = some_is [] bytes is
in_folder kind.DirTree m bytes is = some_is [] bytes is
in_folder kind.DirMeta m bytes is = some_is [] bytes is
in_folder kind.File m bytes is = some_is [] bytes is

-- so no folder is sound at an object's path
pub folder_unsound : (content : ℕ) (name : ObjName) (m : Meta) → IsSoundSeen content name (Directory m) → ⊥
folder_unsound content name m is = no_form name.kind content (subst (HasForm name.kind content) (sym (in_folder name.kind m is.bytes is.holds)) is.formed)

-- what is sound is no folder
pub sound_leaf : (content : ℕ) (name : ObjName) (s : Seen) → IsSoundSeen content name s → NotDirectory s
sound_leaf content name Vacant is = tt
sound_leaf content name (Directory m) is = folder_unsound content name m is
sound_leaf content name (Symlink m target) is = tt
sound_leaf content name (Leaf n m bytes) is = tt

-- in a good store no folder stands where an object would
pub good_free : (limits : Limits) (d : Disk) → IsGoodStore limits d → ObjectPathsFree d
good_free limits d good o sum = by (d.at (path_of o)) refl
  where
    by : (z : Value) → d.at (path_of o) ≡ z → NotDirectory (seen d z)
    by Absent at = tt
    by (Folder m) at =
        let has = good.sound o (record { sum = sum; there = λ none. let e : Folder m ≡ Absent = sym at ∙ none in cc }) in
        let holds = subst (λ z. object_in o.kind (seen d z) ≡ Some has.bytes) at has.stored.there in
        folder_unsound limits.content o m (record { bytes = has.bytes; holds = holds; named = has.stored.named; formed = has.formed })
    by (Link m t) at = tt
    by (File n) at = tt
