-- What has some bytes as its form is one thing.
use Rattle.std.proofs.Common.{◌≡◌, ℕ, List, [], ◌∷◌, Option, Some, refl, sym, ap, ap₂, ◌∙◌}
use Rattle.std.specs.Prelude.{option_and_then, Result, Ok, Err, IfOk}
use Rattle.ost_types.specs.declared.memory.NoMemory.{NoMemory}
use Rattle.gv_core.specs.Layout.{text_bytes}
use Rattle.gv_core.specs.Container.{container_form, raws}
use Rattle.gv_core.proofs.Sizes.{bind_some, some_is}
use Rattle.gv_core.proofs.Raws.{only_cut, raws_same}
use Rattle.ost_types.specs.declared.meta.Xattr.{Xattr}
use Rattle.ost_forms.specs.declared.entry.FileItem.{FileItem}
use Rattle.ost_forms.specs.declared.entry.FolderItem.{FolderItem}
use Rattle.ost_forms.specs.declared.object_type.ObjectType.{ObjectType}
use Rattle.ost_forms.specs.declared.object_type.ObjectType.TheVariants as types
use Rattle.ost_forms.specs.TypeText.{type_text}
use Rattle.ost_forms.specs.Rows.{each, array_form, xattr_form, xattrs_form}
use Rattle.ost_forms.specs.DirTree.{Entries, file_form, folder_form, files_form, folders_form, tree_form}
use Rattle.ost_forms.proofs.Types.{kind_at, type_kind}
use Rattle.ost_forms.proofs.Texts.{text_bytes-is, same_push}

-- a form that tells things apart
abbrev pub IsOneToOne : {A : Type 0} → (A → Option (List ℕ)) → Type 0
IsOneToOne {A = A} form = (x y : A) (bytes : List ℕ) → form x ≡ Some bytes → form y ≡ Some bytes → x ≡ y

pub one_container : (t : ObjectType) → IsOneToOne (container_form (type_text t))
one_container t rs qs bytes e f =
    raws_same rs qs (some_is (raws rs) (raws qs) (sym (only_cut (type_text t) (kind_at t) rs bytes (type_kind t) e) ∙ only_cut (type_text t) (kind_at t) qs bytes (type_kind t) f))

pub one_text : IsOneToOne text_bytes
one_text s t bytes e f = (same_push s t 0 0 ((text_bytes-is s bytes e).1 ∙ sym (text_bytes-is t bytes f).1)).0

same_each : {A : Type 0} (form : A → Option (List ℕ)) → IsOneToOne form → (xs ys : List A) (rs : List (List ℕ)) → each form xs ≡ Some rs → each form ys ≡ Some rs → xs ≡ ys
same_each form one [] [] rs e f = refl
same_each form one [] (y ∷ ys) rs e f =
    let p = bind_some (form y) (λ r. option_and_then (λ rs. Some (r ∷ rs)) (each form ys)) rs f in
    let q = bind_some (each form ys) (λ rs. Some (p.0 ∷ rs)) rs p.2 in
    let z : [] ≡ p.0 ∷ q.0 = some_is [] rs e ∙ sym (some_is (p.0 ∷ q.0) rs q.2) in
    absurd cc
same_each form one (x ∷ xs) [] rs e f =
    let p = bind_some (form x) (λ r. option_and_then (λ rs. Some (r ∷ rs)) (each form xs)) rs e in
    let q = bind_some (each form xs) (λ rs. Some (p.0 ∷ rs)) rs p.2 in
    let z : [] ≡ p.0 ∷ q.0 = some_is [] rs f ∙ sym (some_is (p.0 ∷ q.0) rs q.2) in
    absurd cc
same_each form one (x ∷ xs) (y ∷ ys) rs e f =
    let p = bind_some (form x) (λ r. option_and_then (λ rs. Some (r ∷ rs)) (each form xs)) rs e in
    let q = bind_some (each form xs) (λ rs. Some (p.0 ∷ rs)) rs p.2 in
    let s = bind_some (form y) (λ r. option_and_then (λ rs. Some (r ∷ rs)) (each form ys)) rs f in
    let t = bind_some (each form ys) (λ rs. Some (s.0 ∷ rs)) rs s.2 in
    let rows : p.0 ∷ q.0 ≡ s.0 ∷ t.0 = some_is (p.0 ∷ q.0) rs q.2 ∙ sym (some_is (s.0 ∷ t.0) rs t.2) in
    let first : p.0 ≡ s.0 = cc in
    let others : q.0 ≡ t.0 = cc in
    ap₂ (λ z zs. z ∷ zs) (one x y s.0 (p.1 ∙ ap Some first) s.1) (same_each form one xs ys t.0 (q.1 ∙ ap Some others) t.1)

one_array : {A : Type 0} (t : ObjectType) (form : A → Option (List ℕ)) → IsOneToOne form → IsOneToOne (array_form (type_text t) form)
one_array t form one xs ys bytes e f =
    let p = bind_some (each form xs) (container_form (type_text t)) bytes e in
    let q = bind_some (each form ys) (container_form (type_text t)) bytes f in
    let rows : p.0 ≡ q.0 = one_container t p.0 q.0 bytes p.2 q.2 in
    same_each form one xs ys q.0 (p.1 ∙ ap Some rows) q.1

pub one_xattr : IsOneToOne xattr_form
one_xattr x y bytes e f =
    let same : x.name ∷ x.value ∷ [] ≡ y.name ∷ y.value ∷ [] = one_container types.Xattr (x.name ∷ x.value ∷ []) (y.name ∷ y.value ∷ []) bytes e f in
    let names : x.name ≡ y.name = cc in
    let values : x.value ≡ y.value = cc in
    ap₂ (λ (n : List ℕ) (v : List ℕ). let r : Xattr = record { name = n; value = v } in r) names values

pub one_xattrs : IsOneToOne xattrs_form
one_xattrs = one_array types.Xattrs xattr_form one_xattr

file_parts : (i : FileItem) (bytes : List ℕ) → file_form i ≡ Some bytes → (n : List ℕ) × (text_bytes i.name ≡ Some n) × (container_form (type_text types.File) (n ∷ i.file ∷ []) ≡ Some bytes)
file_parts i bytes e = bind_some (text_bytes i.name) (λ n. container_form (type_text types.File) (n ∷ i.file ∷ [])) bytes e

pub one_file : IsOneToOne file_form
one_file x y bytes e f =
    let p = file_parts x bytes e in
    let q = file_parts y bytes f in
    let same : p.0 ∷ x.file ∷ [] ≡ q.0 ∷ y.file ∷ [] = one_container types.File (p.0 ∷ x.file ∷ []) (q.0 ∷ y.file ∷ []) bytes p.2 q.2 in
    let texts : p.0 ≡ q.0 = cc in
    let sums : x.file ≡ y.file = cc in
    ap₂ (λ (n : List ℕ) (s : List ℕ). let r : FileItem = record { name = n; file = s } in r) (one_text x.name y.name q.0 (p.1 ∙ ap Some texts) q.1) sums

folder_parts : (i : FolderItem) (bytes : List ℕ) → folder_form i ≡ Some bytes → (n : List ℕ) × (text_bytes i.name ≡ Some n) × (container_form (type_text types.Folder) (n ∷ i.tree ∷ i.meta ∷ []) ≡ Some bytes)
folder_parts i bytes e = bind_some (text_bytes i.name) (λ n. container_form (type_text types.Folder) (n ∷ i.tree ∷ i.meta ∷ [])) bytes e

pub one_folder : IsOneToOne folder_form
one_folder x y bytes e f =
    let p = folder_parts x bytes e in
    let q = folder_parts y bytes f in
    let same : p.0 ∷ x.tree ∷ x.meta ∷ [] ≡ q.0 ∷ y.tree ∷ y.meta ∷ [] = one_container types.Folder (p.0 ∷ x.tree ∷ x.meta ∷ []) (q.0 ∷ y.tree ∷ y.meta ∷ []) bytes p.2 q.2 in
    let texts : p.0 ≡ q.0 = cc in
    let trees : x.tree ≡ y.tree = cc in
    let metas : x.meta ≡ y.meta = cc in
    let names : x.name ≡ y.name = one_text x.name y.name q.0 (p.1 ∙ ap Some texts) q.1 in
    ap₂ (λ (n : List ℕ) (s : List ℕ × List ℕ). let r : FolderItem = record { name = n; tree = s.0; meta = s.1 } in r) names (ap₂ (λ (s : List ℕ) (m : List ℕ). (s, m)) trees metas)

pub one_tree : IsOneToOne tree_form
one_tree x y bytes e f =
    let p = bind_some (files_form x.files) (λ f. option_and_then (λ d. container_form (type_text types.DirTree) (f ∷ d ∷ [])) (folders_form x.folders)) bytes e in
    let q = bind_some (folders_form x.folders) (λ d. container_form (type_text types.DirTree) (p.0 ∷ d ∷ [])) bytes p.2 in
    let s = bind_some (files_form y.files) (λ f. option_and_then (λ d. container_form (type_text types.DirTree) (f ∷ d ∷ [])) (folders_form y.folders)) bytes f in
    let t = bind_some (folders_form y.folders) (λ d. container_form (type_text types.DirTree) (s.0 ∷ d ∷ [])) bytes s.2 in
    let same : p.0 ∷ q.0 ∷ [] ≡ s.0 ∷ t.0 ∷ [] = one_container types.DirTree (p.0 ∷ q.0 ∷ []) (s.0 ∷ t.0 ∷ []) bytes q.2 t.2 in
    let files : p.0 ≡ s.0 = cc in
    let folders : q.0 ≡ t.0 = cc in
    ap₂ (λ (a : List FileItem) (b : List FolderItem). let r : Entries = record { files = a; folders = b } in r)
    (one_array types.Files file_form one_file x.files y.files s.0 (p.1 ∙ ap Some files) s.1)
    (one_array types.Folders folder_form one_folder x.folders y.folders t.0 (q.1 ∙ ap Some folders) t.1)

-- what was written is all that has these bytes
pub own_from : {A : Type 0} (form : A → Option (List ℕ)) → IsOneToOne form → (r : Result (List ℕ) NoMemory) (x : A) → IfOk r (λ b. form x ≡ Some b) → IfOk r (λ b. (y : A) → form y ≡ Some b → y ≡ x)
own_from form one (Ok b) x e = λ y f. one y x b f e
own_from form one (Err e) x h = tt
