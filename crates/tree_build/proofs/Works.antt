-- The list of all objects in parts, and what is made as the way goes on.
use Rattle.std.proofs.Common.{◌≡◌, ◌⊎◌, inl, inr, ℕ, zero, suc, ◌<◌, ◌+◌, List, [], ◌∷◌, ◌++◌, length, get_or, take, drop, reverse, map, Option, Some, None, refl, sym, ◌∙◌, ap, subst, arith}
use Rattle.std.proofs.lemmas.List.{append-nil, append_assoc, map-append, reverse-append, take-append-drop, drop_more, length-append}
use Rattle.sha2.specs.Sha256.{sha256}
use Rattle.ost_forms.specs.declared.tree_item.BodySpec.{BodySpec}
use Rattle.ost_forms.specs.declared.tree_item.TreeItem.{TreeItem}
use Rattle.tree_build.specs.declared.progress.Done.{Done}
use Rattle.tree_build.specs.declared.sums.Sums.TheVariants.{File, Folder}
use Rattle.tree_build.specs.Objects.{Object, Made, made, sums_by, work, objects_of, objects_by, file_bytes, meta_bytes, tree_bytes, file_object, tree_object, meta_object}
use Rattle.tree_build.specs.Building.{IsNumber, pending, left_by, path_at, seen, all_seen}
use Rattle.tree_build.proofs.Lists.{number_at}

pub work_front : (front items : List TreeItem) → (xs : List Object) × (work (front ++ items) ≡ work items ++ xs)
unfolding work
work_front [] items = ([], sym (append-nil (work items)))
work_front (j ∷ front) items =
    let w = work_front front items in
    let os = objects_of (made (front ++ items)) j in
    (w.0 ++ os, ap (λ r. r ++ os) w.1 ∙ append_assoc (work items) w.0 os)

pub work_first : (i : TreeItem) (items : List TreeItem) → work (i ∷ items) ≡ work items ++ objects_of (made items) i
unfolding work
work_first i items = refl

number_in : {A : Type 0} (xs ws : List A) (n : ℕ) (x : A) → ws ≡ xs → IsNumber xs n x → IsNumber ws n x
number_in xs ws n x e h = subst (λ l. IsNumber l n x) (sym e) h

-- the first object of an item comes behind those of the items behind it, and the second behind the first
pub number_first : (front : List TreeItem) (i : TreeItem) (items : List TreeItem) (o : Object) (os : List Object) → objects_of (made items) i ≡ o ∷ os → IsNumber (work (front ++ i ∷ items)) (length (work items)) o
number_first front i items o os is =
    let w = work_front front (i ∷ items) in
    let e : work (front ++ i ∷ items) ≡ work items ++ o ∷ (os ++ w.0) =
    w.1 ∙ ap (λ r. r ++ w.0) (work_first i items ∙ ap (λ r. work items ++ r) is) ∙ append_assoc (work items) (o ∷ os) w.0
    in
    number_in _ _ _ o e (number_at (work items) o (os ++ w.0) (length (work items)) refl)

pub number_second : (front : List TreeItem) (i : TreeItem) (items : List TreeItem) (o p : Object) (os : List Object) → objects_of (made items) i ≡ o ∷ p ∷ os → IsNumber (work (front ++ i ∷ items)) (length (work items) + 1) p
number_second front i items o p os is =
    let w = work_front front (i ∷ items) in
    let e : work (front ++ i ∷ items) ≡ (work items ++ o ∷ []) ++ p ∷ (os ++ w.0) =
    w.1 ∙ ap (λ r. r ++ w.0) (work_first i items ∙ ap (λ r. work items ++ r) is) ∙ append_assoc (work items) (o ∷ p ∷ os) w.0 ∙ sym (append_assoc (work items) (o ∷ []) (p ∷ (os ++ w.0)))
    in
    number_in _ _ _ p e (number_at (work items ++ o ∷ []) p (os ++ w.0) (length (work items) + 1) (sym (length-append (work items) (o ∷ []))))

pub body_cases : (b : Option BodySpec) → (b ≡ None) ⊎ ((body : BodySpec) × (b ≡ Some body))
body_cases None = inl refl
body_cases (Some body) = inr (body, refl)

pub objects_file : (ms : List Made) (i : TreeItem) (body : BodySpec) → i.body ≡ Some body → objects_of ms i ≡ file_object (file_bytes i.meta body) ∷ []
objects_file ms i body is = ap (objects_by ms i.path i.meta) is

pub objects_folder : (ms : List Made) (i : TreeItem) → i.body ≡ None → objects_of ms i ≡ tree_object (tree_bytes ms i.path) ∷ meta_object (meta_bytes i.meta) ∷ []
objects_folder ms i is = ap (objects_by ms i.path i.meta) is

pub work_file : (i : TreeItem) (items : List TreeItem) (body : BodySpec) → i.body ≡ Some body → length (work (i ∷ items)) ≡ length (work items) + 1
work_file i items body is = ap length (work_first i items ∙ ap (λ r. work items ++ r) (objects_file (made items) i body is)) ∙ length-append (work items) (file_object (file_bytes i.meta body) ∷ [])

pub work_folder : (i : TreeItem) (items : List TreeItem) → i.body ≡ None → length (work (i ∷ items)) ≡ length (work items) + 2
work_folder i items is =
    ap length (work_first i items ∙ ap (λ r. work items ++ r) (objects_folder (made items) i is)) ∙ length-append (work items) (tree_object (tree_bytes (made items) i.path) ∷ meta_object (meta_bytes i.meta) ∷ [])

-- ---- what is seen of the places

pub seen_more : (items : List TreeItem) (ds : List Done) (d : Done) → all_seen items (ds ++ d ∷ []) ≡ seen items d ∷ all_seen items ds
seen_more items ds d = ap reverse (map-append (seen items) ds (d ∷ [])) ∙ reverse-append (map (seen items) ds) (seen items d ∷ [])

pub seen_parts : (items : List TreeItem) (ds es : List Done) → all_seen items (ds ++ es) ≡ all_seen items es ++ all_seen items ds
seen_parts items ds es = ap reverse (map-append (seen items) ds es) ∙ reverse-append (map (seen items) ds) (map (seen items) es)

pub path_at_is : (items : List TreeItem) (n : ℕ) (i : TreeItem) → n < length items → i ≡ get_or items n i → path_at items n ≡ i.path
path_at_is [] n i inside is = absurd (omega (arith, inside))
path_at_is (j ∷ items) zero i inside is = ap (λ (k : TreeItem). k.path) (sym is)
path_at_is (j ∷ items) (suc n) i inside is = path_at_is items n i (omega (arith, inside)) is

pub drop_at : (items : List TreeItem) (n : ℕ) (i : TreeItem) → n < length items → i ≡ get_or items n i → drop n items ≡ i ∷ drop (n + 1) items
drop_at items n i inside is = drop_more items n i inside ∙ ap (λ k. k ∷ drop (n + 1) items) (sym is)

pub split_by : (items : List TreeItem) (n : ℕ) (i : TreeItem) (rest : List TreeItem) → drop n items ≡ i ∷ rest → items ≡ take n items ++ i ∷ rest
split_by items n i rest e = sym (take-append-drop n items) ∙ ap (λ r. take n items ++ r) e

pub read_by : (items : List TreeItem) (n : ℕ) (i : TreeItem) (rest : List TreeItem) (d : TreeItem) → drop n items ≡ i ∷ rest → (n < length items) × (get_or items n d ≡ i)
read_by [] zero i rest d e = cc
read_by [] (suc n) i rest d e = cc
read_by (j ∷ items) zero i rest d e = (omega arith, cc)
read_by (j ∷ items) (suc n) i rest d e = let r = read_by items n i rest d e in (omega (arith, r.0), r.1)

pub pending_file : (i : TreeItem) (items : List TreeItem) (body : BodySpec) → i.body ≡ Some body → pending (i ∷ items) ≡ record { path = i.path; sums = File (sha256 (file_bytes i.meta body)) } ∷ pending items
unfolding pending
pending_file i items body is = ap (λ b. record { path = i.path; sums = sums_by (made items) i.path i.meta b } ∷ left_by i.path b (pending items)) is

pub pending_folder : (i : TreeItem) (items : List TreeItem) → i.body ≡ None
    → pending (i ∷ items) ≡ record { path = i.path; sums = Folder (sha256 (tree_bytes (made items) i.path)) (sha256 (meta_bytes i.meta)) } ∷ left_by i.path i.body (pending items)
unfolding pending
pending_folder i items is = ap (λ s. record { path = i.path; sums = s } ∷ left_by i.path i.body (pending items)) (ap (sums_by (made items) i.path i.meta) is)
