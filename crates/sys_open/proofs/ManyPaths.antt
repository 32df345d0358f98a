-- Where the places are that have many names.
use Rattle.std.proofs.Common.{◌≡◌, ◌⊎◌, inl, inr, ◌≤◌, ◌+◌, ℕ, true, refl, sym, ◌∙◌, ap, subst, arith, List, [], ◌∷◌, ◌++◌, length, codes, append_assoc, length-append}
use Rattle.std.proofs.lemmas.List.{append_cancel_left}
use Rattle.ost_types.specs.Path.{Name, Path, IsPath, is_below, joined, text_of, under}
use Rattle.ost_types.specs.Text.{IsName}
use Rattle.ost_types.proofs.Joined.{IsPath-under, joined-push}
use Rattle.repo_layout.specs.declared.folder.Folder.{Folder}
use Rattle.repo_layout.specs.declared.folder.Folder.TheVariants as layout
use Rattle.repo_layout.specs.BootPaths.{kernel_folder, kernel_path}
use Rattle.repo_layout.specs.Paths.{folder_path, mark_path}
use Rattle.repo_layout.proofs.KnownPaths.{folder-known}
use Rattle.layout_rules.proofs.Layouts.{below_split, split_below}
use Rattle.layout_rules.specs.declared.many.Many.{Many}
use Rattle.layout_rules.specs.declared.many.Many.TheVariants.{Kernels, Stateroots, Objects, Marks}
use Rattle.layout_rules.specs.declared.rule.Rule.{Rule}
use Rattle.layout_rules.specs.declared.rule.Rule.TheVariants.{FileOrNothing, FolderOrNothing, NoFolder}
use Rattle.layout_rules.specs.Many.{IsCopyName, IsIn, IsKernelName, IsMarkName, IsNameOf, IsOfKernel, folder_of}

pub same_under : (f : Path) (x y : Name) (r s : Path) → under f x ++ r ≡ under f y ++ s → (x ≡ y) × (r ≡ s)
same_under f x y r s e =
    let c : x ∷ r ≡ y ∷ s = append_cancel_left f (x ∷ r) (y ∷ s) (sym (append_assoc f (x ∷ []) r) ∙ e ∙ append_assoc f (y ∷ []) s) in
    let a : x ≡ y = cc in
    let b : r ≡ s = cc in
    (a, b)

-- each is under a name of theirs in their folder
of_kernel : (os : Name) (bootcsum : List ℕ) (rule : Rule) (p : Path) → IsOfKernel (kernel_path os bootcsum) rule p → (rest : Path) × (p ≡ under (folder_path layout.Kernels) (kernel_folder os bootcsum) ++ rest)
unfolding kernel_path
of_kernel os bootcsum rule p (inl is) = ([], is.1)
of_kernel os bootcsum rule p (inr is) = (is.1.0 ∷ [], is.1.2)

of_stateroot : (os : Name) (p : Path) → (p ≡ under (folder_path layout.Deploy) os) ⊎ (p ≡ under (under (folder_path layout.Deploy) os) (codes "deploy")) → (rest : Path) × (p ≡ under (folder_path layout.Deploy) os ++ rest)
of_stateroot os p (inl is) = ([], is)
of_stateroot os p (inr is) = (codes "deploy" ∷ [], is)

pub name_first : (many : Many) (rule : Rule) (p : Path) → IsIn many rule p → (x : Name) × IsNameOf many x × ((rest : Path) × (p ≡ under (folder_path (folder_of many)) x ++ rest))
unfolding mark_path
name_first Kernels rule p is = (kernel_folder is.0 is.2.0, (is.0, is.1, (is.2.0, is.2.1, refl)), of_kernel is.0 is.2.0 rule p is.2.2)
name_first Stateroots rule p is = (is.1.0, is.1.1, of_stateroot is.1.0 p is.1.2)
name_first Objects rule p is = (is.1.0, is.1.1, ([], is.1.2))
name_first Marks rule p is = (_, (is.1.0, is.1.1, refl), ([], is.1.2))

pub in_folder : (many : Many) (rule : Rule) (p : Path) → IsIn many rule p → is_below (folder_path (folder_of many)) p ≡ true
in_folder many rule p is =
    let f = folder_path (folder_of many) in
    let at = name_first many rule p is in
    subst (λ q. is_below f q ≡ true) (sym (at.2.1 ∙ append_assoc f (at.0 ∷ []) at.2.0)) (split_below f (at.0 ∷ at.2.0))

longer : (f : Path) (x : Name) (rest : Path) → f ≡ under f x ++ rest → ⊥
longer f x rest e =
    let n : length (under f x ++ rest) ≡ length (under f x) + length rest = length-append (under f x) rest in
    let m : length (under f x) ≡ length f + 1 = length-append f (x ∷ []) in
    omega (arith, ap length e, n, m)

pub not_folder : (many : Many) (rule : Rule) → IsIn many rule (folder_path (folder_of many)) → ⊥
not_folder many rule is = let at = name_first many rule (folder_path (folder_of many)) is in longer (folder_path (folder_of many)) at.0 at.2.0 at.2.1

pub not_named : (many : Many) (x : Name) → (IsNameOf many x → ⊥) → (rule : Rule) (q : Path) → is_below (under (folder_path (folder_of many)) x) q ≡ true → IsIn many rule q → ⊥
not_named many x none rule q below is =
    let f = folder_path (folder_of many) in
    let at = name_first many rule q is in
    let s = below_split (under f x) q below in
    none (subst (IsNameOf many) (sym (same_under f x at.0 s.0 at.2.0 (sym s.1 ∙ at.2.1)).0) at.1)

-- what is asked at a name and below it
pub rule_of_object : (x : Name) (rest : Path) (rule : Rule) → IsIn Objects rule (under (folder_path layout.Objects) x ++ rest) → (rule ≡ FolderOrNothing) × (rest ≡ [])
rule_of_object x rest rule is = (is.0, (same_under (folder_path layout.Objects) x is.1.0 rest [] is.1.2).1)

pub rule_of_mark : (x : Name) (rest : Path) (rule : Rule) → IsIn Marks rule (under (folder_path layout.State) x ++ rest) → (rule ≡ FileOrNothing) × (rest ≡ [])
unfolding mark_path
rule_of_mark x rest rule is = (is.0, (same_under (folder_path layout.State) x _ rest [] is.1.2).1)

pub mark_in : (x : Name) → IsMarkName x → IsIn Marks FileOrNothing (under (folder_path layout.State) x)
unfolding mark_path
mark_in x is = (refl, (is.0, is.1, ap (under (folder_path layout.State)) is.2))

pub rule_of_stateroot : (x : Name) (rest : Path) (rule : Rule) → IsIn Stateroots rule (under (folder_path layout.Deploy) x ++ rest) → (rule ≡ FolderOrNothing) × ((rest ≡ []) ⊎ (rest ≡ codes "deploy" ∷ []))
rule_of_stateroot x rest rule is = (is.0, by is.1.2)
  where
    by : (under (folder_path layout.Deploy) x ++ rest ≡ under (folder_path layout.Deploy) is.1.0) ⊎ (under (folder_path layout.Deploy) x ++ rest ≡ under (under (folder_path layout.Deploy) is.1.0) (codes "deploy")) → (rest ≡ []) ⊎ (rest ≡ codes "deploy" ∷ [])
    by (inl e) = inl (same_under (folder_path layout.Deploy) x is.1.0 rest [] e).1
    by (inr e) = inr (same_under (folder_path layout.Deploy) x is.1.0 rest (codes "deploy" ∷ []) e).1

abbrev pub OfKernel : Path → Rule → Type 0
OfKernel rest rule = ((rule ≡ FolderOrNothing) × (rest ≡ [])) ⊎ ((rule ≡ NoFolder) × ((name : Name) × IsCopyName name × (rest ≡ name ∷ [])))

pub rule_of_kernel : (x : Name) (rest : Path) (rule : Rule) → IsIn Kernels rule (under (folder_path layout.Kernels) x ++ rest) → OfKernel rest rule
unfolding kernel_path
rule_of_kernel x rest rule is = by is.2.2
  where
    by : IsOfKernel (under (folder_path layout.Kernels) (kernel_folder is.0 is.2.0)) rule (under (folder_path layout.Kernels) x ++ rest) → OfKernel rest rule
    by (inl e) = inl (e.0, (same_under (folder_path layout.Kernels) x (kernel_folder is.0 is.2.0) rest [] e.1).1)
    by (inr e) = inr (e.0, (e.1.0, e.1.1, (same_under (folder_path layout.Kernels) x (kernel_folder is.0 is.2.0) rest (e.1.0 ∷ []) e.1.2).1))

pub kernel_in : (x : Name) → IsKernelName x → IsIn Kernels FolderOrNothing (under (folder_path layout.Kernels) x)
unfolding kernel_path
kernel_in x is = (is.0, is.1, (is.2.0, is.2.1, inl (refl, ap (under (folder_path layout.Kernels)) is.2.2)))

pub copy_in : (x y : Name) → IsKernelName x → IsCopyName y → IsIn Kernels NoFolder (under (under (folder_path layout.Kernels) x) y)
unfolding kernel_path
copy_in x y is copy = (is.0, is.1, (is.2.0, is.2.1, inr (refl, (y, copy, ap (λ z. under (under (folder_path layout.Kernels) z) y) is.2.2))))

-- all of them are paths
pub joined_within : (p : Path) → length (joined p) ≤ length (text_of p)
unfolding joined
joined_within [] = omega arith
joined_within (x ∷ p) = omega arith

pub known_child : (f : Folder) (x : Name) → IsName x → IsPath (under (folder_path f) x)
known_child f x is =
    let k = folder-known f in
    (IsPath-under (folder_path f) x (record { names = k.names; few = omega (arith, k.few); short = omega (arith, k.short) }) is).0
    (omega (arith, k.few), omega (arith, k.short, joined_within (folder_path f), is.short))

pub known_grandchild : (f : Folder) (x y : Name) → IsName x → IsName y → IsPath (under (under (folder_path f) x) y)
known_grandchild f x y is_x is_y =
    let k = folder-known f in
    let n : length (under (folder_path f) x) ≡ length (folder_path f) + 1 = length-append (folder_path f) (x ∷ []) in
    let t : length (joined (under (folder_path f) x)) ≡ length (joined (folder_path f)) + length (47 ∷ x) = ap length (joined-push (folder_path f) x) ∙ length-append (joined (folder_path f)) (47 ∷ x) in
    (IsPath-under (under (folder_path f) x) y (known_child f x is_x) is_y).0
    (omega (arith, n, k.few), omega (arith, t, k.short, joined_within (folder_path f), is_x.short, is_y.short))

pub deploy_is_name : IsName (codes "deploy")
deploy_is_name = (folder-known layout.Deploy).names.1.0
