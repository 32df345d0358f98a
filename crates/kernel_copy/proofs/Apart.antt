-- The paths of the copies, of their folder and of the objects are different ones; and their order.
use Rattle.std.proofs.Common.{◌≡◌, ◌≢◌, ℕ, ◌+◌, true, false, List, [], ◌∷◌, ◌++◌, length, slice_index, codes, refl, sym, ◌∙◌, ap, subst, arith, length-append}
use Rattle.std.specs.Fmt.{decimal}
use Rattle.std.specs.Ordering.{ordering_then}
use Rattle.std.specs.declared.cmp.Ordering.TheVariants.{Less, Equal, Greater}
use Rattle.std.proofs.lemmas.List.{append_cancel_left}
use Rattle.std.proofs.lemmas.Cmp.{nat_list_cmp_total, lists_total, tied_itself}
use Rattle.ost_types.specs.Path.{Name, Path, path_cmp, under, is_in, is_below}
use Rattle.ost_types.proofs.Paths.{under-is_in, is_below-under, is_below-self}
use Rattle.fs_trait.proofs.Claims.{is_below-before}
use Rattle.fs_trait.proofs.Images.{not_both}
use Rattle.repo_layout.specs.BootPaths.{kernel_path}
use Rattle.repo_layout.specs.Paths.{in_repo, object_path, stage_path}
use Rattle.kernel_copy.specs.declared.files.KernelFiles.{KernelFiles}
use Rattle.kernel_copy.specs.Copies.{file_path, initramfs_name, initramfs_path, vmlinuz_name, vmlinuz_path}
use Rattle.kernel_copy.specs.Work.{IsPlaced}

-- ---- in a folder

pub names_apart : (kver : Name) → vmlinuz_name kver ≢ initramfs_name kver
names_apart kver e = let n : 118 ≡ 105 = ap (λ l. slice_index l 0) e in omega (arith, n)

pub under_apart : (f : Path) (x y : Name) → x ≢ y → under f x ≢ under f y
under_apart f x y apart e = let s : x ∷ [] ≡ y ∷ [] = append_cancel_left f (x ∷ []) (y ∷ []) e in apart cc

pub copies_apart : (os : Name) (files : KernelFiles) → vmlinuz_path os files ≢ initramfs_path os files
copies_apart os files = under_apart (kernel_path os files.bootcsum) (vmlinuz_name files.kver) (initramfs_name files.kver) (names_apart files.kver)

length_under : (f : Path) (x : Name) → length (under f x) ≡ length f + 1
length_under f x = length-append f (x ∷ [])

-- what is above a folder isn't in it
pub above_apart : (f p : Path) (x : Name) → is_in p f ≡ true → p ≢ under f x
above_apart f p x in_ e =
    let w = under-is_in p f in_ in
    omega (arith, ap length w.1, length_under p w.0, ap length e, length_under f x)

-- ---- the objects

pub object_apart : (sum os bootcsum : List ℕ) (rest : Path) → file_path sum ≢ kernel_path os bootcsum ++ rest
unfolding object_path kernel_path
object_apart sum os bootcsum rest e =
    let head : codes "ostree" ≡ codes "boot" = cc in
    let n : 6 ≡ 4 = ap length head in
    omega (arith, n)

pub object_folder : (sum os bootcsum : List ℕ) → file_path sum ≢ kernel_path os bootcsum
unfolding object_path kernel_path
object_folder sum os bootcsum e =
    let head : codes "ostree" ≡ codes "boot" = cc in
    let n : 6 ≡ 4 = ap length head in
    omega (arith, n)

-- ---- the staging path

module _ (stage folder : Path) (outside : is_below folder stage ≡ false) where
  pub stage_folder : folder ≢ stage
  stage_folder e = not_both (subst (λ p. is_below folder p ≡ true) e (is_below-self folder)) outside

  pub stage_copy : (x : Name) → stage ≢ under folder x
  stage_copy x e = not_both (subst (λ p. is_below folder p ≡ true) (sym e) (is_below-before folder (x ∷ []))) outside

  pub above_stage : (p : Path) (x : Name) → is_in p stage ≡ true → p ≢ under folder x
  above_stage p x in_ e =
      let w = under-is_in p stage in_ in
      let below : is_below folder p ≡ true = subst (λ q. is_below folder q ≡ true) (sym e) (is_below-before folder (x ∷ [])) in
      not_both (subst (λ q. is_below folder q ≡ true) (sym w.1) (is_below-under folder p w.0 below)) outside

  pub above_folder : (p : Path) → is_in p stage ≡ true → p ≢ folder
  above_folder p in_ e =
      let w = under-is_in p stage in_ in
      let below : is_below folder p ≡ true = subst (λ q. is_below folder q ≡ true) (sym e) (is_below-self folder) in
      not_both (subst (λ q. is_below folder q ≡ true) (sym w.1) (is_below-under folder p w.0 below)) outside

-- an actor's staging path lies so
pub actor_stage : (actor : ℕ) (os : Name) (files : KernelFiles) → IsPlaced (stage_path actor) os files
unfolding stage_path object_path kernel_path is_below
actor_stage actor os files = record {
  inside = (in_repo (codes "tmp" ∷ []), codes "actor-" ++ decimal actor, refl);
  outside = refl;
  objects = λ at sum for_ e. let third : codes "objects" ≡ codes "tmp" = cc in let n : 7 ≡ 3 = ap length third in omega (arith, n);
}

-- ---- their order

in_folder : (f : Path) (x y : Name) → path_cmp (under f x) (under f y) ≡ path_cmp (x ∷ []) (y ∷ [])
in_folder [] x y = refl
in_folder (a ∷ f) x y = ap (λ o. ordering_then o (path_cmp (under f x) (under f y))) (tied_itself nat_list_cmp_total a) ∙ in_folder f x y

pub kernel_later : (os : Name) (files : KernelFiles) → path_cmp (vmlinuz_path os files) (initramfs_path os files) ≡ Greater
kernel_later os files = in_folder (kernel_path os files.bootcsum) (vmlinuz_name files.kver) (initramfs_name files.kver)

pub not_less_itself : (p : Path) → path_cmp p p ≢ Less
not_less_itself p e = let f : path_cmp p p ≡ Equal = tied_itself (lists_total nat_list_cmp_total) p in let g : Less ≡ Equal = sym e ∙ f in cc
