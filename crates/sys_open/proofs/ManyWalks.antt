-- What walks over the places of many names tell.
use Rattle.std.proofs.Common.{◌≡◌, ◌⊎◌, inl, inr, ◌<◌, ◌≤◌, ◌+◌, ℕ, true, false, refl, sym, ◌∙◌, ap, subst, arith, List, [], ◌∷◌, ◌++◌, length, get_or, codes, append-nil, Result, Ok, Err}
use Rattle.std.proofs.lemmas.List.{get_or-map, length-map}
use Rattle.std.specs.Cmp.Lexicographic.{slice_cmp}
use Rattle.std.specs.Ordering.{nat_cmp}
use Rattle.std.specs.List.Sorted.{IsStrictlySortedBy}
use Rattle.std.specs.declared.cmp.Ordering.TheVariants.{Less}
use Rattle.ost_types.specs.Path.{Name, Path, is_below, path_cmp, under}
use Rattle.fs_trait.specs.declared.types.Value.TheVariants.{Absent}
use Rattle.fs_trait.specs.View.{Disk}
use Rattle.fs_trait.specs.Image.{is_folder, IsTree}
use Rattle.fs_trait.specs.Effect.{IsListing}
use Rattle.repo_layout.specs.declared.folder.Folder.TheVariants as layout
use Rattle.repo_layout.specs.OsName.{IsOsName}
use Rattle.repo_layout.specs.Paths.{folder_path}
use Rattle.layout_rules.proofs.Layouts.{below_split, split_below}
use Rattle.sys_open.specs.declared.fault.OpenFault.{OpenFault}
use Rattle.sys_open.specs.declared.fault.OpenFault.TheVariants as fault
use Rattle.sys_open.specs.declared.fault.Why.TheVariants.{WrongKind}
use Rattle.layout_rules.specs.declared.many.Many.{Many}
use Rattle.layout_rules.specs.declared.many.Many.TheVariants.{Kernels, Stateroots, Objects, Marks}
use Rattle.layout_rules.specs.declared.rule.Rule.TheVariants.{FileOrNothing, FolderOrNothing, NoFolder}
use Rattle.layout_rules.specs.Checks.{AsksIn, Suits}
use Rattle.layout_rules.specs.Many.{IsCopyName, IsKernelName, IsMarkName, IsNameOf, IsTwoDigits, folder_of}
use Rattle.sys_open.specs.Walk.{IsSoBelow, Looked, Walked, paths_in}
use Rattle.layout_rules.proofs.Suiting.{absent_suits}
use Rattle.sys_open.proofs.FaultLemmas.{look_same}
use Rattle.sys_open.proofs.ManyPaths.{OfKernel, copy_in, in_folder, kernel_in, mark_in, not_folder, not_named, rule_of_kernel, rule_of_mark, rule_of_object, rule_of_stateroot}
use Rattle.sys_open.proofs.Orders.{not_less_itself}
use Rattle.sys_open.proofs.ReachedPlaces.{walked_here, walked_later, walked_all}

pub vacant : (d : Disk) (many : Many) (q : Path) → d.at q ≡ Absent → AsksIn many d q
vacant d many q none = λ rule is. absent_suits rule (d.at q) none

pub folder_free : (d : Disk) (many : Many) → AsksIn many d (folder_path (folder_of many))
folder_free d many = λ rule is. absurd (not_folder many rule is)

pub passed : (d : Disk) (many : Many) (x : Name) → (IsNameOf many x → ⊥) → IsSoBelow (AsksIn many d) (under (folder_path (folder_of many)) x)
passed d many x none q below = λ rule is. absurd (not_named many x none rule q below is)

root : (q : Path) → is_below [] q ≡ true
unfolding is_below
root q = refl

-- what a walk over the folder tells holds of all paths
pub widen : (T : Type 0) (d : Disk) (many : Many) (r : Result T OpenFault) → Walked (AsksIn many d) WrongKind (folder_path (folder_of many)) r → Walked (AsksIn many d) WrongKind [] r
widen T d many (Ok x) walked = λ q below rule is. walked q (in_folder many rule q is) rule is
widen T d many (Err fault.Disk) walked = tt
widen T d many (Err fault.NoMemory) walked = tt
widen T d many (Err (fault.Outside p)) walked = walked
widen T d many (Err (fault.Damaged p y)) walked = (walked.0, record { below = root p; wrong = walked.1.wrong; least = λ q below less rule is. walked.1.least q (in_folder many rule q is) less rule is })

so_below : (So : Path → Type 0) (at : Path) → So at → ((x : Name) (rest : Path) → So (at ++ x ∷ rest)) → IsSoBelow So at
so_below So at here below q under_at = by (below_split at q under_at)
  where
    by : (rest : Path) × (q ≡ at ++ rest) → So q
    by ([], e) = subst So (sym (e ∙ append-nil at)) here
    by (x ∷ rest, e) = subst So (sym e) (below x rest)

-- nothing is asked below
one_place : (T : Type 0) (So : Path → Type 0) (A : Type 0) (at : Path) (r : Result T OpenFault) → (A → So at) → (So at → A) → ((x : Name) (rest : Path) → So (at ++ x ∷ rest)) → Looked A WrongKind at r → Walked So WrongKind at r
one_place T So A at (Ok x) to from below looked = so_below So at (to looked) below
one_place T So A at (Err f) to from below looked = walked_here T T So WrongKind at f (look_same {T = T} A (So at) WrongKind at (Err f) to from looked)

no_more : {A : Type 0} (x : Name) (rest : Path) → x ∷ rest ≡ [] → A
no_more x rest e = cc

no_names : {A : Type 0} (x y z : Name) (rest : Path) → x ∷ y ∷ rest ≡ z ∷ [] → A
no_names x y z rest e = cc

module _ (T : Type 0) (d : Disk) (x : Name) (r : Result T OpenFault) where
  pub object_walk : IsTwoDigits x → Looked (Suits FolderOrNothing (d.at (under (folder_path layout.Objects) x))) WrongKind (under (folder_path layout.Objects) x) r → Walked (AsksIn Objects d) WrongKind (under (folder_path layout.Objects) x) r
  object_walk is looked =
      let at = under (folder_path layout.Objects) x in
      one_place T (AsksIn Objects d) (Suits FolderOrNothing (d.at at)) at r
      (λ suits rule asked. subst (λ y. Suits y (d.at at)) (sym asked.0) suits)
      (λ so. so FolderOrNothing (refl, (x, is, refl)))
      (λ y rest rule asked. no_more y rest (rule_of_object x (y ∷ rest) rule asked).1)
      looked

  pub mark_walk : IsMarkName x → Looked (Suits FileOrNothing (d.at (under (folder_path layout.State) x))) WrongKind (under (folder_path layout.State) x) r → Walked (AsksIn Marks d) WrongKind (under (folder_path layout.State) x) r
  mark_walk is looked =
      let at = under (folder_path layout.State) x in
      one_place T (AsksIn Marks d) (Suits FileOrNothing (d.at at)) at r
      (λ suits rule asked. subst (λ y. Suits y (d.at at)) (sym asked.0) suits)
      (λ so. so FileOrNothing (mark_in x is))
      (λ y rest rule asked. no_more y rest (rule_of_mark x (y ∷ rest) rule asked).1)
      looked

-- as they are told of a name in the folder
module _ (T : Type 0) (d : Disk) (folder : Path) (x : Name) (r : Result T OpenFault) where
  pub object_told : (many : Many) → many ≡ Objects → folder ≡ folder_path (folder_of many) → IsNameOf many x → Looked (Suits FolderOrNothing (d.at (under folder x))) WrongKind (under folder x) r → Walked (AsksIn many d) WrongKind (under folder x) r
  object_told Objects e same named looked = subst (λ f. Walked (AsksIn Objects d) WrongKind (under f x) r) (sym same) (object_walk T d x r named (subst (λ f. Looked (Suits FolderOrNothing (d.at (under f x))) WrongKind (under f x) r) same looked))
  object_told Kernels e same named looked = let n : Kernels ≡ Objects = e in cc
  object_told Stateroots e same named looked = let n : Stateroots ≡ Objects = e in cc
  object_told Marks e same named looked = let n : Marks ≡ Objects = e in cc

  pub mark_told : (many : Many) → many ≡ Marks → folder ≡ folder_path (folder_of many) → IsNameOf many x → Looked (Suits FileOrNothing (d.at (under folder x))) WrongKind (under folder x) r → Walked (AsksIn many d) WrongKind (under folder x) r
  mark_told Marks e same named looked = subst (λ f. Walked (AsksIn Marks d) WrongKind (under f x) r) (sym same) (mark_walk T d x r named (subst (λ f. Looked (Suits FileOrNothing (d.at (under f x))) WrongKind (under f x) r) same looked))
  mark_told Kernels e same named looked = let n : Kernels ≡ Marks = e in cc
  mark_told Stateroots e same named looked = let n : Stateroots ≡ Marks = e in cc
  mark_told Objects e same named looked = let n : Objects ≡ Marks = e in cc

-- stateroots
module _ (d : Disk) (os : Name) (is : IsOsName os) where
  abbrev at_root : Path
  at_root = under (folder_path layout.Deploy) os

  abbrev at_deploy : Path
  at_deploy = under at_root (codes "deploy")

  pub stateroot_first : (T U : Type 0) (f : OpenFault) → Looked {T = T} (Suits FolderOrNothing (d.at at_root)) WrongKind at_root (Err f) → Walked {T = U} (AsksIn Stateroots d) WrongKind at_root (Err f)
  stateroot_first T U f looked = walked_here T U (AsksIn Stateroots d) WrongKind at_root f (look_same {T = T} (Suits FolderOrNothing (d.at at_root)) (AsksIn Stateroots d at_root) WrongKind at_root (Err f) (λ suits rule asked. subst (λ y. Suits y (d.at at_root)) (sym asked.0) suits) (λ so. so FolderOrNothing (refl, (os, is, inl refl))) looked)

  asked_at : Suits FolderOrNothing (d.at at_root) → (rest : Path) → (rest ≡ codes "deploy" ∷ [] → Suits FolderOrNothing (d.at (at_root ++ rest))) → AsksIn Stateroots d (at_root ++ rest)
  asked_at suits rest deploy rule asked = let r = rule_of_stateroot os rest rule asked in subst (λ y. Suits y (d.at (at_root ++ rest))) (sym r.0) (by r.1)
    where
      by : (rest ≡ []) ⊎ (rest ≡ codes "deploy" ∷ []) → Suits FolderOrNothing (d.at (at_root ++ rest))
      by (inl e) = subst (λ y. Suits FolderOrNothing (d.at (at_root ++ y))) (sym e) suits
      by (inr e) = deploy e

  pub stateroot_walk : (T : Type 0) (r : Result T OpenFault) → Suits FolderOrNothing (d.at at_root) → Looked (Suits FolderOrNothing (d.at at_deploy)) WrongKind at_deploy r → Walked (AsksIn Stateroots d) WrongKind at_root r
  stateroot_walk T (Ok x) suits looked = λ q below. let s = below_split at_root q below in subst (AsksIn Stateroots d) (sym s.1) (asked_at suits s.0 (λ e. subst (λ y. Suits FolderOrNothing (d.at (at_root ++ y))) (sym e) looked))
  stateroot_walk T (Err fault.Disk) suits looked = tt
  stateroot_walk T (Err fault.NoMemory) suits looked = tt
  stateroot_walk T (Err (fault.Outside p)) suits looked = looked
  stateroot_walk T (Err (fault.Damaged p y)) suits looked = (
    looked.0,
    record {
      below = subst (λ q. is_below at_root q ≡ true) (sym looked.1) (split_below at_root (codes "deploy" ∷ []));
      wrong = λ so. looked.2 (subst (λ q. Suits FolderOrNothing (d.at q)) looked.1 (so FolderOrNothing (refl, (os, is, inr looked.1))));
      least = λ q below less. let s = below_split at_root q below in subst (AsksIn Stateroots d) (sym s.1) (asked_at suits s.0 (λ e. absurd (not_less_itself p (subst (λ z. path_cmp z p ≡ Less) (s.1 ∙ ap (λ y. at_root ++ y) e ∙ sym looked.1) less))));
    },
  )

  module _ (at : Path) (same : at ≡ at_root) where
    pub stateroot_err : (T U : Type 0) (f : OpenFault) → Looked {T = T} (Suits FolderOrNothing (d.at at)) WrongKind at (Err f) → Walked {T = U} (AsksIn Stateroots d) WrongKind at (Err f)
    stateroot_err T U f looked = subst (λ p. Walked {T = U} (AsksIn Stateroots d) WrongKind p (Err f)) (sym same) (stateroot_first T U f (subst (λ p. Looked {T = T} (Suits FolderOrNothing (d.at p)) WrongKind p (Err f)) same looked))

    pub stateroot_walk_at : (T : Type 0) (r : Result T OpenFault) → Suits FolderOrNothing (d.at at) → Looked (Suits FolderOrNothing (d.at (under at (codes "deploy")))) WrongKind (under at (codes "deploy")) r → Walked (AsksIn Stateroots d) WrongKind at r
    stateroot_walk_at T r suits looked = subst (λ p. Walked (AsksIn Stateroots d) WrongKind p r) (sym same) (stateroot_walk T r (subst (λ p. Suits FolderOrNothing (d.at p)) same suits) (subst (λ p. Looked (Suits FolderOrNothing (d.at (under p (codes "deploy")))) WrongKind (under p (codes "deploy")) r) same looked))

-- kernels' copies
module _ (d : Disk) (x : Name) (is : IsKernelName x) where
  abbrev at_kernel : Path
  at_kernel = under (folder_path layout.Kernels) x

  kernel_asks : Suits FolderOrNothing (d.at at_kernel) → AsksIn Kernels d at_kernel
  kernel_asks suits rule asked = by (rule_of_kernel x [] rule asked)
    where
      by : OfKernel [] rule → Suits rule (d.at at_kernel)
      by (inl r) = subst (λ y. Suits y (d.at at_kernel)) (sym r.0) suits
      by (inr r) = no_more r.1.0 [] (sym r.1.2)

  pub kernel_look : {T : Type 0} (r : Result T OpenFault) → Looked (Suits FolderOrNothing (d.at at_kernel)) WrongKind at_kernel r → Looked (AsksIn Kernels d at_kernel) WrongKind at_kernel r
  kernel_look {T} r looked = look_same {T = T} (Suits FolderOrNothing (d.at at_kernel)) (AsksIn Kernels d at_kernel) WrongKind at_kernel r kernel_asks (λ so. so FolderOrNothing (kernel_in x is)) looked

  module _ (at : Path) (same : at ≡ at_kernel) where
    kernel_look_at : {T : Type 0} (r : Result T OpenFault) → Looked (Suits FolderOrNothing (d.at at)) WrongKind at r → Looked (AsksIn Kernels d at) WrongKind at r
    kernel_look_at {T} r looked = subst (λ p. Looked (AsksIn Kernels d p) WrongKind p r) (sym same) (kernel_look r (subst (λ p. Looked (Suits FolderOrNothing (d.at p)) WrongKind p r) same looked))

    pub kernel_err : (T U : Type 0) (f : OpenFault) → Looked {T = T} (Suits FolderOrNothing (d.at at)) WrongKind at (Err f) → Walked {T = U} (AsksIn Kernels d) WrongKind at (Err f)
    kernel_err T U f looked = walked_here T U (AsksIn Kernels d) WrongKind at f (kernel_look_at {T = T} (Err f) looked)

    pub kernel_here : Suits FolderOrNothing (d.at at) → AsksIn Kernels d at
    kernel_here suits = kernel_look_at {T = Unit {0}} (Ok tt) suits

  module _ (y : Name) where
    abbrev at_copy : Path
    at_copy = under at_kernel y

    copy_asks : IsCopyName y → Suits NoFolder (d.at at_copy) → AsksIn Kernels d at_copy
    copy_asks copy suits rule asked = by (rule_of_kernel x (y ∷ []) rule asked)
      where
        by : OfKernel (y ∷ []) rule → Suits rule (d.at at_copy)
        by (inl r) = no_more y [] r.1
        by (inr r) = subst (λ z. Suits z (d.at at_copy)) (sym r.0) suits

    below_copy : (z : Name) (rest : Path) → AsksIn Kernels d (at_copy ++ z ∷ rest)
    below_copy z rest rule asked = by (rule_of_kernel x (y ∷ z ∷ rest) rule asked)
      where
        by : OfKernel (y ∷ z ∷ rest) rule → Suits rule (d.at (at_copy ++ z ∷ rest))
        by (inl r) = no_more y (z ∷ rest) r.1
        by (inr r) = no_names y z r.1.0 rest r.1.2

    pub copy_walk : (T : Type 0) (r : Result T OpenFault) → IsCopyName y → Looked (Suits NoFolder (d.at at_copy)) WrongKind at_copy r → Walked (AsksIn Kernels d) WrongKind at_copy r
    copy_walk T r copy looked = one_place T (AsksIn Kernels d) (Suits NoFolder (d.at at_copy)) at_copy r (copy_asks copy) (λ so. so NoFolder (copy_in x y is copy)) below_copy looked

    no_copy : (IsCopyName y → ⊥) → AsksIn Kernels d at_copy
    no_copy none rule asked = by (rule_of_kernel x (y ∷ []) rule asked)
      where
        by : OfKernel (y ∷ []) rule → Suits rule (d.at at_copy)
        by (inl r) = no_more y [] r.1
        by (inr r) = let e : y ≡ r.1.0 = same y r.1.0 r.1.2 in absurd (none (subst IsCopyName (sym e) r.1.1))
          where
            same : (a b : Name) → a ∷ [] ≡ b ∷ [] → a ≡ b
            same a b e = cc

    pub copy_passed : (IsCopyName y → ⊥) → IsSoBelow (AsksIn Kernels d) at_copy
    copy_passed none = so_below (AsksIn Kernels d) at_copy (no_copy none) below_copy

    module _ (folder : Path) (same : folder ≡ at_kernel) where
      pub copy_walk_at : (T : Type 0) (r : Result T OpenFault) → IsCopyName y → Looked (Suits NoFolder (d.at (under folder y))) WrongKind (under folder y) r → Walked (AsksIn Kernels d) WrongKind (under folder y) r
      copy_walk_at T r copy looked = subst (λ f. Walked (AsksIn Kernels d) WrongKind (under f y) r) (sym same) (copy_walk T r copy (subst (λ f. Looked (Suits NoFolder (d.at (under f y))) WrongKind (under f y) r) same looked))

      pub copy_passed_at : (IsCopyName y → ⊥) → IsSoBelow (AsksIn Kernels d) (under folder y)
      copy_passed_at none = subst (λ f. IsSoBelow (AsksIn Kernels d) (under f y)) (sym same) (copy_passed none)

-- what was found at the first so many names in a folder
abbrev pub SoFirst : (Path → Type 0) → Path → List Name → ℕ → Type 0
SoFirst So at names i = (k : ℕ) → k < i → IsSoBelow So (get_or (paths_in at names) k [])

module _ (So : Path → Type 0) (at : Path) (names : List Name) (i : ℕ) (x : Name) (inside : i < length names) (is : x ≡ get_or names i x) where
  path_at : (y : Path) → get_or (paths_in at names) i y ≡ under at x
  path_at y = get_or-map (under at) names i x y inside ∙ ap (under at) (sym is)

  pub more_first : IsSoBelow So (under at x) → SoFirst So at names i → SoFirst So at names (i + 1)
  more_first here before k within = by (order k i within)
    where
      order : (k i : ℕ) → k < i + 1 → (k < i) ⊎ (k ≡ i)
      order k i within = grind (arith, within)

      by : (k < i) ⊎ (k ≡ i) → IsSoBelow So (get_or (paths_in at names) k [])
      by (inl earlier) = before k earlier
      by (inr same) = subst (λ j. IsSoBelow So (get_or (paths_in at names) j [])) (sym same) (subst (IsSoBelow So) (sym (path_at [])) here)

  pub first_wrong : (T : Type 0) (d : Disk) → IsTree d → ((q : Path) → d.at q ≡ Absent → So q) → IsListing d at names → So at → SoFirst So at names i → (f : OpenFault) → Walked {T = T} So WrongKind (under at x) (Err f) → Walked {T = T} So WrongKind at (Err f)
  first_wrong T d tree none listing here before f walked =
      walked_later d tree So none WrongKind at (paths_in at names) names refl listing here i before T (omega (arith, inside, length-map names (under at))) f (under at x) (sym (path_at (under at x))) walked

pub all_first : (So : Path → Type 0) (d : Disk) → IsTree d → ((q : Path) → d.at q ≡ Absent → So q) → (at : Path) (names : List Name) → IsListing d at names → So at → (i : ℕ) → SoFirst So at names i → length names ≤ i → IsSoBelow So at
all_first So d tree none at names listing here i before le = walked_all d tree So none WrongKind at (paths_in at names) names refl listing here i before (omega (arith, le, length-map names (under at)))

nothing_sorted : IsStrictlySortedBy (slice_cmp nat_cmp) []
unfolding IsStrictlySortedBy
nothing_sorted = tt

-- where no folder stands there are no names
pub none_listed : (d : Disk) → IsTree d → (at : Path) (names : List Name) → names ≡ [] → is_folder (d.at at) ≡ false → IsListing d at names
none_listed d tree at names are none = subst (IsListing d at) (sym are) (record { ascending = nothing_sorted; there = λ x has. absurd (omega (arith, has.1)); all = λ x there. absurd (there (tree.folders at x none)) })
