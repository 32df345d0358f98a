-- A rule is for no ref's path, for no staging path, and for no path in a checkout.
use Rattle.std.proofs.Common.{◌≡◌, ◌≢◌, ◌⊎◌, inl, inr, ◌<◌, ℕ, Bool, true, false, if◌then◌else◌, refl, sym, subst, arith, List, [], ◌∷◌, ◌++◌, append-nil, codes}
use Rattle.ost_types.specs.Path.{Name, Path, same_path, under}
use Rattle.ost_types.proofs.Paths.{is_below-self}
use Rattle.repo_layout.specs.declared.fixed.Fixed.TheVariants as fixed
use Rattle.repo_layout.specs.declared.fixed.Version.{Version}
use Rattle.repo_layout.specs.declared.fixed.Version.TheVariants.{Zero, One}
use Rattle.repo_layout.specs.declared.folder.Folder.TheVariants as layout
use Rattle.repo_layout.specs.BootPaths.{boot_folder_path, kernel_path, loader_folder_path}
use Rattle.repo_layout.specs.Fixed.{number}
use Rattle.repo_layout.specs.Paths.{folder_path, in_repo}
use Rattle.repo_layout.specs.Place.{Place, Checkout, ObjectsFolder, Other, Ref, Stage, place, deploy_place, object_place, ostree_place, repo_place}
use Rattle.repo_layout.specs.RefFile.{IsSum}
use Rattle.repo_layout.proofs.Places.{place-boot_folder, place-boot_link, place-kernel, place-loader_folder, place-mark, place-summary}
use Rattle.layout_rules.specs.declared.many.Many.{Many}
use Rattle.layout_rules.specs.declared.many.Many.TheVariants.{Kernels, Stateroots, Objects, Marks}
use Rattle.layout_rules.specs.declared.rule.Rule.{Rule}
use Rattle.layout_rules.specs.declared.spot.Spot.{Spot}
use Rattle.layout_rules.specs.declared.spot.Spot.TheVariants.{Laid, Known}
use Rattle.layout_rules.specs.Checks.{IsFor}
use Rattle.layout_rules.specs.Many.{IsIn, IsOfKernel, stateroot_path}
use Rattle.layout_rules.specs.Spots.{spot_path}
use Rattle.layout_rules.proofs.Layouts.{fixed_other}

-- none of these
abbrev IsElse : Place → Type 0
IsElse (Stage actor) = ⊥
IsElse (Ref name) = ⊥
IsElse (Checkout name rest) = ⊥
IsElse x = Unit {0}

else_at : (p q : Path) (x : Place) → p ≡ q → place q ≡ x → IsElse x → IsElse (place p)
else_at p q x e is here = subst (λ r. IsElse (place r)) (sym e) (subst IsElse (sym is) here)

either : (b : Bool) (x y : Place) → IsElse x → IsElse y → IsElse (if b then x else y)
either true x y first second = first
either false x y first second = second

one_digit : (version : Version) → number version < 10
one_digit Zero = omega arith
one_digit One = omega arith

spot_else : (spot : Spot) → IsElse (place (spot_path spot))
spot_else (Laid f) = else_at (folder_path f) (folder_path f) (Other (folder_path f)) refl (fixed_other f (folder_path f) (is_below-self (folder_path f))) tt
spot_else (Known (fixed.LoaderFolder version)) = else_at _ _ _ (sym (append-nil (loader_folder_path (number version)))) (place-loader_folder (number version) [] (one_digit version)) tt
spot_else (Known (fixed.Entries version)) = else_at _ _ _ refl (place-loader_folder (number version) (codes "entries" ∷ []) (one_digit version)) tt
spot_else (Known (fixed.BootLink version)) = else_at _ _ _ refl (place-boot_link (number version) (one_digit version)) tt
spot_else (Known (fixed.BootFolder version sub)) = else_at _ _ _ (sym (append-nil (boot_folder_path (number version) (number sub)))) (place-boot_folder (number version) (number sub) [] (one_digit version) (one_digit sub)) tt
spot_else (Known fixed.Summary) = else_at _ _ _ refl place-summary tt

kernel_else : (os : Name) (bootcsum : List ℕ) (rule : Rule) (p : Path) → IsSum bootcsum → IsOfKernel (kernel_path os bootcsum) rule p → IsElse (place p)
kernel_else os bootcsum rule p sum (inl is) = else_at p (kernel_path os bootcsum ++ []) _ (subst (λ q. p ≡ q) (sym (append-nil (kernel_path os bootcsum))) is.1) (place-kernel os bootcsum [] sum) tt
kernel_else os bootcsum rule p sum (inr is) = else_at p _ _ is.1.2 (place-kernel os bootcsum (is.1.0 ∷ []) sum) tt

root_place : (os : Name) → place (stateroot_path os) ≡ Other (stateroot_path os)
unfolding place ostree_place deploy_place
root_place os = refl

deploy_folder_place : (os : Name) → place (under (stateroot_path os) (codes "deploy")) ≡ Other (under (stateroot_path os) (codes "deploy"))
unfolding place ostree_place deploy_place
deploy_folder_place os = refl

stateroot_else : (os : Name) (p : Path) → (p ≡ stateroot_path os) ⊎ (p ≡ under (stateroot_path os) (codes "deploy")) → IsElse (place p)
stateroot_else os p (inl is) = else_at p _ _ is (root_place os) tt
stateroot_else os p (inr is) = else_at p _ _ is (deploy_folder_place os) tt

abbrev digits_path : Name → Path
digits_path digits = under (folder_path layout.Objects) digits

digits_place : (digits : Name) → place (digits_path digits) ≡ (if same_path (in_repo (codes "objects" ∷ digits ∷ [])) (digits_path digits) then ObjectsFolder digits else Other (digits_path digits))
unfolding place ostree_place repo_place object_place
digits_place digits = refl

many_else : (many : Many) (rule : Rule) (p : Path) → IsIn many rule p → IsElse (place p)
many_else Kernels rule p is = kernel_else is.0 is.2.0 rule p is.2.1 is.2.2
many_else Stateroots rule p is = stateroot_else is.1.0 p is.1.2
many_else Objects rule p is = else_at p _ _ is.1.2 (digits_place is.1.0) (either (same_path (in_repo (codes "objects" ∷ is.1.0 ∷ [])) (digits_path is.1.0)) (ObjectsFolder is.1.0) (Other (digits_path is.1.0)) tt tt)
many_else Marks rule p is = else_at p _ _ is.1.2 (place-mark is.1.0 is.1.1) tt

rule_else : (rule : Rule) (p : Path) → IsFor rule p → IsElse (place p)
rule_else rule p (inl w) = subst (λ q. IsElse (place q)) (sym w.2) (spot_else w.0)
rule_else rule p (inr w) = many_else w.0 rule p w.1

pub no_ref : (rule : Rule) (p : Path) (name : List ℕ) → IsFor rule p → place p ≢ Ref name
no_ref rule p name is e = let k : IsElse (Ref name) = subst IsElse e (rule_else rule p is) in k

pub no_stage : (rule : Rule) (p : Path) (actor : ℕ) → IsFor rule p → place p ≢ Stage actor
no_stage rule p actor is e = let k : IsElse (Stage actor) = subst IsElse e (rule_else rule p is) in k

pub no_checkout : (rule : Rule) (p : Path) (name : Name) (rest : Path) → IsFor rule p → place p ≢ Checkout name rest
no_checkout rule p name rest is e = let k : IsElse (Checkout name rest) = subst IsElse e (rule_else rule p is) in k
