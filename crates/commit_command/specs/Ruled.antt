-- What the build of a commit writes suits the layout.
use Rattle.std.proofs.Common.{◌≡◌, ◌⊎◌, inl, inr, ◌<◌, ℕ, Bool, true, false, if◌then◌else◌, refl, sym, ◌∙◌, ap, subst, arith, List, [], ◌∷◌, ◌++◌, append-nil, codes}
use Rattle.ost_types.specs.Path.{Name, Path, IsPath, same_path, under}
use Rattle.ost_types.proofs.HexSums.{IsHexSum-hex_of}
use Rattle.ost_types.proofs.Paths.{is_below-self}
use Rattle.ost_types.specs.declared.object.Kind.{Kind}
use Rattle.fs_trait.specs.Seen.{Seen, Vacant, Directory, Symlink, Leaf, IsDirectory}
use Rattle.repo_layout.specs.declared.fixed.Fixed.TheVariants as fixed
use Rattle.repo_layout.specs.declared.fixed.Version.{Version}
use Rattle.repo_layout.specs.declared.fixed.Version.TheVariants.{Zero, One}
use Rattle.repo_layout.specs.declared.folder.Folder.TheVariants as layout
use Rattle.repo_layout.specs.BootPaths.{boot_folder_path, kernel_path, loader_folder_path}
use Rattle.repo_layout.specs.Fixed.{number}
use Rattle.repo_layout.specs.Paths.{folder_path, in_repo, object_path, objects_folder_path, stage_path}
use Rattle.repo_layout.specs.Place.{Place, Object, ObjectsFolder, Other, Stage, place, deploy_place, object_place, ostree_place, repo_place}
use Rattle.repo_layout.specs.RefFile.{IsSum}
use Rattle.repo_layout.proofs.KnownPaths.{object-known, objects_folder-known, stage-known}
use Rattle.repo_layout.proofs.Places.{place-boot_folder, place-boot_link, place-kernel, place-loader_folder, place-mark, place-object, place-objects_folder, place-summary}
use Rattle.layout_rules.specs.declared.many.Many.{Many}
use Rattle.layout_rules.specs.declared.many.Many.TheVariants.{Kernels, Stateroots, Objects, Marks}
use Rattle.layout_rules.specs.declared.rule.Rule.{Rule}
use Rattle.layout_rules.specs.declared.rule.Rule.TheVariants.{FolderOrNothing}
use Rattle.layout_rules.specs.declared.spot.Spot.{Spot}
use Rattle.layout_rules.specs.declared.spot.Spot.TheVariants.{Laid, Known}
use Rattle.layout_rules.specs.Checks.{IsFor}
use Rattle.layout_rules.specs.InLayout.{InLayout, SuitsSeen}
use Rattle.layout_rules.specs.Many.{IsIn, IsOfKernel, stateroot_path}
use Rattle.layout_rules.specs.Spots.{spot_path}
use Rattle.layout_rules.proofs.Layouts.{fixed_other}
use Rattle.layout_rules.proofs.Suiting.{vacant_suits}
use Rattle.layout_rules.proofs.RulePlaces.{no_stage}

-- no rule is for an object's path, and for its folder's only the one that a folder stands there
abbrev Allows : Rule → Place → Type 0
Allows rule (Object kind sum) = ⊥
Allows rule (ObjectsFolder digits) = rule ≡ FolderOrNothing
Allows rule x = Unit {0}

allows_at : (rule : Rule) (p q : Path) (x : Place) → p ≡ q → place q ≡ x → Allows rule x → Allows rule (place p)
allows_at rule p q x e is here = subst (λ r. Allows rule (place r)) (sym e) (subst (Allows rule) (sym is) here)

either : (rule : Rule) (b : Bool) (x y : Place) → Allows rule x → Allows rule y → Allows rule (if b then x else y)
either rule true x y first second = first
either rule false x y first second = second

one_digit : (version : Version) → number version < 10
one_digit Zero = omega arith
one_digit One = omega arith

spot_allows : (rule : Rule) (spot : Spot) → Allows rule (place (spot_path spot))
spot_allows rule (Laid f) = allows_at rule (folder_path f) (folder_path f) (Other (folder_path f)) refl (fixed_other f (folder_path f) (is_below-self (folder_path f))) tt
spot_allows rule (Known (fixed.LoaderFolder version)) = allows_at rule _ _ _ (sym (append-nil (loader_folder_path (number version)))) (place-loader_folder (number version) [] (one_digit version)) tt
spot_allows rule (Known (fixed.Entries version)) = allows_at rule _ _ _ refl (place-loader_folder (number version) (codes "entries" ∷ []) (one_digit version)) tt
spot_allows rule (Known (fixed.BootLink version)) = allows_at rule _ _ _ refl (place-boot_link (number version) (one_digit version)) tt
spot_allows rule (Known (fixed.BootFolder version sub)) = allows_at rule _ _ _ (sym (append-nil (boot_folder_path (number version) (number sub)))) (place-boot_folder (number version) (number sub) [] (one_digit version) (one_digit sub)) tt
spot_allows rule (Known fixed.Summary) = allows_at rule _ _ _ refl place-summary tt

kernel_allows : (os : Name) (bootcsum : List ℕ) (rule : Rule) (p : Path) → IsSum bootcsum → IsOfKernel (kernel_path os bootcsum) rule p → Allows rule (place p)
kernel_allows os bootcsum rule p sum (inl is) = allows_at rule p (kernel_path os bootcsum ++ []) _ (subst (λ q. p ≡ q) (sym (append-nil (kernel_path os bootcsum))) is.1) (place-kernel os bootcsum [] sum) tt
kernel_allows os bootcsum rule p sum (inr is) = allows_at rule p _ _ is.1.2 (place-kernel os bootcsum (is.1.0 ∷ []) sum) tt

root_place : (os : Name) → place (stateroot_path os) ≡ Other (stateroot_path os)
unfolding place ostree_place deploy_place
root_place os = refl

deploy_folder_place : (os : Name) → place (under (stateroot_path os) (codes "deploy")) ≡ Other (under (stateroot_path os) (codes "deploy"))
unfolding place ostree_place deploy_place
deploy_folder_place os = refl

stateroot_allows : (rule : Rule) (os : Name) (p : Path) → (p ≡ stateroot_path os) ⊎ (p ≡ under (stateroot_path os) (codes "deploy")) → Allows rule (place p)
stateroot_allows rule os p (inl is) = allows_at rule p _ _ is (root_place os) tt
stateroot_allows rule os p (inr is) = allows_at rule p _ _ is (deploy_folder_place os) tt

abbrev digits_path : Name → Path
digits_path digits = under (folder_path layout.Objects) digits

digits_place : (digits : Name) → place (digits_path digits) ≡ (if same_path (in_repo (codes "objects" ∷ digits ∷ [])) (digits_path digits) then ObjectsFolder digits else Other (digits_path digits))
unfolding place ostree_place repo_place object_place
digits_place digits = refl

many_allows : (many : Many) (rule : Rule) (p : Path) → IsIn many rule p → Allows rule (place p)
many_allows Kernels rule p is = kernel_allows is.0 is.2.0 rule p is.2.1 is.2.2
many_allows Stateroots rule p is = stateroot_allows rule is.1.0 p is.1.2
many_allows Objects rule p is = allows_at rule p _ _ is.1.2 (digits_place is.1.0) (either rule (same_path (in_repo (codes "objects" ∷ is.1.0 ∷ [])) (digits_path is.1.0)) (ObjectsFolder is.1.0) (Other (digits_path is.1.0)) is.0 tt)
many_allows Marks rule p is = allows_at rule p _ _ is.1.2 (place-mark is.1.0 is.1.1) tt

rule_allows : (rule : Rule) (p : Path) → IsFor rule p → Allows rule (place p)
rule_allows rule p (inl w) = subst (λ q. Allows rule (place q)) (sym w.2) (spot_allows rule w.0)
rule_allows rule p (inr w) = many_allows w.0 rule p w.1

folder_seen : (s : Seen) → IsDirectory s → SuitsSeen FolderOrNothing s
folder_seen (Directory m) is = tt
folder_seen Vacant is = absurd is
folder_seen (Symlink m l) is = absurd is
folder_seen (Leaf n m b) is = absurd is

pub stage_fits : (actor : ℕ) (p : Path) (s : Seen) → actor < 16 → place p ≡ Stage actor → p ≡ stage_path actor → InLayout p s
stage_fits actor p s few at e = record {
  suits = λ rule is. absurd (no_stage rule p actor is at);
  bounds = λ there. subst IsPath (sym e) (let k = stage-known actor few in record { names = k.names; few = omega (arith, k.few); short = omega (arith, k.short) });
}

pub folder_fits : (sum : List ℕ) (p : Path) (s : Seen) → IsSum sum → p ≡ objects_folder_path sum → IsDirectory s → InLayout p s
folder_fits sum p s is e directory =
    let at = ap place e ∙ place-objects_folder sum in
    let k = objects_folder-known sum (IsHexSum-hex_of sum is.whole is.bytes) in
    record {
      suits = λ rule for. (let same : rule ≡ FolderOrNothing = subst (Allows rule) at (rule_allows rule p for) in subst (λ r. SuitsSeen r s) (sym same) (folder_seen s directory));
      bounds = λ there. subst IsPath (sym e) (record { names = k.names; few = omega (arith, k.few); short = omega (arith, k.short) });
    }

pub object_fits : (kind : Kind) (sum : List ℕ) (p : Path) (s : Seen) → IsSum sum → p ≡ object_path kind sum → InLayout p s
object_fits kind sum p s is e =
    let at = ap place e ∙ place-object kind sum is in
    let k = object-known kind sum (IsHexSum-hex_of sum is.whole is.bytes) in
    record {
      suits = λ rule for. (let n : Allows rule (Object kind sum) = subst (Allows rule) at (rule_allows rule p for) in absurd n);
      bounds = λ there. subst IsPath (sym e) (record { names = k.names; few = omega (arith, k.few); short = omega (arith, k.short) });
    }

pub gone_fits : (p : Path) (s : Seen) → s ≡ Vacant → InLayout p s
gone_fits p s e = record {
  suits = λ rule is. subst (SuitsSeen rule) (sym e) (vacant_suits rule);
  bounds = λ there. absurd (there e);
}
