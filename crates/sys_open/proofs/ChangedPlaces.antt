-- Which places an opening changes, and which rules are for none of them.
use Rattle.std.proofs.Common.{◌≡◌, ◌⊎◌, inl, inr, ◌<◌, ℕ, Bool, true, false, if◌then◌else◌, refl, sym, ◌∙◌, ap, subst, arith, List, [], ◌∷◌, ◌++◌, append-nil, codes}
use Rattle.ost_types.specs.Path.{Name, Path, IsPath, is_below, same_path, under}
use Rattle.ost_types.proofs.Paths.{is_below-self}
use Rattle.ost_types.specs.declared.object.ObjName.{ObjName}
use Rattle.fs_trait.specs.View.{Disk}
use Rattle.fs_trait.specs.Seen.{Seen}
use Rattle.repo_layout.specs.declared.fixed.Fixed.TheVariants as fixed
use Rattle.repo_layout.specs.declared.fixed.Version.{Version}
use Rattle.repo_layout.specs.declared.fixed.Version.TheVariants.{Zero, One}
use Rattle.repo_layout.specs.declared.folder.Folder.{Folder}
use Rattle.repo_layout.specs.declared.folder.Folder.TheVariants as layout
use Rattle.repo_layout.specs.BootPaths.{boot_folder_path, kernel_path, loader_folder_path}
use Rattle.repo_layout.specs.Fixed.{number}
use Rattle.repo_layout.specs.Paths.{config_path, folder_path, in_repo, mark_path, stage_path}
use Rattle.repo_layout.specs.Place.{Place, BootFolder, BootLink, BootLinkStage, Checkout, Config, Deployment, Etc, KernelCopy, Loader, LoaderFolder, LoaderStage, Mark, Object, ObjectsFolder, Origin, Other, Ref, Stage, Staged, Summary, place, deploy_place, object_place, ostree_place, repo_place}
use Rattle.repo_layout.specs.RefFile.{IsSum}
use Rattle.repo_layout.proofs.KnownPaths.{config-known}
use Rattle.repo_layout.proofs.Places.{place-boot_folder, place-boot_link, place-config, place-kernel, place-loader_folder, place-mark, place-object, place-stage, place-summary}
use Rattle.repo_model.specs.Objects.{path_of}
use Rattle.layout_rules.specs.declared.many.Many.{Many}
use Rattle.layout_rules.specs.declared.many.Many.TheVariants.{Kernels, Stateroots, Objects, Marks}
use Rattle.layout_rules.specs.declared.rule.Rule.{Rule}
use Rattle.layout_rules.specs.declared.spot.Spot.{Spot}
use Rattle.layout_rules.specs.declared.spot.Spot.TheVariants.{Laid, Known}
use Rattle.layout_rules.specs.Checks.{IsFor}
use Rattle.layout_rules.specs.Many.{IsIn, IsOfKernel, stateroot_path}
use Rattle.layout_rules.specs.Spots.{spot_path}
use Rattle.layout_rules.proofs.Layouts.{below_split, fixed_other}
use Rattle.layout_rules.proofs.RulePlaces.{no_stage}
use Rattle.layout_rules.proofs.Sanes.{stage_is_path}
use Rattle.repo_config.specs.Config.{config_text}
use Rattle.repo_config.proofs.NewConfig.{new_is}
use Rattle.staged_file.specs.Steps.{IsFileWith}
use Rattle.sys_open.specs.Damages.{ShowsConfig}
use Rattle.sys_open.specs.Changes.{Changes, Puts, PutsConfig, file_meta}
use Rattle.rely_guarantee.specs.Rely.{IsBoot}
use Rattle.sys_open.proofs.LeftOvers.{lies_boot}

pub config_is_path : IsPath config_path
config_is_path = let k = config-known in record { names = k.names; few = omega (arith, k.few); short = omega (arith, k.short) }

pub staged_place : (actor : ℕ) (p : Path) → actor < 16 → is_below (stage_path actor) p ≡ true → place p ≡ Stage actor
staged_place actor p small below = let s = below_split (stage_path actor) p below in ap place s.1 ∙ place-stage actor s.0 (omega (arith, small))

pub stage_place_is : (actor : ℕ) (p : Path) → actor < 16 → p ≡ stage_path actor → place p ≡ Stage actor
stage_place_is actor p small e = staged_place actor p small (subst (λ q. is_below (stage_path actor) q ≡ true) (sym e) (is_below-self (stage_path actor)))

abbrev PutsAt : Path → Seen → Type 0
PutsAt p s = Puts (stage_path 0) config_path file_meta config_text p s

-- a place at which an opening may write
abbrev IsOpenedAt : Place → Type 0
IsOpenedAt Config = Unit {0}
IsOpenedAt (Stage actor) = Unit {0}
IsOpenedAt x = IsBoot x

opened_at : (p : Path) (x : Place) → place p ≡ x → IsOpenedAt x → IsOpenedAt (place p)
opened_at p x is here = subst IsOpenedAt (sym is) here

puts_place : (d : Disk) (p : Path) (s : Seen) → PutsConfig d p s → IsOpenedAt (place p)
puts_place d p s puts = by puts.puts
  where
    by : PutsAt p s → IsOpenedAt (place p)
    by (inl staged) = opened_at p (Stage 0) (stage_place_is 0 p (omega arith) staged.0) tt
    by (inr put) = opened_at p Config (ap place put.0 ∙ place-config) tt

boot_opened : (x : Place) → IsBoot x → IsOpenedAt x
boot_opened Config is = tt
boot_opened (Stage a) is = tt
boot_opened (Ref n) is = is
boot_opened (ObjectsFolder g) is = is
boot_opened (Object k c) is = is
boot_opened (Mark c) is = is
boot_opened Summary is = is
boot_opened (Deployment o c n r) is = is
boot_opened (Etc o c n r) is = is
boot_opened (Origin o c n) is = is
boot_opened Staged is = is
boot_opened (BootLink n) is = is
boot_opened BootLinkStage is = is
boot_opened (BootFolder n m r) is = is
boot_opened Loader is = is
boot_opened LoaderStage is = is
boot_opened (LoaderFolder n r) is = is
boot_opened (KernelCopy o c r) is = is
boot_opened (Checkout n r) is = is
boot_opened (Other p) is = is

changed_place : (d : Disk) (p : Path) (s : Seen) → Changes d p s → IsOpenedAt (place p)
changed_place d p s (inl lays) = opened_at p (Other (folder_path lays.0.0)) (ap place lays.0.1 ∙ fixed_other lays.0.0 (folder_path lays.0.0) (is_below-self (folder_path lays.0.0))) tt
changed_place d p s (inr (inl clears)) = opened_at p (Stage clears.0) (staged_place clears.0 p clears.1 clears.2.0) tt
changed_place d p s (inr (inr (inl puts))) = puts_place d p s puts
changed_place d p s (inr (inr (inr cleared))) = boot_opened (place p) (lies_boot d p cleared.0)

-- neither an object, a mark nor a ref is written
pub object_unchanged : (d : Disk) (name : ObjName) (s : Seen) → IsSum name.csum → Changes d (path_of name) s → ⊥
object_unchanged d name s sum changes = let n : IsOpenedAt (Object name.kind name.csum) = subst IsOpenedAt (place-object name.kind name.csum sum) (changed_place d (path_of name) s changes) in n

pub mark_unchanged : (d : Disk) (commit : List ℕ) (s : Seen) → IsSum commit → Changes d (mark_path commit) s → ⊥
mark_unchanged d commit s sum changes = let n : IsOpenedAt (Mark commit) = subst IsOpenedAt (place-mark commit sum) (changed_place d (mark_path commit) s changes) in n

-- no folder of the layout stands where the configuration is put
pub laid_not_put : (d : Disk) (f : Folder) (p : Path) (s : Seen) → p ≡ folder_path f → PutsConfig d p s → ⊥
laid_not_put d f p s e puts = by puts.puts
  where
    other : place p ≡ Other (folder_path f)
    other = ap place e ∙ fixed_other f (folder_path f) (is_below-self (folder_path f))

    by : PutsAt p s → ⊥
    by (inl staged) = let n : Other (folder_path f) ≡ Stage 0 = sym other ∙ stage_place_is 0 p (omega arith) staged.0 in cc
    by (inr put) = let n : Other (folder_path f) ≡ Config = sym other ∙ (ap place put.0 ∙ place-config) in cc

-- No rule is for the configuration's path.
abbrev IsElse : Place → Type 0
IsElse Config = ⊥
IsElse x = Unit {0}

else_at : (p q : Path) (x : Place) → p ≡ q → place q ≡ x → IsElse x → IsElse (place p)
else_at p q x e is here = subst (λ r. IsElse (place r)) (sym e) (subst IsElse (sym is) here)

either : (b : Bool) (x y : Place) → IsElse x → IsElse y → IsElse (if b then x else y)
either true x y first second = first
either false x y first second = second

one_digit : (version : Version) → number version < 10
one_digit Zero = omega arith
one_digit One = omega arith

spot_else : (spot : Spot) → IsElse (place (spot_path spot))
spot_else (Laid f) = else_at (folder_path f) (folder_path f) (Other (folder_path f)) refl (fixed_other f (folder_path f) (is_below-self (folder_path f))) tt
spot_else (Known (fixed.LoaderFolder version)) = else_at _ _ _ (sym (append-nil (loader_folder_path (number version)))) (place-loader_folder (number version) [] (one_digit version)) tt
spot_else (Known (fixed.Entries version)) = else_at _ _ _ refl (place-loader_folder (number version) (codes "entries" ∷ []) (one_digit version)) tt
spot_else (Known (fixed.BootLink version)) = else_at _ _ _ refl (place-boot_link (number version) (one_digit version)) tt
spot_else (Known (fixed.BootFolder version sub)) = else_at _ _ _ (sym (append-nil (boot_folder_path (number version) (number sub)))) (place-boot_folder (number version) (number sub) [] (one_digit version) (one_digit sub)) tt
spot_else (Known fixed.Summary) = else_at _ _ _ refl place-summary tt

kernel_else : (os : Name) (bootcsum : List ℕ) (rule : Rule) (p : Path) → IsSum bootcsum → IsOfKernel (kernel_path os bootcsum) rule p → IsElse (place p)
kernel_else os bootcsum rule p sum (inl is) = else_at p (kernel_path os bootcsum ++ []) _ (subst (λ q. p ≡ q) (sym (append-nil (kernel_path os bootcsum))) is.1) (place-kernel os bootcsum [] sum) tt
kernel_else os bootcsum rule p sum (inr is) = else_at p _ _ is.1.2 (place-kernel os bootcsum (is.1.0 ∷ []) sum) tt

root_place : (os : Name) → place (stateroot_path os) ≡ Other (stateroot_path os)
unfolding place ostree_place deploy_place
root_place os = refl

deploy_folder_place : (os : Name) → place (under (stateroot_path os) (codes "deploy")) ≡ Other (under (stateroot_path os) (codes "deploy"))
unfolding place ostree_place deploy_place
deploy_folder_place os = refl

stateroot_else : (os : Name) (p : Path) → (p ≡ stateroot_path os) ⊎ (p ≡ under (stateroot_path os) (codes "deploy")) → IsElse (place p)
stateroot_else os p (inl is) = else_at p _ _ is (root_place os) tt
stateroot_else os p (inr is) = else_at p _ _ is (deploy_folder_place os) tt

abbrev digits_path : Name → Path
digits_path digits = under (folder_path layout.Objects) digits

digits_place : (digits : Name) → place (digits_path digits) ≡ (if same_path (in_repo (codes "objects" ∷ digits ∷ [])) (digits_path digits) then ObjectsFolder digits else Other (digits_path digits))
unfolding place ostree_place repo_place object_place
digits_place digits = refl

many_else : (many : Many) (rule : Rule) (p : Path) → IsIn many rule p → IsElse (place p)
many_else Kernels rule p is = kernel_else is.0 is.2.0 rule p is.2.1 is.2.2
many_else Stateroots rule p is = stateroot_else is.1.0 p is.1.2
many_else Objects rule p is = else_at p _ _ is.1.2 (digits_place is.1.0) (either (same_path (in_repo (codes "objects" ∷ is.1.0 ∷ [])) (digits_path is.1.0)) (ObjectsFolder is.1.0) (Other (digits_path is.1.0)) tt tt)
many_else Marks rule p is = else_at p _ _ is.1.2 (place-mark is.1.0 is.1.1) tt

rule_else : (rule : Rule) (p : Path) → IsFor rule p → IsElse (place p)
rule_else rule p (inl w) = subst (λ q. IsElse (place q)) (sym w.2) (spot_else w.0)
rule_else rule p (inr w) = many_else w.0 rule p w.1

-- and none for a path at which the configuration is put
pub no_rule : (rule : Rule) (d : Disk) (p : Path) (s : Seen) → IsFor rule p → PutsConfig d p s → ⊥
no_rule rule d p s is puts = by puts.puts
  where
    by : PutsAt p s → ⊥
    by (inl staged) = no_stage rule p 0 is (stage_place_is 0 p (omega arith) staged.0)
    by (inr put) = let n : IsElse Config = subst IsElse (ap place put.0 ∙ place-config) (rule_else rule p is) in n

pub put_is_path : (d : Disk) (p : Path) (s : Seen) → PutsConfig d p s → IsPath p
put_is_path d p s puts = by puts.puts
  where
    by : PutsAt p s → IsPath p
    by (inl staged) = subst IsPath (sym staged.0) (stage_is_path 0 (omega arith))
    by (inr put) = subst IsPath (sym put.0) config_is_path

-- What comes at the configuration's path is one.
pub put_shows : (s : Seen) → IsFileWith file_meta config_text s → ShowsConfig s
put_shows s file = subst ShowsConfig (sym file.1) new_is

pub config_put : (d : Disk) (s : Seen) → Changes d config_path s → ShowsConfig s
config_put d s changes = by changes
  where
    put : PutsAt config_path s → ShowsConfig s
    put (inl staged) = let n : Config ≡ Stage 0 = sym place-config ∙ stage_place_is 0 config_path (omega arith) staged.0 in cc
    put (inr is) = put_shows s is.1

    by : Changes d config_path s → ShowsConfig s
    by (inl lays) = let n : Config ≡ Other (folder_path lays.0.0) = sym place-config ∙ ap place lays.0.1 ∙ fixed_other lays.0.0 (folder_path lays.0.0) (is_below-self (folder_path lays.0.0)) in cc
    by (inr (inl clears)) = let n : Config ≡ Stage clears.0 = sym place-config ∙ staged_place clears.0 config_path clears.1 clears.2.0 in cc
    by (inr (inr (inl puts))) = put puts.puts
    by (inr (inr (inr cleared))) = let n : IsBoot Config = subst IsBoot place-config (lies_boot d config_path cleared.0) in absurd n
