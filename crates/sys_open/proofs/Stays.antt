-- What stays of deployments and isn't compared with a commit: its paths, as they are gathered.
use Rattle.std.proofs.Common.{◌≡◌, ◌≢◌, ◌⊎◌, inl, inr, ⊎_elim, ◌<◌, ◌≤◌, ◌+◌, ℕ, refl, sym, ◌∙◌, ap, subst, arith, List, [], ◌∷◌, ◌++◌, length, take, get_or}
use Rattle.std.specs.Prelude.{All, Contains}
use Rattle.std.proofs.lemmas.List.{get_or_default, take_all, take_more}
use Rattle.std.proofs.lemmas.List.Elements.{All-contains, All-from_recursion, Contains-push_cases}
use Rattle.ost_types.specs.Path.{Path}
use Rattle.fs_trait.specs.View.{Disk}
use Rattle.repo_layout.specs.declared.fixed.Fixed.{Fixed}
use Rattle.repo_layout.specs.declared.fixed.Fixed.TheVariants.{LoaderFolder, Entries, BootLink, BootFolder, Summary}
use Rattle.repo_layout.specs.declared.fixed.Version.TheVariants.{Zero, One}
use Rattle.repo_layout.specs.BootPaths.{loader_path, origin_path}
use Rattle.repo_layout.specs.Fixed.{fixed_path}
use Rattle.boot_model.specs.declared.item.DepId.{DepId}
use Rattle.deploy_clean.specs.Unlisted.{IsUnlisted}
use Rattle.deployment_check.specs.Deployments.{etc_of}
use Rattle.durable_list.specs.Standing.{HasLoader}
use Rattle.durable_deployments.specs.Bounds.{IsOfBoot, IsVersioned}
use Rattle.sys_open.specs.LeftOver.{AreStaying, Gathers, IsOwnOf, IsOwnPath, IsThere, all_versioned}
use Rattle.sys_open.proofs.Gathering.{gathered_less, gathered_then, one_gathered}

-- ---- of one deployment

module _ (id : DepId) (old one two : List Path) (etc origin : Path) (is_etc : etc ≡ etc_of id) (is_origin : origin ≡ origin_path id.os id.commit id.serial) (first : one ≡ old ++ etc ∷ []) (second : two ≡ one ++ origin ∷ []) where
  either : (q : Path) → IsOwnPath id q → (q ≡ etc) ⊎ (q ≡ origin)
  either q (inl is) = inl (is ∙ sym is_etc)
  either q (inr is) = inr (is ∙ sym is_origin)

  pub own_gathered : Gathers (IsOwnPath id) (IsOwnPath id) old two
  own_gathered =
      gathered_then (IsOwnPath id) (λ q. q ≡ etc) (λ q. q ≡ origin) (IsOwnPath id) old one two
      (one_gathered (IsOwnPath id) (λ q. q ≡ etc) old one etc first (inl is_etc) (λ q is. is))
      (one_gathered (IsOwnPath id) (λ q. q ≡ origin) one two origin second (inr is_origin) (λ q is. is))
      either

-- ---- of all that are listed

abbrev pub OwnFirst : List DepId → ℕ → Path → Type 0
OwnFirst listed i = IsOwnOf (take i listed)

pub none_own : (listed : List DepId) (q : Path) → OwnFirst listed 0 q → ⊥
none_own listed q (id, (k, less, is), own) = omega (arith, less)

module _ (listed : List DepId) (i : ℕ) (id : DepId) (less : i < length listed) (is : id ≡ get_or listed i id) where
  may_own : (q : Path) → IsOwnPath id q → IsOwnOf listed q
  may_own q own = (id, (i, less, sym is), own)

  split : (q : Path) → OwnFirst listed (i + 1) q → OwnFirst listed i q ⊎ IsOwnPath id q
  split q (other, among, own) = ⊎_elim
      (λ before. inl (other, before, own))
      (λ same. inr (subst (λ x. IsOwnPath x q) (sym same) own))
      (Contains-push_cases (take i listed) id other (subst (λ l. Contains l other) (take_more listed i id less ∙ ap (λ x. take i listed ++ x ∷ []) (sym is)) among))

  pub own_more : (old mid new : List Path) → Gathers (IsOwnOf listed) (OwnFirst listed i) old mid → Gathers (IsOwnPath id) (IsOwnPath id) mid new → Gathers (IsOwnOf listed) (OwnFirst listed (i + 1)) old new
  own_more old mid new done next = gathered_then (IsOwnOf listed) (OwnFirst listed i) (IsOwnPath id) (OwnFirst listed (i + 1)) old mid new done
      (record { may = λ q has. ⊎_elim (λ before. inl before) (λ own. inr (may_own q own)) (next.may q has); kept = next.kept; must = next.must })
      split

abbrev pub AreOwn : List DepId → List Path → Type 0
AreOwn listed paths = Gathers (IsOwnOf listed) (IsOwnOf listed) [] paths

pub all_own : (listed : List DepId) (i : ℕ) (paths : List Path) → length listed ≤ i → Gathers (IsOwnOf listed) (OwnFirst listed i) [] paths → AreOwn listed paths
all_own listed i paths le gathers = subst (λ l. Gathers (IsOwnOf listed) (IsOwnOf l) [] paths) (take_all i listed le) gathers

-- ---- of what the boot loader follows

abbrev pub BootFirst : List Fixed → ℕ → Path → Type 0
BootFirst items i q = (q ≡ loader_path) ⊎ ((fixed : Fixed) × Contains (take i items) fixed × (q ≡ fixed_path fixed))

pub loader_first : (items : List Fixed) (old new : List Path) (loader : Path) → loader ≡ loader_path → new ≡ old ++ loader ∷ [] → Gathers IsOfBoot (BootFirst items 0) old new
loader_first items old new loader is pushed = one_gathered IsOfBoot (BootFirst items 0) old new loader pushed (inl is) only
  where
    only : (q : Path) → BootFirst items 0 q → q ≡ loader
    only q (inl same) = same ∙ sym is
    only q (inr (fixed, (k, less, at), same)) = absurd (omega (arith, less))

are_versioned : All IsVersioned all_versioned
are_versioned = All-from_recursion IsVersioned all_versioned (tt, (tt, (tt, (tt, (tt, (tt, (tt, (tt, tt))))))))

pub boot_more : (items : List Fixed) (i : ℕ) (other : Fixed) → items ≡ all_versioned → i < length items → (old mid new : List Path) (at : Path) → at ≡ fixed_path (get_or items i other) → new ≡ mid ++ at ∷ []
    → Gathers IsOfBoot (BootFirst items i) old mid → Gathers IsOfBoot (BootFirst items (i + 1)) old new
boot_more items i other same less old mid new at path pushed done = gathered_then IsOfBoot (BootFirst items i) (λ q. q ≡ at) (BootFirst items (i + 1)) old mid new done
    (one_gathered IsOfBoot (λ q. q ≡ at) mid new at pushed (inr (one, versioned, path)) (λ q is. is))
    split
  where
    one : Fixed
    one = get_or items i other

    versioned : IsVersioned one
    versioned = All-contains IsVersioned all_versioned one are_versioned (subst (λ l. Contains l one) same (i, less, get_or_default items i one other less))

    split : (q : Path) → BootFirst items (i + 1) q → BootFirst items i q ⊎ (q ≡ at)
    split q (inl is) = inl (inl is)
    split q (inr (fixed, among, is)) = ⊎_elim
        (λ before. inl (inr (fixed, before, is)))
        (λ last. inr (is ∙ ap fixed_path (sym last) ∙ sym path))
        (Contains-push_cases (take i items) one fixed (subst (λ l. Contains l fixed) (take_more items i other less) among))

versioned_among : (fixed : Fixed) → IsVersioned fixed → Contains all_versioned fixed
versioned_among (LoaderFolder Zero) so = (0, omega arith, refl)
versioned_among (LoaderFolder One) so = (1, omega arith, refl)
versioned_among (BootLink Zero) so = (2, omega arith, refl)
versioned_among (BootLink One) so = (3, omega arith, refl)
versioned_among (BootFolder Zero Zero) so = (4, omega arith, refl)
versioned_among (BootFolder Zero One) so = (5, omega arith, refl)
versioned_among (BootFolder One Zero) so = (6, omega arith, refl)
versioned_among (BootFolder One One) so = (7, omega arith, refl)
versioned_among (Entries version) so = absurd so
versioned_among Summary so = absurd so

pub all_boot : (items : List Fixed) (i : ℕ) (old new : List Path) → items ≡ all_versioned → length items ≤ i → Gathers IsOfBoot (BootFirst items i) old new → Gathers IsOfBoot IsOfBoot old new
all_boot items i old new same le gathers = gathered_less IsOfBoot (BootFirst items i) IsOfBoot old new gathers first
  where
    first : (q : Path) → IsOfBoot q → BootFirst items i q
    first q (inl is) = inl is
    first q (inr (fixed, so, is)) = inr (fixed, subst (λ l. Contains l fixed) (sym (take_all i items le ∙ same)) (versioned_among fixed so), is)

-- ---- with all others, where no list is selected

module _ (d : Disk) (listed : List DepId) (own kept : List Path) (are : AreOwn listed own) (boot : Gathers IsOfBoot IsOfBoot own kept) where
  from_own : (q : Path) → Contains own q → IsOwnOf listed q
  from_own q has = ⊎_elim (λ before. absurd (none before)) (λ is. is) (are.may q has)
    where
      none : Contains [] q → ⊥
      none (k, less, is) = omega (arith, less)

  from_kept : (q : Path) → Contains kept q → IsOwnOf listed q ⊎ IsUnlisted listed q ⊎ IsOfBoot q
  from_kept q has = ⊎_elim (λ before. inl (from_own q before)) (λ of. inr (inr of)) (boot.may q has)

  pub staying_own : HasLoader d → AreStaying d listed kept
  staying_own selected = record { each = from_kept; own = λ q is. boot.kept q (are.must q is); boot = boot.must; others = λ unselected q un there. absurd (unselected selected) }

  pub staying_all : (paths : List Path) → Gathers (IsUnlisted listed) (IsThere (IsUnlisted listed) d) kept paths → AreStaying d listed paths
  staying_all paths gathers = record {
    each = λ q has. ⊎_elim (from_kept q) (λ un. inr (inl un)) (gathers.may q has);
    own = λ q is. gathers.kept q (boot.kept q (are.must q is));
    boot = λ q is. gathers.kept q (boot.must q is);
    others = λ unselected q un there. gathers.must q (un, there);
  }
