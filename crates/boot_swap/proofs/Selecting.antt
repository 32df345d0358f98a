-- Which version and which sub-version a swap leaves alone.
use Rattle.std.proofs.Common.{◌≡◌, ◌≢◌, inl, inr, ℕ, arith, List, get_or, refl, sym, ◌∙◌, ap, subst, Option, Some}
use Rattle.std.specs.Fmt.{digits}
use Rattle.ost_types.specs.declared.meta.Meta.{Meta}
use Rattle.fs_trait.specs.declared.types.Value.{Value}
use Rattle.fs_trait.specs.declared.types.Value.TheVariants as value
use Rattle.fs_trait.specs.declared.types.Node as node
use Rattle.fs_trait.specs.View.{Disk, View}
use Rattle.fs_trait.specs.Effect.{IsNode}
use Rattle.fs_trait.specs.Seen.{Seen, Vacant, Directory, Symlink, Leaf, seen, shows, MayBe, MayShow}
use Rattle.repo_layout.specs.declared.fixed.Version.{Version}
use Rattle.repo_layout.specs.declared.fixed.Version.TheVariants.{Zero, One}
use Rattle.repo_layout.specs.Fixed.{number}
use Rattle.repo_layout.specs.BootPaths.{boot_link_path, loader_path}
use Rattle.boot_model.specs.declared.item.BootItem.{BootItem}
use Rattle.boot_model.specs.Entries.{boot_target, loader_target}
use Rattle.boot_model.specs.Listing.{IsLinkTo, Selects}
use Rattle.boot_compare.specs.declared.choosing.Swap.TheVariants.{Loader, Sub}
use Rattle.boot_compare.specs.Choosing.{IsChosen, other}
use Rattle.boot_swap.specs.Ready.{IsLinkOf, IsOther}
use Rattle.boot_swap.specs.Steps.{IsSettled, IsSureAt, IsTheLink, IsTheLoader, NotNaming, NotSelecting, Selecting}

-- ---- targets

pub loader_number : (n m : Version) → loader_target (number n) ≡ loader_target (number m) → n ≡ m
unfolding loader_target digits
loader_number Zero Zero e = refl
loader_number One One e = refl
loader_number Zero One e = let k : 48 ≡ 49 = ap (λ (l : List ℕ). get_or l 7 0) e in absurd (omega (arith, k))
loader_number One Zero e = let k : 49 ≡ 48 = ap (λ (l : List ℕ). get_or l 7 0) e in absurd (omega (arith, k))

pub boot_number : (n s t : Version) → boot_target (number n) (number s) ≡ boot_target (number n) (number t) → s ≡ t
unfolding boot_target digits
boot_number n Zero Zero e = refl
boot_number n One One e = refl
boot_number Zero Zero One e = let k : 48 ≡ 49 = ap (λ (l : List ℕ). get_or l 7 0) e in absurd (omega (arith, k))
boot_number Zero One Zero e = let k : 49 ≡ 48 = ap (λ (l : List ℕ). get_or l 7 0) e in absurd (omega (arith, k))
boot_number One Zero One e = let k : 48 ≡ 49 = ap (λ (l : List ℕ). get_or l 7 0) e in absurd (omega (arith, k))
boot_number One One Zero e = let k : 49 ≡ 48 = ap (λ (l : List ℕ). get_or l 7 0) e in absurd (omega (arith, k))

pub one_target : (s : Seen) (a b : List ℕ) → IsLinkTo a s → IsLinkTo b s → a ≡ b
one_target s a b one two = let e : Symlink one.0 a ≡ Symlink two.0 b = sym one.1 ∙ two.1 in cc

pub not_vacant : (s : Seen) (a : List ℕ) → s ≡ Vacant → IsLinkTo a s → ⊥
not_vacant s a none is = let e : Vacant ≡ Symlink is.0 a = sym none ∙ is.1 in cc

pub other_not : (n : Version) → other n ≢ n
other_not Zero e = let k : One ≡ Zero = e in cc
other_not One e = let k : Zero ≡ One = e in cc

-- ---- the version

pub not_selecting : (n m : Version) (v : View) → m ≢ n → Selecting n v → NotSelecting m v
not_selecting n m v apart selecting s may is = apart (loader_number m n (one_target s _ _ is (selecting s may)))

module _ (v : View) (items : List BootItem) (settled : IsSettled v) where
  selects_each : (n : Version) → Selects v.now (number n) → Selecting n v
  selects_each n selects s may = subst (IsTheLoader n) (sym (settled.loader s may)) selects.link

  pub loader_aside : (m : Version) → IsChosen v.now items (Loader m) → NotSelecting m v
  loader_aside m (inl none) s may is = not_vacant s _ (settled.loader s may ∙ none.0) is
  loader_aside m (inr c) s may is = not_selecting c.0 m v (λ e. other_not c.0 (sym c.2 ∙ e)) (selects_each c.0 c.1) s may is

  pub sub_selects : (n : Version) → IsChosen v.now items (Sub n) → Selecting n v × IsSureAt v (boot_link_path (number n))
  sub_selects n c = (selects_each n c.0, settled.link n c.0)

-- what isn't selected
pub not_chosen : (d : Disk) (items : List BootItem) (m : Version) → IsChosen d items (Loader m) → Selects d (number m) → ⊥
not_chosen d items m (inl none) selects = not_vacant (shows d loader_path) _ none.0 selects.link
not_chosen d items m (inr c) selects =
    let e : m ≡ c.0 = loader_number m c.0 (one_target (shows d loader_path) _ _ selects.link c.1.link) in
    other_not c.0 (sym c.2 ∙ e)

-- ---- the sub-version

pub link_value : (d : Disk) (z : Value) (m : Meta) (t : List ℕ) → seen d z ≡ Symlink m t → z ≡ value.Link m t
link_value d value.Absent m t e = let n : Vacant ≡ Symlink m t = e in cc
link_value d (value.Folder k) m t e = let n : Directory k ≡ Symlink m t = e in cc
link_value d (value.File k) m t e = let n : Leaf k (d.meta k) (d.bytes k) ≡ Symlink m t = e in cc
link_value d (value.Link k l) m t e =
    let n : Symlink k l ≡ Symlink m t = e in
    let i : k ≡ m = cc in
    let j : l ≡ t = cc in
    ap (λ x. value.Link x l) i ∙ ap (value.Link m) j

-- what a crash may leave of a link whose folder is synced
pub firm_link : (v : View) (z : Value) (s : Seen) (t : List ℕ) → IsLinkTo t (seen v.now z) → MayShow v z s → IsLinkTo t s
firm_link v z s t is may = (is.0, subst (λ y. MayShow v y s) (link_value v.now z is.0 t is.1) may)

-- and that is the link itself
pub firm_as_now : (v : View) (z : Value) (s : Seen) (t : List ℕ) → IsLinkTo t (seen v.now z) → MayShow v z s → s ≡ seen v.now z
firm_as_now v z s t is may = subst (λ y. MayShow v y s) (link_value v.now z is.0 t is.1) may ∙ sym is.1

module _ (n : Version) (v : View) (sure : IsSureAt v (boot_link_path (number n))) (found : Option node.Node) (is : IsNode v.now (v.now.at (boot_link_path (number n))) found) where
  -- a link that a crash leaves is the one that was found
  found_is : (sub : Version) (s : Seen) → MayBe v (boot_link_path (number n)) s → IsTheLink n sub s → IsLinkOf n sub found
  found_is sub s may link =
      let now : IsTheLink n sub (shows v.now (boot_link_path (number n))) = subst (IsTheLink n sub) (sure s may) link in
      (now.0, subst (λ z. IsNode v.now z found) (link_value v.now (v.now.at (boot_link_path (number n))) now.0 _ now.1) is)

  one_sub : (a b : Version) → IsLinkOf n a found → IsLinkOf n b found → a ≡ b
  one_sub a b one two =
      let l : Some (node.TheVariants.Link one.0 (boot_target (number n) (number a))) ≡ Some (node.TheVariants.Link two.0 (boot_target (number n) (number b))) = sym one.1 ∙ two.1 in
      let t : boot_target (number n) (number a) ≡ boot_target (number n) (number b) = cc in
      boot_number n a b t

  pub other_aside : (sub : Version) → IsOther n found sub → NotNaming n sub v
  other_aside Zero none s may link = none (found_is Zero s may link)
  other_aside One zero s may link = let k : One ≡ Zero = one_sub One Zero (found_is One s may link) zero in cc
