-- A step that writes nothing where the list of deployments is read: what each crash leaves of it, and what is known of it.
use Rattle.std.proofs.Common.{◌≡◌, ◌≢◌, ◌⊎◌, inl, inr, ⊎_elim, ℕ, ◌<◌, ◌^◌, arith, Bool, true, false, ◌||◌, List, [], ◌∷◌, ◌++◌, length, All, Contains, refl, sym, ◌∙◌, ap, subst, codes}
use Rattle.std.specs.Fmt.{decimal}
use Rattle.std.specs.Char.{digit_value}
use Rattle.std.specs.Str.Parse.{AllDigits}
use Rattle.std.proofs.lemmas.List.Elements.{All-contains}
use Rattle.std.proofs.lemmas.Str.Parse.{digit_from_value}
use Rattle.std.proofs.lemmas.Fmt.{decimal_is_IsNumeral}
use Rattle.ost_types.specs.Path.{Name, Path, is_below, under}
use Rattle.ost_types.specs.Csum.{hex_of}
use Rattle.ost_types.proofs.HexSums.{IsHexSum-hex_of}
use Rattle.ost_types.proofs.Paths.{is_below-under}
use Rattle.fs_trait.specs.declared.types.Value.{Value}
use Rattle.fs_trait.specs.declared.types.Value.TheVariants as value
use Rattle.fs_trait.specs.View.{Disk, View}
use Rattle.fs_trait.specs.Image.{Image, IsTree, is_folder}
use Rattle.fs_trait.specs.Seen.{Seen, Vacant, Directory, Symlink, Leaf, seen, shows, IsDirectory, MayBe}
use Rattle.fs_trait.specs.Change.{Writes}
use Rattle.fs_trait.proofs.Facts.{shows_kept}
use Rattle.fs_trait.proofs.Images.{not_both}
use Rattle.repo_layout.specs.declared.folder.Folder.TheVariants.{Boot, Ostree}
use Rattle.repo_layout.specs.Fixed.{number}
use Rattle.repo_layout.specs.RefFile.{IsSum}
use Rattle.repo_layout.specs.Paths.{deploy_path, folder_path, stage_path}
use Rattle.repo_layout.specs.BootPaths.{boot_folder_path, boot_link_path, entry_path, kernel_path, loader_folder_path, loader_path, origin_path}
use Rattle.repo_layout.proofs.Places.{deploy_path-injective}
use Rattle.boot_model.specs.declared.item.DepId.{DepId}
use Rattle.boot_model.specs.declared.item.BootItem.{BootItem}
use Rattle.boot_model.specs.Items.{IsAt}
use Rattle.boot_model.specs.Entries.{loader_target}
use Rattle.boot_model.specs.Listing.{IsLinkTo}
use Rattle.boot_model.proofs.Before.{before, before_image, same_outside}
use Rattle.boot_swap.specs.Steps.{HasPlaces, IsSettled}
use Rattle.boot_swap.proofs.Spots.{below_same}
use Rattle.deployment_build.specs.Deployment.{folder_of, origin_of}
use Rattle.deploy_task.specs.Listed.{ids_in}
use Rattle.deploy_task.specs.Lists.{Leaves, SameListOf, SameVersionOf}
use Rattle.tree_read.proofs.Walk.{mapped}

-- ---- places where the list is read

-- Nothing lies there that a list of these deployments is read from, nor a folder that has to be there.
pub record IsUnread (inside : Path → Bool) (ids : List DepId) : Type 0 where
  pub root : inside [] ≡ false
  pub boot : inside (folder_path Boot) ≡ false
  pub ostree : inside (folder_path Ostree) ≡ false
  pub loader : inside loader_path ≡ false
  pub entries : (n : ℕ) (file : Name) → n < 2 → inside (entry_path n file) ≡ false
  pub link : (n : ℕ) → n < 2 → inside (boot_link_path n) ≡ false
  pub links : (n sub : ℕ) (rest : Path) → n < 2 → sub < 2 → inside (boot_folder_path n sub ++ rest) ≡ false
  pub deployments : (id : DepId) → Contains ids id → inside (deploy_path id.os id.commit id.serial) ≡ false

-- with a path all below it lies there
abbrev pub IsClosed : (Path → Bool) → Type 0
IsClosed inside = (f : Path) (x : Name) → inside f ≡ true → inside (under f x) ≡ true

module _ (items : List BootItem) (inside : Path → Bool) (unread : IsUnread inside (ids_in items)) (W : Path → Seen → Type 0) (within : (p : Path) (s : Seen) → W p s → inside p ≡ true) (v w : View) (writes : Writes W v w) where
  unwritten : (p : Path) → inside p ≡ false → (s : Seen) → W p s → ⊥
  unwritten p out s wrote = not_both (within p s wrote) out

  same : (p : Path) → inside p ≡ false → shows w.now p ≡ shows v.now p
  same p out = shows_kept W v w p writes (unwritten p out)

  may : (p : Path) → inside p ≡ false → (s : Seen) → MayBe w p s → MayBe v p s
  may p out s m = ⊎_elim (λ was. was) (λ wrote. absurd (unwritten p out s wrote)) (writes.only p s m)

  -- ---- what is known

  pub settled_after : IsSettled v → IsSettled w
  settled_after was = record {
    loader = λ s m. was.loader s (may loader_path unread.loader s m) ∙ sym (same loader_path unread.loader);
    link = λ n selects s m.
        let apart = unread.link (number n) selects.small in
        was.link n (record { small = selects.small; link = subst (IsLinkTo (loader_target (number n))) (same loader_path unread.loader) selects.link }) s (may (boot_link_path (number n)) apart s m)
        ∙ sym (same (boot_link_path (number n)) apart);
  }

  listed : (i : ℕ) (item : BootItem) → IsAt items i item → Contains (ids_in items) item.id
  listed i item at = mapped (λ (x : BootItem). x.id) items item (i, at.0, at.1)

  pub places_after : HasPlaces items v.now → HasPlaces items w.now
  places_after was = record {
    boot = subst IsDirectory (sym (same (folder_path Boot) unread.boot)) was.boot;
    ostree = subst IsDirectory (sym (same (folder_path Ostree) unread.ostree)) was.ostree;
    deployments = λ i item at. subst IsDirectory (sym (same (deploy_path item.id.os item.id.commit item.id.serial) (unread.deployments item.id (listed i item at)))) (was.deployments i item at);
  }

  -- ---- what a crash leaves

  root_value : (y z : Value) → is_folder y ≡ true → seen w.now z ≡ seen v.now y → z ≡ y
  root_value (value.Folder m) (value.Folder k) is e = let s : Directory k ≡ Directory m = e in let i : k ≡ m = cc in ap value.Folder i
  root_value (value.Folder m) value.Absent is e = let n : Vacant ≡ Directory m = e in cc
  root_value (value.Folder m) (value.Link k t) is e = let n : Symlink k t ≡ Directory m = e in cc
  root_value (value.Folder m) (value.File k) is e = let n : Leaf k (w.now.meta k) (w.now.bytes k) ≡ Directory m = e in cc
  root_value value.Absent z is e = let n : false ≡ true = is in cc
  root_value (value.Link m t) z is e = let n : false ≡ true = is in cc
  root_value (value.File k) z is e = let n : false ≡ true = is in cc

  module _ (closed : IsClosed inside) (tree : IsTree v.now) (d : Disk) (image : Image w d) where
    root : w.now.at [] ≡ v.now.at []
    root = root_value (v.now.at []) (w.now.at []) tree.root (same [] unread.root)

    held : (p : Path) → inside p ≡ false → MayBe w p (shows d p) → MayBe v p (shows d p)
    held p out m = may p out (shows d p) m

    earlier : Disk
    earlier = before inside closed v w tree.root root d image held

    earlier_image : Image v earlier
    unfolding earlier
    earlier_image = before_image inside closed v w tree.root root d image held

    outside : (p : Path) → inside p ≡ false → shows d p ≡ shows earlier p
    unfolding earlier
    outside p out = sym (same_outside inside closed v w tree.root root d image held p out)

    version : (n : ℕ) → n < 2 → SameVersionOf (ids_in items) n earlier d
    version n less = record {
      entries = λ file. outside (entry_path n file) (unread.entries n file less);
      link = outside (boot_link_path n) (unread.link n less);
      links = λ sub rest small named. outside (boot_folder_path n sub ++ rest) (unread.links n sub rest less small);
      deployments = λ id among. outside (deploy_path id.os id.commit id.serial) (unread.deployments id among);
    }

    pub left_before : (b : Disk) × Image v b × SameListOf (ids_in items) b d
    left_before = (earlier, earlier_image, record { loader = outside loader_path unread.loader; version = λ n selects. version n selects.small })

    pub leaves_after : (new : List BootItem) → Leaves items new v d
    leaves_after new = inl left_before

-- ---- two places together

pub either_true : (a b : Bool) → b ≡ true → a || b ≡ true
either_true true b e = refl
either_true false b e = e

pub first_true : (a b : Bool) → a ≡ true → a || b ≡ true
first_true a b e = rw e refl

none_true : (a b : Bool) → a ≡ false → b ≡ false → a || b ≡ false
none_true a b one two = rw (one, two) refl

cases_true : (a b : Bool) → a || b ≡ true → (a ≡ true) ⊎ (b ≡ true)
cases_true true b e = inl refl
cases_true false b e = inr e

pub both_closed : (a b : Path → Bool) → IsClosed a → IsClosed b → IsClosed (λ p. a p || b p)
both_closed a b one two f x e = ⊎_elim (λ l. first_true (a (under f x)) (b (under f x)) (one f x l)) (λ r. either_true (a (under f x)) (b (under f x)) (two f x r)) (cases_true (a f) (b f) e)

pub both_unread : (a b : Path → Bool) (ids : List DepId) → IsUnread a ids → IsUnread b ids → IsUnread (λ p. a p || b p) ids
both_unread a b ids one two = record {
  root = none_true (a []) (b []) one.root two.root;
  boot = none_true (a (folder_path Boot)) (b (folder_path Boot)) one.boot two.boot;
  ostree = none_true (a (folder_path Ostree)) (b (folder_path Ostree)) one.ostree two.ostree;
  loader = none_true (a loader_path) (b loader_path) one.loader two.loader;
  entries = λ n file less. none_true (a (entry_path n file)) (b (entry_path n file)) (one.entries n file less) (two.entries n file less);
  link = λ n less. none_true (a (boot_link_path n)) (b (boot_link_path n)) (one.link n less) (two.link n less);
  links = λ n sub rest less small. none_true (a (boot_folder_path n sub ++ rest)) (b (boot_folder_path n sub ++ rest)) (one.links n sub rest less small) (two.links n sub rest less small);
  deployments = λ id among. none_true (a (deploy_path id.os id.commit id.serial)) (b (deploy_path id.os id.commit id.serial)) (one.deployments id among) (two.deployments id among);
}

-- ---- the paths of a deployment that isn't listed

below_closed : (a : Path) → IsClosed (is_below a)
below_closed a f x e = is_below-under a f x e

not_true : (b : Bool) → (b ≡ true → ⊥) → b ≡ false
not_true true e = absurd (e refl)
not_true false e = refl

five : (os : Name) (commit : List ℕ) (serial : ℕ) → length (deploy_path os commit serial) ≡ 5
unfolding deploy_path
five os commit serial = refl

five_origin : (os : Name) (commit : List ℕ) (serial : ℕ) → length (origin_path os commit serial) ≡ 5
unfolding origin_path
five_origin os commit serial = refl

no_digit : digit_value 46 < 10 → ⊥
no_digit less = omega (arith, (digit_from_value 46 less).0)

no_dot_in : (front back : List ℕ) → AllDigits 10 (front ++ 46 ∷ back) → ⊥
no_dot_in [] back digits = no_digit digits.0
no_dot_in (x ∷ front) back digits = no_dot_in front back digits.1

-- behind two fronts of one length
fronts_off : (a b x y : List ℕ) → length a ≡ length b → a ++ x ≡ b ++ y → x ≡ y
fronts_off [] [] x y long e = e
fronts_off [] (c ∷ b) x y long e = absurd (omega (arith, long))
fronts_off (c ∷ a) [] x y long e = absurd (omega (arith, long))
fronts_off (c ∷ a) (k ∷ b) x y long e =
    let t : c ∷ (a ++ x) ≡ k ∷ (b ++ y) = e in
    let u : a ++ x ≡ b ++ y = cc in
    fronts_off a b x y (omega (arith, long)) u

digits_whole : (sum : List ℕ) → IsSum sum → length (hex_of sum) ≡ 64
digits_whole sum is = (IsHexSum-hex_of sum is.whole is.bytes).whole

-- an origin file isn't where a deployment stands
pub origin_aside : (os other : Name) (a b : List ℕ) (m n : ℕ) → IsSum a → IsSum b → n < 2 ^ 32 → origin_path os a m ≢ deploy_path other b n
unfolding origin_path deploy_path
origin_aside os other a b m n is also less e =
    let id : hex_of a ++ ((46 ∷ decimal m) ++ codes ".origin") ≡ hex_of b ++ (46 ∷ decimal n) = cc in
    let tail : 46 ∷ (decimal m ++ codes ".origin") ≡ 46 ∷ decimal n = fronts_off (hex_of a) (hex_of b) _ _ (digits_whole a is ∙ sym (digits_whole b also)) id in
    let digits : decimal m ++ codes ".origin" ≡ decimal n = cc in
    no_dot_in (decimal m) (codes "origin") (subst (AllDigits 10) (sym digits) (decimal_is_IsNumeral n (omega (arith, less))).0.1)

module _ (ids : List DepId) (sums : (id : DepId) → Contains ids id → IsSum id.commit) (serials : All (λ (id : DepId). id.serial < 2 ^ 32) ids) (id : DepId) (is : IsSum id.commit) (small : id.serial < 2 ^ 32) where
  small_of : (j : DepId) → Contains ids j → j.serial < 2 ^ 32
  small_of j among = All-contains (λ (i : DepId). i.serial < 2 ^ 32) ids j serials among

  other_files : ¬ (Contains ids id) → (j : DepId) → Contains ids j → folder_of id ≢ folder_of j
  other_files other j among e =
      let less = small_of j among in
      let same = deploy_path-injective id.os j.os id.commit j.commit id.serial j.serial is (sums j among) (omega (arith, small)) (omega (arith, less)) e in
      let os : id.os ≡ j.os = same.0 in
      let commit : id.commit ≡ j.commit = same.1 in
      let serial : id.serial ≡ j.serial = same.2 in
      let one : id ≡ j =
      ap (λ x. record { os = x; commit = id.commit; serial = id.serial }) os ∙ ap (λ x. record { os = j.os; commit = x; serial = id.serial }) commit ∙ ap (λ x. record { os = j.os; commit = j.commit; serial = x }) serial in
      other (subst (Contains ids) (sym one) among)

  pub files_unread : ¬ (Contains ids id) → IsUnread (is_below (folder_of id)) ids
  unfolding is_below deploy_path loader_folder_path boot_link_path boot_folder_path
  files_unread other = record {
    root = refl;
    boot = refl;
    ostree = refl;
    loader = refl;
    entries = λ n file less. refl;
    link = λ n less. refl;
    links = λ n sub rest less small. refl;
    deployments = λ j among. not_true (is_below (folder_of id) (folder_of j))
        (λ e. other_files other j among (below_same (folder_of id) (folder_of j) (five id.os id.commit id.serial ∙ sym (five j.os j.commit j.serial)) e));
  }

  pub origin_unread : IsUnread (is_below (origin_of id)) ids
  unfolding is_below origin_path loader_folder_path boot_link_path boot_folder_path
  origin_unread = record {
    root = refl;
    boot = refl;
    ostree = refl;
    loader = refl;
    entries = λ n file less. refl;
    link = λ n less. refl;
    links = λ n sub rest less small. refl;
    deployments = λ j among. not_true (is_below (origin_of id) (folder_of j))
        (λ e. origin_aside id.os j.os id.commit j.commit id.serial j.serial is (sums j among) (small_of j among)
        (below_same (origin_of id) (folder_of j) (five_origin id.os id.commit id.serial ∙ sym (five j.os j.commit j.serial)) e));
  }

-- ---- where files are staged, and the copies of kernels

pub stage_unread : (ids : List DepId) (actor : ℕ) → IsUnread (is_below (stage_path actor)) ids
unfolding is_below stage_path deploy_path loader_folder_path boot_link_path boot_folder_path
stage_unread ids actor = record {
  root = refl;
  boot = refl;
  ostree = refl;
  loader = refl;
  entries = λ n file less. refl;
  link = λ n less. refl;
  links = λ n sub rest less small. refl;
  deployments = λ j among. refl;
}

pub kernel_unread : (ids : List DepId) (os : Name) (bootcsum : List ℕ) → IsUnread (is_below (kernel_path os bootcsum)) ids
unfolding is_below kernel_path deploy_path loader_folder_path boot_link_path boot_folder_path
kernel_unread ids os bootcsum = record {
  root = refl;
  boot = refl;
  ostree = refl;
  loader = refl;
  entries = λ n file less. refl;
  link = λ n less. refl;
  links = λ n sub rest less small. refl;
  deployments = λ j among. refl;
}

pub path_closed : (a : Path) → IsClosed (is_below a)
path_closed a = below_closed a
