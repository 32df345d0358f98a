-- What a crash leaves behind each step of a swap.
use Rattle.std.proofs.Common.{◌≡◌, ◌≢◌, inl, inr, ⊎_elim, ℕ, zero, suc, ◌<◌, arith, Bool, true, false, ◌||◌, List, [], ◌∷◌, ◌++◌, refl, sym, ◌∙◌, ap, subst}
use Rattle.std.specs.Fmt.{decimal}
use Rattle.ost_types.specs.Path.{Name, Path, is_below, under}
use Rattle.ost_types.specs.Csum.{hex_of}
use Rattle.fs_trait.specs.declared.types.Value.{Value}
use Rattle.fs_trait.specs.declared.types.Value.TheVariants as value
use Rattle.fs_trait.specs.View.{Disk, View}
use Rattle.fs_trait.specs.Image.{EachImage, Image, IsTree, is_folder}
use Rattle.fs_trait.specs.Seen.{Seen, Vacant, Directory, Symlink, Leaf, seen, shows, MayBe, IsDirectory}
use Rattle.fs_trait.specs.Change.{Writes}
use Rattle.fs_trait.proofs.Claims.{Image-may, folder_shows, is_below-before}
use Rattle.fs_trait.proofs.Images.{not_both}
use Rattle.fs_trait.proofs.Facts.{shows_kept}
use Rattle.repo_layout.specs.declared.fixed.Version.{Version}
use Rattle.repo_layout.specs.declared.fixed.Version.TheVariants.{Zero, One}
use Rattle.repo_layout.specs.Fixed.{number}
use Rattle.repo_layout.specs.Paths.{deploy_path}
use Rattle.repo_layout.specs.Place as place
use Rattle.repo_layout.specs.BootPaths.{boot_folder_path, boot_link_path, boot_link_stage_path, entry_path, loader_folder_path, loader_path, loader_stage_path}
use Rattle.boot_model.specs.declared.item.BootItem.{BootItem}
use Rattle.boot_model.specs.declared.item.DepId.{DepId}
use Rattle.boot_model.specs.Items.{link_number}
use Rattle.boot_model.specs.Entries.{boot_target, deploy_target, loader_target}
use Rattle.boot_model.specs.Listing.{Boots, IsLinkTo, SameList, SameVersion, Selects}
use Rattle.boot_model.proofs.Before.{before, before_image, same_outside}
use Rattle.boot_swap.specs.Steps.{IsTheLink, IsTheLoader, NotNaming, NotSelecting, Selecting}
use Rattle.boot_swap.specs.Whole.{Leaves}
use Rattle.boot_swap.proofs.Spots.{IsApart, Link, LinkFolder, LinkStage, Loader, LoaderFolder, LoaderStage, Spot, apart_around, off_deployment, path_of, same_number, spots_apart, true_or_not}
use Rattle.boot_swap.proofs.Keeping.{Spotted, entries_same, entry_below}
use Rattle.boot_swap.proofs.Booting.{directory_or}
use Rattle.boot_swap.proofs.Selecting.{loader_number, not_vacant, one_target}

-- ---- lists that are the same

pub same_refl : (d : Disk) → SameList d d
same_refl d = record { loader = refl; version = λ n selects. record { entries = λ file. refl; link = refl; links = λ sub rest less named. refl; deployments = λ id. refl } }

same_trans : (a b c : Disk) → SameList a b → SameList b c → SameList a c
same_trans a b c one two = record {
  loader = two.loader ∙ one.loader;
  version = λ n selects.
      let first = one.version n selects in
      let next = two.version n (record { small = selects.small; link = subst (IsLinkTo (loader_target n)) (sym one.loader) selects.link }) in
      record {
        entries = λ file. next.entries file ∙ first.entries file;
        link = next.link ∙ first.link;
        links = λ sub rest less named. next.links sub rest less (subst (IsLinkTo (boot_target n sub)) (sym first.link) named) ∙ first.links sub rest less named;
        deployments = λ id. next.deployments id ∙ first.deployments id;
      };
}

directory_of : (d e : Disk) (p : Path) → shows e p ≡ shows d p → is_folder (d.at p) ≡ true → is_folder (e.at p) ≡ true
directory_of d e p same is = folder_shows e p (subst IsDirectory (sym same) (directory_or d (d.at p) is))

boots_same : (items : List BootItem) (d e : Disk) → SameList d e → Boots d items → Boots e items
boots_same items d e same boots =
    let v = same.version boots.loader boots.selects in
    record {
      loader = boots.loader;
      selects = record { small = boots.selects.small; link = subst (IsLinkTo (loader_target boots.loader)) (sym same.loader) boots.selects.link };
      entries = entries_same d e boots.loader items v.entries boots.entries;
      leads = λ i item at.
          let l = boots.leads i item at in
          record {
            sub = l.sub;
            small = l.small;
            link = subst (IsLinkTo (boot_target boots.loader l.sub)) (sym v.link) l.link;
            item = subst (IsLinkTo (deploy_target item.id)) (sym (v.links l.sub (item.id.os ∷ hex_of item.kernel.bootcsum ∷ decimal (link_number items i item) ∷ []) l.small l.link)) l.item;
            same = l.same;
            there = directory_of d e (deploy_path item.id.os item.id.commit item.id.serial) (v.deployments item.id) l.there;
          };
    }

-- one step after others
pub leaves_then : (items : List BootItem) (first v : View) (d : Disk) → EachImage v (Leaves items first) → Leaves items v d → Leaves items first d
leaves_then items first v d each (inr boots) = inr boots
leaves_then items first v d each (inl (b, image, same)) = by (each b image)
  where
    by : Leaves items first b → Leaves items first d
    by (inl (a, was, like)) = inl (a, was, same_trans a b d like same)
    by (inr boots) = inr (boots_same items b d same boots)

-- ---- a step that writes where no crash reads its list

-- no list of this disk is read there, where it is that of this version
pub record Unread (inside : Path → Bool) (b : Disk) (m : Version) : Type 0 where
  pub entries : (p : Path) → is_below (loader_folder_path (number m)) p ≡ true → inside p ≡ false
  pub link : inside (boot_link_path (number m)) ≡ false
  pub links : (sub : Version) → IsTheLink m sub (shows b (boot_link_path (number m))) → (p : Path) → is_below (boot_folder_path (number m) (number sub)) p ≡ true → inside p ≡ false
  pub deployments : (id : DepId) → inside (deploy_path id.os id.commit id.serial) ≡ false

version_of_number : (k : ℕ) → k < 2 → (m : Version) × (number m ≡ k)
version_of_number zero less = (Zero, refl)
version_of_number (suc zero) less = (One, refl)
version_of_number (suc (suc k)) less = absurd (omega (arith, less))

root_value : (d e : Disk) (y z : Value) → is_folder y ≡ true → seen e z ≡ seen d y → z ≡ y
root_value d e (value.Folder m) (value.Folder k) is same = let s : Directory k ≡ Directory m = same in let i : k ≡ m = cc in ap value.Folder i
root_value d e (value.Folder m) value.Absent is same = let n : Vacant ≡ Directory m = same in cc
root_value d e (value.Folder m) (value.Link k t) is same = let n : Symlink k t ≡ Directory m = same in cc
root_value d e (value.Folder m) (value.File k) is same = let n : Leaf k (e.meta k) (e.bytes k) ≡ Directory m = same in cc
root_value d e value.Absent z is same = let n : false ≡ true = is in cc
root_value d e (value.Link k t) z is same = let n : false ≡ true = is in cc
root_value d e (value.File k) z is same = let n : false ≡ true = is in cc

spot_not_root : (a : Spot) → is_below (path_of a) [] ≡ false
unfolding is_below loader_folder_path boot_link_path boot_folder_path
spot_not_root Loader = refl
spot_not_root LoaderStage = refl
spot_not_root (LoaderFolder n) = refl
spot_not_root (Link n) = refl
spot_not_root LinkStage = refl
spot_not_root (LinkFolder n sub) = refl

module _ (W : Path → Seen → Type 0) (v w : View) (tree : IsTree v.now) (writes : Writes W v w) (spotted : Spotted W) (d : Disk) (image : Image w d) where
  root : w.now.at [] ≡ v.now.at []
  root = root_value v.now w.now (v.now.at []) (w.now.at []) tree.root (shows_kept W v w [] writes (λ s wrote. let a = spotted [] s wrote in not_both a.1 (spot_not_root a.0)))

  -- where nothing that was written is shown, each crash leaves what it might have left
  module _ (inside : Path → Bool) (closed : (f : Path) (x : Name) → inside f ≡ true → inside (under f x) ≡ true)
      (held : (p : Path) → inside p ≡ false → MayBe w p (shows d p) → MayBe v p (shows d p)) (apart : inside loader_path ≡ false) where
    earlier : Disk
    earlier = before inside closed v w tree.root root d image held

    earlier_image : Image v earlier
    unfolding earlier
    earlier_image = before_image inside closed v w tree.root root d image held

    outside : (p : Path) → inside p ≡ false → shows d p ≡ shows earlier p
    unfolding earlier
    outside p out = sym (same_outside inside closed v w tree.root root d image held p out)

    version_same : (m : Version) → Unread inside earlier m → SameVersion (number m) earlier d
    version_same m unread = record {
      entries = λ file. outside (entry_path (number m) file) (unread.entries (entry_path (number m) file) (entry_below (number m) file));
      link = outside (boot_link_path (number m)) unread.link;
      links = λ sub rest less named. by sub rest less named (version_of_number sub less);
      deployments = λ id. outside (deploy_path id.os id.commit id.serial) (unread.deployments id);
    }
      where
        by : (sub : ℕ) (rest : Path) → sub < 2 → IsLinkTo (boot_target (number m) sub) (shows earlier (boot_link_path (number m))) → (s : Version) × (number s ≡ sub)
            → shows d (boot_folder_path (number m) sub ++ rest) ≡ shows earlier (boot_folder_path (number m) sub ++ rest)
        by sub rest less named s =
            subst (λ k. shows d (boot_folder_path (number m) k ++ rest) ≡ shows earlier (boot_folder_path (number m) k ++ rest)) s.1
            (outside _ (unread.links s.0 (subst (λ k. IsLinkTo (boot_target (number m) k) (shows earlier (boot_link_path (number m)))) (sym s.1) named)
            (boot_folder_path (number m) (number s.0) ++ rest) (is_below-before (boot_folder_path (number m) (number s.0)) rest)))

    pub old_list : (items : List BootItem) → ((b : Disk) → Image v b → (m : Version) → IsTheLoader m (shows b loader_path) → Unread inside b m) → Leaves items v d
    old_list items unread = inl (
      earlier,
      earlier_image,
      record {
        loader = outside loader_path apart;
        version = λ k selects. by k selects (version_of_number k selects.small);
      },
    )
      where
        by : (k : ℕ) → Selects earlier k → (m : Version) × (number m ≡ k) → SameVersion k earlier d
        by k selects m = subst (λ j. SameVersion j earlier d) m.1
            (version_same m.0 (unread earlier earlier_image m.0 (subst (λ j. IsLinkTo (loader_target j) (shows earlier loader_path)) (sym m.1) selects.link)))

-- ---- which versions a disk may select

module _ (v : View) (b : Disk) (image : Image v b) (m : Version) (selects : IsTheLoader m (shows b loader_path)) where
  pub other_version : (n : Version) → NotSelecting n v → m ≢ n
  other_version n none e = ⊎_elim
      (λ may. none (shows b loader_path) may (subst (λ k. IsTheLoader k (shows b loader_path)) e selects))
      (λ vacant. not_vacant (shows b loader_path) (loader_target (number m)) vacant selects)
      (Image-may v b image loader_path)

  pub same_version : (n : Version) → Selecting n v → m ≡ n
  same_version n each = ⊎_elim
      (λ may. loader_number m n (one_target (shows b loader_path) _ _ selects (each (shows b loader_path) may)))
      (λ vacant. absurd (not_vacant (shows b loader_path) (loader_target (number m)) vacant selects))
      (Image-may v b image loader_path)

pub other_sub : (v : View) (b : Disk) → Image v b → (n sub s : Version) → NotNaming n sub v → IsTheLink n s (shows b (boot_link_path (number n))) → s ≢ sub
other_sub v b image n sub s none named e = ⊎_elim
    (λ may. none (shows b (boot_link_path (number n))) may (subst (λ k. IsTheLink n k (shows b (boot_link_path (number n)))) e named))
    (λ vacant. not_vacant (shows b (boot_link_path (number n))) (boot_target (number n) (number s)) vacant named)
    (Image-may v b image (boot_link_path (number n)))

-- ---- what lies apart from a place

pub off_below : (a b p : Path) → IsApart a b → is_below b p ≡ true → is_below a p ≡ false
off_below a b p apart below = ⊎_elim (λ t. absurd (apart_around a b p apart t (inr below))) (λ f. f) (true_or_not (is_below a p))

pub off_itself : (a b : Path) → IsApart a b → is_below a b ≡ false
off_itself a b apart = apart.down

-- a place that isn't that of this version or sub-version
pub entries_unread : (n m : Version) (b : Disk) → m ≢ n → Unread (is_below (loader_folder_path (number n))) b m
entries_unread n m b other = record {
  entries = λ p below. off_below _ _ p (spots_apart (LoaderFolder n) (LoaderFolder m)
      (λ e. other (same_number m n (let l : place.LoaderFolder (number n) [] ≡ place.LoaderFolder (number m) [] = e in let k : number n ≡ number m = cc in sym k)))) below;
  link = (spots_apart (LoaderFolder n) (Link m) (λ e. let k : place.LoaderFolder (number n) [] ≡ place.BootLink (number m) = e in cc)).down;
  links = λ sub named p below. off_below _ _ p (spots_apart (LoaderFolder n) (LinkFolder m sub) (λ e. let k : place.LoaderFolder (number n) [] ≡ place.BootFolder (number m) (number sub) [] = e in cc)) below;
  deployments = λ id. off_deployment (LoaderFolder n) id.os id.commit id.serial;
}

pub links_unread : (n sub m : Version) (b : Disk) → ((s : Version) → IsTheLink m s (shows b (boot_link_path (number m))) → m ≡ n → s ≢ sub) → Unread (is_below (boot_folder_path (number n) (number sub))) b m
links_unread n sub m b other = record {
  entries = λ p below. off_below _ _ p (spots_apart (LinkFolder n sub) (LoaderFolder m) (λ e. let k : place.BootFolder (number n) (number sub) [] ≡ place.LoaderFolder (number m) [] = e in cc)) below;
  link = (spots_apart (LinkFolder n sub) (Link m) (λ e. let k : place.BootFolder (number n) (number sub) [] ≡ place.BootLink (number m) = e in cc)).down;
  links = λ s named p below. off_below _ _ p (spots_apart (LinkFolder n sub) (LinkFolder m s)
      (λ e. let l : place.BootFolder (number n) (number sub) [] ≡ place.BootFolder (number m) (number s) [] = e in
      let i : number n ≡ number m = cc in
      let j : number sub ≡ number s = cc in
      other s named (same_number m n (sym i)) (same_number s sub (sym j)))) below;
  deployments = λ id. off_deployment (LinkFolder n sub) id.os id.commit id.serial;
}

pub stage_unread : (m : Version) (b : Disk) → Unread (is_below boot_link_stage_path) b m
stage_unread m b = record {
  entries = λ p below. off_below _ _ p (spots_apart LinkStage (LoaderFolder m) (λ e. let k : place.BootLinkStage ≡ place.LoaderFolder (number m) [] = e in cc)) below;
  link = (spots_apart LinkStage (Link m) (λ e. let k : place.BootLinkStage ≡ place.BootLink (number m) = e in cc)).down;
  links = λ s named p below. off_below _ _ p (spots_apart LinkStage (LinkFolder m s) (λ e. let k : place.BootLinkStage ≡ place.BootFolder (number m) (number s) [] = e in cc)) below;
  deployments = λ id. off_deployment LinkStage id.os id.commit id.serial;
}

pub loader_stage_unread : (m : Version) (b : Disk) → Unread (is_below loader_stage_path) b m
loader_stage_unread m b = record {
  entries = λ p below. off_below _ _ p (spots_apart LoaderStage (LoaderFolder m) (λ e. let k : place.LoaderStage ≡ place.LoaderFolder (number m) [] = e in cc)) below;
  link = (spots_apart LoaderStage (Link m) (λ e. let k : place.LoaderStage ≡ place.BootLink (number m) = e in cc)).down;
  links = λ s named p below. off_below _ _ p (spots_apart LoaderStage (LinkFolder m s) (λ e. let k : place.LoaderStage ≡ place.BootFolder (number m) (number s) [] = e in cc)) below;
  deployments = λ id. off_deployment LoaderStage id.os id.commit id.serial;
}

pub link_unread : (n m : Version) (b : Disk) → m ≢ n → Unread (is_below (boot_link_path (number n))) b m
link_unread n m b other = record {
  entries = λ p below. off_below _ _ p (spots_apart (Link n) (LoaderFolder m) (λ e. let k : place.BootLink (number n) ≡ place.LoaderFolder (number m) [] = e in cc)) below;
  link = (spots_apart (Link n) (Link m) (λ e. other (same_number m n (let l : place.BootLink (number n) ≡ place.BootLink (number m) = e in let k : number n ≡ number m = cc in sym k)))).down;
  links = λ s named p below. off_below _ _ p (spots_apart (Link n) (LinkFolder m s) (λ e. let k : place.BootLink (number n) ≡ place.BootFolder (number m) (number s) [] = e in cc)) below;
  deployments = λ id. off_deployment (Link n) id.os id.commit id.serial;
}

pub none_true : (a b : Bool) → a ≡ false → b ≡ false → a || b ≡ false
none_true a b one two = rw (one, two) refl

-- two places
pub both_unread : (a c : Path → Bool) (b : Disk) (m : Version) → Unread a b m → Unread c b m → Unread (λ p. a p || c p) b m
both_unread a c b m one two = record {
  entries = λ p below. none_true (a p) (c p) (one.entries p below) (two.entries p below);
  link = none_true (a _) (c _) one.link two.link;
  links = λ s named p below. none_true (a p) (c p) (one.links s named p below) (two.links s named p below);
  deployments = λ id. none_true (a _) (c _) (one.deployments id) (two.deployments id);
}
