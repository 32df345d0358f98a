-- The list that a crash leaves where what is to boot is sure.
use Rattle.std.proofs.Common.{◌≡◌, inl, inr, ⊎_elim, ℕ, ◌<◌, arith, true, false, List, [], ◌∷◌, ◌++◌, refl, sym, ◌∙◌, ap, subst, append-nil, append_assoc}
use Rattle.ost_types.specs.Path.{Name, Path, is_below, under}
use Rattle.ost_types.proofs.Paths.{is_below-self}
use Rattle.fs_trait.specs.declared.types.Value.{Value}
use Rattle.fs_trait.specs.declared.types.Value.TheVariants as value
use Rattle.fs_trait.specs.View.{Disk, View}
use Rattle.fs_trait.specs.Image.{EachImage, Image, IsTree, is_folder}
use Rattle.fs_trait.specs.Seen.{Seen, seen, shows, MayBe, IsDirectory}
use Rattle.fs_trait.proofs.Claims.{Image-root, Image-under, folder_shows, is_below-before}
use Rattle.fs_trait.proofs.Images.{folder_or_not, not_both}
use Rattle.repo_layout.specs.declared.fixed.Version.{Version}
use Rattle.repo_layout.specs.declared.fixed.Version.TheVariants.{Zero, One}
use Rattle.repo_layout.specs.declared.folder.Folder.TheVariants.{Boot, Ostree}
use Rattle.repo_layout.specs.Fixed.{number}
use Rattle.repo_layout.specs.Paths.{deploy_path, folder_path}
use Rattle.repo_layout.specs.BootPaths.{boot_folder_path, boot_link_path, entry_path, loader_folder_path, loader_path}
use Rattle.boot_model.specs.declared.item.BootItem.{BootItem}
use Rattle.boot_model.specs.Listing.{Boots}
use Rattle.boot_swap.specs.Steps.{EachShows, HasPlaces, IsRead, IsShown, IsSure, IsTheLink, IsTheLoader}
use Rattle.boot_swap.proofs.Spots.{below_both, below_trans}
use Rattle.boot_swap.proofs.Keeping.{entries_same, entry_below, links_same}
use Rattle.boot_swap.proofs.Showing.{link_place}

pub directory_or : (d : Disk) (z : Value) → is_folder z ≡ true → IsDirectory (seen d z)
directory_or d (value.Folder m) e = tt
directory_or d value.Absent e = let n : false ≡ true = e in cc
directory_or d (value.Link m t) e = let n : false ≡ true = e in cc
directory_or d (value.File k) e = let n : false ≡ true = e in cc

-- a path that is sure, with all on the way to it, shows after a crash what it shows now
module _ (w : View) (tree : IsTree w.now) (d : Disk) (image : Image w d) where
  folder_back : (g : Path) → shows d g ≡ shows w.now g → is_folder (d.at g) ≡ false → is_folder (w.now.at g) ≡ false
  folder_back g same none = ⊎_elim
      (λ folder. absurd (not_both (folder_shows d g (subst IsDirectory (sym same) (directory_or w.now (w.now.at g) folder))) none))
      (λ is. is)
      (folder_or_not (w.now.at g))

  one_on : (g : Path) (x : Name) → EachShows w (under g x) (λ s. s ≡ shows w.now (under g x)) → shows d g ≡ shows w.now g → shows d (under g x) ≡ shows w.now (under g x)
  one_on g x sure same = ⊎_elim
      (λ folder. sure (shows d (under g x)) (Image-under w d image g x folder))
      (λ none. ap (seen d) (image.gone g x none) ∙ sym (ap (seen w.now) (tree.folders g x (folder_back g same none))))
      (folder_or_not (d.at g))

  sure_on : (g rest : Path) → ((q : Path) → is_below q (g ++ rest) ≡ true → EachShows w q (λ s. s ≡ shows w.now q)) → shows d g ≡ shows w.now g → shows d (g ++ rest) ≡ shows w.now (g ++ rest)
  sure_on g [] sure same = subst (λ q. shows d q ≡ shows w.now q) (sym (append-nil g)) same
  sure_on g (x ∷ rest) sure same =
      let again : under g x ++ rest ≡ g ++ x ∷ rest = append_assoc g (x ∷ []) rest in
      subst (λ q. shows d q ≡ shows w.now q) again
      (sure_on (under g x) rest (λ q below. sure q (subst (λ p. is_below q p ≡ true) again below))
      (one_on g x (sure (under g x) (subst (λ p. is_below (under g x) p ≡ true) again (is_below-before (under g x) rest))) same))

  pub sure_path : (p : Path) → ((q : Path) → is_below q p ≡ true → EachShows w q (λ s. s ≡ shows w.now q)) → shows d p ≡ shows w.now p
  sure_path p sure = sure_on [] p sure (sure [] (is_below-before [] p) (shows d []) (Image-root w d image))

-- what is read to boot is read on the way there too
read_front : (n sub : ℕ) (items : List BootItem) (q p : Path) → is_below q p ≡ true → IsRead n sub items p → IsRead n sub items q
read_front n sub items q p below (inl (inl on_way)) = inl (inl (below_trans q p (loader_folder_path n) below on_way))
read_front n sub items q p below (inl (inr under_)) = inl (below_both q (loader_folder_path n) p below under_)
read_front n sub items q p below (inr (inl (inl on_way))) = inr (inl (inl (below_trans q p (boot_folder_path n sub) below on_way)))
read_front n sub items q p below (inr (inl (inr under_))) = inr (inl (below_both q (boot_folder_path n sub) p below under_))
read_front n sub items q p below (inr (inr a)) = inr (inr (a.0, a.1, a.2, below_trans q p (deploy_path a.1.id.os a.1.id.commit a.1.id.serial) below a.3))

small : (n : Version) → number n < 2
small Zero = omega arith
small One = omega arith

boot_above : (n : Version) → is_below (folder_path Boot) (loader_folder_path (number n)) ≡ true
unfolding is_below loader_folder_path
boot_above n = refl

ostree_above : (n sub : Version) → is_below (folder_path Ostree) (boot_folder_path (number n) (number sub)) ≡ true
unfolding is_below boot_folder_path
ostree_above n sub = refl

-- what is sure of a name in a folder that is there
shown_in : (w : View) (d : Disk) → Image w d → (S : Seen → Type 0) (p f : Path) (x : Name) → p ≡ under f x → is_folder (d.at f) ≡ true → EachShows w p S → S (shows d p)
shown_in w d image S p f x is folder each = each (shows d p) (subst (λ q. MayBe w q (shows d q)) (sym is) (Image-under w d image f x folder))

module _ (items : List BootItem) (w : View) (tree : IsTree w.now) (places : HasPlaces items w.now) (n sub : Version) (sure : IsSure w n sub items) (d : Disk) (image : Image w d) where
  same : (p : Path) → IsRead (number n) (number sub) items p → shows d p ≡ shows w.now p
  same p read = sure_path w tree d image p (λ q below. sure.sure q (read_front (number n) (number sub) items q p below read))

  boot_there : is_folder (d.at (folder_path Boot)) ≡ true
  boot_there = folder_shows d (folder_path Boot) (subst IsDirectory (sym (same (folder_path Boot) (inl (inl (boot_above n))))) places.boot)

  ostree_there : is_folder (d.at (folder_path Ostree)) ≡ true
  ostree_there = folder_shows d (folder_path Ostree) (subst IsDirectory (sym (same (folder_path Ostree) (inr (inl (inl (ostree_above n sub)))))) places.ostree)

  -- the links that select are in folders that each crash leaves
  pub loader_shown : EachShows w loader_path (IsTheLoader n) → IsTheLoader n (shows d loader_path)
  loader_shown each = shown_in w d image (IsTheLoader n) loader_path (folder_path Boot) _ refl boot_there each

  pub link_shown : EachShows w (boot_link_path (number n)) (IsTheLink n sub) → IsTheLink n sub (shows d (boot_link_path (number n)))
  link_shown each = shown_in w d image (IsTheLink n sub) (boot_link_path (number n)) (folder_path Ostree) _ (link_place n) ostree_there each

  pub new_boots : IsTheLoader n (shows d loader_path) → IsTheLink n sub (shows d (boot_link_path (number n))) → Boots d items
  new_boots loader link = record {
    loader = number n;
    selects = record { small = small n; link = loader };
    entries = entries_same w.now d (number n) items (λ file. same (entry_path (number n) file) (inl (inr (entry_below (number n) file)))) sure.entries;
    leads = λ i item at. record {
      sub = number sub;
      small = small sub;
      link = link;
      item = links_same w.now d (number n) (number sub) items (λ p below. same p (inr (inl (inr below)))) sure.links i item at;
      same = refl;
      there = folder_shows d (deploy_path item.id.os item.id.commit item.id.serial)
          (subst IsDirectory (sym (same (deploy_path item.id.os item.id.commit item.id.serial) (inr (inr (i, item, at, is_below-self (deploy_path item.id.os item.id.commit item.id.serial)))))) (places.deployments i item at));
    };
  }

-- once the swap is done
pub shown_boots : (items : List BootItem) (w : View) → IsTree w.now → HasPlaces items w.now → IsShown items w → EachImage w (λ d. Boots d items)
shown_boots items w tree places shown d image =
    let n = shown.0 in
    let whole = shown.1 in
    new_boots items w tree places n whole.sub whole.sure d image (loader_shown items w tree places n whole.sub whole.sure d image shown.2) (link_shown items w tree places n whole.sub whole.sure d image whole.link)
