-- Writes that lie nowhere where a list is read, nor on the way there, leave in each crash the list that boots.
use Rattle.std.proofs.Common.{◌≡◌, ◌⊎◌, inl, inr, ⊎_elim, ℕ, zero, suc, ◌<◌, arith, Bool, true, false, ◌||◌, not, List, [], ◌∷◌, ◌++◌, Contains, refl, sym, ◌∙◌, ap, subst}
use Rattle.std.specs.List.{list_any}
use Rattle.std.proofs.lemmas.List.Folds.{list_any_at}
use Rattle.ost_types.specs.Path.{Name, Path, is_below, under}
use Rattle.ost_types.proofs.Paths.{is_below-self, under-is_below}
use Rattle.fs_trait.specs.View.{Disk, View}
use Rattle.fs_trait.specs.Image.{EachImage, IsTree}
use Rattle.fs_trait.specs.Seen.{Seen}
use Rattle.fs_trait.specs.Change.{Writes}
use Rattle.fs_trait.proofs.Claims.{is_below-before}
use Rattle.repo_layout.specs.declared.folder.Folder.TheVariants.{Boot, Ostree}
use Rattle.repo_layout.specs.Paths.{folder_path}
use Rattle.repo_layout.specs.BootPaths.{boot_folder_path, boot_link_path, entry_path, loader_folder_path, loader_path}
use Rattle.boot_model.specs.declared.item.DepId.{DepId}
use Rattle.boot_model.specs.declared.item.BootItem.{BootItem}
use Rattle.boot_model.specs.Entries.{loader_target}
use Rattle.boot_model.specs.Listing.{Boots, IsLinkTo}
use Rattle.boot_swap.specs.Steps.{IsAround}
use Rattle.boot_swap.proofs.Keeping.{entries_same}
use Rattle.boot_swap.proofs.Spots.{below_trans}
use Rattle.deployment_build.specs.Deployment.{folder_of}
use Rattle.tree_read.proofs.Walk.{mapped}
use Rattle.deploy_task.specs.Listed.{ids_in}
use Rattle.deploy_task.specs.Lists.{SameListOf}
use Rattle.deploy_task.proofs.Aside.{IsClosed, IsUnread, left_before}
use Rattle.deploy_task.proofs.LeftLists.{leads_on}

-- ---- what boots, boots still

boots_on : (items : List BootItem) (d e : Disk) → SameListOf (ids_in items) d e → Boots d items → Boots e items
boots_on items d e same boots =
    let v = same.version boots.loader boots.selects in
    record {
      loader = boots.loader;
      selects = record { small = boots.selects.small; link = subst (IsLinkTo (loader_target boots.loader)) (sym same.loader) boots.selects.link };
      entries = entries_same d e boots.loader items v.entries boots.entries;
      leads = λ i item at. leads_on (ids_in items) boots.loader d e v item.id.os item.kernel.bootcsum _ item.id (mapped (λ (x : BootItem). x.id) items item (i, at.0, at.1)) (boots.leads i item at);
    }

-- ---- where a list is read

abbrev around : Path → Path → Bool
around a p = is_below p a || is_below a p

abbrev in_version : ℕ → Path → Bool
in_version n p = around (loader_folder_path n) p || (is_below p (boot_link_path n) || (around (boot_folder_path n 0) p || around (boot_folder_path n 1) p))

-- at or below these places, or on the way to one
abbrev pub is_read : List DepId → Path → Bool
is_read ids p = is_below p loader_path || (in_version 0 p || (in_version 1 p || list_any (λ id. is_below p (folder_of id)) ids))

abbrev pub is_elsewhere : List DepId → Path → Bool
is_elsewhere ids p = not (is_read ids p)

first : (a b : Bool) → a ≡ true → a || b ≡ true
first a b e = rw e refl

second : (a b : Bool) → b ≡ true → a || b ≡ true
second true b e = refl
second false b e = e

cases : (a b : Bool) → a || b ≡ true → (a ≡ true) ⊎ (b ≡ true)
cases true b e = inl refl
cases false b e = inr e

either : (a b c d : Bool) → (a ≡ true → c ≡ true) → (b ≡ true → d ≡ true) → a || b ≡ true → c || d ≡ true
either a b c d one two e = ⊎_elim (λ l. first c d (one l)) (λ r. second c d (two r)) (cases a b e)

-- with a path all on the way to it
up_below : (a f : Path) (x : Name) → is_below (under f x) a ≡ true → is_below f a ≡ true
up_below a f x e = below_trans f (under f x) a (is_below-before f (x ∷ [])) e

up_around : (a f : Path) (x : Name) → around a (under f x) ≡ true → around a f ≡ true
up_around a f x e = ⊎_elim
    (λ way. first (is_below f a) (is_below a f) (up_below a f x way))
    (λ below. ⊎_elim
    (λ in_. second (is_below f a) (is_below a f) in_)
    (λ same. first (is_below f a) (is_below a f) (subst (λ q. is_below f q ≡ true) (sym same) (is_below-before f (x ∷ []))))
    (under-is_below a f x below))
    (cases (is_below (under f x) a) (is_below a (under f x)) e)

up_version : (n : ℕ) (f : Path) (x : Name) → in_version n (under f x) ≡ true → in_version n f ≡ true
up_version n f x e =
    either (around (loader_folder_path n) (under f x)) _ (around (loader_folder_path n) f) _ (up_around (loader_folder_path n) f x)
    (either (is_below (under f x) (boot_link_path n)) _ (is_below f (boot_link_path n)) _ (up_below (boot_link_path n) f x)
    (either (around (boot_folder_path n 0) (under f x)) (around (boot_folder_path n 1) (under f x)) (around (boot_folder_path n 0) f) (around (boot_folder_path n 1) f) (up_around (boot_folder_path n 0) f x) (up_around (boot_folder_path n 1) f x))) e

up_any : (ids : List DepId) (f : Path) (x : Name) → list_any (λ id. is_below (under f x) (folder_of id)) ids ≡ true → list_any (λ id. is_below f (folder_of id)) ids ≡ true
up_any [] f x e = e
up_any (id ∷ ids) f x e = either (is_below (under f x) (folder_of id)) (list_any (λ id. is_below (under f x) (folder_of id)) ids) (is_below f (folder_of id)) (list_any (λ id. is_below f (folder_of id)) ids) (up_below (folder_of id) f x) (up_any ids f x) e

up_read : (ids : List DepId) (f : Path) (x : Name) → is_read ids (under f x) ≡ true → is_read ids f ≡ true
up_read ids f x e =
    either (is_below (under f x) loader_path) _ (is_below f loader_path) _ (up_below loader_path f x)
    (either (in_version 0 (under f x)) _ (in_version 0 f) _ (up_version 0 f x)
    (either (in_version 1 (under f x)) _ (in_version 1 f) _ (up_version 1 f x) (up_any ids f x))) e

not_read : (b : Bool) → (b ≡ true → ⊥) → not b ≡ true
not_read true e = absurd (e refl)
not_read false e = refl

is_not : (b : Bool) → b ≡ true → not b ≡ false
is_not true e = refl
is_not false e = sym e

both_ways : (b : Bool) → not b ≡ true → b ≡ true → ⊥
both_ways true e is = let n : false ≡ true = e in cc
both_ways false e is = let n : false ≡ true = is in cc

elsewhere_closed : (ids : List DepId) → IsClosed (is_elsewhere ids)
elsewhere_closed ids f x e = not_read (is_read ids (under f x)) (λ is. both_ways (is_read ids f) e (up_read ids f x is))

-- ---- the list is read there

in_zero : (ids : List DepId) (p : Path) → in_version 0 p ≡ true → is_read ids p ≡ true
in_zero ids p e = second (is_below p loader_path) _ (first (in_version 0 p) _ e)

in_one : (ids : List DepId) (p : Path) → in_version 1 p ≡ true → is_read ids p ≡ true
in_one ids p e = second (is_below p loader_path) _ (second (in_version 0 p) _ (first (in_version 1 p) _ e))

in_a_version : (ids : List DepId) (p : Path) (n : ℕ) → n < 2 → in_version n p ≡ true → is_read ids p ≡ true
in_a_version ids p zero less e = in_zero ids p e
in_a_version ids p (suc zero) less e = in_one ids p e
in_a_version ids p (suc (suc n)) less e = absurd (omega (arith, less))

entry_in : (n : ℕ) (file : Name) → in_version n (entry_path n file) ≡ true
entry_in n file =
    let p = entry_path n file in
    let below : is_below (loader_folder_path n) p ≡ true = is_below-before (loader_folder_path n) _ in
    first (around (loader_folder_path n) p) _ (second (is_below p (loader_folder_path n)) (is_below (loader_folder_path n) p) below)

link_in : (n : ℕ) → in_version n (boot_link_path n) ≡ true
link_in n =
    let p = boot_link_path n in
    second (around (loader_folder_path n) p) _ (first (is_below p (boot_link_path n)) _ (is_below-self p))

links_in : (n sub : ℕ) (rest : Path) → sub < 2 → in_version n (boot_folder_path n sub ++ rest) ≡ true
links_in n zero rest small =
    let p = boot_folder_path n 0 ++ rest in
    second (around (loader_folder_path n) p) _ (second (is_below p (boot_link_path n)) _
    (first (around (boot_folder_path n 0) p) (around (boot_folder_path n 1) p) (second (is_below p (boot_folder_path n 0)) (is_below (boot_folder_path n 0) p) (is_below-before (boot_folder_path n 0) rest))))
links_in n (suc zero) rest small =
    let p = boot_folder_path n 1 ++ rest in
    second (around (loader_folder_path n) p) _ (second (is_below p (boot_link_path n)) _
    (second (around (boot_folder_path n 0) p) (around (boot_folder_path n 1) p) (second (is_below p (boot_folder_path n 1)) (is_below (boot_folder_path n 1) p) (is_below-before (boot_folder_path n 1) rest))))
links_in n (suc (suc k)) rest small = absurd (omega (arith, small))

any_in : (ids : List DepId) (id : DepId) → Contains ids id → list_any (λ i. is_below (folder_of id) (folder_of i)) ids ≡ true
any_in ids id among = list_any_at (λ i. is_below (folder_of id) (folder_of i)) ids among.0 id among.1 (ap (λ (i : DepId). is_below (folder_of id) (folder_of i)) among.2 ∙ is_below-self (folder_of id))

ostree_in : in_version 0 (folder_path Ostree) ≡ true
unfolding is_below loader_folder_path boot_link_path
ostree_in = refl

boot_in : is_below (folder_path Boot) loader_path ≡ true
unfolding is_below
boot_in = refl

root_in : is_below [] loader_path ≡ true
unfolding is_below
root_in = refl

pub elsewhere_unread : (ids : List DepId) → IsUnread (is_elsewhere ids) ids
elsewhere_unread ids = record {
  root = is_not (is_read ids []) (first (is_below [] loader_path) _ root_in);
  boot = is_not (is_read ids (folder_path Boot)) (first (is_below (folder_path Boot) loader_path) _ boot_in);
  ostree = is_not (is_read ids (folder_path Ostree)) (in_zero ids (folder_path Ostree) ostree_in);
  loader = is_not (is_read ids loader_path) (first (is_below loader_path loader_path) _ (is_below-self loader_path));
  entries = λ n file less. is_not (is_read ids (entry_path n file)) (in_a_version ids (entry_path n file) n less (entry_in n file));
  link = λ n less. is_not (is_read ids (boot_link_path n)) (in_a_version ids (boot_link_path n) n less (link_in n));
  links = λ n sub rest less small. is_not (is_read ids (boot_folder_path n sub ++ rest)) (in_a_version ids (boot_folder_path n sub ++ rest) n less (links_in n sub rest small));
  deployments = λ id among. is_not (is_read ids (folder_of id))
      (second (is_below (folder_of id) loader_path) _ (second (in_version 0 (folder_of id)) _ (second (in_version 1 (folder_of id)) _ (any_in ids id among))));
}

-- ---- what is written elsewhere

-- a place of a list of these deployments, or on the way to one
abbrev pub IsNear : List DepId → Path → Type 0
IsNear ids p = (is_below p loader_path ≡ true)
    ⊎ (((n : ℕ) × (n < 2) × ((IsAround (loader_folder_path n) p ⊎ (is_below p (boot_link_path n) ≡ true)) ⊎ ((sub : ℕ) × (sub < 2) × IsAround (boot_folder_path n sub) p)))
    ⊎ ((id : DepId) × Contains ids id × (is_below p (folder_of id) ≡ true)))

near_around : (a p : Path) → around a p ≡ true → IsAround a p
near_around a p e = cases (is_below p a) (is_below a p) e

near_version : (ids : List DepId) (n : ℕ) (p : Path) → n < 2 → in_version n p ≡ true → IsNear ids p
near_version ids n p less e = ⊎_elim
    (λ l. inr (inl (n, less, inl (inl (near_around (loader_folder_path n) p l)))))
    (λ r. ⊎_elim
    (λ l. inr (inl (n, less, inl (inr l))))
    (λ f. ⊎_elim (λ z. inr (inl (n, less, inr (0, omega arith, near_around (boot_folder_path n 0) p z)))) (λ o. inr (inl (n, less, inr (1, omega arith, near_around (boot_folder_path n 1) p o)))) (cases (around (boot_folder_path n 0) p) (around (boot_folder_path n 1) p) f))
    (cases (is_below p (boot_link_path n)) _ r))
    (cases (around (loader_folder_path n) p) _ e)

any_there : (ids : List DepId) (p : Path) → list_any (λ id. is_below p (folder_of id)) ids ≡ true → (id : DepId) × Contains ids id × (is_below p (folder_of id) ≡ true)
any_there [] p e = let n : false ≡ true = e in cc
any_there (id ∷ ids) p e = by (cases (is_below p (folder_of id)) (list_any (λ id. is_below p (folder_of id)) ids) e) (any_there ids p)
  where
    by : (is_below p (folder_of id) ≡ true) ⊎ (list_any (λ id. is_below p (folder_of id)) ids ≡ true) → (list_any (λ id. is_below p (folder_of id)) ids ≡ true → (id : DepId) × Contains ids id × (is_below p (folder_of id) ≡ true))
        → (i : DepId) × Contains (id ∷ ids) i × (is_below p (folder_of i) ≡ true)
    by (inl here) rest = (id, (0, omega arith, refl), here)
    by (inr later) rest = let r = rest later in let at = r.1 in let inside = at.1 in (r.0, (suc at.0, omega (arith, inside), at.2), r.2)

near : (ids : List DepId) (p : Path) → is_read ids p ≡ true → IsNear ids p
near ids p e = ⊎_elim
    (λ l. inl l)
    (λ r. ⊎_elim
    (λ z. near_version ids 0 p (omega arith) z)
    (λ s. ⊎_elim (λ o. near_version ids 1 p (omega arith) o) (λ d. inr (inr (any_there ids p d))) (cases (in_version 1 p) _ s))
    (cases (in_version 0 p) _ r))
    (cases (is_below p loader_path) _ e)

-- where each crash left the items to boot, it does so still
pub boots_kept : (W : Path → Seen → Type 0) (items : List BootItem) (v w : View) → IsTree v.now → Writes W v w → ((p : Path) (s : Seen) → W p s → ¬ (IsNear (ids_in items) p)) → EachImage v (λ d. Boots d items) → EachImage w (λ d. Boots d items)
boots_kept W items v w tree writes apart each d image =
    let ids = ids_in items in
    let within : (p : Path) (s : Seen) → W p s → is_elsewhere ids p ≡ true = λ p s wrote. not_read (is_read ids p) (λ e. apart p s wrote (near ids p e)) in
    let was = left_before items (is_elsewhere ids) (elsewhere_unread ids) W within v w writes (elsewhere_closed ids) tree d image in
    boots_on items was.0 d was.2 (each was.0 was.1)
