-- What stands in the folders that a swap made.
use Rattle.std.proofs.Common.{◌≡◌, ℕ, ◌+◌, ◌-◌, arith, List, ◌++◌, length, drop, codes, Option, Some, None, sym, ◌∙◌, ap, subst, append_assoc, length-append}
use Rattle.std.specs.Fmt.{decimal}
use Rattle.std.proofs.Math.Seq.{drop-append_seam}
use Rattle.ost_types.specs.Path.{Name}
use Rattle.fs_trait.specs.View.{Disk}
use Rattle.fs_trait.specs.Seen.{Seen, Symlink, bytes_in, shows}
use Rattle.fs_trait.proofs.Claims.{reads_shows}
use Rattle.repo_layout.specs.BootPaths.{boot_folder_path, entry_path, loader_folder_path}
use Rattle.boot_model.specs.declared.item.BootItem.{BootItem}
use Rattle.boot_model.specs.Items.{AreItems, IsAt, link_number}
use Rattle.boot_model.specs.Entries.{deploy_target, entry_name, entry_text, item_link_path}
use Rattle.boot_model.specs.Listing.{HasEntry, ShowsEntries, ends_conf}
use Rattle.boot_model.proofs.Distinct.{text_index}
use Rattle.folder_build.specs.declared.node.Content.{Content}
use Rattle.folder_build.specs.declared.node.Content.TheVariants.{Folder, File, Link}
use Rattle.folder_build.specs.declared.node.NewNode.{NewNode}
use Rattle.folder_build.specs.Node.{IsBuilt, IsContent, link_meta}
use Rattle.boot_plan.specs.Plans.{AreEntries, AreLinks}
use Rattle.boot_swap.specs.Steps.{ShowsLinks}
use Rattle.boot_swap.proofs.Keeping.{entry_below, link_below}

name_ends : (version : ℕ) → ends_conf (entry_name version)
unfolding entry_name
name_ends version =
    let front = codes "ostree-" ++ decimal version in
    let whole : codes "ostree-" ++ (decimal version ++ codes ".conf") ≡ front ++ codes ".conf" = sym (append_assoc (codes "ostree-") (decimal version) (codes ".conf")) in
    let n : length (front ++ codes ".conf") ≡ length front + 5 = length-append front (codes ".conf") in
    ap (λ l. drop (length l - 5) l) whole
    ∙ ap (λ k. drop k (front ++ codes ".conf")) (let e : length (front ++ codes ".conf") - 5 ≡ length front = omega (arith, n) in e)
    ∙ drop-append_seam front (codes ".conf")

file_bytes : (c : Option Content) (s : Seen) (b : List ℕ) → IsContent c s → bytes_in s ≡ Some b → c ≡ Some (File b)
file_bytes None s b is has = let n : None ≡ Some b = sym (ap bytes_in is) ∙ has in cc
file_bytes (Some Folder) s b is has = let n : None ≡ Some b = sym (ap bytes_in is) ∙ has in cc
file_bytes (Some (Link t)) s b is has = let n : None ≡ Some b = sym (ap bytes_in is) ∙ has in cc
file_bytes (Some (File a)) s b is has = let e : Some a ≡ Some b = sym (ap bytes_in is.1) ∙ has in let i : a ≡ b = cc in ap (λ x. Some (File x)) i

content_file : (c : Option Content) (s : Seen) (b : List ℕ) → IsContent c s → c ≡ Some (File b) → bytes_in s ≡ Some b
content_file c s b is e = ap bytes_in (subst (λ x. IsContent x s) e is).1

content_link : (c : Option Content) (s : Seen) (t : List ℕ) → IsContent c s → c ≡ Some (Link t) → s ≡ Symlink link_meta t
content_link c s t is e = subst (λ x. IsContent x s) e is

module _ (d : Disk) (n : ℕ) (items : List BootItem) (nodes : List NewNode) (are : AreItems items) (built : IsBuilt d (loader_folder_path n) nodes) (entries : AreEntries n items nodes) where
  has_entry : (i : ℕ) (item : BootItem) → IsAt items i item → HasEntry d n (entry_name (length items - i)) (entry_text n items i item)
  has_entry i item at =
      let p = entry_path n (entry_name (length items - i)) in
      record {
        name = name_ends (length items - i);
        holds = reads_shows d p ∙ content_file _ (shows d p) (entry_text n items i item) (built p (entry_below n _)) (entries.each i item at);
      }

  of_item : (file : Name) (bytes : List ℕ) → HasEntry d n file bytes → (i : ℕ) × (item : BootItem) × IsAt items i item × (file ≡ entry_name (length items - i)) × (bytes ≡ entry_text n items i item)
  of_item file bytes has =
      let p = entry_path n file in
      let c = file_bytes _ (shows d p) bytes (built p (entry_below n file)) (sym (reads_shows d p) ∙ has.holds) in
      let a = entries.only file (File bytes) c in
      let e : File bytes ≡ File (entry_text n items a.0 a.1) = a.4 in
      (a.0, a.1, a.2, a.3, cc e)

  once : (f g : Name) (bytes : List ℕ) → HasEntry d n f bytes → HasEntry d n g bytes → f ≡ g
  once f g bytes one two =
      let a = of_item f bytes one in
      let b = of_item g bytes two in
      let i : a.0 ≡ b.0 = text_index n items are a.0 b.0 a.1 b.1 a.2 b.2 (sym a.4 ∙ b.4) in
      a.3 ∙ ap (λ k. entry_name (length items - k)) i ∙ sym b.3

  pub entries_built : ShowsEntries d n items
  entries_built = record {
    each = λ i item at. (entry_name (length items - i), has_entry i item at);
    only = λ file bytes has. let a = of_item file bytes has in (a.0, a.1, a.2, a.4);
    once = once;
  }

pub links_built : (d : Disk) (n sub : ℕ) (items : List BootItem) (nodes : List NewNode) → IsBuilt d (boot_folder_path n sub) nodes → AreLinks n sub items nodes → ShowsLinks d n sub items
links_built d n sub items nodes built links i item at =
    let p = item_link_path n sub item (link_number items i item) in
    (link_meta, content_link _ (shows d p) (deploy_target item.id) (built p (link_below n sub item (link_number items i item))) (links i item at))
