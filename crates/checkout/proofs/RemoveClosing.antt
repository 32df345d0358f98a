-- The removal of an empty folder: it isn't refused, and what it leaves to the next step.
use Rattle.std.proofs.Common.{◌≡◌, ◌≢◌, inl, inr, ℕ, Bool, true, false, refl, sym, ◌∙◌, ap, subst, List, [], ◌∷◌, ◌++◌, reverse, length, arith, Option, Some, None}
use Rattle.ost_types.specs.Path.{Name, Path, IsPath, under}
use Rattle.fs_trait.specs.declared.types.FsErr.{FsErr}
use Rattle.fs_trait.specs.declared.types.FsErr.TheVariants.{Failed, Exists, Missing, NotFolder, NotEmpty, NoMemory}
use Rattle.fs_trait.specs.declared.types.Value.TheVariants.{Absent}
use Rattle.fs_trait.specs.View.{Disk, View, named}
use Rattle.fs_trait.specs.Image.{IsTree, Told}
use Rattle.fs_trait.specs.Effect.{Fails, HasNames, no_rmdir, if_names, OfNone}
use Rattle.fs_trait.specs.Seen.{Vacant, shows, IsDirectory}
use Rattle.fs_trait.proofs.Refusals.{no_folder-there}
use Rattle.fs_trait.proofs.Claims.{folder_shows}
use Rattle.fs_trait.proofs.Facts.{vacant_absent}
use Rattle.checkout.specs.declared.remove.phase.Phase.TheVariants.{Inside, Ended}
use Rattle.checkout.specs.RemoveFolder.{Opened}
use Rattle.checkout.specs.Remove.{Removing, Looks, Closes, act, act_in, act_of, closed, closed_to}
use Rattle.checkout.specs.RemoveSteps.{Goes, Leaves, Needs, Refuses}
use Rattle.checkout.proofs.RemoveBelow.{below_not_root}
use Rattle.checkout.proofs.RemoveLists.{reverse-last}
use Rattle.checkout.proofs.RemoveKnown.{gone_named, open_empty}
use Rattle.checkout.proofs.RemoveNeeds.{goes_folder, needs_closed}
use Rattle.checkout.proofs.RemoveWrites.{err_leaves}
use Rattle.checkout.proofs.RemoveAnswering.{call_fails}

no_names : (b : Bool) (p : Path) (d : Disk) → p ≢ [] → ((x : Name) → shows d (under p x) ≡ Vacant) → HasNames b p d → if_names b ≡ None
no_names true p d root empty (inl is) = absurd (root is)
no_names true p d root empty (inr (x, there)) = absurd (there (vacant_absent d (under p x) (empty x)))
no_names false p d root empty has = refl

no_rmdir-free : (b : Bool) (p : Path) (d : Disk) → IsTree d → p ≢ [] → IsDirectory (shows d p) → ((x : Name) → shows d (under p x) ≡ Vacant) → HasNames b p d → no_rmdir b p d ≡ None
unfolding no_rmdir
no_rmdir-free b p d tree root there empty has = rw (no_folder-there d tree p (folder_shows d p there)) (no_names b p d root empty has)

closes_path : (f : Path) (names : List Name) (p : Path) → act_of f names ≡ Closes p → f ≡ p
closes_path f [] p is = cc
closes_path f (x ∷ names) p is = let n : Looks (under f x) ≡ Closes p = is in cc

closes : (t : Removing) (f : Opened) → t.phase ≡ Inside f → (p : Path) → act t ≡ Closes p → act_of f.path f.names ≡ Closes p
closes t f inside p is = sym (ap (λ ph. act_in ph t.at) inside) ∙ is

-- the path that is removed is the innermost folder's
pub closes_folder : (t : Removing) (f : Opened) → t.phase ≡ Inside f → ((p : Path) × (act t ≡ Closes p)) → act t ≡ Closes f.path
closes_folder t f inside (p, is) = is ∙ ap Closes (sym (closes_path f.path f.names p (closes t f inside p is)))

module _ (t : Removing) (f : Opened) (inside : t.phase ≡ Inside f) (p : Path) (is : act t ≡ Closes p) (v : View) (tree : IsTree v.now) (needs : Needs t v) where
  needs_inside : Needs (record { at = t.at; phase = Inside f; outer = t.outer; room = t.room }) v
  needs_inside = subst (λ ph. Needs (record { at = t.at; phase = ph; outer = t.outer; room = t.room }) v) inside needs

  same : f.path ≡ p
  same = closes_path f.path f.names p (closes t f inside p is)

  pub goes : Goes t v.now p
  goes = subst (λ ph. Goes (record { at = t.at; phase = ph; outer = t.outer; room = t.room }) v.now p) (sym inside) (goes_folder f t.at t.outer t.room v p needs_inside (closes t f inside p is))

  free : (b : Bool) → HasNames b p v.now → no_rmdir b p v.now ≡ None
  free b has =
      let empty = open_empty v.now f.path f.names p (closes t f inside p is) needs_inside.known.0 in
      no_rmdir-free b p v.now tree (below_not_root t.at p needs.made.below_root goes.below)
      (subst (λ q. IsDirectory (shows v.now q)) same needs_inside.known.0.folder)
      (λ x. subst (λ q. shows v.now (under q x) ≡ Vacant) same (empty.1 x)) has

  pub closed_leaves : (b : Bool) → HasNames b p v.now → (e : FsErr) (view : Option View) → Fails (no_rmdir b p v.now) v (named p Absent v) e view → Told view (Leaves t v)
  closed_leaves b has e view fails = err_leaves t v p goes (no_rmdir b p v.now) e view fails

  pub closed_fails : (b : Bool) → HasNames b p v.now → (e : FsErr) (view : Option View) → Fails (no_rmdir b p v.now) v (named p Absent v) e view → Refuses t v e
  closed_fails b has e view fails = none_refuses e (call_fails (no_rmdir b p v.now) v (named p Absent v) (free b has) e view fails)
    where
      none_refuses : (e : FsErr) → OfNone e → Refuses t v e
      none_refuses Failed of = tt
      none_refuses NoMemory of = tt
      none_refuses Exists of = absurd of
      none_refuses Missing of = absurd of
      none_refuses NotFolder of = absurd of
      none_refuses NotEmpty of = absurd of

  pub closed_needs : (new : Removing) → new ≡ closed t → IsPath p → (view : Option View) → view ≡ Some (named p Absent v) → Told view (λ w. Needs new w)
  closed_needs new after path view shown = (
    named p Absent v,
    shown,
    subst (λ (n : Removing). Needs n (named p Absent v)) (sym after) (needs_closed f t.at t.outer t.room v p needs_inside (named p Absent v) (gone_named v p path) same),
  )

pub no_items : (items : List Opened) → length items ≡ 0 → items ≡ []
no_items [] none = refl
no_items (f ∷ items) none = absurd (omega (arith, none))

-- the folder around it is the innermost then
pub closed_some : (at : Path) (items rest : List Opened) (g : Opened) (room : ℕ) → items ≡ rest ++ g ∷ [] → closed_to at (reverse items) room ≡ record { at = at; phase = Inside g; outer = reverse rest; room = room }
closed_some at items rest g room are = ap (λ l. closed_to at l room) (ap reverse are ∙ reverse-last rest g)

pub closed_none : (at : Path) (items rest : List Opened) (room : ℕ) → items ≡ rest ++ [] → rest ≡ [] → closed_to at (reverse items) room ≡ record { at = at; phase = Ended; outer = reverse rest; room = room }
closed_none at items rest room are none = ap (λ l. closed_to at (reverse l) room) (are ∙ ap (λ l. l ++ []) none) ∙ ap (λ l. record { at = at; phase = Ended; outer = reverse l; room = room }) (sym none)
