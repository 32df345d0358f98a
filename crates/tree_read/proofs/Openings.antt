-- The entries of a folder take the place of the next item.
use Rattle.std.proofs.Common.{◌≡◌, true, false, List, ℕ, [], ◌∷◌, ◌++◌, Contains, map, refl, sym, ◌∙◌, ap, subst}
use Rattle.std.specs.List.{AllByRecursion}
use Rattle.ost_types.specs.Path.{Path}
use Rattle.ost_forms.specs.DirTree.{Entries}
use Rattle.tree_read.specs.declared.item.Named.TheVariants.{Folder, Attributes}
use Rattle.tree_read.specs.declared.item.Item.{Item}
use Rattle.tree_read.specs.Children.{Child, AreChildren, item_of}
use Rattle.tree_read.specs.Line.{InLine}
use Rattle.tree_read.specs.Order.{IsShort}
use Rattle.tree_read.specs.Reading.{AreShort, Fits, IsFar, IsFarBelow, IsNext, Lists, ListsBelow, Reading}
use Rattle.tree_read.proofs.Lasts.{last_same}
use Rattle.tree_read.proofs.Lines.{some_last}
use Rattle.tree_read.proofs.Steps.{at_item, line_open}
use Rattle.tree_read.proofs.Walk.{unmapped}

-- the children that were listed
abbrev pub AreListed : Path → List ℕ → Entries → List Item → Type 0
AreListed at tree e items = (cs : List Child) × AreChildren e cs × (items ≡ map (item_of at tree) cs)

pub far_of : (at : Path) (tree : List ℕ) (e : Entries) (items : List Item) → AreListed at tree e items → AreShort items false → IsFar at e
far_of at tree e items listed f =
    let u = unmapped (item_of at tree) listed.0 f.0 (subst (λ l. Contains l f.0) listed.2 f.1) in
    record { child = u.0; is = listed.1.among u.0 u.1; far = λ s. f.2 (subst (λ (i : Item). IsShort i.path) (sym u.2) s) }

pub lists_of : (at path : Path) (owner tree meta : List ℕ) (e : Entries) (items below : List Item) → AreListed at tree e items → AreShort items true → path ≡ at → below ≡ items ++ at_item path (Attributes meta) owner ∷ []
    → Lists at owner tree meta e below
lists_of at path owner tree meta e items below listed short is_path more = record {
  children = listed.0;
  are = listed.1;
  short = subst (AllByRecursion (λ (i : Item). IsShort i.path)) listed.2 short;
  items_are = more ∙ ap (λ l. l ++ at_item path (Attributes meta) owner ∷ []) listed.2 ∙ ap (λ p. map (item_of at tree) listed.0 ++ at_item p (Attributes meta) owner ∷ []) is_path;
}

-- whichever way the next item is cut off
pub lists_below : (t : Reading) (rest : List Item) (last : Item) (owner tree meta : List ℕ) (e : Entries) (below : List Item) → t.pending ≡ rest ++ last ∷ [] → Lists last.path owner tree meta e below → ListsBelow t owner tree meta e below
lists_below t rest last owner tree meta e below cut l = λ items next again. subst (λ (i : Item). Lists i.path owner tree meta e below) (last_same rest items last next (sym cut ∙ again)) l

pub far_below : (t : Reading) (rest : List Item) (last : Item) (e : Entries) → t.pending ≡ rest ++ last ∷ [] → IsFar last.path e → IsFarBelow t e
far_below t rest last e cut f = λ items next again. subst (λ (i : Item). IsFar i.path e) (last_same rest items last next (sym cut ∙ again)) f

pub none_below : (t : Reading) (e : Entries) → t.pending ≡ [] → IsFarBelow t e
none_below t e none = λ items next cut. absurd (some_last items next (sym cut ∙ none))

pub fits : (t : Reading) (owner tree meta : List ℕ) (e : Entries) (below : List Item) → IsNext t (Folder tree meta) owner → InLine t.found t.pending → ListsBelow t owner tree meta e below → Fits t below
fits t owner tree meta e below n line lists =
    let next = at_item n.path (Folder tree meta) owner in
    record { items = n.items; next = next; cut = n.cut; line = line_open t.found n.items next tree meta owner e below refl (subst (InLine t.found) n.cut line) (lists n.items next n.cut) }
