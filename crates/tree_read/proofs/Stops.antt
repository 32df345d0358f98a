-- Where reading stops: nothing is wrong before the next item, and what was found are the paths before it.
use Rattle.std.proofs.Common.{◌≡◌, ◌⊎◌, inl, inr, ◌<◌, ℕ, List, [], ◌∷◌, ◌++◌, Contains, length, refl, sym, ◌∙◌, ap, subst, append-nil, arith}
use Rattle.std.proofs.lemmas.List.Elements.{Contains-append_cases, Contains-push, Contains-append_right}
use Rattle.std.specs.List.{AllByRecursion}
use Rattle.std.specs.declared.cmp.Ordering.TheVariants.{Less}
use Rattle.ost_types.specs.declared.limits.Limits.{Limits}
use Rattle.ost_types.specs.declared.node.NodeName.{NodeName}
use Rattle.ost_types.specs.declared.object.Kind.TheVariants as kind
use Rattle.ost_types.specs.declared.object.ObjName.{ObjName}
use Rattle.ost_types.specs.Path.{Path, path_cmp}
use Rattle.ost_types.specs.PathMap.{Nodes, IsAscending, paths_of}
use Rattle.repo_model.specs.Objects.{Store}
use Rattle.repo_model.specs.Trees.{Names, name_of}
use Rattle.tree_read.specs.declared.item.Named.{Named}
use Rattle.tree_read.specs.declared.item.Named.TheVariants.{Folder, Attributes, File}
use Rattle.tree_read.specs.declared.item.Item.{Item}
use Rattle.tree_read.specs.Items.{NamesFrom, ItemNames}
use Rattle.tree_read.specs.Line.{ComesBefore, AreAfter, InLine}
use Rattle.tree_read.specs.Order.{IsKept, IsMet, AllKeptBefore, ArePathsBefore, IsOwner, StopsAt, HasTooMany}
use Rattle.tree_read.specs.Walked as walk
use Rattle.tree_read.specs.Walked.{Walked}
use Rattle.tree_read.proofs.Lines.{path_order, next_first, back, reaches_nothing, not_above}
use Rattle.tree_read.proofs.Merged.{only, head_or_tail}
use Rattle.tree_read.proofs.Walk.{unmapped, shows_met}

-- the object of an item that is read next
abbrev pub first_of : Named → ObjName
first_of (Folder tree meta) = name_of kind.DirTree tree
first_of (Attributes meta) = name_of kind.DirMeta meta
first_of (File sum) = name_of kind.File sum

pub each_of : {X : Type 0} (P : X → Type 0) (xs : List X) (x : X) → AllByRecursion P xs → Contains xs x → P x
each_of P [] x all h = absurd (omega (arith, h.1))
each_of P (y ∷ xs) x all h = elim (head_or_tail y xs x h) [ inl same ↦ subst P same all.0 | inr t ↦ each_of P xs x all.1 t ]

first_named : (S : Store) (x : Named) → NamesFrom S x [] (first_of x)
unfolding Names
first_named S (Folder tree meta) = inl refl
first_named S (Attributes meta) = (refl, refl)
first_named S (File sum) = (refl, refl)

-- of what is named at the very path nothing comes earlier than the first
none_earlier : (S : Store) (x : Named) (a : ObjName) → NamesFrom S x [] a → a.kind ≡ kind.DirTree → (first_of x).kind ≡ kind.DirMeta → ⊥
none_earlier S (Folder tree meta) a n is_tree is_meta = let e : kind.DirTree ≡ kind.DirMeta = is_meta in cc
none_earlier S (Attributes meta) a n is_tree is_meta = let e : kind.DirMeta ≡ kind.DirTree = ap (λ (o : ObjName). o.kind) (sym n.1) ∙ is_tree in cc
none_earlier S (File sum) a n is_tree is_meta = let e : kind.File ≡ kind.DirMeta = is_meta in cc

nothing_left : (p rest : Path) → p ++ rest ≡ p → rest ≡ []
nothing_left [] rest e = e
nothing_left (x ∷ p) rest e = nothing_left p rest (ap tail e)
  where
    tail : Path → Path
    tail [] = []
    tail (y ∷ q) = q

module _ (S : Store) (content : ℕ) (tree meta : List ℕ) (found : Nodes) (items : List Item) (next : Item)
    (w : Walked S content tree meta found (items ++ next ∷ [])) (l : InLine found (items ++ next ∷ [])) where
  -- a later item names nothing up to the next path
  later_not : (i : Item) (rest q : Path) → Contains items i → q ≡ i.path ++ rest → (path_cmp q next.path ≡ Less) ⊎ (q ≡ next.path) → ⊥
  later_not i rest q among at up = not_above i.path rest (by up)
    where
      first : path_cmp next.path i.path ≡ Less
      first = subst (λ p. path_cmp p i.path ≡ Less) (append-nil next.path) (each_of (ComesBefore next) items i (next_first items next l.line) among [] (reaches_nothing next.named))

      by : (path_cmp q next.path ≡ Less) ⊎ (q ≡ next.path) → path_cmp (i.path ++ rest) i.path ≡ Less
      by (inl less) = subst (λ p. path_cmp p i.path ≡ Less) at (path_order.trans q next.path i.path less first)
      by (inr same) = subst (λ p. path_cmp p i.path ≡ Less) (sym same ∙ at) first

  -- no item names anything before the next path
  none_before : (q : Path) (a : ObjName) → walk.Waits S content (items ++ next ∷ []) q a → path_cmp q next.path ≡ Less → ⊥
  none_before q a waits less = by (Contains-append_cases items (next ∷ []) waits.item waits.among)
    where
      by : Contains items waits.item ⊎ Contains (next ∷ []) waits.item → ⊥
      by (inl h) = later_not waits.item waits.names.rest q h waits.names.below (inl less)
      by (inr h) =
          let n = subst (λ i. ItemNames S i q a) (sym (only next waits.item h)) waits.names in
          not_above next.path n.rest (subst (λ p. path_cmp p next.path ≡ Less) n.below less)

  none_there : (q : Path) (a : ObjName) → walk.Waits S content (items ++ next ∷ []) q a → q ≡ next.path → a.kind ≡ kind.DirTree → (first_of next.named).kind ≡ kind.DirMeta → ⊥
  none_there q a waits same is_tree is_meta = by (Contains-append_cases items (next ∷ []) waits.item waits.among)
    where
      by : Contains items waits.item ⊎ Contains (next ∷ []) waits.item → ⊥
      by (inl h) = later_not waits.item waits.names.rest q h waits.names.below (inr same)
      by (inr h) =
          let n = subst (λ i. ItemNames S i q a) (sym (only next waits.item h)) waits.names in
          none_earlier S next.named a (subst (λ r. NamesFrom S next.named r a) (nothing_left next.path n.rest (sym n.below ∙ same)) n.names) is_tree is_meta

  kept_up_to : (q : Path) (a : ObjName) → Names S tree meta q a → path_cmp q next.path ≡ Less → IsKept S content q a
  kept_up_to q a names less = elim (w.kept q a names) [ inl k ↦ k | inr waits ↦ absurd (none_before q a waits less) ]

  all_kept : AllKeptBefore S content tree meta next.path (first_of next.named)
  all_kept q a names (inl less) = kept_up_to q a names less
  all_kept q a names (inr (same, is_tree, is_meta)) = elim (w.kept q a names) [ inl k ↦ k | inr waits ↦ absurd (none_there q a waits same is_tree is_meta) ]

  -- the next item's object is named
  pub next_named : Names S tree meta next.path (first_of next.named)
  next_named = w.named next.path (first_of next.named) (record {
    item = next;
    among = Contains-append_right items (next ∷ []) next (Contains-push [] next);
    names = record { rest = []; below = sym (append-nil next.path); names = first_named S next.named };
  })

  is_met : (q : Path) → Contains (paths_of found) q → IsMet S content tree meta q
  is_met q h =
      let u = unmapped (λ (e : Path × NodeName). e.0) found q h in
      subst (IsMet S content tree meta) (sym u.2) (shows_met S tree meta u.0.0 u.0.1 (w.sound u.0.0 u.0.1 u.1))

  are_before : IsAscending (paths_of found) → ArePathsBefore S content tree meta next.path (paths_of found)
  are_before ascending = record {
    ascending = ascending;
    met = λ q h. (is_met q h, each_of (λ p. path_cmp p next.path ≡ Less) (paths_of found) q (back (AreAfter found) items (next ∷ []) l.after).0 h);
    all = λ q m less. elim (w.met q m.0 m.1) [ inl h ↦ h | inr still ↦ absurd (none_before q still.object still.waits less) ];
  }

module _ (S : Store) (limits : Limits) (tree meta : List ℕ) (found : Nodes) (items : List Item) (next : Item)
    (w : Walked S limits.content tree meta found (items ++ next ∷ [])) (l : InLine found (items ++ next ∷ [])) (ascending : IsAscending (paths_of found)) where
  pub stops : (Wrong : Path → Type 0) → length (paths_of found) < limits.paths → Wrong next.path → StopsAt S limits tree meta (first_of next.named) Wrong
  stops Wrong few wrong = record {
    at = next.path;
    paths = paths_of found;
    named = next_named S limits.content tree meta found items next w l;
    kept = all_kept S limits.content tree meta found items next w l;
    before = are_before S limits.content tree meta found items next w l ascending;
    few = few;
    wrong = wrong;
  }

  pub too_many : (o : ObjName) → IsOwner S limits.content tree meta next.path o → length (paths_of found) ≡ limits.paths → HasTooMany S limits tree meta o
  too_many o owner full = record {
    at = next.path;
    paths = paths_of found;
    met = (first_of next.named, next_named S limits.content tree meta found items next w l);
    owner = owner;
    kept = kept_up_to S limits.content tree meta found items next w l;
    before = are_before S limits.content tree meta found items next w l ascending;
    full = full;
  }
