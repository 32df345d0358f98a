-- Containers are cut into the bytes of their members.
use Rattle.std.proofs.Common.{◌≡◌, ℕ, ◌+◌, ◌<◌, ◌≤◌, Bool, true, false, cond, eqb, List, [], ◌∷◌, ◌++◌, length, map, Option, Some, None, refl, sym, ap, ap₂, subst, ◌∙◌, arith, Bor, drop, get_or, drop-cons, add-one, ◌⊎◌, inl, inr}
use Rattle.std.specs.Prelude.{option_and_then, ◌&&◌}
use Rattle.std.specs.Option.{is_some}
use Rattle.std.proofs.lemmas.Bool.{cond-true, cond-false, eqb-true, false≢true, and_parts}
use Rattle.std.proofs.lemmas.Slice.Eq.{bytes_eq-Decides}
use Rattle.std.proofs.lemmas.List.{nil_from_length, length-drop}
use Rattle.gv_core.specs.declared.fault.GvFault.{GvFault}
use Rattle.gv_core.specs.declared.fault.GvFault.TheVariants.{BadKind, TooDeep, NotNormal, NoMemory}
use Rattle.gv_core.specs.declared.kind.Shape.{Shape}
use Rattle.gv_core.specs.declared.kind.Shape.TheVariants.{Basic as Plain, Variant, Array, Maybe, Tuple, Entry}
use Rattle.gv_core.specs.declared.kind.Basic.{Basic}
use Rattle.gv_core.specs.Kind.{Kind, Kinds, basic, variant, array, maybe, tuple, entry, no_kinds, kind, variant_kind}
use Rattle.gv_core.specs.Tree.{Tree, tree, no_trees, trees_of, leaf, str}
use Rattle.gv_core.specs.Node.{kinds_of, seen}
use Rattle.gv_core.specs.Measure.{◌>>=◌, alignment, fixed}
use Rattle.gv_core.specs.Layout.{Part, part, body, sized, array_of, tuple_of}
use Rattle.gv_core.specs.Reading.{elements, tuple_at, size_for, inner, pair}
use Rattle.gv_core.specs.Gives.{Fails, same_bytes, padded_to, with_table_back}
use Rattle.gv_core.specs.Container.{has_size, all_sized, each_part, container, container_form, raw, raws, cut_of}
use Rattle.gv_core.proofs.Sizes.{bind_some, some_is, none_some, StandAll}
use Rattle.gv_core.proofs.Cutting.{ReadsAll, ReadsEach}
use Rattle.gv_core.proofs.Containers.{tuple_again, AllSize, Sized}
use Rattle.gv_core.proofs.Again.{array_with, elements_at, fixed_positive}
use Rattle.gv_core.proofs.Pushing.{with_first, total_end}
use Rattle.gv_core.proofs.Cells.{Cells, tuple_with}

abbrev pub raw_tree : List ℕ → Tree
raw_tree r = leaf (str r)

pub raws_are : (rs : List (List ℕ)) → trees_of (map raw_tree rs) ≡ raws rs
raws_are [] = refl
raws_are (r ∷ rs) = ap (tree (leaf (str r))) (raws_are rs)

pub pieces_push : (ps : List (Bor (List ℕ))) (p : Bor (List ℕ)) → map raw_tree (map (λ b. b.now) (ps ++ p ∷ [])) ≡ map raw_tree (map (λ b. b.now) ps) ++ raw_tree p.now ∷ []
pieces_push [] p = refl
pieces_push (q ∷ ps) p = ap (λ (x : List Tree). raw_tree q.now ∷ x) (pieces_push ps p)

pub raws_same : (rs qs : List (List ℕ)) → raws rs ≡ raws qs → rs ≡ qs
raws_same [] [] e = refl
raws_same [] (q ∷ qs) e = absurd cc
raws_same (r ∷ rs) [] e = absurd cc
raws_same (r ∷ rs) (q ∷ qs) e = let h : r ≡ q = cc in let t : raws rs ≡ raws qs = cc in ap₂ (λ (x : List ℕ) (xs : List (List ℕ)). x ∷ xs) h (raws_same rs qs t)

-- ---- arrays

-- the elements, where each has its size
abbrev pub checked : Option ℕ → List (List ℕ) → Option (List (List ℕ))
checked o [] = Some []
checked o (r ∷ rs) = cond (has_size o r) (with_first r (checked o rs)) None

checked_if : (b c : Bool) (r : List ℕ) (rs : List (List ℕ)) → cond b (with_first r (cond c (Some rs) None)) None ≡ cond (b && c) (Some (r ∷ rs)) None
checked_if true true r rs = refl
checked_if true false r rs = refl
checked_if false c r rs = refl

checked_is : (o : Option ℕ) (rs : List (List ℕ)) → checked o rs ≡ cond (all_sized o rs) (Some rs) None
checked_is o [] = refl
checked_is o (r ∷ rs) = ap (λ x. cond (has_size o r) (with_first r x) None) (checked_is o rs) ∙ checked_if (has_size o r) (all_sized o rs) r rs

array_if : (b : Bool) (k : Kind) (rs : List (List ℕ)) → option_and_then (array_of k) (cond b (Some rs) None) ≡ cond b (array_of k rs) None
array_if true k rs = refl
array_if false k rs = refl

pub checked_array : (k : Kind) (rs : List (List ℕ)) → option_and_then (array_of k) (checked (fixed k) rs) ≡ container (array k) rs
unfolding container
checked_array k rs = ap (option_and_then (array_of k)) (checked_is (fixed k) rs) ∙ array_if (all_sized (fixed k) rs) k rs

reads_all : (k : Kind) (rs : List (List ℕ)) → ReadsAll raw k (raws rs) rs
reads_all k [] = tt
reads_all k (r ∷ rs) = (refl, reads_all k rs)

all_size : (n : ℕ) (rs : List (List ℕ)) → all_sized (Some n) rs ≡ true → AllSize n rs
all_size n [] e = tt
all_size n (r ∷ rs) e = let p = and_parts (eqb (length r) n) (all_sized (Some n) rs) e in (eqb-true _ _ p.0, all_size n rs p.1)

sized_at : (o : Option ℕ) (k : Kind) (rs : List (List ℕ)) → fixed k ≡ o → all_sized o rs ≡ true → Sized o rs
sized_at None k rs f e = tt
sized_at (Some n) k rs f e = (fixed_positive k n f, all_size n rs e)

if_then : {A : Type 0} (b : Bool) (o : Option A) (x : A) → cond b o None ≡ Some x → (b ≡ true) × (o ≡ Some x)
if_then true o x e = (refl, e)
if_then false o x e = absurd cc

-- ---- tuples

part_size : (o : Option ℕ) (r : List ℕ) (n : ℕ) → has_size o r ≡ true → o ≡ Some n → length r ≡ n
part_size None r n e f = absurd cc
part_size (Some m) r n e f = eqb-true _ _ e ∙ some_is m n f

pub parts_stand : (ks : Kinds) (rs : List (List ℕ)) (ps : List Part) → each_part ks rs ≡ Some ps → StandAll ks ps × ReadsEach raw ks (raws rs) ps
parts_stand no_kinds [] ps e = subst (λ (x : List Part). StandAll no_kinds x × ReadsEach raw no_kinds no_trees x) (some_is [] ps e) (tt, tt)
parts_stand no_kinds (r ∷ rs) ps e = none_some ps (StandAll no_kinds ps × ReadsEach raw no_kinds (raws (r ∷ rs)) ps) e
parts_stand (kind k ks) [] ps e = none_some ps (StandAll (kind k ks) ps × ReadsEach raw (kind k ks) no_trees ps) e
parts_stand (kind k ks) (r ∷ rs) ps e =
    let p = if_then (has_size (fixed k) r) (each_part ks rs >>= λ ps. Some (part k r ∷ ps)) ps e in
    let q = bind_some (each_part ks rs) (λ ps. Some (part k r ∷ ps)) ps p.1 in
    let ih = parts_stand ks rs q.0 q.1 in
    subst (λ (x : List Part). StandAll (kind k ks) x × ReadsEach raw (kind k ks) (raws (r ∷ rs)) x) (some_is (part k r ∷ q.0) ps q.2)
    ((record { align = refl; fixed_or_not = refl; size = λ n f. part_size (fixed k) r n p.0 f }, ih.0), (refl, ih.1))

tuple_cut : (ks : Kinds) (rs : List (List ℕ)) (bytes : List ℕ) → (each_part ks rs >>= tuple_of) ≡ Some bytes → tuple_at raw ks bytes (size_for (length bytes)) (inner ks) ≡ Some (raws rs)
tuple_cut ks rs bytes e =
    let q = bind_some (each_part ks rs) tuple_of bytes e in
    let s = parts_stand ks rs q.0 q.1 in
    tuple_again raw ks (raws rs) q.0 bytes s.0 s.1 q.2

-- a container is cut into the members that it was made of
pub cut_again : (k : Kind) (rs : List (List ℕ)) (bytes : List ℕ) → container k rs ≡ Some bytes → cut_of k bytes ≡ Some (raws rs)
unfolding container cut_of array_with
cut_again (basic x) rs bytes e = absurd cc
cut_again variant rs bytes e = absurd cc
cut_again (array k) rs bytes e =
    let p = if_then (all_sized (fixed k) rs) (array_of k rs) bytes e in
    elements_at raw k (raws rs) rs bytes (fixed k) (reads_all k rs) (sized_at (fixed k) k rs refl p.0) p.1
cut_again (maybe k) rs bytes e = absurd cc
cut_again (tuple ks) rs bytes e = tuple_cut ks rs bytes e
cut_again (entry x k) rs bytes e = tuple_cut (pair x k) rs bytes e

pub form_at : (text : List ℕ) (k : Kind) (rs : List (List ℕ)) → variant_kind text ≡ Some k → container_form text rs ≡ container k rs
form_at text k rs e = ap (option_and_then (λ k. container k rs)) e

pub only_cut : (text : List ℕ) (k : Kind) (rs : List (List ℕ)) (b : List ℕ) → variant_kind text ≡ Some k → container_form text rs ≡ Some b → cut_of k b ≡ Some (raws rs)
only_cut text k rs b e f = cut_again k rs b (sym (form_at text k rs e) ∙ f)

pub same_cut : (text : List ℕ) (k : Kind) (rs qs : List (List ℕ)) (b : List ℕ) → variant_kind text ≡ Some k → container_form text rs ≡ Some b → cut_of k b ≡ Some (raws qs) → qs ≡ rs
same_cut text k rs qs b e f g = raws_same qs rs (some_is (raws qs) (raws rs) (sym g ∙ only_cut text k rs b e f))

pub no_cut : (text : List ℕ) (k : Kind) (rs qs : List (List ℕ)) (b : List ℕ) (o : Option (List ℕ)) → variant_kind text ≡ Some k → container_form text rs ≡ Some b → cut_of k b ≡ Some (raws qs) → container k qs ≡ o → same_bytes o b ≡ false → ⊥
no_cut text k rs qs b o e f g l s =
    let same : qs ≡ rs = same_cut text k rs qs b e f g in
    let laid : o ≡ Some b = sym l ∙ ap (container k) same ∙ sym (form_at text k rs e) ∙ f in
    let yes : same_bytes o b ≡ true = ap (λ x. same_bytes x b) laid ∙ (bytes_eq-Decides b b).1 refl in
    let z : true ≡ false = sym yes ∙ s in
    cc

pub cut_fails : (e : GvFault) (text : List ℕ) (k : Kind) (b : List ℕ) → variant_kind text ≡ Some k → Fails e (cut_of k b) → (e ≡ NoMemory) ⊎ ((e ≡ NotNormal) × ((rs : List (List ℕ)) → container_form text rs ≡ Some b → ⊥))
cut_fails NoMemory text k b e f = inl refl
cut_fails NotNormal text k b e f = inr (refl, λ rs n. let z : None ≡ Some (raws rs) = sym f ∙ only_cut text k rs b e n in cc)
cut_fails BadKind text k b e f = absurd f
cut_fails TooDeep text k b e f = absurd f

-- ---- what the code goes through

drop_step : {X : Type 0} (xs : List X) (i : ℕ) (d : X) → i < length xs → drop i xs ≡ get_or xs i d ∷ drop (i + 1) xs
drop_step xs i d lt = rw (add-one, drop-cons xs i d) refl

pub step_at : (ms : List (Bor (List ℕ))) (i : ℕ) (d : Bor (List ℕ)) → i < length ms → map (λ b. b.now) (drop i ms) ≡ (get_or ms i d).now ∷ map (λ b. b.now) (drop (i + 1) ms)
step_at ms i d lt = ap (λ x. map (λ b. b.now) x) (drop_step ms i d lt)

drop_nil : {X : Type 0} (xs : List X) (i : ℕ) → length xs ≤ i → drop i xs ≡ []
drop_nil xs i le = nil_from_length (drop i xs) (let h = length-drop i xs in omega arith)

pub at_end : (ms : List (Bor (List ℕ))) (i : ℕ) → length ms ≤ i → map (λ b. b.now) (drop i ms) ≡ []
at_end ms i le = ap (λ x. map (λ b. b.now) x) (drop_nil ms i le)

pub checked_first : (o : Option ℕ) (r : List ℕ) (rs : List (List ℕ)) → has_size o r ≡ true → checked o (r ∷ rs) ≡ with_first r (checked o rs)
checked_first o r rs e = cond-true _ _ _ e

pub checked_bad : (o : Option ℕ) (r : List ℕ) (rs : List (List ℕ)) → has_size o r ≡ false → checked o (r ∷ rs) ≡ None
checked_bad o r rs e = cond-false _ _ _ e

pub parts_first : (k : Kind) (ks : Kinds) (r : List ℕ) (rs : List (List ℕ)) → has_size (fixed k) r ≡ true → each_part (kind k ks) (r ∷ rs) ≡ with_first (part k r) (each_part ks rs)
parts_first k ks r rs e = cond-true _ _ _ e

pub parts_end : (ks : List Kind) (rs : List (List ℕ)) (old out ending : List ℕ) (left : Option (List Part)) → (inv : Cells old out ending true left (each_part (kinds_of ks) rs)) → eqb (length ks) 0 ≡ false → left ≡ Some []
    → cond (is_some (fixed (tuple (kinds_of ks)))) (sized (padded_to (alignment (tuple (kinds_of ks))) (body 0 inv.done))) (with_table_back (body 0 inv.done) ending) ≡ option_and_then tuple_of (each_part (kinds_of ks) rs)
parts_end [] rs old out ending left inv some e = absurd (false≢true (sym some))
parts_end (k ∷ ks) rs old out ending left inv some e =
    let K = kinds_of (k ∷ ks) in
    let t : each_part K rs ≡ Some inv.done = total_end inv.done left (each_part K rs) inv.total_is e in
    let stand = (parts_stand K rs inv.done t).0 in
    ap (λ es. cond (is_some (fixed (tuple K))) (sized (padded_to (alignment (tuple K)) (body 0 inv.done))) (with_table_back (body 0 inv.done) es)) inv.ends_are
    ∙ tuple_with k (kinds_of ks) inv.done stand ∙ ap (option_and_then tuple_of) (sym t)

-- ---- at each kind

pub cut_array_is : (k e : Kind) (b : List ℕ) → k ≡ array e → cut_of k b ≡ elements raw e (fixed e) b
unfolding cut_of
cut_array_is k e b h = ap (λ k. cut_of k b) h

pub cut_tuple_is : (k : Kind) (ks : Kinds) (b : List ℕ) → k ≡ tuple ks → cut_of k b ≡ tuple_at raw ks b (size_for (length b)) (inner ks)
unfolding cut_of
cut_tuple_is k ks b h = ap (λ k. cut_of k b) h

pub cut_entry_is : (k : Kind) (x : Basic) (e : Kind) (ks : Kinds) (b : List ℕ) → k ≡ entry x e → ks ≡ kind (basic x) (kind e no_kinds) → cut_of k b ≡ tuple_at raw ks b (size_for (length b)) (inner ks)
unfolding cut_of
cut_entry_is k x e ks b h p = ap (λ k. cut_of k b) h ∙ ap (λ ks. tuple_at raw ks b (size_for (length b)) (inner ks)) (sym p)

pub cut_other : (s : Shape) (k : Kind) (b : List ℕ) → seen s ≡ k → ((x : _) → s ≡ Array x → ⊥) → ((x : _) → s ≡ Tuple x → ⊥) → ((x : _) (y : _) → s ≡ Entry x y → ⊥) → cut_of k b ≡ None
unfolding cut_of
cut_other (Plain x) k b e p q r = ap (λ k. cut_of k b) (sym e)
cut_other Variant k b e p q r = ap (λ k. cut_of k b) (sym e)
cut_other (Array x) k b e p q r = absurd (p x refl)
cut_other (Maybe x) k b e p q r = ap (λ k. cut_of k b) (sym e)
cut_other (Tuple x) k b e p q r = absurd (q x refl)
cut_other (Entry x y) k b e p q r = absurd (r x y refl)

pub join_tuple_is : (k : Kind) (ks : Kinds) (rs : List (List ℕ)) → k ≡ tuple ks → container k rs ≡ option_and_then tuple_of (each_part ks rs)
unfolding container
join_tuple_is k ks rs h = ap (λ k. container k rs) h

pub join_entry_is : (k : Kind) (x : Basic) (e : Kind) (ks : Kinds) (rs : List (List ℕ)) → k ≡ entry x e → ks ≡ kind (basic x) (kind e no_kinds) → container k rs ≡ option_and_then tuple_of (each_part ks rs)
unfolding container
join_entry_is k x e ks rs h p = ap (λ k. container k rs) h ∙ ap (λ ks. option_and_then tuple_of (each_part ks rs)) (sym p)

pub join_other : (s : Shape) (k : Kind) (rs : List (List ℕ)) → seen s ≡ k → ((x : _) → s ≡ Array x → ⊥) → ((x : _) → s ≡ Tuple x → ⊥) → ((x : _) (y : _) → s ≡ Entry x y → ⊥) → container k rs ≡ None
unfolding container
join_other (Plain x) k rs e p q r = ap (λ k. container k rs) (sym e)
join_other Variant k rs e p q r = ap (λ k. container k rs) (sym e)
join_other (Array x) k rs e p q r = absurd (p x refl)
join_other (Maybe x) k rs e p q r = ap (λ k. container k rs) (sym e)
join_other (Tuple x) k rs e p q r = absurd (q x refl)
join_other (Entry x y) k rs e p q r = absurd (r x y refl)
