-- Reading members one after the other, as a loop does.
use Rattle.std.proofs.Common.{◌≡◌, ℕ, zero, suc, ◌+◌, ◌-◌, ◌*◌, ◌^◌, ◌<◌, ◌≤◌, Bool, true, false, cond, leb, eqb, List, [], ◌∷◌, ◌++◌, length, replicate, take, drop, map, Option, Some, None, Result, refl, sym, ap, ap₂, subst, ◌∙◌, arith, inl, inr}
use Rattle.std.specs.Prelude.{option_map, option_and_then, ◌&&◌}
use Rattle.std.specs.Option.{is_some}
use Rattle.std.proofs.lemmas.Bool.{le-leb, lt-leb, leb-true, leb-false, cond-true, cond-false, cases_Bool, and_parts, and_from, and_right, ne_eqb, lt-ltb, le-ltb}
use Rattle.std.proofs.lemmas.List.{take-take, drop-take, length-take-le, length-drop}
use Rattle.gv_core.specs.declared.fault.GvFault.{GvFault}
use Rattle.gv_core.specs.declared.fault.GvFault.TheVariants.{BadKind, TooDeep, NotNormal, NoMemory}
use Rattle.std.proofs.Math.Nat.{mul-suc}
use Rattle.gv_core.specs.declared.kind.Basic.{Basic}
use Rattle.gv_core.specs.declared.kind.Basic.TheVariants as b
use Rattle.gv_core.specs.declared.value.Value.{Value}
use Rattle.gv_core.specs.declared.kind.Shape.{Shape}
use Rattle.gv_core.specs.declared.kind.Shape.TheVariants.{Basic as Plain, Variant, Array, Maybe, Tuple, Entry}
use Rattle.gv_core.specs.Kind.{Kind, Kinds, basic, variant, array, maybe, tuple, entry, variant_kind}
use Rattle.gv_core.specs.Layout.{body, parts}
use Rattle.gv_core.proofs.Cutting.{ReadsAll}
use Rattle.gv_core.proofs.Containers.{AllSize, same_size}
use Rattle.gv_core.specs.Node.{kinds_of, capped, seen}
use Rattle.gv_core.specs.Measure.{alignment, fixed, gap, up}
use Rattle.gv_core.specs.Tree.{Tree, Trees, tree, no_trees, trees_of, leaf}
use Rattle.gv_core.specs.Tree as t
use Rattle.gv_core.specs.Reading.{Reader, piece, between, then_more, cut, inner, next_end, cut_each, tuple_at, elements, from_le, numbers, back_numbers, size_for, steps_to, leaf_at, front, maybe_at, variant_at, entry_at, split_last, pair, as_pair, parse}
use Rattle.gv_core.proofs.Sizes.{map_some}
use Rattle.gv_core.proofs.Again.{fixed_positive}
use Rattle.gv_core.specs.Gives.{Fails, Gives, IsWidth, views, place, good_place}

-- what was read before, and what is still read
abbrev pub before : List Tree → Trees → Trees
before [] ts = ts
before (t ∷ front) ts = tree t (before front ts)

abbrev pub with_front : List Tree → Option Trees → Option Trees
with_front front o = option_map (before front) o

pub front_none : (o : Option Trees) → with_front [] o ≡ o
front_none None = refl
front_none (Some ts) = refl

before_push : (front : List Tree) (t : Tree) (ts : Trees) → before front (tree t ts) ≡ before (front ++ t ∷ []) ts
before_push [] t ts = refl
before_push (x ∷ front) t ts = ap (tree x) (before_push front t ts)

pub front_more : (front : List Tree) (t : Tree) (o : Option Trees) → with_front front (then_more (Some t) o) ≡ with_front (front ++ t ∷ []) o
front_more front t None = refl
front_more front t (Some ts) = ap Some (before_push front t ts)

before_end : (front : List Tree) → before front no_trees ≡ trees_of front
before_end [] = refl
before_end (x ∷ front) = ap (tree x) (before_end front)

pub front_end : (front : List Tree) → with_front front (Some no_trees) ≡ Some (trees_of front)
front_end front = ap Some (before_end front)

-- a fault of a member is the fault of all
pub fails_all : (e : GvFault) (front : List Tree) (o : Option Tree) (rest : Option Trees) (total : Option Trees) → Fails e o → with_front front (then_more o rest) ≡ total → Fails e total
fails_all NoMemory front o rest total f h = tt
fails_all NotNormal front o rest total f h = sym h ∙ ap (λ x. with_front front (then_more x rest)) f
fails_all BadKind front o rest total f h = f
fails_all TooDeep front o rest total f h = f

-- ---- pieces

pub piece_in : (p : Reader) (k : Kind) (bytes : List ℕ) (start end limit : ℕ) → start ≤ end → end ≤ limit → piece p k bytes start end limit ≡ p k (between bytes start end)
piece_in p k bytes start end limit a b = cond-true _ _ _ (and_from _ _ (le-leb start end a) (le-leb end limit b))

pub good_in : (start limit : ℕ) (e r : ℕ × ℕ) → Some r ≡ good_place start limit e → (e ≡ r) × (start ≤ e.0) × (e.0 ≤ limit)
good_in start limit e r h = elim (cases_Bool (leb start e.0 && leb e.0 limit)) [
  | inl good ↦
      let p = and_parts (leb start e.0) (leb e.0 limit) good in
      let g : Some r ≡ Some e = h ∙ cond-true _ _ _ good in
      ((let s : r ≡ e = cc in sym s), leb-true _ _ p.0, leb-true _ _ p.1)
  | inr bad ↦ let g : Some r ≡ None = h ∙ cond-false _ _ _ bad in absurd (cc)
]

pub good_out : (p : Reader) (k : Kind) (bytes : List ℕ) (start limit : ℕ) (e : ℕ × ℕ) → None ≡ good_place start limit e → piece p k bytes start e.0 limit ≡ None
good_out p k bytes start limit e h = elim (cases_Bool (leb start e.0 && leb e.0 limit)) [
  | inl good ↦ let g : None ≡ Some e = h ∙ cond-true _ _ _ good in absurd (cc)
  | inr bad ↦ cond-false _ _ _ bad
]

-- ---- tuples

pub longer : (n : ℕ) → eqb (suc n) 0 ≡ false
longer n = ne_eqb (suc n) 0 (λ e. omega arith)

pub inner_more : (k : Kind) (rest : List Kind) → fixed k ≡ None → eqb (length rest) 0 ≡ false → inner (kinds_of (k ∷ rest)) ≡ suc (inner (kinds_of rest))
unfolding inner
inner_more k [] f h = absurd (let z = h in cc)
inner_more k (l ∷ rest) f h = ap (λ o. cond (is_some o) (inner (kinds_of (l ∷ rest))) (suc (inner (kinds_of (l ∷ rest))))) f

-- where a member ends, with the offsets behind it
abbrev pub with_rest : ℕ → ℕ → List ℕ → ℕ × ℕ → Option (ℕ × List ℕ)
with_rest w m bytes e = Some (e.0, back_numbers w m (take e.1 bytes))

next_place_at : (o : Option ℕ) (k : Kind) (rest : List Kind) (last : Bool) (bytes : List ℕ) (start limit table w : ℕ) → fixed k ≡ o → last ≡ eqb (length rest) 0 → table ≤ length bytes → (fixed k ≡ None → last ≡ false → w ≤ table)
    → next_end o (kinds_of rest) start limit (back_numbers w (inner (kinds_of (k ∷ rest))) (take table bytes)) ≡ with_rest w (inner (kinds_of rest)) bytes (place o last start limit bytes table w)
unfolding inner
next_place_at (Some n) k [] last bytes start limit table w f l t room = refl
next_place_at (Some n) k (x ∷ rest) last bytes start limit table w f l t room =
    ap (λ o. Some (start + n, back_numbers w (cond (is_some o) (inner (kinds_of (x ∷ rest))) (suc (inner (kinds_of (x ∷ rest))))) (take table bytes))) f
next_place_at None k [] last bytes start limit table w f l t room = ap (λ b. with_rest w 0 bytes (place None b start limit bytes table w)) (sym l)
next_place_at None k (x ∷ rest) last bytes start limit table w f l t room =
    let l2 : last ≡ false = l ∙ longer (length rest) in
    let r = room f l2 in
    let m = inner (kinds_of (x ∷ rest)) in
    let T = take table bytes in
    let len : length T ≡ table = length-take-le table bytes t in
    let at : length T - w ≡ table - w = omega arith in
    let sum : table ≡ (table - w) + w = omega arith in
    let num : drop (length T - w) T ≡ take w (drop (table - w) bytes) = ap₂ (λ i j. drop i (take j bytes)) at sum ∙ drop-take (table - w) w bytes in
    let rest_of : take (length T - w) T ≡ take (table - w) bytes = ap (λ i. take i T) at ∙ take-take (table - w) table bytes (omega arith) in
    let known : inner (kinds_of (k ∷ x ∷ rest)) ≡ suc m = inner_more k (x ∷ rest) f (longer (length rest)) in
    let at_false : next_end None (kinds_of (x ∷ rest)) start limit (back_numbers w (inner (kinds_of (k ∷ x ∷ rest))) T) ≡ with_rest w m bytes (place None false start limit bytes table w) =
    ap (λ i. next_end None (kinds_of (x ∷ rest)) start limit (back_numbers w i T)) known ∙ ap₂ (λ (u v : List ℕ). Some (from_le u, back_numbers w m v)) num rest_of in
    at_false ∙ ap (λ b. with_rest w m bytes (place None b start limit bytes table w)) (sym l2)

-- one member more
pub record Step (p : Reader) (front : List Tree) (k : Kind) (rest : List Kind) (bytes : List ℕ) (limit pos table w : ℕ) (e : ℕ × ℕ) (total : Option Trees) : Type 0 where
  pub so_far : with_front front (then_more (piece p k bytes (up (alignment k) pos) e.0 limit) (cut_each p (kinds_of rest) bytes limit e.0 (back_numbers w (inner (kinds_of rest)) (take e.1 bytes)))) ≡ total

pub step : (p : Reader) (front : List Tree) (k : Kind) (rest : List Kind) (last : Bool) (bytes : List ℕ) (limit pos table w : ℕ) (total : Option Trees) → last ≡ eqb (length rest) 0 → table ≤ length bytes → (fixed k ≡ None → last ≡ false → w ≤ table)
    → with_front front (cut_each p (kinds_of (k ∷ rest)) bytes limit pos (back_numbers w (inner (kinds_of (k ∷ rest))) (take table bytes))) ≡ total
    → Step p front k rest bytes limit pos table w (place (fixed k) last (up (alignment k) pos) limit bytes table w) total
step p front k rest last bytes limit pos table w total l t room h =
    let start = up (alignment k) pos in
    let n = next_place_at (fixed k) k rest last bytes start limit table w refl l t room in
    record { so_far = ap (λ o. with_front front (option_and_then (λ x. then_more (piece p k bytes start x.0 limit) (cut_each p (kinds_of rest) bytes limit x.0 x.1)) o)) (sym n) ∙ h }

-- ---- what the loops keep

pub record Members (p : Reader) (front : List Tree) (left : List Kind) (bytes : List ℕ) (limit pos table w : ℕ) (total : Option Trees) : Type 0 where
  pub so_far : with_front front (cut_each p (kinds_of left) bytes limit pos (back_numbers w (inner (kinds_of left)) (take table bytes))) ≡ total
  pub table_is : table ≡ limit + w * inner (kinds_of left)
  pub within : table ≤ length bytes
  pub pos_in : pos ≤ limit
  pub width : IsWidth w

pub record Framed (p : Reader) (front : List Tree) (k : Kind) (bytes : List ℕ) (limit pos left w : ℕ) (table : List ℕ) (total : Option Trees) : Type 0 where
  pub so_far : with_front front (cut p k bytes limit pos (numbers w left table)) ≡ total
  pub long : w * left ≤ length table
  pub pos_in : pos ≤ limit
  pub within : limit ≤ length bytes
  pub width : IsWidth w

pub record Alike (p : Reader) (front : List Tree) (k : Kind) (bytes : List ℕ) (pos size : ℕ) (total : Option Trees) : Type 0 where
  pub n : ℕ
  pub fuel : ℕ
  pub known : fixed k ≡ Some n
  pub size_is : size ≡ capped n
  pub enough : length bytes ≤ fuel + pos
  pub pos_in : pos ≤ length bytes
  pub so_far : with_front front (cut p k bytes (length bytes) pos (steps_to fuel (alignment k) n pos (length bytes))) ≡ total

-- ---- what is read at each kind

pub seen_basic : (s : Shape) (x : Basic) → seen s ≡ basic x → s ≡ Plain x
seen_basic (Plain y) x e = let h : y ≡ x = cc in ap Plain h
seen_basic Variant x e = absurd (cc)
seen_basic (Array k) x e = absurd (cc)
seen_basic (Maybe k) x e = absurd (cc)
seen_basic (Tuple ks) x e = absurd (cc)
seen_basic (Entry y k) x e = absurd (cc)

pub at_basic : (d : ℕ) (k : Kind) (x : Basic) (b : List ℕ) → k ≡ basic x → parse d k b ≡ option_map leaf (leaf_at x b)
unfolding parse
at_basic zero k x b e = ap (λ k. parse zero k b) e
at_basic (suc d) k x b e = ap (λ k. parse (suc d) k b) e

at_zero_kind : (k : Kind) (b : List ℕ) → ((x : Basic) → k ≡ basic x → ⊥) → parse zero k b ≡ None
unfolding parse
at_zero_kind (basic x) b h = absurd (h x refl)
at_zero_kind variant b h = refl
at_zero_kind (array k) b h = refl
at_zero_kind (maybe k) b h = refl
at_zero_kind (tuple ks) b h = refl
at_zero_kind (entry x k) b h = refl

pub at_zero : (d : ℕ) (k : Kind) (s : Shape) (b : List ℕ) → d ≡ 0 → seen s ≡ k → ((x : Basic) → s ≡ Plain x → ⊥) → parse d k b ≡ None
at_zero d k s b z e h = ap (λ d. parse d k b) z ∙ at_zero_kind k b (λ x f. h x (seen_basic s x (e ∙ f)))

pub at_more : (d : ℕ) (k : Kind) (b : List ℕ) → (d ≡ 0 → ⊥) → parse d k b ≡ parse (suc (d - 1)) k b
at_more d k b h = let s : d ≡ suc (d - 1) = omega arith in ap (λ d. parse d k b) s

pub at_array : (d : ℕ) (k e : Kind) (b : List ℕ) → array e ≡ k → parse (suc d) k b ≡ option_map t.array (elements (parse d) e (fixed e) b)
unfolding parse
at_array d k e b f = ap (λ k. parse (suc d) k b) (sym f)

pub at_tuple : (d : ℕ) (k : Kind) (ks : Kinds) (b : List ℕ) → tuple ks ≡ k → parse (suc d) k b ≡ option_map t.tuple (tuple_at (parse d) ks b (size_for (length b)) (inner ks))
unfolding parse
at_tuple d k ks b f = ap (λ k. parse (suc d) k b) (sym f)

pub at_maybe : (d : ℕ) (k e : Kind) (b : List ℕ) → maybe e ≡ k → parse (suc d) k b ≡ maybe_at (parse d) e (is_some (fixed e)) b
unfolding parse
at_maybe d k e b f = ap (λ k. parse (suc d) k b) (sym f)

pub at_variant : (d : ℕ) (k : Kind) (b : List ℕ) → variant ≡ k → parse (suc d) k b ≡ variant_at (parse d) b
unfolding parse
at_variant d k b f = ap (λ k. parse (suc d) k b) (sym f)

pub at_entry : (d : ℕ) (k e : Kind) (x : Basic) (b : List ℕ) → entry x e ≡ k → parse (suc d) k b ≡ entry_at (parse d) x e b
unfolding parse
at_entry d k e x b f = ap (λ k. parse (suc d) k b) (sym f)

pub gives_same : {X A : Type 0} (see : X → A) (r : Result X GvFault) (o p : Option A) → p ≡ o → Gives see r o → Gives see r p
gives_same see r o p h g = subst (Gives see r) (sym h) g

pub fails_map : {A B : Type 0} (e : GvFault) (f : A → B) (o : Option A) → Fails e o → Fails e (option_map f o)
fails_map NoMemory f o h = tt
fails_map NotNormal f o h = ap (option_map f) h
fails_map BadKind f o h = h
fails_map TooDeep f o h = h

pub fails_same : {A : Type 0} (e : GvFault) (o p : Option A) → p ≡ o → Fails e o → Fails e p
fails_same e o p h f = subst (Fails e) (sym h) f

-- ---- the loops' steps

pub members_room : (p : Reader) (front : List Tree) (k : Kind) (left rest : List Kind) (last : Bool) (bytes : List ℕ) (limit pos table w : ℕ) (total : Option Trees) → Members p front left bytes limit pos table w total → left ≡ k ∷ rest → last ≡ eqb (length rest) 0
    → fixed k ≡ None → last ≡ false → w ≤ table
members_room p front k left rest last bytes limit pos table w total inv l la f h =
    let m : inner (kinds_of left) ≡ suc (inner (kinds_of rest)) = ap (λ x. inner (kinds_of x)) l ∙ inner_more k rest f (sym la ∙ h) in
    let t = inv.table_is in
    let s = mul-suc w (inner (kinds_of rest)) in
    let u : w * inner (kinds_of left) ≡ w * suc (inner (kinds_of rest)) = ap (λ x. w * x) m in
    omega arith

pub members_step : (p : Reader) (front : List Tree) (k : Kind) (left rest : List Kind) (last : Bool) (bytes : List ℕ) (limit pos table w : ℕ) (total : Option Trees) → Members p front left bytes limit pos table w total → left ≡ k ∷ rest → last ≡ eqb (length rest) 0
    → Step p front k rest bytes limit pos table w (place (fixed k) last (up (alignment k) pos) limit bytes table w) total
members_step p front k left rest last bytes limit pos table w total inv l la =
    step p front k rest last bytes limit pos table w total la inv.within (members_room p front k left rest last bytes limit pos table w total inv l la)
    (ap (λ x. with_front front (cut_each p (kinds_of x) bytes limit pos (back_numbers w (inner (kinds_of x)) (take table bytes)))) (sym l) ∙ inv.so_far)

pub members_bad : (p : Reader) (front : List Tree) (k : Kind) (left rest : List Kind) (last : Bool) (bytes : List ℕ) (limit pos table w : ℕ) (total : Option Trees) → Members p front left bytes limit pos table w total → left ≡ k ∷ rest → last ≡ eqb (length rest) 0
    → None ≡ good_place (up (alignment k) pos) limit (place (fixed k) last (up (alignment k) pos) limit bytes table w) → total ≡ None
members_bad p front k left rest last bytes limit pos table w total inv l la h =
    let s = members_step p front k left rest last bytes limit pos table w total inv l la in
    let e = place (fixed k) last (up (alignment k) pos) limit bytes table w in
    sym s.so_far ∙ ap (λ o. with_front front (then_more o (cut_each p (kinds_of rest) bytes limit e.0 (back_numbers w (inner (kinds_of rest)) (take e.1 bytes))))) (good_out p k bytes (up (alignment k) pos) limit e h)

-- how far the table is used behind a member
table_next : (o : Option ℕ) (k : Kind) (rest : List Kind) (last : Bool) (bytes : List ℕ) (start limit table w : ℕ) → fixed k ≡ o → last ≡ eqb (length rest) 0 → table ≡ limit + w * inner (kinds_of (k ∷ rest))
    → (place o last start limit bytes table w).1 ≡ limit + w * inner (kinds_of rest)
unfolding inner
table_next (Some n) k [] last bytes start limit table w f l t = t
table_next (Some n) k (x ∷ rest) last bytes start limit table w f l t = t ∙ ap (λ o. limit + w * cond (is_some o) (inner (kinds_of (x ∷ rest))) (suc (inner (kinds_of (x ∷ rest))))) f
table_next None k [] last bytes start limit table w f l t = ap (λ b. (place None b start limit bytes table w).1) l ∙ t
table_next None k (x ∷ rest) last bytes start limit table w f l t =
    let l2 : last ≡ false = l ∙ longer (length rest) in
    let known : inner (kinds_of (k ∷ x ∷ rest)) ≡ suc (inner (kinds_of (x ∷ rest))) = inner_more k (x ∷ rest) f (longer (length rest)) in
    let s = mul-suc w (inner (kinds_of (x ∷ rest))) in
    let u : w * inner (kinds_of (k ∷ x ∷ rest)) ≡ w * suc (inner (kinds_of (x ∷ rest))) = ap (λ y. w * y) known in
    let less : table - w ≡ limit + w * inner (kinds_of (x ∷ rest)) = omega arith in
    ap (λ b. (place None b start limit bytes table w).1) l2 ∙ less

place_within : (o : Option ℕ) (last : Bool) (bytes : List ℕ) (start limit table w : ℕ) → (place o last start limit bytes table w).1 ≤ table
place_within (Some n) last bytes start limit table w = omega arith
place_within None true bytes start limit table w = omega arith
place_within None false bytes start limit table w = omega arith

-- a member in its place
pub record Placed (p : Reader) (front : List Tree) (k : Kind) (rest : List Kind) (bytes : List ℕ) (limit start w : ℕ) (r : ℕ × ℕ) (total : Option Trees) : Type 0 where
  pub in_order : start ≤ r.0
  pub below : r.0 ≤ limit
  pub table_is : r.1 ≡ limit + w * inner (kinds_of rest)
  pub within : r.1 ≤ length bytes
  pub so_far : with_front front (then_more (p k (between bytes start r.0)) (cut_each p (kinds_of rest) bytes limit r.0 (back_numbers w (inner (kinds_of rest)) (take r.1 bytes)))) ≡ total

pub members_placed : (p : Reader) (front : List Tree) (k : Kind) (left rest : List Kind) (last : Bool) (bytes : List ℕ) (limit pos table w start : ℕ) (total : Option Trees) (r : ℕ × ℕ) → Members p front left bytes limit pos table w total → left ≡ k ∷ rest → last ≡ eqb (length rest) 0
    → start ≡ up (alignment k) pos → Some r ≡ good_place start limit (place (fixed k) last start limit bytes table w) → Placed p front k rest bytes limit start w r total
members_placed p front k left rest last bytes limit pos table w start total r inv l la si h =
    let e = place (fixed k) last start limit bytes table w in
    let s0 = members_step p front k left rest last bytes limit pos table w total inv l la in
    let from = λ (x : ℕ). with_front front (then_more (piece p k bytes x (place (fixed k) last x limit bytes table w).0 limit) (cut_each p (kinds_of rest) bytes limit (place (fixed k) last x limit bytes table w).0 (back_numbers w (inner (kinds_of rest)) (take (place (fixed k) last x limit bytes table w).1 bytes)))) in
    let s : from start ≡ total = ap from si ∙ s0.so_far in
    let g = good_in start limit e r h in
    let t : table ≡ limit + w * inner (kinds_of (k ∷ rest)) = inv.table_is ∙ ap (λ x. limit + w * inner (kinds_of x)) l in
    let pw = place_within (fixed k) last bytes start limit table w in
    let iw = inv.within in
    subst (λ (x : ℕ × ℕ). Placed p front k rest bytes limit start w x total) g.0 (record {
      in_order = g.1;
      below = g.2;
      table_is = table_next (fixed k) k rest last bytes start limit table w refl la t;
      within = omega arith;
      so_far = ap (λ o. with_front front (then_more o (cut_each p (kinds_of rest) bytes limit e.0 (back_numbers w (inner (kinds_of rest)) (take e.1 bytes))))) (sym (piece_in p k bytes start e.0 limit g.1 g.2)) ∙ s;
    })

pub members_next : (p : Reader) (front front2 : List Tree) (k : Kind) (t : Tree) (rest : List Kind) (bytes : List ℕ) (limit start w : ℕ) (r : ℕ × ℕ) (total : Option Trees) → Placed p front k rest bytes limit start w r total → IsWidth w
    → p k (between bytes start r.0) ≡ Some t → front2 ≡ front ++ t ∷ [] → Members p front2 rest bytes limit r.0 r.1 w total
members_next p front front2 k t rest bytes limit start w r total pl width e f = record {
  so_far = ap (λ x. with_front x (cut_each p (kinds_of rest) bytes limit r.0 (back_numbers w (inner (kinds_of rest)) (take r.1 bytes)))) f ∙ sym (front_more front t (cut_each p (kinds_of rest) bytes limit r.0 (back_numbers w (inner (kinds_of rest)) (take r.1 bytes))))
      ∙ ap (λ o. with_front front (then_more o (cut_each p (kinds_of rest) bytes limit r.0 (back_numbers w (inner (kinds_of rest)) (take r.1 bytes))))) (sym e) ∙ pl.so_far;
  table_is = pl.table_is;
  within = pl.within;
  pos_in = pl.below;
  width = width;
}

pub members_bad_at : (p : Reader) (front : List Tree) (k : Kind) (left rest : List Kind) (last : Bool) (bytes : List ℕ) (limit pos table w start : ℕ) (total : Option Trees) → Members p front left bytes limit pos table w total → left ≡ k ∷ rest → last ≡ eqb (length rest) 0
    → start ≡ up (alignment k) pos → None ≡ good_place start limit (place (fixed k) last start limit bytes table w) → total ≡ None
members_bad_at p front k left rest last bytes limit pos table w start total inv l la si h =
    members_bad p front k left rest last bytes limit pos table w total inv l la (h ∙ ap (λ s. good_place s limit (place (fixed k) last s limit bytes table w)) si)

pub members_end : (p : Reader) (front : List Tree) (left : List Kind) (bytes : List ℕ) (limit pos table w : ℕ) (total : Option Trees) → Members p front left bytes limit pos table w total → left ≡ [] → total ≡ Some (trees_of front)
members_end p front left bytes limit pos table w total inv l =
    sym (ap (λ x. with_front front (cut_each p (kinds_of x) bytes limit pos (back_numbers w (inner (kinds_of x)) (take table bytes)))) (sym l) ∙ inv.so_far) ∙ front_end front

-- ---- arrays whose elements have one size

pub alike_init : (p : Reader) (k : Kind) (bytes : List ℕ) (size : ℕ) (front : List Tree) → front ≡ [] → Some size ≡ option_map capped (fixed k) → Alike p front k bytes 0 size (elements p k (fixed k) bytes)
alike_init p k bytes size front f h =
    let q = map_some capped (fixed k) size (sym h) in
    record {
      n = q.0;
      fuel = length bytes;
      known = q.1;
      size_is = sym q.2;
      enough = omega arith;
      pos_in = omega arith;
      so_far = ap (λ x. with_front x (cut p k bytes (length bytes) 0 (steps_to (length bytes) (alignment k) q.0 0 (length bytes)))) f ∙ front_none _ ∙ ap (λ o. elements p k o bytes) (sym q.1);
    }

pub alike_positive : (p : Reader) (front : List Tree) (k : Kind) (bytes : List ℕ) (pos size : ℕ) (total : Option Trees) → Alike p front k bytes pos size total → 0 < size
alike_positive p front k bytes pos size total inv = let h = fixed_positive k inv.n inv.known in let s = inv.size_is in omega arith

pub record AlikeStep (p : Reader) (front : List Tree) (k : Kind) (bytes : List ℕ) (pos n fuel : ℕ) (total : Option Trees) : Type 0 where
  pub so_far : with_front front (then_more (piece p k bytes (up (alignment k) pos) (up (alignment k) pos + n) (length bytes)) (cut p k bytes (length bytes) (up (alignment k) pos + n) (steps_to fuel (alignment k) n (up (alignment k) pos + n) (length bytes)))) ≡ total
  pub enough : length bytes ≤ suc fuel + pos

alike_at : (fuel : ℕ) (p : Reader) (front : List Tree) (k : Kind) (bytes : List ℕ) (pos n : ℕ) (total : Option Trees) → length bytes ≤ fuel + pos → pos < length bytes → with_front front (cut p k bytes (length bytes) pos (steps_to fuel (alignment k) n pos (length bytes))) ≡ total
    → (f : ℕ) × AlikeStep p front k bytes pos n f total
alike_at zero p front k bytes pos n total enough lt h = absurd (omega arith)
alike_at (suc f) p front k bytes pos n total enough lt h =
    let s : steps_to (suc f) (alignment k) n pos (length bytes) ≡ (up (alignment k) pos + n) ∷ steps_to f (alignment k) n (up (alignment k) pos + n) (length bytes) = cond-true _ _ _ (lt-ltb pos (length bytes) lt) in
    (f, record { so_far = ap (λ es. with_front front (cut p k bytes (length bytes) pos es)) (sym s) ∙ h; enough = enough })

pub alike_bad : (p : Reader) (front : List Tree) (k : Kind) (bytes : List ℕ) (pos size start : ℕ) (total : Option Trees) → Alike p front k bytes pos size total → pos < length bytes → start ≡ up (alignment k) pos → leb (start + size) (length bytes) ≡ false → total ≡ None
alike_bad p front k bytes pos size start total inv lt si bad =
    let q = alike_at inv.fuel p front k bytes pos inv.n total inv.enough lt inv.so_far in
    let n = inv.n in
    let over : length bytes < up (alignment k) pos + n = let b = leb-false _ _ bad in let s = inv.size_is in omega arith in
    let no : leb (up (alignment k) pos + n) (length bytes) ≡ false = lt-leb _ _ over in
    let none : piece p k bytes (up (alignment k) pos) (up (alignment k) pos + n) (length bytes) ≡ None = cond-false _ _ _ (and_right _ _ no) in
    sym q.1.so_far ∙ ap (λ o. with_front front (then_more o (cut p k bytes (length bytes) (up (alignment k) pos + n) (steps_to q.0 (alignment k) n (up (alignment k) pos + n) (length bytes))))) none

pub record AlikePlaced (p : Reader) (front : List Tree) (k : Kind) (bytes : List ℕ) (pos size start : ℕ) (total : Option Trees) : Type 0 where
  pub fuel : ℕ
  pub known : fixed k ≡ Some size
  pub enough : length bytes ≤ fuel + (start + size)
  pub so_far : with_front front (then_more (p k (between bytes start (start + size))) (cut p k bytes (length bytes) (start + size) (steps_to fuel (alignment k) size (start + size) (length bytes)))) ≡ total

pub alike_placed : (p : Reader) (front : List Tree) (k : Kind) (bytes : List ℕ) (pos size start : ℕ) (total : Option Trees) → Alike p front k bytes pos size total → pos < length bytes → length bytes < 2 ^ 64 - 1 → start ≡ up (alignment k) pos → start + size ≤ length bytes
    → AlikePlaced p front k bytes pos size start total
alike_placed p front k bytes pos size start total inv lt short si room =
    let pos1 = alike_positive p front k bytes pos size total inv in
    let q = alike_at inv.fuel p front k bytes pos inv.n total inv.enough lt inv.so_far in
    let same : inv.n ≡ size = let s = inv.size_is in omega arith in
    let en = q.1.enough in
    let from = λ (s n : ℕ). with_front front (then_more (piece p k bytes s (s + n) (length bytes)) (cut p k bytes (length bytes) (s + n) (steps_to q.0 (alignment k) n (s + n) (length bytes)))) in
    let so : from start size ≡ total = ap₂ from si (sym same) ∙ q.1.so_far in
    record {
      fuel = q.0;
      known = inv.known ∙ ap Some same;
      enough = omega arith;
      so_far = ap (λ o. with_front front (then_more o (cut p k bytes (length bytes) (start + size) (steps_to q.0 (alignment k) size (start + size) (length bytes))))) (sym (piece_in p k bytes start (start + size) (length bytes) (omega arith) room)) ∙ so;
    }

pub alike_next : (p : Reader) (front front2 : List Tree) (k : Kind) (t : Tree) (bytes : List ℕ) (pos size start : ℕ) (total : Option Trees) → AlikePlaced p front k bytes pos size start total → size < 2 ^ 64 → start + size ≤ length bytes
    → p k (between bytes start (start + size)) ≡ Some t → front2 ≡ front ++ t ∷ [] → Alike p front2 k bytes (start + size) size total
alike_next p front front2 k t bytes pos size start total pl fits room e f =
    let rest = cut p k bytes (length bytes) (start + size) (steps_to pl.fuel (alignment k) size (start + size) (length bytes)) in
    record {
      n = size;
      fuel = pl.fuel;
      known = pl.known;
      size_is = omega arith;
      enough = pl.enough;
      pos_in = room;
      so_far = ap (λ x. with_front x rest) f ∙ sym (front_more front t rest) ∙ ap (λ o. with_front front (then_more o rest)) (sym e) ∙ pl.so_far;
    }

steps_none : (fuel a n pos end : ℕ) → end ≤ pos → steps_to fuel a n pos end ≡ []
steps_none zero a n pos end h = refl
steps_none (suc f) a n pos end h = cond-false _ _ _ (le-ltb pos end h)

pub alike_end : (p : Reader) (front : List Tree) (k : Kind) (bytes : List ℕ) (pos size : ℕ) (total : Option Trees) → Alike p front k bytes pos size total → length bytes ≤ pos → total ≡ Some (trees_of front)
alike_end p front k bytes pos size total inv done =
    sym (ap (λ es. with_front front (cut p k bytes (length bytes) pos es)) (sym (steps_none inv.fuel (alignment k) inv.n pos (length bytes) done)) ∙ inv.so_far) ∙ front_end front

-- ---- arrays with offsets

pub record FramedStep (p : Reader) (front : List Tree) (k : Kind) (bytes : List ℕ) (limit start end left w : ℕ) (rest : List ℕ) (total : Option Trees) : Type 0 where
  pub so_far : with_front front (then_more (piece p k bytes start end limit) (cut p k bytes limit end (numbers w left rest))) ≡ total

pub framed_step : (p : Reader) (front : List Tree) (k : Kind) (bytes : List ℕ) (limit pos left more w start end : ℕ) (table first rest : List ℕ) (total : Option Trees) → Framed p front k bytes limit pos more w table total → more ≡ suc left → start ≡ up (alignment k) pos → first ≡ take w table → rest ≡ drop w table → end ≡ from_le first
    → FramedStep p front k bytes limit start end left w rest total
framed_step p front k bytes limit pos left more w start end table first rest total inv m si fi ri ei =
    let s0 : with_front front (cut p k bytes limit pos (numbers w (suc left) table)) ≡ total = ap (λ x. with_front front (cut p k bytes limit pos (numbers w x table))) (sym m) ∙ inv.so_far in
    let end_is : end ≡ from_le (take w table) = ei ∙ ap from_le fi in
    let from = λ (s e : ℕ) (r : List ℕ). with_front front (then_more (piece p k bytes s e limit) (cut p k bytes limit e (numbers w left r))) in
    record { so_far = ap (λ s. from s end rest) si ∙ ap₂ (from (up (alignment k) pos)) end_is ri ∙ s0 }

pub framed_bad : (p : Reader) (front : List Tree) (k : Kind) (bytes : List ℕ) (limit start end left w : ℕ) (rest : List ℕ) (total : Option Trees) → FramedStep p front k bytes limit start end left w rest total → (leb start end && leb end limit) ≡ false → total ≡ None
framed_bad p front k bytes limit start end left w rest total s bad = sym s.so_far ∙ ap (λ o. with_front front (then_more o (cut p k bytes limit end (numbers w left rest)))) (cond-false _ _ _ bad)

pub framed_fails : (e : GvFault) (p : Reader) (front : List Tree) (k : Kind) (bytes : List ℕ) (limit start end left w : ℕ) (rest : List ℕ) (total : Option Trees) → FramedStep p front k bytes limit start end left w rest total → (leb start end && leb end limit) ≡ true → Fails e (p k (between bytes start end)) → Fails e total
framed_fails e p front k bytes limit start end left w rest total s good f = fails_all e front (piece p k bytes start end limit) (cut p k bytes limit end (numbers w left rest)) total (fails_same e (p k (between bytes start end)) (piece p k bytes start end limit) (cond-true _ _ _ good) f) s.so_far

pub framed_next : (p : Reader) (front front2 : List Tree) (k : Kind) (t : Tree) (bytes : List ℕ) (limit pos more start end left w : ℕ) (table rest : List ℕ) (total : Option Trees) → Framed p front k bytes limit pos more w table total → more ≡ suc left → rest ≡ drop w table
    → FramedStep p front k bytes limit start end left w rest total → (leb start end && leb end limit) ≡ true → p k (between bytes start end) ≡ Some t → front2 ≡ front ++ t ∷ [] → Framed p front2 k bytes limit end left w rest total
framed_next p front front2 k t bytes limit pos more start end left w table rest total inv m ri s good e f =
    let others = cut p k bytes limit end (numbers w left rest) in
    let q = and_parts _ _ good in
    let len : length rest ≡ length table - w = ap length ri ∙ length-drop w table in
    let lo = inv.long in
    let ms : w * more ≡ w * left + w = ap (λ x. w * x) m ∙ mul-suc w left in
    record {
      so_far = ap (λ x. with_front x others) f ∙ sym (front_more front t others) ∙ ap (λ o. with_front front (then_more o others)) (sym (cond-true _ _ _ good ∙ e)) ∙ s.so_far;
      long = omega arith;
      pos_in = leb-true _ _ q.1;
      within = inv.within;
      width = inv.width;
    }

pub framed_end : (p : Reader) (front : List Tree) (k : Kind) (bytes : List ℕ) (limit pos left w : ℕ) (table : List ℕ) (total : Option Trees) → Framed p front k bytes limit pos left w table total → left ≡ 0 → total ≡ Some (trees_of front)
framed_end p front k bytes limit pos left w table total inv z =
    sym (ap (λ x. with_front front (cut p k bytes limit pos (numbers w x table))) (sym z) ∙ inv.so_far) ∙ front_end front

-- ---- maybe

pub maybe_is : (p : Reader) (k : Kind) (f : Bool) (bytes : List ℕ) (v : Tree) → (length bytes ≡ 0 → ⊥) → p k (cond f bytes (front bytes)) ≡ Some v → maybe_at p k f bytes ≡ Some (t.just v)
maybe_is p k f [] v some e = absurd (some refl)
maybe_is p k true (c ∷ cs) v some e = ap (option_map t.just) e
maybe_is p k false (c ∷ cs) v some e = ap (option_map t.just) e

pub maybe_fails : (e : GvFault) (p : Reader) (k : Kind) (f : Bool) (bytes : List ℕ) → (length bytes ≡ 0 → ⊥) → Fails e (p k (cond f bytes (front bytes))) → Fails e (maybe_at p k f bytes)
maybe_fails e p k f [] some h = absurd (some refl)
maybe_fails e p k true (c ∷ cs) some h = fails_map e t.just (p k (c ∷ cs)) h
maybe_fails e p k false (c ∷ cs) some h = fails_map e t.just (p k (front (c ∷ cs))) h

pub size_unknown : (o : Option ℕ) → is_some (option_map capped o) ≡ false → o ≡ None
size_unknown None e = refl
size_unknown (Some n) e = absurd cc

-- ---- entries

pub pair_long : (rest : List Value) (x y : Value) → (length rest ≡ 0 → ⊥) → as_pair (views ((rest ++ x ∷ []) ++ y ∷ [])) ≡ None
pair_long [] x y some = absurd (some refl)
pair_long (a ∷ []) x y some = refl
pair_long (a ∷ b ∷ []) x y some = refl
pair_long (a ∷ b ∷ c ∷ rest) x y some = refl

pub entry_read : (p : Reader) (x : Basic) (k : Kind) (b : List ℕ) (ks : Kinds) (o : Option Trees) → ks ≡ pair x k → tuple_at p ks b (size_for (length b)) (inner ks) ≡ o → entry_at p x k b ≡ option_and_then as_pair o
entry_read p x k b ks o e f = ap (option_and_then as_pair) (ap (λ ks. tuple_at p ks b (size_for (length b)) (inner ks)) (sym e) ∙ f)

pub fails_bind : {A B : Type 0} (e : GvFault) (f : A → Option B) (o : Option A) → Fails e o → Fails e (option_and_then f o)
fails_bind NoMemory f o h = tt
fails_bind NotNormal f o h = ap (option_and_then f) h
fails_bind BadKind f o h = h
fails_bind TooDeep f o h = h

-- ---- variants

pub variant_split : (p : Reader) (b c s : List ℕ) (k : Kind) → split_last b ≡ Some (c, s) → variant_kind s ≡ Some k → variant_at p b ≡ option_map (t.variant s) (p k c)
variant_split p b c s k e f =
    ap (option_and_then (λ q. option_and_then (λ k. option_map (t.variant q.1) (p k q.0)) (variant_kind q.1))) e ∙ ap (option_and_then (λ k. option_map (t.variant s) (p k c))) f

pub variant_unsplit : (p : Reader) (b : List ℕ) → split_last b ≡ None → variant_at p b ≡ None
variant_unsplit p b e = ap (option_and_then (λ q. option_and_then (λ k. option_map (t.variant q.1) (p k q.0)) (variant_kind q.1))) e

pub variant_unkind : (p : Reader) (b c s : List ℕ) → split_last b ≡ Some (c, s) → variant_kind s ≡ None → variant_at p b ≡ None
variant_unkind p b c s e f =
    ap (option_and_then (λ q. option_and_then (λ k. option_map (t.variant q.1) (p k q.0)) (variant_kind q.1))) e ∙ ap (option_and_then (λ k. option_map (t.variant s) (p k c))) f

-- ---- arrays of bytes

alone : List ℕ → List (List ℕ)
alone [] = []
alone (c ∷ cs) = (c ∷ []) ∷ alone cs

alone_size : (cs : List ℕ) → AllSize 1 (alone cs)
unfolding alone
alone_size [] = tt
alone_size (c ∷ cs) = (refl, alone_size cs)

gap_one : (n : ℕ) → gap 1 n ≡ 0
gap_one n = omega arith

alone_body : (cs : List ℕ) (n : ℕ) → body n (parts 1 true (alone cs)) ≡ cs
unfolding alone
alone_body [] n = refl
alone_body (c ∷ cs) n =
    ap (λ g. replicate g 0 ++ (c ∷ body (up 1 n + 1) (parts 1 true (alone cs)))) (gap_one n) ∙ ap (λ (x : List ℕ). c ∷ x) (alone_body cs (up 1 n + 1))

byte_read : (d c : ℕ) → parse d (basic b.Byte) (c ∷ []) ≡ Some (leaf (t.byte c))
unfolding parse
byte_read zero c = refl
byte_read (suc d) c = refl

alone_read : (d : ℕ) (cs : List ℕ) → ReadsAll (parse d) (basic b.Byte) (trees_of (map (λ c. leaf (t.byte c)) cs)) (alone cs)
unfolding alone
alone_read d [] = tt
alone_read d (c ∷ cs) = (byte_read d c, alone_read d cs)

pub bytes_read : (d : ℕ) (k : Kind) (bytes : List ℕ) → k ≡ basic b.Byte → elements (parse d) k (fixed k) bytes ≡ Some (trees_of (map (λ c. leaf (t.byte c)) bytes))
unfolding fixed alignment
bytes_read d k bytes e =
    ap (λ k. elements (parse d) k (fixed k) bytes) e
    ∙ same_size (parse d) (basic b.Byte) 1 (trees_of (map (λ c. leaf (t.byte c)) bytes)) (alone bytes) bytes (omega arith) (alone_size bytes) (alone_read d bytes) (alone_body bytes 0)
