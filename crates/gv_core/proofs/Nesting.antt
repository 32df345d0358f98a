-- What is read nests no deeper than it may.
use Rattle.std.proofs.Common.{◌≡◌, ℕ, zero, suc, ◌-◌, ◌*◌, ◌/◌, ◌≤◌, Bool, true, false, cond, leb, ltb, List, [], ◌∷◌, length, drop, Option, Some, None, subst, arith}
use Rattle.std.specs.Prelude.{option_map, ◌&&◌}
use Rattle.std.specs.Option.{is_some}
use Rattle.gv_core.specs.Kind.{Kind, Kinds, basic, variant, array, maybe, tuple, entry, no_kinds, kind, variant_kind}
use Rattle.gv_core.specs.Tree.{Leaf, Tree, Trees, tree, no_trees, leaf}
use Rattle.gv_core.specs.Tree as t
use Rattle.gv_core.specs.Measure.{◌>>=◌, alignment, fixed, up}
use Rattle.gv_core.specs.Layout.{nests, nest}
use Rattle.gv_core.specs.Reading.{Reader, piece, between, then_more, cut, inner, next_end, cut_each, tuple_at, elements, last_number, numbers, back_numbers, size_for, front, maybe_at, split_last, pair, as_pair, leaf_at, parse}
use Rattle.gv_core.proofs.Sizes.{bind_some, map_some, some_is, none_some}

-- what p reads nests at most d deep
pub record Shallow (d : ℕ) (p : Reader) : Type 0 where
  pub at : (k : Kind) (b : List ℕ) (v : Tree) → p k b ≡ Some v → nests v ≤ d

piece_when : (d : ℕ) (p : Reader) (s : Shallow d p) (k : Kind) (b : List ℕ) (v : Tree) (x : Bool) → cond x (p k b) None ≡ Some v → nests v ≤ d
piece_when d p s k b v true e = s.at k b v e
piece_when d p s k b v false e = none_some v (nests v ≤ d) e

piece_nests : (d : ℕ) (p : Reader) (s : Shallow d p) (k : Kind) (b : List ℕ) (i j limit : ℕ) (v : Tree) → piece p k b i j limit ≡ Some v → nests v ≤ d
piece_nests d p s k b i j limit v e = piece_when d p s k (between b i j) v (leb i j && leb j limit) e

cut_nests : (es : List ℕ) (d : ℕ) (p : Reader) (s : Shallow d p) (k : Kind) (b : List ℕ) (limit pos : ℕ) (ts : Trees) → cut p k b limit pos es ≡ Some ts → nest ts ≤ d
cut_nests [] d p s k b limit pos ts h = subst (λ (x : Trees). nest x ≤ d) (some_is no_trees ts h) (omega arith)
cut_nests (e ∷ es) d p s k b limit pos ts h =
    let q = bind_some (piece p k b (up (alignment k) pos) e limit) (λ t. option_map (tree t) (cut p k b limit e es)) ts h in
    let r = map_some (tree q.0) (cut p k b limit e es) ts q.2 in
    let one = piece_nests d p s k b (up (alignment k) pos) e limit q.0 q.1 in
    let all = cut_nests es d p s k b limit e r.0 r.1 in
    subst (λ (x : Trees). nest x ≤ d) r.2 (omega arith)

each_nests : (ks : Kinds) (d : ℕ) (p : Reader) (s : Shallow d p) (b : List ℕ) (limit pos : ℕ) (es : List ℕ) (ts : Trees) → cut_each p ks b limit pos es ≡ Some ts → nest ts ≤ d
each_nests no_kinds d p s b limit pos es ts h = subst (λ (x : Trees). nest x ≤ d) (some_is no_trees ts h) (omega arith)
each_nests (kind k ks) d p s b limit pos es ts h =
    let x = bind_some (next_end (fixed k) ks (up (alignment k) pos) limit es) (λ x. then_more (piece p k b (up (alignment k) pos) x.0 limit) (cut_each p ks b limit x.0 x.1)) ts h in
    let q = bind_some (piece p k b (up (alignment k) pos) x.0.0 limit) (λ t. option_map (tree t) (cut_each p ks b limit x.0.0 x.0.1)) ts x.2 in
    let r = map_some (tree q.0) (cut_each p ks b limit x.0.0 x.0.1) ts q.2 in
    let one = piece_nests d p s k b (up (alignment k) pos) x.0.0 limit q.0 q.1 in
    let all = each_nests ks d p s b limit x.0.0 x.0.1 r.0 r.1 in
    subst (λ (x : Trees). nest x ≤ d) r.2 (omega arith)

tested : {A : Type 0} (x : Bool) (o : Option A) (y : A) → cond x o None ≡ Some y → o ≡ Some y
tested true o y e = e
tested false o y e = none_some y (o ≡ Some y) e

tuple_nests : (d : ℕ) (p : Reader) (s : Shallow d p) (ks : Kinds) (b : List ℕ) (w m : ℕ) (ts : Trees) → tuple_at p ks b w m ≡ Some ts → nest ts ≤ d
tuple_nests d p s ks b w m ts h = each_nests ks d p s b (length b - w * m) 0 (back_numbers w m b) ts (tested (leb (w * m) (length b)) (cut_each p ks b (length b - w * m) 0 (back_numbers w m b)) ts h)

elements_nest : (o : Option ℕ) (b : List ℕ) (d : ℕ) (p : Reader) (s : Shallow d p) (k : Kind) (ts : Trees) → elements p k o b ≡ Some ts → nest ts ≤ d
elements_nest (Some n) b d p s k ts h = cut_nests _ d p s k b (length b) 0 ts h
elements_nest None [] d p s k ts h = subst (λ (x : Trees). nest x ≤ d) (some_is no_trees ts h) (omega arith)
elements_nest None (c ∷ cs) d p s k ts h =
    let b : List ℕ = c ∷ cs in
    let w = size_for (length b) in
    let limit = last_number w b in
    cut_nests (numbers w ((length b - limit) / w) (drop limit b)) d p s k b limit 0 ts (tested (ltb limit (length b)) (cut p k b limit 0 (numbers w ((length b - limit) / w) (drop limit b))) ts h)

maybe_nests : (f : Bool) (b : List ℕ) (d : ℕ) (p : Reader) (s : Shallow d p) (k : Kind) (v : Tree) → maybe_at p k f b ≡ Some v → nests v ≤ suc d
maybe_nests f [] d p s k v h = subst (λ (x : Tree). nests x ≤ suc d) (some_is t.nothing v h) (omega arith)
maybe_nests true (c ∷ cs) d p s k v h =
    let q = map_some t.just (p k (c ∷ cs)) v h in
    let n = s.at k (c ∷ cs) q.0 q.1 in
    subst (λ (x : Tree). nests x ≤ suc d) q.2 (omega arith)
maybe_nests false (c ∷ cs) d p s k v h =
    let q = map_some t.just (p k (front (c ∷ cs))) v h in
    let n = s.at k (front (c ∷ cs)) q.0 q.1 in
    subst (λ (x : Tree). nests x ≤ suc d) q.2 (omega arith)

pair_nests : (ts : Trees) (d : ℕ) (v : Tree) → nest ts ≤ d → as_pair ts ≡ Some v → nests v ≤ suc d
pair_nests no_trees d v n h = none_some v (nests v ≤ suc d) h
pair_nests (tree x no_trees) d v n h = none_some v (nests v ≤ suc d) h
pair_nests (tree x (tree y no_trees)) d v n h = subst (λ (z : Tree). nests z ≤ suc d) (some_is (t.entry x y) v h) (omega arith)
pair_nests (tree x (tree y (tree z ts))) d v n h = none_some v (nests v ≤ suc d) h

leaf_nests : (d : ℕ) (o : Option Leaf) (v : Tree) → option_map leaf o ≡ Some v → nests v ≤ d
leaf_nests d o v h = let q = map_some leaf o v h in subst (λ (x : Tree). nests x ≤ d) q.2 (omega arith)

parse_nest : (d : ℕ) (k : Kind) (b : List ℕ) (v : Tree) → parse d k b ≡ Some v → nests v ≤ d
unfolding parse
parse_nest zero (basic x) b v h = leaf_nests 0 (leaf_at x b) v h
parse_nest zero k b v h = none_some v (nests v ≤ 0) h
parse_nest (suc d) (basic x) b v h = leaf_nests (suc d) (leaf_at x b) v h
parse_nest (suc d) (array k) b v h =
    let s : Shallow d (parse d) = record { at = parse_nest d } in
    let q = map_some t.array (elements (parse d) k (fixed k) b) v h in
    let n = elements_nest (fixed k) b d (parse d) s k q.0 q.1 in
    subst (λ (x : Tree). nests x ≤ suc d) q.2 (omega arith)
parse_nest (suc d) (tuple ks) b v h =
    let s : Shallow d (parse d) = record { at = parse_nest d } in
    let q = map_some t.tuple (tuple_at (parse d) ks b (size_for (length b)) (inner ks)) v h in
    let n = tuple_nests d (parse d) s ks b (size_for (length b)) (inner ks) q.0 q.1 in
    subst (λ (x : Tree). nests x ≤ suc d) q.2 (omega arith)
parse_nest (suc d) (entry x k) b v h =
    let s : Shallow d (parse d) = record { at = parse_nest d } in
    let q = bind_some (tuple_at (parse d) (pair x k) b (size_for (length b)) (inner (pair x k))) as_pair v h in
    pair_nests q.0 d v (tuple_nests d (parse d) s (pair x k) b (size_for (length b)) (inner (pair x k)) q.0 q.1) q.2
parse_nest (suc d) (maybe k) b v h = let s : Shallow d (parse d) = record { at = parse_nest d } in maybe_nests (is_some (fixed k)) b d (parse d) s k v h
parse_nest (suc d) variant b v h =
    let q = bind_some (split_last b) (λ q. variant_kind q.1 >>= λ k. option_map (t.variant q.1) (parse d k q.0)) v h in
    let r = bind_some (variant_kind q.0.1) (λ k. option_map (t.variant q.0.1) (parse d k q.0.0)) v q.2 in
    let u = map_some (t.variant q.0.1) (parse d r.0 q.0.0) v r.2 in
    let n = parse_nest d r.0 q.0.0 u.0 u.1 in
    subst (λ (x : Tree). nests x ≤ suc d) u.2 (omega arith)

pub parse_nests : (d : ℕ) → Shallow d (parse d)
parse_nests d = record { at = parse_nest d }
