-- What was joined is cut again.
use Rattle.std.proofs.Common.{◌≡◌, ℕ, suc, ◌+◌, ◌-◌, ◌<◌, ◌≤◌, Bool, true, false, cond, leb, List, [], ◌∷◌, ◌++◌, length, drop, Option, Some, None, refl, sym, ap, ap₂, ◌∙◌, append_assoc, arith, replicate, inl, inr, ◌⊎◌}
use Rattle.std.proofs.lemmas.Bool.{le-leb, and_parts, false≢true}
use Rattle.std.proofs.lemmas.List.{take_at, drop_at, drop-drop, length-append, length-replicate, length-drop}
use Rattle.gv_core.specs.Kind.{Kind, Kinds, no_kinds, kind}
use Rattle.gv_core.specs.Tree.{Tree, Trees, tree, no_trees}
use Rattle.std.specs.Option.{is_some}
use Rattle.gv_core.specs.Measure.{alignment, fixed, gap, up}
use Rattle.gv_core.specs.Layout.{Part, end_of, body, ends, inner_ends, all_fixed, parts, le}
use Rattle.gv_core.specs.Reading.{Reader, piece, between, cut, inner, next_end, cut_each}
use Rattle.gv_core.proofs.Offsets.{AllBelow, length-body}
use Rattle.gv_core.proofs.Sizes.{Stands, StandAll, is_some_at}

-- each of the bytes is read as the tree in its place
abbrev pub ReadsAll : Reader → Kind → Trees → List (List ℕ) → Type 0
ReadsAll p k no_trees [] = Unit {0}
ReadsAll p k no_trees (r ∷ rs) = ⊥
ReadsAll p k (tree t ts) [] = ⊥
ReadsAll p k (tree t ts) (r ∷ rs) = (p k r ≡ Some t) × ReadsAll p k ts rs

-- a member behind its padding
pub record Here (bytes r rest : List ℕ) (n start end limit : ℕ) : Type 0 where
  pub cut_out : between bytes start end ≡ r
  pub after : drop end bytes ≡ rest
  pub in_order : leb start end ≡ true
  pub within : end ≤ length bytes

pub here : (bytes r rest : List ℕ) (n g : ℕ) → n ≤ length bytes → drop n bytes ≡ replicate g 0 ++ (r ++ rest) → Here bytes r rest n (n + g) (n + g + length r) (length bytes)
here bytes r rest n g le e =
    let d : drop (n + g) bytes ≡ r ++ rest = sym (drop-drop g n bytes) ∙ ap (drop g) e ∙ drop_at (replicate g 0) (r ++ rest) g (length-replicate g 0) in
    let len : length bytes - n ≡ g + (length r + length rest) = sym (length-drop n bytes) ∙ ap length e ∙ length-append (replicate g 0) (r ++ rest) ∙ ap₂ (λ x y. x + y) (length-replicate g 0) (length-append r rest) in
    let size : n + g + length r - (n + g) ≡ length r = omega arith in
    record {
      cut_out = rw (size, d) (take_at r rest (length r) refl);
      after = sym (drop-drop (length r) (n + g) bytes) ∙ ap (drop (length r)) d ∙ drop_at r rest (length r) refl;
      in_order = le-leb _ _ (omega arith);
      within = omega arith;
    }

pub piece_here : (p : Reader) (k : Kind) (bytes r : List ℕ) (t : Tree) (start end limit : ℕ) → leb start end ≡ true → end ≤ limit → between bytes start end ≡ r → p k r ≡ Some t → piece p k bytes start end limit ≡ Some t
piece_here p k bytes r t start end limit a b c d =
    let e : leb end limit ≡ true = le-leb _ _ b in
    rw (a, e, c) d

pub cut_again : (p : Reader) (k : Kind) (f : Bool) (ts : Trees) (rs : List (List ℕ)) (bytes post : List ℕ) (limit n : ℕ) → limit ≤ length bytes → n ≤ length bytes
    → n + length (body n (parts (alignment k) f rs)) ≤ limit → drop n bytes ≡ body n (parts (alignment k) f rs) ++ post → ReadsAll p k ts rs → cut p k bytes limit n (ends n (parts (alignment k) f rs)) ≡ Some ts
cut_again p k f no_trees [] bytes post limit n lim le fits e reads = refl
cut_again p k f no_trees (r ∷ rs) bytes post limit n lim le fits e reads = absurd reads
cut_again p k f (tree t ts) [] bytes post limit n lim le fits e reads = absurd reads
cut_again p k f (tree t ts) (r ∷ rs) bytes post limit n lim le fits e reads =
    let a = alignment k in
    let g = gap a n in
    let end = n + g + length r in
    let rest = body end (parts a f rs) in
    let e2 : drop n bytes ≡ replicate g 0 ++ (r ++ (rest ++ post)) = e ∙ append_assoc (replicate g 0) (r ++ rest) post ∙ ap (λ (x : List ℕ). replicate g 0 ++ x) (append_assoc r rest post) in
    let h = here bytes r (rest ++ post) n g le e2 in
    let size : length (replicate g 0 ++ (r ++ rest)) ≡ g + (length r + length rest) = length-append (replicate g 0) (r ++ rest) ∙ ap₂ (λ x y. x + y) (length-replicate g 0) (length-append r rest) in
    let first : piece p k bytes (n + g) end limit ≡ Some t = piece_here p k bytes r t (n + g) end limit h.in_order (omega arith) h.cut_out reads.0 in
    let others : cut p k bytes limit end (ends end (parts a f rs)) ≡ Some ts = cut_again p k f ts rs bytes post limit end lim h.within (omega arith) h.after reads.1 in
    rw (first, others) refl

-- ---- members of a tuple

abbrev pub ReadsEach : Reader → Kinds → Trees → List Part → Type 0
ReadsEach p no_kinds no_trees [] = Unit {0}
ReadsEach p (kind k ks) (tree t ts) (q ∷ ps) = (p k q.bytes ≡ Some t) × ReadsEach p ks ts ps
ReadsEach p _ _ _ = ⊥

inner_fixed : (n : ℕ) (q : Part) (ps : List Part) → q.fixed ≡ true → inner_ends n (q ∷ ps) ≡ inner_ends (end_of n q) ps
inner_fixed n q [] e = refl
inner_fixed n q (r ∷ ps) e = ap (λ b. cond b (inner_ends (end_of n q) (r ∷ ps)) (end_of n q ∷ inner_ends (end_of n q) (r ∷ ps))) e

pub inner_none : (n : ℕ) (ps : List Part) → all_fixed ps ≡ true → inner_ends n ps ≡ []
inner_none n [] e = refl
inner_none n (q ∷ ps) e = let p = and_parts q.fixed (all_fixed ps) e in inner_fixed n q ps p.0 ∙ inner_none (end_of n q) ps p.1

pub inner_below : (n limit : ℕ) (ps : List Part) → n + length (body n ps) < limit → AllBelow limit (inner_ends n ps)
inner_below n limit [] lt = tt
inner_below n limit (q ∷ []) lt = tt
inner_below n limit (q ∷ r ∷ ps) lt =
    let e = length-body n q (r ∷ ps) in
    let ih = inner_below (end_of n q) limit (r ∷ ps) (omega arith) in
    elim q.fixed as (λ b. AllBelow limit (cond b (inner_ends (end_of n q) (r ∷ ps)) (end_of n q ∷ inner_ends (end_of n q) (r ∷ ps)))) [
      | true ↦ ih
      | false ↦ (omega arith, ih)
    ]

pub length-inner_ends : (n : ℕ) (ks : Kinds) (ps : List Part) → StandAll ks ps → length (inner_ends n ps) ≡ inner ks
unfolding inner
length-inner_ends n no_kinds [] s = refl
length-inner_ends n no_kinds (q ∷ ps) s = absurd s
length-inner_ends n (kind k ks) [] s = absurd s
length-inner_ends n (kind k no_kinds) (q ∷ []) s = refl
length-inner_ends n (kind k no_kinds) (q ∷ r ∷ ps) s = absurd s.1
length-inner_ends n (kind k (kind l ks)) (q ∷ []) s = absurd s.1
length-inner_ends n (kind k (kind l ks)) (q ∷ r ∷ ps) s =
    let ih = length-inner_ends (end_of n q) (kind l ks) (r ∷ ps) s.1 in
    let I = inner_ends (end_of n q) (r ∷ ps) in
    let both : (b : Bool) → length (cond b I (end_of n q ∷ I)) ≡ cond b (inner (kind l ks)) (suc (inner (kind l ks))) = λ b. elim b as (λ b. length (cond b I (end_of n q ∷ I)) ≡ cond b (inner (kind l ks)) (suc (inner (kind l ks)))) [ true ↦ ih | false ↦ ap suc ih ] in
    both q.fixed ∙ ap (λ b. cond b (inner (kind l ks)) (suc (inner (kind l ks)))) s.0.fixed_or_not

-- the last member ends at the limit, or has a fixed size
abbrev pub Closed : ℕ → ℕ → List Part → Type 0
Closed n limit ps = (all_fixed ps ≡ true) ⊎ (n + length (body n ps) ≡ limit)

pub closed_more : (n limit : ℕ) (q : Part) (ps : List Part) → Closed n limit (q ∷ ps) → Closed (end_of n q) limit ps
closed_more n limit q ps (inl h) = inl (and_parts q.fixed (all_fixed ps) h).1
closed_more n limit q ps (inr h) = let e = length-body n q ps in inr (omega arith)

next_is : (o : Option ℕ) (k : Kind) (ks : Kinds) (q : Part) (ps : List Part) (n limit : ℕ) → fixed k ≡ o → Stands k q → StandAll ks ps → Closed n limit (q ∷ ps)
    → next_end o ks (up (alignment k) n) limit (inner_ends n (q ∷ ps)) ≡ Some (end_of n q, inner_ends (end_of n q) ps)
next_is (Some m) k ks q ps n limit f s all closed =
    let end : up (alignment k) n + m ≡ end_of n q = ap₂ (λ a z. up a n + z) (sym s.align) (sym (s.size m f)) in
    let known : q.fixed ≡ true = s.fixed_or_not ∙ is_some_at (fixed k) m f in
    ap₂ (λ x es. Some (x, es)) end (inner_fixed n q ps known)
next_is None k no_kinds q [] n limit f s all (inl h) =
    let known : q.fixed ≡ false = s.fixed_or_not ∙ ap is_some f in
    absurd (false≢true (sym known ∙ (and_parts q.fixed true h).0))
next_is None k no_kinds q [] n limit f s all (inr h) = let e = length-body n q [] in let end : limit ≡ end_of n q = omega arith in ap (λ x. Some (x, [])) end
next_is None k no_kinds q (r ∷ ps) n limit f s all closed = absurd all
next_is None k (kind l ks) q [] n limit f s all closed = absurd all
next_is None k (kind l ks) q (r ∷ ps) n limit f s all closed =
    let known : q.fixed ≡ false = s.fixed_or_not ∙ ap is_some f in
    let I = inner_ends (end_of n q) (r ∷ ps) in
    ap (λ b. next_end None (kind l ks) (up (alignment k) n) limit (cond b I (end_of n q ∷ I))) known

pub each_again : (p : Reader) (ks : Kinds) (ts : Trees) (ps : List Part) (bytes post : List ℕ) (limit n : ℕ) → limit ≤ length bytes → n ≤ length bytes
    → n + length (body n ps) ≤ limit → Closed n limit ps → drop n bytes ≡ body n ps ++ post → StandAll ks ps → ReadsEach p ks ts ps → cut_each p ks bytes limit n (inner_ends n ps) ≡ Some ts
each_again p no_kinds no_trees [] bytes post limit n lim le fits closed e stand reads = refl
each_again p (kind k ks) (tree t ts) (q ∷ ps) bytes post limit n lim le fits closed e stand reads =
    let g = gap q.align n in
    let end = end_of n q in
    let rest = body end ps in
    let e2 : drop n bytes ≡ replicate g 0 ++ (q.bytes ++ (rest ++ post)) = e ∙ append_assoc (replicate g 0) (q.bytes ++ rest) post ∙ ap (λ (x : List ℕ). replicate g 0 ++ x) (append_assoc q.bytes rest post) in
    let h = here bytes q.bytes (rest ++ post) n g le e2 in
    let lb = length-body n q ps in
    let next = next_is (fixed k) k ks q ps n limit refl stand.0 stand.1 closed in
    let start : up q.align n ≡ up (alignment k) n = ap (λ a. up a n) stand.0.align in
    let first : piece p k bytes (up q.align n) end limit ≡ Some t = piece_here p k bytes q.bytes t (n + g) end limit h.in_order (omega arith) h.cut_out reads.0 in
    let first2 : piece p k bytes (up (alignment k) n) end limit ≡ Some t = ap (λ x. piece p k bytes x end limit) (sym start) ∙ first in
    let others : cut_each p ks bytes limit end (inner_ends end ps) ≡ Some ts = each_again p ks ts ps bytes post limit end lim h.within (omega arith) (closed_more n limit q ps closed) h.after stand.1 reads.1 in
    rw next (rw (first2, others) refl)
each_again p no_kinds no_trees (q ∷ ps) bytes post limit n lim le fits closed e stand reads = absurd reads
each_again p no_kinds (tree t ts) ps bytes post limit n lim le fits closed e stand reads = absurd reads
each_again p (kind k ks) no_trees ps bytes post limit n lim le fits closed e stand reads = absurd reads
each_again p (kind k ks) (tree t ts) [] bytes post limit n lim le fits closed e stand reads = absurd reads
