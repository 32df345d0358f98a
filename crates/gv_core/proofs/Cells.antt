-- One member more at the end of a tuple that is being written.
use Rattle.std.proofs.Common.{◌≡◌, ℕ, ◌+◌, ◌-◌, max, Bool, true, false, cond, List, [], ◌∷◌, ◌++◌, length, replicate, Option, Some, None, refl, sym, ap, ap₂, ◌∙◌, append_assoc, arith}
use Rattle.std.specs.Prelude.{option_and_then, option_map, ◌&&◌, ◌||◌}
use Rattle.std.specs.Option.{is_some}
use Rattle.std.proofs.lemmas.List.{append-nil, length-append, length-replicate}
use Rattle.gv_core.specs.Kind.{Kind, Kinds, tuple, kind, no_kinds}
use Rattle.gv_core.specs.Tree.{Tree, Trees, tree, no_trees}
use Rattle.gv_core.specs.Measure.{gap, up, alignment, fixed, fixed_end, widest}
use Rattle.gv_core.specs.Layout.{Part, part, end_of, body, inner_ends, all_fixed, widest_of, tuple_of, sized, table_back, le, layout, members}
use Rattle.gv_core.specs.declared.value.Value.{Value}
use Rattle.gv_core.specs.Node.{kinds_of}
use Rattle.gv_core.specs.Gives.{padded_to, with_table_back, views}
use Rattle.std.proofs.Common.{eqb}
use Rattle.std.proofs.lemmas.Bool.{false≢true}
use Rattle.gv_core.proofs.Steps.{longer}
use Rattle.gv_core.proofs.Offsets.{length-body}
use Rattle.gv_core.proofs.Sizes.{StandAll, all_stand}
use Rattle.gv_core.proofs.Pushing.{padded, body_push, with_first, total_step, total_start, total_end}

-- where each member of variable size ends
abbrev pub noted : ℕ → List Part → List ℕ
noted n [] = []
noted n (p ∷ ps) = cond p.fixed (noted (end_of n p) ps) (end_of n p ∷ noted (end_of n p) ps)

swapped : (a b : Bool) (es : List ℕ) (e d : ℕ) → cond a (cond b es (es ++ d ∷ [])) (e ∷ cond b es (es ++ d ∷ [])) ≡ cond b (cond a es (e ∷ es)) (cond a es (e ∷ es) ++ d ∷ [])
swapped true true es e d = refl
swapped true false es e d = refl
swapped false true es e d = refl
swapped false false es e d = refl

pub noted_push : (ps : List Part) (n : ℕ) (p : Part) → noted n (ps ++ p ∷ []) ≡ cond p.fixed (noted n ps) (noted n ps ++ (end_of (n + length (body n ps)) p) ∷ [])
noted_push [] n p = let z : n ≡ n + 0 = omega arith in ap (λ m. cond p.fixed [] (end_of m p ∷ [])) z
noted_push (q ∷ ps) n p =
    let e = end_of n q in
    let at : e + length (body e ps) ≡ n + length (body n (q ∷ ps)) = let h = length-body n q ps in omega arith in
    ap (λ (x : List ℕ). cond q.fixed x (e ∷ x)) (noted_push ps e p)
    ∙ swapped q.fixed p.fixed (noted e ps) e (end_of (e + length (body e ps)) p)
    ∙ ap (λ m. cond p.fixed (noted n (q ∷ ps)) (noted n (q ∷ ps) ++ (end_of m p) ∷ [])) at

pub inner_push : (ps : List Part) (n : ℕ) (p : Part) → inner_ends n (ps ++ p ∷ []) ≡ noted n ps
inner_push [] n p = refl
inner_push (q ∷ []) n p = refl
inner_push (q ∷ r ∷ ps) n p = ap (λ (x : List ℕ). cond q.fixed x (end_of n q ∷ x)) (inner_push (r ∷ ps) (end_of n q) p)

pub record Cells (old out ending : List ℕ) (last : Bool) (left total : Option (List Part)) : Type 0 where
  pub done : List Part
  pub out_is : out ≡ old ++ body 0 done
  pub ends_are : ending ≡ cond last (inner_ends 0 done) (noted 0 done)
  pub total_is : option_map (λ rest. done ++ rest) left ≡ total

pub cells_init : (old ending : List ℕ) (left : Option (List Part)) → ending ≡ [] → Cells old old ending false left left
cells_init old ending left e = record { done = []; out_is = sym (append-nil old); ends_are = e; total_is = total_start left }

ends_next : (last f : Bool) (done : List Part) (p : Part) (ending ending2 : List ℕ) (e : ℕ) → p.fixed ≡ f → ending ≡ noted 0 done → e ≡ end_of (0 + length (body 0 done)) p → ending2 ≡ cond (f || last) ending (ending ++ e ∷ [])
    → ending2 ≡ cond last (inner_ends 0 (done ++ p ∷ [])) (noted 0 (done ++ p ∷ []))
ends_next true true done p ending ending2 e h g k r = r ∙ g ∙ sym (inner_push done 0 p)
ends_next true false done p ending ending2 e h g k r = r ∙ g ∙ sym (inner_push done 0 p)
ends_next false true done p ending ending2 e h g k r = r ∙ g ∙ sym (noted_push done 0 p ∙ ap (λ b. cond b (noted 0 done) (noted 0 done ++ (end_of (0 + length (body 0 done)) p) ∷ [])) h)
ends_next false false done p ending ending2 e h g k r =
    r ∙ ap₂ (λ (x : List ℕ) (m : ℕ). x ++ m ∷ []) g k ∙ sym (noted_push done 0 p ∙ ap (λ b. cond b (noted 0 done) (noted 0 done ++ (end_of (0 + length (body 0 done)) p) ∷ [])) h)

pub cells_next : (last f : Bool) (old out out2 ending ending2 : List ℕ) (p : Part) (left rest total : Option (List Part)) → (inv : Cells old out ending false left total) → left ≡ with_first p rest → p.fixed ≡ f
    → out2 ≡ out ++ (replicate (gap p.align (length out - length old)) 0 ++ p.bytes) → ending2 ≡ cond (f || last) ending (ending ++ (length out2 - length old) ∷ []) → Cells old out2 ending2 last rest total
cells_next last f old out out2 ending ending2 p left rest total inv e fe oe ee =
    let B = body 0 inv.done in
    let n : length out ≡ length old + length B = ap length inv.out_is ∙ length-append old B in
    let at0 : length out - length old ≡ 0 + length B = omega arith in
    let grown : body 0 (inv.done ++ p ∷ []) ≡ B ++ padded (0 + length B) p = body_push inv.done 0 p in
    let out_new : out2 ≡ old ++ body 0 (inv.done ++ p ∷ []) =
    oe ∙ ap₂ (λ (x : List ℕ) (m : ℕ). x ++ padded m p) inv.out_is at0 ∙ append_assoc old B (padded (0 + length B) p) ∙ ap (λ (x : List ℕ). old ++ x) (sym grown) in
    let pads : length (padded (0 + length B) p) ≡ gap p.align (0 + length B) + length p.bytes = length-append (replicate (gap p.align (0 + length B)) 0) p.bytes ∙ ap (λ x. x + length p.bytes) (length-replicate (gap p.align (0 + length B)) 0) in
    let size : length out2 - length old ≡ end_of (0 + length B) p =
    let l2 : length out2 ≡ length old + (length B + length (padded (0 + length B) p)) = ap length (out_new ∙ ap (λ (x : List ℕ). old ++ x) grown) ∙ length-append old (B ++ padded (0 + length B) p) ∙ ap (λ x. length old + x) (length-append B (padded (0 + length B) p)) in
    omega arith in
    record {
      done = inv.done ++ p ∷ [];
      out_is = out_new;
      ends_are = ends_next last f inv.done p ending ending2 (length out2 - length old) fe inv.ends_are size ee;
      total_is = sym (total_step inv.done p rest) ∙ ap (option_map (λ x. inv.done ++ x)) (sym e) ∙ inv.total_is;
    }

-- ---- at the end

fixed_cases : (o : Option ℕ) (k : Kind) (ks : Kinds) (n : ℕ) (b : Bool) → fixed k ≡ o → ((m : ℕ) → b ≡ is_some (fixed_end m ks)) → (is_some o && b) ≡ is_some (fixed_end n (kind k ks))
unfolding fixed
fixed_cases None k ks n b e h = sym (ap (λ o. is_some (option_and_then (λ m. fixed_end (up (alignment k) n + m) ks) o)) e)
fixed_cases (Some m) k ks n b e h = h (up (alignment k) n + m) ∙ sym (ap (λ o. is_some (option_and_then (λ m. fixed_end (up (alignment k) n + m) ks) o)) e)

all_fixed_is : (ks : Kinds) (ps : List Part) (n : ℕ) → StandAll ks ps → all_fixed ps ≡ is_some (fixed_end n ks)
unfolding fixed
all_fixed_is no_kinds [] n s = refl
all_fixed_is no_kinds (p ∷ ps) n s = absurd s
all_fixed_is (kind k ks) [] n s = absurd s
all_fixed_is (kind k ks) (p ∷ ps) n s = ap (λ b. b && all_fixed ps) s.0.fixed_or_not ∙ fixed_cases (fixed k) k ks n (all_fixed ps) refl (λ m. all_fixed_is ks ps m s.1)

widest_is : (ks : Kinds) (ps : List Part) → StandAll ks ps → widest_of ps ≡ widest ks
unfolding alignment
widest_is no_kinds [] s = refl
widest_is no_kinds (p ∷ ps) s = absurd s
widest_is (kind k ks) [] s = absurd s
widest_is (kind k ks) (p ∷ ps) s = ap₂ (λ x y. max x y) s.0.align (widest_is ks ps s.1)

some_mapped : (f : ℕ → ℕ) (o : Option ℕ) → is_some (option_map f o) ≡ is_some o
some_mapped f None = refl
some_mapped f (Some n) = refl

pub tuple_with : (k : Kind) (ks : Kinds) (ps : List Part) → StandAll (kind k ks) ps
    → cond (is_some (fixed (tuple (kind k ks)))) (sized (padded_to (alignment (tuple (kind k ks))) (body 0 ps))) (with_table_back (body 0 ps) (inner_ends 0 ps)) ≡ tuple_of ps
unfolding fixed alignment
tuple_with k ks [] s = absurd s
tuple_with k ks (p ∷ ps) s =
    let all : is_some (fixed (tuple (kind k ks))) ≡ all_fixed (p ∷ ps) = some_mapped (up (widest (kind k ks))) (fixed_end 0 (kind k ks)) ∙ sym (all_fixed_is (kind k ks) (p ∷ ps) 0 s) in
    let wide : alignment (tuple (kind k ks)) ≡ widest_of (p ∷ ps) = sym (widest_is (kind k ks) (p ∷ ps) s) in
    ap₂ (λ b a. cond b (sized (padded_to a (body 0 (p ∷ ps)))) (with_table_back (body 0 (p ∷ ps)) (inner_ends 0 (p ∷ ps)))) all wide

pub cells_end : (k : Kind) (ks : Kinds) (ts : Trees) (old out ending : List ℕ) (left : Option (List Part)) → (inv : Cells old out ending true left (members ts (kind k ks))) → left ≡ Some []
    → cond (is_some (fixed (tuple (kind k ks)))) (sized (padded_to (alignment (tuple (kind k ks))) (body 0 inv.done))) (with_table_back (body 0 inv.done) ending) ≡ option_and_then tuple_of (members ts (kind k ks))
cells_end k ks ts old out ending left inv e =
    let t : members ts (kind k ks) ≡ Some inv.done = total_end inv.done left (members ts (kind k ks)) inv.total_is e in
    let stand = all_stand ts (kind k ks) inv.done t in
    ap (λ es. cond (is_some (fixed (tuple (kind k ks)))) (sized (padded_to (alignment (tuple (kind k ks))) (body 0 inv.done))) (with_table_back (body 0 inv.done) es)) inv.ends_are
    ∙ tuple_with k ks inv.done stand ∙ ap (option_and_then tuple_of) (sym t)

pub members_first : (v : Tree) (ts : Trees) (k : Kind) (ks : Kinds) (r : List ℕ) → layout v k ≡ Some r → members (tree v ts) (kind k ks) ≡ with_first (part k r) (members ts ks)
unfolding layout
members_first v ts k ks r e = ap (option_and_then (λ r. with_first (part k r) (members ts ks))) e

pub members_first_none : (v : Tree) (ts : Trees) (k : Kind) (ks : Kinds) → layout v k ≡ None → members (tree v ts) (kind k ks) ≡ None
unfolding layout
members_first_none v ts k ks e = ap (option_and_then (λ r. with_first (part k r) (members ts ks))) e

pub members_short : (k : Kind) (ks : Kinds) → members no_trees (kind k ks) ≡ None
unfolding layout
members_short k ks = refl

pub left_over : (vs : List Value) → eqb (length vs) 0 ≡ false → members (views vs) no_kinds ≡ None
unfolding layout
left_over [] e = absurd cc
left_over (v ∷ vs) e = refl

pub none_over : (vs : List Value) → eqb (length vs) 0 ≡ true → members (views vs) no_kinds ≡ Some []
unfolding layout
none_over [] e = refl
none_over (v ∷ vs) e = absurd (false≢true (sym (longer (length vs)) ∙ e))

pub cells_end_of : (ks : List Kind) (ts : Trees) (old out ending : List ℕ) (left : Option (List Part)) → (inv : Cells old out ending true left (members ts (kinds_of ks))) → eqb (length ks) 0 ≡ false → left ≡ Some []
    → cond (is_some (fixed (tuple (kinds_of ks)))) (sized (padded_to (alignment (tuple (kinds_of ks))) (body 0 inv.done))) (with_table_back (body 0 inv.done) ending) ≡ option_and_then tuple_of (members ts (kinds_of ks))
cells_end_of [] ts old out ending left inv some e = absurd (false≢true (sym some))
cells_end_of (k ∷ ks) ts old out ending left inv some e = cells_end k (kinds_of ks) ts old out ending left inv e

-- offsets from the last one down
pub table_back_push : (s : ℕ) (es : List ℕ) (e : ℕ) → table_back s (es ++ e ∷ []) ≡ le s e ++ table_back s es
table_back_push s [] e = sym (append-nil (le s e))
table_back_push s (d ∷ es) e = ap (λ (x : List ℕ). x ++ le s d) (table_back_push s es e) ∙ append_assoc (le s e) (table_back s es) (le s d)
