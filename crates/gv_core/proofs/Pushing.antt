-- One member more at the end of a container that is being written.
use Rattle.std.proofs.Common.{◌≡◌, ℕ, suc, ◌+◌, ◌-◌, Bool, true, false, cond, List, [], ◌∷◌, ◌++◌, length, Option, Some, None, Ok, refl, sym, ap, ap₂, ◌∙◌, append_assoc, arith, replicate}
use Rattle.std.specs.Prelude.{option_and_then, option_map}
use Rattle.std.proofs.lemmas.List.{append-nil, length-append, length-replicate}
use Rattle.std.specs.Option.{is_some}
use Rattle.gv_core.specs.declared.kind.Shape.{Shape}
use Rattle.gv_core.specs.declared.kind.Shape.TheVariants.{Basic as Plain, Variant, Array, Maybe, Tuple, Entry}
use Rattle.gv_core.specs.Node.{seen, capped}
use Rattle.gv_core.specs.declared.value.Value.{Value, Maybe as Maybe-of, the_lemmas}
use Rattle.std.proofs.Common.{Box, Global, ◌⊎◌, inl, inr, rules}
use Rattle.gv_core.specs.Tree.{view}
use Rattle.gv_core.specs.Gives.{Puts, with_table, views}
use Rattle.std.proofs.Common.{eqb}
use Rattle.std.proofs.lemmas.Bool.{false≢true}
use Rattle.gv_core.proofs.Steps.{longer}
use Rattle.gv_core.specs.Tree as t
use Rattle.gv_core.specs.declared.kind.Basic.{Basic}
use Rattle.gv_core.specs.Kind.{Kind, Kinds, basic, variant, array, maybe, tuple, entry, kind, no_kinds, variant_kind}
use Rattle.gv_core.specs.Tree.{Tree, Trees, Leaf, tree, no_trees}
use Rattle.gv_core.specs.Measure.{gap, alignment, fixed}
use Rattle.gv_core.specs.Layout.{Part, end_of, body, ends, parts, part, sized, just_of, offset_size, table, le, array_of, tuple_of, layout, rows, members}
use Rattle.gv_core.proofs.Offsets.{length-body}

-- what a member adds behind n bytes
abbrev pub padded : ℕ → Part → List ℕ
padded n p = replicate (gap p.align n) 0 ++ p.bytes

pub body_push : (ps : List Part) (n : ℕ) (p : Part) → body n (ps ++ p ∷ []) ≡ body n ps ++ padded (n + length (body n ps)) p
body_push [] n p =
    let z : n ≡ n + 0 = omega arith in
    ap (λ (x : List ℕ). replicate (gap p.align n) 0 ++ x) (append-nil p.bytes) ∙ ap (λ m. padded m p) z
body_push (q ∷ ps) n p =
    let e = end_of n q in
    let zs : List ℕ = replicate (gap q.align n) 0 in
    let last = n + length (body n (q ∷ ps)) in
    let at : e + length (body e ps) ≡ last = let h = length-body n q ps in omega arith in
    ap (λ (x : List ℕ). zs ++ (q.bytes ++ x)) (body_push ps e p ∙ ap (λ m. body e ps ++ padded m p) at)
    ∙ ap (λ (x : List ℕ). zs ++ x) (sym (append_assoc q.bytes (body e ps) (padded last p))) ∙ sym (append_assoc zs (q.bytes ++ body e ps) (padded last p))

pub ends_push : (ps : List Part) (n : ℕ) (p : Part) → ends n (ps ++ p ∷ []) ≡ ends n ps ++ (end_of (n + length (body n ps)) p) ∷ []
ends_push [] n p = let z : n ≡ n + 0 = omega arith in ap (λ m. end_of m p ∷ []) z
ends_push (q ∷ ps) n p =
    let e = end_of n q in
    let at : e + length (body e ps) ≡ n + length (body n (q ∷ ps)) = let h = length-body n q ps in omega arith in
    ap (λ (x : List ℕ). e ∷ x) (ends_push ps e p ∙ ap (λ m. ends e ps ++ (end_of m p) ∷ []) at)

pub parts_push : (a : ℕ) (f : Bool) (rs : List (List ℕ)) (r : List ℕ) → parts a f (rs ++ r ∷ []) ≡ parts a f rs ++ (record { align = a; fixed = f; bytes = r }) ∷ []
parts_push a f [] r = refl
parts_push a f (s ∷ rs) r = ap (λ (x : List Part). (record { align = a; fixed = f; bytes = s }) ∷ x) (parts_push a f rs r)

pub table_push : (s : ℕ) (es : List ℕ) (e : ℕ) → table s (es ++ e ∷ []) ≡ table s es ++ le s e
table_push s [] e = append-nil (le s e)
table_push s (d ∷ es) e = ap (λ (x : List ℕ). le s d ++ x) (table_push s es e) ∙ sym (append_assoc (le s d) (table s es) (le s e))

-- ---- what the loop over an array's elements keeps

-- one more in front, where there are any
abbrev pub with_first : {X : Type 0} → X → Option (List X) → Option (List X)
with_first x o = option_and_then (λ xs. Some (x ∷ xs)) o

pub record Rows (k : Kind) (f : Bool) (old out ending : List ℕ) (left total : Option (List (List ℕ))) : Type 0 where
  pub done : List (List ℕ)
  pub out_is : out ≡ old ++ body 0 (parts (alignment k) f done)
  pub ends_are : ending ≡ cond f [] (ends 0 (parts (alignment k) f done))
  pub total_is : option_map (λ rest. done ++ rest) left ≡ total

pub total_step : {X : Type 0} (done : List X) (x : X) (o : Option (List X)) → option_map (λ rest. done ++ rest) (with_first x o) ≡ option_map (λ rest. (done ++ x ∷ []) ++ rest) o
total_step done x None = refl
total_step done x (Some xs) = ap Some (sym (append_assoc done (x ∷ []) xs))

pub total_start : {X : Type 0} (o : Option (List X)) → option_map (λ rest. [] ++ rest) o ≡ o
total_start None = refl
total_start (Some xs) = refl

no_ends : (f : Bool) → let none : List ℕ = [] in none ≡ cond f [] (ends 0 [])
no_ends true = refl
no_ends false = refl

pub rows_init : (k : Kind) (f : Bool) (old ending : List ℕ) (left : Option (List (List ℕ))) → ending ≡ [] → Rows k f old old ending left left
rows_init k f old ending left e = record {
  done = [];
  out_is = sym (append-nil old);
  ends_are = e ∙ no_ends f;
  total_is = total_start left;
}

pub rows_next : (k : Kind) (f : Bool) (old out out2 ending ending2 : List ℕ) (left rest total : Option (List (List ℕ))) (r : List ℕ) → (inv : Rows k f old out ending left total) → left ≡ with_first r rest
    → out2 ≡ out ++ (replicate (gap (alignment k) (length out - length old)) 0 ++ r) → ending2 ≡ cond f [] (ending ++ (length out2 - length old) ∷ []) → Rows k f old out2 ending2 rest total
rows_next k f old out out2 ending ending2 left rest total r inv e oe ee =
    let a = alignment k in
    let B = body 0 (parts a f inv.done) in
    let p : Part = record { align = a; fixed = f; bytes = r } in
    let n : length out ≡ length old + length B = ap length inv.out_is ∙ length-append old B in
    let at : length out - length old ≡ length B = omega arith in
    let at0 : length out - length old ≡ 0 + length B = omega arith in
    let grown : body 0 (parts a f (inv.done ++ r ∷ [])) ≡ B ++ padded (0 + length B) p = ap (body 0) (parts_push a f inv.done r) ∙ body_push (parts a f inv.done) 0 p in
    let out_new : out2 ≡ old ++ body 0 (parts a f (inv.done ++ r ∷ [])) =
    oe ∙ ap₂ (λ (x : List ℕ) (m : ℕ). x ++ padded m p) inv.out_is at0 ∙ append_assoc old B (padded (0 + length B) p) ∙ ap (λ (x : List ℕ). old ++ x) (sym grown) in
    let pads : length (padded (0 + length B) p) ≡ gap a (0 + length B) + length r = length-append (replicate (gap a (0 + length B)) 0) r ∙ ap (λ x. x + length r) (length-replicate (gap a (0 + length B)) 0) in
    let size : length out2 - length old ≡ end_of (0 + length B) p =
    let l2 : length out2 ≡ length old + (length B + length (padded (0 + length B) p)) = ap length (out_new ∙ ap (λ (x : List ℕ). old ++ x) grown) ∙ length-append old (B ++ padded (0 + length B) p) ∙ ap (λ x. length old + x) (length-append B (padded (0 + length B) p)) in
    omega arith in
    let es : ends 0 (parts a f (inv.done ++ r ∷ [])) ≡ ends 0 (parts a f inv.done) ++ (end_of (0 + length B) p) ∷ [] = ap (ends 0) (parts_push a f inv.done r) ∙ ends_push (parts a f inv.done) 0 p in
    let both : (b : Bool) → cond b [] (cond b [] (ends 0 (parts a f inv.done)) ++ (end_of (0 + length B) p) ∷ []) ≡ cond b [] (ends 0 (parts a f (inv.done ++ r ∷ []))) =
    λ b. elim b as (λ b. cond b [] (cond b [] (ends 0 (parts a f inv.done)) ++ (end_of (0 + length B) p) ∷ []) ≡ cond b [] (ends 0 (parts a f (inv.done ++ r ∷ [])))) [ true ↦ refl | false ↦ sym es ] in
    record {
      done = inv.done ++ r ∷ [];
      out_is = out_new;
      ends_are = ee ∙ ap₂ (λ (x : List ℕ) (m : ℕ). cond f [] (x ++ m ∷ [])) inv.ends_are size ∙ both f;
      total_is = sym (total_step inv.done r rest) ∙ ap (option_map (λ x. inv.done ++ x)) (sym e) ∙ inv.total_is;
    }

-- ---- the writer's exits

pub ends_fix : (f : Bool) (ending ending2 xs : List ℕ) (m : ℕ) → ending ≡ cond f [] xs → ending2 ≡ cond f ending (ending ++ m ∷ []) → ending2 ≡ cond f [] (ending ++ m ∷ [])
ends_fix true ending ending2 xs m e g = g ∙ e
ends_fix false ending ending2 xs m e g = g

pub total_none : {X : Type 0} (done : List X) (left total : Option (List X)) → option_map (λ rest. done ++ rest) left ≡ total → left ≡ None → total ≡ None
total_none done left total e h = sym e ∙ ap (option_map (λ rest. done ++ rest)) h

pub total_end : {X : Type 0} (done : List X) (left total : Option (List X)) → option_map (λ rest. done ++ rest) left ≡ total → left ≡ Some [] → total ≡ Some done
total_end done left total e h = sym e ∙ ap (option_map (λ rest. done ++ rest)) h ∙ ap Some (append-nil done)

pub rows_first : (v : Tree) (ts : Trees) (k : Kind) (r : List ℕ) → layout v k ≡ Some r → rows (tree v ts) k ≡ with_first r (rows ts k)
unfolding layout
rows_first v ts k r e = ap (option_and_then (λ r. with_first r (rows ts k))) e

pub rows_first_none : (v : Tree) (ts : Trees) (k : Kind) → layout v k ≡ None → rows (tree v ts) k ≡ None
unfolding layout
rows_first_none v ts k e = ap (option_and_then (λ r. with_first r (rows ts k))) e

pub rows_nil : (k : Kind) → rows no_trees k ≡ Some []
unfolding layout
rows_nil k = refl

pub length-ends : (a : ℕ) (f : Bool) (n : ℕ) (rs : List (List ℕ)) → length (ends n (parts a f rs)) ≡ length rs
length-ends a f n [] = refl
length-ends a f n (r ∷ rs) = ap suc (length-ends a f (end_of n (record { align = a; fixed = f; bytes = r })) rs)

-- what an array of these elements is, where f says whether their size is fixed
abbrev pub array_with : Bool → Kind → List (List ℕ) → Option (List ℕ)
array_with f k rs =
    let ps = parts (alignment k) f rs in
    cond f (sized (body 0 ps)) (option_and_then (λ s. Some (body 0 ps ++ table s (ends 0 ps))) (offset_size (length (body 0 ps)) (length rs)))

finished : (f : Bool) (k : Kind) (ending : List ℕ) (done : List (List ℕ)) → ending ≡ cond f [] (ends 0 (parts (alignment k) f done))
    → cond f (sized (body 0 (parts (alignment k) f done))) (with_table (body 0 (parts (alignment k) f done)) ending) ≡ array_with f k done
finished true k ending done e = refl
finished false k ending done e =
    ap (with_table (body 0 (parts (alignment k) false done))) e
    ∙ ap (λ m. option_and_then (λ s. Some (body 0 (parts (alignment k) false done) ++ table s (ends 0 (parts (alignment k) false done)))) (offset_size (length (body 0 (parts (alignment k) false done))) m)) (length-ends (alignment k) false 0 done)

pub rows_end : (k : Kind) (old out ending : List ℕ) (left total : Option (List (List ℕ))) → (inv : Rows k (is_some (fixed k)) old out ending left total) → left ≡ Some []
    → cond (is_some (fixed k)) (sized (body 0 (parts (alignment k) (is_some (fixed k)) inv.done))) (with_table (body 0 (parts (alignment k) (is_some (fixed k)) inv.done)) ending) ≡ option_and_then (array_of k) total
rows_end k old out ending left total inv e = finished (is_some (fixed k)) k ending inv.done inv.ends_are ∙ ap (option_and_then (array_of k)) (sym (total_end inv.done left total inv.total_is e))

pub put_array_is : (v : Tree) (ts : Trees) (j k : Kind) → v ≡ t.array ts → j ≡ array k → layout v j ≡ option_and_then (array_of k) (rows ts k)
unfolding layout
put_array_is v ts j k e f = ap₂ layout e f

pub not_array : (v : Tree) (ts : Trees) (s : Shape) (k : Kind) → v ≡ t.array ts → seen s ≡ k → ((b : _) → s ≡ Array b → ⊥) → layout v k ≡ None
unfolding layout
not_array v ts (Plain x) k e g h = ap₂ layout e (sym g)
not_array v ts Variant k e g h = ap₂ layout e (sym g)
not_array v ts (Array b) k e g h = absurd (h b refl)
not_array v ts (Maybe b) k e g h = ap₂ layout e (sym g)
not_array v ts (Tuple b) k e g h = ap₂ layout e (sym g)
not_array v ts (Entry x b) k e g h = ap₂ layout e (sym g)

pub not_tuple : (v : Tree) (ts : Trees) (s : Shape) (k : Kind) → v ≡ t.tuple ts → seen s ≡ k → ((b : _) → s ≡ Tuple b → ⊥) → layout v k ≡ None
unfolding layout
not_tuple v ts (Plain x) k e g h = ap₂ layout e (sym g)
not_tuple v ts Variant k e g h = ap₂ layout e (sym g)
not_tuple v ts (Array b) k e g h = ap₂ layout e (sym g)
not_tuple v ts (Maybe b) k e g h = ap₂ layout e (sym g)
not_tuple v ts (Tuple b) k e g h = absurd (h b refl)
not_tuple v ts (Entry x b) k e g h = ap₂ layout e (sym g)

pub not_entry : (v : Tree) (x y : Tree) (s : Shape) (k : Kind) → v ≡ t.entry x y → seen s ≡ k → ((z : _) (b : _) → s ≡ Entry z b → ⊥) → layout v k ≡ None
unfolding layout
not_entry v x y (Plain z) k e g h = ap₂ layout e (sym g)
not_entry v x y Variant k e g h = ap₂ layout e (sym g)
not_entry v x y (Array b) k e g h = ap₂ layout e (sym g)
not_entry v x y (Maybe b) k e g h = ap₂ layout e (sym g)
not_entry v x y (Tuple b) k e g h = ap₂ layout e (sym g)
not_entry v x y (Entry z b) k e g h = absurd (h z b refl)

pub not_nothing : (v : Tree) (s : Shape) (k : Kind) → v ≡ t.nothing → seen s ≡ k → ((b : _) → s ≡ Maybe b → ⊥) → layout v k ≡ None
unfolding layout
not_nothing v (Plain x) k e g h = ap₂ layout e (sym g)
not_nothing v Variant k e g h = ap₂ layout e (sym g)
not_nothing v (Array b) k e g h = ap₂ layout e (sym g)
not_nothing v (Maybe b) k e g h = absurd (h b refl)
not_nothing v (Tuple b) k e g h = ap₂ layout e (sym g)
not_nothing v (Entry x b) k e g h = ap₂ layout e (sym g)

pub not_just : (v : Tree) (y : Tree) (s : Shape) (k : Kind) → v ≡ t.just y → seen s ≡ k → ((b : _) → s ≡ Maybe b → ⊥) → layout v k ≡ None
unfolding layout
not_just v y (Plain x) k e g h = ap₂ layout e (sym g)
not_just v y Variant k e g h = ap₂ layout e (sym g)
not_just v y (Array b) k e g h = ap₂ layout e (sym g)
not_just v y (Maybe b) k e g h = absurd (h b refl)
not_just v y (Tuple b) k e g h = ap₂ layout e (sym g)
not_just v y (Entry x b) k e g h = ap₂ layout e (sym g)

pub not_variant : (v : Tree) (w : List ℕ) (y : Tree) (s : Shape) (k : Kind) → v ≡ t.variant w y → seen s ≡ k → (s ≡ Variant → ⊥) → layout v k ≡ None
unfolding layout
not_variant v w y (Plain x) k e g h = ap₂ layout e (sym g)
not_variant v w y Variant k e g h = absurd (h refl)
not_variant v w y (Array b) k e g h = ap₂ layout e (sym g)
not_variant v w y (Maybe b) k e g h = ap₂ layout e (sym g)
not_variant v w y (Tuple b) k e g h = ap₂ layout e (sym g)
not_variant v w y (Entry x b) k e g h = ap₂ layout e (sym g)

pub not_leaf : (v : Tree) (y : Leaf) (s : Shape) (k : Kind) → v ≡ t.leaf y → seen s ≡ k → ((b : _) → s ≡ Plain b → ⊥) → layout v k ≡ None
unfolding layout
not_leaf v y (Plain x) k e g h = absurd (h x refl)
not_leaf v y Variant k e g h = ap₂ layout e (sym g)
not_leaf v y (Array b) k e g h = ap₂ layout e (sym g)
not_leaf v y (Maybe b) k e g h = ap₂ layout e (sym g)
not_leaf v y (Tuple b) k e g h = ap₂ layout e (sym g)
not_leaf v y (Entry x b) k e g h = ap₂ layout e (sym g)

pub puts_true : (b : Bool) (old new : List ℕ) (laid : Option (List ℕ)) → b ≡ true → Puts old new (Ok b) laid → (r : List ℕ) × (laid ≡ Some r) × (new ≡ old ++ r)
puts_true true old new laid e h = h
puts_true false old new laid e h = absurd cc

pub puts_false : (b : Bool) (old new : List ℕ) (laid : Option (List ℕ)) → b ≡ false → Puts old new (Ok b) laid → laid ≡ None
puts_false true old new laid e h = absurd cc
puts_false false old new laid e h = h

pub still_some : (o : Option ℕ) → is_some (option_map capped o) ≡ is_some o
still_some None = refl
still_some (Some n) = refl

-- ---- the layouts that the writer's parts put

pub tuple_is : (v : Tree) (ts : Trees) (j : Kind) (ks : Kinds) → v ≡ t.tuple ts → j ≡ tuple ks → layout v j ≡ option_and_then tuple_of (members ts ks)
unfolding layout
tuple_is v ts j ks e f = ap₂ layout e f

pair_members : (o p : Option (List ℕ)) (x : Basic) (k : Kind)
    → option_and_then (λ r. option_and_then (λ q. tuple_of (part (basic x) r ∷ part k q ∷ [])) p) o
    ≡ option_and_then tuple_of (option_and_then (λ r. option_and_then (λ ps. Some (part (basic x) r ∷ ps)) (option_and_then (λ q. option_and_then (λ ps. Some (part k q ∷ ps)) (Some [])) p)) o)
pair_members None p x k = refl
pair_members (Some r) None x k = refl
pair_members (Some r) (Some q) x k = refl

pub entry_is : (v y z : Tree) (j : Kind) (x : Basic) (k : Kind) → v ≡ t.entry y z → j ≡ entry x k → layout v j ≡ option_and_then tuple_of (members (tree y (tree z no_trees)) (kind (basic x) (kind k no_kinds)))
unfolding layout
entry_is v y z j x k e f = ap₂ layout e f ∙ pair_members (layout y (basic x)) (layout z k) x k

pub nothing_is : (v : Tree) (j k : Kind) → v ≡ t.nothing → j ≡ maybe k → layout v j ≡ Some []
unfolding layout
nothing_is v j k e f = ap₂ layout e f

pub just_is : (v y : Tree) (j k : Kind) → v ≡ t.just y → j ≡ maybe k → layout v j ≡ option_and_then (λ r. sized (just_of (is_some (fixed k)) r)) (layout y k)
unfolding layout
just_is v y j k e f = ap₂ layout e f

pub variant_is : (v y : Tree) (s : List ℕ) (j : Kind) → v ≡ t.variant s y → j ≡ variant → layout v j ≡ option_and_then (λ e. option_and_then (λ r. sized (r ++ 0 ∷ s)) (layout y e)) (variant_kind s)
unfolding layout
variant_is v y s j e f = ap₂ layout e f

pub unit_refused : (vs : List Value) → eqb (length vs) 0 ≡ false → option_and_then tuple_of (members (views vs) no_kinds) ≡ None
unfolding layout
unit_refused [] e = absurd cc
unit_refused (v ∷ vs) e = refl

pub unit_put : (vs : List Value) → eqb (length vs) 0 ≡ true → option_and_then tuple_of (members (views vs) no_kinds) ≡ Some (0 ∷ [])
unfolding layout
unit_put [] e = refl
unit_put (v ∷ vs) e = absurd (false≢true (sym (longer (length vs)) ∙ e))

seen_maybe : (o : Option (Box Value Global)) → (view (Maybe-of o) ≡ t.nothing) ⊎ ((x : Tree) × (view (Maybe-of o) ≡ t.just x))
seen_maybe None = inl (search (rules, the_lemmas))
seen_maybe (Some b) = inr (view b.value, search (rules, the_lemmas))

pub not_maybe : (o : Option (Box Value Global)) (s : Shape) (k : Kind) → seen s ≡ k → ((b : _) → s ≡ Maybe b → ⊥) → layout (view (Maybe-of o)) k ≡ None
not_maybe o s k g h = elim (seen_maybe o) [
  | inl e ↦ not_nothing _ s k e g h
  | inr e ↦ not_just _ e.0 s k e.1 g h
]
