-- How the stack of the reader of type strings changes.
use Rattle.std.proofs.Common.{◌≡◌, ℕ, suc, ◌+◌, ◌<◌, ◌≤◌, min, max, Bool, true, false, List, [], ◌∷◌, ◌++◌, length, Option, Some, None, refl, sym, ap, ap₂, subst, ◌∙◌, append_assoc, arith}
use Rattle.std.specs.Prelude.{option_map, option_and_then}
use Rattle.std.specs.Prelude.{Result, Ok, Err, IfOk}
use Rattle.std.proofs.lemmas.List.{same_from_push, length-append, append-nil}
use Rattle.std.proofs.lemmas.Bool.{le-leb, lt-leb, leb-true, cond-true, cond-false}
use Rattle.std.proofs.Common.{cond, leb}
use Rattle.gv_core.specs.declared.fault.GvNoMemory.{GvNoMemory}
use Rattle.gv_core.specs.declared.kind.Basic.{Basic}
use Rattle.gv_core.specs.declared.kind.Shape.{Shape}
use Rattle.gv_core.specs.declared.kind.Shape.TheVariants as h
use Rattle.gv_core.specs.declared.type_string.Item.{Item as Entry}
use Rattle.gv_core.specs.declared.type_string.Item.TheVariants.{One, Round, Curly}
use Rattle.gv_core.specs.Kind.{Kind, Kinds, kind, no_kinds, basic, variant, array, maybe, tuple, entry, Item, one, round, curly, kind_depth, kinds_depth, top, wrap, wrapped, under_curly, gather, pair_up, items_at, read_letter, only, kind_of, variant_kind, good_depth}
use Rattle.gv_core.specs.Layout.{as_basic}
use Rattle.gv_core.specs.Node.{kinds_of, seen}
use Rattle.gv_core.specs.Stack.{Held, HeldAll, Stands, Stacked, Popped, PoppedCurly, Gathered, Reads}
use Rattle.gv_core.specs.TypeString.{IsTypeString}
use Rattle.gv_core.proofs.Letters.{spell_of}
use Rattle.gv_core.proofs.Sizes.{bind_some}

none_pushed : {X : Type 0} (xs : List X) (x : X) → xs ++ x ∷ [] ≡ [] → ⊥
none_pushed xs x e = let h : length xs + 1 ≡ 0 = sym (length-append xs (x ∷ [])) ∙ ap length e in omega arith

-- what lies under an entry
pub record Under (below : List Entry) (e : Entry) (st : List Item) : Type 0 where
  pub item : Item
  pub rest : List Item
  pub is : st ≡ item ∷ rest
  pub stands : Stands e item
  pub stacked : Stacked below rest

pub under : (st : List Item) (es below : List Entry) (e : Entry) → es ≡ below ++ e ∷ [] → Stacked es st → Under below e st
under [] es below e h s = absurd (none_pushed below e (sym h ∙ s))
under (i ∷ st) es below e h s =
    let q = same_from_push s.0 below s.1.0 e (sym s.1.1.0 ∙ h) in
    record { item = i; rest = st; is = refl; stands = subst (λ x. Stands x i) q.1 s.1.1.1.0; stacked = subst (λ x. Stacked x st) q.0 s.1.1.1.1 }

pub stacked_nil : (st : List Item) (es : List Entry) → es ≡ [] → Stacked es st → st ≡ []
stacked_nil [] es e s = refl
stacked_nil (i ∷ st) es e s = absurd (none_pushed s.0 s.1.0 (sym s.1.1.0 ∙ e))

pub stacked_push : (st : List Item) (es es2 : List Entry) (e : Entry) (i : Item) → Stacked es st → Stands e i → es2 ≡ es ++ e ∷ [] → Stacked es2 (i ∷ st)
stacked_push st es es2 e i s h p = (es, (e, (p, (h, s))))

-- an entry that is a kind
pub record UnderOne (below : List Entry) (n : Kind) (d : ℕ) (st : List Item) : Type 0 where
  pub kind : Kind
  pub rest : List Item
  pub is : st ≡ one kind ∷ rest
  pub held : Held n d kind
  pub stacked : Stacked below rest

one_under : (i : Item) (rest st : List Item) (below : List Entry) (n : Kind) (d : ℕ) → st ≡ i ∷ rest → Stands (One n d) i → Stacked below rest → UnderOne below n d st
one_under (one k) rest st below n d e h s = record { kind = k; rest = rest; is = e; held = h; stacked = s }
one_under round rest st below n d e h s = absurd h
one_under curly rest st below n d e h s = absurd h

pub under_one : (st : List Item) (es below : List Entry) (n : Kind) (d : ℕ) → es ≡ below ++ One n d ∷ [] → Stacked es st → UnderOne below n d st
under_one st es below n d h s = let u = under st es below (One n d) h s in one_under u.item u.rest st below n d u.is u.stands u.stacked

round_is : (i : Item) → Stands Round i → i ≡ round
round_is (one k) h = absurd h
round_is round h = refl
round_is curly h = absurd h

curly_is : (i : Item) → Stands Curly i → i ≡ curly
curly_is (one k) h = absurd h
curly_is round h = absurd h
curly_is curly h = refl

pub record UnderRound (below : List Entry) (st : List Item) : Type 0 where
  pub rest : List Item
  pub is : st ≡ round ∷ rest
  pub stacked : Stacked below rest

pub under_round : (st : List Item) (es below : List Entry) → es ≡ below ++ Round ∷ [] → Stacked es st → UnderRound below st
under_round st es below h s = let u = under st es below Round h s in record { rest = u.rest; is = u.is ∙ ap (λ i. i ∷ u.rest) (round_is u.item u.stands); stacked = u.stacked }

pub record UnderCurly (below : List Entry) (st : List Item) : Type 0 where
  pub rest : List Item
  pub is : st ≡ curly ∷ rest
  pub stacked : Stacked below rest

pub under_curly_entry : (st : List Item) (es below : List Entry) → es ≡ below ++ Curly ∷ [] → Stacked es st → UnderCurly below st
under_curly_entry st es below h s = let u = under st es below Curly h s in record { rest = u.rest; is = u.is ∙ ap (λ i. i ∷ u.rest) (curly_is u.item u.stands); stacked = u.stacked }

-- ---- one entry is taken

pub popped_one : (st : List Item) (es below : List Entry) (n : Kind) (d : ℕ) → es ≡ below ++ One n d ∷ [] → Stacked es st → Popped (Some (n, d)) below (top st)
popped_one st es below n d h s = let u = under_one st es below n d h s in ((u.kind, u.rest), (ap top u.is, (u.held, u.stacked)))

pub top_round : (st : List Item) (es below : List Entry) → es ≡ below ++ Round ∷ [] → Stacked es st → top st ≡ None
top_round st es below h s = ap top (under_round st es below h s).is

pub top_curly : (st : List Item) (es below : List Entry) → es ≡ below ++ Curly ∷ [] → Stacked es st → top st ≡ None
top_curly st es below h s = ap top (under_curly_entry st es below h s).is

pub top_nil : (st : List Item) (es : List Entry) → es ≡ [] → Stacked es st → top st ≡ None
top_nil st es h s = ap top (stacked_nil st es h s)

pub popped_curly : (st : List Item) (es below : List Entry) → es ≡ below ++ Curly ∷ [] → Stacked es st → PoppedCurly true below (under_curly st)
popped_curly st es below h s = let u = under_curly_entry st es below h s in (u.rest, (ap under_curly u.is, u.stacked))

pub curly_one : (st : List Item) (es below : List Entry) (n : Kind) (d : ℕ) → es ≡ below ++ One n d ∷ [] → Stacked es st → under_curly st ≡ None
curly_one st es below n d h s = ap under_curly (under_one st es below n d h s).is

pub curly_round : (st : List Item) (es below : List Entry) → es ≡ below ++ Round ∷ [] → Stacked es st → under_curly st ≡ None
curly_round st es below h s = ap under_curly (under_round st es below h s).is

pub curly_nil : (st : List Item) (es : List Entry) → es ≡ [] → Stacked es st → under_curly st ≡ None
curly_nil st es h s = ap under_curly (stacked_nil st es h s)

-- ---- what a letter does, by its tops

pub wrap_top_is : (f : Kind → Kind) (st : List Item) (q : Kind × List Item) → top st ≡ Some q → wrap f st ≡ Some (one (f q.0) ∷ q.1)
wrap_top_is f [] q e = absurd cc
wrap_top_is f (one k ∷ st) q e = let h : (k, st) ≡ q = cc in ap (λ (p : Kind × List Item). Some (one (f p.0) ∷ p.1)) h
wrap_top_is f (round ∷ st) q e = absurd cc
wrap_top_is f (curly ∷ st) q e = absurd cc

pub wrap_none : (f : Kind → Kind) (st : List Item) → top st ≡ None → wrap f st ≡ None
wrap_none f [] e = refl
wrap_none f (one k ∷ st) e = absurd cc
wrap_none f (round ∷ st) e = refl
wrap_none f (curly ∷ st) e = refl

abbrev pub pair_tail : Basic → Kind → Option (List Item) → Option (List Item)
pair_tail x k None = None
pair_tail x k (Some st) = Some (one (entry x k) ∷ st)

abbrev pub pair_value : Basic → Option (Kind × List Item) → Option (List Item)
pair_value x None = None
pair_value x (Some q) = pair_tail x q.0 (under_curly q.1)

abbrev pub pair_key : List Item → Option Basic → Option (List Item)
pair_key st None = None
pair_key st (Some x) = pair_value x (top st)

abbrev pub pair_start : Option (Kind × List Item) → Option (List Item)
pair_start None = None
pair_start (Some q) = pair_key q.1 (as_basic q.0)

pub pair_is : (st : List Item) → pair_up st ≡ pair_start (top st)
pair_is [] = refl
pair_is (round ∷ st) = refl
pair_is (curly ∷ st) = refl
pair_is (one variant ∷ st) = refl
pair_is (one (array k) ∷ st) = refl
pair_is (one (maybe k) ∷ st) = refl
pair_is (one (tuple k) ∷ st) = refl
pair_is (one (entry x k) ∷ st) = refl
pair_is (one (basic x) ∷ []) = refl
pair_is (one (basic x) ∷ round ∷ st) = refl
pair_is (one (basic x) ∷ curly ∷ st) = refl
pair_is (one (basic x) ∷ one k ∷ []) = refl
pair_is (one (basic x) ∷ one k ∷ one j ∷ st) = refl
pair_is (one (basic x) ∷ one k ∷ round ∷ st) = refl
pair_is (one (basic x) ∷ one k ∷ curly ∷ st) = refl

pub only_none : (st : List Item) → top st ≡ None → only st ≡ None
only_none [] e = refl
only_none (one k ∷ st) e = absurd cc
only_none (round ∷ st) e = refl
only_none (curly ∷ st) e = refl

pub only_one : (st : List Item) (q : Kind × List Item) → top st ≡ Some q → q.1 ≡ [] → only st ≡ Some q.0
only_one [] q e h = absurd cc
only_one (one k ∷ []) q e h = let g : (k, []) ≡ q = cc in ap (λ (p : Kind × List Item). Some p.0) g
only_one (one k ∷ i ∷ st) q e h = let g : (k, i ∷ st) ≡ q = cc in let z : i ∷ st ≡ [] = ap (λ (p : Kind × List Item). p.1) g ∙ h in absurd (let w = z in cc)
only_one (round ∷ st) q e h = absurd cc
only_one (curly ∷ st) q e h = absurd cc

stacked_some : (st : List Item) (es : List Entry) → Stacked es st → (es ≡ [] → ⊥) → st ≡ [] → ⊥
stacked_some [] es s h e = h s
stacked_some (i ∷ st) es s h e = let z : i ∷ st ≡ [] = e in absurd (let w = z in cc)

pub only_many : (st : List Item) (q : Kind × List Item) (es : List Entry) → top st ≡ Some q → Stacked es q.1 → (es ≡ [] → ⊥) → only st ≡ None
only_many [] q es e s h = absurd cc
only_many (one k ∷ []) q es e s h = let g : (k, []) ≡ q = cc in absurd (stacked_some q.1 es s h (sym (ap (λ (p : Kind × List Item). p.1) g)))
only_many (one k ∷ i ∷ st) q es e s h = refl
only_many (round ∷ st) q es e s h = absurd cc
only_many (curly ∷ st) q es e s h = absurd cc

-- ---- depths

depth_wrapped : (b : Bool) (k : Kind) → kind_depth (wrapped b k) ≡ suc (kind_depth k)
depth_wrapped true k = refl
depth_wrapped false k = refl

pub held_wrapped : (b : Bool) (n m : Kind) (d : ℕ) (k : Kind) → Held n d k → d < 64 → m ≡ wrapped b n → Held m (d + 1) (wrapped b k)
held_wrapped b n m d k h lt e =
    let w = depth_wrapped b k in
    let hd = h.depth in
    record { depth = omega arith; kept = λ _. e ∙ ap (wrapped b) (h.kept (omega arith)) }

pub deep_wrapped : (b : Bool) (n m : Kind) (d : ℕ) (k : Kind) → Held n d k → 64 ≤ d → Held m 65 (wrapped b k)
deep_wrapped b n m d k h le =
    let w = depth_wrapped b k in
    let hd = h.depth in
    record { depth = omega arith; kept = λ (z : 65 ≤ 64). absurd (omega arith) }

pub held_tuple : (ns ks : List Kind) (d : ℕ) (m : Kind) → HeldAll ns d ks → d < 64 → m ≡ tuple (kinds_of ns) → Held m (d + 1) (tuple (kinds_of ks))
held_tuple ns ks d m h lt e =
    let hd = h.depth in
    record { depth = omega arith; kept = λ _. e ∙ ap (λ x. tuple (kinds_of x)) (h.kept (omega arith)) }

pub deep_tuple : (ns ks : List Kind) (d : ℕ) (m : Kind) → HeldAll ns d ks → 64 ≤ d → Held m 65 (tuple (kinds_of ks))
deep_tuple ns ks d m h le =
    let hd = h.depth in
    record { depth = omega arith; kept = λ (z : 65 ≤ 64). absurd (omega arith) }

pub held_entry : (x : Basic) (n m : Kind) (d : ℕ) (k : Kind) → Held n d k → d < 64 → m ≡ entry x n → Held m (d + 1) (entry x k)
held_entry x n m d k h lt e =
    let hd = h.depth in
    record { depth = omega arith; kept = λ _. e ∙ ap (entry x) (h.kept (omega arith)) }

pub deep_entry : (x : Basic) (n m : Kind) (d : ℕ) (k : Kind) → Held n d k → 64 ≤ d → Held m 65 (entry x k)
deep_entry x n m d k h le =
    let hd = h.depth in
    record { depth = omega arith; kept = λ (z : 65 ≤ 64). absurd (omega arith) }

basic_deep : (k : Kind) (d : ℕ) → 0 < d → d ≡ min (kind_depth k) 65 → as_basic k ≡ None
basic_deep (basic x) d lt h = absurd (omega arith)
basic_deep variant d lt h = refl
basic_deep (array k) d lt h = refl
basic_deep (maybe k) d lt h = refl
basic_deep (tuple ks) d lt h = refl
basic_deep (entry x k) d lt h = refl

pub key_deep : (n : Kind) (d : ℕ) (k : Kind) → Held n d k → 0 < d → as_basic k ≡ None
key_deep n d k h lt = basic_deep k d lt h.depth

pub key_basic : (x : Basic) (s : Shape) (n k : Kind) (d : ℕ) → Held n d k → d ≤ 0 → seen s ≡ n → s ≡ h.Basic x → as_basic k ≡ Some x
key_basic x s n k d held le e f = ap as_basic (sym (held.kept (omega arith)) ∙ sym e ∙ ap seen f)

basic_other : (s : Shape) → ((x : Basic) → s ≡ h.Basic x → ⊥) → as_basic (seen s) ≡ None
basic_other (h.Basic x) other = absurd (other x refl)
basic_other h.Variant other = refl
basic_other (h.Array k) other = refl
basic_other (h.Maybe k) other = refl
basic_other (h.Tuple k) other = refl
basic_other (h.Entry x k) other = refl

pub key_other : (s : Shape) (n k : Kind) (d : ℕ) → Held n d k → d ≤ 0 → seen s ≡ n → ((x : Basic) → s ≡ h.Basic x → ⊥) → as_basic k ≡ None
key_other s n k d held le e f = ap as_basic (sym (held.kept (omega arith)) ∙ sym e) ∙ basic_other s f

-- ---- members up to a closing bracket

abbrev pub prepend : List Kind → Kinds → Kinds
prepend [] ks = ks
prepend (k ∷ front) ks = kind k (prepend front ks)

abbrev pub prepended : List Kind → Option (Kinds × List Item) → Option (Kinds × List Item)
prepended front o = option_map (λ p. (prepend front p.0, p.1)) o

prepend_push : (front : List Kind) (k : Kind) (ks : Kinds) → prepend front (kind k ks) ≡ prepend (front ++ k ∷ []) ks
prepend_push [] k ks = refl
prepend_push (j ∷ front) k ks = ap (kind j) (prepend_push front k ks)

prepended_more : (front : List Kind) (k : Kind) (o : Option (Kinds × List Item)) → prepended front (option_map (λ p. (kind k p.0, p.1)) o) ≡ prepended (front ++ k ∷ []) o
prepended_more front k None = refl
prepended_more front k (Some p) = ap (λ ks. Some (ks, p.1)) (prepend_push front k p.0)

prepended_none : (o : Option (Kinds × List Item)) → o ≡ prepended [] o
prepended_none None = refl
prepended_none (Some p) = refl

prepend_end : (front : List Kind) → prepend front no_kinds ≡ kinds_of front
prepend_end [] = refl
prepend_end (k ∷ front) = ap (kind k) (prepend_end front)

depth_push : (ks : List Kind) (k : Kind) → kinds_depth (kinds_of (ks ++ k ∷ [])) ≡ max (kinds_depth (kinds_of ks)) (kind_depth k)
depth_push [] k = omega arith
depth_push (j ∷ ks) k = let ih = depth_push ks k in omega arith

pub record Gathering (ns : List Kind) (d : ℕ) (es : List Entry) (st : List Item) : Type 0 where
  pub done : List Kind
  pub left : List Item
  pub stacked : Stacked es left
  pub held : HeldAll ns d done
  pub gathers : gather st ≡ prepended done (gather left)

pub gathering_init : (ns : List Kind) (es : List Entry) (st : List Item) → ns ≡ [] → Stacked es st → Gathering ns 0 es st
gathering_init ns es st e s = record { done = []; left = st; stacked = s; held = record { depth = omega arith; kept = λ _. e }; gathers = prepended_none (gather st) }

pub gathering_next : (ns ns2 : List Kind) (d d2 : ℕ) (es below : List Entry) (n : Kind) (m : ℕ) (st : List Item) → Gathering ns d es st → es ≡ below ++ One n m ∷ [] → ns2 ≡ ns ++ n ∷ [] → d2 ≡ max d m → Gathering ns2 d2 below st
gathering_next ns ns2 d d2 es below n m st g h e f =
    let u = under_one g.left es below n m h g.stacked in
    let hd = g.held.depth in
    let kd = u.held.depth in
    let pd = depth_push g.done u.kind in
    record {
      done = g.done ++ u.kind ∷ [];
      left = u.rest;
      stacked = u.stacked;
      held = record {
        depth = omega arith;
        kept = λ z. e ∙ ap₂ (λ (x : List Kind) (y : Kind). x ++ y ∷ []) (g.held.kept (omega arith)) (u.held.kept (omega arith));
      };
      gathers = g.gathers ∙ ap (λ x. prepended g.done (gather x)) u.is ∙ prepended_more g.done u.kind (gather u.rest);
    }

pub gathered : (ns : List Kind) (d : ℕ) (es below : List Entry) (st : List Item) → Gathering ns d es st → es ≡ below ++ Round ∷ [] → Gathered (Some (ns, d)) below (gather st)
gathered ns d es below st g h =
    let u = under_round g.left es below h g.stacked in
    (g.done, (u.rest, (g.gathers ∙ ap (λ x. prepended g.done (gather x)) u.is ∙ ap (λ ks. Some (ks, u.rest)) (prepend_end g.done), (g.held, u.stacked))))

pub gather_curly : (ns : List Kind) (d : ℕ) (es below : List Entry) (st : List Item) → Gathering ns d es st → es ≡ below ++ Curly ∷ [] → gather st ≡ None
gather_curly ns d es below st g h = let u = under_curly_entry g.left es below h g.stacked in g.gathers ∙ ap (λ x. prepended g.done (gather x)) u.is

pub gather_nil : (ns : List Kind) (d : ℕ) (es : List Entry) (st : List Item) → Gathering ns d es st → es ≡ [] → gather st ≡ None
gather_nil ns d es st g h = g.gathers ∙ ap (λ x. prepended g.done (gather x)) (stacked_nil g.left es h g.stacked)

-- ---- the loop over the letters

pub record Reading (text left : List ℕ) (es : List Entry) : Type 0 where
  pub behind : List ℕ
  pub items : List Item
  pub split : text ≡ left ++ behind
  pub reads : items_at behind ≡ Some items
  pub stacked : Stacked es items

pub reading_init : (text left : List ℕ) (es : List Entry) → left ≡ text → es ≡ [] → Reading text left es
unfolding items_at
reading_init text left es e h = record { behind = []; items = []; split = sym e ∙ sym (append-nil left); reads = refl; stacked = h }

pub reading_next : (text left rest : List ℕ) (c : ℕ) (es es2 : List Entry) (inv : Reading text left es) (st : List Item) → left ≡ rest ++ c ∷ [] → read_letter c inv.items ≡ Some st → Stacked es2 st → Reading text rest es2
unfolding items_at
reading_next text left rest c es es2 inv st e r s = record {
  behind = c ∷ inv.behind;
  items = st;
  split = inv.split ∙ ap (λ (x : List ℕ). x ++ inv.behind) e ∙ append_assoc rest (c ∷ []) inv.behind;
  reads = ap (option_and_then (read_letter c)) inv.reads ∙ r;
  stacked = s;
}

items_none : (front behind : List ℕ) → items_at behind ≡ None → items_at (front ++ behind) ≡ None
unfolding items_at
items_none [] behind e = e
items_none (c ∷ front) behind e = ap (option_and_then (read_letter c)) (items_none front behind e)

pub reading_fails : (text left rest : List ℕ) (c : ℕ) (es : List Entry) (inv : Reading text left es) → left ≡ rest ++ c ∷ [] → read_letter c inv.items ≡ None → kind_of text ≡ None
unfolding items_at kind_of
reading_fails text left rest c es inv e r =
    let none : items_at (c ∷ inv.behind) ≡ None = ap (option_and_then (read_letter c)) inv.reads ∙ r in
    let split : text ≡ rest ++ (c ∷ inv.behind) = inv.split ∙ ap (λ (x : List ℕ). x ++ inv.behind) e ∙ append_assoc rest (c ∷ []) inv.behind in
    ap (option_and_then only) (ap items_at split ∙ items_none rest (c ∷ inv.behind) none)

pub reading_end : (text left : List ℕ) (es : List Entry) (inv : Reading text left es) → left ≡ [] → kind_of text ≡ only inv.items
unfolding items_at kind_of
reading_end text left es inv e = ap (option_and_then only) (ap items_at (inv.split ∙ ap (λ (x : List ℕ). x ++ inv.behind) e) ∙ inv.reads)

-- ---- exits

pub reads_true : (b : Bool) (es : List Entry) (found : Option (List Item)) → b ≡ true → Reads (Ok b) es found → (st : List Item) × ((found ≡ Some st) × Stacked es st)
reads_true true es found e r = r
reads_true false es found e r = absurd cc

pub reads_false : (b : Bool) (es : List Entry) (found : Option (List Item)) → b ≡ false → Reads (Ok b) es found → found ≡ None
reads_false true es found e r = absurd cc
reads_false false es found e r = r

pub pushed : (r : Result Bool GvNoMemory) (es es2 : List Entry) (e : Entry) (i : Item) (st : List Item) (found : Option (List Item)) → IfOk r (λ b. (b ≡ true) × (es2 ≡ es ++ e ∷ [])) → found ≡ Some (i ∷ st) → Stands e i → Stacked es st → Reads r es2 found
pushed (Ok true) es es2 e i st found p f h s = (i ∷ st, (f, stacked_push st es es2 e i s h p.1))
pushed (Ok false) es es2 e i st found p f h s = absurd (let z = p.0 in cc)
pushed (Err x) es es2 e i st found p f h s = tt

good_then : (b : Bool) (k j : Kind) → cond b (Some k) None ≡ Some j → (b ≡ true) × (k ≡ j)
good_then true k j e = (refl, let z : k ≡ j = cc in z)
good_then false k j e = absurd cc

pub is_type_string : (text : List ℕ) (k : Kind) → variant_kind text ≡ Some k → IsTypeString text
unfolding variant_kind
is_type_string text k e =
    let p = bind_some (kind_of text) good_depth k e in
    (p.0, (spell_of text p.0 p.1, leb-true _ _ (good_then (leb (kind_depth p.0) 64) p.0 k p.2).0))

pub held_kind : (text : List ℕ) (k n : Kind) (d : ℕ) → kind_of text ≡ Some k → Held n d k → d ≤ 64 → variant_kind text ≡ Some n
unfolding variant_kind
held_kind text k n d e h le =
    let hd = h.depth in
    let small : kind_depth k ≤ 64 = omega arith in
    ap (option_and_then good_depth) e ∙ cond-true _ _ _ (le-leb _ _ small) ∙ ap Some (sym (h.kept le))

pub deep_kind : (text : List ℕ) (k : Kind) → kind_of text ≡ Some k → 64 < kind_depth k → variant_kind text ≡ None
unfolding variant_kind
deep_kind text k e lt = ap (option_and_then good_depth) e ∙ cond-false _ _ _ (lt-leb _ _ lt)

pub bad_kind : (text : List ℕ) → kind_of text ≡ None → variant_kind text ≡ None
unfolding variant_kind
bad_kind text e = ap (option_and_then good_depth) e
