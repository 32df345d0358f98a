-- What a change of the map leaves at each name.
use Rattle.std.proofs.Common.{◌≡◌, ◌≢◌, ◌<◌, ◌≤◌, ◌+◌, ◌-◌, arith, drop, length, slice_index_or, ℕ, Bool, true, false, if◌then◌else◌, refl, sym, ◌∙◌, ap, List, ◌∷◌, Option, Some, None, IsSome}
use Rattle.std.specs.BTreeMap.{BTreeMap, Updates, get}
use Rattle.std.specs.Ordering.{nat_cmp}
use Rattle.std.specs.Option.{is_some}
use Rattle.std.specs.declared.cmp.Ordering.{Ordering}
use Rattle.std.proofs.lemmas.List.{drop_more}
use Rattle.std.specs.Bool.{Decides}
use Rattle.std.specs.Cmp.Lexicographic.{slice_cmp, texts_ties}
use Rattle.ost_types.specs.Path.{same_name}
use Rattle.ost_types.proofs.Paths.{same_name-Decides}
use Rattle.rely_guarantee.specs.State.{State, RefOf, first, next_refs}
use Rattle.rely_guarantee.specs.declared.event.Event.{Event}
use Rattle.rely_guarantee.specs.declared.event.Event.TheVariants.{SetRef, DropRef}
use Rattle.ref_book.specs.Tracks.{Tracks, said, said_at}
use Rattle.ref_book.specs.declared.book.RefBook.{RefBook}

abbrev pub order : List ℕ → List ℕ → Ordering
order = slice_cmp nat_cmp

-- what a change at the name a leaves at any name b
pub updated : {V : Type 0} (a : List ℕ) (m n : BTreeMap (List ℕ) V) (w : Option V) → Updates order m n a w → (b : List ℕ) → get order n b ≡ (if same_name a b then w else get order m b)
updated a m n w h b = h.0 b ∙ ap (λ t. if t then w else get order m b) (sym (texts_ties a b))

pub some_there : {V : Type 0} (o : Option V) → o ≢ None → IsSome o
some_there None some = absurd (some refl)
some_there (Some v) some = refl

-- a value that says nothing takes the place of none
pub room_made : (old new : Option (Option (List ℕ))) (here : Bool) → (here ≡ true → old ≡ None) → new ≡ (if here then Some None else old) → said new ≡ said old
room_made old new true absent is = ap said is ∙ sym (ap said (absent refl))
room_made old new false absent is = ap said is

-- what the refs say when one more row stands before them
pub one_more : (name commit q : List ℕ) (rows : List (List ℕ × List ℕ)) (old new : Option (Option (List ℕ))) → said old ≡ first rows (RefOf q)
    → new ≡ (if same_name name q then Some (Some commit) else old) → said new ≡ first ((name, commit) ∷ rows) (RefOf q)
one_more name commit q rows old new was is = by (same_name name q) (same_name q name) (same_name-Decides name q) (same_name-Decides q name) is
  where
    by : (a b : Bool) → Decides a (name ≡ q) → Decides b (q ≡ name) → new ≡ (if a then Some (Some commit) else old) → said new ≡ (if b then Some commit else first rows (RefOf q))
    by true true d e h = ap said h
    by false false d e h = ap said h ∙ was
    by true false d e h = let z : false ≡ true = e.1 (sym (d.0 refl)) in cc
    by false true d e h = let z : false ≡ true = d.1 (sym (e.0 refl)) in cc

pub is_none : {V : Type 0} (o : Option V) (there : Bool) → there ≡ is_some o → there ≡ false → o ≡ None
is_none None there says not = refl
is_none (Some v) there says not = let z : true ≡ false = sym says ∙ not in cc

-- a list from one place earlier on
pub one_back : {X : Type 0} (xs : List X) (left : ℕ) (x : X) → 0 < left → left ≤ length xs → slice_index_or xs (left - 1) x ≡ x → drop (left - 1) xs ≡ x ∷ drop left xs
one_back xs left x some within is =
    let n : left - 1 + 1 ≡ left = omega (arith, some) in
    drop_more xs (left - 1) x (omega (arith, some, within)) ∙ ap (λ y. y ∷ drop (left - 1 + 1) xs) is ∙ ap (λ k. x ∷ drop k xs) n
