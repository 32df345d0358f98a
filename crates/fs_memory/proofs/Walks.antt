-- The way to the last name, a name at a time.
use Rattle.std.proofs.Common.{◌≡◌, ℕ, zero, suc, ◌+◌, ◌<◌, ◌≤◌, refl, sym, ◌∙◌, ap, subst, List, [], ◌∷◌, ◌++◌, length, take, drop, get_or, arith, add-one, length-append, take-append-drop, length-drop, Option, Some, None, Result, Ok, Err, Bool, true, false}
use Rattle.std.proofs.Math.Seq.{drop-cons, take-suc, take-append_seam}
use Rattle.ost_types.specs.Path.{Path, AreNames}
use Rattle.ost_types.specs.Flat.{flat}
use Rattle.ost_types.proofs.Flats.{flat-append}
use Rattle.places.proofs.Fills.{flat-next}
use Rattle.fs_trait.specs.declared.types.FsErr.{FsErr}
use Rattle.fs_trait.specs.View.{Disk}
use Rattle.fs_trait.specs.declared.types.FsErr.TheVariants.{Failed, Exists, Missing, NotFolder, NotEmpty, NoMemory}
use Rattle.fs_trait.specs.declared.types.Value.{Value}
use Rattle.fs_trait.specs.Effect.{way, way_from, or_else, no_way, no_new, no_leaf, no_move, no_link, if_folder}
use Rattle.memory_record.specs.Answer.{Refuses, IsAnswer}

pub walk_step : (d : Disk) (p : Path) (i : ℕ) → i + 1 < length p → way_from d (take i p) (drop i p) ≡ or_else (no_way (d.at (take (i + 1) p))) (way_from d (take (i + 1) p) (drop (i + 1) p))
unfolding way_from
walk_step d p i h =
    let a : drop i p ≡ get_or p i [] ∷ drop (suc i) p = drop-cons p i [] (omega arith) in
    let b : drop (suc i) p ≡ get_or p (suc i) [] ∷ drop (suc (suc i)) p = drop-cons p (suc i) [] (omega arith) in
    let t : take (suc i) p ≡ take i p ++ get_or p i [] ∷ [] = take-suc p i [] (omega arith) in
    rw (add-one, a, b, t) refl

pub walk_end : (d : Disk) (p : Path) (i : ℕ) → length p ≤ i + 1 → way_from d (take i p) (drop i p) ≡ None
unfolding way_from
walk_end d p i h = short (take i p) (drop i p) (omega (arith, length-drop i p))
  where
    short : (f rest : Path) → length rest ≤ 1 → way_from d f rest ≡ None
    short f [] h = refl
    short f (x ∷ []) h = refl
    short f (x ∷ y ∷ rest) h = absurd (omega arith)

-- a refusal on the way is the call's
pub Refuses-later : (l : Bool) (a b : Option FsErr) (e : FsErr) → Refuses l a e → Refuses l (or_else a b) e
Refuses-later l a b Failed r = r
Refuses-later l a b NoMemory r = r
Refuses-later l a b Exists r = rw r refl
Refuses-later l a b Missing r = rw r refl
Refuses-later l a b NotFolder r = rw r refl
Refuses-later l a b NotEmpty r = rw r refl

-- after a way that is free the last name answers
pub answers : {T : Type 0} (l : Bool) (a b c : Option FsErr) (P Q : T → Type 0) (r : Result T FsErr) → a ≡ None → b ≡ c → ((x : T) → P x → Q x) → IsAnswer l b P r → IsAnswer l (or_else a c) Q r
answers l a b c P Q (Ok x) free is same (none, holds) = (rw free (sym is ∙ none), same x holds)
answers l a b c P Q (Err e) free is same refused = rw (free, ← is) refused

module _ (d : Disk) (p : Path) (i : ℕ) (h : i + 1 < length p) (so_far : way d p ≡ way_from d (take i p) (drop i p)) (x : Value) (is : x ≡ d.at (take (i + 1) p)) where
  stops : (e : FsErr) → no_way x ≡ Some e → way d p ≡ Some e
  stops e stop = so_far ∙ walk_step d p i h ∙ rw (← is, stop) refl

  pub walk_stops : (e : FsErr) → Refuses false (no_way x) e → Refuses false (way d p) e
  walk_stops Failed r = r
  walk_stops NoMemory r = r
  walk_stops Exists r = stops Exists r
  walk_stops Missing r = stops Missing r
  walk_stops NotFolder r = stops NotFolder r
  walk_stops NotEmpty r = stops NotEmpty r

  pub walk_goes_on : no_way x ≡ None → way d p ≡ way_from d (take (i + 1) p) (drop (i + 1) p)
  walk_goes_on free = so_far ∙ walk_step d p i h ∙ rw (← is, free) refl

front : (t : List ℕ) (p : Path) (i e : ℕ) → t ≡ flat p → e ≡ length (flat (take i p)) → take e t ≡ flat (take i p)
front t p i e is n =
    let w : t ≡ flat (take i p) ++ flat (drop i p) = is ∙ ap flat (sym (take-append-drop i p)) ∙ flat-append (take i p) (drop i p) in
    rw (w, n) (take-append_seam (flat (take i p)) (flat (drop i p)))

end_next : (p : Path) (i : ℕ) (x : List ℕ) → i < length p → x ≡ get_or p i x → length (flat (take (i + 1) p)) ≡ length (flat (take i p)) + (length x + 1)
end_next p i x h is =
    let a : length (flat (take i p) ++ (x ++ 0 ∷ [])) ≡ length (flat (take i p)) + length (x ++ 0 ∷ []) = length-append (flat (take i p)) (x ++ 0 ∷ []) in
    let b : length (x ++ 0 ∷ []) ≡ length x + 1 = length-append x (0 ∷ []) in
    ap length (flat-next p i x h is) ∙ a ∙ omega (arith, b)

-- as far as the text reaches
reaches : (t : List ℕ) (p : Path) (i : ℕ) → t ≡ flat p → length (flat (take i p)) ≤ length t
reaches t p i is =
    let w : length t ≡ length (flat (take i p) ++ flat (drop i p)) = ap length (is ∙ ap flat (sym (take-append-drop i p)) ∙ flat-append (take i p) (drop i p)) in
    let a = length-append (flat (take i p)) (flat (drop i p)) in
    omega (arith, w, a)

-- the first names of a path are names
pub AreNames-take : (p : Path) (i : ℕ) → AreNames p → AreNames (take i p)
AreNames-take p zero names = tt
AreNames-take [] (suc i) names = tt
AreNames-take (x ∷ p) (suc i) names = (names.0, AreNames-take p i names.1)

-- one name further in the text
module _ (p n : Path) (t : List ℕ) (i e : ℕ) (x s : List ℕ) (np : n ≡ p) (tp : t ≡ flat p) (h : i + 1 < length n) (is : x ≡ get_or n i x) (sx : s ≡ x) (stop : e ≡ length (flat (take i p))) where
  pub low : i + 1 < length p
  low = subst (λ q. i + 1 < length q) np h

  pub stop_at : e + (length s + 1) ≡ length (flat (take (i + 1) p))
  stop_at =
      let a : length (flat (take (i + 1) p)) ≡ length (flat (take i p)) + (length x + 1) = end_next p i x (let l = low in omega (arith, l)) (subst (λ q. x ≡ get_or q i x) np is) in
      let b : length s ≡ length x = ap length sx in
      omega (arith, a, b, stop)

  pub stop_fits : e + (length s + 1) ≤ length t
  stop_fits = rw stop_at (reaches t p (i + 1) tp)

  pub stop_text : take (e + (length s + 1)) t ≡ flat (take (i + 1) p)
  stop_text = front t p (i + 1) (e + (length s + 1)) tp stop_at

pub no_text : 0 ≡ length (flat [])
unfolding flat
no_text = refl

-- a look that needs no memory, and the place that it needs
pub weaker : (b : Bool) (r : Option FsErr) (e : FsErr) → Refuses false r e → Refuses b r e
weaker b r Failed h = h
weaker b r NoMemory h = let n : false ≡ true = h in cc
weaker b r Exists h = h
weaker b r Missing h = h
weaker b r NotFolder h = h
weaker b r NotEmpty h = h

pub no_move-from : (from to : Path) (d : Disk) (e : FsErr) → Refuses false (no_leaf from d) e → Refuses false (no_move from to d) e
unfolding no_move
no_move-from from to d e r = Refuses-later false _ _ e r

pub no_move-to : (from to : Path) (d : Disk) (e : FsErr) → no_leaf from d ≡ None → Refuses false (or_else (way d to) (if_folder (d.at to))) e → Refuses false (no_move from to d) e
unfolding no_move
no_move-to from to d e free r = rw free r

pub no_move-none : (from to : Path) (d : Disk) → no_leaf from d ≡ None → or_else (way d to) (if_folder (d.at to)) ≡ None → no_move from to d ≡ None
unfolding no_move
no_move-none from to d free r = rw free r

pub no_link-from : (from to : Path) (d : Disk) (e : FsErr) → Refuses false (no_leaf from d) e → Refuses false (no_link from to d) e
unfolding no_link
no_link-from from to d e r = Refuses-later false _ _ e r

pub no_link-to : (from to : Path) (d : Disk) (e : FsErr) → no_leaf from d ≡ None → Refuses false (no_new to d) e → Refuses false (no_link from to d) e
unfolding no_link
no_link-to from to d e free r = rw free r

pub no_link-none : (from to : Path) (d : Disk) → no_leaf from d ≡ None → no_new to d ≡ None → no_link from to d ≡ None
unfolding no_link
no_link-none from to d free r = rw free r

pub AreNames-front : (f : Path) (x : List ℕ) → AreNames (f ++ x ∷ []) → AreNames f
AreNames-front [] x names = tt
AreNames-front (a ∷ f) x names = (names.0, AreNames-front f x names.1)
