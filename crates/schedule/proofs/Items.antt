-- Items of a schedule, one after the other.
use Rattle.std.proofs.Common.{◌≡◌, ◌≢◌, ◌<◌, ◌+◌, ◌^◌, inl, inr, ℕ, zero, suc, List, [], ◌∷◌, ◌++◌, length, take, get_or, map, Option, Some, None, refl, sym, ◌∙◌, ap, subst, arith}
use Rattle.std.specs.Fmt.{decimal}
use Rattle.std.specs.List.{onto_first}
use Rattle.std.proofs.lemmas.Fmt.{decimal_digit, first_decimal}
use Rattle.std.proofs.lemmas.List.{take_more, map_push}
use Rattle.schedule.specs.Schedule.{AreItems, Gives, IsItem, IsSchedule, pieces}
use Rattle.schedule.specs.declared.turns.Turns.{Turns}

push_item : (items : List (List ℕ)) (ts : List Turns) (item : List ℕ) (t : Turns) → AreItems items ts → IsItem item t → AreItems (items ++ item ∷ []) (ts ++ t ∷ [])
push_item [] [] item t are is = (is, tt)
push_item [] (y ∷ ys) item t are is = absurd are
push_item (p ∷ items) [] item t are is = absurd are
push_item (p ∷ items) (y ∷ ys) item t are is = (are.0, push_item items ys item t are.1 is)

pub items_step : {V : Type 0} (now : V → List ℕ) (items : List V) (i : ℕ) (d : V) (ts : List Turns) (t : Turns) → i < length items
    → AreItems (map now (take i items)) ts → IsItem (now (get_or items i d)) t → AreItems (map now (take (i + 1) items)) (ts ++ t ∷ [])
items_step now items i d ts t less are item =
    let all : map now (take (i + 1) items) ≡ map now (take i items) ++ now (get_or items i d) ∷ [] = ap (map now) (take_more items i d less) ∙ map_push now (take i items) (get_or items i d) in
    subst (λ x. AreItems x (ts ++ t ∷ [])) (sym all) (push_item (map now (take i items)) ts (now (get_or items i d)) t are item)

pub items_none : {V : Type 0} (now : V → List ℕ) (items : List V) (i : ℕ) (d : V) → i < length items
    → ((t : Turns) → ¬ (IsItem (now (get_or items i d)) t)) → (ts : List Turns) → ¬ (AreItems (map now items) ts)
items_none now [] i d less none ts are = absurd (omega (arith, less))
items_none now (v ∷ items) i d less none [] are = are
items_none now (v ∷ items) zero d less none (y ∷ ys) are = none y are.0
items_none now (v ∷ items) (suc i) d less none (y ∷ ys) are = items_none now items i d (omega (arith, less)) none ys are.1

-- what an answer says by its case
pub gives_some : {X : Type 0} (P : X → Type 0) (o : Option X) (x : X) → Gives P o → o ≡ Some x → P x
gives_some P o x g is = subst (Gives P) is g

pub gives_none : {X : Type 0} (P : X → Type 0) (o : Option X) → Gives P o → o ≡ None → (x : X) → ¬ (P x)
gives_none P o g is = subst (Gives P) is g

first_stays : (x : ℕ) (parts : List (List ℕ)) → (q : List ℕ) × (qs : List (List ℕ)) × (onto_first x parts ≡ (x ∷ q) ∷ qs)
first_stays x [] = ([], [], refl)
first_stays x (p ∷ ps) = (p, ps, refl)

decimal_no_dash : (n : ℕ) → n < 2 ^ 64 → (rest : List ℕ) → 45 ∷ rest ≢ decimal n
decimal_no_dash zero small rest same = let is : 45 ≡ 48 = ap (λ t. get_or t 0 0) (same ∙ decimal_digit 0 (omega arith)) in omega (arith, is)
decimal_no_dash (suc n) small rest same =
    let first = first_decimal (suc n) (omega arith) small in
    let is : 45 ≡ get_or (decimal (suc n)) 0 0 = ap (λ t. get_or t 0 0) same in
    omega (arith, first, is)

item_no_dash : (q : List ℕ) (t : Turns) → ¬ (IsItem (45 ∷ q) t)
item_no_dash q t is = go (first_stays 45 (pieces 42 q)) is
  where
    no : (r : List ℕ) (rs ds : List (List ℕ)) → onto_first 45 (pieces 42 q) ≡ (45 ∷ r) ∷ rs → onto_first 45 (pieces 42 q) ≡ decimal t.actor ∷ ds → ⊥
    no r rs ds a b = let e : (45 ∷ r) ∷ rs ≡ decimal t.actor ∷ ds = sym a ∙ b in let same : 45 ∷ r ≡ decimal t.actor = cc in decimal_no_dash t.actor (omega (arith, t.known)) r same

    go : (r : List ℕ) × (rs : List (List ℕ)) × (onto_first 45 (pieces 42 q) ≡ (45 ∷ r) ∷ rs) → IsItem (45 ∷ q) t → ⊥
    go (r, rs, begins) (inl alone) = no r rs [] begins alone.0
    go (r, rs, begins) (inr both) = no r rs (decimal t.count ∷ []) begins both

-- a schedule doesn't begin with `-`
pub no_dash : (rest : List ℕ) (schedule : List Turns) → ¬ (IsSchedule (45 ∷ rest) schedule)
no_dash rest schedule is = go (first_stays 45 (pieces 44 rest)) schedule is
  where
    go : (q : List ℕ) × (qs : List (List ℕ)) × (onto_first 45 (pieces 44 rest) ≡ (45 ∷ q) ∷ qs) → (turns : List Turns) → AreItems (onto_first 45 (pieces 44 rest)) turns → ⊥
    go (q, qs, begins) [] are = subst (λ t. AreItems t []) begins are
    go (q, qs, begins) (t ∷ turns) are = item_no_dash q t (subst (λ ps. AreItems ps (t ∷ turns)) begins are).0
