-- Rows are read one after the other.
use Rattle.std.proofs.Common.{◌≡◌, ℕ, ◌+◌, ◌<◌, List, [], ◌∷◌, ◌++◌, length, take, get_or, Option, Some, Err, refl, sym, ap, ◌∙◌, append_assoc}
use Rattle.std.specs.Prelude.{option_and_then}
use Rattle.std.proofs.lemmas.List.{append-nil, take_more}
use Rattle.gv_core.proofs.Sizes.{bind_some, some_is}
use Rattle.ost_forms.specs.declared.fault.ObjFault.{ObjFault}
use Rattle.ost_forms.specs.declared.fault.ObjFault.TheVariants.{NotNormal, BadSumLength, BadName, NotSorted, BadMode, TooLarge, NoMemory}
use Rattle.ost_forms.specs.Finds.{Finds}
use Rattle.ost_forms.specs.Rows.{each}

-- what was read has the rows before those that are left
pub record Reading {A : Type 0} (form : A → Option (List ℕ)) (done : List A) (left all : List (List ℕ)) : Type 0 where
  pub front : List (List ℕ)
  pub parts : front ++ left ≡ all
  pub made : each form done ≡ Some front

module _ {A : Type 0} (form : A → Option (List ℕ)) where
  each_cons : (x : A) (xs : List A) (r : List ℕ) (rs : List (List ℕ)) → form x ≡ Some r → each form xs ≡ Some rs → each form (x ∷ xs) ≡ Some (r ∷ rs)
  each_cons x xs r rs e f = rw (e, f) refl

  pub each_push : (xs : List A) (x : A) (rs : List (List ℕ)) (r : List ℕ) → each form xs ≡ Some rs → form x ≡ Some r → each form (xs ++ x ∷ []) ≡ Some (rs ++ r ∷ [])
  each_push [] x rs r e f = each_cons x [] r [] f refl ∙ ap (λ q. Some (q ++ r ∷ [])) (some_is [] rs e)
  each_push (y ∷ xs) x rs r e f =
      let p = bind_some (form y) (λ q. option_and_then (λ qs. Some (q ∷ qs)) (each form xs)) rs e in
      let q = bind_some (each form xs) (λ qs. Some (p.0 ∷ qs)) rs p.2 in
      each_cons y (xs ++ x ∷ []) p.0 (q.0 ++ r ∷ []) p.1 (each_push xs x q.0 r q.1 f) ∙ ap (λ z. Some (z ++ r ∷ [])) (some_is (p.0 ∷ q.0) rs q.2)

  -- each row is the form of something
  each_at : (xs : List A) (front : List (List ℕ)) (r : List ℕ) (rest : List (List ℕ)) → each form xs ≡ Some (front ++ r ∷ rest) → (x : A) × (form x ≡ Some r)
  each_at [] [] r rest e = absurd cc
  each_at [] (q ∷ front) r rest e = absurd cc
  each_at (x ∷ xs) [] r rest e =
      let p = bind_some (form x) (λ q. option_and_then (λ qs. Some (q ∷ qs)) (each form xs)) (r ∷ rest) e in
      let q = bind_some (each form xs) (λ qs. Some (p.0 ∷ qs)) (r ∷ rest) p.2 in
      let t : p.0 ∷ q.0 ≡ r ∷ rest = some_is (p.0 ∷ q.0) (r ∷ rest) q.2 in
      let h : p.0 ≡ r = cc in
      (x, p.1 ∙ ap Some h)
  each_at (x ∷ xs) (f ∷ front) r rest e =
      let all : List (List ℕ) = (f ∷ front) ++ r ∷ rest in
      let p = bind_some (form x) (λ q. option_and_then (λ qs. Some (q ∷ qs)) (each form xs)) all e in
      let q = bind_some (each form xs) (λ qs. Some (p.0 ∷ qs)) all p.2 in
      let t : p.0 ∷ q.0 ≡ f ∷ (front ++ r ∷ rest) = some_is (p.0 ∷ q.0) all q.2 in
      let h : q.0 ≡ front ++ r ∷ rest = cc in
      each_at xs front r rest (q.1 ∙ ap Some h)

  pub reading_start : (all : List (List ℕ)) → Reading form [] all all
  reading_start all = record { front = []; parts = refl; made = refl }

  pub reading_next : (done : List A) (x : A) (r : List ℕ) (rest left all : List (List ℕ)) → Reading form done left all → left ≡ r ∷ rest → form x ≡ Some r → Reading form (done ++ x ∷ []) rest all
  reading_next done x r rest left all h is e = record {
    front = h.front ++ r ∷ [];
    parts = append_assoc h.front (r ∷ []) rest ∙ ap (λ q. h.front ++ q) (sym is) ∙ h.parts;
    made = each_push done x h.front r h.made e;
  }

  pub reading_end : (done : List A) (left all : List (List ℕ)) → Reading form done left all → left ≡ [] → each form done ≡ Some all
  reading_end done left all h is = h.made ∙ ap Some (sym (append-nil h.front) ∙ ap (λ q. h.front ++ q) (sym is) ∙ h.parts)

-- an array whose rows were found
pub array_found : {A : Type 0} (form : A → Option (List ℕ)) (make : List (List ℕ) → Option (List ℕ)) (xs : List A) (rs : List (List ℕ)) (bytes : List ℕ) → each form xs ≡ Some rs → make rs ≡ Some bytes → option_and_then make (each form xs) ≡ Some bytes
array_found form make xs rs bytes e f = ap (option_and_then make) e ∙ f

-- the things that a loop has written
pub each_more : {A : Type 0} (form : A → Option (List ℕ)) (xs : List A) (i : ℕ) (x : A) (rs : List (List ℕ)) (r : List ℕ) → i < length xs → x ≡ get_or xs i x → each form (take i xs) ≡ Some rs → form x ≡ Some r → each form (take (i + 1) xs) ≡ Some (rs ++ r ∷ [])
each_more form xs i x rs r lt is e f = ap (each form) (take_more xs i x lt ∙ ap (λ y. take i xs ++ y ∷ []) (sym is)) ∙ each_push form (take i xs) x rs r e f

-- why a whole isn't found, from why a part of it isn't: each whole has such a part
pub fails_part : {A B X Y : Type 0} (see : X → A) (look : Y → B) (form : A → Option (List ℕ)) (part : B → Option (List ℕ)) (bytes r : List ℕ) (e : ObjFault)
    → ((x : A) → form x ≡ Some bytes → (y : B) × (part y ≡ Some r)) → Finds look part r (Err e) → Finds see form bytes (Err e)
fails_part see look form part bytes r NotNormal find none = λ x h. let p = find x h in none p.0 p.1
fails_part see look form part bytes r BadSumLength find none = absurd none
fails_part see look form part bytes r BadName find none = absurd none
fails_part see look form part bytes r NotSorted find none = absurd none
fails_part see look form part bytes r BadMode find none = absurd none
fails_part see look form part bytes r (TooLarge n) find none = absurd none
fails_part see look form part bytes r NoMemory find none = tt

-- each array with these rows has something whose form is the row that a loop is at
pub row_of : {A : Type 0} (form : A → Option (List ℕ)) (make : List (List ℕ) → Option (List ℕ)) (done : List A) (r : List ℕ) (rest left all : List (List ℕ)) (bytes : List ℕ)
    → ((qs : List (List ℕ)) → make qs ≡ Some bytes → all ≡ qs) → Reading form done left all → left ≡ r ∷ rest → (xs : List A) → option_and_then make (each form xs) ≡ Some bytes → (x : A) × (form x ≡ Some r)
row_of form make done r rest left all bytes own h is xs e =
    let p = bind_some (each form xs) make bytes e in
    each_at form xs h.front r rest (p.1 ∙ ap Some (sym (own p.0 p.2) ∙ sym h.parts ∙ ap (λ q. h.front ++ q) is))
