-- A text has one reading.
use Rattle.std.proofs.Common.{◌≡◌, ◌≢◌, ◌⊎◌, inl, inr, ◌+◌, ℕ, List, [], ◌∷◌, ◌++◌, length, Result, Ok, Err, refl, sym, ◌∙◌, ap, subst, append-nil, append_assoc, arith, length-append}
use Rattle.keyfile.specs.declared.entry.KeyLine.{KeyLine}
use Rattle.keyfile.specs.declared.fault.KeyFault.{KeyFault}
use Rattle.keyfile.specs.declared.fault.KeyFault.TheVariants.{BadLine, NoGroup, Repeated, NoMemory}
use Rattle.keyfile.specs.Line.{Line, IsLine, IsKeyName, line_text, file_text}
use Rattle.keyfile.specs.Line.Line.{Blank, Comment, Group, Key}
use Rattle.keyfile.specs.Faults.{HasGroup, HasNoGroup, HasKey, IsAlone, Repeats, MayFollow, GoOn, AreSound}
use Rattle.keyfile.specs.Entries.{entries_of}
use Rattle.keyfile.specs.Reading.{Reads, Begins, IsBad}
use Rattle.keyfile.proofs.Splits.{one_split, no_equals}
use Rattle.keyfile.proofs.Whole.{line_in_line}

-- ---- a text is the text of one line

key_apart : (c : ℕ) (key value rest : List ℕ) → IsKeyName key → (c ≡ 35) ⊎ (c ≡ 91) → key ++ 61 ∷ value ≡ c ∷ rest → ⊥
key_apart c [] value rest is which e = is.not_empty refl
key_apart c (b ∷ key) value rest is which e =
    let t : b ∷ (key ++ 61 ∷ value) ≡ c ∷ rest = e in
    let h : b ≡ c = cc in
    let p = is.plain 0 0 (omega arith) in
    grind (arith, p, h, which)

key_some : (key value : List ℕ) → key ++ 61 ∷ value ≡ [] → ⊥
key_some [] value e = cc
key_some (b ∷ key) value e = let t : b ∷ (key ++ 61 ∷ value) ≡ [] = e in cc

heads : (a b : ℕ) (xs ys : List ℕ) → a ∷ xs ≡ b ∷ ys → a ≡ b
heads a b xs ys e = cc

last_off : (c : ℕ) (xs ys : List ℕ) → xs ++ c ∷ [] ≡ ys ++ c ∷ [] → xs ≡ ys
last_off c [] [] e = refl
last_off c [] (y ∷ ys) e = absurd (omega (arith, ap length e, length-append ys (c ∷ [])))
last_off c (x ∷ xs) [] e = absurd (omega (arith, ap length e, length-append xs (c ∷ [])))
last_off c (x ∷ xs) (y ∷ ys) e =
    let t : x ∷ (xs ++ c ∷ []) ≡ y ∷ (ys ++ c ∷ []) = e in
    let h : x ≡ y = cc in
    let u : xs ++ c ∷ [] ≡ ys ++ c ∷ [] = cc in
    ap (λ z. z ∷ xs) h ∙ ap (λ zs. y ∷ zs) (last_off c xs ys u)

one_line : (a b : Line) → IsLine a → IsLine b → line_text a ≡ line_text b → a ≡ b
one_line Blank Blank p q e = refl
one_line Blank (Comment t) p q e = absurd (let n : [] ≡ 35 ∷ t = e in cc)
one_line Blank (Group g) p q e = absurd (let n : [] ≡ 91 ∷ (g ++ 93 ∷ []) = e in cc)
one_line Blank (Key k v) p q e = absurd (key_some k v (sym e))
one_line (Comment s) Blank p q e = absurd (let n : 35 ∷ s ≡ [] = e in cc)
one_line (Comment s) (Comment t) p q e = let n : 35 ∷ s ≡ 35 ∷ t = e in let h : s ≡ t = cc in ap Comment h
one_line (Comment s) (Group g) p q e = absurd (omega (arith, heads 35 91 s (g ++ 93 ∷ []) e))
one_line (Comment s) (Key k v) p q e = absurd (key_apart 35 k v s q.0 (inl refl) (sym e))
one_line (Group f) Blank p q e = absurd (let n : 91 ∷ (f ++ 93 ∷ []) ≡ [] = e in cc)
one_line (Group f) (Comment t) p q e = absurd (omega (arith, heads 91 35 (f ++ 93 ∷ []) t e))
one_line (Group f) (Group g) p q e = let n : 91 ∷ (f ++ 93 ∷ []) ≡ 91 ∷ (g ++ 93 ∷ []) = e in let h : f ++ 93 ∷ [] ≡ g ++ 93 ∷ [] = cc in ap Group (last_off 93 f g h)
one_line (Group f) (Key k v) p q e = absurd (key_apart 91 k v (f ++ 93 ∷ []) q.0 (inr refl) (sym e))
one_line (Key j u) Blank p q e = absurd (key_some j u e)
one_line (Key j u) (Comment t) p q e = absurd (key_apart 35 j u t p.0 (inl refl) e)
one_line (Key j u) (Group g) p q e = absurd (key_apart 91 j u (g ++ 93 ∷ []) p.0 (inr refl) e)
one_line (Key j u) (Key k v) p q e = let same = one_split 61 j k u v (no_equals j p.0) (no_equals k q.0) e in ap (λ x. Key x u) same.0 ∙ ap (λ x. Key k x) same.1

one_begin : (a b : Line) (s t : List ℕ) → IsLine a → IsLine b → line_text a ++ 10 ∷ s ≡ line_text b ++ 10 ∷ t → (a ≡ b) × (s ≡ t)
one_begin a b s t p q e = let same = one_split 10 (line_text a) (line_text b) s t (line_in_line a p) (line_in_line b q) e in (one_line a b p q same.0, same.1)

begins_same : (rest : List ℕ) (a b : Line) → Begins rest a → Begins rest b → a ≡ b
begins_same rest a b x y = (one_begin a b x.0 y.0 x.2 y.2 (sym x.1 ∙ y.1)).0

-- ---- where a fault is, behind sound lines

abbrev FaultAt : List Line → List ℕ → KeyFault → Type 0
FaultAt before rest (BadLine n) = (n ≡ length before + 1) × IsBad rest
FaultAt before rest (NoGroup n) = (n ≡ length before + 1) × (line : Line) × Begins rest line × IsAlone before line
FaultAt before rest (Repeated n) = (n ≡ length before + 1) × (line : Line) × Begins rest line × Repeats before line
FaultAt before rest NoMemory = Unit {0}

abbrev IsTold : KeyFault → Type 0
IsTold (BadLine n) = Unit {0}
IsTold (NoGroup n) = Unit {0}
IsTold (Repeated n) = Unit {0}
IsTold NoMemory = ⊥

record Stops (text : List ℕ) (fault : KeyFault) : Type 0 where
  before : List Line
  rest : List ℕ
  whole : text ≡ file_text before ++ rest
  sound : AreSound before
  fault_at : FaultAt before rest fault

stops : (text : List ℕ) (fault : KeyFault) → IsTold fault → Reads text (Err fault) → Stops text fault
stops text (BadLine n) told r = record { before = r.before; rest = r.rest; whole = r.leaves.whole; sound = r.leaves.sound; fault_at = (r.leaves.counted, r.bad) }
stops text (NoGroup n) told r = record { before = r.before; rest = r.rest; whole = r.leaves.whole; sound = r.leaves.sound; fault_at = (r.leaves.counted, r.line, r.begins, r.alone) }
stops text (Repeated n) told r = record { before = r.before; rest = r.rest; whole = r.leaves.whole; sound = r.leaves.sound; fault_at = (r.leaves.counted, r.line, r.begins, r.repeats) }
stops text NoMemory told r = absurd told

begins_some : (rest : List ℕ) (line : Line) → Begins rest line → rest ≡ [] → ⊥
begins_some rest line b e = let h : line_text line ++ 10 ∷ b.0 ≡ [] = sym b.1 ∙ e in omega (arith, ap length h, length-append (line_text line) (10 ∷ b.0))

-- a fault isn't at the end
not_end : (before : List Line) (rest : List ℕ) (fault : KeyFault) → IsTold fault → FaultAt before rest fault → rest ≡ [] → ⊥
not_end before rest (BadLine n) told f e = f.1.more e
not_end before rest (NoGroup n) told f e = begins_some rest f.1 f.2 e
not_end before rest (Repeated n) told f e = begins_some rest f.1 f.2 e
not_end before rest NoMemory told f e = told

-- nor at a line that may follow
not_sound : (before : List Line) (rest : List ℕ) (line : Line) (fault : KeyFault) → IsTold fault → FaultAt before rest fault → Begins rest line → MayFollow before line → ⊥
not_sound before rest line (BadLine n) told f begins may = f.1.no_line line begins
not_sound before rest line (NoGroup n) told f begins may = may.grouped (subst (IsAlone before) (begins_same rest f.1 line f.2 begins) f.3)
not_sound before rest line (Repeated n) told f begins may = may.new (subst (Repeats before) (begins_same rest f.1 line f.2 begins) f.3)
not_sound before rest line NoMemory told f begins may = told

-- a key among sound lines has a group
keyed : (key : List ℕ) (front before : List Line) → GoOn front before → HasKey key before → HasNoGroup (front ++ before) → ⊥
keyed key front [] on h none = h
keyed key front (Blank ∷ before) on (inl is) none = is.0
keyed key front (Comment text ∷ before) on (inl is) none = is.0
keyed key front (Group name ∷ before) on (inl is) none = is.0
keyed key front (Key k v ∷ before) on (inl is) none = on.0.grouped (front_none front (Key k v ∷ before) none)
  where
    in_front : (name : List ℕ) (front behind : List Line) → HasGroup name front → HasGroup name (front ++ behind)
    in_front name [] behind h = absurd h
    in_front name (x ∷ front) behind (inl is) = inl is
    in_front name (x ∷ front) behind (inr h) = inr (in_front name front behind h)

    front_none : (front behind : List Line) → HasNoGroup (front ++ behind) → HasNoGroup front
    front_none front behind none name h = none name (in_front name front behind h)
keyed key front (x ∷ before) on (inr h) none = keyed key (front ++ x ∷ []) before on.1 h (subst HasNoGroup (sym (append_assoc front (x ∷ []) before)) none)

not_both : (before : List Line) (line : Line) → AreSound before → IsAlone before line → Repeats before line → ⊥
not_both before Blank sound alone repeats = alone
not_both before (Comment text) sound alone repeats = alone
not_both before (Group name) sound alone repeats = alone
not_both before (Key key value) sound alone repeats = keyed key [] before sound repeats alone

-- at one place one thing is wrong
same_fault : (before : List Line) (rest : List ℕ) (f g : KeyFault) → AreSound before → IsTold f → IsTold g → FaultAt before rest f → FaultAt before rest g → f ≡ g
same_fault before rest (BadLine m) (BadLine n) sound p q x y = ap BadLine (x.0 ∙ sym y.0)
same_fault before rest (BadLine m) (NoGroup n) sound p q x y = absurd (x.1.no_line y.1 y.2)
same_fault before rest (BadLine m) (Repeated n) sound p q x y = absurd (x.1.no_line y.1 y.2)
same_fault before rest (NoGroup m) (BadLine n) sound p q x y = absurd (y.1.no_line x.1 x.2)
same_fault before rest (NoGroup m) (NoGroup n) sound p q x y = ap NoGroup (x.0 ∙ sym y.0)
same_fault before rest (NoGroup m) (Repeated n) sound p q x y = absurd (not_both before y.1 sound (subst (IsAlone before) (begins_same rest x.1 y.1 x.2 y.2) x.3) y.3)
same_fault before rest (Repeated m) (BadLine n) sound p q x y = absurd (y.1.no_line x.1 x.2)
same_fault before rest (Repeated m) (NoGroup n) sound p q x y = absurd (not_both before x.1 sound (subst (IsAlone before) (begins_same rest y.1 x.1 y.2 x.2) y.3) x.3)
same_fault before rest (Repeated m) (Repeated n) sound p q x y = ap Repeated (x.0 ∙ sym y.0)
same_fault before rest NoMemory g sound p q x y = absurd p
same_fault before rest (BadLine m) NoMemory sound p q x y = absurd q
same_fault before rest (NoGroup m) NoMemory sound p q x y = absurd q
same_fault before rest (Repeated m) NoMemory sound p q x y = absurd q

-- ---- two ways of taking lines off one text

-- the second takes this line next, where the first has stopped
record Further (xs ys : List Line) (rest : List ℕ) : Type 0 where
  line : Line
  begins : Begins rest line
  may : MayFollow xs line

abbrev Compared : List Line → List Line → List ℕ → List ℕ → Type 0
Compared xs ys r s = ((xs ≡ ys) × (r ≡ s)) ⊎ (Further xs ys r ⊎ Further ys xs s)

compare : (front xs ys : List Line) (r s : List ℕ) → GoOn front xs → GoOn front ys → file_text xs ++ r ≡ file_text ys ++ s → Compared (front ++ xs) (front ++ ys) r s
unfolding file_text
compare front [] [] r s p q e = inl (refl, e)
compare front [] (y ∷ ys) r s p q e = inr (inl (record {
  line = y;
  begins = (file_text ys ++ s, e ∙ append_assoc (line_text y) (10 ∷ file_text ys) s, q.0.line_of);
  may = subst (λ f. MayFollow f y) (sym (append-nil front)) q.0;
}))
compare front (x ∷ xs) [] r s p q e = inr (inr (record {
  line = x;
  begins = (file_text xs ++ r, sym e ∙ append_assoc (line_text x) (10 ∷ file_text xs) r, p.0.line_of);
  may = subst (λ f. MayFollow f x) (sym (append-nil front)) p.0;
}))
compare front (x ∷ xs) (y ∷ ys) r s p q e =
    let same = one_begin x y (file_text xs ++ r) (file_text ys ++ s) p.0.line_of q.0.line_of (sym (append_assoc (line_text x) (10 ∷ file_text xs) r) ∙ e ∙ append_assoc (line_text y) (10 ∷ file_text ys) s) in
    let rest = compare (front ++ x ∷ []) xs ys r s p.1 (subst (λ z. GoOn (front ++ z ∷ []) ys) (sym same.0) q.1) same.1 in
    subst (λ f. Compared f (front ++ y ∷ ys) r s) (append_assoc front (x ∷ []) xs)
    (subst (λ f. Compared ((front ++ x ∷ []) ++ xs) f r s) (append_assoc front (x ∷ []) ys ∙ ap (λ z. front ++ z ∷ ys) same.0) rest)

ok_ok : (text : List ℕ) (a b : List KeyLine) → Reads text (Ok a) → Reads text (Ok b) → a ≡ b
ok_ok text a b x y =
    by (compare [] x.0 y.0 [] [] x.2 y.2 (append-nil (file_text x.0) ∙ sym x.1 ∙ y.1 ∙ sym (append-nil (file_text y.0))))
  where
    by : Compared x.0 y.0 [] [] → a ≡ b
    by (inl same) = x.3 ∙ ap entries_of same.0 ∙ sym y.3
    by (inr (inl f)) = absurd (begins_some [] f.line f.begins refl)
    by (inr (inr f)) = absurd (begins_some [] f.line f.begins refl)

ok_err : (text : List ℕ) (a : List KeyLine) (f : KeyFault) → Reads text (Ok a) → Stops text f → IsTold f → ⊥
ok_err text a f x y told = by (compare [] x.0 y.before [] y.rest x.2 y.sound (append-nil (file_text x.0) ∙ sym x.1 ∙ y.whole))
  where
    by : Compared x.0 y.before [] y.rest → ⊥
    by (inl same) = not_end y.before y.rest f told y.fault_at (sym same.1)
    by (inr (inl g)) = begins_some [] g.line g.begins refl
    by (inr (inr g)) = not_sound y.before y.rest g.line f told y.fault_at g.begins g.may

err_err : (text : List ℕ) (f g : KeyFault) → Stops text f → Stops text g → IsTold f → IsTold g → f ≡ g
err_err text f g x y p q = by (compare [] x.before y.before x.rest y.rest x.sound y.sound (sym x.whole ∙ y.whole))
  where
    by : Compared x.before y.before x.rest y.rest → f ≡ g
    by (inl same) = same_fault x.before x.rest f g x.sound p q x.fault_at
        (subst (λ r. FaultAt x.before r g) (sym same.1) (subst (λ b. FaultAt b y.rest g) (sym same.0) y.fault_at))
    by (inr (inl h)) = absurd (not_sound x.before x.rest h.line f p x.fault_at h.begins h.may)
    by (inr (inr h)) = absurd (not_sound y.before y.rest h.line g q y.fault_at h.begins h.may)

abbrev failed : KeyFault → Result (List KeyLine) KeyFault
failed f = Err f

told : (f : KeyFault) → failed f ≢ failed NoMemory → IsTold f
told (BadLine n) other = tt
told (NoGroup n) other = tt
told (Repeated n) other = tt
told NoMemory other = absurd (other refl)

pub one_reading : (text : List ℕ) (a b : Result (List KeyLine) KeyFault) → Reads text a → Reads text b → a ≢ Err NoMemory → b ≢ Err NoMemory → a ≡ b
one_reading text (Ok x) (Ok y) p q m n = ap Ok (ok_ok text x y p q)
one_reading text (Ok x) (Err g) p q m n = absurd (ok_err text x g p (stops text g (told g n) q) (told g n))
one_reading text (Err f) (Ok y) p q m n = absurd (ok_err text y f q (stops text f (told f m) p) (told f m))
one_reading text (Err f) (Err g) p q m n = ap Err (err_err text f g (stops text f (told f m) p) (stops text g (told g n) q) (told f m) (told g n))
