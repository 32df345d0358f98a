-- A name in the folder of a stateroot's deployments, read as what a link to a deployment holds.
use Rattle.std.proofs.Common.{◌≡◌, ◌≢◌, ◌↔◌, inr, ⊎_elim, ℕ, Bool, true, false, ◌&&◌, ◌==◌, IsTrue, List, [], ◌∷◌, ◌++◌, All, Option, Some, None, Result, Ok, Err, IfOk, MatchOption, refl, sym, ◌∙◌, ap, subst, append_assoc, arith, codes}
use Rattle.std.specs.Prelude.{Contains, not}
use Rattle.std.specs.Fmt.{decimal}
use Rattle.std.proofs.lemmas.Bool.Decides.{Decides-eqb, nat_tests}
use Rattle.std.proofs.lemmas.List.{append_cancel_left, append_cancel_right}
use Rattle.std.proofs.lemmas.List.Elements.{All-head, All-tail, All-weaker}
use Rattle.std.proofs.lemmas.List.Folds.{list_any_at}
use Rattle.std.proofs.lemmas.Map.Views.{Contains-from_any}
use Rattle.ost_types.specs.Csum.{hex_of}
use Rattle.ost_types.specs.Path.{Name, same_name}
use Rattle.ost_types.proofs.Paths.{same_name-Decides}
use Rattle.repo_layout.specs.OsName.{IsOsName}
use Rattle.repo_layout.specs.RefName.{is_part_byte}
use Rattle.boot_model.specs.declared.item.DepId.{DepId}
use Rattle.boot_model.specs.Entries.{deploy_target}
use Rattle.boot_words.specs.Words.{LeadsNowhere, LeadsTo}
use Rattle.boot_words.proofs.Words.{led_once}
use Rattle.deploy_clean.specs.Unlisted.{IsIdName, IsNoId, IsUnlistedId, IsUnlistedName, id_name, is_listed, same_id}

-- ---- a `/` splits a text in one way

abbrev Plain : List ℕ → Type 0
Plain text = All (λ b. b ≢ 47) text

one_split : (xs ys a b : List ℕ) → Plain xs → Plain ys → xs ++ 47 ∷ a ≡ ys ++ 47 ∷ b → (xs ≡ ys) × (a ≡ b)
one_split [] [] a b p q e = (refl, let t : 47 ∷ a ≡ 47 ∷ b = e in cc)
one_split [] (y ∷ ys) a b p q e = absurd (let t : 47 ∷ a ≡ y ∷ (ys ++ 47 ∷ b) = e in let h : y ≡ 47 = cc in All-head (λ x. x ≢ 47) y ys q h)
one_split (x ∷ xs) [] a b p q e = absurd (let t : x ∷ (xs ++ 47 ∷ a) ≡ 47 ∷ b = e in let h : x ≡ 47 = cc in All-head (λ x. x ≢ 47) x xs p h)
one_split (x ∷ xs) (y ∷ ys) a b p q e =
    let t : x ∷ (xs ++ 47 ∷ a) ≡ y ∷ (ys ++ 47 ∷ b) = e in
    let h : x ≡ y = cc in
    let u : xs ++ 47 ∷ a ≡ ys ++ 47 ∷ b = cc in
    let r = one_split xs ys a b (All-tail (λ z. z ≢ 47) x xs p) (All-tail (λ z. z ≢ 47) y ys q) u in
    (ap (λ z. z ∷ xs) h ∙ ap (λ zs. y ∷ zs) r.0, r.1)

part_no_slash : (b : ℕ) → IsTrue (is_part_byte b) → b ≢ 47
part_no_slash b is = grind (arith, nat_tests)

os_plain : (os : List ℕ) → IsOsName os → Plain os
os_plain os is = All-weaker (λ b. IsTrue (is_part_byte b)) (λ b. b ≢ 47) part_no_slash os is.part.bytes

-- ---- what a link to a deployment of this name holds

abbrev front : List ℕ
front = codes "../../../deploy/"

abbrev pub target : Name → Name → List ℕ
target os name = ((codes "../../../deploy/" ++ os) ++ codes "/deploy/") ++ name

split_target : (os name : Name) → target os name ≡ front ++ (os ++ 47 ∷ (codes "deploy/" ++ name))
split_target os name = append_assoc (front ++ os) (codes "/deploy/") name ∙ append_assoc front os (codes "/deploy/" ++ name)

id_target : (id : DepId) → deploy_target id ≡ target id.os (id_name id)
unfolding deploy_target
id_target id = append_assoc ((front ++ id.os) ++ codes "/deploy/") (hex_of id.commit) (46 ∷ decimal id.serial)

leads : (os name : Name) (id : DepId) → IsIdName os name id → LeadsTo (target os name) id
leads os name id is = record {
  stateroot = is.stateroot;
  sum = is.sum;
  small = is.small;
  whole = ap (λ o. target o name) (sym is.os_is) ∙ ap (target id.os) is.whole ∙ sym (id_target id);
}

led : (os name : Name) (id : DepId) → IsOsName os → LeadsTo (target os name) id → IsIdName os name id
led os name id stateroot is =
    let whole : os ++ 47 ∷ (codes "deploy/" ++ name) ≡ id.os ++ 47 ∷ (codes "deploy/" ++ id_name id) =
    append_cancel_left front (os ++ 47 ∷ (codes "deploy/" ++ name)) (id.os ++ 47 ∷ (codes "deploy/" ++ id_name id)) (sym (split_target os name) ∙ is.whole ∙ id_target id ∙ split_target id.os (id_name id)) in
    let same = one_split os id.os (codes "deploy/" ++ name) (codes "deploy/" ++ id_name id) (os_plain os stateroot) (os_plain id.os is.stateroot) whole in
    record {
      os_is = sym same.0;
      whole = append_cancel_left (codes "deploy/") name (id_name id) same.1;
      stateroot = is.stateroot;
      sum = is.sum;
      small = is.small;
    }

pub text_is : (os name o a b c d text : List ℕ) → o ≡ os → a ≡ codes "../../../deploy/" → b ≡ a ++ o → c ≡ b ++ codes "/deploy/" → d ≡ c ++ name → text ≡ d → text ≡ target os name
text_is os name o a b c d text p q r s t u = cc

pub read_as : {E : Type 0} (os name text : List ℕ) (r : Result (Option DepId) E) → text ≡ target os name → IsOsName os
    → IfOk r (λ o. MatchOption o (LeadsNowhere text) (LeadsTo text)) → IfOk r (λ o. MatchOption o (IsNoId os name) (IsIdName os name))
read_as os name text (Ok (Some id)) is stateroot to = led os name id stateroot (subst (λ t. LeadsTo t id) is to)
read_as os name text (Ok None) is stateroot nowhere = λ id named. nowhere id (subst (λ t. LeadsTo t id) (sym is) (leads os name id named))
read_as os name text (Err e) is stateroot none = tt

one_id : (os name : Name) (a b : DepId) → IsIdName os name a → IsIdName os name b → a ≡ b
one_id os name a b p q = led_once (target os name) a b (leads os name a p) (leads os name b q)

-- ---- whether it is listed

both : (a b : Bool) → a && b ≡ true → (a ≡ true) × (b ≡ true)
both true true e = (refl, refl)
both true false e = let n : false ≡ true = e in cc
both false b e = let n : false ≡ true = e in cc

both_true : (a b : Bool) → a ≡ true → b ≡ true → a && b ≡ true
both_true a b p q = rw (p, q) refl

same_ids : (a b : DepId) → same_id a b ≡ true → a ≡ b
same_ids a b e =
    let p = both (same_name a.os b.os && same_name a.commit b.commit) (a.serial == b.serial) e in
    let q = both (same_name a.os b.os) (same_name a.commit b.commit) p.0 in
    ap (λ os. record { os = os; commit = a.commit; serial = a.serial }) ((same_name-Decides a.os b.os).0 q.0)
    ∙ ap (λ commit. record { os = b.os; commit = commit; serial = a.serial }) ((same_name-Decides a.commit b.commit).0 q.1)
    ∙ ap (λ serial. record { os = b.os; commit = b.commit; serial = serial }) ((Decides-eqb a.serial b.serial).0 p.1)

id_itself : (a : DepId) → same_id a a ≡ true
id_itself a =
    both_true (same_name a.os a.os && same_name a.commit a.commit) (a.serial == a.serial)
    (both_true (same_name a.os a.os) (same_name a.commit a.commit) ((same_name-Decides a.os a.os).1 refl) ((same_name-Decides a.commit a.commit).1 refl)) ((Decides-eqb a.serial a.serial).1 refl)

pub listed_there : (listed : List DepId) (id : DepId) → is_listed listed id ≡ true → Contains listed id
listed_there listed id is = Contains-from_any same_ids id listed is

pub there_listed : (listed : List DepId) (id : DepId) → Contains listed id → is_listed listed id ≡ true
there_listed listed id has = list_any_at (same_id id) listed has.0 id has.1 (ap (same_id id) has.2 ∙ id_itself id)

not_true : (b : Bool) → b ≡ true → not b ≡ true → ⊥
not_true b is other = let n : not true ≡ true = subst (λ x. not x ≡ true) is other in let m : false ≡ true = n in cc

not_false : (b : Bool) → (b ≡ true → ⊥) → not b ≡ true
not_false true other = absurd (other refl)
not_false false other = refl

pub tested : (listed : List DepId) (os name : Name) (id : DepId) (b : Bool) → b ≡ is_listed listed id → IsIdName os name id → (IsTrue (not b) ↔ IsUnlistedId listed os name)
tested listed os name id b is named = (
  λ t. (id, named, λ has. not_true b (is ∙ there_listed listed id has) t),
  λ free. not_false b (λ t. free.2 (subst (Contains listed) (one_id os name id free.0 named free.1) (listed_there listed id (sym is ∙ t)))),
)

-- ---- with the ending of an origin file

not_id : (listed : List DepId) (os name : Name) (found : Bool) → found ≡ false → (IsTrue found ↔ IsUnlistedId listed os name) → ¬ (IsUnlistedId listed os name)
not_id listed os name found is h = λ free. let n : false ≡ true = sym is ∙ h.1 free in cc

pub by_stem : {E : Type 0} (listed : List DepId) (os name stem : Name) (found : Bool) (r : Result Bool E) → found ≡ false → (IsTrue found ↔ IsUnlistedId listed os name) → name ≡ stem ++ codes ".origin"
    → IfOk r (λ b. IsTrue b ↔ IsUnlistedId listed os stem) → IfOk r (λ b. IsTrue b ↔ IsUnlistedName listed os name)
by_stem listed os name stem found (Ok b) is h whole of = (
  λ t. inr (stem, whole, of.0 t),
  λ u. of.1 (⊎_elim
      (λ here. absurd (not_id listed os name found is h here))
      (λ w. subst (IsUnlistedId listed os) (append_cancel_right w.0 stem (codes ".origin") (sym w.1 ∙ whole)) w.2) u),
)
by_stem listed os name stem found (Err e) is h whole of = tt
