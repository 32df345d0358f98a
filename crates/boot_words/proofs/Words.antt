-- From the parts of a text to the link, or the deployment, that it names.
use Rattle.std.proofs.Common.{◌≡◌, ◌≢◌, ◌<◌, ◌+◌, ℕ, zero, suc, List, [], ◌∷◌, ◌++◌, slice_index, Option, Some, None, Result, Ok, Err, IfOk, MatchOption, refl, sym, ◌∙◌, ap, subst, append_assoc, arith, codes}
use Rattle.std.specs.Fmt.{decimal, digits}
use Rattle.ost_types.specs.Csum.{hex_of}
use Rattle.ost_types.specs.Path.{Name}
use Rattle.repo_layout.specs.declared.fixed.Version.{Version}
use Rattle.repo_layout.specs.declared.fixed.Version.TheVariants.{Zero, One}
use Rattle.repo_layout.specs.Fixed.{number}
use Rattle.repo_layout.specs.OsName.{IsOsName}
use Rattle.boot_model.specs.declared.item.DepId.{DepId}
use Rattle.boot_model.specs.Entries.{deploy_target, named_link, named_version}
use Rattle.boot_words.specs.declared.word.NamedLink.{NamedLink}
use Rattle.boot_words.specs.Parts.{AreNoParts, AreParts}
use Rattle.boot_words.specs.Words.{IsNamedLink, LeadsNowhere, LeadsTo, LedOnce, NamedOnce, NamesLink, NamesNoLink, NamesNone}
use Rattle.boot_words.proofs.Splits.{os_plain, parts_once}

pub small_version : (v : Version) → number v < 2
small_version Zero = omega arith
small_version One = omega arith

-- ---- words

link_text : (v : ℕ) (os : Name) (sum : List ℕ) (n : ℕ) → named_link v os sum n ≡ named_version v ++ (os ++ 47 ∷ (hex_of sum ++ 47 ∷ decimal n))
link_text v os sum n = append_assoc (named_version v ++ os) (47 ∷ hex_of sum) (47 ∷ decimal n) ∙ append_assoc (named_version v) os (47 ∷ (hex_of sum ++ 47 ∷ decimal n))

link_parts : (text : List ℕ) (v : ℕ) (os : Name) (sum : List ℕ) (n : ℕ) → NamesLink text v os sum n → AreParts text (named_version v) [] 47 os sum n
link_parts text v os sum n is = record { plain = os_plain os is.stateroot; sum_is = is.sum; small = is.small; whole = is.whole ∙ link_text v os sum n }

pub no_parts : (text front : List ℕ) (v : ℕ) → front ≡ named_version v → AreNoParts text front [] 47 → NamesNoLink text v
no_parts text front v front_is none = λ os sum n is. none os sum n (subst (λ f. AreParts text f [] 47 os sum n) (sym front_is) (link_parts text v os sum n is))

pub no_name : (text front : List ℕ) (v : ℕ) (os sum : List ℕ) (n : ℕ) → front ≡ named_version v → AreParts text front [] 47 os sum n → ¬ (IsOsName os) → NamesNoLink text v
no_name text front v os sum n front_is are other = λ pt b m is.
    let same = parts_once text front [] 47 os pt sum b n m (omega arith) are (subst (λ f. AreParts text f [] 47 pt b m) (sym front_is) (link_parts text v pt b m is)) in
    other (subst IsOsName (sym same.0) is.stateroot)

pub link_there : (text front : List ℕ) (v : Version) (os sum : List ℕ) (n : ℕ) → front ≡ named_version (number v) → AreParts text front [] 47 os sum n → IsOsName os → NamesLink text (number v) os sum n
link_there text front v os sum n front_is are name = record {
  known = small_version v;
  stateroot = name;
  sum = are.sum_is;
  small = are.small;
  whole = are.whole ∙ ap (λ f. f ++ (os ++ 47 ∷ (hex_of sum ++ 47 ∷ decimal n))) front_is ∙ sym (link_text (number v) os sum n);
}

pub none_of_both : (text : List ℕ) → NamesNoLink text 0 → NamesNoLink text 1 → NamesNone text
none_of_both text first second zero os sum n is = first os sum n is
none_of_both text first second (suc zero) os sum n is = second os sum n is
none_of_both text first second (suc (suc v)) os sum n is = absurd (let small = is.known in omega (arith, small))

pub in_either : {E : Type 0} (text : List ℕ) (r : Result (Option NamedLink) E) → NamesNoLink text 0 → IfOk r (λ o. MatchOption o (NamesNoLink text 1) (IsNamedLink text)) → IfOk r (λ o. MatchOption o (NamesNone text) (IsNamedLink text))
in_either text (Ok (Some link)) first h = h
in_either text (Ok None) first h = none_of_both text first h
in_either text (Err e) first h = tt

link_once : (text : List ℕ) (v : ℕ) (os pt : Name) (a b : List ℕ) (m n : ℕ) → NamesLink text v os a m → NamesLink text v pt b n → (os ≡ pt) × (a ≡ b) × (m ≡ n)
link_once text v os pt a b m n p q = parts_once text (named_version v) [] 47 os pt a b m n (omega arith) (link_parts text v os a m p) (link_parts text v pt b n q)

apart : (x y : List ℕ) → named_version 0 ++ x ≢ named_version 1 ++ y
unfolding digits
apart x y e = let h : 48 ≡ 49 = ap (λ l. slice_index l 13) e in omega (arith, h)

pub named_once : NamedOnce
named_once text zero zero os pt a b m n p q = let t = link_once text 0 os pt a b m n p q in (refl, t.0, t.1, t.2)
named_once text (suc zero) (suc zero) os pt a b m n p q = let t = link_once text 1 os pt a b m n p q in (refl, t.0, t.1, t.2)
named_once text zero (suc zero) os pt a b m n p q = absurd (apart (os ++ 47 ∷ (hex_of a ++ 47 ∷ decimal m)) (pt ++ 47 ∷ (hex_of b ++ 47 ∷ decimal n)) (sym (p.whole ∙ link_text 0 os a m) ∙ q.whole ∙ link_text 1 pt b n))
named_once text (suc zero) zero os pt a b m n p q = absurd (apart (pt ++ 47 ∷ (hex_of b ++ 47 ∷ decimal n)) (os ++ 47 ∷ (hex_of a ++ 47 ∷ decimal m)) (sym (q.whole ∙ link_text 0 pt b n) ∙ p.whole ∙ link_text 1 os a m))
named_once text (suc (suc v)) w os pt a b m n p q = absurd (let small = p.known in omega (arith, small))
named_once text zero (suc (suc w)) os pt a b m n p q = absurd (let small = q.known in omega (arith, small))
named_once text (suc zero) (suc (suc w)) os pt a b m n p q = absurd (let small = q.known in omega (arith, small))

-- ---- targets

abbrev front : List ℕ
front = codes "../../../deploy/"

target_text : (id : DepId) → deploy_target id ≡ front ++ (id.os ++ 47 ∷ (codes "deploy/" ++ (hex_of id.commit ++ 46 ∷ decimal id.serial)))
unfolding deploy_target
target_text id =
    append_assoc (front ++ id.os ++ codes "/deploy/") (hex_of id.commit) (46 ∷ decimal id.serial)
    ∙ append_assoc (front ++ id.os) (codes "/deploy/") (hex_of id.commit ++ 46 ∷ decimal id.serial)
    ∙ append_assoc front id.os (codes "/deploy/" ++ (hex_of id.commit ++ 46 ∷ decimal id.serial))

target_parts : (target : List ℕ) (id : DepId) → LeadsTo target id → AreParts target front (codes "deploy/") 46 id.os id.commit id.serial
target_parts target id is = record { plain = os_plain id.os is.stateroot; sum_is = is.sum; small = is.small; whole = is.whole ∙ target_text id }

pub no_target : (target : List ℕ) → AreNoParts target front (codes "deploy/") 46 → LeadsNowhere target
no_target target none = λ id is. none id.os id.commit id.serial (target_parts target id is)

pub no_stateroot : (target os sum : List ℕ) (n : ℕ) → AreParts target front (codes "deploy/") 46 os sum n → ¬ (IsOsName os) → LeadsNowhere target
no_stateroot target os sum n are other = λ id is.
    let same = parts_once target front (codes "deploy/") 46 os id.os sum id.commit n id.serial (omega arith) are (target_parts target id is) in
    other (subst IsOsName (sym same.0) is.stateroot)

pub target_there : (target : List ℕ) (id : DepId) → AreParts target front (codes "deploy/") 46 id.os id.commit id.serial → IsOsName id.os → LeadsTo target id
target_there target id are name = record { stateroot = name; sum = are.sum_is; small = are.small; whole = are.whole ∙ sym (target_text id) }

pub led_once : LedOnce
led_once target a b p q =
    let same = parts_once target front (codes "deploy/") 46 a.os b.os a.commit b.commit a.serial b.serial (omega arith) (target_parts target a p) (target_parts target b q) in
    ap (λ os. record { os = os; commit = a.commit; serial = a.serial }) same.0 ∙ ap (λ commit. record { os = b.os; commit = commit; serial = a.serial }) same.1 ∙ ap (λ serial. record { os = b.os; commit = b.commit; serial = serial }) same.2
