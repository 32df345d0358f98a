-- Refs in a list, ascending by their names, and those that the disk has.
use Rattle.std.proofs.Common.{◌≡◌, ◌<◌, ℕ, zero, suc, Bool, true, false, refl, sym, ◌∙◌, ap, subst, arith, List, [], ◌∷◌, length, get_or, map, Some, None, if◌then◌else◌}
use Rattle.std.specs.Prelude.{Contains}
use Rattle.std.specs.Cmp.Lexicographic.{slice_cmp, texts_ties}
use Rattle.std.specs.Ordering.{nat_cmp, is_eq}
use Rattle.std.specs.declared.cmp.Ordering.{Ordering}
use Rattle.std.specs.declared.cmp.Ordering.TheVariants.{Less}
use Rattle.std.specs.List.Sorted.{IsStrictlySortedBy}
use Rattle.std.proofs.lemmas.List.{get_or-map, length-map}
use Rattle.std.proofs.lemmas.Map.Keys.{Less-from_sorted, sorted_tail}
use Rattle.ost_types.specs.Path.{same_name}
use Rattle.ost_types.specs.declared.object.ObjName.{ObjName}
use Rattle.ost_types.proofs.Paths.{same_name-Decides}
use Rattle.fs_trait.specs.View.{Disk}
use Rattle.fs_trait.specs.Seen.{shows}
use Rattle.fs_trait.proofs.Claims.{reads_shows}
use Rattle.repo_layout.specs.Paths.{ref_path}
use Rattle.repo_layout.specs.Refs.{Names}
use Rattle.rely_guarantee.specs.State.{RefOf, Said, first}
use Rattle.rely_guarantee.specs.Disks.{Logical, Says}
use Rattle.rely_guarantee.proofs.States.{says_one}
use Rattle.store_check.specs.Refs as listed
use Rattle.store_check.specs.Refs.{Ref}
use Rattle.sys_open.specs.Damages.{AreFounded, IsFirstUnfounded}
use Rattle.sys_open.specs.Opening.{AreAscending}

abbrev order : List ℕ → List ℕ → Ordering
order = slice_cmp nat_cmp

abbrev key : Ref → List ℕ
key r = r.0

not_less_self : (a : List ℕ) → order a a ≡ Less → ⊥
not_less_self a e =
    let same : same_name a a ≡ true = (same_name-Decides a a).1 refl in
    let n : false ≡ true = sym (ap is_eq e) ∙ sym (texts_ties a a) ∙ same in
    cc

other_name : (a b : List ℕ) → order a b ≡ Less → same_name b a ≡ false
other_name a b less = by (same_name b a) refl
  where
    by : (t : Bool) → same_name b a ≡ t → same_name b a ≡ false
    by false e = e
    by true e = absurd (not_less_self a (subst (λ x. order a x ≡ Less) ((same_name-Decides b a).0 e) less))

first_here : (e r : Ref) (es : List Ref) → e ≡ r → first (e ∷ es) (RefOf r.0) ≡ Some r.1
first_here e r es is =
    let same : same_name r.0 e.0 ≡ true = (same_name-Decides r.0 e.0).1 (ap key (sym is)) in
    rw same (ap (λ (x : Ref). Some x.1) is)

-- the list says of each name what stands there,
first_at : (refs : List Ref) (k : ℕ) (r : Ref) → IsStrictlySortedBy order (map key refs) → k < length refs → get_or refs k r ≡ r → first refs (RefOf r.0) ≡ Some r.1
first_at [] k r sorted less is = absurd (omega (arith, less))
first_at (e ∷ es) zero r sorted less is = first_here e r es is
first_at (e ∷ es) (suc k) r sorted less is =
    let inside : k < length es = omega (arith, less) in
    let all : suc k < length (map key (e ∷ es)) = omega (arith, less, length-map (e ∷ es) key) in
    let at : get_or (map key (e ∷ es)) (suc k) r.0 ≡ r.0 = get_or-map key (e ∷ es) (suc k) r r.0 less ∙ ap key is in
    let below : order e.0 r.0 ≡ Less = subst (λ x. order e.0 x ≡ Less) at (Less-from_sorted order (map key (e ∷ es)) 0 (suc k) r.0 sorted (omega arith) all) in
    rw (other_name e.0 r.0 below) (first_at es k r (sorted_tail order e.0 (map key es) sorted) inside is)

pub first_among : (refs : List Ref) (r : Ref) → AreAscending refs → Contains refs r → first refs (RefOf r.0) ≡ Some r.1
first_among refs r ascending has = first_at refs has.0 r ascending has.1 has.2

-- and what it says stands there
pub first_contains : (refs : List Ref) (name commit : List ℕ) → first refs (RefOf name) ≡ Some commit → Contains refs (name, commit)
first_contains [] name commit is = let n : None ≡ Some commit = is in cc
first_contains (e ∷ es) name commit is = by (same_name name e.0) refl (first_contains es name commit)
  where
    by : (t : Bool) → same_name name e.0 ≡ t → (first es (RefOf name) ≡ Some commit → Contains es (name, commit)) → Contains (e ∷ es) (name, commit)
    by true same later =
        let here : Some e.1 ≡ Some commit = ap (λ b. if b then Some e.1 else first es (RefOf name)) (sym same) ∙ is in
        let value : e.1 ≡ commit = cc in
        let names : name ≡ e.0 = (same_name-Decides name e.0).0 same in
        (0, omega arith, subst (λ x. e ≡ (x, commit)) (sym names) (subst (λ x. e ≡ (e.0, x)) value refl))
    by false other later =
        let below = later (ap (λ b. if b then Some e.1 else first es (RefOf name)) (sym other) ∙ is) in
        (suc below.0, omega (arith, below.1), below.2)

module _ (d : Disk) (refs : List Ref) (ascending : AreAscending refs) (logical : Logical d (first refs)) where
  pub names_of : (r : Ref) → Contains refs r → Names d r.0 r.1
  names_of r has =
      let says : Says (RefOf r.0) (Some r.1) (shows d (ref_path r.0)) = subst (λ (x : Said). Says (RefOf r.0) x (shows d (ref_path r.0))) (first_among refs r ascending has) (logical (RefOf r.0)) in
      record { sum = says.0; file = reads_shows d (ref_path r.0) ∙ says.1 }

  pub among_names : (name commit : List ℕ) → Names d name commit → Contains refs (name, commit)
  among_names name commit names =
      first_contains refs name commit (says_one (RefOf name) (first refs (RefOf name)) (Some commit) (shows d (ref_path name)) (logical (RefOf name)) (names.sum, sym (reads_shows d (ref_path name)) ∙ names.file))

  pub all_founded : listed.AreFounded d refs → AreFounded d
  all_founded each name commit names = each (name, commit) (among_names name commit names)

  pub first_unfounded : (p : List (List ℕ)) (object : ObjName) → listed.IsFirstUnfounded d refs p object → IsFirstUnfounded d p object
  first_unfounded p object u = record {
    name = u.ref.0;
    commit = u.ref.1;
    names = names_of u.ref u.among;
    path = u.path;
    lacks = u.names;
    wrong = u.wrong;
    least = λ other target names less. u.least (other, target) (among_names other target names) less;
  }
