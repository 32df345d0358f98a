-- Below the folder of refs each path of names is a ref's place.
use Rattle.std.proofs.Common.{◌≡◌, ◌≢◌, ◌==◌, ◌<◌, ℕ, Bool, true, false, List, [], ◌∷◌, ◌++◌, length, take, All, cond, arith, refl, sym, ◌∙◌, ap}
use Rattle.std.specs.List.{onto_first}
use Rattle.std.proofs.lemmas.Bool.Decides.{nat_tests}
use Rattle.std.proofs.lemmas.List.{length-take}
use Rattle.std.proofs.lemmas.List.Elements.{All-head, All-tail}
use Rattle.ost_types.specs.Path.{Name, Path, AreNames, IsPath, joined}
use Rattle.repo_layout.specs.RefName.{IsRefName, parts_of}
use Rattle.repo_layout.specs.Paths.{heads, ref_path}
use Rattle.repo_layout.specs.Place.{Ref, place}
use Rattle.repo_layout.proofs.Places.{place-ref}
use Rattle.repo_layout.proofs.KnownPaths.{ref-known}
use Rattle.ref_room.specs.Clash.{way_to}
use Rattle.ref_room.proofs.Names.{way_to-path}

abbrev pub NoSlash : List ℕ → Type 0
NoSlash x = All (λ b. b ≢ 47) x

-- a name in front of such text is its first part
name_front : (x t : List ℕ) (parts : Path) → NoSlash x → parts_of t ≡ [] ∷ parts → parts_of (x ++ t) ≡ x ∷ parts
name_front [] t parts free e = e
name_front (c ∷ x) t parts free e = by (c == 47) refl (name_front x t parts (All-tail (λ b. b ≢ 47) c x free) e)
  where
    by : (b : Bool) → (c == 47) ≡ b → parts_of (x ++ t) ≡ x ∷ parts → cond b ([] ∷ parts_of (x ++ t)) (onto_first c (parts_of (x ++ t))) ≡ (c ∷ x) ∷ parts
    by true is rest = let n : c ≡ 47 = grind (arith, nat_tests) in absurd (All-head (λ b. b ≢ 47) c x free n)
    by false is rest = ap (onto_first c) rest

parts_joined : (rest : Path) → AreNames rest → parts_of (joined rest) ≡ [] ∷ rest
unfolding joined
parts_joined [] names = refl
parts_joined (y ∷ rest) names = ap (λ (l : Path). [] ∷ l) (name_front y (joined rest) rest names.0.no_slash (parts_joined rest names.1))

-- the name of which these are the parts
named_parts : (part : Name) (rest : Path) → AreNames (part ∷ rest) → parts_of (part ++ joined rest) ≡ part ∷ rest
named_parts part rest names = name_front part (joined rest) rest names.0.no_slash (parts_joined rest names.1)

ref_of : (part : Name) (rest : Path) → AreNames (part ∷ rest) → ref_path (part ++ joined rest) ≡ heads ++ part ∷ rest
unfolding ref_path
ref_of part rest names = ap (λ (q : Path). heads ++ q) (named_parts part rest names)

pub placed_below : (rest : Path) → 0 < length rest → AreNames (heads ++ rest) → (name : List ℕ) × (place (heads ++ rest) ≡ Ref name)
placed_below [] some names = absurd (omega (arith, some))
placed_below (part ∷ rest) some names = (part ++ joined rest, ap place (sym (ref_of part rest names.1.1.1.1)) ∙ place-ref (part ++ joined rest))

pub path_of_ref : (name : List ℕ) → IsRefName name → IsPath (ref_path name)
path_of_ref name named = let k = ref-known name named in record { names = k.names; few = omega (arith, k.few); short = omega (arith, k.short) }

-- a folder on the way to a ref
pub placed_way : (name : List ℕ) (k : ℕ) → IsRefName name → 0 < k → k < length (parts_of name) → (other : List ℕ) × (place (way_to k name) ≡ Ref other)
unfolding way_to
placed_way name k named some few =
    let path = way_to-path k name (path_of_ref name named) in
    placed_below (take k (parts_of name)) (omega (arith, some, few, length-take k (parts_of name))) path.names
