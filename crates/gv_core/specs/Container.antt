-- A container made of the bytes of its members.
use Rattle.std.specs.Prelude.{◌≡◌, ℕ, Bool, true, ◌&&◌, ◌==◌, List, [], ◌∷◌, length, Option, Some, None, if◌then◌else◌, Result, Ok, Err}
use Rattle.gv_core.specs.declared.fault.GvFault.{GvFault}
use Rattle.gv_core.specs.declared.fault.GvFault.TheVariants.{NoMemory}
use Rattle.gv_core.specs.Kind.{Kind, Kinds, basic, variant, array, maybe, tuple, entry, no_kinds, kind, variant_kind}
use Rattle.gv_core.specs.Measure.{◌>>=◌, fixed}
use Rattle.gv_core.specs.Tree.{Trees, tree, no_trees, leaf, str}
use Rattle.gv_core.specs.Layout.{Part, part, array_of, tuple_of}
use Rattle.gv_core.specs.Reading.{Reader, elements, tuple_at, size_for, inner, pair}

-- as many bytes as a fixed size asks
abbrev pub has_size : Option ℕ → List ℕ → Bool
has_size None r = true
has_size (Some n) r = length r == n

abbrev pub all_sized : Option ℕ → List (List ℕ) → Bool
all_sized o [] = true
all_sized o (r ∷ rs) = has_size o r && all_sized o rs

-- one member of each kind
abbrev pub each_part : Kinds → List (List ℕ) → Option (List Part)
each_part no_kinds [] = Some []
each_part no_kinds (r ∷ rs) = None
each_part (kind k ks) [] = None
each_part (kind k ks) (r ∷ rs) = if has_size (fixed k) r then (each_part ks rs >>= λ ps. Some (part k r ∷ ps)) else None

-- the array, tuple or dictionary entry whose members have these bytes
unfoldable pub container : Kind → List (List ℕ) → Option (List ℕ)
container (basic x) rs = None
container variant rs = None
container (array k) rs = if all_sized (fixed k) rs then array_of k rs else None
container (maybe k) rs = None
container (tuple ks) rs = each_part ks rs >>= tuple_of
container (entry x k) rs = each_part (pair x k) rs >>= tuple_of

abbrev pub container_form : List ℕ → List (List ℕ) → Option (List ℕ)
container_form text rs = variant_kind text >>= λ k. container k rs

-- these members were found, unless memory ran out
abbrev pub Cuts : {X : Type 0} → List (List ℕ) → (X → List (List ℕ)) → Result X GvFault → Type 0
Cuts rs see (Ok v) = see v ≡ rs
Cuts rs see (Err e) = e ≡ NoMemory

-- ---- how a container is cut: each member is taken as it stands

abbrev pub raw : Reader
raw k r = Some (leaf (str r))

abbrev pub raws : List (List ℕ) → Trees
raws [] = no_trees
raws (r ∷ rs) = tree (leaf (str r)) (raws rs)

unfoldable pub cut_of : Kind → List ℕ → Option Trees
cut_of (basic x) bytes = None
cut_of variant bytes = None
cut_of (array k) bytes = elements raw k (fixed k) bytes
cut_of (maybe k) bytes = None
cut_of (tuple ks) bytes = tuple_at raw ks bytes (size_for (length bytes)) (inner ks)
cut_of (entry x k) bytes = tuple_at raw (pair x k) bytes (size_for (length bytes)) (inner (pair x k))
