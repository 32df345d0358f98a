-- Where a commit stands that is what its name says there is a regular file: no bytes are a commit.
use Rattle.std.proofs.Common.{◌≡◌, ◌≤◌, ◌+◌, ℕ, Bool, true, false, cond, refl, sym, ap, subst, arith, replicate, List, [], ◌∷◌, ◌++◌, length, length-append, Some, IsSome}
use Rattle.std.specs.Prelude.{◌^◌, nat_lt, option_and_then}
use Rattle.std.specs.Option.{is_some}
use Rattle.std.specs.Int.{w64, to_be_bytes}
use Rattle.std.proofs.Math.Logic.{∥∥₁_elim}
use Rattle.ost_types.specs.declared.object.Kind.TheVariants as kind
use Rattle.gv_core.specs.Container.{all_sized, container, container_form, each_part, has_size}
use Rattle.gv_core.specs.Kind as gv
use Rattle.gv_core.specs.Kind.{variant_kind}
use Rattle.gv_core.specs.Layout.{Part, all_fixed, array_of, body, end_of, ends, fixed_tuple, inner_ends, offset_size, part, parts, sized, table, table_back, tuple_of, widest_of}
use Rattle.gv_core.specs.Measure.{alignment, fixed, gap}
use Rattle.gv_core.specs.Reading.{pair}
use Rattle.gv_core.proofs.Sizes.{bind_some, none_some, some_is, test_some}
use Rattle.ost_forms.specs.Commit.{CommitParts, HasCommitSums, commit_form}
use Rattle.ost_forms.proofs.Commits.{commit_members}
use Rattle.ost_forms.proofs.Types.{if_then}
use Rattle.ost_objects.specs.Object.{HasForm}
use Rattle.fs_trait.specs.Seen.{Seen, Vacant, Directory, Symlink, Leaf, bytes_in}
use Rattle.repo_model.specs.Trees.{name_of}
use Rattle.durable_store.specs.Standing.{IsSoundSeen}

-- the bytes of all members
abbrev pub total : List (List ℕ) → ℕ
total [] = 0
total (r ∷ rs) = length r + total rs

-- no part is shorter than its members
body_long : (ks : gv.Kinds) (rs : List (List ℕ)) (ps : List Part) (n : ℕ) → each_part ks rs ≡ Some ps → total rs ≤ length (body n ps)
body_long gv.no_kinds [] ps n e = omega arith
body_long gv.no_kinds (r ∷ rs) ps n e = none_some ps (total (r ∷ rs) ≤ length (body n ps)) e
body_long (gv.kind k ks) [] ps n e = omega arith
body_long (gv.kind k ks) (r ∷ rs) ps n e =
    let p = if_then (has_size (fixed k) r) (option_and_then (λ qs. Some (part k r ∷ qs)) (each_part ks rs)) ps e in
    let q = bind_some (each_part ks rs) (λ qs. Some (part k r ∷ qs)) ps p.1 in
    let rest = body_long ks rs q.0 (end_of n (part k r)) q.1 in
    subst (λ (x : List Part). total (r ∷ rs) ≤ length (body n x)) (some_is (part k r ∷ q.0) ps q.2)
    (omega (arith, rest, length-append (replicate (gap (part k r).align n) 0) (r ++ body (end_of n (part k r)) q.0), length-append r (body (end_of n (part k r)) q.0)))

fixed_long : (ps : List Part) → length (body 0 ps) ≤ length (fixed_tuple ps)
fixed_long [] = omega arith
fixed_long (p ∷ ps) = omega (arith, length-append (body 0 (p ∷ ps)) (replicate (gap (widest_of (p ∷ ps)) (length (body 0 (p ∷ ps)))) 0))

tuple_long : (ps : List Part) (bytes : List ℕ) → tuple_of ps ≡ Some bytes → length (body 0 ps) ≤ length bytes
tuple_long ps bytes e = by (all_fixed ps) e
  where
    framed : ℕ → List ℕ
    framed s = body 0 ps ++ table_back s (inner_ends 0 ps)

    by : (b : Bool) → cond b (sized (fixed_tuple ps)) (option_and_then (λ s. Some (framed s)) (offset_size (length (body 0 ps)) (length (inner_ends 0 ps)))) ≡ Some bytes → length (body 0 ps) ≤ length bytes
    by true is = omega (arith, fixed_long ps, ap length (test_some (nat_lt (length (fixed_tuple ps)) (2 ^ 64)) (fixed_tuple ps) bytes is).1)
    by false is =
        let q = bind_some (offset_size (length (body 0 ps)) (length (inner_ends 0 ps))) (λ s. Some (framed s)) bytes is in
        omega (arith, ap length (some_is (framed q.0) bytes q.2), length-append (body 0 ps) (table_back q.0 (inner_ends 0 ps)))

parts_long : (align : ℕ) (fixed_size : Bool) (rs : List (List ℕ)) (n : ℕ) → total rs ≤ length (body n (parts align fixed_size rs))
parts_long align fixed_size [] n = omega arith
parts_long align fixed_size (r ∷ rs) n =
    let p : Part = record { align = align; fixed = fixed_size; bytes = r } in
    let rest = parts_long align fixed_size rs (end_of n p) in
    omega (arith, rest, length-append (replicate (gap align n) 0) (r ++ body (end_of n p) (parts align fixed_size rs)), length-append r (body (end_of n p) (parts align fixed_size rs)))

array_long : (k : gv.Kind) (rs : List (List ℕ)) (bytes : List ℕ) → array_of k rs ≡ Some bytes → total rs ≤ length bytes
array_long k rs bytes e = by (is_some (fixed k)) (parts_long (alignment k) (is_some (fixed k)) rs 0) e
  where
    ps : List Part
    ps = parts (alignment k) (is_some (fixed k)) rs

    framed : ℕ → List ℕ
    framed s = body 0 ps ++ table s (ends 0 ps)

    by : (b : Bool) → total rs ≤ length (body 0 ps) → cond b (sized (body 0 ps)) (option_and_then (λ s. Some (framed s)) (offset_size (length (body 0 ps)) (length rs))) ≡ Some bytes → total rs ≤ length bytes
    by true long is = omega (arith, long, ap length (test_some (nat_lt (length (body 0 ps)) (2 ^ 64)) (body 0 ps) bytes is).1)
    by false long is =
        let q = bind_some (offset_size (length (body 0 ps)) (length rs)) (λ s. Some (framed s)) bytes is in
        omega (arith, long, ap length (some_is (framed q.0) bytes q.2), length-append (body 0 ps) (table q.0 (ends 0 ps)))

-- a container has all bytes of its members
container_long : (k : gv.Kind) (rs : List (List ℕ)) (bytes : List ℕ) → container k rs ≡ Some bytes → total rs ≤ length bytes
unfolding container
container_long (gv.basic x) rs bytes e = none_some bytes (total rs ≤ length bytes) e
container_long gv.variant rs bytes e = none_some bytes (total rs ≤ length bytes) e
container_long (gv.maybe k) rs bytes e = none_some bytes (total rs ≤ length bytes) e
container_long (gv.array k) rs bytes e = array_long k rs bytes (if_then (all_sized (fixed k) rs) (array_of k rs) bytes e).1
container_long (gv.tuple ks) rs bytes e =
    let q = bind_some (each_part ks rs) tuple_of bytes e in
    omega (arith, body_long ks rs q.0 0 q.1, tuple_long q.0 bytes q.2)
container_long (gv.entry x k) rs bytes e =
    let q = bind_some (each_part (pair x k) rs) tuple_of bytes e in
    omega (arith, body_long (pair x k) rs q.0 0 q.1, tuple_long q.0 bytes q.2)

-- so has the form of a type
pub members_long : (text : List ℕ) (rs : List (List ℕ)) (bytes : List ℕ) → container_form text rs ≡ Some bytes → total rs ≤ length bytes
members_long text rs bytes e =
    let k = bind_some (variant_kind text) (λ k. container k rs) bytes e in
    container_long k.0 rs bytes k.2

-- a commit names a folder's attributes, by 32 bytes
not_commit : (c : CommitParts) → HasCommitSums c → commit_form c ≡ Some [] → ⊥
not_commit c sums form =
    let m = commit_members c [] form in
    let long = members_long _ (m.0 ∷ c.parent ∷ m.1 ∷ m.2 ∷ m.3 ∷ to_be_bytes w64 c.time ∷ c.tree ∷ c.meta ∷ []) [] m.4.whole in
    omega (arith, long, sums.meta)

pub no_bytes : (content : ℕ) (bytes : List ℕ) → Some [] ≡ Some bytes → HasForm kind.Commit content bytes → ⊥
no_bytes content bytes is formed = ∥∥₁_elim (subst (HasForm kind.Commit content) (sym (some_is [] bytes is)) formed) (λ x y. absurd x) (λ c. not_commit c.0 c.1.1 c.1.0.form)

pub commit_file : (content : ℕ) (commit : List ℕ) (s : Seen) → IsSoundSeen content (name_of kind.Commit commit) s → IsSome (bytes_in s)
commit_file content commit Vacant is = none_some is.bytes (IsSome (bytes_in Vacant)) is.holds
commit_file content commit (Directory m) is = absurd (no_bytes content is.bytes is.holds is.formed)
commit_file content commit (Symlink m target) is = absurd (no_bytes content is.bytes is.holds is.formed)
commit_file content commit (Leaf n m bytes) is = refl
