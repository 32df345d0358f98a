-- The order of the names of objects.
use Rattle.std.proofs.Common.{◌≡◌, ◌∙◌, ℕ, arith, List, refl, ap, subst}
use mathlib.Core.Path.{fun_ext}
use Rattle.std.specs.Cmp.{IsTotalOrder, on_total, then_total}
use Rattle.std.specs.Cmp.Lexicographic.{slice_cmp}
use Rattle.std.specs.Ordering.{nat_cmp, ordering_then}
use Rattle.std.specs.declared.cmp.Ordering.{Ordering}
use Rattle.std.specs.declared.cmp.Ordering.TheVariants.{Less, Equal, Greater}
use Rattle.std.proofs.lemmas.Cmp.{nat_cmp_total, nat_list_cmp_total}
use Rattle.std.specs.FinMap.{nat_cmp-IsAntisymmetric, slice_cmp-IsAntisymmetric}
use Rattle.ost_types.specs.declared.object.Kind.{Kind}
use Rattle.ost_types.specs.declared.object.Kind.TheVariants.{Commit, DirTree, DirMeta, File}
use Rattle.ost_types.specs.declared.object.ObjName.{ObjName}
use Rattle.ost_types.specs.contracts.object.ObjNameOrd.TheImpl as ord
use Rattle.obj_store.specs.Listing.{kind_rank, name_cmp, then_by}

-- the order of names is the one that their fields have
by_kind : (s u : List ℕ) (k l : Kind) → (ord.cmp-value).it (record { csum = s; kind = k }) (record { csum = u; kind = l }) ≡ name_cmp (record { csum = s; kind = k }) (record { csum = u; kind = l })
by_kind s u Commit Commit = refl
by_kind s u Commit DirTree = refl
by_kind s u Commit DirMeta = refl
by_kind s u Commit File = refl
by_kind s u DirTree Commit = refl
by_kind s u DirTree DirTree = refl
by_kind s u DirTree DirMeta = refl
by_kind s u DirTree File = refl
by_kind s u DirMeta Commit = refl
by_kind s u DirMeta DirTree = refl
by_kind s u DirMeta DirMeta = refl
by_kind s u DirMeta File = refl
by_kind s u File Commit = refl
by_kind s u File DirTree = refl
by_kind s u File DirMeta = refl
by_kind s u File File = refl

pub same_cmp : (ord.cmp-value).it ≡ name_cmp
same_cmp = fun_ext (λ a. fun_ext (λ b. by_kind a.csum b.csum a.kind b.kind))

-- it is total
then_same : (a b : Ordering) → ordering_then a b ≡ then_by a b
then_same Less b = refl
then_same Equal b = refl
then_same Greater b = refl

sums_of : ObjName → List ℕ
sums_of o = o.csum

rank_of : ObjName → ℕ
rank_of o = kind_rank o.kind

pub name_order : IsTotalOrder name_cmp
unfolding sums_of rank_of
name_order = subst (λ r. IsTotalOrder r)
    (fun_ext (λ a. fun_ext (λ b. then_same (slice_cmp nat_cmp a.csum b.csum) (nat_cmp (kind_rank a.kind) (kind_rank b.kind)))))
    (then_total (on_total sums_of nat_list_cmp_total) (on_total rank_of nat_cmp_total))

one_rank : (k l : Kind) → kind_rank k ≡ kind_rank l → k ≡ l
one_rank Commit Commit e = refl
one_rank Commit DirTree e = absurd (omega (arith, e))
one_rank Commit DirMeta e = absurd (omega (arith, e))
one_rank Commit File e = absurd (omega (arith, e))
one_rank DirTree Commit e = absurd (omega (arith, e))
one_rank DirTree DirTree e = refl
one_rank DirTree DirMeta e = absurd (omega (arith, e))
one_rank DirTree File e = absurd (omega (arith, e))
one_rank DirMeta Commit e = absurd (omega (arith, e))
one_rank DirMeta DirTree e = absurd (omega (arith, e))
one_rank DirMeta DirMeta e = refl
one_rank DirMeta File e = absurd (omega (arith, e))
one_rank File Commit e = absurd (omega (arith, e))
one_rank File DirTree e = absurd (omega (arith, e))
one_rank File DirMeta e = absurd (omega (arith, e))
one_rank File File e = refl

both_equal : (x y : Ordering) → then_by x y ≡ Equal → (x ≡ Equal) × (y ≡ Equal)
both_equal Equal y e = (refl, e)
both_equal Less y e = let n : Less ≡ Equal = e in cc
both_equal Greater y e = let n : Greater ≡ Equal = e in cc

-- only a name itself is equal to it
pub equal_names : (a b : ObjName) → name_cmp a b ≡ Equal → a ≡ b
equal_names a b e =
    let both = both_equal _ _ e in
    let s : a.csum ≡ b.csum = slice_cmp-IsAntisymmetric nat_cmp-IsAntisymmetric a.csum b.csum both.0 in
    let k : a.kind ≡ b.kind = one_rank a.kind b.kind (nat_cmp-IsAntisymmetric (kind_rank a.kind) (kind_rank b.kind) both.1) in
    ap (λ x. record { csum = x; kind = a.kind }) s ∙ ap (λ y. record { csum = b.csum; kind = y }) k
