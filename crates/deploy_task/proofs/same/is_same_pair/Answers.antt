use Rattle.std.proofs.Common.{◌≡◌, ◌≢◌, true, false, refl, sym, ◌∙◌, ap}
use Rattle.ost_types.specs.declared.node.NodeName.{NodeName}
use Rattle.ost_types.specs.Path.{Path, same_name}
use Rattle.std.specs.Bool.{Decides}
use Rattle.std.specs.Cmp.Lexicographic.{pointwise}
use Rattle.std.proofs.lemmas.Slice.Eq.{slice_eq-Decides}
use Rattle.ost_types.proofs.Paths.{same_name-Decides}
use Rattle.deploy_task.proofs.same.is_same_pair.Goals as goal

paths_decide : (p q : Path) → Decides (pointwise same_name p q) (p ≡ q)
paths_decide p q = slice_eq-Decides same_name-Decides p q _ refl

pair_same : (a b : Path × NodeName) → a.0 ≡ b.0 → a.1 ≡ b.1 → a ≡ b
pair_same a b path node = ap (λ p. (p, a.1)) path ∙ ap (λ n. (b.0, n)) node

paths_apart : (a b : Path × NodeName) → a.0 ≢ b.0 → a ≢ b
paths_apart a b apart same = apart (ap (λ (e : Path × NodeName). e.0) same)

pub returns-then-eq : goal.returns-then-eq
returns-then-eq c =
    let test = paths_decide c.args.one.now.0 c.args.other.now.0 in
    let path : c.args.one.now.0 ≡ c.args.other.now.0 = test.0 (sym c.eq.ensures ∙ c.if-eq.true) in (
      λ t. pair_same c.args.one.now c.args.other.now path (c.is_same.ensures.0 t),
      λ same. c.is_same.ensures.1 (ap (λ (e : Path × NodeName). e.1) same),
    )

pub returns-else-eq : goal.returns-else-eq
returns-else-eq c =
    let test = paths_decide c.args.one.now.0 c.args.other.now.0 in
    let apart : c.args.one.now.0 ≢ c.args.other.now.0 = λ same. let n : true ≡ false = sym (test.1 same) ∙ sym c.eq.ensures ∙ c.if-eq.false in cc in (
      λ t. absurd (let n : true ≡ false = sym t ∙ c.if-eq.false in cc),
      λ same. absurd (paths_apart c.args.one.now c.args.other.now apart same),
    )
