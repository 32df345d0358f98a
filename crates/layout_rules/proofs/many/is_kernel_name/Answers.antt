use Rattle.std.proofs.Common.{◌≡◌, ◌↔◌, ◌-◌, ℕ, Bool, true, false, IsTrue, refl, sym, ◌∙◌, subst, arith, List, length, take, drop, Result, Ok, Err}
use Rattle.std.specs.Prelude.{IfOk}
use Rattle.repo_layout.specs.OsName.{IsOsName}
use Rattle.layout_rules.specs.Many.{IsDashedSum, IsKernelName}
use Rattle.layout_rules.proofs.NameTests.{kernel_back, kernel_front, kernel_long, kernel_of}
use Rattle.layout_rules.proofs.many.is_kernel_name.Goals as goal

never : {A : Type 0} → IsTrue false → A
never t = let n : false ≡ true = t in cc

pub returns-then-name-lt65 : goal.returns-then-name-lt65
returns-then-name-lt65 c = (λ t. never t, λ is. let long = kernel_long c.args.name.now is in let short = c.if-name-lt65.true in absurd (omega (arith, long, short)))

pub returns-then-not-is_dashed_sum : goal.returns-then-not-is_dashed_sum
returns-then-not-is_dashed_sum c = (λ t. never t, λ is. let n : true ≡ false = sym (c.is_dashed_sum.ensures.1 (subst IsDashedSum (sym c.split_at.ensures.back) (kernel_back c.args.name.now is))) ∙ c.if-not-is_dashed_sum.true in cc)

kernel_ok : {E : Type 0} (name : List ℕ) (n : ℕ) (r : Result Bool E) → n ≡ length name - 65 → IsDashedSum (drop n name) → IfOk r (λ b. IsTrue b ↔ IsOsName (take n name)) → IfOk r (λ b. IsTrue b ↔ IsKernelName name)
kernel_ok name n (Ok b) is sum test = (λ t. kernel_of name n (test.0 t) sum, λ k. test.1 (subst (λ i. IsOsName (take i name)) (sym is) (kernel_front name k)))
kernel_ok name n (Err e) is sum test = tt

pub returns : goal.returns
returns c = kernel_ok c.args.name.now (length c.args.name.now - 65) c.is_stateroot.result refl
    (subst IsDashedSum c.split_at.ensures.back (c.is_dashed_sum.ensures.0 c.if-not-is_dashed_sum.false))
    (subst (λ os. IfOk c.is_stateroot.result (λ b. IsTrue b ↔ IsOsName os)) c.split_at.ensures.front c.is_stateroot.ensures)
