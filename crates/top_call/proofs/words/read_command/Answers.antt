use Rattle.std.proofs.Common.{◌≡◌, ◌⊎◌, inr, refl, map, Option, Some, None, MatchOption, subst, ◌∙◌}
use Rattle.std.specs.String.{string_bytes}
use Rattle.top_call.specs.Words.{AreNoLone}
use Rattle.top_call.specs.declared.fault.TopFault.TheVariants as fault
use Rattle.top_call.proofs.Texts.{line_texts}
use Rattle.top_call.proofs.words.read_command.Goals as goal

none_text : {X : Type 0} (N : Type 0) (P : X → Type 0) (o : Option X) → MatchOption o N P → o ≡ None → N
none_text N P o match is = subst (λ p. MatchOption p N P) is match

pub returns-in_default : goal.returns-in_default
returns-in_default c = inr (
  refl,
  (λ command is. none_text _ _ c.in_ok-texts.field-0 c.in_ok-texts.ensures c.in_default.is (line_texts _ command is)),
)

some_text : {X : Type 0} (N : Type 0) (P : X → Type 0) (o : Option X) (x : X) → MatchOption o N P → o ≡ Some x → P x
some_text N P o x match is = subst (λ p. MatchOption p N P) is match

pub returns : goal.returns
returns c =
    let same : c.deref.result.now ≡ map (λ word. string_bytes word) c.args.words.now = c.deref.ensures.value ∙ some_text _ _ c.in_ok-texts.field-0 c.in-Some.texts c.in_ok-texts.ensures c.in-Some.is in
    subst (λ words. (c.fault_of.result ≡ fault.NoMemory) ⊎ ((c.fault_of.result ≡ fault.Usage) × AreNoLone words)) same (c.fault_of.ensures c.deref.result.now c.in-Err.ensures)
