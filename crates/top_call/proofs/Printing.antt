-- What was printed, from how the write ended.
use Rattle.std.proofs.Common.{◌≡◌, inl, inr, ℕ, List, [], ◌++◌, Option, Some, None, Result, Ok, Err, OnOk, OnErr, sym, ◌∙◌, ap, subst, append-nil}
use Rattle.fs_trait.specs.Count.{Rose}
use Rattle.script.specs.Lines.{lines_from, replies_text}
use Rattle.script.specs.declared.answer.Reply.{Reply}
use Rattle.top_call.specs.Output.{Wrote, WroteFront}
use Rattle.top_call.specs.Text.{output_of}
use Rattle.top_call.specs.Top.{Prints}

pub prints_from : {T E : Type 0} (r : Result T E) (had bytes text : List ℕ) (before now : ℕ) (taken : Option (List ℕ)) → bytes ≡ text
    → OnOk r (Wrote had bytes taken) → OnErr r (WroteFront had bytes taken) → OnErr r (Rose before now) → Prints had text before now taken
prints_from (Ok x) had bytes text before now taken is whole front cause = inl (subst (λ t. Wrote had t taken) is whole)
prints_from (Err e) had bytes text before now taken is whole front cause = inr (subst (λ t. WroteFront had t taken) is front, cause)

-- no reply has no text
pub silent_prints : (had : List ℕ) (before now : ℕ) (taken : Option (List ℕ)) (lanes : List (List Reply)) → lanes ≡ [] → taken ≡ Some had → Prints had (output_of None lanes) before now taken
unfolding lines_from
silent_prints had before now taken lanes none told = inl (told ∙ ap Some (sym (append-nil had)) ∙ ap (λ l. Some (had ++ replies_text l)) (sym none))
