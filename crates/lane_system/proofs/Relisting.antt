-- Which deployments boot behind an act.
use Rattle.std.proofs.Common.{◌≡◌, inl, inr, ℕ, refl, sym, ◌∙◌, ap, subst}
use Rattle.rely_guarantee.specs.declared.books.Books as rust
use Rattle.rely_guarantee.specs.declared.kind.Outcome.{Outcome}
use Rattle.rely_guarantee.specs.declared.kind.Outcome.TheVariants as came
use Rattle.rely_guarantee.specs.Books.{books_of}
use Rattle.rely_guarantee.specs.Laws.{Kind, IsMakeDurable}
use Rattle.rely_guarantee.specs.State.{list_in, next_list, opening_state}
use Rattle.rely_guarantee.proofs.States.{list_push}
use Rattle.command.specs.Sees.{listed_behind, same_behind}
use Rattle.lane_system.specs.States.{now_of}
use Rattle.lane_system.proofs.Endings.{Ends}

-- behind the last step of a command
pub listed_at : (lane number moment : ℕ) (old new : rust.Books) → new.start ≡ old.start → (k : Kind) (outcome : Outcome) → outcome ≡ came.Done → Ends lane number moment old new k outcome → (now_of new).deployments ≡ listed_behind k (books_of old)
listed_at lane number moment old new start k outcome is (inl s) =
    let e = s.1.entry in
    let pushed : (now_of new).deployments ≡ next_list (list_in e.event) (now_of old).deployments = rw (s.1.grows, start) (list_push old.history.items e (opening_state old.start)) in
    pushed ∙ ap (λ (x : Kind). listed_behind x (books_of old)) (sym s.1.kind)
listed_at lane number moment old new start k outcome is (inr n) =
    let same : (now_of new).deployments ≡ (now_of old).deployments = rw (n.0, start) refl in
    same ∙ sym (same_behind k (books_of old) (λ e kind. absurd (n.1 is (subst IsMakeDurable (sym kind) tt))))
