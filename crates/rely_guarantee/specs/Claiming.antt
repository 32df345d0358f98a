-- What becomes of the claims in an act.
use Rattle.std.specs.Prelude.{◌≡◌, ◌++◌, ◌∷◌, [], ℕ, Bool, not, nat_eq, List, Option, Some, None}
use Rattle.std.specs.List.{filter}
use Rattle.ost_types.specs.Path.{Name}
use Rattle.rely_guarantee.specs.declared.books.Claim.{Claim}
use Rattle.rely_guarantee.specs.declared.kind.Outcome.{Outcome}
use Rattle.rely_guarantee.specs.declared.kind.Outcome.TheVariants as came
use Rattle.rely_guarantee.specs.Laws as laws
use Rattle.rely_guarantee.specs.Laws.{Kind}

-- the checkout whose folder a step of this kind makes
abbrev pub claim_in : Kind → Option Name
claim_in (laws.Claim name) = Some name
claim_in kind = None

-- the claims with one more of the lane, where it makes one
abbrev pub with_claim : Option Name → ℕ → List Claim → List Claim
with_claim None lane claims = claims
with_claim (Some name) lane claims = claims ++ record { lane = lane; name = name } ∷ []

-- the claims of the other lanes
abbrev pub is_other : ℕ → Claim → Bool
is_other lane c = not (nat_eq c.lane lane)

abbrev pub of_others : ℕ → List Claim → List Claim
of_others lane claims = filter (is_other lane) claims

-- A command keeps its claims while it runs, with what its step claimed, and gives all of them up at its end. No other claim comes or
-- goes.
abbrev pub AreClaimed : Option Name → ℕ → Outcome → List Claim → List Claim → Type 0
AreClaimed name lane came.More old new = new ≡ with_claim name lane old
AreClaimed name lane (came.Halted why) old new = new ≡ old
AreClaimed name lane came.Done old new = new ≡ of_others lane old
AreClaimed name lane (came.Refused e) old new = new ≡ of_others lane old
AreClaimed name lane came.Blocked old new = new ≡ old
