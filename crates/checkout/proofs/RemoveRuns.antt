-- Each removal begins with what it needs, and its path stays.
use Rattle.std.proofs.Common.{◌≡◌, ◌≢◌, inl, inr, ℕ, arith, refl, ◌∙◌, ap, List, [], ◌∷◌}
use Rattle.ost_types.specs.Path.{Path}
use Rattle.fs_trait.specs.View.{View}
use Rattle.checkout.specs.RemoveFolder.{Opened}
use Rattle.checkout.specs.Remove.{Removing, Act, Looks, Closes, Ends, Follows, act, begun, closed_to}
use Rattle.checkout.specs.RemoveSteps.{Needs}

pub needs_begun : (at : Path) (v : View) → at ≢ [] → Needs (begun at) v
needs_begun at v root = record { made = record { below_root = root; chain = tt; alone = refl; room = omega arith }; known = tt }

closed_at : (at : Path) (outer : List Opened) (room : ℕ) → (closed_to at outer room).at ≡ at
closed_at at [] room = refl
closed_at at (f ∷ outer) room = refl

follows_at : (a : Act) (old new : Removing) → Follows a old new → new.at ≡ old.at
follows_at (Looks p) old new (inl is) = ap (λ (t : Removing). t.at) is
follows_at (Looks p) old new (inr (names, is)) = ap (λ (t : Removing). t.at) is
follows_at (Closes p) old new is = ap (λ (t : Removing). t.at) is ∙ closed_at old.at old.outer old.room
follows_at Ends old new is = ap (λ (t : Removing). t.at) is

pub same_at : (old new : Removing) → Follows (act old) old new → new.at ≡ old.at
same_at old new follows = follows_at (act old) old new follows
