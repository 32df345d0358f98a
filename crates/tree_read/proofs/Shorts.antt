-- Paths within the bounds of a tree.
use Rattle.std.proofs.Common.{◌≤◌, [], ◌∷◌, length, arith}
use Rattle.ost_types.specs.Text.{IsName}
use Rattle.ost_types.specs.Path.{Name, Path, IsPath, joined, text_of, under}
use Rattle.ost_types.proofs.Joined.{IsPath-under}
use Rattle.tree_read.specs.Order.{IsShort}

pub text_short : (p : Path) → (length (text_of p) ≤ 1024 → length (joined p) ≤ 1024) × (length (joined p) ≤ 1024 → length (text_of p) ≤ 1024)
unfolding joined
text_short [] = (λ _. omega arith, λ _. omega arith)
text_short (x ∷ p) = (λ h. h, λ h. h)

-- there is room for a name behind such a path
pub IsPath-child : (p : Path) (x : Name) → IsPath p → IsShort p → IsName x → IsPath (under p x)
IsPath-child p x is short name =
    let t = (text_short p).0 short.1 in
    (IsPath-under p x is name).0 (omega (arith, short.0), omega (arith, t, name.short))
