-- What a list of nodes has at a path, and one more node.
use Rattle.std.proofs.Common.{◌≡◌, ◌≢◌, Bool, true, false, List, [], ◌∷◌, ◌++◌, Some, None, if◌then◌else◌, ap}
use Rattle.ost_types.specs.Path.{Path, same_path}
use Rattle.ost_types.proofs.Paths.{same_path-self, same_path-apart}
use Rattle.folder_build.specs.declared.node.Content.{Content}
use Rattle.folder_build.specs.declared.node.NewNode.{NewNode}
use Rattle.folder_build.specs.Node.{content_at}

pub push_here : (m : List NewNode) (e : NewNode) → content_at m e.at ≡ None → content_at (m ++ e ∷ []) e.at ≡ Some e.what
push_here [] e none = ap (λ b. if b then Some e.what else None) (same_path-self e.at)
push_here (x ∷ m) e none = pick (same_path x.at e.at) none (push_here m e)
  where
    pick : (b : Bool) → (if b then Some x.what else content_at m e.at) ≡ None → (content_at m e.at ≡ None → content_at (m ++ e ∷ []) e.at ≡ Some e.what) → (if b then Some x.what else content_at (m ++ e ∷ []) e.at) ≡ Some e.what
    pick true is rest = let n : Some x.what ≡ None = is in cc
    pick false is rest = rest is

pub push_apart : (m : List NewNode) (e : NewNode) (p : Path) → e.at ≢ p → content_at (m ++ e ∷ []) p ≡ content_at m p
push_apart [] e p apart = ap (λ b. if b then Some e.what else None) (same_path-apart e.at p apart)
push_apart (x ∷ m) e p apart = ap (λ z. if same_path x.at p then Some x.what else z) (push_apart m e p apart)

-- what is found stays
pub push_found : (m : List NewNode) (e : NewNode) (p : Path) (c : Content) → content_at m p ≡ Some c → content_at (m ++ e ∷ []) p ≡ Some c
push_found [] e p c has = let n : None ≡ Some c = has in cc
push_found (x ∷ m) e p c has = pick (same_path x.at p) has (push_found m e p c)
  where
    pick : (b : Bool) → (if b then Some x.what else content_at m p) ≡ Some c → (content_at m p ≡ Some c → content_at (m ++ e ∷ []) p ≡ Some c) → (if b then Some x.what else content_at (m ++ e ∷ []) p) ≡ Some c
    pick true is rest = is
    pick false is rest = rest is
