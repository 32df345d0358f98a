-- There is room for a tree in the folder of a checkout.
use Rattle.std.proofs.Common.{◌≡◌, ◌+◌, length, append-nil, Result, Ok, Err, ap, arith, subst, sym, ◌∙◌}
use Rattle.std.specs.Prelude.{IfOk}
use Rattle.ost_types.specs.declared.memory.NoMemory.{NoMemory}
use Rattle.ost_types.specs.Text.{IsName}
use Rattle.ost_types.specs.Path.{Name, Path, IsPath, joined, under}
use Rattle.ost_types.proofs.Joined.{IsPath-from_joined}
use Rattle.repo_layout.specs.declared.folder.Folder.TheVariants.{Checkouts}
use Rattle.repo_layout.specs.BootPaths.{checkout_path}
use Rattle.repo_layout.specs.Paths.{folder_path}
use Rattle.layout_rules.proofs.Sanes.{folder_is_path}
use Rattle.commit_checkout.specs.TreeFolder.{HasRoomBelow}

length_of : (name : Name) → length (joined (checkout_path name)) ≡ 10 + length name
unfolding joined
length_of name = let e = ap length (append-nil name) in omega (arith, e)

pub room_below : (name : Name) → IsName name → HasRoomBelow (checkout_path name)
room_below name is = record {
  path = IsPath-from_joined (checkout_path name) ((folder_is_path Checkouts).names.0, (is, tt)) (omega arith) (omega (arith, length_of name, is.short));
  few = omega arith;
  short = omega (arith, length_of name, is.short);
}

pub path_there : (name : Name) (folder : Path) → folder ≡ folder_path Checkouts → IsName name → IsPath (under folder name)
path_there name folder at is = subst (λ q. IsPath (under q name)) (sym at) (room_below name is).path

pub room_there : (name : Name) (folder : Path) → folder ≡ folder_path Checkouts → IsName name → (r : Result Path NoMemory) → IfOk r (λ p. p ≡ under folder name) → IfOk r HasRoomBelow
room_there name folder at is (Ok p) told = subst HasRoomBelow (sym (told ∙ ap (λ q. under q name) at)) (room_below name is)
room_there name folder at is (Err e) told = tt
