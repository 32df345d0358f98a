use Rattle.std.proofs.Common.{◌∙◌, subst}
use Rattle.ost_types.specs.Csum.{IsHexSum}
use Rattle.repo_layout.specs.Paths.{objects_folder_path}
use Rattle.repo_layout.proofs.KnownPaths.{parsed, objects_folder-known}
use Rattle.repo_layout.proofs.Texts.{objects_folder-text}
use Rattle.repo_layout.proofs.paths.objects_folder_path.Goals as goal

pub known_path-requires : goal.known_path-requires
known_path-requires c = (
  objects_folder_path c.args.csum.now,
  parsed _ _ (objects_folder-known c.args.csum.now (subst IsHexSum c.to_hex.ensures.value c.to_hex.ensures.digits))
      (objects_folder-text c.args.csum.now _ _ _ c.to_hex.ensures.value (c.as_slice.ensures ∙ c.in_ok-append.ensures.ok) c.in_ok-text.ensures),
)

pub returns : goal.returns
returns c =
    c.known_path.ensures (objects_folder_path c.args.csum.now)
    (parsed _ _ (objects_folder-known c.args.csum.now (subst IsHexSum c.to_hex.ensures.value c.to_hex.ensures.digits))
    (objects_folder-text c.args.csum.now _ _ _ c.to_hex.ensures.value (c.as_slice.ensures ∙ c.in_ok-append.ensures.ok) c.in_ok-text.ensures))
