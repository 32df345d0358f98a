use Rattle.std.proofs.Common.{◌≡◌, ◌∷◌, take}
use Rattle.deploy_task.specs.Listed.{items_at}
use Rattle.deploy_task.specs.Deploying.{item_of, items_of}
use Rattle.deploy_task.proofs.items.new_items.Given as goal

abbrev pub invariant-loop-place : goal.invariant-loop-place
invariant-loop-place l = l.items.items ≡ item_of l.deploy l.id ∷ items_at (items_of l.deploy) (take l.place-index l.kept)
