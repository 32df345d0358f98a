use Rattle.std.proofs.Common.{◌∙◌, ◌≡◌, subst, arith}
use Rattle.std.specs.Prelude.{IfOk}
use Rattle.ref_room.proofs.WayData.{heads_shorter, folder_front}
use Rattle.ref_room.proofs.folder.ref_folder.Goals as goal

pub overflow_sub-names : goal.overflow_sub-names
overflow_sub-names c = let n = heads_shorter _ _ (c.names.ensures.value ∙ c.in_ok-at.ensures) in omega (arith, n)

pub returns : goal.returns
returns c = subst (λ q. IfOk c.front.result (λ p. p ≡ q)) (folder_front c.in_ok-at.at c.names.result.now c.args.name.now c.in_ok-at.ensures c.names.ensures.value) c.front.ensures
