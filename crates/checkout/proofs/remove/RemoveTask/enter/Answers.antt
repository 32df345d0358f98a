use Rattle.std.proofs.Common.{arith, sym, ◌∙◌, ap, ◌∷◌, reverse, List}
use Rattle.checkout.specs.RemoveFolder.{Opened}
use Rattle.checkout.specs.Remove.{act}
use Rattle.checkout.proofs.RemoveLists.{reverse-last}
use Rattle.checkout.proofs.RemoveNeeds.{entered_as}
use Rattle.checkout.proofs.remove.RemoveTask.enter.Goals as goal

pub invariant_of-self-in-Inside : goal.invariant_of-self-in-Inside
invariant_of-self-in-Inside c =
    let some = c.self.invariant.room in
    entered_as c.self.inside.phase c.self.inside.at (reverse c.self.inside.outer.items) c.self.inside.room c.args.at (reverse c.into_vec.result.items) (ap act c.self.view_is ∙ c.requires) c.self.invariant
    c.in-Inside.folder (sym c.replace.ensures.value ∙ c.in-Inside.is) _ c.replace.ensures.after
    _ (ap reverse c.in-Ok.ensures.items ∙ reverse-last c.reserve.new.self.items c.pass.new.self ∙ ap (λ (l : List Opened). c.pass.new.self ∷ reverse l) c.in_ok-reserve.ensures.items ∙ ap (λ (h : Opened). h ∷ reverse c.self.inside.outer.items) c.pass.ensures)
    _ (omega (arith, some, c.in-Some.ensures))
