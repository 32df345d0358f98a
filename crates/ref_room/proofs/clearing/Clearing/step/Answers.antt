use Rattle.std.proofs.Common.{Some, sym, ◌∙◌, ap, length}
use Rattle.std.proofs.lemmas.Bool.Decides.{Decides-eqb}
use Rattle.ref_room.specs.Clearing.{Cleared}
use Rattle.ref_room.proofs.Telling.{says_least, says_now}
use Rattle.ref_room.proofs.clearing.Clearing.step.Goals as goal

pub returns-in-Some-clause-tells : goal.returns-in-Some-clause-tells
returns-in-Some-clause-tells g c = λ v told.
    let none = sym (ap (λ (t : Cleared). length t.pending) c.self.view_is) ∙ sym c.self.inside.pending.ok.0 ∙ (Decides-eqb _ 0).0 (sym c.is_empty.ensures ∙ c.if-not-is_empty.false) in
    let is = sym (ap (λ (t : Cleared). t.least) c.self.view_is) ∙ c.in-Some.is ∙ ap Some (sym c.in_ok-copy.ensures) in
    says_least c.args.self.now v (g.met.F.Fs.tree c.args.fs.now v told) (c.requires v told) c.in_ok-copy.field-0 (says_now c.args.self.now c.in_ok-copy.field-0 none is)
