use Rattle.std.proofs.Common.{inr, refl, ◌++◌, sym, ◌∙◌, ap, subst}
use Rattle.std.specs.Prelude.{option_to_list}
use Rattle.std.proofs.lemmas.Result.{err_from_is_err_and}
use Rattle.ost_types.specs.Path.{IsPath}
use Rattle.checkout.specs.Remove.{Removing, Closes, closed}
use Rattle.checkout.proofs.RemoveClosing.{closes_folder, closed_leaves, closed_fails, closed_needs, closed_some, closed_none, goes, no_items}
use Rattle.checkout.proofs.RemoveWrites.{told_writes, writes_gone}
use Rattle.checkout.proofs.remove.RemoveTask.close.Goals as goal

pub returns-in_err-rmdir-clause-leaves : goal.returns-in_err-rmdir-clause-leaves
returns-in_err-rmdir-clause-leaves g c = λ v told.
    let inside = sym (ap (λ (t : Removing). t.phase) c.self.view_is) ∙ c.in-Inside.is in
    let is = closes_folder c.args.self.now c.in-Inside.folder inside c.requires.act ∙ ap Closes (sym c.path-path.ensures) in
    let effect = c.in_err-rmdir.ensures.effect v told in
    closed_leaves c.args.self.now c.in-Inside.folder inside c.path-path.result.now is v (g.met.F.Fs.tree c.args.fs.now v told) (c.requires.needs v told) effect.0 effect.1 _ _ effect.2

pub returns-in_err-rmdir-clause-writes : goal.returns-in_err-rmdir-clause-writes
returns-in_err-rmdir-clause-writes g c = λ v told.
    let inside = sym (ap (λ (t : Removing). t.phase) c.self.view_is) ∙ c.in-Inside.is in
    let is = closes_folder c.args.self.now c.in-Inside.folder inside c.requires.act ∙ ap Closes (sym c.path-path.ensures) in
    let effect = c.in_err-rmdir.ensures.effect v told in
    told_writes c.args.self.now v _ (closed_leaves c.args.self.now c.in-Inside.folder inside c.path-path.result.now is v (g.met.F.Fs.tree c.args.fs.now v told) (c.requires.needs v told) effect.0 effect.1 _ _ effect.2)

pub returns-in_err-rmdir-clause-fails : goal.returns-in_err-rmdir-clause-fails
returns-in_err-rmdir-clause-fails g c = λ v told.
    let inside = sym (ap (λ (t : Removing). t.phase) c.self.view_is) ∙ c.in-Inside.is in
    let is = closes_folder c.args.self.now c.in-Inside.folder inside c.requires.act ∙ ap Closes (sym c.path-path.ensures) in
    let effect = c.in_err-rmdir.ensures.effect v told in
    let error = err_from_is_err_and c.from_residual.result c.from_residual.ensures.1 in
    rw (error.1, error.2) (closed_fails c.args.self.now c.in-Inside.folder inside c.path-path.result.now is v (g.met.F.Fs.tree c.args.fs.now v told) (c.requires.needs v told) effect.0 effect.1 _ _ effect.2)

pub returns-in-Some-clause-leaves : goal.returns-in-Some-clause-leaves
returns-in-Some-clause-leaves g c = λ v told.
    let inside = sym (ap (λ (t : Removing). t.phase) c.self.view_is) ∙ c.in-Inside.is in
    let is = closes_folder c.args.self.now c.in-Inside.folder inside c.requires.act ∙ ap Closes (sym c.path-path.ensures) in
    let effect = c.in_ok-rmdir.ensures.effect v told in
    let went = goes c.args.self.now c.in-Inside.folder inside c.path-path.result.now is v (g.met.F.Fs.tree c.args.fs.now v told) (c.requires.needs v told) in
    (_, effect.2.1, inr (c.path-path.result.now, went, refl))

pub returns-in-Some-clause-writes : goal.returns-in-Some-clause-writes
returns-in-Some-clause-writes g c = λ v told.
    let inside = sym (ap (λ (t : Removing). t.phase) c.self.view_is) ∙ c.in-Inside.is in
    let is = closes_folder c.args.self.now c.in-Inside.folder inside c.requires.act ∙ ap Closes (sym c.path-path.ensures) in
    let effect = c.in_ok-rmdir.ensures.effect v told in
    let went = goes c.args.self.now c.in-Inside.folder inside c.path-path.result.now is v (g.met.F.Fs.tree c.args.fs.now v told) (c.requires.needs v told) in
    (_, effect.2.1, writes_gone c.args.self.now v c.path-path.result.now went)

pub returns-in-Some-clause-after : goal.returns-in-Some-clause-after
returns-in-Some-clause-after g c = λ v told.
    let inside = sym (ap (λ (t : Removing). t.phase) c.self.view_is) ∙ c.in-Inside.is in
    let is = closes_folder c.args.self.now c.in-Inside.folder inside c.requires.act ∙ ap Closes (sym c.path-path.ensures) in
    let effect = c.in_ok-rmdir.ensures.effect v told in
    let path = subst IsPath c.names-names.ensures.value c.names-names.ensures.path in
    let items = c.pop.ensures.items ∙ ap (λ o. c.pop.new.self.items ++ option_to_list o) c.in-Some.is in
    let now = closed_some c.self.inside.at c.self.inside.outer.items c.pop.new.self.items c.in-Some.outer c.self.inside.room items in
    closed_needs c.args.self.now c.in-Inside.folder inside c.path-path.result.now is v (g.met.F.Fs.tree c.args.fs.now v told) (c.requires.needs v told) _ (sym now ∙ ap closed c.self.view_is) path _ effect.2.1

pub returns-in-None-clause-leaves : goal.returns-in-None-clause-leaves
returns-in-None-clause-leaves g c = λ v told.
    let inside = sym (ap (λ (t : Removing). t.phase) c.self.view_is) ∙ c.in-Inside.is in
    let is = closes_folder c.args.self.now c.in-Inside.folder inside c.requires.act ∙ ap Closes (sym c.path-path.ensures) in
    let effect = c.in_ok-rmdir.ensures.effect v told in
    let went = goes c.args.self.now c.in-Inside.folder inside c.path-path.result.now is v (g.met.F.Fs.tree c.args.fs.now v told) (c.requires.needs v told) in
    (_, effect.2.1, inr (c.path-path.result.now, went, refl))

pub returns-in-None-clause-writes : goal.returns-in-None-clause-writes
returns-in-None-clause-writes g c = λ v told.
    let inside = sym (ap (λ (t : Removing). t.phase) c.self.view_is) ∙ c.in-Inside.is in
    let is = closes_folder c.args.self.now c.in-Inside.folder inside c.requires.act ∙ ap Closes (sym c.path-path.ensures) in
    let effect = c.in_ok-rmdir.ensures.effect v told in
    let went = goes c.args.self.now c.in-Inside.folder inside c.path-path.result.now is v (g.met.F.Fs.tree c.args.fs.now v told) (c.requires.needs v told) in
    (_, effect.2.1, writes_gone c.args.self.now v c.path-path.result.now went)

pub returns-in-None-clause-after : goal.returns-in-None-clause-after
returns-in-None-clause-after g c = λ v told.
    let inside = sym (ap (λ (t : Removing). t.phase) c.self.view_is) ∙ c.in-Inside.is in
    let is = closes_folder c.args.self.now c.in-Inside.folder inside c.requires.act ∙ ap Closes (sym c.path-path.ensures) in
    let effect = c.in_ok-rmdir.ensures.effect v told in
    let path = subst IsPath c.names-names.ensures.value c.names-names.ensures.path in
    let items = c.pop.ensures.items ∙ ap (λ o. c.pop.new.self.items ++ option_to_list o) c.in-None.is in
    let none = no_items c.pop.new.self.items (sym c.pop.new.self.ok.0 ∙ c.in-None.ensures.cases.1) in
    let now = closed_none c.self.inside.at c.self.inside.outer.items c.pop.new.self.items c.self.inside.room items none in
    closed_needs c.args.self.now c.in-Inside.folder inside c.path-path.result.now is v (g.met.F.Fs.tree c.args.fs.now v told) (c.requires.needs v told) _ (sym now ∙ ap closed c.self.view_is) path _ effect.2.1
