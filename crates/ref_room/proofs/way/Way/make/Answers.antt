use Rattle.std.proofs.Common.{◌≡◌, true, sym, ◌∙◌, ap, subst, arith}
use Rattle.std.proofs.lemmas.Result.{err_from_is_err_and}
use Rattle.ost_types.specs.declared.meta.Meta.{Meta}
use Rattle.fs_trait.specs.Image.{Told}
use Rattle.fs_trait.specs.Seen.{shows, IsDirectory}
use Rattle.repo_layout.specs.Refs.{is_leaf}
use Rattle.ref_room.specs.declared.way.Leg.TheVariants.{Make}
use Rattle.ref_room.specs.Way.{Needs, Refuses, Walked, next_folder, next_in}
use Rattle.fs_trait.proofs.Answering.{ok_writes, ok_after, err_writes, err_fails, err_unchanged}
use Rattle.ref_room.proofs.Disks.{looked_nothing, looked_folder, looked_leaf}
use Rattle.ref_room.proofs.WaySteps.{found, made, least}
use Rattle.ref_room.proofs.way.Way.make.Goals as goal

pub mkdir-requires : goal.mkdir-requires
mkdir-requires g c = (493, omega arith, ap (λ (m : Meta). m.mode) c.self.invariant.3)

pub returns-in_err-mkdir-in-Nothing-clause-writes : goal.returns-in_err-mkdir-in-Nothing-clause-writes
returns-in_err-mkdir-in-Nothing-clause-writes g c = λ v told.
    let still = c.in_ok-look_at.ensures.quiet.view ∙ told in
    let absent = looked_nothing _ (sym c.in-Nothing.is ∙ c.in_ok-look_at.ensures.told v told) in
    let step = made c.args.self.now v (g.met.F.Fs.tree c.args.fs.now v told) (c.requires.needs v told) _ _ (c.self.invariant.2 ∙ ap next_folder c.self.view_is) c.self.invariant.3 c.requires.leg absent in
    err_writes _ _ v _ _ step _ _ (c.in_err-mkdir-in-Nothing.ensures.effect v still)

pub returns-in_err-mkdir-in-Nothing-clause-fails : goal.returns-in_err-mkdir-in-Nothing-clause-fails
returns-in_err-mkdir-in-Nothing-clause-fails g c = λ v told.
    let still = c.in_ok-look_at.ensures.quiet.view ∙ told in
    let absent = looked_nothing _ (sym c.in-Nothing.is ∙ c.in_ok-look_at.ensures.told v told) in
    let step = made c.args.self.now v (g.met.F.Fs.tree c.args.fs.now v told) (c.requires.needs v told) _ _ (c.self.invariant.2 ∙ ap next_folder c.self.view_is) c.self.invariant.3 c.requires.leg absent in
    let error = err_from_is_err_and c.from_residual-in_err-mkdir-in-Nothing.result c.from_residual-in_err-mkdir-in-Nothing.ensures.1 in
    rw (error.1, error.2) (err_fails _ _ v _ _ step (Refuses c.args.self.now v) tt tt _ _ (c.in_err-mkdir-in-Nothing.ensures.effect v still))

pub returns-in_ok-mkdir-in-Nothing-clause-writes : goal.returns-in_ok-mkdir-in-Nothing-clause-writes
returns-in_ok-mkdir-in-Nothing-clause-writes g c = λ v told.
    let still = c.in_ok-look_at.ensures.quiet.view ∙ told in
    let absent = looked_nothing _ (sym c.in-Nothing.is ∙ c.in_ok-look_at.ensures.told v told) in
    let step = made c.args.self.now v (g.met.F.Fs.tree c.args.fs.now v told) (c.requires.needs v told) _ _ (c.self.invariant.2 ∙ ap next_folder c.self.view_is) c.self.invariant.3 c.requires.leg absent in
    ok_writes _ _ v _ _ step _ (c.in_ok-mkdir-in-Nothing.ensures.effect v still)

pub returns-in_ok-mkdir-in-Nothing-clause-after : goal.returns-in_ok-mkdir-in-Nothing-clause-after
returns-in_ok-mkdir-in-Nothing-clause-after g c = λ v told.
    let still = c.in_ok-look_at.ensures.quiet.view ∙ told in
    let absent = looked_nothing _ (sym c.in-Nothing.is ∙ c.in_ok-look_at.ensures.told v told) in
    let step = made c.args.self.now v (g.met.F.Fs.tree c.args.fs.now v told) (c.requires.needs v told) _ _ (c.self.invariant.2 ∙ ap next_folder c.self.view_is) c.self.invariant.3 c.requires.leg absent in
    subst (λ (n : Walked). Told (g.F.Fs.view c.mkdir.new.self) (λ x. Needs n x)) (sym (ap (next_in Make) c.self.view_is)) (ok_after _ _ v _ _ step _ (c.in_ok-mkdir-in-Nothing.ensures.effect v still))

pub returns-in-Folder-clause-after : goal.returns-in-Folder-clause-after
returns-in-Folder-clause-after g c = λ v told.
    let there = looked_folder v.now _ (sym c.in-Folder.is ∙ c.in_ok-look_at.ensures.told v told) in
    let needs = found c.args.self.now v (g.met.F.Fs.tree c.args.fs.now v told) (c.requires.needs v told) c.requires.leg (subst (λ q. IsDirectory (shows v.now q)) (c.self.invariant.2 ∙ ap next_folder c.self.view_is) there) in
    (v, c.in_ok-look_at.ensures.quiet.view ∙ told, subst (λ (n : Walked). Needs n v) (sym (ap (next_in Make) c.self.view_is)) needs)

pub returns-in_ok-clash-in-Leaf-clause-tells : goal.returns-in_ok-clash-in-Leaf-clause-tells
returns-in_ok-clash-in-Leaf-clause-tells g c = λ v told.
    let leaf = looked_leaf _ (sym c.in-Leaf.is ∙ c.in_ok-look_at.ensures.told v told) in
    least c.args.self.now v (g.met.F.Fs.tree c.args.fs.now v told) (c.requires.needs v told) c.requires.leg _ c.in_ok-clash-in-Leaf.ensures.ok.0 c.in_ok-clash-in-Leaf.ensures.ok.1
    (subst (λ q. is_leaf (v.now.at q) ≡ true) (c.self.invariant.2 ∙ ap next_folder c.self.view_is) leaf)

pub returns-in_err-mkdir-in-Nothing-clause-unchanged : goal.returns-in_err-mkdir-in-Nothing-clause-unchanged
returns-in_err-mkdir-in-Nothing-clause-unchanged g c = λ v told.
    let still = c.in_ok-look_at.ensures.quiet.view ∙ told in
    let error = err_from_is_err_and c.from_residual-in_err-mkdir-in-Nothing.result c.from_residual-in_err-mkdir-in-Nothing.ensures.1 in
    rw (error.1, error.2) (λ is. err_unchanged _ v _ _ _ (c.in_err-mkdir-in-Nothing.ensures.effect v still) is)
