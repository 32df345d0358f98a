use Rattle.std.proofs.Common.{◌≡◌, get_or, sym, subst}
use Rattle.std.specs.Prelude.{map}
use Rattle.repo_model.specs.Objects.{path_of}
use Rattle.prune_sweep.specs.Sweeping.{Sweeping}
use Rattle.prune_sweep.proofs.Takes.{taken_object}
use Rattle.prune_sweep.proofs.sweep.Sweep.unlink_next.Goals as goal

pub returns-clause-effect : goal.returns-clause-effect
returns-clause-effect g c = λ v is.
    let paths = c.self.inside.paths.items in
    let are = subst (λ (r : Sweeping). paths ≡ map path_of r.removed) c.self.view_is c.self.invariant.0 in
    let at = subst (λ (r : Sweeping). get_or paths r.gone c.index.result.now ≡ c.index.result.now) c.self.view_is (sym c.index.ensures) in
    taken_object c.args.self.now paths c.index.result.now v c.unlink.result (g.F.Fs.view c.unlink.new.self) are c.requires at (c.unlink.ensures.effect v is)
