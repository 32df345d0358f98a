use Rattle.std.proofs.Common.{◌≡◌, ◌<◌, ◌-◌, false, Some, sym, ◌∙◌, ap, subst, length}
use Rattle.std.specs.Prelude.{All, slice_get}
use Rattle.std.specs.Ordering.{is_lt}
use Rattle.std.proofs.lemmas.Result.{err_from_is_err_and}
use Rattle.ost_types.specs.Path.{IsPath, path_cmp}
use Rattle.fs_trait.specs.declared.types.Value.TheVariants.{Absent}
use Rattle.fs_trait.specs.View.{named}
use Rattle.fs_trait.specs.Image.{Told}
use Rattle.ref_room.specs.Clearing.{Cleared, Needs}
use Rattle.ref_room.proofs.Removing.{ok_writes, err_writes, fails, after, pop_rest, some_folders}
use Rattle.ref_room.proofs.clearing.Clearing.remove.Goals as goal

pub returns-in_err-rmdir-clause-writes : goal.returns-in_err-rmdir-clause-writes
returns-in_err-rmdir-clause-writes g c = λ v told.
    let t = c.args.self.now in
    let f = c.in-Some.folder.now in
    let last = subst (λ (t : Cleared). slice_get t.folders (length t.folders - 1) ≡ Some f) c.self.view_is c.in-Some.ensures.last in
    let effect = c.in_err-rmdir.ensures.effect v told in
    err_writes t v (g.met.F.Fs.tree c.args.fs.now v told) (c.requires.needs v told) c.requires.act f last (subst IsPath c.names-names.ensures.value c.names-names.ensures.path) effect.0 effect.1 _ _ effect.2

pub returns-in_err-rmdir-clause-fails : goal.returns-in_err-rmdir-clause-fails
returns-in_err-rmdir-clause-fails g c = λ v told.
    let t = c.args.self.now in
    let f = c.in-Some.folder.now in
    let last = subst (λ (t : Cleared). slice_get t.folders (length t.folders - 1) ≡ Some f) c.self.view_is c.in-Some.ensures.last in
    let greatest = subst (λ (t : Cleared). All (λ q. is_lt (path_cmp f q) ≡ false) t.folders) c.self.view_is c.in-Some.ensures.all_up_to in
    let effect = c.in_err-rmdir.ensures.effect v told in
    let error = err_from_is_err_and c.from_residual.result c.from_residual.ensures.1 in
    rw (error.1, error.2) (fails t v (g.met.F.Fs.tree c.args.fs.now v told) (c.requires.needs v told) c.requires.act f last greatest effect.0 effect.1 (named f Absent v) _ _ effect.2)

pub returns-clause-writes : goal.returns-clause-writes
returns-clause-writes g c = λ v told.
    let t = c.args.self.now in
    let f = c.in-Some.folder.now in
    let last = subst (λ (t : Cleared). slice_get t.folders (length t.folders - 1) ≡ Some f) c.self.view_is c.in-Some.ensures.last in
    let effect = c.in_ok-rmdir.ensures.effect v told in
    ok_writes t v (g.met.F.Fs.tree c.args.fs.now v told) (c.requires.needs v told) c.requires.act f last (subst IsPath c.names-names.ensures.value c.names-names.ensures.path) effect.0 effect.1 _ effect.2

pub returns-clause-after : goal.returns-clause-after
returns-clause-after g c = λ v told.
    let t = c.args.self.now in
    let f = c.in-Some.folder.now in
    let last = subst (λ (t : Cleared). slice_get t.folders (length t.folders - 1) ≡ Some f) c.self.view_is c.in-Some.ensures.last in
    let some = c.pop_last.ensures.variant.1 (subst (λ (t : Cleared). 0 < length t.folders) (sym c.self.view_is) (some_folders t c.requires.act)) in
    let rest = pop_rest c.self.inside.folders.keys c.pop_last.new.self.keys c.pop_last.result f c.pop_last.ensures.removal c.pop_last.ensures.all_below some c.in-Some.ensures.last in
    let are = sym (ap (λ (t : Cleared). t.folders) c.self.view_is) ∙ rest.0 in
    let needs = after t v (g.met.F.Fs.tree c.args.fs.now v told) (c.requires.needs v told) c.requires.act f last c.pop_last.new.self.keys are rest.1 in
    subst (λ (n : Cleared). Told (g.F.Fs.view c.rmdir.new.self) (λ x. Needs n x)) (sym (ap (λ (t : Cleared). let n : Cleared = record t { folders = c.pop_last.new.self.keys } in n) c.self.view_is)) (named f Absent v, (c.in_ok-rmdir.ensures.effect v told).2.1, needs)
