use Rattle.std.proofs.Common.{arith, sym, ◌∙◌, ap, subst, length}
use Rattle.std.proofs.lemmas.Result.{err_from_is_err_and}
use Rattle.fs_trait.specs.Effect.{OfNone}
use Rattle.fs_trait.proofs.Answering.{ok_writes, ok_after, err_writes, err_fails}
use Rattle.file_copy.specs.Copying.{Copying}
use Rattle.file_copy.specs.CopySteps.{Needs}
use Rattle.file_copy.proofs.CopyLemmas.{append_goes, append_piece, as_is, comes_to, counted, filled_as, pieced, unchanged_as}
use Rattle.file_copy.proofs.PieceLemmas.{less_le}
use Rattle.file_copy.proofs.copying.FileCopy.append.Goals as goal

pub returns-in_err-piece-clause-fails : goal.returns-in_err-piece-clause-fails
returns-in_err-piece-clause-fails g c = λ v told.
    let needs = subst (λ t. Needs t v) (sym c.self.view_is) (c.requires.needs v told) in
    let phase = ap (λ (t : Copying). t.phase) c.self.view_is ∙ c.requires.phase in
    let sized = needs.sized phase in
    let error = err_from_is_err_and c.from_residual.result c.from_residual.ensures.1 in
    rw (error.1, error.2) (c.in_err-piece.ensures.told v told needs.bytes needs.source (omega (arith, sized, c.piece_end-end.ensures.within)))

pub returns-in_err-append-clause-writes : goal.returns-in_err-append-clause-writes
returns-in_err-append-clause-writes g c = λ v told.
    let needs = subst (λ t. Needs t v) (sym c.self.view_is) (c.requires.needs v told) in
    let phase = ap (λ (t : Copying). t.phase) c.self.view_is ∙ c.requires.phase in
    let tree = g.met.F.Fs.tree c.args.fs.now v told in
    let grows = less_le _ _ c.piece_end-end.ensures.grows in
    let sized = needs.sized phase in
    let read = c.as_slice-piece.ensures ∙ c.in_ok-piece.ensures.told v told needs.bytes needs.source (omega (arith, sized, c.piece_end-end.ensures.within)) in
    let still = c.in_ok-piece.ensures.quiet.view ∙ told in
    err_writes _ _ v _ _ (as_is _ _ c.self.view_is v _ _ _ (append_piece _ v needs tree _ c.piece_end-end.result grows c.piece_end-end.ensures.within read phase)) _ _ (c.in_err-append.ensures.effect v still)

pub returns-in_err-append-clause-fails : goal.returns-in_err-append-clause-fails
returns-in_err-append-clause-fails g c = λ v told.
    let needs = subst (λ t. Needs t v) (sym c.self.view_is) (c.requires.needs v told) in
    let phase = ap (λ (t : Copying). t.phase) c.self.view_is ∙ c.requires.phase in
    let tree = g.met.F.Fs.tree c.args.fs.now v told in
    let grows = less_le _ _ c.piece_end-end.ensures.grows in
    let sized = needs.sized phase in
    let read = c.as_slice-piece.ensures ∙ c.in_ok-piece.ensures.told v told needs.bytes needs.source (omega (arith, sized, c.piece_end-end.ensures.within)) in
    let still = c.in_ok-piece.ensures.quiet.view ∙ told in
    let error = err_from_is_err_and c.from_residual-in_err-append.result c.from_residual-in_err-append.ensures.1 in
    rw (error.1, error.2) (err_fails _ _ v _ _ (as_is _ _ c.self.view_is v _ _ _ (append_piece _ v needs tree _ c.piece_end-end.result grows c.piece_end-end.ensures.within read phase)) OfNone tt tt _ _ (c.in_err-append.ensures.effect v still))

pub returns-in_err-append-clause-unchanged : goal.returns-in_err-append-clause-unchanged
returns-in_err-append-clause-unchanged g c = λ v told memory.
    let error = err_from_is_err_and c.from_residual-in_err-append.result c.from_residual-in_err-append.ensures.1 in
    unchanged_as error.0 _ error.1 _ error.2 memory _ _ _ _ (c.in_err-append.ensures.effect v (c.in_ok-piece.ensures.quiet.view ∙ told))

pub returns-clause-writes : goal.returns-clause-writes
returns-clause-writes g c = λ v told.
    let needs = subst (λ t. Needs t v) (sym c.self.view_is) (c.requires.needs v told) in
    let phase = ap (λ (t : Copying). t.phase) c.self.view_is ∙ c.requires.phase in
    let tree = g.met.F.Fs.tree c.args.fs.now v told in
    let grows = less_le _ _ c.piece_end-end.ensures.grows in
    let sized = needs.sized phase in
    let read = c.as_slice-piece.ensures ∙ c.in_ok-piece.ensures.told v told needs.bytes needs.source (omega (arith, sized, c.piece_end-end.ensures.within)) in
    let still = c.in_ok-piece.ensures.quiet.view ∙ told in
    ok_writes _ _ v _ _ (as_is _ _ c.self.view_is v _ _ _ (append_piece _ v needs tree _ c.piece_end-end.result grows c.piece_end-end.ensures.within read phase)) _ (c.in_ok-append.ensures.effect v still)

pub returns-clause-after : goal.returns-clause-after
returns-clause-after g c = λ v told.
    let needs = subst (λ t. Needs t v) (sym c.self.view_is) (c.requires.needs v told) in
    let phase = ap (λ (t : Copying). t.phase) c.self.view_is ∙ c.requires.phase in
    let tree = g.met.F.Fs.tree c.args.fs.now v told in
    let grows = less_le _ _ c.piece_end-end.ensures.grows in
    let sized = needs.sized phase in
    let read = c.as_slice-piece.ensures ∙ c.in_ok-piece.ensures.told v told needs.bytes needs.source (omega (arith, sized, c.piece_end-end.ensures.within)) in
    let still = c.in_ok-piece.ensures.quiet.view ∙ told in
    ok_after _ _ v _ _ (as_is _ _ c.self.view_is v _ _ _ (comes_to _ _ _ (filled_as _ _ _ _ _ c.self.view_is c.filled.ensures) v _ _ (append_piece _ v needs tree _ c.piece_end-end.result grows c.piece_end-end.ensures.within read phase))) _ (c.in_ok-append.ensures.effect v still)

pub returns-clause-pieces : goal.returns-clause-pieces
returns-clause-pieces g c = λ v told is.
    let needs = subst (λ t. Needs t v) (sym c.self.view_is) (c.requires.needs v told) in
    let phase = ap (λ (t : Copying). t.phase) c.self.view_is ∙ c.requires.phase in
    let tree = g.met.F.Fs.tree c.args.fs.now v told in
    let grows = less_le _ _ c.piece_end-end.ensures.grows in
    let sized = needs.sized phase in
    let read = c.as_slice-piece.ensures ∙ c.in_ok-piece.ensures.told v told needs.bytes needs.source (omega (arith, sized, c.piece_end-end.ensures.within)) in
    let still = c.in_ok-piece.ensures.quiet.view ∙ told in
    pieced _ _ _ _ _ _ c.self.view_is c.filled.ensures (counted _ v needs tree _ c.piece_end-end.result grows c.piece_end-end.ensures.within read phase) c.piece_end-end.ensures.value

pub returns-clause-stepped : goal.returns-clause-stepped
returns-clause-stepped g c =
    let end = c.piece_end-end.ensures in
    let piece = c.in_ok-piece.ensures in
    append_goes _ _ _ _ _ c.self.view_is c.requires.phase c.filled.ensures (omega (arith, piece.some, ap length c.as_slice-piece.ensures)) (omega (arith, piece.within, ap length c.as_slice-piece.ensures)) end.value
