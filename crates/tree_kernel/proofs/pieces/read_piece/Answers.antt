use Rattle.std.proofs.Common.{◌≡◌, ◌-◌, ℕ, List, arith, sym, ◌∙◌, ap, length}
use Rattle.std.proofs.lemmas.Bool.{eqb-true}
use Rattle.std.proofs.lemmas.Result.{err_from_is_err_and}
use Rattle.fs_trait.specs.Effect.{OfNone, inode_of, part}
use Rattle.fs_trait.specs.Image.{reads}
use Rattle.fs_trait.proofs.Answering.{read_fails}
use Rattle.file_copy.proofs.PieceLemmas.{asked_part, length_part, read_free}
use Rattle.tree_kernel.proofs.pieces.read_piece.Goals as goal

pub returns-in_err-read_part-clause-told : goal.returns-in_err-read_part-clause-told
returns-in_err-read_part-clause-told g c = λ v told b is within.
    let error = err_from_is_err_and c.from_residual-in_err-read_part.result c.from_residual-in_err-read_part.ensures.1 in
    let here = ap (reads v.now) c.in_ok-at.ensures ∙ is in
    rw (error.1, error.2) (read_fails {T = List ℕ} _ (λ x. x ≡ part c.args.from (c.args.end - c.args.from) (v.now.bytes (inode_of (v.now.at c.in_ok-at.at)))) OfNone (read_free v.now _ b here (g.met.F.Fs.tree c.args.fs.now v told)) tt tt _ (c.in_err-read_part.ensures.answer v told))

pub returns-then-is_empty-clause-told : goal.returns-then-is_empty-clause-told
returns-then-is_empty-clause-told g c = λ v told b is within.
    let most = c.args.end - c.args.from in
    let here = ap (reads v.now) c.in_ok-at.ensures ∙ is in
    let read = (c.in_ok-read_part.ensures.answer v told).1 in
    let whole : c.truncate.new.self.items ≡ part c.args.from most b = c.truncate.ensures.items ∙ asked_part v.now c.in_ok-at.at b here c.args.from most _ (c.into_vec-piece.ensures ∙ read) in
    let none = eqb-true _ 0 (sym c.is_empty.ensures ∙ c.if-is_empty.true) in
    let some = c.requires.some in
    let long = length_part c.args.from c.args.end b (omega (arith, some)) within in
    let count = c.truncate.new.self.ok.0 in
    omega (arith, none, count, ap length whole, long, some)

pub returns-clause-told : goal.returns-clause-told
returns-clause-told g c = λ v told b is within.
    let here = ap (reads v.now) c.in_ok-at.ensures ∙ is in
    let read = (c.in_ok-read_part.ensures.answer v told).1 in
    c.from_vec.ensures ∙ c.truncate.ensures.items ∙ asked_part v.now c.in_ok-at.at b here c.args.from (c.args.end - c.args.from) _ (c.into_vec-piece.ensures ∙ read)
