use Rattle.std.proofs.Common.{◌+◌, arith, Ok, sym, ◌∙◌, ap, subst, length}
use Rattle.ost_types.specs.declared.object.Kind.TheVariants.{File}
use Rattle.repo_layout.specs.Paths.{object_path}
use Rattle.file_copy.specs.Pieces.{IsPiece}
use Rattle.tree_kernel.specs.Summing.{Summing, kernel_from}
use Rattle.tree_kernel.proofs.StepLemmas.{kernel_stepped}
use Rattle.tree_kernel.proofs.SumLemmas.{kernel_taken}
use Rattle.tree_kernel.proofs.summing.KernelSum.take_kernel.Goals as goal

pub returns-clause-told : goal.returns-clause-told
returns-clause-told g c = λ v told so.
    let end = c.piece_end-end.ensures in
    let bytes = subst (λ b. IsPiece v.now (object_path File c.self.inside.kernel) c.args.at c.piece_end-end.result (Ok b)) (sym c.as_slice-2.ensures) (c.in_ok-piece.ensures.told v told) in
    let read = subst (λ (t : Summing). IsPiece v.now (object_path File t.kernel) c.args.at c.piece_end-end.result (Ok c.as_slice-2.result.now)) c.self.view_is bytes in
    let from = c.kernel_from.ensures.value ∙ ap (λ b. kernel_from c.args.size (c.args.at + length b) c.args.after) (c.as_slice.ensures ∙ sym c.as_slice-2.ensures) in
    kernel_taken v.now c.args.self.now c.take.new.self _ _ c.take.ensures c.args.size c.args.at c.piece_end-end.result c.args.after c.requires.0 read end.range.some end.within from so

pub returns-clause-stepped : goal.returns-clause-stepped
returns-clause-stepped g c =
    let read = c.in_ok-piece.ensures.read in
    let long = ap length c.as_slice.ensures in
    kernel_stepped c.args.self.now c.take.new.self _ _ c.take.ensures c.args.size c.args.at c.args.after (c.args.at + length c.as_slice.result.now) c.requires.0 c.kernel_from.ensures.value (omega (arith, read.some, long)) (omega (arith, read.within, long, c.piece_end-end.ensures.value))
