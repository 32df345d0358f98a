use Rattle.std.proofs.Common.{◌+◌, arith, Ok, sym, ◌∙◌, ap, subst, length}
use Rattle.ost_types.specs.declared.object.Kind.TheVariants.{File}
use Rattle.repo_layout.specs.Paths.{object_path}
use Rattle.file_copy.specs.Pieces.{IsPiece}
use Rattle.tree_kernel.specs.Summing.{Summing, initramfs_from}
use Rattle.tree_kernel.proofs.StepLemmas.{initramfs_stepped}
use Rattle.tree_kernel.proofs.SumLemmas.{initramfs_taken}
use Rattle.tree_kernel.proofs.summing.KernelSum.take_initramfs.Goals as goal

pub returns-clause-told : goal.returns-clause-told
returns-clause-told g c = λ v told so.
    let end = c.piece_end-end.ensures in
    let there = sym (ap (λ (t : Summing). t.initramfs) c.self.view_is) ∙ c.in-Some.is in
    let read = subst (λ b. IsPiece v.now (object_path File c.in-Some.initramfs) c.args.at c.piece_end-end.result (Ok b)) (sym c.as_slice-2.ensures) (c.in_ok-piece.ensures.told v told) in
    let from = c.initramfs_from.ensures.value ∙ ap (λ b. initramfs_from c.args.size (c.args.at + length b)) (c.as_slice.ensures ∙ sym c.as_slice-2.ensures) in
    initramfs_taken v.now c.args.self.now c.take.new.self _ _ c.take.ensures c.args.size c.args.at c.piece_end-end.result c.in-Some.initramfs c.requires.0 there read end.range.some end.within from so

pub returns-clause-stepped : goal.returns-clause-stepped
returns-clause-stepped g c =
    let read = c.in_ok-piece.ensures.read in
    let long = ap length c.as_slice.ensures in
    initramfs_stepped c.args.self.now c.take.new.self _ _ c.take.ensures c.args.size c.args.at (c.args.at + length c.as_slice.result.now) c.requires.0 c.initramfs_from.ensures.value (omega (arith, read.some, long)) (omega (arith, read.within, long, c.piece_end-end.ensures.value))
