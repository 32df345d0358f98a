use Rattle.std.proofs.Common.{◌≡◌, ◌∙◌, ap, sym, subst, arith, IfOk}
use Rattle.std.proofs.Math.Seq.{take-length}
use Rattle.memory_record.specs.Changes.{view_of}
use Rattle.memory_record.proofs.Records.{last_meta, first_meta}
use Rattle.memory_record.proofs.files.meta_of.Goals as goal

pub loop-i-init : goal.loop-i-init
loop-i-init c = (omega arith, sym (ap (λ l. (view_of l).now.meta c.args.inode) (take-length c.args.changes.now)))

pub loop-i-preserved : goal.loop-i-preserved
loop-i-preserved c = (omega arith, c.loop-i.invariant.1 ∙ last_meta c.loop-i.i c.args.changes.now c.index-changes-i.result _ c.args.inode c.loop-i-test.true c.loop-i.invariant.0 c.index-changes-i.is ∙ c.in_default.ensures _)

pub returns-in-Some : goal.returns-in-Some
returns-in-Some c =
    let e = c.loop-i.invariant.1 ∙ last_meta c.loop-i.i c.args.changes.now c.index-changes-i.result _ c.args.inode c.loop-i-test.true c.loop-i.invariant.0 c.index-changes-i.is ∙ c.in-Some.ensures _ in
    subst (λ x. IfOk c.copy.result (λ m. m ≡ x)) (sym e) c.copy.ensures

pub returns : goal.returns
returns c = c.root_meta.ensures ∙ sym (first_meta c.loop-i.i c.args.changes.now c.args.inode c.loop-i-test.false) ∙ sym c.loop-i.invariant.1
