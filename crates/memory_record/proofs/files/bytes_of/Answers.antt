use Rattle.std.proofs.Common.{◌∙◌, ap, sym, take}
use Rattle.memory_record.specs.Changes.{view_of}
use Rattle.memory_record.specs.Seen.{bytes_after, synced_after}
use Rattle.memory_record.proofs.Records.{view_of-item, empty-bytes, empty-synced, bytes-apply, synced-apply}
use Rattle.memory_record.proofs.files.bytes_of.Goals as goal

pub loop-change-init : goal.loop-change-init
loop-change-init c = (c.new.ensures ∙ sym (empty-bytes c.args.inode), sym (empty-synced c.args.inode))

pub loop-change-preserved : goal.loop-change-preserved
loop-change-preserved c =
    let before = view_of (take c.loop-change.change-index c.args.changes.now) in
    let item = view_of-item c.loop-change.change-index c.args.changes.now c.change-item.result _ c.loop-change-test.true c.change-item.is in
    let was = c.loop-change.invariant in (
      c.in_ok-content.ensures.bytes ∙ ap (bytes_after c.change-item.result c.args.inode c.loop-change.content.synced) was.0 ∙ ap (λ s. bytes_after c.change-item.result c.args.inode s (before.now.bytes c.args.inode)) was.1
          ∙ sym (bytes-apply c.change-item.result c.args.inode before) ∙ sym (ap (λ v. v.now.bytes c.args.inode) item),
      c.in_ok-content.ensures.synced ∙ ap (synced_after c.change-item.result c.args.inode) was.1 ∙ sym (synced-apply c.change-item.result c.args.inode before) ∙ sym (ap (λ v. v.synced c.args.inode) item),
    )
