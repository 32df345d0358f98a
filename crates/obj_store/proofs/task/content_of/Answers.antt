use Rattle.std.proofs.Common.{Err, subst}
use Rattle.ost_forms.specs.Stream.{ReadsContent}
use Rattle.ost_forms.specs.declared.content.Content.{Content}
use Rattle.obj_store.proofs.Streaming.{only_memory_of}
use Rattle.obj_store.proofs.task.content_of.Goals as goal

pub no_memory-requires : goal.no_memory-requires
no_memory-requires c =
    only_memory_of (λ (x : Content). x.meta) (λ (x : Content). x.body) c.args.limits.now.content c.args.object.now.bytes c.args.object.now.name.kind c.args.object.now.limit c.requires.kind c.requires.limit _ c.args.object.now.formed
    (subst (λ b. ReadsContent (λ (x : Content). x.meta) (λ (x : Content). x.body) c.args.limits.now.content b (Err c.in-Err.fault)) c.bytes.ensures c.in-Err.ensures)
