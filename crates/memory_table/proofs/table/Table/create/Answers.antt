use Rattle.std.proofs.Common.{◌≡◌, ap, ◌∙◌, sym, []}
use Rattle.fs_trait.specs.View.{set_bytes, set_meta}
use Rattle.fs_trait.proofs.Puts.{put_inode-here, put_inode-apart}
use Rattle.memory_table.specs.declared.table.File.{File}
use Rattle.memory_table.proofs.Holding.{on_ok}
use Rattle.memory_table.proofs.Tying.{at_file}
use Rattle.memory_table.proofs.table.Table.create.Goals as goal

pub returns : goal.returns
returns c = on_ok c.name.result _ _ (λ named d ties. named (set_bytes c.args.inode [] (set_meta c.args.inode c.args.meta d)) (record {
  names = ties.names;
  files = at_file c.args.self.now.files c.insert.new.self c.args.inode _ d (set_bytes c.args.inode [] (set_meta c.args.inode c.args.meta d)) (λ q. c.in_ok-insert.ensures.updates.0 q)
      (λ f is. let e : record { meta = c.args.meta; bytes = c.new-bytes.result } ≡ f = cc in (ap (λ (g : File). g.meta) (sym e) ∙ sym (put_inode-here c.args.inode c.args.meta d.meta), ap (λ (g : File). g.bytes) (sym e) ∙ c.new-bytes.ensures ∙ sym (put_inode-here c.args.inode [] d.bytes)))
      (λ q apart. (put_inode-apart c.args.inode c.args.meta d.meta q apart, put_inode-apart c.args.inode [] d.bytes q apart)) ties.files;
})) c.name.ensures
