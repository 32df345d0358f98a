use Rattle.std.proofs.Common.{◌≡◌, refl, ap, ◌∙◌, sym, Some, None}
use Rattle.fs_trait.specs.View.{set_bytes}
use Rattle.fs_trait.proofs.Puts.{put_inode-here, put_inode-apart}
use Rattle.memory_table.specs.declared.table.File.{File}
use Rattle.memory_table.specs.Filled.{filled}
use Rattle.memory_table.proofs.Tying.{at_file, AreFiles}
use Rattle.memory_table.proofs.table.Table.spoil.Goals as goal

pub returns-in_ok-insert : goal.returns-in_ok-insert
returns-in_ok-insert c = λ d ties.
    let k = c.args.inode in
    let b = filled c.args.fill (d.bytes k) in
    let was = ties.files k c.in-Some.file (sym c.in-Some.ensures.value) in
    let gone : AreFiles c.remove.new.self (set_bytes k b d) = at_file c.args.self.now.files c.remove.new.self k None d (set_bytes k b d) (λ q. c.in-Some.ensures.updates.0 q) (λ f is. let n : None ≡ Some f = is in cc) (λ q apart. (refl, put_inode-apart k b d.bytes q apart)) ties.files in
    record {
      names = ties.names;
      files = at_file c.remove.new.self c.insert.new.self k _ (set_bytes k b d) (set_bytes k b d) (λ q. c.in_ok-insert.ensures.updates.0 q)
          (λ f is. let e : record { meta = c.in-Some.file.meta; bytes = c.in_ok-spoiled.spoiled } ≡ f = cc in (ap (λ (g : File). g.meta) (sym e) ∙ was.0, ap (λ (g : File). g.bytes) (sym e) ∙ c.in_ok-spoiled.ensures ∙ ap (filled c.args.fill) was.1 ∙ sym (put_inode-here k b d.bytes)))
          (λ q apart. (refl, refl)) gone;
    }

pub returns-in_default : goal.returns-in_default
returns-in_default c = λ d ties. record {
  names = ties.names;
  files = at_file c.args.self.now.files c.remove.new.self c.args.inode None d (set_bytes c.args.inode (filled c.args.fill (d.bytes c.args.inode)) d) (λ q. c.in_default.ensures.updates.0 q) (λ f is. let n : None ≡ Some f = is in cc) (λ q apart. (refl, put_inode-apart c.args.inode (filled c.args.fill (d.bytes c.args.inode)) d.bytes q apart)) ties.files;
}
