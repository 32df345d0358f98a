use Rattle.host_files.proofs.Forms.{plain_form}
use Rattle.host_files.proofs.header.FileHeader.content.Goals as goal

pub returns-clause-form : goal.returns-clause-form
returns-clause-form c = rw (c.new.ensures, c.new-2.ensures) (plain_form c.args.self.uid c.args.self.gid c.args.self.mode)
