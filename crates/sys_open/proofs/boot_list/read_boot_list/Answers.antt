use Rattle.std.specs.Global.{Vec}
use Rattle.boot_read.specs.declared.row.BootRow.{BootRow}
use Rattle.sys_open.proofs.BootLists.{list_reason, list_told}
use Rattle.sys_open.proofs.boot_list.read_boot_list.Goals as goal

pub returns-in-Ok-clause-told : goal.returns-in-Ok-clause-told
returns-in-Ok-clause-told g c = λ v limits told. (c.in-Ok.rows.items, c.in-Ok.ensures.told v told)

pub returns-in-Err-clause-told : goal.returns-in-Err-clause-told
returns-in-Err-clause-told g c = λ v limits told. list_told (Vec BootRow) limits v.now c.in-Err.fault c.of_list.result (c.in-Err.ensures.told v told) c.of_list.ensures

pub returns-in-Err-clause-reason : goal.returns-in-Err-clause-reason
returns-in-Err-clause-reason g c = list_reason (Vec BootRow) (Vec BootRow) _ _ c.in-Err.fault c.of_list.result c.in-Err.ensures.cause c.of_list.ensures
