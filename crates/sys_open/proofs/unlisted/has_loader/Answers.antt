use Rattle.std.proofs.Common.{◌≡◌, sym, ◌∙◌}
use Rattle.ref_room.specs.declared.stands.Stands.{Stands}
use Rattle.ref_room.specs.declared.stands.Stands.TheVariants as stands
use Rattle.sys_open.proofs.Gathering.{a_loader, no_loader}
use Rattle.sys_open.proofs.unlisted.has_loader.Goals as goal

pub returns-in-Ok-Nothing-clause-told : goal.returns-in-Ok-Nothing-clause-told
returns-in-Ok-Nothing-clause-told g c = λ v told. no_loader v.now c.in_ok-at.at c.in_ok-at.ensures (sym c.in-Ok-Nothing.field-0-is ∙ c.in-Ok-Nothing.ensures.told v told)

pub returns-in-Ok-Folder-clause-told : goal.returns-in-Ok-Folder-clause-told
returns-in-Ok-Folder-clause-told g c = λ v told. a_loader v.now c.in_ok-at.at c.in_ok-at.ensures stands.Folder (sym c.in-Ok-Folder.field-0-is ∙ c.in-Ok-Folder.ensures.told v told) (λ e. let n : stands.Folder ≡ stands.Nothing = e in cc)

pub returns-in-Ok-Leaf-clause-told : goal.returns-in-Ok-Leaf-clause-told
returns-in-Ok-Leaf-clause-told g c = λ v told. a_loader v.now c.in_ok-at.at c.in_ok-at.ensures stands.Leaf (sym c.in-Ok-Leaf.field-0-is ∙ c.in-Ok-Leaf.ensures.told v told) (λ e. let n : stands.Leaf ≡ stands.Nothing = e in cc)
