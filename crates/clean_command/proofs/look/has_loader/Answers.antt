use Rattle.std.proofs.Common.{◌≡◌, sym, ◌∙◌}
use Rattle.ref_room.specs.declared.stands.Stands.TheVariants as stands
use Rattle.clean_command.proofs.Looking.{a_loader, no_loader}
use Rattle.clean_command.proofs.look.has_loader.Goals as goal

pub returns-in-Nothing-clause-told : goal.returns-in-Nothing-clause-told
returns-in-Nothing-clause-told g c = λ v told. no_loader v.now c.in_ok-at.at c.in_ok-at.ensures (sym c.in-Nothing.is ∙ c.in_ok-look_at.ensures.told v told)

pub returns-in-Folder-clause-told : goal.returns-in-Folder-clause-told
returns-in-Folder-clause-told g c = λ v told. a_loader v.now c.in_ok-at.at c.in_ok-at.ensures stands.Folder (sym c.in-Folder.is ∙ c.in_ok-look_at.ensures.told v told) (λ e. let n : stands.Folder ≡ stands.Nothing = e in cc)

pub returns-clause-told : goal.returns-clause-told
returns-clause-told g c = λ v told. a_loader v.now c.in_ok-at.at c.in_ok-at.ensures stands.Leaf (sym c.in-Leaf.is ∙ c.in_ok-look_at.ensures.told v told) (λ e. let n : stands.Leaf ≡ stands.Nothing = e in cc)
