use Rattle.std.proofs.Common.{◌≡◌, ◌∙◌, ap, sym, subst}
use Rattle.ost_types.specs.Path.{Path}
use Rattle.fs_trait.specs.declared.types.Value.TheVariants.{Absent}
use Rattle.fs_trait.specs.Seen.{seen}
use Rattle.ref_room.proofs.Disks.{looked_nothing, looked_folder, looked_leaf}
use Rattle.sys_open.specs.Changes.{Configures}
use Rattle.sys_open.proofs.Configuring.{directory_there, leaf_there, there_shows}
use Rattle.sys_open.proofs.Working.{works_quiet, works_then}
use Rattle.sys_open.proofs.configure.configure.Goals as goal

pub write_config-requires-clause-none : goal.write_config-requires-clause-none
write_config-requires-clause-none g c = λ u now.
    ap (seen u.now) (subst (λ (p : Path). u.now.at p ≡ Absent) c.in_ok-at.ensures (looked_nothing (u.now.at c.in_ok-at.at) (sym c.in-Ok-Nothing.field-0-is ∙ c.in-Ok-Nothing.ensures.told u (sym c.look_at.ensures.quiet.view ∙ now))))

pub write_config-requires-clause-folders : goal.write_config-requires-clause-folders
write_config-requires-clause-folders g c = λ u now. c.requires.folders u (sym c.look_at.ensures.quiet.view ∙ now)

pub write_config-requires-clause-staging : goal.write_config-requires-clause-staging
write_config-requires-clause-staging g c = λ u now. c.requires.staging u (sym c.look_at.ensures.quiet.view ∙ now)

pub returns-in-Ok-Nothing-clause-works : goal.returns-in-Ok-Nothing-clause-works
returns-in-Ok-Nothing-clause-works g c = λ v told.
    works_then (Configures v.now) (Configures v.now) v v _ _ _ _ _ _ _ _ (c.look_at.ensures.quiet.view ∙ told) (works_quiet (Configures v.now) v _ _ _ _ _ _ told c.look_at.ensures.quiet) (c.write_config.ensures.works v (c.look_at.ensures.quiet.view ∙ told)) (λ p s h. h)

pub returns-in-Ok-Leaf-clause-works : goal.returns-in-Ok-Leaf-clause-works
returns-in-Ok-Leaf-clause-works g c = λ v told. works_quiet (Configures v.now) v _ _ _ _ _ _ told c.look_at.ensures.quiet

pub returns-in-Ok-Folder-clause-works : goal.returns-in-Ok-Folder-clause-works
returns-in-Ok-Folder-clause-works g c = λ v told. works_quiet (Configures v.now) v _ _ _ _ _ _ told c.look_at.ensures.quiet

pub returns-in-Ok-Leaf-clause-there : goal.returns-in-Ok-Leaf-clause-there
returns-in-Ok-Leaf-clause-there g c = λ v told.
    let leaf = looked_leaf (v.now.at c.in_ok-at.at) (sym c.in-Ok-Leaf.field-0-is ∙ c.in-Ok-Leaf.ensures.told v told) in
    (v, c.look_at.ensures.quiet.view ∙ told, there_shows v.now (c.requires.config v told) (λ none. leaf_there (v.now.at c.in_ok-at.at) leaf (ap v.now.at c.in_ok-at.ensures ∙ none)))

pub returns-in-Ok-Folder-clause-there : goal.returns-in-Ok-Folder-clause-there
returns-in-Ok-Folder-clause-there g c = λ v told.
    let folder = looked_folder v.now (v.now.at c.in_ok-at.at) (sym c.in-Ok-Folder.field-0-is ∙ c.in-Ok-Folder.ensures.told v told) in
    (v, c.look_at.ensures.quiet.view ∙ told, there_shows v.now (c.requires.config v told) (λ none. directory_there v.now (v.now.at c.in_ok-at.at) folder (ap v.now.at c.in_ok-at.ensures ∙ none)))
