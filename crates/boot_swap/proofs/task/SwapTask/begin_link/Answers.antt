use Rattle.std.proofs.Common.{◌∙◌, ap, sym, subst}
use Rattle.repo_layout.specs.Fixed.{number}
use Rattle.repo_layout.specs.BootPaths.{boot_link_path, boot_link_stage_path}
use Rattle.boot_model.specs.Entries.{boot_target}
use Rattle.folder_build.specs.Link.{begun}
use Rattle.boot_swap.specs.Steps.{Needs}
use Rattle.boot_swap.proofs.Making.{needs_at}
use Rattle.boot_swap.proofs.Showing.{link_begin}
use Rattle.boot_swap.proofs.task.SwapTask.begin_link.Goals as goal

pub returns-clause-after : goal.returns-clause-after
returns-clause-after g c = λ v told.
    let needs = needs_at _ _ _ v c.in-BeginLink.is (subst (λ t. Needs t v) (sym c.self.view_is) (c.requires.needs v told)) in
    (v, told, link_begin _ _ _ c.in_ok-link.link v needs (c.in_ok-link.ensures ∙ ap (λ n. begun boot_link_stage_path (boot_link_path (number n)) (boot_target (number n) (number c.in-BeginLink.sub))) c.version_of.ensures))
