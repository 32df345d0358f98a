use Rattle.std.proofs.Common.{ap, sym}
use Rattle.ost_types.specs.Path.{joined, text_of}
use Rattle.repo_layout.specs.Paths.{folder_path}
use Rattle.repo_layout.proofs.folder.folder_text.Goals as goal

pub returns-in-Ostree : goal.returns-in-Ostree
unfolding joined
returns-in-Ostree c = ap (λ f. text_of (folder_path f)) (sym c.in-Ostree.is)

pub returns-in-Repo : goal.returns-in-Repo
unfolding joined
returns-in-Repo c = ap (λ f. text_of (folder_path f)) (sym c.in-Repo.is)

pub returns-in-Objects : goal.returns-in-Objects
unfolding joined
returns-in-Objects c = ap (λ f. text_of (folder_path f)) (sym c.in-Objects.is)

pub returns-in-Refs : goal.returns-in-Refs
unfolding joined
returns-in-Refs c = ap (λ f. text_of (folder_path f)) (sym c.in-Refs.is)

pub returns-in-Heads : goal.returns-in-Heads
unfolding joined
returns-in-Heads c = ap (λ f. text_of (folder_path f)) (sym c.in-Heads.is)

pub returns-in-State : goal.returns-in-State
unfolding joined
returns-in-State c = ap (λ f. text_of (folder_path f)) (sym c.in-State.is)

pub returns-in-Tmp : goal.returns-in-Tmp
unfolding joined
returns-in-Tmp c = ap (λ f. text_of (folder_path f)) (sym c.in-Tmp.is)

pub returns-in-Deploy : goal.returns-in-Deploy
unfolding joined
returns-in-Deploy c = ap (λ f. text_of (folder_path f)) (sym c.in-Deploy.is)

pub returns-in-Boot : goal.returns-in-Boot
unfolding joined
returns-in-Boot c = ap (λ f. text_of (folder_path f)) (sym c.in-Boot.is)

pub returns-in-Kernels : goal.returns-in-Kernels
unfolding joined
returns-in-Kernels c = ap (λ f. text_of (folder_path f)) (sym c.in-Kernels.is)

pub returns-in-Checkouts : goal.returns-in-Checkouts
unfolding joined
returns-in-Checkouts c = ap (λ f. text_of (folder_path f)) (sym c.in-Checkouts.is)
