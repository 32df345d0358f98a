use Rattle.std.proofs.Common.{ap, sym}
use Rattle.ost_types.specs.Path.{joined, text_of}
use Rattle.repo_layout.specs.Fixed.{fixed_path}
use Rattle.repo_layout.proofs.fixed.fixed_text.Goals as goal

pub returns-in-Summary : goal.returns-in-Summary
unfolding joined
returns-in-Summary c = ap (λ f. text_of (fixed_path f)) (sym c.in-Summary.is)
