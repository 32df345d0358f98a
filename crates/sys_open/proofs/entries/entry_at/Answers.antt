use Rattle.std.proofs.Common.{◌∙◌, ap, subst}
use Rattle.fs_trait.specs.Effect.{IsNode}
use Rattle.repo_layout.specs.BootPaths.{entry_path}
use Rattle.sys_open.proofs.entries.entry_at.Goals as goal

pub returns-clause-told : goal.returns-clause-told
returns-clause-told g c = λ v loader told selects.
    let node = subst (λ p. IsNode v.now (v.now.at p) c.in_ok-node.node) c.in_ok-at.ensures (c.in_ok-node.ensures.told v told) in
    c.in_ok-in_version.ensures ∙ ap (λ n. entry_path n c.args.file.now) (c.selected.ensures v.now loader node selects)
