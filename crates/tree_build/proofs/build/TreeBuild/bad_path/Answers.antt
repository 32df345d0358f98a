use Rattle.std.proofs.Common.{◌≡◌, true, false, sym, ◌∙◌, subst}
use Rattle.tree_build.specs.Items.{IsLeastBad, StartsAtRoot}
use Rattle.tree_build.specs.Building.{Building}
use Rattle.tree_build.proofs.Bads.{bad_at_root}
use Rattle.tree_build.proofs.build.TreeBuild.bad_path.Goals as goal

pub returns-else-starts_at_root : goal.returns-else-starts_at_root
returns-else-starts_at_root c =
    let least = bad_at_root c.self.inside.items.items c.self.invariant.buildable.ordered.ascending
    (λ s. let t = c.starts_at_root.ensures.1 (subst StartsAtRoot (sym c.deref.ensures.value) s) in let n : true ≡ false = sym t ∙ c.if-starts_at_root.false in cc)
    in
    subst (λ (b : Building). IsLeastBad b.items c.self.inside.root) c.self.view_is (subst (IsLeastBad c.self.inside.items.items) (sym c.self.invariant.at_root) least)
