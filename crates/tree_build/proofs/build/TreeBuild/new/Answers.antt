use Rattle.std.proofs.Common.{◌∙◌, length, sym, ap, subst, arith}
use Rattle.tree_build.specs.Items.{AreTyped}
use Rattle.tree_build.specs.Objects.{work}
use Rattle.tree_build.proofs.Dones.{start_progress}
use Rattle.tree_build.proofs.build.TreeBuild.new.Goals as goal

pub invariant_of-result : goal.invariant_of-result
invariant_of-result c =
    let count = c.count_objects-total.ensures.count ∙ ap (λ l. length (work l)) c.deref.ensures.value in
    record {
      buildable = record { ordered = c.requires.items; makeable = c.requires.makeable; few = omega (arith, count, c.count_objects-total.type_inv) };
      typed = subst AreTyped c.deref.ensures.value c.count_objects-total.ensures.typed;
      at_root = c.root.ensures;
      counted = count;
      progress = start_progress c.args.items.items c.len.result c.new.result (c.len.ensures ∙ sym c.deref.ensures.len ∙ ap length c.deref.ensures.value) c.new.ensures.items;
    }
