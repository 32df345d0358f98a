use Rattle.std.proofs.Common.{◌≡◌, Some, ◌∙◌, sym, ap, subst}
use Rattle.std.specs.Option.{option_copied}
use Rattle.ost_types.specs.declared.node.NodeName.{NodeName}
use Rattle.ost_types.specs.PathMap.{Nodes, node_at}
use Rattle.read_command.specs.Listing.{rows_below}
use Rattle.read_command.proofs.ls.Ls.listed.Goals as goal

pub returns-in_ok-rows_below-in-Some : goal.returns-in_ok-rows_below-in-Some
returns-in_ok-rows_below-in-Some c =
    let path = c.args.self.now.path in
    let rows = c.in_ok-rows_below-in-Some.field-0.items in
    subst (λ (m : Nodes). (n : NodeName) × (node_at m path ≡ Some n) × (rows ≡ rows_below path m)) c.found-tree.ensures
    (c.in-Some.field-0.now, sym c.get.ensures ∙ ap option_copied c.in-Some.is, c.in_ok-rows_below-in-Some.ensures)
