use Rattle.std.proofs.Common.{◌≡◌, rules, refl, sym, ◌∙◌, ap, subst, true, false, Some, None}
use Rattle.std.proofs.lemmas.Fn.{always_returns_same}
use Rattle.ost_types.specs.Path.{path_cmp}
use Rattle.ost_types.specs.PathMap.{Nodes, node_at}
use Rattle.ost_types.proofs.Ascending.{searched}
use Rattle.checkout_command.proofs.Placed.{folder_found, leaf_found, none_found}
use Rattle.checkout_command.proofs.placing.has_folder.Goals as goal

pub returns-in-Folder : goal.returns-in-Folder
returns-in-Folder c =
    let facts = c.binary_search_by.ensures in
    let position = facts.position (λ e. path_cmp e.0 c.args.names.now) (always_returns_same _ _ _ (λ a r f called. (search rules, search rules))) in
    let found = searched c.as_slice-nodes.result.now c.args.names.now c.binary_search_by.result c.as_slice-nodes.ensures.map.ascending facts.bound position in
    let at = rw c.in-Ok.is at found in
    folder_found c.args.tree.now c.as_slice-nodes.result.now c.args.names.now c.in-Folder.field-0 c.as_slice-nodes.ensures.value (at _ ∙ ap Some c.in-Folder.is)

pub returns-in_default : goal.returns-in_default
returns-in_default c =
    let facts = c.binary_search_by.ensures in
    let position = facts.position (λ e. path_cmp e.0 c.args.names.now) (always_returns_same _ _ _ (λ a r f called. (search rules, search rules))) in
    let found = searched c.as_slice-nodes.result.now c.args.names.now c.binary_search_by.result c.as_slice-nodes.ensures.map.ascending facts.bound position in
    let at = rw c.in-Ok.is at found in
    leaf_found c.args.tree.now c.as_slice-nodes.result.now c.args.names.now c.in_default.field-0 c.as_slice-nodes.ensures.value (at _ ∙ ap Some c.in_default.is)

pub returns-in-Err : goal.returns-in-Err
returns-in-Err c =
    let facts = c.binary_search_by.ensures in
    let position = facts.position (λ e. path_cmp e.0 c.args.names.now) (always_returns_same _ _ _ (λ a r f called. (search rules, search rules))) in
    let found = searched c.as_slice-nodes.result.now c.args.names.now c.binary_search_by.result c.as_slice-nodes.ensures.map.ascending facts.bound position in
    none_found c.args.tree.now c.as_slice-nodes.result.now c.args.names.now c.as_slice-nodes.ensures.value (rw c.in-Err.is at found)
