use Rattle.std.proofs.Common.{rules, Some, get_or, sym, ◌∙◌, ap}
use Rattle.std.proofs.lemmas.Fn.{always_returns_same}
use Rattle.ost_types.specs.Path.{path_cmp}
use Rattle.ost_types.proofs.Ascending.{searched}
use Rattle.ost_types.proofs.path_map.PathMap.get.Goals as goal

pub returns-in-Ok : goal.returns-in-Ok
returns-in-Ok c =
    let facts = c.binary_search_by.ensures in
    let position = facts.position (λ e. path_cmp e.0 c.args.path.now) (always_returns_same _ _ _ (λ a r f called. (search rules, search rules))) in
    let found = searched c.deref.result.now c.args.path.now c.binary_search_by.result (rw c.deref.ensures.value c.self.invariant.ascending) facts.bound position in
    let read = c.index.ensures ∙ ap (λ m. get_or m c.in-Ok.at c.index.result.now) (sym c.deref.ensures.value) in
    rw (← c.self.view_is, ← c.deref.ensures.value) (ap (λ e. Some e.1) read ∙ sym (let at = rw c.in-Ok.is at found in at c.index.result.now))

pub returns-in-Err : goal.returns-in-Err
returns-in-Err c =
    let facts = c.binary_search_by.ensures in
    let position = facts.position (λ e. path_cmp e.0 c.args.path.now) (always_returns_same _ _ _ (λ a r f called. (search rules, search rules))) in
    let found = searched c.deref.result.now c.args.path.now c.binary_search_by.result (rw c.deref.ensures.value c.self.invariant.ascending) facts.bound position in
    rw (← c.self.view_is, ← c.deref.ensures.value) (sym (rw c.in-Err.is at found))
