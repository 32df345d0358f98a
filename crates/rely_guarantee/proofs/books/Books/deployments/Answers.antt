use Rattle.std.proofs.Common.{rules, ◌≡◌, ◌<◌, List, length, get_or, sym, ◌∙◌, ap, subst}
use Rattle.rely_guarantee.specs.declared.books.Entry.{Entry}
use Rattle.rely_guarantee.specs.State.{list_in, next_list, opening_state}
use Rattle.rely_guarantee.proofs.States.{list_item}
use Rattle.rely_guarantee.proofs.books.Books.deployments.Goals as goal

pub loop-entry-preserved : goal.loop-entry-preserved
loop-entry-preserved c =
    let same : c.deref-entry-items.result.now ≡ c.args.self.now.history.items = search rules in
    let less = subst (λ (l : List Entry). c.loop-entry.entry-index < length l) same c.loop-entry-test.true in
    let item = subst (λ (l : List Entry). c.entry-item.result ≡ get_or l c.loop-entry.entry-index c.entry-item.result) same c.entry-item.is in
    c.list_after-list.ensures ∙ ap (next_list (list_in c.entry-item.result.event)) c.loop-entry.invariant
    ∙ sym (list_item c.loop-entry.entry-index c.args.self.now.history.items c.entry-item.result (opening_state c.args.self.now.start) less item)
