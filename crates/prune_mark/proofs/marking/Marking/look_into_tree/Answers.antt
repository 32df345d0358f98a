use Rattle.std.proofs.Common.{sym, ◌∙◌, ap}
use Rattle.ost_types.specs.declared.object.Kind.TheVariants as kinds
use Rattle.repo_model.specs.Trees.{name_of}
use Rattle.prune_mark.proofs.Steps.{finished, last_marked, nothing_left, refused, tree_told}
use Rattle.prune_mark.proofs.marking.Marking.look_into_tree.Goals as goal

pub returns-in_default-clause-told : goal.returns-in_default-clause-told
returns-in_default-clause-told g c = λ v roots is known.
    let none = sym (ap (λ t. t.pending) c.self.view_is) ∙ sym c.deref.ensures.value ∙ nothing_left c.deref.result.now c.in_default.ensures.cases in
    finished v.now roots c.args.self.now known c.requires none

pub returns-in_ok-open_tree-in-Ok-clause-told : goal.returns-in_ok-open_tree-in-Ok-clause-told
returns-in_ok-open_tree-in-Ok-clause-told g c = λ v roots is known.
    let cut = sym (ap (λ t. t.pending) c.self.view_is) ∙ sym c.deref.ensures.value ∙ c.in-Some.ensures.cases.0 in
    tree_told v.now roots c.args.self.now c.open_tree.new.self (record { files = c.in-Ok.entries.files; folders = c.in-Ok.entries.folders }) c.in-Some.field-0-1.now c.in-Some.tree.now cut (c.in-Ok.ensures.told v is) c.in_ok-open_tree-in-Ok.ensures.ok known

pub returns-in-Err-clause-told : goal.returns-in-Err-clause-told
returns-in-Err-clause-told g c = λ v roots is known.
    let cut = sym (ap (λ t. t.pending) c.self.view_is) ∙ sym c.deref.ensures.value ∙ c.in-Some.ensures.cases.0 in
    refused {T = Unit {0}} v.now c.args.limits.now.content (name_of kinds.DirTree c.in-Some.tree.now) (λ x. ⊥) c.args.self.now.names c.args.self.now.flags
    (last_marked v.now roots c.args.self.now c.in-Some.field-0-1.now c.in-Some.tree.now cut known)
    c.in-Err.fault
    (c.in-Err.ensures.told v is)
