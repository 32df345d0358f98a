use Rattle.std.proofs.Common.{sym, ap, subst}
use Rattle.ost_types.specs.Path.{IsPath}
use Rattle.ost_forms.specs.DirTree.{IsAscending, file_names, folder_names}
use Rattle.tree_read.proofs.Lasts.{apart_from}
use Rattle.tree_read.proofs.Merged.{took_begin, took_more, took_all}
use Rattle.tree_read.proofs.Shorts.{IsPath-child}
use Rattle.tree_read.proofs.children.children_of.Goals as goal

pub loop-last-init : goal.loop-last-init
loop-last-init c =
    let f = c.as_slice-files.ensures.value in
    let g = c.as_slice-folders.ensures.value in
    rw (f, g) (took_begin c.args.at.now c.args.owner.now (record { files = c.args.tree.now.files; folders = c.args.tree.now.folders })
    (subst (λ x. IsAscending (file_names x)) f c.as_slice-files.ensures.kept.ascending) (subst (λ x. IsAscending (folder_names x)) g c.as_slice-folders.ensures.kept.ascending)
    (apart_from _ _ c.args.tree.now.apart) c.new-items.result.items c.new-items.ensures.items)

pub child-requires : goal.child-requires
child-requires c =
    let at = subst IsPath c.names-names.ensures.value c.names-names.ensures.path in
    IsPath-child c.args.at.now c.in-Some.last.name.now at c.requires (rw (sym c.as_slice-name.ensures.value) c.as_slice-name.ensures.name)

pub loop-last-preserved : goal.loop-last-preserved
loop-last-preserved c =
    took_more c.args.at.now c.args.owner.now _ c.loop-last.files.now c.in-Some.last.files.now c.loop-last.folders.now c.in-Some.last.folders.now c.loop-last.items.items c.push.new.self.items
    (record { path = c.in_ok-child.field-0; named = c.in-Some.last.named; owner = c.args.owner.now }) (record { name = c.in-Some.last.name.now; named = c.in-Some.last.named })
    c.loop-last.invariant c.in-Some.ensures c.in_ok-push.ensures.items
    (ap (λ p. record { path = p; named = c.in-Some.last.named; owner = c.args.owner.now }) c.in_ok-child.ensures)

pub returns : goal.returns
returns c = took_all c.args.at.now c.args.owner.now _ c.loop-last.files.now c.loop-last.folders.now c.loop-last.items.items c.loop-last.invariant c.in_default.ensures
