use Rattle.std.proofs.Common.{◌-◌, List, get_or, sym, ap, ap₂, ◌∙◌, subst, arith}
use Rattle.ost_types.specs.declared.object.ObjName.{ObjName}
use Rattle.ost_forms.specs.declared.entry.FileItem.{FileItem}
use Rattle.ost_forms.specs.declared.entry.FolderItem.{FolderItem}
use Rattle.ost_forms.specs.DirTree.{IsAscending, tree_form, Entries}
use Rattle.tree_build.specs.Makeable.{IsSmall}
use Rattle.tree_build.specs.Objects.{children, files_of, folders_of, tree_object, bytes_of}
use Rattle.tree_build.specs.Building.{all_seen}
use Rattle.tree_build.proofs.Children.{names_of}
use Rattle.tree_build.proofs.Folders.{kids_ascend, kids_small, entries_number, entries_advance, item_now, cut_of, rest_of}
use Rattle.tree_build.proofs.folder.give_entries.Goals as goal

entries_from : List FileItem → List FolderItem → Entries
entries_from files folders = record { files = files; folders = folders }

pub entries_of-requires-clause-ascending : goal.entries_of-requires-clause-ascending
entries_of-requires-clause-ascending c =
    let i = get_or c.args.items.now (c.args.progress.now.at - 1) c.index-items-progress.result in
    let is = item_now c.args.items.now c.args.progress.now.at c.index-items-progress.result c.requires.folder.0 c.requires.progress.inside in
    let cut = cut_of c.args.items.now i.path c.deref.result.now c.args.progress.now.made.items c.first_in-start.result c.deref.ensures.value c.first_in-start.ensures in
    let kids = rest_of c.deref-2.result.now c.args.progress.now.made.items c.first_in-start.result c.deref-2.ensures.value in
    subst (λ ds. IsAscending (names_of (children i.path (all_seen c.args.items.now ds)))) (sym kids) (kids_ascend c.args.items.now c.requires.items.ordered c.requires.tree c.args.progress.now c.requires.progress c.requires.folder.1 c.requires.folder.0 i is (c.requires.folder.2 c.index-items-progress.result) c.first_in-start.result cut)

pub tree_object-requires : goal.tree_object-requires
unfolding entries_from
tree_object-requires c =
    let i = get_or c.args.items.now (c.args.progress.now.at - 1) c.index-items-progress.result in
    let is = item_now c.args.items.now c.args.progress.now.at c.index-items-progress.result c.requires.folder.0 c.requires.progress.inside in
    let cut = cut_of c.args.items.now i.path c.deref.result.now c.args.progress.now.made.items c.first_in-start.result c.deref.ensures.value c.first_in-start.ensures in
    let kids = rest_of c.deref-2.result.now c.args.progress.now.made.items c.first_in-start.result c.deref-2.ensures.value in
    let entries = ap₂ entries_from (c.in_ok-entries_of.ensures.files ∙ ap (λ ds. files_of (children i.path (all_seen c.args.items.now ds))) kids) (c.in_ok-entries_of.ensures.folders ∙ ap (λ ds. folders_of (children i.path (all_seen c.args.items.now ds))) kids) in
    subst (λ (t : Entries). IsSmall (tree_form t)) (sym entries) (kids_small c.args.items.now c.requires.items.ordered c.requires.tree c.args.progress.now c.requires.progress c.requires.folder.1 c.requires.folder.0 i is (c.requires.folder.2 c.index-items-progress.result) c.first_in-start.result cut c.args.limits.now.content c.requires.items.makeable.small)

pub overflow_add-progress : goal.overflow_add-progress
overflow_add-progress c =
    let i = get_or c.args.items.now (c.args.progress.now.at - 1) c.index-items-progress.result in
    let is = item_now c.args.items.now c.args.progress.now.at c.index-items-progress.result c.requires.folder.0 c.requires.progress.inside in
    let cut = cut_of c.args.items.now i.path c.deref.result.now c.args.progress.now.made.items c.first_in-start.result c.deref.ensures.value c.first_in-start.ensures in
    let n = entries_number c.args.items.now c.requires.items.ordered c.requires.tree c.args.progress.now c.requires.progress c.requires.folder.1 c.requires.folder.0 i is (c.requires.folder.2 c.index-items-progress.result) c.first_in-start.result cut in
    omega (arith, n.0, c.requires.items.few)

pub returns : goal.returns
unfolding entries_from
returns c =
    let i = get_or c.args.items.now (c.args.progress.now.at - 1) c.index-items-progress.result in
    let is = item_now c.args.items.now c.args.progress.now.at c.index-items-progress.result c.requires.folder.0 c.requires.progress.inside in
    let cut = cut_of c.args.items.now i.path c.deref.result.now c.args.progress.now.made.items c.first_in-start.result c.deref.ensures.value c.first_in-start.ensures in
    let kids = rest_of c.deref-2.result.now c.args.progress.now.made.items c.first_in-start.result c.deref-2.ensures.value in
    let entries = ap₂ entries_from (c.in_ok-entries_of.ensures.files ∙ ap (λ ds. files_of (children i.path (all_seen c.args.items.now ds))) kids) (c.in_ok-entries_of.ensures.folders ∙ ap (λ ds. folders_of (children i.path (all_seen c.args.items.now ds))) kids) in
    entries_advance c.args.items.now c.requires.items.ordered c.requires.tree c.args.progress.now c.requires.progress c.requires.folder.1 c.requires.folder.0 i is (c.requires.folder.2 c.index-items-progress.result) c.first_in-start.result cut c.args.limits.now.content c.truncate.new.self c.in_ok-object.object c.name.result.now.csum c.truncate.ensures.items (c.in_ok-object.ensures.object ∙ ap (λ (t : Entries). tree_object (bytes_of (tree_form t))) entries) c.in_ok-object.ensures.limit (ap (λ (n : ObjName). n.csum) c.name.ensures)
