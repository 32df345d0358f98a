use Rattle.std.proofs.Common.{◌≡◌, None, Some, sym, ◌∙◌, ap, ap₂, subst}
use Rattle.tree_build.specs.declared.progress.Done.{Done}
use Rattle.tree_build.specs.declared.sums.Sums.TheVariants.{File, Folder}
use Rattle.tree_build.specs.Items.{IsTree}
use Rattle.tree_build.specs.Objects.{root_of}
use Rattle.tree_build.specs.Building.{Building}
use Rattle.tree_build.proofs.Dones.{root_last, full_by}
use Rattle.tree_build.proofs.build.TreeBuild.root.Goals as goal

pub returns-in-Folder-clause-given : goal.returns-in-Folder-clause-given
returns-in-Folder-clause-given c = λ e.
    let full = full_by c.args.self.now c.self.inside.items.items c.self.inside.limits c.self.inside.progress.done c.self.view_is e in
    let tree = subst (λ (b : Building). IsTree b.items) (sym c.self.view_is) c.requires in
    let w = root_last c.self.inside.items.items c.self.inside.progress c.self.invariant.buildable.ordered tree c.self.invariant.progress full c.deref.result.now (Some c.in-Some.done.now) c.deref.ensures.value c.in-Some.ensures.value in
    let d : c.in-Some.done.now ≡ w.0 = cc (w.1) in
    let s : Folder c.in-Folder.tree c.in-Folder.meta ≡ Folder (root_of c.self.inside.items.items).0 (root_of c.self.inside.items.items).1 = sym c.in-Folder.is ∙ ap (λ (d : Done). d.sums) d ∙ w.2 in
    let t : c.in-Folder.tree ≡ (root_of c.self.inside.items.items).0 = cc in
    let m : c.in-Folder.meta ≡ (root_of c.self.inside.items.items).1 = cc in
    ap₂ (λ t m. Some (t, m)) t m ∙ ap (λ (b : Building). Some (root_of b.items)) c.self.view_is

pub returns-in-File-clause-given : goal.returns-in-File-clause-given
returns-in-File-clause-given c = λ e.
    let full = full_by c.args.self.now c.self.inside.items.items c.self.inside.limits c.self.inside.progress.done c.self.view_is e in
    let tree = subst (λ (b : Building). IsTree b.items) (sym c.self.view_is) c.requires in
    let w = root_last c.self.inside.items.items c.self.inside.progress c.self.invariant.buildable.ordered tree c.self.invariant.progress full c.deref.result.now (Some c.in-Some.done.now) c.deref.ensures.value c.in-Some.ensures.value in
    let d : c.in-Some.done.now ≡ w.0 = cc (w.1) in
    let s : File c.in-File.field-0 ≡ Folder (root_of c.self.inside.items.items).0 (root_of c.self.inside.items.items).1 = sym c.in-File.is ∙ ap (λ (d : Done). d.sums) d ∙ w.2 in
    absurd cc

pub returns-in-None-clause-given : goal.returns-in-None-clause-given
returns-in-None-clause-given c = λ e.
    let full = full_by c.args.self.now c.self.inside.items.items c.self.inside.limits c.self.inside.progress.done c.self.view_is e in
    let tree = subst (λ (b : Building). IsTree b.items) (sym c.self.view_is) c.requires in
    let w = root_last c.self.inside.items.items c.self.inside.progress c.self.invariant.buildable.ordered tree c.self.invariant.progress full c.deref.result.now None c.deref.ensures.value c.in-None.ensures.value in
    absurd (cc (w.1))
