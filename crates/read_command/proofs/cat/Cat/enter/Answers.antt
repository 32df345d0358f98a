use Rattle.std.proofs.Common.{inl, inr, refl, subst, arith}
use Rattle.read_command.specs.Entering.{IsEntry}
use Rattle.read_command.proofs.Cats.{splits, more_names, no_way_on}
use Rattle.read_command.proofs.cat.Cat.enter.Goals as goal

pub returns-in-Folder-clause-enters : goal.returns-in-Folder-clause-enters
returns-in-Folder-clause-enters c = (
  c.index-names-depth.result,
  _,
  splits c.args.self.now.path c.names-names.result.now c.names-names.ensures.value c.args.depth c.index-names-depth.result c.requires c.index-names-depth.is,
  inl (c.in-Folder.tree, c.in-Folder.meta, subst (IsEntry _ _) c.in-Folder.is c.entry_of-entry.ensures, refl),
)

pub returns-in-File-2-clause-enters : goal.returns-in-File-2-clause-enters
returns-in-File-2-clause-enters c =
    let path = c.args.self.now.path in
    let names = c.names-names.result.now in
    let same = c.names-names.ensures.value in
    let x = c.index-names-depth.result in
    no_way_on (record { files = c.args.entries.now.files; folders = c.args.entries.now.folders }) c.args.depth c.args.self.now c.args.self.now c.nowhere.result c.nowhere.ensures x _
    (splits path names same c.args.depth x c.requires c.index-names-depth.is)
    (inr (c.in-File-2.field-0, subst (IsEntry _ _) c.in-File-2.is c.entry_of-entry.ensures, more_names path names same c.args.depth x c.requires c.index-names-depth.is (λ e. omega (arith, e, c.if-is_last.false))))

pub returns-in-Nothing-clause-enters : goal.returns-in-Nothing-clause-enters
returns-in-Nothing-clause-enters c =
    let path = c.args.self.now.path in
    let names = c.names-names.result.now in
    let same = c.names-names.ensures.value in
    let x = c.index-names-depth.result in
    no_way_on (record { files = c.args.entries.now.files; folders = c.args.entries.now.folders }) c.args.depth c.args.self.now c.args.self.now c.nowhere-in-Nothing.result c.nowhere-in-Nothing.ensures x _
    (splits path names same c.args.depth x c.requires c.index-names-depth.is)
    (inl (subst (IsEntry _ _) c.in-Nothing.is c.entry_of-entry.ensures))
