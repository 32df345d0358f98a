use Rattle.std.proofs.Common.{◌≡◌, true, List, sym, ◌∙◌, subst}
use Rattle.std.specs.Prelude.{IfSome}
use Rattle.std.proofs.lemmas.Result.{err_from_is_err_and}
use Rattle.ost_types.specs.Path.{Name}
use Rattle.fs_trait.specs.declared.types.Value.TheVariants.{Absent}
use Rattle.fs_trait.specs.Effect.{IsListing}
use Rattle.fs_trait.specs.Seen.{shows, IsDirectory}
use Rattle.fs_trait.proofs.Refusals.{no_folder-there}
use Rattle.fs_trait.proofs.Claims.{folder_shows}
use Rattle.repo_layout.specs.RefName.{IsRefName}
use Rattle.repo_layout.specs.Paths.{ref_path}
use Rattle.repo_layout.specs.Refs.{is_leaf}
use Rattle.ref_room.specs.Clash.{IsNoRef}
use Rattle.ref_room.specs.Clearing.{Cleared, Needs, Refuses}
use Rattle.fs_trait.proofs.Answering.{read_fails}
use Rattle.ref_room.proofs.Disks.{looked_nothing, looked_folder, looked_leaf}
use Rattle.ref_room.proofs.ClearingSteps.{looked_absent, looked_found, looked_opened}
use Rattle.ref_room.proofs.clearing.Clearing.look.Goals as goal

pub returns-in_err-names-in-Folder-clause-fails : goal.returns-in_err-names-in-Folder-clause-fails
returns-in_err-names-in-Folder-clause-fails g c = λ v told.
    let still = c.in_ok-look_at.ensures.quiet.view ∙ told in
    let there = looked_folder v.now (v.now.at c.top.result.now) (sym c.in-Folder.is ∙ c.in_ok-look_at.ensures.told v told) in
    let same : c.top.result.now ≡ c.top-in-Folder.result.now = c.top.ensures ∙ sym c.top-in-Folder.ensures in
    let free = no_folder-there v.now (g.met.F.Fs.tree c.args.fs.now v told) c.top-in-Folder.result.now (folder_shows v.now c.top-in-Folder.result.now (subst (λ q. IsDirectory (shows v.now q)) same there)) in
    let error = err_from_is_err_and c.from_residual-in_err-names-in-Folder.result c.from_residual-in_err-names-in-Folder.ensures.1 in
    rw (error.1, error.2) (read_fails {T = List Name} _ (IsListing v.now c.top-in-Folder.result.now) (Refuses c.args.self.now v) free tt tt _ (c.in_err-names-in-Folder.ensures.answer v still))

pub returns-in-Nothing-clause-after : goal.returns-in-Nothing-clause-after
returns-in-Nothing-clause-after g c = λ v told.
    let absent = looked_nothing (v.now.at c.top.result.now) (sym c.in-Nothing.is ∙ c.in_ok-look_at.ensures.told v told) in
    let needs = looked_absent c.args.self.now v c.requires.act (c.requires.needs v told) (subst (λ q. v.now.at q ≡ Absent) c.top.ensures absent) in
    (v, c.in_ok-look_at.ensures.quiet.view ∙ told, subst (λ (t : Cleared). Needs t v) (sym c.pass.ensures.value) needs)

pub returns-in_ok-other-in-Leaf-clause-after : goal.returns-in_ok-other-in-Leaf-clause-after
returns-in_ok-other-in-Leaf-clause-after g c = λ v told.
    let leaf = looked_leaf (v.now.at c.top.result.now) (sym c.in-Leaf.is ∙ c.in_ok-look_at.ensures.told v told) in
    let needs = looked_found c.args.self.now v c.requires.act (c.requires.needs v told) (subst (λ q. is_leaf (v.now.at q) ≡ true) c.top.ensures leaf) c.in_ok-other-in-Leaf.other
    (subst (λ q. IfSome c.in_ok-other-in-Leaf.other (λ name. IsRefName name × (ref_path name ≡ q))) c.top-in-Leaf.ensures c.in_ok-other-in-Leaf.ensures.some)
    (λ e. subst IsNoRef c.top-in-Leaf.ensures (c.in_ok-other-in-Leaf.ensures.none e)) in
    (v, c.in_ok-look_at.ensures.quiet.view ∙ told, subst (λ (t : Cleared). Needs t v) (sym c.count.ensures.value) needs)

pub returns-in_ok-open-in-Folder-clause-after : goal.returns-in_ok-open-in-Folder-clause-after
returns-in_ok-open-in-Folder-clause-after g c = λ v told.
    let still = c.in_ok-look_at.ensures.quiet.view ∙ told in
    let there = looked_folder v.now (v.now.at c.top.result.now) (sym c.in-Folder.is ∙ c.in_ok-look_at.ensures.told v told) in
    let listing = (c.in_ok-names-in-Folder.ensures.answer v still).1 in
    let needs = looked_opened c.args.self.now v c.requires.act (c.requires.needs v told) c.in_ok-names-in-Folder.names c.open.new.self (subst (λ q. IsDirectory (shows v.now q)) c.top.ensures there)
    (subst (λ q. IsListing v.now q c.in_ok-names-in-Folder.names) c.top-in-Folder.ensures listing) c.in_ok-open-in-Folder.ensures.ok in
    (v, c.in_ok-names-in-Folder.ensures.quiet.view ∙ still, needs)
