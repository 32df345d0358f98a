use Rattle.std.proofs.Common.{refl, sym, subst, arith}
use Rattle.ost_types.specs.declared.meta.Meta.{Meta}
use Rattle.ost_types.specs.Mode.{IsFolderMode}
use Rattle.fs_trait.specs.declared.types.Value.TheVariants as value
use Rattle.fs_trait.specs.View.{named}
use Rattle.fs_trait.specs.Effect.{no_new}
use Rattle.sys_open.specs.Changes.{Lays}
use Rattle.sys_open.proofs.FaultLemmas.{call_interrupted}
use Rattle.sys_open.proofs.Laying.{lays_name, laid_name, free_new}
use Rattle.sys_open.proofs.Working.{changed_left, works_call}
use Rattle.sys_open.proofs.layout.make.Goals as goal

pub returns-in-Ok-clause-works : goal.returns-in-Ok-clause-works
returns-in-Ok-clause-works g c = λ v told.
    works_call (Lays v.now) v _ _ _ _ _ (g.met.F.Fs.only_now c.mkdir.new.self) c.mkdir.ensures.time (changed_left (Lays v.now) (no_new c.args.at.now v.now) v (named c.args.at.now (value.Folder c.folder_meta-meta.result) v) c.mkdir.result _ (lays_name v c.args.at.now c.folder_meta-meta.result c.requires.place (c.requires.free v told).0 c.folder_meta-meta.ensures) (c.mkdir.ensures.effect v told))

pub returns-in-Ok-clause-laid : goal.returns-in-Ok-clause-laid
returns-in-Ok-clause-laid g c = λ v told. laid_name v c.args.at.now c.folder_meta-meta.result _ (c.in-Ok.ensures.effect v told).1

pub returns-clause-works : goal.returns-clause-works
returns-clause-works g c = λ v told.
    works_call (Lays v.now) v _ _ _ _ _ (g.met.F.Fs.only_now c.mkdir.new.self) c.mkdir.ensures.time (changed_left (Lays v.now) (no_new c.args.at.now v.now) v (named c.args.at.now (value.Folder c.folder_meta-meta.result) v) c.mkdir.result _ (lays_name v c.args.at.now c.folder_meta-meta.result c.requires.place (c.requires.free v told).0 c.folder_meta-meta.ensures) (c.mkdir.ensures.effect v told))

pub returns-clause-fails : goal.returns-clause-fails
returns-clause-fails g c = λ v told.
    call_interrupted (no_new c.args.at.now v.now) v (named c.args.at.now (value.Folder c.folder_meta-meta.result) v) c.args.at.now c.in-Err.error _ c.refused.result (free_new v.now (g.met.F.Fs.tree c.args.fs.now v told) c.args.at.now (c.requires.free v told)) (c.in-Err.ensures.effect v told) c.refused.ensures

pub mkdir-requires : goal.mkdir-requires
mkdir-requires g c = subst (λ (m : Meta). IsFolderMode m.mode) (sym c.folder_meta-meta.ensures) (493, omega arith, refl)
