-- What a step tells of the object that it puts: when it says nothing, it put none.
use Rattle.std.proofs.Common.{◌≡◌, ℕ, refl, sym, subst, Option, Some, None}
use Rattle.ost_types.specs.declared.object.ObjName.{ObjName}
use Rattle.obj_store.specs.declared.source.Source.{Source}
use Rattle.obj_store.specs.declared.phase.Put.{Put}
use Rattle.obj_store.specs.declared.phase.Phase as putting
use Rattle.obj_store.specs.declared.phase.Phase.TheVariants as at
use Rattle.obj_store.specs.Putting as put
use Rattle.obj_store.specs.Putting.{Putting, IsLast, put_in}
use Rattle.commit_build.specs.declared.phase.Phase.{Phase}
use Rattle.commit_build.specs.declared.phase.Phase.TheVariants as phase
use Rattle.commit_build.specs.Advancing.{newly}
use Rattle.commit_build.specs.Committing.{Committing, Follows, met_of}

-- it says something of the object alone, and only a step that can't put one says nothing
abbrev pub Met : ObjName → putting.Phase → Option (ObjName × Put) → Type 0
Met name ph None = ph ≡ at.Link → ⊥
Met name ph (Some (n, end)) = n ≡ name

not_link_look : at.Look ≡ at.Link → ⊥
not_link_look e = cc

not_link_stage : at.Stage ≡ at.Link → ⊥
not_link_stage e = cc

not_link_folder : at.Folder ≡ at.Link → ⊥
not_link_folder e = cc

further_met : (name : ObjName) (last next : putting.Phase) (a b : Source) → put.Follows last next a b → Met name last (met_of name (newly (put_in last) (put_in next)))
further_met name at.Look at.Look a b f = not_link_look
further_met name at.Look at.Stage a b f = not_link_look
further_met name at.Look at.Folder a b f = not_link_look
further_met name at.Look at.Link a b f = not_link_look
further_met name at.Look (at.Unlink k) a b f = absurd f
further_met name at.Look (at.Ended k) a b f = absurd f
further_met name at.Stage at.Look a b f = not_link_stage
further_met name at.Stage at.Stage a b f = not_link_stage
further_met name at.Stage at.Folder a b f = not_link_stage
further_met name at.Stage at.Link a b f = not_link_stage
further_met name at.Stage (at.Unlink k) a b f = absurd f
further_met name at.Stage (at.Ended k) a b f = absurd f
further_met name at.Folder at.Look a b f = not_link_folder
further_met name at.Folder at.Stage a b f = not_link_folder
further_met name at.Folder at.Folder a b f = not_link_folder
further_met name at.Folder at.Link a b f = not_link_folder
further_met name at.Folder (at.Unlink k) a b f = absurd f
further_met name at.Folder (at.Ended k) a b f = absurd f
further_met name at.Link at.Look a b f = absurd f
further_met name at.Link at.Stage a b f = absurd f
further_met name at.Link at.Folder a b f = absurd f
further_met name at.Link at.Link a b f = absurd f
further_met name at.Link (at.Unlink k) a b f = refl
further_met name at.Link (at.Ended k) a b f = absurd f
further_met name (at.Unlink k) next a b f = absurd f
further_met name (at.Ended k) next a b f = absurd f

over_met : (name : ObjName) (last : putting.Phase) (source : Source) (end : Put) → IsLast last source end → Met name last (met_of name (newly (put_in last) (Some end)))
over_met name at.Look source end last = refl
over_met name at.Stage source end last = absurd last
over_met name at.Folder source end last = absurd last
over_met name at.Link source end last = refl
over_met name (at.Unlink k) source end last = λ e. (let z : at.Unlink k ≡ at.Link = e in cc)
over_met name (at.Ended k) source end last = λ e. (let z : at.Ended k ≡ at.Link = e in cc)

pub met_put : (t : Committing) (p : Putting) (next : Phase) (made : ℕ) (met : Option (ObjName × Put)) → Follows t (phase.Put p) next made met → Met p.name p.phase met
met_put t p phase.Check made met f = absurd f
met_put t p phase.Make made met (same, (end, last, is)) = subst (Met p.name p.phase) (sym is) (over_met p.name p.phase p.source end last)
met_put t p (phase.Made c2) made met f = absurd f
met_put t p (phase.Put q) made met (same, stepped, is) = subst (Met p.name p.phase) (sym is) (further_met p.name p.phase q.phase p.source q.source stepped.1)
met_put t p phase.SyncObjects made met f = absurd f
met_put t p phase.MakeCommit made met f = absurd f
met_put t p (phase.PutCommit q) made met f = absurd f
met_put t p (phase.SyncCommit sum2) made met f = absurd f
met_put t p (phase.Unmark sum2) made met f = absurd f
met_put t p (phase.SyncState sum2) made met f = absurd f
met_put t p (phase.Ended sum2) made met f = absurd f

pub met_commit : (t : Committing) (p : Putting) (next : Phase) (made : ℕ) (met : Option (ObjName × Put)) → Follows t (phase.PutCommit p) next made met → Met p.name p.phase met
met_commit t p phase.Check made met f = absurd f
met_commit t p phase.Make made met f = absurd f
met_commit t p (phase.Made c2) made met f = absurd f
met_commit t p (phase.Put q) made met f = absurd f
met_commit t p phase.SyncObjects made met f = absurd f
met_commit t p phase.MakeCommit made met f = absurd f
met_commit t p (phase.PutCommit q) made met (same, stepped, is) = subst (Met p.name p.phase) (sym is) (further_met p.name p.phase q.phase p.source q.source stepped.1)
met_commit t p (phase.SyncCommit sum2) made met (same, named, (end, last, is)) = subst (Met p.name p.phase) (sym is) (over_met p.name p.phase p.source end last)
met_commit t p (phase.Unmark sum2) made met f = absurd f
met_commit t p (phase.SyncState sum2) made met f = absurd f
met_commit t p (phase.Ended sum2) made met f = absurd f

-- all other steps say nothing
abbrev pub IsCalm : Phase → Type 0
IsCalm (phase.Put p) = ⊥
IsCalm (phase.PutCommit p) = ⊥
IsCalm ph = Unit {0}

pub met_calm : (t : Committing) (last next : Phase) (made : ℕ) (met : Option (ObjName × Put)) → IsCalm last → Follows t last next made met → met ≡ None
met_calm t phase.Check phase.Check made met calm f = absurd f
met_calm t phase.Check phase.Make made met calm f = f.1
met_calm t phase.Check (phase.Made c2) made met calm f = absurd f
met_calm t phase.Check (phase.Put q2) made met calm f = absurd f
met_calm t phase.Check phase.SyncObjects made met calm f = absurd f
met_calm t phase.Check phase.MakeCommit made met calm f = absurd f
met_calm t phase.Check (phase.PutCommit q2) made met calm f = absurd f
met_calm t phase.Check (phase.SyncCommit sum2) made met calm f = absurd f
met_calm t phase.Check (phase.Unmark sum2) made met calm f = absurd f
met_calm t phase.Check (phase.SyncState sum2) made met calm f = absurd f
met_calm t phase.Check (phase.Ended sum2) made met calm f = absurd f
met_calm t phase.Make phase.Check made met calm f = absurd f
met_calm t phase.Make phase.Make made met calm f = absurd f
met_calm t phase.Make (phase.Made c2) made met calm f = f.1
met_calm t phase.Make (phase.Put q2) made met calm f = absurd f
met_calm t phase.Make phase.SyncObjects made met calm f = f.1
met_calm t phase.Make phase.MakeCommit made met calm f = absurd f
met_calm t phase.Make (phase.PutCommit q2) made met calm f = absurd f
met_calm t phase.Make (phase.SyncCommit sum2) made met calm f = absurd f
met_calm t phase.Make (phase.Unmark sum2) made met calm f = absurd f
met_calm t phase.Make (phase.SyncState sum2) made met calm f = absurd f
met_calm t phase.Make (phase.Ended sum2) made met calm f = absurd f
met_calm t (phase.Made c) phase.Check made met calm f = absurd f
met_calm t (phase.Made c) phase.Make made met calm f = absurd f
met_calm t (phase.Made c) (phase.Made c2) made met calm f = absurd f
met_calm t (phase.Made c) (phase.Put q2) made met calm f = f.1
met_calm t (phase.Made c) phase.SyncObjects made met calm f = absurd f
met_calm t (phase.Made c) phase.MakeCommit made met calm f = absurd f
met_calm t (phase.Made c) (phase.PutCommit q2) made met calm f = absurd f
met_calm t (phase.Made c) (phase.SyncCommit sum2) made met calm f = absurd f
met_calm t (phase.Made c) (phase.Unmark sum2) made met calm f = absurd f
met_calm t (phase.Made c) (phase.SyncState sum2) made met calm f = absurd f
met_calm t (phase.Made c) (phase.Ended sum2) made met calm f = absurd f
met_calm t (phase.Put q) next made met calm f = absurd calm
met_calm t phase.SyncObjects phase.Check made met calm f = absurd f
met_calm t phase.SyncObjects phase.Make made met calm f = absurd f
met_calm t phase.SyncObjects (phase.Made c2) made met calm f = absurd f
met_calm t phase.SyncObjects (phase.Put q2) made met calm f = absurd f
met_calm t phase.SyncObjects phase.SyncObjects made met calm f = absurd f
met_calm t phase.SyncObjects phase.MakeCommit made met calm f = f.1
met_calm t phase.SyncObjects (phase.PutCommit q2) made met calm f = absurd f
met_calm t phase.SyncObjects (phase.SyncCommit sum2) made met calm f = absurd f
met_calm t phase.SyncObjects (phase.Unmark sum2) made met calm f = absurd f
met_calm t phase.SyncObjects (phase.SyncState sum2) made met calm f = absurd f
met_calm t phase.SyncObjects (phase.Ended sum2) made met calm f = absurd f
met_calm t phase.MakeCommit phase.Check made met calm f = absurd f
met_calm t phase.MakeCommit phase.Make made met calm f = absurd f
met_calm t phase.MakeCommit (phase.Made c2) made met calm f = absurd f
met_calm t phase.MakeCommit (phase.Put q2) made met calm f = absurd f
met_calm t phase.MakeCommit phase.SyncObjects made met calm f = absurd f
met_calm t phase.MakeCommit phase.MakeCommit made met calm f = absurd f
met_calm t phase.MakeCommit (phase.PutCommit q2) made met calm f = f.1
met_calm t phase.MakeCommit (phase.SyncCommit sum2) made met calm f = absurd f
met_calm t phase.MakeCommit (phase.Unmark sum2) made met calm f = absurd f
met_calm t phase.MakeCommit (phase.SyncState sum2) made met calm f = absurd f
met_calm t phase.MakeCommit (phase.Ended sum2) made met calm f = absurd f
met_calm t (phase.PutCommit q) next made met calm f = absurd calm
met_calm t (phase.SyncCommit sum) phase.Check made met calm f = absurd f
met_calm t (phase.SyncCommit sum) phase.Make made met calm f = absurd f
met_calm t (phase.SyncCommit sum) (phase.Made c2) made met calm f = absurd f
met_calm t (phase.SyncCommit sum) (phase.Put q2) made met calm f = absurd f
met_calm t (phase.SyncCommit sum) phase.SyncObjects made met calm f = absurd f
met_calm t (phase.SyncCommit sum) phase.MakeCommit made met calm f = absurd f
met_calm t (phase.SyncCommit sum) (phase.PutCommit q2) made met calm f = absurd f
met_calm t (phase.SyncCommit sum) (phase.SyncCommit sum2) made met calm f = absurd f
met_calm t (phase.SyncCommit sum) (phase.Unmark sum2) made met calm f = f.1
met_calm t (phase.SyncCommit sum) (phase.SyncState sum2) made met calm f = absurd f
met_calm t (phase.SyncCommit sum) (phase.Ended sum2) made met calm f = absurd f
met_calm t (phase.Unmark sum) phase.Check made met calm f = absurd f
met_calm t (phase.Unmark sum) phase.Make made met calm f = absurd f
met_calm t (phase.Unmark sum) (phase.Made c2) made met calm f = absurd f
met_calm t (phase.Unmark sum) (phase.Put q2) made met calm f = absurd f
met_calm t (phase.Unmark sum) phase.SyncObjects made met calm f = absurd f
met_calm t (phase.Unmark sum) phase.MakeCommit made met calm f = absurd f
met_calm t (phase.Unmark sum) (phase.PutCommit q2) made met calm f = absurd f
met_calm t (phase.Unmark sum) (phase.SyncCommit sum2) made met calm f = absurd f
met_calm t (phase.Unmark sum) (phase.Unmark sum2) made met calm f = absurd f
met_calm t (phase.Unmark sum) (phase.SyncState sum2) made met calm f = f.1
met_calm t (phase.Unmark sum) (phase.Ended sum2) made met calm f = absurd f
met_calm t (phase.SyncState sum) next made met calm f = absurd f
met_calm t (phase.Ended sum) next made met calm f = absurd f
