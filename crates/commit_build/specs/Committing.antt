-- A tree that is being committed, and which step comes next.
use Rattle.std.specs.Prelude.{◌≡◌, ◌⊎◌, ◌<◌, ◌≤◌, ◌+◌, ◌-◌, ◌*◌, ◌^◌, ℕ, List, length, Option, Some, None, Result, Ok, Err}
use Rattle.sha2.specs.Sha256.{sha256}
use Rattle.ost_types.specs.declared.limits.Limits.{Limits}
use Rattle.ost_types.specs.declared.object.Kind.TheVariants as kinds
use Rattle.ost_types.specs.declared.object.ObjName.{ObjName}
use Rattle.ost_forms.specs.declared.tree_item.TreeItem.{TreeItem}
use Rattle.ost_forms.specs.Commit.{CommitParts, ReadsCommit, commit_form}
use Rattle.fs_trait.specs.declared.task.StepResult.{StepResult}
use Rattle.fs_trait.specs.declared.task.StepResult.TheVariants.{More, Done}
use Rattle.fs_trait.specs.declared.task.Need.{Need}
use Rattle.fs_trait.specs.declared.task.Need.TheVariants as need
use Rattle.fs_trait.specs.Effect.{Next}
use Rattle.tree_build.specs.Items.{AreItems, AreTyped, IsTree, IsLeastBad}
use Rattle.tree_build.specs.Makeable.{AreMakeable, IsSmall}
use Rattle.tree_build.specs.Objects.{Object, work, root_of}
use Rattle.tree_build.specs.Building.{IsNumber, object_of}
use Rattle.tree_build.specs.Commits.{commit_bytes, commit_parts}
use Rattle.obj_store.specs.declared.phase.Put.{Put}
use Rattle.obj_store.specs.declared.phase.Phase.TheVariants.{Link}
use Rattle.obj_store.specs.Putting as put
use Rattle.obj_store.specs.Putting.{Putting, IsNew, IsObject, IsLast, put_in}
use Rattle.commit_build.specs.declared.message.Message.{Message}
use Rattle.commit_build.specs.declared.refusal.BuildRefusal.{BuildRefusal}
use Rattle.commit_build.specs.declared.refusal.BuildRefusal.TheVariants.{BadTree, TooMany}
use Rattle.commit_build.specs.declared.phase.Phase.{Phase}
use Rattle.commit_build.specs.declared.phase.Phase.TheVariants as phase
use Rattle.commit_build.specs.Advancing.{newly}

-- who commits what, how many objects of the tree were made, which step comes next, and what came of an object in the last one
pub record Committing : Type 0 where
  pub actor : ℕ
  pub items : List TreeItem
  pub limits : Limits
  pub message : Message
  pub made : ℕ
  pub phase : Phase
  pub met : Option (ObjName × Put)

-- the commit of the items
abbrev pub parts_of : List TreeItem → Message → CommitParts
parts_of items m = commit_parts (root_of items).0 (root_of items).1 m.parent m.subject m.body m.time

abbrev pub named_commit : List ℕ → ObjName
named_commit sum = record { csum = sum; kind = kinds.Commit }

abbrev pub commit_of : List TreeItem → Message → Object
commit_of items m = record { name = named_commit (sha256 (commit_bytes (parts_of items m))); bytes = commit_bytes (parts_of items m) }

-- its bytes read as this commit
abbrev pub ReadsBack : List TreeItem → Message → Type 0
ReadsBack items m = ReadsCommit (λ p. p) (commit_bytes (parts_of items m)) (Ok (parts_of items m))

-- the object that was made last
pub record IsMadeLast (items : List TreeItem) (made : ℕ) (o : Object) : Type 0 where
  pub number : ℕ
  pub is : made ≡ number + 1
  pub object : IsNumber (work items) number o

-- the object is put, by this actor
pub record Puts (actor : ℕ) (o : Object) (p : Putting) : Type 0 where
  pub by : p.actor ≡ actor
  pub name : p.name ≡ o.name
  pub object : IsObject o.name o.bytes p.source

pub record PutsLast (actor : ℕ) (items : List TreeItem) (made : ℕ) (p : Putting) : Type 0 where
  pub object : Object
  pub last : IsMadeLast items made object
  pub puts : Puts actor object p

-- all objects were made, and this is the commit
pub record IsCommit (items : List TreeItem) (message : Message) (made : ℕ) (sum : List ℕ) : Type 0 where
  pub all : made ≡ length (work items)
  pub name : named_commit sum ≡ (commit_of items message).name
  pub reads : ReadsBack items message

abbrev pub kept_in : Phase → Committing → Type 0
kept_in phase.Check t = t.made ≡ 0
kept_in phase.Make t = IsTree t.items
kept_in (phase.Made c) t = IsTree t.items × IsMadeLast t.items t.made (object_of c) × (c.limit ≡ t.limits.content)
kept_in (phase.Put p) t = IsTree t.items × PutsLast t.actor t.items t.made p
kept_in phase.SyncObjects t = IsTree t.items × (t.made ≡ length (work t.items))
kept_in phase.MakeCommit t = IsTree t.items × (t.made ≡ length (work t.items))
kept_in (phase.PutCommit p) t = IsTree t.items × (t.made ≡ length (work t.items)) × Puts t.actor (commit_of t.items t.message) p × ReadsBack t.items t.message
kept_in (phase.SyncCommit sum) t = IsTree t.items × IsCommit t.items t.message t.made sum
kept_in (phase.Unmark sum) t = IsTree t.items × IsCommit t.items t.message t.made sum
kept_in (phase.SyncState sum) t = IsTree t.items × IsCommit t.items t.message t.made sum
kept_in (phase.Ended sum) t = IsTree t.items × IsCommit t.items t.message t.made sum

-- what each such task keeps
pub record IsMade (t : Committing) : Type 0 where
  pub actor : t.actor < 16
  pub items : AreItems t.items
  pub typed : AreTyped t.items
  pub bound : t.limits.objects < 2 ^ 32
  pub makeable : AreMakeable t.limits t.items
  pub small : IsSmall (commit_form (parts_of t.items t.message))
  pub made : t.made ≤ length (work t.items)
  pub kept : kept_in t.phase t

-- which step comes next
abbrev pub IsBegin : Phase → Type 0
IsBegin (phase.Made c) = Unit {0}
IsBegin ph = ⊥

abbrev pub IsPut : Phase → Type 0
IsPut (phase.Put p) = Unit {0}
IsPut ph = ⊥

abbrev pub IsPutCommit : Phase → Type 0
IsPutCommit (phase.PutCommit p) = Unit {0}
IsPutCommit ph = ⊥

abbrev pub IsSyncCommit : Phase → Type 0
IsSyncCommit (phase.SyncCommit sum) = Unit {0}
IsSyncCommit ph = ⊥

abbrev pub IsUnmark : Phase → Type 0
IsUnmark (phase.Unmark sum) = Unit {0}
IsUnmark ph = ⊥

abbrev pub IsSyncState : Phase → Type 0
IsSyncState (phase.SyncState sum) = Unit {0}
IsSyncState ph = ⊥

abbrev pub IsEnded : Phase → Type 0
IsEnded (phase.Ended sum) = Unit {0}
IsEnded ph = ⊥

-- one that makes no call
abbrev pub IsWork : Phase → Type 0
IsWork phase.Check = Unit {0}
IsWork phase.Make = Unit {0}
IsWork (phase.Made c) = Unit {0}
IsWork phase.MakeCommit = Unit {0}
IsWork (phase.Ended sum) = Unit {0}
IsWork ph = ⊥

-- one behind the objects of the tree
abbrev pub IsLate : Phase → Type 0
IsLate phase.Check = ⊥
IsLate phase.Make = ⊥
IsLate (phase.Made c) = ⊥
IsLate (phase.Put p) = ⊥
IsLate ph = Unit {0}

abbrev pub IsAgain : Phase → StepResult (Result (List ℕ) BuildRefusal) → Type 0
IsAgain (phase.Ended sum) turn = turn ≡ Done (Ok sum)
IsAgain ph turn = ⊥

-- what a step stored or found
abbrev pub met_of : ObjName → Option Put → Option (ObjName × Put)
met_of name None = None
met_of name (Some put) = Some (name, put)

-- Which step may follow which, and what came of an object in it.
abbrev pub Follows : Committing → Phase → Phase → ℕ → Option (ObjName × Put) → Type 0
Follows t phase.Check phase.Make made met = (made ≡ t.made) × (met ≡ None)
Follows t phase.Make (phase.Made c) made met = (made ≡ t.made + 1) × (met ≡ None) × IsNumber (work t.items) t.made (object_of c)
Follows t phase.Make phase.SyncObjects made met = (made ≡ t.made) × (met ≡ None) × (t.made ≡ length (work t.items))
Follows t (phase.Made c) (phase.Put p) made met = (made ≡ t.made) × (met ≡ None) × IsNew t.actor c.name c.bytes p
Follows t (phase.Put p) (phase.Put q) made met = (made ≡ t.made) × put.IsStepped p (Ok More) q × (met ≡ met_of p.name (newly (put_in p.phase) (put_in q.phase)))
Follows t (phase.Put p) phase.Make made met = (made ≡ t.made) × ((end : Put) × IsLast p.phase p.source end × (met ≡ met_of p.name (newly (put_in p.phase) (Some end))))
Follows t phase.SyncObjects phase.MakeCommit made met = (made ≡ t.made) × (met ≡ None)
Follows t phase.MakeCommit (phase.PutCommit p) made met = (made ≡ t.made) × (met ≡ None) × IsNew t.actor (commit_of t.items t.message).name (commit_of t.items t.message).bytes p
Follows t (phase.PutCommit p) (phase.PutCommit q) made met = (made ≡ t.made) × put.IsStepped p (Ok More) q × (met ≡ met_of p.name (newly (put_in p.phase) (put_in q.phase)))
Follows t (phase.PutCommit p) (phase.SyncCommit sum) made met = (made ≡ t.made) × (sum ≡ p.name.csum) × ((end : Put) × IsLast p.phase p.source end × (met ≡ met_of p.name (newly (put_in p.phase) (Some end))))
Follows t (phase.SyncCommit sum) (phase.Unmark next) made met = (made ≡ t.made) × (met ≡ None) × (next ≡ sum)
Follows t (phase.Unmark sum) (phase.SyncState next) made met = (made ≡ t.made) × (met ≡ None) × (next ≡ sum)
Follows t last next made met = ⊥

-- with which step it may end, and how
abbrev pub IsEnd : Phase → List ℕ → Type 0
IsEnd (phase.SyncState sum) commit = commit ≡ sum
IsEnd (phase.Ended sum) commit = commit ≡ sum
IsEnd ph commit = ⊥

-- the next step puts an object at its path, if nothing stands there
abbrev pub Links : Phase → Type 0
Links (phase.Put p) = p.phase ≡ Link
Links (phase.PutCommit p) = p.phase ≡ Link
Links ph = ⊥

-- Why it is refused. With `count` objects in the store there is no room where these are as many as the bound.
abbrev pub MayRefuse : ℕ → Committing → BuildRefusal → Type 0
MayRefuse count t (BadTree p) = (t.phase ≡ phase.Check) × IsLeastBad t.items p
MayRefuse count t (TooMany n) = Links t.phase × (t.limits.objects ≤ count) × (n ≡ t.limits.objects + 1)

-- Which step it was, and what changed in the task. One that was refused leaves it as it was, but for what the last step met.
abbrev pub IsStepped : {E : Type 0} → ℕ → Committing → Result (StepResult (Result (List ℕ) BuildRefusal)) E → Committing → Type 0
IsStepped count old (Ok More) new = (new ≡ record old { made = new.made; phase = new.phase; met = new.met }) × Follows old old.phase new.phase new.made new.met
IsStepped count old (Ok (Done (Ok commit))) new = (new ≡ record old { phase = phase.Ended commit; met = None }) × IsEnd old.phase commit
IsStepped count old (Ok (Done (Err refusal))) new = (new ≡ record old { met = None }) × MayRefuse count old refusal
IsStepped count old (Err e) new = new ≡ old

-- No more steps than this are left: for each object as many as a file of the greatest length takes.
abbrev pub each : ℕ
each = 9223372036854775824

abbrev pub later : ℕ → ℕ
later n = n * each + each + 6

abbrev pub left_in : Phase → ℕ → ℕ
left_in phase.Check n = later n + 1
left_in phase.Make n = later n
left_in (phase.Made c) n = later n + (each - 1)
left_in (phase.Put p) n = later n + put.left p + 1
left_in phase.SyncObjects n = each + 5
left_in phase.MakeCommit n = each + 4
left_in (phase.PutCommit p) n = put.left p + 4
left_in (phase.SyncCommit sum) n = 3
left_in (phase.Unmark sum) n = 2
left_in (phase.SyncState sum) n = 1
left_in (phase.Ended sum) n = 0

abbrev pub left : Committing → ℕ
left t = left_in t.phase (length (work t.items) - t.made)

-- the lock under which a step stands: that of those that store, while an object is put
abbrev pub need_in : Phase → Need
need_in (phase.Put p) = put.need_in p.phase
need_in (phase.PutCommit p) = put.need_in p.phase
need_in ph = need.Nothing

-- the object of which such a step is one
abbrev pub named_by : Need → ObjName → Option ObjName
named_by need.Shared name = Some name
named_by lock name = None

abbrev pub storing_in : Phase → Option ObjName
storing_in (phase.Put p) = named_by (put.need_in p.phase) p.name
storing_in (phase.PutCommit p) = named_by (put.need_in p.phase) p.name
storing_in ph = None

-- the commit, once all is done
abbrev pub commit_in : Phase → Option (List ℕ)
commit_in (phase.Ended sum) = Some sum
commit_in ph = None

-- how a step moves the clock
abbrev pub MayTick : ℕ → ℕ → Type 0
MayTick before now = Next before now ⊎ (now ≡ before)

abbrev pub Takes : Phase → ℕ → ℕ → Type 0
Takes (phase.Put p) before now = put.Takes p.phase before now
Takes (phase.PutCommit p) before now = put.Takes p.phase before now
Takes phase.SyncObjects before now = Next before now
Takes (phase.SyncCommit sum) before now = Next before now
Takes (phase.Unmark sum) before now = MayTick before now
Takes (phase.SyncState sum) before now = Next before now
Takes ph before now = now ≡ before

abbrev pub OnMore : {T E : Type 0} → Result (StepResult T) E → Type 0 → Type 0
OnMore (Ok More) P = P
OnMore r P = Unit {0}
