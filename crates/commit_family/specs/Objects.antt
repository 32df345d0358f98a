-- What a commit pins and stores, and that it makes no folder of a checkout.
use Rattle.std.proofs.Common.{◌≡◌, inl, inr, ⊎_elim, ◌<◌, ℕ, Bool, refl, sym, ◌∙◌, ap, subst, List, [], Option, Some, None}
use Rattle.ost_types.specs.declared.limits.Limits.{Limits}
use Rattle.ost_types.specs.declared.object.ObjName.{ObjName}
use Rattle.ost_types.specs.Path.{Path}
use Rattle.ost_forms.specs.declared.tree_item.TreeItem.{TreeItem}
use Rattle.ost_objects.specs.Object.{IsNamed}
use Rattle.fs_trait.specs.declared.task.StepResult.TheVariants as turn
use Rattle.fs_trait.specs.declared.types.Value.TheVariants.{Absent}
use Rattle.fs_trait.specs.Seen.{Seen}
use Rattle.fs_trait.specs.View.{View}
use Rattle.repo_layout.specs.BootPaths.{checkout_path}
use Rattle.repo_layout.specs.Place.{Place, place}
use Rattle.repo_layout.specs.RefFile.{IsSum}
use Rattle.repo_layout.proofs.Places.{place-checkout, place-object, place-objects_folder}
use Rattle.repo_model.specs.Objects.{object_in, path_of}
use Rattle.repo_model.proofs.Named.{IsSum-named}
use Rattle.obj_store.specs.declared.phase.Put.TheVariants.{Stored}
use Rattle.obj_store.specs.Putting.{IsObject, Putting}
use Rattle.obj_store.specs.Steps as put
use Rattle.obj_store.specs.Whole.{IsShown}
use Rattle.obj_store.proofs.PlaceLemmas.{one_name}
use Rattle.obj_store.proofs.Stable.{put_lies}
use Rattle.tree_build.specs.Building.{IsNumber}
use Rattle.tree_build.specs.Objects.{Object, work}
use Rattle.commit_build.specs.declared.message.Message.{Message}
use Rattle.commit_build.specs.declared.phase.Phase.{Phase}
use Rattle.commit_build.specs.declared.phase.Phase.TheVariants as phase
use Rattle.commit_build.specs.Committing.{Committing, Puts, commit_of, storing_in}
use Rattle.commit_build.specs.Steps.{Needs, writes_in}
use Rattle.commit_build.specs.Whole.{IsOfCommit, its_commit}
use Rattle.commit_build.proofs.Mild.{mark_object, object_folder, stage_object}
use Rattle.commit_build.proofs.Named.{work_named}
use Rattle.commit_build.proofs.PutSteps.{kept_as, needs_as}
use Rattle.commit_build.proofs.Stable.{Lies, commit_lies}
use Rattle.commit_durability.specs.Lasting.{IsOf}
use Rattle.rely_guarantee.specs.declared.kind.Wants.{Wants}
use Rattle.rely_guarantee.specs.Books.{Books}
use Rattle.rely_guarantee.specs.Laws.{Take}
use Rattle.rely_guarantee.specs.Pinning.{pin_in}
use Rattle.rely_guarantee.specs.Rely.{IsBoot}
use Rattle.commit_command.specs.declared.naming.Naming.{Naming}
use Rattle.commit_command.specs.declared.command.CommitCommand.{CommitCommand}
use Rattle.commit_command.specs.Facts.{commit_facts, facts_by}
use Rattle.commit_command.specs.Kinds.{build_kind, commit_kind, commit_leaves, commit_writes, kind_by, met_in, put_wants, writes_by}
use Rattle.commit_command.specs.Lying.{OfBuild, OfRef, build_place, mark_place, object_place, ref_place, stage_place}
use Rattle.commit_command.proofs.Holding.{stored_of}
use Rattle.commit_command.proofs.Pinning.{pin_of}
use Rattle.commit_command.proofs.Stored.{commit_room}
use Rattle.ref_store.specs.Change.{progress_in}
use Rattle.ref_command.specs.Kinds.{event}
use Rattle.ref_command.specs.Placed.{ref_places}
use Rattle.command.specs.Removing.{IsRemoving}
use Rattle.command.specs.LockLaws.{AsksInOrder, asks_in_order}
use Rattle.ref_family.specs.Objects.{change_light}
use Rattle.ref_family.specs.Removing.{ref_stays}
use Rattle.commit_family.specs.Pursues.{Commits}

-- no lock is asked for but that of the refs and that of those that store
build_light : (pinned : Bool) (o : Option ObjName) (wants : Wants) → build_kind pinned o ≡ Take wants → AsksInOrder wants
build_light pinned None wants is = cc
build_light pinned (Some name) wants is = let same : put_wants pinned name ≡ wants = cc in subst AsksInOrder same (asks_in_order (put_wants pinned name) (refl, refl, refl))

light_by : (o : Option Naming) (t : CommitCommand) (wants : Wants) → kind_by o t ≡ Take wants → AsksInOrder wants
light_by None t wants is = build_light t.pinned (storing_in t.build.phase) wants is
light_by (Some n) t wants is = change_light (progress_in n.work.task.phase) (event n.work.task) wants is

pub commits_light : (t : CommitCommand) (wants : Wants) → commit_kind t ≡ Take wants → AsksInOrder wants
commits_light t wants is = light_by t.change t wants is

-- no object is removed
build_stays : (pinned : Bool) (o : Option ObjName) → IsRemoving (build_kind pinned o) → ⊥
build_stays pinned None removes = removes
build_stays pinned (Some name) removes = removes

stays_by : (o : Option Naming) (t : CommitCommand) → IsRemoving (kind_by o t) → ⊥
stays_by None t removes = build_stays t.pinned (storing_in t.build.phase) removes
stays_by (Some n) t removes = ref_stays n.work.task removes

pub no_removal : (t : CommitCommand) → IsRemoving (commit_kind t) → ⊥
no_removal t removes = stays_by t.change t removes

-- nothing is written at a checkout's path
off_by : (o : Option Naming) (actor lane : ℕ) (t : CommitCommand) (v : View) (b : Books) (name : List ℕ) (s : Seen) → facts_by o lane t v b → writes_by o actor t v (checkout_path name) s → ⊥
off_by None actor lane t v b name s f wrote = subst (OfBuild t.build.actor) (place-checkout name []) (build_place t.build v f.needs.made.actor (checkout_path name) s (commit_lies t.build v f.needs (checkout_path name) s wrote.0))
off_by (Some n) actor lane t v b name s f wrote = subst (OfRef n.work.task.actor) (place-checkout name []) (ref_place n.work.task v f.ref.needs (checkout_path name) s wrote)

pub no_checkout : (actor lane : ℕ) (t : CommitCommand) (v : View) (b : Books) (name : List ℕ) (s : Seen) → commit_facts lane t v b → commit_writes actor t v (checkout_path name) s → ⊥
no_checkout actor lane t v b name s f wrote = off_by t.change actor lane t v b name s f wrote

-- nor where what boots stands
moved : {x y : Place} → x ≡ y → (IsBoot y → ⊥) → IsBoot x → ⊥
moved same none boot = none (subst IsBoot same boot)

build_boot : (t : Committing) (v : View) → t.actor < 16 → (p : Path) (s : Seen) → Lies t v p s → IsBoot (place p) → ⊥
build_boot t v few p s l = ⊎_elim
    (λ a. moved (ap place a.0 ∙ stage_place t.actor few) (λ boot. boot))
    (λ b. ⊎_elim
    (λ a. moved (ap place a.2 ∙ place-objects_folder a.0.name.csum) (λ boot. boot))
    (λ c. ⊎_elim
    (λ a. moved (ap place a.4 ∙ object_place t a.0 a.2) (λ boot. boot))
    (λ a. moved (ap place a.0 ∙ mark_place t) (λ boot. boot))
    c)
    b)
    l.place

boot_by : (o : Option Naming) (actor lane : ℕ) (t : CommitCommand) (v : View) (b : Books) (p : Path) (s : Seen) → facts_by o lane t v b → writes_by o actor t v p s → IsBoot (place p) → ⊥
boot_by None actor lane t v b p s f wrote boot = build_boot t.build v f.needs.made.actor p s (commit_lies t.build v f.needs p s wrote.0) boot
boot_by (Some n) actor lane t v b p s f wrote boot = ⊎_elim (λ stage. moved stage (λ is. is) boot) (λ ref. moved ref.1 (λ is. is) boot) (ref_places n.work.task v lane f.ref.needs f.ref.mine p s wrote)

pub no_boot : (actor lane : ℕ) (t : CommitCommand) (v : View) (b : Books) (p : Path) (s : Seen) → commit_facts lane t v b → commit_writes actor t v p s → IsBoot (place p) → ⊥
no_boot actor lane t v b p s f wrote boot = boot_by t.change actor lane t v b p s f wrote boot

-- a put writes at the path of its object alone, and the object there
module _ (o : Object) (named : IsNamed o.name o.bytes) (actor : ℕ) (q : Putting) (v : View) (has : put.Needs q v) (puts : Puts actor o q) (name : ObjName) (sum : IsSum name.csum) (s : Seen) where
  held : IsShown q s → object_in o.name.kind s ≡ Some o.bytes
  held shown = subst (λ (n : ObjName). object_in n.kind s ≡ Some o.bytes) puts.name (shown o.bytes (subst (λ (n : ObjName). IsObject n o.bytes q.source) (sym puts.name) puts.object))

  pub put_there : put.WritesOf q v (path_of name) s → (name ≡ o.name) × (object_in o.name.kind s ≡ Some o.bytes)
  put_there wrote = ⊎_elim
      (λ a. absurd (stage_object q.actor name (sym a.0)))
      (λ more. ⊎_elim
      (λ a. absurd (object_folder name q.name.csum a.0))
      (λ a. (one_name name o.name sum (IsSum-named o.name o.bytes named) (a.0 ∙ ap path_of puts.name), held a.1))
      more)
      (put_lies q v has (path_of name) s wrote).place

one_content : (a b : List ℕ) (o : Option (List ℕ)) → o ≡ Some a → o ≡ Some b → a ≡ b
one_content a b o x y = let e : Some a ≡ Some b = sym x ∙ y in cc

-- so a build writes objects of its commit alone
module _ (t : Committing) (v : View) (needs : Needs t v) (name : ObjName) (sum : IsSum name.csum) (s : Seen) (bytes : List ℕ) (reads : object_in name.kind s ≡ Some bytes) where
  abbrev pub Brought : Type 0
  Brought = (o : Object) × IsOfCommit t o × (o.name ≡ name) × (o.bytes ≡ bytes)

  put_brings : (o : Object) → IsOfCommit t o → IsNamed o.name o.bytes → (q : Putting) → put.Needs q v → Puts t.actor o q → put.WritesOf q v (path_of name) s → Brought
  put_brings o of named q has puts wrote =
      let at = put_there o named t.actor q v has puts name sum s wrote in
      (o, of, sym at.0, one_content o.bytes bytes (object_in o.name.kind s) at.1 (subst (λ (n : ObjName). object_in n.kind s ≡ Some bytes) at.0 reads))

  build_brings : (ph : Phase) → t.phase ≡ ph → writes_in ph v (path_of name) s → Brought
  build_brings (phase.Put q) is wrote =
      let last = (kept_as t needs.made (phase.Put q) is).1 in
      let number = last.last.object in
      put_brings last.object (inl (last.last.number, number)) (work_named t.items last.last.number last.object number) q (needs_as t v needs (phase.Put q) is).0 last.puts wrote
  build_brings (phase.PutCommit q) is wrote = put_brings (its_commit t) (inr refl) refl q (needs_as t v needs (phase.PutCommit q) is).0 (kept_as t needs.made (phase.PutCommit q) is).2 wrote
  build_brings (phase.Unmark commit) is wrote = absurd (mark_object commit name (sym wrote.0))
  build_brings phase.Check is wrote = absurd wrote
  build_brings phase.Make is wrote = absurd wrote
  build_brings (phase.Made c) is wrote = absurd wrote
  build_brings phase.SyncObjects is wrote = absurd wrote
  build_brings phase.MakeCommit is wrote = absurd wrote
  build_brings (phase.SyncCommit commit) is wrote = absurd wrote
  build_brings (phase.SyncState commit) is wrote = absurd wrote
  build_brings (phase.Ended commit) is wrote = absurd wrote

brings_by : (o : Option Naming) (actor lane : ℕ) (t : CommitCommand) (v : View) (b : Books) (name : ObjName) (s : Seen) (bytes : List ℕ) → facts_by o lane t v b → IsSum name.csum → writes_by o actor t v (path_of name) s → object_in name.kind s ≡ Some bytes
    → (x : Object) × IsOfCommit t.build x × (x.name ≡ name) × (x.bytes ≡ bytes)
brings_by None actor lane t v b name s bytes f sum wrote reads = build_brings t.build v f.needs name sum s bytes reads t.build.phase refl wrote.0
brings_by (Some n) actor lane t v b name s bytes f sum wrote reads = absurd (subst (OfRef n.work.task.actor) (place-object name.kind name.csum sum) (ref_place n.work.task v f.ref.needs (path_of name) s wrote))

-- by the words of the command
module _ (limits : Limits) (branch : List ℕ) (tree : List TreeItem) (message : Message) (t : CommitCommand) (is : Commits limits branch tree message t) where
  pub its_object : (o : Object) → IsOfCommit t.build o → IsOf tree message o
  its_object o of = ⊎_elim
      (λ n. inl (n.0, subst (λ i. IsNumber (work i) n.0 o) is.items n.1))
      (λ e. inr (e ∙ ap (λ i. commit_of i t.build.message) is.items ∙ ap (commit_of tree) is.says))
      of

  pub commits_pin : (wants : Wants) (name : ObjName) → commit_kind t ≡ Take wants → wants.pin ≡ Some name → (o : Object) × IsOf tree message o × (o.name ≡ name)
  commits_pin wants name kind pin =
      let p = pin_of t name is.made (ap pin_in kind ∙ pin) in
      (p.0, its_object p.0 p.1, p.2)

  pub commits_bring : (actor lane : ℕ) (v : View) (b : Books) (name : ObjName) (s : Seen) (bytes : List ℕ) → commit_facts lane t v b → IsSum name.csum → commit_writes actor t v (path_of name) s → object_in name.kind s ≡ Some bytes
      → (o : Object) × IsOf tree message o × (o.name ≡ name) × (o.bytes ≡ bytes)
  commits_bring actor lane v b name s bytes f sum wrote reads =
      let p = brings_by t.change actor lane t v b name s bytes f sum wrote reads in
      (p.0, its_object p.0 p.1, p.2, p.3)

  pub commits_room : (actor lane : ℕ) (v : View) (b : Books) (name : ObjName) (s : Seen) → commit_facts lane t v b → IsSum name.csum → commit_writes actor t v (path_of name) s → t.objects < limits.objects
  commits_room actor lane v b name s f sum wrote = subst (λ (l : Limits). t.objects < l.objects) is.bounds (commit_room actor lane t v b f name s sum wrote).0

  pub commits_lacked : (new : CommitCommand) (v w : View) (name : ObjName) → commit_leaves t turn.More new v w → met_in new.change new.build ≡ Some (name, Stored) → (t.objects < limits.objects) × (v.now.at (path_of name) ≡ Absent)
  commits_lacked new v w name l met =
      let lacked = stored_of t new v w name l met in
      (subst (λ (x : Limits). t.objects < x.objects) is.bounds lacked.0, lacked.1)
