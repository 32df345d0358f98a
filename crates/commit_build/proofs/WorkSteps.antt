-- The steps of a commit that make no call.
use Rattle.std.proofs.Common.{◌≡◌, Ok, ℕ, ◌<◌, ◌+◌, suc, pred, arith, refl, sym, ◌∙◌, ap, subst, List, length, Option, None}
use Rattle.sha2.specs.Sha256.{sha256}
use Rattle.ost_types.specs.declared.object.Kind.TheVariants as kinds
use Rattle.ost_types.specs.declared.object.Kind.{Kind}
use Rattle.ost_types.specs.declared.object.ObjName.{ObjName}
use Rattle.ost_objects.specs.declared.checked.Checked.{Checked}
use Rattle.fs_trait.specs.View.{View}
use Rattle.fs_trait.specs.Seen.{shows, NotDirectory}
use Rattle.fs_trait.proofs.Claims.{folder_shows}
use Rattle.fs_trait.proofs.Facts.{no_folder_shown}
use Rattle.repo_layout.specs.Paths.{folder_path, stage_path}
use Rattle.repo_layout.specs.declared.folder.Folder.TheVariants.{Objects, Tmp}
use Rattle.tree_build.specs.Items.{IsTree}
use Rattle.tree_build.specs.Objects.{Object, work, root_of}
use Rattle.tree_build.specs.Building.{Building, IsNumber, object_of}
use Rattle.ost_types.specs.declared.limits.Limits.{Limits}
use Rattle.commit_build.specs.Nexts.{Nexts}
use Rattle.tree_build.specs.Commits.{commit_bytes, commit_parts}
use Rattle.ost_forms.specs.Commit.{ReadsCommit}
use Rattle.obj_store.specs.declared.phase.Put.{Put}
use Rattle.obj_store.specs.declared.phase.Phase as putting
use Rattle.obj_store.specs.Putting.{Putting, IsNew}
use Rattle.obj_store.specs.Steps as put
use Rattle.obj_store.proofs.Begins as begins
use Rattle.commit_build.specs.declared.phase.Phase.{Phase}
use Rattle.commit_build.specs.declared.phase.Phase.TheVariants as phase
use Rattle.commit_build.specs.Committing.{Committing, Follows, IsMade, kept_in, Puts, ReadsBack, commit_of, parts_of}
use Rattle.commit_build.specs.Steps.{Needs, needs_in, HasHomes, AreThere, IsThere, count_in, once_seen_to}
use Rattle.commit_build.proofs.PutSteps.{needs_as, kept_as}

one_less : (n : ℕ) → pred (n + 1) ≡ n
one_less n = let next : n + 1 ≡ suc n = omega arith in ap pred next

-- a new put may begin
put_begins : (actor : ℕ) (name : ObjName) (bytes : List ℕ) (p : Putting) (v : View) → actor < 16 → HasHomes actor v.now → IsNew actor name bytes p → put.Needs p v
put_begins actor name bytes p v less homes new =
    let same : p.actor ≡ actor = ap (λ (x : Putting). x.actor) new.is in
    begins.needs_new p v (record {
      new = ap (λ (x : Putting). x.phase) new.is;
      made = begins.made_new actor name bytes p less new;
      objects = folder_shows v.now (folder_path Objects) homes.objects;
      home = folder_shows v.now (folder_path Tmp) homes.staging;
      leaf = no_folder_shown v.now (stage_path p.actor) (subst (λ a. NotDirectory (shows v.now (stage_path a))) (sym same) homes.stage);
    })

puts_new : (actor : ℕ) (o : Object) (p : Putting) → IsNew actor o.name o.bytes p → Puts actor o p
puts_new actor o p new = record {
  by = ap (λ (x : Putting). x.actor) new.is;
  name = ap (λ (x : Putting). x.name) new.is;
  object = new.source.object;
}

-- the plain facts alone
module _ (t : Committing) (made : IsMade t) where
  pub made_checked : t.phase ≡ phase.Check → IsTree t.items → IsMade (record t { phase = phase.Make; met = None })
  made_checked is tree = record { actor = made.actor; items = made.items; typed = made.typed; bound = made.bound; makeable = made.makeable; small = made.small; made = made.made; kept = tree }

  pub made_object : t.phase ≡ phase.Make → (c : Checked) → IsNumber (work t.items) t.made (object_of c) → c.limit ≡ t.limits.content → IsMade (record t { made = t.made + 1; phase = phase.Made c; met = None })
  made_object is c number limit = record {
    actor = made.actor;
    items = made.items;
    typed = made.typed;
    bound = made.bound;
    makeable = made.makeable;
    small = made.small;
    made = (let less = number.0 in omega (arith, less));
    kept = (kept_as t made phase.Make is, record { number = t.made; is = refl; object = number }, limit);
  }

  pub made_all : t.phase ≡ phase.Make → t.made ≡ length (work t.items) → IsMade (record t { phase = phase.SyncObjects; met = None })
  made_all is all = record { actor = made.actor; items = made.items; typed = made.typed; bound = made.bound; makeable = made.makeable; small = made.small; made = made.made; kept = (kept_as t made phase.Make is, all) }

  pub made_begun : (c : Checked) → t.phase ≡ phase.Made c → (p : Putting) → IsNew t.actor c.name c.bytes p → IsMade (record t { phase = phase.Put p; met = None })
  made_begun c is p new =
      let kept = kept_as t made (phase.Made c) is in
      record {
        actor = made.actor;
        items = made.items;
        typed = made.typed;
        bound = made.bound;
        makeable = made.makeable;
        small = made.small;
        made = made.made;
        kept = (kept.0, record { object = object_of c; last = kept.1; puts = puts_new t.actor (object_of c) p new });
      }

  pub made_commit : t.phase ≡ phase.MakeCommit → (p : Putting) → IsNew t.actor (commit_of t.items t.message).name (commit_of t.items t.message).bytes p → ReadsBack t.items t.message
      → IsMade (record t { phase = phase.PutCommit p; met = None })
  made_commit is p new reads =
      let kept = kept_as t made phase.MakeCommit is in
      record {
        actor = made.actor;
        items = made.items;
        typed = made.typed;
        bound = made.bound;
        makeable = made.makeable;
        small = made.small;
        made = made.made;
        kept = (kept.0, kept.1, puts_new t.actor (commit_of t.items t.message) p new, reads);
      }

  pub made_again : (m : Option (ObjName × Put)) → IsMade (record t { met = m })
  made_again m = record { actor = made.actor; items = made.items; typed = made.typed; bound = made.bound; makeable = made.makeable; small = made.small; made = made.made; kept = again t.phase made.kept }
    where
      again : (ph : Phase) → kept_in ph t → kept_in ph (record t { met = m })
      again phase.Check kept = kept
      again phase.Make kept = kept
      again (phase.Made c) kept = kept
      again (phase.Put p) kept = kept
      again phase.SyncObjects kept = kept
      again phase.MakeCommit kept = kept
      again (phase.PutCommit p) kept = kept
      again (phase.SyncCommit sum) kept = kept
      again (phase.Unmark sum) kept = kept
      again (phase.SyncState sum) kept = kept
      again (phase.Ended sum) kept = kept

-- the next object is made, or all were
pub made_next : (t : Committing) → IsMade t → t.phase ≡ phase.Make → (old b : Building) → old.items ≡ t.items → old.limits ≡ t.limits → old.done ≡ t.made → (ph : Phase) → Nexts old b (Ok ph)
    → IsMade (record t { items = b.items; made = b.done; phase = ph; met = None }) × (b.limits ≡ t.limits)
made_next t made is old b items limits done (phase.Made c) (number, limit, next) =
    let here : IsNumber (work t.items) t.made (object_of c) = subst (λ i. IsNumber (work i) t.made (object_of c)) items (subst (λ k. IsNumber (work old.items) k (object_of c)) done number) in
    let object = made_object t made is c here (limit ∙ ap (λ (l : Limits). l.content) limits) in
    subst (λ (x : Building). IsMade (record t { items = x.items; made = x.done; phase = phase.Made c; met = None }) × (x.limits ≡ t.limits)) (sym next) (
      subst (λ i. IsMade (record t { items = i; made = old.done + 1; phase = phase.Made c; met = None })) (sym items)
          (subst (λ k. IsMade (record t { made = k + 1; phase = phase.Made c; met = None })) (sym done) object),
      limits,
    )
made_next t made is old b items limits done phase.SyncObjects (all, next) =
    let whole : t.made ≡ length (work t.items) = sym done ∙ all ∙ ap (λ i. length (work i)) items in
    subst (λ (x : Building). IsMade (record t { items = x.items; made = x.done; phase = phase.SyncObjects; met = None }) × (x.limits ≡ t.limits)) (sym next) (
      subst (λ i. IsMade (record t { items = i; made = old.done; phase = phase.SyncObjects; met = None })) (sym items)
          (subst (λ k. IsMade (record t { made = k; phase = phase.SyncObjects; met = None })) (sym done) (made_all t made is whole)),
      limits,
    )
made_next t made is old b items limits done phase.Check none = absurd none
made_next t made is old b items limits done phase.Make none = absurd none
made_next t made is old b items limits done (phase.Put p) none = absurd none
made_next t made is old b items limits done phase.MakeCommit none = absurd none
made_next t made is old b items limits done (phase.PutCommit p) none = absurd none
made_next t made is old b items limits done (phase.SyncCommit sum) none = absurd none
made_next t made is old b items limits done (phase.Unmark sum) none = absurd none
made_next t made is old b items limits done (phase.SyncState sum) none = absurd none
made_next t made is old b items limits done (phase.Ended sum) none = absurd none

-- the commit's name and bytes
pub is_commit : (t : Committing) (c : Checked) → c.name.kind ≡ kinds.Commit → c.name.csum ≡ sha256 (commit_bytes (parts_of t.items t.message)) → c.name ≡ (commit_of t.items t.message).name
is_commit t c kind sum =
    ap (λ (k : Kind). record { csum = c.name.csum; kind = k }) kind
    ∙ ap (λ (s : List ℕ). record { csum = s; kind = kinds.Commit }) sum

pub new_as : (actor : ℕ) (a b : ObjName) (x y : List ℕ) (p : Putting) → a ≡ b → x ≡ y → IsNew actor a x p → IsNew actor b y p
new_as actor a b x y p name bytes new = subst (λ n. IsNew actor n y p) name (subst (λ z. IsNew actor a z p) bytes new)

-- what the next step needs
module _ (t : Committing) (v : View) (needs : Needs t v) where
  pub checked : t.phase ≡ phase.Check → IsTree t.items → Needs (record t { phase = phase.Make; met = None }) v
  checked is tree = record {
    made = made_checked t needs.made is tree;
    homes = needs.homes;
    meets = record { each = λ n o less number. absurd (let none : t.made ≡ 0 = kept_as t needs.made phase.Check is in omega (arith, less, none)) };
  }

  pub object_made : t.phase ≡ phase.Make → (c : Checked) → IsNumber (work t.items) t.made (object_of c) → c.limit ≡ t.limits.content → Needs (record t { made = t.made + 1; phase = phase.Made c; met = None }) v
  object_made is c number limit = record {
    made = made_object t needs.made is c number limit;
    homes = needs.homes;
    meets = subst (λ k. AreThere t.items k v.now) (sym (one_less t.made)) (needs_as t v needs phase.Make is);
  }

  pub all_made : t.phase ≡ phase.Make → t.made ≡ length (work t.items) → Needs (record t { phase = phase.SyncObjects; met = None }) v
  all_made is all = record { made = made_all t needs.made is all; homes = needs.homes; meets = needs_as t v needs phase.Make is }

  pub begun : (c : Checked) → t.phase ≡ phase.Made c → (p : Putting) → IsNew t.actor c.name c.bytes p → Needs (record t { phase = phase.Put p; met = None }) v
  begun c is p new = record {
    made = made_begun t needs.made c is p new;
    homes = needs.homes;
    meets = (
      put_begins t.actor c.name c.bytes p v needs.made.actor needs.homes new,
      subst (λ (f : putting.Phase). AreThere t.items (count_in f t.made) v.now) (sym (ap (λ (x : Putting). x.phase) new.is)) (needs_as t v needs (phase.Made c) is),
    );
  }

  pub commit_begun : t.phase ≡ phase.MakeCommit → (p : Putting) → IsNew t.actor (commit_of t.items t.message).name (commit_of t.items t.message).bytes p → ReadsBack t.items t.message
      → Needs (record t { phase = phase.PutCommit p; met = None }) v
  commit_begun is p new reads = record {
    made = made_commit t needs.made is p new reads;
    homes = needs.homes;
    meets = (
      put_begins t.actor (commit_of t.items t.message).name (commit_of t.items t.message).bytes p v needs.made.actor needs.homes new,
      needs_as t v needs phase.MakeCommit is,
      subst (λ (f : putting.Phase). once_seen_to f (IsThere v.now p.name)) (sym (ap (λ (x : Putting). x.phase) new.is)) tt,
    );
  }

  pub again : (m : Option (ObjName × Put)) → Needs (record t { met = m }) v
  again m = record { made = made_again t needs.made m; homes = needs.homes; meets = by t.phase needs.meets }
    where
      by : (ph : Phase) → needs_in ph t v → needs_in ph (record t { met = m }) v
      by phase.Check meets = meets
      by phase.Make meets = meets
      by (phase.Made c) meets = meets
      by (phase.Put p) meets = meets
      by phase.SyncObjects meets = meets
      by phase.MakeCommit meets = meets
      by (phase.PutCommit p) meets = meets
      by (phase.SyncCommit sum) meets = meets
      by (phase.Unmark sum) meets = meets
      by (phase.SyncState sum) meets = meets
      by (phase.Ended sum) meets = meets

-- the same of what is needed
module _ (t : Committing) (v : View) (needs : Needs t v) where
  pub next_needs : t.phase ≡ phase.Make → (old b : Building) → old.items ≡ t.items → old.limits ≡ t.limits → old.done ≡ t.made → (ph : Phase) → Nexts old b (Ok ph)
      → Needs (record t { items = b.items; made = b.done; phase = ph; met = None }) v
  next_needs is old b items limits done (phase.Made c) (number, limit, next) =
      let here : IsNumber (work t.items) t.made (object_of c) = subst (λ i. IsNumber (work i) t.made (object_of c)) items (subst (λ k. IsNumber (work old.items) k (object_of c)) done number) in
      let object = object_made t v needs is c here (limit ∙ ap (λ (l : Limits). l.content) limits) in
      subst (λ (x : Building). Needs (record t { items = x.items; made = x.done; phase = phase.Made c; met = None }) v) (sym next)
      (subst (λ i. Needs (record t { items = i; made = old.done + 1; phase = phase.Made c; met = None }) v) (sym items)
      (subst (λ k. Needs (record t { made = k + 1; phase = phase.Made c; met = None }) v) (sym done) object))
  next_needs is old b items limits done phase.SyncObjects (all, next) =
      let whole : t.made ≡ length (work t.items) = sym done ∙ all ∙ ap (λ i. length (work i)) items in
      subst (λ (x : Building). Needs (record t { items = x.items; made = x.done; phase = phase.SyncObjects; met = None }) v) (sym next)
      (subst (λ i. Needs (record t { items = i; made = old.done; phase = phase.SyncObjects; met = None }) v) (sym items)
      (subst (λ k. Needs (record t { made = k; phase = phase.SyncObjects; met = None }) v) (sym done) (all_made t v needs is whole)))
  next_needs is old b items limits done phase.Check none = absurd none
  next_needs is old b items limits done phase.Make none = absurd none
  next_needs is old b items limits done (phase.Put p) none = absurd none
  next_needs is old b items limits done phase.MakeCommit none = absurd none
  next_needs is old b items limits done (phase.PutCommit p) none = absurd none
  next_needs is old b items limits done (phase.SyncCommit sum) none = absurd none
  next_needs is old b items limits done (phase.Unmark sum) none = absurd none
  next_needs is old b items limits done (phase.SyncState sum) none = absurd none
  next_needs is old b items limits done (phase.Ended sum) none = absurd none

-- the commit that is made is the one of the items
pub commit_new : (t : Committing) (tree meta : List ℕ) → (tree, meta) ≡ root_of t.items → (c : Checked) (p : Putting) → c.name.kind ≡ kinds.Commit
    → c.name.csum ≡ sha256 (commit_bytes (commit_parts tree meta t.message.parent t.message.subject t.message.body t.message.time))
    → c.bytes ≡ commit_bytes (commit_parts tree meta t.message.parent t.message.subject t.message.body t.message.time)
    → IsNew t.actor c.name c.bytes p → IsNew t.actor (commit_of t.items t.message).name (commit_of t.items t.message).bytes p
commit_new t tree meta same c p kind sum bytes new =
    let parts = ap (λ (r : List ℕ × List ℕ). commit_parts r.0 r.1 t.message.parent t.message.subject t.message.body t.message.time) same in
    new_as t.actor c.name (commit_of t.items t.message).name c.bytes (commit_of t.items t.message).bytes p
    (is_commit t c kind (sum ∙ ap (λ x. sha256 (commit_bytes x)) parts)) (bytes ∙ ap commit_bytes parts) new

pub commit_steps : (t u : Committing) → t ≡ u → t.phase ≡ phase.MakeCommit → (p : Putting) → IsNew t.actor (commit_of t.items t.message).name (commit_of t.items t.message).bytes p
    → (record t { phase = phase.PutCommit p; met = None } ≡ record u { made = t.made; phase = phase.PutCommit p; met = None }) × Follows u u.phase (phase.PutCommit p) t.made None
commit_steps t u e is p new =
    subst (λ (x : Committing). (record t { phase = phase.PutCommit p; met = None } ≡ record x { made = t.made; phase = phase.PutCommit p; met = None }) × Follows x x.phase (phase.PutCommit p) t.made None) e
    (refl, subst (λ f. Follows t f (phase.PutCommit p) t.made None) (sym is) (refl, refl, new))

-- by the names that the call was given
pub commit_new_as : (t : Committing) (x y : List ℕ) (c : Checked) (p : Putting) → c.name.kind ≡ kinds.Commit
    → c.name.csum ≡ sha256 (commit_bytes (commit_parts x y t.message.parent t.message.subject t.message.body t.message.time))
    → c.bytes ≡ commit_bytes (commit_parts x y t.message.parent t.message.subject t.message.body t.message.time)
    → IsNew t.actor c.name c.bytes p → (tree meta : List ℕ) → (tree, meta) ≡ root_of t.items → x ≡ tree → y ≡ meta
    → IsNew t.actor (commit_of t.items t.message).name (commit_of t.items t.message).bytes p
commit_new_as t x y c p kind sum bytes new tree meta same left right =
    commit_new t x y (ap (λ l. (l, y)) left ∙ ap (λ r. (tree, r)) right ∙ same) c p kind sum bytes new

-- and its bytes read as it
pub commit_reads : (t : Committing) (x y : List ℕ) (c : Checked) → c.bytes ≡ commit_bytes (commit_parts x y t.message.parent t.message.subject t.message.body t.message.time)
    → ReadsCommit (λ p. p) c.bytes (Ok (commit_parts x y t.message.parent t.message.subject t.message.body t.message.time))
    → (tree meta : List ℕ) → (tree, meta) ≡ root_of t.items → x ≡ tree → y ≡ meta → ReadsBack t.items t.message
commit_reads t x y c bytes reads tree meta same left right =
    let root : (x, y) ≡ root_of t.items = ap (λ l. (l, y)) left ∙ ap (λ r. (tree, r)) right ∙ same in
    subst (λ (r : List ℕ × List ℕ). ReadsCommit (λ p. p) (commit_bytes (commit_parts r.0 r.1 t.message.parent t.message.subject t.message.body t.message.time)) (Ok (commit_parts r.0 r.1 t.message.parent t.message.subject t.message.body t.message.time))) root
    (subst (λ b. ReadsCommit (λ p. p) b (Ok (commit_parts x y t.message.parent t.message.subject t.message.body t.message.time))) bytes reads)
