-- At which places a step of a commit writes.
use Rattle.std.proofs.Common.{◌≡◌, inr, ⊎_elim, ℕ, ◌<◌, refl, sym, ◌∙◌, ap, subst, arith, List, [], ◌++◌, append-nil, append_assoc, length-append}
use Rattle.ost_types.specs.Path.{Path, IsPath}
use Rattle.fs_trait.specs.View.{View}
use Rattle.fs_trait.specs.Seen.{Seen}
use Rattle.repo_layout.specs.RefName.{parts_of}
use Rattle.repo_layout.specs.Paths.{mark_path, heads, ref_path, stage_path}
use Rattle.repo_layout.specs.Place.{Place, Stage, Ref, ObjectsFolder, Object, Mark, place}
use Rattle.repo_layout.proofs.Places.{place-stage, place-objects_folder, place-object, place-mark, place-ref}
use Rattle.repo_model.specs.Objects.{path_of}
use Rattle.ref_room.specs.Clearing.{IsUnder}
use Rattle.ref_room.proofs.Names.{some_parts}
use Rattle.ref_store.specs.Change as store
use Rattle.ref_store.specs.Steps as ref
use Rattle.ref_store.proofs.Stable.{ref_lies}
use Rattle.tree_build.specs.Objects as tree
use Rattle.commit_build.specs.Committing.{Committing}
use Rattle.commit_build.specs.Whole.{its_commit, IsOfCommit}
use Rattle.commit_build.proofs.Stable.{Lies}
use Rattle.commit_build.proofs.Wholes.{of_commit_sum}
use Rattle.ref_command.specs.Places.{placed_below, placed_way}

pub stage_place : (actor : ℕ) → actor < 16 → place (stage_path actor) ≡ Stage actor
stage_place actor few = subst (λ p. place p ≡ Stage actor) (append-nil (stage_path actor)) (place-stage actor [] (omega (arith, few)))

pub object_place : (t : Committing) (o : tree.Object) → IsOfCommit t o → place (path_of o.name) ≡ Object o.name.kind o.name.csum
object_place t o of = place-object o.name.kind o.name.csum (of_commit_sum t o of)

pub mark_place : (t : Committing) → place (mark_path (its_commit t).name.csum) ≡ Mark (its_commit t).name.csum
mark_place t = place-mark (its_commit t).name.csum (of_commit_sum t (its_commit t) (inr refl))

-- the places at which the build of a commit writes,
abbrev pub OfBuild : ℕ → Place → Type 0
OfBuild actor (Stage a) = a ≡ actor
OfBuild actor (ObjectsFolder digits) = Unit {0}
OfBuild actor (Object kind sum) = Unit {0}
OfBuild actor (Mark commit) = Unit {0}
OfBuild actor x = ⊥

pub build_place : (t : Committing) (v : View) → t.actor < 16 → (p : Path) (s : Seen) → Lies t v p s → OfBuild t.actor (place p)
build_place t v few p s l = ⊎_elim
    (λ a. subst (OfBuild t.actor) (sym (ap place a.0 ∙ stage_place t.actor few)) refl)
    (λ b. ⊎_elim
    (λ a. subst (OfBuild t.actor) (sym (ap place a.2 ∙ place-objects_folder a.0.name.csum)) tt)
    (λ c. ⊎_elim
    (λ a. subst (OfBuild t.actor) (sym (ap place a.4 ∙ object_place t a.0 a.2)) tt)
    (λ a. subst (OfBuild t.actor) (sym (ap place a.0 ∙ mark_place t)) tt)
    c)
    b)
    l.place

-- and those at which the change of the ref does
abbrev pub OfRef : ℕ → Place → Type 0
OfRef actor (Stage a) = a ≡ actor
OfRef actor (Ref name) = Unit {0}
OfRef actor x = ⊥

under_place : (actor : ℕ) (name : List ℕ) (p : Path) → IsPath p → IsUnder name p → OfRef actor (place p)
unfolding ref_path
under_place actor name p path is =
    let rest = parts_of name ++ is.0 in
    let at : p ≡ heads ++ rest = is.1 ∙ append_assoc heads (parts_of name) is.0 in
    let below = placed_below rest (omega (arith, some_parts name, length-append (parts_of name) is.0)) (subst IsPath at path).names in
    subst (OfRef actor) (sym (ap place at ∙ below.1)) tt

pub ref_place : (t : store.Change) (v : View) → ref.Needs t v → (p : Path) (s : Seen) → ref.WritesOf t v p s → OfRef t.actor (place p)
ref_place t v needs p s wrote =
    let l = ref_lies t v needs p s wrote in
    ⊎_elim
    (λ e. subst (OfRef t.actor) (sym (ap place e ∙ stage_place t.actor needs.actor)) refl)
    (λ more. ⊎_elim
    (λ here. subst (OfRef t.actor) (sym (ap place here.0 ∙ place-ref t.name)) tt)
    (λ rest. ⊎_elim
    (λ way. let o = placed_way t.name way.parts needs.named way.some way.few in subst (OfRef t.actor) (sym (ap place way.place ∙ o.1)) tt)
    (λ goes. under_place t.actor t.name p goes.path goes.place)
    rest)
    more)
    l.place
