-- What is written is what the rules let the lane write.
use Rattle.std.proofs.Common.{◌≡◌, ◌⊎◌, inl, inr, ℕ, List, [], ◌∷◌, ◌++◌, append-nil, codes, sym, ◌∙◌, ap, subst}
use Rattle.ost_types.specs.declared.meta.Meta.{Meta}
use Rattle.ost_types.specs.declared.node.NodeName.{NodeName}
use Rattle.ost_types.specs.declared.node.NodeName.TheVariants.{Folder}
use Rattle.ost_types.specs.declared.object.Kind.{Kind}
use Rattle.ost_types.specs.declared.object.Kind.TheVariants as kind
use Rattle.ost_types.specs.Path.{Name, Path, IsPath}
use Rattle.fs_trait.specs.declared.types.Value.TheVariants.{File}
use Rattle.fs_trait.specs.Effect.{IsFresh}
use Rattle.fs_trait.specs.Image.{Holds}
use Rattle.fs_trait.specs.Seen.{Seen, Leaf, IsDirectory, NotDirectory}
use Rattle.fs_trait.specs.View.{View}
use Rattle.repo_layout.specs.BootPaths.{checkout_path}
use Rattle.repo_layout.specs.Paths.{object_path, stage_path}
use Rattle.repo_layout.specs.Place.{Checkout, IsAt, Stage, place}
use Rattle.repo_layout.proofs.Places.{place-back, place-checkout}
use Rattle.rely_guarantee.specs.Books.{Books}
use Rattle.rely_guarantee.specs.Change.{Still}
use Rattle.rely_guarantee.specs.Laws.{Within}
use Rattle.rely_guarantee.specs.Rely.{Guarantee, NotOthers}
use Rattle.rely_guarantee.proofs.Calls.{checkout_still, checkout_within, folder_within}
use Rattle.checkout.specs.declared.checkout_phase.CheckoutPhase.{CheckoutPhase}
use Rattle.checkout.specs.declared.checkout_phase.CheckoutPhase.TheVariants as phase
use Rattle.checkout.specs.CheckoutFolder.{leaf_path}
use Rattle.checkout.specs.CheckoutWork as task
use Rattle.checkout.specs.CheckoutSteps.{WritesOf, writes_in}
use Rattle.checkout.proofs.CheckoutMaps.{found_back}
use Rattle.checkout.proofs.CheckoutStable.{checkout_lies}
use Rattle.checkout_command.specs.declared.made.Made.{Made}
use Rattle.checkout_command.specs.declared.made.Made.TheVariants as made
use Rattle.checkout_command.specs.declared.make.Make.{Make}
use Rattle.checkout_command.specs.Commands.{IsOwned, Making}
use Rattle.checkout_command.specs.MakeSteps.{make_writes, writes_by}

-- ---- an object stands where nobody stages

abbrev third : Path → Name
third (a ∷ b ∷ c ∷ p) = c
third p = []

not_staged : (kind : Kind) (sum : List ℕ) (actor : ℕ) (rest : Path) → object_path kind sum ≡ stage_path actor ++ rest → ⊥
unfolding object_path stage_path
not_staged kind sum actor rest e = let no : codes "objects" ≡ codes "tmp" = ap third e in cc

object_no_stage : (kind : Kind) (sum : List ℕ) (actor : ℕ) → place (object_path kind sum) ≡ Stage actor → ⊥
object_no_stage kind sum actor is =
    let at = subst (λ x. IsAt x (object_path kind sum)) is (place-back (object_path kind sum)) in
    not_staged kind sum actor at.0 at.1

-- ---- where it is written

pub lies_in : (k : Made) (m : Make) (v : View) (p : Path) (s : Seen) → writes_by k m v p s → (rest : Path) × (p ≡ checkout_path m.request.name ++ rest)
lies_in made.Nothing m v p s a = ([], a.is)
lies_in made.Part m v p s a = (a.first ∷ a.rest, a.is)
lies_in made.All m v p s a = absurd a

pub place_in : (k : Made) (m : Make) (v : View) (p : Path) (s : Seen) → writes_by k m v p s → (rest : Path) × (place p ≡ Checkout m.request.name rest)
place_in k m v p s a = let at = lies_in k m v p s a in (at.0, ap place at.1 ∙ place-checkout m.request.name at.0)

-- the paths of the map fit below the folder
path_of_pair : (t : task.Checkout) → task.IsPlaced t.into t.tree → (n : ℕ) (e : Path × NodeName) → task.IsNumber t.tree n e → IsPath (t.into ++ e.0)
path_of_pair t placed n e is = subst (λ (q : Path × NodeName). IsPath (t.into ++ q.0)) is.1 (placed.fits n e is.0)

path_of_root : (t : task.Checkout) → task.IsPlaced t.into t.tree → IsPath t.into
path_of_root t placed =
    let root = placed.shape.root in
    let at = found_back t.tree [] (Folder root.0) root.1 in
    subst IsPath (append-nil t.into) (path_of_pair t placed at.0 ([], Folder root.0) (at.1, at.2))

path_in : (ph : CheckoutPhase) (t : task.Checkout) (v : View) → task.IsPlaced t.into t.tree → (p : Path) (s : Seen) → writes_in ph t v p s → IsPath p
path_in phase.Begin t v placed p s a = subst IsPath (sym a.2) (path_of_root t placed)
path_in (phase.Make n) t v placed p s a = subst IsPath (sym a.2) (path_of_pair t placed n a.0 a.1)
path_in phase.Ended t v placed p s a = absurd a
path_in phase.Refused t v placed p s a = absurd a

-- ---- the rules

module _ (lane : ℕ) (m : Make) (v : View) (b : Books) (making : Making lane m v b) where
  leaf_comes : (p : Path) (s : Seen) → WritesOf m.task v p s → (n : ℕ) (k : Meta) (bytes : List ℕ) → s ≡ Leaf n k bytes → IsFresh n v ⊎ ((q : Path) × Holds v q (File n) × NotOthers lane (place q))
  leaf_comes p s a n k bytes e =
      let from = (checkout_lies m.task v p s a).comes n k bytes e in
      inr (leaf_path from.0, inl (sym from.1), λ actor is. absurd (object_no_stage kind.File from.0 actor is))

  may_by : (k : Made) → IsOwned k m.request.name lane b → (p : Path) (s : Seen) → writes_by k m v p s → Guarantee b v lane lane p s
  may_by made.Nothing owned p s a =
      folder_within b v lane lane m.request.name p s a.is (subst IsPath (sym (a.is ∙ sym making.needs.at)) (path_of_root m.task making.placed)) (subst IsDirectory (sym a.shown) tt) a.vacant
  may_by made.Part owned p s a =
      checkout_within b v lane lane m.request.name a.first a.rest p s a.is owned (λ there. path_in m.task.phase m.task v making.placed p s a.writes) (leaf_comes p s a.writes)
      (inr (subst NotDirectory (sym a.vacant) tt))
  may_by made.All owned p s a = absurd a

  pub may_make : Within (make_writes m v) (Guarantee b v lane lane)
  may_make = may_by m.made making.owned

-- no ref is written
pub still_make : (m : Make) (v : View) → Still (make_writes m v) v
still_make m v = checkout_still (make_writes m v) v (λ p s a. let at = place_in m.made m v p s a in (m.request.name, at.0, at.1))
