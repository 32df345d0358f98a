-- Where a step of a change writes: where its lane stages, and among the refs.
use Rattle.std.proofs.Common.{◌≡◌, ◌≢◌, ◌⊎◌, inl, inr, ⊎_elim, ℕ, ◌∙◌, ap, subst, sym, arith, List, ◌++◌, append_assoc, length-append}
use Rattle.ost_types.specs.Path.{Path, IsPath}
use Rattle.fs_trait.specs.View.{View}
use Rattle.fs_trait.specs.Seen.{Seen, Vacant}
use Rattle.repo_layout.specs.RefName.{parts_of}
use Rattle.repo_layout.specs.Paths.{heads, ref_path, stage_path}
use Rattle.repo_layout.specs.Place.{Ref, Stage, place}
use Rattle.repo_layout.proofs.Places.{place-ref}
use Rattle.layout_rules.proofs.Sanes.{stage_is_path}
use Rattle.ref_room.specs.Clearing.{IsUnder}
use Rattle.ref_room.proofs.Names.{some_parts, way_to-path}
use Rattle.ref_store.specs.Change.{Change}
use Rattle.ref_store.specs.Steps.{Needs, WritesOf}
use Rattle.ref_store.proofs.Stable.{Lies, ref_lies}
use Rattle.ref_command.specs.Places.{path_of_ref, placed_below, placed_way}
use Rattle.ref_command.specs.Kept.{stage_is}

-- a folder at or below a ref's path
placed_under : (name : List ℕ) (p : Path) → IsPath p → IsUnder name p → (other : List ℕ) × (place p ≡ Ref other)
unfolding ref_path
placed_under name p path is =
    let rest = parts_of name ++ is.0 in
    let at : p ≡ heads ++ rest = is.1 ∙ append_assoc heads (parts_of name) is.0 in
    let below = placed_below rest (omega (arith, some_parts name, length-append (parts_of name) is.0)) (subst IsPath at path).names in
    (below.0, ap place at ∙ below.1)

-- A path where the lane stages, or among the refs, within the bounds of paths.
pub record IsPlaced (lane : ℕ) (p : Path) (s : Seen) : Type 0 where
  pub lies : (place p ≡ Stage lane) ⊎ ((other : List ℕ) × (place p ≡ Ref other))
  pub bounds : s ≢ Vacant → IsPath p

module _ (t : Change) (v : View) (lane : ℕ) (needs : Needs t v) (mine : t.actor ≡ lane) where
  stage : place (stage_path t.actor) ≡ Stage lane
  stage = stage_is t lane needs.actor mine

  pub is_placed : (p : Path) (s : Seen) → Lies t v p s → IsPlaced lane p s
  is_placed p s l = ⊎_elim
      (λ e. record { lies = inl (ap place e ∙ stage); bounds = λ there. subst IsPath (sym e) (stage_is_path t.actor needs.actor) })
      (λ more. ⊎_elim
      (λ here. record { lies = inr (t.name, ap place here.0 ∙ place-ref t.name); bounds = λ there. subst IsPath (sym here.0) (path_of_ref t.name needs.named) })
      (λ rest. ⊎_elim
      (λ way. let o = placed_way t.name way.parts needs.named way.some way.few in record { lies = inr (o.0, ap place way.place ∙ o.1); bounds = λ there. subst IsPath (sym way.place) (way_to-path way.parts t.name (path_of_ref t.name needs.named)) })
      (λ goes. record { lies = inr (placed_under t.name p goes.path goes.place); bounds = λ there. goes.path })
      rest)
      more)
      l.place

  pub ref_places : (p : Path) (s : Seen) → WritesOf t v p s → (place p ≡ Stage lane) ⊎ ((other : List ℕ) × (place p ≡ Ref other))
  ref_places p s wrote = (is_placed p s (ref_lies t v needs p s wrote)).lies
