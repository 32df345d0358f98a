-- What is so of a sane disk.
use Rattle.std.proofs.Common.{◌≡◌, ◌≢◌, inl, ⊎_elim, ◌<◌, ℕ, true, false, refl, sym, ◌∙◌, subst, arith, List, []}
use Rattle.ost_types.specs.Path.{Path, IsPath, is_below}
use Rattle.ost_types.proofs.Paths.{root_or_under, under-is_below}
use Rattle.fs_trait.specs.declared.types.Value.TheVariants.{Absent}
use Rattle.fs_trait.specs.View.{Disk}
use Rattle.fs_trait.proofs.Claims.{is_below-before}
use Rattle.repo_layout.specs.declared.folder.Folder.{Folder}
use Rattle.repo_layout.specs.declared.folder.Folder.TheVariants.{Heads}
use Rattle.repo_layout.specs.Paths.{folder_path, heads, ref_path, stage_path}
use Rattle.repo_layout.specs.RefName.{IsRefName, parts_of}
use Rattle.repo_layout.specs.Refs.{Names, is_leaf}
use Rattle.repo_layout.proofs.KnownPaths.{folder-known, stage-known}
use Rattle.repo_layout.proofs.Places.{ref_path-injective}
use Rattle.layout_rules.specs.declared.rule.Rule.TheVariants.{FolderOrNothing}
use Rattle.layout_rules.specs.declared.spot.Spot.TheVariants.{Laid}
use Rattle.layout_rules.specs.Checks.{IsRefAt, IsSane, Kinds, RefFiles, Staging, Suits}
use Rattle.layout_rules.specs.InLayout.{IsSearched}

pub folder_is_path : (f : Folder) → IsPath (folder_path f)
folder_is_path f = let k = folder-known f in record { names = k.names; few = omega (arith, k.few); short = omega (arith, k.short) }

pub stage_is_path : (actor : ℕ) → actor < 16 → IsPath (stage_path actor)
stage_is_path actor small = let k = stage-known actor small in record { names = k.names; few = omega (arith, k.few); short = omega (arith, k.short) }

pub ref_below : (name : List ℕ) → is_below heads (ref_path name) ≡ true
unfolding ref_path
ref_below name = is_below-before heads (parts_of name)

heads_root : is_below heads [] ≡ true → {P : Type 0} → P
unfolding is_below
heads_root e = let n : false ≡ true = e in cc

stage_root : (actor : ℕ) → is_below (stage_path actor) [] ≡ true → {P : Type 0} → P
unfolding is_below stage_path
stage_root actor e = let n : false ≡ true = e in cc

module _ (d : Disk) (sane : IsSane d) where
  pub laid_suits : (f : Folder) → Suits FolderOrNothing (d.at (folder_path f))
  laid_suits f = sane Kinds (folder_path f) FolderOrNothing (inl (Laid f, refl, refl))

  -- a leaf at a ref's path is that ref
  pub ref_of : (name : List ℕ) → is_leaf (d.at (ref_path name)) ≡ true → IsRefName name × (commit : List ℕ) × Names d name commit
  ref_of name leaf =
      let at : IsRefAt d (ref_path name) = (sane RefFiles (ref_path name) (ref_below name)).leaf leaf in
      (subst IsRefName (ref_path-injective at.0 name at.2) at.1, at.3.0, at.3.1)

  -- all that an opening goes over is within the bounds of paths
  pub bounded : (p : Path) → IsSearched p → d.at p ≢ Absent → IsPath p
  bounded p searched there = ⊎_elim in_heads (λ s. in_stage s.0 s.1 s.2) searched
    where
      in_heads : is_below heads p ≡ true → IsPath p
      in_heads below = ⊎_elim
          (λ root. heads_root (subst (λ q. is_below heads q ≡ true) root below))
          (λ u. ⊎_elim
          (λ above. subst IsPath (sym u.2) ((sane RefFiles u.0 above).reached u.1 (subst (λ q. d.at q ≢ Absent) u.2 there)))
          (λ is. subst IsPath (is ∙ sym u.2) (folder_is_path Heads))
          (under-is_below heads u.0 u.1 (subst (λ q. is_below heads q ≡ true) u.2 below)))
          (root_or_under p)

      in_stage : (actor : ℕ) → actor < 16 → is_below (stage_path actor) p ≡ true → IsPath p
      in_stage actor small below = ⊎_elim
          (λ root. stage_root actor (subst (λ q. is_below (stage_path actor) q ≡ true) root below))
          (λ u. ⊎_elim
          (λ above. subst IsPath (sym u.2) (sane Staging u.0 actor small above u.1 (subst (λ q. d.at q ≢ Absent) u.2 there)))
          (λ is. subst IsPath (is ∙ sym u.2) (stage_is_path actor small))
          (under-is_below (stage_path actor) u.0 u.1 (subst (λ q. is_below (stage_path actor) q ≡ true) u.2 below)))
          (root_or_under p)
