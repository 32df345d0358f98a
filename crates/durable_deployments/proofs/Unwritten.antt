-- Whose places those are where a deployment of the list is read, and that no act takes an object of its commit.
use Rattle.std.proofs.Common.{◌≡◌, ◌⊎◌, ◌++◌, ◌∷◌, [], inl, inr, ⊎_elim, ℕ, List, Contains, codes, refl, sym, ◌∙◌, subst}
use Rattle.std.specs.Fmt.{decimal}
use Rattle.ost_types.specs.Csum.{hex_of}
use Rattle.ost_types.specs.declared.limits.Limits.{Limits}
use Rattle.ost_types.specs.declared.object.Kind.TheVariants.{Commit}
use Rattle.ost_types.specs.declared.object.ObjName.{ObjName}
use Rattle.ost_types.specs.Path.{Name, Path, under}
use Rattle.fs_trait.specs.View.{View}
use Rattle.fs_trait.specs.Seen.{Seen, MayBe, shows}
use Rattle.fs_trait.specs.Change.{LeadsTo, Writes}
use Rattle.fs_trait.proofs.Effects.{may_now}
use Rattle.fs_trait.proofs.Kept.{firm_kept}
use Rattle.repo_layout.specs.BootPaths.{kernel_folder, kernel_path}
use Rattle.repo_layout.specs.Paths.{deploy_path, objects_folder_path}
use Rattle.repo_layout.specs.Place.{place}
use Rattle.repo_layout.proofs.Places.{place-object}
use Rattle.repo_model.specs.Objects.{Stores, path_of}
use Rattle.repo_model.specs.Trees.{name_of}
use Rattle.reach.specs.Reach.{Is}
use Rattle.reach.proofs.Reaching.{reach_up}
use Rattle.layout_rules.proofs.Layouts.{below_split}
use Rattle.boot_model.specs.declared.item.DepId.{DepId}
use Rattle.boot_read.specs.declared.row.BootRow.{BootRow}
use Rattle.durable_list.proofs.Unwritten.{way_boot, way_ostree}
use Rattle.rely_guarantee.specs.Books.{Books, listed_in}
use Rattle.rely_guarantee.specs.Rely.{Guarantee, Interference, IsBoot}
use Rattle.rely_guarantee.specs.Removing.{IsGuarded, IsRoot, next_of}
use Rattle.rely_guarantee.proofs.Lasting.{leads_harmless}
use Rattle.durable_deployments.specs.Standing.{AreOwnSpared, AreSpared, AreStanding, DeploymentStands, IsInDeployment, IsKept, IsOnTheWay, IsReached, SparesDeployment, SparesOwn}

-- ---- whose places a deployment's own paths are

below_home : (p rest more : Path) (os : Name) (commit : List ℕ) (serial : ℕ) → deploy_path os commit serial ++ more ≡ p ++ rest → IsBoot (place p)
unfolding deploy_path
below_home p rest more os commit serial e = way_ostree p rest (os ∷ codes "deploy" ∷ (hex_of commit ++ (46 ∷ decimal serial)) ∷ more) (codes "deploy") refl e

below_copies : (p rest : Path) (os : Name) (bootcsum : List ℕ) (file : Name) → under (kernel_path os bootcsum) file ≡ p ++ rest → IsBoot (place p)
unfolding kernel_path
below_copies p rest os bootcsum file e = way_boot p rest (codes "ostree" ∷ kernel_folder os bootcsum ∷ file ∷ []) e

pub on_the_way : (id : DepId) (bootcsum : List ℕ) (p : Path) → IsOnTheWay id bootcsum p → IsBoot (place p)
on_the_way id bootcsum p (at, inside, below) = by inside
  where
    split : (rest : Path) × (at ≡ p ++ rest)
    split = below_split p at below

    by : IsInDeployment id bootcsum at → IsBoot (place p)
    by (inl (more, outside, e)) = below_home p split.0 more id.os id.commit id.serial (sym e ∙ split.1)
    by (inr (inl e)) = below_home p split.0 (codes "etc" ∷ []) id.os id.commit id.serial (sym e ∙ split.1)
    by (inr (inr (file, e))) = below_copies p split.0 id.os bootcsum file (sym e ∙ split.1)

-- ---- one act

-- what its commit leads to is guarded
pub listed_guards : (b : Books) (v : View) (lane : ℕ) (id : DepId) → Contains (listed_in b) id → (o : ObjName) → IsReached v.now id.commit o → IsGuarded b v lane o
listed_guards b v lane id among = reach_up (Stores v.now) (Stores v.now) (Is (name_of Commit id.commit)) (IsRoot b v lane) (λ o is. inr (inr (id, among, is))) (λ o c stored. stored)

module _ (limits : Limits) (v w : View) (b b' : Books) (actor lane : ℕ) (id : DepId) (bootcsum : List ℕ)
    (does : Interference actor lane v b w b') (guarded : (o : ObjName) → IsReached v.now id.commit o → Contains (next_of b) o → IsGuarded b v lane o) (stands : DeploymentStands limits v id bootcsum) where
  object_unwritten : (o : ObjName) → IsReached v.now id.commit o → (s : Seen) → Guarantee b v actor lane (path_of o) s → ⊥
  object_unwritten o reached s may =
      let safe = (stands.objects o reached).safe in
      ⊎_elim
      (λ comes. safe.there (shows v.now (path_of o)) (may_now v (path_of o)) comes.0)
      (λ goes. goes.2 (guarded o reached goes.1))
      (may.objects o.kind o.csum (place-object o.kind o.csum safe.sum))

  -- so one that spares its own paths spares it
  module _ (own : SparesOwn v w id bootcsum) where
    now_kept : (p : Path) → IsKept v.now id bootcsum p → shows w.now p ≡ shows v.now p
    now_kept p (inl (o, reached, at)) = ⊎_elim (λ same. same) (λ wrote. absurd (object_unwritten o reached (shows w.now p) (subst (λ q. Guarantee b v actor lane q (shows w.now p)) at wrote))) (does.writes.now p)
    now_kept p (inr way) = own.now p way

    each_kept : (p : Path) (s : Seen) → IsKept v.now id bootcsum p → MayBe w p s → MayBe v p s ⊎ (s ≡ shows v.now p)
    each_kept p s (inl (o, reached, at)) may = ⊎_elim (λ was. inl was) (λ wrote. absurd (object_unwritten o reached s (subst (λ q. Guarantee b v actor lane q s) at wrote))) (does.writes.only p s may)
    each_kept p s (inr way) may = own.each p s way may

    pub act_spares_kept : SparesDeployment v w id bootcsum
    act_spares_kept = record {
      now = now_kept;
      each = each_kept;
      leads = λ o reached above. firm_kept (Guarantee b v actor lane) (LeadsTo (objects_folder_path o.csum)) v w does.writes (leads_harmless b v w actor lane does.writes o.csum) above;
    }

-- the same of all deployments of a list
pub act_spares_all : (limits : Limits) (rows : List BootRow) (v w : View) (b b' : Books) (actor lane : ℕ) → Interference actor lane v b w b' → ((row : BootRow) → Contains rows row → Contains (listed_in b) row.id) → AreOwnSpared rows v w
    → AreStanding limits rows v → AreSpared rows v w
act_spares_all limits rows v w b b' actor lane does listed own stand row among =
    act_spares_kept limits v w b b' actor lane row.id row.bootcsum does (λ o reached next. listed_guards b v lane row.id (listed row among) o reached) (stand row among) (own row among)

-- whoever writes nothing there spares its own paths
pub aside_spares : (v w : View) (id : DepId) (bootcsum : List ℕ) (W : Path → Seen → Type 0) → ((p : Path) (s : Seen) → W p s → IsOnTheWay id bootcsum p → ⊥) → Writes W v w → SparesOwn v w id bootcsum
aside_spares v w id bootcsum W aside writes = record {
  now = λ p way. ⊎_elim (λ same. same) (λ wrote. absurd (aside p (shows w.now p) wrote way)) (writes.now p);
  each = λ p s way may. ⊎_elim (λ was. inl was) (λ wrote. absurd (aside p s wrote way)) (writes.only p s may);
}
