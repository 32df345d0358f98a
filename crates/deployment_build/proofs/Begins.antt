-- A task at its beginning: what it keeps, and what it needs of the disk.
use Rattle.std.proofs.Common.{◌≡◌, ◌<◌, ◌^◌, ℕ, List, length, refl, sym, ◌∙◌, ap, subst}
use Rattle.ost_types.specs.declared.meta.Meta.{Meta}
use Rattle.ost_types.specs.Path.{Path}
use Rattle.ost_types.proofs.Paths.{is_below-self, under-folder, under-is_in}
use Rattle.fs_trait.specs.declared.task.Need.TheVariants.{Sysroot}
use Rattle.fs_trait.specs.View.{View}
use Rattle.fs_trait.specs.Seen.{IsDirectory, shows}
use Rattle.fs_trait.proofs.Effects.{may_now}
use Rattle.folder_build.specs.Node.{file_meta}
use Rattle.checkout.specs.CheckoutFolder.{HasLeaves}
use Rattle.checkout.specs.CheckoutWork as checkout
use Rattle.checkout.specs.CheckoutSteps.{HasHome}
use Rattle.tree_copy.specs.TreeFolder.{HasSources}
use Rattle.tree_copy.specs.TreeWork as tree
use Rattle.tree_copy.specs.TreeWork.{TreeCopying}
use Rattle.staged_file.specs.declared.phase.Phase.TheVariants as staged
use Rattle.staged_file.specs.Staged.{Staged}
use Rattle.kernel_copy.specs.Work as kernel
use Rattle.kernel_copy.specs.Work.{KernelCopying}
use Rattle.deployment_build.specs.declared.deployment.NewDeployment.{NewDeployment}
use Rattle.deployment_build.specs.declared.places.Places.{Places}
use Rattle.deployment_build.specs.declared.phase.BuildPhase.TheVariants.{Checkout}
use Rattle.deployment_build.specs.Deployment.{MayBuild, deployments, etc_of, folder_of}
use Rattle.deployment_build.specs.Work.{IsMade, begun, origin_begun, places_of}
use Rattle.deployment_build.specs.Steps.{HasGround, HasWay, Needs}
use Rattle.deployment_build.proofs.Apart.{files_under, id_name}

-- the origin file that is staged so
abbrev pub origin_at : Places → Meta → List ℕ → Staged
origin_at p meta text = record { stage = p.stage; folder = p.folder; at = p.origin; meta = meta; bytes = text; lock = Sysroot; phase = staged.Clear; written = 0 }

-- as its parts are
pub begun_as : (stage : Path) (new : NewDeployment) (c : checkout.Checkout) (e : TreeCopying) (o : Staged) (k : KernelCopying) → c ≡ checkout.beginning (folder_of new.id) new.tree → e ≡ tree.begun (etc_of new.id) new.etc
    → o ≡ origin_begun stage new.id new.origin → k ≡ kernel.begun stage new.id.os new.kernel → record { id = new.id; checkout = c; etc = e; origin = o; kernel = k; phase = Checkout } ≡ begun stage new
begun_as stage new c e o k files etc origin copies =
    ap (λ (x : checkout.Checkout). record (begun stage new) { checkout = x; etc = e; origin = o; kernel = k }) files
    ∙ ap (λ (x : TreeCopying). record (begun stage new) { etc = x; origin = o; kernel = k }) etc
    ∙ ap (λ (x : Staged). record (begun stage new) { origin = x; kernel = k }) origin
    ∙ ap (λ (x : KernelCopying). record (begun stage new) { kernel = x }) copies

pub made_begun : (stage : Path) (new : NewDeployment) → MayBuild stage new → length new.origin < 2 ^ 63 → IsMade (begun stage new)
made_begun stage new may short = record {
  stage = may.staging;
  files = record { into = refl; shape = may.tree.shape; no_etc = may.no_etc };
  etc = refl;
  origin = record { folder = refl; at = refl; meta = refl; short = short };
  os = refl;
  stages = refl;
  within = (refl, refl, refl);
}

-- so is one that is made of its parts at its places
pub made_as : (stage : Path) (new : NewDeployment) → MayBuild stage new → length new.origin < 2 ^ 63 → (p : Places) → p ≡ places_of stage new.id → (m : Meta) → m ≡ file_meta
    → (c : checkout.Checkout) (e : TreeCopying) (o : Staged) (k : KernelCopying) → c ≡ checkout.beginning p.files new.tree → e ≡ tree.begun p.etc new.etc → o ≡ origin_at p m new.origin
    → k ≡ kernel.begun stage new.id.os new.kernel → IsMade (record { id = new.id; checkout = c; etc = e; origin = o; kernel = k; phase = Checkout })
made_as stage new may short p is m plain c e o k files etc origin copies =
    subst IsMade
    (sym (begun_as stage new c e o k (files ∙ ap (λ (q : Places). checkout.beginning q.files new.tree) is) (etc ∙ ap (λ (q : Places). tree.begun q.etc new.etc) is)
    (origin ∙ ap (λ (x : Meta). origin_at p x new.origin) plain ∙ ap (λ (q : Places). origin_at q file_meta new.origin) is) copies))
    (made_begun stage new may short)

-- the folder of the deployments is there
home : (new : NewDeployment) (v : View) → HasWay new.id.os v → HasHome (folder_of new.id) v.now
home new v way p in_ =
    let u = under-is_in p (folder_of new.id) in_ in
    let same = under-folder (deployments new.id.os) p (id_name new.id) u.0 (sym (files_under new.id) ∙ u.1) in
    subst (λ q. IsDirectory (shows v.now q)) same (way (deployments new.id.os) (shows v.now (deployments new.id.os)) (may_now v (deployments new.id.os)) (is_below-self (deployments new.id.os)))

-- What a new one needs of the disk, and no more: that each crash leaves folders down to that of the deployments, the objects of all
-- leaves, and what the copies of the kernel need. What stands at the paths of the files, of the origin file and of the copies may be
-- anything.
pub build_begun : (stage : Path) (new : NewDeployment) (v : View) → IsMade (begun stage new) → HasWay new.id.os v → HasLeaves v.now new.tree → HasSources v.now new.etc
    → HasGround stage new.id.os new.kernel v.now → Needs (begun stage new) v
build_begun stage new v made way leaves sources ground = record {
  made = made;
  meets = record { part = (home new v way, leaves); going = tt; sources = sources; way = way; ground = ground };
}
