-- The steps that read the deployment from which the configuration is taken over.
use Rattle.std.proofs.Common.{◌≡◌, ◌≢◌, ◌++◌, Option, Some, None, Ok, Err, refl, sym, ◌∙◌, ap, subst, List, [], ℕ}
use Rattle.sha2.specs.Sha256.{sha256}
use Rattle.ost_types.specs.declared.limits.Limits.{Limits}
use Rattle.ost_types.specs.declared.meta.Meta.{Meta}
use Rattle.ost_types.specs.declared.node.NodeName.{NodeName}
use Rattle.ost_types.specs.declared.node.NodeName.TheVariants.{Folder, Leaf}
use Rattle.ost_types.specs.Path.{Path}
use Rattle.ost_types.specs.PathMap.{IsPathMap, Nodes, node_at}
use Rattle.fs_trait.specs.declared.task.StepResult.TheVariants.{More, Done}
use Rattle.fs_trait.specs.View.{Disk, View}
use Rattle.fs_trait.specs.Seen.{Seen, Vacant, Directory, shows}
use Rattle.boot_model.specs.declared.item.DepId.{DepId}
use Rattle.repo_model.specs.Whole.{Complete}
use Rattle.deploy_etc.specs.Defaults.{AreDefaults}
use Rattle.deploy_etc.proofs.DefaultLemmas.{one_map}
use Rattle.deployment_build.specs.Deployment.{etc_of}
use Rattle.tree_read.specs.declared.fault.TreeFault.{TreeFault}
use Rattle.tree_read.specs.Reading as walk
use Rattle.tree_read.specs.Reading.{Reading}
use Rattle.tree_read.specs.Whole.{IsTree}
use Rattle.tree_read.proofs.Steps.{whole_in}
use Rattle.tree_walk.specs.Standing.{Standing}
use Rattle.tree_walk.proofs.Standings.{standing_map}
use Rattle.tree_scan.specs.declared.fault.ScanFault.{ScanFault}
use Rattle.tree_scan.specs.Scan.{HasSum, IsScan, Reads}
use Rattle.tree_scan.specs.Faults.{IsFault}
use Rattle.tree_scan.specs.Scanning as scan
use Rattle.tree_scan.specs.Scanning.{Scanning}
use Rattle.tree_scan.specs.SoFar as scans
use Rattle.tree_scan.proofs.Kept.{scan_begun}
use Rattle.deploy_task.specs.declared.refusal.DeployRefusal.TheVariants as refusal
use Rattle.deploy_task.specs.declared.phase.Phase.{Phase}
use Rattle.deploy_task.specs.declared.phase.Phase.TheVariants.{Source, Etc, BeginBuild}
use Rattle.deploy_task.specs.Deploying.{Deploying, IsSourceOf, Turn, in_phase, made_in}
use Rattle.deploy_task.specs.Steps.{IsToldStep, Needs, needs_in, reads_etc, tells_in}
use Rattle.deploy_task.proofs.Making.{made_with}
use Rattle.deploy_task.proofs.Parts.{scan_same}
use Rattle.deploy_task.proofs.Telling.{told_more, told_refused}

-- ---- the walk of its tree

module _ (t : Deploying) (w : Reading) (is : t.phase ≡ Source w) (v : View) (needs : Needs t v) where
  part : made_in (Source w) t
  part = subst (λ ph. made_in ph t) is needs.made.part

  meets : needs_in (Source w) t v
  meets = subst (λ ph. needs_in ph t v) is needs.meets

  tells : (next : Phase) (turn : Turn) → tells_in (Source w) next t v turn → tells_in t.phase next t v turn
  tells next turn told = subst (λ ph. tells_in ph next t v turn) (sym is) told

  pub walk_so_far : walk.IsSoFar (Standing v.now) w
  walk_so_far = meets.0

  pub walk_more : (u : Reading) → walk.IsStepped w (Ok More) u → walk.TellsIn (Standing v.now) v.now w (Ok More) u → (view : Option View) → view ≡ Some v → IsToldStep t (in_phase (Source u) t) v (Ok More) view
  walk_more u step knows view told =
      let of = part.1 in
      told_more t (in_phase (Source u) t) v view told
      (record {
        made = made_with t (Source u) needs.made (part.0, record { source = of.source; is_source = of.is_source; commit = step.0 ∙ of.commit; limits = step.1 ∙ of.limits });
        meets = (λ begun. knows, meets.1);
      })
      (tells (Source u) More tt)

  pub walk_refused : (fault : TreeFault) → walk.TellsIn (Standing v.now) v.now w (Ok (Done (Err fault))) w → (view : Option View) → view ≡ Some v → IsToldStep t t v (Ok (Done (Err (refusal.Source fault)))) view
  walk_refused fault why view told = told_refused t t v (refusal.Source fault) view told needs (tells t.phase (Done (Err (refusal.Source fault))) why)

-- ---- one map is what stands in a folder

leaf_vacant : (sum : List ℕ) → HasSum Vacant sum → ⊥
leaf_vacant sum has = has.leaf

leaf_folder : (m : Meta) (sum : List ℕ) → HasSum (Directory m) sum → ⊥
leaf_folder m sum has = has.leaf

sums_same : (s : Seen) (a b : List ℕ) → HasSum s a → HasSum s b → a ≡ b
sums_same s a b x y =
    let e : Some x.stream ≡ Some y.stream = sym x.form ∙ y.form in
    let stream : x.stream ≡ y.stream = cc in
    x.is ∙ ap sha256 stream ∙ sym y.is

reads_same : (s : Seen) (a b : Option NodeName) → Reads s a → Reads s b → a ≡ b
reads_same s None None x y = refl
reads_same s None (Some (Folder m)) x y = let n : Vacant ≡ Directory m = sym x ∙ y in cc
reads_same s None (Some (Leaf sum)) x y = absurd (leaf_vacant sum (subst (λ z. HasSum z sum) x y))
reads_same s (Some (Folder m)) None x y = let n : Vacant ≡ Directory m = sym y ∙ x in cc
reads_same s (Some (Folder m)) (Some (Folder n)) x y = let e : Directory m ≡ Directory n = sym x ∙ y in let h : m ≡ n = cc in ap (λ k. Some (Folder k)) h
reads_same s (Some (Folder m)) (Some (Leaf sum)) x y = absurd (leaf_folder m sum (subst (λ z. HasSum z sum) x y))
reads_same s (Some (Leaf sum)) None x y = absurd (leaf_vacant sum (subst (λ z. HasSum z sum) y x))
reads_same s (Some (Leaf sum)) (Some (Folder m)) x y = absurd (leaf_folder m sum (subst (λ z. HasSum z sum) y x))
reads_same s (Some (Leaf a)) (Some (Leaf b)) x y = ap (λ k. Some (Leaf k)) (sums_same s a b x y)

pub scans_same : (d : Disk) (at : Path) (m n : Nodes) → IsPathMap m → IsPathMap n → IsScan d at m → IsScan d at n → m ≡ n
scans_same d at m n one other x y = one_map m n one.ascending other.ascending (λ p. reads_same (shows d (at ++ p)) (node_at m p) (node_at n p) (x p) (y p))

-- ---- its `etc`

module _ (t : Deploying) (defaults : Nodes) (s : Scanning) (is : t.phase ≡ Etc defaults s) (v : View) (needs : Needs t v) where
  etc_part : made_in (Etc defaults s) t
  etc_part = subst (λ ph. made_in ph t) is needs.made.part

  etc_meets : needs_in (Etc defaults s) t v
  etc_meets = subst (λ ph. needs_in ph t v) is needs.meets

  etc_tells : (next : Phase) (turn : Turn) → reads_etc (Etc defaults s) next v turn → tells_in t.phase next t v turn
  etc_tells next turn told = subst (λ ph. tells_in ph next t v turn) (sym is) told

  pub etc_so_far : scans.IsSoFar v.now s
  etc_so_far = etc_meets.1

  pub etc_more : (u : Scanning) → scan.Follows s u → scans.IsSoFar v.now u → (view : Option View) → view ≡ Some v → IsToldStep t (in_phase (Etc defaults u) t) v (Ok More) view
  etc_more u step so view told =
      let of = etc_part.1 in
      let same = scan_same s u step in
      told_more t (in_phase (Etc defaults u) t) v view told
      (record {
        made = made_with t (Etc defaults u) needs.made (etc_part.0, record { source = of.source; is_source = of.is_source; at = same.at ∙ of.at; limits = same.limits ∙ of.limits }, etc_part.2);
        meets = (etc_meets.0, so, etc_meets.2);
      })
      (etc_tells (Etc defaults u) More tt)

  pub etc_refused : (fault : ScanFault) → IsFault v.now s.at s.limits s.found fault → (view : Option View) → view ≡ Some v → IsToldStep t t v (Ok (Done (Err (refusal.Etc fault)))) view
  etc_refused fault why view told = told_refused t t v (refusal.Etc fault) view told needs (etc_tells t.phase (Done (Err (refusal.Etc fault))) why)

  pub etc_changed : IsScan v.now s.at s.found → IsPathMap s.found → s.found ≢ defaults → (view : Option View) → view ≡ Some v → IsToldStep t t v (Ok (Done (Err refusal.EtcChanged))) view
  etc_changed found map other view told =
      told_refused t t v refusal.EtcChanged view told needs
      (etc_tells t.phase (Done (Err refusal.EtcChanged)) (λ (at_first : IsScan v.now s.at defaults). other (scans_same v.now s.at s.found defaults map etc_part.2 found at_first)))

  pub etc_unchanged : IsScan v.now s.at s.found → s.found ≡ defaults → (view : Option View) → view ≡ Some v → IsToldStep t (in_phase BeginBuild t) v (Ok More) view
  etc_unchanged found same view told =
      told_more t (in_phase BeginBuild t) v view told (record { made = made_with t BeginBuild needs.made etc_part.0; meets = etc_meets.2 })
      (etc_tells BeginBuild More (subst (IsScan v.now s.at) same found))

-- so it begins, once the tree was walked

module _ (t : Deploying) (w : Reading) (is : t.phase ≡ Source w) (v : View) (needs : Needs t v) where
  pub etc_begins : walk.Knows (Standing v.now) w → w.pending ≡ [] → (source : DepId) (defaults : Nodes) → IsSourceOf t.plan source → w.commit ≡ source.commit → IsPathMap w.found → IsPathMap defaults → AreDefaults w.found defaults
      → (view : Option View) → view ≡ Some v → IsToldStep t (in_phase (Etc defaults (scan.begun (etc_of source) t.plan.limits)) t) v (Ok More) view
  etc_begins knows none source defaults first commit tree map are view told =
      let end = whole_in (Standing v.now) (standing_map v.now) w knows none in
      let p = part t w is v needs in
      let m = meets t w is v needs in
      let s = scan.begun (etc_of source) t.plan.limits in
      told_more t (in_phase (Etc defaults s) t) v view told
      (record {
        made = made_with t (Etc defaults s) needs.made (p.0, record { source = source; is_source = first; at = refl; limits = refl }, map);
        meets = (
          record {
            source = source;
            is_source = first;
            tree = w.found;
            has = record {
              whole = subst (λ (l : Limits). Complete (Standing v.now) l source.commit) p.1.limits (subst (Complete (Standing v.now) w.limits) commit end.0);
              shown = subst (λ c. IsTree (Standing v.now) c w.found) commit end.1;
              map = tree;
            };
            are = are;
          },
          scan_begun v.now (etc_of source) t.plan.limits,
          m.1,
        );
      })
      (tells t w is v needs (Etc defaults s) More tt)
