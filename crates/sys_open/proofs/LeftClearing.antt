-- What stays where what no list boots is cleared.
use Rattle.std.proofs.Common.{◌≡◌, ◌⊎◌, inl, inr, ⊎_elim, ◌<◌, ◌++◌, ℕ, true, sym, ◌∙◌, ap, subst, arith, List, [], ◌∷◌, length, length-append, append-nil, codes, Option, Some, Result, Ok, Err}
use Rattle.std.specs.Prelude.{Contains, OnOk}
use Rattle.ost_types.specs.Path.{Path}
use Rattle.fs_trait.specs.declared.types.Value.TheVariants.{Absent}
use Rattle.fs_trait.specs.View.{Disk, View}
use Rattle.fs_trait.specs.Image.{is_folder, Told}
use Rattle.fs_trait.specs.Seen.{Seen, Vacant, seen, shows}
use Rattle.fs_trait.specs.Change.{Writes}
use Rattle.repo_config.specs.Config.{config_text}
use Rattle.repo_layout.specs.declared.folder.Folder.{Folder}
use Rattle.repo_layout.specs.declared.folder.Folder.TheVariants.{Ostree, Repo, Objects, Refs, Heads, State, Tmp, Deploy, Boot, Kernels, Checkouts}
use Rattle.repo_layout.specs.BootPaths.{boot_link_stage_path, loader_stage_path}
use Rattle.repo_layout.specs.Paths.{config_path, folder_path, stage_path}
use Rattle.repo_layout.specs.Place.{Config, Stage, place}
use Rattle.repo_layout.proofs.Places.{place-config}
use Rattle.layout_rules.specs.Checks.{IsReached, IsSane}
use Rattle.layout_rules.proofs.Layouts.{below_split}
use Rattle.deploy_clean.proofs.Places.{unlisted_under}
use Rattle.rely_guarantee.specs.Rely.{IsBoot}
use Rattle.sys_open.specs.declared.fault.OpenFault.{OpenFault}
use Rattle.sys_open.specs.Changes.{Changes, ClearsAll, IsArranged, Keeps, Puts, file_meta}
use Rattle.sys_open.specs.Damages.{ShowsConfig}
use Rattle.sys_open.specs.LeftOver.{AreLeftOvers, CanGo, IsLeftOver, LiesBelow, LiesIn}
use Rattle.durable_list.specs.Standing.{ids_of}
use Rattle.sys_open.specs.Walk.{IsSoBelow}
use Rattle.sys_open.proofs.ChangedPlaces.{stage_place_is}
use Rattle.sys_open.proofs.Clearings.{folder_still}
use Rattle.sys_open.proofs.LeftOvers.{left_over_boot, lies_boot, lies_within, none_left}
use Rattle.sys_open.proofs.ListKept.{few_names}
use Rattle.sys_open.proofs.Reopening.{reached_kept}
use Rattle.sys_open.proofs.Working.{one_view}

-- no folder of the layout lies there
apart_loader : (f : Folder) (rest : Path) → folder_path f ≡ loader_stage_path ++ rest → ⊥
apart_loader Boot rest e = let n : codes "boot" ∷ [] ≡ codes "boot" ∷ codes "loader.tmp" ∷ rest = e in cc
apart_loader Kernels rest e = let second : codes "ostree" ≡ codes "loader.tmp" = cc in cc
apart_loader Checkouts rest e = let first : codes "checkout" ≡ codes "boot" = cc in cc
apart_loader Ostree rest e = let first : codes "ostree" ≡ codes "boot" = cc in cc
apart_loader Deploy rest e = let first : codes "ostree" ≡ codes "boot" = cc in cc
apart_loader Repo rest e = let first : codes "ostree" ≡ codes "boot" = cc in cc
apart_loader Objects rest e = let first : codes "ostree" ≡ codes "boot" = cc in cc
apart_loader Refs rest e = let first : codes "ostree" ≡ codes "boot" = cc in cc
apart_loader Heads rest e = let first : codes "ostree" ≡ codes "boot" = cc in cc
apart_loader State rest e = let first : codes "ostree" ≡ codes "boot" = cc in cc
apart_loader Tmp rest e = let first : codes "ostree" ≡ codes "boot" = cc in cc

apart_link : (f : Folder) (rest : Path) → folder_path f ≡ boot_link_stage_path ++ rest → ⊥
apart_link Boot rest e = let first : codes "boot" ≡ codes "ostree" = cc in cc
apart_link Kernels rest e = let first : codes "boot" ≡ codes "ostree" = cc in cc
apart_link Checkouts rest e = let first : codes "checkout" ≡ codes "ostree" = cc in cc
apart_link Ostree rest e = let n : codes "ostree" ∷ [] ≡ codes "ostree" ∷ codes "boot.tmp" ∷ rest = e in cc
apart_link Deploy rest e = let second : codes "deploy" ≡ codes "boot.tmp" = cc in cc
apart_link Repo rest e = let second : codes "repo" ≡ codes "boot.tmp" = cc in cc
apart_link Objects rest e = let second : codes "repo" ≡ codes "boot.tmp" = cc in cc
apart_link Refs rest e = let second : codes "repo" ≡ codes "boot.tmp" = cc in cc
apart_link Heads rest e = let second : codes "repo" ≡ codes "boot.tmp" = cc in cc
apart_link State rest e = let second : codes "repo" ≡ codes "boot.tmp" = cc in cc
apart_link Tmp rest e = let second : codes "repo" ≡ codes "boot.tmp" = cc in cc

apart_below : (d : Disk) (f : Folder) (q rest : Path) → IsLeftOver d q → folder_path f ≡ q ++ rest → ⊥
apart_below d f q rest (inl is) e = apart_loader f rest (e ∙ ap (λ r. r ++ rest) is)
apart_below d f q rest (inr (inl is)) e = apart_link f rest (e ∙ ap (λ r. r ++ rest) is)
apart_below d f q rest (inr (inr of)) e =
    let u = unlisted_under (ids_of of.rows) q of.unlisted in
    let five : length q ≡ 5 = ap length u.at in
    omega (arith, few_names f, ap length e, five, length-append q rest)

folder_apart : (d : Disk) (f : Folder) → LiesIn d (folder_path f) → ⊥
folder_apart d f (q, is, below) = let s = below_split q (folder_path f) below in apart_below d f q s.0 is s.1

-- nor is the configuration put there
put_apart : (d : Disk) (q : Path) (s : Seen) → IsLeftOver d q → Puts (stage_path 0) config_path file_meta config_text q s → ⊥
put_apart d q s is puts = by puts
  where
    boot : IsBoot (place q)
    boot = subst (λ r. IsBoot (place r)) (append-nil q) (left_over_boot d q [] is)

    by : Puts (stage_path 0) config_path file_meta config_text q s → ⊥
    by (inl staged) = let n : IsBoot (Stage 0) = subst IsBoot (stage_place_is 0 q (omega arith) staged.0) boot in n
    by (inr put) = let n : IsBoot Config = subst IsBoot (ap place put.0 ∙ place-config) boot in n

-- where nothing stood, nothing came
still_none : (d e : Disk) → Keeps d e → (q : Path) → IsLeftOver d q → d.at q ≡ Absent → shows e q ≡ Vacant
still_none d e keeps q is none = by (keeps q)
  where
    by : (shows e q ≡ shows d q) ⊎ Changes d q (shows e q) → shows e q ≡ Vacant
    by (inl same) = same ∙ ap (seen d) none
    by (inr (inl lays)) = absurd (apart_below d lays.0.0 q [] is (sym lays.0.1 ∙ sym (append-nil q)))
    by (inr (inr (inl clears))) = clears.2.1
    by (inr (inr (inr (inl puts)))) = absurd (put_apart d q (shows e q) is puts.puts)
    by (inr (inr (inr (inr cleared)))) = cleared.1

-- what can be removed still can
pub still_can_go : (d e : Disk) → IsSane d → Keeps d e → ((p : Path) → CanGo d p) → (paths : List Path) → AreLeftOvers d paths → (q : Path) → Contains paths q → IsSoBelow (IsReached e) q
still_can_go d e sane keeps can_go paths are q has p below = reached_kept d e sane keeps p (can_go p (lies_within d p (q, are.each q has, below)))

module _ (was : Disk) (paths : List Path) (are : AreLeftOvers was paths) (v u : View) (writes : Writes (ClearsAll paths) v u) where
  lies : (p : Path) → LiesBelow paths p → LiesIn was p
  lies p (q, has, below) = (q, are.each q has, below)

  folder_stays : (f : Folder) → is_folder (v.now.at (folder_path f)) ≡ true → is_folder (u.now.at (folder_path f)) ≡ true
  folder_stays f folder = ⊎_elim
      (λ same. folder_still v.now u.now (folder_path f) same folder)
      (λ wrote. absurd (folder_apart was f (lies (folder_path f) wrote.0)))
      (writes.now (folder_path f))

  config_stays : ShowsConfig (shows v.now config_path) → ShowsConfig (shows u.now config_path)
  config_stays is = ⊎_elim
      (λ same. subst ShowsConfig (sym same) is)
      (λ wrote. let n : IsBoot Config = subst IsBoot place-config (lies_boot was config_path (lies config_path wrote.0)) in absurd n)
      (writes.now config_path)

  stage_stays : (actor : ℕ) → shows v.now (stage_path actor) ≡ Vacant → shows u.now (stage_path actor) ≡ Vacant
  stage_stays actor none = ⊎_elim (λ same. same ∙ none) (λ wrote. wrote.1) (writes.now (stage_path actor))

  pub arranged_of : {T : Type 0} → Keeps was u.now → ((f : Folder) → is_folder (v.now.at (folder_path f)) ≡ true) → ((actor : ℕ) → actor < 16 → shows v.now (stage_path actor) ≡ Vacant) → ShowsConfig (shows v.now config_path)
      → (view : Option View) (r : Result T OpenFault) → view ≡ Some u → OnOk r (Told view (λ w. (q : Path) → Contains paths q → shows w.now q ≡ Vacant)) → OnOk r (Told view (λ w. IsArranged was w.now))
  arranged_of keeps laid staging config view (Ok x) told cleared = (
    u,
    told,
    record {
      folders = λ f. folder_stays f (laid f);
      staging = λ actor small. stage_stays actor (staging actor small);
      config = config_stays config;
      left_over = none_left was u.now paths are (still_none was u.now keeps) (subst (λ (x : View). (q : Path) → Contains paths q → shows x.now q ≡ Vacant) (one_view view cleared.0 u cleared.1 told) cleared.2);
    },
  )
  arranged_of keeps laid staging config view (Err e) told cleared = tt
