-- Where the task may begin: at a root folder with no folder at the staging path.
use Rattle.std.proofs.Common.{◌≡◌, ◌≢◌, ⊎_elim, ℕ, true, false, refl, sym, ◌∙◌, ap, subst, [], ◌∷◌, arith, Some, Option}
use Rattle.std.specs.Prelude.{IfSome, List, ◌⊎◌, Result, Ok, Err, OnOk}
use Rattle.ost_types.specs.Path.{Path, under, is_below}
use Rattle.ost_types.proofs.Paths.{under-folder}
use Rattle.fs_trait.specs.declared.types.Value.{Value}
use Rattle.fs_trait.specs.declared.types.Value.TheVariants.{Absent, Folder, Link, File}
use Rattle.fs_trait.specs.View.{Disk, View}
use Rattle.fs_trait.specs.Image.{is_folder, EachImage, Told, IsTree}
use Rattle.fs_trait.specs.Seen.{seen, shows, MayBe, NotDirectory}
use Rattle.fs_trait.specs.Change.{Writes}
use Rattle.fs_trait.proofs.Claims.{Image-under, Image-folder}
use Rattle.fs_trait.proofs.Puts.{put-apart}
use Rattle.fs_trait.proofs.Facts.{no_folder_shown}
use Rattle.fs_memory.specs.Changes.{empty_view}
use Rattle.staged_file.specs.declared.phase.Phase.TheVariants.{Clear, Ended}
use Rattle.staged_file.specs.declared.staged.Plan.{Plan}
use Rattle.staged_file.specs.Staged.{Staged}
use Rattle.staged_file.specs.Steps.{IsFileWith, Needs}
use Rattle.staged_file.specs.Whole.{MayBegin, Written}
use Rattle.staged_file.proofs.Stable.{ended_lasts}
use Rattle.staged_file.proofs.Wholes.{IsSame, needs_leads}
use Rattle.staged_file_check.specs.Files.{file_meta}

abbrev pub stage_path : Path
stage_path = under [] (115 ∷ [])

abbrev pub target_path : Path
target_path = under [] (97 ∷ [])

paths_apart : stage_path ≢ target_path
paths_apart e = let h : ◌≡◌ {A = ℕ} 115 97 = cc in absurd (omega (arith, h))

pub empty_leaf : (v : View) → empty_view ≡ v → is_folder (v.now.at stage_path) ≡ false
unfolding empty_view
empty_leaf v e = subst (λ w. is_folder (w.now.at stage_path) ≡ false) e (ap is_folder (put-apart [] _ _ stage_path (λ e. let n : [] ≡ stage_path = e in cc)))

not_below : is_below stage_path [] ≡ false
unfolding is_below
not_below = refl

-- the plan
abbrev pub IsPlan : List ℕ → Plan → Type 0
IsPlan bytes p = (p.stage ≡ stage_path) × (p.folder ≡ []) × (p.at ≡ target_path) × (p.meta ≡ file_meta) × (p.bytes ≡ bytes)

pub plan_of : (bytes : List ℕ) (o : Option Plan) (p : Plan) → o ≡ Some p → IfSome o (IsPlan bytes) → IsPlan bytes p
plan_of bytes o p is some = subst (λ o. IfSome o (IsPlan bytes)) is some

pub begins : (t : Staged) (d : Disk) → IsTree d → t.phase ≡ Clear → t.stage ≡ stage_path → t.folder ≡ [] → t.at ≡ target_path → is_folder (d.at stage_path) ≡ false → MayBegin t d
begins t d tree new stage folder at leaf = record {
  new = new;
  placed = record {
    apart = λ e. paths_apart (sym stage ∙ e ∙ at);
    staging = ([], 115 ∷ [], stage);
    aside = subst (λ s. is_below s t.folder ≡ false) (sym stage) (subst (λ f. is_below stage_path f ≡ false) (sym folder) not_below);
    inside = (97 ∷ [], at ∙ ap (λ f. under f (97 ∷ [])) (sym folder));
  };
  folder = subst (λ f. is_folder (d.at f) ≡ true) (sym folder) tree.root;
  home = λ g y e. subst (λ f. is_folder (d.at f) ≡ true) (sym (under-folder g [] y (115 ∷ []) (sym e ∙ stage))) tree.root;
  leaf = subst (λ s. is_folder (d.at s) ≡ false) (sym stage) leaf;
}

leaf_directory : (d : Disk) (z : Value) → is_folder z ≡ false → NotDirectory (seen d z)
leaf_directory d (Folder m) e = let n : true ≡ false = e in cc
leaf_directory d Absent e = tt
leaf_directory d (Link m t) e = tt
leaf_directory d (File k) e = tt

-- no folder is written at the staging path
pub still_leaf : (t : Staged) (v w : View) → t.stage ≡ stage_path → t.at ≡ target_path → Writes (Written t) v w → is_folder (v.now.at stage_path) ≡ false → is_folder (w.now.at stage_path) ≡ false
still_leaf t v w stage at writes leaf = no_folder_shown w.now stage_path (⊎_elim
    (λ same. subst NotDirectory (sym same) (leaf_directory v.now (v.now.at stage_path) leaf))
    (λ a. ⊎_elim (λ a. a.1) (λ a. absurd (paths_apart (a.0 ∙ at))) a)
    (writes.now stage_path))

pub put_there : (t : Staged) (bytes : List ℕ) → t.at ≡ target_path → t.meta ≡ file_meta → t.bytes ≡ bytes → (d : Disk) → IsFileWith t.meta t.bytes (shows d t.at) → IsFileWith file_meta bytes (shows d target_path)
put_there t bytes at attributes is d file =
    subst (λ p. IsFileWith file_meta bytes (shows d p)) at
    (subst (λ m. IsFileWith m bytes (shows d t.at)) attributes (subst (λ b. IsFileWith t.meta b (shows d t.at)) is file))

pub each_image : {E : Type 0} {X : Type 0} (r : Result X E) (o : Option View) (P Q : Disk → Type 0) → ((d : Disk) → P d → Q d) → OnOk r (Told o (λ w. EachImage w P)) → OnOk r (Told o (λ w. EachImage w Q))
each_image (Ok x) o P Q step told = (told.0, told.1, λ d image. step d (told.2 d image))
each_image (Err e) o P Q step told = tt

-- a task that has ended left the file, whatever a crash takes
there : (u : Staged) (w : View) → Needs u w → u.phase ≡ Ended → EachImage w (λ d. IsFileWith u.meta u.bytes (shows d u.at))
there u w needs ended d i =
    let x = needs.placed.inside in
    ended_lasts u w needs ended (shows d u.at)
    (subst (λ q. MayBe w q (shows d q)) (sym x.1) (Image-under w d i u.folder x.0 (Image-folder w d i u.folder (needs_leads u w needs))))

pub there_as : (t u : Staged) → IsSame t u → (w : View) → Needs u w → u.phase ≡ Ended → EachImage w (λ d. IsFileWith t.meta t.bytes (shows d t.at))
there_as t u same w needs ended d i =
    subst (λ p. IsFileWith t.meta t.bytes (shows d p)) same.at
    (subst (λ m. IsFileWith m t.bytes (shows d u.at)) same.meta (subst (λ b. IsFileWith u.meta b (shows d u.at)) same.bytes (there u w needs ended d i)))
