-- Each path has its place, from which the name can be told.
use Rattle.std.proofs.Common.{◌≡◌, ◌≢◌, ◌==◌, ◌+◌, ◌-◌, ◌<◌, ◌^◌, ℕ, suc, if◌then◌else◌, List, [], ◌∷◌, ◌++◌, length, take, drop, codes, refl, sym, ◌∙◌, ap, arith, Bool, true, false, subst, append-nil}
use Rattle.std.specs.Char.{digit_value}
use Rattle.std.specs.Fmt.{decimal}
use Rattle.std.specs.Result.{result_unwrap_or}
use Rattle.std.specs.Str.Parse.{AllDigits, digits_value}
use Rattle.std.proofs.Math.Seq.{take-append_seam, drop-append_seam, drop-append-add}
use Rattle.std.proofs.lemmas.List.{take-append-drop, length-drop}
use Rattle.std.proofs.lemmas.Str.Parse.{digit_from_value}
use Rattle.std.proofs.lemmas.Fmt.{decimal_is_IsNumeral, length-decimal-le}
use Rattle.std.proofs.lemmas.List.{append_cancel_left, length-append}
use Rattle.std.proofs.lemmas.Bool.{false_from_ne_true}
use Rattle.std.proofs.lemmas.Bool.Decides.{Decides-eqb}
use Rattle.hex.proofs.HexLemmas.{decode_of-encode_lower}
use Rattle.ost_types.specs.Path.{Name, Path, joined, same_name, same_path}
use Rattle.ost_types.specs.Csum.{hex_of}
use Rattle.ost_types.specs.declared.object.Kind.{Kind}
use Rattle.ost_types.specs.declared.object.Kind.TheVariants.{Commit, DirTree, DirMeta, File}
use Rattle.ost_types.proofs.Paths.{same_name-Decides, same_path-self, same_path-apart, same_path-Decides}
use Rattle.ost_types.proofs.HexSums.{IsHexSum-hex_of}
use Rattle.repo_layout.specs.RefName.{parts_of}
use Rattle.repo_layout.specs.RefFile.{IsSum}
use Rattle.repo_layout.specs.Paths.{config_path, deploy_path, ending, heads, in_repo, mark_path, object_path, objects_folder_path, ref_path, stage_path}
use Rattle.repo_layout.specs.BootPaths.{boot_folder_path, boot_link_path, boot_link_stage_path, checkout_path, kernel_folder, kernel_path, loader_folder_path, loader_path, loader_stage_path, origin_path, staged_path, summary_path}
use Rattle.repo_layout.specs.Place.{Place, Config, Stage, Ref, ObjectsFolder, Object, Mark, Summary, Deployment, Etc, Origin, Staged, BootLink, BootLinkStage, BootFolder, Loader, LoaderStage, LoaderFolder, KernelCopy, Checkout, Other, only_at, sum_of, ref_at, ref_place, object_at, object_of, object_place, mark_at, mark_place, stage_at, stage_place, repo_place, IsOutsideEtc, in_deployment, deployment_at, deployed_place, deploy_place, boot_link_at, boot_folder_at, boot_links_place, kernel_at, kernel_place, loader_folder_at, boot_place, checkout_place, ostree_place, place, IsAt, name_of}
use Rattle.repo_layout.proofs.RefPaths.{joined-parts_of}

only_at-self : (p : Path) (x : Place) → only_at p p x ≡ x
only_at-self p x = ap (λ b. if b then x else Other p) (same_path-self p)

-- the digits of a sum
digits_whole : (sum : List ℕ) → IsSum sum → length (hex_of sum) ≡ 64
digits_whole sum is = (IsHexSum-hex_of sum is.whole is.bytes).whole

sum_of-hex_of : (sum : List ℕ) → IsSum sum → sum_of (hex_of sum) ≡ sum
sum_of-hex_of sum is = ap (λ r. result_unwrap_or r []) (decode_of-encode_lower sum is.bytes)

take-front : (x y : List ℕ) (n : ℕ) → length x ≡ n → take n (x ++ y) ≡ x
take-front x y n e = ap (λ k. take k (x ++ y)) (sym e) ∙ take-append_seam x y

drop-front : (x y : List ℕ) (n : ℕ) → length x ≡ n → drop n (x ++ y) ≡ y
drop-front x y n e = ap (λ k. drop k (x ++ y)) (sym e) ∙ drop-append_seam x y

value : (n : ℕ) → n < 2 ^ 64 → digits_value 10 (decimal n) ≡ n
value n less = (decimal_is_IsNumeral n less).1

pub place-config : place config_path ≡ Config
unfolding place ostree_place repo_place
place-config = only_at-self config_path Config

heads-place : (parts : Path) (name : List ℕ) → joined parts ≡ 47 ∷ name → heads ++ parts ≡ ref_path name → place (heads ++ parts) ≡ Ref name
unfolding place ostree_place repo_place ref_place joined
heads-place [] name joins is = cc
heads-place (part ∷ parts) name joins is =
    ap (λ n. ref_at n (heads ++ part ∷ parts)) (ap (drop 1) joins)
    ∙ ap (λ p. only_at (ref_path name) p (Ref name)) is
    ∙ only_at-self (ref_path name) (Ref name)

pub place-ref : (name : List ℕ) → place (ref_path name) ≡ Ref name
unfolding ref_path
place-ref name = heads-place (parts_of name) name (joined-parts_of name) refl

pub place-objects_folder : (sum : List ℕ) → place (objects_folder_path sum) ≡ ObjectsFolder (take 2 (hex_of sum))
unfolding place ostree_place repo_place object_place objects_folder_path
place-objects_folder sum = only_at-self (objects_folder_path sum) (ObjectsFolder (take 2 (hex_of sum)))

kind-place : (kind : Kind) (digits : List ℕ) (p : Path) → object_of digits (ending kind) p ≡ object_at kind (sum_of digits) p
kind-place Commit digits p = refl
kind-place DirTree digits p = refl
kind-place DirMeta digits p = refl
kind-place File digits p = refl

object-dispatch : (folder file : Name) → place (in_repo (codes "objects" ∷ folder ∷ file ∷ [])) ≡ object_of (folder ++ take 62 file) (drop 62 file) (in_repo (codes "objects" ∷ folder ∷ file ∷ []))
unfolding place ostree_place repo_place object_place
object-dispatch folder file = refl

pub place-object : (kind : Kind) (sum : List ℕ) → IsSum sum → place (object_path kind sum) ≡ Object kind sum
place-object kind sum is = unfold object_path in
    let h = hex_of sum in
    let long : length (drop 2 h) ≡ 62 = omega (arith, length-drop 2 h, digits_whole sum is) in
    let whole : take 2 h ++ take 62 (drop 2 h ++ ending kind) ≡ h = ap (λ t. take 2 h ++ t) (take-front (drop 2 h) (ending kind) 62 long) ∙ take-append-drop 2 h in
    let end : drop 62 (drop 2 h ++ ending kind) ≡ ending kind = drop-front (drop 2 h) (ending kind) 62 long in
    object-dispatch (take 2 h) (drop 2 h ++ ending kind)
    ∙ ap (λ d. object_of d (drop 62 (drop 2 h ++ ending kind)) (object_path kind sum)) whole
    ∙ ap (λ e. object_of h e (object_path kind sum)) end
    ∙ kind-place kind h (object_path kind sum)
    ∙ ap (λ s. object_at kind s (object_path kind sum)) (sum_of-hex_of sum is)
    ∙ only_at-self (object_path kind sum) (Object kind sum)

mark-dispatch : (file : Name) → place (in_repo (codes "state" ∷ file ∷ [])) ≡ mark_at (sum_of (take 64 file)) (in_repo (codes "state" ∷ file ∷ []))
unfolding place ostree_place repo_place mark_place
mark-dispatch file = refl

pub place-mark : (commit : List ℕ) → IsSum commit → place (mark_path commit) ≡ Mark commit
place-mark commit is = unfold mark_path in
    let h = hex_of commit in
    mark-dispatch (h ++ codes ".commitpartial")
    ∙ ap (λ d. mark_at (sum_of d) (mark_path commit)) (take-front h (codes ".commitpartial") 64 (digits_whole commit is))
    ∙ ap (λ s. mark_at s (mark_path commit)) (sum_of-hex_of commit is)
    ∙ only_at-self (mark_path commit) (Mark commit)

stage-dispatch : (who : Name) (rest : Path) → place (in_repo (codes "tmp" ∷ who ∷ rest)) ≡ stage_at (digits_value 10 (drop 6 who)) rest (in_repo (codes "tmp" ∷ who ∷ rest))
unfolding place ostree_place repo_place stage_place
stage-dispatch who rest = refl

pub place-stage : (actor : ℕ) (rest : Path) → actor < 2 ^ 64 → place (stage_path actor ++ rest) ≡ Stage actor
place-stage actor rest less = unfold stage_path in
    let p = stage_path actor ++ rest in
    stage-dispatch (codes "actor-" ++ decimal actor) rest
    ∙ ap (λ d. stage_at (digits_value 10 d) rest p) (drop-front (codes "actor-") (decimal actor) 6 refl)
    ∙ ap (λ n. stage_at n rest p) (value actor less)
    ∙ only_at-self p (Stage actor)

pub place-summary : place summary_path ≡ Summary
unfolding place ostree_place repo_place
place-summary = only_at-self summary_path Summary

-- deployments and their origin files
deploy-dispatch : (os id : Name) (rest : Path)
    → place (codes "ostree" ∷ codes "deploy" ∷ os ∷ codes "deploy" ∷ id ∷ rest) ≡ deployed_place os id rest (codes "ostree" ∷ codes "deploy" ∷ os ∷ codes "deploy" ∷ id ∷ rest)
unfolding place ostree_place deploy_place
deploy-dispatch os id rest = refl

same_name-apart : (x y : Name) → x ≢ y → same_name x y ≡ false
same_name-apart x y apart = false_from_ne_true _ (λ e. apart ((same_name-Decides x y).0 e))

deployed-parts : (os id : Name) (rest p : Path) → deployed_place os id rest p
    ≡ (if same_path (origin_path os (sum_of (take 64 id)) (digits_value 10 (take (length id - 72) (drop 65 id))) ++ rest) p then Origin os (sum_of (take 64 id)) (digits_value 10 (take (length id - 72) (drop 65 id)))
    else deployment_at os (sum_of (take 64 id)) (digits_value 10 (drop 65 id)) rest p)
unfolding deployed_place
deployed-parts os id rest p = refl

if_true : (b : Bool) (x y : Place) → b ≡ true → (if b then x else y) ≡ x
if_true b x y e = ap (λ b. if b then x else y) e

if_false : (b : Bool) (x y : Place) → b ≡ false → (if b then x else y) ≡ y
if_false b x y e = ap (λ b. if b then x else y) e

equal : (n m : ℕ) → n ≡ m → (n == m) ≡ true
equal n m e = (Decides-eqb n m).1 e

other : (n m : ℕ) → n ≢ m → (n == m) ≡ false
other n m apart = false_from_ne_true _ (λ e. apart ((Decides-eqb n m).0 e))

-- a name of six bytes, and one of more with a dot behind them
links-six : (d : List ℕ) (rest p : Path) → length d ≡ 1 → boot_links_place p (codes "boot." ++ d) rest ≡ boot_link_at (digits_value 10 d) p
unfolding boot_links_place
links-six d rest p one = if_true (suc (suc (suc (suc (suc (length d))))) == 6) _ _ (equal _ _ (omega (arith, one)))

links-eight : (d s : List ℕ) (rest p : Path) → length d ≡ 1 → boot_links_place p (codes "boot." ++ (d ++ 46 ∷ s)) rest ≡ boot_folder_at (digits_value 10 d) (digits_value 10 s) rest p
unfolding boot_links_place
links-eight d s rest p one =
    let t = d ++ 46 ∷ s in
    if_false (suc (suc (suc (suc (suc (length t))))) == 6) _ _ (other _ _ (λ e. omega (arith, e, one, length-append d (46 ∷ s))))
    ∙ if_true (same_name (take 1 (drop 1 t)) (codes ".")) _ _ (ap (λ r. same_name (take 1 r) (codes ".")) (drop-front d (46 ∷ s) 1 one))
    ∙ ap (λ r. boot_folder_at (digits_value 10 r) (digits_value 10 (drop 2 t)) rest p) (take-front d (46 ∷ s) 1 one)
    ∙ ap (λ r. boot_folder_at (digits_value 10 d) (digits_value 10 r) rest p) (ap (λ k. drop k t) (let e : 2 ≡ length d + 1 = omega (arith, one) in e) ∙ drop-append-add d (46 ∷ s) 1)

loader-eight : (d : List ℕ) (rest p : Path) → length d ≡ 1 → p ≡ codes "boot" ∷ (codes "loader." ++ d) ∷ rest → place p ≡ loader_folder_at (digits_value 10 d) rest p
unfolding place boot_place
loader-eight d rest p one is = rw is (if_true (suc (suc (suc (suc (suc (suc (suc (length d))))))) == 8) _ _ (equal _ _ (omega (arith, one))))

in_deployment-outside : (os : Name) (commit : List ℕ) (serial : ℕ) (rest : Path) → IsOutsideEtc rest → in_deployment os commit serial rest ≡ Deployment os commit serial rest
in_deployment-outside os commit serial [] is = refl
in_deployment-outside os commit serial (x ∷ rest) is = ap (λ b. if b then Etc os commit serial rest else Deployment os commit serial (x ∷ rest)) (same_name-apart x (codes "etc") is)

-- the digits of a number hold no dot
no_digit : digit_value 46 < 10 → ⊥
no_digit less = omega (arith, (digit_from_value 46 less).0)

no_dot_in : (front back : List ℕ) → AllDigits 10 (front ++ 46 ∷ back) → ⊥
no_dot_in [] back digits = no_digit digits.0
no_dot_in (x ∷ front) back digits = no_dot_in front back digits.1

no_dot : (n : ℕ) (front back : List ℕ) → n < 2 ^ 64 → decimal n ≡ front ++ 46 ∷ back → ⊥
no_dot n front back less e = no_dot_in front back (subst (AllDigits 10) e (decimal_is_IsNumeral n less).0.1)

not_origin : (os : Name) (commit : List ℕ) (serial n : ℕ) (rest : Path) → serial < 2 ^ 64 → origin_path os commit n ++ rest ≢ deploy_path os commit serial ++ rest
unfolding origin_path deploy_path
not_origin os commit serial n rest less e =
    let h = hex_of commit in
    let id : h ++ ((46 ∷ decimal n) ++ codes ".origin") ≡ h ++ (46 ∷ decimal serial) = cc in
    let tail : 46 ∷ (decimal n ++ codes ".origin") ≡ 46 ∷ decimal serial = append_cancel_left h _ _ id in
    let digits : decimal n ++ codes ".origin" ≡ decimal serial = cc in
    no_dot serial (decimal n) (codes "origin") less (sym digits)

module _ (os : Name) (commit : List ℕ) (serial : ℕ) (is : IsSum commit) (less : serial < 2 ^ 64) where
  front_sum : (end : List ℕ) → sum_of (take 64 (hex_of commit ++ end)) ≡ commit
  front_sum end = ap sum_of (take-front (hex_of commit) end 64 (digits_whole commit is)) ∙ sum_of-hex_of commit is

  digits_behind : (end : List ℕ) → drop 65 (hex_of commit ++ 46 ∷ end) ≡ end
  digits_behind end = ap (λ k. drop k (hex_of commit ++ 46 ∷ end)) (let e : 65 ≡ length (hex_of commit) + 1 = omega (arith, digits_whole commit is) in e) ∙ drop-append-add (hex_of commit) (46 ∷ end) 1

  deployed : (rest : Path) → place (deploy_path os commit serial ++ rest) ≡ in_deployment os commit serial rest
  deployed rest = unfold deploy_path in
      let p = deploy_path os commit serial ++ rest in
      let id = hex_of commit ++ (46 ∷ decimal serial) in
      let n = digits_value 10 (take (length id - 72) (drop 65 id)) in
      deploy-dispatch os id rest
      ∙ deployed-parts os id rest p
      ∙ ap (λ s. if same_path (origin_path os s n ++ rest) p then Origin os s n else deployment_at os s (digits_value 10 (drop 65 id)) rest p) (front_sum (46 ∷ decimal serial))
      ∙ ap (λ b. if b then Origin os commit n else deployment_at os commit (digits_value 10 (drop 65 id)) rest p) (same_path-apart (origin_path os commit n ++ rest) p (not_origin os commit serial n rest less))
      ∙ ap (λ d. deployment_at os commit (digits_value 10 d) rest p) (digits_behind (decimal serial))
      ∙ ap (λ k. deployment_at os commit k rest p) (value serial less)
      ∙ only_at-self p (in_deployment os commit serial rest)

  pub place-deployment : (rest : Path) → IsOutsideEtc rest → place (deploy_path os commit serial ++ rest) ≡ Deployment os commit serial rest
  place-deployment rest outside = deployed rest ∙ in_deployment-outside os commit serial rest outside

  pub place-etc : (rest : Path) → place (deploy_path os commit serial ++ codes "etc" ∷ rest) ≡ Etc os commit serial rest
  place-etc rest = deployed (codes "etc" ∷ rest)

  pub place-origin_in : (rest : Path) → place (origin_path os commit serial ++ rest) ≡ Origin os commit serial
  place-origin_in rest = unfold origin_path in
      let p = origin_path os commit serial ++ rest in
      let h = hex_of commit in
      let d = decimal serial in
      let id = h ++ ((46 ∷ d) ++ codes ".origin") in
      let size : length id - 72 ≡ length d = omega (arith, length-append h ((46 ∷ d) ++ codes ".origin"), length-append d (codes ".origin"), digits_whole commit is) in
      let digits : take (length id - 72) (drop 65 id) ≡ d = ap (λ k. take k (drop 65 id)) size ∙ ap (take (length d)) (digits_behind (d ++ codes ".origin")) ∙ take-append_seam d (codes ".origin") in
      let n = digits_value 10 (take (length id - 72) (drop 65 id)) in
      deploy-dispatch os id rest
      ∙ deployed-parts os id rest p
      ∙ ap (λ s. if same_path (origin_path os s n ++ rest) p then Origin os s n else deployment_at os s (digits_value 10 (drop 65 id)) rest p) (front_sum ((46 ∷ d) ++ codes ".origin"))
      ∙ ap (λ k. if same_path (origin_path os commit k ++ rest) p then Origin os commit k else deployment_at os commit (digits_value 10 (drop 65 id)) rest p) (ap (digits_value 10) digits ∙ value serial less)
      ∙ ap (λ b. if b then Origin os commit serial else deployment_at os commit (digits_value 10 (drop 65 id)) rest p) (same_path-self p)

  pub place-origin : place (origin_path os commit serial) ≡ Origin os commit serial
  place-origin = ap place (sym (append-nil (origin_path os commit serial))) ∙ place-origin_in []

-- the record, the boot links, the loader, kernels and checkouts
pub place-staged : place staged_path ≡ Staged
unfolding place ostree_place
place-staged = only_at-self staged_path Staged

pub place-boot_link_stage : place boot_link_stage_path ≡ BootLinkStage
unfolding place ostree_place boot_links_place
place-boot_link_stage = only_at-self boot_link_stage_path BootLinkStage

one_digit : (n : ℕ) → n < 10 → length (decimal n) ≡ 1
one_digit n less = omega (arith, (decimal_is_IsNumeral n (omega (arith, less))).0.0, length-decimal-le 1 n (omega arith) less (omega (arith, less)))

boot-dispatch : (digits : List ℕ) (rest : Path) → place (codes "ostree" ∷ (codes "boot." ++ digits) ∷ rest) ≡ boot_links_place (codes "ostree" ∷ (codes "boot." ++ digits) ∷ rest) (codes "boot." ++ digits) rest
unfolding place ostree_place
boot-dispatch digits rest = refl

pub place-boot_link : (version : ℕ) → version < 10 → place (boot_link_path version) ≡ BootLink version
place-boot_link version less = unfold boot_link_path in
    let p = boot_link_path version in
    let d = decimal version in
    boot-dispatch d []
    ∙ links-six d [] p (one_digit version less)
    ∙ ap (λ n. boot_link_at n p) (value version (omega (arith, less)))
    ∙ only_at-self p (BootLink version)

pub place-boot_folder : (version sub : ℕ) (rest : Path) → version < 10 → sub < 10 → place (boot_folder_path version sub ++ rest) ≡ BootFolder version sub rest
place-boot_folder version sub rest less small = unfold boot_folder_path in
    let p = boot_folder_path version sub ++ rest in
    let d = decimal version in
    boot-dispatch (d ++ (46 ∷ decimal sub)) rest
    ∙ links-eight d (decimal sub) rest p (one_digit version less)
    ∙ ap (λ n. boot_folder_at n (digits_value 10 (decimal sub)) rest p) (value version (omega (arith, less)))
    ∙ ap (λ n. boot_folder_at version n rest p) (value sub (omega (arith, small)))
    ∙ only_at-self p (BootFolder version sub rest)

pub place-loader : place loader_path ≡ Loader
unfolding place boot_place
place-loader = only_at-self loader_path Loader

pub place-loader_stage : place loader_stage_path ≡ LoaderStage
unfolding place boot_place
place-loader_stage = only_at-self loader_stage_path LoaderStage

pub place-loader_folder : (version : ℕ) (rest : Path) → version < 10 → place (loader_folder_path version ++ rest) ≡ LoaderFolder version rest
place-loader_folder version rest less = unfold loader_folder_path in
    let p = loader_folder_path version ++ rest in
    loader-eight (decimal version) rest p (one_digit version less) refl
    ∙ ap (λ n. loader_folder_at n rest p) (value version (omega (arith, less)))
    ∙ only_at-self p (LoaderFolder version rest)

kernel-dispatch : (folder : Name) (rest : Path) → place (codes "boot" ∷ codes "ostree" ∷ folder ∷ rest)
    ≡ kernel_at (take (length folder - 65) folder) (sum_of (drop (length folder - 64) folder)) rest (codes "boot" ∷ codes "ostree" ∷ folder ∷ rest)
unfolding place boot_place kernel_place
kernel-dispatch folder rest = refl

pub place-kernel : (os : Name) (bootcsum : List ℕ) (rest : Path) → IsSum bootcsum → place (kernel_path os bootcsum ++ rest) ≡ KernelCopy os bootcsum rest
place-kernel os bootcsum rest is = unfold kernel_path in
    let p = kernel_path os bootcsum ++ rest in
    let h = hex_of bootcsum in
    let f = kernel_folder os bootcsum in
    let size : length f ≡ length os + 65 = omega (arith, length-append os (45 ∷ h), digits_whole bootcsum is) in
    let front : take (length f - 65) f ≡ os = ap (λ k. take k f) (let e : length f - 65 ≡ length os = omega (arith, size) in e) ∙ take-append_seam os (45 ∷ h) in
    let back : drop (length f - 64) f ≡ h = ap (λ k. drop k f) (let e : length f - 64 ≡ length os + 1 = omega (arith, size) in e) ∙ drop-append-add os (45 ∷ h) 1 in
    kernel-dispatch f rest
    ∙ ap (λ o. kernel_at o (sum_of (drop (length f - 64) f)) rest p) front
    ∙ ap (λ d. kernel_at os (sum_of d) rest p) back
    ∙ ap (λ s. kernel_at os s rest p) (sum_of-hex_of bootcsum is)
    ∙ only_at-self p (KernelCopy os bootcsum rest)

pub place-checkout : (name : Name) (rest : Path) → place (checkout_path name ++ rest) ≡ Checkout name rest
unfolding place checkout_place
place-checkout name rest = only_at-self (checkout_path name ++ rest) (Checkout name rest)

-- no other path has the place
if_both : (P : Place → Type 0) (b : Bool) (x y : Place) → P x → P y → P (if b then x else y)
if_both P true x y h g = h
if_both P false x y h g = g

at : (path p : Path) (x : Place) → IsAt x path → IsAt (only_at path p x) p
at path p x is = by (same_path path p) refl
  where
    by : (b : Bool) → same_path path p ≡ b → IsAt (if b then x else Other p) p
    by true e = subst (IsAt x) ((same_path-Decides path p).0 e) is
    by false e = refl

ref-back : (p rest : Path) → IsAt (ref_place p rest) p
unfolding ref_place
ref-back p [] = refl
ref-back p (h ∷ []) = refl
ref-back p (h ∷ part ∷ parts) = let name = name_of (part ∷ parts) in if_both (λ x. IsAt x p) (same_name h (codes "heads")) (ref_at name p) (Other p) (at (ref_path name) p (Ref name) refl) refl

kind-back : (kind : Kind) (sum : List ℕ) (p : Path) → IsAt (object_at kind sum p) p
kind-back kind sum p = at (object_path kind sum) p (Object kind sum) refl

object_of-back : (digits end : List ℕ) (p : Path) → IsAt (object_of digits end p) p
object_of-back digits end p =
    let P : Place → Type 0 = λ x. IsAt x p in
    let s = sum_of digits in
    if_both P (same_name end (ending Commit)) _ _ (kind-back Commit s p)
    (if_both P (same_name end (ending DirTree)) _ _ (kind-back DirTree s p)
    (if_both P (same_name end (ending DirMeta)) _ _ (kind-back DirMeta s p)
    (if_both P (same_name end (ending File)) _ _ (kind-back File s p) refl)))

object-back : (p rest : Path) → IsAt (object_place p rest) p
unfolding object_place
object-back p [] = refl
object-back p (folder ∷ []) = at (in_repo (codes "objects" ∷ folder ∷ [])) p (ObjectsFolder folder) refl
object-back p (folder ∷ file ∷ []) = object_of-back (folder ++ take 62 file) (drop 62 file) p
object-back p (folder ∷ file ∷ x ∷ rest) = refl

mark-back : (p rest : Path) → IsAt (mark_place p rest) p
unfolding mark_place
mark-back p [] = refl
mark-back p (file ∷ []) = let s = sum_of (take 64 file) in at (mark_path s) p (Mark s) refl
mark-back p (file ∷ x ∷ rest) = refl

stage-back : (p rest : Path) → IsAt (stage_place p rest) p
unfolding stage_place
stage-back p [] = refl
stage-back p (who ∷ rest) = let actor = digits_value 10 (drop 6 who) in at (stage_path actor ++ rest) p (Stage actor) (rest, refl)

repo-back : (p rest : Path) → IsAt (repo_place p rest) p
unfolding repo_place
repo-back p [] = refl
repo-back p (part ∷ rest) =
    let P : Place → Type 0 = λ x. IsAt x p in
    if_both P (same_name part (codes "objects")) _ _ (object-back p rest)
    (if_both P (same_name part (codes "refs")) _ _ (ref-back p rest)
    (if_both P (same_name part (codes "tmp")) _ _ (stage-back p rest)
    (if_both P (same_name part (codes "state")) _ _ (mark-back p rest)
    (if_both P (same_name part (codes "config")) _ _ (at config_path p Config refl)
    (if_both P (same_name part (codes "summary")) _ _ (at summary_path p Summary refl) refl)))))

origin-back : (os : Name) (commit : List ℕ) (serial : ℕ) (rest p : Path) (x : Place) → IsAt x p → IsAt (if same_path (origin_path os commit serial ++ rest) p then Origin os commit serial else x) p
origin-back os commit serial rest p x is = by (same_path (origin_path os commit serial ++ rest) p) refl
  where
    by : (b : Bool) → same_path (origin_path os commit serial ++ rest) p ≡ b → IsAt (if b then Origin os commit serial else x) p
    by true e = (rest, sym ((same_path-Decides (origin_path os commit serial ++ rest) p).0 e))
    by false e = is

in_deployment-back : (os : Name) (commit : List ℕ) (serial : ℕ) (rest : Path) → IsAt (in_deployment os commit serial rest) (deploy_path os commit serial ++ rest)
in_deployment-back os commit serial [] = refl
in_deployment-back os commit serial (x ∷ rest) = by (same_name x (codes "etc")) refl
  where
    by : (b : Bool) → same_name x (codes "etc") ≡ b → IsAt (if b then Etc os commit serial rest else Deployment os commit serial (x ∷ rest)) (deploy_path os commit serial ++ x ∷ rest)
    by true e = ap (λ y. deploy_path os commit serial ++ y ∷ rest) ((same_name-Decides x (codes "etc")).0 e)
    by false e = refl

deployed-back : (os id : Name) (rest p : Path) → IsAt (deployed_place os id rest p) p
unfolding deployed_place
deployed-back os id rest p =
    let commit = sum_of (take 64 id) in
    let serial = digits_value 10 (drop 65 id) in
    origin-back os commit (digits_value 10 (take (length id - 72) (drop 65 id))) rest p (deployment_at os commit serial rest p)
    (at (deploy_path os commit serial ++ rest) p (in_deployment os commit serial rest) (in_deployment-back os commit serial rest))

deploy-back : (p rest : Path) → IsAt (deploy_place p rest) p
unfolding deploy_place
deploy-back p [] = refl
deploy-back p (os ∷ []) = refl
deploy-back p (os ∷ d ∷ []) = refl
deploy-back p (os ∷ d ∷ id ∷ rest) = if_both (λ x. IsAt x p) (same_name d (codes "deploy")) _ _ (deployed-back os id rest p) refl

boot_links-back : (p : Path) (part : Name) (rest : Path) → IsAt (boot_links_place p part rest) p
unfolding boot_links_place
boot_links-back p part rest =
    let P : Place → Type 0 = λ x. IsAt x p in
    let version = digits_value 10 (take 1 (drop 5 part)) in
    let sub = digits_value 10 (drop 7 part) in
    if_both P (length part == 6) _ _ (let n = digits_value 10 (drop 5 part) in at (boot_link_path n) p (BootLink n) refl)
    (if_both P (same_name (take 1 (drop 6 part)) (codes ".")) _ _ (at (boot_folder_path version sub ++ rest) p (BootFolder version sub rest) refl)
    (at boot_link_stage_path p BootLinkStage refl))

ostree-back : (p rest : Path) → IsAt (ostree_place p rest) p
unfolding ostree_place
ostree-back p [] = refl
ostree-back p (part ∷ rest) =
    let P : Place → Type 0 = λ x. IsAt x p in
    if_both P (same_name part (codes "repo")) _ _ (repo-back p rest)
    (if_both P (same_name part (codes "deploy")) _ _ (deploy-back p rest)
    (if_both P (same_name part (codes "staged")) _ _ (at staged_path p Staged refl) (boot_links-back p part rest)))

kernel-back : (p rest : Path) → IsAt (kernel_place p rest) p
unfolding kernel_place
kernel-back p [] = refl
kernel-back p (folder ∷ rest) =
    let os = take (length folder - 65) folder in
    let sum = sum_of (drop (length folder - 64) folder) in
    at (kernel_path os sum ++ rest) p (KernelCopy os sum rest) refl

boot-back : (p rest : Path) → IsAt (boot_place p rest) p
unfolding boot_place
boot-back p [] = refl
boot-back p (part ∷ rest) =
    let P : Place → Type 0 = λ x. IsAt x p in
    if_both P (length part == 8) _ _ (let n = digits_value 10 (drop 7 part) in at (loader_folder_path n ++ rest) p (LoaderFolder n rest) refl)
    (if_both P (same_name part (codes "loader")) _ _ (at loader_path p Loader refl)
    (if_both P (same_name part (codes "ostree")) _ _ (kernel-back p rest) (at loader_stage_path p LoaderStage refl)))

checkout-back : (p rest : Path) → IsAt (checkout_place p rest) p
unfolding checkout_place
checkout-back p [] = refl
checkout-back p (name ∷ rest) = at (checkout_path name ++ rest) p (Checkout name rest) refl

pub place-back : (p : Path) → IsAt (place p) p
unfolding place
place-back [] = refl
place-back (top ∷ rest) =
    let p : Path = top ∷ rest in
    let P : Place → Type 0 = λ x. IsAt x p in
    if_both P (same_name top (codes "ostree")) _ _ (ostree-back p rest)
    (if_both P (same_name top (codes "boot")) _ _ (boot-back p rest)
    (if_both P (same_name top (codes "checkout")) _ _ (checkout-back p rest) refl))

-- paths in other places are other paths
pub place-apart : (p q : Path) → place p ≢ place q → p ≢ q
place-apart p q apart e = apart (ap place e)

-- so a path tells the name
pub ref_path-injective : (a b : List ℕ) → ref_path a ≡ ref_path b → a ≡ b
ref_path-injective a b e = let x : Ref a ≡ Ref b = sym (place-ref a) ∙ ap place e ∙ place-ref b in cc

pub object_path-injective : (k l : Kind) (a b : List ℕ) → IsSum a → IsSum b → object_path k a ≡ object_path l b → (k ≡ l) × (a ≡ b)
object_path-injective k l a b is also e = let x : Object k a ≡ Object l b = sym (place-object k a is) ∙ ap place e ∙ place-object l b also in (cc, cc)

pub mark_path-injective : (a b : List ℕ) → IsSum a → IsSum b → mark_path a ≡ mark_path b → a ≡ b
mark_path-injective a b is also e = let x : Mark a ≡ Mark b = sym (place-mark a is) ∙ ap place e ∙ place-mark b also in cc

pub stage_path-injective : (a b : ℕ) → a < 2 ^ 64 → b < 2 ^ 64 → stage_path a ≡ stage_path b → a ≡ b
stage_path-injective a b less also e = let x : Stage a ≡ Stage b = sym (place-stage a [] less) ∙ ap (λ p. place (p ++ [])) e ∙ place-stage b [] also in cc

pub deploy_path-injective : (o p : Name) (a b : List ℕ) (m n : ℕ) → IsSum a → IsSum b → m < 2 ^ 64 → n < 2 ^ 64 → deploy_path o a m ≡ deploy_path p b n → (o ≡ p) × (a ≡ b) × (m ≡ n)
deploy_path-injective o p a b m n is also less small e =
    let x : Deployment o a m [] ≡ Deployment p b n [] = sym (place-deployment o a m is less [] tt) ∙ ap (λ q. place (q ++ [])) e ∙ place-deployment p b n also small [] tt in
    (cc, cc, cc)

pub origin_path-injective : (o p : Name) (a b : List ℕ) (m n : ℕ) → IsSum a → IsSum b → m < 2 ^ 64 → n < 2 ^ 64 → origin_path o a m ≡ origin_path p b n → (o ≡ p) × (a ≡ b) × (m ≡ n)
origin_path-injective o p a b m n is also less small e = let x : Origin o a m ≡ Origin p b n = sym (place-origin o a m is less) ∙ ap place e ∙ place-origin p b n also small in (cc, cc, cc)

pub kernel_path-injective : (o p : Name) (a b : List ℕ) → IsSum a → IsSum b → kernel_path o a ≡ kernel_path p b → (o ≡ p) × (a ≡ b)
kernel_path-injective o p a b is also e = let x : KernelCopy o a [] ≡ KernelCopy p b [] = sym (place-kernel o a [] is) ∙ ap (λ q. place (q ++ [])) e ∙ place-kernel p b [] also in (cc, cc)
