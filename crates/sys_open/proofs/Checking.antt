-- From what each check found to what an opening tells.
use Rattle.std.proofs.Common.{◌≡◌, ⊎_elim, ◌<◌, ℕ, true, false, refl, sym, ◌∙◌, ap, subst, arith, List, [], ◌∷◌, Some, None, Err, if◌then◌else◌}
use Rattle.std.specs.Prelude.{IsSome}
use Rattle.std.specs.BTreeMap.{get}
use Rattle.std.specs.Map.{lookup}
use Rattle.std.specs.Cmp.Lexicographic.{slice_cmp, texts_ties}
use Rattle.std.specs.Ordering.{nat_cmp, is_eq}
use Rattle.ost_types.specs.declared.limits.Limits.{Limits}
use Rattle.ost_types.specs.Path.{Path, is_below}
use Rattle.fs_trait.specs.declared.types.Value.{Value}
use Rattle.fs_trait.specs.declared.types.Value.TheVariants.{Absent, Folder, Link, File}
use Rattle.fs_trait.specs.View.{Disk}
use Rattle.fs_trait.specs.Seen.{seen, shows}
use Rattle.fs_trait.proofs.Claims.{reads_shows, is_below-before}
use Rattle.repo_layout.specs.Paths.{config_path, heads, ref_path}
use Rattle.repo_layout.specs.RefName.{parts_of}
use Rattle.repo_layout.specs.Refs.{is_leaf}
use Rattle.rely_guarantee.specs.State.{RefOf, Said, first}
use Rattle.rely_guarantee.specs.Disks.{IsLeaf, Says, Logical}
use Rattle.sys_open.specs.declared.fault.OpenFault.{OpenFault}
use Rattle.sys_open.specs.declared.fault.OpenFault.TheVariants as fault
use Rattle.sys_open.specs.declared.fault.Why.TheVariants.{BadConfig, BadRef, WrongKind}
use Rattle.layout_rules.specs.Checks as rules
use Rattle.layout_rules.specs.Checks.{HoldsRefs}
use Rattle.sys_open.specs.Damages.{Check, Clearable, Places, Config, RefFiles, Objects, Commits, BootList, Deployments, Staging, turn, HasConfig, IsGood, Passes}
use Rattle.sys_open.specs.Stored.{ToldOfStore}
use Rattle.sys_open.specs.Walk.{IsSoBelow, Looked, Walked}
use Rattle.sys_open.specs.Gathered.{Refs, Has, AreOf, HasAllBelow}
use Rattle.sys_open.specs.Opening.{Answers, ToldBy}

root : (q : Path) → is_below [] q ≡ true
unfolding is_below
root q = refl

-- what each walk and look tells of its check
pub places_told : (T : Type 0) (limits : Limits) (d : Disk) (f : OpenFault) → Walked {T = T} (rules.Asks rules.Kinds d) WrongKind [] (Err f) → ToldBy {T = T} Places limits d (Err f)
places_told T limits d fault.Disk walked = tt
places_told T limits d fault.NoMemory walked = tt
places_told T limits d (fault.Outside p) walked = walked
places_told T limits d (fault.Damaged p y) walked = (walked.0, record { wrong = walked.1.wrong; least = λ q less. walked.1.least q (root q) less })

pub config_told : (T : Type 0) (limits : Limits) (d : Disk) (f : OpenFault) → Looked {T = T} (HasConfig d) BadConfig config_path (Err f) → ToldBy {T = T} Config limits d (Err f)
config_told T limits d fault.Disk looked = tt
config_told T limits d fault.NoMemory looked = tt
config_told T limits d (fault.Outside p) looked = looked
config_told T limits d (fault.Damaged p y) looked = looked

pub refs_told : (T : Type 0) (limits : Limits) (d : Disk) (f : OpenFault) → Walked {T = T} (HoldsRefs d) BadRef heads (Err f) → ToldBy {T = T} RefFiles limits d (Err f)
refs_told T limits d fault.Disk walked = tt
refs_told T limits d fault.NoMemory walked = tt
refs_told T limits d (fault.Outside p) walked = walked
refs_told T limits d (fault.Damaged p y) walked = (walked.0, record { wrong = λ asks. walked.1.wrong (asks walked.1.below); least = λ q less below. walked.1.least q below less })

pub stages_told : (T : Type 0) (limits : Limits) (d : Disk) (f : OpenFault) → Walked {T = T} (Clearable d) WrongKind [] (Err f) → ToldBy {T = T} Staging limits d (Err f)
stages_told T limits d fault.Disk walked = tt
stages_told T limits d fault.NoMemory walked = tt
stages_told T limits d (fault.Outside p) walked = walked
stages_told T limits d (fault.Damaged p y) walked = (walked.0, record { wrong = walked.1.wrong; least = λ q less. walked.1.least q (root q) less })

pub places_pass : (limits : Limits) (d : Disk) → IsSoBelow (rules.Asks rules.Kinds d) [] → Passes Places limits d
places_pass limits d all p = all p (root p)

pub refs_pass : (limits : Limits) (d : Disk) → IsSoBelow (HoldsRefs d) heads → Passes RefFiles limits d
refs_pass limits d all p = all p

pub stages_pass : (limits : Limits) (d : Disk) → IsSoBelow (Clearable d) [] → Passes Staging limits d
stages_pass limits d all p = all p (root p)

-- the first check that fails
pub first_fault : (T U : Type 0) (check : Check) (limits : Limits) (d : Disk) (f : OpenFault) → ((c : Check) → turn c < turn check → Passes c limits d) → ToldBy {T = T} check limits d (Err f) → Answers {T = U} limits d (Err f)
first_fault T U check limits d fault.Disk before told = tt
first_fault T U check limits d fault.NoMemory before told = tt
first_fault T U check limits d (fault.Outside p) before told = told
first_fault T U check limits d (fault.Damaged p y) before told = record { check = check; fails = told; first = before }

module _ (limits : Limits) (d : Disk) where
  pub before_places : (c : Check) → turn c < 1 → Passes c limits d
  before_places Places less = absurd (omega (arith, less))
  before_places Config less = absurd (omega (arith, less))
  before_places RefFiles less = absurd (omega (arith, less))
  before_places Objects less = absurd (omega (arith, less))
  before_places Commits less = absurd (omega (arith, less))
  before_places BootList less = absurd (omega (arith, less))
  before_places Deployments less = absurd (omega (arith, less))
  before_places Staging less = absurd (omega (arith, less))

  module _ (places : Passes Places limits d) where
    pub before_config : (c : Check) → turn c < 2 → Passes c limits d
    before_config Places less = places
    before_config Config less = absurd (omega (arith, less))
    before_config RefFiles less = absurd (omega (arith, less))
    before_config Objects less = absurd (omega (arith, less))
    before_config Commits less = absurd (omega (arith, less))
    before_config BootList less = absurd (omega (arith, less))
    before_config Deployments less = absurd (omega (arith, less))
    before_config Staging less = absurd (omega (arith, less))

    module _ (config : Passes Config limits d) where
      pub before_refs : (c : Check) → turn c < 3 → Passes c limits d
      before_refs Places less = places
      before_refs Config less = config
      before_refs RefFiles less = absurd (omega (arith, less))
      before_refs Objects less = absurd (omega (arith, less))
      before_refs Commits less = absurd (omega (arith, less))
      before_refs BootList less = absurd (omega (arith, less))
      before_refs Deployments less = absurd (omega (arith, less))
      before_refs Staging less = absurd (omega (arith, less))

      module _ (refs : Passes RefFiles limits d) where
        before_objects : (c : Check) → turn c < 4 → Passes c limits d
        before_objects Places less = places
        before_objects Config less = config
        before_objects RefFiles less = refs
        before_objects Objects less = absurd (omega (arith, less))
        before_objects Commits less = absurd (omega (arith, less))
        before_objects BootList less = absurd (omega (arith, less))
        before_objects Deployments less = absurd (omega (arith, less))
        before_objects Staging less = absurd (omega (arith, less))

        before_commits : Passes Objects limits d → (c : Check) → turn c < 5 → Passes c limits d
        before_commits objects Places less = places
        before_commits objects Config less = config
        before_commits objects RefFiles less = refs
        before_commits objects Objects less = objects
        before_commits objects Commits less = absurd (omega (arith, less))
        before_commits objects BootList less = absurd (omega (arith, less))
        before_commits objects Deployments less = absurd (omega (arith, less))
        before_commits objects Staging less = absurd (omega (arith, less))

        pub before_list : Passes Objects limits d × Passes Commits limits d → (c : Check) → turn c < 6 → Passes c limits d
        before_list store Places less = places
        before_list store Config less = config
        before_list store RefFiles less = refs
        before_list store Objects less = store.0
        before_list store Commits less = store.1
        before_list store BootList less = absurd (omega (arith, less))
        before_list store Deployments less = absurd (omega (arith, less))
        before_list store Staging less = absurd (omega (arith, less))

        module _ (store : Passes Objects limits d × Passes Commits limits d) (list : Passes BootList limits d) where
          pub before_deployments : (c : Check) → turn c < 7 → Passes c limits d
          before_deployments Places less = places
          before_deployments Config less = config
          before_deployments RefFiles less = refs
          before_deployments Objects less = store.0
          before_deployments Commits less = store.1
          before_deployments BootList less = list
          before_deployments Deployments less = absurd (omega (arith, less))
          before_deployments Staging less = absurd (omega (arith, less))

          pub before_staging : Passes Deployments limits d → (c : Check) → turn c < 8 → Passes c limits d
          before_staging whole Places less = places
          before_staging whole Config less = config
          before_staging whole RefFiles less = refs
          before_staging whole Objects less = store.0
          before_staging whole Commits less = store.1
          before_staging whole BootList less = list
          before_staging whole Deployments less = whole
          before_staging whole Staging less = absurd (omega (arith, less))

          pub all_good : Passes Deployments limits d → Passes Staging limits d → IsGood limits d
          all_good whole staging Places = places
          all_good whole staging Config = config
          all_good whole staging RefFiles = refs
          all_good whole staging Objects = store.0
          all_good whole staging Commits = store.1
          all_good whole staging BootList = list
          all_good whole staging Deployments = whole
          all_good whole staging Staging = staging

        pub store_fault : (T U : Type 0) (f : OpenFault) → ToldOfStore {T = T} limits d (Err f) → Answers {T = U} limits d (Err f)
        store_fault T U fault.Disk told = tt
        store_fault T U fault.NoMemory told = tt
        store_fault T U (fault.Outside p) told = told
        store_fault T U (fault.Damaged p y) told = ⊎_elim
            (λ objects. record { check = Objects; fails = objects; first = before_objects })
            (λ commits. record { check = Commits; fails = commits.1; first = before_commits commits.0 })
            told

-- what the found refs say
first_found : (name : List ℕ) (es : List (List ℕ × List ℕ)) → first es (RefOf name) ≡ lookup (λ k. is_eq (slice_cmp nat_cmp name k)) es
first_found name [] = refl
first_found name (e ∷ es) = rw (texts_ties name e.0) (ap (λ r. if is_eq (slice_cmp nat_cmp name e.0) then Some e.1 else r) (first_found name es))

leaf_value : (d : Disk) (z : Value) → IsLeaf (seen d z) → is_leaf z ≡ true
leaf_value d (Link m t) leaf = refl
leaf_value d (File n) leaf = refl
leaf_value d Absent leaf = absurd leaf
leaf_value d (Folder m) leaf = absurd leaf

below_heads : (name : List ℕ) → is_below heads (ref_path name) ≡ true
unfolding ref_path
below_heads name = is_below-before heads (parts_of name)

says_of : (d : Disk) (refs : Refs) → AreOf d refs → HasAllBelow d heads refs → (name : List ℕ) (said : Said) → get (slice_cmp nat_cmp) refs name ≡ said → Says (RefOf name) said (shows d (ref_path name))
says_of d refs of all name (Some commit) is = let names = of name commit is in (names.sum, sym (reads_shows d (ref_path name)) ∙ names.file)
says_of d refs of all name None is = λ leaf.
    let has : Has refs name = all (ref_path name) (below_heads name) (leaf_value d (d.at (ref_path name)) leaf) name refl in
    let n : false ≡ true = subst IsSome is has in cc

pub refs_say : (d : Disk) (refs : Refs) (list : List (List ℕ × List ℕ)) → list ≡ refs.entries → AreOf d refs → HasAllBelow d heads refs → Logical d (first list)
refs_say d refs list are of all (RefOf name) =
    says_of d refs of all name (first list (RefOf name)) (sym (first_found name refs.entries) ∙ ap (λ l. first l (RefOf name)) (sym are))

pub none_of : (d : Disk) (refs : Refs) → refs.entries ≡ [] → AreOf d refs
none_of d refs none name commit is = let e : None ≡ Some commit = sym (ap (lookup (λ k. is_eq (slice_cmp nat_cmp name k))) none) ∙ is in cc
