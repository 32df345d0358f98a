-- The least of what is wrong, with one row more.
use Rattle.std.proofs.Common.{◌≡◌, ◌≢◌, inl, inr, ⊎_elim, ℕ, suc, ◌<◌, ◌+◌, arith, refl, sym, ◌∙◌, ap, subst, List, [], ◌∷◌, ◌++◌, length, take, get_or, Contains, Option, Some, None}
use Rattle.std.specs.Cmp.Lexicographic.{slice_cmp}
use Rattle.std.specs.Ordering.{nat_cmp}
use Rattle.std.proofs.Math.Seq.{take-suc}
use Rattle.std.proofs.lemmas.List.Elements.{Contains-append_left, Contains-push, Contains-push_cases}
use Rattle.ost_types.specs.declared.limits.Limits.{Limits}
use Rattle.ost_types.specs.Path.{Name, Path, path_cmp}
use Rattle.fs_trait.specs.View.{Disk}
use Rattle.boot_read.specs.declared.row.BootRow.{BootRow}
use Rattle.boot_read.specs.Rows.{AreRowsOf}
use Rattle.tree_walk.specs.Standing.{AreRight}
use Rattle.deployment_check.specs.declared.judgement.Judgement.{Judgement}
use Rattle.deployment_check.specs.declared.judgement.Judgement.TheVariants as judgement
use Rattle.deployment_check.specs.Deployments.{IsId, home_of}
use Rattle.deployment_check.specs.Judging.{IsNoDeployment, Judges}
use Rattle.deployment_check.proofs.Once.{one_judgement}
use Rattle.sys_open.specs.declared.fault.Why.{Why}
use Rattle.sys_open.specs.declared.fault.Why.TheVariants.{KernelCopy, NotCheckout, WrongKind}
use Rattle.sys_open.specs.declared.judged.Broken.{Broken}
use Rattle.sys_open.specs.declared.judged.Faults.{Faults}
use Rattle.sys_open.specs.Booted.{IsBroken}
use Rattle.sys_open.specs.Judged.{Adds, AddsBroken, AddsUnfit, AreFaultsOf, ComesFirst, IsBrokenAs, IsFit, IsLeastOf, IsLesserOf, IsUnbroken, IsUnfitAs, StandsFirst}
use Rattle.sys_open.proofs.LeftOvers.{row_id}
use Rattle.sys_open.proofs.Orders.{less_trans, name_trans, not_less_itself, not_name_itself}

module _ {V : Type 0} (Wrong Before : BootRow → V → Type 0) (Right : BootRow → Type 0) (done : List BootRow) (row : BootRow) where
  abbrev Least : List BootRow → Option V → Type 0
  Least = IsLeastOf Wrong Before Right

  abbrev more : List BootRow
  more = done ++ row ∷ []

  -- nothing is wrong with it
  pub right_next : Right row → (o : Option V) → IsLeastOf Wrong Before Right done o → IsLeastOf Wrong Before Right (done ++ row ∷ []) o
  right_next right None all = λ other among. ⊎_elim (all other) (λ e. subst Right e right) (Contains-push_cases done row other among)
  right_next right (Some v) least = (
    (least.0.0, Contains-append_left done (row ∷ []) least.0.0 least.0.1, least.0.2),
    λ other among before. ⊎_elim (λ was. least.1 other was before) (λ e. subst Right e right) (Contains-push_cases done row other among),
  )

  module _ (v : V) (wrong : Wrong row v) (itself : Before row v → ⊥) where
    first : ((other : BootRow) → Contains done other → Before other v → Right other) → Least more (Some v)
    first all = (
      (row, Contains-push done row, wrong),
      λ other among before. ⊎_elim (λ was. all other was before) (λ e. absurd (itself (subst (λ r. Before r v) (sym e) before))) (Contains-push_cases done row other among),
    )

    -- it is the first that is wrong, or comes before the one that was
    pub wrong_first : IsLeastOf Wrong Before Right done None → IsLeastOf Wrong Before Right (done ++ row ∷ []) (Some v)
    wrong_first all = first (λ other was before. all other was)

    pub wrong_before : (m : V) → ((r : BootRow) → Before r v → Before r m) → IsLeastOf Wrong Before Right done (Some m) → IsLeastOf Wrong Before Right (done ++ row ∷ []) (Some v)
    wrong_before m less least = first (λ other was before. least.1 other was (less other before))

  -- or behind it
  pub wrong_later : (m : V) → (Before row m → ⊥) → IsLeastOf Wrong Before Right done (Some m) → IsLeastOf Wrong Before Right (done ++ row ∷ []) (Some m)
  wrong_later m none least = (
    (least.0.0, Contains-append_left done (row ∷ []) least.0.0 least.0.1, least.0.2),
    λ other among before. ⊎_elim (λ was. least.1 other was before) (λ e. absurd (none (subst (λ r. Before r m) (sym e) before))) (Contains-push_cases done row other among),
  )

module _ (limits : Limits) (d : Disk) (done : List BootRow) (row : BootRow) where
  abbrev Unfit : List BootRow → Option Name → Type 0
  Unfit = IsLeastOf (IsUnfitAs limits d) ComesFirst (IsFit limits d)

  abbrev Unwhole : List BootRow → Option Broken → Type 0
  Unwhole = IsLeastOf (IsBrokenAs limits d) StandsFirst (IsUnbroken limits d)

  abbrev with_row : List BootRow
  with_row = done ++ row ∷ []

  -- its commit can't be deployed
  module _ (none : IsNoDeployment limits d row.id.commit) where
    unfit_least : (old : Option Name) (file : Name) → IsLesserOf (slice_cmp nat_cmp) (λ f. f) old row.file file → Unfit done old → Unfit with_row (Some file)
    unfit_least None file is least =
        subst (λ x. Unfit with_row (Some x)) (sym is) (wrong_first (IsUnfitAs limits d) ComesFirst (IsFit limits d) done row row.file (refl, none) (not_name_itself row.file) least)
    unfit_least (Some m) file (inl (less, is)) least =
        subst (λ x. Unfit with_row (Some x)) (sym is)
        (wrong_before (IsUnfitAs limits d) ComesFirst (IsFit limits d) done row row.file (refl, none) (not_name_itself row.file) m (λ r before. name_trans r.file row.file m before less) least)
    unfit_least (Some m) file (inr (later, is)) least =
        subst (λ x. Unfit with_row (Some x)) (sym is) (wrong_later (IsUnfitAs limits d) ComesFirst (IsFit limits d) done row m later least)

  -- this is told of its deployment
  module _ (at : Path) (why : Why) (is_broken : IsBroken limits d row at why) where
    abbrev here : Broken
    here = record { home = home_of row.id; at = at; why = why }

    broken_least : (old : Option Broken) (one : Broken) → IsLesserOf path_cmp (λ (b : Broken). b.home) old here one → Unwhole done old → Unwhole with_row (Some one)
    broken_least None one is least =
        subst (λ x. Unwhole with_row (Some x)) (sym is) (wrong_first (IsBrokenAs limits d) StandsFirst (IsUnbroken limits d) done row here (refl, is_broken) (not_less_itself (home_of row.id)) least)
    broken_least (Some m) one (inl (less, is)) least =
        subst (λ x. Unwhole with_row (Some x)) (sym is)
        (wrong_before (IsBrokenAs limits d) StandsFirst (IsUnbroken limits d) done row here (refl, is_broken) (not_less_itself (home_of row.id)) m (λ r before. less_trans (home_of r.id) (home_of row.id) m.home before less) least)
    broken_least (Some m) one (inr (later, is)) least =
        subst (λ x. Unwhole with_row (Some x)) (sym is) (wrong_later (IsBrokenAs limits d) StandsFirst (IsUnbroken limits d) done row m later least)

-- ---- what is told of one row more

module _ (limits : Limits) (d : Disk) (right : AreRight limits.content d) (done : List BootRow) (row : BootRow) (is : IsId row.id) where
  -- where the commit can be deployed, that isn't told
  fit : (found : Judgement) → found ≢ judgement.NoDeployment → Judges limits d row.id row.bootcsum found → IsFit limits d row
  fit found other judged none = other (one_judgement limits d row.id row.bootcsum found judgement.NoDeployment is right judged none)

  adds_unfit : (old new : Faults) → AddsUnfit old row new → IsNoDeployment limits d row.id.commit → AreFaultsOf limits d done old → AreFaultsOf limits d (done ++ row ∷ []) new
  adds_unfit old new adds none faults = record {
    unfit = subst (IsLeastOf (IsUnfitAs limits d) ComesFirst (IsFit limits d) (done ++ row ∷ [])) (sym (ap (λ (f : Faults). f.unfit) adds.is))
        (unfit_least limits d done row none old.unfit adds.file adds.lesser faults.unfit);
    broken = subst (IsLeastOf (IsBrokenAs limits d) StandsFirst (IsUnbroken limits d) (done ++ row ∷ [])) (sym (ap (λ (f : Faults). f.broken) adds.is))
        (right_next (IsBrokenAs limits d) StandsFirst (IsUnbroken limits d) done row (inr none) old.broken faults.broken);
  }

  adds_broken : (old new : Faults) (at : Path) (why : Why) → AddsBroken old row at why new → IsBroken limits d row at why → IsFit limits d row → AreFaultsOf limits d done old → AreFaultsOf limits d (done ++ row ∷ []) new
  adds_broken old new at why adds is_broken can faults = record {
    unfit = subst (IsLeastOf (IsUnfitAs limits d) ComesFirst (IsFit limits d) (done ++ row ∷ [])) (sym (ap (λ (f : Faults). f.unfit) adds.is))
        (right_next (IsUnfitAs limits d) ComesFirst (IsFit limits d) done row can old.unfit faults.unfit);
    broken = subst (IsLeastOf (IsBrokenAs limits d) StandsFirst (IsUnbroken limits d) (done ++ row ∷ [])) (sym (ap (λ (f : Faults). f.broken) adds.is))
        (broken_least limits d done row at why is_broken old.broken adds.broken adds.lesser faults.broken);
  }

  pub faults_next : (old new : Faults) (found : Judgement) → Judges limits d row.id row.bootcsum found → Adds old row found new → AreFaultsOf limits d done old → AreFaultsOf limits d (done ++ row ∷ []) new
  faults_next old new judgement.Whole judged adds faults = subst (AreFaultsOf limits d (done ++ row ∷ [])) (sym adds) (record {
    unfit = right_next (IsUnfitAs limits d) ComesFirst (IsFit limits d) done row (fit judgement.Whole (λ e. cc) judged) old.unfit faults.unfit;
    broken = right_next (IsBrokenAs limits d) StandsFirst (IsUnbroken limits d) done row (inl judged) old.broken faults.broken;
  })
  faults_next old new judgement.NoDeployment judged adds faults = adds_unfit old new adds judged faults
  faults_next old new (judgement.NotCheckout at) judged adds faults =
      adds_broken old new at NotCheckout adds (record { found = judgement.NotCheckout at; judged = judged; told = (refl, refl) }) (fit (judgement.NotCheckout at) (λ e. cc) judged) faults
  faults_next old new (judgement.WrongKind at) judged adds faults =
      adds_broken old new at WrongKind adds (record { found = judgement.WrongKind at; judged = judged; told = (refl, refl) }) (fit (judgement.WrongKind at) (λ e. cc) judged) faults
  faults_next old new (judgement.KernelCopy at) judged adds faults =
      adds_broken old new at KernelCopy adds (record { found = judgement.KernelCopy at; judged = judged; told = (refl, refl) }) (fit (judgement.KernelCopy at) (λ e. cc) judged) faults

pub none_yet : (limits : Limits) (d : Disk) → AreFaultsOf limits d [] (record { unfit = None; broken = None })
none_yet limits d = record { unfit = λ row among. absurd (nothing row among); broken = λ row among. absurd (nothing row among) }
  where
    nothing : (row : BootRow) → Contains [] row → ⊥
    nothing row (k, less, is) = omega (arith, less)

-- the rows up to the next one
next : (i : ℕ) → i + 1 ≡ suc i
next i = omega arith

rows_next : (rows : List BootRow) (i : ℕ) (row : BootRow) → i < length rows → row ≡ get_or rows i row → take (i + 1) rows ≡ take i rows ++ row ∷ []
rows_next rows i row less is = ap (λ n. take n rows) (next i) ∙ take-suc rows i row less ∙ ap (λ z. take i rows ++ z ∷ []) (sym is)

pub faults_more : (limits : Limits) (d : Disk) → AreRight limits.content d → (rows : List BootRow) → AreRowsOf d rows → (i : ℕ) (row : BootRow) → i < length rows → row ≡ get_or rows i row
    → (old new : Faults) (found : Judgement) → Judges limits d row.id row.bootcsum found → Adds old row found new → AreFaultsOf limits d (take i rows) old → AreFaultsOf limits d (take (i + 1) rows) new
faults_more limits d right rows are i row inside is old new found judged adds faults =
    subst (λ done. AreFaultsOf limits d done new) (sym (rows_next rows i row inside is))
    (faults_next limits d right (take i rows) row (row_id d rows row (i, inside, sym is) are) old new found judged adds faults)
