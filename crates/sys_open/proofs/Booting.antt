-- From what is wrong with the deployments of the list to what an opening tells.
use Rattle.std.proofs.Common.{◌≡◌, inl, inr, ℕ, refl, sym, ◌∙◌, ap, subst, List, Contains, codes, Some, None, Err}
use Rattle.std.specs.declared.cmp.Ordering.TheVariants.{Less}
use Rattle.ost_types.specs.declared.limits.Limits.{Limits}
use Rattle.ost_types.specs.declared.object.Kind.TheVariants.{File}
use Rattle.ost_types.specs.Path.{Name, Path, path_cmp}
use Rattle.fs_trait.specs.declared.types.FsErr.{FsErr}
use Rattle.fs_trait.specs.declared.types.FsErr.TheVariants as err
use Rattle.fs_trait.specs.declared.types.Value.TheVariants.{Absent}
use Rattle.fs_trait.specs.Effect.{OfNone}
use Rattle.fs_trait.specs.Seen.{seen}
use Rattle.fs_trait.specs.View.{Disk}
use Rattle.repo_layout.specs.BootPaths.{entry_path, loader_folder_path}
use Rattle.repo_model.specs.Trees.{name_of}
use Rattle.tree_walk.specs.Standing.{AreRight, IsLeaf}
use Rattle.boot_model.specs.Listing.{Selects}
use Rattle.boot_read.specs.declared.row.BootRow.{BootRow}
use Rattle.boot_read.specs.Rows.{AreRowsOf}
use Rattle.deployment_check.specs.Deployments.{IsWholeDeployment, home_of}
use Rattle.sys_open.specs.declared.fault.OpenFault.{OpenFault}
use Rattle.sys_open.specs.declared.fault.OpenFault.TheVariants as fault
use Rattle.sys_open.specs.declared.fault.Why.TheVariants.{NoDeployment}
use Rattle.sys_open.specs.declared.judged.Broken.{Broken}
use Rattle.sys_open.specs.Booted.{BootedRow}
use Rattle.sys_open.specs.Damages.{AreSound, BootsWhole, Check, Deployments}
use Rattle.sys_open.specs.Faults.{IsInterruption, IsRefusal}
use Rattle.sys_open.specs.Judged.{ComesFirst, IsBrokenAs, IsFit, IsLeastOf, IsUnbroken, IsUnfitAs, StandsFirst}
use Rattle.sys_open.specs.Opening.{ToldBy}
use Rattle.sys_open.proofs.Goods.{whole_rows}
use Rattle.sys_open.proofs.LeftOvers.{no_row}
use Rattle.sys_open.proofs.Orders.{less_names}

-- ---- what is known of the list and of the objects

module _ (d : Disk) (rows : List BootRow) (row : BootRow) (among : Contains rows row) where
  -- the disk selects a version where there is a row
  pub selects_some : AreRowsOf d rows → (loader : ℕ) × Selects d loader
  selects_some (inl (none, empty)) = absurd (no_row row (subst (λ l. Contains l row) empty among))
  selects_some (inr (loader, sub, selects, has, are)) = (loader, selects)

pub right_objects : (limits : Limits) (d : Disk) → AreSound limits d → AreRight limits.content d
right_objects limits d sound sum is leaf = sound.1 (name_of File sum) (record {
  sum = is;
  there = λ none. let no_ : IsLeaf (seen d Absent) = subst (λ z. IsLeaf (seen d z)) none leaf in no_;
})

-- ---- what is told

module _ (limits : Limits) (d : Disk) (rows : List BootRow) (are : AreRowsOf d rows) where
  abbrev row_of : (row : BootRow) → Contains rows row → BootedRow d
  row_of row among = record { rows = rows; are = are; row = row; among = among }

  pub unfit_told : (T : Type 0) (file : Name) (at : Path) → IsLeastOf (IsUnfitAs limits d) ComesFirst (IsFit limits d) rows (Some file)
      → ((loader : ℕ) → Selects d loader → at ≡ entry_path loader file) → ToldBy {T = T} Deployments limits d (Err (fault.Damaged at NoDeployment))
  unfit_told T file at (first, least) placed =
      let row = first.0 in
      let selected = selects_some d rows row first.1 are in
      let at_row : at ≡ entry_path selected.0 row.file = placed selected.0 selected.1 ∙ ap (entry_path selected.0) first.2.0 in
      inl (record {
        booted = row_of row first.1;
        loader = selected.0;
        selects = selected.1;
        path = at_row;
        told = refl;
        wrong = first.2.1;
        least = λ other among less. least other among (less_names (loader_folder_path selected.0) (codes "entries") other.file file (subst (λ p. path_cmp (entry_path selected.0 other.file) p ≡ Less) (placed selected.0 selected.1) less));
      })

  module _ (fit : IsLeastOf (IsUnfitAs limits d) ComesFirst (IsFit limits d) rows None) where
    whole : (row : BootRow) → Contains rows row → IsUnbroken limits d row → IsWholeDeployment limits d row.id row.bootcsum
    whole row among (inl is) = is
    whole row among (inr none) = absurd (fit row among none)

    pub broken_told : (T : Type 0) (b : Broken) → IsLeastOf (IsBrokenAs limits d) StandsFirst (IsUnbroken limits d) rows (Some b) → ToldBy {T = T} Deployments limits d (Err (fault.Damaged b.at b.why))
    broken_told T b (first, least) = inr (record {
      booted = row_of first.0 first.1;
      broken = first.2.1;
      fit = fit;
      least = λ other among less. whole other among (least other among (subst (λ p. path_cmp (home_of other.id) p ≡ Less) (sym first.2.0) less));
    })

    pub none_told : IsLeastOf (IsBrokenAs limits d) StandsFirst (IsUnbroken limits d) rows None → BootsWhole limits d
    none_told all = whole_rows limits d rows are (λ row among. whole row among (all row among))

-- ---- errors

pub none_interrupted : (at : Path) (e : FsErr) (f : OpenFault) → OfNone e → IsRefusal at e f → IsInterruption f
none_interrupted at err.Failed f named is = subst IsInterruption (sym is) tt
none_interrupted at err.NoMemory f named is = subst IsInterruption (sym is) tt
none_interrupted at err.Exists f named is = absurd named
none_interrupted at err.Missing f named is = absurd named
none_interrupted at err.NotFolder f named is = absurd named
none_interrupted at err.NotEmpty f named is = absurd named

pub interrupted_told : (T : Type 0) (check : Check) (limits : Limits) (d : Disk) (f : OpenFault) → IsInterruption f → ToldBy {T = T} check limits d (Err f)
interrupted_told T check limits d fault.Disk is = tt
interrupted_told T check limits d fault.NoMemory is = tt
interrupted_told T check limits d (fault.Damaged p why) is = absurd is
interrupted_told T check limits d (fault.Outside p) is = absurd is
