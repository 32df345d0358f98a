-- The steps that make the tree are owed by no change that is published.
use Rattle.std.proofs.Common.{◌≡◌, ◌≤◌, ◌+◌, ℕ, Result, Ok, Err, refl, arith, subst}
use Rattle.std.specs.Prelude.{IfOk}
use Rattle.ost_types.specs.declared.memory.NoMemory.{NoMemory}
use Rattle.ost_types.specs.Path.{Name}
use Rattle.fs_trait.specs.declared.types.FsErr.{FsErr}
use Rattle.rely_guarantee.specs.Laws.{Kind, Quiet, Claim, IsOwing, IsMakeDurable, IsPublish, KeepsRoom, owed_by}
use Rattle.checkout_command.specs.declared.made.Made.{Made}
use Rattle.checkout_command.specs.declared.made.Made.TheVariants as made
use Rattle.checkout_command.specs.MakeSteps.{make_kind}

pub make_owes : (k : Made) (name : Name) → 0 ≡ owed_by (make_kind k name)
make_owes made.Nothing name = refl
make_owes made.Part name = refl
make_owes made.All name = refl

pub no_make_durable : (k : Made) (name : Name) → IsMakeDurable (make_kind k name) → ⊥
no_make_durable made.Nothing name is = is
no_make_durable made.Part name is = is
no_make_durable made.All name is = is

pub no_owing : (k : Made) (name : Name) → IsOwing (make_kind k name) → ⊥
no_owing made.Nothing name is = is
no_owing made.Part name is = is
no_owing made.All name is = is

no_publish : (k : Made) (name : Name) → IsPublish (make_kind k name) → ⊥
no_publish made.Nothing name is = is
no_publish made.Part name is = is
no_publish made.All name is = is

pub make_room : {T : Type 0} (k : Made) (name : Name) (next : Kind) (before now : ℕ) (r : Result T FsErr) → before ≤ now + 1 → KeepsRoom (make_kind k name) next before now r
make_room k name next before now r most = record {
  at_most_one = most;
  enough = λ owed some none. let o = make_owes k name in omega (arith, o, owed);
  ready = λ show. absurd (no_publish k name show);
}

-- whose folder it claims
pub kind_name : (k : Made) (of name : Name) → make_kind k of ≡ Claim name → of ≡ name
kind_name made.Nothing of name is = cc
kind_name made.Part of name is = let no : Quiet ≡ Claim name = is in cc
kind_name made.All of name is = let no : Quiet ≡ Claim name = is in cc

pub claims_name : (k : Made) (of name : Name) (r : Result Name NoMemory) → IfOk r (λ n. n ≡ of) → make_kind k of ≡ Claim name → IfOk r (λ n. n ≡ name)
claims_name k of name (Ok n) told is = subst (λ z. n ≡ z) (kind_name k of name is) told
claims_name k of name (Err e) told is = tt
