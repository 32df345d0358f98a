-- Runs of calls, one after another.
use Rattle.std.proofs.Common.{◌≡◌, ◌⊎◌, inl, inr, ⊎_elim, ◌≤◌, ◌<◌, ◌+◌, ℕ, sym, ◌∙◌, subst, arith, Option, Some, Result, Ok, Err}
use Rattle.std.proofs.lemmas.Bool.Decides.{leb_tells}
use Rattle.ost_types.specs.Path.{Path}
use Rattle.fs_trait.specs.declared.types.FsErr.{FsErr}
use Rattle.fs_trait.specs.View.{View}
use Rattle.fs_trait.specs.Image.{Told}
use Rattle.fs_trait.specs.Seen.{Seen}
use Rattle.fs_trait.specs.Effect.{Changed, Elapses, IsQuiet}
use Rattle.fs_trait.specs.Change.{Writes, Both}
use Rattle.fs_trait.proofs.Kept.{same_view, then_writes, weaker}
use Rattle.fs_trait.proofs.Facts.{Fails-writes}
use Rattle.sys_open.specs.Changes.{Works}

pub one_view : (view : Option View) (u w : View) → view ≡ Some u → view ≡ Some w → u ≡ w
one_view view u w a b = let e : Some u ≡ Some w = sym a ∙ b in cc

-- what a call leaves, whatever it answers
pub changed_left : {T : Type 0} (W : Path → Seen → Type 0) (refusal : Option FsErr) (v w : View) (r : Result T FsErr) (view : Option View) → Writes W v w → Changed refusal v w r view → Told view (λ u. Writes W v u)
changed_left W refusal v w (Ok x) view writes changed = (w, changed.1, writes)
changed_left W refusal v w (Err e) view writes changed = Fails-writes W refusal v w e view changed writes

module _ (W : Path → Seen → Type 0) (v : View) (before now : ℕ) (past since : ℕ → View → Type 0) (view : Option View) where
  -- one call
  pub works_call : ((t : ℕ) (w : View) → now ≤ t → since t w → view ≡ Some w) → Elapses before now past since view → Told view (λ w. Writes W v w) → Works W v before now past since view
  works_call only_now time left = record {
    later = time.later;
    left = left;
    nothing_else = λ t w is. by t w is (⊎_elim (λ a. inl a.1) (λ a. inr a.1) (leb_tells t before));
    keeps = time.keeps;
  }
    where
      here : (w : View) → view ≡ Some w → Writes W v w
      here w is = subst (λ u. Writes W v u) (one_view view left.0 w left.1 is) left.2

      by : (t : ℕ) (w : View) → since t w → (t ≤ before) ⊎ (before < t) → past t w ⊎ Writes W v w
      by t w is (inl early) = ⊎_elim (λ was. inl was) (λ e. inr (here w e)) (time.nothing_else t w early is)
      by t w is (inr late) = let soon : now ≤ before + 1 = time.soon in inr (here w (only_now t w (omega (arith, soon, late)) is))

  -- calls that change nothing
  pub works_quiet : (old : Option View) → old ≡ Some v → IsQuiet before now past since old view → Works W v before now past since view
  works_quiet old told quiet = record {
    later = let e : now ≡ before = quiet.clock in omega (arith, e);
    left = (v, quiet.view ∙ told, same_view W v);
    nothing_else = λ t w is. inl (quiet.nothing_else t w is);
    keeps = λ t w le was. quiet.keeps t w was;
  }

  pub works_weaker : (X : Path → Seen → Type 0) → ((p : Path) (s : Seen) → W p s → X p s) → Works W v before now past since view → Works X v before now past since view
  works_weaker X leads works = record {
    later = works.later;
    left = (works.left.0, works.left.1, weaker W X v works.left.0 leads works.left.2);
    nothing_else = λ t w is. ⊎_elim (λ was. inl was) (λ h. inr (weaker W X v w leads h)) (works.nothing_else t w is);
    keeps = works.keeps;
  }

-- one run after another
pub works_then : (W X : Path → Seen → Type 0) (v u : View) (a b c : ℕ) (past mid since : ℕ → View → Type 0) (between view : Option View) → between ≡ Some u
    → Works W v a b past mid between → Works X u b c mid since view → ((p : Path) (s : Seen) → X p s → W p s) → Works W v a c past since view
works_then W X v u a b c past mid since between view told first next leads = record {
  later = let m : a ≤ b = first.later in let n : b ≤ c = next.later in omega (arith, m, n);
  left = (next.left.0, next.left.1, on next.left.0 next.left.2);
  nothing_else = λ t w is. ⊎_elim (λ was. first.nothing_else t w was) (λ h. inr (on w h)) (next.nothing_else t w is);
  keeps = λ t w le was. next.keeps t w (let m : a ≤ b = first.later in omega (arith, m, le)) (first.keeps t w le was);
}
  where
    first_writes : Writes W v u
    first_writes = subst (λ x. Writes W v x) (one_view between first.left.0 u first.left.1 told) first.left.2

    on : (w : View) → Writes X u w → Writes W v w
    on w writes = weaker (Both W X) W v w (λ p s both. ⊎_elim (λ h. h) (leads p s) both) (then_writes W X v u w first_writes writes)

-- a run at whose end the clock stands where it stood has left the view as it was
pub works_still : (W : Path → Seen → Type 0) (v : View) (before now : ℕ) (past since : ℕ → View → Type 0) (view : Option View) → past before v → ((t : ℕ) (w : View) → now ≤ t → since t w → view ≡ Some w) → now ≡ before → Works W v before now past since view → view ≡ Some v
works_still W v before now past since view here only_now same works = only_now before v (omega (arith, same)) (works.keeps before v (omega arith) here)
