-- What an act takes from the store: what it removes, and nothing else.
use Rattle.std.proofs.Common.{◌≡◌, ◌≢◌, ℕ, Bool, true, false, nat_eq, refl, sym, ◌∙◌, ap, subst, arith, List, [], Contains, Option, Some, None}
use Rattle.std.proofs.lemmas.Bool.Decides.{nat_tests}
use Rattle.ost_types.specs.declared.object.ObjName.{ObjName}
use Rattle.ost_types.specs.Path.{Path}
use Rattle.fs_trait.specs.declared.task.StepResult.{StepResult}
use Rattle.fs_trait.specs.declared.task.StepResult.TheVariants as turn
use Rattle.fs_trait.specs.View.{View}
use Rattle.fs_trait.specs.Image.{Told}
use Rattle.fs_trait.specs.Seen.{Seen}
use Rattle.fs_trait.specs.Change.{Writes, Nothing}
use Rattle.fs_trait.specs.Effect.{Elapses}
use Rattle.fs_trait.proofs.Kept.{weaker}
use Rattle.rely_guarantee.specs.declared.books.Base.{Base}
use Rattle.rely_guarantee.specs.declared.books.Books as rust
use Rattle.rely_guarantee.specs.Books.{Books, books_of}
use Rattle.rely_guarantee.specs.Exact.{taken_in}
use Rattle.rely_guarantee.specs.Lasting.{Lasts, Stays}
use Rattle.rely_guarantee.specs.Rely.{Guarantee, Interference}
use Rattle.rely_guarantee.specs.Removing.{next_of}
use Rattle.rely_guarantee.specs.Laws.{Kind, Quiet, Store, Take, Claim, Publish, Published, Remove, MakeDurable, IsBy, Laws, StepObligation, Stood, Holds, NotPending, Runs, Ready}
use Rattle.rely_guarantee.proofs.Acting.{told_same}
use Rattle.rely_guarantee.proofs.Lasting.{lasts_stays, next_doomed, none_out, stays_act, stays_by, stays_more, stays_taking}
use Rattle.rely_guarantee.proofs.Locking.{doomed_apart}
use Rattle.rely_guarantee.proofs.Removing.{stays_others}
use Rattle.rely_guarantee.proofs.Sounds.{IsFs}

-- where nothing is to be removed
undoomed_stays : (b : Books) (v w : View) (actor lane : ℕ) → b.doomed ≡ [] → Writes (Guarantee b v actor lane) v w → Stays [] v w
undoomed_stays b v w actor lane none writes =
    stays_more (next_of b) [] v w (λ name is. absurd (none_out name (subst (λ (l : List ObjName). Contains l name) none (next_doomed b name is)))) (stays_act b v w actor lane writes)

-- by a lane that shows nothing
idle_stays : (b : rust.Books) (v w : View) (actor lane : ℕ) → NotPending lane (books_of b) → Writes (Guarantee (books_of b) v actor lane) v w → Stays [] v w
idle_stays b v w actor lane none writes = by b.exclusive refl
  where
    at : (x : ℕ) → b.exclusive ≡ Some x → (t : Bool) → nat_eq x lane ≡ t → Stays [] v w
    at x is true e =
        let own : x ≡ lane = grind (arith, nat_tests) in
        undoomed_stays (books_of b) v w actor lane (subst (λ (l : Option ℕ). (books_of (record b { exclusive = l })).doomed ≡ []) (sym is) (doomed_apart x b.pending (λ p has same. none p has (same ∙ own)))) writes
    at x is false e =
        let other : x ≢ lane = (λ same. let z : true ≡ false = sym (let k : nat_eq lane lane ≡ true = grind (arith, nat_tests) in k) ∙ ap (λ y. nat_eq y lane) (sym same) ∙ e in cc) in
        stays_others (books_of b) v w actor lane writes x other is

    by : (lock : Option ℕ) → b.exclusive ≡ lock → Stays [] v w
    by None is = undoomed_stays (books_of b) v w actor lane (subst (λ (l : Option ℕ). (books_of (record b { exclusive = l })).doomed ≡ []) (sym is) refl) writes
    by (Some x) is = at x is (nat_eq x lane) refl

-- by one that writes nothing
none_stays : (b : Books) (v w : View) (actor lane : ℕ) (W : Path → Seen → Type 0) → ((p : Path) (s : Seen) → W p s → Nothing p s) → Writes (Guarantee b v actor lane) v w → Writes W v w → Stays [] v w
none_stays b v w actor lane W none writes wrote = stays_by b v w actor lane writes [] W wrote (λ name kept safe s x. none _ s x)

module _ {F : Type 0} (view : F → Option View) (clock spare : F → ℕ) (was : F → ℕ → View → Type 0) (fslaws : IsFs view clock was)
    {T : Type 0} {kind : T → Kind} {needs : ℕ → T → View → Type 0} {writes : ℕ → T → View → Path → Seen → Type 0} {stepped : T → StepResult (Unit {0}) → T → Type 0} {leaves : T → StepResult (Unit {0}) → T → View → View → Type 0} {facts : ℕ → T → View → Books → Type 0}
    (laws : Laws kind needs writes stepped leaves facts) where
  -- one act of any task
  pub taken_lasts : (old new : Base F) (actor lane : ℕ) (t : T) → IsBy (kind t) actor lane → Ready view clock spare was (Runs kind facts lane t) old
      → ((v : View) → view old.fs ≡ Some v → Told (view new.fs) (λ w. Writes (writes actor t v) v w))
      → ((v : View) → view old.fs ≡ Some v → (w : View) × (view new.fs ≡ Some w) × Interference actor lane v (books_of old.books) w (books_of new.books))
      → Elapses (clock old.fs) (clock new.fs) (was old.fs) (was new.fs) (view new.fs) → (k : Kind) → kind t ≡ k → Lasts (taken_in k (books_of old.books)) view clock was old.fs new.fs
  taken_lasts old new actor lane t acts ready wrote does time = by
    where
      stays : (out : List ObjName) → ((v w : View) → view old.fs ≡ Some v → view new.fs ≡ Some w → Writes (Guarantee (books_of old.books) v actor lane) v w → Stays out v w) → Lasts out view clock was old.fs new.fs
      stays out each = lasts_stays view clock was fslaws out old.fs new.fs (λ v told. let x = does v told in (x.0, x.1, each v x.0 told x.1 x.2.writes)) time

      idle : NotPending lane (books_of old.books) → Lasts [] view clock was old.fs new.fs
      idle none = stays [] (λ v w told_v told_w. idle_stays old.books v w actor lane none)

      wrote_in : (v w : View) → view old.fs ≡ Some v → view new.fs ≡ Some w → Writes (writes actor t v) v w
      wrote_in v w told_v told_w = told_same (view new.fs) w told_w (wrote v told_v)

      held : (k : Kind) → kind t ≡ k → Holds k lane (books_of old.books)
      held k is = subst (λ (x : Kind). Holds x lane (books_of old.books)) is ready.task.holds

      duty : (k : Kind) → kind t ≡ k → Stood k actor lane (books_of old.books) → (v : View) → view old.fs ≡ Some v → StepObligation k actor lane v (books_of old.books) (writes actor t v) (leaves t (turn.Done tt) t v)
      duty k is stood v told =
          subst (λ (x : Kind). StepObligation x actor lane v (books_of old.books) (writes actor t v) (leaves t (turn.Done tt) t v)) is
          (laws.duty actor lane t t v (books_of old.books) ready.sound.ordered.agrees acts (subst (λ (x : Kind). Stood x actor lane (books_of old.books)) (sym is) stood) (ready.task.facts v told))

      by : (k : Kind) → kind t ≡ k → Lasts (taken_in k (books_of old.books)) view clock was old.fs new.fs
      by Quiet is = idle (held Quiet is)
      by Store is = idle (held Store is)
      by (Take wants) is = idle (held (Take wants) is)
      by (Claim name) is = idle (held (Claim name) is)
      by (Publish e) is = idle (held (Publish e) is)
      by (Published e owed) is = stays [] (λ v w told_v told_w writes_w. (let d = duty (Published e owed) is tt v told_v in let x = wrote_in v w told_v told_w in
          stays_taking (books_of old.books) v w lane lane (weaker (writes actor t v) (Guarantee (books_of old.books) v lane lane) v w d.0 x) (writes actor t v) x d.0 d.2))
      by (Remove e owed) is = stays (next_of (books_of old.books)) (λ v w told_v told_w. stays_act (books_of old.books) v w actor lane)
      by (MakeDurable e) is = stays [] (λ v w told_v told_w writes_w. none_stays (books_of old.books) v w actor lane (writes actor t v) (duty (MakeDurable e) is tt v told_v).0 writes_w (wrote_in v w told_v told_w))
