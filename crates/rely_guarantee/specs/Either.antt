-- A task of one of two kinds is a task.
use Rattle.std.specs.Prelude.{ℕ}
use Rattle.ost_types.specs.Path.{Path}
use Rattle.fs_trait.specs.declared.task.StepResult.{StepResult}
use Rattle.fs_trait.specs.declared.task.StepResult.TheVariants as turn
use Rattle.fs_trait.specs.declared.types.FsErr.{FsErr}
use Rattle.fs_trait.specs.View.{View}
use Rattle.fs_trait.specs.Seen.{Seen}
use Rattle.rely_guarantee.specs.declared.either.Either.{Either}
use Rattle.rely_guarantee.specs.declared.either.Either.TheVariants.{Left, Right}
use Rattle.rely_guarantee.specs.Books.{Books}
use Rattle.rely_guarantee.specs.Laws.{Kind, Quiet, Store, Take, Claim, Publish, Published, Remove, MakeDurable, Laws, StepObligation}

abbrev pub either_kind : {A B : Type 0} → (A → Kind) → (B → Kind) → Either A B → Kind
either_kind ka kb (Left a) = ka a
either_kind ka kb (Right b) = kb b

abbrev pub either_needs : {A B : Type 0} → (ℕ → A → View → Type 0) → (ℕ → B → View → Type 0) → ℕ → Either A B → View → Type 0
either_needs na nb actor (Left a) v = na actor a v
either_needs na nb actor (Right b) v = nb actor b v

abbrev pub either_writes : {A B : Type 0} → (ℕ → A → View → Path → Seen → Type 0) → (ℕ → B → View → Path → Seen → Type 0) → ℕ → Either A B → View → Path → Seen → Type 0
either_writes wa wb actor (Left a) v = wa actor a v
either_writes wa wb actor (Right b) v = wb actor b v

abbrev pub either_facts : {A B : Type 0} → (ℕ → A → View → Books → Type 0) → (ℕ → B → View → Books → Type 0) → ℕ → Either A B → View → Books → Type 0
either_facts fa fb lane (Left a) v b = fa lane a v b
either_facts fa fb lane (Right t) v b = fb lane t v b

abbrev pub either_stepped : {A B : Type 0} → (A → StepResult (Unit {0}) → A → Type 0) → (B → StepResult (Unit {0}) → B → Type 0) → Either A B → StepResult (Unit {0}) → Either A B → Type 0
either_stepped sa sb (Left a) u (Left new) = sa a u new
either_stepped sa sb (Right b) u (Right new) = sb b u new
either_stepped sa sb old u new = ⊥

abbrev pub either_leaves : {A B : Type 0} → (A → StepResult (Unit {0}) → A → View → View → Type 0) → (B → StepResult (Unit {0}) → B → View → View → Type 0) → Either A B → StepResult (Unit {0}) → Either A B → View → View → Type 0
either_leaves la lb (Left a) u (Left new) v w = la a u new v w
either_leaves la lb (Right b) u (Right new) v w = lb b u new v w
either_leaves la lb old u new v w = ⊥

abbrev pub either_refuses : {A B : Type 0} → (A → View → FsErr → Type 0) → (B → View → FsErr → Type 0) → Either A B → View → FsErr → Type 0
either_refuses ra rb (Left a) v e = ra a v e
either_refuses ra rb (Right b) v e = rb b v e

-- a step that isn't the last
duty_more : (k : Kind) (actor lane : ℕ) (v : View) (b : Books) (W : Path → Seen → Type 0) (Done Never : View → Type 0) → ((w : View) → Never w → ⊥) → StepObligation k actor lane v b W Done → StepObligation k actor lane v b W Never
duty_more Quiet actor lane v b W Done Never none d = d
duty_more Store actor lane v b W Done Never none d = d
duty_more (Take wants) actor lane v b W Done Never none d = d
duty_more (Claim name) actor lane v b W Done Never none d = d
duty_more (Publish e) actor lane v b W Done Never none d = d
duty_more (Published e owed) actor lane v b W Done Never none d = d
duty_more (Remove e owed) actor lane v b W Done Never none d = d
duty_more (MakeDurable e) actor lane v b W Done Never none d = (d.0, λ w bad. absurd (none w bad))

module _ {A B : Type 0} {ka : A → Kind} {na : ℕ → A → View → Type 0} {wa : ℕ → A → View → Path → Seen → Type 0} {sa : A → StepResult (Unit {0}) → A → Type 0} {la : A → StepResult (Unit {0}) → A → View → View → Type 0} {fa : ℕ → A → View → Books → Type 0}
    {kb : B → Kind} {nb : ℕ → B → View → Type 0} {wb : ℕ → B → View → Path → Seen → Type 0} {sb : B → StepResult (Unit {0}) → B → Type 0} {lb : B → StepResult (Unit {0}) → B → View → View → Type 0} {fb : ℕ → B → View → Books → Type 0} where
  pub either_laws : Laws ka na wa sa la fa → Laws kb nb wb sb lb fb
      → Laws (either_kind ka kb) (either_needs na nb) (either_writes wa wb) (either_stepped sa sb) (either_leaves la lb) (either_facts fa fb)
  either_laws one two = record {
    ready = λ actor lane. elim [ Left a ↦ one.ready actor lane a | Right b ↦ two.ready actor lane b ];
    kept = λ actor lane mine. elim [ Left a ↦ one.kept actor lane mine a | Right b ↦ two.kept actor lane mine b ];
    gains = λ lane. elim [ Left a ↦ one.gains lane a | Right b ↦ two.gains lane b ];
    duty = λ actor lane. elim [
      | Left a ↦ elim [
        | Left new ↦ one.duty actor lane a new
        | Right new ↦ λ v b agrees by stood f. duty_more (ka a) actor lane v b (wa actor a v) (la a (turn.Done tt) a v) (λ w. ⊥) (λ w bad. bad) (one.duty actor lane a a v b agrees by stood f)
      ]
      | Right t ↦ elim [
        | Left new ↦ λ v b agrees by stood f. duty_more (kb t) actor lane v b (wb actor t v) (lb t (turn.Done tt) t v) (λ w. ⊥) (λ w bad. bad) (two.duty actor lane t t v b agrees by stood f)
        | Right new ↦ two.duty actor lane t new
      ]
    ];
    chain = elim [
      | Left a ↦ elim [ Left new ↦ one.chain a new | Right new ↦ λ s. absurd s ]
      | Right b ↦ elim [ Left new ↦ λ s. absurd s | Right new ↦ two.chain b new ]
    ];
    last = elim [
      | Left a ↦ elim [ Left new ↦ one.last a new | Right new ↦ λ s. absurd s ]
      | Right b ↦ elim [ Left new ↦ λ s. absurd s | Right new ↦ two.last b new ]
    ];
    next = λ actor lane. elim [
      | Left a ↦ elim [ Left new ↦ one.next actor lane a new | Right new ↦ λ v w b b' stood f leaves keeps own. absurd leaves ]
      | Right t ↦ elim [ Left new ↦ λ v w b b' stood f leaves keeps own. absurd leaves | Right new ↦ two.next actor lane t new ]
    ];
    claims = λ lane. elim [
      | Left a ↦ elim [ Left new ↦ one.claims lane a new | Right new ↦ λ v w b name is s f leaves. absurd s ]
      | Right t ↦ elim [ Left new ↦ λ v w b name is s f leaves. absurd s | Right new ↦ two.claims lane t new ]
    ];
  }
