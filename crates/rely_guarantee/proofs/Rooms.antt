-- Before an act room is made for what it notes, which changes nothing that the books say.
use Rattle.std.proofs.Common.{◌≡◌, ◌∙◌, ◌<◌, ℕ, sym, ap, subst, Option}
use Rattle.fs_trait.specs.View.{View}
use Rattle.rely_guarantee.specs.declared.books.Base.{Base}
use Rattle.rely_guarantee.specs.declared.books.Books as rust
use Rattle.rely_guarantee.specs.declared.kind.Outcome.{Outcome}
use Rattle.rely_guarantee.specs.Books.{Agrees, Books, books_of, Spared}
use Rattle.rely_guarantee.specs.State.{acked}
use Rattle.rely_guarantee.specs.Rely.{Interference}
use Rattle.rely_guarantee.specs.Laws.{Ready, Acts}

-- room for a claim
pub claim_room : (b made : rust.Books) → made ≡ record b { claims = made.claims } → made.claims.items ≡ b.claims.items → books_of made ≡ books_of b
claim_room b made same items = ap books_of same ∙ ap (λ l. record (books_of b) { claims = l }) items

-- room for locks and a pin
pub grant_room : (b made : rust.Books) → made ≡ record b { shared = made.shared; holds = made.holds; pins = made.pins }
    → (made.shared.items ≡ b.shared.items) × (made.holds.items ≡ b.holds.items) × (made.pins.items ≡ b.pins.items) → books_of made ≡ books_of b
grant_room b made same items =
    ap books_of same
    ∙ ap (λ l. record (books_of b) { shared = l; holds = made.holds.items; pins = made.pins.items }) items.0
    ∙ ap (λ l. record (books_of b) { holds = l; pins = made.pins.items }) items.1
    ∙ ap (λ l. record (books_of b) { pins = l }) items.2

module _ {F : Type 0} (view : F → Option View) (clock spare : F → ℕ) (was : F → ℕ → View → Type 0) where
  pub roomy_ready : (old : Base F) (made : rust.Books) (runs : Option View → Books → Type 0) → books_of made ≡ books_of old.books → made.history ≡ old.books.history
      → Ready view clock spare was runs old → Ready view clock spare was runs (record { fs = old.fs; books = made })
  roomy_ready old made runs eq history ready =
      let pending : made.pending ≡ old.books.pending = ap (λ b. b.pending) eq in
      let owed : made.owed ≡ old.books.owed = ap (λ b. b.owed) eq in
      let gone : made.gone ≡ old.books.gone = ap (λ b. b.gone) eq in
      let turn : made.turn ≡ old.books.turn = ap (λ b. b.turn) eq in
      let sysroot : made.sysroot ≡ old.books.sysroot = ap (λ b. b.sysroot) eq in
      let opened : made.opened ≡ old.books.opened = ap (λ b. b.opened) eq in
      let start : made.start ≡ old.books.start = ap (λ b. b.start) eq in
      let claims : made.claims.items ≡ old.books.claims.items = ap (λ b. b.claims) eq in
      let ord = ready.sound.ordered in
      record {
        sound = record {
          ordered = record {
            agrees = subst Agrees (sym eq) ord.agrees;
            owner = λ p has. turn ∙ ord.owner p (sym pending ∙ has);
            ascends = rw (opened, history) ord.ascends;
            idle = λ none. owed ∙ ord.idle (sym pending ∙ none);
            room = rw owed ord.room;
            entry = λ owes. rw history (ord.entry (subst (λ n. 0 < n) owed owes));
            counted = rw (gone, owed) ord.counted;
          };
          stands = rw (history, pending, start) ready.sound.stands;
          crash = rw (history, pending, start, opened) ready.sound.crash;
          claims = rw claims ready.sound.claims;
          relists = λ v told p has more. sysroot ∙ ready.sound.relists v told p (sym pending ∙ has) more;
        };
        live = ap (λ b. b.halted) eq ∙ ready.live;
        task = subst (runs (view old.fs)) (sym eq) ready.task;
      }

  pub roomy_acts : (old new : Base F) (made : rust.Books) (actor lane : ℕ) (outcome : Outcome) (runs : Option View → Books → Type 0) → books_of made ≡ books_of old.books
      → Acts view clock spare was actor lane outcome runs (record { fs = old.fs; books = made }) new → Acts view clock spare was actor lane outcome runs old new
  roomy_acts old new made actor lane outcome runs eq acts = record {
    sound = acts.sound;
    does = λ v told. let d = acts.does v told in (d.0, d.1, subst (λ b. Interference actor lane v b d.0 (books_of new.books)) eq d.2);
    books = subst (λ b. Spared actor lane b (books_of new.books)) eq acts.books;
    past = λ t le. acts.past t le ∙ ap (λ b. acked t b.history) eq;
    tells = acts.tells;
  }
