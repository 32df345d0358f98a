-- That rounds end: each act of a lane with a command leaves less to do, or the lane is held off; and who holds it off isn't.
use Rattle.std.proofs.Common.{◌≡◌, ◌≢◌, ◌⊎◌, inl, inr, ⊎_elim, ◌<◌, ◌≤◌, ◌+◌, ℕ, Bool, true, false, nat_lt, refl, sym, ◌∙◌, ap, subst, arith, length, Some}
use Rattle.std.proofs.lemmas.Bool.Decides.{nat_tests}
use Rattle.command.specs.declared.ended.Ended.{Ended}
use Rattle.command.specs.Doing.{Doing}
use Rattle.lane_system.specs.declared.ask.Ask.{Ask}
use Rattle.lane_system.specs.declared.ask.Ask.TheVariants as ask
use Rattle.lane_system.specs.declared.lane.Lane.{Lane}
use Rattle.lane_system.specs.Booked.{Acted, HasCommand, Moves}
use Rattle.lane_system.specs.Ranks.{AreWithin, HasEnded, IsHeldOff, IsOver, Ranked, at_lane, commands_left, left_in_all, rank, rank_of, to_come, total, work_left}
use Rattle.lane_system.specs.System.{System}
use Rattle.lane_system.proofs.Places.{below_or_at}
use Rattle.lane_system.proofs.Ranking.{at_lane_here, at_lane_set, total_less}

module _ {F T W A : Type 0} (d : Doing T W A) where
  -- what the numbers of the lane are
  pub left_was : (s new : System F T W A) (n : ℕ) (l l' : Lane T W A) → Moves s new n l l' → (commands_left s n ≡ to_come l) × (rank d s n ≡ rank_of d l)
  left_was s new n l l' m = (at_lane_here to_come s.lanes n l m.at, at_lane_here (rank_of d) s.lanes n l m.at)

  pub left_now : (s new : System F T W A) (n : ℕ) (l l' : Lane T W A) → Moves s new n l l' → (commands_left new n ≡ to_come l') × (rank d new n ≡ rank_of d l')
  left_now s new n l l' m = (
    ap (λ xs. at_lane to_come xs n) m.now ∙ at_lane_set to_come s.lanes n l' m.at.0,
    ap (λ xs. at_lane (rank_of d) xs n) m.now ∙ at_lane_set (rank_of d) s.lanes n l' m.at.0,
  )

  less_all : (s new : System F T W A) (n : ℕ) (l l' : Lane T W A) → Moves s new n l l' → work_left d l' < work_left d l → left_in_all d new < left_in_all d s
  less_all s new n l l' m less = subst (λ xs. total (work_left d) xs < left_in_all d s) (sym m.now) (total_less (work_left d) s.lanes n l l' m.at less)

  less_more : (s new : System F T W A) (n : ℕ) (l l' : Lane T W A) → Moves s new n l l' → Ranked d s new n ask.More → left_in_all d new < left_in_all d s
  less_more s new n l l' m ranked =
      let f = ranked.falls refl in
      let a = left_was s new n l l' m in
      let b = left_now s new n l l' m in
      less_all s new n l l' m (omega (arith, f.0, f.1, a.0, a.1, b.0, b.1))

  less_done : (s new : System F T W A) (n lane command : ℕ) (l l' : Lane T W A) → Moves s new n l l' → Ranked d s new n (ask.Done lane command) → left_in_all d new < left_in_all d s
  less_done s new n lane command l l' m ranked =
      let f = ranked.done lane command refl in
      let a = left_was s new n l l' m in
      let b = left_now s new n l l' m in
      less_all s new n l l' m (omega (arith, f.0, f.1, a.0, a.1, b.0, b.1))

  -- Of the first n lanes each that has a command is held off, and nothing was done.
  pub record Still (old now : System F T W A) (n : ℕ) (busy : Bool) : Type 0 where
    pub same : now ≡ old
    pub each : (a : ℕ) → a < n → HasCommand old a → IsHeldOff old a
    pub some : busy ≡ true → (a : ℕ) × IsHeldOff old a
    pub none : busy ≡ false → (a : ℕ) → a < n → HasCommand old a → ⊥

  -- how far a round is
  abbrev pub Progress : System F T W A → System F T W A → ℕ → Bool → Type 0
  Progress old now n busy = ((left_in_all d now < left_in_all d old) × (busy ≡ true)) ⊎ Still old now n busy

  pub progress_begins : (s : System F T W A) → Progress s s 0 false
  progress_begins s = inr (record {
    same = refl;
    each = λ a lt has. absurd (omega (arith, lt));
    some = λ z. cc;
    none = λ z a lt has. absurd (omega (arith, lt));
  })

  pub progress_ended : (Tells : Lane T W A → Ended A → Type 0) (old s new : System F T W A) (n : ℕ) (busy : Bool) (x : Ask) → x ≡ ask.Ended → Acted Tells s new n x → Progress old s n busy → Progress old new (n + 1) busy
  progress_ended Tells old s new n busy x is acted p =
      let a : Acted Tells s new n ask.Ended = subst (λ y. Acted Tells s new n y) is acted in
      ⊎_elim
      (λ far. inl (subst (λ y. left_in_all d y < left_in_all d old) (sym a.1) far.0, far.1))
      (λ still. inr (record {
        same = a.1 ∙ still.same;
        each = λ b lt has. ⊎_elim (λ below. still.each b below has) (λ e. absurd (a.0 (subst (λ y. HasCommand y n) (sym still.same) (subst (HasCommand old) e has)))) (below_or_at b n lt);
        some = still.some;
        none = λ z b lt has. ⊎_elim (λ below. still.none z b below has) (λ e. absurd (a.0 (subst (λ y. HasCommand y n) (sym still.same) (subst (HasCommand old) e has)))) (below_or_at b n lt);
      }))
      p

  progress_less : (old s new : System F T W A) (n : ℕ) (busy : Bool) → left_in_all d new < left_in_all d s → Progress old s n busy → Progress old new (n + 1) true
  progress_less old s new n busy less p = ⊎_elim
      (λ far. inl (omega (arith, less, far.0), refl))
      (λ still. inl (omega (arith, less, ap (λ y. left_in_all d y) still.same), refl))
      p

  progress_held : (old s new : System F T W A) (n : ℕ) (busy : Bool) → new ≡ s → IsHeldOff s n → Progress old s n busy → Progress old new (n + 1) true
  progress_held old s new n busy same held p = ⊎_elim
      (λ far. inl (subst (λ y. left_in_all d y < left_in_all d old) (sym same) far.0, refl))
      (λ still. (let off : IsHeldOff old n = subst (λ y. IsHeldOff y n) still.same held in
      inr (record {
        same = same ∙ still.same;
        each = λ b lt has. ⊎_elim (λ below. still.each b below has) (λ e. subst (IsHeldOff old) (sym e) off) (below_or_at b n lt);
        some = λ z. (n, off);
        none = λ z. cc;
      })))
      p

  pub progress_acted : (Tells : Lane T W A → Ended A → Type 0) (old s new : System F T W A) (n : ℕ) (busy : Bool) (x : Ask) → x ≢ ask.Ended → Acted Tells s new n x → Ranked d s new n x → (x ≡ ask.Blocked → IsHeldOff s n) → Progress old s n busy → Progress old new (n + 1) true
  progress_acted Tells old s new n busy ask.Ended goes acted ranked held p = absurd (goes refl)
  progress_acted Tells old s new n busy ask.Blocked goes acted ranked held p = progress_held old s new n busy acted.1 (held refl) p
  progress_acted Tells old s new n busy ask.More goes acted ranked held p = progress_less old s new n busy (less_more s new n acted.0 acted.1 acted.2 ranked) p
  progress_acted Tells old s new n busy (ask.Done lane command) goes acted ranked held p = progress_less old s new n busy (less_done s new n lane command acted.0 acted.1 acted.3 ranked) p

  -- a round in which no lane had a command
  pub round_over : (old now : System F T W A) (n : ℕ) → length now.lanes ≤ n → Progress old now n false → IsOver now
  round_over old now n few p = λ a has. ⊎_elim
      (λ far. absurd (let e : false ≡ true = far.1 in cc))
      (λ still. still.none refl a (omega (arith, has.1.0, few)) (subst (λ y. HasCommand y a) still.same has))
      p

  -- the lane that holds the ref lock isn't held off
  holder_goes : (old : System F T W A) (n : ℕ) → length old.lanes ≤ n → ((a : ℕ) → a < n → HasCommand old a → IsHeldOff old a) → (o : ℕ) → old.base.books.turn ≡ Some o → ¬ (HasCommand old o)
  holder_goes old n few each o is has =
      let there = each o (omega (arith, has.1.0, few)) has in
      ⊎_elim
      (λ refs. there.1 (let one : Some there.0 ≡ Some o = sym refs ∙ is in let same : there.0 ≡ o = cc in same))
      (λ list. list.1 is)
      there.2

  -- and where nobody holds it, the one that holds the lock on the list of deployments isn't
  lister_goes : (old : System F T W A) (n : ℕ) → length old.lanes ≤ n → ((a : ℕ) → a < n → HasCommand old a → IsHeldOff old a) → (o : ℕ) → old.base.books.sysroot ≡ Some o → ¬ (HasCommand old o)
  lister_goes old n few each o is has =
      let there = each o (omega (arith, has.1.0, few)) has in
      ⊎_elim
      (λ refs. holder_goes old n few each there.0 refs there.3)
      (λ list. there.1 (let one : Some there.0 ≡ Some o = sym list.0 ∙ is in let same : there.0 ≡ o = cc in same))
      there.2

  -- so one in which some had
  pub round_falls : (old now : System F T W A) (n : ℕ) → length old.lanes ≤ n → Progress old now n true → left_in_all d now < left_in_all d old
  round_falls old now n few p = ⊎_elim
      (λ far. far.0)
      (λ still. (let off = (still.some refl).1 in
      absurd (⊎_elim (λ refs. holder_goes old n few still.each off.0 refs off.3) (λ list. lister_goes old n few still.each off.0 list.0 off.3) off.2)))
      p

-- lanes that have no command have ended
pub ended_of : {F T W A : Type 0} (s : System F T W A) → IsOver s → AreWithin s → HasEnded s
ended_of s over within a l at = by (nat_lt (length l.replies.items) (length l.words.items)) refl
  where
    by : (t : Bool) → nat_lt (length l.replies.items) (length l.words.items) ≡ t → length l.replies.items ≡ length l.words.items
    by true is = absurd (over a (l, at, grind (arith, nat_tests)))
    by false is = (let le : length l.words.items ≤ length l.replies.items = grind (arith, nat_tests) in omega (arith, le, within a l at))
