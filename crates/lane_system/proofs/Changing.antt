-- Lanes with another one at a place, which has the same commands, and the same replies or one more.
use Rattle.std.proofs.Common.{◌≡◌, ◌≢◌, ◌⊎◌, inl, inr, ⊎_elim, ◌<◌, ◌+◌, ℕ, zero, suc, sym, ◌∙◌, ap, subst, arith, List, [], ◌∷◌, ◌++◌, length, length-append, set, Some}
use Rattle.lane_system.specs.declared.lane.Lane.{Lane}
use Rattle.lane_system.specs.declared.lane.Reply.{Reply}
use Rattle.lane_system.specs.declared.lane.Running.{Running}
use Rattle.lane_system.specs.Lanes.{IsAt, IsCommand, IsRunning, IsTo, Numbered, count_of}
use Rattle.lane_system.proofs.Places.{at_end, at_front, at_one, at_set, at_set_back, at_set_is, at_set_stays, at_split, below_or_at, here_or_apart}

-- a command is one
pub one_command : {T W A : Type 0} (lanes : List (Lane T W A)) (lane n : ℕ) (c d : W) → IsCommand lanes lane n c → IsCommand lanes lane n d → c ≡ d
one_command {T} {W} {A} lanes lane n c d a b =
    let k : a.0 ≡ b.0 = at_one lanes lane a.0 b.0 a.1 b.1 in
    at_one b.0.words.items n c d (subst (λ (x : Lane T W A). IsAt x.words.items n c) k a.2) b.2

-- how many replies there are with another lane
count_set : {T W A : Type 0} (lanes : List (Lane T W A)) (i : ℕ) (l l' : Lane T W A) → IsAt lanes i l → count_of (set lanes i l') + length l.replies.items ≡ count_of lanes + length l'.replies.items
count_set [] i l l' at = absurd (omega (arith, at.0))
count_set (x ∷ lanes) zero l l' at = omega (arith, ap (λ z. length z.replies.items) at.1)
count_set (x ∷ lanes) (suc i) l l' at = let e = count_set lanes i l l' (omega (arith, at.0), at.1) in omega (arith, e)

module _ {T W A : Type 0} (lanes : List (Lane T W A)) (lane : ℕ) (l l' : Lane T W A) (at : IsAt lanes lane l) (words : l'.words ≡ l.words) where
  abbrev pub after : List (Lane T W A)
  after = set lanes lane l'

  new_here : IsAt after lane l'
  new_here = at_set lanes lane l' at.0

  is_new : (x : Lane T W A) → IsAt after lane x → x ≡ l'
  is_new x here = at_set_is lanes lane l' x at.0 here

  pub command_stays : (a n : ℕ) (c : W) → IsCommand lanes a n c → IsCommand after a n c
  command_stays a n c is = here_or_apart a lane
      (λ e. let here : IsAt lanes lane is.0 = subst (λ k. IsAt lanes k is.0) e is.1 in
      let same : is.0 ≡ l = at_one lanes lane is.0 l here at in
      (l', subst (λ k. IsAt after k l') (sym e) new_here, subst (λ xs. IsAt xs.items n c) (sym words) (subst (λ (x : Lane T W A). IsAt x.words.items n c) same is.2)))
      (λ ne. (is.0, at_set_stays lanes lane a l' is.0 ne is.1, is.2))

  pub command_was : (a n : ℕ) (c : W) → IsCommand after a n c → IsCommand lanes a n c
  command_was a n c is = here_or_apart a lane
      (λ e. let here : IsAt after lane is.0 = subst (λ k. IsAt after k is.0) e is.1 in
      (l, subst (λ k. IsAt lanes k l) (sym e) at, subst (λ xs. IsAt xs.items n c) words (subst (λ (x : Lane T W A). IsAt x.words.items n c) (is_new is.0 here) is.2)))
      (λ ne. (is.0, at_set_back lanes lane a l' is.0 ne is.1, is.2))

  -- which commands run: those of the other lanes, and this one's
  pub running_split : (a n : ℕ) (r : Running T) → IsRunning after a n r → ((a ≢ lane) × IsRunning lanes a n r) ⊎ ((a ≡ lane) × (n ≡ length l'.replies.items) × (l'.task ≡ Some r))
  running_split a n r is = here_or_apart a lane
      (λ e. let here : IsAt after lane is.0 = subst (λ k. IsAt after k is.0) e is.1 in
      let same : is.0 ≡ l' = is_new is.0 here in
      inr (e, is.2 ∙ ap (λ (x : Lane T W A). length x.replies.items) same, sym (ap (λ (x : Lane T W A). x.task) same) ∙ is.3))
      (λ ne. inl (ne, (is.0, at_set_back lanes lane a l' is.0 ne is.1, is.2, is.3)))

  pub running_apart : (a n : ℕ) (r : Running T) → a ≢ lane → IsRunning lanes a n r → IsRunning after a n r
  running_apart a n r ne is = (is.0, at_set_stays lanes lane a l' is.0 ne is.1, is.2, is.3)

  pub running_here : (n : ℕ) (r : Running T) → n ≡ length l'.replies.items → l'.task ≡ Some r → IsRunning after lane n r
  running_here n r number task = (l', new_here, number, task)

  pub running_was : (n : ℕ) (r : Running T) → IsRunning lanes lane n r → (n ≡ length l.replies.items) × (l.task ≡ Some r)
  running_was n r is =
      let same : is.0 ≡ l = at_one lanes lane is.0 l is.1 at in
      (is.2 ∙ ap (λ (x : Lane T W A). length x.replies.items) same, sym (ap (λ (x : Lane T W A). x.task) same) ∙ is.3)

  -- the replies of before are there
  to_stays_by : (more : List (Reply A)) → l'.replies.items ≡ l.replies.items ++ more → (a n : ℕ) (q : Reply A) → IsTo lanes a n q → IsTo after a n q
  to_stays_by more grows a n q is = here_or_apart a lane
      (λ e. let here : IsAt lanes lane is.0 = subst (λ k. IsAt lanes k is.0) e is.1 in
      let same : is.0 ≡ l = at_one lanes lane is.0 l here at in
      (l', subst (λ k. IsAt after k l') (sym e) new_here, subst (λ xs. IsAt xs n q) (sym grows) (at_front l.replies.items more n q (subst (λ (x : Lane T W A). IsAt x.replies.items n q) same is.2))))
      (λ ne. (is.0, at_set_stays lanes lane a l' is.0 ne is.1, is.2))

  -- with the same replies
  module _ (same : l'.replies ≡ l.replies) where
    pub to_same : (a n : ℕ) (q : Reply A) → IsTo lanes a n q → IsTo after a n q
    to_same a n q is = here_or_apart a lane
        (λ e. let here : IsAt lanes lane is.0 = subst (λ k. IsAt lanes k is.0) e is.1 in
        let one : is.0 ≡ l = at_one lanes lane is.0 l here at in
        (l', subst (λ k. IsAt after k l') (sym e) new_here, subst (λ xs. IsAt xs.items n q) (sym same) (subst (λ (x : Lane T W A). IsAt x.replies.items n q) one is.2)))
        (λ ne. (is.0, at_set_stays lanes lane a l' is.0 ne is.1, is.2))

    pub to_was : (a n : ℕ) (q : Reply A) → IsTo after a n q → IsTo lanes a n q
    to_was a n q is = here_or_apart a lane
        (λ e. let here : IsAt after lane is.0 = subst (λ k. IsAt after k is.0) e is.1 in
        (l, subst (λ k. IsAt lanes k l) (sym e) at, subst (λ xs. IsAt xs.items n q) same (subst (λ (x : Lane T W A). IsAt x.replies.items n q) (is_new is.0 here) is.2)))
        (λ ne. (is.0, at_set_back lanes lane a l' is.0 ne is.1, is.2))

    pub count_same : count_of after ≡ count_of lanes
    count_same = omega (arith, count_set lanes lane l l' at, ap (λ x. length x.items) same)

    pub numbered_same : Numbered lanes → Numbered after
    numbered_same num = record {
      below = λ a n q to. subst (λ k. q.order < k) (sym count_same) (num.below a n q (to_was a n q to));
      each = λ k lt. (let x = num.each k (subst (λ m. k < m) count_same lt) in (x.0, x.1, x.2, to_same x.0 x.1 x.2 x.3, x.4));
      once = λ a n b m q r to too same_order. num.once a n b m q r (to_was a n q to) (to_was b m r too) same_order;
    }

  -- with one more
  module _ (r : Reply A) (grows : l'.replies.items ≡ l.replies.items ++ r ∷ []) where
    pub to_stays : (a n : ℕ) (q : Reply A) → IsTo lanes a n q → IsTo after a n q
    to_stays = to_stays_by (r ∷ []) grows

    pub to_new : IsTo after lane (length l.replies.items) r
    to_new = (l', new_here, subst (λ xs. IsAt xs (length l.replies.items) r) (sym grows) (at_end l.replies.items r))

    pub to_split : (a n : ℕ) (q : Reply A) → IsTo after a n q → IsTo lanes a n q ⊎ ((a ≡ lane) × (n ≡ length l.replies.items) × (q ≡ r))
    to_split a n q is = here_or_apart a lane
        (λ e. let here : IsAt after lane is.0 = subst (λ k. IsAt after k is.0) e is.1 in
        let there : IsAt (l.replies.items ++ r ∷ []) n q = subst (λ xs. IsAt xs n q) grows (subst (λ (x : Lane T W A). IsAt x.replies.items n q) (is_new is.0 here) is.2) in
        ⊎_elim
        (λ before. inl (l, subst (λ k. IsAt lanes k l) (sym e) at, before))
        (λ last. inr (e, last.0, last.1))
        (at_split l.replies.items r q n there))
        (λ ne. inl (is.0, at_set_back lanes lane a l' is.0 ne is.1, is.2))

    pub count_more : count_of after ≡ count_of lanes + 1
    count_more = omega (arith, count_set lanes lane l l' at, ap length grows, length-append l.replies.items (r ∷ []))

    pub numbered_more : r.order ≡ count_of lanes → Numbered lanes → Numbered after
    numbered_more order num = record {
      below = λ a n q to. ⊎_elim
          (λ before. omega (arith, num.below a n q before, count_more))
          (λ new. omega (arith, ap (λ (x : Reply A). x.order) new.2, order, count_more))
          (to_split a n q to);
      each = λ k lt. ⊎_elim
          (λ below. (let x = num.each k below in (x.0, x.1, x.2, to_stays x.0 x.1 x.2 x.3, x.4)))
          (λ last. (lane, length l.replies.items, r, to_new, order ∙ sym last))
          (below_or_at k (count_of lanes) (omega (arith, lt, count_more)));
      once = λ a n b m q w to too same. ⊎_elim
          (λ before. ⊎_elim
          (λ old. num.once a n b m q w before old same)
          (λ new. absurd (omega (arith, num.below a n q before, ap (λ (x : Reply A). x.order) new.2, order, same)))
          (to_split b m w too))
          (λ new. ⊎_elim
          (λ old. absurd (omega (arith, num.below b m w old, ap (λ (x : Reply A). x.order) new.2, order, same)))
          (λ both. (new.0 ∙ sym both.0, new.1 ∙ sym both.1))
          (to_split b m w too))
          (to_split a n q to);
    }
