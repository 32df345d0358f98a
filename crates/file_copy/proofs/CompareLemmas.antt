-- What each step of a comparison tells.
use Rattle.std.proofs.Common.{◌≡◌, ◌≢◌, inl, inr, ℕ, ◌≤◌, ◌<◌, ◌+◌, ◌-◌, arith, Bool, true, false, ltb-false, refl, sym, ◌∙◌, ap, subst, List, [], ◌++◌, length, take, Option, Some, None, Ok, if◌then◌else◌}
use Rattle.std.specs.Prelude.{◌==◌, nat_lt}
use Rattle.std.proofs.Math.Seq.{take-add}
use Rattle.std.proofs.lemmas.Bool.{eqb-true, eq-eqb}
use Rattle.std.proofs.lemmas.List.{nil_from_length, take_all}
use Rattle.fs_trait.specs.declared.task.StepResult.{StepResult}
use Rattle.fs_trait.specs.View.{Disk}
use Rattle.fs_trait.specs.Image.{reads}
use Rattle.fs_trait.specs.Effect.{part}
use Rattle.file_copy.specs.declared.comparing.ComparePhase.{ComparePhase}
use Rattle.file_copy.specs.declared.comparing.ComparePhase.TheVariants.{Look, Compare, Ended}
use Rattle.file_copy.specs.Pieces.{piece_end, size_of}
use Rattle.file_copy.specs.Comparing.{Agree, Answers, AreSame, Comparing, IsCompared, IsStepped, IsWhole, Needs, OnDone, common, goes_in, looked, needs_in, reached, turn_of}
use Rattle.file_copy.proofs.PieceLemmas.{length_part}

module _ (d : Disk) (t : Comparing) where
  other_answer : (AreSame d t.one t.other → ⊥) → Answers d t false
  other_answer differ = ((λ is. let n : false ≡ true = is in cc), (λ same. absurd (differ same)))

  same_answer : AreSame d t.one t.other → Answers d t true
  same_answer same = ((λ is. same), (λ s. refl))

  -- ---- the look

  both : (o p : Option (List ℕ)) → reads d t.one ≡ o → reads d t.other ≡ p → needs_in (looked (common (size_of o) (size_of p))) t d
  both None p one other = other_answer (λ same. let n : None ≡ Some same.0 = sym one ∙ same.1 in cc)
  both (Some a) None one other = other_answer (λ same. let n : None ≡ Some same.0 = sym other ∙ same.2 in cc)
  both (Some a) (Some b) one other = by (length a == length b) refl
    where
      by : (q : Bool) → (length a == length b) ≡ q → needs_in (looked (if q then Some (length a) else None)) t d
      by false apart = other_answer (λ same.
          let x : Some a ≡ Some same.0 = sym one ∙ same.1 in
          let y : Some b ≡ Some same.0 = sym other ∙ same.2 in
          let e : a ≡ b = cc in
          let n : true ≡ false = sym (eq-eqb (length a) (length a) refl) ∙ ap (λ l. length a == length l) e ∙ apart in
          cc)
      by true equal = some (length a == 0) refl
        where
          some : (q : Bool) → (length a == 0) ≡ q → needs_in (if q then Ended true else Compare (length a) 0) t d
          some true none =
              let x : length a ≡ 0 = eqb-true (length a) 0 none in
              let y : length b ≡ 0 = sym (eqb-true (length a) (length b) equal) ∙ x in
              same_answer ([], one ∙ ap Some (nil_from_length a x), other ∙ ap Some (nil_from_length b y))
          some false more = record {
            first = a;
            second = b;
            of_one = one;
            of_other = other;
            as_long = refl;
            no_longer = sym (eqb-true (length a) (length b) equal);
            front = refl;
          }

  pub look_tells : (o : Option ℕ) → o ≡ common (size_of (reads d t.one)) (size_of (reads d t.other)) → needs_in (looked o) t d
  look_tells o is = subst (λ x. needs_in (looked x) t d) (sym is) (both (reads d t.one) (reads d t.other) refl refl)

  -- ---- a piece

  module _ (size at end : ℕ) (agree : Agree d t.one t.other size at) (le : at ≤ end) (within : end ≤ size) where
    on : (xs : List ℕ) → take at xs ++ part at (end - at) xs ≡ take end xs
    on xs = let e : at + (end - at) ≡ end = omega (arith, le) in sym (take-add at (end - at) xs) ∙ ap (λ n. take n xs) e

    pub pieces_same : part at (end - at) agree.first ≡ part at (end - at) agree.second → needs_in (reached size end) t d
    pieces_same same = by (nat_lt end size) refl
      where
        front : take end agree.first ≡ take end agree.second
        front = sym (on agree.first) ∙ ap (λ l. l ++ part at (end - at) agree.first) agree.front ∙ ap (λ l. take at agree.second ++ l) same ∙ on agree.second

        whole : (xs : List ℕ) → length xs ≡ size → size ≤ end → take end xs ≡ xs
        whole xs long over = take_all end xs (omega (arith, long, over))

        by : (q : Bool) → nat_lt end size ≡ q → needs_in (if q then Compare size end else Ended true) t d
        by true more = record {
          first = agree.first;
          second = agree.second;
          of_one = agree.of_one;
          of_other = agree.of_other;
          as_long = agree.as_long;
          no_longer = agree.no_longer;
          front = front;
        }
        by false last =
            let over : size ≤ end = ltb-false end size last in
            let e : agree.first ≡ agree.second = sym (whole agree.first agree.as_long over) ∙ front ∙ whole agree.second agree.no_longer over in
            same_answer (agree.first, agree.of_one, agree.of_other ∙ ap Some (sym e))

    pub pieces_differ : part at (end - at) agree.first ≢ part at (end - at) agree.second → needs_in (Ended false) t d
    pieces_differ apart = other_answer (λ same.
        let x : Some agree.first ≡ Some same.0 = sym agree.of_one ∙ same.1 in
        let y : Some agree.second ≡ Some same.0 = sym agree.of_other ∙ same.2 in
        let e : agree.first ≡ agree.second = cc in
        apart (ap (part at (end - at)) e))

  -- what the pieces that were read come to
  module _ (size at end : ℕ) (agree : Agree d t.one t.other size at) (grows : at < end) (within : end ≤ size) (first second : List ℕ)
      (one : first ≡ part at (end - at) agree.first) (other : second ≡ part at (end - at) agree.second) where
    pub counted : at + length first ≡ end
    counted = let long = length_part at end agree.first (omega (arith, grows)) (omega (arith, within, agree.as_long)) in omega (arith, ap length one, long, grows)

    pub piece_tells : (ph : ComparePhase) → IsCompared size at first second ph → needs_in ph t d
    piece_tells ph (inl same) =
        subst (λ x. needs_in x t d) (sym (same.1 ∙ ap (reached size) counted)) (pieces_same size at end agree (omega (arith, grows)) within (sym one ∙ same.0 ∙ other))
    piece_tells ph (inr apart) =
        subst (λ x. needs_in x t d) (sym apart.1) (pieces_differ size at end agree (omega (arith, grows)) within (λ e. apart.0 (one ∙ e ∙ sym other)))

    pub piece_whole : (ph : ComparePhase) → IsCompared size at first second ph → end ≡ piece_end size at → IsWhole (Compare size at) ph
    piece_whole ph (inl same) is = subst (IsWhole (Compare size at)) (sym (same.1 ∙ ap (reached size) counted)) (by (nat_lt end size))
      where
        by : (b : Bool) → IsWhole (Compare size at) (if b then Compare size end else Ended true)
        by true = is
        by false = tt
    piece_whole ph (inr apart) is = subst (IsWhole (Compare size at)) (sym apart.1) tt

-- which step it was
pub piece_goes : (size at end : ℕ) (first second : List ℕ) (ph : ComparePhase) → IsCompared size at first second ph → 0 < length first → at + length first ≤ end → end ≡ piece_end size at → goes_in (Compare size at) ph
piece_goes size at end first second ph (inl same) some within is = inr (at + length first, omega (arith, some), omega (arith, within, is), same.1)
piece_goes size at end first second ph (inr apart) some within is = inl apart.1

-- ---- the task, and the turn

knows : (t : Comparing) (d : Disk) (ph : ComparePhase) → needs_in ph t d → needs_in ph (record t { phase = ph }) d
knows t d Look needs = needs
knows t d (Compare size at) needs = needs
knows t d (Ended same) needs = needs

pub known_as : (t new : Comparing) (d : Disk) (ph : ComparePhase) → new ≡ record t { phase = ph } → needs_in ph t d → Needs new d
known_as t new d ph is needs = subst (λ x. Needs x d) (sym is) (knows t d ph needs)

tells_in : (t : Comparing) (d : Disk) (ph : ComparePhase) → needs_in ph t d → OnDone (Ok (turn_of ph)) (Answers d t)
tells_in t d Look needs = tt
tells_in t d (Compare size at) needs = tt
tells_in t d (Ended same) needs = needs

pub tells : (t : Comparing) (d : Disk) (ph : ComparePhase) (turn : StepResult Bool) → turn ≡ turn_of ph → needs_in ph t d → OnDone (Ok turn) (Answers d t)
tells t d ph turn is needs = subst (λ x. OnDone (Ok x) (Answers d t)) (sym is) (tells_in t d ph needs)

pub went : (old new : Comparing) (ph was : ComparePhase) (turn : StepResult Bool) → old.phase ≡ was → new ≡ record old { phase = ph } → turn ≡ turn_of ph → goes_in was ph → IsStepped old (Ok turn) new
went old new ph was turn at is turns goes =
    let e : ph ≡ new.phase = sym (ap (λ (x : Comparing). x.phase) is) in
    (subst (λ x. goes_in x new.phase) (sym at) (subst (goes_in was) e goes), is ∙ ap (λ x. record old { phase = x }) e, turns ∙ ap turn_of e)

pub whole_as : (old new : Comparing) (ph was : ComparePhase) → old.phase ≡ was → new ≡ record old { phase = ph } → IsWhole was ph → IsWhole old.phase new.phase
whole_as old new ph was at is whole = subst (λ x. IsWhole x new.phase) (sym at) (subst (IsWhole was) (sym (ap (λ (x : Comparing). x.phase) is)) whole)

pub look_as : (t u : Comparing) → t ≡ u → (d : Disk) (o : Option ℕ) → o ≡ common (size_of (reads d t.one)) (size_of (reads d t.other)) → (ph : ComparePhase) → ph ≡ looked o → needs_in ph u d
look_as t u same d o is ph next = subst (λ x. needs_in ph x d) same (subst (λ x. needs_in x t d) (sym next) (look_tells d t o is))
