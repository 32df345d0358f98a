-- What is planned, by what was marked.
use Rattle.std.proofs.Common.{◌≡◌, ◌≢◌, ◌⊎◌, inl, inr, ⊎_elim, ℕ, ◌<◌, ◌≤◌, ◌+◌, ◌-◌, Bool, List, length, get_or, length-append, refl, sym, ◌∙◌, ap, arith}
use Rattle.std.specs.Prelude.{Contains}
use Rattle.std.proofs.lemmas.List.{get_or_append_left, get_or-append_right}
use Rattle.std.proofs.lemmas.List.Elements.{Contains-get_or}
use Rattle.ost_types.specs.declared.object.Kind.TheVariants as kind
use Rattle.ost_types.specs.declared.object.ObjName.{ObjName}
use Rattle.ost_types.specs.Path.{Path}
use Rattle.fs_trait.specs.View.{Disk}
use Rattle.repo_model.specs.Objects.{Stores}
use Rattle.repo_model.specs.Trees.{name_of}
use Rattle.reach.proofs.Reaching.{refers_in}
use Rattle.store_check.specs.Listing.{AreAll}
use Rattle.prune_mark.specs.Doomed.{AreUnmarked}
use Rattle.prune_mark.specs.Flags.{AreAscending, IsMarked}
use Rattle.prune_mark.specs.Marking.{MarksAll, State}
use Rattle.prune_mark.proofs.Downs.{doomed_exact, marked_or_listed}
use Rattle.prune_mark.proofs.Search.{one_place}
use Rattle.prune_mark.proofs.Steps.{in_store}
use Rattle.prune_sweep.specs.declared.part.Part.TheVariants as part
use Rattle.prune_sweep.specs.Lost.{AreLost, IsLost}
use Rattle.prune_sweep.specs.Planned.{IsPlanned, Stays}
use Rattle.prune_sweep.specs.Sweeping.{AreFront}

-- ---- the commits come first, each name once

module _ (names : List ObjName) (flags : List Bool) (removed : List ObjName) (are : AreUnmarked names flags removed) where
  front_is : (i : ℕ) (o : ObjName) → i < length are.commits → get_or removed i o ≡ get_or are.commits i o
  front_is i o less = ap (λ l. get_or l i o) are.both ∙ get_or_append_left are.commits are.others o i less

  back_is : (i : ℕ) (o : ObjName) → length are.commits ≤ i → get_or removed i o ≡ get_or are.others (i - length are.commits) o
  back_is i o le = ap (λ l. get_or l i o) are.both ∙ get_or-append_right are.commits are.others (length are.commits) i o refl le

  long : length removed ≡ length are.commits + length are.others
  long = ap length are.both ∙ length-append are.commits are.others

  in_back : (i : ℕ) → length are.commits ≤ i → i < length removed → i - length are.commits < length are.others
  in_back i le inside = let l = long in omega (arith, le, inside, l)

  commit_at : (i : ℕ) (o : ObjName) → i < length are.commits → (get_or removed i o).kind ≡ kind.Commit
  commit_at i o less = ap (λ (x : ObjName). x.kind) (front_is i o less) ∙ (are.first.each (get_or are.commits i o) (Contains-get_or are.commits i o less)).3

  other_at : (i : ℕ) (o : ObjName) → length are.commits ≤ i → i < length removed → (get_or removed i o).kind ≢ kind.Commit
  other_at i o le inside k =
      (are.rest.each (get_or are.others (i - length are.commits) o) (Contains-get_or are.others (i - length are.commits) o (in_back i le inside))).3
      (ap (λ (x : ObjName). x.kind) (sym (back_is i o le)) ∙ k)

  side : (i : ℕ) → (i < length are.commits) ⊎ (length are.commits ≤ i)
  side i = grind arith

  apart : (i j : ℕ) (o : ObjName) → i < length are.commits → length are.commits ≤ j → j < length removed → get_or removed i o ≡ o → get_or removed j o ≡ o → ⊥
  apart i j o less le inside is_i is_j =
      other_at j o le inside (ap (λ (x : ObjName). x.kind) is_j ∙ ap (λ (x : ObjName). x.kind) (sym is_i) ∙ commit_at i o less)

  pub once : AreAscending names → (i j : ℕ) (o : ObjName) → i < length removed → j < length removed → get_or removed i o ≡ o → get_or removed j o ≡ o → i ≡ j
  once sorted i j o in_i in_j is_i is_j = ⊎_elim
      (λ less. ⊎_elim
      (λ less'. one_place are.commits o i j (are.first.ascending sorted) less less' (sym (front_is i o less) ∙ is_i) (sym (front_is j o less') ∙ is_j))
      (λ le. absurd (apart i j o less le in_j is_i is_j))
      (side j))
      (λ le. ⊎_elim
      (λ less. absurd (apart j i o less le in_i is_j is_i))
      (λ le'.
      let e = one_place are.others o (i - length are.commits) (j - length are.commits) (are.rest.ascending sorted) (in_back i le in_i) (in_back j le' in_j) (sym (back_is i o le) ∙ is_i) (sym (back_is j o le') ∙ is_j) in
      omega (arith, e, le, le'))
      (side j))
      (side i)

  pub others_behind : (commits : ℕ) → AreFront removed commits → (i : ℕ) (o : ObjName) → commits < i → i < length removed → (get_or removed i o).kind ≢ kind.Commit
  others_behind commits front i o less inside = other_at i o (⊎_elim
      (λ short. absurd (let l = long in front.others o (omega (arith, short, l)) (commit_at commits o short)))
      (λ le. omega (arith, le, less))
      (side commits)) inside

-- ---- and what goes is what isn't marked

module _ (d : Disk) (from : List ObjName) (m : State) (names_are : AreAll d m.names) (all : MarksAll d from m) (removed : List ObjName) (are : AreUnmarked m.names m.flags removed) where
  listed : (o : ObjName) → Contains removed o → Contains m.names o × (IsMarked m.names m.flags o → ⊥)
  listed o h = (doomed_exact m.names m.flags removed are names_are.ascending o).0 h

  marked : (o : ObjName) → Contains m.names o → ¬ (Contains removed o) → IsMarked m.names m.flags o
  marked o among still = ⊎_elim (λ is. is) (λ goes. absurd (still goes)) (marked_or_listed m.names m.flags removed are o among)

  stays_marked : (commits : ℕ) (marks : List Path) (kept : ℕ) (o : ObjName) → Stays d (record { removed = removed; commits = commits; marks = marks; kept = kept; gone = 0; unmarked = 0; part = part.Begin }) o → IsMarked m.names m.flags o
  stays_marked commits marks kept o (there, still) = marked o (names_are.all o there) still

  marked_stays : (commits : ℕ) (marks : List Path) (kept : ℕ) (o : ObjName) → IsMarked m.names m.flags o → Stays d (record { removed = removed; commits = commits; marks = marks; kept = kept; gone = 0; unmarked = 0; part = part.Begin }) o
  marked_stays commits marks kept o is = (names_are.here o (is.0, is.1, is.2), λ goes. (listed o goes).1 is)

  module _ (pins : List ObjName) (marks : List Path) (lost : AreLost d (IsMarked m.names m.flags) pins marks) (commits : ℕ) (front : AreFront removed commits) (kept : ℕ) (count : kept ≡ length m.names - length removed) where
    pub planned : IsPlanned d from m.depth pins (record { removed = removed; commits = commits; marks = marks; kept = kept; gone = 0; unmarked = 0; part = part.Begin })
    planned = record {
      there = λ o goes. names_are.here o (listed o goes).0;
      only = λ o goes is reached. (listed o goes).1 ((all.exact o is).1 reached);
      all = λ o is. ⊎_elim (λ is_marked. inl ((all.exact o is).0 is_marked)) (λ goes. inr goes) (marked_or_listed m.names m.flags removed are o (in_store d m.names names_are o is));
      roots = λ o root goes. (let x = listed o goes in x.1 (all.begins o root x.0));
      closed = λ o next still refers goes. (let x = listed next goes in x.1 (all.onward o next (marked o (in_store d m.names names_are o (refers_in (Stores d) o next refers)) still) refers x.0));
      front = front;
      others = others_behind m.names m.flags removed are commits front;
      once = once m.names m.flags removed are names_are.ascending;
      names = m.names;
      names_are = names_are;
      count = count;
      lost = record {
        each = λ p h. (let x = lost.each p h in (x.0, to_stays x.0 x.1, x.2));
        all = λ commit is there. lost.all commit (from_stays commit is) there;
      };
    }
      where
        to_stays : (commit : List ℕ) → IsLost (IsMarked m.names m.flags) pins commit → IsLost (Stays d (record { removed = removed; commits = commits; marks = marks; kept = kept; gone = 0; unmarked = 0; part = part.Begin })) pins commit
        to_stays commit is = record { sum = is.sum; goes = λ stays. is.goes (stays_marked commits marks kept (name_of kind.Commit commit) stays); free = is.free }

        from_stays : (commit : List ℕ) → IsLost (Stays d (record { removed = removed; commits = commits; marks = marks; kept = kept; gone = 0; unmarked = 0; part = part.Begin })) pins commit → IsLost (IsMarked m.names m.flags) pins commit
        from_stays commit is = record { sum = is.sum; goes = λ stays. is.goes (marked_stays commits marks kept (name_of kind.Commit commit) stays); free = is.free }
