-- A commit that was found was looked into, and its parent was marked.
use Rattle.std.proofs.Common.{◌≡◌, ◌⊎◌, inl, inr, ⊎_elim, ℕ, ◌<◌, ◌≤◌, ◌+◌, Bool, true, List, [], ◌∷◌, ◌++◌, length, get_or, length-append, Option, Some, None, refl, sym, ◌∙◌, ap, subst, arith}
use Rattle.std.specs.Prelude.{slice_set, Contains}
use Rattle.std.proofs.lemmas.List.{get_or_append_left, get_or_default}
use Rattle.std.proofs.lemmas.List.Elements.{Contains-append_left, Contains-append_cases}
use Rattle.std.proofs.Math.Seq.{get_or-append_seam}
use Rattle.ost_types.specs.declared.object.Kind.TheVariants as kind
use Rattle.ost_types.specs.declared.object.ObjName.{ObjName}
use Rattle.repo_model.specs.Trees.{name_of}
use Rattle.prune_mark.specs.declared.links.Near.{Near}
use Rattle.prune_mark.specs.Flags.{IsMarked, IsNew, IsUpIfThere, MarksParent, count_down}
use Rattle.prune_mark.specs.Marking.{InLine, IsAfter, near_at}
use Rattle.prune_mark.proofs.Flagged.{apart, set_fewer, set_new, set_stays, set_up}

-- what is known once the commit at the next place was looked into
pub record Follows (names : List ObjName) (parent : Option (List ℕ)) (near : Near) (depth next : ℕ) (flags : List Bool) (found : List Near) (flags' : List Bool) (found' : List Near) : Type 0 where
  pub stays : (o : ObjName) → IsMarked names flags o → IsMarked names flags' o
  pub new : (o : ObjName) → IsMarked names flags' o → IsMarked names flags o ⊎ ((p : List ℕ) × (parent ≡ Some p) × (near.distance < depth) × (o ≡ name_of kind.Commit p))
  pub all : (p : List ℕ) → parent ≡ Some p → near.distance < depth → IsUpIfThere names flags' (name_of kind.Commit p)
  pub found_stays : (n : Near) → Contains found n → Contains found' n
  pub found_new : (n : Near) → Contains found' n → Contains found n
      ⊎ ((n.distance ≡ near.distance + 1) × (near.distance < depth) × (parent ≡ Some n.commit) × IsMarked names flags' (name_of kind.Commit n.commit) × IsAfter found' (next + 1) n)
  pub found_marked : (c : List ℕ) → IsMarked names flags' (name_of kind.Commit c) → IsMarked names flags (name_of kind.Commit c) ⊎ IsAfter found' (next + 1) (near_at (near.distance + 1) c)
  pub after : (n : Near) → IsAfter found next n → (n ≡ near) ⊎ IsAfter found' (next + 1) n
  pub line : InLine found' (next + 1)
  pub longer : length found ≤ length found'
  pub fewer : count_down flags' + length found' ≤ count_down flags + length found

module _ (found : List Near) (next : ℕ) (near : Near) (less : next < length found) (here : get_or found next near ≡ near) (line : InLine found next) where
  here_is : (d : Near) → get_or found next d ≡ near
  here_is d = get_or_default found next d near less ∙ here

  order : (i : ℕ) → next ≤ i → (i ≡ next) ⊎ (next + 1 ≤ i)
  order i le = ⊎_elim (λ e. inl e) (λ n. inr (above i le n)) (apart i next)
    where
      above : (i : ℕ) → next ≤ i → (i ≡ next → ⊥) → next + 1 ≤ i
      above i le n = elim (side i next) [
        | inl low ↦ omega (arith, low)
        | inr high ↦ absurd (n (omega (arith, le, high)))
      ]
        where
          side : (i at : ℕ) → (at + 1 ≤ i) ⊎ (i ≤ at)
          side i at = grind arith

  after_same : (n : Near) → IsAfter found next n → (n ≡ near) ⊎ IsAfter found (next + 1) n
  after_same n a = ⊎_elim
      (λ e. inl (sym a.3 ∙ ap (λ i. get_or found i n) e ∙ here_is n))
      (λ le. inr (a.0, le, a.2, a.3))
      (order a.0 a.1)

  line_same : InLine found (next + 1)
  line_same = record {
    rises = line.rises;
    near = λ j d more inside. let a = line.near j d less inside in let b = line.rises next (next + 1) d (omega arith) more in omega (arith, a, b);
  }

  module _ (names : List ObjName) (flags : List Bool) (depth : ℕ) where
    follows_same : (parent : Option (List ℕ)) → ((p : List ℕ) → parent ≡ Some p → near.distance < depth → IsUpIfThere names flags (name_of kind.Commit p)) → Follows names parent near depth next flags found flags found
    follows_same parent up = record {
      stays = λ o m. m;
      new = λ o m. inl m;
      all = up;
      found_stays = λ n h. h;
      found_new = λ n h. inl h;
      found_marked = λ c m. inl m;
      after = after_same;
      line = line_same;
      longer = omega arith;
      fewer = omega arith;
    }

    module _ (p : List ℕ) (nearer : near.distance < depth) (long : length flags ≡ length names) (at : ℕ) where
      abbrev one : Near
      one = near_at (near.distance + 1) p

      last_at : (d : Near) → get_or (found ++ one ∷ []) (length found) d ≡ one
      last_at d = get_or-append_seam found one [] d

      long_more : length (found ++ one ∷ []) ≡ length found + 1
      long_more = length-append found (one ∷ [])

      front_at : (i : ℕ) (d : Near) → i < length found → get_or (found ++ one ∷ []) i d ≡ get_or found i d
      front_at i d inside = get_or_append_left found (one ∷ []) d i inside

      one_after : IsAfter (found ++ one ∷ []) (next + 1) one
      one_after = (length found, omega (arith, less), omega (arith, long_more), last_at one)

      cases : (j : ℕ) → j < length (found ++ one ∷ []) → (j < length found) ⊎ (j ≡ length found)
      cases j inside = by j (length found) (omega (arith, inside, long_more))
        where
          by : (j n : ℕ) → j < n + 1 → (j < n) ⊎ (j ≡ n)
          by j n h = grind (arith, h)

      far : (j : ℕ) (d : Near) → j < length (found ++ one ∷ []) → (get_or (found ++ one ∷ []) j d).distance ≤ near.distance + 1
      far j d inside = ⊎_elim
          (λ l. let a = line.near j d less l in let b = ap (λ (n : Near). n.distance) (front_at j d l) in let h = ap (λ (n : Near). n.distance) (here_is d) in omega (arith, a, b, h))
          (λ e. let b : (get_or (found ++ one ∷ []) j d).distance ≡ near.distance + 1 = ap (λ k. (get_or (found ++ one ∷ []) k d).distance) e ∙ ap (λ (n : Near). n.distance) (last_at d) in omega (arith, b))
          (cases j inside)

      line_more : InLine (found ++ one ∷ []) (next + 1)
      line_more = record {
        rises = λ i j d le inside. ⊎_elim
            (λ l. let a = line.rises i j d le l in let b = ap (λ (n : Near). n.distance) (front_at j d l) in let h = ap (λ (n : Near). n.distance) (front_at i d (omega (arith, le, l))) in omega (arith, a, b, h))
            (λ e.
            let b : (get_or (found ++ one ∷ []) j d).distance ≡ near.distance + 1 = ap (λ k. (get_or (found ++ one ∷ []) k d).distance) e ∙ ap (λ (n : Near). n.distance) (last_at d) in
            let a = far i d (omega (arith, le, inside)) in
            omega (arith, a, b))
            (cases j inside);
        near = λ j d more inside.
            let a = far j d inside in
            let b : near.distance ≤ (get_or (found ++ one ∷ []) (next + 1) d).distance =
            ⊎_elim
            (λ l. let r = line.rises next (next + 1) d (omega arith) l in let f = ap (λ (n : Near). n.distance) (front_at (next + 1) d l) in let h = ap (λ (n : Near). n.distance) (here_is d) in omega (arith, r, f, h))
            (λ e. let f : (get_or (found ++ one ∷ []) (next + 1) d).distance ≡ near.distance + 1 = ap (λ k. (get_or (found ++ one ∷ []) k d).distance) e ∙ ap (λ (n : Near). n.distance) (last_at d) in omega (arith, f))
            (cases (next + 1) more) in
            omega (arith, a, b);
      }

      one_in : (x y : Near) → Contains (y ∷ []) x → x ≡ y
      one_in x y (i, inside, is) = sym is ∙ ap (λ k. get_or (y ∷ []) k x) (first i inside)
        where
          first : (i : ℕ) → i < 1 → i ≡ 0
          first i inside = omega (arith, inside)

    module _ (p : List ℕ) (nearer : near.distance < depth) (long : length flags ≡ length names) (flags' : List Bool) (found' : List Near) (n : IsNew names (near_at (near.distance + 1) p) flags found flags' found') where
      follows_set : Follows names (Some p) near depth next flags found (slice_set flags n.at true) (found ++ near_at (near.distance + 1) p ∷ [])
      follows_set = record {
        stays = set_stays names flags (name_of kind.Commit p) n.at long n.was;
        new = λ o m. ⊎_elim (λ old. inl old) (λ e. inr (p, refl, nearer, e)) (set_new names flags (name_of kind.Commit p) n.at long n.was o m);
        all = λ q is nearer_ sorted has. subst (λ (x : List ℕ). IsMarked names (slice_set flags n.at true) (name_of kind.Commit x)) (some_is p q is) (set_up names flags (name_of kind.Commit p) n.at long n.was);
        found_stays = λ x h. Contains-append_left found (near_at (near.distance + 1) p ∷ []) x h;
        found_new = λ x h. ⊎_elim
            (λ old. inl old)
            (λ last. let e = one_in p nearer long n.at x (near_at (near.distance + 1) p) last in inr (
              ap (λ (y : Near). y.distance) e,
              nearer,
              ap Some (sym (ap (λ (y : Near). y.commit) e)),
              subst (λ (y : List ℕ). IsMarked names (slice_set flags n.at true) (name_of kind.Commit y)) (sym (ap (λ (y : Near). y.commit) e)) (set_up names flags (name_of kind.Commit p) n.at long n.was),
              subst (IsAfter (found ++ near_at (near.distance + 1) p ∷ []) (next + 1)) (sym e) (one_after p nearer long n.at),
            ))
            (Contains-append_cases found (near_at (near.distance + 1) p ∷ []) x h);
        found_marked = λ c m. ⊎_elim
            (λ old. inl old)
            (λ e. inr (subst (λ (y : List ℕ). IsAfter (found ++ near_at (near.distance + 1) p ∷ []) (next + 1) (near_at (near.distance + 1) y)) (sym (ap (λ (y : ObjName). y.csum) e)) (one_after p nearer long n.at)))
            (set_new names flags (name_of kind.Commit p) n.at long n.was (name_of kind.Commit c) m);
        after = λ x a. ⊎_elim
            (λ e. inl e)
            (λ b. inr (b.0, b.1, omega (arith, b.2, long_more p nearer long n.at), front_at p nearer long n.at b.0 x b.2 ∙ b.3))
            (after_same x a);
        line = line_more p nearer long n.at;
        longer = omega (arith, long_more p nearer long n.at);
        fewer = let f = set_fewer names flags (name_of kind.Commit p) n.at long n.was in omega (arith, f, long_more p nearer long n.at);
      }
        where
          some_is : (p q : List ℕ) → Some p ≡ Some q → p ≡ q
          some_is p q e = cc

    pub follows : (parent : Option (List ℕ)) (flags' : List Bool) (found' : List Near) → length flags ≡ length names → MarksParent names parent near.distance depth flags found flags' found' → Follows names parent near depth next flags found flags' found'
    follows None flags' found' long (e, f) = subst (λ g. Follows names None near depth next flags found g found') (sym e) (subst (λ g. Follows names None near depth next flags found flags g) (sym f) (follows_same None (λ p is. let n : None ≡ Some p = is in cc)))
    follows (Some p) flags' found' long (inr (far, e, f)) = subst (λ g. Follows names (Some p) near depth next flags found g found') (sym e) (subst (λ g. Follows names (Some p) near depth next flags found flags g) (sym f) (follows_same (Some p) (λ q is nearer. absurd (omega (arith, far, nearer)))))
    follows (Some p) flags' found' long (inl (nearer, inr o)) = subst (λ g. Follows names (Some p) near depth next flags found g found') (sym o.flags_are) (subst (λ g. Follows names (Some p) near depth next flags found flags g) (sym o.found_are)
        (follows_same (Some p) (λ q is nearer_. let e : p ≡ q = cc in subst (λ (x : List ℕ). IsUpIfThere names flags (name_of kind.Commit x)) e o.up)))
    follows (Some p) flags' found' long (inl (nearer, inl n)) = subst (λ g. Follows names (Some p) near depth next flags found g found') (sym n.flags_are) (subst (λ g. Follows names (Some p) near depth next flags found (slice_set flags n.at true) g) (sym n.found_are) (follows_set p nearer long flags' found' n))

pub parents_fewer : (names : List ObjName) (parent : Option (List ℕ)) (near : Near) (depth : ℕ) (flags : List Bool) (found : List Near) (flags' : List Bool) (found' : List Near) → length flags ≡ length names → MarksParent names parent near.distance depth flags found flags' found'
    → (length found ≤ length found') × (count_down flags' + length found' ≤ count_down flags + length found)
parents_fewer names None near depth flags found flags' found' long (e, f) = let a = ap length f in let b = ap count_down e in (omega (arith, a), omega (arith, a, b))
parents_fewer names (Some p) near depth flags found flags' found' long (inr (far, e, f)) = let a = ap length f in let b = ap count_down e in (omega (arith, a), omega (arith, a, b))
parents_fewer names (Some p) near depth flags found flags' found' long (inl (nearer, inr o)) = let a = ap length o.found_are in let b = ap count_down o.flags_are in (omega (arith, a), omega (arith, a, b))
parents_fewer names (Some p) near depth flags found flags' found' long (inl (nearer, inl n)) =
    let a = ap length n.found_are ∙ length-append found (near_at (near.distance + 1) p ∷ []) in
    let b = ap count_down n.flags_are in
    let s = set_fewer names flags (name_of kind.Commit p) n.at long n.was in
    (omega (arith, a), omega (arith, a, b, s))
